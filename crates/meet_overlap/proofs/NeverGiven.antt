-- If a call got an item that nobody may have given in time, no history explains the calls: a call that gives it and
-- answers otherwise waits in the line, and once it is met it can only answer that its item went.
use Rattle.std.proofs.Common.{◌≡◌, ◌≢◌, ℕ, suc, zero, ◌≤◌, ◌⊎◌, inl, inr, Option, Some, None, List, [], ◌∷◌, Contains, refl, sym, ap, ◌∙◌, subst, ⊎_elim, arith}
use Rattle.std.specs.Prelude.{slice_get, IfSome}
use Rattle.std.proofs.lemmas.Bool.{cases_lt}
use Rattle.std.proofs.lemmas.Bool.Decides.{eqb_tells}
use Rattle.meet_tickets.specs.declared.lines.Entry.{Entry}
use Rattle.meet_tickets.specs.declared.places.Kind.{Kind}
use Rattle.meet_tickets.specs.declared.places.Side.TheVariants.{Taker}
use Rattle.meet_tickets.specs.declared.records.Cause.TheVariants.{Expired, Interrupted}
use Rattle.meet_tickets.specs.declared.records.Record.{Record}
use Rattle.meet_tickets.specs.declared.records.Deed.{Deed}
use Rattle.meet_tickets.specs.declared.records.Deed.TheVariants.{GiveWaits, GiveMeets, GiveFails, GiveKept, TakeWaits, TakeMeets, TakeFails, EntryInterrupted, Done, Got, Withdrawn, Interrupt}
use Rattle.meet_tickets.specs.Meeting.{end_of}
use Rattle.meet_tickets.specs.ByLists.{State, Pair, empty, IsStep, after}
use Rattle.meet_tickets.proofs.Lists.Members.{Contains-partner, Contains-nil}
use Rattle.meet_overlap.specs.declared.calls.Answer.{Answer}
use Rattle.meet_overlap.specs.declared.calls.Answer.TheVariants.{Went, Got as GotItem, Nothing, Expired as TimeRanOut, Interrupted as WasInterrupted, Made}
use Rattle.meet_overlap.specs.declared.calls.Patience.TheVariants.{Now, Forever, Timed}
use Rattle.meet_overlap.specs.declared.calls.Call.{Call}
use Rattle.meet_overlap.specs.declared.calls.Returned.{Returned}
use Rattle.meet_overlap.specs.declared.calls.Stage.{Stage}
use Rattle.meet_overlap.specs.declared.calls.Stage.TheVariants.{Ahead, Open, Over}
use Rattle.meet_overlap.specs.declared.calls.Verb.{Verb}
use Rattle.meet_overlap.specs.declared.calls.Verb.TheVariants.{Keep, Give, Take, Interrupt as InterruptSeat}
use Rattle.meet_overlap.specs.Calls.{Begins, Ends, Tells, Moves, MayStop, told_by, stage_told, stage_after}
use Rattle.meet_overlap.specs.Explaining.{Event, Explains}
use Rattle.meet_overlap.specs.Marks.{Gives, HandsOver, IsTaking, MayGive}
use Rattle.meet_overlap.specs.Reasons.{IsUngiven}
use Rattle.meet_overlap.proofs.Giving.{open_goes_on}
use Rattle.meet_overlap.proofs.Courses.{Happens, IsCourse, later, after_event, happens, goes_on, whole_course, never_left, own_call, own_time, still, too_late, answers as answers_own}
use Rattle.meet_overlap.proofs.Effects.{NewItem, NewPair, NewCut, Leaves, Effect, effect, IsWell, well_stays, well_empty}
use Rattle.meet_overlap.proofs.Tables.{got_below}
use Rattle.meet_overlap.proofs.Ways.{put_same, put_other}

-- a call that hands an item of this mark over, and answers otherwise than that it went, waits by this ticket
pub record IsOpenGiver (calls : List Call) (mark : ℕ) (stages : ℕ → Stage) (t : ℕ) : Type 0 where
  pub number : ℕ
  pub call : Call
  pub known : slice_get calls number ≡ Some call
  pub returned : Returned
  pub ended : call.returned ≡ Some returned
  pub otherwise : returned.answer ≡ Went → ⊥
  pub hands : HandsOver call.verb mark
  pub stage : stages number ≡ Open t

-- such is each giver of it in the line
abbrev pub AreOpenGivers : (calls : List Call) → (mark : ℕ) → (stages : ℕ → Stage) → State → Type 0
AreOpenGivers calls mark stages s = (e : Entry ℕ) → Contains s.line e → e.item ≡ Some mark → IsOpenGiver calls mark stages e.ticket

-- where it ended with a deed that tells that the item went, it answers so
went_not : (c : Call) (r : Returned) (d : Deed) → c.returned ≡ Some r → (r.answer ≡ Went → ⊥) → told_by d ≡ Some Went → Tells c d → ⊥
went_not c r d ended otherwise told tells = by_end c.returned ended (by_told (told_by d) told tells)
  where
    by_told : (o : Option Answer) → o ≡ Some Went → IfSome o (λ a. IfSome c.returned (λ q. q.answer ≡ a)) → IfSome c.returned (λ q. q.answer ≡ Went)
    by_told None is tells = absurd (cc)
    by_told (Some a) is tells = let same : a ≡ Went = cc in subst (λ y. IfSome c.returned (λ q. q.answer ≡ y)) same tells

    by_end : (o : Option Returned) → o ≡ Some r → IfSome o (λ q. q.answer ≡ Went) → ⊥
    by_end None is went = absurd (cc)
    by_end (Some q) is went = let same : q ≡ r = cc in otherwise (ap (λ y. y.answer) (sym same) ∙ went)

-- who hands over ends by leaving the line, by a cut, or telling that its item went
ends_otherwise : (k : Kind) (s : State) (i t : ℕ) (c : Call) (verb : Verb) (d : Deed) (mark : ℕ) (r : Returned) → HandsOver verb mark → Ends verb d → IsStep k s i t d → Tells c d → c.returned ≡ Some r → (r.answer ≡ Went → ⊥) →
    (d ≡ Withdrawn Expired → ⊥) → (Contains s.cut t → ⊥) → ⊥
ends_otherwise k s i t c (Keep m) d mark r hands ends step tells ended otherwise expires cut = hands
ends_otherwise k s i t c (Take p) d mark r hands ends step tells ended otherwise expires cut = hands
ends_otherwise k s i t c (InterruptSeat j) d mark r hands ends step tells ended otherwise expires cut = hands
ends_otherwise k s i t c (Give p m) Done mark r hands ends step tells ended otherwise expires cut = went_not c r Done ended otherwise refl tells
ends_otherwise k s i t c (Give Timed m) (Withdrawn Expired) mark r hands ends step tells ended otherwise expires cut = expires refl
ends_otherwise k s i t c (Give p m) (Withdrawn Interrupted) mark r hands ends step tells ended otherwise expires cut = cut step.1
ends_otherwise k s i t c (Give p m) d mark r hands ends step tells ended otherwise expires cut = ends

-- such a giver was met: it is neither in the line nor cut
pub record IsJilted (calls : List Call) (mark : ℕ) (s : State) (stages : ℕ → Stage) : Type 0 where
  pub ticket : ℕ
  pub giver : IsOpenGiver calls mark stages ticket
  pub low : ticket ≤ s.last
  pub line : (e : Entry ℕ) → Contains s.line e → e.ticket ≡ ticket → ⊥
  pub cut : (x : ℕ) → Contains s.cut x → x ≡ ticket → ⊥

-- another's cut is of another ticket
cut_other : (k : Kind) (s : State) (i t u : ℕ) (d : Deed) (x : ℕ) → ((e : Entry ℕ) → Contains s.line e → e.ticket ≡ u → ⊥) → IsStep k s i t d → NewCut d t x → x ≡ u → ⊥
cut_other k s i (suc t) u (Interrupt j) x line step new same = line step.1.0 step.1.1 (step.1.2 ∙ sym new ∙ same)
cut_other k s i zero u (Interrupt j) x line step new same = new
cut_other k s i t u d x line step new same = new

open_still : (calls : List Call) (mark : ℕ) (stages : ℕ → Stage) (e : Event) (t : ℕ) (g : IsOpenGiver calls mark stages t) → e.call ≢ g.number → IsOpenGiver calls mark (later stages e) t
open_still calls mark stages e t g other = record {
  number = g.number;
  call = g.call;
  known = g.known;
  returned = g.returned;
  ended = g.ended;
  otherwise = g.otherwise;
  hands = g.hands;
  stage = put_other stages e.call (stage_after (stages e.call) e.entry) g.number (λ q. other (sym q)) ∙ g.stage;
}

-- the giver's own event
own_ending : (k : Kind) (calls : List Call) (mark : ℕ) (s : State) (time : ℕ) (stages : ℕ → Stage) (e : Event) (t : ℕ) (g : IsOpenGiver calls mark stages t) → e.call ≡ g.number → Happens k calls s time stages e →
    (e.entry.deed ≡ Withdrawn Expired → e.entry.ticket ≡ t → ⊥) → (Contains s.cut t → ⊥) → ⊥
own_ending k calls mark s time stages e t g at h expires cut =
    let known : slice_get calls e.call ≡ Some g.call = subst (λ n. slice_get calls n ≡ Some g.call) (sym at) g.known in
    let own : h.of.call ≡ g.call = let theirs = h.of.known in cc in
    let stage : stages e.call ≡ Open t = ap stages at ∙ g.stage in
    let moves : Moves g.call (Open t) e.entry = subst (λ c. Moves c (Open t) e.entry) own (subst (λ y. Moves h.of.call y e.entry) stage h.moves) in
    ends_otherwise k s e.entry.seat e.entry.ticket g.call g.call.verb e.entry.deed mark g.returned g.hands moves.1 h.step moves.2 g.ended g.otherwise
    (λ is. expires is moves.0) (λ there. cut (subst (Contains s.cut) moves.0 there))

jilted : (k : Kind) (calls : List Call) (mark : ℕ) (events : List Event) (s : State) (time : ℕ) (stages : ℕ → Stage) → IsJilted calls mark s stages → IsCourse k calls s time stages events → ⊥
jilted k calls mark [] s time stages j c = stop (stages j.giver.number) j.giver.stage (c.formed j.giver.number j.giver.call j.giver.known)
  where
    stop : (stage : Stage) → stage ≡ Open j.ticket → MayStop j.giver.call stage → ⊥
    stop Ahead is stops = absurd (cc)
    stop (Open t) is stops = let some = j.giver.ended in absurd (cc)
    stop Over is stops = absurd (cc)
jilted k calls mark (e ∷ events) s time stages j c =
    let h = happens k calls s time stages e events c in
    let f = effect k s e.entry.seat e.entry.ticket e.entry.deed h.step in
    ⊎_elim
    (λ q. own_ending k calls mark s time stages e j.ticket j.giver q.1 h
    (λ is at.
    let step : IsStep k s e.entry.seat e.entry.ticket (Withdrawn Expired) = subst (IsStep k s e.entry.seat e.entry.ticket) is h.step in
    j.line step.1.0 step.1.1 (step.1.2 ∙ at))
    (λ there. j.cut j.ticket there refl))
    (λ q. jilted k calls mark events (after_event s e) e.time (later stages e) (record {
      ticket = j.ticket;
      giver = open_still calls mark stages e j.ticket j.giver q.1;
      low = let low = j.low in let last = f.last in omega arith;
      line = λ y there same. ⊎_elim (λ o. j.line y o.0 same) (λ n. let low = j.low in let above = n.above in let at = n.ticket in absurd (omega arith)) (f.line y there);
      cut = λ y there same. ⊎_elim (λ o. j.cut y o same) (λ n. cut_other k s e.entry.seat e.entry.ticket j.ticket e.entry.deed y j.line h.step n same) (f.cut y there);
    }) (goes_on k calls s time stages e events c))
    (eqb_tells e.call j.giver.number)

-- a call answers that its item went, or never ended, or it answers otherwise
answers : (c : Call) → MayGive c ⊎ ((r : Returned) × (c.returned ≡ Some r) × (r.answer ≡ Went → ⊥))
answers c = by_end c.returned refl
  where
    by_answer : (r : Returned) (a : Answer) → c.returned ≡ Some r → r.answer ≡ a → MayGive c ⊎ ((q : Returned) × (c.returned ≡ Some q) × (q.answer ≡ Went → ⊥))
    by_answer r Went ended is = inl (subst (λ o. IfSome o (λ q. q.answer ≡ Went)) (sym ended) is)
    by_answer r (GotItem m) ended is = inr (r, ended, λ went. absurd (cc))
    by_answer r Nothing ended is = inr (r, ended, λ went. absurd (cc))
    by_answer r TimeRanOut ended is = inr (r, ended, λ went. absurd (cc))
    by_answer r WasInterrupted ended is = inr (r, ended, λ went. absurd (cc))
    by_answer r Made ended is = inr (r, ended, λ went. absurd (cc))

    by_end : (o : Option Returned) → c.returned ≡ o → MayGive c ⊎ ((q : Returned) × (c.returned ≡ Some q) × (q.answer ≡ Went → ⊥))
    by_end None is = inl (subst (λ o. IfSome o (λ q. q.answer ≡ Went)) (sym is) tt)
    by_end (Some r) is = by_answer r r.answer is refl

-- whether a deed takes an item of this mark from who waits or is kept
takes_or_not : (m : ℕ) (d : Deed) → ((v : ℕ) × (d ≡ TakeMeets m v)) ⊎ ((v : ℕ) → d ≡ TakeMeets m v → ⊥)
takes_or_not m (TakeMeets n v) = ⊎_elim (λ q. inl (v, ap (λ y. TakeMeets y v) q.1)) (λ q. inr (λ w is. q.1 (let same : n ≡ m = cc in same))) (eqb_tells n m)
takes_or_not m (GiveWaits n) = inr (λ v is. absurd (cc))
takes_or_not m (GiveMeets n u) = inr (λ v is. absurd (cc))
takes_or_not m (GiveFails n) = inr (λ v is. absurd (cc))
takes_or_not m (GiveKept n) = inr (λ v is. absurd (cc))
takes_or_not m TakeWaits = inr (λ v is. absurd (cc))
takes_or_not m TakeFails = inr (λ v is. absurd (cc))
takes_or_not m (EntryInterrupted side) = inr (λ v is. absurd (cc))
takes_or_not m Done = inr (λ v is. absurd (cc))
takes_or_not m (Got n u) = inr (λ v is. absurd (cc))
takes_or_not m (Withdrawn cause) = inr (λ v is. absurd (cc))
takes_or_not m (Interrupt j) = inr (λ v is. absurd (cc))

module _ (k : Kind) (calls : List Call) (u : IsUngiven calls) where
  abbrev IsTold : Deed → Type 0
  IsTold d = IfSome (told_by d) (λ a. a ≡ GotItem u.mark)

  is_told : (d : Deed) → Tells u.taken.call d → IsTold d
  is_told d tells = answers_own k calls u.taken (GotItem u.mark) u.got d tells

  own_begins : (verb : Verb) (d : Deed) → ((v : ℕ) → d ≡ TakeMeets u.mark v → ⊥) → IsTaking verb → Begins verb d → IsTold d → told_by d ≡ None
  own_begins (Keep m) d meets taking b told = absurd taking
  own_begins (Give p m) d meets taking b told = absurd taking
  own_begins (InterruptSeat j) d meets taking b told = absurd taking
  own_begins (Take p) (TakeMeets n v) meets taking b told = let same : n ≡ u.mark = cc in absurd (meets v (ap (λ y. TakeMeets y v) same))
  own_begins (Take Now) TakeFails meets taking b told = absurd (cc)
  own_begins (Take Forever) TakeWaits meets taking b told = refl
  own_begins (Take Timed) TakeWaits meets taking b told = refl
  own_begins (Take Forever) (EntryInterrupted Taker) meets taking b told = absurd (cc)
  own_begins (Take Timed) (EntryInterrupted Taker) meets taking b told = absurd (cc)
  own_begins (Take p) d meets taking b told = absurd b

  own_ends : (s : State) (i t : ℕ) (verb : Verb) (d : Deed) → ((p : Pair) → Contains s.pairs p → p.mark ≡ u.mark → ⊥) → IsTaking verb → Ends verb d → IsStep k s i t d → IsTold d → ⊥
  own_ends s i t (Keep m) d none taking b step told = taking
  own_ends s i t (Give p m) d none taking b step told = taking
  own_ends s i t (InterruptSeat j) d none taking b step told = taking
  own_ends s i t (Take p) (Got n v) none taking b step told = let same : n ≡ u.mark = cc in none (record { giver = v; taker = t; mark = n }) step.1 same
  own_ends s i t (Take Timed) (Withdrawn Expired) none taking b step told = absurd (cc)
  own_ends s i t (Take p) (Withdrawn Interrupted) none taking b step told = absurd (cc)
  own_ends s i t (Take p) d none taking b step told = b

  own_goes : (s : State) (stage : Stage) (r : Record Deed) → ((v : ℕ) → r.deed ≡ TakeMeets u.mark v → ⊥) → ((p : Pair) → Contains s.pairs p → p.mark ≡ u.mark → ⊥) →
      Moves u.taken.call stage r → IsStep k s r.seat r.ticket r.deed → stage_after stage r ≡ Over → ⊥
  own_goes s Ahead r meets none moves step over = open_goes_on r.ticket (told_by r.deed) (own_begins u.taken.call.verb r.deed meets u.taking moves.0 (is_told r.deed moves.1)) over
  own_goes s (Open t) r meets none moves step over = own_ends s r.seat r.ticket u.taken.call.verb r.deed none u.taking moves.1 step (is_told r.deed moves.2)
  own_goes s Over r meets none moves step over = moves

  -- nobody can have given the item in time: who waits with it answers otherwise, and nobody met it
  pub record IsLacking (s : State) (stages : ℕ → Stage) : Type 0 where
    pub well : IsWell s
    pub going : stages u.taken.number ≡ Over → ⊥
    pub givers : AreOpenGivers calls u.mark stages s
    pub pairs : (p : Pair) → Contains s.pairs p → p.mark ≡ u.mark → ⊥

  module _ (e : Event) (events : List Event) (s : State) (time : ℕ) (stages : ℕ → Stage) (b : IsLacking s stages) (c : IsCourse k calls s time stages (e ∷ events)) (in_time : e.time ≤ u.taken.returned.at) where
    h : Happens k calls s time stages e
    h = happens k calls s time stages e events c

    -- who may give it begins too late for that
    gives_late : Gives h.of.call.verb u.mark → MayGive h.of.call → ⊥
    gives_late gives may =
        let begun = h.of.within.begun in
        u.none e.call h.of.call (got_below calls e.call h.of.call h.of.known) h.of.known gives may (omega arith)

    -- who waits with it is met: then it can't end as it did
    takes_it : (v : ℕ) → e.entry.deed ≡ TakeMeets u.mark v → ⊥
    takes_it v is =
        let step : IsStep k s e.entry.seat e.entry.ticket (TakeMeets u.mark v) = subst (IsStep k s e.entry.seat e.entry.ticket) is h.step in
        let g = step.1.0 in
        let there = Contains-partner (end_of k.order) s.line Taker g step.1.1 in
        let o = b.givers g there step.1.3 in
        let low = b.well.line g there in
        let eff : Effect s (after s e.entry.seat e.entry.ticket (TakeMeets u.mark v)) e.entry.ticket (TakeMeets u.mark v) = effect k s e.entry.seat e.entry.ticket (TakeMeets u.mark v) step in
        let ticket = step.1.2 in
        ⊎_elim
        (λ q. own_ending k calls u.mark s time stages e g.ticket o q.1 h (λ ends at. let never = sym is ∙ ends in absurd (cc)) (λ cut. b.well.uncut g g.ticket there cut refl))
        (λ q. jilted k calls u.mark events (after s e.entry.seat e.entry.ticket (TakeMeets u.mark v)) e.time (later stages e)
        (record {
          ticket = g.ticket;
          giver = open_still calls u.mark stages e g.ticket o q.1;
          low = let last = eff.last in omega arith;
          line = λ y in_line same. ⊎_elim (λ w. w.1 (same ∙ ticket)) (λ w. absurd w.item) (eff.line y in_line);
          cut = λ y in_cut same. ⊎_elim (λ w. b.well.uncut g y there w same) (λ w. absurd w) (eff.cut y in_cut);
        })
        (subst (λ y. IsCourse k calls (after s e.entry.seat e.entry.ticket y) e.time (later stages e) events) is (goes_on k calls s time stages e events c)))
        (eqb_tells e.call o.number)

    pair_other : ((v : ℕ) → e.entry.deed ≡ TakeMeets u.mark v → ⊥) → (d : Deed) → e.entry.deed ≡ d → (p : Pair) → NewPair d e.entry.ticket p → p.mark ≡ u.mark → ⊥
    pair_other meets (GiveMeets m v) is p new same =
        let mark : m ≡ u.mark = sym (ap (λ (y : Pair). y.mark) new) ∙ same in
        by_stage (stages e.call) h.moves mark
      where
        begins : (verb : Verb) → m ≡ u.mark → Begins verb (GiveMeets m v) → Gives verb u.mark
        begins (Keep n) mark q = sym q ∙ mark
        begins (Give r n) mark q = sym q ∙ mark
        begins (Take r) mark q = absurd q
        begins (InterruptSeat j) mark q = absurd q

        never : (verb : Verb) → Ends verb (GiveMeets m v) → ⊥
        never (Keep n) q = q
        never (Give r n) q = q
        never (Take r) q = q
        never (InterruptSeat j) q = q

        by_stage : (stage : Stage) → Moves h.of.call stage e.entry → m ≡ u.mark → ⊥
        by_stage Ahead moves mark = gives_late (begins h.of.call.verb mark (subst (Begins h.of.call.verb) is moves.0)) (subst (Tells h.of.call) is moves.1)
        by_stage (Open t) moves mark = never h.of.call.verb (subst (Ends h.of.call.verb) is moves.1)
        by_stage Over moves mark = moves
    pair_other meets (TakeMeets m v) is p new same =
        let mark : m ≡ u.mark = sym (ap (λ (y : Pair). y.mark) new) ∙ same in
        meets v (is ∙ ap (λ y. TakeMeets y v) mark)
    pair_other meets d is p new same = new

    -- an entry that has it stays, or is a new one's that answers otherwise
    old_giver : (g : Entry ℕ) → Contains s.line g → (Leaves e.entry.deed e.entry.ticket g.ticket → ⊥) → g.item ≡ Some u.mark → IsOpenGiver calls u.mark (later stages e) g.ticket
    old_giver g there stays item =
        let o = b.givers g there item in
        ⊎_elim
        (λ q. absurd (own_ending k calls u.mark s time stages e g.ticket o q.1 h (λ is at. stays (subst (λ y. Leaves y e.entry.ticket g.ticket) (sym is) (sym at))) (λ cut. b.well.uncut g g.ticket there cut refl)))
        (λ q. open_still calls u.mark stages e g.ticket o q.1)
        (eqb_tells e.call o.number)

    new_giver : (d : Deed) → e.entry.deed ≡ d → (item : Option ℕ) → NewItem d item → item ≡ Some u.mark → IsOpenGiver calls u.mark (later stages e) e.entry.ticket
    new_giver (GiveWaits m) is item new same =
        let mark : m ≡ u.mark = let q = sym new ∙ same in cc in
        by_stage (stages e.call) refl h.moves mark
      where
        hands : (verb : Verb) → m ≡ u.mark → Begins verb (GiveWaits m) → HandsOver verb u.mark × Gives verb u.mark
        hands (Give Forever n) mark q = (sym q ∙ mark, sym q ∙ mark)
        hands (Give Timed n) mark q = (sym q ∙ mark, sym q ∙ mark)
        hands verb mark q = absurd q

        never : (verb : Verb) → Ends verb (GiveWaits m) → ⊥
        never (Keep n) q = q
        never (Give r n) q = q
        never (Take r) q = q
        never (InterruptSeat j) q = q

        by_stage : (stage : Stage) → stages e.call ≡ stage → Moves h.of.call stage e.entry → m ≡ u.mark → IsOpenGiver calls u.mark (later stages e) e.entry.ticket
        by_stage Ahead at moves mark =
            let q = hands h.of.call.verb mark (subst (Begins h.of.call.verb) is moves.0) in
            ⊎_elim
            (λ may. absurd (gives_late q.1 may))
            (λ o. record {
              number = e.call;
              call = h.of.call;
              known = h.of.known;
              returned = o.0;
              ended = o.1;
              otherwise = o.2;
              hands = q.0;
              stage = put_same stages e.call (stage_after (stages e.call) e.entry) ∙ ap (λ y. stage_after y e.entry) at ∙ ap (λ y. stage_told e.entry.ticket (told_by y)) is;
            })
            (answers h.of.call)
        by_stage (Open t) at moves mark = absurd (never h.of.call.verb (subst (Ends h.of.call.verb) is moves.1))
        by_stage Over at moves mark = absurd moves
    new_giver (GiveKept m) is item new same =
        let mark : m ≡ u.mark = let q = sym new ∙ same in cc in
        absurd (by_stage (stages e.call) h.moves mark)
      where
        begins : (verb : Verb) → m ≡ u.mark → Begins verb (GiveKept m) → Gives verb u.mark
        begins (Keep n) mark q = sym q ∙ mark
        begins verb mark q = absurd q

        never : (verb : Verb) → Ends verb (GiveKept m) → ⊥
        never (Keep n) q = q
        never (Give r n) q = q
        never (Take r) q = q
        never (InterruptSeat j) q = q

        by_stage : (stage : Stage) → Moves h.of.call stage e.entry → m ≡ u.mark → ⊥
        by_stage Ahead moves mark = gives_late (begins h.of.call.verb mark (subst (Begins h.of.call.verb) is moves.0)) (subst (Tells h.of.call) is moves.1)
        by_stage (Open t) moves mark = never h.of.call.verb (subst (Ends h.of.call.verb) is moves.1)
        by_stage Over moves mark = moves
    new_giver TakeWaits is item new same = let q = sym new ∙ same in absurd (cc)
    new_giver d is item new same = absurd new

    going_on : ((v : ℕ) → e.entry.deed ≡ TakeMeets u.mark v → ⊥) → later stages e u.taken.number ≡ Over → ⊥
    going_on meets over = ⊎_elim
        (λ q.
        let moves : Moves u.taken.call (stages e.call) e.entry = subst (λ y. Moves y (stages e.call) e.entry) (own_call k calls u.taken e q.1 h.of) h.moves in
        own_goes s (stages e.call) e.entry meets b.pairs moves h.step (sym (put_same stages e.call (stage_after (stages e.call) e.entry)) ∙ ap (later stages e) q.1 ∙ over))
        (λ q. b.going (sym (still k calls u.taken stages e q.1) ∙ over))
        (eqb_tells e.call u.taken.number)

    stays_lacking : ((v : ℕ) → e.entry.deed ≡ TakeMeets u.mark v → ⊥) → IsLacking (after_event s e) (later stages e)
    stays_lacking meets =
        let f = effect k s e.entry.seat e.entry.ticket e.entry.deed h.step in
        record {
          well = well_stays k s e.entry.seat e.entry.ticket e.entry.deed b.well h.step;
          going = going_on meets;
          givers = λ g there item. ⊎_elim
              (λ q. old_giver g q.0 q.1 item)
              (λ q. subst (IsOpenGiver calls u.mark (later stages e)) (sym q.ticket) (new_giver e.entry.deed refl g.item q.item item))
              (f.line g there);
          pairs = λ p there same. ⊎_elim (λ q. b.pairs p q same) (λ q. pair_other meets e.entry.deed refl p q same) (f.pairs p there);
        }

  lacking : (events : List Event) (s : State) (time : ℕ) (stages : ℕ → Stage) → IsLacking s stages → IsCourse k calls s time stages events → ⊥
  lacking [] s time stages b c = never_left k calls u.taken (stages u.taken.number) b.going (c.formed u.taken.number u.taken.call u.taken.known)
  lacking (e ∷ events) s time stages b c = ⊎_elim
      (λ late. ⊎_elim
      (λ q. let le = own_time k calls u.taken e q.1 (happens k calls s time stages e events c).of in absurd (omega arith))
      (λ q. too_late k calls u.taken events (after_event s e) e.time (later stages e) (λ over. b.going (sym (still k calls u.taken stages e q.1) ∙ over)) late (goes_on k calls s time stages e events c))
      (eqb_tells e.call u.taken.number))
      (λ le. ⊎_elim
      (λ q. takes_it e events s time stages b c le q.0 q.1)
      (λ meets. lacking events (after_event s e) e.time (later stages e) (stays_lacking e events s time stages b c le meets) (goes_on k calls s time stages e events c))
      (takes_or_not u.mark e.entry.deed))
      (cases_lt u.taken.returned.at e.time)

-- so nothing explains the calls
pub ungiven_explains : (k : Kind) (calls : List Call) → IsUngiven calls → (history : List (Record Deed)) → Explains k calls history → ⊥
ungiven_explains k calls u history explains =
    lacking k calls u explains.events empty 0 (λ n. Ahead)
    (record {
      well = well_empty;
      going = λ over. absurd (cc);
      givers = λ e there item. absurd (Contains-nil e there);
      pairs = λ p there same. Contains-nil p there;
    })
    (whole_course k calls history explains)
