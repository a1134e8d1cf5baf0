-- If an item was got that surely came after one that is still kept, no history explains the calls: the line is met at its
-- front, and a call that meets the kept item there gets that.
use Rattle.std.proofs.Common.{◌≡◌, ◌≢◌, ℕ, ◌<◌, Some, None, List, [], ◌∷◌, Contains, refl, sym, ap, ◌∙◌, subst, ⊎_elim, arith}
use Rattle.std.specs.Prelude.{IfSome}
use Rattle.std.proofs.lemmas.Bool.{cases_lt}
use Rattle.std.proofs.lemmas.Bool.Decides.{eqb_tells}
use Rattle.meet_tickets.specs.declared.lines.Entry.{Entry}
use Rattle.meet_tickets.specs.declared.places.Kind.{Kind}
use Rattle.meet_tickets.specs.declared.places.Side.TheVariants.{Taker}
use Rattle.meet_tickets.specs.declared.records.Cause.TheVariants.{Expired, Interrupted}
use Rattle.meet_tickets.specs.declared.records.Record.{Record}
use Rattle.meet_tickets.specs.declared.records.Deed.{Deed}
use Rattle.meet_tickets.specs.declared.records.Deed.TheVariants.{GiveMeets, GiveKept, TakeWaits, TakeMeets, TakeFails, EntryInterrupted, Got, Withdrawn}
use Rattle.meet_tickets.specs.Meeting.{end_of}
use Rattle.meet_tickets.specs.ByLists.{State, Pair, empty, IsStep, after}
use Rattle.meet_tickets.proofs.Lists.Members.{Contains-partner, Contains-nil}
use Rattle.meet_overlap.specs.declared.calls.Answer.TheVariants.{Got as GotItem}
use Rattle.meet_overlap.specs.declared.calls.Patience.TheVariants.{Now, Forever, Timed}
use Rattle.meet_overlap.specs.declared.calls.Call.{Call}
use Rattle.meet_overlap.specs.declared.calls.Stage.{Stage}
use Rattle.meet_overlap.specs.declared.calls.Stage.TheVariants.{Ahead, Open, Over}
use Rattle.meet_overlap.specs.declared.calls.Verb.{Verb}
use Rattle.meet_overlap.specs.declared.calls.Verb.TheVariants.{Keep, Give, Take, Interrupt as InterruptSeat}
use Rattle.meet_overlap.specs.Calls.{Begins, Ends, Tells, Moves, told_by, stage_after}
use Rattle.meet_overlap.specs.Explaining.{Event, Explains}
use Rattle.meet_overlap.specs.Marks.{Gives, IsKeeping, IsTaking}
use Rattle.meet_overlap.specs.Reasons.{IsOvertaken}
use Rattle.meet_overlap.proofs.Giving.{GivesOne, GivesNone, gives_or_not, gives_by, open_goes_on, new_item, new_pair}
use Rattle.meet_overlap.proofs.Courses.{Happens, IsCourse, later, after_event, happens, goes_on, whole_course, never_left, own_call, own_time, still, too_late, answers}
use Rattle.meet_overlap.proofs.Effects.{NewPair, Effect, effect, IsWell, well_stays, well_empty}
use Rattle.meet_overlap.proofs.InLine.{IsOrdered, ordered_stays, ordered_empty, find_some, front_least, IsKept, gives_none, kept_stays, own_entry, now_kept}
use Rattle.meet_overlap.proofs.Keeping.{is_kept, stays_kept}
use Rattle.meet_overlap.proofs.Tables.{got_below}
use Rattle.meet_overlap.proofs.Untouched.{IsUntouched, untouched_stays, untouched_empty}
use Rattle.meet_overlap.proofs.Ways.{put_same}

module _ (k : Kind) (calls : List Call) (u : IsOvertaken k calls) where
  -- what the deed tells is that the call got the second item
  abbrev IsTold : Deed → Type 0
  IsTold d = IfSome (told_by d) (λ a. a ≡ GotItem u.second)

  is_told : (d : Deed) → Tells u.taken.call d → IsTold d
  is_told d tells = answers k calls u.taken (GotItem u.second) u.got d tells

  -- as long as the second item is met by nobody, the call that got it goes on
  own_begins : (s : State) (i t : ℕ) (verb : Verb) (d : Deed) → ((v : ℕ) → IsStep k s i t (TakeMeets u.second v) → ⊥) → IsTaking verb → Begins verb d → IsStep k s i t d → IsTold d → told_by d ≡ None
  own_begins s i t (Keep m) d meets taking b step told = absurd taking
  own_begins s i t (Give p m) d meets taking b step told = absurd taking
  own_begins s i t (InterruptSeat j) d meets taking b step told = absurd taking
  own_begins s i t (Take p) (TakeMeets n v) meets taking b step told =
      let same : n ≡ u.second = cc in absurd (meets v (subst (λ y. IsStep k s i t (TakeMeets y v)) same step))
  own_begins s i t (Take Now) TakeFails meets taking b step told = absurd (cc)
  own_begins s i t (Take Forever) TakeWaits meets taking b step told = refl
  own_begins s i t (Take Timed) TakeWaits meets taking b step told = refl
  own_begins s i t (Take Forever) (EntryInterrupted Taker) meets taking b step told = absurd (cc)
  own_begins s i t (Take Timed) (EntryInterrupted Taker) meets taking b step told = absurd (cc)
  own_begins s i t (Take p) d meets taking b step told = absurd b

  own_ends : (s : State) (i t : ℕ) (verb : Verb) (d : Deed) → ((p : Pair) → Contains s.pairs p → p.mark ≡ u.second → ⊥) → IsTaking verb → Ends verb d → IsStep k s i t d → IsTold d → ⊥
  own_ends s i t (Keep m) d none taking b step told = taking
  own_ends s i t (Give p m) d none taking b step told = taking
  own_ends s i t (InterruptSeat j) d none taking b step told = taking
  own_ends s i t (Take p) (Got n v) none taking b step told =
      let same : n ≡ u.second = cc in none (record { giver = v; taker = t; mark = n }) step.1 same
  own_ends s i t (Take Timed) (Withdrawn Expired) none taking b step told = absurd (cc)
  own_ends s i t (Take p) (Withdrawn Interrupted) none taking b step told = absurd (cc)
  own_ends s i t (Take p) d none taking b step told = b

  own_goes : (s : State) (stage : Stage) (r : Record Deed) → ((v : ℕ) → IsStep k s r.seat r.ticket (TakeMeets u.second v) → ⊥) → ((p : Pair) → Contains s.pairs p → p.mark ≡ u.second → ⊥) →
      Moves u.taken.call stage r → IsStep k s r.seat r.ticket r.deed → stage_after stage r ≡ Over → ⊥
  own_goes s Ahead r meets none moves step over = open_goes_on r.ticket (told_by r.deed) (own_begins s r.seat r.ticket u.taken.call.verb r.deed meets u.takes moves.0 step (is_told r.deed moves.1)) over
  own_goes s (Open t) r meets none moves step over = own_ends s r.seat r.ticket u.taken.call.verb r.deed none u.takes moves.1 step (is_told r.deed moves.2)
  own_goes s Over r meets none moves step over = moves

  -- whoever moves, that call isn't over behind it
  going_on : (s : State) (time : ℕ) (stages : ℕ → Stage) (e : Event) → Happens k calls s time stages e → ((v : ℕ) → IsStep k s e.entry.seat e.entry.ticket (TakeMeets u.second v) → ⊥) →
      ((p : Pair) → Contains s.pairs p → p.mark ≡ u.second → ⊥) → (stages u.taken.number ≡ Over → ⊥) → later stages e u.taken.number ≡ Over → ⊥
  going_on s time stages e h meets none going over = ⊎_elim
      (λ q.
      let moves : Moves u.taken.call (stages e.call) e.entry = subst (λ c. Moves c (stages e.call) e.entry) (own_call k calls u.taken e q.1 h.of) h.moves in
      own_goes s (stages e.call) e.entry meets none moves h.step (sym (put_same stages e.call (stage_after (stages e.call) e.entry)) ∙ ap (later stages e) q.1 ∙ over))
      (λ q. going (sym (still k calls u.taken stages e q.1) ∙ over))
      (eqb_tells e.call u.taken.number)

  -- the first item is kept, and every second one stands after it
  pub record IsBehind (s : State) (time : ℕ) (stages : ℕ → Stage) : Type 0 where
    pub entry : Entry ℕ
    pub untouched : IsUntouched k calls u.first u.taken.returned.at u.none_got s time stages
    pub kept : IsKept k u.order u.first s entry
    pub going : stages u.taken.number ≡ Over → ⊥
    pub behind : (e : Entry ℕ) → Contains s.line e → e.item ≡ Some u.second → entry.ticket < e.ticket
    pub pairs : (p : Pair) → Contains s.pairs p → p.mark ≡ u.second → ⊥

  -- nobody meets the second one
  meets_none : (s : State) (time : ℕ) (stages : ℕ → Stage) (b : IsBehind s time stages) (i t v : ℕ) → IsStep k s i t (TakeMeets u.second v) → ⊥
  meets_none s time stages b i t v step =
      let there = Contains-partner (end_of k.order) s.line Taker step.1.0 step.1.1 in
      let lt = b.behind step.1.0 there step.1.3 in
      let le = front_least s.line Taker step.1.0 (find_some k u.order s.line Taker step.1.0 step.1.1) b.kept.ordered.sorted b.entry b.kept.there in
      absurd (omega arith)

  pair_other : (s : State) (time : ℕ) (stages : ℕ → Stage) (b : IsBehind s time stages) (i t : ℕ) (d : Deed) (p : Pair) → IsStep k s i t d → NewPair d t p → p.mark ≡ u.second → ⊥
  pair_other s time stages b i t (GiveMeets m v) p step new is = gives_none k u.order u.first s b.entry b.kept i t m v step
  pair_other s time stages b i t (TakeMeets m v) p step new is =
      let mark : m ≡ u.second = sym (ap (λ (y : Pair). y.mark) new) ∙ is in
      meets_none s time stages b i t v (subst (λ y. IsStep k s i t (TakeMeets y v)) mark step)
  pair_other s time stages b i t d p step new is = new

  behind_it : (events : List Event) (s : State) (time : ℕ) (stages : ℕ → Stage) → IsBehind s time stages → IsCourse k calls s time stages events → ⊥
  behind_it [] s time stages b c = never_left k calls u.taken (stages u.taken.number) b.going (c.formed u.taken.number u.taken.call u.taken.known)
  behind_it (e ∷ events) s time stages b c =
      let h = happens k calls s time stages e events c in
      let f = effect k s e.entry.seat e.entry.ticket e.entry.deed h.step in
      let going = going_on s time stages e h (λ v step. meets_none s time stages b e.entry.seat e.entry.ticket v step) b.pairs b.going in
      ⊎_elim
      (λ late. too_late k calls u.taken events (after_event s e) e.time (later stages e) going late (goes_on k calls s time stages e events c))
      (λ le.
      let stays = stays_kept k calls u.put u.first u.taken.returned.at u.keeps u.went u.none_got u.later u.order e events s time stages b.entry b.kept b.untouched c le in
      let low = b.kept.well.line b.entry b.kept.there in
      behind_it events (after_event s e) e.time (later stages e) (record {
        entry = b.entry;
        untouched = untouched_stays k calls u.first u.taken.returned.at u.none_got e s time stages b.kept.well h b.untouched;
        kept = kept_stays k u.order u.first s b.entry b.kept e.entry.seat e.entry.ticket e.entry.deed h.step stays;
        going = going;
        behind = λ g there is. ⊎_elim (λ q. b.behind g q.0 is) (λ q. let above = q.above in let at = q.ticket in omega arith) (f.line g there);
        pairs = λ p there is. ⊎_elim (λ q. b.pairs p q is) (λ q. pair_other s time stages b e.entry.seat e.entry.ticket e.entry.deed p h.step q is) (f.pairs p there);
      }) (goes_on k calls s time stages e events c))
      (cases_lt u.taken.returned.at e.time)

  -- the first item isn't put yet, and no second one was given
  pub record IsBefore (s : State) (time : ℕ) (stages : ℕ → Stage) : Type 0 where
    pub well : IsWell s
    pub ordered : IsOrdered s
    pub untouched : IsUntouched k calls u.first u.taken.returned.at u.none_got s time stages
    pub ahead : stages u.put.number ≡ Over → ⊥
    pub going : stages u.taken.number ≡ Over → ⊥
    pub line : (e : Entry ℕ) → Contains s.line e → e.item ≡ Some u.second → ⊥
    pub pairs : (p : Pair) → Contains s.pairs p → p.mark ≡ u.second → ⊥

  -- nobody meets a second one
  none_met : (s : State) (time : ℕ) (stages : ℕ → Stage) (b : IsBefore s time stages) (i t v : ℕ) → IsStep k s i t (TakeMeets u.second v) → ⊥
  none_met s time stages b i t v step = b.line step.1.0 (Contains-partner (end_of k.order) s.line Taker step.1.0 step.1.1) step.1.3

  pair_before : (s : State) (time : ℕ) (stages : ℕ → Stage) (b : IsBefore s time stages) (i t : ℕ) (d : Deed) (p : Pair) → IsStep k s i t d → GivesNone u.second d → NewPair d t p → p.mark ≡ u.second → ⊥
  pair_before s time stages b i t d p step none new is =
      let q = new_pair u.second d t p none new is in
      none_met s time stages b i t q.0 (subst (IsStep k s i t) q.1 step)

  module _ (e : Event) (events : List Event) (s : State) (time : ℕ) (stages : ℕ → Stage) (b : IsBefore s time stages) (c : IsCourse k calls s time stages (e ∷ events)) where
    h : Happens k calls s time stages e
    h = happens k calls s time stages e events c

    -- the call itself puts the first one, and isn't a second one
    put_first : e.call ≡ u.put.number → e.entry.deed ≡ GiveKept u.first → ⊥
    put_first at is =
        let step : IsStep k s e.entry.seat e.entry.ticket (GiveKept u.first) = subst (IsStep k s e.entry.seat e.entry.ticket) is h.step in
        let eff : Effect s (after s e.entry.seat e.entry.ticket (GiveKept u.first)) e.entry.ticket (GiveKept u.first) = effect k s e.entry.seat e.entry.ticket (GiveKept u.first) step in
        behind_it events (after s e.entry.seat e.entry.ticket (GiveKept u.first)) e.time (later stages e)
        (record {
          entry = own_entry k u.order u.first e.entry.seat e.entry.ticket;
          untouched = subst (λ y. IsUntouched k calls u.first u.taken.returned.at u.none_got (after s e.entry.seat e.entry.ticket y) e.time (later stages e)) is (untouched_stays k calls u.first u.taken.returned.at u.none_got e s time stages b.well h b.untouched);
          kept = now_kept k u.order u.first s e.entry.seat e.entry.ticket b.well b.ordered step;
          going = going_on s time stages e h (λ v met. none_met s time stages b e.entry.seat e.entry.ticket v met) b.pairs b.going;
          behind = λ g there is. ⊎_elim (λ q. absurd (b.line g q.0 is)) (λ q. absurd (twice (let y = sym q.item ∙ is in cc))) (eff.line g there);
          pairs = λ p there is. ⊎_elim (λ q. b.pairs p q is) (λ q. absurd q) (eff.pairs p there);
        })
        (subst (λ y. IsCourse k calls (after s e.entry.seat e.entry.ticket y) e.time (later stages e) events) is (goes_on k calls s time stages e events c))
      where
        -- it would be a second one itself, and begin before its own end
        twice : u.first ≡ u.second → ⊥
        twice same =
            let begun = h.of.within.begun in
            let within = own_time k calls u.put e at h.of in
            let own = own_call k calls u.put e at h.of in
            let mine : u.put.call.begin ≡ h.of.call.begin = ap (λ (y : Call). y.begin) (sym own) in
            u.none_gave u.put.number u.put.call (got_below calls u.put.number u.put.call u.put.known) u.put.known (gives u.put.call.verb u.keeps) (omega arith)
          where
            gives : (verb : Verb) → IsKeeping verb u.first → Gives verb u.second
            gives (Keep n) keeps = keeps ∙ same
            gives (Give p n) keeps = absurd keeps
            gives (Take p) keeps = absurd keeps
            gives (InterruptSeat j) keeps = absurd keeps

    -- another call gives a second one: too late for the first
    gives_second : e.call ≢ u.put.number → GivesOne u.second e.entry.deed → ⊥
    gives_second other one =
        let gives = gives_by u.second h.of.call (stages e.call) e.entry h.moves one in
        let begun = h.of.within.begun in
        ⊎_elim
        (λ late. too_late k calls u.put events (after_event s e) e.time (later stages e) (λ over. b.ahead (sym (still k calls u.put stages e other) ∙ over)) late (goes_on k calls s time stages e events c))
        (λ le. u.none_gave e.call h.of.call (got_below calls e.call h.of.call h.of.known) h.of.known gives (omega arith))
        (cases_lt u.put.returned.at e.time)

    stays_before : e.call ≢ u.put.number → GivesNone u.second e.entry.deed → IsBefore (after_event s e) e.time (later stages e)
    stays_before other none =
        let f = effect k s e.entry.seat e.entry.ticket e.entry.deed h.step in
        record {
          well = well_stays k s e.entry.seat e.entry.ticket e.entry.deed b.well h.step;
          ordered = ordered_stays k s e.entry.seat e.entry.ticket e.entry.deed b.well b.ordered h.step;
          untouched = untouched_stays k calls u.first u.taken.returned.at u.none_got e s time stages b.well h b.untouched;
          ahead = λ over. b.ahead (sym (still k calls u.put stages e other) ∙ over);
          going = going_on s time stages e h (λ v met. none_met s time stages b e.entry.seat e.entry.ticket v met) b.pairs b.going;
          line = λ g there is. ⊎_elim (λ q. b.line g q.0 is) (λ q. new_item u.second e.entry.deed g.item q.item none is) (f.line g there);
          pairs = λ p there is. ⊎_elim (λ q. b.pairs p q is) (λ q. pair_before s time stages b e.entry.seat e.entry.ticket e.entry.deed p h.step none q is) (f.pairs p there);
        }

  before_it : (events : List Event) (s : State) (time : ℕ) (stages : ℕ → Stage) → IsBefore s time stages → IsCourse k calls s time stages events → ⊥
  before_it [] s time stages b c = never_left k calls u.taken (stages u.taken.number) b.going (c.formed u.taken.number u.taken.call u.taken.known)
  before_it (e ∷ events) s time stages b c = ⊎_elim
      (λ q. put_first e events s time stages b c q.1 (is_kept k calls u.put u.first u.taken.returned.at u.keeps u.went u.none_got u.later e events s time stages b.well b.untouched c q.1))
      (λ q. ⊎_elim
      (gives_second e events s time stages b c q.1)
      (λ none. before_it events (after_event s e) e.time (later stages e) (stays_before e events s time stages b c q.1 none) (goes_on k calls s time stages e events c))
      (gives_or_not u.second e.entry.deed))
      (eqb_tells e.call u.put.number)

-- so nothing explains the calls
pub overtaken_explains : (k : Kind) (calls : List Call) → IsOvertaken k calls → (history : List (Record Deed)) → Explains k calls history → ⊥
overtaken_explains k calls u history explains =
    before_it k calls u explains.events empty 0 (λ n. Ahead)
    (record {
      well = well_empty;
      ordered = ordered_empty;
      untouched = untouched_empty k calls u.first u.taken.returned.at u.none_got;
      ahead = λ over. absurd (cc);
      going = λ over. absurd (cc);
      line = λ e there is. Contains-nil e there;
      pairs = λ p there is. Contains-nil p there;
    })
    (whole_course k calls history explains)
