-- Calls that take and wait, and one that was met by an item that nobody can have got: then no events follow.
use Rattle.std.proofs.Common.{◌≡◌, ◌≢◌, ℕ, suc, zero, ◌≤◌, Some, None, List, [], ◌∷◌, length, Contains, refl, sym, ap, ◌∙◌, subst, ⊎_elim, arith}
use Rattle.std.specs.Prelude.{slice_get, IfSome}
use Rattle.std.proofs.lemmas.Bool.Decides.{eqb_tells}
use Rattle.meet_tickets.specs.declared.lines.Entry.{Entry}
use Rattle.meet_tickets.specs.declared.places.Kind.{Kind}
use Rattle.meet_tickets.specs.declared.places.Side.TheVariants.{Giver}
use Rattle.meet_tickets.specs.declared.records.Cause.TheVariants.{Expired, Interrupted}
use Rattle.meet_tickets.specs.declared.records.Deed.{Deed}
use Rattle.meet_tickets.specs.declared.records.Deed.TheVariants.{GiveWaits, GiveMeets, GiveKept, TakeWaits, TakeMeets, Got, Withdrawn, Interrupt}
use Rattle.meet_tickets.specs.Meeting.{end_of}
use Rattle.meet_tickets.specs.ByLists.{State, Pair, IsStep, after}
use Rattle.meet_tickets.proofs.Lists.Members.{Contains-partner}
use Rattle.meet_overlap.specs.declared.calls.Answer.TheVariants.{Got as GotItem}
use Rattle.meet_overlap.specs.declared.calls.Patience.TheVariants.{Forever, Timed}
use Rattle.meet_overlap.specs.declared.calls.Call.{Call}
use Rattle.meet_overlap.specs.declared.calls.Stage.{Stage}
use Rattle.meet_overlap.specs.declared.calls.Stage.TheVariants.{Ahead, Open, Over}
use Rattle.meet_overlap.specs.declared.calls.Verb.{Verb}
use Rattle.meet_overlap.specs.declared.calls.Verb.TheVariants.{Keep, Give, Take, Interrupt as InterruptSeat}
use Rattle.meet_overlap.specs.Calls.{Begins, Ends, Tells, Moves, MayStop, told_by, stage_told, stage_after}
use Rattle.meet_overlap.specs.Explaining.{Event}
use Rattle.meet_overlap.specs.Marks.{IsTaking, MayGet, NoneTook}
use Rattle.meet_overlap.proofs.Courses.{Happens, IsCourse, later, after_event, happens, goes_on}
use Rattle.meet_overlap.proofs.Effects.{NewItem, IsNewEntry, NewPair, NewCut, Leaves, Effect, effect, IsWell}
use Rattle.meet_overlap.proofs.Tables.{got_below}
use Rattle.meet_overlap.proofs.Ways.{put_same, put_other}

-- a call that takes waits by this ticket
pub record IsOpenTaker (calls : List Call) (stages : ℕ → Stage) (time t : ℕ) : Type 0 where
  pub number : ℕ
  pub call : Call
  pub known : slice_get calls number ≡ Some call
  pub taking : IsTaking call.verb
  pub stage : stages number ≡ Open t
  pub begun : call.begin ≤ time

-- of each taker in the line
abbrev pub AreOpenTakers : (calls : List Call) → (stages : ℕ → Stage) → (time : ℕ) → State → Type 0
AreOpenTakers calls stages time s = (e : Entry ℕ) → Contains s.line e → e.item ≡ None → IsOpenTaker calls stages time e.ticket

-- a taker in the line ends only by leaving it
taker_ends : (k : Kind) (s : State) (i t : ℕ) (verb : Verb) (d : Deed) (e : Entry ℕ) → IsWell s → Contains s.line e → IsTaking verb → Ends verb d → IsStep k s i t d → t ≡ e.ticket → (Leaves d t e.ticket → ⊥) → ⊥
taker_ends k s i t (Keep m) d e well there taking ends step at stays = taking
taker_ends k s i t (Give p m) d e well there taking ends step at stays = taking
taker_ends k s i t (InterruptSeat j) d e well there taking ends step at stays = taking
taker_ends k s i t (Take p) (Got n v) e well there taking ends step at stays = well.unmet e (record { giver = v; taker = t; mark = n }) there step.1 at
taker_ends k s i t (Take Timed) (Withdrawn Expired) e well there taking ends step at stays = stays (sym at)
taker_ends k s i t (Take p) (Withdrawn Interrupted) e well there taking ends step at stays = well.uncut e t there step.1 at
taker_ends k s i t (Take p) d e well there taking ends step at stays = ends

-- who waits as a taker takes
waits_taking : (verb : Verb) → Begins verb TakeWaits → IsTaking verb
waits_taking (Take Forever) b = tt
waits_taking (Take Timed) b = tt
waits_taking verb b = absurd b

pub takers_stay : (k : Kind) (calls : List Call) (s : State) (time : ℕ) (stages : ℕ → Stage) (e : Event) → IsWell s → AreOpenTakers calls stages time s → Happens k calls s time stages e → AreOpenTakers calls (later stages e) e.time (after_event s e)
takers_stay k calls s time stages e well takers h f there none = ⊎_elim (λ q. old q.0 q.1) new ((effect k s e.entry.seat e.entry.ticket e.entry.deed h.step).line f there)
  where
    old : Contains s.line f → (Leaves e.entry.deed e.entry.ticket f.ticket → ⊥) → IsOpenTaker calls (later stages e) e.time f.ticket
    old there stays =
        let o = takers f there none in
        let risen = h.risen in
        let begun = o.begun in
        ⊎_elim
        (λ q.
        let known : slice_get calls e.call ≡ Some o.call = subst (λ n. slice_get calls n ≡ Some o.call) q.1 o.known in
        let mine : h.of.call ≡ o.call = let theirs = h.of.known in cc in
        let stage : stages e.call ≡ Open f.ticket = ap stages (sym q.1) ∙ o.stage in
        let moves : Moves o.call (Open f.ticket) e.entry = subst (λ c. Moves c (Open f.ticket) e.entry) mine (subst (λ x. Moves h.of.call x e.entry) stage h.moves) in
        absurd (taker_ends k s e.entry.seat e.entry.ticket o.call.verb e.entry.deed f well there o.taking moves.1 h.step moves.0 stays))
        (λ q. record {
          number = o.number;
          call = o.call;
          known = o.known;
          taking = o.taking;
          stage = put_other stages e.call (stage_after (stages e.call) e.entry) o.number q.1 ∙ o.stage;
          begun = omega arith;
        })
        (eqb_tells o.number e.call)

    waited : (d : Deed) → NewItem d f.item → d ≡ TakeWaits
    waited (GiveWaits m) item = absurd (cc)
    waited (GiveKept m) item = absurd (cc)
    waited TakeWaits item = refl
    waited d item = absurd item

    by_stage : (stage : Stage) → Moves h.of.call stage e.entry → e.entry.deed ≡ TakeWaits → IsTaking h.of.call.verb × (stage_after stage e.entry ≡ Open e.entry.ticket)
    by_stage Ahead moves is = (waits_taking h.of.call.verb (subst (Begins h.of.call.verb) is moves.0), ap (λ d. stage_told e.entry.ticket (told_by d)) is)
    by_stage (Open t) moves is = absurd (never h.of.call.verb (subst (Ends h.of.call.verb) is moves.1))
      where
        never : (verb : Verb) → Ends verb TakeWaits → ⊥
        never (Keep m) b = b
        never (Give p m) b = b
        never (Take p) b = b
        never (InterruptSeat j) b = b
    by_stage Over moves is = absurd moves

    new : IsNewEntry s e.entry.ticket e.entry.deed f → IsOpenTaker calls (later stages e) e.time f.ticket
    new n =
        let q = by_stage (stages e.call) h.moves (waited e.entry.deed n.item) in
        record {
          number = e.call;
          call = h.of.call;
          known = h.of.known;
          taking = q.0;
          stage = put_same stages e.call (stage_after (stages e.call) e.entry) ∙ q.1 ∙ ap Open (sym n.ticket);
          begun = h.of.within.begun;
        }

-- who takes an item of this mark begins behind this time
module _ (k : Kind) (calls : List Call) (mark by : ℕ) (none : NoneTook calls (length calls) mark by) where
  -- a taker was met by an item of this mark, and can end with that alone
  pub record IsPromised (s : State) (stages : ℕ → Stage) : Type 0 where
    pub number : ℕ
    pub call : Call
    pub known : slice_get calls number ≡ Some call
    pub taking : IsTaking call.verb
    pub begun : call.begin ≤ by
    pub ticket : ℕ
    pub stage : stages number ≡ Open ticket
    pub low : ticket ≤ s.last
    pub pairs : (p : Pair) → Contains s.pairs p → p.taker ≡ ticket → p.mark ≡ mark
    pub line : (e : Entry ℕ) → Contains s.line e → e.ticket ≡ ticket → ⊥
    pub cut : (x : ℕ) → Contains s.cut x → x ≡ ticket → ⊥

  pub takes_it : (n : ℕ) (c : Call) → slice_get calls n ≡ Some c → IsTaking c.verb → c.begin ≤ by → MayGet c mark → ⊥
  takes_it n c known taking begun may = none n c (got_below calls n c known) known taking may begun

  promised_ends : (s : State) (stages : ℕ → Stage) (p : IsPromised s stages) (i t : ℕ) (verb : Verb) (d : Deed) → IsTaking verb → Ends verb d → IsStep k s i t d → t ≡ p.ticket → Tells p.call d → MayGet p.call mark
  promised_ends s stages p i t (Keep m) d taking ends step at tells = absurd taking
  promised_ends s stages p i t (Give q m) d taking ends step at tells = absurd taking
  promised_ends s stages p i t (InterruptSeat j) d taking ends step at tells = absurd taking
  promised_ends s stages p i t (Take q) (Got n v) taking ends step at tells =
      let same : n ≡ mark = p.pairs (record { giver = v; taker = t; mark = n }) step.1 at in
      subst (λ x. IfSome p.call.returned (λ r. r.answer ≡ GotItem x)) same tells
  promised_ends s stages p i t (Take Timed) (Withdrawn Expired) taking ends step at tells = absurd (p.line step.1.0 step.1.1 (step.1.2 ∙ at))
  promised_ends s stages p i t (Take q) (Withdrawn Interrupted) taking ends step at tells = absurd (p.cut t step.1 at)
  promised_ends s stages p i t (Take q) d taking ends step at tells = absurd ends

  promised_stop : (c : Call) (t : ℕ) (s : Stage) → s ≡ Open t → MayStop c s → MayGet c mark
  promised_stop c t Ahead is stop = absurd (cc)
  promised_stop c t (Open v) is stop = subst (λ o. IfSome o (λ r. r.answer ≡ GotItem mark)) (sym stop) tt
  promised_stop c t Over is stop = absurd (cc)

  -- a new pair's taker isn't who was met before
  other_taker : (s : State) (stages : ℕ → Stage) (p : IsPromised s stages) (i t : ℕ) (d : Deed) (q : Pair) → IsStep k s i t d → NewPair d t q → q.taker ≡ p.ticket → ⊥
  other_taker s stages p i t (GiveMeets m v) q step new same =
      let there = Contains-partner (end_of k.order) s.line Giver step.1.0 step.1.1 in
      p.line step.1.0 there (step.1.2 ∙ sym (ap (λ (x : Pair). x.taker) new) ∙ same)
  other_taker s stages p i t (TakeMeets m v) q step new same =
      let taker : q.taker ≡ t = ap (λ (x : Pair). x.taker) new in
      let above = step.0.above in let low = p.low in absurd (omega arith)
  other_taker s stages p i t d q step new same = new

  other_cut : (s : State) (stages : ℕ → Stage) (p : IsPromised s stages) (i t : ℕ) (d : Deed) (x : ℕ) → IsStep k s i t d → NewCut d t x → x ≡ p.ticket → ⊥
  other_cut s stages p i (suc t) (Interrupt j) x step new same = p.line step.1.0 step.1.1 (step.1.2 ∙ sym new ∙ same)
  other_cut s stages p i zero (Interrupt j) x step new same = new
  other_cut s stages p i t d x step new same = new

  pub promised : (events : List Event) (s : State) (time : ℕ) (stages : ℕ → Stage) → IsPromised s stages → IsCourse k calls s time stages events → ⊥
  promised [] s time stages p c = takes_it p.number p.call p.known p.taking p.begun (promised_stop p.call p.ticket (stages p.number) p.stage (c.formed p.number p.call p.known))
  promised (e ∷ events) s time stages p c = ⊎_elim (λ q. mine q.1) (λ q. promised events (after_event s e) e.time (later stages e) (stays q.1) (goes_on k calls s time stages e events c)) (eqb_tells e.call p.number)
    where
      h : Happens k calls s time stages e
      h = happens k calls s time stages e events c

      mine : e.call ≡ p.number → ⊥
      mine at =
          let known : slice_get calls e.call ≡ Some p.call = subst (λ n. slice_get calls n ≡ Some p.call) (sym at) p.known in
          let own : h.of.call ≡ p.call = let theirs = h.of.known in cc in
          let stage : stages e.call ≡ Open p.ticket = ap stages at ∙ p.stage in
          let moves : Moves p.call (Open p.ticket) e.entry = subst (λ c. Moves c (Open p.ticket) e.entry) own (subst (λ x. Moves h.of.call x e.entry) stage h.moves) in
          takes_it p.number p.call p.known p.taking p.begun (promised_ends s stages p e.entry.seat e.entry.ticket p.call.verb e.entry.deed p.taking moves.1 h.step moves.0 moves.2)

      f : Effect s (after_event s e) e.entry.ticket e.entry.deed
      f = effect k s e.entry.seat e.entry.ticket e.entry.deed h.step

      stays : e.call ≢ p.number → IsPromised (after_event s e) (later stages e)
      stays other = record {
        number = p.number;
        call = p.call;
        known = p.known;
        taking = p.taking;
        begun = p.begun;
        ticket = p.ticket;
        stage = put_other stages e.call (stage_after (stages e.call) e.entry) p.number (λ q. other (sym q)) ∙ p.stage;
        low = let low = p.low in let last = f.last in omega arith;
        pairs = λ x there same. ⊎_elim (λ q. p.pairs x q same) (λ q. absurd (other_taker s stages p e.entry.seat e.entry.ticket e.entry.deed x h.step q same)) (f.pairs x there);
        line = λ x there same. ⊎_elim (λ q. p.line x q.0 same) (λ q. let low = p.low in let above = q.above in let at = q.ticket in absurd (omega arith)) (f.line x there);
        cut = λ x there same. ⊎_elim (λ q. p.cut x q same) (λ q. other_cut s stages p e.entry.seat e.entry.ticket e.entry.deed x h.step q same) (f.cut x there);
      }

  -- a call can't give the item to a taker that waits: nobody may have got it in time
  pub gives_promised : (e : Event) (events : List Event) (s : State) (time : ℕ) (stages : ℕ → Stage) → IsWell s → AreOpenTakers calls stages time s → IsCourse k calls s time stages (e ∷ events) →
      (v : ℕ) → e.entry.deed ≡ GiveMeets mark v → e.time ≤ by → ⊥
  gives_promised e events s time stages well takers c v is within =
      let h = happens k calls s time stages e events c in
      let step : IsStep k s e.entry.seat e.entry.ticket (GiveMeets mark v) = subst (IsStep k s e.entry.seat e.entry.ticket) is h.step in
      let f = step.1.0 in
      let there = Contains-partner (end_of k.order) s.line Giver f step.1.1 in
      let o = takers f there step.1.3 in
      let risen = h.risen in
      let begun = o.begun in
      let low = well.line f there in
      let ticket = step.1.2 in
      let other : o.number ≢ e.call = λ same. by_stage h (ap stages (sym same) ∙ o.stage) in
      let eff : Effect s (after s e.entry.seat e.entry.ticket (GiveMeets mark v)) e.entry.ticket (GiveMeets mark v) = effect k s e.entry.seat e.entry.ticket (GiveMeets mark v) step in
      promised events (after s e.entry.seat e.entry.ticket (GiveMeets mark v)) e.time (later stages e)
      (record {
        number = o.number;
        call = o.call;
        known = o.known;
        taking = o.taking;
        begun = omega arith;
        ticket = f.ticket;
        stage = put_other stages e.call (stage_after (stages e.call) e.entry) o.number other ∙ o.stage;
        low = let last = eff.last in omega arith;
        pairs = λ p in_pairs same. ⊎_elim (λ q. absurd (well.unmet f p there q same)) (λ q. ap (λ (y : Pair). y.mark) q) (eff.pairs p in_pairs);
        line = λ y in_line same. ⊎_elim (λ q. q.1 (same ∙ ticket)) (λ q. absurd q.item) (eff.line y in_line);
        cut = λ y in_cut same. ⊎_elim (λ q. well.uncut f y there q same) (λ q. absurd q) (eff.cut y in_cut);
      })
      (subst (λ y. IsCourse k calls (after s e.entry.seat e.entry.ticket y) e.time (later stages e) events) is (goes_on k calls s time stages e events c))
    where
      never : (verb : Verb) → Ends verb (GiveMeets mark v) → ⊥
      never (Keep n) q = q
      never (Give r n) q = q
      never (Take r) q = q
      never (InterruptSeat j) q = q

      by_stage : (h : Happens k calls s time stages e) {t : ℕ} → stages e.call ≡ Open t → ⊥
      by_stage h {t} is_open =
          let moves : Moves h.of.call (Open t) e.entry = subst (λ y. Moves h.of.call y e.entry) is_open h.moves in
          never h.of.call.verb (subst (Ends h.of.call.verb) is moves.1)
