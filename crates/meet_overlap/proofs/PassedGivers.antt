-- A giver was met though another one, whose turn came first, stood in the line.
use Rattle.std.proofs.Common.{◌≡◌, ◌≢◌, ℕ, ◌<◌, ◌≤◌, true, Some, None, List, [], ◌∷◌, Contains, refl, sym, ap, ◌∙◌, subst, ⊎_elim, arith}
use Rattle.std.specs.Prelude.{slice_get, IfSome}
use Rattle.std.proofs.lemmas.Bool.Decides.{eqb_tells}
use Rattle.meet_tickets.specs.declared.lines.Entry.{Entry}
use Rattle.meet_tickets.specs.declared.places.End.{End}
use Rattle.meet_tickets.specs.declared.places.End.TheVariants.{Front, Back}
use Rattle.meet_tickets.specs.declared.places.Kind.{Kind}
use Rattle.meet_tickets.specs.declared.places.Side.TheVariants.{Giver, Taker}
use Rattle.meet_tickets.specs.declared.records.Record.{Record}
use Rattle.meet_tickets.specs.declared.records.Deed.{Deed}
use Rattle.meet_tickets.specs.declared.records.Deed.TheVariants.{GiveWaits, GiveMeets, GiveFails, GiveKept, TakeWaits, TakeMeets, TakeFails, EntryInterrupted}
use Rattle.meet_tickets.specs.BySeat.{is_request}
use Rattle.meet_tickets.specs.Meeting.{end_of}
use Rattle.meet_tickets.specs.ByLists.{State, Pair, empty, IsStep}
use Rattle.meet_tickets.proofs.Lists.Members.{Contains-partner, Contains-nil}
use Rattle.meet_overlap.specs.declared.calls.Answer.{Answer}
use Rattle.meet_overlap.specs.declared.calls.Answer.TheVariants.{Got as GotItem}
use Rattle.meet_overlap.specs.declared.calls.Call.{Call}
use Rattle.meet_overlap.specs.declared.calls.Patience.TheVariants.{Now, Forever, Timed}
use Rattle.meet_overlap.specs.declared.calls.Stage.{Stage}
use Rattle.meet_overlap.specs.declared.calls.Stage.TheVariants.{Ahead}
use Rattle.meet_overlap.specs.declared.calls.Verb.{Verb}
use Rattle.meet_overlap.specs.declared.calls.Verb.TheVariants.{Keep, Give, Take, Interrupt as InterruptSeat}
use Rattle.meet_overlap.specs.Calls.{Begins, Moves, told_by}
use Rattle.meet_overlap.specs.Explaining.{Event, Explains}
use Rattle.meet_overlap.specs.Marks.{Gives, IsTaking}
use Rattle.meet_overlap.specs.Reasons.{IsPassed, IsBehind, item_of}
use Rattle.meet_overlap.proofs.Courses.{Happens, IsCourse, later, after_event, happens, goes_on, never_left, own_call, still, answers}
use Rattle.meet_overlap.proofs.Effects.{NewPair, Effect, effect, IsNewEntry, IsWell}
use Rattle.meet_overlap.proofs.Giving.{GivesOne, gives_or_not, gives_by, new_item, new_pair}
use Rattle.meet_overlap.proofs.InLine.{IsUnmixed, IsOrdered, none_front, alone_giver, alone_taker, met_first}
use Rattle.meet_overlap.proofs.Standing.{WasMet, was_met, LetsEnd, request_with, entry_with, IsStanding, stands_on, now_waiting, own_seen, unseen}
use Rattle.meet_overlap.proofs.Tables.{got_below}
use Rattle.meet_overlap.proofs.PassedTurns.{ComesAfter, never_first, HasBegun, comes_after, not_both, begun_then, begun_stays}
use Rattle.meet_overlap.proofs.Twice.{gives_from}
use Rattle.meet_overlap.proofs.Watching.{Stands, IsWatched, too_early, watched}

-- a taker met a giver of the item, and another giver waits
pub record IsGiverMet (caller : Verb) (answer : Answer) (met waiting : Verb) (mark : ℕ) : Type 0 where
  pub takes : IsTaking caller
  pub got : answer ≡ GotItem mark
  pub gives : Gives met mark
  pub item : ℕ
  pub holds : item_of waiting ≡ Some item
  pub apart : IsTaking waiting → ⊥

-- where a giver stands in the line, a taker that got an item meets it by its request
meets_one : (k : Kind) (s : State) (i t mark : ℕ) (verb : Verb) (d : Deed) → IsTaking verb → Begins verb d → IfSome (told_by d) (λ a. a ≡ GotItem mark) → IsStep k s i t d → IsUnmixed s.line →
    (f : Entry ℕ) (n : ℕ) → Contains s.line f → f.item ≡ Some n → (v : ℕ) × (d ≡ TakeMeets mark v)
meets_one k s i t mark (Keep m) d taking b told step unmixed f n there item = absurd taking
meets_one k s i t mark (Give p m) d taking b told step unmixed f n there item = absurd taking
meets_one k s i t mark (InterruptSeat j) d taking b told step unmixed f n there item = absurd taking
meets_one k s i t mark (Take p) (TakeMeets m v) taking b told step unmixed f n there item = let same : m ≡ mark = cc in (v, ap (λ y. TakeMeets y v) same)
meets_one k s i t mark (Take Now) TakeFails taking b told step unmixed f n there item = absurd (cc)
meets_one k s i t mark (Take Forever) TakeWaits taking b told step unmixed f n there item = absurd (alone_taker s.line (none_front (end_of k.order) s.line Taker step.1) unmixed f n there item)
meets_one k s i t mark (Take Timed) TakeWaits taking b told step unmixed f n there item = absurd (alone_taker s.line (none_front (end_of k.order) s.line Taker step.1) unmixed f n there item)
meets_one k s i t mark (Take Forever) (EntryInterrupted Taker) taking b told step unmixed f n there item = absurd (cc)
meets_one k s i t mark (Take Timed) (EntryInterrupted Taker) taking b told step unmixed f n there item = absurd (cc)
meets_one k s i t mark (Take p) d taking b told step unmixed f n there item = absurd b

-- where no such item is there, its request waits
waits_first : (k : Kind) (s : State) (i t mark : ℕ) (verb : Verb) (d : Deed) → IsTaking verb → Begins verb d → IfSome (told_by d) (λ a. a ≡ GotItem mark) → IsStep k s i t d →
    ((y : Entry ℕ) → Contains s.line y → y.item ≡ Some mark → ⊥) → d ≡ TakeWaits
waits_first k s i t mark (Keep m) d taking b told step none = absurd taking
waits_first k s i t mark (Give p m) d taking b told step none = absurd taking
waits_first k s i t mark (InterruptSeat j) d taking b told step none = absurd taking
waits_first k s i t mark (Take p) (TakeMeets m v) taking b told step none =
    let same : m ≡ mark = cc in
    absurd (none step.1.0 (Contains-partner (end_of k.order) s.line Taker step.1.0 step.1.1) (step.1.3 ∙ ap Some same))
waits_first k s i t mark (Take Now) TakeFails taking b told step none = absurd (cc)
waits_first k s i t mark (Take Forever) TakeWaits taking b told step none = refl
waits_first k s i t mark (Take Timed) TakeWaits taking b told step none = refl
waits_first k s i t mark (Take Forever) (EntryInterrupted Taker) taking b told step none = absurd (cc)
waits_first k s i t mark (Take Timed) (EntryInterrupted Taker) taking b told step none = absurd (cc)
waits_first k s i t mark (Take p) d taking b told step none = absurd b

takes_none : (verb : Verb) → IsTaking verb → item_of verb ≡ None
takes_none (Keep m) taking = absurd taking
takes_none (Give p m) taking = absurd taking
takes_none (Take p) taking = refl
takes_none (InterruptSeat j) taking = absurd taking

taken_met : (verb : Verb) (mark : ℕ) → IsTaking verb → WasMet verb (GotItem mark)
taken_met (Keep m) mark taking = absurd taking
taken_met (Give p m) mark taking = absurd taking
taken_met (Take p) mark taking = tt
taken_met (InterruptSeat j) mark taking = absurd taking

lets_mark : (verb : Verb) (mark t : ℕ) (p : Pair) → IsTaking verb → LetsEnd verb (GotItem mark) t p → p.mark ≡ mark
lets_mark (Keep m) mark t p taking lets = absurd taking
lets_mark (Give q m) mark t p taking lets = absurd taking
lets_mark (Take q) mark t p taking lets = lets.1
lets_mark (InterruptSeat j) mark t p taking lets = absurd taking

-- the first deed of a call that gives is a request
giver_asks : (mark : ℕ) (verb : Verb) (d : Deed) → Gives verb mark → Begins verb d → is_request d ≡ true
giver_asks mark (Take p) d gives b = absurd gives
giver_asks mark (InterruptSeat j) d gives b = absurd gives
giver_asks mark (Keep m) (GiveMeets n v) gives b = refl
giver_asks mark (Keep m) (GiveKept n) gives b = refl
giver_asks mark (Keep m) (GiveFails n) gives b = refl
giver_asks mark (Keep m) d gives b = absurd b
giver_asks mark (Give p m) (GiveMeets n v) gives b = refl
giver_asks mark (Give Now m) (GiveFails n) gives b = refl
giver_asks mark (Give Forever m) (GiveWaits n) gives b = refl
giver_asks mark (Give Timed m) (GiveWaits n) gives b = refl
giver_asks mark (Give Forever m) (EntryInterrupted Giver) gives b = refl
giver_asks mark (Give Timed m) (EntryInterrupted Giver) gives b = refl
giver_asks mark (Give p m) d gives b = absurd b

module _ (k : Kind) (calls : List Call) (u : IsPassed k calls) (g : IsGiverMet u.caller.call.verb u.caller.returned.answer u.met.call.verb u.waiting.call.verb u.mark) where
  was : WasMet u.waiting.call.verb u.waiting.returned.answer
  was = was_met calls u.caller.returned.at u.waiting.call.verb u.waiting.returned.answer u.unmet

  asks : (d : Deed) → Begins u.met.call.verb d → is_request d ≡ true
  asks d b = giver_asks u.mark u.met.call.verb d g.gives b

  -- who gives an item of this mark is the one that was met
  gives_alone : (e : Event) (s : State) (time : ℕ) (stages : ℕ → Stage) (h : Happens k calls s time stages e) → GivesOne u.mark e.entry.deed → e.call ≡ u.met.number
  gives_alone e s time stages h one =
      u.only e.call h.of.call (got_below calls e.call h.of.call h.of.known) h.of.known (gives_by u.mark h.of.call (stages e.call) e.entry h.moves one)
      ∙ sym (u.only u.met.number u.met.call (got_below calls u.met.number u.met.call u.met.known) u.met.known g.gives)

  -- no item of this mark is there yet, where the first one's turn comes first
  abbrev NoneYet : End → State → Type 0
  NoneYet Front s = (y : Entry ℕ) → Contains s.line y → y.item ≡ Some u.mark → ⊥
  NoneYet Back s = Unit {0}

  abbrev Before : State → (ℕ → Stage) → Type 0
  Before s stages = NoneYet (end_of k.order) s

  -- the one that is met comes after the one that waits
  pub record IsThere (s : State) (stages : ℕ → Stage) (x : ℕ) : Type 0 where
    pub line : (y : Entry ℕ) → Contains s.line y → y.item ≡ Some u.mark → ComesAfter (end_of k.order) y.ticket x
    pub begun : HasBegun (end_of k.order) (stages u.met.number)

  module _ (e : Event) (events : List Event) (s : State) (time : ℕ) (stages : ℕ → Stage) (c : IsCourse k calls s time stages (e ∷ events)) where
    h : Happens k calls s time stages e
    h = happens k calls s time stages e events c

    f : Effect s (after_event s e) e.entry.ticket e.entry.deed
    f = effect k s e.entry.seat e.entry.ticket e.entry.deed h.step

    -- a new item of this mark is the met one's
    new_is : (y : Entry ℕ) → IsNewEntry s e.entry.ticket e.entry.deed y → y.item ≡ Some u.mark → GivesOne u.mark e.entry.deed
    new_is y new item = ⊎_elim (λ one. one) (λ none. absurd (new_item u.mark e.entry.deed y.item new.item none item)) (gives_or_not u.mark e.entry.deed)

    goes : stages u.waiting.number ≡ Ahead → e.call ≢ u.waiting.number → (end : End) → IsBehind end u.seen u.waiting.call u.caller.call u.met.call → NoneYet end s → NoneYet end (after_event s e)
    goes ahead other Front behind none = λ y there item. ⊎_elim
        (λ q. none y q.0 item)
        (λ q.
        let at = gives_alone e s time stages h (new_is y q item) in
        let mine : h.of.call.begin ≡ u.met.call.begin = ap (λ (z : Call). z.begin) (own_call k calls u.met e at h.of) in
        let begun = h.of.within.begun in
        unseen k calls u.waiting was u.seen u.waits events (after_event s e) e.time (later stages e) (still k calls u.waiting stages e other ∙ ahead) (omega arith) (goes_on k calls s time stages e events c))
        (f.line y there)
    goes ahead other Back behind none = tt

    -- until the one that waits stands there, no pair has such an item
    no_pair : u.seen < u.met.call.begin → stages u.waiting.number ≡ Ahead → e.call ≢ u.waiting.number → NoneYet Front s → (p : Pair) → NewPair e.entry.deed e.entry.ticket p → p.mark ≡ u.mark → ⊥
    no_pair behind ahead other none p new is = ⊎_elim
        (λ one.
        let at = gives_alone e s time stages h one in
        let mine : h.of.call.begin ≡ u.met.call.begin = ap (λ (z : Call). z.begin) (own_call k calls u.met e at h.of) in
        let begun = h.of.within.begun in
        unseen k calls u.waiting was u.seen u.waits events (after_event s e) e.time (later stages e) (still k calls u.waiting stages e other ∙ ahead) (omega arith) (goes_on k calls s time stages e events c))
        (λ gives_none.
        let q = new_pair u.mark e.entry.deed e.entry.ticket p gives_none new is in
        let step : IsStep k s e.entry.seat e.entry.ticket (TakeMeets u.mark q.0) = subst (IsStep k s e.entry.seat e.entry.ticket) q.1 h.step in
        none step.1.0 (Contains-partner (end_of k.order) s.line Taker step.1.0 step.1.1) step.1.3)
        (gives_or_not u.mark e.entry.deed)

    -- the one that waits can't join a line in which a taker stands
    joins_none : stages u.waiting.number ≡ Ahead → e.call ≡ u.waiting.number → IsUnmixed s.line → (y : Entry ℕ) → Contains s.line y → y.item ≡ None → ⊥
    joins_none ahead at unmixed y there item =
        let deed = (own_seen k calls u.waiting was u.seen u.waits e s time stages ahead h at).0 ∙ ap request_with g.holds in
        let step : IsStep k s e.entry.seat e.entry.ticket (GiveWaits g.item) = subst (IsStep k s e.entry.seat e.entry.ticket) deed h.step in
        alone_giver s.line (none_front (end_of k.order) s.line Giver step.1) unmixed y there item

    comes_before : IsWell s → (end : End) → NoneYet end s → (y : Entry ℕ) → Contains s.line y → y.item ≡ Some u.mark → s.last < e.entry.ticket → ComesAfter end y.ticket e.entry.ticket
    comes_before well Front none y there item above = absurd (none y there item)
    comes_before well Back none y there item above = let low = well.line y there in omega arith

    joins : IsWell s → stages u.waiting.number ≡ Ahead → e.call ≡ u.waiting.number → s.last < e.entry.ticket → NoneYet (end_of k.order) s → IsThere (after_event s e) (later stages e) e.entry.ticket
    joins well ahead at above none = record {
      line = λ y there item. ⊎_elim
          (λ q. comes_before well (end_of k.order) none y q.0 item above)
          (λ q. absurd (not_both k calls u asks e events s time stages c ahead at (gives_alone e s time stages h (new_is y q item)) (end_of k.order) u.behind))
          (f.line y there);
      begun = begun_then k calls u asks e events s time stages c at (end_of k.order) u.behind;
    }

    stays : (x : ℕ) → x ≤ s.last → IsThere s stages x → IsThere (after_event s e) (later stages e) x
    stays x low b = record {
      line = λ y there item. ⊎_elim
          (λ q. b.line y q.0 item)
          (λ q.
          let one = new_is y q item in
          let at = gives_alone e s time stages h one in
          let above = q.above in let ticket = q.ticket in
          comes_after (end_of k.order) (stages u.met.number) y.ticket x b.begun (ap stages (sym at) ∙ gives_from u.mark h.of.call (stages e.call) e.entry h.moves one) (omega arith))
          (f.line y there);
      begun = begun_stays k calls u asks e events s time stages c (end_of k.order) b.begun;
    }

    ends : (entry : Entry ℕ) → Stands k calls u.waiting u.caller u.seen u.waits u.unmet s stages entry → stages u.caller.number ≡ Ahead → e.call ≡ u.caller.number → IsThere s stages entry.ticket → ⊥
    ends entry b ahead at known =
        let stage : stages e.call ≡ Ahead = ap stages at ∙ ahead in
        let moves : Moves u.caller.call Ahead e.entry = subst (λ y. Moves u.caller.call y e.entry) stage (subst (λ y. Moves y (stages e.call) e.entry) (own_call k calls u.caller e at h.of) h.moves) in
        let q = meets_one k s e.entry.seat e.entry.ticket u.mark u.caller.call.verb e.entry.deed g.takes moves.0 (answers k calls u.caller (GotItem u.mark) g.got e.entry.deed moves.1) h.step b.ordered.unmixed entry g.item b.there (b.items entry b.there refl ∙ g.holds) in
        let step : IsStep k s e.entry.seat e.entry.ticket (TakeMeets u.mark q.0) = subst (IsStep k s e.entry.seat e.entry.ticket) q.1 h.step in
        let there = Contains-partner (end_of k.order) s.line Taker step.1.0 step.1.1 in
        never_first (end_of k.order) step.1.0.ticket entry.ticket (met_first (end_of k.order) s.line Taker step.1.0 step.1.1 b.ordered.sorted entry b.there) (known.line step.1.0 there step.1.3)

  met : WasMet u.caller.call.verb u.caller.returned.answer
  met = subst (WasMet u.caller.call.verb) (sym g.got) (taken_met u.caller.call.verb u.mark g.takes)

  -- the caller's request waits, and the one that waits isn't there yet
  meanwhile : (events : List Event) (s : State) (time : ℕ) (stages : ℕ → Stage) (entry : Entry ℕ) → u.seen < u.met.call.begin → IsStanding k calls u.caller met s stages entry → stages u.waiting.number ≡ Ahead → NoneYet Front s →
      IsCourse k calls s time stages events → ⊥
  meanwhile [] s time stages entry behind b ahead none c = never_left k calls u.waiting (stages u.waiting.number) (λ over. let q = sym ahead ∙ over in absurd (cc)) (c.formed u.waiting.number u.waiting.call u.waiting.known)
  meanwhile (e ∷ events) s time stages entry behind b ahead none c = ⊎_elim
      (λ at. joins_none e events s time stages c ahead at.1 b.ordered.unmixed entry b.there (b.items entry b.there refl ∙ takes_none u.caller.call.verb g.takes))
      (λ other. meanwhile events (after_event s e) e.time (later stages e) entry behind
      (stands_on k calls u.caller met e events s time stages entry b c
      (λ p new lets. no_pair e events s time stages c behind ahead other.1 none p new (lets_mark u.caller.call.verb u.mark entry.ticket p g.takes (subst (λ y. LetsEnd u.caller.call.verb y entry.ticket p) g.got lets))))
      (still k calls u.waiting stages e other.1 ∙ ahead)
      (goes e events s time stages c ahead other.1 Front behind none)
      (goes_on k calls s time stages e events c))
      (eqb_tells e.call u.waiting.number)

  early : (e : Event) (events : List Event) (s : State) (time : ℕ) (stages : ℕ → Stage) → IsCourse k calls s time stages (e ∷ events) → IsWell s → IsOrdered s → stages u.waiting.number ≡ Ahead → stages u.caller.number ≡ Ahead →
      e.call ≢ u.waiting.number → e.call ≡ u.caller.number → (end : End) → IsBehind end u.seen u.waiting.call u.caller.call u.met.call → NoneYet end s → ⊥
  early e events s time stages c well ordered ahead mine other at Back behind none = too_early k calls u.waiting u.caller u.seen u.waits u.unmet behind.3 e events s time stages c ahead other at
  early e events s time stages c well ordered ahead mine other at Front behind none =
      let h = happens k calls s time stages e events c in
      let stage : stages e.call ≡ Ahead = ap stages at ∙ mine in
      let moves : Moves u.caller.call Ahead e.entry = subst (λ y. Moves u.caller.call y e.entry) stage (subst (λ y. Moves y (stages e.call) e.entry) (own_call k calls u.caller e at h.of) h.moves) in
      let deed = waits_first k s e.entry.seat e.entry.ticket u.mark u.caller.call.verb e.entry.deed g.takes moves.0 (answers k calls u.caller (GotItem u.mark) g.got e.entry.deed moves.1) h.step none in
      let item = takes_none u.caller.call.verb g.takes in
      meanwhile events (after_event s e) e.time (later stages e) (entry_with e.entry.seat e.entry.ticket (item_of u.caller.call.verb)) behind
      (now_waiting k calls u.caller met e s time stages well ordered mine h at (deed ∙ ap request_with (sym item)))
      (still k calls u.waiting stages e other ∙ ahead)
      (goes e events s time stages c ahead other Front behind none)
      (goes_on k calls s time stages e events c)

  apart : u.waiting.number ≡ u.caller.number → ⊥
  apart same =
      let mine : slice_get calls u.caller.number ≡ Some u.waiting.call = subst (λ n. slice_get calls n ≡ Some u.waiting.call) same u.waiting.known in
      let theirs = u.caller.known in
      let is : u.caller.call ≡ u.waiting.call = cc in
      g.apart (subst (λ (y : Call). IsTaking y.verb) is g.takes)

  none_empty : (end : End) → NoneYet end empty
  none_empty Front = λ y there item. Contains-nil y there
  none_empty Back = tt

  watch : IsWatched k calls u.waiting u.caller u.seen u.waits u.unmet Before IsThere
  watch = record {
    goes = λ e events s time stages c ahead other not_caller known. goes e events s time stages c ahead other (end_of k.order) u.behind known;
    joins = λ e events s time stages c well ahead at not_caller above known. joins e events s time stages c well ahead at above known;
    early = λ e events s time stages c well ordered ahead mine other at known. early e events s time stages c well ordered ahead mine other at (end_of k.order) u.behind known;
    stays = λ e events s time stages c entry b not_caller known. stays e events s time stages c entry.ticket b.waits.low known;
    ends = λ e events s time stages c entry b ahead at known. ends e events s time stages c entry b ahead at known;
  }

  pub giver_passed : (history : List (Record Deed)) → Explains k calls history → ⊥
  giver_passed = watched k calls u.waiting u.caller u.seen u.waits u.unmet Before IsThere watch apart (none_empty (end_of k.order))
