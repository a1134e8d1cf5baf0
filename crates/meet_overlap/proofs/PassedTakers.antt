-- A taker was met though another one, whose turn came first, stood in the line.
use Rattle.std.proofs.Common.{◌≡◌, ◌≢◌, ℕ, ◌<◌, ◌≤◌, ◌⊎◌, inl, inr, true, Some, None, List, [], ◌∷◌, Contains, refl, sym, ap, ◌∙◌, subst, ⊎_elim, arith}
use Rattle.std.specs.Prelude.{slice_get, IfSome}
use Rattle.std.proofs.lemmas.Bool.Decides.{eqb_tells}
use Rattle.std.proofs.lemmas.List.Elements.{Contains-push}
use Rattle.meet_tickets.specs.declared.lines.Entry.{Entry}
use Rattle.meet_tickets.specs.declared.places.End.{End}
use Rattle.meet_tickets.specs.declared.places.End.TheVariants.{Front, Back}
use Rattle.meet_tickets.specs.declared.places.Kind.{Kind}
use Rattle.meet_tickets.specs.declared.places.Side.TheVariants.{Giver, Taker}
use Rattle.meet_tickets.specs.declared.records.Record.{Record}
use Rattle.meet_tickets.specs.declared.records.Deed.{Deed}
use Rattle.meet_tickets.specs.declared.records.Deed.TheVariants.{GiveWaits, GiveMeets, GiveFails, GiveKept, TakeWaits, TakeMeets, TakeFails, EntryInterrupted}
use Rattle.meet_tickets.specs.BySeat.{is_request}
use Rattle.meet_tickets.specs.Meeting.{end_of, partner}
use Rattle.meet_tickets.specs.ByLists.{State, Pair, IsStep, after}
use Rattle.meet_tickets.proofs.Lists.Members.{Contains-partner, Contains-nil}
use Rattle.meet_overlap.specs.declared.calls.Answer.{Answer}
use Rattle.meet_overlap.specs.declared.calls.Answer.TheVariants.{Went, Got as GotItem}
use Rattle.meet_overlap.specs.declared.calls.Call.{Call}
use Rattle.meet_overlap.specs.declared.calls.Patience.TheVariants.{Now, Forever, Timed}
use Rattle.meet_overlap.specs.declared.calls.Stage.{Stage}
use Rattle.meet_overlap.specs.declared.calls.Stage.TheVariants.{Ahead, Open, Over}
use Rattle.meet_overlap.specs.declared.calls.Verb.{Verb}
use Rattle.meet_overlap.specs.declared.calls.Verb.TheVariants.{Keep, Give, Take, Interrupt as InterruptSeat}
use Rattle.meet_overlap.specs.Calls.{Begins, Moves, told_by, stage_after}
use Rattle.meet_overlap.specs.Explaining.{Event, Explains}
use Rattle.meet_overlap.specs.Marks.{Gives, IsTaking}
use Rattle.meet_overlap.specs.Reasons.{IsPassed, IsBehind, item_of}
use Rattle.meet_overlap.proofs.Courses.{Happens, IsCourse, later, after_event, happens, goes_on, never_left, own_call, still, answers}
use Rattle.meet_overlap.proofs.Effects.{NewPair, Leaves, Effect, effect, IsWell, well_stays}
use Rattle.meet_overlap.proofs.Giving.{GivesOne, GivesNone, gives_or_not, gives_by}
use Rattle.meet_overlap.proofs.InLine.{IsUnmixed, IsOrdered, none_front, alone_giver, alone_taker, met_first, ComesFirst, IsKept, finds_one, leaves_by, kept_stays, own_entry, now_kept}
use Rattle.meet_overlap.proofs.Standing.{WasMet, was_met, LetsEnd, request_with, entry_with, IsStanding, stands_on, now_waiting, own_seen, unseen}
use Rattle.meet_overlap.proofs.Tables.{got_below}
use Rattle.meet_overlap.proofs.PassedTurns.{ComesAfter, never_first, HasBegun, comes_after, not_both, begun_then, begun_stays}
use Rattle.meet_overlap.proofs.Twice.{GetsBy, gets, opens, IsFresh, IsGiven, given_stays, met_entry, fresh_gives, fresh_line, fresh_pairs, still_giver, won, gives_other, takes_other}
use Rattle.meet_overlap.proofs.Watching.{Stands, IsWatched, too_early, watched}
use Rattle.meet_overlap.proofs.Ways.{put_same}

-- a giver met a taker, which got its item, and another taker waits
pub record IsTakerMet (caller : Verb) (answer : Answer) (met : Verb) (other : Answer) (waiting : Verb) (mark : ℕ) : Type 0 where
  pub gives : Gives caller mark
  pub went : answer ≡ Went
  pub takes : IsTaking met
  pub got : other ≡ GotItem mark
  pub none : item_of waiting ≡ None
  pub taking : IsTaking waiting

-- where a taker stands in the line, a giver whose item went meets one by its request
meets_one : (k : Kind) (s : State) (i t mark : ℕ) (verb : Verb) (d : Deed) → Gives verb mark → Begins verb d → IfSome (told_by d) (λ a. a ≡ Went) → IsStep k s i t d → IsUnmixed s.line →
    (f : Entry ℕ) → Contains s.line f → f.item ≡ None → (v : ℕ) × (d ≡ GiveMeets mark v)
meets_one k s i t mark (Take p) d gives b told step unmixed f there item = absurd gives
meets_one k s i t mark (InterruptSeat j) d gives b told step unmixed f there item = absurd gives
meets_one k s i t mark (Keep m) (GiveMeets n v) gives b told step unmixed f there item = (v, ap (λ y. GiveMeets y v) (b ∙ gives))
meets_one k s i t mark (Keep m) (GiveKept n) gives b told step unmixed f there item = absurd (alone_giver s.line (none_front (end_of k.order) s.line Giver step.1) unmixed f there item)
meets_one k s i t mark (Keep m) (GiveFails n) gives b told step unmixed f there item = absurd (cc)
meets_one k s i t mark (Keep m) d gives b told step unmixed f there item = absurd b
meets_one k s i t mark (Give p m) (GiveMeets n v) gives b told step unmixed f there item = (v, ap (λ y. GiveMeets y v) (b ∙ gives))
meets_one k s i t mark (Give Now m) (GiveFails n) gives b told step unmixed f there item = absurd (cc)
meets_one k s i t mark (Give Forever m) (GiveWaits n) gives b told step unmixed f there item = absurd (alone_giver s.line (none_front (end_of k.order) s.line Giver step.1) unmixed f there item)
meets_one k s i t mark (Give Timed m) (GiveWaits n) gives b told step unmixed f there item = absurd (alone_giver s.line (none_front (end_of k.order) s.line Giver step.1) unmixed f there item)
meets_one k s i t mark (Give Forever m) (EntryInterrupted Giver) gives b told step unmixed f there item = absurd (cc)
meets_one k s i t mark (Give Timed m) (EntryInterrupted Giver) gives b told step unmixed f there item = absurd (cc)
meets_one k s i t mark (Give p m) d gives b told step unmixed f there item = absurd b

-- how a giver whose item went makes its request: it waits, meets a taker, or its item is kept
abbrev Requests : Verb → (mark : ℕ) → Deed → Type 0
Requests verb mark d = ((d ≡ GiveWaits mark) × (item_of verb ≡ Some mark) × WasMet verb Went) ⊎ (((v : ℕ) × (d ≡ GiveMeets mark v)) ⊎ (d ≡ GiveKept mark))

requests : (mark : ℕ) (verb : Verb) (d : Deed) → Gives verb mark → Begins verb d → IfSome (told_by d) (λ a. a ≡ Went) → Requests verb mark d
requests mark (Take p) d gives b told = absurd gives
requests mark (InterruptSeat j) d gives b told = absurd gives
requests mark (Keep m) (GiveMeets n v) gives b told = inr (inl (v, ap (λ y. GiveMeets y v) (b ∙ gives)))
requests mark (Keep m) (GiveKept n) gives b told = inr (inr (ap GiveKept (b ∙ gives)))
requests mark (Keep m) (GiveFails n) gives b told = absurd (cc)
requests mark (Keep m) d gives b told = absurd b
requests mark (Give p m) (GiveMeets n v) gives b told = inr (inl (v, ap (λ y. GiveMeets y v) (b ∙ gives)))
requests mark (Give Now m) (GiveFails n) gives b told = absurd (cc)
requests mark (Give Forever m) (GiveWaits n) gives b told = inl (ap GiveWaits (b ∙ gives), ap Some gives, tt)
requests mark (Give Timed m) (GiveWaits n) gives b told = inl (ap GiveWaits (b ∙ gives), ap Some gives, tt)
requests mark (Give Forever m) (EntryInterrupted Giver) gives b told = absurd (cc)
requests mark (Give Timed m) (EntryInterrupted Giver) gives b told = absurd (cc)
requests mark (Give p m) d gives b told = absurd b

lets_giver : (verb : Verb) (mark t : ℕ) (p : Pair) → Gives verb mark → LetsEnd verb Went t p → p.giver ≡ t
lets_giver (Keep m) mark t p gives lets = absurd lets
lets_giver (Give q m) mark t p gives lets = lets
lets_giver (Take q) mark t p gives lets = absurd gives
lets_giver (InterruptSeat j) mark t p gives lets = absurd gives

-- the first deed of a call that takes is a request
taker_asks : (verb : Verb) (d : Deed) → IsTaking verb → Begins verb d → is_request d ≡ true
taker_asks (Keep m) d taking b = absurd taking
taker_asks (Give p m) d taking b = absurd taking
taker_asks (InterruptSeat j) d taking b = absurd taking
taker_asks (Take p) (TakeMeets n v) taking b = refl
taker_asks (Take Now) TakeFails taking b = refl
taker_asks (Take Forever) TakeWaits taking b = refl
taker_asks (Take Timed) TakeWaits taking b = refl
taker_asks (Take Forever) (EntryInterrupted Taker) taking b = refl
taker_asks (Take Timed) (EntryInterrupted Taker) taking b = refl
taker_asks (Take p) d taking b = absurd b

-- the ticket of a request is the last one
asked_last : (s : State) (i t : ℕ) (d : Deed) → is_request d ≡ true → (after s i t d).last ≡ t
asked_last s i t (GiveWaits m) is = refl
asked_last s i t (GiveMeets m v) is = refl
asked_last s i t (GiveFails m) is = refl
asked_last s i t (GiveKept m) is = refl
asked_last s i t TakeWaits is = refl
asked_last s i t (TakeMeets m v) is = refl
asked_last s i t TakeFails is = refl
asked_last s i t (EntryInterrupted side) is = refl
asked_last s i t d is = absurd (cc)

-- a call waits behind its request alone
was_ahead : (stage : Stage) (r : Record Deed) (t : ℕ) → stage_after stage r ≡ Open t → stage ≡ Ahead
was_ahead Ahead r t is = refl
was_ahead (Open v) r t is = absurd (cc)
was_ahead Over r t is = absurd (cc)

module _ (k : Kind) (calls : List Call) (u : IsPassed k calls) (g : IsTakerMet u.caller.call.verb u.caller.returned.answer u.met.call.verb u.met.returned.answer u.waiting.call.verb u.mark) where
  was : WasMet u.waiting.call.verb u.waiting.returned.answer
  was = was_met calls u.caller.returned.at u.waiting.call.verb u.waiting.returned.answer u.unmet

  asks : (d : Deed) → Begins u.met.call.verb d → is_request d ≡ true
  asks d b = taker_asks u.met.call.verb d g.takes b

  -- the caller alone gives the item
  pub only : (n : ℕ) (c : Call) → slice_get calls n ≡ Some c → Gives c.verb u.mark → n ≡ u.caller.number
  only n c known gives =
      u.only n c (got_below calls n c known) known gives ∙ sym (u.only u.caller.number u.caller.call (got_below calls u.caller.number u.caller.call u.caller.known) u.caller.known g.gives)

  abbrev IsNew : State → (ℕ → Stage) → Type 0
  IsNew s stages = IsFresh k calls u.mark u.caller.number only s stages

  -- the one that is met is ahead, where the first one's turn comes first
  abbrev NotYet : End → Stage → Type 0
  NotYet Front stage = stage ≡ Ahead
  NotYet Back stage = Unit {0}

  pub record IsBefore (s : State) (stages : ℕ → Stage) : Type 0 where
    pub fresh : IsNew s stages
    pub going : stages u.met.number ≡ Over → ⊥
    pub low : (t : ℕ) → stages u.met.number ≡ Open t → t ≤ s.last
    pub early : NotYet (end_of k.order) (stages u.met.number)

  -- the one that is met comes after the one that waits
  pub record IsThere (s : State) (stages : ℕ → Stage) (x : ℕ) : Type 0 where
    pub fresh : IsNew s stages
    pub going : stages u.met.number ≡ Over → ⊥
    pub waits : (t : ℕ) → stages u.met.number ≡ Open t → ComesAfter (end_of k.order) t x
    pub begun : HasBegun (end_of k.order) (stages u.met.number)

  module _ (e : Event) (events : List Event) (s : State) (time : ℕ) (stages : ℕ → Stage) (c : IsCourse k calls s time stages (e ∷ events)) where
    h : Happens k calls s time stages e
    h = happens k calls s time stages e events c

    f : Effect s (after_event s e) e.entry.ticket e.entry.deed
    f = effect k s e.entry.seat e.entry.ticket e.entry.deed h.step

    mine : e.call ≡ u.met.number → Moves u.met.call (stages e.call) e.entry
    mine at = subst (λ z. Moves z (stages e.call) e.entry) (own_call k calls u.met e at h.of) h.moves

    after_mine : e.call ≡ u.met.number → (stage : Stage) → later stages e u.met.number ≡ stage → stage_after (stages e.call) e.entry ≡ stage
    after_mine at stage is = sym (put_same stages e.call (stage_after (stages e.call) e.entry)) ∙ ap (later stages e) at ∙ is

    -- another call than the caller gives no such item
    fresh_on : e.call ≢ u.caller.number → IsNew s stages → IsNew (after_event s e) (later stages e)
    fresh_on other fresh =
        let none : GivesNone u.mark e.entry.deed = ⊎_elim
        (λ one. absurd (other (only e.call h.of.call h.of.known (gives_by u.mark h.of.call (stages e.call) e.entry h.moves one))))
        (λ none. none)
        (gives_or_not u.mark e.entry.deed) in
        record {
          ahead = still_giver k calls u.mark u.caller.number only e s time stages h other ∙ fresh.ahead;
          line = fresh_line k calls u.mark u.caller.number only e s time stages h fresh none;
          pairs = fresh_pairs k calls u.mark u.caller.number only e s time stages h fresh none;
        }

    -- so the one that is met doesn't end
    gets_none : IsNew s stages → (stage : Stage) → GetsBy u.mark s stage e.entry.deed → ⊥
    gets_none fresh Ahead by =
        let q = met_entry k calls u.mark u.caller.number only s e.entry.seat e.entry.ticket by.0 (subst (IsStep k s e.entry.seat e.entry.ticket) by.1 h.step) in
        fresh.line q.0 q.1 q.2
    gets_none fresh (Open t) by = fresh.pairs (record { giver = by.0; taker = t; mark = u.mark }) by.1 refl
    gets_none fresh Over by = by

    going_on : IsNew s stages → (stages u.met.number ≡ Over → ⊥) → later stages e u.met.number ≡ Over → ⊥
    going_on fresh going over = ⊎_elim
        (λ at. gets_none fresh (stages e.call) (gets k calls u.met g.takes u.mark g.got s (stages e.call) e.entry (mine at.1) h.step (after_mine at.1 Over over)))
        (λ apart. going (sym (still k calls u.met stages e apart.1) ∙ over))
        (eqb_tells e.call u.met.number)

    new_open : e.call ≡ u.met.number → (t : ℕ) → later stages e u.met.number ≡ Open t → (e.entry.ticket ≡ t) × (s.last < t)
    new_open at t is = opens k calls u.met g.takes u.mark g.got s (stages e.call) e.entry t (mine at) h.step (after_mine at (Open t) is)

    -- its ticket isn't above the last one
    last_is : (t : ℕ) → e.call ≡ u.met.number → later stages e u.met.number ≡ Open t → t ≤ (after_event s e).last
    last_is t at is =
        let ticket = (new_open at t is).0 in
        let ahead = was_ahead (stages e.call) e.entry t (after_mine at (Open t) is) in
        let moves : Moves u.met.call Ahead e.entry = subst (λ y. Moves u.met.call y e.entry) ahead (mine at) in
        let last = asked_last s e.entry.seat e.entry.ticket e.entry.deed (taker_asks u.met.call.verb e.entry.deed g.takes moves.0) in
        omega arith

    goes : stages u.waiting.number ≡ Ahead → e.call ≢ u.waiting.number → e.call ≢ u.caller.number → IsBefore s stages → IsBefore (after_event s e) (later stages e)
    goes ahead other not_caller b = record {
      fresh = fresh_on not_caller b.fresh;
      going = going_on b.fresh b.going;
      low = λ t is. ⊎_elim
          (λ at. last_is t at.1 is)
          (λ apart. let low = b.low t (sym (still k calls u.met stages e apart.1) ∙ is) in let last = f.last in omega arith)
          (eqb_tells e.call u.met.number);
      early = by_end (end_of k.order) u.behind b.early;
    }
      where
        by_end : (end : End) → IsBehind end u.seen u.waiting.call u.caller.call u.met.call → NotYet end (stages u.met.number) → NotYet end (later stages e u.met.number)
        by_end Front behind early = ⊎_elim
            (λ at.
            let own : h.of.call.begin ≡ u.met.call.begin = ap (λ (z : Call). z.begin) (own_call k calls u.met e at.1 h.of) in
            let begun = h.of.within.begun in
            absurd (unseen k calls u.waiting was u.seen u.waits events (after_event s e) e.time (later stages e) (still k calls u.waiting stages e other ∙ ahead) (omega arith) (goes_on k calls s time stages e events c)))
            (λ apart. still k calls u.met stages e apart.1 ∙ early)
            (eqb_tells e.call u.met.number)
        by_end Back behind early = tt

    -- the one that is met comes after the one that waits was seen
    met_late : u.seen < u.met.call.begin → stages u.waiting.number ≡ Ahead → e.call ≢ u.waiting.number → e.call ≡ u.met.number → ⊥
    met_late behind ahead other at =
        let own : h.of.call.begin ≡ u.met.call.begin = ap (λ (z : Call). z.begin) (own_call k calls u.met e at h.of) in
        let begun = h.of.within.begun in
        unseen k calls u.waiting was u.seen u.waits events (after_event s e) e.time (later stages e) (still k calls u.waiting stages e other ∙ ahead) (omega arith) (goes_on k calls s time stages e events c)

    -- the one that waits joins a line in which no giver is met
    joins_none : stages u.waiting.number ≡ Ahead → e.call ≡ u.waiting.number → partner (end_of k.order) s.line Taker ≡ None
    joins_none ahead at =
        let deed = (own_seen k calls u.waiting was u.seen u.waits e s time stages ahead h at).0 ∙ ap request_with g.none in
        let step : IsStep k s e.entry.seat e.entry.ticket TakeWaits = subst (IsStep k s e.entry.seat e.entry.ticket) deed h.step in
        step.1

    -- where it waits already, its turn comes after the new one's
    comes_before : (end : End) → NotYet end (stages u.met.number) → (t : ℕ) → stages u.met.number ≡ Open t → t ≤ s.last → s.last < e.entry.ticket → ComesAfter end t e.entry.ticket
    comes_before Front early t is low above = let q = sym early ∙ is in absurd (cc)
    comes_before Back early t is low above = omega arith

    joins : stages u.waiting.number ≡ Ahead → e.call ≡ u.waiting.number → e.call ≢ u.caller.number → s.last < e.entry.ticket → IsBefore s stages → IsThere (after_event s e) (later stages e) e.entry.ticket
    joins ahead at not_caller above b =
        let other : e.call ≢ u.met.number = λ same. not_both k calls u asks e events s time stages c ahead at same (end_of k.order) u.behind in
        record {
          fresh = fresh_on not_caller b.fresh;
          going = going_on b.fresh b.going;
          waits = λ t is. let was : stages u.met.number ≡ Open t = sym (still k calls u.met stages e other) ∙ is in comes_before (end_of k.order) b.early t was (b.low t was) above;
          begun = begun_then k calls u asks e events s time stages c at (end_of k.order) u.behind;
        }

    stays : (x : ℕ) → x ≤ s.last → e.call ≢ u.caller.number → IsThere s stages x → IsThere (after_event s e) (later stages e) x
    stays x low not_caller b = record {
      fresh = fresh_on not_caller b.fresh;
      going = going_on b.fresh b.going;
      waits = λ t is. ⊎_elim
          (λ at.
          let new = (new_open at.1 t is).1 in
          comes_after (end_of k.order) (stages u.met.number) t x b.begun (ap stages (sym at.1) ∙ was_ahead (stages e.call) e.entry t (after_mine at.1 (Open t) is)) (omega arith))
          (λ apart. b.waits t (sym (still k calls u.met stages e apart.1) ∙ is))
          (eqb_tells e.call u.met.number);
      begun = begun_stays k calls u asks e events s time stages c (end_of k.order) b.begun;
    }

    -- the caller's request meets another than the one that is met, which can't get the item any more
    ends : (entry : Entry ℕ) → Stands k calls u.waiting u.caller u.seen u.waits u.unmet s stages entry → stages u.caller.number ≡ Ahead → e.call ≡ u.caller.number → IsThere s stages entry.ticket → ⊥
    ends entry b ahead at known =
        let stage : stages e.call ≡ Ahead = ap stages at ∙ ahead in
        let moves : Moves u.caller.call Ahead e.entry = subst (λ y. Moves u.caller.call y e.entry) stage (subst (λ y. Moves y (stages e.call) e.entry) (own_call k calls u.caller e at h.of) h.moves) in
        let q = meets_one k s e.entry.seat e.entry.ticket u.mark u.caller.call.verb e.entry.deed g.gives moves.0 (answers k calls u.caller Went g.went e.entry.deed moves.1) h.step b.ordered.unmixed entry b.there (b.items entry b.there refl ∙ g.none) in
        let step : IsStep k s e.entry.seat e.entry.ticket (GiveMeets u.mark q.0) = subst (IsStep k s e.entry.seat e.entry.ticket) q.1 h.step in
        let turn = met_first (end_of k.order) s.line Giver step.1.0 step.1.1 b.ordered.sorted entry b.there in
        let one : GivesOne u.mark e.entry.deed = subst (GivesOne u.mark) (sym q.1) refl in
        let own : Pair = record { giver = e.entry.ticket; taker = q.0; mark = u.mark } in
        let not_met : e.call ≢ u.met.number = λ same. gives_none u.met.call.verb g.takes (subst (λ (y : Call). Gives y.verb u.mark) (sym (own_call k calls u.caller e at h.of) ∙ own_call k calls u.met e same h.of) g.gives) in
        won k calls u.mark u.caller.number only u.met g.takes g.got events (after_event s e) e.time (later stages e) (record {
          well = well_stays k s e.entry.seat e.entry.ticket e.entry.deed b.well h.step;
          given = inr (fresh_gives k calls u.mark u.caller.number only e s time stages h known.fresh one);
          pair = own;
          there = subst (λ d. Contains (after s e.entry.seat e.entry.ticket d).pairs own) (sym q.1) (Contains-push s.pairs own);
          is = refl;
          going = λ over. known.going (sym (still k calls u.met stages e not_met) ∙ over);
          other = λ t is same.
              let after = known.waits t (sym (still k calls u.met stages e not_met) ∙ is) in
              let ticket : step.1.0.ticket ≡ t = step.1.2 ∙ same in
              never_first (end_of k.order) t entry.ticket (subst (λ y. ComesFirst (end_of k.order) y entry.ticket) ticket turn) after;
        }) (goes_on k calls s time stages e events c)
      where
        gives_none : (verb : Verb) → IsTaking verb → Gives verb u.mark → ⊥
        gives_none (Keep n) taking gives = taking
        gives_none (Give p n) taking gives = taking
        gives_none (Take p) taking gives = gives
        gives_none (InterruptSeat j) taking gives = taking

  module _ (behind : u.seen < u.met.call.begin) where
    -- the one that waits and the one that is met are ahead, and the item was given or not
    pub record AreEarly (s : State) (stages : ℕ → Stage) : Type 0 where
      pub first : stages u.waiting.number ≡ Ahead
      pub other : stages u.met.number ≡ Ahead
      pub given : IsGiven k calls u.mark u.caller.number only s stages

    early_on : (e : Event) (events : List Event) (s : State) (time : ℕ) (stages : ℕ → Stage) → IsCourse k calls s time stages (e ∷ events) → e.call ≢ u.waiting.number → e.call ≢ u.met.number → AreEarly s stages → AreEarly (after_event s e) (later stages e)
    early_on e events s time stages c not_waiting not_met b = record {
      first = still k calls u.waiting stages e not_waiting ∙ b.first;
      other = still k calls u.met stages e not_met ∙ b.other;
      given = given_stays k calls u.mark u.caller.number only e s time stages (happens k calls s time stages e events c) b.given;
    }

    ends_ahead : (s : State) (stages : ℕ → Stage) (time : ℕ) → AreEarly s stages → IsCourse k calls s time stages [] → ⊥
    ends_ahead s stages time b c = never_left k calls u.waiting (stages u.waiting.number) (λ over. let q = sym b.first ∙ over in absurd (cc)) (c.formed u.waiting.number u.waiting.call u.waiting.known)

    -- the caller waits, and the one that waits later isn't there yet
    meanwhile : (events : List Event) (s : State) (time : ℕ) (stages : ℕ → Stage) (entry : Entry ℕ) (met : WasMet u.caller.call.verb u.caller.returned.answer) → item_of u.caller.call.verb ≡ Some u.mark → IsStanding k calls u.caller met s stages entry →
        AreEarly s stages → IsCourse k calls s time stages events → ⊥
    meanwhile [] s time stages entry met item b known c = ends_ahead s stages time known c
    meanwhile (e ∷ events) s time stages entry met item b known c = ⊎_elim
        (λ at. alone_taker s.line (none_front (end_of k.order) s.line Taker (joins_none e events s time stages c known.first at.1)) b.ordered.unmixed entry u.mark b.there (b.items entry b.there refl ∙ item))
        (λ other. ⊎_elim
        (λ at. met_late e events s time stages c behind known.first other.1 at.1)
        (λ not_met. meanwhile events (after_event s e) e.time (later stages e) entry met item
        (stands_on k calls u.caller met e events s time stages entry b c (λ p new lets. no_pair not_met.1 p (lets_giver u.caller.call.verb u.mark entry.ticket p g.gives (subst (λ y. LetsEnd u.caller.call.verb y entry.ticket p) g.went lets)) e.entry.deed refl new))
        (early_on e events s time stages c other.1 not_met.1 known) (goes_on k calls s time stages e events c))
        (eqb_tells e.call u.met.number))
        (eqb_tells e.call u.waiting.number)
      where
        h : Happens k calls s time stages e
        h = happens k calls s time stages e events c

        no_pair : e.call ≢ u.met.number → (p : Pair) → p.giver ≡ entry.ticket → (d : Deed) → e.entry.deed ≡ d → NewPair d e.entry.ticket p → ⊥
        no_pair not_met p same (GiveMeets n v) is new =
            let step : IsStep k s e.entry.seat e.entry.ticket (GiveMeets n v) = subst (IsStep k s e.entry.seat e.entry.ticket) is h.step in
            let above = step.0.above in let low = b.waits.low in
            let giver : p.giver ≡ e.entry.ticket = ap (λ (y : Pair). y.giver) new in absurd (omega arith)
        no_pair not_met p same (TakeMeets n v) is new =
            let step : IsStep k s e.entry.seat e.entry.ticket (TakeMeets n v) = subst (IsStep k s e.entry.seat e.entry.ticket) is h.step in
            let there = Contains-partner (end_of k.order) s.line Taker step.1.0 step.1.1 in
            let giver : p.giver ≡ v = ap (λ (y : Pair). y.giver) new in
            let mine = b.items step.1.0 there (step.1.2 ∙ sym giver ∙ same) ∙ item in
            let mark : n ≡ u.mark = let q = sym step.1.3 ∙ mine in cc in
            takes_other k calls u.mark u.caller.number only u.met g.takes g.got e events s time stages c b.well known.given known.other not_met v (is ∙ ap (λ y. TakeMeets y v) mark)
        no_pair not_met p same d is new = new

    -- the caller's item is kept, and the one that waits later isn't there yet
    is_kept : (front : end_of k.order ≡ Front) (events : List Event) (s : State) (time : ℕ) (stages : ℕ → Stage) (entry : Entry ℕ) → IsKept k front u.mark s entry → AreEarly s stages → IsCourse k calls s time stages events → ⊥
    is_kept front [] s time stages entry b known c = ends_ahead s stages time known c
    is_kept front (e ∷ events) s time stages entry b known c = ⊎_elim
        (λ at. finds_one k front u.mark s entry b (joins_none e events s time stages c known.first at.1))
        (λ other. ⊎_elim
        (λ at. met_late e events s time stages c behind known.first other.1 at.1)
        (λ not_met.
        let h = happens k calls s time stages e events c in
        let stays : Leaves e.entry.deed e.entry.ticket entry.ticket → ⊥ = λ leaves.
        let q = leaves_by k front u.mark s entry b e.entry.seat e.entry.ticket e.entry.deed h.step leaves in
        takes_other k calls u.mark u.caller.number only u.met g.takes g.got e events s time stages c b.well known.given known.other not_met.1 q.0 q.1 in
        is_kept front events (after_event s e) e.time (later stages e) entry (kept_stays k front u.mark s entry b e.entry.seat e.entry.ticket e.entry.deed h.step stays)
        (early_on e events s time stages c other.1 not_met.1 known) (goes_on k calls s time stages e events c))
        (eqb_tells e.call u.met.number))
        (eqb_tells e.call u.waiting.number)

  gives_none : (verb : Verb) → IsTaking verb → Gives verb u.mark → ⊥
  gives_none (Keep n) taking gives = taking
  gives_none (Give p n) taking gives = taking
  gives_none (Take p) taking gives = gives
  gives_none (InterruptSeat j) taking gives = taking

  -- the caller makes its request before the one that waits
  early : (e : Event) (events : List Event) (s : State) (time : ℕ) (stages : ℕ → Stage) → IsCourse k calls s time stages (e ∷ events) → IsWell s → IsOrdered s → stages u.waiting.number ≡ Ahead → stages u.caller.number ≡ Ahead →
      e.call ≢ u.waiting.number → e.call ≡ u.caller.number → (end : End) → end_of k.order ≡ end → IsBehind end u.seen u.waiting.call u.caller.call u.met.call → NotYet end (stages u.met.number) → IsNew s stages → ⊥
  early e events s time stages c well ordered ahead mine other at Back is behind late fresh = too_early k calls u.waiting u.caller u.seen u.waits u.unmet behind.3 e events s time stages c ahead other at
  early e events s time stages c well ordered ahead mine other at Front front behind late fresh = ⊎_elim
      (λ q. meanwhile behind events (after_event s e) e.time (later stages e) (entry_with e.entry.seat e.entry.ticket (item_of u.caller.call.verb)) (met_by q.2) q.1
      (now_waiting k calls u.caller (met_by q.2) e s time stages well ordered mine h at (q.0 ∙ ap request_with (sym q.1)))
      (early_on behind e events s time stages c other not_met known) (goes_on k calls s time stages e events c))
      (λ r. ⊎_elim
      (λ q. gives_other k calls u.mark u.caller.number only u.met g.takes g.got e events s time stages c well (inl fresh) late not_met q.0 q.1)
      (λ q.
      let step : IsStep k s e.entry.seat e.entry.ticket (GiveKept u.mark) = subst (IsStep k s e.entry.seat e.entry.ticket) q h.step in
      is_kept behind front events (after_event s e) e.time (later stages e) (own_entry k front u.mark e.entry.seat e.entry.ticket)
      (subst (λ d. IsKept k front u.mark (after s e.entry.seat e.entry.ticket d) (own_entry k front u.mark e.entry.seat e.entry.ticket)) (sym q) (now_kept k front u.mark s e.entry.seat e.entry.ticket well ordered step))
      (early_on behind e events s time stages c other not_met known) (goes_on k calls s time stages e events c))
      r)
      (requests u.mark u.caller.call.verb e.entry.deed g.gives moves.0 (answers k calls u.caller Went g.went e.entry.deed moves.1))
    where
      h : Happens k calls s time stages e
      h = happens k calls s time stages e events c

      moves : Moves u.caller.call Ahead e.entry
      moves = subst (λ y. Moves u.caller.call y e.entry) (ap stages at ∙ mine) (subst (λ y. Moves y (stages e.call) e.entry) (own_call k calls u.caller e at h.of) h.moves)

      not_met : e.call ≢ u.met.number
      not_met same = gives_none u.met.call.verb g.takes (subst (λ (y : Call). Gives y.verb u.mark) (sym (own_call k calls u.caller e at h.of) ∙ own_call k calls u.met e same h.of) g.gives)

      known : AreEarly behind s stages
      known = record { first = ahead; other = late; given = inl fresh }

      met_by : WasMet u.caller.call.verb Went → WasMet u.caller.call.verb u.caller.returned.answer
      met_by q = subst (WasMet u.caller.call.verb) (sym g.went) q

  apart : u.waiting.number ≡ u.caller.number → ⊥
  apart same =
      let mine : slice_get calls u.caller.number ≡ Some u.waiting.call = subst (λ n. slice_get calls n ≡ Some u.waiting.call) same u.waiting.known in
      let theirs = u.caller.known in
      let is : u.caller.call ≡ u.waiting.call = cc in
      both u.waiting.call.verb g.taking (subst (λ (y : Call). Gives y.verb u.mark) is g.gives)
    where
      both : (verb : Verb) → IsTaking verb → Gives verb u.mark → ⊥
      both (Keep n) taking gives = taking
      both (Give p n) taking gives = taking
      both (Take p) taking gives = gives
      both (InterruptSeat j) taking gives = taking

  watch : IsWatched k calls u.waiting u.caller u.seen u.waits u.unmet IsBefore IsThere
  watch = record {
    goes = λ e events s time stages c ahead other not_caller known. goes e events s time stages c ahead other not_caller known;
    joins = λ e events s time stages c well ahead at not_caller above known. joins e events s time stages c ahead at not_caller above known;
    early = λ e events s time stages c well ordered ahead mine other at known. early e events s time stages c well ordered ahead mine other at (end_of k.order) refl u.behind known.early known.fresh;
    stays = λ e events s time stages c entry b not_caller known. stays e events s time stages c entry.ticket b.waits.low not_caller known;
    ends = λ e events s time stages c entry b ahead at known. ends e events s time stages c entry b ahead at known;
  }

  none_yet : (end : End) → NotYet end Ahead
  none_yet Front = refl
  none_yet Back = tt

  pub taker_passed : (history : List (Record Deed)) → Explains k calls history → ⊥
  taker_passed = watched k calls u.waiting u.caller u.seen u.waits u.unmet IsBefore IsThere watch apart (record {
    fresh = record { ahead = refl; line = λ e there item. Contains-nil e there; pairs = λ p there is. Contains-nil p there };
    going = λ over. absurd (cc);
    low = λ t is. absurd (cc);
    early = none_yet (end_of k.order);
  })
