-- If a call found nobody although one of the other side waited all the time, no history explains the calls.
use Rattle.std.proofs.Common.{◌≡◌, ◌≢◌, ℕ, Some, List, [], ◌∷◌, Contains, refl, sym, ap, ◌∙◌, subst, ⊎_elim, arith}
use Rattle.std.specs.Prelude.{slice_get, IfSome}
use Rattle.std.proofs.lemmas.Bool.{cases_lt}
use Rattle.std.proofs.lemmas.Bool.Decides.{eqb_tells}
use Rattle.meet_tickets.specs.declared.lines.Entry.{Entry}
use Rattle.meet_tickets.specs.declared.places.Kind.{Kind}
use Rattle.meet_tickets.specs.declared.places.Side.TheVariants.{Giver, Taker}
use Rattle.meet_tickets.specs.declared.records.Record.{Record}
use Rattle.meet_tickets.specs.declared.records.Deed.{Deed}
use Rattle.meet_tickets.specs.declared.records.Deed.TheVariants.{GiveWaits, GiveMeets, GiveFails, TakeWaits, TakeMeets, TakeFails, EntryInterrupted}
use Rattle.meet_tickets.specs.Meeting.{end_of}
use Rattle.meet_tickets.specs.ByLists.{State, empty, IsStep}
use Rattle.meet_overlap.specs.declared.calls.Answer.{Answer}
use Rattle.meet_overlap.specs.declared.calls.Answer.TheVariants.{Nothing, Expired as TimeRanOut}
use Rattle.meet_overlap.specs.declared.calls.Patience.TheVariants.{Now, Timed}
use Rattle.meet_overlap.specs.declared.calls.Call.{Call}
use Rattle.meet_overlap.specs.declared.calls.Stage.{Stage}
use Rattle.meet_overlap.specs.declared.calls.Stage.TheVariants.{Ahead, Over}
use Rattle.meet_overlap.specs.declared.calls.Verb.{Verb}
use Rattle.meet_overlap.specs.declared.calls.Verb.TheVariants.{Give, Take}
use Rattle.meet_overlap.specs.Calls.{Begins, Moves, told_by}
use Rattle.meet_overlap.specs.Explaining.{Event, Explains}
use Rattle.meet_overlap.specs.Reasons.{Misses, IsMissed, item_of}
use Rattle.meet_overlap.proofs.Courses.{Happens, IsCourse, later, after_event, happens, goes_on, whole_course, never_left, own_call, still, too_late, answers}
use Rattle.meet_overlap.proofs.Effects.{IsWell, well_stays, well_empty}
use Rattle.meet_overlap.proofs.InLine.{IsUnmixed, IsOrdered, ordered_stays, ordered_empty, none_front, alone_giver, alone_taker}
use Rattle.meet_overlap.proofs.Standing.{WasMet, was_met, IsUnmetYet, unmet_stays, unmet_empty, IsStanding, stands, unseen, now_standing, entry_with}

-- a call that finds nobody makes its request where none of the other side stands
alone : (k : Kind) (s : State) (i t : ℕ) (verb : Verb) (answer : Answer) (other : Verb) (d : Deed) → Misses verb answer other → Begins verb d → IfSome (told_by d) (λ a. a ≡ answer) → IsStep k s i t d → IsUnmixed s.line →
    (f : Entry ℕ) → Contains s.line f → f.item ≡ item_of other → ⊥
alone k s i t (Take Now) Nothing (Give p m) (TakeMeets n v) misses b told step unmixed f there item = absurd (cc)
alone k s i t (Take Now) Nothing (Give p m) TakeFails misses b told step unmixed f there item = alone_taker s.line (none_front (end_of k.order) s.line Taker step.1) unmixed f m there item
alone k s i t (Take Now) Nothing (Give p m) d misses b told step unmixed f there item = absurd b
alone k s i t (Take Timed) TimeRanOut (Give p m) (TakeMeets n v) misses b told step unmixed f there item = absurd (cc)
alone k s i t (Take Timed) TimeRanOut (Give p m) TakeWaits misses b told step unmixed f there item = alone_taker s.line (none_front (end_of k.order) s.line Taker step.1) unmixed f m there item
alone k s i t (Take Timed) TimeRanOut (Give p m) (EntryInterrupted Taker) misses b told step unmixed f there item = absurd (cc)
alone k s i t (Take Timed) TimeRanOut (Give p m) d misses b told step unmixed f there item = absurd b
alone k s i t (Give Now n) Nothing (Take p) (GiveMeets m v) misses b told step unmixed f there item = absurd (cc)
alone k s i t (Give Now n) Nothing (Take p) (GiveFails m) misses b told step unmixed f there item = alone_giver s.line (none_front (end_of k.order) s.line Giver step.1) unmixed f there item
alone k s i t (Give Now n) Nothing (Take p) d misses b told step unmixed f there item = absurd b
alone k s i t (Give Timed n) TimeRanOut (Take p) (GiveMeets m v) misses b told step unmixed f there item = absurd (cc)
alone k s i t (Give Timed n) TimeRanOut (Take p) (GiveWaits m) misses b told step unmixed f there item = alone_giver s.line (none_front (end_of k.order) s.line Giver step.1) unmixed f there item
alone k s i t (Give Timed n) TimeRanOut (Take p) (EntryInterrupted Giver) misses b told step unmixed f there item = absurd (cc)
alone k s i t (Give Timed n) TimeRanOut (Take p) d misses b told step unmixed f there item = absurd b
alone k s i t verb answer other d misses b told step unmixed f there item = absurd misses

-- the two are not one call
apart : (verb : Verb) (answer : Answer) → Misses verb answer verb → ⊥
apart (Take Now) Nothing misses = misses
apart (Take Timed) TimeRanOut misses = misses
apart (Give Now m) Nothing misses = misses
apart (Give Timed m) TimeRanOut misses = misses
apart verb answer misses = misses

module _ (k : Kind) (calls : List Call) (u : IsMissed calls) where
  was : WasMet u.waiting.call.verb u.waiting.returned.answer
  was = was_met calls u.caller.returned.at u.waiting.call.verb u.waiting.returned.answer u.unmet

  -- the call's own event, while it is ahead: none of the other side stands there
  finds_nobody : (e : Event) (s : State) (time : ℕ) (stages : ℕ → Stage) → Happens k calls s time stages e → e.call ≡ u.caller.number → stages u.caller.number ≡ Ahead → IsUnmixed s.line → (f : Entry ℕ) → Contains s.line f → f.item ≡ item_of u.waiting.call.verb → ⊥
  finds_nobody e s time stages h at ahead unmixed f there item =
      let stage : stages e.call ≡ Ahead = ap stages at ∙ ahead in
      let moves : Moves u.caller.call Ahead e.entry = subst (λ y. Moves u.caller.call y e.entry) stage (subst (λ y. Moves y (stages e.call) e.entry) (own_call k calls u.caller e at h.of) h.moves) in
      alone k s e.entry.seat e.entry.ticket u.caller.call.verb u.caller.returned.answer u.waiting.call.verb e.entry.deed u.misses moves.0 (answers k calls u.caller u.caller.returned.answer refl e.entry.deed moves.1) h.step unmixed f there item

  never_over : (stages : ℕ → Stage) → stages u.caller.number ≡ Ahead → stages u.caller.number ≡ Over → ⊥
  never_over stages ahead over = let q = sym ahead ∙ over in absurd (cc)

  -- what is known of a moment, since none can have met it
  abbrev IsUnmetNow : State → (time : ℕ) → (ℕ → Stage) → Type 0
  IsUnmetNow s time stages = IsUnmetYet k calls u.caller.returned.at u.waiting.call.verb u.waiting.returned.answer u.unmet s time stages

  unmet_on : (e : Event) (s : State) (time : ℕ) (stages : ℕ → Stage) → IsWell s → Happens k calls s time stages e → IsUnmetNow s time stages → IsUnmetNow (after_event s e) e.time (later stages e)
  unmet_on e s time stages well h yet = unmet_stays k calls u.caller.returned.at u.waiting.call.verb u.waiting.returned.answer u.unmet e s time stages well h yet

  -- it stands in the line, and the call is ahead
  there_it_is : (events : List Event) (s : State) (time : ℕ) (stages : ℕ → Stage) (entry : Entry ℕ) → IsStanding k calls u.waiting was s stages entry → IsUnmetNow s time stages → stages u.caller.number ≡ Ahead → IsCourse k calls s time stages events → ⊥
  there_it_is [] s time stages entry b yet ahead c = never_left k calls u.caller (stages u.caller.number) (never_over stages ahead) (c.formed u.caller.number u.caller.call u.caller.known)
  there_it_is (e ∷ events) s time stages entry b yet ahead c =
      let h = happens k calls s time stages e events c in
      ⊎_elim
      (λ q. finds_nobody e s time stages h q.1 ahead b.ordered.unmixed entry b.there (b.items entry b.there refl))
      (λ q.
      let on : later stages e u.caller.number ≡ Ahead = still k calls u.caller stages e q.1 ∙ ahead in
      ⊎_elim
      (λ late. too_late k calls u.caller events (after_event s e) e.time (later stages e) (never_over (later stages e) on) late (goes_on k calls s time stages e events c))
      (λ le. there_it_is events (after_event s e) e.time (later stages e) entry (stands k calls u.waiting was u.caller.returned.at u.unmet e events s time stages entry b yet c le) (unmet_on e s time stages b.well h yet) on (goes_on k calls s time stages e events c))
      (cases_lt u.caller.returned.at e.time))
      (eqb_tells e.call u.caller.number)

  -- both are ahead
  pub record IsBefore (s : State) (stages : ℕ → Stage) : Type 0 where
    pub well : IsWell s
    pub ordered : IsOrdered s
    pub waiting : stages u.waiting.number ≡ Ahead
    pub caller : stages u.caller.number ≡ Ahead

  -- the one that waits isn't the caller
  not_both : (e : Event) → e.call ≡ u.waiting.number → e.call ≢ u.caller.number
  not_both e at same =
      let mine : slice_get calls u.caller.number ≡ Some u.waiting.call = subst (λ n. slice_get calls n ≡ Some u.waiting.call) (sym at ∙ same) u.waiting.known in
      let theirs = u.caller.known in
      let is : u.waiting.call ≡ u.caller.call = cc in
      apart u.caller.call.verb u.caller.returned.answer (subst (λ (y : Call). Misses u.caller.call.verb u.caller.returned.answer y.verb) is u.misses)

  before_it : (events : List Event) (s : State) (time : ℕ) (stages : ℕ → Stage) → IsBefore s stages → IsUnmetNow s time stages → IsCourse k calls s time stages events → ⊥
  before_it [] s time stages b yet c = never_left k calls u.caller (stages u.caller.number) (never_over stages b.caller) (c.formed u.caller.number u.caller.call u.caller.known)
  before_it (e ∷ events) s time stages b yet c =
      let h = happens k calls s time stages e events c in
      ⊎_elim
      (λ q. there_it_is events (after_event s e) e.time (later stages e) (entry_with e.entry.seat e.entry.ticket (item_of u.waiting.call.verb))
      (now_standing k calls u.waiting was u.seen u.waits e s time stages b.well b.ordered b.waiting h q.1)
      (unmet_on e s time stages b.well h yet)
      (still k calls u.caller stages e (not_both e q.1) ∙ b.caller) (goes_on k calls s time stages e events c))
      (λ q. ⊎_elim
      (λ at.
      let begun = h.of.within.begun in
      let before = u.before in
      let mine : h.of.call.begin ≡ u.caller.call.begin = ap (λ (y : Call). y.begin) (own_call k calls u.caller e at.1 h.of) in
      unseen k calls u.waiting was u.seen u.waits events (after_event s e) e.time (later stages e) (still k calls u.waiting stages e q.1 ∙ b.waiting) (omega arith) (goes_on k calls s time stages e events c))
      (λ other. before_it events (after_event s e) e.time (later stages e) (record {
        well = well_stays k s e.entry.seat e.entry.ticket e.entry.deed b.well h.step;
        ordered = ordered_stays k s e.entry.seat e.entry.ticket e.entry.deed b.well b.ordered h.step;
        waiting = still k calls u.waiting stages e q.1 ∙ b.waiting;
        caller = still k calls u.caller stages e other.1 ∙ b.caller;
      }) (unmet_on e s time stages b.well h yet) (goes_on k calls s time stages e events c))
      (eqb_tells e.call u.caller.number))
      (eqb_tells e.call u.waiting.number)

-- so nothing explains the calls
pub missed_explains : (k : Kind) (calls : List Call) → IsMissed calls → (history : List (Record Deed)) → Explains k calls history → ⊥
missed_explains k calls u history explains =
    before_it k calls u explains.events empty 0 (λ n. Ahead) (record { well = well_empty; ordered = ordered_empty; waiting = refl; caller = refl }) (unmet_empty k calls u.caller.returned.at u.waiting.call.verb u.waiting.returned.answer u.unmet) (whole_course k calls history explains)
