-- A call was seen to wait before one of the other side began, and none can have met it by the end of that one: what
-- is true of the line by then is true where that one makes its request, while the first one stands there.
use Rattle.std.proofs.Common.{◌≡◌, ◌≢◌, ℕ, ◌<◌, Some, List, [], ◌∷◌, sym, ap, ◌∙◌, subst, ⊎_elim, arith, refl}
use Rattle.std.proofs.lemmas.Bool.{cases_lt}
use Rattle.std.proofs.lemmas.Bool.Decides.{eqb_tells}
use Rattle.meet_tickets.specs.declared.lines.Entry.{Entry}
use Rattle.meet_tickets.specs.declared.places.Kind.{Kind}
use Rattle.meet_tickets.specs.declared.records.Record.{Record}
use Rattle.meet_tickets.specs.declared.records.Deed.{Deed}
use Rattle.meet_tickets.specs.ByLists.{State, empty, IsStep}
use Rattle.meet_overlap.specs.declared.calls.Call.{Call}
use Rattle.meet_overlap.specs.declared.calls.Stage.{Stage}
use Rattle.meet_overlap.specs.declared.calls.Stage.TheVariants.{Ahead, Over}
use Rattle.meet_overlap.specs.Explaining.{Event, Explains}
use Rattle.meet_overlap.specs.Marks.{IsEnded}
use Rattle.meet_overlap.specs.Reasons.{IsUnmet, item_of}
use Rattle.meet_overlap.proofs.Courses.{IsCourse, later, after_event, happens, goes_on, whole_course, never_left, own_call, still, too_late}
use Rattle.meet_overlap.proofs.Effects.{IsWell, well_stays, well_empty}
use Rattle.meet_overlap.proofs.InLine.{IsOrdered, ordered_stays, ordered_empty}
use Rattle.meet_overlap.proofs.Standing.{WasMet, was_met, IsUnmetYet, unmet_stays, unmet_empty, IsStanding, stands, own_seen, unseen, now_standing, entry_with, above_waits}

module _ (k : Kind) (calls : List Call) (waiting caller : IsEnded calls) (seen : ℕ) (waits : waiting.call.waits ≡ Some seen) (unmet : IsUnmet calls waiting.call.verb waiting.returned.answer caller.returned.at) where
  pub was : WasMet waiting.call.verb waiting.returned.answer
  was = was_met calls caller.returned.at waiting.call.verb waiting.returned.answer unmet

  -- what is known of a moment, since none can have met it
  abbrev IsUnmetNow : State → (time : ℕ) → (ℕ → Stage) → Type 0
  IsUnmetNow s time stages = IsUnmetYet k calls caller.returned.at waiting.call.verb waiting.returned.answer unmet s time stages

  unmet_on : (e : Event) (events : List Event) (s : State) (time : ℕ) (stages : ℕ → Stage) → IsCourse k calls s time stages (e ∷ events) → IsWell s → IsUnmetNow s time stages → IsUnmetNow (after_event s e) e.time (later stages e)
  unmet_on e events s time stages c well yet = unmet_stays k calls caller.returned.at waiting.call.verb waiting.returned.answer unmet e s time stages well (happens k calls s time stages e events c) yet

  -- the one that was seen to wait stands in the line
  abbrev pub Stands : State → (ℕ → Stage) → Entry ℕ → Type 0
  Stands s stages entry = IsStanding k calls waiting was s stages entry

  -- what is true before it stands there, and what of its ticket while it does, up to the other one's request, which can't be
  pub record IsWatched (Before : State → (ℕ → Stage) → Type 0) (There : State → (ℕ → Stage) → ℕ → Type 0) : Type 0 where
    pub goes : (e : Event) (events : List Event) (s : State) (time : ℕ) (stages : ℕ → Stage) → IsCourse k calls s time stages (e ∷ events) → stages waiting.number ≡ Ahead →
        e.call ≢ waiting.number → e.call ≢ caller.number → Before s stages → Before (after_event s e) (later stages e)
    pub joins : (e : Event) (events : List Event) (s : State) (time : ℕ) (stages : ℕ → Stage) → IsCourse k calls s time stages (e ∷ events) → IsWell s → stages waiting.number ≡ Ahead →
        e.call ≡ waiting.number → e.call ≢ caller.number → s.last < e.entry.ticket → Before s stages → There (after_event s e) (later stages e) e.entry.ticket
    pub early : (e : Event) (events : List Event) (s : State) (time : ℕ) (stages : ℕ → Stage) → IsCourse k calls s time stages (e ∷ events) → IsWell s → IsOrdered s → stages waiting.number ≡ Ahead → stages caller.number ≡ Ahead →
        e.call ≢ waiting.number → e.call ≡ caller.number → Before s stages → ⊥
    pub stays : (e : Event) (events : List Event) (s : State) (time : ℕ) (stages : ℕ → Stage) → IsCourse k calls s time stages (e ∷ events) → (entry : Entry ℕ) → Stands s stages entry →
        e.call ≢ caller.number → There s stages entry.ticket → There (after_event s e) (later stages e) entry.ticket
    pub ends : (e : Event) (events : List Event) (s : State) (time : ℕ) (stages : ℕ → Stage) → IsCourse k calls s time stages (e ∷ events) → (entry : Entry ℕ) → Stands s stages entry →
        stages caller.number ≡ Ahead → e.call ≡ caller.number → There s stages entry.ticket → ⊥

  -- a call that begins after that one was seen to wait makes no request before that stands there
  pub too_early : seen < caller.call.begin → (e : Event) (events : List Event) (s : State) (time : ℕ) (stages : ℕ → Stage) → IsCourse k calls s time stages (e ∷ events) → stages waiting.number ≡ Ahead → e.call ≢ waiting.number → e.call ≡ caller.number → ⊥
  too_early before e events s time stages c ahead other at =
      let h = happens k calls s time stages e events c in
      let begun = h.of.within.begun in
      let mine : h.of.call.begin ≡ caller.call.begin = ap (λ (y : Call). y.begin) (own_call k calls caller e at h.of) in
      unseen k calls waiting was seen waits events (after_event s e) e.time (later stages e) (still k calls waiting stages e other ∙ ahead) (omega arith) (goes_on k calls s time stages e events c)

  module _ (Before : State → (ℕ → Stage) → Type 0) (There : State → (ℕ → Stage) → ℕ → Type 0) (watch : IsWatched Before There) (apart : waiting.number ≡ caller.number → ⊥) where
    never_over : (stages : ℕ → Stage) → stages caller.number ≡ Ahead → stages caller.number ≡ Over → ⊥
    never_over stages ahead over = let q = sym ahead ∙ over in absurd (cc)

    there_it_is : (events : List Event) (s : State) (time : ℕ) (stages : ℕ → Stage) (entry : Entry ℕ) → Stands s stages entry → IsUnmetNow s time stages → There s stages entry.ticket → stages caller.number ≡ Ahead → IsCourse k calls s time stages events → ⊥
    there_it_is [] s time stages entry b yet there ahead c = never_left k calls caller (stages caller.number) (never_over stages ahead) (c.formed caller.number caller.call caller.known)
    there_it_is (e ∷ events) s time stages entry b yet there ahead c = ⊎_elim
        (λ q. watch.ends e events s time stages c entry b ahead q.1 there)
        (λ q.
        let on : later stages e caller.number ≡ Ahead = still k calls caller stages e q.1 ∙ ahead in
        ⊎_elim
        (λ late. too_late k calls caller events (after_event s e) e.time (later stages e) (never_over (later stages e) on) late (goes_on k calls s time stages e events c))
        (λ le. there_it_is events (after_event s e) e.time (later stages e) entry (stands k calls waiting was caller.returned.at unmet e events s time stages entry b yet c le) (unmet_on e events s time stages c b.well yet) (watch.stays e events s time stages c entry b q.1 there) on (goes_on k calls s time stages e events c))
        (cases_lt caller.returned.at e.time))
        (eqb_tells e.call caller.number)

    -- both are ahead
    pub record AreAhead (s : State) (stages : ℕ → Stage) : Type 0 where
      pub well : IsWell s
      pub ordered : IsOrdered s
      pub first : stages waiting.number ≡ Ahead
      pub other : stages caller.number ≡ Ahead

    before_it : (events : List Event) (s : State) (time : ℕ) (stages : ℕ → Stage) → AreAhead s stages → IsUnmetNow s time stages → Before s stages → IsCourse k calls s time stages events → ⊥
    before_it [] s time stages b yet known c = never_left k calls caller (stages caller.number) (never_over stages b.other) (c.formed caller.number caller.call caller.known)
    before_it (e ∷ events) s time stages b yet known c =
        let h = happens k calls s time stages e events c in
        ⊎_elim
        (λ q.
        let other : e.call ≢ caller.number = λ is. apart (sym q.1 ∙ is) in
        there_it_is events (after_event s e) e.time (later stages e) (entry_with e.entry.seat e.entry.ticket (item_of waiting.call.verb))
        (now_standing k calls waiting was seen waits e s time stages b.well b.ordered b.first h q.1)
        (unmet_on e events s time stages c b.well yet)
        (watch.joins e events s time stages c b.well b.first q.1 other (above_waits k s e.entry.seat e.entry.ticket (item_of waiting.call.verb) (subst (IsStep k s e.entry.seat e.entry.ticket) (own_seen k calls waiting was seen waits e s time stages b.first h q.1).0 h.step)) known)
        (still k calls caller stages e other ∙ b.other) (goes_on k calls s time stages e events c))
        (λ q. ⊎_elim
        (λ at. watch.early e events s time stages c b.well b.ordered b.first b.other q.1 at.1 known)
        (λ other. before_it events (after_event s e) e.time (later stages e) (record {
          well = well_stays k s e.entry.seat e.entry.ticket e.entry.deed b.well h.step;
          ordered = ordered_stays k s e.entry.seat e.entry.ticket e.entry.deed b.well b.ordered h.step;
          first = still k calls waiting stages e q.1 ∙ b.first;
          other = still k calls caller stages e other.1 ∙ b.other;
        }) (unmet_on e events s time stages c b.well yet) (watch.goes e events s time stages c b.first q.1 other.1 known) (goes_on k calls s time stages e events c))
        (eqb_tells e.call caller.number))
        (eqb_tells e.call waiting.number)

    pub watched : Before empty (λ n. Ahead) → (history : List (Record Deed)) → Explains k calls history → ⊥
    watched known history explains =
        before_it explains.events empty 0 (λ n. Ahead) (record { well = well_empty; ordered = ordered_empty; first = refl; other = refl }) (unmet_empty k calls caller.returned.at waiting.call.verb waiting.returned.answer unmet) known (whole_course k calls history explains)
