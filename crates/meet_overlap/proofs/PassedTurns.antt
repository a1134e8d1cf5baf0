-- Whose turn comes first: that of a call which waits, or of another one that was met.
use Rattle.std.proofs.Common.{◌≡◌, ℕ, ◌<◌, ◌≤◌, true, Some, List, ◌∷◌, sym, ap, ◌∙◌, ⊎_elim, arith}
use Rattle.std.proofs.lemmas.Bool.Decides.{eqb_tells}
use Rattle.meet_tickets.specs.declared.places.End.{End}
use Rattle.meet_tickets.specs.declared.places.End.TheVariants.{Front, Back}
use Rattle.meet_tickets.specs.declared.places.Kind.{Kind}
use Rattle.meet_tickets.specs.declared.records.Deed.{Deed}
use Rattle.meet_tickets.specs.BySeat.{is_request}
use Rattle.meet_tickets.specs.ByLists.{State}
use Rattle.meet_overlap.specs.declared.calls.Call.{Call}
use Rattle.meet_overlap.specs.declared.calls.Stage.{Stage}
use Rattle.meet_overlap.specs.declared.calls.Stage.TheVariants.{Ahead}
use Rattle.meet_overlap.specs.Calls.{Begins, stage_after}
use Rattle.meet_overlap.specs.Explaining.{Event}
use Rattle.meet_overlap.specs.Reasons.{IsPassed, IsBehind}
use Rattle.meet_overlap.proofs.Courses.{Happens, IsCourse, later, after_event, happens, goes_on, own_call, still}
use Rattle.meet_overlap.proofs.InLine.{ComesFirst}
use Rattle.meet_overlap.proofs.Standing.{WasMet, was_met, seen_by, own_seen}
use Rattle.meet_overlap.proofs.Twice.{not_ahead}
use Rattle.meet_overlap.proofs.Ways.{put_same}

-- the first ticket's turn comes after the other's, where the line is met at this end
abbrev pub ComesAfter : End → (one other : ℕ) → Type 0
ComesAfter Front one other = other < one
ComesAfter Back one other = one < other

pub never_first : (end : End) (one other : ℕ) → ComesFirst end one other → ComesAfter end one other → ⊥
never_first Front one other first after = absurd (omega arith)
never_first Back one other first after = absurd (omega arith)

-- a call has made its request, where the last one's turn comes first
abbrev pub HasBegun : End → Stage → Type 0
HasBegun Front stage = Unit {0}
HasBegun Back stage = stage ≡ Ahead → ⊥

-- so a ticket that it gets by a request comes after one that stood there before
pub comes_after : (end : End) (stage : Stage) (one other : ℕ) → HasBegun end stage → stage ≡ Ahead → other < one → ComesAfter end one other
comes_after Front stage one other begun ahead above = above
comes_after Back stage one other begun ahead above = absurd (begun ahead)

module _ (k : Kind) (calls : List Call) (u : IsPassed k calls) (asks : (d : Deed) → Begins u.met.call.verb d → is_request d ≡ true) where
  was : WasMet u.waiting.call.verb u.waiting.returned.answer
  was = was_met calls u.caller.returned.at u.waiting.call.verb u.waiting.returned.answer u.unmet

  module _ (e : Event) (events : List Event) (s : State) (time : ℕ) (stages : ℕ → Stage) (c : IsCourse k calls s time stages (e ∷ events)) where
    h : Happens k calls s time stages e
    h = happens k calls s time stages e events c

    -- the one that waits isn't the one that is met
    pub not_both : stages u.waiting.number ≡ Ahead → e.call ≡ u.waiting.number → e.call ≡ u.met.number → (end : End) → IsBehind end u.seen u.waiting.call u.caller.call u.met.call → ⊥
    not_both ahead at same end behind =
        let le = (own_seen k calls u.waiting was u.seen u.waits e s time stages ahead h at).1 in
        let begun = h.of.within.begun in
        by_end end behind le begun
      where
        by_end : (end : End) → IsBehind end u.seen u.waiting.call u.caller.call u.met.call → e.time ≤ u.seen → h.of.call.begin ≤ e.time → ⊥
        by_end Front behind le begun =
            let mine : h.of.call.begin ≡ u.met.call.begin = ap (λ (z : Call). z.begin) (own_call k calls u.met e same h.of) in
            absurd (omega arith)
        by_end Back behind le begun =
            let mine : h.of.call.begin ≡ u.waiting.call.begin = ap (λ (z : Call). z.begin) (own_call k calls u.waiting e at h.of) in
            let one : u.waiting.call.waits ≡ u.met.call.waits = ap (λ (z : Call). z.waits) (sym (own_call k calls u.waiting e at h.of) ∙ own_call k calls u.met e same h.of) in
            let seen : Some u.seen ≡ Some behind.0 = sym u.waits ∙ one ∙ behind.1 in
            let is : u.seen ≡ behind.0 = cc in
            let early = behind.2 in
            absurd (omega arith)

    -- it has made its request once the one that waits does
    pub begun_then : e.call ≡ u.waiting.number → (end : End) → IsBehind end u.seen u.waiting.call u.caller.call u.met.call → HasBegun end (later stages e u.met.number)
    begun_then at Front behind = tt
    begun_then at Back behind = λ ahead.
        let mine : h.of.call.begin ≡ u.waiting.call.begin = ap (λ (z : Call). z.begin) (own_call k calls u.waiting e at h.of) in
        let begun = h.of.within.begun in
        let early = behind.2 in
        seen_by k calls u.met behind.0 behind.1 asks events (after_event s e) e.time (later stages e) ahead (omega arith) (goes_on k calls s time stages e events c)

    -- and goes on from there
    pub begun_stays : (end : End) → HasBegun end (stages u.met.number) → HasBegun end (later stages e u.met.number)
    begun_stays Front begun = tt
    begun_stays Back begun = λ ahead. ⊎_elim
        (λ at. not_ahead (stages e.call) e.entry (sym (put_same stages e.call (stage_after (stages e.call) e.entry)) ∙ ap (later stages e) at.1 ∙ ahead))
        (λ other. begun (sym (still k calls u.met stages e other.1) ∙ ahead))
        (eqb_tells e.call u.met.number)
