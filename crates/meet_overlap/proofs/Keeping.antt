-- A call that puts an item into a queue that keeps it, where nobody can have got that item in time: it is kept, and stays.
use Rattle.std.proofs.Common.{◌≡◌, ℕ, ◌≤◌, List, ◌∷◌, ap, ◌∙◌, subst, refl, arith}
use Rattle.meet_tickets.specs.declared.lines.Entry.{Entry}
use Rattle.meet_tickets.specs.declared.places.Kind.{Kind}
use Rattle.meet_tickets.specs.declared.places.End.TheVariants.{Front}
use Rattle.meet_tickets.specs.declared.records.Record.{Record}
use Rattle.meet_tickets.specs.declared.records.Deed.{Deed}
use Rattle.meet_tickets.specs.declared.records.Deed.TheVariants.{GiveMeets, GiveKept, GiveFails}
use Rattle.meet_tickets.specs.Meeting.{end_of}
use Rattle.meet_tickets.specs.ByLists.{State}
use Rattle.meet_overlap.specs.declared.calls.Call.{Call}
use Rattle.meet_overlap.specs.declared.calls.Stage.{Stage}
use Rattle.meet_overlap.specs.declared.calls.Stage.TheVariants.{Ahead, Open, Over}
use Rattle.meet_overlap.specs.declared.calls.Verb.{Verb}
use Rattle.meet_overlap.specs.declared.calls.Verb.TheVariants.{Keep, Give, Take, Interrupt as InterruptSeat}
use Rattle.std.specs.Prelude.{IfSome}
use Rattle.meet_overlap.specs.declared.calls.Answer.TheVariants.{Went, Nothing}
use Rattle.meet_overlap.specs.Calls.{Begins, Ends, Tells, Moves}
use Rattle.meet_overlap.specs.Explaining.{Event}
use Rattle.meet_overlap.specs.Marks.{IsEnded, IsKeeping, NoneGot}
use Rattle.meet_overlap.proofs.Courses.{Happens, IsCourse, happens, own_call, own_time}
use Rattle.meet_overlap.proofs.Effects.{Leaves, IsWell}
use Rattle.meet_overlap.proofs.InLine.{IsKept, leaves_by}
use Rattle.meet_overlap.proofs.Untouched.{IsUntouched, none_gives, none_takes}

-- how an item of this mark is put
abbrev Puts : ℕ → Deed → Type 0
Puts m (GiveMeets n v) = n ≡ m
Puts m (GiveKept n) = n ≡ m
Puts m d = ⊥

module _ (k : Kind) (calls : List Call) (put : IsEnded calls) (mark by : ℕ) (keeps : IsKeeping put.call.verb mark) (went : put.returned.answer ≡ Went) (none : NoneGot calls mark by) (later : put.returned.at ≤ by) where
  -- it didn't fail
  put_went : (n : ℕ) → Tells put.call (GiveFails n) → ⊥
  put_went n tells =
      let told : put.returned.answer ≡ Nothing = subst (λ o. IfSome o (λ r. r.answer ≡ Nothing)) put.ended tells in
      let answer : put.returned.answer ≡ Went = went in
      absurd (cc)

  put_begins : (verb : Verb) (d : Deed) → IsKeeping verb mark → Begins verb d → Tells put.call d → Puts mark d
  put_begins (Give p m) d keeps b told = absurd keeps
  put_begins (Take p) d keeps b told = absurd keeps
  put_begins (InterruptSeat j) d keeps b told = absurd keeps
  put_begins (Keep m) (GiveMeets n v) keeps b told = b ∙ keeps
  put_begins (Keep m) (GiveKept n) keeps b told = b ∙ keeps
  put_begins (Keep m) (GiveFails n) keeps b told = absurd (put_went n told)
  put_begins (Keep m) d keeps b told = absurd b

  put_ends : (verb : Verb) (d : Deed) → IsKeeping verb mark → Ends verb d → ⊥
  put_ends (Give p m) d keeps b = keeps
  put_ends (Take p) d keeps b = keeps
  put_ends (InterruptSeat j) d keeps b = keeps
  put_ends (Keep m) d keeps b = b

  put_moves : (stage : Stage) (r : Record Deed) → Moves put.call stage r → Puts mark r.deed
  put_moves Ahead r moves = put_begins put.call.verb r.deed keeps moves.0 moves.1
  put_moves (Open t) r moves = absurd (put_ends put.call.verb r.deed keeps moves.1)
  put_moves Over r moves = absurd moves

  -- its event: the item is kept
  pub is_kept : (e : Event) (events : List Event) (s : State) (time : ℕ) (stages : ℕ → Stage) → IsWell s → IsUntouched k calls mark by none s time stages → IsCourse k calls s time stages (e ∷ events) →
      e.call ≡ put.number → e.entry.deed ≡ GiveKept mark
  is_kept e events s time stages well untouched c at = by_deed e.entry.deed refl (put_moves (stages e.call) e.entry moves)
    where
      h : Happens k calls s time stages e
      h = happens k calls s time stages e events c

      moves : Moves put.call (stages e.call) e.entry
      moves = subst (λ y. Moves y (stages e.call) e.entry) (own_call k calls put e at h.of) h.moves

      by_deed : (d : Deed) → e.entry.deed ≡ d → Puts mark d → e.entry.deed ≡ GiveKept mark
      by_deed (GiveMeets m v) is same =
          let within = own_time k calls put e at h.of in
          absurd (none_gives k calls mark by e events s time stages c (omega arith) none well untouched v (is ∙ ap (λ y. GiveMeets y v) same))
      by_deed (GiveKept m) is same = is ∙ ap GiveKept same
      by_deed d is none = absurd none

  -- an event by then doesn't take it out of the line
  pub stays_kept : (front : end_of k.order ≡ Front) (e : Event) (events : List Event) (s : State) (time : ℕ) (stages : ℕ → Stage) (entry : Entry ℕ) (b : IsKept k front mark s entry) → IsUntouched k calls mark by none s time stages → IsCourse k calls s time stages (e ∷ events) → e.time ≤ by →
      Leaves e.entry.deed e.entry.ticket entry.ticket → ⊥
  stays_kept front e events s time stages entry b untouched c le leaves =
      let h = happens k calls s time stages e events c in
      let q = leaves_by k front mark s entry b e.entry.seat e.entry.ticket e.entry.deed h.step leaves in
      none_takes k calls mark by e events s time stages c le none b.well untouched q.0 q.1
