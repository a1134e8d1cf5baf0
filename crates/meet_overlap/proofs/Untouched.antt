-- An item that nobody can have got by a time: until then it is in no pair.
use Rattle.std.proofs.Common.{◌≡◌, ◌≢◌, ℕ, ◌≤◌, inl, inr, Some, List, ◌∷◌, length, refl, ap, ◌∙◌, subst, arith}
use Rattle.std.specs.Prelude.{slice_get}
use Rattle.meet_tickets.specs.declared.places.Kind.{Kind}
use Rattle.meet_tickets.specs.declared.records.Record.{Record}
use Rattle.meet_tickets.specs.declared.records.Deed.{Deed}
use Rattle.meet_tickets.specs.declared.records.Deed.TheVariants.{GiveMeets, TakeMeets}
use Rattle.meet_tickets.specs.ByLists.{State, empty}
use Rattle.meet_tickets.proofs.Lists.Members.{Contains-nil}
use Rattle.meet_overlap.specs.declared.calls.Call.{Call}
use Rattle.meet_overlap.specs.declared.calls.Stage.{Stage}
use Rattle.meet_overlap.specs.declared.calls.Stage.TheVariants.{Ahead, Open, Over}
use Rattle.meet_overlap.specs.declared.calls.Verb.{Verb}
use Rattle.meet_overlap.specs.declared.calls.Verb.TheVariants.{Keep, Give, Take, Interrupt as InterruptSeat}
use Rattle.meet_overlap.specs.Calls.{Begins, Ends, Tells, Moves}
use Rattle.meet_overlap.specs.Explaining.{Event}
use Rattle.meet_overlap.specs.Marks.{Gives, IsTaking, MayGet, NoneGot, IsOnlyGiver, IsGotLater}
use Rattle.meet_overlap.proofs.Courses.{Happens, IsCourse, later, after_event, happens, own_call, still}
use Rattle.meet_overlap.proofs.Effects.{IsWell}
use Rattle.meet_overlap.proofs.Promised.{AreOpenTakers, takers_stay, takes_it, gives_promised}
use Rattle.meet_overlap.proofs.Tables.{got_below}
use Rattle.meet_overlap.proofs.Twice.{IsGiven, given_stays, gives_other, takes_other}

-- a call that meets an item takes it, and may have got it
takes_kept : (mark : ℕ) (c : Call) (stage : Stage) (r : Record Deed) (v : ℕ) → Moves c stage r → r.deed ≡ TakeMeets mark v → IsTaking c.verb × MayGet c mark
takes_kept mark c Ahead r v moves is = (takes c.verb (subst (Begins c.verb) is moves.0), subst (Tells c) is moves.1)
  where
    takes : (verb : Verb) → Begins verb (TakeMeets mark v) → IsTaking verb
    takes (Take p) b = tt
    takes (Keep m) b = absurd b
    takes (Give p m) b = absurd b
    takes (InterruptSeat j) b = absurd b
takes_kept mark c (Open t) r v moves is = absurd (never c.verb (subst (Ends c.verb) is moves.1))
  where
    never : (verb : Verb) → Ends verb (TakeMeets mark v) → ⊥
    never (Keep m) b = b
    never (Give p m) b = b
    never (Take p) b = b
    never (InterruptSeat j) b = b
takes_kept mark c Over r v moves is = absurd moves

module _ (k : Kind) (calls : List Call) (mark by : ℕ) where
  pub only : (giver : ℕ) → IsOnlyGiver calls (length calls) mark giver → (n : ℕ) (c : Call) → slice_get calls n ≡ Some c → Gives c.verb mark → n ≡ giver
  only giver alone n c known gives = alone n c (got_below calls n c known) known gives

  -- what is known of a moment: who waits as a taker; or that the call which gets the item is ahead until then
  abbrev pub IsUntouched : NoneGot calls mark by → State → (time : ℕ) → (ℕ → Stage) → Type 0
  IsUntouched (inl none) s time stages = AreOpenTakers calls stages time s
  IsUntouched (inr q) s time stages = IsGiven k calls mark q.0 (only q.0 q.1) s stages × (time ≤ by → stages q.2.taken.number ≡ Ahead)

  -- the call that gets it makes no event by then
  not_yet : (l : IsGotLater calls mark by) (e : Event) (s : State) (time : ℕ) (stages : ℕ → Stage) → Happens k calls s time stages e → e.time ≤ by → e.call ≢ l.taken.number
  not_yet l e s time stages h le at =
      let own : h.of.call.begin ≡ l.taken.call.begin = ap (λ (y : Call). y.begin) (own_call k calls l.taken e at h.of) in
      let begun = h.of.within.begun in
      let late = l.later in
      absurd (omega arith)

  pub untouched_stays : (none : NoneGot calls mark by) (e : Event) (s : State) (time : ℕ) (stages : ℕ → Stage) → IsWell s → Happens k calls s time stages e → IsUntouched none s time stages →
      IsUntouched none (after_event s e) e.time (later stages e)
  untouched_stays (inl none) e s time stages well h known = takers_stay k calls s time stages e well known h
  untouched_stays (inr q) e s time stages well h known =
      (given_stays k calls mark q.0 (only q.0 q.1) e s time stages h known.0, λ le. let risen = h.risen in still k calls q.2.taken stages e (not_yet q.2 e s time stages h le) ∙ known.1 (omega arith))

  pub untouched_empty : (none : NoneGot calls mark by) → IsUntouched none empty 0 (λ n. Ahead)
  untouched_empty (inl none) = λ e there item. absurd (Contains-nil e there)
  untouched_empty (inr q) = (inl (record { ahead = refl; line = λ e there item. Contains-nil e there; pairs = λ p there is. Contains-nil p there }), λ le. refl)

  module _ (e : Event) (events : List Event) (s : State) (time : ℕ) (stages : ℕ → Stage) (c : IsCourse k calls s time stages (e ∷ events)) (le : e.time ≤ by) where
    h : Happens k calls s time stages e
    h = happens k calls s time stages e events c

    -- no call gives it to a taker by then
    pub none_gives : (none : NoneGot calls mark by) → IsWell s → IsUntouched none s time stages → (v : ℕ) → e.entry.deed ≡ GiveMeets mark v → ⊥
    none_gives (inl none) well known v is = gives_promised k calls mark by none e events s time stages well known c v is le
    none_gives (inr q) well known v is =
        let risen = h.risen in
        gives_other k calls mark q.0 (only q.0 q.1) q.2.taken q.2.takes q.2.got e events s time stages c well known.0 (known.1 (omega arith)) (not_yet q.2 e s time stages h le) v is

    -- nor does a taker meet it
    pub none_takes : (none : NoneGot calls mark by) → IsWell s → IsUntouched none s time stages → (v : ℕ) → e.entry.deed ≡ TakeMeets mark v → ⊥
    none_takes (inl none) well known v is =
        let first = takes_kept mark h.of.call (stages e.call) e.entry v h.moves is in
        let begun = h.of.within.begun in
        takes_it k calls mark by none e.call h.of.call h.of.known first.0 (omega arith) first.1
    none_takes (inr q) well known v is =
        let risen = h.risen in
        takes_other k calls mark q.0 (only q.0 q.1) q.2.taken q.2.takes q.2.got e events s time stages c well known.0 (known.1 (omega arith)) (not_yet q.2 e s time stages h le) v is
