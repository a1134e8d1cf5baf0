-- The events of calls, one after another, over the lists by which histories are specified.
use Rattle.std.proofs.Common.{◌≡◌, ◌≢◌, ℕ, ◌<◌, ◌≤◌, Option, Some, None, List, [], ◌∷◌, refl, sym, ap, ◌∙◌, subst, ⊎_elim, arith}
use Rattle.std.specs.Prelude.{slice_get, IfSome}
use Rattle.std.proofs.lemmas.Bool.Decides.{eqb_tells}
use Rattle.meet_tickets.specs.declared.places.Kind.{Kind}
use Rattle.meet_tickets.specs.declared.records.Deed.{Deed}
use Rattle.meet_tickets.specs.declared.records.Record.{Record}
use Rattle.meet_tickets.specs.BySeat.{put_at}
use Rattle.meet_tickets.specs.ByLists.{State, empty, IsStep, after, IsLegalFrom}
use Rattle.meet_overlap.specs.declared.calls.Answer.{Answer}
use Rattle.meet_overlap.specs.declared.calls.Call.{Call}
use Rattle.meet_overlap.specs.declared.calls.Returned.{Returned}
use Rattle.meet_overlap.specs.declared.calls.Stage.{Stage}
use Rattle.meet_overlap.specs.declared.calls.Stage.TheVariants.{Ahead, Open, Over}
use Rattle.meet_overlap.specs.Calls.{Moves, MayStop, Tells, told_by, stage_after}
use Rattle.meet_overlap.specs.Explaining.{Event, records_of, AreOf, IsOf, IsRising, Explains}
use Rattle.meet_overlap.specs.Marks.{IsEnded}
use Rattle.meet_overlap.proofs.Ways.{AreFormed, formed_now, formed_later, put_other}

-- an event of a call, told by lists
pub record Happens (k : Kind) (calls : List Call) (s : State) (time : ℕ) (stages : ℕ → Stage) (e : Event) : Type 0 where
  pub of : IsOf calls e
  pub risen : time ≤ e.time
  pub moves : Moves of.call (stages e.call) e.entry
  pub step : IsStep k s e.entry.seat e.entry.ticket e.entry.deed

pub record IsCourse (k : Kind) (calls : List Call) (s : State) (time : ℕ) (stages : ℕ → Stage) (events : List Event) : Type 0 where
  pub legal : IsLegalFrom k s (records_of events)
  pub owned : AreOf calls events
  pub rising : IsRising time events
  pub formed : AreFormed calls stages events

abbrev pub later : (ℕ → Stage) → Event → ℕ → Stage
later stages e = put_at stages e.call (stage_after (stages e.call) e.entry)

abbrev pub after_event : State → Event → State
after_event s e = after s e.entry.seat e.entry.ticket e.entry.deed

pub happens : (k : Kind) (calls : List Call) (s : State) (time : ℕ) (stages : ℕ → Stage) (e : Event) (events : List Event) → IsCourse k calls s time stages (e ∷ events) → Happens k calls s time stages e
happens k calls s time stages e events c = record {
  of = c.owned.0;
  risen = c.rising.0;
  moves = (formed_now calls stages e events c.owned.0.call c.owned.0.known c.formed).0;
  step = c.legal.0;
}

pub goes_on : (k : Kind) (calls : List Call) (s : State) (time : ℕ) (stages : ℕ → Stage) (e : Event) (events : List Event) → IsCourse k calls s time stages (e ∷ events) → IsCourse k calls (after_event s e) e.time (later stages e) events
goes_on k calls s time stages e events c = record {
  legal = c.legal.1;
  owned = c.owned.1;
  rising = c.rising.1;
  formed = formed_later calls stages e events c.formed;
}

-- the events that explain calls are a course from the beginning
pub whole_course : (k : Kind) (calls : List Call) (history : List (Record Deed)) (x : Explains k calls history) → IsCourse k calls empty 0 (λ n. Ahead) x.events
whole_course k calls history x = record {
  legal = x.explained.legal;
  owned = x.explained.owned;
  rising = x.explained.rising;
  formed = x.explained.formed;
}

-- a call that ended
module _ (k : Kind) (calls : List Call) (x : IsEnded calls) where
  -- a call that ended isn't left before its last record
  pub never_left : (s : Stage) → (s ≡ Over → ⊥) → MayStop x.call s → ⊥
  never_left Ahead going stop = let none = stop.0 in let some = x.ended in absurd (cc)
  never_left (Open t) going stop = let some = x.ended in absurd (cc)
  never_left Over going stop = going refl

  pub own_call : (e : Event) → e.call ≡ x.number → (of : IsOf calls e) → of.call ≡ x.call
  own_call e at of =
      let mine : slice_get calls e.call ≡ Some x.call = subst (λ n. slice_get calls n ≡ Some x.call) (sym at) x.known in
      let theirs = of.known in cc

  in_time : (o : Option Returned) (time : ℕ) → o ≡ Some x.returned → IfSome o (λ r. time ≤ r.at) → time ≤ x.returned.at
  in_time None time ended is = absurd (cc)
  in_time (Some r) time ended is = let same : r ≡ x.returned = cc in subst (λ (y : Returned). time ≤ y.at) same is

  pub own_time : (e : Event) → e.call ≡ x.number → (of : IsOf calls e) → e.time ≤ x.returned.at
  own_time e at of = in_time of.call.returned e.time (ap (λ c. c.returned) (own_call e at of) ∙ x.ended) of.within.ended

  pub still : (stages : ℕ → Stage) (e : Event) → e.call ≢ x.number → later stages e x.number ≡ stages x.number
  still stages e other = put_other stages e.call (stage_after (stages e.call) e.entry) x.number (λ q. other (sym q))

  pub too_late : (events : List Event) (s : State) (time : ℕ) (stages : ℕ → Stage) → (stages x.number ≡ Over → ⊥) → x.returned.at < time → IsCourse k calls s time stages events → ⊥
  too_late [] s time stages going late c = never_left (stages x.number) going (c.formed x.number x.call x.known)
  too_late (e ∷ events) s time stages going late c =
      let h = happens k calls s time stages e events c in
      let risen = h.risen in
      ⊎_elim
      (λ q. let le = own_time e q.1 h.of in absurd (omega arith))
      (λ q. too_late events (after_event s e) e.time (later stages e) (λ is. going (sym (still stages e q.1) ∙ is)) (omega arith) (goes_on k calls s time stages e events c))
      (eqb_tells e.call x.number)

  -- what a deed of it tells is what it answered
  pub answers : (answer : Answer) → x.returned.answer ≡ answer → (d : Deed) → Tells x.call d → IfSome (told_by d) (λ a. a ≡ answer)
  answers answer is d tells = here (told_by d) tells
    where
      by_end : (o : Option Returned) (a : Answer) → o ≡ Some x.returned → IfSome o (λ r. r.answer ≡ a) → a ≡ answer
      by_end None a ended q = absurd (cc)
      by_end (Some r) a ended q = let same : r ≡ x.returned = cc in sym q ∙ ap (λ y. y.answer) same ∙ is

      here : (o : Option Answer) → IfSome o (λ a. IfSome x.call.returned (λ r. r.answer ≡ a)) → IfSome o (λ a. a ≡ answer)
      here None q = tt
      here (Some a) q = by_end x.call.returned a x.ended q
