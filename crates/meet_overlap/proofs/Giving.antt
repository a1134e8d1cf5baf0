-- Which deed gives an item, and by which call.
use Rattle.std.proofs.Common.{◌≡◌, ℕ, ◌⊎◌, inl, inr, Option, Some, None, sym, ap, ◌∙◌, ⊎_elim}
use Rattle.std.proofs.lemmas.Bool.Decides.{eqb_tells}
use Rattle.meet_tickets.specs.declared.records.Record.{Record}
use Rattle.meet_tickets.specs.declared.records.Deed.{Deed}
use Rattle.meet_tickets.specs.declared.records.Deed.TheVariants.{GiveWaits, GiveMeets, GiveFails, GiveKept, TakeWaits, TakeMeets, TakeFails, EntryInterrupted, Done, Got, Withdrawn, Interrupt}
use Rattle.meet_overlap.specs.declared.calls.Answer.{Answer}
use Rattle.meet_overlap.specs.declared.calls.Patience.TheVariants.{Forever, Timed}
use Rattle.meet_overlap.specs.declared.calls.Call.{Call}
use Rattle.meet_overlap.specs.declared.calls.Stage.{Stage}
use Rattle.meet_overlap.specs.declared.calls.Stage.TheVariants.{Ahead, Open, Over}
use Rattle.meet_overlap.specs.declared.calls.Verb.{Verb}
use Rattle.meet_overlap.specs.declared.calls.Verb.TheVariants.{Keep, Give, Take, Interrupt as InterruptSeat}
use Rattle.meet_overlap.specs.Calls.{Begins, Ends, Moves, stage_told}
use Rattle.meet_overlap.specs.Marks.{Gives}
use Rattle.meet_tickets.specs.ByLists.{Pair}
use Rattle.meet_overlap.proofs.Effects.{NewItem, NewPair}

-- the deed gives no item of this mark
abbrev pub GivesNone : ℕ → Deed → Type 0
GivesNone m (GiveWaits n) = n ≡ m → ⊥
GivesNone m (GiveMeets n u) = n ≡ m → ⊥
GivesNone m (GiveKept n) = n ≡ m → ⊥
GivesNone m (GiveFails n) = Unit {0}
GivesNone m TakeWaits = Unit {0}
GivesNone m (TakeMeets n u) = Unit {0}
GivesNone m TakeFails = Unit {0}
GivesNone m (EntryInterrupted side) = Unit {0}
GivesNone m Done = Unit {0}
GivesNone m (Got n u) = Unit {0}
GivesNone m (Withdrawn cause) = Unit {0}
GivesNone m (Interrupt j) = Unit {0}

-- it gives one
abbrev pub GivesOne : ℕ → Deed → Type 0
GivesOne m (GiveWaits n) = n ≡ m
GivesOne m (GiveMeets n u) = n ≡ m
GivesOne m (GiveKept n) = n ≡ m
GivesOne m (GiveFails n) = ⊥
GivesOne m TakeWaits = ⊥
GivesOne m (TakeMeets n u) = ⊥
GivesOne m TakeFails = ⊥
GivesOne m (EntryInterrupted side) = ⊥
GivesOne m Done = ⊥
GivesOne m (Got n u) = ⊥
GivesOne m (Withdrawn cause) = ⊥
GivesOne m (Interrupt j) = ⊥

either : (n m : ℕ) → (n ≡ m) ⊎ (n ≡ m → ⊥)
either n m = ⊎_elim (λ q. inl q.1) (λ q. inr q.1) (eqb_tells n m)

pub gives_or_not : (m : ℕ) (d : Deed) → GivesOne m d ⊎ GivesNone m d
gives_or_not m (GiveWaits n) = either n m
gives_or_not m (GiveMeets n u) = either n m
gives_or_not m (GiveKept n) = either n m
gives_or_not m (GiveFails n) = inr tt
gives_or_not m TakeWaits = inr tt
gives_or_not m (TakeMeets n u) = inr tt
gives_or_not m TakeFails = inr tt
gives_or_not m (EntryInterrupted side) = inr tt
gives_or_not m Done = inr tt
gives_or_not m (Got n u) = inr tt
gives_or_not m (Withdrawn cause) = inr tt
gives_or_not m (Interrupt j) = inr tt

-- a call that gives by a deed gives
pub gives_by : (m : ℕ) (c : Call) (stage : Stage) (r : Record Deed) → Moves c stage r → GivesOne m r.deed → Gives c.verb m
gives_by m c stage r moves one = by_stage stage moves
  where
    begins : (verb : Verb) (d : Deed) → Begins verb d → GivesOne m d → Gives verb m
    begins (Keep x) (GiveMeets n u) b g = sym b ∙ g
    begins (Keep x) (GiveKept n) b g = sym b ∙ g
    begins (Keep x) (GiveFails n) b g = absurd g
    begins (Give p x) (GiveMeets n u) b g = sym b ∙ g
    begins (Give Forever x) (GiveWaits n) b g = sym b ∙ g
    begins (Give Timed x) (GiveWaits n) b g = sym b ∙ g
    begins (Give p x) (GiveFails n) b g = absurd g
    begins (Give p x) (EntryInterrupted side) b g = absurd g
    begins (Take p) (TakeMeets n u) b g = absurd g
    begins (Take p) TakeFails b g = absurd g
    begins (Take p) TakeWaits b g = absurd g
    begins (Take p) (EntryInterrupted side) b g = absurd g
    begins (InterruptSeat j) (Interrupt i) b g = absurd g
    begins verb d b g = absurd b

    ends : (verb : Verb) (d : Deed) → Ends verb d → GivesOne m d → ⊥
    ends (Give p x) Done b g = g
    ends (Give p x) (Withdrawn cause) b g = g
    ends (Take p) (Got n u) b g = g
    ends (Take p) (Withdrawn cause) b g = g
    ends verb d b g = b

    by_stage : (s : Stage) → Moves c s r → Gives c.verb m
    by_stage Ahead moves = begins c.verb r.deed moves.0 one
    by_stage (Open t) moves = absurd (ends c.verb r.deed moves.1 one)
    by_stage Over moves = absurd moves

pub open_goes_on : (t : ℕ) (o : Option Answer) → o ≡ None → stage_told t o ≡ Over → ⊥
open_goes_on t None none is = absurd (cc)
open_goes_on t (Some a) none is = absurd (cc)

-- a deed that gives no item of this mark puts none into the line
pub new_item : (m : ℕ) (d : Deed) (item : Option ℕ) → NewItem d item → GivesNone m d → item ≡ Some m → ⊥
new_item m (GiveWaits n) item new none is = none (let q = sym new ∙ is in cc)
new_item m (GiveKept n) item new none is = none (let q = sym new ∙ is in cc)
new_item m TakeWaits item new none is = let q = sym new ∙ is in absurd (cc)
new_item m d item new none is = absurd new

-- and makes a pair with one only where a taker meets it
pub new_pair : (m : ℕ) (d : Deed) (t : ℕ) (p : Pair) → GivesNone m d → NewPair d t p → p.mark ≡ m → (v : ℕ) × (d ≡ TakeMeets m v)
new_pair m (GiveMeets n v) t p none new is = absurd (none (sym (ap (λ (y : Pair). y.mark) new) ∙ is))
new_pair m (TakeMeets n v) t p none new is = (v, ap (λ y. TakeMeets y v) (sym (ap (λ (y : Pair). y.mark) new) ∙ is))
new_pair m d t p none new is = absurd new
