-- The law that the two tellings of the rules are one: they allow the same histories, which leave the same in both.
use Rattle.std.specs.Prelude.{◌≡◌, ℕ, ◌↔◌, IsTrue, List, Contains}
use Rattle.meet_tickets.specs.declared.lines.Hold.{Hold}
use Rattle.meet_tickets.specs.declared.lines.Hold.TheVariants.{Free, Waiting, Handed, Served, Cut}
use Rattle.meet_tickets.specs.declared.places.Kind.{Kind}
use Rattle.meet_tickets.specs.declared.records.Record.{Record}
use Rattle.meet_tickets.specs.declared.records.Deed.{Deed}
use Rattle.meet_tickets.specs.ByLists.{State, empty, IsOpen, IsInLine, IsStep, IsLegal, run}
use Rattle.meet_tickets.specs.BySeat.{Moment, beginning, Fits, IsLegalBySeat, IsLegalBySeatFrom, moment_of}
use Rattle.meet_tickets.specs.Bases.{Based, state_of_base, moment_of_base, IsLegalOn}

-- the ticket is open, and no other of that seat is
pub record IsOnly (s : State) (seat ticket : ℕ) : Type 0 where
  pub opened : IsOpen s seat ticket
  pub only : (t : ℕ) → IsOpen s seat t → t ≡ ticket

-- what a seat holds, in the words of the lists
abbrev pub Holds : State → ℕ → Hold ℕ → Type 0
Holds s i Free = (t : ℕ) → IsOpen s i t → ⊥
Holds s i (Waiting t) = IsOnly s i t × IsInLine s t
Holds s i (Handed t u mark) = IsOnly s i t × Contains s.pairs (record { giver = t; taker = u; mark = mark })
Holds s i (Served t u mark) = IsOnly s i t × Contains s.pairs (record { giver = u; taker = t; mark = mark })
Holds s i (Cut t item) = IsOnly s i t × Contains s.cut t

-- a state by lists and a moment by seat are the same
pub record Agrees (s : State) (m : Moment) : Type 0 where
  pub last : s.last ≡ m.last
  pub line : s.line ≡ m.seats.line
  pub holds : (seat : ℕ) → Holds s seat (m.seats.holds seat)
  pub flags : (seat : ℕ) → IsTrue (m.seats.flags seat) ↔ Contains s.flags seat

-- of a history: legal in one telling is legal in the other; a legal one leaves the same in both, and the same records
-- may come next
pub record TellingsAgree (k : Kind) (history : List (Record Deed)) : Type 0 where
  pub legal : IsLegal k history ↔ IsLegalBySeat k history
  pub leaves : IsLegal k history → Agrees (run empty history) (moment_of k beginning history)
  pub next : IsLegal k history → (r : Record Deed)
      → IsStep k (run empty history) r.seat r.ticket r.deed ↔ Fits k (moment_of k beginning history) r

-- the same of records after a base
pub record TellingsAgreeOn (k : Kind) (b : Based) (records : List (Record Deed)) : Type 0 where
  pub legal : IsLegalOn k b records ↔ IsLegalBySeatFrom k (moment_of_base b) records
  pub leaves : IsLegalOn k b records → Agrees (run (state_of_base b) records) (moment_of k (moment_of_base b) records)
  pub next : IsLegalOn k b records → (r : Record Deed)
      → IsStep k (run (state_of_base b) records) r.seat r.ticket r.deed
      ↔ Fits k (moment_of k (moment_of_base b) records) r
