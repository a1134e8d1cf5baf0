-- The one spelling of a base's lines in a trace (our choice of format).
use Rattle.std.specs.Prelude.{◌≤◌, ◌≡◌, ◌↔◌, ℕ, ◌^◌, ◌<◌, Bool, IsTrue, Option, Some, None, ⊤, List}
use Rattle.meet_tickets.specs.declared.places.Kind.{Kind}
use Rattle.meet_tickets.specs.Limits.{most_seats, last_ticket}
use Rattle.meet_history.specs.declared.pieces.Piece.{Piece}
use Rattle.meet_history.specs.declared.pieces.Piece.TheVariants.{Stands, Met, Cut, Flagged}
use Rattle.meet_run.specs.Tracing.BaseGrammar.{piece_of, numbers_of, based_head_of}
use Rattle.meet_run.specs.Tracing.BaseWording.{piece_text, numbers_text, based_head_text}
use Rattle.meet_run.specs.Tracing.TraceSpelling.{FitsPair, FitsHead}

-- a seat and a ticket are in their limits
abbrev pub FitsPlaced : (seat ticket : ℕ) → Type 0
FitsPlaced seat ticket = (seat < most_seats) × (ticket ≤ last_ticket)

-- a giver's mark is in its limits
abbrev pub FitsItem : Option ℕ → Type 0
FitsItem None = ⊤
FitsItem (Some m) = m < 2 ^ 64

-- an entry stands as one may: a giver's mark is in its limits, and a taker waits
abbrev pub FitsStanding : Option ℕ → (waits : Bool) → Type 0
FitsStanding None waits = IsTrue waits
FitsStanding (Some m) waits = m < 2 ^ 64

-- a piece's numbers are in their limits
abbrev pub FitsPiece : Piece → Type 0
FitsPiece (Stands e) = FitsPlaced e.seat e.ticket × FitsStanding e.item e.waits
FitsPiece (Met p) = FitsPlaced p.seat p.ticket × FitsPair p.mark p.partner
FitsPiece (Cut c) = FitsPlaced c.seat c.ticket × FitsItem c.item
FitsPiece (Flagged i) = i < most_seats

-- a line reads as a piece exactly where it is that piece's one spelling
abbrev pub PiecesHaveOneSpelling : Type 0
PiecesHaveOneSpelling =
    (line : List ℕ) (piece : Piece) → (piece_of line ≡ Some piece) ↔ ((line ≡ piece_text piece) × FitsPiece piece)

-- a base's numbers are in their limits
abbrev pub FitsNumbers : (gone last : ℕ) → Type 0
FitsNumbers gone last = (gone ≤ last_ticket) × (last ≤ last_ticket)

-- a line reads as a base's numbers exactly where it is their one spelling
abbrev pub BaseNumbersHaveOneSpelling : Type 0
BaseNumbersHaveOneSpelling =
    (line : List ℕ) (gone last : ℕ)
    → (numbers_of line ≡ Some (gone, last)) ↔ ((line ≡ numbers_text gone last) × FitsNumbers gone last)

-- the first line of a trace with a base reads as a kind of place exactly where it is its one spelling
abbrev pub BasedHeadsHaveOneSpelling : Type 0
BasedHeadsHaveOneSpelling =
    (line : List ℕ) (kind : Kind) → (based_head_of line ≡ Some kind) ↔ ((line ≡ based_head_text kind) × FitsHead kind)
