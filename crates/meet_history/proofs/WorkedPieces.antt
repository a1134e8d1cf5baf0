-- Worked bases, computed by the definitions.
use Rattle.std.proofs.Common.{◌≡◌, ℕ, refl, true, false, Some, None}
use Rattle.meet_tickets.specs.declared.lines.Entry.{Entry}
use Rattle.meet_tickets.specs.declared.places.Order.TheVariants.{Fair}
use Rattle.meet_tickets.specs.declared.places.Kind.{Kind}
use Rattle.meet_tickets.specs.Bases.{Based}
use Rattle.meet_history.specs.declared.pieces.Piece.TheVariants.{Stands, Flagged}
use Rattle.meet_history.specs.Pieces.{bare_base, with_piece, may_follow}

abbrev fair : Kind
fair = record { order = Fair; bound = None }

abbrev waits : (seat ticket mark : ℕ) → Entry ℕ
waits seat ticket mark = record { ticket = ticket; seat = seat; item = Some mark; waits = true }

abbrev two : Based
two = with_piece (with_piece (bare_base 3 3) (Stands (waits 0 1 1))) (Stands (waits 1 2 2))

third : may_follow fair two (Stands (waits 2 3 3)) ≡ true
third = refl

-- out of order, of a seat that waits, above the last
second_again : may_follow fair two (Stands (waits 2 2 3)) ≡ false
second_again = refl

same_seat : may_follow fair two (Stands (waits 1 3 3)) ≡ false
same_seat = refl

too_late : may_follow fair two (Stands (waits 2 4 3)) ≡ false
too_late = refl

-- nothing is kept there
kept_there : may_follow fair two (Stands (record { ticket = 3; seat = 2; item = Some 3; waits = false })) ≡ false
kept_there = refl

-- a seat that waits isn't flagged
flag_there : may_follow fair two (Flagged 1) ≡ false
flag_there = refl

flag_else : may_follow fair two (Flagged 2) ≡ true
flag_else = refl
