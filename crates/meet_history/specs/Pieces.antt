-- Bases that are told piece by piece (our choice): the line in order of request, then the open tickets that were met
-- and those that were cut, each by rising ticket, then the flagged seats, rising.
use Rattle.std.specs.Prelude.{ℕ, nat_lt, nat_le, ◌==◌, ◌&&◌, not, Bool, true, false, is_some, List, []}
use Rattle.std.specs.Prelude.{◌∷◌, ◌++◌}
use Rattle.std.specs.Prelude.{if◌then◌else◌}
use Rattle.std.specs.List.{list_any, list_all}
use Rattle.std.specs.Option.{option_map_or}
use Rattle.meet_tickets.specs.declared.lines.Entry.{Entry}
use Rattle.meet_tickets.specs.declared.bases.OpenPair.{OpenPair}
use Rattle.meet_tickets.specs.declared.bases.OpenCut.{OpenCut}
use Rattle.meet_tickets.specs.declared.places.Kind.{Kind}
use Rattle.meet_tickets.specs.Meeting.{keeps, kept_count}
use Rattle.meet_tickets.specs.Bases.{Based, held_in, named_in}
use Rattle.meet_history.specs.declared.pieces.Piece.{Piece}
use Rattle.meet_history.specs.declared.pieces.Piece.TheVariants.{Stands, Met, Cut, Flagged}

-- a base of nothing but these numbers
abbrev pub bare_base : (gone last : ℕ) → Based
bare_base gone last = record { gone = gone; last = last; line = []; pairs = []; cut = []; flags = [] }

-- a base with this piece behind its own
abbrev pub with_piece : Based → Piece → Based
with_piece b (Stands e) = record b { line = b.line ++ e ∷ [] }
with_piece b (Met p) = record b { pairs = b.pairs ++ p ∷ [] }
with_piece b (Cut c) = record b { cut = b.cut ++ c ∷ [] }
with_piece b (Flagged i) = record b { flags = b.flags ++ i ∷ [] }

-- nothing is in a list
abbrev pub is_nil : {A : Type 0} → List A → Bool
is_nil [] = true
is_nil (x ∷ xs) = false

-- no piece of a later sort was told before
abbrev pub in_order : Based → Piece → Bool
in_order b (Stands e) = is_nil b.pairs && (is_nil b.cut && is_nil b.flags)
in_order b (Met p) = is_nil b.cut && is_nil b.flags
in_order b (Cut c) = is_nil b.flags
in_order b (Flagged i) = true

-- the ticket is in its limits, and isn't named by the base
abbrev pub is_new : Based → (ticket : ℕ) → Bool
is_new b t = nat_le 1 t && (nat_le t b.last && not (list_any (λ u. u == t) (named_in b)))

-- no seat of an open ticket is this one
abbrev pub is_unheld : Based → (seat : ℕ) → Bool
is_unheld b i = not (list_any (λ h. h.seat == i) (held_in b))

-- an item more is kept in a place that keeps items, and within its bound
abbrev pub keeps_more : Kind → List (Entry ℕ) → Bool
keeps_more k line = keeps k.order && option_map_or (λ most. nat_lt (kept_count line) most) k.bound true

-- an entry is of the line's side, and above it; one that waits is of a seat without an open ticket, one that is kept a
-- giver's that may be kept
abbrev pub entry_fits : Kind → Based → Entry ℕ → Bool
entry_fits k b e = list_all (λ f. nat_lt f.ticket e.ticket) b.line
    && (list_all (λ f. if is_some f.item then is_some e.item else not (is_some e.item)) b.line
    && (is_new b e.ticket
    && (if e.waits then is_unheld b e.seat else (is_some e.item && keeps_more k b.line))))

-- so is one that was met, and its partner is new too
abbrev pub pair_fits : Based → OpenPair → Bool
pair_fits b p = list_all (λ q. nat_lt q.ticket p.ticket) b.pairs
    && (is_new b p.ticket && (is_new b p.partner && (not (p.ticket == p.partner) && is_unheld b p.seat)))

-- one that was cut
abbrev pub cut_fits : Based → OpenCut → Bool
cut_fits b c = list_all (λ d. nat_lt d.ticket c.ticket) b.cut && (is_new b c.ticket && is_unheld b c.seat)

-- a flagged seat is above the others, and doesn't wait in the line
abbrev pub flag_fits : Based → (seat : ℕ) → Bool
flag_fits b i = list_all (λ j. nat_lt j i) b.flags
    && not (list_any (λ e. if e.waits then e.seat == i else false) b.line)

-- the piece alone fits
abbrev pub piece_fits : Kind → Based → Piece → Bool
piece_fits k b (Stands e) = entry_fits k b e
piece_fits k b (Met p) = pair_fits b p
piece_fits k b (Cut c) = cut_fits b c
piece_fits k b (Flagged i) = flag_fits b i

-- a base may go on with this piece: it comes in its order, and the base with it is well formed
abbrev pub may_follow : Kind → Based → Piece → Bool
may_follow k b piece = in_order b piece && piece_fits k b piece
