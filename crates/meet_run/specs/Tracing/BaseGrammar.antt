-- What the lines of a base say in a trace (our choice of format): how many records were folded away and their greatest
-- ticket, and then a line for each piece.
use Rattle.std.specs.Prelude.{ℕ, nat_lt, Bool, true, false, Option, Some, None, List, [], ◌∷◌, length, codes}
use Rattle.std.specs.Prelude.{if◌then◌else◌}
use Rattle.std.specs.Str.{bytes_eq}
use Rattle.meet_tickets.specs.declared.lines.Entry.{Entry}
use Rattle.meet_tickets.specs.declared.bases.OpenPair.{OpenPair}
use Rattle.meet_tickets.specs.declared.bases.OpenCut.{OpenCut}
use Rattle.meet_tickets.specs.declared.places.Kind.{Kind}
use Rattle.meet_history.specs.declared.pieces.Piece.{Piece}
use Rattle.meet_history.specs.declared.pieces.Piece.TheVariants.{Stands, Met, Cut, Flagged}
use Rattle.meet_run.specs.Texts.Words.{word_of, rest_of, behind, number_spelled}
use Rattle.meet_run.specs.Texts.Grammar.{◌>>=◌, seat_of}
use Rattle.meet_run.specs.Tracing.TraceGrammar.{ticket_of, side_of, kind_in}

-- whether an entry waits, by its word
unfoldable pub waits_of : (word : List ℕ) → Option Bool
waits_of word =
    if bytes_eq word (codes "waits") then Some true else (
    if bytes_eq word (codes "kept") then Some false else None)

-- a giver's entry, by what stands behind its side: a mark, and whether it waits
unfoldable pub giver_entry : (seat ticket : ℕ) → (mark rest : List ℕ) → Option (Entry ℕ)
giver_entry seat ticket mark [] = None
giver_entry seat ticket mark (space ∷ word) = do
  m ← number_spelled mark
  waits ← waits_of word
  Some (record { ticket = ticket; seat = seat; item = Some m; waits = waits })

-- an entry of the line, by its side's word and the rest
unfoldable pub entry_of_line : (seat ticket : ℕ) → (word rest : List ℕ) → Option (Entry ℕ)
entry_of_line seat ticket word [] =
    if bytes_eq word (codes "take") then Some (record { ticket = ticket; seat = seat; item = None; waits = true })
    else None
entry_of_line seat ticket word (space ∷ text) =
    if bytes_eq word (codes "give") then giver_entry seat ticket (word_of text) (rest_of text) else None

-- one that was met, by its side's word and the rest: the partner's ticket and the mark
unfoldable pub pair_of_line : (seat ticket : ℕ) → (word partner rest : List ℕ) → Option OpenPair
pair_of_line seat ticket word partner [] = None
pair_of_line seat ticket word partner (space ∷ mark) = do
  side ← side_of word
  u ← ticket_of partner
  m ← number_spelled mark
  Some (record { ticket = ticket; seat = seat; side = side; partner = u; mark = m })

-- one that was cut, by its side's word and the rest
unfoldable pub cut_of_line : (seat ticket : ℕ) → (word rest : List ℕ) → Option OpenCut
cut_of_line seat ticket word [] =
    if bytes_eq word (codes "take") then Some (record { ticket = ticket; seat = seat; item = None }) else None
cut_of_line seat ticket word (space ∷ mark) =
    if bytes_eq word (codes "give")
    then (number_spelled mark >>= λ m. Some (record { ticket = ticket; seat = seat; item = Some m })) else None

-- the same of what stands behind a side's word
unfoldable pub pair_behind : (seat ticket : ℕ) → (word rest : List ℕ) → Option OpenPair
pair_behind seat ticket word [] = None
pair_behind seat ticket word (space ∷ text) = pair_of_line seat ticket word (word_of text) (rest_of text)

-- a piece with a seat and a ticket, by the line's first word, its side's word and the rest
unfoldable pub ticketed_piece : (first : List ℕ) → (seat ticket : ℕ) → (word rest : List ℕ) → Option Piece
ticketed_piece first seat ticket word rest =
    if bytes_eq first (codes "line") then (entry_of_line seat ticket word rest >>= λ e. Some (Stands e)) else (
    if bytes_eq first (codes "pair") then (pair_behind seat ticket word rest >>= λ p. Some (Met p)) else (
    if bytes_eq first (codes "cut") then (cut_of_line seat ticket word rest >>= λ c. Some (Cut c)) else None))

-- a piece with a seat, by what stands behind the ticket
unfoldable pub piece_with_ticket : (first : List ℕ) → (seat : ℕ) → (ticket rest : List ℕ) → Option Piece
piece_with_ticket first seat ticket [] = None
piece_with_ticket first seat ticket (space ∷ text) = do
  t ← ticket_of ticket
  ticketed_piece first seat t (word_of text) (rest_of text)

-- a piece with a seat, by what stands behind the seat: nothing for a flag
unfoldable pub piece_with_seat : (first seat rest : List ℕ) → Option Piece
piece_with_seat first seat [] =
    if bytes_eq first (codes "flag") then (seat_of seat >>= λ i. Some (Flagged i)) else None
piece_with_seat first seat (space ∷ text) = do
  i ← seat_of seat
  piece_with_ticket first i (word_of text) (rest_of text)

-- the piece behind a line's first word
unfoldable pub piece_behind : (first rest : List ℕ) → Option Piece
piece_behind first [] = None
piece_behind first (space ∷ text) = piece_with_seat first (word_of text) (rest_of text)

-- the piece of a line of a trace; none of a record's line, which begins with a number
unfoldable pub piece_of : (line : List ℕ) → Option Piece
piece_of line = if nat_lt 128 (length line) then None else piece_behind (word_of line) (rest_of line)

-- a base's numbers: how many records were folded away, and their greatest ticket
unfoldable pub numbers_in : (first rest : List ℕ) → Option (ℕ × ℕ)
numbers_in first [] = None
numbers_in first (space ∷ last) = do
  gone ← ticket_of first
  t ← ticket_of last
  Some (gone, t)

-- the numbers of a base's first line
unfoldable pub numbers_of : (line : List ℕ) → Option (ℕ × ℕ)
numbers_of line = if nat_lt 128 (length line) then None
    else (behind (codes "base ") line >>= λ text. numbers_in (word_of text) (rest_of text))

-- the kind of place of the first line of a trace that has a base
unfoldable pub based_head_of : (line : List ℕ) → Option Kind
based_head_of line = if nat_lt 128 (length line) then None else (behind (codes "trace 2 ") line >>= kind_in)
