-- The text of a base in a trace (our choice of format).
use Rattle.std.specs.Prelude.{ℕ, Bool, true, false, Option, Some, None, List, [], ◌∷◌, ◌++◌, map, codes, decimal}
use Rattle.std.specs.List.{flat_map}
use Rattle.meet_tickets.specs.declared.places.Kind.{Kind}
use Rattle.meet_tickets.specs.declared.records.Deed.{Deed}
use Rattle.meet_tickets.specs.declared.records.Record.{Record}
use Rattle.meet_tickets.specs.Bases.{Based}
use Rattle.meet_history.specs.declared.pieces.Piece.{Piece}
use Rattle.meet_history.specs.declared.pieces.Piece.TheVariants.{Stands, Met, Cut, Flagged}
use Rattle.meet_run.specs.Scripts.Spelling.{place_text, option_text}
use Rattle.meet_run.specs.Tracing.TraceSpelling.{side_text}
use Rattle.meet_run.specs.Tracing.TraceWording.{record_line, trace_text}

-- a line's first words: its sort, a seat and a ticket
abbrev pub placed_text : (sort : List ℕ) → (seat ticket : ℕ) → List ℕ
placed_text sort seat ticket = sort ++ (decimal seat ++ 32 ∷ (decimal ticket ++ 32 ∷ []))

-- the item of a giver with its mark, or a taker
abbrev pub item_text : Option ℕ → List ℕ
item_text None = codes "take"
item_text (Some m) = codes "give " ++ decimal m

-- how an entry stands: a taker waits
abbrev pub standing_text : Option ℕ → (waits : Bool) → List ℕ
standing_text None waits = codes "take"
standing_text (Some m) true = item_text (Some m) ++ codes " waits"
standing_text (Some m) false = item_text (Some m) ++ codes " kept"

-- the one spelling of a piece
abbrev pub piece_text : Piece → List ℕ
piece_text (Stands e) = placed_text (codes "line ") e.seat e.ticket ++ standing_text e.item e.waits
piece_text (Met p) =
    placed_text (codes "pair ") p.seat p.ticket ++ (side_text p.side ++ 32 ∷ (decimal p.partner ++ 32 ∷ decimal p.mark))
piece_text (Cut c) = placed_text (codes "cut ") c.seat c.ticket ++ item_text c.item
piece_text (Flagged i) = codes "flag " ++ decimal i

unfoldable pub piece_line : Piece → List ℕ
piece_line piece = piece_text piece ++ codes "\n"

-- the pieces of a base, in their order
abbrev pub pieces_of : Based → List Piece
pieces_of b = map Stands b.line ++ (map Met b.pairs ++ (map Cut b.cut ++ map Flagged b.flags))

-- the one spelling of a base's numbers
abbrev pub numbers_text : (gone last : ℕ) → List ℕ
numbers_text gone last = codes "base " ++ (decimal gone ++ 32 ∷ decimal last)

-- a base's first line
unfoldable pub numbers_line : Based → List ℕ
numbers_line b = numbers_text b.gone b.last ++ codes "\n"

-- the one spelling of the first line of a trace that has a base
abbrev pub based_head_text : Kind → List ℕ
based_head_text kind = codes "trace 2 " ++ (place_text kind.order ++ option_text (codes " bound ") kind.bound)

-- the first line of a trace that has a base
unfoldable pub based_head_line : Kind → List ℕ
based_head_line kind = based_head_text kind ++ codes "\n"

-- a whole trace with a base
unfoldable pub based_text : Kind → Based → List (Record Deed) → List ℕ
based_text kind base records = based_head_line kind
    ++ (numbers_line base ++ (flat_map piece_line (pieces_of base) ++ flat_map record_line records))

-- the trace of what came of one thread's calls: it has a base exactly where a checkpoint was made
abbrev pub run_text : Kind → (cut : Bool) → Based → List (Record Deed) → List ℕ
run_text kind true base records = based_text kind base records
run_text kind false base records = trace_text kind records
