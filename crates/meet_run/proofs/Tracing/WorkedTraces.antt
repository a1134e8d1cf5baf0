-- Worked traces with a base, computed by the definitions.
use Rattle.std.proofs.Common.{◌≡◌, inr, sym, lit<, ℕ, ◌+◌, ◌<◌, arith, subst, refl, true, Some, None, List, [], ◌∷◌}
use Rattle.std.specs.Prelude.{codes}
use Rattle.meet_tickets.specs.declared.lines.Entry.{Entry}
use Rattle.meet_tickets.specs.declared.places.Order.TheVariants.{Fair}
use Rattle.meet_tickets.specs.declared.places.Kind.{Kind}
use Rattle.meet_tickets.specs.Bases.{Based}
use Rattle.meet_history.specs.declared.pieces.Piece.TheVariants.{Stands}
use Rattle.meet_run.specs.Tracing.BaseGrammar.{waits_of, giver_entry, entry_of_line, ticketed_piece, piece_with_ticket, piece_with_seat, piece_behind, piece_of}
use Rattle.std.proofs.lemmas.Fmt.{decimal_digit}
use Rattle.meet_run.specs.Texts.Words.{word_of, rest_of, number_spelled}
use Rattle.meet_run.specs.Texts.Grammar.{seat_of, seat_in}
use Rattle.meet_run.specs.Tracing.TraceGrammar.{ticket_of, ticket_in}
use Rattle.meet_run.proofs.Texts.WordLemmas.{number_spelled-decimal, long-zero}
use Rattle.meet_run.specs.Tracing.BaseWording.{piece_text, piece_line, numbers_line, based_head_line, based_text}
use Rattle.meet_run.specs.Tracing.TraceTexts.{IsTextOf}

abbrev fair : Kind
fair = record { order = Fair; bound = None }

abbrev giver : (seat ticket mark : ℕ) → Entry ℕ
giver seat ticket mark = record { ticket = ticket; seat = seat; item = Some mark; waits = true }

abbrev three : Based
three = record { gone = 3; last = 3; line = giver 0 1 1 ∷ giver 1 2 2 ∷ giver 2 3 3 ∷ []; pairs = []; cut = []; flags = [] }

-- a digit spells its value
digit : (n : ℕ) → n < 10 → number_spelled ((48 + n) ∷ []) ≡ Some n
digit n small = subst (λ (w : List ℕ). number_spelled w ≡ Some n) (decimal_digit n small) (number_spelled-decimal n (omega arith))

reads_line : piece_of (codes "line 0 1 give 1 waits") ≡ Some (Stands (giver 0 1 1))
unfolding piece_of piece_behind piece_with_seat piece_with_ticket ticketed_piece entry_of_line giver_entry waits_of word_of rest_of seat_of seat_in ticket_of ticket_in
reads_line = rw (digit 0 (omega arith), digit 1 (omega arith)) refl

spells_line : piece_text (Stands (giver 0 1 1)) ≡ codes "line 0 1 give 1 waits"
spells_line = rw (decimal_digit 0 (omega arith), decimal_digit 1 (omega arith)) refl

-- a 0 in front is no spelling
reads_no_zero : piece_of (codes "line 00 1 give 1 waits") ≡ None
unfolding piece_of piece_behind piece_with_seat word_of rest_of seat_of
reads_no_zero = rw (long-zero (codes "00") refl (lit< tt)) refl

-- a flag alone, and a text that lacks its last end of line
one_flag : Based
one_flag = record { gone = 3; last = 3; line = []; pairs = []; cut = []; flags = 5 ∷ [] }

spells_text : based_text fair one_flag [] ≡ codes "trace 2 fair\nbase 3 3\nflag 5\n"
unfolding based_text based_head_line numbers_line piece_line one_flag
spells_text = rw (decimal_digit 3 (omega arith), decimal_digit 5 (omega arith)) refl

is_text : IsTextOf (codes "trace 2 fair\nbase 3 3\nflag 5") (based_text fair one_flag [])
is_text = inr (sym spells_text)
