-- A text reads as a whole trace exactly where it is that trace's one text.
use Rattle.std.proofs.Common.{◌≡◌, ℕ, ◌+◌, ◌<◌, ◌≤◌, nat_lt, nat_le, Bool, true, false, List, [], ◌∷◌, ◌++◌, map, length, get_or, All, Option, Some, None, refl, sym, ap, subst, ◌∙◌, append_assoc, append-nil, arith}
use Rattle.std.specs.Prelude.{◌↔◌, decimal}
use Rattle.std.specs.List.{flat_map}
use Rattle.std.specs.Str.Parse.{AllDigits}
use Rattle.std.proofs.lemmas.Bool.{and_parts, le-ltb, lt-leb, ltb-false, leb-false}
use Rattle.std.proofs.lemmas.Fmt.{decimal_is_IsNumeral}
use Rattle.std.proofs.lemmas.Grind.{flat_map-append}
use Rattle.std.proofs.lemmas.List.Elements.{All-nil, All-cons, All-head, All-tail, All-append, All-map, All-weaker}
use Rattle.std.proofs.lemmas.Str.Parse.{digit_from_value}
use Rattle.meet_tickets.specs.declared.places.Kind.{Kind}
use Rattle.meet_tickets.specs.declared.records.Deed.{Deed}
use Rattle.meet_tickets.specs.declared.records.Record.{Record}
use Rattle.meet_tickets.specs.Bases.{Based, IsWellFormed}
use Rattle.meet_tickets.specs.Limits.{most_records}
use Rattle.meet_history.specs.declared.pieces.Piece.{Piece}
use Rattle.meet_history.specs.declared.pieces.Piece.TheVariants.{Stands, Met, Cut, Flagged}
use Rattle.meet_history.specs.Pieces.{bare_base, with_piece, in_order, piece_fits, may_follow}
use Rattle.meet_history.proofs.PieceLaws.{follows-well, follows-only, bare-well}
use Rattle.meet_run.specs.Texts.Reading.{lines_of, Listed, listed, with_item}
use Rattle.meet_run.specs.Tracing.TraceGrammar.{record_of}
use Rattle.meet_run.specs.Tracing.TraceSpelling.{head_text, record_text, deed_text, FitsRecord}
use Rattle.meet_run.specs.Tracing.TraceWording.{head_line, record_line, trace_text}
use Rattle.meet_run.specs.Tracing.Traces.{record_at, IsTrace}
use Rattle.meet_run.specs.Tracing.BaseGrammar.{piece_of, numbers_of}
use Rattle.meet_run.specs.Tracing.BaseSpelling.{FitsNumbers, FitsPiece}
use Rattle.meet_run.specs.Tracing.BaseWording.{piece_text, piece_line, pieces_of, numbers_text, numbers_line, based_head_text, based_head_line, based_text}
use Rattle.meet_run.specs.Tracing.BasedTraces.{Told, record_from, records_told, told_from, told_behind, IsBasedTrace}
use Rattle.meet_run.specs.Tracing.TraceTexts.{IsTextOf, FitsTrace, FitsBase, TracesHaveOneText, BasedTracesHaveOneText}
use Rattle.meet_run.proofs.Texts.GrammarLemmas.{chosen-second}
use Rattle.meet_run.proofs.Tracing.HeadLemmas.{heads-have-one-spelling}
use Rattle.meet_run.proofs.Tracing.TraceLemmas.{records-have-one-spelling}
use Rattle.meet_run.proofs.Scripts.ScriptLemmas.{listed-end, listed-more, listed-fault}
use Rattle.meet_run.proofs.Tracing.Laid.{told-more, told-ill, told-other, told-end, told-records, piece-gone, behind-more, behind-none, behind-end}
use Rattle.meet_run.proofs.Tracing.BaseSpellings.{piece-is, piece-again, numbers-is, numbers-again, based_head-is, based_head-again}
use Rattle.meet_run.proofs.Texts.TextLines.{ended, lines_text, IsLine, text-of-lines}
use Rattle.meet_run.proofs.Tracing.SpelledLines.{record-line, piece-line, numbers-line, head-line, based_head-line}
use Rattle.meet_run.proofs.Tracing.PieceOrder.{pieces-more, with_pieces, AreInOrder, fronts-well, laid-whole}

-- ---- the lines of a trace

abbrev trace_lines : Kind → List (Record Deed) → List (List ℕ)
trace_lines kind records = head_text kind ∷ map record_text records

abbrev based_lines : Kind → Based → List (Record Deed) → List (List ℕ)
based_lines kind base records =
    based_head_text kind ∷ numbers_text base.gone base.last ∷ (map piece_text (pieces_of base) ++ map record_text records)

records-text : (records : List (Record Deed)) → lines_text (map record_text records) ≡ flat_map record_line records
unfolding record_line
records-text [] = refl
records-text (r ∷ records) = ap (λ (t : List ℕ). ended (record_text r) ++ t) (records-text records)

pieces-text : (pieces : List Piece) → lines_text (map piece_text pieces) ≡ flat_map piece_line pieces
unfolding piece_line
pieces-text [] = refl
pieces-text (piece ∷ pieces) = ap (λ (t : List ℕ). ended (piece_text piece) ++ t) (pieces-text pieces)

trace_lines-text : (kind : Kind) (records : List (Record Deed)) → lines_text (trace_lines kind records) ≡ trace_text kind records
unfolding trace_text head_line
trace_lines-text kind records = ap (λ (t : List ℕ). ended (head_text kind) ++ t) (records-text records)

based_lines-text : (kind : Kind) (base : Based) (records : List (Record Deed)) → lines_text (based_lines kind base records) ≡ based_text kind base records
unfolding based_text based_head_line numbers_line
based_lines-text kind base records =
    let pieces : List (List ℕ) = map piece_text (pieces_of base) in
    let lines : List (List ℕ) = map record_text records in
    let behind : lines_text (pieces ++ lines) ≡ flat_map piece_line (pieces_of base) ++ flat_map record_line records =
    flat_map-append ended pieces lines ∙ (ap (λ (t : List ℕ). t ++ lines_text lines) (pieces-text (pieces_of base)) ∙ ap (λ (t : List ℕ). flat_map piece_line (pieces_of base) ++ t) (records-text records)) in
    ap (λ (t : List ℕ). ended (based_head_text kind) ++ (ended (numbers_text base.gone base.last) ++ t)) behind

record-lines : (records : List (Record Deed)) → All FitsRecord records → All IsLine (map record_text records)
record-lines records each =
    All-map IsLine record_text records (All-weaker FitsRecord (λ r. IsLine (record_text r)) record-line records each)

piece-lines : (pieces : List Piece) → All FitsPiece pieces → All IsLine (map piece_text pieces)
piece-lines pieces each =
    All-map IsLine piece_text pieces (All-weaker FitsPiece (λ p. IsLine (piece_text p)) piece-line pieces each)

trace-lines : (kind : Kind) (records : List (Record Deed)) → FitsTrace kind records → All IsLine (trace_lines kind records)
trace-lines kind records fits =
    All-cons IsLine (head_text kind) (map record_text records) (head-line kind fits.head) (record-lines records fits.each)

based-lines : (kind : Kind) (base : Based) (records : List (Record Deed)) → FitsTrace kind records → FitsBase kind base → All IsLine (based_lines kind base records)
based-lines kind base records fits base_fits =
    let pieces : List (List ℕ) = map piece_text (pieces_of base) in
    let lines : List (List ℕ) = map record_text records in
    let numbers : List ℕ = numbers_text base.gone base.last in
    All-cons IsLine (based_head_text kind) (numbers ∷ (pieces ++ lines)) (based_head-line kind fits.head)
    (All-cons IsLine numbers (pieces ++ lines) (numbers-line base.gone base.last base_fits.numbers)
    (All-append IsLine pieces lines (piece-lines (pieces_of base) base_fits.pieces) (record-lines records fits.each)))

-- ---- records, line by line

-- lines before this one read as records do
abbrev ReadsBefore : (limit : ℕ) → (reading : ℕ → List ℕ → Option (Record Deed)) → Type 0
ReadsBefore limit reading =
    (n : ℕ) (line : List ℕ) (r : Record Deed) → (reading n line ≡ Some r) ↔ ((record_of line ≡ Some r) × (n < limit))

at-reads : ReadsBefore (most_records + 2) record_at
unfolding record_at
at-reads n line r = (
  λ is. let p = chosen-second (nat_lt (most_records + 1) n) (record_of line) r is in (p.1, omega (arith, ltb-false (most_records + 1) n p.0)),
  λ p. rw (le-ltb (most_records + 1) n (omega (arith, p.1))) p.0,
)

from-reads : (first : ℕ) → ReadsBefore (first + most_records) (record_from first)
unfolding record_from
from-reads first n line r = (
  λ is. let p = chosen-second (nat_le (first + most_records) n) (record_of line) r is in (p.1, leb-false (first + most_records) n p.0),
  λ p. rw (lt-leb (first + most_records) n p.1) p.0,
)

-- a fault is a fault
no-fault : {A : Type 0} (n : ℕ) → Some n ≡ None → A
no-fault n is = absurd cc

-- all lines are these records
abbrev all_are : List (Record Deed) → Listed (Record Deed)
all_are records = record { items = records; fault = None }

module _ (limit : ℕ) (reading : ℕ → List ℕ → Option (Record Deed)) (reads : ReadsBefore limit reading) where
  -- these lines are the spellings of these records
  abbrev AreSpelled : (n : ℕ) (lines : List (List ℕ)) (records : List (Record Deed)) → Type 0
  AreSpelled n lines records =
      (lines ≡ map record_text records) × All FitsRecord records × (n + length records ≤ limit)

  records-is : (n : ℕ) (lines : List (List ℕ)) (records : List (Record Deed)) → n ≤ limit → listed reading n lines ≡ all_are records → AreSpelled n lines records
  records-is n [] records within is =
      let none : [] ≡ records = ap (λ (l : Listed (Record Deed)). l.items) (sym (listed-end reading n) ∙ is) in
      subst (λ (rs : List (Record Deed)). AreSpelled n [] rs) none (refl, All-nil FitsRecord, omega arith)
  records-is n (line ∷ lines) records within is =
      by (λ rs within rest. records-is (n + 1) lines rs within rest) (reading n line) refl
    where
      by : ((rs : List (Record Deed)) → n + 1 ≤ limit → listed reading (n + 1) lines ≡ all_are rs → AreSpelled (n + 1) lines rs) → (o : Option (Record Deed)) → reading n line ≡ o → AreSpelled n (line ∷ lines) records
      by others None none = no-fault n (ap (λ (l : Listed (Record Deed)). l.fault) (sym (listed-fault reading n line lines none) ∙ is))
      by others (Some r) some =
          let rest : Listed (Record Deed) = listed reading (n + 1) lines in
          let more : with_item r rest ≡ all_are records = sym (listed-more reading n line lines r some) ∙ is in
          let no_fault : rest.fault ≡ None = ap (λ (l : Listed (Record Deed)). l.fault) more in
          let whole : rest ≡ all_are rest.items = λ i. record { items = rest.items; fault = no_fault i } in
          let read = (reads n line r).0 some in
          let spelled = (records-have-one-spelling line r).0 read.0 in
          let behind = others rest.items (omega (arith, read.1)) whole in
          let items : r ∷ rest.items ≡ records = ap (λ (l : Listed (Record Deed)). l.items) more in
          subst (λ (rs : List (Record Deed)). AreSpelled n (line ∷ lines) rs) items
          ((λ i. spelled.0 i ∷ behind.0 i), All-cons FitsRecord r rest.items spelled.1 behind.1, omega (arith, behind.2))

  records-again : (n : ℕ) (records : List (Record Deed)) → All FitsRecord records → n + length records ≤ limit → listed reading n (map record_text records) ≡ all_are records
  records-again n [] each few = listed-end reading n
  records-again n (r ∷ records) each few =
      let one : record_of (record_text r) ≡ Some r = (records-have-one-spelling (record_text r) r).1 (refl, All-head FitsRecord r records each) in
      let read : reading n (record_text r) ≡ Some r = (reads n (record_text r) r).1 (one, omega (arith, few)) in
      listed-more reading n (record_text r) (map record_text records) r read
      ∙ ap (with_item r) (records-again (n + 1) records (All-tail FitsRecord r records each) (omega (arith, few)))

-- ---- a trace without a base

trace-is : (lines : List (List ℕ)) (kind : Kind) (records : List (Record Deed)) → IsTrace lines kind records → (lines ≡ trace_lines kind records) × FitsTrace kind records
trace-is lines kind records trace =
    let head = (heads-have-one-spelling trace.first kind).0 trace.head in
    let rest = records-is (most_records + 2) record_at at-reads 2 trace.rest records (omega arith) trace.behind in
    (trace.parts ∙ (λ i. head.0 i ∷ rest.0 i), record { head = head.1; each = rest.1; count = omega (arith, rest.2) })

trace-again : (lines : List (List ℕ)) (kind : Kind) (records : List (Record Deed)) → lines ≡ trace_lines kind records → FitsTrace kind records → IsTrace lines kind records
trace-again lines kind records are fits = record {
  first = head_text kind;
  rest = map record_text records;
  parts = are;
  head = (heads-have-one-spelling (head_text kind) kind).1 (refl, fits.head);
  behind = records-again (most_records + 2) record_at at-reads 2 records fits.each (omega (arith, fits.count));
}

pub traces-have-one-text : TracesHaveOneText
traces-have-one-text text kind records = (
  λ trace.
      let p = trace-is (lines_of text) kind records trace in
      (subst (IsTextOf text) (trace_lines-text kind records) ((text-of-lines text (trace_lines kind records) (trace-lines kind records p.1)).0 p.0), p.1),
  λ p.
      let own = subst (IsTextOf text) (sym (trace_lines-text kind records)) p.0 in
      trace-again (lines_of text) kind records ((text-of-lines text (trace_lines kind records) (trace-lines kind records p.1)).1 own) p.1,
)

-- ---- no record's line is a piece's

first-digit : (ds rest : List ℕ) → 0 < length ds → AllDigits 10 ds → get_or (ds ++ rest) 0 0 ≤ 57
first-digit [] rest some digits = absurd (omega arith)
first-digit (d ∷ ds) rest some digits = (digit_from_value d digits.0).1

first-letter : (piece : Piece) → 57 < get_or (piece_text piece) 0 0
first-letter (Stands e) = omega arith
first-letter (Met p) = omega arith
first-letter (Cut c) = omega arith
first-letter (Flagged i) = omega arith

no-piece : (r : Record Deed) → FitsRecord r → piece_of (record_text r) ≡ None
no-piece r fits = by (piece_of (record_text r)) refl
  where
    by : (o : Option Piece) → piece_of (record_text r) ≡ o → piece_of (record_text r) ≡ None
    by None none = none
    by (Some piece) some =
        let same : get_or (record_text r) 0 0 ≡ get_or (piece_text piece) 0 0 = ap (λ (t : List ℕ). get_or t 0 0) (piece-is (record_text r) piece some).0 in
        let digits = (decimal_is_IsNumeral r.seat (omega (arith, fits.seat))).0 in
        absurd (omega (arith, same, first-letter piece, first-digit (decimal r.seat) (32 ∷ (decimal r.ticket ++ 32 ∷ deed_text r.deed)) digits.0 digits.1))

-- ---- a base's pieces and the records behind them

-- lines that say this of a base and records, and have no fault
abbrev all_told : Based → List (Record Deed) → Told
all_told base records = record { base = base; records = records; fault = None }

-- these lines spell pieces that go on from this base to that one, and then these records
record IsSpelledOut (k : Kind) (b : Based) (lines : List (List ℕ)) (base : Based) (records : List (Record Deed)) : Type 0 where
  pieces : List Piece
  are : lines ≡ map piece_text pieces ++ map record_text records
  told : pieces_of base ≡ pieces_of b ++ pieces
  gone : base.gone ≡ b.gone
  last : base.last ≡ b.last
  fits : All FitsPiece pieces
  each : All FitsRecord records
  count : length records ≤ most_records
  well : IsWellFormed k b → IsWellFormed k base

piece-last : (b : Based) (piece : Piece) → (with_piece b piece).last ≡ b.last
piece-last b (Stands e) = refl
piece-last b (Met p) = refl
piece-last b (Cut c) = refl
piece-last b (Flagged i) = refl

module _ (k : Kind) (base : Based) (records : List (Record Deed)) where
  told-none : (b : Based) (n : ℕ) (lines : List (List ℕ)) → records_told b n lines ≡ all_told base records → IsSpelledOut k b lines base records
  told-none b n lines is =
      let all : records_told b n lines ≡ record { base = b; records = (listed (record_from n) n lines).items; fault = (listed (record_from n) n lines).fault } = told-records b n lines in
      let same : b ≡ base = ap (λ (t : Told). t.base) (sym all ∙ is) in
      let items : (listed (record_from n) n lines).items ≡ records = ap (λ (t : Told). t.records) (sym all ∙ is) in
      let fault : (listed (record_from n) n lines).fault ≡ None = ap (λ (t : Told). t.fault) (sym all ∙ is) in
      let whole : listed (record_from n) n lines ≡ all_are records = λ i. record { items = items i; fault = fault i } in
      let rest = records-is (n + most_records) (record_from n) (from-reads n) n lines records (omega arith) whole in
      subst (λ x. IsSpelledOut k b lines x records) same (record {
        pieces = [];
        are = rest.0;
        told = sym (append-nil (pieces_of b));
        gone = refl;
        last = refl;
        fits = All-nil FitsPiece;
        each = rest.1;
        count = omega (arith, rest.2);
        well = λ well. well;
      })

  told-piece : (b : Based) (n : ℕ) (line : List ℕ) (lines : List (List ℕ)) (piece : Piece) → piece_of line ≡ Some piece → may_follow k b piece ≡ true → IsSpelledOut k (with_piece b piece) lines base records → IsSpelledOut k b (line ∷ lines) base records
  told-piece b n line lines piece is follows rest =
      let spelled = piece-is line piece is in
      let order = and_parts (in_order b piece) (piece_fits k b piece) follows in
      record {
        pieces = piece ∷ rest.pieces;
        are = λ i. spelled.0 i ∷ rest.are i;
        told = rest.told ∙ (ap (λ (ps : List Piece). ps ++ rest.pieces) (pieces-more b piece order.0) ∙ append_assoc (pieces_of b) (piece ∷ []) rest.pieces);
        gone = rest.gone ∙ piece-gone b piece;
        last = rest.last ∙ piece-last b piece;
        fits = All-cons FitsPiece piece rest.pieces spelled.1 rest.fits;
        each = rest.each;
        count = rest.count;
        well = λ well. rest.well (follows-well k b piece well follows);
      }

  told-is : (b : Based) (n : ℕ) (lines : List (List ℕ)) → told_from k b n lines ≡ all_told base records → IsSpelledOut k b lines base records
  told-is b n [] is =
      let none : all_told b [] ≡ all_told base records = sym (told-end k b n) ∙ is in
      let same : b ≡ base = ap (λ (t : Told). t.base) none in
      let items : [] ≡ records = ap (λ (t : Told). t.records) none in
      told-none b n [] (told-records b n [] ∙ (λ i. record { base = same i; records = (ap (λ (l : Listed (Record Deed)). l.items) (listed-end (record_from n) n) ∙ items) i; fault = ap (λ (l : Listed (Record Deed)). l.fault) (listed-end (record_from n) n) i }))
  told-is b n (line ∷ lines) is = by (λ piece rest. told-is (with_piece b piece) (n + 1) lines rest) (piece_of line) refl
    where
      follow : ((piece : Piece) → told_from k (with_piece b piece) (n + 1) lines ≡ all_told base records → IsSpelledOut k (with_piece b piece) lines base records) → (piece : Piece) → piece_of line ≡ Some piece → (c : Bool) → may_follow k b piece ≡ c → IsSpelledOut k b (line ∷ lines) base records
      follow others piece some true follows =
          told-piece b n line lines piece some follows (others piece (sym (told-more k b n line lines piece some follows) ∙ is))
      follow others piece some false clash = no-fault n (ap (λ (t : Told). t.fault) (sym (told-ill k b n line lines piece some clash) ∙ is))

      by : ((piece : Piece) → told_from k (with_piece b piece) (n + 1) lines ≡ all_told base records → IsSpelledOut k (with_piece b piece) lines base records) → (o : Option Piece) → piece_of line ≡ o → IsSpelledOut k b (line ∷ lines) base records
      by others None none = told-none b n (line ∷ lines) (sym (told-other k b n line lines none) ∙ is)
      by others (Some piece) some = follow others piece some (may_follow k b piece) refl

module _ (k : Kind) (records : List (Record Deed)) (each : All FitsRecord records) (few : length records ≤ most_records) where
  records-told : (b : Based) (n : ℕ) → records_told b n (map record_text records) ≡ all_told b records
  records-told b n =
      let all : listed (record_from n) n (map record_text records) ≡ all_are records = records-again (n + most_records) (record_from n) (from-reads n) n records each (omega (arith, few)) in
      told-records b n (map record_text records) ∙ ap (λ (l : Listed (Record Deed)). let t : Told = record { base = b; records = l.items; fault = l.fault } in t) all

  told-behind : (b : Based) (n : ℕ) → told_from k b n (map record_text records) ≡ all_told b records
  told-behind b n = by records refl
    where
      by : (rs : List (Record Deed)) → records ≡ rs → told_from k b n (map record_text records) ≡ all_told b records
      by [] none = ap (λ (rs : List (Record Deed)). told_from k b n (map record_text rs)) none ∙ (told-end k b n ∙ ap (all_told b) (sym none))
      by (r ∷ rs) some =
          let fits : FitsRecord r = All-head FitsRecord r rs (subst (All FitsRecord) some each) in
          ap (λ (rs : List (Record Deed)). told_from k b n (map record_text rs)) some
          ∙ (told-other k b n (record_text r) (map record_text rs) (no-piece r fits)
          ∙ (ap (λ (rs : List (Record Deed)). records_told b n (map record_text rs)) (sym some)
          ∙ records-told b n))

  told-again : (b : Based) (n : ℕ) (pieces : List Piece) → AreInOrder b pieces → IsWellFormed k (with_pieces b pieces) → All FitsPiece pieces → told_from k b n (map piece_text pieces ++ map record_text records) ≡ all_told (with_pieces b pieces) records
  told-again b n [] order well fits = told-behind b n
  told-again b n (piece ∷ pieces) order well fits =
      let next : IsWellFormed k (with_piece b piece) = fronts-well k (with_piece b piece) pieces order.1 well in
      told-more k b n (piece_text piece) (map piece_text pieces ++ map record_text records) piece (piece-again piece (All-head FitsPiece piece pieces fits)) (follows-only k b piece next order.0)
      ∙ told-again (with_piece b piece) (n + 1) pieces order.1 well (All-tail FitsPiece piece pieces fits)

-- ---- a trace with a base

module _ (kind : Kind) (base : Based) (records : List (Record Deed)) where
  behind-is : (lines : List (List ℕ)) → told_behind kind lines ≡ all_told base records → (lines ≡ numbers_text base.gone base.last ∷ (map piece_text (pieces_of base) ++ map record_text records)) × All FitsRecord records × (length records ≤ most_records) × FitsBase kind base
  behind-is [] is = no-fault 2 (ap (λ (t : Told). t.fault) (sym (behind-end kind) ∙ is))
  behind-is (line ∷ lines) is = by (numbers_of line) refl
    where
      by : (o : Option (ℕ × ℕ)) → numbers_of line ≡ o → (line ∷ lines ≡ numbers_text base.gone base.last ∷ (map piece_text (pieces_of base) ++ map record_text records)) × All FitsRecord records × (length records ≤ most_records) × FitsBase kind base
      by None none = no-fault 2 (ap (λ (t : Told). t.fault) (sym (behind-none kind line lines none) ∙ is))
      by (Some numbers) some =
          let start : Based = bare_base numbers.0 numbers.1 in
          let rest = told-is kind base records start 3 lines (sym (behind-more kind line lines numbers some) ∙ is) in
          let spelled = numbers-is line numbers.0 numbers.1 some in
          let own : numbers_text numbers.0 numbers.1 ≡ numbers_text base.gone base.last = λ i. numbers_text (sym rest.gone i) (sym rest.last i) in
          let fit : FitsNumbers base.gone base.last = subst (λ (g : ℕ). FitsNumbers g base.last) (sym rest.gone) (subst (λ (l : ℕ). FitsNumbers numbers.0 l) (sym rest.last) spelled.1) in
          let pieces : pieces_of base ≡ rest.pieces = rest.told in
          let text : line ≡ numbers_text base.gone base.last = spelled.0 ∙ own in
          let behind : lines ≡ map piece_text (pieces_of base) ++ map record_text records = rest.are ∙ ap (λ (ps : List Piece). map piece_text ps ++ map record_text records) (sym pieces) in
          ((λ i. text i ∷ behind i), rest.each, rest.count, record { well_formed = rest.well (bare-well kind numbers.0 numbers.1); numbers = fit; pieces = subst (All FitsPiece) (sym pieces) rest.fits })

  based-is : (lines : List (List ℕ)) → IsBasedTrace lines kind base records → (lines ≡ based_lines kind base records) × FitsTrace kind records × FitsBase kind base
  based-is lines trace =
      let head = based_head-is trace.first kind trace.head in
      let rest = behind-is trace.rest trace.behind in
      (trace.parts ∙ (λ i. head.0 i ∷ rest.0 i), record { head = head.1; each = rest.1; count = rest.2 }, rest.3)

  based-again : (lines : List (List ℕ)) → lines ≡ based_lines kind base records → FitsTrace kind records → FitsBase kind base → IsBasedTrace lines kind base records
  based-again lines are fits own =
      let laid = laid-whole base in
      let behind : List (List ℕ) = map piece_text (pieces_of base) ++ map record_text records in
      let well : IsWellFormed kind (with_pieces (bare_base base.gone base.last) (pieces_of base)) = subst (IsWellFormed kind) (sym laid.1) own.well_formed in
      record {
        first = based_head_text kind;
        rest = numbers_text base.gone base.last ∷ behind;
        parts = are;
        head = based_head-again kind fits.head;
        behind =
            behind-more kind (numbers_text base.gone base.last) behind (base.gone, base.last) (numbers-again base.gone base.last own.numbers)
            ∙ (told-again kind records fits.each fits.count (bare_base base.gone base.last) 3 (pieces_of base) laid.0 well own.pieces
            ∙ ap (λ (b : Based). all_told b records) laid.1);
      }

pub based-traces-have-one-text : BasedTracesHaveOneText
based-traces-have-one-text text kind base records = (
  λ trace.
      let p = based-is kind base records (lines_of text) trace in
      (subst (IsTextOf text) (based_lines-text kind base records) ((text-of-lines text (based_lines kind base records) (based-lines kind base records p.1 p.2)).0 p.0), p.1, p.2),
  λ p.
      let own = subst (IsTextOf text) (sym (based_lines-text kind base records)) p.0 in
      based-again kind base records (lines_of text) ((text-of-lines text (based_lines kind base records) (based-lines kind base records p.1 p.2)).1 own) p.1 p.2,
)
