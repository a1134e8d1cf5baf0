-- A base's pieces, written line by line.
use Rattle.std.proofs.Common.{◌≡◌, ℕ, ◌+◌, ◌<◌, ◌≤◌, List, [], ◌∷◌, ◌++◌, length, take, get_or, map, sym, ap, ◌∙◌, append_assoc, append-nil}
use Rattle.std.specs.List.{flat_map}
use Rattle.std.proofs.lemmas.Grind.{flat_map-append}
use Rattle.std.proofs.lemmas.List.{map_more, take_all, flat_map_more}
use Rattle.meet_tickets.specs.Bases.{Based}
use Rattle.meet_history.specs.declared.pieces.Piece.{Piece}
use Rattle.meet_history.specs.declared.pieces.Piece.TheVariants.{Stands, Met, Cut, Flagged}
use Rattle.meet_tickets.specs.declared.places.Kind.{Kind}
use Rattle.meet_tickets.specs.declared.records.Deed.{Deed}
use Rattle.meet_tickets.specs.declared.records.Record.{Record}
use Rattle.meet_run.specs.Tracing.TraceWording.{record_line}
use Rattle.meet_run.specs.Tracing.BaseWording.{piece_line, pieces_of, numbers_line, based_head_line, based_text}

module _ {X : Type 0} (made : X → Piece) (old now : List ℕ) (xs : List X) where
  -- the lines of so many pieces are there
  abbrev pub AreWritten : (n : ℕ) → Type 0
  AreWritten n = now ≡ old ++ flat_map piece_line (map made (take n xs))

pub written-none : {X : Type 0} (made : X → Piece) (old : List ℕ) (xs : List X) → AreWritten made old old xs 0
written-none made old xs = sym (append-nil old)

pub written-more : {X : Type 0} (made : X → Piece) (old now later : List ℕ) (xs : List X) (n : ℕ) → AreWritten made old now xs n → (x : X) → n < length xs → x ≡ get_or xs n x → later ≡ now ++ piece_line (made x) → AreWritten made old later xs (n + 1)
written-more made old now later xs n came x there is wrote =
    wrote
    ∙ (ap (λ (t : List ℕ). t ++ piece_line (made x)) came
    ∙ (flat_map_more piece_line old (map made (take n xs)) (made x)
    ∙ ap (λ (ps : List Piece). old ++ flat_map piece_line ps) (ap (λ y. map made (take n xs) ++ made y ∷ []) is ∙ sym (map_more made xs n x there))))

pub written-all : {X : Type 0} (made : X → Piece) (old now : List ℕ) (xs : List X) (n : ℕ) → AreWritten made old now xs n → length xs ≤ n → now ≡ old ++ flat_map piece_line (map made xs)
written-all made old now xs n came all = came ∙ ap (λ ys. old ++ flat_map piece_line (map made ys)) (take_all n xs all)

-- the lines of the four lists are those of the base
pub all_lines : (b : Based) (old one two three four : List ℕ) → one ≡ old ++ flat_map piece_line (map Stands b.line) → two ≡ one ++ flat_map piece_line (map Met b.pairs) → three ≡ two ++ flat_map piece_line (map Cut b.cut) → four ≡ three ++ flat_map piece_line (map Flagged b.flags) → four ≡ old ++ flat_map piece_line (pieces_of b)
all_lines b old one two three four first second third fourth =
    let lines : List Piece → List ℕ = flat_map piece_line in
    let stands = map Stands b.line in
    let met = map Met b.pairs in
    let cut = map Cut b.cut in
    let flagged = map Flagged b.flags in
    let all : lines (pieces_of b) ≡ lines stands ++ (lines met ++ (lines cut ++ lines flagged)) =
    flat_map-append piece_line stands (met ++ (cut ++ flagged)) ∙ ap (λ (t : List ℕ). lines stands ++ t)
    (flat_map-append piece_line met (cut ++ flagged) ∙ ap (λ (t : List ℕ). lines met ++ t) (flat_map-append piece_line cut flagged)) in
    let four_is : four ≡ (((old ++ lines stands) ++ lines met) ++ lines cut) ++ lines flagged =
    fourth ∙ ap (λ (t : List ℕ). t ++ lines flagged) (third ∙ ap (λ (t : List ℕ). t ++ lines cut) (second ∙ ap (λ (t : List ℕ). t ++ lines met) first)) in
    four_is
    ∙ (append_assoc ((old ++ lines stands) ++ lines met) (lines cut) (lines flagged)
    ∙ (append_assoc (old ++ lines stands) (lines met) (lines cut ++ lines flagged)
    ∙ (append_assoc old (lines stands) (lines met ++ (lines cut ++ lines flagged))
    ∙ ap (λ (t : List ℕ). old ++ t) (sym all))))

-- the base's lines and the records' are the whole text
pub based-is : (kind : Kind) (base : Based) (records : List (Record Deed)) (out : List ℕ) → out ≡ [] ++ (based_head_line kind ++ (numbers_line base ++ flat_map piece_line (pieces_of base))) → out ++ flat_map record_line records ≡ based_text kind base records
unfolding based_text
based-is kind base records out is =
    let head = based_head_line kind in
    let numbers = numbers_line base in
    let pieces = flat_map piece_line (pieces_of base) in
    let lines = flat_map record_line records in
    ap (λ (t : List ℕ). t ++ lines) is
    ∙ (append_assoc head (numbers ++ pieces) lines
    ∙ ap (λ (t : List ℕ). head ++ t) (append_assoc numbers pieces lines))
