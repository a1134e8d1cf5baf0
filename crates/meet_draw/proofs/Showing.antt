-- What is shown, piece by piece and record by record.
use Rattle.std.proofs.Common.{◌≡◌, ℕ, suc, refl, ◌+◌, ◌<◌, ◌≤◌, List, [], ◌∷◌, ◌++◌, length, take, drop, get_or, map, sym, ap, ◌∙◌, append_assoc, append-nil, add-one, add-zero, subst, arith}
use Rattle.std.proofs.Math.Seq.{drop-cons}
use Rattle.std.proofs.lemmas.List.{map_more, map-append, take_all, drop_all}
use Rattle.meet_tickets.specs.declared.records.Deed.{Deed}
use Rattle.meet_tickets.specs.declared.records.Record.{Record}
use Rattle.meet_tickets.specs.Bases.{Based}
use Rattle.meet_history.specs.declared.pieces.Piece.{Piece}
use Rattle.meet_history.specs.declared.pieces.Piece.TheVariants.{Stands, Met, Cut, Flagged}
use Rattle.meet_draw.specs.declared.rows.Shown.{Shown}
use Rattle.meet_draw.specs.declared.rows.Shown.TheVariants.{Stood, Came}
use Rattle.meet_draw.specs.Pictures.{came_from, shown_of}

module _ {X : Type 0} (made : X → Piece) (old : List Shown) (xs : List X) where
  -- so many of these are shown
  abbrev pub AreShown : (n : ℕ) (now : List Shown) → Type 0
  AreShown n now = now ≡ old ++ map Stood (map made (take n xs))

  pub shown-none : AreShown 0 old
  shown-none = sym (append-nil old)

  shown-one : (n : ℕ) (x : X) (now later : List Shown) → AreShown n now → n < length xs → x ≡ get_or xs n x → later ≡ now ++ Stood (made x) ∷ [] → AreShown (n + 1) later
  shown-one n x now later came there is pushed =
      let one : map made (take (n + 1) xs) ≡ map made (take n xs) ++ made x ∷ [] = map_more made xs n x there ∙ ap (λ y. map made (take n xs) ++ made y ∷ []) (sym is) in
      let all : map Stood (map made (take (n + 1) xs)) ≡ map Stood (map made (take n xs)) ++ Stood (made x) ∷ [] = ap (map Stood) one ∙ map-append Stood (map made (take n xs)) (made x ∷ []) in
      pushed
      ∙ (ap (λ (t : List Shown). t ++ Stood (made x) ∷ []) came
      ∙ (append_assoc old (map Stood (map made (take n xs))) (Stood (made x) ∷ [])
      ∙ ap (λ (t : List Shown). old ++ t) (sym all)))

  -- a list that is these is gone through
  pub shown-more : (ys : List X) → ys ≡ xs → (n : ℕ) (x : X) (now later : List Shown) → AreShown n now → n < length ys → x ≡ get_or ys n x → later ≡ now ++ Stood (made x) ∷ [] → AreShown (n + 1) later
  shown-more ys same n x now later came there is pushed =
      shown-one n x now later came (subst (λ zs. n < length zs) same there) (is ∙ ap (λ zs. get_or zs n x) same) pushed

  pub shown-all : (ys : List X) → ys ≡ xs → (n : ℕ) (now : List Shown) → AreShown n now → length ys ≤ n → now ≡ old ++ map Stood (map made xs)
  shown-all ys same n now came all =
      came ∙ ap (λ zs. old ++ map Stood (map made zs)) (take_all n xs (subst (λ zs. length zs ≤ n) same all))

module _ (first : ℕ) (records : List (Record Deed)) (whole : List Shown) where
  -- what was shown, and the records that are left, are all
  abbrev pub AreComing : (n : ℕ) (now : List Shown) → Type 0
  AreComing n now = now ++ came_from (first + n) (drop n records) ≡ whole

  more-came : (m : ℕ) (r : Record Deed) (rs : List (Record Deed)) → came_from m (r ∷ rs) ≡ Came m r ∷ came_from (m + 1) rs
  unfolding came_from
  more-came m r rs = refl

  no-came : (m : ℕ) → came_from m [] ≡ []
  unfolding came_from
  no-came m = refl

  pub came-none : (now : List Shown) → whole ≡ now ++ came_from first records → AreComing 0 now
  came-none now is = ap (λ m. now ++ came_from m records) (add-zero first) ∙ sym is

  pub came-more : (n number : ℕ) (r : Record Deed) (now later : List Shown) → AreComing n now → n < length records → r ≡ get_or records n r → number ≡ first + n → later ≡ now ++ Came number r ∷ [] → AreComing (n + 1) later
  came-more n number r now later left there is here pushed =
      let rest = drop (n + 1) records in
      let next : drop n records ≡ r ∷ rest = drop-cons records n r there ∙ (ap (λ y. y ∷ drop (suc n) records) (sym is) ∙ ap (λ m. r ∷ drop m records) (sym (add-one n))) in
      let on : first + (n + 1) ≡ first + n + 1 = omega arith in
      ap (λ (t : List Shown). t ++ came_from (first + (n + 1)) rest) (pushed ∙ ap (λ m. now ++ Came m r ∷ []) here)
      ∙ (append_assoc now (Came (first + n) r ∷ []) (came_from (first + (n + 1)) rest)
      ∙ (ap (λ m. now ++ Came (first + n) r ∷ came_from m rest) on
      ∙ (ap (λ (t : List Shown). now ++ t) (sym (more-came (first + n) r rest))
      ∙ (ap (λ rs. now ++ came_from (first + n) rs) (sym next)
      ∙ left))))

  pub came-all : (n : ℕ) (now : List Shown) → AreComing n now → length records ≤ n → now ≡ whole
  came-all n now left all =
      sym (append-nil now)
      ∙ (ap (λ (t : List Shown). now ++ t) (sym (no-came (first + n)))
      ∙ (ap (λ rs. now ++ came_from (first + n) rs) (sym (drop_all n records all))
      ∙ left))

-- the four lists and the records are all that is shown of a base and records
pub all-shown : (b : Based) (records : List (Record Deed)) (one two three four five : List Shown) → one ≡ [] ++ map Stood (map Stands b.line) → two ≡ one ++ map Stood (map Met b.pairs) → three ≡ two ++ map Stood (map Cut b.cut) → four ≡ three ++ map Stood (map Flagged b.flags) → five ≡ four ++ came_from (b.gone + 1) records → five ≡ shown_of b records
all-shown b records one two three four five first second third fourth fifth =
    let stands = map Stands b.line in
    let met = map Met b.pairs in
    let cut = map Cut b.cut in
    let flagged = map Flagged b.flags in
    let came = came_from (b.gone + 1) records in
    let all : map Stood (stands ++ (met ++ (cut ++ flagged))) ≡ map Stood stands ++ (map Stood met ++ (map Stood cut ++ map Stood flagged)) =
    map-append Stood stands (met ++ (cut ++ flagged)) ∙ ap (λ (t : List Shown). map Stood stands ++ t)
    (map-append Stood met (cut ++ flagged) ∙ ap (λ (t : List Shown). map Stood met ++ t) (map-append Stood cut flagged)) in
    let is : five ≡ (((map Stood stands ++ map Stood met) ++ map Stood cut) ++ map Stood flagged) ++ came =
    fifth ∙ ap (λ (t : List Shown). t ++ came) (fourth ∙ ap (λ (t : List Shown). t ++ map Stood flagged) (third ∙ ap (λ (t : List Shown). t ++ map Stood cut) (second ∙ ap (λ (t : List Shown). t ++ map Stood met) first))) in
    is
    ∙ ap (λ (t : List Shown). t ++ came)
    (append_assoc (map Stood stands ++ map Stood met) (map Stood cut) (map Stood flagged)
    ∙ (append_assoc (map Stood stands) (map Stood met) (map Stood cut ++ map Stood flagged)
    ∙ sym all))
