-- Rows, one behind another.
use Rattle.std.proofs.Common.{◌≡◌, ℕ, suc, refl, ◌+◌, ◌-◌, ◌<◌, ◌≤◌, List, [], ◌∷◌, ◌++◌, length, drop, get_or, max, Option, sym, ap, ◌∙◌, append_assoc, append-nil, add-one, arith}
use Rattle.std.proofs.Math.Seq.{drop-cons}
use Rattle.std.proofs.lemmas.List.{drop_all}
use Rattle.meet_draw.specs.declared.columns.Column.{Column}
use Rattle.meet_draw.specs.declared.rows.Layout.{Layout}
use Rattle.meet_draw.specs.declared.rows.Shown.{Shown}
use Rattle.meet_draw.specs.Rows.{line_in, columns_after, row_text, rows_text, columns_behind, longest}

-- the next row, and those behind it
next : (rows : List Shown) (n : ℕ) (x : Shown) → n < length rows → x ≡ get_or rows n x → drop n rows ≡ x ∷ drop (n + 1) rows
next rows n x there is =
    drop-cons rows n x there ∙ (ap (λ y. y ∷ drop (suc n) rows) (sym is) ∙ ap (λ m. x ∷ drop m rows) (sym (add-one n)))

module _ (l : Layout) (bad : Option ℕ) (rows : List Shown) (whole : List ℕ) where
  -- what was written, and the rows that are left, are all
  abbrev pub AreLeft : (n : ℕ) (columns : List Column) (now : List ℕ) → Type 0
  AreLeft n columns now = now ++ rows_text l bad columns (drop n rows) ≡ whole

  more-text : (columns : List Column) (x : Shown) (xs : List Shown) → rows_text l bad columns (x ∷ xs) ≡ row_text l bad columns x ++ rows_text l bad (columns_after l.most x columns) xs
  unfolding rows_text
  more-text columns x xs = refl

  no-text : (columns : List Column) → rows_text l bad columns [] ≡ []
  unfolding rows_text
  no-text columns = refl

  pub row-more : (n : ℕ) (columns after : List Column) (x : Shown) (now later : List ℕ) → AreLeft n columns now → n < length rows → x ≡ get_or rows n x → later ≡ now ++ row_text l bad columns x → after ≡ columns_after l.most x columns → AreLeft (n + 1) after later
  row-more n columns after x now later left there is wrote took =
      ap (λ (t : List ℕ). t ++ rows_text l bad after (drop (n + 1) rows)) wrote
      ∙ (ap (λ cs. (now ++ row_text l bad columns x) ++ rows_text l bad cs (drop (n + 1) rows)) took
      ∙ (append_assoc now (row_text l bad columns x) (rows_text l bad (columns_after l.most x columns) (drop (n + 1) rows))
      ∙ (ap (λ (t : List ℕ). now ++ t) (sym (more-text columns x (drop (n + 1) rows)))
      ∙ (ap (λ xs. now ++ rows_text l bad columns xs) (sym (next rows n x there is))
      ∙ left))))

  pub rows-all : (n : ℕ) (columns : List Column) (now : List ℕ) → AreLeft n columns now → length rows ≤ n → now ≡ whole
  rows-all n columns now left all =
      sym (append-nil now)
      ∙ (ap (λ (t : List ℕ). now ++ t) (sym (no-text columns))
      ∙ (ap (λ xs. now ++ rows_text l bad columns xs) (sym (drop_all n rows all))
      ∙ left))

module _ (most : ℕ) (rows : List Shown) (whole : List Column) where
  -- the columns that the rows which are left leave are those of all
  abbrev pub AreLeading : (n : ℕ) (columns : List Column) → Type 0
  AreLeading n columns = columns_behind most columns (drop n rows) ≡ whole

  more-columns : (columns : List Column) (x : Shown) (xs : List Shown) → columns_behind most columns (x ∷ xs) ≡ columns_behind most (columns_after most x columns) xs
  unfolding columns_behind
  more-columns columns x xs = refl

  no-columns : (columns : List Column) → columns_behind most columns [] ≡ columns
  unfolding columns_behind
  no-columns columns = refl

  pub columns-more : (n : ℕ) (columns after : List Column) (x : Shown) → AreLeading n columns → n < length rows → x ≡ get_or rows n x → after ≡ columns_after most x columns → AreLeading (n + 1) after
  columns-more n columns after x left there is took =
      ap (λ cs. columns_behind most cs (drop (n + 1) rows)) took
      ∙ (sym (more-columns columns x (drop (n + 1) rows))
      ∙ (ap (columns_behind most columns) (sym (next rows n x there is))
      ∙ left))

  pub columns-all : (n : ℕ) (columns : List Column) → AreLeading n columns → length rows ≤ n → columns ≡ whole
  columns-all n columns left all =
      sym (no-columns columns) ∙ (ap (columns_behind most columns) (sym (drop_all n rows all)) ∙ left)

module _ (rows : List Shown) where
  -- the longest so far, or of those that are left, is that of all
  abbrev pub IsLongest : (n long : ℕ) → Type 0
  IsLongest n long = max long (longest (drop n rows)) ≡ longest rows

  more-long : (x : Shown) (xs : List Shown) → longest (x ∷ xs) ≡ max (length (line_in x) - 1) (longest xs)
  unfolding longest
  more-long x xs = refl

  no-long : longest [] ≡ 0
  unfolding longest
  no-long = refl

  longer : (a b c : ℕ) → max (max a b) c ≡ max a (max b c)
  longer a b c = omega arith

  pub long-more : (n long later : ℕ) (x : Shown) (line : List ℕ) → IsLongest n long → n < length rows → x ≡ get_or rows n x → line ≡ line_in x → later ≡ max long (length line - 1) → IsLongest (n + 1) later
  long-more n long later x line left there is same grown =
      ap (λ m. max m (longest (drop (n + 1) rows))) (grown ∙ ap (λ (t : List ℕ). max long (length t - 1)) same)
      ∙ (longer long (length (line_in x) - 1) (longest (drop (n + 1) rows))
      ∙ (ap (max long) (sym (more-long x (drop (n + 1) rows)) ∙ ap longest (sym (next rows n x there is)))
      ∙ left))

  pub long-all : (n long : ℕ) → IsLongest n long → length rows ≤ n → long ≡ longest rows
  long-all n long left all =
      let none : max long 0 ≡ long = omega arith in
      sym none ∙ (ap (max long) (sym no-long ∙ ap longest (sym (drop_all n rows all))) ∙ left)
