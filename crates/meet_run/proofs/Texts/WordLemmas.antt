-- Words of a line, and numbers as words.
use Rattle.std.proofs.Common.{◌≡◌, ℕ, suc, ◌+◌, ◌-◌, ◌*◌, ◌^◌, ◌<◌, ◌≤◌, Bool, true, false, not, cond, eqb, ltb, ◌&&◌, List, [], ◌∷◌, ◌++◌, length, take, drop, Option, Some, None, unwrap_or, get_or, refl, sym, ap, subst, ◌∙◌, arith, inl, inr}
use Rattle.std.specs.Prelude.{decimal, ⊤, slice_get, IfSome, IfNone}
use Rattle.std.specs.Borrow.{Bor}
use Rattle.std.specs.Option.{MatchOption, option_map}
use Rattle.std.specs.Char.{digit_value}
use Rattle.std.specs.Str.{bytes_eq}
use Rattle.std.specs.Str.Parse.{digits_value, digits_value_after, AllDigits}
use Rattle.std.specs.List.{position, position_or_len}
use Rattle.std.proofs.lemmas.Bool.{cases_Bool, ltb-false, eqb-true, ne_eqb, and_parts, ltb-true, lt-ltb, cond-true, cond-false, false_from_ne_true}
use Rattle.std.proofs.lemmas.Fmt.{decimal_is_IsNumeral, decimal-digits_value}
use Rattle.std.proofs.lemmas.Str.Parse.{digit_from_value, numerals_by_value, tells_digits}
use Rattle.std.proofs.lemmas.List.Sums.{prefix_len-le-length}
use Rattle.std.proofs.lemmas.List.{drop_more}
use Rattle.std.proofs.lemmas.Str.{digit_value_digit}
use Rattle.std.proofs.lemmas.Option.{cond_some}
use Rattle.std.proofs.lemmas.Slice.Eq.{bytes_eq-Decides}
use Rattle.meet_run.specs.Texts.Words.{word_of, rest_of, behind, number_if, number_spelled, BeginsAsNumber}

abbrev pub is_space : ℕ → Bool
is_space b = eqb b 32

-- a test before a step that may fail
pub chosen-some : {A : Type 0} (b : Bool) (o : Option A) (x : A) → cond b o None ≡ Some x → (b ≡ true) × (o ≡ Some x)
chosen-some true o x e = (refl, e)
chosen-some false o x e = absurd cc

-- ---- cutting at the first space

cut-at : (bs : List ℕ) → (take (position_or_len is_space bs) bs ≡ word_of bs) × (drop (position_or_len is_space bs) bs ≡ rest_of bs)
unfolding word_of rest_of
cut-at [] = (refl, refl)
cut-at (b ∷ bs) = elim (cases_Bool (is_space b)) [
  | inl t ↦ rw t (refl, refl)
  | inr f ↦
      let k : ℕ = position_or_len is_space bs in
      let one : 1 + k ≡ suc k = omega arith in
      rw (f, one) (ap (λ (w : List ℕ). b ∷ w) (cut-at bs).0, (cut-at bs).1)
]

place-of : (k n : ℕ) → k ≤ n → unwrap_or (cond (ltb k n) (Some k) None) n ≡ k
place-of k n le = elim (cases_Bool (ltb k n)) [
  | inl t ↦ rw t refl
  | inr f ↦ rw f (omega (arith, ltb-false k n f))
]

-- the place of the first space, or the length
pub space-place : (bs : List ℕ) → unwrap_or (position is_space bs) (length bs) ≡ position_or_len is_space bs
space-place bs = place-of (position_or_len is_space bs) (length bs) (prefix_len-le-length (λ b. not (is_space b)) bs)

pub word-at : (bs : List ℕ) → take (unwrap_or (position is_space bs) (length bs)) bs ≡ word_of bs
word-at bs = ap (λ k. take k bs) (space-place bs) ∙ (cut-at bs).0

pub rest-at : (bs : List ℕ) → drop (unwrap_or (position is_space bs) (length bs)) bs ≡ rest_of bs
rest-at bs = ap (λ k. drop k bs) (space-place bs) ∙ (cut-at bs).1

-- ---- numbers

-- a word that reads as a number is its one spelling
pub number_spelled-is : (word : List ℕ) (n : ℕ) → number_spelled word ≡ Some n → (word ≡ decimal n) × (n < 2 ^ 64)
unfolding number_spelled number_if
number_spelled-is word n e =
    let v : ℕ = digits_value 10 word in
    let p = cond_some (ltb v (2 ^ 64) && bytes_eq word (decimal v)) v n e in
    let q = and_parts (ltb v (2 ^ 64)) (bytes_eq word (decimal v)) p.0 in
    subst (λ (k : ℕ). (word ≡ decimal k) × (k < 2 ^ 64)) p.1 ((bytes_eq-Decides word (decimal v)).0 q.1, ltb-true v (2 ^ 64) q.0)

-- the one spelling of a number reads as it
pub number_spelled-decimal : (n : ℕ) → n < 2 ^ 64 → number_spelled (decimal n) ≡ Some n
unfolding number_spelled number_if
number_spelled-decimal n lt =
    let same : digits_value 10 (decimal n) ≡ n = (decimal_is_IsNumeral n lt).1 in
    rw (same, lt-ltb n (2 ^ 64) lt, (bytes_eq-Decides (decimal n) (decimal n)).1 refl) refl

-- what spells no number reads as none
pub number_spelled-none : (word : List ℕ) → ((n : ℕ) → n < 2 ^ 64 → word ≡ decimal n → ⊥) → number_spelled word ≡ None
unfolding number_spelled number_if
number_spelled-none word h =
    let v : ℕ = digits_value 10 word in
    let fails : (ltb v (2 ^ 64) && bytes_eq word (decimal v)) ≡ false =
    false_from_ne_true _ (λ t. let q = and_parts (ltb v (2 ^ 64)) (bytes_eq word (decimal v)) t in h v (ltb-true v (2 ^ 64) q.0) ((bytes_eq-Decides word (decimal v)).0 q.1)) in
    cond-false _ (Some v) None fails

-- ---- a prefix

behind-at : (prefix text : List ℕ) → cond (bytes_eq (take (length prefix) text) prefix) (Some (drop (length prefix) text)) None ≡ behind prefix text
unfolding behind
behind-at [] text = refl
behind-at (c ∷ prefix) [] = refl
behind-at (c ∷ prefix) (b ∷ text) = elim (cases_Bool (eqb b c)) [
  | inl t ↦ rw t (behind-at prefix text)
  | inr f ↦ rw f refl
]

-- what `strip_prefix` answers
pub behind-stripped : (prefix text : List ℕ) (r : Option (Bor (List ℕ))) → MatchOption r (bytes_eq (take (length prefix) text) prefix ≡ false) (λ x. (bytes_eq (take (length prefix) text) prefix ≡ true) × (x.now ≡ drop (length prefix) text) × (length x.now + length prefix ≡ length text)) → option_map (λ x. x.now) r ≡ behind prefix text
behind-stripped prefix text None h = sym (cond-false _ (Some (drop (length prefix) text)) None h) ∙ behind-at prefix text
behind-stripped prefix text (Some x) h =
    ap (λ (s : List ℕ). Some s) h.1 ∙ (sym (cond-true _ (Some (drop (length prefix) text)) None h.0) ∙ behind-at prefix text)

-- a text that begins with a prefix is the prefix and what stands behind it
pub behind-is : (prefix text rest : List ℕ) → behind prefix text ≡ Some rest → text ≡ prefix ++ rest
unfolding behind
behind-is [] text rest e = cc
behind-is (c ∷ prefix) [] rest e = absurd cc
behind-is (c ∷ prefix) (b ∷ text) rest e =
    let p = chosen-some (eqb b c) (behind prefix text) rest e in
    let head : b ≡ c = eqb-true b c p.0 in
    let tail : text ≡ prefix ++ rest = behind-is prefix text rest p.1 in
    cc

-- ---- a word and the rest of its line

pub word-rest : (bs : List ℕ) → word_of bs ++ rest_of bs ≡ bs
unfolding word_of rest_of
word-rest [] = refl
word-rest (b ∷ bs) = elim (cases_Bool (eqb b 32)) [
  | inl t ↦ rw t refl
  | inr f ↦ rw f (ap (λ (w : List ℕ). b ∷ w) (word-rest bs))
]

-- the rest of a line begins with a space
pub rest-space : (bs : List ℕ) (b : ℕ) (rest : List ℕ) → rest_of bs ≡ b ∷ rest → b ≡ 32
unfolding rest_of
rest-space [] b rest e = absurd cc
rest-space (x ∷ bs) b rest e = elim (cases_Bool (eqb x 32)) [
  | inl t ↦ let s : x ∷ bs ≡ b ∷ rest = sym (cond-true (eqb x 32) (x ∷ bs) (rest_of bs) t) ∙ e in let is : x ≡ 32 = eqb-true x 32 t in cc
  | inr f ↦ rest-space bs b rest (sym (cond-false (eqb x 32) (x ∷ bs) (rest_of bs) f) ∙ e)
]

-- no byte is a space
abbrev pub HasNoSpace : List ℕ → Type 0
HasNoSpace [] = ⊤
HasNoSpace (b ∷ bs) = (eqb b 32 ≡ false) × HasNoSpace bs

-- a word without a space, and then this rest, is cut between them
abbrev pub IsTail : List ℕ → Type 0
IsTail rest = (word : List ℕ) → HasNoSpace word → (word_of (word ++ rest) ≡ word) × (rest_of (word ++ rest) ≡ rest)

pub tail-none : IsTail []
unfolding word_of rest_of
tail-none [] h = (refl, refl)
tail-none (b ∷ word) h = rw h.0 (ap (λ (w : List ℕ). b ∷ w) (tail-none word h.1).0, (tail-none word h.1).1)

pub tail-space : (rest : List ℕ) → IsTail (32 ∷ rest)
unfolding word_of rest_of
tail-space rest [] h = (refl, refl)
tail-space rest (b ∷ word) h = rw h.0 (ap (λ (w : List ℕ). b ∷ w) (tail-space rest word h.1).0, (tail-space rest word h.1).1)

no_space-digits : (ds : List ℕ) → AllDigits 10 ds → HasNoSpace ds
no_space-digits [] h = tt
no_space-digits (d ∷ ds) h =
    let range = digit_from_value d h.0 in
    (ne_eqb d 32 (λ e. absurd (omega (arith, range.0))), no_space-digits ds h.1)

pub no_space-decimal : (n : ℕ) → n < 2 ^ 64 → HasNoSpace (decimal n)
no_space-decimal n lt = no_space-digits (decimal n) (decimal_is_IsNumeral n lt).0.1

-- ---- a number's one spelling has no sign, and no 0 in front

-- no more digits spell a number than its one spelling has
short-spelling : (ds : List ℕ) → AllDigits 10 ds → 0 < length ds → digits_value 10 ds < 2 ^ 64 → length (decimal (digits_value 10 ds)) ≤ length ds
short-spelling [] digits some small = absurd (omega arith)
short-spelling (c ∷ []) digits some small =
    omega (arith, ap (λ (xs : List ℕ). length xs) (decimal-digits_value (numerals_by_value _ tells_digits) (c ∷ []) digits some (λ z. refl) small))
short-spelling (c ∷ e ∷ cs) digits some small = elim (cases_Bool (eqb c 48)) [
  | inl zero ↦
      let same : digits_value 10 (c ∷ e ∷ cs) ≡ digits_value 10 (e ∷ cs) = ap (λ d. digits_value 10 (d ∷ e ∷ cs)) (eqb-true c 48 zero) in
      let rest : length (decimal (digits_value 10 (e ∷ cs))) ≤ length (e ∷ cs) = short-spelling (e ∷ cs) digits.1 (omega arith) (subst (λ n. n < 2 ^ 64) same small) in
      omega (arith, rest, ap (λ n. length (decimal n)) same)
  | inr other ↦
      let not : c ≡ 48 → ⊥ = λ z. let yes : eqb c 48 ≡ true = ap (λ d. eqb d 48) z in cc in
      omega (arith, ap (λ (xs : List ℕ). length xs) (decimal-digits_value (numerals_by_value _ tells_digits) (c ∷ e ∷ cs) digits some (λ z. absurd (not z)) small))
]

-- so a number's one spelling begins with 0 only where it is no longer
no-zero-in-front : (n : ℕ) → n < 2 ^ 64 → (e : ℕ) (cs : List ℕ) → 48 ∷ e ∷ cs ≡ decimal n → ⊥
no-zero-in-front n lt e cs same =
    let is = decimal_is_IsNumeral n lt in
    let digits : AllDigits 10 (48 ∷ e ∷ cs) = subst (AllDigits 10) (sym same) is.0.1 in
    let value : digits_value 10 (e ∷ cs) ≡ n = ap (digits_value 10) same ∙ is.1 in
    let short : length (decimal (digits_value 10 (e ∷ cs))) ≤ length (e ∷ cs) = short-spelling (e ∷ cs) digits.1 (omega arith) (subst (λ m. m < 2 ^ 64) (sym value) lt) in
    omega (arith, short, ap (λ m. length (decimal m)) value, ap (λ (xs : List ℕ). length xs) same)

-- what begins otherwise spells no number
pub empty-word : number_spelled [] ≡ None
empty-word = number_spelled-none [] (λ n lt same. omega (arith, (decimal_is_IsNumeral n lt).0.0, ap (λ (xs : List ℕ). length xs) same))

pub signed-word : (word : List ℕ) → get_or word 0 0 ≡ 43 → number_spelled word ≡ None
signed-word word sign = number_spelled-none word (λ n lt same. at word sign (subst IsNumeral10 (sym same) (decimal_is_IsNumeral n lt).0))
  where
    IsNumeral10 : List ℕ → Type 0
    IsNumeral10 ds = (0 < length ds) × AllDigits 10 ds

    at : (ds : List ℕ) → get_or ds 0 0 ≡ 43 → IsNumeral10 ds → ⊥
    at [] sign is = omega (arith, is.0)
    at (c ∷ cs) sign is = omega (arith, (digit_from_value c is.1.0).0, sign)

pub long-zero : (word : List ℕ) → get_or word 0 0 ≡ 48 → 1 < length word → number_spelled word ≡ None
long-zero word zero many = number_spelled-none word (λ n lt same. at word zero many n lt same)
  where
    at : (ds : List ℕ) → get_or ds 0 0 ≡ 48 → 1 < length ds → (n : ℕ) → n < 2 ^ 64 → ds ≡ decimal n → ⊥
    at [] zero many n lt same = omega (arith, many)
    at (c ∷ []) zero many n lt same = omega (arith, many)
    at (c ∷ e ∷ cs) zero many n lt same = no-zero-in-front n lt e cs (ap (λ d. d ∷ e ∷ cs) (sym zero) ∙ same)

-- digits that begin so are the one spelling of their value
pub digits-number : (word : List ℕ) (n : ℕ) → BeginsAsNumber word → AllDigits 10 word → n ≡ digits_value 10 word → n < 2 ^ 64 → number_spelled word ≡ Some n
digits-number word n begins digits value small =
    let fits : digits_value 10 word < 2 ^ 64 = subst (λ m. m < 2 ^ 64) value small in
    let spelled : decimal n ≡ word = ap decimal value ∙ decimal-digits_value (numerals_by_value _ tells_digits) word digits begins.some begins.lead fits in
    subst (λ (w : List ℕ). number_spelled w ≡ Some n) spelled (number_spelled-decimal n small)

-- and what isn't digits, or too great, spells none
pub no-number : (word : List ℕ) → (AllDigits 10 word → 2 ^ 64 ≤ digits_value 10 word) → number_spelled word ≡ None
no-number word great =
    number_spelled-none word (λ n lt same. let is = decimal_is_IsNumeral n lt in omega (arith, great (subst (AllDigits 10) (sym same) is.0.1), ap (digits_value 10) same, is.1))

-- so a word that begins so reads as its digits do
pub read-number : (word : List ℕ) (r : Option ℕ) → BeginsAsNumber word → IfSome r (λ n. AllDigits 10 word × (n ≡ digits_value 10 word)) → IfNone r (AllDigits 10 word → 2 ^ 64 ≤ digits_value 10 word) → IfSome r (λ n. n < 2 ^ 64) → r ≡ number_spelled word
read-number word None begins read none small = sym (no-number word none)
read-number word (Some n) begins read none small = sym (digits-number word n begins read.0 read.1 small)

-- more digits make no number less
pub value-grows : (n : ℕ) (ds : List ℕ) → n ≤ digits_value_after 10 n ds
value-grows n [] = omega arith
value-grows n (d ∷ ds) = omega (arith, value-grows (n * 10 + digit_value d) ds)

-- digits of which the next makes the number too great
pub too-great : (word : List ℕ) (at n : ℕ) → at < length word → digits_value_after 10 n (drop at word) ≡ digits_value 10 word → AllDigits 10 (drop at word) → (n * 10 + (get_or word at 0 - 48) < 2 ^ 64 → ⊥) → 2 ^ 64 ≤ digits_value 10 word
too-great word at n there value digits over =
    let b : ℕ = get_or word at 0 in
    let rest : List ℕ = drop (at + 1) word in
    let step : drop at word ≡ b ∷ rest = drop_more word at 0 there in
    let left : digits_value_after 10 n (b ∷ rest) ≡ digits_value 10 word = subst (λ (ds : List ℕ). digits_value_after 10 n ds ≡ digits_value 10 word) step value in
    let all : AllDigits 10 (b ∷ rest) = subst (AllDigits 10) step digits in
    let digit : digit_value b + 48 ≡ b = digit_value_digit b (digit_from_value b all.0) in
    omega (arith, value-grows (n * 10 + digit_value b) rest, left, digit, over)

-- a word's first byte
pub no-first : (word : List ℕ) → None ≡ slice_get word 0 → word ≡ []
no-first [] e = refl
no-first (c ∷ cs) e = absurd cc

pub first-is : (word : List ℕ) (b : ℕ) → Some b ≡ slice_get word 0 → get_or word 0 0 ≡ b
first-is [] b e = absurd cc
first-is (c ∷ cs) b e = cc
