-- What is written again and again.
use Rattle.std.proofs.Common.{◌≡◌, ℕ, zero, suc, ◌+◌, List, [], ◌∷◌, ◌++◌, sym, ap, ◌∙◌, append_assoc, append-nil, add-one, add-zero, arith}
use Rattle.std.specs.List.{flat_map, range_with_len, repeat}
use Rattle.std.proofs.lemmas.Grind.{flat_map-append}

-- one time more
repeat_last : (n : ℕ) (xs : List ℕ) → repeat (suc n) xs ≡ repeat n xs ++ xs
repeat_last zero xs = append-nil xs
repeat_last (suc n) xs = ap (λ (t : List ℕ). xs ++ t) (repeat_last n xs) ∙ sym (append_assoc xs (repeat n xs) xs)

pub repeated-more : (old now later sign : List ℕ) (n : ℕ) → now ≡ old ++ repeat n sign → later ≡ now ++ sign → later ≡ old ++ repeat (n + 1) sign
repeated-more old now later sign n came wrote =
    wrote
    ∙ (ap (λ (t : List ℕ). t ++ sign) came
    ∙ (append_assoc old (repeat n sign) sign
    ∙ ap (λ (t : List ℕ). old ++ t) (sym (ap (λ m. repeat m sign) (add-one n) ∙ repeat_last n sign))))

-- one number more
range_last : (a n : ℕ) → range_with_len a (suc n) ≡ range_with_len a n ++ (a + n) ∷ []
range_last a zero = ap (λ m. m ∷ []) (sym (add-zero a))
range_last a (suc n) =
    ap (λ (t : List ℕ). a ∷ t) (range_last (a + 1) n ∙ ap (λ m. range_with_len (a + 1) n ++ m ∷ []) (let same : a + 1 + n ≡ a + suc n = omega arith in same))

pub ranged-more : (f : ℕ → List ℕ) (old now later : List ℕ) (n : ℕ) → now ≡ old ++ flat_map f (range_with_len 0 n) → later ≡ now ++ f n → later ≡ old ++ flat_map f (range_with_len 0 (n + 1))
ranged-more f old now later n came wrote =
    let all : flat_map f (range_with_len 0 (n + 1)) ≡ flat_map f (range_with_len 0 n) ++ f n =
    ap (λ m. flat_map f (range_with_len 0 m)) (add-one n)
    ∙ (ap (flat_map f) (range_last 0 n)
    ∙ (flat_map-append f (range_with_len 0 n) ((0 + n) ∷ [])
    ∙ ap (λ (t : List ℕ). flat_map f (range_with_len 0 n) ++ t) (append-nil (f (0 + n)) ∙ ap f (let same : 0 + n ≡ n = omega arith in same)))) in
    wrote
    ∙ (ap (λ (t : List ℕ). t ++ f n) came
    ∙ (append_assoc old (flat_map f (range_with_len 0 n)) (f n)
    ∙ ap (λ (t : List ℕ). old ++ t) (sym all)))
