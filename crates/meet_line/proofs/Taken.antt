-- What is taken out of a list, one by one.
use Rattle.std.proofs.Common.{◌≡◌, ℕ, ◌+◌, ◌≤◌, refl, sym, ap, ◌∙◌, cond, Option, Some, None, is_some, List, [], ◌∷◌, ◌++◌, append_assoc, length, arith}
use Rattle.std.specs.Prelude.{count_by, option_to_list}
use Rattle.std.specs.List.{filter_map, cons_option}
use Rattle.std.proofs.Math.Path.{ap₂}
use Rattle.std.proofs.lemmas.List.{append-nil}
use Rattle.std.proofs.lemmas.List.Sums.{sum_by-cons}

-- what is taken next was first of the rest
pub append-cons_option : {X : Type 0} (xs : List X) (o : Option X) (ys : List X) → (xs ++ option_to_list o) ++ ys ≡ xs ++ cons_option o ys
append-cons_option xs None ys = ap (λ zs. zs ++ ys) (append-nil xs)
append-cons_option xs (Some x) ys = append_assoc xs (x ∷ []) ys

pub length-cons_option : {X : Type 0} (o : Option X) (ys : List X) → length (cons_option o ys) ≡ length (option_to_list o) + length ys
length-cons_option None ys = omega arith
length-cons_option (Some x) ys = omega arith

-- what was taken out, and what is left yet, stay the same as one more is taken out
pub taken-items : {X : Type 0} (before after whole was left : List X) (o : Option X) → was ≡ cons_option o left → after ≡ before ++ option_to_list o → before ++ was ≡ whole → after ++ left ≡ whole
taken-items before after whole was left o parts more same =
    ap (λ xs. xs ++ left) more ∙ append-cons_option before o left ∙ ap (λ xs. before ++ xs) (sym parts) ∙ same

pub taken-len : {X : Type 0} (before after whole : ℕ) (was left : List X) (o : Option X) → was ≡ cons_option o left → after ≡ before + length (option_to_list o) → before + length was ≡ whole → after + length left ≡ whole
taken-len before after whole was left o parts more same =
    let count = ap length parts ∙ length-cons_option o left in
    omega (arith, count, more, same)

-- and there is room for it
pub taken-room : {X : Type 0} (before capacity : ℕ) (was left : List X) (o : Option X) → was ≡ cons_option o left → before + length was ≤ capacity → before + length (option_to_list o) ≤ capacity
taken-room before capacity was left o parts room =
    let count = ap length parts ∙ length-cons_option o left in
    omega (arith, count, room)

-- where nothing is left all was taken out
pub all_taken-items : {X : Type 0} (taken whole left : List X) → left ≡ [] → taken ++ left ≡ whole → taken ≡ whole
all_taken-items taken whole left none same = sym (append-nil taken) ∙ ap (λ xs. taken ++ xs) (sym none) ∙ same

pub all_taken-len : {X : Type 0} (taken whole : ℕ) (left : List X) → left ≡ [] → taken + length left ≡ whole → taken ≡ whole
all_taken-len taken whole left none same = let count = ap length none in omega (arith, count, same)

-- as many are left as there are that leave something
pub length-filter_map : {X Y : Type 0} (f : X → Option Y) (xs : List X) → length (filter_map f xs) ≡ count_by (λ x. is_some (f x)) xs
length-filter_map f [] = refl
length-filter_map {Y = Y} f (x ∷ xs) =
    length-cons_option (f x) (filter_map f xs) ∙ ap₂ ◌+◌ (one (f x)) (length-filter_map f xs) ∙ sym (sum_by-cons (λ y. cond (is_some (f y)) 1 0) x xs)
  where
    one : (o : Option Y) → length (option_to_list o) ≡ cond (is_some o) 1 0
    one None = refl
    one (Some y) = refl
