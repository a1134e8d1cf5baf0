-- A line behind entries that have left at the front.
use Rattle.std.proofs.Common.{◌≡◌, ◌∙◌, ℕ, zero, suc, ◌+◌, ◌-◌, ◌<◌, ◌≤◌, List, [], ◌∷◌, ◌++◌, length, take, drop, get_or, refl, sym, ap, rules, arith}
use Rattle.std.specs.Prelude.{◌==◌, Some, None, false}
use Rattle.std.specs.List.{remove, position}
use Rattle.std.proofs.Math.Seq.{drop-nil}
use Rattle.std.proofs.lemmas.List.{same_lists, places}
use Rattle.meet_tickets.specs.declared.lines.Entry.{Entry}
use Rattle.meet_tickets.specs.BySeat.{without_first}
use Rattle.meet_overlap.proofs.Removals.{removed_there}

empty_left : (X : Type 0) (n : ℕ) → remove {X = X} [] n ≡ []
empty_left X zero = refl
empty_left X (suc n) = refl

-- one that leaves behind them
pub drop_remove : {X : Type 0} (g i : ℕ) (xs : List X) → drop g (remove xs (g + i)) ≡ remove (drop g xs) i
drop_remove zero i xs = let same : 0 + i ≡ i = omega arith in ap (remove xs) same
drop_remove {X} (suc g) i [] =
    ap (drop (suc g)) (empty_left X (suc g + i)) ∙ sym (empty_left X i)
drop_remove (suc g) i (x ∷ xs) = let next : suc g + i ≡ suc (g + i) = omega arith in ap (λ n. drop (suc g) (remove (x ∷ xs) n)) next ∙ drop_remove g i xs

-- the first one that leaves behind them
pub drop_more : {X : Type 0} (g : ℕ) (xs : List X) → drop (g + 1) xs ≡ drop 1 (drop g xs)
drop_more zero xs = refl
drop_more {X} (suc g) [] = drop-nil {A = X} (suc g + 1)
drop_more (suc g) (x ∷ xs) = let next : suc g + 1 ≡ suc (g + 1) = omega arith in ap (λ n. drop n (x ∷ xs)) next ∙ drop_more g xs

-- the last one
pub drop_last : {X : Type 0} (g n : ℕ) (xs : List X) → n ≡ length xs → g < n → drop g (take (n - 1) xs) ≡ take (length (drop g xs) - 1) (drop g xs)
drop_last g n xs is there = same_lists _ _ (search (rules, places)) (λ k d h. grind (arith, places))

-- what stands in front is taken out
pub rotated : {X : Type 0} (g n : ℕ) (xs : List X) → n ≡ length xs → g ≤ n → take (n - g) (drop g xs ++ take g xs) ≡ drop g xs
rotated g n xs is there = same_lists _ _ (search (rules, places)) (λ k d h. grind (arith, places))

-- the entry of a ticket that is found leaves
pub left_over : (g i t : ℕ) (xs ys : List (Entry ℕ)) → position (λ e. e.ticket == t) (drop g xs) ≡ Some i → ys ≡ remove xs (g + i) → drop g ys ≡ without_first (λ e. e.ticket == t) (drop g xs)
left_over g i t xs ys found left =
    ap (drop g) left ∙ drop_remove g i xs ∙ (removed_there (λ e. e.ticket == t) (drop g xs) (remove (drop g xs) i) i (get_or (drop g xs) i nobody) found (same_default (drop g xs) i nobody) refl).1
  where
    nobody : Entry ℕ
    nobody = record { ticket = 0; seat = 0; item = None; waits = false }

    same_default : (ys : List (Entry ℕ)) (n : ℕ) (d : Entry ℕ) → get_or ys n d ≡ get_or ys n (get_or ys n d)
    same_default [] n d = refl
    same_default (y ∷ ys) zero d = refl
    same_default (y ∷ ys) (suc n) d = same_default ys n d
