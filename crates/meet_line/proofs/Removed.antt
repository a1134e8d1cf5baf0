-- What a removal leaves of a line.
use Rattle.std.proofs.Common.{◌≡◌, ℕ, ◌+◌, ◌==◌, refl, sym, ap, ◌∙◌, Bool, true, false, cond, Some, None, List, [], ◌∷◌, length, find, arith}
use Rattle.meet_tickets.specs.declared.lines.Entry.{Entry}
use Rattle.meet_tickets.specs.BySeat.{without_first}

-- where nothing passes all stay
pub without_first-none : {E : Type 0} (passes : E → Bool) (line : List E) → find passes line ≡ None → without_first passes line ≡ line
without_first-none passes [] none = refl
without_first-none {E} passes (e ∷ line) none = by_test (passes e) (without_first-none passes line) none
  where
    by_test : (b : Bool) → (find passes line ≡ None → without_first passes line ≡ line) → cond b (Some e) (find passes line) ≡ None → cond b line (e ∷ without_first passes line) ≡ e ∷ line
    by_test true rest none = cc
    by_test false rest none = ap (λ l. e ∷ l) (rest none)

-- where one passes one leaves
length-without_first : {E : Type 0} (passes : E → Bool) (line : List E) (e : E) → find passes line ≡ Some e → length (without_first passes line) + 1 ≡ length line
length-without_first passes [] e found = cc
length-without_first passes (x ∷ line) e found = by_test (passes x) (length-without_first passes line e) found
  where
    by_test : (b : Bool) → (find passes line ≡ Some e → length (without_first passes line) + 1 ≡ length line) → cond b (Some x) (find passes line) ≡ Some e → length (cond b line (x ∷ without_first passes line)) + 1 ≡ length (x ∷ line)
    by_test true rest found = omega arith
    by_test false rest found = let less : length (without_first passes line) + 1 ≡ length line = rest found in omega arith

-- where a ticket isn't in a line, its removal leaves the line
pub removed-none : {T : Type 0} (t : ℕ) (line line' : List (Entry T)) → None ≡ find (λ e. e.ticket == t) line → line' ≡ without_first (λ e. e.ticket == t) line → line' ≡ line
removed-none t line line' none is = is ∙ without_first-none (λ e. e.ticket == t) line (sym none)

-- where it is there, one entry less
pub removed-some : {T : Type 0} (t : ℕ) (line line' : List (Entry T)) (e : Entry T) → Some e ≡ find (λ e. e.ticket == t) line → line' ≡ without_first (λ e. e.ticket == t) line → length line' + 1 ≡ length line
removed-some t line line' e found is = ap (λ l. length l + 1) is ∙ length-without_first (λ e. e.ticket == t) line e (sym found)
