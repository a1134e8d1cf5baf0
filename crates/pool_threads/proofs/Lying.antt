-- The seats that lie in a pool are those of the workers that aren't there.
use Rattle.std.proofs.Common.{◌≡◌, ◌+◌, ℕ, not, cond, Option, Some, None, List, [], ◌∷◌, refl, sym, ap, ◌∙◌, is_some, is_none}
use Rattle.std.specs.Prelude.{count_by}
use Rattle.std.proofs.lemmas.List.Sums.{sum_by-cons}
use Rattle.pool_threads.specs.Mirrored.{away}

one-lies : {S : Type 0} (slot : Option S) → ◌≡◌ {A = ℕ} (cond (is_some slot) 1 0) (cond (not (is_none slot)) 1 0)
one-lies None = refl
one-lies (Some seat) = refl

pub lying : {S : Type 0} (seats : List (Option S)) → count_by is_some seats ≡ count_by not (away seats)
lying [] = refl
lying {S} (slot ∷ seats) =
    sum_by-cons (λ (s : Option S). cond (is_some s) 1 0) slot seats
    ∙ ap (λ n. n + count_by is_some seats) (one-lies slot) ∙ ap (λ n. cond (not (is_none slot)) 1 0 + n) (lying seats)
    ∙ sym (sum_by-cons (λ b. cond (not b) 1 0) (is_none slot) (away seats))

-- one slot more
pub lying-cons : {S : Type 0} {slot : Option S} {seats rest : List (Option S)} → seats ≡ slot ∷ rest
    → count_by is_some seats ≡ cond (is_some slot) 1 0 + count_by is_some rest
lying-cons {S} {slot = slot} {rest = rest} is =
    ap (λ l. count_by is_some l) is ∙ sum_by-cons (λ (s : Option S). cond (is_some s) 1 0) slot rest
