-- A byte that is taken from a block.
use Rattle.std.proofs.Common.{◌≡◌, ℕ, suc, ◌+◌, ◌-◌, ◌<◌, ◌≤◌, List, [], ◌∷◌, ◌++◌, length, take, drop, get_or, Option, Some, None, refl, sym, ap, ◌∙◌, arith}
use Rattle.std.specs.Prelude.{slice_range, slice_set}
use Rattle.std.specs.Io.KnownBytes.{prepend_known, Keeps, Consumes}
use Rattle.std.proofs.lemmas.List.{drop_more}

-- the first byte of what is left of a block, and what is left then
pub next-byte : (block : List ℕ) (at end b : ℕ) → at < end → end ≤ length block → b ≡ get_or block at b → slice_range block at end ≡ b ∷ slice_range block (at + 1) end
next-byte block at end b some inside is =
    let more : end - at ≡ suc (end - (at + 1)) = omega arith in
    let step : drop at block ≡ b ∷ drop (at + 1) block = drop_more block at b (omega arith) ∙ ap (λ x. x ∷ drop (at + 1) block) (sym is) in
    (λ i. take (more i) (step i))

-- a list whose first item was written begins with it
pub written-first : (xs : List ℕ) (x : ℕ) → 0 < length xs → take 1 (slice_set xs 0 x) ≡ x ∷ []
written-first [] x some = absurd (omega (arith, some))
written-first (y ∷ ys) x some = refl

-- the known bytes lose it
pub byte-taken : (old rest : Option (List ℕ)) (mid left : List ℕ) (b : ℕ) → Keeps old (prepend_known mid rest) → mid ≡ b ∷ left → Consumes old (prepend_known left rest) (b ∷ [])
byte-taken None rest mid left b kept is = tt
byte-taken (Some xs) None mid left b kept is = absurd kept
byte-taken (Some xs) (Some ys) mid left b kept is = sym kept ∙ ap (λ zs. zs ++ ys) is
