-- Seats that come to a list's end.
use Rattle.std.proofs.Common.{ℕ, List, [], ◌∷◌, ◌++◌, sym, ap, ◌∙◌, append_assoc}
use Rattle.std.proofs.lemmas.List.{append-nil}
use Rattle.meet_place.specs.declared.seats.Back.{Back}
use Rattle.pool_core.specs.declared.deeds.PoolDeed.{PoolDeed}
use Rattle.pool_threads.specs.Seated.{AreWorthy, AddsWorthy}

both : {N : Type 0} (worth : ℕ → ℕ) (xs ys : List (Back (PoolDeed ℕ) N)) → AreWorthy worth xs → AreWorthy worth ys → AreWorthy worth (xs ++ ys)
both worth [] ys h k = k
both worth (x ∷ xs) ys h k = (h.0, both worth xs ys h.1 k)

pub adds_nothing : {N : Type 0} (worth : ℕ → ℕ) (xs : List (Back (PoolDeed ℕ) N)) → AddsWorthy worth xs xs
adds_nothing worth xs = ([], sym (append-nil xs), tt)

pub adds_more : {N : Type 0} (worth : ℕ → ℕ) (xs ys zs : List (Back (PoolDeed ℕ) N)) → AddsWorthy worth xs ys → AddsWorthy worth ys zs → AddsWorthy worth xs zs
adds_more worth xs ys zs h k =
    (h.0 ++ k.0, k.1 ∙ ap (λ l. l ++ k.0) h.1 ∙ append_assoc xs h.0 k.0, both worth h.0 k.0 h.2 k.2)
