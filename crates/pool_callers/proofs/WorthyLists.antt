-- The lists of a closed pool's seats: those of callers, and those of workers, whose answers are what their jobs' tags are
-- worth.
use Rattle.std.proofs.Common.{◌≡◌, ℕ, List, [], ◌∷◌, ◌++◌, map, length, sym, subst, IsPermutation}
use Rattle.std.specs.Prelude.{All}
use Rattle.std.proofs.lemmas.List.{length-map, map-append}
use Rattle.std.proofs.lemmas.List.Elements.{All-nil, All-cons}
use Rattle.std.proofs.lemmas.List.Sorted.{IsPermutation-map}
use Rattle.meet_book.specs.Received.{Received}
use Rattle.meet_place.specs.Backs.{list_of, AreOrdered}
use Rattle.meet_place.specs.declared.seats.Back.{Back}
use Rattle.pool_core.specs.declared.deeds.PoolDeed.{PoolDeed}
use Rattle.pool_threads.specs.Seated.{AreWorthy, AddsWorthy}
use Rattle.pool_threads.specs.Worthy.{IsWorthy}
use Rattle.pool_callers.specs.PoolRuns.{AreWorthyLists}

all_worthy : {N : Type 0} (worth : ℕ → ℕ) (backs : List (Back (PoolDeed ℕ) N)) → AreWorthy worth backs → All (IsWorthy worth) (map list_of backs)
all_worthy worth [] h = All-nil (IsWorthy worth)
all_worthy worth (back ∷ backs) h =
    All-cons (IsWorthy worth) (list_of back) (map list_of backs) h.0 (all_worthy worth backs h.1)

-- the lists of seats, to which those of workers came, in the order of their numbers
pub are_worthy_lists : {N : Type 0} (worth : ℕ → ℕ) (callers all ordered : List (Back (PoolDeed ℕ) N)) → AddsWorthy worth callers all → AreOrdered all ordered → (lists : List (List (Received (PoolDeed ℕ)))) → lists ≡ map list_of ordered → AreWorthyLists worth (length callers) lists
are_worthy_lists worth callers all ordered adds same lists is = record {
  of_callers = map list_of callers;
  of_workers = map list_of adds.0;
  count = length-map callers list_of;
  worthy = all_worthy worth adds.0 adds.2;
  same = subst (IsPermutation (map list_of callers ++ map list_of adds.0)) (sym is)
      (subst (λ xs. IsPermutation xs (map list_of ordered)) (map-append list_of callers adds.0)
      (IsPermutation-map list_of (callers ++ adds.0) ordered
      (subst (λ xs. IsPermutation xs ordered) adds.1 same.same)));
}
