-- Tickets that were sorted, and of which each is kept once.
use Rattle.std.proofs.Common.{◌≡◌, ℕ, ◌==◌, sym, subst, List, [], ◌++◌}
use Rattle.std.specs.Prelude.{Contains}
use Rattle.std.specs.List.{dedup}
use Rattle.std.specs.List.Retain.{IsFiltered, DiffersFromLast}
use Rattle.std.specs.List.Sorted.{IsStrictlyIncreasing, IsSorted, IsPermutation}
use Rattle.std.specs.Ordering.{nat_cmp}
use Rattle.std.proofs.lemmas.List.Filters.{dedup_is}
use Rattle.std.proofs.lemmas.List.Kept.{Contains-dedup_nat, Contains-from_dedup}
use Rattle.std.proofs.lemmas.List.Sorted.{Contains-permutation, IsPermutation-sym}
use Rattle.std.proofs.lemmas.Map.Keys.{IsStrictlyIncreasing-dedup}
use Rattle.meet_tickets.specs.declared.records.Deed.{Deed}
use Rattle.meet_tickets.specs.declared.records.Record.{Record}
use Rattle.meet_tickets.specs.Bases.{Based}
use Rattle.meet_tickets.specs.Fates.{entered_in, tickets_of}
use Rattle.meet_sum.specs.Stories.{AreRequested}

pub requested-of : (b : Based) (records : List (Record Deed)) (named sorted kept : List ℕ) → named ≡ entered_in b ++ tickets_of records → IsPermutation named sorted → IsSorted nat_cmp sorted → IsFiltered (DiffersFromLast (λ x y. x == y)) [] sorted kept → AreRequested b records kept
requested-of b records named sorted kept are moved rises filtered = record {
  rising = subst IsStrictlyIncreasing (sym is) (IsStrictlyIncreasing-dedup sorted rises);
  those = λ t. (
    λ has. subst (λ xs. Contains xs t) are (Contains-permutation sorted named t (IsPermutation-sym named sorted moved) (Contains-from_dedup (λ x y. x == y) sorted t (subst (λ xs. Contains xs t) is has))),
    λ has. subst (λ xs. Contains xs t) (sym is) (Contains-dedup_nat sorted t (Contains-permutation named sorted t moved (subst (λ xs. Contains xs t) (sym are) has))),
  );
}
  where
    is : kept ≡ dedup (λ x y. x == y) sorted
    is = dedup_is (λ x y. x == y) sorted kept filtered
