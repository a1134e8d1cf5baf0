-- One place of a list is written.
use Rattle.std.proofs.Common.{◌≡◌, ◌≢◌, ℕ, zero, suc, ◌+◌, ◌<◌, ◌≤◌, refl, ap, sym, subst, ◌∙◌, ⊎_elim, arith, Some, List, [], ◌∷◌, length}
use Rattle.std.specs.Prelude.{slice_get, slice_set, option_map}
use Rattle.std.proofs.lemmas.Bool.{cases_eq}
use Rattle.meet_tickets.specs.declared.records.Record.{Record}
use Rattle.meet_tickets.specs.declared.records.Deed.{Deed}
use Rattle.meet_c.specs.declared.entries.PlainRecord.{PlainRecord}
use Rattle.meet_c.specs.Entries.{told_record}

get-set-same : {X : Type 0} (xs : List X) (i : ℕ) (v : X) → i < length xs → slice_get (slice_set xs i v) i ≡ Some v
get-set-same [] i v within = absurd (omega arith)
get-set-same (x ∷ xs) zero v within = refl
get-set-same (x ∷ xs) (suc i) v within = get-set-same xs i v (omega arith)

get-set-other : {X : Type 0} (xs : List X) (i j : ℕ) (v : X) → j ≢ i → slice_get (slice_set xs i v) j ≡ slice_get xs j
get-set-other [] i j v n = refl
get-set-other (x ∷ xs) zero zero v n = absurd (n refl)
get-set-other (x ∷ xs) zero (suc j) v n = refl
get-set-other (x ∷ xs) (suc i) zero v n = refl
get-set-other (x ∷ xs) (suc i) (suc j) v n = get-set-other xs i j v (λ e. n (ap suc e))

-- one record more is copied
pub copied-more : (records : List (Record Deed)) (from : ℕ) (into : List PlainRecord) (at : ℕ) (x : PlainRecord) (r : Record Deed) → at < length into → slice_get records (from + at) ≡ Some r → x ≡ told_record r → ((k : ℕ) → k < at → slice_get into k ≡ option_map told_record (slice_get records (from + k))) → (k : ℕ) → k < at + 1 → slice_get (slice_set into at x) k ≡ option_map told_record (slice_get records (from + k))
copied-more records from into at x r within there told before k low = ⊎_elim
    (λ (e : k ≡ at). subst (λ j. slice_get (slice_set into at x) j ≡ option_map told_record (slice_get records (from + j))) (sym e) (get-set-same into at x within ∙ ap (λ y. Some y) told ∙ sym (ap (λ o. option_map told_record o) there)))
    (λ (n : k ≢ at). get-set-other into at k x n ∙ before k (omega (arith, n)))
    (cases_eq k at)

-- the places after it stay
pub others-stay : {X : Type 0} (was into : List X) (at : ℕ) (x : X) → ((k : ℕ) → at ≤ k → slice_get into k ≡ slice_get was k) → (k : ℕ) → at + 1 ≤ k → slice_get (slice_set into at x) k ≡ slice_get was k
others-stay was into at x before k high = let n : k ≢ at = λ e. absurd (omega (arith, e, high)) in get-set-other into at k x n ∙ before k (omega arith)
