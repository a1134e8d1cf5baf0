-- A worker's list from which receipts are let go.
use Rattle.std.proofs.Common.{◌≡◌, ◌+◌, ℕ, zero, suc, List, [], ◌∷◌, Some, None, Option, inl, inr, ◌⊎◌, ⊎_elim}
use Rattle.std.proofs.Common.{refl, sym, ap, subst, ◌∙◌, arith}
use Rattle.std.specs.Prelude.{Bool, true, false, ◌&&◌, ◌||◌, not, filter, slice_get, ⊤, cond}
use Rattle.meet_book.specs.Received.{Received}
use Rattle.pool_core.specs.declared.deeds.PoolDeed.{PoolDeed}
use Rattle.pool_core.specs.declared.deeds.PoolDeed.TheVariants.{Runs, Finished}
use Rattle.pool_threads.specs.Worthy.{IsWorthy, is_finished, stay_together}

-- a receipt
abbrev R : Type 0
R = Received (PoolDeed ℕ)

-- this receipt stands right before that place of a list, whose first stands behind this one
abbrev StandsBefore : Option R → List R → (place : ℕ) → R → Type 0
StandsBefore o list place q = ((place ≡ 0) × (o ≡ Some q)) ⊎ ((b : ℕ) × (place ≡ b + 1) × (slice_get list b ≡ Some q))

-- an answer at that place is what the job is worth that begins right before it
abbrev Answers : (worth : ℕ → ℕ) → Option R → List R → (place : ℕ) → (answer : ℕ) → Type 0
Answers worth o list place n = (q : R) × (ticket tag : ℕ) × StandsBefore o list place q × (q.entry.deed ≡ Runs ticket tag) × (n ≡ worth tag)

-- each answer of a list, whose first stands behind this one, is such
abbrev AllAnswer : (worth : ℕ → ℕ) → Option R → List R → Type 0
AllAnswer worth o list = (place : ℕ) (r : R) (n : ℕ) → slice_get list place ≡ Some r → r.entry.deed ≡ Finished n → Answers worth o list place n

-- the same, told from the first on
abbrev AnswersFrom : (worth : ℕ → ℕ) → Option R → List R → Type 0
AnswersFrom worth o [] = ⊤
AnswersFrom worth o (r ∷ rs) = ((n : ℕ) → r.entry.deed ≡ Finished n → (q : R) × (ticket tag : ℕ) × (o ≡ Some q) × (q.entry.deed ≡ Runs ticket tag) × (n ≡ worth tag)) × AnswersFrom worth (Some r) rs

-- both tellings agree
behind_first : (worth : ℕ → ℕ) (o : Option R) (r : R) (rs : List R) → AllAnswer worth o (r ∷ rs) → AllAnswer worth (Some r) rs
behind_first worth o r rs h place s n at is =
    let old = h (suc place) s n at is in (
      old.0,
      old.1,
      old.2,
      ⊎_elim
          (λ (first : (suc place ≡ 0) × (o ≡ Some old.0)). absurd (omega (arith, first.0)))
          (λ (later : (b : ℕ) × (suc place ≡ b + 1) × (slice_get (r ∷ rs) b ≡ Some old.0)). shifted place later.0 old.0 later.1 later.2)
          old.3,
      old.4,
      old.5,
    )
  where
    shifted : (p b : ℕ) (q : R) → suc p ≡ b + 1 → slice_get (r ∷ rs) b ≡ Some q → StandsBefore (Some r) rs p q
    shifted p zero q e is = inl (omega (arith, e), is)
    shifted p (suc b) q e is = inr (b, omega (arith, e), is)

from_first : (worth : ℕ → ℕ) (o : Option R) (list : List R) → AllAnswer worth o list → AnswersFrom worth o list
from_first worth o [] h = tt
from_first worth o (r ∷ rs) h = (head, from_first worth (Some r) rs (behind_first worth o r rs h))
  where
    head : (n : ℕ) → r.entry.deed ≡ Finished n → (q : R) × (ticket tag : ℕ) × (o ≡ Some q) × (q.entry.deed ≡ Runs ticket tag) × (n ≡ worth tag)
    head n is =
        let old = h zero r n refl is in (
          old.0,
          old.1,
          old.2,
          ⊎_elim
              (λ (first : (0 ≡ 0) × (o ≡ Some old.0)). first.1)
              (λ (later : (b : ℕ) × (0 ≡ b + 1) × (slice_get (r ∷ rs) b ≡ Some old.0)). absurd (omega (arith, later.1)))
              old.3,
          old.4,
          old.5,
        )

by_places : (worth : ℕ → ℕ) (o : Option R) (list : List R) → AnswersFrom worth o list → AllAnswer worth o list
by_places worth o [] h place s n at is = absurd (cc)
by_places worth o (r ∷ rs) h zero s n at is =
    let same : r ≡ s = cc in
    let old = h.0 n (ap (λ (x : R). x.entry.deed) same ∙ is) in
    (old.0, old.1, old.2, inl (refl, old.3), old.4, old.5)
by_places worth o (r ∷ rs) h (suc place) s n at is =
    let old = by_places worth (Some r) rs h.1 place s n at is in (
      old.0,
      old.1,
      old.2,
      ⊎_elim
          (λ (first : (place ≡ 0) × (Some r ≡ Some old.0)). inr (0, omega (arith, first.0), first.1))
          (λ (later : (b : ℕ) × (place ≡ b + 1) × (slice_get rs b ≡ Some old.0)). inr (suc later.0, omega (arith, later.1), later.2))
          old.3,
      old.4,
      old.5,
    )

both : (a b : Bool) → (a && b) ≡ true → (a ≡ true) × (b ≡ true)
both true b e = (refl, e)
both false b e = absurd (cc)

stays_before : (f s b : Bool) → (not (f && s) || b) ≡ true → f ≡ true → s ≡ true → b ≡ true
stays_before true true b e x y = e
stays_before true false b e x y = absurd (cc)
stays_before false s b e x y = absurd (cc)

-- where each answer that stays stays behind its start, what stays answers as before
kept_answer : (worth : ℕ → ℕ) (p : R → Bool) (o last : Option R) (before : Bool) (list : List R)
    → (before ≡ true → last ≡ o) → stay_together p before list ≡ true → AnswersFrom worth o list → AnswersFrom worth last (filter p list)
kept_answer worth p o last before [] same t h = tt
kept_answer worth p o last before (r ∷ rs) same t h =
    by_choice (p r) refl (λ next same2. kept_answer worth p (Some r) next (p r) rs same2 (both (not (is_finished r.entry.deed && p r) || before) (stay_together p (p r) rs) t).1 h.1)
  where
    by_choice : (b : Bool) → p r ≡ b → ((next : Option R) → (p r ≡ true → next ≡ Some r) → AnswersFrom worth next (filter p rs)) → AnswersFrom worth last (filter p (r ∷ rs))
    by_choice true e rest = subst (λ (c : Bool). AnswersFrom worth last (cond c (r ∷ filter p rs) (filter p rs))) (sym e) (
      (λ n is.
          let b = stays_before (is_finished r.entry.deed) (p r) before (both (not (is_finished r.entry.deed && p r) || before) (stay_together p (p r) rs) t).0 (ap is_finished is) e in
          let old = h.0 n is in
          (old.0, old.1, old.2, same b ∙ old.3, old.4, old.5)),
      rest (Some r) (λ x. refl),
    )
    by_choice false e rest = subst (λ (c : Bool). AnswersFrom worth last (cond c (r ∷ filter p rs) (filter p rs))) (sym e)
        (rest last (λ x. absurd (cc)))

-- so a list stays worthy
pub worthy_kept : (worth : ℕ → ℕ) (p : R → Bool) (list : List R) → stay_together p false list ≡ true → IsWorthy worth list → IsWorthy worth (filter p list)
worthy_kept worth p list t h = told_back (filter p list) (by_places worth None (filter p list) (kept_answer worth p None None false list (λ x. refl) t (from_first worth None list (told list h))))
  where
    told : (l : List R) → IsWorthy worth l → AllAnswer worth None l
    told l w place r n at is =
        let old = w place r n at is in
        let q = old.3.0 in
        (q, old.3.1, old.1, inr (old.0, old.2, old.3.2), old.3.3, old.4)

    told_back : (l : List R) → AllAnswer worth None l → IsWorthy worth l
    told_back l w place r n at is =
        let old = w place r n at is in
        ⊎_elim
        (λ (first : (place ≡ 0) × (None ≡ Some old.0)). absurd (cc))
        (λ (later : (b : ℕ) × (place ≡ b + 1) × (slice_get l b ≡ Some old.0)). (later.0, old.2, later.1, (old.0, old.1, later.2, old.4), old.5))
        old.3
