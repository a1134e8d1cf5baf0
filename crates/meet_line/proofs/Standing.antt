-- What stands in a roll, and where.
use Rattle.std.proofs.Common.{◌≡◌, ◌≢◌, ◌⊎◌, ℕ, ◌<◌, ◌≤◌, Option, Some, None, IsSome, List, [], ◌∷◌, ◌++◌, length, map, refl, sym, ap, ◌∙◌, inl, inr, subst, arith}
use Rattle.std.proofs.lemmas.List.{map-append, length-append}
use Rattle.std.proofs.lemmas.Bool.{cases_lt}
use Rattle.slab.specs.Slab.{Slab, get, ContainsKey}
use Rattle.meet_line.specs.declared.nodes.Node.{Node}
use Rattle.meet_line.specs.Runs.{IsRing, occurs}
use Rattle.meet_line.specs.Nodes.{field_at, links}
use Rattle.meet_line.specs.Rolled.{Placed, StandsAt, IsLastKey, IsRoll, first_key}
use Rattle.meet_line.proofs.Occurs.{occurs-append, occurs-same}
use Rattle.meet_line.proofs.Runs.{last_or, ring-last, ring-after}
use Rattle.meet_line.proofs.Buckets.{there-from_occurs}
use Rattle.meet_line.proofs.Places.{place_at, split_at, first_key-is}

pub some-from_there : {X : Type 0} (o : Option X) → o ≢ None → IsSome o
some-from_there None there = absurd (there refl)
some-from_there (Some x) there = refl

-- the last of a list, if it has one
pub last_split : (p : Option ℕ) (keys : List ℕ) → ((keys ≡ []) × (last_or p keys ≡ p)) ⊎ ((xs : List ℕ) × (k : ℕ) × (keys ≡ xs ++ k ∷ []) × (last_or p keys ≡ Some k))
last_split p [] = inl (refl, refl)
last_split p (x ∷ keys) =
    elim (last_split (Some x) keys) [
      | inl none ↦ inr ([], x, ap (λ ks. x ∷ ks) none.0, none.1)
      | inr some ↦ inr (x ∷ some.0, some.1, ap (λ ks. x ∷ ks) some.2, some.3)
    ]

module _ (s : Slab Node) (first last : Option ℕ) (table : List (Option ℕ)) (keys : List ℕ) (roll : IsRoll s first last table keys) where
  pub there-from_stands : (key : ℕ) → StandsAt (map (place_at s) keys) key → get s key ≢ None
  there-from_stands key at none =
      let split = split_at s keys at.front at.place at.rest at.all in
      let k = at.place.key in
      let own : get s k ≡ None = ap (get s) at.own ∙ none in
      let in_all : 1 ≤ occurs k (split.xs ++ k ∷ split.ys) = omega (arith, occurs-append k split.xs (k ∷ split.ys), occurs-same k k refl) in
      there-from_occurs s keys k roll.present (subst (λ ks. 1 ≤ occurs k ks) (sym split.all) in_all) own

  pub contains-from_stands : (key : ℕ) → StandsAt (map (place_at s) keys) key → ContainsKey s key
  contains-from_stands key at = some-from_there (get s key) (there-from_stands key at)

  -- where a ticket stands there is a bucket
  pub bucket_from_stands : (key : ℕ) → StandsAt (map (place_at s) keys) key → 0 < length table
  bucket_from_stands key at =
      elim (cases_lt 0 (length table)) [
        | inl some ↦ some
        | inr none ↦
            let empty : keys ≡ [] = roll.bare (omega (arith, none)) in
            let split = split_at s keys at.front at.place at.rest at.all in
            let longer = length-append split.xs (at.place.key ∷ split.ys) in
            absurd (omega (arith, ap length (sym empty ∙ split.all), longer))
      ]

  pub last_key-is : IsLastKey (map (place_at s) keys) last
  last_key-is =
      let is : last ≡ last_or None keys = ring-last (links (λ n. n.after) s first) (links (λ n. n.before) s last) keys roll.line in
      elim (last_split None keys) [
        | inl none ↦ subst (IsLastKey (map (place_at s) keys)) (sym (is ∙ none.1)) (ap (map (place_at s)) none.0)
        | inr some ↦ subst (IsLastKey (map (place_at s) keys)) (sym (is ∙ some.3)) (
          record {
            front = map (place_at s) some.0;
            place = place_at s some.1;
            rest = [];
            all = ap (map (place_at s)) some.2 ∙ map-append (place_at s) some.0 (some.1 ∷ []);
            own = refl;
          },
          refl,
        )
      ]

  pub after-key : (front : List Placed) (place : Placed) (rest : List Placed) → map (place_at s) keys ≡ front ++ place ∷ rest → field_at (λ n. n.after) None s place.key ≡ first_key rest
  after-key front place rest all =
      let split = split_at s keys front place rest all in
      let ring = subst (λ ks. IsRing (links (λ n. n.after) s first) (links (λ n. n.before) s last) ks) split.all roll.line in
      ring-after (links (λ n. n.after) s first) (links (λ n. n.before) s last) split.xs place.key split.ys ring
      ∙ sym (first_key-is s split.ys)
      ∙ ap first_key split.behind
