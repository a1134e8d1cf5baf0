-- The places of a roll, by its keys.
use Rattle.std.proofs.Common.{◌≡◌, ◌≢◌, ℕ, ◌≤◌, Some, None, List, [], ◌∷◌, ◌++◌, map, refl, sym, ap, ◌∙◌, inl, inr, arith}
use Rattle.slab.specs.Slab.{Slab}
use Rattle.meet_line.specs.declared.nodes.Node.{Node}
use Rattle.meet_line.specs.Runs.{first_or, occurs, IsAbsent}
use Rattle.meet_line.specs.Nodes.{ticket_at}
use Rattle.meet_line.specs.Rolled.{Placed, first_key}
use Rattle.std.specs.Prelude.{All}
use Rattle.std.proofs.lemmas.List.Elements.{All-nil, All-cons}
use Rattle.std.proofs.lemmas.Bool.{cases_eq}
use Rattle.meet_line.proofs.Occurs.{occurs-other, absent-head, absent-tail}

-- the place of a key
abbrev pub place_at : Slab Node → ℕ → Placed
place_at s k = record { key = k; ticket = ticket_at s k }

-- keys that are split where their places are
pub record SplitAt (s : Slab Node) (keys : List ℕ) (front : List Placed) (place : Placed) (rest : List Placed) : Type 0 where
  pub xs : List ℕ
  pub ys : List ℕ
  pub all : keys ≡ xs ++ place.key ∷ ys
  pub before : map (place_at s) xs ≡ front
  pub own : place_at s place.key ≡ place
  pub behind : map (place_at s) ys ≡ rest

pub split_at : (s : Slab Node) (keys : List ℕ) (front : List Placed) (place : Placed) (rest : List Placed) → map (place_at s) keys ≡ front ++ place ∷ rest → SplitAt s keys front place rest
split_at s [] [] place rest same = absurd (cc)
split_at s [] (p ∷ front) place rest same = absurd (cc)
split_at s (k ∷ keys) [] place rest same =
    let head : place_at s k ≡ place = cc in
    let key : k ≡ place.key = ap (λ p. p.key) head in
    record {
      xs = [];
      ys = keys;
      all = ap (λ i. i ∷ keys) key;
      before = refl;
      own = ap (place_at s) (sym key) ∙ head;
      behind = cc;
    }
split_at s (k ∷ keys) (p ∷ front) place rest same =
    let tail : map (place_at s) keys ≡ front ++ place ∷ rest = cc in
    let head : place_at s k ≡ p = cc in
    let later = split_at s keys front place rest tail in
    record {
      xs = k ∷ later.xs;
      ys = later.ys;
      all = ap (λ ks. k ∷ ks) later.all;
      before = ap (λ ps. place_at s k ∷ ps) later.before ∙ ap (λ q. q ∷ front) head;
      own = later.own;
      behind = later.behind;
    }

-- places of tickets that are alike but for one key that isn't there
pub places-alike : (s s' : Slab Node) (k : ℕ) (keys : List ℕ) → ((j : ℕ) → j ≢ k → ticket_at s' j ≡ ticket_at s j) → IsAbsent (Some k) keys → map (place_at s') keys ≡ map (place_at s) keys
places-alike s s' k [] alike absent = refl
places-alike s s' k (x ∷ keys) alike absent =
    let other : x ≢ k = λ same. absent-head (Some k) x keys absent (ap (λ i. Some i) same) in
    ap (λ t. record { key = x; ticket = t } ∷ map (place_at s') keys) (alike x other)
    ∙ ap (λ ps. place_at s x ∷ ps) (places-alike s s' k keys alike (absent-tail (Some k) x keys absent))

-- the first key of the places is that of the keys
pub first_key-is : (s : Slab Node) (keys : List ℕ) → first_key (map (place_at s) keys) ≡ first_or keys None
first_key-is s [] = refl
first_key-is s (k ∷ keys) = refl

-- a key that occurs stands somewhere
pub stands-from_occurs : (k : ℕ) (keys : List ℕ) → 1 ≤ occurs k keys → (xs : List ℕ) × (ys : List ℕ) × (keys ≡ xs ++ k ∷ ys)
stands-from_occurs k [] there = absurd (omega (arith, there))
stands-from_occurs k (x ∷ keys) there =
    elim (cases_eq x k) [
      | inl same ↦ ([], keys, ap (λ i. i ∷ keys) same)
      | inr other ↦
          let later = stands-from_occurs k keys (omega (arith, there, occurs-other k x other)) in
          (x ∷ later.0, later.1, ap (λ ks. x ∷ ks) later.2)
    ]

-- no place has a key that isn't among them
pub places-fresh : (s : Slab Node) (k : ℕ) (keys : List ℕ) → IsAbsent (Some k) keys → All (λ p. p.key ≢ k) (map (place_at s) keys)
places-fresh s k [] absent = All-nil (λ p. p.key ≢ k)
places-fresh s k (x ∷ keys) absent = All-cons (λ p. p.key ≢ k) (place_at s x) (map (place_at s) keys) (λ same. absent-head (Some k) x keys absent (ap (λ i. Some i) same)) (places-fresh s k keys (absent-tail (Some k) x keys absent))
