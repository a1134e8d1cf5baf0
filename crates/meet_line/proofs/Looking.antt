-- What a look through a bucket's chain comes to.
use Rattle.std.proofs.Common.{◌≡◌, ◌≢◌, ℕ, ◌+◌, ◌%◌, ◌≤◌, ◌==◌, Bool, true, false, cond, Option, Some, None, List, [], ◌∷◌, ◌++◌, length, map, refl, sym, ap, ◌∙◌, inl, inr, subst, arith}
use Rattle.std.specs.Prelude.{All}
use Rattle.std.specs.List.{filter}
use Rattle.std.proofs.lemmas.List.{map-append, length-append, append_assoc, append-nil, nil_from_length}
use Rattle.std.proofs.lemmas.List.Elements.{All-nil, All-cons}
use Rattle.std.proofs.lemmas.List.Sums.{sum_by-cons}
use Rattle.std.proofs.lemmas.Bool.{cases_Bool, eq-eqb}
use Rattle.slab.specs.Slab.{Slab, get}
use Rattle.meet_line.specs.declared.nodes.Node.{Node}
use Rattle.meet_line.specs.Runs.{IsRing, first_or, occurs}
use Rattle.meet_line.specs.Nodes.{field_at, links, ticket_at}
use Rattle.meet_line.specs.Rolled.{Placed, IsFound, bucket_count, falls, chain_of, IsChain}
use Rattle.meet_line.proofs.Occurs.{occurs-append, occurs-same, occurs-filter}
use Rattle.meet_line.proofs.Runs.{last_or, ring-last, ring-before}
use Rattle.meet_line.proofs.Buckets.{there-from_occurs}
use Rattle.meet_line.proofs.Places.{place_at}
use Rattle.meet_line.proofs.Standing.{last_split}

-- none of these keys has the ticket
abbrev pub Lacks : Slab Node → ℕ → List ℕ → Type 0
Lacks s t [] = Unit {0}
Lacks s t (k ∷ keys) = (ticket_at s k ≢ t) × Lacks s t keys

-- so many nodes of a chain were looked at, from its end, without the ticket, and the next is at `at`
pub record HasLooked (s : Slab Node) (chain : List ℕ) (t : ℕ) (at : Option ℕ) (looked : ℕ) : Type 0 where
  pub rest : List ℕ
  pub done : List ℕ
  pub all : chain ≡ rest ++ done
  pub next : at ≡ last_or None rest
  pub count : length done ≡ looked
  pub lacks : Lacks s t done

-- before the first look
pub looked-none : (s : Slab Node) (newest : Option ℕ) (chain : List ℕ) (t : ℕ) → IsChain s newest chain → HasLooked s chain t newest 0
looked-none s newest chain t ring = record {
  rest = chain;
  done = [];
  all = sym (append-nil chain);
  next = ring-last (links (λ n. n.newer) s (first_or chain None)) (links (λ n. n.older) s newest) chain ring;
  count = refl;
  lacks = tt;
}

-- the node that is looked at
pub record IsNext (chain : List ℕ) (k looked : ℕ) : Type 0 where
  pub rest : List ℕ
  pub done : List ℕ
  pub all : chain ≡ rest ++ k ∷ done
  pub count : length done ≡ looked

pub next-from_looked : (s : Slab Node) (chain : List ℕ) (t k looked : ℕ) → HasLooked s chain t (Some k) looked → (n : IsNext chain k looked) × Lacks s t n.done
next-from_looked s chain t k looked has =
    elim (last_split None has.rest) [
      | inl none ↦ let clash : Some k ≡ None = has.next ∙ none.1 in absurd (cc)
      | inr some ↦
          let last : Some some.1 ≡ Some k = sym some.3 ∙ sym has.next in
          let same : some.1 ≡ k = cc in (
            record {
              rest = some.0;
              done = has.done;
              all = has.all ∙ ap (λ r. r ++ has.done) some.2 ∙ append_assoc some.0 (some.1 ∷ []) has.done ∙ ap (λ i. some.0 ++ i ∷ has.done) same;
              count = has.count;
            },
            has.lacks,
          )
    ]

-- one look more
pub looked-more : (s : Slab Node) (newest : Option ℕ) (chain : List ℕ) (t k looked : ℕ) (older : Option ℕ) → IsChain s newest chain → older ≡ field_at (λ n. n.older) None s k → ticket_at s k ≢ t → HasLooked s chain t (Some k) looked → HasLooked s chain t older (looked + 1)
looked-more s newest chain t k looked older ring is other has =
    let n = next-from_looked s chain t k looked has in
    let split = n.0 in
    let ring' = subst (λ ks. IsRing (links (λ m. m.newer) s (first_or chain None)) (links (λ m. m.older) s newest) ks) split.all ring in
    record {
      rest = split.rest;
      done = k ∷ split.done;
      all = split.all;
      next = is ∙ ring-before (links (λ m. m.newer) s (first_or chain None)) (links (λ m. m.older) s newest) split.rest k split.done ring';
      count = omega (arith, split.count);
      lacks = (other, n.1);
    }

-- a key of a chain has a node
pub there-from_next : (s : Slab Node) (f : ℕ → Bool) (keys : List ℕ) (k looked : ℕ) → ((j : ℕ) → get s j ≡ None → occurs j keys ≡ 0) → IsNext (filter f keys) k looked → get s k ≢ None
there-from_next s f keys k looked present n =
    let in_chain : 1 ≤ occurs k (n.rest ++ k ∷ n.done) = omega (arith, occurs-append k n.rest (k ∷ n.done), occurs-same k k refl) in
    let in_filter : 1 ≤ occurs k (filter f keys) = subst (λ ks. 1 ≤ occurs k ks) (sym n.all) in_chain in
    there-from_occurs s keys k present (omega (arith, in_filter, occurs-filter f k keys))

-- keys that are split where what passes is
filter_split : (f : ℕ → Bool) (keys : List ℕ) (us : List ℕ) (k : ℕ) (vs : List ℕ) → filter f keys ≡ us ++ k ∷ vs → (xs : List ℕ) × (ys : List ℕ) × (keys ≡ xs ++ k ∷ ys) × (filter f ys ≡ vs)
filter_split f [] [] k vs same = absurd (cc)
filter_split f [] (u ∷ us) k vs same = absurd (cc)
filter_split f (x ∷ keys) us k vs same =
    elim (cases_Bool (f x)) [
      | inl passes ↦ by_head (filter_split f keys) us (ap (λ b. cond b (x ∷ filter f keys) (filter f keys)) (sym passes) ∙ same)
      | inr fails ↦
          let later = filter_split f keys us k vs (ap (λ b. cond b (x ∷ filter f keys) (filter f keys)) (sym fails) ∙ same) in
          (x ∷ later.0, later.1, ap (λ ks. x ∷ ks) later.2, later.3)
    ]
  where
    by_head : ((us : List ℕ) (i : ℕ) (vs : List ℕ) → filter f keys ≡ us ++ i ∷ vs → (xs : List ℕ) × (ys : List ℕ) × (keys ≡ xs ++ i ∷ ys) × (filter f ys ≡ vs)) → (us : List ℕ) → x ∷ filter f keys ≡ us ++ k ∷ vs → (xs : List ℕ) × (ys : List ℕ) × (x ∷ keys ≡ xs ++ k ∷ ys) × (filter f ys ≡ vs)
    by_head later [] eq =
        let head : x ≡ k = cc in
        let tail : filter f keys ≡ vs = cc in
        ([], keys, ap (λ i. i ∷ keys) head, tail)
    by_head later (u ∷ us) eq =
        let tail : filter f keys ≡ us ++ k ∷ vs = cc in
        let rest = later us k vs tail in
        (x ∷ rest.0, rest.1, ap (λ ks. x ∷ ks) rest.2, rest.3)

-- the places of a bucket are counted as its keys are
bucket_count-is : (s : Slab Node) (count t : ℕ) (keys : List ℕ) → bucket_count count t (map (place_at s) keys) ≡ length (chain_of s count (t % count) keys)
bucket_count-is s count t [] = refl
bucket_count-is s count t (k ∷ keys) =
    sum_by-cons (λ (p : Placed). cond (p.ticket % count == t % count) 1 0) (place_at s k) (map (place_at s) keys)
    ∙ ap (λ n. cond (ticket_at s k % count == t % count) 1 0 + n) (bucket_count-is s count t keys)
    ∙ by_test (ticket_at s k % count == t % count)
  where
    by_test : (b : Bool) → cond b 1 0 + length (chain_of s count (t % count) keys) ≡ length (cond b (k ∷ chain_of s count (t % count) keys) (chain_of s count (t % count) keys))
    by_test true = omega arith
    by_test false = omega arith

-- who isn't in the ticket's bucket hasn't the ticket
all-lack : (s : Slab Node) (count t : ℕ) (keys : List ℕ) → Lacks s t (chain_of s count (t % count) keys) → All (λ p. p.ticket ≢ t) (map (place_at s) keys)
all-lack s count t [] lacks = All-nil (λ p. p.ticket ≢ t)
all-lack s count t (k ∷ keys) lacks =
    elim (cases_Bool (falls s count (t % count) k)) [
      | inl passes ↦
          let here : Lacks s t (k ∷ chain_of s count (t % count) keys) = subst (Lacks s t) (ap (λ b. cond b (k ∷ chain_of s count (t % count) keys) (chain_of s count (t % count) keys)) passes) lacks in
          All-cons (λ p. p.ticket ≢ t) (place_at s k) (map (place_at s) keys) here.0 (all-lack s count t keys here.1)
      | inr fails ↦
          let later : Lacks s t (chain_of s count (t % count) keys) = subst (Lacks s t) (ap (λ b. cond b (k ∷ chain_of s count (t % count) keys) (chain_of s count (t % count) keys)) fails) lacks in
          let other : ticket_at s k ≢ t = λ same. let clash : true ≡ false = sym (eq-eqb (ticket_at s k % count) (t % count) (ap (λ i. i % count) same)) ∙ fails in absurd (cc) in
          All-cons (λ p. p.ticket ≢ t) (place_at s k) (map (place_at s) keys) other (all-lack s count t keys later)
    ]

-- a look that finds the ticket
pub found-there : (s : Slab Node) (keys : List ℕ) (count t k looked : ℕ) → ticket_at s k ≡ t → IsNext (chain_of s count (t % count) keys) k looked → IsFound (map (place_at s) keys) count t (Some k) (looked + 1)
found-there s keys count t k looked own n =
    let split = filter_split (falls s count (t % count)) keys n.rest k n.done n.all in (
      record {
        front = map (place_at s) split.0;
        place = place_at s k;
        rest = map (place_at s) split.1;
        all = ap (map (place_at s)) split.2 ∙ map-append (place_at s) split.0 (k ∷ split.1);
        own = refl;
      },
      own,
      ap (λ i. i + 1) (sym (bucket_count-is s count t split.1 ∙ ap length split.3 ∙ n.count)),
    )

-- a look through all of the chain
pub found-nowhere : (s : Slab Node) (keys : List ℕ) (count t looked : ℕ) (at : Option ℕ) → at ≡ None → HasLooked s (chain_of s count (t % count) keys) t at looked → IsFound (map (place_at s) keys) count t None looked
found-nowhere s keys count t looked at end has =
    elim (last_split None has.rest) [
      | inl none ↦
          let all : chain_of s count (t % count) keys ≡ has.done = has.all ∙ ap (λ r. r ++ has.done) none.0 in (
            all-lack s count t keys (subst (Lacks s t) (sym all) has.lacks),
            sym (bucket_count-is s count t keys ∙ ap length all ∙ has.count),
          )
      | inr some ↦ let clash : None ≡ Some some.1 = sym end ∙ has.next ∙ some.3 in absurd (cc)
    ]

length-filter-le : (f : ℕ → Bool) (keys : List ℕ) → length (filter f keys) ≤ length keys
length-filter-le f [] = omega arith
length-filter-le f (x ∷ keys) =
    elim (f x) as (λ b. length (cond b (x ∷ filter f keys) (filter f keys)) ≤ length (x ∷ keys)) [
      | true ↦ omega (arith, length-filter-le f keys)
      | false ↦ omega (arith, length-filter-le f keys)
    ]

-- as many looks as there are keys
pub found-no_more : (s : Slab Node) (keys : List ℕ) (count t looked : ℕ) (at : Option ℕ) → length keys ≤ looked → HasLooked s (chain_of s count (t % count) keys) t at looked → IsFound (map (place_at s) keys) count t None looked
found-no_more s keys count t looked at most has =
    let few = length-filter-le (falls s count (t % count)) keys in
    let none : length has.rest ≡ 0 = omega (arith, few, most, has.count, ap length has.all, length-append has.rest has.done) in
    found-nowhere s keys count t looked at (has.next ∙ ap (last_or None) (nil_from_length has.rest none)) has

-- a roll without buckets has no ticket
pub found-bare : (t : ℕ) (places : List Placed) (count : ℕ) → places ≡ [] → IsFound places count t None 0
found-bare t places count none = subst (λ ps. IsFound ps count t None 0) (sym none) (All-nil (λ p. p.ticket ≢ t), refl)
