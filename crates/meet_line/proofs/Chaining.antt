-- What becomes of the buckets' chains where a node is chained, unchained, or changed elsewhere.
use Rattle.std.proofs.Common.{◌≡◌, ◌≢◌, ℕ, ◌%◌, ◌<◌, ◌==◌, true, false, Option, Some, None, List, [], ◌∷◌, ◌++◌, length, refl, sym, ap, ◌∙◌, inl, inr, subst, get_or, set}
use Rattle.std.specs.List.{filter}
use Rattle.std.specs.Option.{option_map_or}
use Rattle.std.proofs.lemmas.List.{append-nil, get_or-set_same, get_or-set_other}
use Rattle.std.proofs.lemmas.List.Elements.{filter-append, filter_agree}
use Rattle.std.proofs.lemmas.Bool.{cases_eq, eq-eqb, ne_eqb, eqb-true}
use Rattle.slab.specs.Slab.{Slab, get, Updates}
use Rattle.meet_line.specs.declared.nodes.Node.{Node}
use Rattle.meet_line.specs.Runs.{IsRing, first_or, occurs, IsAbsent, IsDistinct}
use Rattle.meet_line.specs.Nodes.{field_at, links, ticket_at, with_node, put_end}
use Rattle.meet_line.specs.Rolled.{falls, chain_of, IsChain, AreChained}
use Rattle.meet_line.proofs.Occurs.{absent-filter, distinct-filter}
use Rattle.meet_line.proofs.Runs.{ring-alike, ring-elsewhere, ring-first, ring-last, ring-before, ring-after}
use Rattle.meet_line.proofs.Relinked.{field-kept, links-kept, links-others, ring-with_node}
use Rattle.meet_line.proofs.Buckets.{filter-alike, absent-filtered, first-occurs, last-occurs, passes-from_occurs, filter-passes, filter-fails}
use Rattle.meet_line.proofs.Unlinking.{ring_unlink, ring_link}

-- what links answer is none of them, where no key that it can be is
absent-by : (p : Option ℕ) (keys : List ℕ) → ((j : ℕ) → p ≡ Some j → occurs j keys ≡ 0) → IsAbsent p keys
absent-by None keys each = tt
absent-by (Some j) keys each = each j refl

-- the first of a chain is what the ring says
chain-from_ring : (s : Slab Node) (e newest : Option ℕ) (chain : List ℕ) → IsRing (links (λ n. n.newer) s e) (links (λ n. n.older) s newest) chain → IsChain s newest chain
chain-from_ring s e newest chain ring =
    subst (λ x. IsRing (links (λ n. n.newer) s x) (links (λ n. n.older) s newest) chain) (ring-first (links (λ n. n.newer) s e) (links (λ n. n.older) s newest) chain ring) ring

-- who falls into one bucket falls into no other
other-bucket : (s : Slab Node) (count b c j : ℕ) → c ≢ b → falls s count b j ≡ true → falls s count c j ≡ false
other-bucket s count b c j other there =
    ne_eqb (ticket_at s j % count) c (λ same. other (sym same ∙ eqb-true (ticket_at s j % count) b there))

-- a change that leaves tickets and chains alone
pub chains-kept : (s : Slab Node) (table : List (Option ℕ)) (count : ℕ) (keys : List ℕ) (at : Option ℕ) (f : Node → Node) → ((n : Node) → (f n).ticket ≡ n.ticket) → ((n : Node) → (f n).newer ≡ n.newer) → ((n : Node) → (f n).older ≡ n.older) → AreChained s table count keys → AreChained (with_node s at f) table count keys
chains-kept s table count keys at f ticket newer older chained b within =
    let same : chain_of (with_node s at f) count b keys ≡ chain_of s count b keys = filter_agree (falls (with_node s at f) count b) (falls s count b) (λ j. ap (λ t. t % count == b) (field-kept (λ n. n.ticket) 0 s at f j ticket)) keys in
    let first = first_or (chain_of s count b keys) None in
    subst (IsChain (with_node s at f) (get_or table b None)) (sym same) (
    ring-alike (links (λ n. n.newer) s first) (links (λ n. n.newer) (with_node s at f) first) (links (λ n. n.older) s (get_or table b None)) (links (λ n. n.older) (with_node s at f) (get_or table b None)) (chain_of s count b keys) (λ r. links-kept (λ n. n.newer) s at f first r newer) (λ r. links-kept (λ n. n.older) s at f (get_or table b None) r older) (chained b within)
    )

-- a node that isn't among them comes or goes
pub chains-others : (s s' : Slab Node) (table : List (Option ℕ)) (count : ℕ) (keys : List ℕ) (k : ℕ) (slot : Option Node) → Updates s s' k slot → IsAbsent (Some k) keys → AreChained s table count keys → AreChained s' table count keys
chains-others s s' table count keys k slot updates absent chained b within =
    let same : chain_of s' count b keys ≡ chain_of s count b keys = filter-alike (falls s' count b) (falls s count b) k keys (λ j other. ap (λ o. option_map_or (λ (n : Node). n.ticket) o 0 % count == b) (updates.others j other)) absent in
    let first = first_or (chain_of s count b keys) None in
    subst (IsChain s' (get_or table b None)) (sym same) (
    ring-elsewhere (links (λ n. n.newer) s first) (links (λ n. n.newer) s' first) (links (λ n. n.older) s (get_or table b None)) (links (λ n. n.older) s' (get_or table b None)) k (chain_of s count b keys) (λ r. links-others (λ n. n.newer) s s' k slot first r updates) (λ r. links-others (λ n. n.older) s s' k slot (get_or table b None) r updates) (absent-filter (falls s count b) (Some k) keys absent) (chained b within)
    )

module _ (s : Slab Node) (table : List (Option ℕ)) (count : ℕ) where
  -- a node leaves its bucket's chain
  pub chains_unlink : (xs : List ℕ) (k : ℕ) (ys : List ℕ) → ((j : ℕ) → get s j ≡ None → IsAbsent (Some j) (xs ++ k ∷ ys)) → IsDistinct (xs ++ k ∷ ys) → ticket_at s k % count < count → ticket_at s k % count < length table → AreChained s table count (xs ++ k ∷ ys) → let p = field_at (λ n. n.older) None s k in let q = field_at (λ n. n.newer) None s k in let b = ticket_at s k % count in AreChained (with_node (with_node s p (λ n. record n { newer = q })) q (λ n. record n { older = p })) (set table b (put_end (get_or table b None) q p)) count (xs ++ ys)
  chains_unlink xs k ys present distinct within held chained c in_count =
      let p = field_at (λ n. n.older) None s k in
      let q = field_at (λ n. n.newer) None s k in
      let b = ticket_at s k % count in
      let f : Node → Node = λ n. record n { newer = q } in
      let g : Node → Node = λ n. record n { older = p } in
      let s1 = with_node s p f in
      let s2 = with_node s1 q g in
      let newest = get_or table b None in
      let table' = set table b (put_end newest q p) in
      let passes : falls s count b k ≡ true = eq-eqb b b refl in
      let us = filter (falls s count b) xs in
      let vs = filter (falls s count b) ys in
      let split : chain_of s count b (xs ++ k ∷ ys) ≡ us ++ k ∷ vs = filter-passes (falls s count b) xs k ys passes in
      let e = first_or (us ++ k ∷ vs) None in
      let ring : IsRing (links (λ n. n.newer) s e) (links (λ n. n.older) s newest) (us ++ k ∷ vs) = subst (IsChain s newest) split (chained b within) in
      let tickets : (j : ℕ) → ticket_at s2 j ≡ ticket_at s j = λ j. field-kept (λ n. n.ticket) 0 s1 q g j (λ n. refl) ∙ field-kept (λ n. n.ticket) 0 s p f j (λ n. refl) in
      let retested : (i : ℕ) (keys : List ℕ) → chain_of s2 count i keys ≡ chain_of s count i keys = λ i keys. filter_agree (falls s2 count i) (falls s count i) (λ j. ap (λ t. t % count == i) (tickets j)) keys in
      elim (cases_eq c b) [
        | inl same ↦
            let present' : (j : ℕ) → get s j ≡ None → IsAbsent (Some j) (us ++ k ∷ vs) = λ j none. subst (IsAbsent (Some j)) split (absent-filter (falls s count b) (Some j) (xs ++ k ∷ ys) (present j none)) in
            let distinct' : IsDistinct (us ++ k ∷ vs) = subst IsDistinct split (distinct-filter (falls s count b) (xs ++ k ∷ ys) distinct) in
            let left = ring_unlink (λ n. n.newer) (λ n. n.older) s e newest us k vs f g (λ n. refl) (λ n. refl) (λ n. refl) (λ n. refl) present' distinct' ring in
            let chain : IsChain s2 (put_end newest q p) (us ++ vs) = chain-from_ring s2 (put_end e p q) (put_end newest q p) (us ++ vs) left in
            let all : us ++ vs ≡ chain_of s2 count b (xs ++ ys) = sym (filter-append (falls s count b) xs ys) ∙ sym (retested b (xs ++ ys)) in
            let at_b : IsChain s2 (get_or table' b None) (chain_of s2 count b (xs ++ ys)) = subst (λ o. IsChain s2 o (chain_of s2 count b (xs ++ ys))) (sym (get_or-set_same table b (put_end newest q p) None held)) (subst (IsChain s2 (put_end newest q p)) all chain) in
            subst (λ i. IsChain s2 (get_or table' i None) (chain_of s2 count i (xs ++ ys))) (sym same) at_b
        | inr other ↦
            let chain = chain_of s count c (xs ++ ys) in
            let fails : falls s count c k ≡ false = other-bucket s count b c k other passes in
            let there : IsChain s (get_or table c None) chain = subst (IsChain s (get_or table c None)) (filter-fails (falls s count c) xs k ys fails) (chained c in_count) in
            let p_absent : IsAbsent p chain = absent-by p chain (λ j is.
            let among = last-occurs us j (sym (ring-before (links (λ n. n.newer) s e) (links (λ n. n.older) s newest) us k vs ring) ∙ is) in
            absent-filtered (falls s count c) j (xs ++ ys) (other-bucket s count b c j other (passes-from_occurs (falls s count b) j xs among))) in
            let q_absent : IsAbsent q chain = absent-by q chain (λ j is.
            let among = first-occurs vs j (sym (ring-after (links (λ n. n.newer) s e) (links (λ n. n.older) s newest) us k vs ring) ∙ is) in
            absent-filtered (falls s count c) j (xs ++ ys) (other-bucket s count b c j other (passes-from_occurs (falls s count b) j ys among))) in
            let first = first_or chain None in
            let one = ring-with_node (λ n. n.newer) (λ n. n.older) s p f first (get_or table c None) chain p_absent there in
            let two : IsChain s2 (get_or table c None) chain = ring-with_node (λ n. n.newer) (λ n. n.older) s1 q g first (get_or table c None) chain q_absent one in
            subst (λ o. IsChain s2 o (chain_of s2 count c (xs ++ ys))) (sym (get_or-set_other table b c (put_end newest q p) None other)) (subst (IsChain s2 (get_or table c None)) (sym (retested c (xs ++ ys))) two)
      ]

  -- a node comes to its bucket's chain as the newest
  pub chains_link : (keys : List ℕ) (k : ℕ) → get s k ≢ None → ((j : ℕ) → get s j ≡ None → IsAbsent (Some j) keys) → IsAbsent (Some k) keys → IsDistinct keys → ticket_at s k % count < count → ticket_at s k % count < length table → AreChained s table count keys → let b = ticket_at s k % count in let newest = get_or table b None in AreChained (with_node (with_node s (Some k) (λ n. record n { older = newest; newer = None })) newest (λ n. record n { newer = Some k })) (set table b (Some k)) count (keys ++ k ∷ [])
  chains_link keys k there present absent distinct within held chained c in_count =
      let b = ticket_at s k % count in
      let newest = get_or table b None in
      let f : Node → Node = λ n. record n { older = newest; newer = None } in
      let g : Node → Node = λ n. record n { newer = Some k } in
      let s1 = with_node s (Some k) f in
      let s2 = with_node s1 newest g in
      let table' = set table b (Some k) in
      let passes : falls s count b k ≡ true = eq-eqb b b refl in
      let old = chain_of s count b keys in
      let e = first_or old None in
      let ring : IsRing (links (λ n. n.newer) s e) (links (λ n. n.older) s newest) old = chained b within in
      let tickets : (j : ℕ) → ticket_at s2 j ≡ ticket_at s j = λ j. field-kept (λ n. n.ticket) 0 s1 newest g j (λ n. refl) ∙ field-kept (λ n. n.ticket) 0 s (Some k) f j (λ n. refl) in
      let retested : (i : ℕ) (ks : List ℕ) → chain_of s2 count i ks ≡ chain_of s count i ks = λ i ks. filter_agree (falls s2 count i) (falls s count i) (λ j. ap (λ t. t % count == i) (tickets j)) ks in
      elim (cases_eq c b) [
        | inl same ↦
            let present' : (j : ℕ) → get s j ≡ None → IsAbsent (Some j) old = λ j none. absent-filter (falls s count b) (Some j) keys (present j none) in
            let joined = ring_link (λ n. n.newer) (λ n. n.older) s e newest old k f g (λ n. refl) (λ n. refl) (λ n. refl) (λ n. refl) there present' (absent-filter (falls s count b) (Some k) keys absent) (distinct-filter (falls s count b) keys distinct) ring in
            let chain : IsChain s2 (Some k) (old ++ k ∷ []) = chain-from_ring s2 (put_end e newest (Some k)) (Some k) (old ++ k ∷ []) joined in
            let all : old ++ k ∷ [] ≡ chain_of s2 count b (keys ++ k ∷ []) = sym (filter-passes (falls s count b) keys k [] passes) ∙ sym (retested b (keys ++ k ∷ [])) in
            let at_b : IsChain s2 (get_or table' b None) (chain_of s2 count b (keys ++ k ∷ [])) = subst (λ o. IsChain s2 o (chain_of s2 count b (keys ++ k ∷ []))) (sym (get_or-set_same table b (Some k) None held)) (subst (IsChain s2 (Some k)) all chain) in
            subst (λ i. IsChain s2 (get_or table' i None) (chain_of s2 count i (keys ++ k ∷ []))) (sym same) at_b
        | inr other ↦
            let chain = chain_of s count c keys in
            let fails : falls s count c k ≡ false = other-bucket s count b c k other passes in
            let newest_absent : IsAbsent newest chain = absent-by newest chain (λ j is.
            let among = last-occurs old j (sym (ring-last (links (λ n. n.newer) s e) (links (λ n. n.older) s newest) old ring) ∙ is) in
            absent-filtered (falls s count c) j keys (other-bucket s count b c j other (passes-from_occurs (falls s count b) j keys among))) in
            let first = first_or chain None in
            let one = ring-with_node (λ n. n.newer) (λ n. n.older) s (Some k) f first (get_or table c None) chain (absent-filter (falls s count c) (Some k) keys absent) (chained c in_count) in
            let two : IsChain s2 (get_or table c None) chain = ring-with_node (λ n. n.newer) (λ n. n.older) s1 newest g first (get_or table c None) chain newest_absent one in
            let all : chain ≡ chain_of s2 count c (keys ++ k ∷ []) = ap (filter (falls s count c)) (sym (append-nil keys)) ∙ sym (filter-fails (falls s count c) keys k [] fails) ∙ sym (retested c (keys ++ k ∷ [])) in
            subst (λ o. IsChain s2 o (chain_of s2 count c (keys ++ k ∷ []))) (sym (get_or-set_other table b c (Some k) None other)) (subst (IsChain s2 (get_or table c None)) all two)
      ]
