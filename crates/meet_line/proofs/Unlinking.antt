-- A node leaves a ring of nodes, or comes to its end.
use Rattle.std.proofs.Common.{◌≡◌, ◌≢◌, ℕ, Option, Some, None, List, [], ◌∷◌, ◌++◌, sym, ap, ◌∙◌, arith}
use Rattle.slab.specs.Slab.{Slab, get}
use Rattle.meet_line.specs.declared.nodes.Node.{Node}
use Rattle.meet_line.specs.Runs.{put_link, IsRing, IsAbsent, IsDistinct}
use Rattle.meet_line.specs.Nodes.{field_at, links, with_node, put_end}
use Rattle.meet_line.proofs.Occurs.{occurs-append}
use Rattle.meet_line.proofs.Runs.{ring-take, ring-push, ring-alike, put-alike, ring-before, ring-after, ring-last}
use Rattle.meet_line.proofs.Relinked.{links-kept, links-put, links-first, gone-with_node}
use Rattle.meet_line.proofs.Buckets.{first-occurs, last-occurs, there-from_occurs}

module _ (next back : Node → Option ℕ) (s : Slab Node) (e e' : Option ℕ) where
  -- a node between others: the one before it is followed by the one after it, and the other way
  pub ring_unlink : (xs : List ℕ) (k : ℕ) (ys : List ℕ) (f g : Node → Node) → ((n : Node) → next (f n) ≡ field_at next None s k) → ((n : Node) → back (f n) ≡ back n) → ((n : Node) → back (g n) ≡ field_at back None s k) → ((n : Node) → next (g n) ≡ next n) → ((j : ℕ) → get s j ≡ None → IsAbsent (Some j) (xs ++ k ∷ ys)) → IsDistinct (xs ++ k ∷ ys) → IsRing (links next s e) (links back s e') (xs ++ k ∷ ys) → let p = field_at back None s k in let q = field_at next None s k in IsRing (links next (with_node (with_node s p f) q g) (put_end e p q)) (links back (with_node (with_node s p f) q g) (put_end e' q p)) (xs ++ ys)
  ring_unlink xs k ys f g next_f back_f back_g next_g present distinct ring =
      let p = field_at back None s k in
      let q = field_at next None s k in
      let s1 = with_node s p f in
      let p_there : (j : ℕ) → p ≡ Some j → get s j ≢ None = λ j is.
      let in_front = last-occurs xs j (sym (ring-before (links next s e) (links back s e') xs k ys ring) ∙ is) in
      there-from_occurs s (xs ++ k ∷ ys) j present (omega (arith, in_front, occurs-append j xs (k ∷ ys))) in
      let q_there : (j : ℕ) → q ≡ Some j → get s1 j ≢ None = λ j is none.
      let behind = first-occurs ys j (sym (ring-after (links next s e) (links back s e') xs k ys ring) ∙ is) in
      there-from_occurs s (xs ++ k ∷ ys) j present (omega (arith, behind, occurs-append j xs (k ∷ ys))) (gone-with_node s p f j none) in
      ring-alike (put_link (links next s e) p q) (links next (with_node s1 q g) (put_end e p q)) (put_link (links back s e') q p) (links back (with_node s1 q g) (put_end e' q p)) (xs ++ ys)
      (λ r. links-kept next s1 q g (put_end e p q) r next_g ∙ links-put next s p f q e r next_f p_there)
      (λ r. links-put back s1 q g p e' r back_g q_there ∙ put-alike (links back s e') (links back s1 e') q p r (links-kept back s p f e' r back_f))
      (ring-take (links next s e) (links back s e') xs k ys distinct ring)

  -- a node behind the last one
  pub ring_link : (keys : List ℕ) (k : ℕ) (f g : Node → Node) → ((n : Node) → next (f n) ≡ None) → ((n : Node) → back (f n) ≡ e') → ((n : Node) → next (g n) ≡ Some k) → ((n : Node) → back (g n) ≡ back n) → get s k ≢ None → ((j : ℕ) → get s j ≡ None → IsAbsent (Some j) keys) → IsAbsent (Some k) keys → IsDistinct keys → IsRing (links next s e) (links back s e') keys → IsRing (links next (with_node (with_node s (Some k) f) e' g) (put_end e e' (Some k))) (links back (with_node (with_node s (Some k) f) e' g) (Some k)) (keys ++ k ∷ [])
  ring_link keys k f g next_f back_f next_g back_g there present absent distinct ring =
      let s1 = with_node s (Some k) f in
      let k_there : (j : ℕ) → Some k ≡ Some j → get s j ≢ None = λ j is none. let same : k ≡ j = cc in there (ap (get s) same ∙ none) in
      let last_there : (j : ℕ) → e' ≡ Some j → get s1 j ≢ None = λ j is none.
      let among = last-occurs keys j (sym (ring-last (links next s e) (links back s e') keys ring) ∙ is) in
      there-from_occurs s keys j present among (gone-with_node s (Some k) f j none) in
      ring-alike (put_link (put_link (links next s e) (Some k) None) e' (Some k)) (links next (with_node s1 e' g) (put_end e e' (Some k))) (put_link (put_link (links back s e') (Some k) e') None (Some k)) (links back (with_node s1 e' g) (Some k)) (keys ++ k ∷ [])
      (λ r. links-put next s1 e' g (Some k) e r next_g last_there ∙ put-alike (put_link (links next s e) (Some k) None) (links next s1 e) e' (Some k) r (links-put next s (Some k) f None e r next_f k_there))
      (λ r.
      links-kept back s1 e' g (Some k) r back_g
      ∙ links-first back s1 e' (Some k) r
      ∙ put-alike (put_link (links back s e') (Some k) e') (links back s1 e') None (Some k) r (links-put back s (Some k) f e' e' r back_f k_there))
      (ring-push (links next s e) (links back s e') keys k distinct absent ring)
