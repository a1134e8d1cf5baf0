-- A roll to which a key comes, and one that a key leaves.
use Rattle.std.proofs.Common.{◌≡◌, ◌≢◌, ℕ, ◌+◌, ◌%◌, ◌<◌, Bool, true, false, cond, Option, Some, None, option_map, List, [], ◌∷◌, ◌++◌, length, refl, sym, ap, ◌∙◌, inl, inr, subst, arith, get_or, set}
use Rattle.std.specs.Option.{option_map_or}
use Rattle.std.proofs.lemmas.List.{length-set, set-get_or, length-append}
use Rattle.std.proofs.lemmas.Bool.{cases_eq}
use Rattle.std.proofs.lemmas.Nat.{mod_below}
use Rattle.slab.specs.Slab.{Slab, get, slab_len, Updates}
use Rattle.meet_line.specs.declared.nodes.Node.{Node}
use Rattle.meet_line.specs.Runs.{is_same, IsRing, IsAbsent}
use Rattle.meet_line.specs.Nodes.{field_at, links, ticket_at, with_node, put_end}
use Rattle.meet_line.specs.Rolled.{AreChained, IsTableSize, IsRoll, keys_of}
use Rattle.meet_line.proofs.Occurs.{occurs-append, occurs-other, distinct-less, distinct-middle, distinct-push}
use Rattle.meet_line.proofs.Runs.{ring-alike, ring-elsewhere, followed-run}
use Rattle.meet_line.proofs.Relinked.{get-with_node, field-kept, links-kept, links-others, gone-with_node, len-with_node}
use Rattle.meet_line.proofs.Unlinking.{ring_unlink, ring_link}
use Rattle.meet_line.proofs.Chaining.{chains-kept, chains-others, chains_unlink, chains_link}

-- the keys that are followed are the roll's
pub keys-are : (s : Slab Node) (first last : Option ℕ) (table : List (Option ℕ)) (keys : List ℕ) → IsRoll s first last table keys → keys_of s first ≡ keys
keys-are s first last table keys roll = followed-run (slab_len s) (links (λ n. n.after) s first) None keys (omega (arith, roll.counted)) roll.line.onward

pub roll-closed : (s : Slab Node) (first last : Option ℕ) (table : List (Option ℕ)) (keys : List ℕ) → IsRoll s first last table keys → IsRoll s first last table (keys_of s first)
roll-closed s first last table keys roll = subst (IsRoll s first last table) (sym (keys-are s first last table keys roll)) roll

-- a node that is already what f makes of it
with_node-same : (s : Slab Node) (k : ℕ) (f : Node → Node) → option_map f (get s k) ≡ get s k → with_node s (Some k) f ≡ s
with_node-same s k f same = ap (λ slots. record s { slots = slots }) (ap (set s.slots k) same ∙ set-get_or s.slots k None)

still : (f g : Node → Node) (n : Node) (b : Bool) → f n ≡ n → f (g n) ≡ g n → option_map f (cond b (option_map g (Some n)) (Some n)) ≡ cond b (option_map g (Some n)) (Some n)
still f g n true same same' = ap (λ m. Some m) same'
still f g n false same same' = ap (λ m. Some m) same

module _ (s : Slab Node) (first last : Option ℕ) (table : List (Option ℕ)) where
  -- a new node comes to the line's end, and is the newest of its bucket
  pub roll_push : (keys : List ℕ) (s0 : Slab Node) (k : ℕ) (ticket b : ℕ) → b ≡ ticket % length table → 0 < length table → let newest = get_or table b None in let node : Node = record { ticket = ticket; before = last; after = None; older = newest; newer = None } in get s k ≡ None → Updates s s0 k (Some node) → slab_len s0 ≡ slab_len s + 1 → IsRoll s first last table keys → IsRoll (with_node (with_node s0 last (λ n. record n { after = Some k })) newest (λ n. record n { newer = Some k })) (put_end first last (Some k)) (Some k) (set table b (Some k)) (keys ++ k ∷ [])
  roll_push keys s0 k ticket b b_is some vacant updates len roll =
      let newest = get_or table b None in
      let node : Node = record { ticket = ticket; before = last; after = None; older = newest; newer = None } in
      let fl : Node → Node = λ n. record n { after = None; before = last } in
      let fa : Node → Node = λ n. record n { after = Some k } in
      let fc : Node → Node = λ n. record n { older = newest; newer = None } in
      let fn : Node → Node = λ n. record n { newer = Some k } in
      let count = length table in
      let s1 = with_node s0 last fa in
      let s2 = with_node s1 newest fn in
      let absent : IsAbsent (Some k) keys = roll.present k vacant in
      let here : get s0 k ≡ Some node = updates.changed in
      let there : get s0 k ≢ None = λ none. absurd (cc) in
      let present0 : (j : ℕ) → get s0 j ≡ None → IsAbsent (Some j) keys = λ j none.
      elim (cases_eq j k) [
        | inl same ↦ absurd (there (ap (get s0) (sym same) ∙ none))
        | inr other ↦ roll.present j (sym (updates.others j other) ∙ none)
      ] in
      let ring0 = ring-elsewhere (links (λ n. n.after) s first) (links (λ n. n.after) s0 first) (links (λ n. n.before) s last) (links (λ n. n.before) s0 last) k keys (λ r. links-others (λ n. n.after) s s0 k (Some node) first r updates) (λ r. links-others (λ n. n.before) s s0 k (Some node) last r updates) absent roll.line in
      let linked = ring_link (λ n. n.after) (λ n. n.before) s0 first last keys k fl fa (λ n. refl) (λ n. refl) (λ n. refl) (λ n. refl) there present0 absent roll.distinct ring0 in
      let same0 : with_node s0 (Some k) fl ≡ s0 = with_node-same s0 k fl (ap (option_map fl) here ∙ sym here) in
      let ring1 : IsRing (links (λ n. n.after) s1 (put_end first last (Some k))) (links (λ n. n.before) s1 (Some k)) (keys ++ k ∷ []) = subst (λ z. IsRing (links (λ n. n.after) (with_node z last fa) (put_end first last (Some k))) (links (λ n. n.before) (with_node z last fa) (Some k)) (keys ++ k ∷ [])) same0 linked in
      let ring2 = ring-alike (links (λ n. n.after) s1 (put_end first last (Some k))) (links (λ n. n.after) s2 (put_end first last (Some k))) (links (λ n. n.before) s1 (Some k)) (links (λ n. n.before) s2 (Some k)) (keys ++ k ∷ []) (λ r. links-kept (λ n. n.after) s1 newest fn (put_end first last (Some k)) r (λ n. refl)) (λ r. links-kept (λ n. n.before) s1 newest fn (Some k) r (λ n. refl)) ring1 in
      let chains1 : AreChained s1 table count keys = chains-kept s0 table count keys last fa (λ n. refl) (λ n. refl) (λ n. refl) (chains-others s s0 table count keys k (Some node) updates absent roll.chains) in
      let ticket_is : ticket_at s1 k ≡ ticket = field-kept (λ n. n.ticket) 0 s0 last fa k (λ n. refl) ∙ ap (λ o. option_map_or (λ (n : Node). n.ticket) o 0) here in
      let bucket_is : ticket_at s1 k % count ≡ b = ap (λ t. t % count) ticket_is ∙ sym b_is in
      let within : ticket_at s1 k % count < count = mod_below (ticket_at s1 k) count some in
      let present1 : (j : ℕ) → get s1 j ≡ None → IsAbsent (Some j) keys = λ j none. present0 j (gone-with_node s0 last fa j none) in
      let there1 : get s1 k ≢ None = λ none. there (gone-with_node s0 last fa k none) in
      let chained = chains_link s1 table count keys k there1 present1 absent roll.distinct within within chains1 in
      let at_b : AreChained (with_node (with_node s1 (Some k) fc) newest fn) (set table b (Some k)) count (keys ++ k ∷ []) = subst (λ i. AreChained (with_node (with_node s1 (Some k) (λ n. record n { older = get_or table i None; newer = None })) (get_or table i None) fn) (set table i (Some k)) count (keys ++ k ∷ [])) bucket_is chained in
      let at_k : get s1 k ≡ cond (is_same (Some k) last) (option_map fa (Some node)) (Some node) = get-with_node s0 last fa k ∙ ap (λ o. cond (is_same (Some k) last) (option_map fa o) o) here in
      let same1 : with_node s1 (Some k) fc ≡ s1 = with_node-same s1 k fc (subst (λ o. option_map fc o ≡ o) (sym at_k) (still fc fa node (is_same (Some k) last) refl refl)) in
      let chains2 : AreChained s2 (set table b (Some k)) count (keys ++ k ∷ []) = subst (λ z. AreChained (with_node z newest fn) (set table b (Some k)) count (keys ++ k ∷ [])) same1 at_b in
      let size : length (set table b (Some k)) ≡ count = length-set table b (Some k) in
      record {
        line = ring2;
        chains = subst (λ m. AreChained s2 (set table b (Some k)) m (keys ++ k ∷ [])) (sym size) chains2;
        present = λ j none.
            let none1 = gone-with_node s1 newest fn j none in
            let other : k ≢ j = λ same. there1 (ap (get s1) same ∙ none1) in
            omega (arith, occurs-append j keys (k ∷ []), present1 j none1, occurs-other j k other);
        distinct = distinct-push keys k roll.distinct absent;
        counted = omega (arith, length-append keys (k ∷ []), roll.counted, len, len-with_node s0 last fa, len-with_node s1 newest fn);
        bare = λ none. absurd (omega (arith, none, size, some));
        sized = subst IsTableSize (sym size) roll.sized;
      }

  -- a node leaves the line and its bucket
  pub roll_take : (xs : List ℕ) (k : ℕ) (ys : List ℕ) (s5 : Slab Node) (n : Node) (b : ℕ) → b ≡ n.ticket % length table → 0 < length table → get s k ≡ Some n → let s4 = with_node (with_node (with_node (with_node s n.before (λ m. record m { after = n.after })) n.after (λ m. record m { before = n.before })) n.older (λ m. record m { newer = n.newer })) n.newer (λ m. record m { older = n.older }) in Updates s4 s5 k None → slab_len s5 + 1 ≡ slab_len s4 → IsRoll s first last table (xs ++ k ∷ ys) → IsRoll s5 (put_end first n.before n.after) (put_end last n.after n.before) (set table b (put_end (get_or table b None) n.newer n.older)) (xs ++ ys)
  roll_take xs k ys s5 n b b_is some here updates len roll =
      let fa : Node → Node = λ m. record m { after = n.after } in
      let fb : Node → Node = λ m. record m { before = n.before } in
      let fn : Node → Node = λ m. record m { newer = n.newer } in
      let fo : Node → Node = λ m. record m { older = n.older } in
      let s1 = with_node s n.before fa in
      let s2 = with_node s1 n.after fb in
      let s3 = with_node s2 n.older fn in
      let s4 = with_node s3 n.newer fo in
      let count = length table in
      let first' = put_end first n.before n.after in
      let last' = put_end last n.after n.before in
      let table' = set table b (put_end (get_or table b None) n.newer n.older) in
      let absent : IsAbsent (Some k) (xs ++ ys) = distinct-middle xs k ys roll.distinct in
      let at : (X : Type 0) (field : Node → X) (none : X) → field_at field none s k ≡ field n = λ X field none. ap (λ o. option_map_or field o none) here in
      let before_is = at (Option ℕ) (λ m. m.before) None in
      let after_is = at (Option ℕ) (λ m. m.after) None in
      let line2 = ring_unlink (λ m. m.after) (λ m. m.before) s first last xs k ys fa fb (λ m. sym after_is) (λ m. refl) (λ m. sym before_is) (λ m. refl) roll.present roll.distinct roll.line in
      let line2' : IsRing (links (λ m. m.after) s2 first') (links (λ m. m.before) s2 last') (xs ++ ys) =
      subst (λ q. IsRing (links (λ m. m.after) (with_node s1 q fb) (put_end first n.before q)) (links (λ m. m.before) (with_node s1 q fb) (put_end last q n.before)) (xs ++ ys)) after_is (
      subst (λ p. IsRing (links (λ m. m.after) (with_node (with_node s p fa) (field_at (λ m. m.after) None s k) fb) (put_end first p (field_at (λ m. m.after) None s k))) (links (λ m. m.before) (with_node (with_node s p fa) (field_at (λ m. m.after) None s k) fb) (put_end last (field_at (λ m. m.after) None s k) p)) (xs ++ ys)) before_is line2
      ) in
      let line3 = ring-alike (links (λ m. m.after) s2 first') (links (λ m. m.after) s3 first') (links (λ m. m.before) s2 last') (links (λ m. m.before) s3 last') (xs ++ ys) (λ r. links-kept (λ m. m.after) s2 n.older fn first' r (λ m. refl)) (λ r. links-kept (λ m. m.before) s2 n.older fn last' r (λ m. refl)) line2' in
      let line4 = ring-alike (links (λ m. m.after) s3 first') (links (λ m. m.after) s4 first') (links (λ m. m.before) s3 last') (links (λ m. m.before) s4 last') (xs ++ ys) (λ r. links-kept (λ m. m.after) s3 n.newer fo first' r (λ m. refl)) (λ r. links-kept (λ m. m.before) s3 n.newer fo last' r (λ m. refl)) line3 in
      let line5 = ring-elsewhere (links (λ m. m.after) s4 first') (links (λ m. m.after) s5 first') (links (λ m. m.before) s4 last') (links (λ m. m.before) s5 last') k (xs ++ ys) (λ r. links-others (λ m. m.after) s4 s5 k None first' r updates) (λ r. links-others (λ m. m.before) s4 s5 k None last' r updates) absent line4 in
      let chains1 = chains-kept s table count (xs ++ k ∷ ys) n.before fa (λ m. refl) (λ m. refl) (λ m. refl) roll.chains in
      let chains2 = chains-kept s1 table count (xs ++ k ∷ ys) n.after fb (λ m. refl) (λ m. refl) (λ m. refl) chains1 in
      let at2 : (X : Type 0) (field : Node → X) (none : X) → ((m : Node) → field (fa m) ≡ field m) → ((m : Node) → field (fb m) ≡ field m) → field_at field none s2 k ≡ field n = λ X field none keep_a keep_b. field-kept field none s1 n.after fb k keep_b ∙ field-kept field none s n.before fa k keep_a ∙ at X field none in
      let older_is = at2 (Option ℕ) (λ m. m.older) None (λ m. refl) (λ m. refl) in
      let newer_is = at2 (Option ℕ) (λ m. m.newer) None (λ m. refl) (λ m. refl) in
      let ticket_is = at2 ℕ (λ m. m.ticket) 0 (λ m. refl) (λ m. refl) in
      let bucket_is : ticket_at s2 k % count ≡ b = ap (λ t. t % count) ticket_is ∙ sym b_is in
      let within : ticket_at s2 k % count < count = mod_below (ticket_at s2 k) count some in
      let present2 : (j : ℕ) → get s2 j ≡ None → IsAbsent (Some j) (xs ++ k ∷ ys) = λ j none. roll.present j (gone-with_node s n.before fa j (gone-with_node s1 n.after fb j none)) in
      let unchained = chains_unlink s2 table count xs k ys present2 roll.distinct within within chains2 in
      let P : Option ℕ → Option ℕ → ℕ → Type 0 = λ p q i. AreChained (with_node (with_node s2 p (λ m. record m { newer = q })) q (λ m. record m { older = p })) (set table i (put_end (get_or table i None) q p)) count (xs ++ ys) in
      let chains4 : AreChained s4 table' count (xs ++ ys) =
      subst (λ p. P p n.newer b) older_is (subst (λ q. P (field_at (λ m. m.older) None s2 k) q b) newer_is (subst (λ i. P (field_at (λ m. m.older) None s2 k) (field_at (λ m. m.newer) None s2 k) i) bucket_is unchained)) in
      let chains5 = chains-others s4 s5 table' count (xs ++ ys) k None updates absent chains4 in
      let size : length table' ≡ count = length-set table b (put_end (get_or table b None) n.newer n.older) in
      record {
        line = line5;
        chains = subst (λ m. AreChained s5 table' m (xs ++ ys)) (sym size) chains5;
        present = λ j none.
            elim (cases_eq j k) [
              | inl same ↦ subst (λ i. IsAbsent (Some i) (xs ++ ys)) (sym same) absent
              | inr other ↦
                  let none4 : get s4 j ≡ None = sym (updates.others j other) ∙ none in
                  let was = present2 j (gone-with_node s2 n.older fn j (gone-with_node s3 n.newer fo j none4)) in
                  omega (arith, was, occurs-append j xs (k ∷ ys), occurs-append j xs ys)
            ];
        distinct = distinct-less xs k ys roll.distinct;
        counted = omega (arith, length-append xs (k ∷ ys), length-append xs ys, roll.counted, len, len-with_node s n.before fa, len-with_node s1 n.after fb, len-with_node s2 n.older fn, len-with_node s3 n.newer fo);
        bare = λ none. absurd (omega (arith, none, size, some));
        sized = subst IsTableSize (sym size) roll.sized;
      }

-- a roll with another capacity
pub roll-wider : (s s' : Slab Node) (n : ℕ) (first last : Option ℕ) (table : List (Option ℕ)) → s' ≡ record s { capacity = n } → IsRoll s first last table (keys_of s first) → IsRoll s' first last table (keys_of s' first)
roll-wider s s' n first last table same roll = subst (λ z. IsRoll z first last table (keys_of z first)) (sym same) (roll-closed (record s { capacity = n }) first last table (keys_of s first) (record {
  line = roll.line;
  chains = roll.chains;
  present = roll.present;
  distinct = roll.distinct;
  counted = roll.counted;
  bare = roll.bare;
  sized = roll.sized;
}))
