-- What the moves of a roll leave, by the values that its code goes through.
use Rattle.std.proofs.Common.{◌≡◌, ◌≢◌, ℕ, ◌+◌, ◌%◌, ◌<◌, Option, Some, None, List, [], ◌∷◌, ◌++◌, length, map, refl, sym, ap, ◌∙◌, subst, get_or, set}
use Rattle.std.specs.Option.{option_map_or}
use Rattle.std.proofs.lemmas.List.{map-append}
use Rattle.slab.specs.Slab.{Slab, get, slab_len, Updates}
use Rattle.meet_line.specs.declared.nodes.Node.{Node}
use Rattle.meet_line.specs.Nodes.{ticket_at, with_node, put_end}
use Rattle.meet_line.specs.Rolled.{Placed, IsRoll, keys_of}
use Rattle.meet_line.proofs.Occurs.{distinct-middle}
use Rattle.meet_line.proofs.Relinked.{field-kept}
use Rattle.meet_line.proofs.Rolls.{keys-are, roll_push, roll_take}
use Rattle.meet_line.proofs.Places.{place_at, split_at, places-alike}

module _ (s : Slab Node) (first last : Option ℕ) (table : List (Option ℕ)) where
  -- the values through which a push goes
  pub record Pushes (k ticket b : ℕ) (newest : Option ℕ) (s0 s1 s2 : Slab Node) (first' : Option ℕ) : Type 0 where
    pub bucket : b ≡ ticket % length table
    pub some : 0 < length table
    pub newest_is : newest ≡ get_or table b None
    pub vacant : get s k ≡ None
    pub inserted : Updates s s0 k (Some (record { ticket = ticket; before = last; after = None; older = newest; newer = None }))
    pub len : slab_len s0 ≡ slab_len s + 1
    pub linked : s1 ≡ with_node s0 last (λ n. record n { after = Some k })
    pub first_is : first' ≡ put_end first last (Some k)
    pub chained : s2 ≡ with_node s1 newest (λ n. record n { newer = Some k })

  pub pushed : (keys : List ℕ) (k ticket b : ℕ) (newest : Option ℕ) (s0 s1 s2 : Slab Node) (first' : Option ℕ) → Pushes k ticket b newest s0 s1 s2 first' → IsRoll s first last table keys → IsRoll s2 first' (Some k) (set table b (Some k)) (keys ++ k ∷ [])
  pushed keys k ticket b newest s0 s1 s2 first' p roll =
      let came = subst (λ o. Updates s s0 k (Some (record { ticket = ticket; before = last; after = None; older = o; newer = None }))) p.newest_is p.inserted in
      let left = roll_push s first last table keys s0 k ticket b p.bucket p.some p.vacant came p.len roll in
      let fa : Node → Node = λ n. record n { after = Some k } in
      let fn : Node → Node = λ n. record n { newer = Some k } in
      let nodes : with_node (with_node s0 last fa) (get_or table b None) fn ≡ s2 = ap (λ z. with_node z (get_or table b None) fn) (sym p.linked) ∙ ap (λ o. with_node s1 o fn) (sym p.newest_is) ∙ sym p.chained in
      subst (λ f. IsRoll s2 f (Some k) (set table b (Some k)) (keys ++ k ∷ [])) (sym p.first_is) (
      subst (λ z. IsRoll z (put_end first last (Some k)) (Some k) (set table b (Some k)) (keys ++ k ∷ [])) nodes left
      )

  pub pushed-ticket : (k ticket b : ℕ) (newest : Option ℕ) (s0 s1 s2 : Slab Node) (first' : Option ℕ) (j : ℕ) → Pushes k ticket b newest s0 s1 s2 first' → ticket_at s2 j ≡ ticket_at s0 j
  pushed-ticket k ticket b newest s0 s1 s2 first' j p =
      ap (λ z. ticket_at z j) p.chained ∙ field-kept (λ n. n.ticket) 0 s1 newest (λ n. record n { newer = Some k }) j (λ n. refl)
      ∙ ap (λ z. ticket_at z j) p.linked ∙ field-kept (λ n. n.ticket) 0 s0 last (λ n. record n { after = Some k }) j (λ n. refl)

  pub pushed-places : (k ticket b : ℕ) (newest : Option ℕ) (s0 s1 s2 : Slab Node) (first' : Option ℕ) → Pushes k ticket b newest s0 s1 s2 first' → IsRoll s first last table (keys_of s first) → map (place_at s2) (keys_of s2 first') ≡ map (place_at s) (keys_of s first) ++ record { key = k; ticket = ticket } ∷ []
  pushed-places k ticket b newest s0 s1 s2 first' p roll =
      let keys = keys_of s first in
      let left = pushed keys k ticket b newest s0 s1 s2 first' p roll in
      let alike : (j : ℕ) → j ≢ k → ticket_at s2 j ≡ ticket_at s j = λ j other. pushed-ticket k ticket b newest s0 s1 s2 first' j p ∙ ap (λ o. option_map_or (λ (n : Node). n.ticket) o 0) (p.inserted.others j other) in
      let own : ticket_at s2 k ≡ ticket = pushed-ticket k ticket b newest s0 s1 s2 first' k p ∙ ap (λ o. option_map_or (λ (n : Node). n.ticket) o 0) p.inserted.changed in
      ap (map (place_at s2)) (keys-are s2 first' (Some k) (set table b (Some k)) (keys ++ k ∷ []) left)
      ∙ map-append (place_at s2) keys (k ∷ [])
      ∙ ap (λ ps. ps ++ place_at s2 k ∷ []) (places-alike s s2 k keys alike (roll.present k p.vacant))
      ∙ ap (λ t. map (place_at s) keys ++ record { key = k; ticket = t } ∷ []) own

  -- the values through which a removal goes
  pub record Takes (k b : ℕ) (n : Node) (s1 s2 s3 s4 s5 : Slab Node) (first' last' newest' : Option ℕ) : Type 0 where
    pub bucket : b ≡ n.ticket % length table
    pub some : 0 < length table
    pub here : get s k ≡ Some n
    pub after : s1 ≡ with_node s n.before (λ m. record m { after = n.after })
    pub first_is : first' ≡ put_end first n.before n.after
    pub before : s2 ≡ with_node s1 n.after (λ m. record m { before = n.before })
    pub last_is : last' ≡ put_end last n.after n.before
    pub newer : s3 ≡ with_node s2 n.older (λ m. record m { newer = n.newer })
    pub older : s4 ≡ with_node s3 n.newer (λ m. record m { older = n.older })
    pub newest_is : newest' ≡ put_end (get_or table b None) n.newer n.older
    pub gone : Updates s4 s5 k None
    pub len : slab_len s5 + 1 ≡ slab_len s4

  pub taken : (xs : List ℕ) (k : ℕ) (ys : List ℕ) (b : ℕ) (n : Node) (s1 s2 s3 s4 s5 : Slab Node) (first' last' newest' : Option ℕ) → Takes k b n s1 s2 s3 s4 s5 first' last' newest' → IsRoll s first last table (xs ++ k ∷ ys) → IsRoll s5 first' last' (set table b newest') (xs ++ ys)
  taken xs k ys b n s1 s2 s3 s4 s5 first' last' newest' t roll =
      let fa : Node → Node = λ m. record m { after = n.after } in
      let fb : Node → Node = λ m. record m { before = n.before } in
      let fn : Node → Node = λ m. record m { newer = n.newer } in
      let fo : Node → Node = λ m. record m { older = n.older } in
      let nodes : s4 ≡ with_node (with_node (with_node (with_node s n.before fa) n.after fb) n.older fn) n.newer fo =
      t.older ∙ ap (λ z. with_node z n.newer fo) (t.newer ∙ ap (λ z. with_node z n.older fn) (t.before ∙ ap (λ z. with_node z n.after fb) t.after)) in
      let left = roll_take s first last table xs k ys s5 n b t.bucket t.some t.here (subst (λ z. Updates z s5 k None) nodes t.gone) (t.len ∙ ap slab_len nodes) roll in
      subst (λ f. IsRoll s5 f last' (set table b newest') (xs ++ ys)) (sym t.first_is) (
      subst (λ l. IsRoll s5 (put_end first n.before n.after) l (set table b newest') (xs ++ ys)) (sym t.last_is) (
      subst (λ o. IsRoll s5 (put_end first n.before n.after) (put_end last n.after n.before) (set table b o) (xs ++ ys)) (sym t.newest_is) left
      )
      )

  pub taken-places : (front : List Placed) (place : Placed) (rest : List Placed) (b : ℕ) (n : Node) (s1 s2 s3 s4 s5 : Slab Node) (first' last' newest' : Option ℕ) → Takes place.key b n s1 s2 s3 s4 s5 first' last' newest' → IsRoll s first last table (keys_of s first) → map (place_at s) (keys_of s first) ≡ front ++ place ∷ rest → map (place_at s5) (keys_of s5 first') ≡ front ++ rest
  taken-places front place rest b n s1 s2 s3 s4 s5 first' last' newest' t roll same =
      let k = place.key in
      let split = split_at s (keys_of s first) front place rest same in
      let roll' = subst (IsRoll s first last table) split.all roll in
      let left = taken split.xs k split.ys b n s1 s2 s3 s4 s5 first' last' newest' t roll' in
      let alike : (j : ℕ) → j ≢ k → ticket_at s5 j ≡ ticket_at s j = λ j other.
      ap (λ o. option_map_or (λ (m : Node). m.ticket) o 0) (t.gone.others j other)
      ∙ ap (λ z. ticket_at z j) t.older ∙ field-kept (λ m. m.ticket) 0 s3 n.newer (λ m. record m { older = n.older }) j (λ m. refl)
      ∙ ap (λ z. ticket_at z j) t.newer ∙ field-kept (λ m. m.ticket) 0 s2 n.older (λ m. record m { newer = n.newer }) j (λ m. refl)
      ∙ ap (λ z. ticket_at z j) t.before ∙ field-kept (λ m. m.ticket) 0 s1 n.after (λ m. record m { before = n.before }) j (λ m. refl)
      ∙ ap (λ z. ticket_at z j) t.after ∙ field-kept (λ m. m.ticket) 0 s n.before (λ m. record m { after = n.after }) j (λ m. refl) in
      ap (map (place_at s5)) (keys-are s5 first' last' (set table b newest') (split.xs ++ split.ys) left)
      ∙ places-alike s s5 k (split.xs ++ split.ys) alike (distinct-middle split.xs k split.ys roll'.distinct)
      ∙ map-append (place_at s) split.xs split.ys
      ∙ ap (λ ps. ps ++ map (place_at s) split.ys) split.before
      ∙ ap (λ ps. front ++ ps) split.behind
