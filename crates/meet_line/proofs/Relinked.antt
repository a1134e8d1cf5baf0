-- What the links of nodes are once one of these is changed, comes, or goes.
use Rattle.std.proofs.Common.{◌≡◌, ◌≢◌, ℕ, zero, suc, ◌+◌, Bool, true, false, cond, Option, Some, None, is_some, option_map, List, [], ◌∷◌, length, refl, sym, ap, ◌∙◌, inl, inr, get_or, set, count_by}
use Rattle.std.specs.Option.{option_map_or}
use Rattle.std.proofs.lemmas.List.{get_or-set_same, get_or-set_other, get_or_past, set_past}
use Rattle.std.proofs.lemmas.List.Sums.{sum_by-cons}
use Rattle.std.proofs.lemmas.Bool.{cases_lt}
use Rattle.std.proofs.lemmas.Bool.Decides.{eqb_tells}
use Rattle.slab.specs.Slab.{Slab, get, slab_len, Updates}
use Rattle.meet_line.specs.declared.nodes.Node.{Node}
use Rattle.meet_line.specs.Runs.{is_same, put_link, IsRing, IsAbsent}
use Rattle.meet_line.specs.Nodes.{field_at, links, with_node, put_end}
use Rattle.meet_line.proofs.Occurs.{absent-reverse}
use Rattle.meet_line.proofs.Runs.{run-elsewhere}

-- a place that is rewritten by what stands there
get_or-rewritten : {X : Type 0} (f : X → X) (slots : List (Option X)) (k : ℕ) → get_or (set slots k (option_map f (get_or slots k None))) k None ≡ option_map f (get_or slots k None)
get_or-rewritten f slots k =
    elim (cases_lt k (length slots)) [
      | inl within ↦ get_or-set_same slots k (option_map f (get_or slots k None)) None within
      | inr past ↦
          let none : get_or slots k None ≡ None = get_or_past slots k None past in
          ap (λ xs. get_or xs k None) (set_past slots k _ past) ∙ none ∙ ap (option_map f) (sym none)
    ]

pub get-with_node : (s : Slab Node) (at : Option ℕ) (f : Node → Node) (j : ℕ) → get (with_node s at f) j ≡ cond (is_same (Some j) at) (option_map f (get s j)) (get s j)
get-with_node s None f j = refl
get-with_node s (Some k) f j =
    elim (eqb_tells j k) [
      | inl y ↦
          ap (get_or (set s.slots k (option_map f (get_or s.slots k None))) j) refl
          ∙ ap (λ i. get_or (set s.slots k (option_map f (get_or s.slots k None))) i None) y.1
          ∙ get_or-rewritten f s.slots k
          ∙ ap (λ i. option_map f (get_or s.slots i None)) (sym y.1)
          ∙ ap (λ b. cond b (option_map f (get s j)) (get s j)) (sym y.0)
      | inr n ↦
          get_or-set_other s.slots k j (option_map f (get_or s.slots k None)) None n.1
          ∙ ap (λ b. cond b (option_map f (get s j)) (get s j)) (sym n.0)
    ]

-- a field that f leaves alone is as it was
pub field-kept : {X : Type 0} (field : Node → X) (none : X) (s : Slab Node) (at : Option ℕ) (f : Node → Node) (j : ℕ) → ((n : Node) → field (f n) ≡ field n) → field_at field none (with_node s at f) j ≡ field_at field none s j
field-kept {X} field none s at f j kept = ap (λ o. option_map_or field o none) (get-with_node s at f j) ∙ by_case (is_same (Some j) at) (get s j)
  where
    by_case : (b : Bool) (o : Option Node) → option_map_or field (cond b (option_map f o) o) none ≡ option_map_or field o none
    by_case true None = refl
    by_case true (Some n) = kept n
    by_case false o = refl

pub links-kept : (field : Node → Option ℕ) (s : Slab Node) (at : Option ℕ) (f : Node → Node) (e q : Option ℕ) → ((n : Node) → field (f n) ≡ field n) → links field (with_node s at f) e q ≡ links field s e q
links-kept field s at f e None kept = refl
links-kept field s at f e (Some j) kept = field-kept field None s at f j kept

-- a field that f sets to `to` is one link that was put
pub links-put : (field : Node → Option ℕ) (s : Slab Node) (at : Option ℕ) (f : Node → Node) (to e q : Option ℕ) → ((n : Node) → field (f n) ≡ to) → ((k : ℕ) → at ≡ Some k → get s k ≢ None) → links field (with_node s at f) (put_end e at to) q ≡ put_link (links field s e) at to q
links-put field s None f to e None sets there = refl
links-put field s (Some k) f to e None sets there = refl
links-put field s None f to e (Some j) sets there = refl
links-put field s (Some k) f to e (Some j) sets there =
    elim (eqb_tells j k) [
      | inl y ↦
          ap (λ o. option_map_or field o None) (get-with_node s (Some k) f j)
          ∙ ap (λ b. option_map_or field (cond b (option_map f (get s j)) (get s j)) None) y.0
          ∙ there_set (get s j) (λ none. there k refl (ap (get s) (sym y.1) ∙ none))
          ∙ ap (λ b. cond b to (field_at field None s j)) (sym y.0)
      | inr n ↦
          ap (λ o. option_map_or field o None) (get-with_node s (Some k) f j)
          ∙ ap (λ b. option_map_or field (cond b (option_map f (get s j)) (get s j)) None) n.0
          ∙ ap (λ b. cond b to (field_at field None s j)) (sym n.0)
    ]
  where
    there_set : (o : Option Node) → o ≢ None → option_map_or field (option_map f o) None ≡ to
    there_set None some = absurd (some refl)
    there_set (Some n) some = sets n

-- links with another first
pub links-first : (field : Node → Option ℕ) (s : Slab Node) (e to q : Option ℕ) → links field s to q ≡ put_link (links field s e) None to q
links-first field s e to None = refl
links-first field s e to (Some j) = refl

links-elsewhere : (field : Node → Option ℕ) (s : Slab Node) (k : ℕ) (f : Node → Node) (e q : Option ℕ) → q ≢ Some k → links field (with_node s (Some k) f) e q ≡ links field s e q
links-elsewhere field s k f e None other = refl
links-elsewhere field s k f e (Some j) other =
    elim (eqb_tells j k) [
      | inl y ↦ absurd (other (ap (λ i. Some i) y.1))
      | inr n ↦
          ap (λ o. option_map_or field o None) (get-with_node s (Some k) f j)
          ∙ ap (λ b. option_map_or field (cond b (option_map f (get s j)) (get s j)) None) n.0
    ]

-- a change of a node that isn't in a ring leaves the ring
pub ring-with_node : (next back : Node → Option ℕ) (s : Slab Node) (at : Option ℕ) (f : Node → Node) (e e' : Option ℕ) (keys : List ℕ) → IsAbsent at keys → IsRing (links next s e) (links back s e') keys → IsRing (links next (with_node s at f) e) (links back (with_node s at f) e') keys
ring-with_node next back s None f e e' keys absent ring = ring
ring-with_node next back s (Some k) f e e' keys absent ring = record {
  onward = run-elsewhere (links next s e) (links next (with_node s (Some k) f) e) (Some k) None keys None (λ r. links-elsewhere next s k f e r) (λ same. absurd (cc)) absent ring.onward;
  backward = run-elsewhere (links back s e') (links back (with_node s (Some k) f) e') (Some k) None (_) None (λ r. links-elsewhere back s k f e' r) (λ same. absurd (cc)) (absent-reverse (Some k) keys absent) ring.backward;
}

-- there is a node exactly where one was
pub gone-with_node : (s : Slab Node) (at : Option ℕ) (f : Node → Node) (j : ℕ) → get (with_node s at f) j ≡ None → get s j ≡ None
gone-with_node s at f j gone = by_case (is_same (Some j) at) (get s j) (sym (get-with_node s at f j) ∙ gone)
  where
    by_case : (b : Bool) (o : Option Node) → cond b (option_map f o) o ≡ None → o ≡ None
    by_case true None none = refl
    by_case true (Some n) none = absurd (cc)
    by_case false o none = none

count-rewritten : (f : Node → Node) (slots : List (Option Node)) (k : ℕ) → count_by is_some (set slots k (option_map f (get_or slots k None))) ≡ count_by is_some slots
count-rewritten f [] k = refl
count-rewritten f (None ∷ slots) zero = refl
count-rewritten f (Some n ∷ slots) zero = sum_by-cons (λ o. cond (is_some o) 1 0) (Some (f n)) slots ∙ sym (sum_by-cons (λ o. cond (is_some o) 1 0) (Some n) slots)
count-rewritten f (o ∷ slots) (suc k) =
    let c : Option Node → ℕ = λ o. cond (is_some o) 1 0 in
    sum_by-cons c o (set slots k (option_map f (get_or slots k None))) ∙ ap (λ n. c o + n) (count-rewritten f slots k) ∙ sym (sum_by-cons c o slots)

pub len-with_node : (s : Slab Node) (at : Option ℕ) (f : Node → Node) → slab_len (with_node s at f) ≡ slab_len s
len-with_node s None f = refl
len-with_node s (Some k) f = count-rewritten f s.slots k

-- where one node goes, the other links stay
pub links-others : (field : Node → Option ℕ) (s s' : Slab Node) (k : ℕ) (slot : Option Node) (e q : Option ℕ) → Updates s s' k slot → q ≢ Some k → links field s' e q ≡ links field s e q
links-others field s s' k slot e None updates other = refl
links-others field s s' k slot e (Some j) updates other = ap (λ o. option_map_or field o None) (updates.others j (λ same. other (ap (λ i. Some i) same)))

-- where one comes, its own link is put
pub links-come : (field : Node → Option ℕ) (s s' : Slab Node) (k : ℕ) (n : Node) (e q : Option ℕ) → Updates s s' k (Some n) → links field s' e q ≡ put_link (links field s e) (Some k) (field n) q
links-come field s s' k n e None updates = refl
links-come field s s' k n e (Some j) updates =
    elim (eqb_tells j k) [
      | inl y ↦
          ap (λ i. field_at field None s' i) y.1 ∙ ap (λ o. option_map_or field o None) updates.changed
          ∙ ap (λ b. cond b (field n) (field_at field None s j)) (sym y.0)
      | inr m ↦
          ap (λ o. option_map_or field o None) (updates.others j m.1)
          ∙ ap (λ b. cond b (field n) (field_at field None s j)) (sym m.0)
    ]
