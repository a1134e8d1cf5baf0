-- All nodes of a line join the chains of an empty table, one by one.
use Rattle.std.proofs.Common.{◌≡◌, ◌≢◌, ℕ, ◌+◌, ◌%◌, ◌<◌, ◌≤◌, Option, Some, None, List, [], ◌∷◌, ◌++◌, length, refl, sym, ap, ◌∙◌, subst, arith, get_or, set, replicate}
use Rattle.std.proofs.lemmas.List.{length-set, length-append, append_assoc, append-nil, nil_from_length, get_or-replicate}
use Rattle.std.proofs.lemmas.Nat.{mod_below}
use Rattle.std.specs.Prelude.{map}
use Rattle.slab.specs.Slab.{Slab, get}
use Rattle.meet_line.specs.declared.nodes.Node.{Node}
use Rattle.meet_line.specs.Runs.{IsRun, first_or, occurs, IsAbsent, IsDistinct}
use Rattle.meet_line.specs.Nodes.{field_at, links, ticket_at, with_node}
use Rattle.meet_line.specs.Rolled.{AreChained, IsLine, IsRechained, IsRoll, IsTableSize}
use Rattle.meet_line.proofs.Occurs.{occurs-append, occurs-same, distinct-middle}
use Rattle.meet_line.proofs.Runs.{run-next, ring-alike}
use Rattle.meet_line.proofs.Relinked.{field-kept, links-kept, gone-with_node, len-with_node}
use Rattle.meet_line.proofs.Chaining.{chains_link}
use Rattle.meet_line.proofs.Places.{place_at}

-- the first keys of a line are chained, and the next is at `at`
pub record HasChained (old new : Slab Node) (table : List (Option ℕ)) (count : ℕ) (keys : List ℕ) (at : Option ℕ) (step : ℕ) : Type 0 where
  pub done : List ℕ
  pub rest : List ℕ
  pub all : keys ≡ done ++ rest
  pub next : at ≡ first_or rest None
  pub steps : length done ≡ step
  pub chained : AreChained new table count done
  pub size : length table ≡ count
  pub same : IsRechained old new

rechained-itself : (s : Slab Node) → IsRechained s s
rechained-itself s = record {
  after = λ first p. refl;
  before = λ last p. refl;
  ticket = λ k. refl;
  gone = λ k none. none;
  len = refl;
  capacity = refl;
}

pub chained-none : (s : Slab Node) (table : List (Option ℕ)) (keys : List ℕ) (first : Option ℕ) → table ≡ replicate (length table) None → first ≡ first_or keys None → HasChained s s table (length table) keys first 0
chained-none s table keys first empty at = record {
  done = [];
  rest = keys;
  all = refl;
  next = at;
  steps = refl;
  chained = λ b within.
      let none : get_or table b None ≡ None = ap (λ t. get_or t b None) empty ∙ get_or-replicate (length table) b None None within in
      record { onward = refl; backward = none };
  size = refl;
  same = rechained-itself s;
}

-- a key that is next stands behind those that are done
pub next-there : (old new : Slab Node) (first : Option ℕ) (table : List (Option ℕ)) (count : ℕ) (keys : List ℕ) (k step : ℕ) → IsLine old first keys → HasChained old new table count keys (Some k) step → get new k ≢ None
next-there old new first table count keys k step line has none =
    let gone : occurs k keys ≡ 0 = line.present k (has.same.gone k none) in
    by_rest has.rest has.all has.next
  where
    by_rest : (rest : List ℕ) → keys ≡ has.done ++ rest → Some k ≡ first_or rest None → ⊥
    by_rest [] all next = absurd (cc)
    by_rest (r ∷ rest) all next =
        let same : r ≡ k = cc in
        absurd (omega (arith, line.present k (has.same.gone k none), ap (occurs k) all, occurs-append k has.done (r ∷ rest), occurs-same k r same))

capacity-kept : (s : Slab Node) (at : Option ℕ) (f : Node → Node) → (with_node s at f).capacity ≡ s.capacity
capacity-kept s None f = refl
capacity-kept s (Some k) f = refl

pub chained-more : (old new new' : Slab Node) (first : Option ℕ) (table table' : List (Option ℕ)) (count : ℕ) (keys : List ℕ) (k step : ℕ) (at' : Option ℕ) → 0 < count → IsLine old first keys → HasChained old new table count keys (Some k) step → let b = ticket_at new k % length table in new' ≡ with_node (with_node new (Some k) (λ n. record n { older = get_or table b None; newer = None })) (get_or table b None) (λ n. record n { newer = Some k }) → table' ≡ set table b (Some k) → at' ≡ field_at (λ n. n.after) None new k → HasChained old new' table' count keys at' (step + 1)
chained-more old new new' first table table' count keys k step at' some line has new_is table_is at_is = by_rest has.rest has.all has.next
  where
    by_rest : (rest : List ℕ) → keys ≡ has.done ++ rest → Some k ≡ first_or rest None → HasChained old new' table' count keys at' (step + 1)
    by_rest [] all next = absurd (cc)
    by_rest (r ∷ rest) all next =
        let same : r ≡ k = cc in
        let done = has.done in
        let all' : keys ≡ done ++ k ∷ rest = all ∙ ap (λ i. done ++ i ∷ rest) same in
        let b = ticket_at new k % count in
        let newest = get_or table b None in
        let f : Node → Node = λ n. record n { older = newest; newer = None } in
        let g : Node → Node = λ n. record n { newer = Some k } in
        let s1 = with_node new (Some k) f in
        let s2 = with_node s1 newest g in
        let size : length table ≡ count = has.size in
        let nodes : new' ≡ s2 = new_is ∙ ap (λ m. with_node (with_node new (Some k) (λ n. record n { older = get_or table (ticket_at new k % m) None; newer = None })) (get_or table (ticket_at new k % m) None) g) size in
        let slots : table' ≡ set table b (Some k) = table_is ∙ ap (λ m. set table (ticket_at new k % m) (Some k)) size in
        let distinct : IsDistinct (done ++ k ∷ rest) = subst IsDistinct all' line.distinct in
        let absent : IsAbsent (Some k) done = omega (arith, distinct-middle done k rest distinct, occurs-append k done rest) in
        let first_distinct : IsDistinct done = λ j. omega (arith, distinct j, occurs-append j done (k ∷ rest)) in
        let present : (j : ℕ) → get new j ≡ None → IsAbsent (Some j) done = λ j none. omega (arith, line.present j (has.same.gone j none), ap (occurs j) all', occurs-append j done (k ∷ rest)) in
        let within : b < count = mod_below (ticket_at new k) count some in
        let chained = chains_link new table count done k (next-there old new first table count keys k step line has) present absent first_distinct within (omega (arith, within, size)) has.chained in
        let onward = subst (λ ks. IsRun (links (λ n. n.after) old first) None ks None) all' line.onward in
        record {
          done = done ++ k ∷ [];
          rest = rest;
          all = all' ∙ sym (append_assoc done (k ∷ []) rest);
          next = at_is ∙ has.same.after first (Some k) ∙ run-next (links (λ n. n.after) old first) None done k rest None onward;
          steps = omega (arith, has.steps, length-append done (k ∷ []));
          chained = subst (λ z. AreChained z table' count (done ++ k ∷ [])) (sym nodes) (subst (λ t. AreChained s2 t count (done ++ k ∷ [])) (sym slots) chained);
          size = ap length slots ∙ length-set table b (Some k) ∙ size;
          same = subst (IsRechained old) (sym nodes) (record {
            after = λ e p. links-kept (λ n. n.after) s1 newest g e p (λ n. refl) ∙ links-kept (λ n. n.after) new (Some k) f e p (λ n. refl) ∙ has.same.after e p;
            before = λ e p. links-kept (λ n. n.before) s1 newest g e p (λ n. refl) ∙ links-kept (λ n. n.before) new (Some k) f e p (λ n. refl) ∙ has.same.before e p;
            ticket = λ j. field-kept (λ n. n.ticket) 0 s1 newest g j (λ n. refl) ∙ field-kept (λ n. n.ticket) 0 new (Some k) f j (λ n. refl) ∙ has.same.ticket j;
            gone = λ j none. has.same.gone j (gone-with_node new (Some k) f j (gone-with_node s1 newest g j none));
            len = len-with_node s1 newest g ∙ len-with_node new (Some k) f ∙ has.same.len;
            capacity = capacity-kept s1 newest g ∙ capacity-kept new (Some k) f ∙ has.same.capacity;
          });
        }

-- behind the last key nothing is left
pub chained-all : (old new : Slab Node) (table : List (Option ℕ)) (count : ℕ) (keys : List ℕ) (at : Option ℕ) (step : ℕ) → length keys ≤ step → HasChained old new table count keys at step → AreChained new table count keys
chained-all old new table count keys at step most has =
    let none : length has.rest ≡ 0 = omega (arith, most, has.steps, ap length has.all, length-append has.done has.rest) in
    let all : keys ≡ has.done = has.all ∙ ap (λ r. has.done ++ r) (nil_from_length has.rest none) ∙ append-nil has.done in
    subst (AreChained new table count) (sym all) has.chained

pub chained-end : (old new : Slab Node) (table : List (Option ℕ)) (count : ℕ) (keys : List ℕ) (step : ℕ) → step < length keys → HasChained old new table count keys None step → ⊥
chained-end old new table count keys step more has = by_rest has.rest has.all has.next
  where
    by_rest : (rest : List ℕ) → keys ≡ has.done ++ rest → None ≡ first_or rest None → ⊥
    by_rest [] all next = omega (arith, more, has.steps, ap length all, length-append has.done [])
    by_rest (r ∷ rest) all next = absurd (cc)

module _ (s s' : Slab Node) (first last : Option ℕ) (table table' : List (Option ℕ)) (keys : List ℕ) where
  pub line-from_roll : IsRoll s first last table keys → IsLine s first keys
  line-from_roll roll = record { onward = roll.line.onward; present = roll.present; distinct = roll.distinct; counted = roll.counted }

  -- a roll whose nodes are chained anew
  pub roll-rechained : IsRechained s s' → AreChained s' table' (length table') keys → 0 < length table' → IsTableSize (length table') → IsRoll s first last table keys → IsRoll s' first last table' keys
  roll-rechained same chained some sized roll = record {
    line = ring-alike (links (λ n. n.after) s first) (links (λ n. n.after) s' first) (links (λ n. n.before) s last) (links (λ n. n.before) s' last) keys (same.after first) (same.before last) roll.line;
    chains = chained;
    present = λ k none. roll.present k (same.gone k none);
    distinct = roll.distinct;
    counted = roll.counted ∙ sym same.len;
    bare = λ none. absurd (omega (arith, none, some));
    sized = sized;
  }

  pub places-rechained : IsRechained s s' → (ks : List ℕ) → map (place_at s') ks ≡ map (place_at s) ks
  places-rechained same [] = refl
  places-rechained same (k ∷ ks) = ap (λ t. record { key = k; ticket = t } ∷ map (place_at s') ks) (same.ticket k) ∙ ap (λ ps. place_at s k ∷ ps) (places-rechained same ks)
