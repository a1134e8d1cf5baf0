-- What the links between places are once one of them is changed, and what becomes of their ring where a node leaves or
-- comes.
use Rattle.std.proofs.Common.{◌≡◌, ℕ, zero, suc, ◌+◌, ◌<◌, ◌≤◌, false, cond, Option, Some, None, List, [], ◌∷◌, ◌++◌, length, map, replicate, refl, sym, ap, ◌∙◌, inl, inr, subst, get_or, set, arith}
use Rattle.std.specs.Prelude.{Result, Ok, Err, is_err, OnOk}
use Rattle.std.proofs.lemmas.List.{get_or-set_same, get_or-set_other, length-set, get_or-replicate, get_or_past, length-replicate, get_or-map, map-append, append_assoc, append-nil, replicate-append-replicate}
use Rattle.std.proofs.lemmas.Bool.{cases_lt}
use Rattle.std.proofs.lemmas.Bool.Decides.{eqb_tells}
use Rattle.meet_line.specs.declared.spots.Spot.{Spot}
use Rattle.meet_line.specs.Runs.{put_link, occurs, IsRing, IsAbsent, IsDistinct}
use Rattle.meet_line.specs.Nodes.{put_end}
use Rattle.meet_line.specs.Seated.{slots_of, afters_of, befores_of, linked, relinked, IsBelow, IsPadded}
use Rattle.meet_line.proofs.Occurs.{occurs-append}
use Rattle.meet_line.proofs.Runs.{ring-take, ring-push, ring-alike, put-alike, ring-before, ring-after, ring-last}
use Rattle.meet_line.proofs.Buckets.{first-occurs, last-occurs}

-- a field of a place that was read
pub field-read : {X Y : Type 0} (field : X → Y) (items : List X) (k : ℕ) (now : X) (none : Y) → k < length items → now ≡ get_or items k now → get_or (map field items) k none ≡ field now
field-read field items k now none within read = get_or-map field items k now none within ∙ ap field (sym read)

-- a link that is changed is one that was put
linked-put : (links : List (Option ℕ)) (at to e q : Option ℕ) → IsBelow at (length links) → linked (relinked links at to) (put_end e at to) q ≡ put_link (linked links e) at to q
linked-put links None to e None below = refl
linked-put links None to e (Some j) below = refl
linked-put links (Some k) to e None below = refl
linked-put links (Some k) to e (Some j) below =
    elim (eqb_tells j k) [
      | inl y ↦
          ap (λ i. get_or (set links k to) i None) y.1 ∙ get_or-set_same links k to None below
          ∙ ap (λ b. cond b to (get_or links j None)) (sym y.0)
      | inr n ↦ get_or-set_other links k j to None n.1 ∙ ap (λ b. cond b to (get_or links j None)) (sym n.0)
    ]

linked-first : (links : List (Option ℕ)) (e to q : Option ℕ) → linked links to q ≡ put_link (linked links e) None to q
linked-first links e to None = refl
linked-first links e to (Some j) = refl

-- links with more places, which lead nowhere
pub padded : {X : Type 0} (links : List (Option X)) (more k : ℕ) → get_or (links ++ replicate more None) k None ≡ get_or links k None
padded {X} [] more k =
    elim (cases_lt k more) [
      | inl within ↦ get_or-replicate more k None None within
      | inr past ↦ let none : Option X = None in get_or_past (replicate more none) k none (omega (arith, past, length-replicate more none))
    ]
padded (x ∷ links) more zero = refl
padded (x ∷ links) more (suc k) = padded links more k

linked-padded : (links : List (Option ℕ)) (more : ℕ) (e q : Option ℕ) → linked (links ++ replicate more None) e q ≡ linked links e q
linked-padded links more e None = refl
linked-padded links more e (Some k) = padded links more k

pub ring-padded : (A B : List (Option ℕ)) (e e' : Option ℕ) (keys : List ℕ) (more : ℕ) → IsRing (linked A e) (linked B e') keys → IsRing (linked (A ++ replicate more None) e) (linked (B ++ replicate more None) e') keys
ring-padded A B e e' keys more ring =
    ring-alike (linked A e) (linked (A ++ replicate more None) e) (linked B e') (linked (B ++ replicate more None) e') keys (linked-padded A more e) (linked-padded B more e') ring

-- a ring, by other names of its links
pub ring-same : (A A' B B' : List (Option ℕ)) (e e' l l' : Option ℕ) (keys : List ℕ) → A' ≡ A → B' ≡ B → e' ≡ e → l' ≡ l → IsRing (linked A e) (linked B l) keys → IsRing (linked A' e') (linked B' l') keys
ring-same A A' B B' e e' l l' keys after before first last ring =
    subst (λ x. IsRing (linked x e') (linked B' l') keys) (sym after) (
    subst (λ x. IsRing (linked A e') (linked x l') keys) (sym before) (
    subst (λ x. IsRing (linked A x) (linked B l') keys) (sym first) (subst (λ x. IsRing (linked A e) (linked B x) keys) (sym last) ring)
    )
    )

-- a link to a key that is among those that have places
below-from : (p : Option ℕ) (keys : List ℕ) (count : ℕ) → ((j : ℕ) → 1 ≤ occurs j keys → j < count) → ((j : ℕ) → p ≡ Some j → 1 ≤ occurs j keys) → IsBelow p count
below-from None keys count within among = tt
below-from (Some j) keys count within among = within j (among j refl)

module _ (A B : List (Option ℕ)) (e e' : Option ℕ) (count : ℕ) where
  pub before-below : (xs : List ℕ) (k : ℕ) (ys : List ℕ) → ((j : ℕ) → 1 ≤ occurs j (xs ++ k ∷ ys) → j < count) → IsRing (linked A e) (linked B e') (xs ++ k ∷ ys) → IsBelow (get_or B k None) count
  before-below xs k ys within ring =
      below-from (get_or B k None) (xs ++ k ∷ ys) count within (λ j is.
      let in_front = last-occurs xs j (sym (ring-before (linked A e) (linked B e') xs k ys ring) ∙ is) in
      omega (arith, in_front, occurs-append j xs (k ∷ ys)))

  pub after-below : (xs : List ℕ) (k : ℕ) (ys : List ℕ) → ((j : ℕ) → 1 ≤ occurs j (xs ++ k ∷ ys) → j < count) → IsRing (linked A e) (linked B e') (xs ++ k ∷ ys) → IsBelow (get_or A k None) count
  after-below xs k ys within ring =
      below-from (get_or A k None) (xs ++ k ∷ ys) count within (λ j is.
      let behind = first-occurs ys j (sym (ring-after (linked A e) (linked B e') xs k ys ring) ∙ is) in
      omega (arith, behind, occurs-append j xs (k ∷ ys)))

  pub last-below : (keys : List ℕ) → ((j : ℕ) → 1 ≤ occurs j keys → j < count) → IsRing (linked A e) (linked B e') keys → IsBelow e' count
  last-below keys within ring =
      below-from e' keys count within (λ j is. last-occurs keys j (sym (ring-last (linked A e) (linked B e') keys ring) ∙ is))

module _ (A B : List (Option ℕ)) (e e' : Option ℕ) where
  -- a node between others leaves: the one before it is followed by the one after it, and the other way
  pub ring_rise : (xs : List ℕ) (k : ℕ) (ys : List ℕ) → IsBelow (get_or B k None) (length A) → IsBelow (get_or A k None) (length B) → IsDistinct (xs ++ k ∷ ys) → IsRing (linked A e) (linked B e') (xs ++ k ∷ ys) → let p = get_or B k None in let q = get_or A k None in IsRing (linked (relinked A p q) (put_end e p q)) (linked (relinked B q p) (put_end e' q p)) (xs ++ ys)
  ring_rise xs k ys before after distinct ring =
      let p = get_or B k None in
      let q = get_or A k None in
      ring-alike (put_link (linked A e) p q) (linked (relinked A p q) (put_end e p q)) (put_link (linked B e') q p) (linked (relinked B q p) (put_end e' q p)) (xs ++ ys) (λ r. linked-put A p q e r before) (λ r. linked-put B q p e' r after) (ring-take (linked A e) (linked B e') xs k ys distinct ring)

  -- a node comes behind the last one
  pub ring_sit : (keys : List ℕ) (k : ℕ) → k < length A → k < length B → IsBelow e' (length A) → IsAbsent (Some k) keys → IsDistinct keys → IsRing (linked A e) (linked B e') keys → IsRing (linked (relinked (set A k None) e' (Some k)) (put_end e e' (Some k))) (linked (set B k e') (Some k)) (keys ++ k ∷ [])
  ring_sit keys k there there' below absent distinct ring =
      let A1 = set A k None in
      let B1 = set B k e' in
      let below1 : IsBelow e' (length A1) = subst (IsBelow e') (sym (length-set A k None)) below in
      ring-alike (put_link (put_link (linked A e) (Some k) None) e' (Some k)) (linked (relinked A1 e' (Some k)) (put_end e e' (Some k))) (put_link (put_link (linked B e') (Some k) e') None (Some k)) (linked B1 (Some k)) (keys ++ k ∷ [])
      (λ r. linked-put A1 e' (Some k) e r below1 ∙ put-alike (put_link (linked A e) (Some k) None) (linked A1 e) e' (Some k) r (linked-put A (Some k) None e r there))
      (λ r. linked-first B1 e' (Some k) r ∙ put-alike (put_link (linked B e') (Some k) e') (linked B1 e') None (Some k) r (linked-put B (Some k) e' e' r there'))
      (ring-push (linked A e) (linked B e') keys k distinct absent ring)

-- places that come one by one
more-empty : {X Y : Type 0} (field : X → Option Y) (old mid new : List X) (n : ℕ) (x : X) → map field mid ≡ map field old ++ replicate n None → field x ≡ None → new ≡ mid ++ x ∷ [] → map field new ≡ map field old ++ replicate (n + 1) None
more-empty {Y = Y} field old mid new n x was none is =
    ap (map field) is ∙ map-append field mid (x ∷ []) ∙ ap (λ xs. xs ++ field x ∷ []) was ∙ ap (λ o. (map field old ++ replicate n None) ++ o ∷ []) none
    ∙ append_assoc (map field old) (replicate n None) (None ∷ []) ∙ ap (λ xs. map field old ++ xs) (let nowhere : Option Y = None in replicate-append-replicate n 1 nowhere)

pub padded-ok : {A E : Type 0} {P : Type 0} (result : Result A E) → is_err result ≡ false → OnOk result P → P
padded-ok (Ok x) ok came = came
padded-ok (Err e) ok came = absurd (cc)

pub padded-none : {T : Type 0} (old new : List (Spot T)) → new ≡ old → IsPadded old new 0
padded-none old new same = record {
  slots = ap slots_of same ∙ sym (append-nil (slots_of old));
  afters = ap afters_of same ∙ sym (append-nil (afters_of old));
  befores = ap befores_of same ∙ sym (append-nil (befores_of old));
}

pub padded-more : {T : Type 0} (old mid new : List (Spot T)) (n : ℕ) (x : Spot T) → IsPadded old mid n → x.entry ≡ None → x.after ≡ None → x.before ≡ None → new ≡ mid ++ x ∷ [] → IsPadded old new (n + 1)
padded-more old mid new n x was entry after before is = record {
  slots = more-empty (λ s. s.entry) old mid new n x was.slots entry is;
  afters = more-empty (λ s. s.after) old mid new n x was.afters after is;
  befores = more-empty (λ s. s.before) old mid new n x was.befores before is;
}
