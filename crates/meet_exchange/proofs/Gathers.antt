-- The views that a close joins.
use Rattle.meet_exchange.specs.Words.{round_unit}
use mathlib.Core.Logic.{dite}
use mathlib.Core.Option.{some, some-injective, some-ne-none}
use native.Mathlib.Decide.{ℕ_discrete}
use lib.ListN.{get_elem?}
use Rattle.std.proofs.Common.{Option, Some, None, eqb, eq-eqb, ne_eqb, ◌/◌, ◌%◌, ◌≡◌, ℕ, zero, suc, ◌+◌, ◌<◌, ◌≤◌, ◌⊎◌, inl, inr, Bool, true, false, get_or, set, get_or-set_other, get_or-set_same, List, [], ◌∷◌, ◌++◌, length, sym, refl, ap, ◌∙◌, subst, arith}
use Rattle.atomic_table.specs.Seated.{TableId}
use Rattle.meet_exchange.specs.declared.views.Trail.{Trail}
use Rattle.meet_exchange.specs.declared.records.Part.{Part}
use Rattle.meet_exchange.specs.declared.views.Plan.{Plan}
use Rattle.meet_exchange.specs.declared.seats.Back.{Back}
use Rattle.meet_exchange.specs.declared.left.LeftIn.{LeftIn}
use Rattle.meet_exchange.specs.Closing.{IsSettled, AllSettled, lists_of, LastFits, Closing, put_all}
use Rattle.meet_exchange.specs.Rounds.{left_in, in_slot}
use Rattle.meet_exchange.specs.Rebuild.{posts_of, posts_among}
use Rattle.meet_exchange.specs.Closed.{AreOf, AreAt, HasList, seat_of, back_lists, Adds, TakenUpTo, AddsLeft, IsLeft, standing_of}

pub lists_snoc : (vs : List Trail) (v : Trail) → lists_of (vs ++ v ∷ []) ≡ lists_of vs ++ (v.number, v.list) ∷ []
lists_snoc [] v = refl
lists_snoc (x ∷ vs) v = ap (λ l. (x.number, x.list) ∷ l) (lists_snoc vs v)

pub settled_snoc : (vs : List Trail) (v : Trail) → AllSettled vs → IsSettled v.hand → AllSettled (vs ++ v ∷ [])
settled_snoc [] v all s = (s, tt)
settled_snoc (x ∷ vs) v all s = (all.0, settled_snoc vs v all.1 s)

pub views_snoc : (vs : List Trail) (v : Trail) → length (vs ++ v ∷ []) ≡ length vs + 1
views_snoc [] v = refl
views_snoc (x ∷ vs) v = let e = views_snoc vs v in omega arith

pub at_last : {T : Type 0} (z : TableId) (bs : List (Back T)) (b : Back T) → AreOf z (bs ++ b ∷ []) → AreOf z bs × ((seat_of b).arena ≡ z)
at_last z [] b all = (tt, all.0)
at_last z (x ∷ bs) b all = let h = at_last z bs b all.1 in ((all.0, h.0), h.1)

pub read_at : (xs : List ℕ) (i x : ℕ) → get_elem? xs i ≡ some x → get_or xs i 0 ≡ x
read_at [] i x e = absurd (some-ne-none x (sym e))
read_at (y ∷ xs) zero x e = some-injective y x e
read_at (y ∷ xs) (suc i) x e = read_at xs i x e

pub still_filled : (fs : List Bool) (i n : ℕ) → ((k : ℕ) → i ≤ k → k < n → get_or fs k false ≡ true) → (k : ℕ) → i + 1 ≤ k → k < n → get_or (set fs i false) k false ≡ true
still_filled fs i n full k l h = get_or-set_other fs i k false false (λ e. omega arith) ∙ full k (omega arith) h

pub now_empty : (fs : List Bool) (i : ℕ) → i < length fs → ((k : ℕ) → k < i → get_or fs k false ≡ false) → (k : ℕ) → k < i + 1 → get_or (set fs i false) k false ≡ false
now_empty fs i inside none k l = dite (ℕ_discrete k i) (λ e. subst (λ z. get_or (set fs i false) z false ≡ false) (sym e) (get_or-set_same fs i false false inside)) (λ ne. get_or-set_other fs i k false false ne ∙ none k (omega arith))

module _ {T : Type 0} (mark : T → ℕ) (plan : Plan) (lists : List (ℕ × List Part)) (words : List ℕ) (values : List (Option T)) (closing : Closing mark plan lists words values) where
  one_left : (k : ℕ) (value : Option T) (prev left : List (LeftIn T)) → LastFits mark plan.start (closing.rounds k) (get_or words k 0) value → Adds k (get_or words k 0) value prev left
      → AddsLeft mark plan.start closing.rounds k (left_in (closing.rounds k)) prev left
  one_left k None prev left fits adds = subst (λ z. AddsLeft mark plan.start closing.rounds k z prev left) (sym fits) adds
  one_left k (Some x) prev left fits adds = subst (λ z. AddsLeft mark plan.start closing.rounds k z prev left) (sym fits.1)
      (record { slot = k; round = get_or words k 0 / round_unit; item = x; standing = standing_of (eqb (get_or words k 0 % 8) 2) }, adds, refl, fits.4, refl, ap standing_of (offers fits.0 fits.2 fits.3)) where
        offers : (b : Bool) → (b ≡ true → get_or words k 0 % 8 ≡ 2) → (b ≡ false → get_or words k 0 % 8 ≡ 4) → eqb (get_or words k 0 % 8) 2 ≡ b
        offers true a b = eq-eqb (get_or words k 0 % 8) 2 (a refl)
        offers false a b = let four = b refl in ne_eqb (get_or words k 0 % 8) 2 (λ e. omega arith)

  pub all_left : (n : ℕ) → n ≤ plan.slots → (left : List (LeftIn T)) → TakenUpTo words values n left → IsLeft mark plan.start closing.rounds n left
  all_left zero l left t = t
  all_left (suc k) l left t = (t.2, all_left k (omega arith) t.2 t.3, one_left k t.0 t.2 left (closing.last k t.0 (omega arith) t.1) t.4)

pub length-lists : (vs : List Trail) → length (lists_of vs) ≡ length vs
length-lists [] = refl
length-lists (v ∷ vs) = ap suc (length-lists vs)

pub put_snoc : (ps : List (ℕ × List Part)) (p : ℕ × List Part) (lists : List (List Part)) → put_all (ps ++ p ∷ []) lists ≡ set (put_all ps lists) p.0 p.1
put_snoc [] p lists = refl
put_snoc (q ∷ ps) p lists = put_snoc ps p (set lists q.0 q.1)

pub posts_snoc : (k : ℕ) (ls : List (ℕ × List Part)) (l : ℕ × List Part) → posts_of k (ls ++ l ∷ []) ≡ posts_of k ls + posts_among (in_slot k l.1)
posts_snoc k [] l = omega arith
posts_snoc k (x ∷ ls) l = let e = posts_snoc k ls l in omega arith

pub back_snoc : {T : Type 0} (bs : List (Back T)) (b : Back T) → back_lists (bs ++ b ∷ []) ≡ back_lists bs ++ ((seat_of b).number, (seat_of b).list) ∷ []
back_snoc [] b = refl
back_snoc (x ∷ bs) b = ap (λ l. ((seat_of x).number, (seat_of x).list) ∷ l) (back_snoc bs b)

pub at_snoc : (lists : List (List Part)) (ps : List (ℕ × List Part)) (p : ℕ × List Part) → AreAt lists (ps ++ p ∷ []) → AreAt lists ps × AreAt lists (p ∷ [])
at_snoc lists [] p at = (tt, at)
at_snoc lists (q ∷ ps) p at = let h = at_snoc lists ps p at.1 in ((at.0, h.0), h.1)

pub snoc_at : (lists : List (List Part)) (ps : List (ℕ × List Part)) (p : ℕ × List Part) → AreAt lists ps → AreAt lists (p ∷ []) → AreAt lists (ps ++ p ∷ [])
snoc_at lists [] p at last = last
snoc_at lists (q ∷ ps) p at last = (at.0, snoc_at lists ps p at.1 last)

pub has_snoc : (x : ℕ) (ps : List (ℕ × List Part)) (p : ℕ × List Part) → HasList x (ps ++ p ∷ []) → HasList x ps ⊎ (p.0 ≡ x)
has_snoc x [] p (inl e) = inr e
has_snoc x [] p (inr h) = absurd h
has_snoc x (q ∷ ps) p (inl e) = inl (inl e)
has_snoc x (q ∷ ps) p (inr h) = deeper (has_snoc x ps p h) where
  deeper : HasList x ps ⊎ (p.0 ≡ x) → HasList x (q ∷ ps) ⊎ (p.0 ≡ x)
  deeper (inl t) = inl (inr t)
  deeper (inr e) = inr e

pub snoc_has : (x : ℕ) (ps : List (ℕ × List Part)) (p : ℕ × List Part) → HasList x ps ⊎ (p.0 ≡ x) → HasList x (ps ++ p ∷ [])
snoc_has x [] p (inl h) = absurd h
snoc_has x [] p (inr e) = inl e
snoc_has x (q ∷ ps) p (inl (inl e)) = inl e
snoc_has x (q ∷ ps) p (inl (inr h)) = inr (snoc_has x ps p (inl h))
snoc_has x (q ∷ ps) p (inr e) = inr (snoc_has x ps p (inr e))

-- the last of what is given back moves to the trails that are gathered
pub moved_at : (lists : List (List Part)) (ps qs : List (ℕ × List Part)) (p : ℕ × List Part) → AreAt lists (ps ++ p ∷ []) → AreAt lists qs → AreAt lists ps × AreAt lists (qs ++ p ∷ [])
moved_at lists ps qs p at rest = let h = at_snoc lists ps p at in (h.0, snoc_at lists qs p rest h.1)

pub moved_has : (x : ℕ) (ps qs : List (ℕ × List Part)) (p : ℕ × List Part) → HasList x (ps ++ p ∷ []) ⊎ HasList x qs → HasList x ps ⊎ HasList x (qs ++ p ∷ [])
moved_has x ps qs p (inl h) = split (has_snoc x ps p h) where
  split : HasList x ps ⊎ (p.0 ≡ x) → HasList x ps ⊎ HasList x (qs ++ p ∷ [])
  split (inl t) = inl t
  split (inr e) = inr (snoc_has x qs p (inr e))
moved_has x ps qs p (inr h) = inr (snoc_has x qs p (inl h))
