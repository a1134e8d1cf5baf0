-- The table at the start, a token that is cut off, one that is taken in, and a new one with no view.
use Rattle.meet_exchange.specs.Words.{round_unit}
use Rattle.meet_tickets.specs.Limits.{most_seats, last_round}
use Rattle.std.proofs.Common.{◌≡◌, ℕ, zero, suc, ◌+◌, ◌*◌, ◌<◌, ◌≤◌, eqb, ◌≢◌, ◌⊎◌, inl, inr, cond, List, [], ◌∷◌, ◌++◌, map, length, get_or, set, sym, refl, ap, ◌∙◌, subst, ⊎_elim, arith, eq-eqb, ne_eqb, Option, None}
use Rattle.std.proofs.Math.ListN.{replicate}
use Rattle.std.proofs.lemmas.List.{length-replicate, get_or-replicate}
use mathlib.Core.Option.{some, some-injective, some-ne-none}
use lib.ListN.{get_elem?}
use Rattle.atomic_table.specs.Table.{State, Me, opening, Splits, Joins, Enters}
use Rattle.atomic_table.proofs.Lists.{at_set, at_snoc, set_else}
use Rattle.meet_exchange.specs.declared.views.Trail.{Trail}
use Rattle.meet_exchange.specs.declared.views.Plan.{Plan}
use Rattle.meet_exchange.specs.Stages.{Cell, cell_of}
use Rattle.meet_exchange.specs.Rule.{SeatFits, IsNew, TokenFits, Kept, top, fresh_from, others}
use Rattle.meet_exchange.specs.Stages.Stage.{free}

module _ {A : Type 0} where
  at_end : (l : List A) (a b : A) (j : ℕ) → get_elem? (l ++ a ∷ []) j ≡ some b → (get_elem? l j ≡ some b) ⊎ ((j ≡ length l) × (a ≡ b))
  at_end [] a b zero e = inr (refl, some-injective a b e)
  at_end [] a b (suc j) e = absurd (some-ne-none b (sym e))
  at_end (x ∷ xs) a b zero e = inl e
  at_end (x ∷ xs) a b (suc j) e = ⊎_elim (λ t. inl t) (λ t. inr (ap suc t.0, t.1)) (at_end xs a b j e)

  within : (l : List A) (j : ℕ) (b : A) → get_elem? l j ≡ some b → j < length l
  within [] j b e = absurd (some-ne-none b (sym e))
  within (x ∷ xs) zero b e = omega arith
  within (x ∷ xs) (suc j) b e = let h = within xs j b e in omega arith

  pub at_replicate : (n k : ℕ) (a : A) → k < n → get_elem? (map some (replicate n a)) k ≡ some (some a)
  at_replicate zero k a h = absurd (omega arith)
  at_replicate (suc n) zero a h = refl
  at_replicate (suc n) (suc k) a h = at_replicate n k a (omega arith)

-- the seat x goes to the token t
abbrev at_token : (ℕ → ℕ) → ℕ → ℕ → ℕ → ℕ
at_token f x t y = cond (eqb y x) t (f y)

token_here : (f : ℕ → ℕ) (x t : ℕ) → at_token f x t x ≡ t
token_here f x t = ap (λ b. cond b t (f x)) (eq-eqb x x refl)

token_else : (f : ℕ → ℕ) (x t y : ℕ) → y ≢ x → at_token f x t y ≡ f y
token_else f x t y ne = ap (λ b. cond b t (f y)) (ne_eqb y x ne)

fresh_new : (i m n : ℕ) → i < m → IsNew i (fresh_from m n)
fresh_new i m zero l = tt
fresh_new i m (suc n) l = ((λ e. absurd (omega arith)), fresh_new i (suc m) n (omega arith))

abbrev InThese : ℕ → List Trail → Type 0
InThese x [] = ⊥
InThese x (v ∷ vs) = (v.number ≡ x) ⊎ InThese x vs

not_new : (x y : ℕ) (vs : List Trail) → IsNew x vs → InThese y vs → y ≢ x
not_new x y [] new i = absurd i
not_new x y (v ∷ vs) new (inl e) = λ h. new.0 (e ∙ h)
not_new x y (v ∷ vs) new (inr i) = not_new x y vs new.1 i

-- seats of two tokens are two seats
new_by_token : (plan : Plan) (cells : ℕ → Cell) (f : ℕ → ℕ) (j x : ℕ) (vs : List Trail) → f x ≢ j → TokenFits plan cells f j vs → IsNew x vs
new_by_token plan cells f j x [] ne fits = tt
new_by_token plan cells f j x (v ∷ vs) ne fits = ((λ e. ne (ap f (sym e) ∙ fits.0.token)), new_by_token plan cells f j x vs ne fits.2)

new_snoc : (n : ℕ) (vs : List Trail) (x : Trail) → IsNew n vs → x.number ≢ n → IsNew n (vs ++ x ∷ [])
new_snoc n [] x new ne = (ne, tt)
new_snoc n (v ∷ vs) x new ne = (new.0, new_snoc n vs x new.1 ne)

module _ (plan : Plan) where
  fresh_fits : (i n : ℕ) → i + n ≤ plan.seats → TokenFits plan (λ _. cell_of [] free) (λ _. 0) 0 (fresh_from i n)
  fresh_fits i zero l = tt
  fresh_fits i (suc n) l = (record { token = refl; number = omega arith; list = λ _. refl; hand = λ _. refl }, fresh_new i (suc i) n (omega arith), fresh_fits (suc i) n (omega arith))

  -- the same token's seats, under another map of seats to tokens
  moved_seats : (cells : ℕ → Cell) (f g : ℕ → ℕ) (j j' : ℕ) (vs : List Trail) → ((x : ℕ) → f x ≡ j → InThese x vs → g x ≡ j') → TokenFits plan cells f j vs → TokenFits plan cells g j' vs
  moved_seats cells f g j j' [] to fits = tt
  moved_seats cells f g j j' (v ∷ vs) to fits = let s = fits.0 in
      (record { token = to v.number s.token (inl refl); number = s.number; list = s.list; hand = s.hand }, fits.1, moved_seats cells f g j j' vs (λ x e i. to x e (inr i)) fits.2)

module _ {T : Type 0} (mark : T → ℕ) (plan : Plan) where
  abbrev Rule : State (Option T) (List Trail) → Type 0
  Rule = Kept mark plan

  pub opens : (words : List ℕ) → words ≡ replicate plan.slots (round_unit * plan.start) → plan.seats ≤ most_seats → 0 < plan.seats → plan.start ≤ last_round → Rule (opening words (replicate plan.slots None) (fresh_from 0 plan.seats))
  opens words is few some_seat early = record {
    cells = λ _. cell_of [] free;
    token_of = λ _. 0;
    wide = ap length is ∙ length-replicate plan.slots (round_unit * plan.start);
    few = few;
    each_slot = λ k l. let word : get_or words k 0 ≡ round_unit * plan.start = ap (λ w. get_or w k 0) is ∙ get_or-replicate plan.slots k (round_unit * plan.start) 0 l in
        record { value = some None; there = at_replicate plan.slots k None l; item = refl; word_is = omega arith; owner_fits = omega arith; round_fits = omega arith; ended = tt; played = tt };
    beyond = λ k l. refl;
    each_token = λ j v e. opened j v e;
  } where
    opened : (j : ℕ) (v : List Trail) → get_elem? (fresh_from 0 plan.seats ∷ []) j ≡ some v → TokenFits plan (λ _. cell_of [] free) (λ _. 0) j v
    opened zero v e = subst (TokenFits plan (λ _. cell_of [] free) (λ _. 0) 0) (some-injective _ v e) (fresh_fits plan 0 plan.seats (omega arith))
    opened (suc j) v e = absurd (some-ne-none v (sym e))

  -- the rule with other views
  with_views : (s : State (Option T) (List Trail)) (r : Rule s) (g : ℕ → ℕ) (views : List (List Trail)) → ((j : ℕ) (v : List Trail) → get_elem? views j ≡ some v → TokenFits plan r.cells g j v)
      → Rule (record { words = s.words; homes = s.homes; views = views })
  with_views s r g views fits = record { cells = r.cells; token_of = g; wide = r.wide; few = r.few; each_slot = r.each_slot; beyond = r.beyond; each_token = fits }

  pub splits : (id : ℕ) (v : List Trail) → v ≡ top v ∷ others v → Splits Rule id v (others v) (top v ∷ [])
  splits id v one s r at = let x = top v in let vs = others v in let f = r.token_of in let t : ℕ = length (set s.views id vs) in let g : ℕ → ℕ = at_token f x.number t in
      let fits = r.each_token id (x ∷ vs) (at ∙ ap some one) in
      with_views s r g (set s.views id vs ++ (x ∷ []) ∷ []) (λ j w e. ⊎_elim
      (λ e'. ⊎_elim
      (λ p. subst (λ z. TokenFits plan r.cells g z w) (sym p.0) (subst (TokenFits plan r.cells g id) p.1 (moved_seats plan r.cells f g id id vs (λ y fy i. token_else f x.number t y (not_new x.number y vs fits.1 i) ∙ fy) fits.2)))
      (λ p. moved_seats plan r.cells f g j j w (λ y fy _. token_else f x.number t y (λ h. p.0 (sym fy ∙ (ap f h ∙ fits.0.token))) ∙ fy) (r.each_token j w p.1))
      (at_set s.views id j vs w e'))
      (λ p. subst (λ z. TokenFits plan r.cells g z w) (sym p.0) (subst (TokenFits plan r.cells g t) p.1
      (record { token = token_here f x.number t; number = fits.0.number; list = fits.0.list; hand = fits.0.hand }, tt, tt)))
      (at_end (set s.views id vs) (x ∷ []) w j e))

  fits_snoc : (cells : ℕ → Cell) (g : ℕ → ℕ) (j : ℕ) (vs : List Trail) (x : Trail) → TokenFits plan cells g j vs → SeatFits plan cells g j x → IsNew x.number vs → TokenFits plan cells g j (vs ++ x ∷ [])
  fits_snoc cells g j [] x fits one new = (one, tt, tt)
  fits_snoc cells g j (v ∷ vs) x fits one new = (fits.0, new_snoc v.number vs x fits.1 (λ e. new.0 (sym e)), fits_snoc cells g j vs x fits.2 one new.1)

  pub joins : (id : ℕ) (v : List Trail) (other : ℕ) (w : List Trail) → w ≡ top w ∷ [] → Joins Rule id v other w (v ++ w) []
  joins id v other w one = let x = top w in subst (λ z. Joins Rule id v other z (v ++ z) []) (sym one) (λ s r at apart there.
      let f = r.token_of in let g : ℕ → ℕ = at_token f x.number id in let fits = r.each_token id v at in
      let him = r.each_token other (x ∷ []) (sym (set_else s.views id other (v ++ x ∷ []) apart) ∙ there) in let away : f x.number ≢ id = λ h. apart (sym him.0.token ∙ h) in
      with_views s r g (set (set s.views id (v ++ x ∷ [])) other []) (λ j u e. ⊎_elim
      (λ p. subst (TokenFits plan r.cells g j) p.1 tt)
      (λ p. ⊎_elim
      (λ q. subst (λ z. TokenFits plan r.cells g z u) (sym q.0) (subst (TokenFits plan r.cells g id) q.1 (fits_snoc r.cells g id v x
      (moved_seats plan r.cells f g id id v (λ y fy _. token_else f x.number id y (λ h. away (ap f (sym h) ∙ fy)) ∙ fy) fits)
      (record { token = token_here f x.number id; number = him.0.number; list = him.0.list; hand = him.0.hand })
      (new_by_token plan r.cells f id x.number v away fits))))
      (λ q. moved_seats plan r.cells f g j j u (λ y fy _. token_else f x.number id y (λ h. p.0 (sym fy ∙ (ap f h ∙ him.0.token))) ∙ fy) (r.each_token j u q.1))
      (at_set s.views id j (v ++ x ∷ []) u p.1))
      (at_set (set s.views id (v ++ x ∷ [])) other j [] u e)))

  pub enters : (slots i : ℕ) → Enters Rule slots i (λ n w. ◌≡◌ {A = Me (Option T) (List Trail)} (w, []) ([], []))
  enters slots i s r _ _ = ([], with_views s r r.token_of (s.views ++ [] ∷ []) (λ j w e. ⊎_elim (λ e'. r.each_token j w e') (λ p. subst (TokenFits plan r.cells r.token_of j) p tt) (at_snoc s.views [] w j e)), refl)
