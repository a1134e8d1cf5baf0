-- Blank rounds, one for each post.
use Rattle.std.proofs.Common.{◌≡◌, ℕ, suc, ◌+◌, ◌<◌, eqb, cond, Bool, true, false, List, [], ◌∷◌, ◌++◌, length, replicate, take, drop, get_or, zero, refl, ap, sym, ◌∙◌, arith}
use Rattle.std.proofs.Math.Seq.{drop-cons}
use Rattle.std.proofs.lemmas.List.{append_assoc, append-nil, replicate-append-replicate}
use Rattle.meet_exchange.specs.declared.records.Part.{Part}
use Rattle.meet_exchange.specs.declared.records.Round.{Round}
use Rattle.meet_exchange.specs.Rounds.{in_slot}
use Rattle.meet_exchange.specs.Rebuild.{blank, posts_among}

pub drop_item : {A : Type 0} (l : List A) (i : ℕ) (x : A) → i < length l → x ≡ get_or l i x → drop i l ≡ x ∷ drop (i + 1) l
drop_item l i x inside is = let e : suc i ≡ i + 1 = omega arith in drop-cons l i x inside ∙ (λ t. sym is t ∷ drop (e t) l)

pub posts_cons : (k : ℕ) (p : Part) (ps : List Part) → posts_among (in_slot k (p ∷ ps)) ≡ posts_among (in_slot k (p ∷ [])) + posts_among (in_slot k ps)
posts_cons k p ps = by_case (eqb p.slot k) where
  by_case : (b : Bool) → posts_among (cond b (p ∷ in_slot k ps) (in_slot k ps)) ≡ posts_among (cond b (p ∷ []) []) + posts_among (in_slot k ps)
  by_case true = omega arith
  by_case false = omega arith

abbrev pub blanks_for : ℕ → List Round
blanks_for n = replicate n blank

pub more_blanks : (rds : List Round) (n m : ℕ) → (rds ++ blanks_for n) ++ blanks_for m ≡ rds ++ blanks_for (n + m)
more_blanks rds n m = append_assoc rds (blanks_for n) (blanks_for m) ∙ ap (λ z. rds ++ z) (replicate-append-replicate n m blank)

drop_all : {A : Type 0} (n : ℕ) (l : List A) → length l ≡ n → drop n l ≡ []
drop_all zero [] e = refl
drop_all zero (x ∷ l) e = absurd (omega arith)
drop_all (suc n) [] e = absurd (omega arith)
drop_all (suc n) (x ∷ l) e = drop_all n l (omega arith)

take_all : {A : Type 0} (n : ℕ) (l : List A) → length l ≡ n → take n l ≡ l
take_all zero [] e = refl
take_all zero (x ∷ l) e = absurd (omega arith)
take_all (suc n) [] e = absurd (omega arith)
take_all (suc n) (x ∷ l) e = ap (λ z. x ∷ z) (take_all n l (omega arith))

-- a slice of a whole list is written back
pub written_back : {A : Type 0} (n : ℕ) (new old : List A) → length new ≡ n → length old ≡ n → take n (new ++ drop (length new) old) ≡ new
written_back n new old e f = ap (λ z. take n (new ++ z)) (drop_all (length new) old (f ∙ sym e)) ∙ (ap (take n) (append-nil new) ∙ take_all n new e)
