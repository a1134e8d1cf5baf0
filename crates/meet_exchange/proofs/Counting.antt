-- A slot had as many rounds as the lists have posts in it.
use Rattle.std.proofs.Common.{◌≡◌, ℕ, suc, ◌+◌, eqb, cond, Bool, true, false, List, [], ◌∷◌, ◌++◌, length, sym, refl, ap, ◌∙◌, subst, ⊎_elim, arith, eq-eqb, ne_eqb}
use mathlib.Core.Logic.{dite}
use native.Mathlib.Decide.{ℕ_discrete}
use Rattle.meet_exchange.specs.declared.records.SlotDeed.TheVariants.{Posted, Swapped}
use Rattle.meet_exchange.specs.declared.records.RoundEnd.{RoundEnd}
use Rattle.meet_exchange.specs.declared.records.RoundEnd.TheVariants.{Posted as Stands, Withdrawn as EndWithdrawn, Swapped as Exchanged}
use Rattle.meet_exchange.specs.declared.records.Part.{Part}
use Rattle.meet_exchange.specs.declared.records.Round.{Round}
use Rattle.meet_exchange.specs.Rounds.{part, parts_in, parts_of, poster_part, taker_part}
use Rattle.meet_exchange.specs.Closing.{AreParts}
use Rattle.meet_exchange.specs.Rebuild.{posts_among, posts_of}
use Rattle.meet_exchange.proofs.Pigeons.{Absent, AllApart, Among}
use Rattle.meet_exchange.proofs.Rebuilding.{firsts}

among_append : (ps qs : List Part) → posts_among (ps ++ qs) ≡ posts_among ps + posts_among qs
among_append [] qs = omega arith
among_append (p ∷ ps) qs = let e = among_append ps qs in omega arith

poster_none : (k r : ℕ) (e : RoundEnd) → posts_among (poster_part k r e) ≡ 0
poster_none k r Stands = refl
poster_none k r EndWithdrawn = refl
poster_none k r (Exchanged j b true) = refl
poster_none k r (Exchanged j b false) = refl

taker_none : (x k r a : ℕ) (e : RoundEnd) → posts_among (taker_part x k r a e) ≡ 0
taker_none x k r a Stands = refl
taker_none x k r a EndWithdrawn = refl
taker_none x k r a (Exchanged j b c) = by_case (eqb j x) where
  by_case : (f : Bool) → posts_among (cond f (part k r (Swapped b a) ∷ []) []) ≡ 0
  by_case true = refl
  by_case false = refl

abbrev pub AllSeated : List ℕ → List Round → Type 0
AllSeated xs [] = Unit {0}
AllSeated xs (rd ∷ rds) = Among rd.seat xs × AllSeated xs rds

abbrev once : Bool → ℕ
once true = 1
once false = 0

in_one : (x k r : ℕ) (rd : Round) → posts_among (parts_in x k r rd) ≡ once (eqb rd.seat x)
in_one x k r rd = let t = taker_none x k r rd.mark rd.end in let p = poster_none k r rd.end in
    among_append (cond (eqb rd.seat x) (part k r (Posted rd.mark) ∷ poster_part k r rd.end) []) (taker_part x k r rd.mark rd.end) ∙ (ap (λ n. posts_among (cond (eqb rd.seat x) (part k r (Posted rd.mark) ∷ poster_part k r rd.end) []) + n) t ∙ by_case (eqb rd.seat x)) where
      by_case : (f : Bool) → posts_among (cond f (part k r (Posted rd.mark) ∷ poster_part k r rd.end) []) + 0 ≡ once f
      by_case true = let p : posts_among (poster_part k r rd.end) ≡ 0 = poster_none k r rd.end in omega arith
      by_case false = refl

mine : ℕ → List Round → ℕ
mine x [] = 0
mine x (rd ∷ rds) = once (eqb rd.seat x) + mine x rds

in_all : (x k r : ℕ) (rds : List Round) → posts_among (parts_of x k r rds) ≡ mine x rds
unfolding mine
in_all x k r [] = refl
in_all x k r (rd ∷ rds) = among_append (parts_in x k r rd) (parts_of x k (suc r) rds) ∙ (λ i. in_one x k r rd i + in_all x k (suc r) rds i)

times : ℕ → List ℕ → ℕ
times s [] = 0
times s (x ∷ xs) = once (eqb s x) + times s xs

all_mine : List ℕ → List Round → ℕ
all_mine [] rds = 0
all_mine (x ∷ xs) rds = mine x rds + all_mine xs rds

mine_none : (xs : List ℕ) → all_mine xs [] ≡ 0
unfolding all_mine mine
mine_none [] = refl
mine_none (x ∷ xs) = let e = mine_none xs in omega arith

mine_more : (xs : List ℕ) (rd : Round) (rds : List Round) → all_mine xs (rd ∷ rds) ≡ times rd.seat xs + all_mine xs rds
unfolding all_mine mine times
mine_more [] rd rds = refl
mine_more (x ∷ xs) rd rds = let e = mine_more xs rd rds in let a : ℕ = once (eqb rd.seat x) in let b : ℕ = mine x rds in let c : ℕ = all_mine xs (rd ∷ rds) in let d : ℕ = times rd.seat xs in let f : ℕ = all_mine xs rds in
    let g : c ≡ d + f = e in let h : (a + b) + c ≡ (a + d) + (b + f) = omega arith in h

times_absent : (s : ℕ) (xs : List ℕ) → Absent s xs → times s xs ≡ 0
unfolding times
times_absent s [] a = refl
times_absent s (x ∷ xs) a = let e = times_absent s xs a.1 in let f : once (eqb s x) ≡ 0 = ap once (ne_eqb s x (λ h. a.0 (sym h))) in omega arith

times_once : (s : ℕ) (xs : List ℕ) → AllApart xs → Among s xs → times s xs ≡ 1
unfolding times
times_once s [] d a = absurd a
times_once s (x ∷ xs) d a = dite (ℕ_discrete x s)
    (λ e. let f : once (eqb s x) ≡ 1 = ap once (eq-eqb s x (sym e)) in let h = times_absent s xs (subst (λ z. Absent z xs) e d.0) in omega arith)
    (λ ne. let f : once (eqb s x) ≡ 0 = ap once (ne_eqb s x (λ h. ne (sym h))) in let h = times_once s xs d.1 (⊎_elim (λ e. absurd (ne e)) (λ b. b) a) in omega arith)

each_once : (xs : List ℕ) (rds : List Round) → AllApart xs → AllSeated xs rds → all_mine xs rds ≡ length rds
each_once xs [] d all = mine_none xs
each_once xs (rd ∷ rds) d all = let e = mine_more xs rd rds in let h = times_once rd.seat xs d all.0 in let f = each_once xs rds d all.1 in omega arith

counts : (n start k : ℕ) (rounds : ℕ → List Round) (ls : List (ℕ × List Part)) → AreParts n start rounds ls → posts_of k ls ≡ all_mine (firsts ls) (rounds k)
unfolding all_mine
counts n start k rounds [] p = refl
counts n start k rounds (v ∷ ls) p = λ i. (ap posts_among (p.1 k) ∙ in_all v.0 k start (rounds k)) i + counts n start k rounds ls p.3 i

pub counted : (n start k : ℕ) (rounds : ℕ → List Round) (ls : List (ℕ × List Part)) → AreParts n start rounds ls → AllApart (firsts ls) → AllSeated (firsts ls) (rounds k) → posts_of k ls ≡ length (rounds k)
counted n start k rounds ls p d all = counts n start k rounds ls p ∙ each_once (firsts ls) (rounds k) d all
