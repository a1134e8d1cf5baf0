-- Three sweeps over the seats' lists give the rounds of a slot.
use Rattle.std.proofs.Common.{◌≡◌, ℕ, zero, suc, ◌+◌, ◌-◌, ◌<◌, ◌≤◌, ◌≢◌, eqb, cond, Bool, true, false, List, [], ◌∷◌, ◌++◌, length, get_or, set, sym, refl, ap, ◌∙◌, subst, ⊎_elim, arith, eq-eqb, ne_eqb, length-set, get_or-set_other, get_or-set_same}
use Rattle.std.proofs.lemmas.List.{ext_get_or}
use mathlib.Core.Logic.{dite}
use native.Mathlib.Decide.{ℕ_discrete}
use Rattle.meet_exchange.specs.declared.records.SlotDeed.{SlotDeed}
use Rattle.meet_exchange.specs.declared.records.SlotDeed.TheVariants.{Posted, Withdrawn, Swapped, Collected}
use Rattle.meet_exchange.specs.declared.records.RoundEnd.{RoundEnd}
use Rattle.meet_exchange.specs.declared.records.RoundEnd.TheVariants.{Posted as Stands, Withdrawn as EndWithdrawn, Swapped as Exchanged}
use Rattle.meet_exchange.specs.declared.records.Part.{Part}
use Rattle.meet_exchange.specs.declared.records.Round.{Round}
use Rattle.meet_exchange.specs.Rounds.{round_of, part, in_slot, parts_in, parts_of, poster_part, taker_part}
use Rattle.meet_exchange.specs.Closing.{AreParts, IsNewList}
use Rattle.meet_exchange.specs.Rounds.{IsHistory}
use Rattle.meet_exchange.specs.Rounds.{IsPlayed}
use Rattle.std.proofs.Math.ListN.{replicate}
use Rattle.std.proofs.lemmas.List.{length-replicate, get_or-replicate}
use Rattle.meet_exchange.specs.Rebuild.{blank, posts_in, ends_in, collects_in, written, all_written, swept}
use Rattle.meet_exchange.proofs.Stages.{same, apart, flip}
use Rattle.meet_exchange.proofs.Pigeons.{Absent, AllApart, AllBelow, Among, all_there}

abbrev AllFrom : ℕ → List Part → Type 0
AllFrom s [] = Unit {0}
AllFrom s (p ∷ ps) = (s ≤ p.round) × AllFrom s ps

abbrev AllOf : ℕ → List Part → Type 0
AllOf s [] = Unit {0}
AllOf s (p ∷ ps) = (p.round ≡ s) × AllOf s ps

of_append : (s : ℕ) (ps qs : List Part) → AllOf s ps → AllOf s qs → AllOf s (ps ++ qs)
of_append s [] qs a b = b
of_append s (p ∷ ps) qs a b = (a.0, of_append s ps qs a.1 b)

from_append : (s : ℕ) (ps qs : List Part) → AllOf s ps → AllFrom (suc s) qs → AllFrom s (ps ++ qs)
from_append s [] qs a b = weaker s qs b where
  weaker : (s : ℕ) (qs : List Part) → AllFrom (suc s) qs → AllFrom s qs
  weaker s [] b = tt
  weaker s (q ∷ qs) b = let h = b.0 in (omega arith, weaker s qs b.1)
from_append s (p ∷ ps) qs a b = let e = a.0 in (omega arith, from_append s ps qs a.1 b)

in_cond : (s : ℕ) (b : Bool) (ps : List Part) → AllOf s ps → AllOf s (cond b ps [])
in_cond s true ps a = a
in_cond s false ps a = tt

poster_of : (k s : ℕ) (e : RoundEnd) → AllOf s (poster_part k s e)
poster_of k s Stands = tt
poster_of k s EndWithdrawn = (refl, tt)
poster_of k s (Exchanged j b c) = in_cond s c (part k s (Collected b) ∷ []) (refl, tt)

taker_of : (x k s a : ℕ) (e : RoundEnd) → AllOf s (taker_part x k s a e)
taker_of x k s a Stands = tt
taker_of x k s a EndWithdrawn = tt
taker_of x k s a (Exchanged j b c) = in_cond s (eqb j x) (part k s (Swapped b a) ∷ []) (refl, tt)

in_round : (x k s : ℕ) (rd : Round) → AllOf s (parts_in x k s rd)
in_round x k s rd = of_append s (cond (eqb rd.seat x) (part k s (Posted rd.mark) ∷ poster_part k s rd.end) []) (taker_part x k s rd.mark rd.end)
    (in_cond s (eqb rd.seat x) (part k s (Posted rd.mark) ∷ poster_part k s rd.end) (refl, poster_of k s rd.end)) (taker_of x k s rd.mark rd.end)

from_start : (x k s : ℕ) (rds : List Round) → AllFrom s (parts_of x k s rds)
from_start x k s [] = tt
from_start x k s (rd ∷ rds) = from_append s (parts_in x k s rd) (parts_of x k (suc s) rds) (in_round x k s rd) (from_start x k (suc s) rds)

abbrev pub firsts : List (ℕ × List Part) → List ℕ
firsts [] = []
firsts (v ∷ vs) = v.0 ∷ firsts vs

module _ (w : ℕ → SlotDeed → Round → Round) where
  -- what the parts of the round r do to its entry
  on_entry : ℕ → ℕ → List Part → Round → Round
  on_entry x r [] t = t
  on_entry x r (p ∷ ps) t = on_entry x r ps (cond (eqb p.round r) (w x p.deed t) t)

  length-all_written : (start x : ℕ) (ps : List Part) (rds : List Round) → length (all_written w start x ps rds) ≡ length rds
  length-all_written start x [] rds = refl
  length-all_written start x (p ∷ ps) rds = length-all_written start x ps (written w start x p rds) ∙ length-set rds (p.round - start) (w x p.deed (get_or rds (p.round - start) blank))

  one_entry : (start x i : ℕ) (p : Part) (rds : List Round) → i < length rds → start ≤ p.round → get_or (written w start x p rds) i blank ≡ cond (eqb p.round (start + i)) (w x p.deed (get_or rds i blank)) (get_or rds i blank)
  one_entry start x i p rds l h = dite (ℕ_discrete p.round (start + i))
      (λ e. let at : p.round - start ≡ i = omega arith in
      ap (λ n. get_or (set rds n (w x p.deed (get_or rds n blank))) i blank) at ∙ (get_or-set_same rds i (w x p.deed (get_or rds i blank)) blank l ∙ sym (ap (λ b. cond b (w x p.deed (get_or rds i blank)) (get_or rds i blank)) (eq-eqb p.round (start + i) e))))
      (λ ne. get_or-set_other rds (p.round - start) i (w x p.deed (get_or rds (p.round - start) blank)) blank (λ e. ne (omega arith)) ∙ sym (ap (λ b. cond b (w x p.deed (get_or rds i blank)) (get_or rds i blank)) (ne_eqb p.round (start + i) ne)))

  entry_of : (start x i : ℕ) (ps : List Part) (rds : List Round) → i < length rds → AllFrom start ps → get_or (all_written w start x ps rds) i blank ≡ on_entry x (start + i) ps (get_or rds i blank)
  unfolding on_entry
  entry_of start x i [] rds l h = refl
  entry_of start x i (p ∷ ps) rds l h = entry_of start x i ps (written w start x p rds) (let e = length-set rds (p.round - start) (w x p.deed (get_or rds (p.round - start) blank)) in omega arith) h.1
      ∙ ap (on_entry x (start + i) ps) (one_entry start x i p rds l h.0)

  on_append : (x r : ℕ) (ps qs : List Part) (t : Round) → on_entry x r (ps ++ qs) t ≡ on_entry x r qs (on_entry x r ps t)
  unfolding on_entry
  on_append x r [] qs t = refl
  on_append x r (p ∷ ps) qs t = on_append x r ps qs (cond (eqb p.round r) (w x p.deed t) t)

  on_other : (x r s : ℕ) (ps : List Part) (t : Round) → AllOf s ps → r ≢ s → on_entry x r ps t ≡ t
  unfolding on_entry
  on_other x r s [] t a ne = refl
  on_other x r s (p ∷ ps) t a ne = ap (λ b. on_entry x r ps (cond b (w x p.deed t) t)) (ne_eqb p.round r (λ e. ne (sym e ∙ a.0))) ∙ on_other x r s ps t a.1 ne

  on_later : (x r s : ℕ) (ps : List Part) (t : Round) → AllFrom s ps → r < s → on_entry x r ps t ≡ t
  unfolding on_entry
  on_later x r s [] t a l = refl
  on_later x r s (p ∷ ps) t a l = let h = a.0 in ap (λ b. on_entry x r ps (cond b (w x p.deed t) t)) (ne_eqb p.round r (λ e. omega arith)) ∙ on_later x r s ps t a.1 l

  on_parts : (x k s i : ℕ) (rds : List Round) (t : Round) → i < length rds → on_entry x (s + i) (parts_of x k s rds) t ≡ on_entry x (s + i) (parts_in x k (s + i) (get_or rds i blank)) t
  on_parts x k s i [] t l = absurd (omega arith)
  on_parts x k s zero (rd ∷ rds) t l = let e : s + 0 ≡ s = omega arith in subst (λ r. on_entry x r (parts_in x k s rd ++ parts_of x k (suc s) rds) t ≡ on_entry x r (parts_in x k r rd) t) (sym e)
      (on_append x s (parts_in x k s rd) (parts_of x k (suc s) rds) t ∙ on_later x s (suc s) (parts_of x k (suc s) rds) (on_entry x s (parts_in x k s rd) t) (from_start x k (suc s) rds) (omega arith))
  on_parts x k s (suc i) (rd ∷ rds) t l = let e : s + suc i ≡ suc s + i = omega arith in subst (λ r. on_entry x r (parts_in x k s rd ++ parts_of x k (suc s) rds) t ≡ on_entry x r (parts_in x k r (get_or rds i blank)) t) (sym e)
      (on_append x (suc s + i) (parts_in x k s rd) (parts_of x k (suc s) rds) t ∙ (ap (on_entry x (suc s + i) (parts_of x k (suc s) rds)) (on_other x (suc s + i) s (parts_in x k s rd) t (in_round x k s rd) (λ e. omega arith))
      ∙ on_parts x k (suc s) i rds t (omega arith)))

  -- what all seats' parts in the round do to its entry
  on_round : ℕ → ℕ → Round → List (ℕ × List Part) → Round → Round
  on_round k r rd [] t = t
  on_round k r rd (l ∷ ls) t = on_round k r rd ls (on_entry l.0 r (parts_in l.0 k r rd) t)

  length-swept : (start k : ℕ) (ls : List (ℕ × List Part)) (rds : List Round) → length (swept w start k ls rds) ≡ length rds
  length-swept start k [] rds = refl
  length-swept start k (l ∷ ls) rds = length-swept start k ls (all_written w start l.0 (in_slot k l.1) rds) ∙ length-all_written start l.0 (in_slot k l.1) rds

  entry_swept : (n start k i : ℕ) (rounds : ℕ → List Round) (ls : List (ℕ × List Part)) (rds : List Round) → AreParts n start rounds ls → i < length rds → i < length (rounds k)
      → get_or (swept w start k ls rds) i blank ≡ on_round k (start + i) (get_or (rounds k) i blank) ls (get_or rds i blank)
  unfolding on_round
  entry_swept n start k i rounds [] rds all l l' = refl
  entry_swept n start k i rounds (v ∷ ls) rds all l l' = let T : List Round = all_written w start v.0 (in_slot k v.1) rds in let long = length-all_written start v.0 (in_slot k v.1) rds in
      entry_swept n start k i rounds ls T all.3 (omega arith) l'
      ∙ ap (on_round k (start + i) (get_or (rounds k) i blank) ls) (entry_of start v.0 i (in_slot k v.1) rds l (subst (AllFrom start) (sym (all.1 k)) (from_start v.0 k start (rounds k)))
      ∙ (ap (λ ps. on_entry v.0 (start + i) ps (get_or rds i blank)) (all.1 k) ∙ on_parts v.0 k start i (rounds k) (get_or rds i blank) l'))

  -- the effect of one round's parts, by cases
  eff_poster : ℕ → RoundEnd → Round → Round
  eff_poster x Stands t = t
  eff_poster x EndWithdrawn t = w x Withdrawn t
  eff_poster x (Exchanged j b c) t = cond c (w x (Collected b) t) t

  eff_taker : ℕ → ℕ → RoundEnd → Round → Round
  eff_taker x a Stands t = t
  eff_taker x a EndWithdrawn t = t
  eff_taker x a (Exchanged j b c) t = cond (eqb j x) (w x (Swapped b a) t) t

  on_one : (x k r : ℕ) (d : SlotDeed) (ps : List Part) (t : Round) → on_entry x r (part k r d ∷ ps) t ≡ on_entry x r ps (w x d t)
  unfolding on_entry
  on_one x k r d ps t = ap (λ b. on_entry x r ps (cond b (w x d t) t)) (same r)

  on_nil : (x r : ℕ) (t : Round) → on_entry x r [] t ≡ t
  unfolding on_entry
  on_nil x r t = refl

  on_cond : (x k r : ℕ) (b : Bool) (d : SlotDeed) (t : Round) → on_entry x r (cond b (part k r d ∷ []) []) t ≡ cond b (w x d t) t
  on_cond x k r true d t = on_one x k r d [] t ∙ on_nil x r (w x d t)
  on_cond x k r false d t = on_nil x r t

  on_poster : (x k r : ℕ) (e : RoundEnd) (t : Round) → on_entry x r (poster_part k r e) t ≡ eff_poster x e t
  unfolding eff_poster
  on_poster x k r Stands t = on_nil x r t
  on_poster x k r EndWithdrawn t = on_one x k r Withdrawn [] t ∙ on_nil x r (w x Withdrawn t)
  on_poster x k r (Exchanged j b c) t = on_cond x k r c (Collected b) t

  on_taker : (x k r a : ℕ) (e : RoundEnd) (t : Round) → on_entry x r (taker_part x k r a e) t ≡ eff_taker x a e t
  unfolding eff_taker
  on_taker x k r a Stands t = on_nil x r t
  on_taker x k r a EndWithdrawn t = on_nil x r t
  on_taker x k r a (Exchanged j b c) t = on_cond x k r (eqb j x) (Swapped b a) t

  eff : ℕ → Round → Round → Round
  eff x rd t = eff_taker x rd.mark rd.end (cond (eqb rd.seat x) (eff_poster x rd.end (w x (Posted rd.mark) t)) t)

  on_parts_in : (x k r : ℕ) (rd : Round) (t : Round) → on_entry x r (parts_in x k r rd) t ≡ eff x rd t
  unfolding eff
  on_parts_in x k r rd t = on_append x r (cond (eqb rd.seat x) (part k r (Posted rd.mark) ∷ poster_part k r rd.end) []) (taker_part x k r rd.mark rd.end) t
      ∙ (on_taker x k r rd.mark rd.end (on_entry x r (cond (eqb rd.seat x) (part k r (Posted rd.mark) ∷ poster_part k r rd.end) []) t) ∙ ap (eff_taker x rd.mark rd.end) (by_poster (eqb rd.seat x))) where
        by_poster : (b : Bool) → on_entry x r (cond b (part k r (Posted rd.mark) ∷ poster_part k r rd.end) []) t ≡ cond b (eff_poster x rd.end (w x (Posted rd.mark) t)) t
        by_poster true = on_one x k r (Posted rd.mark) (poster_part k r rd.end) t ∙ on_poster x k r rd.end (w x (Posted rd.mark) t)
        by_poster false = on_nil x r t

  stays : (k r : ℕ) (rd p : Round) (ls : List (ℕ × List Part)) → ((x : ℕ) → eff x rd p ≡ p) → on_round k r rd ls p ≡ p
  unfolding on_round
  stays k r rd p [] fix = refl
  stays k r rd p (v ∷ ls) fix = ap (on_round k r rd ls) (on_parts_in v.0 k r rd p ∙ fix v.0) ∙ stays k r rd p ls fix

  reaches : (k r y : ℕ) (rd p q : Round) (ls : List (ℕ × List Part)) → ((x : ℕ) → eff x rd q ≡ q) → eff y rd p ≡ q → ((x : ℕ) → x ≢ y → eff x rd p ≡ p) → Among y (firsts ls) → on_round k r rd ls p ≡ q
  unfolding on_round
  reaches k r y rd p q [] fix hit miss a = absurd a
  reaches k r y rd p q (v ∷ ls) fix hit miss a = dite (ℕ_discrete v.0 y)
      (λ e. ap (on_round k r rd ls) (on_parts_in v.0 k r rd p ∙ (ap (λ z. eff z rd p) e ∙ hit)) ∙ stays k r rd q ls fix)
      (λ ne. ap (on_round k r rd ls) (on_parts_in v.0 k r rd p ∙ miss v.0 ne) ∙ reaches k r y rd p q ls fix hit miss (⊎_elim (λ e. absurd (ne e)) (λ b. b) a))

cond_same : (b : Bool) (t : Round) → cond b t t ≡ t
cond_same true t = refl
cond_same false t = refl

-- ## The three sweeps, at one round

abbrev open_end : RoundEnd → RoundEnd
open_end Stands = Stands
open_end EndWithdrawn = EndWithdrawn
open_end (Exchanged j b c) = Exchanged j b false

abbrev TakerAmong : List ℕ → RoundEnd → Type 0
TakerAmong xs Stands = Unit {0}
TakerAmong xs EndWithdrawn = Unit {0}
TakerAmong xs (Exchanged j b c) = Among j xs

poster_posts : (x : ℕ) (e : RoundEnd) (t : Round) → eff_poster posts_in x e t ≡ t
unfolding eff_poster
poster_posts x Stands t = refl
poster_posts x EndWithdrawn t = refl
poster_posts x (Exchanged j b c) t = cond_same c t

taker_posts : (x a : ℕ) (e : RoundEnd) (t : Round) → eff_taker posts_in x a e t ≡ t
unfolding eff_taker
taker_posts x a Stands t = refl
taker_posts x a EndWithdrawn t = refl
taker_posts x a (Exchanged j b c) t = cond_same (eqb j x) t

eff_posts : (x : ℕ) (rd t : Round) → eff posts_in x rd t ≡ cond (eqb rd.seat x) (round_of x rd.mark Stands) t
unfolding eff
eff_posts x rd t = taker_posts x rd.mark rd.end (cond (eqb rd.seat x) (eff_poster posts_in x rd.end (round_of x rd.mark Stands)) t) ∙ ap (λ z. cond (eqb rd.seat x) z t) (poster_posts x rd.end (round_of x rd.mark Stands))

module _ (k r : ℕ) (ls : List (ℕ × List Part)) where
  sweep_posts : (rd : Round) → Among rd.seat (firsts ls) → on_round posts_in k r rd ls blank ≡ round_of rd.seat rd.mark Stands
  sweep_posts rd a = let q = round_of rd.seat rd.mark Stands in reaches posts_in k r rd.seat rd blank q ls
      (λ x. eff_posts x rd q ∙ dite (ℕ_discrete rd.seat x)
      (λ e. ap (λ b. cond b (round_of x rd.mark Stands) q) (eq-eqb rd.seat x e) ∙ ap (λ z. round_of z rd.mark Stands) (sym e))
      (λ ne. ap (λ b. cond b (round_of x rd.mark Stands) q) (ne_eqb rd.seat x ne)))
      (eff_posts rd.seat rd blank ∙ ap (λ b. cond b q blank) (same rd.seat))
      (λ x ne. eff_posts x rd blank ∙ ap (λ b. cond b (round_of x rd.mark Stands) blank) (apart rd.seat x (flip ne)))
      a

  sweep_ends : (s m : ℕ) (e : RoundEnd) → Among s (firsts ls) → TakerAmong (firsts ls) e → on_round ends_in k r (round_of s m e) ls (round_of s m Stands) ≡ round_of s m (open_end e)
  unfolding eff eff_poster eff_taker
  sweep_ends s m Stands a t = stays ends_in k r (round_of s m Stands) (round_of s m Stands) ls (λ x. cond_same (eqb s x) (round_of s m Stands))
  sweep_ends s m EndWithdrawn a t = let p = round_of s m Stands in let q = round_of s m EndWithdrawn in reaches ends_in k r s q p q ls (λ x. cond_same (eqb s x) q) (ap (λ b. cond b q p) (same s)) (λ x ne. ap (λ b. cond b q p) (apart s x (flip ne))) a
  sweep_ends s m (Exchanged j b c) a t = let p = round_of s m Stands in let q = round_of s m (Exchanged j b false) in let rd = round_of s m (Exchanged j b c) in
      let inner = λ (x : ℕ) (z : Round). ap (λ u. cond (eqb s x) u z) (cond_same c z) ∙ cond_same (eqb s x) z in
      let step = λ (x : ℕ) (z : Round). cond (eqb j x) (round_of z.seat z.mark (Exchanged x b false)) z in
      reaches ends_in k r j rd p q ls
      (λ x. ap (step x) (inner x q) ∙ dite (ℕ_discrete j x)
      (λ e. ap (λ f. cond f (round_of s m (Exchanged x b false)) q) (eq-eqb j x e) ∙ ap (λ z. round_of s m (Exchanged z b false)) (sym e))
      (λ ne. ap (λ f. cond f (round_of s m (Exchanged x b false)) q) (ne_eqb j x ne)))
      (ap (step j) (inner j p) ∙ ap (λ f. cond f q p) (same j))
      (λ x ne. ap (step x) (inner x p) ∙ ap (λ f. cond f (round_of s m (Exchanged x b false)) p) (apart j x (flip ne)))
      t

  sweep_collects : (s m : ℕ) (e : RoundEnd) → Among s (firsts ls) → on_round collects_in k r (round_of s m e) ls (round_of s m (open_end e)) ≡ round_of s m e
  unfolding eff eff_poster eff_taker
  sweep_collects s m Stands a = stays collects_in k r (round_of s m Stands) (round_of s m Stands) ls (λ x. cond_same (eqb s x) (round_of s m Stands))
  sweep_collects s m EndWithdrawn a = stays collects_in k r (round_of s m EndWithdrawn) (round_of s m EndWithdrawn) ls (λ x. cond_same (eqb s x) (round_of s m EndWithdrawn))
  sweep_collects s m (Exchanged j b false) a = let p = round_of s m (Exchanged j b false) in stays collects_in k r p p ls (λ x. ap (λ z. cond (eqb j x) z z) (cond_same (eqb s x) p) ∙ cond_same (eqb j x) p)
  sweep_collects s m (Exchanged j b true) a = let p = round_of s m (Exchanged j b false) in let q = round_of s m (Exchanged j b true) in reaches collects_in k r s q p q ls
      (λ x. ap (λ z. cond (eqb j x) z z) (cond_same (eqb s x) q) ∙ cond_same (eqb j x) q)
      (cond_same (eqb j s) (cond (eqb s s) q p) ∙ ap (λ f. cond f q p) (same s))
      (λ x ne. cond_same (eqb j x) (cond (eqb s x) q p) ∙ ap (λ f. cond f q p) (apart s x (flip ne)))
      a

-- ## All three

pub length-firsts : (ls : List (ℕ × List Part)) → length (firsts ls) ≡ length ls
length-firsts [] = refl
length-firsts (v ∷ ls) = ap suc (length-firsts ls)

absent_of : (x : ℕ) (ls : List (ℕ × List Part)) → IsNewList x ls → Absent x (firsts ls)
absent_of x [] n = tt
absent_of x (v ∷ ls) n = (n.0, absent_of x ls n.1)

pub firsts_apart : (n start : ℕ) (rounds : ℕ → List Round) (ls : List (ℕ × List Part)) → AreParts n start rounds ls → AllApart (firsts ls)
firsts_apart n start rounds [] p = tt
firsts_apart n start rounds (v ∷ ls) p = (absent_of v.0 ls p.2, firsts_apart n start rounds ls p.3)

pub firsts_below : (n start : ℕ) (rounds : ℕ → List Round) (ls : List (ℕ × List Part)) → AreParts n start rounds ls → AllBelow n (firsts ls)
firsts_below n start rounds [] p = tt
firsts_below n start rounds (v ∷ ls) p = (p.0, firsts_below n start rounds ls p.3)

played_at : (n i : ℕ) (rds : List Round) → IsHistory n rds → i < length rds → IsPlayed n (get_or rds i blank) (get_or rds i blank).end
played_at n i [] h l = absurd (omega arith)
played_at n zero (x ∷ []) h l = h
played_at n (suc i) (x ∷ []) h l = absurd (omega arith)
played_at n zero (x ∷ y ∷ ys) h l = h.1
played_at n (suc i) (x ∷ y ∷ ys) h l = played_at n i (y ∷ ys) h.2 (omega arith)

pub seat_low : (n : ℕ) (rd : Round) (e : RoundEnd) → IsPlayed n rd e → rd.seat < n
seat_low n rd Stands p = p
seat_low n rd EndWithdrawn p = p
seat_low n rd (Exchanged j b c) p = p.0

taker_among : (n : ℕ) (xs : List ℕ) (rd : Round) (e : RoundEnd) → ((x : ℕ) → x < n → Among x xs) → IsPlayed n rd e → TakerAmong xs e
taker_among n xs rd Stands all p = tt
taker_among n xs rd EndWithdrawn all p = tt
taker_among n xs rd (Exchanged j b c) all p = all j p.1

module _ (n start k count : ℕ) (rounds : ℕ → List Round) (ls : List (ℕ × List Part)) (parts : AreParts n start rounds ls) (many : n ≤ length ls) (history : IsHistory n (rounds k)) (long : count ≡ length (rounds k)) where
  abbrev t0 : List Round
  t0 = replicate count blank

  abbrev t1 : List Round
  t1 = swept posts_in start k ls t0

  abbrev t2 : List Round
  t2 = swept ends_in start k ls t1

  seats : (x : ℕ) → x < n → Among x (firsts ls)
  seats x l = let e = length-firsts ls in all_there n (firsts ls) (firsts_apart n start rounds ls parts) (firsts_below n start rounds ls parts) (omega arith) x l

  rebuilt_at : (i : ℕ) → i < length (rounds k) → get_or (swept collects_in start k ls t2) i blank ≡ get_or (rounds k) i blank
  rebuilt_at i l = let rd = get_or (rounds k) i blank in let l0 : length t0 ≡ count = length-replicate count blank in let l1 : length t1 ≡ length t0 = length-swept posts_in start k ls t0 in let l2 : length t2 ≡ length t1 = length-swept ends_in start k ls t1 in
      let played = played_at n i (rounds k) history l in let among = seats rd.seat (seat_low n rd rd.end played) in
      let e1 : get_or t1 i blank ≡ round_of rd.seat rd.mark Stands = entry_swept posts_in n start k i rounds ls t0 parts (omega arith) l ∙ (ap (on_round posts_in k (start + i) rd ls) (get_or-replicate count i blank blank (omega arith)) ∙ sweep_posts k (start + i) ls rd among) in
      let e2 : get_or t2 i blank ≡ round_of rd.seat rd.mark (open_end rd.end) = entry_swept ends_in n start k i rounds ls t1 parts (omega arith) l
      ∙ (ap (on_round ends_in k (start + i) rd ls) e1 ∙ sweep_ends k (start + i) ls rd.seat rd.mark rd.end among (taker_among n (firsts ls) rd rd.end seats played)) in
      entry_swept collects_in n start k i rounds ls t2 parts (omega arith) l ∙ (ap (on_round collects_in k (start + i) rd ls) e2 ∙ sweep_collects k (start + i) ls rd.seat rd.mark rd.end among)

  pub rebuilt : swept collects_in start k ls t2 ≡ rounds k
  rebuilt = let l0 : length t0 ≡ count = length-replicate count blank in let l1 : length t1 ≡ length t0 = length-swept posts_in start k ls t0 in let l2 : length t2 ≡ length t1 = length-swept ends_in start k ls t1 in
      let l3 : length (swept collects_in start k ls t2) ≡ length t2 = length-swept collects_in start k ls t2 in
      ext_get_or blank (swept collects_in start k ls t2) (rounds k) (omega arith) (λ i l. rebuilt_at i (omega arith))
