-- How many givers stand in a line of one side.
use Rattle.std.proofs.Common.{◌≡◌, ◌≢◌, ℕ, ◌+◌, ◌-◌, ◌<◌, refl, sym, ap, ◌∙◌, Bool, true, false, cond, not, Option, Some, None, is_some, is_none, subst, List, [], ◌∷◌, ◌++◌, ◌==◌, find, length, length-take, arith}
use Rattle.std.specs.Prelude.{All, ◌↔◌, IsTrue}
use Rattle.std.proofs.lemmas.Bool.{eqb-true, eqb-false}
use Rattle.std.proofs.Math.Path.{ap₂}
use Rattle.std.proofs.lemmas.List.Sums.{sum_by-cons}
use Rattle.std.proofs.lemmas.List.Elements.{All-head, All-tail}
use Rattle.meet_tickets.specs.declared.lines.Entry.{Entry}
use Rattle.meet_tickets.specs.declared.places.Side.{Side}
use Rattle.meet_tickets.specs.declared.places.Side.TheVariants.{Giver, Taker}
use Rattle.meet_tickets.specs.declared.places.End.{End}
use Rattle.meet_tickets.specs.declared.places.End.TheVariants.{Front, Back}
use Rattle.meet_tickets.specs.Meeting.{is_on, met, partner, count_on}
use Rattle.meet_tickets.specs.BySeat.{unmet, without_first}
use Rattle.meet_tickets.proofs.Line.Sides.{HasOneSide, All-unmet, first-side, met-some, partner-met, partner-other}
use Rattle.meet_tickets.proofs.Lists.Changed.{count-push}
use Rattle.meet_tickets.proofs.Lists.Tally.{count-met, count-found}

-- where all entries are givers, or none is, all are counted, or none
count-same : {X : Type 0} (own : Bool) (line : List (Entry X)) → All (λ f. own ≡ is_some f.item) line → count_on Giver line ≡ cond own (length line) 0
count-same true [] all = refl
count-same false [] all = refl
count-same true (e ∷ line) all =
    let more : count_on Giver line ≡ length line = count-same true line (All-tail (λ f. true ≡ is_some f.item) e line all) in
    sum_by-cons (λ f. cond (is_on Giver f) 1 0) e line ∙ ap₂ ◌+◌ (ap (λ b. cond b 1 0) (sym (All-head (λ f. true ≡ is_some f.item) e line all))) more ∙ omega arith
count-same false (e ∷ line) all =
    sum_by-cons (λ f. cond (is_on Giver f) 1 0) e line ∙ ap₂ ◌+◌ (ap (λ b. cond b 1 0) (sym (All-head (λ f. false ≡ is_some f.item) e line all))) (count-same false line (All-tail (λ f. false ≡ is_some f.item) e line all))

-- the first tells
all_of : {X : Type 0} (own : Bool) (e : Entry X) (line : List (Entry X)) → HasOneSide (e ∷ line) → is_some e.item ≡ own → All (λ f. own ≡ is_some f.item) (e ∷ line)
all_of own e line one is = subst (λ b. All (λ f. b ≡ is_some f.item) (e ∷ line)) is (first-side e line one)

-- each entry is a giver or a taker
pub sides-counted : {X : Type 0} (line : List (Entry X)) → count_on Giver line + count_on Taker line ≡ length line
sides-counted [] = refl
sides-counted {X} (e ∷ line) =
    let rest : count_on Giver line + count_on Taker line ≡ length line = sides-counted line in
    let giver : count_on Giver (e ∷ line) ≡ cond (is_on Giver e) 1 0 + count_on Giver line = sum_by-cons (λ f. cond (is_on Giver f) 1 0) e line in
    let taker : count_on Taker (e ∷ line) ≡ cond (is_on Taker e) 1 0 + count_on Taker line = sum_by-cons (λ f. cond (is_on Taker f) 1 0) e line in
    let either : cond (is_on Giver e) 1 0 + cond (is_on Taker e) 1 0 ≡ 1 = by_item e.item in
    omega (arith, rest, giver, taker, either)
  where
    by_item : (o : Option X) → ◌≡◌ {A = ℕ} (cond (is_some o) 1 0 + cond (is_none o) 1 0) 1
    by_item None = refl
    by_item (Some x) = refl

-- one leaves
length-unmet : {X : Type 0} (end : End) (e : Entry X) (line : List (Entry X)) → length (unmet end (e ∷ line)) + 1 ≡ length (e ∷ line)
length-unmet Front e line = omega arith
length-unmet Back e line = omega (arith, length-take (length (e ∷ line) - 1) (e ∷ line))

-- a line with a giver has a partner for a taker, who leaves one giver less
pub record HasGiver {X : Type 0} (end : End) (line : List (Entry X)) : Type 0 where
  pub giver : Entry X
  pub met : partner end line Taker ≡ Some giver
  pub fewer : count_on Giver (unmet end line) + 1 ≡ count_on Giver line

-- in a line that isn't empty one is met
met-there : {X : Type 0} (end : End) (e : Entry X) (line : List (Entry X)) (o : Option (Entry X)) → met end (e ∷ line) ≡ o → (giver : Entry X) × (o ≡ Some giver)
met-there end e line None is = absurd (met-some end e line is)
met-there end e line (Some giver) is = (giver, refl)

pub giver-there : {X : Type 0} (end : End) (line : List (Entry X)) → HasOneSide line → 0 < count_on Giver line → HasGiver end line
giver-there end [] one some = absurd (omega arith)
giver-there {X} end (e ∷ line) one some = by_side (is_some e.item) refl
  where
    by_side : (own : Bool) → is_some e.item ≡ own → HasGiver end (e ∷ line)
    by_side false is = absurd (let none : count_on Giver (e ∷ line) ≡ 0 = count-same false (e ∷ line) (all_of false e line one is) in omega arith)
    by_side true is =
        let found = met-there end e line (met end (e ∷ line)) refl in
        let left : count_on Giver (unmet end (e ∷ line)) ≡ length (unmet end (e ∷ line)) = count-same true (unmet end (e ∷ line)) (All-unmet (λ f. true ≡ is_some f.item) end (e ∷ line) (all_of true e line one is)) in
        let before : count_on Giver (e ∷ line) ≡ length (e ∷ line) = count-same true (e ∷ line) (all_of true e line one is) in
        let less : length (unmet end (e ∷ line)) + 1 ≡ length (e ∷ line) = length-unmet end e line in
        record {
          giver = found.0;
          met = ap (λ b. cond (not b) None (met end (e ∷ line))) is ∙ found.1;
          fewer = omega (arith, left, before, less);
        }

-- where only givers stand, or nobody, a giver meets nobody; where a taker stands, it meets who is met there
pub giver-alone : {X : Type 0} (end : End) (line : List (Entry X)) → HasOneSide line → count_on Giver line ≡ length line → partner end line Giver ≡ None
giver-alone end [] one all = refl
giver-alone {X} end (e ∷ line) one all = by_side (is_some e.item) refl
  where
    by_side : (own : Bool) → is_some e.item ≡ own → cond (is_some e.item) None (met end (e ∷ line)) ≡ None
    by_side true is = ap (λ b. cond b None (met end (e ∷ line))) is
    by_side false is = absurd (let none : count_on Giver (e ∷ line) ≡ 0 = count-same false (e ∷ line) (all_of false e line one is) in omega (arith, none, all))

pub giver-meets : {X : Type 0} (end : End) (line : List (Entry X)) → HasOneSide line → length line ≢ count_on Giver line → partner end line Giver ≡ met end line
giver-meets end [] one few = absurd (few refl)
giver-meets {X} end (e ∷ line) one few = by_side (is_some e.item) refl
  where
    by_side : (own : Bool) → is_some e.item ≡ own → cond (is_some e.item) None (met end (e ∷ line)) ≡ met end (e ∷ line)
    by_side true is = absurd (few (sym (count-same true (e ∷ line) (all_of true e line one is))))
    by_side false is = ap (λ b. cond b None (met end (e ∷ line))) is

-- where no giver stands, a taker meets nobody; else it meets who is met there
pub taker-alone : {X : Type 0} (end : End) (line : List (Entry X)) → HasOneSide line → count_on Giver line ≡ 0 → partner end line Taker ≡ None
taker-alone end [] one none = refl
taker-alone {X} end (e ∷ line) one none = by_side (is_some e.item) refl
  where
    by_side : (own : Bool) → is_some e.item ≡ own → cond (not (is_some e.item)) None (met end (e ∷ line)) ≡ None
    by_side true is = absurd (let all : count_on Giver (e ∷ line) ≡ length (e ∷ line) = count-same true (e ∷ line) (all_of true e line one is) in omega (arith, all, none))
    by_side false is = ap (λ b. cond (not b) None (met end (e ∷ line))) is

pub taker-meets : {X : Type 0} (end : End) (line : List (Entry X)) → HasOneSide line → count_on Giver line ≢ 0 → partner end line Taker ≡ met end line
taker-meets end [] one some = absurd (some refl)
taker-meets {X} end (e ∷ line) one some = by_side (is_some e.item) refl
  where
    by_side : (own : Bool) → is_some e.item ≡ own → cond (not (is_some e.item)) None (met end (e ∷ line)) ≡ met end (e ∷ line)
    by_side true is = ap (λ b. cond (not b) None (met end (e ∷ line))) is
    by_side false is = absurd (some (count-same false (e ∷ line) (all_of false e line one is)))

-- so the counts tell whether one meets nobody
pub giver-told : {X : Type 0} (end : End) (line : List (Entry X)) (entries givers : ℕ) → HasOneSide line → entries ≡ length line → givers ≡ count_on Giver line → IsTrue (entries == givers) ↔ (partner end line Giver ≡ None)
giver-told {X} end line entries givers one long own = (λ all. giver-alone end line one (sym own ∙ sym (eqb-true entries givers all) ∙ long), by_test (entries == givers) refl)
  where
    finds : (line : List (Entry X)) → HasOneSide line → length line ≢ count_on Giver line → partner end line Giver ≢ None
    finds [] one few none = few refl
    finds (e ∷ line) one few none = met-some end e line (sym (giver-meets end (e ∷ line) one few) ∙ none)

    by_test : (b : Bool) → (entries == givers) ≡ b → partner end line Giver ≡ None → IsTrue b
    by_test true is none = refl
    by_test false is none = absurd (finds line one (λ all. eqb-false entries givers is (long ∙ all ∙ sym own)) none)

pub taker-told : {X : Type 0} (end : End) (line : List (Entry X)) (givers : ℕ) → HasOneSide line → givers ≡ count_on Giver line → IsTrue (givers == 0) ↔ (partner end line Taker ≡ None)
taker-told {X} end line givers one own = (λ none. taker-alone end line one (sym own ∙ eqb-true givers 0 none), by_test (givers == 0) refl)
  where
    finds : (line : List (Entry X)) → HasOneSide line → count_on Giver line ≢ 0 → partner end line Taker ≢ None
    finds [] one some none = some refl
    finds (e ∷ line) one some none = met-some end e line (sym (taker-meets end (e ∷ line) one some) ∙ none)

    by_test : (b : Bool) → (givers == 0) ≡ b → partner end line Taker ≡ None → IsTrue b
    by_test true is none = refl
    by_test false is none = absurd (finds line one (λ no. eqb-false givers 0 is (own ∙ no)) none)

-- a giver counts for one, a taker for none, as one comes and as one leaves
pub giver-joins : {X : Type 0} (line line' : List (Entry X)) (e : Entry X) → line' ≡ line ++ e ∷ [] → count_on Giver line' ≡ count_on Giver line + cond (is_some e.item) 1 0
giver-joins line line' e is = ap (count_on Giver) is ∙ count-push (is_on Giver) line e

pub giver-leaves : {X : Type 0} (end : End) (line line' : List (Entry X)) (side : Side) (e : Entry X) → partner end line side ≡ Some e → line' ≡ unmet end line → count_on Giver line' + cond (is_some e.item) 1 0 ≡ count_on Giver line
giver-leaves end line line' side e found is = ap (λ l. count_on Giver l + cond (is_some e.item) 1 0) is ∙ count-met (is_on Giver) end line e (partner-met end line side e found)

-- whom a giver meets is a taker
pub givers-stay : {X : Type 0} (end : End) (line line' : List (Entry X)) (e : Entry X) → HasOneSide line → partner end line Giver ≡ Some e → line' ≡ unmet end line → count_on Giver line' ≡ count_on Giver line
givers-stay end line line' e one found is =
    let none : ◌≡◌ {A = ℕ} (cond (is_some e.item) 1 0) 0 = ap (λ b. cond b 1 0) (partner-other end line Giver e one found) in
    omega (arith, giver-leaves end line line' Giver e found is, none)

-- and whom a taker meets a giver
pub giver-fetched : {X : Type 0} (end : End) (line line' : List (Entry X)) (e : Entry X) → HasOneSide line → partner end line Taker ≡ Some e → line' ≡ unmet end line → count_on Giver line' + 1 ≡ count_on Giver line
giver-fetched end line line' e one found is =
    let gives : ◌≡◌ {A = ℕ} (cond (is_some e.item) 1 0) 1 = by_side (is_some e.item) (partner-other end line Taker e one found) in
    omega (arith, giver-leaves end line line' Taker e found is, gives)
  where
    by_side : (own : Bool) → not own ≡ false → ◌≡◌ {A = ℕ} (cond own 1 0) 1
    by_side true is = refl
    by_side false is = cc

pub giver-removed : {X : Type 0} (t : ℕ) (line line' : List (Entry X)) (e : Entry X) → find (λ f. f.ticket == t) line ≡ Some e → line' ≡ without_first (λ f. f.ticket == t) line → count_on Giver line' + cond (is_some e.item) 1 0 ≡ count_on Giver line
giver-removed t line line' e found is = ap (λ l. count_on Giver l + cond (is_some e.item) 1 0) is ∙ count-found (is_on Giver) t line e found
