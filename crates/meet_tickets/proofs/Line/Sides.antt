-- A line keeps to one side, whoever leaves it; whom a request meets, in every order.
use Rattle.std.proofs.Common.{◌≡◌, ℕ, zero, suc, ◌-◌, ◌==◌, refl, sym, ◌∙◌, ap, subst, Bool, true, false, cond, not, Option, Some, None, is_some, List, [], ◌∷◌, ◌++◌, length, get_or, take, drop, slice_get, find, All, AllPairs, arith}
use Rattle.std.proofs.lemmas.Bool.{cond_both, eqb-true}
use Rattle.std.proofs.lemmas.List.Elements.{All-nil, All-cons, All-head, All-tail, All-take, All-drop, All-weaker}
use Rattle.std.proofs.lemmas.List.Kept.{AllPairs-cons}
use Rattle.std.proofs.lemmas.List.Quantifiers.{all_pairs_push}
use Rattle.std.proofs.lemmas.Option.{slice_get-get_or, slice_get_within, get_or_from_slice_get}
use Rattle.meet_tickets.specs.declared.lines.Entry.{Entry}
use Rattle.meet_tickets.specs.declared.places.Side.{Side}
use Rattle.meet_tickets.specs.declared.places.Side.TheVariants.{Giver, Taker}
use Rattle.meet_tickets.specs.declared.places.End.{End}
use Rattle.meet_tickets.specs.declared.places.End.TheVariants.{Front, Back}
use Rattle.meet_tickets.specs.Meeting.{is_on, met, partner}
use Rattle.meet_tickets.specs.BySeat.{unmet, without_first}

-- a line has one side: givers only, or takers only (Scherer and Scott 2004)
abbrev pub HasOneSide : {X : Type 0} → List (Entry X) → Type 0
HasOneSide line = AllPairs (λ e f. is_some e.item ≡ is_some f.item) line

-- what holds of all holds of one that is read
All-read : {X : Type 0} (P : X → Type 0) (xs : List X) (k : ℕ) (x : X) → All P xs → slice_get xs k ≡ Some x → P x
All-read P xs k x all e = subst P (get_or_from_slice_get xs k x x e) (all k x (slice_get_within xs k x e))

-- the first is related to the rest
pub AllPairs-head : {X : Type 0} (R : X → X → Type 0) (x : X) (xs : List X) → AllPairs R (x ∷ xs) → All (R x) xs
AllPairs-head R x xs pairs = λ k d below. pairs 0 (suc k) d (omega arith) (omega arith)

pub AllPairs-tail : {X : Type 0} (R : X → X → Type 0) (x : X) (xs : List X) → AllPairs R (x ∷ xs) → AllPairs R xs
AllPairs-tail R x xs pairs = λ i j d i<j below. pairs (suc i) (suc j) d (omega arith) (omega arith)

AllPairs-drop : {X : Type 0} (R : X → X → Type 0) (xs : List X) → AllPairs R xs → AllPairs R (drop 1 xs)
AllPairs-drop R [] pairs = pairs
AllPairs-drop R (x ∷ xs) pairs = AllPairs-tail R x xs pairs

AllPairs-take : {X : Type 0} (R : X → X → Type 0) (n : ℕ) (xs : List X) → AllPairs R xs → AllPairs R (take n xs)
AllPairs-take R zero xs pairs = λ i j d i<j below. absurd (omega arith)
AllPairs-take R (suc n) [] pairs = pairs
AllPairs-take R (suc n) (x ∷ xs) pairs =
    AllPairs-cons R x (take n xs) (All-take (R x) n xs (AllPairs-head R x xs pairs)) (AllPairs-take R n xs (AllPairs-tail R x xs pairs))

-- what holds of a line holds of what is left of it
pub All-unmet : {X : Type 0} (P : Entry X → Type 0) (end : End) (line : List (Entry X)) → All P line → All P (unmet end line)
All-unmet P Front line all = All-drop P 1 line all
All-unmet P Back line all = All-take P (length line - 1) line all

pub All-without_first : {X : Type 0} (P : Entry X → Type 0) (t : ℕ) (line : List (Entry X)) → All P line → All P (without_first (λ f. f.ticket == t) line)
All-without_first P t [] all = all
All-without_first P t (e ∷ line) all =
    cond_both (e.ticket == t) line (e ∷ without_first (λ f. f.ticket == t) line) (All P)
    (λ _. All-tail P e line all)
    (λ _. All-cons P e (without_first (λ f. f.ticket == t) line) (All-head P e line all) (All-without_first P t line (All-tail P e line all)))

pub AllPairs-unmet : {X : Type 0} (R : Entry X → Entry X → Type 0) (end : End) (line : List (Entry X)) → AllPairs R line → AllPairs R (unmet end line)
AllPairs-unmet R Front line pairs = AllPairs-drop R line pairs
AllPairs-unmet R Back line pairs = AllPairs-take R (length line - 1) line pairs

pub AllPairs-without_first : {X : Type 0} (R : Entry X → Entry X → Type 0) (t : ℕ) (line : List (Entry X)) → AllPairs R line → AllPairs R (without_first (λ f. f.ticket == t) line)
AllPairs-without_first R t [] pairs = pairs
AllPairs-without_first R t (e ∷ line) pairs =
    cond_both (e.ticket == t) line (e ∷ without_first (λ f. f.ticket == t) line) (AllPairs R)
    (λ _. AllPairs-tail R e line pairs)
    (λ _. AllPairs-cons R e (without_first (λ f. f.ticket == t) line) (All-without_first (R e) t line (AllPairs-head R e line pairs)) (AllPairs-without_first R t line (AllPairs-tail R e line pairs)))

-- the entry that is met stands in the line
met-there : {X : Type 0} (P : Entry X → Type 0) (end : End) (line : List (Entry X)) (e : Entry X) → All P line → met end line ≡ Some e → P e
met-there P Front line e all is = All-read P line 0 e all is
met-there P Back line e all is = All-read P line (length line - 1) e all is

-- in a line that isn't empty one is met
pub met-some : {X : Type 0} (end : End) (x : Entry X) (line : List (Entry X)) → met end (x ∷ line) ≡ None → ⊥
met-some Front x line none = cc
met-some Back x line none =
    let last : slice_get (x ∷ line) (length (x ∷ line) - 1) ≡ Some (get_or (x ∷ line) (length (x ∷ line) - 1) x) = slice_get-get_or (x ∷ line) (length (x ∷ line) - 1) x (omega arith) in
    cc

-- one is met where the first is on the other side
other_side : {A : Type 0} (own : Bool) (o : Option A) (e : A) → cond own None o ≡ Some e → (own ≡ false) × (o ≡ Some e)
other_side true o e found = cc
other_side false o e found = (refl, found)

-- where none is met, the first is on its own side
own_side : {A : Type 0} (own : Bool) (o : Option A) → (o ≡ None → ⊥) → cond own None o ≡ None → own ≡ true
own_side true o some none = refl
own_side false o some none = absurd (some none)

-- the partner is the entry that is met
pub partner-met : {X : Type 0} (end : End) (line : List (Entry X)) (side : Side) (e : Entry X) → partner end line side ≡ Some e → met end line ≡ Some e
partner-met end [] side e found = cc
partner-met end (x ∷ line) side e found = (other_side (is_on side x) (met end (x ∷ line)) e found).1

-- the partner stands in the line: what holds of all holds of it
pub partner-there : {X : Type 0} (P : Entry X → Type 0) (end : End) (line : List (Entry X)) (side : Side) (e : Entry X) → All P line → partner end line side ≡ Some e → P e
partner-there P end line side e all found = met-there P end line e all (partner-met end line side e found)

-- entries of one side are both on this side, or both not
same_side : {X : Type 0} (side : Side) (e f : Entry X) → is_some e.item ≡ is_some f.item → is_on side e ≡ is_on side f
same_side Giver e f same = same
same_side Taker e f same = ap not same

-- and the other way round
same_item : {X : Type 0} (side : Side) (e f : Entry X) → is_on side e ≡ is_on side f → is_some e.item ≡ is_some f.item
same_item Giver e f same = same
same_item Taker e f same = not_same (is_some e.item) (is_some f.item) same
  where
    not_same : (a b : Bool) → not a ≡ not b → a ≡ b
    not_same true true same = refl
    not_same true false same = cc
    not_same false true same = cc
    not_same false false same = refl

-- the entries of a line have its first's side
pub first-side : {X : Type 0} (x : Entry X) (line : List (Entry X)) → HasOneSide (x ∷ line) → All (λ f. is_some x.item ≡ is_some f.item) (x ∷ line)
first-side x line one = All-cons (λ f. is_some x.item ≡ is_some f.item) x line refl (AllPairs-head (λ e f. is_some e.item ≡ is_some f.item) x line one)

-- the partner stands on the other side
pub partner-other : {X : Type 0} (end : End) (line : List (Entry X)) (side : Side) (e : Entry X) → HasOneSide line → partner end line side ≡ Some e → is_on side e ≡ false
partner-other end [] side e one found = cc
partner-other end (x ∷ line) side e one found =
    let met_is : (is_on side x ≡ false) × (met end (x ∷ line) ≡ Some e) = other_side (is_on side x) (met end (x ∷ line)) e found in
    let same : is_some x.item ≡ is_some e.item = met-there (λ f. is_some x.item ≡ is_some f.item) end (x ∷ line) e (first-side x line one) met_is.1 in
    sym (same_side side x e same) ∙ met_is.0

-- what is left of a line of one side has one side
pub HasOneSide-unmet : {X : Type 0} (end : End) (line : List (Entry X)) → HasOneSide line → HasOneSide (unmet end line)
HasOneSide-unmet end line one = AllPairs-unmet (λ e f. is_some e.item ≡ is_some f.item) end line one

pub HasOneSide-without_first : {X : Type 0} (t : ℕ) (line : List (Entry X)) → HasOneSide line → HasOneSide (without_first (λ f. f.ticket == t) line)
HasOneSide-without_first t line one = AllPairs-without_first (λ e f. is_some e.item ≡ is_some f.item) t line one

-- a request without a partner finds entries of its own side only
pub alone-same : {X : Type 0} (end : End) (line : List (Entry X)) (side : Side) (e : Entry X) → HasOneSide line → partner end line side ≡ None → is_on side e ≡ true → All (λ f. is_some f.item ≡ is_some e.item) line
alone-same end [] side e one alone on = All-nil (λ f. is_some f.item ≡ is_some e.item)
alone-same end (x ∷ line) side e one alone on =
    let same : is_some x.item ≡ is_some e.item = same_item side x e (own_side (is_on side x) (met end (x ∷ line)) (met-some end x line) alone ∙ sym on) in
    All-weaker (λ f. is_some x.item ≡ is_some f.item) (λ f. is_some f.item ≡ is_some e.item) (λ f first. sym first ∙ same) (x ∷ line) (first-side x line one)

-- its entry at the line's end leaves the line of one side
pub HasOneSide-added : {X : Type 0} (end : End) (line : List (Entry X)) (side : Side) (e : Entry X) → HasOneSide line → partner end line side ≡ None → is_on side e ≡ true → HasOneSide (line ++ e ∷ [])
HasOneSide-added end line side e one alone on =
    all_pairs_push (λ f g. is_some f.item ≡ is_some g.item) line e one (alone-same end line side e one alone on)

-- the first of a line is related to the rest
first-apart : {X : Type 0} (R : Entry X → Entry X → Type 0) (line : List (Entry X)) (e : Entry X) → AllPairs R line → slice_get line 0 ≡ Some e → All (λ f. R e f) (drop 1 line)
first-apart R [] e pairs is = cc
first-apart R (x ∷ line) e pairs is = let same : x ≡ e = cc in subst (λ y. All (λ f. R y f) line) same (AllPairs-head R x line pairs)

-- the last of a line is related to those before it
last-apart : {X : Type 0} (R : Entry X → Entry X → Type 0) (n : ℕ) (line : List (Entry X)) (e : Entry X) → AllPairs R line → slice_get line n ≡ Some e → ((x y : Entry X) → R x y → R y x) → All (λ f. R e f) (take n line)
last-apart R zero line e pairs is turn = All-nil (λ f. R e f)
last-apart R (suc n) [] e pairs is turn = cc
last-apart R (suc n) (x ∷ line) e pairs is turn =
    All-cons (λ f. R e f) x (take n line) (turn x e (All-read (R x) line n e (AllPairs-head R x line pairs) is)) (last-apart R n line e (AllPairs-tail R x line pairs) is turn)

-- what is left is related to the one that was met
pub met-apart : {X : Type 0} (R : Entry X → Entry X → Type 0) (end : End) (line : List (Entry X)) (e : Entry X) → AllPairs R line → met end line ≡ Some e → ((x y : Entry X) → R x y → R y x) → All (λ f. R e f) (unmet end line)
met-apart R Front line e pairs is turn = first-apart R line e pairs is
met-apart R Back line e pairs is turn = last-apart R (length line - 1) line e pairs is turn

-- what is found by its ticket has it
pub found-ticket : {X : Type 0} (t : ℕ) (line : List (Entry X)) (e : Entry X) → find (λ f. f.ticket == t) line ≡ Some e → e.ticket ≡ t
found-ticket t [] e found = cc
found-ticket {X} t (x ∷ line) e found = by_test (x.ticket == t) refl (found-ticket t line e) found
  where
    by_test : (b : Bool) → (x.ticket == t) ≡ b → (find (λ f. f.ticket == t) line ≡ Some e → e.ticket ≡ t) → cond b (Some x) (find (λ f. f.ticket == t) line) ≡ Some e → e.ticket ≡ t
    by_test true is rest found = let same : x ≡ e = cc in ap (λ (f : Entry X). f.ticket) (sym same) ∙ eqb-true x.ticket t is
    by_test false is rest found = rest found

-- and stands in the line
pub found-there : {X : Type 0} (P : Entry X → Type 0) (t : ℕ) (line : List (Entry X)) (e : Entry X) → All P line → find (λ f. f.ticket == t) line ≡ Some e → P e
found-there P t [] e all found = cc
found-there P t (x ∷ line) e all found = by_test (x.ticket == t) (found-there P t line e (All-tail P x line all)) found
  where
    by_test : (b : Bool) → (find (λ f. f.ticket == t) line ≡ Some e → P e) → cond b (Some x) (find (λ f. f.ticket == t) line) ≡ Some e → P e
    by_test true rest found = let same : x ≡ e = cc in subst P same (All-head P x line all)
    by_test false rest found = rest found

-- what is left without it is related to it
pub found-apart : {X : Type 0} (R : Entry X → Entry X → Type 0) (t : ℕ) (line : List (Entry X)) (e : Entry X) → AllPairs R line → ((x y : Entry X) → R x y → R y x) → find (λ f. f.ticket == t) line ≡ Some e → All (λ f. R e f) (without_first (λ f. f.ticket == t) line)
found-apart R t [] e pairs turn found = cc
found-apart R t (x ∷ line) e pairs turn found =
    by_test (x.ticket == t) (found-apart R t line e (AllPairs-tail R x line pairs) turn) found
  where
    by_test : (b : Bool) → (find (λ f. f.ticket == t) line ≡ Some e → All (λ f. R e f) (without_first (λ f. f.ticket == t) line)) → cond b (Some x) (find (λ f. f.ticket == t) line) ≡ Some e → All (λ f. R e f) (cond b line (x ∷ without_first (λ f. f.ticket == t) line))
    by_test true rest found = let same : x ≡ e = cc in subst (λ y. All (λ f. R y f) line) same (AllPairs-head R x line pairs)
    by_test false rest found =
        All-cons (λ f. R e f) x (without_first (λ f. f.ticket == t) line) (turn x e (found-there (R x) t line e (AllPairs-head R x line pairs) found)) (rest found)
