-- What a filter leaves of a line, and whom a request meets there.
use Rattle.std.proofs.Common.{◌≡◌, ℕ, suc, ◌-◌, ◌≤◌, refl, sym, ap, ◌∙◌, subst, Bool, true, false, not, cond, if◌then◌else◌, Some, None, is_some, List, [], ◌∷◌, ◌++◌, length, slice_get, filter, Contains, arith, append-nil}
use Rattle.std.proofs.lemmas.Bool.{cond_both, false≢true}
use Rattle.std.proofs.lemmas.List.Elements.{filter-append, All-contains}
use Rattle.std.proofs.lemmas.Option.{slice_get_within}
use Rattle.meet_tickets.specs.declared.lines.Entry.{Entry}
use Rattle.meet_tickets.specs.declared.places.Side.{Side}
use Rattle.meet_tickets.specs.declared.places.Side.TheVariants.{Giver, Taker}
use Rattle.meet_tickets.specs.declared.places.End.{End}
use Rattle.meet_tickets.specs.declared.places.End.TheVariants.{Front, Back}
use Rattle.meet_tickets.specs.Meeting.{is_on, met, partner, kept_count}
use Rattle.meet_tickets.proofs.Line.Keeping.{kept-cons}
use Rattle.meet_tickets.proofs.Lists.Members.{Contains-first, Contains-nil, Contains-unfiltered, Contains-filter, Contains-partner}
use Rattle.meet_tickets.proofs.Line.Sides.{HasOneSide, first-side, met-some, partner-met, partner-other}

-- two filters in either order
pub filter_comm : {X : Type 0} (p q : X → Bool) (xs : List X) → filter p (filter q xs) ≡ filter q (filter p xs)
filter_comm p q [] = refl
filter_comm {X} p q (x ∷ xs) = by_tests (p x) (q x) refl refl (filter_comm p q xs)
  where
    by_tests : (a b : Bool) → p x ≡ a → q x ≡ b → filter p (filter q xs) ≡ filter q (filter p xs) → filter p (cond b (x ∷ filter q xs) (filter q xs)) ≡ filter q (cond a (x ∷ filter p xs) (filter p xs))
    by_tests true true ea eb rest = ap (λ c. cond c (x ∷ filter p (filter q xs)) (filter p (filter q xs))) ea ∙ ap (λ l. x ∷ l) rest ∙ sym (ap (λ c. cond c (x ∷ filter q (filter p xs)) (filter q (filter p xs))) eb)
    by_tests true false ea eb rest = rest ∙ sym (ap (λ c. cond c (x ∷ filter q (filter p xs)) (filter q (filter p xs))) eb)
    by_tests false true ea eb rest = ap (λ c. cond c (x ∷ filter p (filter q xs)) (filter p (filter q xs))) ea ∙ rest
    by_tests false false ea eb rest = rest

-- a filter of what passes anyway
pub filter_drop : {X : Type 0} (p q : X → Bool) → ((x : X) → q x ≡ true → p x ≡ true) → (xs : List X) → filter q (filter p xs) ≡ filter q xs
filter_drop p q h [] = refl
filter_drop {X} p q h (x ∷ xs) = by_tests (p x) (q x) refl refl (filter_drop p q h xs)
  where
    by_tests : (a b : Bool) → p x ≡ a → q x ≡ b → filter q (filter p xs) ≡ filter q xs → filter q (cond a (x ∷ filter p xs) (filter p xs)) ≡ cond b (x ∷ filter q xs) (filter q xs)
    by_tests true true ea eb rest = ap (λ c. cond c (x ∷ filter q (filter p xs)) (filter q (filter p xs))) eb ∙ ap (λ l. x ∷ l) rest
    by_tests true false ea eb rest = ap (λ c. cond c (x ∷ filter q (filter p xs)) (filter q (filter p xs))) eb ∙ rest
    by_tests false true ea eb rest = absurd (false≢true (sym ea ∙ h x eb))
    by_tests false false ea eb rest = rest

-- one element more at the end, that passes or doesn't
pub push_left : {X : Type 0} (q : X → Bool) (xs : List X) (x : X) → q x ≡ true → filter q (xs ++ x ∷ []) ≡ filter q xs ++ x ∷ []
push_left q xs x e = filter-append q xs (x ∷ []) ∙ ap (λ b. filter q xs ++ cond b (x ∷ []) []) e

pub push_erased : {X : Type 0} (q : X → Bool) (xs : List X) (x : X) → q x ≡ false → filter q (xs ++ x ∷ []) ≡ filter q xs
push_erased q xs x e = filter-append q xs (x ∷ []) ∙ ap (λ b. filter q xs ++ cond b (x ∷ []) []) e ∙ append-nil (filter q xs)

-- of less no more is kept
pub kept_fewer : (p : Entry ℕ → Bool) (line : List (Entry ℕ)) → kept_count (filter p line) ≤ kept_count line
kept_fewer p [] = omega arith
kept_fewer p (e ∷ line) =
    let rest = kept_fewer p line in
    let cons = kept-cons e line in
    cond_both (p e) (e ∷ filter p line) (filter p line) (λ l. kept_count l ≤ kept_count (e ∷ line))
    (λ y. (let more = kept-cons e (filter p line) in omega (arith, rest, cons, more))) (λ n. omega (arith, rest, cons))

-- the last of a list with one more in front
last_cons : {X : Type 0} (x : X) (xs : List X) (e : X) → slice_get xs (length xs - 1) ≡ Some e → slice_get (x ∷ xs) (length (x ∷ xs) - 1) ≡ Some e
last_cons x xs e is =
    let some = slice_get_within xs (length xs - 1) e is in
    let next : length (x ∷ xs) - 1 ≡ suc (length xs - 1) = omega arith in
    ap (slice_get (x ∷ xs)) next ∙ is

last_rest : {X : Type 0} (x y : X) (xs : List X) (e : X) → slice_get (x ∷ y ∷ xs) (length (x ∷ y ∷ xs) - 1) ≡ Some e → slice_get (y ∷ xs) (length (y ∷ xs) - 1) ≡ Some e
last_rest x y xs e is =
    let next : length (x ∷ y ∷ xs) - 1 ≡ suc (length (y ∷ xs) - 1) = omega arith in
    sym (ap (slice_get (x ∷ y ∷ xs)) next) ∙ is

-- the last that passes is the last of those that do
last_filter : {X : Type 0} (p : X → Bool) (xs : List X) (e : X) → slice_get xs (length xs - 1) ≡ Some e → p e ≡ true → slice_get (filter p xs) (length (filter p xs) - 1) ≡ Some e
last_filter p [] e is pe = absurd (cc)
last_filter p (x ∷ []) e is pe = let same : x ≡ e = cc in ap (λ b. slice_get (cond b (x ∷ []) []) (length (cond b (x ∷ []) []) - 1)) (ap p same ∙ pe) ∙ is
last_filter {X} p (x ∷ y ∷ xs) e is pe = by_test (p x) (last_filter p (y ∷ xs) e (last_rest x y xs e is) pe)
  where
    by_test : (b : Bool) → slice_get (filter p (y ∷ xs)) (length (filter p (y ∷ xs)) - 1) ≡ Some e → slice_get (cond b (x ∷ filter p (y ∷ xs)) (filter p (y ∷ xs))) (length (cond b (x ∷ filter p (y ∷ xs)) (filter p (y ∷ xs))) - 1) ≡ Some e
    by_test true rest = last_cons x (filter p (y ∷ xs)) e rest
    by_test false rest = rest

-- and so is the one that is met
met_filter : (end : End) (p : Entry ℕ → Bool) (line : List (Entry ℕ)) (e : Entry ℕ) → met end line ≡ Some e → p e ≡ true → met end (filter p line) ≡ Some e
met_filter Front p [] e is pe = absurd (cc)
met_filter Front p (x ∷ line) e is pe = let same : x ≡ e = cc in ap (λ b. slice_get (cond b (x ∷ filter p line) (filter p line)) 0) (ap p same ∙ pe) ∙ is
met_filter Back p line e is pe = last_filter p line e is pe

-- entries of a line of one side are both on a side, or both not
same_on : (side : Side) (e f : Entry ℕ) → is_some e.item ≡ is_some f.item → is_on side e ≡ is_on side f
same_on Giver e f same = same
same_on Taker e f same = ap not same

both_on : (line : List (Entry ℕ)) (side : Side) → HasOneSide line → (e f : Entry ℕ) → Contains line e → Contains line f → is_on side e ≡ is_on side f
both_on [] side one e f m n = absurd (Contains-nil e m)
both_on (x ∷ line) side one e f m n =
    let sides = first-side x line one in
    sym (same_on side x e (All-contains (λ g. is_some x.item ≡ is_some g.item) (x ∷ line) e sides m)) ∙ same_on side x f (All-contains (λ g. is_some x.item ≡ is_some g.item) (x ∷ line) f sides n)

-- nobody is met where all stand on the request's side, and the other way round
alone_on : (end : End) (line : List (Entry ℕ)) (side : Side) → HasOneSide line → partner end line side ≡ None → (f : Entry ℕ) → Contains line f → is_on side f ≡ true
alone_on end [] side one alone f m = absurd (Contains-nil f m)
alone_on end (x ∷ line) side one alone f m = by_test (is_on side x) refl alone
  where
    by_test : (b : Bool) → is_on side x ≡ b → cond b None (met end (x ∷ line)) ≡ None → is_on side f ≡ true
    by_test true e a = sym (both_on (x ∷ line) side one x f (Contains-first x line) m) ∙ e
    by_test false e a = absurd (met-some end x line a)

on_alone : (end : End) (line : List (Entry ℕ)) (side : Side) → ((f : Entry ℕ) → Contains line f → is_on side f ≡ true) → partner end line side ≡ None
on_alone end [] side all = refl
on_alone end (x ∷ line) side all = ap (λ b. if b then None else met end (x ∷ line)) (all x (Contains-first x line))

-- so nobody is met in a part of the line
pub alone_filter : (end : End) (p : Entry ℕ → Bool) (line : List (Entry ℕ)) (side : Side) → HasOneSide line → partner end line side ≡ None → partner end (filter p line) side ≡ None
alone_filter end p line side one alone = on_alone end (filter p line) side (λ f m. alone_on end line side one alone f (Contains-unfiltered p line f m))

-- and a partner that stays is met still
pub partner_filter : (end : End) (p : Entry ℕ → Bool) (line : List (Entry ℕ)) (side : Side) (e : Entry ℕ) → HasOneSide line → partner end line side ≡ Some e → p e ≡ true → partner end (filter p line) side ≡ Some e
partner_filter end p line side e one is pe = by_line (filter p line) refl
  where
    by_line : (l : List (Entry ℕ)) → filter p line ≡ l → partner end l side ≡ Some e
    by_line [] f = absurd (Contains-nil e (subst (λ y. Contains y e) f (Contains-filter p line e (Contains-partner end line side e is) pe)))
    by_line (x ∷ l) f = ap (λ b. if b then None else met end (x ∷ l)) off ∙ ap (met end) (sym f) ∙ met_filter end p line e (partner-met end line side e is) pe
      where
        there : Contains line x
        there = Contains-unfiltered p line x (subst (λ y. Contains y x) (sym f) (Contains-first x l))

        off : is_on side x ≡ false
        off = both_on line side one x e there (Contains-partner end line side e is) ∙ partner-other end line side e one is
