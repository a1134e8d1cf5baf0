-- How a count of a line's entries changes as one leaves.
use Rattle.std.proofs.Common.{◌≡◌, ℕ, zero, suc, ◌+◌, ◌-◌, ◌==◌, refl, sym, ap, ◌∙◌, Bool, true, false, cond, Some, List, [], ◌∷◌, length, take, drop, slice_get, find, arith}
use Rattle.std.specs.Prelude.{count_by}
use Rattle.meet_tickets.specs.declared.lines.Entry.{Entry}
use Rattle.meet_tickets.specs.declared.places.End.{End}
use Rattle.meet_tickets.specs.declared.places.End.TheVariants.{Front, Back}
use Rattle.meet_tickets.specs.Meeting.{met}
use Rattle.meet_tickets.specs.BySeat.{unmet, without_first}
use Rattle.meet_tickets.proofs.Lists.Changed.{one, count-cons}

-- the first leaves
count-first : {X : Type 0} (p : Entry X → Bool) (line : List (Entry X)) (e : Entry X) → slice_get line 0 ≡ Some e → count_by p (drop 1 line) + one (p e) ≡ count_by p line
count-first p [] e is = cc
count-first p (x ∷ line) e is =
    let same : x ≡ e = cc in
    let own : one (p x) ≡ one (p e) = ap (λ f. one (p f)) same in
    omega (arith, count-cons p x line, own)

-- the last leaves
count-last : {X : Type 0} (p : Entry X → Bool) (n : ℕ) (line : List (Entry X)) (e : Entry X) → slice_get line n ≡ Some e → length line ≡ suc n → count_by p (take n line) + one (p e) ≡ count_by p line
count-last p n [] e is long = cc
count-last p zero (x ∷ []) e is long =
    let same : x ≡ e = cc in
    let own : one (p x) ≡ one (p e) = ap (λ f. one (p f)) same in
    omega (arith, count-cons p x [], own)
count-last p zero (x ∷ y ∷ line) e is long = absurd (omega arith)
count-last p (suc n) (x ∷ line) e is long =
    let rest : count_by p (take n line) + one (p e) ≡ count_by p line = count-last p n line e is (omega arith) in
    omega (arith, rest, count-cons p x line, count-cons p x (take n line))

-- the one that is met leaves
pub count-met : {X : Type 0} (p : Entry X → Bool) (end : End) (line : List (Entry X)) (e : Entry X) → met end line ≡ Some e → count_by p (unmet end line) + one (p e) ≡ count_by p line
count-met p Front line e is = count-first p line e is
count-met p Back [] e is = cc
count-met p Back (x ∷ line) e is =
    let before : length (x ∷ line) - 1 ≡ length line = omega arith in
    ap (λ n. count_by p (take n (x ∷ line)) + one (p e)) before ∙ count-last p (length line) (x ∷ line) e (ap (λ n. slice_get (x ∷ line) n) (sym before) ∙ is) refl

-- the one of a ticket leaves
pub count-found : {X : Type 0} (p : Entry X → Bool) (t : ℕ) (line : List (Entry X)) (e : Entry X) → find (λ f. f.ticket == t) line ≡ Some e → count_by p (without_first (λ f. f.ticket == t) line) + one (p e) ≡ count_by p line
count-found p t [] e is = cc
count-found {X} p t (x ∷ line) e is = by_test (x.ticket == t) (count-found p t line e) is
  where
    by_test : (b : Bool) → (find (λ f. f.ticket == t) line ≡ Some e → count_by p (without_first (λ f. f.ticket == t) line) + one (p e) ≡ count_by p line) → cond b (Some x) (find (λ f. f.ticket == t) line) ≡ Some e → count_by p (cond b line (x ∷ without_first (λ f. f.ticket == t) line)) + one (p e) ≡ count_by p (x ∷ line)
    by_test true rest is =
        let same : x ≡ e = cc in
        let own : one (p x) ≡ one (p e) = ap (λ f. one (p f)) same in
        omega (arith, own, count-cons p x line)
    by_test false rest is =
        let more : count_by p (without_first (λ f. f.ticket == t) line) + one (p e) ≡ count_by p line = rest is in
        omega (arith, more, count-cons p x line, count-cons p x (without_first (λ f. f.ticket == t) line))
