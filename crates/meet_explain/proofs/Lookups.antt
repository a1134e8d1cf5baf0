-- What a base says of a seat is what is looked up in its three lists.
use Rattle.std.proofs.Common.{◌≡◌, ℕ, ◌==◌, ◌&&◌, refl, sym, ap, ◌∙◌, subst, Bool, true, false, cond, Option, Some, None, List, [], ◌∷◌, ◌++◌, map, filter, find}
use Rattle.std.specs.Prelude.{option_map, IsSome}
use Rattle.std.specs.Option.{option_or, option_map_or}
use Rattle.std.proofs.lemmas.Bool.{eqb-true, eq-eqb}
use Rattle.std.proofs.lemmas.List.Folds.{find-append}
use Rattle.meet_tickets.specs.declared.bases.OpenPair.{OpenPair}
use Rattle.meet_tickets.specs.declared.bases.OpenCut.{OpenCut}
use Rattle.meet_tickets.specs.declared.lines.Entry.{Entry}
use Rattle.meet_tickets.specs.declared.lines.Hold.{Hold}
use Rattle.meet_tickets.specs.declared.lines.Hold.TheVariants.{Free, Waiting, Cut}
use Rattle.meet_tickets.specs.declared.places.Side.{Side}
use Rattle.meet_tickets.specs.declared.places.Side.TheVariants.{Giver, Taker}
use Rattle.meet_tickets.specs.Bases.{Based, Held, hold_met, waiting_held, paired_held, cut_held, moment_of_base}
use Rattle.meet_tickets.specs.BySeat.{entry_of, cut_ticket}
use Rattle.meet_explain.specs.Holding.{waiting_of, paired_of, cut_of, hold_of}

-- the first of a mapped list
find_map : {X Y : Type 0} (q : Y → Bool) (f : X → Y) (xs : List X) → find q (map f xs) ≡ option_map f (find (λ x. q (f x)) xs)
find_map q f [] = refl
find_map {X} {Y} q f (x ∷ xs) = step (q (f x)) (find q (map f xs)) (find (λ y. q (f y)) xs) (find_map q f xs)
  where
    step : (c : Bool) (a : Option Y) (b : Option X) → a ≡ option_map f b → cond c (Some (f x)) a ≡ option_map f (cond c (Some x) b)
    step true a b is = refl
    step false a b is = is

-- the first of those that pass
find_filter : {X : Type 0} (q p : X → Bool) (xs : List X) → find q (filter p xs) ≡ find (λ x. p x && q x) xs
find_filter q p [] = refl
find_filter {X} q p (x ∷ xs) = step (p x) (find_filter q p xs)
  where
    step : (c : Bool) → find q (filter p xs) ≡ find (λ y. p y && q y) xs → find q (cond c (x ∷ filter p xs) (filter p xs)) ≡ cond (c && q x) (Some x) (find (λ y. p y && q y) xs)
    step true is = ap (λ o. cond (q x) (Some x) o) is
    step false is = is

-- who stands in the line, was met or was cut, in this order
told : (waiting : Option (Entry ℕ)) (met : Option OpenPair) (cuts : Option OpenCut) →
    option_map_or (λ h. h.hold) (option_or (option_map waiting_held waiting) (option_or (option_map paired_held met) (option_map cut_held cuts))) Free ≡
    option_map_or (λ e. Waiting e.ticket) waiting (option_map_or (λ p. hold_met p.side p.ticket p.partner p.mark) met (option_map_or (λ c. Cut c.ticket c.item) cuts Free))
told (Some e) met cuts = refl
told None (Some p) cuts = refl
told None None (Some c) = refl
told None None None = refl

-- what a seat has open
pub hold_told : (b : Based) (i : ℕ) → (moment_of_base b).seats.holds i ≡ hold_of b i
hold_told b i =
    let q : Held → Bool = λ h. h.seat == i in
    let waits : List Held = map waiting_held (filter (λ e. e.waits) b.line) in
    let met : List Held = map paired_held b.pairs in
    let cuts : List Held = map cut_held b.cut in
    let parts : find q (waits ++ (met ++ cuts)) ≡ option_or (find q waits) (option_or (find q met) (find q cuts)) =
    find-append q waits (met ++ cuts) ∙ ap (λ o. option_or (find q waits) o) (find-append q met cuts) in
    let lined : find q waits ≡ option_map waiting_held (waiting_of b.line i) =
    find_map q waiting_held (filter (λ e. e.waits) b.line) ∙ ap (λ o. option_map waiting_held o) (find_filter (λ e. e.seat == i) (λ e. e.waits) b.line) in
    let each : option_or (find q waits) (option_or (find q met) (find q cuts)) ≡ option_or (option_map waiting_held (waiting_of b.line i)) (option_or (option_map paired_held (paired_of b.pairs i)) (option_map cut_held (cut_of b.cut i))) =
    ap (λ o. option_or o (option_or (find q met) (find q cuts))) lined
    ∙ (ap (λ o. option_or (option_map waiting_held (waiting_of b.line i)) (option_or o (find q cuts))) (find_map q paired_held b.pairs)
    ∙ ap (λ o. option_or (option_map waiting_held (waiting_of b.line i)) (option_or (option_map paired_held (paired_of b.pairs i)) o)) (find_map q cut_held b.cut)) in
    ap (λ o. option_map_or (λ h. h.hold) o Free) (parts ∙ each) ∙ told (waiting_of b.line i) (paired_of b.pairs i) (cut_of b.cut i)

-- an element that is found by one test is found by another that it passes, or one before it is
pub record IsFound {X : Type 0} (p : X → Bool) (xs : List X) : Type 0 where
  pub first : X
  pub found : find p xs ≡ Some first
  pub passes : p first ≡ true

found : {X : Type 0} (q p : X → Bool) (xs : List X) (x : X) → find q xs ≡ Some x → p x ≡ true → IsFound p xs
found q p [] x is passes = absurd (cc)
found {X} q p (y ∷ xs) x is passes = by_tests (q y) (p y) refl (found q p xs x) is
  where
    by_tests : (c d : Bool) → p y ≡ d → (find q xs ≡ Some x → p x ≡ true → IsFound p xs) → cond c (Some y) (find q xs) ≡ Some x → IsFound p (y ∷ xs)
    by_tests c true e later is = record { first = y; found = ap (λ b. cond b (Some y) (find p xs)) e; passes = e }
    by_tests true false e later is = let same : y ≡ x = cc in absurd (cc)
    by_tests false false e later is = let rest = later is passes in record {
      first = rest.first;
      found = ap (λ b. cond b (Some y) (find p xs)) e ∙ rest.found;
      passes = rest.passes;
    }

-- who waits stands in the line with its ticket
pub stands : (line : List (Entry ℕ)) (i : ℕ) (e : Entry ℕ) → waiting_of line i ≡ Some e → (f : Entry ℕ) × (find (λ g. g.ticket == e.ticket) line ≡ Some f) × (f.ticket ≡ e.ticket)
stands line i e is =
    let it = found (λ g. g.waits && (g.seat == i)) (λ g. g.ticket == e.ticket) line e is (eq-eqb e.ticket e.ticket refl) in
    (it.first, it.found, eqb-true it.first.ticket e.ticket it.passes)

-- the ticket that an interrupt cuts
pub cut_told : (b : Based) (j : ℕ) → cut_ticket (moment_of_base b).seats j ≡ option_map_or (λ e. e.ticket) (waiting_of b.line j) 0
cut_told b j = ap (λ h. option_map_or (λ e. e.ticket) (entry_of b.line h) 0) (hold_told b j) ∙ by (waiting_of b.line j) refl (paired_of b.pairs j) (cut_of b.cut j)
  where
    by : (waiting : Option (Entry ℕ)) → waiting_of b.line j ≡ waiting → (met : Option OpenPair) (cuts : Option OpenCut) →
        option_map_or (λ e. e.ticket) (entry_of b.line (option_map_or (λ e. Waiting e.ticket) waiting (option_map_or (λ p. hold_met p.side p.ticket p.partner p.mark) met (option_map_or (λ c. Cut c.ticket c.item) cuts Free)))) 0 ≡ option_map_or (λ e. e.ticket) waiting 0
    by (Some e) is met cuts = let it = stands b.line j e is in ap (λ o. option_map_or (λ f. f.ticket) o 0) it.1 ∙ it.2
    by None is (Some p) cuts = sided p p.side
      where
        sided : (p : OpenPair) (s : Side) → option_map_or (λ e. e.ticket) (entry_of b.line (hold_met s p.ticket p.partner p.mark)) 0 ≡ 0
        sided p Giver = refl
        sided p Taker = refl
    by None is None (Some c) = refl
    by None is None None = refl

-- a seat's open ticket that waits stands in the line
pub waiting_stands : (b : Based) (i t : ℕ) → (moment_of_base b).seats.holds i ≡ Waiting t → IsSome (entry_of b.line ((moment_of_base b).seats.holds i))
waiting_stands b i t is =
    subst (λ h. IsSome (entry_of b.line h)) (sym (hold_told b i)) (by (waiting_of b.line i) refl (paired_of b.pairs i) (cut_of b.cut i) (sym (hold_told b i) ∙ is))
  where
    hold : Option (Entry ℕ) → Option OpenPair → Option OpenCut → Hold ℕ
    hold waiting met cuts = option_map_or (λ e. Waiting e.ticket) waiting (option_map_or (λ p. hold_met p.side p.ticket p.partner p.mark) met (option_map_or (λ c. Cut c.ticket c.item) cuts Free))

    by : (waiting : Option (Entry ℕ)) → waiting_of b.line i ≡ waiting → (met : Option OpenPair) (cuts : Option OpenCut) → hold waiting met cuts ≡ Waiting t → IsSome (entry_of b.line (hold waiting met cuts))
    by (Some e) w met cuts eq = let it = stands b.line i e w in subst IsSome (sym it.1) refl
    by None w (Some p) cuts eq = absurd (sided p.side eq)
      where
        sided : (s : Side) → hold_met s p.ticket p.partner p.mark ≡ Waiting t → ⊥
        sided Giver eq = cc
        sided Taker eq = cc
    by None w None (Some c) eq = absurd (cc)
    by None w None None eq = absurd (cc)
