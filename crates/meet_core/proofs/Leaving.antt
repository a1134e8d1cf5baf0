-- What is left in a queue, item by item.
use Rattle.std.proofs.Common.{◌≡◌, ◌≢◌, ℕ, suc, ◌+◌, ◌-◌, ◌<◌, ◌≤◌, refl, sym, ap, ◌∙◌, subst, Bool, cond, Option, Some, None, is_some, option_map, List, [], ◌∷◌, ◌++◌, length, length-append, get_or, take, drop, reverse, map, arith}
use Rattle.std.specs.Prelude.{All, AllPairs, count_by}
use Rattle.std.specs.List.{filter_map, cons_option}
use Rattle.std.proofs.Math.Path.{ap₂}
use Rattle.std.proofs.Math.Seq.{take-suc, take-length}
use Rattle.std.proofs.lemmas.Bool.Decides.{Decides-eqb}
use Rattle.std.proofs.lemmas.Bool.{eqb-true}
use Rattle.std.proofs.lemmas.List.{reverse-append, length-map}
use Rattle.std.proofs.lemmas.List.Elements.{All-contains, All-map}
use Rattle.std.proofs.lemmas.List.Sorted.{sum_by-IsPermutation, IsPermutation-reverse}
use Rattle.std.proofs.lemmas.List.Sums.{sum_by-cons}
use Rattle.std.proofs.lemmas.Map.Made.{IsDistinct-from_AllPairs}
use Rattle.std.proofs.lemmas.Map.Steps.{length-le_from_distinct_below}
use Rattle.std.proofs.lemmas.Map.Views.{Contains-from_any}
use Rattle.std.proofs.lemmas.Option.{slice_get_within, get_or_from_slice_get}
use Rattle.meet_tickets.specs.declared.lines.Entry.{Entry}
use Rattle.meet_tickets.specs.declared.lines.Hold.{Hold}
use Rattle.meet_tickets.specs.declared.places.Side.TheVariants.{Giver}
use Rattle.meet_tickets.specs.declared.places.End.{End}
use Rattle.meet_tickets.specs.declared.places.End.TheVariants.{Front, Back}
use Rattle.meet_tickets.specs.Meeting.{met, is_on, count_on}
use Rattle.meet_tickets.specs.BySeat.{unmet}
use Rattle.meet_tickets.proofs.Lists.Lookups.{keyed_from, keyed_pairs, map_keyed}
use Rattle.meet_tickets.proofs.Line.Sides.{met-some}
use Rattle.meet_core.specs.declared.left.Left.{Left}
use Rattle.meet_line.specs.Sound.{IsSound}
use Rattle.meet_core.specs.Queue.{Queue}
use Rattle.meet_core.specs.Left.{left_of_entry, as_met, left_in_line, left_at_seats, left_in}
use Rattle.meet_line.proofs.Sound.{newest}
use Rattle.meet_line.proofs.Taken.{length-filter_map}

-- the last of a list is the first of its reverse
reverse-last : {X : Type 0} (xs : List X) (n : ℕ) (x : X) → length xs ≡ suc n → get_or xs n x ≡ x → reverse xs ≡ x ∷ reverse (take n xs)
reverse-last xs n x long is =
    let within : n < length xs = omega arith in
    let parts : xs ≡ take n xs ++ (x ∷ []) = sym (take-length xs) ∙ ap (λ k. take k xs) long ∙ take-suc xs n x within ∙ ap (λ y. take n xs ++ (y ∷ [])) is in
    ap reverse parts ∙ reverse-append (take n xs) (x ∷ [])

-- the one that is met is the first of those that would be
pub as_met-unmet : {X : Type 0} (end : End) (line : List X) (e : X) → met end line ≡ Some e → as_met end line ≡ e ∷ as_met end (unmet end line)
as_met-unmet Front [] e is = cc
as_met-unmet Front (x ∷ line) e is = let same : x ≡ e = cc in ap (λ y. y ∷ line) same
as_met-unmet Back line e is =
    let n = length line - 1 in
    let within : n < length line = slice_get_within line n e is in
    reverse-last line n e (omega arith) (get_or_from_slice_get line n e e is)

-- where nobody is met nobody is there
met-none : {T : Type 0} (end : End) (line : List (Entry T)) → met end line ≡ None → line ≡ []
met-none end [] none = refl
met-none end (x ∷ line) none = absurd (met-some end x line none)

unmet-nil : {T : Type 0} (end : End) (line : List (Entry T)) → line ≡ [] → unmet end line ≡ []
unmet-nil Front line none = ap (drop 1) none
unmet-nil Back line none = ap (λ xs. take (length xs - 1) xs) none

pub unmet-none : {T : Type 0} (end : End) (line : List (Entry T)) → met end line ≡ None → unmet end line ≡ []
unmet-none end line none = unmet-nil end line (met-none end line none)

as_met-nil : {T : Type 0} (end : End) (line : List (Entry T)) → line ≡ [] → as_met end line ≡ []
as_met-nil Front line none = none
as_met-nil Back line none = ap reverse none

-- and nothing is left
pub left_in_line-none : {T : Type 0} (end : End) (line : List (Entry T)) → met end line ≡ None → left_in_line end line ≡ []
left_in_line-none end line none = ap (filter_map left_of_entry) (as_met-nil end line (met-none end line none))

-- what is left before one is met is what this one leaves, and then the rest
pub left_in_line-met : {T : Type 0} (end : End) (line rest : List (Entry T)) (e : Entry T) (o : Option (Left T)) → met end line ≡ Some e → rest ≡ unmet end line → o ≡ left_of_entry e → left_in_line end line ≡ cons_option o (left_in_line end rest)
left_in_line-met end line rest e o is others own =
    ap (filter_map left_of_entry) (as_met-unmet end line e is) ∙ ap₂ cons_option (sym own) (ap (left_in_line end) (sym others))

-- in whatever order
count_by-as_met : {X : Type 0} (p : X → Bool) (end : End) (line : List X) → count_by p (as_met end line) ≡ count_by p line
count_by-as_met p Front line = refl
count_by-as_met p Back line = sum_by-IsPermutation (λ x. cond (p x) 1 0) line (reverse line) (IsPermutation-reverse line)

-- of the line, each giver
length-left_in_line : {T : Type 0} (end : End) (line : List (Entry T)) → length (left_in_line end line) ≡ count_on Giver line
length-left_in_line {T} end line =
    length-filter_map left_of_entry (as_met end line) ∙ count_by-as_met (λ e. is_some (left_of_entry e)) end line ∙ givers line
  where
    giver : (o : Option T) (f : T → Left T) → is_some (option_map f o) ≡ is_some o
    giver None f = refl
    giver (Some item) f = refl

    givers : (line : List (Entry T)) → count_by (λ e. is_some (left_of_entry e)) line ≡ count_on Giver line
    givers [] = refl
    givers (e ∷ line) =
        sum_by-cons (λ f. cond (is_some (left_of_entry f)) 1 0) e line
        ∙ ap₂ ◌+◌ (ap (λ b. cond b 1 0) (giver e.item _)) (givers line)
        ∙ sym (sum_by-cons (λ f. cond (is_on Giver f) 1 0) e line)

-- as many are left as there are givers in the line, and items at the seats
pub length-left_in : {T : Type 0} (end : End) (q : Queue T) → length (left_in end q) ≡ count_on Giver q.line + length (left_at_seats q.table.holds)
length-left_in end q = length-append (left_in_line end q.line) (left_at_seats q.table.holds) ∙ ap (λ n. n + length (left_at_seats q.table.holds)) (length-left_in_line end q.line)

-- a line has no more entries than tickets were used
pub length-line : {T : Type 0} {line : List (Entry T)} {holds : ℕ → Hold T} {next : ℕ} → IsSound line holds next → length line ≤ next
length-line {T} {line} {holds} {next} sound =
    let ticket : Entry T → ℕ = λ e. e.ticket in
    let apart : AllPairs (λ e f. ticket e ≢ ticket f) line = λ i j d less below. (sound.fellows i j d less below).tickets in
    let keys = keyed_pairs (λ k. k) (map ticket line) (map_keyed (λ k. k) ticket line (keyed_from ticket line apart)) in
    let below : All (λ k. k < next) (map ticket line) = All-map (λ k. k < next) ticket line (newest sound) in
    subst (λ n. n ≤ next) (length-map line ticket)
    (length-le_from_distinct_below (map ticket line) next (IsDistinct-from_AllPairs Decides-eqb (map ticket line) keys)
    (λ q found. All-contains (λ k. k < next) (map ticket line) q below (Contains-from_any (λ x y same. eqb-true x y same) q (map ticket line) found)))
