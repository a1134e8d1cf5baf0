-- What seats hold, and which are flagged, as a base's entries are laid.
use Rattle.std.proofs.Common.{◌≡◌, ℕ, zero, suc, ◌+◌, ◌-◌, ◌<◌, ◌≤◌, ◌==◌, refl, sym, ap, ◌∙◌, Bool, true, false, cond, not, ◌||◌, Option, Some, None, is_some, List, [], ◌∷◌, ◌++◌, map, filter, find, take, length, get_or, All, AllPairs, arith}
use Rattle.std.specs.List.{list_any}
use Rattle.std.specs.Option.{option_map_or}
use Rattle.std.proofs.lemmas.Bool.{cases_eq, eq-eqb, ne_eqb}
use Rattle.std.proofs.Common.{⊎_elim, ◌≢◌, append-nil}
use Rattle.std.proofs.lemmas.List.{take_more, map-append, length-take-le, get_or-take, get_or_default}
use Rattle.std.proofs.lemmas.List.Elements.{filter_more, All-nil, All-cons, All-head, All-tail}
use Rattle.meet_tickets.specs.declared.lines.Entry.{Entry}
use Rattle.meet_tickets.specs.declared.lines.Hold.{Hold}
use Rattle.meet_tickets.specs.declared.lines.Hold.TheVariants.{Free}
use Rattle.meet_tickets.specs.BySeat.{put_at}
use Rattle.meet_tickets.specs.declared.places.End.{End}
use Rattle.meet_tickets.specs.Bases.{Based, Held, held_in, waiting_held, paired_held, cut_held}
use Rattle.meet_tickets.specs.Meeting.{met, IsAlone}
use Rattle.meet_tickets.proofs.OnBases.Laying.{hold_all, hold_all_found}
use Rattle.meet_tickets.proofs.Lists.Lookups.{AreKeyed, keyed_from}
use Rattle.meet_history.specs.Laid.{held_once, waiting_in_line, flagged_once}
use Rattle.meet_history.specs.Marks.{IsNewest}

pub held-append : (holds : ℕ → Hold ℕ) (xs ys : List Held) → held_once holds (xs ++ ys) ≡ held_once (held_once holds xs) ys
held-append holds [] ys = refl
held-append holds (h ∷ xs) ys = held-append (put_at holds h.seat h.hold) xs ys

-- one entry more
pub held-more : {X : Type 0} (f : X → Held) (holds : ℕ → Hold ℕ) (xs : List X) (i : ℕ) (x : X) → i < length xs → x ≡ get_or xs i x → held_once holds (map f (take (i + 1) xs)) ≡ put_at (held_once holds (map f (take i xs))) (f x).seat (f x).hold
held-more f holds xs i x lt is =
    ap (λ l. held_once holds (map f l)) (take_more xs i x lt ∙ ap (λ y. take i xs ++ y ∷ []) (sym is))
    ∙ ap (held_once holds) (map-append f (take i xs) (x ∷ []))
    ∙ held-append holds (map f (take i xs)) (f x ∷ [])

-- one that waits
pub waits-more : (holds : ℕ → Hold ℕ) (line : List (Entry ℕ)) (i : ℕ) (e : Entry ℕ) → i < length line → e ≡ get_or line i e → e.waits ≡ true → held_once holds (waiting_in_line (take (i + 1) line)) ≡ put_at (held_once holds (waiting_in_line (take i line))) e.seat (waiting_held e).hold
waits-more holds line i e lt is waits =
    let more : filter (λ (x : Entry ℕ). x.waits) (take (i + 1) line) ≡ filter (λ (x : Entry ℕ). x.waits) (take i line) ++ e ∷ [] = filter_more (λ (x : Entry ℕ). x.waits) line i e lt ∙ ap (λ (y : Entry ℕ). filter (λ (x : Entry ℕ). x.waits) (take i line) ++ cond y.waits (y ∷ []) []) (sym is) ∙ ap (λ b. filter (λ (x : Entry ℕ). x.waits) (take i line) ++ cond b (e ∷ []) []) waits in
    ap (λ l. held_once holds (map waiting_held l)) more
    ∙ ap (held_once holds) (map-append waiting_held (filter (λ (x : Entry ℕ). x.waits) (take i line)) (e ∷ []))
    ∙ held-append holds (waiting_in_line (take i line)) (waiting_held e ∷ [])

-- one that doesn't
pub kept-more : (holds : ℕ → Hold ℕ) (line : List (Entry ℕ)) (i : ℕ) (e : Entry ℕ) → i < length line → e ≡ get_or line i e → e.waits ≡ false → held_once holds (waiting_in_line (take (i + 1) line)) ≡ held_once holds (waiting_in_line (take i line))
kept-more holds line i e lt is waits =
    let more : filter (λ (x : Entry ℕ). x.waits) (take (i + 1) line) ≡ filter (λ (x : Entry ℕ). x.waits) (take i line) = filter_more (λ (x : Entry ℕ). x.waits) line i e lt ∙ ap (λ (y : Entry ℕ). filter (λ (x : Entry ℕ). x.waits) (take i line) ++ cond y.waits (y ∷ []) []) (sym is) ∙ ap (λ b. filter (λ (x : Entry ℕ). x.waits) (take i line) ++ cond b (e ∷ []) []) waits ∙ append-nil (filter (λ (x : Entry ℕ). x.waits) (take i line)) in
    ap (λ l. held_once holds (map waiting_held l)) more

flagged-append : (flags : ℕ → Bool) (xs ys : List ℕ) → flagged_once flags (xs ++ ys) ≡ flagged_once (flagged_once flags xs) ys
flagged-append flags [] ys = refl
flagged-append flags (i ∷ xs) ys = flagged-append (put_at flags i true) xs ys

-- one flag more
pub flagged-more : (flags : ℕ → Bool) (seats : List ℕ) (i seat : ℕ) → i < length seats → seat ≡ get_or seats i seat → flagged_once flags (take (i + 1) seats) ≡ put_at (flagged_once flags (take i seats)) seat true
flagged-more flags seats i seat lt is =
    ap (flagged_once flags) (take_more seats i seat lt ∙ ap (λ y. take i seats ++ y ∷ []) (sym is))
    ∙ flagged-append flags (take i seats) (seat ∷ [])

-- what is held once all are laid is found by seat
is-hold_all : (holds : ℕ → Hold ℕ) (hs : List Held) → held_once holds hs ≡ hold_all holds hs
is-hold_all holds [] = refl
is-hold_all holds (h ∷ hs) = is-hold_all (put_at holds h.seat h.hold) hs

pub held-all : (hs : List Held) → AreKeyed (λ (h : Held). h.seat) hs → held_once (λ _. Free) hs ≡ (λ i. option_map_or (λ (h : Held). h.hold) (find (λ (h : Held). h.seat == i) hs) Free)
held-all hs keyed =
    let each : (i : ℕ) → held_once (λ _. Free) hs i ≡ option_map_or (λ (h : Held). h.hold) (find (λ (h : Held). h.seat == i) hs) Free = λ i. ap (λ (f : ℕ → Hold ℕ). f i) (is-hold_all (λ _. Free) hs) ∙ hold_all_found hs (λ _. Free) i keyed in
    λ k i. each i k

-- and so is each flag
flag-or : (a b c : Bool) → cond a true b || c ≡ b || (a || c)
flag-or true true c = refl
flag-or true false c = refl
flag-or false true c = refl
flag-or false false c = refl

or-false : (b : Bool) → b ≡ b || false
or-false true = refl
or-false false = refl

same-test : (i j : ℕ) → (i == j) ≡ (j == i)
same-test i j = ⊎_elim (λ (e : i ≡ j). eq-eqb i j e ∙ sym (eq-eqb j i (sym e))) (λ (n : i ≢ j). ne_eqb i j n ∙ sym (ne_eqb j i (λ e. n (sym e)))) (cases_eq i j)

flagged-or : (flags : ℕ → Bool) (seats : List ℕ) (i : ℕ) → flagged_once flags seats i ≡ flags i || list_any (λ j. j == i) seats
flagged-or flags [] i = or-false (flags i)
flagged-or flags (j ∷ seats) i =
    flagged-or (put_at flags j true) seats i
    ∙ ap (λ b. cond b true (flags i) || list_any (λ j. j == i) seats) (same-test i j)
    ∙ flag-or (j == i) (flags i) (list_any (λ j. j == i) seats)

pub flagged-all : (seats : List ℕ) → flagged_once (λ _. false) seats ≡ (λ i. list_any (λ j. j == i) seats)
flagged-all seats = λ k i. flagged-or (λ _. false) seats i k

-- all of a base's open tickets, laid one after another
pub laid-all : (b : Based) (f0 f1 f2 f3 : ℕ → Hold ℕ) → AllPairs (λ (h g : Held). h.seat ≢ g.seat) (held_in b) → f0 ≡ (λ _. Free) → f1 ≡ held_once f0 (waiting_in_line b.line) → f2 ≡ held_once f1 (map paired_held b.pairs) → f3 ≡ held_once f2 (map cut_held b.cut) → f3 ≡ (λ i. option_map_or (λ (h : Held). h.hold) (find (λ (h : Held). h.seat == i) (held_in b)) Free)
laid-all b f0 f1 f2 f3 apart none line pairs cut =
    cut
    ∙ ap (λ f. held_once f (map cut_held b.cut)) (pairs ∙ ap (λ f. held_once f (map paired_held b.pairs)) (line ∙ ap (λ f. held_once f (waiting_in_line b.line)) none))
    ∙ sym (held-append (held_once (λ _. Free) (waiting_in_line b.line)) (map paired_held b.pairs) (map cut_held b.cut))
    ∙ sym (held-append (λ _. Free) (waiting_in_line b.line) (map paired_held b.pairs ++ map cut_held b.cut))
    ∙ held-all (held_in b) (keyed_from (λ (h : Held). h.seat) (held_in b) apart)

-- what holds of all names holds of those of the line
pub first-named : {X Y : Type 0} (P : Y → Type 0) (f : X → Y) (xs : List X) (ys : List Y) → All P (map f xs ++ ys) → All (λ x. P (f x)) xs
first-named P f [] ys all = All-nil (λ x. P (f x))
first-named P f (x ∷ xs) ys all = All-cons (λ x. P (f x)) x xs (All-head P (f x) (map f xs ++ ys) all) (first-named P f xs ys (All-tail P (f x) (map f xs ++ ys) all))

-- the newest ticket of a line that rises is below the next, and is one of its own
pub newest-below : (line : List (Entry ℕ)) (i : ℕ) (e : Entry ℕ) (newest : ℕ) → i < length line → e ≡ get_or line i e → AllPairs (λ (x y : Entry ℕ). x.ticket < y.ticket) line → All (λ (x : Entry ℕ). 0 < x.ticket) line → IsNewest (take i line) newest → newest < e.ticket
newest-below line zero e newest lt is rises named is-newest =
    let none : newest ≡ 0 = is-newest.0 refl in
    let some : 0 < (get_or line 0 e).ticket = named 0 e lt in
    let same = ap (λ (x : Entry ℕ). x.ticket) is in
    omega (arith, none, some, same)
newest-below line (suc i) e newest lt is rises named is-newest =
    let long : length (take (suc i) line) ≡ suc i = length-take-le (suc i) line (omega arith) in
    let last : newest ≡ (get_or (take (suc i) line) (length (take (suc i) line) - 1) e).ticket = is-newest.1 e (omega arith) in
    let place : length (take (suc i) line) - 1 ≡ i = omega (arith, long) in
    let read : get_or (take (suc i) line) i e ≡ get_or line i e = get_or-take (suc i) line i e (omega arith) in
    let own : newest ≡ (get_or line i e).ticket = last ∙ ap (λ n. (get_or (take (suc i) line) n e).ticket) place ∙ ap (λ (x : Entry ℕ). x.ticket) read in
    let above : (get_or line i e).ticket < (get_or line (suc i) e).ticket = rises i (suc i) e (omega arith) lt in
    let same = ap (λ (x : Entry ℕ). x.ticket) is in
    omega (arith, own, above, same)

pub newest-next : (line : List (Entry ℕ)) (i : ℕ) (e : Entry ℕ) (newest : ℕ) → i < length line → e ≡ get_or line i e → newest ≡ e.ticket → IsNewest (take (i + 1) line) newest
newest-next line i e newest lt is own =
    let long : length (take (i + 1) line) ≡ i + 1 = length-take-le (i + 1) line (omega arith) in (
      λ none. absurd (omega (arith, long, none)),
      λ d some.
          let place : length (take (i + 1) line) - 1 ≡ i = omega (arith, long) in
          own ∙ ap (λ (x : Entry ℕ). x.ticket) is ∙ ap (λ (x : Entry ℕ). x.ticket) (get_or_default line i e d lt)
          ∙ ap (λ (x : Entry ℕ). x.ticket) (sym (get_or-take (i + 1) line i d (omega arith)))
          ∙ ap (λ n. (get_or (take (i + 1) line) n d).ticket) (sym place),
    )

pub newest-within : (line : List (Entry ℕ)) (newest last : ℕ) → IsNewest line newest → All (λ (x : Entry ℕ). x.ticket ≤ last) line → newest ≤ last
newest-within [] newest last is all = let none : newest ≡ 0 = is.0 refl in omega (arith, none)
newest-within (x ∷ line) newest last is all =
    let own : newest ≡ (get_or (x ∷ line) (length (x ∷ line) - 1) x).ticket = is.1 x (omega arith) in
    let low : (get_or (x ∷ line) (length (x ∷ line) - 1) x).ticket ≤ last = all (length (x ∷ line) - 1) x (omega arith) in
    omega (arith, own, low)

-- an entry of a line of one side finds nobody among those before it
alone-as : (end : End) (x : Entry ℕ) (line : List (Entry ℕ)) (item : Option ℕ) → is_some x.item ≡ is_some item → IsAlone end (x ∷ line) item
alone-as end x line None same = ap (λ b. cond (not b) None (met end (x ∷ line))) same
alone-as end x line (Some mark) same = ap (λ b. cond b None (met end (x ∷ line))) same

alone-none : (end : End) (item : Option ℕ) → IsAlone end [] item
alone-none end None = refl
alone-none end (Some mark) = refl

pub alone-before : (end : End) (line : List (Entry ℕ)) (i : ℕ) (e : Entry ℕ) → i < length line → e ≡ get_or line i e → AllPairs (λ (x y : Entry ℕ). is_some x.item ≡ is_some y.item) line → IsAlone end (take i line) e.item
alone-before end line zero e lt is one = alone-none end e.item
alone-before end [] (suc i) e lt is one = absurd (omega arith)
alone-before end (x ∷ line) (suc i) e lt is one =
    alone-as end x (take i line) e.item (one 0 (suc i) e (omega arith) lt ∙ ap (λ (y : Entry ℕ). is_some y.item) (sym is))
