-- How the line changes by a record that fits, and where it was longest.
use Rattle.std.proofs.Common.{◌≡◌, ℕ, zero, suc, ◌+◌, ◌-◌, ◌<◌, ◌≤◌, ◌==◌, refl, sym, ap, ◌∙◌, subst, ⊎_elim, Bool, true, false, cond, arith, Option, Some, None, List, [], ◌∷◌, ◌++◌, length, take, drop, find, count_by, get_or, Contains}
use Rattle.std.specs.Prelude.{IsSome}
use Rattle.std.specs.Option.{option_map_or}
use Rattle.std.proofs.lemmas.Bool.{cases_lt, eqb-true, false≢true}
use Rattle.std.proofs.lemmas.List.{take_more, take-append-drop}
use Rattle.meet_tickets.specs.declared.lines.Entry.{Entry}
use Rattle.meet_tickets.specs.declared.lines.Hold.{Hold}
use Rattle.meet_tickets.specs.declared.lines.Hold.TheVariants.{Free, Waiting, Handed, Served, Cut}
use Rattle.meet_tickets.specs.declared.places.Kind.{Kind}
use Rattle.meet_tickets.specs.declared.places.End.{End}
use Rattle.meet_tickets.specs.declared.places.Side.{Side}
use Rattle.meet_tickets.specs.declared.places.Side.TheVariants.{Giver, Taker}
use Rattle.meet_tickets.specs.declared.records.Record.{Record}
use Rattle.meet_tickets.specs.declared.records.Cause.TheVariants.{Cancelled, Expired}
use Rattle.meet_tickets.specs.declared.records.Deed.{Deed}
use Rattle.meet_tickets.specs.declared.records.Deed.TheVariants.{GiveMeets, TakeMeets, Withdrawn, Interrupt}
use Rattle.meet_tickets.specs.Bases.{Based, state_of_base, moment_of_base, IsWellFormed, IsLegalOn}
use Rattle.meet_tickets.specs.BySeat.{Seats, Moment, Fits, Allows, seats_after, moment_after, moment_of, entry_of, unmet, without_first, meets, cut_ticket, interrupted, paired, cut_off, flagged}
use Rattle.meet_tickets.specs.Meeting.{end_of, partner, met, is_on}
use Rattle.meet_tickets.proofs.Lists.Members.{Contains-first, Contains-rest}
use Rattle.meet_tickets.proofs.OnBases.Based.{tellings_agree_on, alike_base}
use Rattle.meet_tickets.proofs.Lists.Changed.{count-cons}
use Rattle.meet_tickets.proofs.Tellings.Continued.{moment_of-append}
use Rattle.meet_tickets.proofs.OnBases.Folded.{legal-parts}
use Rattle.meet_tickets.proofs.Tellings.Histories.{alike_at_end}
use Rattle.meet_tickets.proofs.Tellings.Whereabouts.{Where, Never, InLine}
use Rattle.meet_tickets.proofs.Lists.Tally.{count-met, count-found}
use Rattle.meet_sum.specs.Lines.{line_behind, IsNumbered, IsPeak}

count-all : {X : Type 0} (xs : List X) → count_by (λ x. true) xs ≡ length xs
count-all [] = refl
count-all {X} (x ∷ xs) = let rest = count-all xs in let front = count-cons (λ (y : X). true) x xs in omega (arith, rest, front)

-- the line is shorter by the one that is met, or by the one of a ticket
short-met : (end : End) (line : List (Entry ℕ)) (e : Entry ℕ) → met end line ≡ Some e → length (unmet end line) ≡ length line - 1
short-met end line e is =
    let counted = count-met (λ (x : Entry ℕ). true) end line e is in
    omega (arith, counted, count-all line, count-all (unmet end line))

short-found : (t : ℕ) (line : List (Entry ℕ)) (e : Entry ℕ) → find (λ f. f.ticket == t) line ≡ Some e → length (without_first (λ f. f.ticket == t) line) ≡ length line - 1
short-found t line e is =
    let counted = count-found (λ (x : Entry ℕ). true) t line e is in
    omega (arith, counted, count-all line, count-all (without_first (λ f. f.ticket == t) line))

-- what is found passes, and is there
found-passes : (t : ℕ) (line : List (Entry ℕ)) (e : Entry ℕ) → find (λ f. f.ticket == t) line ≡ Some e → (e.ticket ≡ t) × Contains line e
found-passes t [] e is = absurd (cc)
found-passes t (x ∷ line) e is = by (x.ticket == t) refl (found-passes t line e) is
  where
    by : (b : Bool) → (x.ticket == t) ≡ b → (find (λ f. f.ticket == t) line ≡ Some e → (e.ticket ≡ t) × Contains line e) → cond b (Some x) (find (λ f. f.ticket == t) line) ≡ Some e → (e.ticket ≡ t) × Contains (x ∷ line) e
    by true passes rest found = let same : x ≡ e = cc in (sym (ap (λ (f : Entry ℕ). f.ticket) same) ∙ eqb-true x.ticket t passes, subst (Contains (x ∷ line)) same (Contains-first x line))
    by false passes rest found = let later = rest found in (later.0, Contains-rest x line e later.1)

-- a partner is the one that is met
met-partner : (end : End) (line : List (Entry ℕ)) (side : Side) (e : Entry ℕ) → partner end line side ≡ Some e → met end line ≡ Some e
met-partner end [] side e is = absurd (cc)
met-partner end (x ∷ line) side e is = by (is_on side x) is
  where
    by : (b : Bool) → cond b None (met end (x ∷ line)) ≡ Some e → met end (x ∷ line) ≡ Some e
    by true clash = absurd (cc)
    by false found = found

met-short : (k : Kind) (s : Seats ℕ) (t : ℕ) (item : Option ℕ) (side : Side) (e : Entry ℕ) → partner (end_of k.order) s.line side ≡ Some e → length (meets k s t item side).line ≡ length s.line - 1
met-short k s t item side e is =
    ap (λ o. length (option_map_or (paired (λ mark. mark) (end_of k.order) s t item) o s).line) is
    ∙ short-met (end_of k.order) s.line e (met-partner (end_of k.order) s.line side e is)

left-short : (s : Seats ℕ) (i t : ℕ) → s.holds i ≡ Waiting t → IsSome (entry_of s.line (s.holds i)) → length (without_first (λ e. e.ticket == t) s.line) ≡ length s.line - 1
left-short s i t is some = by (find (λ e. e.ticket == t) s.line) refl (subst (λ h. IsSome (entry_of s.line h)) is some)
  where
    by : (o : Option (Entry ℕ)) → find (λ e. e.ticket == t) s.line ≡ o → IsSome o → length (without_first (λ e. e.ticket == t) s.line) ≡ length s.line - 1
    by None found none = absurd (false≢true none)
    by (Some e) found there = short-found t s.line e found

-- the entry of what a seat holds is found by its own ticket
found-entry : (line : List (Entry ℕ)) (h : Hold ℕ) (e : Entry ℕ) → entry_of line h ≡ Some e → find (λ f. f.ticket == e.ticket) line ≡ Some e
found-entry line Free e is = absurd (cc)
found-entry line (Waiting t) e is = subst (λ u. find (λ f. f.ticket == u) line ≡ Some e) (sym (found-passes t line e is).0) is
found-entry line (Handed t u m) e is = absurd (cc)
found-entry line (Served t u m) e is = absurd (cc)
found-entry line (Cut t item) e is = absurd (cc)

cut-short : (s : Seats ℕ) (j t : ℕ) → t ≡ cut_ticket s j → 0 < t → length (interrupted s j).line ≡ length s.line - 1
cut-short s j t is above = by (entry_of s.line (s.holds j)) refl is
  where
    by : (o : Option (Entry ℕ)) → entry_of s.line (s.holds j) ≡ o → t ≡ option_map_or (λ e. e.ticket) o 0 → length (option_map_or (cut_off s j) o (flagged s j true)).line ≡ length s.line - 1
    by None found none = absurd (omega arith)
    by (Some e) found own = short-found e.ticket s.line e (found-entry s.line (s.holds j) e found)

flag-same : (s : Seats ℕ) (j t : ℕ) → ((e : Entry ℕ) → Contains s.line e → 0 < e.ticket) → t ≡ cut_ticket s j → t ≤ 0 → length (interrupted s j).line ≡ length s.line
flag-same s j t numbered is none = by (entry_of s.line (s.holds j)) refl is
  where
    by : (o : Option (Entry ℕ)) → entry_of s.line (s.holds j) ≡ o → t ≡ option_map_or (λ e. e.ticket) o 0 → length (option_map_or (cut_off s j) o (flagged s j true)).line ≡ length s.line
    by None found own = refl
    by (Some e) found own = let above = numbered e (found-passes e.ticket s.line e (found-entry s.line (s.holds j) e found)).1 in absurd (omega arith)

-- deed by deed, where the record fits
module _ (k : Kind) (m : Moment) (r : Record Deed) (fits : Fits k m r) where
  abbrev length_after : Deed → ℕ
  length_after d = length (seats_after k m.seats r.seat r.ticket d).line

  allowed_as : (d : Deed) → r.deed ≡ d → Allows k m.seats r.seat r.ticket d
  allowed_as d is = subst (Allows k m.seats r.seat r.ticket) is fits.allowed

  pub after-give : (x u : ℕ) → r.deed ≡ GiveMeets x u → length_after r.deed ≡ length m.seats.line - 1
  after-give x u is = let found = (allowed_as (GiveMeets x u) is).1 in ap length_after is ∙ met-short k m.seats r.ticket (Some x) Giver found.0 found.1

  pub after-take : (x u : ℕ) → r.deed ≡ TakeMeets x u → length_after r.deed ≡ length m.seats.line - 1
  after-take x u is = let found = (allowed_as (TakeMeets x u) is).1 in ap length_after is ∙ met-short k m.seats r.ticket None Taker found.0 found.1

  pub after-cancelled : r.deed ≡ Withdrawn Cancelled → length_after r.deed ≡ length m.seats.line - 1
  after-cancelled is = let own = allowed_as (Withdrawn Cancelled) is in ap length_after is ∙ left-short m.seats r.seat r.ticket own.0 own.1

  pub after-expired : r.deed ≡ Withdrawn Expired → length_after r.deed ≡ length m.seats.line - 1
  after-expired is = let own = allowed_as (Withdrawn Expired) is in ap length_after is ∙ left-short m.seats r.seat r.ticket own.0 own.1

  pub after-cut : (j : ℕ) → r.deed ≡ Interrupt j → 0 < r.ticket → length_after r.deed ≡ length m.seats.line - 1
  after-cut j is above = ap length_after is ∙ cut-short m.seats j r.ticket (allowed_as (Interrupt j) is) above

  pub after-flag : (j : ℕ) → r.deed ≡ Interrupt j → r.ticket ≤ 0 → IsNumbered m → length_after r.deed ≡ length m.seats.line
  after-flag j is none numbered = ap length_after is ∙ flag-same m.seats j r.ticket numbered (allowed_as (Interrupt j) is) none

-- along the records
module _ (k : Kind) (b : Based) (records : List (Record Deed)) (w : IsWellFormed k b) (legal : IsLegalOn k b records) where
  legal-take : (n : ℕ) → IsLegalOn k b (take n records)
  legal-take n = ((legal-parts k (state_of_base b) (take n records) (drop n records)).0 (subst (IsLegalOn k b) (sym (take-append-drop n records)) legal)).0

  -- the entries of the line have tickets above 0
  pub numbered-at : (n : ℕ) → IsNumbered (moment_of k (moment_of_base b) (take n records))
  numbered-at n e there =
      let alike = alike_at_end k (take n records) (state_of_base b) (moment_of_base b) (alike_base k b w) (legal-take n) in
      let placed = alike.reached.placed in
      let lined : alike.reached.place e.ticket ≡ InLine = placed.lined e (subst (λ l. Contains l e) (sym alike.agrees.line) there) in
      above alike.reached.place e.ticket lined placed.none
    where
      above : (place : ℕ → Where) (t : ℕ) → place t ≡ InLine → place 0 ≡ Never → 0 < t
      above place zero lined none = absurd (let clash : InLine ≡ Never = sym lined ∙ none in cc)
      above place (suc t) lined none = omega arith

  pub fits-at : (n : ℕ) (r : Record Deed) → n < length records → r ≡ get_or records n r → Fits k (moment_of k (moment_of_base b) (take n records)) r
  fits-at n r within is =
      let one_more : take (n + 1) records ≡ take n records ++ r ∷ [] = take_more records n r within ∙ ap (λ x. take n records ++ x ∷ []) (sym is) in
      let step = ((legal-parts k (state_of_base b) (take n records) (r ∷ [])).0 (subst (IsLegalOn k b) one_more (legal-take (n + 1)))).1.0 in
      ((tellings_agree_on k b (take n records) w).next (legal-take n) r).0 step

  pub line-more : (n : ℕ) (r : Record Deed) → n < length records → r ≡ get_or records n r → line_behind k b (take (n + 1) records) ≡ length (moment_after k (moment_of k (moment_of_base b) (take n records)) r).seats.line
  line-more n r within is =
      let one_more : take (n + 1) records ≡ take n records ++ r ∷ [] = take_more records n r within ∙ ap (λ x. take n records ++ x ∷ []) (sym is) in
      ap (line_behind k b) one_more ∙ ap (λ (m : Moment). length m.seats.line) (moment_of-append k (moment_of_base b) (take n records) (r ∷ []))

-- a peak, one number more
pub peak-none : (f : ℕ → ℕ) → IsPeak f 0 (f 0) 0
peak-none f = record { within = omega arith; there = refl; most_of_all = λ j low. (let same : j ≡ 0 = omega arith in omega (arith, ap f same)); first = λ j low. absurd (omega arith) }

pub peak-new : (f : ℕ → ℕ) (last most at x : ℕ) → IsPeak f last most at → f (last + 1) ≡ x → most < x → IsPeak f (last + 1) x (last + 1)
peak-new f last most at x peak is above = record {
  within = omega arith;
  there = is;
  most_of_all = λ j low. ⊎_elim (λ (before : j < last + 1). (let under = peak.most_of_all j (omega arith) in omega arith)) (λ (after : last + 1 ≤ j). (let same : j ≡ last + 1 = omega arith in omega (arith, ap f same, is))) (cases_lt j (last + 1));
  first = λ j low. (let under = peak.most_of_all j (omega arith) in omega arith);
}

pub peak-same : (f : ℕ → ℕ) (last most at x : ℕ) → IsPeak f last most at → f (last + 1) ≡ x → x ≤ most → IsPeak f (last + 1) most at
peak-same f last most at x peak is under = record {
  within = omega (arith, peak.within);
  there = peak.there;
  most_of_all = λ j low. ⊎_elim (λ (before : j < last + 1). peak.most_of_all j (omega arith)) (λ (after : last + 1 ≤ j). (let same : j ≡ last + 1 = omega arith in omega (arith, ap f same, is))) (cases_lt j (last + 1));
  first = peak.first;
}
