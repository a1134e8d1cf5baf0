-- All that stands in the line or is open is of the place's seats, whatever is done there.
use Rattle.std.proofs.Common.{◌≡◌, ℕ, ◌<◌, refl, ap, ◌∙◌, Bool, true, false, cond, Option, Some, None, [], ◌∷◌, All, ◌≤◌, ◌==◌, ⊎_elim, arith}
use Rattle.std.specs.Option.{option_map_or}
use Rattle.std.proofs.lemmas.Bool.{cond_both, cases_lt}
use Rattle.std.proofs.lemmas.List.Elements.{All-nil, All-cons, All-append}
use Rattle.meet_tickets.specs.declared.lines.Entry.{Entry}
use Rattle.meet_tickets.specs.declared.lines.Hold.{Hold}
use Rattle.meet_tickets.specs.declared.lines.Hold.TheVariants.{Free, Waiting, Cut}
use Rattle.meet_tickets.specs.declared.places.Side.{Side}
use Rattle.meet_tickets.specs.declared.places.Side.TheVariants.{Giver, Taker}
use Rattle.meet_tickets.specs.declared.places.Kind.{Kind}
use Rattle.meet_tickets.specs.declared.records.Cause.TheVariants.{Cancelled, Expired, Interrupted}
use Rattle.meet_tickets.specs.declared.records.Deed.{Deed}
use Rattle.meet_tickets.specs.declared.records.Deed.TheVariants.{GiveWaits, GiveMeets, GiveFails, GiveKept, TakeWaits, TakeMeets, TakeFails, EntryInterrupted, Done, Got, Withdrawn, Interrupt}
use Rattle.meet_tickets.specs.Meeting.{end_of, partner}
use Rattle.meet_tickets.specs.BySeat.{Seats, put_at, entry_of, paired, paired_hold, meets, queued, released, withdrawn, interrupted, cut_off, flagged, is_request, seats_after}
use Rattle.meet_tickets.proofs.Line.Sides.{partner-there, All-unmet, All-without_first}
use Rattle.meet_tickets.proofs.Tellings.Whereabouts.{put_at_there}

-- by the answer to a test
pub by_cases : {A B : Type 0} (P : B → Type 0) (o : Option A) (f : A → B) (d : B) → ((x : A) → o ≡ Some x → P (f x)) → (o ≡ None → P d) → P (option_map_or f o d)
by_cases P None f d some none = none refl
by_cases P (Some x) f d some none = some x refl

-- all who stand in the line have seats of the place, and beyond them nothing is open
pub record IsWithin (count : ℕ) (s : Seats ℕ) : Type 0 where
  pub lined : All (λ e. e.seat < count) s.line
  pub beyond : (j : ℕ) → count ≤ j → s.holds j ≡ Free

-- what is put at a seat of the place is put below
put_below : (count : ℕ) (holds : ℕ → Hold ℕ) (i : ℕ) (hold : Hold ℕ) → i < count → ((j : ℕ) → count ≤ j → holds j ≡ Free) → (j : ℕ) → count ≤ j → put_at holds i hold j ≡ Free
put_below count holds i hold there beyond j above = put_at_there holds i hold j (λ same. omega arith) ∙ beyond j above

-- a seat that lets go holds nothing
put_free : (count : ℕ) (holds : ℕ → Hold ℕ) (i : ℕ) → ((j : ℕ) → count ≤ j → holds j ≡ Free) → (j : ℕ) → count ≤ j → put_at holds i Free j ≡ Free
put_free count holds i beyond j above = by_test (j == i) (beyond j above)
  where
    by_test : (b : Bool) → holds j ≡ Free → cond b Free (holds j) ≡ Free
    by_test true free = refl
    by_test false free = free

-- a meeting leaves it so
IsWithin-meets : (k : Kind) (count : ℕ) (s : Seats ℕ) (t : ℕ) (item : Option ℕ) (side : Side) → IsWithin count s → IsWithin count (meets k s t item side)
IsWithin-meets k count s t item side within =
    by_cases (IsWithin count) (partner (end_of k.order) s.line side) (paired (λ mark. mark) (end_of k.order) s t item) s
    (λ e found. record {
      lined = All-unmet (λ f. f.seat < count) (end_of k.order) s.line within.lined;
      beyond = λ j above. cond_both e.waits (put_at s.holds e.seat (paired_hold (λ mark. mark) e.ticket e.item t item)) s.holds (λ holds. holds j ≡ Free)
          (λ _. put_below count s.holds e.seat (paired_hold (λ mark. mark) e.ticket e.item t item) (partner-there (λ f. f.seat < count) (end_of k.order) s.line side e within.lined found) within.beyond j above)
          (λ _. within.beyond j above);
    })
    (λ none. within)

-- so does an interrupt: what a seat beyond holds stands in no line
IsWithin-interrupted : (count : ℕ) (s : Seats ℕ) (j : ℕ) → IsWithin count s → IsWithin count (interrupted s j)
IsWithin-interrupted count s j within =
    by_cases (IsWithin count) (entry_of s.line (s.holds j)) (cut_off s j) (flagged s j true)
    (λ e found. record {
      lined = All-without_first (λ f. f.seat < count) e.ticket s.line within.lined;
      beyond = put_below count s.holds j (Cut e.ticket e.item) (there e found) within.beyond;
    })
    (λ none. record { lined = within.lined; beyond = within.beyond })
  where
    there : (e : Entry ℕ) → entry_of s.line (s.holds j) ≡ Some e → j < count
    there e found = ⊎_elim (λ below. below) (λ above. let free : s.holds j ≡ Free = within.beyond j above in let none : entry_of s.line (s.holds j) ≡ None = ap (entry_of s.line) free in absurd (cc)) (cases_lt j count)

-- a new entry at the line's end
IsWithin-queued : (count : ℕ) (s : Seats ℕ) (i t : ℕ) (item : Option ℕ) (waits : Bool) → i < count → IsWithin count s → IsWithin count (queued s i t item waits)
IsWithin-queued count s i t item waits there within = record {
  lined = All-append (λ f. f.seat < count) s.line (record { ticket = t; seat = i; item = item; waits = waits } ∷ []) within.lined (All-cons (λ f. f.seat < count) (record { ticket = t; seat = i; item = item; waits = waits }) [] there (All-nil (λ f. f.seat < count)));
  beyond = λ j above. cond_both waits (put_at s.holds i (Waiting t)) s.holds (λ holds. holds j ≡ Free)
      (λ _. put_below count s.holds i (Waiting t) there within.beyond j above)
      (λ _. within.beyond j above);
}

-- the seat's open ticket ends
IsWithin-released : (count : ℕ) (s : Seats ℕ) (i : ℕ) → IsWithin count s → IsWithin count (released s i)
IsWithin-released count s i within = record { lined = within.lined; beyond = put_free count s.holds i within.beyond }

IsWithin-withdrawn : (count : ℕ) (s : Seats ℕ) (i t : ℕ) → IsWithin count s → IsWithin count (withdrawn s i t)
IsWithin-withdrawn count s i t within = record { lined = All-without_first (λ f. f.seat < count) t s.line within.lined; beyond = put_free count s.holds i within.beyond }

-- each deed leaves it so, if its request is of a seat of the place
pub IsWithin-after : (k : Kind) (count : ℕ) (s : Seats ℕ) (i t : ℕ) (deed : Deed) → (is_request deed ≡ true → i < count) → IsWithin count s → IsWithin count (seats_after k s i t deed)
IsWithin-after k count s i t (GiveWaits m) there within = IsWithin-queued count s i t (Some m) true (there refl) within
IsWithin-after k count s i t (GiveMeets m u) there within = IsWithin-meets k count s t (Some m) Giver within
IsWithin-after k count s i t (GiveFails m) there within = within
IsWithin-after k count s i t (GiveKept m) there within = IsWithin-queued count s i t (Some m) false (there refl) within
IsWithin-after k count s i t TakeWaits there within = IsWithin-queued count s i t None true (there refl) within
IsWithin-after k count s i t (TakeMeets m u) there within = IsWithin-meets k count s t None Taker within
IsWithin-after k count s i t TakeFails there within = within
IsWithin-after k count s i t (EntryInterrupted side) there within = record { lined = within.lined; beyond = within.beyond }
IsWithin-after k count s i t Done there within = IsWithin-released count s i within
IsWithin-after k count s i t (Got m u) there within = IsWithin-released count s i within
IsWithin-after k count s i t (Withdrawn Cancelled) there within = IsWithin-withdrawn count s i t within
IsWithin-after k count s i t (Withdrawn Expired) there within = IsWithin-withdrawn count s i t within
IsWithin-after k count s i t (Withdrawn Interrupted) there within = IsWithin-released count s i within
IsWithin-after k count s i t (Interrupt j) there within = IsWithin-interrupted count s j within
