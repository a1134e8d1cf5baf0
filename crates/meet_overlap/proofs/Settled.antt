-- A call that was met or cut is settled: no other call changes what its seat holds, so it can only end as that says.
use Rattle.std.proofs.Common.{◌≡◌, ◌≢◌, ℕ, suc, zero, ◌-◌, Bool, true, false, Option, Some, None, List, [], ◌∷◌, ◌++◌, length, take, refl, sym, ap, ◌∙◌, subst}
use Rattle.std.specs.Prelude.{slice_get, if◌then◌else◌, ◌==◌}
use Rattle.std.specs.Option.{option_map_or}
use Rattle.meet_tickets.specs.declared.lines.Entry.{Entry}
use Rattle.meet_tickets.specs.declared.lines.Hold.{Hold}
use Rattle.meet_tickets.specs.declared.lines.Hold.TheVariants.{Free, Waiting, Handed, Served, Cut}
use Rattle.meet_tickets.specs.declared.places.End.{End}
use Rattle.meet_tickets.specs.declared.places.End.TheVariants.{Front, Back}
use Rattle.meet_tickets.specs.declared.places.Kind.{Kind}
use Rattle.meet_tickets.specs.declared.places.Side.{Side}
use Rattle.meet_tickets.specs.declared.places.Side.TheVariants.{Giver, Taker}
use Rattle.meet_tickets.specs.declared.records.Cause.TheVariants.{Cancelled, Expired, Interrupted}
use Rattle.meet_tickets.specs.declared.records.Deed.{Deed}
use Rattle.meet_tickets.specs.declared.records.Deed.TheVariants.{GiveWaits, GiveMeets, GiveFails, GiveKept, TakeWaits, TakeMeets, TakeFails, EntryInterrupted, Done, Got, Withdrawn, Interrupt}
use Rattle.meet_tickets.specs.Meeting.{end_of, met, is_on, partner}
use Rattle.meet_tickets.specs.BySeat.{Seats, put_at, entry_of, unmet, without_first, paired, paired_hold, meets, cut_off, flagged, interrupted, seats_after}
use Rattle.meet_overlap.specs.Known.{IsGone, IsSettledBy}
use Rattle.meet_overlap.proofs.Ways.{put_other}

abbrev pub IsElse : ℕ → Entry ℕ → Type 0
IsElse i e = e.waits ≡ true → e.seat ≡ i → ⊥

-- no entry of a seat waits in a line with one more, of another seat
gone_push : (i : ℕ) (line : List (Entry ℕ)) (e : Entry ℕ) → IsElse i e → IsGone i line → IsGone i (line ++ e ∷ [])
gone_push i [] e other gone = (other, tt)
gone_push i (f ∷ line) e other gone = (gone.0, gone_push i line e other gone.1)

gone_take : (i n : ℕ) (line : List (Entry ℕ)) → IsGone i line → IsGone i (take n line)
gone_take i zero line gone = tt
gone_take i (suc n) [] gone = tt
gone_take i (suc n) (e ∷ line) gone = (gone.0, gone_take i n line gone.1)

gone_unmet : (i : ℕ) (end : End) (line : List (Entry ℕ)) → IsGone i line → IsGone i (unmet end line)
gone_unmet i Front [] gone = tt
gone_unmet i Front (e ∷ line) gone = gone.1
gone_unmet i Back line gone = gone_take i (length line - 1) line gone

gone_without : (i : ℕ) (passes : Entry ℕ → Bool) (line : List (Entry ℕ)) → IsGone i line → IsGone i (without_first passes line)
gone_without i passes [] gone = tt
gone_without i passes (e ∷ line) gone = here (passes e) (gone_without i passes line gone.1)
  where
    here : (b : Bool) → IsGone i (without_first passes line) → IsGone i (if b then line else e ∷ without_first passes line)
    here true rest = gone.1
    here false rest = (gone.0, rest)

-- nor is who stands at a place of it
gone_at : (i n : ℕ) (line : List (Entry ℕ)) (e : Entry ℕ) → IsGone i line → slice_get line n ≡ Some e → IsElse i e
gone_at i zero [] e gone is = absurd (cc)
gone_at i (suc n) [] e gone is = absurd (cc)
gone_at i zero (f ∷ line) e gone is = let same : f ≡ e = cc in subst (IsElse i) same gone.0
gone_at i (suc n) (f ∷ line) e gone is = gone_at i n line e gone.1 is

gone_met : (i : ℕ) (end : End) (line : List (Entry ℕ)) (e : Entry ℕ) → IsGone i line → met end line ≡ Some e → IsElse i e
gone_met i Front line e gone is = gone_at i 0 line e gone is
gone_met i Back line e gone is = gone_at i (length line - 1) line e gone is

pub gone_partner : (i : ℕ) (end : End) (line : List (Entry ℕ)) (side : Side) (e : Entry ℕ) → IsGone i line → partner end line side ≡ Some e → IsElse i e
gone_partner i end [] side e gone is = absurd (cc)
gone_partner i end (f ∷ line) side e gone is = here (is_on side f) is
  where
    here : (b : Bool) → (if b then None else met end (f ∷ line)) ≡ Some e → IsElse i e
    here true q = absurd (cc)
    here false q = gone_met i end (f ∷ line) e gone q

-- what a seat holds, and that it doesn't wait in the line, are as before
pub record IsKept (i : ℕ) (s after : Seats ℕ) : Type 0 where
  pub hold : after.holds i ≡ s.holds i
  pub gone : IsGone i after.line

module _ (i : ℕ) (s : Seats ℕ) (gone : IsGone i s.line) where
  same : IsKept i s s
  same = record { hold = refl; gone = gone }

  -- another's hold changed
  other_put : (j : ℕ) (hold : Hold ℕ) (line : List (Entry ℕ)) (flags : ℕ → Bool) → i ≢ j → IsGone i line → IsKept i s (record { line = line; holds = put_at s.holds j hold; flags = flags })
  other_put j hold line flags other kept = record { hold = put_other s.holds j hold i other; gone = kept }

  -- another waits, or keeps an item there
  queue_kept : (j t : ℕ) (item : Option ℕ) → i ≢ j → IsGone i (s.line ++ record { ticket = t; seat = j; item = item; waits = true } ∷ [])
  queue_kept j t item other = gone_push i s.line (record { ticket = t; seat = j; item = item; waits = true }) (λ waits is. other (sym is)) gone

  keep_kept : (j t : ℕ) (item : Option ℕ) → IsGone i (s.line ++ record { ticket = t; seat = j; item = item; waits = false } ∷ [])
  keep_kept j t item = gone_push i s.line (record { ticket = t; seat = j; item = item; waits = false }) (λ waits is. absurd (cc)) gone

  -- another is met
  pair_kept : (end : End) (t : ℕ) (item : Option ℕ) (e : Entry ℕ) (waits : Bool) → e.waits ≡ waits → IsElse i e → IsKept i s (paired (λ mark. mark) end s t item e)
  pair_kept end t item e true waits other = record {
    hold =
        ap (λ b. (if b then put_at s.holds e.seat (paired_hold (λ mark. mark) e.ticket e.item t item) else s.holds) i) waits
        ∙ put_other s.holds e.seat (paired_hold (λ mark. mark) e.ticket e.item t item) i (λ is. other waits (sym is));
    gone = gone_unmet i end s.line gone;
  }
  pair_kept end t item e false waits other = record {
    hold = ap (λ b. (if b then put_at s.holds e.seat (paired_hold (λ mark. mark) e.ticket e.item t item) else s.holds) i) waits;
    gone = gone_unmet i end s.line gone;
  }

  meet_kept : (k : Kind) (t : ℕ) (item : Option ℕ) (side : Side) → IsKept i s (meets k s t item side)
  meet_kept k t item side = here (partner (end_of k.order) s.line side) refl
    where
      here : (found : Option (Entry ℕ)) → partner (end_of k.order) s.line side ≡ found → IsKept i s (option_map_or (paired (λ mark. mark) (end_of k.order) s t item) found s)
      here None is = same
      here (Some e) is = pair_kept (end_of k.order) t item e e.waits refl (gone_partner i (end_of k.order) s.line side e gone is)

  -- a seat is interrupted: it isn't this one that is cut, since what is settled doesn't stand in the line
  cut_kept : (t j : ℕ) → IsSettledBy t (s.holds i) → IsKept i s (interrupted s j)
  cut_kept t j settled = here (entry_of s.line (s.holds j)) refl
    where
      never : (h : Hold ℕ) (e : Entry ℕ) → IsSettledBy t h → entry_of s.line h ≡ Some e → ⊥
      never Free e settled is = settled
      never (Waiting u) e settled is = settled
      never (Handed u v m) e settled is = absurd (cc)
      never (Served u v m) e settled is = absurd (cc)
      never (Cut u m) e settled is = absurd (cc)

      here : (found : Option (Entry ℕ)) → entry_of s.line (s.holds j) ≡ found → IsKept i s (option_map_or (cut_off s j) found (flagged s j true))
      here None is = record { hold = refl; gone = gone }
      here (Some e) is = record {
        hold = put_other s.holds j (Cut e.ticket e.item) i (λ at. never (s.holds i) e settled (ap (λ x. entry_of s.line (s.holds x)) at ∙ is));
        gone = gone_without i (λ f. f.ticket == e.ticket) s.line gone;
      }

-- an interrupt
abbrev pub IsInterrupt : Deed → Type 0
IsInterrupt (Interrupt j) = Unit {0}
IsInterrupt deed = ⊥

-- a deed of another seat, or an interrupt, changes nothing for a seat that is settled
pub settled_kept : (k : Kind) (s : Seats ℕ) (i j t u : ℕ) (d : Deed) → IsSettledBy u (s.holds i) → IsGone i s.line → (i ≡ j → IsInterrupt d) → IsKept i s (seats_after k s j t d)
settled_kept k s i j t u (GiveWaits m) settled gone other = other_put i s gone j (Waiting t) _ s.flags (λ is. other is) (queue_kept i s gone j t (Some m) (λ is. other is))
settled_kept k s i j t u (GiveMeets m v) settled gone other = meet_kept i s gone k t (Some m) Giver
settled_kept k s i j t u (GiveFails m) settled gone other = same i s gone
settled_kept k s i j t u (GiveKept m) settled gone other = record { hold = refl; gone = keep_kept i s gone j t (Some m) }
settled_kept k s i j t u TakeWaits settled gone other = other_put i s gone j (Waiting t) _ s.flags (λ is. other is) (queue_kept i s gone j t None (λ is. other is))
settled_kept k s i j t u (TakeMeets m v) settled gone other = meet_kept i s gone k t None Taker
settled_kept k s i j t u TakeFails settled gone other = same i s gone
settled_kept k s i j t u (EntryInterrupted side) settled gone other = record { hold = refl; gone = gone }
settled_kept k s i j t u Done settled gone other = other_put i s gone j Free s.line s.flags (λ is. other is) gone
settled_kept k s i j t u (Got m v) settled gone other = other_put i s gone j Free s.line s.flags (λ is. other is) gone
settled_kept k s i j t u (Withdrawn Cancelled) settled gone other = other_put i s gone j Free _ s.flags (λ is. other is) (gone_without i (λ e. e.ticket == t) s.line gone)
settled_kept k s i j t u (Withdrawn Expired) settled gone other = other_put i s gone j Free _ s.flags (λ is. other is) (gone_without i (λ e. e.ticket == t) s.line gone)
settled_kept k s i j t u (Withdrawn Interrupted) settled gone other = other_put i s gone j Free s.line s.flags (λ is. other is) gone
settled_kept k s i j t u (Interrupt target) settled gone other = cut_kept i s gone u target settled

-- where no entry is one of the seat's that waits, the seat is gone from the line
pub gone_all : (i : ℕ) (line : List (Entry ℕ)) → ((n : ℕ) (e : Entry ℕ) → slice_get line n ≡ Some e → e.waits ≡ true → e.seat ≡ i → ⊥) → IsGone i line
gone_all i [] none = tt
gone_all i (e ∷ line) none = (none 0 e refl, gone_all i line (λ n f is. none (suc n) f is))
