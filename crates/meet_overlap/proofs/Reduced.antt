-- A call that was met or cut may as well end at once: its ending changes nothing for any other call.
use Rattle.std.proofs.Common.{◌≡◌, ◌≢◌, ℕ, Bool, true, false, cond, Option, Some, None, List, eqb, refl, sym, ap, ◌∙◌, ⊎_elim, ◌⊎◌, inl, inr}
use Rattle.std.specs.Prelude.{◌==◌}
use Rattle.std.specs.Option.{option_map_or}
use Rattle.std.proofs.Math.Path.{fun_ext}
use Rattle.std.proofs.lemmas.Bool.Decides.{eqb_tells}
use Rattle.meet_tickets.specs.declared.lines.Entry.{Entry}
use Rattle.meet_tickets.specs.declared.lines.Hold.{Hold}
use Rattle.meet_tickets.specs.declared.lines.Hold.TheVariants.{Free, Waiting, Handed, Served, Cut}
use Rattle.meet_tickets.specs.declared.places.End.{End}
use Rattle.meet_tickets.specs.declared.places.Kind.{Kind}
use Rattle.meet_tickets.specs.declared.places.Side.{Side}
use Rattle.meet_tickets.specs.declared.places.Side.TheVariants.{Giver, Taker}
use Rattle.meet_tickets.specs.declared.records.Cause.TheVariants.{Cancelled, Expired, Interrupted}
use Rattle.meet_tickets.specs.declared.records.Deed.{Deed}
use Rattle.meet_tickets.specs.declared.records.Deed.TheVariants.{GiveWaits, GiveMeets, GiveFails, GiveKept, TakeWaits, TakeMeets, TakeFails, EntryInterrupted, Done, Got, Withdrawn, Interrupt}
use Rattle.meet_tickets.specs.Meeting.{end_of, partner}
use Rattle.meet_tickets.specs.BySeat.{Seats, put_at, entry_of, unmet, without_first, paired, paired_hold, meets, cut_off, flagged, released, interrupted, seats_after}
use Rattle.meet_overlap.specs.Known.{IsGone, IsSettledBy}
use Rattle.meet_overlap.proofs.Settled.{IsInterrupt, IsElse, gone_partner}
use Rattle.meet_overlap.proofs.Ways.{put_same, put_other}

-- writing at two places, in either order
put_swap_here : {A : Type 0} (f : ℕ → A) (i j : ℕ) (x y : A) (n : ℕ) → i ≢ j →
    ((eqb n i ≡ true) × (n ≡ i)) ⊎ ((eqb n i ≡ false) × (n ≢ i)) → put_at (put_at f i x) j y n ≡ put_at (put_at f j y) i x n
put_swap_here f i j x y n other (inl h) =
    put_other (put_at f i x) j y n (λ q. other (sym h.1 ∙ q))
    ∙ ap (λ b. cond b x (f n)) h.0
    ∙ sym (ap (λ b. cond b x (put_at f j y n)) h.0)
put_swap_here f i j x y n other (inr h) =
    ap (λ z. cond (eqb n j) y z) (put_other f i x n h.1)
    ∙ sym (put_other (put_at f j y) i x n h.1)

pub put_swap : {A : Type 0} (f : ℕ → A) (i j : ℕ) (x y : A) → i ≢ j → put_at (put_at f i x) j y ≡ put_at (put_at f j y) i x
put_swap f i j x y other = fun_ext λ n. put_swap_here f i j x y n other (eqb_tells n i)

-- writing twice at one place
holding : (line : List (Entry ℕ)) (flags : ℕ → Bool) (one other : ℕ → Hold ℕ) → one ≡ other → Path (Seats ℕ) (record { line = line; holds = one; flags = flags }) (record { line = line; holds = other; flags = flags })
holding line flags one other is = ap (λ h. record { line = line; holds = h; flags = flags }) is

module _ (i : ℕ) (s : Seats ℕ) (gone : IsGone i s.line) where
  -- another is met, before or after
  pair_swap : (end : End) (t : ℕ) (item : Option ℕ) (e : Entry ℕ) (waits : Bool) → e.waits ≡ waits → IsElse i e →
      paired (λ mark. mark) end (released s i) t item e ≡ released (paired (λ mark. mark) end s t item e) i
  pair_swap end t item e true waits other =
      let hold = paired_hold (λ mark. mark) e.ticket e.item t item in
      holding (unmet end s.line) s.flags (cond e.waits (put_at (put_at s.holds i Free) e.seat hold) (put_at s.holds i Free)) (put_at (cond e.waits (put_at s.holds e.seat hold) s.holds) i Free)
      (ap (λ b. cond b (put_at (put_at s.holds i Free) e.seat hold) (put_at s.holds i Free)) waits
      ∙ put_swap s.holds i e.seat Free hold (λ is. other waits (sym is))
      ∙ sym (ap (λ b. put_at (cond b (put_at s.holds e.seat hold) s.holds) i Free) waits))
  pair_swap end t item e false waits other =
      let hold = paired_hold (λ mark. mark) e.ticket e.item t item in
      holding (unmet end s.line) s.flags (cond e.waits (put_at (put_at s.holds i Free) e.seat hold) (put_at s.holds i Free)) (put_at (cond e.waits (put_at s.holds e.seat hold) s.holds) i Free)
      (ap (λ b. cond b (put_at (put_at s.holds i Free) e.seat hold) (put_at s.holds i Free)) waits
      ∙ sym (ap (λ b. put_at (cond b (put_at s.holds e.seat hold) s.holds) i Free) waits))

  meet_swap : (k : Kind) (t : ℕ) (item : Option ℕ) (side : Side) → meets k (released s i) t item side ≡ released (meets k s t item side) i
  meet_swap k t item side = here (partner (end_of k.order) s.line side) refl
    where
      here : (found : Option (Entry ℕ)) → partner (end_of k.order) s.line side ≡ found →
          option_map_or (paired (λ mark. mark) (end_of k.order) (released s i) t item) found (released s i) ≡ released (option_map_or (paired (λ mark. mark) (end_of k.order) s t item) found s) i
      here None is = refl
      here (Some e) is = pair_swap (end_of k.order) t item e e.waits refl (gone_partner i (end_of k.order) s.line side e gone is)

  -- who stands in the line is who stood there
  pub entry_swap : (u j : ℕ) → IsSettledBy u (s.holds i) → entry_of s.line (put_at s.holds i Free j) ≡ entry_of s.line (s.holds j)
  entry_swap u j settled = ⊎_elim
      (λ q. ap (λ n. entry_of s.line (put_at s.holds i Free n)) q.1 ∙ ap (entry_of s.line) (put_same s.holds i Free) ∙ sym (none (s.holds i) settled) ∙ sym (ap (λ n. entry_of s.line (s.holds n)) q.1))
      (λ q. ap (entry_of s.line) (put_other s.holds i Free j q.1))
      (eqb_tells j i)
    where
      none : (h : Hold ℕ) → IsSettledBy u h → entry_of s.line h ≡ None
      none Free settled = absurd settled
      none (Waiting t) settled = absurd settled
      none (Handed t v m) settled = refl
      none (Served t v m) settled = refl
      none (Cut t m) settled = refl

  cut_swap : (u j : ℕ) → IsSettledBy u (s.holds i) → interrupted (released s i) j ≡ released (interrupted s j) i
  cut_swap u j settled =
      ap (λ found. option_map_or (cut_off (released s i) j) found (flagged (released s i) j true)) (entry_swap u j settled)
      ∙ here (entry_of s.line (s.holds j)) refl
    where
      never : (h : Hold ℕ) (e : Entry ℕ) → IsSettledBy u h → entry_of s.line h ≡ Some e → ⊥
      never Free e settled is = settled
      never (Waiting t) e settled is = settled
      never (Handed t v m) e settled is = absurd (cc)
      never (Served t v m) e settled is = absurd (cc)
      never (Cut t m) e settled is = absurd (cc)

      here : (found : Option (Entry ℕ)) → entry_of s.line (s.holds j) ≡ found →
          option_map_or (cut_off (released s i) j) found (flagged (released s i) j true) ≡ released (option_map_or (cut_off s j) found (flagged s j true)) i
      here None is = refl
      here (Some e) is = holding (without_first (λ f. f.ticket == e.ticket) s.line) s.flags _ _
          (put_swap s.holds i j Free (Cut e.ticket e.item) (λ at. never (s.holds i) e settled (ap (λ x. entry_of s.line (s.holds x)) at ∙ is)))

-- a deed of another seat, or an interrupt, leaves the same before the release and behind it
pub seats_swap : (k : Kind) (s : Seats ℕ) (i j t u : ℕ) (d : Deed) → IsSettledBy u (s.holds i) → IsGone i s.line → (i ≡ j → IsInterrupt d) → seats_after k (released s i) j t d ≡ released (seats_after k s j t d) i
seats_swap k s i j t u (GiveWaits m) settled gone other = holding _ s.flags _ _ (put_swap s.holds i j Free (Waiting t) (λ is. other is))
seats_swap k s i j t u (GiveMeets m v) settled gone other = meet_swap i s gone k t (Some m) Giver
seats_swap k s i j t u (GiveFails m) settled gone other = refl
seats_swap k s i j t u (GiveKept m) settled gone other = refl
seats_swap k s i j t u TakeWaits settled gone other = holding _ s.flags _ _ (put_swap s.holds i j Free (Waiting t) (λ is. other is))
seats_swap k s i j t u (TakeMeets m v) settled gone other = meet_swap i s gone k t None Taker
seats_swap k s i j t u TakeFails settled gone other = refl
seats_swap k s i j t u (EntryInterrupted side) settled gone other = refl
seats_swap k s i j t u Done settled gone other = holding s.line s.flags _ _ (put_swap s.holds i j Free Free (λ is. other is))
seats_swap k s i j t u (Got m v) settled gone other = holding s.line s.flags _ _ (put_swap s.holds i j Free Free (λ is. other is))
seats_swap k s i j t u (Withdrawn Cancelled) settled gone other = holding _ s.flags _ _ (put_swap s.holds i j Free Free (λ is. other is))
seats_swap k s i j t u (Withdrawn Expired) settled gone other = holding _ s.flags _ _ (put_swap s.holds i j Free Free (λ is. other is))
seats_swap k s i j t u (Withdrawn Interrupted) settled gone other = holding s.line s.flags _ _ (put_swap s.holds i j Free Free (λ is. other is))
seats_swap k s i j t u (Interrupt target) settled gone other = cut_swap i s gone u target settled
