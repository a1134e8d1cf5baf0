-- The moves of the rules are the same for items and for their marks.
use Rattle.std.proofs.Common.{◌≡◌, ℕ, ◌+◌, ◌==◌, refl, sym, ap, ◌∙◌, Bool, true, false, cond, Option, Some, None, not, List, [], ◌∷◌, map}
use Rattle.std.specs.Prelude.{option_map}
use Rattle.std.proofs.Math.Path.{fun_ext}
use Rattle.std.proofs.lemmas.List.{map-append}
use Rattle.meet_tickets.specs.declared.lines.Entry.{Entry}
use Rattle.meet_tickets.specs.declared.lines.Hold.{Hold}
use Rattle.meet_tickets.specs.declared.lines.Hold.TheVariants.{Free, Waiting, Handed, Served, Cut}
use Rattle.meet_tickets.specs.declared.places.End.{End}
use Rattle.std.proofs.lemmas.List.Sums.{sum_by-cons}
use Rattle.meet_tickets.specs.Meeting.{kept_count}
use Rattle.meet_tickets.specs.BySeat.{Seats, put_at, entry_of, queued, paired, paired_hold, released, withdrawn, cut_off}
use Rattle.meet_line.specs.Seen.{marked_entry}
use Rattle.meet_core.specs.Seen.{marked_hold, marked}
use Rattle.meet_line.proofs.Marks.{unmet-marked, find-marked, without-marked}

module _ {T : Type 0} (mark : T → ℕ) where
  -- how many are kept
  pub kept-marked : (line : List (Entry T)) → kept_count (map (marked_entry mark) line) ≡ kept_count line
  kept-marked [] = refl
  kept-marked (e ∷ line) =
      sum_by-cons (λ f. cond (not f.waits) 1 0) (marked_entry mark e) (map (marked_entry mark) line)
      ∙ (λ j. cond (not e.waits) 1 0 + kept-marked line j)
      ∙ sym (sum_by-cons (λ f. cond (not f.waits) 1 0) e line)

  -- the entry of what a seat holds
  pub entry_of-marked : (line : List (Entry T)) (hold : Hold T) → entry_of (map (marked_entry mark) line) (marked_hold mark hold) ≡ option_map (marked_entry mark) (entry_of line hold)
  entry_of-marked line Free = refl
  entry_of-marked line (Waiting t) = find-marked mark t line
  entry_of-marked line (Handed t u m) = refl
  entry_of-marked line (Served t u item) = refl
  entry_of-marked line (Cut t item) = refl

  -- what is put somewhere
  put_at-marked : (holds : ℕ → Hold T) (i : ℕ) (hold : Hold T) → (λ k. marked_hold mark (put_at holds i hold k)) ≡ put_at (λ k. marked_hold mark (holds k)) i (marked_hold mark hold)
  put_at-marked holds i hold = fun_ext (λ k. by_test (k == i) (holds k))
    where
      by_test : (b : Bool) (h : Hold T) → marked_hold mark (cond b hold h) ≡ cond b (marked_hold mark hold) (marked_hold mark h)
      by_test true h = refl
      by_test false h = refl

  -- what a met seat holds
  paired_hold-marked : (t : ℕ) (own : Option T) (u : ℕ) (brought : Option T) → marked_hold mark (paired_hold mark t own u brought) ≡ paired_hold (λ m. m) t (option_map mark own) u (option_map mark brought)
  paired_hold-marked t None u None = refl
  paired_hold-marked t None u (Some item) = refl
  paired_hold-marked t (Some item) u brought = refl

  -- the moves
  pub queued-marked : (s : Seats T) (i t : ℕ) (item : Option T) (waits : Bool) → marked mark (queued s i t item waits) ≡ queued (marked mark s) i t (option_map mark item) waits
  queued-marked s i t item waits =
      let e : Entry T = record { ticket = t; seat = i; item = item; waits = waits } in
      λ j. record { line = map-append (marked_entry mark) s.line (e ∷ []) j; holds = by_test waits j; flags = s.flags }
    where
      by_test : (b : Bool) → (λ k. marked_hold mark ((cond b (put_at s.holds i (Waiting t)) s.holds) k)) ≡ cond b (put_at (λ k. marked_hold mark (s.holds k)) i (Waiting t)) (λ k. marked_hold mark (s.holds k))
      by_test true = put_at-marked s.holds i (Waiting t)
      by_test false = refl

  pub paired-marked : (end : End) (s : Seats T) (t : ℕ) (item : Option T) (e : Entry T) → marked mark (paired mark end s t item e) ≡ paired (λ m. m) end (marked mark s) t (option_map mark item) (marked_entry mark e)
  paired-marked end s t item e = λ j. record { line = unmet-marked mark end s.line j; holds = by_test e.waits j; flags = s.flags }
    where
      hold : Hold T
      hold = paired_hold mark e.ticket e.item t item

      by_test : (b : Bool) → (λ k. marked_hold mark ((cond b (put_at s.holds e.seat hold) s.holds) k)) ≡ cond b (put_at (λ k. marked_hold mark (s.holds k)) e.seat (paired_hold (λ m. m) e.ticket (option_map mark e.item) t (option_map mark item))) (λ k. marked_hold mark (s.holds k))
      by_test true = put_at-marked s.holds e.seat hold ∙ ap (λ h. put_at (λ k. marked_hold mark (s.holds k)) e.seat h) (paired_hold-marked e.ticket e.item t item)
      by_test false = refl

  pub released-marked : (s : Seats T) (i : ℕ) → marked mark (released s i) ≡ released (marked mark s) i
  released-marked s i = λ j. record { line = map (marked_entry mark) s.line; holds = put_at-marked s.holds i Free j; flags = s.flags }

  pub withdrawn-marked : (s : Seats T) (i t : ℕ) → marked mark (withdrawn s i t) ≡ withdrawn (marked mark s) i t
  withdrawn-marked s i t = λ j. record { line = without-marked mark t s.line j; holds = put_at-marked s.holds i Free j; flags = s.flags }

  pub cut_off-marked : (s : Seats T) (i : ℕ) (e : Entry T) → marked mark (cut_off s i e) ≡ cut_off (marked mark s) i (marked_entry mark e)
  cut_off-marked s i e = λ j. record { line = without-marked mark e.ticket s.line j; holds = put_at-marked s.holds i (Cut e.ticket e.item) j; flags = s.flags }
