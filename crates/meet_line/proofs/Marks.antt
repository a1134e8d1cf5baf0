-- A line is met, and left, the same for items and for their marks.
use Rattle.std.proofs.Common.{◌≡◌, ℕ, ◌-◌, ◌==◌, refl, sym, ap, ◌∙◌, Bool, true, false, cond, not, Option, Some, None, is_some, List, [], ◌∷◌, map, length, take, slice_get, find}
use Rattle.std.specs.Prelude.{option_map}
use Rattle.std.proofs.lemmas.List.{take-map, drop-map, length-map}
use Rattle.std.proofs.lemmas.Option.{slice_get-map}
use Rattle.meet_tickets.specs.declared.lines.Entry.{Entry}
use Rattle.meet_tickets.specs.declared.places.Side.{Side}
use Rattle.meet_tickets.specs.declared.places.Side.TheVariants.{Giver, Taker}
use Rattle.meet_tickets.specs.declared.places.End.{End}
use Rattle.meet_tickets.specs.declared.places.End.TheVariants.{Front, Back}
use Rattle.meet_tickets.specs.Meeting.{is_on, met, partner}
use Rattle.meet_tickets.specs.BySeat.{unmet, without_first}
use Rattle.meet_line.specs.Seen.{marked_entry}

module _ {T : Type 0} (mark : T → ℕ) where
  pub some-marked : {A B : Type 0} (f : A → B) (o : Option A) → is_some (option_map f o) ≡ is_some o
  some-marked f None = refl
  some-marked f (Some x) = refl

  pub is_on-marked : (side : Side) (e : Entry T) → is_on side (marked_entry mark e) ≡ is_on side e
  is_on-marked Giver e = some-marked mark e.item
  is_on-marked Taker e = ap not (some-marked mark e.item)

  -- whom a request meets
  met-marked : (end : End) (line : List (Entry T)) → met end (map (marked_entry mark) line) ≡ option_map (marked_entry mark) (met end line)
  met-marked Front line = slice_get-map (marked_entry mark) line 0
  met-marked Back line = ap (λ n. slice_get (map (marked_entry mark) line) (n - 1)) (length-map line (marked_entry mark)) ∙ slice_get-map (marked_entry mark) line (length line - 1)

  pub partner-marked : (end : End) (line : List (Entry T)) (side : Side) → partner end (map (marked_entry mark) line) side ≡ option_map (marked_entry mark) (partner end line side)
  partner-marked end [] side = refl
  partner-marked end (e ∷ line) side =
      (λ i. cond (is_on-marked side e i) None (met-marked end (e ∷ line) i)) ∙ by_test (is_on side e) (met end (e ∷ line))
    where
      by_test : (b : Bool) (o : Option (Entry T)) → cond b None (option_map (marked_entry mark) o) ≡ option_map (marked_entry mark) (cond b None o)
      by_test true o = refl
      by_test false o = refl

  -- what is left of a line
  pub unmet-marked : (end : End) (line : List (Entry T)) → map (marked_entry mark) (unmet end line) ≡ unmet end (map (marked_entry mark) line)
  unmet-marked Front line = sym (drop-map (marked_entry mark) 1 line)
  unmet-marked Back line = sym (ap (λ n. take (n - 1) (map (marked_entry mark) line)) (length-map line (marked_entry mark)) ∙ take-map (marked_entry mark) (length line - 1) line)

  pub find-marked : (t : ℕ) (line : List (Entry T)) → find (λ e. e.ticket == t) (map (marked_entry mark) line) ≡ option_map (marked_entry mark) (find (λ e. e.ticket == t) line)
  find-marked t [] = refl
  find-marked t (e ∷ line) = by_test (e.ticket == t) (find-marked t line)
    where
      by_test : (b : Bool) → find (λ e. e.ticket == t) (map (marked_entry mark) line) ≡ option_map (marked_entry mark) (find (λ e. e.ticket == t) line) → cond b (Some (marked_entry mark e)) (find (λ e. e.ticket == t) (map (marked_entry mark) line)) ≡ option_map (marked_entry mark) (cond b (Some e) (find (λ e. e.ticket == t) line))
      by_test true more = refl
      by_test false more = more

  pub without-marked : (t : ℕ) (line : List (Entry T)) → map (marked_entry mark) (without_first (λ e. e.ticket == t) line) ≡ without_first (λ e. e.ticket == t) (map (marked_entry mark) line)
  without-marked t [] = refl
  without-marked t (e ∷ line) = by_test (e.ticket == t) (without-marked t line)
    where
      by_test : (b : Bool) → map (marked_entry mark) (without_first (λ e. e.ticket == t) line) ≡ without_first (λ e. e.ticket == t) (map (marked_entry mark) line) → map (marked_entry mark) (cond b line (e ∷ without_first (λ e. e.ticket == t) line)) ≡ cond b (map (marked_entry mark) line) (marked_entry mark e ∷ without_first (λ e. e.ticket == t) (map (marked_entry mark) line))
      by_test true more = refl
      by_test false more = ap (λ l. marked_entry mark e ∷ l) more
