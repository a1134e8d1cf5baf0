-- What is left of a line.
use Rattle.std.proofs.Common.{◌≡◌, ℕ, ◌+◌, ◌-◌, ◌==◌, refl, sym, ap, ◌∙◌, Option, Some, None, List, [], ◌∷◌, ◌++◌, length, find, arith}
use Rattle.meet_tickets.specs.declared.lines.Entry.{Entry}
use Rattle.meet_tickets.specs.declared.places.End.{End}
use Rattle.meet_tickets.specs.declared.places.Side.{Side}
use Rattle.meet_tickets.specs.declared.places.Side.TheVariants.{Giver, Taker}
use Rattle.meet_tickets.specs.Meeting.{partner, waiting_count, kept_count, count_on, IsAlone}
use Rattle.meet_tickets.specs.BySeat.{unmet, without_first}
use Rattle.std.specs.Prelude.{All, is_some, is_none, if◌then◌else◌}
use Rattle.std.specs.Option.{option_map_or}
use Rattle.meet_tickets.proofs.Line.Counted.{giver-leaves, giver-removed}
use Rattle.meet_tickets.proofs.Line.Keeping.{kept-met, kept-found, all-counted}
use Rattle.meet_tickets.proofs.Line.Sides.{HasOneSide, HasOneSide-added, HasOneSide-unmet, All-unmet, found-ticket, partner-met}
use Rattle.meet_line.proofs.Removed.{removed-none}
use Rattle.meet_history.specs.declared.checker.Standing.{Standing}
use Rattle.meet_history.specs.Marks.{count_if_gives, count_if_kept}

-- an entry that finds nobody joins those of its side
pub one_side-joined : (end : End) (line line' : List (Entry ℕ)) (e : Entry ℕ) → line' ≡ line ++ e ∷ [] → HasOneSide line → IsAlone end line e.item → HasOneSide line'
one_side-joined end line line' e is one alone = rw is (by_item e.item refl alone)
  where
    by_item : (o : Option ℕ) → e.item ≡ o → IsAlone end line o → HasOneSide (line ++ e ∷ [])
    by_item None item alone = HasOneSide-added end line Taker e one alone (ap (λ o. is_none o) item)
    by_item (Some mark) item alone = HasOneSide-added end line Giver e one alone (ap (λ o. is_some o) item)

-- the partner leaves, if there is one: what holds of all still does, and what was counted is less by what it counts for
pub all-partner : (P : Entry ℕ → Type 0) (end : End) (line line' : List (Entry ℕ)) (o : Option (Entry ℕ)) → line' ≡ (if is_some o then unmet end line else line) → All P line → All P line'
all-partner P end line line' None is all = rw is all
all-partner P end line line' (Some e) is all = rw is (All-unmet P end line all)

pub one_side-partner : (end : End) (line line' : List (Entry ℕ)) (o : Option (Entry ℕ)) → line' ≡ (if is_some o then unmet end line else line) → HasOneSide line → HasOneSide line'
one_side-partner end line line' None is one = rw is one
one_side-partner end line line' (Some e) is one = rw is (HasOneSide-unmet end line one)

pub kept-partner : (end : End) (line line' : List (Entry ℕ)) (side : Side) (o : Option (Entry ℕ)) → o ≡ partner end line side → line' ≡ (if is_some o then unmet end line else line) → kept_count line' + count_if_kept o ≡ kept_count line
kept-partner end line line' side None found is = let same = ap kept_count is in omega (arith, same)
kept-partner end line line' side (Some e) found is = ap (λ l. kept_count l + count_if_kept (Some e)) is ∙ kept-met end line e (partner-met end line side e (sym found))

pub givers-partner : (end : End) (line line' : List (Entry ℕ)) (side : Side) (o : Option (Entry ℕ)) → o ≡ partner end line side → line' ≡ (if is_some o then unmet end line else line) → count_on Giver line' + count_if_gives o ≡ count_on Giver line
givers-partner end line line' side None found is = let same = ap (count_on Giver) is in omega (arith, same)
givers-partner end line line' side (Some e) found is = giver-leaves end line line' side e (sym found) is

-- the one of a ticket leaves, if it is there
pub kept-without : (t : ℕ) (line : List (Entry ℕ)) (o : Option (Entry ℕ)) → o ≡ find (λ e. e.ticket == t) line → kept_count (without_first (λ e. e.ticket == t) line) + count_if_kept o ≡ kept_count line
kept-without t line None is = let same = ap kept_count (removed-none t line _ is refl) in omega (arith, same)
kept-without t line (Some e) is = kept-found t line e (sym is)

pub givers-without : (t : ℕ) (line line' : List (Entry ℕ)) (o : Option (Entry ℕ)) → o ≡ find (λ e. e.ticket == t) line → line' ≡ without_first (λ e. e.ticket == t) line → count_on Giver line' + count_if_gives o ≡ count_on Giver line
givers-without t line line' None found is = let same = ap (count_on Giver) (removed-none t line line' found is) in omega (arith, same)
givers-without t line line' (Some e) found is = giver-removed t line line' e (sym found) is

-- a removal in the words of what was removed
pub removed-is : (t : ℕ) (line line' : List (Entry ℕ)) (o : Option (Entry ℕ)) → o ≡ find (λ e. e.ticket == t) line → line' ≡ without_first (λ e. e.ticket == t) line → line' ≡ option_map_or (λ (entry : Entry ℕ). without_first (λ e. e.ticket == entry.ticket) line) o line
removed-is t line line' None found is = removed-none t line line' found is
removed-is t line line' (Some e) found is = is ∙ ap (λ n. without_first (λ f. f.ticket == n) line) (sym (found-ticket t line e (sym found)))

-- those that wait are those that are not kept
pub waiting-is : (line : List (Entry ℕ)) (long kept : ℕ) → long ≡ length line → kept ≡ kept_count line → long - kept ≡ waiting_count line
waiting-is line long kept is own =
    let whole : waiting_count line + kept_count line ≡ length line = all-counted line in
    (λ i. is i - own i) ∙ omega (arith, whole)

-- standings are equal where their numbers are
pub standings-same : {a b x y k l : ℕ} → a ≡ b → x ≡ y → k ≡ l → let m : Standing = record { waiting = a; uncollected = x; kept = k } in let n : Standing = record { waiting = b; uncollected = y; kept = l } in m ≡ n
standings-same p q r = λ i. record { waiting = p i; uncollected = q i; kept = r i }
