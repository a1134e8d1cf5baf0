-- How many entries of a line are kept, as entries come and leave.
use Rattle.std.proofs.Common.{◌≡◌, ℕ, ◌+◌, ◌==◌, refl, sym, ap, ◌∙◌, Bool, true, false, not, cond, Some, List, [], ◌∷◌, ◌++◌, length, find, arith}
use Rattle.std.specs.Prelude.{All}
use Rattle.std.proofs.lemmas.List.Sums.{sum_by-cons}
use Rattle.std.proofs.lemmas.List.Elements.{All-nil, All-cons}
use Rattle.meet_tickets.specs.declared.lines.Entry.{Entry}
use Rattle.meet_tickets.specs.declared.places.End.{End}
use Rattle.meet_tickets.specs.declared.places.Side.{Side}
use Rattle.meet_tickets.specs.Meeting.{met, partner, waiting_count, kept_count}
use Rattle.meet_tickets.specs.BySeat.{unmet, without_first}
use Rattle.meet_tickets.proofs.Lists.Changed.{count-push}
use Rattle.meet_tickets.proofs.Line.Sides.{partner-met, partner-there}
use Rattle.meet_tickets.proofs.Lists.Tally.{count-met, count-found}

-- what an entry counts for: one where it is kept
abbrev pub kept_one : {X : Type 0} → Entry X → ℕ
kept_one e = cond (not e.waits) 1 0

pub kept-cons : {X : Type 0} (e : Entry X) (line : List (Entry X)) → kept_count (e ∷ line) ≡ kept_one e + kept_count line
kept-cons e line = sum_by-cons kept_one e line

-- an entry comes to the line's end
kept-push : {X : Type 0} (line : List (Entry X)) (e : Entry X) → kept_count (line ++ e ∷ []) ≡ kept_count line + kept_one e
kept-push line e = count-push (λ f. not f.waits) line e

pub kept-kept : {X : Type 0} (line : List (Entry X)) (e : Entry X) → e.waits ≡ false → kept_count (line ++ e ∷ []) ≡ kept_count line + 1
kept-kept line e kept = kept-push line e ∙ ap (λ b. kept_count line + cond (not b) 1 0) kept

pub kept-queued : {X : Type 0} (line : List (Entry X)) (e : Entry X) → e.waits ≡ true → kept_count (line ++ e ∷ []) ≡ kept_count line
kept-queued line e waits = let one : kept_one e ≡ 0 = ap (λ b. cond (not b) 1 0) waits in omega (arith, kept-push line e, one)

-- the one that is met leaves
pub kept-met : {X : Type 0} (end : End) (line : List (Entry X)) (e : Entry X) → met end line ≡ Some e → kept_count (unmet end line) + kept_one e ≡ kept_count line
kept-met end line e is = count-met (λ f. not f.waits) end line e is

-- the one of a ticket leaves
pub kept-found : {X : Type 0} (t : ℕ) (line : List (Entry X)) (e : Entry X) → find (λ f. f.ticket == t) line ≡ Some e → kept_count (without_first (λ f. f.ticket == t) line) + kept_one e ≡ kept_count line
kept-found t line e is = count-found (λ f. not f.waits) t line e is

-- an entry that waits counts for nothing: so much is kept as before
one-waits : {X : Type 0} (e : Entry X) (rest whole : ℕ) → rest + kept_one e ≡ whole → e.waits ≡ true → rest ≡ whole
one-waits e rest whole sum waits = let none : kept_one e ≡ 0 = ap (λ b. cond (not b) 1 0) waits in omega (arith, sum, none)

pub kept-partner_waits : {X : Type 0} (end : End) (line : List (Entry X)) (side : Side) (e : Entry X) → partner end line side ≡ Some e → e.waits ≡ true → kept_count (unmet end line) ≡ kept_count line
kept-partner_waits end line side e found waits = one-waits e (kept_count (unmet end line)) (kept_count line) (kept-met end line e (partner-met end line side e found)) waits

pub kept-found_waits : {X : Type 0} (t : ℕ) (line : List (Entry X)) (e : Entry X) → find (λ f. f.ticket == t) line ≡ Some e → e.waits ≡ true → kept_count (without_first (λ f. f.ticket == t) line) ≡ kept_count line
kept-found_waits t line e found waits = one-waits e (kept_count (without_first (λ f. f.ticket == t) line)) (kept_count line) (kept-found t line e found) waits

-- a kept one counts
pub kept-partner_kept : {X : Type 0} (end : End) (line : List (Entry X)) (side : Side) (e : Entry X) → partner end line side ≡ Some e → e.waits ≡ false → kept_count (unmet end line) + 1 ≡ kept_count line
kept-partner_kept end line side e found kept =
    let one : kept_one e ≡ 1 = ap (λ b. cond (not b) 1 0) kept in
    omega (arith, kept-met end line e (partner-met end line side e found), one)

-- each entry waits or is kept
pub all-counted : {X : Type 0} (line : List (Entry X)) → waiting_count line + kept_count line ≡ length line
all-counted [] = refl
all-counted (e ∷ line) =
    let rest : waiting_count line + kept_count line ≡ length line = all-counted line in
    let waits : waiting_count (e ∷ line) ≡ cond e.waits 1 0 + waiting_count line = sum_by-cons (λ f. cond f.waits 1 0) e line in
    let either : cond e.waits 1 0 + kept_one e ≡ 1 = by_test e.waits in
    omega (arith, rest, waits, kept-cons e line, either)
  where
    by_test : (b : Bool) → ◌≡◌ {A = ℕ} (cond b 1 0 + cond (not b) 1 0) 1
    by_test true = refl
    by_test false = refl

-- where nothing is kept, all wait
waits-one : (b : Bool) (n : ℕ) → cond (not b) 1 0 + n ≡ 0 → b ≡ true
waits-one true n none = refl
waits-one false n none = absurd (omega arith)

pub all-wait : {X : Type 0} (line : List (Entry X)) → kept_count line ≡ 0 → All (λ e. e.waits ≡ true) line
all-wait [] none = All-nil (λ e. e.waits ≡ true)
all-wait (e ∷ line) none =
    let sum : kept_count (e ∷ line) ≡ kept_one e + kept_count line = kept-cons e line in
    All-cons (λ f. f.waits ≡ true) e line (waits-one e.waits (kept_count line) (sym sum ∙ none)) (all-wait line (omega (arith, sum, none)))

pub partner-waits : {X : Type 0} (end : End) (line : List (Entry X)) (side : Side) (e : Entry X) → kept_count line ≡ 0 → partner end line side ≡ Some e → e.waits ≡ true
partner-waits end line side e none found = partner-there (λ f. f.waits ≡ true) end line side e (all-wait line none) found

-- the same of a line that is told by an equation
pub kept-joins : {X : Type 0} (line line' : List (Entry X)) (e : Entry X) → line' ≡ line ++ e ∷ [] → kept_count line' ≡ kept_count line + kept_one e
kept-joins line line' e is = ap kept_count is ∙ kept-push line e

pub kept-joined : {X : Type 0} (line line' : List (Entry X)) (e : Entry X) → line' ≡ line ++ e ∷ [] → e.waits ≡ true → kept_count line' ≡ kept_count line
kept-joined line line' e is waits = ap kept_count is ∙ kept-queued line e waits

pub kept-more : {X : Type 0} (line line' : List (Entry X)) (e : Entry X) → line' ≡ line ++ e ∷ [] → e.waits ≡ false → kept_count line' ≡ kept_count line + 1
kept-more line line' e is kept = ap kept_count is ∙ kept-kept line e kept

pub kept-paired : {X : Type 0} (end : End) (line line' : List (Entry X)) (side : Side) (e : Entry X) → partner end line side ≡ Some e → line' ≡ unmet end line → e.waits ≡ true → kept_count line' ≡ kept_count line
kept-paired end line line' side e found is waits = ap kept_count is ∙ kept-partner_waits end line side e found waits

pub kept-fetched : {X : Type 0} (end : End) (line line' : List (Entry X)) (side : Side) (e : Entry X) → partner end line side ≡ Some e → line' ≡ unmet end line → e.waits ≡ false → kept_count line' + 1 ≡ kept_count line
kept-fetched end line line' side e found is kept = ap (λ l. kept_count l + 1) is ∙ kept-partner_kept end line side e found kept

pub kept-removed : {X : Type 0} (t : ℕ) (line line' : List (Entry X)) (e : Entry X) → find (λ f. f.ticket == t) line ≡ Some e → line' ≡ without_first (λ f. f.ticket == t) line → e.waits ≡ true → kept_count line' ≡ kept_count line
kept-removed t line line' e found is waits = ap kept_count is ∙ kept-found_waits t line e found waits
