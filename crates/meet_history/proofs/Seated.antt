-- Entries whose seats are in a table, and what is counted of more seats than a table has.
use Rattle.std.proofs.Common.{◌≡◌, ℕ, ◌+◌, ◌-◌, ◌<◌, ◌≤◌, ◌==◌, refl, sym, ap, ◌∙◌, List, [], ◌∷◌, ◌++◌, length, replicate, arith, length-append}
use Rattle.std.proofs.lemmas.List.{length-replicate}
use Rattle.std.proofs.lemmas.List.Elements.{All-nil, All-cons, All-append, All-weaker}
use Rattle.meet_tickets.specs.declared.lines.Entry.{Entry}
use Rattle.meet_tickets.specs.declared.lines.Hold.{Hold}
use Rattle.meet_tickets.specs.declared.lines.Hold.TheVariants.{Free}
use Rattle.meet_tickets.specs.BySeat.{without_first, is_settled, settled_of}
use Rattle.meet_tickets.proofs.Line.Sides.{All-without_first}
use Rattle.meet_core.specs.Table.{hold_at}
use Rattle.meet_core.proofs.Counts.{count_by-holds, count_by-more_free, hold_at-more}
use Rattle.meet_history.specs.Checking.{AreSeated}

-- a longer table has them too
pub seated-longer : (count more : ℕ) (line : List (Entry ℕ)) → count ≤ more → AreSeated count line → AreSeated more line
seated-longer count more line longer seated = All-weaker (λ e. e.seat < count) (λ e. e.seat < more) (λ e below. let here : e.seat < count = below in omega arith) line seated

-- with a new one whose seat is there
pub seated-added : (count : ℕ) (line : List (Entry ℕ)) (e : Entry ℕ) → e.seat < count → AreSeated count line → AreSeated count (line ++ e ∷ [])
seated-added count line e there seated = All-append (λ f. f.seat < count) line (e ∷ []) seated (All-cons (λ f. f.seat < count) e [] there (All-nil (λ f. f.seat < count)))

-- without one that left
pub seated-removed : (count t : ℕ) (line line' : List (Entry ℕ)) → line' ≡ without_first (λ e. e.ticket == t) line → AreSeated count line → AreSeated count line'
seated-removed count t line line' is seated = rw is (All-without_first (λ e. e.seat < count) t line seated)

-- seats behind the table's hold nothing, and so they count nothing
pub settled-beyond : (holds : List (Hold ℕ)) (count : ℕ) → length holds ≤ count → settled_of count (hold_at holds) ≡ settled_of (length holds) (hold_at holds)
settled-beyond holds count longer =
    let more : ℕ = count - length holds in
    let padded : List (Hold ℕ) = holds ++ replicate more Free in
    let long : length padded ≡ count = length-append holds (replicate more Free) ∙ ap (λ n. length holds + n) (length-replicate more Free) ∙ omega arith in
    ap (settled_of count) (sym (hold_at-more holds more))
    ∙ ap (λ n. settled_of n (hold_at padded)) (sym long)
    ∙ count_by-holds is_settled padded
    ∙ count_by-more_free is_settled refl holds more
    ∙ sym (count_by-holds is_settled holds)
