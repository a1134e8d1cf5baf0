-- What stays true from turn to turn of `longest_line`, src/line.rt.
use Rattle.std.proofs.Common.{◌≡◌, ℕ, ◌+◌, ◌≤◌, length, take}
use Rattle.meet_tickets.specs.declared.places.Kind.{Kind}
use Rattle.meet_tickets.specs.Bases.{IsWellFormed, IsLegalOn}
use Rattle.meet_sum.specs.Lines.{line_behind, IsPeak}
use Rattle.meet_sum.proofs.line.longest_line.Given as goal

-- the longest line of those so far
abbrev pub invariant-loop-entry : goal.invariant-loop-entry
invariant-loop-entry l = record {
  counted : l.behind ≡ l.base.gone + l.entry-index;
  few : l.line ≤ length l.base.line + l.entry-index;
  line : (k : Kind) → IsWellFormed k l.base → IsLegalOn k l.base l.records
      → l.line ≡ line_behind k l.base (take l.entry-index l.records);
  longest : (k : Kind) → IsWellFormed k l.base → IsLegalOn k l.base l.records
      → (n : ℕ) × (l.longest.behind ≡ l.base.gone + n)
      × IsPeak (λ j. line_behind k l.base (take j l.records)) l.entry-index l.longest.entries n;
}
