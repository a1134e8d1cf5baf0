-- Proof of `longest_line`, src/line.rt. The longest line behind a base and any of the records since, which are legal.
use Rattle.std.proofs.Common.{◌≡◌, ℕ, ◌+◌, sym, ap, ◌∙◌, arith, take, subst}
use Rattle.meet_tickets.specs.declared.places.Kind.{Kind}
use Rattle.meet_tickets.specs.Bases.{IsWellFormed, IsLegalOn, moment_of_base}
use Rattle.meet_tickets.specs.BySeat.{moment_of}
use Rattle.meet_sum.specs.declared.line.LongestLine.{LongestLine}
use Rattle.meet_sum.specs.Lines.{line_behind, IsPeak}
use Rattle.meet_sum.proofs.LineLemmas.{fits-at, numbered-at, line-more, peak-new, peak-same}
use Rattle.meet_sum.proofs.line.longest_line.Goals as goal
use Rattle.meet_sum.proofs.line.longest_line.Goals.{then-line-longest, else-line-longest}

pub loop-entry-preserved : goal.loop-entry-preserved
loop-entry-preserved c =
    let b = c.args.base.now in
    let records = c.args.records.now in
    let i = c.loop-entry.entry-index in
    let before = c.loop-entry.invariant in
    let now : (k : Kind) → IsWellFormed k b → IsLegalOn k b records → c.line_after-line.result ≡ line_behind k b (take (i + 1) records) = λ k w legal.
    c.line_after-line.ensures.after k (moment_of k (moment_of_base b) (take i records)) (before.line k w legal)
    (fits-at k b records w legal i c.entry-item.result c.loop-entry-test.true c.entry-item.is) (numbered-at k b records w legal i)
    ∙ sym (line-more k b records w legal i c.entry-item.result c.loop-entry-test.true c.entry-item.is) in
    record {
      counted = omega (arith, before.counted);
      few = omega (arith, before.few, c.line_after-line.ensures.most);
      line = now;
      longest = λ k w legal.
          let peak = before.longest k w legal in
          let f : ℕ → ℕ = λ j. line_behind k b (take j records) in
          let x = c.line_after-line.result in
          elim c.if-line-longest.branch [
            | then-line-longest w' ↦ (
              i + 1,
              ap (λ (l : LongestLine). l.behind) w'.longest-is ∙ omega (arith, before.counted),
              subst (λ m. IsPeak f (i + 1) m (i + 1)) (sym (ap (λ (l : LongestLine). l.entries) w'.longest-is))
                  (peak-new f i c.loop-entry.longest.entries peak.0 x peak.2 (sym (now k w legal)) w'.if-line-longest.true),
            )
            | else-line-longest w' ↦ (
              peak.0,
              ap (λ (l : LongestLine). l.behind) w'.longest-is ∙ peak.1,
              subst (λ m. IsPeak f (i + 1) m peak.0) (sym (ap (λ (l : LongestLine). l.entries) w'.longest-is))
                  (peak-same f i c.loop-entry.longest.entries peak.0 x peak.2 (sym (now k w legal)) w'.if-line-longest.false),
            )
          ];
    }
