-- Proof of `hold_line`, src/checker/place/base.rt. The seats of a line's entries hold their tickets where these wait.
use Rattle.std.proofs.Common.{◌≡◌, ◌+◌, ◌∙◌, ◌<◌, ◌≤◌, sym, ap, ℕ, List, ◌∷◌, [], ◌++◌, take, length, get_or}
use Rattle.std.proofs.lemmas.List.{take_more}
use Rattle.meet_tickets.specs.declared.lines.Entry.{Entry}
use Rattle.meet_tickets.specs.declared.lines.Hold.{Hold}
use Rattle.meet_tickets.specs.BySeat.{put_at}
use Rattle.meet_tickets.specs.Bases.{waiting_held}
use Rattle.meet_core.specs.Table.{hold_at}
use Rattle.meet_history.specs.Checking.{AreSeated}
use Rattle.meet_history.proofs.Layings.{waits-more, kept-more}
use Rattle.meet_history.proofs.Seated.{seated-longer, seated-added}
use Rattle.meet_history.proofs.checker.place.base.hold_line.Goals.{then-entry+in_ok-hold, else-entry+in_ok-make_seat}
use Rattle.meet_history.proofs.checker.place.base.hold_line.Goals as goal

-- one entry more has its seat there
seated-more : (count more : ℕ) (line : List (Entry ℕ)) (i : ℕ) (e : Entry ℕ) → i < length line → e ≡ get_or line i e → count ≤ more → e.seat < more → AreSeated count (take i line) → AreSeated more (take (i + 1) line)
seated-more count more line i e lt is longer there seated =
    let next : take (i + 1) line ≡ take i line ++ e ∷ [] = take_more line i e lt ∙ ap (λ x. take i line ++ x ∷ []) (sym is) in
    rw next (seated-added more (take i line) e there (seated-longer count more (take i line) longer seated))

pub loop-entry-preserved : goal.loop-entry-preserved
loop-entry-preserved c =
    let before = c.loop-entry.invariant in
    let entry = c.entry-item.result in
    let holds = hold_at c.args.table.now.holds in
    let line = c.args.line.now in
    let at = c.loop-entry.entry-index in
    elim c.if-entry.branch [
      | then-entry+in_ok-hold w ↦ rw w.table-is (record {
        holds = w.in_ok-hold.ensures.holds ∙ ap (λ (f : ℕ → Hold ℕ). put_at f entry.seat (waiting_held entry).hold) before.holds ∙ sym (waits-more holds line at entry c.loop-entry-test.true c.entry-item.is w.if-entry.true);
        flags = w.hold.ensures.flags ∙ before.flags;
        seated = seated-more _ _ line at entry c.loop-entry-test.true c.entry-item.is w.hold.ensures.more w.in_ok-hold.ensures.seat before.seated;
      })
      | else-entry+in_ok-make_seat w ↦ rw w.table-is (record {
        holds = w.make_seat.ensures.holds ∙ before.holds ∙ sym (kept-more holds line at entry c.loop-entry-test.true c.entry-item.is w.if-entry.false);
        flags = w.make_seat.ensures.flags ∙ before.flags;
        seated = seated-more _ _ line at entry c.loop-entry-test.true c.entry-item.is w.make_seat.ensures.more w.in_ok-make_seat.ensures.seat before.seated;
      })
    ]
