-- Proof of `CheckedPlace::on`, src/checker/place/base.rt. The place that a well-formed base stands for.
use Rattle.std.proofs.Common.{◌≡◌, ◌∙◌, ◌<◌, ◌≤◌, ℕ, false, List, sym, ap, subst, All, map, length, arith}
use Rattle.std.proofs.lemmas.List.Elements.{All-weaker}
use Rattle.meet_tickets.specs.declared.lines.Entry.{Entry}
use Rattle.meet_tickets.specs.declared.bases.OpenPair.{OpenPair}
use Rattle.meet_tickets.specs.declared.bases.OpenCut.{OpenCut}
use Rattle.meet_tickets.specs.Bases.{Based, paired_held, cut_held}
use Rattle.meet_core.specs.Table.{hold_at, flag_at}
use Rattle.meet_history.specs.Checking.{AreSeated}
use Rattle.meet_history.specs.Laid.{held_once, waiting_in_line, flagged_once}
use Rattle.meet_history.specs.Marks.{IsNewest}
use Rattle.meet_history.proofs.Layings.{first-named, newest-within, laid-all, flagged-all}
use Rattle.meet_history.proofs.Seated.{seated-longer}
use Rattle.meet_history.proofs.checker.place.CheckedPlace.on.Goals as goal

pub of-requires-clause-named : goal.of-requires-clause-named
of-requires-clause-named c =
    let b = c.args.base.now in
    let line : c.as_slice.result.now ≡ b.line = c.as_slice.ensures.value ∙ ap (λ (x : Based). x.line) c.base.view_is in
    let named : All (λ (e : Entry ℕ). (1 ≤ e.ticket) × (e.ticket ≤ b.last)) b.line = first-named (λ t. (1 ≤ t) × (t ≤ b.last)) (λ (e : Entry ℕ). e.ticket) b.line _ c.requires.named in
    let some : All (λ (e : Entry ℕ). 0 < e.ticket) b.line = All-weaker (λ (e : Entry ℕ). (1 ≤ e.ticket) × (e.ticket ≤ b.last)) (λ (e : Entry ℕ). 0 < e.ticket) (λ e h. omega (arith, h.0)) b.line named in
    subst (All (λ (e : Entry ℕ). 0 < e.ticket)) (sym line) some

pub invariant_of-result : goal.invariant_of-result
invariant_of-result c =
    let b = c.args.base.now in
    let line : c.in_ok-line.line.entries ≡ b.line = c.in_ok-line.ensures.entries ∙ c.as_slice.ensures.value ∙ ap (λ (x : Based). x.line) c.base.view_is in
    let own : c.as_slice-2.result.now ≡ b.line = c.as_slice-2.ensures.value ∙ ap (λ (x : Based). x.line) c.base.view_is in
    let named : All (λ (e : Entry ℕ). (1 ≤ e.ticket) × (e.ticket ≤ b.last)) b.line = first-named (λ t. (1 ≤ t) × (t ≤ b.last)) (λ (e : Entry ℕ). e.ticket) b.line _ c.requires.named in
    let low : All (λ (e : Entry ℕ). e.ticket ≤ b.last) b.line = All-weaker (λ (e : Entry ℕ). (1 ≤ e.ticket) × (e.ticket ≤ b.last)) (λ (e : Entry ℕ). e.ticket ≤ b.last) (λ e h. h.1) b.line named in
    let newest : IsNewest b.line c.in_ok-line.line.newest = subst (λ xs. IsNewest xs c.in_ok-line.line.newest) (c.as_slice.ensures.value ∙ ap (λ (x : Based). x.line) c.base.view_is) c.in_ok-line.ensures.newest in
    let last = ap (λ (x : Based). x.last) c.base.view_is in
    let longer : length c.hold_line.new.table.holds ≤ length c.flag_all.new.table.holds = omega (arith, c.hold_pairs.ensures.more, c.hold_cut.ensures.more, c.flag_all.ensures.more) in
    let seated : AreSeated (length c.flag_all.new.table.holds) c.as_slice-2.result.now = seated-longer (length c.hold_line.new.table.holds) (length c.flag_all.new.table.holds) c.as_slice-2.result.now longer c.in_ok-hold_line.ensures.seated in (
      subst (AreSeated (length c.flag_all.new.table.holds)) (own ∙ sym line) seated,
      c.in_ok-line.ensures.end ∙ c.end.ensures,
      (let within : c.in_ok-line.line.newest ≤ b.last = newest-within b.line c.in_ok-line.line.newest b.last newest low in omega (arith, within, last)),
    )

pub returns-clause-moment : goal.returns-clause-moment
returns-clause-moment c =
    let b = c.args.base.now in
    let last = ap (λ (x : Based). x.last) c.base.view_is in
    let line : c.in_ok-line.line.entries ≡ b.line = c.in_ok-line.ensures.entries ∙ c.as_slice.ensures.value ∙ ap (λ (x : Based). x.line) c.base.view_is in
    let f0 = hold_at c.in-Ok.seats.holds in
    let f1 = hold_at c.hold_line.new.table.holds in
    let f2 = hold_at c.hold_pairs.new.table.holds in
    let f3 = hold_at c.hold_cut.new.table.holds in
    let one : f1 ≡ held_once f0 (waiting_in_line b.line) = c.in_ok-hold_line.ensures.holds ∙ ap (λ xs. held_once f0 (waiting_in_line xs)) (c.as_slice-2.ensures.value ∙ ap (λ (x : Based). x.line) c.base.view_is) in
    let two : f2 ≡ held_once f1 (map paired_held b.pairs) = c.in_ok-hold_pairs.ensures.holds ∙ ap (λ (xs : List OpenPair). held_once f1 (map paired_held xs)) (c.as_slice-3.ensures.value ∙ ap (λ (x : Based). x.pairs) c.base.view_is) in
    let three : f3 ≡ held_once f2 (map cut_held b.cut) = c.in_ok-hold_cut.ensures.holds ∙ ap (λ (xs : List OpenCut). held_once f2 (map cut_held xs)) (c.as_slice-4.ensures.value ∙ ap (λ (x : Based). x.cut) c.base.view_is) in
    let holds = c.flag_all.ensures.holds ∙ laid-all b f0 f1 f2 f3 c.requires.seats c.in-Ok.ensures.holds one two three in
    let seats : flag_at c.hold_cut.new.table.flags ≡ (λ (i : ℕ). false) = c.hold_cut.ensures.flags ∙ c.hold_pairs.ensures.flags ∙ c.hold_line.ensures.flags ∙ c.in-Ok.ensures.flags in
    let flags = c.in_ok-flag_all.ensures.flags ∙ (λ i. flagged_once (seats i) ((c.as_slice-5.ensures.value ∙ ap (λ (x : Based). x.flags) c.base.view_is) i)) ∙ flagged-all b.flags in
    λ i. record { last = last i; seats = record { line = line i; holds = holds i; flags = flags i } }
