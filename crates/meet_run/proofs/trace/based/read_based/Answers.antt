-- Proof of `read_based`, src/trace/based.rt. Reads what stands behind the first line of a trace that has a base.
use Rattle.std.proofs.Common.{◌≡◌, ◌+◌, true, false, ap, subst, ◌∙◌}
use Rattle.std.proofs.lemmas.Result.{err_from_is_err_and}
use Rattle.meet_tickets.specs.Bases.{Based}
use Rattle.meet_run.specs.Tracing.BasedTraces.{HasLaid}
use Rattle.meet_run.proofs.Texts.LineLemmas.{uses-more, ends-more}
use Rattle.meet_run.proofs.Tracing.Laid.{checked-left, kept-left, kept-none, bad-left}
use Rattle.meet_run.proofs.trace.based.read_based.Goals as goal

pub returns-in_err-base-clause-uses : goal.returns-in_err-base-clause-uses
returns-in_err-base-clause-uses g c = uses-more (g.R.Read.remaining c.args.reader.now) (g.R.Read.remaining c.read_ground.new.reader) (g.R.Read.remaining c.lay_pieces.new.reader) c.args.turns.now c.read_ground.new.turns c.lay_pieces.new.turns c.read_ground.ensures.uses c.lay_pieces.ensures.uses

pub returns-in-Err-clause-uses : goal.returns-in-Err-clause-uses
returns-in-Err-clause-uses g c = uses-more (g.R.Read.remaining c.args.reader.now) (g.R.Read.remaining c.read_ground.new.reader) (g.R.Read.remaining c.lay_pieces.new.reader) c.args.turns.now c.read_ground.new.turns c.lay_pieces.new.turns c.read_ground.ensures.uses c.lay_pieces.ensures.uses

pub returns-then-not-more-clause-uses : goal.returns-then-not-more-clause-uses
returns-then-not-more-clause-uses g c = uses-more (g.R.Read.remaining c.args.reader.now) (g.R.Read.remaining c.read_ground.new.reader) (g.R.Read.remaining c.lay_pieces.new.reader) c.args.turns.now c.read_ground.new.turns c.lay_pieces.new.turns c.read_ground.ensures.uses c.lay_pieces.ensures.uses

pub returns-clause-checked : goal.returns-clause-checked
returns-clause-checked g c =
    let own : c.in_ok-ground.ground.kind ≡ c.args.kind = c.in_ok-ground.ensures.kind in
    let laid : HasLaid c.args.kind c.in_ok-ground.ground.base true c.lay_pieces.new.line.items c.in_ok-base.base c.in_ok-base.first (g.R.Read.remaining c.read_ground.new.reader) (g.R.Read.remaining c.lay_pieces.new.reader) =
    subst (λ k. HasLaid k c.in_ok-ground.ground.base true c.lay_pieces.new.line.items c.in_ok-base.base c.in_ok-base.first (g.R.Read.remaining c.read_ground.new.reader) (g.R.Read.remaining c.lay_pieces.new.reader)) own
    (subst (λ b. HasLaid c.in_ok-ground.ground.kind c.in_ok-ground.ground.base b c.lay_pieces.new.line.items c.in_ok-base.base c.in_ok-base.first (g.R.Read.remaining c.read_ground.new.reader) (g.R.Read.remaining c.lay_pieces.new.reader)) c.if-not-more.false c.in_ok-base.ensures.laid) in
    checked-left c.args.kind c.in_ok-ground.ground.base c.in_ok-base.base c.lay_pieces.new.line.items c.in_ok-base.first (g.R.Read.remaining c.args.reader.now) (g.R.Read.remaining c.read_ground.new.reader) (g.R.Read.remaining c.lay_pieces.new.reader) c.in-Ok.checker c.push_from.new.checker c.in_ok-count.count _
    c.in_ok-ground.ensures.ground laid c.in_ok-count.ensures.pushed c.in-Ok.ensures.seen (c.push_from.ensures.kind ∙ c.in-Ok.ensures.kind)
    (ap (λ (b : Based). b.gone + c.in_ok-count.count) c.base.view_is)

pub returns-clause-kept : goal.returns-clause-kept
returns-clause-kept g c =
    let own : c.in_ok-ground.ground.kind ≡ c.args.kind = c.in_ok-ground.ensures.kind in
    let laid : HasLaid c.args.kind c.in_ok-ground.ground.base true c.lay_pieces.new.line.items c.in_ok-base.base c.in_ok-base.first (g.R.Read.remaining c.read_ground.new.reader) (g.R.Read.remaining c.lay_pieces.new.reader) =
    subst (λ k. HasLaid k c.in_ok-ground.ground.base true c.lay_pieces.new.line.items c.in_ok-base.base c.in_ok-base.first (g.R.Read.remaining c.read_ground.new.reader) (g.R.Read.remaining c.lay_pieces.new.reader)) own
    (subst (λ b. HasLaid c.in_ok-ground.ground.kind c.in_ok-ground.ground.base b c.lay_pieces.new.line.items c.in_ok-base.base c.in_ok-base.first (g.R.Read.remaining c.read_ground.new.reader) (g.R.Read.remaining c.lay_pieces.new.reader)) c.if-not-more.false c.in_ok-base.ensures.laid) in
    kept-left c.args.kind c.in_ok-ground.ground.base c.in_ok-base.base c.lay_pieces.new.line.items c.in_ok-base.first (g.R.Read.remaining c.args.reader.now) (g.R.Read.remaining c.read_ground.new.reader) (g.R.Read.remaining c.lay_pieces.new.reader) c.args.kept.now.wanted c.push_from.new.kept
    c.in_ok-ground.ensures.ground laid c.in_ok-count.ensures.kept

pub returns-then-not-more-clause-kept : goal.returns-then-not-more-clause-kept
returns-then-not-more-clause-kept g c =
    let own : c.in_ok-ground.ground.kind ≡ c.args.kind = c.in_ok-ground.ensures.kind in
    let laid : HasLaid c.args.kind c.in_ok-ground.ground.base false c.lay_pieces.new.line.items c.in_ok-base.base c.in_ok-base.first (g.R.Read.remaining c.read_ground.new.reader) (g.R.Read.remaining c.lay_pieces.new.reader) =
    subst (λ k. HasLaid k c.in_ok-ground.ground.base false c.lay_pieces.new.line.items c.in_ok-base.base c.in_ok-base.first (g.R.Read.remaining c.read_ground.new.reader) (g.R.Read.remaining c.lay_pieces.new.reader)) own
    (subst (λ b. HasLaid c.in_ok-ground.ground.kind c.in_ok-ground.ground.base b c.lay_pieces.new.line.items c.in_ok-base.base c.in_ok-base.first (g.R.Read.remaining c.read_ground.new.reader) (g.R.Read.remaining c.lay_pieces.new.reader)) c.if-not-more.true c.in_ok-base.ensures.laid) in
    kept-none c.args.kind c.in_ok-ground.ground.base c.in_ok-base.base c.lay_pieces.new.line.items c.in_ok-base.first (g.R.Read.remaining c.args.reader.now) (g.R.Read.remaining c.read_ground.new.reader) (g.R.Read.remaining c.lay_pieces.new.reader) c.args.kept.now.wanted c.args.kept.now
    c.in_ok-ground.ensures.ground laid c.requires.nothing

pub returns-clause-uses : goal.returns-clause-uses
returns-clause-uses g c = uses-more (g.R.Read.remaining c.args.reader.now) (g.R.Read.remaining c.lay_pieces.new.reader) (g.R.Read.remaining c.push_from.new.reader) c.args.turns.now c.lay_pieces.new.turns c.push_from.new.turns (uses-more (g.R.Read.remaining c.args.reader.now) (g.R.Read.remaining c.read_ground.new.reader) (g.R.Read.remaining c.lay_pieces.new.reader) c.args.turns.now c.read_ground.new.turns c.lay_pieces.new.turns c.read_ground.ensures.uses c.lay_pieces.ensures.uses) c.push_from.ensures.uses

pub returns-in_err-count-clause-bad : goal.returns-in_err-count-clause-bad
returns-in_err-count-clause-bad g c =
    let own : c.in_ok-ground.ground.kind ≡ c.args.kind = c.in_ok-ground.ensures.kind in
    let laid : HasLaid c.args.kind c.in_ok-ground.ground.base true c.lay_pieces.new.line.items c.in_ok-base.base c.in_ok-base.first (g.R.Read.remaining c.read_ground.new.reader) (g.R.Read.remaining c.lay_pieces.new.reader) =
    subst (λ k. HasLaid k c.in_ok-ground.ground.base true c.lay_pieces.new.line.items c.in_ok-base.base c.in_ok-base.first (g.R.Read.remaining c.read_ground.new.reader) (g.R.Read.remaining c.lay_pieces.new.reader)) own
    (subst (λ b. HasLaid c.in_ok-ground.ground.kind c.in_ok-ground.ground.base b c.lay_pieces.new.line.items c.in_ok-base.base c.in_ok-base.first (g.R.Read.remaining c.read_ground.new.reader) (g.R.Read.remaining c.lay_pieces.new.reader)) c.if-not-more.false c.in_ok-base.ensures.laid) in
    let failed = err_from_is_err_and c.from_residual-in_err-count.result c.from_residual-in_err-count.ensures.1 in
    rw (failed.1, failed.2) (bad-left c.args.kind c.in_ok-ground.ground.base c.in_ok-base.base c.lay_pieces.new.line.items c.in_ok-base.first (g.R.Read.remaining c.args.reader.now) (g.R.Read.remaining c.read_ground.new.reader) (g.R.Read.remaining c.lay_pieces.new.reader) c.in_err-count.field-0.0 c.in_ok-ground.ensures.ground laid c.in_err-count.ensures.bad)

pub returns-in_err-count-clause-uses : goal.returns-in_err-count-clause-uses
returns-in_err-count-clause-uses g c = uses-more (g.R.Read.remaining c.args.reader.now) (g.R.Read.remaining c.lay_pieces.new.reader) (g.R.Read.remaining c.push_from.new.reader) c.args.turns.now c.lay_pieces.new.turns c.push_from.new.turns (uses-more (g.R.Read.remaining c.args.reader.now) (g.R.Read.remaining c.read_ground.new.reader) (g.R.Read.remaining c.lay_pieces.new.reader) c.args.turns.now c.read_ground.new.turns c.lay_pieces.new.turns c.read_ground.ensures.uses c.lay_pieces.ensures.uses) c.push_from.ensures.uses

pub returns-clause-ends : goal.returns-clause-ends
returns-clause-ends g c =
    ends-more (g.R.Read.remaining c.args.reader.now) (g.R.Read.remaining c.lay_pieces.new.reader) c.args.turns.now c.lay_pieces.new.turns (uses-more (g.R.Read.remaining c.args.reader.now) (g.R.Read.remaining c.read_ground.new.reader) (g.R.Read.remaining c.lay_pieces.new.reader) c.args.turns.now c.read_ground.new.turns c.lay_pieces.new.turns c.read_ground.ensures.uses c.lay_pieces.ensures.uses) c.in_ok-count.ensures.ends
