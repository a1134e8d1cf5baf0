-- Proof of `lay_pieces`, src/trace/based.rt. Reads the pieces of a base behind its numbers.
use Rattle.std.proofs.Common.{◌≡◌, ◌+◌, true, false, Some, None, arith, sym, ap, subst, ◌∙◌}
use Rattle.meet_tickets.specs.Bases.{Based}
use Rattle.meet_history.specs.Pieces.{may_follow}
use Rattle.meet_run.specs.Texts.Reading.{lines_of}
use Rattle.meet_run.specs.Tracing.BaseGrammar.{piece_of}
use Rattle.meet_run.specs.Tracing.BasedTraces.{told_from, HasLaid}
use Rattle.meet_run.proofs.Texts.LineLemmas.{uses-more}
use Rattle.meet_run.proofs.Tracing.TraceReading.{names-it}
use Rattle.meet_run.proofs.Tracing.Laid.{WasLaid, laid-more, laid-ill, laid-left, laid-end, laid-long, piece-gone}
use Rattle.meet_run.proofs.trace.based.lay_pieces.Goals as goal

pub returns-then-not-may_follow-clause-bad : goal.returns-then-not-may_follow-clause-bad
returns-then-not-may_follow-clause-bad g c =
    let is : piece_of c.read_line.new.line.items ≡ Some c.in-Some.piece = sym (c.read_piece.ensures ∙ ap piece_of c.as_slice.ensures.value) ∙ c.in-Some.is in
    let clash : may_follow c.args.ground.kind c.loop-line.ground.base c.in-Some.piece ≡ false =
    subst (λ k. may_follow k c.loop-line.ground.base c.in-Some.piece ≡ false) c.loop-line.invariant.kind (sym c.may_follow.ensures ∙ c.if-not-may_follow.true) in
    names-it (g.R.Read.remaining c.args.reader.now) (λ rest. (told_from c.args.ground.kind c.args.ground.base 3 (lines_of rest)).fault) c.at_line.result (c.loop-line.read + 1) c.at_line.ensures
    (laid-ill c.args.ground.kind c.args.ground.base c.loop-line.ground.base c.loop-line.read (g.R.Read.remaining c.args.reader.now) (g.R.Read.remaining c.loop-line.reader) (g.R.Read.remaining c.read_line.new.reader) c.read_line.new.line.items c.in-Some.piece c.loop-line.invariant.laid c.in-Line.ensures.read.0 is clash)

pub returns-then-not-may_follow-clause-uses : goal.returns-then-not-may_follow-clause-uses
returns-then-not-may_follow-clause-uses g c = uses-more (g.R.Read.remaining c.args.reader.now) (g.R.Read.remaining c.loop-line.reader) (g.R.Read.remaining c.read_line.new.reader) c.args.turns.now c.loop-line.turns c.read_line.new.turns c.loop-line.invariant.uses c.read_line.ensures.uses

pub returns-in-Err-clause-uses : goal.returns-in-Err-clause-uses
returns-in-Err-clause-uses g c = uses-more (g.R.Read.remaining c.args.reader.now) (g.R.Read.remaining c.loop-line.reader) (g.R.Read.remaining c.read_line.new.reader) c.args.turns.now c.loop-line.turns c.read_line.new.turns c.loop-line.invariant.uses c.read_line.ensures.uses

pub loop-line-preserved : goal.loop-line-preserved
loop-line-preserved g c =
    let is : piece_of c.read_line.new.line.items ≡ Some c.in-Some.piece = sym (c.read_piece.ensures ∙ ap piece_of c.as_slice.ensures.value) ∙ c.in-Some.is in
    let follows : may_follow c.args.ground.kind c.loop-line.ground.base c.in-Some.piece ≡ true =
    subst (λ k. may_follow k c.loop-line.ground.base c.in-Some.piece ≡ true) c.loop-line.invariant.kind (sym c.may_follow.ensures ∙ c.if-not-may_follow.false) in
    record {
      laid = subst (λ b. WasLaid c.args.ground.kind (g.R.Read.remaining c.args.reader.now) (g.R.Read.remaining c.read_line.new.reader) c.args.ground.base b (c.loop-line.read + 1)) (sym c.in-Ok.ensures.base)
          (laid-more c.args.ground.kind c.args.ground.base c.loop-line.ground.base c.loop-line.read (g.R.Read.remaining c.args.reader.now) (g.R.Read.remaining c.loop-line.reader) (g.R.Read.remaining c.read_line.new.reader) c.read_line.new.line.items c.in-Some.piece c.loop-line.invariant.laid c.in-Line.ensures.read.0 is follows);
      kind = c.in-Ok.ensures.kind ∙ c.loop-line.invariant.kind;
      gone = ap (λ (b : Based). b.gone) c.in-Ok.ensures.base ∙ (piece-gone c.loop-line.ground.base c.in-Some.piece ∙ c.loop-line.invariant.gone);
      uses = uses-more (g.R.Read.remaining c.args.reader.now) (g.R.Read.remaining c.loop-line.reader) (g.R.Read.remaining c.read_line.new.reader) c.args.turns.now c.loop-line.turns c.read_line.new.turns c.loop-line.invariant.uses c.read_line.ensures.uses;
      few = omega (arith, c.loop-line.invariant.few, c.in-Line.ensures.spends);
      room = c.read_line.ensures.room;
    }

pub returns-in-None-clause-laid : goal.returns-in-None-clause-laid
returns-in-None-clause-laid g c =
    let is : piece_of c.read_line.new.line.items ≡ None = sym (c.read_piece.ensures ∙ ap piece_of c.as_slice.ensures.value) ∙ c.in-None.is in
    subst (λ b. HasLaid c.args.ground.kind c.args.ground.base true c.read_line.new.line.items b (c.loop-line.read + 1) (g.R.Read.remaining c.args.reader.now) (g.R.Read.remaining c.read_line.new.reader)) (sym c.into_base.ensures.base)
    (laid-left c.args.ground.kind c.args.ground.base c.loop-line.ground.base c.loop-line.read (g.R.Read.remaining c.args.reader.now) (g.R.Read.remaining c.loop-line.reader) (g.R.Read.remaining c.read_line.new.reader) c.read_line.new.line.items c.loop-line.invariant.laid c.in-Line.ensures.read.0 is)

pub returns-in-None-clause-uses : goal.returns-in-None-clause-uses
returns-in-None-clause-uses g c = uses-more (g.R.Read.remaining c.args.reader.now) (g.R.Read.remaining c.loop-line.reader) (g.R.Read.remaining c.read_line.new.reader) c.args.turns.now c.loop-line.turns c.read_line.new.turns c.loop-line.invariant.uses c.read_line.ensures.uses

pub returns-in-End-clause-laid : goal.returns-in-End-clause-laid
returns-in-End-clause-laid g c =
    subst (λ b. HasLaid c.args.ground.kind c.args.ground.base false c.read_line.new.line.items b (c.loop-line.read + 1) (g.R.Read.remaining c.args.reader.now) (g.R.Read.remaining c.read_line.new.reader)) (sym c.into_base-in-End.ensures.base)
    (laid-end c.args.ground.kind c.args.ground.base c.loop-line.ground.base c.loop-line.read (g.R.Read.remaining c.args.reader.now) (g.R.Read.remaining c.loop-line.reader) (g.R.Read.remaining c.read_line.new.reader) c.read_line.new.line.items (c.loop-line.read + 1) c.loop-line.invariant.laid c.in-End.ensures.read.0 c.in-End.ensures.read.1)

pub returns-in-TooLong-clause-bad : goal.returns-in-TooLong-clause-bad
returns-in-TooLong-clause-bad g c =
    names-it (g.R.Read.remaining c.args.reader.now) (λ rest. (told_from c.args.ground.kind c.args.ground.base 3 (lines_of rest)).fault) c.at_line-in-TooLong.result (c.loop-line.read + 1) c.at_line-in-TooLong.ensures
    (laid-long c.args.ground.kind c.args.ground.base c.loop-line.ground.base c.loop-line.read (g.R.Read.remaining c.args.reader.now) (g.R.Read.remaining c.loop-line.reader) c.loop-line.invariant.laid c.in-TooLong.ensures.read)

pub returns-in-TooLong-clause-uses : goal.returns-in-TooLong-clause-uses
returns-in-TooLong-clause-uses g c = uses-more (g.R.Read.remaining c.args.reader.now) (g.R.Read.remaining c.loop-line.reader) (g.R.Read.remaining c.read_line.new.reader) c.args.turns.now c.loop-line.turns c.read_line.new.turns c.loop-line.invariant.uses c.read_line.ensures.uses

pub returns-in-Failed-clause-uses : goal.returns-in-Failed-clause-uses
returns-in-Failed-clause-uses g c = uses-more (g.R.Read.remaining c.args.reader.now) (g.R.Read.remaining c.loop-line.reader) (g.R.Read.remaining c.read_line.new.reader) c.args.turns.now c.loop-line.turns c.read_line.new.turns c.loop-line.invariant.uses c.read_line.ensures.uses
