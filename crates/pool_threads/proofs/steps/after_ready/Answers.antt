-- Proof of `after_ready`, src/steps.rt. Moves the jobs and the seat as an answer to `ready` says.
use Rattle.std.proofs.Common.{refl, sym, subst}
use Rattle.pool_threads.specs.NextFits.{ReadyNext}
use Rattle.pool_threads.specs.declared.steps.Next.TheVariants as next
use Rattle.pool_core.specs.Moves.{ReadyMoves}
use Rattle.pool_threads.specs.Mirrored.{tags_of, away}
use Rattle.pool_threads.proofs.steps.after_ready.Goals as goal

pub returns-in-Run : goal.returns-in-Run
returns-in-Run g c = record {
  next = subst (λ a. ReadyNext c.args.seat a (next.Run c.args.seat c.run.result)) (sym c.in-Run.is) (
    refl,
    (c.run.ensures.moves (away c.args.seats.now.items) c.in-Run.tag c.requires.moves.0
        (subst (λ a. ReadyMoves c.args.w a (tags_of c.args.kept.now.items c.args.given.now.items (away c.args.seats.now.items)) c.requires.moves.0) c.in-Run.is c.requires.moves.1)).0,
  );
  moves = λ new m. (c.run.ensures.moves (away c.args.seats.now.items) c.in-Run.tag new
      (subst (λ a. ReadyMoves c.args.w a (tags_of c.args.kept.now.items c.args.given.now.items (away c.args.seats.now.items)) new) c.in-Run.is m)).1;
}
