-- Proof of `Kept::keep`, src/trace/kept.rt. Keeps a record, if they are wanted.
use Rattle.meet_run.proofs.Tracing.KeepingLemmas.{kept-more, kept-still}
use Rattle.std.proofs.Common.{refl}
use Rattle.meet_run.proofs.trace.kept.Kept.keep.Goals as goal

pub returns-in_ok-push : goal.returns-in_ok-push
returns-in_ok-push c = λ wanted past was. kept-more wanted _ _ past c.args.entry.now was refl c.if-self.true c.in_ok-push.ensures.items

pub returns-else-self : goal.returns-else-self
returns-else-self c = λ wanted past was. kept-still wanted _ _ past c.args.entry.now was refl c.if-self.false refl
