-- Proof of `read_calls_from`, src/reading.rt. Reads the text of calls from a reader.
use Rattle.std.proofs.Common.{Some, sym, subst, [], ◌∷◌, ◌++◌}
use Rattle.std.specs.Io.KnownBytes.{Consumes}
use Rattle.meet_judge.proofs.Taken.{one_more_taken}
use Rattle.meet_judge.specs.CallText.{calls_text}
use Rattle.meet_judge.specs.Reading.{ReadsNext}
use Rattle.meet_judge.proofs.reading.read_calls_from.Goals as goal

pub loop-number-preserved : goal.loop-number-preserved
loop-number-preserved g c =
    let old = g.R.Read.remaining c.args.reader.now in
    let mid = g.R.Read.remaining c.loop-number.reader in
    let new = g.R.Read.remaining c.read_next.new.reader in
    let before = c.loop-number.calls in
    let after = c.read_next.new.calls in
    let next : ReadsNext (Some c.in-Some.next) mid new before after = rw c.in-Some.is at c.in_ok-next.ensures in
    let taken : Consumes old new (calls_text before.queue (before.list.items ++ next.0 ∷ [])) = one_more_taken before.queue before.list.items next.0 old mid new c.loop-number.invariant next.1 in
    let listed : Consumes old new (calls_text before.queue after.list.items) = subst (λ list. Consumes old new (calls_text before.queue list)) (sym next.3) taken in
    subst (λ queue. Consumes old new (calls_text queue after.list.items)) (sym next.2) listed
