-- Proof of `write_erased`, src/trace/erase.rt. Writes what is left of these records, or which can't stand.
use Rattle.std.proofs.lemmas.Result.{err_from_is_err_and}
use Rattle.meet_run.proofs.Tracing.Erasing.{begins_illegal}
use Rattle.meet_run.proofs.trace.erase.write_erased.Goals as goal

pub returns-in_err-write_illegal-in-Err-Illegal-clause-begun : goal.returns-in_err-write_illegal-in-Err-Illegal-clause-begun
returns-in_err-write_illegal-in-Err-Illegal-clause-begun g c =
    let failed = err_from_is_err_and c.from_residual-in_err-write_illegal-in-Err-Illegal.result c.from_residual-in_err-write_illegal-in-Err-Illegal.ensures.1 in
    rw failed.1 (begins_illegal c.args.kind c.args.records.now c.in-Err-Illegal.field-0 c.in-Err-Illegal.place c.in-Err-Illegal.why (g.W.Write.contents c.args.writer.now) (g.W.Write.contents c.write_illegal.new.writer)
    c.in-Err-Illegal.field-0-is c.in-Err-Illegal.ensures.fault c.in-Err-Illegal.place-is c.in-Err-Illegal.why-is c.in_err-write_illegal-in-Err-Illegal.ensures.prefix)
