-- Proof of `At::execute`, src/at.rt.
use Rattle.std.proofs.Common.{◌≡◌, ◌≢◌, Some, refl, arith, rules}
use Rattle.meet_tickets.specs.declared.refusals.Refusal.TheVariants.{NoThread}
use Rattle.pool_threads.specs.Outcomes.{Handed, answer_of}
use Rattle.pool_callers.specs.Handles.{Stays, IsUnbegun}
use Rattle.pool_callers.proofs.Readied.{does_ok, does_err}
use Rattle.pool_callers.proofs.at.AtPoolHandle.execute.Goals as goal

pub returns-clause-handed : goal.returns-clause-handed
returns-clause-handed g c =
    let there : c.args.self.now.seat ≡ Some c.unwrap-seat.result = search (rules, arith) in
    let keeps = c.args.self.now.keeps_log in let tag = g.C.Call.tag_of c.args.job in
    does_ok c.handed-seat.result.1 g.N.Ledger.parts (record { seat = c.args.self.now.seat; keeps_log = keeps })
    (record { seat = Some c.handed-seat.result.0; keeps_log = keeps })
    (λ outcome ready after. Handed ready after tag (answer_of tag outcome)) c.unwrap-seat.result c.readied-seat.result
    c.handed-seat.result.0 there refl refl c.readied-seat.ensures.ready c.handed-seat.ensures.handed

pub returns-clause-unstarted : goal.returns-clause-unstarted
returns-clause-unstarted g c =
    let there : c.args.self.now.seat ≡ Some c.unwrap-seat.result = search (rules, arith) in
    let keeps = c.args.self.now.keeps_log in let tag = g.C.Call.tag_of c.args.job in
    does_err c.handed-seat.result.1 (λ refused. refused.why ≡ NoThread) g.N.Ledger.parts
    (record { seat = c.args.self.now.seat; keeps_log = keeps })
    (record { seat = Some c.handed-seat.result.0; keeps_log = keeps })
    (λ refused ready after. IsUnbegun ready after tag c.args.job refused.job) c.unwrap-seat.result c.readied-seat.result
    c.handed-seat.result.0 there refl refl c.readied-seat.ensures.ready c.handed-seat.ensures.unstarted

pub returns-clause-same : goal.returns-clause-same
returns-clause-same g c =
    let there : c.args.self.now.seat ≡ Some c.unwrap-seat.result = search (rules, arith) in
    let keeps = c.args.self.now.keeps_log in
    does_err c.handed-seat.result.1 (λ refused. refused.why ≢ NoThread) g.N.Ledger.parts
    (record { seat = c.args.self.now.seat; keeps_log = keeps })
    (record { seat = Some c.handed-seat.result.0; keeps_log = keeps })
    (λ refused ready after. Stays ready after) c.unwrap-seat.result c.readied-seat.result
    c.handed-seat.result.0 there refl refl c.readied-seat.ensures.ready c.handed-seat.ensures.same
