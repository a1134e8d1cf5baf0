-- Proof of `check_pool`, src/checker.rt. Whether these records are a legal history of a new pool of these settings, and
-- then what it counts.
use Rattle.std.proofs.Common.{◌≡◌, ◌∙◌, ◌+◌, ap, sym, subst, take, drop, ◌++◌, ◌∷◌, [], take-append-drop}
use Rattle.std.proofs.lemmas.List.{take_all, take_more}
use Rattle.pool_core.specs.Histories.{no_base}
use Rattle.pool_history.specs.Pushing.{HasSeen}
use Rattle.pool_history.proofs.Pushed.{fault-found, counters-seen}
use Rattle.pool_history.proofs.checker.check_pool.Goals as goal

-- the records up to the one that was pushed
pub returns-in-Err-clause-fault : goal.returns-in-Err-clause-fault
returns-in-Err-clause-fault c =
    let before = c.loop-entry.invariant in
    let records = c.args.records.now in
    let n = c.loop-entry.entry-index in
    let more : take (n + 1) records ≡ take n records ++ c.entry-item.result ∷ [] = take_more records n c.entry-item.result c.loop-entry-test.true ∙ ap (λ x. take n records ++ x ∷ []) (sym c.entry-item.is) in
    let fault = c.in-Err.fault in
    let parts : records ≡ (take n records ++ c.entry-item.result ∷ []) ++ drop (n + 1) records = sym (take-append-drop (n + 1) records) ∙ ap (λ xs. xs ++ drop (n + 1) records) more in
    fault-found no_base c.push.new.self c.args.settings records (take n records ++ c.entry-item.result ∷ []) (drop (n + 1) records) fault parts (c.push.ensures.settings ∙ before.settings) (λ other. c.in-Err.ensures.seen (λ is. other cc) no_base (take n records) before.seen) c.in-Err.ensures.fault

pub loop-entry-preserved : goal.loop-entry-preserved
loop-entry-preserved c =
    let before = c.loop-entry.invariant in
    let records = c.args.records.now in
    let n = c.loop-entry.entry-index in
    let more : take (n + 1) records ≡ take n records ++ c.entry-item.result ∷ [] = take_more records n c.entry-item.result c.loop-entry-test.true ∙ ap (λ x. take n records ++ x ∷ []) (sym c.entry-item.is) in
    record {
      settings = c.push.ensures.settings ∙ before.settings;
      sound = c.in-Ok.ensures.sound;
      seen = subst (HasSeen no_base c.push.new.self) (sym more) (c.in-Ok.ensures.seen (λ is. cc) no_base (take n records) before.seen);
    }

pub returns-clause-counters : goal.returns-clause-counters
returns-clause-counters c =
    let all : take c.loop-entry.entry-index c.args.records.now ≡ c.args.records.now = take_all _ _ c.loop-entry-test.false in
    let seen : HasSeen no_base c.loop-entry.checker c.args.records.now = subst (HasSeen no_base c.loop-entry.checker) all c.loop-entry.invariant.seen in
    counters-seen no_base c.loop-entry.checker c.args.settings c.args.records.now c.counters.result c.loop-entry.invariant.settings seen c.counters.ensures.counters
