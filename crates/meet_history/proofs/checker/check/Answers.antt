-- Proof of `check`, src/checker.rt. Whether these records are a legal history of a place of this kind after this base,
-- and then where its tickets and items are.
use Rattle.std.proofs.Common.{◌≡◌, ◌∙◌, ◌+◌, ap, sym, subst, take, drop, ◌++◌, ◌∷◌, [], take-append-drop}
use Rattle.std.proofs.lemmas.List.{take_all, take_more}
use Rattle.meet_history.specs.Pushing.{HasSeen}
use Rattle.meet_history.proofs.Pushed.{fault-found, standing-seen}
use Rattle.meet_history.proofs.checker.check.Goals as goal

-- the records up to the one that was pushed
pub returns-in-Err-clause-fault : goal.returns-in-Err-clause-fault
returns-in-Err-clause-fault c =
    let before = c.loop-entry.invariant in
    let records = c.args.records.now in
    let n = c.loop-entry.entry-index in
    let more : take (n + 1) records ≡ take n records ++ c.entry-item.result ∷ [] = take_more records n c.entry-item.result c.loop-entry-test.true ∙ ap (λ x. take n records ++ x ∷ []) (sym c.entry-item.is) in
    let fault = c.in-Err.fault in
    let parts : records ≡ (take n records ++ c.entry-item.result ∷ []) ++ drop (n + 1) records = sym (take-append-drop (n + 1) records) ∙ ap (λ xs. xs ++ drop (n + 1) records) more in
    fault-found c.args.base.now c.push.new.self c.args.kind records (take n records ++ c.entry-item.result ∷ []) (drop (n + 1) records) fault parts (c.push.ensures.kind ∙ before.kind) (λ other. c.in-Err.ensures.seen (λ is. other cc) c.args.base.now (take n records) before.seen) c.in-Err.ensures.fault

pub loop-entry-preserved : goal.loop-entry-preserved
loop-entry-preserved c =
    let before = c.loop-entry.invariant in
    let records = c.args.records.now in
    let n = c.loop-entry.entry-index in
    let more : take (n + 1) records ≡ take n records ++ c.entry-item.result ∷ [] = take_more records n c.entry-item.result c.loop-entry-test.true ∙ ap (λ x. take n records ++ x ∷ []) (sym c.entry-item.is) in
    record {
      kind = c.push.ensures.kind ∙ before.kind;
      sound = c.in-Ok.ensures.sound;
      seen = subst (HasSeen c.args.base.now c.push.new.self) (sym more) (c.in-Ok.ensures.seen (λ is. cc) c.args.base.now (take n records) before.seen);
    }

pub returns-clause-standing : goal.returns-clause-standing
returns-clause-standing c =
    let all : take c.loop-entry.entry-index c.args.records.now ≡ c.args.records.now = take_all _ _ c.loop-entry-test.false in
    let seen : HasSeen c.args.base.now c.loop-entry.checker c.args.records.now = subst (HasSeen c.args.base.now c.loop-entry.checker) all c.loop-entry.invariant.seen in
    standing-seen c.args.base.now c.loop-entry.checker c.args.records.now c.standing.result seen c.standing.ensures.standing
