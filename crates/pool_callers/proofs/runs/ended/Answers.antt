-- Proof of `ended`, src/runs.rt.
use Rattle.std.proofs.Common.{◌≡◌, ◌≤◌, length, map, subst, ◌∙◌, arith, rules}
use Rattle.pool_core.specs.Histories.{IsLegalOn}
use Rattle.pool_callers.specs.PoolRuns.{AreWorthyLists}
use Rattle.pool_callers.proofs.WorthyLists.{are_worthy_lists}
use Rattle.pool_callers.proofs.runs.ended.Goals as goal

pub returns-in-Ok : goal.returns-in-Ok
returns-in-Ok g c =
    let close = c.in-Ok.ensures in let chronicle = c.in-Ok.chronicle in let backs = c.given_back.result.items in
    let settings = g.N.PoolLedgers.settings in
    let count : length backs ≡ settings.sizes.callers = search (rules, arith) in
    let lists = map (λ list. list.items) chronicle.lists.items in record {
      legal = subst (λ s. IsLegalOn s chronicle.base chronicle.records.items) close.left.1 close.left.2.legal;
      listed = close.listed;
      worthy = subst (λ n. AreWorthyLists g.W.Work.worth n lists) count
          (are_worthy_lists g.W.Work.worth backs close.lists.0 close.lists.1 close.lists.2 close.lists.3 lists close.lists.4);
      first = close.first;
      left = close.left;
      rises = close.rises;
      lists = close.count ∙ c.requires.all;
      cap = subst (λ n. length chronicle.records.items ≤ n) c.requires.cap close.cap;
      few = close.few;
    }
