-- Proof of `closed`, src/runs.rt. Ends a task's exchanger with all its seats.
use Rattle.std.proofs.Common.{◌≡◌, ◌∙◌, sym, subst, map}
use Rattle.meet_exchange.specs.Rounds.{in_slot, parts_of}
use Rattle.meet_exchange.specs.Closed.{IsLeft, entry_at}
use Rattle.meet_exchanger.proofs.GivenBack.{memory_alone}
use Rattle.meet_exchanger.proofs.runs.closed.Goals as goal

pub returns-in-Ok : goal.returns-in-Ok
returns-in-Ok g c = let e = c.in-Ok.ensures in let rounds = map (λ rounds. rounds.items) c.in-Ok.closed.slots.items in let lists = map (λ list. list.items) c.in-Ok.closed.lists.items in
    let s = c.args.exchanger.slots in let mark = g.T.Marked.mark_of in let left = c.in-Ok.closed.left.items in record {
      history = e.history;
      count = e.count;
      lists = λ x k l. subst (λ z. in_slot k (entry_at lists x) ≡ parts_of x k z (entry_at rounds k)) c.requires.start (e.lists x k l);
      left = subst (λ n. IsLeft mark 0 (entry_at rounds) n left) (sym e.slots) (subst (λ z. IsLeft mark z (entry_at rounds) s left) c.requires.start e.left);
    }

pub returns-in-Err : goal.returns-in-Err
returns-in-Err g c = let e = c.in-Err.ensures in c.into_why.ensures ∙ memory_alone c.in-Err.fault.why _ _ e.missing e.memory c.requires.all
