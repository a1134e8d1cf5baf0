-- Proof of `workers_of`, src/making.rt. The seats of workers, each where it lies while its worker isn't there.
use Rattle.std.proofs.Common.{rules, arith, ◌≡◌, false, Some, All, ap, ◌∙◌, sym, subst, ◌∷◌, [], ◌++◌, vec_len}
use Rattle.std.specs.Prelude.{is_none, replicate}
use Rattle.std.proofs.lemmas.List.{map-append}
use Rattle.std.proofs.lemmas.List.Elements.{All-tail}
use Rattle.pool_threads.specs.Mirrored.{away}
use Rattle.pool_threads.proofs.Lists.{replicate-snoc}
use Rattle.pool_threads.proofs.making.workers_of.Goals as goal

pub loop-seat-preserved : goal.loop-seat-preserved
loop-seat-preserved g c =
    let i = c.loop-seat.invariant in
    let steps = c.in-Some.ensures.steps in
    record {
      can = search rules;
      finite = search rules;
      rest = omega (arith, steps.1, c.push_reserved.ensures.len, i.rest);
      room = omega (arith, i.room, c.push_reserved.ensures.capacity);
      new = All-tail (λ seat. seat.list ≡ []) c.in-Some.seat _ (subst (All (λ seat. seat.list ≡ [])) steps.0 i.new);
      here = ap (λ l. away l) c.push_reserved.ensures.items ∙ map-append is_none c.loop-seat.workers.items (Some c.new.result ∷ [])
          ∙ ap (λ l. l ++ false ∷ []) i.here ∙ replicate-snoc (vec_len c.loop-seat.workers) false
          ∙ ap (λ k. replicate k false) (sym c.push_reserved.ensures.len);
    }
