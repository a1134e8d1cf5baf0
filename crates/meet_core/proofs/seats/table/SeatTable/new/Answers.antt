-- Proof of `SeatTable::new`, src/seats/table.rt. A table of this many seats, at most 65,536, none of which holds
-- anything or is flagged.
use Rattle.std.proofs.Common.{◌≡◌, ◌∙◌, ◌++◌, ◌∷◌, [], sym, ap, refl, arith, length}
use Rattle.std.proofs.lemmas.Grind.{common_steps}
use Rattle.std.proofs.lemmas.List.{replicate_more, length-replicate}
use Rattle.std.specs.Prelude.{count_by, Bool}
use Rattle.meet_tickets.specs.declared.lines.Hold.TheVariants.{Free}
use Rattle.meet_tickets.specs.BySeat.{is_open, is_settled}
use Rattle.meet_core.proofs.Counts.{count_by-replicate_free}
use Rattle.meet_core.proofs.seats.table.SeatTable.new.Goals as goal

pub loop-preserved : goal.loop-preserved
loop-preserved g c = record {
  filled = c.push_reserved.ensures.items ∙ ap (λ xs. xs ++ Free ∷ []) c.loop.invariant.filled ∙ replicate_more c.loop.counter Free;
  some = omega arith;
  room = omega arith;
}

pub invariant_of-result : goal.invariant_of-result
invariant_of-result g c =
    let n = c.loop.counter in
    let filled = c.loop.invariant.filled in
    let is_long : length c.loop.holds.items ≡ n = ap length filled ∙ length-replicate n Free in
    let flags_long : length c.in_ok-flags.flags.items ≡ c.args.count = grind (arith, common_steps, length-replicate {A = Bool}) in (
      omega arith,
      omega arith,
      sym (ap (count_by is_open) filled ∙ count_by-replicate_free is_open refl n),
      sym (ap (count_by is_settled) filled ∙ count_by-replicate_free is_settled refl n),
    )
