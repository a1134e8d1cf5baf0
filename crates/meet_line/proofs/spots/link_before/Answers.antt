-- Proof of `link_before`, src/spots.rt. Before the node at `at`, or last where that is none, comes `to`.
use Rattle.std.proofs.Common.{◌∙◌, ap, sym}
use Rattle.std.proofs.lemmas.List.{map-set}
use Rattle.std.proofs.Math.Seq.{map-set_same}
use Rattle.meet_line.specs.Seated.{befores_of, relinked}
use Rattle.meet_line.proofs.spots.link_before.Goals as goal

pub returns-in-Some-clause-slots : goal.returns-in-Some-clause-slots
returns-in-Some-clause-slots g c = map-set_same (λ s. s.entry) c.args.spots.now.items c.in-Some.key _ c.index_mut.result.now (ap (λ s. s.entry) c.index_mut.ensures.value)

pub returns-in-Some-clause-afters : goal.returns-in-Some-clause-afters
returns-in-Some-clause-afters g c = map-set_same (λ s. s.after) c.args.spots.now.items c.in-Some.key _ c.index_mut.result.now (ap (λ s. s.after) c.index_mut.ensures.value)

pub returns-in-Some-clause-befores : goal.returns-in-Some-clause-befores
returns-in-Some-clause-befores g c =
    map-set (λ s. s.before) c.args.spots.now.items c.in-Some.key _
    ∙ ap (λ o. relinked (befores_of c.args.spots.now.items) o c.args.to) (sym c.in-Some.is ∙ c.key.ensures)
