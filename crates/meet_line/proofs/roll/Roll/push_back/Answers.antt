-- Proof of `Roll::push_back`, src/roll.rt. A ticket comes to the end; its key.
use Rattle.std.proofs.Common.{◌++◌, ◌∷◌, [], ◌∙◌, ap, rules}
use Rattle.std.proofs.lemmas.List.{get_or_read}
use Rattle.meet_line.proofs.Rolls.{roll-closed}
use Rattle.meet_line.proofs.Places.{places-fresh}
use Rattle.meet_line.proofs.Moved.{Pushes, pushed, pushed-places}
use Rattle.meet_line.proofs.roll.Roll.push_back.Goals.{After-self-1}
use Rattle.meet_line.proofs.roll.Roll.push_back.Goals as goal

-- the values that the code goes through
steps : (c : After-self-1) → Pushes c.self.inside.nodes c.self.inside.first c.self.inside.last c.self.inside.table.items c.insert_reserved-key.result c.args.ticket c.bucket_of-bucket.result c.index.result.now c.insert_reserved-key.new.self c.link_after.new.nodes c.link_newer.new.nodes c.link_after.new.first
steps c = record {
  bucket = search rules;
  some = search rules;
  newest_is = get_or_read c.self.inside.table.items _ _ (search rules) c.index.ensures _;
  vacant = c.insert_reserved-key.ensures.was_vacant;
  inserted = rw (c.none.ensures, c.none-2.ensures) at c.insert_reserved-key.ensures.updates;
  len = c.insert_reserved-key.ensures.len;
  linked = rw c.to-own.ensures at c.link_after.ensures.nodes;
  first_is = rw c.to-own.ensures at c.link_after.ensures.first;
  chained = rw c.to-own.ensures at c.link_newer.ensures.nodes;
}

pub invariant_of-self : goal.invariant_of-self
invariant_of-self c = rw c.to-own.ensures (roll-closed _ _ _ _ _ (pushed _ _ _ _ _ _ _ _ _ _ _ _ _ (steps c) c.self.invariant))

pub returns-clause-places : goal.returns-clause-places
returns-clause-places c =
    pushed-places c.self.inside.nodes c.self.inside.first c.self.inside.last c.self.inside.table.items _ _ _ _ _ _ _ _ (steps c) c.self.invariant
    ∙ ap (λ v. v.places ++ record { key = c.insert_reserved-key.result; ticket = c.args.ticket } ∷ []) c.self.view_is

pub returns-clause-fresh : goal.returns-clause-fresh
returns-clause-fresh c = rw (← c.self.view_is) (places-fresh c.self.inside.nodes c.insert_reserved-key.result _ (c.self.invariant.present c.insert_reserved-key.result c.insert_reserved-key.ensures.was_vacant))
