-- Proof of `Roll::remove`, src/roll.rt. The ticket under this key leaves.
use Rattle.std.proofs.Common.{◌++◌, ◌∷◌, ◌∙◌, ap, sym, subst, rules, map, None}
use Rattle.std.proofs.lemmas.List.{get_or_read}
use Rattle.slab.specs.Slab.{get}
use Rattle.meet_line.specs.Nodes.{put_end}
use Rattle.meet_line.specs.Rolled.{StandsAt, IsRoll, keys_of}
use Rattle.meet_line.proofs.Relinked.{gone-with_node}
use Rattle.meet_line.proofs.Rolls.{roll-closed}
use Rattle.meet_line.proofs.Places.{place_at, split_at}
use Rattle.meet_line.proofs.Standing.{bucket_from_stands, there-from_stands, contains-from_stands, some-from_there}
use Rattle.meet_line.proofs.Moved.{Takes, taken, taken-places}
use Rattle.meet_line.proofs.roll.Roll.remove.Goals.{After-remove}
use Rattle.meet_line.proofs.roll.Roll.remove.Goals as goal

pub index-node-requires : goal.index-node-requires
index-node-requires c =
    let stands : StandsAt (map (place_at c.self.inside.nodes) (keys_of c.self.inside.nodes c.self.inside.first)) c.args.key = subst (λ v. StandsAt v.places c.args.key) (sym c.self.view_is) c.requires in
    contains-from_stands c.self.inside.nodes c.self.inside.first c.self.inside.last c.self.inside.table.items _ c.self.invariant c.args.key stands

pub remove-requires : goal.remove-requires
remove-requires c =
    let stands : StandsAt (map (place_at c.self.inside.nodes) (keys_of c.self.inside.nodes c.self.inside.first)) c.args.key = subst (λ v. StandsAt v.places c.args.key) (sym c.self.view_is) c.requires in
    some-from_there (get c.link_older.new.nodes c.args.key) (λ none.
    let n = c.index-node.result.now in
    let none4 = ap (λ z. get z c.args.key) (sym c.link_older.ensures.nodes) ∙ none in
    let none3 = ap (λ z. get z c.args.key) (sym c.link_newer.ensures.nodes) ∙ gone-with_node c.link_newer.new.nodes n.newer (λ m. record m { older = n.older }) c.args.key none4 in
    let none2 = ap (λ z. get z c.args.key) (sym c.link_before.ensures.nodes) ∙ gone-with_node c.link_before.new.nodes n.older (λ m. record m { newer = n.newer }) c.args.key none3 in
    let none1 = ap (λ z. get z c.args.key) (sym c.link_after.ensures.nodes) ∙ gone-with_node c.link_after.new.nodes n.after (λ m. record m { before = n.before }) c.args.key none2 in
    let none0 = gone-with_node c.self.inside.nodes n.before (λ m. record m { after = n.after }) c.args.key none1 in
    there-from_stands c.self.inside.nodes c.self.inside.first c.self.inside.last c.self.inside.table.items _ c.self.invariant c.args.key stands none0)

-- the values that the code goes through
steps : (c : After-remove) → Takes c.self.inside.nodes c.self.inside.first c.self.inside.last c.self.inside.table.items c.args.key c.bucket_of-bucket.result c.index-node.result.now c.link_after.new.nodes c.link_before.new.nodes c.link_newer.new.nodes c.link_older.new.nodes c.remove.new.self c.link_after.new.first c.link_before.new.last c.link_older.new.newest
steps c =
    let stands : StandsAt (map (place_at c.self.inside.nodes) (keys_of c.self.inside.nodes c.self.inside.first)) c.args.key = subst (λ v. StandsAt v.places c.args.key) (sym c.self.view_is) c.requires in
    record {
      bucket = search rules;
      some = bucket_from_stands c.self.inside.nodes c.self.inside.first c.self.inside.last c.self.inside.table.items _ c.self.invariant c.args.key stands;
      here = c.index-node.ensures;
      after = c.link_after.ensures.nodes;
      first_is = c.link_after.ensures.first;
      before = c.link_before.ensures.nodes;
      last_is = c.link_before.ensures.last;
      newer = c.link_newer.ensures.nodes;
      older = c.link_older.ensures.nodes;
      newest_is = c.link_older.ensures.newest ∙ ap (λ o. put_end o c.index-node.result.now.newer c.index-node.result.now.older) (get_or_read c.self.inside.table.items _ _ (search rules) c.index_mut.ensures.value None);
      gone = c.remove.ensures.updates;
      len = c.remove.ensures.len;
    }

pub invariant_of-self : goal.invariant_of-self
invariant_of-self c =
    let at : StandsAt (map (place_at c.self.inside.nodes) (keys_of c.self.inside.nodes c.self.inside.first)) c.args.key = subst (λ v. StandsAt v.places c.args.key) (sym c.self.view_is) c.requires in
    let split = split_at c.self.inside.nodes (keys_of c.self.inside.nodes c.self.inside.first) at.front at.place at.rest at.all in
    roll-closed _ _ _ _ _ (taken c.self.inside.nodes c.self.inside.first c.self.inside.last c.self.inside.table.items split.xs c.args.key split.ys _ _ _ _ _ _ _ _ _ _ (steps c) (subst (IsRoll c.self.inside.nodes c.self.inside.first c.self.inside.last c.self.inside.table.items) (split.all ∙ ap (λ k. split.xs ++ k ∷ split.ys) at.own) c.self.invariant))

pub returns-clause-places : goal.returns-clause-places
returns-clause-places c front place rest all own =
    taken-places c.self.inside.nodes c.self.inside.first c.self.inside.last c.self.inside.table.items front place rest _ _ _ _ _ _ _ _ _ _ (subst (λ k. Takes c.self.inside.nodes c.self.inside.first c.self.inside.last c.self.inside.table.items k c.bucket_of-bucket.result c.index-node.result.now c.link_after.new.nodes c.link_before.new.nodes c.link_newer.new.nodes c.link_older.new.nodes c.remove.new.self c.link_after.new.first c.link_before.new.last c.link_older.new.newest) (sym own) (steps c)) c.self.invariant (ap (λ v. v.places) c.self.view_is ∙ all)
