-- Proof of `link`, src/spots.rt. A node comes to its place, behind the last one.
use Rattle.std.proofs.Common.{◌∙◌, ap, None, set}
use Rattle.std.proofs.lemmas.List.{map-set}
use Rattle.meet_line.specs.Nodes.{put_end}
use Rattle.meet_line.specs.Seated.{slots_of, afters_of, relinked}
use Rattle.meet_line.proofs.spots.link.Goals as goal

pub returns : goal.returns
returns g c =
    let items = c.args.spots.now.items in
    let k = c.args.key in
    let last = c.args.last.now in
    record {
      slots = c.link_after.ensures.slots ∙ map-set (λ s. s.entry) items k _ ∙ ap (λ o. set (slots_of items) k o) c.replace.ensures.after;
      afters = c.link_after.ensures.afters ∙ ap (λ xs. relinked xs last c.to-own.result) (map-set (λ s. s.after) items k _ ∙ ap (set (afters_of items) k) c.none-spot.ensures) ∙ ap (λ o. relinked (set (afters_of items) k None) last o) c.to-own.ensures;
      befores = c.link_after.ensures.befores ∙ map-set (λ s. s.before) items k _;
      first_is = c.link_after.ensures.first ∙ ap (λ o. put_end c.args.first.now last o) c.to-own.ensures;
      last_is = c.to-own.ensures;
    }
