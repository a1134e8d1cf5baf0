-- Proof of `unlink`, src/spots.rt. The node at this place leaves, and its neighbours are linked.
use Rattle.std.proofs.Common.{◌≡◌, ◌∙◌, ap, sym, None, set}
use Rattle.std.proofs.lemmas.List.{map-set}
use Rattle.std.proofs.Math.Seq.{map-set_same}
use Rattle.meet_line.specs.Nodes.{put_end}
use Rattle.meet_line.specs.Seated.{slots_of, afters_of, befores_of, after_at, before_at, relinked}
use Rattle.meet_line.proofs.Relinks.{field-read}
use Rattle.meet_line.proofs.spots.unlink.Goals as goal

pub returns-clause-gone : goal.returns-clause-gone
returns-clause-gone g c =
    let items = c.args.spots.now.items in
    let k = c.args.key in
    let now = c.index_mut-spot.result.now in
    let read = c.index_mut-spot.ensures.value in
    let before : now.before ≡ before_at items k = sym (field-read (λ s. s.before) items k now None c.requires.there read) in
    let after : now.after ≡ after_at items k = sym (field-read (λ s. s.after) items k now None c.requires.there read) in
    record {
      slots = c.link_before.ensures.slots ∙ c.link_after.ensures.slots ∙ map-set (λ s. s.entry) items k _ ∙ ap (λ o. set (slots_of items) k o) c.take-taken.ensures.after;
      afters = c.link_before.ensures.afters ∙ c.link_after.ensures.afters ∙ ap (λ xs. relinked xs now.before now.after) (map-set_same (λ s. s.after) items k _ now (ap (λ s. s.after) read)) ∙ ap (λ p. relinked (afters_of items) p now.after) before ∙ ap (λ q. relinked (afters_of items) (before_at items k) q) after;
      befores = c.link_before.ensures.befores ∙ ap (λ xs. relinked xs now.after now.before) (c.link_after.ensures.befores ∙ map-set_same (λ s. s.before) items k _ now (ap (λ s. s.before) read)) ∙ ap (λ p. relinked (befores_of items) p now.before) after ∙ ap (λ q. relinked (befores_of items) (after_at items k) q) before;
      first_is = c.link_after.ensures.first ∙ ap (λ p. put_end c.args.first.now p now.after) before ∙ ap (λ q. put_end c.args.first.now (before_at items k) q) after;
      last_is = c.link_before.ensures.last ∙ ap (λ p. put_end c.args.last.now p now.before) after ∙ ap (λ q. put_end c.args.last.now (after_at items k) q) before;
    }
