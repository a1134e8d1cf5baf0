-- Proof of `Linked::grow`, src/linked.rt. The same, where there isn't enough room yet.
use Rattle.std.proofs.Common.{◌≡◌, ◌+◌, ◌*◌, ◌<◌, ◌≤◌, ◌⊎◌, ◌∙◌, ap, sym, subst, arith, rules, length}
use Rattle.meet_line.proofs.Stored.{widened, length-entries}
use Rattle.meet_line.proofs.linked.Linked.grow.Goals as goal

pub invariant_of-self : goal.invariant_of-self
invariant_of-self g c =
    (widened c.self.inside.roll c.reserve.new.self c.self.inside.slots.items c.reserve.new.slots.items c.self.inside.room c.self.inside.room c.reserve.ensures.places (c.reserve.ensures.fits c.self.invariant.wide) (omega (arith, c.self.invariant.keys, c.reserve.ensures.wider)) (omega (arith, c.self.invariant.table, c.reserve.ensures.more)) c.reserve.ensures.slots c.self.invariant).0

pub returns-then-is_err-clause-entries : goal.returns-then-is_err-clause-entries
returns-then-is_err-clause-entries g c =
    (widened c.self.inside.roll c.reserve.new.self c.self.inside.slots.items c.reserve.new.slots.items c.self.inside.room c.self.inside.room c.reserve.ensures.places (c.reserve.ensures.fits c.self.invariant.wide) (omega (arith, c.self.invariant.keys, c.reserve.ensures.wider)) (omega (arith, c.self.invariant.table, c.reserve.ensures.more)) c.reserve.ensures.slots c.self.invariant).1 ∙ ap (λ v. v.entries) c.self.view_is

pub invariant_of-self-2 : goal.invariant_of-self-2
invariant_of-self-2 g c =
    let same : length c.reserve.new.self.places ≡ length c.self.inside.roll.places = ap (λ ps. length ps) c.reserve.ensures.places in
    let keys : length c.self.inside.roll.places + c.spare-room.result ≤ c.reserve.new.self.width = omega (arith, same, c.spare-room.ensures.keys) in
    let table : length c.self.inside.roll.places + c.spare-room.result ≤ c.reserve.new.self.buckets = omega (arith, same, c.spare-room.ensures.table) in
    (widened c.self.inside.roll c.reserve.new.self c.self.inside.slots.items c.reserve.new.slots.items c.self.inside.room c.spare-room.result c.reserve.ensures.places (c.reserve.ensures.fits c.self.invariant.wide) keys table c.reserve.ensures.slots c.self.invariant).0

pub returns-clause-room : goal.returns-clause-room
returns-clause-room g c =
    let same : length c.reserve.new.self.places ≡ length c.self.inside.roll.places = ap (λ ps. length ps) c.reserve.ensures.places in
    let keys : length c.self.inside.roll.places + c.args.count ≤ c.reserve.new.self.width = search rules in
    let table : length c.self.inside.roll.places + c.args.count ≤ c.reserve.new.self.buckets = search rules in
    c.spare-room.ensures.enough c.args.count (omega (arith, same, keys)) (omega (arith, same, table))

pub returns-clause-entries : goal.returns-clause-entries
returns-clause-entries g c =
    (widened c.self.inside.roll c.reserve.new.self c.self.inside.slots.items c.reserve.new.slots.items c.self.inside.room c.self.inside.room c.reserve.ensures.places (c.reserve.ensures.fits c.self.invariant.wide) (omega (arith, c.self.invariant.keys, c.reserve.ensures.wider)) (omega (arith, c.self.invariant.table, c.reserve.ensures.more)) c.reserve.ensures.slots c.self.invariant).1 ∙ ap (λ v. v.entries) c.self.view_is

pub returns-clause-few : goal.returns-clause-few
returns-clause-few g c =
    let now = c.reserve.new.self.buckets in
    let len = length-entries c.self.inside.slots.items c.self.inside.roll.places c.self.invariant.holds.held in
    subst (λ v. (now ≡ v.buckets) ⊎ (now < 2 * (length v.entries + c.args.count))) c.self.view_is (subst (λ n. (now ≡ c.self.inside.roll.buckets) ⊎ (now < 2 * (n + c.args.count))) (sym len) c.reserve.ensures.few)
