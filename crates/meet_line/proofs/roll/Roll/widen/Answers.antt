-- Proof of `Roll::widen`, src/roll.rt. Makes a table of so many buckets or more, and chains all nodes anew.
use Rattle.std.proofs.Common.{◌≡◌, ℕ, ◌^◌, ◌≤◌, ◌∙◌, ap, sym, subst, arith, rules, inr, None, Some, length, replicate, IfSome}
use Rattle.std.proofs.lemmas.List.{length-replicate}
use Rattle.std.specs.Result.{result_ok}
use Rattle.meet_line.specs.Rolled.{AreChained, keys_of}
use Rattle.meet_line.proofs.Rolls.{roll-closed}
use Rattle.meet_line.proofs.Rechained.{roll-rechained}
use Rattle.meet_line.proofs.roll.Roll.widen.Goals as goal

pub invariant_of-self-2 : goal.invariant_of-self-2
invariant_of-self-2 c =
    let s = c.self.inside.nodes in
    let s' = c.rechain.new.nodes in
    let first = c.self.inside.first in
    let last = c.self.inside.last in
    let table' = c.rechain.new.table.items in
    let keys = keys_of s first in
    let size = c.in_ok-size.size in
    let is_size : c.doubled.result ≡ Some size = c.ok_or.ensures.ok_part ∙ ap result_ok c.in_ok-size.was in
    let power : (k : ℕ) × (size ≡ 2 ^ k) = subst (λ o. IfSome o (λ n. (k : ℕ) × (n ≡ 2 ^ k))) is_size c.doubled.ensures.power in
    let enough : c.args.needed ≤ size = subst (λ o. IfSome o (λ n. c.args.needed ≤ n)) is_size c.doubled.ensures.enough in
    let emptied : c.empty_out.new.table.items ≡ replicate size None = search rules in
    let length_is : length table' ≡ size = c.rechain.ensures.size ∙ ap length emptied ∙ length-replicate size None in
    let chained : AreChained s' table' (length table') keys = subst (λ n. AreChained s' table' n keys) (sym c.rechain.ensures.size) c.rechain.ensures.chained in
    roll-closed s' first last table' keys (roll-rechained s s' first last c.self.inside.table.items table' keys c.rechain.ensures.nodes chained (omega (arith, length_is, enough, c.requires)) (inr (power.0, length_is ∙ power.1)) c.self.invariant)
