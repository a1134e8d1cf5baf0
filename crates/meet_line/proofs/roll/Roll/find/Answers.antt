-- Proof of `Roll::find`, src/roll.rt. Looks for a ticket in its bucket, from the newest on.
use Rattle.std.proofs.Common.{◌≡◌, ◌≢◌, ◌+◌, ◌%◌, ◌<◌, ◌∙◌, ap, sym, subst, arith, rules, None, Some, length, get_or}
use Rattle.std.specs.Option.{option_map_or}
use Rattle.std.proofs.lemmas.List.{get_or_read}
use Rattle.slab.specs.Slab.{get}
use Rattle.meet_line.specs.declared.nodes.Node.{Node}
use Rattle.meet_line.specs.Nodes.{ticket_at, field_at}
use Rattle.meet_line.specs.Rolled.{IsFound, chain_of, falls, keys_of}
use Rattle.meet_line.proofs.Standing.{some-from_there}
use Rattle.meet_line.proofs.Looking.{HasLooked, looked-none, looked-more, next-from_looked, there-from_next, found-there, found-nowhere, found-no_more}
use Rattle.meet_line.proofs.roll.Roll.find.Goals as goal

pub loop-looked-init : goal.loop-looked-init
loop-looked-init c =
    let s = c.self.inside.nodes in
    let items = c.self.inside.table.items in
    let b = c.args.ticket % length items in
    let bucket_is : c.bucket_of.result ≡ b = search rules in
    let within : c.bucket_of.result < length items = search rules in
    let newest_is : c.index-at.result.now ≡ get_or items b None = get_or_read items c.bucket_of.result c.index-at.result.now within c.index-at.ensures None ∙ ap (λ i. get_or items i None) bucket_is in
    let chain = chain_of s (length items) b (keys_of s c.self.inside.first) in
    subst (λ o. HasLooked s chain c.args.ticket o 0) (sym newest_is) (looked-none s (get_or items b None) chain c.args.ticket (c.self.invariant.chains b (subst (λ i. i < length items) bucket_is within)))

pub returns-in_default : goal.returns-in_default
returns-in_default c =
    let none : c.loop-looked.at ≡ None = search rules in
    subst (λ v. IsFound v.places v.buckets c.args.ticket None c.loop-looked.looked) c.self.view_is (found-nowhere c.self.inside.nodes (keys_of c.self.inside.nodes c.self.inside.first) (length c.self.inside.table.items) c.args.ticket c.loop-looked.looked c.loop-looked.at none c.loop-looked.invariant)

pub index-node-requires : goal.index-node-requires
index-node-requires c =
    let s = c.self.inside.nodes in
    let m = length c.self.inside.table.items in
    let keys = keys_of s c.self.inside.first in
    let chain = chain_of s m (c.args.ticket % m) keys in
    let has : HasLooked s chain c.args.ticket (Some c.in-Some.key) c.loop-looked.looked = subst (λ o. HasLooked s chain c.args.ticket o c.loop-looked.looked) (sym c.key.ensures ∙ c.in-Some.is) c.loop-looked.invariant in
    some-from_there (get s c.in-Some.key) (there-from_next s (falls s m (c.args.ticket % m)) keys c.in-Some.key c.loop-looked.looked c.self.invariant.present (next-from_looked s chain c.args.ticket c.in-Some.key c.loop-looked.looked has).0)

pub returns-then-node-ticket : goal.returns-then-node-ticket
returns-then-node-ticket c =
    let s = c.self.inside.nodes in
    let m = length c.self.inside.table.items in
    let keys = keys_of s c.self.inside.first in
    let chain = chain_of s m (c.args.ticket % m) keys in
    let has : HasLooked s chain c.args.ticket (Some c.in-Some.key) c.loop-looked.looked = subst (λ o. HasLooked s chain c.args.ticket o c.loop-looked.looked) (sym c.key.ensures ∙ c.in-Some.is) c.loop-looked.invariant in
    let own : ticket_at s c.in-Some.key ≡ c.args.ticket = ap (λ o. option_map_or (λ (n : Node). n.ticket) o 0) c.index-node.ensures ∙ c.if-node-ticket.true in
    subst (λ v. IsFound v.places v.buckets c.args.ticket (Some c.in-Some.key) (c.loop-looked.looked + 1)) c.self.view_is (found-there s keys m c.args.ticket c.in-Some.key c.loop-looked.looked own (next-from_looked s chain c.args.ticket c.in-Some.key c.loop-looked.looked has).0)

pub loop-looked-preserved : goal.loop-looked-preserved
loop-looked-preserved c =
    let s = c.self.inside.nodes in
    let items = c.self.inside.table.items in
    let m = length items in
    let b = c.args.ticket % m in
    let keys = keys_of s c.self.inside.first in
    let chain = chain_of s m b keys in
    let has : HasLooked s chain c.args.ticket (Some c.in-Some.key) c.loop-looked.looked = subst (λ o. HasLooked s chain c.args.ticket o c.loop-looked.looked) (sym c.key.ensures ∙ c.in-Some.is) c.loop-looked.invariant in
    let ticket_is : ticket_at s c.in-Some.key ≡ c.index-node.result.now.ticket = ap (λ o. option_map_or (λ (n : Node). n.ticket) o 0) c.index-node.ensures in
    let other : ticket_at s c.in-Some.key ≢ c.args.ticket = λ same. c.if-node-ticket.false (sym ticket_is ∙ same) in
    let older_is : c.index-node.result.now.older ≡ field_at (λ n. n.older) None s c.in-Some.key = ap (λ o. option_map_or (λ (n : Node). n.older) o None) (sym c.index-node.ensures) in
    let bucket_is : c.bucket_of.result ≡ b = search rules in
    let within : c.bucket_of.result < m = search rules in
    looked-more s (get_or items b None) chain c.args.ticket c.in-Some.key c.loop-looked.looked c.index-node.result.now.older (c.self.invariant.chains b (subst (λ i. i < m) bucket_is within)) older_is other has

pub returns : goal.returns
returns c =
    let s = c.self.inside.nodes in
    let m = length c.self.inside.table.items in
    let keys = keys_of s c.self.inside.first in
    let chain = chain_of s m (c.args.ticket % m) keys in
    let all : c.loop-looked.looked ≡ c.len-2.result = search rules in
    let has : HasLooked s chain c.args.ticket c.loop-looked.at c.len-2.result = subst (λ n. HasLooked s chain c.args.ticket c.loop-looked.at n) all c.loop-looked.invariant in
    subst (λ v. IsFound v.places v.buckets c.args.ticket None c.len-2.result) c.self.view_is (found-no_more s keys m c.args.ticket c.len-2.result c.loop-looked.at (omega (arith, c.self.invariant.counted, c.len-2.ensures)) has)
