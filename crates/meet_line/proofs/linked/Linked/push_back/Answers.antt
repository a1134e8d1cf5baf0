-- Proof of `Linked::push_back`, src/linked.rt. An entry comes to the end.
use Rattle.std.proofs.Common.{◌≡◌, ◌≢◌, ◌<◌, ◌∙◌, ◌++◌, ◌∷◌, [], ap, sym, subst, arith, None, All}
use Rattle.std.proofs.lemmas.List.{get_or_read}
use Rattle.meet_line.specs.Stored.{slot_at}
use Rattle.meet_line.proofs.Stored.{put-in, vacant-slot}
use Rattle.meet_line.proofs.linked.Linked.push_back.Goals as goal

pub let_go_none-requires : goal.let_go_none-requires
let_go_none-requires g c =
    let key = c.push_back-key.result in
    let slots = c.self.inside.slots.items in
    let within : key < c.self.inside.slots.len = omega (arith, c.push_back-key.ensures.within, c.push_back-key.ensures.width, c.self.invariant.wide, c.self.inside.slots.ok.0) in
    let vacant : slot_at slots key ≡ None = vacant-slot c.self.inside.roll slots c.self.inside.room c.self.invariant key c.push_back-key.ensures.fresh in
    let was : c.index_mut.result.now ≡ None = get_or_read slots key c.index_mut.result.now (omega (arith, within, c.self.inside.slots.ok.0)) c.index_mut.ensures.value None ∙ vacant in
    c.replace.ensures.value ∙ was

pub invariant_of-self : goal.invariant_of-self
invariant_of-self g c =
    let fresh = subst (λ v. All (λ e. e.ticket ≢ c.args.entry.ticket) v.entries) (sym c.self.view_is) c.requires.fresh in
    let some : 0 < c.self.inside.room = subst (λ v. 0 < v.room) (sym c.self.view_is) c.requires.room in
    let places = c.push_back-key.ensures.places ∙ ap (λ t. c.self.inside.roll.places ++ record { key = c.push_back-key.result; ticket = t } ∷ []) c.number.ensures.value in
    let put = put-in c.self.inside.roll c.self.inside.slots.items c.self.inside.room c.self.invariant c.push_back-key.new.self c.push_back-key.result c.args.entry places c.push_back-key.ensures.width c.push_back-key.ensures.buckets c.push_back-key.ensures.fresh (omega (arith, c.push_back-key.ensures.within, c.push_back-key.ensures.width)) some fresh in
    rw c.replace.ensures.after put.0

pub returns-clause-entries : goal.returns-clause-entries
returns-clause-entries g c =
    let fresh = subst (λ v. All (λ e. e.ticket ≢ c.args.entry.ticket) v.entries) (sym c.self.view_is) c.requires.fresh in
    let some : 0 < c.self.inside.room = subst (λ v. 0 < v.room) (sym c.self.view_is) c.requires.room in
    let places = c.push_back-key.ensures.places ∙ ap (λ t. c.self.inside.roll.places ++ record { key = c.push_back-key.result; ticket = t } ∷ []) c.number.ensures.value in
    let put = put-in c.self.inside.roll c.self.inside.slots.items c.self.inside.room c.self.invariant c.push_back-key.new.self c.push_back-key.result c.args.entry places c.push_back-key.ensures.width c.push_back-key.ensures.buckets c.push_back-key.ensures.fresh (omega (arith, c.push_back-key.ensures.within, c.push_back-key.ensures.width)) some fresh in
    rw c.replace.ensures.after (put.1 ∙ ap (λ v. v.entries ++ c.args.entry ∷ []) c.self.view_is)
