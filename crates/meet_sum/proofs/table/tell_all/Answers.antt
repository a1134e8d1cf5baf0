-- Proof of `tell_all`, src/table.rt. Has all tickets hear the record of this number: it tells of its own ticket, and of
-- the one that it names.
use Rattle.std.proofs.Common.{◌==◌, refl, sym, ap, ◌∙◌, false, ◌∷◌, ◌++◌, []}
use Rattle.std.specs.Option.{option_map_or}
use Rattle.std.proofs.lemmas.Bool.{ne_eqb, eqb-true, eqb-false}
use Rattle.meet_tickets.specs.BySeat.{put_at}
use Rattle.meet_sum.specs.Stories.{story_in}
use Rattle.meet_sum.proofs.TableLemmas.{heard-alone, heard-both, put-others}
use Rattle.meet_sum.proofs.table.tell_all.Goals as goal

pub returns-then-eq-clause-told : goal.returns-then-eq-clause-told
returns-then-eq-clause-told c = λ history are number.
    let r = c.args.entry.now in
    let own = eqb-true c.in-Some.partner r.ticket (sym c.if-eq.ensures) in
    c.tell.ensures.told (story_in history) history are refl number
    ∙ heard-alone history r c.args.tickets.now (λ t n. ap (λ o. option_map_or (λ v. v == t) o false) (sym c.in-Some.ensures) ∙ ne_eqb c.in-Some.partner t (λ e. n (sym own ∙ e)))

pub returns-in-None-clause-told : goal.returns-in-None-clause-told
returns-in-None-clause-told c = λ history are number.
    let r = c.args.entry.now in
    c.tell.ensures.told (story_in history) history are refl number
    ∙ heard-alone history r c.args.tickets.now (λ t n. ap (λ o. option_map_or (λ v. v == t) o false) (sym c.in-None.ensures))

pub returns-else-eq-clause-told : goal.returns-else-eq-clause-told
returns-else-eq-clause-told c = λ history are number.
    let r = c.args.entry.now in
    let u = c.in-Some.partner in
    let apart_from = eqb-false u r.ticket (sym c.if-eq.ensures) in
    c.tell-in-Some.ensures.told (put_at (story_in history) r.ticket (story_in (history ++ r ∷ []) r.ticket)) history
    (c.tell.ensures.told (story_in history) history are refl number)
    (put-others (story_in history) r.ticket (story_in (history ++ r ∷ []) r.ticket) u apart_from) number
    ∙ heard-both history r c.args.tickets.now u (sym c.in-Some.ensures)
