-- Proof of `PoolStepper::make`, src/one_thread/stepper.rt. Makes a call of the pool, where there is room for its
-- replies.
use Rattle.std.proofs.Common.{◌≡◌, ◌∙◌, ℕ, ◌+◌, ◌≤◌, ◌++◌, ◌∷◌, None, List, length, length-append, append_assoc, ap, sym, subst, option_to_list, vec_len, vec_capacity, MatchOption, arith}
use Rattle.std.specs.Prelude.{⊤}
use Rattle.meet_tickets.specs.declared.records.Record.{Record}
use Rattle.meet_tickets.specs.Meeting.{kept_count}
use Rattle.pool_core.specs.declared.deeds.PoolDeed.{PoolDeed}
use Rattle.pool_core.specs.Bases.{LeadsTo}
use Rattle.pool_core.specs.Histories.{Based, no_base}
use Rattle.pool_core.specs.Shown.{Shown}
use Rattle.pool_core.proofs.Effects.{effect, effect-leads}
use Rattle.pool_history.specs.Inside.{thread}
use Rattle.pool_history.specs.OneThread.{silent, jobs_back, most_replies, record_of, refusal_at, told_receipt}
use Rattle.pool_history.proofs.Called.{refusal-same, called-ok, few-back, on-ok, told-same}
use Rattle.pool_history.proofs.one_thread.stepper.PoolStepper.make.Goals as goal

pub push_answer-requires : goal.push_answer-requires
push_answer-requires c =
    let pool = c.self.inside.book.object in
    let sound = rw c.probe.ensures at c.stays_sound.ensures.sound in
    let few = few-back pool c.step.new.self.object c.args.seat sound c.args.call c.in-Ok.made.0 c.in-Ok.ensures.step.step in
    let most : c.most_replies-most.result ≡ most_replies c.args.call (kept_count pool.pool.line) = c.most_replies-most.ensures ∙ ap (λ n. most_replies c.args.call n) (c.kept.ensures ∙ ap (λ (p : Shown ℕ). kept_count p.pool.line) c.probe-2.ensures) in
    let room : vec_len c.reserve.new.self + c.most_replies-most.result ≤ vec_capacity c.reserve.new.self = on-ok c.reserve.result (sym c.is_err.ensures.value ∙ c.if-is_err.false) c.reserve.ensures.ok in
    record { room = omega (arith, few, most, room) }

pub invariant_of-self-2 : goal.invariant_of-self-2
invariant_of-self-2 c =
    let well = c.self.invariant in
    let past = c.self.inside.past.items in
    let old = c.self.inside.book in
    let made = c.in-Ok.ensures in
    let own = record_of c.args.seat c.args.call c.in-Ok.made.0 in
    let sound = rw c.probe-3.ensures at c.stays_sound-2.ensures.sound in
    let records : c.step.new.self.records ≡ old.records ++ option_to_list own = made.records ∙ ap (λ o. old.records ++ option_to_list o) made.record in
    let written : past ++ c.step.new.self.records ≡ (past ++ old.records) ++ option_to_list own = ap (λ rs. past ++ rs) records ∙ sym (append_assoc past old.records (option_to_list own)) in
    let done = effect (λ tag. tag) old.object c.step.new.self.object c.args.seat c.args.call c.in-Ok.made.0 made.step.step in
    record {
      cap = made.cap ∙ well.cap;
      gone = well.gone ∙ sym (ap (λ (b : Based). b.gone) made.base);
      leads = subst (λ (rs : List (Record (PoolDeed ℕ))). LeadsTo (λ tag. tag) no_base rs c.step.new.self.object) (sym written)
          (effect-leads (λ tag. tag) old.object c.step.new.self.object c.args.seat _ own done sound no_base (past ++ old.records) well.leads);
    }

pub returns-clause-turn : goal.returns-clause-turn
returns-clause-turn c =
    let well = c.self.invariant in
    let past = c.self.inside.past.items in
    let old = c.self.inside.book in
    let made = c.in-Ok.ensures in
    let own = record_of c.args.seat c.args.call c.in-Ok.made.0 in
    let none : refusal_at (thread c.self.inside) c.args.seat c.args.call ≡ None = refusal-same past old.records old.base.gone old.cap c.args.seat old.object c.args.call well.gone well.cap ∙ made.admitted in
    let number : old.base.gone + length old.records + 1 ≡ length (past ++ old.records) + 1 = omega (arith, well.gone, length-append past old.records) in
    let at = subst (λ n. MatchOption c.in-Ok.made.1 ⊤ (λ r. r.place ≡ n)) number made.place in
    let told_it = told-same c.args.seat (length (past ++ old.records) + 1) (silent c.in-Ok.made.0) c.in-Ok.made.1 own made.record at in
    let records = made.records ∙ ap (λ o. old.records ++ option_to_list o) made.record in
    rw (← c.self.view_is) (called-ok (thread c.self.inside) _ c.args.seat c.args.call _ none (record {
      answer = c.in-Ok.made.0;
      step = made.step.step;
      said = c.push_answer.ensures.items ∙ (ap (λ xs. xs ++ told_receipt c.args.seat (silent c.in-Ok.made.0) c.in-Ok.made.1 ∷ jobs_back c.args.seat c.in-Ok.made.0) (c.reserve.ensures.items ∙ c.requires.none) ∙ ap (λ first. first ∷ jobs_back c.args.seat c.in-Ok.made.0) told_it);
      written = ap (λ rs. past ++ rs) records ∙ sym (append_assoc past old.records (option_to_list own));
      gone = ap (λ (b : Based). b.gone) made.base;
    }))
