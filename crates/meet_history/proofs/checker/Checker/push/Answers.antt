-- Proof of `Checker::push`, src/checker.rt. Takes the next record in: the records so far are legal.
use Rattle.std.proofs.Common.{◌≡◌, ◌∙◌, ◌+◌, Some, None, ap, refl}
use Rattle.meet_history.specs.declared.checker.CheckFault.TheVariants.{Illegal}
use Rattle.meet_history.specs.Pushing.{Progress}
use Rattle.meet_history.proofs.Pushed.{pushed-legal, pushed-illegal, pushed-again}
use Rattle.meet_history.proofs.checker.Checker.push.Goals as goal

pub returns-in-Some-clause-enough : goal.returns-in-Some-clause-enough
returns-in-Some-clause-enough c = λ room is. c.self.invariant (c.in-Some.is ∙ ap (λ f. Some f) cc)

pub returns-in-Ok-clause-seen : goal.returns-in-Ok-clause-seen
returns-in-Ok-clause-seen c =
    let clean : c.self.inside.fault ≡ None = search in
    rw (← c.self.view_is) (λ other. pushed-legal _ _ c.args.entry c.reserve.new.self.kind _ c.reserve.ensures.kind c.reserve.ensures.moment clean c.next.ensures.kind clean c.in-Ok.ensures.fits c.in-Ok.ensures.after refl)

pub returns-in-Err-clause-seen : goal.returns-in-Err-clause-seen
returns-in-Err-clause-seen c =
    let clean : c.self.inside.fault ≡ None = search in
    let old : Progress = record { place = c.self.inside.place; count = c.self.inside.count; fault = c.self.inside.fault } in
    let new : Progress = record { place = c.next.new.self; count = c.self.inside.count + 1; fault = Some (Illegal (c.self.inside.count + 1) c.in-Err.why) } in
    rw (← c.self.view_is) (λ other. pushed-illegal old new c.args.entry c.reserve.new.self.kind _ c.reserve.ensures.kind c.reserve.ensures.moment clean (c.self.inside.count + 1) c.in-Err.why c.next.ensures.kind refl c.in-Err.ensures.faulty refl)

pub returns-in-Some-clause-seen : goal.returns-in-Some-clause-seen
returns-in-Some-clause-seen c =
    let found : c.self.inside.fault ≡ Some c.in-Some.fault = c.in-Some.is in
    rw (← c.self.view_is) (λ other. pushed-again (record { place = c.self.inside.place; count = c.self.inside.count; fault = c.self.inside.fault }) c.args.entry c.in-Some.fault found)
