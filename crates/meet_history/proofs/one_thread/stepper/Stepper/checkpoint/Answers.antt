-- Proof of `Stepper::checkpoint`, src/one_thread/stepper.rt. Folds the records so far away, and tells how many were
-- folded away since the first.
use Rattle.std.proofs.Common.{◌≡◌, ◌+◌, ◌<◌, ◌∙◌, ℕ, Bool, true, false, cond, Option, Some, None, [], ◌∷◌, ◌++◌, append-nil, refl, sym, ap, subst, length, arith}
use Rattle.std.specs.Prelude.{nat_lt, nat_le}
use Rattle.std.specs.Option.{option_map_or}
use Rattle.std.proofs.lemmas.Bool.Decides.{nat_tests}
use Rattle.meet_tickets.specs.declared.refusals.Refusal.{Refusal}
use Rattle.meet_tickets.specs.declared.refusals.Refusal.TheVariants.{HistoryFull}
use Rattle.meet_tickets.specs.Bases.{moment_of_base, IsBaseOf}
use Rattle.meet_tickets.specs.BySeat.{moment_of}
use Rattle.meet_tickets.specs.Limits.{most_gone}
use Rattle.meet_tickets.specs.Refusals.{absent_refusal}
use Rattle.meet_core.specs.Queue.{seats_of}
use Rattle.meet_core.specs.Seen.{moment_of_queue}
use Rattle.meet_book.specs.Booking.{call_refusal}
use Rattle.meet_history.specs.OneThread.{Turn, checkpoint, checkpoint_refusal, folded, refused}
use Rattle.meet_core.specs.QueueSteps.{LeadsTo}
use Rattle.meet_history.specs.declared.one_thread.replies.Outcome.TheVariants.{Based as FoldedAway}
use Rattle.meet_history.specs.Standings.{IsFolded}
use Rattle.meet_history.specs.Stepping.{Stepping, place_of}
use Rattle.meet_history.proofs.Foldings.{folded-all}
use Rattle.meet_history.proofs.one_thread.stepper.Stepper.checkpoint.Goals as goal

-- a seat that is there isn't absent
there : (seats seat : ℕ) → seat < seats → absent_refusal seats seat seat ≡ None
there seats seat below = let no : nat_le seats seat ≡ false = grind (arith, nat_tests) in rw no refl

-- where the place has no reason, and there is room for so many gone, there is none
none-of : (first : Option Refusal) (full : Bool) → first ≡ None → cond full (Some HistoryFull) None ≡ None → call_refusal first full ≡ None
none-of first full none room = ap (λ o. call_refusal o full) none ∙ room

pub returns-in-Ok-clause-turn : goal.returns-in-Ok-clause-turn
returns-in-Ok-clause-turn c =
    let book = c.self.inside.book in
    let new = c.cut.new.self in
    let setup = c.self.inside.setup in
    let seat = c.args.seat in
    let old : Stepping = record { setup = setup; queue = book.object.queue; base = book.base; cut = c.self.inside.cut; records = book.records; room = book.room } in
    let below : seat < setup.seats = omega (arith, c.if-number-self.false, c.number.ensures.value) in
    let none : checkpoint_refusal setup (place_of old) seat ≡ None = none-of (absent_refusal setup.seats seat seat) (nat_lt most_gone (book.base.gone + length book.records)) (there setup.seats seat below) c.in-Ok.ensures.admitted in
    let turn : checkpoint setup (place_of old) seat ≡ folded (place_of old) seat = ap (λ o. option_map_or (refused (place_of old) seat) o (folded (place_of old) seat)) none in
    let leads : LeadsTo (λ mark. mark) setup.kind book.base book.records book.object.queue = subst (λ k. LeadsTo (λ mark. mark) k book.base book.records book.object.queue) c.self.invariant.0 c.records-led.ensures.leads in
    let led : moment_of setup.kind (moment_of_base book.base) book.records ≡ moment_of_queue (λ mark. mark) book.object.queue = λ i. record { last = leads.last i; seats = leads.leaves i } in
    let is : IsBaseOf (moment_of setup.kind (moment_of_base book.base) book.records) c.in-Ok.gone new.base = subst (λ m. IsBaseOf m c.in-Ok.gone new.base) (sym led) c.in-Ok.ensures.base in
    let gone : new.base.gone ≡ book.base.gone + length book.records = c.in-Ok.ensures.folded ∙ c.in-Ok.ensures.gone in
    rw (← c.self.view_is) (record {
      replies = ap (λ (t : Turn). t.replies) turn ∙ (λ i. record { seat = seat; outcome = FoldedAway (sym c.in-Ok.ensures.gone i) } ∷ []);
      takes = record {
        setup = refl;
        written = λ all was.
            let now : IsFolded setup.kind all new.base [] = folded-all setup.kind all book.base new.base book.records c.in-Ok.gone leads.well_formed leads.legal is gone was in
            let same : all ++ (checkpoint setup (place_of old) seat).records ≡ all = ap (λ (t : Turn). all ++ t.records) turn ∙ append-nil all in
            subst (λ xs. IsFolded setup.kind xs new.base new.records) (sym same) (subst (IsFolded setup.kind all new.base) (sym c.in-Ok.ensures.records) now);
        place = (λ i. record { next = (c.cut.ensures.object i).queue.next; seats = seats_of (c.cut.ensures.object i).queue; gone = gone i; cut = true; records = length (c.in-Ok.ensures.records i) }) ∙ ap (λ (t : Turn). t.place) (sym turn);
      };
    })
