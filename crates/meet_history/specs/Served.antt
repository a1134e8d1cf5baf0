-- The verbs that a place serves.
use Rattle.std.specs.Prelude.{Bool, true, false, if◌then◌else◌}
use Rattle.meet_tickets.specs.declared.places.Order.{Order}
use Rattle.meet_tickets.specs.Meeting.{keeps}
use Rattle.meet_history.specs.declared.one_thread.verbs.Verb.{Verb}
use Rattle.meet_history.specs.declared.one_thread.verbs.Verb.TheVariants.{Transfer as TransferItem, Try, Drain}
use Rattle.meet_history.specs.declared.one_thread.verbs.Verb.TheVariants.{Look, Checkpoint}
use Rattle.meet_history.specs.declared.one_thread.verbs.Probe.TheVariants.{Consumers}

-- a synchronous place serves all verbs but those that LinkedTransferQueue alone has
abbrev pub serves_synchronous : Verb → Bool
serves_synchronous (TransferItem n) = false
serves_synchronous (Try n) = false
serves_synchronous (Look Consumers) = false
serves_synchronous verb = true

-- a place that keeps items, as LinkedTransferQueue does, serves all
abbrev pub serves : Order → Verb → Bool
serves order verb = if keeps order then true else serves_synchronous verb

-- every verb but a drain has one reply
abbrev pub IsAnswered : Verb → Type 0
IsAnswered (Drain most) = ⊥
IsAnswered verb = Unit {0}

-- every verb but a drain and a checkpoint is one step of the place, or a look, with one reply
abbrev pub IsOne : Verb → Type 0
IsOne (Drain most) = ⊥
IsOne Checkpoint = ⊥
IsOne verb = Unit {0}
