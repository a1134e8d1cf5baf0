-- What a seat learns at its follow-up.
use Rattle.meet_tickets.specs.declared.lines.Hold.{Hold}
use Rattle.meet_tickets.specs.declared.lines.Hold.TheVariants.{Free, Waiting, Handed, Served, Cut}
use Rattle.meet_core.specs.declared.answers.Followed.{Followed}
use Rattle.meet_core.specs.declared.answers.Followed.TheVariants.{Done, Got, Interrupted, NotYet}

-- the answer to a seat that holds this
abbrev pub followed_by : {T : Type 0} → Hold T → Followed T
followed_by Free = NotYet
followed_by (Waiting t) = NotYet
followed_by (Handed t u mark) = Done
followed_by (Served t u item) = Got u item
followed_by (Cut t item) = Interrupted item
