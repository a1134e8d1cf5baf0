use denote.Param.Send.{IsSync}
use Rattle.meet_moments.specs.contracts.Moment.{the_row}
use Rattle.meet_moments.proofs.Steps.{moment_keyless}

pub sync : IsSync the_row
sync = record { shared = λ d b o κ. (search tt, moment_keyless d.name d.at) }
