use denote.Param.Send.{IsSend}
use Rattle.meet_moments.specs.contracts.Moment.{the_row}
use Rattle.meet_moments.proofs.Steps.{moment_keyless}

pub send : IsSend the_row
send = record { owned = λ d vs. ((λ vss. (tt, ((λ uss. (tt, tt)), tt))), moment_keyless d.name d.at); leaving = λ k f vs. tt }
