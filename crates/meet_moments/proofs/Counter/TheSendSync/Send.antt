use denote.Param.Send.{IsSend}
use Rattle.meet_moments.specs.contracts.Counter.{the_row}
use Rattle.meet_moments.proofs.Steps.{counter_keyless}

pub send : IsSend the_row
send = record { owned = λ d vs. ((λ vss. (tt, ((λ uss. (tt, tt)), tt))), counter_keyless d.name d.now); leaving = λ k f vs. tt }
