-- A chronicle's records are legal after its base, so they keep the promise.
use Rattle.meet_laws.proofs.Promised.{keeps_promise}
use Rattle.meet_sync.proofs.laws.closed_queues_keep_their_promise.Goals as goal

pub returns : goal.returns
returns g c = λ mark kind base records lists items is. keeps_promise kind base records is.chapter.well_formed is.chapter.legal
