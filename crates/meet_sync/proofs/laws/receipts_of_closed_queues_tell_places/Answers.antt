-- A chronicle's receipts are those for its records, each with its record's number.
use Rattle.meet_book.proofs.Standing.{listed_stand}
use Rattle.meet_sync.proofs.laws.receipts_of_closed_queues_tell_places.Goals as goal

pub returns : goal.returns
returns g c = λ mark kind base records lists items is. listed_stand base.gone records lists is.listed
