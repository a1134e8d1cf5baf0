-- A chronicle's receipts are those for its records, each with its record's number.
use Rattle.meet_book.proofs.Standing.{moment_orders}
use Rattle.meet_sync.proofs.laws.closed_queues_keep_order.Goals as goal

pub returns : goal.returns
returns g c = λ mark kind base records lists items is. moment_orders base.gone records lists is.listed
