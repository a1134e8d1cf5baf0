-- A closed pool's receipts are those for its records, each with its record's number.
use Rattle.meet_book.proofs.Standing.{listed_stand}
use Rattle.pool_threads.proofs.laws.receipts_of_closed_pools_tell_places.Goals as goal

pub returns : goal.returns
returns c = λ gone records lists listed. listed_stand gone records lists listed
