-- Proof of `Book::drain_reserved`, src/book/drain.rt. An admitted drain of k items into a list with room for them: its
-- only refusal is Memory, for the book's records.
use Rattle.meet_book.proofs.book.Book.drain_reserved.Goals as goal

pub returns-clause-polls : goal.returns-clause-polls
returns-clause-polls g c = rw (← c.self.view_is) c.poll_all.ensures.polls
