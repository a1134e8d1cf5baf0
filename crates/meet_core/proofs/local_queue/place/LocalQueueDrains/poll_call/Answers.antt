-- Proof of `LocalQueue::poll_call`, src/local_queue/place.rt.
use Rattle.meet_core.proofs.Polling.{bounded-takes}
use Rattle.meet_core.proofs.local_queue.place.LocalQueueDrains.poll_call.Goals as goal

pub returns-clause-takes : goal.returns-clause-takes
returns-clause-takes g c = bounded-takes g.T.Marked.mark_of g.K.Buffers.kind c.args.self.now c.stays_sound.ensures.sound
