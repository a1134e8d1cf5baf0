-- Proof of `LocalQueue::step`, src/local_queue/place.rt.
use Rattle.meet_core.proofs.Effects.{queue-made, effect-owed, effect-room}
use Rattle.meet_core.proofs.Leading.{leads-on, bounded-on}
use Rattle.meet_core.proofs.local_queue.place.LocalQueueObject.step.Goals as goal

pub returns-clause-leads : goal.returns-clause-leads
returns-clause-leads g c =
    let k = g.K.Buffers.kind c.args.self.now.bound in
    let effect = queue-made g.T.Marked.mark_of k c.args.self.now.queue c.make.new.self.queue c.args.seat c.args.call c.make.result.0 c.make.result.1 c.make.ensures.entry c.stays_sound.ensures.sound c.requires.admitted c.make.ensures.step.1 in
    λ base records before. bounded-on g.K.Buffers.kind c.make.ensures.step.0 (leads-on g.T.Marked.mark_of k c.args.self.now.queue c.make.new.self.queue base records before _ _ c.make.result.1 effect)

pub returns-clause-owed : goal.returns-clause-owed
returns-clause-owed g c =
    let k = g.K.Buffers.kind c.args.self.now.bound in
    let effect = queue-made g.T.Marked.mark_of k c.args.self.now.queue c.make.new.self.queue c.args.seat c.args.call c.make.result.0 c.make.result.1 c.make.ensures.entry c.stays_sound.ensures.sound c.requires.admitted c.make.ensures.step.1 in
    effect-owed g.T.Marked.mark_of k c.args.self.now.queue c.make.new.self.queue _ _ c.make.result.1 effect

pub returns-clause-room : goal.returns-clause-room
returns-clause-room g c =
    let k = g.K.Buffers.kind c.args.self.now.bound in
    let effect = queue-made g.T.Marked.mark_of k c.args.self.now.queue c.make.new.self.queue c.args.seat c.args.call c.make.result.0 c.make.result.1 c.make.ensures.entry c.stays_sound.ensures.sound c.requires.admitted c.make.ensures.step.1 in
    effect-room g.T.Marked.mark_of k c.args.self.now.queue c.make.new.self.queue _ _ c.make.result.1 effect c.make.ensures.places
