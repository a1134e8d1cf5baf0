-- What the queue of a place shows of itself, whatever its kind.
use Rattle.std.specs.Prelude.{ℕ}
use Rattle.meet_tickets.specs.declared.places.End.TheVariants.{Front, Back}
use Rattle.meet_tickets.specs.declared.places.Kind.{Kind}
use Rattle.meet_core.specs.Queue.{Queue}
use Rattle.meet_core.specs.QueueSteps.{kind_of}
use Rattle.meet_core.specs.QueueSteps.{bounded_kind}
use Rattle.meet_queues.specs.declared.any_queue.ByKind.{ByKind}
use Rattle.meet_queues.specs.declared.any_queue.ByKind.TheVariants.{Fair, Unfair, Transfer}

-- a queue, and whom it lets a request meet
pub record QueueOfKind : Type 0 where
  pub kind : Kind
  pub queue : Queue ℕ

-- each variant has its kind
abbrev pub of_kind : ByKind → QueueOfKind
of_kind (Fair q) = record { kind = kind_of Front; queue = q.queue }
of_kind (Unfair q) = record { kind = kind_of Back; queue = q.queue }
of_kind (Transfer q) = record { kind = bounded_kind q.bound; queue = q.queue }
