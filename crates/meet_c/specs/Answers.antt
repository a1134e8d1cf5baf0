-- What a caller in C is told of the answers of calls.
use Rattle.std.specs.Prelude.{ℕ, Option, Some, None}
use Rattle.meet_core.specs.declared.answers.Gave.{Gave}
use Rattle.meet_core.specs.declared.answers.Gave.TheVariants as gave
use Rattle.meet_core.specs.declared.answers.Put.{Put}
use Rattle.meet_core.specs.declared.answers.Put.TheVariants as put
use Rattle.meet_core.specs.declared.answers.Offered.{Offered}
use Rattle.meet_core.specs.declared.answers.Offered.TheVariants as offered
use Rattle.meet_core.specs.declared.answers.Took.{Took}
use Rattle.meet_core.specs.declared.answers.Took.TheVariants as took
use Rattle.meet_core.specs.declared.answers.Polled.{Polled}
use Rattle.meet_core.specs.declared.answers.Polled.TheVariants as polled
use Rattle.meet_core.specs.declared.answers.Followed.{Followed}
use Rattle.meet_core.specs.declared.answers.Followed.TheVariants as followed
use Rattle.meet_core.specs.declared.answers.TakenBack.{TakenBack}
use Rattle.meet_core.specs.declared.answers.TakenBack.TheVariants.{Back, Late}
use Rattle.meet_core.specs.declared.answers.Interrupted.{Interrupted}
use Rattle.meet_core.specs.declared.answers.Interrupted.TheVariants.{Cut, Flagged}
use Rattle.meet_core.specs.declared.calls.queue_calls.QueueAnswer.{QueueAnswer}
use Rattle.meet_core.specs.declared.calls.queue_calls.QueueAnswer.TheVariants as queue
use Rattle.meet_c.specs.declared.answers.Answer.{Answer}

-- nothing came of it, for this reason
abbrev pub failed : (status : ℕ) → Answer
failed status = record { status = status; outcome = 0; ticket = 0; partner = 0; has_item = 0; item = 0; wake = 0 }

-- this came of it
abbrev pub done : (outcome ticket partner : ℕ) → Answer
done outcome ticket partner =
    record { status = 0; outcome = outcome; ticket = ticket; partner = partner; has_item = 0; item = 0; wake = 0 }

-- the answer with this item
abbrev pub item_of : Answer → Option ℕ → Answer
item_of answer None = answer
item_of answer (Some item) = record answer { has_item = 1; item = item }

abbrev pub told_gave : Gave ℕ → Answer
told_gave (gave.Waits t) = done 1 t 0
told_gave (gave.Meets t u) = done 2 t u
told_gave (gave.EntryInterrupted t item) = item_of (done 5 t 0) (Some item)

abbrev pub told_put : Put ℕ → Answer
told_put (put.Kept t) = done 4 t 0
told_put (put.Meets t u) = done 2 t u
told_put (put.Fails t item) = item_of (done 3 t 0) (Some item)

abbrev pub told_offered : Offered ℕ → Answer
told_offered (offered.Meets t u) = done 2 t u
told_offered (offered.Fails t item) = item_of (done 3 t 0) (Some item)

abbrev pub told_took : Took ℕ → Answer
told_took (took.Waits t) = done 1 t 0
told_took (took.Meets t u item) = item_of (done 2 t u) (Some item)
told_took (took.EntryInterrupted t) = done 5 t 0

abbrev pub told_polled : Polled ℕ → Answer
told_polled (polled.Meets t u item) = item_of (done 2 t u) (Some item)
told_polled (polled.Fails t) = done 3 t 0

abbrev pub told_followed : Followed ℕ → Answer
told_followed followed.Done = done 6 0 0
told_followed (followed.Got u item) = item_of (done 7 0 u) (Some item)
told_followed (followed.Interrupted item) = item_of (done 8 0 0) item
told_followed followed.NotYet = done 9 0 0

abbrev pub told_back : TakenBack ℕ → Answer
told_back (Back item) = item_of (done 10 0 0) item
told_back Late = done 11 0 0

abbrev pub told_interrupted : Interrupted → Answer
told_interrupted (Cut t) = done 12 t 0
told_interrupted Flagged = done 13 0 0

-- what came of a call
abbrev pub told : QueueAnswer ℕ → Answer
told (queue.Put a) = told_put a
told (queue.Gave a) = told_gave a
told (queue.Offered a) = told_offered a
told (queue.Took a) = told_took a
told (queue.Polled a) = told_polled a
told (queue.Followed a) = told_followed a
told (queue.TakenBack a) = told_back a
told (queue.Interrupted a) = told_interrupted a
