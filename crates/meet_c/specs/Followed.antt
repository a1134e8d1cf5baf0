-- What a checker takes in, and what a caller in C is told of it.
use Rattle.std.specs.Prelude.{◌≡◌, ◌≢◌, ◌⊎◌, ℕ, ◌+◌, ◌-◌, ◌^◌, ◌<◌, ◌≤◌, Bool, true, false, List, ◌++◌, take, drop}
use Rattle.std.specs.Prelude.{map, length}
use Rattle.std.specs.Prelude.{slice_get, Option, Some, None}
use Rattle.meet_tickets.specs.declared.records.Record.{Record}
use Rattle.meet_tickets.specs.declared.records.Deed.{Deed}
use Rattle.meet_tickets.specs.Bases.{Based}
use Rattle.meet_history.specs.declared.checker.CheckFault.{CheckFault}
use Rattle.meet_history.specs.declared.checker.CheckFault.TheVariants.{Illegal, Memory}
use Rattle.meet_history.specs.Checking.{number_of_why}
use Rattle.meet_history.specs.declared.checker.Standing.{Standing}
use Rattle.meet_history.specs.Pushing.{Progress, HasSeen, TakesIn, IsUnchanged, IsStandingOf, HasRoomFor}
use Rattle.meet_c.specs.declared.entries.PlainRecord.{PlainRecord}
use Rattle.meet_c.specs.declared.followers.Found.{Found}
use Rattle.meet_c.specs.declared.followers.Follower.{Follower}
use Rattle.meet_c.specs.Entries.{record_of}
use Rattle.meet_c.specs.Stepped.{QueueBook, HasCut, WasNotCut}

-- a status, and how many records the checker has taken in
abbrev pub status_with : (status records : ℕ) → Found
status_with status records =
    record { status = status; records = records; place = 0; why = 0; waiting = 0; uncollected = 0; kept = 0 }

-- a fault, after so many records
abbrev pub fault_with : CheckFault → (records : ℕ) → Found
fault_with Memory records = status_with 1 records
fault_with (Illegal place why) records = record (status_with 31 records) { place = place; why = number_of_why why }

-- no fault, or one
abbrev pub found_with : Option CheckFault → (records : ℕ) → Found
found_with None records = status_with 0 records
found_with (Some fault) records = fault_with fault records

-- where the tickets and items are
abbrev pub stands : Standing → (records : ℕ) → Found
stands s records = record (status_with 0 records) { waiting = s.waiting; uncollected = s.uncollected; kept = s.kept }

-- what comes of the next record: the checker takes it in, and the records so far are legal, or it is the first that
-- can't stand; or memory ran out, and the checker is as it was
pub record TakesNext (old : Follower) (r : Record Deed) (fault : Option CheckFault) (new : Follower) : Type 0 where
  pub kind : new.checker.place.kind ≡ old.checker.place.kind
  pub seen : fault ≢ Some Memory → TakesIn old.checker r new.checker
  pub ends : fault ≢ Some Memory → new.checker.fault ≡ fault
  pub counts : fault ≢ Some Memory → new.taken ≡ old.taken + 1
  pub again : (f : CheckFault) → old.checker.fault ≡ Some f → old.taken + 1 < 2 ^ 64 → fault ≡ Some f
  pub unchanged : fault ≡ Some Memory → IsUnchanged old.checker new.checker
  pub uncounted : fault ≡ Some Memory → new.taken ≡ old.taken
  pub enough : HasRoomFor old.checker r → old.taken + 1 < 2 ^ 64 → fault ≢ Some Memory

-- what comes of plain numbers: they are no record, and nothing has changed; or they are one, which comes next
abbrev pub TakesRead : Follower → Option (Record Deed) → Found → Follower → Type 0
TakesRead old None found new = (found ≡ status_with 30 old.taken) × (new ≡ old)
TakesRead old (Some r) found new = (fault : Option CheckFault) × TakesNext old r fault new
    × (found ≡ found_with fault new.taken)

-- whatever a checker has seen, it has then seen these records after it
abbrev pub TakesAll : (old : Progress) → List (Record Deed) → (new : Progress) → Type 0
TakesAll old records new =
    (base : Based) (past : List (Record Deed)) → HasSeen base old past → HasSeen base new (past ++ records)

-- the plain records were taken in to their end, or up to one at which it ended
abbrev pub TakesLast : Follower → Option PlainRecord → Found → Follower → Type 0
TakesLast middle None found new = (found ≡ status_with 0 new.taken) × (new ≡ middle)
TakesLast middle (Some entry) found new = (found.status ≢ 0) × TakesRead middle (record_of entry) found new

-- what comes of many plain records: so many from the first on are records, and legal after what was seen; after them
-- comes the end of all, or one at which it ended
pub record TakesMany (old : Follower) (entries : List PlainRecord) (found : Found) (new : Follower) : Type 0 where
  pub records : List (Record Deed)
  pub middle : Follower
  pub read : map record_of (take (length records) entries) ≡ map Some records
  pub kind : middle.checker.place.kind ≡ old.checker.place.kind
  pub seen : TakesAll old.checker records middle.checker
  pub counts : middle.taken ≡ old.taken + length records
  pub sound : 0 < length records → middle.checker.fault ≡ None
  pub last : TakesLast middle (slice_get entries (length records)) found new

-- where the tickets and items are after what a checker has seen; or the fault that was found
pub record StandsAs (f : Follower) (found : Found) : Type 0 where
  pub sound : found.status ≡ 0 → (f.checker.fault ≡ None) × (s : Standing) × IsStandingOf f.checker s
      × (found ≡ stands s f.taken)
  pub fault : found.status ≢ 0 → (fault : CheckFault) × (f.checker.fault ≡ Some fault)
      × (found ≡ fault_with fault f.taken)

-- a checker takes records in: all of them, or as many as there was memory for
pub record Follows (old : Follower) (records : List (Record Deed)) (all : Bool) (new : Follower) : Type 0 where
  pub count : ℕ
  pub seen : TakesAll old.checker (take count records) new.checker
  pub counts : new.taken ≡ old.taken + count
  pub few : count ≤ length records
  pub whole : all ≡ true → count ≡ length records
  pub kind : new.checker.place.kind ≡ old.checker.place.kind

-- a checker that has taken in other than the records that were folded away, and some since: records between are gone,
-- or it has records of another queue
abbrev pub IsApart : QueueBook → Follower → Type 0
IsApart book f = (f.taken < book.base.gone) ⊎ (book.base.gone + length book.records < f.taken)

-- the records that a checker hasn't taken in
abbrev pub unseen : QueueBook → Follower → List (Record Deed)
unseen book f = drop (f.taken - book.base.gone) book.records

-- a checker took a queue's new records in: if all records are legal they were folded away, or that was refused; if
-- one can't stand, or memory ran out before, the queue is as it was
pub record Checks (old : QueueBook) (was : Follower) (found : Found) (new : QueueBook) (now : Follower) : Type 0 where
  pub all : Bool
  pub follows : Follows was (unseen old was) all now
  pub memory : all ≡ false → (found ≡ status_with 1 now.taken) × (new ≡ old)
  pub faulty : all ≡ true → now.checker.fault ≢ None → StandsAs now found × (new ≡ old)
  pub legal : all ≡ true → now.checker.fault ≡ None → found.status ≡ 0 → StandsAs now found
      × (gone : ℕ) × HasCut old gone new
  pub uncut : all ≡ true → now.checker.fault ≡ None → found.status ≢ 0 → WasNotCut old found.status new
      × (found ≡ status_with found.status now.taken)

-- what comes of a queue's new records: a checker that is apart takes none in, and nothing has changed
pub record ChecksNew (old : QueueBook) (was : Follower) (found : Found) (new : QueueBook) (now : Follower)
    : Type 0 where
  pub apart : IsApart old was → (found ≡ status_with 42 was.taken) × (new ≡ old) × (now ≡ was)
  pub checks : (IsApart old was → ⊥) → Checks old was found new now
