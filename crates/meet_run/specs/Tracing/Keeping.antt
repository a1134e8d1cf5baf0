-- What is kept of the records of a trace that is read.
use Rattle.std.specs.Prelude.{◌≡◌, Bool, List, [], if◌then◌else◌}
use Rattle.meet_tickets.specs.declared.records.Deed.{Deed}
use Rattle.meet_tickets.specs.declared.records.Record.{Record}
use Rattle.meet_run.specs.declared.trace.kept.Kept.{Kept}

-- just these records were kept where they are wanted, and none where not
pub record HasKept (wanted : Bool) (kept : Kept) (records : List (Record Deed)) : Type 0 where
  pub same : kept.wanted ≡ wanted
  pub are : kept.records.items ≡ (if wanted then records else [])
