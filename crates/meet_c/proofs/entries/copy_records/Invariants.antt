-- What stays true from turn to turn of `copy_records`, src/entries.rt.
use Rattle.std.proofs.Common.{◌≡◌, ℕ, ◌+◌, ◌-◌, ◌<◌, ◌≤◌, length}
use Rattle.std.specs.Prelude.{slice_get, option_map}
use Rattle.meet_c.specs.Entries.{told_record}
use Rattle.meet_c.proofs.entries.copy_records.Given as goal

-- the places so far have their records, and the others what they had
abbrev pub invariant-loop-at : goal.invariant-loop-at
invariant-loop-at l = record {
  there : l.at ≤ length l.records - l.from;
  room : l.at ≤ length l.into;
  long : length l.into ≡ length l.fn.into;
  copied : (k : ℕ) → k < l.at → slice_get l.into k ≡ option_map told_record (slice_get l.records (l.from + k));
  others : (k : ℕ) → l.at ≤ k → slice_get l.into k ≡ slice_get l.fn.into k;
}

abbrev pub decreases-loop-at : goal.decreases-loop-at
decreases-loop-at l = length l.initial.into - l.at
