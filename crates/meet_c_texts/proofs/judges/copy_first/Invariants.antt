-- What stays true from turn to turn of `copy_first`, src/judges.rt.
use Rattle.std.proofs.Common.{◌≡◌, ℕ, ◌-◌, ◌<◌, ◌≤◌, length}
use Rattle.std.specs.Prelude.{slice_get}
use Rattle.meet_c_texts.proofs.judges.copy_first.Given as goal

-- the bytes so far are the text's, and the others what they were
abbrev pub invariant-loop-at : goal.invariant-loop-at
invariant-loop-at l = record {
  there : l.at ≤ length l.text;
  room : l.at ≤ length l.out;
  long : length l.out ≡ length l.fn.out;
  first : (k : ℕ) → k < l.at → slice_get l.out k ≡ slice_get l.text k;
  others : (k : ℕ) → l.at ≤ k → slice_get l.out k ≡ slice_get l.fn.out k;
}

abbrev pub decreases-loop-at : goal.decreases-loop-at
decreases-loop-at l = length l.initial.out - l.at
