-- What stays true from turn to turn of `push_records`, src/check.rt.
use Rattle.std.proofs.Common.{◌≡◌, ℕ, ◌+◌, ◌≤◌, List, length}
use Rattle.std.specs.Vec.{vec_capacity}
use Rattle.meet_tickets.specs.declared.records.Record.{Record}
use Rattle.meet_run.specs.Texts.Reading.{UsesTurns}
use Rattle.pool_core.specs.declared.deeds.PoolDeed.{PoolDeed}
use Rattle.pool_core.specs.Histories.{no_base}
use Rattle.pool_history.specs.Pushing.{HasSeen}
use Rattle.pool_run.specs.Records.{pool_record_at}
use Rattle.pool_run.proofs.Came.{HasCome}
use Rattle.pool_run.proofs.check.push_records.Given as goal

abbrev pub invariant-loop-entry : goal.invariant-loop-entry
invariant-loop-entry g l = record {
  pushed : (past : List (Record (PoolDeed ℕ))) × HasCome pool_record_at past l.read (g.R.Read.remaining l.fn.reader) (g.R.Read.remaining l.reader) × (l.read ≡ length past + 1) × HasSeen no_base l.checker past;
  settings : l.checker.pool.settings ≡ l.fn.checker.pool.settings;
  uses : UsesTurns (g.R.Read.remaining l.fn.reader) (g.R.Read.remaining l.reader) l.fn.turns l.turns;
  few : l.read + l.turns ≤ 1 + l.fn.turns;
  room : 128 ≤ vec_capacity l.line;
}

abbrev pub decreases-loop-entry : goal.decreases-loop-entry
decreases-loop-entry g l = l.turns
