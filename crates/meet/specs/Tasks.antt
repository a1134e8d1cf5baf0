-- What comes of a task.
use Rattle.std.specs.Prelude.{ℕ, ⊤, Bool, Option, List, Result}
use Rattle.meet_drive.specs.Driven.{IsSized}
use Rattle.meet_draw.specs.Drawn.{DrawEnds}
use Rattle.meet_explain.specs.Explained.{ExplainEnds}
use Rattle.meet_judge.specs.Judging.{JudgeEnds}
use Rattle.meet_run.specs.declared.text.faults.RunFault.{RunFault}
use Rattle.meet_run.specs.Tracing.Chains.{ChainEnds}
use Rattle.meet_run.specs.Tracing.Erasing.{EraseEnds}
use Rattle.meet_run.specs.Texts.Reading.{lines_of}
use Rattle.meet_run.specs.Scripts.Running.{RunEnds}
use Rattle.meet_run.specs.Scripts.Script.{fault_of, text_before, output_of}
use Rattle.meet_run.specs.Tracing.Traces.{TracesAll, CheckEnds}
use Rattle.meet_sum.specs.Summing.{SumEnds}
use Rattle.pool_drive.specs.Driven.{IsPoolSized}
use Rattle.pool_run.specs.Checks.{PoolCheckEnds}
use Rattle.pool_run.specs.Scripts.{ScriptEnds, TraceEnds}
use Rattle.meet.specs.declared.command_line.Task.{Task}
use Rattle.meet.specs.declared.command_line.Task.TheVariants.{Run, Trace, Check, Erase, Chain, Explain}
use Rattle.meet.specs.declared.command_line.Task.TheVariants.{Draw, Sum, Judge}
use Rattle.meet.specs.declared.command_line.Task.TheVariants.{PoolRun, PoolTrace, PoolCheck}
use Rattle.meet.specs.declared.command_line.Wanted.{Wanted}
use Rattle.meet.specs.declared.command_line.Wanted.TheVariants.{Text, Drive, PoolDrive}

-- what came of a task with this input: of a script its replies, or its trace; of a trace what is found of it, with what
-- explains it or without, its picture, its sums, or what is left of it once erased; of a chain of them what is found of
-- it; of calls that overlap a history that explains them, or that there is none. So it is with scripts and traces of
-- pools
abbrev pub Performs : Task → (input : List ℕ) → Result Bool RunFault → (old new : Option (List ℕ)) → Type 0
Performs Run input result old new = RunEnds (fault_of input) (text_before input) (output_of input) result old new
Performs Trace input result old new = TracesAll input result old new
Performs Check input result old new = CheckEnds (lines_of input) result old new
Performs Erase input result old new = EraseEnds (lines_of input) result old new
Performs Chain input result old new = ChainEnds (lines_of input) result old new
Performs Explain input result old new = ExplainEnds (lines_of input) result old new
Performs (Draw style width) input result old new = DrawEnds style width (lines_of input) result old new
Performs Sum input result old new = SumEnds (lines_of input) result old new
Performs Judge input result old new = JudgeEnds input result old new
Performs PoolRun input result old new = ScriptEnds (lines_of input) result old new
Performs PoolTrace input result old new = TraceEnds (lines_of input) result old new
Performs PoolCheck input result old new = PoolCheckEnds (lines_of input) result old new

-- the numbers of a drive are those that it can have
abbrev pub IsWithin : Wanted → Type 0
IsWithin (Text task) = ⊤
IsWithin (Drive givers each) = IsSized givers each
IsWithin (PoolDrive callers each workers) = IsPoolSized callers each workers
