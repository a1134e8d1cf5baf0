-- What comes of a task, which is what `meet` does with these words.
use Rattle.std.specs.Prelude.{ℕ, Bool, Option, List, Result}
use Rattle.meet_run.specs.declared.text.faults.RunFault.{RunFault}
use Rattle.meet_run.specs.Tracing.Chains.{ChainEnds}
use Rattle.meet_run.specs.Tracing.Erasing.{EraseEnds}
use Rattle.meet_run.specs.Texts.Reading.{lines_of}
use Rattle.meet_run.specs.Scripts.Running.{RunEnds}
use Rattle.meet_run.specs.Scripts.Script.{fault_of, text_before, output_of}
use Rattle.meet_run.specs.Tracing.Traces.{TracesAll, CheckEnds}
use Rattle.meet_try.specs.declared.tasks.Task.{Task}
use Rattle.meet_try.specs.declared.tasks.Task.TheVariants.{Run, Trace, Check, Erase, Chain}

-- what came of a task with this input: of a script its replies, or its trace; of a trace what is found of it, or what is
-- left of it once erased; of a chain of traces what is found of it
abbrev pub Performs : Task → (input : List ℕ) → Result Bool RunFault → (old new : Option (List ℕ)) → Type 0
Performs Run input result old new = RunEnds (fault_of input) (text_before input) (output_of input) result old new
Performs Trace input result old new = TracesAll input result old new
Performs Check input result old new = CheckEnds (lines_of input) result old new
Performs Erase input result old new = EraseEnds (lines_of input) result old new
Performs Chain input result old new = ChainEnds (lines_of input) result old new
