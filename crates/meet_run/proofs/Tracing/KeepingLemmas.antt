-- What is kept of the records, one record more.
use Rattle.std.proofs.Common.{◌≡◌, ℕ, sym, ap, ◌∙◌, subst, Bool, true, false, if◌then◌else◌, Option, Some, None, List, [], ◌∷◌, ◌++◌}
use Rattle.std.specs.Prelude.{IfSome, IfOk, Result, Ok, Err}
use Rattle.meet_run.specs.declared.text.faults.RunFault.{RunFault}
use Rattle.meet_tickets.specs.declared.records.Deed.{Deed}
use Rattle.meet_tickets.specs.declared.records.Record.{Record}
use Rattle.meet_run.specs.declared.trace.kept.Kept.{Kept}
use Rattle.meet_run.specs.declared.trace.check.ReadTrace.{ReadTrace}
use Rattle.meet_run.specs.Tracing.Keeping.{HasKept}
use Rattle.meet_run.specs.Texts.Reading.{lines_of}
use Rattle.meet_run.specs.Tracing.Traces.{IsRead, IsReadWith, IsReadInto}

module _ (wanted : Bool) (old new : Kept) (past : List (Record Deed)) (entry : Record Deed) (was : HasKept wanted old past) (same : new.wanted ≡ old.wanted) where
  -- they are wanted, and it was kept
  pub kept-more : old.wanted ≡ true → new.records.items ≡ old.records.items ++ entry ∷ [] → HasKept wanted new (past ++ entry ∷ [])
  kept-more wants push =
      let is : wanted ≡ true = sym was.same ∙ wants in
      let all : old.records.items ≡ past = was.are ∙ ap (λ b. if b then past else []) is in
      record {
        same = same ∙ was.same;
        are = push ∙ ap (λ rs. rs ++ entry ∷ []) all ∙ sym (ap (λ b. if b then past ++ entry ∷ [] else []) is);
      }

  -- they aren't
  pub kept-still : old.wanted ≡ false → new.records.items ≡ old.records.items → HasKept wanted new (past ++ entry ∷ [])
  kept-still not_so still =
      let is : wanted ≡ false = sym was.same ∙ not_so in
      record {
        same = same ∙ was.same;
        are = still ∙ was.are ∙ ap (λ b. if b then past else []) is ∙ sym (ap (λ b. if b then past ++ entry ∷ [] else []) is);
      }

-- a trace that was read into what was kept was read
just-read : (old : Option (List ℕ)) (trace : ReadTrace) (wanted : Bool) (kept : Kept) → IfSome old (λ input. IsReadInto (lines_of input) trace wanted kept) → IfSome old (λ input. IsRead (lines_of input) trace)
just-read None trace wanted kept read = tt
just-read (Some xs) trace wanted kept read = read.0

pub all-read : (old : Option (List ℕ)) (wanted : Bool) (kept : Kept) (r : Result ReadTrace RunFault) → IfOk r (λ trace. IfSome old (λ input. IsReadInto (lines_of input) trace wanted kept)) → IfOk r (λ trace. IfSome old (λ input. IsRead (lines_of input) trace))
all-read old wanted kept (Ok trace) read = just-read old trace wanted kept read
all-read old wanted kept (Err f) read = tt

-- and what was kept are its records, where they were wanted
pub read-with : (old : Option (List ℕ)) (trace : ReadTrace) (wanted : Bool) (kept : Kept) (records : List (Record Deed)) → wanted ≡ true → ((past : List (Record Deed)) → HasKept true kept past → records ≡ past) → IfSome old (λ input. IsReadInto (lines_of input) trace wanted kept) → IfSome old (λ input. IsReadWith (lines_of input) trace records)
read-with None trace wanted kept records wants are read = tt
read-with (Some xs) trace wanted kept records wants are read =
    (read.0, sym (are read.0.records (subst (λ w. HasKept w kept read.0.records) wants read.1)))
