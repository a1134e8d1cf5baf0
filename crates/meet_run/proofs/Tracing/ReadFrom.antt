-- How far the records behind a base were read. The first of the lines that are left was read already.
use Rattle.std.proofs.Common.{◌≡◌, ℕ, ◌+◌, ◌<◌, ◌≤◌, nat_le, Bool, true, false, cond, List, [], ◌∷◌, ◌++◌, length, Option, Some, None, refl, sym, ap, subst, ◌∙◌, append_assoc, append-nil, ⊎_elim}
use Rattle.std.specs.Prelude.{IfSome}
use Rattle.std.specs.Io.KnownBytes.{Consumes, IsAtEnd}
use Rattle.std.proofs.lemmas.Bool.{cases_lt, lt-ltb, le-leb, lt-leb}
use Rattle.meet_tickets.specs.declared.records.Deed.{Deed}
use Rattle.meet_tickets.specs.declared.records.Record.{Record}
use Rattle.meet_tickets.specs.Bases.{Based}
use Rattle.meet_tickets.specs.Limits.{most_records}
use Rattle.meet_history.specs.Pushing.{Progress, HasSeen}
use Rattle.meet_run.specs.declared.trace.kept.Kept.{Kept}
use Rattle.meet_run.specs.Tracing.Keeping.{HasKept}
use Rattle.meet_run.specs.Texts.Reading.{lines_of, Listed, Both, TakesLine, BeginsTooLong, listed}
use Rattle.meet_run.specs.Tracing.TraceGrammar.{record_of}
use Rattle.meet_run.specs.Tracing.BasedTraces.{record_from, ArePushedOn}
use Rattle.meet_run.proofs.Scripts.RunLemmas.{ended-lines}
use Rattle.meet_run.proofs.Scripts.ScriptLemmas.{listed-end, listed-more, listed-fault}
use Rattle.meet_run.proofs.Tracing.TraceReading.{after_records}

pub long-none : (first n : ℕ) (line : List ℕ) → 128 < length line → record_from first n line ≡ None
unfolding record_from record_of
long-none first n line long = rw (lt-ltb 128 (length line) long) (either None (nat_le (first + most_records) n))
  where
    either : {A : Type 0} (o : Option A) (c : Bool) → cond c o o ≡ o
    either o true = refl
    either o false = refl

pub from-past : (first n : ℕ) (line : List ℕ) → first + most_records ≤ n → record_from first n line ≡ None
unfolding record_from
from-past first n line past = rw (le-leb (first + most_records) n past) refl

pub from-within : (first n : ℕ) (line : List ℕ) → n < first + most_records → record_from first n line ≡ record_of line
unfolding record_from
from-within first n line within = rw (lt-leb (first + most_records) n within) refl

pub from-some : (first n : ℕ) (line : List ℕ) (entry : Record Deed) → record_from first n line ≡ Some entry → n < first + most_records
from-some first n line entry is = ⊎_elim
    (λ (within : n < first + most_records). within)
    (λ (past : first + most_records ≤ n). let clash : None ≡ Some entry = sym (from-past first n line past) ∙ is in absurd (cc))
    (cases_lt n (first + most_records))

module _ (first : ℕ) where
  abbrev told : (n : ℕ) → List (List ℕ) → Listed (Record Deed)
  told n lines = listed (record_from first) n lines

  -- of the known bytes lines were read as these records, and the line with this number
  abbrev pub WasReadFrom : (begin : List ℕ) (old now : Option (List ℕ)) → (line : List ℕ) → (n : ℕ) → (past : List (Record Deed)) → Type 0
  WasReadFrom begin old now line n past =
      Both old now (λ xs ys. told first (begin ∷ lines_of xs) ≡ after_records past (told n (line ∷ lines_of ys)))

  pub from-none : (begin : List ℕ) (reader : Option (List ℕ)) → WasReadFrom begin reader reader begin first []
  from-none begin None = tt
  from-none begin (Some xs) = refl

  module _ (begin : List ℕ) (line : List ℕ) (n : ℕ) (past : List (Record Deed)) where
    -- one record more, and then these lines
    one-more : (xs ys : List ℕ) (entry : Record Deed) (lines : List (List ℕ)) → told first (begin ∷ lines_of xs) ≡ after_records past (told n (line ∷ lines_of ys)) → record_from first n line ≡ Some entry → lines_of ys ≡ lines → told first (begin ∷ lines_of xs) ≡ after_records (past ++ entry ∷ []) (told (n + 1) lines)
    one-more xs ys entry lines was is next =
        was
        ∙ (ap (λ (c : Listed (Record Deed)). after_records past c) (listed-more (record_from first) n line (lines_of ys) entry is)
        ∙ (ap (λ (q : List (Record Deed)). let l : Listed (Record Deed) = record { items = q; fault = (told (n + 1) (lines_of ys)).fault } in l) (sym (append_assoc past (entry ∷ []) (told (n + 1) (lines_of ys)).items))
        ∙ ap (λ ls. after_records (past ++ entry ∷ []) (told (n + 1) ls)) next))

    pub from-more : (old mid new : Option (List ℕ)) (entry : Record Deed) (later : List ℕ) → WasReadFrom begin old mid line n past → record_from first n line ≡ Some entry → TakesLine mid new later → WasReadFrom begin old new later (n + 1) (past ++ entry ∷ [])
    from-more None mid new entry later was is takes = tt
    from-more (Some xs) None new entry later was is takes = absurd was
    from-more (Some xs) (Some ys) None entry later was is takes = absurd takes
    from-more (Some xs) (Some ys) (Some zs) entry later was is takes = one-more xs ys entry (later ∷ lines_of zs) was is takes

    -- the line is no record
    pub from-fault : (old mid : Option (List ℕ)) → WasReadFrom begin old mid line n past → record_from first n line ≡ None → IfSome old (λ rest. (told first (begin ∷ lines_of rest)).fault ≡ Some n)
    from-fault None mid was is = tt
    from-fault (Some xs) None was is = absurd was
    from-fault (Some xs) (Some ys) was is = ap (λ (c : Listed (Record Deed)). c.fault) (was ∙ ap (λ (c : Listed (Record Deed)). after_records past c) (listed-fault (record_from first) n line (lines_of ys) is))

    -- the next is too long
    pub from-long : (old mid : Option (List ℕ)) (entry : Record Deed) → WasReadFrom begin old mid line n past → record_from first n line ≡ Some entry → BeginsTooLong mid → IfSome old (λ rest. (told first (begin ∷ lines_of rest)).fault ≡ Some (n + 1))
    from-long None mid entry was is long = tt
    from-long (Some xs) None entry was is long = absurd was
    from-long (Some xs) (Some ys) entry was is long =
        ap (λ (c : Listed (Record Deed)). c.fault) (one-more xs ys entry (long.0 ∷ long.1) was is long.2
        ∙ ap (λ (c : Listed (Record Deed)). after_records (past ++ entry ∷ []) c) (listed-fault (record_from first) (n + 1) long.0 long.1 (long-none first (n + 1) long.0 long.3)))

    -- no line is left
    pub from-end : (old mid new : Option (List ℕ)) (entry : Record Deed) (before after : Progress) (count : ℕ) → WasReadFrom begin old mid line n past → record_from first n line ≡ Some entry → Consumes mid new [] → IsAtEnd new → count ≡ length (past ++ entry ∷ []) → ((b : Based) → HasSeen b before [] → HasSeen b after (past ++ entry ∷ [])) → IfSome old (λ rest. ArePushedOn before after count (told first (begin ∷ lines_of rest)))
    from-end old mid new entry before after count was is consumes at_end many seen = by old mid was (ended-lines mid new consumes at_end)
      where
        by : (o m : Option (List ℕ)) → WasReadFrom begin o m line n past → IfSome m (λ xs. lines_of xs ≡ []) → IfSome o (λ rest. ArePushedOn before after count (told first (begin ∷ lines_of rest)))
        by None m was none = tt
        by (Some xs) None was none = absurd was
        by (Some xs) (Some ys) was none =
            let whole : Listed (Record Deed) = record { items = past ++ entry ∷ []; fault = None } in
            let all : told first (begin ∷ lines_of xs) ≡ whole = one-more xs ys entry [] was is none
            ∙ (ap (λ (c : Listed (Record Deed)). after_records (past ++ entry ∷ []) c) (listed-end (record_from first) (n + 1)) ∙ ap (λ (q : List (Record Deed)). let l : Listed (Record Deed) = record { items = q; fault = None } in l) (append-nil (past ++ entry ∷ []))) in
            let pushed : ArePushedOn before after count whole = (refl, many, seen) in
            subst (λ c. ArePushedOn before after count c) (sym all) pushed

    -- and so what was kept are the records
    pub from-kept : (old mid new : Option (List ℕ)) (entry : Record Deed) (wanted : Bool) (kept : Kept) → WasReadFrom begin old mid line n past → record_from first n line ≡ Some entry → Consumes mid new [] → IsAtEnd new → HasKept wanted kept (past ++ entry ∷ []) → IfSome old (λ rest. HasKept wanted kept (told first (begin ∷ lines_of rest)).items)
    from-kept old mid new entry wanted kept was is consumes at_end has = by old mid was (ended-lines mid new consumes at_end)
      where
        by : (o m : Option (List ℕ)) → WasReadFrom begin o m line n past → IfSome m (λ xs. lines_of xs ≡ []) → IfSome o (λ rest. HasKept wanted kept (told first (begin ∷ lines_of rest)).items)
        by None m was none = tt
        by (Some xs) None was none = absurd was
        by (Some xs) (Some ys) was none =
            let all : (told first (begin ∷ lines_of xs)).items ≡ past ++ entry ∷ [] = ap (λ (c : Listed (Record Deed)). c.items) (one-more xs ys entry [] was is none
            ∙ ap (λ (c : Listed (Record Deed)). after_records (past ++ entry ∷ []) c) (listed-end (record_from first) (n + 1))) ∙ append-nil (past ++ entry ∷ []) in
            subst (HasKept wanted kept) (sym all) has
