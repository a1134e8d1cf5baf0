-- A trace that is written block by block.
use Rattle.std.proofs.Common.{◌≡◌, ℕ, ◌+◌, ◌<◌, List, [], ◌∷◌, ◌++◌, length, take, drop, get_or, Option, sym, ap, ◌∙◌, subst, append_assoc, append-nil}
use Rattle.std.specs.Io.KnownBytes.{Appends}
use Rattle.std.specs.List.{flat_map}
use Rattle.std.proofs.lemmas.Grind.{flat_map-append}
use Rattle.std.proofs.lemmas.List.{take-append-drop, take_more, flat_map_more}
use Rattle.meet_tickets.specs.declared.places.Kind.{Kind}
use Rattle.meet_tickets.specs.declared.records.Deed.{Deed}
use Rattle.meet_tickets.specs.declared.records.Record.{Record}
use Rattle.meet_run.specs.Tracing.TraceWording.{head_line, record_line, trace_text}
use Rattle.meet_run.specs.Texts.Writing.{AppendsPrefix, IsPrefix}
use Rattle.meet_run.proofs.Scripts.Ran.{appends-nothing}
use Rattle.meet_run.proofs.Texts.WritingLemmas.{appends-more, prefix-of, prefix-more}

-- of this text and the first records' lines a part was written, and the rest is kept back
pub record IsUnderWay (old now : Option (List ℕ)) (head kept : List ℕ) (records : List (Record Deed)) (n : ℕ) : Type 0 where
  pub written : List ℕ
  pub wrote : Appends old now written
  pub parts : written ++ kept ≡ head ++ flat_map record_line (take n records)

-- nothing was written so far
pub under_way-none : (writer : Option (List ℕ)) (head : List ℕ) (records : List (Record Deed)) → IsUnderWay writer writer head head records 0
under_way-none writer head records = record { written = []; wrote = appends-nothing writer; parts = sym (append-nil head) }

module _ (old now : Option (List ℕ)) (head kept : List ℕ) (records : List (Record Deed)) (n : ℕ) (way : IsUnderWay old now head kept records n) where
  -- what is written and kept back is a prefix of all
  under_way-prefix : (next : List ℕ) → IsPrefix (kept ++ next) (kept ++ flat_map record_line (drop n records)) → IsPrefix (way.written ++ (kept ++ next)) (head ++ flat_map record_line records)
  under_way-prefix next prefix = (prefix.0, whole)
    where
      lines : List (Record Deed) → List ℕ
      lines rs = flat_map record_line rs

      split : lines records ≡ lines (take n records) ++ lines (drop n records)
      split = ap lines (sym (take-append-drop n records)) ∙ flat_map-append record_line (take n records) (drop n records)

      whole : head ++ lines records ≡ (way.written ++ (kept ++ next)) ++ prefix.0
      whole =
          ap (λ (t : List ℕ). head ++ t) split
          ∙ (sym (append_assoc head (lines (take n records)) (lines (drop n records)))
          ∙ (ap (λ (t : List ℕ). t ++ lines (drop n records)) (sym way.parts)
          ∙ (append_assoc way.written kept (lines (drop n records))
          ∙ (ap (λ (t : List ℕ). way.written ++ t) prefix.1
          ∙ sym (append_assoc way.written (kept ++ next) prefix.0)))))

  -- there was no memory for the next line
  pub under_way-stopped : AppendsPrefix old now (head ++ flat_map record_line records)
  under_way-stopped =
      let prefix : IsPrefix (way.written ++ (kept ++ [])) (head ++ flat_map record_line records) = under_way-prefix [] (flat_map record_line (drop n records), ap (λ (t : List ℕ). t ++ flat_map record_line (drop n records)) (sym (append-nil kept))) in
      prefix-of old now way.written (head ++ flat_map record_line records) way.wrote (kept ++ [] ++ prefix.0, prefix.1 ∙ append_assoc way.written (kept ++ []) prefix.0)

  -- a line more is kept back
  pub under_way-more : (entry : Record Deed) (later : List ℕ) → n < length records → entry ≡ get_or records n entry → later ≡ kept ++ record_line entry → IsUnderWay old now head later records (n + 1)
  under_way-more entry later there item is = record {
    written = way.written;
    wrote = way.wrote;
    parts =
        ap (λ (t : List ℕ). way.written ++ t) is
        ∙ (sym (append_assoc way.written kept (record_line entry))
        ∙ (ap (λ (t : List ℕ). t ++ record_line entry) way.parts
        ∙ (flat_map_more record_line head (take n records) entry
        ∙ ap (λ (rs : List (Record Deed)). head ++ flat_map record_line rs) (ap (λ (r : Record Deed). take n records ++ r ∷ []) item ∙ sym (take_more records n entry there)))));
  }

  -- what was kept back is written
  pub under_way-written : (after : Option (List ℕ)) (none : List ℕ) → Appends now after kept → none ≡ [] → IsUnderWay old after head none records n
  under_way-written after none wrote is = record {
    written = way.written ++ kept;
    wrote = appends-more old now after way.written kept way.wrote wrote;
    parts = ap (λ (t : List ℕ). (way.written ++ kept) ++ t) is ∙ (append-nil (way.written ++ kept) ∙ way.parts);
  }

  -- or only a prefix of it
  pub under_way-broken : (after : Option (List ℕ)) → AppendsPrefix now after kept → AppendsPrefix old after (head ++ flat_map record_line records)
  under_way-broken after prefix =
      let all : IsPrefix (way.written ++ (kept ++ [])) (head ++ flat_map record_line records) = under_way-prefix [] (flat_map record_line (drop n records), ap (λ (t : List ℕ). t ++ flat_map record_line (drop n records)) (sym (append-nil kept))) in
      prefix-more old now after way.written kept (head ++ flat_map record_line records) way.wrote prefix (subst (λ t. IsPrefix (way.written ++ t) (head ++ flat_map record_line records)) (append-nil kept) all)

  -- all was written
  pub under_way-done : (after : Option (List ℕ)) → take n records ≡ records → Appends now after kept → Appends old after (head ++ flat_map record_line records)
  under_way-done after all wrote =
      subst (λ t. Appends old after t) (way.parts ∙ ap (λ (rs : List (Record Deed)). head ++ flat_map record_line rs) all) (appends-more old now after way.written kept way.wrote wrote)

-- a trace is its first line, and then its records' lines
pub trace-is : (kind : Kind) (records : List (Record Deed)) (head : List ℕ) → head ≡ [] ++ head_line kind → head ++ flat_map record_line records ≡ trace_text kind records
unfolding trace_text
trace-is kind records head is = ap (λ (t : List ℕ). t ++ flat_map record_line records) is
