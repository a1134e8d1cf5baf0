-- A pool's script that is traced: what its calls leave, and how the trace was written.
use Rattle.std.proofs.Common.{◌≡◌, ◌⊎◌, inl, inr, ℕ, ◌+◌, ◌<◌, List, [], ◌∷◌, ◌++◌, length, take, drop, get_or, Option, Some, None, Ok, Err, true, refl, sym, ap, ◌∙◌, subst, append-nil, append_assoc}
use Rattle.std.specs.Prelude.{IfSome}
use Rattle.std.specs.Io.KnownBytes.{Appends}
use Rattle.std.specs.List.{flat_map}
use Rattle.std.proofs.lemmas.Grind.{flat_map-append}
use Rattle.std.proofs.lemmas.List.{take_more, take-append-drop}
use Rattle.meet_tickets.specs.declared.records.Record.{Record}
use Rattle.meet_tickets.specs.declared.refusals.Refusal.{Refusal}
use Rattle.meet_tickets.specs.declared.refusals.Refusal.TheVariants.{Memory, BadLine, BadSizes, PolicyNeedsBuffer, ReadFault, WriteFault}
use Rattle.meet_tickets.specs.Refusals.{IsWhy}
use Rattle.meet_run.specs.Texts.Reading.{lines_of}
use Rattle.meet_run.specs.Texts.Writing.{AppendsPrefix, IsPrefix}
use Rattle.meet_run.proofs.Scripts.Ran.{appends-nothing}
use Rattle.meet_run.proofs.Texts.WritingLemmas.{appends-more, prefix-more}
use Rattle.pool_core.specs.declared.deeds.PoolDeed.{PoolDeed}
use Rattle.pool_core.specs.declared.settings.Settings.{Settings}
use Rattle.pool_core.specs.Calls.{settings_refusal}
use Rattle.pool_history.specs.declared.one_thread.replies.PoolReply.{PoolReply}
use Rattle.pool_history.specs.declared.one_thread.verbs.PoolRequest.{PoolRequest}
use Rattle.pool_history.specs.OneThread.{Thread, IsNew, IsTurn}
use Rattle.pool_run.specs.Requests.{request_of}
use Rattle.pool_run.specs.Scripts.{requests_behind, pool_trace_text, HasRun, AreMade, IsTraceCut, IsUnmadeBy, IsScriptFault, TracesTo}
use Rattle.pool_run.specs.Wording.{pool_record_line, pool_head_line}
use Rattle.pool_run.proofs.Came.{HasCome, at-end, at-fault, has_come-first, has_come-more}
use Rattle.pool_run.proofs.Turning.{ReadsCall, reads, run-none, run-more}
use Rattle.pool_run.proofs.Running.{outside, new_thread, is-new, refused-so, refused-fault}

-- some calls were made
pub record Making (s : Settings) (reader_old reader_new : Option (List ℕ)) (read : ℕ) (t : Thread) : Type 0 where
  pub requests : List PoolRequest
  pub replies : List PoolReply
  pub run : HasRun s requests replies t
  pub came : HasCome reads requests read reader_old reader_new

pub making-none : (s : Settings) (reader : Option (List ℕ)) (t : Thread) → IsNew s t → Making s reader reader 1 t
making-none s reader t new = record { requests = []; replies = []; run = run-none s t new; came = has_come-first reads reader }

module _ (s : Settings) (old mid : Option (List ℕ)) (read : ℕ) (t : Thread) (making : Making s old mid read t) where
  pub making-more : (new : Option (List ℕ)) (request : PoolRequest) (said : List PoolReply) (later : Thread) → ReadsCall mid new request → IsTurn t request said later → Making s old new (read + 1) later
  making-more new request said later next turn = record {
    requests = making.requests ++ request ∷ [];
    replies = making.replies ++ said;
    run = run-more s t later making.requests making.replies request said making.run turn;
    came = has_come-more reads making.requests read old mid new request making.came next;
  }

  -- no line is left
  pub made-all : IfSome mid (λ xs. lines_of xs ≡ []) → IfSome old (λ xs. AreMade s (lines_of xs) t None)
  made-all none = at-end reads (λ lines. AreMade s lines t None) making.requests read old mid making.came none
      (λ lines these. record { replies = making.replies; at = these.fault_is; run = subst (λ rs. HasRun s rs making.replies t) (sym these.items_are) making.run })

  -- the next line is no call
  pub made-some : IfSome mid (λ xs. (line : List ℕ) × (lines : List (List ℕ)) × (lines_of xs ≡ line ∷ lines) × (request_of line ≡ None)) → IfSome old (λ xs. AreMade s (lines_of xs) t (Some (read + 1)))
  made-some faulty = at-fault reads (λ lines. AreMade s lines t (Some (read + 1))) making.requests read old mid making.came faulty
      (λ lines these. record { replies = making.replies; at = these.fault_is; run = subst (λ rs. HasRun s rs making.replies t) (sym these.items_are) making.run })

-- the lines of some records, and of one more
pub lines-more : (records : List (Record (PoolDeed ℕ))) (i : ℕ) (entry : Record (PoolDeed ℕ)) → i < length records → entry ≡ get_or records i entry → flat_map pool_record_line (take i records) ++ pool_record_line entry ≡ flat_map pool_record_line (take (i + 1) records)
lines-more records i entry there is =
    let more : take (i + 1) records ≡ take i records ++ entry ∷ [] = take_more records i entry there ∙ ap (λ x. take i records ++ x ∷ []) (sym is) in
    ap (λ x. flat_map pool_record_line (take i records) ++ x) (sym (append-nil (pool_record_line entry)))
    ∙ (sym (flat_map-append pool_record_line (take i records) (entry ∷ [])) ∙ ap (flat_map pool_record_line) (sym more))

-- the lines of some records begin those of all
pub lines-prefix : (records : List (Record (PoolDeed ℕ))) (i : ℕ) → IsPrefix (flat_map pool_record_line (take i records)) (flat_map pool_record_line records)
lines-prefix records i =
    (flat_map pool_record_line (drop i records), ap (flat_map pool_record_line) (sym (take-append-drop i records)) ∙ flat_map-append pool_record_line (take i records) (drop i records))

-- a prefix of the next line behind those written is a prefix of all
pub line-half : (records : List (Record (PoolDeed ℕ))) (i : ℕ) (entry : Record (PoolDeed ℕ)) (before now after : Option (List ℕ)) → i < length records → entry ≡ get_or records i entry → Appends before now (flat_map pool_record_line (take i records)) → AppendsPrefix now after (pool_record_line entry) → AppendsPrefix before after (flat_map pool_record_line records)
line-half records i entry before now after there is wrote half =
    prefix-more before now after (flat_map pool_record_line (take i records)) (pool_record_line entry) (flat_map pool_record_line records) wrote half
    (subst (λ x. IsPrefix x (flat_map pool_record_line records)) (sym (lines-more records i entry there is)) (lines-prefix records (i + 1)))

-- the text of a whole trace, part by part
pub trace-parts : (s : Settings) (past since : List (Record (PoolDeed ℕ))) → pool_trace_text s (past ++ since) ≡ (pool_head_line s ++ flat_map pool_record_line past) ++ flat_map pool_record_line since
unfolding pool_trace_text
trace-parts s past since = ap (λ x. pool_head_line s ++ x) (flat_map-append pool_record_line past since) ∙ sym (append_assoc (pool_head_line s) (flat_map pool_record_line past) (flat_map pool_record_line since))

-- a prefix of a trace's first line is one of the trace
pub trace-started : (s : Settings) (records : List (Record (PoolDeed ℕ))) (before after : Option (List ℕ)) → AppendsPrefix before after (pool_head_line s) → AppendsPrefix before after (pool_trace_text s records)
unfolding pool_trace_text
trace-started s records before after (text, wrote, (rest, parts)) = (text, wrote, (rest ++ flat_map pool_record_line records, ap (λ x. x ++ flat_map pool_record_line records) parts ∙ append_assoc text rest (flat_map pool_record_line records)))

module _ (s : Settings) (past since : List (Record (PoolDeed ℕ))) (before head : Option (List ℕ)) where
  -- so is the first line with a prefix of the lines of the first records
  pub trace-headed : (after : Option (List ℕ)) → Appends before head (pool_head_line s) → AppendsPrefix head after (flat_map pool_record_line past) → AppendsPrefix before after (pool_trace_text s (past ++ since))
  trace-headed after headed half = prefix-more before head after (pool_head_line s) (flat_map pool_record_line past) (pool_trace_text s (past ++ since)) headed half (flat_map pool_record_line since, trace-parts s past since)

  -- and with all of these and a prefix of the lines of the others
  pub trace-cut : (mid after : Option (List ℕ)) → Appends before head (pool_head_line s) → Appends head mid (flat_map pool_record_line past) → AppendsPrefix mid after (flat_map pool_record_line since) → AppendsPrefix before after (pool_trace_text s (past ++ since))
  trace-cut mid after headed wrote half =
      let first : List ℕ = pool_head_line s ++ flat_map pool_record_line past in
      prefix-more before mid after first (flat_map pool_record_line since) (pool_trace_text s (past ++ since)) (appends-more before head mid (pool_head_line s) (flat_map pool_record_line past) headed wrote) half ([], trace-parts s past since ∙ sym (append-nil (first ++ flat_map pool_record_line since)))

  -- and with all lines it is the trace
  pub trace-whole : (mid after : Option (List ℕ)) → Appends before head (pool_head_line s) → Appends head mid (flat_map pool_record_line past) → Appends mid after (flat_map pool_record_line since) → Appends before after (pool_trace_text s (past ++ since))
  trace-whole mid after headed wrote whole =
      subst (λ x. Appends before after x) (sym (trace-parts s past since))
      (appends-more before mid after (pool_head_line s ++ flat_map pool_record_line past) (flat_map pool_record_line since) (appends-more before head mid (pool_head_line s) (flat_map pool_record_line past) headed wrote) whole)

-- nothing was made or written
pub untraced : (s : Settings) (lines : List (List ℕ)) (writer : Option (List ℕ)) → IsTraceCut s lines writer writer
untraced s lines writer = record {
  made = [];
  others = (requests_behind lines).items;
  replies = [];
  thread = new_thread s;
  parts = refl;
  run = run-none s (new_thread s) (is-new s);
  wrote = ([], appends-nothing writer, (pool_trace_text s [], refl));
}

pub traces-unmade : (s : Settings) (lines : List (List ℕ)) (why : Refusal) (writer : Option (List ℕ)) → IsUnmadeBy s why → TracesTo s lines (Err (outside why)) writer writer
traces-unmade s lines why writer (inl is) = subst (λ w. TracesTo s lines (Err (outside w)) writer writer) (sym is) (untraced s lines writer)
traces-unmade s lines why writer (inr is) = by_refusal (settings_refusal s) refl is
  where
    by_own : (own : Refusal) → settings_refusal s ≡ Some own → (own ≡ BadSizes) ⊎ (own ≡ PolicyNeedsBuffer) → TracesTo s lines (Err (outside own)) writer writer
    by_own own at (inl same) = subst (λ w. TracesTo s lines (Err (outside w)) writer writer) (sym same) (at ∙ ap (λ w. Some w) same, appends-nothing writer)
    by_own own at (inr same) = subst (λ w. TracesTo s lines (Err (outside w)) writer writer) (sym same) (at ∙ ap (λ w. Some w) same, appends-nothing writer)

    by_refusal : (o : Option Refusal) → settings_refusal s ≡ o → IsWhy o why → TracesTo s lines (Err (outside why)) writer writer
    by_refusal None at none = subst (λ w. TracesTo s lines (Err (outside w)) writer writer) (sym none) (untraced s lines writer)
    by_refusal (Some own) at same = subst (λ w. TracesTo s lines (Err (outside w)) writer writer) (sym same) (by_own own at (refused-so s own at))

-- all calls were made, and only a prefix of their trace was written
pub traces-half : (s : Settings) (old : Option (List ℕ)) (t : Thread) (fault : Option ℕ) (why : Refusal) (before after : Option (List ℕ)) → IfSome old (λ xs. AreMade s (lines_of xs) t fault) → (why ≡ Memory) ⊎ (why ≡ WriteFault) → AppendsPrefix before after (pool_trace_text s t.written) → IfSome old (λ xs. TracesTo s (lines_of xs) (Err (outside why)) before after)
traces-half s None t fault why before after made is wrote = tt
traces-half s (Some xs) t fault why before after made is wrote = by_why is
  where
    cut : IsTraceCut s (lines_of xs) before after
    cut = record {
      made = (requests_behind (lines_of xs)).items;
      others = [];
      replies = made.replies;
      thread = t;
      parts = sym (append-nil (requests_behind (lines_of xs)).items);
      run = made.run;
      wrote = wrote;
    }

    by_why : (why ≡ Memory) ⊎ (why ≡ WriteFault) → TracesTo s (lines_of xs) (Err (outside why)) before after
    by_why (inl same) = subst (λ w. TracesTo s (lines_of xs) (Err (outside w)) before after) (sym same) cut
    by_why (inr same) = subst (λ w. TracesTo s (lines_of xs) (Err (outside w)) before after) (sym same) cut

-- and the whole of it
pub traces-all : (s : Settings) (old : Option (List ℕ)) (t : Thread) (before after : Option (List ℕ)) → IfSome old (λ xs. AreMade s (lines_of xs) t None) → Appends before after (pool_trace_text s t.written) → IfSome old (λ xs. TracesTo s (lines_of xs) (Ok true) before after)
traces-all s None t before after made wrote = tt
traces-all s (Some xs) t before after made wrote = (refl, record { replies = made.replies; thread = t; at = made.at; run = made.run; wrote = wrote })

pub traces-some : (s : Settings) (old : Option (List ℕ)) (t : Thread) (n : ℕ) (before after : Option (List ℕ)) → IfSome old (λ xs. AreMade s (lines_of xs) t (Some n)) → Appends before after (pool_trace_text s t.written) → IfSome old (λ xs. TracesTo s (lines_of xs) (Err (record { why = BadLine; line = Some n })) before after)
traces-some s None t n before after made wrote = tt
traces-some s (Some xs) t n before after made wrote = record { replies = made.replies; thread = t; at = made.at; run = made.run; wrote = wrote }

-- nothing was read, or there was no memory
pub traces-none : (s : Settings) (lines : List (List ℕ)) (why : Refusal) (writer : Option (List ℕ)) → (why ≡ Memory) ⊎ (why ≡ ReadFault) → TracesTo s lines (Err (outside why)) writer writer
traces-none s lines why writer (inl is) = subst (λ w. TracesTo s lines (Err (outside w)) writer writer) (sym is) (untraced s lines writer)
traces-none s lines why writer (inr is) = subst (λ w. TracesTo s lines (Err (outside w)) writer writer) (sym is) (untraced s lines writer)

-- the faults of calls that weren't made
pub unmade-fault : (s : Settings) (why : Refusal) → IsUnmadeBy s why → IsScriptFault (outside why)
unmade-fault s why (inl is) = subst (λ w. IsScriptFault (outside w)) (sym is) tt
unmade-fault s why (inr is) = refused-fault s why is
