-- A pool's script, line by line: what was made and written, and how it ends.
use Rattle.std.proofs.Common.{◌≡◌, ◌⊎◌, inl, inr, ℕ, ◌+◌, List, [], ◌∷◌, ◌++◌, Option, Some, None, Result, Ok, Err, Bool, true, cond, replicate, refl, sym, ap, ◌∙◌, subst, append-nil}
use Rattle.std.specs.Prelude.{IfSome, false}
use Rattle.std.specs.Io.KnownBytes.{Appends}
use Rattle.meet_tickets.specs.declared.refusals.Refusal.{Refusal}
use Rattle.meet_tickets.specs.declared.refusals.Refusal.TheVariants.{Memory, BadLine, BadSizes, PolicyNeedsBuffer, ReadFault, WriteFault}
use Rattle.meet_tickets.specs.Refusals.{IsWhy}
use Rattle.meet_run.specs.declared.text.faults.RunFault.{RunFault}
use Rattle.meet_run.specs.Texts.Reading.{lines_of}
use Rattle.meet_run.specs.Texts.Writing.{AppendsPrefix, IsPrefix}
use Rattle.meet_run.proofs.Scripts.Ran.{appends-nothing}
use Rattle.meet_run.proofs.Texts.WritingLemmas.{appends-more, prefix-of, prefix-more}
use Rattle.pool_core.specs.declared.settings.Settings.{Settings}
use Rattle.pool_core.specs.declared.stages.Stage.TheVariants.{Absent}
use Rattle.pool_core.specs.Calls.{settings_refusal}
use Rattle.pool_core.specs.Histories.{nobody}
use Rattle.pool_history.specs.declared.one_thread.replies.PoolReply.{PoolReply}
use Rattle.pool_history.specs.declared.one_thread.verbs.PoolRequest.{PoolRequest}
use Rattle.pool_history.specs.OneThread.{Thread, IsNew, IsTurn}
use Rattle.pool_run.specs.Requests.{request_of}
use Rattle.pool_run.specs.Scripts.{requests_from, requests_behind, replies_text, closing, HasRun, IsCut, RunsTo, IsScriptFault}
use Rattle.pool_run.proofs.Came.{HasCome, at-end, at-fault, at-first, has_come-first, has_come-more}
use Rattle.pool_run.proofs.Turning.{ReadsCall, reads, run-none, run-more, text-none, text-more}

-- a fault of no line
abbrev pub outside : Refusal → RunFault
outside why = record { why = why; line = None }

-- what is known of a run that ends by a fault, by what the fault is
pub by-fault : (P : (lines : List (List ℕ)) → Result Bool RunFault → Type 0) (o : Option (List ℕ)) (f g : RunFault) → f ≡ g → IfSome o (λ xs. P (lines_of xs) (Err g)) → IfSome o (λ xs. P (lines_of xs) (Err f))
by-fault P o f g is ends = subst (λ h. IfSome o (λ xs. P (lines_of xs) (Err h))) (sym is) ends

-- a new pool
abbrev pub new_thread : Settings → Thread
new_thread s = record {
  pool = record { settings = s; pool = nobody (replicate s.sizes.maximum Absent); next = 1; room = 0 };
  written = [];
  gone = 0;
}

pub is-new : (s : Settings) → IsNew s (new_thread s)
is-new s = record { settings = refl; pool = refl; next = refl; written = refl; gone = refl }

-- some calls were made, and what they are told was written
pub record Under (s : Settings) (reader_old reader_new writer_old writer_new : Option (List ℕ)) (read : ℕ) (t : Thread) : Type 0 where
  pub requests : List PoolRequest
  pub replies : List PoolReply
  pub run : HasRun s requests replies t
  pub wrote : Appends writer_old writer_new (replies_text replies)
  pub came : HasCome reads requests read reader_old reader_new

pub under-none : (s : Settings) (reader writer : Option (List ℕ)) (t : Thread) → IsNew s t → Under s reader reader writer writer 1 t
under-none s reader writer t new = record {
  requests = [];
  replies = [];
  run = run-none s t new;
  wrote = subst (λ x. Appends writer writer x) (sym text-none) (appends-nothing writer);
  came = has_come-first reads reader;
}

-- nothing was written behind what was
kept-so : (before now after : Option (List ℕ)) (text : List ℕ) → Appends before now text → Appends now after [] → AppendsPrefix before after text
kept-so before now after text wrote none =
    prefix-of before after text text (subst (λ x. Appends before after x) (append-nil text) (appends-more before now after text [] wrote none)) ([], sym (append-nil text))

-- a whole is a prefix of itself
whole-prefix : (text : List ℕ) → IsPrefix text text
whole-prefix text = ([], sym (append-nil text))

module _ (s : Settings) (old mid before now : Option (List ℕ)) (read : ℕ) (t : Thread) (under : Under s old mid before now read t) where
  -- one call more was made, and what it is told was written
  pub under-more : (new after : Option (List ℕ)) (request : PoolRequest) (said : List PoolReply) (later : Thread) → ReadsCall mid new request → IsTurn t request said later → Appends now after (replies_text said) → Under s old new before after (read + 1) later
  under-more new after request said later next turn wrote = record {
    requests = under.requests ++ request ∷ [];
    replies = under.replies ++ said;
    run = run-more s t later under.requests under.replies request said under.run turn;
    wrote = subst (λ x. Appends before after x) (text-more under.replies said) (appends-more before now after (replies_text under.replies) (replies_text said) under.wrote wrote);
    came = has_come-more reads under.requests read old mid new request under.came next;
  }

  -- no line is left, and the last line was written
  pub runs-ended : (after : Option (List ℕ)) → IfSome mid (λ xs. lines_of xs ≡ []) → Appends now after (closing t) → IfSome old (λ xs. RunsTo s (lines_of xs) (Ok true) before after)
  runs-ended after none wrote = at-end reads (λ lines. RunsTo s lines (Ok true) before after) under.requests read old mid under.came none
      (λ lines these. (
        refl,
        record {
          replies = under.replies;
          thread = t;
          whole = these.fault_is;
          run = subst (λ rs. HasRun s rs under.replies t) (sym these.items_are) under.run;
          wrote = appends-more before now after (replies_text under.replies) (closing t) under.wrote wrote;
        },
      ))

  -- or only a prefix of it
  pub runs-cut_last : (after : Option (List ℕ)) → IfSome mid (λ xs. lines_of xs ≡ []) → AppendsPrefix now after (closing t) → IfSome old (λ xs. RunsTo s (lines_of xs) (Err (outside WriteFault)) before after)
  runs-cut_last after none wrote = at-end reads (λ lines. RunsTo s lines (Err (outside WriteFault)) before after) under.requests read old mid under.came none
      (λ lines these. inr (record {
        replies = under.replies;
        thread = t;
        whole = these.fault_is;
        run = subst (λ rs. HasRun s rs under.replies t) (sym these.items_are) under.run;
        wrote = prefix-more before now after (replies_text under.replies) (closing t) (replies_text under.replies ++ closing t) under.wrote wrote (whole-prefix (replies_text under.replies ++ closing t));
      }))

  -- the next line is no call
  pub runs-faulty : IfSome mid (λ xs. (line : List ℕ) × (lines : List (List ℕ)) × (lines_of xs ≡ line ∷ lines) × (request_of line ≡ None)) → IfSome old (λ xs. RunsTo s (lines_of xs) (Err (record { why = BadLine; line = Some (read + 1) })) before now)
  runs-faulty faulty = at-fault reads (λ lines. RunsTo s lines (Err (record { why = BadLine; line = Some (read + 1) })) before now) under.requests read old mid under.came faulty
      (λ lines these. record {
        replies = under.replies;
        thread = t;
        fault = these.fault_is;
        run = subst (λ rs. HasRun s rs under.replies t) (sym these.items_are) under.run;
        wrote = under.wrote;
      })

  -- nothing more was made
  cut-here : (after : Option (List ℕ)) → Appends now after [] → IfSome old (λ xs. IsCut s (lines_of xs) before after)
  cut-here after none = at-first reads (λ lines. IsCut s lines before after) under.requests read old mid under.came
      (λ xs ys is came. record {
        made = under.requests;
        others = (requests_from (read + 1) (lines_of ys)).items;
        replies = under.replies;
        thread = t;
        parts = came.items_are;
        run = under.run;
        wrote = kept-so before now after (replies_text under.replies) under.wrote none;
      })

  pub runs-cut : (after : Option (List ℕ)) (why : Refusal) → (why ≡ Memory) ⊎ (why ≡ ReadFault) → Appends now after [] → IfSome old (λ xs. RunsTo s (lines_of xs) (Err (outside why)) before after)
  runs-cut after why (inl is) none = subst (λ w. IfSome old (λ xs. RunsTo s (lines_of xs) (Err (outside w)) before after)) (sym is) (cut-here after none)
  runs-cut after why (inr is) none = subst (λ w. IfSome old (λ xs. RunsTo s (lines_of xs) (Err (outside w)) before after)) (sym is) (cut-here after none)

  -- one call more was made, and a prefix of what it is told was written
  pub runs-half : (new after : Option (List ℕ)) (request : PoolRequest) (said : List PoolReply) (later : Thread) → ReadsCall mid new request → IsTurn t request said later → AppendsPrefix now after (replies_text said) → IfSome old (λ xs. RunsTo s (lines_of xs) (Err (outside WriteFault)) before after)
  runs-half new after request said later next turn wrote = at-first reads (λ lines. RunsTo s lines (Err (outside WriteFault)) before after) (under.requests ++ request ∷ []) (read + 1) old new (has_come-more reads under.requests read old mid new request under.came next)
      (λ xs ys is came. inl (record {
        made = under.requests ++ request ∷ [];
        others = (requests_from (read + 1 + 1) (lines_of ys)).items;
        replies = under.replies ++ said;
        thread = later;
        parts = came.items_are;
        run = run-more s t later under.requests under.replies request said under.run turn;
        wrote = prefix-more before now after (replies_text under.replies) (replies_text said) (replies_text (under.replies ++ said)) under.wrote wrote ([], sym (text-more under.replies said) ∙ sym (append-nil (replies_text under.replies ++ replies_text said)));
      }))

-- nothing was made, for want of memory or of a read
none-made : (s : Settings) (lines : List (List ℕ)) (writer : Option (List ℕ)) → IsCut s lines writer writer
none-made s lines writer = record {
  made = [];
  others = (requests_behind lines).items;
  replies = [];
  thread = new_thread s;
  parts = refl;
  run = run-none s (new_thread s) (is-new s);
  wrote = ([], appends-nothing writer, (replies_text [], refl));
}

-- a pool is refused for one of two reasons
two-refusals : (a b : Bool) (own : Refusal) → cond a (Some BadSizes) (cond b (Some PolicyNeedsBuffer) None) ≡ Some own → (own ≡ BadSizes) ⊎ (own ≡ PolicyNeedsBuffer)
two-refusals true b own is = inl (cc)
two-refusals false true own is = inr (cc)
two-refusals false false own is = cc

pub refused-so : (s : Settings) (own : Refusal) → settings_refusal s ≡ Some own → (own ≡ BadSizes) ⊎ (own ≡ PolicyNeedsBuffer)
refused-so s own is = two-refusals _ _ own is

-- a pool that can't be made
pub runs-unmade : (s : Settings) (lines : List (List ℕ)) (why : Refusal) (writer : Option (List ℕ)) → IsWhy (settings_refusal s) why → RunsTo s lines (Err (outside why)) writer writer
runs-unmade s lines why writer is = by_refusal (settings_refusal s) refl is
  where
    by_own : (own : Refusal) → settings_refusal s ≡ Some own → (own ≡ BadSizes) ⊎ (own ≡ PolicyNeedsBuffer) → RunsTo s lines (Err (outside own)) writer writer
    by_own own at (inl same) = subst (λ w. RunsTo s lines (Err (outside w)) writer writer) (sym same) (at ∙ ap (λ w. Some w) same, appends-nothing writer)
    by_own own at (inr same) = subst (λ w. RunsTo s lines (Err (outside w)) writer writer) (sym same) (at ∙ ap (λ w. Some w) same, appends-nothing writer)

    by_refusal : (o : Option Refusal) → settings_refusal s ≡ o → IsWhy o why → RunsTo s lines (Err (outside why)) writer writer
    by_refusal None at none = subst (λ w. RunsTo s lines (Err (outside w)) writer writer) (sym none) (none-made s lines writer)
    by_refusal (Some own) at same = subst (λ w. RunsTo s lines (Err (outside w)) writer writer) (sym same) (by_own own at (refused-so s own at))

pub runs-unread : (s : Settings) (lines : List (List ℕ)) (writer : Option (List ℕ)) → RunsTo s lines (Err (outside ReadFault)) writer writer
runs-unread s lines writer = none-made s lines writer

-- nothing was read, or there was no memory
pub runs-none : (s : Settings) (lines : List (List ℕ)) (why : Refusal) (writer : Option (List ℕ)) → (why ≡ Memory) ⊎ (why ≡ ReadFault) → RunsTo s lines (Err (outside why)) writer writer
runs-none s lines why writer (inl is) = subst (λ w. RunsTo s lines (Err (outside w)) writer writer) (sym is) (none-made s lines writer)
runs-none s lines why writer (inr is) = subst (λ w. RunsTo s lines (Err (outside w)) writer writer) (sym is) (none-made s lines writer)

-- the faults of a pool that can't be made
pub refused-fault : (s : Settings) (why : Refusal) → IsWhy (settings_refusal s) why → IsScriptFault (outside why)
refused-fault s why is = by_refusal (settings_refusal s) refl is
  where
    by_own : (own : Refusal) → (own ≡ BadSizes) ⊎ (own ≡ PolicyNeedsBuffer) → IsScriptFault (outside own)
    by_own own (inl same) = subst (λ w. IsScriptFault (outside w)) (sym same) tt
    by_own own (inr same) = subst (λ w. IsScriptFault (outside w)) (sym same) tt

    by_refusal : (o : Option Refusal) → settings_refusal s ≡ o → IsWhy o why → IsScriptFault (outside why)
    by_refusal None at none = subst (λ w. IsScriptFault (outside w)) (sym none) tt
    by_refusal (Some own) at same = subst (λ w. IsScriptFault (outside w)) (sym same) (by_own own (refused-so s own at))
