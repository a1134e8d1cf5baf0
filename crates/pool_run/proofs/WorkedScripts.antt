-- Worked lines of scripts: what they read as, and what is written of the replies, by the definitions.
use Rattle.std.proofs.Common.{◌≡◌, ℕ, ◌+◌, ◌<◌, Bool, true, false, refl, subst, arith, lit<, Some, None, List, [], ◌∷◌}
use Rattle.std.specs.Prelude.{codes, decimal}
use Rattle.std.proofs.lemmas.Fmt.{decimal_digit, decimal-digits_value}
use Rattle.std.proofs.lemmas.Str.Parse.{numerals_by_value, tells_digits}
use Rattle.meet_tickets.specs.declared.places.Order.TheVariants.{Fair}
use Rattle.pool_core.specs.declared.answers.Counters.{Counters}
use Rattle.pool_core.specs.declared.deeds.PoolDeed.{PoolDeed}
use Rattle.pool_core.specs.declared.deeds.PoolDeed.TheVariants.{Started, Kept, Aborted, DroppedOldest, Runs, StartFailed, ShutDownNow}
use Rattle.pool_core.specs.declared.settings.PoolQueue.{PoolQueue}
use Rattle.pool_core.specs.declared.settings.PoolQueue.TheVariants.{Hand, Unbounded, Bounded}
use Rattle.pool_core.specs.declared.settings.Policy.{Policy}
use Rattle.pool_core.specs.declared.settings.Policy.TheVariants.{Abort, Discard, DiscardOldest}
use Rattle.pool_core.specs.declared.settings.Settings.{Settings}
use Rattle.pool_history.specs.declared.one_thread.verbs.PoolRequest.{PoolRequest}
use Rattle.pool_history.specs.declared.one_thread.verbs.PoolVerb.{PoolVerb}
use Rattle.pool_history.specs.declared.one_thread.verbs.PoolVerb.TheVariants.{Execute, Ready, Finish}
use Rattle.pool_history.specs.declared.one_thread.replies.PoolReply.{PoolReply}
use Rattle.pool_history.specs.declared.one_thread.replies.PoolOutcome.{PoolOutcome}
use Rattle.pool_history.specs.declared.one_thread.replies.PoolOutcome.TheVariants.{Recorded, Returned, NotYet, Counted, Based}
use Rattle.meet_run.specs.Texts.Words.{word_of, rest_of, behind, number_spelled}
use Rattle.meet_run.specs.Texts.Grammar.{seat_of, seat_in}
use Rattle.meet_run.proofs.Texts.WordLemmas.{number_spelled-decimal, long-zero}
use Rattle.pool_run.specs.FirstLines.{settings_of, settings_in, sizes_in, number_behind, timeout_in, queue_in, bounded_in, policy_in, policy_of}
use Rattle.pool_run.specs.Requests.{request_of, request_in, verb_behind, verb_of, bare_verb_of, numbered_verb_of}
use Rattle.pool_run.specs.Wording.{answer_text, ticket_text, counters_text, outcome_text, pool_reply_line, pool_last_line}

-- a digit spells its value
pub digit : (n : ℕ) → n < 10 → number_spelled ((48 + n) ∷ []) ≡ Some n
digit n small = subst (λ (w : List ℕ). number_spelled w ≡ Some n) (decimal_digit n small) (number_spelled-decimal n (omega arith))

-- a minute in milliseconds
pub minute : decimal 60000 ≡ codes "60000"
minute = decimal-digits_value (numerals_by_value _ tells_digits) (codes "60000") (lit< tt, (lit< tt, (lit< tt, (lit< tt, (lit< tt, tt))))) (lit< tt) (λ z. absurd cc) (lit< tt)

pub minute-read : number_spelled (codes "60000") ≡ Some 60000
minute-read = subst (λ (w : List ℕ). number_spelled w ≡ Some 60000) minute (number_spelled-decimal 60000 (lit< tt))

half_second-read : number_spelled (codes "500") ≡ Some 500
half_second-read =
    let spelled : decimal 500 ≡ codes "500" = decimal-digits_value (numerals_by_value _ tells_digits) (codes "500") (lit< tt, (lit< tt, (lit< tt, tt))) (lit< tt) (λ z. absurd cc) (lit< tt) in
    subst (λ (w : List ℕ). number_spelled w ≡ Some 500) spelled (number_spelled-decimal 500 (lit< tt))

abbrev pub with_sizes : (core maximum callers keep : ℕ) → (timeout : Bool) → PoolQueue → Policy → Settings
with_sizes core maximum callers keep timeout queue policy = record {
  sizes = record { core = core; maximum = maximum; callers = callers; keep_alive = keep; core_timeout = timeout };
  queue = queue;
  policy = policy;
}

-- ---- first lines

reads_hand : settings_of (codes "pool core 1 maximum 2 callers 1 keep 60000 hand fair policy abort") ≡ Some (with_sizes 1 2 1 60000 false (Hand Fair) Abort)
unfolding settings_of settings_in sizes_in number_behind timeout_in queue_in policy_in policy_of behind word_of rest_of
reads_hand = rw (digit 1 (omega arith), digit 2 (omega arith), digit 1 (omega arith), minute-read) refl

reads_timeout : settings_of (codes "pool core 2 maximum 2 callers 1 keep 500 timeout unbounded policy discard") ≡ Some (with_sizes 2 2 1 500 true Unbounded Discard)
unfolding settings_of settings_in sizes_in number_behind timeout_in queue_in policy_in policy_of behind word_of rest_of
reads_timeout = rw (digit 2 (omega arith), digit 2 (omega arith), digit 1 (omega arith), half_second-read) refl

reads_bounded : settings_of (codes "pool core 1 maximum 1 callers 3 keep 0 bounded 1 policy discard-oldest") ≡ Some (with_sizes 1 1 3 0 false (Bounded 1) DiscardOldest)
unfolding settings_of settings_in sizes_in number_behind timeout_in queue_in bounded_in policy_in policy_of behind word_of rest_of
reads_bounded = rw (digit 1 (omega arith), digit 1 (omega arith), digit 3 (omega arith), digit 0 (omega arith), digit 1 (omega arith)) refl

-- a pool that can't be made is read too; why is told where it is made
reads_bad_sizes : settings_of (codes "pool core 2 maximum 1 callers 0 keep 0 timeout unbounded policy abort") ≡ Some (with_sizes 2 1 0 0 true Unbounded Abort)
unfolding settings_of settings_in sizes_in number_behind timeout_in queue_in policy_in policy_of behind word_of rest_of
reads_bad_sizes = rw (digit 2 (omega arith), digit 1 (omega arith), digit 0 (omega arith), digit 0 (omega arith)) refl

reads_no_transfer : settings_of (codes "pool core 1 maximum 1 callers 1 keep 0 hand transfer policy abort") ≡ None
unfolding settings_of settings_in sizes_in number_behind timeout_in queue_in bounded_in behind word_of rest_of
reads_no_transfer = rw (digit 1 (omega arith), digit 1 (omega arith), digit 1 (omega arith), digit 0 (omega arith)) refl

reads_no_other_order : settings_of (codes "pool maximum 1 core 1 callers 1 keep 0 unbounded policy abort") ≡ None
unfolding settings_of settings_in sizes_in number_behind behind
reads_no_other_order = refl

-- ---- calls

abbrev by : (seat : ℕ) → PoolVerb → PoolRequest
by seat verb = record { seat = seat; verb = verb }

reads_execute : request_of (codes "0 execute 7") ≡ Some (by 0 (Execute 7))
unfolding request_of request_in verb_behind verb_of numbered_verb_of word_of rest_of seat_of seat_in
reads_execute = rw (digit 0 (omega arith), digit 7 (omega arith)) refl

reads_ready : request_of (codes "1 ready") ≡ Some (by 1 Ready)
unfolding request_of request_in verb_behind verb_of bare_verb_of word_of rest_of seat_of seat_in
reads_ready = rw (digit 1 (omega arith)) refl

reads_finish : request_of (codes "1 finish 9") ≡ Some (by 1 (Finish 9))
unfolding request_of request_in verb_behind verb_of numbered_verb_of word_of rest_of seat_of seat_in
reads_finish = rw (digit 1 (omega arith), digit 9 (omega arith)) refl

-- a call of a queue is none of a pool, and a 0 in front is no spelling
reads_no_put : request_of (codes "0 put 7") ≡ None
unfolding request_of request_in verb_behind verb_of numbered_verb_of word_of rest_of seat_of seat_in
reads_no_put = rw (digit 0 (omega arith), digit 7 (omega arith)) refl

reads_no_zero : request_of (codes "00 ready") ≡ None
unfolding request_of request_in word_of rest_of seat_of
reads_no_zero = rw (long-zero (codes "00") refl (lit< tt)) refl

-- ---- replies

abbrev writes : (n seat ticket : ℕ) → PoolDeed ℕ → PoolReply
writes n seat ticket deed = record { seat = seat; outcome = Recorded n ticket deed }

abbrev says : (seat : ℕ) → PoolOutcome → PoolReply
says seat outcome = record { seat = seat; outcome = outcome }

abbrev one_kept : Counters
one_kept = record { workers = 1; running = 0; kept = 1; done = 0; largest = 1 }

tells_started : pool_reply_line (writes 1 0 1 (Started 0 1)) ≡ codes "1 0 t1 started 0\n"
unfolding pool_reply_line outcome_text ticket_text answer_text
tells_started = rw (decimal_digit 0 (omega arith), decimal_digit 1 (omega arith)) refl

tells_kept : pool_reply_line (writes 2 0 2 (Kept 2)) ≡ codes "2 0 t2 kept\n"
unfolding pool_reply_line outcome_text ticket_text answer_text
tells_kept = rw (decimal_digit 0 (omega arith), decimal_digit 2 (omega arith)) refl

tells_aborted : pool_reply_line (writes 5 0 5 (Aborted 3)) ≡ codes "5 0 t5 aborted 3\n"
unfolding pool_reply_line outcome_text ticket_text answer_text
tells_aborted = rw (decimal_digit 0 (omega arith), decimal_digit 5 (omega arith), decimal_digit 3 (omega arith)) refl

tells_dropped_oldest : pool_reply_line (writes 3 0 5 (DroppedOldest 2 6 3)) ≡ codes "3 0 t5 dropped-oldest 6 from t2\n"
unfolding pool_reply_line outcome_text ticket_text answer_text
tells_dropped_oldest = rw (decimal_digit 0 (omega arith), decimal_digit 2 (omega arith), decimal_digit 3 (omega arith), decimal_digit 5 (omega arith), decimal_digit 6 (omega arith)) refl

tells_runs : pool_reply_line (writes 2 1 2 (Runs 1 7)) ≡ codes "2 1 t2 runs 7 from t1\n"
unfolding pool_reply_line outcome_text ticket_text answer_text
tells_runs = rw (decimal_digit 1 (omega arith), decimal_digit 2 (omega arith), decimal_digit 7 (omega arith)) refl

-- without a ticket, and with one
tells_start_failed : pool_reply_line (writes 2 1 0 StartFailed) ≡ codes "2 1 start-failed\n"
unfolding pool_reply_line outcome_text ticket_text answer_text
tells_start_failed = rw (decimal_digit 1 (omega arith), decimal_digit 2 (omega arith)) refl

tells_job_not_started : pool_reply_line (writes 2 1 1 StartFailed) ≡ codes "2 1 t1 start-failed\n"
unfolding pool_reply_line outcome_text ticket_text answer_text
tells_job_not_started = rw (decimal_digit 1 (omega arith), decimal_digit 2 (omega arith)) refl

tells_now : pool_reply_line (writes 4 0 0 (ShutDownNow 1)) ≡ codes "4 0 shut-down-now 1\n"
unfolding pool_reply_line outcome_text ticket_text answer_text
tells_now = rw (decimal_digit 0 (omega arith), decimal_digit 1 (omega arith), decimal_digit 4 (omega arith)) refl

tells_back : pool_reply_line (says 0 (Returned 5 3)) ≡ codes "- 0 back 3 from t5\n"
unfolding pool_reply_line outcome_text
tells_back = rw (decimal_digit 0 (omega arith), decimal_digit 3 (omega arith), decimal_digit 5 (omega arith)) refl

tells_not_yet : pool_reply_line (says 1 NotYet) ≡ codes "- 1 notyet\n"
unfolding pool_reply_line outcome_text
tells_not_yet = rw (decimal_digit 1 (omega arith)) refl

tells_counters : pool_reply_line (says 0 (Counted one_kept)) ≡ codes "- 0 workers 1 running 0 kept 1 done 0 largest 1\n"
unfolding pool_reply_line outcome_text counters_text
tells_counters = rw (decimal_digit 0 (omega arith), decimal_digit 1 (omega arith)) refl

tells_base : pool_reply_line (says 0 (Based 3)) ≡ codes "- 0 base 3\n"
unfolding pool_reply_line outcome_text
tells_base = rw (decimal_digit 0 (omega arith), decimal_digit 3 (omega arith)) refl

tells_last : pool_last_line 4 one_kept ≡ codes "legal 4 workers 1 running 0 kept 1 done 0 largest 1\n"
unfolding pool_last_line counters_text
tells_last = rw (decimal_digit 0 (omega arith), decimal_digit 1 (omega arith), decimal_digit 4 (omega arith)) refl
