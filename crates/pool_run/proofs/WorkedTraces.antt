-- Worked lines of a pool's trace: what they read as, and what is written, by the definitions.
use Rattle.std.proofs.Common.{◌≡◌, ℕ, false, refl, arith, Some, None}
use Rattle.std.specs.Prelude.{codes}
use Rattle.std.proofs.lemmas.Fmt.{decimal_digit}
use Rattle.meet_tickets.specs.declared.records.Record.{Record}
use Rattle.pool_core.specs.declared.deeds.PoolDeed.{PoolDeed}
use Rattle.pool_core.specs.declared.deeds.PoolDeed.TheVariants.{Started, Kept, DroppedOldest, Runs, Finished, Leaves, ShutDownNow}
use Rattle.pool_core.specs.declared.settings.PoolQueue.TheVariants.{Unbounded}
use Rattle.pool_core.specs.declared.settings.Policy.TheVariants.{Discard}
use Rattle.pool_core.specs.declared.settings.Settings.{Settings}
use Rattle.meet_run.specs.Texts.Words.{word_of, rest_of, behind}
use Rattle.meet_run.specs.Texts.Grammar.{seat_of, seat_in}
use Rattle.meet_run.specs.Tracing.TraceGrammar.{ticket_of, ticket_in}
use Rattle.pool_run.specs.FirstLines.{pool_head_of, pool_head_in, makeable, settings_in, sizes_in, number_behind, timeout_in, queue_in, policy_in, policy_of}
use Rattle.pool_run.specs.Records.{bare_deed_of, numbered_deed_of, paired_deed_of, tripled_deed_of, deed_behind_one, deed_with, deed_of, deed_behind, record_behind, record_in, pool_record_of, pool_record_at}
use Rattle.pool_run.specs.Wording.{pool_head_line, pool_record_line}
use Rattle.pool_run.proofs.WorkedScripts.{digit, minute, minute-read, with_sizes}

-- ---- first lines

abbrev single : Settings
single = with_sizes 1 1 1 60000 false Unbounded Discard

reads_head : pool_head_of (codes "trace 1 pool core 1 maximum 1 callers 1 keep 60000 unbounded policy discard") ≡ Some single
unfolding pool_head_of pool_head_in makeable settings_in sizes_in number_behind timeout_in queue_in policy_in policy_of behind word_of rest_of
reads_head = rw (digit 1 (omega arith), digit 1 (omega arith), digit 1 (omega arith), minute-read) refl

-- a timeout needs a keep-alive above 0
reads_no_bad_sizes : pool_head_of (codes "trace 1 pool core 1 maximum 1 callers 1 keep 0 timeout unbounded policy discard") ≡ None
unfolding pool_head_of pool_head_in makeable settings_in sizes_in number_behind timeout_in queue_in policy_in policy_of behind word_of rest_of
reads_no_bad_sizes = rw (digit 1 (omega arith), digit 1 (omega arith), digit 1 (omega arith), digit 0 (omega arith)) refl

tells_head : pool_head_line single ≡ codes "trace 1 pool core 1 maximum 1 callers 1 keep 60000 unbounded policy discard\n"
unfolding pool_head_line
tells_head = rw (decimal_digit 1 (omega arith), minute) refl

-- ---- records

abbrev by : (seat ticket : ℕ) → PoolDeed ℕ → Record (PoolDeed ℕ)
by seat ticket deed = record { seat = seat; ticket = ticket; deed = deed }

reads_started : pool_record_of (codes "0 1 started 0 7") ≡ Some (by 0 1 (Started 0 7))
unfolding pool_record_of record_in record_behind deed_behind deed_of deed_with deed_behind_one paired_deed_of word_of rest_of seat_of seat_in ticket_of ticket_in
reads_started = rw (digit 0 (omega arith), digit 1 (omega arith), digit 7 (omega arith)) refl

reads_runs : pool_record_of (codes "1 2 runs 1 7") ≡ Some (by 1 2 (Runs 1 7))
unfolding pool_record_of record_in record_behind deed_behind deed_of deed_with deed_behind_one paired_deed_of word_of rest_of seat_of seat_in ticket_of ticket_in
reads_runs = rw (digit 1 (omega arith), digit 2 (omega arith), digit 7 (omega arith)) refl

reads_finished : pool_record_of (codes "1 1 finished 9") ≡ Some (by 1 1 (Finished 9))
unfolding pool_record_of record_in record_behind deed_behind deed_of deed_with numbered_deed_of word_of rest_of seat_of seat_in ticket_of ticket_in
reads_finished = rw (digit 1 (omega arith), digit 9 (omega arith)) refl

reads_dropped_oldest : pool_record_of (codes "0 5 dropped-oldest 2 6 8") ≡ Some (by 0 5 (DroppedOldest 2 6 8))
unfolding pool_record_of record_in record_behind deed_behind deed_of deed_with deed_behind_one tripled_deed_of word_of rest_of seat_of seat_in ticket_of ticket_in
reads_dropped_oldest = rw (digit 0 (omega arith), digit 2 (omega arith), digit 5 (omega arith), digit 6 (omega arith), digit 8 (omega arith)) refl

reads_leaves : pool_record_of (codes "1 0 leaves") ≡ Some (by 1 0 Leaves)
unfolding pool_record_of record_in record_behind deed_behind deed_of bare_deed_of word_of rest_of seat_of seat_in ticket_of ticket_in
reads_leaves = rw (digit 0 (omega arith), digit 1 (omega arith)) refl

-- a reply's words are no record's
reads_no_reply : pool_record_of (codes "0 2 kept") ≡ None
unfolding pool_record_of record_in record_behind deed_behind deed_of bare_deed_of word_of rest_of seat_of seat_in ticket_of ticket_in
reads_no_reply = rw (digit 0 (omega arith), digit 2 (omega arith)) refl

reads_no_more : pool_record_of (codes "1 2 runs 1 7 8") ≡ None
unfolding pool_record_of record_in record_behind deed_behind deed_of deed_with deed_behind_one tripled_deed_of word_of rest_of seat_of seat_in ticket_of ticket_in
reads_no_more = rw (digit 1 (omega arith), digit 2 (omega arith), digit 7 (omega arith), digit 8 (omega arith)) refl

-- behind a trace's first line the record of this number is the last, and there is no further one
reads_last : pool_record_at 1048577 (codes "1 0 leaves") ≡ Some (by 1 0 Leaves)
unfolding pool_record_at
reads_last = reads_leaves

reads_none_behind : pool_record_at 1048578 (codes "1 0 leaves") ≡ None
unfolding pool_record_at
reads_none_behind = refl

tells_started : pool_record_line (by 0 1 (Started 0 7)) ≡ codes "0 1 started 0 7\n"
unfolding pool_record_line
tells_started = rw (decimal_digit 0 (omega arith), decimal_digit 1 (omega arith), decimal_digit 7 (omega arith)) refl

tells_kept : pool_record_line (by 0 2 (Kept 7)) ≡ codes "0 2 kept 7\n"
unfolding pool_record_line
tells_kept = rw (decimal_digit 0 (omega arith), decimal_digit 2 (omega arith), decimal_digit 7 (omega arith)) refl

tells_dropped_oldest : pool_record_line (by 0 5 (DroppedOldest 2 6 8)) ≡ codes "0 5 dropped-oldest 2 6 8\n"
unfolding pool_record_line
tells_dropped_oldest = rw (decimal_digit 0 (omega arith), decimal_digit 2 (omega arith), decimal_digit 5 (omega arith), decimal_digit 6 (omega arith), decimal_digit 8 (omega arith)) refl

tells_now : pool_record_line (by 0 0 (ShutDownNow 1)) ≡ codes "0 0 shut-down-now 1\n"
unfolding pool_record_line
tells_now = rw (decimal_digit 0 (omega arith), decimal_digit 1 (omega arith)) refl
