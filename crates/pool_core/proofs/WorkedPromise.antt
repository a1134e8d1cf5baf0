-- What a pool that keeps its promise doesn't do, worked out in a few records that break it.
use Rattle.std.proofs.Common.{◌≡◌, ℕ, ◌≤◌, refl, ◌∙◌, ap, true, false, Option, Some, None, List, [], ◌∷◌, ◌++◌, arith}
use Rattle.meet_tickets.specs.declared.lines.Entry.{Entry}
use Rattle.meet_tickets.specs.declared.places.Order.TheVariants.{Fair}
use Rattle.meet_tickets.specs.declared.records.Record.{Record}
use Rattle.pool_core.specs.declared.settings.Settings.{Settings}
use Rattle.pool_core.specs.declared.settings.PoolQueue.TheVariants.{Hand}
use Rattle.pool_core.specs.declared.settings.Policy.TheVariants.{Abort}
use Rattle.pool_core.specs.declared.deeds.PoolDeed.{PoolDeed}
use Rattle.pool_core.specs.declared.deeds.PoolDeed.TheVariants.{Handed, Started, Runs, Waits, Finished, ShutDown}
use Rattle.pool_core.specs.Histories.{no_base}
use Rattle.pool_core.specs.Promise.{pair, JobsMeetOnce, TakesMeetOnce, PartnersMeet, WithdrawnMeetNone}

-- two workers, and a queue that meets the one that waited longest
abbrev fair : Settings
fair = record {
  sizes = record { core = 2; maximum = 2; callers = 1; keep_alive = 60000; core_timeout = false };
  queue = Hand Fair;
  policy = Abort;
}

abbrev of : (seat ticket : ℕ) → PoolDeed ℕ → Record (PoolDeed ℕ)
of seat ticket deed = record { seat = seat; ticket = ticket; deed = deed }

-- both start, run a job, and wait
abbrev both_wait : List (Record (PoolDeed ℕ))
both_wait =
    of 0 1 (Started 0 1) ∷ of 0 2 (Started 1 2) ∷ of 1 3 (Runs 1 1) ∷ of 2 4 (Runs 2 2) ∷ of 1 1 (Finished 1) ∷ of 2 2 (Finished 2) ∷ of 1 5 Waits
    ∷ of 2 6 Waits ∷ []

-- no job runs twice
not_twice : JobsMeetOnce fair no_base (both_wait ++ of 1 7 (Runs 2 2) ∷ []) → ⊥
not_twice kept = let few : 2 ≤ 1 = kept.runs 2 in omega arith

-- a job that was done doesn't run again, by whatever take
not_over : JobsMeetOnce fair no_base (both_wait ++ of 1 7 (Runs 2 2) ∷ []) → ⊥
not_over kept = kept.over both_wait (of 1 7 (Runs 2 2) ∷ []) 2 refl (omega arith) 0 (pair 0 0) (omega arith) refl

-- a take that was handed a job runs no other
not_another : TakesMeetOnce fair no_base (both_wait ++ of 0 7 (Handed 0 3) ∷ of 1 5 (Runs 8 4) ∷ []) → ⊥
not_another kept =
    let same : ◌≡◌ {A = ℕ} 8 7 = kept.same 5 7 8 (0, omega arith, refl) (2, omega arith, refl) in
    omega arith

-- and is handed no other, should it wait once more
not_again : TakesMeetOnce fair no_base (both_wait ++ of 0 7 (Handed 0 3) ∷ of 1 5 (Runs 7 3) ∷ of 1 7 (Finished 3) ∷ of 1 5 Waits ∷ of 0 8 (Handed 0 4) ∷ []) → ⊥
not_again kept = let few : 2 ≤ 1 = kept.handed 5 in omega arith

-- a fair queue doesn't meet the second of two
not_second : PartnersMeet fair no_base (both_wait ++ of 0 7 (Handed 1 3) ∷ []) → ⊥
not_second kept =
    let met = kept.takes both_wait [] (of 0 7 (Handed 1 3)) 1 3 refl refl in
    let first : ◌≡◌ {A = Option (Entry ℕ)} (Some (record { ticket = 5; seat = 1; item = None; waits = true })) (Some met.0) = met.1 in
    let entry : ◌≡◌ {A = Entry ℕ} (record { ticket = 5; seat = 1; item = None; waits = true }) met.0 = cc in
    let seat : ◌≡◌ {A = ℕ} 1 2 = ap (λ (e : Entry ℕ). e.seat) entry ∙ met.2 in
    omega arith

-- nor does a worker run a job that its take wasn't handed
not_unmet : PartnersMeet fair no_base (both_wait ++ of 1 5 (Runs 1 1) ∷ []) → ⊥
not_unmet kept = let there = kept.follows both_wait [] (of 1 5 (Runs 1 1)) 1 1 refl refl (omega arith) in let lt = there.1 in omega arith

-- a take that was cut runs nothing
not_cut : WithdrawnMeetNone fair no_base (both_wait ++ of 0 0 ShutDown ∷ of 1 5 (Runs 1 1) ∷ []) → ⊥
not_cut kept = kept both_wait (of 1 5 (Runs 1 1) ∷ []) (of 0 0 ShutDown) 5 refl (1, refl) 0 (pair 0 0) (omega arith) refl
