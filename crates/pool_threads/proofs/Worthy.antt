-- A worker's list grows.
use Rattle.std.proofs.Common.{◌≡◌, ◌+◌, ℕ, Option, Some, None, List, [], ◌∷◌, ◌++◌, length, ⊎_elim}
use Rattle.std.proofs.Common.{sym, ap, subst, ◌∙◌, arith, Ok, Err, ◌≤◌}
use Rattle.std.proofs.lemmas.List.{append-nil, length-append}
use Rattle.std.specs.Prelude.{Result, IfOk, IfErr, option_to_list, option_map}
use Rattle.meet_tickets.specs.declared.records.Record.{Record}
use Rattle.meet_book.specs.Received.{Received}
use Rattle.meet_place.specs.Seats.{Adds}
use Rattle.pool_core.specs.Placed.{pool_record}
use Rattle.pool_core.specs.declared.calls.PoolCall.{PoolCall}
use Rattle.pool_core.specs.declared.calls.PoolCall.TheVariants as call
use Rattle.pool_core.specs.declared.calls.PoolAnswer.{PoolAnswer}
use Rattle.pool_core.specs.declared.calls.PoolAnswer.TheVariants as answer
use Rattle.pool_core.specs.declared.answers.Executed.TheVariants as executed
use Rattle.pool_core.specs.declared.answers.Ready.TheVariants as ready
use Rattle.pool_core.specs.declared.answers.Followed.TheVariants as followed
use Rattle.pool_core.specs.declared.answers.IdleEnd.TheVariants as idle
use Rattle.pool_core.specs.declared.deeds.PoolDeed.{PoolDeed}
use Rattle.pool_core.specs.declared.deeds.PoolDeed.TheVariants.{Runs, Finished}
use Rattle.pool_threads.specs.Worthy.{RunsAt, IsWorthy, EndsRunning, EndsRunningWorth}
use Rattle.pool_threads.proofs.Lists.{last_is, stays_there, last_there}

-- a place at which a job begins stays one
runs_still : (list : List (Received (PoolDeed ℕ))) (r : Received (PoolDeed ℕ)) (place tag : ℕ) → RunsAt list place tag
    → RunsAt (list ++ r ∷ []) place tag
runs_still list r place tag h = (h.0, h.1, stays_there list (r ∷ []) h.0 place h.2, h.3)

-- one more receipt, which is no Finished but of a job that runs, and is what it is worth
pub worthy_push : (worth : ℕ → ℕ) (list : List (Received (PoolDeed ℕ))) (r : Received (PoolDeed ℕ)) → IsWorthy worth list
    → ((n : ℕ) → r.entry.deed ≡ Finished n → EndsRunningWorth worth list n) → IsWorthy worth (list ++ r ∷ [])
worthy_push worth list r h f place receipt n at is =
    ⊎_elim
    (λ was. let old = h place receipt n was is in
    (old.0, old.1, old.2, runs_still list r old.0 old.1 old.3, old.4))
    (λ (new : (place ≡ length list) × (r ≡ receipt)).
    let e = f n (ap (λ x. x.entry.deed) new.1 ∙ is) in
    (e.1.0, e.0, new.0 ∙ e.1.1, runs_still list r e.1.0 e.0 e.1.2, e.2))
    (last_is list r receipt place at)

-- the first elements of equal lists are equal
first : {A : Type 0} {x y : A} {xs ys : List A} → x ∷ xs ≡ y ∷ ys → x ≡ y
first e = cc

-- a Finished is recorded of a call that says so
finished_from : (i : ℕ) (c : PoolCall ℕ) (a : PoolAnswer ℕ) (n : ℕ) → option_map (λ (r : Record (PoolDeed ℕ)). r.deed) (pool_record (λ x. x) i c a) ≡ Some (Finished n) → c ≡ call.Finish n
finished_from i (call.Execute job) (answer.Executed t (executed.Handed w)) n e = absurd (cc)
finished_from i (call.Execute job) (answer.Executed t (executed.Started w)) n e = absurd (cc)
finished_from i (call.Execute job) (answer.Executed t executed.Kept) n e = absurd (cc)
finished_from i (call.Execute job) (answer.Executed t (executed.KeptStart w)) n e = absurd (cc)
finished_from i (call.Execute job) (answer.Executed t (executed.Aborted b)) n e = absurd (cc)
finished_from i (call.Execute job) (answer.Executed t (executed.CallerRuns b)) n e = absurd (cc)
finished_from i (call.Execute job) (answer.Executed t (executed.Dropped b)) n e = absurd (cc)
finished_from i (call.Execute job) (answer.Executed t (executed.DroppedOldest u b)) n e = absurd (cc)
finished_from i (call.Execute job) answer.WasShut n e = absurd (cc)
finished_from i (call.Execute job) (answer.Returned jobs) n e = absurd (cc)
finished_from i (call.Execute job) (answer.BeReady t a) n e = absurd (cc)
finished_from i (call.Execute job) (answer.Followed t a) n e = absurd (cc)
finished_from i (call.Execute job) (answer.Finished t) n e = absurd (cc)
finished_from i (call.Execute job) (answer.Idled t a) n e = absurd (cc)
finished_from i (call.Execute job) answer.Left n e = absurd (cc)
finished_from i (call.Execute job) (answer.NotStarted t back) n e = absurd (cc)
finished_from i call.ShutDown (answer.Executed t a) n e = absurd (cc)
finished_from i call.ShutDown answer.WasShut n e = absurd (cc)
finished_from i call.ShutDown (answer.Returned jobs) n e = absurd (cc)
finished_from i call.ShutDown (answer.BeReady t a) n e = absurd (cc)
finished_from i call.ShutDown (answer.Followed t a) n e = absurd (cc)
finished_from i call.ShutDown (answer.Finished t) n e = absurd (cc)
finished_from i call.ShutDown (answer.Idled t a) n e = absurd (cc)
finished_from i call.ShutDown answer.Left n e = absurd (cc)
finished_from i call.ShutDown (answer.NotStarted t back) n e = absurd (cc)
finished_from i call.ShutDownNow (answer.Executed t a) n e = absurd (cc)
finished_from i call.ShutDownNow answer.WasShut n e = absurd (cc)
finished_from i call.ShutDownNow (answer.Returned jobs) n e = absurd (cc)
finished_from i call.ShutDownNow (answer.BeReady t a) n e = absurd (cc)
finished_from i call.ShutDownNow (answer.Followed t a) n e = absurd (cc)
finished_from i call.ShutDownNow (answer.Finished t) n e = absurd (cc)
finished_from i call.ShutDownNow (answer.Idled t a) n e = absurd (cc)
finished_from i call.ShutDownNow answer.Left n e = absurd (cc)
finished_from i call.ShutDownNow (answer.NotStarted t back) n e = absurd (cc)
finished_from i call.Ready (answer.Executed t a) n e = absurd (cc)
finished_from i call.Ready answer.WasShut n e = absurd (cc)
finished_from i call.Ready (answer.Returned jobs) n e = absurd (cc)
finished_from i call.Ready (answer.BeReady t (ready.Run u b)) n e = absurd (cc)
finished_from i call.Ready (answer.BeReady t ready.Waits) n e = absurd (cc)
finished_from i call.Ready (answer.BeReady t ready.Exit) n e = absurd (cc)
finished_from i call.Ready (answer.Followed t a) n e = absurd (cc)
finished_from i call.Ready (answer.Finished t) n e = absurd (cc)
finished_from i call.Ready (answer.Idled t a) n e = absurd (cc)
finished_from i call.Ready answer.Left n e = absurd (cc)
finished_from i call.Ready (answer.NotStarted t back) n e = absurd (cc)
finished_from i call.Follow (answer.Executed t a) n e = absurd (cc)
finished_from i call.Follow answer.WasShut n e = absurd (cc)
finished_from i call.Follow (answer.Returned jobs) n e = absurd (cc)
finished_from i call.Follow (answer.BeReady t a) n e = absurd (cc)
finished_from i call.Follow (answer.Followed t (followed.Run u b)) n e = absurd (cc)
finished_from i call.Follow (answer.Followed t followed.Exit) n e = absurd (cc)
finished_from i call.Follow (answer.Followed t followed.NotYet) n e = absurd (cc)
finished_from i call.Follow (answer.Finished t) n e = absurd (cc)
finished_from i call.Follow (answer.Idled t a) n e = absurd (cc)
finished_from i call.Follow answer.Left n e = absurd (cc)
finished_from i call.Follow (answer.NotStarted t back) n e = absurd (cc)
finished_from i (call.Finish m) (answer.Executed t a) n e = absurd (cc)
finished_from i (call.Finish m) answer.WasShut n e = absurd (cc)
finished_from i (call.Finish m) (answer.Returned jobs) n e = absurd (cc)
finished_from i (call.Finish m) (answer.BeReady t a) n e = absurd (cc)
finished_from i (call.Finish m) (answer.Followed t a) n e = absurd (cc)
finished_from i (call.Finish m) (answer.Finished t) n e = cc
finished_from i (call.Finish m) (answer.Idled t a) n e = absurd (cc)
finished_from i (call.Finish m) answer.Left n e = absurd (cc)
finished_from i (call.Finish m) (answer.NotStarted t back) n e = absurd (cc)
finished_from i call.IdleEnd (answer.Executed t a) n e = absurd (cc)
finished_from i call.IdleEnd answer.WasShut n e = absurd (cc)
finished_from i call.IdleEnd (answer.Returned jobs) n e = absurd (cc)
finished_from i call.IdleEnd (answer.BeReady t a) n e = absurd (cc)
finished_from i call.IdleEnd (answer.Followed t a) n e = absurd (cc)
finished_from i call.IdleEnd (answer.Finished t) n e = absurd (cc)
finished_from i call.IdleEnd (answer.Idled t idle.Exit) n e = absurd (cc)
finished_from i call.IdleEnd (answer.Idled t idle.Stay) n e = absurd (cc)
finished_from i call.IdleEnd (answer.Idled t idle.Late) n e = absurd (cc)
finished_from i call.IdleEnd answer.Left n e = absurd (cc)
finished_from i call.IdleEnd (answer.NotStarted t back) n e = absurd (cc)
finished_from i call.Leave (answer.Executed t a) n e = absurd (cc)
finished_from i call.Leave answer.WasShut n e = absurd (cc)
finished_from i call.Leave (answer.Returned jobs) n e = absurd (cc)
finished_from i call.Leave (answer.BeReady t a) n e = absurd (cc)
finished_from i call.Leave (answer.Followed t a) n e = absurd (cc)
finished_from i call.Leave (answer.Finished t) n e = absurd (cc)
finished_from i call.Leave (answer.Idled t a) n e = absurd (cc)
finished_from i call.Leave answer.Left n e = absurd (cc)
finished_from i call.Leave (answer.NotStarted t back) n e = absurd (cc)
finished_from i call.StartFailed (answer.Executed t a) n e = absurd (cc)
finished_from i call.StartFailed answer.WasShut n e = absurd (cc)
finished_from i call.StartFailed (answer.Returned jobs) n e = absurd (cc)
finished_from i call.StartFailed (answer.BeReady t a) n e = absurd (cc)
finished_from i call.StartFailed (answer.Followed t a) n e = absurd (cc)
finished_from i call.StartFailed (answer.Finished t) n e = absurd (cc)
finished_from i call.StartFailed (answer.Idled t a) n e = absurd (cc)
finished_from i call.StartFailed answer.Left n e = absurd (cc)
finished_from i call.StartFailed (answer.NotStarted t back) n e = absurd (cc)

-- the list after what was recorded
added : (worth : ℕ → ℕ) (old new : List (Received (PoolDeed ℕ))) (made : Option (Record (PoolDeed ℕ)))
    → IsWorthy worth old
    → ((n : ℕ) → option_map (λ (r : Record (PoolDeed ℕ)). r.deed) made ≡ Some (Finished n) → EndsRunningWorth worth old n)
    → Adds old new (option_to_list made) → IsWorthy worth new
added worth old new None h f ([], is, same) = subst (IsWorthy worth) (sym (is ∙ append-nil old)) h
added worth old new None h f (r ∷ more, is, same) = absurd (cc)
added worth old new (Some d) h f ([], is, same) = absurd (cc)
added worth old new (Some d) h f (r ∷ [], is, same) =
    subst (IsWorthy worth) (sym is) (worthy_push worth old r h (λ n e. f n (ap Some (sym (ap (λ x. x.deed) (first same)) ∙ e))))
added worth old new (Some d) h f (r ∷ q ∷ more, is, same) = absurd (cc)

-- the list after a step
pub worthy_adds : (worth : ℕ → ℕ) (old new : List (Received (PoolDeed ℕ))) (seat : ℕ) (c : PoolCall ℕ) (a : PoolAnswer ℕ)
    → IsWorthy worth old → ((n : ℕ) → c ≡ call.Finish n → EndsRunningWorth worth old n)
    → Adds old new (option_to_list (pool_record (λ x. x) seat c a)) → IsWorthy worth new
worthy_adds worth old new seat c a h f adds =
    added worth old new (pool_record (λ x. x) seat c a) h (λ n is. f n (finished_from seat c a n is)) adds

-- the list after a step that may be refused
pub worthy_result : {B : Type 0} (worth : ℕ → ℕ) (old new : List (Received (PoolDeed ℕ))) (seat : ℕ) (c : PoolCall ℕ)
    (r : Result (PoolAnswer ℕ) B) → IsWorthy worth old → ((n : ℕ) → c ≡ call.Finish n → EndsRunningWorth worth old n)
    → IfOk r (λ a. Adds old new (option_to_list (pool_record (λ x. x) seat c a))) → IfErr r (λ _. new ≡ old)
    → IsWorthy worth new
worthy_result worth old new seat c (Ok a) h f adds same = worthy_adds worth old new seat c a h f adds
worthy_result worth old new seat c (Err b) h f adds same = subst (IsWorthy worth) (sym same) h

-- a step adds one receipt at most
pub one_more : (old new : List (Received (PoolDeed ℕ))) (made : Option (Record (PoolDeed ℕ)))
    → Adds old new (option_to_list made) → length new ≤ length old + 1
one_more old new None ([], is, same) = let e = ap length (is ∙ append-nil old) in omega (arith, e)
one_more old new None (r ∷ more, is, same) = absurd (cc)
one_more old new (Some d) ([], is, same) = absurd (cc)
one_more old new (Some d) (r ∷ [], is, same) = let e = ap length is in omega (arith, e, length-append old (r ∷ []))
one_more old new (Some d) (r ∷ q ∷ more, is, same) = absurd (cc)

-- where no record is written the list is as long as it was
pub none_more : (old new : List (Received (PoolDeed ℕ))) → Adds old new [] → length new ≡ length old
none_more old new ([], is, same) = ap length (is ∙ append-nil old)
none_more old new (r ∷ more, is, same) = absurd (cc)

-- after a Runs the list ends with a job that runs
pub ends_running : (old new : List (Received (PoolDeed ℕ))) (i t u tag : ℕ)
    → Adds old new (record { seat = i; ticket = t; deed = Runs u tag } ∷ []) → EndsRunning new tag
ends_running old new i t u tag ([], is, same) = absurd (cc)
ends_running old new i t u tag (r ∷ [], is, same) =
    subst (λ l. EndsRunning l tag) (sym is)
    (length old, length-append old (r ∷ []), (r, u, last_there old r, ap (λ x. x.deed) (first same)))
ends_running old new i t u tag (r ∷ q ∷ more, is, same) = absurd (cc)
