-- Whom a job meets is by the rule: the take in the line, the job that a take met, the kept one that came first.
use Rattle.std.proofs.Common.{◌≡◌, ℕ, ◌+◌, ◌-◌, ◌<◌, ◌≤◌, ◌==◌, ◌&&◌, refl, sym, ap, ◌∙◌, subst, true, Some, List, [], ◌∷◌, get_or, filter_map, Contains, arith}
use Rattle.std.specs.Prelude.{count_by, option_map, option_to_list}
use Rattle.std.proofs.lemmas.Bool.{eq-eqb}
use Rattle.meet_tickets.specs.declared.lines.Entry.{Entry}
use Rattle.meet_tickets.specs.declared.records.Record.{Record}
use Rattle.meet_tickets.specs.declared.places.Side.TheVariants.{Giver}
use Rattle.meet_tickets.specs.Meeting.{partner}
use Rattle.meet_tickets.proofs.Lists.Changed.{one}
use Rattle.pool_core.specs.declared.settings.Settings.{Settings}
use Rattle.pool_core.specs.declared.stages.Task.{Task}
use Rattle.pool_core.specs.declared.stages.Stage.{Stage}
use Rattle.pool_core.specs.declared.stages.Stage.TheVariants.{Absent, Starting, Waiting, Cut, HandedOver, Running}
use Rattle.pool_core.specs.declared.deeds.PoolDeed.{PoolDeed}
use Rattle.pool_core.specs.declared.deeds.PoolDeed.TheVariants.{Handed, Runs}
use Rattle.pool_core.specs.Pools.{Pool, queue_end, stage_of}
use Rattle.pool_core.specs.Steps.{Allows, draws, stage_draws, job_for, IsOwn}
use Rattle.pool_core.specs.Histories.{Moment, Based, IsLegalFrom, IsLegalOn, moment_of_base, moment_from, next_moment}
use Rattle.pool_core.specs.Bases.{IsOrderly, IsWellFormed}
use Rattle.pool_core.specs.Worked.{WaitsOn}
use Rattle.pool_core.specs.Promise.{pair, waiting_take, met_by, handed_by, handed_from, handed_at, handed_on, moment_on, PartnersMeet}
use Rattle.pool_core.proofs.After.{IsWorker, worker-from}
use Rattle.pool_core.proofs.Counting.{count-append}
use Rattle.pool_core.proofs.Handing.{has_both, both-listed, Hands, hands}
use Rattle.pool_core.proofs.Pairs.{both_in, found-pair}
use Rattle.pool_core.proofs.Orderly.{orderly-next, orderly-from}
use Rattle.pool_core.proofs.Ran.{waited-from, legal-parts}
use Rattle.pool_core.proofs.Seats.{stage-at}
use Rattle.pool_core.proofs.Stays.{Takes, takes-from}
use Rattle.pool_core.proofs.Takes.{count-set}

module _ (t u : ℕ) where
  -- who was handed the job with the take was so on the base or since
  handed-since : (s : Settings) (m : Moment) (records : List (Record (PoolDeed ℕ))) → IsOrderly s m → IsLegalFrom s m records → count_by (has_both t u) (moment_from s m records).pool.workers ≤ count_by (has_both t u) m.pool.workers + both_in t u (handed_from s m records)
  handed-since s m [] orderly legal = omega arith
  handed-since s m (r ∷ records) orderly legal =
      let rest = handed-since s (next_moment s m r) records (orderly-next s m r orderly legal.0) legal.1 in
      let here : Hands t u s m.pool (m.last + 1) r.seat r.ticket orderly.sound r.deed = hands t u s m.pool (m.last + 1) r.seat r.ticket orderly.sound r.deed legal.0.allowed in
      omega (arith, rest, here.handed, count-append (λ x. (x.take == t) && (x.job == u)) (option_to_list (handed_by m.pool r)) (handed_from s (next_moment s m r) records))

  pub handed-whole : (s : Settings) (b : Based) (records : List (Record (PoolDeed ℕ))) → both_in t u (handed_on s b records) ≡ count_by (has_both t u) (moment_of_base s b).pool.workers + both_in t u (handed_from s (moment_of_base s b) records)
  handed-whole s b records =
      omega (arith, both-listed t u (moment_of_base s b).pool.workers, count-append (λ x. (x.take == t) && (x.job == u)) (filter_map handed_at (moment_of_base s b).pool.workers) (handed_from s (moment_of_base s b) records))

  handed-found : (s : Settings) (b : Based) (records : List (Record (PoolDeed ℕ))) → IsWellFormed s b → IsLegalOn s b records → 1 ≤ count_by (has_both t u) (moment_on s b records).pool.workers → Contains (handed_on s b records) (pair t u)
  handed-found s b records formed legal some = found-pair t u (handed_on s b records) (omega (arith, some, handed-whole s b records, handed-since s (moment_of_base s b) records formed legal))

-- with a take that isn't new a worker runs the job that met it
met-before : (s : Settings) (b : Based) (before rest : List (Record (PoolDeed ℕ))) (r : Record (PoolDeed ℕ)) (u tag : ℕ) → IsWellFormed s b → IsLegalOn s b before × IsLegalFrom s (moment_on s b before) (r ∷ rest) → r.deed ≡ Runs u tag → r.ticket ≤ (moment_on s b before).last → Contains (handed_on s b before) (pair r.ticket u)
met-before s b before rest r u tag formed parts deed old = by_stage (stage_of s p r.seat) refl allowed.0 allowed.1
  where
    p : Pool ℕ
    p = (moment_on s b before).pool

    allowed : Allows s p r.seat r.ticket (Runs u tag)
    allowed = subst (λ d. Allows s p r.seat r.ticket d) deed parts.1.0.allowed

    fresh : 0 < draws (stage_of s p r.seat) (Runs u tag) → (moment_on s b before).last < r.ticket
    fresh some = (parts.1.0.above (subst (λ d. 0 < draws (stage_of s p r.seat) d) (sym deed) some)).0

    by_stage : (st : Stage ℕ) → stage_of s p r.seat ≡ st → IsOwn st r.ticket → job_for s p st ≡ Some (record { ticket = u; job = tag }) → Contains (handed_on s b before) (pair r.ticket u)
    by_stage Absent own has is = absurd has
    by_stage (Starting first) own has is =
        let drawn : stage_draws (stage_of s p r.seat) ≡ 1 = ap stage_draws own in
        absurd (omega (arith, old, fresh (omega (arith, drawn))))
    by_stage (Waiting x) own has is = cc
    by_stage (Cut x) own has is = cc
    by_stage (HandedOver x task) own has is =
        let at : IsWorker s p r.seat (HandedOver x task) = worker-from s p r.seat (HandedOver x task) refl own in
        let same : ◌≡◌ {A = Task ℕ} task (record { ticket = u; job = tag }) = cc in
        let both : has_both r.ticket u (HandedOver x task) ≡ true = ap (λ b. b && (task.ticket == u)) (eq-eqb x r.ticket (sym has)) ∙ eq-eqb task.ticket u (ap (λ (y : Task ℕ). y.ticket) same) in
        let own_one : one (has_both r.ticket u (HandedOver x task)) ≡ 1 = ap one both in
        handed-found r.ticket u s b before formed parts.0
        (omega (arith, own_one, count-set (has_both r.ticket u) (r.seat - s.sizes.callers) p.workers (HandedOver x task) Absent at.there at.stage))
    by_stage (Running x) own has is = cc

-- who meets whom is by the rule
pub partners-meet : (s : Settings) (b : Based) (records : List (Record (PoolDeed ℕ))) → IsWellFormed s b → IsLegalOn s b records → PartnersMeet s b records
partners-meet s b records formed legal = record {
  takes = λ before rest r w tag is deed. meets before rest r w tag (legal-parts s (moment_of_base s b) before (r ∷ rest) (subst (λ xs. IsLegalOn s b xs) is legal)) deed;
  follows = λ before rest r u tag is deed old. met-before s b before rest r u tag formed (legal-parts s (moment_of_base s b) before (r ∷ rest) (subst (λ xs. IsLegalOn s b xs) is legal)) deed old;
  kept = λ before rest r u tag is deed starts.
      (let parts = legal-parts s (moment_of_base s b) before (r ∷ rest) (subst (λ xs. IsLegalOn s b xs) is legal) in
      let allowed : Allows s (moment_on s b before).pool r.seat r.ticket (Runs u tag) = subst (λ d. Allows s (moment_on s b before).pool r.seat r.ticket d) deed parts.1.0.allowed in
      sym (ap (λ st. job_for s (moment_on s b before).pool st) starts) ∙ allowed.1);
}
  where
    meets : (before rest : List (Record (PoolDeed ℕ))) (r : Record (PoolDeed ℕ)) (w tag : ℕ) → IsLegalOn s b before × IsLegalFrom s (moment_on s b before) (r ∷ rest) → r.deed ≡ Handed w tag → (e : Entry ℕ) × (partner (queue_end s.queue) (moment_on s b before).pool.line Giver ≡ Some e) × (e.seat ≡ s.sizes.callers + w) × WaitsOn s b before e.seat e.ticket × (handed_by (moment_on s b before).pool r ≡ Some (pair e.ticket r.ticket))
    meets before rest r w tag parts deed =
        let p : Pool ℕ = (moment_on s b before).pool in
        let allowed : Allows s p r.seat r.ticket (Handed w tag) = subst (λ d. Allows s p r.seat r.ticket d) deed parts.1.0.allowed in
        let e : Entry ℕ = allowed.2.0 in
        let takes : Takes s p e = takes-from e (orderly-from s (moment_of_base s b) before formed parts.0).sound allowed.2.1 in
        let number : e.seat - s.sizes.callers ≡ w = omega (arith, allowed.2.2) in
        let stage : get_or p.workers w Absent ≡ Waiting e.ticket = ap (λ k. get_or p.workers k Absent) (sym number) ∙ takes.stage in
        let waits : stage_of s p e.seat ≡ Waiting e.ticket = stage-at s p e.seat takes.from ∙ takes.stage in
        (e, allowed.2.1, allowed.2.2, waited-from s e.seat e.ticket (moment_of_base s b) before parts.0 waits, ap (λ d. option_map (λ v. pair v r.ticket) (met_by p d)) deed ∙ ap (λ st. option_map (λ v. pair v r.ticket) (waiting_take st)) stage)
