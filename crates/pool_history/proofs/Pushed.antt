-- Records of a pool that are pushed on a checker, one behind the other.
use Rattle.std.proofs.Common.{◌≡◌, ◌≢◌, ℕ, ◌+◌, List, [], ◌∷◌, ◌++◌, length, length-append, Some, None, Result, Ok, Err, sym, ap, subst, ◌∙◌, arith}
use Rattle.std.specs.Prelude.{IfOk}
use Rattle.meet_tickets.specs.declared.records.Record.{Record}
use Rattle.pool_core.specs.declared.settings.Settings.{Settings}
use Rattle.pool_core.specs.declared.deeds.PoolDeed.{PoolDeed}
use Rattle.pool_core.specs.declared.answers.Counters.{Counters}
use Rattle.pool_core.specs.Histories.{Moment, Based, IsStep, IsLegalOn, moment_of_base, moment_from, next_moment}
use Rattle.pool_core.specs.Bases.{IsWellFormed}
use Rattle.pool_core.proofs.Leading.{moment-on}
use Rattle.pool_history.specs.declared.checker.PoolWhy.{PoolWhy}
use Rattle.pool_history.specs.declared.checker.PoolFault.{PoolFault}
use Rattle.pool_history.specs.declared.checker.PoolFault.TheVariants.{Illegal, Memory}
use Rattle.pool_history.specs.Checking.{IsFaulty, IsIllegalAt, IsPoolFault}
use Rattle.pool_history.specs.Pushing.{Progress, HasTaken, SeenWith, HasSeen, TakesIn, AreCountersOf, counters_of, counters_on}
use Rattle.pool_history.proofs.Faulty.{illegal-at, illegal-on, legal-on}

module _ (old new : Progress) (r : Record (PoolDeed ℕ)) (s : Settings) (m : Moment) (own : s ≡ old.pool.settings) (here : m ≡ old.pool.moment) (sound : old.fault ≡ None) where
  taken : (base : Based) (past : List (Record (PoolDeed ℕ))) → HasSeen base old past → HasTaken base old past
  taken base past seen = subst (λ f. SeenWith base f old past) sound seen.1

  led : (base : Based) (past : List (Record (PoolDeed ℕ))) → HasSeen base old past → m ≡ moment_from old.pool.settings (moment_of_base old.pool.settings base) past
  led base past seen = here ∙ (taken base past seen).moment

  -- one that is a step goes on a legal history
  pub pushed-legal : new.pool.settings ≡ s → new.fault ≡ None → IsStep s m r → new.pool.moment ≡ next_moment s m r → new.count ≡ old.count + 1 → TakesIn old r new
  pushed-legal settings clean step after count base past seen =
      let q : Settings = old.pool.settings in
      let step_here : IsStep q (moment_from q (moment_of_base q base) past) r = subst (λ x. IsStep q x r) (led base past seen) (subst (λ o. IsStep o m r) own step) in
      let same : q ≡ new.pool.settings = sym (settings ∙ own) in
      let all : HasTaken base new (past ++ r ∷ []) = record {
        legal = subst (λ o. IsLegalOn o base (past ++ r ∷ [])) same (legal-on q (moment_of_base q base) past r (taken base past seen).legal step_here);
        moment = after ∙ (λ i. next_moment (own i) (led base past seen i) r) ∙ sym (moment-on q (moment_of_base q base) past r) ∙ ap (λ o. moment_from o (moment_of_base o base) (past ++ r ∷ [])) same;
        count = omega (arith, count, (taken base past seen).count, length-append past (r ∷ []));
      } in
      (subst (λ o. IsWellFormed o base) same seen.0, subst (λ f. SeenWith base f new (past ++ r ∷ [])) (sym clean) all)

  -- one with a fault is the first that can't stand
  pub pushed-illegal : (number : ℕ) (why : PoolWhy) → new.pool.settings ≡ s → new.fault ≡ Some (Illegal number why) → IsFaulty s m r why → number ≡ old.count + 1 → TakesIn old r new
  pushed-illegal number why settings found faulty count base past seen =
      let q : Settings = old.pool.settings in
      let faulty_here : IsFaulty q (moment_from q (moment_of_base q base) past) r why = subst (λ x. IsFaulty q x r why) (led base past seen) (subst (λ o. IsFaulty o m r why) own faulty) in
      let same : q ≡ new.pool.settings = sym (settings ∙ own) in
      let at : base.gone + length past + 1 ≡ number = omega (arith, count, (taken base past seen).count) in
      let all : IsIllegalAt new.pool.settings base (past ++ r ∷ []) number why = subst (λ n. IsIllegalAt new.pool.settings base (past ++ r ∷ []) n why) at (subst (λ o. IsIllegalAt o base (past ++ r ∷ []) (base.gone + length past + 1) why) same (illegal-at q base past r why seen.0 (taken base past seen).legal faulty_here)) in
      (subst (λ o. IsWellFormed o base) same seen.0, subst (λ f. SeenWith base f new (past ++ r ∷ [])) (sym found) all)

again-with : (base : Based) (f : PoolFault) (p : Progress) (past more : List (Record (PoolDeed ℕ))) → SeenWith base (Some f) p past → SeenWith base (Some f) p (past ++ more)
again-with base (Illegal number why) p past more seen = illegal-on p.pool.settings base past more number why seen
again-with base Memory p past more seen = absurd seen

-- behind one that can't stand, whatever comes
pub pushed-again : (p : Progress) (r : Record (PoolDeed ℕ)) (f : PoolFault) → p.fault ≡ Some f → TakesIn p r p
pushed-again p r f found base past seen =
    (seen.0, subst (λ g. SeenWith base g p (past ++ r ∷ [])) (sym found) (again-with base f p past (r ∷ []) (subst (λ g. SeenWith base g p past) found seen.1)))

-- a fault that was found of some records is one of all
pub fault-found : (base : Based) (p : Progress) (s : Settings) (records past more : List (Record (PoolDeed ℕ))) (f : PoolFault) → records ≡ past ++ more → p.pool.settings ≡ s → (f ≢ Memory → HasSeen base p past) → (f ≢ Memory → p.fault ≡ Some f) → IsPoolFault s base records f
fault-found base p s records past more Memory parts own seen found = tt
fault-found base p s records past more (Illegal number why) parts own seen found =
    let other : Illegal number why ≢ Memory = λ e. cc in
    let at : IsIllegalAt p.pool.settings base past number why = subst (λ g. SeenWith base g p past) (found other) (seen other).1 in
    rw parts (subst (λ o. IsIllegalAt o base (past ++ more) number why) own (illegal-on p.pool.settings base past more number why at))

-- records that were all taken are legal, and this is what the pool counts behind them
pub taken-all : (base : Based) (p : Progress) (s : Settings) (past : List (Record (PoolDeed ℕ))) → p.pool.settings ≡ s → p.fault ≡ None → HasSeen base p past → IsLegalOn s base past
taken-all base p s past own sound seen =
    let taken : HasTaken base p past = subst (λ f. SeenWith base f p past) sound seen.1 in
    subst (λ o. IsLegalOn o base past) own taken.legal

pub counters-taken : (p : Progress) → p.fault ≡ None → AreCountersOf p (counters_of p.pool.moment.pool)
counters-taken p sound base past seen =
    let taken : HasTaken base p past = subst (λ f. SeenWith base f p past) sound seen.1 in
    ap (λ (m : Moment). counters_of m.pool) taken.moment

pub counters-seen : (base : Based) (p : Progress) (s : Settings) (past : List (Record (PoolDeed ℕ))) (r : Result Counters PoolFault) → p.pool.settings ≡ s → HasSeen base p past → IfOk r (AreCountersOf p) → IfOk r (λ counters. counters ≡ counters_on s base past)
counters-seen base p s past (Ok counters) own seen is = is base past seen ∙ ap (λ o. counters_on o base past) own
counters-seen base p s past (Err fault) own seen is = tt
