-- Records that are pushed on a checker, one behind the other.
use Rattle.std.proofs.Common.{◌≡◌, ◌≢◌, ℕ, ◌+◌, ◌≤◌, List, [], ◌∷◌, ◌++◌, length, length-append, Option, Some, None, Result, Ok, Err, sym, ap, subst, ◌∙◌, arith}
use Rattle.meet_tickets.specs.declared.places.Kind.{Kind}
use Rattle.meet_tickets.specs.declared.records.Record.{Record}
use Rattle.meet_tickets.specs.declared.records.Deed.{Deed}
use Rattle.meet_tickets.specs.Bases.{Based, moment_of_base, IsWellFormed, IsLegalOn}
use Rattle.meet_tickets.specs.Fates.{StandsOn}
use Rattle.meet_tickets.specs.BySeat.{Moment, moment_of, moment_after, Fits, IsFree}
use Rattle.meet_tickets.specs.Limits.{most_seats}
use Rattle.meet_tickets.proofs.Tellings.Continued.{moment_of-append}
use Rattle.meet_tickets.proofs.Told.StandingsOn.{stands_on}
use Rattle.std.specs.Prelude.{IfOk}
use Rattle.meet_history.specs.declared.checker.Standing.{Standing}
use Rattle.meet_history.specs.declared.checker.Why.{Why}
use Rattle.meet_history.specs.declared.checker.CheckFault.{CheckFault}
use Rattle.meet_history.specs.declared.checker.CheckFault.TheVariants.{Illegal, Memory}
use Rattle.meet_history.specs.Checking.{IsFaulty, IsIllegalAt, IsCheckFault, moment_at}
use Rattle.meet_history.specs.Pushing.{Progress, HasTaken, SeenWith, HasSeen, TakesIn, IsStandingOf, IsUnchanged}
use Rattle.meet_history.specs.OneThread.{standing_at}
use Rattle.meet_history.specs.Standings.{standing_on}
use Rattle.meet_history.proofs.Kept.{standings-same}
use Rattle.meet_history.proofs.Faulty.{illegal-at, illegal-on, legal-on}

module _ (old new : Progress) (r : Record Deed) (k : Kind) (m : Moment) (own : k ≡ old.place.kind) (here : m ≡ moment_at old.place) (sound : old.fault ≡ None) where
  taken : (base : Based) (past : List (Record Deed)) → HasSeen base old past → HasTaken base old past
  taken base past seen = subst (λ f. SeenWith base f old past) sound seen.1

  led : (base : Based) (past : List (Record Deed)) → HasSeen base old past → m ≡ moment_of old.place.kind (moment_of_base base) past
  led base past seen = here ∙ (taken base past seen).moment

  -- one that fits goes on a legal history
  pub pushed-legal : new.place.kind ≡ k → new.fault ≡ None → Fits k m r → moment_at new.place ≡ moment_after k m r → new.count ≡ old.count + 1 → TakesIn old r new
  pushed-legal kind clean fits after count base past seen =
      let fits_here : Fits old.place.kind (moment_of old.place.kind (moment_of_base base) past) r = subst (λ q. Fits old.place.kind q r) (led base past seen) (subst (λ o. Fits o m r) own fits) in
      let same : old.place.kind ≡ new.place.kind = sym (kind ∙ own) in
      let all : HasTaken base new (past ++ r ∷ []) = record {
        legal = subst (λ o. IsLegalOn o base (past ++ r ∷ [])) same (legal-on old.place.kind base past r seen.0 (taken base past seen).legal fits_here);
        moment = after ∙ (λ i. moment_after (own i) (led base past seen i) r) ∙ sym (moment_of-append old.place.kind (moment_of_base base) past (r ∷ [])) ∙ ap (λ o. moment_of o (moment_of_base base) (past ++ r ∷ [])) same;
        count = omega (arith, count, (taken base past seen).count, length-append past (r ∷ []));
      } in
      (subst (λ o. IsWellFormed o base) same seen.0, subst (λ f. SeenWith base f new (past ++ r ∷ [])) (sym clean) all)

  -- one with a fault is the first that can't stand
  pub pushed-illegal : (number : ℕ) (why : Why) → new.place.kind ≡ k → new.fault ≡ Some (Illegal number why) → IsFaulty k m r why → number ≡ old.count + 1 → TakesIn old r new
  pushed-illegal number why kind found faulty count base past seen =
      let faulty_here : IsFaulty old.place.kind (moment_of old.place.kind (moment_of_base base) past) r why = subst (λ q. IsFaulty old.place.kind q r why) (led base past seen) (subst (λ o. IsFaulty o m r why) own faulty) in
      let same : old.place.kind ≡ new.place.kind = sym (kind ∙ own) in
      let at : base.gone + length past + 1 ≡ number = omega (arith, count, (taken base past seen).count) in
      let all : IsIllegalAt new.place.kind base (past ++ r ∷ []) number why = subst (λ n. IsIllegalAt new.place.kind base (past ++ r ∷ []) n why) at (subst (λ o. IsIllegalAt o base (past ++ r ∷ []) (base.gone + length past + 1) why) same (illegal-at old.place.kind base past r why seen.0 (taken base past seen).legal faulty_here)) in
      (subst (λ o. IsWellFormed o base) same seen.0, subst (λ f. SeenWith base f new (past ++ r ∷ [])) (sym found) all)

again-with : (base : Based) (f : CheckFault) (p : Progress) (past more : List (Record Deed)) → SeenWith base (Some f) p past → SeenWith base (Some f) p (past ++ more)
again-with base (Illegal number why) p past more seen = illegal-on p.place.kind base past more number why seen
again-with base Memory p past more seen = absurd seen

-- behind one that can't stand, whatever comes
pub pushed-again : (p : Progress) (r : Record Deed) (f : CheckFault) → p.fault ≡ Some f → TakesIn p r p
pushed-again p r f found base past seen =
    (seen.0, subst (λ g. SeenWith base g p (past ++ r ∷ [])) (sym found) (again-with base f p past (r ∷ []) (subst (λ g. SeenWith base g p past) found seen.1)))

-- a checker that is as it was has seen what it had
pub seen-unchanged : (base : Based) (old new : Progress) (past : List (Record Deed)) → IsUnchanged old new → HasSeen base old past → HasSeen base new past
seen-unchanged base old new past same seen =
    (subst (λ o. IsWellFormed o base) (sym same.kind) seen.0, subst (λ f. SeenWith base f new past) (sym same.fault) (seen-with old.fault old new past same seen.1))
  where
    seen-with : (f : Option CheckFault) (old new : Progress) (past : List (Record Deed)) → IsUnchanged old new → SeenWith base f old past → SeenWith base f new past
    seen-with None old new past same seen = record {
      legal = subst (λ o. IsLegalOn o base past) (sym same.kind) seen.legal;
      moment = same.moment ∙ seen.moment ∙ ap (λ o. moment_of o (moment_of_base base) past) (sym same.kind);
      count = same.count ∙ seen.count;
    }
    seen-with (Some (Illegal number why)) old new past same seen = subst (λ o. IsIllegalAt o base past number why) (sym same.kind) seen
    seen-with (Some Memory) old new past same seen = absurd seen

-- a fault that was found of some records is one of all
pub fault-found : (base : Based) (p : Progress) (kind : Kind) (records past more : List (Record Deed)) (f : CheckFault) → records ≡ past ++ more → p.place.kind ≡ kind → (f ≢ Memory → HasSeen base p past) → (f ≢ Memory → p.fault ≡ Some f) → IsCheckFault kind base records f
fault-found base p kind records past more Memory parts own seen found = tt
fault-found base p kind records past more (Illegal number why) parts own seen found =
    let other : Illegal number why ≢ Memory = λ e. cc in
    let at : IsIllegalAt p.place.kind base past number why = subst (λ g. SeenWith base g p past) (found other) (seen other).1 in
    rw parts (subst (λ o. IsIllegalAt o base (past ++ more) number why) own (illegal-on p.place.kind base past more number why at))

-- records that were all taken are legal, and this stands behind them
pub taken-all : (base : Based) (p : Progress) (kind : Kind) (past : List (Record Deed)) → p.place.kind ≡ kind → p.fault ≡ None → HasSeen base p past → IsLegalOn kind base past
taken-all base p kind past own sound seen =
    let taken : HasTaken base p past = subst (λ f. SeenWith base f p past) sound seen.1 in
    subst (λ o. IsLegalOn o base past) own taken.legal

pub standing-taken : (base : Based) (p : Progress) (past : List (Record Deed)) → p.fault ≡ None → ((seat : ℕ) → most_seats ≤ seat → IsFree (moment_at p.place).seats seat) → HasSeen base p past → standing_at most_seats (moment_at p.place).seats ≡ standing_on base past
standing-taken base p past sound beyond seen =
    let taken : HasTaken base p past = subst (λ f. SeenWith base f p past) sound seen.1 in
    let kind = p.place.kind in
    let stands : StandsOn kind base past most_seats = stands_on kind base past most_seats seen.0 taken.legal (λ seat above. ap (λ q. q.seats.holds seat) (sym taken.moment) ∙ beyond seat above) in
    ap (λ q. standing_at most_seats q.seats) taken.moment ∙ standings-same (sym stands.waiting) (sym stands.uncollected) (sym stands.kept)

pub standing-seen : (base : Based) (p : Progress) (past : List (Record Deed)) (r : Result Standing CheckFault) → HasSeen base p past → IfOk r (IsStandingOf p) → IfOk r (λ standing. standing ≡ standing_on base past)
standing-seen base p past (Ok standing) seen is = is base past seen
standing-seen base p past (Err fault) seen is = tt
