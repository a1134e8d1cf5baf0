-- A base of what legal records leave stands for these records.
use Rattle.std.proofs.Common.{◌≡◌, ◌↔◌, ℕ, subst, List, [], ◌∷◌, ◌++◌}
use Rattle.meet_tickets.specs.declared.places.Kind.{Kind}
use Rattle.meet_tickets.specs.declared.records.Record.{Record}
use Rattle.meet_tickets.specs.declared.records.Deed.{Deed}
use Rattle.meet_tickets.specs.ByLists.{State, IsLegalFrom, after, run}
use Rattle.meet_tickets.specs.BySeat.{Moment, moment_of, moment_after, IsLegalBySeatFrom}
use Rattle.meet_tickets.specs.Bases.{Based, state_of_base, moment_of_base, IsWellFormed, IsLegalOn, IsBaseOf, Folds}
use Rattle.meet_tickets.proofs.Tellings.Histories.{Alike, legal_from, alike_at_end, alike_after}
use Rattle.meet_tickets.proofs.Tellings.Orderly.{Orderly, orderly_after}
use Rattle.meet_tickets.proofs.OnBases.Based.{alike_base, orderly_base}
use Rattle.meet_tickets.proofs.OnBases.Folding.{base_stands, base_is_well_formed}

-- what legal records leave is orderly
pub orderly_at_end : (k : Kind) (records : List (Record Deed)) (s : State) (m : Moment) → Alike s m → Orderly k s → IsLegalFrom k s records → Orderly k (run s records)
orderly_at_end k [] s m a o z = o
orderly_at_end k (r ∷ records) s m a o z =
    orderly_at_end k records (after s r.seat r.ticket r.deed) (moment_after k m r) (alike_after k s m a r z.0) (orderly_after k s a.reached o r.seat r.ticket r.deed z.0) z.1

-- legal records are so in two parts
pub legal-parts : (k : Kind) (s : State) (xs ys : List (Record Deed)) → IsLegalFrom k s (xs ++ ys) ↔ (IsLegalFrom k s xs × IsLegalFrom k (run s xs) ys)
legal-parts k s [] ys = (λ z. (tt, z), λ z. z.1)
legal-parts k s (r ∷ xs) ys =
    let rest = legal-parts k (after s r.seat r.ticket r.deed) xs ys in
    (λ z. ((z.0, (rest.0 z.1).0), (rest.0 z.1).1), λ z. (z.0.0, rest.1 (z.0.1, z.1)))

module _ (k : Kind) (old : Based) (records : List (Record Deed)) (w : IsWellFormed k old) (z : IsLegalOn k old records) where
  abbrev left_state : State
  left_state = run (state_of_base old) records

  abbrev left_moment : Moment
  left_moment = moment_of k (moment_of_base old) records

  left_alike : Alike left_state left_moment
  left_alike = alike_at_end k records (state_of_base old) (moment_of_base old) (alike_base k old w) z

  left_orderly : Orderly k left_state
  left_orderly = orderly_at_end k records (state_of_base old) (moment_of_base old) (alike_base k old w) (orderly_base k old w) z

  pub folded : (count : ℕ) (new : Based) → IsBaseOf left_moment count new → Folds k old records new
  folded count new is = record {
    well_formed = formed;
    stands = stands;
    next = λ more. (
      λ y. (legal-parts k (state_of_base old) records more).1 (z, (from more).1 ((to more).0 y)),
      λ y. (to more).1 ((from more).0 ((legal-parts k (state_of_base old) records more).0 y).1),
    );
  }
    where
      stands : moment_of_base new ≡ left_moment
      stands = base_stands k left_state left_moment left_alike left_orderly count new is

      formed : IsWellFormed k new
      formed = base_is_well_formed k left_state left_moment left_alike left_orderly count new is

      from : (more : List (Record Deed)) → IsLegalFrom k left_state more ↔ IsLegalBySeatFrom k left_moment more
      from more = legal_from k more left_state left_moment left_alike

      to : (more : List (Record Deed)) → IsLegalOn k new more ↔ IsLegalBySeatFrom k left_moment more
      to more = subst (λ n. IsLegalOn k new more ↔ IsLegalBySeatFrom k n more) stands (legal_from k more (state_of_base new) (moment_of_base new) (alike_base k new formed))

pub folds : (k : Kind) (old : Based) (records : List (Record Deed)) (count : ℕ) (new : Based) → IsWellFormed k old → IsLegalOn k old records →
    IsBaseOf (moment_of k (moment_of_base old) records) count new → Folds k old records new
folds k old records count new w z is = folded k old records w z count new is
