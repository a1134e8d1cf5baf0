-- Chapters that follow one another are one legal history.
use Rattle.std.proofs.Common.{ℕ, ◌+◌, List, [], ◌∷◌, ◌++◌, length, append-nil, sym, subst}
use Rattle.meet_tickets.specs.declared.places.Kind.{Kind}
use Rattle.meet_tickets.specs.declared.records.Record.{Record}
use Rattle.meet_tickets.specs.declared.records.Deed.{Deed}
use Rattle.meet_tickets.specs.Bases.{Based, IsWellFormed, IsLegalOn}
use Rattle.meet_tickets.proofs.OnBases.Folded.{folds}
use Rattle.meet_laws.specs.Chapters.{FollowOn, records_in}

pub are_one : (k : Kind) (first : Based × List (Record Deed)) (later : List (Based × List (Record Deed)))
    → IsWellFormed k first.0 → FollowOn k (first ∷ later) → IsLegalOn k first.0 (records_in (first ∷ later))
are_one k first [] well (legal, none, done) = subst (IsLegalOn k first.0) (sym (append-nil first.1)) legal
are_one k first (next ∷ later) well (legal, succeeds, follow) =
    let folded = folds k first.0 first.1 (first.0.gone + length first.1) next.0 well legal succeeds in
    (folded.next (records_in (next ∷ later))).0 (are_one k next later folded.well_formed follow)
