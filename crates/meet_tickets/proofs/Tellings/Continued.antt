-- A history that goes on.
use Rattle.std.proofs.Common.{◌≡◌, refl, List, [], ◌∷◌, ◌++◌}
use Rattle.meet_tickets.specs.declared.places.Kind.{Kind}
use Rattle.meet_tickets.specs.declared.records.Record.{Record}
use Rattle.meet_tickets.specs.declared.records.Deed.{Deed}
use Rattle.meet_tickets.specs.BySeat.{Moment, moment_after, moment_of, IsLegalBySeatFrom}

-- legal records after legal records are legal
pub legal-append : (k : Kind) (m : Moment) (xs ys : List (Record Deed)) → IsLegalBySeatFrom k m xs → IsLegalBySeatFrom k (moment_of k m xs) ys → IsLegalBySeatFrom k m (xs ++ ys)
legal-append k m [] ys legal rest = rest
legal-append k m (r ∷ xs) ys legal rest = (legal.0, legal-append k (moment_after k m r) xs ys legal.1 rest)

-- and lead on
pub moment_of-append : (k : Kind) (m : Moment) (xs ys : List (Record Deed)) → moment_of k m (xs ++ ys) ≡ moment_of k (moment_of k m xs) ys
moment_of-append k m [] ys = refl
moment_of-append k m (r ∷ xs) ys = moment_of-append k (moment_after k m r) xs ys
