-- Histories in the two tellings, deed by deed.
use Rattle.std.proofs.Common.{◌≡◌, ◌↔◌, List, [], ◌∷◌, refl, subst}
use Rattle.std.proofs.lemmas.Bool.{false≢true}
use Rattle.meet_tickets.specs.declared.places.Kind.{Kind}
use Rattle.meet_tickets.specs.declared.records.Record.{Record}
use Rattle.meet_tickets.specs.declared.records.Deed.{Deed}
use Rattle.meet_tickets.specs.ByLists.{State, empty, IsStep, IsLegal, IsLegalFrom, after, run}
use Rattle.meet_tickets.specs.BySeat.{Moment, beginning, moment_after, IsLegalBySeatFrom, moment_of}
use Rattle.meet_tickets.specs.Agreement.{Agrees, TellingsAgree}
use Rattle.meet_tickets.proofs.Lists.Members.{Contains-nil}
use Rattle.meet_tickets.proofs.Tellings.Whereabouts.{Never, Reached}
use Rattle.meet_tickets.proofs.Tellings.Deeds.{Told, seen}
use Rattle.meet_tickets.proofs.Tellings.Steps.{Follows, follows}

-- a reached state, and a moment that agrees with it
pub record Alike (s : State) (m : Moment) : Type 0 where
  pub reached : Reached s
  pub agrees : Agrees s m

-- what the moment says of the state
abbrev pub told_by : (s : State) (m : Moment) → Alike s m → Told s
told_by s m a = record { reached = a.reached; held = m.seats.holds; raised = m.seats.flags; holds = a.agrees.holds; flags = a.agrees.flags }

-- the moment is the state's
pub seen_is : (s : State) (m : Moment) (a : Alike s m) → seen (told_by s m a) ≡ m
seen_is s m a = λ i. record { last = a.agrees.last i; seats = record { line = a.agrees.line i; holds = m.seats.holds; flags = m.seats.flags } }

-- one record is told alike
pub follows_at : (k : Kind) (s : State) (m : Moment) → Alike s m → (r : Record Deed) → Follows k s m r.seat r.ticket r.deed
follows_at k s m a r = subst (λ n. Follows k s n r.seat r.ticket r.deed) (seen_is s m a) (follows (told_by s m a) k r.seat r.ticket r.deed)

-- what one record leaves is alike
pub alike_after : (k : Kind) (s : State) (m : Moment) → Alike s m → (r : Record Deed) → IsStep k s r.seat r.ticket r.deed →
    Alike (after s r.seat r.ticket r.deed) (moment_after k m r)
alike_after k s m a r z = let f = follows_at k s m a r in record { reached = f.reached z; agrees = f.agrees z }

-- the same histories are legal
pub legal_from : (k : Kind) (history : List (Record Deed)) (s : State) (m : Moment) → Alike s m →
    IsLegalFrom k s history ↔ IsLegalBySeatFrom k m history
legal_from k [] s m a = (λ z. z, λ z. z)
legal_from k (r ∷ history) s m a =
    let next = (follows_at k s m a r).next in
    let later = λ (z : IsStep k s r.seat r.ticket r.deed).
    legal_from k history (after s r.seat r.ticket r.deed) (moment_after k m r) (alike_after k s m a r z) in
    (λ z. (next.0 z.0, (later z.0).0 z.1), λ q. (next.1 q.0, (later (next.1 q.0)).1 q.1))

-- what a legal history leaves is alike
pub alike_at_end : (k : Kind) (history : List (Record Deed)) (s : State) (m : Moment) → Alike s m → IsLegalFrom k s history →
    Alike (run s history) (moment_of k m history)
alike_at_end k [] s m a z = a
alike_at_end k (r ∷ history) s m a z = alike_at_end k history (after s r.seat r.ticket r.deed) (moment_after k m r) (alike_after k s m a r z.0) z.1

-- the empty place is a reached state
reached_empty : Reached empty
reached_empty = record {
  place = λ t. Never;
  owner = λ t. 0;
  placed = record {
    fresh = λ t above. refl;
    none = refl;
    lined = λ e m. absurd (Contains-nil e m);
    gave = λ p m. absurd (Contains-nil p m);
    took = λ p m. absurd (Contains-nil p m);
    cuts = λ t m. absurd (Contains-nil t m);
  };
  opened = record {
    named = λ i t m. absurd (Contains-nil (record { ticket = t; seat = i }) m);
    owned = λ i t m. absurd (Contains-nil (record { ticket = t; seat = i }) m);
    waits = λ e m. absurd (Contains-nil e m);
    kept = λ e m. absurd (Contains-nil e m);
  };
  distinct = tt;
}

-- the two tellings begin alike
agrees_empty : Agrees empty beginning
agrees_empty = record {
  last = refl;
  line = refl;
  holds = λ i t m. Contains-nil (record { ticket = t; seat = i }) m;
  flags = λ i. (λ y. absurd (false≢true y), λ m. absurd (Contains-nil i m));
}

-- so they are alike
pub starts_alike : Alike empty beginning
starts_alike = record { reached = reached_empty; agrees = agrees_empty }

-- the two tellings are one
pub tellings_are_one : (k : Kind) (history : List (Record Deed)) → TellingsAgree k history
tellings_are_one k history = record {
  legal = legal_from k history empty beginning starts_alike;
  leaves = λ z. (end z).agrees;
  next = λ z r. (follows_at k (run empty history) (moment_of k beginning history) (end z) r).next;
}
  where
    end : IsLegal k history → Alike (run empty history) (moment_of k beginning history)
    end z = alike_at_end k history empty beginning starts_alike z
