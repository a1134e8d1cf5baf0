-- A history without what was cut, taken back or refused at its entry: as if these tickets hadn't come (Scherer and
-- Scott 2004: a cancelled request may be seen as never made; which records go with it is our choice).
use Rattle.std.specs.Prelude.{◌≡◌, ◌≢◌, ℕ, ◌&&◌, ◌||◌, not, Bool, false, is_some, List, filter, Contains}
use Rattle.meet_tickets.specs.declared.fates.Fate.TheVariants.{EntryRefused}
use Rattle.meet_tickets.specs.declared.places.Kind.{Kind}
use Rattle.meet_tickets.specs.declared.records.Record.{Record}
use Rattle.meet_tickets.specs.declared.records.Deed.{Deed}
use Rattle.meet_tickets.specs.ByLists.{IsLegal}
use Rattle.meet_tickets.specs.Fates.{was_cut, withdrawal_of, interrupts, fate}
use Rattle.meet_laws.specs.Rows.{is_refused}

-- whether a ticket was cut or taken back
abbrev pub is_gone : List (Record Deed) → (ticket : ℕ) → Bool
is_gone history t = was_cut history t || is_some (withdrawal_of history t)

-- whether a record is left where these tickets are gone: no interrupt is, and no request that was refused at its entry
abbrev pub is_left : (ℕ → Bool) → Record Deed → Bool
is_left gone r = not (gone r.ticket) && (not (interrupts r.deed) && not (is_refused r.deed))

-- the records that are left, as they were
abbrev pub erase : List (Record Deed) → List (Record Deed)
erase history = filter (is_left (is_gone history)) history

-- what is left of a legal history is legal, under the same bound if there is one, and keeps the fate of each ticket
-- that is left
pub record IsErased (k : Kind) (history : List (Record Deed)) : Type 0 where
  pub legal : IsLegal k (erase history)
  pub fates : (t : ℕ) → is_gone history t ≡ false → fate history t ≢ EntryRefused
      → fate (erase history) t ≡ fate history t
  pub kept : (r : Record Deed) → Contains (erase history) r → fate (erase history) r.ticket ≡ fate history r.ticket
