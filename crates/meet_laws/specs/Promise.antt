-- A queue's promise, whole: every ticket is met at most once, in the place's order, and never after it was withdrawn
-- (java.util.concurrent's SynchronousQueue and LinkedTransferQueue; Scherer, Lea and Scott 2006).
use Rattle.std.specs.Prelude.{◌≡◌, ◌⊎◌, ℕ, true, Some, List, ◌∷◌, ◌++◌}
use Rattle.meet_tickets.specs.declared.fates.Fate.TheVariants.{Kept, Waiting}
use Rattle.meet_tickets.specs.declared.places.Kind.{Kind}
use Rattle.meet_tickets.specs.declared.records.Record.{Record}
use Rattle.meet_tickets.specs.declared.records.Deed.{Deed}
use Rattle.meet_tickets.specs.Bases.{Based}
use Rattle.meet_tickets.specs.Fates.{named_by, opening, fate_on}
use Rattle.meet_laws.specs.Erasing.{is_gone}
use Rattle.meet_laws.specs.Laws.{IsInOrder}
use Rattle.meet_laws.specs.Rows.{HasMet}

-- these records, after this base, keep the promise of a place of this kind; the base's entries count as requests
pub record KeepsPromise (k : Kind) (b : Based) (records : List (Record Deed)) : Type 0 where
  -- whom a request meets stood in the line until then, waiting or kept: it was neither met, nor cut, nor taken back
  -- (Scherer, Lea and Scott 2006: a cancelled reservation is never matched)
  pub stands : (before after : List (Record Deed)) (r : Record Deed) (u : ℕ) → records ≡ before ++ r ∷ after
      → named_by r.deed ≡ Some u → (fate_on b before u ≡ Waiting) ⊎ (fate_on b before u ≡ Kept)
  -- and of all that stood there it was the nearest to the end that is met (SynchronousQueue in fair mode and
  -- LinkedTransferQueue: first in, first out; in the default mode last in, first out, our choice)
  pub order : (before after : List (Record Deed)) (r : Record Deed) → records ≡ before ++ r ∷ after
      → IsInOrder k b before r
  -- wherever the records are parted: who met another in the first part meets nobody in the second (SynchronousQueue:
  -- each insert has its own remove, and each remove its own insert)
  pub once : (before after : List (Record Deed)) (t u v : ℕ) → records ≡ before ++ after
      → HasMet (opening b ++ before) t u → HasMet after t v → ⊥
  -- nor does who was cut or taken back in the first part (Scherer, Lea and Scott 2006: a cancelled reservation is never
  -- matched; of interrupts our choice)
  pub gone : (before after : List (Record Deed)) (t u : ℕ) → records ≡ before ++ after
      → is_gone (opening b ++ before) t ≡ true → HasMet after t u → ⊥
