-- Where a search stands: the moves that led to a world, the next call to be tried there, and what was seen.
use Rattle.std.proofs.Common.{◌≡◌, ℕ, ◌+◌, ◌≤◌, List, [], ◌∷◌, ◌++◌, reverse, length, Vec, Global, sym, ap, ◌∙◌, subst, arith}
use Rattle.std.proofs.lemmas.List.{reverse-append}
use Rattle.meet_tickets.specs.declared.places.Kind.{Kind}
use Rattle.meet_tickets.specs.declared.records.Record.{Record}
use Rattle.meet_tickets.specs.declared.records.Deed.{Deed}
use Rattle.meet_overlap.specs.declared.calls.Call.{Call}
use Rattle.meet_overlap.specs.declared.moving.Move.{Move}
use Rattle.meet_overlap.specs.declared.seen.Seen.{Seen}
use Rattle.meet_overlap.specs.declared.world.Reached.{Reached}
use Rattle.meet_overlap.specs.Explaining.{Explains}
use Rattle.meet_overlap.specs.Known.{LeadsOn, HasNonePlayed, IsBarren, AreBarren}
use Rattle.meet_overlap.specs.Places.{world_of}
use Rattle.meet_overlap.specs.Search.{World, start, MayAllStop}
use Rattle.meet_overlap.proofs.Barren.{none_played, none_beyond, none_fewer, barren_push, barren_explains}
use Rattle.meet_overlap.proofs.Windows.{before, moving_runs}

-- these moved one after another, the last first, and the last of them to this world: where that is barren, no call up to
-- the one that moved leads on from where it did; and there the calls may not be left as they are
abbrev pub IsPath : Kind → List Call → World → List Move → Type 0
IsPath k calls w [] = w ≡ start
IsPath k calls w (m ∷ path) =
    (IsBarren k calls w → HasNonePlayed k calls (world_of m.reached) (m.number + 1))
    × (MayAllStop calls (world_of m.reached).stages → ⊥)
    × IsPath k calls (world_of m.reached) path

-- the search stands there
pub record IsSearching (k : Kind) (calls : List Call) (path : List Move) (r : Reached) (next : ℕ) (seen : List Reached) : Type 0 where
  pub path_is : IsPath k calls (world_of r) (reverse path)
  pub none : HasNonePlayed k calls (world_of r) next
  pub stays : MayAllStop calls (world_of r).stages → ⊥
  pub seen_is : AreBarren k calls seen

reverse_push : (path : List Move) (m : Move) → reverse (path ++ m ∷ []) ≡ m ∷ reverse path
reverse_push path m = reverse-append path (m ∷ [])

-- none of the calls before the window begins a play: they are over
none_before : (k : Kind) (calls : List Call) (r : Reached) → HasNonePlayed k calls (world_of r) r.window.first
none_before k calls r e run below is =
    let p = is.0 in
    moving_runs k (world_of r).moment.seats p.call ((world_of r).stages e.call) e.entry.deed p.deed (before r.window.first r.window.stages.items e.call below)

-- a call moves, but to a world that is barren behind the endings that come with it
pub search_passed : (k : Kind) (calls : List Call) (path : List Move) (r then there : Reached) (from n next : ℕ) (seen : List Reached) →
    LeadsOn k calls (world_of r) n (world_of then) → (IsBarren k calls (world_of there) → IsBarren k calls (world_of then)) →
    (HasNonePlayed k calls (world_of r) from → HasNonePlayed k calls (world_of r) n) → IsBarren k calls (world_of there) → next ≤ n + 1 →
    IsSearching k calls path r from seen → IsSearching k calls path r next seen
search_passed k calls path r then there from n next seen leads settled passed barren le is = record {
  path_is = is.path_is;
  none = none_fewer k calls (world_of r) next (n + 1) le (none_beyond k calls (world_of r) (world_of then) n (passed is.none) leads (settled barren));
  stays = is.stays;
  seen_is = is.seen_is;
}

-- a call moves, and the search goes on behind the endings that come with it
pub search_moved : (k : Kind) (calls : List Call) (path more : List Move) (m : Move) (then there : Reached) (from : ℕ) (seen : List Reached) →
    LeadsOn k calls (world_of m.reached) m.number (world_of then) → (IsBarren k calls (world_of there) → IsBarren k calls (world_of then)) →
    (HasNonePlayed k calls (world_of m.reached) from → HasNonePlayed k calls (world_of m.reached) m.number) → (MayAllStop calls (world_of there).stages → ⊥) →
    more ≡ path ++ m ∷ [] → IsSearching k calls path m.reached from seen → IsSearching k calls more there there.window.first seen
search_moved k calls path more m then there from seen leads settled passed stays pushed is = record {
  path_is =
      subst (IsPath k calls (world_of there)) (sym (ap reverse pushed ∙ reverse_push path m))
      ((λ barren. none_beyond k calls (world_of m.reached) (world_of then) m.number (passed is.none) leads (settled barren)), is.stays, is.path_is);
  none = none_before k calls there;
  stays = stays;
  seen_is = is.seen_is;
}

-- no call moves any more
search_barren : (k : Kind) (calls : List Call) (path : List Move) (r : Reached) (from : ℕ) (seen : List Reached) →
    (HasNonePlayed k calls (world_of r) from → HasNonePlayed k calls (world_of r) (length calls)) → IsSearching k calls path r from seen → IsBarren k calls (world_of r)
search_barren k calls path r from seen passed is = none_played k calls (world_of r) is.stays (passed is.none)

-- so the search goes back
pub search_back : (k : Kind) (calls : List Call) (path less : List Move) (m : Move) (r : Reached) (from next : ℕ) (seen more : List Reached) →
    (HasNonePlayed k calls (world_of r) from → HasNonePlayed k calls (world_of r) (length calls)) → path ≡ less ++ m ∷ [] → more ≡ seen ++ r ∷ [] → next ≤ m.number + 1 →
    IsSearching k calls path r from seen → IsSearching k calls less m.reached next more
search_back k calls path less m r from next seen more passed popped noted le is =
    let barren = search_barren k calls path r from seen passed is in
    let way : IsPath k calls (world_of r) (m ∷ reverse less) = subst (IsPath k calls (world_of r)) (ap reverse popped ∙ reverse_push less m) is.path_is in
    record {
      path_is = way.2;
      none = none_fewer k calls (world_of m.reached) next (m.number + 1) le (way.0 barren);
      stays = way.1;
      seen_is = barren_push k calls seen more r noted is.seen_is barren;
    }

-- or nothing explains the calls
pub search_ends : (k : Kind) (calls : List Call) (path : List Move) (r : Reached) (from : ℕ) (seen : List Reached) →
    (HasNonePlayed k calls (world_of r) from → HasNonePlayed k calls (world_of r) (length calls)) → length path ≡ 0 → IsSearching k calls path r from seen →
    (history : List (Record Deed)) → Explains k calls history → ⊥
search_ends k calls [] r from seen passed none is =
    let barren = search_barren k calls [] r from seen passed is in
    let begin : world_of r ≡ start = is.path_is in
    barren_explains k calls (subst (IsBarren k calls) begin barren)
search_ends k calls (m ∷ path) r from seen passed none is = absurd (omega arith)

-- the same, by other names
pub search_same : (k : Kind) (calls : List Call) (path other : Vec Move Global) (r s : Reached) (next then : ℕ) (seen known : Seen) → other ≡ path → s ≡ r → then ≡ next → known ≡ seen →
    IsSearching k calls path.items r next seen.worlds.items → IsSearching k calls other.items s then known.worlds.items
search_same k calls path other r s next then seen known p q o t is =
    subst (λ x. IsSearching k calls x.items s then known.worlds.items) (sym p)
    (subst (λ x. IsSearching k calls path.items x then known.worlds.items) (sym q)
    (subst (λ x. IsSearching k calls path.items r x known.worlds.items) (sym o) (subst (λ x. IsSearching k calls path.items r next x.worlds.items) (sym t) is)))
