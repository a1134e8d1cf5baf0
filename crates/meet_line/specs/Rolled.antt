-- A roll of tickets: what it shows of itself, and how it is kept (our choice).
use Rattle.std.specs.Prelude.{◌≡◌, ◌≢◌, ℕ, ◌+◌, ◌%◌, ◌^◌, ◌==◌, ◌<◌, ◌⊎◌, Bool, Option, Some, None, All, count_by}
use Rattle.std.specs.Prelude.{List, [], ◌∷◌, ◌++◌, map, length, slice_index_or}
use Rattle.std.specs.List.{filter}
use Rattle.slab.specs.Slab.{Slab, get, slab_len}
use Rattle.meet_line.specs.declared.nodes.Node.{Node}
use Rattle.meet_line.specs.Runs.{IsRun, IsRing, IsAbsent, IsDistinct, first_or, followed}
use Rattle.meet_line.specs.Nodes.{links, ticket_at}

-- a ticket in a roll, and the key that it has there
pub record Placed : Type 0 where
  pub key : ℕ
  pub ticket : ℕ

-- the tickets in order of arrival; how many keys there may be without growth, each below that number; how many buckets
pub record Rolled : Type 0 where
  pub places : List Placed
  pub width : ℕ
  pub buckets : ℕ

-- the keys in order of arrival
abbrev pub keys_of : Slab Node → (first : Option ℕ) → List ℕ
keys_of nodes first = followed (slab_len nodes) (links (λ n. n.after) nodes first) first

-- what these fields show
abbrev pub rolled : Slab Node → (first : Option ℕ) → (table : List (Option ℕ)) → Rolled
rolled nodes first table = record {
  places = map (λ k. record { key = k; ticket = ticket_at nodes k }) (keys_of nodes first);
  width = nodes.capacity;
  buckets = length table;
}

-- the bucket of a key's ticket, of so many
abbrev pub bucket_at : Slab Node → (count : ℕ) → (key : ℕ) → ℕ
bucket_at nodes count key = ticket_at nodes key % count

-- whether a key's ticket falls into this bucket, of so many
abbrev pub falls : Slab Node → (count bucket : ℕ) → ℕ → Bool
falls nodes count bucket k = ticket_at nodes k % count == bucket

-- the keys of a bucket, in order of arrival
abbrev pub chain_of : Slab Node → (count bucket : ℕ) → List ℕ → List ℕ
chain_of nodes count bucket keys = filter (falls nodes count bucket) keys

-- the keys of a bucket are chained, from the newest, which the table names, to the oldest, and back
abbrev pub IsChain : Slab Node → (newest : Option ℕ) → List ℕ → Type 0
IsChain nodes newest chain =
    IsRing (links (λ n. n.newer) nodes (first_or chain None)) (links (λ n. n.older) nodes newest) chain

-- the keys of each of so many buckets are chained
abbrev pub AreChained : Slab Node → (table : List (Option ℕ)) → (count : ℕ) → List ℕ → Type 0
AreChained nodes table count keys = (b : ℕ) → b < count
    → IsChain nodes (slice_index_or table b None) (chain_of nodes count b keys)

-- no bucket yet, or a power of two of them
abbrev pub IsTableSize : ℕ → Type 0
IsTableSize count = (count ≡ 0) ⊎ ((k : ℕ) × (count ≡ 2 ^ k))

-- these fields keep a roll of these keys
pub record IsRoll (nodes : Slab Node) (first last : Option ℕ) (table : List (Option ℕ)) (keys : List ℕ) : Type 0 where
  pub line : IsRing (links (λ n. n.after) nodes first) (links (λ n. n.before) nodes last) keys
  pub chains : AreChained nodes table (length table) keys
  pub present : (k : ℕ) → get nodes k ≡ None → IsAbsent (Some k) keys
  pub distinct : IsDistinct keys
  pub counted : length keys ≡ slab_len nodes
  pub bare : length table ≡ 0 → keys ≡ []
  pub sized : IsTableSize (length table)

-- the key of the first of these places
abbrev pub first_key : List Placed → Option ℕ
first_key [] = None
first_key (p ∷ places) = Some p.key

-- a place of this key stands there, between these
pub record StandsAt (places : List Placed) (key : ℕ) : Type 0 where
  pub front : List Placed
  pub place : Placed
  pub rest : List Placed
  pub all : places ≡ front ++ place ∷ rest
  pub own : place.key ≡ key

-- the place of this key leaves, and the others keep their order
abbrev pub IsLeft : (old new : List Placed) → (key : ℕ) → Type 0
IsLeft old new key = (front : List Placed) (place : Placed) (rest : List Placed)
    → old ≡ front ++ place ∷ rest → place.key ≡ key → new ≡ front ++ rest

-- how many of these places are in the bucket of this ticket
abbrev pub bucket_count : (buckets ticket : ℕ) → List Placed → ℕ
bucket_count buckets ticket places = count_by (λ p. p.ticket % buckets == ticket % buckets) places

-- what a look for a ticket finds: a place of it, once it looked at it and at those of its bucket that came later; or
-- that it has none, once it looked at all of its bucket
abbrev pub IsFound : List Placed → (buckets ticket : ℕ) → Option ℕ → (looked : ℕ) → Type 0
IsFound places buckets ticket None looked =
    All (λ p. p.ticket ≢ ticket) places × (looked ≡ bucket_count buckets ticket places)
IsFound places buckets ticket (Some key) looked =
    (at : StandsAt places key) × (at.place.ticket ≡ ticket) × (looked ≡ bucket_count buckets ticket at.rest + 1)

-- the key of the last place, which stands there
abbrev pub IsLastKey : List Placed → Option ℕ → Type 0
IsLastKey places None = places ≡ []
IsLastKey places (Some key) = (at : StandsAt places key) × (at.rest ≡ [])

-- these nodes keep a line of these keys
pub record IsLine (nodes : Slab Node) (first : Option ℕ) (keys : List ℕ) : Type 0 where
  pub onward : IsRun (links (λ n. n.after) nodes first) None keys None
  pub present : (k : ℕ) → get nodes k ≡ None → IsAbsent (Some k) keys
  pub distinct : IsDistinct keys
  pub counted : length keys ≡ slab_len nodes

-- the nodes are the same but for their links in buckets
pub record IsRechained (old new : Slab Node) : Type 0 where
  pub after : (first p : Option ℕ) → links (λ n. n.after) new first p ≡ links (λ n. n.after) old first p
  pub before : (last p : Option ℕ) → links (λ n. n.before) new last p ≡ links (λ n. n.before) old last p
  pub ticket : (k : ℕ) → ticket_at new k ≡ ticket_at old k
  pub gone : (k : ℕ) → get new k ≡ None → get old k ≡ None
  pub len : slab_len new ≡ slab_len old
  pub capacity : new.capacity ≡ old.capacity
