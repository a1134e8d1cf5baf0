-- The nodes of a line, as links between their keys.
use Rattle.std.specs.Prelude.{ℕ, Option, Some, None, option_map, slice_set}
use Rattle.std.specs.Option.{option_map_or}
use Rattle.slab.specs.Slab.{Slab, get}
use Rattle.meet_line.specs.declared.nodes.Node.{Node}

-- what a field of the node under a key is, or this where there is no node
abbrev pub field_at : {X : Type 0} → (Node → X) → X → Slab Node → ℕ → X
field_at field none nodes k = option_map_or field (get nodes k) none

-- a field of the nodes as links, of which this is the first
abbrev pub links : (Node → Option ℕ) → Slab Node → (first : Option ℕ) → Option ℕ → Option ℕ
links field nodes first None = first
links field nodes first (Some k) = field_at field None nodes k

-- the ticket under a key
abbrev pub ticket_at : Slab Node → ℕ → ℕ
ticket_at nodes k = field_at (λ n. n.ticket) 0 nodes k

-- the nodes, where the one under this key, if there is one, is what f makes of it
abbrev pub with_node : Slab Node → Option ℕ → (Node → Node) → Slab Node
with_node nodes None f = nodes
with_node nodes (Some k) f = record nodes { slots = slice_set nodes.slots k (option_map f (get nodes k)) }

-- the nodes, once the one under this key is the newest of its bucket, where this was the newest
abbrev pub with_newest : Slab Node → (older : Option ℕ) → (key : ℕ) → Slab Node
with_newest nodes older key =
    with_node (with_node nodes (Some key) (λ n. record n { older = older; newer = None })) older
    (λ n. record n { newer = Some key })

-- the first of links, where what stands at None of them is changed
abbrev pub put_end : (old at to : Option ℕ) → Option ℕ
put_end old None to = to
put_end old (Some k) to = old
