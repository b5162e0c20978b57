-- What a recency node holds, by last use, and what its calls do to that order.
use Rattle.std.specs.Prelude.{◌≡◌, ℕ, ◌+◌, ◌<◌, List, ◌∷◌, ◌++◌, length, take, drop, Some, None, filter, Option, slice_index_or}
use Rattle.cache.specs.declared.entry.Entry.{Entry}
use Rattle.cache.specs.Entries.{blank_entry}
use Rattle.recency.specs.declared.node.Recency.{Recency}
use Rattle.recency.specs.Places.{stays}

-- the places of the lent table
abbrev pub places : Recency → List Entry
places node = node.table.now

-- how many entries the node can keep
abbrev pub size_of : Recency → ℕ
size_of node = length (places node)

-- the entries by last use, the newest use first
abbrev pub recent : Recency → List Entry
recent node = take node.len (places node)

-- on a hit the entry comes first, and the others keep their order; a miss changes nothing
abbrev pub Raises : List Entry → Option Entry → List Entry → Type 0
Raises before None after = after ≡ before
Raises before (Some hit) after =
    (place : ℕ)
    × (place < length before)
    × (hit ≡ slice_index_or before place blank_entry)
    × (after ≡ hit ∷ (take place before ++ drop (place + 1) before))

-- The entries that do not have to leave keep their order, the new one comes first,
-- and if they are then more than the size the last leaves.
abbrev pub pushed : ℕ → Option Entry → List Entry → List Entry
pushed size None before = before
pushed size (Some new) before = take size (new ∷ filter (stays new) before)
