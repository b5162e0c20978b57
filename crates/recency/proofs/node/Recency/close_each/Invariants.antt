use Rattle.std.proofs.Common.{◌≡◌, ◌++◌, map, length, take, drop}
use Rattle.cache.specs.Entries.{closed}
use Rattle.recency.specs.Nodes.{places}
use Rattle.recency.proofs.node.Recency.close_each.Given as goal

abbrev pub invariant-loop-place : goal.invariant-loop-place
invariant-loop-place l =
    (l.self.len ≡ l.initial.self.len)
    × (length (places l.self) ≡ length (places l.initial.self))
    × (places l.self ≡ map (closed l.tag l.moment) (take l.place (places l.initial.self)) ++ drop l.place (places l.initial.self))
