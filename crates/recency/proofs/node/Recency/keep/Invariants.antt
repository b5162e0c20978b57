use Rattle.std.proofs.Common.{◌≡◌, ◌≤◌, Bool, length}
use Rattle.std.proofs.lemmas.List.Filters.{FiltersInPlace}
use Rattle.std.specs.Fn.{FnReturnsAt}
use Rattle.cache.specs.declared.entry.Entry.{Entry}
use Rattle.recency.specs.Nodes.{places}
use Rattle.recency.specs.Places.{Computes}
use Rattle.recency.proofs.node.Recency.keep.Given as goal

abbrev pub invariant-loop-i : goal.invariant-loop-i
invariant-loop-i g l =
    (l.self.len ≡ l.initial.self.len)
    × (l.kept ≤ l.i)
    × (length (places l.self) ≡ length (places l.initial.self))
    × ((test : Entry → Bool) → Computes (FnReturnsAt g.F.Fn l.passes) test → FiltersInPlace test (places l.initial.self) (places l.self) l.kept l.i)
