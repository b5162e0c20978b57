use Rattle.std.proofs.Common.{◌≡◌, [], take, drop}
use Rattle.database.specs.Writes.{wrong_change}
use Rattle.database.proofs.writes.check_each.Given as goal

abbrev pub invariant-loop-index : goal.invariant-loop-index
invariant-loop-index l = wrong_change (take l.index l.changes) (drop l.index l.changes) ≡ wrong_change [] l.changes
