use Rattle.std.proofs.Common.{◌≡◌, ◌≤◌, length, take, filter}
use Rattle.versions.specs.Versions.{needed}
use Rattle.versions.proofs.walks.count_needed.Given as goal

-- as many as are needed of those that have been seen
abbrev pub invariant-loop-version : goal.invariant-loop-version
invariant-loop-version l =
    (l.needed ≡ length (filter (needed l.snapshots.latest l.snapshots.pins.moments.items) (take l.version-index l.versions)))
    × (l.needed ≤ l.version-index)
