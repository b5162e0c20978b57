use Rattle.std.proofs.Common.{◌≡◌, ◌++◌, map, take, drop}
use Rattle.versions.specs.Versions.{retired}
use Rattle.versions.proofs.walks.change_one.Given as goal

abbrev pub invariant-loop-version : goal.invariant-loop-version
invariant-loop-version l =
    l.version-items ≡ map (retired l.moment l.changed) (take l.version-index l.initial.version-items) ++ drop l.version-index l.initial.version-items
