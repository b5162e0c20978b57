use Rattle.std.proofs.Common.{◌≡◌, drop}
use Rattle.validity.specs.Scans.{scanned_all}
use Rattle.validity.proofs.scan.Scan.with_all.Given as goal

abbrev pub invariant-loop-version : goal.invariant-loop-version
invariant-loop-version l = scanned_all (drop l.version-index l.versions) l.scan ≡ scanned_all l.versions l.initial.scan
