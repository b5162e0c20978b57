use Rattle.std.proofs.Common.{◌≡◌, map, drop}
use Rattle.validity.specs.Scans.{scanned_all}
use Rattle.undo.specs.Versions.{current}
use Rattle.undo.proofs.scanning.scan_present.Given as goal

abbrev pub invariant-loop-p : goal.invariant-loop-p
invariant-loop-p l =
    scanned_all (map current (drop l.p-index l.present)) l.scan ≡ scanned_all (map current l.present) l.initial.scan
