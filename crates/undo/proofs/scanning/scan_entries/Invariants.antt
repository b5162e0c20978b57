use Rattle.std.proofs.Common.{◌≡◌, drop}
use Rattle.std.specs.List.{flat_map}
use Rattle.validity.specs.Scans.{scanned_all}
use Rattle.undo.specs.Versions.{replaced_by}
use Rattle.undo.proofs.scanning.scan_entries.Given as goal

abbrev pub invariant-loop-entry : goal.invariant-loop-entry
invariant-loop-entry l =
    scanned_all (flat_map replaced_by (drop l.entry-index l.entries)) l.scan ≡ scanned_all (flat_map replaced_by l.entries) l.initial.scan
