use Rattle.std.proofs.Common.{map, vec_items, ap, ◌∙◌, arith}
use Rattle.line.proofs.Rings.{length_waiting_le}
use Rattle.validity.specs.Scans.{scanned_all}
use Rattle.undo.specs.Versions.{current}
use Rattle.undo.proofs.Passes.{pass_over}
use Rattle.undo.proofs.ledger.Ledger.scan.Goals as goal

pub returns : goal.returns
returns c =
    let l = c.args.self.now in
    let few = length_waiting_le l.line l.journal.now in
    let rows = c.scan_present-scan.ensures ∙ ap (λ ps. scanned_all (map current ps) c.new.result) c.deref.ensures.value ∙ ap (scanned_all (map current (vec_items l.present))) c.new.ensures in
    pass_over c.args.floor c.args.moment c.args.query (vec_items l.present) c.as_slices.result.0.now c.as_slices.result.1.now _ _ _ _ c.as_slices.ensures (omega (arith, c.requires, l.present.ok.0, few)) rows c.scan_entries.ensures c.scan_entries-2.ensures
