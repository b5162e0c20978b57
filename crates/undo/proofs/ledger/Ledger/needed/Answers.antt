use Rattle.std.proofs.Common.{length, ap, arith, ltb, length-append}
use Rattle.database.proofs.Sets.{length_kept}
use Rattle.line.proofs.Rings.{length_waiting_le}
use Rattle.undo.specs.declared.entry.Entry.{Entry}
use Rattle.undo.proofs.ledger.Ledger.needed.Goals as goal

pub overflow_add-result : goal.overflow_add-result
overflow_add-result c =
    let l = c.args.self.now in
    let older = c.as_slices.result.0.now in
    let newer = c.as_slices.result.1.now in
    let p = λ (entry : Entry). ltb c.args.lowest entry.commit in
    let all = length_waiting_le l.line l.journal.now in
    omega (arith, length_kept p older, length_kept p newer, length-append older newer, ap length c.as_slices.ensures, all)
