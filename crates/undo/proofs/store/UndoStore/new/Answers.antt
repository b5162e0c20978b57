use Rattle.std.proofs.Common.{length, Some, vec_items, arith, rules}
use Rattle.std.proofs.lemmas.Bool.{leb-true}
use Rattle.line.specs.Rings.{Made}
use Rattle.undo.proofs.Meanings.{made_empty, made_lasting}
use Rattle.undo.proofs.store.UndoStore.new.Goals as goal

pub invariant_of-result-2 : goal.invariant_of-result-2
invariant_of-result-2 c =
    let line : Made (length c.args.journal.now) (Some c.in_ok-line.line) = rw c.in_ok-line.ensures.ok_part at c.new.ensures in
    let room = c.in_ok-present.ensures in
    let at = c.in_ok-snapshots.ensures in
    let to = made_empty c.in_ok-line.line c.args.journal.now (vec_items c.in_ok-present.present) _ c.args.first (length c.args.journal.now) _ line room.items at.1 at.2 in
    let w = made_lasting _ (length c.args.journal.now) c.args.first to in
    record {
      size = omega (arith, line.0, leb-true (length c.args.journal.now) 4096 (search rules));
      rows = omega (arith, room.len);
      kept = w.kept;
      single = w.single;
      ascends = w.ascends;
      commits = w.commits;
      dates = w.dates;
      told = w.told;
      apart = w.apart;
    }

pub returns : goal.returns
returns c =
    let line : Made (length c.args.journal.now) (Some c.in_ok-line.line) = rw c.in_ok-line.ensures.ok_part at c.new.ensures in
    let room = c.in_ok-present.ensures in
    let at = c.in_ok-snapshots.ensures in
    let to = made_empty c.in_ok-line.line c.args.journal.now (vec_items c.in_ok-present.present) _ c.args.first (length c.args.journal.now) _ line room.items at.1 at.2 in
    (search rules, to)
