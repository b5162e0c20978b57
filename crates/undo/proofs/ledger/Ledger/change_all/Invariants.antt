use Rattle.std.proofs.Common.{◌≡◌, drop, vec_items}
use Rattle.line.specs.Rings.{waiting}
use Rattle.undo.specs.Journals.{present_after_all, entries_after_all}
use Rattle.undo.specs.Ledgers.{Grown}
use Rattle.undo.proofs.ledger.Ledger.change_all.Given as goal

abbrev pub invariant-loop-change : goal.invariant-loop-change
invariant-loop-change l =
    (entries_after_all l.moment (drop l.change-index l.changes) (vec_items l.self.present) (waiting l.self.line l.self.journal.now)
    ≡ entries_after_all l.moment l.changes (vec_items l.initial.self.present) (waiting l.initial.self.line l.initial.self.journal.now))
    × (present_after_all l.moment (drop l.change-index l.changes) (vec_items l.self.present) ≡ present_after_all l.moment l.changes (vec_items l.initial.self.present))
    × Grown l.change-index l.initial.self l.self
