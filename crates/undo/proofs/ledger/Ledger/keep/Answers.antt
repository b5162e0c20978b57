use Rattle.std.proofs.Common.{◌≡◌, ◌-◌, drop, ap, ◌∙◌, arith}
use Rattle.line.specs.Rings.{waiting}
use Rattle.line.proofs.Rings.{waiting_skipped}
use Rattle.undo.proofs.ledger.Ledger.keep.Goals as goal

pub returns-clause-entries : goal.returns-clause-entries
returns-clause-entries c =
    let l = c.args.self.now in
    let n : c.saturating_sub.result ≡ l.line.len - c.args.newest = omega arith in
    waiting_skipped l.line c.skip.new.self l.journal.now _ c.skip.ensures ∙ ap (λ k. drop k (waiting l.line l.journal.now)) n
