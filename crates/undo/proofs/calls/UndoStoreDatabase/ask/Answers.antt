use Rattle.std.proofs.Common.{◌≡◌, true, sym, ap, ◌∙◌, subst, rules}
use Rattle.database.specs.Databases.{Answers, held}
use Rattle.database.specs.declared.Answer.{Answer}
use Rattle.validity.specs.Scans.{scan_answer}
use Rattle.undo.specs.Soundness.{good}
use Rattle.undo.specs.Stores.{store_of, meaning}
use Rattle.undo.proofs.Asking.{answer_at, answers, answer_found}
use Rattle.undo.proofs.calls.UndoStoreDatabase.ask.Goals as goal

pub returns : goal.returns
returns c =
    let s = c.args.self.now in
    let m = c.args.moment in
    let q = c.args.query in
    let is : c.answer.result ≡ answer_at (store_of s) m q =
    c.answer.ensures ∙ ap (λ latest. scan_answer latest c.scan-scan.result) c.latest.ensures ∙ ap (scan_answer s.snapshots.latest) c.scan-scan.ensures ∙ answer_found (store_of s) m q (good s) in
    let kept : held (meaning (store_of s)) m ≡ true = search rules in
    let P : Answer → Type 0 = λ a. Answers (meaning (store_of s)) m q a in
    record { means = (kept, subst P (sym is) (answers (store_of s) m q (good s) kept)); exact = ap (λ a. a.interval) is }
