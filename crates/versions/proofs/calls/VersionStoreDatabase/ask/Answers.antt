use Rattle.std.proofs.Common.{◌≡◌, true, sym, subst, rules}
use Rattle.database.specs.Databases.{Answers, held}
use Rattle.database.specs.declared.Answer.{Answer}
use Rattle.versions.specs.Stores.{store_of, meaning, answer_at}
use Rattle.versions.specs.Soundness.{good}
use Rattle.versions.proofs.Asking.{answers}
use Rattle.versions.proofs.calls.VersionStoreDatabase.ask.Goals as goal

pub returns : goal.returns
returns c =
    let s = c.args.self.now in
    let is : c.answer.result ≡ answer_at (store_of s) c.args.moment c.args.query = search rules in
    let kept : held (meaning (store_of s)) c.args.moment ≡ true = search rules in
    let P : Answer → Type 0 = λ a. Answers (meaning (store_of s)) c.args.moment c.args.query a in
    record { means = (kept, subst P (sym is) (answers (store_of s) c.args.moment c.args.query (good s) kept)); exact = is }
