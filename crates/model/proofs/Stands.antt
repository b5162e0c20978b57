-- The law stands after every list of calls.
use Rattle.std.proofs.Common.{refl, ◌∙◌, inl, inr, ⊎_elim}
use Rattle.std.proofs.lemmas.Bool.{cases_Bool}
use Rattle.model.specs.Law.{LawStands}
use Rattle.model.proofs.Lives.{carried}
use Rattle.model.proofs.Questions.{answered}

pub law_stands : LawStands
law_stands rules o trace hall lives =
    let all = carried rules o trace hall lives in
    let core = all.0 in
    record {
      answers = λ tx a question reading told m b. (core.txs tx a).right _ (answered rules o trace hall lives tx.number question reading told) refl m b;
      readings = λ tx a given g is m b. (core.txs tx a).right given g is m b;
      sets = λ tx a. ⊎_elim inl (λ shut. inr ((core.txs tx a).some shut)) (cases_Bool tx.present);
      pinned = λ tx a m b. core.same m ∙ (core.txs tx a).pinned m ((core.txs tx a).holds m b);
      counted = all.1.counted;
      exactly = all.1.exactly;
      uses = core.uses;
    }
