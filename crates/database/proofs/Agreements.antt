-- Two readings of one query agree where the states do.
use Rattle.std.proofs.Common.{◌≡◌, ℕ, Bool, Decides, sym, ◌∙◌}
use Rattle.terms.specs.declared.record.Query.{Query}
use Rattle.database.specs.declared.Answer.{Answer}
use Rattle.database.specs.Databases.{Db, Answers}
use Rattle.database.specs.Agreements.{Compared}
use Rattle.database.proofs.Readings.{reads_alike, reads_one}

pub compared : (a b : Db) (m : ℕ) (q : Query) (x y : Answer) (same : Bool) → Answers a m q x → Answers b m q y → Decides same (x.reading ≡ y.reading) → Compared a b m q same
compared a b m q x y same ax by d = record {
  tells = λ x2 y2 ax2 by2.
      let one : x2.reading ≡ x.reading = reads_one q (a.at m) x2.reading x.reading ax2.here ax.here in
      let other : y2.reading ≡ y.reading = reads_one q (b.at m) y2.reading y.reading by2.here by.here in
      (λ e. one ∙ d.0 e ∙ sym other, λ e. d.1 (sym one ∙ e ∙ other));
  agree = λ records. d.1 (reads_one q (b.at m) x.reading y.reading (reads_alike q (a.at m) (b.at m) x.reading (λ t k touch. records t k) ax.here) by.here);
}
