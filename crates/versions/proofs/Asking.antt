-- The answer of the version store is one that a database gives.
use Rattle.std.specs.Prelude.{◌≡◌, ℕ, ◌≤◌, true, None, nat_le, refl}
use Rattle.std.proofs.Common.{sym, ap, subst, ⊎_elim, arith}
use Rattle.std.proofs.lemmas.Bool.{both_ways, leb-true, or_cases, eqb-true}
use Rattle.terms.specs.declared.record.Query.{Query}
use Rattle.database.specs.States.{Reads}
use Rattle.database.specs.Rows.{read_matched}
use Rattle.database.specs.Databases.{held, Answers}
use Rattle.database.proofs.Rows.{reads_rows}
use Rattle.validity.specs.Versions.{rows_at}
use Rattle.validity.specs.Scans.{counts}
use Rattle.database.proofs.Sets.{every_among}
use Rattle.validity.proofs.Turns.{between_inside, between_alike, between_known}
use Rattle.validity.proofs.Showing.{matched_alike, turns_past}
use Rattle.versions.specs.Versions.{state_at, turns_of}
use Rattle.versions.specs.Stores.{Store, meaning, answer_at, Good}

pub held_past : (s : Store) (m : ℕ) → Good s → held (meaning s) m ≡ true → m ≤ s.latest
held_past s m good h =
    ⊎_elim (λ e. let is = eqb-true m s.latest e in omega arith) (λ a. leb-true m s.latest (every_among (λ pin. nat_le pin s.latest) s.pins m good.past a)) (or_cases _ _ h)

pub answers : (s : Store) (m : ℕ) (q : Query) → Good s → held (meaning s) m ≡ true → Answers (meaning s) m q (answer_at s m q)
answers s m q good h =
    let ns = turns_of q s.kept in
    record {
      here = reads_rows q (rows_at m s.kept) (good.apart m);
      bears = refl;
      inside = between_inside s.latest m ns (held_past s m good h);
      same = λ n k i.
          let P = Reads (state_at s.kept n) q in
          subst P (ap (read_matched q) (sym (matched_alike (counts None) q m n s.kept (λ v e. absurd (both_ways true e refl)) (between_alike s.latest m n ns i)))) (reads_rows q (rows_at n s.kept) (good.apart n));
      known = between_known (meaning s) m ns (turns_past (counts None) q s.latest s.kept good.dates);
    }
