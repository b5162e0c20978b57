-- A reading rests on the records that its query's tag touches, and is one.
use Rattle.std.proofs.Common.{◌≡◌, ℕ, cond, None, Option, sym, ap, ◌∙◌, arith}
use Rattle.std.proofs.lemmas.Bool.Decides.{nat_tests}
use Rattle.terms.specs.declared.record.Value.{Value}
use Rattle.terms.specs.declared.record.Query.{Query}
use Rattle.terms.specs.declared.record.Query.TheVariants.{Get, Tally}
use Rattle.terms.specs.Records.{known_table, shown, query_tag}
use Rattle.database.specs.States.{Records, seen, in_state, ReadsAlike, ReadsOne}
use Rattle.database.proofs.Sets.{same_tally}

seen_alike : (one other : Records) (table key : ℕ) → one table key ≡ other table key → seen one table key ≡ seen other table key
seen_alike one other table key e = ap (λ (v : Option Value). cond (known_table table) v None) e

pub reads_alike : (query : Query) → ReadsAlike query (query_tag query)
reads_alike (Get id) one other reading agree reads =
    reads ∙ ap shown (seen_alike one other id.table id.key (agree id.table id.key (grind (arith, nat_tests))))
reads_alike (Tally table state) one other reading agree (keys, told, is) =
    (keys, record { once = told.once; these = λ key. told.these key ∙ ap (in_state state) (seen_alike one other table key (agree table key (grind (arith, nat_tests)))) }, is)

pub reads_one : (query : Query) → ReadsOne query
reads_one (Get id) records one other a b = a ∙ sym b
reads_one (Tally table state) records one other (ks, told, is) (js, tells-too, is-too) =
    is ∙ same_tally ks js told.once tells-too.once (λ key. told.these key ∙ sym (tells-too.these key)) ∙ sym is-too
