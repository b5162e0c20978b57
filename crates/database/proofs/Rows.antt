-- What a query reads of a list of present records is what it reads in the state that they hold.
use Rattle.std.proofs.Common.{◌≡◌, ℕ, ◌≤◌, true, false, List, [], ◌∷◌, map, length, filter, sym, refl, ap, ◌∙◌, ⊎_elim, arith}
use Rattle.std.proofs.lemmas.Bool.Decides.{nat_tests}
use Rattle.std.proofs.lemmas.Bool.{cases_Bool}
use Rattle.std.proofs.lemmas.List.{length-map}
use Rattle.std.proofs.lemmas.List.Sums.{length-filter, count_by-le-length}
use Rattle.terms.specs.declared.record.RecordId.{RecordId}
use Rattle.terms.specs.declared.record.Row.{Row}
use Rattle.terms.specs.declared.record.Query.{Query}
use Rattle.terms.specs.declared.record.Query.TheVariants.{Get, Tally}
use Rattle.terms.specs.Records.{is_id, known_table, shown}
use Rattle.database.specs.Lists.{among, distinct}
use Rattle.database.specs.States.{seen, in_state, KeysIn, Reads}
use Rattle.database.specs.Rows.{holding, present, unique, matches, first_shown, read_rows}
use Rattle.database.proofs.Sets.{length_below}

abbrev keys_of : ℕ → ℕ → List Row → List ℕ
keys_of table state rows = map (λ row. row.id.key) (filter (matches (Tally table state)) rows)

-- a record that no row is of has no key among those in a state
pub absent_key : (table state key : ℕ) (rows : List Row) → present (record { table = table; key = key }) rows ≡ false → among key (keys_of table state rows) ≡ false
absent_key table state key [] out = refl
absent_key table state key (row ∷ rows) out =
    let ih = absent_key table state key rows in
    ⊎_elim (λ e. rw e (grind (arith, nat_tests))) (λ e. rw e (grind (arith, nat_tests))) (cases_Bool (matches (Tally table state) row))

once : (table state : ℕ) (rows : List Row) → unique rows ≡ true → distinct (keys_of table state rows) ≡ true
once table state [] u = refl
once table state (row ∷ rows) u =
    let ih = once table state rows in
    let a = absent_key row.id.table state row.id.key rows in
    ⊎_elim (λ e. rw e (grind (arith, nat_tests))) (λ e. rw e (grind (arith, nat_tests))) (cases_Bool (matches (Tally table state) row))

-- the same table and key are the same record
pub same_id : (one other : RecordId) → is_id one other ≡ true → one ≡ other
same_id one other e =
    let t : one.table ≡ other.table = grind (arith, nat_tests) in
    let k : one.key ≡ other.key = grind (arith, nat_tests) in
    let made : ℕ → ℕ → RecordId = λ table key. record { table = table; key = key } in
    ap (λ n. made n one.key) t ∙ ap (made other.table) k

absent_same : (table state key : ℕ) (id : RecordId) (rows : List Row) → is_id id (record { table = table; key = key }) ≡ true → present id rows ≡ false → among key (keys_of table state rows) ≡ false
absent_same table state key id rows e out =
    absent_key table state key rows (sym (ap (λ i. present i rows) (same_id id (record { table = table; key = key }) e)) ∙ out)

these : (table state : ℕ) (rows : List Row) → unique rows ≡ true → (key : ℕ) → among key (keys_of table state rows) ≡ in_state state (seen (holding rows) table key)
these table state [] u key = ⊎_elim (λ e. rw e refl) (λ e. rw e refl) (cases_Bool (known_table table))
these table state (row ∷ rows) u key =
    let ih = these table state rows in
    let a = absent_same table state key row.id rows in
    ⊎_elim
    (λ e. rw e (⊎_elim (λ f. rw f (grind (arith, nat_tests))) (λ f. rw f (grind (arith, nat_tests))) (cases_Bool (is_id row.id (record { table = table; key = key })))))
    (λ e. rw e (⊎_elim (λ f. rw f (grind (arith, nat_tests))) (λ f. rw f (grind (arith, nat_tests))) (cases_Bool (is_id row.id (record { table = table; key = key })))))
    (cases_Bool (matches (Tally table state) row))

-- the keys of the matching rows are those of the records in the state
pub keys_in : (table state : ℕ) (rows : List Row) → unique rows ≡ true → KeysIn (holding rows) table state (keys_of table state rows)
keys_in table state rows u = record { once = once table state rows u; these = these table state rows u }

got : (id : RecordId) (rows : List Row) → first_shown (filter (matches (Get id)) rows) ≡ shown (seen (holding rows) id.table id.key)
got id [] = ⊎_elim (λ e. rw e refl) (λ e. rw e refl) (cases_Bool (known_table id.table))
got id (row ∷ rows) =
    let ih = got id rows in
    let e : is_id id row.id ≡ is_id row.id id = grind (arith, nat_tests) in
    rw e (⊎_elim (λ f. rw f (⊎_elim (λ k. rw k refl) (λ k. rw k (rw k at ih)) (cases_Bool (known_table id.table))))
    (λ f. rw f (⊎_elim (λ k. rw k (rw k at ih)) (λ k. rw k (rw k at ih)) (cases_Bool (known_table id.table)))) (cases_Bool (is_id row.id id)))

pub reads_rows : (query : Query) (rows : List Row) → unique rows ≡ true → Reads (holding rows) query (read_rows query rows)
reads_rows (Get id) rows u = got id rows
reads_rows (Tally table state) rows u = (keys_of table state rows, keys_in table state rows u, refl)

-- as many keys as there are rows at the most
pub few_keys : (table state : ℕ) (rows : List Row) (keys : List ℕ) → unique rows ≡ true → KeysIn (holding rows) table state keys → length keys ≤ length rows
few_keys table state rows keys u told =
    let own = keys_in table state rows u in
    let p = matches (Tally table state) in
    let below = length_below keys (keys_of table state rows) told.once own.once (λ k a. own.these k ∙ sym (told.these k) ∙ a) in
    let m = length-map (filter p rows) (λ row. row.id.key) in
    let k = length-filter p rows in
    let c = count_by-le-length p rows in
    omega arith
