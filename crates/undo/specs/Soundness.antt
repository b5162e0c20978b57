-- Every undo store is a database: the law that its impl has to prove.
use Rattle.database.proofs.Rows.{few_keys, keys_in}
use Rattle.database.proofs.Sets.{every_among}
use Rattle.database.specs.Databases.{Sound, held}
use Rattle.database.specs.Rows.{holding, present, unique}
use Rattle.database.specs.States.{KeysIn, Records, in_state, seen}
use Rattle.line.proofs.Rings.{length_waiting_le}
use Rattle.std.proofs.Common.{ℕ, ⊎_elim, List, None, Option, Some, [], ap, arith, cond, eqb, false, leb, length, map, refl, sym, true, ◌&&◌, ◌+◌, ◌∙◌, ◌∷◌, ◌≡◌, ◌≤◌}
use Rattle.std.proofs.lemmas.Bool.{and_from, cases_Bool, cond-true, eq-eqb, le-leb, leb-true}
use Rattle.std.proofs.lemmas.Bool.Decides.{nat_tests as telling}
use Rattle.std.proofs.lemmas.List.{length-append, length-map}
use Rattle.std.specs.List.{flat_map}
use Rattle.terms.specs.Records.{is_id, known_table}
use Rattle.terms.specs.declared.record.RecordId.{RecordId}
use Rattle.terms.specs.declared.record.Row.{Row}
use Rattle.terms.specs.declared.record.Value.{Value}
use Rattle.undo.specs.Journals.{state_at}
use Rattle.undo.specs.Stores.{Good, Store, meaning, store_of}
use Rattle.validity.specs.Versions.{rows_at}
use Rattle.validity.proofs.Passes.{few_rows}
use Rattle.undo.specs.Versions.{current, former, is_only, is_shown, replaced_by, values_in, versions}
use Rattle.undo.specs.declared.entry.Entry.{Entry}
use Rattle.undo.specs.declared.entry.Held.{Held}
use Rattle.undo.specs.declared.entry.Present.{Present}
use Rattle.undo.specs.declared.store.UndoStore.{UndoStore}

-- one value, or none
abbrev pub only : Option Value → List Value
only None = []
only (Some value) = value ∷ []

same_value : (v w : Value) → (eqb v.state w.state && eqb v.word w.word) ≡ true → v ≡ w
same_value v w e =
    let s : v.state ≡ w.state = grind (arith, telling) in
    let t : v.word ≡ w.word = grind (arith, telling) in
    let made : ℕ → ℕ → Value = λ state word. record { state = state; word = word } in
    ap (λ n. made n v.word) s ∙ ap (made w.state) t

pub only_from : (xs : List Value) (o : Option Value) → is_only xs o ≡ true → xs ≡ only o
only_from [] None e = refl
only_from [] (Some w) e = grind arith
only_from (x ∷ xs) None e = grind arith
only_from (x ∷ []) (Some w) e = ap (λ v. v ∷ []) (same_value x w e)
only_from (x ∷ (y ∷ xs)) (Some w) e = grind arith

pub only_few : (o : Option Value) → length (only o) ≤ 1
only_few None = omega arith
only_few (Some w) = omega arith

-- what is shown, as an equation, and back
pub shown_from : (floor m t k : ℕ) (ps : List Present) (es : List Entry) → is_shown floor ps es m t k ≡ true → floor ≤ m → values_in (rows_at m (versions ps es)) t k ≡ only (state_at ps es m t k)
shown_from floor m t k ps es s h = only_from _ _ (sym (cond-true (leb floor m) _ _ (le-leb floor m h)) ∙ s)

-- one more entry
former_few : (id : RecordId) (commit : ℕ) (held : Option Held) → length (former id commit held) ≤ 1
former_few id commit None = omega arith
former_few id commit (Some held) = omega arith

pub joined_few : (es : List Entry) → length (flat_map replaced_by es) ≤ length es
joined_few [] = omega arith
joined_few (e ∷ es) =
    let ih = joined_few es in
    let f = former_few e.id e.commit e.former in
    let l = length-append (replaced_by e) (flat_map replaced_by es) in
    omega arith

-- rows of which each record has at most one hold its value

first : List Value → Option Value
first [] = None
first (v ∷ vs) = Some v

holding_first : (rows : List Row) (t k : ℕ) → holding rows t k ≡ first (values_in rows t k)
unfolding first
holding_first [] t k = refl
holding_first (row ∷ rows) t k =
    let ih = holding_first rows t k in
    ⊎_elim (λ e. rw e refl) (λ e. rw e ih) (cases_Bool (is_id row.id (record { table = t; key = k })))

first_only : (o : Option Value) → first (only o) ≡ o
unfolding first
first_only None = refl
first_only (Some v) = refl

pub holding_only : (rows : List Row) (t k : ℕ) (o : Option Value) → values_in rows t k ≡ only o → holding rows t k ≡ o
holding_only rows t k o e = holding_first rows t k ∙ ap first e ∙ first_only o

present_values : (id : RecordId) (rows : List Row) → present id rows ≡ true → 1 ≤ length (values_in rows id.table id.key)
present_values id [] e = grind arith
present_values id (row ∷ rows) e =
    let ih = present_values id rows in
    let s : is_id row.id id ≡ is_id id row.id = grind (arith, telling) in
    ⊎_elim
    (λ (b : is_id row.id id ≡ true). rw b (omega arith))
    (λ (b : is_id row.id id ≡ false). rw b (ih (grind arith)))
    (cases_Bool (is_id row.id id))

values_cons : (row : Row) (rows : List Row) (t k : ℕ) → length (values_in rows t k) ≤ length (values_in (row ∷ rows) t k)
values_cons row rows t k =
    ⊎_elim (λ e. rw e (omega arith)) (λ e. rw e (omega arith)) (cases_Bool (is_id row.id (record { table = t; key = k })))

pub unique_only : (rows : List Row) → ((t k : ℕ) → length (values_in rows t k) ≤ 1) → unique rows ≡ true
unique_only [] h = refl
unique_only (row ∷ rows) h =
    let ih = unique_only rows (λ t k. let a = values_cons row rows t k in let b = h t k in omega arith) in
    let id = row.id in
    let self : is_id id id ≡ true = and_from _ _ (eq-eqb id.table id.table refl) (eq-eqb id.key id.key refl) in
    let two : length (values_in (row ∷ rows) id.table id.key) ≡ 1 + length (values_in rows id.table id.key) = rw self (omega arith) in
    ⊎_elim
    (λ (e : present id rows ≡ true). let a = present_values id rows e in let b = h id.table id.key in absurd (omega arith))
    (λ (e : present id rows ≡ false). rw e ih)
    (cases_Bool (present id rows))

-- the records at a moment from the floor on, as the versions tell them

pub held_floor : (s : Store) (m : ℕ) → Good s → held (meaning s) m ≡ true → s.floor ≤ m
held_floor s m good h = leb-true s.floor m (every_among (λ n. leb s.floor n) (s.latest ∷ s.pins) m good.kept h)

pub rows_hold : (s : Store) (m : ℕ) → Good s → s.floor ≤ m → (t k : ℕ) → holding (rows_at m (versions s.present s.entries)) t k ≡ state_at s.present s.entries m t k
rows_hold s m good h t k = holding_only _ t k _ (shown_from s.floor m t k s.present s.entries (good.apart m t k) h)

pub rows_unique : (s : Store) (m : ℕ) → Good s → s.floor ≤ m → unique (rows_at m (versions s.present s.entries)) ≡ true
rows_unique s m good h =
    unique_only (rows_at m (versions s.present s.entries)) (λ t k. let l = only_few (state_at s.present s.entries m t k) in let e = ap length (shown_from s.floor m t k s.present s.entries (good.apart m t k) h) in omega arith)

-- what a store's type says of it
pub good : (s : UndoStore) → Good (store_of s)
good s =
    let l = s.ledger.line in
    record {
      size = s.size;
      rows = omega (arith, s.rows, s.ledger.present.ok.0);
      places = omega (arith, length_waiting_le l s.ledger.journal.now, l.few);
      moment = s.snapshots.moment;
      few = omega (arith, s.snapshots.pins.few, s.snapshots.pins.moments.ok.0);
      once = s.snapshots.pins.once;
      past = s.snapshots.past;
      kept = s.kept;
      single = s.single;
      ascends = s.ascends;
      commits = s.commits;
      dates = s.dates;
      told = s.told;
      apart = s.apart;
    }

few_versions : (s : Store) → Good s → length (versions s.present s.entries) ≤ 8192
few_versions s good =
    let a = length-append (map current s.present) (flat_map replaced_by s.entries) in
    let b = length-map s.present current in
    let c = joined_few s.entries in
    omega (arith, good.size, good.rows, good.places)

seen_same : (one other : Records) (t k : ℕ) → one t k ≡ other t k → seen one t k ≡ seen other t k
seen_same one other t k e = ap (λ (v : Option Value). cond (known_table t) v None) e

-- every store is a database
pub sound : (s : Store) → Good s → Sound (meaning s)
sound s good = record {
  moments = good.moment;
  few = good.few;
  once = good.once;
  past = λ m a. leb-true m s.latest (every_among (λ pin. leb pin s.latest) s.pins m good.past a);
  listed = λ m t st h.
      let from = held_floor s m good h in
      let rows = rows_at m (versions s.present s.entries) in
      let own = keys_in t st rows (rows_unique s m good from) in
      (_, record { once = own.once; these = λ key. own.these key ∙ ap (λ v. in_state st v) (seen_same (holding rows) (state_at s.present s.entries m) t key (rows_hold s m good from t key)) });
  counted = λ m t st keys h told.
      let from = held_floor s m good h in
      let vs = versions s.present s.entries in
      let rows = rows_at m vs in
      let in_rows : KeysIn (holding rows) t st keys = record { once = told.once; these = λ key. told.these key ∙ ap (λ v. in_state st v) (seen_same (state_at s.present s.entries m) (holding rows) t key (sym (rows_hold s m good from t key))) } in
      let few = few_keys t st rows keys (rows_unique s m good from) in_rows in
      let a = few_rows m vs in
      let b = few_versions s good in
      omega arith;
}
