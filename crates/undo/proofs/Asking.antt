-- The answer of the undo store is one that a database gives.
use Rattle.std.proofs.Common.{◌≡◌, ℕ, ◌≤◌, true, false, cond, ltb, leb, List, [], ◌∷◌, ◌++◌, Some, sym, refl, ap, ◌∙◌, subst, ⊎_elim, arith}
use Rattle.std.proofs.lemmas.Bool.{cases_Bool, cond-true, cond-false, leb-true, le-leb, ltb-false, and_parts, or_cases, eqb-true, not-true}
use Rattle.terms.specs.declared.record.Query.{Query}
use Rattle.terms.specs.Records.{query_tag}
use Rattle.database.specs.declared.Answer.{Answer}
use Rattle.std.specs.List.{list_all}
use Rattle.database.specs.Lists.{among}
use Rattle.database.specs.States.{Reads}
use Rattle.database.specs.Rows.{holding, matches, read_matched, read_rows}
use Rattle.validity.specs.Turns.{between}
use Rattle.database.specs.Databases.{held, Answers}
use Rattle.database.proofs.Rows.{reads_rows}
use Rattle.database.proofs.Readings.{reads_alike}
use Rattle.database.proofs.Sets.{every_among}
use Rattle.validity.proofs.Turns.{Alike, between_inside, between_alike, between_known}
use Rattle.validity.proofs.Showing.{Beside, turns_cons, matched_alike, turns_past}
use Rattle.undo.specs.declared.entry.Entry.{Entry}
use Rattle.validity.specs.declared.version.Version.{Version}
use Rattle.undo.specs.Journals.{state_at}
use Rattle.validity.specs.Versions.{replacements, turns_by, turns_among, rows_at}
use Rattle.undo.specs.Versions.{versions, is_told, is_above, turns_of, rightly}
use Rattle.validity.specs.Scans.{found, scan_answer}
use Rattle.undo.specs.Stores.{Store, meaning, validity, Good}
use Rattle.undo.specs.Soundness.{held_floor, rows_hold, rows_unique}

pub held_past : (s : Store) (m : ℕ) → Good s → held (meaning s) m ≡ true → m ≤ s.latest
held_past s m good h =
    ⊎_elim (λ e. let is = eqb-true m s.latest e in omega arith) (λ a. leb-true m s.latest (every_among (λ pin. leb pin s.latest) s.pins m good.past a)) (or_cases _ _ h)

pub reads_at : (s : Store) (m : ℕ) (q : Query) → Good s → s.floor ≤ m → Reads (state_at s.present s.entries m) q (read_rows q (rows_at m (versions s.present s.entries)))
reads_at s m q good h =
    let rows = rows_at m (versions s.present s.entries) in
    reads_alike q (holding rows) (state_at s.present s.entries m) (read_rows q rows) (λ t k touch. rows_hold s m good h t k) (reads_rows q rows (rows_unique s m good h))

-- where made moments above the floor are those told, they give the same turns
counts_same : (floor : ℕ) (es : List Entry) (v : Version) → rightly floor es v ≡ true → is_told es v ≡ is_above floor v
counts_same floor es v r =
    ⊎_elim
    (λ (a : ltb floor v.made ≡ true). sym (cond-true (ltb floor v.made) _ _ a) ∙ r ∙ sym a)
    (λ (a : ltb floor v.made ≡ false). not-true _ (sym (cond-false (ltb floor v.made) _ _ a) ∙ r) ∙ sym a)
    (cases_Bool (ltb floor v.made))

pub turns_same : (floor : ℕ) (es : List Entry) (q : Query) (vs : List Version) → list_all (rightly floor es) vs ≡ true → turns_among (is_told es) q vs ≡ turns_among (is_above floor) q vs
turns_same floor es q [] h = refl
turns_same floor es q (v ∷ vs) h =
    let parts = and_parts _ _ h in
    let ih = turns_same floor es q vs parts.1 in
    let one : turns_by (is_told es) v ≡ turns_by (is_above floor) v = ap (λ b. cond b (v.made ∷ []) [] ++ replacements v.replaced) (counts_same floor es v parts.0) in
    turns_cons (is_told es) q v vs
    ∙ ap (λ xs. cond (matches q v.row) (xs ++ turns_among (is_told es) q vs) (turns_among (is_told es) q vs)) one
    ∙ ap (λ xs. cond (matches q v.row) (turns_by (is_above floor) v ++ xs) xs) ih
    ∙ sym (turns_cons (is_above floor) q v vs)

-- a made moment that does not count is at most the floor
below : (floor m n : ℕ) → floor ≤ m → floor ≤ n → Beside (is_above floor) m n
below floor m n a b v e = let c = ltb-false floor v.made e in le-leb v.made m (omega arith) ∙ sym (le-leb v.made n (omega arith))

-- the answer of an ask at a held moment
abbrev pub answer_at : Store → ℕ → Query → Answer
answer_at s m q = record { reading = read_rows q (rows_at m (versions s.present s.entries)); tag = query_tag q; interval = validity s m q }

pub answers : (s : Store) (m : ℕ) (q : Query) → Good s → held (meaning s) m ≡ true → Answers (meaning s) m q (answer_at s m q)
answers s m q good h =
    let vs = versions s.present s.entries in
    let ns = turns_of q s.present s.entries in
    let floor = s.floor in
    let told = turns_same floor s.entries q vs good.told in
    record {
      here = reads_at s m q good (held_floor s m good h);
      bears = refl;
      inside = between_inside s.latest m ns (held_past s m good h);
      same = λ n k i.
          let side : Alike m n (turns_among (is_above floor) q vs) = λ t w. between_alike s.latest m n ns i t (ap (among t) told ∙ w) in
          let P = Reads (state_at s.present s.entries n) q in
          subst P (ap (read_matched q) (sym (matched_alike (is_above floor) q m n vs (below floor m n (held_floor s m good h) (held_floor s n good k)) side))) (reads_at s n q good (held_floor s n good k));
      known = between_known (meaning s) m ns (turns_past (is_told s.entries) q s.latest vs good.dates);
    }

-- and it is what the pass finds
pub answer_found : (s : Store) (m : ℕ) (q : Query) → Good s → scan_answer s.latest (found (Some s.floor) m q (versions s.present s.entries)) ≡ answer_at s m q
answer_found s m q good =
    let vs = versions s.present s.entries in
    let A : List ℕ → Answer = λ ns. record { reading = read_rows q (rows_at m vs); tag = query_tag q; interval = between s.latest m ns } in
    ap A (sym (turns_same s.floor s.entries q vs good.told))
