-- Undoing what changes have left in the journal gives back the records before them.
use Rattle.std.proofs.Common.{◌≡◌, ℕ, suc, ◌+◌, ◌-◌, ◌<◌, ◌≤◌, Bool, true, false, cond, ltb, leb, List, [], ◌∷◌, ◌++◌, length, drop, Some, None, Option, sym, refl, ap, ◌∙◌, ⊎_elim, arith}
use Rattle.std.proofs.lemmas.List.Folds.{list_all-append}
use Rattle.std.proofs.lemmas.Bool.Decides.{nat_tests}
use Rattle.std.proofs.lemmas.Bool.{cases_Bool, cond-true, cond-false, leb-true, le-leb, ltb-true, ltb-false, lt-ltb, le-ltb, and_from, and_parts}
use Rattle.std.proofs.lemmas.List.{append-nil}
use Rattle.std.proofs.lemmas.List.Elements.{filter-append}
use Rattle.std.proofs.lemmas.List.Sums.{length-filter, count_by-le-length}
use Rattle.terms.specs.declared.record.RecordId.{RecordId}
use Rattle.terms.specs.declared.record.Value.{Value}
use Rattle.terms.specs.declared.record.Change.{Change}
use Rattle.terms.specs.declared.record.Change.TheVariants.{Set, Delete}
use Rattle.terms.specs.Records.{is_id, change_id, change_value}
use Rattle.std.specs.List.{list_all}
use Rattle.database.specs.States.{Records}
use Rattle.database.specs.Rows.{holding}
use Rattle.database.specs.Writes.{put, changed}
use Rattle.database.proofs.Rows.{same_id}
use Rattle.undo.specs.declared.entry.Held.{Held}
use Rattle.undo.specs.declared.entry.Present.{Present}
use Rattle.undo.specs.declared.entry.Entry.{Entry}
use Rattle.undo.specs.Journals.{former_value, undo, undone, later, rows_of, state_at, held_of, other_than, present_after, leaves, entries_by, present_after_all, entries_after_all, ascending}

-- entries that are not later, and entries that still are

pub later_none : (m : ℕ) (es : List Entry) → list_all (λ e. leb e.commit m) es ≡ true → later m es ≡ []
later_none m [] h = refl
later_none m (e ∷ es) h =
    let parts = and_parts _ _ h in
    let f = le-ltb m e.commit (leb-true e.commit m parts.0) in
    rw f (later_none m es parts.1)

pub later_later : (low m : ℕ) (es : List Entry) → low ≤ m → later m (later low es) ≡ later m es
later_later low m [] h = refl
later_later low m (e ∷ es) h =
    let ih = later_later low m es h in
    ⊎_elim
    (λ (a : ltb low e.commit ≡ true). rw a (⊎_elim (λ (b : ltb m e.commit ≡ true). rw b (ap (λ xs. e ∷ xs) ih)) (λ (b : ltb m e.commit ≡ false). rw b ih) (cases_Bool (ltb m e.commit))))
    (λ (a : ltb low e.commit ≡ false). let c = ltb-false low e.commit a in let b = le-ltb m e.commit (omega arith) in rw a (rw b ih))
    (cases_Bool (ltb low e.commit))

-- undoing, record by record

undone_append : (es fs : List Entry) (r : Records) (t k : ℕ) → undone (es ++ fs) r t k ≡ undone es (undone fs r) t k
undone_append [] fs r t k = refl
undone_append (e ∷ es) fs r t k = ap (λ (v : Option Value). cond (is_id e.id (record { table = t; key = k })) (former_value e.former) v) (undone_append es fs r t k)

undone_same : (es : List Entry) (r s : Records) → ((t k : ℕ) → r t k ≡ s t k) → (t k : ℕ) → undone es r t k ≡ undone es s t k
undone_same [] r s h t k = h t k
undone_same (e ∷ es) r s h t k = ap (λ (v : Option Value). cond (is_id e.id (record { table = t; key = k })) (former_value e.former) v) (undone_same es r s h t k)

undone_one : (b : Bool) (e : Entry) (r : Records) (t k : ℕ) → undone (cond b (e ∷ []) []) r t k ≡ cond b (undo e r t k) (r t k)
undone_one true e r t k = refl
undone_one false e r t k = refl

-- what is held of a record is what the present records hold
pub held_holding : (ps : List Present) (t k : ℕ) → former_value (held_of (record { table = t; key = k }) ps) ≡ holding (rows_of ps) t k
held_holding [] t k = refl
held_holding (p ∷ ps) t k =
    let ih = held_holding ps t k in
    let at : RecordId = record { table = t; key = k } in
    let s : is_id p.row.id at ≡ is_id at p.row.id = grind (arith, nat_tests) in
    ⊎_elim
    (λ (e : is_id at p.row.id ≡ true). ap former_value (cond-true _ _ _ e) ∙ sym (cond-true _ _ _ (s ∙ e)))
    (λ (e : is_id at p.row.id ≡ false). ap former_value (cond-false _ _ _ e) ∙ ih ∙ sym (cond-false _ _ _ (s ∙ e)))
    (cases_Bool (is_id at p.row.id))

-- the present records after a change
put_cons : (N : ℕ) (c : Change) (p : Present) (ps : List Present) (t k : ℕ)
    → holding (rows_of (present_after N c ps)) t k ≡ put c (holding (rows_of ps)) t k
    → holding (rows_of (present_after N c (p ∷ ps))) t k ≡ put c (holding (rows_of (p ∷ ps))) t k
put_cons N c p ps t k ih =
    let id = change_id c in
    let at : RecordId = record { table = t; key = k } in
    ⊎_elim
    (λ (e : other_than id p ≡ true). rw e (⊎_elim
    (λ (f : is_id p.row.id at ≡ true). rw f (let g : is_id id at ≡ false = grind (arith, nat_tests) in rw g refl))
    (λ (f : is_id p.row.id at ≡ false). rw f ih)
    (cases_Bool (is_id p.row.id at))))
    (λ (e : other_than id p ≡ false). rw e (⊎_elim
    (λ (f : is_id id at ≡ true). rw f (ih ∙ ap (λ b. cond b (change_value c) (holding (rows_of ps) t k)) f))
    (λ (f : is_id id at ≡ false). rw f (let g : is_id p.row.id at ≡ false = grind (arith, nat_tests) in rw g (ih ∙ ap (λ b. cond b (change_value c) (holding (rows_of ps) t k)) f)))
    (cases_Bool (is_id id at))))
    (cases_Bool (other_than id p))

pub put_present : (N : ℕ) (c : Change) (ps : List Present) (t k : ℕ) → holding (rows_of (present_after N c ps)) t k ≡ put c (holding (rows_of ps)) t k
put_present N (Set id value) [] t k = refl
put_present N (Delete id) [] t k = ⊎_elim (λ e. rw e refl) (λ e. rw e refl) (cases_Bool (is_id id (record { table = t; key = k })))
put_present N (Set id value) (p ∷ ps) t k = put_cons N (Set id value) p ps t k (put_present N (Set id value) ps t k)
put_present N (Delete id) (p ∷ ps) t k = put_cons N (Delete id) p ps t k (put_present N (Delete id) ps t k)

pub changed_same : (cs : List Change) (one other : Records) → ((t k : ℕ) → one t k ≡ other t k) → (t k : ℕ) → changed cs one t k ≡ changed cs other t k
changed_same [] one other h t k = h t k
changed_same (c ∷ cs) one other h t k =
    changed_same cs (put c one) (put c other) (λ t k. ap (λ (v : Option Value). cond (is_id (change_id c) (record { table = t; key = k })) (change_value c) v) (h t k)) t k

pub put_presents : (N : ℕ) (cs : List Change) (ps : List Present) (t k : ℕ) → holding (rows_of (present_after_all N cs ps)) t k ≡ changed cs (holding (rows_of ps)) t k
put_presents N [] ps t k = refl
put_presents N (c ∷ cs) ps t k =
    put_presents N cs (present_after N c ps) t k
    ∙ changed_same cs (holding (rows_of (present_after N c ps))) (put c (holding (rows_of ps))) (put_present N c ps) t k

-- only what an absent record stays leaves no entry
leaves_none : (c : Change) (former : Option Held) → leaves c former ≡ false → change_value c ≡ former_value former
leaves_none (Set id value) former e = grind arith
leaves_none (Delete id) None e = refl
leaves_none (Delete id) (Some held) e = grind arith

-- the entry of a change, undone, gives back the records before it
undo_change : (N : ℕ) (c : Change) (ps : List Present) (t k : ℕ) → undone (entries_by N c ps) (holding (rows_of (present_after N c ps))) t k ≡ holding (rows_of ps) t k
undo_change N c ps t k =
    let id = change_id c in
    let at : RecordId = record { table = t; key = k } in
    let former = held_of id ps in
    let e : Entry = record { commit = N; id = id; former = former } in
    let after = holding (rows_of (present_after N c ps)) in
    let b = leaves c former in
    undone_one b e after t k
    ∙ ⊎_elim
    (λ (is : is_id id at ≡ true).
    let same : id ≡ at = same_id id at is in
    let was : former_value former ≡ holding (rows_of ps) t k = ap (λ x. former_value (held_of x ps)) same ∙ held_holding ps t k in
    ⊎_elim
    (λ (l : b ≡ true). cond-true b _ _ l ∙ cond-true (is_id id at) _ _ is ∙ was)
    (λ (l : b ≡ false). cond-false b _ _ l ∙ put_present N c ps t k ∙ cond-true (is_id id at) _ _ is ∙ leaves_none c former l ∙ was)
    (cases_Bool b))
    (λ (is : is_id id at ≡ false).
    let still : after t k ≡ holding (rows_of ps) t k = put_present N c ps t k ∙ cond-false (is_id id at) _ _ is in
    ⊎_elim
    (λ (l : b ≡ true). cond-true b _ _ l ∙ cond-false (is_id id at) _ _ is ∙ still)
    (λ (l : b ≡ false). cond-false b _ _ l ∙ still)
    (cases_Bool b))
    (cases_Bool (is_id id at))

-- entries of a commit are later than each moment before it
later_one : (m : ℕ) (b : Bool) (e : Entry) → m < e.commit → later m (cond b (e ∷ []) []) ≡ cond b (e ∷ []) []
later_one m true e h = rw (lt-ltb m e.commit h) refl
later_one m false e h = refl

pub state_before : (N m : ℕ) (c : Change) (ps : List Present) (es : List Entry) (t k : ℕ) → m < N → state_at (present_after N c ps) (es ++ entries_by N c ps) m t k ≡ state_at ps es m t k
state_before N m c ps es t k h =
    let fs = entries_by N c ps in
    let after = holding (rows_of (present_after N c ps)) in
    let split : later m (es ++ fs) ≡ later m es ++ fs =
    filter-append (λ e. ltb m e.commit) es fs
    ∙ ap (λ xs. later m es ++ xs) (later_one m (leaves c (held_of (change_id c) ps)) (record { commit = N; id = change_id c; former = held_of (change_id c) ps }) h) in
    ap (λ xs. undone xs after t k) split
    ∙ undone_append (later m es) fs after t k
    ∙ undone_same (later m es) (undone fs after) (holding (rows_of ps)) (undo_change N c ps) t k

pub states_before : (N m : ℕ) (cs : List Change) (ps : List Present) (es : List Entry) (t k : ℕ) → m < N → state_at (present_after_all N cs ps) (entries_after_all N cs ps es) m t k ≡ state_at ps es m t k
states_before N m [] ps es t k h = refl
states_before N m (c ∷ cs) ps es t k h =
    states_before N m cs (present_after N c ps) (es ++ entries_by N c ps) t k h ∙ state_before N m c ps es t k h

-- at and after the last commit nothing is undone
pub state_late : (m : ℕ) (ps : List Present) (es : List Entry) (t k : ℕ) → list_all (λ e. leb e.commit m) es ≡ true → state_at ps es m t k ≡ holding (rows_of ps) t k
state_late m ps es t k h = ap (λ xs. undone xs (holding (rows_of ps)) t k) (later_none m es h)

-- the commits

every_one : (p : Entry → Bool) (b : Bool) (e : Entry) → p e ≡ true → list_all p (cond b (e ∷ []) []) ≡ true
every_one p true e h = and_from _ _ h refl
every_one p false e h = refl

commits_by : (N : ℕ) (c : Change) (ps : List Present) → list_all (λ e. leb e.commit N) (entries_by N c ps) ≡ true
commits_by N c ps = every_one (λ e. leb e.commit N) (leaves c (held_of (change_id c) ps)) (record { commit = N; id = change_id c; former = held_of (change_id c) ps }) (le-leb N N (omega arith))

pub commits_change : (N : ℕ) (c : Change) (ps : List Present) (es : List Entry) → list_all (λ e. leb e.commit N) es ≡ true → list_all (λ e. leb e.commit N) (es ++ entries_by N c ps) ≡ true
commits_change N c ps es h = list_all-append (λ e. leb e.commit N) es (entries_by N c ps) ∙ and_from _ _ h (commits_by N c ps)

pub commits_changes : (N : ℕ) (cs : List Change) (ps : List Present) (es : List Entry) → list_all (λ e. leb e.commit N) es ≡ true → list_all (λ e. leb e.commit N) (entries_after_all N cs ps es) ≡ true
commits_changes N [] ps es h = h
commits_changes N (c ∷ cs) ps es h = commits_changes N cs (present_after N c ps) (es ++ entries_by N c ps) (commits_change N c ps es h)

ascending_push : (es : List Entry) (e : Entry) → ascending es ≡ true → list_all (λ x. leb x.commit e.commit) es ≡ true → ascending (es ++ e ∷ []) ≡ true
ascending_push [] e a h = refl
ascending_push (x ∷ es) e a h =
    let pa = and_parts _ _ a in
    let ph = and_parts _ _ h in
    and_from _ _ (list_all-append (λ next. leb x.commit next.commit) es (e ∷ []) ∙ and_from _ _ pa.0 (and_from _ _ ph.0 refl)) (ascending_push es e pa.1 ph.1)

ascending_one : (b : Bool) (es : List Entry) (e : Entry) → ascending es ≡ true → list_all (λ x. leb x.commit e.commit) es ≡ true → ascending (es ++ cond b (e ∷ []) []) ≡ true
ascending_one true es e a h = ascending_push es e a h
ascending_one false es e a h = ap ascending (append-nil es) ∙ a

pub ascending_changes : (N : ℕ) (cs : List Change) (ps : List Present) (es : List Entry) → ascending es ≡ true → list_all (λ e. leb e.commit N) es ≡ true → ascending (entries_after_all N cs ps es) ≡ true
ascending_changes N [] ps es a h = a
ascending_changes N (c ∷ cs) ps es a h =
    ascending_changes N cs (present_after N c ps) (es ++ entries_by N c ps)
    (ascending_one (leaves c (held_of (change_id c) ps)) es (record { commit = N; id = change_id c; former = held_of (change_id c) ps }) a h)
    (commits_change N c ps es h)

every_later : (p : Entry → Bool) (low : ℕ) (es : List Entry) → list_all p es ≡ true → list_all p (later low es) ≡ true
every_later p low [] h = refl
every_later p low (e ∷ es) h =
    let parts = and_parts _ _ h in
    let ih = every_later p low es parts.1 in
    ⊎_elim (λ (a : ltb low e.commit ≡ true). rw a (and_from _ _ parts.0 ih)) (λ (a : ltb low e.commit ≡ false). rw a ih) (cases_Bool (ltb low e.commit))

pub commits_later : (l low : ℕ) (es : List Entry) → list_all (λ e. leb e.commit l) es ≡ true → list_all (λ e. leb e.commit (l + 1)) (later low es) ≡ true
commits_later l low [] h = refl
commits_later l low (e ∷ es) h =
    let parts = and_parts _ _ h in
    let ih = commits_later l low es parts.1 in
    let here : leb e.commit (l + 1) ≡ true = (let b = leb-true e.commit l parts.0 in le-leb e.commit (l + 1) (omega arith)) in
    ⊎_elim (λ (a : ltb low e.commit ≡ true). rw a (and_from _ _ here ih)) (λ (a : ltb low e.commit ≡ false). rw a ih) (cases_Bool (ltb low e.commit))

pub ascending_later : (low : ℕ) (es : List Entry) → ascending es ≡ true → ascending (later low es) ≡ true
ascending_later low [] a = refl
ascending_later low (e ∷ es) a =
    let parts = and_parts _ _ a in
    let ih = ascending_later low es parts.1 in
    ⊎_elim (λ (b : ltb low e.commit ≡ true). rw b (and_from _ _ (every_later (λ next. leb e.commit next.commit) low es parts.0) ih)) (λ (b : ltb low e.commit ≡ false). rw b ih) (cases_Bool (ltb low e.commit))

-- since the commits ascend, the entries that are needed are the newest
later_all : (low : ℕ) (e : Entry) (es : List Entry) → low < e.commit → list_all (λ next. leb e.commit next.commit) es ≡ true → later low es ≡ es
later_all low e [] h a = refl
later_all low e (x ∷ es) h a =
    let parts = and_parts _ _ a in
    let b = leb-true e.commit x.commit parts.0 in
    rw (lt-ltb low x.commit (omega arith)) (ap (λ xs. x ∷ xs) (later_all low e es h parts.1))

pub newest : (low : ℕ) (es : List Entry) → ascending es ≡ true → drop (length es - length (later low es)) es ≡ later low es
newest low [] a = refl
newest low (e ∷ es) a =
    let parts = and_parts _ _ a in
    ⊎_elim
    (λ (b : ltb low e.commit ≡ true).
    let all : later low (e ∷ es) ≡ e ∷ es = rw b (ap (λ xs. e ∷ xs) (later_all low e es (ltb-true low e.commit b) parts.0)) in
    let z : length (e ∷ es) - length (later low (e ∷ es)) ≡ 0 = omega (arith, ap length all) in
    ap (λ n. drop n (e ∷ es)) z ∙ sym all)
    (λ (b : ltb low e.commit ≡ false).
    let less : later low (e ∷ es) ≡ later low es = rw b refl in
    let f = length-filter (λ x. ltb low x.commit) es in
    let g = count_by-le-length (λ x. ltb low x.commit) es in
    let z : length (e ∷ es) - length (later low (e ∷ es)) ≡ suc (length es - length (later low es)) = omega (arith, ap length less) in
    ap (λ n. drop n (e ∷ es)) z ∙ newest low es parts.1 ∙ sym less)
    (cases_Bool (ltb low e.commit))
