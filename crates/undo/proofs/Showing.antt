-- Of each record the versions visible at a moment are the one that it holds there, or none; and so they are after changes.
use Rattle.std.proofs.Common.{◌≡◌, ℕ, ◌+◌, ◌<◌, ◌≤◌, Bool, true, false, cond, ◌&&◌, ◌||◌, ltb, leb, List, [], ◌∷◌, ◌++◌, map, length, Some, None, filter, Option, sym, refl, ap, ◌∙◌, ⊎_elim, arith}
use Rattle.std.proofs.lemmas.Bool.Decides.{nat_tests as telling}
use Rattle.std.proofs.lemmas.Bool.{cases_Bool, cases_lt, cond-true, cond-false, leb-true, le-leb, lt-leb, ltb-false, lt-ltb, le-ltb, eq-eqb, and_from, and_parts, and_left, and_right, or_parts}
use Rattle.std.proofs.lemmas.List.{append-nil, length-append, nil_from_length}
use Rattle.std.specs.List.{flat_map as joined, list_all}
use Rattle.terms.specs.declared.record.RecordId.{RecordId}
use Rattle.terms.specs.declared.record.Value.{Value}
use Rattle.terms.specs.declared.record.Row.{Row}
use Rattle.terms.specs.declared.record.Change.{Change}
use Rattle.terms.specs.declared.record.Change.TheVariants.{Set, Delete}
use Rattle.terms.specs.Records.{is_id, change_id}
use Rattle.database.specs.Rows.{holding, present, unique}
use Rattle.undo.specs.Soundness.{only, only_few, shown_from}
use Rattle.undo.specs.declared.entry.Held.{Held}
use Rattle.undo.specs.declared.entry.Present.{Present}
use Rattle.undo.specs.declared.entry.Entry.{Entry}
use Rattle.validity.specs.declared.version.Version.{Version}
use Rattle.validity.specs.Versions.{visible, rows_at, dated}
use Rattle.undo.specs.Journals.{undone, later, rows_of, state_at, held_of, other_than, fresh, present_after, entries_by, present_after_all, entries_after_all}
use Rattle.undo.specs.Versions.{current, former, replaced_by, versions, values_in, is_only, is_shown}
use Rattle.undo.proofs.Undoing.{later_later, states_before, state_late, commits_changes}
use Rattle.undo.proofs.Telling.{joined_append, versions_change, dated_changes}

only_is_only : (o : Option Value) → is_only (only o) o ≡ true
only_is_only None = refl
only_is_only (Some w) = and_from _ _ (eq-eqb w.state w.state refl) (eq-eqb w.word w.word refl)

pub only_to : (xs : List Value) (o : Option Value) → xs ≡ only o → is_only xs o ≡ true
only_to xs o e = ap (λ ys. is_only ys o) e ∙ only_is_only o

-- where there is at most one in all, the order is the same
swap : {X : Type 0} (xs ys : List X) → length (xs ++ ys) ≤ 1 → ys ++ xs ≡ xs ++ ys
swap [] ys h = append-nil ys
swap (x ∷ xs) ys h =
    let l = length-append (x ∷ xs) ys in
    let none : ys ≡ [] = nil_from_length ys (omega arith) in
    ap (λ zs. zs ++ (x ∷ xs)) none ∙ sym (append-nil (x ∷ xs)) ∙ sym (ap (λ zs. (x ∷ xs) ++ zs) none)

-- what one version shows of a record
abbrev shows : ℕ → ℕ → ℕ → Version → List Value
shows m t k v = cond (visible m v && is_id v.row.id (record { table = t; key = k })) (v.row.value ∷ []) []

shows_yes : (m t k : ℕ) (v : Version) → visible m v ≡ true → is_id v.row.id (record { table = t; key = k }) ≡ true → shows m t k v ≡ v.row.value ∷ []
shows_yes m t k v a b = cond-true _ _ _ (and_from _ _ a b)

shows_unseen : (m t k : ℕ) (v : Version) → visible m v ≡ false → shows m t k v ≡ []
shows_unseen m t k v a = cond-false _ _ _ (and_left _ _ a)

shows_other : (m t k : ℕ) (v : Version) → is_id v.row.id (record { table = t; key = k }) ≡ false → shows m t k v ≡ []
shows_other m t k v a = cond-false _ _ _ (and_right _ _ a)

pub shown_joined : (m t k : ℕ) (vs : List Version) → values_in (rows_at m vs) t k ≡ joined (shows m t k) vs
shown_joined m t k [] = refl
shown_joined m t k (v ∷ vs) =
    let ih = shown_joined m t k vs in
    let at : RecordId = record { table = t; key = k } in
    ⊎_elim
    (λ (a : visible m v ≡ true). ⊎_elim
    (λ (b : is_id v.row.id at ≡ true). rw a (rw b (ap (λ xs. v.row.value ∷ xs) ih)))
    (λ (b : is_id v.row.id at ≡ false). rw a (rw b ih))
    (cases_Bool (is_id v.row.id at)))
    (λ (a : visible m v ≡ false). rw a ih)
    (cases_Bool (visible m v))

nil_append : {X : Type 0} (xs ys zs : List X) → xs ≡ [] → ys ≡ zs → xs ++ ys ≡ zs
nil_append xs ys zs a b = ap (λ ws. ws ++ ys) a ∙ b

-- the present records without one: another record shows what it showed, that one nothing

kept_other : (m t k : ℕ) (id : RecordId) (ps : List Present) → is_id id (record { table = t; key = k }) ≡ false → joined (shows m t k) (map current (filter (other_than id) ps)) ≡ joined (shows m t k) (map current ps)
kept_other m t k id [] h = refl
kept_other m t k id (p ∷ ps) h =
    let ih = kept_other m t k id ps h in
    let at : RecordId = record { table = t; key = k } in
    ⊎_elim
    (λ (e : other_than id p ≡ true). rw e (ap (λ xs. shows m t k (current p) ++ xs) ih))
    (λ (e : other_than id p ≡ false).
    let o : is_id p.row.id at ≡ false = grind (arith, telling) in
    rw e (ih ∙ sym (nil_append _ _ _ (shows_other m t k (current p) o) refl)))
    (cases_Bool (other_than id p))

kept_none : (m t k : ℕ) (id : RecordId) (ps : List Present) → is_id id (record { table = t; key = k }) ≡ true → joined (shows m t k) (map current (filter (other_than id) ps)) ≡ []
kept_none m t k id [] h = refl
kept_none m t k id (p ∷ ps) h =
    let ih = kept_none m t k id ps h in
    let at : RecordId = record { table = t; key = k } in
    ⊎_elim
    (λ (e : other_than id p ≡ true).
    let o : is_id p.row.id at ≡ false = grind (arith, telling) in
    rw e (nil_append _ _ _ (shows_other m t k (current p) o) ih))
    (λ (e : other_than id p ≡ false). rw e ih)
    (cases_Bool (other_than id p))

fresh_none : (N m t k : ℕ) (c : Change) → m < N → joined (shows m t k) (map current (fresh N c)) ≡ []
fresh_none N m t k (Set id value) h = nil_append _ _ _ (shows_unseen m t k (current (record { row = record { id = id; value = value }; made = N })) (and_left _ _ (lt-leb N m h))) refl
fresh_none N m t k (Delete id) h = refl

former_other : (N m t k : ℕ) (id : RecordId) (held : Option Held) → is_id id (record { table = t; key = k }) ≡ false → joined (shows m t k) (former id N held) ≡ []
former_other N m t k id None h = refl
former_other N m t k id (Some held) h = nil_append _ _ _ (shows_other m t k (record { row = record { id = id; value = held.value }; made = held.made; replaced = Some N }) h) refl

former_late : (N m t k : ℕ) (id : RecordId) (held : Option Held) → N ≤ m → joined (shows m t k) (former id N held) ≡ []
former_late N m t k id None h = refl
former_late N m t k id (Some held) h = nil_append _ _ _ (shows_unseen m t k (record { row = record { id = id; value = held.value }; made = held.made; replaced = Some N }) (and_right _ _ (le-ltb m N h))) refl

-- a record that is not present shows nothing
absent_none : (m t k : ℕ) (id : RecordId) (ps : List Present) → is_id id (record { table = t; key = k }) ≡ true → present id (rows_of ps) ≡ false → joined (shows m t k) (map current ps) ≡ []
absent_none m t k id [] h out = refl
absent_none m t k id (p ∷ ps) h out =
    let parts = or_parts _ _ out in
    let o : is_id p.row.id (record { table = t; key = k }) ≡ false = (let e : is_id id p.row.id ≡ false = parts.0 in grind (arith, telling)) in
    nil_append _ _ _ (shows_other m t k (current p) o) (absent_none m t k id ps h parts.1)

-- a present record that a change at N replaces shows before N what it showed
former_held : (N m t k : ℕ) (id : RecordId) (ps : List Present) → m < N → is_id id (record { table = t; key = k }) ≡ true → unique (rows_of ps) ≡ true
    → joined (shows m t k) (map current ps) ≡ joined (shows m t k) (former id N (held_of id ps))
former_held N m t k id [] h i u = refl
former_held N m t k id (p ∷ ps) h i u =
    let at : RecordId = record { table = t; key = k } in
    let ih = former_held N m t k id ps h i in
    ⊎_elim
    (λ (e : is_id id p.row.id ≡ true).
    let here : is_id p.row.id at ≡ true = grind (arith, telling) in
    let out : present p.row.id (rows_of ps) ≡ false = grind arith in
    let rest = absent_none m t k p.row.id ps here out in
    let w : Version = record { row = record { id = id; value = p.row.value }; made = p.made; replaced = Some N } in
    let seen : visible m w ≡ visible m (current p) = ap (λ b. leb p.made m && b) (lt-ltb m N h) in
    let one : shows m t k w ≡ shows m t k (current p) = ap (λ b. cond b (p.row.value ∷ []) []) (ap (λ b. b && is_id id at) seen ∙ ap (λ b. visible m (current p) && b) (i ∙ sym here)) in
    rw e (ap (λ xs. shows m t k (current p) ++ xs) rest ∙ ap (λ xs. xs ++ []) (sym one)))
    (λ (e : is_id id p.row.id ≡ false).
    let o : is_id p.row.id at ≡ false = grind (arith, telling) in
    let u2 : unique (rows_of ps) ≡ true = grind arith in
    rw e (nil_append _ _ _ (shows_other m t k (current p) o) (ih u2)))
    (cases_Bool (is_id id p.row.id))

-- one change at N, before N
parts : (m t k : ℕ) (ps : List Present) (es : List Entry) → joined (shows m t k) (versions ps es) ≡ joined (shows m t k) (map current ps) ++ joined (shows m t k) (joined replaced_by es)
parts m t k ps es = joined_append (shows m t k) (map current ps) (joined replaced_by es)

shown_change : (N m t k : ℕ) (c : Change) (ps : List Present) (es : List Entry) (o : Option Value) → m < N → unique (rows_of ps) ≡ true
    → joined (shows m t k) (versions ps es) ≡ only o → joined (shows m t k) (versions (present_after N c ps) (es ++ entries_by N c ps)) ≡ only o
shown_change N m t k c ps es o h u is =
    let f = shows m t k in
    let id = change_id c in
    let A = map current (filter (other_than id) ps) in
    let F = map current (fresh N c) in
    let E = joined replaced_by es in
    let X = former id N (held_of id ps) in
    let at : RecordId = record { table = t; key = k } in
    let old : joined f (map current ps) ++ joined f E ≡ only o = sym (parts m t k ps es) ∙ is in
    let split : joined f ((A ++ F) ++ (E ++ X)) ≡ (joined f A ++ joined f F) ++ (joined f E ++ joined f X) =
    joined_append f (A ++ F) (E ++ X) ∙ ap (λ xs. xs ++ joined f (E ++ X)) (joined_append f A F) ∙ ap (λ xs. (joined f A ++ joined f F) ++ xs) (joined_append f E X) in
    let front : joined f A ++ joined f F ≡ joined f A = ap (λ xs. joined f A ++ xs) (fresh_none N m t k c h) ∙ append-nil (joined f A) in
    ap (joined f) (versions_change N c ps es) ∙ split ∙ ap (λ xs. xs ++ (joined f E ++ joined f X)) front
    ∙ ⊎_elim
    (λ (i : is_id id at ≡ true).
    nil_append (joined f A) (joined f E ++ joined f X) (only o) (kept_none m t k id ps i)
    (ap (λ xs. joined f E ++ xs) (sym (former_held N m t k id ps h i u))
    ∙ swap (joined f (map current ps)) (joined f E) (let l = only_few o in let e = ap length old in omega arith) ∙ old))
    (λ (i : is_id id at ≡ false).
    ap (λ xs. xs ++ (joined f E ++ joined f X)) (kept_other m t k id ps i)
    ∙ ap (λ xs. joined f (map current ps) ++ xs) (ap (λ xs. joined f E ++ xs) (former_other N m t k id (held_of id ps) i) ∙ append-nil (joined f E))
    ∙ old)
    (cases_Bool (is_id id at))

-- no record stands twice, after a change

present_kept : (id other : RecordId) (ps : List Present) → present id (rows_of ps) ≡ false → present id (rows_of (filter (other_than other) ps)) ≡ false
present_kept id other [] out = refl
present_kept id other (p ∷ ps) out =
    let ih = present_kept id other ps in
    ⊎_elim (λ (e : other_than other p ≡ true). rw e (grind arith)) (λ (e : other_than other p ≡ false). rw e (grind arith)) (cases_Bool (other_than other p))

unique_kept : (other : RecordId) (ps : List Present) → unique (rows_of ps) ≡ true → unique (rows_of (filter (other_than other) ps)) ≡ true
unique_kept other [] u = refl
unique_kept other (p ∷ ps) u =
    let ih = unique_kept other ps in
    let out = present_kept p.row.id other ps in
    ⊎_elim (λ (e : other_than other p ≡ true). rw e (grind arith)) (λ (e : other_than other p ≡ false). rw e (grind arith)) (cases_Bool (other_than other p))

present_others : (id : RecordId) (ps : List Present) → present id (rows_of (filter (other_than id) ps)) ≡ false
present_others id [] = refl
present_others id (p ∷ ps) =
    let ih = present_others id ps in
    ⊎_elim (λ (e : other_than id p ≡ true). rw e (grind arith)) (λ (e : other_than id p ≡ false). rw e ih) (cases_Bool (other_than id p))

present_push : (id : RecordId) (ps : List Present) (p : Present) → present id (rows_of (ps ++ p ∷ [])) ≡ (present id (rows_of ps) || is_id id p.row.id)
present_push id [] p = grind arith
present_push id (r ∷ ps) p = let ih = present_push id ps p in grind arith

unique_push : (ps : List Present) (p : Present) → unique (rows_of ps) ≡ true → present p.row.id (rows_of ps) ≡ false → unique (rows_of (ps ++ p ∷ [])) ≡ true
unique_push [] p u out = refl
unique_push (r ∷ ps) p u out =
    let ih = unique_push ps p in
    let w = present_push r.row.id ps p in
    let s : is_id r.row.id p.row.id ≡ is_id p.row.id r.row.id = grind (arith, telling) in
    grind arith

unique_change : (N : ℕ) (c : Change) (ps : List Present) → unique (rows_of ps) ≡ true → unique (rows_of (present_after N c ps)) ≡ true
unique_change N (Set id value) ps u = unique_push (filter (other_than id) ps) (record { row = record { id = id; value = value }; made = N }) (unique_kept id ps u) (present_others id ps)
unique_change N (Delete id) ps u = ap (λ xs. unique (rows_of xs)) (append-nil (filter (other_than id) ps)) ∙ unique_kept id ps u

pub unique_changes : (N : ℕ) (cs : List Change) (ps : List Present) → unique (rows_of ps) ≡ true → unique (rows_of (present_after_all N cs ps)) ≡ true
unique_changes N [] ps u = u
unique_changes N (c ∷ cs) ps u = unique_changes N cs (present_after N c ps) (unique_change N c ps u)

shown_before : (N m t k : ℕ) (cs : List Change) (ps : List Present) (es : List Entry) (o : Option Value) → m < N → unique (rows_of ps) ≡ true
    → joined (shows m t k) (versions ps es) ≡ only o → joined (shows m t k) (versions (present_after_all N cs ps) (entries_after_all N cs ps es)) ≡ only o
shown_before N m t k [] ps es o h u is = is
shown_before N m t k (c ∷ cs) ps es o h u is =
    shown_before N m t k cs (present_after N c ps) (es ++ entries_by N c ps) o h (unique_change N c ps u) (shown_change N m t k c ps es o h u is)

-- at and after the last commit the present records are what is shown

entries_late : (m t k : ℕ) (es : List Entry) → list_all (λ e. leb e.commit m) es ≡ true → joined (shows m t k) (joined replaced_by es) ≡ []
entries_late m t k [] h = refl
entries_late m t k (e ∷ es) h =
    let w = and_parts _ _ h in
    joined_append (shows m t k) (replaced_by e) (joined replaced_by es)
    ∙ nil_append _ _ _ (former_late e.commit m t k e.id e.former (leb-true e.commit m w.0)) (entries_late m t k es w.1)

present_late : (N m t k : ℕ) (ps : List Present) → N ≤ m → list_all (dated N) (map current ps) ≡ true → joined (shows m t k) (map current ps) ≡ values_in (rows_of ps) t k
present_late N m t k [] h d = refl
present_late N m t k (p ∷ ps) h d =
    let w = and_parts _ _ d in
    let made = leb-true p.made N (and_parts _ _ w.0).0 in
    let seen : visible m (current p) ≡ true = and_from _ _ (le-leb p.made m (omega arith)) refl in
    let ih = present_late N m t k ps h w.1 in
    let at : RecordId = record { table = t; key = k } in
    ⊎_elim
    (λ (b : is_id p.row.id at ≡ true). ap (λ xs. xs ++ joined (shows m t k) (map current ps)) (shows_yes m t k (current p) seen b) ∙ rw b (ap (λ xs. p.row.value ∷ xs) ih))
    (λ (b : is_id p.row.id at ≡ false). nil_append _ _ _ (shows_other m t k (current p) b) (rw b ih))
    (cases_Bool (is_id p.row.id at))

absent_values : (id : RecordId) (rows : List Row) (t k : ℕ) → is_id id (record { table = t; key = k }) ≡ true → present id rows ≡ false → values_in rows t k ≡ []
absent_values id [] t k h out = refl
absent_values id (row ∷ rows) t k h out =
    let w = or_parts _ _ out in
    let o : is_id row.id (record { table = t; key = k }) ≡ false = (let e : is_id id row.id ≡ false = w.0 in grind (arith, telling)) in
    rw o (absent_values id rows t k h w.1)

unique_values : (rows : List Row) (t k : ℕ) → unique rows ≡ true → values_in rows t k ≡ only (holding rows t k)
unique_values [] t k u = refl
unique_values (row ∷ rows) t k u =
    let ih = unique_values rows t k in
    let at : RecordId = record { table = t; key = k } in
    ⊎_elim
    (λ (b : is_id row.id at ≡ true). let out : present row.id rows ≡ false = grind arith in rw b (ap (λ xs. row.value ∷ xs) (absent_values row.id rows t k b out)))
    (λ (b : is_id row.id at ≡ false). let u2 : unique rows ≡ true = grind arith in rw b (ih u2))
    (cases_Bool (is_id row.id at))

pub shown_late : (N m t k : ℕ) (ps : List Present) (es : List Entry) → N ≤ m → list_all (dated N) (map current ps) ≡ true → list_all (λ e. leb e.commit m) es ≡ true → unique (rows_of ps) ≡ true
    → joined (shows m t k) (versions ps es) ≡ only (holding (rows_of ps) t k)
shown_late N m t k ps es h d e u =
    parts m t k ps es
    ∙ ap (λ xs. joined (shows m t k) (map current ps) ++ xs) (entries_late m t k es e) ∙ append-nil (joined (shows m t k) (map current ps))
    ∙ present_late N m t k ps h d ∙ unique_values (rows_of ps) t k u

-- discarding

shown_part : (low m t k : ℕ) (es : List Entry) → low ≤ m → joined (shows m t k) (joined replaced_by (later low es)) ≡ joined (shows m t k) (joined replaced_by es)
shown_part low m t k [] h = refl
shown_part low m t k (e ∷ es) h =
    let f = shows m t k in
    let ih = shown_part low m t k es h in
    let whole = joined_append f (replaced_by e) (joined replaced_by es) in
    ⊎_elim
    (λ (a : ltb low e.commit ≡ true). rw a (joined_append f (replaced_by e) (joined replaced_by (later low es)) ∙ ap (λ xs. joined f (replaced_by e) ++ xs) ih ∙ sym whole))
    (λ (a : ltb low e.commit ≡ false).
    let c = ltb-false low e.commit a in
    rw a (ih ∙ sym (whole ∙ nil_append _ _ _ (former_late e.commit m t k e.id e.former (omega arith)) refl)))
    (cases_Bool (ltb low e.commit))

every_le : (n m : ℕ) (es : List Entry) → n ≤ m → list_all (λ e. leb e.commit n) es ≡ true → list_all (λ e. leb e.commit m) es ≡ true
every_le n m [] h e = refl
every_le n m (x ∷ es) h e = let w = and_parts _ _ e in let b = leb-true x.commit n w.0 in and_from _ _ (le-leb x.commit m (omega arith)) (every_le n m es h w.1)

every_front : {X : Type 0} (p : X → Bool) (xs ys : List X) → list_all p (xs ++ ys) ≡ true → list_all p xs ≡ true
every_front p [] ys h = refl
every_front p (x ∷ xs) ys h = let w = and_parts _ _ h in and_from _ _ w.0 (every_front p xs ys w.1)

shown_to : (floor m t k : ℕ) (ps : List Present) (es : List Entry) → (floor ≤ m → joined (shows m t k) (versions ps es) ≡ only (state_at ps es m t k)) → is_shown floor ps es m t k ≡ true
shown_to floor m t k ps es f =
    ⊎_elim
    (λ (a : leb floor m ≡ true). cond-true (leb floor m) _ _ a ∙ only_to _ _ (shown_joined m t k (versions ps es) ∙ f (leb-true floor m a)))
    (λ (a : leb floor m ≡ false). cond-false (leb floor m) _ _ a)
    (cases_Bool (leb floor m))

-- a write at N = l + 1 that discards up to low
pub shown_written : (floor low l : ℕ) (cs : List Change) (ps : List Present) (es : List Entry) → floor ≤ low
    → unique (rows_of ps) ≡ true → list_all (dated (l + 1)) (versions ps (later low es)) ≡ true → list_all (λ e. leb e.commit (l + 1)) (later low es) ≡ true
    → ((m t k : ℕ) → is_shown floor ps es m t k ≡ true)
    → (m t k : ℕ) → is_shown low (present_after_all (l + 1) cs ps) (entries_after_all (l + 1) cs ps (later low es)) m t k ≡ true
shown_written floor low l cs ps es h u d e was m t k =
    let N = l + 1 in
    let ps2 = present_after_all N cs ps in
    let es2 = entries_after_all N cs ps (later low es) in
    shown_to low m t k ps2 es2 (λ (a : low ≤ m). ⊎_elim
    (λ (b : m < N).
    let f = shows m t k in
    let old : joined f (versions ps es) ≡ only (state_at ps es m t k) = sym (shown_joined m t k (versions ps es)) ∙ shown_from floor m t k ps es (was m t k) (omega arith) in
    let less : joined f (versions ps (later low es)) ≡ only (state_at ps es m t k) =
    parts m t k ps (later low es) ∙ ap (λ xs. joined f (map current ps) ++ xs) (shown_part low m t k es a) ∙ sym (parts m t k ps es) ∙ old in
    let same : state_at ps2 es2 m t k ≡ state_at ps es m t k =
    states_before N m cs ps (later low es) t k b ∙ ap (λ xs. undone xs (holding (rows_of ps)) t k) (later_later low m es a) in
    shown_before N m t k cs ps (later low es) (state_at ps es m t k) b u less ∙ ap only (sym same))
    (λ (b : N ≤ m).
    let late = every_le N m es2 b (commits_changes N cs ps (later low es) e) in
    let dates = every_front (dated N) (map current ps2) (joined replaced_by es2) (dated_changes N cs ps (later low es) d) in
    shown_late N m t k ps2 es2 b dates late (unique_changes N cs ps u) ∙ ap only (sym (state_late m ps2 es2 t k late)))
    (cases_lt m N))
