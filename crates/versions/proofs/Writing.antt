-- What a write makes of the kept versions is what a database means by it.
use Rattle.std.specs.Prelude.{◌≡◌, ℕ, ◌+◌, ◌<◌, ◌≤◌, Bool, true, false, cond, not, ◌&&◌, ◌||◌, leb, List, [], ◌∷◌, ◌++◌, map, Some, None, filter, Option, ◌==◌, nat_le, nat_lt, refl}
use Rattle.std.proofs.Common.{sym, ap, ◌∙◌, ⊎_elim, arith}
use Rattle.std.proofs.lemmas.List.Folds.{list_all-append}
use Rattle.std.proofs.lemmas.Bool.Decides.{nat_tests}
use Rattle.std.proofs.lemmas.Bool.{cases_Bool, leb-true, le-leb, lt-leb, lt-ltb, le-ltb, and_from, and_parts, or_left, eqb-true, cases_lt}
use Rattle.std.proofs.lemmas.List.{map-append, append-nil}
use Rattle.std.proofs.lemmas.List.Elements.{filter-append}
use Rattle.terms.specs.declared.record.RecordId.{RecordId}
use Rattle.terms.specs.declared.record.Value.{Value}
use Rattle.terms.specs.declared.record.Row.{Row}
use Rattle.terms.specs.declared.record.Change.{Change}
use Rattle.terms.specs.declared.record.Change.TheVariants.{Set, Delete}
use Rattle.terms.specs.Records.{is_id, change_id, change_value}
use Rattle.std.specs.List.{list_any, list_all}
use Rattle.database.specs.Lists.{among}
use Rattle.database.specs.States.{Records}
use Rattle.database.specs.Rows.{holding, present, unique}
use Rattle.database.specs.Writes.{put, changed}
use Rattle.validity.specs.declared.version.Version.{Version}
use Rattle.validity.specs.Versions.{lasts, visible, rows_at, replaced_upto, dated}
use Rattle.versions.specs.Versions.{needed, current, retired, fresh, changed_by, changed_by_all}

-- a version visible at a held moment is needed, so the records of a held moment stay
any_among : (p : ℕ → Bool) (ns : List ℕ) (n : ℕ) → among n ns ≡ true → p n ≡ true → list_any p ns ≡ true
any_among p [] n a h = grind arith
any_among p (m ∷ ns) n a h =
    let ih = any_among p ns n in
    ⊎_elim (λ t. let is : n ≡ m = eqb-true n m t in or_left _ _ (sym (ap p is) ∙ h)) (λ t. grind (arith, nat_tests)) (cases_Bool (n == m))

kept_kept : {X : Type 0} (p r : X → Bool) (xs : List X) → ((x : X) → r x ≡ true → p x ≡ true) → filter r (filter p xs) ≡ filter r xs
kept_kept p r [] h = refl
kept_kept p r (x ∷ xs) h =
    let ih = kept_kept p r xs h in
    ⊎_elim
    (λ e. rw (h x e, e) (ap (λ ys. x ∷ ys) ih))
    (λ e. ⊎_elim (λ (f : p x ≡ true). rw f (rw e ih)) (λ (f : p x ≡ false). rw f (rw e ih)) (cases_Bool (p x)))
    (cases_Bool (r x))

pub rows_needed : (l n : ℕ) (pins : List ℕ) (vs : List Version) → among n (l ∷ pins) ≡ true → rows_at n (filter (needed l pins) vs) ≡ rows_at n vs
rows_needed l n pins vs a =
    ap (map (λ version. version.row)) (kept_kept (needed l pins) (visible n) vs (λ v seen. any_among (λ moment. visible moment v) (l ∷ pins) n a seen))

-- a change at a later moment is not seen before it
lasts_retired : (n N : ℕ) (replaced : Option ℕ) (b : Bool) → n < N → lasts (cond (current replaced && b) (Some N) replaced) n ≡ lasts replaced n
lasts_retired n N None true h = lt-ltb n N h
lasts_retired n N None false h = refl
lasts_retired n N (Some r) b h = refl

retired_parts : (N : ℕ) (id : RecordId) (v : Version) → ((retired N id v).row ≡ v.row) × ((retired N id v).made ≡ v.made) × ((retired N id v).replaced ≡ cond (current v.replaced && is_id id v.row.id) (Some N) v.replaced)
retired_parts N id v =
    ⊎_elim (λ e. rw e (refl, refl, refl)) (λ e. rw e (refl, refl, refl)) (cases_Bool (current v.replaced && is_id id v.row.id))

visible_retired : (n N : ℕ) (id : RecordId) (v : Version) → n < N → visible n (retired N id v) ≡ visible n v
visible_retired n N id v h =
    let parts = retired_parts N id v in
    let a : leb (retired N id v).made n ≡ leb v.made n = ap (λ m. leb m n) parts.1 in
    let b : lasts (retired N id v).replaced n ≡ lasts v.replaced n = ap (λ r. lasts r n) parts.2 ∙ lasts_retired n N v.replaced (is_id id v.row.id) h in
    ap (λ x. x && lasts (retired N id v).replaced n) a ∙ ap (λ y. nat_le v.made n && y) b

rows_cons : (n : ℕ) (v : Version) (vs : List Version) → rows_at n (v ∷ vs) ≡ cond (visible n v) (v.row ∷ rows_at n vs) (rows_at n vs)
rows_cons n v vs = ⊎_elim (λ e. rw e refl) (λ e. rw e refl) (cases_Bool (visible n v))

rows_append : (n : ℕ) (vs ws : List Version) → rows_at n (vs ++ ws) ≡ rows_at n vs ++ rows_at n ws
rows_append n vs ws = ap (map (λ version. version.row)) (filter-append (visible n) vs ws) ∙ map-append (λ version. version.row) (filter (visible n) vs) (filter (visible n) ws)

rows_retired : (n N : ℕ) (id : RecordId) (vs : List Version) → n < N → rows_at n (map (retired N id) vs) ≡ rows_at n vs
rows_retired n N id [] h = refl
rows_retired n N id (v ∷ vs) h =
    let ih = rows_retired n N id vs h in
    let a = rows_cons n (retired N id v) (map (retired N id) vs) in
    let b = rows_cons n v vs in
    let s = visible_retired n N id v h in
    let r = (retired_parts N id v).0 in
    a ∙ rw (s, r, ih) (sym b)

rows_fresh : (n N : ℕ) (c : Change) → n < N → rows_at n (fresh N c) ≡ []
rows_fresh n N (Set id value) h = let e = lt-leb N n h in rw e refl
rows_fresh n N (Delete id) h = refl

pub rows_before : (n N : ℕ) (cs : List Change) (vs : List Version) → n < N → rows_at n (changed_by_all N cs vs) ≡ rows_at n vs
rows_before n N [] vs h = refl
rows_before n N (c ∷ cs) vs h =
    rows_before n N cs (changed_by N c vs) h
    ∙ rows_append n (map (retired N (change_id c)) vs) (fresh N c)
    ∙ ap (λ rows. rows_at n (map (retired N (change_id c)) vs) ++ rows) (rows_fresh n N c h)
    ∙ append-nil (rows_at n (map (retired N (change_id c)) vs))
    ∙ rows_retired n N (change_id c) vs h

-- at and after the last date of all versions the same ones are visible
late_lasts : (N m : ℕ) (replaced : Option ℕ) → N ≤ m → replaced_upto N replaced ≡ true → lasts replaced m ≡ current replaced
late_lasts N m None h d = refl
late_lasts N m (Some r) h d = let e = leb-true r N d in le-ltb m r (omega arith)

late_visible : (N m : ℕ) (v : Version) → N ≤ m → dated N v ≡ true → visible m v ≡ current v.replaced
late_visible N m v h d =
    let parts = and_parts _ _ d in
    let e = leb-true v.made N parts.0 in
    ap (λ b. b && lasts v.replaced m) (le-leb v.made m (omega arith)) ∙ late_lasts N m v.replaced h parts.1

pub rows_late : (N m : ℕ) (vs : List Version) → N ≤ m → list_all (dated N) vs ≡ true → rows_at m vs ≡ rows_at N vs
rows_late N m [] h d = refl
rows_late N m (v ∷ vs) h d =
    let parts = and_parts _ _ d in
    let ih = rows_late N m vs h parts.1 in
    let one = late_visible N m v h parts.0 in
    let other = late_visible N N v (omega arith) parts.0 in
    rows_cons m v vs ∙ rw (one, ih) (sym (rows_cons N v vs ∙ ap (λ b. cond b (v.row ∷ rows_at N vs) (rows_at N vs)) other))

-- a change at the last date takes its record out of the rows, and puts it in again where it is a set
abbrev others : RecordId → Row → Bool
others id row = not (is_id id row.id)

now_retired : (N : ℕ) (replaced : Option ℕ) (b : Bool) → lasts (cond (current replaced && b) (Some N) replaced) N ≡ (lasts replaced N && not (current replaced && b))
now_retired N None true = le-ltb N N (omega arith)
now_retired N None false = refl
now_retired N (Some r) b = ⊎_elim (λ e. rw e refl) (λ e. rw e refl) (cases_Bool (nat_lt N r))

now_visible : (N : ℕ) (id : RecordId) (v : Version) → dated N v ≡ true → visible N (retired N id v) ≡ (visible N v && others id v.row)
now_visible N id v d =
    let parts = retired_parts N id v in
    let a : leb (retired N id v).made N ≡ leb v.made N = ap (λ m. leb m N) parts.1 in
    let b : lasts (retired N id v).replaced N ≡ (lasts v.replaced N && not (current v.replaced && is_id id v.row.id)) = ap (λ r. lasts r N) parts.2 ∙ now_retired N v.replaced (is_id id v.row.id) in
    let c = late_visible N N v (omega arith) d in
    grind arith

rows_now : (N : ℕ) (id : RecordId) (vs : List Version) → list_all (dated N) vs ≡ true → rows_at N (map (retired N id) vs) ≡ filter (others id) (rows_at N vs)
rows_now N id [] d = refl
rows_now N id (v ∷ vs) d =
    let parts = and_parts _ _ d in
    let ih = rows_now N id vs parts.1 in
    let s = now_visible N id v parts.0 in
    let r = (retired_parts N id v).0 in
    rows_cons N (retired N id v) (map (retired N id) vs)
    ∙ rw (s, r, ih)
    (⊎_elim
    (λ (e : visible N v ≡ true). rw e (⊎_elim (λ (f : others id v.row ≡ true). rw f refl) (λ (f : others id v.row ≡ false). rw f refl) (cases_Bool (others id v.row))))
    (λ (e : visible N v ≡ false). rw e refl)
    (cases_Bool (visible N v)))

abbrev fresh_rows : Change → List Row
fresh_rows (Set id value) = record { id = id; value = value } ∷ []
fresh_rows (Delete id) = []

fresh_now : (N : ℕ) (c : Change) → rows_at N (fresh N c) ≡ fresh_rows c
fresh_now N (Set id value) = rw (le-leb N N (omega arith)) refl
fresh_now N (Delete id) = refl

rows_change : (N : ℕ) (c : Change) (vs : List Version) → list_all (dated N) vs ≡ true → rows_at N (changed_by N c vs) ≡ filter (others (change_id c)) (rows_at N vs) ++ fresh_rows c
rows_change N c vs d =
    rows_append N (map (retired N (change_id c)) vs) (fresh N c)
    ∙ ap (λ rows. rows ++ rows_at N (fresh N c)) (rows_now N (change_id c) vs d)
    ∙ ap (λ rows. filter (others (change_id c)) (rows_at N vs) ++ rows) (fresh_now N c)

put_cons : (c : Change) (row : Row) (rows : List Row) (t k : ℕ)
    → holding (filter (others (change_id c)) rows ++ fresh_rows c) t k ≡ put c (holding rows) t k
    → holding (filter (others (change_id c)) (row ∷ rows) ++ fresh_rows c) t k ≡ put c (holding (row ∷ rows)) t k
put_cons c row rows t k ih =
    let id = change_id c in
    let at : RecordId = record { table = t; key = k } in
    ⊎_elim
    (λ (e : others id row ≡ true). rw e (⊎_elim
    (λ (f : is_id row.id at ≡ true). rw f (let g : is_id id at ≡ false = grind (arith, nat_tests) in rw g refl))
    (λ (f : is_id row.id at ≡ false). rw f ih)
    (cases_Bool (is_id row.id at))))
    (λ (e : others id row ≡ false). rw e (⊎_elim
    (λ (f : is_id id at ≡ true). rw f (ih ∙ ap (λ b. cond b (change_value c) (holding rows t k)) f))
    (λ (f : is_id id at ≡ false). rw f (let g : is_id row.id at ≡ false = grind (arith, nat_tests) in rw g (ih ∙ ap (λ b. cond b (change_value c) (holding rows t k)) f)))
    (cases_Bool (is_id id at))))
    (cases_Bool (others id row))

put_holding : (c : Change) (rows : List Row) (t k : ℕ) → holding (filter (others (change_id c)) rows ++ fresh_rows c) t k ≡ put c (holding rows) t k
put_holding (Set id value) [] t k = refl
put_holding (Delete id) [] t k = ⊎_elim (λ e. rw e refl) (λ e. rw e refl) (cases_Bool (is_id id (record { table = t; key = k })))
put_holding (Set id value) (row ∷ rows) t k = put_cons (Set id value) row rows t k (put_holding (Set id value) rows t k)
put_holding (Delete id) (row ∷ rows) t k = put_cons (Delete id) row rows t k (put_holding (Delete id) rows t k)

-- the dates stay
dated_replaced : (N : ℕ) (replaced : Option ℕ) (b : Bool) → replaced_upto N replaced ≡ true → replaced_upto N (cond (current replaced && b) (Some N) replaced) ≡ true
dated_replaced N None true d = le-leb N N (omega arith)
dated_replaced N None false d = refl
dated_replaced N (Some r) b d = d

dated_retired : (N : ℕ) (id : RecordId) (v : Version) → dated N v ≡ true → dated N (retired N id v) ≡ true
dated_retired N id v d =
    let parts = retired_parts N id v in
    let both = and_parts _ _ d in
    and_from _ _ (ap (λ m. leb m N) parts.1 ∙ both.0) (ap (replaced_upto N) parts.2 ∙ dated_replaced N v.replaced (is_id id v.row.id) both.1)

dated_all : (N : ℕ) (id : RecordId) (vs : List Version) → list_all (dated N) vs ≡ true → list_all (dated N) (map (retired N id) vs) ≡ true
dated_all N id [] d = refl
dated_all N id (v ∷ vs) d = let parts = and_parts _ _ d in and_from _ _ (dated_retired N id v parts.0) (dated_all N id vs parts.1)

dated_fresh : (N : ℕ) (c : Change) → list_all (dated N) (fresh N c) ≡ true
dated_fresh N (Set id value) = and_from _ _ (and_from _ _ (le-leb N N (omega arith)) refl) refl
dated_fresh N (Delete id) = refl

dated_change : (N : ℕ) (c : Change) (vs : List Version) → list_all (dated N) vs ≡ true → list_all (dated N) (changed_by N c vs) ≡ true
dated_change N c vs d = list_all-append (dated N) (map (retired N (change_id c)) vs) (fresh N c) ∙ and_from _ _ (dated_all N (change_id c) vs d) (dated_fresh N c)

pub dated_changes : (N : ℕ) (cs : List Change) (vs : List Version) → list_all (dated N) vs ≡ true → list_all (dated N) (changed_by_all N cs vs) ≡ true
dated_changes N [] vs d = d
dated_changes N (c ∷ cs) vs d = dated_changes N cs (changed_by N c vs) (dated_change N c vs d)

changed_same : (cs : List Change) (one other : Records) → ((t k : ℕ) → one t k ≡ other t k) → (t k : ℕ) → changed cs one t k ≡ changed cs other t k
changed_same [] one other h t k = h t k
changed_same (c ∷ cs) one other h t k =
    changed_same cs (put c one) (put c other) (λ t k. ap (λ (v : Option Value). cond (is_id (change_id c) (record { table = t; key = k })) (change_value c) v) (h t k)) t k

pub rows_changes : (N : ℕ) (cs : List Change) (vs : List Version) → list_all (dated N) vs ≡ true → (t k : ℕ) → holding (rows_at N (changed_by_all N cs vs)) t k ≡ changed cs (holding (rows_at N vs)) t k
rows_changes N [] vs d t k = refl
rows_changes N (c ∷ cs) vs d t k =
    rows_changes N cs (changed_by N c vs) (dated_change N c vs d) t k
    ∙ changed_same cs (holding (rows_at N (changed_by N c vs))) (put c (holding (rows_at N vs)))
    (λ t k. ap (λ rows. holding rows t k) (rows_change N c vs d) ∙ put_holding c (rows_at N vs) t k) t k

-- no record stands twice: in a part of the rows, and in those after a change
present_kept : (p : Row → Bool) (id : RecordId) (rows : List Row) → present id rows ≡ false → present id (filter p rows) ≡ false
present_kept p id [] out = refl
present_kept p id (row ∷ rows) out =
    let ih = present_kept p id rows in
    ⊎_elim (λ (e : p row ≡ true). rw e (grind arith)) (λ (e : p row ≡ false). rw e (grind arith)) (cases_Bool (p row))

unique_kept : (p : Row → Bool) (rows : List Row) → unique rows ≡ true → unique (filter p rows) ≡ true
unique_kept p [] u = refl
unique_kept p (row ∷ rows) u =
    let ih = unique_kept p rows in
    let out = present_kept p row.id rows in
    ⊎_elim (λ (e : p row ≡ true). rw e (grind arith)) (λ (e : p row ≡ false). rw e (grind arith)) (cases_Bool (p row))

present_others : (id : RecordId) (rows : List Row) → present id (filter (others id) rows) ≡ false
present_others id [] = refl
present_others id (row ∷ rows) =
    let ih = present_others id rows in
    ⊎_elim (λ (e : others id row ≡ true). rw e (grind arith)) (λ (e : others id row ≡ false). rw e ih) (cases_Bool (others id row))

present_push : (id : RecordId) (rows : List Row) (row : Row) → present id (rows ++ row ∷ []) ≡ (present id rows || is_id id row.id)
present_push id [] row = grind arith
present_push id (r ∷ rows) row = let ih = present_push id rows row in grind arith

unique_push : (rows : List Row) (row : Row) → unique rows ≡ true → present row.id rows ≡ false → unique (rows ++ row ∷ []) ≡ true
unique_push [] row u out = refl
unique_push (r ∷ rows) row u out =
    let ih = unique_push rows row in
    let p = present_push r.id rows row in
    let s : is_id r.id row.id ≡ is_id row.id r.id = grind (arith, nat_tests) in
    grind arith

unique_fresh : (c : Change) (rows : List Row) → unique rows ≡ true → unique (filter (others (change_id c)) rows ++ fresh_rows c) ≡ true
unique_fresh (Set id value) rows u = unique_push (filter (others id) rows) (record { id = id; value = value }) (unique_kept (others id) rows u) (present_others id rows)
unique_fresh (Delete id) rows u = ap unique (append-nil (filter (others id) rows)) ∙ unique_kept (others id) rows u

-- a part of the versions has a part of the rows
present_part : (p : Version → Bool) (m : ℕ) (id : RecordId) (vs : List Version) → present id (rows_at m vs) ≡ false → present id (rows_at m (filter p vs)) ≡ false
present_part p m id [] out = refl
present_part p m id (v ∷ vs) out =
    let ih = present_part p m id vs in
    let whole = sym (ap (present id) (rows_cons m v vs)) ∙ out in
    ⊎_elim
    (λ (e : p v ≡ true). rw e (ap (present id) (rows_cons m v (filter p vs)) ∙ ⊎_elim
    (λ (f : visible m v ≡ true). rw f (let w = rw f at whole in grind arith))
    (λ (f : visible m v ≡ false). rw f (ih (rw f at whole)))
    (cases_Bool (visible m v))))
    (λ (e : p v ≡ false). rw e (ih (⊎_elim
    (λ (f : visible m v ≡ true). let w = rw f at whole in grind arith)
    (λ (f : visible m v ≡ false). rw f at whole)
    (cases_Bool (visible m v)))))
    (cases_Bool (p v))

pub unique_part : (p : Version → Bool) (m : ℕ) (vs : List Version) → unique (rows_at m vs) ≡ true → unique (rows_at m (filter p vs)) ≡ true
unique_part p m [] u = refl
unique_part p m (v ∷ vs) u =
    let ih = unique_part p m vs in
    let out = present_part p m v.row.id vs in
    let whole = sym (ap unique (rows_cons m v vs)) ∙ u in
    ⊎_elim
    (λ (e : p v ≡ true). rw e (ap unique (rows_cons m v (filter p vs)) ∙ ⊎_elim
    (λ (f : visible m v ≡ true). rw f (let w = rw f at whole in grind arith))
    (λ (f : visible m v ≡ false). rw f (ih (rw f at whole)))
    (cases_Bool (visible m v))))
    (λ (e : p v ≡ false). rw e (ih (⊎_elim
    (λ (f : visible m v ≡ true). let w = rw f at whole in grind arith)
    (λ (f : visible m v ≡ false). rw f at whole)
    (cases_Bool (visible m v)))))
    (cases_Bool (p v))

apart_change : (N : ℕ) (c : Change) (vs : List Version) → list_all (dated N) vs ≡ true → ((m : ℕ) → unique (rows_at m vs) ≡ true) → (m : ℕ) → unique (rows_at m (changed_by N c vs)) ≡ true
apart_change N c vs d u m =
    ⊎_elim
    (λ before. ap unique (rows_before m N (c ∷ []) vs before) ∙ u m)
    (λ late. ap unique (rows_late N m (changed_by N c vs) late (dated_change N c vs d) ∙ rows_change N c vs d) ∙ unique_fresh c (rows_at N vs) (u N))
    (cases_lt m N)

pub apart_changes : (N : ℕ) (cs : List Change) (vs : List Version) → list_all (dated N) vs ≡ true → ((m : ℕ) → unique (rows_at m vs) ≡ true) → (m : ℕ) → unique (rows_at m (changed_by_all N cs vs)) ≡ true
apart_changes N [] vs d u = u
apart_changes N (c ∷ cs) vs d u = apart_changes N cs (changed_by N c vs) (dated_change N c vs d) (apart_change N c vs d u)

dated_later : (l : ℕ) (replaced : Option ℕ) → replaced_upto l replaced ≡ true → replaced_upto (l + 1) replaced ≡ true
dated_later l None d = refl
dated_later l (Some r) d = let e = leb-true r l d in le-leb r (l + 1) (omega arith)

-- what is dated by a moment is dated by the next, and a part of it too
pub dated_part : (p : Version → Bool) (l : ℕ) (vs : List Version) → list_all (dated l) vs ≡ true → list_all (dated (l + 1)) (filter p vs) ≡ true
dated_part p l [] d = refl
dated_part p l (v ∷ vs) d =
    let parts = and_parts _ _ d in
    let here = and_parts _ _ parts.0 in
    let ih = dated_part p l vs parts.1 in
    let e = leb-true v.made l here.0 in
    let next = and_from _ _ (le-leb v.made (l + 1) (omega arith)) (dated_later l v.replaced here.1) in
    ⊎_elim (λ (e : p v ≡ true). rw e (and_from _ _ next ih)) (λ (e : p v ≡ false). rw e ih) (cases_Bool (p v))
