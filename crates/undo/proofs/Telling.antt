-- What changes and discarding make of the versions that present records and entries tell.
use Rattle.std.proofs.Common.{◌≡◌, ℕ, ◌+◌, ◌<◌, ◌≤◌, Bool, true, false, cond, ◌&&◌, ◌||◌, eqb, ltb, List, [], ◌∷◌, ◌++◌, map, Some, None, filter, Option, sym, refl, ap, ◌∙◌, ⊎_elim, arith}
use Rattle.std.proofs.lemmas.List.Folds.{list_all-append}
use Rattle.std.proofs.lemmas.Bool.Decides.{nat_tests as telling}
use Rattle.std.proofs.lemmas.Bool.{cases_Bool, cond-true, cond-false, leb-true, le-leb, ltb-true, ltb-false, lt-ltb, ne_eqb, eq-eqb, and_from, and_parts, and_right, or_left, or_right, or_from, not_from_false, not-true}
use Rattle.std.proofs.lemmas.List.{append-nil, append_assoc, map-append}
use Rattle.std.specs.List.{flat_map, list_all}
use Rattle.terms.specs.declared.record.RecordId.{RecordId}
use Rattle.terms.specs.declared.record.Row.{Row}
use Rattle.terms.specs.declared.record.Change.{Change}
use Rattle.terms.specs.declared.record.Change.TheVariants.{Set, Delete}
use Rattle.terms.specs.Records.{is_id, change_id}
use Rattle.database.proofs.Rows.{same_id}
use Rattle.database.proofs.Sets.{every_weaker}
use Rattle.undo.specs.declared.entry.Held.{Held}
use Rattle.undo.specs.declared.entry.Present.{Present}
use Rattle.undo.specs.declared.entry.Entry.{Entry}
use Rattle.validity.specs.declared.version.Version.{Version}
use Rattle.validity.specs.Versions.{replaced_upto, dated}
use Rattle.undo.specs.Journals.{later, held_of, other_than, fresh, present_after, leaves, entries_by, present_after_all, entries_after_all}
use Rattle.undo.specs.Versions.{current, former, replaced_by, versions, tells, is_told, rightly}

pub joined_append : {X Y : Type 0} (f : X → List Y) (xs ys : List X) → flat_map f (xs ++ ys) ≡ flat_map f xs ++ flat_map f ys
joined_append f [] ys = refl
joined_append f (x ∷ xs) ys = ap (λ zs. f x ++ zs) (joined_append f xs ys) ∙ sym (append_assoc (f x) (flat_map f xs) (flat_map f ys))

-- the version that a change replaces is what was held of its record
by_former : (N : ℕ) (c : Change) (ps : List Present) → flat_map replaced_by (entries_by N c ps) ≡ former (change_id c) N (held_of (change_id c) ps)
by_former N c ps =
    let go : (c : Change) (held : Option Held) → flat_map replaced_by (cond (leaves c held) ((record { commit = N; id = change_id c; former = held }) ∷ []) []) ≡ former (change_id c) N held
    = λ c. elim c as (λ c. (held : Option Held) → flat_map replaced_by (cond (leaves c held) ((record { commit = N; id = change_id c; former = held }) ∷ []) []) ≡ former (change_id c) N held) [
      | Set id value ↦ λ held. append-nil (former id N held)
      | Delete id ↦ λ held. elim held as (λ held. flat_map replaced_by (cond (leaves (Delete id) held) ((record { commit = N; id = id; former = held }) ∷ []) []) ≡ former id N held) [ None ↦ refl | Some x ↦ refl ]
    ] in
    go c (held_of (change_id c) ps)

pub versions_change : (N : ℕ) (c : Change) (ps : List Present) (es : List Entry)
    → versions (present_after N c ps) (es ++ entries_by N c ps)
    ≡ (map current (filter (other_than (change_id c)) ps) ++ map current (fresh N c)) ++ (flat_map replaced_by es ++ former (change_id c) N (held_of (change_id c) ps))
versions_change N c ps es =
    ap (λ xs. xs ++ flat_map replaced_by (es ++ entries_by N c ps)) (map-append current (filter (other_than (change_id c)) ps) (fresh N c))
    ∙ ap (λ xs. (map current (filter (other_than (change_id c)) ps) ++ map current (fresh N c)) ++ xs)
    (joined_append replaced_by es (entries_by N c ps) ∙ ap (λ xs. flat_map replaced_by es ++ xs) (by_former N c ps))

-- what holds of all versions

every_current : (p : Version → Bool) (id : RecordId) (ps : List Present) → list_all p (map current ps) ≡ true → list_all p (map current (filter (other_than id) ps)) ≡ true
every_current p id [] h = refl
every_current p id (x ∷ ps) h =
    let parts = and_parts _ _ h in
    let ih = every_current p id ps parts.1 in
    ⊎_elim (λ (e : other_than id x ≡ true). rw e (and_from _ _ parts.0 ih)) (λ (e : other_than id x ≡ false). rw e ih) (cases_Bool (other_than id x))

-- P of a present version gives Q of what it is after a change at N has replaced it
abbrev Carries : (Version → Bool) → (Version → Bool) → ℕ → Type 0
Carries p q N = (row : Row) (made : ℕ) → p (record { row = row; made = made; replaced = None }) ≡ true → q (record { row = row; made = made; replaced = Some N }) ≡ true

every_former : (p q : Version → Bool) (N : ℕ) (id : RecordId) (ps : List Present) → Carries p q N → list_all p (map current ps) ≡ true → list_all q (former id N (held_of id ps)) ≡ true
every_former p q N id [] go h = refl
every_former p q N id (x ∷ ps) go h =
    let parts = and_parts _ _ h in
    let ih = every_former p q N id ps go parts.1 in
    let V : RecordId → Version = λ i. record { row = record { id = i; value = x.row.value }; made = x.made; replaced = Some N } in
    ⊎_elim
    (λ (e : is_id id x.row.id ≡ true).
    let is : id ≡ x.row.id = same_id id x.row.id e in
    rw e (and_from _ _ (ap (λ i. q (V i)) is ∙ go x.row x.made parts.0) refl))
    (λ (e : is_id id x.row.id ≡ false). rw e ih)
    (cases_Bool (is_id id x.row.id))

every_change : (p q : Version → Bool) (N : ℕ) (c : Change) (ps : List Present) (es : List Entry) → ((v : Version) → p v ≡ true → q v ≡ true) → Carries p q N
    → list_all q (map current (fresh N c)) ≡ true → list_all p (versions ps es) ≡ true → list_all q (versions (present_after N c ps) (es ++ entries_by N c ps)) ≡ true
every_change p q N c ps es weaker go new h =
    let parts = and_parts _ _ (sym (list_all-append p (map current ps) (flat_map replaced_by es)) ∙ h) in
    let id = change_id c in
    let up : (vs : List Version) → list_all p vs ≡ true → list_all q vs ≡ true = λ vs. every_weaker p q vs weaker in
    ap (list_all q) (versions_change N c ps es)
    ∙ list_all-append q (map current (filter (other_than id) ps) ++ map current (fresh N c)) (flat_map replaced_by es ++ former id N (held_of id ps))
    ∙ and_from _ _
    (list_all-append q (map current (filter (other_than id) ps)) (map current (fresh N c)) ∙ and_from _ _ (up (map current (filter (other_than id) ps)) (every_current p id ps parts.0)) new)
    (list_all-append q (flat_map replaced_by es) (former id N (held_of id ps)) ∙ and_from _ _ (up (flat_map replaced_by es) parts.1) (every_former p q N id ps go parts.0))

-- the dates

dated_fresh : (N : ℕ) (c : Change) → list_all (dated N) (map current (fresh N c)) ≡ true
dated_fresh N (Set id value) = and_from _ _ (and_from _ _ (le-leb N N (omega arith)) refl) refl
dated_fresh N (Delete id) = refl

dated_change : (N : ℕ) (c : Change) (ps : List Present) (es : List Entry) → list_all (dated N) (versions ps es) ≡ true → list_all (dated N) (versions (present_after N c ps) (es ++ entries_by N c ps)) ≡ true
dated_change N c ps es h =
    every_change (dated N) (dated N) N c ps es (λ v d. d) (λ row made d. and_from _ _ (and_parts _ _ d).0 (le-leb N N (omega arith))) (dated_fresh N c) h

pub dated_changes : (N : ℕ) (cs : List Change) (ps : List Present) (es : List Entry) → list_all (dated N) (versions ps es) ≡ true → list_all (dated N) (versions (present_after_all N cs ps) (entries_after_all N cs ps es)) ≡ true
dated_changes N [] ps es h = h
dated_changes N (c ∷ cs) ps es h = dated_changes N cs (present_after N c ps) (es ++ entries_by N c ps) (dated_change N c ps es h)

replaced_later : (l : ℕ) (replaced : Option ℕ) → replaced_upto l replaced ≡ true → replaced_upto (l + 1) replaced ≡ true
replaced_later l None d = refl
replaced_later l (Some r) d = let e = leb-true r l d in le-leb r (l + 1) (omega arith)

dated_later : (l : ℕ) (v : Version) → dated l v ≡ true → dated (l + 1) v ≡ true
dated_later l v d =
    let parts = and_parts _ _ d in
    let e = leb-true v.made l parts.0 in
    and_from _ _ (le-leb v.made (l + 1) (omega arith)) (replaced_later l v.replaced parts.1)

-- a part of the entries tells a part of the versions
every_replaced : (p : Version → Bool) (low : ℕ) (es : List Entry) → list_all p (flat_map replaced_by es) ≡ true → list_all p (flat_map replaced_by (later low es)) ≡ true
every_replaced p low [] h = refl
every_replaced p low (e ∷ es) h =
    let parts = and_parts _ _ (sym (list_all-append p (replaced_by e) (flat_map replaced_by es)) ∙ h) in
    let ih = every_replaced p low es parts.1 in
    ⊎_elim
    (λ (a : ltb low e.commit ≡ true). rw a (list_all-append p (replaced_by e) (flat_map replaced_by (later low es)) ∙ and_from _ _ parts.0 ih))
    (λ (a : ltb low e.commit ≡ false). rw a ih)
    (cases_Bool (ltb low e.commit))

every_part : (p : Version → Bool) (low : ℕ) (ps : List Present) (es : List Entry) → list_all p (versions ps es) ≡ true → list_all p (versions ps (later low es)) ≡ true
every_part p low ps es h =
    let parts = and_parts _ _ (sym (list_all-append p (map current ps) (flat_map replaced_by es)) ∙ h) in
    list_all-append p (map current ps) (flat_map replaced_by (later low es)) ∙ and_from _ _ parts.0 (every_replaced p low es parts.1)

pub dated_part : (l low : ℕ) (ps : List Present) (es : List Entry) → list_all (dated l) (versions ps es) ≡ true → list_all (dated (l + 1)) (versions ps (later low es)) ≡ true
dated_part l low ps es h = every_weaker (dated l) (dated (l + 1)) (versions ps (later low es)) (dated_later l) (every_part (dated l) low ps es h)

-- what the kept entries tell

tells_append : (es fs : List Entry) (id : RecordId) (m : ℕ) → tells (es ++ fs) id m ≡ (tells es id m || tells fs id m)
tells_append [] fs id m = refl
tells_append (e ∷ es) fs id m = let ih = tells_append es fs id m in grind arith

tells_one : (b : Bool) (e : Entry) (id : RecordId) (m : ℕ) → eqb m e.commit ≡ false → tells (cond b (e ∷ []) []) id m ≡ false
tells_one true e id m h = let z : (is_id id e.id && eqb m e.commit) ≡ false = and_right _ _ h in or_from _ _ z refl
tells_one false e id m h = refl

tells_later : (low : ℕ) (es : List Entry) (id : RecordId) (m : ℕ) → tells (later low es) id m ≡ (tells es id m && ltb low m)
tells_later low [] id m = refl
tells_later low (e ∷ es) id m =
    let ih = tells_later low es id m in
    let same : m ≡ e.commit → ltb low m ≡ ltb low e.commit = ap (ltb low) in
    ⊎_elim (λ (a : ltb low e.commit ≡ true). rw a (grind (arith, telling))) (λ (a : ltb low e.commit ≡ false). rw a (grind (arith, telling))) (cases_Bool (ltb low e.commit))

rightly_change : (floor N : ℕ) (c : Change) (ps : List Present) (es : List Entry) → floor < N → (v : Version) → rightly floor es v ≡ true → rightly floor (es ++ entries_by N c ps) v ≡ true
rightly_change floor N c ps es h v r =
    let id = v.row.id in
    let all = tells_append es (entries_by N c ps) id v.made in
    ⊎_elim
    (λ (a : ltb floor v.made ≡ true).
    let was : tells es id v.made ≡ true = sym (cond-true (ltb floor v.made) _ _ a) ∙ r in
    cond-true (ltb floor v.made) _ _ a ∙ all ∙ or_left _ _ was)
    (λ (a : ltb floor v.made ≡ false).
    let below = ltb-false floor v.made a in
    let was : tells es id v.made ≡ false = not-true _ (sym (cond-false (ltb floor v.made) _ _ a) ∙ r) in
    let new = tells_one (leaves c (held_of (change_id c) ps)) (record { commit = N; id = change_id c; former = held_of (change_id c) ps }) id v.made (ne_eqb v.made N (λ is. omega arith)) in
    cond-false (ltb floor v.made) _ _ a ∙ not_from_false _ (all ∙ or_from _ _ was new))
    (cases_Bool (ltb floor v.made))

rightly_fresh : (floor N : ℕ) (c : Change) (ps : List Present) (es : List Entry) → floor < N → list_all (rightly floor (es ++ entries_by N c ps)) (map current (fresh N c)) ≡ true
rightly_fresh floor N (Set id value) ps es h =
    let e : Entry = record { commit = N; id = id; former = held_of id ps } in
    let here : tells (e ∷ []) id N ≡ true = or_left _ _ (and_from _ _ (and_from _ _ (eq-eqb id.table id.table refl) (eq-eqb id.key id.key refl)) (eq-eqb N N refl)) in
    and_from _ _ (cond-true (ltb floor N) _ _ (lt-ltb floor N h) ∙ tells_append es (e ∷ []) id N ∙ or_right _ _ here) refl
rightly_fresh floor N (Delete id) ps es h = refl

told_change : (floor N : ℕ) (c : Change) (ps : List Present) (es : List Entry) → floor < N → list_all (rightly floor es) (versions ps es) ≡ true
    → list_all (rightly floor (es ++ entries_by N c ps)) (versions (present_after N c ps) (es ++ entries_by N c ps)) ≡ true
told_change floor N c ps es h t =
    let p = rightly floor es in
    let q = rightly floor (es ++ entries_by N c ps) in
    let up = rightly_change floor N c ps es h in
    every_change p q N c ps es up (λ row made r. up (record { row = row; made = made; replaced = Some N }) r) (rightly_fresh floor N c ps es h) t

pub told_changes : (floor N : ℕ) (cs : List Change) (ps : List Present) (es : List Entry) → floor < N → list_all (rightly floor es) (versions ps es) ≡ true
    → list_all (rightly floor (entries_after_all N cs ps es)) (versions (present_after_all N cs ps) (entries_after_all N cs ps es)) ≡ true
told_changes floor N [] ps es h t = t
told_changes floor N (c ∷ cs) ps es h t = told_changes floor N cs (present_after N c ps) (es ++ entries_by N c ps) h (told_change floor N c ps es h t)

rightly_later : (floor low : ℕ) (es : List Entry) → floor ≤ low → (v : Version) → rightly floor es v ≡ true → rightly low (later low es) v ≡ true
rightly_later floor low es h v r =
    let all = tells_later low es v.row.id v.made in
    ⊎_elim
    (λ (a : ltb low v.made ≡ true).
    let above = ltb-true low v.made a in
    let b = lt-ltb floor v.made (omega arith) in
    let was : is_told es v ≡ true = sym (cond-true (ltb floor v.made) _ _ b) ∙ r in
    cond-true (ltb low v.made) _ _ a ∙ all ∙ and_from _ _ was a)
    (λ (a : ltb low v.made ≡ false). cond-false (ltb low v.made) _ _ a ∙ not_from_false _ (all ∙ and_right _ _ a))
    (cases_Bool (ltb low v.made))

pub told_part : (floor low : ℕ) (ps : List Present) (es : List Entry) → floor ≤ low → list_all (rightly floor es) (versions ps es) ≡ true → list_all (rightly low (later low es)) (versions ps (later low es)) ≡ true
told_part floor low ps es h t =
    every_weaker (rightly floor es) (rightly low (later low es)) (versions ps (later low es)) (rightly_later floor low es h) (every_part (rightly floor es) low ps es t)
