-- A pass over versions finds what the definitions say.
use Rattle.std.proofs.Common.{◌≡◌, ℕ, ◌+◌, ◌<◌, ◌≤◌, Bool, true, false, cond, List, [], ◌∷◌, ◌++◌, map, length, Some, None, filter, Option, sym, refl, ap, ◌∙◌, ⊎_elim, arith}
use Rattle.std.proofs.lemmas.Bool.{cases_Bool, cond-true, cond-false}
use Rattle.std.proofs.lemmas.List.{append_assoc, append-nil, map-append, length-map, length-append}
use Rattle.std.proofs.lemmas.List.Sums.{length-filter, count_by-le-length}
use Rattle.std.specs.List.{flat_map}
use Rattle.terms.specs.declared.record.Row.{Row}
use Rattle.terms.specs.declared.record.Query.{Query}
use Rattle.database.specs.Rows.{matches}
use Rattle.validity.specs.declared.scan.Scan.{Scan}
use Rattle.validity.specs.declared.version.Version.{Version}
use Rattle.validity.specs.Versions.{replacements, turns_by, turns_among, visible, rows_at}
use Rattle.validity.specs.Scans.{counts, summary, found, turned_if, turned_again, read_if, scanned, scanned_all}
use Rattle.validity.proofs.Turns.{kept_push, turn_push, read_push, pass_push}

pub joined_push : {X Y : Type 0} (f : X → List Y) (xs : List X) (x : X) → flat_map f (xs ++ x ∷ []) ≡ flat_map f xs ++ f x
joined_push f [] x = append-nil (f x)
joined_push f (y ∷ xs) x = ap (λ ys. f y ++ ys) (joined_push f xs x) ∙ sym (append_assoc (f y) (flat_map f xs) (f x))

turns_push : (p : Version → Bool) (q : Query) (vs : List Version) (v : Version) → turns_among p q (vs ++ v ∷ []) ≡ cond (matches q v.row) (turns_among p q vs ++ turns_by p v) (turns_among p q vs)
turns_push p q vs v =
    ap (flat_map (turns_by p)) (kept_push (λ version. matches q version.row) vs v)
    ∙ ⊎_elim (λ e. rw e (joined_push (turns_by p) (filter (λ version. matches q version.row) vs) v)) (λ e. rw e refl) (cases_Bool (matches q v.row))

rows_push : (m : ℕ) (vs : List Version) (v : Version) → rows_at m (vs ++ v ∷ []) ≡ cond (visible m v) (rows_at m vs ++ v.row ∷ []) (rows_at m vs)
rows_push m vs v =
    ap (map (λ version. version.row)) (kept_push (visible m) vs v)
    ∙ ⊎_elim (λ e. rw e (map-append (λ version. version.row) (filter (visible m) vs) (v ∷ []))) (λ e. rw e refl) (cases_Bool (visible m v))

-- the turns of one more version
made_end : (b : Bool) (o : Option ℕ) (m : ℕ) (q : Query) (rows : List Row) (ns : List ℕ) (t : ℕ) → turned_if b t (summary o m q rows ns) ≡ summary o m q rows (ns ++ cond b (t ∷ []) [])
made_end true o m q rows ns t = turn_push o m q rows ns t
made_end false o m q rows ns t = ap (summary o m q rows) (sym (append-nil ns))

replaced_end : (o : Option ℕ) (m : ℕ) (q : Query) (rows : List Row) (ns : List ℕ) (t : Option ℕ) → turned_again t (summary o m q rows ns) ≡ summary o m q rows (ns ++ replacements t)
replaced_end o m q rows ns None = ap (summary o m q rows) (sym (append-nil ns))
replaced_end o m q rows ns (Some t) = turn_push o m q rows ns t

turns_end : (o : Option ℕ) (m : ℕ) (q : Query) (rows : List Row) (ns : List ℕ) (v : Version)
    → turned_again v.replaced (turned_if (counts o v) v.made (summary o m q rows ns)) ≡ summary o m q rows (ns ++ turns_by (counts o) v)
turns_end o m q rows ns v =
    let mades = cond (counts o v) (v.made ∷ []) [] in
    ap (turned_again v.replaced) (made_end (counts o v) o m q rows ns v.made)
    ∙ replaced_end o m q rows (ns ++ mades) v.replaced
    ∙ ap (summary o m q rows) (append_assoc ns mades (replacements v.replaced))

-- the reading with one more version that matches
rows_end : (o : Option ℕ) (m : ℕ) (q : Query) (vs : List Version) (ns : List ℕ) (v : Version) → length (rows_at m vs) < 4294967295 → matches q v.row ≡ true
    → read_if (visible m v) v.row (summary o m q (rows_at m vs) ns) ≡ summary o m q (rows_at m (vs ++ v ∷ [])) ns
rows_end o m q vs ns v few is =
    ⊎_elim
    (λ e. cond-true (visible m v) _ _ e ∙ read_push o m q (rows_at m vs) ns v.row few is ∙ ap (λ rows. summary o m q rows ns) (sym (rows_push m vs v ∙ cond-true (visible m v) _ _ e)))
    (λ e. cond-false (visible m v) _ _ e ∙ ap (λ rows. summary o m q rows ns) (sym (rows_push m vs v ∙ cond-false (visible m v) _ _ e)))
    (cases_Bool (visible m v))

unread_end : (o : Option ℕ) (m : ℕ) (q : Query) (vs : List Version) (ns : List ℕ) (v : Version) → matches q v.row ≡ false → summary o m q (rows_at m vs) ns ≡ summary o m q (rows_at m (vs ++ v ∷ [])) ns
unread_end o m q vs ns v is =
    ⊎_elim
    (λ e. pass_push o m q (rows_at m vs) ns v.row is ∙ ap (λ rows. summary o m q rows ns) (sym (rows_push m vs v ∙ cond-true (visible m v) _ _ e)))
    (λ e. ap (λ rows. summary o m q rows ns) (sym (rows_push m vs v ∙ cond-false (visible m v) _ _ e)))
    (cases_Bool (visible m v))

pub few_rows : (m : ℕ) (vs : List Version) → length (rows_at m vs) ≤ length vs
few_rows m vs =
    let a = length-map (filter (visible m) vs) (λ version. version.row) in
    let b = length-filter (visible m) vs in
    let c = count_by-le-length (visible m) vs in
    omega arith

pub found_push : (o : Option ℕ) (m : ℕ) (q : Query) (vs : List Version) (v : Version) → length vs < 4294967295 → scanned v (found o m q vs) ≡ found o m q (vs ++ v ∷ [])
found_push o m q vs v few =
    let ns = turns_among (counts o) q vs in
    let turns = turns_push (counts o) q vs v in
    let f = few_rows m vs in
    ⊎_elim
    (λ e. cond-true (matches q v.row) _ _ e
    ∙ ap (read_if (visible m v) v.row) (turns_end o m q (rows_at m vs) ns v)
    ∙ rows_end o m q vs (ns ++ turns_by (counts o) v) v (omega arith) e
    ∙ ap (summary o m q (rows_at m (vs ++ v ∷ []))) (sym (turns ∙ cond-true (matches q v.row) _ _ e)))
    (λ e. cond-false (matches q v.row) _ _ e
    ∙ unread_end o m q vs ns v e
    ∙ ap (summary o m q (rows_at m (vs ++ v ∷ []))) (sym (turns ∙ cond-false (matches q v.row) _ _ e)))
    (cases_Bool (matches q v.row))

-- a pass over some versions and then over others
pub scanned_append : (us vs : List Version) (scan : Scan) → scanned_all (us ++ vs) scan ≡ scanned_all vs (scanned_all us scan)
scanned_append [] vs scan = refl
scanned_append (u ∷ us) vs scan = scanned_append us vs (scanned u scan)

further : (o : Option ℕ) (m : ℕ) (q : Query) (us vs : List Version) → length us + length vs ≤ 4294967295 → scanned_all vs (found o m q us) ≡ found o m q (us ++ vs)
further o m q us [] few = ap (found o m q) (sym (append-nil us))
further o m q us (v ∷ vs) few =
    ap (scanned_all vs) (found_push o m q us v (omega arith))
    ∙ further o m q (us ++ v ∷ []) vs (omega (arith, length-append us (v ∷ [])))
    ∙ ap (found o m q) (append_assoc us (v ∷ []) vs)

-- a whole pass
pub pass_finds : (o : Option ℕ) (m : ℕ) (q : Query) (vs : List Version) → length vs ≤ 4294967295 → scanned_all vs (summary o m q [] []) ≡ found o m q vs
pass_finds o m q vs few = further o m q [] vs (omega arith)
