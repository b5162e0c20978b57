-- The interval that turns leave around a moment, and one more turn or record in a pass.
use Rattle.std.proofs.Common.{◌≡◌, ℕ, ◌+◌, ◌<◌, ◌≤◌, min, max, Bool, true, false, cond, ltb, leb, List, [], ◌∷◌, ◌++◌, map, length, Some, None, filter, Option, sym, refl, ap, ◌∙◌, ⊎_elim, arith}
use Rattle.std.proofs.lemmas.Bool.Decides.{nat_tests}
use Rattle.std.proofs.lemmas.Bool.{cases_Bool, cond-true, cond-false, leb-true, leb-false, le-leb, lt-leb, ltb-true, lt-ltb, and_from, and_parts}
use Rattle.std.proofs.lemmas.List.{append-nil, map-append, length-append, length-map}
use Rattle.std.proofs.lemmas.List.Elements.{filter-append}
use Rattle.std.proofs.lemmas.List.Sums.{length-filter, count_by-le-length}
use Rattle.terms.specs.declared.record.Row.{Row}
use Rattle.terms.specs.declared.record.Query.{Query}
use Rattle.terms.specs.declared.record.Query.TheVariants.{Get, Tally}
use Rattle.terms.specs.Records.{Reading}
use Rattle.terms.specs.Intervals.{contains, reaches}
use Rattle.validity.specs.declared.scan.Scan.{Scan}
use Rattle.std.specs.List.{list_all}
use Rattle.database.specs.Lists.{among, least}
use Rattle.database.specs.States.{tallied}
use Rattle.database.specs.Rows.{matches, read_matched}
use Rattle.database.specs.Databases.{Db, Known}
use Rattle.validity.specs.Turns.{greatest, smallest, first_of, end_of, until_of, between}
use Rattle.validity.specs.Scans.{summary, first_with, end_with, smaller, turned_by, read_more, read_by}
use Rattle.database.proofs.Sets.{every_among, among_kept, least_among, least_below}

greatest_push : (ns : List ℕ) (t : ℕ) → greatest (ns ++ t ∷ []) ≡ max (greatest ns) t
greatest_push [] t = omega arith
greatest_push (n ∷ ns) t = let ih = greatest_push ns t in omega arith

least_push : (n : ℕ) (ns : List ℕ) (t : ℕ) → least n (ns ++ t ∷ []) ≡ min (least n ns) t
least_push n [] t = refl
least_push n (m ∷ ns) t = let ih = least_push m ns t in omega arith

smallest_push : (ns : List ℕ) (t : ℕ) → smallest (ns ++ t ∷ []) ≡ smaller (smallest ns) t
smallest_push [] t = refl
smallest_push (n ∷ ns) t = ap (λ (m : ℕ). Some m) (least_push n ns t)

-- a filter of a list with one more at its end
pub kept_push : {X : Type 0} (p : X → Bool) (xs : List X) (x : X) → filter p (xs ++ x ∷ []) ≡ cond (p x) (filter p xs ++ x ∷ []) (filter p xs)
kept_push p xs x = filter-append p xs (x ∷ []) ∙ ⊎_elim (λ e. rw e refl) (λ e. rw e (append-nil (filter p xs))) (cases_Bool (p x))

first_push : (m t : ℕ) (ns : List ℕ) → first_of m (ns ++ t ∷ []) ≡ first_with m t (first_of m ns)
first_push m t ns =
    ap greatest (kept_push (λ n. leb n m) ns t)
    ∙ ⊎_elim (λ e. rw e (greatest_push (filter (λ n. leb n m) ns) t)) (λ e. rw e refl) (cases_Bool (leb t m))

end_push : (m t : ℕ) (ns : List ℕ) → end_of m (ns ++ t ∷ []) ≡ end_with m t (end_of m ns)
end_push m t ns =
    ap smallest (kept_push (λ n. ltb m n) ns t)
    ∙ ⊎_elim
    (λ e. let f : ltb m t ≡ false = grind (arith, nat_tests) in rw f (sym (cond-true (leb t m) _ _ e)))
    (λ e. let f : ltb m t ≡ true = grind (arith, nat_tests) in rw f (smallest_push (filter (λ n. ltb m n) ns) t ∙ sym (cond-false (leb t m) _ _ e)))
    (cases_Bool (leb t m))

same_scan : (o : Option ℕ) (q : Query) (m : ℕ) (r s : Reading) (a b : ℕ) (e f : Option ℕ) → r ≡ s → a ≡ b → e ≡ f → ◌≡◌ {A = Scan} (record { query = q; moment = m; floor = o; reading = r; first = a; end = e }) (record { query = q; moment = m; floor = o; reading = s; first = b; end = f })
same_scan o q m r s a b e f x y z =
    let made : Reading → ℕ → Option ℕ → Scan = λ reading first end. record { query = q; moment = m; floor = o; reading = reading; first = first; end = end } in
    ap (λ k. made k a e) x ∙ ap (λ k. made s k e) y ∙ ap (made s b) z

-- one more turn
pub turn_push : (o : Option ℕ) (m : ℕ) (q : Query) (rows : List Row) (ns : List ℕ) (t : ℕ) → turned_by t (summary o m q rows ns) ≡ summary o m q rows (ns ++ t ∷ [])
turn_push o m q rows ns t = same_scan o q m _ _ _ _ _ _ refl (sym (first_push m t ns)) (sym (end_push m t ns))

tally_push : (ks : List ℕ) (row : Row) (t st : ℕ) → length ks < 4294967295 → tallied (ks ++ row.id.key ∷ []) ≡ read_more (Tally t st) (tallied ks) row
tally_push [] row t st few = refl
tally_push (k ∷ ks) row t st few =
    let l = least_push k ks row.id.key in
    let n : length (k ∷ (ks ++ row.id.key ∷ [])) ≡ length (k ∷ ks) + 1 = length-append (k ∷ ks) (row.id.key ∷ []) in
    let m : min (length (k ∷ ks) + 1) 4294967295 ≡ length (k ∷ ks) + 1 = omega arith in
    cc

matched_push : (q : Query) (rows : List Row) (row : Row) → length rows < 4294967295 → read_matched q (rows ++ row ∷ []) ≡ read_more q (read_matched q rows) row
matched_push (Get id) [] row few = refl
matched_push (Get id) (r ∷ rows) row few = refl
matched_push (Tally t st) rows row few =
    let l = length-map rows (λ row. row.id.key) in
    ap tallied (map-append (λ row. row.id.key) rows (row ∷ [])) ∙ tally_push (map (λ row. row.id.key) rows) row t st (omega arith)

-- one more record that the query reads, and one that it does not read
pub read_push : (o : Option ℕ) (m : ℕ) (q : Query) (rows : List Row) (ns : List ℕ) (row : Row) → length rows < 4294967295 → matches q row ≡ true → read_by row (summary o m q rows ns) ≡ summary o m q (rows ++ row ∷ []) ns
read_push o m q rows ns row few is =
    let a = length-filter (matches q) rows in
    let b = count_by-le-length (matches q) rows in
    same_scan o q m _ _ _ _ _ _ (sym (ap (read_matched q) (kept_push (matches q) rows row ∙ cond-true (matches q row) _ _ is) ∙ matched_push q (filter (matches q) rows) row (omega arith))) refl refl

pub pass_push : (o : Option ℕ) (m : ℕ) (q : Query) (rows : List Row) (ns : List ℕ) (row : Row) → matches q row ≡ false → summary o m q rows ns ≡ summary o m q (rows ++ row ∷ []) ns
pass_push o m q rows ns row is =
    same_scan o q m _ _ _ _ _ _ (sym (ap (read_matched q) (kept_push (matches q) rows row ∙ cond-false (matches q row) _ _ is))) refl refl

-- the greatest up to m is at most m, and at least each of them
pub first_upto : (m : ℕ) (ns : List ℕ) → first_of m ns ≤ m
first_upto m [] = omega arith
first_upto m (n ∷ ns) =
    let ih = first_upto m ns in
    ⊎_elim (λ e. rw e (let h = leb-true n m e in omega arith)) (λ e. rw e ih) (cases_Bool (leb n m))

greatest_covers : (ns : List ℕ) (t : ℕ) → among t ns ≡ true → t ≤ greatest ns
greatest_covers [] t a = grind arith
greatest_covers (n ∷ ns) t a = let ih = greatest_covers ns t in grind (arith, nat_tests)

first_covers : (m : ℕ) (ns : List ℕ) (t : ℕ) → among t ns ≡ true → t ≤ m → t ≤ first_of m ns
first_covers m ns t a h =
    greatest_covers (filter (λ n. leb n m) ns) t (among_kept (λ n. leb n m) t ns ∙ and_from _ _ a (le-leb t m h))

-- before the end, if there is one
abbrev pub before : Option ℕ → ℕ → Bool
before None moment = true
before (Some end) moment = ltb moment end

smallest_among : (ns : List ℕ) (e : ℕ) → smallest ns ≡ Some e → among e ns ≡ true
smallest_among [] e is = grind arith
smallest_among (n ∷ ns) e is =
    let same : least n ns ≡ e = cc in ap (λ k. among k (n ∷ ns)) (sym same) ∙ least_among n ns

smallest_covers : (n : ℕ) (ns : List ℕ) (t : ℕ) → among t ns ≡ true → before (smallest ns) n ≡ true → n < t
smallest_covers n [] t a l = grind arith
smallest_covers n (k ∷ ns) t a l = let b = least_below k ns t a in let c = ltb-true n (least k ns) l in omega arith

-- the smallest above m is one of them, and above m
end_among : (m : ℕ) (ns : List ℕ) (e : ℕ) → end_of m ns ≡ Some e → (among e ns ≡ true) × (ltb m e ≡ true)
end_among m ns e is = and_parts _ _ (sym (among_kept (λ n. ltb m n) e ns) ∙ smallest_among (filter (λ n. ltb m n) ns) e is)

end_covers : (m n : ℕ) (ns : List ℕ) (t : ℕ) → among t ns ≡ true → m < t → before (end_of m ns) n ≡ true → n < t
end_covers m n ns t a h l =
    smallest_covers n (filter (λ n. ltb m n) ns) t (among_kept (λ n. ltb m n) t ns ∙ and_from _ _ a (lt-ltb m t h)) l

until_reaches : (l n : ℕ) (end : Option ℕ) → n ≤ l → before end n ≡ true → reaches (until_of l end) n ≡ true
until_reaches l n None h e = le-leb n l h
until_reaches l n (Some t) h e = e

until_before : (l n : ℕ) (end : Option ℕ) → reaches (until_of l end) n ≡ true → before end n ≡ true
until_before l n None e = refl
until_before l n (Some t) e = e

end_before : (m : ℕ) (ns : List ℕ) (end : Option ℕ) → end_of m ns ≡ end → before end m ≡ true
end_before m ns None is = refl
end_before m ns (Some e) is = (end_among m ns e is).1

until_known : (db : Db) (m : ℕ) (ns : List ℕ) (end : Option ℕ) → list_all (λ t. leb t db.latest) ns ≡ true → end_of m ns ≡ end → Known db (until_of db.latest end)
until_known db m ns None past is = refl
until_known db m ns (Some e) past is = leb-true e db.latest (every_among (λ t. leb t db.latest) ns e past (end_among m ns e is).0)

-- the moments of two that lie between the same turns
abbrev pub Alike : ℕ → ℕ → List ℕ → Type 0
Alike m n ns = (t : ℕ) → among t ns ≡ true → leb t m ≡ leb t n

-- the interval contains its moment, its moments lie between the same turns, and its end is known
pub between_inside : (l m : ℕ) (ns : List ℕ) → m ≤ l → contains (between l m ns) m ≡ true
between_inside l m ns h = and_from _ _ (le-leb (first_of m ns) m (first_upto m ns)) (until_reaches l m (end_of m ns) h (end_before m ns (end_of m ns) refl))

pub between_alike : (l m n : ℕ) (ns : List ℕ) → contains (between l m ns) n ≡ true → Alike m n ns
between_alike l m n ns i t a =
    let parts = and_parts _ _ i in
    let f = leb-true (first_of m ns) n parts.0 in
    let b = until_before l n (end_of m ns) parts.1 in
    ⊎_elim
    (λ e. let c = first_covers m ns t a (leb-true t m e) in e ∙ sym (le-leb t n (omega arith)))
    (λ e. let c = end_covers m n ns t a (leb-false t m e) b in e ∙ sym (lt-leb t n c))
    (cases_Bool (leb t m))

pub between_known : (db : Db) (m : ℕ) (ns : List ℕ) → list_all (λ t. leb t db.latest) ns ≡ true → Known db (between db.latest m ns).until
between_known db m ns past = until_known db m ns (end_of m ns) past refl
