-- Between the same turns the same versions are visible, and turns are known.
use Rattle.std.proofs.Common.{◌≡◌, ℕ, Bool, true, false, cond, ◌&&◌, eqb, leb, List, [], ◌∷◌, ◌++◌, Some, None, filter, Option, sym, refl, ap, ◌∙◌, ⊎_elim, arith}
use Rattle.std.proofs.lemmas.List.Folds.{list_all-append, list_any-append}
use Rattle.std.proofs.lemmas.Bool.Decides.{nat_tests as telling}
use Rattle.std.proofs.lemmas.Bool.{cases_Bool, cond-true, cond-false, and_from, and_parts, or_right, or_left, eq-eqb}
use Rattle.terms.specs.declared.record.Query.{Query}
use Rattle.std.specs.List.{list_all}
use Rattle.database.specs.Lists.{among}
use Rattle.database.specs.Rows.{matches}
use Rattle.validity.specs.declared.version.Version.{Version}
use Rattle.validity.specs.Versions.{lasts, visible, rows_at, replacements, turns_by, turns_among, replaced_upto, dated}
use Rattle.validity.proofs.Turns.{Alike}

pub turns_cons : (p : Version → Bool) (q : Query) (v : Version) (vs : List Version) → turns_among p q (v ∷ vs) ≡ cond (matches q v.row) (turns_by p v ++ turns_among p q vs) (turns_among p q vs)
turns_cons p q v vs = ⊎_elim (λ e. rw e refl) (λ e. rw e refl) (cases_Bool (matches q v.row))

lasts_alike : (m n : ℕ) (replaced : Option ℕ) → Alike m n (replacements replaced) → lasts replaced m ≡ lasts replaced n
lasts_alike m n None h = refl
lasts_alike m n (Some r) h = let e = h r (grind (arith, telling)) in grind (arith, telling)

-- a made moment that does not count lies on one side of both moments
abbrev pub Beside : (Version → Bool) → ℕ → ℕ → Type 0
Beside p m n = (v : Version) → p v ≡ false → leb v.made m ≡ leb v.made n

made_alike : (p : Version → Bool) (m n : ℕ) (v : Version) → Beside p m n → Alike m n (turns_by p v) → leb v.made m ≡ leb v.made n
made_alike p m n v beside h =
    ⊎_elim
    (λ (e : p v ≡ true). h v.made (ap (λ c. among v.made (cond c (v.made ∷ []) [] ++ replacements v.replaced)) e ∙ or_left _ _ (eq-eqb v.made v.made refl)))
    (λ (e : p v ≡ false). beside v e)
    (cases_Bool (p v))

visible_alike : (p : Version → Bool) (m n : ℕ) (v : Version) → Beside p m n → Alike m n (turns_by p v) → visible m v ≡ visible n v
visible_alike p m n v beside h =
    let made = made_alike p m n v beside h in
    let last = lasts_alike m n v.replaced (λ t in-it. h t (list_any-append (eqb t) (cond (p v) (v.made ∷ []) []) (replacements v.replaced) ∙ or_right _ _ in-it)) in
    ap (λ x. x && lasts v.replaced m) made ∙ ap (λ y. leb v.made n && y) last

matched_cons : (q : Query) (m : ℕ) (v : Version) (vs : List Version)
    → filter (matches q) (rows_at m (v ∷ vs))
    ≡ cond (matches q v.row) (cond (visible m v) (v.row ∷ filter (matches q) (rows_at m vs)) (filter (matches q) (rows_at m vs))) (filter (matches q) (rows_at m vs))
matched_cons q m v vs =
    ⊎_elim
    (λ e. rw e (⊎_elim (λ f. rw f refl) (λ f. rw f refl) (cases_Bool (matches q v.row))))
    (λ e. rw e (⊎_elim (λ f. rw f refl) (λ f. rw f refl) (cases_Bool (matches q v.row))))
    (cases_Bool (visible m v))

pub matched_alike : (p : Version → Bool) (q : Query) (m n : ℕ) (vs : List Version) → Beside p m n → Alike m n (turns_among p q vs) → filter (matches q) (rows_at m vs) ≡ filter (matches q) (rows_at n vs)
matched_alike p q m n [] beside h = refl
matched_alike p q m n (v ∷ vs) beside h =
    let rest = turns_among p q vs in
    ⊎_elim
    (λ e. let whole : Alike m n (turns_by p v ++ rest) = λ t w. h t (ap (among t) (turns_cons p q v vs ∙ cond-true (matches q v.row) _ _ e) ∙ w) in
    let ih = matched_alike p q m n vs beside (λ t w. whole t (list_any-append (eqb t) (turns_by p v) rest ∙ or_right _ _ w)) in
    let same = visible_alike p m n v beside (λ t w. whole t (list_any-append (eqb t) (turns_by p v) rest ∙ or_left _ _ w)) in
    let x = matched_cons q m v vs in let y = matched_cons q n v vs in
    x ∙ rw (same, ih) (sym y))
    (λ e. let ih = matched_alike p q m n vs beside (λ t w. h t (ap (among t) (turns_cons p q v vs ∙ cond-false (matches q v.row) _ _ e) ∙ w)) in
    matched_cons q m v vs ∙ cond-false (matches q v.row) _ _ e ∙ ih ∙ sym (matched_cons q n v vs ∙ cond-false (matches q v.row) _ _ e))
    (cases_Bool (matches q v.row))

-- each turn is at most the latest moment
replaced_past : (l : ℕ) (replaced : Option ℕ) → replaced_upto l replaced ≡ true → list_all (λ t. leb t l) (replacements replaced) ≡ true
replaced_past l None d = refl
replaced_past l (Some r) d = grind arith

made_past : (l t : ℕ) (b : Bool) → leb t l ≡ true → list_all (λ t. leb t l) (cond b (t ∷ []) []) ≡ true
made_past l t true d = and_from _ _ d refl
made_past l t false d = refl

pub turns_past : (p : Version → Bool) (q : Query) (l : ℕ) (vs : List Version) → list_all (dated l) vs ≡ true → list_all (λ t. leb t l) (turns_among p q vs) ≡ true
turns_past p q l [] d = refl
turns_past p q l (v ∷ vs) d =
    let ih = turns_past p q l vs (and_parts _ _ d).1 in
    let here = and_parts _ _ (and_parts _ _ d).0 in
    let mades = cond (p v) (v.made ∷ []) [] in
    ap (list_all (λ t. leb t l)) (turns_cons p q v vs)
    ∙ ⊎_elim
    (λ e. ap (list_all (λ t. leb t l)) (cond-true (matches q v.row) _ _ e) ∙ list_all-append (λ t. leb t l) (turns_by p v) (turns_among p q vs)
    ∙ and_from _ _ (list_all-append (λ t. leb t l) mades (replacements v.replaced) ∙ and_from _ _ (made_past l v.made (p v) here.0) (replaced_past l v.replaced here.1)) ih)
    (λ e. ap (list_all (λ t. leb t l)) (cond-false (matches q v.row) _ _ e) ∙ ih)
    (cases_Bool (matches q v.row))
