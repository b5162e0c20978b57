-- Laws of lists of numbers as sets.
use Rattle.std.proofs.Common.{◌≡◌, ℕ, ◌+◌, ◌≤◌, min, Bool, true, false, not, ◌&&◌, ◌||◌, eqb, ◌⊎◌, List, [], ◌∷◌, ◌++◌, length, filter, fold, leb, sym, refl, ap, ◌∙◌, inl, inr, ⊎_elim, add-one, arith}
use Rattle.std.proofs.lemmas.List.Folds.{list_all-append}
use Rattle.std.proofs.lemmas.Bool.Decides.{nat_tests}
use Rattle.std.proofs.lemmas.Bool.{eqb-true, cases_Bool, cases_lt, or_right, and_from, and_parts}
use Rattle.std.proofs.lemmas.List.Sums.{length-filter, count_by-le-length}
use Rattle.std.specs.List.{list_all}
use Rattle.database.specs.Lists.{among, distinct, least, without, added}
use Rattle.database.specs.States.{tallied}

-- what passes a filter is in the list, and passes
pub among_kept : (p : ℕ → Bool) (n : ℕ) (xs : List ℕ) → among n (filter p xs) ≡ (among n xs && p n)
among_kept p n [] = refl
among_kept p n (x ∷ xs) =
    let ih = among_kept p n xs in
    let same : n ≡ x → p n ≡ p x = ap p in
    ⊎_elim (λ e. rw e (grind (arith, nat_tests))) (λ e. rw e (grind (arith, nat_tests))) (cases_Bool (p x))

pub among_without : (n m : ℕ) (xs : List ℕ) → among n (without m xs) ≡ (among n xs && not (eqb n m))
among_without n m xs = among_kept (λ x. not (eqb x m)) n xs

pub distinct_without : (m : ℕ) (xs : List ℕ) → distinct xs ≡ true → distinct (without m xs) ≡ true
distinct_without m [] d = refl
distinct_without m (x ∷ xs) d =
    let ih = distinct_without m xs in let a = among_without x m xs in grind (arith, nat_tests)

pub among_none : (n : ℕ) (xs : List ℕ) → among n xs ≡ false → without n xs ≡ xs
among_none n [] d = refl
among_none n (x ∷ xs) d = let ih = among_none n xs in grind (arith, nat_tests)

-- a list in which each number stands once is longer by one than without one of them
pub length_without : (m : ℕ) (xs : List ℕ) → distinct xs ≡ true → among m xs ≡ true → length xs ≡ length (without m xs) + 1
length_without m [] d a = grind arith
length_without m (x ∷ xs) d a =
    let ih = length_without m xs in let n = among_none m xs in grind (arith, nat_tests, add-one)

pub length_below : (xs ys : List ℕ) → distinct xs ≡ true → distinct ys ≡ true → ((k : ℕ) → among k xs ≡ true → among k ys ≡ true) → length xs ≤ length ys
length_below [] ys dx dy within = omega arith
length_below (x ∷ xs) ys dx dy within =
    let here : among x ys ≡ true = within x (grind (arith, nat_tests)) in
    let out : among x xs ≡ false = grind (arith, nat_tests) in
    let more = length_without x ys dy here in
    let rest : (k : ℕ) → among k xs ≡ true → among k (without x ys) ≡ true =
    λ k a. let w = within k (grind (arith, nat_tests)) in let e = among_without k x ys in grind (arith, nat_tests) in
    let ih = length_below xs (without x ys) (grind (arith, nat_tests)) (distinct_without x ys dy) rest in
    omega arith

min_either : (a b : ℕ) → (min a b ≡ a) ⊎ (min a b ≡ b)
min_either a b = ⊎_elim (λ h. inl (omega arith)) (λ h. inr (omega arith)) (cases_lt a b)

pub least_among : (n : ℕ) (xs : List ℕ) → among (least n xs) (n ∷ xs) ≡ true
least_among n [] = grind (arith, nat_tests)
least_among n (x ∷ xs) =
    let ih = least_among x xs in
    ⊎_elim (λ e. grind (arith, nat_tests)) (λ e. or_right _ _ (ap (λ k. among k (x ∷ xs)) e ∙ ih)) (min_either n (least x xs))

pub least_below : (n : ℕ) (xs : List ℕ) (k : ℕ) → among k (n ∷ xs) ≡ true → least n xs ≤ k
least_below n [] k a = grind (arith, nat_tests)
least_below n (x ∷ xs) k a = let ih = least_below x xs k in grind (arith, nat_tests)

pub least_folded : (n : ℕ) (xs : List ℕ) → fold min n xs ≡ least n xs
least_folded n [] = refl
least_folded n (x ∷ []) = refl
least_folded n (x ∷ (y ∷ xs)) = least_folded (min n x) (y ∷ xs) ∙ grind arith

-- two lists of the same numbers, each once, tell the same tally
pub same_tally : (xs ys : List ℕ) → distinct xs ≡ true → distinct ys ≡ true → ((k : ℕ) → among k xs ≡ among k ys) → tallied xs ≡ tallied ys
same_tally [] [] dx dy same = refl
same_tally [] (y ∷ ys) dx dy same = let e = same y in grind (arith, nat_tests)
same_tally (x ∷ xs) [] dx dy same = let e = same x in grind (arith, nat_tests)
same_tally (x ∷ xs) (y ∷ ys) dx dy same =
    let one = length_below (x ∷ xs) (y ∷ ys) dx dy (λ k a. sym (same k) ∙ a) in
    let other = length_below (y ∷ ys) (x ∷ xs) dy dx (λ k a. same k ∙ a) in
    let n : length (x ∷ xs) ≡ length (y ∷ ys) = omega arith in
    let below = least_below x xs (least y ys) (same (least y ys) ∙ least_among y ys) in
    let above = least_below y ys (least x xs) (sym (same (least x xs)) ∙ least_among x xs) in
    let m : least x xs ≡ least y ys = omega arith in
    cc

pub among_push : (n m : ℕ) (xs : List ℕ) → among n (xs ++ m ∷ []) ≡ (among n xs || eqb n m)
among_push n m [] = grind (arith, nat_tests)
among_push n m (x ∷ xs) = let ih = among_push n m xs in grind (arith, nat_tests)

pub among_added : (n m : ℕ) (xs : List ℕ) → among n (added m xs) ≡ (eqb n m || among n xs)
among_added n m xs =
    let e = among_push n m xs in
    ⊎_elim (λ t. rw t (⊎_elim (λ u. let v : n ≡ m = eqb-true n m u in grind (arith, nat_tests)) (λ u. grind (arith, nat_tests)) (cases_Bool (eqb n m))))
    (λ t. rw t (grind (arith, nat_tests))) (cases_Bool (among m xs))

pub distinct_push : (m : ℕ) (xs : List ℕ) → distinct xs ≡ true → among m xs ≡ false → distinct (xs ++ m ∷ []) ≡ true
distinct_push m [] d a = refl
distinct_push m (x ∷ xs) d a = let ih = distinct_push m xs in let e = among_push x m xs in grind (arith, nat_tests)

pub length_kept : {X : Type 0} (p : X → Bool) (xs : List X) → length (filter p xs) ≤ length xs
length_kept p xs = omega (arith, length-filter p xs, count_by-le-length p xs)

pub length_without_le : (m : ℕ) (xs : List ℕ) → length (without m xs) ≤ length xs
length_without_le m xs = length_kept (λ x. not (eqb x m)) xs

-- tests of every element
pub every_among : (p : ℕ → Bool) (xs : List ℕ) (x : ℕ) → list_all p xs ≡ true → among x xs ≡ true → p x ≡ true
every_among p [] x e a = grind arith
every_among p (y ∷ xs) x e a =
    let ih = every_among p xs x in
    ⊎_elim (λ t. let is : x ≡ y = grind (arith, nat_tests) in ap p is ∙ grind arith) (λ t. grind (arith, nat_tests)) (cases_Bool (eqb x y))

pub every_kept : {X : Type 0} (p r : X → Bool) (xs : List X) → list_all p xs ≡ true → list_all p (filter r xs) ≡ true
every_kept p r [] h = refl
every_kept p r (x ∷ xs) h =
    let parts = and_parts _ _ h in
    let ih = every_kept p r xs parts.1 in
    ⊎_elim (λ (e : r x ≡ true). rw e (and_from _ _ parts.0 ih)) (λ (e : r x ≡ false). rw e ih) (cases_Bool (r x))

pub every_weaker : {X : Type 0} (p r : X → Bool) (xs : List X) → ((x : X) → p x ≡ true → r x ≡ true) → list_all p xs ≡ true → list_all r xs ≡ true
every_weaker p r [] f h = refl
every_weaker p r (x ∷ xs) f h = let parts = and_parts _ _ h in and_from _ _ (f x parts.0) (every_weaker p r xs f parts.1)

pub every_added : (p : ℕ → Bool) (n : ℕ) (xs : List ℕ) → list_all p xs ≡ true → p n ≡ true → list_all p (added n xs) ≡ true
every_added p n xs h is =
    ⊎_elim (λ (e : among n xs ≡ true). rw e h)
    (λ (e : among n xs ≡ false). rw e (list_all-append p xs (n ∷ []) ∙ and_from _ _ h (and_from _ _ is refl)))
    (cases_Bool (among n xs))

-- a moment was added to the pins, or nothing changed
pub every_either : (p : ℕ → Bool) (m : ℕ) (r : Bool) (xs pins : List ℕ) → (r ≡ true → pins ≡ added m xs) → (r ≡ false → pins ≡ xs) → list_all p xs ≡ true → p m ≡ true → list_all p pins ≡ true
every_either p m r xs pins yes_way no_way h is =
    ⊎_elim (λ e. ap (list_all p) (yes_way e) ∙ every_added p m xs h is) (λ e. ap (list_all p) (no_way e) ∙ h) (cases_Bool r)

pub every_without : (p : ℕ → Bool) (m : ℕ) (xs pins : List ℕ) → pins ≡ without m xs → list_all p xs ≡ true → list_all p pins ≡ true
every_without p m xs pins e h = ap (list_all p) e ∙ every_kept p (λ x. not (eqb x m)) xs h

-- what is at most a moment is at most every later one
pub past_later : (m n : ℕ) (pins : List ℕ) → m ≤ n → list_all (λ pin. leb pin m) pins ≡ true → list_all (λ pin. leb pin n) pins ≡ true
past_later m n pins h = every_weaker (λ pin. leb pin m) (λ pin. leb pin n) pins (λ x is. grind (arith, nat_tests))
