-- Membership in lists.
use Rattle.std.proofs.Common.{◌≡◌, ℕ, zero, suc, ◌<◌, ◌≤◌, max, Bool, true, ◌⊎◌, List, [], ◌∷◌, ◌++◌, map, length, get_or, filter, Option, sym, refl, ap, ◌∙◌, subst, inl, inr, ⊎_elim, arith}
use Rattle.std.proofs.lemmas.Bool.{cond_both, both_ways, cases_lt}
use Rattle.std.specs.List.{fold, reduce}
use Rattle.cache.specs.Lists.{Among}
use Rattle.cache.specs.Calls.{Newest}

pub among_left : {X : Type 0} (x : X) (xs ys : List X) → Among x xs → Among x (xs ++ ys)
among_left x [] ys h = absurd h
among_left x (y ∷ xs) ys h = ⊎_elim (λ e. inl e) (λ t. inr (among_left x xs ys t)) h

pub among_right : {X : Type 0} (x : X) (xs ys : List X) → Among x ys → Among x (xs ++ ys)
among_right x [] ys h = h
among_right x (y ∷ xs) ys h = inr (among_right x xs ys h)

pub among_append : {X : Type 0} (x : X) (xs ys : List X) → Among x (xs ++ ys) → Among x xs ⊎ Among x ys
among_append x [] ys h = inr h
among_append x (y ∷ xs) ys h =
    ⊎_elim (λ e. inl (inl e)) (λ t. ⊎_elim (λ l. inl (inr l)) (λ r. inr r) (among_append x xs ys t)) h

pub among_push : {X : Type 0} (y : X) (xs : List X) (x : X) → Among y (xs ++ x ∷ []) → Among y xs ⊎ (y ≡ x)
among_push y xs x h = ⊎_elim (λ l. inl l) (λ r. inr (⊎_elim (λ e. e) (λ none. absurd none) r)) (among_append y xs (x ∷ []) h)

pub among_get_d : {X : Type 0} (xs : List X) (i : ℕ) (d : X) → i < length xs → Among (get_or xs i d) xs
among_get_d [] i d h = omega arith
among_get_d (x ∷ xs) zero d h = inl refl
among_get_d (x ∷ xs) (suc i) d h = inr (among_get_d xs i d (omega arith))

pub among_map : {X Y : Type 0} (f : X → Y) (x : X) (xs : List X) → Among x xs → Among (f x) (map f xs)
among_map f x [] h = absurd h
among_map f x (y ∷ xs) h = ⊎_elim (λ e. inl (ap f e)) (λ t. inr (among_map f x xs t)) h

pub among_mapped : {X Y : Type 0} (f : X → Y) (y : Y) (xs : List X) → Among y (map f xs) → (x : X) × Among x xs × (y ≡ f x)
among_mapped f y [] h = absurd h
among_mapped f y (x ∷ xs) h =
    ⊎_elim (λ e. (x, inl refl, e)) (λ t. let r = among_mapped f y xs t in (r.0, inr r.1, r.2)) h

pub among_kept : {X : Type 0} (p : X → Bool) (x : X) (xs : List X) → Among x xs → p x ≡ true → Among x (filter p xs)
among_kept p x [] h ok = absurd h
among_kept p x (y ∷ xs) h ok =
    cond_both (p y) (y ∷ filter p xs) (filter p xs) (λ l. Among x l)
    (λ t. ⊎_elim (λ e. inl e) (λ r. inr (among_kept p x xs r ok)) h)
    (λ f. ⊎_elim (λ e. absurd (both_ways (p y) f (ap p (sym e) ∙ ok))) (λ r. among_kept p x xs r ok) h)

pub kept_among : {X : Type 0} (p : X → Bool) (x : X) (xs : List X) → Among x (filter p xs) → Among x xs × (p x ≡ true)
kept_among p x [] h = absurd h
kept_among p x (y ∷ xs) h =
    cond_both (p y) (y ∷ filter p xs) (filter p xs) (λ l. Among x l → Among x (y ∷ xs) × (p x ≡ true))
    (λ t. ⊎_elim (λ e. (inl e, ap p e ∙ t)) (λ r. let k = kept_among p x xs r in (inr k.0, k.1)))
    (λ f r. let k = kept_among p x xs r in (inr k.0, k.1)) h

-- the greatest of some numbers is one of them, and above the others
greatest_among : (x : ℕ) (xs : List ℕ) → Among (fold max x xs) (x ∷ xs)
greatest_among x [] = inl refl
greatest_among x (y ∷ xs) =
    ⊎_elim (λ e. ⊎_elim (λ l. inr (inl (omega arith))) (λ r. inl (omega arith)) (cases_lt x y)) (λ t. inr (inr t)) (greatest_among (max x y) xs)

greatest_above : (x : ℕ) (xs : List ℕ) (m : ℕ) → Among m (x ∷ xs) → m ≤ fold max x xs
greatest_above x [] m a = ⊎_elim (λ e. omega arith) (λ none. absurd none) a
greatest_above x (y ∷ xs) m a =
    let here : max x y ≤ fold max (max x y) xs = greatest_above (max x y) xs (max x y) (inl refl) in
    ⊎_elim (λ e. omega arith) (λ t. ⊎_elim (λ e. omega arith) (λ r. greatest_above (max x y) xs m (inr r)) t) a

newest_of : (test : ℕ → Bool) (ms ks : List ℕ) → ks ≡ filter test ms → Newest test ms (reduce max ks)
newest_of test ms [] is = λ m a t. subst (Among m) (sym is) (among_kept test m ms a t)
newest_of test ms (k ∷ ks) is =
    let kept = kept_among test (fold max k ks) ms (subst (Among (fold max k ks)) is (greatest_among k ks)) in
    (kept.0, kept.1, λ m a t. greatest_above k ks m (subst (Among m) (sym is) (among_kept test m ms a t)))

-- the newest moment that passes is the greatest of those that pass
pub newest_greatest : (test : ℕ → Bool) (ms : List ℕ) (r : Option ℕ) → r ≡ reduce max (filter test ms) → Newest test ms r
newest_greatest test ms r is = subst (Newest test ms) (sym is) (newest_of test ms (filter test ms) refl)
