-- What bringing the last of some places to the front makes of the order of the entries.
use Rattle.std.proofs.Common.{◌≡◌, ℕ, zero, suc, ◌+◌, ◌-◌, ◌<◌, min, List, [], ◌∷◌, ◌++◌, length, get_or, take, drop, set, sym, refl, ap, ◌∙◌, inl, inr, add-one, arith, length-take}
use Rattle.std.proofs.lemmas.List.{drop_at, length-take-le, take_all, take_at, take_more, take-take}
use Rattle.std.proofs.lemmas.Bool.{cases_lt}
use Rattle.std.specs.List.{slice_rotate_right}

-- the order of the entries after a hit, in the places of the table and in the entries
pub take_raise : {X : Type 0} (h : X) (xs : List X) (place n : ℕ) → place < length (take n xs) → take n (h ∷ (take place xs ++ drop (suc place) xs)) ≡ h ∷ (take place (take n xs) ++ drop (suc place) (take n xs))
take_raise h [] place zero k = let no : ⊥ = omega arith in absurd no
take_raise h [] place (suc n) k = let no : ⊥ = omega arith in absurd no
take_raise h (x ∷ xs) place zero k = let no : ⊥ = omega arith in absurd no
take_raise h (x ∷ xs) zero (suc n) k = refl
take_raise h (x ∷ xs) (suc place) (suc n) k = ap (λ l. h ∷ l) (take_raise x xs place n (omega arith))

-- the first places, when the last of them has come first
rotated : {X : Type 0} (xs : List X) (place : ℕ) (d : X) → place < length xs → slice_rotate_right (take (place + 1) xs) 1 ≡ get_or xs place d ∷ take place xs
rotated xs place d h =
    let long : length (take (place + 1) xs) - 1 ≡ place = omega (arith, length-take (place + 1) xs) in
    let front : length (take place xs) ≡ place = length-take-le place xs (omega arith) in
    let parts : take (place + 1) xs ≡ take place xs ++ get_or xs place d ∷ [] = take_more xs place d h in
    rw (long, parts, drop_at (take place xs) (get_or xs place d ∷ []) place front, take_at (take place xs) (get_or xs place d ∷ []) place front) refl

pub raised : {X : Type 0} (xs ys : List X) (place n : ℕ) (d : X) → place < length (take n xs) → ys ≡ slice_rotate_right (take (place + 1) xs) 1 → take n (ys ++ drop (place + 1) xs) ≡ get_or xs place d ∷ (take place (take n xs) ++ drop (place + 1) (take n xs))
raised xs ys place n d k is =
    let inside : place < length xs = omega (arith, length-take n xs) in
    rw (is, rotated xs place d inside, add-one) (take_raise (get_or xs place d) xs place n k)

-- the new entry is written over the one that has come first
pub put_first : {X : Type 0} (xs ys : List X) (last n : ℕ) (new : X) → last < length xs → last ≡ min n (length xs - 1) → ys ≡ slice_rotate_right (take (last + 1) xs) 1 → take (last + 1) (set (ys ++ drop (last + 1) xs) 0 new) ≡ take (length xs) (new ∷ take n xs)
put_first [] ys last n new h at is = let no : ⊥ = omega arith in absurd no
put_first (x ∷ xs) ys last n new h at is =
    let front : length (take last (x ∷ xs)) ≡ last = length-take-le last (x ∷ xs) (omega arith) in
    let both : take (length xs) (take n (x ∷ xs)) ≡ take last (x ∷ xs) = elim (cases_lt n (length xs)) [
      | inl less ↦
          let is_n : last ≡ n = omega arith in
          rw is_n (take_all (length xs) (take n (x ∷ xs)) (omega (arith, length-take n (x ∷ xs))))
      | inr more ↦
          let is_m : last ≡ length xs = omega arith in
          rw is_m (take-take (length xs) n (x ∷ xs) more)
    ] in
    rw (is, rotated (x ∷ xs) last new h, add-one) (ap (λ l. new ∷ l) (take_at (take last (x ∷ xs)) (drop (suc last) (x ∷ xs)) last front ∙ sym both))
