-- A walk that writes f of each element in its place.
use Rattle.std.proofs.Common.{◌≡◌, ℕ, ◌+◌, ◌<◌, ◌≤◌, List, ◌++◌, map, length, get_or, take, drop, set, ap, ◌∙◌}
use Rattle.std.proofs.lemmas.List.{get_or_default, take_all, drop_all, append-nil}
use Rattle.std.proofs.lemmas.List.Edits.{map_over_more}

pub map_at : {X : Type 0} (f : X → X) (xs ys : List X) (i : ℕ) (x d : X) → i < length xs → i < length ys → ys ≡ map f (take i xs) ++ drop i xs → x ≡ f (get_or ys i d) → set ys i x ≡ map f (take (i + 1) xs) ++ drop (i + 1) xs
map_at f xs ys i x d h k e is = ap (set ys i) is ∙ map_over_more f xs ys i (get_or ys i d) h e (get_or_default ys i _ _ k)

pub map_all : {X : Type 0} (f : X → X) (xs ys : List X) (i : ℕ) → length xs ≤ i → ys ≡ map f (take i xs) ++ drop i xs → ys ≡ map f xs
map_all f xs ys i h e =
    e ∙ ap (λ zs. map f zs ++ drop i xs) (take_all i xs h) ∙ ap (λ zs. map f xs ++ zs) (drop_all i xs h) ∙ append-nil (map f xs)
