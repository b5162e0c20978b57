-- Lists as sets.
use Rattle.std.specs.Prelude.{◌≡◌, ◌⊎◌, List, [], ◌∷◌}

-- x is in the list
abbrev pub Among : {X : Type 0} → X → List X → Type 0
Among x [] = ⊥
Among x (y ∷ ys) = (x ≡ y) ⊎ Among x ys

-- the two lists have the same elements
pub record Same {X : Type 0} (xs ys : List X) : Type 0 where
  pub there : (x : X) → Among x xs → Among x ys
  pub back : (x : X) → Among x ys → Among x xs
