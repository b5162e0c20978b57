-- Lists, and lists of numbers as sets.
use Rattle.std.specs.Prelude.{ℕ, min, Bool, true, cond, not, ◌&&◌, ◌||◌, List, [], ◌∷◌, ◌++◌, length, filter, ◌==◌, nat_eq, nat_lt}
use Rattle.std.specs.List.{list_any}

-- whether a number stands in a list
abbrev pub among : ℕ → List ℕ → Bool
among n xs = list_any (nat_eq n) xs

-- no number stands twice in a list
abbrev pub distinct : List ℕ → Bool
distinct [] = true
distinct (x ∷ xs) = not (among x xs) && distinct xs

-- whether a list of at most 32 numbers, each once, can hold the number: it does already, or it has fewer than 32
abbrev pub can_add : ℕ → List ℕ → Bool
can_add n xs = among n xs || nat_lt (length xs) 32

-- the smallest number of a list that begins with n
abbrev pub least : ℕ → List ℕ → ℕ
least n [] = n
least n (x ∷ xs) = min n (least x xs)

-- the list without a number
abbrev pub without : ℕ → List ℕ → List ℕ
without n xs = filter (λ x. not (x == n)) xs

-- the list with a number, which stands in it once
abbrev pub added : ℕ → List ℕ → List ℕ
added n xs = cond (among n xs) xs (xs ++ n ∷ [])
