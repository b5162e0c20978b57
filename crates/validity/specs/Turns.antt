-- The moments at which what a query reads may turn, and the interval that they leave around a moment.
use Rattle.std.specs.Prelude.{ℕ, max, List, [], ◌∷◌, Some, None, filter, Option, nat_le, nat_lt}
use Rattle.terms.specs.declared.interval.Interval.{Interval}
use Rattle.terms.specs.declared.interval.Until.{Until}
use Rattle.terms.specs.declared.interval.Until.TheVariants.{Ended, Open}
use Rattle.database.specs.Lists.{least}

-- the greatest of a list, else 0
abbrev pub greatest : List ℕ → ℕ
greatest [] = 0
greatest (n ∷ ns) = max n (greatest ns)

-- the smallest of a list, if it has any
abbrev pub smallest : List ℕ → Option ℕ
smallest [] = None
smallest (n ∷ ns) = Some (least n ns)

-- the greatest of the moments up to the one asked, else 0
abbrev pub first_of : ℕ → List ℕ → ℕ
first_of moment ns = greatest (filter (λ n. nat_le n moment) ns)

-- the smallest of the moments above the one asked, if there is any
abbrev pub end_of : ℕ → List ℕ → Option ℕ
end_of moment ns = smallest (filter (λ n. nat_lt moment n) ns)

-- ended, or open through the latest moment
abbrev pub until_of : ℕ → Option ℕ → Until
until_of latest None = Open latest
until_of latest (Some end) = Ended end

-- the interval around a moment that the turns leave
abbrev pub between : ℕ → ℕ → List ℕ → Interval
between latest moment ns = record { first = first_of moment ns; until = until_of latest (end_of moment ns) }
