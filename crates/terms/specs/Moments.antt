-- Moments: the numbers of commits.
use Rattle.std.specs.Prelude.{ℕ, ◌+◌, Bool, cond, Some, None, Option, nat_le, nat_lt}

-- the highest moment
abbrev pub highest : ℕ
highest = 9223372036854775807

-- whether a number is a moment
abbrev pub is_moment : ℕ → Bool
is_moment n = nat_le n highest

-- the moment that follows, where the moment is not the highest
abbrev pub next_moment : ℕ → Option ℕ
next_moment m = cond (nat_lt m highest) (Some (m + 1)) None
