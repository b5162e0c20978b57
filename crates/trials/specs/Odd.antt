-- Recipes that no one would want, to try an evaluator with.
use Rattle.std.specs.Prelude.{ℕ, ◌+◌, cond, nat_lt}
use Rattle.terms.specs.declared.record.Query.TheVariants.{Tally}
use Rattle.recipe.specs.declared.Ask.{Ask}
use Rattle.recipe.specs.declared.Ask.TheVariants.{Query, Done}
use Rattle.recipe.specs.Recipes.{Rules}

-- one sheet, with the same answer at every point
abbrev pub stubborn : Ask → Rules
stubborn ask = record { sheets = 1; turn = λ point. record { ask = ask; stage = 0; carry = 0 } }

-- one sheet, which asks for the free doors so many times before it is done with the last reading
abbrev pub patient : ℕ → Rules
patient times =
    record {
      sheets = 1;
      turn =
          λ point.
          cond (nat_lt point.stage times) (record { ask = Query (Tally 0 0); stage = point.stage + 1; carry = 0 })
          (record { ask = Done point.last; stage = 0; carry = 0 });
    }
