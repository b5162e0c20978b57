use Rattle.recipe.proofs.Runs.{value_is_one, value_rests}
use Rattle.recipe.proofs.values.value_laws.Goals as goal

pub returns : goal.returns
returns c = record { one = value_is_one; rests = value_rests }
