use Rattle.database.proofs.Agreements.{compared}
use Rattle.database.proofs.agree.compare.Goals as goal

pub returns : goal.returns
returns c = λ a b m one other. compared a b m c.args.query c.args.one c.args.other _ one other c.same_reading.ensures.same
