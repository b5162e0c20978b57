use Rattle.recency.specs.Places.{stays}
use Rattle.recency.proofs.node.Recency.make_way.Goals as goal
use Rattle.std.proofs.Common.{rules}

pub returns-clause-order : goal.returns-clause-order
returns-clause-order c = c.keep.ensures.order (stays c.args.new.now) (λ e b k. search rules)
