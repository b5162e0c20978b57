use Rattle.recency.specs.Nodes.{recent}
use Rattle.recency.proofs.Searches.{best_none, best_some}
use Rattle.recency.proofs.node.Recency.find.Goals as goal

pub returns-in_err-found : goal.returns-in_err-found
returns-in_err-found c = rw c.from_residual.ensures (best_none c.args.wanted (recent c.args.self.now) c.in_err-found.ensures)

pub returns : goal.returns
returns c = best_some c.args.wanted (recent c.args.self.now) c.in_ok-found.found c.in_ok-found.ensures
