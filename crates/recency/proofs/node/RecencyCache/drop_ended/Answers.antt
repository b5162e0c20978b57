use Rattle.cache.proofs.Sounds.{sound_drops}
use Rattle.recency.specs.Places.{outlasts}
use Rattle.recency.proofs.Orders.{drops_kept}
use Rattle.recency.proofs.node.RecencyCache.drop_ended.Goals as goal
use Rattle.std.proofs.Common.{rules}

pub returns-clause-dropped : goal.returns-clause-dropped
returns-clause-dropped c = drops_kept c.args.moment _ _ (c.keep.ensures.order (outlasts c.args.moment) (λ e b k. search rules))

pub returns-clause-sound : goal.returns-clause-sound
returns-clause-sound c = sound_drops (returns-clause-dropped c)
