use Rattle.cache.proofs.Sounds.{sound_closes}
use Rattle.recency.proofs.Orders.{closes_map}
use Rattle.recency.proofs.node.RecencyCache.close.Goals as goal

pub returns-clause-closed : goal.returns-clause-closed
returns-clause-closed c = closes_map c.args.tag c.args.moment _ _ c.close_each.ensures.order

pub returns-clause-sound : goal.returns-clause-sound
returns-clause-sound c = sound_closes (returns-clause-closed c)
