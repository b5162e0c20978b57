use Rattle.std.proofs.Common.{Option, ap, ◌∙◌, arith, length-take}
use Rattle.cache.specs.declared.entry.Entry.{Entry}
use Rattle.cache.specs.Entries.{offered}
use Rattle.cache.proofs.Sounds.{sound_enters}
use Rattle.recency.specs.Nodes.{places, size_of, recent, pushed}
use Rattle.recency.proofs.Orders.{enters_pushed}
use Rattle.recency.proofs.node.RecencyCache.insert.Goals as goal

pub returns-in-Some-clause-entered : goal.returns-in-Some-clause-entered
returns-in-Some-clause-entered c =
    let es = recent c.args.self.now in
    let size = size_of c.args.self.now in
    enters_pushed size (offered c.args.offer) es _ c.args.self.now.some (omega (arith, length-take c.args.self.now.len (places c.args.self.now)))
    (c.push.ensures.order ∙ ap (λ (o : Option Entry). pushed size o es) c.in-Some.ensures)

pub returns-in-Some-clause-sound : goal.returns-in-Some-clause-sound
returns-in-Some-clause-sound c = sound_enters _ _ c.args.offer.key c.args.offer.reading c.args.offer.interval c.args.offer.tags.now (returns-in-Some-clause-entered c)
