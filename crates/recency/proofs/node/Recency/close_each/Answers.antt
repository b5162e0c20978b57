use Rattle.std.proofs.Common.{◌<◌, length, arith, length-set}
use Rattle.std.proofs.lemmas.List.{get_or_default}
use Rattle.std.proofs.lemmas.List.Edits.{map_over_more}
use Rattle.cache.specs.Entries.{closed}
use Rattle.recency.specs.Nodes.{places}
use Rattle.recency.proofs.node.Recency.close_each.Goals as goal

pub loop-place-preserved : goal.loop-place-preserved
loop-place-preserved c =
    let here : c.loop-place.place < length (places c.args.self.now) = omega arith in
    let there : c.loop-place.place < length (places c.loop-place.self) = omega (arith, c.loop-place.invariant.1) in (
      c.loop-place.invariant.0,
      simp length-set c.loop-place.invariant.1,
      rw (c.closed.ensures) (map_over_more (closed c.args.tag c.args.moment) _ _ _ _ here c.loop-place.invariant.2 (get_or_default _ _ _ _ there)),
    )
