use Rattle.std.proofs.Common.{arith}
use Rattle.cache.proofs.Packs.{fresh}
use Rattle.cache.proofs.tag_set.TagSet.from_slice.Goals as goal

pub loop-place-preserved : goal.loop-place-preserved
loop-place-preserved c =
    fresh c.args.tags.now c.loop-place.place c.loop-place.set (omega arith) (omega arith) c.loop-place.invariant.0 c.loop-place.invariant.1 c.if-contains.ensures
