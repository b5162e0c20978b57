use Rattle.std.proofs.Common.{◌≡◌, [], take, drop}
use Rattle.cache.specs.TagSets.{packed, new_to}
use Rattle.cache.proofs.tag_set.TagSet.from_slice.Given as goal

-- the tags so far are in the set, and those that are left decide whether one repeats
abbrev pub invariant-loop-place : goal.invariant-loop-place
invariant-loop-place l =
    (l.set ≡ packed (take l.place l.tags)) × (new_to (take l.place l.tags) (drop l.place l.tags) ≡ new_to [] l.tags)
