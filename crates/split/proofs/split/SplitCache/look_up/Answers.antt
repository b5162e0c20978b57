use Rattle.cache.proofs.Sounds.{sound_same, looks_only}
use Rattle.split.proofs.Parts.{part_first, part_second, part_same, first_looks, second_looks}
use Rattle.split.proofs.split.SplitCache.look_up.Goals as goal

pub returns-then-is_first-clause-answer : goal.returns-then-is_first-clause-answer
returns-then-is_first-clause-answer g c = first_looks (g.A.Cache.entries c.args.self.now.first) (g.B.Cache.entries c.args.self.now.second) c.args.wanted c.look_up.result c.if-is_first.ensures c.look_up.ensures.answer

pub returns-then-is_first-clause-only : goal.returns-then-is_first-clause-only
returns-then-is_first-clause-only g c = looks_only _ c.args.wanted.key c.args.wanted.moments.now c.args.wanted.delivered c.look_up.result (returns-then-is_first-clause-answer g c)

pub returns-then-is_first-clause-same : goal.returns-then-is_first-clause-same
returns-then-is_first-clause-same g c = part_same (part_first (g.A.Cache.entries c.args.self.now.first) (g.B.Cache.entries c.args.self.now.second) _) c.look_up.ensures.same

pub returns-then-is_first-clause-sound : goal.returns-then-is_first-clause-sound
returns-then-is_first-clause-sound g c = sound_same (returns-then-is_first-clause-same g c)

pub returns-else-is_first-clause-answer : goal.returns-else-is_first-clause-answer
returns-else-is_first-clause-answer g c = second_looks (g.A.Cache.entries c.args.self.now.first) (g.B.Cache.entries c.args.self.now.second) c.args.wanted c.look_up-else-is_first.result c.if-is_first.ensures c.look_up-else-is_first.ensures.answer

pub returns-else-is_first-clause-only : goal.returns-else-is_first-clause-only
returns-else-is_first-clause-only g c = looks_only _ c.args.wanted.key c.args.wanted.moments.now c.args.wanted.delivered c.look_up-else-is_first.result (returns-else-is_first-clause-answer g c)

pub returns-else-is_first-clause-same : goal.returns-else-is_first-clause-same
returns-else-is_first-clause-same g c = part_same (part_second (g.A.Cache.entries c.args.self.now.first) (g.B.Cache.entries c.args.self.now.second) _) c.look_up-else-is_first.ensures.same

pub returns-else-is_first-clause-sound : goal.returns-else-is_first-clause-sound
returns-else-is_first-clause-sound g c = sound_same (returns-else-is_first-clause-same g c)
