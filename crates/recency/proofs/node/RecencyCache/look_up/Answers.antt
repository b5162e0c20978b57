use Rattle.std.proofs.Common.{◌+◌, ◌∷◌, ◌++◌, take, drop, Some, sym, ap, ◌∙◌, subst}
use Rattle.cache.specs.declared.entry.Entry.{Entry}
use Rattle.cache.specs.Lists.{Same}
use Rattle.cache.specs.Calls.{LooksUp}
use Rattle.cache.specs.Entries.{blank_entry}
use Rattle.cache.proofs.Sounds.{sound_same, looks_only}
use Rattle.recency.specs.Nodes.{recent}
use Rattle.recency.proofs.Orders.{same_raise}
use Rattle.recency.proofs.node.RecencyCache.look_up.Goals as goal

pub returns-clause-only : goal.returns-clause-only
returns-clause-only c =
    looks_only _ c.args.wanted.key c.args.wanted.moments.now c.args.wanted.delivered _
    (subst (λ (x : Entry). LooksUp (recent c.args.self.now) c.args.wanted (Some x)) (sym c.raise.ensures.hit) c.in_ok-place.ensures.1)

pub returns-clause-same : goal.returns-clause-same
returns-clause-same c =
    let es = recent c.args.self.now in
    let place = c.in_ok-place.place in
    subst (Same es) (sym (c.raise.ensures.order ∙ ap (λ (x : Entry). x ∷ (take place es ++ drop (place + 1) es)) c.raise.ensures.hit))
    (same_raise es place blank_entry c.in_ok-place.ensures.0)

pub returns-clause-sound : goal.returns-clause-sound
returns-clause-sound c = sound_same (returns-clause-same c)
