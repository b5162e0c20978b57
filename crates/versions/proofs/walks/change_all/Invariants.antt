use Rattle.std.proofs.Common.{◌≡◌, ◌+◌, ◌≤◌, drop, vec_items, vec_len, vec_capacity}
use Rattle.versions.specs.Versions.{changed_by_all}
use Rattle.versions.proofs.walks.change_all.Given as goal

abbrev pub invariant-loop-change : goal.invariant-loop-change
invariant-loop-change l =
    (changed_by_all l.moment (drop l.change-index l.changes) (vec_items l.versions) ≡ changed_by_all l.moment l.changes (vec_items l.initial.versions))
    × (vec_capacity l.versions ≡ vec_capacity l.initial.versions)
    × (vec_len l.versions ≤ vec_len l.initial.versions + l.change-index)
