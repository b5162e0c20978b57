use Rattle.std.proofs.Common.{rules, ◌≡◌, ◌<◌, Bool, true, false, [], length, None, sym, arith, get_or, length-set}
use Rattle.std.proofs.lemmas.List.{get_or_default}
use Rattle.std.proofs.lemmas.List.Filters.{FiltersInPlace-more_no, FiltersInPlace-more_set}
use Rattle.std.specs.Fn.{FnReturnsAt}
use Rattle.terms.specs.declared.interval.Until.TheVariants.{Ended}
use Rattle.cache.specs.declared.entry.Entry.{Entry}
use Rattle.recency.specs.Nodes.{places}
use Rattle.recency.specs.Places.{Computes}
use Rattle.recency.proofs.node.Recency.keep.Goals as goal
use Rattle.recency.proofs.node.Recency.keep.Goals.{then-passes, else-passes}

-- what a read outside the table would give; each is inside
abbrev outside : Entry
outside = record { key = record { sheet = 0; argument = 0 }; reading = None; interval = record { first = 0; until = Ended 0 }; tags = record { tags = []; count = 0 } }

pub loop-i-preserved : goal.loop-i-preserved
loop-i-preserved g c =
    let here : c.loop-i.i < length (places c.loop-i.self) = omega (arith, c.loop-i.invariant.2) in
    let entry = get_or (places c.loop-i.self) c.loop-i.i outside in
    elim c.if-passes.branch [
      | then-passes w ↦
          let yes' : (test : Entry → Bool) → Computes (FnReturnsAt g.F.Fn c.args.passes) test → test entry ≡ true = λ test k. sym (k entry true (search rules)) in
          rw (w.self-is, w.kept-is) (
            c.loop-i.invariant.0,
            omega (arith, c.loop-i.invariant.1),
            simp length-set c.loop-i.invariant.2,
            λ test k. FiltersInPlace-more_set (c.loop-i.invariant.3 test k) here (yes' test k) (get_or_default _ _ _ _ here),
          )
      | else-passes w ↦
          let no : (test : Entry → Bool) → Computes (FnReturnsAt g.F.Fn c.args.passes) test → test entry ≡ false = λ test k. sym (k entry false (search rules)) in
          rw (w.self-is, w.kept-is) (
            c.loop-i.invariant.0,
            omega (arith, c.loop-i.invariant.1),
            c.loop-i.invariant.2,
            λ test k. FiltersInPlace-more_no (c.loop-i.invariant.3 test k) here (no test k) (get_or_default _ _ _ _ here),
          )
    ]
