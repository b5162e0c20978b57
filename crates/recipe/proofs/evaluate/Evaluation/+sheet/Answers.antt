use Rattle.recipe.proofs.Stepping.{ends_done, ends_refused, ends_unknown, ends_deep, ends_failed, goes_query, goes_call, ends_last}
use Rattle.recipe.proofs.evaluate.Evaluation.+sheet.Goals as goal
use Rattle.recipe.proofs.evaluate.Evaluation.+sheet.Goals.{in-Query+in_ok-last-in-Query, in-Call+in_ok-known-in-Call+in_ok-below-in-Call+in_ok-last-in-Call}

pub returns-in-Done : goal.returns-in-Done
returns-in-Done g t c = ends_done c.loop-test.true c.loop.invariant c.next-turn.ensures c.in-Done.is

pub returns-in_err-last-in-Query : goal.returns-in_err-last-in-Query
returns-in_err-last-in-Query g t c =
    ends_refused c.loop-test.true c.loop.invariant c.next-turn.ensures c.in-Query.is c.in_err-last-in-Query.ensures c.from_residual-in_err-last-in-Query.ensures.1

pub returns-in_err-known-in-Call : goal.returns-in_err-known-in-Call
returns-in_err-known-in-Call g t c =
    ends_unknown c.loop-test.true c.loop.invariant c.next-turn.ensures c.in-Call.is c.in_err-known-in-Call.ensures.unknown c.from_residual-in_err-known-in-Call.ensures.1

pub returns-in_err-below-in-Call : goal.returns-in_err-below-in-Call
returns-in_err-below-in-Call g t c =
    ends_deep c.loop-test.true c.loop.invariant c.next-turn.ensures c.in-Call.is c.in_ok-known-in-Call.ensures.there c.in_err-below-in-Call.ensures.deep c.from_residual-in_err-below-in-Call.ensures.1

pub returns-in_err-last-in-Call : goal.returns-in_err-last-in-Call
returns-in_err-last-in-Call g t c =
    ends_failed c.loop-test.true c.loop.invariant c.next-turn.ensures c.in-Call.is c.in_ok-known-in-Call.ensures.there c.in_ok-below-in-Call.ensures.left c.in_err-last-in-Call.ensures
    c.from_residual-in_err-last-in-Call.ensures.1

pub loop-preserved : goal.loop-preserved
loop-preserved g t c =
    elim c.match-turn.branch [
      | in-Query+in_ok-last-in-Query w ↦ goes_query c.loop-test.true c.loop.invariant c.next-turn.ensures w.in-Query.is w.in_ok-last-in-Query.ensures w.last-is
      | in-Call+in_ok-known-in-Call+in_ok-below-in-Call+in_ok-last-in-Call w ↦
          goes_call c.loop-test.true c.loop.invariant c.next-turn.ensures w.in-Call.is w.in_ok-known-in-Call.ensures.there w.in_ok-below-in-Call.ensures.left w.in_ok-last-in-Call.ensures w.last-is
    ]

pub returns : goal.returns
returns g t c = ends_last c.loop-test.false c.loop.invariant c.next.ensures c.last_answer.ensures
