use Rattle.recipe.proofs.Stepping.{At}
use Rattle.recipe.proofs.evaluate.Evaluation.+sheet.Given as goal

abbrev pub decreases-sheet : goal.decreases-sheet
decreases-sheet g l = l.depth

abbrev pub invariant-loop : goal.invariant-loop
invariant-loop g l = At (g.D.Database.view l.self.db.now) (g.R.Recipe.rules l.self.recipe.now) l.self.moment l.sheet l.argument l.depth l.counter l.point
