-- A trace: the calls with their answers, the newest first, and what it tells of records, transactions and readings.
use Rattle.std.specs.Prelude.{◌≡◌, ℕ, ◌+◌, Bool, true, false, cond, ◌&&◌, List, [], ◌∷◌, ◌++◌, Ok, Err, Option, nat_le}
use Rattle.terms.specs.declared.record.Change.{Change}
use Rattle.database.specs.States.{Records}
use Rattle.database.specs.Writes.{changed}
use Rattle.database.specs.Databases.{Db, Sound}
use Rattle.recipe.specs.Recipes.{Rules}
use Rattle.model.specs.declared.call.Call.{Call}
use Rattle.model.specs.declared.call.Reply.TheVariants.{Began, Read, Open, Committed, Aborted, Written, Delivered, Swept}
use Rattle.model.specs.Books.{Row, Hall}
use Rattle.model.specs.Calls.{Outcome, Given, Does, Makes, rows_of_write}

-- one call: its arguments, its answer, and the reading that it gave, if any
pub record Event : Type 0 where
  pub call : Call
  pub changes : List Change
  pub reply : Outcome
  pub given : Option Given

-- the moment and the records at the making
pub record Origin : Type 0 where
  pub moment : ℕ
  pub records : Records

-- whether an answer is that of an accepted write
abbrev pub is_write : Outcome → Bool
is_write (Ok (Began number moments)) = false
is_write (Ok (Read reading)) = false
is_write (Ok Open) = false
is_write (Ok (Committed moment)) = false
is_write (Ok Aborted) = false
is_write (Ok (Written moment)) = true
is_write (Ok (Delivered moment)) = false
is_write (Ok (Swept pins)) = false
is_write (Err fault) = false

-- the latest moment: that of the making, and one more for each accepted write
abbrev pub latest_of : Origin → List Event → ℕ
latest_of o [] = o.moment
latest_of o (event ∷ trace) = cond (is_write event.reply) (latest_of o trace + 1) (latest_of o trace)

-- the records of a moment: those at the making, with every accepted write up to it
abbrev pub records_at : Origin → List Event → ℕ → Records
records_at o [] m = o.records
records_at o (event ∷ trace) m = cond (is_write event.reply && nat_le (latest_of o trace + 1) m) (changed event.changes (records_at o trace m)) (records_at o trace m)

-- the rows of all accepted writes, the oldest first
abbrev pub rows_of : Origin → List Event → List Row
rows_of o [] = []
rows_of o (event ∷ trace) = cond (is_write event.reply) (rows_of o trace ++ rows_of_write (latest_of o trace + 1) event.changes) (rows_of o trace)

-- a hall from its making, after a list of calls; what a database means holds of it throughout
pub data Lives (rules : Rules) (o : Origin) : List Event → Hall → Type 0 where
  made : (db : Db) (first size : ℕ) (hall : Hall) → Makes db first size hall → Sound hall.db
      → o.moment ≡ db.latest → ((table key : ℕ) → o.records table key ≡ db.at db.latest table key) → Lives rules o [] hall
  then : (trace : List Event) (hall hall' : Hall) (event : Event) → Lives rules o trace hall
      → Does rules hall event.call event.changes event.reply event.given hall' → Sound hall'.db → Lives rules o (event ∷ trace) hall'
