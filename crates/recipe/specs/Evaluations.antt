-- What it means to work a sheet out over a database without a cache.
use Rattle.std.specs.Prelude.{◌≡◌, ℕ, suc, ◌<◌, ◌≤◌, true, false, ◌⊎◌, Ok, Err, Result}
use Rattle.terms.specs.declared.fault.Fault.{Fault}
use Rattle.terms.specs.declared.fault.Fault.TheVariants.{SheetUnknown, TooDeep, NeverDone, RecipeTable, NotHeld}
use Rattle.terms.specs.declared.record.Query.{Query}
use Rattle.terms.specs.Records.{Reading, known_table}
use Rattle.database.specs.States.{Reads}
use Rattle.database.specs.Databases.{Db, held}
use Rattle.recipe.specs.declared.Point.{Point}
use Rattle.recipe.specs.declared.Ask.{Ask}
use Rattle.recipe.specs.declared.Ask.TheVariants.{Query as Asked, Call, Done}
use Rattle.recipe.specs.Recipes.{Rules, start, after, table_of, GivesWithin, Gives}

-- what a recipe's query reads: 24 if its table is 8 or above, then 32 if the moment is not held
abbrev pub ReadsAt : Db → ℕ → Query → Result Reading Fault → Type 0
ReadsAt db moment query (Ok reading) = (known_table (table_of query) ≡ true) × (held db moment ≡ true) × Reads (db.at moment) query reading
ReadsAt db moment query (Err fault) = ((known_table (table_of query) ≡ false) × (fault ≡ RecipeTable 0)) ⊎ ((known_table (table_of query) ≡ true) × (held db moment ≡ false) × (fault ≡ NotHeld 0))

-- the last answer of a sheet has to be done: 23 otherwise, before any other fault
abbrev pub last_answer : Ask → Result Reading Fault
last_answer (Asked query) = Err (NeverDone 0)
last_answer (Call sheet argument) = Err (NeverDone 0)
last_answer (Done reading) = Ok reading

-- how it ends to work a sheet out from a point, with at most so many sheets above one another, and so many answers left for this one:
-- each question is answered by what is read at the moment, or by working out the sheet that is called (21, then 22 if no depth is left), and the first fault ends it
pub data Works (db : Db) (rules : Rules) (moment : ℕ) : ℕ → ℕ → Point → Result Reading Fault → Type 0 where
  last : {depth : ℕ} {point : Point} → Works db rules moment depth 1 point (last_answer (rules.turn point).ask)
  done : {depth left : ℕ} {point : Point} {reading : Reading} → (rules.turn point).ask ≡ Done reading → Works db rules moment depth (suc (suc left)) point (Ok reading)
  refused : {depth left : ℕ} {point : Point} (asked : Query) (fault : Fault) → (rules.turn point).ask ≡ Asked asked → ReadsAt db moment asked (Err fault)
      → Works db rules moment depth (suc (suc left)) point (Err fault)
  query : {depth left : ℕ} {point : Point} {result : Result Reading Fault} (asked : Query) (got : Reading) → (rules.turn point).ask ≡ Asked asked → ReadsAt db moment asked (Ok got)
      → Works db rules moment depth (suc left) (after (rules.turn point) point got) result → Works db rules moment depth (suc (suc left)) point result
  unknown : {depth left : ℕ} {point : Point} (sheet argument : ℕ) → (rules.turn point).ask ≡ Call sheet argument → rules.sheets ≤ sheet
      → Works db rules moment depth (suc (suc left)) point (Err (SheetUnknown 0))
  deep : {left : ℕ} {point : Point} (sheet argument : ℕ) → (rules.turn point).ask ≡ Call sheet argument → sheet < rules.sheets
      → Works db rules moment 0 (suc (suc left)) point (Err (TooDeep 0))
  failed : {depth left : ℕ} {point : Point} (sheet argument : ℕ) (fault : Fault) → (rules.turn point).ask ≡ Call sheet argument → sheet < rules.sheets
      → Works db rules moment depth 32 (start sheet argument) (Err fault) → Works db rules moment (suc depth) (suc (suc left)) point (Err fault)
  call : {depth left : ℕ} {point : Point} {result : Result Reading Fault} (sheet argument : ℕ) (got : Reading) → (rules.turn point).ask ≡ Call sheet argument → sheet < rules.sheets
      → Works db rules moment depth 32 (start sheet argument) (Ok got) → Works db rules moment (suc depth) (suc left) (after (rules.turn point) point got) result
      → Works db rules moment (suc depth) (suc (suc left)) point result

-- a sheet is worked out from its start, with 32 answers; 21 if it is not there
abbrev pub WorksOut : Db → Rules → ℕ → ℕ → ℕ → ℕ → Result Reading Fault → Type 0
WorksOut db rules moment sheet argument depth result =
    ((rules.sheets ≤ sheet) × (result ≡ Err (SheetUnknown 0))) ⊎ ((sheet < rules.sheets) × Works db rules moment depth 32 (start sheet argument) result)

-- why a sheet is not worked out: the moment is not held (32), no run ends within the depth (22),
-- or the sheet has no value at all: it or one that it calls is not there (21), is not done with its 32nd answer (23), or asks a table of 8 or above (24)
abbrev pub Fails : (held none within : Type 0) → Fault → Type 0
Fails unheld none within fault =
    (unheld × (fault ≡ NotHeld 0)) ⊎ ((within × (fault ≡ TooDeep 0))
    ⊎ (none × ((fault ≡ SheetUnknown 0) ⊎ ((fault ≡ NeverDone 0) ⊎ (fault ≡ RecipeTable 0)))))

-- the sheet's value at the records of the moment, or why there is none to be had
abbrev pub Evaluates : Db → Rules → ℕ → ℕ → ℕ → ℕ → Result Reading Fault → Type 0
Evaluates db rules moment sheet argument depth (Ok reading) = GivesWithin rules (db.at moment) depth sheet argument reading
Evaluates db rules moment sheet argument depth (Err fault) =
    Fails (held db moment ≡ false)
    ((reading : Reading) → Gives rules (db.at moment) sheet argument reading → ⊥)
    ((reading : Reading) → GivesWithin rules (db.at moment) depth sheet argument reading → ⊥)
    fault
