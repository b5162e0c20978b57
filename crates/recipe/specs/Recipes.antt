-- What a recipe means, and the value of a sheet at a state of all records.
use Rattle.std.specs.Prelude.{◌≡◌, ℕ, suc, ◌<◌, ◌≤◌, true, List, [], ◌∷◌, ◌++◌, None}
use Rattle.terms.specs.declared.record.Query.{Query}
use Rattle.terms.specs.declared.tag.Tag.{Tag}
use Rattle.terms.specs.Records.{Reading, known_table, query_tag}
use Rattle.database.specs.States.{Records, Reads, Agree}
use Rattle.recipe.specs.declared.Point.{Point}
use Rattle.recipe.specs.declared.Turn.{Turn}
use Rattle.recipe.specs.declared.Ask.TheVariants.{Query as Asked, Call, Done}

-- how many sheets there are, and what is answered at each point
pub record Rules : Type 0 where
  pub sheets : ℕ
  pub turn : Point → Turn

-- a recipe has 1 to 255 sheets
pub record Sized (rules : Rules) : Type 0 where
  pub some : 1 ≤ rules.sheets
  pub few : rules.sheets ≤ 255

-- a sheet starts at stage 0, carry 0, absent
abbrev pub start : ℕ → ℕ → Point
start sheet argument = record { sheet = sheet; argument = argument; stage = 0; carry = 0; last = None }

-- the point after an answer, once its question has been given a reading
abbrev pub after : Turn → Point → Reading → Point
after turn point reading = record { sheet = point.sheet; argument = point.argument; stage = turn.stage; carry = turn.carry; last = reading }

-- the table of a query
abbrev pub table_of : Query → ℕ
table_of query = (query_tag query).table

-- a run at a state from a point to its reading, with at most so many answers for this sheet and so many sheets above one another,
-- and the tags of all that was read: each question is answered by what is read in the state, or by a whole run of the sheet called,
-- which has 32 answers of its own. A table of 8 or above, a sheet that is not there and a last answer other than done have no run.
pub data Runs (rules : Rules) (records : Records) : ℕ → ℕ → Point → Reading → List Tag → Type 0 where
  done : {depth left : ℕ} {point : Point} {reading : Reading} → (rules.turn point).ask ≡ Done reading → Runs rules records depth (suc left) point reading []
  query : {depth left : ℕ} {point : Point} {reading : Reading} {tags : List Tag} (asked : Query) (got : Reading)
      → (rules.turn point).ask ≡ Asked asked → known_table (table_of asked) ≡ true → Reads records asked got
      → Runs rules records depth left (after (rules.turn point) point got) reading tags
      → Runs rules records depth (suc left) point reading (query_tag asked ∷ tags)
  call : {depth left : ℕ} {point : Point} {reading : Reading} {tags inner : List Tag} (sheet argument : ℕ) (got : Reading)
      → (rules.turn point).ask ≡ Call sheet argument → sheet < rules.sheets
      → Runs rules records depth 32 (start sheet argument) got inner
      → Runs rules records (suc depth) left (after (rules.turn point) point got) reading tags
      → Runs rules records (suc depth) (suc left) point reading (inner ++ tags)

-- what a run from a point ends with, within a depth of calls
abbrev pub Ends : Rules → Records → ℕ → ℕ → Point → Reading → Type 0
Ends rules records depth left point reading = (tags : List Tag) × Runs rules records depth left point reading tags

-- the value of a sheet within a depth of calls: that of a run from its start, with at most 32 answers
abbrev pub GivesWithin : Rules → Records → ℕ → ℕ → ℕ → Reading → Type 0
GivesWithin rules records depth sheet argument reading = (sheet < rules.sheets) × Ends rules records depth 32 (start sheet argument) reading

-- the value of a sheet, with any depth of calls. It may not exist
abbrev pub Gives : Rules → Records → ℕ → ℕ → Reading → Type 0
Gives rules records sheet argument reading = (depth : ℕ) × GivesWithin rules records depth sheet argument reading

-- two states answer alike on every record that one of the tags touches
abbrev pub AgreeAll : List Tag → Records → Records → Type 0
AgreeAll [] one other = Unit {0}
AgreeAll (tag ∷ tags) one other = Agree tag one other × AgreeAll tags one other

-- where a sheet has a value it is one
abbrev pub ValueIsOne : Rules → Type 0
ValueIsOne rules = (records : Records) (sheet argument : ℕ) (one other : Reading) → Gives rules records sheet argument one → Gives rules records sheet argument other → one ≡ other

-- a run rests on the records that its tags touch: it is one in every state that answers alike on them
abbrev pub ValueRests : Rules → Type 0
ValueRests rules = (one other : Records) (depth left : ℕ) (point : Point) (reading : Reading) (tags : List Tag) → Runs rules one depth left point reading tags → AgreeAll tags one other → Runs rules other depth left point reading tags
