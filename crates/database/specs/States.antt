-- The state of all records at a moment, and what a query reads there.
use Rattle.std.specs.Prelude.{◌≡◌, ℕ, Bool, true, false, cond, List, [], ◌∷◌, length, Some, None, Option, ◌==◌}
use Rattle.terms.specs.declared.record.Value.{Value}
use Rattle.terms.specs.declared.record.Query.{Query}
use Rattle.terms.specs.declared.record.Query.TheVariants.{Get, Tally}
use Rattle.terms.specs.declared.tag.Tag.{Tag}
use Rattle.terms.specs.Records.{Reading, known_table, shown}
use Rattle.terms.specs.Tags.{touches}
use Rattle.database.specs.Lists.{among, distinct, least}

-- what each record holds, by table and key
abbrev pub Records : Type 0
Records = ℕ → ℕ → Option Value

-- what a reader sees of a record: a table of 8 or above reads as empty
abbrev pub seen : Records → ℕ → ℕ → Option Value
seen records table key = cond (known_table table) (records table key) None

-- whether a record is present, with the state given
abbrev pub in_state : ℕ → Option Value → Bool
in_state state None = false
in_state state (Some value) = value.state == state

-- the keys of the records of a table in a state, each once
pub record KeysIn (records : Records) (table state : ℕ) (keys : List ℕ) : Type 0 where
  pub once : distinct keys ≡ true
  pub these : (key : ℕ) → among key keys ≡ in_state state (seen records table key)

-- a tally reads (number of records, their smallest key), or absent if there is none
abbrev pub tallied : List ℕ → Reading
tallied [] = None
tallied (key ∷ keys) = Some (length (key ∷ keys), least key keys)

-- what a query reads in a state of all records
abbrev pub Reads : Records → Query → Reading → Type 0
Reads records (Get id) reading = reading ≡ shown (seen records id.table id.key)
Reads records (Tally table state) reading = (keys : List ℕ) × KeysIn records table state keys × (reading ≡ tallied keys)

-- two states answer alike on every record that the tag touches
abbrev pub Agree : Tag → Records → Records → Type 0
Agree tag one other = (table key : ℕ) → touches tag (record { table = table; key = Some key }) ≡ true → one table key ≡ other table key

-- a query reads the same in two states that answer alike on every record that its tag touches
abbrev pub ReadsAlike : Query → Tag → Type 0
ReadsAlike query tag = (one other : Records) (reading : Reading) → Agree tag one other → Reads one query reading → Reads other query reading

-- a query has at most one reading in a state
abbrev pub ReadsOne : Query → Type 0
ReadsOne query = (records : Records) (one other : Reading) → Reads records query one → Reads records query other → one ≡ other
