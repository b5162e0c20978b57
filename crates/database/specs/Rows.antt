-- A list of present records, what it holds, and what a query reads of it.
use Rattle.std.specs.Prelude.{Bool, true, cond, not, ◌&&◌, List, [], ◌∷◌, map, Some, None, filter, ◌==◌}
use Rattle.terms.specs.declared.record.RecordId.{RecordId}
use Rattle.terms.specs.declared.record.Row.{Row}
use Rattle.terms.specs.declared.record.Query.{Query}
use Rattle.terms.specs.declared.record.Query.TheVariants.{Get, Tally}
use Rattle.terms.specs.Records.{Reading, is_id, known_table, shown}
use Rattle.std.specs.List.{list_any}
use Rattle.database.specs.States.{Records, tallied}

-- what each record holds, if these are the present ones
abbrev pub holding : List Row → Records
holding [] table key = None
holding (row ∷ rows) table key = cond (is_id row.id (record { table = table; key = key })) (Some row.value) (holding rows table key)

-- whether a row is of the record
abbrev pub present : RecordId → List Row → Bool
present id rows = list_any (λ row. is_id id row.id) rows

-- no record stands twice
abbrev pub unique : List Row → Bool
unique [] = true
unique (row ∷ rows) = not (present row.id rows) && unique rows

-- a row matches a get by table and key, a tally by table and state
abbrev pub matches : Query → Row → Bool
matches (Get id) row = known_table id.table && is_id id row.id
matches (Tally table state) row = known_table table && (table == row.id.table && state == row.value.state)

-- the value of the first row, as a get reads it
abbrev pub first_shown : List Row → Reading
first_shown [] = None
first_shown (row ∷ rows) = shown (Some row.value)

-- what a query reads of the rows that match it
abbrev pub read_matched : Query → List Row → Reading
read_matched (Get id) rows = first_shown rows
read_matched (Tally table state) rows = tallied (map (λ row. row.id.key) rows)

-- what a query reads of present records
abbrev pub read_rows : Query → List Row → Reading
read_rows query rows = read_matched query (filter (matches query) rows)
