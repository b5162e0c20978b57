-- Records, changes and queries, with the tags that they bear.
use Rattle.std.specs.Prelude.{ℕ, Bool, ◌&&◌, Some, None, Option, ◌==◌, nat_lt}
use Rattle.terms.specs.declared.record.RecordId.{RecordId}
use Rattle.terms.specs.declared.record.Value.{Value}
use Rattle.terms.specs.declared.record.Change.{Change}
use Rattle.terms.specs.declared.record.Change.TheVariants.{Set, Delete}
use Rattle.terms.specs.declared.record.Query.{Query}
use Rattle.terms.specs.declared.record.Query.TheVariants.{Get, Tally}
use Rattle.terms.specs.declared.tag.Tag.{Tag}

-- a reading is absent or a pair of numbers
abbrev pub Reading : Type 0
Reading = Option (ℕ × ℕ)

-- the tables are 0 to 7
abbrev pub known_table : ℕ → Bool
known_table table = nat_lt table 8

-- the same table and key
abbrev pub is_id : RecordId → RecordId → Bool
is_id one other = one.table == other.table && one.key == other.key

-- a get reads absent, or (state, word)
abbrev pub shown : Option Value → Reading
shown None = None
shown (Some value) = Some (value.state, value.word)

-- the tag table:key
abbrev pub one_tag : RecordId → Tag
one_tag id = record { table = id.table; key = Some id.key }

-- the tag table:star
abbrev pub star_tag : ℕ → Tag
star_tag table = record { table = table; key = None }

-- the record that a change names
abbrev pub change_id : Change → RecordId
change_id (Set id value) = id
change_id (Delete id) = id

-- what the record holds after the change
abbrev pub change_value : Change → Option Value
change_value (Set id value) = Some value
change_value (Delete id) = None

-- a change bears table:key
abbrev pub change_tag : Change → Tag
change_tag change = one_tag (change_id change)

-- a get bears table:key, a tally table:star
abbrev pub query_tag : Query → Tag
query_tag (Get id) = one_tag id
query_tag (Tally table state) = star_tag table
