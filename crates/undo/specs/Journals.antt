-- The journal: what undoing its entries gives back, and what changes make of it and of the present records.
use Rattle.std.specs.Prelude.{ℕ, Bool, true, false, cond, not, ◌&&◌, List, [], ◌∷◌, ◌++◌, map, Some, None, filter, Option, nat_le, nat_lt}
use Rattle.terms.specs.declared.record.RecordId.{RecordId}
use Rattle.terms.specs.declared.record.Value.{Value}
use Rattle.terms.specs.declared.record.Row.{Row}
use Rattle.terms.specs.declared.record.Change.{Change}
use Rattle.terms.specs.declared.record.Change.TheVariants.{Set, Delete}
use Rattle.terms.specs.Records.{is_id, change_id}
use Rattle.std.specs.List.{list_all}
use Rattle.database.specs.States.{Records}
use Rattle.database.specs.Rows.{holding}
use Rattle.undo.specs.declared.entry.Held.{Held}
use Rattle.undo.specs.declared.entry.Present.{Present}
use Rattle.undo.specs.declared.entry.Entry.{Entry}

-- the former value of an entry
abbrev pub former_value : Option Held → Option Value
former_value None = None
former_value (Some held) = Some held.value

-- with an entry undone its record holds the former value, every other what it held
abbrev pub undo : Entry → Records → Records
undo entry records table key = cond (is_id entry.id (record { table = table; key = key })) (former_value entry.former) (records table key)

-- entries, which stand oldest first, undone newest first
abbrev pub undone : List Entry → Records → Records
undone [] records = records
undone (entry ∷ entries) records = undo entry (undone entries records)

-- the entries with a commit above a moment
abbrev pub later : ℕ → List Entry → List Entry
later moment entries = filter (λ entry. nat_lt moment entry.commit) entries

-- the present records
abbrev pub rows_of : List Present → List Row
rows_of present = map (λ p. p.row) present

-- the state at a moment: the present records, with the later commits undone
abbrev pub state_at : List Present → List Entry → ℕ → Records
state_at present entries moment = undone (later moment entries) (holding (rows_of present))

-- what is held of a record, if it is present
abbrev pub held_of : RecordId → List Present → Option Held
held_of id [] = None
held_of id (p ∷ present) = cond (is_id id p.row.id) (Some (record { value = p.row.value; made = p.made })) (held_of id present)

-- whether a present record is another than the one named
abbrev pub other_than : RecordId → Present → Bool
other_than id p = not (is_id id p.row.id)

-- what a change makes present
abbrev pub fresh : ℕ → Change → List Present
fresh moment (Set id value) = record { row = record { id = id; value = value }; made = moment } ∷ []
fresh moment (Delete id) = []

-- the present records after a change
abbrev pub present_after : ℕ → Change → List Present → List Present
present_after moment change present = filter (other_than (change_id change)) present ++ fresh moment change

-- whether a change leaves an entry: only the delete of an absent record leaves none
abbrev pub leaves : Change → Option Held → Bool
leaves (Set id value) former = true
leaves (Delete id) None = false
leaves (Delete id) (Some held) = true

-- the entry that a change leaves: with the former value, also where a set gives an equal one
abbrev pub entries_by : ℕ → Change → List Present → List Entry
entries_by moment change present =
    cond (leaves change (held_of (change_id change) present))
    (record { commit = moment; id = change_id change; former = held_of (change_id change) present } ∷ []) []

-- the present records after a list of changes
abbrev pub present_after_all : ℕ → List Change → List Present → List Present
present_after_all moment [] present = present
present_after_all moment (change ∷ changes) present = present_after_all moment changes (present_after moment change present)

-- the entries after a list of changes to these present records
abbrev pub entries_after_all : ℕ → List Change → List Present → List Entry → List Entry
entries_after_all moment [] present entries = entries
entries_after_all moment (change ∷ changes) present entries =
    entries_after_all moment changes (present_after moment change present) (entries ++ entries_by moment change present)

-- the commits of entries ascend
abbrev pub ascending : List Entry → Bool
ascending [] = true
ascending (entry ∷ entries) = list_all (λ next. nat_le entry.commit next.commit) entries && ascending entries
