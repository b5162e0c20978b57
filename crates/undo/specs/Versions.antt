-- The versions that the present records and the kept entries tell, and for how long a reading of them is right.
use Rattle.std.specs.Prelude.{ℕ, Bool, true, false, cond, not, ◌&&◌, List, [], ◌∷◌, ◌++◌, map, Some, None, filter, Option, ◌==◌, nat_le, nat_lt}
use Rattle.std.specs.List.{flat_map, list_any}
use Rattle.terms.specs.declared.record.RecordId.{RecordId}
use Rattle.terms.specs.declared.record.Value.{Value}
use Rattle.terms.specs.declared.record.Row.{Row}
use Rattle.terms.specs.declared.record.Query.{Query}
use Rattle.terms.specs.Records.{is_id}
use Rattle.undo.specs.declared.entry.Held.{Held}
use Rattle.undo.specs.declared.entry.Present.{Present}
use Rattle.undo.specs.declared.entry.Entry.{Entry}
use Rattle.validity.specs.declared.version.Version.{Version}
use Rattle.validity.specs.Versions.{rows_at, turns_among}
use Rattle.undo.specs.Journals.{state_at}

-- a present record is a version that has not been replaced
abbrev pub current : Present → Version
current p = record { row = p.row; made = p.made; replaced = None }

-- an entry with a former value is a version that its commit has replaced
abbrev pub former : RecordId → ℕ → Option Held → List Version
former id commit None = []
former id commit (Some held) = record { row = record { id = id; value = held.value }; made = held.made; replaced = Some commit } ∷ []

abbrev pub replaced_by : Entry → List Version
replaced_by entry = former entry.id entry.commit entry.former

-- the versions told
abbrev pub versions : List Present → List Entry → List Version
versions present entries = map current present ++ flat_map replaced_by entries

-- whether a kept entry tells that the record was changed at the moment
abbrev pub tells : List Entry → RecordId → ℕ → Bool
tells entries id moment = list_any (λ entry. is_id id entry.id && moment == entry.commit) entries

-- a made moment counts where a kept entry tells it
abbrev pub is_told : List Entry → Version → Bool
is_told entries version = tells entries version.row.id version.made

-- the turns of a query: the made and replaced moments of the versions that match it, as far as they count
abbrev pub turns_of : Query → List Present → List Entry → List ℕ
turns_of query present entries = turns_among (is_told entries) query (versions present entries)

-- whether a version was made above the floor
abbrev pub is_above : ℕ → Version → Bool
is_above floor version = nat_lt floor version.made

-- whether a kept entry tells the made moment of a version exactly if it is above the floor
abbrev pub rightly : ℕ → List Entry → Version → Bool
rightly floor entries version = cond (nat_lt floor version.made) (is_told entries version) (not (is_told entries version))

-- the values of a record in a list of rows
abbrev pub values_in : List Row → ℕ → ℕ → List Value
values_in rows table key = map (λ row. row.value) (filter (λ row. is_id row.id (record { table = table; key = key })) rows)

-- whether the values are the one given, or none where none is
abbrev pub is_only : List Value → Option Value → Bool
is_only [] None = true
is_only [] (Some value) = false
is_only (one ∷ values) None = false
is_only (one ∷ []) (Some value) = one.state == value.state && one.word == value.word
is_only (one ∷ (two ∷ values)) (Some value) = false

-- whether the versions of a record visible at a moment from the floor on are the one that it holds there, or none
abbrev pub is_shown : ℕ → List Present → List Entry → ℕ → ℕ → ℕ → Bool
is_shown floor present entries moment table key =
    cond (nat_le floor moment) (is_only (values_in (rows_at moment (versions present entries)) table key) (state_at present entries moment table key)) true
