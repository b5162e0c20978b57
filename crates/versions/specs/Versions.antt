-- The versions that a store keeps: which are needed, for how long a reading of them is right, and what changes make of them.
use Rattle.std.specs.Prelude.{ℕ, Bool, true, false, cond, ◌&&◌, List, [], ◌∷◌, ◌++◌, map, Some, None, Option}
use Rattle.terms.specs.declared.record.RecordId.{RecordId}
use Rattle.terms.specs.declared.record.Query.{Query}
use Rattle.terms.specs.declared.record.Change.{Change}
use Rattle.terms.specs.declared.record.Change.TheVariants.{Set, Delete}
use Rattle.terms.specs.declared.interval.Interval.{Interval}
use Rattle.terms.specs.Records.{is_id, change_id}
use Rattle.std.specs.List.{list_any}
use Rattle.database.specs.States.{Records}
use Rattle.database.specs.Rows.{holding}
use Rattle.validity.specs.declared.version.Version.{Version}
use Rattle.validity.specs.Turns.{between}
use Rattle.validity.specs.Versions.{visible, rows_at, turns_among}
use Rattle.validity.specs.Scans.{counts}

-- the state of all records at a moment
abbrev pub state_at : List Version → ℕ → Records
state_at versions moment = holding (rows_at moment versions)

-- whether the version is visible at a held moment: the latest or a pinned one
abbrev pub needed : ℕ → List ℕ → Version → Bool
needed latest pins version = list_any (λ moment. visible moment version) (latest ∷ pins)

-- the made and replaced moments of the versions that match a query; every made moment counts
abbrev pub turns_of : Query → List Version → List ℕ
turns_of query versions = turns_among (counts None) query versions

-- for how long a query's reading at a moment is right
abbrev pub validity : ℕ → ℕ → Query → List Version → Interval
validity latest moment query versions = between latest moment (turns_of query versions)

-- whether the version has not been replaced
abbrev pub current : Option ℕ → Bool
current None = true
current (Some replaced) = false

-- the present version of the record is replaced at the moment
abbrev pub retired : ℕ → RecordId → Version → Version
retired moment id version =
    cond (current version.replaced && is_id id version.row.id)
    (record { row = version.row; made = version.made; replaced = Some moment }) version

-- what a change makes: a version, also of an equal value; a delete makes none
abbrev pub fresh : ℕ → Change → List Version
fresh moment (Set id value) = record { row = record { id = id; value = value }; made = moment; replaced = None } ∷ []
fresh moment (Delete id) = []

-- the versions after a change
abbrev pub changed_by : ℕ → Change → List Version → List Version
changed_by moment change versions = map (retired moment (change_id change)) versions ++ fresh moment change

-- the versions after a list of changes
abbrev pub changed_by_all : ℕ → List Change → List Version → List Version
changed_by_all moment [] versions = versions
changed_by_all moment (change ∷ changes) versions = changed_by_all moment changes (changed_by moment change versions)
