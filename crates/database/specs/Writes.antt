-- What a list of changes makes of a state, and when it is refused.
use Rattle.std.specs.Prelude.{◌≡◌, ℕ, Bool, cond, List, [], ◌∷◌, ◌++◌, length, Some, None, MatchResult, Option, Result, ◌==◌, nat_lt}
use Rattle.terms.specs.declared.record.RecordId.{RecordId}
use Rattle.terms.specs.declared.record.Change.{Change}
use Rattle.terms.specs.declared.fault.Fault.{Fault}
use Rattle.terms.specs.declared.fault.Fault.TheVariants.{NoChange, TooManyChanges, RecordRepeated, ChangeTable, MomentsUsedUp, StoreFull}
use Rattle.terms.specs.Moments.{highest}
use Rattle.terms.specs.Records.{is_id, known_table, change_id, change_value}
use Rattle.std.specs.List.{list_any}
use Rattle.database.specs.States.{Records}

-- one change: its record holds what it says, every other what it held
abbrev pub put : Change → Records → Records
put change records table key = cond (is_id (change_id change) (record { table = table; key = key })) (change_value change) (records table key)

-- a list of changes, one after the other
abbrev pub changed : List Change → Records → Records
changed [] records = records
changed (change ∷ changes) records = changed changes (put change records)

-- whether a change of the list names the record
abbrev pub names : RecordId → List Change → Bool
names id changes = list_any (λ change. is_id id (change_id change)) changes

-- the first wrong change after those in `earlier`: its table is not there (44), or else its record is named earlier (43)
abbrev pub wrong_change : List Change → List Change → Option Fault
wrong_change earlier [] = None
wrong_change earlier (change ∷ changes) =
    cond (known_table (change_id change).table)
    (cond (names (change_id change) earlier) (Some (RecordRepeated (length earlier))) (wrong_change (earlier ++ change ∷ []) changes))
    (Some (ChangeTable (length earlier)))

-- what is wrong with a list of changes: none (41), over 16 (42), then 44 and 43 change by change
abbrev pub wrong_list : List Change → Option Fault
wrong_list changes =
    cond (length changes == 0) (Some NoChange)
    (cond (nat_lt 16 (length changes)) (Some TooManyChanges) (wrong_change [] changes))

-- 45: the latest moment is the highest; then 47: the free number is below the number of changes
abbrev pub no_room : ℕ → ℕ → List Change → Option Fault
no_room latest free changes =
    cond (nat_lt latest highest) (cond (nat_lt free (length changes)) (Some StoreFull) None) (Some MomentsUsedUp)

-- the first of two faults that there is
abbrev pub or_else : Option Fault → Option Fault → Option Fault
or_else (Some fault) other = Some fault
or_else None other = other

-- an answer that refuses exactly what there is to refuse
abbrev pub Refuses : Option Fault → Result (Unit {0}) Fault → Type 0
Refuses reason answer = MatchResult answer (λ _. reason ≡ None) (λ fault. reason ≡ Some fault)

-- why a write is refused, if it is
abbrev pub refusal : ℕ → ℕ → List Change → Option Fault
refusal latest free changes = or_else (wrong_list changes) (no_room latest free changes)
