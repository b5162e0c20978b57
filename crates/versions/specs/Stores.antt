-- What the version store holds, what that means, and what each call makes of it.
use Rattle.std.specs.Prelude.{◌≡◌, ℕ, ◌+◌, ◌-◌, ◌≤◌, Bool, true, cond, ◌&&◌, leb, List, [], length, vec_items, filter, nat_le, nat_lt}
use Rattle.terms.specs.declared.record.Change.{Change}
use Rattle.terms.specs.declared.record.Query.{Query}
use Rattle.terms.specs.declared.fault.Fault.{Fault}
use Rattle.terms.specs.declared.fault.Fault.TheVariants.{OutOfRange, OutOfMemory}
use Rattle.terms.specs.Moments.{highest, is_moment}
use Rattle.terms.specs.Records.{query_tag}
use Rattle.database.specs.declared.Answer.{Answer}
use Rattle.std.specs.List.{list_all}
use Rattle.database.specs.Lists.{distinct, added, without}
use Rattle.database.specs.Rows.{unique, read_rows}
use Rattle.database.specs.Databases.{Db}
use Rattle.validity.specs.declared.version.Version.{Version}
use Rattle.validity.specs.Versions.{rows_at, dated}
use Rattle.versions.specs.declared.store.VersionStore.{VersionStore}
use Rattle.versions.specs.Versions.{state_at, needed, validity, changed_by_all}

-- the places, the latest moment, the pinned moments and the kept versions
pub record Store : Type 0 where
  pub places : ℕ
  pub latest : ℕ
  pub pins : List ℕ
  pub kept : List Version

-- what lies in memory
abbrev pub store_of : VersionStore → Store
store_of s = record { places = s.places; latest = s.snapshots.latest; pins = vec_items s.snapshots.pins.moments; kept = vec_items s.versions }

-- the versions visible at a held moment
abbrev pub needed_of : Store → List Version
needed_of s = filter (needed s.latest s.pins) s.kept

-- what it means as a database: the free number is the places less the versions visible at a held moment
abbrev pub meaning : Store → Db
meaning s = record { latest = s.latest; pins = s.pins; free = s.places - length (needed_of s); at = state_at s.kept }

-- empty at a first moment
abbrev pub empty_at : ℕ → ℕ → Store
empty_at places first = record { places = places; latest = first; pins = []; kept = [] }

-- 1 to 4,096 places, and a first moment that is one
abbrev pub in_range : ℕ → ℕ → Bool
in_range places first = nat_lt 0 places && (nat_le places 4096 && is_moment first)

-- a making is refused outside these ranges (61), or for want of memory (62)
abbrev pub Refused : ℕ → ℕ → Fault → Type 0
Refused places first fault = fault ≡ cond (in_range places first) OutOfMemory OutOfRange

-- the latest moment pinned
abbrev pub pinned : Store → Store
pinned s = record { places = s.places; latest = s.latest; pins = added s.latest s.pins; kept = s.kept }

-- a moment pinned no longer
abbrev pub unpinned : ℕ → Store → Store
unpinned moment s = record { places = s.places; latest = s.latest; pins = without moment s.pins; kept = s.kept }

-- no moment pinned
abbrev pub unpinned_all : Store → Store
unpinned_all s = record { places = s.places; latest = s.latest; pins = []; kept = s.kept }

-- an accepted write discards the versions visible at no held moment, and then makes its changes
abbrev pub written : List Change → Store → Store
written changes s = record { places = s.places; latest = s.latest + 1; pins = s.pins; kept = changed_by_all (s.latest + 1) changes (needed_of s) }

-- the answer of an ask at a held moment
abbrev pub answer_at : Store → ℕ → Query → Answer
answer_at s moment query = record { reading = read_rows query (rows_at moment s.kept); tag = query_tag query; interval = validity s.latest moment query s.kept }

-- what holds of every version store
pub record Good (s : Store) : Type 0 where
  pub size : s.places ≤ 4096
  pub fits : length s.kept ≤ s.places
  pub moment : s.latest ≤ highest
  pub few : length s.pins ≤ 32
  pub once : distinct s.pins ≡ true
  pub past : list_all (λ pin. leb pin s.latest) s.pins ≡ true
  pub dates : list_all (dated s.latest) s.kept ≡ true
  pub apart : (m : ℕ) → unique (rows_at m s.kept) ≡ true
