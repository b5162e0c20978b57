-- What the undo store holds, what that means, and what each call makes of it.
use Rattle.std.specs.Prelude.{◌≡◌, ℕ, ◌+◌, ◌-◌, ◌≤◌, min, Bool, true, cond, ◌&&◌, leb, List, [], ◌∷◌, length, vec_items, nat_le, nat_lt}
use Rattle.terms.specs.declared.record.Change.{Change}
use Rattle.terms.specs.declared.record.Query.{Query}
use Rattle.terms.specs.declared.interval.Interval.{Interval}
use Rattle.terms.specs.declared.fault.Fault.{Fault}
use Rattle.terms.specs.declared.fault.Fault.TheVariants.{OutOfRange, OutOfMemory}
use Rattle.terms.specs.Moments.{highest, is_moment}
use Rattle.std.specs.List.{list_all}
use Rattle.database.specs.Lists.{distinct, least, added, without}
use Rattle.database.specs.Rows.{unique}
use Rattle.validity.specs.Turns.{between}
use Rattle.validity.specs.Versions.{dated}
use Rattle.database.specs.Databases.{Db}
use Rattle.line.specs.Rings.{waiting}
use Rattle.undo.specs.declared.entry.Present.{Present}
use Rattle.undo.specs.declared.entry.Entry.{Entry}
use Rattle.undo.specs.declared.ledger.Ledger.{Ledger}
use Rattle.undo.specs.declared.store.UndoStore.{UndoStore}
use Rattle.undo.specs.Journals.{later, rows_of, state_at, present_after_all, entries_after_all, ascending}
use Rattle.undo.specs.Versions.{versions, turns_of, rightly, is_shown}

-- the size, the latest moment, the floor up to which entries have been discarded, the pinned moments,
-- the present records, and the kept entries, oldest first
pub record Store : Type 0 where
  pub size : ℕ
  pub latest : ℕ
  pub floor : ℕ
  pub pins : List ℕ
  pub present : List Present
  pub entries : List Entry

-- what lies in memory, with these moments
abbrev pub store_from : ℕ → ℕ → List ℕ → Ledger → Store
store_from latest floor pins ledger = record {
  size = ledger.line.size;
  latest = latest;
  floor = floor;
  pins = pins;
  present = vec_items ledger.present;
  entries = waiting ledger.line ledger.journal.now;
}

-- the lowest held moment
abbrev pub lowest : Store → ℕ
lowest s = least s.latest s.pins

-- the entries with a commit above the lowest held moment
abbrev pub needed_of : Store → List Entry
needed_of s = later (lowest s) s.entries

-- the smaller of the unused rows and of the journal places that are not needed
abbrev pub free_of : Store → ℕ
free_of s = min (s.size - length s.present) (s.size - length (needed_of s))

-- what it means as a database
abbrev pub meaning : Store → Db
meaning s = record { latest = s.latest; pins = s.pins; free = free_of s; at = state_at s.present s.entries }

-- empty at a first moment
abbrev pub empty_at : ℕ → ℕ → Store
empty_at size first = record { size = size; latest = first; floor = first; pins = []; present = []; entries = [] }

-- 1 to 4,096 rows, and a first moment that is one
abbrev pub in_range : ℕ → ℕ → Bool
in_range size first = nat_lt 0 size && (nat_le size 4096 && is_moment first)

-- a making is refused outside these ranges (61), or for want of memory (62)
abbrev pub Refused : ℕ → ℕ → Fault → Type 0
Refused size first fault = fault ≡ cond (in_range size first) OutOfMemory OutOfRange

-- the same store with other pins
abbrev pub with_pins : List ℕ → Store → Store
with_pins pins s = record { size = s.size; latest = s.latest; floor = s.floor; pins = pins; present = s.present; entries = s.entries }

-- the latest moment pinned
abbrev pub pinned : Store → Store
pinned s = with_pins (added s.latest s.pins) s

-- a moment pinned no longer
abbrev pub unpinned : ℕ → Store → Store
unpinned moment s = with_pins (without moment s.pins) s

-- no moment pinned
abbrev pub unpinned_all : Store → Store
unpinned_all s = with_pins [] s

-- an accepted write discards the entries that are not needed, and then makes its changes at the moment after the latest
abbrev pub written : List Change → Store → Store
written changes s = record {
  size = s.size;
  latest = s.latest + 1;
  floor = lowest s;
  pins = s.pins;
  present = present_after_all (s.latest + 1) changes s.present;
  entries = entries_after_all (s.latest + 1) changes s.present (needed_of s);
}

-- for how long a query's reading at a moment is right
abbrev pub validity : Store → ℕ → Query → Interval
validity s moment query = between s.latest moment (turns_of query s.present s.entries)

-- what holds of every undo store
pub record Good (s : Store) : Type 0 where
  pub size : s.size ≤ 4096
  pub rows : length s.present ≤ s.size
  pub places : length s.entries ≤ s.size
  pub moment : s.latest ≤ highest
  pub few : length s.pins ≤ 32
  pub once : distinct s.pins ≡ true
  pub past : list_all (λ pin. leb pin s.latest) s.pins ≡ true
  -- no held moment is below the floor
  pub kept : list_all (λ moment. leb s.floor moment) (s.latest ∷ s.pins) ≡ true
  pub single : unique (rows_of s.present) ≡ true
  pub ascends : ascending s.entries ≡ true
  pub commits : list_all (λ entry. leb entry.commit s.latest) s.entries ≡ true
  pub dates : list_all (dated s.latest) (versions s.present s.entries) ≡ true
  -- a kept entry tells a made moment exactly if it is above the floor
  pub told : list_all (rightly s.floor s.entries) (versions s.present s.entries) ≡ true
  -- of a record the versions visible at a moment from the floor on are the one that it holds there, or none
  pub apart : (moment table key : ℕ) → is_shown s.floor s.present s.entries moment table key ≡ true

-- what lies in memory
abbrev pub store_of : UndoStore → Store
store_of s = store_from s.snapshots.latest s.floor (vec_items s.snapshots.pins.moments) s.ledger
