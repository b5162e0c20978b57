-- One pass over versions: what it has found after some of them, and what one more adds.
use Rattle.std.specs.Prelude.{ℕ, ◌+◌, min, max, Bool, true, cond, List, [], ◌∷◌, Some, None, Option, nat_le, nat_lt}
use Rattle.terms.specs.declared.record.Row.{Row}
use Rattle.terms.specs.declared.record.Query.{Query}
use Rattle.terms.specs.declared.record.Query.TheVariants.{Get, Tally}
use Rattle.terms.specs.Records.{Reading, shown, query_tag}
use Rattle.database.specs.declared.Answer.{Answer}
use Rattle.database.specs.Rows.{matches, read_rows}
use Rattle.validity.specs.declared.scan.Scan.{Scan}
use Rattle.validity.specs.declared.version.Version.{Version}
use Rattle.validity.specs.Turns.{first_of, end_of, until_of}
use Rattle.validity.specs.Versions.{visible, rows_at, turns_among}

-- whether a made moment is told: it is above the floor, if there is one
abbrev pub above : Option ℕ → ℕ → Bool
above None made = true
above (Some floor) made = nat_lt floor made

-- whether the made moment of a version counts
abbrev pub counts : Option ℕ → Version → Bool
counts floor version = above floor version.made

-- what a pass for a query at a moment has found of these present records and these turns, where made moments up to the floor are not told
abbrev pub summary : Option ℕ → ℕ → Query → List Row → List ℕ → Scan
summary floor moment query rows turns = record { query = query; moment = moment; floor = floor; reading = read_rows query rows; first = first_of moment turns; end = end_of moment turns }

-- what it has found of these versions
abbrev pub found : Option ℕ → ℕ → Query → List Version → Scan
found floor moment query versions = summary floor moment query (rows_at moment versions) (turns_among (counts floor) query versions)

-- the first moment with one more turn: the greatest up to the moment asked
abbrev pub first_with : ℕ → ℕ → ℕ → ℕ
first_with moment turn first = cond (nat_le turn moment) (max first turn) first

-- the smaller of an end, if there is one, and a turn
abbrev pub smaller : Option ℕ → ℕ → Option ℕ
smaller None turn = Some turn
smaller (Some end) turn = Some (min end turn)

-- the end with one more turn: the smallest above the moment asked
abbrev pub end_with : ℕ → ℕ → Option ℕ → Option ℕ
end_with moment turn end = cond (nat_le turn moment) end (smaller end turn)

-- one more turn
abbrev pub turned_by : ℕ → Scan → Scan
turned_by turn scan = record scan { first = first_with scan.moment turn scan.first; end = end_with scan.moment turn scan.end }

-- one more record that the query reads; a count stays at the highest 32-bit number
abbrev pub read_more : Query → Reading → Row → Reading
read_more (Get id) None row = shown (Some row.value)
read_more (Get id) (Some pair) row = Some pair
read_more (Tally table state) None row = Some (1, row.id.key)
read_more (Tally table state) (Some pair) row = Some (min (pair.0 + 1) 4294967295, min pair.1 row.id.key)

-- one more record that the query reads, in a scan
abbrev pub read_by : Row → Scan → Scan
read_by row scan = record scan { reading = read_more scan.query scan.reading row }

-- a turn, where it counts
abbrev pub turned_if : Bool → ℕ → Scan → Scan
turned_if counts turn scan = cond counts (turned_by turn scan) scan

-- a turn, if there is one
abbrev pub turned_again : Option ℕ → Scan → Scan
turned_again None scan = scan
turned_again (Some turn) scan = turned_by turn scan

-- a record, where its version is visible
abbrev pub read_if : Bool → Row → Scan → Scan
read_if seen row scan = cond seen (read_by row scan) scan

-- one more version
abbrev pub scanned : Version → Scan → Scan
scanned version scan =
    cond (matches scan.query version.row)
    (read_if (visible scan.moment version) version.row (turned_again version.replaced (turned_if (counts scan.floor version) version.made scan)))
    scan

-- some more versions
abbrev pub scanned_all : List Version → Scan → Scan
scanned_all [] scan = scan
scanned_all (version ∷ versions) scan = scanned_all versions (scanned version scan)

-- the answer that a pass has found
abbrev pub scan_answer : ℕ → Scan → Answer
scan_answer latest scan = record { reading = scan.reading; tag = query_tag scan.query; interval = record { first = scan.first; until = until_of latest scan.end } }
