-- Databases of different make agree where they hold the same records.
use Rattle.std.specs.Prelude.{◌≡◌, ℕ, Bool, true, false, ◌&&◌, Ok, Err, Decides, Result}
use Rattle.terms.specs.declared.record.Query.{Query}
use Rattle.terms.specs.declared.fault.Fault.{Fault}
use Rattle.terms.specs.declared.fault.Fault.TheVariants.{NotHeld}
use Rattle.database.specs.declared.Answer.{Answer}
use Rattle.database.specs.Databases.{Db, held, Answers}

-- two databases hold the same records at a moment: their states answer alike on every record
abbrev pub SameRecords : Db → Db → ℕ → Type 0
SameRecords one other moment = (table key : ℕ) → one.at moment table key ≡ other.at moment table key

-- whether every two answers of theirs to the query at the moment have equal readings; they have where both hold the same records
pub record Compared (one other : Db) (moment : ℕ) (query : Query) (same : Bool) : Type 0 where
  pub tells : (x y : Answer) → Answers one moment query x → Answers other moment query y → Decides same (x.reading ≡ y.reading)
  pub agree : SameRecords one other moment → same ≡ true

-- 32 if one of them does not hold the moment
abbrev pub Compares : Db → Db → ℕ → Query → Result Bool Fault → Type 0
Compares one other moment query (Ok same) = ((held one moment && held other moment) ≡ true) × Compared one other moment query same
Compares one other moment query (Err fault) = ((held one moment && held other moment) ≡ false) × (fault ≡ NotHeld 0)
