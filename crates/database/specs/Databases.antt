-- What a database means, and what each of its calls does to that.
use Rattle.std.specs.Prelude.{◌≡◌, ℕ, ◌+◌, ◌≤◌, Bool, true, false, not, ◌&&◌, ◌||◌, List, [], length, Some, None, Ok, Err, Result, ◌==◌}
use Rattle.terms.specs.declared.record.Query.{Query}
use Rattle.terms.specs.declared.record.Change.{Change}
use Rattle.terms.specs.declared.fault.Fault.{Fault}
use Rattle.terms.specs.declared.fault.Fault.TheVariants.{NoPin, NotHeld}
use Rattle.terms.specs.declared.interval.Until.{Until}
use Rattle.terms.specs.declared.interval.Until.TheVariants.{Ended, Open}
use Rattle.terms.specs.Moments.{highest}
use Rattle.terms.specs.Records.{query_tag}
use Rattle.terms.specs.Intervals.{contains}
use Rattle.database.specs.declared.Answer.{Answer}
use Rattle.database.specs.Lists.{among, distinct, can_add}
use Rattle.database.specs.States.{Records, KeysIn, Reads}
use Rattle.database.specs.Writes.{changed, refusal}

-- the latest moment, the pinned moments, the free number, and the state of all records at each held moment
pub record Db : Type 0 where
  pub latest : ℕ
  pub pins : List ℕ
  pub free : ℕ
  pub at : ℕ → Records

-- a moment is held if it is pinned or the latest
abbrev pub held : Db → ℕ → Bool
held db moment = moment == db.latest || among moment db.pins

-- what holds of every database: its moments are moments, at most 32 are pinned, none of them later than the latest,
-- and at a held moment the records of one table and state can be listed, and are no more than a 32-bit number can count
pub record Sound (db : Db) : Type 0 where
  pub moments : db.latest ≤ highest
  pub few : length db.pins ≤ 32
  pub once : distinct db.pins ≡ true
  pub past : (moment : ℕ) → among moment db.pins ≡ true → moment ≤ db.latest
  pub listed : (moment table state : ℕ) → held db moment ≡ true → (keys : List ℕ) × KeysIn (db.at moment) table state keys
  pub counted : (moment table state : ℕ) (keys : List ℕ) → held db moment ≡ true → KeysIn (db.at moment) table state keys → length keys ≤ 4294967295

-- the states at the moments held in `kept` are in `after` what they are in `before`
abbrev pub KeepsStates : Db → Db → Db → Type 0
KeepsStates kept before after = (moment table key : ℕ) → held kept moment ≡ true → after.at moment table key ≡ before.at moment table key

-- whether the latest moment can be pinned: it is pinned already, or fewer than 32 others are
abbrev pub can_pin : Db → Bool
can_pin db = can_add db.latest db.pins

-- the latest moment is pinned, and answered
pub record Pinned (before : Db) (moment : ℕ) (after : Db) : Type 0 where
  pub can : can_pin before ≡ true
  pub answer : moment ≡ before.latest
  pub latest : after.latest ≡ before.latest
  pub pins : (n : ℕ) → among n after.pins ≡ (n == moment || among n before.pins)
  pub states : KeepsStates before before after

-- pin: the latest moment, or 31 if 32 other moments are pinned
abbrev pub PinsLatest : Db → Result ℕ Fault → Db → Type 0
PinsLatest before (Ok moment) after = Pinned before moment after
PinsLatest before (Err fault) after = (can_pin before ≡ false) × (fault ≡ NoPin 0) × (after ≡ before)

-- unpin: one moment is pinned no longer, if it was; what is still held stays as it is
pub record Unpins (before : Db) (moment : ℕ) (after : Db) : Type 0 where
  pub latest : after.latest ≡ before.latest
  pub pins : (n : ℕ) → among n after.pins ≡ (among n before.pins && not (n == moment))
  pub states : KeepsStates after before after

-- unpin all: no moment is pinned; the state at the latest stays as it is
pub record UnpinsAll (before after : Db) : Type 0 where
  pub latest : after.latest ≡ before.latest
  pub pins : after.pins ≡ []
  pub states : KeepsStates after before after

-- an end is at most the latest moment, and the through of an open interval is the latest moment
abbrev pub Known : Db → Until → Type 0
Known db (Ended end) = end ≤ db.latest
Known db (Open through) = through ≡ db.latest

-- the reading at the moment, the query's tag, and an interval that contains the moment, at whose held moments the reading is the same
pub record Answers (db : Db) (moment : ℕ) (query : Query) (answer : Answer) : Type 0 where
  pub here : Reads (db.at moment) query answer.reading
  pub bears : answer.tag ≡ query_tag query
  pub inside : contains answer.interval moment ≡ true
  pub same : (n : ℕ) → held db n ≡ true → contains answer.interval n ≡ true → Reads (db.at n) query answer.reading
  pub known : Known db answer.interval.until

-- ask: an answer, or 32 if the moment is not held
abbrev pub Asks : Db → ℕ → Query → Result Answer Fault → Type 0
Asks db moment query (Ok answer) = (held db moment ≡ true) × Answers db moment query answer
Asks db moment query (Err fault) = (held db moment ≡ false) × (fault ≡ NotHeld 0)

-- the state at the latest moment, with the changes, is the state at the moment after it, the new latest; pinned states stay
pub record Written (before : Db) (changes : List Change) (moment : ℕ) (after : Db) : Type 0 where
  pub latest : after.latest ≡ before.latest + 1
  pub answer : moment ≡ after.latest
  pub pins : (n : ℕ) → among n after.pins ≡ among n before.pins
  pub states : (n table key : ℕ) → among n before.pins ≡ true → after.at n table key ≡ before.at n table key
  pub newest : (table key : ℕ) → after.at after.latest table key ≡ changed changes (before.at before.latest) table key

-- write: the new moment, or the first refusal that applies
abbrev pub Writes : Db → List Change → Result ℕ Fault → Db → Type 0
Writes before changes (Ok moment) after = (refusal before.latest before.free changes ≡ None) × Written before changes moment after
Writes before changes (Err fault) after = (refusal before.latest before.free changes ≡ Some fault) × (after ≡ before)
