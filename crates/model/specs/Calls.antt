-- What each call of a hall does: when it is refused, what it answers, and what database, cache and books are then.
use Rattle.std.specs.Prelude.{◌≡◌, ℕ, ◌+◌, ◌-◌, ◌<◌, ◌≤◌, min, Bool, true, false, cond, not, ◌&&◌, List, [], ◌∷◌, ◌++◌, map, length, Some, None, Ok, Err, filter, Option, Result, ◌==◌, ◌≢◌, nat_le, nat_lt}
use Rattle.terms.specs.declared.record.Query.{Query}
use Rattle.terms.specs.declared.record.Change.{Change}
use Rattle.terms.specs.declared.fault.Fault.{Fault}
use Rattle.terms.specs.declared.fault.Fault.TheVariants.{NotOpen, TooManyOpen, LimitTooLong, NumbersUsedUp, FramesOpen, NoFrame, QueryTable, SheetUnknown, TooDeep, NeverDone, RecipeTable, NoPin, NotHeld, MomentsUsedUp, StreamFull, StoreFull, StreamEmpty, OutOfRange}
use Rattle.terms.specs.Moments.{highest}
use Rattle.terms.specs.Records.{Reading, known_table, change_tag}
use Rattle.database.specs.declared.Answer.{Answer}
use Rattle.database.specs.Lists.{among}
use Rattle.database.specs.Writes.{wrong_list, or_else}
use Rattle.database.specs.Databases.{Db, held, Unpins, UnpinsAll, Asks, Written}
use Rattle.cache.specs.declared.entry.Entry.{Entry}
use Rattle.cache.specs.declared.key.Key.{Key}
use Rattle.cache.specs.Lists.{Same}
use Rattle.cache.specs.Entries.{accepted}
use Rattle.cache.specs.Calls.{Looks, Enters, Closes, Drops}
use Rattle.recipe.specs.declared.Ask.TheVariants.{Query as Asked, Call as Called, Done}
use Rattle.recipe.specs.Recipes.{Rules, after, table_of}
use Rattle.model.specs.declared.call.Call.{Call}
use Rattle.model.specs.declared.call.Call.TheVariants.{Begin, Sheet, Step, Query as Directly, Commit, Abort, Write, Deliver, Sweep}
use Rattle.model.specs.declared.call.Reply.{Reply}
use Rattle.model.specs.declared.call.Reply.TheVariants.{Began, Read, Open, Committed, Aborted, Written as Wrote, Delivered, Swept}
use Rattle.model.specs.Books.{Pin, Frame, Transaction, Row, Books, Hall, fresh_frame, moments, find, replaced, removed, newest_of, with_transactions}
use Rattle.model.specs.Rules.{is_fresh, is_unused, Picks, no_pin, hit_part, answer_part, narrowed, settled}

-- what a call is answered: a reply, or why it is refused
abbrev pub Outcome : Type 0
Outcome = Result Reply Fault

-- what a reading answers: a query, or a sheet with its argument
pub data Question : Type 0 where
  of_query : Query → Question
  of_sheet : ℕ → ℕ → Question

-- a reading given to a transaction: to its last call or query, or to a frame's last question
pub record Given : Type 0 where
  pub number : ℕ
  pub question : Question
  pub reading : Reading

-- Begin: 12 if 16 are open, 13 if the limit is over 86,400, 14 if the next number is over 4,294,967,295
abbrev pub begin_refusal : ℕ → Books → Option Fault
begin_refusal limit books =
    cond (nat_lt (length books.txs) 16)
    (cond (nat_le limit 86400) (cond (nat_le books.next 4294967295) None (Some NumbersUsedUp)) (Some LimitTooLong))
    (Some TooManyOpen)

-- the fresh pins each gain a use
abbrev pub gained : ℕ → ℕ → Pin → Pin
gained now limit pin = cond (is_fresh now limit pin) (record { moment = pin.moment; time = pin.time; uses = pin.uses + 1 }) pin

abbrev pub fresh_moments : ℕ → ℕ → List Pin → List ℕ
fresh_moments now limit pins = moments (filter (is_fresh now limit) pins)

-- the transaction holds the fresh pins, and its set is these and the present
abbrev pub begun : ℕ → ℕ → Books → Transaction
begun now limit books = record { number = books.next; present = true; set = fresh_moments now limit books.pins; holds = fresh_moments now limit books.pins; frames = [] }

abbrev pub after_begin : ℕ → ℕ → Books → Books
after_begin now limit books = record {
  next = books.next + 1;
  pins = map (gained now limit) books.pins;
  txs = begun now limit books ∷ books.txs;
  delivered = books.delivered;
  size = books.size;
  rows = books.rows;
}

-- frames are open
abbrev pub has_frames : Transaction → Bool
has_frames tx = nat_lt 0 (length tx.frames)

-- Call: 11, 15 if frames are open, 21 if the sheet is not there
abbrev pub sheet_refusal : Rules → ℕ → Option Transaction → Option Fault
sheet_refusal rules sheet None = Some NotOpen
sheet_refusal rules sheet (Some tx) = cond (has_frames tx) (Some FramesOpen) (cond (nat_lt sheet rules.sheets) None (Some (SheetUnknown 0)))

-- Query: 11, 15, 17 if the table is 8 or above
abbrev pub query_refusal : Query → Option Transaction → Option Fault
query_refusal query None = Some NotOpen
query_refusal query (Some tx) = cond (has_frames tx) (Some FramesOpen) (cond (known_table (table_of query)) None (Some QueryTable))

-- Step: 11, 16 if no frame is open
abbrev pub step_refusal : Option Transaction → Option Fault
step_refusal None = Some NotOpen
step_refusal (Some tx) = cond (has_frames tx) None (Some NoFrame)

-- Commit, abort: 11
abbrev pub end_refusal : Option Transaction → Option Fault
end_refusal None = Some NotOpen
end_refusal (Some tx) = None

-- Write: 41, 42, then 44 and 43 change by change, 45, 46 with too few stream rows, 47
abbrev pub write_refusal : Db → Books → List Change → Option Fault
write_refusal db books changes =
    or_else (wrong_list changes)
    (cond (nat_lt db.latest highest)
    (cond (nat_le (length books.rows + length changes) books.size) (cond (nat_lt db.free (length changes)) (Some StoreFull) None) (Some StreamFull))
    (Some MomentsUsedUp))

-- Deliver: 51 if the stream is empty
abbrev pub deliver_refusal : List Row → Option Fault
deliver_refusal [] = Some StreamEmpty
deliver_refusal (row ∷ rows) = None

-- why a call is refused before it does anything; the hall is then unchanged
abbrev pub refusal_of : Rules → Hall → List Change → Call → Option Fault
refusal_of rules hall changes (Begin now limit) = begin_refusal limit hall.books
refusal_of rules hall changes (Sheet number sheet argument) = sheet_refusal rules sheet (find number hall.books.txs)
refusal_of rules hall changes (Step number now) = step_refusal (find number hall.books.txs)
refusal_of rules hall changes (Directly number query now) = query_refusal query (find number hall.books.txs)
refusal_of rules hall changes (Commit number) = end_refusal (find number hall.books.txs)
refusal_of rules hall changes (Abort number) = end_refusal (find number hall.books.txs)
refusal_of rules hall changes Write = write_refusal hall.db hall.books changes
refusal_of rules hall changes Deliver = deliver_refusal hall.books.rows
refusal_of rules hall changes (Sweep now age) = None

-- the transaction as it is now, with these pins
abbrev pub with_tx : Transaction → List Pin → Books → Books
with_tx tx pins books = with_transactions pins (replaced tx books.txs) books

abbrev pub with_frames : List Frame → Transaction → Transaction
with_frames frames tx = record { number = tx.number; present = tx.present; set = tx.set; holds = tx.holds; frames = frames }

-- a fault in a step drops the frames
abbrev pub dropped : Transaction → Hall → Hall
dropped tx hall = record { db = hall.db; entries = hall.entries; books = with_tx (with_frames [] tx) hall.books.pins hall.books }

-- the frame after its recipe was asked, with the next stage and carry, and a reading that was given
abbrev pub went : Rules → Frame → Reading → Frame
went rules frame reading = record { point = after (rules.turn frame.point) frame.point reading; answers = frame.answers + 1; part = frame.part }

-- a frame is handed the reading of the sheet that it called
abbrev pub handed : Reading → Frame → Frame
handed reading frame = record {
  point = record { sheet = frame.point.sheet; argument = frame.point.argument; stage = frame.point.stage; carry = frame.point.carry; last = reading };
  answers = frame.answers;
  part = frame.part;
}

abbrev pub key_of : ℕ → ℕ → Key
key_of sheet argument = record { sheet = sheet; argument = argument }

-- the recipe was asked for the last time that it may be
abbrev pub last_answer : Frame → Bool
last_answer frame = nat_le 32 (frame.answers + 1)

-- what a done frame enters into the cache
abbrev pub entering : ℕ → Frame → Reading → Option Entry
entering T frame reading =
    accepted (key_of frame.point.sheet frame.point.argument) reading (settled T frame.part).interval (settled T frame.part).tags

-- each pin that the transaction holds loses a use
abbrev pub lost : List ℕ → Pin → Pin
lost held pin = cond (among pin.moment held) (record { moment = pin.moment; time = pin.time; uses = pin.uses - 1 }) pin

abbrev pub after_end : Transaction → Books → Books
after_end tx books = with_transactions (map (lost tx.holds) books.pins) (removed tx.number books.txs) books

-- the latest moment as the books tell it: that of the stream's newest row, else T
abbrev pub latest_told : ℕ → List Row → ℕ
latest_told T [] = T
latest_told T (row ∷ rows) = latest_told row.moment rows

-- commit answers the newest moment of the set, else the latest
abbrev pub committed_at : ℕ → Option ℕ → ℕ
committed_at latest None = latest
committed_at latest (Some newest) = newest

-- a row for each change joins the stream under the new moment
abbrev pub rows_of_write : ℕ → List Change → List Row
rows_of_write moment changes = map (λ change. record { moment = moment; tag = change_tag change }) changes

abbrev pub with_stream : ℕ → List Row → Books → Books
with_stream delivered rows books = record { next = books.next; pins = books.pins; txs = books.txs; delivered = delivered; size = books.size; rows = rows }

-- the rows of a message, and the others
abbrev pub is_of : ℕ → Row → Bool
is_of moment row = row.moment == moment

-- each row of a message is closed at its moment, one after the other
pub data ClosesAll (n : ℕ) : List Row → List Entry → List Entry → Type 0 where
  none : (before : List Entry) → ClosesAll n [] before before
  more : (row : Row) (rows : List Row) (before between after : List Entry) → Closes before row.tag n between → ClosesAll n rows between after → ClosesAll n (row ∷ rows) before after

-- an unused pin is old if its time and the age together are below now
abbrev pub is_old : ℕ → ℕ → Pin → Bool
is_old now age pin = is_unused pin && nat_lt (pin.time + age) now

-- the database unpins one moment after the other
pub data UnpinsEach : List ℕ → Db → Db → Type 0 where
  none : (db : Db) → UnpinsEach [] db db
  more : (m : ℕ) (ms : List ℕ) (db between after : Db) → Unpins db m between → UnpinsEach ms between after → UnpinsEach (m ∷ ms) db after

-- the lowest moment still held
abbrev pub lowest_held : ℕ → List ℕ → ℕ
lowest_held latest [] = latest
lowest_held latest (m ∷ ms) = min m (lowest_held latest ms)

-- a call, its answer, the reading that it gave, if any, and the hall before and after
pub data Does (rules : Rules) (hall : Hall) : Call → List Change → Outcome → Option Given → Hall → Type 0 where
  refused : (call : Call) (changes : List Change) (fault : Fault) → refusal_of rules hall changes call ≡ Some fault → Does rules hall call changes (Err fault) None hall
  began : (now limit : ℕ) → begin_refusal limit hall.books ≡ None
      → Does rules hall (Begin now limit) [] (Ok (Began hall.books.next (length (fresh_moments now limit hall.books.pins)))) None
      (record { db = hall.db; entries = hall.entries; books = after_begin now limit hall.books })
  hit : (number sheet argument : ℕ) (tx : Transaction) (entry : Entry) (entries : List Entry)
      → find number hall.books.txs ≡ Some tx → has_frames tx ≡ false → sheet < rules.sheets
      → Looks hall.entries (key_of sheet argument) tx.set hall.books.delivered (Some entry) → Same hall.entries entries
      → Does rules hall (Sheet number sheet argument) [] (Ok (Read entry.reading)) (Some (record { number = number; question = of_sheet sheet argument; reading = entry.reading }))
      (record { db = hall.db; entries = entries; books = with_tx (narrowed (hit_part hall.books.delivered entry) tx) hall.books.pins hall.books })
  miss : (number sheet argument : ℕ) (tx : Transaction) (entries : List Entry)
      → find number hall.books.txs ≡ Some tx → has_frames tx ≡ false → sheet < rules.sheets
      → Looks hall.entries (key_of sheet argument) tx.set hall.books.delivered None → Same hall.entries entries
      → Does rules hall (Sheet number sheet argument) [] (Ok Open) None
      (record { db = hall.db; entries = entries; books = with_tx (with_frames (fresh_frame sheet argument ∷ []) tx) hall.books.pins hall.books })
  queried : (number now m : ℕ) (query : Query) (tx tx' : Transaction) (db : Db) (pins : List Pin) (answer : Answer)
      → find number hall.books.txs ≡ Some tx → has_frames tx ≡ false → known_table (table_of query) ≡ true
      → Picks hall.db hall.books.pins tx now m db pins tx' → Asks db m query (Ok answer)
      → Does rules hall (Directly number query now) [] (Ok (Read answer.reading)) (Some (record { number = number; question = of_query query; reading = answer.reading }))
      (record { db = db; entries = hall.entries; books = with_tx (narrowed (answer_part answer) tx') pins hall.books })
  query_no_pin : (number now : ℕ) (query : Query) (tx : Transaction)
      → find number hall.books.txs ≡ Some tx → has_frames tx ≡ false → known_table (table_of query) ≡ true
      → no_pin hall.db hall.books.pins tx now ≡ true
      → Does rules hall (Directly number query now) [] (Err (NoPin 0)) None hall
  query_not_held : (number now m : ℕ) (query : Query) (tx : Transaction)
      → find number hall.books.txs ≡ Some tx → has_frames tx ≡ false → known_table (table_of query) ≡ true
      → Picks hall.db hall.books.pins tx now m hall.db hall.books.pins tx → held hall.db m ≡ false
      → Does rules hall (Directly number query now) [] (Err (NotHeld 0)) None hall
  never_done : (number now : ℕ) (tx : Transaction) (frame : Frame) (frames : List Frame)
      → find number hall.books.txs ≡ Some tx → tx.frames ≡ frame ∷ frames → last_answer frame ≡ true
      → ((reading : Reading) → (rules.turn frame.point).ask ≢ Done reading)
      → Does rules hall (Step number now) [] (Err (NeverDone (length tx.frames))) None (dropped tx hall)
  step_table : (number now : ℕ) (query : Query) (tx : Transaction) (frame : Frame) (frames : List Frame)
      → find number hall.books.txs ≡ Some tx → tx.frames ≡ frame ∷ frames → last_answer frame ≡ false
      → (rules.turn frame.point).ask ≡ Asked query → known_table (table_of query) ≡ false
      → Does rules hall (Step number now) [] (Err (RecipeTable (length tx.frames))) None (dropped tx hall)
  step_no_pin : (number now : ℕ) (query : Query) (tx : Transaction) (frame : Frame) (frames : List Frame)
      → find number hall.books.txs ≡ Some tx → tx.frames ≡ frame ∷ frames → last_answer frame ≡ false
      → (rules.turn frame.point).ask ≡ Asked query → known_table (table_of query) ≡ true
      → no_pin hall.db hall.books.pins tx now ≡ true
      → Does rules hall (Step number now) [] (Err (NoPin (length tx.frames))) None (dropped tx hall)
  step_not_held : (number now m : ℕ) (query : Query) (tx : Transaction) (frame : Frame) (frames : List Frame)
      → find number hall.books.txs ≡ Some tx → tx.frames ≡ frame ∷ frames → last_answer frame ≡ false
      → (rules.turn frame.point).ask ≡ Asked query → known_table (table_of query) ≡ true
      → Picks hall.db hall.books.pins tx now m hall.db hall.books.pins tx → held hall.db m ≡ false
      → Does rules hall (Step number now) [] (Err (NotHeld (length tx.frames))) None (dropped tx hall)
  step_query : (number now m : ℕ) (query : Query) (tx tx' : Transaction) (frame : Frame) (frames : List Frame) (db : Db) (pins : List Pin) (answer : Answer)
      → find number hall.books.txs ≡ Some tx → tx.frames ≡ frame ∷ frames → last_answer frame ≡ false
      → (rules.turn frame.point).ask ≡ Asked query → known_table (table_of query) ≡ true
      → Picks hall.db hall.books.pins tx now m db pins tx' → Asks db m query (Ok answer)
      → Does rules hall (Step number now) [] (Ok Open) (Some (record { number = number; question = of_query query; reading = answer.reading }))
      (record { db = db; entries = hall.entries; books = with_tx (narrowed (answer_part answer) (with_frames (went rules frame answer.reading ∷ frames) tx')) pins hall.books })
  step_unknown : (number now sheet argument : ℕ) (tx : Transaction) (frame : Frame) (frames : List Frame)
      → find number hall.books.txs ≡ Some tx → tx.frames ≡ frame ∷ frames → last_answer frame ≡ false
      → (rules.turn frame.point).ask ≡ Called sheet argument → rules.sheets ≤ sheet
      → Does rules hall (Step number now) [] (Err (SheetUnknown (length tx.frames))) None (dropped tx hall)
  step_hit : (number now sheet argument : ℕ) (tx : Transaction) (frame : Frame) (frames : List Frame) (entry : Entry) (entries : List Entry)
      → find number hall.books.txs ≡ Some tx → tx.frames ≡ frame ∷ frames → last_answer frame ≡ false
      → (rules.turn frame.point).ask ≡ Called sheet argument → sheet < rules.sheets
      → Looks hall.entries (key_of sheet argument) tx.set hall.books.delivered (Some entry) → Same hall.entries entries
      → Does rules hall (Step number now) [] (Ok Open) (Some (record { number = number; question = of_sheet sheet argument; reading = entry.reading }))
      (record { db = hall.db; entries = entries; books = with_tx (narrowed (hit_part hall.books.delivered entry) (with_frames (went rules frame entry.reading ∷ frames) tx)) hall.books.pins hall.books })
  step_deep : (number now sheet argument : ℕ) (tx : Transaction) (frame : Frame) (frames : List Frame) (entries : List Entry)
      → find number hall.books.txs ≡ Some tx → tx.frames ≡ frame ∷ frames → last_answer frame ≡ false
      → (rules.turn frame.point).ask ≡ Called sheet argument → sheet < rules.sheets
      → Looks hall.entries (key_of sheet argument) tx.set hall.books.delivered None → Same hall.entries entries → 8 ≤ length tx.frames
      → Does rules hall (Step number now) [] (Err (TooDeep (length tx.frames))) None
      (record { db = hall.db; entries = entries; books = with_tx (with_frames [] tx) hall.books.pins hall.books })
  step_miss : (number now sheet argument : ℕ) (tx : Transaction) (frame : Frame) (frames : List Frame) (entries : List Entry)
      → find number hall.books.txs ≡ Some tx → tx.frames ≡ frame ∷ frames → last_answer frame ≡ false
      → (rules.turn frame.point).ask ≡ Called sheet argument → sheet < rules.sheets
      → Looks hall.entries (key_of sheet argument) tx.set hall.books.delivered None → Same hall.entries entries → length tx.frames < 8
      → Does rules hall (Step number now) [] (Ok Open) None
      (record { db = hall.db; entries = entries; books = with_tx (with_frames (fresh_frame sheet argument ∷ went rules frame frame.point.last ∷ frames) tx) hall.books.pins hall.books })
  step_done : (number now : ℕ) (reading : Reading) (tx : Transaction) (frame below : Frame) (frames : List Frame) (entries : List Entry)
      → find number hall.books.txs ≡ Some tx → tx.frames ≡ frame ∷ below ∷ frames → (rules.turn frame.point).ask ≡ Done reading
      → Enters hall.entries (entering hall.books.delivered frame reading) entries
      → Does rules hall (Step number now) [] (Ok Open) (Some (record { number = number; question = of_sheet frame.point.sheet frame.point.argument; reading = reading }))
      (record { db = hall.db; entries = entries; books = with_tx (with_frames (handed reading below ∷ frames) tx) hall.books.pins hall.books })
  step_last : (number now : ℕ) (reading : Reading) (tx : Transaction) (frame : Frame) (entries : List Entry)
      → find number hall.books.txs ≡ Some tx → tx.frames ≡ frame ∷ [] → (rules.turn frame.point).ask ≡ Done reading
      → Enters hall.entries (entering hall.books.delivered frame reading) entries
      → Does rules hall (Step number now) [] (Ok (Read reading)) (Some (record { number = number; question = of_sheet frame.point.sheet frame.point.argument; reading = reading }))
      (record { db = hall.db; entries = entries; books = with_tx (with_frames [] tx) hall.books.pins hall.books })
  committed : (number : ℕ) (tx : Transaction) → find number hall.books.txs ≡ Some tx
      → Does rules hall (Commit number) [] (Ok (Committed (committed_at (latest_told hall.books.delivered hall.books.rows) (newest_of tx.set)))) None
      (record { db = hall.db; entries = hall.entries; books = after_end tx hall.books })
  aborted : (number : ℕ) (tx : Transaction) → find number hall.books.txs ≡ Some tx
      → Does rules hall (Abort number) [] (Ok Aborted) None (record { db = hall.db; entries = hall.entries; books = after_end tx hall.books })
  wrote : (changes : List Change) (moment : ℕ) (db : Db) → write_refusal hall.db hall.books changes ≡ None → Written hall.db changes moment db
      → Does rules hall Write changes (Ok (Wrote moment)) None
      (record { db = db; entries = hall.entries; books = with_stream hall.books.delivered (hall.books.rows ++ rows_of_write moment changes) hall.books })
  delivered : (row : Row) (rows : List Row) (entries : List Entry) → hall.books.rows ≡ row ∷ rows
      → ClosesAll (hall.books.delivered + 1) (filter (is_of (hall.books.delivered + 1)) hall.books.rows) hall.entries entries
      → Does rules hall Deliver [] (Ok (Delivered (hall.books.delivered + 1))) None
      (record { db = hall.db; entries = entries; books = with_stream (hall.books.delivered + 1) (filter (λ other. not (is_of (hall.books.delivered + 1) other)) hall.books.rows) hall.books })
  swept : (now age : ℕ) (db : Db) (entries : List Entry)
      → UnpinsEach (moments (filter (is_old now age) hall.books.pins)) hall.db db
      → Drops hall.entries (lowest_held hall.db.latest (moments (filter (λ pin. not (is_old now age pin)) hall.books.pins))) entries
      → Does rules hall (Sweep now age) [] (Ok (Swept (length (filter (is_old now age) hall.books.pins)))) None
      (record { db = db; entries = entries; books = with_transactions (filter (λ pin. not (is_old now age pin)) hall.books.pins) hall.books.txs hall.books })

-- Making: 61 unless the first number is 1 to 4,294,967,295 and the stream has 1 to 4,096 rows; database and cache are then unchanged
abbrev pub making_refusal : ℕ → ℕ → Option Fault
making_refusal first size =
    cond ((nat_lt 0 first && nat_le first 4294967295) && (nat_lt 0 size && nat_le size 4096)) None (Some OutOfRange)

-- a making that is not refused: all is unpinned, the cache is cleared, T is the latest moment
pub record Makes (db : Db) (first size : ℕ) (hall : Hall) : Type 0 where
  pub accepted : making_refusal first size ≡ None
  pub unpins : UnpinsAll db hall.db
  pub cleared : hall.entries ≡ []
  pub books : hall.books ≡ record { next = first; pins = []; txs = []; delivered = hall.db.latest; size = size; rows = [] }
