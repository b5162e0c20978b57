-- Three halls that differ from the rules in one place, and for each a list of calls that gives a wrong reading.
use Rattle.std.specs.Prelude.{◌≡◌, ℕ, Bool, true, false, List, [], ◌∷◌, ◌++◌, map, Some, None, Ok, Option}
use Rattle.terms.specs.declared.record.Query.TheVariants.{Get, Tally}
use Rattle.terms.specs.declared.record.Change.{Change}
use Rattle.terms.specs.declared.record.Change.TheVariants.{Set}
use Rattle.terms.specs.Records.{Reading}
use Rattle.database.specs.Lists.{among}
use Rattle.database.specs.Databases.{Sound}
use Rattle.versions.specs.Stores.{Store, empty_at, meaning}
use Rattle.cache.specs.declared.entry.Entry.{Entry}
use Rattle.cache.specs.Lists.{Among}
use Rattle.cache.specs.TagSets.{packed}
use Rattle.recipe.specs.declared.Ask.{Ask}
use Rattle.recipe.specs.declared.Ask.TheVariants.{Query as Asked, Call as Called, Done}
use Rattle.recipe.specs.Recipes.{Rules}
use Rattle.recipe.specs.Sheets.{attendant, board}
use Rattle.model.specs.declared.call.Call.{Call}
use Rattle.model.specs.declared.call.Call.TheVariants.{Begin, Sheet, Step, Query as Directly, Commit, Abort, Write, Deliver, Sweep}
use Rattle.model.specs.declared.call.Reply.{Reply}
use Rattle.model.specs.declared.call.Reply.TheVariants.{Began, Read, Open, Written, Delivered}
use Rattle.model.specs.Books.{Frame, Transaction, Hall, limitless, find}
use Rattle.model.specs.Calls.{Outcome, Question, of_query, of_sheet, Given, Does, with_stream}
use Rattle.model.specs.Traces.{Origin, Event, records_at, Lives}
use Rattle.model.specs.Law.{Right, GivenIn}
use Rattle.model.specs.Worked.{door, ticket, valued}

-- what the recipe of the top frame asks next
abbrev pub top_asks : Rules → List Frame → Option Ask
top_asks rules [] = None
top_asks rules (frame ∷ frames) = Some (rules.turn frame.point).ask

abbrev pub step_asks : Rules → Option Transaction → Option Ask
step_asks rules None = None
step_asks rules (Some tx) = top_asks rules tx.frames

-- what a call comes to ask: a sheet that is called, a query, or that the sheet is done
abbrev pub comes_to : Rules → Hall → Call → Option Ask
comes_to rules hall (Begin now limit) = None
comes_to rules hall (Sheet number sheet argument) = Some (Called sheet argument)
comes_to rules hall (Step number now) = step_asks rules (find number hall.books.txs)
comes_to rules hall (Directly number query now) = Some (Asked query)
comes_to rules hall (Commit number) = None
comes_to rules hall (Abort number) = None
comes_to rules hall Write = None
comes_to rules hall Deliver = None
comes_to rules hall (Sweep now age) = None

-- a sheet is called, so it is looked up
abbrev pub is_look_up : Option Ask → Bool
is_look_up None = false
is_look_up (Some (Asked query)) = false
is_look_up (Some (Called sheet argument)) = true
is_look_up (Some (Done reading)) = false

-- a sheet is done, so it is inserted
abbrev pub is_insert : Option Ask → Bool
is_insert None = false
is_insert (Some (Asked query)) = false
is_insert (Some (Called sheet argument)) = false
is_insert (Some (Done reading)) = true

-- A mistake: where it is made, what the hall is taken to be there, and how what was mistaken is put right in the hall that is left.
pub record Mistake : Type 0 where
  pub place : Option Ask → Bool
  pub taken : Hall → Hall
  pub back : Hall → Hall → Hall

-- the hall with another last delivered message
abbrev pub with_t : ℕ → Hall → Hall
with_t T hall = record { db = hall.db; entries = hall.entries; books = with_stream T hall.books.rows hall.books }

abbrev pub with_entries : List Entry → Hall → Hall
with_entries entries hall = record { db = hall.db; entries = entries; books = hall.books }

abbrev pub untagged : Entry → Entry
untagged entry = record { key = entry.key; reading = entry.reading; interval = entry.interval; tags = packed [] }

-- an open entry counts beyond T: it is looked up, and the set narrowed, as if every message were delivered
abbrev pub beyond_t : Mistake
beyond_t = record { place = is_look_up; taken = with_t limitless; back = λ before after. with_t before.books.delivered after }

-- a sheet forgets a hit's tags: it is cut as if the entries bore none
abbrev pub forgets_tags : Mistake
forgets_tags = record { place = is_look_up; taken = λ hall. with_entries (map untagged hall.entries) hall; back = λ before after. with_entries before.entries after }

-- a late insert is left open: a done sheet goes in as if no message had been delivered since
abbrev pub leaves_open : Mistake
leaves_open = record { place = is_insert; taken = with_t 0; back = λ before after. with_t before.books.delivered after }

-- a call of a hall with a mistake: by the rules, but where the mistake is made it does what the rules say of another hall
pub data Strays (mistake : Mistake) (rules : Rules) (hall : Hall) : Call → List Change → Outcome → Option Given → Hall → Type 0 where
  rightly : (call : Call) (changes : List Change) (reply : Outcome) (given : Option Given) (after : Hall) → mistake.place (comes_to rules hall call) ≡ false
      → Does rules hall call changes reply given after → Strays mistake rules hall call changes reply given after
  wrongly : (call : Call) (changes : List Change) (reply : Outcome) (given : Option Given) (after : Hall) → mistake.place (comes_to rules hall call) ≡ true
      → Does rules (mistake.taken hall) call changes reply given after → Strays mistake rules hall call changes reply given (mistake.back hall after)

-- a hall with a mistake from its making, after a list of calls
pub data Wanders (mistake : Mistake) (rules : Rules) (o : Origin) : List Event → Hall → Type 0 where
  made : (hall : Hall) → Lives rules o [] hall → Wanders mistake rules o [] hall
  then : (trace : List Event) (hall hall' : Hall) (event : Event) → Wanders mistake rules o trace hall
      → Strays mistake rules hall event.call event.changes event.reply event.given hall' → Sound hall'.db → Wanders mistake rules o (event ∷ trace) hall'

-- after this list of calls an open transaction was given a reading that is not right at a moment of its pin set
pub record Breaks (mistake : Mistake) (rules : Rules) (o : Origin) (trace : List Event) : Type 0 where
  pub hall : Hall
  pub wanders : Wanders mistake rules o trace hall
  pub tx : Transaction
  pub listed : Among tx hall.books.txs
  pub given : Given
  pub told : GivenIn given trace
  pub its : given.number ≡ tx.number
  pub moment : ℕ
  pub inside : among moment tx.set ≡ true
  pub wrong : Right rules (records_at o trace moment) given.question given.reading → ⊥

-- a call that gives no reading
abbrev pub quiet : Call → Reply → Event
quiet call reply = record { call = call; changes = []; reply = Ok reply; given = None }

-- a call that gives a transaction a reading
abbrev pub gives : Call → Reply → ℕ → Question → Reading → Event
gives call reply number question reading = record { call = call; changes = []; reply = Ok reply; given = Some (record { number = number; question = question; reading = reading }) }

-- an empty database at 10
abbrev pub empty : Store
empty = empty_at 16 10

abbrev pub origin : Origin
origin = record { moment = 10; records = (meaning empty).at 10 }

-- a guest comes: ticket 900 is (1, 5) and door 5 is (1, 900) at 11
abbrev pub arrival : List Change
arrival = Set ticket (valued 1 5) ∷ Set door (valued 1 900) ∷ []

abbrev pub arrives : Event
arrives = record { call = Write; changes = arrival; reply = Ok (Written 11); given = None }

-- The lists of calls, the newest first.

-- transaction 1 has begun to work out the claim sheet of ticket 900: at moment 10 there is no such ticket
abbrev pub asked : List Event
asked = gives (Step 1 0) Open 1 (of_query (Get ticket)) None ∷ quiet (Sheet 1 0 900) Open ∷ quiet (Begin 0 0) (Began 1 0) ∷ []

-- transaction 1 is done with that sheet: no bag
abbrev pub finished : Event
finished = gives (Step 1 0) (Read None) 1 (of_sheet 0 900) None

-- transaction 2, at moment 11, reads from the database that door 5 is taken by ticket 900
abbrev pub reader : List Event
reader = gives (Directly 2 (Get door) 100) (Read (Some (1, 900))) 2 (of_query (Get door)) (Some (1, 900)) ∷ quiet (Begin 100 0) (Began 2 0) ∷ []

-- transaction 2 is told by the cache that ticket 900 has no bag
abbrev pub no_bag : Event
no_bag = gives (Sheet 2 0 900) (Read None) 2 (of_sheet 0 900) None

-- the claim sheet of 10 is found at 11, of which no message is delivered
abbrev pub calls_beyond : List Event
calls_beyond = no_bag ∷ reader ++ arrives ∷ finished ∷ asked

-- the claim sheet of 10 goes in after the message of 11, which does not end it
abbrev pub calls_late : List Event
calls_late = no_bag ∷ reader ++ finished ∷ quiet Deliver (Delivered 11) ∷ arrives ∷ asked

-- transaction 1 works out sheet 0 of the board: no door is in the state
abbrev pub tallies : ℕ → List Event
tallies state = gives (Step 1 0) (Read None) 1 (of_sheet 0 state) None ∷ gives (Step 1 0) Open 1 (of_query (Tally 0 state)) None ∷ quiet (Sheet 1 0 state) Open ∷ []

-- transaction 1 puts sheet 1 together from the two sheets that the cache holds: no door is free, none is taken
abbrev pub counted : List Event
counted =
    gives (Step 1 0) (Read (Some (0, 0))) 1 (of_sheet 1 0) (Some (0, 0))
    ∷ gives (Step 1 0) Open 1 (of_sheet 0 1) None
    ∷ gives (Step 1 0) Open 1 (of_sheet 0 0) None
    ∷ quiet (Sheet 1 1 0) Open
    ∷ []

-- the message of 11 does not end sheet 1, which has forgotten what it rests on
abbrev pub calls_forgetful : List Event
calls_forgetful =
    gives (Sheet 2 1 0) (Read (Some (0, 0))) 2 (of_sheet 1 0) (Some (0, 0))
    ∷ reader ++ quiet Deliver (Delivered 11) ∷ arrives ∷ counted ++ tallies 1 ++ tallies 0 ++ quiet (Begin 0 0) (Began 1 0) ∷ []

-- each of the three mistakes gives a wrong reading
pub record WrongHalls : Type 0 where
  pub beyond : Breaks beyond_t attendant origin calls_beyond
  pub forgetful : Breaks forgets_tags board origin calls_forgetful
  pub late : Breaks leaves_open attendant origin calls_late
