-- The law over any list of calls from a making.
use Rattle.std.specs.Prelude.{◌≡◌, ℕ, ◌+◌, Bool, true, false, cond, ◌⊎◌, List, [], ◌∷◌, map, length, Some, None, Ok, Err, filter, Option, ◌==◌, ◌≢◌}
use Rattle.terms.specs.declared.fault.Fault.TheVariants.{NotHeld}
use Rattle.terms.specs.Records.{Reading}
use Rattle.database.specs.Lists.{among}
use Rattle.database.specs.States.{Records, Reads}
use Rattle.cache.specs.Lists.{Among}
use Rattle.recipe.specs.Recipes.{Rules, Gives}
use Rattle.model.specs.declared.call.Call.{Call}
use Rattle.model.specs.declared.call.Call.TheVariants.{Begin, Sheet, Step, Query as Directly, Commit, Abort, Write, Deliver, Sweep}
use Rattle.model.specs.declared.call.Reply.TheVariants.{Began, Read, Open, Committed, Aborted, Written, Delivered, Swept}
use Rattle.model.specs.Books.{Pin, Transaction, Hall}
use Rattle.model.specs.Calls.{Outcome, Question, of_query, of_sheet, Given, Does}
use Rattle.model.specs.Traces.{Origin, Event, records_at, Lives}

-- a reading is right for a state of all records: what the query reads there, or what a run of the sheet gives there
abbrev pub Right : Rules → Records → Question → Reading → Type 0
Right rules records (of_query query) reading = Reads records query reading
Right rules records (of_sheet sheet argument) reading = Gives rules records sheet argument reading

-- a reading that a call of the trace gave
abbrev pub GivenIn : Given → List Event → Type 0
GivenIn given [] = ⊥
GivenIn given (event ∷ trace) = (event.given ≡ Some given) ⊎ GivenIn given trace

-- whether an answer is a refusal
abbrev pub is_refused : Outcome → Bool
is_refused (Ok reply) = false
is_refused (Err fault) = true

-- what a call asks in a transaction's name: a sheet, or a query
abbrev pub asks_for : ℕ → Call → Option Question
asks_for n (Begin now limit) = None
asks_for n (Sheet number sheet argument) = cond (n == number) (Some (of_sheet sheet argument)) None
asks_for n (Step number now) = None
asks_for n (Directly number query now) = cond (n == number) (Some (of_query query)) None
asks_for n (Commit number) = None
asks_for n (Abort number) = None
asks_for n Write = None
asks_for n Deliver = None
asks_for n (Sweep now age) = None

-- the later of two questions, if there is one
abbrev pub last_of : Option Question → Option Question → Option Question
last_of None earlier = earlier
last_of (Some question) earlier = Some question

-- what a transaction's last accepted call or query asked
abbrev pub last_asked : ℕ → List Event → Option Question
last_asked n [] = None
last_asked n (event ∷ trace) = cond (is_refused event.reply) (last_asked n trace) (last_of (asks_for n event.call) (last_asked n trace))

-- whether a call, step or query is a transaction's
abbrev pub is_by : ℕ → Call → Bool
is_by n (Begin now limit) = false
is_by n (Sheet number sheet argument) = n == number
is_by n (Step number now) = n == number
is_by n (Directly number query now) = n == number
is_by n (Commit number) = false
is_by n (Abort number) = false
is_by n Write = false
is_by n Deliver = false
is_by n (Sweep now age) = false

-- a reading that a transaction's call, step or query answered, and the question of its last accepted call or query then
abbrev pub AnsweredIn : ℕ → Question → Reading → List Event → Type 0
AnsweredIn n question reading [] = ⊥
AnsweredIn n question reading (event ∷ trace) =
    ((is_by n event.call ≡ true) × (event.reply ≡ Ok (Read reading)) × (last_asked n (event ∷ trace) ≡ Some question)) ⊎ AnsweredIn n question reading trace

-- accepted begins, commits and aborts
abbrev pub is_begin : Outcome → Bool
is_begin (Ok (Began number moments)) = true
is_begin (Ok (Read reading)) = false
is_begin (Ok Open) = false
is_begin (Ok (Committed moment)) = false
is_begin (Ok Aborted) = false
is_begin (Ok (Written moment)) = false
is_begin (Ok (Delivered moment)) = false
is_begin (Ok (Swept pins)) = false
is_begin (Err fault) = false

abbrev pub is_commit : Outcome → Bool
is_commit (Ok (Began number moments)) = false
is_commit (Ok (Read reading)) = false
is_commit (Ok Open) = false
is_commit (Ok (Committed moment)) = true
is_commit (Ok Aborted) = false
is_commit (Ok (Written moment)) = false
is_commit (Ok (Delivered moment)) = false
is_commit (Ok (Swept pins)) = false
is_commit (Err fault) = false

abbrev pub is_abort : Outcome → Bool
is_abort (Ok (Began number moments)) = false
is_abort (Ok (Read reading)) = false
is_abort (Ok Open) = false
is_abort (Ok (Committed moment)) = false
is_abort (Ok Aborted) = true
is_abort (Ok (Written moment)) = false
is_abort (Ok (Delivered moment)) = false
is_abort (Ok (Swept pins)) = false
is_abort (Err fault) = false

-- how many answers of a trace pass a test
abbrev pub how_many : (Outcome → Bool) → List Event → ℕ
how_many test [] = 0
how_many test (event ∷ trace) = cond (test event.reply) (how_many test trace + 1) (how_many test trace)

-- whether an answer begins the transaction with a number
abbrev pub starts : ℕ → Outcome → Bool
starts n (Ok (Began number moments)) = n == number
starts n (Ok (Read reading)) = false
starts n (Ok Open) = false
starts n (Ok (Committed moment)) = false
starts n (Ok Aborted) = false
starts n (Ok (Written moment)) = false
starts n (Ok (Delivered moment)) = false
starts n (Ok (Swept pins)) = false
starts n (Err fault) = false

-- the number that a commit or abort ends
abbrev pub names_tx : ℕ → Call → Bool
names_tx n (Begin now limit) = false
names_tx n (Sheet number sheet argument) = false
names_tx n (Step number now) = false
names_tx n (Directly number query now) = false
names_tx n (Commit number) = n == number
names_tx n (Abort number) = n == number
names_tx n Write = false
names_tx n Deliver = false
names_tx n (Sweep now age) = false

-- whether a call and its answer end the transaction with a number: an accepted commit or abort
abbrev pub finishes : ℕ → Call → Outcome → Bool
finishes n call reply = cond (cond (is_commit reply) true (is_abort reply)) (names_tx n call) false

-- a transaction is open from its accepted begin to the accepted commit or abort with its number
abbrev pub is_open_in : ℕ → List Event → Bool
is_open_in n [] = false
is_open_in n (event ∷ trace) = cond (starts n event.reply) true (cond (finishes n event.call event.reply) false (is_open_in n trace))

-- the numbers of the books' transactions
abbrev pub numbers : List Transaction → List ℕ
numbers txs = map (λ tx. tx.number) txs

-- how many transactions hold the pin of a moment
abbrev pub holders : ℕ → List Transaction → ℕ
holders m txs = length (filter (λ tx. among m tx.holds) txs)

-- The law of a hall after a list of calls.
pub record Law (rules : Rules) (o : Origin) (trace : List Event) (hall : Hall) : Type 0 where
  -- every reading answered to an open transaction's last call or query, by the call, a step or the query, is right at each moment of its pin set
  pub answers : (tx : Transaction) → Among tx hall.books.txs → (question : Question) (reading : Reading) → AnsweredIn tx.number question reading trace
      → (m : ℕ) → among m tx.set ≡ true → Right rules (records_at o trace m) question reading
  -- and so is every reading given to it, also to a frame's last question by a step
  pub readings : (tx : Transaction) → Among tx hall.books.txs → (given : Given) → GivenIn given trace → given.number ≡ tx.number
      → (m : ℕ) → among m tx.set ≡ true → Right rules (records_at o trace m) given.question given.reading
  -- its pin set holds the present or a moment
  pub sets : (tx : Transaction) → Among tx hall.books.txs → (tx.present ≡ true) ⊎ ((m : ℕ) × (among m tx.set ≡ true))
  -- each moment in it is pinned at the database
  pub pinned : (tx : Transaction) → Among tx hall.books.txs → (m : ℕ) → among m tx.set ≡ true → among m hall.db.pins ≡ true
  -- accepted begins are accepted commits, accepted aborts and open transactions
  pub counted : how_many is_begin trace ≡ (how_many is_commit trace + how_many is_abort trace) + length hall.books.txs
  -- the books hold exactly the open transactions
  pub exactly : (n : ℕ) → among n (numbers hall.books.txs) ≡ is_open_in n trace
  -- each pin's uses are the open transactions that hold it
  pub uses : (pin : Pin) → Among pin hall.books.pins → pin.uses ≡ holders pin.moment hall.books.txs

-- the law stands after every list of calls from a making, with any arguments and faults among them
abbrev pub LawStands : Type 0
LawStands = (rules : Rules) (o : Origin) (trace : List Event) (hall : Hall) → Lives rules o trace hall → Law rules o trace hall

-- no call ever meets a moment that is not held
abbrev pub AlwaysHeld : Type 0
AlwaysHeld = (rules : Rules) (o : Origin) (trace : List Event) (hall : Hall) → Lives rules o trace hall → (e : Event) (after : Hall) (frames : ℕ) → Does rules hall e.call e.changes e.reply e.given after → e.reply ≢ Err (NotHeld frames)

-- halls of one recipe, whatever their make, show equal readings at one moment with the same records
abbrev pub HallsAgree : Type 0
HallsAgree = (rules : Rules) (o p : Origin) (one other : List Event) (hall hall' : Hall) → Lives rules o one hall → Lives rules p other hall'
    → (tx tx' : Transaction) → Among tx hall.books.txs → Among tx' hall'.books.txs
    → (given given' : Given) → GivenIn given one → given.number ≡ tx.number → GivenIn given' other → given'.number ≡ tx'.number → given.question ≡ given'.question
    → (m m' : ℕ) → among m tx.set ≡ true → among m' tx'.set ≡ true → ((table key : ℕ) → records_at o one m table key ≡ records_at p other m' table key)
    → given.reading ≡ given'.reading
