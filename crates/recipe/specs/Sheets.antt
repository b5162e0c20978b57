-- The attendant's and the board's recipe, and what their sheets are worth.
use Rattle.std.specs.Prelude.{◌≡◌, ℕ, true, false, cond, Some, None, Ok, Err, MatchBool, Option, Result, ◌==◌, nat_le, nat_lt}
use Rattle.terms.specs.declared.record.Value.{Value}
use Rattle.terms.specs.declared.record.Query.{Query}
use Rattle.terms.specs.declared.record.Query.TheVariants.{Get, Tally}
use Rattle.terms.specs.Records.{Reading}
use Rattle.terms.specs.declared.fault.Fault.{Fault}
use Rattle.terms.specs.declared.fault.Fault.TheVariants.{NotHeld}
use Rattle.database.specs.Databases.{Db, held}
use Rattle.database.specs.States.{Records, Reads, seen}
use Rattle.recipe.specs.declared.Point.{Point}
use Rattle.recipe.specs.declared.Turn.{Turn}
use Rattle.recipe.specs.declared.Ask.TheVariants.{Query as Asked, Call, Done}
use Rattle.recipe.specs.Recipes.{Rules, GivesWithin}

-- the record of a table under a key
abbrev pub get_of : ℕ → ℕ → Query
get_of table key = Get (record { table = table; key = key })

abbrev pub finish : Reading → Turn
finish reading = record { ask = Done reading; stage = 0; carry = 0 }

-- a number that fits 32 bits
abbrev pub narrow : ℕ → Option ℕ
narrow n = cond (nat_lt n 4294967296) (Some n) None

-- the door's state and its number, if the door's word is the ticket
abbrev pub claimed : ℕ → Option ℕ → Reading → Reading
claimed ticket None reading = None
claimed ticket (Some door) None = None
claimed ticket (Some door) (Some pair) = cond (pair.1 == ticket) (Some (pair.0, door)) None

-- first the ticket, then the door in its word
abbrev pub door_of : Reading → Turn
door_of None = finish None
door_of (Some pair) = record { ask = Asked (get_of 0 pair.1); stage = 2; carry = pair.1 }

abbrev pub claim_turn : Point → Turn
claim_turn point =
    cond (point.stage == 0) (record { ask = Asked (get_of 1 point.argument); stage = 1; carry = 0 })
    (cond (point.stage == 1) (door_of point.last)
    (finish (claimed point.argument (narrow point.carry) point.last)))

-- the attendant's recipe: sheet 0 is the claim sheet
abbrev pub attendant : Rules
attendant = record { sheets = 1; turn = λ point. cond (point.sheet == 0) (claim_turn point) (finish None) }

-- a count, absent as 0
abbrev pub count_of : Reading → ℕ
count_of None = 0
count_of (Some pair) = pair.0

-- how many doors are in a state: absent above 255
abbrev pub tally_turn : Point → Turn
tally_turn point =
    cond (point.stage == 0)
    (cond (nat_le point.argument 255) (record { ask = Asked (Tally 0 point.argument); stage = 1; carry = 0 }) (finish None))
    (finish point.last)

abbrev pub counts : Option ℕ → Reading → Reading
counts None reading = None
counts (Some free) reading = Some (free, count_of reading)

-- the free doors, then the taken ones
abbrev pub counts_turn : Point → Turn
counts_turn point =
    cond (point.stage == 0) (record { ask = Call 0 0; stage = 1; carry = 0 })
    (cond (point.stage == 1) (record { ask = Call 0 1; stage = 2; carry = count_of point.last })
    (finish (counts (narrow point.carry) point.last)))

-- the board's recipe: sheet 0 tallies the doors in the argument's state, sheet 1 gives the counts of states 0 and 1
abbrev pub board : Rules
board = record { sheets = 2; turn = λ point. cond (point.sheet == 0) (tally_turn point) (cond (point.sheet == 1) (counts_turn point) (finish None)) }

-- what the claim sheet of a ticket is worth: the state and number of the door in the ticket's word, if that door's word is the ticket
abbrev pub claim_of_door : ℕ → ℕ → Option Value → Reading
claim_of_door ticket door None = None
claim_of_door ticket door (Some value) = cond (value.word == ticket) (Some (value.state, door)) None

-- a door's number is a 32-bit number, as every word is
abbrev pub claim_of_word : Records → ℕ → Option ℕ → Reading
claim_of_word records ticket None = None
claim_of_word records ticket (Some door) = claim_of_door ticket door (seen records 0 door)

abbrev pub claim_of_ticket : Records → ℕ → Option Value → Reading
claim_of_ticket records ticket None = None
claim_of_ticket records ticket (Some value) = claim_of_word records ticket (narrow value.word)

abbrev pub claim_of : Records → ℕ → Reading
claim_of records ticket = claim_of_ticket records ticket (seen records 1 ticket)

-- what the board's sheet 0 is worth: the tally of the doors in the argument's state, absent above 255
abbrev pub TallyOf : Records → ℕ → Reading → Type 0
TallyOf records argument reading = MatchBool (nat_le argument 255) (Reads records (Tally 0 argument) reading) (reading ≡ None)

-- what the board's sheet 1 is worth: how many doors are free, and how many are taken; each is a 32-bit number at every held moment
pub record CountsOf (records : Records) (reading : Reading) : Type 0 where
  pub free : Reading
  pub taken : Reading
  pub reads_free : Reads records (Tally 0 0) free
  pub reads_taken : Reads records (Tally 0 1) taken
  pub both : reading ≡ counts (narrow (count_of free)) taken

-- a sheet has a value within the depth, if the moment is held
abbrev pub HasValue : Db → Rules → ℕ → ℕ → ℕ → ℕ → Type 0
HasValue db rules moment sheet argument depth = held db moment ≡ true → (reading : Reading) × GivesWithin rules (db.at moment) depth sheet argument reading

-- the sheet's worth, or 32 where the moment is not held
abbrev pub Worth : Db → ℕ → (Records → Reading → Type 0) → Result Reading Fault → Type 0
Worth db moment worth (Ok reading) = worth (db.at moment) reading
Worth db moment worth (Err fault) = (held db moment ≡ false) × (fault ≡ NotHeld 0)
