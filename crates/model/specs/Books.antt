-- The books of a hall: pins, transactions with their frames, and the stream.
use Rattle.std.specs.Prelude.{ℕ, max, Bool, cond, List, [], ◌∷◌, map, Some, None, Option, ◌==◌}
use Rattle.terms.specs.declared.interval.Interval.{Interval}
use Rattle.terms.specs.declared.interval.Until.TheVariants.{Open}
use Rattle.terms.specs.declared.tag.Tag.{Tag}
use Rattle.database.specs.Databases.{Db}
use Rattle.cache.specs.declared.entry.Entry.{Entry}
use Rattle.recipe.specs.declared.Point.{Point}
use Rattle.recipe.specs.Recipes.{start}

-- a pinned moment, the time at which it was the latest, and how many open transactions hold it
pub record Pin : Type 0 where
  pub moment : ℕ
  pub time : ℕ
  pub uses : ℕ

-- for which moments something is right, and the tags that it rests on while it is open
pub record Part : Type 0 where
  pub interval : Interval
  pub tags : List Tag

-- a sheet that is being worked out: where it stands, how often its recipe was asked, and what all that it was given has in common
pub record Frame : Type 0 where
  pub point : Point
  pub answers : ℕ
  pub part : Part

-- an open transaction: its number, its pin set (perhaps the present, and some pins' moments), the pins it holds, its frames, the top first
pub record Transaction : Type 0 where
  pub number : ℕ
  pub present : Bool
  pub set : List ℕ
  pub holds : List ℕ
  pub frames : List Frame

-- a row of the stream: the moment of a write, and the tag of one of its changes
pub record Row : Type 0 where
  pub moment : ℕ
  pub tag : Tag

-- the next transaction number, the pins, the open transactions, the last delivered message T, the stream's size and its rows
pub record Books : Type 0 where
  pub next : ℕ
  pub pins : List Pin
  pub txs : List Transaction
  pub delivered : ℕ
  pub size : ℕ
  pub rows : List Row

-- a database, a cache and the books
pub record Hall : Type 0 where
  pub db : Db
  pub entries : List Entry
  pub books : Books

-- a through without limit: above every moment
abbrev pub limitless : ℕ
limitless = 18446744073709551615

-- a frame starts open from 0, its through without limit, with no tags
abbrev pub whole_part : Part
whole_part = record { interval = record { first = 0; until = Open limitless }; tags = [] }

abbrev pub fresh_frame : ℕ → ℕ → Frame
fresh_frame sheet argument = record { point = start sheet argument; answers = 0; part = whole_part }

-- the moments of the pins
abbrev pub moments : List Pin → List ℕ
moments pins = map (λ pin. pin.moment) pins

-- the open transaction with a number
abbrev pub find : ℕ → List Transaction → Option Transaction
find number [] = None
find number (tx ∷ txs) = cond (number == tx.number) (Some tx) (find number txs)

-- a transaction as it is now, in the place of the one with its number
abbrev pub replaced : Transaction → List Transaction → List Transaction
replaced tx [] = []
replaced tx (old ∷ txs) = cond (tx.number == old.number) (tx ∷ txs) (old ∷ replaced tx txs)

-- the open transactions without the one with a number
abbrev pub removed : ℕ → List Transaction → List Transaction
removed number [] = []
removed number (tx ∷ txs) = cond (number == tx.number) txs (tx ∷ removed number txs)

-- the newest of a list of moments
abbrev pub newest_from : ℕ → List ℕ → ℕ
newest_from m [] = m
newest_from m (n ∷ ns) = max m (newest_from n ns)

abbrev pub newest_of : List ℕ → Option ℕ
newest_of [] = None
newest_of (m ∷ ms) = Some (newest_from m ms)

-- the time of the pin of a moment
abbrev pub time_of : ℕ → List Pin → ℕ
time_of m [] = 0
time_of m (pin ∷ pins) = cond (m == pin.moment) pin.time (time_of m pins)

-- other books with the same stream
abbrev pub with_transactions : List Pin → List Transaction → Books → Books
with_transactions pins txs books = record { next = books.next; pins = pins; txs = txs; delivered = books.delivered; size = books.size; rows = books.rows }
