-- A waiting line: the first places of a slice as a ring, read from the line's head on, and from the slice's start after the line's last place.
use Rattle.std.specs.Prelude.{◌≡◌, ℕ, ◌+◌, ◌-◌, ◌<◌, cond, ◌≢◌, List, [], ◌∷◌, ◌++◌, length, take, drop, Some, None, Ok, Err, Option, Result, nat_le, nat_lt, slice_set}
use Rattle.line.specs.declared.line.Line.{Line}
use Rattle.line.specs.declared.line.Refusal.{Refusal}
use Rattle.line.specs.declared.line.Refusal.TheVariants.{Short, Full}

-- the place of the i-th element from the head on, of which the first is the 0-th
abbrev pub place_of : Line → ℕ → ℕ
place_of l i = cond (nat_lt i (l.size - l.head)) (l.head + i) (i - (l.size - l.head))

-- a list from a place on, and then what stands before that place
unfoldable pub turned : {X : Type 0} → ℕ → List X → List X
turned head xs = drop head xs ++ take head xs

-- how many wait in a slice of so many places: in one that is shorter than the line's size none
abbrev pub counted : Line → ℕ → ℕ
counted l places = cond (nat_le l.size places) l.len 0

-- the place of the i-th that waits in a slice of so many places
abbrev pub place_in : Line → ℕ → ℕ → Option ℕ
place_in l places i = cond (nat_lt i (counted l places)) (Some (place_of l i)) None

-- the elements that wait in a slice, oldest first
unfoldable pub waiting : {X : Type 0} → Line → List X → List X
waiting l room = take (counted l (length room)) (turned l.head (take l.size room))

-- a new line is empty; there is none of size 0
abbrev pub Made : ℕ → Option Line → Type 0
Made size None = size ≡ 0
Made size (Some l) = (l.size ≡ size) × (l.head ≡ 0) × (l.len ≡ 0)

-- whether one more is taken: not in a slice that is shorter than the line's size, nor where as many wait as the line's size
abbrev pub admission : {X : Type 0} → Line → List X → Result (Unit {0}) Refusal
admission l room = cond (nat_le l.size (length room)) (cond (nat_lt l.len l.size) (Ok tt) (Err Full)) (Err Short)

-- x has joined the end of the line: it is written at a place below the size where none waits, and every other place is as before
pub record Entered {X : Type 0} (l : Line) (room : List X) (x : X) (l' : Line) (room' : List X) : Type 0 where
  pub joins : waiting l' room' ≡ waiting l room ++ x ∷ []
  pub written : room' ≡ slice_set room (place_of l l.len) x
  pub within : place_of l l.len < l.size
  pub free : (i : ℕ) → i < l.len → place_of l i ≢ place_of l l.len
  pub head : l'.head ≡ l.head
  pub len : l'.len ≡ l.len + 1
  pub size : l'.size ≡ l.size

-- the n oldest have left the line
pub record Advanced (l : Line) (n : ℕ) (l' : Line) : Type 0 where
  pub head : l'.head ≡ place_of l n
  pub len : l'.len ≡ l.len - n
  pub size : l'.size ≡ l.size
