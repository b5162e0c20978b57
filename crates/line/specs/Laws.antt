-- What the numbers of a line say of any slice, for elements of any type.
use Rattle.std.specs.Prelude.{◌≡◌, ℕ, ◌<◌, ◌≤◌, ◌≢◌, List, [], length, drop, slice_index_or, slice_set}
use Rattle.line.specs.declared.line.Line.{Line}
use Rattle.line.specs.Rings.{place_of, waiting, Advanced}

pub record Laws {X : Type 0} (room : List X) : Type 0 where
  -- as many wait as the line counts
  pub count : (l : Line) → l.size ≤ length room → length (waiting l room) ≡ l.len
  -- and none where the slice is shorter than the line's size
  pub short : (l : Line) → length room < l.size → waiting l room ≡ []
  -- the i-th stands at the i-th place from the head on
  pub stands : (l : Line) (i : ℕ) (d : X) → l.size ≤ length room → i < l.len → slice_index_or (waiting l room) i d ≡ slice_index_or room (place_of l i) d
  -- each place is one of the line's
  pub within : (l : Line) (i : ℕ) → i < l.size → place_of l i < l.size
  -- and no two are the same
  pub apart : (l : Line) (i j : ℕ) → i < j → j < l.size → place_of l i ≢ place_of l j
  -- a write where none waits changes nothing
  pub outside : (l : Line) (at : ℕ) (x : X) → ((i : ℕ) → i < l.len → place_of l i ≢ at) → waiting l (slice_set room at x) ≡ waiting l room
  -- where the n oldest have left, the others wait in their order
  pub left : (l l' : Line) (n : ℕ) → Advanced l n l' → n ≤ l.len → waiting l' room ≡ drop n (waiting l room)
