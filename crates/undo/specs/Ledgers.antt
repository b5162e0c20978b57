-- The room of a ledger, and how far changes fill it.
use Rattle.std.specs.Prelude.{◌≡◌, ℕ, ◌+◌, ◌≤◌, vec_len, vec_capacity}
use Rattle.undo.specs.declared.ledger.Ledger.{Ledger}

-- there is room for n more present records and entries
pub record Roomy (n : ℕ) (l : Ledger) : Type 0 where
  pub rows : vec_len l.present + n ≤ vec_capacity l.present
  pub places : l.line.len + n ≤ l.line.size

-- there are at most n more, in the same room
pub record Grown (n : ℕ) (before after : Ledger) : Type 0 where
  pub rows : vec_len after.present ≤ vec_len before.present + n
  pub capacity : vec_capacity after.present ≡ vec_capacity before.present
  pub places : after.line.len ≤ before.line.len + n
  pub size : after.line.size ≡ before.line.size
