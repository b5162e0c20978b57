-- Invalidation tags: a table with one key, or with a star for all its keys.
use Rattle.std.specs.Prelude.{ℕ, Bool, true, ◌&&◌, Some, None, Option, ◌==◌}
use Rattle.terms.specs.declared.tag.Tag.{Tag}

-- keys are equal, or one is a star
abbrev pub keys_touch : Option ℕ → Option ℕ → Bool
keys_touch None other = true
keys_touch (Some key) None = true
keys_touch (Some key) (Some other) = key == other

-- two tags touch if the tables are equal, and the keys are equal or one is a star
abbrev pub touches : Tag → Tag → Bool
touches one other = one.table == other.table && keys_touch one.key other.key
