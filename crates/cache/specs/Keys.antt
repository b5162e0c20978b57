-- Keys of entries.
use Rattle.std.specs.Prelude.{Bool, ◌&&◌, ◌==◌}
use Rattle.cache.specs.declared.key.Key.{Key}

-- the same sheet and argument
abbrev pub is_key : Key → Key → Bool
is_key one other = one.sheet == other.sheet && one.argument == other.argument
