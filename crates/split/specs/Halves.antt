-- Which of its two caches a split uses for a key, and what it holds.
use Rattle.std.specs.Prelude.{ℕ, ◌+◌, ◌%◌, Bool, cond, not, List, ◌++◌, Some, None, filter, Option, ◌==◌}
use Rattle.cache.specs.declared.entry.Entry.{Entry}
use Rattle.cache.specs.declared.key.Key.{Key}
use Rattle.cache.specs.Entries.{covers}

-- keys with an even sum of sheet and argument go to the first
abbrev pub goes_first : Key → Bool
goes_first key = (key.sheet + key.argument) % 2 == 0

-- all others go to the second
abbrev pub goes_second : Key → Bool
goes_second key = not (goes_first key)

-- the entries of the first cache whose keys go there, and those of the second whose keys go there
abbrev pub halves : List Entry → List Entry → List Entry
halves es fs = filter (λ e. goes_first e.key) es ++ filter (λ e. goes_second e.key) fs

-- the entry, if there is one and it covers the moment
abbrev pub seen : ℕ → ℕ → Option Entry → Option Entry
seen delivered moment None = None
seen delivered moment (Some entry) = cond (covers delivered entry moment) (Some entry) None
