-- Versions of records: when one is visible, and the moments at which what a query reads of them may turn.
use Rattle.std.specs.Prelude.{ℕ, Bool, true, cond, ◌&&◌, List, [], ◌∷◌, ◌++◌, map, Some, None, filter, Option, nat_le, nat_lt}
use Rattle.std.specs.List.{flat_map}
use Rattle.terms.specs.declared.record.Row.{Row}
use Rattle.terms.specs.declared.record.Query.{Query}
use Rattle.database.specs.Rows.{matches}
use Rattle.validity.specs.declared.version.Version.{Version}

-- before the moment of replacement, if there is one
abbrev pub lasts : Option ℕ → ℕ → Bool
lasts None moment = true
lasts (Some replaced) moment = nat_lt moment replaced

-- a version is visible from the moment it was made until before the one it was replaced
abbrev pub visible : ℕ → Version → Bool
visible moment version = nat_le version.made moment && lasts version.replaced moment

-- the records of the versions visible at a moment
abbrev pub rows_at : ℕ → List Version → List Row
rows_at moment versions = map (λ version. version.row) (filter (visible moment) versions)

-- the replaced moment of a version, if there is one
abbrev pub replacements : Option ℕ → List ℕ
replacements None = []
replacements (Some replaced) = replaced ∷ []

-- the moments at which a version was made, where that counts, and replaced
abbrev pub turns_by : (Version → Bool) → Version → List ℕ
turns_by counts version = cond (counts version) (version.made ∷ []) [] ++ replacements version.replaced

-- the turns of a query: the made and replaced moments of the versions that match it, as far as they count
abbrev pub turns_among : (Version → Bool) → Query → List Version → List ℕ
turns_among counts query versions = flat_map (turns_by counts) (filter (λ version. matches query version.row) versions)

-- replaced, if at all, by the latest moment
abbrev pub replaced_upto : ℕ → Option ℕ → Bool
replaced_upto latest None = true
replaced_upto latest (Some replaced) = nat_le replaced latest

-- made, and perhaps replaced, by the latest moment
abbrev pub dated : ℕ → Version → Bool
dated latest version = nat_le version.made latest && replaced_upto latest version.replaced
