-- What walks over entries ask of them, and what they give.
use Rattle.std.specs.Prelude.{◌≡◌, ℕ, ◌<◌, Bool, cond, not, List, length, max, Some, None, filter, Option, nat_lt, slice_index_or}
use Rattle.std.specs.List.{reduce}
use Rattle.cache.specs.declared.call.LookUp.{LookUp}
use Rattle.cache.specs.declared.entry.Entry.{Entry}
use Rattle.cache.specs.Calls.{LooksUp}
use Rattle.cache.specs.Entries.{blank_entry, answers, ended_by, gives_way}
use Rattle.recency.specs.declared.place.Found.{Found}

-- an entry does not have to leave when the new one comes in
abbrev pub stays : Entry → Entry → Bool
stays new old = not (gives_way new old)

-- an entry has not ended at or before the moment
abbrev pub outlasts : ℕ → Entry → Bool
outlasts moment entry = not (ended_by moment entry)

-- a call on an entry answers what the test says
abbrev pub Computes : (Entry → Bool → Type 0) → (Entry → Bool) → Type 0
Computes answered test = (e : Entry) (b : Bool) → answered e b → b ≡ test e

-- the newest listed moment that the entry answers
abbrev pub newest_of : LookUp → Entry → Option ℕ
newest_of wanted entry = reduce max (filter (answers wanted.key wanted.delivered entry) wanted.moments.now)

-- the best place so far, with one more place and the newest moment that its entry answers
abbrev pub better : Option Found → ℕ → Option ℕ → Option Found
better best place None = best
better None place (Some moment) = Some (record { place = place; moment = moment })
better (Some best) place (Some moment) = cond (nat_lt best.moment moment) (Some (record { place = place; moment = moment })) (Some best)

-- where a look-up finds its answer
abbrev pub Finds : List Entry → LookUp → Option ℕ → Type 0
Finds entries wanted None = LooksUp entries wanted None
Finds entries wanted (Some place) = (place < length entries) × LooksUp entries wanted (Some (slice_index_or entries place blank_entry))
