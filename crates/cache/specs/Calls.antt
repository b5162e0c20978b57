-- What each call makes of the entries of a cache. A list of entries stands for the set of its elements.
use Rattle.std.specs.Prelude.{◌≡◌, ℕ, ◌≤◌, Bool, true, false, ◌⊎◌, List, Some, None, Option, ◌≢◌}
use Rattle.terms.specs.declared.tag.Tag.{Tag}
use Rattle.cache.specs.declared.call.LookUp.{LookUp}
use Rattle.cache.specs.declared.entry.Entry.{Entry}
use Rattle.cache.specs.declared.key.Key.{Key}
use Rattle.cache.specs.Keys.{is_key}
use Rattle.cache.specs.Lists.{Among}
use Rattle.cache.specs.TagSets.{tags_of}
use Rattle.cache.specs.Entries.{accepts, answers, inside, gives_way, closed, ended_by}

-- the newest listed moment that passes the test, or none if none passes
abbrev pub Newest : (ℕ → Bool) → List ℕ → Option ℕ → Type 0
Newest test moments None = (m : ℕ) → Among m moments → test m ≢ true
Newest test moments (Some newest) =
    Among newest moments × (test newest ≡ true) × ((m : ℕ) → Among m moments → test m ≡ true → m ≤ newest)

-- A look-up answers an entry of the key that covers the newest listed moment that any entry of the key covers;
-- a miss says that no entry of the key covers a listed moment.
abbrev pub Looks : List Entry → Key → List ℕ → ℕ → Option Entry → Type 0
Looks entries key moments delivered None =
    (e : Entry) → Among e entries → (m : ℕ) → Among m moments → answers key delivered e m ≢ true
Looks entries key moments delivered (Some hit) =
    Among hit entries
    × ((newest : ℕ)
    × Among newest moments
    × (answers key delivered hit newest ≡ true)
    × ((e : Entry) → Among e entries → (m : ℕ) → Among m moments → answers key delivered e m ≡ true → m ≤ newest))

-- the same, of what the look-up is given
abbrev pub LooksUp : List Entry → LookUp → Option Entry → Type 0
LooksUp entries wanted answer = Looks entries wanted.key wanted.moments.now wanted.delivered answer

-- no other answer is as asked
abbrev pub Only : (Option Entry → Type 0) → Option Entry → Type 0
Only asked answer = (other : Option Entry) → asked other → other ≡ answer

-- An insert adds the new entry. Those that give way to it leave, and perhaps one more.
pub record Inserts (before : List Entry) (new : Entry) (after : List Entry) : Type 0 where
  pub added : Among new after
  pub old : (e : Entry) → Among e after → (e ≡ new) ⊎ (Among e before × (gives_way new e ≡ false))
  pub gone : Option Entry
  pub kept : (e : Entry) → Among e before → gives_way new e ≡ false → Among e after ⊎ (gone ≡ Some e)

-- what is not accepted changes nothing
abbrev pub Enters : List Entry → Option Entry → List Entry → Type 0
Enters before None after = after ≡ before
Enters before (Some new) after = Inserts before new after

-- a close makes of each entry what it is to become, and there is nothing else after it
pub record Closes (before : List Entry) (tag : Tag) (n : ℕ) (after : List Entry) : Type 0 where
  pub each : (e : Entry) → Among e before → Among (closed tag n e) after
  pub only : (e : Entry) → Among e after → (was : Entry) × Among was before × (e ≡ closed tag n was)

-- a drop keeps exactly the entries that have not ended by the moment
pub record Drops (before : List Entry) (moment : ℕ) (after : List Entry) : Type 0 where
  pub stay : (e : Entry) → Among e before → ended_by moment e ≡ false → Among e after
  pub only : (e : Entry) → Among e after → Among e before × (ended_by moment e ≡ false)

-- What holds between calls: each entry could be inserted (a sheet below 255, an interval with a moment,
-- at most 8 different tags), and two entries of one key never share a moment, open ones having no end.
pub record Sound (entries : List Entry) : Type 0 where
  pub made : (e : Entry) → Among e entries → accepts e.key e.interval (tags_of e.tags) ≡ true
  pub apart : (e f : Entry) → Among e entries → Among f entries → is_key e.key f.key ≡ true → (m : ℕ) → inside e.interval m ≡ true → inside f.interval m ≡ true → e ≡ f
