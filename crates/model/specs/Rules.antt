-- The rules of choosing the moment, narrowing, staying open, and inserting at done.
use Rattle.std.specs.Prelude.{◌≡◌, ℕ, ◌+◌, min, max, Bool, true, false, cond, not, ◌&&◌, ◌||◌, List, [], ◌∷◌, ◌++◌, map, length, Some, None, filter, Option, ◌==◌, nat_le, nat_lt}
use Rattle.terms.specs.declared.interval.Until.{Until}
use Rattle.terms.specs.declared.interval.Until.TheVariants.{Ended, Open}
use Rattle.terms.specs.declared.tag.Tag.{Tag}
use Rattle.terms.specs.Intervals.{contains}
use Rattle.database.specs.declared.Answer.{Answer}
use Rattle.database.specs.Lists.{among, added}
use Rattle.database.specs.Databases.{Db, Pinned, Unpins}
use Rattle.cache.specs.declared.entry.Entry.{Entry}
use Rattle.cache.specs.TagSets.{tags_of, has_tag}
use Rattle.model.specs.Books.{Pin, Part, Frame, Transaction, moments, newest_of, time_of}

-- a pin is fresh if its time and the limit together are not below now
abbrev pub is_fresh : ℕ → ℕ → Pin → Bool
is_fresh now limit pin = nat_le now (pin.time + limit)

-- the newest moment is too old if its time + 5 is below now; where there is none, there is nothing to be too old
abbrev pub too_old : ℕ → List Pin → Option ℕ → Bool
too_old now pins None = true
too_old now pins (Some newest) = nat_lt (time_of newest pins + 5) now

-- the present is chosen if it is in the pin set, and the set has no moment or its newest is too old
abbrev pub wants_present : ℕ → List Pin → Transaction → Bool
wants_present now pins tx = tx.present && too_old now pins (newest_of tx.set)

-- whether the latest moment has a pin, or there is room for one
abbrev pub has_room : ℕ → List Pin → Bool
has_room latest pins = among latest (moments pins) || nat_lt (length pins) 32

-- a pin that no open transaction holds
abbrev pub is_unused : Pin → Bool
is_unused pin = pin.uses == 0

-- the lower of two moments, one of which may be missing
abbrev pub lower : ℕ → Option ℕ → ℕ
lower m None = m
lower m (Some n) = min m n

-- the unused pin of lowest moment
abbrev pub lowest_unused : List Pin → Option ℕ
lowest_unused [] = None
lowest_unused (pin ∷ pins) = cond (is_unused pin) (Some (lower pin.moment (lowest_unused pins))) (lowest_unused pins)

-- the pins without that of a moment
abbrev pub without_pin : ℕ → List Pin → List Pin
without_pin m pins = filter (λ pin. not (pin.moment == m)) pins

-- a pin of the moment gets the later of its time and now, and one use more unless the transaction held it before
abbrev pub used_more : Bool → ℕ → ℕ
used_more before uses = cond before uses (uses + 1)

abbrev pub renewed : ℕ → ℕ → Bool → Pin → Pin
renewed m now before pin =
    cond (pin.moment == m) (record { moment = m; time = max pin.time now; uses = used_more before pin.uses }) pin

-- the latest moment is pinned with time now, and the transaction holds it
abbrev pub pins_with : ℕ → ℕ → Bool → List Pin → List Pin
pins_with m now before pins =
    cond (among m (moments pins)) (map (renewed m now before) pins) (pins ++ record { moment = m; time = now; uses = 1 } ∷ [])

-- the latest moment takes the present's place in the set
abbrev pub with_latest : ℕ → Transaction → Transaction
with_latest m tx = record { number = tx.number; present = false; set = added m tx.set; holds = added m tx.holds; frames = tx.frames }

-- Choosing: the moment, and database, pins and transaction then. The present is pinned where it is chosen and can be, after the unused
-- pin of lowest moment is given up if 32 others are pinned. Otherwise the newest moment of the set is taken.
pub data Picks (db : Db) (pins : List Pin) (tx : Transaction) (now : ℕ) : ℕ → Db → List Pin → Transaction → Type 0 where
  taken : (m : ℕ) → wants_present now pins tx ≡ false → newest_of tx.set ≡ Some m → Picks db pins tx now m db pins tx
  pinned : (db' : Db) → wants_present now pins tx ≡ true → has_room db.latest pins ≡ true → Pinned db db.latest db'
      → Picks db pins tx now db.latest db' (pins_with db.latest now (among db.latest tx.holds) pins) (with_latest db.latest tx)
  gave_up : (u : ℕ) (db₁ db' : Db) → wants_present now pins tx ≡ true → has_room db.latest pins ≡ false → lowest_unused pins ≡ Some u
      → Unpins db u db₁ → Pinned db₁ db.latest db'
      → Picks db pins tx now db.latest db' (pins_with db.latest now (among db.latest tx.holds) (without_pin u pins)) (with_latest db.latest tx)
  kept : (m : ℕ) → wants_present now pins tx ≡ true → has_room db.latest pins ≡ false → lowest_unused pins ≡ None → newest_of tx.set ≡ Some m
      → Picks db pins tx now m db pins tx

abbrev pub none_of : Option ℕ → Bool
none_of None = true
none_of (Some m) = false

-- no pin is to be had: none unused, no room, and no moment in the set
abbrev pub no_pin : Db → List Pin → Transaction → ℕ → Bool
no_pin db pins tx now = cond (wants_present now pins tx) (not (has_room db.latest pins) && none_of (lowest_unused pins)) true && none_of (newest_of tx.set)

-- the ends and throughs of two parts together: open while both are, else ended at the least of ends and throughs + 1
abbrev pub meet_until : Until → Until → Until
meet_until (Open t) (Open u) = Open (min t u)
meet_until (Open t) (Ended f) = Ended (min (t + 1) f)
meet_until (Ended e) (Open u) = Ended (min e (u + 1))
meet_until (Ended e) (Ended f) = Ended (min e f)

-- the tags of both, each once
abbrev pub join_tags : List Tag → List Tag → List Tag
join_tags tags [] = tags
join_tags tags (tag ∷ more) = join_tags (cond (has_tag tag tags) tags (tags ++ tag ∷ [])) more

-- with more than 8 tags it stays open no longer; what is ended bears no tags
abbrev pub fitting : Until → List Tag → Until
fitting (Ended e) tags = Ended e
fitting (Open t) tags = cond (nat_le (length tags) 8) (Open t) (Ended (t + 1))

abbrev pub bearing : Until → List Tag → List Tag
bearing (Ended e) tags = []
bearing (Open t) tags = tags

-- what two parts have in common
abbrev pub meet : Part → Part → Part
meet a b = record {
  interval = record { first = max a.interval.first b.interval.first; until = fitting (meet_until a.interval.until b.interval.until) (join_tags a.tags b.tags) };
  tags = bearing (fitting (meet_until a.interval.until b.interval.until) (join_tags a.tags b.tags)) (join_tags a.tags b.tags);
}

-- an open hit has the last delivered message as its through
abbrev pub through_t : ℕ → Until → Until
through_t T (Ended e) = Ended e
through_t T (Open t) = Open T

abbrev pub hit_part : ℕ → Entry → Part
hit_part T entry = record { interval = record { first = entry.interval.first; until = through_t T entry.interval.until }; tags = tags_of entry.tags }

-- a queried answer bears its one tag
abbrev pub answer_part : Answer → Part
answer_part answer = record { interval = answer.interval; tags = answer.tag ∷ [] }

-- a frame is cut to what it is given, and takes its tags
abbrev pub cut : Part → Frame → Frame
cut part frame = record { point = frame.point; answers = frame.answers; part = meet frame.part part }

-- Narrowing: the present leaves the set, and so does every moment outside the interval; each frame is cut
abbrev pub narrowed : Part → Transaction → Transaction
narrowed part tx = record { number = tx.number; present = false; set = filter (contains part.interval) tx.set; holds = tx.holds; frames = map (cut part) tx.frames }

-- Inserting at done: an open frame goes in open, with its tags, if its through is at or above T; any other ends, without tags
abbrev pub settled_until : ℕ → Until → Until
settled_until T (Ended e) = Ended e
settled_until T (Open t) = cond (nat_le T t) (Open t) (Ended (t + 1))

abbrev pub settled : ℕ → Part → Part
settled T part = record {
  interval = record { first = part.interval.first; until = settled_until T part.interval.until };
  tags = bearing (settled_until T part.interval.until) part.tags;
}
