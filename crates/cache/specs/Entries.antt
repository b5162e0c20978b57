-- Entries: what an entry covers, which entries give way to a new one, and what a close makes of one.
use Rattle.std.specs.Prelude.{ℕ, ◌+◌, max, Bool, true, false, cond, ◌&&◌, List, [], Some, None, Option, nat_le, nat_lt}
use Rattle.terms.specs.declared.interval.Interval.{Interval}
use Rattle.terms.specs.declared.interval.Until.{Until}
use Rattle.terms.specs.declared.interval.Until.TheVariants.{Ended, Open}
use Rattle.terms.specs.declared.tag.Tag.{Tag}
use Rattle.terms.specs.Moments.{highest, is_moment}
use Rattle.terms.specs.Records.{Reading}
use Rattle.cache.specs.declared.call.Offer.{Offer}
use Rattle.cache.specs.declared.entry.Entry.{Entry}
use Rattle.cache.specs.declared.key.Key.{Key}
use Rattle.cache.specs.Keys.{is_key}
use Rattle.cache.specs.TagSets.{tags_of, touched, few_tags, packed}

-- an end is the first number outside an interval, so it may be the number after the highest moment
abbrev pub is_end : ℕ → Bool
is_end n = nat_le n (highest + 1)

-- before the end; where there is none, up to the last moment that is delivered, whatever the through
abbrev pub known_at : ℕ → Until → ℕ → Bool
known_at delivered (Ended end) moment = nat_lt moment end
known_at delivered (Open through) moment = nat_le moment delivered

-- an entry covers the moments of its interval, an open one only up to the last that is delivered
abbrev pub covers : ℕ → Entry → ℕ → Bool
covers delivered entry moment =
    is_moment moment && (nat_le entry.interval.first moment && known_at delivered entry.interval.until moment)

-- an entry of the key covers the moment
abbrev pub answers : Key → ℕ → Entry → ℕ → Bool
answers key delivered entry moment = is_key key entry.key && covers delivered entry moment

-- an interval without an end goes on
abbrev pub lasts : Until → ℕ → Bool
lasts (Ended end) moment = nat_lt moment end
lasts (Open through) moment = true

-- from the first moment on, an open interval having no end
abbrev pub inside : Interval → ℕ → Bool
inside interval moment = nat_le interval.first moment && lasts interval.until moment

-- two intervals share a moment if the later of their two first moments is in both
abbrev pub share_moment : Interval → Interval → Bool
share_moment one other =
    inside one (max one.first other.first) && inside other (max one.first other.first)

-- an old entry gives way to a new one of its key with which it shares a moment
abbrev pub gives_way : Entry → Entry → Bool
gives_way new old = is_key new.key old.key && share_moment new.interval old.interval

-- an end is past the first moment, and is one; an open interval has none to ask for
abbrev pub ends_past : ℕ → Until → Bool
ends_past first (Ended end) = nat_lt first end && is_end end
ends_past first (Open through) = true

-- an interval has a moment if its first is one, and before its end
abbrev pub has_moment : Interval → Bool
has_moment interval = is_moment interval.first && ends_past interval.first interval.until

-- a sheet below 255, an interval that has a moment, at most 8 tags of which none repeats
abbrev pub accepts : Key → Interval → List Tag → Bool
accepts key interval list = nat_lt key.sheet 255 && (has_moment interval && few_tags list)

-- the entry that an insert adds, if it is accepted
abbrev pub accepted : Key → Reading → Interval → List Tag → Option Entry
accepted key reading interval list =
    cond (accepts key interval list) (Some (record { key = key; reading = reading; interval = interval; tags = packed list })) None

-- the same, of what the insert is given
abbrev pub offered : Offer → Option Entry
offered offer = accepted offer.key offer.reading offer.interval offer.tags.now

-- an interval is open if it has no end
abbrev pub is_open : Until → Bool
is_open (Ended end) = false
is_open (Open through) = true

-- a close at n ends an open entry that began before n and has a tag that touches
abbrev pub closes : Tag → ℕ → Entry → Bool
closes tag n entry =
    is_end n && (is_open entry.interval.until && (nat_lt entry.interval.first n && touched tag (tags_of entry.tags)))

-- the entry with the end n; its tags stay
abbrev pub ended_at : ℕ → Entry → Entry
ended_at n entry =
    record { key = entry.key; reading = entry.reading; interval = record { first = entry.interval.first; until = Ended n }; tags = entry.tags }

-- what a close makes of an entry
abbrev pub closed : Tag → ℕ → Entry → Entry
closed tag n entry = cond (closes tag n entry) (ended_at n entry) entry

-- an end at or before the moment
abbrev pub ends_by : ℕ → Until → Bool
ends_by moment (Ended end) = nat_le end moment
ends_by moment (Open through) = false

-- ended at or before the moment
abbrev pub ended_by : ℕ → Entry → Bool
ended_by moment entry = ends_by moment entry.interval.until

-- what may stand in a place of a table that is not used
abbrev pub blank_entry : Entry
blank_entry = record { key = record { sheet = 255; argument = 0 }; reading = None; interval = record { first = 0; until = Ended 0 }; tags = packed [] }
