-- Sets of at most 8 different tags.
use Rattle.std.specs.Prelude.{ℕ, ◌-◌, min, Bool, true, false, cond, not, ◌&&◌, List, [], ◌∷◌, ◌++◌, length, take, replicate, Some, None, Option, ◌==◌, nat_le, nat_lt}
use Rattle.std.specs.List.{list_any}
use Rattle.terms.specs.declared.tag.Tag.{Tag}
use Rattle.terms.specs.Tags.{touches}
use Rattle.cache.specs.declared.tag_set.TagSet.{TagSet}

-- the tags of a set stand in its first places
abbrev pub tags_of : TagSet → List Tag
tags_of set = take (min set.count 8) set.tags

-- what stands in the places that are not used
abbrev pub no_tag : Tag
no_tag = record { table = 0; key = None }

-- the same key, or two stars
abbrev pub same_keys : Option ℕ → Option ℕ → Bool
same_keys (Some key) (Some other) = key == other
same_keys (Some key) None = false
same_keys None (Some other) = false
same_keys None None = true

-- the same tag: a star is no key
abbrev pub is_tag : Tag → Tag → Bool
is_tag one other = one.table == other.table && same_keys one.key other.key

-- the tag is in the list
abbrev pub has_tag : Tag → List Tag → Bool
has_tag tag list = list_any (is_tag tag) list

-- some tag of the list touches the tag
abbrev pub touched : Tag → List Tag → Bool
touched tag list = list_any (touches tag) list

-- no tag of the second list repeats one that stands before it, in either
abbrev pub new_to : List Tag → List Tag → Bool
new_to seen [] = true
new_to seen (tag ∷ rest) = not (has_tag tag seen) && new_to (seen ++ tag ∷ []) rest

-- at most 8 tags, and none repeats
abbrev pub few_tags : List Tag → Bool
few_tags list = nat_le (length list) 8 && new_to [] list

-- the set of these tags, in their order
abbrev pub packed : List Tag → TagSet
packed list = record { tags = list ++ replicate (8 - length list) no_tag; count = length list }

-- the set of these tags, if they are at most 8 and none repeats
abbrev pub set_of : List Tag → Option TagSet
set_of list = cond (few_tags list) (Some (packed list)) None

-- the tags with one more: the same tags if it is there already, and none if it is not there and 8 others are
abbrev pub with_tag : List Tag → Tag → Option (List Tag)
with_tag list tag = cond (has_tag tag list) (Some list) (cond (nat_lt (length list) 8) (Some (list ++ tag ∷ [])) None)
