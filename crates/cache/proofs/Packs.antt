-- The making of a set of tags, and what one more tag makes of it.
use Rattle.std.proofs.Common.{◌≡◌, ℕ, suc, ◌+◌, ◌-◌, ◌<◌, ◌≤◌, min, true, false, not, ◌&&◌, leb, List, [], ◌∷◌, ◌++◌, length, get_or, take, drop, set, replicate, Some, None, sym, ap, ◌∙◌, arith, length-take}
use Rattle.std.proofs.lemmas.List.{at_drop_more, at_drop_all, take_all, take_more, take_more_set, append_assoc, set_at, length-take-le, take_at}
use Rattle.std.proofs.lemmas.Bool.{cond-true, cond-false, le-leb, and_right, and_from}
use Rattle.terms.specs.declared.tag.Tag.{Tag}
use Rattle.cache.specs.TagSets.{packed, no_tag, tags_of, has_tag, new_to, few_tags, set_of}
use Rattle.cache.specs.declared.tag_set.TagSet.{TagSet}

-- one more tag in the first place that is not used
pub packed_more : (xs : List Tag) (i : ℕ) → i < length xs → length xs ≤ 8 → set (packed (take i xs)).tags i (get_or xs i no_tag) ≡ (packed (take (i + 1) xs)).tags
packed_more xs i h few =
    let here : length (take i xs) ≡ i = length-take-le i xs (omega arith) in
    let more : length (take (i + 1) xs) ≡ i + 1 = length-take-le (i + 1) xs (omega arith) in
    let left : 8 - i ≡ suc (8 - (i + 1)) = omega arith in
    let free : (packed (take i xs)).tags ≡ take i xs ++ no_tag ∷ replicate (8 - (i + 1)) no_tag =
    ap (λ n. take i xs ++ replicate (8 - n) no_tag) here ∙ ap (λ n. take i xs ++ replicate n no_tag) left in
    let there : (packed (take (i + 1) xs)).tags ≡ take i xs ++ get_or xs i no_tag ∷ replicate (8 - (i + 1)) no_tag =
    ap (λ n. take (i + 1) xs ++ replicate (8 - n) no_tag) more
    ∙ ap (λ ys. ys ++ replicate (8 - (i + 1)) no_tag) (take_more xs i no_tag h)
    ∙ append_assoc (take i xs) (get_or xs i no_tag ∷ []) (replicate (8 - (i + 1)) no_tag) in
    ap (λ ys. set ys i (get_or xs i no_tag)) free ∙ set_at (take i xs) no_tag (replicate (8 - (i + 1)) no_tag) (get_or xs i no_tag) i here ∙ sym there

pub tags_of_packed : (xs : List Tag) → length xs ≤ 8 → tags_of (packed xs) ≡ xs
tags_of_packed xs few = take_at xs (replicate (8 - length xs) no_tag) (min (length xs) 8) (omega arith)

pub same_set : (one other : TagSet) → one.tags ≡ other.tags → one.count ≡ other.count → one ≡ other
same_set one other p q =
    let mid : TagSet = record { tags = other.tags; count = one.count } in
    let left : one ≡ mid = ap (λ (ts : List Tag). record { tags = ts; count = one.count }) p in
    left ∙ ap (λ (n : ℕ). record { tags = other.tags; count = n }) q

-- one more tag, where there is room
pub pushed_more : (s : TagSet) (tag : Tag) (n : ℕ) → length s.tags ≡ 8 → n ≡ length (tags_of s) → n < 8 → tags_of (record { tags = set s.tags n tag; count = n + 1 }) ≡ tags_of s ++ tag ∷ []
pushed_more s tag n whole is few =
    let here : n ≡ min s.count 8 = omega (arith, length-take (min s.count 8) s.tags) in
    let next : min (n + 1) 8 ≡ n + 1 = omega arith in
    let inside : n < length s.tags = omega arith in
    ap (λ k. take k (set s.tags n tag)) next
    ∙ take_more_set s.tags n tag inside
    ∙ ap (λ k. take k s.tags ++ tag ∷ []) here

-- the tags that are left decide whether one repeats
pub new_step : (xs : List Tag) (i : ℕ) → i < length xs → new_to (take i xs) (drop i xs) ≡ (not (has_tag (get_or xs i no_tag) (take i xs)) && new_to (take (i + 1) xs) (drop (i + 1) xs))
new_step xs i h =
    at_drop_more (new_to (take i xs)) xs i no_tag h
    ∙ ap (λ ys. not (has_tag (get_or xs i no_tag) (take i xs)) && new_to ys (drop (i + 1) xs)) (sym (take_more xs i no_tag h))

tags_so_far : (xs : List Tag) (i : ℕ) (s : TagSet) → i < length xs → length xs ≤ 8 → s ≡ packed (take i xs) → tags_of s ≡ take i xs
tags_so_far xs i s h few is =
    let short : length (take i xs) ≤ 8 = omega (arith, length-take i xs) in
    ap tags_of is ∙ tags_of_packed (take i xs) short

pub repeats : (xs : List Tag) (i : ℕ) (s : TagSet) → i < length xs → length xs ≤ 8 → s ≡ packed (take i xs) → new_to (take i xs) (drop i xs) ≡ new_to [] xs → true ≡ has_tag (get_or xs i no_tag) (tags_of s) → None ≡ set_of xs
repeats xs i s h few is left hit =
    let there : has_tag (get_or xs i no_tag) (take i xs) ≡ true = ap (has_tag (get_or xs i no_tag)) (sym (tags_so_far xs i s h few is)) ∙ sym hit in
    let no : new_to [] xs ≡ false = sym left ∙ new_step xs i h ∙ ap (λ b. not b && new_to (take (i + 1) xs) (drop (i + 1) xs)) there in
    sym (cond-false (few_tags xs) _ _ (and_right (leb (length xs) 8) (new_to [] xs) no))

pub fresh : (xs : List Tag) (i : ℕ) (s : TagSet) → i < length xs → length xs ≤ 8 → s ≡ packed (take i xs) → new_to (take i xs) (drop i xs) ≡ new_to [] xs → false ≡ has_tag (get_or xs i no_tag) (tags_of s) → (◌≡◌ {A = TagSet} (record { tags = set s.tags i (get_or xs i no_tag); count = i + 1 }) (packed (take (i + 1) xs))) × (new_to (take (i + 1) xs) (drop (i + 1) xs) ≡ new_to [] xs)
fresh xs i s h few is left miss =
    let there : has_tag (get_or xs i no_tag) (take i xs) ≡ false = ap (has_tag (get_or xs i no_tag)) (sym (tags_so_far xs i s h few is)) ∙ sym miss in
    let array : set s.tags i (get_or xs i no_tag) ≡ (packed (take (i + 1) xs)).tags = ap (λ (t : TagSet). set t.tags i (get_or xs i no_tag)) is ∙ packed_more xs i h few in
    let size : i + 1 ≡ length (take (i + 1) xs) = sym (length-take-le (i + 1) xs (omega arith)) in
    let on : new_to (take i xs) (drop i xs) ≡ new_to (take (i + 1) xs) (drop (i + 1) xs) = new_step xs i h ∙ ap (λ b. not b && new_to (take (i + 1) xs) (drop (i + 1) xs)) there in
    (same_set _ _ array size, sym on ∙ left)

pub all_new : (xs : List Tag) (i : ℕ) (s : TagSet) → length xs ≤ i → length xs ≤ 8 → s ≡ packed (take i xs) → new_to (take i xs) (drop i xs) ≡ new_to [] xs → Some s ≡ set_of xs
all_new xs i s past few is left =
    let yes : new_to [] xs ≡ true = sym left ∙ at_drop_all (new_to (take i xs)) xs i past in
    ap Some (is ∙ ap packed (take_all i xs past)) ∙ sym (cond-true (few_tags xs) _ _ (and_from (leb (length xs) 8) (new_to [] xs) (le-leb (length xs) 8 few) yes))
