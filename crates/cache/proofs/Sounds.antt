-- What holds between the calls of a cache is kept by each of them.
use Rattle.std.proofs.Common.{◌≡◌, ℕ, ◌≤◌, max, true, false, ◌&&◌, eqb, ltb, leb, List, [], length, Some, None, Option, sym, refl, ap, ◌∙◌, subst, ⊎_elim, arith}
use Rattle.std.proofs.lemmas.Bool.{cond_both, and_parts, and_from, both_ways, eqb-true, eq-eqb, leb-true, le-leb, ltb-true, lt-ltb}
use Rattle.terms.specs.declared.interval.Interval.{Interval}
use Rattle.terms.specs.declared.interval.Until.{Until}
use Rattle.terms.specs.declared.interval.Until.TheVariants.{Ended, Open}
use Rattle.terms.specs.declared.tag.Tag.{Tag}
use Rattle.terms.specs.Moments.{is_moment}
use Rattle.terms.specs.Records.{Reading}
use Rattle.cache.specs.declared.entry.Entry.{Entry}
use Rattle.cache.specs.declared.key.Key.{Key}
use Rattle.cache.specs.Keys.{is_key}
use Rattle.cache.specs.Lists.{Same}
use Rattle.cache.specs.TagSets.{tags_of, packed, few_tags, new_to}
use Rattle.cache.specs.Entries.{accepts, accepted, has_moment, covers, known_at, inside, lasts, share_moment, gives_way, is_end, is_open, closes, closed, ended_at, ends_past}
use Rattle.cache.specs.Calls.{Looks, Only, Inserts, Enters, Closes, Drops, Sound}
use Rattle.cache.proofs.Packs.{tags_of_packed}

lasts_down : (until : Until) (k m : ℕ) → k ≤ m → lasts until m ≡ true → lasts until k ≡ true
lasts_down (Ended end) k m le h = let below = ltb-true m end h in lt-ltb k end (omega arith)
lasts_down (Open through) k m le h = refl

-- intervals that have a moment in common share the later of their first moments
pub share_from : (one other : Interval) (m : ℕ) → inside one m ≡ true → inside other m ≡ true → share_moment one other ≡ true
share_from one other m h k =
    let a = and_parts (leb one.first m) (lasts one.until m) h in
    let b = and_parts (leb other.first m) (lasts other.until m) k in
    let p : one.first ≤ m = leb-true one.first m a.0 in
    let q : other.first ≤ m = leb-true other.first m b.0 in
    let le : max one.first other.first ≤ m = omega arith in
    and_from _ _
    (and_from _ _ (le-leb one.first (max one.first other.first) (omega arith)) (lasts_down one.until (max one.first other.first) m le a.1))
    (and_from _ _ (le-leb other.first (max one.first other.first) (omega arith)) (lasts_down other.until (max one.first other.first) m le b.1))

pub is_key_sym : (one other : Key) → is_key one other ≡ true → is_key other one ≡ true
is_key_sym one other h =
    let p = and_parts (eqb one.sheet other.sheet) (eqb one.argument other.argument) h in
    and_from _ _ (eq-eqb other.sheet one.sheet (sym (eqb-true one.sheet other.sheet p.0))) (eq-eqb other.argument one.argument (sym (eqb-true one.argument other.argument p.1)))

pub sound_same : {xs ys : List Entry} → Same xs ys → Sound xs → Sound ys
sound_same same sound = record {
  made = λ e h. sound.made e (same.back e h);
  apart = λ e f h k. sound.apart e f (same.back e h) (same.back f k);
}

pub sound_drops : {xs ys : List Entry} {m : ℕ} → Drops xs m ys → Sound xs → Sound ys
sound_drops drops sound = record {
  made = λ e h. sound.made e (drops.only e h).0;
  apart = λ e f h k. sound.apart e f (drops.only e h).0 (drops.only f k).0;
}

-- an entry that does not give way to another of its key has no moment in common with it
keeps_apart : (new e : Entry) (m : ℕ) → gives_way new e ≡ false → is_key new.key e.key ≡ true → inside new.interval m ≡ true → inside e.interval m ≡ true → ⊥
keeps_apart new e m stays key h k =
    both_ways (gives_way new e) stays (and_from _ _ key (share_from new.interval e.interval m h k))

pub sound_inserts : {xs ys : List Entry} {new : Entry} → Inserts xs new ys → accepts new.key new.interval (tags_of new.tags) ≡ true → Sound xs → Sound ys
sound_inserts {xs} {ys} {new} ins good sound = record {
  made = λ e h. ⊎_elim
      (λ is. subst (λ (x : Entry). accepts x.key x.interval (tags_of x.tags) ≡ true) (sym is) good)
      (λ was. sound.made e was.0) (ins.old e h);
  apart = λ e f h k key m he hf. ⊎_elim
      (λ is. ⊎_elim
      (λ also. is ∙ sym also)
      (λ was. absurd (keeps_apart new f m was.1
      (subst (λ (x : Entry). is_key x.key f.key ≡ true) is key)
      (subst (λ (x : Entry). inside x.interval m ≡ true) is he) hf))
      (ins.old f k))
      (λ was. ⊎_elim
      (λ is. absurd (keeps_apart new e m was.1
      (is_key_sym e.key new.key (subst (λ (x : Entry). is_key e.key x.key ≡ true) is key))
      (subst (λ (x : Entry). inside x.interval m ≡ true) is hf) he))
      (λ also. sound.apart e f was.0 also.0 key m he hf)
      (ins.old f k))
      (ins.old e h);
}

-- the tags of an accepted entry are those that were given
pub accepted_good : (key : Key) (interval : Interval) (tags : List Tag) → accepts key interval tags ≡ true → accepts key interval (tags_of (packed tags)) ≡ true
accepted_good key interval tags h =
    let few = (and_parts (has_moment interval) (few_tags tags) (and_parts (ltb key.sheet 255) (has_moment interval && few_tags tags) h).1).1 in
    let short = leb-true (length tags) 8 (and_parts (leb (length tags) 8) (new_to [] tags) few).0 in
    ap (accepts key interval) (tags_of_packed tags short) ∙ h

pub sound_enters : (xs ys : List Entry) (key : Key) (reading : Reading) (interval : Interval) (tags : List Tag) → Enters xs (accepted key reading interval tags) ys → Sound xs → Sound ys
sound_enters xs ys key reading interval tags =
    cond_both (accepts key interval tags) (Some (record { key = key; reading = reading; interval = interval; tags = packed tags })) None
    (λ new. Enters xs new ys → Sound xs → Sound ys)
    (λ good ins sound. sound_inserts ins (accepted_good key interval tags good) sound)
    (λ bad is sound. subst Sound (sym is) sound)

pub closed_key : (tag : Tag) (n : ℕ) (e : Entry) → (closed tag n e).key ≡ e.key
closed_key tag n e = cond_both (closes tag n e) (ended_at n e) e (λ (x : Entry). x.key ≡ e.key) (λ _. refl) (λ _. refl)

open_inside : (until : Until) (m : ℕ) → is_open until ≡ true → lasts until m ≡ true
open_inside (Ended end) m h = absurd (both_ways false refl h)
open_inside (Open through) m h = refl

-- a close takes moments away, and adds none
pub closed_inside : (tag : Tag) (n : ℕ) (e : Entry) (m : ℕ) → inside (closed tag n e).interval m ≡ true → inside e.interval m ≡ true
closed_inside tag n e m =
    cond_both (closes tag n e) (ended_at n e) e (λ (x : Entry). inside x.interval m ≡ true → inside e.interval m ≡ true)
    (λ yes' h.
    let c = and_parts (is_open e.interval.until) _ (and_parts (is_end n) _ yes').1 in
    and_from _ _ (and_parts (leb e.interval.first m) _ h).0 (open_inside e.interval.until m c.0))
    (λ _ h. h)

pub closed_good : (tag : Tag) (n : ℕ) (e : Entry) → accepts e.key e.interval (tags_of e.tags) ≡ true → accepts (closed tag n e).key (closed tag n e).interval (tags_of (closed tag n e).tags) ≡ true
closed_good tag n e good =
    cond_both (closes tag n e) (ended_at n e) e (λ (x : Entry). accepts x.key x.interval (tags_of x.tags) ≡ true)
    (λ yes'.
    let a = and_parts (ltb e.key.sheet 255) (has_moment e.interval && few_tags (tags_of e.tags)) good in
    let b = and_parts (has_moment e.interval) (few_tags (tags_of e.tags)) a.1 in
    let first = (and_parts (is_moment e.interval.first) (ends_past e.interval.first e.interval.until) b.0).0 in
    let c = and_parts (is_end n) _ yes' in
    let d = and_parts (is_open e.interval.until) _ c.1 in
    let before = (and_parts (ltb e.interval.first n) _ d.1).0 in
    and_from _ _ a.0 (and_from _ _ (and_from _ _ first (and_from _ _ before c.0)) b.1))
    (λ _. good)

pub sound_closes : {xs ys : List Entry} {tag : Tag} {n : ℕ} → Closes xs tag n ys → Sound xs → Sound ys
sound_closes {xs} {ys} {tag} {n} closing sound = record {
  made = λ e h.
      let w = closing.only e h in
      subst (λ (x : Entry). accepts x.key x.interval (tags_of x.tags) ≡ true) (sym w.2) (closed_good tag n w.0 (sound.made w.0 w.1));
  apart = λ e f h k key m he hf.
      let v = closing.only e h in
      let w = closing.only f k in
      let same : is_key v.0.key w.0.key ≡ true =
      ap (λ (x : Key). is_key x w.0.key) (sym (closed_key tag n v.0))
      ∙ ap (is_key (closed tag n v.0).key) (sym (closed_key tag n w.0))
      ∙ ap (λ (x : Entry). is_key x.key (closed tag n w.0).key) (sym v.2)
      ∙ ap (λ (x : Entry). is_key e.key x.key) (sym w.2)
      ∙ key in
      let one = closed_inside tag n v.0 m (subst (λ (x : Entry). inside x.interval m ≡ true) v.2 he) in
      let other = closed_inside tag n w.0 m (subst (λ (x : Entry). inside x.interval m ≡ true) w.2 hf) in
      v.2 ∙ ap (closed tag n) (sound.apart v.0 w.0 v.1 w.1 same m one other) ∙ sym w.2;
}

is_key_trans : (key one other : Key) → is_key key one ≡ true → is_key key other ≡ true → is_key one other ≡ true
is_key_trans key one other h k =
    let p = and_parts (eqb key.sheet one.sheet) (eqb key.argument one.argument) h in
    let q = and_parts (eqb key.sheet other.sheet) (eqb key.argument other.argument) k in
    and_from _ _
    (eq-eqb one.sheet other.sheet (sym (eqb-true key.sheet one.sheet p.0) ∙ eqb-true key.sheet other.sheet q.0))
    (eq-eqb one.argument other.argument (sym (eqb-true key.argument one.argument p.1) ∙ eqb-true key.argument other.argument q.1))

known_lasts : (until : Until) (delivered m : ℕ) → known_at delivered until m ≡ true → lasts until m ≡ true
known_lasts (Ended end) delivered m h = h
known_lasts (Open through) delivered m h = refl

covered_inside : (delivered : ℕ) (e : Entry) (m : ℕ) → covers delivered e m ≡ true → inside e.interval m ≡ true
covered_inside delivered e m h =
    let p = and_parts (leb e.interval.first m) (known_at delivered e.interval.until m) (and_parts (is_moment m) _ h).1 in
    and_from _ _ p.0 (known_lasts e.interval.until delivered m p.1)

-- the entry that covers the newest moment is the only one
pub looks_only : (es : List Entry) (key : Key) (ms : List ℕ) (delivered : ℕ) (r : Option Entry) → Looks es key ms delivered r → Sound es → Only (Looks es key ms delivered) r
looks_only es key ms delivered None miss sound None also = refl
looks_only es key ms delivered None miss sound (Some hit) also = absurd (miss hit also.0 also.1.0 also.1.1 also.1.2)
looks_only es key ms delivered (Some hit) h sound None also = absurd (also hit h.0 h.1.0 h.1.1 h.1.2)
looks_only es key ms delivered (Some hit) h sound (Some other) also =
    let above : h.1.0 ≤ also.1.0 = also.1.3 hit h.0 h.1.0 h.1.1 h.1.2 in
    let below : also.1.0 ≤ h.1.0 = h.1.3 other also.0 also.1.0 also.1.1 also.1.2 in
    let at : also.1.0 ≡ h.1.0 = omega arith in
    let mine = and_parts (is_key key hit.key) (covers delivered hit h.1.0) h.1.2 in
    let its = and_parts (is_key key other.key) (covers delivered other also.1.0) also.1.2 in
    let here : covers delivered other h.1.0 ≡ true = ap (covers delivered other) (sym at) ∙ its.1 in
    ap Some (sound.apart other hit also.0 h.0 (is_key_trans key other.key hit.key its.0 mine.0) h.1.0 (covered_inside delivered other h.1.0 here) (covered_inside delivered hit h.1.0 mine.1))
