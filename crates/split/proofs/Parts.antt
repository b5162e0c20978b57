-- What a call does to one of the two caches, it does to the split.
use Rattle.std.proofs.Common.{◌≡◌, ℕ, ◌+◌, ◌%◌, Bool, true, false, not, eqb, ◌⊎◌, List, Some, None, filter, Option, sym, ap, ◌∙◌, inl, inr, ⊎_elim}
use Rattle.std.proofs.lemmas.Bool.{and_parts, both_ways, cases_Bool, cond_both, eqb-true, not-true}
use Rattle.terms.specs.declared.interval.Interval.{Interval}
use Rattle.terms.specs.declared.tag.Tag.{Tag}
use Rattle.terms.specs.Records.{Reading}
use Rattle.cache.specs.declared.call.Offer.{Offer}
use Rattle.cache.specs.declared.call.LookUp.{LookUp}
use Rattle.cache.specs.declared.entry.Entry.{Entry}
use Rattle.cache.specs.declared.key.Key.{Key}
use Rattle.cache.specs.Keys.{is_key}
use Rattle.cache.specs.Lists.{Among, Same}
use Rattle.cache.specs.TagSets.{packed}
use Rattle.cache.specs.Entries.{accepts, accepted, offered, answers, covers, gives_way, share_moment, closed}
use Rattle.cache.specs.Calls.{Looks, LooksUp, Inserts, Enters, Closes, Drops, Sound}
use Rattle.cache.proofs.Members.{among_append, among_left, among_right, among_kept, kept_among}
use Rattle.cache.proofs.Sounds.{closed_key, sound_closes, sound_drops, sound_enters}
use Rattle.split.specs.Halves.{goes_first, goes_second, halves}

-- equal keys go to the same cache
pub first_same : (one other : Key) → is_key one other ≡ true → goes_first one ≡ goes_first other
first_same one other h =
    let p = and_parts (eqb one.sheet other.sheet) (eqb one.argument other.argument) h in
    ap (λ (n : ℕ). eqb ((n + one.argument) % 2) 0) (eqb-true one.sheet other.sheet p.0)
    ∙ ap (λ (n : ℕ). eqb ((other.sheet + n) % 2) 0) (eqb-true one.argument other.argument p.1)

pub second_same : (one other : Key) → is_key one other ≡ true → goes_second one ≡ goes_second other
second_same one other h = ap not (first_same one other h)

pub in_first : (es fs : List Entry) (e : Entry) → Among e es → goes_first e.key ≡ true → Among e (halves es fs)
in_first es fs e a side = among_left e (filter (λ x. goes_first x.key) es) (filter (λ x. goes_second x.key) fs) (among_kept (λ x. goes_first x.key) e es a side)

pub in_second : (es fs : List Entry) (e : Entry) → Among e fs → goes_second e.key ≡ true → Among e (halves es fs)
in_second es fs e a side = among_right e (filter (λ x. goes_first x.key) es) (filter (λ x. goes_second x.key) fs) (among_kept (λ x. goes_second x.key) e fs a side)

pub either_half : (es fs : List Entry) (e : Entry) → Among e (halves es fs) → (Among e es × (goes_first e.key ≡ true)) ⊎ (Among e fs × (goes_second e.key ≡ true))
either_half es fs e a =
    ⊎_elim (λ l. inl (kept_among (λ x. goes_first x.key) e es l)) (λ r. inr (kept_among (λ x. goes_second x.key) e fs r))
    (among_append e (filter (λ x. goes_first x.key) es) (filter (λ x. goes_second x.key) fs) a)

-- gs, of which the keys of one side count, is a part of vs; the rest of vs stays as gs and vs become hs and ws
pub record Part (side : Key → Bool) (gs vs hs ws : List Entry) : Type 0 where
  pub alike : (one other : Key) → is_key one other ≡ true → side one ≡ side other
  pub into : (e : Entry) → Among e gs → side e.key ≡ true → Among e vs
  pub into_after : (e : Entry) → Among e hs → side e.key ≡ true → Among e ws
  pub from : (e : Entry) → Among e vs → (Among e gs × (side e.key ≡ true)) ⊎ (Among e ws × (side e.key ≡ false))
  pub from_after : (e : Entry) → Among e ws → (Among e hs × (side e.key ≡ true)) ⊎ (Among e vs × (side e.key ≡ false))

pub part_first : (es fs es' : List Entry) → Part goes_first es (halves es fs) es' (halves es' fs)
part_first es fs es' = record {
  alike = first_same;
  into = in_first es fs;
  into_after = in_first es' fs;
  from = λ e a. ⊎_elim (λ l. inl l) (λ r. inr (in_second es' fs e r.0 r.1, not-true (goes_first e.key) r.1)) (either_half es fs e a);
  from_after = λ e a. ⊎_elim (λ l. inl l) (λ r. inr (in_second es fs e r.0 r.1, not-true (goes_first e.key) r.1)) (either_half es' fs e a);
}

pub part_second : (es fs fs' : List Entry) → Part goes_second fs (halves es fs) fs' (halves es fs')
part_second es fs fs' = record {
  alike = second_same;
  into = in_second es fs;
  into_after = in_second es fs';
  from = λ e a. ⊎_elim (λ l. inr (in_first es fs' e l.0 l.1, ap not l.1)) (λ r. inl r) (either_half es fs e a);
  from_after = λ e a. ⊎_elim (λ l. inr (in_first es fs e l.0 l.1, ap not l.1)) (λ r. inl r) (either_half es fs' e a);
}

module _ {side : Key → Bool} {gs vs hs ws : List Entry} (part : Part side gs vs hs ws) where
  pub part_same : Same gs hs → Same vs ws
  part_same same = record {
    there = λ e a. ⊎_elim (λ l. part.into_after e (same.there e l.0) l.1) (λ r. r.0) (part.from e a);
    back = λ e a. ⊎_elim (λ l. part.into e (same.back e l.0) l.1) (λ r. r.0) (part.from_after e a);
  }

  -- an entry that answers has the key, and is on its side
  answers_side : (key : Key) (delivered : ℕ) (e : Entry) (m : ℕ) → side key ≡ true → answers key delivered e m ≡ true → side e.key ≡ true
  answers_side key delivered e m on t = sym (part.alike key e.key (and_parts (is_key key e.key) (covers delivered e m) t).0) ∙ on

  among_side : (key : Key) (delivered : ℕ) (e : Entry) (m : ℕ) → side key ≡ true → answers key delivered e m ≡ true → Among e vs → Among e gs
  among_side key delivered e m on t a =
      ⊎_elim (λ l. l.0) (λ r. absurd (both_ways (side e.key) r.1 (answers_side key delivered e m on t))) (part.from e a)

  pub part_looks : (key : Key) (ms : List ℕ) (delivered : ℕ) (r : Option Entry) → side key ≡ true → Looks gs key ms delivered r → Looks vs key ms delivered r
  part_looks key ms delivered None on h = λ e a m b t. h e (among_side key delivered e m on t a) m b t
  part_looks key ms delivered (Some hit) on h =
      let newest = h.1.0 in (
        part.into hit h.0 (answers_side key delivered hit newest on h.1.2),
        (newest, h.1.1, h.1.2, λ e a m b t. h.1.3 e (among_side key delivered e m on t a) m b t),
      )

  part_stays : (new e : Entry) → side new.key ≡ true → side e.key ≡ false → gives_way new e ≡ false
  part_stays new e on off =
      ⊎_elim
      (λ gives. absurd (both_ways (side e.key) off (sym (part.alike new.key e.key (and_parts (is_key new.key e.key) (share_moment new.interval e.interval) gives).0) ∙ on)))
      (λ stays. stays)
      (cases_Bool (gives_way new e))

  pub part_inserts : (new : Entry) → side new.key ≡ true → Inserts gs new hs → Inserts vs new ws
  part_inserts new on ins = record {
    added = part.into_after new ins.added on;
    old = λ e a. ⊎_elim
        (λ l. ⊎_elim (λ is. inl is) (λ was. inr (part.into e was.0 l.1, was.1)) (ins.old e l.0))
        (λ r. inr (r.0, part_stays new e on r.1))
        (part.from_after e a);
    gone = ins.gone;
    kept = λ e a no. ⊎_elim
        (λ l. ⊎_elim (λ there. inl (part.into_after e there l.1)) (λ lost. inr lost) (ins.kept e l.0 no))
        (λ r. inl r.0)
        (part.from e a);
  }

  pub part_enters : (key : Key) (reading : Reading) (interval : Interval) (tags : List Tag) → side key ≡ true → (hs ≡ gs → ws ≡ vs) → Enters gs (accepted key reading interval tags) hs → Enters vs (accepted key reading interval tags) ws
  part_enters key reading interval tags on unchanged =
      cond_both (accepts key interval tags) (Some (record { key = key; reading = reading; interval = interval; tags = packed tags })) None
      (λ (new : Option Entry). Enters gs new hs → Enters vs new ws)
      (λ _ ins. part_inserts _ on ins)
      (λ _ is. unchanged is)

first_closed : (tag : Tag) (n : ℕ) (e : Entry) → goes_first (closed tag n e).key ≡ goes_first e.key
first_closed tag n e = ap goes_first (closed_key tag n e)

pub halves_closes : (es fs es' fs' : List Entry) (tag : Tag) (n : ℕ) → Closes es tag n es' → Closes fs tag n fs' → Closes (halves es fs) tag n (halves es' fs')
halves_closes es fs es' fs' tag n a b = record {
  each = λ e h. ⊎_elim
      (λ l. in_first es' fs' (closed tag n e) (a.each e l.0) (first_closed tag n e ∙ l.1))
      (λ r. in_second es' fs' (closed tag n e) (b.each e r.0) (ap not (first_closed tag n e) ∙ r.1))
      (either_half es fs e h);
  only = λ e h. ⊎_elim
      (λ l. let w = a.only e l.0 in
      (w.0, in_first es fs w.0 w.1 (sym (first_closed tag n w.0) ∙ ap (λ (x : Entry). goes_first x.key) (sym w.2) ∙ l.1), w.2))
      (λ r. let w = b.only e r.0 in
      (w.0, in_second es fs w.0 w.1 (ap not (sym (first_closed tag n w.0) ∙ ap (λ (x : Entry). goes_first x.key) (sym w.2)) ∙ r.1), w.2))
      (either_half es' fs' e h);
}

pub halves_drops : (es fs es' fs' : List Entry) (moment : ℕ) → Drops es moment es' → Drops fs moment fs' → Drops (halves es fs) moment (halves es' fs')
halves_drops es fs es' fs' moment a b = record {
  stay = λ e h no. ⊎_elim
      (λ l. in_first es' fs' e (a.stay e l.0 no) l.1)
      (λ r. in_second es' fs' e (b.stay e r.0 no) r.1)
      (either_half es fs e h);
  only = λ e h. ⊎_elim
      (λ l. let w = a.only e l.0 in (in_first es fs e w.0 l.1, w.1))
      (λ r. let w = b.only e r.0 in (in_second es fs e w.0 r.1, w.1))
      (either_half es' fs' e h);
}

pub sound_halves_closed : (es fs es' fs' : List Entry) (tag : Tag) (n : ℕ) → Closes es tag n es' → Closes fs tag n fs' → Sound (halves es fs) → Sound (halves es' fs')
sound_halves_closed es fs es' fs' tag n a b = sound_closes (halves_closes es fs es' fs' tag n a b)

pub sound_halves_dropped : (es fs es' fs' : List Entry) (moment : ℕ) → Drops es moment es' → Drops fs moment fs' → Sound (halves es fs) → Sound (halves es' fs')
sound_halves_dropped es fs es' fs' moment a b = sound_drops (halves_drops es fs es' fs' moment a b)

module _ (es fs gs : List Entry) (offer : Offer) where
  pub first_enters : true ≡ goes_first offer.key → Enters es (offered offer) gs → Enters (halves es fs) (offered offer) (halves gs fs)
  first_enters on ins = part_enters (part_first es fs gs) offer.key offer.reading offer.interval offer.tags.now (sym on) (λ is. ap (λ l. halves l fs) is) ins

  pub second_enters : false ≡ goes_first offer.key → Enters fs (offered offer) gs → Enters (halves es fs) (offered offer) (halves es gs)
  second_enters off ins = part_enters (part_second es fs gs) offer.key offer.reading offer.interval offer.tags.now (ap not (sym off)) (λ is. ap (halves es) is) ins

  pub sound_first_enters : true ≡ goes_first offer.key → Enters es (offered offer) gs → Sound (halves es fs) → Sound (halves gs fs)
  sound_first_enters on ins = sound_enters _ _ offer.key offer.reading offer.interval offer.tags.now (first_enters on ins)

  pub sound_second_enters : false ≡ goes_first offer.key → Enters fs (offered offer) gs → Sound (halves es fs) → Sound (halves es gs)
  sound_second_enters off ins = sound_enters _ _ offer.key offer.reading offer.interval offer.tags.now (second_enters off ins)

module _ (es fs : List Entry) (wanted : LookUp) (r : Option Entry) where
  pub first_looks : true ≡ goes_first wanted.key → LooksUp es wanted r → LooksUp (halves es fs) wanted r
  first_looks on h = part_looks (part_first es fs es) wanted.key wanted.moments.now wanted.delivered r (sym on) h

  pub second_looks : false ≡ goes_first wanted.key → LooksUp fs wanted r → LooksUp (halves es fs) wanted r
  second_looks off h = part_looks (part_second es fs fs) wanted.key wanted.moments.now wanted.delivered r (ap not (sym off)) h
