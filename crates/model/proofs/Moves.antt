-- How claims last over calls: over one that writes nothing, over pins that go, and over a write.
use Rattle.std.proofs.Common.{◌≡◌, ℕ, ◌+◌, ◌≤◌, true, false, cond, ◌&&◌, leb, List, [], ◌∷◌, ◌++◌, Some, None, Option, sym, refl, ap, ◌∙◌, subst, inl, inr, ⊎_elim, arith}
use Rattle.std.proofs.lemmas.Bool.Decides.{nat_tests}
use Rattle.std.proofs.lemmas.Bool.{cases_Bool, cond-true, cond-false, le-leb, lt-leb, and_from, or_cases, or_right, or_left, or_parts, eqb-true, eq-eqb}
use Rattle.terms.specs.declared.interval.Until.{Until}
use Rattle.terms.specs.declared.interval.Until.TheVariants.{Ended, Open}
use Rattle.terms.specs.declared.record.Change.{Change}
use Rattle.terms.specs.declared.record.RecordId.{RecordId}
use Rattle.terms.specs.declared.tag.Tag.{Tag}
use Rattle.terms.specs.Records.{change_id, change_tag, one_tag}
use Rattle.terms.specs.Tags.{touches, keys_touch}
use Rattle.database.specs.States.{Records, Agree}
use Rattle.database.specs.Writes.{put, changed}
use Rattle.database.specs.Databases.{Db, held, Sound, Written}
use Rattle.database.proofs.Rows.{same_id}
use Rattle.cache.specs.Lists.{Among}
use Rattle.cache.proofs.Members.{among_left, among_right, among_map}
use Rattle.cache.specs.TagSets.{touched}
use Rattle.recipe.specs.Recipes.{AgreeAll}
use Rattle.model.specs.Books.{Part}
use Rattle.model.specs.Calls.{rows_of_write}
use Rattle.model.specs.Traces.{Origin, Event, is_write, latest_of, records_at, rows_of}
use Rattle.model.proofs.Claims.{Untouched, ClaimAt, Within, Rests, Claim}

-- the database's states are the records of its held moments
abbrev pub Faithful : Origin → List Event → Db → Type 0
Faithful o h db = (m table key : ℕ) → held db m ≡ true → db.at m table key ≡ records_at o h m table key

-- a call that writes nothing
pub latest_skip : (o : Origin) (h : List Event) (e : Event) → is_write e.reply ≡ false → latest_of o (e ∷ h) ≡ latest_of o h
latest_skip o h e no_write = cond-false (is_write e.reply) _ _ no_write

pub records_skip : (o : Origin) (h : List Event) (e : Event) (m : ℕ) → is_write e.reply ≡ false → records_at o (e ∷ h) m ≡ records_at o h m
records_skip o h e m no_write = ap (λ b. cond (b && leb (latest_of o h + 1) m) (changed e.changes (records_at o h m)) (records_at o h m)) no_write

pub rows_skip : (o : Origin) (h : List Event) (e : Event) → is_write e.reply ≡ false → rows_of o (e ∷ h) ≡ rows_of o h
rows_skip o h e no_write = cond-false (is_write e.reply) _ _ no_write

untouched_skip : (o : Origin) (h : List Event) (e : Event) (a m : ℕ) (tags : List Tag) → is_write e.reply ≡ false → Untouched o (e ∷ h) a m tags → Untouched o h a m tags
untouched_skip o h e a m tags no_write u row in-it = u row (subst (Among row) (sym (rows_skip o h e no_write)) in-it)

claim_at_skip : (o : Origin) (h : List Event) (e : Event) (tags : List Tag) (u : Until) (m : ℕ) (P : Records → Type 0) → is_write e.reply ≡ false → ClaimAt o h tags u m P → ClaimAt o (e ∷ h) tags u m P
claim_at_skip o h e tags (Ended end) m P no_write c = λ l. subst P (sym (records_skip o h e m no_write)) (c l)
claim_at_skip o h e tags (Open t) m P no_write c = λ un z a. c (untouched_skip o h e t m tags no_write un) z (subst (λ s. AgreeAll tags s z) (records_skip o h e m no_write) a)

pub claim_skip : (o : Origin) (h : List Event) (e : Event) (db : Db) (part : Part) (P : Records → Type 0) → is_write e.reply ≡ false → Claim o h db part P → Claim o (e ∷ h) db part P
claim_skip o h e db part P no_write c = record { within = c.within; begins = c.begins; rests = c.rests; holds = λ m hd l. claim_at_skip o h e part.tags part.interval.until m P no_write (c.holds m hd l) }

-- pins that come for what is held already, and pins that go
within_to : (u : Until) (l k : ℕ) → l ≤ k → Within u l → Within u k
within_to (Ended e) l k h w = omega arith
within_to (Open t) l k h w = tt

rests_to : (u : Until) (tags : List Tag) (l k : ℕ) → l ≤ k → Rests u tags l → Rests u tags k
rests_to (Ended e) tags l k h r = tt
rests_to (Open t) tags l k h r = ⊎_elim (λ a. inl (omega arith)) inr r

pub claim_held : (o : Origin) (h : List Event) (db db' : Db) (part : Part) (P : Records → Type 0) → db'.latest ≡ db.latest → ((m : ℕ) → held db' m ≡ true → held db m ≡ true) → Claim o h db part P → Claim o h db' part P
claim_held o h db db' part P same fewer c = record {
  within = within_to part.interval.until db.latest db'.latest (omega arith) c.within;
  begins = let b = c.begins in omega arith;
  rests = rests_to part.interval.until part.tags db.latest db'.latest (omega arith) c.rests;
  holds = λ m hd l. c.holds m (fewer m hd) l;
}

-- the records of the latest moment and of those after it
pub records_late : (o : Origin) (h : List Event) (m : ℕ) → latest_of o h ≤ m → records_at o h m ≡ records_at o h (latest_of o h)
records_late o [] m l = refl
records_late o (e ∷ h) m l =
    ⊎_elim
    (λ (w : is_write e.reply ≡ true).
    let n = latest_of o h in
    let top : latest_of o (e ∷ h) ≡ n + 1 = cond-true (is_write e.reply) _ _ w in
    let at : (k : ℕ) → n + 1 ≤ k → records_at o (e ∷ h) k ≡ changed e.changes (records_at o h n) =
    λ k le. ap (λ b. cond (b && leb (n + 1) k) (changed e.changes (records_at o h k)) (records_at o h k)) w ∙ cond-true (leb (n + 1) k) _ _ (le-leb (n + 1) k le) ∙ ap (changed e.changes) (records_late o h k (omega arith)) in
    at m (omega arith) ∙ sym (at (latest_of o (e ∷ h)) (omega arith)))
    (λ (w : is_write e.reply ≡ false).
    let top = latest_skip o h e w in
    records_skip o h e m w ∙ records_late o h m (omega arith) ∙ ap (records_at o h) (sym top) ∙ sym (records_skip o h e (latest_of o (e ∷ h)) w))
    (cases_Bool (is_write e.reply))

-- a write
pub records_before : (o : Origin) (h : List Event) (e : Event) (m : ℕ) → m ≤ latest_of o h → records_at o (e ∷ h) m ≡ records_at o h m
records_before o h e m l = cond-false (is_write e.reply && leb (latest_of o h + 1) m) _ _ (let f = lt-leb (latest_of o h + 1) m (omega arith) in grind arith)

pub records_new : (o : Origin) (h : List Event) (e : Event) → is_write e.reply ≡ true → records_at o (e ∷ h) (latest_of o h + 1) ≡ changed e.changes (records_at o h (latest_of o h))
records_new o h e w =
    cond-true (is_write e.reply && leb (latest_of o h + 1) (latest_of o h + 1)) _ _ (and_from _ _ w (le-leb (latest_of o h + 1) (latest_of o h + 1) (omega arith)))
    ∙ ap (changed e.changes) (records_late o h (latest_of o h + 1) (omega arith))

pub rows_new : (o : Origin) (h : List Event) (e : Event) → is_write e.reply ≡ true → rows_of o (e ∷ h) ≡ rows_of o h ++ rows_of_write (latest_of o h + 1) e.changes
rows_new o h e w = cond-true (is_write e.reply) _ _ w

-- a change that touches no tag leaves what the tags touch
keys_sym : (a b : Option ℕ) → keys_touch a b ≡ keys_touch b a
keys_sym None None = refl
keys_sym None (Some b) = refl
keys_sym (Some a) None = refl
keys_sym (Some a) (Some b) = grind (arith, nat_tests)

touch_sym : (one other : Tag) → touches one other ≡ touches other one
touch_sym one other = let keys = keys_sym one.key other.key in grind (arith, nat_tests)

put_agree : (c : Change) (tag : Tag) (s : Records) → touches (change_tag c) tag ≡ false → Agree tag s (put c s)
put_agree c tag s no_touch t k e =
    let at : RecordId = record { table = t; key = k } in
    let same = same_id (change_id c) at in
    let other = touch_sym (one_tag at) tag in
    grind (arith, nat_tests)

changes_agree : (cs : List Change) (tag : Tag) (s : Records) → ((c : Change) → Among c cs → touches (change_tag c) tag ≡ false) → Agree tag s (changed cs s)
changes_agree [] tag s none t k e = refl
changes_agree (c ∷ cs) tag s none t k e = put_agree c tag s (none c (inl refl)) t k e ∙ changes_agree cs tag (put c s) (λ d a. none d (inr a)) t k e

touched_each : (tag : Tag) (tags : List Tag) (x : Tag) → touched tag tags ≡ false → Among x tags → touches tag x ≡ false
touched_each tag [] x e a = absurd a
touched_each tag (y ∷ tags) x e a = let ih = touched_each tag tags x in grind (arith, nat_tests)

agree_changes : (cs : List Change) (tags : List Tag) (s : Records) → ((c : Change) → Among c cs → touched (change_tag c) tags ≡ false) → AgreeAll tags s (changed cs s)
agree_changes cs [] s none = tt
agree_changes cs (tag ∷ tags) s none =
    (changes_agree cs tag s (λ c a. (or_parts _ _ (none c a)).0), agree_changes cs tags s (λ c a. (or_parts _ _ (none c a)).1))

agree_trans : (tags : List Tag) (s y z : Records) → AgreeAll tags s y → AgreeAll tags y z → AgreeAll tags s z
agree_trans [] s y z a b = tt
agree_trans (tag ∷ tags) s y z a b = (λ t k e. a.0 t k e ∙ b.0 t k e, agree_trans tags s y z a.1 b.1)

untouched_before : (o : Origin) (h : List Event) (e : Event) (a m : ℕ) (tags : List Tag) → is_write e.reply ≡ true → Untouched o (e ∷ h) a m tags → Untouched o h a m tags
untouched_before o h e a m tags w u row in-it = u row (subst (Among row) (sym (rows_new o h e w)) (among_left row (rows_of o h) (rows_of_write (latest_of o h + 1) e.changes) in-it))

-- at the new moment what is open speaks as it did at the one before
claim_at_new : (o : Origin) (h : List Event) (e : Event) (tags : List Tag) (u : Until) (l : ℕ) (P : Records → Type 0) → is_write e.reply ≡ true → l ≡ latest_of o h → Within u l → Rests u tags l → ClaimAt o h tags u l P → ClaimAt o (e ∷ h) tags u (l + 1) P
claim_at_new o h e tags (Ended end) l P w same wi re c = λ less. absurd (omega arith)
claim_at_new o h e tags (Open t) l P w same wi re c = λ un z agree.
    let none : (d : Change) → Among d e.changes → touched (change_tag d) tags ≡ false =
    λ d a. ⊎_elim
    (λ le. un (record { moment = latest_of o h + 1; tag = change_tag d }) (subst (Among (record { moment = latest_of o h + 1; tag = change_tag d })) (sym (rows_new o h e w)) (among_right _ (rows_of o h) (rows_of_write (latest_of o h + 1) e.changes) (among_map (λ (x : Change). record { moment = latest_of o h + 1; tag = change_tag x }) d e.changes a))) (omega arith) (omega arith))
    (λ empty. ap (touched (change_tag d)) empty) re in
    let start = subst (λ k. AgreeAll tags (records_at o (e ∷ h) (k + 1)) z) same agree in
    let moved = subst (λ s. AgreeAll tags s z) (records_new o h e w) start in
    let whole = agree_trans tags (records_at o h (latest_of o h)) (changed e.changes (records_at o h (latest_of o h))) z (agree_changes e.changes tags (records_at o h (latest_of o h)) none) moved in
    c (λ row in-it a b. untouched_before o h e t (l + 1) tags w un row in-it a (omega arith)) z (subst (λ k. AgreeAll tags (records_at o h k) z) (sym same) whole)

claim_at_old : (o : Origin) (h : List Event) (e : Event) (tags : List Tag) (u : Until) (m : ℕ) (P : Records → Type 0) → is_write e.reply ≡ true → m ≤ latest_of o h → ClaimAt o h tags u m P → ClaimAt o (e ∷ h) tags u m P
claim_at_old o h e tags (Ended end) m P w l c = λ less. subst P (sym (records_before o h e m l)) (c less)
claim_at_old o h e tags (Open t) m P w l c = λ un z a. c (untouched_before o h e t m tags w un) z (subst (λ s. AgreeAll tags s z) (records_before o h e m l) a)

pub claim_write : (o : Origin) (h : List Event) (e : Event) (db db' : Db) (n : ℕ) (part : Part) (P : Records → Type 0) → is_write e.reply ≡ true → db.latest ≡ latest_of o h → Sound db → Written db e.changes n db' → Claim o h db part P → Claim o (e ∷ h) db' part P
claim_write o h e db db' n part P w same sound wrote c = record {
  within = within_to part.interval.until db.latest db'.latest (omega (arith, wrote.latest)) c.within;
  begins = let b = c.begins in omega (arith, wrote.latest);
  rests = rests_to part.interval.until part.tags db.latest db'.latest (omega (arith, wrote.latest)) c.rests;
  holds = λ m hd l.
      ⊎_elim
      (λ is. let top : m ≡ db.latest + 1 = eqb-true m db'.latest is ∙ wrote.latest in
      subst (λ k. ClaimAt o (e ∷ h) part.tags part.interval.until k P) (sym top)
      (claim_at_new o h e part.tags part.interval.until db.latest P w same c.within c.rests (c.holds db.latest (or_left _ _ (eq-eqb db.latest db.latest refl)) c.begins)))
      (λ pin. let old = sym (wrote.pins m) ∙ pin in
      claim_at_old o h e part.tags part.interval.until m P w (let k = sound.past m old in omega arith) (c.holds m (or_right _ _ old) l))
      (or_cases _ _ hd);
}
