-- The claims of a queried answer, of a hit, of what a done frame enters, and of what a delivery closes.
use Rattle.std.proofs.Common.{◌≡◌, ℕ, ◌+◌, ◌<◌, ◌≤◌, max, true, false, cond, ◌&&◌, ltb, leb, List, [], ◌∷◌, length, Some, sym, refl, ap, ◌∙◌, subst, inl, ⊎_elim, arith}
use Rattle.std.proofs.lemmas.Option.{none-some, same_Some}
use Rattle.std.proofs.lemmas.Bool.Decides.{nat_tests}
use Rattle.std.proofs.lemmas.Bool.{cases_Bool, both_ways, cond-true, cond-false, leb-true, leb-false, le-leb, ltb-true, lt-ltb, and_from, and_parts, or_cases, eqb-true, cases_lt}
use Rattle.terms.specs.declared.interval.Until.{Until}
use Rattle.terms.specs.declared.interval.Until.TheVariants.{Ended, Open}
use Rattle.terms.specs.declared.record.Query.{Query}
use Rattle.terms.specs.declared.tag.Tag.{Tag}
use Rattle.terms.specs.Moments.{highest}
use Rattle.terms.specs.Intervals.{contains, reaches}
use Rattle.terms.specs.Records.{Reading, query_tag}
use Rattle.database.specs.declared.Answer.{Answer}
use Rattle.database.specs.States.{Records, Reads, Agree}
use Rattle.database.specs.Databases.{Db, held, Sound, Answers, Known}
use Rattle.database.proofs.Readings.{reads_alike}
use Rattle.cache.specs.declared.entry.Entry.{Entry}
use Rattle.cache.specs.declared.key.Key.{Key}
use Rattle.cache.specs.Lists.{Among}
use Rattle.cache.specs.TagSets.{tags_of, touched, packed, few_tags, new_to}
use Rattle.cache.specs.Entries.{covers, known_at, has_moment, accepts, accepted, closes, closed, ended_at, is_open, is_end}
use Rattle.cache.proofs.Packs.{tags_of_packed}
use Rattle.model.specs.Books.{Part, Row}
use Rattle.model.specs.Rules.{through_t, hit_part, answer_part, settled_until, settled, bearing}
use Rattle.model.specs.Traces.{Origin, Event, records_at, rows_of}
use Rattle.model.proofs.Claims.{ClaimAt, Within, Rests, Claim, agree_self}
use Rattle.model.proofs.Moves.{Faithful}

pub held_past : (db : Db) (m : ℕ) → Sound db → held db m ≡ true → m ≤ db.latest
held_past db m sound h = ⊎_elim (λ e. let is = eqb-true m db.latest e in omega arith) (λ p. sound.past m p) (or_cases _ _ h)

-- a queried answer
faithful_reads : (o : Origin) (h : List Event) (db : Db) (m : ℕ) (k : Query) (r : Reading) → Faithful o h db → held db m ≡ true → Reads (db.at m) k r → Reads (records_at o h m) k r
faithful_reads o h db m k r faithful hd reads = reads_alike k (db.at m) (records_at o h m) r (λ t j e. faithful m t j hd) reads

answer_within : (db : Db) (u : Until) → Known db u → Within u db.latest
answer_within db (Ended e) known = omega arith
answer_within db (Open t) known = tt

answer_rests : (db : Db) (u : Until) (tags : List Tag) → Known db u → Rests u tags db.latest
answer_rests db (Ended e) tags known = tt
answer_rests db (Open t) tags known = inl (omega arith)

answer_known_at : (o : Origin) (h : List Event) (db : Db) (first : ℕ) (u : Until) (m : ℕ) (k : Query) (r : Reading) (tag : Tag) → tag ≡ query_tag k → Known db u → m ≤ db.latest → first ≤ m
    → ((contains (record { first = first; until = u }) m ≡ true) → Reads (records_at o h m) k r) → ClaimAt o h (tag ∷ []) u m (λ z. Reads z k r)
answer_known_at o h db first (Ended e) m k r tag is known past l reads = λ less. reads (and_from _ _ (le-leb first m l) (lt-ltb m e less))
answer_known_at o h db first (Open t) m k r tag is known past l reads = λ un z agree.
    reads_alike k (records_at o h m) z r (subst (λ x. Agree x (records_at o h m) z) is agree.0) (reads (and_from _ _ (le-leb first m l) (le-leb m t (omega arith))))

pub answer_claim : (o : Origin) (h : List Event) (db : Db) (m : ℕ) (k : Query) (ans : Answer) → Sound db → Faithful o h db → held db m ≡ true → Answers db m k ans → Claim o h db (answer_part ans) (λ z. Reads z k ans.reading)
answer_claim o h db m k ans sound faithful hd answers =
    let past = held_past db m sound hd in
    let from = leb-true ans.interval.first m (and_parts _ _ answers.inside).0 in
    record {
      within = answer_within db ans.interval.until answers.known;
      begins = omega arith;
      rests = answer_rests db ans.interval.until (ans.tag ∷ []) answers.known;
      holds = λ n hn l. answer_known_at o h db ans.interval.first ans.interval.until n k ans.reading ans.tag answers.bears answers.known (held_past db n sound hn) l
          (λ inside. faithful_reads o h db n k ans.reading faithful hn (answers.same n hn inside));
    }

-- an entry is known through the later of T and its first moment
abbrev pub entry_part : ℕ → Entry → Part
entry_part T e = record { interval = record { first = e.interval.first; until = through_t (max T e.interval.first) e.interval.until }; tags = tags_of e.tags }

same_through : (T S : ℕ) (u : Until) → ((t : ℕ) → u ≡ Open t → T ≡ S) → through_t T u ≡ through_t S u
same_through T S (Ended e) f = refl
same_through T S (Open t) f = ap (λ (n : ℕ). Open n) (f t refl)

covered_through : (T first m : ℕ) (u : Until) (t : ℕ) → u ≡ Open t → first ≤ m → known_at T u m ≡ true → max T first ≡ T
covered_through T first m (Ended e) t is l k = cc
covered_through T first m (Open t) s is l k = let x = leb-true m T k in omega arith

pub hit_claim : (o : Origin) (h : List Event) (db : Db) (T m : ℕ) (e : Entry) (P : Records → Type 0) → covers T e m ≡ true → Claim o h db (entry_part T e) P → Claim o h db (hit_part T e) P
hit_claim o h db T m e P c claim =
    let parts = and_parts _ _ (and_parts _ _ c).1 in
    let l = leb-true e.interval.first m parts.0 in
    let same = same_through (max T e.interval.first) T e.interval.until (λ t is. covered_through T e.interval.first m e.interval.until t is l parts.1) in
    let make : Until → Part = λ u. record { interval = record { first = e.interval.first; until = u }; tags = tags_of e.tags } in
    subst (λ part. Claim o h db part P) (ap make same) claim

-- a moment that an entry covers is one of the hit's part
hit_reaches : (T m : ℕ) (u : Until) → known_at T u m ≡ true → reaches (through_t T u) m ≡ true
hit_reaches T m (Ended e) k = k
hit_reaches T m (Open t) k = k

pub hit_contains : (T m : ℕ) (e : Entry) → covers T e m ≡ true → contains (hit_part T e).interval m ≡ true
hit_contains T m e c = let parts = and_parts _ _ (and_parts _ _ c).1 in and_from _ _ parts.0 (hit_reaches T m e.interval.until parts.1)

-- what a done frame enters
abbrev pub Forward : Part → Type 0
Forward part = (t : ℕ) → part.interval.until ≡ Open t → part.interval.first ≤ t

settle_part : (o : Origin) (h : List Event) (db : Db) (T first : ℕ) (u : Until) (tags : List Tag) (P : Records → Type 0) → T ≤ db.latest → ((t : ℕ) → u ≡ Open t → first ≤ t)
    → Claim o h db (record { interval = record { first = first; until = u }; tags = tags }) P
    → Claim o h db (record { interval = record { first = first; until = through_t (max T first) (settled_until T u) }; tags = bearing (settled_until T u) tags }) P
settle_part o h db T first (Ended e) tags P past forward c = record { within = c.within; begins = c.begins; rests = tt; holds = c.holds }
settle_part o h db T first (Open t) tags P past forward c =
    ⊎_elim
    (λ (is : leb T t ≡ true). subst (λ b. Claim o h db (record { interval = record { first = first; until = through_t (max T first) (cond b (Open t) (Ended (t + 1))) }; tags = bearing (cond b (Open t) (Ended (t + 1))) tags }) P) (sym is)
    (let late = leb-true T t is in let from = forward t refl in let b = c.begins in
    record {
      within = tt;
      begins = c.begins;
      rests = inl (omega arith);
      holds = λ m hd l un z agree. c.holds m hd l (λ row in-it a k. un row in-it (omega arith) k) z agree;
    }))
    (λ (is : leb T t ≡ false). subst (λ b. Claim o h db (record { interval = record { first = first; until = through_t (max T first) (cond b (Open t) (Ended (t + 1))) }; tags = bearing (cond b (Open t) (Ended (t + 1))) tags }) P) (sym is)
    (let late = leb-false T t is in
    record {
      within = omega arith;
      begins = c.begins;
      rests = tt;
      holds = λ m hd l less. c.holds m hd l (λ row in-it a k. absurd (omega arith)) (records_at o h m) (agree_self tags (records_at o h m));
    }))
    (cases_Bool (leb T t))

pub enter_claim : (o : Origin) (h : List Event) (db : Db) (T : ℕ) (part : Part) (key : Key) (reading : Reading) (e : Entry) (P : Records → Type 0) → T ≤ db.latest → Forward part
    → accepted key reading (settled T part).interval (settled T part).tags ≡ Some e → Claim o h db part P → Claim o h db (entry_part T e) P × (e.key ≡ key) × (e.reading ≡ reading)
enter_claim o h db T part key reading e P past forward is claim =
    ⊎_elim
    (λ (ok : accepts key (settled T part).interval (settled T part).tags ≡ true).
    let new : Entry = record { key = key; reading = reading; interval = (settled T part).interval; tags = packed (settled T part).tags } in
    let few = leb-true (length (settled T part).tags) 8 (and_parts (leb (length (settled T part).tags) 8) (new_to [] (settled T part).tags) (and_parts (has_moment (settled T part).interval) (few_tags (settled T part).tags) (and_parts (ltb key.sheet 255) (has_moment (settled T part).interval && few_tags (settled T part).tags) ok).1).1).0 in
    let own = tags_of_packed (settled T part).tags few in
    let same : new ≡ e = same_Some new e (sym (cond-true (accepts key (settled T part).interval (settled T part).tags) _ _ ok) ∙ is) in
    let settled-claim = settle_part o h db T part.interval.first part.interval.until part.tags P past forward claim in
    let make : List Tag → Part = λ tags. record { interval = record { first = part.interval.first; until = through_t (max T part.interval.first) (settled T part).interval.until }; tags = tags } in
    (subst (λ x. Claim o h db (entry_part T x) P) same (subst (λ x. Claim o h db x P) (ap make (sym own)) settled-claim), ap (λ x. x.key) (sym same), ap (λ x. x.reading) (sym same)))
    (λ (ok : accepts key (settled T part).interval (settled T part).tags ≡ false).
    absurd (none-some e (sym (cond-false (accepts key (settled T part).interval (settled T part).tags) _ _ ok) ∙ is)))
    (cases_Bool (accepts key (settled T part).interval (settled T part).tags))

-- a delivery: an entry that a row touches ends at the new message's moment, the others go on
abbrev pub closed_all : List Row → ℕ → Entry → Entry
closed_all [] n e = e
closed_all (row ∷ rows) n e = closed_all rows n (closed row.tag n e)

-- what the closes of a list of rows make of an entry: nothing, or an end at n
pub data ComesTo (rows : List Row) (n : ℕ) (e : Entry) : Entry → Type 0 where
  stays : ((row : Row) → Among row rows → closes row.tag n e ≡ false) → ComesTo rows n e e
  ends : is_open e.interval.until ≡ true → e.interval.first < n → ComesTo rows n e (ended_at n e)

ended_stays : (rows : List Row) (n : ℕ) (e : Entry) → is_open e.interval.until ≡ false → closed_all rows n e ≡ e
ended_stays [] n e shut = refl
ended_stays (row ∷ rows) n e shut =
    let same : closed row.tag n e ≡ e = cond-false (closes row.tag n e) _ _ (let x = shut in grind arith) in
    ap (closed_all rows n) same ∙ ended_stays rows n e shut

pub comes_to_closed : (rows : List Row) (n : ℕ) (e : Entry) → ComesTo rows n e (closed_all rows n e)
comes_to_closed [] n e = stays (λ row a. absurd a)
comes_to_closed (row ∷ rows) n e =
    ⊎_elim
    (λ (c : closes row.tag n e ≡ true).
    let here : closed row.tag n e ≡ ended_at n e = cond-true (closes row.tag n e) _ _ c in
    let parts = and_parts (is_open e.interval.until) (ltb e.interval.first n && touched row.tag (tags_of e.tags)) (and_parts (is_end n) (is_open e.interval.until && (ltb e.interval.first n && touched row.tag (tags_of e.tags))) c).1 in
    let first = ltb-true e.interval.first n (and_parts (ltb e.interval.first n) (touched row.tag (tags_of e.tags)) parts.1).0 in
    subst (ComesTo (row ∷ rows) n e) (sym (ap (closed_all rows n) here ∙ ended_stays rows n (ended_at n e) refl)) (ends parts.0 first))
    (λ (c : closes row.tag n e ≡ false).
    let here : closed row.tag n e ≡ e = cond-false (closes row.tag n e) _ _ c in
    subst (ComesTo (row ∷ rows) n e) (sym (ap (closed_all rows n) here)) (widened row rows n e (closed_all rows n e) c (comes_to_closed rows n e)))
    (cases_Bool (closes row.tag n e))
  where
    widened : (row : Row) (rows : List Row) (n : ℕ) (e f : Entry) → closes row.tag n e ≡ false → ComesTo rows n e f → ComesTo (row ∷ rows) n e f
    widened row rows n e f c (stays none) = stays (λ other a. ⊎_elim (λ is. ap (λ r. closes r.tag n e) is ∙ c) (λ b. none other b) a)
    widened row rows n e f c (ends op first) = ends op first

-- an entry that ends at n = T + 1 speaks of the moments up to T; one that goes on is not touched by the rows of n, or begins at n or later
open_here : (o : Origin) (h : List Event) (u : Until) (S m : ℕ) (tags : List Tag) (P : Records → Type 0) → is_open u ≡ true → m ≤ S → ClaimAt o h tags (through_t S u) m P → P (records_at o h m)
open_here o h (Ended x) S m tags P op l c = absurd (both_ways _ refl op)
open_here o h (Open t) S m tags P op l c = c (λ row in-it a k. absurd (omega arith)) (records_at o h m) (agree_self tags (records_at o h m))

entry_ends : (o : Origin) (h : List Event) (db : Db) (T : ℕ) (e : Entry) (P : Records → Type 0) → T + 1 ≤ db.latest → is_open e.interval.until ≡ true → e.interval.first < T + 1 → Claim o h db (entry_part T e) P → Claim o h db (entry_part (T + 1) (ended_at (T + 1) e)) P
entry_ends o h db T e P past op first c = record {
  within = omega arith;
  begins = c.begins;
  rests = tt;
  holds = λ m hd l less. open_here o h e.interval.until (max T e.interval.first) m (tags_of e.tags) P op (omega arith) (c.holds m hd l);
}

abbrev Spared : Origin → List Event → ℕ → Entry → Type 0
Spared o h n e = (row : Row) → Among row (rows_of o h) → row.moment ≡ n → closes row.tag n e ≡ false

not_touched : (n : ℕ) (tag : Tag) (e : Entry) → n ≤ highest → is_open e.interval.until ≡ true → e.interval.first < n → closes tag n e ≡ false → touched tag (tags_of e.tags) ≡ false
not_touched n tag e top op first c = grind (arith, nat_tests)

goes_at : (o : Origin) (h : List Event) (T m : ℕ) (e : Entry) (u : Until) (P : Records → Type 0) → e.interval.until ≡ u → T + 1 ≤ highest → Spared o h (T + 1) e
    → ClaimAt o h (tags_of e.tags) (through_t (max T e.interval.first) u) m P → ClaimAt o h (tags_of e.tags) (through_t (max (T + 1) e.interval.first) u) m P
goes_at o h T m e (Ended x) P is top spared c = c
goes_at o h T m e (Open t) P is top spared c = λ un z agree.
    c (λ row in-it a k. ⊎_elim
    (λ later. un row in-it later k)
    (λ at. let f = e.interval.first in
    let now : row.moment ≡ T + 1 = omega arith in
    not_touched (T + 1) row.tag e top (ap is_open is) (omega arith) (spared row in-it now))
    (cases_lt (max (T + 1) e.interval.first) row.moment)) z agree

goes_rests : (T first l : ℕ) (u : Until) (tags : List Tag) → T + 1 ≤ l → first ≤ l → Rests (through_t (max (T + 1) first) u) tags l
goes_rests T first l (Ended x) tags a b = tt
goes_rests T first l (Open t) tags a b = inl (omega arith)

goes_within : (T S first l : ℕ) (u : Until) → Within (through_t T u) l → Within (through_t S u) l
goes_within T S first l (Ended x) w = w
goes_within T S first l (Open t) w = tt

entry_goes : (o : Origin) (h : List Event) (db : Db) (T : ℕ) (e : Entry) (P : Records → Type 0) → T + 1 ≤ db.latest → db.latest ≤ highest → Spared o h (T + 1) e → Claim o h db (entry_part T e) P → Claim o h db (entry_part (T + 1) e) P
entry_goes o h db T e P past top spared c = record {
  within = goes_within (max T e.interval.first) (max (T + 1) e.interval.first) e.interval.first db.latest e.interval.until c.within;
  begins = c.begins;
  rests = goes_rests T e.interval.first db.latest e.interval.until (tags_of e.tags) past c.begins;
  holds = λ m hd l. goes_at o h T m e e.interval.until P refl (omega arith) spared (c.holds m hd l);
}

pub deliver_claim : (o : Origin) (h : List Event) (db : Db) (T : ℕ) (rows : List Row) (e f : Entry) (P : Records → Type 0) → T + 1 ≤ db.latest → db.latest ≤ highest → ((row : Row) → Among row (rows_of o h) → row.moment ≡ T + 1 → Among row rows) → ComesTo rows (T + 1) e f → Claim o h db (entry_part T e) P → Claim o h db (entry_part (T + 1) f) P
deliver_claim o h db T rows e f P past top all (stays none) c = entry_goes o h db T e P past top (λ row in-it is. none row (all row in-it is)) c
deliver_claim o h db T rows e f P past top all (ends op first) c = entry_ends o h db T e P past op first c
