-- What an interval with tags claims of the records of its moments, and how claims are kept, joined and used.
use Rattle.std.proofs.Common.{◌≡◌, ℕ, ◌+◌, ◌<◌, ◌≤◌, min, max, Bool, true, false, cond, ◌||◌, leb, ◌⊎◌, List, [], ◌∷◌, ◌++◌, length, Some, None, Option, sym, refl, ap, ◌∙◌, subst, inl, inr, ⊎_elim, arith}
use Rattle.std.proofs.lemmas.Bool.Decides.{nat_tests}
use Rattle.std.proofs.lemmas.Bool.{cases_Bool, both_ways, leb-true, leb-false, le-leb, ltb-true, lt-ltb, and_from, and_parts, or_cases, eqb-true}
use Rattle.terms.specs.declared.interval.Until.{Until}
use Rattle.terms.specs.declared.interval.Until.TheVariants.{Ended, Open}
use Rattle.terms.specs.declared.tag.Tag.{Tag}
use Rattle.terms.specs.Tags.{touches}
use Rattle.terms.specs.Intervals.{contains, reaches}
use Rattle.database.specs.States.{Records, Agree}
use Rattle.database.specs.Databases.{Db, held}
use Rattle.cache.specs.Lists.{Among}
use Rattle.cache.specs.TagSets.{touched, has_tag, is_tag, same_keys}
use Rattle.recipe.specs.Recipes.{AgreeAll}
use Rattle.recipe.proofs.Runs.{agree_split}
use Rattle.model.specs.Books.{Part, Row}
use Rattle.model.specs.Rules.{meet, meet_until, join_tags, fitting, bearing}
use Rattle.model.specs.Traces.{Origin, Event, records_at, rows_of}

-- no write after the moment a up to m touches the tags
abbrev pub Untouched : Origin → List Event → ℕ → ℕ → List Tag → Type 0
Untouched o h a m tags = (row : Row) → Among row (rows_of o h) → a < row.moment → row.moment ≤ m → touched row.tag tags ≡ false

-- P of the records of a moment: before an end; or, as long as no write after the through touches the tags, of whatever agrees on them
abbrev pub ClaimAt : Origin → List Event → List Tag → Until → ℕ → (Records → Type 0) → Type 0
ClaimAt o h tags (Ended e) m P = m < e → P (records_at o h m)
ClaimAt o h tags (Open t) m P = Untouched o h t m tags → (z : Records) → AgreeAll tags (records_at o h m) z → P z

abbrev pub Within : Until → ℕ → Type 0
Within (Ended e) l = e ≤ l + 1
Within (Open t) l = Unit {0}

abbrev pub Rests : Until → List Tag → ℕ → Type 0
Rests (Ended e) tags l = Unit {0}
Rests (Open t) tags l = (t ≤ l) ⊎ (tags ≡ [])

pub record Claim (o : Origin) (h : List Event) (db : Db) (part : Part) (P : Records → Type 0) : Type 0 where
  pub within : Within part.interval.until db.latest
  pub begins : part.interval.first ≤ db.latest
  pub rests : Rests part.interval.until part.tags db.latest
  pub holds : (m : ℕ) → held db m ≡ true → part.interval.first ≤ m → ClaimAt o h part.tags part.interval.until m P

claim_at_map : (o : Origin) (h : List Event) (tags : List Tag) (u : Until) (m : ℕ) (P Q : Records → Type 0) → ((s : Records) → P s → Q s) → ClaimAt o h tags u m P → ClaimAt o h tags u m Q
claim_at_map o h tags (Ended e) m P Q f c = λ l. f (records_at o h m) (c l)
claim_at_map o h tags (Open t) m P Q f c = λ u z a. f z (c u z a)

pub claim_map : (o : Origin) (h : List Event) (db : Db) (part : Part) (P Q : Records → Type 0) → ((s : Records) → P s → Q s) → Claim o h db part P → Claim o h db part Q
claim_map o h db part P Q f c = record { within = c.within; begins = c.begins; rests = c.rests; holds = λ m hd l. claim_at_map o h part.tags part.interval.until m P Q f (c.holds m hd l) }

-- a moment up to the through, or before the end, is one of which the claim speaks
pub agree_self : (tags : List Tag) (s : Records) → AgreeAll tags s s
agree_self [] s = tt
agree_self (tag ∷ tags) s = (λ t k e. refl, agree_self tags s)

claim_at_here : (o : Origin) (h : List Event) (tags : List Tag) (u : Until) (m : ℕ) (P : Records → Type 0) → reaches u m ≡ true → ClaimAt o h tags u m P → P (records_at o h m)
claim_at_here o h tags (Ended e) m P r c = c (ltb-true m e r)
claim_at_here o h tags (Open t) m P r c = let l = leb-true m t r in c (λ row a b d. absurd (omega (arith, l, b, d))) (records_at o h m) (agree_self tags (records_at o h m))

pub claim_here : (o : Origin) (h : List Event) (db : Db) (part : Part) (P : Records → Type 0) (m : ℕ) → held db m ≡ true → contains part.interval m ≡ true → Claim o h db part P → P (records_at o h m)
claim_here o h db part P m hd inside c =
    let parts = and_parts _ _ inside in
    claim_at_here o h part.tags part.interval.until m P parts.1 (c.holds m hd (leb-true _ _ parts.0))

-- tags
same_key : (one other : Option ℕ) → same_keys one other ≡ true → one ≡ other
same_key (Some a) (Some b) e = ap (λ (n : ℕ). Some n) (eqb-true a b e)
same_key (Some a) None e = absurd (both_ways _ refl e)
same_key None (Some b) e = absurd (both_ways _ refl e)
same_key None None e = refl

same_tag : (one other : Tag) → is_tag one other ≡ true → one ≡ other
same_tag one other e = let keys = same_key one.key other.key in grind (arith, nat_tests)

touched_append : (tag : Tag) (xs ys : List Tag) → touched tag (xs ++ ys) ≡ (touched tag xs || touched tag ys)
touched_append tag [] ys = refl
touched_append tag (x ∷ xs) ys = let ih = touched_append tag xs ys in grind arith

touched_has : (tag y : Tag) (xs : List Tag) → has_tag y xs ≡ true → touched tag xs ≡ false → touches tag y ≡ false
touched_has tag y [] has e = absurd (both_ways _ refl has)
touched_has tag y (x ∷ xs) has e = let ih = touched_has tag y xs in let same = same_tag y x in grind (arith, nat_tests)

-- what is not touched with more tags is not with fewer
join_left : (tag : Tag) (xs ys : List Tag) → touched tag (join_tags xs ys) ≡ false → touched tag xs ≡ false
join_left tag xs [] e = e
join_left tag xs (y ∷ ys) e =
    let ih = join_left tag (cond (has_tag y xs) xs (xs ++ y ∷ [])) ys e in let more = touched_append tag xs (y ∷ []) in grind (arith, nat_tests)

join_right : (tag : Tag) (xs ys : List Tag) → touched tag (join_tags xs ys) ≡ false → touched tag ys ≡ false
join_right tag xs [] e = refl
join_right tag xs (y ∷ ys) e =
    let more = cond (has_tag y xs) xs (xs ++ y ∷ []) in
    let rest = join_right tag more ys e in
    let here = join_left tag more ys e in
    let has = touched_has tag y xs in
    let append = touched_append tag xs (y ∷ []) in
    grind (arith, nat_tests)

agree_has : (y : Tag) (xs : List Tag) (s z : Records) → has_tag y xs ≡ true → AgreeAll xs s z → Agree y s z
agree_has y [] s z has a = absurd (both_ways _ refl has)
agree_has y (x ∷ xs) s z has a = ⊎_elim (λ t. subst (λ tag. Agree tag s z) (sym (same_tag y x t)) a.0) (λ t. agree_has y xs s z t a.1) (or_cases _ _ has)

join_agree : (xs ys : List Tag) (s z : Records) → AgreeAll (join_tags xs ys) s z → AgreeAll xs s z × AgreeAll ys s z
join_agree xs [] s z a = (a, tt)
join_agree xs (y ∷ ys) s z a =
    let rest = join_agree (cond (has_tag y xs) xs (xs ++ y ∷ [])) ys s z a in
    ⊎_elim
    (λ (t : has_tag y xs ≡ true). let own = subst (λ b. AgreeAll (cond b xs (xs ++ y ∷ [])) s z) t rest.0 in (own, (agree_has y xs s z t own, rest.1)))
    (λ (t : has_tag y xs ≡ false). let own = agree_split xs (y ∷ []) s z (subst (λ b. AgreeAll (cond b xs (xs ++ y ∷ [])) s z) t rest.0) in (own.0, (own.1.0, rest.1)))
    (cases_Bool (has_tag y xs))

join_none : (xs ys : List Tag) → xs ≡ [] → ys ≡ [] → join_tags xs ys ≡ []
join_none xs ys e f = ap (join_tags xs) f ∙ e

-- what two claims have in common is claimed of what their parts have in common
abbrev meet_tags : Until → List Tag → List Tag → List Tag
meet_tags u xs ys = bearing (fitting u (join_tags xs ys)) (join_tags xs ys)

fits_at : (o : Origin) (h : List Event) (xs ys : List Tag) (t u m : ℕ) (P Q : Records → Type 0) → ClaimAt o h xs (Open t) m P → ClaimAt o h ys (Open u) m Q
    → (b : Bool) → leb (length (join_tags xs ys)) 8 ≡ b
    → ClaimAt o h (bearing (cond b (Open (min t u)) (Ended (min t u + 1))) (join_tags xs ys)) (cond b (Open (min t u)) (Ended (min t u + 1))) m (λ s. P s × Q s)
fits_at o h xs ys t u m P Q c d true e = λ un z a.
    let both = join_agree xs ys (records_at o h m) z a in
    (c (λ row w l k. join_left row.tag xs ys (un row w (omega arith) k)) z both.0, d (λ row w l k. join_right row.tag xs ys (un row w (omega arith) k)) z both.1)
fits_at o h xs ys t u m P Q c d false e = λ l.
    (c (λ row w a b. absurd (omega arith)) (records_at o h m) (agree_self xs (records_at o h m)), d (λ row w a b. absurd (omega arith)) (records_at o h m) (agree_self ys (records_at o h m)))

meet_at : (o : Origin) (h : List Event) (xs ys : List Tag) (a b : Until) (m : ℕ) (P Q : Records → Type 0) → ClaimAt o h xs a m P → ClaimAt o h ys b m Q
    → ClaimAt o h (meet_tags (meet_until a b) xs ys) (fitting (meet_until a b) (join_tags xs ys)) m (λ s. P s × Q s)
meet_at o h xs ys (Open t) (Open u) m P Q c d = fits_at o h xs ys t u m P Q c d (leb (length (join_tags xs ys)) 8) refl
meet_at o h xs ys (Open t) (Ended f) m P Q c d = λ l. (c (λ row w a b. absurd (omega arith)) (records_at o h m) (agree_self xs (records_at o h m)), d (omega arith))
meet_at o h xs ys (Ended e) (Open u) m P Q c d = λ l. (c (omega arith), d (λ row w a b. absurd (omega arith)) (records_at o h m) (agree_self ys (records_at o h m)))
meet_at o h xs ys (Ended e) (Ended f) m P Q c d = λ l. (c (omega arith), d (omega arith))

fits_within : (xs ys : List Tag) (t u l : ℕ) → Rests (Open t) xs l → Rests (Open u) ys l → (b : Bool) → leb (length (join_tags xs ys)) 8 ≡ b → Within (cond b (Open (min t u)) (Ended (min t u + 1))) l
fits_within xs ys t u l r q true e = tt
fits_within xs ys t u l r q false e =
    ⊎_elim (λ a. omega arith) (λ none. ⊎_elim (λ a. omega arith) (λ none'. let z = ap length (join_none xs ys none none') in let w = leb-false (length (join_tags xs ys)) 8 e in absurd (omega arith)) q) r

meet_within : (xs ys : List Tag) (a b : Until) (l : ℕ) → Within a l → Within b l → Rests a xs l → Rests b ys l → Within (fitting (meet_until a b) (join_tags xs ys)) l
meet_within xs ys (Open t) (Open u) l v w r q = fits_within xs ys t u l r q (leb (length (join_tags xs ys)) 8) refl
meet_within xs ys (Open t) (Ended f) l v w r q = omega arith
meet_within xs ys (Ended e) (Open u) l v w r q = omega arith
meet_within xs ys (Ended e) (Ended f) l v w r q = omega arith

fits_rests : (xs ys : List Tag) (t u l : ℕ) → Rests (Open t) xs l → Rests (Open u) ys l → (b : Bool) → Rests (cond b (Open (min t u)) (Ended (min t u + 1))) (bearing (cond b (Open (min t u)) (Ended (min t u + 1))) (join_tags xs ys)) l
fits_rests xs ys t u l r q true = ⊎_elim (λ a. inl (omega arith)) (λ none. ⊎_elim (λ a. inl (omega arith)) (λ none'. inr (join_none xs ys none none')) q) r
fits_rests xs ys t u l r q false = tt

meet_rests : (xs ys : List Tag) (a b : Until) (l : ℕ) → Rests a xs l → Rests b ys l → Rests (fitting (meet_until a b) (join_tags xs ys)) (meet_tags (meet_until a b) xs ys) l
meet_rests xs ys (Open t) (Open u) l r q = fits_rests xs ys t u l r q (leb (length (join_tags xs ys)) 8)
meet_rests xs ys (Open t) (Ended f) l r q = tt
meet_rests xs ys (Ended e) (Open u) l r q = tt
meet_rests xs ys (Ended e) (Ended f) l r q = tt

pub claim_meet : (o : Origin) (h : List Event) (db : Db) (a b : Part) (P Q : Records → Type 0) → Claim o h db a P → Claim o h db b Q → Claim o h db (meet a b) (λ s. P s × Q s)
claim_meet o h db a b P Q c d = record {
  within = meet_within a.tags b.tags a.interval.until b.interval.until db.latest c.within d.within c.rests d.rests;
  begins = let x = c.begins in let y = d.begins in omega arith;
  rests = meet_rests a.tags b.tags a.interval.until b.interval.until db.latest c.rests d.rests;
  holds = λ m hd l. meet_at o h a.tags b.tags a.interval.until b.interval.until m P Q (c.holds m hd (omega arith)) (d.holds m hd (omega arith));
}

-- a moment of both parts is one of what they have in common
fits_reaches : (xs : List Tag) (t m : ℕ) → m ≤ t → reaches (fitting (Open t) xs) m ≡ true
fits_reaches xs t m l = grind (arith, nat_tests)

meet_reaches : (xs : List Tag) (a b : Until) (m : ℕ) → reaches a m ≡ true → reaches b m ≡ true → reaches (fitting (meet_until a b) xs) m ≡ true
meet_reaches xs (Open t) (Open u) m r q = let x = leb-true m t r in let y = leb-true m u q in fits_reaches xs (min t u) m (omega arith)
meet_reaches xs (Open t) (Ended f) m r q = let x = leb-true m t r in let y = ltb-true m f q in lt-ltb m (min (t + 1) f) (omega arith)
meet_reaches xs (Ended e) (Open u) m r q = let x = ltb-true m e r in let y = leb-true m u q in lt-ltb m (min e (u + 1)) (omega arith)
meet_reaches xs (Ended e) (Ended f) m r q = let x = ltb-true m e r in let y = ltb-true m f q in lt-ltb m (min e f) (omega arith)

pub meet_contains : (a b : Part) (m : ℕ) → contains a.interval m ≡ true → contains b.interval m ≡ true → contains (meet a b).interval m ≡ true
meet_contains a b m c d =
    let x = and_parts _ _ c in let y = and_parts _ _ d in
    let p = leb-true a.interval.first m x.0 in let q = leb-true b.interval.first m y.0 in
    and_from _ _ (le-leb (max a.interval.first b.interval.first) m (omega arith)) (meet_reaches (join_tags a.tags b.tags) a.interval.until b.interval.until m x.1 y.1)
