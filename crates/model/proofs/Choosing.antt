-- Choosing the moment keeps what is carried.
use Rattle.std.proofs.Common.{◌≡◌, ℕ, ◌+◌, ◌<◌, ◌≤◌, min, Bool, true, false, not, ◌&&◌, ◌||◌, eqb, ◌⊎◌, List, [], ◌∷◌, map, Some, None, Option, sym, refl, ap, ◌∙◌, subst, inl, inr, ⊎_elim, arith}
use Rattle.std.proofs.lemmas.Option.{same_Some}
use Rattle.std.proofs.lemmas.Bool.Decides.{nat_tests}
use Rattle.std.proofs.lemmas.Bool.{cases_Bool, both_ways, cond-true, cond-false, le-leb, and_from, and_parts, or_cases, or_right, or_left, eqb-true, eqb-false, eq-eqb, ne_eqb, cases_lt, not_from_false}
use Rattle.std.proofs.lemmas.List.{map-append}
use Rattle.terms.specs.Moments.{highest}
use Rattle.terms.specs.Intervals.{contains}
use Rattle.database.specs.Lists.{among, distinct, added, without}
use Rattle.database.specs.Databases.{Db, held, Sound, Pinned}
use Rattle.database.proofs.Sets.{among_added, among_without, distinct_push, distinct_without}
use Rattle.cache.specs.Lists.{Among}
use Rattle.cache.proofs.Members.{among_mapped, among_append, kept_among}
use Rattle.recipe.specs.Recipes.{Rules}
use Rattle.model.specs.Books.{Pin, Part, Transaction, Hall, whole_part, moments, find, replaced, newest_from, newest_of, limitless}
use Rattle.model.specs.Rules.{Picks, taken, pinned, gave_up, kept, is_unused, lowest_unused, lower, without_pin, renewed, used_more, pins_with, with_latest}
use Rattle.model.specs.Calls.{with_tx}
use Rattle.model.specs.Traces.{Origin, Event, records_at}
use Rattle.model.specs.Law.{holders}
use Rattle.model.proofs.Moves.{claim_held}
use Rattle.model.proofs.Cores.{among_by, TxGood, Core, core_change, core_tx, found, in_replaced, numbers_replaced, holders_replaced, bit}

newest_from_among : (m : ℕ) (ms : List ℕ) → among (newest_from m ms) (m ∷ ms) ≡ true
newest_from_among m [] = grind (arith, nat_tests)
newest_from_among m (n ∷ ms) = let ih = newest_from_among n ms in grind (arith, nat_tests)

pub newest_among : (ms : List ℕ) (m : ℕ) → newest_of ms ≡ Some m → among m ms ≡ true
newest_among [] m e = cc
newest_among (n ∷ ms) m e = let ih = newest_from_among n ms in grind (arith, nat_tests)

-- the moments of the pins after the latest was pinned
pub moments_map : (f : Pin → Pin) (pins : List Pin) → ((pin : Pin) → (f pin).moment ≡ pin.moment) → moments (map f pins) ≡ moments pins
moments_map f [] same = refl
moments_map f (pin ∷ pins) same = ap (λ m. m ∷ moments (map f pins)) (same pin) ∙ ap (λ ms. pin.moment ∷ ms) (moments_map f pins same)

renewed_moment : (L now : ℕ) (b : Bool) (pin : Pin) → (renewed L now b pin).moment ≡ pin.moment
renewed_moment L now b pin = grind (arith, nat_tests)

pub moments_with : (L now : ℕ) (b : Bool) (pins : List Pin) → moments (pins_with L now b pins) ≡ added L (moments pins)
moments_with L now b pins = let same = moments_map (renewed L now b) pins (renewed_moment L now b) in let new = map-append (λ (pin : Pin). pin.moment) pins (record { moment = L; time = now; uses = 1 } ∷ []) in grind (arith, nat_tests)

distinct_added : (L : ℕ) (ms : List ℕ) → distinct ms ≡ true → distinct (added L ms) ≡ true
distinct_added L ms d = grind (arith, nat_tests, distinct_push)

-- a moment that no transaction holds
pub holders_none : (m : ℕ) (txs : List Transaction) → ((t : Transaction) → Among t txs → among m t.holds ≡ false) → holders m txs ≡ 0
holders_none m [] none = refl
holders_none m (t ∷ txs) none = let ih = holders_none m txs (λ u a. none u (inr a)) in let here = none t (inl refl) in grind (arith, nat_tests)

-- the uses after the latest was pinned for a transaction
bit_other : (m L : ℕ) (tx : Transaction) → (m ≡ L → ⊥) → bit m (with_latest L tx) ≡ bit m tx
bit_other m L tx ne = let e = among_added m L tx.holds in grind (arith, nat_tests)

bit_latest : (L : ℕ) (tx : Transaction) → bit L (with_latest L tx) ≡ 1
bit_latest L tx = let e = among_added L L tx.holds in grind (arith, nat_tests)

with_uses : (L now : ℕ) (pins : List Pin) (txs : List Transaction) (tx : Transaction) → find tx.number txs ≡ Some tx → Among tx txs
    → ((pin : Pin) → Among pin pins → pin.uses ≡ holders pin.moment txs)
    → ((t : Transaction) → Among t txs → (m : ℕ) → among m t.holds ≡ true → among m (moments pins) ≡ true)
    → (pin : Pin) → Among pin (pins_with L now (among L tx.holds) pins) → pin.uses ≡ holders pin.moment (replaced (with_latest L tx) txs)
with_uses L now pins txs tx is own uses holds pin a =
    let changed : (m : ℕ) → holders m (replaced (with_latest L tx) txs) + bit m tx ≡ holders m txs + bit m (with_latest L tx) = λ m. holders_replaced m tx (with_latest L tx) txs is in
    let other : (x : Pin) → Among x pins → (x.moment ≡ L → ⊥) → x.uses ≡ holders x.moment (replaced (with_latest L tx) txs) =
    λ x b ne. let u = uses x b in let c = changed x.moment in let d = bit_other x.moment L tx ne in omega arith in
    ⊎_elim
    (λ (there : among L (moments pins) ≡ true).
    let was = among_mapped (renewed L now (among L tx.holds)) pin pins (subst (Among pin) (cond-true (among L (moments pins)) _ _ there) a) in
    let x = was.0 in
    subst (λ (y : Pin). y.uses ≡ holders y.moment (replaced (with_latest L tx) txs)) (sym was.2)
    (⊎_elim
    (λ (e : eqb x.moment L ≡ true).
    let u = uses x was.1 in
    let m-is = eqb-true x.moment L e in
    let u' : x.uses ≡ holders L txs = u ∙ ap (λ m. holders m txs) m-is in
    let c = changed L in let d = bit_latest L tx in
    subst (λ (y : Pin). y.uses ≡ holders y.moment (replaced (with_latest L tx) txs)) (sym (cond-true (eqb x.moment L) _ _ e))
    (⊎_elim
    (λ (b : among L tx.holds ≡ true). let w : bit L tx ≡ 1 = cond-true (among L tx.holds) 1 0 b in let v : used_more (among L tx.holds) x.uses ≡ x.uses = cond-true (among L tx.holds) _ _ b in omega arith)
    (λ (b : among L tx.holds ≡ false). let w : bit L tx ≡ 0 = cond-false (among L tx.holds) 1 0 b in let v : used_more (among L tx.holds) x.uses ≡ x.uses + 1 = cond-false (among L tx.holds) _ _ b in omega arith)
    (cases_Bool (among L tx.holds))))
    (λ (e : eqb x.moment L ≡ false).
    subst (λ (y : Pin). y.uses ≡ holders y.moment (replaced (with_latest L tx) txs)) (sym (cond-false (eqb x.moment L) _ _ e)) (other x was.1 (eqb-false x.moment L e)))
    (cases_Bool (eqb x.moment L))))
    (λ (out : among L (moments pins) ≡ false).
    ⊎_elim
    (λ old. other pin old (λ e. both_ways (among L (moments pins)) out (ap (λ m. among m (moments pins)) (sym e) ∙ among_by (λ (y : Pin). y.moment) pin pins old)))
    (λ new.
    let fresh : Pin = record { moment = L; time = now; uses = 1 } in
    let none : (t : Transaction) → Among t txs → among L t.holds ≡ false =
    λ t b. ⊎_elim (λ (e : among L t.holds ≡ true). absurd (both_ways (among L (moments pins)) out (holds t b L e))) (λ (e : among L t.holds ≡ false). e) (cases_Bool (among L t.holds)) in
    let z = holders_none L txs none in
    let w : bit L tx ≡ 0 = cond-false (among L tx.holds) 1 0 (none tx own) in
    let c = changed L in let d = bit_latest L tx in
    let one : 1 ≡ holders L (replaced (with_latest L tx) txs) = omega arith in
    ⊎_elim (λ (e : pin ≡ fresh). subst (λ (y : Pin). y.uses ≡ holders y.moment (replaced (with_latest L tx) txs)) (sym e) one) (λ b. absurd b) new)
    (among_append pin pins (record { moment = L; time = now; uses = 1 } ∷ []) (subst (Among pin) (cond-false (among L (moments pins)) _ _ out) a)))
    (cases_Bool (among L (moments pins)))

-- the transaction, once the latest moment has taken the present's place
pub whole_contains : (L : ℕ) → L ≤ highest → contains whole_part.interval L ≡ true
whole_contains L top = and_from _ _ (le-leb 0 L (omega arith)) (le-leb L limitless (omega arith))

latest_good : (p : Rules) (o : Origin) (h : List Event) (db db' : Db) (pins pins' : List Pin) (next L : ℕ) (tx : Transaction) → L ≤ highest → tx.present ≡ true
    → db'.latest ≡ db.latest → ((m : ℕ) → held db' m ≡ true → held db m ≡ true)
    → ((m : ℕ) → among m tx.holds ≡ true → among m (moments pins') ≡ true) → among L (moments pins') ≡ true
    → TxGood p o h db pins next tx → TxGood p o h db' pins' next (with_latest L tx)
latest_good p o h db db' pins pins' next L tx top pr same fewer keep in-pins good =
    let split : (m : ℕ) (xs : List ℕ) → among m (added L xs) ≡ true → (m ≡ L) ⊎ (among m xs ≡ true) = λ m xs a. ⊎_elim (λ e. inl (eqb-true m L e)) inr (or_cases _ _ (sym (among_added m L xs) ∙ a)) in
    record {
      younger = good.younger;
      holds = λ m a. ⊎_elim (λ e. among_added m L tx.holds ∙ or_left _ _ (eq-eqb m L e)) (λ b. among_added m L tx.holds ∙ or_right _ _ (good.holds m b)) (split m tx.set a);
      pinned = λ m a. ⊎_elim (λ e. ap (λ k. among k (moments pins')) e ∙ in-pins) (keep m) (split m tx.holds a);
      some = λ x. (L, among_added L L tx.set ∙ or_left _ _ (eq-eqb L L refl));
      whole = λ x. absurd (both_ways false refl x);
      free = λ x. absurd (both_ways false refl x);
      inside = λ m a i g is. ⊎_elim (λ e. subst (λ (part : Part). contains part.interval m ≡ true) (sym (good.whole pr i g is)) (ap (contains whole_part.interval) e ∙ whole_contains L top)) (λ b. good.inside m b i g is) (split m tx.set a);
      stack = λ i g is. claim_held o h db db' g.part _ same fewer (good.stack i g is);
      sheets = good.sheets;
      right = λ given g is m a. good.free pr given g is (records_at o h m);
    }

pub holders_some : (m : ℕ) (t : Transaction) (txs : List Transaction) → Among t txs → among m t.holds ≡ true → 0 < holders m txs
holders_some m t [] a b = absurd a
holders_some m t (x ∷ txs) a b = let ih = holders_some m t txs in grind (arith, nat_tests)

-- the unused pin of lowest moment is an unused pin
abbrev IsUnused : ℕ → List Pin → Type 0
IsUnused u pins = (pin : Pin) × Among pin pins × (pin.moment ≡ u) × (is_unused pin ≡ true)

lower_one : (pin : Pin) (pins : List Pin) (rest : Option ℕ) (u : ℕ) → is_unused pin ≡ true → ((v : ℕ) → rest ≡ Some v → IsUnused v pins) → lower pin.moment rest ≡ u → IsUnused u (pin ∷ pins)
lower_one pin pins None u free more is = (pin, inl refl, is, free)
lower_one pin pins (Some v) u free more is =
    ⊎_elim
    (λ less. (pin, inl refl, (let x : min pin.moment v ≡ pin.moment = omega arith in sym x ∙ is), free))
    (λ le. let x : min pin.moment v ≡ v = omega arith in let w = more v refl in (w.0, inr w.1, w.2 ∙ (sym x ∙ is), w.3))
    (cases_lt pin.moment v)

lowest_unused_is : (pins : List Pin) (u : ℕ) → lowest_unused pins ≡ Some u → IsUnused u pins
lowest_unused_is [] u e = cc
lowest_unused_is (pin ∷ pins) u e =
    ⊎_elim
    (λ (free : is_unused pin ≡ true). lower_one pin pins (lowest_unused pins) u free (lowest_unused_is pins) (same_Some _ u (sym (cond-true (is_unused pin) _ _ free) ∙ e)))
    (λ (busy : is_unused pin ≡ false). let w = lowest_unused_is pins u (sym (cond-false (is_unused pin) _ _ busy) ∙ e) in (w.0, inr w.1, w.2, w.3))
    (cases_Bool (is_unused pin))

moments_without : (u : ℕ) (pins : List Pin) → moments (without_pin u pins) ≡ without u (moments pins)
moments_without u [] = refl
moments_without u (pin ∷ pins) = let ih = moments_without u pins in grind (arith, nat_tests)

-- what choosing leaves
pub record Picked (p : Rules) (o : Origin) (h : List Event) (hall : Hall) (tx : Transaction) (m : ℕ) (db' : Db) (pins' : List Pin) (tx' : Transaction) : Type 0 where
  pub core : Core p o h (record { db = db'; entries = hall.entries; books = with_tx tx' pins' hall.books })
  pub chosen : among m tx'.set ≡ true
  pub frames : tx'.frames ≡ tx.frames
  pub number : tx'.number ≡ tx.number

same_picked : (p : Rules) (o : Origin) (h : List Event) (hall : Hall) (tx : Transaction) (m : ℕ) → Core p o h hall → find tx.number hall.books.txs ≡ Some tx → newest_of tx.set ≡ Some m → Picked p o h hall tx m hall.db hall.books.pins tx
same_picked p o h hall tx m core is new = record {
  core = core_tx p o h hall tx tx core is refl (core.txs tx (found tx.number hall.books.txs tx is).0);
  chosen = newest_among tx.set m new;
  frames = refl;
  number = refl;
}

-- the latest moment is pinned over a base of pins that keeps all that is held
latest_picked : (p : Rules) (o : Origin) (h : List Event) (hall : Hall) (tx : Transaction) (now : ℕ) (db₁ db' : Db) (base : List Pin) → Core p o h hall → find tx.number hall.books.txs ≡ Some tx → tx.present ≡ true → Sound db'
    → db₁.latest ≡ hall.db.latest → ((n : ℕ) → among n db₁.pins ≡ among n (moments base)) → ((n : ℕ) → among n db₁.pins ≡ true → among n hall.db.pins ≡ true)
    → ((n t k : ℕ) → held db₁ n ≡ true → db₁.at n t k ≡ hall.db.at n t k) → distinct (moments base) ≡ true
    → ((pin : Pin) → Among pin base → Among pin hall.books.pins)
    → ((t : Transaction) → Among t hall.books.txs → (m : ℕ) → among m t.holds ≡ true → among m (moments base) ≡ true)
    → Pinned db₁ hall.db.latest db'
    → Picked p o h hall tx hall.db.latest db' (pins_with hall.db.latest now (among hall.db.latest tx.holds) base) (with_latest hall.db.latest tx)
latest_picked p o h hall tx now db₁ db' base core is pr sound same base-pins fewer-pins states once part keep pin =
    let L = hall.db.latest in
    let own = found tx.number hall.books.txs tx is in
    let latest : db'.latest ≡ L = pin.latest ∙ same in
    let to₁ : (n : ℕ) → held db' n ≡ true → held db₁ n ≡ true =
    λ n hd. ⊎_elim (λ e. or_left _ _ (eq-eqb n db₁.latest (eqb-true n db'.latest e ∙ pin.latest)))
    (λ a. ⊎_elim (λ e. or_left _ _ (eq-eqb n db₁.latest (eqb-true n L e ∙ sym same))) (or_right _ _) (or_cases _ _ (sym (pin.pins n) ∙ a))) (or_cases _ _ hd) in
    let fewer : (n : ℕ) → held db' n ≡ true → held hall.db n ≡ true =
    λ n hd. ⊎_elim (λ e. or_left _ _ (eq-eqb n L (eqb-true n db₁.latest e ∙ same))) (λ a. or_right _ _ (fewer-pins n a)) (or_cases _ _ (to₁ n hd)) in
    let pins' = pins_with L now (among L tx.holds) base in
    let with : (n : ℕ) → among n (moments pins') ≡ (eqb n L || among n (moments base)) = λ n. ap (among n) (moments_with L now (among L tx.holds) base) ∙ among_added n L (moments base) in
    let more : (n : ℕ) → among n (moments base) ≡ true → among n (moments pins') ≡ true = λ n a. with n ∙ or_right _ _ a in
    record {
      core = core_change p o h hall db' pins' (replaced (with_latest L tx) hall.books.txs) core latest fewer sound
          (λ n t k hd. pin.states n t k (to₁ n hd) ∙ states n t k (to₁ n hd))
          (λ n. pin.pins n ∙ ap (λ b. eqb n L || b) (base-pins n) ∙ sym (with n))
          (ap distinct (moments_with L now (among L tx.holds) base) ∙ distinct_added L (moments base) once)
          (with_uses L now base hall.books.txs tx is own.0 (λ x a. core.uses x (part x a)) keep)
          (ap distinct (numbers_replaced (with_latest L tx) hall.books.txs) ∙ core.apart)
          (λ t a m b c. more m (keep t a m b))
          (λ t a. ⊎_elim
          (λ e. inl (subst (TxGood p o h db' pins' hall.books.next) (sym e)
          (latest_good p o h hall.db db' hall.books.pins pins' hall.books.next L tx core.sound.moments pr latest fewer (λ m b. more m (keep tx own.0 m b)) (with L ∙ or_left _ _ (eq-eqb L L refl)) (core.txs tx own.0))))
          inr (in_replaced (with_latest L tx) hall.books.txs t a));
      chosen = among_added L L tx.set ∙ or_left _ _ (eq-eqb L L refl);
      frames = refl;
      number = refl;
    }

pub core_pick : (p : Rules) (o : Origin) (h : List Event) (hall : Hall) (tx tx' : Transaction) (now m : ℕ) (db' : Db) (pins' : List Pin) → Core p o h hall → find tx.number hall.books.txs ≡ Some tx → Sound db'
    → Picks hall.db hall.books.pins tx now m db' pins' tx' → Picked p o h hall tx m db' pins' tx'
core_pick p o h hall tx tx' now m db' pins' core is sound (taken n wants new) = same_picked p o h hall tx n core is new
core_pick p o h hall tx tx' now m db' pins' core is sound (kept n wants room none new) = same_picked p o h hall tx n core is new
core_pick p o h hall tx tx' now m db' pins' core is sound (pinned db'' wants room pin) =
    latest_picked p o h hall tx now hall.db db'' hall.books.pins core is (and_parts _ _ wants).0 sound refl core.same (λ n a. a) (λ n t k hd. refl) core.once (λ x a. a) (λ t a n b. (core.txs t a).pinned n b) pin
core_pick p o h hall tx tx' now m db' pins' core is sound (gave_up u db₁ db'' wants room low un pin) =
    let w = lowest_unused_is hall.books.pins u low in
    let zero-uses : holders u hall.books.txs ≡ 0 = ap (λ n. holders n hall.books.txs) (sym w.2) ∙ sym (core.uses w.0 w.1) ∙ eqb-true w.0.uses 0 w.3 in
    let base = without_pin u hall.books.pins in
    let ms = moments_without u hall.books.pins in
    let in-base : (n : ℕ) → among n (moments base) ≡ (among n (moments hall.books.pins) && not (eqb n u)) = λ n. ap (among n) ms ∙ among_without n u (moments hall.books.pins) in
    latest_picked p o h hall tx now db₁ db'' base core is (and_parts _ _ wants).0 sound un.latest
    (λ n. un.pins n ∙ ap (λ b. b && not (eqb n u)) (core.same n) ∙ sym (in-base n))
    (λ n a. (and_parts _ _ (sym (un.pins n) ∙ a)).0)
    (λ n t k hd. un.states n t k hd)
    (ap distinct ms ∙ distinct_without u (moments hall.books.pins) core.once)
    (λ x a. (kept_among (λ pin. not (eqb pin.moment u)) x hall.books.pins a).0)
    (λ t a n b. in-base n ∙ and_from _ _ ((core.txs t a).pinned n b)
    (not_from_false _ (ne_eqb n u (λ e. let some = holders_some n t hall.books.txs a b in let z = ap (λ k. holders k hall.books.txs) e in omega arith))))
    pin
