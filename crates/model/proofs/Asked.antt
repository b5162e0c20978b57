-- Calls and queries keep what is carried.
use Rattle.std.proofs.Common.{◌≡◌, ℕ, zero, suc, ◌<◌, true, false, ltb, List, [], ◌∷◌, length, Some, None, Ok, sym, refl, ap, ◌∙◌, subst, ⊎_elim, arith, lit<}
use Rattle.std.proofs.lemmas.Option.{none-some, same_Some}
use Rattle.std.proofs.lemmas.Bool.{both_ways, lt-ltb, and_parts, or_right, or_left, eqb-true, eq-eqb}
use Rattle.terms.specs.Records.{Reading}
use Rattle.terms.specs.Intervals.{contains}
use Rattle.database.specs.Lists.{among}
use Rattle.database.specs.States.{Records, Reads}
use Rattle.cache.specs.Lists.{Among}
use Rattle.recipe.specs.Recipes.{Rules, Gives}
use Rattle.model.specs.Books.{Pin, Frame, Transaction, Hall, whole_part, fresh_frame, find, replaced, with_transactions}
use Rattle.model.specs.Rules.{narrowed, Picks}
use Rattle.model.specs.Traces.{Origin, Event, is_write}
use Rattle.model.proofs.Claims.{Claim}
use Rattle.terms.specs.declared.record.Query.{Query}
use Rattle.database.specs.declared.Answer.{Answer}
use Rattle.database.specs.Databases.{Db, Sound, Asks}
use Rattle.cache.specs.declared.entry.Entry.{Entry}
use Rattle.cache.specs.Lists.{Same}
use Rattle.cache.specs.Keys.{is_key}
use Rattle.cache.specs.Entries.{covers}
use Rattle.cache.specs.Calls.{Looks}
use Rattle.model.specs.declared.call.Call.TheVariants.{Sheet, Query as Directly}
use Rattle.model.specs.declared.call.Reply.TheVariants.{Read, Open}
use Rattle.model.specs.Rules.{hit_part, answer_part}
use Rattle.model.specs.Calls.{of_query, of_sheet, with_tx, with_frames, has_frames, key_of, dropped}
use Rattle.model.proofs.Parts.{held_past, hit_claim, hit_contains, answer_claim}
use Rattle.model.proofs.Towers.{TowerTo, here, nth, nth_cut, whole_claim}
use Rattle.model.proofs.Cores.{TxGood, Core, core_entries, found}
use Rattle.model.proofs.Steps.{set_held, core_given, core_frames, find_replaced, replaced_again}
use Rattle.model.proofs.Choosing.{core_pick, whole_contains}

pub no_frames : (fs : List Frame) → ltb 0 (length fs) ≡ false → fs ≡ []
no_frames [] e = refl
no_frames (f ∷ fs) e = absurd (both_ways (ltb 0 (length (f ∷ fs))) e (lt-ltb 0 (length (f ∷ fs)) (omega arith)))

nth_none : (i : ℕ) (fs : List Frame) (g : Frame) → fs ≡ [] → nth i fs ≡ Some g → ⊥
nth_none i fs g none is = none-some g (ap (nth i) (sym none) ∙ is)

pub among_of : (m : ℕ) (ms : List ℕ) → Among m ms → among m ms ≡ true
among_of m [] a = absurd a
among_of m (n ∷ ms) a = ⊎_elim (λ e. or_left _ _ (eq-eqb m n e)) (λ b. or_right _ _ (among_of m ms b)) a

-- the transaction with the number that was asked for
pub found_at : (n : ℕ) (txs : List Transaction) (tx : Transaction) → find n txs ≡ Some tx → find tx.number txs ≡ Some tx
found_at n txs tx is = ap (λ k. find k txs) (found n txs tx is).1 ∙ is

-- a cache whose set of entries is the same
pub same_entries : (p : Rules) (o : Origin) (h : List Event) (hall : Hall) (entries : List Entry) → Same hall.entries entries → Core p o h hall → Core p o h (record { db = hall.db; entries = entries; books = hall.books })
same_entries p o h hall entries same core = core_entries p o h hall entries core (λ e a. core.entries e (same.back e a))

-- what a hit claims, for the key that was looked up
pub key_gives : (p : Rules) (z : Records) (sheet argument : ℕ) (e : Entry) (r : Reading) → is_key (key_of sheet argument) e.key ≡ true → Gives p z e.key.sheet e.key.argument r → Gives p z sheet argument r
key_gives p z sheet argument e r k x =
    let parts = and_parts _ _ k in
    subst (λ a. Gives p z sheet a r) (sym (eqb-true argument e.key.argument parts.1)) (subst (λ s. Gives p z s e.key.argument r) (sym (eqb-true sheet e.key.sheet parts.0)) x)

-- frames may be dropped
pub dropped_core : (p : Rules) (o : Origin) (h : List Event) (e : Event) (hall : Hall) (tx : Transaction) → Core p o h hall → find tx.number hall.books.txs ≡ Some tx → is_write e.reply ≡ false → e.given ≡ None → Core p o (e ∷ h) (dropped tx hall)
dropped_core p o h e hall tx core is w none =
    core_frames p o h e hall tx [] core is (λ i g x. absurd (none-some g x)) (λ pr i g x. absurd (none-some g x)) (λ m a i g x. absurd (none-some g x)) (λ i g x. absurd (none-some g x)) w (λ given now. absurd (none-some given (sym none ∙ now)))

pub hit_core : (p : Rules) (o : Origin) (h : List Event) (number sheet argument : ℕ) (hall : Hall) (tx : Transaction) (entry : Entry) (entries : List Entry) → Core p o h hall → find number hall.books.txs ≡ Some tx → has_frames tx ≡ false
    → Looks hall.entries (key_of sheet argument) tx.set hall.books.delivered (Some entry) → Same hall.entries entries
    → Core p o (record { call = Sheet number sheet argument; changes = []; reply = Ok (Read entry.reading); given = Some (record { number = number; question = of_sheet sheet argument; reading = entry.reading }) } ∷ h)
    (record { db = hall.db; entries = entries; books = with_tx (narrowed (hit_part hall.books.delivered entry) tx) hall.books.pins hall.books })
hit_core p o h number sheet argument hall tx entry entries core is shut looks same =
    let T = hall.books.delivered in
    let core₁ = same_entries p o h hall entries same core in
    let own = found number hall.books.txs tx is in
    let good = core.txs tx own.0 in
    let newest = looks.1 in
    let parts = and_parts (is_key (key_of sheet argument) entry.key) (covers T entry newest.0) newest.2 in
    let claim = hit_claim o h hall.db T newest.0 entry (λ z. Gives p z entry.key.sheet entry.key.argument entry.reading) parts.1 (core.entries entry looks.0) in
    core_given p o h (record { call = Sheet number sheet argument; changes = []; reply = Ok (Read entry.reading); given = Some (record { number = number; question = of_sheet sheet argument; reading = entry.reading }) })
    (record { db = hall.db; entries = entries; books = hall.books }) tx (hit_part T entry) tx.frames (λ z. Gives p z entry.key.sheet entry.key.argument entry.reading) newest.0
    (record { number = number; question = of_sheet sheet argument; reading = entry.reading })
    core₁ (found_at number hall.books.txs tx is) claim (among_of newest.0 tx.set newest.1) (hit_contains T newest.0 entry parts.1)
    (λ i g x. absurd (let was = nth_cut (hit_part T entry) i tx.frames g x in nth_none i tx.frames was.0 (no_frames tx.frames shut) was.1))
    good.inside good.sheets refl refl (sym own.1) (λ z x. key_gives p z sheet argument entry entry.reading parts.0 x)

pub whole_inside : (p : Rules) (o : Origin) (h : List Event) (hall : Hall) (tx : Transaction) (m : ℕ) → Core p o h hall → TxGood p o h hall.db hall.books.pins hall.books.next tx → among m tx.set ≡ true → contains whole_part.interval m ≡ true
whole_inside p o h hall tx m core good a =
    whole_contains m (let l = held_past hall.db m core.sound (set_held p o h hall tx m core good a) in let t = core.sound.moments in omega arith)

only_fresh : (sheet argument i : ℕ) (g : Frame) → nth i (fresh_frame sheet argument ∷ []) ≡ Some g → g ≡ fresh_frame sheet argument
only_fresh sheet argument zero g x = same_Some g (fresh_frame sheet argument) (sym x)
only_fresh sheet argument (suc i) g x = absurd (none-some g x)

pub miss_core : (p : Rules) (o : Origin) (h : List Event) (number sheet argument : ℕ) (hall : Hall) (tx : Transaction) (entries : List Entry) → Core p o h hall → find number hall.books.txs ≡ Some tx → sheet < p.sheets → Same hall.entries entries
    → Core p o (record { call = Sheet number sheet argument; changes = []; reply = Ok Open; given = None } ∷ h)
    (record { db = hall.db; entries = entries; books = with_tx (with_frames (fresh_frame sheet argument ∷ []) tx) hall.books.pins hall.books })
miss_core p o h number sheet argument hall tx entries core is there same =
    let core₁ = same_entries p o h hall entries same core in
    let good = core.txs tx (found number hall.books.txs tx is).0 in
    let only : (i : ℕ) (g : Frame) → nth i (fresh_frame sheet argument ∷ []) ≡ Some g → g ≡ fresh_frame sheet argument = only_fresh sheet argument in
    core_frames p o h (record { call = Sheet number sheet argument; changes = []; reply = Ok Open; given = None }) (record { db = hall.db; entries = entries; books = hall.books }) tx (fresh_frame sheet argument ∷ []) core₁ (found_at number hall.books.txs tx is)
    (λ i g x. subst (λ (y : Frame). Claim o h hall.db y.part (λ z. TowerTo p z i (fresh_frame sheet argument ∷ []))) (sym (only i g x)) (whole_claim o h hall.db (λ z. TowerTo p z i (fresh_frame sheet argument ∷ [])) (λ z. (here sheet argument, tt))))
    (λ pr i g x. ap (λ (y : Frame). y.part) (only i g x))
    (λ m a i g x. ap (λ (y : Frame). contains y.part.interval m) (only i g x) ∙ whole_inside p o h hall tx m core good a)
    (λ i g x. subst (λ (y : Frame). (y.point.sheet < p.sheets) × (y.answers < 32)) (sym (only i g x)) (there, lit< tt))
    refl (λ given now. absurd (none-some given now))

pub queried_core : (p : Rules) (o : Origin) (h : List Event) (number now m : ℕ) (query : Query) (hall : Hall) (tx tx' : Transaction) (db : Db) (pins : List Pin) (answer : Answer) → Core p o h hall → Sound db → find number hall.books.txs ≡ Some tx → has_frames tx ≡ false
    → Picks hall.db hall.books.pins tx now m db pins tx' → Asks db m query (Ok answer)
    → Core p o (record { call = Directly number query now; changes = []; reply = Ok (Read answer.reading); given = Some (record { number = number; question = of_query query; reading = answer.reading }) } ∷ h)
    (record { db = db; entries = hall.entries; books = with_tx (narrowed (answer_part answer) tx') pins hall.books })
queried_core p o h number now m query hall tx tx' db pins answer core sound is shut picks asks =
    let at = found_at number hall.books.txs tx is in
    let pick = core_pick p o h hall tx tx' now m db pins core at sound picks in
    let hall₁ : Hall = record { db = db; entries = hall.entries; books = with_tx tx' pins hall.books } in
    let at' : find tx'.number hall.books.txs ≡ Some tx = ap (λ k. find k hall.books.txs) pick.number ∙ at in
    let find₁ = find_replaced tx' hall.books.txs tx at' in
    let good = pick.core.txs tx' (found tx'.number (replaced tx' hall.books.txs) tx' find₁).0 in
    let claim = answer_claim o h db m query answer sound pick.core.faithful asks.0 asks.1 in
    let e : Event = record { call = Directly number query now; changes = []; reply = Ok (Read answer.reading); given = Some (record { number = number; question = of_query query; reading = answer.reading }) } in
    let nar = narrowed (answer_part answer) tx' in
    let out = core_given p o h e hall₁ tx' (answer_part answer) tx'.frames (λ z. Reads z query answer.reading) m (record { number = number; question = of_query query; reading = answer.reading })
    pick.core find₁ claim pick.chosen asks.1.inside
    (λ i g x. absurd (let was = nth_cut (answer_part answer) i tx'.frames g x in nth_none i tx'.frames was.0 (pick.frames ∙ no_frames tx.frames shut) was.1))
    good.inside good.sheets refl refl (sym (found number hall.books.txs tx is).1 ∙ sym pick.number) (λ z x. x) in
    subst (λ (ts : List Transaction). Core p o (e ∷ h) (record { db = db; entries = hall.entries; books = with_transactions pins ts hall.books })) (replaced_again nar tx' hall.books.txs refl) out
