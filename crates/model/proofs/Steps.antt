-- Narrowing and choosing keep what is carried.
use Rattle.std.proofs.Common.{◌≡◌, ℕ, ◌<◌, true, false, List, [], ◌∷◌, map, Some, filter, sym, refl, ap, ◌∙◌, subst, arith}
use Rattle.std.proofs.lemmas.Option.{none-some, same_Some}
use Rattle.std.proofs.lemmas.Bool.Decides.{nat_tests}
use Rattle.std.proofs.lemmas.Bool.{both_ways, and_from, and_parts, or_right}
use Rattle.terms.specs.Intervals.{contains}
use Rattle.database.specs.Lists.{among, distinct}
use Rattle.database.specs.States.{Records}
use Rattle.database.specs.Databases.{Db, held}
use Rattle.database.proofs.Sets.{among_kept}
use Rattle.recipe.specs.Recipes.{Rules}
use Rattle.model.specs.Books.{Pin, Part, Frame, Transaction, Hall, whole_part, find, replaced}
use Rattle.model.specs.Rules.{narrowed, cut}
use Rattle.model.specs.Calls.{Given, with_tx, with_frames}
use Rattle.model.specs.Traces.{Origin, Event, is_write, records_at}
use Rattle.model.specs.Law.{Right}
use Rattle.model.proofs.Claims.{Claim, claim_here, meet_contains}
use Rattle.model.proofs.Towers.{Stack, nth, nth_cut}
use Rattle.model.proofs.Cores.{TxGood, Core, core_append, core_tx, found, numbers_replaced, only_one}

-- a moment of a pin set is held
pub set_held : (p : Rules) (o : Origin) (h : List Event) (hall : Hall) (tx : Transaction) (m : ℕ) → Core p o h hall → TxGood p o h hall.db hall.books.pins hall.books.next tx → among m tx.set ≡ true → held hall.db m ≡ true
set_held p o h hall tx m core good a = or_right _ _ (core.same m ∙ good.pinned m (good.holds m a))

-- a transaction that is narrowed to a part, with the frames cut to it
pub narrow_good : (p : Rules) (o : Origin) (h : List Event) (db : Db) (pins : List Pin) (next : ℕ) (tx : Transaction) (part : Part) (gs : List Frame) (m₀ : ℕ)
    → TxGood p o h db pins next tx → among m₀ tx.set ≡ true → contains part.interval m₀ ≡ true
    → Stack p o h db (map (cut part) gs)
    → ((m : ℕ) → among m tx.set ≡ true → (i : ℕ) (g : Frame) → nth i gs ≡ Some g → contains g.part.interval m ≡ true)
    → ((i : ℕ) (g : Frame) → nth i gs ≡ Some g → (g.point.sheet < p.sheets) × (g.answers < 32))
    → TxGood p o h db pins next (narrowed part (with_frames gs tx))
narrow_good p o h db pins next tx part gs m₀ good in-set in-part stack inside sheets =
    let both : (m : ℕ) → among m (filter (contains part.interval) tx.set) ≡ true → (among m tx.set ≡ true) × (contains part.interval m ≡ true) =
    λ m a. and_parts _ _ (sym (among_kept (contains part.interval) m tx.set) ∙ a) in
    record {
      younger = good.younger;
      holds = λ m a. good.holds m (both m a).0;
      pinned = good.pinned;
      some = λ pr. (m₀, among_kept (contains part.interval) m₀ tx.set ∙ and_from _ _ in-set in-part);
      whole = λ pr. absurd (both_ways false refl pr);
      free = λ pr. absurd (both_ways false refl pr);
      inside = λ m a i g is.
          let was = nth_cut part i gs g is in
          subst (λ (x : Frame). contains x.part.interval m ≡ true) (sym was.2) (meet_contains was.0.part part m (inside m (both m a).0 i was.0 was.1) (both m a).1);
      stack = stack;
      sheets = λ i g is. let was = nth_cut part i gs g is in subst (λ (x : Frame). (x.point.sheet < p.sheets) × (x.answers < 32)) (sym was.2) (sheets i was.0 was.1);
      right = λ given g is m a. good.right given g is m (both m a).0;
    }

pub find_replaced : (tx' : Transaction) (txs : List Transaction) (tx : Transaction) → find tx'.number txs ≡ Some tx → find tx'.number (replaced tx' txs) ≡ Some tx'
find_replaced tx' [] tx e = absurd (none-some tx e)
find_replaced tx' (x ∷ txs) tx e = let ih = find_replaced tx' txs tx in grind (arith, nat_tests)

pub replaced_again : (a b : Transaction) (txs : List Transaction) → a.number ≡ b.number → replaced a (replaced b txs) ≡ replaced a txs
replaced_again a b [] same = refl
replaced_again a b (x ∷ txs) same = let ih = replaced_again a b txs same in grind (arith, nat_tests)

-- a reading that is right at Q is given, and the transaction is narrowed to the part of Q
pub core_given : (p : Rules) (o : Origin) (h : List Event) (e : Event) (hall : Hall) (tx : Transaction) (part : Part) (gs : List Frame) (Q : Records → Type 0) (m₀ : ℕ) (given : Given)
    → Core p o h hall → find tx.number hall.books.txs ≡ Some tx → Claim o h hall.db part Q
    → among m₀ tx.set ≡ true → contains part.interval m₀ ≡ true
    → Stack p o h hall.db (map (cut part) gs)
    → ((m : ℕ) → among m tx.set ≡ true → (i : ℕ) (g : Frame) → nth i gs ≡ Some g → contains g.part.interval m ≡ true)
    → ((i : ℕ) (g : Frame) → nth i gs ≡ Some g → (g.point.sheet < p.sheets) × (g.answers < 32))
    → is_write e.reply ≡ false → e.given ≡ Some given → given.number ≡ tx.number → ((z : Records) → Q z → Right p z given.question given.reading)
    → Core p o (e ∷ h) (record { db = hall.db; entries = hall.entries; books = with_tx (narrowed part (with_frames gs tx)) hall.books.pins hall.books })
core_given p o h e hall tx part gs Q m₀ given core is claim in-set in-part stack inside sheets w gives number right =
    let own = found tx.number hall.books.txs tx is in
    let good = core.txs tx own.0 in
    let tx' = narrowed part (with_frames gs tx) in
    let good' = narrow_good p o h hall.db hall.books.pins hall.books.next tx part gs m₀ good in-set in-part stack inside sheets in
    let core' = core_tx p o h hall tx tx' core is refl good' in
    core_append p o h e (record { db = hall.db; entries = hall.entries; books = with_tx tx' hall.books.pins hall.books }) w
    (λ other now.
    let same : given ≡ other = same_Some given other (sym gives ∙ now) in (
      subst (λ (x : Given). x.number < hall.books.next) same (subst (λ n. n < hall.books.next) (sym number) good.younger),
      λ t a same_number.
          let t-is : t ≡ tx' = only_one tx.number (replaced tx' hall.books.txs) tx' t (ap distinct (numbers_replaced tx' hall.books.txs) ∙ core.apart) (find_replaced tx' hall.books.txs tx is) a
          (sym same_number ∙ ap (λ (x : Given). x.number) (sym same) ∙ number) in
          subst (λ (x : Transaction). (x.present ≡ true → (z : Records) → Right p z other.question other.reading) × ((m : ℕ) → among m x.set ≡ true → Right p (records_at o h m) other.question other.reading)) (sym t-is) (
            λ pr. absurd (both_ways false refl pr),
            λ m b.
                let parts = and_parts _ _ (sym (among_kept (contains part.interval) m tx.set) ∙ b) in
                subst (λ (x : Given). Right p (records_at o h m) x.question x.reading) same
                (right (records_at o h m) (claim_here o h hall.db part Q m (set_held p o h hall tx m core good parts.0) parts.1 claim)),
          ),
    ))
    core'

-- frames change and a reading is given, and the transaction is not narrowed
pub core_frames : (p : Rules) (o : Origin) (h : List Event) (e : Event) (hall : Hall) (tx : Transaction) (gs : List Frame)
    → Core p o h hall → find tx.number hall.books.txs ≡ Some tx
    → Stack p o h hall.db gs
    → (tx.present ≡ true → (i : ℕ) (g : Frame) → nth i gs ≡ Some g → g.part ≡ whole_part)
    → ((m : ℕ) → among m tx.set ≡ true → (i : ℕ) (g : Frame) → nth i gs ≡ Some g → contains g.part.interval m ≡ true)
    → ((i : ℕ) (g : Frame) → nth i gs ≡ Some g → (g.point.sheet < p.sheets) × (g.answers < 32))
    → is_write e.reply ≡ false
    → ((given : Given) → e.given ≡ Some given → (given.number ≡ tx.number) × (tx.present ≡ true → (z : Records) → Right p z given.question given.reading) × ((m : ℕ) → among m tx.set ≡ true → Right p (records_at o h m) given.question given.reading))
    → Core p o (e ∷ h) (record { db = hall.db; entries = hall.entries; books = with_tx (with_frames gs tx) hall.books.pins hall.books })
core_frames p o h e hall tx gs core is stack whole inside sheets w gives =
    let own = found tx.number hall.books.txs tx is in
    let good = core.txs tx own.0 in
    let tx' = with_frames gs tx in
    let good' : TxGood p o h hall.db hall.books.pins hall.books.next tx' =
    record { younger = good.younger; holds = good.holds; pinned = good.pinned; some = good.some; whole = whole; free = good.free; inside = inside; stack = stack; sheets = sheets; right = good.right } in
    core_append p o h e (record { db = hall.db; entries = hall.entries; books = with_tx tx' hall.books.pins hall.books }) w
    (λ given now.
    let g = gives given now in (
      subst (λ n. n < hall.books.next) (sym g.0) good.younger,
      λ t a same_number.
          let t-is : t ≡ tx' = only_one tx.number (replaced tx' hall.books.txs) tx' t (ap distinct (numbers_replaced tx' hall.books.txs) ∙ core.apart) (find_replaced tx' hall.books.txs tx is) a (sym same_number ∙ g.0) in
          subst (λ (x : Transaction). (x.present ≡ true → (z : Records) → Right p z given.question given.reading) × ((m : ℕ) → among m x.set ≡ true → Right p (records_at o h m) given.question given.reading)) (sym t-is) (g.1, g.2),
    ))
    (core_tx p o h hall tx tx' core is refl good')
