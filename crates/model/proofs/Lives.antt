-- The law stands after every list of calls.
use Rattle.std.proofs.Common.{◌≡◌, ℕ, ◌+◌, Bool, true, false, cond, not, ◌&&◌, ◌||◌, eqb, List, [], ◌∷◌, length, Some, None, Option, sym, refl, ap, ◌∙◌, subst, ⊎_elim, arith, Ok}
use Rattle.std.proofs.lemmas.Bool.Decides.{nat_tests}
use Rattle.std.proofs.lemmas.Bool.{both_ways, cond-false, or_cases, eqb-true}
use Rattle.std.proofs.lemmas.List.{length-map}
use Rattle.terms.specs.declared.record.Change.{Change}
use Rattle.database.specs.Lists.{among, distinct, without}
use Rattle.database.specs.Databases.{Db, Sound}
use Rattle.database.proofs.Sets.{among_without, length_without}
use Rattle.cache.specs.Lists.{Among}
use Rattle.recipe.specs.Recipes.{Rules}
use Rattle.model.specs.declared.call.Call.{Call}
use Rattle.model.specs.declared.call.Call.TheVariants.{Write}
use Rattle.model.specs.declared.call.Reply.TheVariants.{Written as Wrote}
use Rattle.model.specs.Books.{Transaction, Books, Hall, find, removed, moments}
use Rattle.model.specs.Calls.{Outcome, Given, Does, Makes}
use Rattle.model.specs.Calls as calls
use Rattle.model.specs.Traces.{Origin, Event, is_write, Lives}
use Rattle.model.specs.Traces as traces
use Rattle.model.specs.Law.{numbers, how_many, is_begin, is_commit, is_abort, is_open_in, starts, finishes}
use Rattle.model.proofs.Cores.{Core, among_by, core_append, gives_nothing, found, numbers_replaced}
use Rattle.model.proofs.Asked.{hit_core, miss_core, queried_core, dropped_core, found_at, same_entries}
use Rattle.model.proofs.Stepped.{step_query_core, step_hit_core, step_miss_core, step_done_core, step_last_core}
use Rattle.model.proofs.Turns.{begin_core, end_core, write_core, deliver_core, sweep_core, numbers_removed}

-- a call that changes nothing
unchanged : (p : Rules) (o : Origin) (h : List Event) (e : Event) (hall : Hall) → is_write e.reply ≡ false → e.given ≡ None → Core p o h hall → Core p o (e ∷ h) hall
unchanged p o h e hall w none core = core_append p o h e hall w (gives_nothing p o h e hall.books.next hall.books.txs none) core

-- each call keeps what is carried
does_core : (p : Rules) (o : Origin) (h : List Event) (hall hall' : Hall) (call : Call) (changes : List Change) (reply : Outcome) (given : Option Given) → Core p o h hall → Sound hall'.db → Does p hall call changes reply given hall'
    → Core p o (record { call = call; changes = changes; reply = reply; given = given } ∷ h) hall'
does_core p o h hall hall' call changes reply given core sound (calls.Does.refused c cs fault is) =
    unchanged p o h _ hall refl refl core
does_core p o h hall hall' call changes reply given core sound (calls.Does.began now limit is) = begin_core p o h now limit hall _ core refl refl
does_core p o h hall hall' call changes reply given core sound (calls.Does.hit number sheet argument tx entry entries is shut there looks same) = hit_core p o h number sheet argument hall tx entry entries core is shut looks same
does_core p o h hall hall' call changes reply given core sound (calls.Does.miss number sheet argument tx entries is shut there looks same) = miss_core p o h number sheet argument hall tx entries core is there same
does_core p o h hall hall' call changes reply given core sound (calls.Does.queried number now m query tx tx' db pins answer is shut known picks asks) = queried_core p o h number now m query hall tx tx' db pins answer core sound is shut picks asks
does_core p o h hall hall' call changes reply given core sound (calls.Does.query_no_pin number now query tx is shut known none) =
    unchanged p o h _ hall refl refl core
does_core p o h hall hall' call changes reply given core sound (calls.Does.query_not_held number now m query tx is shut known picks out) =
    unchanged p o h _ hall refl refl core
does_core p o h hall hall' call changes reply given core sound (calls.Does.never_done number now tx frame frames is fr last not_done) = dropped_core p o h _ hall tx core (found_at number hall.books.txs tx is) refl refl
does_core p o h hall hall' call changes reply given core sound (calls.Does.step_table number now query tx frame frames is fr last asked out) = dropped_core p o h _ hall tx core (found_at number hall.books.txs tx is) refl refl
does_core p o h hall hall' call changes reply given core sound (calls.Does.step_no_pin number now query tx frame frames is fr last asked known none) = dropped_core p o h _ hall tx core (found_at number hall.books.txs tx is) refl refl
does_core p o h hall hall' call changes reply given core sound (calls.Does.step_not_held number now m query tx frame frames is fr last asked known picks out) = dropped_core p o h _ hall tx core (found_at number hall.books.txs tx is) refl refl
does_core p o h hall hall' call changes reply given core sound (calls.Does.step_query number now m query tx tx' frame frames db pins answer is fr last asked known picks asks) = step_query_core p o h number now m query hall tx tx' frame frames db pins answer core sound is fr last asked known picks asks
does_core p o h hall hall' call changes reply given core sound (calls.Does.step_unknown number now sheet argument tx frame frames is fr last asked out) = dropped_core p o h _ hall tx core (found_at number hall.books.txs tx is) refl refl
does_core p o h hall hall' call changes reply given core sound (calls.Does.step_hit number now sheet argument tx frame frames entry entries is fr last asked there looks same) = step_hit_core p o h number now sheet argument hall tx frame frames entry entries core is fr last asked looks same
does_core p o h hall hall' call changes reply given core sound (calls.Does.step_deep number now sheet argument tx frame frames entries is fr last asked there looks same deep) =
    dropped_core p o h _ (record { db = hall.db; entries = entries; books = hall.books }) tx (same_entries p o h hall entries same core) (found_at number hall.books.txs tx is) refl refl
does_core p o h hall hall' call changes reply given core sound (calls.Does.step_miss number now sheet argument tx frame frames entries is fr last asked there looks same room) = step_miss_core p o h number now sheet argument hall tx frame frames entries core is fr last asked there same
does_core p o h hall hall' call changes reply given core sound (calls.Does.step_done number now reading tx frame below frames entries is fr asked enters) = step_done_core p o h number now reading hall tx frame below frames entries core is fr asked enters
does_core p o h hall hall' call changes reply given core sound (calls.Does.step_last number now reading tx frame entries is fr asked enters) = step_last_core p o h number now reading hall tx frame entries core is fr asked enters
does_core p o h hall hall' call changes reply given core sound (calls.Does.committed number tx is) = end_core p o h number hall tx _ core is refl refl
does_core p o h hall hall' call changes reply given core sound (calls.Does.aborted number tx is) = end_core p o h number hall tx _ core is refl refl
does_core p o h hall hall' call changes reply given core sound (calls.Does.wrote cs moment db is written) = write_core p o h (record { call = Write; changes = cs; reply = Ok (Wrote moment); given = None }) moment hall db core sound refl refl written
does_core p o h hall hall' call changes reply given core sound (calls.Does.delivered row rows entries first closes) = deliver_core p o h _ hall row rows entries core refl refl first closes
does_core p o h hall hall' call changes reply given core sound (calls.Does.swept now age db entries unpins drops) = sweep_core p o h _ now age hall db entries _ core sound refl refl unpins drops

-- a making
made_core : (p : Rules) (o : Origin) (db : Db) (first size : ℕ) (hall : Hall) → Makes db first size hall → Sound hall.db → o.moment ≡ db.latest → ((table key : ℕ) → o.records table key ≡ db.at db.latest table key) → Core p o [] hall
made_core p o db first size hall makes sound at records =
    let books = makes.books in
    let no_pins : hall.books.pins ≡ [] = ap (λ (b : Books). b.pins) books in
    let no-txs : hall.books.txs ≡ [] = ap (λ (b : Books). b.txs) books in
    let T : hall.books.delivered ≡ hall.db.latest = ap (λ (b : Books). b.delivered) books in
    record {
      latest = makes.unpins.latest ∙ sym at;
      past = omega arith;
      stream = ap (λ (b : Books). b.rows) books;
      sound = sound;
      faithful = λ m t k hd. ⊎_elim
          (λ e. let is = eqb-true m hall.db.latest e in
          makes.unpins.states m t k hd ∙ ap (λ n. db.at n t k) (is ∙ makes.unpins.latest) ∙ sym (records t k))
          (λ a. absurd (both_ways false refl (ap (among m) (sym makes.unpins.pins) ∙ a))) (or_cases _ _ hd);
      same = λ m. ap (among m) makes.unpins.pins ∙ ap (λ ps. among m (moments ps)) (sym no_pins);
      once = ap (λ ps. distinct (moments ps)) no_pins;
      uses = λ pin a. absurd (subst (Among pin) no_pins a);
      apart = ap (λ ts. distinct (numbers ts)) no-txs;
      entries = λ e a. absurd (subst (Among e) makes.cleared a);
      txs = λ t a. absurd (subst (Among t) no-txs a);
      givens = λ given g. absurd g;
    }

-- the open transactions are counted
pub record Counts (h : List Event) (txs : List Transaction) : Type 0 where
  pub counted : how_many is_begin h ≡ (how_many is_commit h + how_many is_abort h) + length txs
  pub exactly : (n : ℕ) → among n (numbers txs) ≡ is_open_in n h

abbrev Neutral : Call → Outcome → Type 0
Neutral call reply = (is_begin reply ≡ false) × (is_commit reply ≡ false) × (is_abort reply ≡ false) × ((n : ℕ) → starts n reply ≡ false) × ((n : ℕ) → finishes n call reply ≡ false)

same_length : (one other : List Transaction) → numbers one ≡ numbers other → length one ≡ length other
same_length one other e = sym (length-map one (λ (tx : Transaction). tx.number)) ∙ ap length e ∙ length-map other (λ (tx : Transaction). tx.number)

counts_same : (h : List Event) (e : Event) (txs txs' : List Transaction) → Neutral e.call e.reply → numbers txs' ≡ numbers txs → Counts h txs → Counts (e ∷ h) txs'
counts_same h e txs txs' neutral same c = record {
  counted =
      let a = cond-false (is_begin e.reply) (how_many is_begin h + 1) (how_many is_begin h) neutral.0 in
      let b = cond-false (is_commit e.reply) (how_many is_commit h + 1) (how_many is_commit h) neutral.1 in
      let d = cond-false (is_abort e.reply) (how_many is_abort h + 1) (how_many is_abort h) neutral.2 in
      let l = same_length txs' txs same in let old = c.counted in omega arith;
  exactly = λ n. ap (among n) same ∙ c.exactly n ∙ sym (cond-false (starts n e.reply) _ _ (neutral.3 n) ∙ cond-false (finishes n e.call e.reply) _ _ (neutral.4 n));
}

shut : (a b : Bool) → (a && not b) ≡ cond b false a
shut a b = grind arith

counts_end : (h : List Event) (e : Event) (n : ℕ) (tx : Transaction) (txs : List Transaction) → (cond (is_commit e.reply) true (is_abort e.reply) ≡ true) → is_begin e.reply ≡ false → (is_commit e.reply && is_abort e.reply) ≡ false → ((k : ℕ) → starts k e.reply ≡ false) → ((k : ℕ) → finishes k e.call e.reply ≡ eqb k n)
    → distinct (numbers txs) ≡ true → find n txs ≡ Some tx → Counts h txs → Counts (e ∷ h) (removed tx.number txs)
counts_end h e n tx txs ends no-begin one no_start fin apart is c =
    let own = found n txs tx is in
    let same = numbers_removed tx.number txs apart in
    let there : among tx.number (numbers txs) ≡ true = among_by (λ (y : Transaction). y.number) tx txs own.0 in
    let fewer = length_without tx.number (numbers txs) apart there in
    let l' : length (removed tx.number txs) ≡ length (without tx.number (numbers txs)) = sym (length-map (removed tx.number txs) (λ (t : Transaction). t.number)) ∙ ap length same in
    let l = length-map txs (λ (t : Transaction). t.number) in
    record {
      counted = let old = c.counted in grind (arith, nat_tests);
      exactly = λ k.
          ap (among k) same ∙ among_without k tx.number (numbers txs) ∙ ap (λ b. b && not (eqb k tx.number)) (c.exactly k) ∙ ap (λ j. is_open_in k h && not (eqb k j)) own.1
          ∙ shut (is_open_in k h) (eqb k n) ∙ sym (cond-false (starts k e.reply) _ _ (no_start k) ∙ ap (λ b. cond b false (is_open_in k h)) (fin k));
    }

counts_begin : (h : List Event) (e : Event) (n : ℕ) (tx : Transaction) (txs : List Transaction) → is_begin e.reply ≡ true → is_commit e.reply ≡ false → is_abort e.reply ≡ false → ((k : ℕ) → starts k e.reply ≡ eqb k n) → ((k : ℕ) → finishes k e.call e.reply ≡ false) → tx.number ≡ n → Counts h txs → Counts (e ∷ h) (tx ∷ txs)
counts_begin h e n tx txs begins no-commit no_Abort start no_end is c = record {
  counted = let old = c.counted in grind (arith, nat_tests);
  exactly = λ k.
      ap (λ j. eqb k j || among k (numbers txs)) is ∙ ap (λ b. eqb k n || b) (c.exactly k) ∙ either (eqb k n) (is_open_in k h)
      ∙ sym (ap (λ b. cond b true (cond (finishes k e.call e.reply) false (is_open_in k h))) (start k) ∙ ap (λ b. cond (eqb k n) true (cond b false (is_open_in k h))) (no_end k));
}
  where
    either : (a b : Bool) → (a || b) ≡ cond a true b
    either true b = refl
    either false b = refl

does_counts : (p : Rules) (h : List Event) (hall hall' : Hall) (call : Call) (changes : List Change) (reply : Outcome) (given : Option Given) → distinct (numbers hall.books.txs) ≡ true → Does p hall call changes reply given hall' → Counts h hall.books.txs
    → Counts (record { call = call; changes = changes; reply = reply; given = given } ∷ h) hall'.books.txs
does_counts p h hall hall' call changes reply given apart (calls.Does.refused cl cs fault is) c = counts_same h _ hall.books.txs hall.books.txs (refl, refl, refl, λ n. refl, λ n. refl) refl c
does_counts p h hall hall' call changes reply given apart (calls.Does.began now limit is) c = counts_begin h _ hall.books.next _ hall.books.txs refl refl refl (λ k. refl) (λ k. refl) refl c
does_counts p h hall hall' call changes reply given apart (calls.Does.hit number sheet argument tx entry entries is shut there looks same) c = counts_same h _ hall.books.txs _ (refl, refl, refl, λ n. refl, λ n. refl) (numbers_replaced _ hall.books.txs) c
does_counts p h hall hall' call changes reply given apart (calls.Does.miss number sheet argument tx entries is shut there looks same) c = counts_same h _ hall.books.txs _ (refl, refl, refl, λ n. refl, λ n. refl) (numbers_replaced _ hall.books.txs) c
does_counts p h hall hall' call changes reply given apart (calls.Does.queried number now m query tx tx' db pins answer is shut known picks asks) c = counts_same h _ hall.books.txs _ (refl, refl, refl, λ n. refl, λ n. refl) (numbers_replaced _ hall.books.txs) c
does_counts p h hall hall' call changes reply given apart (calls.Does.query_no_pin number now query tx is shut known none) c = counts_same h _ hall.books.txs hall.books.txs (refl, refl, refl, λ n. refl, λ n. refl) refl c
does_counts p h hall hall' call changes reply given apart (calls.Does.query_not_held number now m query tx is shut known picks out) c = counts_same h _ hall.books.txs hall.books.txs (refl, refl, refl, λ n. refl, λ n. refl) refl c
does_counts p h hall hall' call changes reply given apart (calls.Does.never_done number now tx frame frames is fr last not_done) c = counts_same h _ hall.books.txs _ (refl, refl, refl, λ n. refl, λ n. refl) (numbers_replaced _ hall.books.txs) c
does_counts p h hall hall' call changes reply given apart (calls.Does.step_table number now query tx frame frames is fr last asked out) c = counts_same h _ hall.books.txs _ (refl, refl, refl, λ n. refl, λ n. refl) (numbers_replaced _ hall.books.txs) c
does_counts p h hall hall' call changes reply given apart (calls.Does.step_no_pin number now query tx frame frames is fr last asked known none) c = counts_same h _ hall.books.txs _ (refl, refl, refl, λ n. refl, λ n. refl) (numbers_replaced _ hall.books.txs) c
does_counts p h hall hall' call changes reply given apart (calls.Does.step_not_held number now m query tx frame frames is fr last asked known picks out) c = counts_same h _ hall.books.txs _ (refl, refl, refl, λ n. refl, λ n. refl) (numbers_replaced _ hall.books.txs) c
does_counts p h hall hall' call changes reply given apart (calls.Does.step_query number now m query tx tx' frame frames db pins answer is fr last asked known picks asks) c = counts_same h _ hall.books.txs _ (refl, refl, refl, λ n. refl, λ n. refl) (numbers_replaced _ hall.books.txs) c
does_counts p h hall hall' call changes reply given apart (calls.Does.step_unknown number now sheet argument tx frame frames is fr last asked out) c = counts_same h _ hall.books.txs _ (refl, refl, refl, λ n. refl, λ n. refl) (numbers_replaced _ hall.books.txs) c
does_counts p h hall hall' call changes reply given apart (calls.Does.step_hit number now sheet argument tx frame frames entry entries is fr last asked there looks same) c = counts_same h _ hall.books.txs _ (refl, refl, refl, λ n. refl, λ n. refl) (numbers_replaced _ hall.books.txs) c
does_counts p h hall hall' call changes reply given apart (calls.Does.step_deep number now sheet argument tx frame frames entries is fr last asked there looks same deep) c = counts_same h _ hall.books.txs _ (refl, refl, refl, λ n. refl, λ n. refl) (numbers_replaced _ hall.books.txs) c
does_counts p h hall hall' call changes reply given apart (calls.Does.step_miss number now sheet argument tx frame frames entries is fr last asked there looks same room) c = counts_same h _ hall.books.txs _ (refl, refl, refl, λ n. refl, λ n. refl) (numbers_replaced _ hall.books.txs) c
does_counts p h hall hall' call changes reply given apart (calls.Does.step_done number now reading tx frame below frames entries is fr asked enters) c = counts_same h _ hall.books.txs _ (refl, refl, refl, λ n. refl, λ n. refl) (numbers_replaced _ hall.books.txs) c
does_counts p h hall hall' call changes reply given apart (calls.Does.step_last number now reading tx frame entries is fr asked enters) c = counts_same h _ hall.books.txs _ (refl, refl, refl, λ n. refl, λ n. refl) (numbers_replaced _ hall.books.txs) c
does_counts p h hall hall' call changes reply given apart (calls.Does.committed number tx is) c = counts_end h _ number tx hall.books.txs refl refl refl (λ k. refl) (λ k. refl) apart is c
does_counts p h hall hall' call changes reply given apart (calls.Does.aborted number tx is) c = counts_end h _ number tx hall.books.txs refl refl refl (λ k. refl) (λ k. refl) apart is c
does_counts p h hall hall' call changes reply given apart (calls.Does.wrote cs moment db is written) c = counts_same h _ hall.books.txs hall.books.txs (refl, refl, refl, λ n. refl, λ n. refl) refl c
does_counts p h hall hall' call changes reply given apart (calls.Does.delivered row rows entries first closes) c = counts_same h _ hall.books.txs hall.books.txs (refl, refl, refl, λ n. refl, λ n. refl) refl c
does_counts p h hall hall' call changes reply given apart (calls.Does.swept now age db entries unpins drops) c = counts_same h _ hall.books.txs hall.books.txs (refl, refl, refl, λ n. refl, λ n. refl) refl c

pub carried : (p : Rules) (o : Origin) (h : List Event) (hall : Hall) → Lives p o h hall → Core p o h hall × Counts h hall.books.txs
carried p o h hall (traces.Lives.made db first size hall₀ makes sound at records) = (
  made_core p o db first size hall₀ makes sound at records,
  let none : hall₀.books.txs ≡ [] = ap (λ (b : Books). b.txs) makes.books in
      record { counted = let l = ap length none in omega arith; exactly = λ n. ap (λ ts. among n (numbers ts)) none },
)
carried p o h hall (traces.Lives.then trace before after event lives does sound) =
    let old = carried p o trace before lives in (
      does_core p o trace before after event.call event.changes event.reply event.given old.0 sound does,
      does_counts p trace before after event.call event.changes event.reply event.given old.0.apart does old.1,
    )
