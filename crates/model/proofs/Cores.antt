-- What is carried from call to call.
use Rattle.std.proofs.Common.{◌≡◌, ℕ, ◌+◌, ◌<◌, ◌≤◌, true, false, cond, ltb, ◌⊎◌, List, [], ◌∷◌, map, Some, None, filter, sym, refl, ap, ◌∙◌, subst, inl, inr, ⊎_elim, arith}
use Rattle.std.proofs.lemmas.Option.{none-some}
use Rattle.std.proofs.lemmas.Bool.Decides.{nat_tests}
use Rattle.std.proofs.lemmas.Bool.{or_right, or_left, eq-eqb}
use Rattle.terms.specs.Intervals.{contains}
use Rattle.database.specs.Lists.{among, distinct}
use Rattle.database.specs.States.{Records}
use Rattle.database.specs.Databases.{Db, held, Sound}
use Rattle.cache.specs.declared.entry.Entry.{Entry}
use Rattle.cache.specs.Lists.{Among}
use Rattle.recipe.specs.Recipes.{Rules, Gives}
use Rattle.model.specs.Books.{Pin, Frame, Transaction, Hall, whole_part, moments, find, replaced, removed, with_transactions}
use Rattle.model.specs.Calls.{Given, Question, with_tx}
use Rattle.model.specs.Traces.{Origin, Event, is_write, latest_of, records_at, rows_of}
use Rattle.model.specs.Law.{Right, GivenIn, numbers, holders}
use Rattle.model.proofs.Claims.{Claim}
use Rattle.terms.specs.Records.{Reading}
use Rattle.model.proofs.Moves.{Faithful, claim_skip, claim_held, records_skip, latest_skip, rows_skip}
use Rattle.model.proofs.Parts.{entry_part}
use Rattle.model.proofs.Towers.{Stack, nth}

-- an entry is good: it claims the value of its key
abbrev pub EntryGood : Rules → Origin → List Event → Db → ℕ → Entry → Type 0
EntryGood p o h db T e = Claim o h db (entry_part T e) (λ z. Gives p z e.key.sheet e.key.argument e.reading)

pub record TxGood (p : Rules) (o : Origin) (h : List Event) (db : Db) (pins : List Pin) (next : ℕ) (tx : Transaction) : Type 0 where
  pub younger : tx.number < next
  pub holds : (m : ℕ) → among m tx.set ≡ true → among m tx.holds ≡ true
  pub pinned : (m : ℕ) → among m tx.holds ≡ true → among m (moments pins) ≡ true
  pub some : tx.present ≡ false → (m : ℕ) × (among m tx.set ≡ true)
  pub whole : tx.present ≡ true → (i : ℕ) (g : Frame) → nth i tx.frames ≡ Some g → g.part ≡ whole_part
  pub free : tx.present ≡ true → (given : Given) → GivenIn given h → given.number ≡ tx.number → (z : Records) → Right p z given.question given.reading
  pub inside : (m : ℕ) → among m tx.set ≡ true → (i : ℕ) (g : Frame) → nth i tx.frames ≡ Some g → contains g.part.interval m ≡ true
  pub stack : Stack p o h db tx.frames
  pub sheets : (i : ℕ) (g : Frame) → nth i tx.frames ≡ Some g → (g.point.sheet < p.sheets) × (g.answers < 32)
  pub right : (given : Given) → GivenIn given h → given.number ≡ tx.number → (m : ℕ) → among m tx.set ≡ true → Right p (records_at o h m) given.question given.reading

pub record Core (p : Rules) (o : Origin) (h : List Event) (hall : Hall) : Type 0 where
  pub latest : hall.db.latest ≡ latest_of o h
  pub past : hall.books.delivered ≤ hall.db.latest
  pub stream : hall.books.rows ≡ filter (λ row. ltb hall.books.delivered row.moment) (rows_of o h)
  pub sound : Sound hall.db
  pub faithful : Faithful o h hall.db
  pub same : (m : ℕ) → among m hall.db.pins ≡ among m (moments hall.books.pins)
  pub once : distinct (moments hall.books.pins) ≡ true
  pub uses : (pin : Pin) → Among pin hall.books.pins → pin.uses ≡ holders pin.moment hall.books.txs
  pub apart : distinct (numbers hall.books.txs) ≡ true
  pub entries : (e : Entry) → Among e hall.entries → EntryGood p o h hall.db hall.books.delivered e
  pub txs : (tx : Transaction) → Among tx hall.books.txs → TxGood p o h hall.db hall.books.pins hall.books.next tx
  pub givens : (given : Given) → GivenIn given h → given.number < hall.books.next

-- the entries of a cache may come and go, as long as each is good
pub core_entries : (p : Rules) (o : Origin) (h : List Event) (hall : Hall) (entries : List Entry) → Core p o h hall → ((e : Entry) → Among e entries → EntryGood p o h hall.db hall.books.delivered e)
    → Core p o h (record { db = hall.db; entries = entries; books = hall.books })
core_entries p o h hall entries core good = record {
  latest = core.latest;
  past = core.past;
  stream = core.stream;
  sound = core.sound;
  faithful = core.faithful;
  same = core.same;
  once = core.once;
  uses = core.uses;
  apart = core.apart;
  entries = good;
  txs = core.txs;
  givens = core.givens;
}

-- transactions
pub found : (n : ℕ) (txs : List Transaction) (tx : Transaction) → find n txs ≡ Some tx → Among tx txs × (tx.number ≡ n)
found n [] tx e = absurd (none-some tx e)
found n (t ∷ txs) tx e = let ih = found n txs tx in grind (arith, nat_tests)

-- what stands after one was replaced
pub in_replaced : (tx' : Transaction) (txs : List Transaction) (t : Transaction) → Among t (replaced tx' txs) → (t ≡ tx') ⊎ Among t txs
in_replaced tx' [] t a = absurd a
in_replaced tx' (x ∷ txs) t a = let ih = in_replaced tx' txs t in grind (arith, nat_tests)

pub numbers_replaced : (tx' : Transaction) (txs : List Transaction) → numbers (replaced tx' txs) ≡ numbers txs
numbers_replaced tx' [] = refl
numbers_replaced tx' (x ∷ txs) = let ih = numbers_replaced tx' txs in grind (arith, nat_tests)

-- an element's number is among the numbers of the list
pub among_by : {X : Type 0} (f : X → ℕ) (x : X) (xs : List X) → Among x xs → among (f x) (map f xs) ≡ true
among_by f x [] a = absurd a
among_by f x (y ∷ xs) a = ⊎_elim (λ is. or_left _ _ (eq-eqb (f x) (f y) (ap f is))) (λ b. or_right _ _ (among_by f x xs b)) a

-- a number is that of one transaction
pub only_one : (n : ℕ) (txs : List Transaction) (tx t : Transaction) → distinct (numbers txs) ≡ true → find n txs ≡ Some tx → Among t txs → t.number ≡ n → t ≡ tx
only_one n [] tx t d e a is = absurd a
only_one n (x ∷ txs) tx t d e a is = let ih = only_one n txs tx t in let own = among_by (λ (y : Transaction). y.number) t txs in grind (arith, nat_tests)

-- a call that writes nothing, and gives nothing or what is right
pub stack_skip : (p : Rules) (o : Origin) (h : List Event) (e : Event) (db : Db) (frames : List Frame) → is_write e.reply ≡ false → Stack p o h db frames → Stack p o (e ∷ h) db frames
stack_skip p o h e db frames w stack i g is = claim_skip o h e db g.part _ w (stack i g is)

right_skip : (p : Rules) (o : Origin) (h : List Event) (e : Event) (m : ℕ) (q : Question) (r : Reading) → is_write e.reply ≡ false → Right p (records_at o h m) q r → Right p (records_at o (e ∷ h) m) q r
right_skip p o h e m q r w x = subst (λ s. Right p s q r) (sym (records_skip o h e m w)) x

-- what an event gives is right for the transaction
abbrev pub GivesRight : Rules → Origin → List Event → Event → ℕ → List Transaction → Type 0
GivesRight p o h e next txs = (given : Given) → e.given ≡ Some given → (given.number < next)
    × ((tx : Transaction) → Among tx txs → given.number ≡ tx.number → (tx.present ≡ true → (z : Records) → Right p z given.question given.reading) × ((m : ℕ) → among m tx.set ≡ true → Right p (records_at o h m) given.question given.reading))

tx_append : (p : Rules) (o : Origin) (h : List Event) (e : Event) (db : Db) (pins : List Pin) (next : ℕ) (txs : List Transaction) (tx : Transaction) → is_write e.reply ≡ false → GivesRight p o h e next txs → Among tx txs → TxGood p o h db pins next tx → TxGood p o (e ∷ h) db pins next tx
tx_append p o h e db pins next txs tx w gives in-it good = record {
  younger = good.younger;
  holds = good.holds;
  pinned = good.pinned;
  some = good.some;
  whole = good.whole;
  free = λ pr given g is. ⊎_elim (λ now. ((gives given now).1 tx in-it is).0 pr) (λ old. good.free pr given old is) g;
  inside = good.inside;
  stack = stack_skip p o h e db tx.frames w good.stack;
  sheets = good.sheets;
  right = λ given g is m a. right_skip p o h e m given.question given.reading w (⊎_elim (λ now. ((gives given now).1 tx in-it is).1 m a) (λ old. good.right given old is m a) g);
}

pub core_append : (p : Rules) (o : Origin) (h : List Event) (e : Event) (hall : Hall) → is_write e.reply ≡ false → GivesRight p o h e hall.books.next hall.books.txs → Core p o h hall → Core p o (e ∷ h) hall
core_append p o h e hall w gives core = record {
  latest = core.latest ∙ sym (latest_skip o h e w);
  past = core.past;
  stream = core.stream ∙ ap (filter (λ row. ltb hall.books.delivered row.moment)) (sym (rows_skip o h e w));
  sound = core.sound;
  faithful = λ m t k hd. core.faithful m t k hd ∙ ap (λ (s : Records). s t k) (sym (records_skip o h e m w));
  same = core.same;
  once = core.once;
  uses = core.uses;
  apart = core.apart;
  entries = λ x a. claim_skip o h e hall.db _ _ w (core.entries x a);
  txs = λ tx a. tx_append p o h e hall.db hall.books.pins hall.books.next hall.books.txs tx w gives a (core.txs tx a);
  givens = λ given g. ⊎_elim (λ now. (gives given now).0) (λ old. core.givens given old) g;
}

pub gives_nothing : (p : Rules) (o : Origin) (h : List Event) (e : Event) (next : ℕ) (txs : List Transaction) → e.given ≡ None → GivesRight p o h e next txs
gives_nothing p o h e next txs none given is = absurd (none-some given (sym none ∙ is))

-- database, pins and transactions change, the latest moment stays, and no more is held than before
tx_change : (p : Rules) (o : Origin) (h : List Event) (db db' : Db) (pins pins' : List Pin) (next : ℕ) (tx : Transaction) → db'.latest ≡ db.latest → ((m : ℕ) → held db' m ≡ true → held db m ≡ true)
    → ((m : ℕ) → among m tx.holds ≡ true → among m (moments pins') ≡ true) → TxGood p o h db pins next tx → TxGood p o h db' pins' next tx
tx_change p o h db db' pins pins' next tx same fewer keep good = record {
  younger = good.younger;
  holds = good.holds;
  pinned = keep;
  some = good.some;
  whole = good.whole;
  free = good.free;
  inside = good.inside;
  stack = λ i g is. claim_held o h db db' g.part _ same fewer (good.stack i g is);
  sheets = good.sheets;
  right = good.right;
}

pub core_change : (p : Rules) (o : Origin) (h : List Event) (hall : Hall) (db' : Db) (pins' : List Pin) (txs' : List Transaction) → Core p o h hall
    → db'.latest ≡ hall.db.latest → ((m : ℕ) → held db' m ≡ true → held hall.db m ≡ true) → Sound db'
    → ((m t k : ℕ) → held db' m ≡ true → db'.at m t k ≡ hall.db.at m t k)
    → ((m : ℕ) → among m db'.pins ≡ among m (moments pins')) → distinct (moments pins') ≡ true
    → ((pin : Pin) → Among pin pins' → pin.uses ≡ holders pin.moment txs') → distinct (numbers txs') ≡ true
    → ((t : Transaction) → Among t hall.books.txs → (m : ℕ) → among m t.holds ≡ true → Among t txs' → among m (moments pins') ≡ true)
    → ((t : Transaction) → Among t txs' → TxGood p o h db' pins' hall.books.next t ⊎ Among t hall.books.txs)
    → Core p o h (record { db = db'; entries = hall.entries; books = with_transactions pins' txs' hall.books })
core_change p o h hall db' pins' txs' core same fewer sound states pins once uses apart keep in-it = record {
  latest = same ∙ core.latest;
  past = let x = core.past in omega arith;
  stream = core.stream;
  sound = sound;
  faithful = λ m t k hd. states m t k hd ∙ core.faithful m t k (fewer m hd);
  same = pins;
  once = once;
  uses = uses;
  apart = apart;
  entries = λ x a. claim_held o h hall.db db' _ _ same fewer (core.entries x a);
  txs = λ t a. ⊎_elim (λ good. good) (λ old. tx_change p o h hall.db db' hall.books.pins pins' hall.books.next t same fewer (λ m b. keep t old m b a) (core.txs t old)) (in-it t a);
  givens = core.givens;
}

-- how many hold a pin
abbrev pub bit : ℕ → Transaction → ℕ
bit m tx = cond (among m tx.holds) 1 0

pub holders_cons : (m : ℕ) (tx : Transaction) (txs : List Transaction) → holders m (tx ∷ txs) ≡ bit m tx + holders m txs
holders_cons m tx txs = grind (arith, nat_tests)

pub holders_replaced : (m : ℕ) (tx tx' : Transaction) (txs : List Transaction) → find tx'.number txs ≡ Some tx → holders m (replaced tx' txs) + bit m tx ≡ holders m txs + bit m tx'
holders_replaced m tx tx' [] e = absurd (none-some tx e)
holders_replaced m tx tx' (x ∷ txs) e = let ih = holders_replaced m tx tx' txs in grind (arith, nat_tests)

pub holders_removed : (m n : ℕ) (tx : Transaction) (txs : List Transaction) → find n txs ≡ Some tx → holders m (removed n txs) + bit m tx ≡ holders m txs
holders_removed m n tx [] e = absurd (none-some tx e)
holders_removed m n tx (x ∷ txs) e = let ih = holders_removed m n tx txs in grind (arith, nat_tests)

-- one transaction changes, and holds what it held
pub core_tx : (p : Rules) (o : Origin) (h : List Event) (hall : Hall) (tx tx' : Transaction) → Core p o h hall → find tx'.number hall.books.txs ≡ Some tx → tx'.holds ≡ tx.holds
    → TxGood p o h hall.db hall.books.pins hall.books.next tx'
    → Core p o h (record { db = hall.db; entries = hall.entries; books = with_tx tx' hall.books.pins hall.books })
core_tx p o h hall tx tx' core is same good =
    core_change p o h hall hall.db hall.books.pins (replaced tx' hall.books.txs) core refl (λ m x. x) core.sound (λ m t k x. refl) core.same core.once
    (λ pin a. let u = core.uses pin a in let r = holders_replaced pin.moment tx tx' hall.books.txs is in let b : bit pin.moment tx' ≡ bit pin.moment tx = ap (λ (xs : List ℕ). cond {A = ℕ} (among pin.moment xs) 1 0) same in omega arith)
    (ap distinct (numbers_replaced tx' hall.books.txs) ∙ core.apart)
    (λ t a m b c. (core.txs t a).pinned m b)
    (λ t a. ⊎_elim (λ e. inl (subst (TxGood p o h hall.db hall.books.pins hall.books.next) (sym e) good)) inr (in_replaced tx' hall.books.txs t a))
