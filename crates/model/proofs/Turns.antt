-- Begin, end, write, deliver and sweep keep what is carried.
use Rattle.std.proofs.Common.{◌≡◌, ℕ, ◌+◌, ◌<◌, ◌≤◌, Bool, true, false, cond, not, ◌&&◌, ◌||◌, eqb, ltb, List, [], ◌∷◌, ◌++◌, map, Some, None, filter, Option, sym, refl, ap, ◌∙◌, subst, inl, inr, ⊎_elim, arith}
use Rattle.std.proofs.lemmas.Option.{none-some}
use Rattle.std.proofs.lemmas.Bool.Decides.{nat_tests}
use Rattle.std.proofs.lemmas.Bool.{cases_Bool, both_ways, cond-true, cond-false, ltb-true, lt-ltb, and_from, and_parts, or_cases, or_right, or_left, or_from, eqb-true, eq-eqb, ne_eqb, not_from_false}
use Rattle.database.specs.Lists.{among, distinct, without}
use Rattle.database.specs.States.{Records}
use Rattle.cache.specs.Lists.{Among}
use Rattle.recipe.specs.Recipes.{Rules, Gives}
use Rattle.model.specs.Books.{Pin, Transaction, Row, Hall, moments, find, removed, with_transactions}
use Rattle.model.specs.Traces.{Origin, Event, is_write, latest_of, records_at, rows_of}
use Rattle.model.specs.Law.{Right, numbers, holders}
use Rattle.model.proofs.Claims.{Claim}
use Rattle.std.proofs.lemmas.List.Elements.{filter-append}
use Rattle.terms.specs.declared.record.Change.{Change}
use Rattle.terms.specs.declared.record.Value.{Value}
use Rattle.terms.specs.Records.{is_id, change_id, change_value, change_tag}
use Rattle.database.specs.Writes.{put, changed}
use Rattle.database.specs.Databases.{Db, held, Sound, Written}
use Rattle.database.proofs.Sets.{among_none, distinct_without}
use Rattle.cache.specs.declared.entry.Entry.{Entry}
use Rattle.cache.specs.Calls.{Drops}
use Rattle.cache.specs.Entries.{closed, closes}
use Rattle.cache.proofs.Members.{among_mapped, kept_among}
use Rattle.cache.proofs.Members as members
use Rattle.model.specs.Rules.{is_fresh}
use Rattle.model.specs.Calls.{gained, begun, after_begin, lost, after_end, rows_of_write, with_stream, is_of, ClosesAll, UnpinsEach, is_old}
use Rattle.model.specs.Calls as calls
use Rattle.model.proofs.Moves.{claim_write, records_before, records_new, rows_new}
use Rattle.model.proofs.Parts.{held_past, entry_part, closed_all, comes_to_closed, deliver_claim}
use Rattle.model.proofs.Cores.{among_by, EntryGood, TxGood, Core, core_entries, core_append, core_change, gives_nothing, found, holders_cons, holders_removed, bit}
use Rattle.model.proofs.Steps.{set_held}
use Rattle.model.proofs.Choosing.{moments_map, holders_some}

-- begin
gained_moment : (now limit : ℕ) (pin : Pin) → (gained now limit pin).moment ≡ pin.moment
gained_moment now limit pin = grind (arith, nat_tests)

-- the moments of some pins, each pin having a moment of its own
some_moments : (f : Pin → Bool) (pins : List Pin) (m : ℕ) → among m (moments (filter f pins)) ≡ true → among m (moments pins) ≡ true
some_moments f [] m a = a
some_moments f (pin ∷ pins) m a = let ih = some_moments f pins m in grind (arith, nat_tests)

kept_moments : (f : Pin → Bool) (pins : List Pin) (pin : Pin) → distinct (moments pins) ≡ true → Among pin pins → among pin.moment (moments (filter f pins)) ≡ f pin
kept_moments f [] pin d a = absurd a
kept_moments f (x ∷ pins) pin d a =
    let ih = kept_moments f pins pin in let some = some_moments f pins x.moment in let own = among_by (λ (y : Pin). y.moment) pin pins in grind (arith, nat_tests)

distinct_some : (f : Pin → Bool) (pins : List Pin) → distinct (moments pins) ≡ true → distinct (moments (filter f pins)) ≡ true
distinct_some f [] d = refl
distinct_some f (x ∷ pins) d = let ih = distinct_some f pins in let some = some_moments f pins x.moment in grind (arith, nat_tests)

young_numbers : (next : ℕ) (txs : List Transaction) → ((t : Transaction) → Among t txs → t.number < next) → among next (numbers txs) ≡ false
young_numbers next [] all = refl
young_numbers next (t ∷ txs) all = let l = all t (inl refl) in or_from _ _ (ne_eqb next t.number (λ e. omega arith)) (young_numbers next txs (λ u a. all u (inr a)))

older : (p : Rules) (o : Origin) (h : List Event) (db : Db) (pins pins' : List Pin) (next : ℕ) (tx : Transaction) → moments pins' ≡ moments pins → TxGood p o h db pins next tx → TxGood p o h db pins' (next + 1) tx
older p o h db pins pins' next tx same good = record {
  younger = let y = good.younger in omega arith;
  holds = good.holds;
  pinned = λ m a. ap (among m) same ∙ good.pinned m a;
  some = good.some;
  whole = good.whole;
  free = good.free;
  inside = good.inside;
  stack = good.stack;
  sheets = good.sheets;
  right = good.right;
}

pub begin_core : (p : Rules) (o : Origin) (h : List Event) (now limit : ℕ) (hall : Hall) (e : Event) → Core p o h hall → is_write e.reply ≡ false → e.given ≡ None → Core p o (e ∷ h) (record { db = hall.db; entries = hall.entries; books = after_begin now limit hall.books })
begin_core p o h now limit hall e core w none =
    let books = hall.books in
    let pins = books.pins in
    let same = moments_map (gained now limit) pins (gained_moment now limit) in
    let new = begun now limit books in
    let hall' : Hall = record { db = hall.db; entries = hall.entries; books = after_begin now limit books } in
    let core' : Core p o h hall' = record {
      latest = core.latest;
      past = core.past;
      stream = core.stream;
      sound = core.sound;
      faithful = core.faithful;
      same = λ m. core.same m ∙ ap (among m) (sym same);
      once = ap distinct same ∙ core.once;
      uses = λ pin a.
          let was = among_mapped (gained now limit) pin pins a in
          let x = was.0 in
          let u = core.uses x was.1 in
          let c = holders_cons x.moment new books.txs in
          let in-new = kept_moments (is_fresh now limit) pins x core.once was.1 in
          subst (λ (y : Pin). y.uses ≡ holders y.moment (new ∷ books.txs)) (sym was.2)
          (⊎_elim
          (λ (f : is_fresh now limit x ≡ true). subst (λ (y : Pin). y.uses ≡ holders y.moment (new ∷ books.txs)) (sym (cond-true (is_fresh now limit x) _ _ f))
          (let b : bit x.moment new ≡ 1 = cond-true (among x.moment new.holds) 1 0 (in-new ∙ f) in omega arith))
          (λ (f : is_fresh now limit x ≡ false). subst (λ (y : Pin). y.uses ≡ holders y.moment (new ∷ books.txs)) (sym (cond-false (is_fresh now limit x) _ _ f))
          (let b : bit x.moment new ≡ 0 = cond-false (among x.moment new.holds) 1 0 (in-new ∙ f) in omega arith))
          (cases_Bool (is_fresh now limit x)));
      apart = and_from _ _ (not_from_false _ (young_numbers books.next books.txs (λ t a. (core.txs t a).younger))) core.apart;
      entries = core.entries;
      txs = λ t a. ⊎_elim
          (λ top. subst (TxGood p o h hall.db (map (gained now limit) pins) (books.next + 1)) (sym top)
          (record {
            younger = omega arith;
            holds = λ m b. b;
            pinned = λ m b. ap (among m) same ∙ some_moments (is_fresh now limit) pins m b;
            some = λ pr. absurd (both_ways true pr refl);
            whole = λ pr i g x. absurd (none-some g x);
            free = λ pr given g is. let y = core.givens given g in absurd (omega arith);
            inside = λ m b i g x. absurd (none-some g x);
            stack = λ i g x. absurd (none-some g x);
            sheets = λ i g x. absurd (none-some g x);
            right = λ given g is. let y = core.givens given g in absurd (omega arith);
          }))
          (λ old. older p o h hall.db pins (map (gained now limit) pins) books.next t same (core.txs t old)) a;
      givens = λ given g. let y = core.givens given g in omega arith;
    } in
    core_append p o h e hall' w (gives_nothing p o h e (books.next + 1) (new ∷ books.txs) none) core'

-- commit and abort
pub in_removed : (n : ℕ) (txs : List Transaction) (t : Transaction) → Among t (removed n txs) → Among t txs
in_removed n [] t a = a
in_removed n (x ∷ txs) t a = let ih = in_removed n txs t in grind (arith, nat_tests)

pub numbers_removed : (n : ℕ) (txs : List Transaction) → distinct (numbers txs) ≡ true → numbers (removed n txs) ≡ without n (numbers txs)
numbers_removed n [] d = refl
numbers_removed n (x ∷ txs) d = let ih = numbers_removed n txs in let none = among_none n (numbers txs) in grind (arith, nat_tests)

lost_moment : (ms : List ℕ) (pin : Pin) → (lost ms pin).moment ≡ pin.moment
lost_moment ms pin = grind (arith, nat_tests)

pub end_core : (p : Rules) (o : Origin) (h : List Event) (number : ℕ) (hall : Hall) (tx : Transaction) (e : Event) → Core p o h hall → find number hall.books.txs ≡ Some tx → is_write e.reply ≡ false → e.given ≡ None
    → Core p o (e ∷ h) (record { db = hall.db; entries = hall.entries; books = after_end tx hall.books })
end_core p o h number hall tx e core is w none =
    let books = hall.books in
    let pins = books.pins in
    let at : find tx.number books.txs ≡ Some tx = ap (λ k. find k books.txs) (found number books.txs tx is).1 ∙ is in
    let same = moments_map (lost tx.holds) pins (lost_moment tx.holds) in
    let core' = core_change p o h hall hall.db (map (lost tx.holds) pins) (removed tx.number books.txs) core refl (λ m x. x) core.sound (λ m t k x. refl)
    (λ m. core.same m ∙ ap (among m) (sym same)) (ap distinct same ∙ core.once)
    (λ pin a.
    let was = among_mapped (lost tx.holds) pin pins a in
    let x = was.0 in
    let u = core.uses x was.1 in
    let c = holders_removed x.moment tx.number tx books.txs at in
    subst (λ (y : Pin). y.uses ≡ holders y.moment (removed tx.number books.txs)) (sym was.2)
    (⊎_elim
    (λ (f : among x.moment tx.holds ≡ true). subst (λ (y : Pin). y.uses ≡ holders y.moment (removed tx.number books.txs)) (sym (cond-true (among x.moment tx.holds) _ _ f))
    (let b : bit x.moment tx ≡ 1 = cond-true (among x.moment tx.holds) 1 0 f in omega arith))
    (λ (f : among x.moment tx.holds ≡ false). subst (λ (y : Pin). y.uses ≡ holders y.moment (removed tx.number books.txs)) (sym (cond-false (among x.moment tx.holds) _ _ f))
    (let b : bit x.moment tx ≡ 0 = cond-false (among x.moment tx.holds) 1 0 f in omega arith))
    (cases_Bool (among x.moment tx.holds))))
    (ap distinct (numbers_removed tx.number books.txs core.apart) ∙ distinct_without tx.number (numbers books.txs) core.apart)
    (λ t a m b c. ap (among m) same ∙ (core.txs t a).pinned m b)
    (λ t a. inr (in_removed tx.number books.txs t a)) in
    core_append p o h e (record { db = hall.db; entries = hall.entries; books = after_end tx books }) w (gives_nothing p o h e books.next (removed tx.number books.txs) none) core'

-- a write
changed_same : (cs : List Change) (one other : Records) → ((t k : ℕ) → one t k ≡ other t k) → (t k : ℕ) → changed cs one t k ≡ changed cs other t k
changed_same [] one other same t k = same t k
changed_same (c ∷ cs) one other same t k =
    changed_same cs (put c one) (put c other) (λ t k. ap (λ (v : Option Value). cond (is_id (change_id c) (record { table = t; key = k })) (change_value c) v) (same t k)) t k

new_rows : (T n : ℕ) (cs : List Change) → T < n → filter (λ row. ltb T row.moment) (rows_of_write n cs) ≡ rows_of_write n cs
new_rows T n [] l = refl
new_rows T n (c ∷ cs) l = rw (lt-ltb T n l) (ap (λ rows. record { moment = n; tag = change_tag c } ∷ rows) (new_rows T n cs l))

pub write_core : (p : Rules) (o : Origin) (h : List Event) (e : Event) (moment : ℕ) (hall : Hall) (db : Db) → Core p o h hall → Sound db → is_write e.reply ≡ true → e.given ≡ None → Written hall.db e.changes moment db
    → Core p o (e ∷ h) (record { db = db; entries = hall.entries; books = with_stream hall.books.delivered (hall.books.rows ++ rows_of_write moment e.changes) hall.books })
write_core p o h e moment hall db core sound w none wrote =
    let T = hall.books.delivered in
    let L = hall.db.latest in
    let top : moment ≡ latest_of o h + 1 = wrote.answer ∙ wrote.latest ∙ ap (λ n. n + 1) core.latest in
    record {
      latest = wrote.latest ∙ ap (λ n. n + 1) core.latest ∙ sym (cond-true (is_write e.reply) _ _ w);
      past = let x = core.past in let y = wrote.latest in omega arith;
      stream = ap (λ rows. rows ++ rows_of_write moment e.changes) core.stream
          ∙ ap (λ rows. filter (λ row. ltb T row.moment) (rows_of o h) ++ rows) (ap (λ n. rows_of_write n e.changes) top ∙ sym (new_rows T (latest_of o h + 1) e.changes (let x = core.past in let y = core.latest in omega arith)))
          ∙ sym (filter-append (λ row. ltb T row.moment) (rows_of o h) (rows_of_write (latest_of o h + 1) e.changes)) ∙ ap (filter (λ row. ltb T row.moment)) (sym (rows_new o h e w));
      sound = sound;
      faithful = λ m t k hd. ⊎_elim
          (λ is. let at : m ≡ L + 1 = eqb-true m db.latest is ∙ wrote.latest in
          ap (λ n. db.at n t k) (eqb-true m db.latest is) ∙ wrote.newest t k
          ∙ changed_same e.changes (hall.db.at L) (records_at o h (latest_of o h)) (λ t k. core.faithful L t k (or_left _ _ (eq-eqb L L refl)) ∙ ap (λ n. records_at o h n t k) core.latest) t k
          ∙ ap (λ (s : Records). s t k) (sym (records_new o h e w)) ∙ ap (λ n. records_at o (e ∷ h) n t k) (sym (at ∙ ap (λ n. n + 1) core.latest)))
          (λ pin. let old = sym (wrote.pins m) ∙ pin in
          wrote.states m t k old ∙ core.faithful m t k (or_right _ _ old)
          ∙ ap (λ (s : Records). s t k) (sym (records_before o h e m (let x = core.sound.past m old in let y = core.latest in omega arith))))
          (or_cases _ _ hd);
      same = λ m. wrote.pins m ∙ core.same m;
      once = core.once;
      uses = core.uses;
      apart = core.apart;
      entries = λ x a. claim_write o h e hall.db db moment (entry_part T x) _ w core.latest core.sound wrote (core.entries x a);
      txs = λ t a. let good = core.txs t a in record {
        younger = good.younger;
        holds = good.holds;
        pinned = good.pinned;
        some = good.some;
        whole = good.whole;
        free = λ pr given g is. ⊎_elim (λ now. absurd (none-some given (sym none ∙ now))) (λ old. good.free pr given old is) g;
        inside = good.inside;
        stack = λ i g is. claim_write o h e hall.db db moment g.part _ w core.latest core.sound wrote (good.stack i g is);
        sheets = good.sheets;
        right = λ given g is m b. ⊎_elim (λ now. absurd (none-some given (sym none ∙ now)))
            (λ old. subst (λ s. Right p s given.question given.reading) (sym (records_before o h e m (let x = held_past hall.db m core.sound (set_held p o h hall t m core good b) in let y = core.latest in omega arith))) (good.right given old is m b)) g;
      };
      givens = λ given g. ⊎_elim (λ now. absurd (none-some given (sym none ∙ now))) (λ old. core.givens given old) g;
    }

-- a delivery
rows_past : (o : Origin) (h : List Event) (row : Row) → Among row (rows_of o h) → row.moment ≤ latest_of o h
rows_past o [] row a = absurd a
rows_past o (e ∷ h) row a =
    ⊎_elim
    (λ (w : is_write e.reply ≡ true).
    let top : latest_of o (e ∷ h) ≡ latest_of o h + 1 = cond-true (is_write e.reply) _ _ w in
    ⊎_elim (λ old. let l = rows_past o h row old in omega arith)
    (λ new. let was = among_mapped (λ (c : Change). record { moment = latest_of o h + 1; tag = change_tag c }) row e.changes new in let m = ap (λ (r : Row). r.moment) was.2 in omega arith)
    (members.among_append row (rows_of o h) (rows_of_write (latest_of o h + 1) e.changes) (subst (Among row) (rows_new o h e w) a)))
    (λ (w : is_write e.reply ≡ false).
    let same : latest_of o (e ∷ h) ≡ latest_of o h = cond-false (is_write e.reply) _ _ w in
    let l = rows_past o h row (subst (Among row) (cond-false (is_write e.reply) _ _ w) a) in omega arith)
    (cases_Bool (is_write e.reply))

later_rows : (T : ℕ) (rows : List Row) → filter (λ row. not (is_of (T + 1) row)) (filter (λ row. ltb T row.moment) rows) ≡ filter (λ row. ltb (T + 1) row.moment) rows
later_rows T [] = refl
later_rows T (row ∷ rows) = let ih = later_rows T rows in grind (arith, nat_tests)

closes_each : (n : ℕ) (rows : List Row) (before after : List Entry) → ClosesAll n rows before after → (e : Entry) → Among e after → (was : Entry) × Among was before × (e ≡ closed_all rows n was)
closes_each n rows before after (calls.ClosesAll.none b) e a = (e, a, refl)
closes_each n rows before after (calls.ClosesAll.more row rest b between c one all) e a =
    let mid = closes_each n rest between c all e a in
    let first = one.only mid.0 mid.1 in
    (first.0, first.1, mid.2 ∙ ap (closed_all rest n) first.2)

closed_all_key : (rows : List Row) (n : ℕ) (e : Entry) → ((closed_all rows n e).key ≡ e.key) × ((closed_all rows n e).reading ≡ e.reading)
closed_all_key [] n e = (refl, refl)
closed_all_key (row ∷ rows) n e =
    let rest = closed_all_key rows n (closed row.tag n e) in
    let one : ((closed row.tag n e).key ≡ e.key) × ((closed row.tag n e).reading ≡ e.reading) =
    ⊎_elim (λ (c : closes row.tag n e ≡ true). rw c (refl, refl)) (λ (c : closes row.tag n e ≡ false). rw c (refl, refl)) (cases_Bool (closes row.tag n e)) in
    (rest.0 ∙ one.0, rest.1 ∙ one.1)

pub deliver_core : (p : Rules) (o : Origin) (h : List Event) (e : Event) (hall : Hall) (row : Row) (rows : List Row) (entries : List Entry) → Core p o h hall → is_write e.reply ≡ false → e.given ≡ None
    → hall.books.rows ≡ row ∷ rows
    → ClosesAll (hall.books.delivered + 1) (filter (is_of (hall.books.delivered + 1)) hall.books.rows) hall.entries entries
    → Core p o (e ∷ h) (record { db = hall.db; entries = entries; books = with_stream (hall.books.delivered + 1) (filter (λ other. not (is_of (hall.books.delivered + 1) other)) hall.books.rows) hall.books })
deliver_core p o h e hall row rows entries core w none first closes =
    let books = hall.books in
    let T = books.delivered in
    let in_rows : Among row (filter (λ row. ltb T row.moment) (rows_of o h)) = subst (Among row) core.stream (subst (Among row) (sym first) (inl refl)) in
    let parts = kept_among (λ row. ltb T row.moment) row (rows_of o h) in_rows in
    let over = ltb-true T row.moment parts.1 in
    let under = rows_past o h row parts.0 in
    let late : T + 1 ≤ hall.db.latest = let y = core.latest in omega arith in
    let all : (r : Row) → Among r (rows_of o h) → r.moment ≡ T + 1 → Among r (filter (is_of (T + 1)) books.rows) =
    λ r a is. members.among_kept (is_of (T + 1)) r books.rows (subst (Among r) (sym core.stream) (members.among_kept (λ row. ltb T row.moment) r (rows_of o h) a (lt-ltb T r.moment (omega arith)))) (eq-eqb r.moment (T + 1) is) in
    let hall' : Hall = record { db = hall.db; entries = entries; books = with_stream (T + 1) (filter (λ other. not (is_of (T + 1) other)) books.rows) books } in
    let core' : Core p o h hall' = record {
      latest = core.latest;
      past = late;
      stream = ap (filter (λ other. not (is_of (T + 1) other))) core.stream ∙ later_rows T (rows_of o h);
      sound = core.sound;
      faithful = core.faithful;
      same = core.same;
      once = core.once;
      uses = core.uses;
      apart = core.apart;
      entries = λ x a.
          let was = closes_each (T + 1) (filter (is_of (T + 1)) books.rows) hall.entries entries closes x a in
          let key = closed_all_key (filter (is_of (T + 1)) books.rows) (T + 1) was.0 in
          let claim = deliver_claim o h hall.db T (filter (is_of (T + 1)) books.rows) was.0 (closed_all (filter (is_of (T + 1)) books.rows) (T + 1) was.0) (λ z. Gives p z was.0.key.sheet was.0.key.argument was.0.reading) late core.sound.moments all (comes_to_closed (filter (is_of (T + 1)) books.rows) (T + 1) was.0) (core.entries was.0 was.1) in
          subst (EntryGood p o h hall.db (T + 1)) (sym was.2)
          (subst (λ k. Claim o h hall.db (entry_part (T + 1) (closed_all (filter (is_of (T + 1)) books.rows) (T + 1) was.0)) (λ z. Gives p z k.sheet k.argument (closed_all (filter (is_of (T + 1)) books.rows) (T + 1) was.0).reading)) (sym key.0)
          (subst (λ r. Claim o h hall.db (entry_part (T + 1) (closed_all (filter (is_of (T + 1)) books.rows) (T + 1) was.0)) (λ z. Gives p z was.0.key.sheet was.0.key.argument r)) (sym key.1) claim));
      txs = core.txs;
      givens = core.givens;
    } in
    core_append p o h e hall' w (gives_nothing p o h e books.next books.txs none) core'

-- a sweep
pub record Gone (ms : List ℕ) (db after : Db) : Type 0 where
  pub latest : after.latest ≡ db.latest
  pub pins : (n : ℕ) → among n after.pins ≡ (among n db.pins && not (among n ms))
  pub states : (n t k : ℕ) → held after n ≡ true → after.at n t k ≡ db.at n t k

both : (a b c : Bool) → ((a && not b) && not c) ≡ (a && not (b || c))
both a b c = grind arith

gone : (ms : List ℕ) (db after : Db) → UnpinsEach ms db after → Gone ms db after
gone ms db after (calls.UnpinsEach.none d) = record { latest = refl; pins = λ n. grind arith; states = λ n t k hd. refl }
gone ms db after (calls.UnpinsEach.more m rest d between a one all) =
    let ih = gone rest between a all in
    record {
      latest = ih.latest ∙ one.latest;
      pins = λ n. let x = ih.pins n in let y = one.pins n in x ∙ ap (λ b. b && not (among n rest)) y ∙ both (among n d.pins) (eqb n m) (among n rest);
      states = λ n t k hd. ih.states n t k hd ∙ one.states n t k (⊎_elim (λ e. or_left _ _ (eq-eqb n between.latest (eqb-true n a.latest e ∙ ih.latest))) (λ p. or_right (eqb n between.latest) (among n between.pins) (and_parts (among n between.pins) (not (among n rest)) (sym (ih.pins n) ∙ p)).0) (or_cases _ _ hd));
    }

old_unused : (now age : ℕ) (pin : Pin) → is_old now age pin ≡ true → pin.uses ≡ 0
old_unused now age pin e = eqb-true pin.uses 0 (and_parts _ _ e).0

-- the pin of a moment
pin_among : (m : ℕ) (pins : List Pin) → among m (moments pins) ≡ true → (pin : Pin) × Among pin pins × (pin.moment ≡ m)
pin_among m [] a = absurd (both_ways false refl a)
pin_among m (x ∷ pins) a = ⊎_elim (λ e. (x, inl refl, sym (eqb-true m x.moment e))) (λ b. let w = pin_among m pins b in (w.0, inr w.1, w.2)) (or_cases _ _ a)

split_moments : (f : Pin → Bool) (pins : List Pin) (m : ℕ) → distinct (moments pins) ≡ true → (among m (moments pins) && not (among m (moments (filter f pins)))) ≡ among m (moments (filter (λ pin. not (f pin)) pins))
split_moments f pins m d =
    let w = pin_among m pins in
    let some = some_moments (λ pin. not (f pin)) pins m in
    let had = some_moments f pins m in
    let kept = λ (pin : Pin). kept_moments f pins pin d in
    let rest = λ (pin : Pin). kept_moments (λ pin. not (f pin)) pins pin d in
    grind (arith, nat_tests)

pub sweep_core : (p : Rules) (o : Origin) (h : List Event) (e : Event) (now age : ℕ) (hall : Hall) (db : Db) (entries : List Entry) (lowest : ℕ) → Core p o h hall → Sound db → is_write e.reply ≡ false → e.given ≡ None
    → UnpinsEach (moments (filter (is_old now age) hall.books.pins)) hall.db db
    → Drops hall.entries lowest entries
    → Core p o (e ∷ h) (record { db = db; entries = entries; books = with_transactions (filter (λ pin. not (is_old now age pin)) hall.books.pins) hall.books.txs hall.books })
sweep_core p o h e now age hall db entries lowest core sound w none unpins drops =
    let books = hall.books in
    let pins = books.pins in
    let went = gone (moments (filter (is_old now age) pins)) hall.db db unpins in
    let pins' = filter (λ pin. not (is_old now age pin)) pins in
    let fewer : (n : ℕ) → held db n ≡ true → held hall.db n ≡ true =
    λ n hd. ⊎_elim (λ x. or_left _ _ (eq-eqb n hall.db.latest (eqb-true n db.latest x ∙ went.latest))) (λ x. or_right (eqb n hall.db.latest) (among n hall.db.pins) (and_parts (among n hall.db.pins) (not (among n (moments (filter (is_old now age) pins)))) (sym (went.pins n) ∙ x)).0) (or_cases _ _ hd) in
    let core₁ = core_change p o h hall db pins' books.txs core went.latest fewer sound went.states
    (λ n. went.pins n ∙ ap (λ b. b && not (among n (moments (filter (is_old now age) pins)))) (core.same n) ∙ split_moments (is_old now age) pins n core.once)
    (distinct_some (λ pin. not (is_old now age pin)) pins core.once)
    (λ pin a. core.uses pin (kept_among (λ pin. not (is_old now age pin)) pin pins a).0)
    core.apart
    (λ t a m b c.
    let x = pin_among m pins ((core.txs t a).pinned m b) in
    let u = core.uses x.0 x.1 in
    let some = holders_some m t books.txs a b in
    let young : is_old now age x.0 ≡ false =
    ⊎_elim (λ (y : is_old now age x.0 ≡ true). let z = old_unused now age x.0 y in let v = ap (λ k. holders k books.txs) x.2 in absurd (omega arith)) (λ (y : is_old now age x.0 ≡ false). y) (cases_Bool (is_old now age x.0)) in
    ap (λ k. among k (moments pins')) (sym x.2) ∙ among_by (λ (y : Pin). y.moment) x.0 pins' (members.among_kept (λ pin. not (is_old now age pin)) x.0 pins x.1 (not_from_false _ young)))
    (λ t a. inr a) in
    let core₂ = core_entries p o h (record { db = db; entries = hall.entries; books = with_transactions pins' books.txs books }) entries core₁ (λ x a. core₁.entries x (drops.only x a).0) in
    core_append p o h e (record { db = db; entries = entries; books = with_transactions pins' books.txs books }) w (gives_nothing p o h e books.next books.txs none) core₂
