-- The working out of a sheet, answer by answer: the runs from here end as those from its start.
use Rattle.std.proofs.Common.{◌≡◌, ℕ, zero, suc, ◌+◌, ◌-◌, ◌<◌, ◌≤◌, true, false, List, [], ◌∷◌, ◌++◌, IsErrAnd, Ok, Err, Result, sym, refl, ap, ◌∙◌, subst, inl, inr, arith}
use Rattle.std.proofs.lemmas.Bool.{both_ways}
use Rattle.terms.specs.declared.record.Query.{Query}
use Rattle.terms.specs.declared.tag.Tag.{Tag}
use Rattle.terms.specs.declared.fault.Fault.{Fault}
use Rattle.terms.specs.declared.fault.Fault.TheVariants.{SheetUnknown, TooDeep}
use Rattle.terms.specs.Records.{Reading, known_table, query_tag}
use Rattle.database.specs.States.{Records, Reads}
use Rattle.database.specs.Databases.{Db, held}
use Rattle.database.proofs.Readings.{reads_one}
use Rattle.recipe.specs.declared.Point.{Point}
use Rattle.recipe.specs.declared.Turn.{Turn}
use Rattle.recipe.specs.declared.Ask.{Ask}
use Rattle.recipe.specs.declared.Ask.TheVariants.{Query as Asked, Call, Done}
use Rattle.recipe.specs.Recipes.{Rules, start, after, table_of, Runs, done, query, call, Ends, GivesWithin}
use Rattle.recipe.specs.Evaluations.{ReadsAt, last_answer, Works, WorksOut, Fails, Evaluates}
use Rattle.recipe.specs.Evaluations as works
use Rattle.recipe.proofs.Runs.{same_end, clash_done, clash_call, clash_query, query_one, call_sheet, call_argument}

after_query : (p : Rules) (s : Records) (e n : ℕ) (q : Point) (r : Reading) (k : Query) (v : Reading) (ts : List Tag) → (p.turn q).ask ≡ Asked k → Reads s k v → Runs p s e (suc n) q r ts → Ends p s e n (after (p.turn q) q v) r
after_query p s e n q r k v ts is reads (done f) = absurd (clash_done is f)
after_query p s e n q r k v ts is reads (query {tags = us} j u f known reads' x) =
    let again : Reads s k u = subst (λ i. Reads s i u) (query_one f is) reads' in
    (us, subst (λ i. Runs p s e n (after (p.turn q) q i) r us) (reads_one k s u v again reads) x)
after_query p s e n q r k v ts is reads (call sh a u f there x y) = absurd (clash_query f is)

after_call : (p : Rules) (s : Records) (e n d : ℕ) (q : Point) (r : Reading) (sh a : ℕ) (v : Reading) (ts : List Tag) → (p.turn q).ask ≡ Call sh a → Ends p s d 32 (start sh a) v → Runs p s e (suc n) q r ts → Ends p s e n (after (p.turn q) q v) r
after_call p s e n d q r sh a v ts is ends (done f) = absurd (clash_call is f)
after_call p s e n d q r sh a v ts is ends (query j u f known reads x) = absurd (clash_query is f)
after_call p s e n d q r sh a v ts is ends (call {depth = c} {tags = us} {inner = ws} th b u f there x y) =
    let moved = subst (λ j. Runs p s c 32 (start sh j) u ws) (call_argument f is) (subst (λ i. Runs p s c 32 (start i b) u ws) (call_sheet f is) x) in
    (us, subst (λ i. Runs p s e n (after (p.turn q) q i) r us) (same_end moved ends.1) y)

-- a table that is not there has no run
no_table : (p : Rules) (s : Records) (e n : ℕ) (q : Point) (r : Reading) (k : Query) (ts : List Tag) → (p.turn q).ask ≡ Asked k → known_table (table_of k) ≡ false → Runs p s e (suc n) q r ts → ⊥
no_table p s e n q r k ts is out (done f) = clash_done is f
no_table p s e n q r k ts is out (query j u f known reads x) = both_ways (known_table (table_of k)) out (subst (λ i. known_table (table_of i) ≡ true) (query_one f is) known)
no_table p s e n q r k ts is out (call sh a u f there x y) = clash_query f is

-- a sheet without a value has no run above it
no_call : (p : Rules) (s : Records) (e n : ℕ) (q : Point) (r : Reading) (sh a : ℕ) (ts : List Tag) → (p.turn q).ask ≡ Call sh a → Runs p s e (suc n) q r ts → (c : ℕ) × (e ≡ suc c) × ((u : Reading) × GivesWithin p s c sh a u)
no_call p s e n q r sh a ts is (done f) = absurd (clash_call is f)
no_call p s e n q r sh a ts is (query j u f known reads x) = absurd (clash_query is f)
no_call p s e n q r sh a ts is (call {depth = c} {inner = ws} th b u f there x y) =
    (c, refl, (u, (subst (λ i. i < p.sheets) (call_sheet f is) there, (ws, subst (λ j. Runs p s c 32 (start sh j) u ws) (call_argument f is) (subst (λ i. Runs p s c 32 (start i b) u ws) (call_sheet f is) x)))))

no_answers : (p : Rules) (s : Records) (e n : ℕ) (q : Point) (r : Reading) (ts : List Tag) → n ≡ 0 → Runs p s e n q r ts → ⊥
no_answers p s e (suc n) q r ts h x = omega (arith, h)
no_answers p s e zero q r ts h x = elim x [ ]

-- a fault of the sheet called is one of the sheet that calls it
pub passed_on : {U N W N' W' : Type 0} {fault : Fault} → (N → N') → (W → W') → Fails U N W fault → Fails U N' W' fault
passed_on n w (inl unheld) = inl unheld
passed_on n w (inr (inl within)) = inr (inl (w within.0, within.1))
passed_on n w (inr (inr none)) = inr (inr (n none.0, none.1))

-- what the working out from a point means
abbrev Runless : Rules → Records → ℕ → Point → Type 0
Runless p s left q = (r : Reading) (e : ℕ) → Ends p s e left q r → ⊥

abbrev Outcome : Db → Rules → ℕ → ℕ → ℕ → Point → Result Reading Fault → Type 0
Outcome db p m depth left q (Ok reading) = Ends p (db.at m) depth left q reading
Outcome db p m depth left q (Err fault) = Fails (held db m ≡ false) (Runless p (db.at m) left q) ((r : Reading) → Ends p (db.at m) depth left q r → ⊥) fault

one_answer : (p : Rules) (s : Records) (e n : ℕ) (q : Point) (r : Reading) (ts : List Tag) → n ≡ 0 → Runs p s e (suc n) q r ts → (p.turn q).ask ≡ Done r
one_answer p s e n q r ts none (done f) = f
one_answer p s e n q r ts none (query {tags = us} j u f known reads x) = absurd (no_answers p s e n (after (p.turn q) q u) r us none x)
one_answer p s e n q r ts none (call {depth = c} {tags = us} sh a u f there x y) = absurd (no_answers p s (suc c) n (after (p.turn q) q u) r us none y)

last_means : (db : Db) (p : Rules) (m depth : ℕ) (q : Point) (ask : Ask) → (p.turn q).ask ≡ ask → Outcome db p m depth 1 q (last_answer ask)
last_means db p m depth q (Asked k) is = inr (inr (λ r e x. clash_done is (one_answer p (db.at m) e 0 q r x.0 refl x.1), inr (inl refl)))
last_means db p m depth q (Call sh a) is = inr (inr (λ r e x. clash_call is (one_answer p (db.at m) e 0 q r x.0 refl x.1), inr (inl refl)))
last_means db p m depth q (Done r) is = ([], done is)

refused_means : (db : Db) (p : Rules) (m depth n : ℕ) (q : Point) (k : Query) (fault : Fault) → (p.turn q).ask ≡ Asked k → ReadsAt db m k (Err fault) → Outcome db p m depth (suc n) q (Err fault)
refused_means db p m depth n q k fault is (inl (out, same)) =
    subst (λ f. Outcome db p m depth (suc n) q (Err f)) (sym same) (inr (inr (λ r e x. no_table p (db.at m) e n q r k x.0 is out x.1, inr (inr refl))))
refused_means db p m depth n q k fault is (inr (known, unheld, same)) = subst (λ f. Outcome db p m depth (suc n) q (Err f)) (sym same) (inl (unheld, refl))

query_means : (db : Db) (p : Rules) (m depth n : ℕ) (q : Point) (k : Query) (v : Reading) (result : Result Reading Fault) → (p.turn q).ask ≡ Asked k → ReadsAt db m k (Ok v)
    → Outcome db p m depth n (after (p.turn q) q v) result → Outcome db p m depth (suc n) q result
query_means db p m depth n q k v (Ok r) is (known, there, reads) x = (query_tag k ∷ x.0, query k v is known reads x.1)
query_means db p m depth n q k v (Err fault) is (known, there, reads) f =
    passed_on
    (λ none r e y. none r e (after_query p (db.at m) e n q r k v y.0 is reads y.1))
    (λ within r y. within r (after_query p (db.at m) depth n q r k v y.0 is reads y.1)) f

unknown_means : (db : Db) (p : Rules) (m depth n : ℕ) (q : Point) (sh a : ℕ) → (p.turn q).ask ≡ Call sh a → p.sheets ≤ sh → Outcome db p m depth (suc n) q (Err (SheetUnknown 0))
unknown_means db p m depth n q sh a is out = inr (inr (λ r e x. let z = no_call p (db.at m) e n q r sh a x.0 is x.1 in let there = z.2.1.0 in omega arith, inl refl))

deep_means : (db : Db) (p : Rules) (m n : ℕ) (q : Point) (sh a : ℕ) → (p.turn q).ask ≡ Call sh a → Outcome db p m 0 (suc n) q (Err (TooDeep 0))
deep_means db p m n q sh a is = inr (inl (λ r x. let z = no_call p (db.at m) 0 n q r sh a x.0 is x.1 in omega (arith, z.1), refl))

failed_means : (db : Db) (p : Rules) (m d n : ℕ) (q : Point) (sh a : ℕ) (fault : Fault) → (p.turn q).ask ≡ Call sh a → Outcome db p m d 32 (start sh a) (Err fault) → Outcome db p m (suc d) (suc n) q (Err fault)
failed_means db p m d n q sh a fault is f =
    passed_on
    (λ none r e x. let z = no_call p (db.at m) e n q r sh a x.0 is x.1 in none z.2.0 z.0 z.2.1.1)
    (λ within r x.
    let z = no_call p (db.at m) (suc d) n q r sh a x.0 is x.1 in
    let same : z.0 ≡ d = omega (arith, z.1) in
    within z.2.0 (subst (λ c. Ends p (db.at m) c 32 (start sh a) z.2.0) same z.2.1.1)) f

call_means : (db : Db) (p : Rules) (m d n : ℕ) (q : Point) (sh a : ℕ) (v : Reading) (result : Result Reading Fault) → (p.turn q).ask ≡ Call sh a → sh < p.sheets → Ends p (db.at m) d 32 (start sh a) v
    → Outcome db p m (suc d) n (after (p.turn q) q v) result → Outcome db p m (suc d) (suc n) q result
call_means db p m d n q sh a v (Ok r) is there ends x = (ends.0 ++ x.0, call sh a v is there ends.1 x.1)
call_means db p m d n q sh a v (Err fault) is there ends f =
    passed_on
    (λ none r e y. none r e (after_call p (db.at m) e n d q r sh a v y.0 is ends y.1))
    (λ within r y. within r (after_call p (db.at m) (suc d) n d q r sh a v y.0 is ends y.1)) f

works_means : (db : Db) (p : Rules) (m depth left : ℕ) (q : Point) (result : Result Reading Fault) → Works db p m depth left q result → Outcome db p m depth left q result
works_means db p m depth left q result (works.Works.last) = last_means db p m depth q (p.turn q).ask refl
works_means db p m depth left q result (works.Works.done is) = ([], done is)
works_means db p m depth left q result (works.Works.refused {left = n} k fault is why) = refused_means db p m depth (suc n) q k fault is why
works_means db p m depth left q result (works.Works.query {left = n} k v is reads x) = query_means db p m depth (suc n) q k v result is reads (works_means db p m depth (suc n) (after (p.turn q) q v) result x)
works_means db p m depth left q result (works.Works.unknown {left = n} sh a is out) = unknown_means db p m depth (suc n) q sh a is out
works_means db p m depth left q result (works.Works.deep {left = n} sh a is there) = deep_means db p m (suc n) q sh a is
works_means db p m depth left q result (works.Works.failed {depth = d} {left = n} sh a fault is there x) = failed_means db p m d (suc n) q sh a fault is (works_means db p m d 32 (start sh a) (Err fault) x)
works_means db p m depth left q result (works.Works.call {depth = d} {left = n} sh a v is there x y) =
    call_means db p m d (suc n) q sh a v result is there (works_means db p m d 32 (start sh a) (Ok v) x) (works_means db p m (suc d) (suc n) (after (p.turn q) q v) result y)

-- and so what it is to work a sheet out
started_means : (db : Db) (p : Rules) (m sheet argument depth : ℕ) (result : Result Reading Fault) → sheet < p.sheets → Outcome db p m depth 32 (start sheet argument) result → Evaluates db p m sheet argument depth result
started_means db p m sheet argument depth (Ok r) there x = (there, x)
started_means db p m sheet argument depth (Err fault) there f =
    passed_on (λ none r x. none r x.0 x.1.1) (λ within r x. within r x.1) f

pub evaluates : (db : Db) (p : Rules) (m sheet argument depth : ℕ) (result : Result Reading Fault) → WorksOut db p m sheet argument depth result → Evaluates db p m sheet argument depth result
evaluates db p m sheet argument depth result (inl (out, same)) =
    subst (Evaluates db p m sheet argument depth) (sym same) (inr (inr (λ r x. let there = x.1.0 in omega arith, inl refl)))
evaluates db p m sheet argument depth result (inr (there, x)) = started_means db p m sheet argument depth result there (works_means db p m depth 32 (start sheet argument) result x)

-- where the loop stands after some answers
pub record At (db : Db) (p : Rules) (m sheet argument depth used : ℕ) (q : Point) : Type 0 where
  pub there : sheet < p.sheets
  pub upto : used ≤ 31
  pub onward : (result : Result Reading Fault) → Works db p m depth (32 - used) q result → Works db p m depth 32 (start sheet argument) result

pub begins : (db : Db) (p : Rules) (m sheet argument depth : ℕ) → sheet < p.sheets → At db p m sheet argument depth 0 (start sheet argument)
begins db p m sheet argument depth h = record { there = h; upto = omega arith; onward = λ result x. x }

two_left : (used : ℕ) → used < 31 → 32 - used ≡ suc (suc (30 - used))
two_left used h = omega arith

pub stops : {db : Db} {p : Rules} {m sheet argument depth used : ℕ} {q : Point} {result : Result Reading Fault} → used < 31 → At db p m sheet argument depth used q
    → Works db p m depth (suc (suc (30 - used))) q result → WorksOut db p m sheet argument depth result
stops {db} {p} {m} {depth = depth} {used} {q} {result} h at x = inr (at.there, at.onward result (subst (λ n. Works db p m depth n q result) (sym (two_left used h)) x))

pub goes_on : (db : Db) (p : Rules) (m sheet argument depth used : ℕ) (q : Point) (turn : Turn) (last : Reading) → used < 31 → turn ≡ p.turn q → At db p m sheet argument depth used q
    → ((result : Result Reading Fault) → Works db p m depth (suc (30 - used)) (after (p.turn q) q last) result → Works db p m depth (suc (suc (30 - used))) q result)
    → At db p m sheet argument depth (used + 1) (after turn q last)
goes_on db p m sheet argument depth used q turn last h e at one = record {
  there = at.there;
  upto = omega arith;
  onward = λ result x.
      let same : 32 - (used + 1) ≡ suc (30 - used) = omega arith in
      let y = subst (λ n. Works db p m depth n (after turn q last) result) same x in
      at.onward result (subst (λ n. Works db p m depth n q result) (sym (two_left used h)) (one result (subst (λ t. Works db p m depth (suc (30 - used)) (after t q last) result) e y)));
}

-- a turn asks what it is known to ask under another name
asks : {turn other : Turn} {ask : Ask} → turn ≡ other → turn.ask ≡ ask → other.ask ≡ ask
asks e f = sym (ap (λ t. t.ask) e) ∙ f

-- a fault that is handed on
pub handed_on : (result : Result Reading Fault) {fault : Fault} → IsErrAnd result (λ f. f ≡ fault) → result ≡ Err fault
handed_on (Ok reading) none = absurd none
handed_on (Err f) same = ap (λ (x : Fault). Err x) same

-- the sheet that is called, by the depth that is left
inner_works : {db : Db} {p : Rules} {m sh a depth : ℕ} {result : Result Reading Fault} → sh < p.sheets → WorksOut db p m sh a depth result → Works db p m depth 32 (start sh a) result
inner_works there (inl (out, same)) = absurd (omega arith)
inner_works there (inr (known, x)) = x

-- how an answer ends the sheet, or leads to the next one
pub ends_done : {db : Db} {p : Rules} {m sheet argument depth used : ℕ} {q : Point} {turn : Turn} {r : Reading} → used < 31 → At db p m sheet argument depth used q → turn ≡ p.turn q → turn.ask ≡ Done r
    → WorksOut db p m sheet argument depth (Ok r)
ends_done h at e is = stops h at (works.Works.done (asks e is))

pub ends_refused : {db : Db} {p : Rules} {m sheet argument depth used : ℕ} {q : Point} {turn : Turn} {k : Query} {fault : Fault} {result : Result Reading Fault}
    → used < 31 → At db p m sheet argument depth used q → turn ≡ p.turn q → turn.ask ≡ Asked k → ReadsAt db m k (Err fault) → IsErrAnd result (λ f. f ≡ fault) → WorksOut db p m sheet argument depth result
ends_refused {db} {p} {m} {sheet} {argument} {depth} {k = k} {fault = fault} {result} h at e is why same =
    subst (WorksOut db p m sheet argument depth) (sym (handed_on result same)) (stops h at (works.Works.refused k fault (asks e is) why))

pub ends_unknown : {db : Db} {p : Rules} {m sheet argument depth used : ℕ} {q : Point} {turn : Turn} {sh a : ℕ} {fault : Fault} {result : Result Reading Fault}
    → used < 31 → At db p m sheet argument depth used q → turn ≡ p.turn q → turn.ask ≡ Call sh a → (p.sheets ≤ sh) × (fault ≡ SheetUnknown 0) → IsErrAnd result (λ f. f ≡ fault) → WorksOut db p m sheet argument depth result
ends_unknown {db} {p} {m} {sheet} {argument} {depth} {sh = sh} {a = a} {result = result} h at e is out same =
    subst (WorksOut db p m sheet argument depth) (sym (handed_on result same ∙ ap (λ (x : Fault). Err x) out.1)) (stops h at (works.Works.unknown sh a (asks e is) out.0))

pub ends_deep : {db : Db} {p : Rules} {m sheet argument depth used : ℕ} {q : Point} {turn : Turn} {sh a : ℕ} {fault : Fault} {result : Result Reading Fault}
    → used < 31 → At db p m sheet argument depth used q → turn ≡ p.turn q → turn.ask ≡ Call sh a → sh < p.sheets → (depth ≡ 0) × (fault ≡ TooDeep 0) → IsErrAnd result (λ f. f ≡ fault) → WorksOut db p m sheet argument depth result
ends_deep {db} {p} {m} {sheet} {argument} {depth} {used} {q} {sh = sh} {a} {result = result} h at e is there none same =
    subst (WorksOut db p m sheet argument depth) (sym (handed_on result same ∙ ap (λ (x : Fault). Err x) none.1))
    (stops h at (subst (λ d. Works db p m d (suc (suc (30 - used))) q (Err (TooDeep 0))) (sym none.0) (works.Works.deep sh a (asks e is) there)))

pub ends_failed : {db : Db} {p : Rules} {m sheet argument depth left used : ℕ} {q : Point} {turn : Turn} {sh a : ℕ} {fault : Fault} {result : Result Reading Fault}
    → used < 31 → At db p m sheet argument depth used q → turn ≡ p.turn q → turn.ask ≡ Call sh a → sh < p.sheets → depth ≡ suc left
    → WorksOut db p m sh a left (Err fault) → IsErrAnd result (λ f. f ≡ fault) → WorksOut db p m sheet argument depth result
ends_failed {db} {p} {m} {sheet} {argument} {depth} {used = used} {q} {sh = sh} {a} {fault} {result} h at e is there left inner same =
    subst (WorksOut db p m sheet argument depth) (sym (handed_on result same))
    (stops h at (subst (λ d. Works db p m d (suc (suc (30 - used))) q (Err fault)) (sym left) (works.Works.failed sh a fault (asks e is) there (inner_works there inner))))

pub goes_query : {db : Db} {p : Rules} {m sheet argument depth used : ℕ} {q : Point} {turn : Turn} {k : Query} {last v : Reading}
    → used < 31 → At db p m sheet argument depth used q → turn ≡ p.turn q → turn.ask ≡ Asked k → ReadsAt db m k (Ok v) → last ≡ v → At db p m sheet argument depth (used + 1) (after turn q last)
goes_query {db} {p} {m} {sheet} {argument} {depth} {used} {q} {turn} {k} {last} h at e is reads same =
    goes_on db p m sheet argument depth used q turn last h e at (λ result x. works.Works.query k last (asks e is) (subst (λ v. ReadsAt db m k (Ok v)) (sym same) reads) x)

pub goes_call : {db : Db} {p : Rules} {m sheet argument depth left used : ℕ} {q : Point} {turn : Turn} {sh a : ℕ} {last v : Reading}
    → used < 31 → At db p m sheet argument depth used q → turn ≡ p.turn q → turn.ask ≡ Call sh a → sh < p.sheets → depth ≡ suc left
    → WorksOut db p m sh a left (Ok v) → last ≡ v → At db p m sheet argument depth (used + 1) (after turn q last)
goes_call {db} {p} {m} {sheet} {argument} {depth} {left} {used} {q} {turn} {sh} {a} {last} h at e is there less inner same =
    goes_on db p m sheet argument depth used q turn last h e at
    (λ result x. subst (λ d. Works db p m d (suc (suc (30 - used))) q result) (sym less)
    (works.Works.call sh a last (asks e is) there (inner_works there (subst (λ v. WorksOut db p m sh a left (Ok v)) (sym same) inner))
    (subst (λ d. Works db p m d (suc (30 - used)) (after (p.turn q) q last) result) less x)))

pub ends_last : {db : Db} {p : Rules} {m sheet argument depth used : ℕ} {q : Point} {turn : Turn} {result : Result Reading Fault}
    → 31 ≤ used → At db p m sheet argument depth used q → turn ≡ p.turn q → result ≡ last_answer turn.ask → WorksOut db p m sheet argument depth result
ends_last {db} {p} {m} {sheet} {argument} {depth} {used} {q} h at e is =
    let upto = at.upto in
    let same : 1 ≡ 32 - used = omega arith in
    subst (WorksOut db p m sheet argument depth) (sym (is ∙ ap (λ t. last_answer t.ask) e))
    (inr (at.there, at.onward _ (subst (λ n. Works db p m depth n q (last_answer (p.turn q).ask)) same works.Works.last)))
