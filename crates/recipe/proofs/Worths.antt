-- What the sheets of the two recipes are worth.
use Rattle.std.proofs.Common.{◌≡◌, ℕ, suc, true, false, leb, List, [], Some, None, Ok, Err, Option, Result, sym, refl, ap, ◌∙◌, subst, ⊎_elim, lit<, arith}
use Rattle.std.specs.Result.{result_or}
use Rattle.std.proofs.lemmas.Bool.Decides.{nat_tests}
use Rattle.std.proofs.lemmas.Bool.{cases_Bool, cond-true, cond-false}
use Rattle.terms.specs.declared.record.Value.{Value}
use Rattle.terms.specs.declared.record.Query.TheVariants.{Tally}
use Rattle.terms.specs.declared.tag.Tag.{Tag}
use Rattle.terms.specs.declared.fault.Fault.{Fault}
use Rattle.terms.specs.declared.fault.Fault.TheVariants.{NotHeld}
use Rattle.terms.specs.Records.{Reading, shown}
use Rattle.database.specs.States.{Records, Reads, KeysIn, seen, tallied}
use Rattle.database.specs.Databases.{Db, held, Sound}
use Rattle.recipe.specs.declared.Turn.{Turn}
use Rattle.recipe.specs.declared.Ask.TheVariants.{Query as Asked, Call, Done}
use Rattle.recipe.specs.Recipes.{Rules, start, after, Runs, done, query, call, Ends, GivesWithin, Gives}
use Rattle.recipe.specs.Evaluations.{Fails, WorksOut}
use Rattle.recipe.specs.Sheets.{get_of, finish, narrow, claimed, attendant, count_of, counts, board, claim_of_door, claim_of_word, claim_of_ticket, claim_of, TallyOf, CountsOf, HasValue, Worth}
use Rattle.recipe.proofs.Stepping.{evaluates}
use Rattle.recipe.proofs.Runs.{same_end, clash_done, clash_call, clash_query, query_one, call_sheet, call_argument}

-- a sheet that has a value within the depth fails only where the moment is not held
pub unheld : (db : Db) (p : Rules) (m sheet argument depth : ℕ) (fault : Fault)
    → (held db m ≡ true → (r : Reading) × GivesWithin p (db.at m) depth sheet argument r)
    → Fails (held db m ≡ false) ((r : Reading) → Gives p (db.at m) sheet argument r → ⊥) ((r : Reading) → GivesWithin p (db.at m) depth sheet argument r → ⊥) fault
    → held db m ≡ false
unheld db p m sheet argument depth fault value fails =
    ⊎_elim
    (λ h. let v = value h in ⊎_elim (λ u. u.0) (λ more. absurd (⊎_elim (λ within. within.0 v.0 v.1) (λ none. none.0 v.0 (depth, v.1)) more)) fails)
    (λ h. h)
    (cases_Bool (held db m))

-- so its value is worth having, and what is wrong is the moment
pub only_unheld : (db : Db) (p : Rules) (m sheet argument depth : ℕ) (result : Result Reading Fault) → WorksOut db p m sheet argument depth result → HasValue db p m sheet argument depth
    → Worth db m (λ s r. GivesWithin p s depth sheet argument r) (result_or result (Err (NotHeld 0)))
only_unheld db p m sheet argument depth (Ok r) works value = evaluates db p m sheet argument depth (Ok r) works
only_unheld db p m sheet argument depth (Err fault) works value = (unheld db p m sheet argument depth fault value (evaluates db p m sheet argument depth (Err fault) works), refl)

-- what a value is worth, from its being the value
worth_of : (db : Db) (p : Rules) (m sheet argument depth : ℕ) (Q : Records → Reading → Type 0) (result : Result Reading Fault) → ((r : Reading) → GivesWithin p (db.at m) depth sheet argument r → Q (db.at m) r)
    → Worth db m (λ s r. GivesWithin p s depth sheet argument r) result → Worth db m Q result
worth_of db p m sheet argument depth Q (Ok r) means gives = means r gives
worth_of db p m sheet argument depth Q (Err fault) means wrong = wrong

-- the claim sheet
narrow_is : (door word : ℕ) → Some door ≡ narrow word → door ≡ word
narrow_is door word e = grind (arith, nat_tests)

door_is : (ticket door : ℕ) (value : Option Value) → claimed ticket (Some door) (shown value) ≡ claim_of_door ticket door value
door_is ticket door None = refl
door_is ticket door (Some value) = refl

claimed_is : (s : Records) (ticket : ℕ) (door : Option ℕ) (word : ℕ) → door ≡ narrow word → claimed ticket door (shown (seen s 0 word)) ≡ claim_of_word s ticket door
claimed_is s ticket None word e = refl
claimed_is s ticket (Some door) word e = ap (λ w. claimed ticket (Some door) (shown (seen s 0 w))) (sym (narrow_is door word e)) ∙ door_is ticket door (seen s 0 door)

after_ticket : (s : Records) (ticket : ℕ) (value : Option Value) → Ends attendant s 0 31 (record { sheet = 0; argument = ticket; stage = 1; carry = 0; last = shown value }) (claim_of_ticket s ticket value)
after_ticket s ticket None = ([], done {left = 30} refl)
after_ticket s ticket (Some value) =
    let word = value.word in
    (_, query {left = 30} (get_of 0 word) (shown (seen s 0 word)) refl refl refl (done {left = 29} (ap (λ (r : Reading). Done r) (claimed_is s ticket (narrow word) word refl))))

pub claim_gives : (s : Records) (ticket : ℕ) → GivesWithin attendant s 0 0 ticket (claim_of s ticket)
claim_gives s ticket =
    let rest = after_ticket s ticket (seen s 1 ticket) in
    (lit< tt, (_, query {left = 31} (get_of 1 ticket) (shown (seen s 1 ticket)) refl refl refl rest.1))

pub claim_value : (db : Db) (m ticket : ℕ) (result : Result Reading Fault) → (HasValue db attendant m 0 ticket 0 → Worth db m (λ s r. GivesWithin attendant s 0 0 ticket r) result)
    → Worth db m (λ s r. r ≡ claim_of s ticket) result
claim_value db m ticket result worth =
    let gives = claim_gives (db.at m) ticket in
    worth_of db attendant m 0 ticket 0 (λ s r. r ≡ claim_of s ticket) result (λ r x. same_end x.1.1 gives.1.1) (worth (λ h. (claim_of (db.at m) ticket, gives)))

-- the board's tally
abbrev tally_ask : ℕ → Turn
tally_ask argument = record { ask = Asked (Tally 0 argument); stage = 1; carry = 0 }

tally_turn_is : (argument : ℕ) → leb argument 255 ≡ true → board.turn (start 0 argument) ≡ tally_ask argument
tally_turn_is argument e = cond-true (leb argument 255) _ _ e

none_turn : (argument : ℕ) → leb argument 255 ≡ false → board.turn (start 0 argument) ≡ finish None
none_turn argument e = cond-false (leb argument 255) _ _ e

-- after the tally the sheet is done with it
tally_done : (s : Records) (argument d n : ℕ) (v r : Reading) (ts : List Tag) → Runs board s d n (after (tally_ask argument) (start 0 argument) v) r ts → r ≡ v
tally_done s argument d n v r ts run =
    let end : Runs board s 0 1 (after (tally_ask argument) (start 0 argument) v) v [] = done {left = 0} refl in same_end run end

tally_query : (s : Records) (argument d n : ℕ) (r : Reading) (ts : List Tag) → leb argument 255 ≡ true → Runs board s d n (start 0 argument) r ts → Reads s (Tally 0 argument) r
tally_query s argument d n r ts e (done f) = absurd (clash_done (ap (λ t. t.ask) (tally_turn_is argument e)) f)
tally_query s argument d n r ts e (query {left = m} {tags = us} k v f known reads x) =
    let same : k ≡ Tally 0 argument = query_one f (ap (λ t. t.ask) (tally_turn_is argument e)) in
    let is = tally_done s argument d m v r us (subst (λ t. Runs board s d m (after t (start 0 argument) v) r us) (tally_turn_is argument e) x) in
    subst (λ w. Reads s (Tally 0 argument) w) (sym is) (subst (λ j. Reads s j v) same reads)
tally_query s argument d n r ts e (call sh a v f there x y) = absurd (clash_query f (ap (λ t. t.ask) (tally_turn_is argument e)))

tally_none : (s : Records) (argument d n : ℕ) (r : Reading) (ts : List Tag) → leb argument 255 ≡ false → Runs board s d n (start 0 argument) r ts → r ≡ None
tally_none s argument d n r ts e run =
    let end : Runs board s 0 1 (start 0 argument) None [] = done {left = 0} (ap (λ t. t.ask) (none_turn argument e)) in same_end run end

pub tally_worth : (s : Records) (argument d n : ℕ) (r : Reading) (ts : List Tag) → Runs board s d n (start 0 argument) r ts → TallyOf s argument r
tally_worth s argument d n r ts run = let query = tally_query s argument d n r ts in let none = tally_none s argument d n r ts in grind (arith, nat_tests)

pub tally_runs : (s : Records) (argument d : ℕ) (keys : List ℕ) → leb argument 255 ≡ true → KeysIn s 0 argument keys → Ends board s d 32 (start 0 argument) (tallied keys)
tally_runs s argument d keys e told = (
  _,
  query {left = 31} (Tally 0 argument) (tallied keys) (ap (λ t. t.ask) (tally_turn_is argument e)) refl (keys, told, refl)
      (subst (λ t. Runs board s d 31 (after t (start 0 argument) (tallied keys)) (tallied keys) []) (sym (tally_turn_is argument e)) (done {left = 30} refl)),
)

pub tally_exists : (db : Db) (m argument : ℕ) → Sound db → held db m ≡ true → (r : Reading) × GivesWithin board (db.at m) 0 0 argument r
tally_exists db m argument sound h =
    let keys = sound.listed m 0 argument h in
    ⊎_elim
    (λ (e : leb argument 255 ≡ true). (tallied keys.0, (lit< tt, tally_runs (db.at m) argument 0 keys.0 e keys.1)))
    (λ (e : leb argument 255 ≡ false). (None, (lit< tt, ([], done {left = 31} (ap (λ t. t.ask) (none_turn argument e))))))
    (cases_Bool (leb argument 255))

pub tally_value : (db : Db) (m state : ℕ) (result : Result Reading Fault) → Sound db → (HasValue db board m 0 state 0 → Worth db m (λ s r. GivesWithin board s 0 0 state r) result)
    → Worth db m (λ s r. TallyOf s state r) result
tally_value db m state result sound worth =
    worth_of db board m 0 state 0 (λ s r. TallyOf s state r) result (λ r x. tally_worth (db.at m) state 0 32 r x.1.0 x.1.1) (worth (tally_exists db m state sound))

-- the board's counts
abbrev call_first : Turn
call_first = record { ask = Call 0 0; stage = 1; carry = 0 }

abbrev call_second : Reading → Turn
call_second v = record { ask = Call 0 1; stage = 2; carry = count_of v }

inner_tally : (s : Records) (e sh a b : ℕ) (v : Reading) (ws : List Tag) → leb b 255 ≡ true → sh ≡ 0 → a ≡ b → Runs board s e 32 (start sh a) v ws → Reads s (Tally 0 b) v
inner_tally s e sh a b v ws small is-sh is-a x =
    tally_query s b e 32 v ws small (subst (λ j. Runs board s e 32 (start 0 j) v ws) is-a (subst (λ i. Runs board s e 32 (start i a) v ws) is-sh x))

counts_second : (s : Records) (d n : ℕ) (v r : Reading) (ts : List Tag) → Reads s (Tally 0 0) v → Runs board s d n (after call_first (start 1 0) v) r ts → CountsOf s r
counts_second s d n v r ts reads (done f) = absurd (clash_call refl f)
counts_second s d n v r ts reads (query k u f known reads' x) = absurd (clash_query refl f)
counts_second s d n v r ts reads (call {depth = e} {inner = ws} sh a u f there x y) =
    let end : Runs board s 0 1 (after (call_second v) (after call_first (start 1 0) v) u) (counts (narrow (count_of v)) u) [] = done {left = 0} refl in
    record {
      free = v;
      taken = u;
      reads_free = reads;
      reads_taken = inner_tally s e sh a 1 u ws refl (call_sheet f refl) (call_argument f refl) x;
      both = same_end y end;
    }

pub counts_worth : (s : Records) (d n : ℕ) (r : Reading) (ts : List Tag) → Runs board s d n (start 1 0) r ts → CountsOf s r
counts_worth s d n r ts (done f) = absurd (clash_call refl f)
counts_worth s d n r ts (query k v f known reads x) = absurd (clash_query refl f)
counts_worth s d n r ts (call {depth = e} {left = m} {tags = us} {inner = ws} sh a v f there x y) =
    counts_second s (suc e) m v r us (inner_tally s e sh a 0 v ws refl (call_sheet f refl) (call_argument f refl) x) y

pub counts_exists : (db : Db) (m : ℕ) → Sound db → held db m ≡ true → (r : Reading) × GivesWithin board (db.at m) 1 1 0 r
counts_exists db m sound h =
    let free = sound.listed m 0 0 h in
    let taken = sound.listed m 0 1 h in (
      counts (narrow (count_of (tallied free.0))) (tallied taken.0),
      (
        lit< tt,
        (
          _,
          call {left = 31} 0 0 (tallied free.0) refl (lit< tt) (tally_runs (db.at m) 0 0 free.0 refl free.1).1
              (call {left = 30} 0 1 (tallied taken.0) refl (lit< tt) (tally_runs (db.at m) 1 0 taken.0 refl taken.1).1
              (done {left = 29} refl)),
        ),
      ),
    )

pub counts_value : (db : Db) (m : ℕ) (result : Result Reading Fault) → Sound db → (HasValue db board m 1 0 1 → Worth db m (λ s r. GivesWithin board s 1 1 0 r) result) → Worth db m CountsOf result
counts_value db m result sound worth = worth_of db board m 1 0 1 CountsOf result (λ r x. counts_worth (db.at m) 1 32 r x.1.0 x.1.1) (worth (counts_exists db m sound))
