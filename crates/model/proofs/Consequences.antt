-- What follows from the law: halls agree, and no call meets a moment that is not held.
use Rattle.std.proofs.Common.{◌≡◌, ℕ, ◌+◌, Bool, true, false, cond, eqb, ltb, leb, ◌⊎◌, List, [], ◌∷◌, ◌++◌, length, Some, None, Option, sym, refl, ap, ◌∙◌, subst, inl, inr, ⊎_elim, Ok, Err}
use Rattle.std.proofs.lemmas.Bool.{both_ways, or_left, eq-eqb}
use Rattle.terms.specs.declared.record.Change.{Change}
use Rattle.terms.specs.declared.record.Query.{Query}
use Rattle.terms.specs.declared.tag.Tag.{Tag}
use Rattle.terms.specs.declared.fault.Fault.{Fault}
use Rattle.terms.specs.Moments.{highest}
use Rattle.terms.specs.Faults.{number_of}
use Rattle.terms.specs.Records.{Reading, known_table, change_id}
use Rattle.database.specs.States.{Records}
use Rattle.database.specs.Writes.{names, wrong_change, wrong_list, or_else}
use Rattle.database.specs.Databases.{Db, held}
use Rattle.database.proofs.Readings.{reads_one, reads_alike}
use Rattle.recipe.specs.Recipes.{Rules, AgreeAll, table_of}
use Rattle.recipe.proofs.Runs.{value_is_one, value_rests}
use Rattle.model.specs.declared.call.Call.{Call}
use Rattle.model.specs.declared.call.Call.TheVariants.{Begin, Sheet, Step, Query as Directly, Commit, Abort, Write, Deliver, Sweep}
use Rattle.model.specs.Books.{Pin, Transaction, Row, Hall, find, newest_of}
use Rattle.model.specs.Rules.{Picks, taken, pinned, gave_up, kept}
use Rattle.model.specs.Calls.{Outcome, Question, of_query, of_sheet, Does, has_frames, sheet_refusal, query_refusal, step_refusal, end_refusal, deliver_refusal, refusal_of}
use Rattle.model.specs.Calls as calls
use Rattle.model.specs.Traces.{Origin, Event, records_at}
use Rattle.model.specs.Law.{Right, HallsAgree, AlwaysHeld}
use Rattle.model.proofs.Cores.{Core, found}
use Rattle.model.proofs.Steps.{set_held}
use Rattle.model.proofs.Choosing.{newest_among}
use Rattle.model.proofs.Lives.{carried}
use Rattle.model.proofs.Stands.{law_stands}

-- states that answer alike on every record have the same readings
agree_all : (tags : List Tag) (s z : Records) → ((t k : ℕ) → s t k ≡ z t k) → AgreeAll tags s z
agree_all [] s z same = tt
agree_all (tag ∷ tags) s z same = (λ t k e. same t k, agree_all tags s z same)

right_one : (rules : Rules) (s z : Records) (q : Question) (r w : Reading) → ((t k : ℕ) → s t k ≡ z t k) → Right rules s q r → Right rules z q w → r ≡ w
right_one rules s z (of_query k) r w same a b = reads_one k z r w (reads_alike k s z r (λ t j e. same t j) a) b
right_one rules s z (of_sheet sh x) r w same a b =
    value_is_one rules z sh x r w (a.0, (a.1.0, (a.1.1.0, value_rests rules s z a.0 32 _ r a.1.1.0 a.1.1.1 (agree_all a.1.1.0 s z same)))) b

pub halls_agree : HallsAgree
halls_agree rules o p one other hall hall' lives lives' tx tx' a a' given given' g is g' is' same m m' b b' records =
    let x = (law_stands rules o one hall lives).readings tx a given g is m b in
    let y = (law_stands rules p other hall' lives').readings tx' a' given' g' is' m' b' in
    right_one rules (records_at o one m) (records_at p other m') given'.question given.reading given'.reading records (subst (λ q. Right rules (records_at o one m) q given.reading) same x) y

-- no refusal before a call does anything is 32
abbrev unheld : Fault → Bool
unheld fault = eqb (number_of fault) 32

abbrev is32 : Option Fault → Bool
is32 None = false
is32 (Some fault) = unheld fault

abbrev says32 : Outcome → Bool
says32 (Ok reply) = false
says32 (Err fault) = unheld fault

branch : (b : Bool) (x y : Option Fault) → is32 x ≡ false → is32 y ≡ false → is32 (cond b x y) ≡ false
branch true x y p q = p
branch false x y p q = q

first_of : (x y : Option Fault) → is32 x ≡ false → is32 y ≡ false → is32 (or_else x y) ≡ false
first_of None y p q = q
first_of (Some fault) y p q = p

no_wrong : (earlier cs : List Change) → is32 (wrong_change earlier cs) ≡ false
no_wrong earlier [] = refl
no_wrong earlier (c ∷ cs) =
    branch (known_table (change_id c).table) _ _ (branch (names (change_id c) earlier) _ _ refl (no_wrong (earlier ++ c ∷ []) cs)) refl

sheet_32 : (rules : Rules) (sheet : ℕ) (tx : Option Transaction) → is32 (sheet_refusal rules sheet tx) ≡ false
sheet_32 rules sheet None = refl
sheet_32 rules sheet (Some tx) = branch (has_frames tx) _ _ refl (branch (ltb sheet rules.sheets) _ _ refl refl)

query_32 : (query : Query) (tx : Option Transaction) → is32 (query_refusal query tx) ≡ false
query_32 query None = refl
query_32 query (Some tx) = branch (has_frames tx) _ _ refl (branch (known_table (table_of query)) _ _ refl refl)

step_32 : (tx : Option Transaction) → is32 (step_refusal tx) ≡ false
step_32 None = refl
step_32 (Some tx) = branch (has_frames tx) _ _ refl refl

end_32 : (tx : Option Transaction) → is32 (end_refusal tx) ≡ false
end_32 None = refl
end_32 (Some tx) = refl

deliver_32 : (rows : List Row) → is32 (deliver_refusal rows) ≡ false
deliver_32 [] = refl
deliver_32 (row ∷ rows) = refl

refusal_32 : (rules : Rules) (hall : Hall) (cs : List Change) (call : Call) → is32 (refusal_of rules hall cs call) ≡ false
refusal_32 rules hall cs (Begin now limit) =
    branch (ltb (length hall.books.txs) 16) _ _ (branch (leb limit 86400) _ _ (branch (leb hall.books.next 4294967295) _ _ refl refl) refl) refl
refusal_32 rules hall cs (Sheet number sheet argument) = sheet_32 rules sheet (find number hall.books.txs)
refusal_32 rules hall cs (Step number now) = step_32 (find number hall.books.txs)
refusal_32 rules hall cs (Directly number query now) = query_32 query (find number hall.books.txs)
refusal_32 rules hall cs (Commit number) = end_32 (find number hall.books.txs)
refusal_32 rules hall cs (Abort number) = end_32 (find number hall.books.txs)
refusal_32 rules hall cs Write =
    first_of (wrong_list cs) _ (branch (eqb (length cs) 0) _ _ refl (branch (ltb 16 (length cs)) _ _ refl (no_wrong [] cs)))
    (branch (ltb hall.db.latest highest) _ _ (branch (leb (length hall.books.rows + length cs) hall.books.size) _ _ (branch (ltb hall.db.free (length cs)) _ _ refl refl) refl) refl)
refusal_32 rules hall cs Deliver = deliver_32 hall.books.rows
refusal_32 rules hall cs (Sweep now age) = refl

-- a chosen moment is the latest, or the newest of the set
picked_one : (db : Db) (pins : List Pin) (tx : Transaction) (now m : ℕ) (db' : Db) (pins' : List Pin) (tx' : Transaction) → Picks db pins tx now m db' pins' tx' → (m ≡ db.latest) ⊎ (newest_of tx.set ≡ Some m)
picked_one db pins tx now m db' pins' tx' (taken n wants new) = inr new
picked_one db pins tx now m db' pins' tx' (pinned db'' wants room pin) = inl refl
picked_one db pins tx now m db' pins' tx' (gave_up u db₁ db'' wants room low un pin) = inl refl
picked_one db pins tx now m db' pins' tx' (kept n wants room none new) = inr new

picked_held : (rules : Rules) (o : Origin) (h : List Event) (hall : Hall) (db' : Db) (pins' : List Pin) (tx tx' : Transaction) (number now m : ℕ) → Core rules o h hall → find number hall.books.txs ≡ Some tx → Picks hall.db hall.books.pins tx now m db' pins' tx' → held hall.db m ≡ true
picked_held rules o h hall db' pins' tx tx' number now m core is picks =
    ⊎_elim (λ e. or_left _ _ (eq-eqb m hall.db.latest e)) (λ new. set_held rules o h hall tx m core (core.txs tx (found number hall.books.txs tx is).0) (newest_among tx.set m new))
    (picked_one hall.db hall.books.pins tx now m db' pins' tx' picks)

never_32 : (rules : Rules) (o : Origin) (h : List Event) (hall hall' : Hall) (call : Call) (changes : List Change) (reply : Outcome) (given : Option calls.Given) → Core rules o h hall → Does rules hall call changes reply given hall' → says32 reply ≡ false
never_32 rules o h hall hall' call changes reply given core (calls.Does.refused cl cs fault is) = ap is32 (sym is) ∙ refusal_32 rules hall cs cl
never_32 rules o h hall hall' call changes reply given core (calls.Does.began now limit is) = refl
never_32 rules o h hall hall' call changes reply given core (calls.Does.hit number sheet argument tx entry entries is shut there looks same) = refl
never_32 rules o h hall hall' call changes reply given core (calls.Does.miss number sheet argument tx entries is shut there looks same) = refl
never_32 rules o h hall hall' call changes reply given core (calls.Does.queried number now m query tx tx' db pins answer is shut known picks asks) = refl
never_32 rules o h hall hall' call changes reply given core (calls.Does.query_no_pin number now query tx is shut known none) = refl
never_32 rules o h hall hall' call changes reply given core (calls.Does.query_not_held number now m query tx is shut known picks out) = absurd (both_ways (held hall.db m) out (picked_held rules o h hall hall.db hall.books.pins tx tx number now m core is picks))
never_32 rules o h hall hall' call changes reply given core (calls.Does.never_done number now tx frame frames is fr last not_done) = refl
never_32 rules o h hall hall' call changes reply given core (calls.Does.step_table number now query tx frame frames is fr last asked out) = refl
never_32 rules o h hall hall' call changes reply given core (calls.Does.step_no_pin number now query tx frame frames is fr last asked known none) = refl
never_32 rules o h hall hall' call changes reply given core (calls.Does.step_not_held number now m query tx frame frames is fr last asked known picks out) = absurd (both_ways (held hall.db m) out (picked_held rules o h hall hall.db hall.books.pins tx tx number now m core is picks))
never_32 rules o h hall hall' call changes reply given core (calls.Does.step_query number now m query tx tx' frame frames db pins answer is fr last asked known picks asks) = refl
never_32 rules o h hall hall' call changes reply given core (calls.Does.step_unknown number now sheet argument tx frame frames is fr last asked out) = refl
never_32 rules o h hall hall' call changes reply given core (calls.Does.step_hit number now sheet argument tx frame frames entry entries is fr last asked there looks same) = refl
never_32 rules o h hall hall' call changes reply given core (calls.Does.step_deep number now sheet argument tx frame frames entries is fr last asked there looks same deep) = refl
never_32 rules o h hall hall' call changes reply given core (calls.Does.step_miss number now sheet argument tx frame frames entries is fr last asked there looks same room) = refl
never_32 rules o h hall hall' call changes reply given core (calls.Does.step_done number now reading tx frame below frames entries is fr asked enters) = refl
never_32 rules o h hall hall' call changes reply given core (calls.Does.step_last number now reading tx frame entries is fr asked enters) = refl
never_32 rules o h hall hall' call changes reply given core (calls.Does.committed number tx is) = refl
never_32 rules o h hall hall' call changes reply given core (calls.Does.aborted number tx is) = refl
never_32 rules o h hall hall' call changes reply given core (calls.Does.wrote cs moment db is written) = refl
never_32 rules o h hall hall' call changes reply given core (calls.Does.delivered row rows entries first closes) = refl
never_32 rules o h hall hall' call changes reply given core (calls.Does.swept now age db entries unpins drops) = refl

pub always_held : AlwaysHeld
always_held rules o trace hall lives e after frames does is =
    both_ways (says32 e.reply) (never_32 rules o trace hall after e.call e.changes e.reply e.given (carried rules o trace hall lives).0 does) (ap says32 is)
