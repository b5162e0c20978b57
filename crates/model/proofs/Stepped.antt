-- Steps keep what is carried.
use Rattle.std.proofs.Common.{◌≡◌, ℕ, zero, suc, ◌+◌, ◌<◌, ◌≤◌, true, false, List, [], ◌∷◌, Some, None, Ok, Option, sym, refl, ap, ◌∙◌, subst, ⊎_elim, arith, lit<}
use Rattle.std.proofs.lemmas.Option.{none-some, same_Some}
use Rattle.std.proofs.lemmas.Bool.{cases_Bool, leb-true, leb-false, and_parts, or_left, eq-eqb}
use Rattle.terms.specs.Records.{Reading}
use Rattle.terms.specs.Intervals.{contains, reaches}
use Rattle.database.specs.Lists.{among}
use Rattle.database.specs.States.{Records, Reads}
use Rattle.cache.specs.Lists.{Among}
use Rattle.recipe.specs.Recipes.{Rules, Gives}
use Rattle.model.specs.Books.{Pin, Part, Frame, Transaction, Hall, whole_part, fresh_frame, find, replaced, with_transactions}
use Rattle.model.specs.Rules.{narrowed, Picks}
use Rattle.model.specs.Traces.{Origin, Event, records_at}
use Rattle.model.specs.Law.{Right}
use Rattle.model.proofs.Claims.{Claim, claim_here}
use Rattle.terms.specs.declared.interval.Until.{Until}
use Rattle.terms.specs.declared.interval.Until.TheVariants.{Ended, Open as Going}
use Rattle.terms.specs.declared.record.Query.{Query}
use Rattle.terms.specs.Records.{known_table}
use Rattle.database.specs.declared.Answer.{Answer}
use Rattle.database.specs.Databases.{Db, Sound, Asks}
use Rattle.cache.specs.declared.entry.Entry.{Entry}
use Rattle.cache.specs.Lists.{Same}
use Rattle.cache.specs.Keys.{is_key}
use Rattle.cache.specs.Entries.{covers}
use Rattle.cache.specs.Calls.{Looks, Enters}
use Rattle.recipe.specs.declared.Ask.TheVariants.{Query as Asked, Call as Called, Done}
use Rattle.recipe.specs.Recipes.{table_of}
use Rattle.model.specs.declared.call.Call.TheVariants.{Step}
use Rattle.model.specs.declared.call.Reply.TheVariants.{Read, Open}
use Rattle.model.specs.Rules.{hit_part, answer_part}
use Rattle.model.specs.Calls.{Given, of_query, of_sheet, with_tx, with_frames, key_of, went, handed, last_answer, entering}
use Rattle.model.proofs.Claims.{claim_map}
use Rattle.model.proofs.Parts.{hit_claim, hit_contains, answer_claim, enter_claim, Forward}
use Rattle.model.proofs.Towers.{Stack, TowerTo, queried, called, done_gives, nth, stack_given, stack_opened, stack_done}
use Rattle.model.proofs.Cores.{EntryGood, TxGood, Core, core_entries, found}
use Rattle.model.proofs.Steps.{set_held, core_given, core_frames, find_replaced, replaced_again}
use Rattle.model.proofs.Choosing.{core_pick}
use Rattle.model.proofs.Asked.{among_of, found_at, same_entries, key_gives, whole_inside}

-- the frames, once the top one went on, have the parts that they had
part_same : (P : Part → Type 0) (f f' : Frame) (fs : List Frame) → f'.part ≡ f.part → ((i : ℕ) (g : Frame) → nth i (f ∷ fs) ≡ Some g → P g.part) → (i : ℕ) (g : Frame) → nth i (f' ∷ fs) ≡ Some g → P g.part
part_same P f f' fs same all zero g is = subst P (sym same ∙ ap (λ (x : Frame). x.part) (same_Some f' g is)) (all 0 f refl)
part_same P f f' fs same all (suc i) g is = all (suc i) g is

sheet_same : (p : Rules) (f f' : Frame) (fs : List Frame) → (f'.point.sheet < p.sheets) × (f'.answers < 32) → ((i : ℕ) (g : Frame) → nth i (f ∷ fs) ≡ Some g → (g.point.sheet < p.sheets) × (g.answers < 32)) → (i : ℕ) (g : Frame) → nth i (f' ∷ fs) ≡ Some g → (g.point.sheet < p.sheets) × (g.answers < 32)
sheet_same p f f' fs here all zero g is = subst (λ (x : Frame). (x.point.sheet < p.sheets) × (x.answers < 32)) (same_Some f' g is) here
sheet_same p f f' fs here all (suc i) g is = all (suc i) g is

again : (f : Frame) → last_answer f ≡ false → f.answers + 1 < 32
again f last = leb-false 32 (f.answers + 1) last

pub step_query_core : (p : Rules) (o : Origin) (h : List Event) (number now m : ℕ) (query : Query) (hall : Hall) (tx tx' : Transaction) (frame : Frame) (frames : List Frame) (db : Db) (pins : List Pin) (answer : Answer) → Core p o h hall → Sound db
    → find number hall.books.txs ≡ Some tx → tx.frames ≡ frame ∷ frames → last_answer frame ≡ false → (p.turn frame.point).ask ≡ Asked query → known_table (table_of query) ≡ true
    → Picks hall.db hall.books.pins tx now m db pins tx' → Asks db m query (Ok answer)
    → Core p o (record { call = Step number now; changes = []; reply = Ok Open; given = Some (record { number = number; question = of_query query; reading = answer.reading }) } ∷ h)
    (record { db = db; entries = hall.entries; books = with_tx (narrowed (answer_part answer) (with_frames (went p frame answer.reading ∷ frames) tx')) pins hall.books })
step_query_core p o h number now m query hall tx tx' frame frames db pins answer core sound is fr last asked known picks asks =
    let at = found_at number hall.books.txs tx is in
    let pick = core_pick p o h hall tx tx' now m db pins core at sound picks in
    let hall₁ : Hall = record { db = db; entries = hall.entries; books = with_tx tx' pins hall.books } in
    let at' : find tx'.number hall.books.txs ≡ Some tx = ap (λ k. find k hall.books.txs) pick.number ∙ at in
    let find₁ = find_replaced tx' hall.books.txs tx at' in
    let good = pick.core.txs tx' (found tx'.number (replaced tx' hall.books.txs) tx' find₁).0 in
    let fr' : tx'.frames ≡ frame ∷ frames = pick.frames ∙ fr in
    let stack = subst (Stack p o h db) fr' good.stack in
    let claim = answer_claim o h db m query answer sound pick.core.faithful asks.0 asks.1 in
    let e : Event = record { call = Step number now; changes = []; reply = Ok Open; given = Some (record { number = number; question = of_query query; reading = answer.reading }) } in
    let f' = went p frame answer.reading in
    let inside : (m : ℕ) → among m tx'.set ≡ true → (i : ℕ) (g : Frame) → nth i (frame ∷ frames) ≡ Some g → contains g.part.interval m ≡ true = λ n a i g x. good.inside n a i g (ap (nth i) fr' ∙ x) in
    let sheets : (i : ℕ) (g : Frame) → nth i (frame ∷ frames) ≡ Some g → (g.point.sheet < p.sheets) × (g.answers < 32) = λ i g x. good.sheets i g (ap (nth i) fr' ∙ x) in
    let out = core_given p o h e hall₁ tx' (answer_part answer) (f' ∷ frames) (λ z. Reads z query answer.reading) m (record { number = number; question = of_query query; reading = answer.reading })
    pick.core find₁ claim pick.chosen asks.1.inside
    (stack_given p o h db (answer_part answer) (λ z. Reads z query answer.reading) frame f' frames refl refl refl (λ z r c. queried frame.answers frame.point query answer.reading c asked known r) claim stack)
    (λ n a. part_same (λ part. contains part.interval n ≡ true) frame f' frames refl (inside n a))
    (sheet_same p frame f' frames ((sheets 0 frame refl).0, again frame last) sheets)
    refl refl (sym (found number hall.books.txs tx is).1 ∙ sym pick.number) (λ z x. x) in
    subst (λ (ts : List Transaction). Core p o (e ∷ h) (record { db = db; entries = hall.entries; books = with_transactions pins ts hall.books }))
    (replaced_again (narrowed (answer_part answer) (with_frames (f' ∷ frames) tx')) tx' hall.books.txs refl) out

pub step_hit_core : (p : Rules) (o : Origin) (h : List Event) (number now sheet argument : ℕ) (hall : Hall) (tx : Transaction) (frame : Frame) (frames : List Frame) (entry : Entry) (entries : List Entry) → Core p o h hall
    → find number hall.books.txs ≡ Some tx → tx.frames ≡ frame ∷ frames → last_answer frame ≡ false → (p.turn frame.point).ask ≡ Called sheet argument
    → Looks hall.entries (key_of sheet argument) tx.set hall.books.delivered (Some entry) → Same hall.entries entries
    → Core p o (record { call = Step number now; changes = []; reply = Ok Open; given = Some (record { number = number; question = of_sheet sheet argument; reading = entry.reading }) } ∷ h)
    (record { db = hall.db; entries = entries; books = with_tx (narrowed (hit_part hall.books.delivered entry) (with_frames (went p frame entry.reading ∷ frames) tx)) hall.books.pins hall.books })
step_hit_core p o h number now sheet argument hall tx frame frames entry entries core is fr last asked looks same =
    let T = hall.books.delivered in
    let core₁ = same_entries p o h hall entries same core in
    let own = found number hall.books.txs tx is in
    let good = core.txs tx own.0 in
    let newest = looks.1 in
    let parts = and_parts (is_key (key_of sheet argument) entry.key) (covers T entry newest.0) newest.2 in
    let Q : Records → Type 0 = λ z. Gives p z entry.key.sheet entry.key.argument entry.reading in
    let claim = hit_claim o h hall.db T newest.0 entry Q parts.1 (core.entries entry looks.0) in
    let f' = went p frame entry.reading in
    let right : (z : Records) → Q z → Gives p z sheet argument entry.reading = λ z x. key_gives p z sheet argument entry entry.reading parts.0 x in
    let inside : (m : ℕ) → among m tx.set ≡ true → (i : ℕ) (g : Frame) → nth i (frame ∷ frames) ≡ Some g → contains g.part.interval m ≡ true = λ n a i g x. good.inside n a i g (ap (nth i) fr ∙ x) in
    let sheets : (i : ℕ) (g : Frame) → nth i (frame ∷ frames) ≡ Some g → (g.point.sheet < p.sheets) × (g.answers < 32) = λ i g x. good.sheets i g (ap (nth i) fr ∙ x) in
    core_given p o h (record { call = Step number now; changes = []; reply = Ok Open; given = Some (record { number = number; question = of_sheet sheet argument; reading = entry.reading }) })
    (record { db = hall.db; entries = entries; books = hall.books }) tx (hit_part T entry) (f' ∷ frames) Q newest.0
    (record { number = number; question = of_sheet sheet argument; reading = entry.reading })
    core₁ (found_at number hall.books.txs tx is) claim (among_of newest.0 tx.set newest.1) (hit_contains T newest.0 entry parts.1)
    (stack_given p o h hall.db (hit_part T entry) Q frame f' frames refl refl refl (λ z r c. called frame.answers frame.point sheet argument entry.reading c asked (right z r)) claim (subst (Stack p o h hall.db) fr good.stack))
    (λ n a. part_same (λ part. contains part.interval n ≡ true) frame f' frames refl (inside n a))
    (sheet_same p frame f' frames ((sheets 0 frame refl).0, again frame last) sheets)
    refl refl (sym own.1) right

-- a frame above the others
above : (P : Frame → Type 0) (f : Frame) (fs : List Frame) → P f → ((i : ℕ) (g : Frame) → nth i fs ≡ Some g → P g) → (i : ℕ) (g : Frame) → nth i (f ∷ fs) ≡ Some g → P g
above P f fs here all zero g is = subst P (same_Some f g is) here
above P f fs here all (suc i) g is = all i g is

pub step_miss_core : (p : Rules) (o : Origin) (h : List Event) (number now sheet argument : ℕ) (hall : Hall) (tx : Transaction) (frame : Frame) (frames : List Frame) (entries : List Entry) → Core p o h hall
    → find number hall.books.txs ≡ Some tx → tx.frames ≡ frame ∷ frames → last_answer frame ≡ false → (p.turn frame.point).ask ≡ Called sheet argument → sheet < p.sheets → Same hall.entries entries
    → Core p o (record { call = Step number now; changes = []; reply = Ok Open; given = None } ∷ h)
    (record { db = hall.db; entries = entries; books = with_tx (with_frames (fresh_frame sheet argument ∷ went p frame frame.point.last ∷ frames) tx) hall.books.pins hall.books })
step_miss_core p o h number now sheet argument hall tx frame frames entries core is fr last asked there same =
    let core₁ = same_entries p o h hall entries same core in
    let good = core.txs tx (found number hall.books.txs tx is).0 in
    let f' = went p frame frame.point.last in
    let to : (i : ℕ) (g : Frame) → nth i (frame ∷ frames) ≡ Some g → nth i tx.frames ≡ Some g = λ i g x. ap (nth i) fr ∙ x in
    core_frames p o h (record { call = Step number now; changes = []; reply = Ok Open; given = None }) (record { db = hall.db; entries = entries; books = hall.books }) tx (fresh_frame sheet argument ∷ f' ∷ frames) core₁ (found_at number hall.books.txs tx is)
    (stack_opened p o h hall.db frame f' frames sheet argument refl refl refl (λ z c. record { count = frame.answers; from = frame.point; comes = c; asks = asked; next = refl; onto = λ v. refl }) (subst (Stack p o h hall.db) fr good.stack))
    (λ pr. above (λ g. g.part ≡ whole_part) (fresh_frame sheet argument) (f' ∷ frames) refl (part_same (λ part. part ≡ whole_part) frame f' frames refl (λ i g x. good.whole pr i g (to i g x))))
    (λ m a. above (λ g. contains g.part.interval m ≡ true) (fresh_frame sheet argument) (f' ∷ frames) (whole_inside p o h hall tx m core good a) (part_same (λ part. contains part.interval m ≡ true) frame f' frames refl (λ i g x. good.inside m a i g (to i g x))))
    (above (λ g. (g.point.sheet < p.sheets) × (g.answers < 32)) (fresh_frame sheet argument) (f' ∷ frames) (there, lit< tt) (sheet_same p frame f' frames ((good.sheets 0 frame (to 0 frame refl)).0, again frame last) (λ i g x. good.sheets i g (to i g x))))
    refl (λ given now. absurd (none-some given now))

-- what is claimed of all moments holds of all records
whole_all : (o : Origin) (h : List Event) (db : Db) (part : Part) (P : Records → Type 0) → part ≡ whole_part → Claim o h db part P → (z : Records) → P z
whole_all o h db part P is c z =
    let w = subst (λ (x : Part). Claim o h db x P) is c in
    w.holds db.latest (or_left _ _ (eq-eqb db.latest db.latest refl)) (omega arith) (λ row a b d. refl) z tt

-- a frame of a transaction has a moment in its interval
going_one : (one other : ℕ) → Going one ≡ Going other → one ≡ other
going_one one other e = cc

reaches_going : (u : Until) (t m : ℕ) → u ≡ Going t → reaches u m ≡ true → m ≤ t
reaches_going (Ended x) t m e r = cc
reaches_going (Going s) t m e r = let l = leb-true m s r in let same = going_one s t e in omega arith

forward : (p : Rules) (o : Origin) (h : List Event) (db : Db) (pins : List Pin) (next : ℕ) (tx : Transaction) (i : ℕ) (g : Frame) → TxGood p o h db pins next tx → nth i tx.frames ≡ Some g → Forward g.part
forward p o h db pins next tx i g good is t open_is =
    ⊎_elim
    (λ (pr : tx.present ≡ true). let w = ap (λ (x : Part). x.interval.first) (good.whole pr i g is) in omega arith)
    (λ (pr : tx.present ≡ false).
    let some = good.some pr in
    let inside = and_parts _ _ (good.inside some.0 some.1 i g is) in
    let a = leb-true g.part.interval.first some.0 inside.0 in
    let b = reaches_going g.part.interval.until t some.0 open_is inside.1 in
    omega arith)
    (cases_Bool tx.present)

-- what a done frame enters is good
entered_good : (p : Rules) (o : Origin) (h : List Event) (hall : Hall) (frame : Frame) (reading : Reading) (entries : List Entry) (new : Option Entry) → Core p o h hall → Forward frame.part
    → Claim o h hall.db frame.part (λ z. Gives p z frame.point.sheet frame.point.argument reading)
    → entering hall.books.delivered frame reading ≡ new → Enters hall.entries new entries
    → (e : Entry) → Among e entries → EntryGood p o h hall.db hall.books.delivered e
entered_good p o h hall frame reading entries None core fwd claim is same e a = core.entries e (subst (Among e) same a)
entered_good p o h hall frame reading entries (Some new) core fwd claim is ins e a =
    ⊎_elim
    (λ top.
    let r = enter_claim o h hall.db hall.books.delivered frame.part (key_of frame.point.sheet frame.point.argument) reading new (λ z. Gives p z frame.point.sheet frame.point.argument reading) core.past fwd is claim in
    subst (EntryGood p o h hall.db hall.books.delivered) (sym top)
    (claim_map o h hall.db _ _ _
    (λ z x. subst (λ q. Gives p z new.key.sheet new.key.argument q) (sym r.2) (subst (λ k. Gives p z k.sheet k.argument reading) (sym r.1) x)) r.0))
    (λ old. core.entries e old.0)
    (ins.old e a)

-- the top frame is done: its reading is right at each moment of the set, and everywhere while the present is in it
done_right : (p : Rules) (o : Origin) (h : List Event) (hall : Hall) (tx : Transaction) (frame : Frame) (frames : List Frame) (reading : Reading) → Core p o h hall → Among tx hall.books.txs → tx.frames ≡ frame ∷ frames → (p.turn frame.point).ask ≡ Done reading
    → Claim o h hall.db frame.part (λ z. Gives p z frame.point.sheet frame.point.argument reading)
    × (tx.present ≡ true → (z : Records) → Gives p z frame.point.sheet frame.point.argument reading)
    × ((m : ℕ) → among m tx.set ≡ true → Gives p (records_at o h m) frame.point.sheet frame.point.argument reading)
done_right p o h hall tx frame frames reading core own fr is =
    let good = core.txs tx own in
    let top : nth 0 tx.frames ≡ Some frame = ap (nth 0) fr in
    let sheets = good.sheets 0 frame top in
    let claim = claim_map o h hall.db frame.part (λ z. TowerTo p z 0 tx.frames) (λ z. Gives p z frame.point.sheet frame.point.argument reading)
    (λ z t. done_gives p z frame.answers frame.point reading sheets.0 sheets.1 (subst (λ fs. TowerTo p z 0 fs) fr t).0 is) (good.stack 0 frame top) in (
      claim,
      λ pr z. whole_all o h hall.db frame.part _ (good.whole pr 0 frame top) claim z,
      λ m a. claim_here o h hall.db frame.part _ m (set_held p o h hall tx m core good a) (good.inside m a 0 frame top) claim,
    )

pub step_done_core : (p : Rules) (o : Origin) (h : List Event) (number now : ℕ) (reading : Reading) (hall : Hall) (tx : Transaction) (frame below : Frame) (frames : List Frame) (entries : List Entry) → Core p o h hall
    → find number hall.books.txs ≡ Some tx → tx.frames ≡ frame ∷ below ∷ frames → (p.turn frame.point).ask ≡ Done reading
    → Enters hall.entries (entering hall.books.delivered frame reading) entries
    → Core p o (record { call = Step number now; changes = []; reply = Ok Open; given = Some (record { number = number; question = of_sheet frame.point.sheet frame.point.argument; reading = reading }) } ∷ h)
    (record { db = hall.db; entries = entries; books = with_tx (with_frames (handed reading below ∷ frames) tx) hall.books.pins hall.books })
step_done_core p o h number now reading hall tx frame below frames entries core is fr asked enters =
    let own = found number hall.books.txs tx is in
    let good = core.txs tx own.0 in
    let to : (i : ℕ) (g : Frame) → nth i (below ∷ frames) ≡ Some g → nth (suc i) tx.frames ≡ Some g = λ i g x. ap (nth (suc i)) fr ∙ x in
    let right = done_right p o h hall tx frame (below ∷ frames) reading core own.0 fr asked in
    let top = good.sheets 0 frame (ap (nth 0) fr) in
    let core₁ = core_entries p o h hall entries core (entered_good p o h hall frame reading entries (entering hall.books.delivered frame reading) core (forward p o h hall.db hall.books.pins hall.books.next tx 0 frame good (ap (nth 0) fr)) right.0 refl enters) in
    core_frames p o h (record { call = Step number now; changes = []; reply = Ok Open; given = Some (record { number = number; question = of_sheet frame.point.sheet frame.point.argument; reading = reading }) })
    (record { db = hall.db; entries = entries; books = hall.books }) tx (handed reading below ∷ frames) core₁ (found_at number hall.books.txs tx is)
    (stack_done p o h hall.db frame below frames reading top.0 top.1 asked (subst (Stack p o h hall.db) fr good.stack))
    (λ pr. part_same (λ part. part ≡ whole_part) below (handed reading below) frames refl (λ i g x. good.whole pr (suc i) g (to i g x)))
    (λ m a. part_same (λ part. contains part.interval m ≡ true) below (handed reading below) frames refl (λ i g x. good.inside m a (suc i) g (to i g x)))
    (sheet_same p below (handed reading below) frames (good.sheets 1 below (to 0 below refl)) (λ i g x. good.sheets (suc i) g (to i g x)))
    refl
    (λ given nw.
    let same = same_Some (record { number = number; question = of_sheet frame.point.sheet frame.point.argument; reading = reading }) given nw in (
      ap (λ (x : Given). x.number) (sym same) ∙ sym own.1,
      λ pr z. subst (λ (x : Given). Right p z x.question x.reading) same (right.1 pr z),
      λ m a. subst (λ (x : Given). Right p (records_at o h m) x.question x.reading) same (right.2 m a),
    ))

pub step_last_core : (p : Rules) (o : Origin) (h : List Event) (number now : ℕ) (reading : Reading) (hall : Hall) (tx : Transaction) (frame : Frame) (entries : List Entry) → Core p o h hall
    → find number hall.books.txs ≡ Some tx → tx.frames ≡ frame ∷ [] → (p.turn frame.point).ask ≡ Done reading
    → Enters hall.entries (entering hall.books.delivered frame reading) entries
    → Core p o (record { call = Step number now; changes = []; reply = Ok (Read reading); given = Some (record { number = number; question = of_sheet frame.point.sheet frame.point.argument; reading = reading }) } ∷ h)
    (record { db = hall.db; entries = entries; books = with_tx (with_frames [] tx) hall.books.pins hall.books })
step_last_core p o h number now reading hall tx frame entries core is fr asked enters =
    let own = found number hall.books.txs tx is in
    let good = core.txs tx own.0 in
    let right = done_right p o h hall tx frame [] reading core own.0 fr asked in
    let core₁ = core_entries p o h hall entries core (entered_good p o h hall frame reading entries (entering hall.books.delivered frame reading) core (forward p o h hall.db hall.books.pins hall.books.next tx 0 frame good (ap (nth 0) fr)) right.0 refl enters) in
    core_frames p o h (record { call = Step number now; changes = []; reply = Ok (Read reading); given = Some (record { number = number; question = of_sheet frame.point.sheet frame.point.argument; reading = reading }) })
    (record { db = hall.db; entries = entries; books = hall.books }) tx [] core₁ (found_at number hall.books.txs tx is)
    (λ i g x. absurd (none-some g x)) (λ pr i g x. absurd (none-some g x)) (λ m a i g x. absurd (none-some g x)) (λ i g x. absurd (none-some g x)) refl
    (λ given nw.
    let same = same_Some (record { number = number; question = of_sheet frame.point.sheet frame.point.argument; reading = reading }) given nw in (
      ap (λ (x : Given). x.number) (sym same) ∙ sym own.1,
      λ pr z. subst (λ (x : Given). Right p z x.question x.reading) same (right.1 pr z),
      λ m a. subst (λ (x : Given). Right p (records_at o h m) x.question x.reading) same (right.2 m a),
    ))
