-- What is answered at the end of a sheet answers the transaction's last accepted call: the bottom frame is that sheet's.
use Rattle.std.proofs.Common.{◌≡◌, ℕ, true, false, cond, eqb, List, [], ◌∷◌, map, Some, None, Option, sym, refl, ap, ◌∙◌, subst, inl, inr, ⊎_elim, Ok}
use Rattle.std.proofs.lemmas.Option.{none-some, same_Some}
use Rattle.std.proofs.lemmas.Bool.{cases_Bool, eqb-true, eq-eqb}
use Rattle.terms.specs.declared.record.Change.{Change}
use Rattle.terms.specs.Records.{Reading}
use Rattle.database.specs.Lists.{distinct}
use Rattle.database.specs.Databases.{Db}
use Rattle.cache.specs.Lists.{Among}
use Rattle.recipe.specs.Recipes.{Rules}
use Rattle.model.specs.declared.call.Call.{Call}
use Rattle.model.specs.declared.call.Reply.TheVariants.{Read}
use Rattle.model.specs.Books.{Pin, Part, Frame, Transaction, Books, Hall, fresh_frame, find, replaced, removed}
use Rattle.model.specs.Rules.{Picks, taken, pinned, gave_up, kept, hit_part, answer_part, cut, narrowed}
use Rattle.model.specs.Calls.{Outcome, Question, of_query, of_sheet, Given, Does, went, handed, with_frames, begun}
use Rattle.model.specs.Calls as calls
use Rattle.model.specs.Traces.{Origin, Event, Lives}
use Rattle.model.specs.Traces as traces
use Rattle.model.specs.Law.{GivenIn, last_of, last_asked, is_by, AnsweredIn, numbers}
use Rattle.model.proofs.Cores.{found, in_replaced, only_one}
use Rattle.model.proofs.Asked.{no_frames}
use Rattle.model.proofs.Turns.{in_removed}
use Rattle.model.proofs.Lives.{carried}

-- the sheet of the bottom frame, as a question
abbrev root : List Frame → Option Question
root [] = None
root (frame ∷ []) = Some (of_sheet frame.point.sheet frame.point.argument)
root (frame ∷ below ∷ frames) = root (below ∷ frames)

-- the bottom frame of each open transaction is that of its last accepted call
pub record Rooted (h : List Event) (txs : List Transaction) : Type 0 where
  pub roots : (tx : Transaction) → Among tx txs → (q : Question) → root tx.frames ≡ Some q → last_asked tx.number h ≡ Some q

-- cutting the frames, and what a recipe is given, leave the sheet
root_cut : (part : Part) (frames : List Frame) → root (map (cut part) frames) ≡ root frames
root_cut part [] = refl
root_cut part (frame ∷ []) = refl
root_cut part (frame ∷ below ∷ frames) = root_cut part (below ∷ frames)

root_went : (rules : Rules) (frame : Frame) (reading : Reading) (frames : List Frame) → root (went rules frame reading ∷ frames) ≡ root (frame ∷ frames)
root_went rules frame reading [] = refl
root_went rules frame reading (below ∷ frames) = refl

root_handed : (reading : Reading) (frame : Frame) (frames : List Frame) → root (handed reading frame ∷ frames) ≡ root (frame ∷ frames)
root_handed reading frame [] = refl
root_handed reading frame (below ∷ frames) = refl

root_none : (frames : List Frame) (q : Question) → frames ≡ [] → root frames ≡ Some q → ⊥
root_none frames q none e = none-some q (sym (ap root none) ∙ e)

-- choosing leaves number and frames
picks_same : (db : Db) (pins : List Pin) (tx : Transaction) (now m : ℕ) (db' : Db) (pins' : List Pin) (tx' : Transaction) → Picks db pins tx now m db' pins' tx' → (tx'.number ≡ tx.number) × (tx'.frames ≡ tx.frames)
picks_same db pins tx now m db' pins' tx' (taken n wants new) = (refl, refl)
picks_same db pins tx now m db' pins' tx' (pinned db'' wants room pin) = (refl, refl)
picks_same db pins tx now m db' pins' tx' (gave_up u db₁ db'' wants room low un pin) = (refl, refl)
picks_same db pins tx now m db' pins' tx' (kept n wants room none new) = (refl, refl)

-- a call that asks nothing
rooted_skip : (h : List Event) (e : Event) (txs : List Transaction) → ((n : ℕ) → last_asked n (e ∷ h) ≡ last_asked n h) → Rooted h txs → Rooted (e ∷ h) txs
rooted_skip h e txs same rooted = record { roots = λ tx a q r. same tx.number ∙ rooted.roots tx a q r }

-- a step that leaves the bottom frame, or has none left
rooted_step : (h : List Event) (e : Event) (number : ℕ) (tx tx' : Transaction) (txs : List Transaction) → ((n : ℕ) → last_asked n (e ∷ h) ≡ last_asked n h) → find number txs ≡ Some tx → tx'.number ≡ tx.number
    → ((q : Question) → root tx'.frames ≡ Some q → root tx.frames ≡ Some q) → Rooted h txs → Rooted (e ∷ h) (replaced tx' txs)
rooted_step h e number tx tx' txs same is own keeps rooted = record {
  roots = λ t a q r.
      ⊎_elim
      (λ (new : t ≡ tx'). same t.number ∙ ap (λ n. last_asked n h) (ap (λ (x : Transaction). x.number) new ∙ own)
      ∙ rooted.roots tx (found number txs tx is).0 q (keeps q (sym (ap (λ (x : Transaction). root x.frames) new) ∙ r)))
      (λ old. same t.number ∙ rooted.roots t old q r)
      (in_replaced tx' txs t a);
}

-- a call or query of a transaction that had no frames
rooted_asked : (h : List Event) (e : Event) (number : ℕ) (tx tx' : Transaction) (txs : List Transaction) → ((n : ℕ) → eqb n number ≡ false → last_asked n (e ∷ h) ≡ last_asked n h) → distinct (numbers txs) ≡ true → find number txs ≡ Some tx → tx.frames ≡ []
    → ((q : Question) → root tx'.frames ≡ Some q → last_asked tx'.number (e ∷ h) ≡ Some q) → Rooted h txs → Rooted (e ∷ h) (replaced tx' txs)
rooted_asked h e number tx tx' txs others apart is empty new rooted = record {
  roots = λ t a q r.
      ⊎_elim
      (λ (same : t ≡ tx'). ap (λ (x : Transaction). last_asked x.number (e ∷ h)) same ∙ new q (sym (ap (λ (x : Transaction). root x.frames) same) ∙ r))
      (λ old. ⊎_elim
      (λ (its : eqb t.number number ≡ true).
      let same = only_one number txs tx t apart is old (eqb-true t.number number its) in
      absurd (root_none t.frames q (ap (λ (x : Transaction). x.frames) same ∙ empty) r))
      (λ (other : eqb t.number number ≡ false). others t.number other ∙ rooted.roots t old q r)
      (cases_Bool (eqb t.number number)))
      (in_replaced tx' txs t a);
}

rooted_began : (h : List Event) (e : Event) (tx : Transaction) (txs : List Transaction) → ((n : ℕ) → last_asked n (e ∷ h) ≡ last_asked n h) → tx.frames ≡ [] → Rooted h txs → Rooted (e ∷ h) (tx ∷ txs)
rooted_began h e tx txs same empty rooted = record {
  roots = λ t a q r.
      ⊎_elim (λ (new : t ≡ tx). absurd (root_none t.frames q (ap (λ (x : Transaction). x.frames) new ∙ empty) r)) (λ old. same t.number ∙ rooted.roots t old q r) a;
}

rooted_ended : (h : List Event) (e : Event) (number : ℕ) (txs : List Transaction) → ((n : ℕ) → last_asked n (e ∷ h) ≡ last_asked n h) → Rooted h txs → Rooted (e ∷ h) (removed number txs)
rooted_ended h e number txs same rooted = record { roots = λ t a q r. same t.number ∙ rooted.roots t (in_removed number txs t a) q r }

-- a question is that of the transaction that the call names, and of no other
asks_own : (n number : ℕ) (q : Question) (x : Option Question) → n ≡ number → last_of (cond (eqb n number) (Some q) None) x ≡ Some q
asks_own n number q x is = ap (λ b. last_of (cond b (Some q) None) x) (eq-eqb n number is)

asks_other : (n number : ℕ) (q : Question) (x : Option Question) → eqb n number ≡ false → last_of (cond (eqb n number) (Some q) None) x ≡ x
asks_other n number q x other = ap (λ b. last_of (cond b (Some q) None) x) other

does_rooted : (p : Rules) (h : List Event) (hall hall' : Hall) (call : Call) (changes : List Change) (reply : Outcome) (given : Option Given) → distinct (numbers hall.books.txs) ≡ true → Does p hall call changes reply given hall' → Rooted h hall.books.txs
    → Rooted (record { call = call; changes = changes; reply = reply; given = given } ∷ h) hall'.books.txs
does_rooted p h hall hall' call changes reply given apart (calls.Does.refused cl cs fault is) rooted = rooted_skip h _ hall.books.txs (λ n. refl) rooted
does_rooted p h hall hall' call changes reply given apart (calls.Does.began now limit is) rooted = rooted_began h _ (begun now limit hall.books) hall.books.txs (λ n. refl) refl rooted
does_rooted p h hall hall' call changes reply given apart (calls.Does.hit number sheet argument tx entry entries is shut there looks same) rooted = rooted_asked h _ number tx _ hall.books.txs (λ n other. asks_other n number (of_sheet sheet argument) (last_asked n h) other) apart is (no_frames tx.frames shut) (λ q r. absurd (root_none tx.frames q (no_frames tx.frames shut) (sym (root_cut (hit_part hall.books.delivered entry) tx.frames) ∙ r))) rooted
does_rooted p h hall hall' call changes reply given apart (calls.Does.miss number sheet argument tx entries is shut there looks same) rooted =
    rooted_asked h _ number tx (with_frames (fresh_frame sheet argument ∷ []) tx) hall.books.txs (λ n other. asks_other n number (of_sheet sheet argument) (last_asked n h) other) apart is (no_frames tx.frames shut)
    (λ q r. asks_own tx.number number (of_sheet sheet argument) (last_asked tx.number h) (found number hall.books.txs tx is).1 ∙ r) rooted
does_rooted p h hall hall' call changes reply given apart (calls.Does.queried number now m query tx tx' db pins answer is shut known picks asks) rooted =
    let same = picks_same hall.db hall.books.pins tx now m db pins tx' picks in
    rooted_asked h _ number tx (narrowed (answer_part answer) tx') hall.books.txs (λ n other. asks_other n number (of_query query) (last_asked n h) other) apart is (no_frames tx.frames shut)
    (λ q r. absurd (root_none tx'.frames q (same.1 ∙ no_frames tx.frames shut) (sym (root_cut (answer_part answer) tx'.frames) ∙ r))) rooted
does_rooted p h hall hall' call changes reply given apart (calls.Does.query_no_pin number now query tx is shut known none) rooted = rooted_skip h _ hall.books.txs (λ n. refl) rooted
does_rooted p h hall hall' call changes reply given apart (calls.Does.query_not_held number now m query tx is shut known picks out) rooted = rooted_skip h _ hall.books.txs (λ n. refl) rooted
does_rooted p h hall hall' call changes reply given apart (calls.Does.never_done number now tx frame frames is fr last not_done) rooted = rooted_step h _ number tx (with_frames [] tx) hall.books.txs (λ n. refl) is refl (λ q r. absurd (none-some q r)) rooted
does_rooted p h hall hall' call changes reply given apart (calls.Does.step_table number now query tx frame frames is fr last asked out) rooted = rooted_step h _ number tx (with_frames [] tx) hall.books.txs (λ n. refl) is refl (λ q r. absurd (none-some q r)) rooted
does_rooted p h hall hall' call changes reply given apart (calls.Does.step_no_pin number now query tx frame frames is fr last asked known none) rooted = rooted_step h _ number tx (with_frames [] tx) hall.books.txs (λ n. refl) is refl (λ q r. absurd (none-some q r)) rooted
does_rooted p h hall hall' call changes reply given apart (calls.Does.step_not_held number now m query tx frame frames is fr last asked known picks out) rooted = rooted_step h _ number tx (with_frames [] tx) hall.books.txs (λ n. refl) is refl (λ q r. absurd (none-some q r)) rooted
does_rooted p h hall hall' call changes reply given apart (calls.Does.step_query number now m query tx tx' frame frames db pins answer is fr last asked known picks asks) rooted =
    let same = picks_same hall.db hall.books.pins tx now m db pins tx' picks in
    rooted_step h _ number tx (narrowed (answer_part answer) (with_frames (went p frame answer.reading ∷ frames) tx')) hall.books.txs (λ n. refl) is same.0
    (λ q r. ap root fr ∙ sym (root_went p frame answer.reading frames) ∙ sym (root_cut (answer_part answer) (went p frame answer.reading ∷ frames)) ∙ r) rooted
does_rooted p h hall hall' call changes reply given apart (calls.Does.step_unknown number now sheet argument tx frame frames is fr last asked out) rooted = rooted_step h _ number tx (with_frames [] tx) hall.books.txs (λ n. refl) is refl (λ q r. absurd (none-some q r)) rooted
does_rooted p h hall hall' call changes reply given apart (calls.Does.step_hit number now sheet argument tx frame frames entry entries is fr last asked there looks same) rooted =
    rooted_step h _ number tx (narrowed (hit_part hall.books.delivered entry) (with_frames (went p frame entry.reading ∷ frames) tx)) hall.books.txs (λ n. refl) is refl
    (λ q r. ap root fr ∙ sym (root_went p frame entry.reading frames) ∙ sym (root_cut (hit_part hall.books.delivered entry) (went p frame entry.reading ∷ frames)) ∙ r) rooted
does_rooted p h hall hall' call changes reply given apart (calls.Does.step_deep number now sheet argument tx frame frames entries is fr last asked there looks same deep) rooted = rooted_step h _ number tx (with_frames [] tx) hall.books.txs (λ n. refl) is refl (λ q r. absurd (none-some q r)) rooted
does_rooted p h hall hall' call changes reply given apart (calls.Does.step_miss number now sheet argument tx frame frames entries is fr last asked there looks same room) rooted =
    rooted_step h _ number tx (with_frames (fresh_frame sheet argument ∷ went p frame frame.point.last ∷ frames) tx) hall.books.txs (λ n. refl) is refl
    (λ q r. ap root fr ∙ sym (root_went p frame frame.point.last frames) ∙ r) rooted
does_rooted p h hall hall' call changes reply given apart (calls.Does.step_done number now reading tx frame below frames entries is fr asked enters) rooted =
    rooted_step h _ number tx (with_frames (handed reading below ∷ frames) tx) hall.books.txs (λ n. refl) is refl (λ q r. ap root fr ∙ sym (root_handed reading below frames) ∙ r) rooted
does_rooted p h hall hall' call changes reply given apart (calls.Does.step_last number now reading tx frame entries is fr asked enters) rooted = rooted_step h _ number tx (with_frames [] tx) hall.books.txs (λ n. refl) is refl (λ q r. absurd (none-some q r)) rooted
does_rooted p h hall hall' call changes reply given apart (calls.Does.committed number tx is) rooted = rooted_ended h _ tx.number hall.books.txs (λ n. refl) rooted
does_rooted p h hall hall' call changes reply given apart (calls.Does.aborted number tx is) rooted = rooted_ended h _ tx.number hall.books.txs (λ n. refl) rooted
does_rooted p h hall hall' call changes reply given apart (calls.Does.wrote cs moment db is written) rooted = rooted_skip h _ hall.books.txs (λ n. refl) rooted
does_rooted p h hall hall' call changes reply given apart (calls.Does.delivered row rows entries first closes) rooted = rooted_skip h _ hall.books.txs (λ n. refl) rooted
does_rooted p h hall hall' call changes reply given apart (calls.Does.swept now age db entries unpins drops) rooted = rooted_skip h _ hall.books.txs (λ n. refl) rooted

rooted : (p : Rules) (o : Origin) (h : List Event) (hall : Hall) → Lives p o h hall → Rooted h hall.books.txs
rooted p o h hall (traces.Lives.made db first size hall₀ makes sound at records) =
    record { roots = λ tx a q r. absurd (subst (Among tx) (ap (λ (b : Books). b.txs) makes.books) a) }
rooted p o h hall (traces.Lives.then trace before after event lives does sound) =
    does_rooted p trace before after event.call event.changes event.reply event.given (carried p o trace before lives).0.apart does (rooted p o trace before lives)

abbrev given_as : ℕ → Question → Reading → Given
given_as n question reading = record { number = n; question = question; reading = reading }

does_answered : (p : Rules) (h : List Event) (hall hall' : Hall) (call : Call) (changes : List Change) (reply : Outcome) (given : Option Given) (n : ℕ) (question : Question) (answer : Reading) → Does p hall call changes reply given hall' → Rooted h hall.books.txs
    → is_by n call ≡ true → reply ≡ Ok (Read answer) → last_asked n (record { call = call; changes = changes; reply = reply; given = given } ∷ h) ≡ Some question → given ≡ Some (given_as n question answer)
does_answered p h hall hall' call changes reply given n question answer (calls.Does.refused cl cs fault is) rooted by told last = cc
does_answered p h hall hall' call changes reply given n question answer (calls.Does.began now limit is) rooted by told last = cc
does_answered p h hall hall' call changes reply given n question answer (calls.Does.hit number sheet argument tx entry entries is shut there looks same) rooted by told last =
    let its = eqb-true n number by in
    let asked = same_Some _ question (sym (asks_own n number (of_sheet sheet argument) (last_asked n h) its) ∙ last) in cc
does_answered p h hall hall' call changes reply given n question answer (calls.Does.miss number sheet argument tx entries is shut there looks same) rooted by told last = cc
does_answered p h hall hall' call changes reply given n question answer (calls.Does.queried number now m query tx tx' db pins answered is shut known picks asks) rooted by told last =
    let its = eqb-true n number by in
    let asked = same_Some _ question (sym (asks_own n number (of_query query) (last_asked n h) its) ∙ last) in cc
does_answered p h hall hall' call changes reply given n question answer (calls.Does.query_no_pin number now query tx is shut known none) rooted by told last = cc
does_answered p h hall hall' call changes reply given n question answer (calls.Does.query_not_held number now m query tx is shut known picks out) rooted by told last = cc
does_answered p h hall hall' call changes reply given n question answer (calls.Does.never_done number now tx frame frames is fr latest not_done) rooted by told last = cc
does_answered p h hall hall' call changes reply given n question answer (calls.Does.step_table number now query tx frame frames is fr latest asked out) rooted by told last = cc
does_answered p h hall hall' call changes reply given n question answer (calls.Does.step_no_pin number now query tx frame frames is fr latest asked known none) rooted by told last = cc
does_answered p h hall hall' call changes reply given n question answer (calls.Does.step_not_held number now m query tx frame frames is fr latest asked known picks out) rooted by told last = cc
does_answered p h hall hall' call changes reply given n question answer (calls.Does.step_query number now m query tx tx' frame frames db pins answered is fr latest asked known picks asks) rooted by told last = cc
does_answered p h hall hall' call changes reply given n question answer (calls.Does.step_unknown number now sheet argument tx frame frames is fr latest asked out) rooted by told last = cc
does_answered p h hall hall' call changes reply given n question answer (calls.Does.step_hit number now sheet argument tx frame frames entry entries is fr latest asked there looks same) rooted by told last = cc
does_answered p h hall hall' call changes reply given n question answer (calls.Does.step_deep number now sheet argument tx frame frames entries is fr latest asked there looks same deep) rooted by told last = cc
does_answered p h hall hall' call changes reply given n question answer (calls.Does.step_miss number now sheet argument tx frame frames entries is fr latest asked there looks same room) rooted by told last = cc
does_answered p h hall hall' call changes reply given n question answer (calls.Does.step_done number now reading tx frame below frames entries is fr asked enters) rooted by told last = cc
does_answered p h hall hall' call changes reply given n question answer (calls.Does.step_last number now reading tx frame entries is fr asked enters) rooted by told last =
    let its = eqb-true n number by in
    let own = found number hall.books.txs tx is in
    let asked-for : last_asked n h ≡ Some (of_sheet frame.point.sheet frame.point.argument) = ap (λ k. last_asked k h) (its ∙ sym own.1) ∙ rooted.roots tx own.0 _ (ap root fr) in
    let asked = same_Some _ question (sym asked-for ∙ last) in cc
does_answered p h hall hall' call changes reply given n question answer (calls.Does.committed number tx is) rooted by told last = cc
does_answered p h hall hall' call changes reply given n question answer (calls.Does.aborted number tx is) rooted by told last = cc
does_answered p h hall hall' call changes reply given n question answer (calls.Does.wrote cs moment db is written) rooted by told last = cc
does_answered p h hall hall' call changes reply given n question answer (calls.Does.delivered row rows entries first closes) rooted by told last = cc
does_answered p h hall hall' call changes reply given n question answer (calls.Does.swept now age db entries unpins drops) rooted by told last = cc

pub answered : (p : Rules) (o : Origin) (h : List Event) (hall : Hall) → Lives p o h hall → (n : ℕ) (question : Question) (reading : Reading) → AnsweredIn n question reading h → GivenIn (given_as n question reading) h
answered p o h hall (traces.Lives.made db first size hall₀ makes sound at records) n question reading none = none
answered p o h hall (traces.Lives.then trace before after event lives does sound) n question reading either =
    ⊎_elim
    (λ here. inl (does_answered p trace before after event.call event.changes event.reply event.given n question reading does (rooted p o trace before lives) here.0 here.1 here.2))
    (λ earlier. inr (answered p o trace before lives n question reading earlier))
    either
