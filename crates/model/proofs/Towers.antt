-- Sheets that are being worked out: partial runs, and frames that wait for one another.
use Rattle.std.proofs.Common.{◌≡◌, ℕ, zero, suc, ◌+◌, ◌-◌, ◌<◌, ◌≤◌, max, true, List, [], ◌∷◌, map, Some, None, Option, sym, refl, ap, ◌∙◌, subst, inr, arith}
use Rattle.std.proofs.lemmas.Option.{none-some, same_Some}
use Rattle.terms.specs.declared.record.Query.{Query}
use Rattle.terms.specs.declared.tag.Tag.{Tag}
use Rattle.terms.specs.Records.{Reading, known_table}
use Rattle.database.specs.States.{Records, Reads}
use Rattle.database.specs.Databases.{Db}
use Rattle.recipe.specs.declared.Point.{Point}
use Rattle.recipe.specs.declared.Ask.TheVariants.{Query as Asked, Call as Called, Done}
use Rattle.recipe.specs.Recipes.{Rules, start, after, table_of, Runs, done, query, call, Ends, Gives}
use Rattle.model.specs.Books.{Part, Frame, whole_part, fresh_frame}
use Rattle.model.specs.Rules.{meet, cut}
use Rattle.model.specs.Calls.{handed}
use Rattle.model.specs.Traces.{Origin, Event}
use Rattle.model.proofs.Claims.{Claim, claim_map, claim_meet}

-- the points that a run over the records comes to, after so many answers
pub data Comes (p : Rules) (z : Records) : ℕ → Point → Type 0 where
  here : (sheet argument : ℕ) → Comes p z 0 (start sheet argument)
  queried : (n : ℕ) (q : Point) (k : Query) (v : Reading) → Comes p z n q → (p.turn q).ask ≡ Asked k → known_table (table_of k) ≡ true → Reads z k v → Comes p z (n + 1) (after (p.turn q) q v)
  called : (n : ℕ) (q : Point) (sheet argument : ℕ) (v : Reading) → Comes p z n q → (p.turn q).ask ≡ Called sheet argument → Gives p z sheet argument v → Comes p z (n + 1) (after (p.turn q) q v)

-- a run has room in every greater depth
deeper : {p : Rules} {z : Records} {d n : ℕ} {q : Point} {r : Reading} {ts : List Tag} (e : ℕ) → d ≤ e → Runs p z d n q r ts → Runs p z e n q r ts
deeper e l (done f) = done f
deeper e l (query k v f known reads x) = query k v f known reads (deeper e l x)
deeper (suc e) l (call sh a v f there x y) = call sh a v f there (deeper e (omega arith) x) (deeper (suc e) l y)
deeper zero l (call sh a v f there x y) = absurd (omega arith)

-- a partial run goes on to the end that a run from its point has
whole_run : (p : Rules) (z : Records) (n left d : ℕ) (q : Point) (r : Reading) → Comes p z n q → n + left ≡ 32 → Ends p z d left q r → (e : ℕ) × Ends p z e 32 (start q.sheet q.argument) r
whole_run p z n left d q r (here sh a) e x = (d, subst (λ k. Ends p z d k (start sh a) r) (omega arith) x)
whole_run p z n left d q r (queried m w k v c is known reads) e x = whole_run p z m (suc left) d w r c (omega arith) (_, query k v is known reads x.1)
whole_run p z n left d q r (called m w sh a v c is gives) e x =
    let top = max d gives.0 in
    whole_run p z m (suc left) (suc top) w r c (omega arith) (_, call sh a v is gives.1.0 (deeper top (omega arith) gives.1.1.1) (deeper (suc top) (omega arith) x.1))

-- a sheet that is done has the value
pub done_gives : (p : Rules) (z : Records) (n : ℕ) (q : Point) (r : Reading) → q.sheet < p.sheets → n < 32 → Comes p z n q → (p.turn q).ask ≡ Done r → Gives p z q.sheet q.argument r
done_gives p z n q r there few c is =
    let x = whole_run p z n (suc (31 - n)) 0 q r c (omega arith) ([], done is) in (x.0, (there, x.1))

-- a frame that waits for a sheet: with the reading it comes to its next point
pub record Waits (p : Rules) (z : Records) (g : Frame) (sheet argument : ℕ) : Type 0 where
  pub count : ℕ
  pub from : Point
  pub comes : Comes p z count from
  pub asks : (p.turn from).ask ≡ Called sheet argument
  pub next : g.answers ≡ count + 1
  pub onto : (v : Reading) → (handed v g).point ≡ after (p.turn from) from v

-- the frames from the top down to the i-th have come to their points
abbrev pub BelowTo : Rules → Records → ℕ → Frame → List Frame → Type 0
BelowTo p z i f [] = Unit {0}
BelowTo p z zero f (g ∷ gs) = Unit {0}
BelowTo p z (suc i) f (g ∷ gs) = Waits p z g f.point.sheet f.point.argument × BelowTo p z i g gs

abbrev pub TowerTo : Rules → Records → ℕ → List Frame → Type 0
TowerTo p z i [] = Unit {0}
TowerTo p z i (f ∷ fs) = Comes p z f.answers f.point × BelowTo p z i f fs

abbrev pub nth : {X : Type 0} → ℕ → List X → Option X
nth i [] = None
nth zero (x ∷ xs) = Some x
nth (suc i) (x ∷ xs) = nth i xs

-- each frame claims, over its part, that the frames from the top down to it have come to their points
abbrev pub Stack : Rules → Origin → List Event → Db → List Frame → Type 0
Stack p o h db frames = (i : ℕ) (g : Frame) → nth i frames ≡ Some g → Claim o h db g.part (λ z. TowerTo p z i frames)

-- the frames below see only the sheet and the argument of the one above, and no parts
below_cut : (p : Rules) (z : Records) (i : ℕ) (part : Part) (f f' : Frame) (fs : List Frame) → f'.point.sheet ≡ f.point.sheet → f'.point.argument ≡ f.point.argument → BelowTo p z i f fs → BelowTo p z i f' (map (cut part) fs)
below_cut p z i part f f' [] s a b = tt
below_cut p z zero part f f' (g ∷ gs) s a b = tt
below_cut p z (suc i) part f f' (g ∷ gs) s a b = (
  subst (λ y. Waits p z (cut part g) f'.point.sheet y) (sym a) (subst (λ x. Waits p z (cut part g) x f.point.argument) (sym s)
      (record { count = b.0.count; from = b.0.from; comes = b.0.comes; asks = b.0.asks; next = b.0.next; onto = b.0.onto })),
  below_cut p z i part g (cut part g) gs refl refl b.1,
)

below_same : (p : Rules) (z : Records) (i : ℕ) (f f' : Frame) (fs : List Frame) → f'.point.sheet ≡ f.point.sheet → f'.point.argument ≡ f.point.argument → BelowTo p z i f fs → BelowTo p z i f' fs
below_same p z i f f' [] s a b = tt
below_same p z zero f f' (g ∷ gs) s a b = tt
below_same p z (suc i) f f' (g ∷ gs) s a b =
    (subst (λ y. Waits p z g f'.point.sheet y) (sym a) (subst (λ x. Waits p z g x f.point.argument) (sym s) b.0), b.1)

pub nth_cut : (part : Part) (i : ℕ) (fs : List Frame) (g : Frame) → nth i (map (cut part) fs) ≡ Some g → (was : Frame) × (nth i fs ≡ Some was) × (g ≡ cut part was)
nth_cut part i [] g e = absurd (none-some g e)
nth_cut part zero (f ∷ fs) g e = (f, refl, same_Some g (cut part f) (sym e))
nth_cut part (suc i) (f ∷ fs) g e = nth_cut part i fs g e

-- the claims stay where the top frame has the part that it had
old_claim : (p : Rules) (o : Origin) (h : List Event) (db : Db) (f f' : Frame) (fs : List Frame) → f'.part ≡ f.part → Stack p o h db (f ∷ fs) → (i : ℕ) (was : Frame) → nth i (f' ∷ fs) ≡ Some was → Claim o h db was.part (λ z. TowerTo p z i (f ∷ fs))
old_claim p o h db f f' fs same stack zero was e =
    subst (λ part. Claim o h db part (λ z. TowerTo p z 0 (f ∷ fs))) (sym same ∙ ap (λ (x : Frame). x.part) (same_Some f' was e)) (stack 0 f refl)
old_claim p o h db f f' fs same stack (suc i) was e = stack (suc i) was e

-- what holds of all records is claimed of all moments
pub whole_claim : (o : Origin) (h : List Event) (db : Db) (P : Records → Type 0) → ((z : Records) → P z) → Claim o h db whole_part P
whole_claim o h db P all = record { within = tt; begins = omega arith; rests = inr refl; holds = λ m hd l un z agree. all z }

-- the top frame is given a reading that is right at Q, and every frame is cut to the part of Q
pub stack_given : (p : Rules) (o : Origin) (h : List Event) (db : Db) (part : Part) (Q : Records → Type 0) (f f' : Frame) (fs : List Frame)
    → f'.part ≡ f.part → f'.point.sheet ≡ f.point.sheet → f'.point.argument ≡ f.point.argument
    → ((z : Records) → Q z → Comes p z f.answers f.point → Comes p z f'.answers f'.point)
    → Claim o h db part Q → Stack p o h db (f ∷ fs) → Stack p o h db (map (cut part) (f' ∷ fs))
stack_given p o h db part Q f f' fs same s a on claim stack i g e =
    let was = nth_cut part i (f' ∷ fs) g e in
    let old = old_claim p o h db f f' fs same stack i was.0 was.1 in
    let both = claim_meet o h db was.0.part part (λ z. TowerTo p z i (f ∷ fs)) Q old claim in
    subst (λ x. Claim o h db x.part (λ z. TowerTo p z i (map (cut part) (f' ∷ fs)))) (sym was.2)
    (claim_map o h db (meet was.0.part part) (λ z. TowerTo p z i (f ∷ fs) × Q z) (λ z. TowerTo p z i (map (cut part) (f' ∷ fs)))
    (λ z t. (on z t.1 t.0.0, below_cut p z i part f (cut part f') fs s a t.0.1)) both)

-- a frame is opened above the top one, which waits for it
pub stack_opened : (p : Rules) (o : Origin) (h : List Event) (db : Db) (f f' : Frame) (fs : List Frame) (sheet argument : ℕ)
    → f'.part ≡ f.part → f'.point.sheet ≡ f.point.sheet → f'.point.argument ≡ f.point.argument
    → ((z : Records) → Comes p z f.answers f.point → Waits p z f' sheet argument)
    → Stack p o h db (f ∷ fs) → Stack p o h db (fresh_frame sheet argument ∷ f' ∷ fs)
stack_opened p o h db f f' fs sheet argument same s a on stack zero g e =
    subst (λ (x : Frame). Claim o h db x.part (λ z. TowerTo p z 0 (fresh_frame sheet argument ∷ f' ∷ fs))) (same_Some (fresh_frame sheet argument) g e)
    (whole_claim o h db (λ z. TowerTo p z 0 (fresh_frame sheet argument ∷ f' ∷ fs)) (λ z. (here sheet argument, tt)))
stack_opened p o h db f f' fs sheet argument same s a on stack (suc i) g e =
    claim_map o h db g.part (λ z. TowerTo p z i (f ∷ fs)) (λ z. TowerTo p z (suc i) (fresh_frame sheet argument ∷ f' ∷ fs))
    (λ z t. (here sheet argument, (on z t.0, below_same p z i f f' fs s a t.1))) (old_claim p o h db f f' fs same stack i g e)

done_claim : (p : Rules) (o : Origin) (h : List Event) (db : Db) (f g : Frame) (gs : List Frame) (r : Reading) → Stack p o h db (f ∷ g ∷ gs) → (i : ℕ) (k : Frame) → nth i (handed r g ∷ gs) ≡ Some k → Claim o h db k.part (λ z. TowerTo p z (suc i) (f ∷ g ∷ gs))
done_claim p o h db f g gs r stack zero k e = subst (λ (x : Frame). Claim o h db x.part (λ z. TowerTo p z 1 (f ∷ g ∷ gs))) (same_Some (handed r g) k e) (stack 1 g refl)
done_claim p o h db f g gs r stack (suc i) k e = stack (suc (suc i)) k e

-- the top frame is done, and the one below is handed its reading
pub stack_done : (p : Rules) (o : Origin) (h : List Event) (db : Db) (f g : Frame) (gs : List Frame) (r : Reading) → f.point.sheet < p.sheets → f.answers < 32 → (p.turn f.point).ask ≡ Done r
    → Stack p o h db (f ∷ g ∷ gs) → Stack p o h db (handed r g ∷ gs)
stack_done p o h db f g gs r there few is stack i k e =
    claim_map o h db k.part (λ z. TowerTo p z (suc i) (f ∷ g ∷ gs)) (λ z. TowerTo p z i (handed r g ∷ gs))
    (λ z t.
    let w = t.1.0 in
    let gives = done_gives p z f.answers f.point r there few t.0 is in
    let on = called w.count w.from f.point.sheet f.point.argument r w.comes w.asks gives in (
      subst (λ q. Comes p z g.answers q) (sym (w.onto r)) (subst (λ n. Comes p z n (after (p.turn w.from) w.from r)) (sym w.next) on),
      below_same p z i g (handed r g) gs refl refl t.1.1,
    ))
    (done_claim p o h db f g gs r stack i k e)
