-- A run has one end, and rests on the records that its tags touch.
use Rattle.std.proofs.Common.{◌≡◌, ℕ, suc, List, [], ◌∷◌, ◌++◌, sym, subst}
use Rattle.terms.specs.declared.record.Query.{Query}
use Rattle.terms.specs.declared.tag.Tag.{Tag}
use Rattle.terms.specs.Records.{Reading}
use Rattle.database.specs.States.{Records, Reads}
use Rattle.database.proofs.Readings.{reads_one, reads_alike}
use Rattle.recipe.specs.declared.Point.{Point}
use Rattle.recipe.specs.declared.Ask.{Ask}
use Rattle.recipe.specs.declared.Ask.TheVariants.{Query as Asked, Call, Done}
use Rattle.recipe.specs.Recipes.{Rules, start, after, Runs, done, query, call, AgreeAll, ValueIsOne, ValueRests}

pub clash_done : {x : Ask} {k : Query} {r : Reading} → x ≡ Asked k → x ≡ Done r → ⊥
clash_done a b = cc

pub clash_call : {x : Ask} {sh a : ℕ} {r : Reading} → x ≡ Call sh a → x ≡ Done r → ⊥
clash_call a b = cc

pub clash_query : {x : Ask} {sh a : ℕ} {k : Query} → x ≡ Call sh a → x ≡ Asked k → ⊥
clash_query a b = cc

pub done_one : {x : Ask} {r w : Reading} → x ≡ Done r → x ≡ Done w → r ≡ w
done_one a b = cc

pub query_one : {x : Ask} {k j : Query} → x ≡ Asked k → x ≡ Asked j → k ≡ j
query_one a b = cc

pub call_sheet : {x : Ask} {sh a th b : ℕ} → x ≡ Call sh a → x ≡ Call th b → sh ≡ th
call_sheet e f = cc

pub call_argument : {x : Ask} {sh a th b : ℕ} → x ≡ Call sh a → x ≡ Call th b → a ≡ b
call_argument e f = cc

-- two runs from one point end alike, whatever answers and depth each had
pub same_end : {p : Rules} {s : Records} {d n e m : ℕ} {q : Point} {r w : Reading} {ts us : List Tag} → Runs p s d n q r ts → Runs p s e m q w us → r ≡ w
same_end (done f) (done g) = done_one f g
same_end (done f) (query k v g known reads y) = absurd (clash_done g f)
same_end (done f) (call sh a v g there x y) = absurd (clash_call g f)
same_end (query k v f known reads x) (done g) = absurd (clash_done f g)
same_end {p} {s} {e = e} {q = q} {w = w} (query k v f known reads x) (query {left = m} {tags = us} j u g known' reads' y) =
    let again : Reads s k u = subst (λ i. Reads s i u) (query_one g f) reads' in
    let same : u ≡ v = reads_one k s u v again reads in
    same_end x (subst (λ i. Runs p s e m (after (p.turn q) q i) w us) same y)
same_end (query k v f known reads x) (call sh a u g there y z) = absurd (clash_query g f)
same_end (call sh a v f there x y) (done g) = absurd (clash_call f g)
same_end (call sh a v f there x y) (query k u g known reads z) = absurd (clash_query f g)
same_end {p} {s} {q = q} {w = w} (call sh a v f there x y) (call {depth = e} {left = m} {tags = us} {inner = is} th b u g there' x' y') =
    let moved = subst (λ j. Runs p s e 32 (start sh j) u is) (call_argument g f) (subst (λ i. Runs p s e 32 (start i b) u is) (call_sheet g f) x') in
    let same : u ≡ v = sym (same_end x moved) in
    same_end y (subst (λ i. Runs p s (suc e) m (after (p.turn q) q i) w us) same y')

pub value_is_one : (rules : Rules) → ValueIsOne rules
value_is_one rules records sheet argument one other (d, (in-it, (ts, x))) (e, (in-too, (us, y))) = same_end x y

-- what agrees on two lists of tags together agrees on each
pub agree_split : (xs ys : List Tag) (one other : Records) → AgreeAll (xs ++ ys) one other → AgreeAll xs one other × AgreeAll ys one other
agree_split [] ys one other a = (tt, a)
agree_split (x ∷ xs) ys one other a = let rest = agree_split xs ys one other a.1 in ((a.0, rest.0), rest.1)

rests : {p : Rules} {s z : Records} {d n : ℕ} {q : Point} {r : Reading} {ts : List Tag} → Runs p s d n q r ts → AgreeAll ts s z → Runs p z d n q r ts
rests (done f) agree = done f
rests {s = s} {z = z} (query k v f known reads x) agree = query k v f known (reads_alike k s z v agree.0 reads) (rests x agree.1)
rests {s = s} {z = z} (call {tags = ts} {inner = is} sh a v f there x y) agree =
    let each = agree_split is ts s z agree in call sh a v f there (rests x each.0) (rests y each.1)

pub value_rests : (rules : Rules) → ValueRests rules
value_rests rules one other depth left point reading tags run agree = rests run agree
