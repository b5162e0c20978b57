-- The order of the entries after each call gives what the call does to the set of them.
use Rattle.std.proofs.Common.{◌≡◌, ℕ, zero, suc, ◌+◌, ◌<◌, ◌≤◌, not, ◌⊎◌, List, [], ◌∷◌, ◌++◌, map, length, get_or, take, drop, Some, None, filter, Option, sym, refl, ap, ◌∙◌, subst, inl, inr, ⊎_elim, arith}
use Rattle.std.proofs.lemmas.List.{drop_more, take-append-drop}
use Rattle.std.proofs.lemmas.List.Filters.{length-filter_both}
use Rattle.std.proofs.lemmas.Bool.{not-true, not_from_false}
use Rattle.std.specs.List.{slice_get}
use Rattle.terms.specs.declared.tag.Tag.{Tag}
use Rattle.cache.specs.declared.entry.Entry.{Entry}
use Rattle.cache.specs.Lists.{Among, Same}
use Rattle.cache.specs.Calls.{Inserts, Enters, Closes, Drops}
use Rattle.cache.specs.Entries.{closed, gives_way, ended_by}
use Rattle.cache.proofs.Members.{among_append, among_left, among_right, among_map, among_mapped, among_kept, kept_among}
use Rattle.recency.specs.Nodes.{pushed}
use Rattle.recency.specs.Places.{stays, outlasts}

-- an entry that is brought to the front stays among the entries, with all others
pub same_raise : (es : List Entry) (place : ℕ) (d : Entry) → place < length es → Same es (get_or es place d ∷ (take place es ++ drop (place + 1) es))
same_raise es place d h =
    let parts : take place es ++ get_or es place d ∷ drop (place + 1) es ≡ es = ap (λ l. take place es ++ l) (sym (drop_more es place d h)) ∙ take-append-drop place es in
    record {
      there = λ x a. ⊎_elim
          (λ l. inr (among_left x (take place es) (drop (place + 1) es) l))
          (λ r. ⊎_elim (λ is. inl is) (λ t. inr (among_right x (take place es) (drop (place + 1) es) t)) r)
          (among_append x (take place es) (get_or es place d ∷ drop (place + 1) es) (subst (Among x) (sym parts) a));
      back = λ x a. subst (Among x) parts (⊎_elim
          (λ is. among_right x (take place es) (get_or es place d ∷ drop (place + 1) es) (inl is))
          (λ t. ⊎_elim
          (λ l. among_left x (take place es) (get_or es place d ∷ drop (place + 1) es) l)
          (λ r. among_right x (take place es) (get_or es place d ∷ drop (place + 1) es) (inr r))
          (among_append x (take place es) (drop (place + 1) es) t))
          a);
    }

take_among : {X : Type 0} (x : X) (n : ℕ) (xs : List X) → Among x (take n xs) → Among x xs
take_among x zero xs h = absurd h
take_among x (suc n) [] h = absurd h
take_among x (suc n) (y ∷ xs) h = ⊎_elim (λ e. inl e) (λ t. inr (take_among x n xs t)) h

-- of a list that is at most one too long, at most the last is lost
last_lost : {X : Type 0} (x : X) (n : ℕ) (xs : List X) → length xs ≤ suc n → Among x xs → Among x (take n xs) ⊎ (slice_get xs n ≡ Some x)
last_lost x n [] h a = absurd a
last_lost x zero (y ∷ []) h a = ⊎_elim (λ e. inr (ap Some (sym e))) (λ none. absurd none) a
last_lost x zero (y ∷ z ∷ xs) h a = let no : ⊥ = omega arith in absurd no
last_lost x (suc n) (y ∷ xs) h a =
    ⊎_elim (λ e. inl (inl e)) (λ t. ⊎_elim (λ l. inl (inr l)) (λ r. inr r) (last_lost x n xs (omega arith) t)) a

pub inserts_push : (n : ℕ) (new : Entry) (es : List Entry) → length es ≤ suc n → Inserts es new (new ∷ take n (filter (stays new) es))
inserts_push n new es few =
    let ks = filter (stays new) es in
    let short : length ks ≤ suc n = omega (arith, length-filter_both (stays new) (λ e. not (stays new e)) (λ _. refl) es) in
    record {
      added = inl refl;
      old = λ e a. ⊎_elim
          (λ is. inl is)
          (λ t. let k = kept_among (stays new) e es (take_among e n ks t) in inr (k.0, not-true (gives_way new e) k.1))
          a;
      gone = slice_get ks n;
      kept = λ e a no. ⊎_elim (λ l. inl (inr l)) (λ r. inr r)
          (last_lost e n ks short (among_kept (stays new) e es a (not_from_false (gives_way new e) no)));
    }

pub enters_pushed : (n : ℕ) (new : Option Entry) (es fs : List Entry) → 1 ≤ n → length es ≤ n → fs ≡ pushed n new es → Enters es new fs
enters_pushed n None es fs some few is = is
enters_pushed zero (Some new) es fs some few is = let no : ⊥ = omega arith in absurd no
enters_pushed (suc n) (Some new) es fs some few is = subst (Inserts es new) (sym is) (inserts_push n new es few)

pub closes_map : (tag : Tag) (n : ℕ) (es fs : List Entry) → fs ≡ map (closed tag n) es → Closes es tag n fs
closes_map tag n es fs is = subst (Closes es tag n) (sym is) (record {
  each = λ e a. among_map (closed tag n) e es a;
  only = λ e a. among_mapped (closed tag n) e es a;
})

pub drops_kept : (moment : ℕ) (es fs : List Entry) → fs ≡ filter (outlasts moment) es → Drops es moment fs
drops_kept moment es fs is = subst (Drops es moment) (sym is) (record {
  stay = λ e a no. among_kept (outlasts moment) e es a (not_from_false (ended_by moment e) no);
  only = λ e a. let k = kept_among (outlasts moment) e es a in (k.0, not-true (ended_by moment e) k.1);
})
