-- Steps of a walk that looks for the entry with the newest listed moment.
use Rattle.std.proofs.Common.{◌≡◌, ℕ, ◌+◌, ◌<◌, ◌≤◌, true, ltb, List, [], ◌∷◌, ◌++◌, length, get_or, Some, None, Option, refl, sym, ap, ◌∙◌, subst, ⊎_elim, arith}
use Rattle.std.specs.List.{fold, enumerate_from}
use Rattle.std.proofs.lemmas.List.{append_assoc, append-nil, length_push, get_or_push, get_or_append_left}
use Rattle.std.proofs.lemmas.Bool.{cond_both, ltb-true, ltb-false}
use Rattle.cache.specs.declared.call.LookUp.{LookUp}
use Rattle.cache.specs.declared.entry.Entry.{Entry}
use Rattle.cache.specs.Lists.{Among}
use Rattle.cache.specs.Calls.{LooksUp, Newest}
use Rattle.cache.specs.Entries.{blank_entry, answers}
use Rattle.cache.proofs.Members.{among_push, among_get_d, newest_greatest}
use Rattle.recency.specs.declared.place.Found.{Found}
use Rattle.recency.specs.Places.{newest_of, better, Finds}

module _ (wanted : LookUp) where
  -- the entry answers the moment
  abbrev hit : Entry → ℕ → Type 0
  hit e m = answers wanted.key wanted.delivered e m ≡ true

  -- the best so far: no entry answers a listed moment above that which is found
  abbrev pub Leads : List Entry → Option Found → Type 0
  Leads es None = LooksUp es wanted None
  Leads es (Some found) =
      (found.place < length es)
      × Among found.moment wanted.moments.now
      × hit (get_or es found.place blank_entry) found.moment
      × ((e : Entry) → Among e es → (m : ℕ) → Among m wanted.moments.now → hit e m → m ≤ found.moment)

  at_last : (e x : Entry) (m : ℕ) → e ≡ x → hit e m → hit x m
  at_last e x m is t = subst (λ (y : Entry). hit y m) is t

  pub leads_push : (es : List Entry) (best : Option Found) (x : Entry) (newest : Option ℕ) → Leads es best → Newest (answers wanted.key wanted.delivered x) wanted.moments.now newest → Leads (es ++ x ∷ []) (better best (length es) newest)
  leads_push es None x None h k = λ e a m b t.
      ⊎_elim (λ l. h e l m b t) (λ is. k m b (at_last e x m is t)) (among_push e es x a)
  leads_push es (Some found) x None h k = (
    omega (arith, length_push es x),
    h.1,
    ap (λ (y : Entry). answers wanted.key wanted.delivered y found.moment) (get_or_append_left es (x ∷ []) blank_entry found.place h.0) ∙ h.2,
    λ e a m b t. ⊎_elim (λ l. h.3 e l m b t) (λ is. absurd (k m b (at_last e x m is t))) (among_push e es x a),
  )
  leads_push es None x (Some moment) h k = (
    omega (arith, length_push es x),
    k.0,
    ap (λ (y : Entry). answers wanted.key wanted.delivered y moment) (get_or_push es x blank_entry (length es) refl) ∙ k.1,
    λ e a m b t. ⊎_elim (λ l. absurd (h e l m b t)) (λ is. k.2 m b (at_last e x m is t)) (among_push e es x a),
  )
  leads_push es (Some found) x (Some moment) h k =
      cond_both (ltb found.moment moment) (Some (record { place = length es; moment = moment })) (Some found)
      (λ (best : Option Found). Leads (es ++ x ∷ []) best)
      (λ won. let below = ltb-true found.moment moment won in (
        omega (arith, length_push es x),
        k.0,
        ap (λ (y : Entry). answers wanted.key wanted.delivered y moment) (get_or_push es x blank_entry (length es) refl) ∙ k.1,
        λ e a m b t. ⊎_elim (λ l. let le = h.3 e l m b t in omega arith) (λ is. k.2 m b (at_last e x m is t)) (among_push e es x a),
      ))
      (λ lost. let below = ltb-false found.moment moment lost in (
        omega (arith, length_push es x),
        h.1,
        ap (λ (y : Entry). answers wanted.key wanted.delivered y found.moment) (get_or_append_left es (x ∷ []) blank_entry found.place h.0) ∙ h.2,
        λ e a m b t. ⊎_elim (λ l. h.3 e l m b t) (λ is. let le = k.2 m b (at_last e x m is t) in omega arith) (among_push e es x a),
      ))

  abbrev step : Option Found → ℕ × Entry → Option Found
  step so_far next = better so_far next.0 (newest_of wanted next.1)

  leads_fold : (es fs : List Entry) (n : ℕ) (so_far : Option Found) → n ≡ length es → Leads es so_far → Leads (es ++ fs) (fold step so_far (enumerate_from n fs))
  leads_fold es [] n so_far is so = subst (λ l. Leads l so_far) (sym (append-nil es)) so
  leads_fold es (x ∷ fs) n so_far is so =
      let newest = newest_greatest (answers wanted.key wanted.delivered x) wanted.moments.now (newest_of wanted x) refl in
      let pushed = leads_push es so_far x (newest_of wanted x) so newest in
      subst (λ l. Leads l (fold step so_far (enumerate_from n (x ∷ fs)))) (append_assoc es (x ∷ []) fs)
      (leads_fold (es ++ x ∷ []) fs (n + 1) (better so_far n (newest_of wanted x)) (omega (arith, length_push es x))
      (subst (λ (j : ℕ). Leads (es ++ x ∷ []) (better so_far j (newest_of wanted x))) (sym is) pushed))

  pub leads_all : (es : List Entry) (found : Option Found) → found ≡ fold step None (enumerate_from 0 es) → Leads es found
  leads_all es found is = subst (λ (o : Option Found). Leads es o) (sym is) (leads_fold [] es 0 None refl (λ e a m b t. a))

  pub best_none : (es : List Entry) → None ≡ fold step None (enumerate_from 0 es) → Finds es wanted None
  best_none es is = leads_all es None is

  pub best_some : (es : List Entry) (found : Found) → Some found ≡ fold step None (enumerate_from 0 es) → Finds es wanted (Some found.place)
  best_some es found is =
      let h = leads_all es (Some found) is in
      (h.0, (among_get_d es found.place blank_entry h.0, (found.moment, h.1, h.2, h.3)))
