-- What a look-up finds right after one insert into a cache without entries.
use Rattle.std.proofs.Common.{◌≡◌, ℕ, true, eqb, List, [], ◌∷◌, Some, None, Option, sym, refl, ap, ◌∙◌, subst, inl, ⊎_elim}
use Rattle.std.proofs.lemmas.Bool.{and_from, and_parts, cases_Bool, cond_both, cond-true, cond-false, eq-eqb}
use Rattle.terms.specs.declared.interval.Interval.{Interval}
use Rattle.terms.specs.declared.tag.Tag.{Tag}
use Rattle.terms.specs.Records.{Reading}
use Rattle.cache.specs.declared.entry.Entry.{Entry}
use Rattle.cache.specs.declared.key.Key.{Key}
use Rattle.cache.specs.Keys.{is_key}
use Rattle.cache.specs.Lists.{Among}
use Rattle.cache.specs.TagSets.{packed}
use Rattle.cache.specs.Entries.{accepts, accepted, covers}
use Rattle.cache.specs.Calls.{Looks, Inserts, Enters}
use Rattle.split.specs.Halves.{seen}

key_refl : (key : Key) → is_key key key ≡ true
key_refl key = and_from (eqb key.sheet key.sheet) (eqb key.argument key.argument) (eq-eqb key.sheet key.sheet refl) (eq-eqb key.argument key.argument refl)

module _ (moment delivered : ℕ) where
  one_entry : (e : Entry) (fs : List Entry) (r : Option Entry) → Inserts [] e fs → Looks fs e.key (moment ∷ []) delivered r → r ≡ seen delivered moment (Some e)
  one_entry e fs None ins miss = ⊎_elim
      (λ t. absurd (miss e ins.added moment (inl refl) (and_from (is_key e.key e.key) (covers delivered e moment) (key_refl e.key) t)))
      (λ f. sym (cond-false (covers delivered e moment) (Some e) None f))
      (cases_Bool (covers delivered e moment))
  one_entry e fs (Some hit) ins h =
      let is : hit ≡ e = ⊎_elim (λ same. same) (λ was. absurd was.0) (ins.old hit h.0) in
      let at : h.1.0 ≡ moment = ⊎_elim (λ same. same) (λ none. absurd none) h.1.1 in
      let covered : covers delivered hit h.1.0 ≡ true = (and_parts (is_key e.key hit.key) (covers delivered hit h.1.0) h.1.2).1 in
      let here : covers delivered e moment ≡ true = ap (λ (m : ℕ). covers delivered e m) (sym at) ∙ ap (λ (x : Entry). covers delivered x h.1.0) (sym is) ∙ covered in
      ap Some is ∙ sym (cond-true (covers delivered e moment) (Some e) None here)

  no_entry : (key : Key) (fs : List Entry) (r : Option Entry) → fs ≡ [] → Looks fs key (moment ∷ []) delivered r → r ≡ None
  no_entry key fs None is h = refl
  no_entry key fs (Some hit) is h = absurd (subst (Among hit) is h.0)

  pub only_seen : (key : Key) (reading : Reading) (interval : Interval) (tags : List Tag) (es fs : List Entry) (r : Option Entry) → es ≡ [] → Enters es (accepted key reading interval tags) fs → Looks fs key (moment ∷ []) delivered r → r ≡ seen delivered moment (accepted key reading interval tags)
  only_seen key reading interval tags es fs r none =
      let e : Entry = record { key = key; reading = reading; interval = interval; tags = packed tags } in
      cond_both (accepts key interval tags) (Some e) None
      (λ (new : Option Entry). Enters es new fs → Looks fs key (moment ∷ []) delivered r → r ≡ seen delivered moment new)
      (λ _ ins h. one_entry e fs r (subst (λ (l : List Entry). Inserts l e fs) none ins) h)
      (λ _ is h. no_entry key fs r (is ∙ none) h)
