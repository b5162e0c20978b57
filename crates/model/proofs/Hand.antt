-- The day that was worked out by hand.
use Rattle.std.proofs.Common.{◌≡◌, ℕ, ◌≤◌, true, false, [], ◌∷◌, Some, None, sym, refl, ap, ◌∙◌, inl, inr, ⊎_elim, arith, lit<}
use Rattle.std.proofs.lemmas.Bool.{both_ways}
use Rattle.terms.specs.declared.interval.Until.TheVariants.{Ended, Open}
use Rattle.database.proofs.Rows.{keys_in}
use Rattle.validity.specs.Versions.{rows_at}
use Rattle.versions.specs.Versions.{state_at}
use Rattle.cache.specs.declared.entry.Entry.{Entry}
use Rattle.cache.specs.declared.key.Key.{Key}
use Rattle.cache.specs.Lists.{Among}
use Rattle.cache.specs.Entries.{answers}
use Rattle.recipe.specs.Recipes.{done, call}
use Rattle.recipe.proofs.Worths.{claim_gives, tally_runs}
use Rattle.model.specs.Worked.{Worked, at13, entry_of}

abbrev sought : Key
sought = record { sheet = 0; argument = 0 }

abbrev closed_entry : Entry
closed_entry = entry_of (Some (0, 0)) 11 (Ended 12)

abbrev open_entry : Entry
open_entry = entry_of None 13 (Open 13)

-- with the messages up to 12 delivered, none of the two entries covers 13
beyond : (e : Entry) → Among e (closed_entry ∷ open_entry ∷ []) → (m : ℕ) → Among m (11 ∷ 13 ∷ []) → answers sought 12 e m ≡ true → m ≤ 11
beyond e a m b ans =
    ⊎_elim (λ is. omega arith)
    (λ rest. ⊎_elim
    (λ is. absurd (⊎_elim
    (λ first. let t : answers sought 12 e m ≡ answers sought 12 closed_entry 13 = ap (λ x. answers sought 12 x m) first ∙ ap (answers sought 12 closed_entry) is in both_ways false refl (sym t ∙ ans))
    (λ more. ⊎_elim (λ second. let t : answers sought 12 e m ≡ answers sought 12 open_entry 13 = ap (λ x. answers sought 12 x m) second ∙ ap (answers sought 12 open_entry) is in both_ways false refl (sym t ∙ ans)) (λ none. none) more) a))
    (λ none. absurd none) rest) b

pub by_hand : Worked
by_hand = record {
  door_at_11 = refl;
  door_at_12 = refl;
  door_at_13 = refl;
  free_at_12 = refl;
  look_at_12 = (inl refl, (11, inl refl, refl, beyond));
  look_at_13 = (inr (inl refl), (13, inr (inl refl), refl, λ e a m b ans. ⊎_elim (λ is. omega arith) (λ rest. ⊎_elim (λ is. omega arith) (λ none. absurd none) rest) b));
  fresh_at_130 = refl;
  old_at_131 = refl;
  taken_at_105 = refl;
  present_at_106 = refl;
  claim_at_12 = (0, claim_gives (state_at at13.kept 12) 900);
  claim_at_13 = (0, claim_gives (state_at at13.kept 13) 900);
  board_at_12 =
      let s = state_at at13.kept 12 in (
        1,
        (
          lit< tt,
          (
            _,
            call {left = 31} 0 0 None refl (lit< tt) (tally_runs s 0 0 [] refl (keys_in 0 0 (rows_at 12 at13.kept) refl)).1
                (call {left = 30} 0 1 (Some (1, 5)) refl (lit< tt) (tally_runs s 1 0 (5 ∷ []) refl (keys_in 0 1 (rows_at 12 at13.kept) refl)).1
                (done {left = 29} refl)),
          ),
        ),
      );
}
