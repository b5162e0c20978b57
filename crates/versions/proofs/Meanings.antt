-- What each call makes of the store is what a database means by it.
use Rattle.std.specs.Prelude.{◌≡◌, ℕ, ◌+◌, ◌≤◌, min, true, None, List, length, filter, refl}
use Rattle.std.proofs.Common.{sym, ap, ◌∙◌, subst, arith}
use Rattle.std.proofs.lemmas.Bool.{or_right, or_left, eq-eqb}
use Rattle.std.proofs.lemmas.List.Sums.{length-filter, count_by-le-length}
use Rattle.terms.specs.declared.record.Change.{Change}
use Rattle.std.specs.List.{list_all}
use Rattle.database.specs.Rows.{holding, unique}
use Rattle.database.specs.Databases.{Pinned, can_pin, Unpins, UnpinsAll, Written}
use Rattle.terms.specs.Moments.{highest}
use Rattle.database.specs.Writes.{changed, refusal}
use Rattle.database.proofs.Changes.{no_refusal}
use Rattle.database.proofs.Sets.{among_added, among_without, every_kept}
use Rattle.validity.specs.Versions.{rows_at, dated}
use Rattle.validity.specs.declared.version.Version.{Version}
use Rattle.versions.specs.Versions.{needed, changed_by_all}
use Rattle.versions.specs.Soundness.{good}
use Rattle.versions.specs.Stores.{Store, meaning, needed_of, pinned, unpinned, unpinned_all, written, Good}
use Rattle.versions.proofs.Asking.{held_past}
use Rattle.versions.proofs.Writing.{rows_needed, rows_before, rows_late, rows_changes, dated_part, dated_changes, apart_changes, unique_part}

pub pins_latest : (s : Store) → can_pin (meaning s) ≡ true → Pinned (meaning s) s.latest (meaning (pinned s))
pins_latest s can = record { can = can; answer = refl; latest = refl; pins = λ n. among_added n s.latest s.pins; states = λ m t k h. refl }

pub unpins : (s : Store) (m : ℕ) → Unpins (meaning s) m (meaning (unpinned m s))
unpins s m = record { latest = refl; pins = λ n. among_without n m s.pins; states = λ n t k h. refl }

pub unpins_all : (s : Store) → UnpinsAll (meaning s) (meaning (unpinned_all s))
unpins_all s = record { latest = refl; pins = refl; states = λ n t k h. refl }

pub writes : (s : Store) (cs : List Change) → Good s → Written (meaning s) cs (s.latest + 1) (meaning (written cs s))
writes s cs good =
    let l = s.latest in
    let part = filter (needed l s.pins) s.kept in
    record {
      latest = refl;
      answer = refl;
      pins = λ n. refl;
      states = λ n t k a.
          let h = held_past s n good (or_right _ _ a) in
          ap (λ rows. holding rows t k) (rows_before n (l + 1) cs part (omega arith) ∙ rows_needed l n s.pins s.kept (or_right _ _ a));
      newest = λ t k.
          rows_changes (l + 1) cs part (dated_part (needed l s.pins) l s.kept good.dates) t k
          ∙ ap (λ rows. changed cs (holding rows) t k)
          (rows_late l (l + 1) part (omega arith) (every_kept (dated l) (needed l s.pins) s.kept good.dates)
          ∙ rows_needed l l s.pins s.kept (or_left _ _ (eq-eqb l l refl)));
    }

-- a store that has, at the moment m after the latest, the needed versions with the changes
pub wrote : (s z : Store) (cs : List Change) (part : List Version) (m : ℕ) → refusal s.latest (meaning s).free cs ≡ None → z.places ≡ s.places → z.latest ≡ min (s.latest + 1) highest → m ≡ z.latest → z.pins ≡ s.pins → part ≡ needed_of s → z.kept ≡ changed_by_all m cs part → z ≡ written cs s
wrote s z cs part m none places least answer pins p kept =
    let room = no_refusal s.latest (meaning s).free cs none in
    let latest : z.latest ≡ s.latest + 1 = omega (arith, room.0) in
    let made : ℕ → ℕ → List ℕ → List Version → Store = λ places latest pins kept. record { places = places; latest = latest; pins = pins; kept = kept } in
    ap (λ k. made k z.latest z.pins z.kept) places
    ∙ ap (λ k. made s.places k z.pins z.kept) latest
    ∙ ap (λ k. made s.places (s.latest + 1) k z.kept) pins
    ∙ ap (made s.places (s.latest + 1) s.pins) (kept ∙ ap (λ m. changed_by_all m cs part) (answer ∙ latest) ∙ ap (changed_by_all (s.latest + 1) cs) p)

pub wrote_means : (s z : Store) (cs : List Change) (m : ℕ) → m ≡ z.latest → z ≡ written cs s → Good s → Written (meaning s) cs m (meaning z)
wrote_means s z cs m answer is good =
    let P : Store → Type 0 = λ k. Written (meaning s) cs k.latest (meaning k) in
    let Q : ℕ → Type 0 = λ n. Written (meaning s) cs n (meaning z) in
    subst Q (sym answer) (subst P (sym is) (writes s cs good))

pub wrote_dated : (s z : Store) (cs : List Change) → z ≡ written cs s → Good s → list_all (dated z.latest) z.kept ≡ true
wrote_dated s z cs is good =
    let P : Store → Type 0 = λ k. list_all (dated k.latest) k.kept ≡ true in
    subst P (sym is) (dated_changes (s.latest + 1) cs (needed_of s) (dated_part (needed s.latest s.pins) s.latest s.kept good.dates))

pub wrote_apart : (s z : Store) (cs : List Change) → z ≡ written cs s → Good s → (m : ℕ) → unique (rows_at m z.kept) ≡ true
wrote_apart s z cs is good m =
    let P : Store → Type 0 = λ k. unique (rows_at m k.kept) ≡ true in
    subst P (sym is) (apart_changes (s.latest + 1) cs (needed_of s) (dated_part (needed s.latest s.pins) s.latest s.kept good.dates) (λ n. unique_part (needed s.latest s.pins) n s.kept (good.apart n)) m)

-- the needed versions are at most the places
pub needed_few : (s : Store) → Good s → length (needed_of s) ≤ s.places
needed_few s good =
    let p = needed s.latest s.pins in
    omega (arith, length-filter p s.kept, count_by-le-length p s.kept, good.fits)
