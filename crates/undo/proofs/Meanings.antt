-- What each call makes of the store is what a database means by it.
use Rattle.std.proofs.Common.{◌≡◌, ℕ, ◌+◌, ◌-◌, ◌≤◌, min, Bool, true, false, leb, List, [], ◌∷◌, length, drop, Some, None, sym, refl, ap, ◌∙◌, subst, ⊎_elim, arith}
use Rattle.std.proofs.lemmas.Bool.{cases_Bool, leb-true, le-leb, and_from, or_right, or_left, eq-eqb}
use Rattle.terms.specs.declared.record.Change.{Change}
use Rattle.terms.specs.Moments.{highest}
use Rattle.std.specs.List.{list_all}
use Rattle.database.specs.Lists.{among}
use Rattle.database.specs.Rows.{holding, unique}
use Rattle.database.specs.Databases.{Written}
use Rattle.database.specs.Writes.{refusal}
use Rattle.database.proofs.Changes.{no_refusal}
use Rattle.database.proofs.Sets.{every_among, least_among, least_below}
use Rattle.line.specs.declared.line.Line.{Line}
use Rattle.line.specs.Rings.{waiting, Made}
use Rattle.line.proofs.Rings.{length_waiting_fits, waiting_none}
use Rattle.undo.specs.Soundness.{good}
use Rattle.undo.specs.declared.entry.Present.{Present}
use Rattle.undo.specs.declared.entry.Entry.{Entry}
use Rattle.undo.specs.declared.store.UndoStore.{UndoStore}
use Rattle.undo.specs.Journals.{undone, later, rows_of, state_at, present_after_all, entries_after_all, ascending}
use Rattle.validity.specs.Versions.{dated}
use Rattle.undo.specs.Versions.{versions, rightly, is_shown}
use Rattle.undo.specs.Stores.{Store, store_of, empty_at, meaning, lowest, needed_of, written, Good}
use Rattle.undo.proofs.Undoing.{later_later, states_before, state_late, changed_same, put_presents, commits_later, commits_changes, ascending_later, ascending_changes, newest}
use Rattle.undo.proofs.Telling.{dated_part, dated_changes, told_part, told_changes}
use Rattle.undo.proofs.Showing.{unique_changes, shown_written}
use Rattle.undo.proofs.Asking.{held_past}

-- the lowest held moment

pub lowest_floor : (s : Store) → Good s → s.floor ≤ lowest s
lowest_floor s good = leb-true s.floor (lowest s) (every_among (λ n. leb s.floor n) (s.latest ∷ s.pins) (lowest s) good.kept (least_among s.latest s.pins))

pub lowest_below_held : (s : Store) (m : ℕ) → among m (s.latest ∷ s.pins) ≡ true → lowest s ≤ m
lowest_below_held s m a = least_below s.latest s.pins m a

lowest_latest : (s : Store) → lowest s ≤ s.latest
lowest_latest s = lowest_below_held s s.latest (or_left _ _ (eq-eqb s.latest s.latest refl))

every_from : (p : ℕ → Bool) (xs : List ℕ) → ((x : ℕ) → among x xs ≡ true → p x ≡ true) → list_all p xs ≡ true
every_from p [] h = refl
every_from p (x ∷ xs) h = and_from _ _ (h x (or_left _ _ (eq-eqb x x refl))) (every_from p xs (λ y a. h y (or_right _ _ a)))

-- writes

pub writes : (s : Store) (cs : List Change) → Good s → Written (meaning s) cs (s.latest + 1) (meaning (written cs s))
writes s cs good =
    let l = s.latest in
    let part = needed_of s in
    let ps = s.present in
    record {
      latest = refl;
      answer = refl;
      pins = λ n. refl;
      states = λ n t k a.
          let h = held_past s n good (or_right _ _ a) in
          states_before (l + 1) n cs ps part t k (omega arith)
          ∙ ap (λ xs. undone xs (holding (rows_of ps)) t k) (later_later (lowest s) n s.entries (lowest_below_held s n (or_right _ _ a)));
      newest = λ t k.
          state_late (l + 1) (present_after_all (l + 1) cs ps) (entries_after_all (l + 1) cs ps part) t k (commits_changes (l + 1) cs ps part (commits_later l (lowest s) s.entries good.commits))
          ∙ put_presents (l + 1) cs ps t k
          ∙ changed_same cs (holding (rows_of ps)) (state_at ps s.entries l) (λ a b. sym (state_late l ps s.entries a b good.commits)) t k;
    }

-- what of a good store a write has to keep
pub record Lasting (s : Store) : Type 0 where
  pub past : list_all (λ pin. leb pin s.latest) s.pins ≡ true
  pub kept : list_all (λ moment. leb s.floor moment) (s.latest ∷ s.pins) ≡ true
  pub single : unique (rows_of s.present) ≡ true
  pub ascends : ascending s.entries ≡ true
  pub commits : list_all (λ entry. leb entry.commit s.latest) s.entries ≡ true
  pub dates : list_all (dated s.latest) (versions s.present s.entries) ≡ true
  pub told : list_all (rightly s.floor s.entries) (versions s.present s.entries) ≡ true
  pub apart : (moment table key : ℕ) → is_shown s.floor s.present s.entries moment table key ≡ true

lasting : (s : Store) (cs : List Change) → Good s → Lasting (written cs s)
lasting s cs good =
    let l = s.latest in
    let low = lowest s in
    let ps = s.present in
    let es = s.entries in
    let below = lowest_latest s in
    let commits = commits_later l low es good.commits in
    let dates = dated_part l low ps es good.dates in
    record {
      past = every_from (λ pin. leb pin (l + 1)) s.pins (λ n a. let h = held_past s n good (or_right _ _ a) in le-leb n (l + 1) (omega arith));
      kept = and_from _ _ (le-leb low (l + 1) (omega arith)) (every_from (λ n. leb low n) s.pins (λ n a. le-leb low n (lowest_below_held s n (or_right _ _ a))));
      single = unique_changes (l + 1) cs ps good.single;
      ascends = ascending_changes (l + 1) cs ps (later low es) (ascending_later low es good.ascends) commits;
      commits = commits_changes (l + 1) cs ps (later low es) commits;
      dates = dated_changes (l + 1) cs ps (later low es) dates;
      told = told_changes low (l + 1) cs ps (later low es) (omega arith) (told_part s.floor low ps es (lowest_floor s good) good.told);
      apart = shown_written s.floor low l cs ps es (lowest_floor s good) good.single dates commits good.apart;
    }

-- a store that has, at the moment m after the latest, the needed entries and the present records with the changes
pub wrote : (s z : Store) (cs : List Change) (part : List Entry) (m : ℕ) → refusal s.latest (meaning s).free cs ≡ None → z.size ≡ s.size → z.latest ≡ min (s.latest + 1) highest → m ≡ z.latest → z.floor ≡ lowest s → z.pins ≡ s.pins
    → part ≡ needed_of s → z.present ≡ present_after_all m cs s.present → z.entries ≡ entries_after_all m cs s.present part → z ≡ written cs s
wrote s z cs part m none size least answer floor pins p present entries =
    let room = no_refusal s.latest (meaning s).free cs none in
    let latest : z.latest ≡ s.latest + 1 = omega (arith, room.0) in
    let at = answer ∙ latest in
    let made : ℕ → ℕ → ℕ → List ℕ → List Present → List Entry → Store = λ size latest floor pins present entries. record { size = size; latest = latest; floor = floor; pins = pins; present = present; entries = entries } in
    ap (λ k. made k z.latest z.floor z.pins z.present z.entries) size
    ∙ ap (λ k. made s.size k z.floor z.pins z.present z.entries) latest
    ∙ ap (λ k. made s.size (s.latest + 1) k z.pins z.present z.entries) floor
    ∙ ap (λ k. made s.size (s.latest + 1) (lowest s) k z.present z.entries) pins
    ∙ ap (λ k. made s.size (s.latest + 1) (lowest s) s.pins k z.entries) (present ∙ ap (λ n. present_after_all n cs s.present) at)
    ∙ ap (made s.size (s.latest + 1) (lowest s) s.pins (present_after_all (s.latest + 1) cs s.present)) (entries ∙ ap (λ n. entries_after_all n cs s.present part) at ∙ ap (entries_after_all (s.latest + 1) cs s.present) p)

pub wrote_lasting : (s z : Store) (cs : List Change) → z ≡ written cs s → Good s → Lasting z
wrote_lasting s z cs is good = subst Lasting (sym is) (lasting s cs good)

pub wrote_means : (s z : Store) (cs : List Change) (m : ℕ) → m ≡ z.latest → z ≡ written cs s → Good s → Written (meaning s) cs m (meaning z)
wrote_means s z cs m answer is good =
    let P : Store → Type 0 = λ k. Written (meaning s) cs k.latest (meaning k) in
    let Q : ℕ → Type 0 = λ n. Written (meaning s) cs n (meaning z) in
    subst Q (sym answer) (subst P (sym is) (writes s cs good))

-- the entries that a write has kept are the needed ones
pub needed_part : (s : UndoStore) (low n : ℕ) (part : List Entry) → low ≡ lowest (store_of s) → n ≡ length (later low (waiting s.ledger.line s.ledger.journal.now))
    → part ≡ drop (s.ledger.line.len - n) (waiting s.ledger.line s.ledger.journal.now) → part ≡ needed_of (store_of s)
needed_part s low n part l is e =
    let es = waiting s.ledger.line s.ledger.journal.now in
    let few : length es ≡ s.ledger.line.len = length_waiting_fits s.ledger.line s.ledger.journal.now s.ledger.fits in
    let gone : s.ledger.line.len - n ≡ length es - length (later low es) = omega arith in
    e ∙ ap (λ k. drop k es) gone ∙ newest low es s.ascends ∙ ap (λ m. later m es) l

-- an empty store
empty : (size first : ℕ) → Lasting (empty_at size first)
empty size first = record {
  past = refl;
  kept = and_from _ _ (le-leb first first (omega arith)) refl;
  single = refl;
  ascends = refl;
  commits = refl;
  dates = refl;
  told = refl;
  apart = λ m t k. ⊎_elim (λ (e : leb first m ≡ true). rw e refl) (λ (e : leb first m ≡ false). rw e refl) (cases_Bool (leb first m));
}

-- what a making leaves in memory
abbrev pub made_of : Line → List Entry → List Present → ℕ → ℕ → List ℕ → Store
made_of line room present latest first pins = record { size = line.size; latest = latest; floor = first; pins = pins; present = present; entries = waiting line room }

pub made_empty : (line : Line) (room : List Entry) (present : List Present) (latest first size : ℕ) (pins : List ℕ) → Made size (Some line) → present ≡ [] → latest ≡ first → pins ≡ [] → made_of line room present latest first pins ≡ empty_at size first
made_empty line room present latest first size pins made none at unpinned =
    let S : ℕ → ℕ → List ℕ → List Present → List Entry → Store = λ n latest pins ps es. record { size = n; latest = latest; floor = first; pins = pins; present = ps; entries = es } in
    ap (λ n. S n latest pins present (waiting line room)) made.0
    ∙ ap (λ n. S size n pins present (waiting line room)) at
    ∙ ap (λ xs. S size first xs present (waiting line room)) unpinned
    ∙ ap (λ ps. S size first [] ps (waiting line room)) none
    ∙ ap (S size first [] []) (waiting_none line room made.2)

pub made_lasting : (t : Store) (size first : ℕ) → t ≡ empty_at size first → Lasting t
made_lasting t size first e = subst Lasting (sym e) (empty size first)
