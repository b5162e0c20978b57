use Rattle.std.proofs.Common.{length, vec_items, vec_len, vec_capacity, ap, ◌∙◌, arith}
use Rattle.database.proofs.Changes.{no_refusal}
use Rattle.line.specs.Rings.{waiting}
use Rattle.line.proofs.Rings.{length_waiting_fits}
use Rattle.undo.specs.Journals.{present_after_all, entries_after_all}
use Rattle.undo.specs.Soundness.{good}
use Rattle.undo.specs.Stores.{store_of, store_from, meaning}
use Rattle.undo.proofs.Meanings.{needed_part, wrote, wrote_lasting, wrote_means}
use Rattle.undo.proofs.store.UndoStore.commit.Goals as goal

pub change_all-requires : goal.change_all-requires
change_all-requires c =
    let s = c.args.self.now in
    let l = c.keep.new.self in
    let part = needed_part s c.lowest-lowest.result c.needed-needed.result _ c.lowest-lowest.ensures c.needed-needed.ensures c.keep.ensures.entries in
    let room = no_refusal s.snapshots.latest (meaning (store_of s)).free c.args.changes.now c.requires in
    let here = length_waiting_fits l.line l.journal.now l.fits in
    record {
      rows = omega (arith, ap vec_len c.keep.ensures.present, ap vec_capacity c.keep.ensures.present, s.ledger.room, s.ledger.present.ok.0, room.1);
      places = omega (arith, ap length part, room.1, c.keep.ensures.size);
    }

pub invariant_of-self : goal.invariant_of-self
invariant_of-self c =
    let s = c.args.self.now in
    let cs = c.args.changes.now in
    let l = c.change_all.new.self in
    let moved = c.advance-moment in
    let kept = waiting c.keep.new.self.line c.keep.new.self.journal.now in
    let part = needed_part s c.lowest-lowest.result c.needed-needed.result _ c.lowest-lowest.ensures c.needed-needed.ensures c.keep.ensures.entries in
    let z = store_from moved.new.self.latest c.lowest-lowest.result (vec_items moved.new.self.pins.moments) l in
    let is = wrote (store_of s) z cs _ _ c.requires (c.change_all.ensures.grown.size ∙ c.keep.ensures.size) moved.ensures.latest moved.ensures.answer c.lowest-lowest.ensures (ap (λ pins. vec_items pins.moments) moved.ensures.pins) part
    (c.change_all.ensures.present ∙ ap (λ p. present_after_all moved.result cs (vec_items p)) c.keep.ensures.present)
    (c.change_all.ensures.entries ∙ ap (λ p. entries_after_all moved.result cs (vec_items p) kept) c.keep.ensures.present) in
    let w = wrote_lasting (store_of s) z cs is (good s) in
    let grown = c.change_all.ensures.grown in
    let room = no_refusal s.snapshots.latest (meaning (store_of s)).free cs c.requires in
    record {
      size = omega (arith, grown.size, c.keep.ensures.size, s.size);
      rows = omega (arith, grown.rows, grown.size, ap vec_len c.keep.ensures.present, c.keep.ensures.size, s.ledger.present.ok.0, room.1);
      kept = w.kept;
      single = w.single;
      ascends = w.ascends;
      commits = w.commits;
      dates = w.dates;
      told = w.told;
      apart = w.apart;
    }

pub returns : goal.returns
returns c =
    let s = c.args.self.now in
    let cs = c.args.changes.now in
    let l = c.change_all.new.self in
    let moved = c.advance-moment in
    let kept = waiting c.keep.new.self.line c.keep.new.self.journal.now in
    let part = needed_part s c.lowest-lowest.result c.needed-needed.result _ c.lowest-lowest.ensures c.needed-needed.ensures c.keep.ensures.entries in
    let z = store_from moved.new.self.latest c.lowest-lowest.result (vec_items moved.new.self.pins.moments) l in
    let is = wrote (store_of s) z cs _ _ c.requires (c.change_all.ensures.grown.size ∙ c.keep.ensures.size) moved.ensures.latest moved.ensures.answer c.lowest-lowest.ensures (ap (λ pins. vec_items pins.moments) moved.ensures.pins) part
    (c.change_all.ensures.present ∙ ap (λ p. present_after_all moved.result cs (vec_items p)) c.keep.ensures.present)
    (c.change_all.ensures.entries ∙ ap (λ p. entries_after_all moved.result cs (vec_items p) kept) c.keep.ensures.present) in
    record { means = wrote_means (store_of s) z cs _ moved.ensures.answer is (good s); keeps = is }
