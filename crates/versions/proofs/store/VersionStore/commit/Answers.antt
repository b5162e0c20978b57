use Rattle.std.proofs.Common.{refl, length, vec_items, ap, arith}
use Rattle.database.proofs.Changes.{no_refusal}
use Rattle.versions.specs.Stores.{Store, store_of, meaning}
use Rattle.versions.specs.Soundness.{good}
use Rattle.versions.proofs.Meanings.{needed_few, wrote, wrote_means, wrote_dated, wrote_apart}
use Rattle.versions.proofs.store.VersionStore.commit.Goals as goal

pub change_all-requires : goal.change_all-requires
change_all-requires c =
    let s = c.args.self.now in
    let room = no_refusal s.snapshots.latest (meaning (store_of s)).free c.args.changes.now c.requires in
    let few = needed_few (store_of s) (good s) in
    let long = ap length c.discard.ensures.items in
    omega (arith, c.discard.new.versions.ok.0, long, room.1, c.discard.ensures.capacity, s.room)

pub invariant_of-self : goal.invariant_of-self
invariant_of-self c =
    let s = c.args.self.now in
    let cs = c.args.changes.now in
    let z : Store = record {
      places = s.places;
      latest = c.advance-moment.new.self.latest;
      pins = vec_items c.advance-moment.new.self.pins.moments;
      kept = vec_items c.change_all.new.versions;
    } in
    let is = wrote (store_of s) z cs _ _ c.requires refl c.advance-moment.ensures.latest c.advance-moment.ensures.answer (ap (λ pins. vec_items pins.moments) c.advance-moment.ensures.pins) c.discard.ensures.items c.change_all.ensures.items in
    let room = no_refusal s.snapshots.latest (meaning (store_of s)).free cs c.requires in
    let few = needed_few (store_of s) (good s) in
    let long = ap length c.discard.ensures.items in
    record {
      size = s.size;
      fits = omega (arith, c.change_all.ensures.len, c.discard.new.versions.ok.0, long, room.1);
      room = omega (arith, c.change_all.ensures.capacity, c.discard.ensures.capacity, s.room);
      dated = wrote_dated (store_of s) z cs is (good s);
      apart = wrote_apart (store_of s) z cs is (good s);
    }

pub returns : goal.returns
returns c =
    let s = c.args.self.now in
    let cs = c.args.changes.now in
    let z : Store = record {
      places = s.places;
      latest = c.advance-moment.new.self.latest;
      pins = vec_items c.advance-moment.new.self.pins.moments;
      kept = vec_items c.change_all.new.versions;
    } in
    let is = wrote (store_of s) z cs _ _ c.requires refl c.advance-moment.ensures.latest c.advance-moment.ensures.answer (ap (λ pins. vec_items pins.moments) c.advance-moment.ensures.pins) c.discard.ensures.items c.change_all.ensures.items in
    record { means = wrote_means (store_of s) z cs _ c.advance-moment.ensures.answer is (good s); keeps = is }
