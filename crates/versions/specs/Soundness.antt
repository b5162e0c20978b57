-- Every version store is a database: the law that its impl has to prove.
use Rattle.std.specs.Prelude.{filter, nat_le}
use Rattle.std.proofs.Common.{arith}
use Rattle.std.proofs.lemmas.Bool.{leb-true}
use Rattle.std.proofs.lemmas.List.{length-map}
use Rattle.std.proofs.lemmas.List.Sums.{length-filter, count_by-le-length}
use Rattle.database.specs.Databases.{Sound}
use Rattle.database.proofs.Rows.{few_keys, keys_in}
use Rattle.database.proofs.Sets.{every_among}
use Rattle.validity.specs.Versions.{visible, rows_at}
use Rattle.versions.specs.declared.store.VersionStore.{VersionStore}
use Rattle.versions.specs.Stores.{Store, store_of, meaning, Good}

-- what a store's type says of it
pub good : (s : VersionStore) → Good (store_of s)
good s = record {
  size = s.size;
  fits = omega (arith, s.fits, s.versions.ok.0);
  moment = s.snapshots.moment;
  few = omega (arith, s.snapshots.pins.few, s.snapshots.pins.moments.ok.0);
  once = s.snapshots.pins.once;
  past = s.snapshots.past;
  dates = s.dated;
  apart = s.apart;
}

-- every store is a database
pub sound : (s : Store) → Good s → Sound (meaning s)
sound s good = record {
  moments = good.moment;
  few = good.few;
  once = good.once;
  past = λ m a. leb-true m s.latest (every_among (λ pin. nat_le pin s.latest) s.pins m good.past a);
  listed = λ m t st h. (_, keys_in t st (rows_at m s.kept) (good.apart m));
  counted = λ m t st keys h told.
      let few = few_keys t st (rows_at m s.kept) keys (good.apart m) told in
      let a = length-map (filter (visible m) s.kept) (λ version. version.row) in
      let b = length-filter (visible m) s.kept in
      let c = count_by-le-length (visible m) s.kept in
      let d = good.fits in
      let e = good.size in
      omega arith;
}
