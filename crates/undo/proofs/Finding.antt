-- What is held of a record is told by the present record that is found.
use Rattle.std.proofs.Common.{◌≡◌, true, false, List, [], ◌∷◌, Some, None, refl, ⊎_elim, arith}
use Rattle.std.specs.List.{find}
use Rattle.std.proofs.lemmas.Bool.{cases_Bool}
use Rattle.terms.specs.declared.record.RecordId.{RecordId}
use Rattle.terms.specs.Records.{is_id}
use Rattle.undo.specs.declared.entry.Present.{Present}
use Rattle.undo.specs.Journals.{held_of}

pub held_found : (id : RecordId) (ps : List Present) (p : Present) → Some p ≡ find (λ p. is_id id p.row.id) ps → Some (record { value = p.row.value; made = p.made }) ≡ held_of id ps
held_found id [] p is = grind arith
held_found id (q ∷ ps) p is =
    let ih = held_found id ps p in
    ⊎_elim (λ (e : is_id id q.row.id ≡ true). grind arith) (λ (e : is_id id q.row.id ≡ false). grind arith) (cases_Bool (is_id id q.row.id))

pub held_missing : (id : RecordId) (ps : List Present) → None ≡ find (λ p. is_id id p.row.id) ps → None ≡ held_of id ps
held_missing id [] is = refl
held_missing id (q ∷ ps) is =
    let ih = held_missing id ps in
    ⊎_elim (λ (e : is_id id q.row.id ≡ true). grind arith) (λ (e : is_id id q.row.id ≡ false). grind arith) (cases_Bool (is_id id q.row.id))
