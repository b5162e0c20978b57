-- What a write that is not refused can rely on.
use Rattle.std.proofs.Common.{◌≡◌, ℕ, ◌<◌, ◌≤◌, List, length, Some, None, Option, arith}
use Rattle.std.proofs.lemmas.Bool.Decides.{nat_tests}
use Rattle.terms.specs.declared.record.Change.{Change}
use Rattle.terms.specs.declared.fault.Fault.{Fault}
use Rattle.terms.specs.Moments.{highest}
use Rattle.database.specs.Writes.{wrong_list, or_else, no_room, refusal}

-- a write that is not refused has a next moment and room
pub no_refusal : (l free : ℕ) (cs : List Change) → refusal l free cs ≡ None → (l < highest) × (length cs ≤ free)
no_refusal l free cs none =
    let f : (o : Option Fault) → or_else o (no_room l free cs) ≡ None → no_room l free cs ≡ None = λ o. elim o as (λ o. or_else o (no_room l free cs) ≡ None → no_room l free cs ≡ None) [ None ↦ λ e. e | Some x ↦ λ e. grind arith ] in
    let room = f (wrong_list cs) none in
    grind (arith, nat_tests)
