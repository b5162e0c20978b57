-- A pass over the present records, and over the entries in two parts, finds what the definitions say.
use Rattle.std.proofs.Common.{◌≡◌, ℕ, ◌+◌, ◌≤◌, List, [], ◌++◌, map, length, Some, length-append, sym, ap, ◌∙◌, arith}
use Rattle.std.proofs.lemmas.List.{length-map}
use Rattle.std.specs.List.{flat_map}
use Rattle.terms.specs.declared.record.Query.{Query}
use Rattle.validity.specs.declared.scan.Scan.{Scan}
use Rattle.validity.specs.Scans.{scanned_all, summary, found}
use Rattle.validity.proofs.Passes.{scanned_append, pass_finds}
use Rattle.undo.specs.declared.entry.Present.{Present}
use Rattle.undo.specs.declared.entry.Entry.{Entry}
use Rattle.undo.specs.Soundness.{joined_few}
use Rattle.undo.specs.Versions.{current, replaced_by, versions}
use Rattle.undo.proofs.Telling.{joined_append}

pub pass_over : (floor m : ℕ) (q : Query) (ps : List Present) (older newer es : List Entry) (a b d : Scan) → older ++ newer ≡ es → length ps + length es ≤ 4294967295
    → a ≡ scanned_all (map current ps) (summary (Some floor) m q [] [])
    → b ≡ scanned_all (flat_map replaced_by older) a
    → d ≡ scanned_all (flat_map replaced_by newer) b
    → d ≡ found (Some floor) m q (versions ps es)
pass_over floor m q ps older newer es a b d whole few is_a is_b is_d =
    let rows = map current ps in
    let one = flat_map replaced_by older in
    let two = flat_map replaced_by newer in
    let l = length-append rows (flat_map replaced_by es) in
    let k = length-map ps current in
    let j = joined_few es in
    is_d
    ∙ ap (scanned_all two) (is_b ∙ ap (scanned_all one) is_a)
    ∙ sym (scanned_append one two (scanned_all rows (summary (Some floor) m q [] [])))
    ∙ sym (scanned_append rows (one ++ two) (summary (Some floor) m q [] []))
    ∙ ap (λ vs. scanned_all (rows ++ vs) (summary (Some floor) m q [] [])) (sym (joined_append replaced_by older newer) ∙ ap (flat_map replaced_by) whole)
    ∙ pass_finds (Some floor) m q (versions ps es) (omega arith)
