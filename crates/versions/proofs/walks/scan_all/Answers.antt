use Rattle.std.proofs.Common.{None, ap, ◌∙◌, arith}
use Rattle.validity.specs.Scans.{scanned_all}
use Rattle.validity.proofs.Passes.{pass_finds}
use Rattle.versions.proofs.walks.scan_all.Goals as goal

pub returns : goal.returns
returns c =
    let versions = c.args.versions.now in
    c.with_all.ensures ∙ ap (scanned_all versions) c.new.ensures ∙ pass_finds None c.args.moment c.args.query versions (omega arith)
