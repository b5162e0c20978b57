use Rattle.std.proofs.Common.{sym, ◌∙◌, rules, tests}
use Rattle.std.proofs.lemmas.Iterator.{YieldsList-from_slice}
use Rattle.std.proofs.lemmas.Iterator.Consumers.{YieldsList-at, YieldsList-from_copied, YieldsList-from_filter, max_from_yields_List}
use Rattle.std.proofs.lemmas.Iterator.Adapters.{option_map_id}
use Rattle.cache.specs.Entries.{answers}
use Rattle.cache.proofs.Members.{newest_greatest}
use Rattle.cache.proofs.call.LookUp.newest.Goals as goal

pub returns-clause-newest : goal.returns-clause-newest
returns-clause-newest c =
    newest_greatest _ _ c.max.result (sym (option_map_id c.max.result)
    ∙ max_from_yields_List c.filter.result c.max.result c.max.ensures.ran
    (YieldsList-from_filter _ (answers c.args.self.key c.args.self.delivered c.args.entry) (YieldsList-at c.filter.ensures.source (YieldsList-from_copied (YieldsList-at c.copied.ensures.source (YieldsList-from_slice c.args.self.moments.now cc)))) c.filter.ensures.closure (λ x b q k. search (rules, tests))))
