use Rattle.split.proofs.Only.{only_seen}
use Rattle.split.proofs.three.only_entry.Goals as goal

pub returns : goal.returns
returns g c =
    let offer = c.args.offer in
    only_seen c.args.moment c.args.delivered offer.key offer.reading offer.interval offer.tags.now _ _ c.look_up.result
    c.clear.ensures.none c.insert.ensures.entered c.look_up.ensures.answer
