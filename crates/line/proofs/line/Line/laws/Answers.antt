use Rattle.std.proofs.Common.{arith}
use Rattle.line.proofs.Rings.{length_waiting_fits, waiting_short, get_d_waiting, place_within, place_apart, waiting_set, waiting_advanced}
use Rattle.line.proofs.line.Line.laws.Goals as goal

pub returns : goal.returns
returns g c =
    let room = c.args._room.now in
    record {
      count = λ l. length_waiting_fits l room;
      short = λ l. waiting_short l room;
      stands = λ l. get_d_waiting l room;
      within = λ l i lt. place_within l i (omega arith);
      apart = place_apart;
      outside = λ l. waiting_set l room;
      left = λ l l'. waiting_advanced l l' room;
    }
