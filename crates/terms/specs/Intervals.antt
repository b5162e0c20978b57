-- Validity intervals.
use Rattle.std.specs.Prelude.{ℕ, Bool, ◌&&◌, nat_le, nat_lt}
use Rattle.terms.specs.declared.interval.Interval.{Interval}
use Rattle.terms.specs.declared.interval.Until.{Until}
use Rattle.terms.specs.declared.interval.Until.TheVariants.{Ended, Open}

-- before the end, or up to the through
abbrev pub reaches : Until → ℕ → Bool
reaches (Ended end) moment = nat_lt moment end
reaches (Open through) moment = nat_le moment through

-- a moment of the interval
abbrev pub contains : Interval → ℕ → Bool
contains interval moment = nat_le interval.first moment && reaches interval.until moment
