use Rattle.std.proofs.Common.{◌≡◌, arith}
use Rattle.grid_tallies.specs.declared.statistic.Statistic.TheVariants as statistic
use Rattle.grid_tallies.proofs.Weighed.{adds_none}
use Rattle.grid_tallies.proofs.units.count_given.Goals as goal

pub returns-else-parcels-gt0 : goal.returns-else-parcels-gt0
returns-else-parcels-gt0 c =
    let none : c.args.parcels ≡ 0 = omega arith in
    adds_none statistic.Parcels c.args.parcels c.args.told.now none
