use Rattle.std.proofs.Common.{subst}
use Rattle.grid_tallies.specs.declared.statistic.Statistic.TheVariants as statistic
use Rattle.grid_tallies.specs.inside.Adding.{Adds}
use Rattle.grid_tallies.proofs.units.count_work.Goals as goal

pub returns : goal.returns
returns c = subst (λ n. Adds (statistic.Station c.args.tile) n c.args.told.now c.add.new.self) c.one_busy.ensures
    c.add.ensures
