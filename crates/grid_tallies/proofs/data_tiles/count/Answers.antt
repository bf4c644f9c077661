use Rattle.std.proofs.Common.{◌≡◌, false, sym, subst}
use Rattle.grid_tallies.specs.inside.Adding.{AnswersHeard}
use Rattle.grid_tallies.proofs.data_tiles.count.Goals as goal

pub returns-else-store : goal.returns-else-store
returns-else-store c =
    let off : c.args.store ≡ false = cc in
    subst (λ s. AnswersHeard s c.args.flushed c.args.told.now c.count_load.new.told) (sym off)
    (c.count_load.ensures c.args.flushed)
