use Rattle.std.proofs.Common.{subst}
use Rattle.grid_log.specs.Logs.{Logged}
use Rattle.grid_log.specs.inside.Telling.{sealed_if}
use Rattle.grid_log.proofs.ends.seal_one.Goals as goal

pub returns-clause-told : goal.returns-clause-told
returns-clause-told g c = subst (λ b. Logged c.args.log.now (sealed_if b c.args.frame) c.tell_sealing.new.log)
    c.can_seal-seals.ensures c.tell_sealing.ensures
