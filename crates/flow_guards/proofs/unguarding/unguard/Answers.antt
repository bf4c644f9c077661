use Rattle.flow_guards.proofs.Chosen.{none_loses}
use Rattle.flow_guards.proofs.unguarding.unguard.Goals as goal

pub returns-then-not-any_guarded : goal.returns-then-not-any_guarded
returns-then-not-any_guarded c = none_loses c.args.block

pub returns-then-not-any_marked : goal.returns-then-not-any_marked
returns-then-not-any_marked c = none_loses c.args.block
