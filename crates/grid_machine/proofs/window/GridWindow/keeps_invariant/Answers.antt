use Rattle.std.proofs.Common.{subst}
use Rattle.commit_flush.specs.Seen.{Seen}
use Rattle.commit_flush_spec.specs.inside.Invariant.{AllGood}
use Rattle.grid_machine.proofs.window.GridWindow.keeps_invariant.Goals as goal

pub returns-clause-blocks : goal.returns-clause-blocks
returns-clause-blocks c = subst (λ (z : Seen). AllGood z.image.blocks) c.self.view_is c.keeps_invariant.ensures.blocks
