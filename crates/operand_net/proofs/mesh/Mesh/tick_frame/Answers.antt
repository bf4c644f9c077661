use Rattle.std.proofs.Common.{◌≡◌, ◌≢◌, ℕ, subst}
use Rattle.operand_net.specs.Places.{at}
use Rattle.operand_net.proofs.Frames.{apart}
use Rattle.operand_net.proofs.mesh.Mesh.tick_frame.Goals as goal

pub returns-clause-others : goal.returns-clause-others
returns-clause-others g c =
    subst (λ s. (f : ℕ) → f ≢ c.args.frame → at c.tick_row.new.stands f ≡ at s f) c.self.view_is
    (apart c.args.frame c.self.inside.stands c.tick_row.new.stands c.tick_row.ensures.others)
