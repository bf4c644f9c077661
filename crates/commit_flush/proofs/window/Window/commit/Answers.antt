use Rattle.commit_flush.proofs.CommitFacts.{never_empty}
use Rattle.std.proofs.Common.{sym}
use Rattle.commit_flush.proofs.window.Window.commit.Goals as goal

pub returns-in-None : goal.returns-in-None
returns-in-None c =
    let v = c.args.self.now in
    absurd (never_empty v.image.blocks v.budget v.window c.requires.done (sym c.in-None.ensures.value))
