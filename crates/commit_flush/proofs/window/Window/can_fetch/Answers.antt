use Rattle.std.proofs.Common.{sym}
use Rattle.commit_flush.proofs.FetchAsked.{full_is}
use Rattle.commit_flush.proofs.window.Window.can_fetch.Goals as goal

pub returns-in-None : goal.returns-in-None
returns-in-None c =
    full_is c.args.self.now.image.blocks c.args.block c.args.self.now.window (sym c.in-None.ensures.value)
