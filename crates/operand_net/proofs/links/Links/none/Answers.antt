use Rattle.operand_net.proofs.MarkBits.{no_links}
use Rattle.operand_net.proofs.links.Links.none.Goals as goal

pub returns : goal.returns
returns c = no_links 25
