use Rattle.std.proofs.Common.{◌<◌, length, arith}
use Rattle.operand_net.proofs.MarkBits.{link_taken}
use Rattle.operand_net.proofs.links.Links.take.Goals as goal

pub returns-clause-marks : goal.returns-clause-marks
returns-clause-marks c =
    let inside : c.args.from < length c.args.self.now.nodes = omega arith in
    link_taken c.args.self.now.nodes c.args.from c.args.to inside c.requires.to
