use Rattle.std.proofs.Common.{◌<◌, ◌*◌, ◌==◌, cond, length, ap, ◌∙◌, arith}
use Rattle.operand_net.specs.inside.Marks.{marked}
use Rattle.operand_net.proofs.MarkBits.{set_mark}
use Rattle.operand_net.proofs.marks.Marks.set.Goals as goal

pub returns : goal.returns
returns c = λ q.
    let inside : c.args.place < 64 * length c.self.inside.words = omega arith in
    set_mark c.self.inside.words c.args.place c.with_bit-word.result c.args.on inside c.with_bit-word.ensures q
    ∙ ap (λ ws. cond (q == c.args.place) c.args.on (marked ws q)) c.self.view_is
