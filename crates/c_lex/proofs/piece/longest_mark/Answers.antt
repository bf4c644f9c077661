use Rattle.std.proofs.Common.{◌<◌, length, sym, ◌∙◌, arith}
use Rattle.c_lex.proofs.Marks.{mark_less, mark_some}
use Rattle.c_lex.proofs.piece.longest_mark.Goals as goal

pub loop-n-init : goal.loop-n-init
loop-n-init c =
    let some : 0 < length c.args.text.now = mark_some c.args.text.now c.args.mark c.requires in
    record {
      ahead = c.most_bytes-n.ensures.same;
      within = c.most_bytes-n.ensures.within;
      some = c.most_bytes-n.ensures.some some;
    }

pub loop-n-preserved : goal.loop-n-preserved
loop-n-preserved c =
    let more : 0 < c.loop-n.n = omega arith in
    record {
      ahead = mark_less c.loop-n.n c.args.text.now more (sym c.find_mark.ensures
          ∙ c.in_default.is) ∙ c.loop-n.invariant.ahead;
      within = omega arith;
      some = omega arith;
    }
