use Rattle.std.proofs.Common.{◌≡◌, ap, sym, ◌∙◌, length, arith}
use Rattle.c_meaning.proofs.Rows.{length-rows}
use Rattle.c_meaning.proofs.arrays.Arrays.len.Goals as goal

pub returns : goal.returns
returns c =
    let l : c.len.result ≡ length c.self.inside.spans.items = omega arith in record {
      value = l ∙ sym (length-rows c.self.inside.spans.items c.self.inside.cells.items)
          ∙ ap length c.self.view_is;
    }
