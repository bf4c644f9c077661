use Rattle.std.proofs.Common.{◌+◌, ◌*◌, None, get_or, ap, ◌∙◌}
use Rattle.std.specs.Prelude.{is_some}
use Rattle.base.proofs.RowFacts.{flag_some}
use Rattle.base.proofs.row.Row.word.Goals as goal

pub returns : goal.returns
returns g c = record {
  value = λ s h l. c.word.ensures.value s h l
      ∙ flag_some g.row.N c.self.inside.there c.self.inside.items (64 * c.args.k + s) l c.self.invariant.1
      ∙ ap (λ z. is_some (get_or z (64 * c.args.k + s) None)) c.self.view_is;
}
