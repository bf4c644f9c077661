use Rattle.std.proofs.Common.{◌+◌, ◌*◌, false, get_or, ap, ◌∙◌}
use Rattle.base.proofs.FlagFacts.{word_flag}
use Rattle.base.proofs.flags.Flags.word.Goals as goal

pub returns : goal.returns
returns g c = record {
  value = λ s h l. word_flag g.row.N c.self.inside.words c.args.k s h l
      ∙ ap (λ z. get_or z (64 * c.args.k + s) false) c.self.view_is;
}
