use Rattle.std.proofs.Common.{◌∙◌, ap, ap₂}
use Rattle.std.proofs.lemmas.Result.{IfOk-weaker}
use Rattle.clap.specs.Simple.{with_rule}
use Rattle.trips_words.proofs.CommandLemmas.{helpless, is_helpless}
use Rattle.trips_words.proofs.reading.plain_command.Goals as goal

pub returns : goal.returns
returns c =
    let start = is_helpless c.new.result c.disable_help_flag.result c.disable_help_flag.ensures
    ∙ ap helpless c.new.ensures.app in
    IfOk-weaker c.arg.result _ _
    (λ r h. h.shape c.new-2.ensures.optional.1 ∙ ap₂ with_rule start c.new-2.ensures.rule) c.arg.ensures
