use Rattle.std.proofs.Common.{◌∙◌, ap, ap₂}
use Rattle.std.proofs.lemmas.Result.{IfOk-weaker}
use Rattle.clap.specs.Simple.{with_rule}
use Rattle.trips_words.proofs.CommandLemmas.{helpless, is_helpless}
use Rattle.trips_words.proofs.reading.compile_command.Goals as goal

pub returns : goal.returns
returns c =
    let start = is_helpless c.new.result c.disable_help_flag.result c.disable_help_flag.ensures
    ∙ ap helpless c.new.ensures.app in
    let one = c.in_ok-arg.ensures.shape c.valued.ensures.local ∙ ap₂ with_rule start c.valued.ensures.rule in
    let two = c.in_ok-arg-2.ensures.shape c.valued-2.ensures.local ∙ ap₂ with_rule one c.valued-2.ensures.rule in
    let three = c.in_ok-arg-3.ensures.shape c.flag.ensures.local ∙ ap₂ with_rule two c.flag.ensures.rule in
    IfOk-weaker c.arg-4.result _ _
    (λ r h. h.shape c.new-2.ensures.optional.1 ∙ ap₂ with_rule three c.new-2.ensures.rule) c.arg-4.ensures
