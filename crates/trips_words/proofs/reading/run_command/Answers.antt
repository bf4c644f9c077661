use Rattle.std.proofs.Common.{◌∙◌, ap, ap₂}
use Rattle.std.proofs.lemmas.Result.{IfOk-weaker}
use Rattle.clap.specs.Simple.{with_rule}
use Rattle.trips_words.proofs.CommandLemmas.{helpless, is_helpless}
use Rattle.trips_words.proofs.reading.run_command.Goals as goal

pub returns : goal.returns
returns c =
    let start = is_helpless c.new.result c.disable_help_flag.result c.disable_help_flag.ensures
    ∙ ap helpless c.new.ensures.app in
    let one = c.in_ok-arg.ensures.shape c.valued.ensures.local ∙ ap₂ with_rule start c.valued.ensures.rule in
    let two = c.in_ok-arg-2.ensures.shape c.valued-2.ensures.local ∙ ap₂ with_rule one c.valued-2.ensures.rule in
    let three = c.in_ok-arg-3.ensures.shape c.valued-3.ensures.local ∙ ap₂ with_rule two c.valued-3.ensures.rule in
    let four = c.in_ok-arg-4.ensures.shape c.valued-4.ensures.local ∙ ap₂ with_rule three c.valued-4.ensures.rule in
    let five = c.in_ok-arg-5.ensures.shape c.valued-5.ensures.local ∙ ap₂ with_rule four c.valued-5.ensures.rule in
    let six = c.in_ok-arg-6.ensures.shape c.flag.ensures.local ∙ ap₂ with_rule five c.flag.ensures.rule in
    let seven = c.in_ok-arg-7.ensures.shape c.flag-2.ensures.local ∙ ap₂ with_rule six c.flag-2.ensures.rule in
    let eight = c.in_ok-arg-8.ensures.shape c.flag-3.ensures.local ∙ ap₂ with_rule seven c.flag-3.ensures.rule in
    let nine = c.in_ok-arg-9.ensures.shape c.flag-4.ensures.local ∙ ap₂ with_rule eight c.flag-4.ensures.rule in
    let ten = c.in_ok-arg-10.ensures.shape c.valued-6.ensures.local ∙ ap₂ with_rule nine c.valued-6.ensures.rule in
    let eleven = c.in_ok-arg-11.ensures.shape c.valued-7.ensures.local ∙ ap₂ with_rule ten c.valued-7.ensures.rule in
    let twelve = c.in_ok-arg-12.ensures.shape c.valued-8.ensures.local
    ∙ ap₂ with_rule eleven c.valued-8.ensures.rule in
    let more = c.in_ok-arg-13.ensures.shape c.valued-9.ensures.local ∙ ap₂ with_rule twelve c.valued-9.ensures.rule in
    IfOk-weaker c.arg-14.result _ _
    (λ r h. h.shape c.new-2.ensures.optional.1 ∙ ap₂ with_rule more c.new-2.ensures.rule) c.arg-14.ensures
