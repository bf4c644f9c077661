use Rattle.std.proofs.Common.{◌∙◌, ap}
use Rattle.trips_tools.specs.Tools.{good_report}
use Rattle.trips_tools.proofs.tools.found_good.Goals as goal

pub returns : goal.returns
returns c bytes b = (
  c.args.image.now,
  b,
  (λ k d lt. (c.count.ensures.image.each k d lt).good),
  c.from_vec.ensures.value ∙ c.in_ok-text.ensures ∙ ap good_report c.count.ensures.value,
)
