use Rattle.std.proofs.Common.{◌∙◌}
use Rattle.ir_forms.specs.inside.FlatViews.{program_of}
use Rattle.hyper_build.proofs.FunctionsOut.{emitted_is_built}
use Rattle.hyper_build.proofs.building.build.Goals as goal

pub returns : goal.returns
returns c = record {
  blocks = c.program_of_all.ensures ∙ c.in_ok-out.ensures
      ∙ emitted_is_built c.args.plan.now.cuts c.args.plan.now.joins c.args.assigned.now.groups
      (program_of c.args.assigned.now.flat);
}
