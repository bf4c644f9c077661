use Rattle.std.proofs.Common.{ap, ◌∙◌}
use Rattle.null_outputs.specs.inside.Surely.{firms}
use Rattle.null_outputs.proofs.Supplying.{supplied_by}
use Rattle.null_outputs.proofs.supplied.is_supplied.Goals as goal

pub returns : goal.returns
returns c =
    supplied_by c.args.block.now c.as_slice-2.result.now c.in_ok-there.there
    (c.as_slice-2.ensures.value ∙ c.in_ok-firm.ensures ∙ ap firms c.as_slice.ensures.value) c.in_ok-there.ensures
