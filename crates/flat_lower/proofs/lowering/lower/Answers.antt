use Rattle.ir_forms.specs.inside.FlatViews.{program_of}
use Rattle.flat_lower.proofs.LoweredMeaning.{meant}
use Rattle.flat_lower.proofs.lowering.lower.Goals as goal

pub returns-clause-meaning : goal.returns-clause-meaning
returns-clause-meaning c =
    meant c.args.program.now (program_of c.in_ok-flat.flat) c.in_ok-flat.ensures.ok
