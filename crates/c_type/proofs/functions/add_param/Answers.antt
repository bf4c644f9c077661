use Rattle.std.proofs.Common.{ℕ, List, Option, subst, sym}
use Rattle.c_type.specs.States.{named_param}
use Rattle.c_type.specs.inside.Runs.{Adds}
use Rattle.c_type.proofs.functions.add_param.Goals as goal

pub returns : goal.returns
returns c =
    subst
    (λ (o : Option (List ℕ)). Adds (named_param o c.args.param.size c.args.param.kind c.args.state.now)
    c.add_named.new.state c.add_named.result) (sym c.in-Some.is) c.add_named.ensures
