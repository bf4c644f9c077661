use Rattle.c_type.proofs.Arrays.{array_runs}
use Rattle.c_type.proofs.declarations.declare.Goals as goal

pub returns-in_default : goal.returns-in_default
returns-in_default c =
    array_runs c.args.offset c.args.kind c.args.name c.args.size c.args.init c.args.around c.args.state.now
    c.declare_array.new.state c.declare_array.result c.in_default.not-Scalar c.declare_array.ensures
