-- The nodes of a flow block that become guarded instructions.
use Rattle.std.specs.Prelude.{ℕ, ◌+◌, Bool, not, ◌&&◌, cond, List, [], ◌∷◌, Option}
use Rattle.trips_isa.specs.Forms.{form_of}
use Rattle.trips_isa.specs.Operands.{is_guarded}
use Rattle.ir_forms.specs.declared.flow.Guard.{Guard}
use Rattle.ir_forms.specs.declared.flow.FlowNode.{FlowNode}
use Rattle.ir_forms.specs.inside.FlowRuns.{sense_of}
use Rattle.ir_forms.specs.FlowFits.{is_branch}

-- whether there is a guard that has a sense
abbrev pub has_sense : Option Guard → Bool
has_sense g = is_guarded (sense_of g)

-- The nodes other than branches that become guarded instructions. Where each guard has a sense, these are
-- the guarded nodes.
abbrev pub sensed_nodes : List FlowNode → ℕ
sensed_nodes [] = 0
sensed_nodes (n ∷ rest) =
    cond (has_sense n.guard && not (is_branch (form_of n.op))) 1 0 + sensed_nodes rest
