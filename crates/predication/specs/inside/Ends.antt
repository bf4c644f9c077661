-- Where emission ends: the nodes so far and those of what is still to come.
use Rattle.std.specs.Prelude.{ℕ, suc, ◌+◌, List, [], ◌∷◌, ◌++◌, map, length}
use Rattle.trips_isa.specs.declared.op.Op.{Op}
use Rattle.trips_isa.specs.declared.op.Op.TheVariants.{Genu, App}
use Rattle.ir_forms.specs.declared.flow.FlowSource.{FlowSource}
use Rattle.ir_forms.specs.declared.flow.FlowSource.TheVariants.{Node}
use Rattle.ir_forms.specs.declared.flow.FlowNode.{FlowNode}
use Rattle.ir_forms.specs.declared.hyper.Exit.{Exit}
use Rattle.ir_forms.specs.declared.hyper.Tail as declared
use Rattle.ir_forms.specs.inside.HyperCode.{Items, Tail}
use Rattle.ir_forms.specs.inside.HyperViews.{tail_of}
use Rattle.predication.specs.declared.work.Work.{Work}
use Rattle.predication.specs.declared.work.Names.{Names}
use Rattle.predication.specs.inside.Environments.{Scope, Env, Bits}
use Rattle.predication.specs.inside.Ifs.{Out, items, touched}
use Rattle.predication.specs.inside.Operands.{constant_of, mov_of}
use Rattle.predication.specs.inside.Tails.{Ending, address_end, half_end, branch_of, exit_with, tail_with, leaving}
use Rattle.predication.specs.inside.Tails.{tail}
use Rattle.predication.specs.inside.Emits.{low, env_of, bits_of}

-- ITEMS

-- all nodes, what registers are named at the end, the next number, and what was set
pub record End : Type 0 where
  pub nodes : List FlowNode
  pub env : Env
  pub bits : Bits
  pub number : ℕ
  -- the registers that are set on some path
  pub sets : List ℕ

-- after more items, of which these nodes are come to
abbrev pub behind : List FlowNode → Out → List ℕ → End
behind ns o set = record {
  nodes = ns ++ map low o.nodes;
  env = o.env;
  bits = o.bits;
  number = o.number;
  sets = set;
}

-- what items that are still to come give
abbrev pub out_of : Scope → Work → Names → Items → Out
out_of g w n is = items g (length w.nodes) w.number (env_of n.entries) (bits_of n.bits) is

-- the end of items that are still to come
abbrev pub ends : Scope → Work → Names → Items → End
ends g w n is = behind w.nodes (out_of g w n is) (n.sets ++ touched is)

-- EXITS AND TAILS

-- a label to come back to, before blocks are laid out
abbrev pub label : ℕ → ℕ
label l = address_end + l

-- an exit and a tail with such labels
abbrev pub exit_labelled : Exit → Exit
exit_labelled x = exit_with label x

-- an end as the code has it, with labels to come back to from 2^32 on
abbrev pub tail_labelled : declared.Tail → Tail
tail_labelled t = tail_with label (tail_of t)

-- what a tail that is still to come gives
abbrev pub ending_of : Scope → Work → Names → Tail → Ending
ending_of g w n t = tail g (length w.nodes) w.number (env_of n.entries) (bits_of n.bits) t

-- what an exit gives
abbrev pub leaving_of : Scope → Work → Names → Exit → Ending
leaving_of g w n x = leaving g (length w.nodes) w.number (env_of n.entries) x

-- the nodes after an end, and the next exit
abbrev pub work_after : Work → Ending → Work
work_after w e = record { nodes = w.nodes ++ map low e.nodes; number = e.number }

-- a branch that is emitted next
abbrev pub branched : Work → Scope → Op → ℕ → List FlowSource → Work
branched w g o l left = record {
  nodes = w.nodes ++ low (branch_of o l w.number g left) ∷ [];
  number = suc w.number;
}

-- the address that a label to come back to stands for, and the `mov` that fires with the call
abbrev pub address_of : Scope → ℕ → ℕ → List FlowNode
address_of g j back =
    constant_of Genu (half_end + back) [] ∷ constant_of App (half_end + back) (Node j ∷ [])
    ∷ mov_of g (Node (suc j) ∷ []) ∷ []
