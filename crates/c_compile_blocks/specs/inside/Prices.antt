-- What the nodes and the sources of a flow block cost in instructions, at most.
use Rattle.std.specs.Prelude.{ℕ, ◌+◌, List, [], ◌∷◌, length}
use Rattle.trips_isa.specs.declared.form.Form.{Form}
use Rattle.trips_isa.specs.declared.form.Form.TheVariants.{General, Immediate, Load, Store, Branch}
use Rattle.trips_isa.specs.declared.form.Form.TheVariants.{Constant}
use Rattle.trips_isa.specs.Forms.{form_of}
use Rattle.ir_forms.specs.declared.flow.FlowNode.{FlowNode}
use Rattle.ir_forms.specs.declared.flow.FlowWrite.{FlowWrite}
use Rattle.fan_out.specs.inside.Wires.{guard_sources}

-- A node costs one instruction. That of a constant is set against its first use, which needs no `mov`.
abbrev pub own : Form → ℕ
own General = 1
own Immediate = 1
own Load = 1
own Store = 1
own Branch = 1
own Constant = 0

-- the sources of a node
abbrev pub sources_in : FlowNode → ℕ
sources_in n = length n.left + (length n.right + length (guard_sources n.guard))

-- nodes and their sources, each of which needs at most one `mov`
abbrev pub price : List FlowNode → ℕ
price [] = 0
price (n ∷ ns) = own (form_of n.op) + sources_in n + price ns

-- the sources of writes
abbrev pub write_price : List FlowWrite → ℕ
write_price [] = 0
write_price (w ∷ ws) = length w.sources + write_price ws
