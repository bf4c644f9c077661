-- Operations on constants alone: their word, by the arithmetic of the machine, is the constant of one `gens` where it
-- has 16 bits and a sign. Source: format C of the TRIPS Processor Reference Manual, UT Austin TR-05-19.
use Rattle.std.specs.Prelude.{ℕ, ℤ, pos, negsuc, int_le, int_lt, nat_eq, Bool, true, false, ◌&&◌, not, cond, List}
use Rattle.std.specs.Prelude.{[], ◌∷◌, Option, Some, None, slice_get}
use Rattle.trips_isa.specs.declared.op.Op.TheVariants.{Gens}
use Rattle.trips_isa.specs.declared.form.Form.{Form}
use Rattle.trips_isa.specs.declared.form.Form.TheVariants.{Immediate}
use Rattle.trips_isa.specs.Alu.{alu_of, signed, word}
use Rattle.trips_isa.specs.Forms.{form_of}
use Rattle.ir_forms.specs.declared.flow.FlowSource.{FlowSource}
use Rattle.ir_forms.specs.declared.flow.FlowSource.TheVariants.{Read, Node}
use Rattle.ir_forms.specs.declared.flow.FlowNode.{FlowNode}
use Rattle.ir_forms.specs.inside.FlowFits.{has_guard}
use Rattle.flow_fold.specs.inside.Immediates.{gives_constant, is_small}

-- whether a number has 16 bits and a sign
abbrev pub is_short : ℤ → Bool
is_short i = int_le (negsuc 32767) i && int_lt i (pos 32768)

-- the number of 16 bits and a sign whose word it is
abbrev pub short_of : ℕ → Option ℤ
short_of w = cond (is_short (signed w) && nat_eq (word (signed w)) w) (Some (signed w)) None

-- whether a node gives a constant that is no label, wherever the block goes
abbrev pub is_constant : FlowNode → Bool
is_constant c = gives_constant c.op && (not (has_guard c.guard) && int_lt c.imm (pos 65536))

-- whether an operation takes its right operand from its immediate
abbrev pub is_immediate : Form → Bool
is_immediate Immediate = true
is_immediate _ = false

-- whether a node computes of one operand and an immediate that is no label, wherever the block goes
abbrev pub computes : FlowNode → Bool
computes n = is_immediate (form_of n.op) && (not (has_guard n.guard) && is_small n.imm)

-- a node that gives a number
abbrev pub with_number : FlowNode → ℤ → FlowNode
with_number n i = record n { op = Gens; imm = i; left = [] }

-- the same, where there is a number
abbrev pub with_some : FlowNode → Option ℤ → Option FlowNode
with_some n None = None
with_some n (Some i) = Some (with_number n i)

-- what a node computes of the constant that a node c gives, where it is such a number
abbrev pub value_of : FlowNode → FlowNode → Option ℤ
value_of n c = cond (is_constant c) (short_of (alu_of n.op (word c.imm) (word n.imm))) None

-- the same of a node that there is, as a node that gives the number
abbrev pub computed_at : FlowNode → Option FlowNode → Option FlowNode
computed_at n None = None
computed_at n (Some c) = with_some n (value_of n c)

-- the same of the constant that some sources are alone
abbrev pub computed_of : List FlowNode → FlowNode → List FlowSource → Option FlowNode
computed_of nodes n [] = None
computed_of nodes n (Read r ∷ rest) = None
computed_of nodes n (Node k ∷ []) = computed_at n (slice_get nodes k)
computed_of nodes n (Node k ∷ (s ∷ rest)) = None

-- a node that computes of a constant, as the constant that it gives
abbrev pub computed : List FlowNode → FlowNode → Option FlowNode
computed nodes n = cond (computes n) (computed_of nodes n n.left) None
