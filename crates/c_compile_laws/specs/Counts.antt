-- The guarded instructions of a machine block. Those of a flow block and the filled if-items of a hyper
-- block and program are counted by `guarded_nodes`, `filled_ifs` and `filled_in` of `ir_forms`.
use Rattle.std.specs.Prelude.{ℕ, ◌+◌, ◌&&◌, not, cond, List, [], ◌∷◌, Option, Some, None}
use Rattle.trips_isa.specs.declared.block.Inst.{Inst}
use Rattle.trips_isa.specs.declared.block.Block.{Block}
use Rattle.trips_isa.specs.Forms.{form_of}
use Rattle.trips_isa.specs.Operands.{is_guarded}
use Rattle.ir_forms.specs.FlowFits.{is_branch}

-- 1 where a slot holds an instruction that has a predicate and is no branch, and else 0
abbrev pub guarded_slot : Option Inst → ℕ
guarded_slot None = 0
guarded_slot (Some i) = cond (is_guarded i.sense && not (is_branch (form_of i.op))) 1 0

-- those of some slots
abbrev pub guarded_slots : List (Option Inst) → ℕ
guarded_slots [] = 0
guarded_slots (i ∷ rest) = guarded_slot i + guarded_slots rest

-- the guarded instructions of a block other than branches
abbrev pub guarded_insts : Block → ℕ
guarded_insts b = guarded_slots b.insts.items

-- the guarded instructions of a program's blocks
abbrev pub guarded_in : List Block → ℕ
guarded_in [] = 0
guarded_in (t ∷ rest) = guarded_insts t + guarded_in rest
