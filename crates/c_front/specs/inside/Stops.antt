-- What the typing answers of a tree, in the words of its own definitions.
use Rattle.std.specs.Prelude.{◌≡◌, Some}
use Rattle.c_tree.specs.declared.tree.Program.{Program}
use Rattle.c_type_expr.specs.declared.fault.TypeFault.{TypeFault}
use Rattle.c_type_expr.specs.declared.fault.TypeFault.TheVariants as typing
use Rattle.c_type.specs.inside.Programs.{program_fault}
use Rattle.c_front.specs.declared.refusal.Refusal.{Refusal}
use Rattle.c_front.specs.declared.refusal.Refusal.TheVariants.{Typing, Memory}

-- the first fault that is found in the tree
abbrev pub IsFound : Program → TypeFault → Type 0
IsFound tree typing.Memory = ⊥
IsFound tree e = program_fault tree ≡ Some e

-- the typing stops at it, or for want of memory
abbrev pub MayStop : Program → Refusal → Type 0
MayStop tree (Typing e) = IsFound tree e
MayStop tree Memory = Unit {0}
MayStop tree r = ⊥
