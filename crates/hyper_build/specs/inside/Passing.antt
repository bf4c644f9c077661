-- What a call passes: saved variables, arguments, parameters and the result.
use Rattle.std.specs.Prelude.{ℕ, zero, suc, ◌-◌, Bool, ◌&&◌, ◌||◌, nat_eq, List, [], ◌∷◌, Option}
use Rattle.std.specs.Prelude.{Some, None}
use Rattle.trips_isa.specs.declared.op.Op.TheVariants.{Mov, Sub, Ld, Sd}
use Rattle.ir_forms.specs.declared.flat.Arg.{Arg}
use Rattle.ir_forms.specs.declared.hyper.Source.TheVariants.{Const, Reg}
use Rattle.ir_forms.specs.inside.Frames.{register_of, slot_of, argument_register}
use Rattle.ir_forms.specs.inside.HyperCode.{Block}
use Rattle.hyper_build.specs.inside.Parts.{source, capped, set_then, load_then, save_then, Move}

-- SAVED VARIABLES

-- how far a variable's slot lies before the end of a frame
abbrev pub below_end : ℕ → ℕ → ℕ
below_end frame v = capped (frame - slot_of v)

-- a group is saved to its slots, and then k; register 0 has each address
abbrev pub saving : ℕ → List ℕ → Block → Block
saving frame [] k = k
saving frame (v ∷ vs) k =
    set_then 0 Sub (Reg 1) (Const (below_end frame v))
    (save_then Sd (Reg 0) (Reg (register_of v)) (saving frame vs k))

-- and is loaded from there
abbrev pub restoring : ℕ → List ℕ → Block → Block
restoring frame [] k = k
restoring frame (v ∷ vs) k =
    set_then 0 Sub (Reg 1) (Const (below_end frame v))
    (load_then (register_of v) Ld (Reg 0) (restoring frame vs k))

-- ARGUMENTS AND THE RESULT

-- argument i goes to register 4 + i
abbrev pub argument_moves : ℕ → List Arg → List Move
argument_moves i [] = []
argument_moves i (a ∷ more) =
    (record { to = argument_register i; from = source a }) ∷ argument_moves (suc i) more

-- a call that is cut small ends a block behind its third and its sixth argument
abbrev pub argument_cuts : Bool → ℕ → Bool
argument_cuts small i = small && (nat_eq i 2 || nat_eq i 5)

-- n parameters, from the ith on, come from their argument registers
abbrev pub parameter_moves : ℕ → ℕ → List Move
parameter_moves i zero = []
parameter_moves i (suc n) =
    (record { to = register_of i; from = Reg (argument_register i) }) ∷ parameter_moves (suc i) n

-- Two items stand before the parameters, so that a way in that is cut small ends a block behind the
-- first, fourth and seventh.
abbrev pub parameter_cuts : Bool → ℕ → Bool
parameter_cuts small i = small && (nat_eq i 0 || (nat_eq i 3 || nat_eq i 6))

-- the result, where it is wanted, comes from register 3
abbrev pub result_then : Option ℕ → Block → Block
result_then None k = k
result_then (Some to) k = set_then (register_of to) Mov (Reg 3) (Const 0) k
