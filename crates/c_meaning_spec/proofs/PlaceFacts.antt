-- What is told of where an evaluation stops, at worked programs.
use Rattle.std.proofs.Common.{◌≡◌, ℕ, Some, List, [], ◌∷◌, refl, replicate}
use Rattle.c_tree.specs.declared.Kind.TheVariants.{Int}
use Rattle.c_tree.specs.declared.BinaryOp.TheVariants.{Add, Divide}
use Rattle.c_tree.specs.declared.Callee.TheVariants.{Func}
use Rattle.c_tree.specs.declared.TypedExpr.{TypedExpr}
use Rattle.c_tree.specs.declared.TypedNode.{roll-TypedNode, out-roll-TypedNode}
use Rattle.c_tree.specs.declared.TypedNode.TheOpen.{Number, Call, Convert, Binary}
use Rattle.c_tree.specs.declared.TypedStmt.{TypedStmt, roll-TypedStmt, out-roll-TypedStmt}
use Rattle.c_tree.specs.declared.TypedForInit.{out-roll-TypedForInit}
use Rattle.c_tree.specs.declared.TypedForInit.TheOpen.{Compound, Return}
use Rattle.c_tree.specs.declared.TypedFunc.{TypedFunc}
use Rattle.c_tree.specs.declared.TypedProgram.{TypedProgram}
use Rattle.c_tree.specs.TypedTrees.{Node}
use Rattle.c_constant.specs.Kinds.{converted}
use Rattle.c_constant.specs.Operation.{operate}
use Rattle.c_meaning_spec.specs.State.{nothing_told}
use Rattle.c_meaning_spec.specs.Telling.{told_to, telling, told, with_call}

ruleset trees = (out-roll-TypedNode, out-roll-TypedStmt, out-roll-TypedForInit)

-- an int whose token stands at a place
abbrev at : ℕ → Node → TypedExpr
at place n = record { kind = Some Int; at = place; node = roll-TypedNode n }

abbrev return_of : TypedExpr → TypedStmt
return_of e = roll-TypedStmt (Return (Some e))

abbrev function : ℕ → List TypedStmt → TypedFunc
function params all = record {
  result = Some Int;
  params = params;
  scalars = [];
  arrays = [];
  body = roll-TypedStmt (Compound all);
}

abbrev program : List TypedFunc → TypedProgram
program functions = record { globals = []; functions = functions; main = 0 }

-- a quotient by zero
abbrev undefined : ℕ → TypedExpr
undefined place = at place (Binary Divide (at 1 (Number 1)) (at 2 (Number 0)))

abbrev call : ℕ → ℕ → List TypedExpr → TypedExpr
call place f args = at place (Call (Func f) args)

-- what has an end tells nothing
nothing_where_it_ends : told (program (function 0 (return_of (at 5 (Number 7)) ∷ []) ∷ [])) [] 9 ≡ nothing_told
unfolding told telling told_to converted
nothing_where_it_ends = simp trees refl

-- return 1 / 0 + 1; in which the quotient is told, not the sum, nor an operand
innermost : told (program (function 0 (return_of
    (at 9 (Binary Add (undefined 7) (at 11 (Number 1)))) ∷ []) ∷ [])) [] 20 ≡ record { at = Some 7; calls = [] }
unfolding told telling told_to converted operate
innermost = simp trees refl

-- a conversion has the place of its operand
below_conversion : told (program (function 0 (return_of (at 7 (Convert Int (undefined 7))) ∷ []) ∷ [])) [] 20
    ≡ record { at = Some 7; calls = [] }
unfolding told telling told_to converted operate
below_conversion = simp trees refl

-- main calls f at 20, and f calls g at 30
open_calls : told (program (function 0 (return_of (call 20 1 []) ∷ []) ∷ function 0 (return_of (call 30 2 []) ∷ [])
    ∷ function 0 (return_of (undefined 40) ∷ []) ∷ [])) [] 30 ≡ record { at = Some 40; calls = 30 ∷ 20 ∷ [] }
unfolding told telling told_to converted operate
open_calls = simp trees refl

-- an argument is evaluated before the call is open
argument : told (program (function 0 (return_of (call 20 1 (undefined 25 ∷ [])) ∷ [])
    ∷ function 1 (return_of (at 40 (Number 1)) ∷ []) ∷ [])) [] 30 ≡ record { at = Some 25; calls = [] }
unfolding told telling told_to converted operate
argument = simp trees refl

-- a statement that takes the value of a call that gave none is told by the call of its function alone: f is return g();
-- with a g of no statement
statement_of_no_value : told (program (function 0 (return_of (call 20 1 []) ∷ [])
    ∷ function 0 (return_of (call 30 2 []) ∷ []) ∷ function 0 [] ∷ [])) [] 30 ≡ record { at = Some 20; calls = 20 ∷ [] }
unfolding told telling told_to converted operate
statement_of_no_value = simp trees refl

-- the twenty innermost calls are told
twenty_calls : with_call 9 (record { at = Some 5; calls = replicate 20 1 })
    ≡ record { at = Some 5; calls = replicate 20 1 }
twenty_calls = refl
