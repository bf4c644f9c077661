-- The definitions at worked programs: what each gives, puts out and costs.
use Rattle.std.proofs.Common.{◌≡◌, ℕ, pos, negsuc, Some, None, List, [], ◌∷◌, refl}
use Rattle.c_tree.specs.declared.Kind.TheVariants.{Char, Short, Int}
use Rattle.c_tree.specs.declared.BinaryOp.TheVariants.{LogicalAnd, Equal, ShiftLeft, Add, Divide}
use Rattle.c_tree.specs.declared.UnaryOp.TheVariants.{Minus}
use Rattle.c_tree.specs.declared.BumpOp.TheVariants.{PostDec}
use Rattle.c_tree.specs.declared.Callee.TheVariants.{Func, GetChar, PutChar, Exit}
use Rattle.c_tree.specs.declared.Place.TheVariants as place
use Rattle.c_tree.specs.declared.Slot.TheVariants as slot
use Rattle.c_tree.specs.declared.TypedExpr.{TypedExpr}
use Rattle.c_tree.specs.declared.TypedNode.{roll-TypedNode, out-roll-TypedNode}
use Rattle.c_tree.specs.declared.TypedNode.TheOpen.{Number, Name, Element, Call, Unary, Convert}
use Rattle.c_tree.specs.declared.TypedNode.TheOpen.{Bump, Binary, Assign}
use Rattle.c_tree.specs.declared.TypedStmt.{TypedStmt, roll-TypedStmt, out-roll-TypedStmt}
use Rattle.c_tree.specs.declared.TypedForInit.{roll-TypedForInit, out-roll-TypedForInit}
use Rattle.c_tree.specs.declared.TypedForInit.TheOpen.{Declare, Plain, Compound, If, For, Switch}
use Rattle.c_tree.specs.declared.TypedForInit.TheOpen.{Break, Return, Nothing}
use Rattle.c_tree.specs.declared.TypedFunc.{TypedFunc}
use Rattle.c_tree.specs.declared.TypedGlobal.{TypedGlobal}
use Rattle.c_tree.specs.declared.TypedProgram.{TypedProgram}
use Rattle.c_meaning_spec.specs.declared.signal.Ending.TheVariants.{More, Undefined}
use Rattle.c_meaning_spec.specs.declared.signal.Halt.TheVariants.{NoStep, TooDeep, Faults}
use Rattle.c_meaning_spec.specs.declared.fault.Fault.TheVariants.{IllFormed}
use Rattle.c_constant.specs.Kinds.{converted}
use Rattle.c_constant.specs.Operation.{operate, operate_one}
use Rattle.c_meaning_spec.specs.State.{State, Go, Over, nothing_told}
use Rattle.c_meaning_spec.specs.declared.signal.Signal.TheVariants as signal
use Rattle.c_meaning_spec.specs.Task.{Run}
use Rattle.c_meaning_spec.specs.Call.{frame, called}
use Rattle.c_tree.specs.TypedTrees.{Node}
use Rattle.c_tree.specs.TypedTrees.{Level}
use Rattle.c_meaning_spec.specs.Eval.{evaluated, meaning, eval, Stopped, Done}

ruleset trees = (out-roll-TypedNode, out-roll-TypedStmt, out-roll-TypedForInit)

abbrev int : Node → TypedExpr
int n = record { kind = Some Int; at = 0; node = roll-TypedNode n }

abbrev number : ℕ → TypedExpr
number w = int (Number w)

-- the first local
abbrev x : TypedExpr
x = int (Name (place.Scalar 0))

abbrev statement : Level → TypedStmt
statement st = roll-TypedStmt st

-- a function without parameters, with a local int
abbrev function : List TypedStmt → TypedFunc
function all = record {
  result = Some Int;
  params = 0;
  scalars = slot.Scalar Int ∷ [];
  arrays = [];
  body = statement (Compound all);
}

abbrev program : List TypedGlobal → List TypedStmt → TypedProgram
program globals all = record { globals = globals; functions = function all ∷ []; main = 0 }

abbrev return_of : TypedExpr → TypedStmt
return_of e = statement (Return (Some e))

abbrev returns : TypedExpr → TypedProgram
returns e = program [] (return_of e ∷ [])

abbrev declared : TypedStmt
declared = statement (Declare (place.Scalar 0) None)

-- int a[2];
abbrev two_elements : TypedGlobal
two_elements = record { kind = Int; length = Some 2; row = None; init = [] }

abbrev element_at : ℕ → TypedProgram
element_at i = program (two_elements ∷ [])
    (return_of (int (Element (place.Global 0) None (number i))) ∷ [])

-- return 7; costs the call of main, its body, the return and the constant
four_steps : eval (returns (number 7)) [] 9 ≡ Done [] (pos 7) 4
unfolding eval meaning evaluated converted
four_steps = simp trees refl

three_are_too_few : eval (returns (number 7)) [] 3 ≡ Stopped More []
unfolding eval meaning evaluated converted
three_are_too_few = simp trees refl

-- the end of main returns 0
falls_off : eval (program [] []) [] 2 ≡ Done [] (pos 0) 2
unfolding eval meaning evaluated converted
falls_off = simp trees refl

-- so does that of a main that main calls: int n; int main(void) { if (n == 0) { n = 1; return main()
-- + 5; } }
abbrev n : TypedExpr
n = int (Name (place.Global 0))

abbrev calls_itself : TypedProgram
calls_itself = program (record { kind = Int; length = None; row = None; init = [] } ∷ [])
    (statement (If (int (Binary Equal n (number 0)))
    (statement (Compound
    (statement (Plain (Some (int (Assign None Int n (number 1)))))
    ∷ return_of (int (Binary Add (int (Call (Func 0) [])) (number 5))) ∷ []))) None) ∷ [])

called_main_falls_off : eval calls_itself [] 30 ≡ Done [] (pos 5) 20
unfolding eval meaning evaluated converted operate
called_main_falls_off = simp trees refl

-- int x; return x;
unset_local : eval (program [] (declared ∷ return_of x ∷ [])) [] 9 ≡ Stopped Undefined []
unfolding eval meaning evaluated converted
unset_local = simp trees refl

-- return 1 << 31;
shift_does_not_fit : eval (returns (int (Binary ShiftLeft (number 1) (number 31)))) [] 9
    ≡ Stopped Undefined []
unfolding eval meaning evaluated converted operate
shift_does_not_fit = simp trees refl

-- return a[1]; and return a[2];
last_element : eval (element_at 1) [] 9 ≡ Done [] (pos 0) 5
unfolding eval meaning evaluated converted
last_element = simp trees refl

outside : eval (element_at 2) [] 9 ≡ Stopped Undefined []
unfolding eval meaning evaluated converted
outside = simp trees refl

-- return -7 / 2;
toward_zero : eval (returns (int (Binary Divide (int (Unary Minus (number 7))) (number 2)))) [] 9
    ≡ Done [] (negsuc 2) 7
unfolding eval meaning evaluated converted operate operate_one
toward_zero = simp trees refl

-- return 0 && 1 / 0;
right_is_not_evaluated : eval (returns (int
    (Binary LogicalAnd (number 0) (int (Binary Divide (number 1) (number 0)))))) [] 9
    ≡ Done [] (pos 0) 5
unfolding eval meaning evaluated converted operate
right_is_not_evaluated = simp trees refl

-- int x; x = 1; return x += x = 5;
old_value_first : eval (program [] (declared ∷ statement
    (Plain (Some (int (Assign None Int x (number 1))))) ∷ return_of
    (int (Assign (Some Add) Int x (int (Assign None Int x (number 5))))) ∷ [])) [] 12
    ≡ Done [] (pos 6) 10
unfolding eval meaning evaluated converted operate
old_value_first = simp trees refl

-- return (char) of a value that does not fit, by a conversion that costs nothing
low_bits : eval (returns (record {
  kind = Some Char;
  at = 0;
  node = roll-TypedNode (Convert Char (number 255));
})) [] 9 ≡ Done [] (negsuc 0) 4
unfolding eval meaning evaluated converted
low_bits = simp trees refl

-- putchar(getchar()); with and without an input
echoed : eval (program [] (statement (Plain
    (Some (int (Call PutChar (int (Call GetChar []) ∷ []))))) ∷ [])) (65 ∷ []) 9
    ≡ Done (65 ∷ []) (pos 0) 7
unfolding eval meaning evaluated converted
echoed = simp trees refl

end_of_input : eval (returns (int (Call GetChar []))) [] 9 ≡ Done [] (negsuc 0) 5
unfolding eval meaning evaluated converted
end_of_input = simp trees refl

-- exit(3); as a statement
abbrev exits_with : ℕ → TypedStmt
exits_with w = statement (Plain (Some (record {
  kind = None;
  at = 0;
  node = roll-TypedNode (Call Exit (number w ∷ []));
})))

abbrev puts : ℕ → TypedStmt
puts w = statement (Plain (Some (int (Call PutChar (number w ∷ [])))))

-- int f(void) { int x; putchar(65); exit(3); putchar(66); } int main(void) { int x; return f() + 1 / 0; }
abbrev exits_below : TypedProgram
exits_below = record {
  globals = [];
  functions = function (puts 65 ∷ exits_with 3 ∷ puts 66 ∷ []) ∷ function (return_of (int
      (Binary Add (int (Call (Func 0) [])) (int (Binary Divide (number 1) (number 0))))) ∷ []) ∷ [];
  main = 1;
}

-- what stands behind exit is not done, in its function and in those that wait
exit_ends_all : eval exits_below [] 20 ≡ Done (65 ∷ []) (pos 3) 15
unfolding eval meaning evaluated converted operate
exit_ends_all = simp trees refl

-- exit itself costs a step
no_step_for_exit : eval exits_below [] 14 ≡ Stopped More (65 ∷ [])
unfolding eval meaning evaluated converted operate
no_step_for_exit = simp trees refl

-- exit(-1), with the word of -1
exit_below_zero : eval (program [] (exits_with 18446744073709551615 ∷ [])) [] 9 ≡ Done [] (negsuc 0) 6
unfolding eval meaning evaluated converted
exit_below_zero = simp trees refl

-- abort(), which ends the run with the least long
abort_is_the_least_long : eval (program [] (exits_with 9223372036854775808 ∷ [])) [] 9
    ≡ Done [] (negsuc 9223372036854775807) 6
unfolding eval meaning evaluated converted
abort_is_the_least_long = simp trees refl

-- a state with one local
abbrev with_local : ℕ → ℕ → State
with_local n w = record {
  stock = n;
  input = [];
  output = [];
  scalars = Some w ∷ [];
  arrays = [];
  rows = [];
  base = 0;
  room = 0;
  told = nothing_told;
}

-- without its argument
exit_without_value : called (λ t s. Over NoStep s) (program [] []) Exit [] (with_local 1 7)
    ≡ Over (Faults IllFormed) (with_local 0 7)
exit_without_value = refl

-- for (; x; x--) ; with an x of 1
one_turn : evaluated 9 (program [] []) (Run
    (statement (For (roll-TypedForInit Nothing) (Some x) (Some (int (Bump PostDec x)))
    (statement (Plain None))))) (with_local 5 1) ≡ Go signal.Nothing (with_local 0 0)
unfolding evaluated converted operate
one_turn = simp trees refl

-- a frame: 18 words, those of the scalars, and the arrays' bytes rounded up to 8
frame_is_rounded : frame (record (function []) { arrays = record { kind = Char; length = 9; row = None } ∷ [] })
    ≡ 168
frame_is_rounded = refl

-- the last frame that has room, and a byte more
abbrev at_room : ℕ → State
at_room room = record {
  stock = 1;
  input = [];
  output = [];
  scalars = [];
  arrays = [];
  rows = [];
  base = 0;
  room = room;
  told = nothing_told;
}

too_deep : called (λ t s. Over NoStep s) (program [] []) (Func 0) [] (at_room 1048425)
    ≡ Over TooDeep (record (at_room 1048425) { stock = 0 })
too_deep = refl

just_fits : called (λ t s. Over NoStep s) (program [] []) (Func 0) [] (at_room 1048424)
    ≡ Over NoStep (record {
      stock = 0;
      input = [];
      output = [];
      scalars = None ∷ [];
      arrays = [];
      rows = [];
      base = 0;
      room = 1048576;
      told = nothing_told;
    })
just_fits = refl

-- switch (2) { case 1: return 1; case 2: return 5; }
abbrev two_cases : TypedStmt
two_cases = statement (Switch 0 (number 2)
    (record { labels = Some 1 ∷ []; body = return_of (number 1) ∷ [] }
    ∷ record { labels = Some 2 ∷ []; body = return_of (number 5) ∷ [] } ∷ []))

-- each label that is compared costs a step
second_case : eval (program [] (two_cases ∷ [])) [] 9 ≡ Done [] (pos 5) 8
unfolding eval meaning evaluated converted
second_case = simp trees refl

-- switch (3) { default: case 1: return 1; }: default is not compared
abbrev default_first : TypedStmt
default_first = statement (Switch 0 (number 3)
    (record { labels = None ∷ Some 1 ∷ []; body = return_of (number 1) ∷ [] } ∷ []))

by_default : eval (program [] (default_first ∷ [])) [] 9 ≡ Done [] (pos 1) 7
unfolding eval meaning evaluated converted
by_default = simp trees refl

-- switch (1) { case 1: break; } return 3; a break ends the switch alone
abbrev left_switch : TypedStmt
left_switch = statement (Switch 0 (number 1)
    (record { labels = Some 1 ∷ []; body = statement Break ∷ [] } ∷ []))

behind_the_switch : eval (program [] (left_switch ∷ return_of (number 3) ∷ [])) [] 9
    ≡ Done [] (pos 3) 8
unfolding eval meaning evaluated converted
behind_the_switch = simp trees refl

-- short t[2][3]; return t[i][j];
abbrev two_rows : TypedGlobal
two_rows = record { kind = Short; length = Some 6; row = Some 3; init = 1 ∷ 2 ∷ 3 ∷ 4 ∷ [] }

abbrev in_row : ℕ → ℕ → TypedProgram
in_row i j = program (two_rows ∷ [])
    (return_of (int (Element (place.Global 0) (Some (number i)) (number j))) ∷ [])

second_row : eval (in_row 1 0) [] 9 ≡ Done [] (pos 4) 6
unfolding eval meaning evaluated converted
second_row = simp trees refl

behind_the_row : eval (in_row 0 3) [] 9 ≡ Stopped Undefined []
unfolding eval meaning evaluated converted
behind_the_row = simp trees refl
