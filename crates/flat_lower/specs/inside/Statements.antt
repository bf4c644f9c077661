-- The flat code of statements, functions and programs.
use Rattle.std.specs.Prelude.{ℕ, ◌+◌, ◌-◌, ◌*◌, ◌/◌, ◌%◌, ◌^◌, zero, suc, List, [], ◌∷◌, ◌++◌, map}
use Rattle.std.specs.Prelude.{replicate, length, Option, Some, None, Bool, cond, nat_eq}
use Rattle.c_tree.specs.declared.Kind.{Kind}
use Rattle.c_tree.specs.declared.BinaryOp.{BinaryOp}
use Rattle.c_tree.specs.declared.Place.{Place}
use Rattle.c_tree.specs.declared.Place.TheVariants.{Global, Scalar, Array}
use Rattle.c_tree.specs.declared.TypedGlobal.{TypedGlobal}
use Rattle.c_tree.specs.declared.TypedProgram.{TypedProgram}
use Rattle.c_constant.specs.Kinds.{bytes}
use Rattle.c_meaning_spec.specs.Call.{all_bytes}
use Rattle.c_meaning_spec.specs.Eval.{length_of}
use Rattle.trips_isa.specs.declared.op.Op.TheVariants as op
use Rattle.ir_forms.specs.declared.flat.Arg.{Arg}
use Rattle.ir_forms.specs.declared.flat.Arg.TheVariants.{Const, Var}
use Rattle.ir_forms.specs.inside.FlatCode.{Code, Nop, Then, only, Let, Loop, Function, Program}
use Rattle.ir_forms.specs.inside.FlatCode as flat
use Rattle.flat_lower.specs.inside.Tree.{Expr, Number, Name, Assign, Stmt, Declare, Plain, Compound, If, While, Do}
use Rattle.flat_lower.specs.inside.Tree.{For, Break}
use Rattle.flat_lower.specs.inside.Tree.{Continue, Return, Stmts, NoStmts, WithStmt, First, Nothing}
use Rattle.flat_lower.specs.inside.Tree.{FirstOf, Locals, Func, Source}
use Rattle.flat_lower.specs.inside.TreeViews.{source_of}
use Rattle.flat_lower.specs.inside.Operations.{temp, set_word, copied}
use Rattle.flat_lower.specs.inside.Objects.{Context, global_bytes}
use Rattle.flat_lower.specs.inside.Expressions.{expr_code}
use Rattle.flat_lower.specs.inside.Switches.{in_switch, break_code, continue_code, section_code, switched_code}
use Rattle.flat_lower.specs.declared.around.Around.{Around}
use Rattle.flat_lower.specs.declared.around.Around.TheVariants as around
use Rattle.flat_lower.specs.inside.Tree.{Switch, Sections, NoSections, WithSection}

-- STATEMENTS

-- the code of an expression, if there is one
abbrev pub expr_if_code : Context → Option Expr → Code
expr_if_code c None = Nop
expr_if_code c (Some e) = expr_code c 0 e

-- A scalar that is assigned a number or a scalar's value is set at once, by one statement.

-- the scalar that an expression names
abbrev pub named_scalar : Expr → Option ℕ
named_scalar (Name k (Scalar i)) = Some i
named_scalar _ = None

-- the operand that a number or a scalar's name stands for
abbrev pub simple_arg : Expr → Option Arg
simple_arg (Number k w) = Some (Const w)
simple_arg (Name k (Scalar i)) = Some (Var i)
simple_arg _ = None

-- one statement where both are known, else the code of the assignment
abbrev pub set_or : Option ℕ → Option Arg → Code → Code
set_or (Some i) (Some a) long = only (Let i op.Mov a (Const 0))
set_or (Some i) None long = long
set_or None a long = long

-- an assignment by `=` of a simple operand to a scalar is one statement, any other the long code
abbrev pub assigned_code : Option BinaryOp → Expr → Expr → Code → Code
assigned_code None l r long = set_or (named_scalar l) (simple_arg r) long
assigned_code (Some o) l r long = long

-- an expression without its value
abbrev pub plain_code : Context → Expr → Code
plain_code c (Assign k o at l r) = assigned_code o l r (expr_code c 0 (Assign k o at l r))
plain_code c e = expr_code c 0 e

-- the same of an expression that may be left out
abbrev pub plain_if_code : Context → Option Expr → Code
plain_if_code c None = Nop
plain_if_code c (Some e) = plain_code c e

-- a local is set by its initialiser alone
abbrev pub declare_code : Context → Place → Option Expr → Code
declare_code c (Scalar i) (Some e) = Then (expr_code c 0 e) (copied i (temp 0))
declare_code c p e = Nop

-- a return, with or without a value
abbrev pub return_code : Context → Option Expr → Code
return_code c None = only (flat.Return None)
return_code c (Some e) = Then (expr_code c 0 e) (only (flat.Return (Some (Var (temp 0)))))

-- a loop's body where the test in temporary 0 holds; else the loop is left
abbrev pub if_so : Code → Code
if_so body = only (flat.If (Var (temp 0)) body (only flat.Break))

-- the test of a while or a for, if there is one, and the body
abbrev pub turn_code : Context → Option Expr → Code → Code
turn_code c None body = body
turn_code c (Some t) body = Then (expr_code c 0 t) (if_so body)

-- a loop whose test comes first
abbrev pub loop_code : Context → Option Expr → Option Expr → Code → Code
loop_code c test post body = only (Loop (turn_code c test body) (expr_if_code c post))

-- the test of a do stands behind its body, where a continue goes on too; the first turn is taken
abbrev pub do_code : Context → Expr → Code → Code
do_code c t body = Then (set_word (temp 0) 1) (only (Loop (if_so body) (expr_code c 0 t)))

abbrev mutual
  -- the code of a statement, by what stands around it
  pub stmt_code : Context → Around → Stmt → Code
  stmt_code c a (Declare p e) = declare_code c p e
  stmt_code c a (Plain e) = plain_if_code c e
  stmt_code c a (Compound all) = stmts_code c a all
  stmt_code c a (If t one other) =
      Then (expr_code c 0 t) (only (flat.If (Var (temp 0)) (stmt_code c a one) (stmts_code c a other)))
  stmt_code c a (While t body) = loop_code c (Some t) None (stmt_code c around.Loop body)
  stmt_code c a (Do body t) = do_code c t (stmt_code c around.Loop body)
  stmt_code c a (For first test post body) =
      Then (first_code c a first) (loop_code c test post (stmt_code c around.Loop body))
  stmt_code c a (Switch t xs) =
      Then (expr_code c 0 t) (switched_code a xs (sections_code c (in_switch a) 0 xs))
  stmt_code c a Break = break_code a
  stmt_code c a Continue = continue_code a
  stmt_code c a (Return e) = return_code c e

  -- the code of statements, one after another
  pub stmts_code : Context → Around → Stmts → Code
  stmts_code c a NoStmts = Nop
  stmts_code c a (WithStmt s rest) = Then (stmt_code c a s) (stmts_code c a rest)

  -- the code of the sections of a switch behind k others, one after another
  pub sections_code : Context → Around → ℕ → Sections → Code
  sections_code c a k NoSections = Nop
  sections_code c a k (WithSection ls body rest) =
      Then (section_code k (stmts_code c a body)) (sections_code c a (suc k) rest)

  -- the code of the first part of a `for`
  pub first_code : Context → Around → First → Code
  first_code c a Nothing = Nop
  first_code c a (FirstOf e) = expr_code c 0 e
  first_code c a (Locals all) = stmts_code c a all

-- FUNCTIONS

-- the end of main returns 0
abbrev pub end_code : Bool → Code
end_code is_main = cond is_main (only (flat.Return (Some (Const 0)))) Nop

-- what the code of a function knows of objects
abbrev pub context_of : List TypedGlobal → Func → Context
context_of globals f = record { globals = globals; scalars = f.scalars; arrays = f.arrays }

-- the flat form of a function, which may be main
abbrev pub lowered_func : List TypedGlobal → Bool → Func → Function
lowered_func globals is_main f = record {
  params = f.params;
  scalars = length f.scalars;
  arrays = all_bytes f.arrays;
  body = Then (stmt_code (context_of globals f) around.Nowhere f.body) (end_code is_main);
}

-- the functions from number n on
abbrev pub lowered_from : List TypedGlobal → ℕ → ℕ → List Func → List Function
lowered_from globals main n [] = []
lowered_from globals main n (f ∷ fs) =
    lowered_func globals (nat_eq n main) f ∷ lowered_from globals main (suc n) fs

-- GLOBALS

-- the low bytes of a word, the most significant first
abbrev pub word_bytes : ℕ → ℕ → List ℕ
word_bytes zero w = []
word_bytes (suc n) w = (w / 256 ^ n) % 256 ∷ word_bytes n w

-- the bytes of the values given
abbrev pub init_bytes : ℕ → List ℕ → List ℕ
init_bytes size [] = []
init_bytes size (w ∷ ws) = word_bytes size w ++ init_bytes size ws

-- the values given, and then zeros up to whole words
abbrev pub global_image : TypedGlobal → List ℕ
global_image g =
    init_bytes (bytes g.kind) g.init ++ replicate
    (global_bytes g - length g.init * bytes g.kind) 0

-- the images of all globals
abbrev pub globals_image : List TypedGlobal → List ℕ
globals_image [] = []
globals_image (g ∷ gs) = global_image g ++ globals_image gs

-- PROGRAMS

-- the flat form of a program
unfoldable pub lowered : Source → Program
lowered P = record {
  functions = lowered_from P.globals P.main 0 P.functions;
  bytes = globals_image P.globals;
  main = P.main;
}

-- the flat program of a typed program
abbrev pub lowered_program : TypedProgram → Program
lowered_program P = lowered (source_of P)
