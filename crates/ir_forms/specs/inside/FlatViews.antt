-- The declared flat programs, seen as plain data.
use Rattle.std.specs.Prelude.{ℕ, Bool, nat_lt, List, [], ◌∷◌, map}
use Rattle.ir_forms.specs.declared.flat.FlatStmt.{FlatStmt, fold-FlatStmt}
use Rattle.ir_forms.specs.declared.flat.FlatStmt.TheOpen.{FlatStmt-F}
use Rattle.ir_forms.specs.declared.flat.FlatStmt.TheOpen as stmt
use Rattle.ir_forms.specs.declared.flat.FlatFunc.{FlatFunc}
use Rattle.ir_forms.specs.declared.flat.FlatProgram.{FlatProgram}
use Rattle.ir_forms.specs.inside.Limits.{first_scratch}
use Rattle.ir_forms.specs.inside.FlatCode.{Step, Let, Frame, Load, Save, Call, Put, Get, If, Loop, Break}
use Rattle.ir_forms.specs.inside.FlatCode.{Continue, Return, Halt, Code, Nop, ◌▹◌, Function, Program}

-- scalars and temporaries stay set over a call, scratch variables do not
abbrev pub stays : ℕ → Bool
stays v = nat_lt v first_scratch

-- statements in a list, as code
abbrev pub code_of_steps : List Step → Code
code_of_steps [] = Nop
code_of_steps (s ∷ rest) = s ▹ code_of_steps rest

-- one level of a statement, where its parts are seen so already
abbrev pub step_by : FlatStmt-F Step → Step
step_by (stmt.Let to op a b) = Let to op a b
step_by (stmt.Frame to at) = Frame to at
step_by (stmt.Load to op a) = Load to op a
step_by (stmt.Save op a v) = Save op a v
step_by (stmt.Call f args to) = Call f args to stays
step_by (stmt.Put v) = Put v
step_by (stmt.Get to) = Get to
step_by (stmt.If t one other) = If t (code_of_steps one) (code_of_steps other)
step_by (stmt.Loop body post) = Loop (code_of_steps body) (code_of_steps post)
step_by stmt.Break = Break
step_by stmt.Continue = Continue
step_by (stmt.Return v) = Return v
step_by (stmt.Halt v) = Halt v

-- a declared statement
unfoldable pub step_of : FlatStmt → Step
step_of s = fold-FlatStmt Step step_by s

-- declared statements, in order
abbrev pub code_of : List FlatStmt → Code
code_of all = code_of_steps (map step_of all)

-- a declared function
abbrev pub function_of : FlatFunc → Function
function_of f =
    record { params = f.params; scalars = f.scalars; arrays = f.arrays; body = code_of f.body }

-- a declared program
abbrev pub program_of : FlatProgram → Program
program_of p = record { functions = map function_of p.functions; bytes = p.bytes; main = p.main }
