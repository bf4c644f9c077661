-- The plain ifs of a typed program. A plain if is an `if`, with or without `else`, each of whose legs is a
-- plain leg: one expression statement, alone or as the only statement of a compound, which assigns by `=` to a
-- parameter or local scalar a number or the value of a parameter or local scalar, without a conversion.
use Rattle.std.specs.Prelude.{ℕ, ◌+◌, Bool, true, false, cond, ◌&&◌, List, [], ◌∷◌, Option, Some, None}
use Rattle.c_tree.specs.declared.Place.TheVariants.{Scalar}
use Rattle.c_tree.specs.declared.TypedExpr.{TypedExpr}
use Rattle.c_tree.specs.declared.TypedNode.TheOpen as node
use Rattle.c_tree.specs.declared.TypedStmt.{TypedStmt, fold-TypedStmt}
use Rattle.c_tree.specs.declared.TypedForInit.TheOpen.{TypedStmt-F, TypedForInit-F, TypedSection-F}
use Rattle.c_tree.specs.declared.TypedForInit.TheOpen as stmt
use Rattle.c_tree.specs.declared.TypedFunc.{TypedFunc}
use Rattle.c_tree.specs.declared.TypedProgram.{TypedProgram}
use Rattle.c_tree.specs.TypedTrees.{Node, node_of}

-- PLAIN ASSIGNMENTS

-- the name of a parameter or local scalar
abbrev pub is_scalar : Node → Bool
is_scalar (node.Name (Scalar i)) = true
is_scalar _ = false

-- a number, or the name of a parameter or local scalar; one that is converted stands inside a `Convert`
abbrev pub is_simple : Node → Bool
is_simple (node.Number w) = true
is_simple (node.Name (Scalar i)) = true
is_simple _ = false

-- an assignment by `=` of a simple value to a parameter or local scalar
abbrev pub is_plain_assignment : Node → Bool
is_plain_assignment (node.Assign None at l r) = is_scalar (node_of l) && is_simple (node_of r)
is_plain_assignment _ = false

-- STATEMENTS

-- what is counted of a statement
pub record Counted : Type 0 where
  -- the plain ifs in it, itself among them
  pub ifs : ℕ
  -- whether it is an expression statement, which is a plain assignment
  pub alone : Bool
  -- whether it is a plain leg
  pub leg : Bool

-- a statement that is no plain leg
abbrev pub no_leg : ℕ → Counted
no_leg n = record { ifs = n; alone = false; leg = false }

-- whether the expression of a statement is a plain assignment
abbrev pub assigns : Option TypedExpr → Bool
assigns None = false
assigns (Some e) = is_plain_assignment (node_of e)

-- whether a compound has one statement, which is a plain assignment
abbrev pub assigns_only : List Counted → Bool
assigns_only (s ∷ []) = s.alone
assigns_only _ = false

-- the plain ifs in several statements
abbrev pub ifs_of_all : List Counted → ℕ
ifs_of_all [] = 0
ifs_of_all (s ∷ rest) = s.ifs + ifs_of_all rest

-- an `else`, if there is one, has to be a plain leg
abbrev pub else_leg : Option Counted → Bool
else_leg None = true
else_leg (Some s) = s.leg

-- the plain ifs in an `else`, if there is one
abbrev pub else_ifs : Option Counted → ℕ
else_ifs None = 0
else_ifs (Some s) = s.ifs

-- an `if` counts itself where its legs are plain, and those in its legs
abbrev pub if_ifs : Counted → Option Counted → ℕ
if_ifs one other = cond (one.leg && else_leg other) 1 0 + (one.ifs + else_ifs other)

-- the plain ifs in several sections, once each is counted
abbrev pub ifs_of_sections : List ℕ → ℕ
ifs_of_sections [] = 0
ifs_of_sections (n ∷ rest) = n + ifs_of_sections rest

-- a statement, once its parts are counted
abbrev pub counted_by : TypedStmt-F ℕ Counted ℕ → Counted
counted_by (stmt.Declare p init) = no_leg 0
counted_by (stmt.Plain e) = record { ifs = 0; alone = assigns e; leg = assigns e }
counted_by (stmt.Compound all) =
    record { ifs = ifs_of_all all; alone = false; leg = assigns_only all }
counted_by (stmt.If t one other) = no_leg (if_ifs one other)
counted_by (stmt.While t body) = no_leg body.ifs
counted_by (stmt.Do body t) = no_leg body.ifs
counted_by (stmt.For first test post body) = no_leg (first + body.ifs)
counted_by (stmt.Switch i t xs) = no_leg (ifs_of_sections xs)
counted_by stmt.Break = no_leg 0
counted_by stmt.Continue = no_leg 0
counted_by (stmt.Return e) = no_leg 0

-- the plain ifs in the first part of a `for`, which has only declarations
abbrev pub first_by : TypedForInit-F ℕ Counted ℕ → ℕ
first_by stmt.Nothing = 0
first_by (stmt.First e) = 0
first_by (stmt.Locals all) = ifs_of_all all

-- the plain ifs in the statements of a section
abbrev pub section_by : TypedSection-F ℕ Counted ℕ → ℕ
section_by x = ifs_of_all x.body

-- what is counted of a statement
unfoldable pub counted : TypedStmt → Counted
counted s = fold-TypedStmt ℕ Counted ℕ first_by counted_by section_by s

-- PROGRAMS

-- the plain ifs of functions
abbrev pub ifs_of_funcs : List TypedFunc → ℕ
ifs_of_funcs [] = 0
ifs_of_funcs (f ∷ fs) = (counted f.body).ifs + ifs_of_funcs fs

-- the plain ifs of a program
abbrev pub plain_ifs : TypedProgram → ℕ
plain_ifs P = ifs_of_funcs P.functions
