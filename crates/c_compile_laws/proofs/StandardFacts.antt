-- Worked rows of what counts: legs that are plain and some that are not, ifs of them, and a program.
use Rattle.std.proofs.Common.{◌≡◌, ℕ, ◌+◌, Bool, true, false, [], ◌∷◌, Some, None, refl, ap, ap₂, ◌∙◌}
use Rattle.std.specs.Prelude.{◌&&◌}
use Rattle.c_tree.specs.declared.Kind.TheVariants.{Int, Long}
use Rattle.c_tree.specs.declared.BinaryOp.TheVariants.{Add}
use Rattle.c_tree.specs.declared.Place.TheVariants.{Global, Scalar, Array}
use Rattle.c_tree.specs.declared.Slot.TheVariants as slot
use Rattle.c_tree.specs.declared.TypedExpr.{TypedExpr}
use Rattle.c_tree.specs.declared.TypedNode.{roll-TypedNode, out-roll-TypedNode}
use Rattle.c_tree.specs.declared.TypedNode.TheOpen as node
use Rattle.c_tree.specs.declared.TypedStmt.{TypedStmt, roll-TypedStmt, map-TypedStmt, fold-roll-TypedStmt}
use Rattle.c_tree.specs.declared.TypedForInit.{TypedForInit}
use Rattle.c_tree.specs.declared.TypedSection.{TypedSection}
use Rattle.c_tree.specs.declared.TypedForInit.TheOpen.{TypedStmt-F}
use Rattle.c_tree.specs.declared.TypedForInit.TheOpen as stmt
use Rattle.c_tree.specs.declared.TypedProgram.{TypedProgram}
use Rattle.c_tree.specs.TypedTrees.{Node, node_of}
use Rattle.c_compile_laws.specs.PlainIfs.{is_scalar, is_simple, is_plain_assignment, Counted, no_leg, assigns, if_ifs}
use Rattle.c_compile_laws.specs.PlainIfs.{counted_by, first_by, section_by, counted, plain_ifs}
use Rattle.c_compile_laws.proofs.Statements.{first_ifs, section_ifs}

-- ASSIGNMENTS

-- a global is set and read in memory
global : is_scalar (node.Name (Global 0)) ≡ false
global = refl

-- a parameter or local scalar is not
local : is_scalar (node.Name (Scalar 0)) ≡ true
local = refl

number : is_simple (node.Number 3) ≡ true
number = refl

-- the address of a local array
array : is_simple (node.Name (Array 0)) ≡ false
array = refl

-- `x = y` where y has another type
converted : (e : TypedExpr) → is_simple (node.Convert Long e) ≡ false
converted e = refl

-- `x += 1`
added : (l r : TypedExpr) → is_plain_assignment (node.Assign (Some Add) Int l r) ≡ false
added l r = refl

-- LEGS

-- what is counted of `x = 3;`
abbrev assignment : Counted
assignment = record { ifs = 0; alone = true; leg = true }

-- of `{ x = 3; }`
abbrev braced : Counted
braced = record { ifs = 0; alone = false; leg = true }

one_in_braces : counted_by (stmt.Compound (assignment ∷ [])) ≡ braced
one_in_braces = refl

two_in_braces : counted_by (stmt.Compound (assignment ∷ assignment ∷ [])) ≡ no_leg 0
two_in_braces = refl

-- braces inside braces are no plain leg
twice_in_braces : counted_by (stmt.Compound (braced ∷ [])) ≡ no_leg 0
twice_in_braces = refl

-- `;` is none
nothing : (counted_by (stmt.Plain None)).leg ≡ false
nothing = refl

-- IFS

without_else : (t : TypedExpr) → counted_by (stmt.If t braced None) ≡ no_leg 1
without_else t = refl

with_else : (t : TypedExpr) → counted_by (stmt.If t braced (Some assignment)) ≡ no_leg 1
with_else t = refl

-- one leg that is not plain
with_other_else : (t : TypedExpr) → counted_by (stmt.If t braced (Some (no_leg 0))) ≡ no_leg 0
with_other_else t = refl

-- `if (t) x = 3; else if (u) x = 4;`: the inner one alone
chained : (t : TypedExpr) → counted_by (stmt.If t assignment (Some (no_leg 1))) ≡ no_leg 1
chained t = refl

-- the ifs of all sections of a switch, which is no leg itself
in_sections : (t : TypedExpr) → counted_by (stmt.Switch 0 t (1 ∷ 2 ∷ [])) ≡ no_leg 3
in_sections t = refl

-- A PROGRAM

-- an expression of type int
abbrev int : Node → TypedExpr
int n = record { kind = Some Int; at = 0; node = roll-TypedNode n }

node_back : (n : Node) → node_of (int n) ≡ n
node_back n = out-roll-TypedNode n

-- `x = 3`
abbrev set_three : TypedExpr
set_three = int (node.Assign None Int (int (node.Name (Scalar 0))) (int (node.Number 3)))

three_assigns : assigns (Some set_three) ≡ true
three_assigns =
    ap is_plain_assignment (node_back (node.Assign None Int (int (node.Name (Scalar 0))) (int (node.Number 3))))
    ∙ ap₂ (λ (l r : Node). is_scalar l && is_simple r) (node_back (node.Name (Scalar 0)))
    (node_back (node.Number 3))

-- a statement is counted by its parts
by_parts : (x : TypedStmt-F TypedForInit TypedStmt TypedSection) → counted (roll-TypedStmt x)
    ≡ counted_by (map-TypedStmt TypedForInit TypedStmt TypedSection ℕ Counted ℕ first_ifs counted section_ifs x)
unfolding counted first_ifs section_ifs
by_parts x = fold-roll-TypedStmt ℕ Counted ℕ first_by counted_by section_by x

-- an expression statement, which is a plain assignment or is none
abbrev expression : Bool → Counted
expression b = record { ifs = 0; alone = b; leg = b }

-- `x = 3;`
abbrev three : TypedStmt
three = roll-TypedStmt (stmt.Plain (Some set_three))

three_counted : counted three ≡ assignment
three_counted = by_parts (stmt.Plain (Some set_three)) ∙ ap expression three_assigns

-- `if (x) x = 3;`
abbrev if_three : TypedStmt
if_three = roll-TypedStmt (stmt.If (int (node.Name (Scalar 0))) three None)

if_counted : counted if_three ≡ no_leg 1
if_counted =
    by_parts (stmt.If (int (node.Name (Scalar 0))) three None)
    ∙ ap (λ (n : Counted). no_leg (if_ifs n None)) three_counted

-- `void f(int x) { if (x) x = 3; }` but for the braces, and no main
abbrev program : TypedProgram
program = record {
  globals = [];
  functions = record {
    result = None;
    params = 1;
    scalars = slot.Scalar Int ∷ [];
    arrays = [];
    body = if_three;
  } ∷ [];
  main = 0;
}

one_plain_if : plain_ifs program ≡ 1
one_plain_if = ap (λ (n : Counted). n.ifs + 0) if_counted
