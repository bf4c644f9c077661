-- The definitions at what a `for` begins with.
use Rattle.std.proofs.Common.{◌≡◌, List, map, None, sym, ap, ◌∙◌}
use Rattle.c_tree.specs.declared.tree.Expr.{Expr}
use Rattle.c_tree.specs.declared.tree.ForInit.{ForInit, map-ForInit, fold-roll-ForInit, fold-ForInit}
use Rattle.c_tree.specs.declared.tree.ForInit.{roll-ForInit}
use Rattle.c_tree.specs.declared.tree.ForInit.TheVariants as first_part
use Rattle.c_tree.specs.declared.tree.ForInit.TheOpen.{ForInit-F}
use Rattle.c_tree.specs.declared.tree.Section.{Section, fold-Section}
use Rattle.c_tree.specs.declared.tree.Stmt.{Stmt}
use Rattle.c_tree.specs.declared.tree.StmtNode.{StmtNode, fold-StmtNode}
use Rattle.c_tree.specs.declared.typed.TypedForInit.TheVariants as typed_init
use Rattle.c_type_expr.specs.declared.role.Role.TheVariants.{Free}
use Rattle.c_type_expr.specs.Trees.{tree}
use Rattle.c_type_expr.specs.Constants.{full}
use Rattle.c_type.specs.declared.state.State.{State}
use Rattle.c_type.specs.declared.state.Around.{Around}
use Rattle.c_type.specs.Statements.{Part, Beginning, part, beginning_of, init_part, node_part, at_offset}
use Rattle.c_type.specs.Statements.{all_after, all_fault, all_trees, SectionPart, section_part}
use Rattle.c_type.proofs.Nodes.{A}

-- what the first part of a `for` does is given by its node, whose parts are folded
init_by : (i : ForInit) (x : ForInit-F ForInit StmtNode Section Stmt) → roll-ForInit x ≡ i
    → beginning_of i ≡ init_part (map-ForInit ForInit StmtNode Section Stmt Beginning A SectionPart Part
    (fold-ForInit Beginning A SectionPart Part init_part node_part section_part at_offset)
    (fold-StmtNode Beginning A SectionPart Part init_part node_part section_part at_offset)
    (fold-Section Beginning A SectionPart Part init_part node_part section_part at_offset) part x)
unfolding beginning_of part
init_by i x e = ap (λ (m : ForInit). fold-ForInit Beginning A SectionPart Part init_part node_part section_part
    at_offset m) (sym e)
    ∙ fold-roll-ForInit Beginning A SectionPart Part init_part node_part section_part at_offset x

-- a first part that is left out
pub after-Nothing : (v : State) → (beginning_of first_part.Nothing).after v ≡ v
after-Nothing v = ap (λ (p : Beginning). p.after v) (init_by _ ForInit-F.Nothing first_part.rolls-Nothing)

-- The first fault of a `for` that begins with nothing.
pub fault-Nothing : (b : Around) (v : State) → (beginning_of first_part.Nothing).fault b v ≡ None
fault-Nothing b v = ap (λ (p : Beginning). p.fault b v) (init_by _ ForInit-F.Nothing first_part.rolls-Nothing)

-- The typed tree of a `for` that begins with nothing.
pub tree-Nothing : (v : State) → (beginning_of first_part.Nothing).tree v ≡ typed_init.Nothing
tree-Nothing v = ap (λ (p : Beginning). p.tree v) (init_by _ ForInit-F.Nothing first_part.rolls-Nothing)

-- a first part that is an expression
pub after-First : (e : Expr) (v : State) → (beginning_of (first_part.First e)).after v ≡ v
after-First e v = ap (λ (p : Beginning). p.after v) (init_by _ (ForInit-F.First e) (first_part.rolls-First e))

-- The first fault of a `for` that begins with an expression.
pub fault-First : (e : Expr) (b : Around) (v : State)
    → (beginning_of (first_part.First e)).fault b v ≡ full e Free v.names
fault-First e b v = ap (λ (p : Beginning). p.fault b v) (init_by _ (ForInit-F.First e) (first_part.rolls-First e))

-- The typed tree of a `for` that begins with an expression.
pub tree-First : (e : Expr) (v : State)
    → (beginning_of (first_part.First e)).tree v ≡ typed_init.First (tree e v.names)
tree-First e v = ap (λ (p : Beginning). p.tree v) (init_by _ (ForInit-F.First e) (first_part.rolls-First e))

-- a first part that declares
pub after-Locals : (ss : List Stmt) (v : State)
    → (beginning_of (first_part.Locals ss)).after v ≡ all_after (map part ss) v
after-Locals ss v = ap (λ (p : Beginning). p.after v) (init_by _ (ForInit-F.Locals ss) (first_part.rolls-Locals ss))

-- The first fault of a `for` that begins with declarations.
pub fault-Locals : (ss : List Stmt) (b : Around) (v : State)
    → (beginning_of (first_part.Locals ss)).fault b v ≡ all_fault (map part ss) b v
fault-Locals ss b v =
    ap (λ (p : Beginning). p.fault b v) (init_by _ (ForInit-F.Locals ss) (first_part.rolls-Locals ss))

-- The typed tree of a `for` that begins with declarations.
pub tree-Locals : (ss : List Stmt) (v : State)
    → (beginning_of (first_part.Locals ss)).tree v ≡ typed_init.Locals (all_trees (map part ss) v)
tree-Locals ss v = ap (λ (p : Beginning). p.tree v) (init_by _ (ForInit-F.Locals ss) (first_part.rolls-Locals ss))

pub ruleset beginnings = (
  after-Nothing,
  fault-Nothing,
  tree-Nothing,
  after-First,
  fault-First,
  tree-First,
  after-Locals,
  fault-Locals,
  tree-Locals,
)
