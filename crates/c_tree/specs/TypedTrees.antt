-- One level of a typed tree: a node with its parts as trees.
use Rattle.c_tree.specs.declared.typed.TypedExpr.{TypedExpr}
use Rattle.c_tree.specs.declared.typed.TypedNode.{TypedNode, out-TypedNode}
use Rattle.c_tree.specs.declared.typed.TypedNode.TheOpen.{TypedNode-F}
use Rattle.c_tree.specs.declared.typed.TypedSection.{TypedSection}
use Rattle.c_tree.specs.declared.typed.TypedStmt.{TypedStmt}
use Rattle.c_tree.specs.declared.typed.TypedForInit.{TypedForInit}
use Rattle.c_tree.specs.declared.typed.TypedForInit.TheOpen.{TypedStmt-F, TypedForInit-F}

-- one level of an expression
abbrev pub Node : Type 0
Node = TypedNode-F TypedNode TypedExpr

-- the uppermost level of an expression
abbrev pub node_of : TypedExpr → Node
node_of e = out-TypedNode e.node

-- one level of a statement
abbrev pub Level : Type 0
Level = TypedStmt-F TypedForInit TypedStmt TypedSection

-- one level of the first part of a `for`
abbrev pub Beginning : Type 0
Beginning = TypedForInit-F TypedForInit TypedStmt TypedSection
