-- One level of a tree: a node with its parts as trees.
use Rattle.c_tree.specs.declared.tree.Expr.{Expr}
use Rattle.c_tree.specs.declared.tree.ExprNode.{ExprNode, out-ExprNode}
use Rattle.c_tree.specs.declared.tree.ExprNode.TheOpen.{ExprNode-F}
use Rattle.c_tree.specs.declared.tree.Section.{Section}
use Rattle.c_tree.specs.declared.tree.Stmt.{Stmt}
use Rattle.c_tree.specs.declared.tree.StmtNode.{StmtNode, out-StmtNode}
use Rattle.c_tree.specs.declared.tree.ForInit.{ForInit}
use Rattle.c_tree.specs.declared.tree.ForInit.TheOpen.{StmtNode-F, ForInit-F}

-- one level of an expression
abbrev pub Node : Type 0
Node = ExprNode-F ExprNode Expr

-- the uppermost level of an expression
abbrev pub node_of : Expr → Node
node_of e = out-ExprNode e.node

-- one level of a statement
abbrev pub Level : Type 0
Level = StmtNode-F ForInit StmtNode Section Stmt

-- the uppermost level of a statement
abbrev pub level_of : Stmt → Level
level_of s = out-StmtNode s.node

-- one level of the first part of a `for`
abbrev pub Beginning : Type 0
Beginning = ForInit-F ForInit StmtNode Section Stmt
