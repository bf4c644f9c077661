use Rattle.std.proofs.Common.{◌≡◌, ◌+◌, ◌*◌, ◌≤◌, ◌++◌, max, length}
use Rattle.c_tree.specs.declared.tree.Expr.{size-Expr}
use Rattle.c_type_expr.specs.inside.Faults.{args_fault}
use Rattle.c_type_expr.specs.inside.Trees.{args_tree}
use Rattle.c_type_expr.proofs.Nodes.{deepest, row_size}
use Rattle.c_type_expr.proofs.expressions.+expr.Given as goal

abbrev pub decreases-operand : goal.decreases-operand
decreases-operand l = 5 * size-Expr l.e

abbrev pub decreases-argument : goal.decreases-argument
decreases-argument l = 5 * size-Expr l.arg + 1

abbrev pub decreases-arguments : goal.decreases-arguments
decreases-arguments l = 5 * deepest l.args + 2

abbrev pub decreases-call : goal.decreases-call
decreases-call l = 5 * deepest l.args + 3

abbrev pub decreases-element : goal.decreases-element
decreases-element l = 5 * size-Expr l.index + 2

abbrev pub decreases-row_element : goal.decreases-row_element
decreases-row_element l = 5 * max (size-Expr l.row) (size-Expr l.index) + 2

abbrev pub decreases-element_of : goal.decreases-element_of
decreases-element_of l = 5 * max (row_size l.row) (size-Expr l.index) + 3

abbrev pub decreases-unary : goal.decreases-unary
decreases-unary l = 5 * size-Expr l.e + 2

abbrev pub decreases-cast : goal.decreases-cast
decreases-cast l = 5 * size-Expr l.e + 2

abbrev pub decreases-no_node : goal.decreases-no_node
decreases-no_node l = 5 * size-Expr l.e + 1

abbrev pub decreases-no_leaf : goal.decreases-no_leaf
decreases-no_leaf l = 5 * size-Expr l.e + 1

abbrev pub decreases-no_bump : goal.decreases-no_bump
decreases-no_bump l = 5 * size-Expr l.e + 2

abbrev pub decreases-bump : goal.decreases-bump
decreases-bump l = 5 * size-Expr l.e + 3

abbrev pub decreases-binary : goal.decreases-binary
decreases-binary l = 5 * max (size-Expr l.left) (size-Expr l.right) + 2

abbrev pub decreases-choice : goal.decreases-choice
decreases-choice l = 5 * max (size-Expr l.test) (max (size-Expr l.yes) (size-Expr l.no)) + 2

abbrev pub decreases-assign : goal.decreases-assign
decreases-assign l = 5 * max (size-Expr l.left) (size-Expr l.right) + 2

abbrev pub decreases-comma : goal.decreases-comma
decreases-comma l = 5 * max (size-Expr l.left) (size-Expr l.right) + 2

abbrev pub decreases-arguments-loop-arg : goal.decreases-arguments-loop-arg
decreases-arguments-loop-arg l = length l.rest

abbrev pub invariant-arguments-loop-arg : goal.invariant-arguments-loop-arg
invariant-arguments-loop-arg l = record {
  same_fault : args_fault l.fn.slots l.fn.args l.scope ≡ args_fault l.slots l.rest l.scope;
  same_trees : args_tree l.fn.slots l.fn.args l.scope ≡ l.found ++ args_tree l.slots l.rest l.scope;
  no_deeper : deepest l.rest ≤ deepest l.fn.args;
}
