-- Worked trees and what they count.
use Rattle.std.proofs.Common.{◌≡◌, ℕ, [], ◌∷◌, Some, None, arith}
use Rattle.c_tree.specs.declared.token.Kind.TheVariants.{Int}
use Rattle.c_tree.specs.declared.tree.ArraySize.TheVariants as size
use Rattle.c_tree.specs.declared.tree.BinaryOp.TheVariants.{Add}
use Rattle.c_tree.specs.declared.tree.Expr.{Expr}
use Rattle.c_tree.specs.declared.tree.ExprNode.TheVariants as node
use Rattle.c_tree.specs.declared.tree.Stmt.{Stmt}
use Rattle.c_tree.specs.declared.tree.StmtNode.TheVariants as stmt
use Rattle.c_grammar.specs.Operators.{at}
use Rattle.c_grammar.specs.Statements as s
use Rattle.c_grammar.specs.Units.{global, function}
use Rattle.flat_lower_premises.specs.inside.Nodes.{expr_nodes, stmt_nodes, unit_nodes}
use Rattle.flat_lower_premises.proofs.TreeSizes.{nodes-Number, nodes-Group, nodes-Binary, nodes-Plain}
use Rattle.flat_lower_premises.proofs.TreeSizes.{nodes-Compound, nodes-While, nodes-Return}
use Rattle.flat_lower_premises.proofs.TreeSizes.{nodes-Switch, nodes-section}

abbrev number : ℕ → Expr
number v = at 1 (node.Number v Int)

-- `(1 + 2)`: the sum and the two numbers
grouped : expr_nodes (at 1 (node.Group (at 1 (node.Binary Add (number 1) (number 2))))) ≡ 3
grouped =
    let g = nodes-Group 1 1 (at 1 (node.Binary Add (number 1) (number 2))) in
    let b = nodes-Binary 1 1 Add (number 1) (number 2) in
    let x = nodes-Number 1 1 1 Int in let y = nodes-Number 1 1 2 Int in omega arith

-- `switch (1) { case 1: default: ; }`: two of its own, the test, the section, two labels and the statement
chosen : stmt_nodes (s.at 1 (stmt.Switch (number 1)
    (s.sectioned (s.labelled 1 (Some (number 1)) ∷ s.labelled 1 None ∷ []) (s.at 1 (stmt.Plain None) ∷ []) ∷ []))) ≡ 7
chosen =
    let ls = s.labelled 1 (Some (number 1)) ∷ s.labelled 1 None ∷ [] in
    let ss = s.at 1 (stmt.Plain None) ∷ [] in
    let w = nodes-Switch 1 (number 1) (s.sectioned ls ss ∷ []) in let x = nodes-section ls ss in
    let p = nodes-Plain 1 None in let y = nodes-Number 1 1 1 Int in omega arith

-- `while (1) ;`
abbrev endless : Stmt
endless = s.at 1 (stmt.While (number 1) (s.at 1 (stmt.Plain None)))

-- `return 2;`
abbrev returned : Stmt
returned = s.at 1 (stmt.Return (Some (number 2)))

-- `int f(void); int x = 5; int main(void) { while (1) ; return 2; }`: the function, the block, the
-- loop, its test, its empty body, the return and its number
counted : unit_nodes
    (function 1 (Some Int) (102 ∷ []) [] None
    ∷ global 1 Int (120 ∷ []) (size.Scalar, (number 5 ∷ []) ∷ [])
    ∷ function 1 (Some Int) (109 ∷ 97 ∷ 105 ∷ 110 ∷ []) []
    (Some (s.at 1 (stmt.Compound (endless ∷ returned ∷ [])))) ∷ []) ≡ 7
counted =
    let b = nodes-Compound 1 (endless ∷ returned ∷ []) in
    let w = nodes-While 1 (number 1) (s.at 1 (stmt.Plain None)) in let p = nodes-Plain 1 None in
    let r = nodes-Return 1 (Some (number 2)) in
    let x = nodes-Number 1 1 1 Int in let y = nodes-Number 1 1 2 Int in omega arith
