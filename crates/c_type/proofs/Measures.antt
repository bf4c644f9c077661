-- The measure of a switch's sections.
use Rattle.std.proofs.Common.{◌≡◌, ◌+◌, ◌≤◌, List, [], ◌∷◌, max, refl, ap, arith}
use Rattle.c_tree.specs.declared.tree.Expr.{Expr}
use Rattle.c_tree.specs.declared.tree.ForInit.TheViews.{sized-Switch}
use Rattle.c_tree.specs.declared.tree.Section.{Section, size-Section, size_is-Section}
use Rattle.c_tree.specs.declared.tree.Stmt.{Stmt, size-Stmt, size_is-Stmt}
use Rattle.c_tree.specs.declared.tree.StmtNode.{StmtNode, size-StmtNode}
use Rattle.c_tree.specs.declared.tree.StmtNode.TheVariants as node
use Rattle.c_type.specs.Statements.{statements_in}
use Rattle.c_type.proofs.Nodes.{deepest, deepest_in}
use denote.Param.Weighed.{most}

pub deepest_is : (ss : List Stmt) → most size-Stmt ss ≡ deepest ss
deepest_is [] = refl
deepest_is (s ∷ ss) = ap (λ n. max (size-Stmt s) n) (deepest_is ss)

-- a section is deeper than its statements
pub section_size : (x : Section) → deepest (statements_in x) + 1 ≤ size-Section x
section_size x =
    let e = deepest_is (statements_in x) in
    let h = size_is-Section x in
    first_of (omega (arith, e, h), grind (arith, e, h))

-- and the sections of a switch no deeper than the deepest of them
pub sections_size : (xs : List Section) → deepest_in xs ≤ most size-Section xs
sections_size [] = omega arith
sections_size (x ∷ xs) =
    let h = section_size x in
    let k = sections_size xs in
    omega arith

-- a switch is deeper than its sections
pub switch_size : (s : Stmt) (test : Expr) (xs : List Section) → s.node ≡ node.Switch test xs
    → deepest_in xs + 1 ≤ size-Stmt s
switch_size s test xs e =
    let a = size_is-Stmt s in
    let b = ap (λ (n : StmtNode). size-StmtNode n) e in
    let c = sized-Switch test xs in
    let d = sections_size xs in
    grind (arith, a, b, c, d)
