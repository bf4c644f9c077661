-- The nodes of untyped trees, level by level.
use Rattle.std.proofs.Common.{◌≡◌, ℕ, ◌+◌, List, [], ◌∷◌, ◌++◌, length, Option, Some, None, sym}
use Rattle.std.proofs.Common.{ap, ◌∙◌, arith}
use Rattle.c_tree.specs.declared.token.Kind.{Kind}
use Rattle.c_tree.specs.declared.tree.UnaryOp.{UnaryOp}
use Rattle.c_tree.specs.declared.tree.BumpOp.{BumpOp}
use Rattle.c_tree.specs.declared.tree.BinaryOp.{BinaryOp}
use Rattle.c_tree.specs.declared.tree.ArraySize.{ArraySize}
use Rattle.c_tree.specs.declared.tree.Expr.{Expr, fold_out-Expr}
use Rattle.c_tree.specs.declared.tree.ExprNode.{ExprNode, map-ExprNode, fold-roll-ExprNode}
use Rattle.c_tree.specs.declared.tree.ExprNode.{fold-ExprNode, roll-ExprNode}
use Rattle.c_tree.specs.declared.tree.ExprNode.TheVariants as node
use Rattle.c_tree.specs.declared.tree.ExprNode.TheOpen.{ExprNode-F}
use Rattle.c_tree.specs.declared.tree.ForInit.{ForInit, map-ForInit, fold-roll-ForInit}
use Rattle.c_tree.specs.declared.tree.ForInit.{fold-ForInit, roll-ForInit}
use Rattle.c_tree.specs.declared.tree.ForInit.TheVariants as first
use Rattle.c_tree.specs.declared.tree.ForInit.TheOpen.{ForInit-F, StmtNode-F}
use Rattle.c_tree.specs.declared.tree.Label.{Label}
use Rattle.c_tree.specs.declared.tree.Section.{Section, fold-roll-Section}
use Rattle.c_tree.specs.declared.tree.Stmt.{Stmt, fold_out-Stmt}
use Rattle.c_tree.specs.declared.tree.StmtNode.{StmtNode, map-StmtNode, fold-roll-StmtNode}
use Rattle.c_tree.specs.declared.tree.StmtNode.{fold-StmtNode, roll-StmtNode}
use Rattle.c_tree.specs.declared.tree.StmtNode.TheVariants as stmt
use Rattle.c_tree.specs.declared.tree.Top.{Top}
use Rattle.c_grammar.specs.Operators.{told_at}
use Rattle.c_grammar.specs.Statements as s
use Rattle.flat_lower_premises.specs.inside.Nodes.{level_nodes, of_level, expr_nodes, exprs_nodes}
use Rattle.flat_lower_premises.specs.inside.Nodes.{expr_if_nodes, stmt_level_nodes, first_level_nodes, of_stmt_level}
use Rattle.flat_lower_premises.specs.inside.Nodes.{stmt_nodes, first_nodes, stmts_nodes, stmt_if_nodes}
use Rattle.flat_lower_premises.specs.inside.Nodes.{section_level_nodes, section_nodes, sections_nodes, unit_nodes}

-- EXPRESSIONS

by_node : (l m : ℕ) (n : ExprNode) (x : ExprNode-F ExprNode Expr) → roll-ExprNode x ≡ n
    → expr_nodes (told_at l m n) ≡ level_nodes (map-ExprNode ExprNode Expr ℕ ℕ
    (fold-ExprNode ℕ ℕ level_nodes of_level) expr_nodes x)
unfolding expr_nodes
by_node l m n x e =
    fold_out-Expr ℕ ℕ level_nodes of_level (told_at l m n)
    ∙ ap (λ (n : ExprNode). fold-ExprNode ℕ ℕ level_nodes of_level n) (sym e)
    ∙ fold-roll-ExprNode ℕ ℕ level_nodes of_level x

module _ (l m : ℕ) where
  -- How many nodes a number counts.
  pub nodes-Number : (v : ℕ) (k : Kind) → expr_nodes (told_at l m (node.Number v k)) ≡ 1
  nodes-Number v k = by_node l m _ (ExprNode-F.Number v k) (node.rolls-Number v k)

  -- How many nodes a name counts.
  pub nodes-Name : (w : List ℕ) → expr_nodes (told_at l m (node.Name w)) ≡ 1
  nodes-Name w = by_node l m _ (ExprNode-F.Name w) (node.rolls-Name w)

  -- How many nodes an element counts.
  pub nodes-Element : (w : List ℕ) (o : Option Expr) (i : Expr)
      → expr_nodes (told_at l m (node.Element w o i)) ≡ 1 + (expr_if_nodes o + expr_nodes i)
  nodes-Element w None i = by_node l m _ (ExprNode-F.Element w None i) (node.rolls-Element w None i)
  nodes-Element w (Some r) i =
      by_node l m _ (ExprNode-F.Element w (Some r) i) (node.rolls-Element w (Some r) i)

  -- How many nodes a call counts.
  pub nodes-Call : (w : List ℕ) (es : List Expr)
      → expr_nodes (told_at l m (node.Call w es)) ≡ 3 + exprs_nodes es
  nodes-Call w es = by_node l m _ (ExprNode-F.Call w es) (node.rolls-Call w es)

  -- How many nodes an expression in parentheses counts.
  pub nodes-Group : (e : Expr) → expr_nodes (told_at l m (node.Group e)) ≡ expr_nodes e
  nodes-Group e = by_node l m _ (ExprNode-F.Group e) (node.rolls-Group e)

  -- How many nodes an operation on one operand counts.
  pub nodes-Unary : (op : UnaryOp) (e : Expr)
      → expr_nodes (told_at l m (node.Unary op e)) ≡ 1 + expr_nodes e
  nodes-Unary op e = by_node l m _ (ExprNode-F.Unary op e) (node.rolls-Unary op e)

  -- How many nodes a cast counts.
  pub nodes-Cast : (k : Kind) (e : Expr)
      → expr_nodes (told_at l m (node.Cast k e)) ≡ 1 + expr_nodes e
  nodes-Cast k e = by_node l m _ (ExprNode-F.Cast k e) (node.rolls-Cast k e)

  -- How many nodes `++` and `--` count.
  pub nodes-Bump : (op : BumpOp) (e : Expr)
      → expr_nodes (told_at l m (node.Bump op e)) ≡ 1 + expr_nodes e
  nodes-Bump op e = by_node l m _ (ExprNode-F.Bump op e) (node.rolls-Bump op e)

  -- How many nodes an operation on two operands counts.
  pub nodes-Binary : (op : BinaryOp) (x y : Expr)
      → expr_nodes (told_at l m (node.Binary op x y)) ≡ 1 + (expr_nodes x + expr_nodes y)
  nodes-Binary op x y = by_node l m _ (ExprNode-F.Binary op x y) (node.rolls-Binary op x y)

  -- How many nodes a choice counts.
  pub nodes-Choice : (c x y : Expr)
      → expr_nodes (told_at l m (node.Choice c x y)) ≡ 1 + (expr_nodes c + (expr_nodes x + expr_nodes y))
  nodes-Choice c x y = by_node l m _ (ExprNode-F.Choice c x y) (node.rolls-Choice c x y)

  -- How many nodes an assignment counts.
  pub nodes-Assign : (op : Option BinaryOp) (x y : Expr)
      → expr_nodes (told_at l m (node.Assign op x y)) ≡ 1 + (expr_nodes x + expr_nodes y)
  nodes-Assign op x y = by_node l m _ (ExprNode-F.Assign op x y) (node.rolls-Assign op x y)

  -- How many nodes a comma counts.
  pub nodes-Comma : (x y : Expr)
      → expr_nodes (told_at l m (node.Comma x y)) ≡ 1 + (expr_nodes x + expr_nodes y)
  nodes-Comma x y = by_node l m _ (ExprNode-F.Comma x y) (node.rolls-Comma x y)

-- STATEMENTS

by_stmt : (l : ℕ) (n : StmtNode) (x : StmtNode-F ForInit StmtNode Section Stmt) → roll-StmtNode x ≡ n
    → stmt_nodes (s.at l n) ≡ stmt_level_nodes (map-StmtNode ForInit StmtNode Section Stmt ℕ ℕ ℕ ℕ first_nodes
    (fold-StmtNode ℕ ℕ ℕ ℕ first_level_nodes stmt_level_nodes section_level_nodes of_stmt_level)
    section_nodes stmt_nodes x)
unfolding stmt_nodes first_nodes section_nodes
by_stmt l n x e =
    fold_out-Stmt ℕ ℕ ℕ ℕ first_level_nodes stmt_level_nodes section_level_nodes of_stmt_level (s.at l n)
    ∙ ap (λ (m : StmtNode). fold-StmtNode ℕ ℕ ℕ ℕ first_level_nodes stmt_level_nodes section_level_nodes
    of_stmt_level m) (sym e)
    ∙ fold-roll-StmtNode ℕ ℕ ℕ ℕ first_level_nodes stmt_level_nodes section_level_nodes of_stmt_level x

module _ (l : ℕ) where
  -- How many nodes a declaration counts.
  pub nodes-Declare : (k : Kind) (w : List ℕ) (size : ArraySize) (init : Option Expr)
      → stmt_nodes (s.at l (stmt.Declare k w size init)) ≡ 1 + expr_if_nodes init
  nodes-Declare k w size init =
      by_stmt l _ (StmtNode-F.Declare k w size init) (stmt.rolls-Declare k w size init)

  -- How many nodes an expression as a statement counts.
  pub nodes-Plain : (e : Option Expr)
      → stmt_nodes (s.at l (stmt.Plain e)) ≡ 1 + expr_if_nodes e
  nodes-Plain e = by_stmt l _ (StmtNode-F.Plain e) (stmt.rolls-Plain e)

  -- A block counts one more than its statements.
  pub nodes-Compound : (ss : List Stmt)
      → stmt_nodes (s.at l (stmt.Compound ss)) ≡ 1 + stmts_nodes ss
  nodes-Compound ss = by_stmt l _ (StmtNode-F.Compound ss) (stmt.rolls-Compound ss)

  -- How many nodes an if counts.
  pub nodes-If : (c : Expr) (b : Stmt) (other : Option Stmt)
      → stmt_nodes (s.at l (stmt.If c b other))
      ≡ 1 + (expr_nodes c + (stmt_nodes b + stmt_if_nodes other))
  nodes-If c b None = by_stmt l _ (StmtNode-F.If c b None) (stmt.rolls-If c b None)
  nodes-If c b (Some o) = by_stmt l _ (StmtNode-F.If c b (Some o)) (stmt.rolls-If c b (Some o))

  -- How many nodes a `while` counts.
  pub nodes-While : (c : Expr) (b : Stmt)
      → stmt_nodes (s.at l (stmt.While c b)) ≡ 1 + (expr_nodes c + stmt_nodes b)
  nodes-While c b = by_stmt l _ (StmtNode-F.While c b) (stmt.rolls-While c b)

  -- How many nodes a `do` counts.
  pub nodes-Do : (b : Stmt) (c : Expr)
      → stmt_nodes (s.at l (stmt.Do b c)) ≡ 1 + (stmt_nodes b + expr_nodes c)
  nodes-Do b c = by_stmt l _ (StmtNode-F.Do b c) (stmt.rolls-Do b c)

  -- How many nodes a `for` counts.
  pub nodes-For : (i : ForInit) (c p : Option Expr) (b : Stmt)
      → stmt_nodes (s.at l (stmt.For i c p b))
      ≡ 1 + (first_nodes i + (expr_if_nodes c + (expr_if_nodes p + stmt_nodes b)))
  nodes-For i c p b = by_stmt l _ (StmtNode-F.For i c p b) (stmt.rolls-For i c p b)

  -- How many nodes a switch counts.
  pub nodes-Switch : (c : Expr) (xs : List Section)
      → stmt_nodes (s.at l (stmt.Switch c xs)) ≡ 2 + (expr_nodes c + sections_nodes xs)
  nodes-Switch c xs = by_stmt l _ (StmtNode-F.Switch c xs) (stmt.rolls-Switch c xs)

  -- How many nodes a break counts.
  pub nodes-Break : stmt_nodes (s.at l stmt.Break) ≡ 1
  nodes-Break = by_stmt l _ StmtNode-F.Break stmt.rolls-Break

  -- How many nodes a continue counts.
  pub nodes-Continue : stmt_nodes (s.at l stmt.Continue) ≡ 1
  nodes-Continue = by_stmt l _ StmtNode-F.Continue stmt.rolls-Continue

  -- How many nodes a return counts.
  pub nodes-Return : (e : Option Expr)
      → stmt_nodes (s.at l (stmt.Return e)) ≡ 1 + expr_if_nodes e
  nodes-Return e = by_stmt l _ (StmtNode-F.Return e) (stmt.rolls-Return e)

by_first : (i : ForInit) (x : ForInit-F ForInit StmtNode Section Stmt) → roll-ForInit x ≡ i
    → first_nodes i ≡ first_level_nodes (map-ForInit ForInit StmtNode Section Stmt ℕ ℕ ℕ ℕ first_nodes
    (fold-StmtNode ℕ ℕ ℕ ℕ first_level_nodes stmt_level_nodes section_level_nodes of_stmt_level)
    section_nodes stmt_nodes x)
unfolding stmt_nodes first_nodes section_nodes
by_first i x e =
    ap (λ (j : ForInit). fold-ForInit ℕ ℕ ℕ ℕ first_level_nodes stmt_level_nodes section_level_nodes of_stmt_level j)
    (sym e)
    ∙ fold-roll-ForInit ℕ ℕ ℕ ℕ first_level_nodes stmt_level_nodes section_level_nodes of_stmt_level x

-- a section has a node, one for each label, and those of its statements
pub nodes-section : (ls : List Label) (ss : List Stmt)
    → section_nodes (s.sectioned ls ss) ≡ 1 + (length ls + stmts_nodes ss)
unfolding section_nodes stmt_nodes
nodes-section ls ss =
    fold-roll-Section ℕ ℕ ℕ ℕ first_level_nodes stmt_level_nodes section_level_nodes of_stmt_level
    (record { labels = ls; body = ss })

-- How many nodes a `for` that begins with nothing counts.
pub nodes-Nothing : first_nodes first.Nothing ≡ 0
nodes-Nothing = by_first _ ForInit-F.Nothing first.rolls-Nothing

-- How many nodes a `for` that begins with an expression counts.
pub nodes-First : (e : Expr) → first_nodes (first.First e) ≡ expr_nodes e
nodes-First e = by_first _ (ForInit-F.First e) (first.rolls-First e)

-- How many nodes a `for` that begins with declarations counts.
pub nodes-Locals : (ss : List Stmt) → first_nodes (first.Locals ss) ≡ stmts_nodes ss
nodes-Locals ss = by_first _ (ForInit-F.Locals ss) (first.rolls-Locals ss)

-- LISTS

-- statements behind others have the nodes of both
pub stmts_append : (ss rest : List Stmt)
    → stmts_nodes (ss ++ rest) ≡ stmts_nodes ss + stmts_nodes rest
stmts_append [] rest = omega arith
stmts_append (b ∷ ss) rest = let h = stmts_append ss rest in omega arith

-- items behind others have the nodes of both
pub units_append : (xs ys : List Top) → unit_nodes (xs ++ ys) ≡ unit_nodes xs + unit_nodes ys
units_append [] ys = omega arith
units_append (x ∷ xs) ys = let h = units_append xs ys in omega arith
