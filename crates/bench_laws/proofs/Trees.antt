-- The tree of the benchmark's text. Its tokens are told by the line that they stand in and their number in it.
use Rattle.std.proofs.Common.{ℕ, zero, suc, ◌+◌, List, [], ◌∷◌, ◌++◌, codes, Option, Some, None}
use Rattle.std.specs.Prelude.{decimal}
use Rattle.c_tree.specs.declared.token.Kind.TheVariants.{Int, Long}
use Rattle.c_tree.specs.declared.tree.BinaryOp.{BinaryOp}
use Rattle.c_tree.specs.declared.tree.BinaryOp.TheVariants.{Less, Add, Subtract, Remainder}
use Rattle.c_tree.specs.declared.tree.Expr.{Expr}
use Rattle.c_tree.specs.declared.tree.ExprNode.TheVariants as node
use Rattle.c_tree.specs.declared.tree.ArraySize.TheVariants as sizes
use Rattle.c_tree.specs.declared.tree.Stmt.{Stmt}
use Rattle.c_tree.specs.declared.tree.StmtNode.TheVariants as statement
use Rattle.c_tree.specs.declared.tree.ForInit.TheVariants as first
use Rattle.c_tree.specs.declared.tree.Top.{Top}
use Rattle.c_tree.specs.declared.tree.TopNode.TheVariants as tops
use Rattle.c_grammar.specs.Operators.{at, told_at}
use Rattle.c_grammar.specs.Statements as s
use Rattle.c_grammar.specs.Units as u

-- OFFSETS

-- the offset of each token of a line, by its number in the line
abbrev pub InLine : Type 0
InLine = ℕ → ℕ

-- the tokens of a line from that number on
abbrev pub onward : ℕ → InLine → InLine
onward n l = λ j. l (n + j)

-- the offset of each token of the text
pub record Offsets : Type 0 where
  pub include : ℕ
  pub array : InLine
  -- of the line of each function
  pub functions : ℕ → InLine
  -- of the first line of main
  pub main : InLine
  -- of the line of the call of each function
  pub calls : ℕ → InLine
  -- of the last line
  pub ending : InLine

-- NODES

-- a name at offset l
abbrev pub name : ℕ → List ℕ → Expr
name l w = at l (node.Name w)

-- the number v at offset l
abbrev pub number : ℕ → ℕ → Expr
number l v = at l (node.Number v Int)

-- the names of the text
abbrev pub name_i : List ℕ
name_i = codes "i"

-- the name `x`
abbrev pub name_x : List ℕ
name_x = codes "x"

-- the name `a`
abbrev pub name_a : List ℕ
name_a = codes "a"

-- the name of function k
abbrev pub name_f : ℕ → List ℕ
name_f k = 102 ∷ decimal k

-- i, and x
abbrev pub i_of : ℕ → Expr
i_of l = name l name_i

-- the name `x` as an expression at offset l
abbrev pub x_of : ℕ → Expr
x_of l = name l name_x

-- an operation, whose operator is at offset k
abbrev pub operation : ℕ → ℕ → BinaryOp → Expr → Expr → Expr
operation l k op a b = told_at l k (node.Binary op a b)

-- an assignment
abbrev pub assigned : ℕ → ℕ → Expr → Expr → Expr
assigned l k a b = told_at l k (node.Assign None a b)

-- a[e]
abbrev pub element : ℕ → Expr → Expr
element l e = at l (node.Element name_a None e)

-- a[e - 1]
abbrev pub before : ℕ → ℕ → ℕ → ℕ → Expr
before l m k v = element l (operation m k Subtract (i_of m) (number v 1))

-- PARTS OF LINES, each from its first token on

-- i = v
abbrev pub set_i : InLine → ℕ → Expr
set_i l v = assigned (l 0) (l 1) (i_of (l 0)) (number (l 2) v)

-- i < 16
abbrev pub below_16 : InLine → Expr
below_16 l = operation (l 0) (l 1) Less (i_of (l 0)) (number (l 2) 16)

-- i = i + 1
abbrev pub step : InLine → Expr
step l = assigned (l 0) (l 1) (i_of (l 0)) (operation (l 2) (l 3) Add (i_of (l 2)) (number (l 4) 1))

-- a[i] = x + i
abbrev pub fill : InLine → Expr
fill l = assigned (l 0) (l 4) (element (l 0) (i_of (l 2))) (operation (l 5) (l 6) Add (x_of (l 5)) (i_of (l 7)))

-- a[i] = a[i] + a[i - 1]
abbrev pub add_up : InLine → Expr
add_up l = assigned (l 0) (l 4) (element (l 0) (i_of (l 2))) (operation (l 5) (l 9) Add (element (l 5) (i_of (l 7)))
    (before (l 10) (l 12) (l 13) (l 14)))

-- a[15] + k
abbrev pub sum : InLine → ℕ → Expr
sum l k = operation (l 0) (l 4) Add (element (l 0) (number (l 2) 15)) (number (l 5) k)

-- an expression statement, and a loop over one
abbrev pub plain : ℕ → Expr → Stmt
plain l e = s.at l (statement.Plain (Some e))

-- for (i = v; i < 16; i = i + 1) e;
abbrev pub loop : InLine → ℕ → Expr → Stmt
loop l v e = s.at (l 0) (statement.For (first.First (set_i (onward 2 l) v)) (Some (below_16 (onward 6 l)))
    (Some (step (onward 10 l))) (plain (l 16) e))

-- return e;
abbrev pub returned : ℕ → Expr → Stmt
returned l e = s.at l (statement.Return (Some e))

-- the body of function k, in its line
abbrev pub function_body : InLine → ℕ → List Stmt
function_body l k =
    s.declared (l 8) Long name_i (sizes.Scalar, None) ∷ loop (onward 10 l) 0 (fill (onward 26 l))
    ∷ loop (onward 35 l) 1 (add_up (onward 51 l)) ∷ returned (l 68) (sum (onward 69 l) k) ∷ []

-- function k
abbrev pub function : InLine → ℕ → Top
function l k = u.function (l 1) (Some Long) (name_f k) (u.parameter (l 4, Some name_x) Long sizes.Scalar ∷ [])
    (Some (s.at (l 6) (statement.Compound (function_body l k))))

-- fK(x)
abbrev pub call_of : InLine → ℕ → Expr
call_of l k = at (l 0) (node.Call (name_f k) (x_of (l 2) ∷ []))

-- fK(x) % 1000
abbrev pub next_x : InLine → ℕ → Expr
next_x l k = operation (l 0) (l 4) Remainder (call_of l k) (number (l 5) 1000)

-- x % 26
abbrev pub letter : InLine → Expr
letter l = operation (l 0) (l 1) Remainder (x_of (l 0)) (number (l 2) 26)

-- (int) (x % 26)
abbrev pub low : InLine → Expr
low l = at (l 0) (node.Cast Int (at (l 3) (node.Group (letter (onward 4 l)))))

-- the call of function k: two statements
abbrev pub advance : InLine → ℕ → Stmt
advance l k = plain (l 0) (assigned (l 0) (l 1) (x_of (l 0)) (next_x (onward 2 l) k))

-- 65 + (int) (x % 26)
abbrev pub shown : InLine → Expr
shown l = operation (l 0) (l 1) Add (number (l 0) 65) (low (onward 2 l))

-- putchar(65 + (int) (x % 26))
abbrev pub put : InLine → Expr
put l = at (l 0) (node.Call (codes "putchar") (shown (onward 2 l) ∷ []))

-- putchar(65 + (int) (x % 26));
abbrev pub show : InLine → Stmt
show l = plain (l 0) (put l)

-- (int) x
abbrev pub result : InLine → Expr
result l = at (l 0) (node.Cast Int (x_of (l 3)))

-- THE UNIT

-- the functions below n
abbrev pub functions : (ℕ → InLine) → ℕ → List Top
functions o zero = []
functions o (suc n) = functions o n ++ function (o n) n ∷ []

-- the calls of the functions below k
abbrev pub calls : (ℕ → InLine) → ℕ → List Stmt
calls o zero = []
calls o (suc k) = calls o k ++ advance (o k) k ∷ show (onward 9 (o k)) ∷ []

-- the end of main
abbrev pub ended : InLine → List Stmt
ended l = returned (l 0) (result (onward 1 l)) ∷ []

-- the body of main
abbrev pub main_body : Offsets → ℕ → List Stmt
main_body o n = s.declared (o.main 7) Long name_x (sizes.Scalar, Some (number (o.main 9) 1))
    ∷ (calls o.calls n ++ ended o.ending)

-- main, which calls the functions below n
abbrev pub main : Offsets → ℕ → Top
main o n = u.function (o.main 1) (Some Int) (codes "main") []
    (Some (s.at (o.main 5) (statement.Compound (main_body o n))))

-- long a[16];
abbrev pub array : InLine → Top
array l = u.global (l 1) Long name_a (sizes.Sized (number (l 3) 16), [])

-- the tree with n functions
abbrev pub tree : Offsets → ℕ → List Top
tree o n = u.at o.include tops.Include ∷ array o.array ∷ (functions o.functions n ++ main o n ∷ [])
