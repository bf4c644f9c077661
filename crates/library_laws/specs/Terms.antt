-- The forms of the printing functions' typed trees: expressions and statements, and the trees that they stand for.
use Rattle.std.specs.Prelude.{ℕ, List, [], ◌∷◌, map, Some, None}
use Rattle.c_tree.specs.declared.token.Kind.{Kind}
use Rattle.c_tree.specs.declared.token.Kind.TheVariants.{Int}
use Rattle.c_tree.specs.declared.tree.UnaryOp.TheVariants.{Minus}
use Rattle.c_tree.specs.declared.tree.BumpOp.TheVariants.{PostInc}
use Rattle.c_tree.specs.declared.tree.BinaryOp.{BinaryOp}
use Rattle.c_tree.specs.declared.typed.Place.TheVariants as place
use Rattle.c_tree.specs.declared.typed.Callee.TheVariants.{Func, PutChar}
use Rattle.c_tree.specs.declared.typed.TypedExpr.{TypedExpr}
use Rattle.c_tree.specs.declared.typed.TypedNode.{TypedNode}
use Rattle.c_tree.specs.declared.typed.TypedNode.TheVariants.{Number, Name, Call, Unary, Cast, Convert, Bump, Binary}
use Rattle.c_tree.specs.declared.typed.TypedNode.TheVariants.{Choice, Assign}
use Rattle.c_tree.specs.declared.typed.TypedStmt.{TypedStmt}
use Rattle.c_tree.specs.declared.typed.TypedStmt.TheVariants.{Declare, Plain, Compound, If, While, Return}

-- an expression at a place, with its type
abbrev pub made : ℕ → Kind → TypedNode → TypedExpr
made l c n = record { kind = Some c; at = l; node = n }

mutual
  -- an expression, with its place and its type
  pub data Term : Type 0 where
    number : ℕ → Kind → ℕ → Term
    -- a scalar of the function, by its number
    scalar : ℕ → Kind → ℕ → Term
    -- a conversion that the typing adds, of an expression that is none
    convert : ℕ → Kind → Term → Term
    cast : ℕ → Kind → Term → Term
    negative : ℕ → Kind → Term → Term
    operation : ℕ → Kind → BinaryOp → Term → Term → Term
    -- a test and its two legs
    choice : ℕ → Kind → Term → Term → Term → Term
    -- `++` behind a scalar of type int, whose name has a place of its own
    bump : ℕ → ℕ → ℕ → Term
    -- `op=` to a scalar, done in its type, with the place of its name
    update : ℕ → ℕ → Kind → BinaryOp → ℕ → Term → Term
    -- of a function of the program, by its number
    call : ℕ → Kind → ℕ → Terms → Term
    -- of `putchar`
    put : ℕ → Term → Term

  -- the arguments of a call, from the left
  pub data Terms : Type 0 where
    none : Terms
    before : Term → Terms → Terms

abbrev mutual
  -- the typed tree of an expression
  pub typed : Term → TypedExpr
  typed (number l c w) = made l c (Number w)
  typed (scalar l c i) = made l c (Name (place.Scalar i))
  typed (convert l c e) = made l c (Convert c (typed e))
  typed (cast l c e) = made l c (Cast c (typed e))
  typed (negative l c e) = made l c (Unary Minus (typed e))
  typed (operation l c op x y) = made l c (Binary op (typed x) (typed y))
  typed (choice l c t x y) = made l c (Choice (typed t) (typed x) (typed y))
  typed (bump l d i) = made l Int (Bump PostInc (made d Int (Name (place.Scalar i))))
  typed (update l d c op i e) = made l c (Assign (Some op) c (made d c (Name (place.Scalar i))) (typed e))
  typed (call l c f es) = made l c (Call (Func f) (all_typed es))
  typed (put l e) = made l Int (Call PutChar (typed e ∷ []))

  -- those of arguments
  pub all_typed : Terms → List TypedExpr
  all_typed none = []
  all_typed (before e es) = typed e ∷ all_typed es

-- a statement
pub data Code : Type 0 where
  plain : Term → Code
  -- a local, by its number, with its first value
  initialise : ℕ → Term → Code
  -- an `if` without `else`
  when : Term → Code → Code
  -- a `while`, and two statements in braces
  repeat : Term → Code → Code
  pair : Code → Code → Code
  give : Term → Code

-- the typed tree of a statement
abbrev pub stated : Code → TypedStmt
stated (plain e) = Plain (Some (typed e))
stated (initialise i e) = Declare (place.Scalar i) (Some (typed e))
stated (when t c) = If (typed t) (stated c) None
stated (repeat t c) = While (typed t) (stated c)
stated (pair a b) = Compound (stated a ∷ stated b ∷ [])
stated (give e) = Return (Some (typed e))

-- the body of a function
abbrev pub body : List Code → TypedStmt
body all = Compound (map stated all)
