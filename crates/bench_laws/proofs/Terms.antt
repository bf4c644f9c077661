-- The forms of the benchmark's typed program: its expressions, its statements, and the typed trees that they stand
-- for.
use Rattle.std.proofs.Common.{ℕ, List, [], ◌∷◌, map, Option, Some, None}
use Rattle.c_tree.specs.declared.Kind.{Kind}
use Rattle.c_tree.specs.declared.Kind.TheVariants.{Int, Long}
use Rattle.c_tree.specs.declared.BinaryOp.{BinaryOp}
use Rattle.c_tree.specs.declared.Place.TheVariants as place
use Rattle.c_tree.specs.declared.Callee.TheVariants.{Func, PutChar}
use Rattle.c_tree.specs.declared.TypedExpr.{TypedExpr}
use Rattle.c_tree.specs.declared.TypedNode.{TypedNode}
use Rattle.c_tree.specs.declared.TypedNode.TheVariants.{Number, Name, Element, Call, Cast, Convert, Binary, Assign}
use Rattle.c_tree.specs.declared.TypedStmt.{TypedStmt}
use Rattle.c_tree.specs.declared.TypedStmt.TheVariants.{Declare, Plain, For, Return}
use Rattle.c_tree.specs.declared.TypedForInit.TheVariants.{First}

-- an expression of a place, a type and a node
abbrev pub made : ℕ → Kind → TypedNode → TypedExpr
made l k n = record { kind = Some k; at = l; node = n }

-- an expression, with its place and its type
pub data Term : Type 0 where
  number : ℕ → Kind → ℕ → Term
  -- a scalar of the function
  scalar : ℕ → Kind → ℕ → Term
  -- an element of a global array
  element : ℕ → Kind → ℕ → Term → Term
  -- a number of type int in another type
  convert : ℕ → Kind → ℕ → Term
  cast : ℕ → Kind → Term → Term
  operation : ℕ → Kind → BinaryOp → Term → Term → Term
  -- to a scalar, and to an element of a global array, which have a place of their own
  assign : ℕ → ℕ → Kind → ℕ → Term → Term
  set : ℕ → ℕ → Kind → ℕ → Term → Term → Term
  -- with one argument
  call : ℕ → Kind → ℕ → Term → Term
  put : ℕ → Term → Term

-- the typed tree that it stands for
abbrev pub typed : Term → TypedExpr
typed (number l c w) = made l c (Number w)
typed (scalar l c i) = made l c (Name (place.Scalar i))
typed (element l c g e) = made l c (Element (place.Global g) None (typed e))
typed (convert l c w) = made l c (Convert c (made l Int (Number w)))
typed (cast l c e) = made l c (Cast c (typed e))
typed (operation l c op x y) = made l c (Binary op (typed x) (typed y))
typed (assign l d c i e) = made l c (Assign None c (made d c (Name (place.Scalar i))) (typed e))
typed (set l d c g x e) = made l c (Assign None c (made d c (Element (place.Global g) None (typed x))) (typed e))
typed (call l c f e) = made l c (Call (Func f) (typed e ∷ []))
typed (put l e) = made l Int (Call PutChar (typed e ∷ []))

-- a statement
pub data Code : Type 0 where
  plain : Term → Code
  -- a local, without and with an initialiser
  declare : ℕ → Code
  initialise : ℕ → Term → Code
  -- a `for`: what is before it, its test, what follows a turn, and its body
  loop : Term → Term → Term → Code → Code
  give : Term → Code

-- the typed tree that it stands for
abbrev pub stated : Code → TypedStmt
stated (plain e) = Plain (Some (typed e))
stated (declare i) = Declare (place.Scalar i) None
stated (initialise i e) = Declare (place.Scalar i) (Some (typed e))
stated (loop e t p body) =
    For (First (typed e)) (Some (typed t)) (Some (typed p)) (stated body)
stated (give e) = Return (Some (typed e))
