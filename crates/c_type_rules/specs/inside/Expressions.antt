-- Typed expressions that are well formed (C17 6.5): each node's operands are of the types that the
-- node wants, with no conversion left to be made. A rule for each node.
use Rattle.std.specs.Prelude.{◌≡◌, ℕ, false, List, [], ◌∷◌, Option, Some, None}
use Rattle.c_tree.specs.TypedTrees.{Node, node_of}
use Rattle.c_tree.specs.declared.token.Kind.{Kind}
use Rattle.c_tree.specs.declared.tree.UnaryOp.{UnaryOp}
use Rattle.c_tree.specs.declared.tree.BumpOp.{BumpOp}
use Rattle.c_tree.specs.declared.tree.BinaryOp.{BinaryOp}
use Rattle.c_tree.specs.declared.typed.Place.{Place}
use Rattle.c_tree.specs.declared.typed.Callee.{Callee}
use Rattle.c_tree.specs.declared.typed.Slot.{Slot}
use Rattle.c_tree.specs.declared.typed.Slot.TheVariants as slot
use Rattle.c_tree.specs.declared.typed.TypedExpr.{TypedExpr}
use Rattle.c_tree.specs.declared.typed.TypedNode.TheOpen.{Number, Name, Element, Call}
use Rattle.c_tree.specs.declared.typed.TypedNode.TheOpen.{Unary, Cast, Convert, Bump, Binary}
use Rattle.c_tree.specs.declared.typed.TypedNode.TheOpen.{Choice, Assign, Comma}
use Rattle.c_tree.specs.declared.typed.TypedFunc.{TypedFunc}
use Rattle.c_tree.specs.declared.typed.TypedProgram.{TypedProgram}
use Rattle.c_constant.specs.Kinds.{same_kind, common}
use Rattle.c_constant.specs.Operation.{left_at, right_at, result_of, unary_at, unary_result}
use Rattle.c_type_rules.specs.inside.Objects.{scalar_at, array_at, shape, signature, signature_of}

mutual
  -- the node gives a value of the type; of none, it gives no value
  pub data Gives (P : TypedProgram) (f : TypedFunc) : Option Kind → Node → Type 0 where
    -- 6.5.1
    number : {k : Kind} {w : ℕ} → Gives P f (Some k) (Number w)
    -- 6.5.1
    scalar : {k : Kind} {p : Place} → scalar_at P f p ≡ Some k → Gives P f (Some k) (Name p)
    -- 6.5.2.1: an array with one size has one index
    element : {k j : Kind} {p : Place} {i : TypedExpr}
        → array_at P f p ≡ Some (shape k None) → Has P f j i → Gives P f (Some k) (Element p None i)
    -- an array with two sizes has two indexes
    row_element : {k i j : Kind} {n : ℕ} {p : Place} {x y : TypedExpr}
        → array_at P f p ≡ Some (shape k (Some n)) → Has P f i x → Has P f j y
        → Gives P f (Some k) (Element p (Some x) y)
    -- 6.5.2.2: a function that is void gives no value
    call : {r : Option Kind} {slots : List Slot} {c : Callee} {es : List TypedExpr}
        → signature_of P c ≡ Some (signature r slots) → Passes P f slots es
        → Gives P f r (Call c es)
    -- the operand is of the type to which the operator converts it
    unary : {op : UnaryOp} {j k : Kind} {e : TypedExpr}
        → Has P f j e → unary_at op j ≡ j → k ≡ unary_result op j → Gives P f (Some k) (Unary op e)
    -- 6.5.4: from any type to any
    cast : {j k : Kind} {e : TypedExpr} → Has P f j e → Gives P f (Some k) (Cast k e)
    -- 6.5.2.4, 6.5.3.1
    bump : {op : BumpOp} {k : Kind} {e : TypedExpr} → IsObject P f k e
        → Gives P f (Some k) (Bump op e)
    -- the same of both operands
    binary : {op : BinaryOp} {i j k : Kind} {x y : TypedExpr}
        → Has P f i x → Has P f j y → left_at op i j ≡ i → right_at op i j ≡ j → k ≡ result_of op i
        → Gives P f (Some k) (Binary op x y)
    -- the legs are of their common type
    choice : {j k : Kind} {t x y : TypedExpr}
        → Has P f j t → Has P f k x → Has P f k y → common k k ≡ k
        → Gives P f (Some k) (Choice t x y)
    -- 6.5.16.1: both sides are of one type
    assign : {k : Kind} {x y : TypedExpr}
        → IsObject P f k x → Has P f k y → Gives P f (Some k) (Assign None k x y)
    -- `at` is the type in which the operator works on both sides; the right side is of the type to
    -- which the operator converts it
    compound : {op : BinaryOp} {k j at : Kind} {x y : TypedExpr}
        → IsObject P f k x → Has P f j y → at ≡ left_at op k j → right_at op k j ≡ j
        → Gives P f (Some k) (Assign (Some op) at x y)
    -- the left side need give no value
    comma : {k : Kind} {x y : TypedExpr}
        → Gives P f x.kind (node_of x) → Has P f k y → Gives P f (Some k) (Comma x y)

  -- the expression has a value of the type, which it gives itself, or a conversion of a value of
  -- another type, which is no conversion
  pub data Has (P : TypedProgram) (f : TypedFunc) : Kind → TypedExpr → Type 0 where
    itself : {k : Kind} {e : TypedExpr} → e.kind ≡ Some k → Gives P f (Some k) (node_of e)
        → Has P f k e
    converted : {j k : Kind} {e i : TypedExpr}
        → e.kind ≡ Some k → node_of e ≡ Convert k i → i.kind ≡ Some j → same_kind j k ≡ false
        → Gives P f (Some j) (node_of i) → Has P f k e

  -- the expression names a scalar of the type, or an element of an array of the type
  pub data IsObject (P : TypedProgram) (f : TypedFunc) : Kind → TypedExpr → Type 0 where
    named : {k : Kind} {e : TypedExpr} {p : Place}
        → e.kind ≡ Some k → node_of e ≡ Name p → scalar_at P f p ≡ Some k → IsObject P f k e
    indexed : {k j : Kind} {e i : TypedExpr} {p : Place}
        → e.kind ≡ Some k → node_of e ≡ Element p None i → array_at P f p ≡ Some (shape k None)
        → Has P f j i → IsObject P f k e
    row_indexed : {k i j : Kind} {n : ℕ} {e x y : TypedExpr} {p : Place}
        → e.kind ≡ Some k → node_of e ≡ Element p (Some x) y
        → array_at P f p ≡ Some (shape k (Some n)) → Has P f i x → Has P f j y → IsObject P f k e

  -- the arguments are as many as the parameters and fit them one by one: a value of the parameter's
  -- type, or the name of an array whose elements are of the parameter's type and whose second size is
  -- the parameter's
  pub data Passes (P : TypedProgram) (f : TypedFunc) : List Slot → List TypedExpr → Type 0 where
    end : Passes P f [] []
    value : {k : Kind} {slots : List Slot} {e : TypedExpr} {es : List TypedExpr}
        → Has P f k e → Passes P f slots es → Passes P f (slot.Scalar k ∷ slots) (e ∷ es)
    address : {k : Kind} {q : Option ℕ} {p : Place} {slots : List Slot} {e : TypedExpr}
        {es : List TypedExpr}
        → e.kind ≡ Some k → node_of e ≡ Name p → array_at P f p ≡ Some (shape k q)
        → Passes P f slots es → Passes P f (slot.Address k q ∷ slots) (e ∷ es)
