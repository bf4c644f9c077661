-- Which typed trees an expression has, by one rule for each node (C17 6.5). Each has the place of the token that
-- names what the node does.
use Rattle.std.specs.Prelude.{◌≡◌, ℕ, Bool, true, List, [], ◌∷◌, Option, Some, None}
use Rattle.c_tree.specs.declared.token.Kind.{Kind}
use Rattle.c_tree.specs.declared.tree.UnaryOp.{UnaryOp}
use Rattle.c_tree.specs.declared.tree.BumpOp.{BumpOp}
use Rattle.c_tree.specs.declared.tree.BinaryOp.{BinaryOp}
use Rattle.c_tree.specs.declared.tree.Expr.{Expr}
use Rattle.c_tree.specs.declared.tree.ExprNode.TheVariants as node
use Rattle.c_tree.specs.declared.typed.Place.{Place}
use Rattle.c_tree.specs.declared.typed.Callee.{Callee}
use Rattle.c_tree.specs.declared.typed.Slot.{Slot}
use Rattle.c_tree.specs.declared.typed.Slot.TheVariants as slot
use Rattle.c_tree.specs.declared.typed.TypedExpr.{TypedExpr}
use Rattle.c_tree.specs.declared.typed.TypedNode.TheVariants as typed
use Rattle.c_type_expr.specs.declared.meaning.Meaning.TheVariants as meaning
use Rattle.c_type_expr.specs.Scope.{Scope, look_up}
use Rattle.c_type_expr.specs.declared.spot.Spot.{Spot}
use Rattle.c_type_expr.specs.declared.role.Role.{Role}
use Rattle.c_type_expr.specs.declared.role.Role.TheVariants.{Value, Free, Written, Array}
use Rattle.c_type_expr.specs.Roles.{takes_value, takes_element, takes_array, takes_result, at, IsPlace}
use Rattle.c_type_expr.specs.Conversions.{a, with_convert, end_of_file, unary, cast, bump, binary, choice}
use Rattle.c_type_expr.specs.Conversions.{assign, comma}

mutual
  -- the expression, in its role, has the typed tree
  pub data Typed (G : Scope) : Role → Expr → TypedExpr → Type 0 where
    -- 6.5.1
    number : {r : Role} {l : Spot} {v : ℕ} {k : Kind} → takes_value r ≡ true
        → Typed G r (at l (node.Number v k)) (a l.at (Some k) (typed.Number v))
    -- 6.5.1: its value, or the scalar itself where it is written to
    scalar : {r : Role} {l : Spot} {w : List ℕ} {k : Kind} {p : Place}
        → look_up G w ≡ Some (meaning.Scalar k p) → takes_element r ≡ true
        → Typed G r (at l (node.Name w)) (a l.at (Some k) (typed.Name p))
    -- 6.5.2.2: only as an argument, for a parameter that wants such an array
    array : {r : Role} {l : Spot} {w : List ℕ} {k : Kind} {q : Option ℕ} {p : Place}
        → look_up G w ≡ Some (meaning.Array k q p) → takes_array k q r ≡ true
        → Typed G r (at l (node.Name w)) (a l.at (Some k) (typed.Name p))
    -- 7.21.1: `EOF` of the include
    ending : {r : Role} {l : Spot} {w : List ℕ}
        → look_up G w ≡ Some meaning.EndOfFile → takes_value r ≡ true
        → Typed G r (at l (node.Name w)) (end_of_file l.at)
    -- 6.5.2.1: one index, of an array with one size
    element : {r : Role} {l : Spot} {w : List ℕ} {k : Kind} {p : Place} {i : Expr} {j : TypedExpr}
        → Typed G Value i j → look_up G w ≡ Some (meaning.Array k None p) → takes_element r ≡ true
        → Typed G r (at l (node.Element w None i)) (a l.at (Some k) (typed.Element p None j))
    -- two indexes, of an array with two sizes
    row_element : {r : Role} {l : Spot} {n : ℕ} {w : List ℕ} {k : Kind} {p : Place} {x i : Expr}
        {y j : TypedExpr}
        → Typed G Value x y → Typed G Value i j → look_up G w ≡ Some (meaning.Array k (Some n) p)
        → takes_element r ≡ true
        → Typed G r (at l (node.Element w (Some x) i)) (a l.at (Some k) (typed.Element p (Some y) j))
    -- 6.5.2.2: of a function that the unit defines; one without a value stands where none is wanted
    call : {r : Role} {l : Spot} {w : List ℕ} {result : Option Kind} {slots : List Slot} {c : Callee}
        {d : Bool} {es : List Expr} {ts : List TypedExpr}
        → look_up G w ≡ Some (meaning.Function result slots (Some c) d) → Passed G slots es ts
        → takes_result result r ≡ true
        → Typed G r (at l (node.Call w es)) (a l.at result (typed.Call c ts))
    -- 6.5.1: no node of its own is left of it
    group : {r : Role} {l : Spot} {e : Expr} {t : TypedExpr} → Typed G r e t
        → Typed G r (at l (node.Group e)) t
    -- 6.5.3.3
    operator : {r : Role} {l : Spot} {op : UnaryOp} {e : Expr} {t : TypedExpr} → Typed G Value e t
        → takes_value r ≡ true
        → Typed G r (at l (node.Unary op e)) (unary l.at op t)
    -- 6.5.4
    conversion : {r : Role} {l : Spot} {to : Kind} {e : Expr} {t : TypedExpr} → Typed G Value e t
        → takes_value r ≡ true
        → Typed G r (at l (node.Cast to e)) (cast l.at to t)
    -- 6.5.2.4, 6.5.3.1: of a scalar or an element
    step : {r : Role} {l : Spot} {op : BumpOp} {e : Expr} {t : TypedExpr} → IsPlace e
        → Typed G Written e t → takes_value r ≡ true
        → Typed G r (at l (node.Bump op e)) (bump l.at op t)
    -- 6.5.5 to 6.5.14
    operation : {r : Role} {l : Spot} {op : BinaryOp} {x y : Expr} {s t : TypedExpr}
        → Typed G Value x s → Typed G Value y t → takes_value r ≡ true
        → Typed G r (at l (node.Binary op x y)) (binary l.at op s t)
    -- 6.5.15
    either : {r : Role} {l : Spot} {c x y : Expr} {d s t : TypedExpr} → Typed G Value c d
        → Typed G Value x s → Typed G Value y t → takes_value r ≡ true
        → Typed G r (at l (node.Choice c x y)) (choice l.at d s t)
    -- 6.5.16: to a scalar or an element
    assignment : {r : Role} {l : Spot} {op : Option BinaryOp} {x y : Expr} {s t : TypedExpr}
        → IsPlace x → Typed G Written x s → Typed G Value y t → takes_value r ≡ true
        → Typed G r (at l (node.Assign op x y)) (assign l.at op s t)
    -- 6.5.17: its left side may be one without a value
    sequence : {r : Role} {l : Spot} {x y : Expr} {s t : TypedExpr} → Typed G Free x s
        → Typed G Value y t → takes_value r ≡ true
        → Typed G r (at l (node.Comma x y)) (comma l.at s t)

  -- the arguments fit the parameters one by one
  pub data Passed (G : Scope) : List Slot → List Expr → List TypedExpr → Type 0 where
    none : Passed G [] [] []
    -- it is converted to the parameter's type
    value : {k : Kind} {e : Expr} {t : TypedExpr} {slots : List Slot} {es : List Expr}
        {ts : List TypedExpr} → Typed G Value e t → Passed G slots es ts
        → Passed G (slot.Scalar k ∷ slots) (e ∷ es) (with_convert k t ∷ ts)
    -- the name of an array, of the parameter's type of elements and second size
    address : {k : Kind} {q : Option ℕ} {e : Expr} {t : TypedExpr} {slots : List Slot}
        {es : List Expr} {ts : List TypedExpr} → Typed G (Array k q) e t → Passed G slots es ts
        → Passed G (slot.Address k q ∷ slots) (e ∷ es) (t ∷ ts)
