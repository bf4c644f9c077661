-- A declaration that is none of a scalar.
use Rattle.std.proofs.Common.{◌≡◌, ℕ, List, Option, None, length, refl, sym, ◌∙◌, subst}
use Rattle.std.specs.Prelude.{Result, Ok, Err}
use Rattle.c_tree.specs.declared.token.Kind.{Kind}
use Rattle.c_tree.specs.declared.tree.ArraySize.{ArraySize}
use Rattle.c_tree.specs.declared.tree.ArraySize.TheVariants as size
use Rattle.c_tree.specs.declared.tree.Expr.{Expr}
use Rattle.c_tree.specs.declared.tree.StmtNode.TheVariants as node
use Rattle.c_tree.specs.declared.typed.Place.TheVariants as place
use Rattle.c_tree.specs.declared.typed.TypedStmt.{TypedStmt}
use Rattle.c_tree.specs.declared.typed.TypedStmt.TheVariants as typed
use Rattle.c_type_expr.specs.declared.fault.TypeFault.{TypeFault}
use Rattle.c_type_expr.specs.inside.Says.{Stops}
use Rattle.c_type.specs.declared.state.State.{State}
use Rattle.c_type.specs.declared.state.Around.{Around}
use Rattle.c_type.specs.States.{at, with_array, row_in}
use Rattle.c_type.specs.Declarations.{declared, declare_fault, declare_tree, sized_fault, extent}
use Rattle.c_type.specs.Statements.{part}
use Rattle.c_type.specs.inside.Runs.{Runs, Moves}
use Rattle.c_type.proofs.Nodes.{after-Declare, fault-Declare, tree-Declare}

module _ (k : Kind) (w : List ℕ) (init : Option Expr) (l : ℕ) (v : State) where
  fault_is : (s : ArraySize) → (s ≡ size.Scalar → ⊥) → declare_fault s k w init l v ≡ sized_fault s k w init l v.names
  fault_is size.Scalar h = absurd (h refl)
  fault_is size.Open h = refl
  fault_is (size.Sized e) h = refl
  fault_is (size.Rows r e) h = refl

  tree_is : (s : ArraySize) → (s ≡ size.Scalar → ⊥)
      → declare_tree s k w init v ≡ typed.Declare (place.Array (length v.arrays)) None
  tree_is size.Scalar h = absurd (h refl)
  tree_is size.Open h = refl
  tree_is (size.Sized e) h = refl
  tree_is (size.Rows r e) h = refl

  after_is : (s : ArraySize) → (s ≡ size.Scalar → ⊥) → declared s k w v ≡ with_array k (row_in s) w (extent s) v
  after_is size.Scalar h = absurd (h refl)
  after_is size.Open h = refl
  after_is (size.Sized e) h = refl
  after_is (size.Rows r e) h = refl

-- the declaration of an array does what its definition says
pub array_runs : (l : ℕ) (k : Kind) (w : List ℕ) (s : ArraySize) (init : Option Expr) (b : Around) (v new : State)
    (r : Result TypedStmt TypeFault) → (s ≡ size.Scalar → ⊥)
    → Moves (sized_fault s k w init l v.names) (typed.Declare (place.Array (length v.arrays)) None)
    (with_array k (row_in s) w (extent s) v) new r
    → Runs (part (at l (node.Declare k w s init))) b v new r
array_runs l k w s init b v new (Ok t) h m = (
  fault-Declare l k w s init b v ∙ fault_is k w init l v s h ∙ m.0,
  m.1 ∙ sym (tree_is k w init l v s h) ∙ sym (tree-Declare l k w s init v),
  m.2 ∙ sym (after_is k w init l v s h) ∙ sym (after-Declare l k w s init v),
)
array_runs l k w s init b v new (Err e) h m =
    subst (λ f. Stops f e) (sym (fault-Declare l k w s init b v ∙ fault_is k w init l v s h)) m
