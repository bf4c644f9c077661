-- Constant values and needs at worked expressions.
use Rattle.std.proofs.Common.{◌≡◌, ℕ, ◌+◌, max, List, [], ◌∷◌, map, Option, Some, None, refl, ap}
use Rattle.std.proofs.Common.{◌∙◌}
use Rattle.c_tree.specs.declared.token.Kind.{Kind}
use Rattle.c_tree.specs.declared.token.Kind.TheVariants.{Int}
use Rattle.c_tree.specs.declared.tree.BinaryOp.{BinaryOp}
use Rattle.c_tree.specs.declared.tree.BinaryOp.TheVariants as op
use Rattle.c_tree.specs.declared.tree.Expr.{Expr}
use Rattle.c_tree.specs.declared.tree.ExprNode.TheVariants as node
use Rattle.c_constant.specs.Kinds.{common, converted}
use Rattle.c_constant.specs.Operation.{left_at, result_of, operate}
use Rattle.c_constant.specs.Constant.{constant, given, binary_value, choice_value}
use Rattle.c_constant.specs.Need.{Needs, needs, call_need, assign_need}
use Rattle.c_constant.proofs.Nodes.{at, value-Number, value-Binary, value-Choice, needs-Number}
use Rattle.c_constant.proofs.Nodes.{needs-Binary, needs-Call, needs-Assign, needs-Element}

module _ (l : ℕ) where
  number : (v : ℕ) (k : Kind) → constant [] (at l (node.Number v k)) ≡ given k (Some v)
  number v k = value-Number [] (at l (node.Number v k)) v k refl

  binary : (o : BinaryOp) (x y : Expr) → constant [] (at l (node.Binary o x y))
      ≡ given (result_of o (left_at o (constant [] x).kind (constant [] y).kind))
      (binary_value o (constant [] x).kind (constant [] y).kind (constant [] x).value (constant [] y).value)
  binary o x y = value-Binary [] (at l (node.Binary o x y)) o x y refl

  choice : (t x y : Expr) → constant [] (at l (node.Choice t x y))
      ≡ given (common (constant [] x).kind (constant [] y).kind)
      (choice_value (common (constant [] x).kind (constant [] y).kind) (constant [] t).value (constant [] x).value
      (constant [] y).value)
  choice t x y = value-Choice [] (at l (node.Choice t x y)) t x y refl

  number_need : (v : ℕ) (k : Kind) → (needs (at l (node.Number v k))).need ≡ 1
  number_need v k = ap (λ (n : Needs). n.need) (needs-Number (at l (node.Number v k)) v k refl)

  binary_need : (o : BinaryOp) (x y : Expr)
      → (needs (at l (node.Binary o x y))).need ≡ max (needs x).need (1 + (needs y).need)
  binary_need o x y = ap (λ (n : Needs). n.need)
      (needs-Binary (at l (node.Binary o x y)) o x y refl)

  call_needs : (w : List ℕ) (es : List Expr)
      → (needs (at l (node.Call w es))).need ≡ call_need (map needs es)
  call_needs w es = ap (λ (n : Needs). n.need) (needs-Call (at l (node.Call w es)) w es refl)

  assignment_need : (o : Option BinaryOp) (w : List ℕ) (i y : Expr)
      → (needs (at l (node.Assign o (at l (node.Element w None i)) y))).need
      ≡ max (needs i).need (2 + (needs y).need)
  assignment_need o w i y =
      ap (λ (n : Needs). n.need) (needs-Assign
      (at l (node.Assign o (at l (node.Element w None i)) y)) o _ y refl)
      ∙ ap (λ (n : Needs). assign_need n.index (needs y).need)
      (needs-Element (at l (node.Element w None i)) w None i refl)

  row_need : (w : List ℕ) (r i : Expr)
      → (needs (at l (node.Element w (Some r) i))).need ≡ max (needs r).need (1 + (needs i).need)
  row_need w r i = ap (λ (n : Needs). n.need)
      (needs-Element (at l (node.Element w (Some r) i)) w (Some r) i refl)

abbrev int : ℕ → Expr
int v = at 1 (node.Number v Int)

abbrev one_by_zero : Expr
one_by_zero = at 1 (node.Binary op.Divide (int 1) (int 0))

-- `1 / 0` has no value
undefined : (constant [] one_by_zero).value ≡ None
unfolding operate converted
undefined = simp (number, binary) refl

-- `1 || 1 / 0` has one
settled : constant [] (at 1 (node.Binary op.LogicalOr (int 1) one_by_zero)) ≡ given Int (Some 1)
settled = simp (number, binary) refl

-- `0 ? 1 / 0 : 2` has one
chosen : constant [] (at 1 (node.Choice (int 0) one_by_zero (int 2))) ≡ given Int (Some 2)
unfolding operate converted
chosen = simp (number, binary, choice) refl

-- `1 + (2 + 3)`, grouped to the right, needs three
to_the_right : (needs (at 1 (node.Binary op.Add (int 1)
    (at 1 (node.Binary op.Add (int 2) (int 3)))))).need ≡ 3
to_the_right = simp (number_need, binary_need) refl

-- `1 + 2 + 3` needs two
to_the_left : (needs (at 1 (node.Binary op.Add (at 1 (node.Binary op.Add (int 1) (int 2)))
    (int 3)))).need ≡ 2
to_the_left = simp (number_need, binary_need) refl

-- the second argument of a call needs one more
second_argument : (needs (at 1 (node.Call (102 ∷ []) (int 1 ∷ int 2 ∷ [])))).need ≡ 2
second_argument = simp (number_need, call_needs) refl

-- `a[1] = 2` needs three
to_an_element : (needs (at 1 (node.Assign None (at 1 (node.Element (97 ∷ []) None (int 1)))
    (int 2)))).need ≡ 3
to_an_element = simp (number_need, assignment_need) refl

-- `a[1][2]` needs two
of_two_indexes : (needs (at 1 (node.Element (97 ∷ []) (Some (int 1)) (int 2)))).need ≡ 2
of_two_indexes = simp (number_need, row_need) refl
