-- Constant operands: what they mean, and that they are words of their types.
use Rattle.std.proofs.Common.{◌≡◌, ℕ, zero, suc, ◌≤◌, Option, Some, None, refl, sym, ap, ◌∙◌, subst, arith}
use Rattle.c_tree.specs.declared.Kind.{Kind}
use Rattle.c_tree.specs.declared.TypedExpr.{TypedExpr}
use Rattle.c_tree.specs.declared.TypedProgram.{TypedProgram}
use Rattle.c_tree.specs.declared.TypedNode.TheOpen as node
use Rattle.c_tree.specs.TypedTrees.{Node, node_of}
use Rattle.c_constant.specs.Kinds.{IsWord, converted}
use Rattle.c_constant.proofs.Conversions.{converted_word}
use Rattle.c_meaning_spec.specs.declared.signal.Signal.{Signal}
use Rattle.c_meaning_spec.specs.declared.signal.Signal.TheVariants.{Value}
use Rattle.c_meaning_spec.specs.State.{Result, Go, spend_of, spend}
use Rattle.c_meaning_spec.specs.inside.State.{then}
use Rattle.c_meaning_spec.specs.State as eval
use Rattle.c_meaning_spec.specs.Task.{Of}
use Rattle.c_meaning_spec.specs.Expression as level
use Rattle.c_meaning_spec.specs.Expression.{expression, converting}
use Rattle.c_meaning_spec.specs.Eval.{meaning}
use Rattle.c_meaning_spec.proofs.Equations.{meaning-is}
use Rattle.flat_lower.specs.inside.Tree.{Expr, Number, Convert, kind_of}
use Rattle.flat_lower.specs.inside.TreeViews.{expr_of}
use Rattle.flat_lower.specs.inside.Powers.{number_of, converted_number, constant_of}
use Rattle.flat_lower.specs.inside.Fits.{Scope, FitsExpr}
use Rattle.flat_lower.specs.inside.Sizes.{nodes}
use Rattle.flat_lower.proofs.TreeFacts.{plain_node, expr_is}

-- A number that a conversion stands over.
record ConvertedIs (to : Kind) (o : Option ℕ) (w : ℕ) : Type 0 where
  pub word : ℕ
  pub number : o ≡ Some word
  pub is : converted to word ≡ w

converted_from : (to : Kind) (o : Option ℕ) (w : ℕ) → converted_number to o ≡ Some w → ConvertedIs to o w
converted_from to None w h = absurd (cc h)
converted_from to (Some v) w h = record { word = v; number = refl; is = cc h }

-- WHAT IT MEANS

-- What costs one step and gives a value, and what follows it, cost one step.
pub then_spent : (n : ℕ) (s : eval.State) (v : ℕ) (next : Signal → eval.State → Result)
    → then (spend_of n s (λ (s1 : eval.State). Go (Value v) s1)) next
    ≡ spend_of n s (λ (s1 : eval.State). next (Value v) s1)
then_spent zero s v next = refl
then_spent (suc n) s v next = refl

-- a number's node
number_means : (P : TypedProgram) (x : Node) (k : Option Kind) (w : ℕ) (s : eval.State)
    → number_of (plain_node x k) ≡ Some w
    → level.node (meaning P) P x s ≡ spend s (λ (s1 : eval.State). Go (Value w) s1)
number_means P (node.Number u) k w s h = ap (λ w. spend s (λ (s1 : eval.State). Go (Value w) s1)) (cc h)
number_means P (node.Name p) k w s h = absurd (cc h)
number_means P (node.Element p None i) k w s h = absurd (cc h)
number_means P (node.Element p (Some row) i) k w s h = absurd (cc h)
number_means P (node.Call f args) k w s h = absurd (cc h)
number_means P (node.Unary o e) k w s h = absurd (cc h)
number_means P (node.Cast to e) k w s h = absurd (cc h)
number_means P (node.Convert to e) k w s h = absurd (cc h)
number_means P (node.Bump o e) k w s h = absurd (cc h)
number_means P (node.Binary o l r) k w s h = absurd (cc h)
number_means P (node.Choice t one other) k w s h = absurd (cc h)
number_means P (node.Assign o at l r) k w s h = absurd (cc h)
number_means P (node.Comma l r) k w s h = absurd (cc h)

level_means : (P : TypedProgram) (x : Node) (k : Option Kind) (w : ℕ) (s : eval.State)
    → constant_of (plain_node x k) ≡ Some w
    → expression (meaning P) P x s ≡ spend s (λ (s1 : eval.State). Go (Value w) s1)
level_means P (node.Number u) k w s h = number_means P (node.Number u) k w s h
level_means P (node.Convert to e) k w s h =
    let c = converted_from to (number_of (expr_of e)) w h in
    let m = number_means P (node_of e) e.kind c.word s (subst (λ x. number_of x ≡ Some c.word) (expr_is e) c.number)
    in
    ap (λ r. then r (converting to)) m ∙ then_spent s.stock s c.word (converting to)
    ∙ ap (λ w. spend s (λ (s1 : eval.State). Go (Value w) s1)) c.is
level_means P (node.Name p) k w s h = absurd (cc h)
level_means P (node.Element p None i) k w s h = absurd (cc h)
level_means P (node.Element p (Some row) i) k w s h = absurd (cc h)
level_means P (node.Call f args) k w s h = absurd (cc h)
level_means P (node.Unary o e) k w s h = absurd (cc h)
level_means P (node.Cast to e) k w s h = absurd (cc h)
level_means P (node.Bump o e) k w s h = absurd (cc h)
level_means P (node.Binary o l r) k w s h = absurd (cc h)
level_means P (node.Choice t one other) k w s h = absurd (cc h)
level_means P (node.Assign o at l r) k w s h = absurd (cc h)
level_means P (node.Comma l r) k w s h = absurd (cc h)

-- A constant operand costs one step and gives its word.
pub constant_means : (P : TypedProgram) (e : TypedExpr) (w : ℕ) (s : eval.State) → constant_of (expr_of e) ≡ Some w
    → meaning P (Of e) s ≡ spend s (λ (s1 : eval.State). Go (Value w) s1)
constant_means P e w s h =
    meaning-is P (Of e) s ∙ level_means P (node_of e) e.kind w s (subst (λ x. constant_of x ≡ Some w) (expr_is e) h)

-- WHAT IT IS

-- A constant that fits is a word of its type.
pub constant_fits : (c : Scope) (d : ℕ) (r : Expr) (k : Kind) (w : ℕ) → FitsExpr c d r → kind_of r ≡ Some k
    → constant_of r ≡ Some w → IsWord k w
constant_fits c d (Number None u) k w t ek ew = absurd t
constant_fits c d (Number (Some j) u) k w t ek ew =
    let a : j ≡ k = cc ek in
    let b : u ≡ w = cc ew in
    subst (λ k. IsWord k w) a (subst (λ w. IsWord j w) b t.1)
constant_fits c d (Convert j to e) k w t ek ew =
    let n = converted_from to (number_of e) w ew in
    let a : to ≡ k = cc (sym t.1 ∙ ek) in
    subst (λ k. IsWord k w) a (subst (λ w. IsWord to w) n.is (converted_word to n.word))
constant_fits c d _ k w t ek ew = absurd (cc ew)

number_nodes : (r : Expr) (w : ℕ) → number_of r ≡ Some w → 1 ≤ nodes r
number_nodes (Number k u) w h = omega arith
number_nodes _ w h = absurd (cc h)

-- It is at least one node.
pub constant_nodes : (r : Expr) (w : ℕ) → constant_of r ≡ Some w → 1 ≤ nodes r
constant_nodes (Number k u) w h = omega arith
constant_nodes (Convert j to e) w h =
    let n = converted_from to (number_of e) w h in number_nodes e n.word n.number
constant_nodes _ w h = absurd (cc h)
