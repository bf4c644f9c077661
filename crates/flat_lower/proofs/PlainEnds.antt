-- An expression statement follows the evaluation, also where one statement sets a scalar at once.
use Rattle.std.proofs.Common.{◌≡◌, ℕ, zero, suc, ◌+◌, ◌-◌, ◌*◌, ◌<◌, ◌≤◌, Option, Some, None, refl}
use Rattle.std.proofs.Common.{sym, ap, ◌∙◌, subst, arith}
use Rattle.std.specs.Prelude.{slice_get}
use Rattle.c_tree.specs.declared.Kind.{Kind}
use Rattle.c_tree.specs.declared.Place.TheVariants.{Global, Scalar, Array}
use Rattle.c_tree.specs.declared.Slot.TheVariants as slot
use Rattle.c_tree.specs.declared.TypedExpr.{TypedExpr}
use Rattle.c_tree.specs.declared.TypedNode.TheOpen as node
use Rattle.c_tree.specs.declared.TypedProgram.{TypedProgram}
use Rattle.c_meaning_spec.specs.State.{missing}
use Rattle.c_meaning_spec.specs.declared.signal.Signal.{Signal}
use Rattle.c_meaning_spec.specs.declared.signal.Signal.TheVariants.{Value}
use Rattle.c_meaning_spec.specs.declared.signal.Object.TheVariants.{InScalar}
use Rattle.c_meaning_spec.specs.State.{Result, Go, Over, spend_of, cell, held, given}
use Rattle.c_meaning_spec.specs.inside.State.{then}
use Rattle.c_meaning_spec.specs.State as eval
use Rattle.c_meaning_spec.specs.Task.{Of}
use Rattle.c_tree.specs.TypedTrees.{Node, node_of}
use Rattle.c_meaning_spec.specs.Expression.{opened, expression, assign, assigned}
use Rattle.c_meaning_spec.specs.Statement.{dropped}
use Rattle.c_meaning_spec.specs.Eval.{meaning}
use Rattle.c_meaning_spec.proofs.Equations.{meaning-is}
use Rattle.trips_isa.specs.declared.op.Op.TheVariants as op
use Rattle.ir_forms.specs.declared.flat.Arg.{Arg}
use Rattle.ir_forms.specs.declared.flat.Arg.TheVariants.{Const, Var}
use Rattle.ir_forms.specs.inside.FlatCode.{Code, only, Let}
use Rattle.ir_forms.specs.inside.FlatSteps.{State}
use Rattle.flat_lower.specs.inside.Tree as tree
use Rattle.flat_lower.specs.inside.TreeViews.{expr_of}
use Rattle.c_constant.specs.Kinds.{IsWord}
use Rattle.flat_lower.specs.inside.Expressions.{expr_code}
use Rattle.flat_lower.specs.inside.Statements.{named_scalar, simple_arg, set_or, plain_code}
use Rattle.flat_lower.specs.inside.Fits.{FitsExpr, FitsNumber, FitsNamed, FitsLeft, FitsKind, FitsCompound}
use Rattle.flat_lower.specs.inside.Sizes.{nodes, left_nodes}
use Rattle.flat_lower.proofs.Straight.{var_read}
use Rattle.flat_lower.proofs.TreeFacts.{plain_node, kind_levels, expr_is}
use Rattle.flat_lower.proofs.Related.{Scene, IsScene, scope, context, Related, held_is}
use Rattle.flat_lower.proofs.Values.{functions, base, FollowsOf, spending}
use Rattle.flat_lower.specs.declared.around.Around.TheVariants as around
use Rattle.flat_lower.specs.declared.around.Around.{Around}
use Rattle.flat_lower.proofs.Returns.{Ended}
use Rattle.flat_lower.proofs.LeafStatements.{EndsHere, dropped_ends, set_end}

-- THE TWO CASES

-- what holds of the long code and of each short one holds of the code
pub either_way : (to : Option ℕ) (a : Option Arg) (long : Code) (Q : Code → Type 0) → Q long
    → ((i : ℕ) (b : Arg) → to ≡ Some i → a ≡ Some b → Q (only (Let i op.Mov b (Const 0))))
    → Q (set_or to a long)
either_way (Some i) (Some b) long Q q h = h i b refl refl
either_way (Some i) None long Q q h = q
either_way None a long Q q h = q

-- the node of a scalar's name
scalar_node : (x : Node) (k : Option Kind) (i : ℕ) → named_scalar (plain_node x k) ≡ Some i
    → x ≡ node.Name (Scalar i)
scalar_node (node.Name (Scalar j)) k i h = ap (λ (n : ℕ). node.Name (Scalar n)) (cc h)
scalar_node (node.Name (Global g)) k i h = absurd (cc h)
scalar_node (node.Name (Array a)) k i h = absurd (cc h)
scalar_node (node.Number w) k i h = absurd (cc h)
scalar_node (node.Element p None e) k i h = absurd (cc h)
scalar_node (node.Element p (Some row) e) k i h = absurd (cc h)
scalar_node (node.Call g args) k i h = absurd (cc h)
scalar_node (node.Unary o e) k i h = absurd (cc h)
scalar_node (node.Cast to e) k i h = absurd (cc h)
scalar_node (node.Convert to e) k i h = absurd (cc h)
scalar_node (node.Bump o e) k i h = absurd (cc h)
scalar_node (node.Binary o l r) k i h = absurd (cc h)
scalar_node (node.Choice t a b) k i h = absurd (cc h)
scalar_node (node.Assign o at l r) k i h = absurd (cc h)
scalar_node (node.Comma l r) k i h = absurd (cc h)

-- a number, or a scalar's name
data Simple : Node → Arg → Type 0 where
  A_number : (w : ℕ) → Simple (node.Number w) (Const w)
  A_scalar : (j : ℕ) → Simple (node.Name (Scalar j)) (Var j)

simple_node : (x : Node) (k : Option Kind) (b : Arg) → simple_arg (plain_node x k) ≡ Some b
    → Simple x b
simple_node (node.Name (Scalar j)) k b h = subst (Simple (node.Name (Scalar j))) (cc h) (A_scalar j)
simple_node (node.Number w) k b h = subst (Simple (node.Number w)) (cc h) (A_number w)
simple_node (node.Name (Global g)) k b h = absurd (cc h)
simple_node (node.Name (Array a)) k b h = absurd (cc h)
simple_node (node.Element p None e) k b h = absurd (cc h)
simple_node (node.Element p (Some row) e) k b h = absurd (cc h)
simple_node (node.Call g args) k b h = absurd (cc h)
simple_node (node.Unary o e) k b h = absurd (cc h)
simple_node (node.Cast to e) k b h = absurd (cc h)
simple_node (node.Convert to e) k b h = absurd (cc h)
simple_node (node.Bump o e) k b h = absurd (cc h)
simple_node (node.Binary o l r) k b h = absurd (cc h)
simple_node (node.Choice t u v) k b h = absurd (cc h)
simple_node (node.Assign o at l r) k b h = absurd (cc h)
simple_node (node.Comma l r) k b h = absurd (cc h)

-- what goes on behind a step goes on behind what the step leads to
then_spend : (n : ℕ) (s : eval.State) (next : eval.State → Result)
    (after : Signal → eval.State → Result)
    → then (spend_of n s next) after ≡ spend_of n s (λ s. then (next s) after)
then_spend zero s next after = refl
then_spend (suc n) s next after = refl

same_word : (q : Option Kind) (k : Kind) (w : ℕ) → q ≡ Some k → FitsNumber 0 q w → IsWord k w
same_word None k w e t = absurd (cc e)
same_word (Some j) k w e t = subst (λ k. IsWord k w) (cc e) t.1

module _ (P : TypedProgram) (most : ℕ) (S : Scene) (y : IsScene P S) where
  same_scalar : (q : Option Kind) (k : Kind) (i : ℕ) → q ≡ Some k
      → FitsNamed (scope P S) 0 q (Scalar i) → slice_get S.func.scalars i ≡ Some (slot.Scalar k)
  same_scalar None k i e t = absurd t
  same_scalar (Some j) k i e t =
      subst (λ k. slice_get S.func.scalars i ≡ Some (slot.Scalar k)) (cc e) t.1

  -- from the state in which both nodes have taken their steps
  set_ends : (i : ℕ) (b : Arg) (q : Option Kind) (k : Kind) (x : Node) (s : eval.State) (f : State)
      (top low : ℕ) → Simple x b → q ≡ Some k → FitsExpr (scope P S) 0 (plain_node x q)
      → slice_get S.func.scalars i ≡ Some (slot.Scalar k) → Related S s f → 1 + 8 * s.stock ≤ top
      → low ≤ s.stock + most * f.rounds
      → EndsHere P most S y around.Loop (only (Let i op.Mov b (Const 0))) f top low
      (then (then (opened (meaning P) P x s) (assigned (InScalar i))) dropped)
  set_ends i _ q k _ s f top low (A_number w) eq t ti r hu hl =
      set_end P most S y around.Loop i w (Const w) k top low s f ti (same_word q k w eq t) refl r hu hl
      (cell s (InScalar i)) refl
  set_ends i _ q k _ s f top low (A_scalar j) eq t ti r hu hl =
      go (held (cell s (InScalar j))) refl
    where
      go : (o : Option ℕ) → held (cell s (InScalar j)) ≡ o
          → EndsHere P most S y around.Loop (only (Let i op.Mov (Var j) (Const 0))) f top low
          (then (then (given o (missing s (InScalar j)) s) (assigned (InScalar i))) dropped)
      go None e = tt
      go (Some w) e =
          let z = r.scalars j w (slot.Scalar k) (same_scalar q k j eq t)
          (held_is (cell s (InScalar j)) w e) in
          set_end P most S y around.Loop i w (Var j) k top low s f ti z.1
          (var_read (functions P most) (base P most) S.env f j w z.0) r hu hl
          (cell s (InScalar i)) refl

  -- from the state in which the assignment has taken its step
  node_ends : (i : ℕ) (b : Arg) (q : Option Kind) (k : Kind) (x : Node) (s : eval.State) (f : State)
      (top low : ℕ) → Simple x b → q ≡ Some k → FitsExpr (scope P S) 0 (plain_node x q)
      → slice_get S.func.scalars i ≡ Some (slot.Scalar k) → Related S s f → 8 * s.stock ≤ top
      → low ≤ s.stock + most * f.rounds - 1
      → EndsHere P most S y around.Loop (only (Let i op.Mov b (Const 0))) f top low
      (then (then (eval.spend s (opened (meaning P) P x)) (assigned (InScalar i))) dropped)
  node_ends i b q k x s f top low z eq t ti r hu hl =
      let o = opened (meaning P) P x in
      let a = assigned (InScalar i) in
      subst (EndsHere P most S y around.Loop (only (Let i op.Mov b (Const 0))) f top low)
      (sym (ap (λ q. then q dropped) (then_spend s.stock s o a)
      ∙ then_spend s.stock s (λ s. then (o s) a) dropped))
      (spending P most S y (Ended S) (only (Let i op.Mov b (Const 0))) s f top low
      (λ s. then (then (o s) a) dropped) r (omega arith) (λ n e rn.
      set_ends i b q k x (record s { stock = n }) f top low z eq t ti rn (omega arith)
      (omega arith)))

  simple_spends : (x : Node) (b : Arg) (s : eval.State) → Simple x b
      → expression (meaning P) P x s ≡ eval.spend s (opened (meaning P) P x)
  simple_spends _ _ s (A_number w) = refl
  simple_spends _ _ s (A_scalar j) = refl

  simple_nodes : (x : Node) (b : Arg) (q : Option Kind) → Simple x b → nodes (plain_node x q) ≡ 1
  simple_nodes _ _ q (A_number w) = refl
  simple_nodes _ _ q (A_scalar j) = refl

  -- the left side's type is the right side's
  kinds : (q j m : Option Kind) (i : ℕ) (at : Kind) (x : Node)
      → FitsExpr (scope P S) 0 (tree.Assign q None at (tree.Name j (Scalar i)) (plain_node x m))
      → (k : Kind) × (m ≡ Some k) × FitsExpr (scope P S) 0 (plain_node x m)
      × (slice_get S.func.scalars i ≡ Some (slot.Scalar k))
  kinds None j m i at x t = absurd t.2
  kinds (Some k) j m i at x t = (k, sym (kind_levels x m) ∙ t.2, t.1, t.0.1.1)

  -- an assignment that is one statement
  short_ends : (i : ℕ) (b : Arg) (at : Kind) (l e : TypedExpr) (s : eval.State) (f : State)
      (top low : ℕ) (q : Option Kind) → node_of l ≡ node.Name (Scalar i) → Simple (node_of e) b
      → FitsExpr (scope P S) 0 (tree.Assign q None at (expr_of l) (expr_of e)) → Related S s f
      → 8 * s.stock ≤ top + 3
      → low ≤ s.stock + most * f.rounds - (1 + (left_nodes (expr_of l) + nodes (expr_of e)))
      → EndsHere P most S y around.Loop (only (Let i op.Mov b (Const 0))) f top low
      (then (eval.spend s (assign (meaning P) None q at (node_of l) e)) dropped)
  short_ends i b at l e s f top low q nl z t r hu hl =
      let c = only (Let i op.Mov b (Const 0)) in
      let el : expr_of l ≡ tree.Name l.kind (Scalar i) = expr_is l ∙ ap (λ x. plain_node x l.kind) nl in
      let t1 : FitsExpr (scope P S) 0 (tree.Assign q None at (tree.Name l.kind (Scalar i))
      (plain_node (node_of e) e.kind)) = subst
      (λ x. FitsExpr (scope P S) 0 (tree.Assign q None at (tree.Name l.kind (Scalar i)) x)) (expr_is e)
      (subst (λ x. FitsExpr (scope P S) 0 (tree.Assign q None at x (expr_of e))) el t) in
      let k = kinds q l.kind e.kind i at (node_of e) t1 in
      let one : nodes (expr_of e) ≡ 1 = ap nodes (expr_is e) ∙ simple_nodes (node_of e) b e.kind z in
      let next = λ (s : eval.State). then (meaning P (Of e) s) (assigned (InScalar i)) in
      subst (λ x. EndsHere P most S y around.Loop c f top low
      (then (eval.spend s (assign (meaning P) None q at x e)) dropped)) (sym nl)
      (subst (EndsHere P most S y around.Loop c f top low) (sym (then_spend s.stock s next dropped))
      (spending P most S y (Ended S) c s f top low (λ s. then (next s) dropped) r
      (omega (arith, hl)) (λ n en rn.
      let s0 = record s { stock = n } in
      subst (λ q. EndsHere P most S y around.Loop c f top low (then (then q (assigned (InScalar i))) dropped))
      (sym (meaning-is P (Of e) s0 ∙ simple_spends (node_of e) b s0 z))
      (node_ends i b e.kind k.0 (node_of e) s0 f top low z k.1 k.2 k.3 rn (omega (arith, en, hu))
      (omega (arith, en, hl, one))))))

  -- an expression without its value, as a statement
  pub plain_ends : (e : TypedExpr) (s : eval.State) (f : State) (top low : ℕ)
      → FollowsOf P most e s → FitsExpr (scope P S) 0 (expr_of e) → Related S s f
      → 8 * s.stock ≤ top + 3 → low ≤ s.stock + most * f.rounds - nodes (expr_of e)
      → EndsHere P most S y around.Loop (plain_code (context P S) (expr_of e)) f top low
      (then (meaning P (Of e) s) dropped)
  plain_ends e s f top low h t r hu hl =
      subst (λ x. FitsExpr (scope P S) 0 x → low ≤ s.stock + most * f.rounds - nodes x
      → EndsHere P most S y around.Loop (plain_code (context P S) x) f top low
      (then (meaning P (Of e) s) dropped)) (sym (expr_is e)) (by_node (node_of e) refl) t hl
    where
      long : EndsHere P most S y around.Loop (expr_code (context P S) 0 (plain_node (node_of e) e.kind)) f top
          low (then (meaning P (Of e) s) dropped)
      long =
          subst (λ x. EndsHere P most S y around.Loop (expr_code (context P S) 0 x) f top low
          (then (meaning P (Of e) s) dropped)) (expr_is e)
          (dropped_ends P most S y around.Loop e s f top low h t r hu hl)

      by_long : (x : Node) → node_of e ≡ x
          → EndsHere P most S y around.Loop (expr_code (context P S) 0 (plain_node x e.kind)) f top low
          (then (meaning P (Of e) s) dropped)
      by_long x ex =
          subst (λ x. EndsHere P most S y around.Loop (expr_code (context P S) 0 (plain_node x e.kind)) f top low
          (then (meaning P (Of e) s) dropped)) ex long

      by_node : (x : Node) → node_of e ≡ x → FitsExpr (scope P S) 0 (plain_node x e.kind)
          → low ≤ s.stock + most * f.rounds - nodes (plain_node x e.kind)
          → EndsHere P most S y around.Loop (plain_code (context P S) (plain_node x e.kind)) f top low
          (then (meaning P (Of e) s) dropped)
      by_node (node.Assign None at l x) ex t hl =
          either_way (named_scalar (expr_of l)) (simple_arg (expr_of x))
          (expr_code (context P S) 0 (tree.Assign e.kind None at (expr_of l) (expr_of x)))
          (λ a. EndsHere P most S y around.Loop a f top low (then (meaning P (Of e) s) dropped))
          (by_long (node.Assign None at l x) ex)
          (λ i b ei eb.
          subst (λ q. EndsHere P most S y around.Loop (only (Let i op.Mov b (Const 0))) f top low
          (then q dropped))
          (sym (meaning-is P (Of e) s ∙ ap (λ n. expression (meaning P) P n s) ex))
          (short_ends i b at l x s f top low e.kind
          (scalar_node (node_of l) l.kind i (ap named_scalar (sym (expr_is l)) ∙ ei))
          (simple_node (node_of x) x.kind b (ap simple_arg (sym (expr_is x)) ∙ eb)) t r hu hl))
      by_node (node.Assign (Some o) at l x) ex t hl = by_long (node.Assign (Some o) at l x) ex
      by_node (node.Number w) ex t hl = by_long (node.Number w) ex
      by_node (node.Name p) ex t hl = by_long (node.Name p) ex
      by_node (node.Element p None x) ex t hl = by_long (node.Element p None x) ex
      by_node (node.Element p (Some row) x) ex t hl = by_long (node.Element p (Some row) x) ex
      by_node (node.Call g args) ex t hl = by_long (node.Call g args) ex
      by_node (node.Unary o x) ex t hl = by_long (node.Unary o x) ex
      by_node (node.Cast to x) ex t hl = by_long (node.Cast to x) ex
      by_node (node.Convert to x) ex t hl = by_long (node.Convert to x) ex
      by_node (node.Bump o x) ex t hl = by_long (node.Bump o x) ex
      by_node (node.Binary o l x) ex t hl = by_long (node.Binary o l x) ex
      by_node (node.Choice t1 a b) ex t hl = by_long (node.Choice t1 a b) ex
      by_node (node.Comma l x) ex t hl = by_long (node.Comma l x) ex

module _ (P : TypedProgram) (most : ℕ) (S : Scene) (y : IsScene P S) where
  -- what neither breaks nor continues does so by whatever stands around it
  any_around : (x : Around) (a : Code) (f : State) (top low : ℕ) (r : Result)
      → EndsHere P most S y around.Loop a f top low (then r dropped)
      → EndsHere P most S y x a f top low (then r dropped)
  any_around x a f top low (Go v s) h = record {
    t = h.t;
    to = h.to;
    upper = h.upper;
    lower = h.lower;
    holds = h.holds;
    leads = h.leads;
  }
  any_around x a f top low (Over why s) h = h

  -- the code of an expression statement follows the evaluation, where its expression does
  pub plain_ends_in : (x : Around) (e : TypedExpr) (s : eval.State) (f : State) (top low : ℕ)
      → FollowsOf P most e s → FitsExpr (scope P S) 0 (expr_of e) → Related S s f
      → 8 * s.stock ≤ top + 3 → low ≤ s.stock + most * f.rounds - nodes (expr_of e)
      → EndsHere P most S y x (plain_code (context P S) (expr_of e)) f top low
      (then (meaning P (Of e) s) dropped)
  plain_ends_in x e s f top low h t r hu hl =
      any_around x (plain_code (context P S) (expr_of e)) f top low (meaning P (Of e) s)
      (plain_ends P most S y e s f top low h t r hu hl)
