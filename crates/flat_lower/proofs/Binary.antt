-- Operations on two operands, choices and commas follow the evaluation.
use Rattle.std.proofs.Common.{◌≡◌, ◌≢◌, ℕ, zero, suc, ◌+◌, ◌-◌, ◌*◌, ◌%◌, ◌^◌, ◌<◌, ◌≤◌, Bool, true}
use Rattle.std.proofs.Common.{false, cond, List, [], ◌∷◌, map, length, Option, Some, None, refl}
use Rattle.std.proofs.Common.{sym, ap, ◌∙◌, subst, arith}
use Rattle.std.specs.Prelude.{slice_get, nat_eq}
use Rattle.std.proofs.lemmas.Bool.Decides.{nat_tests}
use Rattle.c_tree.specs.declared.Kind.{Kind}
use Rattle.c_tree.specs.declared.UnaryOp.{UnaryOp}
use Rattle.c_tree.specs.declared.BinaryOp.{BinaryOp}
use Rattle.c_tree.specs.declared.BinaryOp.TheVariants.{LogicalOr, LogicalAnd}
use Rattle.c_tree.specs.declared.BinaryOp.TheVariants.{ShiftLeft, ShiftRight}
use Rattle.c_tree.specs.declared.Place.{Place}
use Rattle.c_tree.specs.declared.Place.TheVariants.{Global, Scalar, Array}
use Rattle.c_tree.specs.declared.Slot.TheVariants as slot
use Rattle.c_tree.specs.declared.TypedExpr.{TypedExpr}
use Rattle.c_tree.specs.declared.TypedProgram.{TypedProgram}
use Rattle.c_tree.specs.declared.TypedNode.TheOpen as node
use Rattle.c_constant.specs.Kinds.{converted}
use Rattle.c_constant.specs.Operation.{operate, operate_one, result_of, unary_result}
use Rattle.c_meaning_spec.specs.Word.{binary_fault, words_fault}
use Rattle.c_meaning_spec.specs.declared.signal.Signal.{Signal}
use Rattle.c_meaning_spec.specs.declared.signal.Signal.TheVariants.{Nothing, Value, Breaks, Continues}
use Rattle.c_meaning_spec.specs.declared.signal.Signal.TheVariants.{Returns}
use Rattle.c_meaning_spec.specs.declared.signal.Object.{Object}
use Rattle.c_meaning_spec.specs.declared.signal.Object.TheVariants.{InScalar, InArray}
use Rattle.c_meaning_spec.specs.State.{Result, Go, Over, spend, want, given, cell, held, load}
use Rattle.c_meaning_spec.specs.inside.State.{then}
use Rattle.c_meaning_spec.specs.State as eval
use Rattle.c_meaning_spec.specs.Word.{is_false, truth_of, unary_of, binary_of}
use Rattle.c_meaning_spec.specs.Task.{Of, array_of, element_in, element_of, name, is_array, element}
use Rattle.c_meaning_spec.specs.Expression.{converting, unary, operated, after_left, truth, after_and}
use Rattle.c_meaning_spec.specs.Expression.{after_or, binary, valued, after_choice, after_comma, opened}
use Rattle.c_meaning_spec.specs.Eval.{meaning, length_of}
use Rattle.trips_isa.specs.declared.op.Op.TheVariants as op
use Rattle.ir_forms.specs.declared.flat.Arg.TheVariants.{Const, Var}
use Rattle.ir_forms.specs.inside.FlatCode.{Code, Nop, Then, only, Let, Load, If}
use Rattle.ir_forms.specs.inside.Cells.{apply}
use Rattle.ir_forms.specs.inside.Cells as cells
use Rattle.ir_forms.specs.inside.FlatSteps.{State, read}
use Rattle.ir_forms.specs.inside.FlatRuns.{checked}
use Rattle.ir_forms.proofs.Statements.{if_one, if_other}
use Rattle.flat_lower.specs.inside.Tree.{Expr, kind_of}
use Rattle.flat_lower.specs.inside.Tree as tree
use Rattle.flat_lower.specs.inside.TreeViews.{expr_of}
use Rattle.c_constant.specs.Kinds.{IsWord}
use Rattle.flat_lower.specs.inside.Kinds.{IsArithmetic}
use Rattle.flat_lower.specs.inside.Operations.{temp, scratch, set_word, copied, converted_here}
use Rattle.flat_lower.specs.inside.Operations.{binary_code, unary_code, load_op}
use Rattle.flat_lower.specs.inside.Objects.{Context, global_at, address_code}
use Rattle.flat_lower.specs.inside.Expressions.{with_kind, global_code, name_code, element_code, tested}
use Rattle.flat_lower.specs.inside.Expressions.{binary_end, strict_code, operand_at, expr_code}
use Rattle.flat_lower.specs.declared.powers.Power.{Power}
use Rattle.flat_lower.specs.inside.Powers.{immediate_for, immediate_code}
use Rattle.flat_lower.specs.inside.Fits.{GlobalIs, FitsName, FitsWhole, IsOperand, FitsRight, FitsStrict}
use Rattle.flat_lower.specs.inside.Fits.{FitsBinary, FitsUnary, FitsExpr, FitsKind}
use Rattle.flat_lower.specs.inside.Sizes.{nodes}
use Rattle.c_constant.proofs.Conversions.{converted_is}
use Rattle.flat_lower.proofs.Straight.{Puts, puts_none, puts_let, puts_both, puts_as, puts_within}
use Rattle.flat_lower.proofs.Straight.{var_read}
use Rattle.flat_lower.proofs.OperationWorks.{IsRight, IsStrict, Works, binary_works}
use Rattle.flat_lower.proofs.UnaryWorks.{unary_works, here_works}
use Rattle.flat_lower.proofs.Objects.{element_at, Holds}
use Rattle.flat_lower.proofs.TreeFacts.{kind_is}
use Rattle.flat_lower.proofs.Follows.{Post, Follows, needed, wanted, moved}
use Rattle.flat_lower.proofs.Related.{Scene, IsScene, scope, context, object, ObjectIs, Related}
use Rattle.flat_lower.proofs.Related.{element_holds, element_within, held_is}
use Rattle.flat_lower.proofs.Pieces.{puts_load, PlaceIs, place_is, addressed, address_puts}
use Rattle.flat_lower.proofs.Pieces.{element_address}
use Rattle.flat_lower.proofs.Values.{KeptIs, ValueIs, Valued, value_at, kept_at, keeps_all}
use Rattle.flat_lower.proofs.Values.{keeps_both, functions, base, FollowsOf, run, code, keeps_set}
use Rattle.flat_lower.proofs.Values.{value_end, operand, spending}
use Rattle.flat_lower.proofs.Simple.{FollowsHere}
use Rattle.flat_lower.proofs.Immediates.{has_constant, immediate_works}
use Rattle.flat_lower.proofs.Constants.{then_spent, constant_means, constant_fits, constant_nodes}

module _ (P : TypedProgram) (most : ℕ) (S : Scene) (y : IsScene P S) where
  -- TWO OPERANDS

  -- the parts of an operation on both operands, by its operator
  pub binary_is : (o : BinaryOp) → IsStrict (functions P most) (base P most) S.env o
      → (l r : TypedExpr) (s : eval.State) → binary (meaning P) o l r s
      ≡ then (meaning P (Of l) s) (after_left (meaning P) o l.kind r)
  binary_is LogicalOr t l r s = absurd t
  binary_is LogicalAnd t l r s = absurd t
  binary_is _ t l r s = refl

  -- the right operand of an operation that evaluates both goes one temporary higher
  pub depth_is : (o : BinaryOp) → IsStrict (functions P most) (base P most) S.env o → (d : ℕ)
      → operand_at o d ≡ suc d
  depth_is LogicalOr t d = absurd t
  depth_is LogicalAnd t d = absurd t
  depth_is _ t d = refl

  pub end_is : (o : BinaryOp) → IsStrict (functions P most) (base P most) S.env o
      → (k : Option Kind) (d : ℕ) (m : Option Power) (right : Code)
      → binary_end o k d m right ≡ strict_code o k d m right
  end_is LogicalOr t k d m right = absurd t
  end_is LogicalAnd t k d m right = absurd t
  end_is _ t k d m right = refl

  pub strict_is : (o : BinaryOp) → IsStrict (functions P most) (base P most) S.env o
      → (j : Kind) (r : Option Kind) (k : Kind) → FitsBinary o (Some j) r k → FitsStrict o j r k
  strict_is LogicalOr t j r k h = absurd t
  strict_is LogicalAnd t j r k h = absurd t
  strict_is _ t j r k h = h

  pub no_kind : (o : BinaryOp) → IsStrict (functions P most) (base P most) S.env o
      → (r : Option Kind) (k : Kind) → FitsBinary o None r k → ⊥
  no_kind LogicalOr t r k h = t
  no_kind LogicalAnd t r k h = t
  no_kind _ t r k h = h

  same_right : (kr j : Kind) (b : ℕ) → Some kr ≡ Some j → IsWord kr b → IsWord j b
  same_right kr j b e f = subst (λ k. IsWord k b) (cc e) f

  -- a right operand of the wanted type
  pub right_fits : (o : BinaryOp) (j : Kind) (r : Option Kind) (kr : Kind) (b : ℕ) → r ≡ Some kr
      → FitsRight o j r → IsWord kr b → IsRight (functions P most) (base P most) S.env o j b
  right_fits ShiftLeft j r kr b e h f = f.below
  right_fits ShiftRight j r kr b e h f = f.below
  right_fits _ j r kr b e h f = same_right kr j b (sym e ∙ h) f

  -- the operation itself, where both values stand in their temporaries
  pub strict_end : (o : BinaryOp) (k j : Kind) (r : Option Kind) (d a b top low : ℕ) (f0 g : State)
      (s : eval.State) → IsStrict (functions P most) (base P most) S.env o → suc d < 16
      → FitsStrict o j r k → KeptIs S d f0 s g → g.vars (temp d) ≡ Some a
      → g.vars (temp (suc d)) ≡ Some b → IsWord j a
      → IsRight (functions P most) (base P most) S.env o j b → 3 + 8 * s.stock ≤ top
      → low ≤ s.stock + most * g.rounds
      → FollowsHere P most S y d (Some k) f0 (binary_code o j (temp d) (temp (suc d))) g top low
      (given (operate o j a b) (words_fault o j a b) s)
  strict_end o k j r d a b top low f0 g s st ld t ke ha hb fa fb hu hl =
      needed most (Valued S d (Some k) f0)
      (run P most S y (binary_code o j (temp d) (temp (suc d))) g) top low (operate o j a b) _ s
      (λ w. Go (Value w) s) (λ w ew.
      let x = binary_works (functions P most) (base P most) S.env o j g (temp d) (temp (suc d)) a b w st t.0
      (λ e. omega arith) (λ e. omega arith) ha hb fa fb ew in
      value_end P most S y d (Some k) f0 g
      (binary_code o j (temp d) (temp (suc d))) 3 80 w top low s k (omega arith)
      (omega arith) refl (subst (λ k. IsWord k w) (sym t.2) x.fits) ke x.puts hu hl)

  second_end : (o : BinaryOp) (k j : Option Kind) (l r : TypedExpr) → j ≡ l.kind
      → (d a b top low : ℕ) (f0 g g2 : State) (s1 s2 : eval.State)
      → IsStrict (functions P most) (base P most) S.env o → suc d < 16
      → FitsKind k (FitsBinary o j (kind_of (expr_of r))) → ValueIs S d l.kind f0 a s1 g
      → ValueIs S (suc d) r.kind g b s2 g2 → 3 + 8 * s2.stock ≤ top
      → low ≤ s2.stock + most * g2.rounds
      → FollowsHere P most S y d k f0 (with_kind j (λ k. binary_code o k (temp d) (temp (suc d))))
      g2 top low (given (binary_of o l.kind a b) (binary_fault o l.kind a b) s2)
  second_end o None j l r ej d a b top low f0 g g2 s1 s2 st ld t va vb hu hl = absurd t
  second_end o (Some k) None l r ej d a b top low f0 g g2 s1 s2 st ld t va vb hu hl =
      absurd (no_kind o st (kind_of (expr_of r)) k t)
  second_end o (Some k) (Some j) l r ej d a b top low f0 g g2 s1 s2 st ld t va vb hu hl =
      let ts = strict_is o st j (kind_of (expr_of r)) k t in
      let kinds : j ≡ va.kind = cc (ej ∙ va.is_kind) in
      let fa : IsWord j a = subst (λ k. IsWord k a) (sym kinds) va.fits in
      let fb = right_fits o j (kind_of (expr_of r)) vb.kind b (kind_is r ∙ vb.is_kind) ts.1 vb.fits in
      let ha : g2.vars (temp d) ≡ Some a = vb.keeps.kept d (omega arith) ∙ va.is in
      subst (λ q. FollowsHere P most S y d (Some k) f0
      (binary_code o j (temp d) (temp (suc d))) g2 top low (given (binary_of o q a b) (binary_fault o q a b) s2)) ej
      (strict_end o k j (kind_of (expr_of r)) d a b top low f0 g2 s2 st ld ts
      (keeps_both S d (suc d) f0 g g2 s1 s2 (omega arith) va.keeps vb.keeps) ha vb.is fa fb hu hl)

  -- an operation on a constant has its right operand of its type
  right_kind : (o : BinaryOp) (j : Kind) (r : Expr) (m : Power) → immediate_for o (Some j) r ≡ Some m
      → FitsRight o j (kind_of r) → kind_of r ≡ Some j
  right_kind ShiftLeft j r m e h = absurd (cc e)
  right_kind ShiftRight j r m e h = absurd (cc e)
  right_kind _ j r m e h = h

  -- the operation on the left operand and a power of two
  constant_end : (o : BinaryOp) (k j : Kind) (l r : TypedExpr) (m : Power) → Some j ≡ l.kind
      → immediate_for o (Some j) (expr_of r) ≡ Some m → (d a top low : ℕ) (f0 g : State)
      (s : eval.State) → d < 16 → FitsExpr (scope P S) (suc d) (expr_of r)
      → FitsStrict o j (kind_of (expr_of r)) k → ValueIs S d l.kind f0 a s g → 8 * s.stock + 7 ≤ top
      → low ≤ s.stock + most * g.rounds - nodes (expr_of r)
      → FollowsHere P most S y d (Some k) f0 (immediate_code o j m (temp d)) g top low
      (then (meaning P (Of r) s) (operated o l.kind a))
  constant_end o k j l r m ej em d a top low f0 g s ld fr t v hu hl =
      let c = has_constant o j (expr_of r) m em in
      let b = immediate_code o j m (temp d) in
      let kinds : j ≡ v.kind = cc (ej ∙ v.is_kind) in
      let fa : IsWord j a = subst (λ k. IsWord k a) (sym kinds) v.fits in
      let fw = constant_fits (scope P S) (suc d) (expr_of r) j c.word fr
      (right_kind o j (expr_of r) m em t.1) c.is in
      let some = constant_nodes (expr_of r) c.word c.is in
      let z = ap (λ z. then z (operated o l.kind a)) (constant_means P r c.word s c.is)
      ∙ then_spent s.stock s c.word (operated o l.kind a) in
      subst (λ z. FollowsHere P most S y d (Some k) f0 b g top low z) (sym z)
      (spending P most S y (Valued S d (Some k) f0) b s g top low
      (λ (s1 : eval.State). operated o l.kind a (Value c.word) s1) v.keeps.rel (omega arith) (λ n q rn.
      let s0 = record s { stock = n } in
      subst (λ i. FollowsHere P most S y d (Some k) f0 b g top low (given (binary_of o i a c.word)
      (binary_fault o i a c.word) s0)) ej
      (needed most (Valued S d (Some k) f0) (run P most S y b g) top low (operate o j a c.word) _ s0
      (λ w. Go (Value w) s0) (λ w ew.
      let x = immediate_works (functions P most) (base P most) S.env o j (expr_of r) m g (temp d) a c.word w
      em c.is t.0 (λ e. omega arith) v.is fa fw ew in
      value_end P most S y d (Some k) f0 g b 5 80 w top low s0 k ld (omega arith) refl
      (subst (λ k. IsWord k w) (sym t.2) x.fits) (record { rel = rn; kept = v.keeps.kept })
      x.puts (omega arith) (omega arith)))))

  -- the right operand behind the left one, and the operation
  right_end : (o : BinaryOp) (k j : Option Kind) (l r : TypedExpr) (m : Option Power) → j ≡ l.kind
      → immediate_for o j (expr_of r) ≡ m → (d a top low : ℕ) (f0 g : State) (s : eval.State)
      → IsStrict (functions P most) (base P most) S.env o → suc d < 16 → FollowsOf P most r s
      → FitsExpr (scope P S) (suc d) (expr_of r) → FitsKind k (FitsBinary o j (kind_of (expr_of r)))
      → ValueIs S d l.kind f0 a s g → 8 * s.stock + 7 ≤ top
      → low ≤ s.stock + most * g.rounds - nodes (expr_of r)
      → FollowsHere P most S y d k f0 (strict_code o j d m (code P most S y (suc d) r)) g top low
      (then (meaning P (Of r) s) (operated o l.kind a))
  right_end o k j l r None ej em d a top low f0 g s st ld h fr t v hu hl =
      let c = with_kind j (λ k. binary_code o k (temp d) (temp (suc d))) in
      operand P most S y (Valued S d k f0) r (suc d) c s g top low (operated o l.kind a) h fr v.keeps.rel
      (omega arith) hl
      (λ v2 s2 g2 t2 hv ls us ds.
      wanted most (Valued S d k f0) (run P most S y c g2) (top - t2) low v2 s2
      (λ b. given (binary_of o l.kind a b) (binary_fault o l.kind a b) s2) (λ b eb.
      let vb = value_at S (suc d) r.kind g v2 b s2 g2 eb hv in
      second_end o k j l r ej d a b (top - t2) low f0 g g2 s s2 st ld t v vb (omega arith) (omega arith)))
  right_end o None j l r (Some m) ej em d a top low f0 g s st ld h fr t v hu hl = absurd t
  right_end o (Some k) None l r (Some m) ej em d a top low f0 g s st ld h fr t v hu hl =
      absurd (no_kind o st (kind_of (expr_of r)) k t)
  right_end o (Some k) (Some j) l r (Some m) ej em d a top low f0 g s st ld h fr t v hu hl =
      constant_end o k j l r m ej em d a top low f0 g s (omega arith) fr
      (strict_is o st j (kind_of (expr_of r)) k t) v hu hl

  -- an operation on both operands
  pub strict_node : (k : Option Kind) (o : BinaryOp) (l r : TypedExpr) (d top low : ℕ)
      (s : eval.State) (f : State) → IsStrict (functions P most) (base P most) S.env o → suc d < 16
      → ((e : TypedExpr) (s1 : eval.State) → s1.stock < s.stock → FollowsOf P most e s1)
      → FitsExpr (scope P S) d (tree.Binary k o (expr_of l) (expr_of r)) → Related S s f
      → 8 * s.stock ≤ top + 4 → low ≤ s.stock + most * f.rounds -
      (1 + (nodes (expr_of l) + nodes (expr_of r)))
      → FollowsHere P most S y d k f (expr_code (context P S) d
      (tree.Binary k o (expr_of l) (expr_of r))) f top low
      (spend s (opened (meaning P) P (node.Binary o l r)))
  strict_node k o l r d top low s f st ld h t rl hu hl =
      let j = kind_of (expr_of l) in
      let m = immediate_for o j (expr_of r) in
      let c = strict_code o j d m (code P most S y (suc d) r) in
      let whole : expr_code (context P S) d (tree.Binary k o (expr_of l) (expr_of r)) ≡ Then (code P most S y d l) c =
      ap (λ (x : Code). Then (code P most S y d l) x)
      (end_is o st j d m (code P most S y (operand_at o d) r)
      ∙ ap (λ n. strict_code o j d m (code P most S y n r)) (depth_is o st d)) in
      let fits_r : FitsExpr (scope P S) (suc d) (expr_of r) = subst (λ n. FitsExpr (scope P S) n (expr_of r))
      (depth_is o st d) t.1 in
      subst (λ a. FollowsHere P most S y d k f a f top low
      (spend s (opened (meaning P) P (node.Binary o l r)))) (sym whole)
      (spending P most S y (Valued S d k f) (Then (code P most S y d l) c) s f top low
      (opened (meaning P) P (node.Binary o l r)) rl (omega arith) (λ n q rn.
      let s0 = record s { stock = n } in
      subst (λ x. FollowsHere P most S y d k f (Then (code P most S y d l) c) f top low x)
      (sym (binary_is o st l r s0))
      (operand P most S y (Valued S d k f) l d c s0 f top low
      (after_left (meaning P) o l.kind r) (h l s0 (omega arith)) t.0 rn (omega arith)
      (omega arith)
      (λ v s1 g t1 hv ls us ds.
      wanted most (Valued S d k f) (run P most S y c g)
      (top - t1) low v s1 (λ a. then (meaning P (Of r) s1) (operated o l.kind a)) (λ a ea.
      let va = value_at S d l.kind f v a s1 g ea hv in
      right_end o k j l r m (kind_is l) refl d a (top - t1) low f g s1 st ld (h r s1 (omega arith))
      fits_r t.2 va (omega arith) (omega arith))))))
