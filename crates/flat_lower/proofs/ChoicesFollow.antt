-- `&&`, `||`, choices and commas follow the evaluation.
use Rattle.std.proofs.Common.{◌≡◌, ◌≢◌, ℕ, zero, suc, ◌+◌, ◌-◌, ◌*◌, ◌%◌, ◌^◌, ◌<◌, ◌≤◌, Bool, true}
use Rattle.std.proofs.Common.{false, cond, List, [], ◌∷◌, map, length, Option, Some, None, refl}
use Rattle.std.proofs.Common.{sym, ap, ◌∙◌, subst, arith}
use Rattle.std.specs.Prelude.{slice_get, nat_eq}
use Rattle.std.proofs.lemmas.Bool.Decides.{nat_tests}
use Rattle.c_tree.specs.declared.Kind.{Kind}
use Rattle.c_tree.specs.declared.Kind.TheVariants.{Int}
use Rattle.c_tree.specs.declared.UnaryOp.{UnaryOp}
use Rattle.c_tree.specs.declared.BinaryOp.{BinaryOp}
use Rattle.c_tree.specs.declared.BinaryOp.TheVariants.{LogicalOr, LogicalAnd}
use Rattle.c_tree.specs.declared.Place.{Place}
use Rattle.c_tree.specs.declared.Place.TheVariants.{Global, Scalar, Array}
use Rattle.c_tree.specs.declared.Slot.TheVariants as slot
use Rattle.c_tree.specs.declared.TypedExpr.{TypedExpr}
use Rattle.c_tree.specs.declared.TypedProgram.{TypedProgram}
use Rattle.c_tree.specs.declared.TypedNode.TheOpen as node
use Rattle.c_constant.specs.Kinds.{converted}
use Rattle.c_constant.specs.Operation.{operate, operate_one, result_of, unary_result}
use Rattle.c_meaning_spec.specs.declared.signal.Signal.{Signal}
use Rattle.c_meaning_spec.specs.declared.signal.Signal.TheVariants.{Nothing, Value, Breaks, Continues}
use Rattle.c_meaning_spec.specs.declared.signal.Signal.TheVariants.{Returns}
use Rattle.c_meaning_spec.specs.declared.signal.Object.{Object}
use Rattle.c_meaning_spec.specs.declared.signal.Object.TheVariants.{InScalar, InArray}
use Rattle.c_meaning_spec.specs.State.{Result, Go, Over, spend, want, given, cell, held, load}
use Rattle.c_meaning_spec.specs.inside.State.{then}
use Rattle.c_meaning_spec.specs.State as eval
use Rattle.c_meaning_spec.specs.Word.{is_false, truth_of, unary_of, binary_of}
use Rattle.c_meaning_spec.specs.Task.{Of, array_of, element_in, element_of, name, is_array, element}
use Rattle.c_meaning_spec.specs.Expression.{converting, unary, operated, after_left, truth, after_and}
use Rattle.c_meaning_spec.specs.Expression.{after_or, binary, valued, after_choice, after_comma, opened}
use Rattle.c_meaning_spec.specs.Eval.{meaning, length_of}
use Rattle.trips_isa.specs.declared.op.Op.TheVariants as op
use Rattle.trips_isa.specs.Alu.{alu_of, test}
use Rattle.ir_forms.specs.declared.flat.Arg.TheVariants.{Const, Var}
use Rattle.ir_forms.specs.inside.FlatCode.{Code, Nop, Then, only, Let, Load, If}
use Rattle.ir_forms.specs.inside.Cells.{apply}
use Rattle.ir_forms.specs.inside.Cells as cells
use Rattle.ir_forms.specs.inside.FlatSteps.{State, read}
use Rattle.ir_forms.specs.inside.FlatRuns.{checked}
use Rattle.ir_forms.proofs.Statements.{if_one, if_other}
use Rattle.flat_lower.specs.inside.Tree.{kind_of}
use Rattle.flat_lower.specs.inside.Tree as tree
use Rattle.flat_lower.specs.inside.TreeViews.{expr_of}
use Rattle.c_constant.specs.Kinds.{IsWord}
use Rattle.flat_lower.specs.inside.Kinds.{IsArithmetic}
use Rattle.flat_lower.specs.inside.Operations.{temp, scratch, set_word, copied, converted_here}
use Rattle.flat_lower.specs.inside.Operations.{binary_code, unary_code, load_op}
use Rattle.flat_lower.specs.inside.Objects.{Context, global_at, address_code}
use Rattle.flat_lower.specs.inside.Expressions.{with_kind, global_code, name_code, element_code, tested}
use Rattle.flat_lower.specs.inside.Expressions.{binary_end, operand_at, expr_code}
use Rattle.flat_lower.specs.inside.Fits.{GlobalIs, FitsName, FitsWhole, IsOperand, FitsRight, FitsStrict}
use Rattle.flat_lower.specs.inside.Fits.{FitsBinary, FitsUnary, FitsExpr, FitsKind}
use Rattle.flat_lower.specs.inside.Sizes.{nodes}
use Rattle.c_constant.proofs.Conversions.{converted_is}
use Rattle.flat_lower.proofs.Operators.{test_fits}
use Rattle.flat_lower.proofs.Straight.{Puts, puts_none, puts_let, puts_both, puts_as, puts_within}
use Rattle.flat_lower.proofs.Straight.{var_read}
use Rattle.flat_lower.proofs.OperationWorks.{IsRight, IsStrict, Works, binary_works}
use Rattle.flat_lower.proofs.UnaryWorks.{unary_works, here_works}
use Rattle.flat_lower.proofs.Objects.{element_at, Holds}
use Rattle.flat_lower.proofs.TreeFacts.{kind_is}
use Rattle.flat_lower.proofs.Follows.{Post, Follows, needed, wanted, moved}
use Rattle.flat_lower.proofs.Related.{Scene, IsScene, scope, context, object, ObjectIs, Related}
use Rattle.flat_lower.proofs.Related.{element_holds, element_within, held_is}
use Rattle.flat_lower.proofs.Pieces.{puts_load, PlaceIs, place_is, addressed, address_puts}
use Rattle.flat_lower.proofs.Pieces.{element_address}
use Rattle.flat_lower.proofs.Values.{KeptIs, ValueIs, Valued, value_at, kept_at, keeps_all}
use Rattle.flat_lower.proofs.Values.{keeps_both, functions, base, FollowsOf, run, code, keeps_set}
use Rattle.flat_lower.proofs.Values.{value_end, operand, spending}
use Rattle.flat_lower.proofs.Simple.{FollowsHere}

-- a word that is not 0 is true
pub is_true : (w : ℕ) → is_false (suc w) ≡ false
is_true w = grind (arith, nat_tests)

module _ (P : TypedProgram) (most : ℕ) (S : Scene) (y : IsScene P S) where
  -- LEGS

  -- the value of a leg is that of the whole
  pub leg_over : (d : ℕ) (k : Option Kind) (f0 g : State) (e : TypedExpr) (a : Code)
      (s : eval.State) (top low : ℕ) (r : Result) → e.kind ≡ k → KeptIs S d f0 s g
      → Follows most (Valued S d e.kind g) (run P most S y a g) top low r
      → FollowsHere P most S y d k f0 a g top low (then r valued)
  leg_over d k f0 g e a s top low (Go Nothing s1) ek ke h = tt
  leg_over d k f0 g e a s top low (Go (Value w) s1) ek ke h = record {
    t = h.t;
    to = h.to;
    upper = h.upper;
    lower = h.lower;
    holds = record {
      keeps = keeps_both S d d f0 g h.to s s1 (omega arith) ke h.holds.keeps;
      kind = h.holds.kind;
      is_kind = sym ek ∙ h.holds.is_kind;
      fits = h.holds.fits;
      is = h.holds.is;
    };
    leads = h.leads;
  }
  leg_over d k f0 g e a s top low (Go Breaks s1) ek ke h = absurd h.holds
  leg_over d k f0 g e a s top low (Go Continues s1) ek ke h = absurd h.holds
  leg_over d k f0 g e a s top low (Go (Returns w) s1) ek ke h = absurd h.holds
  leg_over d k f0 g e a s top low (Over why s1) ek ke h = h

  leg : (k : Option Kind) (e : TypedExpr) (d top low : ℕ) (s : eval.State) (f0 g : State)
      → FollowsOf P most e s → FitsExpr (scope P S) d (expr_of e) → e.kind ≡ k → KeptIs S d f0 s g
      → 8 * s.stock ≤ top + 3 → low ≤ s.stock + most * g.rounds - nodes (expr_of e)
      → FollowsHere P most S y d k f0 (code P most S y d e) g top low
      (then (meaning P (Of e) s) valued)
  leg k e d top low s f0 g h fits ek ke hu hl =
      leg_over d k f0 g e (code P most S y d e) s top low (meaning P (Of e) s) ek ke
      (h S y d top low g fits ke.rel hu hl)

  chosen_leg : (k : Option Kind) (one other : TypedExpr) (d w top low : ℕ) (s : eval.State)
      (f0 g : State) (j : Option Kind) → FollowsOf P most one s → FollowsOf P most other s
      → FitsExpr (scope P S) d (expr_of one) → FitsExpr (scope P S) d (expr_of other) → one.kind ≡ k
      → other.kind ≡ k → ValueIs S d j f0 w s g
      → 1 ≤ top → 8 * s.stock + 1 ≤ top + 3
      → low ≤ s.stock + most * g.rounds - (nodes (expr_of one) + nodes (expr_of other))
      → FollowsHere P most S y d k f0 (only
      (If (Var (temp d)) (code P most S y d one) (code P most S y d other))) g top low
      (cond (is_false w) (then (meaning P (Of other) s) valued)
      (then (meaning P (Of one) s) valued))
  chosen_leg k one other d zero top low s f0 g j h1 h2 t1 t2 e1 e2 v lt hu hl =
      moved most (Valued S d k f0) (run P most S y
      (only (If (Var (temp d)) (code P most S y d one) (code P most S y d other))) g)
      (run P most S y (code P most S y d other) g) 1 top low
      (then (meaning P (Of other) s) valued)
      (if_other checked (functions P most) (base P most) S.env (Var (temp d))
      (code P most S y d one) (code P most S y d other) g
      (var_read (functions P most) (base P most) S.env g (temp d) 0 v.is)) lt
      (leg k other d (top - 1) low s f0 g h2 t2 e2 v.keeps (omega arith) (omega arith))
  chosen_leg k one other d (suc w) top low s f0 g j h1 h2 t1 t2 e1 e2 v lt hu hl =
      subst (λ b. FollowsHere P most S y d k f0
      (only (If (Var (temp d)) (code P most S y d one) (code P most S y d other))) g top low
      (cond b (then (meaning P (Of other) s) valued) (then (meaning P (Of one) s) valued)))
      (sym (is_true w))
      (moved most (Valued S d k f0) (run P most S y
      (only (If (Var (temp d)) (code P most S y d one) (code P most S y d other))) g)
      (run P most S y (code P most S y d one) g) 1 top low (then (meaning P (Of one) s) valued)
      (if_one checked (functions P most) (base P most) S.env (Var (temp d)) (code P most S y d one)
      (code P most S y d other) g w (var_read (functions P most) (base P most) S.env g (temp d)
      (suc w) v.is)) lt
      (leg k one d (top - 1) low s f0 g h1 t1 e1 v.keeps (omega arith) (omega arith)))

  -- the code of a choice follows the evaluation, where its parts do
  pub choice_node : (k : Option Kind) (c one other : TypedExpr) (d top low : ℕ) (s : eval.State)
      (f : State) → d < 16 → ((e : TypedExpr) (s1 : eval.State) → s1.stock < s.stock
      → FollowsOf P most e s1) → FitsExpr (scope P S) d
      (tree.Choice k (expr_of c) (expr_of one) (expr_of other)) → Related S s f
      → 8 * s.stock ≤ top + 4 → low ≤ s.stock + most * f.rounds -
      (1 + (nodes (expr_of c) + (nodes (expr_of one) + nodes (expr_of other))))
      → FollowsHere P most S y d k f (expr_code (context P S) d
      (tree.Choice k (expr_of c) (expr_of one) (expr_of other))) f top low
      (spend s (opened (meaning P) P (node.Choice c one other)))
  choice_node k c one other d top low s f ld h t r hu hl =
      let b = only (If (Var (temp d)) (code P most S y d one) (code P most S y d other)) in
      spending P most S y (Valued S d k f) (Then (code P most S y d c) b) s f top low
      (opened (meaning P) P (node.Choice c one other)) r (omega arith) (λ n q rn.
      let s0 = record s { stock = n } in
      operand P most S y (Valued S d k f) c d b s0 f top low (after_choice (meaning P) one other)
      (h c s0 (omega arith)) t.0 rn (omega arith) (omega arith)
      (λ v s1 g t1 hv ls us ds.
      wanted most (Valued S d k f) (run P most S y b g) (top - t1) low v s1
      (λ w. cond (is_false w) (then (meaning P (Of other) s1) valued)
      (then (meaning P (Of one) s1) valued)) (λ w ew.
      chosen_leg k one other d w (top - t1) low s1 f g c.kind (h one s1 (omega arith))
      (h other s1 (omega arith)) t.1 t.2 (sym (kind_is one) ∙ t.3) (sym (kind_is other) ∙ t.4)
      (value_at S d c.kind f v w s1 g ew hv) (omega arith) (omega arith) (omega arith))))

  -- the code of a comma follows the evaluation, where its parts do
  pub comma_node : (k : Option Kind) (l e : TypedExpr) (d top low : ℕ) (s : eval.State) (f : State)
      → d < 16 → ((e : TypedExpr) (s1 : eval.State) → s1.stock < s.stock → FollowsOf P most e s1)
      → FitsExpr (scope P S) d (tree.Comma k (expr_of l) (expr_of e)) → Related S s f
      → 8 * s.stock ≤ top + 4 → low ≤ s.stock + most * f.rounds -
      (1 + (nodes (expr_of l) + nodes (expr_of e)))
      → FollowsHere P most S y d k f (expr_code (context P S) d
      (tree.Comma k (expr_of l) (expr_of e))) f top low
      (spend s (opened (meaning P) P (node.Comma l e)))
  comma_node k l e d top low s f ld h t r hu hl =
      spending P most S y (Valued S d k f)
      (Then (code P most S y d l) (code P most S y d e)) s f top low
      (opened (meaning P) P (node.Comma l e)) r (omega arith) (λ n q rn.
      let s0 = record s { stock = n } in
      operand P most S y (Valued S d k f) l d (code P most S y d e) s0 f top low
      (after_comma (meaning P) e) (h l s0 (omega arith)) t.0 rn (omega arith) (omega arith)
      (λ v s1 g t1 hv ls us ds.
      leg k e d (top - t1) low s1 f g (h e s1 (omega arith)) t.1 (sym (kind_is e) ∙ t.2)
      (kept_at S d l.kind f v s1 g hv) (omega arith) (omega arith)))

  -- AND, OR

  tested_is : (w : ℕ) → alu_of op.Tne w 0 ≡ truth_of w
  tested_is w = go (nat_eq w 0)
    where
      go : (b : Bool) → test (cond b false true) ≡ cond b 0 1
      go true = refl
      go false = refl

  truth_fits : (w : ℕ) → IsWord Int (truth_of w)
  truth_fits w = subst (IsWord Int) (tested_is w) (test_fits (cond (nat_eq w 0) false true))

  -- the right side, and whether it is 0
  tested_end : (e : TypedExpr) (d top low : ℕ) (s : eval.State) (f0 g : State) → d < 16
      → FollowsOf P most e s → FitsExpr (scope P S) d (expr_of e) → KeptIs S d f0 s g
      → 8 * s.stock ≤ top + 2 → low ≤ s.stock + most * g.rounds - nodes (expr_of e)
      → FollowsHere P most S y d (Some Int) f0 (Then (code P most S y d e) (tested d)) g top low
      (then (meaning P (Of e) s) truth)
  unfolding apply
  tested_end e d top low s f0 g ld h fits ke hu hl =
      operand P most S y (Valued S d (Some Int) f0) e d (tested d) s g top low truth h fits ke.rel
      (omega arith) hl
      (λ v s1 g1 t1 hv ls us ds.
      wanted most (Valued S d (Some Int) f0) (run P most S y (tested d) g1) (top - t1) low v s1
      (λ w. Go (Value (truth_of w)) s1) (λ w ew.
      let x = value_at S d e.kind g v w s1 g1 ew hv in
      value_end P most S y d (Some Int) f0 g1 (tested d) 1 80 (truth_of w) (top - t1) low s1 Int ld
      (omega arith) refl (truth_fits w) (keeps_both S d d f0 g g1 s s1 (omega arith) ke x.keeps)
      (puts_let (functions P most) (base P most) S.env op.Tne (Var (temp d)) (Const 0) g1 1
      (temp d) 80 w 0 (truth_of w) (omega arith)
      (var_read (functions P most) (base P most) S.env g1 (temp d) w x.is) refl
      (ap Some (tested_is w))) (omega arith) (omega arith)))

  and_end : (e : TypedExpr) (d w top low : ℕ) (s : eval.State) (f0 g : State) (j : Option Kind)
      → d < 16 → FollowsOf P most e s → FitsExpr (scope P S) d (expr_of e) → ValueIs S d j f0 w s g
      → 1 ≤ top → 3 + 8 * s.stock ≤ top → low ≤ s.stock + most * g.rounds - nodes (expr_of e)
      → FollowsHere P most S y d (Some Int) f0
      (only (If (Var (temp d)) (Then (code P most S y d e) (tested d)) Nop)) g top low
      (cond (is_false w) (Go (Value 0) s) (then (meaning P (Of e) s) truth))
  and_end e d zero top low s f0 g j ld h fits v lt hu hl =
      moved most (Valued S d (Some Int) f0)
      (run P most S y (only (If (Var (temp d)) (Then (code P most S y d e) (tested d)) Nop)) g)
      (run P most S y Nop g) 1 top low (Go (Value 0) s)
      (if_other checked (functions P most) (base P most) S.env (Var (temp d))
      (Then (code P most S y d e) (tested d)) Nop g
      (var_read (functions P most) (base P most) S.env g (temp d) 0 v.is)) lt
      (value_end P most S y d (Some Int) f0 g Nop 0 80 0 (top - 1) low s Int ld (omega arith) refl
      (truth_fits 0) v.keeps (puts_none (functions P most) (base P most) S.env g 0
      (temp d) 80 0 v.is) (omega arith) (omega arith))
  and_end e d (suc w) top low s f0 g j ld h fits v lt hu hl =
      subst (λ b. FollowsHere P most S y d (Some Int) f0
      (only (If (Var (temp d)) (Then (code P most S y d e) (tested d)) Nop)) g top low
      (cond b (Go (Value 0) s) (then (meaning P (Of e) s) truth))) (sym (is_true w))
      (moved most (Valued S d (Some Int) f0)
      (run P most S y (only (If (Var (temp d)) (Then (code P most S y d e) (tested d)) Nop)) g)
      (run P most S y (Then (code P most S y d e) (tested d)) g) 1 top low
      (then (meaning P (Of e) s) truth)
      (if_one checked (functions P most) (base P most) S.env (Var (temp d))
      (Then (code P most S y d e) (tested d)) Nop g w
      (var_read (functions P most) (base P most) S.env g (temp d) (suc w) v.is)) lt
      (tested_end e d (top - 1) low s f0 g ld h fits v.keeps (omega arith) (omega arith)))

  or_end : (e : TypedExpr) (d w top low : ℕ) (s : eval.State) (f0 g : State) (j : Option Kind)
      → d < 16 → FollowsOf P most e s → FitsExpr (scope P S) d (expr_of e) → ValueIs S d j f0 w s g
      → 1 ≤ top → 3 + 8 * s.stock ≤ top → low ≤ s.stock + most * g.rounds - nodes (expr_of e)
      → FollowsHere P most S y d (Some Int) f0
      (only (If (Var (temp d)) (set_word (temp d) 1) (Then (code P most S y d e) (tested d)))) g
      top low (cond (is_false w) (then (meaning P (Of e) s) truth) (Go (Value 1) s))
  unfolding apply
  or_end e d zero top low s f0 g j ld h fits v lt hu hl =
      moved most (Valued S d (Some Int) f0)
      (run P most S y (only (If (Var (temp d)) (set_word (temp d) 1)
      (Then (code P most S y d e) (tested d)))) g)
      (run P most S y (Then (code P most S y d e) (tested d)) g) 1 top low
      (then (meaning P (Of e) s) truth)
      (if_other checked (functions P most) (base P most) S.env (Var (temp d)) (set_word (temp d) 1)
      (Then (code P most S y d e) (tested d)) g
      (var_read (functions P most) (base P most) S.env g (temp d) 0 v.is)) lt
      (tested_end e d (top - 1) low s f0 g ld h fits v.keeps (omega arith) (omega arith))
  or_end e d (suc w) top low s f0 g j ld h fits v lt hu hl =
      subst (λ b. FollowsHere P most S y d (Some Int) f0
      (only (If (Var (temp d)) (set_word (temp d) 1) (Then (code P most S y d e) (tested d)))) g
      top low (cond b (then (meaning P (Of e) s) truth) (Go (Value 1) s))) (sym (is_true w))
      (moved most (Valued S d (Some Int) f0)
      (run P most S y (only (If (Var (temp d)) (set_word (temp d) 1)
      (Then (code P most S y d e) (tested d)))) g)
      (run P most S y (set_word (temp d) 1) g) 1 top low (Go (Value 1) s)
      (if_one checked (functions P most) (base P most) S.env (Var (temp d)) (set_word (temp d) 1)
      (Then (code P most S y d e) (tested d)) g w
      (var_read (functions P most) (base P most) S.env g (temp d) (suc w) v.is)) lt
      (value_end P most S y d (Some Int) f0 g (set_word (temp d) 1) 1 80 1 (top - 1) low s Int ld
      (omega arith) refl (truth_fits 1) v.keeps
      (puts_let (functions P most) (base P most) S.env op.Mov (Const 1) (Const 0) g 1
      (temp d) 80 1 0 1 (omega arith) refl refl refl) (omega arith) (omega arith)))

  -- the code of `&&` follows the evaluation, where its parts do
  pub and_node : (k : Option Kind) (l e : TypedExpr) (d top low : ℕ) (s : eval.State) (f : State)
      → d < 16 → ((e : TypedExpr) (s1 : eval.State) → s1.stock < s.stock → FollowsOf P most e s1)
      → FitsExpr (scope P S) d (tree.Binary k LogicalAnd (expr_of l) (expr_of e)) → Related S s f
      → 8 * s.stock ≤ top + 4 → low ≤ s.stock + most * f.rounds -
      (1 + (nodes (expr_of l) + nodes (expr_of e)))
      → FollowsHere P most S y d k f (expr_code (context P S) d
      (tree.Binary k LogicalAnd (expr_of l) (expr_of e))) f top low
      (spend s (opened (meaning P) P (node.Binary LogicalAnd l e)))
  and_node None l e d top low s f ld h t r hu hl = absurd t.2
  and_node (Some k) l e d top low s f ld h t r hu hl =
      let b = only (If (Var (temp d)) (Then (code P most S y d e) (tested d)) Nop) in
      subst (λ k. FollowsHere P most S y d (Some k) f (Then (code P most S y d l) b) f top low
      (spend s (opened (meaning P) P (node.Binary LogicalAnd l e)))) (sym t.2)
      (spending P most S y (Valued S d (Some Int) f) (Then (code P most S y d l) b) s f top low
      (opened (meaning P) P (node.Binary LogicalAnd l e)) r (omega arith) (λ n q rn.
      let s0 = record s { stock = n } in
      operand P most S y (Valued S d (Some Int) f) l d b s0 f top low (after_and (meaning P) e)
      (h l s0 (omega arith)) t.0 rn (omega arith) (omega arith)
      (λ v s1 g t1 hv ls us ds.
      wanted most (Valued S d (Some Int) f) (run P most S y b g) (top - t1) low v s1
      (λ w. cond (is_false w) (Go (Value 0) s1) (then (meaning P (Of e) s1) truth)) (λ w ew.
      and_end e d w (top - t1) low s1 f g l.kind ld (h e s1 (omega arith)) t.1
      (value_at S d l.kind f v w s1 g ew hv) (omega arith) (omega arith) (omega arith)))))

  -- the code of `||` follows the evaluation, where its parts do
  pub or_node : (k : Option Kind) (l e : TypedExpr) (d top low : ℕ) (s : eval.State) (f : State)
      → d < 16 → ((e : TypedExpr) (s1 : eval.State) → s1.stock < s.stock → FollowsOf P most e s1)
      → FitsExpr (scope P S) d (tree.Binary k LogicalOr (expr_of l) (expr_of e)) → Related S s f
      → 8 * s.stock ≤ top + 4 → low ≤ s.stock + most * f.rounds -
      (1 + (nodes (expr_of l) + nodes (expr_of e)))
      → FollowsHere P most S y d k f (expr_code (context P S) d
      (tree.Binary k LogicalOr (expr_of l) (expr_of e))) f top low
      (spend s (opened (meaning P) P (node.Binary LogicalOr l e)))
  or_node None l e d top low s f ld h t r hu hl = absurd t.2
  or_node (Some k) l e d top low s f ld h t r hu hl =
      let b = only (If (Var (temp d)) (set_word (temp d) 1) (Then (code P most S y d e) (tested d))) in
      subst (λ k. FollowsHere P most S y d (Some k) f (Then (code P most S y d l) b) f top low
      (spend s (opened (meaning P) P (node.Binary LogicalOr l e)))) (sym t.2)
      (spending P most S y (Valued S d (Some Int) f) (Then (code P most S y d l) b) s f top low
      (opened (meaning P) P (node.Binary LogicalOr l e)) r (omega arith) (λ n q rn.
      let s0 = record s { stock = n } in
      operand P most S y (Valued S d (Some Int) f) l d b s0 f top low (after_or (meaning P) e)
      (h l s0 (omega arith)) t.0 rn (omega arith) (omega arith)
      (λ v s1 g t1 hv ls us ds.
      wanted most (Valued S d (Some Int) f) (run P most S y b g) (top - t1) low v s1
      (λ w. cond (is_false w) (then (meaning P (Of e) s1) truth) (Go (Value 1) s1)) (λ w ew.
      or_end e d w (top - t1) low s1 f g l.kind ld (h e s1 (omega arith)) t.1
      (value_at S d l.kind f v w s1 g ew hv) (omega arith) (omega arith) (omega arith)))))
