-- The nodes of expressions without a call, an assignment or a bump.
use Rattle.std.proofs.Common.{◌≡◌, ◌≢◌, ℕ, zero, suc, ◌+◌, ◌-◌, ◌*◌, ◌%◌, ◌^◌, ◌<◌, ◌≤◌, Bool, true}
use Rattle.std.proofs.Common.{false, cond, List, [], ◌∷◌, map, length, Option, Some, None, refl}
use Rattle.std.proofs.Common.{sym, ap, ◌∙◌, subst, arith}
use Rattle.std.specs.Prelude.{slice_get, nat_eq}
use Rattle.std.proofs.lemmas.Bool.Decides.{nat_tests}
use Rattle.c_tree.specs.declared.Kind.{Kind}
use Rattle.c_tree.specs.declared.UnaryOp.{UnaryOp}
use Rattle.c_tree.specs.declared.BinaryOp.{BinaryOp}
use Rattle.c_tree.specs.declared.Place.{Place}
use Rattle.c_tree.specs.declared.Place.TheVariants.{Global, Scalar, Array}
use Rattle.c_tree.specs.declared.Slot.TheVariants as slot
use Rattle.c_tree.specs.declared.TypedExpr.{TypedExpr}
use Rattle.c_tree.specs.declared.TypedProgram.{TypedProgram}
use Rattle.c_tree.specs.declared.TypedNode.TheOpen as node
use Rattle.c_constant.specs.Kinds.{converted}
use Rattle.c_constant.specs.Operation.{operate, operate_one, result_of, unary_result}
use Rattle.c_meaning_spec.specs.declared.fault.Fault.TheVariants.{IllFormed}
use Rattle.c_meaning_spec.specs.Word.{unary_fault}
use Rattle.c_meaning_spec.specs.declared.signal.Signal.{Signal}
use Rattle.c_meaning_spec.specs.declared.signal.Signal.TheVariants.{Nothing, Value, Breaks, Continues}
use Rattle.c_meaning_spec.specs.declared.signal.Signal.TheVariants.{Returns}
use Rattle.c_meaning_spec.specs.declared.signal.Object.{Object}
use Rattle.c_meaning_spec.specs.declared.signal.Object.TheVariants.{InScalar, InArray}
use Rattle.c_meaning_spec.specs.State.{Result, Go, Over, spend, want, given, cell, held, load}
use Rattle.c_meaning_spec.specs.inside.State.{then}
use Rattle.c_meaning_spec.specs.State as eval
use Rattle.c_meaning_spec.specs.Word.{is_false, truth_of, unary_of, binary_of}
use Rattle.c_meaning_spec.specs.Task.{Of, array_of, element_in, element_of, name, is_array, element}
use Rattle.c_meaning_spec.specs.Expression.{converting, unary, operated, after_left, truth, after_and}
use Rattle.c_meaning_spec.specs.Expression.{after_or, binary, valued, after_choice, after_comma, opened}
use Rattle.c_meaning_spec.specs.Eval.{meaning, length_of}
use Rattle.trips_isa.specs.declared.op.Op.TheVariants as op
use Rattle.ir_forms.specs.declared.flat.Arg.TheVariants.{Const, Var}
use Rattle.ir_forms.specs.inside.FlatCode.{Code, Nop, Then, only, Let, Load, If}
use Rattle.ir_forms.specs.inside.Cells.{apply}
use Rattle.ir_forms.specs.inside.Cells as cells
use Rattle.ir_forms.specs.inside.FlatSteps.{State, read}
use Rattle.ir_forms.specs.inside.FlatRuns.{checked}
use Rattle.ir_forms.proofs.Statements.{if_one, if_other}
use Rattle.flat_lower.specs.inside.Tree.{kind_of}
use Rattle.flat_lower.specs.inside.Tree as tree
use Rattle.flat_lower.specs.inside.TreeViews.{expr_of}
use Rattle.c_constant.specs.Kinds.{IsWord}
use Rattle.flat_lower.specs.inside.Kinds.{IsArithmetic}
use Rattle.flat_lower.specs.inside.Operations.{temp, scratch, set_word, copied, converted_here}
use Rattle.flat_lower.specs.inside.Operations.{binary_code, unary_code, load_op}
use Rattle.flat_lower.specs.inside.Objects.{Context, global_at, address_code}
use Rattle.flat_lower.specs.inside.Expressions.{with_kind, global_code, name_code, element_code, tested}
use Rattle.flat_lower.specs.inside.Expressions.{binary_end, operand_at, expr_code}
use Rattle.flat_lower.specs.inside.Fits.{GlobalIs, FitsName, FitsWhole, IsOperand, FitsRight, FitsStrict}
use Rattle.flat_lower.specs.inside.Fits.{FitsBinary, FitsUnary, FitsExpr, FitsKind}
use Rattle.flat_lower.specs.inside.Sizes.{nodes}
use Rattle.c_constant.proofs.Conversions.{converted_is}
use Rattle.flat_lower.proofs.Straight.{Puts, puts_none, puts_let, puts_both, puts_as, puts_within}
use Rattle.flat_lower.proofs.Straight.{var_read}
use Rattle.flat_lower.proofs.OperationWorks.{IsRight, IsStrict, Works, binary_works}
use Rattle.flat_lower.proofs.UnaryWorks.{unary_works, here_works}
use Rattle.flat_lower.proofs.Objects.{element_at, Holds}
use Rattle.flat_lower.proofs.TreeFacts.{kind_is}
use Rattle.flat_lower.proofs.Follows.{Post, Follows, needed, wanted, moved}
use Rattle.flat_lower.proofs.Related.{Scene, IsScene, scope, context, object, ObjectIs, Related}
use Rattle.flat_lower.proofs.Related.{element_holds, element_within, held_is}
use Rattle.flat_lower.proofs.Pieces.{puts_load, PlaceIs, place_is, addressed, address_puts}
use Rattle.flat_lower.proofs.Pieces.{element_address}
use Rattle.flat_lower.proofs.Values.{KeptIs, ValueIs, Valued, value_at, kept_at, keeps_all}
use Rattle.flat_lower.proofs.Values.{keeps_both, functions, base, FollowsOf, run, code, keeps_set}
use Rattle.flat_lower.proofs.Values.{value_end, operand, spending}

module _ (P : TypedProgram) (most : ℕ) (S : Scene) (y : IsScene P S) where
  -- the run of an expression's code follows the evaluation to this result
  abbrev pub FollowsHere : ℕ → Option Kind → State → Code → State → ℕ → ℕ → Result → Type 0
  FollowsHere d k f0 a f top low r = Follows most (Valued S d k f0) (run P most S y a f) top low r

  -- CONSTANTS AND NAMES

  -- the code of a number follows the evaluation
  pub number_node : (k : Option Kind) (w d top low : ℕ) (s : eval.State) (f : State)
      → FitsExpr (scope P S) d (tree.Number k w) → Related S s f → 8 * s.stock ≤ top + 4
      → low ≤ s.stock + most * f.rounds - 1
      → FollowsHere d k f (expr_code (context P S) d (tree.Number k w)) f top low
      (spend s (opened (meaning P) P (node.Number w)))
  unfolding apply
  number_node None w d top low s f t r hu hl = absurd t
  number_node (Some k) w d top low s f t r hu hl =
      spending P most S y (Valued S d (Some k) f) (set_word (temp d) w) s f top low
      (opened (meaning P) P (node.Number w)) r (omega arith) (λ n e rn.
      value_end P most S y d (Some k) f f (set_word (temp d) w) 1 80 w top low
      (record s { stock = n }) k t.0 (omega arith) refl t.1
      (keeps_all S d (record s { stock = n }) f rn)
      (puts_let (functions P most) (base P most) S.env op.Mov (Const w) (Const 0) f 1
      (temp d) 80 w 0 w (omega arith) refl refl refl) (omega arith) (omega arith))

  -- a global scalar as an array of one element
  global_object : (g : ℕ) (k : Kind) (l q : Option ℕ) → GlobalIs (scope P S) g k l q
      → ObjectIs S.objects g k
  global_object g k l q x = record {
    it = object (global_at P.globals g) x.global.kind
        (length_of x.global.length) x.global.row;
    found = y.globals g x.global x.found;
    kind = x.kind;
  }

  -- where a global scalar is loaded from
  pub global_loaded : (g w : ℕ) (k : Kind) (s : eval.State) (f : State)
      → GlobalIs (scope P S) g k None None → held (cell s (InArray g 0)) ≡ Some w → Related S s f
      → (cells.load checked (load_op k) f.memory (global_at P.globals g) ≡ Some w) × IsWord k w
  global_loaded g w k s f x h r =
      let o : ObjectIs S.objects g k = record {
        it = object (global_at P.globals g) x.global.kind
            (length_of x.global.length) x.global.row;
        found = y.globals g x.global x.found;
        kind = x.kind;
      } in
      let v = element_holds S s f g 0 w k o h r in
      let e : element_at o.it 0 ≡ global_at P.globals g = omega arith in (
        ap (λ k. cells.load checked (load_op k) f.memory (global_at P.globals g)) (sym x.kind)
            ∙ ap (cells.load checked (load_op x.global.kind) f.memory) (sym e) ∙ v.loaded,
        subst (λ k. IsWord k w) x.kind v.fits,
      )

  -- a global that is no array is found to be none
  pub is_scalar : (g : ℕ) (k : Kind) → GlobalIs (scope P S) g k None None
      → is_array (slice_get P.globals g) ≡ false
  is_scalar g k x = ap is_array x.found ∙ go x.global.length x.long
    where
      go : (l : Option ℕ) → l ≡ None → is_array (Some (record x.global { length = l })) ≡ false
      go None e = refl
      go (Some n) e = absurd (cc e)

  named_scalar : (i : ℕ) (k : Kind) (d top low : ℕ) (s : eval.State) (f : State) → d < 16
      → slice_get S.func.scalars i ≡ Some (slot.Scalar k) → Related S s f → 1 + 8 * s.stock ≤ top
      → low ≤ s.stock + most * f.rounds
      → FollowsHere d (Some k) f (copied (temp d) i) f top low (load (InScalar i) s)
  unfolding apply
  named_scalar i k d top low s f ld t r hu hl =
      needed most (Valued S d (Some k) f) (run P most S y (copied (temp d) i) f) top low
      (held (cell s (InScalar i))) _ s (λ w. Go (Value w) s) (λ w e.
      let x = r.scalars i w (slot.Scalar k) t (held_is (cell s (InScalar i)) w e) in
      value_end P most S y d (Some k) f f (copied (temp d) i) 1 80 w top low s k ld
      (omega arith) refl x.1 (keeps_all S d s f r)
      (puts_let (functions P most) (base P most) S.env op.Mov (Var i) (Const 0) f 1
      (temp d) 80 w 0 w (omega arith) (var_read (functions P most) (base P most) S.env f i w x.0)
      refl refl) hu hl)

  named_global : (g : ℕ) (k : Kind) (d top low : ℕ) (s : eval.State) (f : State) → d < 16
      → GlobalIs (scope P S) g k None None → Related S s f → 1 + 8 * s.stock ≤ top
      → low ≤ s.stock + most * f.rounds
      → FollowsHere d (Some k) f (only (Load (temp d) (load_op k) (Const (global_at P.globals g))))
      f top low (load (InArray g 0) s)
  named_global g k d top low s f ld t r hu hl =
      let a = only (Load (temp d) (load_op k) (Const (global_at P.globals g))) in
      needed most (Valued S d (Some k) f) (run P most S y a f) top low
      (held (cell s (InArray g 0))) _ s (λ w. Go (Value w) s) (λ w e.
      let x = global_loaded g w k s f t e r in
      value_end P most S y d (Some k) f f a 1 80 w top low s k ld (omega arith) refl x.1
      (keeps_all S d s f r)
      (puts_load P (functions P most) (base P most) S.env (load_op k)
      (Const (global_at P.globals g)) f (temp d) 80 (global_at P.globals g) w refl x.0) hu hl)

  -- the code of a name follows the evaluation
  pub name_node : (k : Option Kind) (p : Place) (d top low : ℕ) (s : eval.State) (f : State)
      → FitsExpr (scope P S) d (tree.Name k p) → Related S s f → 8 * s.stock ≤ top + 4
      → low ≤ s.stock + most * f.rounds - 1
      → FollowsHere d k f (expr_code (context P S) d (tree.Name k p)) f top low
      (spend s (opened (meaning P) P (node.Name p)))
  name_node None p d top low s f t r hu hl = absurd t
  name_node (Some k) (Global g) d top low s f t r hu hl =
      spending P most S y (Valued S d (Some k) f)
      (name_code (context P S) (Global g) (temp d) k) s f top low
      (opened (meaning P) P (node.Name (Global g))) r (omega arith) (λ n e rn.
      let s1 = record s { stock = n } in
      subst (λ b. FollowsHere d (Some k) f (global_code (context P S) b g (temp d) k) f top low
      (cond b (Go (Value g) s1) (load (InArray g 0) s1))) (sym (is_scalar g k t.1))
      (named_global g k d top low s1 f t.0 t.1 rn (omega arith) (omega arith)))
  name_node (Some k) (Scalar i) d top low s f t r hu hl =
      spending P most S y (Valued S d (Some k) f) (copied (temp d) i) s f top low
      (opened (meaning P) P (node.Name (Scalar i))) r (omega arith) (λ n e rn.
      named_scalar i k d top low (record s { stock = n }) f t.0 t.1 rn (omega arith) (omega arith))
  name_node (Some k) (Array a) d top low s f t r hu hl = absurd t.1

  -- ONE OPERAND

  -- the code of an operation on one operand follows the evaluation, where its operand does
  pub unary_node : (k : Option Kind) (o : UnaryOp) (e : TypedExpr) (d top low : ℕ) (s : eval.State)
      (f : State) → d < 16 → ((s1 : eval.State) → s1.stock < s.stock → FollowsOf P most e s1)
      → FitsExpr (scope P S) d (tree.Unary k o (expr_of e)) → Related S s f → 8 * s.stock ≤ top + 4
      → low ≤ s.stock + most * f.rounds - (1 + nodes (expr_of e))
      → FollowsHere d k f (expr_code (context P S) d (tree.Unary k o (expr_of e))) f top low
      (spend s (opened (meaning P) P (node.Unary o e)))
  unary_node k o e d top low s f ld h t r hu hl =
      let b = with_kind (kind_of (expr_of e)) (λ j. unary_code o j (temp d)) in
      spending P most S y (Valued S d k f) (Then (code P most S y d e) b) s f top low
      (opened (meaning P) P (node.Unary o e)) r (omega arith) (λ n q rn.
      let s0 = record s { stock = n } in
      operand P most S y (Valued S d k f) e d b s0 f top low (unary o e.kind)
      (h s0 (omega arith)) t.0 rn (omega arith) (omega arith)
      (λ v s1 g tt1 hv ls us ds.
      wanted most (Valued S d k f) (run P most S y b g) (top - tt1) low v s1
      (λ a. given (unary_of o e.kind a) (unary_fault o e.kind a) s1) (λ a ea.
      unary_end k (kind_of (expr_of e)) e.kind (kind_is e) a g s1 (top - tt1)
      (value_at S d e.kind f v a s1 g ea hv) t.1 (omega arith) (omega arith))))
    where
      unary_end : (k j j1 : Option Kind) → j ≡ j1 → (a : ℕ) (g : State) (s1 : eval.State) (up : ℕ)
          → ValueIs S d j1 f a s1 g → FitsKind k (FitsUnary o j) → 3 + 8 * s1.stock ≤ up
          → low ≤ s1.stock + most * g.rounds
          → FollowsHere d k f (with_kind j (λ j. unary_code o j (temp d))) g up low
          (given (unary_of o j1 a) (unary_fault o j1 a) s1)
      unary_end None j j1 ej a g s1 up v t hu hl = absurd t
      unary_end (Some k) None j1 ej a g s1 up v t hu hl = absurd t
      unary_end (Some k) (Some j) None ej a g s1 up v t hu hl = absurd (cc ej)
      unary_end (Some k) (Some j) (Some j1) ej a g s1 up v t hu hl =
          let same : j ≡ j1 = cc ej in
          let kinds : j1 ≡ v.kind = cc v.is_kind in
          let fits : IsWord j a = subst (λ k. IsWord k a) (sym (same ∙ kinds)) v.fits in
          needed most (Valued S d (Some k) f) (run P most S y (unary_code o j (temp d)) g) up low
          (operate_one o j1 a) _ s1 (λ w. Go (Value w) s1) (λ w ew.
          let x = unary_works (functions P most) (base P most) S.env o j g (temp d) a w t.0 v.is fits
          (ap (λ j. operate_one o j a) same ∙ ew) in
          value_end P most S y d (Some k) f g (unary_code o j (temp d)) 3 80 w up low s1 k ld
          (omega arith) refl (subst (λ k. IsWord k w) (sym t.1) x.fits) v.keeps x.puts hu hl)

  -- a conversion, also one that costs no step
  pub convert_end : (to : Kind) (k i j : Option Kind) (d a top low : ℕ) (f0 g : State)
      (s : eval.State) → d < 16 → k ≡ Some to → i ≡ j → ValueIs S d j f0 a s g → 1 + 8 * s.stock ≤ top
      → low ≤ s.stock + most * g.rounds
      → FollowsHere d k f0 (converted_here i to (temp d)) g top low (Go (Value (converted to a)) s)
  convert_end to k i j d a top low f0 g s ld hk same v hu hl =
      let x = here_works (functions P most) (base P most) S.env v.kind to g (temp d) a v.is v.fits in
      subst (λ i. FollowsHere d k f0 (converted_here i to (temp d)) g top low (Go (Value (converted to a)) s))
      (sym (same ∙ v.is_kind))
      (value_end P most S y d k f0 g (converted_here (Some v.kind) to (temp d)) 1 80
      (converted to a) top low s to ld (omega arith) hk x.fits v.keeps x.puts hu hl)

  -- the code of a cast follows the evaluation, where its operand does
  pub cast_node : (k : Option Kind) (to : Kind) (e : TypedExpr) (d top low : ℕ) (s : eval.State)
      (f : State) → d < 16 → ((s1 : eval.State) → s1.stock < s.stock → FollowsOf P most e s1)
      → FitsExpr (scope P S) d (tree.Cast k to (expr_of e)) → Related S s f → 8 * s.stock ≤ top + 4
      → low ≤ s.stock + most * f.rounds - (1 + nodes (expr_of e))
      → FollowsHere d k f (expr_code (context P S) d (tree.Cast k to (expr_of e))) f top low
      (spend s (opened (meaning P) P (node.Cast to e)))
  cast_node k to e d top low s f ld h t r hu hl =
      let b = converted_here (kind_of (expr_of e)) to (temp d) in
      spending P most S y (Valued S d k f) (Then (code P most S y d e) b) s f top low
      (opened (meaning P) P (node.Cast to e)) r (omega arith) (λ n q rn.
      let s0 = record s { stock = n } in
      operand P most S y (Valued S d k f) e d b s0 f top low (converting to)
      (h s0 (omega arith)) t.0 rn (omega arith) (omega arith)
      (λ v s1 g tt1 hv ls us ds.
      wanted most (Valued S d k f) (run P most S y b g) (top - tt1) low v s1
      (λ a. Go (Value (converted to a)) s1) (λ a ea.
      convert_end to k (kind_of (expr_of e)) e.kind d a (top - tt1) low f g s1 ld t.1 (kind_is e)
      (value_at S d e.kind f v a s1 g ea hv) (omega arith) (omega arith))))

  -- ELEMENTS

  -- an element's object and its address, in a state after its index
  pub record ElementIs (p : Place) (k : Kind) (w : ℕ) (s : eval.State) (x : Object) : Type 0 where
    pub number : ℕ
    pub array : array_of p s ≡ Some number
    pub is : x ≡ InArray number w

  -- an element that is there is the one at its index
  pub element_is : (p : Place) (k : Kind) (w : ℕ) (s : eval.State) (x : Object)
      → element_of p w s ≡ Some x → ElementIs p k w s x
  element_is p k w s x h = go (array_of p s) refl h
    where
      go : (o : Option ℕ) → array_of p s ≡ o → element_in o w ≡ Some x → ElementIs p k w s x
      go None e h = absurd (cc h)
      go (Some n) e h = record { number = n; array = e; is = cc h }

  -- the element at an address that its code put into a variable is loaded
  pub element_loaded : (p : Place) (k : Kind) (n w v at : ℕ) (s : eval.State) (f g : State)
      (o : ObjectIs S.objects n k) → held (cell s (InArray n w)) ≡ Some v → Related S s f
      → at ≡ addressed P (functions P most) (base P most) k w o.it.at → g.memory ≡ f.memory
      → (cells.load checked (load_op k) g.memory at ≡ Some v) × IsWord k v
  element_loaded p k n w v at s f g o h r ea hm =
      let x = element_holds S s f n w v k o h r in
      let lt = element_within S s f n w (Some v) k o (held_is (cell s (InArray n w)) v h) r in
      let e : at ≡ element_at o.it w = ea ∙ element_address P (functions P most) (base P most) S y n w k o lt in (
        ap (λ m. cells.load checked (load_op k) m at) hm
            ∙ ap (cells.load checked (load_op k) f.memory) e
            ∙ ap (λ k. cells.load checked (load_op k) f.memory (element_at o.it w)) (sym o.kind)
            ∙ x.loaded,
        subst (λ k. IsWord k v) o.kind x.fits,
      )

  -- the code of an element behind its index follows the evaluation
  pub element_end : (p : Place) (q : Option ℕ) (k : Kind) (d w top low : ℕ) (f0 g : State) (s : eval.State)
      (j : Option Kind) → d < 16 → FitsWhole (scope P S) k q p → ValueIs S d j f0 w s g
      → 4 + 8 * s.stock ≤ top → low ≤ s.stock + most * g.rounds
      → FollowsHere d (Some k) f0 (element_code (context P S) p d k) g top low
      (element p (Value w) s)
  element_end p q k d w top low f0 g s j ld t v hu hl =
      let fs = functions P most in
      let b = base P most in
      let a = address_code (context P S) p k (temp d) (temp d) in
      let l = only (Load (temp d) (load_op k) (Var (temp d))) in
      needed most (Valued S d (Some k) f0) (run P most S y (Then a l) g) top low
      (element_of p w s) _ s (λ x. load x s) (λ x ex.
      let i = element_is p k w s x ex in
      subst (λ x. FollowsHere d (Some k) f0 (Then a l) g top low (load x s)) (sym i.is)
      (needed most (Valued S d (Some k) f0) (run P most S y (Then a l) g) top low
      (held (cell s (InArray i.number w))) _ s (λ u. Go (Value u) s) (λ u eu.
      let o = (place_is P fs b S y p k q i.number s g v.keeps.rel t i.array).array in
      let pa = address_puts P fs b S y p k q i.number s g v.keeps.rel t i.array o (temp d) (temp d) w (omega arith)
      (λ e. omega arith) (λ e. omega arith) v.is in
      let z = element_loaded p k i.number w u (addressed P fs b k w o.it.at) s g pa.to o eu v.keeps.rel refl
      pa.sets.memory in
      let pl = puts_load P fs b S.env (load_op k) (Var (temp d)) pa.to (temp d) 81 (addressed P fs b k w o.it.at) u
      (var_read fs b S.env pa.to (temp d) (addressed P fs b k w o.it.at) pa.sets.value) z.0 in
      value_end P most S y d (Some k) f0 g (Then a l) 4 81 u top low s k ld
      (omega arith) refl z.1 v.keeps
      (puts_both fs b S.env a l g 3 1 (temp d) 81 (addressed P fs b k w o.it.at) u pa pl) hu hl)))

  -- the code of an element follows the evaluation, where its index does
  pub element_node : (k : Option Kind) (p : Place) (e : TypedExpr) (d top low : ℕ) (s : eval.State)
      (f : State) → d < 16 → ((s1 : eval.State) → s1.stock < s.stock → FollowsOf P most e s1)
      → FitsExpr (scope P S) d (tree.Element k p (expr_of e)) → Related S s f → 8 * s.stock ≤ top + 4
      → low ≤ s.stock + most * f.rounds - (1 + nodes (expr_of e))
      → FollowsHere d k f (expr_code (context P S) d (tree.Element k p (expr_of e))) f top low
      (spend s (opened (meaning P) P (node.Element p None e)))
  element_node None p e d top low s f ld h t r hu hl = absurd t.0
  element_node (Some k) p e d top low s f ld h t r hu hl =
      let b = element_code (context P S) p d k in
      spending P most S y (Valued S d (Some k) f) (Then (code P most S y d e) b) s f top low
      (opened (meaning P) P (node.Element p None e)) r (omega arith) (λ n q rn.
      let s0 = record s { stock = n } in
      operand P most S y (Valued S d (Some k) f) e d b s0 f top low (element p)
      (h s0 (omega arith)) t.1 rn (omega arith) (omega arith)
      (λ v s1 g tt1 hv ls us ds.
      wanted most (Valued S d (Some k) f) (run P most S y b g) (top - tt1) low v s1
      (λ w. eval.with_some (element_of p w s1) IllFormed s1 (λ x. load x s1)) (λ w ew.
      element_end p None k d w (top - tt1) low f g s1 e.kind ld t.0
      (value_at S d e.kind f v w s1 g ew hv) (omega arith) (omega arith))))
