-- The code of an expression fits.
use Rattle.std.proofs.Common.{◌≡◌, ℕ, suc, ◌^◌, ◌<◌, Bool, List, []}
use Rattle.std.proofs.Common.{◌∷◌, length, take, Option, Some, None, refl, sym, ap, ◌∙◌, subst, arith}
use Rattle.std.specs.Prelude.{slice_get}
use Rattle.std.proofs.lemmas.Option.{slice_get_within}
use Rattle.c_tree.specs.declared.Kind.{Kind}
use Rattle.c_tree.specs.declared.Kind.TheVariants.{Long}
use Rattle.c_tree.specs.declared.BinaryOp.{BinaryOp}
use Rattle.c_tree.specs.declared.BinaryOp.TheVariants.{LogicalOr, LogicalAnd}
use Rattle.c_tree.specs.declared.Place.{Place}
use Rattle.c_tree.specs.declared.Place.TheVariants.{Global, Scalar, Array}
use Rattle.c_tree.specs.declared.Callee.TheVariants as callee
use Rattle.c_tree.specs.declared.Slot.{Slot}
use Rattle.c_tree.specs.declared.Slot.TheVariants as slot
use Rattle.trips_isa.specs.declared.op.Op.TheVariants as op
use Rattle.ir_forms.specs.declared.flat.Arg.TheVariants.{Const, Var}
use Rattle.ir_forms.specs.inside.FlatCode.{Code, Nop, Then, Put, Get, Function}
use Rattle.ir_forms.specs.inside.FlatCode as flat
use Rattle.ir_forms.specs.inside.FlatViews.{stays}
use Rattle.ir_forms.specs.inside.FlatFits.{FitsVar, FitsLastings, FitsResult}
use Rattle.ir_forms.specs.inside.FlatFits as limits
use Rattle.flat_lower.specs.inside.Tree.{Expr, Number, Name, Element, Call, Unary, Cast, Convert, Bump}
use Rattle.flat_lower.specs.inside.Tree.{Binary, Choice, Assign, Comma, Exprs, NoExprs, WithExpr, Func}
use Rattle.flat_lower.specs.inside.Tree.{kind_of, RowElement}
use Rattle.flat_lower.specs.inside.Fits.{Scope, FitsName, FitsWhole, FitsNamed, FitsElement, FitsRowElement, FitsArg}
use Rattle.flat_lower.specs.inside.Fits.{FitsExpr, FitsLeft, FitsOne, FitsArgs}
use Rattle.flat_lower.specs.inside.Operations.{temp, set_word, unary_code, binary_code}
use Rattle.flat_lower.specs.inside.Objects.{Context}
use Rattle.flat_lower.specs.inside.Expressions.{name_code, element_code, bump_code, before_right, right_at}
use Rattle.flat_lower.specs.inside.Expressions.{after_right, temps, result_var, tested, binary_end}
use Rattle.flat_lower.specs.inside.Expressions.{operand_at, joined_code, strict_code}
use Rattle.flat_lower.specs.declared.powers.Power.{Power}
use Rattle.flat_lower.specs.inside.Powers.{immediate_for, immediate_code}
use Rattle.flat_lower.specs.inside.Expressions.{expr_code, index_code, args_code, call_code}
use Rattle.flat_lower.proofs.Depths.{depth_fits}
use Rattle.flat_lower.proofs.Immediates.{IsSmall, immediate_small}
use Rattle.flat_lower_premises.proofs.Fitting.{Fitting, nothing_fits, single_fits, let_fits, if_fits}
use Rattle.flat_lower_premises.proofs.Fitting.{with_kind_fits, joined, scalar_fits, temp_fits, temp_lasts}
use Rattle.flat_lower_premises.proofs.Operations.{word_fits, converted_here_fits, binary_fits, unary_fits}
use Rattle.flat_lower_premises.proofs.Operations.{immediate_fits}
use Rattle.flat_lower_premises.proofs.Places.{HasPlaces, FitsPlace, FitsSide, name_fits, element_fits, bump_fits}
use Rattle.flat_lower_premises.proofs.Places.{joined_code_fits, before_fits, after_fits}

-- PLACES

module _ (c : Scope) where
  -- the place of a name that fits is one of the function
  pub name_place : (k : Kind) (p : Place) → FitsName c k p → FitsPlace (length c.scalars) p
  name_place k (Global g) t = tt
  name_place k (Scalar j) t = scalar_fits (length c.scalars) j
      (slice_get_within c.scalars j (slot.Scalar k) t)
  name_place k (Array a) t = tt

  whole_place : (k : Kind) (q : Option ℕ) (p : Place) → FitsWhole c k q p → FitsPlace (length c.scalars) p
  whole_place k q (Global g) t = tt
  whole_place k q (Scalar j) t = scalar_fits (length c.scalars) j
      (slice_get_within c.scalars j (slot.Address k q) t)
  whole_place k q (Array a) t = tt

  named_place : (d : ℕ) (k : Option Kind) (p : Place) → FitsNamed c d k p
      → FitsPlace (length c.scalars) p
  named_place d None p t = absurd t
  named_place d (Some k) p t = name_place k p t.1

  element_place : (k : Option Kind) (p : Place) → FitsElement c k p → FitsPlace (length c.scalars) p
  element_place None p t = absurd t
  element_place (Some k) p t = whole_place k None p t

  row_element_place : (k : Option Kind) (p : Place) → FitsRowElement c k p
      → FitsPlace (length c.scalars) p
  row_element_place None p t = absurd t
  row_element_place (Some k) p t = whole_place k (Some t.0) p t.1

  -- the place of a left side that fits is one of the function
  pub side_place : (d : ℕ) (k : Option Kind) (e : Expr) → FitsLeft c d k e
      → FitsSide (length c.scalars) e
  side_place d k (Name j p) t = named_place d k p t.1
  side_place d k (Element j p index) t = element_place k p t.1
  side_place d k (RowElement j p row index) t = row_element_place k p t.1
  side_place d k _ t = tt

  left_depth : (d : ℕ) (k : Option Kind) (e : Expr) → FitsLeft c d k e → d < 16
  left_depth d None (Name j p) t = absurd t.1
  left_depth d (Some k) (Name j p) t = t.1.0
  left_depth d k (Element j p index) t = depth_fits c d index t.2
  left_depth d k (RowElement j p row index) t = depth_fits c d row t.2
  left_depth d k _ t = absurd t

-- CALLS

-- a call of a function of the source finds one that takes its arguments
pub record Callable (fs : List Function) (functions : List Func) : Type 0 where
  pub takes : (f : ℕ) (g : Func) → slice_get functions f ≡ Some g
      → (h : Function) × (slice_get fs f ≡ Some h) × (length (take g.params g.scalars) ≡ h.params)

module _ (c : Scope) (n : ℕ) where
  argument_depth : (d : ℕ) (s : Slot) (e : Expr) → FitsArg c d s (FitsExpr c d e) e → d < 16
  argument_depth d (slot.Scalar k) e t = depth_fits c d e t.0
  argument_depth d (slot.Address k q) (Name j p) t = t.0
  argument_depth d (slot.Address k q) _ t = absurd t

  arguments_last : (d : ℕ) (ss : List Slot) (es : Exprs) → FitsArgs c d ss es
      → FitsLastings n (temps d es)
  arguments_last d [] NoExprs t = tt
  arguments_last d [] (WithExpr e rest) t = absurd t
  arguments_last d (s ∷ ss) NoExprs t = absurd t
  arguments_last d (s ∷ ss) (WithExpr e rest) t =
      (temp_lasts n d (argument_depth d s e t.0), arguments_last (suc d) ss rest t.1)

  arguments_count : (d : ℕ) (ss : List Slot) (es : Exprs) → FitsArgs c d ss es
      → length (temps d es) ≡ length ss
  arguments_count d [] NoExprs t = refl
  arguments_count d [] (WithExpr e rest) t = absurd t
  arguments_count d (s ∷ ss) NoExprs t = absurd t
  arguments_count d (s ∷ ss) (WithExpr e rest) t = ap suc (arguments_count (suc d) ss rest t.1)

result_lasts : (n : ℕ) (k : Option Kind) (d : ℕ) → d < 16 → FitsResult n (result_var k d)
result_lasts n None d h = tt
result_lasts n (Some k) d h = temp_lasts n d h

-- EXPRESSIONS

module _ (fs : List Function) (c : Scope) (bytes : ℕ) (i : Bool) (x : Context)
    (known : Callable fs c.functions) (low : HasPlaces x bytes) where
  abbrev Fits : Code → Type 0
  Fits code = Fitting fs (length c.scalars) bytes i code

  depth : (d : ℕ) → d < 16 → FitsVar (length c.scalars) (temp d)
  depth d h = temp_fits (length c.scalars) d h

  tested_fits : (d : ℕ) → d < 16 → Fits (tested d)
  tested_fits d h =
      let q = depth d h in
      let_fits (temp d) op.Tne (Var (temp d)) (Const 0) refl q q (omega arith)

  strict_fits : (o : BinaryOp) (k : Option Kind) (d : ℕ) (m : Option Power) (right : Code) → d < 16 → suc d < 16
      → ((i : Power) → m ≡ Some i → IsSmall i) → Fits right → Fits (strict_code o k d m right)
  strict_fits o k d None right h g q p = joined p
      (with_kind_fits k (λ k. binary_code o k (temp d) (temp (suc d)))
      (λ k. binary_fits o k (temp d) (temp (suc d)) (depth d h) (depth (suc d) g)))
  strict_fits o k d (Some m) right h g q p = with_kind_fits k (λ k. immediate_code o k m (temp d))
      (λ k. immediate_fits o k m (temp d) (q m refl) (depth d h))

  binary_end_fits : (o : BinaryOp) (k : Option Kind) (d : ℕ) (m : Option Power) (right : Code) → d < 16
      → operand_at o d < 16 → ((i : Power) → m ≡ Some i → IsSmall i) → Fits right
      → Fits (binary_end o k d m right)
  binary_end_fits LogicalAnd k d m right h g q p =
      if_fits (Var (temp d)) (Then right (tested d)) Nop (depth d h) (joined p (tested_fits d h))
      nothing_fits
  binary_end_fits LogicalOr k d m right h g q p =
      let v = depth d h in
      if_fits (Var (temp d)) (set_word (temp d) 1) (Then right (tested d)) v
      (word_fits (temp d) 1 v (omega arith)) (joined p (tested_fits d h))
  binary_end_fits o k d m right h g q p = strict_fits o k d m right h g q p

  called_fits : (k : Option Kind) (f d : ℕ) (args : Exprs) (g : Func)
      → slice_get c.functions f ≡ Some g → FitsArgs c d (take g.params g.scalars) args → d < 16
      → Fits (call_code (callee.Func f) k d (temps d args))
  called_fits k f d args g found t h =
      let to = known.takes f g found in
      let call : limits.FitsCall fs f (temps d args) = record {
        function = to.0;
        found = to.1;
        arity = arguments_count c (length c.scalars) d (take g.params g.scalars) args t ∙ to.2;
      } in
      single_fits (flat.Call f (temps d args) (result_var k d) stays) (
        call,
        arguments_last c (length c.scalars) d (take g.params g.scalars) args t,
        result_lasts (length c.scalars) k d h,
      )

  byte_out_fits : (k : Option Kind) (d : ℕ) (args : Exprs) → d < 16
      → Fits (call_code callee.PutChar k d (temps d args))
  byte_out_fits k d args h =
      let q = depth d h in
      joined (single_fits (Put (Var (temp d))) q)
      (let_fits (temp d) op.Extub (Var (temp d)) (Const 0) refl q q (omega arith))

  argument_fits : (d : ℕ) (s : Slot) (e : Expr) → (FitsExpr c d e → Fits (expr_code x d e))
      → FitsArg c d s (FitsExpr c d e) e → Fits (expr_code x d e)
  argument_fits d (slot.Scalar k) e f t = f t.0
  argument_fits d (slot.Address k q) (Name j p) f t =
      with_kind_fits j (name_code x p (temp d))
      (λ j. name_fits x low p (temp d) j (whole_place c k q p t.2) (depth d t.0))
  argument_fits d (slot.Address k q) _ f t = absurd t

  -- two indexes of an array
  indexes_fit : (d : ℕ) (p : Place) (row index : Expr) → FitsExpr c (suc d) index
      → Fits (expr_code x d row) → Fits (expr_code x (suc d) index)
      → Fits (joined_code x p d (expr_code x d row) (expr_code x (suc d) index))
  indexes_fit d p row index t u v =
      joined_code_fits x low p d (expr_code x d row) (expr_code x (suc d) index)
      (depth_fits c (suc d) index t) u v

  mutual
    -- the code of an expression that fits, fits
    pub expr_fits : (d : ℕ) (e : Expr) → FitsExpr c d e → Fits (expr_code x d e)
    expr_fits d (Number None w) t = absurd t
    expr_fits d (Number (Some k) w) t = word_fits (temp d) w (depth d t.0) t.1.below
    expr_fits d (Name None p) t = absurd t
    expr_fits d (Name (Some k) p) t = name_fits x low p (temp d) k (name_place c k p t.1) (depth d t.0)
    expr_fits d (Element k p index) t = joined (expr_fits d index t.1)
        (with_kind_fits k (element_code x p d)
        (λ j. element_fits x low p d j (element_place c k p t.0) (depth_fits c d index t.1)))
    expr_fits d (RowElement k p row index) t = joined
        (indexes_fit d p row index t.2 (expr_fits d row t.1) (expr_fits (suc d) index t.2))
        (with_kind_fits k (element_code x p d)
        (λ j. element_fits x low p d j (row_element_place c k p t.0) (depth_fits c d row t.1)))
    expr_fits d (Call k (callee.Func f) args) t =
        joined (args_fit d (take t.1.0.params t.1.0.scalars) args t.1.3)
        (called_fits k f d args t.1.0 t.1.1 t.1.3 t.0)
    expr_fits d (Call k callee.GetChar args) t = joined
        (subst (λ es. Fits (args_code x d es)) (sym t.1.1) nothing_fits)
        (single_fits (Get (temp d)) (depth d t.0))
    expr_fits d (Call k callee.PutChar args) t =
        joined (one_fits d args t.1.1) (byte_out_fits k d args t.0)
    expr_fits d (Call k callee.Exit args) t = joined
        (args_fit d (slot.Scalar Long ∷ []) args t.1.1)
        (single_fits (flat.Halt (Var (temp d))) (depth d t.0))
    expr_fits d (Unary k o e) t = joined (expr_fits d e t.0)
        (with_kind_fits (kind_of e) (λ j. unary_code o j (temp d))
        (λ j. unary_fits o j (temp d) (depth d (depth_fits c d e t.0))))
    expr_fits d (Cast k to e) t = joined (expr_fits d e t.0)
        (converted_here_fits (kind_of e) to (temp d) (depth d (depth_fits c d e t.0)))
    expr_fits d (Convert k to e) t = joined (expr_fits d e t.0)
        (converted_here_fits (kind_of e) to (temp d) (depth d (depth_fits c d e t.0)))
    expr_fits d (Bump k o e) t = joined (index_fits d k e t)
        (with_kind_fits (kind_of e) (bump_code x o d e)
        (λ j. bump_fits x low o d e j (side_place c d k e t) (left_depth c d k e t)))
    expr_fits d (Binary k o l r) t = joined (expr_fits d l t.0)
        (binary_end_fits o (kind_of l) d (immediate_for o (kind_of l) r) (expr_code x (operand_at o d) r)
        (depth_fits c d l t.0) (depth_fits c (operand_at o d) r t.1) (immediate_small o (kind_of l) r)
        (expr_fits (operand_at o d) r t.1))
    expr_fits d (Choice k b one other) t = joined (expr_fits d b t.0)
        (if_fits (Var (temp d)) (expr_code x d one) (expr_code x d other)
        (depth d (depth_fits c d b t.0)) (expr_fits d one t.1) (expr_fits d other t.2))
    expr_fits d (Assign k o at l r) t =
        let h = depth_fits c (right_at o d l) r t.1 in
        let s = side_place c d k l t.0 in
        joined (index_fits d k l t.0)
        (joined (with_kind_fits (kind_of l) (before_right x o at d l)
        (λ j. before_fits x low o at d l j s h))
        (joined (expr_fits (right_at o d l) r t.1)
        (with_kind_fits (kind_of l) (after_right x o at d l) (λ j. after_fits x low o at d l j s h))))
    expr_fits d (Comma k l r) t = joined (expr_fits d l t.0) (expr_fits d r t.1)

    index_fits : (d : ℕ) (k : Option Kind) (e : Expr) → FitsLeft c d k e → Fits (index_code x d e)
    index_fits d k (Element j p index) t = expr_fits d index t.2
    index_fits d k (RowElement j p row index) t =
        indexes_fit d p row index t.3 (expr_fits d row t.2) (expr_fits (suc d) index t.3)
    index_fits d k _ t = nothing_fits

    one_fits : (d : ℕ) (es : Exprs) → FitsOne c d es → Fits (args_code x d es)
    one_fits d NoExprs t = absurd t
    one_fits d (WithExpr e rest) t = joined (expr_fits d e t.0)
        (subst (λ es. Fits (args_code x (suc d) es)) (sym t.1) nothing_fits)

    args_fit : (d : ℕ) (ss : List Slot) (es : Exprs) → FitsArgs c d ss es → Fits (args_code x d es)
    args_fit d [] NoExprs t = nothing_fits
    args_fit d [] (WithExpr e rest) t = absurd t
    args_fit d (s ∷ ss) NoExprs t = absurd t
    args_fit d (s ∷ ss) (WithExpr e rest) t =
        joined (argument_fits d s e (λ u. expr_fits d e u) t.0) (args_fit (suc d) ss rest t.1)
