-- Well formed expressions are as the lowering takes them.
use Rattle.std.proofs.Common.{◌≡◌, ℕ, suc, ◌+◌, ◌<◌, ◌≤◌, List, [], ◌∷◌, map, Option, Some, None}
use Rattle.std.proofs.Common.{refl, sym, ap, ◌∙◌, subst, arith}
use Rattle.c_tree.specs.declared.Kind.{Kind}
use Rattle.c_tree.specs.declared.Kind.TheVariants.{Int}
use Rattle.c_tree.specs.declared.BinaryOp.{BinaryOp}
use Rattle.c_tree.specs.declared.Callee.{Callee}
use Rattle.c_tree.specs.declared.Callee.TheVariants as callee
use Rattle.c_tree.specs.declared.Slot.{Slot}
use Rattle.c_tree.specs.declared.Slot.TheVariants as slot
use Rattle.c_tree.specs.declared.TypedExpr.{TypedExpr}
use Rattle.c_tree.specs.declared.TypedNode.TheOpen as node
use Rattle.c_tree.specs.declared.TypedFunc.{TypedFunc}
use Rattle.c_tree.specs.declared.TypedProgram.{TypedProgram}
use Rattle.c_constant.specs.Need.{Needs, args_need, call_need, assign_need, indexes_need}
use Rattle.c_type_rules.specs.inside.Objects.{Signature, signature, signature_of}
use Rattle.c_tree.specs.TypedTrees.{Node, node_of}
use Rattle.c_type_rules.specs.inside.Expressions.{Gives, Has, IsObject, Passes}
use Rattle.c_type_rules.specs.inside.Expressions as rule
use Rattle.c_type_rules.specs.inside.Needs.{typed_needs}
use Rattle.c_type_rules.specs.inside.WellFormed.{Each, GlobalFits}
use Rattle.c_type_rules.proofs.Moves.{some_is}
use Rattle.flat_lower_premises.specs.inside.TypedTrees.{NodeHasWords, ExprsHaveWords}
use Rattle.flat_lower_premises.specs.inside.TypedTrees as word
use Rattle.flat_lower.specs.inside.Tree.{Expr, Number, Name, Element, Call, Unary, Cast, Convert, Bump}
use Rattle.flat_lower.specs.inside.Tree.{RowElement, Binary, Choice, Assign, Comma, Exprs, NoExprs, WithExpr, kind_of}
use Rattle.flat_lower.specs.inside.TreeViews.{expr_of, exprs_of, func_of}
use Rattle.flat_lower.specs.inside.Expressions.{operand_at, right_at}
use Rattle.flat_lower.specs.inside.Fits.{Scope, FitsBinary, FitsUnary, FitsCompound, FitsCall, FitsArg}
use Rattle.flat_lower.specs.inside.Fits.{FitsExpr, FitsLeft, FitsOne, FitsArgs}
use Rattle.flat_lower.proofs.TreeFacts.{plain_node, expr_is, kind_is}
use Rattle.flat_lower.proofs.Depths.{depth_fits}
use Rattle.flat_lower.proofs.Calls.{func_at}
use Rattle.flat_lower_premises.proofs.NodeNeeds.{need, level_needs, binary_left, binary_right}
use Rattle.flat_lower_premises.proofs.NodeNeeds.{row_first, row_second, choice_test, choice_one}
use Rattle.flat_lower_premises.proofs.NodeNeeds.{choice_other, comma_left}
use Rattle.flat_lower_premises.proofs.NodeNeeds.{comma_right, Room, assign_room, arg_room, args_room}
use Rattle.flat_lower_premises.proofs.Agrees.{unary_agrees, binary_agrees, compound_agrees}
use Rattle.flat_lower_premises.proofs.Named.{scope, scalar_fits, array_fits, found_by}
use Rattle.flat_lower_premises.proofs.ByNodes.{at_level, needs_at, room_at, assign_at, index_at}
use Rattle.flat_lower_premises.proofs.ByNodes.{words_at, index_words}
use Rattle.flat_lower_premises.proofs.ByNodes.{row_words, converted_words, call_room, right_named}
use Rattle.flat_lower_premises.proofs.ByNodes.{right_indexed, right_row}

module _ (P : TypedProgram) (f : TypedFunc) (globals : Each GlobalFits P.globals) where
  abbrev c : Scope
  c = scope P f

  -- OBJECTS

  bump_room : (k : Kind) (e : TypedExpr) (d : ℕ) → IsObject P f k e → d + need e ≤ 16
      → Room d (typed_needs e).index
  bump_room _ _ d (rule.named {k = k} {e = e} {p = p} q n s) l =
      let r : d + 1 ≤ 16 = room_at e (node.Name p) d n l in
      let t : Room d None = omega (arith, r) in
      subst (λ (s : Needs). Room d s.index) (sym (needs_at e (node.Name p) n)) t
  bump_room _ _ d (rule.indexed {k = k} {e = e} {i = i} {p = p} q n s v) l =
      let r : Room d (Some (need i)) = room_at e (node.Element p None i) d n l in
      subst (λ (s : Needs). Room d s.index) (sym (needs_at e (node.Element p None i) n)) r
  bump_room _ _ d (rule.row_indexed {k = k} {e = e} {x = x} {y = y} {p = p} q n s v u) l =
      let r : Room d (Some (indexes_need (Some (need x)) (need y))) = room_at e (node.Element p (Some x) y) d n l in
      subst (λ (s : Needs). Room d s.index) (sym (needs_at e (node.Element p (Some x) y) n)) r

  right_room : (o : Option BinaryOp) (k : Kind) (e : TypedExpr) (d m : ℕ) → IsObject P f k e
      → d + assign_need (typed_needs e).index m ≤ 16 → right_at o d (expr_of e) + m ≤ 16
  right_room o _ _ d m (rule.named {k = k} {e = e} {p = p} q n s) l =
      let r = assign_at e (node.Name p) d m n l in
      subst (λ x. right_at o d x + m ≤ 16) (sym (at_level e (Some k) (node.Name p) q n))
      (right_named o (Some k) p d m r)
  right_room o _ _ d m (rule.indexed {k = k} {e = e} {i = i} {p = p} q n s v) l =
      let r = assign_at e (node.Element p None i) d m n l in
      subst (λ x. right_at o d x + m ≤ 16) (sym (at_level e (Some k) (node.Element p None i) q n))
      (right_indexed o (Some k) p (expr_of i) d (need i) m r)
  right_room o _ _ d m (rule.row_indexed {k = k} {e = e} {x = x} {y = y} {p = p} q n s v u) l =
      let r = assign_at e (node.Element p (Some x) y) d m n l in
      subst (λ x. right_at o d x + m ≤ 16) (sym (at_level e (Some k) (node.Element p (Some x) y) q n))
      (right_row o (Some k) p (expr_of x) (expr_of y) d (indexes_need (Some (need x)) (need y)) m r)

  -- CALLS

  no_args : (d : ℕ) (es : Exprs) → FitsArgs c d [] es → es ≡ NoExprs
  no_args d NoExprs t = refl
  no_args d (WithExpr e rest) t = absurd t

  one_arg : (d : ℕ) (es : Exprs) → FitsArgs c d (slot.Scalar Int ∷ []) es → FitsOne c d es
  one_arg d NoExprs t = absurd t
  one_arg d (WithExpr e rest) t = (t.0.0, no_args (suc d) rest t.1)

  call_fits : (r : Option Kind) (slots : List Slot) (x : Callee) (es : Exprs) (d : ℕ)
      → signature_of P x ≡ Some (signature r slots) → FitsArgs c d slots es
      → FitsCall c r x (λ slots. FitsArgs c d slots es) (FitsOne c d es) es
  call_fits r slots (callee.Func n) es d s a =
      let x = found_by P n r slots s in (
        func_of x.function,
        func_at P.functions n x.function x.is,
        x.result,
        subst (λ s. FitsArgs c d s es) x.params a,
      )
  call_fits r slots callee.GetChar es d s a =
      let is = some_is _ _ s in
      let none = subst (λ s. FitsArgs c d s es) (sym (ap (λ (s : Signature). s.params) is)) a in
      (sym (ap (λ (s : Signature). s.result) is), no_args d es none)
  call_fits r slots callee.PutChar es d s a =
      let is = some_is _ _ s in
      let one = subst (λ s. FitsArgs c d s es) (sym (ap (λ (s : Signature). s.params) is)) a in
      (sym (ap (λ (s : Signature). s.result) is), one_arg d es one)
  call_fits r slots callee.Exit es d s a =
      let is = some_is _ _ s in (
        sym (ap (λ (s : Signature). s.result) is),
        subst (λ s. FitsArgs c d s es) (sym (ap (λ (s : Signature). s.params) is)) a,
      )

  -- the first argument has a temporary, or else the result has
  address_depth : (d : ℕ) (k : Kind) (q : Option ℕ) (fits : Type 0) (x : Expr)
      → FitsArg c d (slot.Address k q) fits x
      → d < 16
  address_depth d k q fits (Name j p) t = t.0
  address_depth d k q fits (Number j w) t = absurd t
  address_depth d k q fits (Element j p i) t = absurd t
  address_depth d k q fits (RowElement j p x i) t = absurd t
  address_depth d k q fits (Call j g args) t = absurd t
  address_depth d k q fits (Unary j o e) t = absurd t
  address_depth d k q fits (Cast j to e) t = absurd t
  address_depth d k q fits (Convert j to e) t = absurd t
  address_depth d k q fits (Bump j o e) t = absurd t
  address_depth d k q fits (Binary j o l r) t = absurd t
  address_depth d k q fits (Choice j x y z) t = absurd t
  address_depth d k q fits (Assign j o at l r) t = absurd t
  address_depth d k q fits (Comma j l r) t = absurd t

  call_depth : (d : ℕ) (slots : List Slot) (es : List TypedExpr)
      → FitsArgs c d slots (exprs_of (map expr_of es)) → d + call_need (map typed_needs es) ≤ 16
      → d < 16
  call_depth d slots [] t l = omega (arith, l)
  call_depth d [] (e ∷ es) t l = absurd t
  call_depth d (slot.Scalar k ∷ slots) (e ∷ es) t l = depth_fits c d (expr_of e) t.0.0
  call_depth d (slot.Address k q ∷ slots) (e ∷ es) t l =
      address_depth d k q (FitsExpr c d (expr_of e)) (expr_of e) t.0

  -- EXPRESSIONS

  -- the expression fits, and has the type
  pub record IsFit (d : ℕ) (k : Kind) (e : TypedExpr) : Type 0 where
    pub fits : FitsExpr c d (expr_of e)
    pub kind : kind_of (expr_of e) ≡ Some k

  mutual
    -- a node fits, where the temporaries from d on suffice
    fits : (k : Option Kind) (x : Node) (d : ℕ) → Gives P f k x → NodeHasWords k x
        → d + (level_needs x).need ≤ 16 → FitsExpr c d (plain_node x k)
    fits _ _ d (rule.number {k = k} {w = w}) (word.number h) l = (omega (arith, l), h)
    fits _ _ d (rule.scalar {k = k} {p = p} s) w l = (omega (arith, l), scalar_fits P f globals k p s)
    fits _ _ d (rule.element {k = k} {j = j} {p = p} {i = i} s v) (word.element w) l =
        (array_fits P f k None p s, (has j i d v w l).fits)
    fits _ _ d (rule.row_element {k = k} {i = i} {j = j} {n = n} {p = p} {x = x} {y = y} s v u)
        (word.row_element wx wy) l = (
          (n, array_fits P f k (Some n) p s),
          (has i x d v wx (row_first d (need x) (need y) l)).fits,
          (has j y (suc d) u wy (row_second d (need x) (need y) l)).fits,
        )
    fits _ _ d (rule.call {r = r} {slots = slots} {c = x} {es = es} s p) (word.call w) l =
        let ns = map typed_needs es in
        let a = args slots es d 0 d p w (omega arith) (call_room d ns l) in
        (call_depth d slots es a l, call_fits r slots x (exprs_of (map expr_of es)) d s a)
    fits _ _ d (rule.unary {op = o} {j = j} {k = k} {e = e} v u q) (word.operator w) l =
        let x = has j e d v w l in
        (x.fits, subst (λ j. FitsUnary o j k) (sym x.kind) (unary_agrees o j k u q))
    fits _ _ d (rule.cast {j = j} {k = k} {e = e} v) (word.cast w) l =
        ((has j e d v w l).fits, refl)
    fits _ _ d (rule.bump {op = o} {k = k} {e = e} v) (word.step w) l =
        left k e d v w (bump_room k e d v l)
    fits _ _ d (rule.binary {op = o} {i = i} {j = j} {k = k} {x = x} {y = y} v u p q r)
        (word.operation wx wy) l =
        let a = has i x d v wx (binary_left d (need x) (need y) l) in
        let b = has j y (operand_at o d) u wy (binary_right o d (need x) (need y) l) in
        let agree = binary_agrees o i j k p q r in (
          a.fits,
          b.fits,
          subst (λ s. FitsBinary o s (kind_of (expr_of y)) k) (sym a.kind)
              (subst (λ t. FitsBinary o (Some i) t k) (sym b.kind) agree),
        )
    fits _ _ d (rule.choice {j = j} {k = k} {t = t} {x = x} {y = y} v u z q)
        (word.either wt wx wy) l =
        let a = has j t d v wt (choice_test d (need t) (need x) (need y) l) in
        let b = has k x d u wx (choice_one d (need t) (need x) (need y) l) in
        let e = has k y d z wy (choice_other d (need t) (need x) (need y) l) in
        (a.fits, b.fits, e.fits, b.kind, e.kind)
    fits _ _ d (rule.assign {k = k} {x = x} {y = y} v u) (word.assignment o wx wy) l =
        let a = left k x d v wx (assign_room d (typed_needs x).index (need y) l) in
        let b = has k y (right_at None d (expr_of x)) u wy (right_room None k x d (need y) v l) in
        (a, b.fits, b.kind)
    fits _ _ d (rule.compound {op = o} {k = k} {j = j} {at = at} {x = x} {y = y} v u p q)
        (word.assignment s wx wy) l =
        let a = left k x d v wx (assign_room d (typed_needs x).index (need y) l) in
        let t = right_at (Some o) d (expr_of x) in
        let b = has j y t u wy (right_room (Some o) k x d (need y) v l) in (
          a,
          b.fits,
          subst (λ t. FitsCompound (Some o) at k t) (sym b.kind) (compound_agrees o k j at s p q),
        )
    fits _ _ d (rule.comma {k = k} {x = x} {y = y} g u) (word.sequence wx wy) l =
        let lx = comma_left d (need x) (need y) l in
        let t = fits x.kind (node_of x) d g wx (room_at x (node_of x) d refl lx) in
        let a = subst (FitsExpr c d) (sym (expr_is x)) t in
        let b = has k y d u wy (comma_right d (need x) (need y) l) in
        (a, b.fits, b.kind)

    -- an expression that has a value
    pub has : (k : Kind) (e : TypedExpr) (d : ℕ) → Has P f k e → NodeHasWords e.kind (node_of e)
        → d + need e ≤ 16 → IsFit d k e
    has _ _ d (rule.itself {k = k} {e = e} q g) w l =
        let t = fits (Some k) (node_of e) d g (words_at e (Some k) (node_of e) q refl w)
        (room_at e (node_of e) d refl l) in
        record {
          fits = subst (FitsExpr c d) (sym (at_level e (Some k) (node_of e) q refl)) t;
          kind = kind_is e ∙ q;
        }
    has _ _ d (rule.converted {j = j} {k = k} {e = e} {i = i} q n r s g) w l =
        let wi = converted_words (Some k) k i (words_at e (Some k) (node.Convert k i) q n w) in
        let li : d + need i ≤ 16 = room_at e (node.Convert k i) d n l in
        let t = fits (Some j) (node_of i) d g (words_at i (Some j) (node_of i) r refl wi)
        (room_at i (node_of i) d refl li) in
        let inner = subst (FitsExpr c d) (sym (at_level i (Some j) (node_of i) r refl)) t in
        record {
          fits = subst (FitsExpr c d) (sym (at_level e (Some k) (node.Convert k i) q n))
              (inner, refl);
          kind = kind_is e ∙ q;
        }

    -- a left side
    left : (k : Kind) (e : TypedExpr) (d : ℕ) → IsObject P f k e → NodeHasWords e.kind (node_of e)
        → Room d (typed_needs e).index → FitsLeft c d (Some k) (expr_of e)
    left _ _ d (rule.named {k = k} {e = e} {p = p} q n s) w r =
        let room : Room d None = index_at e (node.Name p) d n r in
        subst (FitsLeft c d (Some k)) (sym (at_level e (Some k) (node.Name p) q n))
        (refl, (room, scalar_fits P f globals k p s))
    left _ _ d (rule.indexed {k = k} {j = j} {e = e} {i = i} {p = p} q n s v) w r =
        let room : Room d (Some (need i)) = index_at e (node.Element p None i) d n r in
        let wi = index_words (Some k) p i (words_at e (Some k) (node.Element p None i) q n w) in
        subst (FitsLeft c d (Some k)) (sym (at_level e (Some k) (node.Element p None i) q n))
        (refl, array_fits P f k None p s, (has j i d v wi room).fits)
    left _ _ d (rule.row_indexed {k = k} {i = i} {j = j} {n = m} {e = e} {x = x} {y = y} {p = p} q n s v u) w r =
        let room : Room d (Some (indexes_need (Some (need x)) (need y))) =
        index_at e (node.Element p (Some x) y) d n r in
        let wi = row_words (Some k) p x y (words_at e (Some k) (node.Element p (Some x) y) q n w) in
        subst (FitsLeft c d (Some k)) (sym (at_level e (Some k) (node.Element p (Some x) y) q n)) (
          refl,
          (m, array_fits P f k (Some m) p s),
          (has i x d v wi.0 (row_first d (need x) (need y) room)).fits,
          (has j y (suc d) u wi.1 (row_second d (need x) (need y) room)).fits,
        )

    -- arguments, from number i on
    args : (slots : List Slot) (es : List TypedExpr) (d i t : ℕ) → Passes P f slots es
        → ExprsHaveWords es → t ≡ d + i → d + args_need i (map typed_needs es) ≤ 16
        → FitsArgs c t slots (exprs_of (map expr_of es))
    args _ _ d i t rule.end w q l = tt
    args _ _ d i t (rule.value {k = k} {slots = slots} {e = e} {es = es} v p)
        (word.one_expr w ws) q l =
        let m = args_need (i + 1) (map typed_needs es) in
        let x = has k e t v w (arg_room d i t (need e) m q l) in (
          (x.fits, x.kind),
          args slots es d (i + 1) (suc t) p ws (omega (arith, q)) (args_room d i (need e) m l),
        )
    args _ _ d i t (rule.address {k = k} {q = row} {p = p} {slots = slots} {e = e} {es = es} h n s ps)
        (word.one_expr w ws) q l =
        let m = args_need (i + 1) (map typed_needs es) in
        let r : t + 1 ≤ 16 = room_at e (node.Name p) t n (arg_room d i t (need e) m q l) in (
          subst (λ x. FitsArg c t (slot.Address k row) (FitsExpr c t x) x)
              (sym (at_level e (Some k) (node.Name p) h n))
              (omega (arith, r), refl, array_fits P f k row p s),
          args slots es d (i + 1) (suc t) ps ws (omega (arith, q)) (args_room d i (need e) m l),
        )

  -- an expression that gives a value or none
  pub whole : (e : TypedExpr) (d : ℕ) → Gives P f e.kind (node_of e)
      → NodeHasWords e.kind (node_of e) → d + need e ≤ 16 → FitsExpr c d (expr_of e)
  whole e d g w l =
      subst (FitsExpr c d) (sym (expr_is e))
      (fits e.kind (node_of e) d g w (room_at e (node_of e) d refl l))
