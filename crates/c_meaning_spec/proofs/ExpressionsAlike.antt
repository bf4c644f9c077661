-- With its places an expression or a call is the same but for what is told.
use Rattle.std.proofs.Common.{◌≡◌, ℕ, ◌+◌, Bool, nat_le, nat_eq, length, List, [], ◌∷◌, Option}
use Rattle.std.proofs.Common.{Some, None, slice_get, refl}
use Rattle.c_tree.specs.declared.Kind.{Kind}
use Rattle.c_tree.specs.declared.BinaryOp.{BinaryOp}
use Rattle.c_tree.specs.declared.BinaryOp.TheVariants.{LogicalOr, LogicalAnd}
use Rattle.c_tree.specs.declared.BumpOp.{BumpOp}
use Rattle.c_tree.specs.declared.Place.{Place}
use Rattle.c_tree.specs.declared.Callee.{Callee}
use Rattle.c_tree.specs.declared.Callee.TheVariants.{Func, GetChar, PutChar, Exit}
use Rattle.c_tree.specs.declared.TypedExpr.{TypedExpr}
use Rattle.c_tree.specs.declared.TypedNode.TheOpen.{Number, Name, Element, Call, Unary, Cast, Convert}
use Rattle.c_tree.specs.declared.TypedNode.TheOpen.{Bump, Binary, Choice, Assign, Comma}
use Rattle.c_tree.specs.declared.TypedStmt.{TypedStmt}
use Rattle.c_tree.specs.declared.TypedFunc.{TypedFunc}
use Rattle.c_tree.specs.declared.TypedProgram.{TypedProgram}
use Rattle.c_meaning_spec.specs.declared.signal.Signal.{Signal}
use Rattle.c_meaning_spec.specs.declared.signal.Object.{Object}
use Rattle.c_meaning_spec.specs.State.{State, Result}
use Rattle.c_meaning_spec.specs.inside.State.{then}
use Rattle.c_meaning_spec.specs.Word.{is_false}
use Rattle.c_meaning_spec.specs.Task.{Task, Of, Run, Parts, scalar_of, after_row}
use Rattle.c_meaning_spec.specs.Call.{frame, entered, entered_if, enter, called, arguments}
use Rattle.c_tree.specs.Limits.{most_frame_bytes}
use Rattle.c_tree.specs.TypedTrees.{Node, node_of}
use Rattle.c_meaning_spec.specs.Expression.{after_left, after_and, after_or, binary, after_choice}
use Rattle.c_meaning_spec.specs.Expression.{after_comma, assign_to, assign_element, assign, bump}
use Rattle.c_meaning_spec.specs.Expression.{opened, node, expression, assign_row, assign_after_row}
use Rattle.c_meaning_spec.specs.Expression.{bump_after_row}
use Rattle.c_meaning_spec.specs.State.{Told}
use Rattle.c_meaning_spec.proofs.Alike.{Alike, a-assigned, a-bump_element, a-bump_object, a-bump_row, a-compounded}
use Rattle.c_meaning_spec.proofs.Alike.{a-cond, a-converting, a-element, a-element_of, a-exit, a-get_char}
use Rattle.c_meaning_spec.proofs.Alike.{a-go, a-held, a-name, a-operated, a-put_char, a-returned, a-row_element}
use Rattle.c_meaning_spec.proofs.Alike.{a-row_element_of, a-some, a-spend, a-then, a-truth, a-unary, a-undefined}
use Rattle.c_meaning_spec.proofs.Alike.{a-valued, a-want}

module _ (τ : Told) (rec rec' : Parts) (below : (t : Task) (s : State) → s.told ≡ τ
    → Alike τ (rec t s) (rec' t s)) where
  -- an expression and what follows it are alike where both are
  pub a-of : (e : TypedExpr) (s : State) (f f' : Signal → State → Result) → s.told ≡ τ
      → ((v : Signal) (s : State) → s.told ≡ τ → Alike τ (f v s) (f' v s))
      → Alike τ (then (rec (Of e) s) f) (then (rec' (Of e) s) f')
  a-of e s f f' h g = a-then τ _ _ f f' (below (Of e) s h) g

  -- a statement and what follows it are alike where both are
  pub a-run : (st : TypedStmt) (s : State) (f f' : Signal → State → Result) → s.told ≡ τ
      → ((v : Signal) (s : State) → s.told ≡ τ → Alike τ (f v s) (f' v s))
      → Alike τ (then (rec (Run st) s) f) (then (rec' (Run st) s) f')
  a-run st s f f' h g = a-then τ _ _ f f' (below (Run st) s h) g

  -- CALLS

  a-entered_if : (is_main fits : Bool) (f : TypedFunc) (done : List ℕ) (s : State) → s.told ≡ τ
      → Alike τ (entered_if rec is_main fits f done s)
      (entered_if rec' is_main fits f done s)
  a-entered_if is_main fits f done s h =
      a-cond τ fits _ _ _ _
      (a-run f.body (entered f done s) _ _ h (λ v u k. a-returned τ is_main v _ k))
      (record { likes = (refl, h) })

  a-enter : (is_main : Bool) (f : Option TypedFunc) (done : List ℕ) (s : State) → s.told ≡ τ
      → Alike τ (enter rec is_main f done s) (enter rec' is_main f done s)
  a-enter is_main None done s h = a-undefined τ s h
  a-enter is_main (Some f) done s h =
      a-cond τ (nat_eq (length done) f.params) _ _ _ _
      (a-entered_if is_main (nat_le (s.room + frame f) most_frame_bytes) f done s h)
      (a-undefined τ s h)

  -- a call of what is called is alike where its parts are
  pub a-called : (P : TypedProgram) (f : Callee) (done : List ℕ) (s : State) → s.told ≡ τ
      → Alike τ (called rec P f done s) (called rec' P f done s)
  a-called P (Func f) done s h =
      a-spend τ s _ _ h (λ s h. a-enter (nat_eq f P.main) (slice_get P.functions f) done s h)
  a-called P GetChar done s h = a-spend τ s _ _ h (λ s h. a-get_char τ done s h)
  a-called P PutChar done s h = a-spend τ s _ _ h (λ s h. a-put_char τ done s h)
  a-called P Exit done s h = a-spend τ s _ _ h (λ s h. a-exit τ done s h)

  a-arguments : (P : TypedProgram) (f : Callee) (es : List TypedExpr) (done : List ℕ) (s : State)
      → s.told ≡ τ → Alike τ (arguments rec P f es done s) (arguments rec' P f es done s)
  a-arguments P f [] done s h = a-called P f done s h
  a-arguments P f (e ∷ es) done s h =
      a-of e s _ _ h (λ v s h. a-want τ v s _ _ h (λ w. a-arguments P f es _ s h))

  -- EXPRESSIONS

  a-after_left : (op : BinaryOp) (k : Option Kind) (r : TypedExpr) (v : Signal) (s : State)
      → s.told ≡ τ → Alike τ (after_left rec op k r v s) (after_left rec' op k r v s)
  a-after_left op k r v s h =
      a-want τ v s _ _ h (λ a. a-of r s _ _ h (a-operated τ op k a))

  a-after_and : (r : TypedExpr) (v : Signal) (s : State) → s.told ≡ τ
      → Alike τ (after_and rec r v s) (after_and rec' r v s)
  a-after_and r v s h =
      a-want τ v s _ _ h (λ w. a-cond τ (is_false w) _ _ _ _ (a-go τ _ s h)
      (a-of r s _ _ h (a-truth τ)))

  a-after_or : (r : TypedExpr) (v : Signal) (s : State) → s.told ≡ τ
      → Alike τ (after_or rec r v s) (after_or rec' r v s)
  a-after_or r v s h =
      a-want τ v s _ _ h (λ w. a-cond τ (is_false w) _ _ _ _
      (a-of r s _ _ h (a-truth τ)) (a-go τ _ s h))

  a-binary : (op : BinaryOp) (l r : TypedExpr) (s : State) → s.told ≡ τ
      → Alike τ (binary rec op l r s) (binary rec' op l r s)
  a-binary LogicalAnd l r s h = a-of l s _ _ h (a-after_and r)
  a-binary LogicalOr l r s h = a-of l s _ _ h (a-after_or r)
  a-binary _ l r s h = a-of l s _ _ h (a-after_left _ l.kind r)

  a-after_choice : (a b : TypedExpr) (v : Signal) (s : State) → s.told ≡ τ
      → Alike τ (after_choice rec a b v s) (after_choice rec' a b v s)
  a-after_choice a b v s h =
      a-want τ v s _ _ h (λ w. a-cond τ (is_false w) _ _ _ _
      (a-of b s _ _ h (a-valued τ))
      (a-of a s _ _ h (a-valued τ)))

  a-after_comma : (r : TypedExpr) (v : Signal) (s : State) → s.told ≡ τ
      → Alike τ (after_comma rec r v s) (after_comma rec' r v s)
  a-after_comma r v s h = a-of r s _ _ h (a-valued τ)

  a-assign_to : (op : Option BinaryOp) (to : Option Kind) (at : Kind) (r : TypedExpr) (s : State)
      (x : Object) → s.told ≡ τ → Alike τ (assign_to rec op to at r s x)
      (assign_to rec' op to at r s x)
  a-assign_to None to at r s x h = a-of r s _ _ h (a-assigned τ x)
  a-assign_to (Some op) to at r s x h =
      a-held τ x s _ _ h (λ old. a-of r s _ _ h (a-compounded τ op to at x old))

  a-assign_element : (op : Option BinaryOp) (to : Option Kind) (at : Kind) (p : Place)
      (r : TypedExpr) (v : Signal) (s : State) → s.told ≡ τ
      → Alike τ (assign_element rec op to at p r v s) (assign_element rec' op to at p r v s)
  a-assign_element op to at p r v s h =
      a-want τ v s _ _ h (λ w. a-element_of τ p w s _ _ h (λ x. a-assign_to op to at r s x h))

  a-assign_row : (op : Option BinaryOp) (to : Option Kind) (at : Kind) (p : Place) (i : ℕ)
      (r : TypedExpr) (v : Signal) (s : State) → s.told ≡ τ
      → Alike τ (assign_row rec op to at p i r v s) (assign_row rec' op to at p i r v s)
  a-assign_row op to at p i r v s h =
      a-want τ v s _ _ h (λ j. a-row_element_of τ p i j s _ _ h (λ x. a-assign_to op to at r s x h))

  a-assign_after_row : (op : Option BinaryOp) (to : Option Kind) (at : Kind) (p : Place)
      (index r : TypedExpr) (v : Signal) (s : State) → s.told ≡ τ
      → Alike τ (assign_after_row rec op to at p index r v s)
      (assign_after_row rec' op to at p index r v s)
  a-assign_after_row op to at p index r v s h =
      a-want τ v s _ _ h (λ i. a-of index s _ _ h (a-assign_row op to at p i r))

  a-assign : (op : Option BinaryOp) (to : Option Kind) (at : Kind) (l : Node) (r : TypedExpr)
      (s : State) → s.told ≡ τ → Alike τ (assign rec op to at l r s)
      (assign rec' op to at l r s)
  a-assign op to at (Name p) r s h = a-some τ (scalar_of p) _ s _ _ h
      (λ x. a-assign_to op to at r s x h)
  a-assign op to at (Element p None index) r s h =
      a-of index s _ _ h (a-assign_element op to at p r)
  a-assign op to at (Element p (Some row) index) r s h =
      a-of row s _ _ h (a-assign_after_row op to at p index r)
  a-assign op to at _ r s h = a-undefined τ s h

  a-bump_after_row : (op : BumpOp) (k : Option Kind) (p : Place) (index : TypedExpr) (v : Signal)
      (s : State) → s.told ≡ τ → Alike τ (bump_after_row rec op k p index v s)
      (bump_after_row rec' op k p index v s)
  a-bump_after_row op k p index v s h =
      a-want τ v s _ _ h (λ i. a-of index s _ _ h (a-bump_row τ op k p i))

  a-bump : (op : BumpOp) (k : Option Kind) (l : Node) (s : State) → s.told ≡ τ
      → Alike τ (bump rec op k l s) (bump rec' op k l s)
  a-bump op k (Name p) s h = a-some τ (scalar_of p) _ s _ _ h (λ x. a-bump_object τ op k s x h)
  a-bump op k (Element p None index) s h = a-of index s _ _ h (a-bump_element τ op k p)
  a-bump op k (Element p (Some row) index) s h = a-of row s _ _ h (a-bump_after_row op k p index)
  a-bump op k _ s h = a-undefined τ s h

  a-after_row : (p : Place) (index : TypedExpr) (v : Signal) (s : State) → s.told ≡ τ
      → Alike τ (after_row rec p index v s) (after_row rec' p index v s)
  a-after_row p index v s h =
      a-want τ v s _ _ h (λ i. a-of index s _ _ h (a-row_element τ p i))

  a-opened : (P : TypedProgram) (e : Node) (s : State) → s.told ≡ τ
      → Alike τ (opened rec P e s) (opened rec' P e s)
  a-opened P (Number w) s h = a-go τ _ s h
  a-opened P (Name p) s h = a-name τ P p s h
  a-opened P (Element p None i) s h = a-of i s _ _ h (a-element τ p)
  a-opened P (Element p (Some row) i) s h = a-of row s _ _ h (a-after_row p i)
  a-opened P (Call f args) s h = a-arguments P f args [] s h
  a-opened P (Unary op e) s h = a-of e s _ _ h (a-unary τ op e.kind)
  a-opened P (Cast to e) s h = a-of e s _ _ h (a-converting τ to)
  a-opened P (Convert to e) s h = a-undefined τ s h
  a-opened P (Bump op e) s h = a-bump op e.kind (node_of e) s h
  a-opened P (Binary op l r) s h = a-binary op l r s h
  a-opened P (Choice t a b) s h = a-of t s _ _ h (a-after_choice a b)
  a-opened P (Assign op at l r) s h = a-assign op l.kind at (node_of l) r s h
  a-opened P (Comma l r) s h = a-of l s _ _ h (a-after_comma r)

  a-node : (P : TypedProgram) (e : Node) (s : State) → s.told ≡ τ
      → Alike τ (node rec P e s) (node rec' P e s)
  a-node P e s h = a-spend τ s _ _ h (λ s h. a-opened P e s h)

  -- an expression is alike where its parts are
  pub a-expression : (P : TypedProgram) (e : Node) (s : State) → s.told ≡ τ
      → Alike τ (expression rec P e s) (expression rec' P e s)
  a-expression P (Convert to e) s h =
      a-then τ _ _ _ _ (a-node P (node_of e) s h) (a-converting τ to)
  a-expression P e s h = a-node P e s h
