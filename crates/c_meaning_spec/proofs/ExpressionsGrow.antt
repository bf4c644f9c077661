-- With more steps an expression and a call have the same result, or put out no less.
use Rattle.std.proofs.Common.{ℕ, ◌+◌, ◌<◌, ◌≤◌, Bool, nat_le, nat_eq, length, List, [], ◌∷◌, Option}
use Rattle.std.proofs.Common.{Some, None, slice_get, refl, arith}
use Rattle.c_tree.specs.declared.Kind.{Kind}
use Rattle.c_tree.specs.declared.BinaryOp.{BinaryOp}
use Rattle.c_tree.specs.declared.BinaryOp.TheVariants.{LogicalOr, LogicalAnd}
use Rattle.c_tree.specs.declared.BumpOp.{BumpOp}
use Rattle.c_tree.specs.declared.Place.{Place}
use Rattle.c_tree.specs.declared.Callee.{Callee}
use Rattle.c_tree.specs.declared.Callee.TheVariants.{Func, GetChar, PutChar, Exit}
use Rattle.c_tree.specs.declared.TypedExpr.{TypedExpr}
use Rattle.c_tree.specs.declared.TypedNode.TheOpen.{Number, Name, Element, Call, Unary, Cast, Convert}
use Rattle.c_tree.specs.declared.TypedNode.TheOpen.{Bump, Binary, Choice, Assign, Comma}
use Rattle.c_tree.specs.declared.TypedStmt.{TypedStmt}
use Rattle.c_tree.specs.declared.TypedFunc.{TypedFunc}
use Rattle.c_tree.specs.declared.TypedProgram.{TypedProgram}
use Rattle.c_meaning_spec.specs.declared.signal.Signal.{Signal}
use Rattle.c_meaning_spec.specs.declared.signal.Object.{Object}
use Rattle.c_meaning_spec.specs.State.{State, Result}
use Rattle.c_meaning_spec.specs.inside.State.{then}
use Rattle.c_meaning_spec.specs.Word.{is_false}
use Rattle.c_meaning_spec.specs.Task.{Task, Of, Run, Parts, scalar_of, after_row}
use Rattle.c_meaning_spec.specs.Call.{frame, entered, entered_if, enter, called, arguments}
use Rattle.c_tree.specs.Limits.{most_frame_bytes}
use Rattle.c_tree.specs.TypedTrees.{Node, node_of}
use Rattle.c_meaning_spec.specs.Expression.{after_left, after_and, after_or, binary, after_choice}
use Rattle.c_meaning_spec.specs.Expression.{after_comma, assign_to, assign_element, assign, bump}
use Rattle.c_meaning_spec.specs.Expression.{opened, node, expression, assign_row, assign_after_row}
use Rattle.c_meaning_spec.specs.Expression.{bump_after_row}
use Rattle.c_meaning_spec.proofs.Puts.{Puts, p-element, p-left, p-get_char, p-put_char, p-exit}
use Rattle.c_meaning_spec.proofs.Puts.{p-row_element}
use Rattle.c_meaning_spec.proofs.ExpressionsPut.{p-enter, p-argument, p-converting, p-unary, p-operated}
use Rattle.c_meaning_spec.proofs.ExpressionsPut.{p-after_left, p-truth, p-after_and, p-after_or}
use Rattle.c_meaning_spec.proofs.ExpressionsPut.{p-valued, p-after_choice, p-after_comma, p-assigned}
use Rattle.c_meaning_spec.proofs.ExpressionsPut.{p-compounded, p-after_row, p-assign_row}
use Rattle.c_meaning_spec.proofs.ExpressionsPut.{p-assign_after_row, p-bump_row, p-bump_after_row}
use Rattle.c_meaning_spec.proofs.ExpressionsPut.{p-assign_element, p-bump_element, p-opened}
use Rattle.c_meaning_spec.proofs.Grows.{more, Grew, g-converting, g-then, g-spend, g-unary, g-element}
use Rattle.c_meaning_spec.proofs.Grows.{g-name, g-undefined, g-go, g-row_element, g-want}
use Rattle.c_meaning_spec.proofs.Grows.{g-bump_element, g-bump_object, g-some, g-bump_row}
use Rattle.c_meaning_spec.proofs.Grows.{g-row_element_of, g-element_of, g-compounded, g-assigned}
use Rattle.c_meaning_spec.proofs.Grows.{g-held, g-valued, g-cond, g-truth, g-operated, g-put_char}
use Rattle.c_meaning_spec.proofs.Grows.{g-get_char, g-exit, g-returned}

-- where the parts grow below n steps

module _ (d n : ℕ) (rec rec' : Parts) (below : (t : Task) (s : State) → s.stock < n → Grew d n (rec t s)
    (rec' t (more d s))) (puts : (t : Task) (s : State) → Puts s.output s.stock (rec' t s)) where
  -- an expression and what follows it grow where both do
  pub g-of : (e : TypedExpr) (s : State) (f f' : Signal → State → Result) → s.stock < n
      → ((v : Signal) (s : State) → s.stock < n → Grew d n (f v s) (f' v (more d s)))
      → ((v : Signal) (u : State) → Puts u.output u.stock (f' v u))
      → Grew d n (then (rec (Of e) s) f) (then (rec' (Of e) (more d s)) f')
  g-of e s f f' h g p = g-then d n _ _ f f' (below (Of e) s h) g p

  -- a statement and what follows it grow where both do
  pub g-run : (st : TypedStmt) (s : State) (f f' : Signal → State → Result) → s.stock < n
      → ((v : Signal) (s : State) → s.stock < n → Grew d n (f v s) (f' v (more d s)))
      → ((v : Signal) (u : State) → Puts u.output u.stock (f' v u))
      → Grew d n (then (rec (Run st) s) f) (then (rec' (Run st) (more d s)) f')
  g-run st s f f' h g p = g-then d n _ _ f f' (below (Run st) s h) g p

  -- CALLS

  g-entered_if : (is_main fits : Bool) (f : TypedFunc) (done : List ℕ) (s : State) → s.stock < n
      → Grew d n (entered_if rec is_main fits f done s)
      (entered_if rec' is_main fits f done (more d s))
  g-entered_if is_main fits f done s h =
      g-cond d n fits _ _ _ _
      (g-run f.body (entered f done s) _ _ h (λ v u k. g-returned d n is_main v _ k)
      (p-left is_main s.scalars (length s.arrays) s.base s.room))
      (record { grows = refl })

  g-enter : (is_main : Bool) (f : Option TypedFunc) (done : List ℕ) (s : State) → s.stock < n
      → Grew d n (enter rec is_main f done s) (enter rec' is_main f done (more d s))
  g-enter is_main None done s h = g-undefined d n s
  g-enter is_main (Some f) done s h =
      g-cond d n (nat_eq (length done) f.params) _ _ _ _
      (g-entered_if is_main (nat_le (s.room + frame f) most_frame_bytes) f done s h)
      (g-undefined d n s)

  -- a call of what is called grows where its parts do
  pub g-called : (P : TypedProgram) (f : Callee) (done : List ℕ) (s : State) → s.stock ≤ n
      → Grew d n (called rec P f done s) (called rec' P f done (more d s))
  g-called P (Func f) done s h =
      g-spend d n s _ _ h (λ s h. g-enter (nat_eq f P.main) (slice_get P.functions f) done s h)
      (p-enter rec' puts (nat_eq f P.main) (slice_get P.functions f) done)
  g-called P GetChar done s h = g-spend d n s _ _ h (λ s h. g-get_char d n done s h)
      (p-get_char done)
  g-called P PutChar done s h = g-spend d n s _ _ h (λ s h. g-put_char d n done s h)
      (p-put_char done)
  g-called P Exit done s h = g-spend d n s _ _ h (λ s h. g-exit d n done s) (p-exit done)

  g-arguments : (P : TypedProgram) (f : Callee) (es : List TypedExpr) (done : List ℕ) (s : State)
      → s.stock < n → Grew d n (arguments rec P f es done s) (arguments rec' P f es done (more d s))
  g-arguments P f [] done s h = g-called P f done s (omega arith)
  g-arguments P f (e ∷ es) done s h =
      g-of e s _ _ h (λ v s h. g-want d n v s _ _ (λ w. g-arguments P f es _ s h))
      (p-argument rec' puts P f es done)

  -- EXPRESSIONS

  g-after_left : (op : BinaryOp) (k : Option Kind) (r : TypedExpr) (v : Signal) (s : State)
      → s.stock < n → Grew d n (after_left rec op k r v s) (after_left rec' op k r v (more d s))
  g-after_left op k r v s h =
      g-want d n v s _ _ (λ a. g-of r s _ _ h (g-operated d n op k a) (p-operated rec' puts op k a))

  g-after_and : (r : TypedExpr) (v : Signal) (s : State) → s.stock < n
      → Grew d n (after_and rec r v s) (after_and rec' r v (more d s))
  g-after_and r v s h =
      g-want d n v s _ _ (λ w. g-cond d n (is_false w) _ _ _ _ (g-go d n _ s h)
      (g-of r s _ _ h (g-truth d n) (p-truth rec' puts)))

  g-after_or : (r : TypedExpr) (v : Signal) (s : State) → s.stock < n
      → Grew d n (after_or rec r v s) (after_or rec' r v (more d s))
  g-after_or r v s h =
      g-want d n v s _ _ (λ w. g-cond d n (is_false w) _ _ _ _
      (g-of r s _ _ h (g-truth d n) (p-truth rec' puts)) (g-go d n _ s h))

  g-binary : (op : BinaryOp) (l r : TypedExpr) (s : State) → s.stock < n
      → Grew d n (binary rec op l r s) (binary rec' op l r (more d s))
  g-binary LogicalAnd l r s h = g-of l s _ _ h (g-after_and r) (p-after_and rec' puts r)
  g-binary LogicalOr l r s h = g-of l s _ _ h (g-after_or r) (p-after_or rec' puts r)
  g-binary _ l r s h = g-of l s _ _ h (g-after_left _ l.kind r) (p-after_left rec' puts _ l.kind r)

  g-after_choice : (a b : TypedExpr) (v : Signal) (s : State) → s.stock < n
      → Grew d n (after_choice rec a b v s) (after_choice rec' a b v (more d s))
  g-after_choice a b v s h =
      g-want d n v s _ _ (λ w. g-cond d n (is_false w) _ _ _ _
      (g-of b s _ _ h (g-valued d n) (p-valued rec' puts))
      (g-of a s _ _ h (g-valued d n) (p-valued rec' puts)))

  g-after_comma : (r : TypedExpr) (v : Signal) (s : State) → s.stock < n
      → Grew d n (after_comma rec r v s) (after_comma rec' r v (more d s))
  g-after_comma r v s h = g-of r s _ _ h (g-valued d n) (p-valued rec' puts)

  g-assign_to : (op : Option BinaryOp) (to : Option Kind) (at : Kind) (r : TypedExpr) (s : State)
      (x : Object) → s.stock < n → Grew d n (assign_to rec op to at r s x)
      (assign_to rec' op to at r (more d s) x)
  g-assign_to None to at r s x h = g-of r s _ _ h (g-assigned d n x) (p-assigned rec' puts x)
  g-assign_to (Some op) to at r s x h =
      g-held d n x s _ _ (λ old. g-of r s _ _ h (g-compounded d n op to at x old)
      (p-compounded rec' puts op to at x old))

  g-assign_element : (op : Option BinaryOp) (to : Option Kind) (at : Kind) (p : Place)
      (r : TypedExpr) (v : Signal) (s : State) → s.stock < n
      → Grew d n (assign_element rec op to at p r v s) (assign_element rec' op to at p r v (more d s))
  g-assign_element op to at p r v s h =
      g-want d n v s _ _ (λ w. g-element_of d n p w s _ _ (λ x. g-assign_to op to at r s x h))

  g-assign_row : (op : Option BinaryOp) (to : Option Kind) (at : Kind) (p : Place) (i : ℕ)
      (r : TypedExpr) (v : Signal) (s : State) → s.stock < n
      → Grew d n (assign_row rec op to at p i r v s) (assign_row rec' op to at p i r v (more d s))
  g-assign_row op to at p i r v s h =
      g-want d n v s _ _ (λ j. g-row_element_of d n p i j s _ _ (λ x. g-assign_to op to at r s x h))

  g-assign_after_row : (op : Option BinaryOp) (to : Option Kind) (at : Kind) (p : Place)
      (index r : TypedExpr) (v : Signal) (s : State) → s.stock < n
      → Grew d n (assign_after_row rec op to at p index r v s)
      (assign_after_row rec' op to at p index r v (more d s))
  g-assign_after_row op to at p index r v s h =
      g-want d n v s _ _ (λ i. g-of index s _ _ h (g-assign_row op to at p i r)
      (p-assign_row rec' puts op to at p i r))

  g-assign : (op : Option BinaryOp) (to : Option Kind) (at : Kind) (l : Node) (r : TypedExpr)
      (s : State) → s.stock < n → Grew d n (assign rec op to at l r s)
      (assign rec' op to at l r (more d s))
  g-assign op to at (Name p) r s h = g-some d n (scalar_of p) _ s _ _
      (λ x. g-assign_to op to at r s x h)
  g-assign op to at (Element p None index) r s h =
      g-of index s _ _ h (g-assign_element op to at p r) (p-assign_element rec' puts op to at p r)
  g-assign op to at (Element p (Some row) index) r s h =
      g-of row s _ _ h (g-assign_after_row op to at p index r)
      (p-assign_after_row rec' puts op to at p index r)
  g-assign op to at _ r s h = g-undefined d n s

  g-bump_after_row : (op : BumpOp) (k : Option Kind) (p : Place) (index : TypedExpr) (v : Signal)
      (s : State) → s.stock < n → Grew d n (bump_after_row rec op k p index v s)
      (bump_after_row rec' op k p index v (more d s))
  g-bump_after_row op k p index v s h =
      g-want d n v s _ _ (λ i. g-of index s _ _ h (g-bump_row d n op k p i)
      (p-bump_row rec' puts op k p i))

  g-bump : (op : BumpOp) (k : Option Kind) (l : Node) (s : State) → s.stock < n
      → Grew d n (bump rec op k l s) (bump rec' op k l (more d s))
  g-bump op k (Name p) s h = g-some d n (scalar_of p) _ s _ _ (λ x. g-bump_object d n op k s x h)
  g-bump op k (Element p None index) s h = g-of index s _ _ h (g-bump_element d n op k p)
      (p-bump_element rec' puts op k p)
  g-bump op k (Element p (Some row) index) s h = g-of row s _ _ h (g-bump_after_row op k p index)
      (p-bump_after_row rec' puts op k p index)
  g-bump op k _ s h = g-undefined d n s

  g-after_row : (p : Place) (index : TypedExpr) (v : Signal) (s : State) → s.stock < n
      → Grew d n (after_row rec p index v s) (after_row rec' p index v (more d s))
  g-after_row p index v s h =
      g-want d n v s _ _ (λ i. g-of index s _ _ h (g-row_element d n p i) (p-row_element p i))

  g-opened : (P : TypedProgram) (e : Node) (s : State) → s.stock < n
      → Grew d n (opened rec P e s) (opened rec' P e (more d s))
  g-opened P (Number w) s h = g-go d n _ s h
  g-opened P (Name p) s h = g-name d n P p s h
  g-opened P (Element p None i) s h = g-of i s _ _ h (g-element d n p) (p-element p)
  g-opened P (Element p (Some row) i) s h = g-of row s _ _ h (g-after_row p i)
      (p-after_row rec' puts p i)
  g-opened P (Call f args) s h = g-arguments P f args [] s h
  g-opened P (Unary op e) s h = g-of e s _ _ h (g-unary d n op e.kind) (p-unary rec' puts op e.kind)
  g-opened P (Cast to e) s h = g-of e s _ _ h (g-converting d n to) (p-converting rec' puts to)
  g-opened P (Convert to e) s h = g-undefined d n s
  g-opened P (Bump op e) s h = g-bump op e.kind (node_of e) s h
  g-opened P (Binary op l r) s h = g-binary op l r s h
  g-opened P (Choice t a b) s h = g-of t s _ _ h (g-after_choice a b) (p-after_choice rec' puts a b)
  g-opened P (Assign op at l r) s h = g-assign op l.kind at (node_of l) r s h
  g-opened P (Comma l r) s h = g-of l s _ _ h (g-after_comma r) (p-after_comma rec' puts r)

  g-node : (P : TypedProgram) (e : Node) (s : State) → s.stock ≤ n
      → Grew d n (node rec P e s) (node rec' P e (more d s))
  g-node P e s h = g-spend d n s _ _ h (λ s h. g-opened P e s h) (p-opened rec' puts P e)

  -- an expression grows where its parts do
  pub g-expression : (P : TypedProgram) (e : Node) (s : State) → s.stock ≤ n
      → Grew d n (expression rec P e s) (expression rec' P e (more d s))
  g-expression P (Convert to e) s h =
      g-then d n _ _ _ _ (g-node P (node_of e) s h) (g-converting d n to)
      (p-converting rec' puts to)
  g-expression P e s h = g-node P e s h
