-- No expression and no call takes back what was put out, or gives back a step.
use Rattle.std.proofs.Common.{ℕ, Bool, nat_eq, length, List, [], ◌∷◌, ◌++◌, Option, Some, None}
use Rattle.std.proofs.Common.{slice_get}
use Rattle.c_tree.specs.declared.Kind.{Kind}
use Rattle.c_tree.specs.declared.BinaryOp.{BinaryOp}
use Rattle.c_tree.specs.declared.BinaryOp.TheVariants.{LogicalOr, LogicalAnd}
use Rattle.c_tree.specs.declared.UnaryOp.{UnaryOp}
use Rattle.c_tree.specs.declared.BumpOp.{BumpOp}
use Rattle.c_tree.specs.declared.Place.{Place}
use Rattle.c_tree.specs.declared.Callee.{Callee}
use Rattle.c_tree.specs.declared.Callee.TheVariants.{Func, GetChar, PutChar, Exit}
use Rattle.c_tree.specs.declared.TypedExpr.{TypedExpr}
use Rattle.c_tree.specs.declared.TypedNode.TheOpen.{Number, Name, Element, Call, Unary, Cast, Convert}
use Rattle.c_tree.specs.declared.TypedNode.TheOpen.{Bump, Binary, Choice, Assign, Comma}
use Rattle.c_tree.specs.declared.TypedStmt.{TypedStmt}
use Rattle.c_tree.specs.declared.TypedFunc.{TypedFunc}
use Rattle.c_tree.specs.declared.TypedProgram.{TypedProgram}
use Rattle.c_meaning_spec.specs.declared.signal.Signal.{Signal}
use Rattle.c_meaning_spec.specs.declared.signal.Object.{Object}
use Rattle.c_meaning_spec.specs.State.{State, Result, want}
use Rattle.c_meaning_spec.specs.inside.State.{then}
use Rattle.c_meaning_spec.specs.State.{cell, held, store}
use Rattle.c_meaning_spec.specs.Word.{is_false, compound_of, bump_of, bump_value}
use Rattle.c_meaning_spec.specs.Task.{Task, Of, Run, Parts, element_of, scalar_of, row_element_of}
use Rattle.c_meaning_spec.specs.Task.{after_row}
use Rattle.c_meaning_spec.specs.Call.{entered, entered_if, enter, called, arguments}
use Rattle.c_tree.specs.TypedTrees.{Node, node_of}
use Rattle.c_meaning_spec.specs.Expression.{converting, unary, operated, after_left, truth, after_and}
use Rattle.c_meaning_spec.specs.Expression.{after_or, binary, valued, after_choice, after_comma}
use Rattle.c_meaning_spec.specs.Expression.{assigned, compounded, assign_to, assign_element, assign}
use Rattle.c_meaning_spec.specs.Expression.{giving, bump_object, bump_element, bump, opened, node}
use Rattle.c_meaning_spec.specs.Expression.{expression, assign_row, assign_after_row, bump_row}
use Rattle.c_meaning_spec.specs.Expression.{bump_after_row}
use Rattle.c_meaning_spec.proofs.Puts.{Puts, p-go, p-over, p-then, p-want, p-some, p-cond, p-spend}
use Rattle.c_meaning_spec.proofs.Puts.{p-given, p-store, p-name, p-element, p-row_element, p-left}
use Rattle.c_meaning_spec.proofs.Puts.{p-get_char, p-put_char, p-exit, p-exit}

-- where the parts take nothing back

module _ (rec : Parts) (below : (t : Task) (s : State) → Puts s.output s.stock (rec t s)) where
  -- an expression and what follows it take nothing back where neither does
  pub p-of : (e : TypedExpr) (s : State) (f : Signal → State → Result)
      → ((v : Signal) (u : State) → Puts u.output u.stock (f v u))
      → Puts s.output s.stock (then (rec (Of e) s) f)
  p-of e s f h = p-then s.output s.stock (rec (Of e) s) f (below (Of e) s) h

  -- a statement and what follows it take nothing back where neither does
  pub p-run : (st : TypedStmt) (s : State) (f : Signal → State → Result)
      → ((v : Signal) (u : State) → Puts u.output u.stock (f v u))
      → Puts s.output s.stock (then (rec (Run st) s) f)
  p-run st s f h = p-then s.output s.stock (rec (Run st) s) f (below (Run st) s) h

  p-entered_if : (is_main fits : Bool) (f : TypedFunc) (done : List ℕ) (s : State)
      → Puts s.output s.stock (entered_if rec is_main fits f done s)
  p-entered_if is_main fits f done s =
      p-cond fits s.output s.stock _ _ (p-run f.body (entered f done s) _
      (p-left is_main s.scalars (length s.arrays) s.base s.room)) (p-over _ s)

  -- entering a function takes nothing back where its body does not
  pub p-enter : (is_main : Bool) (f : Option TypedFunc) (done : List ℕ) (s : State)
      → Puts s.output s.stock (enter rec is_main f done s)
  p-enter is_main None done s = p-over _ s
  p-enter is_main (Some f) done s = p-cond (nat_eq (length done) f.params) s.output s.stock _ _
      (p-entered_if is_main _ f done s) (p-over _ s)

  -- a call of what is called takes nothing back where the parts do not
  pub p-called : (P : TypedProgram) (f : Callee) (done : List ℕ) (s : State)
      → Puts s.output s.stock (called rec P f done s)
  p-called P (Func f) done s =
      p-spend s _ (λ u. p-enter (nat_eq f P.main) (slice_get P.functions f) done u)
  p-called P GetChar done s = p-spend s _ (λ u. p-get_char done u)
  p-called P PutChar done s = p-spend s _ (λ u. p-put_char done u)
  p-called P Exit done s = p-spend s _ (λ u. p-exit done u)

  -- the arguments of a call, and the call behind them, take nothing back where the parts do not
  pub p-arguments : (P : TypedProgram) (f : Callee) (es : List TypedExpr) (done : List ℕ)
      (s : State) → Puts s.output s.stock (arguments rec P f es done s)
  p-arguments P f [] done s = p-called P f done s
  p-arguments P f (e ∷ es) done s = p-of e s _
      (λ v u. p-want v u _ (λ w. p-arguments P f es (done ++ w ∷ []) u))

  -- an argument and those behind it take nothing back where the parts do not
  pub p-argument : (P : TypedProgram) (f : Callee) (es : List TypedExpr) (done : List ℕ)
      (v : Signal) (s : State) → Puts s.output s.stock
      (want v s (λ w. arguments rec P f es (done ++ w ∷ []) s))
  p-argument P f es done v s = p-want v s _ (λ w. p-arguments P f es (done ++ w ∷ []) s)

  -- EXPRESSIONS

  -- a conversion takes nothing back
  pub p-converting : (to : Kind) (v : Signal) (s : State)
      → Puts s.output s.stock (converting to v s)
  p-converting to v s = p-want v s _ (λ w. p-go _ s)

  -- an operation on one value takes nothing back
  pub p-unary : (op : UnaryOp) (k : Option Kind) (v : Signal) (s : State)
      → Puts s.output s.stock (unary op k v s)
  p-unary op k v s = p-want v s _ (λ w. p-given _ _ s)

  -- an operation on two values takes nothing back
  pub p-operated : (op : BinaryOp) (k : Option Kind) (a : ℕ) (v : Signal) (s : State)
      → Puts s.output s.stock (operated op k a v s)
  p-operated op k a v s = p-want v s _ (λ w. p-given _ _ s)

  -- what follows a left operand takes nothing back
  pub p-after_left : (op : BinaryOp) (k : Option Kind) (r : TypedExpr) (v : Signal) (s : State)
      → Puts s.output s.stock (after_left rec op k r v s)
  p-after_left op k r v s = p-want v s _ (λ a. p-of r s _ (p-operated op k a))

  -- a value's truth takes nothing back
  pub p-truth : (v : Signal) (s : State) → Puts s.output s.stock (truth v s)
  p-truth v s = p-want v s _ (λ w. p-go _ s)

  -- what follows the left side of `&&` takes nothing back
  pub p-after_and : (r : TypedExpr) (v : Signal) (s : State)
      → Puts s.output s.stock (after_and rec r v s)
  p-after_and r v s = p-want v s _ (λ w. p-cond (is_false w) s.output s.stock _ _ (p-go _ s)
      (p-of r s _ p-truth))

  -- what follows the left side of `||` takes nothing back
  pub p-after_or : (r : TypedExpr) (v : Signal) (s : State)
      → Puts s.output s.stock (after_or rec r v s)
  p-after_or r v s = p-want v s _ (λ w. p-cond (is_false w) s.output s.stock _ _
      (p-of r s _ p-truth) (p-go _ s))

  p-binary : (op : BinaryOp) (l r : TypedExpr) (s : State)
      → Puts s.output s.stock (binary rec op l r s)
  p-binary LogicalAnd l r s = p-of l s _ (p-after_and r)
  p-binary LogicalOr l r s = p-of l s _ (p-after_or r)
  p-binary _ l r s = p-of l s _ (p-after_left _ l.kind r)

  -- a value that is wanted takes nothing back
  pub p-valued : (v : Signal) (s : State) → Puts s.output s.stock (valued v s)
  p-valued v s = p-want v s _ (λ w. p-go _ s)

  -- what follows the test of a choice takes nothing back
  pub p-after_choice : (a b : TypedExpr) (v : Signal) (s : State)
      → Puts s.output s.stock (after_choice rec a b v s)
  p-after_choice a b v s = p-want v s _ (λ w. p-cond (is_false w) s.output s.stock _ _
      (p-of b s _ p-valued) (p-of a s _ p-valued))

  -- what follows the left side of a comma takes nothing back
  pub p-after_comma : (r : TypedExpr) (v : Signal) (s : State)
      → Puts s.output s.stock (after_comma rec r v s)
  p-after_comma r v s = p-of r s _ p-valued

  -- an assignment of a value takes nothing back
  pub p-assigned : (x : Object) (v : Signal) (s : State) → Puts s.output s.stock (assigned x v s)
  p-assigned x v s = p-want v s _ (λ w. p-store s x w)

  -- a compound assignment of a value takes nothing back
  pub p-compounded : (op : BinaryOp) (to : Option Kind) (at : Kind) (x : Object) (old : ℕ)
      (v : Signal) (s : State) → Puts s.output s.stock (compounded op to at x old v s)
  p-compounded op to at x old v s = p-want v s _
      (λ b. p-some (compound_of op to at old b) _ s _ (λ w. p-store s x w))

  p-assign_to : (op : Option BinaryOp) (to : Option Kind) (at : Kind) (r : TypedExpr) (s : State)
      (x : Object) → Puts s.output s.stock (assign_to rec op to at r s x)
  p-assign_to None to at r s x = p-of r s _ (p-assigned x)
  p-assign_to (Some op) to at r s x = p-some (held (cell s x)) _ s _
      (λ old. p-of r s _ (p-compounded op to at x old))

  -- an assignment to an element takes nothing back, from its index on
  pub p-assign_element : (op : Option BinaryOp) (to : Option Kind) (at : Kind) (p : Place)
      (r : TypedExpr) (v : Signal) (s : State)
      → Puts s.output s.stock (assign_element rec op to at p r v s)
  p-assign_element op to at p r v s = p-want v s _
      (λ w. p-some (element_of p w s) _ s _ (λ x. p-assign_to op to at r s x))

  -- an assignment to an element of a row takes nothing back, from its last index on
  pub p-assign_row : (op : Option BinaryOp) (to : Option Kind) (at : Kind) (p : Place) (i : ℕ)
      (r : TypedExpr) (v : Signal) (s : State)
      → Puts s.output s.stock (assign_row rec op to at p i r v s)
  p-assign_row op to at p i r v s = p-want v s _
      (λ j. p-some (row_element_of p i j s) _ s _ (λ x. p-assign_to op to at r s x))

  -- an assignment to an element of a row takes nothing back, from its first index on
  pub p-assign_after_row : (op : Option BinaryOp) (to : Option Kind) (at : Kind) (p : Place)
      (index r : TypedExpr) (v : Signal) (s : State)
      → Puts s.output s.stock (assign_after_row rec op to at p index r v s)
  p-assign_after_row op to at p index r v s = p-want v s _
      (λ i. p-of index s _ (p-assign_row op to at p i r))

  p-assign : (op : Option BinaryOp) (to : Option Kind) (at : Kind) (l : Node) (r : TypedExpr)
      (s : State) → Puts s.output s.stock (assign rec op to at l r s)
  p-assign op to at (Name p) r s = p-some (scalar_of p) _ s _ (λ x. p-assign_to op to at r s x)
  p-assign op to at (Element p None index) r s = p-of index s _ (p-assign_element op to at p r)
  p-assign op to at (Element p (Some row) index) r s =
      p-of row s _ (p-assign_after_row op to at p index r)
  p-assign op to at _ r s = p-over _ s

  -- a value that is given takes nothing back
  pub p-giving : (w : ℕ) (v : Signal) (s : State) → Puts s.output s.stock (giving w v s)
  p-giving w v s = p-go _ s

  p-bump_object : (op : BumpOp) (k : Option Kind) (s : State) (x : Object)
      → Puts s.output s.stock (bump_object op k s x)
  p-bump_object op k s x =
      p-some (held (cell s x)) _ s _ (λ old. p-some (bump_of op k old) _ s _ (λ new.
      p-then s.output s.stock (store s x new) _ (p-store s x new)
      (p-giving (bump_value op old new))))

  -- a bump of an element takes nothing back, from its index on
  pub p-bump_element : (op : BumpOp) (k : Option Kind) (p : Place) (v : Signal) (s : State)
      → Puts s.output s.stock (bump_element op k p v s)
  p-bump_element op k p v s = p-want v s _
      (λ w. p-some (element_of p w s) _ s _ (λ x. p-bump_object op k s x))

  -- a bump of an element of a row takes nothing back, from its last index on
  pub p-bump_row : (op : BumpOp) (k : Option Kind) (p : Place) (i : ℕ) (v : Signal) (s : State)
      → Puts s.output s.stock (bump_row op k p i v s)
  p-bump_row op k p i v s = p-want v s _
      (λ j. p-some (row_element_of p i j s) _ s _ (λ x. p-bump_object op k s x))

  -- a bump of an element of a row takes nothing back, from its first index on
  pub p-bump_after_row : (op : BumpOp) (k : Option Kind) (p : Place) (index : TypedExpr) (v : Signal)
      (s : State) → Puts s.output s.stock (bump_after_row rec op k p index v s)
  p-bump_after_row op k p index v s = p-want v s _ (λ i. p-of index s _ (p-bump_row op k p i))

  p-bump : (op : BumpOp) (k : Option Kind) (l : Node) (s : State)
      → Puts s.output s.stock (bump rec op k l s)
  p-bump op k (Name p) s = p-some (scalar_of p) _ s _ (λ x. p-bump_object op k s x)
  p-bump op k (Element p None index) s = p-of index s _ (p-bump_element op k p)
  p-bump op k (Element p (Some row) index) s = p-of row s _ (p-bump_after_row op k p index)
  p-bump op k _ s = p-over _ s

  -- an element of a row that is read takes nothing back, from its first index on
  pub p-after_row : (p : Place) (index : TypedExpr) (v : Signal) (s : State)
      → Puts s.output s.stock (after_row rec p index v s)
  p-after_row p index v s = p-want v s _ (λ i. p-of index s _ (p-row_element p i))

  -- no node of an expression takes anything back where its parts do not
  pub p-opened : (P : TypedProgram) (n : Node) (s : State)
      → Puts s.output s.stock (opened rec P n s)
  p-opened P (Number w) s = p-go _ s
  p-opened P (Name p) s = p-name P p s
  p-opened P (Element p None index) s = p-of index s _ (p-element p)
  p-opened P (Element p (Some row) index) s = p-of row s _ (p-after_row p index)
  p-opened P (Call f args) s = p-arguments P f args [] s
  p-opened P (Unary op e) s = p-of e s _ (p-unary op e.kind)
  p-opened P (Cast to e) s = p-of e s _ (p-converting to)
  p-opened P (Convert to e) s = p-over _ s
  p-opened P (Bump op e) s = p-bump op e.kind (node_of e) s
  p-opened P (Binary op l r) s = p-binary op l r s
  p-opened P (Choice t a b) s = p-of t s _ (p-after_choice a b)
  p-opened P (Assign op at l r) s = p-assign op l.kind at (node_of l) r s
  p-opened P (Comma l r) s = p-of l s _ (p-after_comma r)

  p-node : (P : TypedProgram) (n : Node) (s : State) → Puts s.output s.stock (node rec P n s)
  p-node P n s = p-spend s _ (λ u. p-opened P n u)

  -- no expression takes anything back where its parts do not
  pub p-expression : (P : TypedProgram) (n : Node) (s : State)
      → Puts s.output s.stock (expression rec P n s)
  p-expression P (Convert to e) s = p-then s.output s.stock (node rec P (node_of e) s) _
      (p-node P (node_of e) s) (p-converting to)
  p-expression P n s = p-node P n s
