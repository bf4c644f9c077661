-- What the forms of the printing functions come to, one rule for each: a part of a program in a state with so many
-- steps goes on in another state with fewer.
use Rattle.std.proofs.Common.{◌≡◌, ℕ, suc, ◌%◌, Bool, true, false, cond, List, [], ◌∷◌, ◌++◌, map, Option}
use Rattle.std.proofs.Common.{Some, None, refl, sym, ap, ◌∙◌}
use Rattle.std.specs.Prelude.{slice_get, slice_set}
use Rattle.c_tree.specs.declared.Kind.{Kind}
use Rattle.c_tree.specs.declared.Kind.TheVariants.{Int}
use Rattle.c_tree.specs.declared.UnaryOp.TheVariants.{Minus}
use Rattle.c_tree.specs.declared.BumpOp.TheVariants.{PostInc}
use Rattle.c_tree.specs.declared.BinaryOp.TheVariants.{Add}
use Rattle.c_tree.specs.declared.BinaryOp.{BinaryOp}
use Rattle.c_tree.specs.declared.Place.TheVariants as place
use Rattle.c_tree.specs.declared.Callee.TheVariants.{Func, PutChar}
use Rattle.c_tree.specs.declared.TypedExpr.{TypedExpr}
use Rattle.c_tree.specs.declared.TypedNode.{TypedNode, roll-TypedNode, out-TypedNode, out-roll-TypedNode}
use Rattle.c_tree.specs.declared.TypedNode.TheVariants as nodes
use Rattle.c_tree.specs.declared.TypedNode.TheOpen.{Number, Name, Call, Unary, Cast, Convert, Bump, Binary}
use Rattle.c_tree.specs.declared.TypedNode.TheOpen.{Choice, Assign}
use Rattle.c_tree.specs.declared.TypedStmt.{TypedStmt, roll-TypedStmt, out-TypedStmt, out-roll-TypedStmt}
use Rattle.c_tree.specs.declared.TypedStmt.TheVariants as stmts
use Rattle.c_tree.specs.declared.TypedForInit.TheOpen.{Declare, Plain, Compound, If, While, Return}
use Rattle.c_tree.specs.declared.TypedProgram.{TypedProgram}
use Rattle.c_tree.specs.TypedTrees.{Node, Level}
use Rattle.c_constant.specs.Kinds.{converted}
use Rattle.c_meaning_spec.specs.declared.signal.Signal.{Signal}
use Rattle.c_meaning_spec.specs.declared.signal.Signal.TheVariants.{Nothing, Value, Returns}
use Rattle.c_meaning_spec.specs.declared.signal.Object.TheVariants.{InScalar}
use Rattle.c_meaning_spec.specs.State.{State, Result, Go, given, held, store, store_in, want, with_some, no_word}
use Rattle.c_meaning_spec.specs.inside.State.{then}
use Rattle.c_meaning_spec.specs.declared.fault.Fault.TheVariants.{IllFormed}
use Rattle.c_meaning_spec.specs.Word.{unary_fault, binary_fault, bump_fault, words_fault}
use Rattle.c_meaning_spec.specs.Word.{binary_of, unary_of, is_false, bump_of, bump_value, converted_if}
use Rattle.c_constant.specs.Operation.{operate}
use Rattle.c_meaning_spec.specs.Task.{Of, Run, Turn, Parts}
use Rattle.c_meaning_spec.specs.Call.{called, arguments}
use Rattle.c_meaning_spec.specs.Expression.{expression, node, binary, after_left, operated, converting, after_choice}
use Rattle.c_meaning_spec.specs.Expression.{valued, unary, giving, compounded}
use Rattle.c_meaning_spec.specs.Expression as spec
use Rattle.c_meaning_spec.specs.Statement.{statement, sequence, dropped, initialised, unset, returning, going_on}
use Rattle.c_meaning_spec.specs.Statement.{after_if, after_test, after_body}
use Rattle.c_meaning_spec.specs.Eval.{meaning}
use Rattle.c_meaning_spec.proofs.Equations.{meaning-is}
use Rattle.library_laws.specs.Terms.{made, Term, typed, number, scalar, convert, cast, operation, choice, call, put}
use Rattle.library_laws.specs.Terms.{Terms, none, before, all_typed, Code, stated, plain, initialise, give, body}
use Rattle.library_laws.specs.Terms.{negative, bump, update, when, repeat, pair}

-- a state with so many steps left
abbrev pub at : State → ℕ → State
at s k = record s { stock = k }

-- the expression has the value, and the evaluation goes on from the one state to the other
pub record Gives (P : TypedProgram) (e : Term) (s : State) (k : ℕ) (w : ℕ) (s' : State) (j : ℕ) : Type 0 where
  pub is : meaning P (Of (typed e)) (at s k) ≡ Go (Value w) (at s' j)

-- the statement goes on with a signal
pub record Runs (P : TypedProgram) (c : Code) (s : State) (k : ℕ) (v : Signal) (s' : State) (j : ℕ) : Type 0 where
  pub is : meaning P (Run (stated c)) (at s k) ≡ Go v (at s' j)

-- so do statements one after another
pub record Follow (P : TypedProgram) (all : List Code) (s : State) (k : ℕ) (v : Signal) (s' : State) (j : ℕ)
    : Type 0 where
  pub is : sequence (meaning P) (map stated all) (at s k) ≡ Go v (at s' j)

-- the uppermost level of a node
level_of : (m : TypedNode) (n : Node) → roll-TypedNode n ≡ m → out-TypedNode m ≡ n
level_of m n e = ap (λ (x : TypedNode). out-TypedNode x) (sym e) ∙ out-roll-TypedNode n

-- what a node does is what its uppermost level does
of_node : (P : TypedProgram) (l : ℕ) (c : Kind) (m : TypedNode) (n : Node) (s : State) → roll-TypedNode n ≡ m
    → meaning P (Of (made l c m)) s ≡ expression (meaning P) P n s
of_node P l c m n s e = meaning-is P (Of (made l c m)) s
    ∙ ap (λ (x : Node). expression (meaning P) P x s) (level_of m n e)

-- what a statement does is what its uppermost level does
of_level : (P : TypedProgram) (m : TypedStmt) (n : Level) (s : State) → roll-TypedStmt n ≡ m
    → meaning P (Run m) s ≡ statement (meaning P) n s
of_level P m n s e = meaning-is P (Run m) s
    ∙ ap (λ (x : TypedStmt). statement (meaning P) (out-TypedStmt x) s) (sym e)
    ∙ ap (λ (x : Level). statement (meaning P) x s) (out-roll-TypedStmt n)

-- EXPRESSIONS

-- a number gives its word in a step
pub r_number : {P : TypedProgram} {l : ℕ} {c : Kind} {w : ℕ} {s : State} {k : ℕ} → Gives P (number l c w) s (suc k) w
    s k
r_number {P = P} {l = l} {c = c} {w = w} {s = s} {k = k} =
    record { is = of_node P l c _ (Number w) (at s (suc k)) (nodes.rolls-Number w) }

-- a scalar gives its word in a step
pub r_scalar : {P : TypedProgram} {l : ℕ} {c : Kind} {i w : ℕ} {s : State} {k : ℕ} → slice_get s.scalars i ≡ Some
    (Some w)
    → Gives P (scalar l c i) s (suc k) w s k
r_scalar {P = P} {l = l} {c = c} {i = i} {w = w} {s = s} {k = k} h = record {
  is = of_node P l c _ (Name (place.Scalar i)) (at s (suc k)) (nodes.rolls-Name (place.Scalar i))
      ∙ ap (λ (x : Option (Option ℕ)). given (held x) (no_word IllFormed x) (at s k)) h;
}

-- an operation other than `&&` and `||`
abbrev pub IsEager : BinaryOp → Type 0
IsEager op = (rec : Parts) (x y : TypedExpr) (s : State)
    → binary rec op x y s ≡ then (rec (Of x) s) (after_left rec op x.kind y)

-- an operation gives what it makes of its operands, in a step more than they take
pub r_operation : {P : TypedProgram} {l : ℕ} {c : Kind} {op : BinaryOp} {a b r k j i : ℕ} {x y : Term} {s s' s'' :
    State}
    → IsEager op
    → Gives P x s k a s' j → Gives P y s' j b s'' i → binary_of op (typed x).kind a b ≡ Some r
    → Gives P (operation l c op x y) s (suc k) r s'' i
r_operation {P = P} {l = l} {c = c} {op = op} {a = a} {b = b} {k = k} {j = j} {i = i} {x = x} {y = y} {s = s} {s' = s'}
    {s'' = s''} eager g h e = record {
      is = of_node P l c _ (Binary op (typed x) (typed y)) (at s (suc k)) (nodes.rolls-Binary op (typed x) (typed y))
          ∙ eager (meaning P) (typed x) (typed y) (at s k)
          ∙ ap (λ (r : Result). then r (after_left (meaning P) op (typed x).kind (typed y))) g.is
          ∙ ap (λ (r : Result). then r (operated op (typed x).kind a)) h.is
          ∙ ap (λ (r : Option ℕ). given r (binary_fault op (typed x).kind a b) (at s'' i)) e;
    }

-- what a node of this form does as the operand of a conversion is what it does alone
pub record IsPlain (e : Term) : Type 0 where
  pub is : (P : TypedProgram) (s : State)
      → expression (meaning P) P (out-TypedNode (typed e).node) s ≡ node (meaning P) P (out-TypedNode (typed e).node) s

-- a node of a level that is no conversion
plain_level : (m : TypedNode) (n : Node) → roll-TypedNode n ≡ m
    → ((P : TypedProgram) (s : State) → expression (meaning P) P n s ≡ node (meaning P) P n s)
    → (P : TypedProgram) (s : State)
    → expression (meaning P) P (out-TypedNode m) s ≡ node (meaning P) P (out-TypedNode m) s
plain_level m n e h P s =
    ap (λ (x : Node). expression (meaning P) P x s) (level_of m n e) ∙ h P s
    ∙ ap (λ (x : Node). node (meaning P) P x s) (sym (level_of m n e))

pub plain_number : {l w : ℕ} {c : Kind} → IsPlain (number l c w)
plain_number {w = w} =
    record { is = λ P s. plain_level _ (Number w) (nodes.rolls-Number w) (λ P s. refl) P s }

pub plain_scalar : {l i : ℕ} {c : Kind} → IsPlain (scalar l c i)
plain_scalar {i = i} = record {
  is = λ P s. plain_level _ (Name (place.Scalar i)) (nodes.rolls-Name (place.Scalar i)) (λ P s. refl) P s;
}

pub plain_operation : {l : ℕ} {c : Kind} {op : BinaryOp} {x y : Term} → IsPlain (operation l c op x y)
plain_operation {op = op} {x = x} {y = y} = record {
  is = λ P s. plain_level _ (Binary op (typed x) (typed y)) (nodes.rolls-Binary op (typed x) (typed y)) (λ P s. refl)
      P s;
}

-- an expression that is converted gives its word in the new type, with no step more
pub r_convert : {P : TypedProgram} {l : ℕ} {c : Kind} {w w' k j : ℕ} {e : Term} {s s' : State}
    → IsPlain e → Gives P e s k w s' j → converted c w ≡ w' → Gives P (convert l c e) s k w' s' j
r_convert {P = P} {l = l} {c = c} {w = w} {k = k} {j = j} {e = e} {s = s} {s' = s'} p h f = record {
  is = of_node P l c _ (Convert c (typed e)) (at s k) (nodes.rolls-Convert c (typed e))
      ∙ ap (λ (r : Result). then r (converting c))
      (sym (p.is P (at s k)) ∙ sym (meaning-is P (Of (typed e)) (at s k)) ∙ h.is)
      ∙ ap (λ (n : ℕ). Go (Value n) (at s' j)) f;
}

-- a number that is converted
pub r_constant : {P : TypedProgram} {l : ℕ} {c d : Kind} {w w' k : ℕ} {s : State} → converted c w ≡ w'
    → Gives P (convert l c (number l d w)) s (suc k) w' s k
r_constant f = r_convert plain_number r_number f

-- a cast gives the word of its operand in the new type, in a step more than it takes
pub r_cast : {P : TypedProgram} {l : ℕ} {c : Kind} {w w' k j : ℕ} {e : Term} {s s' : State}
    → Gives P e s k w s' j → converted c w ≡ w' → Gives P (cast l c e) s (suc k) w' s' j
r_cast {P = P} {l = l} {c = c} {k = k} {j = j} {e = e} {s = s} {s' = s'} h f = record {
  is = of_node P l c _ (Cast c (typed e)) (at s (suc k)) (nodes.rolls-Cast c (typed e))
      ∙ ap (λ (r : Result). then r (converting c)) h.is
      ∙ ap (λ (n : ℕ). Go (Value n) (at s' j)) f;
}

-- a negation gives what it makes of its operand, in a step more than it takes
pub r_negative : {P : TypedProgram} {l : ℕ} {c : Kind} {w w' k j : ℕ} {e : Term} {s s' : State}
    → Gives P e s k w s' j → unary_of Minus (typed e).kind w ≡ Some w' → Gives P (negative l c e) s (suc k) w' s' j
r_negative {P = P} {l = l} {c = c} {w = w} {k = k} {j = j} {e = e} {s = s} {s' = s'} h f = record {
  is = of_node P l c _ (Unary Minus (typed e)) (at s (suc k)) (nodes.rolls-Unary Minus (typed e))
      ∙ ap (λ (r : Result). then r (unary Minus (typed e).kind)) h.is
      ∙ ap (λ (n : Option ℕ). given n (unary_fault Minus (typed e).kind w) (at s' j)) f;
}

-- a choice whose test is not 0 gives what its first leg gives
pub r_one : {P : TypedProgram} {l : ℕ} {c : Kind} {v w k j i : ℕ} {t x y : Term} {s s' s'' : State}
    → Gives P t s k v s' j → is_false v ≡ false → Gives P x s' j w s'' i
    → Gives P (choice l c t x y) s (suc k) w s'' i
r_one {P = P} {l = l} {c = c} {k = k} {j = j} {i = i} {t = t} {x = x} {y = y} {s = s} {s' = s'} g e h = record {
  is = of_node P l c _ (Choice (typed t) (typed x) (typed y)) (at s (suc k))
      (nodes.rolls-Choice (typed t) (typed x) (typed y))
      ∙ ap (λ (r : Result). then r (after_choice (meaning P) (typed x) (typed y))) g.is
      ∙ ap (λ (b : Bool). cond b (then (meaning P (Of (typed y)) (at s' j)) valued)
      (then (meaning P (Of (typed x)) (at s' j)) valued)) e
      ∙ ap (λ (r : Result). then r valued) h.is;
}

-- one whose test is 0 gives what its second leg gives
pub r_other : {P : TypedProgram} {l : ℕ} {c : Kind} {v w k j i : ℕ} {t x y : Term} {s s' s'' : State}
    → Gives P t s k v s' j → is_false v ≡ true → Gives P y s' j w s'' i
    → Gives P (choice l c t x y) s (suc k) w s'' i
r_other {P = P} {l = l} {c = c} {k = k} {j = j} {i = i} {t = t} {x = x} {y = y} {s = s} {s' = s'} g e h = record {
  is = of_node P l c _ (Choice (typed t) (typed x) (typed y)) (at s (suc k))
      (nodes.rolls-Choice (typed t) (typed x) (typed y))
      ∙ ap (λ (r : Result). then r (after_choice (meaning P) (typed x) (typed y))) g.is
      ∙ ap (λ (b : Bool). cond b (then (meaning P (Of (typed y)) (at s' j)) valued)
      (then (meaning P (Of (typed x)) (at s' j)) valued)) e
      ∙ ap (λ (r : Result). then r valued) h.is;
}

-- `k++` adds 1 to an int, and gives what it was, in a step
pub r_bump : {P : TypedProgram} {l d i w v k : ℕ} {s s' : State}
    → slice_get s.scalars i ≡ Some (Some w) → operate Add Int w 1 ≡ Some v → converted Int v ≡ v
    → record s { scalars = slice_set s.scalars i (Some v) } ≡ s' → Gives P (bump l d i) s (suc k) w s' k
r_bump {P = P} {l = l} {d = d} {i = i} {w = w} {v = v} {k = k} {s = s} h e f q = record {
  is = of_node P l Int _ (Bump PostInc (made d Int (nodes.Name (place.Scalar i)))) (at s (suc k))
      (nodes.rolls-Bump PostInc (made d Int (nodes.Name (place.Scalar i))))
      ∙ ap (λ (m : Node). spec.bump (meaning P) PostInc (Some Int) m (at s k))
      (level_of _ _ (nodes.rolls-Name (place.Scalar i)))
      ∙ ap (λ (x : Option (Option ℕ)). with_some (held x) (no_word IllFormed x) (at s k) (λ old.
      with_some (bump_of PostInc (Some Int) old) (bump_fault PostInc (Some Int) old) (at s k)
      (λ new. then (store (at s k) (InScalar i) new) (giving (bump_value PostInc old new))))) h
      ∙ ap (λ (x : Option ℕ). with_some (converted_if Int x) (bump_fault PostInc (Some Int) w) (at s k)
      (λ new. then (store (at s k) (InScalar i) new)
      (giving w))) e
      ∙ ap (λ (n : ℕ). then (store (at s k) (InScalar i) n) (giving w)) f
      ∙ ap (λ (x : Option (Option ℕ)). then (store_in x (at s k) (InScalar i) v) (giving w)) h
      ∙ ap (λ (x : State). Go (Value w) (at x k)) q;
}

-- an operation with a scalar is stored in it, in a step more than its right side takes
pub r_update : {P : TypedProgram} {l d : ℕ} {c : Kind} {op : BinaryOp} {i old b v k j : ℕ} {e : Term}
    {s s' s'' : State} {there : Option ℕ}
    → slice_get s.scalars i ≡ Some (Some old) → Gives P e s k b s' j → converted c old ≡ old
    → operate op c old b ≡ Some v → converted c v ≡ v → slice_get s'.scalars i ≡ Some there
    → record s' { scalars = slice_set s'.scalars i (Some v) } ≡ s'' → Gives P (update l d c op i e) s (suc k) v s'' j
r_update {P = P} {l = l} {d = d} {c = c} {op = op} {i = i} {old = old} {b = b} {v = v} {k = k} {j = j} {e = e} {s = s}
    {s' = s'} h g o f n t q = record {
      is = of_node P l c _ (Assign (Some op) c (made d c (nodes.Name (place.Scalar i))) (typed e)) (at s (suc k))
          (nodes.rolls-Assign (Some op) c (made d c (nodes.Name (place.Scalar i))) (typed e))
          ∙ ap (λ (m : Node). spec.assign (meaning P) (Some op) (Some c) c m (typed e) (at s k))
          (level_of _ _ (nodes.rolls-Name (place.Scalar i)))
          ∙ ap (λ (x : Option (Option ℕ)). with_some (held x) (no_word IllFormed x) (at s k)
          (λ old. then (meaning P (Of (typed e)) (at s k))
          (compounded op (Some c) c (InScalar i) old))) h
          ∙ ap (λ (r : Result). then r (compounded op (Some c) c (InScalar i) old)) g.is
          ∙ ap (λ (x : ℕ). with_some (converted_if c (operate op c x b)) (words_fault op c (converted c old) b)
          (at s' j)
          (λ w. store (at s' j) (InScalar i) w))
          o
          ∙ ap (λ (x : Option ℕ). with_some (converted_if c x) (words_fault op c (converted c old) b) (at s' j)
          (λ w. store (at s' j) (InScalar i) w)) f
          ∙ ap (λ (x : ℕ). store (at s' j) (InScalar i) x) n
          ∙ ap (λ (x : Option (Option ℕ)). store_in x (at s' j) (InScalar i) v) t
          ∙ ap (λ (x : State). Go (Value v) (at x j)) q;
    }

-- a call of a function with these arguments gives a value
pub record Calls (P : TypedProgram) (f : ℕ) (done : List ℕ) (s : State) (k : ℕ) (w : ℕ) (s' : State) (j : ℕ)
    : Type 0 where
  pub is : called (meaning P) P (Func f) done (at s k) ≡ Go (Value w) (at s' j)

-- the same value and state by other words
pub calls_to : {P : TypedProgram} {f k v w j : ℕ} {done : List ℕ} {s s' s'' : State}
    → Calls P f done s k v s' j → v ≡ w → s' ≡ s'' → Calls P f done s k w s'' j
calls_to {w = w} {j = j} {s' = s'} h e g = record {
  is = h.is ∙ ap (λ (x : ℕ). Go (Value x) (at s' j)) e ∙ ap (λ (x : State). Go (Value w) (at x j)) g;
}

-- arguments give their words from the left, behind those that are done, and then the call is made
pub record Passes (P : TypedProgram) (f : ℕ) (es : Terms) (done : List ℕ) (s : State) (k : ℕ) (w : ℕ) (s' : State)
    (j : ℕ) : Type 0 where
  pub is : arguments (meaning P) P (Func f) (all_typed es) done (at s k) ≡ Go (Value w) (at s' j)

pub r_called : {P : TypedProgram} {f w k j : ℕ} {done : List ℕ} {s s' : State}
    → Calls P f done s k w s' j → Passes P f none done s k w s' j
r_called h = record { is = h.is }

pub r_argument : {P : TypedProgram} {f v w k j i : ℕ} {e : Term} {es : Terms} {done : List ℕ} {s s' s'' : State}
    → Gives P e s k v s' j → Passes P f es (done ++ v ∷ []) s' j w s'' i
    → Passes P f (before e es) done s k w s'' i
r_argument {P = P} {f = f} {es = es} {done = done} h g = record {
  is = ap (λ (r : Result). then r (λ v s. want v s (λ w. arguments (meaning P) P (Func f) (all_typed es)
      (done ++ w ∷ []) s))) h.is ∙ g.is;
}

-- a call of a function, in a step more than its arguments and what it does
pub r_call : {P : TypedProgram} {l : ℕ} {c : Kind} {f w k j : ℕ} {es : Terms} {s s' : State}
    → Passes P f es [] s k w s' j → Gives P (call l c f es) s (suc k) w s' j
r_call {P = P} {l = l} {c = c} {f = f} {k = k} {es = es} {s = s} h = record {
  is = of_node P l c _ (Call (Func f) (all_typed es)) (at s (suc k)) (nodes.rolls-Call (Func f) (all_typed es)) ∙ h.is;
}

-- a call of `putchar` puts a byte out, in two steps more than its argument takes
pub r_put : {P : TypedProgram} {l w k j : ℕ} {e : Term} {s s' s'' : State}
    → Gives P e s k w s' (suc j)
    → record s' { output = s'.output ++ (w % 256) ∷ [] } ≡ s''
    → Gives P (put l e) s (suc k) (w % 256) s'' j
r_put {P = P} {l = l} {w = w} {k = k} {j = j} {e = e} {s = s} {s' = s'} h f = record {
  is = of_node P l Int _ (Call PutChar (typed e ∷ [])) (at s (suc k)) (nodes.rolls-Call PutChar (typed e ∷ []))
      ∙ ap (λ (r : Result). then r (λ v s. want v s (λ w. arguments (meaning P) P PutChar [] (w ∷ []) s))) h.is
      ∙ ap (λ (y : State). Go (Value (w % 256)) (at y j)) f;
}

-- STATEMENTS

-- an expression statement does what its expression does, in a step more
pub r_plain : {P : TypedProgram} {k j w : ℕ} {e : Term} {s s' : State} → Gives P e s k w s' j
    → Runs P (plain e) s (suc k) Nothing s' j
r_plain {P = P} {k = k} {e = e} {s = s} h = record {
  is = of_level P _ (Plain (Some (typed e))) (at s (suc k)) (stmts.rolls-Plain (Some (typed e)))
      ∙ ap (λ (r : Result). then r dropped) h.is;
}

-- a statement that ends is followed by those behind it
pub r_next : {P : TypedProgram} {st : Code} {all : List Code} {v : Signal} {k j i : ℕ} {s s' s'' : State}
    → Runs P st s k Nothing s' j → Follow P all s' j v s'' i → Follow P (st ∷ all) s k v s'' i
r_next {P = P} {all = all} h f = record {
  is = ap (λ (r : Result). then r (λ v s. going_on v s (sequence (meaning P) (map stated all)))) h.is ∙ f.is;
}

-- a statement that returns is followed by none
pub r_last : {P : TypedProgram} {st : Code} {all : List Code} {w : Option ℕ} {k j : ℕ} {s s' : State}
    → Runs P st s k (Returns w) s' j → Follow P (st ∷ all) s k (Returns w) s' j
r_last {P = P} {all = all} h = record {
  is = ap (λ (r : Result). then r (λ v s. going_on v s (sequence (meaning P) (map stated all)))) h.is;
}

-- a declaration with a first value sets its scalar, in a step more than the value takes
pub r_initialise : {P : TypedProgram} {i w k j : ℕ} {e : Term} {s s' s'' u : State} {old new : Option ℕ}
    → slice_get s.scalars i ≡ Some old → record s { scalars = slice_set s.scalars i None } ≡ s'
    → Gives P e s' k w s'' j → slice_get s''.scalars i ≡ Some new
    → record s'' { scalars = slice_set s''.scalars i (Some w) } ≡ u
    → Runs P (initialise i e) s (suc k) Nothing u j
r_initialise {P = P} {i = i} {w = w} {k = k} {j = j} {e = e} {s = s} {s' = s'} {s'' = s''} h f g b q = record {
  is = of_level P _ (Declare (place.Scalar i) (Some (typed e))) (at s (suc k))
      (stmts.rolls-Declare (place.Scalar i) (Some (typed e)))
      ∙ ap (λ (x : Option (Option ℕ)). unset (meaning P) i (Some (typed e)) x (at s k)) h
      ∙ ap (λ (x : State). then (meaning P (Of (typed e)) (at x k)) (initialised i)) f
      ∙ ap (λ (r : Result). then r (initialised i)) g.is
      ∙ ap (λ (x : Option (Option ℕ)). then (store_in x (at s'' j) (InScalar i) w) dropped) b
      ∙ ap (λ (x : State). Go Nothing (at x j)) q;
}

-- an `if` whose test is not 0 does what its statement does, in a step more than both take
pub r_when : {P : TypedProgram} {t : Term} {c : Code} {w k j i : ℕ} {v : Signal} {s s' s'' : State}
    → Gives P t s k w s' j → is_false w ≡ false → Runs P c s' j v s'' i → Runs P (when t c) s (suc k) v s'' i
r_when {P = P} {t = t} {c = c} {k = k} {j = j} {s = s} {s' = s'} g e h = record {
  is = of_level P _ (If (typed t) (stated c) None) (at s (suc k)) (stmts.rolls-If (typed t) (stated c) None)
      ∙ ap (λ (r : Result). then r (after_if (meaning P) (stated c) None)) g.is
      ∙ ap (λ (b : Bool). cond b (Go Nothing (at s' j)) (meaning P (Run (stated c)) (at s' j))) e
      ∙ h.is;
}

-- and else does nothing
pub r_unless : {P : TypedProgram} {t : Term} {c : Code} {w k j : ℕ} {s s' : State}
    → Gives P t s k w s' j → is_false w ≡ true → Runs P (when t c) s (suc k) Nothing s' j
r_unless {P = P} {t = t} {c = c} {k = k} {j = j} {s = s} {s' = s'} g e = record {
  is = of_level P _ (If (typed t) (stated c) None) (at s (suc k)) (stmts.rolls-If (typed t) (stated c) None)
      ∙ ap (λ (r : Result). then r (after_if (meaning P) (stated c) None)) g.is
      ∙ ap (λ (b : Bool). cond b (Go Nothing (at s' j)) (meaning P (Run (stated c)) (at s' j))) e;
}

-- a `return` gives the value of its expression, in a step more than it takes
pub r_give : {P : TypedProgram} {e : Term} {w k j : ℕ} {s s' : State} → Gives P e s k w s' j
    → Runs P (give e) s (suc k) (Returns (Some w)) s' j
r_give {P = P} {e = e} {k = k} {s = s} h = record {
  is = of_level P _ (Return (Some (typed e))) (at s (suc k)) (stmts.rolls-Return (Some (typed e)))
      ∙ ap (λ (r : Result). then r returning) h.is;
}

-- two statements in braces, in a step more than they take
pub r_pair : {P : TypedProgram} {a b : Code} {k j i : ℕ} {s s' s'' : State}
    → Runs P a s k Nothing s' j → Runs P b s' j Nothing s'' i → Runs P (pair a b) s (suc k) Nothing s'' i
r_pair {P = P} {a = a} {b = b} {k = k} {s = s} f g = record {
  is = of_level P _ (Compound (stated a ∷ stated b ∷ [])) (at s (suc k))
      (stmts.rolls-Compound (stated a ∷ stated b ∷ []))
      ∙ ap (λ (r : Result). then r (λ v s. going_on v s (sequence (meaning P) (stated b ∷ [])))) f.is
      ∙ ap (λ (r : Result). then r (λ v s. going_on v s (sequence (meaning P) []))) g.is;
}

-- LOOPS

-- a `while` from its test on goes on without a signal
pub record Turns (P : TypedProgram) (t : Term) (c : Code) (s : State) (k : ℕ) (s' : State) (j : ℕ) : Type 0 where
  pub is : meaning P (Turn (Some (typed t)) None (stated c)) (at s k) ≡ Go Nothing (at s' j)

-- a `while` does its turns, in a step more
pub r_repeat : {P : TypedProgram} {t : Term} {c : Code} {k j : ℕ} {s s' : State}
    → Turns P t c s k s' j → Runs P (repeat t c) s (suc k) Nothing s' j
r_repeat {P = P} {t = t} {c = c} {k = k} {s = s} h = record {
  is = of_level P _ (While (typed t) (stated c)) (at s (suc k)) (stmts.rolls-While (typed t) (stated c)) ∙ h.is;
}

-- a turn, and what follows it
pub r_turn : {P : TypedProgram} {t : Term} {c : Code} {w k j i h : ℕ} {s s' s'' u : State}
    → Gives P t s k w s' j → is_false w ≡ false → Runs P c s' j Nothing s'' i → Turns P t c s'' i u h
    → Turns P t c s k u h
r_turn {P = P} {t = t} {c = c} {k = k} {j = j} {s = s} {s' = s'} g e f r = record {
  is = meaning-is P (Turn (Some (typed t)) None (stated c)) (at s k)
      ∙ ap (λ (x : Result). then x (after_test (meaning P) (Some (typed t)) None (stated c))) g.is
      ∙ ap (λ (b : Bool). cond b (Go Nothing (at s' j)) (then (meaning P (Run (stated c)) (at s' j))
      (after_body (meaning P) (Some (typed t)) None (stated c)))) e
      ∙ ap (λ (x : Result). then x (after_body (meaning P) (Some (typed t)) None (stated c))) f.is
      ∙ r.is;
}

-- the end
pub r_end : {P : TypedProgram} {t : Term} {c : Code} {w k j : ℕ} {s s' u : State}
    → Gives P t s k w s' j → is_false w ≡ true → s' ≡ u → Turns P t c s k u j
r_end {P = P} {t = t} {c = c} {k = k} {j = j} {s = s} {s' = s'} g e q = record {
  is = meaning-is P (Turn (Some (typed t)) None (stated c)) (at s k)
      ∙ ap (λ (x : Result). then x (after_test (meaning P) (Some (typed t)) None (stated c))) g.is
      ∙ ap (λ (b : Bool). cond b (Go Nothing (at s' j)) (then (meaning P (Run (stated c)) (at s' j))
      (after_body (meaning P) (Some (typed t)) None (stated c)))) e
      ∙ ap (λ (x : State). Go Nothing (at x j)) q;
}

-- the same end by other words
pub turns_to : {P : TypedProgram} {t : Term} {c : Code} {k j : ℕ} {s s' u : State}
    → Turns P t c s k s' j → s' ≡ u → Turns P t c s k u j
turns_to {j = j} h q = record { is = h.is ∙ ap (λ (x : State). Go Nothing (at x j)) q }

-- the body of a function does what its statements do, in a step more
pub body_gives : {P : TypedProgram} {all : List Code} {v : Signal} {k j : ℕ} {s s' : State} → Follow P all s k v s' j
    → meaning P (Run (body all)) (at s (suc k)) ≡ Go v (at s' j)
body_gives {P = P} {all = all} {k = k} {s = s} h =
    of_level P _ (Compound (map stated all)) (at s (suc k)) (stmts.rolls-Compound (map stated all)) ∙ h.is
