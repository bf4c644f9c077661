-- What the expressions and the statements of the benchmark come to, one rule for each: a part of a program in a state
-- with so many steps goes on in another state with fewer.
use Rattle.std.proofs.Common.{◌≡◌, ℕ, suc, ◌+◌, ◌%◌, Bool, true, false, cond, List, [], ◌∷◌, ◌++◌, map, Option}
use Rattle.std.proofs.Common.{Some, None, refl, sym, ap, ◌∙◌, nat_eq, nat_le, length, take}
use Rattle.std.specs.Prelude.{slice_get, slice_set}
use Rattle.c_tree.specs.Limits.{most_frame_bytes}
use Rattle.c_tree.specs.declared.Kind.{Kind}
use Rattle.c_tree.specs.declared.Kind.TheVariants.{Int}
use Rattle.c_tree.specs.declared.BinaryOp.{BinaryOp}
use Rattle.c_tree.specs.declared.Place.TheVariants as place
use Rattle.c_tree.specs.declared.Callee.TheVariants.{Func, PutChar}
use Rattle.c_tree.specs.declared.TypedExpr.{TypedExpr}
use Rattle.c_tree.specs.declared.TypedNode.{TypedNode, roll-TypedNode, out-TypedNode, out-roll-TypedNode}
use Rattle.c_tree.specs.declared.TypedNode.TheVariants as nodes
use Rattle.c_tree.specs.declared.TypedNode.TheOpen.{Number, Name, Element, Call, Cast, Convert, Binary, Assign}
use Rattle.c_tree.specs.declared.TypedStmt.{TypedStmt, roll-TypedStmt, out-TypedStmt, out-roll-TypedStmt}
use Rattle.c_tree.specs.declared.TypedStmt.TheVariants as stmts
use Rattle.c_tree.specs.declared.TypedForInit.{TypedForInit, roll-TypedForInit, out-TypedForInit, out-roll-TypedForInit}
use Rattle.c_tree.specs.declared.TypedForInit.TheVariants as firsts
use Rattle.c_tree.specs.declared.TypedForInit.TheOpen.{Declare, Plain, Compound, For, Return, First}
use Rattle.c_tree.specs.declared.TypedFunc.{TypedFunc}
use Rattle.c_tree.specs.declared.TypedProgram.{TypedProgram}
use Rattle.c_tree.specs.TypedTrees.{Node, Level, Beginning}
use Rattle.c_constant.specs.Kinds.{converted}
use Rattle.c_meaning_spec.specs.declared.signal.Signal.{Signal}
use Rattle.c_meaning_spec.specs.declared.signal.Signal.TheVariants.{Nothing, Value, Returns}
use Rattle.c_meaning_spec.specs.declared.signal.Object.TheVariants.{InScalar, InArray}
use Rattle.c_meaning_spec.specs.declared.signal.Halt.TheVariants.{Faults}
use Rattle.c_meaning_spec.specs.declared.fault.Fault.TheVariants.{IllFormed}
use Rattle.c_meaning_spec.specs.State.{State, Result, Go, Over, given, held, missing, cell_in, store_in, written, want}
use Rattle.c_meaning_spec.specs.Word.{binary_fault}
use Rattle.c_meaning_spec.specs.inside.State.{then}
use Rattle.c_meaning_spec.specs.Word.{binary_of}
use Rattle.c_meaning_spec.specs.Task.{Of, Run, Turn, Parts, element as element_value}
use Rattle.c_meaning_spec.specs.Call.{frame, entered, enter, entered_if, left, arguments}
use Rattle.c_meaning_spec.specs.Expression.{expression, node, binary, after_left, operated, converting, assigned}
use Rattle.c_meaning_spec.specs.Expression as spec
use Rattle.c_meaning_spec.specs.Expression.{assign_element}
use Rattle.c_meaning_spec.specs.Statement.{statement, sequence, begin, dropped, initialised, unset, returning}
use Rattle.c_meaning_spec.specs.Statement.{after_test, after_body, going_on}
use Rattle.c_meaning_spec.specs.Eval.{meaning}
use Rattle.c_meaning_spec.proofs.Equations.{meaning-is}
use Rattle.bench_laws.proofs.Terms.{made, Term, typed, number, scalar, element, convert, cast, operation, assign, set}
use Rattle.bench_laws.proofs.Terms.{call, put, Code, stated, plain, declare, initialise, loop, give}

-- a state with so many steps left
abbrev pub at : State → ℕ → State
at s k = record s { stock = k }

-- the expression has the value, and the evaluation goes on from the one state to the other
pub record Gives (P : TypedProgram) (e : Term) (s : State) (k : ℕ) (w : ℕ) (s' : State) (j : ℕ) : Type 0 where
  pub is : meaning P (Of (typed e)) (at s k) ≡ Go (Value w) (at s' j)

-- the statement goes on with a signal
pub record Runs (P : TypedProgram) (c : Code) (s : State) (k : ℕ) (v : Signal) (s' : State) (j : ℕ) : Type 0 where
  pub is : meaning P (Run (stated c)) (at s k) ≡ Go v (at s' j)

-- so does a loop from its test on
pub record Turns (P : TypedProgram) (t p : Term) (body : Code) (s : State) (k : ℕ) (s' : State) (j : ℕ)
    : Type 0 where
  pub is : meaning P (Turn (Some (typed t)) (Some (typed p)) (stated body)) (at s k) ≡ Go Nothing (at s' j)

-- so do statements one after another
pub record Follow (P : TypedProgram) (all : List Code) (s : State) (k : ℕ) (v : Signal) (s' : State) (j : ℕ)
    : Type 0 where
  pub is : sequence (meaning P) (map stated all) (at s k) ≡ Go v (at s' j)

-- the uppermost level of a node
level_of : (m : TypedNode) (n : Node) → roll-TypedNode n ≡ m → out-TypedNode m ≡ n
level_of m n e = ap (λ (x : TypedNode). out-TypedNode x) (sym e) ∙ out-roll-TypedNode n

-- what a node does is what its uppermost level does
of_node : (P : TypedProgram) (l : ℕ) (c : Kind) (m : TypedNode) (n : Node) (s : State) → roll-TypedNode n ≡ m
    → meaning P (Of (made l c m)) s ≡ expression (meaning P) P n s
of_node P l c m n s e = meaning-is P (Of (made l c m)) s
    ∙ ap (λ (x : Node). expression (meaning P) P x s) (level_of m n e)

-- what a statement does is what its uppermost level does
of_level : (P : TypedProgram) (m : TypedStmt) (n : Level) (s : State) → roll-TypedStmt n ≡ m
    → meaning P (Run m) s ≡ statement (meaning P) n s
of_level P m n s e = meaning-is P (Run m) s
    ∙ ap (λ (x : TypedStmt). statement (meaning P) (out-TypedStmt x) s) (sym e)
    ∙ ap (λ (x : Level). statement (meaning P) x s) (out-roll-TypedStmt n)

-- the uppermost level of the first part of a `for`
first_of : (e : TypedExpr) → out-TypedForInit (firsts.First e) ≡ First e
first_of e = ap (λ (x : TypedForInit). out-TypedForInit x) (sym (firsts.rolls-First e))
    ∙ out-roll-TypedForInit (First e)

-- EXPRESSIONS

-- a number gives its word in a step
pub r_number : {P : TypedProgram} {l : ℕ} {c : Kind} {w : ℕ} {s : State} {k : ℕ} → Gives P (number l c w) s (suc k) w
    s k
r_number {P = P} {l = l} {c = c} {w = w} {s = s} {k = k} =
    record { is = of_node P l c _ (Number w) (at s (suc k)) (nodes.rolls-Number w) }

-- a scalar gives its word in a step
pub r_scalar : {P : TypedProgram} {l : ℕ} {c : Kind} {i w : ℕ} {s : State} {k : ℕ} → slice_get s.scalars i ≡ Some
    (Some w)
    → Gives P (scalar l c i) s (suc k) w s k
r_scalar {P = P} {l = l} {c = c} {i = i} {w = w} {s = s} {k = k} h = record {
  is = of_node P l c _ (Name (place.Scalar i)) (at s (suc k)) (nodes.rolls-Name (place.Scalar i))
      ∙ ap (λ (x : Option (Option ℕ)). given (held x) (missing (at s k) (InScalar i)) (at s k)) h;
}

-- an element gives the word at its index, in a step more than the index takes
pub r_element : {P : TypedProgram} {l : ℕ} {c : Kind} {g w v k j : ℕ} {e : Term} {row : List (Option ℕ)} {s s' : State}
    → Gives P e s k w s' j → slice_get s'.arrays g ≡ Some row → slice_get row w ≡ Some (Some v)
    → Gives P (element l c g e) s (suc k) v s' j
r_element {P = P} {l = l} {c = c} {g = g} {w = w} {v = v} {k = k} {j = j} {e = e} {row = row} {s = s} {s' = s'} h f x =
    record {
      is = of_node P l c _ (Element (place.Global g) None (typed e)) (at s (suc k))
          (nodes.rolls-Element (place.Global g) None (typed e))
          ∙ ap (λ (r : Result). then r (element_value (place.Global g))) h.is
          ∙ ap (λ (r : Option (List (Option ℕ))). given (held (cell_in r w)) (missing (at s' j) (InArray g w))
          (at s' j)) f
          ∙ ap (λ (r : Option (Option ℕ)). given (held r) (missing (at s' j) (InArray g w)) (at s' j)) x;
    }

-- an operation other than `&&` and `||`
abbrev pub IsEager : BinaryOp → Type 0
IsEager op = (rec : Parts) (x y : TypedExpr) (s : State)
    → binary rec op x y s ≡ then (rec (Of x) s) (after_left rec op x.kind y)

-- an operation gives what it makes of its operands, in a step more than they take
pub r_operation : {P : TypedProgram} {l : ℕ} {c : Kind} {op : BinaryOp} {a b r k j i : ℕ} {x y : Term} {s s' s'' :
    State}
    → IsEager op
    → Gives P x s k a s' j → Gives P y s' j b s'' i → binary_of op (typed x).kind a b ≡ Some r
    → Gives P (operation l c op x y) s (suc k) r s'' i
r_operation {P = P} {l = l} {c = c} {op = op} {a = a} {b = b} {k = k} {j = j} {i = i} {x = x} {y = y} {s = s} {s' = s'}
    {s'' = s''} eager g h e = record {
      is = of_node P l c _ (Binary op (typed x) (typed y)) (at s (suc k)) (nodes.rolls-Binary op (typed x) (typed y))
          ∙ eager (meaning P) (typed x) (typed y) (at s k)
          ∙ ap (λ (r : Result). then r (after_left (meaning P) op (typed x).kind (typed y))) g.is
          ∙ ap (λ (r : Result). then r (operated op (typed x).kind a)) h.is
          ∙ ap (λ (r : Option ℕ). given r (binary_fault op (typed x).kind a b) (at s'' i)) e;
    }

-- a number that is converted gives its word in the new type, in a step
pub r_convert : {P : TypedProgram} {l : ℕ} {c : Kind} {w w' : ℕ} {s : State} {k : ℕ} → converted c w ≡ w'
    → Gives P (convert l c w) s (suc k) w' s k
r_convert {P = P} {l = l} {c = c} {w = w} {s = s} {k = k} e = record {
  is = of_node P l c _ (Convert c (made l Int (nodes.Number w))) (at s (suc k))
      (nodes.rolls-Convert c (made l Int (nodes.Number w)))
      ∙ ap (λ (m : Node). then (node (meaning P) P m (at s (suc k))) (converting c))
      (level_of _ _ (nodes.rolls-Number w))
      ∙ ap (λ (n : ℕ). Go (Value n) (at s k)) e;
}

-- a cast gives the word of its operand in the new type, in a step more than it takes
pub r_cast : {P : TypedProgram} {l : ℕ} {c : Kind} {w w' k j : ℕ} {e : Term} {s s' : State}
    → Gives P e s k w s' j → converted c w ≡ w' → Gives P (cast l c e) s (suc k) w' s' j
r_cast {P = P} {l = l} {c = c} {k = k} {j = j} {e = e} {s = s} {s' = s'} h f = record {
  is = of_node P l c _ (Cast c (typed e)) (at s (suc k)) (nodes.rolls-Cast c (typed e))
      ∙ ap (λ (r : Result). then r (converting c)) h.is
      ∙ ap (λ (n : ℕ). Go (Value n) (at s' j)) f;
}

-- an assignment to a scalar sets it and gives the value, in a step more than the value takes
pub r_assign : {P : TypedProgram} {l d : ℕ} {c : Kind} {p w k j : ℕ} {e : Term} {s s' s'' : State} {old : Option ℕ}
    → Gives P e s k w s' j → slice_get s'.scalars p ≡ Some old
    → record s' { scalars = slice_set s'.scalars p (Some w) } ≡ s''
    → Gives P (assign l d c p e) s (suc k) w s'' j
r_assign {P = P} {l = l} {d = d} {c = c} {p = p} {w = w} {k = k} {j = j} {e = e} {s = s} {s' = s'} h f g = record {
  is = of_node P l c _ (Assign None c (made d c (nodes.Name (place.Scalar p))) (typed e)) (at s (suc k))
      (nodes.rolls-Assign None c (made d c (nodes.Name (place.Scalar p))) (typed e))
      ∙ ap (λ (m : Node). spec.assign (meaning P) None (Some c) c m (typed e) (at s k))
      (level_of _ _ (nodes.rolls-Name (place.Scalar p)))
      ∙ ap (λ (r : Result). then r (assigned (InScalar p))) h.is
      ∙ ap (λ (x : Option (Option ℕ)). store_in x (at s' j) (InScalar p) w) f
      ∙ ap (λ (x : State). Go (Value w) (at x j)) g;
}

-- an assignment to an element sets it and gives the value, in a step more than value and index take
pub r_set : {P : TypedProgram} {l d : ℕ} {c : Kind} {g w v k j i : ℕ} {e x : Term} {s s' s'' u : State} {row : List
    (Option ℕ)}
    {old : Option ℕ}
    → Gives P x s k w s' j → Gives P e s' j v s'' i
    → slice_get s''.arrays g ≡ Some row → slice_get row w ≡ Some old
    → written s'' (InArray g w) (Some v) ≡ u
    → Gives P (set l d c g x e) s (suc k) v u i
r_set {P = P} {l = l} {d = d} {c = c} {g = g} {w = w} {v = v} {k = k} {j = j} {i = i} {e = e} {x = x} {s = s} {s' =
    s'} {s'' = s''}
    h f a b q = record {
      is = of_node P l c _ (Assign None c (made d c (nodes.Element (place.Global g) None (typed x))) (typed e))
          (at s (suc k)) (nodes.rolls-Assign None c
          (made d c (nodes.Element (place.Global g) None (typed x))) (typed e))
          ∙ ap (λ (m : Node). spec.assign (meaning P) None (Some c) c m (typed e) (at s k))
          (level_of _ _ (nodes.rolls-Element (place.Global g) None (typed x)))
          ∙ ap (λ (r : Result). then r (assign_element (meaning P) None (Some c) c (place.Global g) (typed e))) h.is
          ∙ ap (λ (r : Result). then r (assigned (InArray g w))) f.is
          ∙ ap (λ (r : Option (List (Option ℕ))). store_in (cell_in r w) (at s'' i) (InArray g w) v) a
          ∙ ap (λ (r : Option (Option ℕ)). store_in r (at s'' i) (InArray g w) v) b
          ∙ ap (λ (y : State). Go (Value v) (at y i)) q;
    }

-- a body of a function
abbrev pub body : List Code → TypedStmt
body all = stmts.Compound (map stated all)

-- the body does what its statements do
pub body_gives : {P : TypedProgram} {all : List Code} {v : Signal} {k j : ℕ} {s s' : State} → Follow P all s k v s' j
    → meaning P (Run (body all)) (at s (suc k)) ≡ Go v (at s' j)
body_gives {P = P} {all = all} {k = k} {s = s} h =
    of_level P _ (Compound (map stated all)) (at s (suc k)) (stmts.rolls-Compound (map stated all)) ∙ h.is

-- a call of a function other than main, which returns a value
pub r_call : {P : TypedProgram} {l : ℕ} {c : Kind} {f w v k j i : ℕ} {e : Term} {F : TypedFunc} {all : List Code}
    {s s' u s'' : State}
    → Gives P e s k w s' (suc (suc j))
    → slice_get P.functions f ≡ Some F → nat_eq f P.main ≡ false → nat_eq 1 F.params ≡ true
    → nat_le (s'.room + frame F) most_frame_bytes ≡ true → F.body ≡ body all
    → Follow P all (entered F (w ∷ []) s') j (Returns (Some v)) u i
    → record u {
      scalars = s'.scalars;
      arrays = take (length s'.arrays) u.arrays;
      rows = take (length s'.arrays) u.rows;
      base = s'.base;
      room = s'.room;
    } ≡ s''
    → Gives P (call l c f e) s (suc k) v s'' i
r_call {P = P} {l = l} {c = c} {f = f} {w = w} {v = v} {k = k} {j = j} {i = i} {e = e} {F = F} {all = all} {s = s}
    {s' = s'}
    {u = u} h is_f is_other one fits is_body runs ends = record {
      is = of_node P l c _ (Call (Func f) (typed e ∷ [])) (at s (suc k)) (nodes.rolls-Call (Func f) (typed e ∷ []))
          ∙ ap (λ (r : Result). then r (λ v s. want v s (λ w. arguments (meaning P) P (Func f) [] (w ∷ []) s))) h.is
          ∙ ap (λ (m : Bool). enter (meaning P) m (slice_get P.functions f) (w ∷ []) (at s' (suc j))) is_other
          ∙ ap (λ (o : Option TypedFunc). enter (meaning P) false o (w ∷ []) (at s' (suc j))) is_f
          ∙ ap (λ (b : Bool). cond b (entered_if (meaning P) false
          (nat_le (s'.room + frame F) most_frame_bytes) F (w ∷ [])
          (at s' (suc j))) (Over (Faults IllFormed) (at s' (suc j)))) one
          ∙ ap (λ (b : Bool). entered_if (meaning P) false b F (w ∷ []) (at s' (suc j))) fits
          ∙ ap (λ (b : TypedStmt). then (meaning P (Run b) (at (entered F (w ∷ []) s') (suc j)))
          (left false s'.scalars (length s'.arrays) s'.base s'.room)) is_body
          ∙ ap (λ (r : Result). then r (left false s'.scalars (length s'.arrays) s'.base s'.room))
          (body_gives runs)
          ∙ ap (λ (y : State). Go (Value v) (at y i)) ends;
    }

-- a call of `putchar` puts a byte out, in two steps more than its argument takes
pub r_put : {P : TypedProgram} {l w k j : ℕ} {e : Term} {s s' s'' : State}
    → Gives P e s k w s' (suc j)
    → record s' { output = s'.output ++ (w % 256) ∷ [] } ≡ s''
    → Gives P (put l e) s (suc k) (w % 256) s'' j
r_put {P = P} {l = l} {w = w} {k = k} {j = j} {e = e} {s = s} {s' = s'} h f = record {
  is = of_node P l Int _ (Call PutChar (typed e ∷ [])) (at s (suc k)) (nodes.rolls-Call PutChar (typed e ∷ []))
      ∙ ap (λ (r : Result). then r (λ v s. want v s (λ w. arguments (meaning P) P PutChar [] (w ∷ []) s))) h.is
      ∙ ap (λ (y : State). Go (Value (w % 256)) (at y j)) f;
}

-- STATEMENTS

-- an expression statement does what its expression does, in a step more
pub r_plain : {P : TypedProgram} {k j w : ℕ} {e : Term} {s s' : State} → Gives P e s k w s' j
    → Runs P (plain e) s (suc k) Nothing s' j
r_plain {P = P} {k = k} {e = e} {s = s} h = record {
  is = of_level P _ (Plain (Some (typed e))) (at s (suc k)) (stmts.rolls-Plain (Some (typed e)))
      ∙ ap (λ (r : Result). then r dropped) h.is;
}

pub r_none : {P : TypedProgram} {s : State} {k : ℕ} → Follow P [] s k Nothing s k
r_none = record { is = refl }

-- a statement that ends is followed by those behind it
pub r_next : {P : TypedProgram} {st : Code} {all : List Code} {v : Signal} {k j i : ℕ} {s s' s'' : State}
    → Runs P st s k Nothing s' j → Follow P all s' j v s'' i → Follow P (st ∷ all) s k v s'' i
r_next {P = P} {all = all} h f = record {
  is = ap (λ (r : Result). then r (λ v s. going_on v s (sequence (meaning P) (map stated all)))) h.is ∙ f.is;
}

-- a statement that returns is followed by none
pub r_last : {P : TypedProgram} {st : Code} {all : List Code} {w : Option ℕ} {k j : ℕ} {s s' : State}
    → Runs P st s k (Returns w) s' j → Follow P (st ∷ all) s k (Returns w) s' j
r_last {P = P} {all = all} h = record {
  is = ap (λ (r : Result). then r (λ v s. going_on v s (sequence (meaning P) (map stated all)))) h.is;
}

-- a declaration unsets its scalar, in a step
pub r_declare : {P : TypedProgram} {i k : ℕ} {s s' : State} {old : Option ℕ} → slice_get s.scalars i ≡ Some old
    → record s { scalars = slice_set s.scalars i None } ≡ s'
    → Runs P (declare i) s (suc k) Nothing s' k
r_declare {P = P} {i = i} {k = k} {s = s} h f = record {
  is = of_level P _ (Declare (place.Scalar i) None) (at s (suc k)) (stmts.rolls-Declare (place.Scalar i) None)
      ∙ ap (λ (x : Option (Option ℕ)). unset (meaning P) i None x (at s k)) h
      ∙ ap (λ (x : State). Go Nothing (at x k)) f;
}

-- a declaration with a first value sets its scalar, in a step more than the value takes
pub r_initialise : {P : TypedProgram} {i w k j : ℕ} {e : Term} {s s' s'' u : State} {old new : Option ℕ}
    → slice_get s.scalars i ≡ Some old → record s { scalars = slice_set s.scalars i None } ≡ s'
    → Gives P e s' k w s'' j → slice_get s''.scalars i ≡ Some new
    → record s'' { scalars = slice_set s''.scalars i (Some w) } ≡ u
    → Runs P (initialise i e) s (suc k) Nothing u j
r_initialise {P = P} {i = i} {w = w} {k = k} {j = j} {e = e} {s = s} {s' = s'} {s'' = s''} h f g b q = record {
  is = of_level P _ (Declare (place.Scalar i) (Some (typed e))) (at s (suc k))
      (stmts.rolls-Declare (place.Scalar i) (Some (typed e)))
      ∙ ap (λ (x : Option (Option ℕ)). unset (meaning P) i (Some (typed e)) x (at s k)) h
      ∙ ap (λ (x : State). then (meaning P (Of (typed e)) (at x k)) (initialised i)) f
      ∙ ap (λ (r : Result). then r (initialised i)) g.is
      ∙ ap (λ (x : Option (Option ℕ)). then (store_in x (at s'' j) (InScalar i) w) dropped) b
      ∙ ap (λ (x : State). Go Nothing (at x j)) q;
}

-- a `return` gives the value of its expression, in a step more than it takes
pub r_give : {P : TypedProgram} {e : Term} {w k j : ℕ} {s s' : State} → Gives P e s k w s' j
    → Runs P (give e) s (suc k) (Returns (Some w)) s' j
r_give {P = P} {e = e} {k = k} {s = s} h = record {
  is = of_level P _ (Return (Some (typed e))) (at s (suc k)) (stmts.rolls-Return (Some (typed e)))
      ∙ ap (λ (r : Result). then r returning) h.is;
}

-- LOOPS

-- a loop does its first expression and then its turns, in a step more than they take
pub r_loop : {P : TypedProgram} {e t p : Term} {c : Code} {w k j i : ℕ} {s s' s'' : State}
    → Gives P e s k w s' j → Turns P t p c s' j s'' i → Runs P (loop e t p c) s (suc k) Nothing s'' i
r_loop {P = P} {e = e} {t = t} {p = p} {c = c} {k = k} {s = s} h f = record {
  is = of_level P _ (For (firsts.First (typed e)) (Some (typed t)) (Some (typed p)) (stated c)) (at s (suc k))
      (stmts.rolls-For (firsts.First (typed e)) (Some (typed t)) (Some (typed p)) (stated c))
      ∙ ap (λ (b : Beginning). begin (meaning P) b (Some (typed t)) (Some (typed p)) (stated c) (at s k))
      (first_of (typed e))
      ∙ ap (λ (r : Result). then r (λ v s. meaning P (Turn (Some (typed t)) (Some (typed p)) (stated c)) s)) h.is
      ∙ f.is;
}

-- a turn of a loop, and what follows it
pub r_turn : {P : TypedProgram} {t p : Term} {c : Code} {w k j i h g : ℕ} {s s' s'' u u' : State}
    → Gives P t s k 1 s' j → Runs P c s' j Nothing s'' i → Gives P p s'' i w u h → Turns P t p c u h u' g
    → Turns P t p c s k u' g
r_turn {P = P} {t = t} {p = p} {c = c} {k = k} {s = s} a b d e = record {
  is = meaning-is P (Turn (Some (typed t)) (Some (typed p)) (stated c)) (at s k)
      ∙ ap (λ (r : Result). then r (after_test (meaning P) (Some (typed t)) (Some (typed p)) (stated c))) a.is
      ∙ ap (λ (r : Result). then r (after_body (meaning P) (Some (typed t)) (Some (typed p)) (stated c))) b.is
      ∙ ap (λ (r : Result). then r (λ v s. meaning P (Turn (Some (typed t)) (Some (typed p)) (stated c)) s)) d.is
      ∙ e.is;
}

-- its end
pub r_end : {P : TypedProgram} {t p : Term} {c : Code} {k j : ℕ} {s s' : State} → Gives P t s k 0 s' j
    → Turns P t p c s k s' j
r_end {P = P} {t = t} {p = p} {c = c} {k = k} {s = s} a = record {
  is = meaning-is P (Turn (Some (typed t)) (Some (typed p)) (stated c)) (at s k)
      ∙ ap (λ (r : Result). then r (after_test (meaning P) (Some (typed t)) (Some (typed p)) (stated c))) a.is;
}
