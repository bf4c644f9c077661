-- No statement and no task takes back what was put out, or gives back a step.
use Rattle.std.proofs.Common.{ℕ, zero, suc, ◌+◌, length, List, [], ◌∷◌, Option, Some, None, slice_get}
use Rattle.std.proofs.Common.{slice_set, replicate}
use Rattle.c_tree.specs.declared.Place.{Place}
use Rattle.c_tree.specs.declared.Place.TheVariants as place
use Rattle.c_tree.specs.declared.TypedExpr.{TypedExpr}
use Rattle.c_tree.specs.declared.TypedStmt.{TypedStmt, out-TypedStmt}
use Rattle.c_tree.specs.declared.TypedForInit.{out-TypedForInit}
use Rattle.c_tree.specs.declared.TypedForInit.TheOpen.{Declare, Plain, Compound, If, While, Do, For}
use Rattle.c_tree.specs.declared.TypedForInit.TheOpen.{Switch, Break, Continue, Return}
use Rattle.c_tree.specs.declared.TypedSection.{TypedSection}
use Rattle.c_tree.specs.declared.TypedForInit.TheOpen as init
use Rattle.c_tree.specs.declared.TypedProgram.{TypedProgram}
use Rattle.c_meaning_spec.specs.declared.signal.Signal.{Signal}
use Rattle.c_meaning_spec.specs.declared.signal.Signal.TheVariants.{Nothing, Breaks, Continues}
use Rattle.c_meaning_spec.specs.declared.signal.Object.TheVariants.{InScalar}
use Rattle.c_meaning_spec.specs.State.{State, Result}
use Rattle.c_meaning_spec.specs.inside.State.{then}
use Rattle.c_meaning_spec.specs.State.{cell, written, store}
use Rattle.c_meaning_spec.specs.Word.{is_false}
use Rattle.c_meaning_spec.specs.Task.{Task, Of, Run, Turn, Parts}
use Rattle.c_tree.specs.TypedTrees.{node_of, Level, Beginning}
use Rattle.c_meaning_spec.specs.Statement.{going_on, sequence, dropped, initialised, unset, unset_row}
use Rattle.c_meaning_spec.specs.Statement.{declare, run_if, after_if, then_turn, locals, begin}
use Rattle.c_meaning_spec.specs.Statement.{after_body, after_test, turn, returning, begun, Target}
use Rattle.c_meaning_spec.specs.Statement.{targets, run_from, compared, after_switch}
use Rattle.c_meaning_spec.specs.Eval.{perform, evaluated, enough, meaning}
use Rattle.c_meaning_spec.proofs.Puts.{Puts, p-go, p-over, p-then, p-want, p-cond, p-spend, p-store}
use Rattle.c_meaning_spec.proofs.Puts.{p-after_sections, p-compared_by}
use Rattle.c_meaning_spec.proofs.ExpressionsPut.{p-run, p-expression}
use Rattle.c_meaning_spec.proofs.ExpressionsPut

module _ (rec : Parts) (below : (t : Task) (s : State) → Puts s.output s.stock (rec t s)) where
  -- an expression and what follows it take nothing back where neither does
  abbrev p-of : (e : TypedExpr) (s : State) (f : Signal → State → Result)
      → ((v : Signal) (u : State) → Puts u.output u.stock (f v u)) → Puts s.output s.stock (then (rec (Of e) s) f)
  p-of = ExpressionsPut.p-of rec below

  -- what goes on where nothing broke off takes nothing back
  pub p-going_on : (v : Signal) (s : State) (f : State → Result)
      → ((u : State) → Puts u.output u.stock (f u)) → Puts s.output s.stock (going_on v s f)
  p-going_on Nothing s f h = h s
  p-going_on _ s f h = p-go _ s

  -- statements one after another take nothing back where each does not
  pub p-sequence : (all : List TypedStmt) (s : State) → Puts s.output s.stock (sequence rec all s)
  p-sequence [] s = p-go _ s
  p-sequence (st ∷ rest) s = p-run rec below st s _ (λ v u. p-going_on v u _ (p-sequence rest))

  -- the statements of a switch's sections take nothing back where each does not
  pub p-run_from : (all : List TypedStmt) (s : State)
      → Puts s.output s.stock (run_from rec all s)
  p-run_from all s = p-then s.output s.stock (sequence rec all s) _ (p-sequence all s) p-after_sections

  -- the labels of a switch that are compared, and what runs behind, take nothing back
  pub p-compared : (w : ℕ) (ts : List Target) (other : List TypedStmt) (s : State)
      → Puts s.output s.stock (compared rec w ts other s)
  p-compared w [] other s = p-run_from other s
  p-compared w (t ∷ ts) other s =
      p-compared_by w t.label _ _ _ (p-run_from t.statements) (p-compared w ts other)
      (p-compared w ts t.statements) s

  -- what follows the test of a switch takes nothing back
  pub p-after_switch : (xs : List TypedSection) (v : Signal) (s : State)
      → Puts s.output s.stock (after_switch rec xs v s)
  p-after_switch xs v s = p-want v s _ (λ w. p-compared w (targets xs) [] s)

  -- a value that is dropped takes nothing back
  pub p-dropped : (v : Signal) (s : State) → Puts s.output s.stock (dropped v s)
  p-dropped v s = p-go _ s

  -- a scalar's first value takes nothing back
  pub p-initialised : (i : ℕ) (v : Signal) (s : State) → Puts s.output s.stock (initialised i v s)
  p-initialised i v s = p-want v s _ (λ w. p-then s.output s.stock (store s (InScalar i) w) _
      (p-store s (InScalar i) w) p-dropped)

  p-unset : (i : ℕ) (e : Option TypedExpr) (c : Option (Option ℕ)) (s : State)
      → Puts s.output s.stock (unset rec i e c s)
  p-unset i e None s = p-over _ s
  p-unset i None (Some c) s = p-go _ (written s (InScalar i) None)
  p-unset i (Some e) (Some c) s = p-of e (written s (InScalar i) None) _ (p-initialised i)

  p-unset_row : (a : ℕ) (row : Option (List (Option ℕ))) (s : State)
      → Puts s.output s.stock (unset_row a row s)
  p-unset_row a None s = p-over _ s
  p-unset_row a (Some row) s = p-go _ (record s {
    arrays = slice_set s.arrays a
        (replicate (length row) None);
  })

  p-declare : (p : Place) (e : Option TypedExpr) (s : State)
      → Puts s.output s.stock (declare rec p e s)
  p-declare (place.Scalar i) e s = p-unset i e (cell s (InScalar i)) s
  p-declare (place.Array a) None s = p-unset_row (s.base + a) (slice_get s.arrays (s.base + a)) s
  p-declare (place.Array a) (Some e) s = p-over _ s
  p-declare (place.Global g) e s = p-over _ s

  p-run_if : (o : Option TypedStmt) (s : State) → Puts s.output s.stock (run_if rec o s)
  p-run_if None s = p-go _ s
  p-run_if (Some st) s = below (Run st) s

  -- what follows the test of an `if` takes nothing back
  pub p-after_if : (a : TypedStmt) (b : Option TypedStmt) (v : Signal) (s : State)
      → Puts s.output s.stock (after_if rec a b v s)
  p-after_if a b v s = p-want v s _ (λ w. p-cond (is_false w) s.output s.stock _ _ (p-run_if b s)
      (below (Run a) s))

  -- a loop's next turn, behind what comes first, takes nothing back where the parts do not
  pub p-then_turn : (o test post : Option TypedExpr) (body : TypedStmt) (s : State)
      → Puts s.output s.stock (then_turn rec o test post body s)
  p-then_turn None test post body s = below (Turn test post body) s
  p-then_turn (Some e) test post body s = p-of e s _ (λ v u. below (Turn test post body) u)

  -- a loop behind the locals of its first part takes nothing back
  pub p-locals : (all : List TypedStmt) (test post : Option TypedExpr) (body : TypedStmt)
      (s : State) → Puts s.output s.stock (locals rec all test post body s)
  p-locals [] test post body s = below (Turn test post body) s
  p-locals (st ∷ rest) test post body s =
      p-run rec below st s _ (λ v u. p-going_on v u _ (p-locals rest test post body))

  p-begin : (f : Beginning) (test post : Option TypedExpr) (body : TypedStmt) (s : State)
      → Puts s.output s.stock (begin rec f test post body s)
  p-begin init.Nothing test post body s = below (Turn test post body) s
  p-begin (init.First e) test post body s = p-then_turn (Some e) test post body s
  p-begin (init.Locals all) test post body s = p-locals all test post body s

  -- what follows the body of a loop takes nothing back
  pub p-after_body : (test post : Option TypedExpr) (body : TypedStmt) (v : Signal) (s : State)
      → Puts s.output s.stock (after_body rec test post body v s)
  p-after_body test post body Nothing s = p-then_turn post test post body s
  p-after_body test post body Continues s = p-then_turn post test post body s
  p-after_body test post body Breaks s = p-go _ s
  p-after_body test post body _ s = p-go _ s

  -- what follows the test of a loop takes nothing back
  pub p-after_test : (test post : Option TypedExpr) (body : TypedStmt) (v : Signal) (s : State)
      → Puts s.output s.stock (after_test rec test post body v s)
  p-after_test test post body v s =
      p-want v s _ (λ w. p-cond (is_false w) s.output s.stock _ _ (p-go _ s)
      (p-run rec below body s _ (p-after_body test post body)))

  p-turn : (test post : Option TypedExpr) (body : TypedStmt) (s : State)
      → Puts s.output s.stock (turn rec test post body s)
  p-turn None post body s = p-run rec below body s _ (p-after_body None post body)
  p-turn (Some t) post body s = p-of t s _ (p-after_test (Some t) post body)

  -- a value that is returned takes nothing back
  pub p-returning : (v : Signal) (s : State) → Puts s.output s.stock (returning v s)
  p-returning v s = p-want v s _ (λ w. p-go _ s)

  -- no statement takes anything back where its parts do not
  pub p-begun : (st : Level) (s : State) → Puts s.output s.stock (begun rec st s)
  p-begun (Declare p e) s = p-declare p e s
  p-begun (Plain None) s = p-go _ s
  p-begun (Plain (Some e)) s = p-of e s _ p-dropped
  p-begun (Compound all) s = p-sequence all s
  p-begun (If t a b) s = p-of t s _ (p-after_if a b)
  p-begun (While t body) s = below (Turn (Some t) None body) s
  p-begun (Do body t) s = p-run rec below body s _ (p-after_body (Some t) None body)
  p-begun (For f test post body) s = p-begin (out-TypedForInit f) test post body s
  p-begun (Switch i t xs) s = p-of t s _ (p-after_switch xs)
  p-begun Break s = p-go _ s
  p-begun Continue s = p-go _ s
  p-begun (Return None) s = p-go _ s
  p-begun (Return (Some e)) s = p-of e s _ p-returning

  -- no task takes anything back where its parts do not
  pub p-perform : (P : TypedProgram) (t : Task) (s : State)
      → Puts s.output s.stock (perform rec P t s)
  p-perform P (Of e) s = p-expression rec below P (node_of e) s
  p-perform P (Run st) s = p-spend s _ (λ u. p-begun (out-TypedStmt st) u)
  p-perform P (Turn test post body) s = p-turn test post body s

-- no task takes anything back, at any depth of evaluation
pub p-evaluated : (k : ℕ) (P : TypedProgram) (t : Task) (s : State)
    → Puts s.output s.stock (evaluated k P t s)
unfolding evaluated
p-evaluated zero P t s = p-over _ s
p-evaluated (suc k) P t s = p-perform (evaluated k P) (p-evaluated k P) P t s

-- what a task means takes nothing back
pub p-meaning : (P : TypedProgram) (t : Task) (s : State) → Puts s.output s.stock (meaning P t s)
unfolding meaning
p-meaning P t s = p-evaluated (enough s.stock) P t s
