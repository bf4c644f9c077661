-- With more steps a statement has the same result, or puts out no less.
use Rattle.std.proofs.Common.{ℕ, ◌+◌, ◌<◌, ◌≤◌, nat_eq, List, [], ◌∷◌, Option, Some, None, slice_get}
use Rattle.std.proofs.Common.{arith}
use Rattle.c_tree.specs.declared.Place.{Place}
use Rattle.c_tree.specs.declared.Place.TheVariants as place
use Rattle.c_tree.specs.declared.TypedExpr.{TypedExpr}
use Rattle.c_tree.specs.declared.TypedStmt.{TypedStmt}
use Rattle.c_tree.specs.declared.TypedForInit.{out-TypedForInit}
use Rattle.c_tree.specs.declared.TypedForInit.TheOpen.{Declare, Plain, Compound, If, While, Do, For}
use Rattle.c_tree.specs.declared.TypedForInit.TheOpen.{Switch, Break, Continue, Return}
use Rattle.c_tree.specs.declared.TypedSection.{TypedSection}
use Rattle.c_tree.specs.declared.TypedForInit.TheOpen as init
use Rattle.c_meaning_spec.specs.declared.signal.Signal.{Signal}
use Rattle.c_meaning_spec.specs.declared.signal.Signal.TheVariants.{Nothing, Breaks, Continues}
use Rattle.c_meaning_spec.specs.declared.signal.Object.TheVariants.{InScalar}
use Rattle.c_meaning_spec.specs.State.{State, Result}
use Rattle.c_meaning_spec.specs.inside.State.{then}
use Rattle.c_meaning_spec.specs.State.{written}
use Rattle.c_meaning_spec.specs.Word.{is_false}
use Rattle.c_meaning_spec.specs.Task.{Task, Of, Run, Turn, Parts}
use Rattle.c_tree.specs.TypedTrees.{Level, Beginning}
use Rattle.c_meaning_spec.specs.Statement.{going_on, sequence, initialised, unset, declare, run_if}
use Rattle.c_meaning_spec.specs.Statement.{after_if, then_turn, locals, begin, after_body, after_test}
use Rattle.c_meaning_spec.specs.Statement.{turn, begun, statement, Target, targets, run_from}
use Rattle.c_meaning_spec.specs.Statement.{compared_by, compared, after_switch}
use Rattle.c_meaning_spec.proofs.Puts.{Puts, p-cond, p-after_sections}
use Rattle.c_meaning_spec.proofs.StatementsPut.{p-run_from, p-compared, p-after_switch, p-going_on}
use Rattle.c_meaning_spec.proofs.StatementsPut.{p-sequence, p-dropped, p-initialised, p-after_if}
use Rattle.c_meaning_spec.proofs.StatementsPut.{p-locals, p-after_body, p-after_test, p-returning}
use Rattle.c_meaning_spec.proofs.StatementsPut.{p-begun}
use Rattle.c_meaning_spec.proofs.Grows.{more, Grew, g-then, g-spend, g-returning, g-dropped, g-go}
use Rattle.c_meaning_spec.proofs.Grows.{g-cond, g-want, g-unset_row, g-undefined, g-store}
use Rattle.c_meaning_spec.proofs.Grows.{g-after_sections}
use Rattle.c_meaning_spec.proofs.ExpressionsGrow

module _ (d n : ℕ) (rec rec' : Parts) (below : (t : Task) (s : State) → s.stock < n → Grew d n (rec t s)
    (rec' t (more d s))) (puts : (t : Task) (s : State) → Puts s.output s.stock (rec' t s)) where
  -- an expression and what follows it grow where both do
  abbrev g-of : (e : TypedExpr) (s : State) (f f' : Signal → State → Result) → s.stock < n
      → ((v : Signal) (s : State) → s.stock < n → Grew d n (f v s) (f' v (more d s)))
      → ((v : Signal) (u : State) → Puts u.output u.stock (f' v u))
      → Grew d n (then (rec (Of e) s) f) (then (rec' (Of e) (more d s)) f')
  g-of = ExpressionsGrow.g-of d n rec rec' below puts

  -- a statement and what follows it grow where both do
  abbrev g-run : (st : TypedStmt) (s : State) (f f' : Signal → State → Result) → s.stock < n
      → ((v : Signal) (s : State) → s.stock < n → Grew d n (f v s) (f' v (more d s)))
      → ((v : Signal) (u : State) → Puts u.output u.stock (f' v u))
      → Grew d n (then (rec (Run st) s) f) (then (rec' (Run st) (more d s)) f')
  g-run = ExpressionsGrow.g-run d n rec rec' below puts

  g-going_on : (v : Signal) (s : State) (f f' : State → Result) → s.stock < n
      → Grew d n (f s) (f' (more d s)) → Grew d n (going_on v s f) (going_on v (more d s) f')
  g-going_on Nothing s f f' h g = g
  g-going_on _ s f f' h g = g-go d n _ s h

  g-sequence : (all : List TypedStmt) (s : State) → s.stock < n
      → Grew d n (sequence rec all s) (sequence rec' all (more d s))
  g-sequence [] s h = g-go d n _ s h
  g-sequence (st ∷ rest) s h =
      g-run st s _ _ h (λ v s h. g-going_on v s _ _ h (g-sequence rest s h))
      (λ v u. p-going_on rec' puts v u _ (p-sequence rec' puts rest))

  g-run_from : (all : List TypedStmt) (s : State) → s.stock < n
      → Grew d n (run_from rec all s) (run_from rec' all (more d s))
  g-run_from all s h = g-then d n _ _ _ _ (g-sequence all s h) (g-after_sections d n) p-after_sections

  g-compared_by : (w : ℕ) (l : Option ℕ) (here here' there there' fallback fallback' : State → Result)
      → ((u : State) → u.stock < n → Grew d n (here u) (here' (more d u)))
      → ((u : State) → u.stock < n → Grew d n (there u) (there' (more d u)))
      → ((u : State) → u.stock < n → Grew d n (fallback u) (fallback' (more d u)))
      → ((u : State) → Puts u.output u.stock (here' u))
      → ((u : State) → Puts u.output u.stock (there' u)) → (s : State) → s.stock < n
      → Grew d n (compared_by w l here there fallback s)
      (compared_by w l here' there' fallback' (more d s))
  g-compared_by w None here here' there there' fallback fallback' a b c p q s h = c s h
  g-compared_by w (Some m) here here' there there' fallback fallback' a b c p q s h =
      g-spend d n s _ _ (omega arith)
      (λ u k. g-cond d n (nat_eq w m) _ _ _ _ (a u k) (b u k))
      (λ u. p-cond (nat_eq w m) u.output u.stock _ _ (p u) (q u))

  g-compared : (w : ℕ) (ts : List Target) (other : List TypedStmt) (s : State) → s.stock < n
      → Grew d n (compared rec w ts other s) (compared rec' w ts other (more d s))
  g-compared w [] other s h = g-run_from other s h
  g-compared w (t ∷ ts) other s h =
      g-compared_by w t.label _ _ _ _ _ _ (g-run_from t.statements) (g-compared w ts other)
      (g-compared w ts t.statements) (p-run_from rec' puts t.statements)
      (p-compared rec' puts w ts other) s h

  g-after_switch : (xs : List TypedSection) (v : Signal) (s : State) → s.stock < n
      → Grew d n (after_switch rec xs v s) (after_switch rec' xs v (more d s))
  g-after_switch xs v s h = g-want d n v s _ _ (λ w. g-compared w (targets xs) [] s h)

  g-initialised : (i : ℕ) (v : Signal) (s : State) → s.stock < n
      → Grew d n (initialised i v s) (initialised i v (more d s))
  g-initialised i v s h =
      g-want d n v s _ _ (λ w. g-then d n _ _ _ _ (g-store d n s (InScalar i) w h) (g-dropped d n)
      (p-dropped rec' puts))

  g-unset : (i : ℕ) (e : Option TypedExpr) (c : Option (Option ℕ)) (s : State) → s.stock < n
      → Grew d n (unset rec i e c s) (unset rec' i e c (more d s))
  g-unset i e None s h = g-undefined d n s
  g-unset i None (Some c) s h = g-go d n _ (written s (InScalar i) None) h
  g-unset i (Some e) (Some c) s h = g-of e (written s (InScalar i) None) _ _ h (g-initialised i)
      (p-initialised rec' puts i)

  g-declare : (p : Place) (e : Option TypedExpr) (s : State) → s.stock < n
      → Grew d n (declare rec p e s) (declare rec' p e (more d s))
  g-declare (place.Scalar i) e s h = g-unset i e (slice_get s.scalars i) s h
  g-declare (place.Array a) None s h = g-unset_row d n (s.base + a)
      (slice_get s.arrays (s.base + a)) s h
  g-declare (place.Array a) (Some e) s h = g-undefined d n s
  g-declare (place.Global a) e s h = g-undefined d n s

  g-run_if : (o : Option TypedStmt) (s : State) → s.stock < n
      → Grew d n (run_if rec o s) (run_if rec' o (more d s))
  g-run_if None s h = g-go d n _ s h
  g-run_if (Some st) s h = below (Run st) s h

  g-after_if : (a : TypedStmt) (b : Option TypedStmt) (v : Signal) (s : State) → s.stock < n
      → Grew d n (after_if rec a b v s) (after_if rec' a b v (more d s))
  g-after_if a b v s h = g-want d n v s _ _
      (λ w. g-cond d n (is_false w) _ _ _ _ (g-run_if b s h) (below (Run a) s h))

  g-then_turn : (o test post : Option TypedExpr) (body : TypedStmt) (s : State) → s.stock < n
      → Grew d n (then_turn rec o test post body s) (then_turn rec' o test post body (more d s))
  g-then_turn None test post body s h = below (Turn test post body) s h
  g-then_turn (Some e) test post body s h =
      g-of e s _ _ h (λ v s h. below (Turn test post body) s h)
      (λ v u. puts (Turn test post body) u)

  g-locals : (all : List TypedStmt) (test post : Option TypedExpr) (body : TypedStmt) (s : State)
      → s.stock < n → Grew d n (locals rec all test post body s)
      (locals rec' all test post body (more d s))
  g-locals [] test post body s h = below (Turn test post body) s h
  g-locals (st ∷ rest) test post body s h =
      g-run st s _ _ h (λ v s h. g-going_on v s _ _ h (g-locals rest test post body s h))
      (λ v u. p-going_on rec' puts v u _ (p-locals rec' puts rest test post body))

  g-begin : (f : Beginning) (test post : Option TypedExpr) (body : TypedStmt) (s : State) → s.stock < n
      → Grew d n (begin rec f test post body s) (begin rec' f test post body (more d s))
  g-begin init.Nothing test post body s h = below (Turn test post body) s h
  g-begin (init.First e) test post body s h = g-then_turn (Some e) test post body s h
  g-begin (init.Locals all) test post body s h = g-locals all test post body s h

  g-after_body : (test post : Option TypedExpr) (body : TypedStmt) (v : Signal) (s : State)
      → s.stock < n → Grew d n (after_body rec test post body v s)
      (after_body rec' test post body v (more d s))
  g-after_body test post body Nothing s h = g-then_turn post test post body s h
  g-after_body test post body Continues s h = g-then_turn post test post body s h
  g-after_body test post body Breaks s h = g-go d n _ s h
  g-after_body test post body _ s h = g-go d n _ s h

  g-after_test : (test post : Option TypedExpr) (body : TypedStmt) (v : Signal) (s : State)
      → s.stock < n → Grew d n (after_test rec test post body v s)
      (after_test rec' test post body v (more d s))
  g-after_test test post body v s h =
      g-want d n v s _ _ (λ w. g-cond d n (is_false w) _ _ _ _ (g-go d n _ s h)
      (g-run body s _ _ h (g-after_body test post body) (p-after_body rec' puts test post body)))

  g-begun : (st : Level) (s : State) → s.stock < n
      → Grew d n (begun rec st s) (begun rec' st (more d s))
  g-begun (Declare p e) s h = g-declare p e s h
  g-begun (Plain None) s h = g-go d n _ s h
  g-begun (Plain (Some e)) s h = g-of e s _ _ h (g-dropped d n) (p-dropped rec' puts)
  g-begun (Compound all) s h = g-sequence all s h
  g-begun (If t a b) s h = g-of t s _ _ h (g-after_if a b) (p-after_if rec' puts a b)
  g-begun (While t body) s h = below (Turn (Some t) None body) s h
  g-begun (Do body t) s h = g-run body s _ _ h (g-after_body (Some t) None body)
      (p-after_body rec' puts (Some t) None body)
  g-begun (For f test post body) s h = g-begin (out-TypedForInit f) test post body s h
  g-begun (Switch i t xs) s h = g-of t s _ _ h (g-after_switch xs) (p-after_switch rec' puts xs)
  g-begun Break s h = g-go d n _ s h
  g-begun Continue s h = g-go d n _ s h
  g-begun (Return None) s h = g-go d n _ s h
  g-begun (Return (Some e)) s h = g-of e s _ _ h (g-returning d n) (p-returning rec' puts)

  -- a statement grows where its parts do
  pub g-statement : (st : Level) (s : State) → s.stock ≤ n
      → Grew d n (statement rec st s) (statement rec' st (more d s))
  g-statement st s h = g-spend d n s _ _ h (λ s h. g-begun st s h) (p-begun rec' puts st)

  -- a loop's turn grows where its parts do
  pub g-turn : (test post : Option TypedExpr) (body : TypedStmt) (s : State)
      → ((e : TypedExpr) → Grew d n (rec (Of e) s) (rec' (Of e) (more d s)))
      → ((st : TypedStmt) → Grew d n (rec (Run st) s) (rec' (Run st) (more d s)))
      → Grew d n (turn rec test post body s) (turn rec' test post body (more d s))
  g-turn None post body s he hs = g-then d n _ _ _ _ (hs body) (g-after_body None post body)
      (p-after_body rec' puts None post body)
  g-turn (Some t) post body s he hs = g-then d n _ _ _ _ (he t) (g-after_test (Some t) post body)
      (p-after_test rec' puts (Some t) post body)
