-- With its places a statement is the same but for what is told.
use Rattle.std.proofs.Common.{◌≡◌, ℕ, ◌+◌, nat_eq, List, [], ◌∷◌, Option, Some, None, slice_get}
use Rattle.c_tree.specs.declared.Place.{Place}
use Rattle.c_tree.specs.declared.Place.TheVariants as place
use Rattle.c_tree.specs.declared.TypedExpr.{TypedExpr}
use Rattle.c_tree.specs.declared.TypedStmt.{TypedStmt}
use Rattle.c_tree.specs.declared.TypedForInit.{out-TypedForInit}
use Rattle.c_tree.specs.declared.TypedForInit.TheOpen.{Declare, Plain, Compound, If, While, Do, For}
use Rattle.c_tree.specs.declared.TypedForInit.TheOpen.{Switch, Break, Continue, Return}
use Rattle.c_tree.specs.declared.TypedSection.{TypedSection}
use Rattle.c_tree.specs.declared.TypedForInit.TheOpen as init
use Rattle.c_meaning_spec.specs.declared.signal.Signal.{Signal}
use Rattle.c_meaning_spec.specs.declared.signal.Signal.TheVariants.{Nothing, Breaks, Continues}
use Rattle.c_meaning_spec.specs.declared.signal.Object.TheVariants.{InScalar}
use Rattle.c_meaning_spec.specs.State.{State, Result}
use Rattle.c_meaning_spec.specs.inside.State.{then}
use Rattle.c_meaning_spec.specs.State.{written}
use Rattle.c_meaning_spec.specs.Word.{is_false}
use Rattle.c_meaning_spec.specs.Task.{Task, Of, Run, Turn, Parts}
use Rattle.c_tree.specs.TypedTrees.{Level, Beginning}
use Rattle.c_meaning_spec.specs.Statement.{going_on, sequence, initialised, unset, declare, run_if}
use Rattle.c_meaning_spec.specs.Statement.{after_if, then_turn, locals, begin, after_body, after_test}
use Rattle.c_meaning_spec.specs.Statement.{turn, begun, statement, Target, targets, run_from}
use Rattle.c_meaning_spec.specs.Statement.{compared_by, compared, after_switch}
use Rattle.c_meaning_spec.specs.State.{Told}
use Rattle.c_meaning_spec.proofs.Alike.{Alike, a-after_sections, a-cond, a-dropped, a-go, a-returning}
use Rattle.c_meaning_spec.proofs.Alike.{a-spend, a-store, a-then, a-undefined, a-unset_row, a-want}
use Rattle.c_meaning_spec.proofs.ExpressionsAlike

module _ (τ : Told) (rec rec' : Parts) (below : (t : Task) (s : State) → s.told ≡ τ
    → Alike τ (rec t s) (rec' t s)) where
  -- an expression and what follows it are alike where both are
  abbrev a-of : (e : TypedExpr) (s : State) (f f' : Signal → State → Result) → s.told ≡ τ
      → ((v : Signal) (s : State) → s.told ≡ τ → Alike τ (f v s) (f' v s))
      → Alike τ (then (rec (Of e) s) f) (then (rec' (Of e) s) f')
  a-of = ExpressionsAlike.a-of τ rec rec' below

  -- a statement and what follows it are alike where both are
  abbrev a-run : (st : TypedStmt) (s : State) (f f' : Signal → State → Result) → s.told ≡ τ
      → ((v : Signal) (s : State) → s.told ≡ τ → Alike τ (f v s) (f' v s))
      → Alike τ (then (rec (Run st) s) f) (then (rec' (Run st) s) f')
  a-run = ExpressionsAlike.a-run τ rec rec' below

  a-going_on : (v : Signal) (s : State) (f f' : State → Result) → s.told ≡ τ
      → Alike τ (f s) (f' s) → Alike τ (going_on v s f) (going_on v s f')
  a-going_on Nothing s f f' h g = g
  a-going_on _ s f f' h g = a-go τ _ s h

  a-sequence : (all : List TypedStmt) (s : State) → s.told ≡ τ
      → Alike τ (sequence rec all s) (sequence rec' all s)
  a-sequence [] s h = a-go τ _ s h
  a-sequence (st ∷ rest) s h =
      a-run st s _ _ h (λ v s h. a-going_on v s _ _ h (a-sequence rest s h))

  a-run_from : (all : List TypedStmt) (s : State) → s.told ≡ τ
      → Alike τ (run_from rec all s) (run_from rec' all s)
  a-run_from all s h = a-then τ _ _ _ _ (a-sequence all s h) (a-after_sections τ)

  a-compared_by : (w : ℕ) (l : Option ℕ) (here here' there there' fallback fallback' : State → Result)
      → ((u : State) → u.told ≡ τ → Alike τ (here u) (here' u))
      → ((u : State) → u.told ≡ τ → Alike τ (there u) (there' u))
      → ((u : State) → u.told ≡ τ → Alike τ (fallback u) (fallback' u)) → (s : State) → s.told ≡ τ
      → Alike τ (compared_by w l here there fallback s)
      (compared_by w l here' there' fallback' s)
  a-compared_by w None here here' there there' fallback fallback' a b c s h = c s h
  a-compared_by w (Some m) here here' there there' fallback fallback' a b c s h =
      a-spend τ s _ _ h
      (λ u k. a-cond τ (nat_eq w m) _ _ _ _ (a u k) (b u k))

  a-compared : (w : ℕ) (ts : List Target) (other : List TypedStmt) (s : State) → s.told ≡ τ
      → Alike τ (compared rec w ts other s) (compared rec' w ts other s)
  a-compared w [] other s h = a-run_from other s h
  a-compared w (t ∷ ts) other s h =
      a-compared_by w t.label _ _ _ _ _ _ (a-run_from t.statements) (a-compared w ts other)
      (a-compared w ts t.statements) s h

  a-after_switch : (xs : List TypedSection) (v : Signal) (s : State) → s.told ≡ τ
      → Alike τ (after_switch rec xs v s) (after_switch rec' xs v s)
  a-after_switch xs v s h = a-want τ v s _ _ h (λ w. a-compared w (targets xs) [] s h)

  a-initialised : (i : ℕ) (v : Signal) (s : State) → s.told ≡ τ
      → Alike τ (initialised i v s) (initialised i v s)
  a-initialised i v s h =
      a-want τ v s _ _ h (λ w. a-then τ _ _ _ _ (a-store τ s (InScalar i) w h) (a-dropped τ))

  a-unset : (i : ℕ) (e : Option TypedExpr) (c : Option (Option ℕ)) (s : State) → s.told ≡ τ
      → Alike τ (unset rec i e c s) (unset rec' i e c s)
  a-unset i e None s h = a-undefined τ s h
  a-unset i None (Some c) s h = a-go τ _ (written s (InScalar i) None) h
  a-unset i (Some e) (Some c) s h = a-of e (written s (InScalar i) None) _ _ h (a-initialised i)

  a-declare : (p : Place) (e : Option TypedExpr) (s : State) → s.told ≡ τ
      → Alike τ (declare rec p e s) (declare rec' p e s)
  a-declare (place.Scalar i) e s h = a-unset i e (slice_get s.scalars i) s h
  a-declare (place.Array a) None s h = a-unset_row τ (s.base + a)
      (slice_get s.arrays (s.base + a)) s h
  a-declare (place.Array a) (Some e) s h = a-undefined τ s h
  a-declare (place.Global a) e s h = a-undefined τ s h

  a-run_if : (o : Option TypedStmt) (s : State) → s.told ≡ τ
      → Alike τ (run_if rec o s) (run_if rec' o s)
  a-run_if None s h = a-go τ _ s h
  a-run_if (Some st) s h = below (Run st) s h

  a-after_if : (a : TypedStmt) (b : Option TypedStmt) (v : Signal) (s : State) → s.told ≡ τ
      → Alike τ (after_if rec a b v s) (after_if rec' a b v s)
  a-after_if a b v s h = a-want τ v s _ _ h
      (λ w. a-cond τ (is_false w) _ _ _ _ (a-run_if b s h) (below (Run a) s h))

  a-then_turn : (o test post : Option TypedExpr) (body : TypedStmt) (s : State) → s.told ≡ τ
      → Alike τ (then_turn rec o test post body s) (then_turn rec' o test post body s)
  a-then_turn None test post body s h = below (Turn test post body) s h
  a-then_turn (Some e) test post body s h =
      a-of e s _ _ h (λ v s h. below (Turn test post body) s h)

  a-locals : (all : List TypedStmt) (test post : Option TypedExpr) (body : TypedStmt) (s : State)
      → s.told ≡ τ → Alike τ (locals rec all test post body s)
      (locals rec' all test post body s)
  a-locals [] test post body s h = below (Turn test post body) s h
  a-locals (st ∷ rest) test post body s h =
      a-run st s _ _ h (λ v s h. a-going_on v s _ _ h (a-locals rest test post body s h))

  a-begin : (f : Beginning) (test post : Option TypedExpr) (body : TypedStmt) (s : State) → s.told ≡ τ
      → Alike τ (begin rec f test post body s) (begin rec' f test post body s)
  a-begin init.Nothing test post body s h = below (Turn test post body) s h
  a-begin (init.First e) test post body s h = a-then_turn (Some e) test post body s h
  a-begin (init.Locals all) test post body s h = a-locals all test post body s h

  a-after_body : (test post : Option TypedExpr) (body : TypedStmt) (v : Signal) (s : State)
      → s.told ≡ τ → Alike τ (after_body rec test post body v s)
      (after_body rec' test post body v s)
  a-after_body test post body Nothing s h = a-then_turn post test post body s h
  a-after_body test post body Continues s h = a-then_turn post test post body s h
  a-after_body test post body Breaks s h = a-go τ _ s h
  a-after_body test post body _ s h = a-go τ _ s h

  a-after_test : (test post : Option TypedExpr) (body : TypedStmt) (v : Signal) (s : State)
      → s.told ≡ τ → Alike τ (after_test rec test post body v s)
      (after_test rec' test post body v s)
  a-after_test test post body v s h =
      a-want τ v s _ _ h (λ w. a-cond τ (is_false w) _ _ _ _ (a-go τ _ s h)
      (a-run body s _ _ h (a-after_body test post body)))

  a-begun : (st : Level) (s : State) → s.told ≡ τ
      → Alike τ (begun rec st s) (begun rec' st s)
  a-begun (Declare p e) s h = a-declare p e s h
  a-begun (Plain None) s h = a-go τ _ s h
  a-begun (Plain (Some e)) s h = a-of e s _ _ h (a-dropped τ)
  a-begun (Compound all) s h = a-sequence all s h
  a-begun (If t a b) s h = a-of t s _ _ h (a-after_if a b)
  a-begun (While t body) s h = below (Turn (Some t) None body) s h
  a-begun (Do body t) s h = a-run body s _ _ h (a-after_body (Some t) None body)
  a-begun (For f test post body) s h = a-begin (out-TypedForInit f) test post body s h
  a-begun (Switch i t xs) s h = a-of t s _ _ h (a-after_switch xs)
  a-begun Break s h = a-go τ _ s h
  a-begun Continue s h = a-go τ _ s h
  a-begun (Return None) s h = a-go τ _ s h
  a-begun (Return (Some e)) s h = a-of e s _ _ h (a-returning τ)

  -- a statement is alike where its parts are
  pub a-statement : (st : Level) (s : State) → s.told ≡ τ
      → Alike τ (statement rec st s) (statement rec' st s)
  a-statement st s h = a-spend τ s _ _ h (λ s h. a-begun st s h)

  -- a loop's turn is alike where its parts are
  pub a-turn : (test post : Option TypedExpr) (body : TypedStmt) (s : State)
      → ((e : TypedExpr) → Alike τ (rec (Of e) s) (rec' (Of e) s))
      → ((st : TypedStmt) → Alike τ (rec (Run st) s) (rec' (Run st) s))
      → Alike τ (turn rec test post body s) (turn rec' test post body s)
  a-turn None post body s he hs = a-then τ _ _ _ _ (hs body) (a-after_body None post body)
  a-turn (Some t) post body s he hs = a-then τ _ _ _ _ (he t) (a-after_test (Some t) post body)
