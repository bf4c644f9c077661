-- A turn of a `do` loop follows the evaluation, where its parts do.
use Rattle.std.proofs.Common.{◌≡◌, ℕ, suc, ◌+◌, ◌-◌, ◌*◌, ◌<◌, ◌≤◌}
use Rattle.std.proofs.Common.{Some, None, sym, subst}
use Rattle.std.proofs.Common.{mul-suc, arith}
use Rattle.c_tree.specs.declared.TypedExpr.{TypedExpr}
use Rattle.c_tree.specs.declared.TypedStmt.{TypedStmt}
use Rattle.c_tree.specs.declared.TypedProgram.{TypedProgram}
use Rattle.c_meaning_spec.specs.declared.signal.Signal.{Signal}
use Rattle.c_meaning_spec.specs.declared.signal.Signal.TheVariants.{Nothing, Value, Breaks, Continues}
use Rattle.c_meaning_spec.specs.declared.signal.Signal.TheVariants.{Returns}
use Rattle.c_meaning_spec.specs.State.{Go, want}
use Rattle.c_meaning_spec.specs.inside.State.{then}
use Rattle.c_meaning_spec.specs.State as eval
use Rattle.c_meaning_spec.specs.Task.{Of, Turn}
use Rattle.c_meaning_spec.specs.Statement.{after_test}
use Rattle.c_meaning_spec.specs.Eval.{meaning}
use Rattle.c_meaning_spec.proofs.Equations.{meaning-is}
use Rattle.c_meaning_spec.proofs.Induction.{meaning-falls}
use Rattle.ir_forms.specs.inside.FlatSteps.{State, counted}
use Rattle.flat_lower.specs.inside.TreeViews.{expr_of, stmt_of}
use Rattle.flat_lower.specs.inside.Operations.{temp}
use Rattle.flat_lower.specs.inside.Statements.{if_so}
use Rattle.flat_lower.specs.inside.Fits.{FitsExpr, FitsStmt}
use Rattle.flat_lower.specs.inside.Sizes.{nodes, size_of}
use Rattle.flat_lower.specs.declared.around.Around.{Around}
use Rattle.flat_lower.specs.declared.around.Around.TheVariants as around
use Rattle.flat_lower.proofs.Follows.{FollowsIn}
use Rattle.flat_lower.proofs.Related.{Scene, IsScene, scope, Related, recounted}
use Rattle.flat_lower.proofs.Values.{Valued, valued_settles}
use Rattle.flat_lower.proofs.Values.{FollowsOf, code}
use Rattle.flat_lower.proofs.Returns.{EndedIn, FollowsRun}
use Rattle.flat_lower.proofs.Loops.{so_part, after, test_is, so_falls, stmt, post_follows, post_of, loop_of, so_ends}
use Rattle.flat_lower.proofs.Loops.{loop_follows}

module _ (P : TypedProgram) (most : ℕ) where
  -- a do, from its test on
  abbrev pub FollowsDo : TypedExpr → TypedStmt → eval.State → Type 0
  FollowsDo t body s =
      (S : Scene) (y : IsScene P S) (x : Around) (top low : ℕ) (f : State) → FitsExpr (scope P S) 0 (expr_of t)
      → FitsStmt (scope P S) S.func.result around.Loop (stmt_of body)
      → nodes (expr_of t) + size_of (stmt_of body) ≤ most → Related S s f → 8 * s.stock ≤ top
      → low ≤ s.stock + most * f.rounds - nodes (expr_of t)
      → FollowsIn x most (EndedIn x S) (post_of P most S y (if_so (stmt P most S y body)) (code P most S y 0 t) f)
      top low
      (meaning P (Turn (Some t) None body) s)

  -- a do's turn, where a word stands in temporary 0
  pub so_loop : (w : ℕ) (t : TypedExpr) (body : TypedStmt) (s : eval.State) (bound : ℕ)
      → FollowsRun P most body s → ((s1 : eval.State) → s1.stock < bound → FollowsDo t body s1)
      → ((v : Signal) (s1 : eval.State) → so_part P most w body s ≡ Go v s1 → s1.stock < bound)
      → (S : Scene) (y : IsScene P S) (x : Around) (top low : ℕ) (f : State) → FitsExpr (scope P S) 0 (expr_of t)
      → FitsStmt (scope P S) S.func.result around.Loop (stmt_of body)
      → nodes (expr_of t) + size_of (stmt_of body) ≤ most → Related S s f
      → f.vars (temp 0) ≡ Some w → 3 + 8 * s.stock ≤ top → low ≤ s.stock + most * f.rounds
      → FollowsIn x most (EndedIn x S) (loop_of P most S y (if_so (stmt P most S y body)) (code P most S y 0 t) f)
      top low
      (then (so_part P most w body s) (after P most (Some t) None body))
  so_loop w t body s bound hs hd falls S y x top low f te tb z r e hu hl =
      let a = if_so (stmt P most S y body) in
      let b = code P most S y 0 t in
      let up = 8 * s.stock + 2 in
      let down = s.stock + most * suc f.rounds - size_of (stmt_of body) in
      loop_follows P most S y x a b f up down top low (so_part P most w body s) (Some t) None body
      (so_ends P most S y w body s (counted f) up down hs tb (omega arith) (recounted S s f r) e
      (omega arith) (omega arith))
      (omega arith) (omega (arith, mul-suc most f.rounds))
      (λ v s1 g t1 eq rel us ds.
      hd s1 (falls v s1 eq) S y x (top - suc t1) low g te tb z rel (omega arith)
      (omega (arith, mul-suc most f.rounds)))

  -- a turn of a `do` loop follows the evaluation, where its parts do and later turns with fewer steps
  pub do_follows : (t : TypedExpr) (body : TypedStmt) (s : eval.State) → FollowsOf P most t s
      → ((s1 : eval.State) → s1.stock ≤ s.stock → FollowsRun P most body s1)
      → ((s1 : eval.State) → s1.stock < s.stock → FollowsDo t body s1) → FollowsDo t body s
  do_follows t body s he hs hd S y x top low f te tb z r hu hl =
      let a = if_so (stmt P most S y body) in
      let b = code P most S y 0 t in
      let up = 8 * s.stock - 3 in
      let down = s.stock + most * f.rounds - nodes (expr_of t) in
      subst (λ q. FollowsIn x most (EndedIn x S) (post_of P most S y a b f) top low q)
      (sym (meaning-is P (Turn (Some t) None body) s))
      (post_follows P most S y x (Valued S 0 t.kind f) a b f up down top low (meaning P (Of t) s)
      (after_test (meaning P) (Some t) None body)
      (he S y 0 up down f te r (omega arith) (omega arith)) (omega arith) (omega arith)
      (λ v s1 g t1 eq hv us ds. let falls = meaning-falls P (Of t) s v s1 eq in (
        valued_settles S 0 t.kind f v s1 g hv,
        subst (λ q. FollowsIn x most (EndedIn x S) (loop_of P most S y a b g) (top - t1) low q)
            (sym (test_is P most t None body v s1))
            (tested v s1 g t1 falls hv (omega arith) (omega arith)),
      )))
    where
      tested : (v : Signal) (s1 : eval.State) (g : State) (t1 : ℕ) → s1.stock < s.stock
          → Valued S 0 t.kind f v s1 g → 3 + 8 * s1.stock ≤ top - t1
          → low ≤ s1.stock + most * g.rounds
          → FollowsIn x most (EndedIn x S) (loop_of P most S y (if_so (stmt P most S y body)) (code P most S y 0 t) g)
          (top - t1) low (then (want v s1 (λ w. so_part P most w body s1)) (after P most (Some t) None body))
      tested Nothing s1 g t1 falls hv hu1 hl1 = tt
      tested (Value w) s1 g t1 falls hv hu1 hl1 =
          so_loop w t body s1 s.stock (hs s1 (omega arith)) hd
          (λ v s2 eq. let le = so_falls P most w body s1 v s2 eq in omega arith) S y x
          (top - t1) low g te tb z hv.keeps.rel hv.is hu1 hl1
      tested Breaks s1 g t1 falls hv hu1 hl1 = tt
      tested Continues s1 g t1 falls hv hu1 hl1 = tt
      tested (Returns w) s1 g t1 falls hv hu1 hl1 = tt
