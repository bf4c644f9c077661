-- The first turns of a `for` and of a `do` loop, with fewer steps.
use Rattle.std.proofs.Common.{◌≡◌, ℕ, suc, ◌+◌, ◌-◌, ◌*◌, ◌≤◌}
use Rattle.std.proofs.Common.{cond, List, [], ◌∷◌, map, Option, Some, None, refl, sym}
use Rattle.std.proofs.Common.{subst, arith}
use Rattle.c_tree.specs.declared.TypedExpr.{TypedExpr}
use Rattle.c_tree.specs.declared.TypedStmt.{TypedStmt}
use Rattle.c_tree.specs.declared.TypedForInit.TheOpen as stmt
use Rattle.c_tree.specs.declared.TypedProgram.{TypedProgram}
use Rattle.c_meaning_spec.specs.declared.signal.Signal.{Signal}
use Rattle.c_meaning_spec.specs.declared.signal.Signal.TheVariants.{Nothing, Value, Breaks, Continues}
use Rattle.c_meaning_spec.specs.declared.signal.Signal.TheVariants.{Returns}
use Rattle.c_meaning_spec.specs.State.{Result, Go, Over}
use Rattle.c_meaning_spec.specs.inside.State.{then}
use Rattle.c_meaning_spec.specs.State as eval
use Rattle.c_meaning_spec.specs.Task.{Turn}
use Rattle.c_meaning_spec.specs.Task as task
use Rattle.c_tree.specs.TypedTrees.{Beginning}
use Rattle.c_meaning_spec.specs.Statement.{going_on, sequence}
use Rattle.c_meaning_spec.specs.Statement.{locals, begin}
use Rattle.c_meaning_spec.specs.Eval.{meaning}
use Rattle.trips_isa.specs.declared.op.Op.TheVariants as op
use Rattle.ir_forms.specs.declared.flat.Arg.TheVariants.{Const}
use Rattle.ir_forms.specs.inside.FlatCode.{Code, Then, only, Loop}
use Rattle.ir_forms.specs.inside.Cells.{apply}
use Rattle.ir_forms.specs.inside.FlatSteps.{State}
use Rattle.ir_forms.specs.inside.FlatRuns.{checked}
use Rattle.ir_forms.proofs.Leads.{Run, Moves}
use Rattle.ir_forms.proofs.Steps.{then_then, then_moves}
use Rattle.ir_forms.proofs.LoopRuns.{loop_moves}
use Rattle.flat_lower.specs.inside.TreeViews.{expr_of, expr_if, stmt_of, stmts_of}
use Rattle.flat_lower.specs.inside.Operations.{temp, set_word}
use Rattle.flat_lower.specs.inside.Statements.{expr_if_code, if_so, turn_code, loop_code, do_code}
use Rattle.flat_lower.specs.inside.Statements.{stmt_code, stmts_code, first_code}
use Rattle.flat_lower.specs.inside.Fits.{FitsExpr, FitsExprIf, FitsStmt, FitsStmts, FitsFirst}
use Rattle.flat_lower.specs.inside.Sizes.{nodes, nodes_if, size_of, size_of_all, size_of_first}
use Rattle.flat_lower.specs.declared.around.Around.{Around}
use Rattle.flat_lower.specs.declared.around.Around.TheVariants as around
use Rattle.flat_lower.proofs.SwitchSections.{FollowsBlock}
use Rattle.flat_lower.proofs.Straight.{puts_let}
use Rattle.flat_lower.proofs.TreeFacts.{plain_first}
use Rattle.flat_lower.proofs.Follows.{Settles, FollowsIn, moved_in, then_follows_in}
use Rattle.flat_lower.proofs.Follows.{leaves_first}
use Rattle.flat_lower.proofs.Related.{Scene, IsScene, scope, context, Related, sets_unseen}
use Rattle.flat_lower.proofs.Values.{kept_at, functions, base, FollowsOf, run}
use Rattle.flat_lower.proofs.Values.{code, operand_in}
use Rattle.flat_lower.proofs.ChoicesFollow.{is_true}
use Rattle.flat_lower.proofs.Returns.{EndedIn, FollowsRun}
use Rattle.flat_lower.proofs.LeafStatements.{EndsHere, nothing_left}
use Rattle.flat_lower.proofs.Loops.{after, so_falls, loop_of, stmt as stmt_at}
use Rattle.flat_lower.proofs.Loops.{FollowsTurn}
use Rattle.flat_lower.proofs.DoLoops.{FollowsDo, so_loop}

zero_off : (n : ℕ) → n ≡ n - 0
zero_off n = omega arith

module _ (P : TypedProgram) (most : ℕ) where
  -- WITH FEWER STEPS

  -- each statement and each turn of a loop follows the evaluation, where it has at most n steps
  pub record Below (n : ℕ) : Type 0 where
    pub expr : (e : TypedExpr) (s : eval.State) → s.stock ≤ n → FollowsOf P most e s
    pub run : (st : TypedStmt) (s : eval.State) → s.stock ≤ n → FollowsRun P most st s
    pub turn : (test post : Option TypedExpr) (body : TypedStmt) (s : eval.State) → s.stock ≤ n
        → FollowsTurn P most test post body s
    pub again : (t : TypedExpr) (body : TypedStmt) (s : eval.State) → s.stock ≤ n
        → FollowsDo P most t body s

  module _ (S : Scene) (y : IsScene P S) (x : Around) where
    -- the code of a statement
    abbrev here : TypedStmt → Code
    here st = stmt_code (context P S) x (stmt_of st)

    -- a run that is another's at once
    at_once : (a : Code) (f : State) (next : Run) (top low : ℕ) (r : Result)
        → Moves (run P most S y a f) 0 next → FollowsIn x most (EndedIn x S) next top low r
        → EndsHere P most S y x a f top low r
    at_once a f next top low r m h =
        moved_in x most (EndedIn x S) (run P most S y a f) next 0 top low r m (omega arith)
        (subst (λ n. FollowsIn x most (EndedIn x S) next n low r) (zero_off top) h)

    -- a statement, and those behind it where it leaves nothing
    seq_follows : (a b : Code) (f : State) (up down top low : ℕ) (r : Result)
        (next : eval.State → Result) → EndsHere P most S y x a f up down r → up ≤ top → low ≤ down
        → ((s1 : eval.State) (g : State) (t : ℕ) → Related S s1 g → t + 8 * s1.stock ≤ up
        → down ≤ s1.stock + most * g.rounds → EndsHere P most S y x b g (top - t) low (next s1))
        → EndsHere P most S y x (Then a b) f top low (then r (λ v s. going_on v s next))
    seq_follows a b f up down top low (Go Nothing s1) next h hu hl go =
        then_follows_in (functions P most) (base P most) most S.env x x (EndedIn x S)
        (EndedIn x S) a b f up down top low (Go Nothing s1) (λ v s. going_on v s next) h hu hl
        (λ v s2 g t e holds us ds. nothing v s2 g t e holds us ds)
      where
        nothing : (v : Signal) (s2 : eval.State) (g : State) (t : ℕ) → Go Nothing s1 ≡ Go v s2
            → EndedIn x S v s2 g → t + 8 * s2.stock ≤ up → down ≤ s2.stock + most * g.rounds
            → Settles v × EndsHere P most S y x b g (top - t) low (going_on v s2 next)
        nothing Nothing s2 g t e holds us ds = (tt, go s2 g t holds us ds)
        nothing (Value w) s2 g t e holds us ds = absurd (cc e)
        nothing Breaks s2 g t e holds us ds = absurd (cc e)
        nothing Continues s2 g t e holds us ds = absurd (cc e)
        nothing (Returns w) s2 g t e holds us ds = absurd (cc e)
    seq_follows a b f up down top low (Go (Value w) s1) next h hu hl go = absurd h.holds
    seq_follows a b f up down top low (Go Breaks s1) next h hu hl go =
        leaves_first (functions P most) (base P most) most S.env
        x (EndedIn x S) a b f up down top low Breaks s1 (λ z. z) hu hl h
    seq_follows a b f up down top low (Go Continues s1) next h hu hl go =
        leaves_first (functions P most) (base P most) most S.env
        x (EndedIn x S) a b f up down top low Continues s1 (λ z. z) hu hl h
    seq_follows a b f up down top low (Go (Returns w) s1) next h hu hl go =
        leaves_first (functions P most) (base P most) most S.env x (EndedIn x S) a b f up down top low
        (Returns w) s1 (λ z. z) hu hl h
    seq_follows a b f up down top low (Over why s1) next h hu hl go =
        then_follows_in (functions P most) (base P most) most S.env x x (EndedIn x S)
        (EndedIn x S) a b f up down top low (Over why s1) (λ v s. going_on v s next) h hu hl
        (λ v s2 g t e holds us ds. absurd (cc e))

    -- LISTS

    -- a list of statements follows the evaluation
    pub stmts_follow : (n : ℕ) → Below n → (all : List TypedStmt) (s : eval.State) (f : State)
        (top low : ℕ) → s.stock ≤ n → FitsStmts (scope P S) S.func.result x (stmts_of (map stmt_of all))
        → size_of_all (stmts_of (map stmt_of all)) ≤ most → Related S s f → 8 * s.stock ≤ top
        → low ≤ s.stock + most * f.rounds - size_of_all (stmts_of (map stmt_of all))
        → EndsHere P most S y x (stmts_code (context P S) x (stmts_of (map stmt_of all))) f top low
        (sequence (meaning P) all s)
    stmts_follow n h [] s f top low le t z r hu hl =
        nothing_left P most S y x s f top low r hu (omega arith)
    stmts_follow n h (st ∷ rest) s f top low le t z r hu hl =
        let b = stmts_code (context P S) x (stmts_of (map stmt_of rest)) in
        let down = s.stock + most * f.rounds - size_of (stmt_of st) in
        seq_follows (here st) b f (8 * s.stock) down top low
        (meaning P (task.Run st) s) (sequence (meaning P) rest)
        (h.run st s le S y x (8 * s.stock) down f t.0 (omega arith) r (omega arith) (omega arith)) hu
        (omega arith)
        (λ s1 g t1 rel us ds. stmts_follow n h rest s1 g (top - t1) low (omega arith) t.1
        (omega arith) rel (omega arith) (omega arith))

    -- those of a section, of which there is one
    pub block_follows : (n : ℕ) → Below n → FollowsBlock P most S y x n
    block_follows n h [] s f top low le fill t z r hu hl = absurd fill
    block_follows n h (st ∷ rest) s f top low le fill t z r hu hl =
        let b = stmts_code (context P S) x (stmts_of (map stmt_of rest)) in
        let up = 8 * s.stock - 4 in
        let down = s.stock + most * f.rounds - size_of (stmt_of st) in
        seq_follows (here st) b f up down top low
        (meaning P (task.Run st) s) (sequence (meaning P) rest)
        (h.run st s le S y x up down f t.0 (omega arith) r (omega arith) (omega arith)) (omega arith)
        (omega arith)
        (λ s1 g t1 rel us ds. stmts_follow n h rest s1 g (top - t1) low (omega arith) t.1
        (omega arith) rel (omega arith) (omega arith))

    -- LOOPS

    -- a loop begins with a turn
    pub loop_starts : (n : ℕ) → Below n → (test post : Option TypedExpr) (body : TypedStmt)
        (s : eval.State) (f : State) (top low : ℕ) → s.stock ≤ n
        → FitsExprIf (scope P S) (expr_if test) → FitsExprIf (scope P S) (expr_if post)
        → FitsStmt (scope P S) S.func.result around.Loop (stmt_of body)
        → nodes_if (expr_if test) + (nodes_if (expr_if post) + size_of (stmt_of body)) ≤ most
        → Related S s f → 1 + 8 * s.stock ≤ top → low ≤ s.stock + most * f.rounds
        → EndsHere P most S y x (loop_code (context P S) (expr_if test) (expr_if post)
        (stmt_at P most S y body)) f top low (meaning P (Turn test post body) s)
    loop_starts n h test post body s f top low le tt0 tp tb z r hu hl =
        let a = turn_code (context P S) (expr_if test) (stmt_at P most S y body) in
        let b = expr_if_code (context P S) (expr_if post) in
        at_once (only (Loop a b)) f (loop_of P most S y a b f) top low
        (meaning P (Turn test post body) s)
        (loop_moves checked (functions P most) (base P most) S.env a b f)
        (h.turn test post body s le S y x top low f tt0 tp tb z r hu hl)

    -- a for's declarations, and then its first turn
    locals_follow : (n : ℕ) → Below n → (all : List TypedStmt) (test post : Option TypedExpr)
        (body : TypedStmt) (s : eval.State) (f : State) (top low : ℕ) → s.stock ≤ n
        → FitsStmts (scope P S) S.func.result x (stmts_of (map stmt_of all))
        → size_of_all (stmts_of (map stmt_of all)) ≤ most → FitsExprIf (scope P S) (expr_if test)
        → FitsExprIf (scope P S) (expr_if post) → FitsStmt (scope P S) S.func.result around.Loop (stmt_of body)
        → nodes_if (expr_if test) + (nodes_if (expr_if post) + size_of (stmt_of body)) ≤ most
        → Related S s f → 1 + 8 * s.stock ≤ top
        → low ≤ s.stock + most * f.rounds - size_of_all (stmts_of (map stmt_of all))
        → EndsHere P most S y x (Then (stmts_code (context P S) x (stmts_of (map stmt_of all)))
        (loop_code (context P S) (expr_if test) (expr_if post) (stmt_at P most S y body))) f top
        low (locals (meaning P) all test post body s)
    locals_follow n h [] test post body s f top low le t z tt0 tp tb zl r hu hl =
        loop_starts n h test post body s f top low le tt0 tp tb zl r hu (omega arith)
    locals_follow n h (st ∷ rest) test post body s f top low le t z tt0 tp tb zl r hu hl =
        let b = stmts_code (context P S) x (stmts_of (map stmt_of rest)) in
        let l = loop_code (context P S) (expr_if test) (expr_if post) (stmt_at P most S y body) in
        let down = s.stock + most * f.rounds - size_of (stmt_of st) in
        subst (λ a. EndsHere P most S y x a f top low
        (locals (meaning P) (st ∷ rest) test post body s))
        (sym (then_then (here st) b l))
        (seq_follows (here st) (Then b l) f (8 * s.stock) down top low
        (meaning P (task.Run st) s) (locals (meaning P) rest test post body)
        (h.run st s le S y x (8 * s.stock) down f t.0 (omega arith) r (omega arith) (omega arith))
        (omega arith) (omega arith)
        (λ s1 g t1 rel us ds. locals_follow n h rest test post body s1 g (top - t1) low
        (omega arith) t.1 (omega arith) tt0 tp tb zl rel (omega arith) (omega arith)))

    -- a for's beginning follows the evaluation, and its first turn behind it
    pub for_starts : (n : ℕ) → Below n → (i : Beginning) (test post : Option TypedExpr) (body : TypedStmt)
        (s : eval.State) (f : State) (top low : ℕ) → s.stock ≤ n
        → FitsFirst (scope P S) S.func.result x (plain_first i) → size_of_first (plain_first i) ≤ most
        → FitsExprIf (scope P S) (expr_if test) → FitsExprIf (scope P S) (expr_if post)
        → FitsStmt (scope P S) S.func.result around.Loop (stmt_of body)
        → nodes_if (expr_if test) + (nodes_if (expr_if post) + size_of (stmt_of body)) ≤ most
        → Related S s f → 1 + 8 * s.stock ≤ top
        → low ≤ s.stock + most * f.rounds - size_of_first (plain_first i)
        → EndsHere P most S y x (Then (first_code (context P S) x (plain_first i))
        (loop_code (context P S) (expr_if test) (expr_if post) (stmt_at P most S y body))) f top
        low (begin (meaning P) i test post body s)
    for_starts n h stmt.Nothing test post body s f top low le t z tt0 tp tb zl r hu hl =
        loop_starts n h test post body s f top low le tt0 tp tb zl r hu (omega arith)
    for_starts n h (stmt.First e) test post body s f top low le t z tt0 tp tb zl r hu hl =
        let l = loop_code (context P S) (expr_if test) (expr_if post) (stmt_at P most S y body) in
        operand_in P most S y x (EndedIn x S) e 0 l s f top low (λ v s. meaning P (Turn test post body) s)
        (h.expr e s le) t r (omega arith) hl
        (λ v s1 g t1 hv ls us ds. loop_starts n h test post body s1 g (top - t1) low
        (omega arith) tt0 tp tb zl (kept_at S 0 e.kind f v s1 g hv).rel (omega arith)
        (omega arith))
    for_starts n h (stmt.Locals all) test post body s f top low le t z tt0 tp tb zl r hu hl =
        locals_follow n h all test post body s f top low le t z tt0 tp tb zl r hu hl

    -- the first turn of a do is taken
    pub do_starts : (n : ℕ) → Below n → (t : TypedExpr) (body : TypedStmt) (s : eval.State) (f : State)
        (top low : ℕ) → s.stock ≤ n → FitsExpr (scope P S) 0 (expr_of t)
        → FitsStmt (scope P S) S.func.result around.Loop (stmt_of body)
        → nodes (expr_of t) + size_of (stmt_of body) ≤ most → Related S s f → 4 + 8 * s.stock ≤ top
        → low ≤ s.stock + most * f.rounds
        → EndsHere P most S y x (do_code (context P S) (expr_of t) (stmt_at P most S y body)) f top
        low (then (meaning P (task.Run body) s) (after P most (Some t) None body))
    unfolding apply
    do_starts n h t body s f top low le te tb z r hu hl =
        let fs = functions P most in
        let bs = base P most in
        let a = if_so (stmt_at P most S y body) in
        let b = code P most S y 0 t in
        let p = puts_let fs bs S.env op.Mov (Const 1) (Const 0) f 1 (temp 0) 80 1 0 1 (omega arith) refl refl refl in
        let rel = sets_unseen S y s f p.to (temp 0) 80 1 (omega arith) (omega arith) p.sets r in
        let res = then (meaning P (task.Run body) s) (after P most (Some t) None body) in
        moved_in x most (EndedIn x S) (run P most S y (Then (set_word (temp 0) 1) (only (Loop a b))) f)
        (run P most S y (only (Loop a b)) p.to) p.t top low res
        (then_moves checked fs bs S.env (set_word (temp 0) 1) (only (Loop a b)) f p.to p.t p.leads)
        (omega (arith, p.few))
        (at_once (only (Loop a b)) p.to (loop_of P most S y a b p.to) (top - p.t) low res
        (loop_moves checked fs bs S.env a b p.to)
        (subst (λ q. FollowsIn x most (EndedIn x S) (loop_of P most S y a b p.to) (top - p.t) low
        (then (cond q (Go Breaks s) (meaning P (task.Run body) s))
        (after P most (Some t) None body))) (is_true 0)
        (so_loop P most 1 t body s (suc s.stock) (h.run body s le) (λ s1 lt. h.again t body s1 (omega arith))
        (λ v s1 e. let z = so_falls P most 1 body s v s1 e in omega arith)
        S y x (top - p.t) low p.to te tb z rel p.sets.value (omega (arith, p.few))
        (subst (λ r. low ≤ s.stock + most * r) (sym p.sets.rounds) hl))))
