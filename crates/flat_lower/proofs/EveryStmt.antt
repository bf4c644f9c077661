-- Every statement follows the evaluation where its parts do; and so everything does.
use Rattle.std.proofs.Common.{◌≡◌, ℕ, zero, suc, ◌+◌, ◌-◌, ◌*◌, ◌<◌, ◌≤◌}
use Rattle.std.proofs.Common.{cond, List, [], map, Option, Some, None, refl, sym, ap}
use Rattle.std.proofs.Common.{subst, arith}
use Rattle.c_tree.specs.declared.TypedExpr.{TypedExpr}
use Rattle.c_tree.specs.declared.TypedStmt.{TypedStmt, out-TypedStmt}
use Rattle.c_tree.specs.declared.TypedForInit.{out-TypedForInit}
use Rattle.c_tree.specs.declared.TypedForInit.TheOpen as stmt
use Rattle.c_tree.specs.declared.TypedProgram.{TypedProgram}
use Rattle.c_meaning_spec.specs.inside.State.{then}
use Rattle.c_meaning_spec.specs.State as eval
use Rattle.c_meaning_spec.specs.Word.{is_false}
use Rattle.c_meaning_spec.specs.Task.{Task, Of, Turn}
use Rattle.c_meaning_spec.specs.Task as task
use Rattle.c_tree.specs.TypedTrees.{Level, Beginning}
use Rattle.c_meaning_spec.specs.Statement.{sequence, run_if, after_if}
use Rattle.c_meaning_spec.specs.Statement.{begin, begun, statement, targets, compared, after_switch}
use Rattle.c_meaning_spec.specs.Eval.{meaning}
use Rattle.c_meaning_spec.proofs.Equations.{weight, meaning-is}
use Rattle.c_meaning_spec.proofs.Induction.{by-parts}
use Rattle.ir_forms.specs.declared.flat.Arg.TheVariants.{Var}
use Rattle.ir_forms.specs.inside.FlatCode.{Code, Nop, Then, only, If}
use Rattle.ir_forms.specs.inside.FlatSteps.{State}
use Rattle.ir_forms.specs.inside.FlatRuns.{checked}
use Rattle.ir_forms.proofs.Steps.{then_nop}
use Rattle.ir_forms.proofs.Statements.{if_one, if_other}
use Rattle.flat_lower.specs.inside.TreeViews.{expr_of, expr_if, stmt_of, stmts_of, source_of}
use Rattle.flat_lower.specs.inside.Operations.{temp}
use Rattle.flat_lower.specs.inside.Statements.{loop_code, do_code}
use Rattle.flat_lower.specs.inside.Statements.{stmt_code, stmts_code, first_code}
use Rattle.flat_lower.specs.inside.Fits.{FitsExpr, FitsExprIf, FitsStmt, FitsStmts, FitsFirst, FitsSource}
use Rattle.flat_lower.specs.inside.Sizes.{nodes, nodes_if, size_of, size_of_all, size_of_first, IsMost}
use Rattle.flat_lower.specs.declared.around.Around.{Around}
use Rattle.flat_lower.specs.declared.around.Around.TheVariants as around
use Rattle.flat_lower.specs.inside.Tree.{kind_of}
use Rattle.flat_lower.specs.inside.Switches.{in_switch, switched_code}
use Rattle.flat_lower.specs.inside.Emitted.{sections_in}
use Rattle.flat_lower.proofs.SwitchSections.{FollowsBlock, rest_of}
use Rattle.flat_lower.proofs.SwitchWhole.{switch_ends}
use Rattle.flat_lower.proofs.Straight.{var_read}
use Rattle.flat_lower.proofs.TreeFacts.{plain_stmt, plain_first, stmt_is, first_of, first_is}
use Rattle.flat_lower.proofs.Follows.{moved_in, wanted_in}
use Rattle.flat_lower.proofs.Related.{Scene, IsScene, scope, context, Related}
use Rattle.flat_lower.proofs.Values.{value_at, functions, base, FollowsOf, run}
use Rattle.flat_lower.proofs.Values.{code, operand_in, spending_in}
use Rattle.flat_lower.proofs.ChoicesFollow.{is_true}
use Rattle.flat_lower.proofs.Returns.{EndedIn, FollowsRun}
use Rattle.flat_lower.proofs.EveryExpr.{expr_follows}
use Rattle.flat_lower.proofs.LeafStatements.{EndsHere, nothing_left, declare_ends, break_ends}
use Rattle.flat_lower.proofs.LeafStatements.{continue_ends, return_ends, value_ends}
use Rattle.flat_lower.proofs.PlainEnds.{plain_ends_in}
use Rattle.flat_lower.proofs.Loops.{after, stmt as stmt_at}
use Rattle.flat_lower.proofs.Loops.{FollowsTurn, turn_follows}
use Rattle.flat_lower.proofs.DoLoops.{FollowsDo, do_follows}
use Rattle.flat_lower.proofs.LoopBeginnings.{Below, block_follows}
use Rattle.flat_lower.proofs.LoopBeginnings

module _ (P : TypedProgram) (most : ℕ) where
  module _ (S : Scene) (y : IsScene P S) (x : Around) where
    -- the code of a statement
    abbrev here : TypedStmt → Code
    here st = stmt_code (context P S) x (stmt_of st)

    abbrev stmts_follow : (n : ℕ) → Below P most n → (all : List TypedStmt) (s : eval.State) (f : State) (top low : ℕ)
        → s.stock ≤ n → FitsStmts (scope P S) S.func.result x (stmts_of (map stmt_of all))
        → size_of_all (stmts_of (map stmt_of all)) ≤ most → Related S s f → 8 * s.stock ≤ top
        → low ≤ s.stock + most * f.rounds - size_of_all (stmts_of (map stmt_of all))
        → EndsHere P most S y x (stmts_code (context P S) x (stmts_of (map stmt_of all))) f top low (sequence
        (meaning P) all s)
    stmts_follow = LoopBeginnings.stmts_follow P most S y x

    -- a loop begins with a turn
    abbrev loop_starts : (n : ℕ) → Below P most n
        → (test post : Option TypedExpr) (body : TypedStmt) (s : eval.State) (f : State) (top low : ℕ) → s.stock ≤ n
        → FitsExprIf (scope P S) (expr_if test) → FitsExprIf (scope P S) (expr_if post)
        → FitsStmt (scope P S) S.func.result around.Loop (stmt_of body)
        → nodes_if (expr_if test) + (nodes_if (expr_if post) + size_of (stmt_of body)) ≤ most → Related S s f
        → 1 + 8 * s.stock ≤ top → low ≤ s.stock + most * f.rounds
        → EndsHere P most S y x (loop_code (context P S) (expr_if test) (expr_if post) (stmt_at P most S y body)) f
        top low (meaning P (Turn test post body) s)
    loop_starts = LoopBeginnings.loop_starts P most S y x

    abbrev for_starts : (n : ℕ) → Below P most n
        → (i : Beginning) (test post : Option TypedExpr) (body : TypedStmt) (s : eval.State) (f : State) (top low :
        ℕ) → s.stock ≤ n → FitsFirst (scope P S) S.func.result x (plain_first i)
        → size_of_first (plain_first i) ≤ most → FitsExprIf (scope P S) (expr_if test)
        → FitsExprIf (scope P S) (expr_if post) → FitsStmt (scope P S) S.func.result around.Loop (stmt_of body)
        → nodes_if (expr_if test) + (nodes_if (expr_if post) + size_of (stmt_of body)) ≤ most → Related S s f
        → 1 + 8 * s.stock ≤ top → low ≤ s.stock + most * f.rounds - size_of_first (plain_first i)
        → EndsHere P most S y x (Then (first_code (context P S) x (plain_first i)) (loop_code (context P S) (expr_if
        test) (expr_if post) (stmt_at P most S y body))) f top low (begin (meaning P) i test post body s)
    for_starts = LoopBeginnings.for_starts P most S y x

    -- the first turn of a do is taken
    abbrev do_starts : (n : ℕ) → Below P most n
        → (t : TypedExpr) (body : TypedStmt) (s : eval.State) (f : State) (top low : ℕ) → s.stock ≤ n
        → FitsExpr (scope P S) 0 (expr_of t) → FitsStmt (scope P S) S.func.result around.Loop (stmt_of body)
        → nodes (expr_of t) + size_of (stmt_of body) ≤ most → Related S s f → 4 + 8 * s.stock ≤ top
        → low ≤ s.stock + most * f.rounds
        → EndsHere P most S y x (do_code (context P S) (expr_of t) (stmt_at P most S y body)) f top low (then
        (meaning P (task.Run body) s) (after P most (Some t) None body))
    do_starts = LoopBeginnings.do_starts P most S y x

    -- CHOICES

    if_follows : (n : ℕ) → Below P most n → (t : TypedExpr) (one : TypedStmt) (other : Option TypedStmt)
        (B : Code) (m : ℕ) (s : eval.State) (f : State) (top low : ℕ) → s.stock ≤ n
        → FitsExpr (scope P S) 0 (expr_of t) → FitsStmt (scope P S) S.func.result x (stmt_of one)
        → size_of (stmt_of one) ≤ most
        → ((s1 : eval.State) (g : State) (up : ℕ) → s1.stock ≤ n → Related S s1 g
        → 8 * s1.stock ≤ up → low ≤ s1.stock + most * g.rounds - m
        → EndsHere P most S y x B g up low (run_if (meaning P) other s1))
        → Related S s f → 8 * s.stock ≤ top
        → low ≤ s.stock + most * f.rounds - (nodes (expr_of t) + (size_of (stmt_of one) + m))
        → EndsHere P most S y x (Then (code P most S y 0 t)
        (only (If (Var (temp 0)) (here one) B))) f top low
        (then (meaning P (Of t) s) (after_if (meaning P) one other))
    if_follows n h t one other B m s f top low le te tone zone hb r hu hl =
        let A = here one in
        operand_in P most S y x (EndedIn x S) t 0 (only (If (Var (temp 0)) A B)) s f top low
        (after_if (meaning P) one other) (h.expr t s le) te r (omega arith) (omega arith)
        (λ v s1 g t1 hv ls us ds.
        wanted_in x most (EndedIn x S) (run P most S y (only (If (Var (temp 0)) A B)) g) (top - t1) low v s1
        (λ w. cond (is_false w) (run_if (meaning P) other s1) (meaning P (task.Run one) s1))
        (λ w ew.
        let z = value_at S 0 t.kind f v w s1 g ew hv in
        leg w s1 g (top - t1) (omega arith) z.keeps.rel z.is (omega arith) (omega arith)))
      where
        leg : (w : ℕ) (s1 : eval.State) (g : State) (up : ℕ) → s1.stock ≤ n → Related S s1 g
            → g.vars (temp 0) ≡ Some w → 3 + 8 * s1.stock ≤ up
            → low ≤ s1.stock + most * g.rounds - (size_of (stmt_of one) + m)
            → EndsHere P most S y x (only (If (Var (temp 0)) (here one) B)) g up low
            (cond (is_false w) (run_if (meaning P) other s1) (meaning P (task.Run one) s1))
        leg zero s1 g up le1 rel e hu1 hl1 =
            moved_in x most (EndedIn x S) (run P most S y
            (only (If (Var (temp 0)) (here one) B)) g) (run P most S y B g) 1 up low
            (run_if (meaning P) other s1)
            (if_other checked (functions P most) (base P most) S.env (Var (temp 0))
            (here one) B g
            (var_read (functions P most) (base P most) S.env g (temp 0) 0 e)) (omega arith)
            (hb s1 g (up - 1) le1 rel (omega arith) (omega arith))
        leg (suc w) s1 g up le1 rel e hu1 hl1 =
            subst (λ b. EndsHere P most S y x
            (only (If (Var (temp 0)) (here one) B)) g up low
            (cond b (run_if (meaning P) other s1) (meaning P (task.Run one) s1)))
            (sym (is_true w))
            (moved_in x most (EndedIn x S) (run P most S y
            (only (If (Var (temp 0)) (here one) B)) g)
            (run P most S y (here one) g) 1 up low (meaning P (task.Run one) s1)
            (if_one checked (functions P most) (base P most) S.env (Var (temp 0))
            (here one) B g w
            (var_read (functions P most) (base P most) S.env g (temp 0) (suc w) e)) (omega arith)
            (h.run one s1 le1 S y x (up - 1) low g tone zone rel (omega arith) (omega arith)))

    -- EVERY STATEMENT

    begun_follows : (l : Level) (s : eval.State) (f : State) (top low : ℕ) → Below P most s.stock
        → FollowsBlock P most S y (in_switch x) s.stock
        → FitsStmt (scope P S) S.func.result x (plain_stmt l) → size_of (plain_stmt l) ≤ most
        → Related S s f → 4 + 8 * s.stock ≤ top
        → low ≤ suc s.stock + most * f.rounds - size_of (plain_stmt l)
        → EndsHere P most S y x (stmt_code (context P S) x (plain_stmt l)) f top low
        (begun (meaning P) l s)
    begun_follows (stmt.Declare p e) s f top low h hb t z r hu hl =
        declare_ends P most S y x p e top low s f h.expr t r (omega arith) (omega arith)
    begun_follows (stmt.Plain None) s f top low h hb t z r hu hl =
        nothing_left P most S y x s f top low r (omega arith) (omega arith)
    begun_follows (stmt.Plain (Some e)) s f top low h hb t z r hu hl =
        plain_ends_in P most S y x e s f top low (h.expr e s (omega arith)) t r (omega arith)
        (omega arith)
    begun_follows (stmt.Compound all) s f top low h hb t z r hu hl =
        stmts_follow s.stock h all s f top low (omega arith) t (omega arith) r (omega arith)
        (omega arith)
    begun_follows (stmt.If c one None) s f top low h hb t z r hu hl =
        if_follows s.stock h c one None Nop 0 s f top low (omega arith) t.0 t.1 (omega arith)
        (λ s1 g up le rel hu1 hl1. nothing_left P most S y x s1 g up low rel hu1 (omega arith)) r
        (omega arith) (omega arith)
    begun_follows (stmt.If c one (Some other)) s f top low h hb t z r hu hl =
        if_follows s.stock h c one (Some other) (Then (here other) Nop)
        (size_of (stmt_of other)) s f top low (omega arith) t.0 t.1 (omega arith)
        (λ s1 g up le rel hu1 hl1.
        subst (λ a. EndsHere P most S y x a g up low (meaning P (task.Run other) s1))
        (sym (then_nop (here other)))
        (h.run other s1 le S y x up low g t.2.0 (omega arith) rel (omega arith) hl1)) r (omega arith)
        (omega arith)
    begun_follows (stmt.While c body) s f top low h hb t z r hu hl =
        loop_starts s.stock h (Some c) None body s f top low (omega arith) t.0 tt t.1 (omega arith) r
        (omega arith) (omega arith)
    begun_follows (stmt.Do body c) s f top low h hb t z r hu hl =
        do_starts s.stock h c body s f top low (omega arith) t.1 t.0 (omega arith) r (omega arith)
        (omega arith)
    begun_follows (stmt.For first test post body) s f top low h hb t z r hu hl =
        let l = loop_code (context P S) (expr_if test) (expr_if post) (stmt_at P most S y body) in
        let e = first_is first in
        let t0 : FitsFirst (scope P S) S.func.result x (plain_first (out-TypedForInit first)) = subst
        (FitsFirst (scope P S) S.func.result x) e t.0 in
        let size : size_of_first (first_of first) ≡ size_of_first (plain_first (out-TypedForInit first)) =
        ap size_of_first e in
        subst (λ q. EndsHere P most S y x (Then (first_code (context P S) x q) l) f top low
        (begin (meaning P) (out-TypedForInit first) test post body s)) (sym e)
        (for_starts s.stock h (out-TypedForInit first) test post body s f top low (omega arith) t0
        (omega arith) t.1 t.2 t.3 (omega arith) r (omega arith) (omega arith))
    begun_follows (stmt.Switch i c xs) s f top low h hb t z r hu hl =
        let a = switched_code x (sections_in xs) (rest_of P most S y (in_switch x) 0 xs) in
        operand_in P most S y x (EndedIn x S) c 0 a s f top low (after_switch (meaning P) xs)
        (h.expr c s (omega arith)) t.0 r (omega arith) (omega arith)
        (λ v s1 g t1 hv ls us ds.
        wanted_in x most (EndedIn x S) (run P most S y a g) (top - t1) low v s1
        (λ w. compared (meaning P) w (targets xs) [] s1) (λ w ew.
        let q = value_at S 0 c.kind f v w s1 g ew hv in
        switch_ends P most S y x s.stock hb (kind_of (expr_of c)) xs w s1 g (top - t1) low (omega arith) t.1
        t.2 t.3 (omega arith) q.fits.below q.keeps.rel q.is (omega arith) (omega arith)))
    begun_follows stmt.Break s f top low h hb t z r hu hl =
        break_ends P most S y x s f top low r (omega arith) (omega arith)
    begun_follows stmt.Continue s f top low h hb t z r hu hl =
        continue_ends P most S y x t s f top low r (omega arith) (omega arith)
    begun_follows (stmt.Return None) s f top low h hb t z r hu hl =
        return_ends P most S y x s f top low t r (omega arith) (omega arith)
    begun_follows (stmt.Return (Some e)) s f top low h hb t z r hu hl =
        value_ends P most S y x e s f top low (h.expr e s (omega arith)) t r (omega arith) (omega arith)

  stmt_follows : (st : TypedStmt) (s : eval.State) → ((n : ℕ) → s.stock ≡ suc n → Below P most n)
      → FollowsRun P most st s
  stmt_follows st s h S y x top low f t z r hu hl =
      let l = out-TypedStmt st in
      subst (λ q. EndsHere P most S y x (stmt_code (context P S) x (stmt_of st)) f top low q)
      (sym (meaning-is P (task.Run st) s))
      (subst (λ q. FitsStmt (scope P S) S.func.result x q → size_of q ≤ most
      → low ≤ s.stock + most * f.rounds - size_of q
      → EndsHere P most S y x (stmt_code (context P S) x q) f top low (statement (meaning P) l s))
      (sym (stmt_is st))
      (λ t z hl. spending_in P most S y x (EndedIn x S) (stmt_code (context P S) x (plain_stmt l)) s f top low
      (begun (meaning P) l) r (omega arith) (λ n e rn.
      begun_follows S y x l (record s { stock = n }) f top low (h n e)
      (block_follows P most S y (in_switch x) n (h n e)) t z rn (omega arith)
      (omega arith))) t z hl)

  -- EVERYTHING

  module _ (sound : FitsSource (source_of P)) (large : IsMost (source_of P) most) where
    abbrev Followed : Task → eval.State → Type 0
    Followed (Of e) s = FollowsOf P most e s
    Followed (task.Run st) s = FollowsRun P most st s
    Followed (Turn test post body) s = FollowsTurn P most test post body s
        × ((t : TypedExpr) → test ≡ Some t → post ≡ None → FollowsDo P most t body s)

    followed : (t : Task) (s : eval.State)
        → ((u : Task) (x : eval.State) → weight u x.stock < weight t s.stock → Followed u x)
        → Followed t s
    followed (Of e) s h = expr_follows P most sound large e s
        (λ e s1 lt. h (Of e) s1 (omega arith), λ st s1 lt. h (task.Run st) s1 (omega arith))
    followed (task.Run st) s h = stmt_follows st s (λ n q. record {
      expr = λ e s1 le. h (Of e) s1 (omega arith);
      run = λ st s1 le. h (task.Run st) s1 (omega arith);
      turn = λ test post body s1 le. (h (Turn test post body) s1 (omega arith)).0;
      again = λ t body s1 le. (h (Turn (Some t) None body) s1 (omega arith)).1 t refl refl;
    })
    followed (Turn test post body) s h = (
      turn_follows P most test post body s (λ e s1 le. h (Of e) s1 (omega arith))
          (λ s1 le. h (task.Run body) s1 (omega arith))
          (λ s1 lt. (h (Turn test post body) s1 (omega arith)).0),
      λ t e1 e2. do_follows P most t body s (h (Of t) s (omega arith))
          (λ s1 le. h (task.Run body) s1 (omega arith))
          (λ s1 lt. (h (Turn (Some t) None body) s1 (omega arith)).1 t refl refl),
    )

    pub every_follows : (t : Task) (s : eval.State) → Followed t s
    every_follows t s = by-parts Followed followed t s

    -- every statement, whatever the steps
    pub runs_follow : (st : TypedStmt) (s : eval.State) → FollowsRun P most st s
    runs_follow st s = every_follows (task.Run st) s
