-- The turns of loops follow the evaluation.
use Rattle.std.proofs.Common.{◌≡◌, ℕ, zero, suc, ◌+◌, ◌-◌, ◌*◌, ◌<◌, ◌≤◌, Bool, true, false}
use Rattle.std.proofs.Common.{cond, Option, Some, None, refl, sym, ap, ◌∙◌, subst}
use Rattle.std.proofs.Common.{mul-suc, arith}
use Rattle.c_tree.specs.declared.TypedExpr.{TypedExpr}
use Rattle.c_tree.specs.declared.TypedStmt.{TypedStmt}
use Rattle.c_tree.specs.declared.TypedProgram.{TypedProgram}
use Rattle.c_meaning_spec.specs.declared.signal.Signal.{Signal}
use Rattle.c_meaning_spec.specs.declared.signal.Signal.TheVariants.{Nothing, Value, Breaks, Continues}
use Rattle.c_meaning_spec.specs.declared.signal.Signal.TheVariants.{Returns}
use Rattle.c_meaning_spec.specs.declared.signal.Ending.TheVariants.{More, Undefined, Deep}
use Rattle.c_meaning_spec.specs.declared.signal.Halt.TheVariants.{NoStep, TooDeep, Faults, Exits}
use Rattle.c_meaning_spec.specs.State.{Result, Go, Over, want}
use Rattle.c_meaning_spec.specs.inside.State.{then}
use Rattle.c_meaning_spec.specs.State as eval
use Rattle.c_meaning_spec.specs.Word.{is_false}
use Rattle.c_meaning_spec.specs.Task.{Of, Turn}
use Rattle.c_meaning_spec.specs.Task as task
use Rattle.c_meaning_spec.specs.Statement.{then_turn, after_body, after_test}
use Rattle.c_meaning_spec.specs.Eval.{meaning}
use Rattle.c_meaning_spec.proofs.Equations.{meaning-is}
use Rattle.c_meaning_spec.proofs.Induction.{meaning-falls}
use Rattle.ir_forms.specs.declared.flat.Arg.TheVariants.{Var}
use Rattle.ir_forms.specs.inside.FlatCode.{Code, Nop, only}
use Rattle.ir_forms.specs.inside.FlatCode as flat
use Rattle.ir_forms.specs.inside.FlatSteps.{State, Broke, Gave, TooDeep as Sinks, settle, counted}
use Rattle.ir_forms.specs.inside.FlatRuns.{checked}
use Rattle.ir_forms.proofs.Leads.{Run, Leads}
use Rattle.ir_forms.proofs.Steps.{nop_leads}
use Rattle.ir_forms.proofs.Statements.{if_one, if_other}
use Rattle.ir_forms.proofs.LoopRuns.{loop_run, post_run, turn_goes, turn_continues, turn_leads}
use Rattle.ir_forms.proofs.LoopRuns.{turn_stops, post_moves, post_leads, post_stops}
use Rattle.flat_lower.specs.inside.TreeViews.{expr_of, expr_if, stmt_of}
use Rattle.flat_lower.specs.inside.Operations.{temp}
use Rattle.flat_lower.specs.inside.Statements.{expr_if_code, if_so, turn_code, stmt_code}
use Rattle.flat_lower.specs.inside.Fits.{FitsExpr, FitsExprIf, FitsStmt}
use Rattle.flat_lower.specs.inside.Sizes.{nodes, nodes_if, size_of}
use Rattle.flat_lower.specs.declared.around.Around.{Around}
use Rattle.flat_lower.specs.declared.around.Around.TheVariants as around
use Rattle.flat_lower.proofs.Straight.{var_read}
use Rattle.flat_lower.proofs.Follows.{Post, Settles, Follows, FollowsIn, moved, moved_in, settles_is, wanted, quits}
use Rattle.flat_lower.proofs.Related.{Scene, IsScene, scope, context, Related, recounted}
use Rattle.flat_lower.proofs.Values.{Valued, valued_settles, value_at, kept_at, functions, base}
use Rattle.flat_lower.proofs.Values.{FollowsOf, run, code, operand}
use Rattle.flat_lower.proofs.ChoicesFollow.{is_true}
use Rattle.flat_lower.proofs.Returns.{Ended, EndedIn, FollowsRun}
use Rattle.flat_lower.proofs.LeafStatements.{EndsHere, just_breaks}

module _ (P : TypedProgram) (most : ℕ) where
  -- a body under a word that was tested, and a turn up to its body's end: where the test fails the
  -- loop is left
  abbrev pub so_part : ℕ → TypedStmt → eval.State → Result
  so_part w body s = cond (is_false w) (Go Breaks s) (meaning P (task.Run body) s)

  abbrev pub turn_part : Option TypedExpr → TypedStmt → eval.State → Result
  turn_part None body s = meaning P (task.Run body) s
  turn_part (Some t) body s = then (meaning P (Of t) s) (λ v s. want v s (λ w. so_part w body s))

  -- what the evaluation does behind a loop's body
  abbrev pub after : Option TypedExpr → Option TypedExpr → TypedStmt → Signal → eval.State → Result
  after test post body v s = after_body (meaning P) test post body v s

  -- what stands behind a test is a body under the tested word, and what the loop does behind it
  pub test_is : (t : TypedExpr) (post : Option TypedExpr) (body : TypedStmt) (v : Signal)
      (s : eval.State) → after_test (meaning P) (Some t) post body v s
      ≡ then (want v s (λ w. so_part w body s)) (after (Some t) post body)
  test_is t post body Nothing s = refl
  test_is t post body (Value w) s = go (is_false w)
    where
      go : (b : Bool) → cond b (Go Nothing s)
          (then (meaning P (task.Run body) s) (after (Some t) post body))
          ≡ then (cond b (Go Breaks s) (meaning P (task.Run body) s)) (after (Some t) post body)
      go true = refl
      go false = refl
  test_is t post body Breaks s = refl
  test_is t post body Continues s = refl
  test_is t post body (Returns w) s = refl

  -- a turn by its two parts
  pub turn_is : (test post : Option TypedExpr) (body : TypedStmt) (s : eval.State)
      → meaning P (Turn test post body) s ≡ then (turn_part test body s) (after test post body)
  turn_is None post body s = meaning-is P (Turn None post body) s
  turn_is (Some t) post body s = meaning-is P (Turn (Some t) post body) s ∙ go (meaning P (Of t) s)
    where
      go : (r : Result) → then r (after_test (meaning P) (Some t) post body)
          ≡ then (then r (λ v s. want v s (λ w. so_part w body s))) (after (Some t) post body)
      go (Go v s) = test_is t post body v s
      go (Over why s) = refl

  -- what goes on has spent a step, but for a test
  pub so_falls : (w : ℕ) (body : TypedStmt) (s : eval.State) (v : Signal) (s1 : eval.State)
      → so_part w body s ≡ Go v s1 → s1.stock ≤ s.stock
  so_falls w body s v s1 e = go (is_false w) e
    where
      go : (b : Bool) → cond b (Go Breaks s) (meaning P (task.Run body) s) ≡ Go v s1
          → s1.stock ≤ s.stock
      go true e = let same : s ≡ s1 = cc e in omega (arith, ap (λ (s : eval.State). s.stock) same)
      go false e = let lt = meaning-falls P (task.Run body) s v s1 e in omega arith

  pub turn_falls : (test : Option TypedExpr) (body : TypedStmt) (s : eval.State) (v : Signal)
      (s1 : eval.State) → turn_part test body s ≡ Go v s1 → s1.stock < s.stock
  turn_falls None body s v s1 e = meaning-falls P (task.Run body) s v s1 e
  turn_falls (Some t) body s v s1 e = go (meaning P (Of t) s) refl e
    where
      taken : (v0 : Signal) (s0 : eval.State) → s0.stock < s.stock
          → want v0 s0 (λ w. so_part w body s0) ≡ Go v s1 → s1.stock < s.stock
      taken Nothing s0 lt e = absurd (cc e)
      taken (Value w) s0 lt e = let le = so_falls w body s0 v s1 e in omega arith
      taken Breaks s0 lt e = absurd (cc e)
      taken Continues s0 lt e = absurd (cc e)
      taken (Returns w) s0 lt e = absurd (cc e)

      go : (r : Result) → meaning P (Of t) s ≡ r
          → then r (λ v s. want v s (λ w. so_part w body s)) ≡ Go v s1 → s1.stock < s.stock
      go (Go v0 s0) q e = taken v0 s0 (meaning-falls P (Of t) s v0 s0 q) e
      go (Over why s0) q e = absurd (cc e)

  module _ (S : Scene) (y : IsScene P S) where
    -- the run of a loop of a body and a last part
    abbrev pub loop_of : Code → Code → State → Run
    loop_of a b f = loop_run checked (functions P most) (base P most) S.env a b f

    -- the run of a loop from the last part of its turn on
    abbrev pub post_of : Code → Code → State → Run
    post_of a b f = post_run checked (functions P most) (base P most) S.env a b f

    -- a turn, and what follows its body
    pub loop_follows : (x : Around) (a b : Code) (f : State) (up down top low : ℕ) (r : Result)
        (test post : Option TypedExpr) (body : TypedStmt)
        → EndsHere P most S y around.Loop a (counted f) up down r → suc up ≤ top → low ≤ down
        → ((v : Signal) (s1 : eval.State) (g : State) (t : ℕ) → r ≡ Go v s1 → Related S s1 g
        → t + 8 * s1.stock ≤ up → down ≤ s1.stock + most * g.rounds
        → FollowsIn x most (EndedIn x S) (post_of a b g) (top - suc t) low
        (then_turn (meaning P) post test post body s1))
        → FollowsIn x most (EndedIn x S) (loop_of a b f) top low (then r (after test post body))
    loop_follows x a b f up down top low (Go Nothing s1) test post body h hu hl go =
        moved_in x most (EndedIn x S) (loop_of a b f) (post_of a b h.to) (suc h.t) top low
        (then_turn (meaning P) post test post body s1)
        (turn_goes checked (functions P most) (base P most) S.env a b f h.to h.t h.leads)
        (omega (arith, h.upper)) (go Nothing s1 h.to h.t refl h.holds h.upper h.lower)
    loop_follows x a b f up down top low (Go (Value w) s1) test post body h hu hl go = absurd h.holds
    loop_follows x a b f up down top low (Go Breaks s1) test post body h hu hl go = record {
      t = suc h.t;
      to = h.to;
      upper = omega (arith, h.upper);
      lower = omega (arith, h.lower);
      holds = h.holds;
      leads = turn_leads checked (functions P most) (base P most) S.env a b f h.t (Broke h.to)
          (settle h.to) (λ k p next. refl) h.leads;
    }
    loop_follows x a b f up down top low (Go Continues s1) test post body h hu hl go =
        moved_in x most (EndedIn x S) (loop_of a b f) (post_of a b h.to) (suc h.t) top low
        (then_turn (meaning P) post test post body s1)
        (turn_continues checked (functions P most) (base P most) S.env a b f h.to h.t h.leads)
        (omega (arith, h.upper)) (go Continues s1 h.to h.t refl h.holds.1 h.upper h.lower)
    loop_follows x a b f up down top low (Go (Returns w) s1) test post body h hu hl go = record {
      t = suc h.t;
      to = h.to;
      upper = omega (arith, h.upper);
      lower = omega (arith, h.lower);
      holds = h.holds;
      leads = turn_leads checked (functions P most) (base P most) S.env a b f h.t (Gave w h.to)
          (Gave w h.to) (λ k p next. refl) h.leads;
    }
    loop_follows x a b f up down top low (Over NoStep s1) test post body h hu hl go = record {
      t = suc h.t;
      r = h.r;
      upper = omega (arith, h.upper);
      lower = omega (arith, h.lower);
      stops = turn_stops checked (functions P most)
          (base P most) S.env a b f h.t s1.output h.r h.stops;
    }
    loop_follows x a b f up down top low (Over (Faults c) s1) test post body h hu hl go = tt
    loop_follows x a b f up down top low (Over TooDeep s1) test post body h hu hl go = record {
      t = suc h.t;
      upper = omega (arith, h.upper);
      leads = turn_leads checked (functions P most) (base P most) S.env a b f h.t
          (λ k. Sinks s1.output) (λ k. Sinks s1.output) (λ k p next. refl) h.leads;
    }
    loop_follows x a b f up down top low (Over (Exits w) s1) test post body h hu hl go = record {
      t = suc h.t;
      to = h.to;
      upper = omega (arith, h.upper);
      lower = omega (arith, h.lower);
      output = h.output;
      fits = h.fits;
      leads = turn_leads checked (functions P most) (base P most) S.env a b f h.t
          (λ k. quits w h.to k) (λ k. quits w h.to k) (λ k p next. refl) h.leads;
    }

    -- the part after a body, and the next turn
    pub post_follows : (x : Around) (Q : Post) (a b : Code) (f : State) (up down top low : ℕ) (r : Result)
        (next : Signal → eval.State → Result) → Follows most Q (run P most S y b f) up down r
        → up ≤ top → low ≤ down
        → ((v : Signal) (s1 : eval.State) (g : State) (t : ℕ) → r ≡ Go v s1 → Q v s1 g
        → t + 8 * s1.stock ≤ up → down ≤ s1.stock + most * g.rounds
        → Settles v × FollowsIn x most (EndedIn x S) (loop_of a b g) (top - t) low (next v s1))
        → FollowsIn x most (EndedIn x S) (post_of a b f) top low (then r next)
    post_follows x Q a b f up down top low (Go v s1) next h hu hl go =
        let k = go v s1 h.to h.t refl h.holds h.upper h.lower in
        let l : Leads (run P most S y b f) h.t (settle h.to) = subst (λ q. Leads (run P most S y b f) h.t (q h.to))
        (settles_is (functions P most) (base P most) most S.env v k.0) h.leads in
        moved_in x most (EndedIn x S) (post_of a b f) (loop_of a b h.to) h.t top low (next v s1)
        (post_moves checked (functions P most) (base P most) S.env a b f h.to h.t l)
        (omega (arith, h.upper)) k.1
    post_follows x Q a b f up down top low (Over NoStep s1) next h hu hl go = record {
      t = h.t;
      r = h.r;
      upper = omega (arith, h.upper);
      lower = omega (arith, h.lower);
      stops = post_stops checked (functions P most)
          (base P most) S.env a b f h.t s1.output h.r h.stops;
    }
    post_follows x Q a b f up down top low (Over (Faults c) s1) next h hu hl go = tt
    post_follows x Q a b f up down top low (Over TooDeep s1) next h hu hl go = record {
      t = h.t;
      upper = omega (arith, h.upper);
      leads = post_leads checked (functions P most) (base P most) S.env a b f h.t
          (λ k. Sinks s1.output) (λ k. Sinks s1.output) (λ k next. refl) h.leads;
    }
    post_follows x Q a b f up down top low (Over (Exits w) s1) next h hu hl go = record {
      t = h.t;
      to = h.to;
      upper = omega (arith, h.upper);
      lower = omega (arith, h.lower);
      output = h.output;
      fits = h.fits;
      leads = post_leads checked (functions P most) (base P most) S.env a b f h.t
          (λ k. quits w h.to k) (λ k. quits w h.to k) (λ k next. refl) h.leads;
    }

    -- the code of a statement inside a loop
    abbrev pub stmt : TypedStmt → Code
    stmt body = stmt_code (context P S) around.Loop (stmt_of body)

    -- THE PARTS OF A TURN

    -- the word stands in temporary 0
    pub so_ends : (w : ℕ) (body : TypedStmt) (s : eval.State) (g : State) (up low : ℕ)
        → FollowsRun P most body s → FitsStmt (scope P S) S.func.result around.Loop (stmt_of body)
        → size_of (stmt_of body) ≤ most → Related S s g → g.vars (temp 0) ≡ Some w
        → 2 + 8 * s.stock ≤ up → low ≤ s.stock + most * g.rounds - size_of (stmt_of body)
        → EndsHere P most S y around.Loop (if_so (stmt body)) g up low (so_part w body s)
    so_ends zero body s g up low h t z r e hu hl =
        moved most (Ended S) (run P most S y (if_so (stmt body)) g)
        (run P most S y (only flat.Break) g) 1 up low (Go Breaks s)
        (if_other checked (functions P most) (base P most) S.env (Var (temp 0)) (stmt body)
        (only flat.Break) g (var_read (functions P most) (base P most) S.env g (temp 0) 0 e))
        (omega arith)
        (just_breaks P most S y around.Loop s g (up - 1) low r (omega arith) (omega arith))
    so_ends (suc w) body s g up low h t z r e hu hl =
        subst (λ b. EndsHere P most S y around.Loop (if_so (stmt body)) g up low
        (cond b (Go Breaks s) (meaning P (task.Run body) s))) (sym (is_true w))
        (moved most (Ended S) (run P most S y (if_so (stmt body)) g)
        (run P most S y (stmt body) g) 1 up low (meaning P (task.Run body) s)
        (if_one checked (functions P most) (base P most) S.env (Var (temp 0)) (stmt body)
        (only flat.Break) g w (var_read (functions P most) (base P most) S.env g (temp 0)
        (suc w) e)) (omega arith)
        (h S y around.Loop (up - 1) low g t z r (omega arith) hl))

    pub part_ends : (test : Option TypedExpr) (body : TypedStmt) (s : eval.State) (g : State)
        (up low : ℕ) → ((e : TypedExpr) → FollowsOf P most e s)
        → ((s1 : eval.State) → s1.stock ≤ s.stock → FollowsRun P most body s1)
        → FitsExprIf (scope P S) (expr_if test) → FitsStmt (scope P S) S.func.result around.Loop (stmt_of body)
        → size_of (stmt_of body) ≤ most → Related S s g → 8 * s.stock ≤ up + 1
        → low ≤ s.stock + most * g.rounds - (nodes_if (expr_if test) + size_of (stmt_of body))
        → EndsHere P most S y around.Loop (turn_code (context P S) (expr_if test) (stmt body)) g up low
        (turn_part test body s)
    part_ends None body s g up low he hs tt0 t z r hu hl =
        hs s (omega arith) S y around.Loop up low g t z r (omega arith) (omega arith)
    part_ends (Some e) body s g up low he hs te t z r hu hl =
        operand P most S y (Ended S) e 0 (if_so (stmt body)) s g up low
        (λ v s. want v s (λ w. so_part w body s)) (he e) te r (omega arith) (omega arith)
        (λ v s1 g1 t1 hv ls us ds.
        wanted most (Ended S) (run P most S y (if_so (stmt body)) g1) (up - t1) low v s1
        (λ w. so_part w body s1) (λ w ew.
        let x = value_at S 0 e.kind g v w s1 g1 ew hv in
        so_ends w body s1 g1 (up - t1) low (hs s1 (omega arith)) t z x.keeps.rel x.is (omega arith)
        (omega arith)))

  -- LOOPS

  -- a while or a for, from a turn on
  abbrev pub FollowsTurn : Option TypedExpr → Option TypedExpr → TypedStmt → eval.State → Type 0
  FollowsTurn test post body s =
      (S : Scene) (y : IsScene P S) (x : Around) (top low : ℕ) (f : State)
      → FitsExprIf (scope P S) (expr_if test) → FitsExprIf (scope P S) (expr_if post)
      → FitsStmt (scope P S) S.func.result around.Loop (stmt_of body)
      → nodes_if (expr_if test) + (nodes_if (expr_if post) + size_of (stmt_of body)) ≤ most
      → Related S s f → 1 + 8 * s.stock ≤ top → low ≤ s.stock + most * f.rounds
      → FollowsIn x most (EndedIn x S) (loop_of S y (turn_code (context P S) (expr_if test) (stmt S y body))
      (expr_if_code (context P S) (expr_if post)) f) top low (meaning P (Turn test post body) s)

  -- a loop's turn follows the evaluation, where its parts do and later turns with fewer steps
  pub turn_follows : (test post : Option TypedExpr) (body : TypedStmt) (s : eval.State)
      → ((e : TypedExpr) (s1 : eval.State) → s1.stock ≤ s.stock → FollowsOf P most e s1)
      → ((s1 : eval.State) → s1.stock ≤ s.stock → FollowsRun P most body s1)
      → ((s1 : eval.State) → s1.stock < s.stock → FollowsTurn test post body s1)
      → FollowsTurn test post body s
  turn_follows test post body s he hs ht S y x top low f tt0 tp tb z r hu hl =
      let a = turn_code (context P S) (expr_if test) (stmt S y body) in
      let b = expr_if_code (context P S) (expr_if post) in
      let up = 8 * s.stock - 1 in
      let down = s.stock + most * suc f.rounds - (nodes_if (expr_if test) + size_of (stmt_of body)) in
      subst (λ q. FollowsIn x most (EndedIn x S) (loop_of S y a b f) top low q)
      (sym (turn_is test post body s))
      (loop_follows S y x a b f up down top low (turn_part test body s) test post body
      (part_ends S y test body s (counted f) up down (λ e. he e s (omega arith)) hs tt0 tb
      (omega arith) (recounted S s f r) (omega arith) (omega arith))
      (omega arith) (omega (arith, mul-suc most f.rounds))
      (λ v s1 g t1 eq rel us ds. let falls = turn_falls test body s v s1 eq in
      next post refl s1 g t1 falls rel us ds))
    where
      next : (p : Option TypedExpr) → post ≡ p → (s1 : eval.State) (g : State) (t1 : ℕ)
          → s1.stock < s.stock → Related S s1 g → t1 + 8 * s1.stock ≤ 8 * s.stock - 1
          → s.stock + most * suc f.rounds -
          (nodes_if (expr_if test) + size_of (stmt_of body)) ≤ s1.stock + most * g.rounds
          → FollowsIn x most (EndedIn x S) (post_of S y
          (turn_code (context P S) (expr_if test) (stmt S y body))
          (expr_if_code (context P S) (expr_if p)) g) (top - suc t1) low
          (then_turn (meaning P) p test post body s1)
      next None e s1 g t1 falls rel us ds =
          let a = turn_code (context P S) (expr_if test) (stmt S y body) in
          let whole = ht s1 falls S y x (top - suc t1) low g tt0 tp tb z rel (omega arith)
          (omega (arith, mul-suc most f.rounds)) in
          let there : FollowsIn x most (EndedIn x S) (loop_of S y a Nop g) (top - suc t1) low
          (meaning P (Turn test post body) s1) =
          subst (λ p. FollowsIn x most (EndedIn x S)
          (loop_of S y a (expr_if_code (context P S) (expr_if p)) g) (top - suc t1) low
          (meaning P (Turn test post body) s1)) e whole in
          moved_in x most (EndedIn x S) (post_of S y a Nop g) (loop_of S y a Nop g) 0 (top - suc t1) low
          (meaning P (Turn test post body) s1)
          (post_moves checked (functions P most) (base P most) S.env a Nop g g 0
          (nop_leads checked (functions P most) (base P most) S.env g)) (omega arith)
          (subst (λ n. FollowsIn x most (EndedIn x S) (loop_of S y a Nop g) n low
          (meaning P (Turn test post body) s1)) (zero_off (top - suc t1)) there)
        where
          zero_off : (n : ℕ) → n ≡ n - 0
          zero_off n = omega arith
      next (Some q) e s1 g t1 falls rel us ds =
          let a = turn_code (context P S) (expr_if test) (stmt S y body) in
          let b = code P most S y 0 q in
          let fits : FitsExpr (scope P S) 0 (expr_of q) = subst (λ p. FitsExprIf (scope P S) (expr_if p)) e tp in
          let size : nodes_if (expr_if test) + (nodes (expr_of q) + size_of (stmt_of body)) ≤ most = subst
          (λ p. nodes_if (expr_if test) + (nodes_if (expr_if p) + size_of (stmt_of body)) ≤ most) e z in
          let up2 = 8 * s1.stock - 3 in
          let down2 = s1.stock + most * g.rounds - nodes (expr_of q) in
          post_follows S y x (Valued S 0 q.kind g) a b g up2 down2 (top - suc t1) low
          (meaning P (Of q) s1) (λ v s. meaning P (Turn test post body) s)
          (he q s1 (omega arith) S y 0 up2 down2 g fits rel (omega arith) (omega arith))
          (omega arith) (omega (arith, mul-suc most f.rounds))
          (λ v s2 g2 t2 eq hv us2 ds2. let falls2 = meaning-falls P (Of q) s1 v s2 eq in (
            valued_settles S 0 q.kind g v s2 g2 hv,
            subst (λ p. FollowsIn x most (EndedIn x S)
                (loop_of S y a (expr_if_code (context P S) (expr_if p)) g2) (top - suc t1 - t2) low
                (meaning P (Turn test post body) s2)) e
                (ht s2 (omega arith) S y x (top - suc t1 - t2) low g2 tt0 tp tb z
                (kept_at S 0 q.kind g v s2 g2 hv).rel (omega arith)
                (omega (arith, mul-suc most f.rounds))),
          ))
