-- Well formed statements are as the lowering takes them.
use Rattle.std.proofs.Common.{◌≡◌, ℕ, ◌^◌, ◌≤◌, true, List, [], ◌++◌, map, Option, Some, None, sym}
use Rattle.std.proofs.Common.{subst, arith}
use Rattle.std.specs.Prelude.{slice_get}
use Rattle.c_tree.specs.declared.Kind.{Kind}
use Rattle.c_tree.specs.declared.Place.TheVariants.{Scalar}
use Rattle.c_tree.specs.declared.Slot.TheVariants as slot
use Rattle.c_tree.specs.declared.TypedExpr.{TypedExpr}
use Rattle.c_tree.specs.declared.TypedFunc.{TypedFunc}
use Rattle.c_tree.specs.declared.TypedProgram.{TypedProgram}
use Rattle.c_tree.specs.declared.TypedSection.{TypedSection}
use Rattle.c_tree.specs.declared.TypedStmt.{TypedStmt, out-TypedStmt}
use Rattle.c_tree.specs.declared.TypedForInit.{TypedForInit, out-TypedForInit}
use Rattle.c_tree.specs.TypedTrees.{Level, Beginning}
use Rattle.c_type.specs.declared.state.Around.{Around as TypedAround}
use Rattle.c_type.specs.States.{in_loop}
use Rattle.c_type.specs.States as typed
use Rattle.c_type_rules.specs.inside.KeptStatements.{IsValue, IsTest, IsEffect, IsValueIf}
use Rattle.c_type_rules.specs.inside.KeptStatements.{IsTestIf, IsEffectIf, IsReturn, WellFormedStmt, RunsAll, Begins}
use Rattle.c_type_rules.specs.inside.KeptStatements.{RunsSections}
use Rattle.c_type_rules.specs.inside.KeptStatements as rule
use Rattle.c_type_rules.specs.inside.WellFormed.{Each, GlobalFits}
use Rattle.flat_lower_premises.specs.inside.TypedTrees.{ExprHasWords, ExprIfHasWords, LevelHasWords, StmtsHaveWords}
use Rattle.flat_lower_premises.specs.inside.TypedTrees.{SectionsHaveWords, BeginningHasWords}
use Rattle.flat_lower_premises.specs.inside.TypedTrees as word
use Rattle.flat_lower.specs.inside.TreeViews.{expr_of, expr_if, stmt_of, stmts_of}
use Rattle.flat_lower.specs.inside.Fits.{Scope, FitsExpr, FitsExprIf, FitsDeclare, FitsReturn, FitsStmt}
use Rattle.flat_lower.specs.inside.Fits.{FitsStmts, FitsSections, FitsFirst}
use Rattle.flat_lower.specs.inside.FitsSwitches.{IsLooped}
use Rattle.flat_lower.specs.inside.Emitted.{sections_in}
use Rattle.flat_lower.specs.inside.Switches.{in_switch}
use Rattle.flat_lower.specs.inside.Tree.{Stmt, First}
use Rattle.flat_lower.specs.declared.around.Around.{Around}
use Rattle.flat_lower.specs.declared.around.Around.TheVariants as around
use Rattle.flat_lower.proofs.TreeFacts.{plain_stmt, plain_first, first_of, stmt_is, first_is}
use Rattle.flat_lower_premises.proofs.Named.{scope}
use Rattle.flat_lower_premises.proofs.FitExpressions.{IsFit, has, whole}
use Rattle.flat_lower_premises.proofs.FitSwitches.{labels_fit, labelled, filled, few_free}
use Rattle.flat_lower_premises.proofs.FewSections.{IsFew, AllFew, SectionsFew, FirstFew}

-- what typing says of a `continue` holds of what the lowering knows
abbrev Continues : TypedAround → Around → Type 0
Continues b x = b.may_continue ≡ true → IsLooped x

-- in a switch as around it
pub still_looped : (x : Around) → IsLooped x → IsLooped (in_switch x)
still_looped around.Nowhere h = absurd h
still_looped around.Loop h = tt
still_looped around.Switch h = absurd h
still_looped around.SwitchInLoop h = tt

module _ (P : TypedProgram) (f : TypedFunc) (globals : Each GlobalFits P.globals) (top : ℕ) (low : top ≤ 2 ^ 64) where
  abbrev c : Scope
  c = scope P f

  -- FULL EXPRESSIONS

  value : (k : Kind) (e : TypedExpr) → IsValue P f k e → ExprHasWords e → IsFit P f globals 0 k e
  value k e h w = let n = h.1 in has P f globals k e 0 h.0 w (omega (arith, n))

  test : (e : TypedExpr) → IsTest P f e → ExprHasWords e → FitsExpr c 0 (expr_of e)
  test e h w = (value h.kind e h.value w).fits

  effect : (e : TypedExpr) → IsEffect P f e → ExprHasWords e → FitsExpr c 0 (expr_of e)
  effect e h w = let n = h.1 in whole P f globals e 0 h.0 w (omega (arith, n))

  test_if : (e : Option TypedExpr) → IsTestIf P f e → ExprIfHasWords e → FitsExprIf c (expr_if e)
  test_if None h w = tt
  test_if (Some e) h w = test e h w

  effect_if : (e : Option TypedExpr) → IsEffectIf P f e → ExprIfHasWords e
      → FitsExprIf c (expr_if e)
  effect_if None h w = tt
  effect_if (Some e) h w = effect e h w

  declared : (n : ℕ) (k : Kind) (e : Option TypedExpr)
      → slice_get f.scalars n ≡ Some (slot.Scalar k) → IsValueIf P f k e → ExprIfHasWords e
      → FitsDeclare c (Scalar n) (expr_if e)
  declared n k None s h w = tt
  declared n k (Some e) s h w = let x = value k e h w in (k, s, x.fits, x.kind)

  returned : (r : Option Kind) (e : Option TypedExpr) → IsReturn P f r e → ExprIfHasWords e
      → FitsReturn c r (expr_if e)
  returned None None h w = tt
  returned None (Some e) h w = absurd h
  returned (Some k) None h w = absurd h
  returned (Some k) (Some e) h w = let x = value k e h w in (x.fits, x.kind)

  -- STATEMENTS

  -- a statement, and the first part of a for, by their levels
  at_level : (x : Around) (s : TypedStmt) → FitsStmt c f.result x (plain_stmt (out-TypedStmt s))
      → FitsStmt c f.result x (stmt_of s)
  at_level x s t = subst (FitsStmt c f.result x) (sym (stmt_is s)) t

  at_first : (x : Around) (i : TypedForInit) → FitsFirst c f.result x (plain_first (out-TypedForInit i))
      → FitsFirst c f.result x (first_of i)
  at_first x i t = subst (FitsFirst c f.result x) (sym (first_is i)) t

  few_level : (s : TypedStmt) → IsFew top (stmt_of s) → IsFew top (plain_stmt (out-TypedStmt s))
  few_level s n = subst (λ (x : Stmt). IsFew top x) (stmt_is s) n

  few_first : (i : TypedForInit) → FirstFew top (first_of i) → FirstFew top (plain_first (out-TypedForInit i))
  few_first i n = subst (λ (x : First). FirstFew top x) (first_is i) n

  mutual
    runs : (b : TypedAround) (x : Around) → Continues b x → (y : Level) → WellFormedStmt P f b y
        → LevelHasWords y → IsFew top (plain_stmt y) → FitsStmt c f.result x (plain_stmt y)
    runs b x ok _ (rule.scalar {n = n} {k = k} {init = init} l s h) (word.declared w) m =
        declared n k init s h w
    runs b x ok _ (rule.array {n = n} s) w m = tt
    runs b x ok _ (rule.plain {e = e} h) (word.plain w) m = effect_if e h w
    runs b x ok _ (rule.compound {ss = ss} h) (word.compound w) m = runs_all b x ok ss h w m
    runs b x ok _ (rule.choice {test = t} {one = one} h r rule.without) (word.choice wt w wo) m =
        (test t h wt, at_level x one (runs b x ok (out-TypedStmt one) r w (few_level one m.0)), tt)
    runs b x ok _ (rule.choice {test = t} {one = one} h r (rule.with_else {s = s} q))
        (word.choice wt w (word.with_else wo)) m = (
          test t h wt,
          at_level x one (runs b x ok (out-TypedStmt one) r w (few_level one m.0)),
          (at_level x s (runs b x ok (out-TypedStmt s) q wo (few_level s m.1.0)), tt),
        )
    runs b x ok _ (rule.while_loop {test = t} {body = body} h r) (word.while_loop wt w) m = (
      test t h wt,
      at_level around.Loop body
          (runs in_loop around.Loop (λ e. tt) (out-TypedStmt body) r w (few_level body m)),
    )
    runs b x ok _ (rule.do_loop {test = t} {body = body} r h) (word.do_loop w wt) m = (
      at_level around.Loop body
          (runs in_loop around.Loop (λ e. tt) (out-TypedStmt body) r w (few_level body m)),
      test t h wt,
    )
    runs b x ok _ (rule.for_loop {init = init} {test = t} {post = post} {body = body} i h p r)
        (word.for_loop wi wt wp w) m = (
          at_first x init (begins b x ok (out-TypedForInit init) i wi (few_first init m.0)),
          test_if t h wt,
          effect_if post p wp,
          at_level around.Loop body
              (runs in_loop around.Loop (λ e. tt) (out-TypedStmt body) r w (few_level body m.1)),
        )
    runs b x ok _ (rule.switch {n = n} {k = k} {test = t} {sections = xs} l s q v r) (word.switch wt ws) m =
        let u = value k t v wt in (
          u.fits,
          subst (λ j. FitsSections c f.result (in_switch x) j (sections_in xs)) (sym u.kind)
              (runs_sections k [] (typed.in_switch b) (in_switch x) (λ e. still_looped x (ok e)) xs r ws m.1),
          few_free P f k (typed.in_switch b) xs r ws,
          (let h = m.0 in omega (arith, h, low)),
        )
    runs b x ok _ (rule.breaks h) w m = tt
    runs b x ok _ (rule.continues h) w m = ok h
    runs b x ok _ (rule.returns {e = e} h) (word.returns w) m = returned f.result e h w

    runs_all : (b : TypedAround) (x : Around) → Continues b x → (ss : List TypedStmt) → RunsAll P f b ss
        → StmtsHaveWords ss → AllFew top (stmts_of (map stmt_of ss))
        → FitsStmts c f.result x (stmts_of (map stmt_of ss))
    runs_all b x ok _ rule.end w m = tt
    runs_all b x ok _ (rule.next {s = s} {ss = ss} r h) (word.one_stmt w ws) m =
        (at_level x s (runs b x ok (out-TypedStmt s) r w (few_level s m.0)), runs_all b x ok ss h ws m.1)

    runs_sections : (k : Kind) (seen : List (Option ℕ)) (b : TypedAround) (x : Around) → Continues b x
        → (xs : List TypedSection) → RunsSections P f k seen b xs → SectionsHaveWords xs
        → SectionsFew top (sections_in xs) → FitsSections c f.result x (Some k) (sections_in xs)
    runs_sections _ _ b x ok _ rule.no_section w m = tt
    runs_sections _ _ b x ok _ (rule.a_section {k = k} {seen = seen} {s = s} {ss = ss} l r rs)
        (word.one_section i j w ws) m = (
          labelled s.labels i,
          labels_fit k seen s.labels l,
          filled s.body j,
          runs_all b x ok s.body r w m.0,
          runs_sections k (seen ++ s.labels) b x ok ss rs ws m.1,
        )

    begins : (b : TypedAround) (x : Around) → Continues b x → (y : Beginning) → Begins P f b y
        → BeginningHasWords y → FirstFew top (plain_first y) → FitsFirst c f.result x (plain_first y)
    begins b x ok _ rule.nothing w m = tt
    begins b x ok _ (rule.first {e = e} h) (word.first w) m = effect e h w
    begins b x ok _ (rule.locals {ss = ss} h) (word.locals w) m = runs_all b x ok ss h w m

  -- a statement fits
  pub stmt_fits : (b : TypedAround) (x : Around) → Continues b x → (s : TypedStmt)
      → WellFormedStmt P f b (out-TypedStmt s) → LevelHasWords (out-TypedStmt s) → IsFew top (stmt_of s)
      → FitsStmt c f.result x (stmt_of s)
  stmt_fits b x ok s r w m = at_level x s (runs b x ok (out-TypedStmt s) r w (few_level s m))
