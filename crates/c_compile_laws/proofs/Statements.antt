-- Every statement's code has at least as many small ifs as the statement has plain ifs.
use Rattle.std.proofs.Common.{◌≡◌, ℕ, ◌+◌, ◌≤◌, true, List, [], ◌∷◌, map, Some, None, sym, subst}
use Rattle.std.proofs.Common.{arith, suc}
use Rattle.std.specs.Prelude.{cond, ◌&&◌}
use Rattle.c_tree.specs.declared.TypedStmt.{TypedStmt, roll-TypedStmt, map-TypedStmt}
use Rattle.c_tree.specs.declared.TypedStmt.{fold-roll-TypedStmt, ind-TypedStmt}
use Rattle.c_tree.specs.declared.TypedForInit.{TypedForInit, roll-TypedForInit, map-TypedForInit, fold-TypedForInit}
use Rattle.c_tree.specs.declared.TypedForInit.{fold-roll-TypedForInit}
use Rattle.c_tree.specs.declared.TypedForInit.TheOpen.{TypedStmt-F, TypedForInit-F, TypedSection-F}
use Rattle.c_tree.specs.declared.TypedForInit.TheOpen as stmt
use Rattle.c_tree.specs.declared.TypedSection.{TypedSection, roll-TypedSection, map-TypedSection}
use Rattle.c_tree.specs.declared.TypedSection.{fold-TypedSection, fold_out-TypedSection}
use Rattle.ir_forms.specs.inside.FlatFits.{small_ifs}
use Rattle.flat_lower.specs.inside.Tree.{Stmt, Declare, If, While, Do, For, Break, Continue, Return}
use Rattle.flat_lower.specs.inside.Tree.{NoStmts, WithStmt, First, Switch, WithSection}
use Rattle.flat_lower.specs.inside.TreeViews.{expr_of, expr_if, stmt_by, stmt_of, stmts_of, Section}
use Rattle.flat_lower.specs.inside.TreeViews.{sections_of, section_by}
use Rattle.flat_lower.specs.inside.TreeViews as view
use Rattle.flat_lower.specs.inside.Objects.{Context}
use Rattle.flat_lower.specs.inside.Statements.{stmt_code, stmts_code, first_code}
use Rattle.flat_lower.specs.inside.Statements.{sections_code}
use Rattle.flat_lower.specs.inside.Switches.{in_switch, section_code}
use Rattle.flat_lower.specs.declared.around.Around.{Around}
use Rattle.flat_lower.specs.declared.around.Around.TheVariants as around
use Rattle.flat_lower.proofs.TreeFacts.{first_of}
use Rattle.c_compile_laws.specs.PlainIfs.{Counted, assigns_only, ifs_of_all, counted_by, first_by, counted}
use Rattle.c_compile_laws.specs.PlainIfs.{ifs_of_sections}
use Rattle.c_compile_laws.specs.PlainIfs as count
use Rattle.c_compile_laws.proofs.SmallIfs.{IsSet, then_small, set_then}
use Rattle.c_compile_laws.proofs.PlainAssignments.{not_so, plain_sets}
use Rattle.c_compile_laws.proofs.SmallIfCounts.{Shows, unfit, if_alone, if_else, for_keeps, while_keeps, do_shows}
use Rattle.c_compile_laws.proofs.SmallIfCounts.{section_keeps, switch_keeps}

-- the plain ifs in the first part of a `for`
unfoldable pub first_ifs : TypedForInit → ℕ
first_ifs i = fold-TypedForInit ℕ Counted ℕ first_by counted_by count.section_by i

-- the plain ifs in a section of a switch
unfoldable pub section_ifs : TypedSection → ℕ
section_ifs x = fold-TypedSection ℕ Counted ℕ first_by counted_by count.section_by x

-- a section as plain data
unfoldable pub section_view : TypedSection → Section
section_view x = fold-TypedSection First Stmt Section view.first_by stmt_by section_by x

-- each by the statements of the section
section_counts : (x : TypedSection) → section_ifs x ≡ ifs_of_all (map counted x.body)
unfolding counted section_ifs
section_counts x = fold_out-TypedSection ℕ Counted ℕ first_by counted_by count.section_by x

section_views : (x : TypedSection)
    → section_view x ≡ (record { labels = x.labels; body = stmts_of (map stmt_of x.body) })
unfolding stmt_of section_view
section_views x = fold_out-TypedSection First Stmt Section view.first_by stmt_by section_by x

module _ (c : Context) where
  -- what is shown of each
  abbrev FirstShows : TypedForInit → Type 0
  FirstShows i = (a : Around) → first_ifs i ≤ small_ifs (first_code c a (first_of i))

  abbrev StmtShows : TypedStmt → Type 0
  StmtShows s = (a : Around) → Shows c a (counted s) (stmt_of s)

  -- of the statements of a section
  abbrev SectionShows : TypedSection → Type 0
  SectionShows x =
      (a : Around) → ifs_of_all (map counted x.body) ≤ small_ifs (stmts_code c a (stmts_of (map stmt_of x.body)))

  module _ (I S X : Type 0) (of_i : I → TypedForInit) (of_s : S → TypedStmt) (of_x : X → TypedSection)
      (good_i : (i : I) → FirstShows (of_i i)) (good_s : (s : S) → StmtShows (of_s s))
      (good_x : (x : X) → SectionShows (of_x x)) where
    -- each of several statements
    all_show : (a : Around) (ss : List S) → ifs_of_all (map counted (map of_s ss)) ≤
        small_ifs (stmts_code c a (stmts_of (map stmt_of (map of_s ss))))
    all_show a [] = omega arith
    all_show a (s ∷ ss) =
        let i = (good_s s a).ifs in
        let h = all_show a ss in
        let w = then_small (stmt_code c a (stmt_of (of_s s)))
        (stmts_code c a (stmts_of (map stmt_of (map of_s ss)))) in
        omega (arith, i, h, w)

    -- the only statement of a compound
    only_sets : (a : Around) (ss : List S) → assigns_only (map counted (map of_s ss)) ≡ true
        → IsSet (stmts_code c a (stmts_of (map stmt_of (map of_s ss))))
    only_sets a [] h = absurd (not_so h)
    only_sets a (s ∷ []) h = set_then (stmt_code c a (stmt_of (of_s s))) ((good_s s a).alone h)
    only_sets a (s ∷ (t ∷ ss)) h = absurd (not_so h)

    -- one section and those behind it
    one_section : (a : Around) (k : ℕ) (x : TypedSection) (n : ℕ) (rest : List Section) → SectionShows x
        → n ≤ small_ifs (sections_code c a (suc k) (sections_of rest))
        → section_ifs x + n ≤ small_ifs (sections_code c a k (sections_of (section_view x ∷ rest)))
    one_section a k x n rest g h =
        let body = stmts_of (map stmt_of x.body) in
        let i = g a in
        let e = section_counts x in
        let b = section_keeps c k (stmts_code c a body) in
        let w = then_small (section_code k (stmts_code c a body)) (sections_code c a (suc k) (sections_of rest)) in
        let all : section_ifs x + n ≤
        small_ifs (sections_code c a k (WithSection x.labels body (sections_of rest))) =
        omega (arith, i, e, h, b, w) in
        subst (λ (y : Section). section_ifs x + n ≤ small_ifs (sections_code c a k (sections_of (y ∷ rest))))
        (sym (section_views x)) all

    -- each of several sections
    sections_show : (a : Around) (k : ℕ) (xs : List X) → ifs_of_sections (map section_ifs (map of_x xs)) ≤
        small_ifs (sections_code c a k (sections_of (map section_view (map of_x xs))))
    sections_show a k [] = omega arith
    sections_show a k (x ∷ xs) =
        one_section a k (of_x x) (ifs_of_sections (map section_ifs (map of_x xs)))
        (map section_view (map of_x xs)) (good_x x) (sections_show a (suc k) xs)

    -- each production, from its parts
    node_shows : (a : Around) (y : TypedStmt-F I S X)
        → Shows c a (counted_by (map-TypedStmt TypedForInit TypedStmt TypedSection ℕ Counted ℕ first_ifs counted
        section_ifs (map-TypedStmt I S X TypedForInit TypedStmt TypedSection of_i of_s of_x y)))
        (stmt_by (map-TypedStmt TypedForInit TypedStmt TypedSection First Stmt Section first_of stmt_of section_view
        (map-TypedStmt I S X TypedForInit TypedStmt TypedSection of_i of_s of_x y)))
    node_shows a (stmt.Declare p init) = unfit c a 0 (Declare p (expr_if init)) (omega arith)
    node_shows a (stmt.Plain e) = record {
      ifs = omega arith;
      alone = λ h. plain_sets c e h;
      leg = λ h. plain_sets c e h;
    }
    node_shows a (stmt.Compound ss) = record {
      ifs = all_show a ss;
      alone = λ h. absurd (not_so h);
      leg = λ h. only_sets a ss h;
    }
    node_shows a (stmt.If t one None) =
        unfit c a (cond ((counted (of_s one)).leg && true) 1 0 + ((counted (of_s one)).ifs + 0))
        (If (expr_of t) (stmt_of (of_s one)) NoStmts)
        (if_alone c a (counted (of_s one)) (expr_of t) (stmt_of (of_s one)) (good_s one a))
    node_shows a (stmt.If t one (Some other)) =
        unfit c a (cond ((counted (of_s one)).leg && (counted (of_s other)).leg) 1 0 +
        ((counted (of_s one)).ifs + (counted (of_s other)).ifs))
        (If (expr_of t) (stmt_of (of_s one)) (WithStmt (stmt_of (of_s other)) NoStmts))
        (if_else c a (counted (of_s one)) (counted (of_s other)) (expr_of t) (stmt_of (of_s one))
        (stmt_of (of_s other)) (good_s one a) (good_s other a))
    node_shows a (stmt.While t body) =
        unfit c a (counted (of_s body)).ifs (While (expr_of t) (stmt_of (of_s body)))
        (while_keeps c a (counted (of_s body)) (expr_of t) (stmt_of (of_s body)) (good_s body around.Loop))
    node_shows a (stmt.Do body t) =
        unfit c a (counted (of_s body)).ifs (Do (stmt_of (of_s body)) (expr_of t))
        (do_shows c a (counted (of_s body)) (expr_of t) (stmt_of (of_s body)) (good_s body around.Loop))
    node_shows a (stmt.For first test post body) =
        unfit c a (first_ifs (of_i first) + (counted (of_s body)).ifs)
        (For (first_of (of_i first)) (expr_if test) (expr_if post) (stmt_of (of_s body)))
        (for_keeps c a (first_ifs (of_i first)) (counted (of_s body)) (first_of (of_i first)) (expr_if test)
        (expr_if post) (stmt_of (of_s body)) (good_i first a) (good_s body around.Loop))
    node_shows a (stmt.Switch i t xs) =
        unfit c a (ifs_of_sections (map section_ifs (map of_x xs)))
        (Switch (expr_of t) (sections_of (map section_view (map of_x xs))))
        (switch_keeps c a (ifs_of_sections (map section_ifs (map of_x xs))) (expr_of t)
        (sections_of (map section_view (map of_x xs))) (sections_show (in_switch a) 0 xs))
    node_shows a stmt.Break = unfit c a 0 Break (omega arith)
    node_shows a stmt.Continue = unfit c a 0 Continue (omega arith)
    node_shows a (stmt.Return e) = unfit c a 0 (Return (expr_if e)) (omega arith)

    -- each first part of a `for`, from its parts
    begins : (a : Around) (y : TypedForInit-F I S X)
        → first_by (map-TypedForInit TypedForInit TypedStmt TypedSection ℕ Counted ℕ first_ifs counted section_ifs
        (map-TypedForInit I S X TypedForInit TypedStmt TypedSection of_i of_s of_x y)) ≤
        small_ifs (first_code c a (view.first_by (map-TypedForInit TypedForInit TypedStmt TypedSection First Stmt
        Section first_of stmt_of section_view
        (map-TypedForInit I S X TypedForInit TypedStmt TypedSection of_i of_s of_x y))))
    begins a stmt.Nothing = omega arith
    begins a (stmt.First e) = omega arith
    begins a (stmt.Locals ss) = all_show a ss

    -- the same of a statement as it is rolled
    at_stmt : (y : TypedStmt-F I S X)
        → StmtShows (roll-TypedStmt (map-TypedStmt I S X TypedForInit TypedStmt TypedSection of_i of_s of_x y))
    unfolding counted stmt_of first_ifs first_of section_ifs section_view
    at_stmt y a =
        let x = map-TypedStmt I S X TypedForInit TypedStmt TypedSection of_i of_s of_x y in
        subst (λ (n : Counted). Shows c a n (stmt_of (roll-TypedStmt x)))
        (sym (fold-roll-TypedStmt ℕ Counted ℕ first_by counted_by count.section_by x))
        (subst (λ (t : Stmt). Shows c a (counted_by
        (map-TypedStmt TypedForInit TypedStmt TypedSection ℕ Counted ℕ first_ifs counted section_ifs x)) t)
        (sym (fold-roll-TypedStmt First Stmt Section view.first_by stmt_by section_by x)) (node_shows a y))

    -- the same of a first part as it is rolled
    at_first : (y : TypedForInit-F I S X)
        → FirstShows (roll-TypedForInit (map-TypedForInit I S X TypedForInit TypedStmt TypedSection of_i of_s of_x y))
    unfolding counted stmt_of first_ifs first_of section_ifs section_view
    at_first y a =
        let x = map-TypedForInit I S X TypedForInit TypedStmt TypedSection of_i of_s of_x y in
        subst (λ (n : ℕ). n ≤ small_ifs (first_code c a (first_of (roll-TypedForInit x))))
        (sym (fold-roll-TypedForInit ℕ Counted ℕ first_by counted_by count.section_by x))
        (subst (λ (f : First). first_by
        (map-TypedForInit TypedForInit TypedStmt TypedSection ℕ Counted ℕ first_ifs counted section_ifs x) ≤
        small_ifs (first_code c a f))
        (sym (fold-roll-TypedForInit First Stmt Section view.first_by stmt_by section_by x)) (begins a y))

    -- the same of the statements of a section
    at_section : (y : TypedSection-F I S X)
        → SectionShows (roll-TypedSection
        (map-TypedSection I S X TypedForInit TypedStmt TypedSection of_i of_s of_x y))
    at_section y a = all_show a y.body

  -- every statement shows what is counted of it
  pub shows : (s : TypedStmt) → StmtShows s
  shows =
      ind-TypedStmt FirstShows StmtShows SectionShows
      (λ x y e. subst (λ (x : TypedForInit-F TypedForInit TypedStmt TypedSection). FirstShows (roll-TypedForInit x)) e
      (at_first _ _ _ (λ i. i.0) (λ s. s.0) (λ x. x.0) (λ i. i.1) (λ s. s.1) (λ x. x.1) y))
      (λ x y e. subst (λ (x : TypedStmt-F TypedForInit TypedStmt TypedSection). StmtShows (roll-TypedStmt x)) e
      (at_stmt _ _ _ (λ i. i.0) (λ s. s.0) (λ x. x.0) (λ i. i.1) (λ s. s.1) (λ x. x.1) y))
      (λ x y e. subst (λ (x : TypedSection-F TypedForInit TypedStmt TypedSection).
      SectionShows (roll-TypedSection x)) e
      (at_section _ _ _ (λ i. i.0) (λ s. s.0) (λ x. x.0) (λ i. i.1) (λ s. s.1) (λ x. x.1) y))
