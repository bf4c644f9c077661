-- A pass through a typed statement costs no more than the statement has nodes, and a typed
-- statement has fewer than twice as many.
use Rattle.std.proofs.Common.{◌≡◌, ℕ, ◌+◌, ◌*◌, ◌≤◌, List, Option, Some, None, length, arith}
use Rattle.c_tree.specs.declared.token.Kind.{Kind}
use Rattle.c_tree.specs.declared.tree.ArraySize.TheVariants as size
use Rattle.c_tree.specs.declared.tree.Expr.{Expr}
use Rattle.c_tree.specs.declared.tree.Label.{Label}
use Rattle.c_tree.specs.declared.tree.Section.{Section}
use Rattle.c_tree.specs.declared.tree.Stmt.{Stmt}
use Rattle.c_tree.specs.declared.tree.ForInit.{ForInit}
use Rattle.c_tree.specs.declared.typed.Place.TheVariants as place
use Rattle.c_tree.specs.declared.typed.TypedExpr.{TypedExpr}
use Rattle.c_tree.specs.declared.typed.TypedSection.{TypedSection}
use Rattle.c_tree.specs.declared.typed.TypedStmt.{TypedStmt}
use Rattle.c_tree.specs.declared.typed.TypedStmt.TheVariants as typed
use Rattle.c_tree.specs.declared.typed.TypedForInit.{TypedForInit}
use Rattle.c_tree.specs.declared.typed.TypedForInit.TheVariants as begin
use Rattle.c_tree.specs.declared.typed.TypedForInit.TheOpen as level
use Rattle.c_type_expr.specs.Scope.{Scope}
use Rattle.c_type_expr.specs.declared.role.Role.{Role}
use Rattle.c_constant.specs.Kinds.{promoted}
use Rattle.c_type_expr.specs.Conversions.{kind_of, with_convert}
use Rattle.c_type.specs.declared.state.State.{State}
use Rattle.c_type.specs.declared.state.Around.{Around}
use Rattle.c_type_rules.specs.Statements.{FullIf, absent, present, Initialises, without_value}
use Rattle.c_type_rules.specs.Statements.{with_value, Types, scalar_declared, array_declared}
use Rattle.c_type_rules.specs.Statements.{rows_declared, switches, Labels, no_label, a_case, a_default}
use Rattle.c_type_rules.specs.Statements.{TypesSections, no_section, one_section}
use Rattle.c_type_rules.specs.Statements.{expression, block, either, while_loop, do_loop}
use Rattle.c_type_rules.specs.Statements.{for_loop, breaks, continues, returns, returns_value}
use Rattle.c_type_rules.specs.Statements.{TypesAll, no_more, one_more, without_else}
use Rattle.c_type_rules.specs.Statements.{with_else, Begins, no_first, first_value, first_locals}
use Rattle.flat_lower.specs.inside.Sizes as plain
use Rattle.flat_lower.specs.inside.Sizes.{label_count}
use Rattle.flat_lower.specs.inside.Emitted.{sections_in}
use Rattle.flat_lower_premises.specs.inside.SourceNodes as limits
use Rattle.flat_lower_premises.specs.inside.Nodes as nodes
use Rattle.flat_lower_premises.proofs.TreeSizes.{nodes-Declare, nodes-Plain, nodes-Compound, nodes-If, nodes-While}
use Rattle.flat_lower_premises.proofs.TreeSizes.{nodes-Do, nodes-For, nodes-Break, nodes-Continue, nodes-Return}
use Rattle.flat_lower_premises.proofs.TreeSizes.{nodes-Switch, nodes-section, nodes-Nothing}
use Rattle.flat_lower_premises.proofs.TreeSizes.{nodes-First, nodes-Locals}
use Rattle.flat_lower_premises.proofs.TypedTreeSizes.{cost_if, body_cost, first_cost, bodies_cost}
use Rattle.flat_lower_premises.proofs.TypedTreeSizes.{typed_if_nodes, body_nodes, first_nodes, bodies_nodes}
use Rattle.flat_lower_premises.proofs.TypedTreeSizes.{converted_few, at_stmt, at_first}
use Rattle.flat_lower_premises.proofs.ExpressionBounds.{typed_few}

-- a full expression that may be left out
full_few : {G : Scope} {r : Role} {e : Option Expr} {t : Option TypedExpr} → FullIf G r e t
    → (cost_if t ≤ nodes.expr_if_nodes e) × (typed_if_nodes t ≤ 2 * nodes.expr_if_nodes e)
full_few absent = (omega arith, omega arith)
full_few {G = G} (present x) =
    let c = typed_few G x.0 in (omega (arith, c.0), omega (arith, c.1))

-- an initialiser that may be left out
initial_few : {G : Scope} {k : Kind} {e : Option Expr} {t : Option TypedExpr}
    → Initialises G k e t
    → (cost_if t ≤ nodes.expr_if_nodes e) × (typed_if_nodes t ≤ 2 * nodes.expr_if_nodes e)
initial_few without_value = (omega arith, omega arith)
initial_few {G = G} {k = k} (with_value {t = t} x) =
    let c = typed_few G x.0 in let d = converted_few k t in
    (omega (arith, c.0, d.0), omega (arith, c.1, d.1))

-- as many labels as before
labels_few : {G : Scope} {k : Kind} {seen words : List (Option ℕ)} {ls : List Label} → Labels G k seen ls words
    → label_count words ≡ length ls
labels_few no_label = omega arith
labels_few (a_case c v n l d) = let h = labels_few d in omega (arith, h)
labels_few (a_default l d) = let h = labels_few d in omega (arith, h)

-- what the sections of a switch cost, and how many nodes they have
abbrev sections_cost : List TypedSection → ℕ
sections_cost xs = plain.size_of_sections (sections_in xs)

abbrev sections_nodes : List TypedSection → ℕ
sections_nodes xs = limits.sections_nodes (sections_in xs)

mutual
  -- a pass through a typed statement costs no more than the statement has nodes, and it has fewer than twice as
  -- many
  pub types_few : {b : Around} {v w : State} {s : Stmt} {t : TypedStmt} → Types b v s t w
      → (body_cost t ≤ nodes.stmt_nodes s) × (1 + body_nodes t ≤ 2 * nodes.stmt_nodes s)
  types_few {v = v} (scalar_declared {l = l} {k = k} {w = w} {init = init} {t = t} i j x) =
      let n = nodes-Declare l k w size.Scalar init in let c = initial_few x in
      let p = place.Scalar (length v.scalars) in
      let m = at_stmt _ (level.Declare p t) (typed.rolls-Declare p t) in
      (omega (arith, c.0, m.0), omega (arith, c.1, m.1))
  types_few {v = v} (array_declared {l = l} {k = k} {w = w} {e = e} x i j) =
      let n = nodes-Declare l k w (size.Sized e) None in
      let p = place.Array (length v.arrays) in
      let m = at_stmt _ (level.Declare p None) (typed.rolls-Declare p None) in
      (omega (arith, m.0), omega (arith, m.1))
  types_few {v = v} (rows_declared {l = l} {k = k} {w = w} {r = r} {e = e} x y i j) =
      let n = nodes-Declare l k w (size.Rows (Some r) e) None in
      let p = place.Array (length v.arrays) in
      let m = at_stmt _ (level.Declare p None) (typed.rolls-Declare p None) in
      (omega (arith, m.0), omega (arith, m.1))
  types_few (expression {l = l} {e = e} {t = t} x) =
      let n = nodes-Plain l e in let c = full_few x in
      let m = at_stmt _ (level.Plain t) (typed.rolls-Plain t) in
      (omega (arith, c.0, m.0), omega (arith, c.1, m.1))
  types_few (block {l = l} {ss = ss} {ts = ts} x) =
      let n = nodes-Compound l ss in let c = all_few x in
      let m = at_stmt _ (level.Compound ts) (typed.rolls-Compound ts) in
      (omega (arith, c.0, m.0), omega (arith, c.1, m.1))
  types_few (either {v = v} {l = l} {c = c} {d = d} {s = s} {t = t} x y without_else) =
      let n = nodes-If l c s None in let i = typed_few v.names x.0 in let j = types_few y in
      let m = at_stmt _ (level.If d t None) (typed.rolls-If d t None) in
      (omega (arith, i.0, j.0, m.0), omega (arith, i.1, j.1, m.1))
  types_few (either {v = v} {l = l} {c = c} {d = d} {s = s} {t = t} x y
      (with_else {s = o} {t = u} z)) =
      let n = nodes-If l c s (Some o) in let i = typed_few v.names x.0 in let j = types_few y in
      let k = types_few z in
      let m = at_stmt _ (level.If d t (Some u)) (typed.rolls-If d t (Some u)) in
      (omega (arith, i.0, j.0, k.0, m.0), omega (arith, i.1, j.1, k.1, m.1))
  types_few (while_loop {v = v} {l = l} {c = c} {d = d} {s = s} {t = t} x y) =
      let n = nodes-While l c s in let i = typed_few v.names x.0 in let j = types_few y in
      let m = at_stmt _ (level.While d t) (typed.rolls-While d t) in
      (omega (arith, i.0, j.0, m.0), omega (arith, i.1, j.1, m.1))
  types_few (do_loop {w = w} {l = l} {c = c} {d = d} {s = s} {t = t} x y) =
      let n = nodes-Do l s c in let i = types_few x in let j = typed_few w.names y.0 in
      let m = at_stmt _ (level.Do t d) (typed.rolls-Do t d) in
      (omega (arith, i.0, j.0, m.0), omega (arith, i.1, j.1, m.1))
  types_few (for_loop {l = l} {init = init} {i = i} {c = c} {p = p} {d = d} {q = q} {s = s} {t = t}
      x y z u) =
      let n = nodes-For l init c p s in let e = begins_few x in let f = full_few y in
      let g = full_few z in let h = types_few u in
      let m = at_stmt _ (level.For i d q t) (typed.rolls-For i d q t) in
      (omega (arith, e.0, f.0, g.0, h.0, m.0), omega (arith, e.1, f.1, g.1, h.1, m.1))
  types_few {v = v} (switches {l = l} {c = c} {d = d} {xs = xs} {ts = ts} x i y) =
      let k = promoted (kind_of d) in
      let n = nodes-Switch l c xs in let e = typed_few v.names x.0 in let f = converted_few k d in
      let h = sections_few y in
      let m = at_stmt _ (level.Switch (length v.scalars) (with_convert k d) ts)
      (typed.rolls-Switch (length v.scalars) (with_convert k d) ts) in
      (omega (arith, e.0, f.0, h.0, m.0), omega (arith, e.1, f.1, h.1, m.1))
  types_few (breaks {l = l} i) =
      let n = nodes-Break l in
      let m = at_stmt _ level.Break typed.rolls-Break in
      (omega (arith, m.0), omega (arith, m.1))
  types_few (continues {l = l} i) =
      let n = nodes-Continue l in
      let m = at_stmt _ level.Continue typed.rolls-Continue in
      (omega (arith, m.0), omega (arith, m.1))
  types_few (returns {l = l} i) =
      let n = nodes-Return l None in
      let m = at_stmt _ (level.Return None) (typed.rolls-Return None) in
      (omega (arith, m.0), omega (arith, m.1))
  types_few (returns_value {v = v} {l = l} {k = k} {e = e} {t = t} i x) =
      let n = nodes-Return l (Some e) in let c = typed_few v.names x.0 in
      let d = converted_few k t in let u = Some (with_convert k t) in
      let m = at_stmt _ (level.Return u) (typed.rolls-Return u) in
      (omega (arith, c.0, d.0, m.0), omega (arith, c.1, d.1, m.1))

  -- a pass through typed statements costs no more than the statements have nodes, and they have at most twice
  -- as many
  pub all_few : {b : Around} {v w : State} {ss : List Stmt} {ts : List TypedStmt}
      → TypesAll b v ss ts w
      → (bodies_cost ts ≤ nodes.stmts_nodes ss) × (bodies_nodes ts ≤ 2 * nodes.stmts_nodes ss)
  all_few no_more = (omega arith, omega arith)
  all_few (one_more x y) =
      let c = types_few x in let d = all_few y in
      (omega (arith, c.0, d.0), omega (arith, c.1, d.1))

  sections_few : {k : Kind} {seen : List (Option ℕ)} {b : Around} {v w : State} {xs : List Section}
      {us : List TypedSection} → TypesSections k seen b v xs us w
      → (sections_cost us ≤ nodes.sections_nodes xs) × (sections_nodes us ≤ 2 * nodes.sections_nodes xs)
  sections_few no_section = (omega arith, omega arith)
  sections_few (one_section {ls = ls} {ss = ss} x y z) =
      let n = nodes-section ls ss in let l = labels_few x in let c = all_few y in let d = sections_few z in
      (omega (arith, n, l, c.0, d.0), omega (arith, n, l, c.1, d.1))

  begins_few : {b : Around} {v w : State} {i : ForInit} {j : TypedForInit}
      → Begins b v i j w
      → (first_cost j ≤ nodes.first_nodes i) × (first_nodes j ≤ 2 * nodes.first_nodes i)
  begins_few no_first =
      let n = nodes-Nothing in let m = at_first _ level.Nothing begin.rolls-Nothing in
      (omega (arith, m.0), omega (arith, m.1))
  begins_few {v = v} (first_value {e = e} {t = t} x) =
      let n = nodes-First e in let c = typed_few v.names x.0 in
      let m = at_first _ (level.First t) (begin.rolls-First t) in
      (omega (arith, c.0, m.0), omega (arith, c.1, m.1))
  begins_few (first_locals {ss = ss} {ts = ts} x) =
      let n = nodes-Locals ss in let c = all_few x in
      let m = at_first _ (level.Locals ts) (begin.rolls-Locals ts) in
      (omega (arith, c.0, m.0), omega (arith, c.1, m.1))
