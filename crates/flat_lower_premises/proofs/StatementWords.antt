-- Where each number of a statement is a word of its type, so is each number of its typed tree.
use Rattle.std.proofs.Common.{◌≡◌, ℕ, List, [], ◌∷◌, ◌++◌, Option, Some, None, sym, ap, ◌∙◌}
use Rattle.std.proofs.Common.{subst}
use Rattle.c_tree.specs.inside.Trees as untyped
use Rattle.c_tree.specs.TypedTrees as level
use Rattle.c_tree.specs.declared.token.Kind.{Kind}
use Rattle.c_tree.specs.declared.tree.ArraySize.{ArraySize}
use Rattle.c_tree.specs.declared.tree.Expr.{Expr}
use Rattle.c_tree.specs.declared.tree.Label.{Label}
use Rattle.c_tree.specs.declared.tree.Section.{Section, out-Section, out-roll-Section}
use Rattle.c_tree.specs.declared.tree.Stmt.{Stmt}
use Rattle.c_tree.specs.declared.tree.StmtNode.{StmtNode, roll-StmtNode, out-StmtNode}
use Rattle.c_tree.specs.declared.tree.StmtNode.{out-roll-StmtNode}
use Rattle.c_tree.specs.declared.tree.StmtNode.TheVariants as node
use Rattle.c_tree.specs.declared.tree.ForInit.{ForInit, roll-ForInit, out-ForInit, out-roll-ForInit}
use Rattle.c_tree.specs.declared.tree.ForInit.TheVariants as first_part
use Rattle.c_tree.specs.declared.tree.ForInit.TheOpen.{Declare, Plain, Compound, If, While, Do, For}
use Rattle.c_tree.specs.declared.tree.ForInit.TheOpen.{Switch, Return, First, Locals, Section-F}
use Rattle.c_tree.specs.declared.typed.TypedExpr.{TypedExpr}
use Rattle.c_tree.specs.declared.typed.TypedSection.{TypedSection}
use Rattle.c_tree.specs.declared.typed.TypedStmt.{TypedStmt, roll-TypedStmt, out-TypedStmt}
use Rattle.c_tree.specs.declared.typed.TypedStmt.{out-roll-TypedStmt}
use Rattle.c_tree.specs.declared.typed.TypedStmt.TheVariants as typed
use Rattle.c_tree.specs.declared.typed.TypedForInit.{TypedForInit, roll-TypedForInit}
use Rattle.c_tree.specs.declared.typed.TypedForInit.{out-TypedForInit, out-roll-TypedForInit}
use Rattle.c_tree.specs.declared.typed.TypedForInit.TheVariants as typed_init
use Rattle.c_type_expr.specs.Scope.{Scope}
use Rattle.c_constant.specs.Kinds.{promoted}
use Rattle.c_type_expr.specs.declared.role.Role.{Role}
use Rattle.c_type_expr.specs.declared.role.Role.TheVariants.{Value, Free}
use Rattle.c_type_expr.specs.Conversions.{kind_of, with_convert}
use Rattle.c_type.specs.declared.state.State.{State}
use Rattle.c_type.specs.declared.state.Around.{Around}
use Rattle.c_type.specs.States.{entered, with_scalar, with_switch, in_loop, in_switch, sectioned}
use Rattle.c_type_rules.specs.Statements.{FullIf, Initialises, Types, TypesAll, TypesIf, Begins}
use Rattle.c_type_rules.specs.Statements.{TypesSections}
use Rattle.c_type_rules.specs.Statements as typing
use Rattle.flat_lower_premises.specs.inside.Words.{IsFilled}
use Rattle.flat_lower_premises.specs.inside.Trees as plain
use Rattle.flat_lower_premises.specs.inside.ExpressionWords as expressions
use Rattle.flat_lower_premises.specs.inside.TypedTrees as words
use Rattle.flat_lower_premises.proofs.TypedWords.{converted_has, typed_has}

-- FULL EXPRESSIONS

-- one that may be left out
full_if_has : (G : Scope) (r : Role) (e : Option Expr) (t : Option TypedExpr) → FullIf G r e t
    → expressions.ExprIfHasWords e → words.ExprIfHasWords t
full_if_has G r _ _ typing.absent w = tt
full_if_has G r _ _ (typing.present {e = e} {t = t} d) w = typed_has G r e t d.0 w

-- an initialiser
initialises_has : (G : Scope) (k : Kind) (e : Option Expr) (t : Option TypedExpr)
    → Initialises G k e t → expressions.ExprIfHasWords e → words.ExprIfHasWords t
initialises_has G k _ _ typing.without_value w = tt
initialises_has G k _ _ (typing.with_value {e = e} {t = t} d) w =
    converted_has k t (typed_has G Value e t d.0 w)

-- NODES OF A STATEMENT

-- a node that is built is open again
pub opened : (n : StmtNode) (x : untyped.Level) → roll-StmtNode x ≡ n
    → plain.LevelHasWords (out-StmtNode n) → plain.LevelHasWords x
opened n x e h = subst plain.LevelHasWords (ap out-StmtNode (sym e) ∙ out-roll-StmtNode x) h

-- the same of the first part of a `for`
first_opened : (n : ForInit) (x : untyped.Beginning) → roll-ForInit x ≡ n
    → plain.BeginningHasWords (out-ForInit n) → plain.BeginningHasWords x
first_opened n x e h = subst plain.BeginningHasWords (ap out-ForInit (sym e) ∙ out-roll-ForInit x) h

-- what has words has parts that have words
in_declare : {k : Kind} {w : List ℕ} {a : ArraySize} {init : Option Expr}
    → plain.LevelHasWords (Declare k w a init) → expressions.ExprIfHasWords init
in_declare (plain.declared h h') = h'

in_plain : {e : Option Expr} → plain.LevelHasWords (Plain e) → expressions.ExprIfHasWords e
in_plain (plain.plain h) = h

-- a block whose numbers are words has statements whose numbers are
pub in_compound : {ss : List Stmt} → plain.LevelHasWords (Compound ss) → plain.StmtsHaveWords ss
in_compound (plain.compound h) = h

-- the parts of an `if`
record OfIf (c : Expr) (s : Stmt) (other : Option Stmt) : Type 0 where
  test : expressions.ExprHasWords c
  body : plain.StmtHasWords s
  alternative : plain.ElseHasWords other

in_if : {c : Expr} {s : Stmt} {other : Option Stmt} → plain.LevelHasWords (If c s other)
    → OfIf c s other
in_if (plain.choice h h' h'') = record { test = h; body = h'; alternative = h'' }

in_while : {c : Expr} {s : Stmt} → plain.LevelHasWords (While c s)
    → expressions.ExprHasWords c × plain.StmtHasWords s
in_while (plain.while_loop h h') = (h, h')

in_do : {c : Expr} {s : Stmt} → plain.LevelHasWords (Do s c)
    → plain.StmtHasWords s × expressions.ExprHasWords c
in_do (plain.do_loop h h') = (h, h')

-- the parts of a `for`
record OfFor (i : ForInit) (c p : Option Expr) (s : Stmt) : Type 0 where
  beginning : plain.BeginningHasWords (out-ForInit i)
  test : expressions.ExprIfHasWords c
  progress : expressions.ExprIfHasWords p
  body : plain.StmtHasWords s

in_for : {i : ForInit} {c p : Option Expr} {s : Stmt} → plain.LevelHasWords (For i c p s)
    → OfFor i c p s
in_for (plain.for_loop h h1 h2 h3) = record { beginning = h; test = h1; progress = h2; body = h3 }

in_switch_of : {c : Expr} {xs : List Section} → plain.LevelHasWords (Switch c xs)
    → expressions.ExprHasWords c × plain.SectionsHaveWords xs
in_switch_of (plain.switch h h') = (h, h')

-- the parts of a section
record OfSection (x : Section-F ForInit StmtNode Section Stmt) : Type 0 where
  labelled : IsFilled x.labels
  filled : IsFilled x.body
  body : plain.StmtsHaveWords x.body

first_section : {x : Section} {xs : List Section} → plain.SectionsHaveWords (x ∷ xs) → OfSection (out-Section x)
first_section (plain.one_section l ls f h hs) = record { labelled = l; filled = f; body = h }

rest_sections : {x : Section} {xs : List Section} → plain.SectionsHaveWords (x ∷ xs)
    → plain.SectionsHaveWords xs
rest_sections (plain.one_section l ls f h hs) = hs

-- a section that is built is open again
section_opened : (ls : List Label) (ss : List Stmt) (xs : List Section)
    → plain.SectionsHaveWords (sectioned ls ss ∷ xs) → OfSection (record { labels = ls; body = ss })
section_opened ls ss xs h =
    let x : Section-F ForInit StmtNode Section Stmt = record { labels = ls; body = ss } in
    subst OfSection (out-roll-Section x) (first_section h)

-- a section has as many typed labels and statements
labels_filled : (G : Scope) (k : Kind) (seen : List (Option ℕ)) (ls : List Label) (ws : List (Option ℕ))
    → typing.Labels G k seen ls ws → IsFilled ls → IsFilled ws
labels_filled G k seen _ _ typing.no_label f = f
labels_filled G k seen _ _ (typing.a_case c v n l d) f = tt
labels_filled G k seen _ _ (typing.a_default l d) f = tt

stmts_filled : (b : Around) (v : State) (ss : List Stmt) (ts : List TypedStmt) (w : State) → TypesAll b v ss ts w
    → IsFilled ss → IsFilled ts
stmts_filled b _ _ _ _ typing.no_more f = f
stmts_filled b _ _ _ _ (typing.one_more p q) f = tt

in_return : {e : Option Expr} → plain.LevelHasWords (Return e) → expressions.ExprIfHasWords e
in_return (plain.returns h) = h

in_else : {s : Stmt} → plain.ElseHasWords (Some s) → plain.StmtHasWords s
in_else (plain.with_else h) = h

in_first : {e : Expr} → plain.BeginningHasWords (First e) → expressions.ExprHasWords e
in_first (plain.first h) = h

in_locals : {ss : List Stmt} → plain.BeginningHasWords (Locals ss) → plain.StmtsHaveWords ss
in_locals (plain.locals h) = h

first_stmt : {s : Stmt} {ss : List Stmt} → plain.StmtsHaveWords (s ∷ ss) → plain.StmtHasWords s
first_stmt (plain.one_stmt h hs) = h

rest_stmts : {s : Stmt} {ss : List Stmt} → plain.StmtsHaveWords (s ∷ ss) → plain.StmtsHaveWords ss
rest_stmts (plain.one_stmt h hs) = hs

-- NODES OF A TYPED STATEMENT

-- a typed node has words where its open node has
pub made : (n : TypedStmt) (x : level.Level) → roll-TypedStmt x ≡ n → words.LevelHasWords x
    → words.StmtHasWords n
made n x e h = subst words.LevelHasWords (sym (out-roll-TypedStmt x) ∙ ap out-TypedStmt e) h

-- the same of the first part of a `for`
first_made : (n : TypedForInit) (x : level.Beginning) → roll-TypedForInit x ≡ n
    → words.BeginningHasWords x → words.BeginningHasWords (out-TypedForInit n)
first_made n x e h = subst words.BeginningHasWords
    (sym (out-roll-TypedForInit x) ∙ ap out-TypedForInit e) h

-- STATEMENTS

mutual
  -- where a statement has words, so has its typed tree
  pub types_have : (b : Around) (v : State) (s : Stmt) (t : TypedStmt) (u : State) → Types b v s t u
      → plain.StmtHasWords s → words.StmtHasWords t
  types_have _ _ _ _ _ (typing.scalar_declared {v = v} {k = k} {w = w} {init = init} {t = t} h m d)
      x =
      made _ _ (typed.rolls-Declare _ t) (words.declared
      (initialises_has (with_scalar k w v).names k init t d
      (in_declare (opened _ _ (node.rolls-Declare k w _ init) x))))
  types_have _ _ _ _ _ (typing.array_declared s h m) x =
      made _ _ (typed.rolls-Declare _ None) (words.declared tt)
  types_have _ _ _ _ _ (typing.rows_declared r s h m) x =
      made _ _ (typed.rolls-Declare _ None) (words.declared tt)
  types_have _ _ _ _ _ (typing.expression {v = v} {e = e} {t = t} d) x =
      made _ _ (typed.rolls-Plain t) (words.plain
      (full_if_has v.names Free e t d (in_plain (opened _ _ (node.rolls-Plain e) x))))
  types_have _ _ _ _ _ (typing.block {b = b} {v = v} {w = w} {ss = ss} {ts = ts} d) x =
      made _ _ (typed.rolls-Compound ts) (words.compound
      (all_have b (entered v) ss ts w d (in_compound (opened _ _ (node.rolls-Compound ss) x))))
  types_have _ _ _ _ _ (typing.either {b = b} {v = v} {v' = v'} {w = w} {c = c} {d = d} {s = s}
      {t = t} {other = other} {u = u} f p q) x =
      let y = in_if (opened _ _ (node.rolls-If c s other) x) in
      made _ _ (typed.rolls-If d t u) (words.choice (typed_has v.names Value c d f.0 y.test)
      (types_have b v s t v' p y.body) (if_has b v' other u w q y.alternative))
  types_have _ _ _ _ _ (typing.while_loop {v = v} {w = w} {c = c} {d = d} {s = s} {t = t} f p) x =
      let y = in_while (opened _ _ (node.rolls-While c s) x) in
      made _ _ (typed.rolls-While d t) (words.while_loop (typed_has v.names Value c d f.0 y.0)
      (types_have in_loop v s t w p y.1))
  types_have _ _ _ _ _ (typing.do_loop {v = v} {w = w} {c = c} {d = d} {s = s} {t = t} p f) x =
      let y = in_do (opened _ _ (node.rolls-Do s c) x) in
      made _ _ (typed.rolls-Do t d) (words.do_loop (types_have in_loop v s t w p y.0)
      (typed_has w.names Value c d f.0 y.1))
  types_have _ _ _ _ _ (typing.for_loop {b = b} {v = v} {v' = v'} {w = w} {init = init} {i = i}
      {c = c} {p = p} {d = d} {q = q} {s = s} {t = t} g f f' h) x =
      let y = in_for (opened _ _ (node.rolls-For init c p s) x) in
      made _ _ (typed.rolls-For i d q t) (words.for_loop
      (begin_has b (entered v) init i v' g y.beginning) (full_if_has v'.names Value c d f y.test)
      (full_if_has v'.names Free p q f' y.progress) (types_have in_loop v' s t w h y.body))
  types_have _ _ _ _ _ (typing.switches {b = b} {v = v} {w = w} {c = c} {d = d} {xs = xs} {ts = ts} f m p) x =
      let y = in_switch_of (opened _ _ (node.rolls-Switch c xs) x) in
      let k = promoted (kind_of d) in
      made _ _ (typed.rolls-Switch _ (with_convert k d) ts)
      (words.switch (converted_has k d (typed_has v.names Value c d f.0 y.0))
      (sections_have k [] (in_switch b) (with_switch k v) xs ts w p y.1))
  types_have _ _ _ _ _ (typing.breaks h) x = made _ _ typed.rolls-Break words.breaks
  types_have _ _ _ _ _ (typing.continues h) x = made _ _ typed.rolls-Continue words.continues
  types_have _ _ _ _ _ (typing.returns h) x = made _ _ (typed.rolls-Return None) (words.returns tt)
  types_have _ _ _ _ _ (typing.returns_value {v = v} {k = k} {e = e} {t = t} h d) x =
      made _ _ (typed.rolls-Return _) (words.returns {e = Some _}
      (converted_has k t (typed_has v.names Value e t d.0
      (in_return (opened _ _ (node.rolls-Return (Some e)) x)))))

  -- the same of several
  pub all_have : (b : Around) (v : State) (ss : List Stmt) (ts : List TypedStmt) (w : State)
      → TypesAll b v ss ts w → plain.StmtsHaveWords ss → words.StmtsHaveWords ts
  all_have _ _ _ _ _ typing.no_more x = words.no_stmt
  all_have _ _ _ _ _ (typing.one_more {b = b} {v = v} {v' = v'} {w = w} {s = s} {t = t} {ss = ss}
      {ts = ts} p q) x =
      words.one_stmt (types_have b v s t v' p (first_stmt x))
      (all_have b v' ss ts w q (rest_stmts x))

  -- the same of the sections of a switch
  sections_have : (k : Kind) (seen : List (Option ℕ)) (b : Around) (v : State) (xs : List Section)
      (us : List TypedSection) (w : State) → TypesSections k seen b v xs us w → plain.SectionsHaveWords xs
      → words.SectionsHaveWords us
  sections_have _ _ _ _ _ _ _ typing.no_section x = words.no_section
  sections_have _ _ _ _ _ _ _ (typing.one_section {k = k} {seen = seen} {words = ws} {b = b} {v = v} {v' = v'} {w = w}
      {ls = ls} {ss = ss} {ts = ts} {xs = xs} {us = us} l p q) x =
      let y = section_opened ls ss xs x in
      words.one_section (labels_filled v.names k seen ls ws l y.labelled) (stmts_filled b v ss ts v' p y.filled)
      (all_have b v ss ts v' p y.body)
      (sections_have k (seen ++ ws) b v' xs us w q (rest_sections x))

  -- the same of a leg that may be left out
  if_has : (b : Around) (v : State) (o : Option Stmt) (u : Option TypedStmt) (w : State)
      → TypesIf b v o u w → plain.ElseHasWords o → words.ElseHasWords u
  if_has _ _ _ _ _ typing.without_else x = words.without_else
  if_has _ _ _ _ _ (typing.with_else {b = b} {v = v} {w = w} {s = s} {t = t} p) x =
      words.with_else (types_have b v s t w p (in_else x))

  -- the same of the first part of a `for`
  begin_has : (b : Around) (v : State) (i : ForInit) (j : TypedForInit) (w : State) → Begins b v i j w
      → plain.BeginningHasWords (out-ForInit i) → words.BeginningHasWords (out-TypedForInit j)
  begin_has _ _ _ _ _ typing.no_first x = first_made _ _ typed_init.rolls-Nothing words.nothing
  begin_has _ _ _ _ _ (typing.first_value {v = v} {e = e} {t = t} d) x =
      first_made _ _ (typed_init.rolls-First t)
      (words.first (typed_has v.names Free e t d.0
      (in_first (first_opened _ _ (first_part.rolls-First e) x))))
  begin_has _ _ _ _ _ (typing.first_locals {b = b} {v = v} {w = w} {ss = ss} {ts = ts} d) x =
      first_made _ _ (typed_init.rolls-Locals ts)
      (words.locals (all_have b v ss ts w d
      (in_locals (first_opened _ _ (first_part.rolls-Locals ss) x))))
