-- What each statement does to what typing keeps, and that its typed tree is well formed.
use Rattle.std.proofs.Common.{◌≡◌, ℕ, ◌≤◌, List, [], ◌∷◌}
use Rattle.std.proofs.Common.{Option, Some, None, sym, ap, ◌∙◌, subst}
use Rattle.std.specs.Prelude.{IfSome}
use Rattle.std.proofs.lemmas.Bool.{leb-true}
use Rattle.c_tree.specs.declared.token.Kind.{Kind}
use Rattle.c_tree.specs.declared.tree.Expr.{Expr}
use Rattle.c_tree.specs.declared.typed.TypedExpr.{TypedExpr}
use Rattle.c_tree.specs.declared.typed.TypedFunc.{TypedFunc}
use Rattle.c_tree.specs.declared.typed.TypedProgram.{TypedProgram}
use Rattle.c_tree.specs.declared.typed.TypedStmt.{TypedStmt, roll-TypedStmt, out-TypedStmt, out-roll-TypedStmt}
use Rattle.c_tree.specs.declared.typed.TypedStmt.TheVariants as typed
use Rattle.c_tree.specs.declared.typed.TypedForInit.{TypedForInit, roll-TypedForInit, out-TypedForInit}
use Rattle.c_tree.specs.declared.typed.TypedForInit.{out-roll-TypedForInit}
use Rattle.c_tree.specs.declared.typed.TypedForInit.TheVariants as typed_init
use Rattle.c_type_expr.specs.Scope.{Scope}
use Rattle.c_constant.specs.Need.{Needs, need, needs}
use Rattle.c_type_expr.specs.declared.role.Role.TheVariants.{Value, Free}
use Rattle.c_type_expr.specs.Blames.{Blame}
use Rattle.c_type_expr.specs.Trees.{tree}
use Rattle.c_type_expr.specs.Conversions.{with_convert}
use Rattle.c_type_expr.specs.Constants.{full, need_fault}
use Rattle.c_type_expr.proofs.Theorem.{complete}
use Rattle.c_type.specs.declared.state.State.{State}
use Rattle.c_type.specs.declared.state.Around.{Around}
use Rattle.c_type.specs.LeftOut.{full_if, tree_if}
use Rattle.c_type.specs.Statements.{SectionPart}
use Rattle.c_type.specs.Statements.{Part, Beginning, node_part, init_part, all_after, all_fault, all_trees, else_after}
use Rattle.c_type.specs.Statements.{else_fault, else_tree, return_fault, return_tree}
use Rattle.c_tree.specs.declared.tree.ForInit.TheOpen.{StmtNode-F, ForInit-F}
use Rattle.c_type_rules.specs.inside.Needs.{FitsNeed, typed_needs}
use Rattle.c_tree.specs.TypedTrees as level
use Rattle.c_type_rules.specs.inside.KeptStatements.{IsValue, IsTest, IsEffect, IsValueIf, IsTestIf, IsEffectIf}
use Rattle.c_type_rules.specs.inside.KeptStatements.{IsReturn}
use Rattle.c_type_rules.specs.inside.KeptStatements.{WellFormedStmt, RunsAll, RunsElse, Begins}
use Rattle.c_type_rules.specs.inside.KeptStatements as rule
use Rattle.c_type_rules.specs.inside.WellFormed.{Each}
use Rattle.c_type_rules.proofs.Values.{Plain, fits, plain_has, converted_has}
use Rattle.c_type_rules.proofs.TypedNeeds.{same_needs, converted_need}
use Rattle.c_type_rules.proofs.Moves.{split, held, Known, knows, Fine, Moves, still, made, looped}
use Rattle.c_type_rules.proofs.Moves.{scoped, then}

-- a statement that is built is open again
opened : (s : TypedStmt) (x : level.Level) → roll-TypedStmt x ≡ s → out-TypedStmt s ≡ x
opened s x e = ap out-TypedStmt (sym e) ∙ out-roll-TypedStmt x

module _ (P : TypedProgram) (f : TypedFunc) where
  -- FULL EXPRESSIONS

  -- a tree needs no more than its expression
  needs_fit : (e : Expr) (t : TypedExpr) → typed_needs t ≡ needs e → need_fault e ≡ None → FitsNeed t
  needs_fit e t h n = subst (λ (n : Needs). n.need ≤ 16) (sym h) (leb-true (need e) 16 (held _ _ n))

  -- a full expression whose value is wanted
  pub full_value : (e : Expr) (G : Scope) → Known P f G → full e Value G ≡ None → (p : Plain P f (tree e G))
      × FitsNeed (tree e G)
  full_value e G k h =
      let s = split _ _ h in let d = complete e G Value s.0 in
      (fits P f G (knows P f G k) Value e _ d, needs_fit e _ (same_needs G Value e _ d) s.1)

  -- the same, converted to a type
  pub full_converted : (k : Kind) (e : Expr) (G : Scope) → Known P f G → full e Value G ≡ None
      → IsValue P f k (with_convert k (tree e G))
  full_converted k e G g h =
      let v = full_value e G g h in
      (converted_has P f k (tree e G) v.0, subst (λ n. n ≤ 16) (sym (converted_need k (tree e G))) v.1)

  -- a full expression that tells whether to go on
  full_test : (e : Expr) (G : Scope) → Known P f G → full e Value G ≡ None → IsTest P f (tree e G)
  full_test e G k h =
      let v = full_value e G k h in record { kind = v.0.kind; value = (plain_has P f (tree e G) v.0, v.1) }

  -- a full expression whose value is not wanted
  full_effect : (e : Expr) (G : Scope) → Known P f G → full e Free G ≡ None → IsEffect P f (tree e G)
  full_effect e G k h =
      let s = split _ _ h in let d = complete e G Free s.0 in
      (fits P f G (knows P f G k) Free e _ d, needs_fit e _ (same_needs G Free e _ d) s.1)

  -- a part that keeps everything
  pub asks : {T : Type 0} (Q : Around → T → Type 0) (fault : Around → State → Blame) (t : State → T)
      → ((b : Around) (v : State) → Fine P f v → fault b v ≡ None → Q b (t v)) → Moves P f Q (λ v. v) fault t
  asks Q fault t h = record { ahead = still P f; runs = λ b v i w e. (i, h b v i e) }

  -- a test, as a part
  test_part : (e : Expr) → Moves P f (λ b. IsTest P f) (λ v. v) (λ b v. full e Value v.names) (λ v. tree e v.names)
  test_part e = asks _ _ _ (λ b v i h. full_test e v.names i.names h)

  -- a test that may be left out
  test_if : (e : Option Expr)
      → Moves P f (λ b. IsTestIf P f) (λ v. v) (λ b v. full_if e Value v.names) (λ v. tree_if e v.names)
  test_if None = asks _ _ _ (λ b v i h. tt)
  test_if (Some e) = asks _ _ _ (λ b v i h. full_test e v.names i.names h)

  -- an expression without a value, as a part
  effect_part : (e : Expr) → Moves P f (λ b. IsEffect P f) (λ v. v) (λ b v. full e Free v.names) (λ v. tree e v.names)
  effect_part e = asks _ _ _ (λ b v i h. full_effect e v.names i.names h)

  -- one that may be left out
  effect_if : (e : Option Expr)
      → Moves P f (λ b. IsEffectIf P f) (λ v. v) (λ b v. full_if e Free v.names) (λ v. tree_if e v.names)
  effect_if None = asks _ _ _ (λ b v i h. tt)
  effect_if (Some e) = asks _ _ _ (λ b v i h. full_effect e v.names i.names h)

  -- STATEMENTS

  -- the tree of a statement is well formed
  abbrev pub Run : Around → TypedStmt → Type 0
  Run b s = WellFormedStmt P f b (out-TypedStmt s)

  -- the tree of the first part of a `for` is
  abbrev pub Begin : Around → TypedForInit → Type 0
  Begin b s = Begins P f b (out-TypedForInit s)

  -- a statement keeps what holds, and its tree is well formed
  abbrev pub Sound : Part → Type 0
  Sound p = Moves P f Run p.after p.fault p.tree

  -- the same of the first part of a `for`
  abbrev pub SoundFirst : Beginning → Type 0
  SoundFirst p = Moves P f Begin p.after p.fault p.tree

  -- the same of several statements
  abbrev pub SoundAll : List Part → Type 0
  SoundAll ps = Moves P f (RunsAll P f) (all_after ps) (all_fault ps) (all_trees ps)

  -- the same of an `else`, if there is one
  abbrev pub SoundElse : Option Part → Type 0
  SoundElse p = Moves P f (RunsElse P f) (else_after p) (else_fault p) (else_tree p)

  -- a node that is well formed makes a statement that is
  pub run : (b : Around) (s : TypedStmt) (x : level.Level) → roll-TypedStmt x ≡ s → WellFormedStmt P f b x → Run b s
  run b s x e r = subst (WellFormedStmt P f b) (sym (opened s x e)) r

  -- the same of the first part of a `for`
  begin : (b : Around) (s : TypedForInit) (x : level.Beginning) → roll-TypedForInit x ≡ s → Begins P f b x → Begin b s
  begin b s x e r = subst (Begins P f b) (sym (ap out-TypedForInit (sym e) ∙ out-roll-TypedForInit x)) r

  -- a node of a statement, at an offset
  abbrev Node : Type 0
  Node = StmtNode-F Beginning (ℕ → Part) SectionPart Part

  -- an expression statement
  pub on_plain : (e : Option Expr) (l : ℕ) → Sound (node_part (StmtNode-F.Plain e) l)
  on_plain e l = made P f typed.Plain (λ b t r. run b _ _ (typed.rolls-Plain t) (rule.plain r)) (effect_if e)

  -- statements in order
  pub on_all : (ps : List Part) → Each Sound ps → SoundAll ps
  on_all [] h = asks _ _ _ (λ b v i e. rule.end)
  on_all (p ∷ ps) h = made P f (λ t. t.0 ∷ t.1) (λ b t r. rule.next r.0 r.1) (then P f h.0 (on_all ps h.1))

  -- an `else`
  pub on_else : (p : Option Part) → IfSome p Sound → SoundElse p
  on_else None h = asks _ _ _ (λ b v i e. rule.without)
  on_else (Some p) h = made P f Some (λ b t r. rule.with_else r) h

  -- a compound
  pub on_compound : (ps : List Part) (l : ℕ) → SoundAll ps → Sound (node_part (StmtNode-F.Compound ps) l)
  on_compound ps l h =
      made P f typed.Compound (λ b t r. run b _ _ (typed.rolls-Compound t) (rule.compound r)) (scoped P f h)

  -- an `if`
  pub on_if : (test : Expr) (one : Part) (other : Option Part) (l : ℕ) → Sound one → SoundElse other
      → Sound (node_part (StmtNode-F.If test one other) l)
  on_if test one other l h g =
      made P f (λ t. typed.If t.0 t.1.0 t.1.1)
      (λ b t r. run b _ _ (typed.rolls-If t.0 t.1.0 t.1.1) (rule.choice r.0 r.1.0 r.1.1))
      (then P f (test_part test) (then P f h g))

  -- a `while`
  pub on_while : (test : Expr) (body : Part) (l : ℕ) → Sound body → Sound (node_part (StmtNode-F.While test body) l)
  on_while test body l h =
      made P f (λ t. typed.While t.0 t.1) (λ b t r. run b _ _ (typed.rolls-While t.0 t.1) (rule.while_loop r.0 r.1))
      (then P f (test_part test) (looped P f h))

  -- a `do`
  pub on_do : (body : Part) (test : Expr) (l : ℕ) → Sound body → Sound (node_part (StmtNode-F.Do body test) l)
  on_do body test l h =
      made P f (λ t. typed.Do t.0 t.1) (λ b t r. run b _ _ (typed.rolls-Do t.0 t.1) (rule.do_loop r.0 r.1))
      (then P f (looped P f h) (test_part test))

  -- a `for`
  pub on_for : (init : Beginning) (test post : Option Expr) (body : Part) (l : ℕ) → SoundFirst init → Sound body
      → Sound (node_part (StmtNode-F.For init test post body) l)
  on_for init test post body l h g =
      made P f (λ t. typed.For t.0 t.1.0 t.1.1.0 t.1.1.1)
      (λ b t r. run b _ _ (typed.rolls-For t.0 t.1.0 t.1.1.0 t.1.1.1) (rule.for_loop r.0 r.1.0 r.1.1.0 r.1.1.1))
      (scoped P f (then P f h (then P f (test_if test) (then P f (effect_if post) (looped P f g)))))

  -- a `break`
  pub on_break : (l : ℕ) → Sound (node_part StmtNode-F.Break l)
  on_break l = asks _ _ _ (λ b v i h. run b _ _ typed.rolls-Break (rule.breaks (held _ _ h)))

  -- a `continue`
  pub on_continue : (l : ℕ) → Sound (node_part StmtNode-F.Continue l)
  on_continue l = asks _ _ _ (λ b v i h. run b _ _ typed.rolls-Continue (rule.continues (held _ _ h)))

  -- a value is returned exactly where the function gives one
  return_fits : (r : Option Kind) (e : Option Expr) (G : Scope) (l : ℕ) → Known P f G → full_if e Value G ≡ None
      → return_fault r e l ≡ None → IsReturn P f r (return_tree r e G)
  return_fits None None G l k h e = tt
  return_fits None (Some x) G l k h e = absurd (cc)
  return_fits (Some j) None G l k h e = absurd (cc)
  return_fits (Some j) (Some x) G l k h e = full_converted j x G k h

  -- a `return`
  pub on_return : (e : Option Expr) (l : ℕ) → Sound (node_part (StmtNode-F.Return e) l)
  on_return e l =
      asks _ _ _ (λ b v i h. let s = split _ _ h in
      run b _ _ (typed.rolls-Return (return_tree v.result e v.names))
      (rule.returns (subst (λ r. IsReturn P f r (return_tree v.result e v.names)) i.result
      (return_fits v.result e v.names l i.names s.0 s.1))))

  -- FIRST PARTS

  -- no first part
  pub on_nothing : SoundFirst (init_part ForInit-F.Nothing)
  on_nothing = asks _ _ _ (λ b v i h. begin b _ _ typed_init.rolls-Nothing rule.nothing)

  -- an expression
  pub on_first : (e : Expr) → SoundFirst (init_part (ForInit-F.First e))
  on_first e = made P f typed_init.First (λ b t r. begin b _ _ (typed_init.rolls-First t) (rule.first r))
      (effect_part e)

  -- declarations
  pub on_locals : (ps : List Part) → SoundAll ps → SoundFirst (init_part (ForInit-F.Locals ps))
  on_locals ps h = made P f typed_init.Locals (λ b t r. begin b _ _ (typed_init.rolls-Locals t) (rule.locals r)) h
