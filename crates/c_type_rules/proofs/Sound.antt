-- What the rules give a statement has no fault, and is what the folds give it.
use Rattle.std.proofs.Common.{◌≡◌, ℕ, ◌<◌, ◌*◌, List, [], ◌∷◌, ◌++◌, map, length}
use Rattle.std.proofs.Common.{Option, Some, None, refl, sym, ap, ◌∙◌}
use Rattle.std.specs.Prelude.{option_map}
use Rattle.c_tree.specs.declared.token.Kind.{Kind}
use Rattle.c_tree.specs.declared.tree.ArraySize.TheVariants as size
use Rattle.c_tree.specs.declared.tree.Expr.{Expr}
use Rattle.c_tree.specs.declared.tree.Section.{Section, out-roll-Section}
use Rattle.c_tree.specs.declared.tree.StmtNode.{StmtNode}
use Rattle.c_tree.specs.declared.tree.ForInit.TheOpen.{Section-F}
use Rattle.c_tree.specs.declared.tree.Label.{Label}
use Rattle.c_type.specs.Statements.{Part, SectionPart, part, beginning_of, all_after, all_fault, all_trees}
use Rattle.c_type.specs.Statements.{else_after, else_fault, else_tree, rest_fault, return_fault, return_tree}
use Rattle.c_type.specs.Statements.{label_word, sections_fault, sections_trees, sections_after}
use Rattle.c_type.specs.inside.Statements.{section_of}
use Rattle.c_tree.specs.declared.tree.Stmt.{Stmt}
use Rattle.c_tree.specs.declared.tree.ForInit.{ForInit}
use Rattle.c_tree.specs.declared.tree.StmtNode.TheVariants as node
use Rattle.c_tree.specs.declared.typed.Place.TheVariants as place
use Rattle.c_tree.specs.declared.typed.TypedExpr.{TypedExpr}
use Rattle.c_tree.specs.declared.typed.TypedSection.{TypedSection}
use Rattle.c_tree.specs.declared.typed.TypedStmt.{TypedStmt}
use Rattle.c_tree.specs.declared.typed.TypedStmt.TheVariants as typed
use Rattle.c_tree.specs.declared.typed.TypedForInit.{TypedForInit}
use Rattle.c_tree.specs.declared.typed.TypedForInit.TheVariants as typed_init
use Rattle.c_type_expr.specs.declared.fault.TypeFault.TheVariants.{Mismatch, TooManyScalars}
use Rattle.c_type_expr.specs.declared.role.Role.TheVariants.{Value, Free}
use Rattle.c_type_expr.specs.Trees.{tree}
use Rattle.c_type_expr.specs.Conversions.{kind_of, with_convert}
use Rattle.c_type_expr.specs.Constants.{full}
use Rattle.c_constant.specs.Constant.{word_in}
use Rattle.c_type.specs.declared.state.State.{State}
use Rattle.c_type.specs.declared.state.Around.{Around}
use Rattle.c_type.specs.States.{at, entered, left, with_scalar, with_array, sectioned, in_loop, in_switch}
use Rattle.c_type.specs.LeftOut.{tree_if}
use Rattle.c_type.specs.States.{with_switch}
use Rattle.c_constant.specs.Kinds.{promoted}
use Rattle.c_type.specs.Declarations.{extent}
use Rattle.c_type.proofs.Nodes.{fault-Declare, tree-Declare, after-Declare, fault-Plain, tree-Plain}
use Rattle.c_type.proofs.Nodes.{after-Plain, fault-Compound, tree-Compound, after-Compound, fault-If}
use Rattle.c_type.proofs.Nodes.{tree-If, after-If, fault-While, tree-While, after-While, fault-Do}
use Rattle.c_type.proofs.Nodes.{tree-Do, after-Do, fault-For, tree-For, after-For, fault-Break}
use Rattle.c_type.proofs.Nodes.{tree-Break, after-Break, fault-Continue, tree-Continue, after-Continue}
use Rattle.c_type.proofs.Nodes.{fault-Return, tree-Return, after-Return}
use Rattle.c_type.proofs.BeginningNodes.{fault-Nothing, tree-Nothing, after-Nothing, fault-First}
use Rattle.c_type.proofs.BeginningNodes.{tree-First, after-First, fault-Locals, tree-Locals}
use Rattle.c_type.proofs.BeginningNodes.{after-Locals}
use Rattle.c_type.proofs.SwitchNodes.{fault-Switch, tree-Switch, after-Switch}
use Rattle.c_type_rules.specs.Statements.{Types, TypesAll}
use Rattle.c_type_rules.specs.Statements.{TypesSections, TypesIf}
use Rattle.c_type_rules.specs.Statements.{rows_declared, switches, no_section, one_section}
use Rattle.c_type_rules.specs.Statements.{Begins}
use Rattle.c_type_rules.specs.Statements.{scalar_declared, array_declared, expression, block}
use Rattle.c_type_rules.specs.Statements.{either, while_loop, do_loop, for_loop, breaks, continues}
use Rattle.c_type_rules.specs.Statements.{returns, returns_value, no_more, one_more, without_else}
use Rattle.c_type_rules.specs.Statements.{with_else, no_first, first_value, first_locals}
use Rattle.c_type_rules.proofs.SoundParts.{both, fine, full_fine, full_if_fine, initialises_fine, free, size_fine}
use Rattle.c_type_rules.proofs.SoundParts.{less, sized_fine, one_extent, two_extent, labels_fine}

-- what a section of these labels and statements does
abbrev a_part : List Label → List Part → SectionPart
a_part ls ps = record { labels = ls; body = ps }

section_is : (ls : List Label) (ss : List Stmt) → section_of (sectioned ls ss) ≡ a_part ls (map part ss)
section_is ls ss =
    ap (λ (x : Section-F ForInit StmtNode Section Stmt). a_part x.labels (map part x.body))
    (out-roll-Section (record { labels = ls; body = ss }))

-- a typed section of these labels and statements
abbrev a_section : List (Option ℕ) → List TypedStmt → TypedSection
a_section words ts = record { labels = words; body = ts }

abbrev pub Fine : Around → State → Stmt → TypedStmt → State → Type 0
Fine b v s t w = ((part s).fault b v ≡ None) × (t ≡ (part s).tree v) × (w ≡ (part s).after v)

abbrev AllFine : Around → State → List Stmt → List TypedStmt → State → Type 0
AllFine b v ss ts w =
    (all_fault (map part ss) b v ≡ None) × (ts ≡ all_trees (map part ss) v) × (w ≡ all_after (map part ss) v)

abbrev IfFine : Around → State → Option Stmt → Option TypedStmt → State → Type 0
IfFine b v o u w =
    (else_fault (option_map part o) b v ≡ None) × (u ≡ else_tree (option_map part o) v)
    × (w ≡ else_after (option_map part o) v)

abbrev BeginFine : Around → State → ForInit → TypedForInit → State → Type 0
BeginFine b v i j w =
    ((beginning_of i).fault b v ≡ None) × (j ≡ (beginning_of i).tree v) × (w ≡ (beginning_of i).after v)

abbrev SectionsFine : Kind → List (Option ℕ) → Around → State → List Section → List TypedSection → State → Type 0
SectionsFine k seen b v xs ts w =
    (sections_fault k seen (map section_of xs) b v ≡ None) × (ts ≡ sections_trees k (map section_of xs) v)
    × (w ≡ sections_after (map section_of xs) v)

-- a switch whose sections are fine
switch_fine : (b : Around) (v : State) (l : ℕ) (c : Expr) (d : TypedExpr) (xs : List Section) (ts : List TypedSection)
    (w : State) → full c Value v.names ≡ None → d ≡ tree c v.names → length v.scalars < 64
    → SectionsFine (promoted (kind_of d)) [] (in_switch b) (with_switch (promoted (kind_of d)) v) xs ts w
    → Fine b v (at l (node.Switch c xs))
    (typed.Switch (length v.scalars) (with_convert (promoted (kind_of d)) d) ts) w
switch_fine b v l c d xs ts w f e m s =
    let X = map section_of xs in
    let n = length v.scalars in (
      fault-Switch l c xs b v
          ∙ both _ _ f (both _ _ (fine _ (TooManyScalars l) (less _ _ m))
          (ap (λ (d : TypedExpr). sections_fault (promoted (kind_of d)) [] X (in_switch b)
          (with_switch (promoted (kind_of d)) v)) (sym e)
          ∙ s.0)),
      ap (λ ts. typed.Switch n (with_convert (promoted (kind_of d)) d) ts) s.1
          ∙ ap (λ (d : TypedExpr). typed.Switch n (with_convert (promoted (kind_of d)) d)
          (sections_trees (promoted (kind_of d)) X (with_switch (promoted (kind_of d)) v))) e
          ∙ sym (tree-Switch l c xs v),
      s.2
          ∙ ap (λ (d : TypedExpr). sections_after X (with_switch (promoted (kind_of d)) v)) e
          ∙ sym (after-Switch l c xs v),
    )

mutual
  -- what the rules give a statement is what the folds give it, without a fault
  pub types_fine : (b : Around) (v : State) (s : Stmt) (t : TypedStmt) (w : State) → Types b v s t w → Fine b v s t w
  types_fine _ _ _ _ _ (scalar_declared {b = b} {v = v} {l = l} {k = k} {w = w} {init = init} {t = t} h m d) =
      let s = initialises_fine (with_scalar k w v).names k init t d in (
        fault-Declare l k w _ init b v
            ∙ both _ _ (both _ _ (free v.names w l h) (fine _ (TooManyScalars l) (less _ _ m))) s.0,
        ap (λ t. typed.Declare (place.Scalar (length v.scalars)) t) s.1 ∙ sym (tree-Declare l k w _ init v),
        sym (after-Declare l k w _ init v),
      )
  types_fine _ _ _ _ _ (array_declared {b = b} {v = v} {l = l} {n = n} {k = k} {w = w} {e = e} s h m) = (
    fault-Declare l k w (size.Sized e) None b v
        ∙ sized_fine v.names (size.Sized e) n k w l (size_fine v.names e n s) (one_extent e n s.1) h m,
    sym (tree-Declare l k w (size.Sized e) None v),
    ap (λ n. with_array k None w n v) (one_extent e n s.1) ∙ sym (after-Declare l k w (size.Sized e) None v),
  )
  types_fine _ _ _ _ _ (rows_declared {b = b} {v = v} {l = l} {m = m} {n = n} {k = k} {w = w} {r = r} {e = e} s s' h
      f) =
      let z = size.Rows (Some r) e in (
        fault-Declare l k w z None b v
            ∙ sized_fine v.names z (m * n) k w l (both _ _ (size_fine v.names r m s) (size_fine v.names e n s'))
            (two_extent r e m n s.1 s'.1) h f,
        sym (tree-Declare l k w z None v),
        ap (λ x. with_array k (Some n) w x v) (two_extent r e m n s.1 s'.1)
            ∙ ap (λ o. with_array k (Some (word_in o)) w (extent z) v) (sym s'.1)
            ∙ sym (after-Declare l k w z None v),
      )
  types_fine _ _ _ _ _ (expression {b = b} {v = v} {l = l} {e = e} {t = t} d) =
      let s = full_if_fine v.names Free e t d in
      (fault-Plain l e b v ∙ s.0, ap typed.Plain s.1 ∙ sym (tree-Plain l e v), sym (after-Plain l e v))
  types_fine _ _ _ _ _ (block {b = b} {v = v} {w = w} {l = l} {ss = ss} {ts = ts} d) =
      let s = all_fine b (entered v) ss ts w d in (
        fault-Compound l ss b v ∙ s.0,
        ap typed.Compound s.1 ∙ sym (tree-Compound l ss v),
        ap left s.2
            ∙ sym (after-Compound l ss v),
      )
  types_fine _ _ _ _ _ (either {b = b} {v = v} {v' = v'} {w = w} {l = l} {c = c} {d = d} {s = s} {t = t}
      {other = other} {u = u} f p q) =
      let e = full_fine v.names Value c d f in
      let x = types_fine b v s t v' p in
      let y = if_fine b v' other u w q in
      let o = option_map part other in (
        fault-If l c s other b v ∙ both _ _ e.0 (both _ _ x.0 (ap (λ v. else_fault o b v) (sym x.2) ∙ y.0)),
        ap (λ d. typed.If d t u) e.1
            ∙ ap (λ t. typed.If (tree c v.names) t u) x.1
            ∙ ap (λ u. typed.If (tree c v.names) ((part s).tree v) u) (y.1 ∙ ap (λ v. else_tree o v) x.2)
            ∙ sym (tree-If l c s other v),
        y.2 ∙ ap (λ v. else_after o v) x.2 ∙ sym (after-If l c s other v),
      )
  types_fine _ _ _ _ _ (while_loop {b = b} {v = v} {w = w} {l = l} {c = c} {d = d} {s = s} {t = t} f p) =
      let e = full_fine v.names Value c d f in
      let x = types_fine in_loop v s t w p in (
        fault-While l c s b v ∙ both _ _ e.0 x.0,
        ap (λ d. typed.While d t) e.1 ∙ ap (λ t. typed.While (tree c v.names) t) x.1 ∙ sym (tree-While l c s v),
        x.2 ∙ sym (after-While l c s v),
      )
  types_fine _ _ _ _ _ (do_loop {b = b} {v = v} {w = w} {l = l} {c = c} {d = d} {s = s} {t = t} p f) =
      let e = full_fine w.names Value c d f in
      let x = types_fine in_loop v s t w p in (
        fault-Do l s c b v ∙ both _ _ x.0 (ap (λ (w : State). full c Value w.names) (sym x.2) ∙ e.0),
        ap (λ d. typed.Do t d) (e.1 ∙ ap (λ (w : State). tree c w.names) x.2)
            ∙ ap (λ t. typed.Do t (tree c ((part s).after v).names)) x.1
            ∙ sym (tree-Do l s c v),
        x.2 ∙ sym (after-Do l s c v),
      )
  types_fine _ _ _ _ _ (for_loop {b = b} {v = v} {v' = v'} {w = w} {l = l} {init = init} {i = i} {c = c} {p = p}
      {d = d} {q = q} {s = s} {t = t} g f f' h) =
      let x = begin_fine b (entered v) init i v' g in
      let e = full_if_fine v'.names Value c d f in
      let e' = full_if_fine v'.names Free p q f' in
      let y = types_fine in_loop v' s t w h in
      let B = beginning_of init in (
        fault-For l init c p s b v
            ∙ both _ _ x.0 (ap (λ v. rest_fault c p (part s) v) (sym x.2) ∙ both _ _ e.0 (both _ _ e'.0 y.0)),
        ap (λ d. typed.For i d q t) e.1
            ∙ ap (λ q. typed.For i (tree_if c v'.names) q t) e'.1
            ∙ ap (λ t. typed.For i (tree_if c v'.names) (tree_if p v'.names) t) y.1
            ∙ ap (λ i. typed.For i (tree_if c v'.names) (tree_if p v'.names) ((part s).tree v')) x.1
            ∙ ap (λ (v' : State). typed.For (B.tree (entered v)) (tree_if c v'.names) (tree_if p v'.names)
            ((part s).tree v')) x.2
            ∙ sym (tree-For l init c p s v),
        ap left (y.2 ∙ ap (λ v. (part s).after v) x.2) ∙ sym (after-For l init c p s v),
      )
  types_fine _ _ _ _ _ (switches {b = b} {v = v} {w = w} {l = l} {c = c} {d = d} {xs = xs} {ts = ts} f m p) =
      let e = full_fine v.names Value c d f in
      let k = promoted (kind_of d) in
      switch_fine b v l c d xs ts w e.0 e.1 m (sections_fine k [] (in_switch b) (with_switch k v) xs ts w p)
  types_fine _ _ _ _ _ (breaks {b = b} {v = v} {l = l} h) =
      (fault-Break l b v ∙ fine b.may_break (Mismatch l) h, sym (tree-Break l v), sym (after-Break l v))
  types_fine _ _ _ _ _ (continues {b = b} {v = v} {l = l} h) =
      (fault-Continue l b v ∙ fine b.may_continue (Mismatch l) h, sym (tree-Continue l v), sym (after-Continue l v))
  types_fine _ _ _ _ _ (returns {b = b} {v = v} {l = l} h) = (
    fault-Return l None b v ∙ ap (λ r. return_fault r None l) h,
    sym (tree-Return l None v ∙ ap (λ r. typed.Return (return_tree r None v.names)) h),
    sym (after-Return l None v),
  )
  types_fine _ _ _ _ _ (returns_value {b = b} {v = v} {l = l} {k = k} {e = e} {t = t} h d) =
      let s = full_fine v.names Value e t d in (
        fault-Return l (Some e) b v ∙ both _ _ s.0 (ap (λ r. return_fault r (Some e) l) h),
        ap (λ (t : TypedExpr). typed.Return (Some (with_convert k t))) s.1
            ∙ sym (tree-Return l (Some e) v ∙ ap (λ r. typed.Return (return_tree r (Some e) v.names)) h),
        sym (after-Return l (Some e) v),
      )

  -- the same of several
  pub all_fine : (b : Around) (v : State) (ss : List Stmt) (ts : List TypedStmt) (w : State) → TypesAll b v ss ts w
      → AllFine b v ss ts w
  all_fine _ _ _ _ _ no_more = (refl, refl, refl)
  all_fine _ _ _ _ _ (one_more {b = b} {v = v} {v' = v'} {w = w} {s = s} {t = t} {ss = ss} {ts = ts} p q) =
      let x = types_fine b v s t v' p in
      let y = all_fine b v' ss ts w q in (
        both _ _ x.0 (ap (λ v. all_fault (map part ss) b v) (sym x.2) ∙ y.0),
        ap (λ t. t ∷ ts) x.1 ∙ ap (λ ts. (part s).tree v ∷ ts) (y.1 ∙ ap (λ v. all_trees (map part ss) v) x.2),
        y.2 ∙ ap (λ v. all_after (map part ss) v) x.2,
      )

  -- the same of the sections of a switch
  pub sections_fine : (k : Kind) (seen : List (Option ℕ)) (b : Around) (v : State) (xs : List Section)
      (ts : List TypedSection) (w : State) → TypesSections k seen b v xs ts w → SectionsFine k seen b v xs ts w
  sections_fine _ _ _ _ _ _ _ no_section = (refl, refl, refl)
  sections_fine _ _ _ _ _ _ _ (one_section {k = k} {seen = seen} {words = words} {b = b} {v = v} {v' = v'} {w = w}
      {ls = ls} {ss = ss} {ts = ts} {xs = xs} {us = us} f p q) =
      let a = labels_fine v.names k seen ls words f in
      let x = all_fine b v ss ts v' p in
      let y = sections_fine k (seen ++ words) b v' xs us w q in
      let X = map section_of xs in
      let ws = map (label_word k) ls in
      let e = section_is ls ss in (
        ap (λ (s : SectionPart). sections_fault k seen (s ∷ X) b v) e
            ∙ both _ _ (both _ _ a.0 x.0)
            (ap (λ ws. sections_fault k (seen ++ ws) X b (all_after (map part ss) v)) (sym a.1)
            ∙ ap (λ v. sections_fault k (seen ++ words) X b v) (sym x.2)
            ∙ y.0),
        ap (λ words. a_section words ts ∷ us) a.1
            ∙ ap (λ ts. a_section ws ts ∷ us) x.1
            ∙ ap (λ us. a_section ws (all_trees (map part ss) v) ∷ us)
            (y.1 ∙ ap (λ v. sections_trees k X v) x.2)
            ∙ sym (ap (λ (s : SectionPart). sections_trees k (s ∷ X) v) e),
        y.2 ∙ ap (λ v. sections_after X v) x.2 ∙ sym (ap (λ (s : SectionPart). sections_after (s ∷ X) v) e),
      )

  -- the same of a leg that may be left out
  pub if_fine : (b : Around) (v : State) (o : Option Stmt) (u : Option TypedStmt) (w : State) → TypesIf b v o u w
      → IfFine b v o u w
  if_fine _ _ _ _ _ without_else = (refl, refl, refl)
  if_fine _ _ _ _ _ (with_else {b = b} {v = v} {w = w} {s = s} {t = t} p) =
      let x = types_fine b v s t w p in (x.0, ap Some x.1, x.2)

  -- the same of the first part of a `for`
  pub begin_fine : (b : Around) (v : State) (i : ForInit) (j : TypedForInit) (w : State) → Begins b v i j w
      → BeginFine b v i j w
  begin_fine _ _ _ _ _ (no_first {b = b} {v = v}) = (fault-Nothing b v, sym (tree-Nothing v), sym (after-Nothing v))
  begin_fine _ _ _ _ _ (first_value {b = b} {v = v} {e = e} {t = t} d) =
      let s = full_fine v.names Free e t d in
      (fault-First e b v ∙ s.0, ap typed_init.First s.1 ∙ sym (tree-First e v), sym (after-First e v))
  begin_fine _ _ _ _ _ (first_locals {b = b} {v = v} {w = w} {ss = ss} {ts = ts} d) =
      let s = all_fine b v ss ts w d in
      (fault-Locals ss b v ∙ s.0, ap typed_init.Locals s.1 ∙ sym (tree-Locals ss v), s.2 ∙ sym (after-Locals ss v))
