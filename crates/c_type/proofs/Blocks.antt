-- A block stays open through all that is typed, and parameters are declared in the innermost one.
use Rattle.std.proofs.Common.{◌≡◌, ℕ, ◌+◌, Bool, true, false, List, [], ◌∷◌, ◌++◌, map, length, Option, Some, None}
use Rattle.std.proofs.Common.{refl, sym, ap, ◌∙◌, subst, suc, arith}
use Rattle.std.specs.Prelude.{cond, is_some}
use Rattle.std.proofs.lemmas.Bool.{false≢true}
use Rattle.c_tree.specs.declared.token.Kind.{Kind}
use Rattle.c_tree.specs.declared.tree.ArraySize.{ArraySize}
use Rattle.c_tree.specs.declared.tree.ArraySize.TheVariants as size
use Rattle.c_tree.specs.declared.tree.ForInit.{ForInit, roll-ForInit, map-ForInit}
use Rattle.c_tree.specs.declared.tree.ForInit.TheOpen.{ForInit-F, StmtNode-F, Section-F}
use Rattle.c_tree.specs.declared.tree.ForInit.TheVariants as first_part
use Rattle.c_tree.specs.declared.tree.Param.{Param}
use Rattle.c_tree.specs.declared.tree.Section.{Section, roll-Section, out-roll-Section, map-Section}
use Rattle.c_tree.specs.declared.tree.Stmt.{Stmt, Stmt-F, roll-Stmt, ind-Stmt}
use Rattle.c_tree.specs.declared.tree.StmtNode.{StmtNode, roll-StmtNode, out-StmtNode, map-StmtNode}
use Rattle.c_tree.specs.declared.tree.StmtNode.TheVariants as node
use Rattle.c_tree.specs.declared.tree.Top.{Top}
use Rattle.c_tree.specs.declared.tree.TopNode.{TopNode}
use Rattle.c_tree.specs.declared.tree.TopNode.TheVariants.{Include, Global, Func}
use Rattle.c_type_expr.specs.declared.meaning.Binding.{Binding}
use Rattle.c_type_expr.specs.Scope.{Scope, look_up, opened, closed, declared_in}
use Rattle.c_type.specs.declared.file_scope.FileScope.{FileScope}
use Rattle.c_type.specs.declared.state.State.{State}
use Rattle.c_type.specs.States.{at, entered, with_switch, is_end, named_param, with_params, slot_of}
use Rattle.c_type.specs.inside.LeftOut.{some_block}
use Rattle.c_type.specs.Declarations.{declared}
use Rattle.c_type.specs.Statements.{statements_in, part, beginning_of, all_after, sections_after, switch_kind}
use Rattle.c_type.specs.inside.Statements.{section_of}
use Rattle.c_type.specs.FileScopes.{eof_name, with_include, function_names}
use Rattle.c_type.specs.Functions.{body_in, body_part, entry, callee_in}
use Rattle.c_type.specs.inside.Functions.{param_names, next_number, params_names}
use Rattle.c_type.specs.Programs.{node_after, item_after}
use Rattle.c_type.proofs.Nodes.{after-Declare, after-Plain, after-Compound, after-If, after-While}
use Rattle.c_type.proofs.Nodes.{after-Do, after-For, after-Break, after-Continue, after-Return}
use Rattle.c_type.proofs.SwitchNodes.{after-Switch}
use Rattle.c_type.proofs.BeginningNodes.{after-Nothing, after-First, after-Locals}

-- PARAMETERS

named_names : (o : Option (List ℕ)) (s : ArraySize) (k : Kind) (v : State)
    → (named_param o s k v).names ≡ param_names o s k (length v.scalars) v.names
named_names None s k v = refl
named_names (Some w) size.Scalar k v = refl
named_names (Some w) size.Open k v = refl
named_names (Some w) (size.Sized e) k v = refl
named_names (Some w) (size.Rows r e) k v = refl

one_longer : {A : Type 0} (xs : List A) (x : A) → length (xs ++ x ∷ []) ≡ length xs + 1
one_longer [] x = refl
one_longer (y ∷ ys) x =
    let e : suc (length ys + 1) ≡ suc (length ys) + 1 = omega arith in ap suc (one_longer ys x) ∙ e

named_scalars : (o : Option (List ℕ)) (s : ArraySize) (k : Kind) (v : State)
    → length (named_param o s k v).scalars ≡ next_number o (length v.scalars)
named_scalars None s k v = refl
named_scalars (Some w) size.Scalar k v = one_longer v.scalars _
named_scalars (Some w) size.Open k v = one_longer v.scalars _
named_scalars (Some w) (size.Sized e) k v = one_longer v.scalars _
named_scalars (Some w) (size.Rows r e) k v = one_longer v.scalars _

-- the names after parameters, by the count of the scalars before them
pub params_are : (ps : List Param) (v : State) → (with_params ps v).names ≡ params_names ps (length v.scalars) v.names
params_are [] v = refl
params_are (p ∷ ps) v =
    params_are ps (named_param p.name p.size p.kind v)
    ∙ ap (λ n. params_names ps n (named_param p.name p.size p.kind v).names)
    (named_scalars p.name p.size p.kind v)
    ∙ ap (λ G. params_names ps (next_number p.name (length v.scalars)) G) (named_names p.name p.size p.kind v)

-- a block with names in it, and without
param_over : (o : Option (List ℕ)) (s : ArraySize) (k : Kind) (n : ℕ) (f : List Binding) (G : Scope)
    → (g : List Binding) × (param_names o s k n (f ∷ G) ≡ g ∷ G)
param_over None s k n f G = (f, refl)
param_over (Some w) s k n f G = (_, refl)

params_over : (ps : List Param) (n : ℕ) (f : List Binding) (G : Scope)
    → (g : List Binding) × (params_names ps n (f ∷ G) ≡ g ∷ G)
params_over [] n f G = (f, refl)
params_over (p ∷ ps) n f G =
    let h = param_over p.name p.size p.kind n f G in
    let q = params_over ps (next_number p.name n) h.0 G in
    (q.0, ap (λ G. params_names ps (next_number p.name n) G) h.1 ∙ q.1)

uncovered : (G : Scope) (f : List Binding) → some_block G ≡ true → closed (f ∷ G) ≡ G
uncovered [] f h = absurd (false≢true h)
uncovered (g ∷ G) f h = refl

-- the names are as they were when the block of parameters is left
pub params_left : (ps : List Param) (n : ℕ) (G : Scope) → some_block G ≡ true
    → closed (params_names ps n (opened G)) ≡ G
params_left ps n G h =
    let q = params_over ps n [] G in ap closed q.1 ∙ uncovered G q.0 h

pub ruleset on_params = (params_are, params_left)

-- STATEMENTS

declared_some : (b : Binding) (G : Scope) → some_block (declared_in b G) ≡ true
declared_some b [] = refl
declared_some b (f ∷ G) = refl

closed_some : (G : Scope) → some_block G ≡ true → some_block (closed G) ≡ true
closed_some [] h = absurd (false≢true h)
closed_some (f ∷ []) h = refl
closed_some (f ∷ g ∷ G) h = refl

-- a block is open in the state
abbrev Open : State → Type 0
Open v = some_block v.names ≡ true

declare_keeps : (s : ArraySize) (k : Kind) (w : List ℕ) (v : State) → Open (declared s k w v)
declare_keeps size.Scalar k w v = declared_some _ v.names
declare_keeps size.Open k w v = declared_some _ v.names
declare_keeps (size.Sized e) k w v = declared_some _ v.names
declare_keeps (size.Rows r e) k w v = declared_some _ v.names

abbrev Keeps : Stmt → Type 0
Keeps s = (v : State) → Open v → Open ((part s).after v)

abbrev KeepsNode : StmtNode → Type 0
KeepsNode n = (l : ℕ) → Keeps (at l n)

abbrev KeepsFirst : ForInit → Type 0
KeepsFirst i = (v : State) → Open v → Open ((beginning_of i).after v)

abbrev KeepsSection : Section → Type 0
KeepsSection x = (v : State) → Open v → Open (all_after (map part (statements_in x)) v)

-- a state that is another one
same : (v w : State) → w ≡ v → Open v → Open w
same v w e h = subst Open (sym e) h

module _ (I N X S : Type 0) (of_i : I → ForInit) (of_n : N → StmtNode) (of_x : X → Section) (of_s : S → Stmt)
    (keeps_i : (i : I) → KeepsFirst (of_i i)) (keeps_x : (x : X) → KeepsSection (of_x x))
    (keeps_s : (s : S) → Keeps (of_s s)) where
  all_keep : (ss : List S) (v : State) → Open v → Open (all_after (map part (map of_s ss)) v)
  all_keep [] v h = h
  all_keep (s ∷ ss) v h = all_keep ss ((part (of_s s)).after v) (keeps_s s v h)

  sections_keep : (xs : List X) (v : State) → Open v → Open (sections_after (map section_of (map of_x xs)) v)
  sections_keep [] v h = h
  sections_keep (x ∷ xs) v h =
      sections_keep xs (all_after (map part (statements_in (of_x x))) v) (keeps_x x v h)

  at_node : (y : StmtNode-F I N X S)
      → KeepsNode (roll-StmtNode (map-StmtNode I N X S ForInit StmtNode Section Stmt of_i of_n of_x of_s y))
  at_node (StmtNode-F.Declare k w s init) l =
      subst (λ n. Keeps (at l n)) (sym (node.rolls-Declare k w s init))
      (λ v h. same _ _ (after-Declare l k w s init v) (declare_keeps s k w v))
  at_node (StmtNode-F.Plain e) l =
      subst (λ n. Keeps (at l n)) (sym (node.rolls-Plain e)) (λ v h. same _ _ (after-Plain l e v) h)
  at_node (StmtNode-F.Compound ss) l =
      subst (λ n. Keeps (at l n)) (sym (node.rolls-Compound (map of_s ss)))
      (λ v h. same _ _ (after-Compound l (map of_s ss) v) (closed_some _ (all_keep ss (entered v) refl)))
  at_node (StmtNode-F.If c s None) l =
      subst (λ n. Keeps (at l n)) (sym (node.rolls-If c (of_s s) None))
      (λ v h. same _ _ (after-If l c (of_s s) None v) (keeps_s s v h))
  at_node (StmtNode-F.If c s (Some o)) l =
      subst (λ n. Keeps (at l n)) (sym (node.rolls-If c (of_s s) (Some (of_s o))))
      (λ v h. same _ _ (after-If l c (of_s s) (Some (of_s o)) v) (keeps_s o _ (keeps_s s v h)))
  at_node (StmtNode-F.While c s) l =
      subst (λ n. Keeps (at l n)) (sym (node.rolls-While c (of_s s)))
      (λ v h. same _ _ (after-While l c (of_s s) v) (keeps_s s v h))
  at_node (StmtNode-F.Do s c) l =
      subst (λ n. Keeps (at l n)) (sym (node.rolls-Do (of_s s) c))
      (λ v h. same _ _ (after-Do l (of_s s) c v) (keeps_s s v h))
  at_node (StmtNode-F.For init c p s) l =
      subst (λ n. Keeps (at l n)) (sym (node.rolls-For (of_i init) c p (of_s s)))
      (λ v h. same _ _ (after-For l (of_i init) c p (of_s s) v)
      (closed_some _ (keeps_s s _ (keeps_i init (entered v) refl))))
  at_node (StmtNode-F.Switch c xs) l =
      subst (λ n. Keeps (at l n)) (sym (node.rolls-Switch c (map of_x xs)))
      (λ v h. same _ _ (after-Switch l c (map of_x xs) v)
      (sections_keep xs (with_switch (switch_kind c v.names) v) h))
  at_node StmtNode-F.Break l =
      subst (λ n. Keeps (at l n)) (sym node.rolls-Break) (λ v h. same _ _ (after-Break l v) h)
  at_node StmtNode-F.Continue l =
      subst (λ n. Keeps (at l n)) (sym node.rolls-Continue) (λ v h. same _ _ (after-Continue l v) h)
  at_node (StmtNode-F.Return e) l =
      subst (λ n. Keeps (at l n)) (sym (node.rolls-Return e)) (λ v h. same _ _ (after-Return l e v) h)

  at_first : (y : ForInit-F I N X S)
      → KeepsFirst (roll-ForInit (map-ForInit I N X S ForInit StmtNode Section Stmt of_i of_n of_x of_s y))
  at_first ForInit-F.Nothing =
      subst KeepsFirst (sym first_part.rolls-Nothing) (λ v h. same _ _ (after-Nothing v) h)
  at_first (ForInit-F.First e) =
      subst KeepsFirst (sym (first_part.rolls-First e)) (λ v h. same _ _ (after-First e v) h)
  at_first (ForInit-F.Locals ss) =
      subst KeepsFirst (sym (first_part.rolls-Locals (map of_s ss)))
      (λ v h. same _ _ (after-Locals (map of_s ss) v) (all_keep ss v h))

  at_section : (y : Section-F I N X S)
      → KeepsSection (roll-Section (map-Section I N X S ForInit StmtNode Section Stmt of_i of_n of_x of_s y))
  at_section y =
      subst (λ (x : Section-F ForInit StmtNode Section Stmt). (v : State) → Open v
      → Open (all_after (map part x.body) v))
      (sym (out-roll-Section (map-Section I N X S ForInit StmtNode Section Stmt of_i of_n of_x of_s y)))
      (all_keep y.body)

keeps_stmt : (s : Stmt) → Keeps s
keeps_stmt =
    ind-Stmt KeepsFirst KeepsNode KeepsSection Keeps
    (λ x y e. subst (λ (x : ForInit-F ForInit StmtNode Section Stmt). KeepsFirst (roll-ForInit x)) e
    (at_first _ _ _ _ (λ i. i.0) (λ n. n.0) (λ x. x.0) (λ s. s.0) (λ i. i.1) (λ x. x.1) (λ s. s.1) y))
    (λ x y e. subst (λ (x : StmtNode-F ForInit StmtNode Section Stmt). KeepsNode (roll-StmtNode x)) e
    (at_node _ _ _ _ (λ i. i.0) (λ n. n.0) (λ x. x.0) (λ s. s.0) (λ i. i.1) (λ x. x.1) (λ s. s.1) y))
    (λ x y e. subst (λ (x : Section-F ForInit StmtNode Section Stmt). KeepsSection (roll-Section x)) e
    (at_section _ _ _ _ (λ i. i.0) (λ n. n.0) (λ x. x.0) (λ s. s.0) (λ i. i.1) (λ x. x.1) (λ s. s.1) y))
    (λ x y e. subst (λ (x : Stmt-F ForInit StmtNode Section Stmt). Keeps (roll-Stmt x)) e (y.node.1 y.offset))

keeps_all : (ss : List Stmt) (v : State) → Open v → Open (all_after (map part ss) v)
keeps_all [] v h = h
keeps_all (s ∷ ss) v h = keeps_all ss ((part s).after v) (keeps_stmt s v h)

-- ITEMS

keeps_in : (x : StmtNode-F ForInit StmtNode Section Stmt) (s : Stmt) (v : State) → Open v
    → Open ((body_in x s).after v)
keeps_in (StmtNode-F.Compound ss) s v h = keeps_all ss v h
keeps_in _ s v h = keeps_stmt s v h

keeps_body : (s : Stmt) (v : State) → Open v → Open ((body_part s).after v)
unfolding body_part
keeps_body s v h = keeps_in (out-StmtNode s.node) s v h

keeps_param : (o : Option (List ℕ)) (s : ArraySize) (k : Kind) (v : State) → Open v → Open (named_param o s k v)
keeps_param None s k v h = h
keeps_param (Some w) size.Scalar k v h = declared_some _ v.names
keeps_param (Some w) size.Open k v h = declared_some _ v.names
keeps_param (Some w) (size.Sized e) k v h = declared_some _ v.names
keeps_param (Some w) (size.Rows r e) k v h = declared_some _ v.names

keeps_params : (ps : List Param) (v : State) → Open v → Open (with_params ps v)
keeps_params [] v h = h
keeps_params (p ∷ ps) v h =
    keeps_params ps (named_param p.name p.size p.kind v) (keeps_param p.name p.size p.kind v h)

keeps_choice : (b : Bool) (G H : Scope) → some_block G ≡ true → some_block H ≡ true → some_block (cond b G H) ≡ true
keeps_choice true G H g h = g
keeps_choice false G H g h = h

keeps_item : (T : Scope) (n : TopNode) (U : FileScope) → some_block U.names ≡ true
    → some_block (node_after T n U).names ≡ true
keeps_item T Include U h =
    keeps_choice (is_end (look_up U.names eof_name)) U.names (with_include U.names) h (declared_some _ _)
keeps_item T (Global k w s init) U h = declared_some _ U.names
keeps_item T (Func given w params None) U h =
    keeps_choice (is_some (look_up U.names w)) U.names
    (function_names (callee_in (look_up T w)) w given (map slot_of params) false U.names) h (declared_some _ U.names)
keeps_item T (Func given w params (Some body)) U h =
    closed_some _ (keeps_body body (entry T w given params U.names) (keeps_params params _ refl))

-- an item leaves a block open
pub item_keeps : (T : Scope) (t : Top) (U : FileScope) → some_block U.names ≡ true
    → some_block (item_after T t U).names ≡ true
item_keeps T t U h = keeps_item T t.node U h

pub ruleset on_items = (item_keeps)
