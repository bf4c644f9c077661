-- A statement without a fault has what the folds give it by the rules.
use Rattle.std.proofs.Common.{◌≡◌, ℕ, ◌*◌, ◌≤◌, false, List, [], ◌∷◌, ◌++◌, map, length, Option}
use Rattle.std.proofs.Common.{Some, None, refl, sym, ap, ◌∙◌, subst}
use Rattle.std.proofs.lemmas.Bool.{false≢true}
use Rattle.c_tree.specs.declared.token.Kind.{Kind}
use Rattle.c_tree.specs.declared.tree.ArraySize.{ArraySize}
use Rattle.c_tree.specs.declared.tree.ArraySize.TheVariants as size
use Rattle.c_tree.specs.declared.tree.Expr.{Expr}
use Rattle.c_tree.specs.declared.tree.ForInit.{ForInit, out-ForInit, roll-ForInit, roll-out-ForInit, map-ForInit}
use Rattle.c_tree.specs.declared.tree.ForInit.TheOpen.{StmtNode-F, ForInit-F, Section-F}
use Rattle.c_tree.specs.declared.tree.ForInit.TheVariants as first_part
use Rattle.c_tree.specs.declared.tree.Section.{Section, roll-Section, roll-out-Section, out-roll-Section, map-Section}
use Rattle.c_tree.specs.declared.typed.TypedSection.{TypedSection}
use Rattle.c_type.specs.Statements.{labels_in, statements_in, part, beginning_of, all_after, all_fault, all_trees}
use Rattle.c_type.specs.Statements.{return_fault, return_tree, switch_kind, label_word, sections_fault}
use Rattle.c_type.specs.inside.Statements.{section_of}
use Rattle.c_type.specs.Statements.{sections_trees, sections_after}
use Rattle.c_tree.specs.declared.tree.Stmt.{Stmt, Stmt-F, roll-Stmt, ind-Stmt}
use Rattle.c_tree.specs.declared.tree.StmtNode.{StmtNode, roll-StmtNode, map-StmtNode}
use Rattle.c_tree.specs.declared.tree.StmtNode.TheVariants as node
use Rattle.c_tree.specs.declared.typed.Place.TheVariants as place
use Rattle.c_tree.specs.declared.typed.TypedStmt.{TypedStmt}
use Rattle.c_tree.specs.declared.typed.TypedStmt.TheVariants as typed
use Rattle.c_tree.specs.declared.typed.TypedForInit.{TypedForInit}
use Rattle.c_type_expr.specs.declared.fault.TypeFault.TheVariants.{Mismatch}
use Rattle.c_type_expr.specs.declared.role.Role.TheVariants.{Value, Free}
use Rattle.c_constant.specs.Constant.{length_of, word_in}
use Rattle.c_type.specs.declared.state.State.{State}
use Rattle.c_type.specs.declared.state.Around.{Around}
use Rattle.c_constant.specs.Kinds.{bytes}
use Rattle.c_type.specs.States.{at, entered, with_array, with_switch, sectioned, in_loop, in_switch}
use Rattle.c_type.specs.LeftOut.{full_if}
use Rattle.c_type.specs.Declarations.{declare_fault, declare_tree, declared}
use Rattle.c_type.proofs.Nodes.{fault-Declare, tree-Declare, after-Declare, fault-Plain, tree-Plain}
use Rattle.c_type.proofs.Nodes.{after-Plain, fault-Compound, tree-Compound, after-Compound, fault-If}
use Rattle.c_type.proofs.Nodes.{tree-If, after-If, fault-While, tree-While, after-While, fault-Do}
use Rattle.c_type.proofs.Nodes.{tree-Do, after-Do, fault-For, tree-For, after-For, fault-Break}
use Rattle.c_type.proofs.Nodes.{tree-Break, after-Break, fault-Continue, tree-Continue, after-Continue}
use Rattle.c_type.proofs.Nodes.{fault-Return, tree-Return, after-Return}
use Rattle.c_type.proofs.BeginningNodes.{tree-Nothing, after-Nothing, fault-First, tree-First}
use Rattle.c_type.proofs.BeginningNodes.{after-First, fault-Locals, tree-Locals, after-Locals}
use Rattle.c_type.proofs.SwitchNodes.{fault-Switch, tree-Switch, after-Switch}
use Rattle.c_type_rules.specs.Statements.{Types, TypesAll, TypesSections}
use Rattle.c_type_rules.specs.Statements.{Begins, rows_declared, switches}
use Rattle.c_type_rules.specs.Statements.{no_section, one_section}
use Rattle.c_type_rules.specs.Statements.{scalar_declared, array_declared, expression, block}
use Rattle.c_type_rules.specs.Statements.{either, while_loop, do_loop, for_loop, breaks, continues}
use Rattle.c_type_rules.specs.Statements.{returns, returns_value, no_more, one_more, without_else}
use Rattle.c_type_rules.specs.Statements.{with_else, no_first, first_value, first_locals}
use Rattle.c_type_rules.proofs.SoundParts.{one_row_of}
use Rattle.c_type_rules.proofs.CompleteParts.{split, held, not_held, less, at_most, full_typed, full_if_typed}
use Rattle.c_type_rules.proofs.CompleteParts.{initialises, sized_typed}
use Rattle.c_type_rules.proofs.CompleteParts.{labels_typed}

-- a tree and a state by the rules, under equations
moved : (b : Around) (v : State) (s : Stmt) (t t' : TypedStmt) (w w' : State) → t' ≡ t → w' ≡ w → Types b v s t w
    → Types b v s t' w'
moved b v s t t' w w' e f d = subst (λ t. Types b v s t w') (sym e) (subst (λ w. Types b v s t w) (sym f) d)

begun : (b : Around) (v : State) (i : ForInit) (t t' : TypedForInit) (w w' : State) → t' ≡ t → w' ≡ w
    → Begins b v i t w
    → Begins b v i t' w'
begun b v i t t' w w' e f d = subst (λ t. Begins b v i t w') (sym e) (subst (λ w. Begins b v i t w) (sym f) d)

declares : (b : Around) (l : ℕ) (k : Kind) (w : List ℕ) (s : ArraySize) (init : Option Expr) (v : State)
    → declare_fault s k w init l v ≡ None
    → Types b v (at l (node.Declare k w s init)) (declare_tree s k w init v) (declared s k w v)
declares b l k w size.Scalar init v h =
    let q = split _ _ h in
    let r = split _ _ q.0 in
    scalar_declared (not_held _ _ r.0) (less _ _ (held _ _ r.1)) (initialises _ k init q.1)
declares b l k w size.Open init v h = absurd (cc)
declares b l k w (size.Sized e) None v h =
    let q = split _ _ (split _ _ h).0 in
    let r = split _ _ q.1 in
    let n = word_in (length_of e) in
    let x = one_row_of n in
    subst (λ m. Types b v (at l (node.Declare k w (size.Sized e) None))
    (typed.Declare (place.Array (length v.arrays)) None) (with_array k None w m v)) (sym x)
    (array_declared (sized_typed v.names e (length_of e) refl q.0) (not_held _ _ r.0)
    (subst (λ m. m * bytes k ≤ 1048576) x (at_most _ _ (held _ _ r.1))))
declares b l k w (size.Rows None e) init v h =
    absurd (cc)
declares b l k w (size.Rows (Some s) e) None v h =
    let q = split _ _ (split _ _ h).0 in
    let p = split _ _ q.0 in
    let r = split _ _ q.1 in
    rows_declared (sized_typed v.names s (length_of s) refl p.0) (sized_typed v.names e (length_of e) refl p.1)
    (not_held _ _ r.0) (at_most _ _ (held _ _ r.1))
declares b l k w (size.Rows (Some s) e) (Some init) v h =
    absurd (false≢true (held false (Mismatch l) (split _ _ h).1))
declares b l k w (size.Sized e) (Some init) v h = absurd (false≢true (held false (Mismatch l) (split _ _ h).1))

leaves : (b : Around) (l : ℕ) (v : State) (r : Option Kind) (e : Option Expr) → v.result ≡ r
    → full_if e Value v.names ≡ None → return_fault r e l ≡ None
    → Types b v (at l (node.Return e)) (typed.Return (return_tree r e v.names)) v
leaves b l v None None m h g = returns m
leaves b l v None (Some e) m h g = absurd (cc)
leaves b l v (Some k) None m h g = absurd (cc)
leaves b l v (Some k) (Some e) m h g = returns_value m (full_typed v.names Value e h)

abbrev pub Whole : Stmt → Type 0
Whole s = (b : Around) (v : State) → (part s).fault b v ≡ None → Types b v s ((part s).tree v) ((part s).after v)

abbrev WholeNode : StmtNode → Type 0
WholeNode n = (l : ℕ) → Whole (at l n)

abbrev pub WholeFirst : ForInit → Type 0
WholeFirst i =
    (b : Around) (v : State) → (beginning_of i).fault b v ≡ None
    → Begins b v i ((beginning_of i).tree v) ((beginning_of i).after v)

-- the statements of a section without a fault have their trees by the rules
abbrev WholeSection : Section → Type 0
WholeSection x =
    (b : Around) (v : State) → all_fault (map part (statements_in x)) b v ≡ None
    → TypesAll b v (statements_in x) (all_trees (map part (statements_in x)) v)
    (all_after (map part (statements_in x)) v)

-- a section is that of its labels and statements
as_section : (k : Kind) (seen : List (Option ℕ)) (b : Around) (v : State) (x : Section) (xs : List Section)
    (us : List TypedSection) (w : State)
    → TypesSections k seen b v (sectioned (labels_in x) (statements_in x) ∷ xs) us w
    → TypesSections k seen b v (x ∷ xs) us w
as_section k seen b v x xs us w d =
    subst (λ (y : Section). TypesSections k seen b v (y ∷ xs) us w) (roll-out-Section x) d

module _ (I N X S : Type 0) (of_i : I → ForInit) (of_n : N → StmtNode) (of_x : X → Section) (of_s : S → Stmt)
    (whole_i : (i : I) → WholeFirst (of_i i)) (whole_x : (x : X) → WholeSection (of_x x))
    (whole_s : (s : S) → Whole (of_s s)) where
  all_whole : (b : Around) (v : State) (ss : List S) → all_fault (map part (map of_s ss)) b v ≡ None
      → TypesAll b v (map of_s ss) (all_trees (map part (map of_s ss)) v) (all_after (map part (map of_s ss)) v)
  all_whole b v [] h = no_more
  all_whole b v (s ∷ ss) h =
      let q = split _ _ h in one_more (whole_s s b v q.0) (all_whole b ((part (of_s s)).after v) ss q.1)

  sections_whole : (k : Kind) (seen : List (Option ℕ)) (b : Around) (v : State) (xs : List X)
      → sections_fault k seen (map section_of (map of_x xs)) b v ≡ None
      → TypesSections k seen b v (map of_x xs) (sections_trees k (map section_of (map of_x xs)) v)
      (sections_after (map section_of (map of_x xs)) v)
  sections_whole k seen b v [] h = no_section
  sections_whole k seen b v (x ∷ xs) h =
      let q = split _ _ h in
      let r = split _ _ q.0 in
      let s = of_x x in
      as_section k seen b v s (map of_x xs) _ _
      (one_section (labels_typed v.names k seen (labels_in s) r.0) (whole_x x b v r.1)
      (sections_whole k (seen ++ map (label_word k) (labels_in s)) b
      (all_after (map part (statements_in s)) v) xs q.1))

  at_node : (y : StmtNode-F I N X S)
      → WholeNode (roll-StmtNode (map-StmtNode I N X S ForInit StmtNode Section Stmt of_i of_n of_x of_s y))
  at_node (StmtNode-F.Declare k w s init) l =
      subst (λ n. Whole (at l n)) (sym (node.rolls-Declare k w s init))
      (λ b v h. moved _ _ _ _ _ _ _ (tree-Declare l k w s init v) (after-Declare l k w s init v)
      (declares b l k w s init v (sym (fault-Declare l k w s init b v) ∙ h)))
  at_node (StmtNode-F.Plain e) l =
      subst (λ n. Whole (at l n)) (sym (node.rolls-Plain e))
      (λ b v h. moved _ _ _ _ _ _ _ (tree-Plain l e v) (after-Plain l e v)
      (expression (full_if_typed v.names Free e (sym (fault-Plain l e b v) ∙ h))))
  at_node (StmtNode-F.Compound ss) l =
      subst (λ n. Whole (at l n)) (sym (node.rolls-Compound (map of_s ss)))
      (λ b v h. moved _ _ _ _ _ _ _ (tree-Compound l (map of_s ss) v) (after-Compound l (map of_s ss) v)
      (block (all_whole b (entered v) ss (sym (fault-Compound l (map of_s ss) b v) ∙ h))))
  at_node (StmtNode-F.If c s None) l =
      subst (λ n. Whole (at l n)) (sym (node.rolls-If c (of_s s) None))
      (λ b v h. let q = split _ _ (sym (fault-If l c (of_s s) None b v) ∙ h) in let r = split _ _ q.1 in
      moved _ _ _ _ _ _ _ (tree-If l c (of_s s) None v) (after-If l c (of_s s) None v)
      (either (full_typed v.names Value c q.0) (whole_s s b v r.0) without_else))
  at_node (StmtNode-F.If c s (Some o)) l =
      subst (λ n. Whole (at l n)) (sym (node.rolls-If c (of_s s) (Some (of_s o))))
      (λ b v h. let q = split _ _ (sym (fault-If l c (of_s s) (Some (of_s o)) b v) ∙ h) in let r = split _ _ q.1 in
      moved _ _ _ _ _ _ _ (tree-If l c (of_s s) (Some (of_s o)) v) (after-If l c (of_s s) (Some (of_s o)) v)
      (either (full_typed v.names Value c q.0) (whole_s s b v r.0) (with_else (whole_s o b _ r.1))))
  at_node (StmtNode-F.While c s) l =
      subst (λ n. Whole (at l n)) (sym (node.rolls-While c (of_s s)))
      (λ b v h. let q = split _ _ (sym (fault-While l c (of_s s) b v) ∙ h) in
      moved _ _ _ _ _ _ _ (tree-While l c (of_s s) v) (after-While l c (of_s s) v)
      (while_loop (full_typed v.names Value c q.0) (whole_s s in_loop v q.1)))
  at_node (StmtNode-F.Do s c) l =
      subst (λ n. Whole (at l n)) (sym (node.rolls-Do (of_s s) c))
      (λ b v h. let q = split _ _ (sym (fault-Do l (of_s s) c b v) ∙ h) in
      moved _ _ _ _ _ _ _ (tree-Do l (of_s s) c v) (after-Do l (of_s s) c v)
      (do_loop (whole_s s in_loop v q.0) (full_typed _ Value c q.1)))
  at_node (StmtNode-F.For init c p s) l =
      subst (λ n. Whole (at l n)) (sym (node.rolls-For (of_i init) c p (of_s s)))
      (λ b v h. let q = split _ _ (sym (fault-For l (of_i init) c p (of_s s) b v) ∙ h) in
      let r = split _ _ q.1 in let u = split _ _ r.1 in
      moved _ _ _ _ _ _ _ (tree-For l (of_i init) c p (of_s s) v) (after-For l (of_i init) c p (of_s s) v)
      (for_loop (whole_i init b (entered v) q.0) (full_if_typed _ Value c r.0) (full_if_typed _ Free p u.0)
      (whole_s s in_loop _ u.1)))
  at_node (StmtNode-F.Switch c xs) l =
      subst (λ n. Whole (at l n)) (sym (node.rolls-Switch c (map of_x xs)))
      (λ b v h. let q = split _ _ (sym (fault-Switch l c (map of_x xs) b v) ∙ h) in let r = split _ _ q.1 in
      let k = switch_kind c v.names in
      moved _ _ _ _ _ _ _ (tree-Switch l c (map of_x xs) v) (after-Switch l c (map of_x xs) v)
      (switches (full_typed v.names Value c q.0) (less _ _ (held _ _ r.0))
      (sections_whole k [] (in_switch b) (with_switch k v) xs r.1)))
  at_node StmtNode-F.Break l =
      subst (λ n. Whole (at l n)) (sym node.rolls-Break)
      (λ b v h. moved _ _ _ _ _ _ _ (tree-Break l v) (after-Break l v)
      (breaks (held _ _ (sym (fault-Break l b v) ∙ h))))
  at_node StmtNode-F.Continue l =
      subst (λ n. Whole (at l n)) (sym node.rolls-Continue)
      (λ b v h. moved _ _ _ _ _ _ _ (tree-Continue l v) (after-Continue l v)
      (continues (held _ _ (sym (fault-Continue l b v) ∙ h))))
  at_node (StmtNode-F.Return e) l =
      subst (λ n. Whole (at l n)) (sym (node.rolls-Return e))
      (λ b v h. let q = split _ _ (sym (fault-Return l e b v) ∙ h) in
      moved _ _ _ _ _ _ _ (tree-Return l e v) (after-Return l e v) (leaves b l v v.result e refl q.0 q.1))

  at_first : (y : ForInit-F I N X S)
      → WholeFirst (roll-ForInit (map-ForInit I N X S ForInit StmtNode Section Stmt of_i of_n of_x of_s y))
  at_first ForInit-F.Nothing =
      subst WholeFirst (sym first_part.rolls-Nothing)
      (λ b v h. begun _ _ _ _ _ _ _ (tree-Nothing v) (after-Nothing v) no_first)
  at_first (ForInit-F.First e) =
      subst WholeFirst (sym (first_part.rolls-First e))
      (λ b v h. begun _ _ _ _ _ _ _ (tree-First e v) (after-First e v)
      (first_value (full_typed v.names Free e (sym (fault-First e b v) ∙ h))))
  at_first (ForInit-F.Locals ss) =
      subst WholeFirst (sym (first_part.rolls-Locals (map of_s ss)))
      (λ b v h. begun _ _ _ _ _ _ _ (tree-Locals (map of_s ss) v) (after-Locals (map of_s ss) v)
      (first_locals (all_whole b v ss (sym (fault-Locals (map of_s ss) b v) ∙ h))))

  at_section : (y : Section-F I N X S)
      → WholeSection (roll-Section (map-Section I N X S ForInit StmtNode Section Stmt of_i of_n of_x of_s y))
  at_section y =
      subst (λ (x : Section-F ForInit StmtNode Section Stmt). (b : Around) (v : State)
      → all_fault (map part x.body) b v ≡ None
      → TypesAll b v x.body (all_trees (map part x.body) v) (all_after (map part x.body) v))
      (sym (out-roll-Section (map-Section I N X S ForInit StmtNode Section Stmt of_i of_n of_x of_s y)))
      (λ b v h. all_whole b v y.body h)

-- a statement without a fault has its tree by the rules
pub whole_stmt : (s : Stmt) → Whole s
whole_stmt =
    ind-Stmt WholeFirst WholeNode WholeSection Whole
    (λ x y e. subst (λ (x : ForInit-F ForInit StmtNode Section Stmt). WholeFirst (roll-ForInit x)) e
    (at_first _ _ _ _ (λ i. i.0) (λ n. n.0) (λ x. x.0) (λ s. s.0) (λ i. i.1) (λ x. x.1) (λ s. s.1) y))
    (λ x y e. subst (λ (x : StmtNode-F ForInit StmtNode Section Stmt). WholeNode (roll-StmtNode x)) e
    (at_node _ _ _ _ (λ i. i.0) (λ n. n.0) (λ x. x.0) (λ s. s.0) (λ i. i.1) (λ x. x.1) (λ s. s.1) y))
    (λ x y e. subst (λ (x : Section-F ForInit StmtNode Section Stmt). WholeSection (roll-Section x)) e
    (at_section _ _ _ _ (λ i. i.0) (λ n. n.0) (λ x. x.0) (λ s. s.0) (λ i. i.1) (λ x. x.1) (λ s. s.1) y))
    (λ x y e. subst (λ (x : Stmt-F ForInit StmtNode Section Stmt). Whole (roll-Stmt x)) e (y.node.1 y.offset))

-- the same of several
pub whole_all : (b : Around) (v : State) (ss : List Stmt) → all_fault (map part ss) b v ≡ None
    → TypesAll b v ss (all_trees (map part ss) v) (all_after (map part ss) v)
whole_all b v [] h = no_more
whole_all b v (s ∷ ss) h =
    let q = split _ _ h in one_more (whole_stmt s b v q.0) (whole_all b ((part s).after v) ss q.1)

-- the same of the sections of a switch
pub whole_sections : (k : Kind) (seen : List (Option ℕ)) (b : Around) (v : State) (xs : List Section)
    → sections_fault k seen (map section_of xs) b v ≡ None
    → TypesSections k seen b v xs (sections_trees k (map section_of xs) v) (sections_after (map section_of xs) v)
whole_sections k seen b v [] h = no_section
whole_sections k seen b v (x ∷ xs) h =
    let q = split _ _ h in
    let r = split _ _ q.0 in
    as_section k seen b v x xs _ _
    (one_section (labels_typed v.names k seen (labels_in x) r.0) (whole_all b v (statements_in x) r.1)
    (whole_sections k (seen ++ map (label_word k) (labels_in x)) b (all_after (map part (statements_in x)) v) xs q.1))

-- a `for`'s beginning is what its open form rolls up to
beginning_is : (i : ForInit) (x : ForInit-F ForInit StmtNode Section Stmt) → out-ForInit i ≡ x → roll-ForInit x ≡ i
beginning_is i x e = sym (ap roll-ForInit e) ∙ roll-out-ForInit i

beginning_whole : (i : ForInit) (x : ForInit-F ForInit StmtNode Section Stmt) → out-ForInit i ≡ x → WholeFirst i
beginning_whole i ForInit-F.Nothing e =
    subst WholeFirst (sym first_part.rolls-Nothing ∙ beginning_is i _ e)
    (λ b v h. begun _ _ _ _ _ _ _ (tree-Nothing v) (after-Nothing v) no_first)
beginning_whole i (ForInit-F.First x) e =
    subst WholeFirst (sym (first_part.rolls-First x) ∙ beginning_is i _ e)
    (λ b v h. begun _ _ _ _ _ _ _ (tree-First x v) (after-First x v)
    (first_value (full_typed v.names Free x (sym (fault-First x b v) ∙ h))))
beginning_whole i (ForInit-F.Locals ss) e =
    subst WholeFirst (sym (first_part.rolls-Locals ss) ∙ beginning_is i _ e)
    (λ b v h. begun _ _ _ _ _ _ _ (tree-Locals ss v) (after-Locals ss v)
    (first_locals (whole_all b v ss (sym (fault-Locals ss b v) ∙ h))))

-- what begins a `for` without a fault has its tree by the rules
pub whole_beginning : (i : ForInit) → WholeFirst i
whole_beginning i = beginning_whole i (out-ForInit i) refl
