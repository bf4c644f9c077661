-- What the folds find first is what is found first in the order of the text.
use Rattle.std.proofs.Common.{◌≡◌, ℕ, Bool, true, List, [], ◌∷◌, ◌++◌, map, length, Option}
use Rattle.std.proofs.Common.{Some, None, refl, ap, ◌∙◌}
use Rattle.std.specs.Prelude.{nat_lt, not}
use Rattle.c_tree.specs.declared.token.Kind.{Kind}
use Rattle.c_tree.specs.declared.tree.ArraySize.{ArraySize}
use Rattle.c_tree.specs.declared.tree.ArraySize.TheVariants as size
use Rattle.c_tree.specs.declared.tree.Expr.{Expr}
use Rattle.c_tree.specs.declared.tree.ExprNode.{out-ExprNode}
use Rattle.c_tree.specs.declared.tree.ForInit.{ForInit, out-ForInit}
use Rattle.c_tree.specs.declared.tree.ForInit.TheOpen.{ForInit-F, StmtNode-F}
use Rattle.c_tree.specs.declared.tree.ForInit.TheVariants as first_part
use Rattle.c_tree.specs.declared.tree.Label.{Label}
use Rattle.c_tree.specs.declared.tree.Param.{Param}
use Rattle.c_tree.specs.declared.tree.Section.{Section}
use Rattle.c_tree.specs.declared.tree.Stmt.{Stmt}
use Rattle.c_tree.specs.declared.tree.StmtNode.{StmtNode, out-StmtNode}
use Rattle.c_tree.specs.declared.tree.StmtNode.TheVariants as statement
use Rattle.c_tree.specs.declared.tree.Top.{Top}
use Rattle.c_tree.specs.declared.tree.TopNode.{TopNode}
use Rattle.c_tree.specs.declared.tree.TopNode.TheVariants.{Include, Global, Func}
use Rattle.c_type_expr.specs.Scope.{Scope, look_up}
use Rattle.c_type_expr.specs.declared.fault.TypeFault.TheVariants.{Twice, Mismatch}
use Rattle.c_type_expr.specs.Blames.{Blame, first, unless}
use Rattle.c_type_expr.specs.Constants.{full_constant, size_fault}
use Rattle.c_type.specs.declared.file_scope.FileScope.{FileScope}
use Rattle.c_type.specs.declared.state.State.{State}
use Rattle.c_type.specs.declared.state.Around.{Around}
use Rattle.c_type.specs.Declarations.{declare_fault, extent, sizes_fault, array_fault, no_init}
use Rattle.c_type.specs.Statements.{Part, part, beginning_of, word_if, label_among, labels_fault, label_word}
use Rattle.c_type.specs.Statements.{all_fault, all_after, labels_in, statements_in, sections_fault}
use Rattle.c_type.specs.inside.Statements.{section_of}
use Rattle.c_type.specs.States.{nowhere, slot_of}
use Rattle.c_type.specs.Units.{count_of, place_fault}
use Rattle.c_type.specs.inside.Units.{values_fault, global_fault, count_fault}
use Rattle.c_type.specs.Units.{function_fault, init_fits}
use Rattle.c_type.specs.FileScopes.{global_names, all_values}
use Rattle.c_type.specs.Functions.{body_part, entry}
use Rattle.c_type.specs.inside.Functions.{param_fault, params_fault}
use Rattle.c_type.specs.Programs.{table}
use Rattle.c_type.specs.inside.Programs.{node_fault}
use Rattle.c_type.proofs.Nodes.{fault-Declare, fault-Plain, fault-Compound, fault-If, fault-While}
use Rattle.c_type.proofs.Nodes.{fault-Do, fault-For, fault-Break, fault-Continue, fault-Return}
use Rattle.c_type.proofs.SwitchNodes.{fault-Switch}
use Rattle.c_type.proofs.BeginningNodes.{fault-Nothing, fault-First, fault-Locals}
use Rattle.c_type_rules.specs.Units.{is_block}
use Rattle.c_type_rules.specs.Judgements.{Judgement, a_test, an_expression, a_full, an_optional}
use Rattle.c_type_rules.specs.Judgements.{a_constant, a_full_constant, a_size, a_statement}
use Rattle.c_type_rules.specs.Judgements.{some_statements, an_else, a_beginning, a_body, a_param}
use Rattle.c_type_rules.specs.Judgements.{some_labels, some_sections}
use Rattle.c_type_rules.specs.Judgements.{some_params, some_values, an_item, some_items, a_unit}
use Rattle.c_type_rules.specs.Order.{parts, declare_parts, statement_parts, beginning_parts}
use Rattle.c_type_rules.specs.Order.{body_parts, global_parts, item_parts}
use Rattle.c_type.proofs.Rows.{assoc}
use Rattle.c_type_rules.proofs.UnitsSound.{block_body, plain_body}
use Rattle.c_type_rules.proofs.FollowsParts.{fault_of, first_of, statement_is, beginning_is, expression_follows}
use Rattle.c_type_rules.proofs.FollowsParts.{constant_follows}

-- STATEMENTS

declare_follows : (s : ArraySize) (k : Kind) (w : List ℕ) (init : Option Expr) (l : ℕ) (v : State)
    → declare_fault s k w init l v ≡ first_of (declare_parts s k w init l v)
declare_follows size.Scalar k w init l v = refl
declare_follows size.Open k w init l v = refl
declare_follows (size.Sized e) k w init l v =
    assoc (size_fault e v.names) (array_fault (extent (size.Sized e)) k w l v.names) (no_init init l)
declare_follows (size.Rows None e) k w init l v = refl
declare_follows (size.Rows (Some r) e) k w init l v =
    let z = size.Rows (Some r) e in
    let A = array_fault (extent z) k w l v.names in
    assoc (sizes_fault z l v.names) A (no_init init l)
    ∙ assoc (size_fault r v.names) (size_fault e v.names) (first A (no_init init l))

module _ (b : Around) (v : State) (s : Stmt) where
  by_statement : (n : StmtNode) → s.node ≡ n
      → (part s).fault b v ≡ (part (record { offset = s.offset; node = n })).fault b v
  by_statement n h = ap (λ (n : StmtNode). (part (record { offset = s.offset; node = n })).fault b v) h

  statement_follows : (x : StmtNode-F ForInit StmtNode Section Stmt) → out-StmtNode s.node ≡ x
      → (part s).fault b v ≡ first_of (statement_parts b v s.offset x)
  statement_follows (StmtNode-F.Declare k w n init) h =
      by_statement _ (statement_is _ _ h ∙ statement.rolls-Declare k w n init) ∙ fault-Declare s.offset k w n init b v
      ∙ declare_follows n k w init s.offset v
  statement_follows (StmtNode-F.Plain e) h =
      by_statement _ (statement_is _ _ h ∙ statement.rolls-Plain e) ∙ fault-Plain s.offset e b v
  statement_follows (StmtNode-F.Compound ss) h =
      by_statement _ (statement_is _ _ h ∙ statement.rolls-Compound ss) ∙ fault-Compound s.offset ss b v
  statement_follows (StmtNode-F.If c x other) h =
      by_statement _ (statement_is _ _ h ∙ statement.rolls-If c x other) ∙ fault-If s.offset c x other b v
  statement_follows (StmtNode-F.While c x) h =
      by_statement _ (statement_is _ _ h ∙ statement.rolls-While c x) ∙ fault-While s.offset c x b v
  statement_follows (StmtNode-F.Do x c) h =
      by_statement _ (statement_is _ _ h ∙ statement.rolls-Do x c) ∙ fault-Do s.offset x c b v
  statement_follows (StmtNode-F.For init c p x) h =
      by_statement _ (statement_is _ _ h ∙ statement.rolls-For init c p x) ∙ fault-For s.offset init c p x b v
  statement_follows (StmtNode-F.Switch c xs) h =
      by_statement _ (statement_is _ _ h ∙ statement.rolls-Switch c xs) ∙ fault-Switch s.offset c xs b v
  statement_follows StmtNode-F.Break h =
      by_statement _ (statement_is _ _ h ∙ statement.rolls-Break) ∙ fault-Break s.offset b v
  statement_follows StmtNode-F.Continue h =
      by_statement _ (statement_is _ _ h ∙ statement.rolls-Continue) ∙ fault-Continue s.offset b v
  statement_follows (StmtNode-F.Return e) h =
      by_statement _ (statement_is _ _ h ∙ statement.rolls-Return e) ∙ fault-Return s.offset e b v

beginning_follows : (b : Around) (v : State) (i : ForInit) (x : ForInit-F ForInit StmtNode Section Stmt)
    → out-ForInit i ≡ x → (beginning_of i).fault b v ≡ first_of (beginning_parts b v x)
beginning_follows b v i ForInit-F.Nothing h =
    ap (λ i. (beginning_of i).fault b v) (beginning_is i _ h ∙ first_part.rolls-Nothing) ∙ fault-Nothing b v
beginning_follows b v i (ForInit-F.First e) h =
    ap (λ i. (beginning_of i).fault b v) (beginning_is i _ h ∙ first_part.rolls-First e) ∙ fault-First e b v
beginning_follows b v i (ForInit-F.Locals ss) h =
    ap (λ i. (beginning_of i).fault b v) (beginning_is i _ h ∙ first_part.rolls-Locals ss) ∙ fault-Locals ss b v

body_follows : (v : State) (s : Stmt) (x : StmtNode-F ForInit StmtNode Section Stmt) → out-StmtNode s.node ≡ x
    → (body_part s).fault nowhere v ≡ first_of (body_parts v s x)
body_follows v s (StmtNode-F.Compound ss) h =
    ap (λ (n : StmtNode). (body_part (record { offset = s.offset; node = n })).fault nowhere v)
    (statement_is _ _ h ∙ statement.rolls-Compound ss)
    ∙ ap (λ (p : Part). p.fault nowhere v) (block_body s.offset ss)
body_follows v s _ h = ap (λ (p : Part). p.fault nowhere v) (plain_body s (ap is_block h))

-- UNITS

-- what of a global is judged behind its name
abbrev behind_place : ArraySize → Kind → List ℕ → List (List Expr) → ℕ → FileScope → Blame
behind_place s k w init l U =
    first (values_fault (all_values init) (global_names s k w U)) (unless (init_fits s init) (Mismatch l))

global_follows : (s : ArraySize) (k : Kind) (w : List ℕ) (init : List (List Expr)) (l : ℕ) (U : FileScope)
    → global_fault s k w init l U ≡ first_of (global_parts s k w init l U)
global_follows size.Scalar k w init l U = refl
global_follows size.Open k w init l U =
    assoc (count_fault size.Open init l U.names) (place_fault (count_of size.Open init) k w l U)
    (behind_place size.Open k w init l U)
global_follows (size.Sized e) k w init l U =
    assoc (count_fault (size.Sized e) init l U.names) (place_fault (count_of (size.Sized e) init) k w l U)
    (behind_place (size.Sized e) k w init l U)
global_follows (size.Rows None e) k w init l U =
    let z = size.Rows None e in
    let P = place_fault (count_of z init) k w l U in
    assoc (count_fault z init l U.names) P (behind_place z k w init l U)
    ∙ assoc (size_fault e U.names) (unless (nat_lt 0 (length init)) (Mismatch l))
    (first P (behind_place z k w init l U))
global_follows (size.Rows (Some r) e) k w init l U =
    let z = size.Rows (Some r) e in
    let P = place_fault (count_of z init) k w l U in
    assoc (count_fault z init l U.names) P (behind_place z k w init l U)
    ∙ assoc (size_fault r U.names) (size_fault e U.names) (first P (behind_place z k w init l U))

-- labels in their order: the constant of a case, then that it is another than those before it
labels_follow : (G : Scope) (k : Kind) (seen : List (Option ℕ)) (l : ℕ) (o : Option Expr) (xs : List Label)
    → labels_fault k seen ((record { offset = l; value = o }) ∷ xs) G
    ≡ first_of (parts (some_labels G k seen ((record { offset = l; value = o }) ∷ xs)))
labels_follow G k seen l None xs = refl
labels_follow G k seen l (Some e) xs =
    let x = word_if k (Some e) in
    assoc (full_constant e G) (unless (not (label_among x seen)) (Twice l)) (labels_fault k (seen ++ x ∷ []) xs G)

param_follows : (d : Bool) (G : Scope) (seen : List Param) (l : ℕ) (k : Kind) (o : Option (List ℕ)) (s : ArraySize)
    → param_fault d G seen (record { offset = l; kind = k; name = o; size = s })
    ≡ first_of (parts (a_param d G seen (record { offset = l; kind = k; name = o; size = s })))
param_follows d G seen l k o size.Scalar = refl
param_follows d G seen l k o size.Open = refl
param_follows d G seen l k o (size.Sized e) = refl
param_follows d G seen l k o (size.Rows r e) = refl

item_follows : (unit : List Top) (U : FileScope) (l : ℕ) (n : TopNode)
    → node_fault (table unit) n l U ≡ first_of (item_parts unit U l n)
item_follows unit U l Include = refl
item_follows unit U l (Global k w s init) = global_follows s k w init l U
item_follows unit U l (Func given w params None) = refl
item_follows unit U l (Func given w params (Some s)) =
    assoc (params_fault true U.names [] params)
    (function_fault true given (map slot_of params) (look_up U.names w) l)
    ((body_part s).fault nowhere (entry (table unit) w given params U.names))

-- what is judged has the first fault of its parts, unless it is a test
abbrev pub Follows : Judgement → Type 0
Follows (a_test b) = Unit {0}
Follows a = fault_of a ≡ first_of (parts a)

-- in each judgement of a statement, what the folds find first is what is found first in the text
pub follows : (a : Judgement) → Follows a
follows (a_test b) = tt
follows (an_expression G r e) = expression_follows G r e (out-ExprNode e.node) refl
follows (a_full G r e) = refl
follows (an_optional G r None) = refl
follows (an_optional G r (Some e)) = refl
follows (a_constant G e) = constant_follows G e (out-ExprNode e.node) refl
follows (a_full_constant G e) = refl
follows (a_size G e) = refl
follows (a_statement b v s) = statement_follows b v s (out-StmtNode s.node) refl
follows (some_statements b v []) = refl
follows (some_statements b v (s ∷ ss)) = refl
follows (an_else b v None) = refl
follows (an_else b v (Some s)) = refl
follows (a_beginning b v i) = beginning_follows b v i (out-ForInit i) refl
follows (a_body v s) = body_follows v s (out-StmtNode s.node) refl
follows (some_labels G k seen []) = refl
follows (some_labels G k seen (x ∷ xs)) = labels_follow G k seen x.offset x.value xs
follows (some_sections k seen b v []) = refl
follows (some_sections k seen b v (x ∷ xs)) =
    assoc (labels_fault k seen (labels_in x) v.names) (all_fault (map part (statements_in x)) b v)
    (sections_fault k (seen ++ map (label_word k) (labels_in x)) (map section_of xs) b
    (all_after (map part (statements_in x)) v))
follows (a_param d G seen p) = param_follows d G seen p.offset p.kind p.name p.size
follows (some_params d G seen []) = refl
follows (some_params d G seen (p ∷ ps)) = refl
follows (some_values G k []) = refl
follows (some_values G k (e ∷ es)) = refl
follows (an_item unit U t) = item_follows unit U t.offset t.node
follows (some_items unit U []) = refl
follows (some_items unit U (t ∷ ts)) = refl
follows (a_unit p) = refl
