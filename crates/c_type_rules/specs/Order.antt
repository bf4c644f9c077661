-- The order of the text in which the parts of statements and units are judged (C17 6.7 to 6.9).
use Rattle.std.specs.Prelude.{ℕ, true, false, not, nat_lt, length, List, [], ◌∷◌, ◌++◌}
use Rattle.std.specs.Prelude.{map, Option, Some, None}
use Rattle.c_tree.specs.Limits.{most_parameters, most_scalars}
use Rattle.c_tree.specs.declared.token.Kind.{Kind}
use Rattle.c_tree.specs.declared.tree.ArraySize.{ArraySize}
use Rattle.c_tree.specs.declared.tree.ArraySize.TheVariants as size
use Rattle.c_tree.specs.declared.tree.Expr.{Expr}
use Rattle.c_tree.specs.declared.tree.ExprNode.{out-ExprNode}
use Rattle.c_tree.specs.declared.tree.ForInit.{ForInit, out-ForInit}
use Rattle.c_tree.specs.declared.tree.ForInit.TheOpen.{ForInit-F, Nothing, First, Locals}
use Rattle.c_tree.specs.declared.tree.ForInit.TheOpen.{StmtNode-F, Declare, Plain, Compound, If}
use Rattle.c_tree.specs.declared.tree.ForInit.TheOpen.{While, Do, For, Switch, Break, Continue}
use Rattle.c_tree.specs.declared.tree.ForInit.TheOpen.{Return}
use Rattle.c_tree.specs.declared.tree.Param.{Param}
use Rattle.c_tree.specs.declared.tree.Section.{Section}
use Rattle.c_tree.specs.declared.tree.Stmt.{Stmt}
use Rattle.c_tree.specs.declared.tree.StmtNode.{StmtNode, out-StmtNode}
use Rattle.c_tree.specs.declared.tree.Top.{Top}
use Rattle.c_tree.specs.declared.tree.TopNode.{TopNode}
use Rattle.c_tree.specs.declared.tree.TopNode.TheVariants.{Include, Global, Func}
use Rattle.c_constant.specs.Constant.{constant, ends, length_of}
use Rattle.c_type_expr.specs.Scope.{Scope, look_up}
use Rattle.c_type_expr.specs.declared.fault.TypeFault.TheVariants.{Twice, Mismatch, NoMain, TooManyScalars}
use Rattle.c_type_expr.specs.declared.fault.TypeFault.TheVariants.{TooManyParams}
use Rattle.c_type_expr.specs.declared.role.Role.TheVariants.{Value, Free}
use Rattle.c_type_expr.specs.Blames.{unless}
use Rattle.c_type_expr.specs.Constants.{value_fault, need_fault}
use Rattle.c_type.specs.declared.file_scope.FileScope.{FileScope}
use Rattle.c_type.specs.declared.state.State.{State}
use Rattle.c_type.specs.declared.state.Around.{Around}
use Rattle.c_type.specs.States.{entered, with_scalar, with_switch, nowhere, in_loop, in_switch}
use Rattle.c_type.specs.Declarations.{extent, scalar_fault, array_fault, no_init}
use Rattle.c_type.specs.Statements.{part, all_after, beginning_of, switch_kind, label_word, label_among, return_fault}
use Rattle.c_type.specs.Statements.{labels_in, statements_in}
use Rattle.c_type.specs.Units.{include_fault, function_fault, place_fault, count_of, init_fits}
use Rattle.c_type.specs.FileScopes.{global_names, all_values, empty_file, main_name}
use Rattle.c_type.specs.Functions.{name_fault, row_bytes_fault, entry}
use Rattle.c_type.specs.States.{slot_of, with_params, started}
use Rattle.c_type.specs.Programs.{table, item_after, whole, is_main}
use Rattle.c_type_rules.specs.Judgements.{Judgement, a_test, an_expression, a_full, an_optional}
use Rattle.c_type_rules.specs.Judgements.{a_constant, a_full_constant, a_size, a_statement}
use Rattle.c_type_rules.specs.Judgements.{some_statements, an_else, a_beginning, some_labels}
use Rattle.c_type_rules.specs.Judgements.{some_sections, a_body, a_param}
use Rattle.c_type_rules.specs.Judgements.{some_params, some_values, an_item, some_items, a_unit}
use Rattle.c_type_rules.specs.Judgements.{expression_parts, constant_parts}

-- a declarator is its name and its size; its own faults come before its initialiser
abbrev pub declare_parts : ArraySize → Kind → List ℕ → Option Expr → ℕ → State → List Judgement
declare_parts size.Scalar k w init l v =
    a_test (scalar_fault w l v) ∷ an_optional (with_scalar k w v).names Value init ∷ []
declare_parts size.Open k w init l v = a_test (Some (Mismatch l)) ∷ []
declare_parts (size.Sized e) k w init l v =
    a_size v.names e ∷ a_test (array_fault (extent (size.Sized e)) k w l v.names)
    ∷ a_test (no_init init l) ∷ []
declare_parts (size.Rows None e) k w init l v = a_test (Some (Mismatch l)) ∷ []
declare_parts (size.Rows (Some r) e) k w init l v =
    a_size v.names r ∷ a_size v.names e
    ∷ a_test (array_fault (extent (size.Rows (Some r) e)) k w l v.names)
    ∷ a_test (no_init init l) ∷ []

-- the parts of a statement of that offset, each in the state that those before it leave
abbrev pub statement_parts : Around → State → ℕ → StmtNode-F ForInit StmtNode Section Stmt → List Judgement
statement_parts b v l (Declare k w s init) = declare_parts s k w init l v
statement_parts b v l (Plain e) = an_optional v.names Free e ∷ []
statement_parts b v l (Compound ss) = some_statements b (entered v) ss ∷ []
statement_parts b v l (If c s other) =
    a_full v.names Value c ∷ a_statement b v s ∷ an_else b ((part s).after v) other ∷ []
statement_parts b v l (While c s) = a_full v.names Value c ∷ a_statement in_loop v s ∷ []
statement_parts b v l (Do s c) = a_statement in_loop v s ∷ a_full ((part s).after v).names Value c ∷ []
statement_parts b v l (For init c p s) =
    let w = (beginning_of init).after (entered v) in
    a_beginning b (entered v) init ∷ an_optional w.names Value c ∷ an_optional w.names Free p
    ∷ a_statement in_loop w s ∷ []
statement_parts b v l (Switch c xs) =
    let k = switch_kind c v.names in
    a_full v.names Value c ∷ a_test (unless (nat_lt (length v.scalars) most_scalars) (TooManyScalars l))
    ∷ some_sections k [] (in_switch b) (with_switch k v) xs ∷ []
statement_parts b v l Break = a_test (unless b.may_break (Mismatch l)) ∷ []
statement_parts b v l Continue = a_test (unless b.may_continue (Mismatch l)) ∷ []
statement_parts b v l (Return e) =
    an_optional v.names Value e ∷ a_test (return_fault v.result e l) ∷ []

-- the parts of what begins a `for`
abbrev pub beginning_parts : Around → State → ForInit-F ForInit StmtNode Section Stmt → List Judgement
beginning_parts b v Nothing = []
beginning_parts b v (First e) = a_full v.names Free e ∷ []
beginning_parts b v (Locals ss) = some_statements b v ss ∷ []

-- a body's outermost block is the scope of the parameters
abbrev pub body_parts : State → Stmt → StmtNode-F ForInit StmtNode Section Stmt → List Judgement
body_parts v s (Compound ss) = some_statements nowhere v ss ∷ []
body_parts v s _ = a_statement nowhere v s ∷ []

-- a global behind its size: its name and bytes, its values, and that they are not too many
abbrev pub value_parts : ArraySize → Kind → List ℕ → List (List Expr) → ℕ → FileScope → List Judgement
value_parts s k w init l U =
    a_test (place_fault (count_of s init) k w l U)
    ∷ some_values (global_names s k w U) k (all_values init)
    ∷ a_test (unless (init_fits s init) (Mismatch l)) ∷ []

-- the parts of a global
abbrev pub global_parts : ArraySize → Kind → List ℕ → List (List Expr) → ℕ → FileScope → List Judgement
global_parts size.Scalar k w init l U = value_parts size.Scalar k w init l U
global_parts size.Open k w init l U =
    a_test (unless (nat_lt 0 (length (all_values init))) (Mismatch l))
    ∷ value_parts size.Open k w init l U
global_parts (size.Sized e) k w init l U =
    a_size U.names e ∷ value_parts (size.Sized e) k w init l U
global_parts (size.Rows None e) k w init l U =
    a_size U.names e ∷ a_test (unless (nat_lt 0 (length init)) (Mismatch l))
    ∷ value_parts (size.Rows None e) k w init l U
global_parts (size.Rows (Some r) e) k w init l U =
    a_size U.names r ∷ a_size U.names e ∷ value_parts (size.Rows (Some r) e) k w init l U

-- the parts of an item of that offset; a function's parameters come before the function itself
abbrev pub item_parts : List Top → FileScope → ℕ → TopNode → List Judgement
item_parts unit U l Include = a_test (include_fault U.names l) ∷ []
item_parts unit U l (Global k w s init) = global_parts s k w init l U
item_parts unit U l (Func given w params None) =
    some_params false U.names [] params
    ∷ a_test (function_fault false given (map slot_of params) (look_up U.names w) l) ∷ []
item_parts unit U l (Func given w params (Some s)) =
    some_params true U.names [] params
    ∷ a_test (function_fault true given (map slot_of params) (look_up U.names w) l)
    ∷ a_body (entry (table unit) w given params U.names) s ∷ []

-- the second size of an array parameter, where the parameters before it are in scope
abbrev pub row_parts : ArraySize → Scope → List Param → List Judgement
row_parts (size.Rows o e) G seen = a_size (with_params seen (started G None)).names e ∷ []
row_parts _ G seen = []

-- the constant of a label
abbrev pub case_parts : Scope → Option Expr → List Judgement
case_parts G None = []
case_parts G (Some e) = a_full_constant G e ∷ []

-- what is judged of it, in the order of the text; a main that is missing comes last
abbrev pub parts : Judgement → List Judgement
parts (a_test b) = []
parts (an_expression G r e) = expression_parts G r e.offset (out-ExprNode e.node)
parts (a_full G r e) = an_expression G r e ∷ a_test (need_fault e) ∷ []
parts (an_optional G r None) = []
parts (an_optional G r (Some e)) = a_full G r e ∷ []
parts (a_constant G e) = constant_parts G e.offset (out-ExprNode e.node)
parts (a_full_constant G e) =
    a_constant G e ∷ a_test (value_fault (constant ends e).value e.offset) ∷ a_test (need_fault e) ∷ []
parts (a_size G e) = a_constant G e ∷ a_test (value_fault (length_of e) e.offset) ∷ []
parts (a_statement b v s) = statement_parts b v s.offset (out-StmtNode s.node)
parts (some_statements b v []) = []
parts (some_statements b v (s ∷ ss)) =
    a_statement b v s ∷ some_statements b ((part s).after v) ss ∷ []
parts (an_else b v None) = []
parts (an_else b v (Some s)) = a_statement b v s ∷ []
parts (a_beginning b v i) = beginning_parts b v (out-ForInit i)
parts (some_labels G k seen []) = []
parts (some_labels G k seen (x ∷ xs)) =
    case_parts G x.value
    ++ a_test (unless (not (label_among (label_word k x) seen)) (Twice x.offset))
    ∷ some_labels G k (seen ++ label_word k x ∷ []) xs ∷ []
parts (some_sections k seen b v []) = []
parts (some_sections k seen b v (x ∷ xs)) =
    some_labels v.names k seen (labels_in x) ∷ some_statements b v (statements_in x)
    ∷ some_sections k (seen ++ map (label_word k) (labels_in x)) b
    (all_after (map part (statements_in x)) v) xs ∷ []
parts (a_body v s) = body_parts v s (out-StmtNode s.node)
parts (a_param d G seen p) =
    row_parts p.size G seen ++ a_test (name_fault d G seen p.name p.offset)
    ∷ a_test (unless (nat_lt (length seen) most_parameters) (TooManyParams p.offset))
    ∷ a_test (row_bytes_fault p.size p.kind p.offset) ∷ []
parts (some_params d G seen []) = []
parts (some_params d G seen (p ∷ ps)) =
    a_param d G seen p ∷ some_params d G (seen ++ p ∷ []) ps ∷ []
parts (some_values G k []) = []
parts (some_values G k (e ∷ es)) = a_full_constant G e ∷ some_values G k es ∷ []
parts (an_item unit U t) = item_parts unit U t.offset t.node
parts (some_items unit U []) = []
parts (some_items unit U (t ∷ ts)) =
    an_item unit U t ∷ some_items unit (item_after (table unit) t U) ts ∷ []
parts (a_unit p) =
    some_items p.items empty_file p.items
    ∷ a_test (unless (is_main (look_up (whole p).names main_name)) NoMain) ∷ []
