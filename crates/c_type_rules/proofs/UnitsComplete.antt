-- An item, or a unit, without a fault has by the rules what the definitions compute.
use Rattle.std.proofs.Common.{◌≡◌, ℕ, ◌<◌, Bool, true, false, List, [], ◌∷◌, ◌++◌, map, length, Option, Some}
use Rattle.std.proofs.Common.{None, refl, sym, ap, ◌∙◌, subst}
use Rattle.std.specs.Prelude.{◌&&◌, cond, is_some}
use Rattle.std.proofs.lemmas.Bool.{false≢true}
use Rattle.c_tree.specs.declared.token.Kind.{Kind}
use Rattle.c_tree.specs.declared.token.Kind.TheVariants.{Int}
use Rattle.c_tree.specs.declared.tree.ArraySize.{ArraySize}
use Rattle.c_tree.specs.declared.tree.ArraySize.TheVariants as size
use Rattle.c_tree.specs.declared.tree.Param.{Param}
use Rattle.c_tree.specs.declared.tree.Program.{Program}
use Rattle.c_tree.specs.declared.tree.Section.{Section}
use Rattle.c_tree.specs.declared.tree.Stmt.{Stmt}
use Rattle.c_tree.specs.declared.tree.StmtNode.{StmtNode, out-StmtNode, roll-StmtNode, roll-out-StmtNode}
use Rattle.c_tree.specs.declared.tree.StmtNode.TheVariants as node
use Rattle.c_tree.specs.declared.tree.ForInit.{ForInit}
use Rattle.c_tree.specs.declared.tree.ForInit.TheOpen.{StmtNode-F}
use Rattle.c_tree.specs.declared.tree.Top.{Top}
use Rattle.c_tree.specs.declared.tree.TopNode.{TopNode}
use Rattle.c_tree.specs.declared.tree.TopNode.TheVariants.{Include, Global, Func}
use Rattle.c_tree.specs.declared.typed.Callee.{Callee}
use Rattle.c_tree.specs.declared.typed.Slot.{Slot}
use Rattle.c_type_expr.specs.declared.meaning.Meaning.{Meaning}
use Rattle.c_type_expr.specs.declared.meaning.Meaning.TheVariants as meaning
use Rattle.c_type_expr.specs.Scope.{Scope, look_up}
use Rattle.c_type_expr.specs.declared.fault.TypeFault.{TypeFault}
use Rattle.c_type_expr.specs.declared.fault.TypeFault.TheVariants.{Twice}
use Rattle.c_type_expr.specs.declared.fault.TypeFault.TheVariants as fault
use Rattle.c_constant.specs.Constant.{length_of}
use Rattle.c_type_expr.specs.Blames.{Blame}
use Rattle.c_type_expr.specs.inside.Says.{Stops}
use Rattle.c_type.specs.declared.file_scope.FileScope.{FileScope}
use Rattle.c_type.specs.declared.state.State.{State}
use Rattle.c_type.specs.States.{at, nowhere, is_end, slot_of, named_among, with_params, started}
use Rattle.c_type.specs.FileScopes.{exit_name}
use Rattle.c_type.specs.FileScopes.{eof_name, getchar_name, putchar_name, int_slots, long_slots, with_include}
use Rattle.c_type.specs.FileScopes.{global_names}
use Rattle.c_type.specs.Units.{include_clash, function_fault, same_result, same_slots}
use Rattle.c_type.specs.Functions.{name_fault, row_bytes_fault}
use Rattle.c_type.specs.inside.Functions.{params_fault, head_fault, param_fault, row_fault}
use Rattle.c_type.specs.Functions.{entry, body_part, callee_in}
use Rattle.c_type.specs.Statements.{Part}
use Rattle.c_type.specs.Programs.{table, is_int, no_slots, is_main, node_after, item_after}
use Rattle.c_type.specs.inside.Programs.{node_fault, items_fault}
use Rattle.c_type.specs.Programs.{items_after}
use Rattle.c_type.specs.inside.Programs.{program_fault, program_tree}
use Rattle.c_type.specs.FileScopes.{empty_file}
use Rattle.c_type_rules.specs.Units.{Row}
use Rattle.c_type_rules.specs.Units.{no_row_size, row_size}
use Rattle.c_type_rules.specs.Units.{Named, Params, Agrees, Heads, is_block, Body}
use Rattle.c_type_rules.specs.Units.{Item, Items, Accepts}
use Rattle.c_type_rules.specs.Units.{unnamed, named, no_param, one_param, fresh, again}
use Rattle.c_type_rules.specs.Units.{outermost, other, include, include_again, global, prototype}
use Rattle.c_type_rules.specs.Units.{definition, no_item, one_item, accepts}
use Rattle.c_type_rules.proofs.Clashes.{Clear, clear}
use Rattle.c_type_rules.proofs.CompleteParts.{split, held, not_held, less, at_most, sized_typed}
use Rattle.c_type_rules.proofs.Complete.{whole_stmt, whole_all}
use Rattle.c_type_rules.proofs.UnitsSound.{block_body, plain_body}
use Rattle.c_type_rules.proofs.Definitions.{called}
use Rattle.c_constant.proofs.SameKinds.{kinds_are}
use Rattle.c_type_rules.proofs.Tests.{both_hold, neither_holds, params_are, results_are}
use Rattle.c_type_rules.proofs.GlobalsComplete.{count_typed, init_typed}

-- a parameter's name without a fault is one by the rules
pub named_typed : (d : Bool) (G : Scope) (seen : List Param) (o : Option (List ℕ)) (l : ℕ)
    → name_fault d G seen o l ≡ None → Named d G seen o
named_typed d G seen None l h = unnamed (not_held _ _ h)
named_typed d G seen (Some w) l h =
    let q = neither_holds (named_among seen w) (is_end (look_up G w)) (not_held _ _ h) in named q.0 q.1

-- a second size without a fault is one by the rules
pub row_typed : (G : Scope) (seen : List Param) (k : Kind) (s : ArraySize) (l : ℕ) → row_fault s G seen ≡ None
    → row_bytes_fault s k l ≡ None → Row G seen k s
row_typed G seen k size.Scalar l h b = no_row_size refl
row_typed G seen k size.Open l h b = no_row_size refl
row_typed G seen k (size.Sized e) l h b = no_row_size refl
row_typed G seen k (size.Rows o e) l h b =
    row_size (sized_typed (with_params seen (started G None)).names e (length_of e) refl h)
    (at_most _ _ (held _ _ b))

-- a parameter without a fault is one by the rules
pub param_typed : (d : Bool) (G : Scope) (seen : List Param) (p : Param) → param_fault d G seen p ≡ None
    → Row G seen p.kind p.size × Named d G seen p.name × (length seen < 8)
param_typed d G seen p h =
    let q = split _ _ h in
    let r = split _ _ q.1 in
    let u = split _ _ r.1 in (
      row_typed G seen p.kind p.size p.offset q.0 u.1,
      named_typed d G seen p.name p.offset r.0,
      less _ _ (held _ _ u.0),
    )

-- parameters without a fault are some by the rules
pub params_typed : (d : Bool) (G : Scope) (seen ps : List Param) → params_fault d G seen ps ≡ None
    → Params d G seen ps
params_typed d G seen [] h = no_param
params_typed d G seen (p ∷ ps) h =
    let q = split _ _ h in
    let r = param_typed d G seen p q.0 in
    one_param r.0 r.1 r.2 (params_typed d G (seen ++ p ∷ []) ps q.1)

-- a function without a fault agrees with what its name means
agrees_typed : (d : Bool) (r : Option Kind) (ss : List Slot) (m : Option Meaning) (l : ℕ)
    → function_fault d r ss m l ≡ None → Agrees d r ss m
agrees_typed d r ss None l h = fresh
agrees_typed d r ss (Some (meaning.Scalar k p)) l h =
    absurd (false≢true (held false (Twice l) (split (Some (Twice l)) None h).0))
agrees_typed d r ss (Some (meaning.Array k q p)) l h =
    absurd (false≢true (held false (Twice l) (split (Some (Twice l)) None h).0))
agrees_typed d r ss (Some meaning.EndOfFile) l h =
    absurd (false≢true (held false (Twice l) (split (Some (Twice l)) None h).0))
agrees_typed d r ss (Some (meaning.Function r' ss' c s)) l h =
    let q = split _ _ h in
    let u = both_hold (same_result r' r) (same_slots ss' ss) (held _ _ q.1) in
    subst (λ r'. Agrees d r ss (Some (meaning.Function r' ss' c s))) (sym (results_are r' r u.0))
    (subst (λ ss'. Agrees d r ss (Some (meaning.Function r ss' c s))) (sym (params_are ss' ss u.1))
    (again (not_held _ _ q.0)))

-- what stands before a body is so by the rules
heads_typed : (d : Bool) (r : Option Kind) (w : List ℕ) (ps : List Param) (l : ℕ) (G : Scope)
    → head_fault d r w ps l G ≡ None → Heads d r w ps G
heads_typed d r w ps l G h =
    let q = split _ _ h in (params_typed d G [] ps q.0, agrees_typed d r (map slot_of ps) (look_up G w) l q.1)

abbrev WholeBody : Stmt → Type 0
WholeBody s =
    (v : State) → (body_part s).fault nowhere v ≡ None → Body v s ((body_part s).tree v) ((body_part s).after v)

block_whole : (l : ℕ) (ss : List Stmt) → WholeBody (at l (node.Compound ss))
block_whole l ss v =
    subst (λ (p : Part). p.fault nowhere v ≡ None → Body v (at l (node.Compound ss)) (p.tree v) (p.after v))
    (sym (block_body l ss)) (λ h. outermost (whole_all nowhere v ss h))

other_whole : (s : Stmt) → is_block (out-StmtNode s.node) ≡ false → WholeBody s
other_whole s e v =
    subst (λ (p : Part). p.fault nowhere v ≡ None → Body v s (p.tree v) (p.after v))
    (sym (plain_body s e)) (λ h. other e (whole_stmt s nowhere v h))

whole_in : (s : Stmt) (x : StmtNode-F ForInit StmtNode Section Stmt) → out-StmtNode s.node ≡ x → WholeBody s
whole_in s (StmtNode-F.Compound ss) e =
    subst (λ n. WholeBody (at s.offset n))
    (sym (sym (roll-out-StmtNode s.node) ∙ ap roll-StmtNode e ∙ node.rolls-Compound ss)) (block_whole s.offset ss)
whole_in s _ e = other_whole s (ap is_block e)

-- a body without a fault has its tree by the rules
pub body_typed : (s : Stmt) → WholeBody s
body_typed s = whole_in s (out-StmtNode s.node) refl

-- an include without a fault is one by the rules
include_typed : (unit : List Top) (l : ℕ) (U : FileScope) (b : Bool) → is_end (look_up U.names eof_name) ≡ b
    → cond b None (include_clash U.names l) ≡ None
    → Item unit U Include (record U { names = cond b U.names (with_include U.names) })
include_typed unit l U true e h = include_again e
include_typed unit l U false e h =
    let c : Clear U.names l = clear U.names l h in
    include (not_held _ _ c.eof)
    (agrees_typed true (Some Int) [] (look_up U.names getchar_name) l c.get)
    (agrees_typed true (Some Int) int_slots (look_up U.names putchar_name) l c.put)
    (agrees_typed true None long_slots (look_up U.names exit_name) l c.end)

-- an item without a fault leads by the rules to the file scope after it
pub item_typed : (unit : List Top) (l : ℕ) (U : FileScope) (n : TopNode) → node_fault (table unit) n l U ≡ None
    → Item unit U n (node_after (table unit) n U)
item_typed unit l U Include h = include_typed unit l U (is_end (look_up U.names eof_name)) refl h
item_typed unit l U (Global k w s init) h =
    let q = split _ _ h in
    let r = split _ _ q.0 in
    let u = split _ _ r.1 in
    let y = split _ _ q.1 in
    global (count_typed U.names init s l r.0) (not_held _ _ u.0) (at_most _ _ (held _ _ u.1))
    (init_typed (global_names s k w U) U.names k s init l r.0 y.0 (held _ _ y.1))
item_typed unit l U (Func given w params None) h =
    prototype (called unit w) (heads_typed false given w params l U.names h)
item_typed unit l U (Func given w params (Some s)) h =
    let q = split _ _ h in
    definition (called unit w) (heads_typed true given w params l U.names q.0)
    (body_typed s (entry (table unit) w given params U.names) q.1)

-- items without a fault lead by the rules to the file scope after them
pub items_typed : (unit : List Top) (U : FileScope) (ts : List Top) → items_fault (table unit) ts U ≡ None
    → Items unit U ts (items_after (table unit) ts U)
items_typed unit U [] h = no_item
items_typed unit U (t ∷ ts) h =
    let q = split _ _ h in
    one_item (item_typed unit t.offset U t.node q.0) (items_typed unit (item_after (table unit) t U) ts q.1)

main_parts : (a b c : Bool) → a && b && c ≡ true → (a ≡ true) × (b ≡ true) × (c ≡ true)
main_parts true true true h = (refl, refl, refl)
main_parts true true false h = absurd (false≢true h)
main_parts true false c h = absurd (false≢true h)
main_parts false b c h = absurd (false≢true h)

function_is : (r : Option Kind) (ps : List Slot) (c : Option Callee) (d : Bool) → is_int r ≡ true → no_slots ps ≡ true
    → d ≡ true
    → Some (meaning.Function r ps c d) ≡ Some (meaning.Function (Some Int) [] c true)
function_is None ps c d h h' e = absurd (false≢true h)
function_is (Some k) (s ∷ ss) c d h h' e = absurd (false≢true h')
function_is (Some k) [] c d h h' e =
    ap (λ k. Some (meaning.Function (Some k) [] c d)) (kinds_are k Int h)
    ∙ ap (λ d. Some (meaning.Function (Some Int) [] c d)) e

-- what the test takes for main is a definition of type int(void)
main_is : (m : Option Meaning) → is_main m ≡ true → m ≡ Some (meaning.Function (Some Int) [] (callee_in m) true)
main_is None h = absurd (false≢true h)
main_is (Some (meaning.Scalar k p)) h = absurd (false≢true h)
main_is (Some (meaning.Array k q p)) h = absurd (false≢true h)
main_is (Some meaning.EndOfFile) h = absurd (false≢true h)
main_is (Some (meaning.Function r ps c d)) h =
    let q = main_parts (is_int r) (no_slots ps) d h in function_is r ps c d q.0 q.1 q.2

-- a unit without a fault is accepted by the rules with its typed program
pub accepts_typed : (p : Program) → program_fault p ≡ None → Accepts p (program_tree p)
accepts_typed p h =
    let q = split _ _ h in accepts (items_typed p.items empty_file p.items q.0) (main_is _ (held _ _ q.1))

no_stop : (e : TypeFault) → None ≡ Some e → false ≡ true
no_stop e h = ap is_some h

-- where nothing fails, no error stops but want of memory
pub stops_by_memory : (f : Blame) (e : TypeFault) → f ≡ None → Stops f e → e ≡ fault.Memory
stops_by_memory f fault.Memory h s = refl
stops_by_memory f (fault.Unknown l) h s = absurd (false≢true (no_stop (fault.Unknown l) (sym h ∙ s)))
stops_by_memory f (fault.Twice l) h s = absurd (false≢true (no_stop (fault.Twice l) (sym h ∙ s)))
stops_by_memory f (fault.Mismatch l) h s = absurd (false≢true (no_stop (fault.Mismatch l) (sym h ∙ s)))
stops_by_memory f (fault.Arity l) h s = absurd (false≢true (no_stop (fault.Arity l) (sym h ∙ s)))
stops_by_memory f fault.NoMain h s = absurd (false≢true (no_stop fault.NoMain (sym h ∙ s)))
stops_by_memory f (fault.TooManyScalars l) h s =
    absurd (false≢true (no_stop (fault.TooManyScalars l) (sym h ∙ s)))
stops_by_memory f (fault.TooManyParams l) h s =
    absurd (false≢true (no_stop (fault.TooManyParams l) (sym h ∙ s)))
stops_by_memory f (fault.Need l) h s = absurd (false≢true (no_stop (fault.Need l) (sym h ∙ s)))
stops_by_memory f (fault.TooLarge l) h s = absurd (false≢true (no_stop (fault.TooLarge l) (sym h ∙ s)))
