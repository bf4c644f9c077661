-- What is judged has types exactly where the folds find no fault in it.
use Rattle.std.proofs.Common.{◌≡◌, ℕ, false, Option, Some, None, refl, ap}
use Rattle.std.specs.Prelude.{option_map}
use Rattle.std.proofs.lemmas.Bool.{false≢true}
use Rattle.c_tree.specs.declared.tree.Stmt.{Stmt}
use Rattle.c_constant.specs.Constant.{constant, ends, length_of}
use Rattle.c_constant.specs.Need.{need_fits}
use Rattle.c_type_expr.specs.declared.fault.TypeFault.TheVariants.{Mismatch, Need}
use Rattle.c_type_expr.specs.Trees.{tree}
use Rattle.c_type_expr.specs.Constants.{value_fault}
use Rattle.c_type_expr.proofs.Theorem.{sound, complete}
use Rattle.c_type.specs.declared.state.State.{State}
use Rattle.c_type.specs.declared.state.Around.{Around}
use Rattle.c_type.specs.Statements.{part, else_fault}
use Rattle.c_type.specs.inside.Programs.{program_tree}
use Rattle.c_type_rules.specs.Statements.{without_else, with_else}
use Rattle.c_type_rules.specs.Judgements.{Judgement, a_test, an_expression, a_full, an_optional}
use Rattle.c_type_rules.specs.Judgements.{a_constant, a_full_constant, a_size, a_statement}
use Rattle.c_type_rules.specs.Judgements.{some_statements, an_else, a_beginning, a_body, a_param}
use Rattle.c_type_rules.specs.Judgements.{some_labels, some_sections}
use Rattle.c_type_rules.specs.Judgements.{some_params, some_values, an_item, some_items, a_unit}
use Rattle.c_type_rules.specs.FirstFaults.{Passes}
use Rattle.c_type_rules.proofs.Constants.{constant_fine, constant_typed}
use Rattle.c_type_rules.proofs.SoundParts.{both, fine, full_fine, full_if_fine, size_fine, labels_fine}
use Rattle.c_type_rules.proofs.Sound.{types_fine, all_fine, sections_fine, if_fine, begin_fine}
use Rattle.c_type_rules.proofs.CompleteParts.{split, held, full_typed, full_if_typed, sized_typed}
use Rattle.c_type_rules.proofs.Complete.{whole_stmt, whole_all, whole_sections, whole_beginning}
use Rattle.c_type_rules.proofs.CompleteParts.{labels_typed}
use Rattle.c_type_rules.proofs.GlobalsSound.{values_fine}
use Rattle.c_type_rules.proofs.UnitsSound.{param_fine, params_fine, body_fine}
use Rattle.c_type_rules.proofs.UnitsSound.{item_fine, items_fine, accepts_fine}
use Rattle.c_type_rules.proofs.GlobalsComplete.{values_typed}
use Rattle.c_type_rules.proofs.UnitsComplete.{param_typed, params_typed, body_typed}
use Rattle.c_type_rules.proofs.UnitsComplete.{item_typed, items_typed, accepts_typed}
use Rattle.c_type_rules.proofs.FollowsParts.{fault_of}

-- what has types has no fault
pub passes_none : (a : Judgement) → Passes a → fault_of a ≡ None
passes_none (a_test b) p = p
passes_none (an_expression G r e) p = (sound G r e p.0 p.1).0
passes_none (a_full G r e) p = (full_fine G r e p.0 p.1).0
passes_none (an_optional G r e) p = (full_if_fine G r e p.0 p.1).0
passes_none (a_constant G e) p = constant_fine G e p
passes_none (a_full_constant G e) p =
    both _ _ (constant_fine G e p.0) (both _ _ (ap (λ o. value_fault o e.offset) p.1.1)
    (fine (need_fits e) (Need e.offset) p.2))
passes_none (a_size G e) p = size_fine G e p.0 p.1
passes_none (a_statement b v s) p = (types_fine b v s p.0 p.1 p.2).0
passes_none (some_statements b v ss) p = (all_fine b v ss p.0 p.1 p.2).0
passes_none (an_else b v other) p = (if_fine b v other p.0 p.1 p.2).0
passes_none (a_beginning b v i) p = (begin_fine b v i p.0 p.1 p.2).0
passes_none (a_body v s) p = (body_fine v s p.0 p.1 p.2).0
passes_none (some_labels G k seen ls) p = (labels_fine G k seen ls p.0 p.1).0
passes_none (some_sections k seen b v xs) p = (sections_fine k seen b v xs p.0 p.1 p.2).0
passes_none (a_param d G seen p) q = param_fine d G seen p q.0 q.1 q.2
passes_none (some_params d G seen ps) p = params_fine d G seen ps p
passes_none (some_values G k es) p = (values_fine G k es p.0 p.1).0
passes_none (an_item unit U t) p = (item_fine unit t.offset U t.node p.0 p.1).0
passes_none (some_items unit U ts) p = (items_fine unit U ts p.0 p.1).0
passes_none (a_unit p) q = (accepts_fine p q.0 q.1).0

-- a value that is tested without a fault is one
value_of : (o : Option ℕ) (l : ℕ) → value_fault o l ≡ None → (n : ℕ) × (o ≡ Some n)
value_of None l h = absurd (false≢true (held false (Mismatch l) h))
value_of (Some n) l h = (n, refl)

-- an `else` without a fault
else_typed : (b : Around) (v : State) (other : Option Stmt) → else_fault (option_map part other) b v ≡ None
    → Passes (an_else b v other)
else_typed b v None h = (None, v, without_else)
else_typed b v (Some s) h = (Some _, _, with_else (whole_stmt s b v h))

-- what has no fault has types
pub none_passes : (a : Judgement) → fault_of a ≡ None → Passes a
none_passes (a_test b) h = h
none_passes (an_expression G r e) h = (tree e G, complete e G r h)
none_passes (a_full G r e) h = (tree e G, full_typed G r e h)
none_passes (an_optional G r e) h = (_, full_if_typed G r e h)
none_passes (a_constant G e) h = constant_typed e G h
none_passes (a_full_constant G e) h =
    let q = split _ _ h in
    let r = split _ _ q.1 in
    (constant_typed e G q.0, value_of (constant ends e).value e.offset r.0, held _ _ r.1)
none_passes (a_size G e) h = (_, sized_typed G e (length_of e) refl h)
none_passes (a_statement b v s) h = (_, _, whole_stmt s b v h)
none_passes (some_statements b v ss) h = (_, _, whole_all b v ss h)
none_passes (an_else b v other) h = else_typed b v other h
none_passes (a_beginning b v i) h = (_, _, whole_beginning i b v h)
none_passes (a_body v s) h = (_, _, body_typed s v h)
none_passes (some_labels G k seen ls) h = (_, labels_typed G k seen ls h)
none_passes (some_sections k seen b v xs) h = (_, _, whole_sections k seen b v xs h)
none_passes (a_param d G seen p) h = param_typed d G seen p h
none_passes (some_params d G seen ps) h = params_typed d G seen ps h
none_passes (some_values G k es) h = (_, values_typed G k es h)
none_passes (an_item unit U t) h = (_, item_typed unit t.offset U t.node h)
none_passes (some_items unit U ts) h = (_, items_typed unit U ts h)
none_passes (a_unit p) h = (program_tree p, accepts_typed p h)
