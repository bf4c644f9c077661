-- Where a unit's typing fault stands: at the first node in the order of the text that has no type.
use Rattle.std.specs.Prelude.{◌≡◌, ◌<◌, ℕ, true, length, List, [], ◌∷◌, ◌++◌, Option, Some, None}
use Rattle.c_tree.specs.Limits.{most_parameters}
use Rattle.c_tree.specs.declared.tree.Program.{Program}
use Rattle.c_tree.specs.declared.typed.TypedExpr.{TypedExpr}
use Rattle.c_tree.specs.declared.typed.TypedForInit.{TypedForInit}
use Rattle.c_tree.specs.declared.typed.TypedProgram.{TypedProgram}
use Rattle.c_tree.specs.declared.typed.TypedSection.{TypedSection}
use Rattle.c_tree.specs.declared.typed.TypedStmt.{TypedStmt}
use Rattle.c_constant.specs.Constant.{constant, ends}
use Rattle.c_constant.specs.Need.{need_fits}
use Rattle.c_type_expr.specs.declared.fault.TypeFault.{TypeFault}
use Rattle.c_type_expr.specs.declared.fault.TypeFault.TheVariants.{Memory}
use Rattle.c_type_expr.specs.Blames.{Blame}
use Rattle.c_type_expr.specs.Typed.{Typed}
use Rattle.c_type.specs.declared.file_scope.FileScope.{FileScope}
use Rattle.c_type.specs.declared.state.State.{State}
use Rattle.c_type_rules.specs.Constants.{IsConstant, Size}
use Rattle.c_type_rules.specs.Statements.{Full, FullIf, Labels, Types, TypesAll, TypesSections}
use Rattle.c_type_rules.specs.Statements.{TypesIf, Begins}
use Rattle.c_type_rules.specs.Units.{Values, Row, Named, Params, Body, Item, Items, Accepts}
use Rattle.c_type_rules.specs.Judgements.{Judgement, a_test, an_expression, a_full, an_optional}
use Rattle.c_type_rules.specs.Judgements.{a_constant, a_full_constant, a_size, a_statement}
use Rattle.c_type_rules.specs.Judgements.{some_statements, an_else, a_beginning, some_labels}
use Rattle.c_type_rules.specs.Judgements.{some_sections, a_body, a_param}
use Rattle.c_type_rules.specs.Judgements.{some_params, some_values, an_item, some_items, a_unit}
use Rattle.c_type_rules.specs.Order.{parts}

-- it has types by the rules
abbrev pub Passes : Judgement → Type 0
Passes (a_test b) = b ≡ None
Passes (an_expression G r e) = (t : TypedExpr) × Typed G r e t
Passes (a_full G r e) = (t : TypedExpr) × Full G r e t
Passes (an_optional G r e) = (t : Option TypedExpr) × FullIf G r e t
Passes (a_constant G e) = IsConstant G e
Passes (a_full_constant G e) =
    IsConstant G e × ((n : ℕ) × ((constant ends e).value ≡ Some n)) × (need_fits e ≡ true)
Passes (a_size G e) = (n : ℕ) × Size G e n
Passes (a_statement b v s) = (t : TypedStmt) × (w : State) × Types b v s t w
Passes (some_statements b v ss) = (ts : List TypedStmt) × (w : State) × TypesAll b v ss ts w
Passes (an_else b v other) = (t : Option TypedStmt) × (w : State) × TypesIf b v other t w
Passes (a_beginning b v i) = (j : TypedForInit) × (w : State) × Begins b v i j w
Passes (a_body v s) = (t : TypedStmt) × (w : State) × Body v s t w
Passes (some_labels G k seen ls) = (words : List (Option ℕ)) × Labels G k seen ls words
Passes (some_sections k seen b v xs) =
    (ts : List TypedSection) × (w : State) × TypesSections k seen b v xs ts w
Passes (a_param d G seen p) =
    Row G seen p.kind p.size × Named d G seen p.name × (length seen < most_parameters)
Passes (some_params d G seen ps) = Params d G seen ps
Passes (some_values G k es) = (ns : List ℕ) × Values G k es ns
Passes (an_item unit U t) = (V : FileScope) × Item unit U t.node V
Passes (some_items unit U ts) = (V : FileScope) × Items unit U ts V
Passes (a_unit p) = (t : TypedProgram) × Accepts p t

-- each of them has types
abbrev pub AllPass : List Judgement → Type 0
AllPass [] = Unit {0}
AllPass (x ∷ xs) = Passes x × AllPass xs

-- The first fault of what is judged: all its parts before one have types, and in that one, or in the
-- test that it is, the fault stands.
pub data FirstFault : Judgement → TypeFault → Type 0 where
  fails : {b : Blame} {f : TypeFault} → b ≡ Some f → (f ≡ Memory → ⊥) → FirstFault (a_test b) f
  inside : {a : Judgement} {f : TypeFault} (front : List Judgement) (x : Judgement) (back : List Judgement)
      → parts a ≡ front ++ x ∷ back → AllPass front → FirstFault x f → FirstFault a f

-- the fault of a unit
abbrev pub UnitFails : Program → TypeFault → Type 0
UnitFails p f = FirstFault (a_unit p) f
