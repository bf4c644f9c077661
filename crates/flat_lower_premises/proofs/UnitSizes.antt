-- A pass through a function of a typed program costs no more than the unit has nodes, and the program has at
-- most twice as many; so the text's tokens bound both, and the blocks of its flat program.
use Rattle.std.proofs.Common.{◌+◌, ◌*◌, ◌≤◌, max, List, [], ◌∷◌, length, arith}
use Rattle.c_tree.specs.declared.tree.Stmt.{Stmt}
use Rattle.c_tree.specs.declared.tree.Top.{Top}
use Rattle.c_tree.specs.declared.tree.TopNode.{TopNode}
use Rattle.c_tree.specs.declared.typed.TypedStmt.{TypedStmt}
use Rattle.c_tree.specs.declared.typed.TypedStmt.TheVariants as typed
use Rattle.c_tree.specs.declared.typed.TypedForInit.TheOpen as level
use Rattle.c_type.specs.declared.file_scope.FileScope.{FileScope}
use Rattle.c_type.specs.declared.state.State.{State}
use Rattle.c_type_rules.specs.Units.{Body, outermost, other, typed_function, Item, include}
use Rattle.c_type_rules.specs.Units.{include_again, global, prototype, definition, Items, no_item}
use Rattle.c_type_rules.specs.Units.{one_item, accepts}
use Rattle.flat_lower.specs.inside.TreeViews.{source_of}
use Rattle.flat_lower_premises.specs.inside.Most.{most_of}
use Rattle.flat_lower_premises.specs.inside.Nodes.{stmt_nodes, top_nodes, unit_nodes}
use Rattle.flat_lower_premises.specs.inside.Sizes.{ProgramsAreSmall, ProgramsHaveRoom, PassesAreShort, BlocksAreFew}
use Rattle.flat_lower_premises.proofs.CodeWeights.{few_blocks}
use Rattle.flat_lower_premises.proofs.TreeSizes.{nodes-Compound}
use Rattle.flat_lower_premises.proofs.SpelledSizes.{units_small}
use Rattle.flat_lower_premises.proofs.TypedTreeSizes.{body_cost, body_nodes, at_stmt, most, most_append}
use Rattle.flat_lower_premises.proofs.TypedTreeSizes.{funcs_nodes, funcs_append}
use Rattle.flat_lower_premises.proofs.StatementBounds.{types_few, all_few}

body_few : {v w : State} {s : Stmt} {t : TypedStmt} → Body v s t w
    → (body_cost t ≤ stmt_nodes s) × (1 + body_nodes t ≤ 2 * stmt_nodes s)
body_few (outermost {l = l} {ss = ss} {ts = ts} x) =
    let n = nodes-Compound l ss in let c = all_few x in
    let m = at_stmt _ (level.Compound ts) (typed.rolls-Compound ts) in
    (omega (arith, c.0, m.0), omega (arith, c.1, m.1))
body_few (other i x) = types_few x

item_few : {T : List Top} {U V : FileScope} {n : TopNode} → Item T U n V
    → (most V.functions ≤ max (most U.functions) (top_nodes n))
    × (funcs_nodes V.functions ≤ funcs_nodes U.functions + 2 * top_nodes n)
item_few (include i j k x) = (omega arith, omega arith)
item_few (include_again i) = (omega arith, omega arith)
item_few (global i j k x) = (omega arith, omega arith)
item_few (prototype k x) = (omega arith, omega arith)
item_few (definition {U = U} {params = params} {t = t} {v = v} k h x) =
    let c = body_few x in
    let m = most_append U.functions (typed_function (length params) t v ∷ []) in
    let n = funcs_append U.functions (typed_function (length params) t v ∷ []) in
    (omega (arith, c.0, m), omega (arith, c.1, n))

items_few : {T : List Top} {U V : FileScope} {ts : List Top} → Items T U ts V
    → (most V.functions ≤ max (most U.functions) (unit_nodes ts))
    × (funcs_nodes V.functions ≤ funcs_nodes U.functions + 2 * unit_nodes ts)
items_few no_item = (omega arith, omega arith)
items_few (one_item x y) =
    let h = item_few x in let i = items_few y in (omega (arith, h.0, i.0), omega (arith, h.1, i.1))

-- the source of a typed program has at most twice the nodes of the unit
pub programs_small : ProgramsAreSmall
programs_small p _ (accepts x m) = let h = items_few x in omega (arith, h.1)

-- a text of no more tokens than the lexer gives is not too long to be lowered
pub programs_have_room : ProgramsHaveRoom
programs_have_room ts p t unit few accepted =
    let h = units_small ts p.items unit in let i = programs_small p t accepted in omega arith

-- a pass through a function of the typed program costs no more than the text has tokens
pub passes_short : PassesAreShort
unfolding most_of
passes_short ts p t unit (accepts x m) =
    let h = items_few x in let i = units_small ts p.items unit in omega (arith, h.0, i)

-- at most twelve blocks a token are made of its flat program
pub blocks_few : BlocksAreFew
blocks_few ts p t unit accepted =
    let h = units_small ts p.items unit in
    let i = programs_small p t accepted in
    let j = few_blocks (source_of t) in
    omega (arith, h, i, j)
