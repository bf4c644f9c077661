use Rattle.std.proofs.Common.{ap, arith, ◌∙◌, append_assoc}
use Rattle.std.specs.Prelude.{option_map}
use Rattle.trips_listing_text.specs.Scalars.{names_of, names_in_node, names_in_first, else_names}
use Rattle.trips_listing_text.proofs.Nodes.{stmt_is, nothing_more, on-Declare, on-Plain, on-Compound, on-If, on-While}
use Rattle.trips_listing_text.proofs.Nodes.{on-Do, on-For, on-Switch, on-Break, on-Continue, on-Return, on-Nothing}
use Rattle.trips_listing_text.proofs.Nodes.{on-First, on-Locals}
use Rattle.trips_listing_text.proofs.scalars.+names.Goals as goal

pub put_first-returns-in-Nothing : goal.put_first-returns-in-Nothing
put_first-returns-in-Nothing t c = nothing_more c.args.names.now _ (ap names_in_first c.in-Nothing.is ∙ on-Nothing)

pub put_first-returns-in-First : goal.put_first-returns-in-First
put_first-returns-in-First t c =
    nothing_more c.args.names.now _ (ap names_in_first c.in-First.is ∙ on-First c.in-First.field-0)

pub put_first-returns-in-Locals : goal.put_first-returns-in-Locals
put_first-returns-in-Locals t c =
    let h = ap names_in_first c.in-Locals.is ∙ on-Locals c.in-Locals.all in grind (arith, h)

pub put_node-returns-in-Declare : goal.put_node-returns-in-Declare
put_node-returns-in-Declare t c =
    let h = ap names_in_node c.in-Declare.is
    ∙ on-Declare c.in-Declare.kind c.in-Declare.name c.in-Declare.size c.in-Declare.init in grind (arith, h)

pub put_node-returns-in-Plain : goal.put_node-returns-in-Plain
put_node-returns-in-Plain t c =
    nothing_more c.args.names.now _ (ap names_in_node c.in-Plain.is ∙ on-Plain c.in-Plain.field-0)

pub put_node-returns-in-Compound : goal.put_node-returns-in-Compound
put_node-returns-in-Compound t c =
    let h = ap names_in_node c.in-Compound.is ∙ on-Compound c.in-Compound.all in grind (arith, h)

pub put_node-returns-in_ok-put_stmt-in-If : goal.put_node-returns-in_ok-put_stmt-in-If
put_node-returns-in_ok-put_stmt-in-If t c =
    let h = ap names_in_node c.in-If.is ∙ on-If c.in-If.test c.in-If.yes c.in-If.no in
    let k = append_assoc c.args.names.now (names_of c.in-If.yes) (else_names (option_map names_of c.in-If.no)) in
    grind (arith, h, k)

pub put_node-returns-in-While : goal.put_node-returns-in-While
put_node-returns-in-While t c =
    let h = ap names_in_node c.in-While.is ∙ on-While c.in-While.test c.in-While.body in grind (arith, h)

pub put_node-returns-in-Do : goal.put_node-returns-in-Do
put_node-returns-in-Do t c = let h = ap names_in_node c.in-Do.is ∙ on-Do c.in-Do.body c.in-Do.test in grind (arith, h)

pub put_node-returns-in_ok-put_first-in-For : goal.put_node-returns-in_ok-put_first-in-For
put_node-returns-in_ok-put_first-in-For t c =
    let h = ap names_in_node c.in-For.is ∙ on-For c.in-For.init c.in-For.test c.in-For.post c.in-For.body in
    let k = append_assoc c.args.names.now (names_in_first c.in-For.init) (names_of c.in-For.body) in
    grind (arith, h, k)

pub put_node-returns-in-Switch : goal.put_node-returns-in-Switch
put_node-returns-in-Switch t c =
    let h = ap names_in_node c.in-Switch.is ∙ on-Switch c.in-Switch.test c.in-Switch.sections in grind (arith, h)

pub put_node-returns-in-Break : goal.put_node-returns-in-Break
put_node-returns-in-Break t c = nothing_more c.args.names.now _ (ap names_in_node c.in-Break.is ∙ on-Break)

pub put_node-returns-in-Continue : goal.put_node-returns-in-Continue
put_node-returns-in-Continue t c = nothing_more c.args.names.now _ (ap names_in_node c.in-Continue.is ∙ on-Continue)

pub put_node-returns-in-Return : goal.put_node-returns-in-Return
put_node-returns-in-Return t c =
    nothing_more c.args.names.now _ (ap names_in_node c.in-Return.is ∙ on-Return c.in-Return.field-0)

pub put_stmt-returns : goal.put_stmt-returns
put_stmt-returns t c = let h = stmt_is c.args.s.now in grind (arith, h)
