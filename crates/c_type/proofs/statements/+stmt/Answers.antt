use Rattle.std.proofs.Common.{◌≡◌, ℕ, rules, arith, subst, sym, ap, ◌∙◌, List, Option, None}
use Rattle.std.specs.Prelude.{Result, Ok, Err}
use Rattle.std.specs.Result.{IsErrAnd}
use Rattle.std.proofs.lemmas.Grind.{common_steps}
use Rattle.c_tree.specs.declared.token.Kind.{Kind}
use Rattle.c_tree.specs.declared.tree.Label.{Label}
use Rattle.c_tree.specs.declared.tree.StmtNode.TheVariants as node
use Rattle.c_tree.specs.declared.typed.TypedSection.{TypedSection}
use Rattle.c_type_expr.specs.declared.fault.TypeFault.{TypeFault}
use Rattle.c_type_expr.specs.Blames.{Blame, first}
use Rattle.c_type_expr.specs.inside.Says.{Stops}
use Rattle.c_type.specs.declared.state.State.{State}
use Rattle.c_type.specs.States.{at}
use Rattle.c_type.specs.LeftOut.{tree_if}
use Rattle.c_type.specs.declared.state.Around.{Around}
use Rattle.c_type.specs.Statements.{part, rest_fault, tail_fault, SectionPart}
use Rattle.c_type.specs.inside.Statements.{section_of}
use Rattle.c_type.specs.Statements.{labels_fault, all_fault, section_fault}
use Rattle.c_type.specs.inside.Runs.{Moves, RunSection}
use Rattle.c_type.proofs.Measures.{switch_size}
use Rattle.c_type.proofs.Nodes.{if_next, while_next, stopped}
use Rattle.c_type.proofs.statements.+stmt.Goals as goal

pub either-returns-in_err-yes : goal.either-returns-in_err-yes
either-returns-in_err-yes t c =
    let e = if_next c.args.offset c.args.test c.args.yes c.args.no c.args.around c.args.state.now
    c.in_ok-test.ensures.0 in
    stopped (part (at c.args.offset (node.If c.args.test c.args.yes c.args.no))) c.args.around c.args.state.now
    c.legs.new.state c.from_residual-in_err-yes.result c.in_err-yes.field-0.0
    c.from_residual-in_err-yes.ensures.1
    (subst (λ (f : Blame). Stops f c.in_err-yes.field-0.0) (sym e) c.in_err-yes.ensures)

pub while_stmt-returns-in_err-body : goal.while_stmt-returns-in_err-body
while_stmt-returns-in_err-body t c =
    let e = while_next c.args.offset c.args.test c.args.body c.args.around c.args.state.now c.in_ok-test.ensures.0 in
    first_of (grind (arith, common_steps, e), search (rules, e), grind (arith, e))

-- an error that is handed on keeps its cause
moves_stopped : {A : Type 0} (f : Blame) (t : A) (wanted new : State) (r : Result A TypeFault) (e : TypeFault)
    → IsErrAnd r (λ x. x ≡ e) → Stops f e → Moves f t wanted new r
moves_stopped f t wanted new (Ok u) e h s = absurd h
moves_stopped f t wanted new (Err x) e h s = subst (Stops f) (sym h) s

pub rest_of-returns-in_err-tail : goal.rest_of-returns-in_err-tail
rest_of-returns-in_err-tail t c =
    let v = c.args.state.now in
    let p = part c.args.rest.tail.body in
    let tail = tail_fault c.args.rest.tail.post p v in
    moves_stopped (rest_fault c.args.rest.test c.args.rest.tail.post p v)
    (tree_if c.args.rest.test v.names, (tree_if c.args.rest.tail.post v.names, p.tree v)) (p.after v)
    c.tail_of.new.state c.from_residual-in_err-tail.result c.in_err-tail.field-0.0
    c.from_residual-in_err-tail.ensures.1
    (subst (λ (f : Blame). Stops f c.in_err-tail.field-0.0)
    (sym (ap (λ (f : Blame). first f tail) c.in_ok-test.ensures.0)) c.in_err-tail.ensures)

-- an error in the statements of a section is that of the section
section_stopped : (k : Kind) (seen : List (Option ℕ)) (x : SectionPart) (b : Around) (old new : State)
    (after : List (Option ℕ)) (r : Result TypedSection TypeFault) (e : TypeFault) → IsErrAnd r (λ x. x ≡ e)
    → labels_fault k seen x.labels old.names ≡ None → Stops (all_fault x.body b old) e
    → RunSection k seen x b old new after r
section_stopped k seen x b old new after (Ok t) e h f s = absurd h
section_stopped k seen x b old new after (Err y) e h f s =
    subst (Stops (section_fault k seen x b old)) (sym h)
    (subst (λ (g : Blame). Stops g e) (sym (ap (λ (g : Blame). first g (all_fault x.body b old)) f)) s)

pub section-returns-in_err-body : goal.section-returns-in_err-body
section-returns-in_err-body t c =
    section_stopped c.args.kind c.args.seen.now (section_of c.args.s) c.args.around c.args.state.now
    c.all.new.state c.section_labels.new.seen c.from_residual-in_err-body.result c.in_err-body.field-0.0
    c.from_residual-in_err-body.ensures.1
    (ap (λ (ls : List Label). labels_fault c.args.kind c.args.seen.now ls c.args.state.now.names)
    (sym c.as_slice.ensures.value) ∙ c.in_ok-labels.ensures.0)
    c.in_err-body.ensures

pub type_stmt-switch-requires : goal.type_stmt-switch-requires
type_stmt-switch-requires t c =
    let n = switch_size c.args.s c.in-Switch.test c.in-Switch.sections c.in-Switch.is in
    (grind (arith, n, c.decreases), tt)
