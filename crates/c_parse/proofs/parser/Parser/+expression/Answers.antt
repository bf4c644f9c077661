use Rattle.std.proofs.Common.{ℕ, ◌+◌, ◌-◌, length, arith, rules, sym, ap, ◌∙◌, subst, refl, List, false, Option, Some}
use Rattle.std.proofs.lemmas.Grind.{common_steps}
use Rattle.c_tree.specs.declared.tree.Expr.{Expr}
use Rattle.c_tree.specs.declared.token.Mark.TheVariants as marks
use Rattle.c_grammar.specs.inside.Parsing.{Out, and_then, listed}
use Rattle.c_tree.specs.declared.tree.BinaryOp.{BinaryOp}
use Rattle.c_grammar.specs.Operators.{op, comma, joined}
use Rattle.c_grammar.specs.Tokens.{Tokens}
use Rattle.c_parse.specs.inside.Reads.{Fails, IsAssigner, Outside, Inside, joins_by, behind}
use Rattle.c_grammar.specs.inside.ModelExpressions.{inside, loop, binary_of, assignment_of}
use Rattle.c_grammar.specs.inside.ModelOperators.{seen, assigner_for}
use Rattle.c_parse.proofs.ParserLoops.{listed_keeps, arg_list_init, assign_with, commas_of, comma_on, comma_shorter}
use Rattle.c_parse.specs.inside.Operands.{climb, assignment_from}
use Rattle.c_parse.proofs.Operands.{assignment_is, closed_operand, closed_whole}
use Rattle.c_parse.proofs.Climbs.{joined_start, joined_none, joins, climb_end, climb_turn, climb_fails, climb_shorter}
use Rattle.c_parse.proofs.parser.Parser.+expression.Goals as goal

pub arg_list-loop-turn-init : goal.arg_list-loop-turn-init
arg_list-loop-turn-init t c =
    ap (λ (found : List Expr). behind found (listed marks.RightParen false (assignment_of (inside c.args.left))
    (length c.args.self.now.rest.now + 1 - 0) c.args.self.now.rest.now)) c.new-found.ensures.value
    ∙ arg_list_init c.args.left (length c.args.self.now.rest.now + 1) c.args.self.now.rest.now refl

pub arg_list-loop-turn-preserved : goal.arg_list-loop-turn-preserved
arg_list-loop-turn-preserved t c =
    listed_keeps marks.RightParen (assignment_of (inside c.args.left)) (length c.args.self.now.rest.now + 1)
    c.loop-turn._turn c.loop-turn.found _ c.loop-turn.self.rest.now c.assignment.new.self.rest.now _ c.in_ok-arg.arg _
    c.loop-turn-test.true c.loop-turn.invariant c.in_ok-arg.ensures (cc) c.in_ok-push.ensures.ok c.advance.ensures

pub assign-returns-in-Some : goal.assign-returns-in-Some
assign-returns-in-Some t c =
    assign_with c.args.left c.args.to c.args.self.now.rest.now c.assigned.new.self.rest.now c.assigned.result
    (c.in-Some.mark, c.in-Some.op) _ refl
    (subst (λ (e : Expr). IsAssigner (Some (c.in-Some.mark, c.in-Some.op)) (seen (assigner_for e)
    c.args.self.now.rest.now)) c.get.ensures.value c.in-Some.ensures) (λ s e f. c.assigned.ensures s e f)

pub joined-returns : goal.joined-returns
joined-returns t c =
    sym c.loop-of.invariant.0 ∙ climb_end c.args.left c.args.level c.loop-of.below (omega arith)
    c.loop-of.invariant.1 c.loop-of.whole c.loop-of.self.rest.now
    (subst (λ (o : Option (ℕ × BinaryOp)). Outside c.loop-of.below c.args.level o) c.operator.ensures
    c.in_default.ensures)

pub expression-returns-in_err-whole : goal.expression-returns-in_err-whole
expression-returns-in_err-whole t c =
    rw (commas_of c.args.left c.args.self.now.rest.now) (first_of (search rules, grind (arith, common_steps)))

pub expression-loop-self-init : goal.expression-loop-self-init
expression-loop-self-init t c =
    sym (commas_of c.args.left c.args.self.now.rest.now
    ∙ ap (λ (o : Out Expr). and_then o (λ a ts. loop (assignment_of (inside c.args.left)) 15 (length ts) a ts))
    c.in_ok-whole.ensures)

pub expression-loop-self-smaller : goal.expression-loop-self-smaller
expression-loop-self-smaller t c =
    comma_shorter c.args.left c.loop-self.self.rest.now c.assignment-in-loop-self.new.self.rest.now
    c.in_ok-right.right
    (cc) (ap (assignment_of (inside c.args.left)) (sym c.advance.ensures) ∙ c.in_ok-right.ensures)

pub expression-loop-self-preserved : goal.expression-loop-self-preserved
expression-loop-self-preserved t c =
    let rest = c.assignment-in-loop-self.new.self.rest.now in
    ap (λ (w : Expr). loop (assignment_of (inside c.args.left)) 15 (length rest) w rest)
    (c.in_ok-whole-2.ensures
    ∙ ap (λ (k : ℕ). joined k comma c.loop-self.whole c.in_ok-right.right) c.offset-place.ensures)
    ∙ sym (comma_on c.args.left c.loop-self.whole c.in_ok-right.right c.loop-self.self.rest.now rest (cc)
    (ap (assignment_of (inside c.args.left)) (sym c.advance.ensures) ∙ c.in_ok-right.ensures))
    ∙ c.loop-self.invariant

pub joined-loop-of-init : goal.joined-loop-of-init
joined-loop-of-init t c = (
  joined_start c.args.left c.args.level c.args.first c.args.self.now.rest.now,
  omega arith,
)

pub joined-loop-of-smaller : goal.joined-loop-of-smaller
joined-loop-of-smaller t c =
    climb_shorter c.args.left c.args.level c.loop-of.below (omega arith) c.loop-of.whole c.loop-of.self.rest.now
    (c.in-Some.of, c.in-Some.op)
    (subst (λ (o : Option (ℕ × BinaryOp)). Inside c.loop-of.below c.args.level o (c.in-Some.of, c.in-Some.op))
    c.operator.ensures c.in-Some.ensures) c.in_ok-right.right c.binary.new.self.rest.now
    (ap (binary_of (inside c.args.left) c.in-Some.of) (sym c.advance.ensures) ∙ c.in_ok-right.ensures)

pub joined-loop-of-preserved : goal.joined-loop-of-preserved
joined-loop-of-preserved t c =
    let found : Inside c.loop-of.below c.args.level (seen joins_by c.loop-of.self.rest.now)
    (c.in-Some.of, c.in-Some.op) =
    subst (λ (o : Option (ℕ × BinaryOp)). Inside c.loop-of.below c.args.level o (c.in-Some.of, c.in-Some.op))
    c.operator.ensures c.in-Some.ensures
    in (
      ap (λ (w : Expr). climb c.args.left (c.args.level - c.in-Some.of) c.in-Some.of w c.binary.new.self.rest.now)
          (c.in_ok-whole.ensures
          ∙ ap (λ (k : ℕ). joined k (op c.in-Some.op) c.loop-of.whole c.in_ok-right.right) c.offset-place.ensures)
          ∙ sym (climb_turn c.args.left c.args.level c.loop-of.below (omega arith) c.loop-of.whole
          c.loop-of.self.rest.now (c.in-Some.of, c.in-Some.op) found c.in_ok-right.right c.binary.new.self.rest.now
          (ap (binary_of (inside c.args.left) c.in-Some.of) (sym c.advance.ensures) ∙ c.in_ok-right.ensures))
          ∙ c.loop-of.invariant.0,
      omega (arith, found.2),
    )

pub joined-returns-in_err-right : goal.joined-returns-in_err-right
joined-returns-in_err-right t c =
    let found : Inside c.loop-of.below c.args.level (seen joins_by c.loop-of.self.rest.now)
    (c.in-Some.of, c.in-Some.op) =
    subst (λ (o : Option (ℕ × BinaryOp)). Inside c.loop-of.below c.args.level o (c.in-Some.of, c.in-Some.op))
    c.operator.ensures c.in-Some.ensures
    in
    let stops =
    climb_fails c.args.left c.args.level c.loop-of.below (omega arith) c.loop-of.whole c.loop-of.self.rest.now
    (c.in-Some.of, c.in-Some.op) found c.in_err-right.field-0.0 c.binary.new.self.rest.now
    (subst (λ (ts : Tokens). Fails (binary_of (inside c.args.left) c.in-Some.of ts) c.in_err-right.field-0.0
    c.binary.new.self.rest.now) c.advance.ensures c.in_err-right.ensures)
    in
    let fails =
    subst (λ (o : Out Expr). Fails o c.in_err-right.field-0.0 c.binary.new.self.rest.now) c.loop-of.invariant.0 stops
    in
    first_of (search rules, grind (arith, common_steps))

pub behind_cast-returns-in-None : goal.behind_cast-returns-in-None
behind_cast-returns-in-None t c =
    joined_none c.args.left c.args.level (omega arith) c.args.first c.args.self.now.rest.now
    (subst (λ (o : Option (ℕ × BinaryOp)). Outside 0 c.args.level o) c.operator.ensures c.in-None.ensures)

pub binary-returns-in_err-first : goal.binary-returns-in_err-first
binary-returns-in_err-first t c =
    rw (joins c.args.left c.args.level c.args.self.now.rest.now)
    (first_of (search rules, grind (arith, common_steps)))

pub binary-returns : goal.binary-returns
binary-returns t c =
    rw (joins c.args.left c.args.level c.args.self.now.rest.now) (rw c.in_ok-first.ensures c.behind_cast.ensures)

pub assignment-returns-in_err-first : goal.assignment-returns-in_err-first
assignment-returns-in_err-first t c =
    rw (assignment_is c.args.left c.args.self.now.rest.now) (first_of (search rules, grind (arith, common_steps)))

pub assignment-returns-then-is_closed : goal.assignment-returns-then-is_closed
assignment-returns-then-is_closed t c =
    assignment_is c.args.left c.args.self.now.rest.now
    ∙ ap (λ (o : Out Expr). and_then o (λ a ts. assignment_from c.args.left a ts)) c.in_ok-first.ensures
    ∙ closed_operand c.args.left c.in_ok-first.first c.operand.new.self.rest.now (cc)

pub assignment-returns : goal.assignment-returns
assignment-returns t c =
    rw (assignment_is c.args.left c.args.self.now.rest.now) (rw c.in_ok-first.ensures c.assignment_from.ensures)

pub assignment_from-returns-then-is_closed : goal.assignment_from-returns-then-is_closed
assignment_from-returns-then-is_closed t c =
    closed_whole c.args.left c.args.first c.in_ok-joined.joined c.args.self.now.rest.now
    c.behind_cast.new.self.rest.now c.in_ok-joined.ensures (cc)
