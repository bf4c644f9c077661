use Rattle.std.proofs.Common.{◌≡◌, ◌≤◌, ◌+◌, ◌-◌, ◌*◌, length, false}
use Rattle.c_grammar.specs.inside.Parsing.{listed}
use Rattle.c_grammar.specs.inside.ModelExpressions.{inside, loop, suffixes, assignment_of}
use Rattle.c_grammar.specs.inside.ModelExpressions.{expression_of, postfix_of}
use Rattle.c_grammar.specs.inside.ModelPrimaries.{arg_list_of}
use Rattle.c_tree.specs.declared.token.Mark.TheVariants as marks
use Rattle.c_parse.specs.inside.Reads.{opened, behind}
use Rattle.c_parse.specs.inside.Operands.{climb, joined_of}
use Rattle.c_parse.proofs.parser.Parser.+expression.Given as goal

abbrev pub decreases-index : goal.decreases-index
decreases-index l = 64 * l.left

abbrev pub decreases-second_index : goal.decreases-second_index
decreases-second_index l = 64 * l.left + 1

abbrev pub decreases-after_index : goal.decreases-after_index
decreases-after_index l = 64 * l.left + 2

abbrev pub decreases-element : goal.decreases-element
decreases-element l = 64 * l.left + 3

abbrev pub decreases-call : goal.decreases-call
decreases-call l = 64 * l.left

abbrev pub decreases-group : goal.decreases-group
decreases-group l = 64 * l.left

abbrev pub decreases-signed_by : goal.decreases-signed_by
decreases-signed_by l = 64 * l.left

abbrev pub decreases-increased : goal.decreases-increased
decreases-increased l = 64 * l.left

abbrev pub decreases-decreased : goal.decreases-decreased
decreases-decreased l = 64 * l.left

abbrev pub decreases-converted : goal.decreases-converted
decreases-converted l = 64 * l.left

abbrev pub decreases-chosen : goal.decreases-chosen
decreases-chosen l = 64 * l.left

abbrev pub decreases-assigned : goal.decreases-assigned
decreases-assigned l = 64 * l.left

abbrev pub decreases-after_name : goal.decreases-after_name
decreases-after_name l = 64 * l.left + 4

abbrev pub decreases-named : goal.decreases-named
decreases-named l = 64 * l.left + 5

abbrev pub decreases-primary : goal.decreases-primary
decreases-primary l = 64 * l.left + 6

abbrev pub decreases-postfix : goal.decreases-postfix
decreases-postfix l = 64 * l.left + 7

abbrev pub decreases-unary : goal.decreases-unary
decreases-unary l = 64 * l.left + 8

abbrev pub decreases-cast : goal.decreases-cast
decreases-cast l = 64 * l.left + 9

abbrev pub decreases-operand : goal.decreases-operand
decreases-operand l = 64 * l.left + 10

abbrev pub decreases-joined : goal.decreases-joined
decreases-joined l = 64 * l.left + 12 + 3 * l.level

abbrev pub decreases-behind_cast : goal.decreases-behind_cast
decreases-behind_cast l = 64 * l.left + 13 + 3 * l.level

abbrev pub decreases-binary : goal.decreases-binary
decreases-binary l = 64 * l.left + 14 + 3 * l.level

abbrev pub decreases-choice : goal.decreases-choice
decreases-choice l = 64 * l.left + 1

abbrev pub decreases-conditional : goal.decreases-conditional
decreases-conditional l = 64 * l.left + 45

abbrev pub decreases-assign : goal.decreases-assign
decreases-assign l = 64 * l.left + 1

abbrev pub decreases-assignment_from : goal.decreases-assignment_from
decreases-assignment_from l = 64 * l.left + 45

abbrev pub decreases-assignment : goal.decreases-assignment
decreases-assignment l = 64 * l.left + 46

abbrev pub decreases-expression : goal.decreases-expression
decreases-expression l = 64 * l.left + 47

abbrev pub decreases-arg_list : goal.decreases-arg_list
decreases-arg_list l = 64 * l.left + 47

abbrev pub decreases-args : goal.decreases-args
decreases-args l = 64 * l.left + 48

abbrev pub invariant-arg_list-loop-turn : goal.invariant-arg_list-loop-turn
invariant-arg_list-loop-turn l =
    behind l.found (listed marks.RightParen false (assignment_of (inside l.left)) (l.turns - l._turn) l.self.rest.now)
    ≡ arg_list_of (opened l.left) l.fn.self.rest.now

abbrev pub invariant-postfix-loop-op : goal.invariant-postfix-loop-op
invariant-postfix-loop-op l =
    suffixes (length l.self.rest.now) l.whole l.self.rest.now ≡ postfix_of (inside l.left) l.fn.self.rest.now

abbrev pub decreases-postfix-loop-op : goal.decreases-postfix-loop-op
decreases-postfix-loop-op l = length l.self.rest.now

abbrev pub invariant-joined-loop-of : goal.invariant-joined-loop-of
invariant-joined-loop-of l =
    (climb l.left (l.level - l.below) l.below l.whole l.self.rest.now ≡ joined_of l.left l.level
    l.fn.first l.fn.self.rest.now) × (l.below ≤ l.level)

abbrev pub decreases-joined-loop-of : goal.decreases-joined-loop-of
decreases-joined-loop-of l = length l.self.rest.now

abbrev pub invariant-expression-loop-self : goal.invariant-expression-loop-self
invariant-expression-loop-self l =
    loop (assignment_of (inside l.left)) 15 (length l.self.rest.now) l.whole l.self.rest.now ≡ expression_of
    (inside l.left) l.fn.self.rest.now

abbrev pub decreases-expression-loop-self : goal.decreases-expression-loop-self
decreases-expression-loop-self l = length l.self.rest.now
