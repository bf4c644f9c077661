use Rattle.std.proofs.Common.{◌+◌, ◌*◌, drop}
use Rattle.flat_lower.proofs.EmitWeights.{count, count_all}
use Rattle.flat_lower.proofs.EmitArguments.{SoFar}
use Rattle.flat_lower.proofs.expressions.+value.Given as goal

abbrev pub decreases-put_value : goal.decreases-put_value
decreases-put_value l = 8 * count l.e.now

abbrev pub decreases-value : goal.decreases-value
decreases-value l = 8 * count l.e.now + 1

abbrev pub decreases-tested : goal.decreases-tested
decreases-tested l = 8 * count l.e.now + 1

abbrev pub decreases-put_and : goal.decreases-put_and
decreases-put_and l = 8 * count l.e.now + 2

abbrev pub decreases-put_or : goal.decreases-put_or
decreases-put_or l = 8 * count l.e.now + 2

abbrev pub decreases-put_operation : goal.decreases-put_operation
decreases-put_operation l = 8 * count l.e.now + 1

abbrev pub decreases-put_strict : goal.decreases-put_strict
decreases-put_strict l = 8 * count l.e.now + 2

abbrev pub decreases-put_right : goal.decreases-put_right
decreases-put_right l = 8 * count l.e.now + 3

abbrev pub decreases-put_index : goal.decreases-put_index
decreases-put_index l = 8 * count l.e.now

abbrev pub decreases-put_bumping : goal.decreases-put_bumping
decreases-put_bumping l = 8 * count l.e.now + 1

abbrev pub decreases-put_operand : goal.decreases-put_operand
decreases-put_operand l = 8 * count l.e.now + 1

abbrev pub decreases-put_conversion : goal.decreases-put_conversion
decreases-put_conversion l = 8 * count l.e.now + 1

abbrev pub decreases-put_element_value : goal.decreases-put_element_value
decreases-put_element_value l = 8 * count l.index.now + 1

abbrev pub decreases-put_args : goal.decreases-put_args
decreases-put_args l = 8 * count_all l.args.now + 1

abbrev pub decreases-put_called : goal.decreases-put_called
decreases-put_called l = 8 * count_all l.args.now + 2

abbrev pub decreases-put_both : goal.decreases-put_both
decreases-put_both l = 8 * (count l.left.now + count l.right.now) + 4

abbrev pub decreases-put_choice : goal.decreases-put_choice
decreases-put_choice l = 8 * (count l.test.now + (count l.yes.now + count l.no.now)) + 2

abbrev pub decreases-put_assignment : goal.decreases-put_assignment
decreases-put_assignment l = 8 * (count l.left.now + count l.right.now) + 1

abbrev pub decreases-put_comma : goal.decreases-put_comma
decreases-put_comma l = 8 * (count l.left.now + count l.right.now) + 1

abbrev pub invariant-put_args-loop-arg : goal.invariant-put_args-loop-arg
invariant-put_args-loop-arg l = SoFar l.places l.d l.at l.args
    (drop l.arg-index l.args) l.fn.code l.code l.vars

abbrev pub decreases-put_indexes : goal.decreases-put_indexes
decreases-put_indexes l = 8 * (count l.row.now + count l.index.now) + 1

abbrev pub decreases-put_row_element : goal.decreases-put_row_element
decreases-put_row_element l = 8 * (count l.row.now + count l.index.now) + 2
