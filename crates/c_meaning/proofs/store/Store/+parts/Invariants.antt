use Rattle.std.proofs.Common.{◌≡◌, ◌+◌, ◌*◌, ◌++◌, length, map, Some}
use Rattle.c_meaning_spec.specs.Task.{Turn}
use Rattle.c_meaning_spec.specs.Call.{arguments}
use Rattle.c_meaning_spec.specs.Statement.{sequence, locals, run_from, bodies}
use Rattle.c_meaning_spec.specs.Telling.{calling, telling}
use Rattle.c_meaning.specs.inside.View.{behind, view}
use Rattle.c_meaning.specs.inside.Given.{words}
use Rattle.c_meaning.proofs.store.Store.+parts.Given as goal

abbrev pub decreases-value_of : goal.decreases-value_of
decreases-value_of l = 32 * l.depth + 1

abbrev pub decreases-deeper_value : goal.decreases-deeper_value
decreases-deeper_value l = 32 * l.depth

abbrev pub decreases-whole_value : goal.decreases-whole_value
decreases-whole_value l = 32 * l.depth + 12

abbrev pub decreases-spent : goal.decreases-spent
decreases-spent l = 32 * l.depth + 10

abbrev pub decreases-converted : goal.decreases-converted
decreases-converted l = 32 * l.depth + 11

abbrev pub decreases-opened : goal.decreases-opened
decreases-opened l = 32 * l.depth + 9

abbrev pub decreases-indexed_value : goal.decreases-indexed_value
decreases-indexed_value l = 32 * l.depth + 2

abbrev pub decreases-row_value : goal.decreases-row_value
decreases-row_value l = 32 * l.depth + 3

abbrev pub decreases-unary_value : goal.decreases-unary_value
decreases-unary_value l = 32 * l.depth + 2

abbrev pub decreases-cast_value : goal.decreases-cast_value
decreases-cast_value l = 32 * l.depth + 2

abbrev pub decreases-binary_value : goal.decreases-binary_value
decreases-binary_value l = 32 * l.depth + 4

abbrev pub decreases-operation_value : goal.decreases-operation_value
decreases-operation_value l = 32 * l.depth + 3

abbrev pub decreases-right_value : goal.decreases-right_value
decreases-right_value l = 32 * l.depth + 2

abbrev pub decreases-second_index : goal.decreases-second_index
decreases-second_index l = 32 * l.depth + 2

abbrev pub decreases-assign_after_row : goal.decreases-assign_after_row
decreases-assign_after_row l = 32 * l.depth + 6

abbrev pub decreases-assign_in_row : goal.decreases-assign_in_row
decreases-assign_in_row l = 32 * l.depth + 5

abbrev pub decreases-compound_in_row : goal.decreases-compound_in_row
decreases-compound_in_row l = 32 * l.depth + 4

abbrev pub decreases-assign_object : goal.decreases-assign_object
decreases-assign_object l = 32 * l.depth + 2

abbrev pub decreases-bump_after_row : goal.decreases-bump_after_row
decreases-bump_after_row l = 32 * l.depth + 2

abbrev pub decreases-truth_value : goal.decreases-truth_value
decreases-truth_value l = 32 * l.depth + 2

abbrev pub decreases-and_value : goal.decreases-and_value
decreases-and_value l = 32 * l.depth + 3

abbrev pub decreases-or_value : goal.decreases-or_value
decreases-or_value l = 32 * l.depth + 3

abbrev pub decreases-same_value : goal.decreases-same_value
decreases-same_value l = 32 * l.depth + 2

abbrev pub decreases-choice_value : goal.decreases-choice_value
decreases-choice_value l = 32 * l.depth + 3

abbrev pub decreases-comma_value : goal.decreases-comma_value
decreases-comma_value l = 32 * l.depth + 3

abbrev pub decreases-assign_value : goal.decreases-assign_value
decreases-assign_value l = 32 * l.depth + 8

abbrev pub decreases-assign_name : goal.decreases-assign_name
decreases-assign_name l = 32 * l.depth + 5

abbrev pub decreases-assign_scalar : goal.decreases-assign_scalar
decreases-assign_scalar l = 32 * l.depth + 2

abbrev pub decreases-assign_row_value : goal.decreases-assign_row_value
decreases-assign_row_value l = 32 * l.depth + 7

abbrev pub decreases-put_value : goal.decreases-put_value
decreases-put_value l = 32 * l.depth + 3

abbrev pub decreases-bump_value : goal.decreases-bump_value
decreases-bump_value l = 32 * l.depth + 4

abbrev pub decreases-assign_element : goal.decreases-assign_element
decreases-assign_element l = 32 * l.depth + 6

abbrev pub decreases-assign_indexed : goal.decreases-assign_indexed
decreases-assign_indexed l = 32 * l.depth + 5

abbrev pub decreases-compound_element : goal.decreases-compound_element
decreases-compound_element l = 32 * l.depth + 4

abbrev pub decreases-assign_in_array : goal.decreases-assign_in_array
decreases-assign_in_array l = 32 * l.depth + 2

abbrev pub decreases-assign_other : goal.decreases-assign_other
decreases-assign_other l = 32 * l.depth + 4

abbrev pub decreases-bump_element : goal.decreases-bump_element
decreases-bump_element l = 32 * l.depth + 2

abbrev pub decreases-bump_row_value : goal.decreases-bump_row_value
decreases-bump_row_value l = 32 * l.depth + 3

abbrev pub decreases-first_argument : goal.decreases-first_argument
decreases-first_argument l = 32 * l.depth + 6

abbrev pub decreases-call_value : goal.decreases-call_value
decreases-call_value l = 32 * l.depth + 5

abbrev pub decreases-begin_call : goal.decreases-begin_call
decreases-begin_call l = 32 * l.depth + 4

abbrev pub decreases-begin_function : goal.decreases-begin_function
decreases-begin_function l = 32 * l.depth + 3

abbrev pub decreases-begin_with : goal.decreases-begin_with
decreases-begin_with l = 32 * l.depth + 2

abbrev pub decreases-run : goal.decreases-run
decreases-run l = 32 * l.depth

abbrev pub decreases-begun : goal.decreases-begun
decreases-begun l = 32 * l.depth + 31

abbrev pub decreases-run_declare : goal.decreases-run_declare
decreases-run_declare l = 32 * l.depth + 22

abbrev pub decreases-run_initial : goal.decreases-run_initial
decreases-run_initial l = 32 * l.depth + 21

abbrev pub decreases-run_plain : goal.decreases-run_plain
decreases-run_plain l = 32 * l.depth + 21

abbrev pub decreases-run_return : goal.decreases-run_return
decreases-run_return l = 32 * l.depth + 21

abbrev pub decreases-run_for : goal.decreases-run_for
decreases-run_for l = 32 * l.depth + 25

abbrev pub decreases-run_locals : goal.decreases-run_locals
decreases-run_locals l = 32 * l.depth + 24

abbrev pub decreases-run_loop : goal.decreases-run_loop
decreases-run_loop l = 32 * l.depth + 23

abbrev pub decreases-run_turn : goal.decreases-run_turn
decreases-run_turn l = 32 * l.depth + 22

abbrev pub decreases-run_test : goal.decreases-run_test
decreases-run_test l = 32 * l.depth + 21

abbrev pub decreases-run_body : goal.decreases-run_body
decreases-run_body l = 32 * l.depth + 20

abbrev pub decreases-run_post : goal.decreases-run_post
decreases-run_post l = 32 * l.depth + 19

abbrev pub decreases-run_do : goal.decreases-run_do
decreases-run_do l = 32 * l.depth + 24

abbrev pub decreases-run_switch : goal.decreases-run_switch
decreases-run_switch l = 32 * l.depth + 23

abbrev pub decreases-run_labels : goal.decreases-run_labels
decreases-run_labels l = 32 * l.depth + 22

abbrev pub decreases-run_sections : goal.decreases-run_sections
decreases-run_sections l = 32 * l.depth + 21

abbrev pub decreases-run_all : goal.decreases-run_all
decreases-run_all l = 32 * l.depth + 21

abbrev pub decreases-run_if : goal.decreases-run_if
decreases-run_if l = 32 * l.depth + 21

-- what is left of the call is what it was to do
abbrev pub invariant-call_value-loop-e : goal.invariant-call_value-loop-e
invariant-call_value-loop-e l =
    (map Some (words l.list) ≡ l.list)
    × (arguments (calling l.token (telling l.program)) l.program l.callee l.rest (words l.list) (view l.self)
    ≡ arguments (calling l.token (telling l.program)) l.program l.callee l.fn.rest (words l.fn.list) (view l.fn.self))

abbrev pub decreases-call_value-loop-e : goal.decreases-call_value-loop-e
decreases-call_value-loop-e l = length l.rest

-- what is left is what was to be done
abbrev pub invariant-run_all-loop-st : goal.invariant-run_all-loop-st
invariant-run_all-loop-st l =
    sequence (telling l.program) l.rest (view l.self)
    ≡ sequence (telling l.program) l.fn.all (view l.fn.self)

abbrev pub decreases-run_all-loop-st : goal.decreases-run_all-loop-st
decreases-run_all-loop-st l = length l.rest

abbrev pub invariant-run_locals-loop-st : goal.invariant-run_locals-loop-st
invariant-run_locals-loop-st l =
    locals (telling l.program) l.rest (behind l.turn.test) (behind l.turn.post) l.turn.body.now (view l.self)
    ≡ locals (telling l.program) l.fn.all (behind l.turn.test) (behind l.turn.post) l.turn.body.now (view l.fn.self)

abbrev pub decreases-run_locals-loop-st : goal.decreases-run_locals-loop-st
decreases-run_locals-loop-st l = length l.rest

abbrev pub invariant-run_loop-loop-round : goal.invariant-run_loop-loop-round
invariant-run_loop-loop-round l =
    telling l.program (Turn (behind l.turn.test) (behind l.turn.post) l.turn.body.now) (view l.self)
    ≡ telling l.program (Turn (behind l.turn.test) (behind l.turn.post) l.turn.body.now) (view l.fn.self)

abbrev pub invariant-run_sections-statements : goal.invariant-run_sections-statements
invariant-run_sections-statements l =
    run_from (telling l.program) (l.rest ++ bodies l.later) (view l.self)
    ≡ run_from (telling l.program) (l.fn.first ++ bodies l.fn.behind) (view l.fn.self)

abbrev pub decreases-run_sections-statements : goal.decreases-run_sections-statements
decreases-run_sections-statements l = length (l.rest ++ bodies l.later) + length l.later
