use Rattle.std.proofs.Common.{◌≡◌, ◌+◌, ◌*◌, ◌≤◌, ◌++◌, [], map, max, length}
use Rattle.c_tree.specs.declared.tree.ForInit.{size-ForInit}
use Rattle.c_tree.specs.declared.tree.Stmt.{size-Stmt}
use Rattle.c_type.specs.Statements.{part, all_fault, all_trees, all_after}
use Rattle.c_type.specs.Statements.{statements_in, sections_fault, sections_trees, sections_after}
use Rattle.c_type.specs.inside.Statements.{section_of}
use Rattle.c_type.proofs.Nodes.{deepest, deepest_in, else_size}
use Rattle.c_type.proofs.statements.+stmt.Given as goal

abbrev pub decreases-type_stmt : goal.decreases-type_stmt
decreases-type_stmt l = 6 * size-Stmt l.s

abbrev pub decreases-boxed : goal.decreases-boxed
decreases-boxed l = 6 * size-Stmt l.s + 1

abbrev pub decreases-all : goal.decreases-all
decreases-all l = 6 * deepest l.body + 2

abbrev pub decreases-block : goal.decreases-block
decreases-block l = 6 * deepest l.body + 3

abbrev pub decreases-else_leg : goal.decreases-else_leg
decreases-else_leg l = 6 * else_size l.no + 2

abbrev pub decreases-legs : goal.decreases-legs
decreases-legs l = 6 * max (size-Stmt l.yes) (else_size l.no) + 3

abbrev pub decreases-either : goal.decreases-either
decreases-either l = 6 * max (size-Stmt l.yes) (else_size l.no) + 4

abbrev pub decreases-while_stmt : goal.decreases-while_stmt
decreases-while_stmt l = 6 * size-Stmt l.body + 2

abbrev pub decreases-do_stmt : goal.decreases-do_stmt
decreases-do_stmt l = 6 * size-Stmt l.body + 2

abbrev pub decreases-beginning : goal.decreases-beginning
decreases-beginning l = 6 * size-ForInit l.init

abbrev pub decreases-tail_of : goal.decreases-tail_of
decreases-tail_of l = 6 * size-Stmt l.tail.body + 2

abbrev pub decreases-rest_of : goal.decreases-rest_of
decreases-rest_of l = 6 * size-Stmt l.rest.tail.body + 3

abbrev pub decreases-for_stmt : goal.decreases-for_stmt
decreases-for_stmt l = 6 * max (size-ForInit l.init) (size-Stmt l.rest.tail.body) + 4

abbrev pub decreases-section : goal.decreases-section
decreases-section l = 6 * deepest (statements_in l.s) + 3

abbrev pub decreases-some_sections : goal.decreases-some_sections
decreases-some_sections l = 6 * deepest_in l.sections + 4

abbrev pub decreases-switch : goal.decreases-switch
decreases-switch l = 6 * deepest_in l.sections + 5

abbrev pub decreases-some_sections-loop-s : goal.decreases-some_sections-loop-s
decreases-some_sections-loop-s l = length l.rest

abbrev pub invariant-some_sections-loop-s : goal.invariant-some_sections-loop-s
invariant-some_sections-loop-s l = record {
  same_fault : sections_fault l.kind [] (map section_of l.fn.sections) l.around l.fn.state
      ≡ sections_fault l.kind l.seen (map section_of l.rest) l.around l.state;
  same_trees : sections_trees l.kind (map section_of l.fn.sections) l.fn.state
      ≡ l.found ++ sections_trees l.kind (map section_of l.rest) l.state;
  same_after : sections_after (map section_of l.fn.sections) l.fn.state
      ≡ sections_after (map section_of l.rest) l.state;
  no_deeper : deepest_in l.rest ≤ deepest_in l.fn.sections;
}

abbrev pub decreases-all-loop-stmt : goal.decreases-all-loop-stmt
decreases-all-loop-stmt l = length l.rest

abbrev pub invariant-all-loop-stmt : goal.invariant-all-loop-stmt
invariant-all-loop-stmt l = record {
  same_fault : all_fault (map part l.fn.body) l.around l.fn.state ≡ all_fault (map part l.rest) l.around l.state;
  same_trees : all_trees (map part l.fn.body) l.fn.state ≡ l.found ++ all_trees (map part l.rest) l.state;
  same_after : all_after (map part l.fn.body) l.fn.state ≡ all_after (map part l.rest) l.state;
  no_deeper : deepest l.rest ≤ deepest l.fn.body;
}
