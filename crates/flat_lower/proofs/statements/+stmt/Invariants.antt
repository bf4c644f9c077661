use Rattle.std.proofs.Common.{◌≡◌, ◌+◌, ◌*◌, drop}
use Rattle.flat_lower.specs.inside.Emitted.{first_of, other_of}
use Rattle.flat_lower.proofs.EmitCounts.{StmtsSoFar, stmts_in_all, stmts_in_first, count_stmt}
use Rattle.flat_lower.proofs.EmitCounts.{count_block, count_sections, SectionsSoFar}
use Rattle.flat_lower.proofs.statements.+stmt.Given as goal

abbrev pub decreases-put_stmt : goal.decreases-put_stmt
decreases-put_stmt l = 4 * count_stmt l.s.now

abbrev pub decreases-stmt : goal.decreases-stmt
decreases-stmt l = 4 * count_stmt l.s.now + 1

abbrev pub decreases-put_stmts : goal.decreases-put_stmts
decreases-put_stmts l = 4 * count_block l.all.now + 1

abbrev pub decreases-stmt_if : goal.decreases-stmt_if
decreases-stmt_if l = 4 * stmts_in_all (other_of l.s.now) + 2

abbrev pub decreases-put_choice : goal.decreases-put_choice
decreases-put_choice l = 4 * (count_stmt l.yes.now + stmts_in_all (other_of l.no.now)) + 3

abbrev pub decreases-put_while_loop : goal.decreases-put_while_loop
decreases-put_while_loop l = 4 * count_stmt l.body.now + 2

abbrev pub decreases-put_do_loop : goal.decreases-put_do_loop
decreases-put_do_loop l = 4 * count_stmt l.body.now + 2

abbrev pub decreases-put_first : goal.decreases-put_first
decreases-put_first l = 4 * stmts_in_first (first_of l.first.now)

abbrev pub decreases-put_for_loop : goal.decreases-put_for_loop
decreases-put_for_loop l = 4 * (stmts_in_first (first_of l.first.now) + count_stmt l.body.now) + 2

abbrev pub invariant-put_stmts-loop-s : goal.invariant-put_stmts-loop-s
invariant-put_stmts-loop-s l = StmtsSoFar l.places l.around l.all (drop l.s-index l.all) l.fn.code l.code

abbrev pub decreases-put_section : goal.decreases-put_section
decreases-put_section l = 4 * count_block l.all.now + 2

abbrev pub decreases-put_sections : goal.decreases-put_sections
decreases-put_sections l = 4 * count_sections l.sections.now + 3

abbrev pub decreases-put_switch : goal.decreases-put_switch
decreases-put_switch l = 4 * count_sections l.sections.now + 4

abbrev pub invariant-put_sections-loop-section : goal.invariant-put_sections-loop-section
invariant-put_sections-loop-section l =
    SectionsSoFar l.places l.around l.n l.sections (drop l.section-index l.sections) l.fn.code l.code
    × (l.n ≡ l.section-index)
