use Rattle.std.proofs.Common.{◌≡◌, ◌+◌, ◌-◌, ◌*◌}
use Rattle.c_grammar.specs.inside.Parsing.{many, repeated}
use Rattle.c_grammar.specs.inside.ModelExpressions.{inside}
use Rattle.c_grammar.specs.inside.ModelBegins.{begins_statement}
use Rattle.c_grammar.specs.inside.ModelSwitches.{body_of, section_of, sections_of}
use Rattle.c_grammar.specs.inside.ModelEntries.{entry_of, entries_of}
use Rattle.c_grammar.specs.inside.ModelStatements.{below_at}
use Rattle.c_tree.specs.declared.token.Mark.TheVariants as marks
use Rattle.c_parse.specs.inside.Reads.{behind}
use Rattle.c_parse.proofs.parser.Parser.+statement.Given as goal

abbrev pub decreases-inner : goal.decreases-inner
decreases-inner l = 16 * l.left

abbrev pub decreases-branch : goal.decreases-branch
decreases-branch l = 16 * l.left + 1

abbrev pub decreases-one : goal.decreases-one
decreases-one l = 16 * l.left + 1

abbrev pub decreases-entry : goal.decreases-entry
decreases-entry l = 16 * l.left + 2

abbrev pub decreases-entries : goal.decreases-entries
decreases-entries l = 16 * l.left + 3

abbrev pub decreases-compound : goal.decreases-compound
decreases-compound l = 16 * l.left + 4

abbrev pub decreases-with_else : goal.decreases-with_else
decreases-with_else l = 16 * l.left + 2

abbrev pub decreases-after_if : goal.decreases-after_if
decreases-after_if l = 16 * l.left + 3

abbrev pub decreases-if_statement : goal.decreases-if_statement
decreases-if_statement l = 16 * l.left + 4

abbrev pub decreases-while_statement : goal.decreases-while_statement
decreases-while_statement l = 16 * l.left + 4

abbrev pub decreases-do_statement : goal.decreases-do_statement
decreases-do_statement l = 16 * l.left + 4

abbrev pub decreases-for_statement : goal.decreases-for_statement
decreases-for_statement l = 16 * l.left + 4

abbrev pub decreases-section_body : goal.decreases-section_body
decreases-section_body l = 16 * l.left + 1

abbrev pub decreases-section : goal.decreases-section
decreases-section l = 16 * l.left + 2

abbrev pub decreases-sections : goal.decreases-sections
decreases-sections l = 16 * l.left + 3

abbrev pub decreases-switch_statement : goal.decreases-switch_statement
decreases-switch_statement l = 16 * l.left + 4

abbrev pub decreases-statement : goal.decreases-statement
decreases-statement l = 16 * l.left + 6

abbrev pub invariant-entries-loop-turn : goal.invariant-entries-loop-turn
invariant-entries-loop-turn l =
    behind l.found (many marks.RightBrace (entry_of (inside l.left) (below_at l.left)) (l.turns - l._turn)
    l.self.rest.now) ≡ entries_of (inside l.left) (below_at l.left) l.fn.self.rest.now

abbrev pub invariant-section_body-loop-turn : goal.invariant-section_body-loop-turn
invariant-section_body-loop-turn l =
    behind l.found (repeated begins_statement (below_at l.left).inner (l.turns - l._turn) l.self.rest.now) ≡ body_of
    (inside l.left) (below_at l.left) l.fn.self.rest.now

abbrev pub invariant-sections-loop-turn : goal.invariant-sections-loop-turn
invariant-sections-loop-turn l =
    behind l.found (many marks.RightBrace (section_of (inside l.left) (below_at l.left)) (l.turns - l._turn)
    l.self.rest.now) ≡ sections_of (inside l.left) (below_at l.left) l.fn.self.rest.now
