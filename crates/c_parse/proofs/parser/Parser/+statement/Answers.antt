use Rattle.std.proofs.Common.{◌+◌, ◌-◌, length, sym, ap, ◌∙◌, subst, refl, List}
use Rattle.c_tree.specs.declared.tree.Section.{Section}
use Rattle.c_tree.specs.declared.tree.Stmt.{Stmt}
use Rattle.c_tree.specs.declared.token.Mark.TheVariants as marks
use Rattle.c_grammar.specs.inside.Parsing.{Out, many, repeated}
use Rattle.c_grammar.specs.inside.ModelExpressions.{inside}
use Rattle.c_grammar.specs.inside.ModelStatements.{below_at}
use Rattle.c_grammar.specs.inside.ModelBegins.{begins_statement}
use Rattle.c_grammar.specs.inside.ModelSwitches.{section_of}
use Rattle.c_grammar.specs.inside.ModelEntries.{entry_of}
use Rattle.c_parse.specs.inside.Reads.{Reads, behind}
use Rattle.c_parse.proofs.Nested.{inner_none, inner_some, entries_init, many_keeps, many_puts}
use Rattle.c_parse.proofs.Nested.{repeated_keeps, body_init}
use Rattle.c_parse.proofs.Nested.{sections_init}
use Rattle.c_parse.proofs.parser.Parser.+statement.Goals as goal

pub entries-loop-turn-init : goal.entries-loop-turn-init
entries-loop-turn-init t c =
    ap (λ (found : List Stmt). behind found (many marks.RightBrace
    (entry_of (inside c.args.left) (below_at c.args.left)) (length c.args.self.now.rest.now + 1 - 0)
    c.args.self.now.rest.now)) c.new-found.ensures.value
    ∙ entries_init c.args.left (length c.args.self.now.rest.now + 1) c.args.self.now.rest.now refl

pub entries-loop-turn-preserved : goal.entries-loop-turn-preserved
entries-loop-turn-preserved t c =
    many_puts marks.RightBrace (entry_of (inside c.args.left) (below_at c.args.left))
    (length c.args.self.now.rest.now + 1) c.loop-turn._turn c.loop-turn.found _ c.loop-turn.self.rest.now
    c.entry.new.self.rest.now _ c.loop-turn-test.true c.loop-turn.invariant (cc) c.in_ok-entry.ensures

pub inner-returns-then-left-eq0 : goal.inner-returns-then-left-eq0
inner-returns-then-left-eq0 t c =
    subst (λ (o : Out Stmt). Reads o c.barred.result c.barred.new.self.rest.now)
    (sym (inner_none c.args.left c.args.self.now.rest.now c.if-left-eq0.true)) c.barred.ensures

pub inner-returns : goal.inner-returns
inner-returns t c =
    subst (λ (o : Out Stmt). Reads o c.statement.result c.statement.new.self.rest.now)
    (sym (inner_some c.args.left c.args.self.now.rest.now c.if-left-eq0.false)) c.statement.ensures

pub section_body-loop-turn-init : goal.section_body-loop-turn-init
section_body-loop-turn-init t c =
    ap (λ (found : List Stmt). behind found (repeated begins_statement (below_at c.args.left).inner
    (length c.args.self.now.rest.now + 1 - 0) c.args.self.now.rest.now)) c.new-found.ensures.value
    ∙ body_init c.args.left (length c.args.self.now.rest.now + 1) c.args.self.now.rest.now refl

pub section_body-loop-turn-preserved : goal.section_body-loop-turn-preserved
section_body-loop-turn-preserved t c =
    repeated_keeps begins_statement (below_at c.args.left).inner (length c.args.self.now.rest.now + 1)
    c.loop-turn._turn c.loop-turn.found _ c.loop-turn.self.rest.now c.inner.new.self.rest.now
    c.in_ok-statement.statement _
    c.loop-turn-test.true c.loop-turn.invariant c.in_ok-statement.ensures (cc) c.in_ok-push.ensures.ok

pub sections-loop-turn-init : goal.sections-loop-turn-init
sections-loop-turn-init t c =
    ap (λ (found : List Section). behind found (many marks.RightBrace
    (section_of (inside c.args.left) (below_at c.args.left)) (length c.args.self.now.rest.now + 1 - 0)
    c.args.self.now.rest.now)) c.new-found.ensures.value
    ∙ sections_init c.args.left (length c.args.self.now.rest.now + 1) c.args.self.now.rest.now refl

pub sections-loop-turn-preserved : goal.sections-loop-turn-preserved
sections-loop-turn-preserved t c =
    many_keeps marks.RightBrace (section_of (inside c.args.left) (below_at c.args.left))
    (length c.args.self.now.rest.now + 1) c.loop-turn._turn c.loop-turn.found _ c.loop-turn.self.rest.now
    c.section.new.self.rest.now c.in_ok-more.more _
    c.loop-turn-test.true c.loop-turn.invariant (cc) c.in_ok-more.ensures c.in_ok-append.ensures.ok
