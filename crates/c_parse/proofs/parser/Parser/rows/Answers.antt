use Rattle.std.proofs.Common.{◌+◌, ◌-◌, length, ap, ◌∙◌, refl, List, true}
use Rattle.c_tree.specs.declared.tree.Expr.{Expr}
use Rattle.c_tree.specs.declared.token.Mark.TheVariants as marks
use Rattle.c_grammar.specs.inside.Parsing.{listed}
use Rattle.c_grammar.specs.inside.ModelExpressions.{inside}
use Rattle.c_grammar.specs.inside.ModelGlobals.{row_of}
use Rattle.c_parse.specs.inside.Reads.{behind}
use Rattle.c_parse.proofs.Lists.{rows_init, trailed_keeps}
use Rattle.c_parse.proofs.parser.Parser.rows.Goals as goal

pub loop-turn-init : goal.loop-turn-init
loop-turn-init c =
    ap (λ (found : List (List Expr)). behind found (listed marks.RightBrace true (row_of (inside c.args.left))
    (length c.args.self.now.rest.now + 1 - 0) c.args.self.now.rest.now)) c.new-found.ensures.value
    ∙ rows_init c.args.left (length c.args.self.now.rest.now + 1) c.args.self.now.rest.now refl

pub loop-turn-preserved : goal.loop-turn-preserved
loop-turn-preserved c =
    trailed_keeps marks.RightBrace (row_of (inside c.args.left)) (length c.args.self.now.rest.now + 1)
    c.loop-turn._turn c.loop-turn.found _ c.loop-turn.self.rest.now c.row.new.self.rest.now _
    c.in_ok-row.row _
    c.loop-turn-test.true c.loop-turn.invariant c.in_ok-row.ensures (cc) c.in_ok-push.ensures.ok c.advance.ensures
    (cc)
