use Rattle.std.proofs.Common.{◌+◌, ◌-◌, length, ap, ◌∙◌, refl, List, false}
use Rattle.c_tree.specs.declared.tree.Param.{Param}
use Rattle.c_tree.specs.declared.token.Mark.TheVariants as marks
use Rattle.c_grammar.specs.inside.Parsing.{listed}
use Rattle.c_grammar.specs.inside.ModelExpressions.{inside}
use Rattle.c_grammar.specs.inside.ModelParameters.{param_of}
use Rattle.c_parse.specs.inside.Reads.{behind}
use Rattle.c_parse.proofs.ParserLoops.{listed_keeps}
use Rattle.c_parse.proofs.Lists.{params_init}
use Rattle.c_parse.proofs.parser.Parser.param_list.Goals as goal

pub loop-turn-init : goal.loop-turn-init
loop-turn-init c =
    ap (λ (found : List Param). behind found (listed marks.RightParen false (param_of (inside c.args.left))
    (length c.args.self.now.rest.now + 1 - 0) c.args.self.now.rest.now)) c.new-found.ensures.value
    ∙ params_init c.args.left (length c.args.self.now.rest.now + 1) c.args.self.now.rest.now refl

pub loop-turn-preserved : goal.loop-turn-preserved
loop-turn-preserved c =
    listed_keeps marks.RightParen (param_of (inside c.args.left)) (length c.args.self.now.rest.now + 1)
    c.loop-turn._turn c.loop-turn.found _ c.loop-turn.self.rest.now c.param.new.self.rest.now _ c.in_ok-param.param _
    c.loop-turn-test.true c.loop-turn.invariant c.in_ok-param.ensures (cc) c.in_ok-push.ensures.ok c.advance.ensures
