use Rattle.std.proofs.Common.{◌+◌, length, refl}
use Rattle.c_tree.specs.declared.token.Mark.TheVariants as marks
use Rattle.c_grammar.specs.inside.ModelExpressions.{inside}
use Rattle.c_grammar.specs.inside.ModelGlobals.{global_of}
use Rattle.c_parse.proofs.ParserLoops.{listed_keeps}
use Rattle.c_parse.proofs.Lists.{globals_init}
use Rattle.c_parse.proofs.parser.Parser.global_list.Goals as goal

pub loop-turn-init : goal.loop-turn-init
loop-turn-init c =
    globals_init c.args.left (length c.args.self.now.rest.now + 1) c.args.kind c.args.found.now
    c.args.self.now.rest.now refl

pub loop-turn-preserved : goal.loop-turn-preserved
loop-turn-preserved c =
    listed_keeps marks.Semicolon (global_of (inside c.args.left) c.args.kind) (length c.args.self.now.rest.now + 1)
    c.loop-turn._turn c.loop-turn.found _ c.loop-turn.self.rest.now c.global.new.self.rest.now _
    c.in_ok-global.global _
    c.loop-turn-test.true c.loop-turn.invariant c.in_ok-global.ensures (cc) c.in_ok-push.ensures.ok c.advance.ensures
