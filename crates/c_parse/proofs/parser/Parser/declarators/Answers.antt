use Rattle.std.proofs.Common.{◌+◌, length, refl}
use Rattle.c_tree.specs.declared.token.Mark.TheVariants as marks
use Rattle.c_grammar.specs.inside.ModelExpressions.{inside}
use Rattle.c_grammar.specs.inside.ModelLocals.{decl_of}
use Rattle.c_parse.proofs.ParserLoops.{listed_keeps}
use Rattle.c_parse.proofs.Nested.{decls_init}
use Rattle.c_parse.proofs.parser.Parser.declarators.Goals as goal

pub loop-turn-init : goal.loop-turn-init
loop-turn-init c =
    decls_init c.args.left (length c.args.self.now.rest.now + 1) c.args.kind c.args.found.now
    c.args.self.now.rest.now refl

pub loop-turn-preserved : goal.loop-turn-preserved
loop-turn-preserved c =
    listed_keeps marks.Semicolon (decl_of (inside c.args.left) c.args.kind) (length c.args.self.now.rest.now + 1)
    c.loop-turn._turn c.loop-turn.found _ c.loop-turn.self.rest.now c.declarator.new.self.rest.now _
    c.in_ok-declarator.declarator _
    c.loop-turn-test.true c.loop-turn.invariant c.in_ok-declarator.ensures (cc) c.in_ok-push.ensures.ok
    c.advance.ensures
