use Rattle.std.proofs.Common.{◌+◌, ◌-◌, length, ap, ◌∙◌, refl, List}
use Rattle.c_tree.specs.Limits.{most_nesting}
use Rattle.c_tree.specs.declared.tree.Top.{Top}
use Rattle.c_grammar.specs.inside.Parsing.{to_end}
use Rattle.c_grammar.specs.inside.ModelExpressions.{inside}
use Rattle.c_grammar.specs.inside.ModelStatements.{compound_of, below_at}
use Rattle.c_grammar.specs.inside.ModelUnits.{item_of}
use Rattle.c_parse.specs.inside.Reads.{behind}
use Rattle.c_parse.proofs.Lists.{unit_init, end_puts}
use Rattle.c_parse.proofs.parser.Parser.unit.Goals as goal

pub loop-turn-init : goal.loop-turn-init
loop-turn-init c =
    ap (λ (found : List Top). behind found
    (to_end (item_of (inside most_nesting) (compound_of (inside (most_nesting - 1)) (below_at (most_nesting - 1))))
    (length c.args.self.now.rest.now + 1 - 0) c.args.self.now.rest.now)) c.new-found.ensures.value
    ∙ unit_init (most_nesting - 1) (length c.args.self.now.rest.now + 1) c.args.self.now.rest.now refl

pub loop-turn-preserved : goal.loop-turn-preserved
loop-turn-preserved c =
    end_puts (item_of (inside most_nesting) (compound_of (inside (most_nesting - 1)) (below_at (most_nesting - 1))))
    (length c.args.self.now.rest.now + 1)
    c.loop-turn._turn c.loop-turn.found _ c.loop-turn.self.rest.now c.item.new.self.rest.now _
    c.loop-turn-test.true c.loop-turn.invariant c.in_ok-item.ensures (cc)
