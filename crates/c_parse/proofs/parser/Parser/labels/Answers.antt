use Rattle.std.proofs.Common.{◌+◌, ◌-◌, length, ap, ◌∙◌, refl, List}
use Rattle.c_tree.specs.declared.tree.Label.{Label}
use Rattle.c_grammar.specs.inside.Parsing.{repeated}
use Rattle.c_grammar.specs.inside.ModelExpressions.{inside}
use Rattle.c_grammar.specs.inside.ModelBegins.{begins_label}
use Rattle.c_grammar.specs.inside.ModelSwitches.{label_of}
use Rattle.c_parse.specs.inside.Reads.{behind}
use Rattle.c_parse.proofs.Nested.{labels_init, repeated_keeps}
use Rattle.c_parse.proofs.parser.Parser.labels.Goals as goal

pub loop-turn-init : goal.loop-turn-init
loop-turn-init c =
    ap (λ (found : List Label). behind found (repeated begins_label (label_of (inside c.args.left))
    (length c.args.self.now.rest.now + 1 - 0) c.args.self.now.rest.now)) c.new-found.ensures.value
    ∙ labels_init c.args.left (length c.args.self.now.rest.now + 1) c.args.self.now.rest.now refl

pub loop-turn-preserved : goal.loop-turn-preserved
loop-turn-preserved c =
    repeated_keeps begins_label (label_of (inside c.args.left)) (length c.args.self.now.rest.now + 1)
    c.loop-turn._turn c.loop-turn.found _ c.loop-turn.self.rest.now c.section_label.new.self.rest.now
    c.in_ok-label.label _
    c.loop-turn-test.true c.loop-turn.invariant c.in_ok-label.ensures (cc) c.in_ok-push.ensures.ok
