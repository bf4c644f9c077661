use Rattle.std.proofs.Common.{ap, sym, ◌∙◌}
use Rattle.commit_flush.specs.inside.Banked.{word_read}
use Rattle.commit_flush.proofs.PhaseFacts.{look_is}
use Rattle.commit_flush.proofs.window.Window.look.Goals as goal

pub returns : goal.returns
returns c = λ a e.
    c.word_read.ensures ∙ ap word_read c.read.ensures
    ∙ look_is c.self.invariant.sound _ c.self.view_is c.args.frame c.in_ok-age.age c.args.register
    c.register-word.result
    (sym c.in_ok-age.ensures.value) c.register-word.ensures.value
