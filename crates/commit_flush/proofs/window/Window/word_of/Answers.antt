use Rattle.std.proofs.Common.{sym, ◌∙◌, arith}
use Rattle.commit_flush_spec.specs.Older.{committed}
use Rattle.commit_flush_spec.specs.inside.Numbered.{seen_at}
use Rattle.frame_state.specs.inside.Told.{read_register}
use Rattle.commit_flush.proofs.FrameFacts.{has_age}
use Rattle.commit_flush.proofs.LookFacts.{word_some, read_below}
use Rattle.commit_flush.proofs.AskFacts.{told_of}
use Rattle.commit_flush.proofs.window.Window.word_of.Goals as goal

pub returns-then-register-lt128 : goal.returns-then-register-lt128
returns-then-register-lt128 c = λ f e.
    let w = c.args.self.now.window in
    let a = has_age c.args.frame w.frames f e in
    let r = c.in_ok-register.ensures.value
    ∙ told_of (read_register c.args.read) _ _ _ _ c.image.ensures.value (c.in_ok-phase.ensures.found ∙ e) in
    c.look.ensures a.0 a.1
    ∙ word_some (seen_at (committed w.state) w.frames c.args.frame) _ c.in_ok-register.register (sym r)

pub returns-else-register-lt128 : goal.returns-else-register-lt128
returns-else-register-lt128 c = λ f e.
    let w = c.args.self.now.window in
    let r = c.in_ok-register.ensures.value
    ∙ told_of (read_register c.args.read) _ _ _ _ c.image.ensures.value (c.in_ok-phase.ensures.found ∙ e) in
    absurd (omega (
      arith,
      read_below f.code (c.in_ok-phase.ensures.runnable f e).fits c.args.read c.in_ok-register.register (sym r),
    ))
