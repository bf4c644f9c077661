use Rattle.std.proofs.Common.{false, sym, ap, ◌∙◌}
use Rattle.std.specs.Prelude.{is_some}
use Rattle.frame_state.specs.inside.Held.{running}
use Rattle.commit_flush.specs.inside.Places.{frame_of}
use Rattle.commit_flush.specs.inside.Observed.{address_by, address_in, waits_in}
use Rattle.commit_flush.proofs.ObserveFacts.{idle_address, idle_waits, waits_told}
use Rattle.commit_flush.proofs.window.Window.address_of.Goals as goal

pub returns-in-None : goal.returns-in-None
returns-in-None c = record {
  value = sym (idle_address c.args.number
      (frame_of c.args.frame c.args.self.now.window.frames) c.in-None.ensures.value);
  waits = sym (idle_waits c.args.number
      (frame_of c.args.frame c.args.self.now.window.frames) c.in-None.ensures.value);
}

pub returns-in-Some : goal.returns-in-Some
returns-in-Some c = record {
  value = c.address_by.ensures c.in-Some.block.now false
      ∙ ap (address_by (running c.in-Some.block.now c.in-Some.held.now)) c.request.ensures.value
      ∙ sym (ap (address_in c.args.number) c.in-Some.ensures.value);
  waits = ap is_some (c.address_by.ensures c.in-Some.block.now false
      ∙ ap (address_by (running c.in-Some.block.now c.in-Some.held.now)) c.request.ensures.value)
      ∙ waits_told c.args.self.now.image.blocks c.args.self.now.budget c.args.self.now.window
      c.keeps_invariant.ensures.window c.args.frame c.args.number c.in-Some.block.now c.in-Some.held.now
      c.in-Some.ensures.value
      ∙ sym (ap (waits_in c.args.number) c.in-Some.ensures.value);
}
