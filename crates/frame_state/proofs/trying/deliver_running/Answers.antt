use Rattle.std.proofs.Common.{ap, sym, ◌∙◌}
use Rattle.commit_flush_spec.specs.Frames.{at, is_target}
use Rattle.frame_state.specs.inside.Held.{Held, running}
use Rattle.frame_state.proofs.TryFacts.{goes_free}
use Rattle.frame_state.proofs.trying.deliver_running.Goals as goal

pub deliver_to-requires-clause-free : goal.deliver_to-requires-clause-free
deliver_to-requires-clause-free c =
    let b = c.args.block.now in
    let h : Held = c.args.frame.now in
    goes_free (running b h) c.args.place c.in-Some.token c.requires.free
    (c.in-Some.ensures.value ∙ ap (λ (k : Held). at k.places c.args.place) c.held.ensures)
    (ap is_target (sym c.target_of-to.ensures.value) ∙ sym c.if-is_target.ensures)
