use Rattle.std.proofs.Common.{sym, ap, ◌∙◌}
use Rattle.trips_isa.specs.Outcomes.{writes_from, all_stores}
use Rattle.commit_flush_spec.specs.Frames.{at}
use Rattle.frame_state.specs.inside.Held.{Held, as_exit}
use Rattle.frame_state.specs.inside.Effects.{exit_or_first}
use Rattle.frame_state.proofs.OutputFacts.{outputs_are}
use Rattle.frame_state.proofs.body.Body.outputs.Goals as goal

pub returns : goal.returns
returns c = record {
  value = outputs_are c.args.block.now c.args.self.now _ _ (as_exit c.exit_or_first-exit.result)
      (c.write_tokens-writes.ensures.value c.args.block.now.writes.items (sym c.len-count.ensures.value)
      ∙ ap (λ (h : Held). writes_from (at h.spots) 0 c.args.block.now.writes.items) c.self.view_is)
      (c.stores_of-store_count.ensures.value ∙ ap (λ (h : Held). all_stores (at h.stores)) c.self.view_is)
      (c.exit_or_first-exit.ensures.value ∙ ap (λ (h : Held). exit_or_first h.exit) c.self.view_is);
}
