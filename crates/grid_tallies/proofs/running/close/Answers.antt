use Rattle.std.proofs.Common.{length, ap, ◌∙◌}
use Rattle.std.proofs.lemmas.List.{length-map}
use Rattle.commit_flush_spec.specs.Frames.{Frame}
use Rattle.grid_parts.specs.Seen.{seen}
use Rattle.grid_tallies.proofs.RunFacts.{closing_heard}
use Rattle.grid_tallies.proofs.running.close.Goals as goal

pub returns-clause-heard : goal.returns-clause-heard
returns-clause-heard g c =
    let w = g.V.Windows.held c.args.grid.now.window in
    closing_heard (seen w c.args.grid.now.state) c.len-frames.result c.args.told.now c.add.new.self
    (c.len-frames.ensures.value ∙ ap length c.numbers.ensures.value
    ∙ length-map w.frames (λ (f : Frame). f.number)) c.add.ensures
