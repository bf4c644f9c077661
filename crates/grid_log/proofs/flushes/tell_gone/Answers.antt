use Rattle.std.proofs.Common.{length, drop, ap, ◌∙◌, subst}
use Rattle.std.proofs.lemmas.List.{length-map}
use Rattle.commit_flush_spec.specs.Frames.{Frame}
use Rattle.grid_events.specs.Plays.{block_of}
use Rattle.grid_log.specs.Events.{why_of}
use Rattle.grid_log.specs.Logs.{Logged}
use Rattle.grid_log.specs.inside.Telling.{flushed_by, given_up}
use Rattle.grid_log.proofs.Logging.{logged_both}
use Rattle.grid_log.proofs.flushes.tell_gone.Goals as goal

pub returns : goal.returns
returns g c =
    let w = g.V.Windows.held c.args.grid.now.window in
    let why = why_of c.args.cause in
    let ns = c.args.before.now in
    logged_both c.args.log.now c.tell_flushes.new.log c.tell_given_up.new.log
    (flushed_by why (drop (length w.frames) ns)) (given_up c.args.fetch (block_of c.args.grid.now.state.fetching))
    (subst (λ k. Logged c.args.log.now (flushed_by why (drop k ns)) c.tell_flushes.new.log)
    (c.len-left.ensures.value ∙ ap length c.numbers.ensures.value
    ∙ length-map w.frames (λ (f : Frame). f.number)) c.tell_flushes.ensures)
    (subst (λ o. Logged c.tell_flushes.new.log (given_up c.args.fetch o) c.tell_given_up.new.log)
    c.fetch_of.ensures c.tell_given_up.ensures)
