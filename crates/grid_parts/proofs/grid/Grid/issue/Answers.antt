use Rattle.std.proofs.Common.{◌≡◌, Some, true, false, is_some, ap, ◌∙◌}
use Rattle.block_cases.specs.Orders.{slot_of}
use Rattle.commit_flush_spec.specs.Frames.{Frame}
use Rattle.grid_cycle_spec.specs.Units.{issued, takes}
use Rattle.grid_parts.specs.inside.Changes.{taken_up}
use Rattle.grid_parts.specs.Seen.{seen}
use Rattle.grid_parts.specs.inside.Asked.{frame_of, found_in, block_of}
use Rattle.grid_parts.proofs.UnitFacts.{some_frame, no_frame, issued_none, issued_is}
use Rattle.grid_parts.proofs.grid.Grid.issue.Goals as goal

pub returns-then-is_some-clause-change : goal.returns-then-is_some-clause-change
returns-then-is_some-clause-change g c =
    let v = c.args.self.now.window in
    let w = g.V.Windows.held v in
    let s = c.args.self.now.state in
    let flies : is_some (block_of c.args.frame w.frames) ≡ true = cc in
    let found : (f : Frame) × (frame_of c.args.frame w.frames ≡ Some f) =
    some_frame (frame_of c.args.frame w.frames) flies in
    c.take_up.ensures (g.V.Windows.held c.fire.new.self)
    ∙ ap (λ k. taken_up c.args.tile c.args.frame c.args.slot c.takes-time.result (seen k s)) c.fire.ensures.after
    ∙ ap (λ t. issued (g.V.Windows.blocks v) (g.V.Windows.budget v) c.args.tile c.args.frame c.args.slot t (seen w s))
    (c.takes-time.ensures
    ∙ ap takes (c.inst_of.ensures.value ∙ ap (found_in (λ h. slot_of h.code c.args.slot)) found.1))
    ∙ issued_is (g.V.Windows.blocks v) (g.V.Windows.budget v) c.args.tile c.args.frame c.args.slot (seen w s) found.0
    found.1

pub returns-else-is_some-clause-change : goal.returns-else-is_some-clause-change
returns-else-is_some-clause-change g c =
    let v = c.args.self.now.window in
    let w = g.V.Windows.held v in
    let away : is_some (block_of c.args.frame w.frames) ≡ false = cc in
    issued_none (g.V.Windows.blocks v) (g.V.Windows.budget v) c.args.tile c.args.frame c.args.slot
    (seen w c.args.self.now.state) (no_frame (frame_of c.args.frame w.frames) away)
