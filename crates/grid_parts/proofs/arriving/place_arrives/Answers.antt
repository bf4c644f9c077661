use Rattle.std.proofs.Common.{◌≡◌, ◌/◌, Some, true, false, is_some, sym, ap, ◌∙◌, arith}
use Rattle.block_cases.specs.Orders.{slot_of}
use Rattle.commit_flush_spec.specs.Frames.{Frame}
use Rattle.grid_parts.specs.Seen.{seen}
use Rattle.grid_parts.specs.inside.Asked.{frame_of, found_in, block_of}
use Rattle.grid_parts.proofs.UnitFacts.{some_frame, no_frame}
use Rattle.grid_parts.proofs.PlaceFacts.{placed_nowhere, placed_read, placed_empty, placed_inst}
use Rattle.grid_parts.proofs.arriving.place_arrives.Goals as goal

pub returns-in-Some-clause-change : goal.returns-in-Some-clause-change
returns-in-Some-clause-change g c =
    let v = c.args.grid.now.window in
    let w = g.V.Windows.held v in
    let flies : is_some (block_of c.args.frame w.frames) ≡ true = cc in
    let found : (f : Frame) × (frame_of c.args.frame w.frames ≡ Some f) =
    some_frame (frame_of c.args.frame w.frames) flies in
    let is : slot_of found.0.code (c.args.place / 2) ≡ Some c.in-Some.inst =
    sym (c.in-Some.ensures.value ∙ ap (found_in (λ h. slot_of h.code (c.args.place / 2))) found.1) in
    c.slot_arrives.ensures.change found.0 found.1
    ∙ placed_inst (g.V.Windows.blocks v) (g.V.Windows.budget v) c.args.frame c.args.place
    (seen w c.args.grid.now.state) found.0 c.in-Some.inst found.1 (omega arith) is

pub returns-in-None-clause-change : goal.returns-in-None-clause-change
returns-in-None-clause-change g c =
    let v = c.args.grid.now.window in
    let w = g.V.Windows.held v in
    let flies : is_some (block_of c.args.frame w.frames) ≡ true = cc in
    let found : (f : Frame) × (frame_of c.args.frame w.frames ≡ Some f) =
    some_frame (frame_of c.args.frame w.frames) flies in
    placed_empty (g.V.Windows.blocks v) (g.V.Windows.budget v) c.args.frame c.args.place
    (seen w c.args.grid.now.state) found.0 found.1 (omega arith)
    (sym (c.in-None.ensures.value ∙ ap (found_in (λ h. slot_of h.code (c.args.place / 2))) found.1))

pub returns-else-place-lt256-clause-change : goal.returns-else-place-lt256-clause-change
returns-else-place-lt256-clause-change g c =
    let v = c.args.grid.now.window in
    let w = g.V.Windows.held v in
    let flies : is_some (block_of c.args.frame w.frames) ≡ true = cc in
    let found : (f : Frame) × (frame_of c.args.frame w.frames ≡ Some f) =
    some_frame (frame_of c.args.frame w.frames) flies in
    c.delivers.ensures.change
    ∙ placed_read (g.V.Windows.blocks v) (g.V.Windows.budget v) c.args.frame c.args.place
    (seen w c.args.grid.now.state) found.0 found.1 (omega arith)

pub returns-else-is_some-clause-change : goal.returns-else-is_some-clause-change
returns-else-is_some-clause-change g c =
    let v = c.args.grid.now.window in
    let w = g.V.Windows.held v in
    let away : is_some (block_of c.args.frame w.frames) ≡ false = cc in
    placed_nowhere (g.V.Windows.blocks v) (g.V.Windows.budget v) c.args.frame c.args.place
    (seen w c.args.grid.now.state) (no_frame (frame_of c.args.frame w.frames) away)
