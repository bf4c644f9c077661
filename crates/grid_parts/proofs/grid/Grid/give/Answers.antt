use Rattle.std.proofs.Common.{◌≡◌, Some, true, false, is_some, sym, ap, ◌∙◌}
use Rattle.trips_isa.specs.Forms.{form_of}
use Rattle.block_cases.specs.Orders.{slot_of}
use Rattle.commit_flush_spec.specs.Frames.{Frame}
use Rattle.grid_cycle_spec.specs.Units.{result_enters}
use Rattle.grid_parts.specs.Seen.{seen}
use Rattle.grid_parts.specs.inside.Asked.{frame_of, found_in, block_of}
use Rattle.grid_parts.proofs.UnitFacts.{some_frame, no_frame, given_none, given_rest, given}
use Rattle.grid_parts.proofs.grid.Grid.give.Goals as goal

pub returns-in-Some-clause-change : goal.returns-in-Some-clause-change
returns-in-Some-clause-change g c =
    let w = g.V.Windows.held c.args.self.now.window in
    let here = seen w c.args.self.now.state in
    let flies : is_some (block_of c.args.frame w.frames) ≡ true = cc in
    let found : (f : Frame) × (frame_of c.args.frame w.frames ≡ Some f) =
    some_frame (frame_of c.args.frame w.frames) flies in
    let is : slot_of found.0.code c.args.slot ≡ Some c.in-Some.inst =
    sym (c.in-Some.ensures.value ∙ ap (found_in (λ h. slot_of h.code c.args.slot)) found.1) in
    c.result_enters.ensures.change found.0 found.1 is
    ∙ ap (result_enters (form_of c.in-Some.inst.op) c.in-Some.inst c.args.slot found.0) (c.rest.ensures w)
    ∙ given c.args.frame c.args.slot here found.0 c.in-Some.inst found.1 is

pub returns-in-None-clause-change : goal.returns-in-None-clause-change
returns-in-None-clause-change g c =
    let w = g.V.Windows.held c.args.self.now.window in
    let here = seen w c.args.self.now.state in
    let flies : is_some (block_of c.args.frame w.frames) ≡ true = cc in
    let found : (f : Frame) × (frame_of c.args.frame w.frames ≡ Some f) =
    some_frame (frame_of c.args.frame w.frames) flies in
    c.rest.ensures w
    ∙ given_rest c.args.frame c.args.slot here found.0 found.1
    (sym (c.in-None.ensures.value ∙ ap (found_in (λ h. slot_of h.code c.args.slot)) found.1))

pub returns-else-is_some-clause-change : goal.returns-else-is_some-clause-change
returns-else-is_some-clause-change g c =
    let w = g.V.Windows.held c.args.self.now.window in
    let here = seen w c.args.self.now.state in
    let away : is_some (block_of c.args.frame w.frames) ≡ false = cc in
    given_none c.args.frame c.args.slot here (no_frame (frame_of c.args.frame w.frames) away)
