use Rattle.std.proofs.Common.{ap, ◌∙◌, Option}
use Rattle.trips_isa.specs.Tables.{or_else}
use Rattle.commit_flush_spec.specs.Frames.{Frame}
use Rattle.commit_flush_spec.specs.Older.{Older, committed}
use Rattle.commit_flush_spec.specs.Window.{Event}
use Rattle.frame_state.specs.inside.Held.{running}
use Rattle.commit_flush_spec.specs.inside.NextEvent.{next_firing, next_read, next_store, next_load, next_exit}
use Rattle.commit_flush.proofs.next.next_step.Goals as goal

-- the later choices
abbrev requests : Older → Frame → Option Event
requests o f = or_else (next_store o f) (or_else (next_load o f) (next_exit o f))

abbrev reads : Older → Frame → Option Event
reads o f = or_else (next_read o f) (requests o f)

abbrev firings : Older → Frame → Option Event
firings o f = or_else (next_firing o f) (reads o f)

pub returns-in-Some : goal.returns-in-Some
returns-in-Some c = λ s.
    let f = running c.args.block.now c.args.held.now in
    ap (λ x. or_else x (firings (committed s) f)) (c.in-Some.ensures s)

pub returns-in-Some-next_at : goal.returns-in-Some-next_at
returns-in-Some-next_at c = λ s.
    let f = running c.args.block.now c.args.held.now in
    ap (λ x. or_else x (reads (committed s) f)) (c.in-Some-next_at.ensures s)
    ∙ ap (λ x. or_else x (firings (committed s) f)) (c.in_default.ensures s)

pub returns-in-Some-next_at-2 : goal.returns-in-Some-next_at-2
returns-in-Some-next_at-2 c = λ s.
    let f = running c.args.block.now c.args.held.now in
    ap (λ x. or_else x (requests (committed s) f)) (c.in-Some-next_at-2.ensures s)
    ∙ ap (λ x. or_else x (reads (committed s) f)) (c.in_default-next_at.ensures s)
    ∙ ap (λ x. or_else x (firings (committed s) f)) (c.in_default.ensures s)

pub returns : goal.returns
returns c = λ s.
    let f = running c.args.block.now c.args.held.now in
    c.next_request.ensures s
    ∙ ap (λ x. or_else x (requests (committed s) f)) (c.in_default-next_at-2.ensures s)
    ∙ ap (λ x. or_else x (reads (committed s) f)) (c.in_default-next_at.ensures s)
    ∙ ap (λ x. or_else x (firings (committed s) f)) (c.in_default.ensures s)
