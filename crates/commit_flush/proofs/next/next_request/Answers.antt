use Rattle.std.proofs.Common.{ap, ◌∙◌}
use Rattle.trips_isa.specs.Tables.{or_else}
use Rattle.commit_flush_spec.specs.Older.{committed}
use Rattle.frame_state.specs.inside.Held.{running}
use Rattle.commit_flush_spec.specs.inside.NextEvent.{next_load, next_exit}
use Rattle.commit_flush.proofs.next.next_request.Goals as goal

pub returns-in-Some : goal.returns-in-Some
returns-in-Some c = λ s.
    let f = running c.args.block.now c.args.held.now in
    ap (λ x. or_else x (or_else (next_load (committed s) f) (next_exit (committed s) f))) (c.in-Some.ensures s)

pub returns-in-Some-next_at : goal.returns-in-Some-next_at
returns-in-Some-next_at c = λ s.
    let f = running c.args.block.now c.args.held.now in
    ap (λ x. or_else x (next_exit (committed s) f)) (c.in-Some-next_at.ensures s)
    ∙ ap (λ x. or_else x (or_else (next_load (committed s) f) (next_exit (committed s) f))) (c.in_default.ensures s)

pub returns : goal.returns
returns c = λ s.
    let f = running c.args.block.now c.args.held.now in
    c.next_exit.ensures c.args.block.now (committed s)
    ∙ ap (λ x. or_else x (next_exit (committed s) f)) (c.in_default-next_at.ensures s)
    ∙ ap (λ x. or_else x (or_else (next_load (committed s) f) (next_exit (committed s) f))) (c.in_default.ensures s)
