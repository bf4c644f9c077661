use Rattle.std.proofs.Common.{ℕ, ◌+◌, ◌<◌, ◌≤◌, Bool, arith}
use Rattle.commit_flush_spec.specs.Window.{Read, can}
use Rattle.grid_cycle_spec.specs.Acting.{is_done}
use Rattle.grid_parts.proofs.MarkFacts.{marked_first, marked_more}
use Rattle.grid_parts.proofs.read_marks.reads_of.Goals as goal

pub loop-read-init : goal.loop-read-init
loop-read-init g c =
    let w = c.args.window.now in
    let test : ℕ → Bool = λ r. is_done (can (g.V.Windows.blocks w) (g.V.Windows.budget w) (Read c.args.frame r)
    (g.V.Windows.held w)) in
    marked_first test c.unread-word.result c.lowest_bit-read.result c.unread-word.ensures c.lowest_bit-read.ensures 0

pub loop-read-preserved : goal.loop-read-preserved
loop-read-preserved g c =
    let w = c.args.window.now in
    let test : ℕ → Bool = λ r. is_done (can (g.V.Windows.blocks w) (g.V.Windows.budget w) (Read c.args.frame r)
    (g.V.Windows.held w)) in
    marked_more test c.unread-word.result c.loop-read.marks c.with_bit-marks.result c.loop-read.read
    c.lowest_bit-read-in-loop-read.result c.can_read-is_known.result c.unread-word.ensures c.can_read-is_known.ensures
    c.with_bit-marks.ensures.other c.with_bit-marks.ensures.set c.lowest_bit-read-in-loop-read.ensures
    c.loop-read.invariant

pub loop-read-smaller : goal.loop-read-smaller
loop-read-smaller g c =
    let on = c.lowest_bit-read-in-loop-read.ensures.onward in
    let below = c.loop-read-test.true in
    omega (arith, on, below)

pub returns : goal.returns
returns g c = λ r l e. let past = c.loop-read-test.false in c.loop-read.invariant r (omega (arith, past, l)) l e
