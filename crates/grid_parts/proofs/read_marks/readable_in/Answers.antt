use Rattle.std.proofs.Common.{◌+◌, ◌<◌, ◌≤◌, sym, arith}
use Rattle.grid_cycle_spec.specs.Choosing.{reads}
use Rattle.grid_parts.specs.inside.Choices.{may_read}
use Rattle.grid_parts.proofs.LeastFacts.{none_yet, one_within, passed_over, found_within, none_within, reads_are}
use Rattle.grid_parts.proofs.MarkFacts.{not_marked}
use Rattle.grid_parts.proofs.read_marks.readable_in.Goals as goal

pub loop-read-init : goal.loop-read-init
loop-read-init g c =
    let w = c.args.window.now in
    let bs = g.V.Windows.blocks w in
    let b = g.V.Windows.budget w in
    let h = g.V.Windows.held w in
    passed_over (may_read bs b h c.args.bank c.args.frame) reads c.args.marks 0 c.lowest_bit-read.result
    c.lowest_bit-read.ensures (not_marked bs b h c.args.bank c.args.frame c.args.marks c.requires.marks)
    (none_yet (may_read bs b h c.args.bank c.args.frame) reads)

pub loop-read-preserved : goal.loop-read-preserved
loop-read-preserved g c =
    let w = c.args.window.now in
    let bs = g.V.Windows.blocks w in
    let b = g.V.Windows.budget w in
    let h = g.V.Windows.held w in
    passed_over (may_read bs b h c.args.bank c.args.frame) reads c.args.marks (c.loop-read.read + 1)
    c.lowest_bit-read-in-loop-read.result c.lowest_bit-read-in-loop-read.ensures
    (not_marked bs b h c.args.bank c.args.frame c.args.marks c.requires.marks)
    (one_within (may_read bs b h c.args.bank c.args.frame) reads c.loop-read.read c.loop-read.invariant
    (sym c.if-answers_read.ensures))

pub loop-read-smaller : goal.loop-read-smaller
loop-read-smaller g c =
    let on = c.lowest_bit-read-in-loop-read.ensures.onward in
    let below = c.loop-read-test.true in
    omega (arith, on, below)

pub returns-then-answers_read-clause-value : goal.returns-then-answers_read-clause-value
returns-then-answers_read-clause-value g c =
    let w = c.args.window.now in
    let few = reads_are in
    let below = c.loop-read-test.true in
    found_within (may_read (g.V.Windows.blocks w) (g.V.Windows.budget w)
    (g.V.Windows.held w) c.args.bank c.args.frame)
    reads c.loop-read.read (omega (arith, few, below)) c.loop-read.invariant (sym c.if-answers_read.ensures)

pub returns-clause-value : goal.returns-clause-value
returns-clause-value g c =
    let w = c.args.window.now in
    let few = reads_are in
    let past = c.loop-read-test.false in
    none_within (may_read (g.V.Windows.blocks w) (g.V.Windows.budget w) (g.V.Windows.held w) c.args.bank c.args.frame)
    reads c.loop-read.read (omega (arith, few, past)) c.loop-read.invariant
