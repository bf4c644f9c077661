use Rattle.std.proofs.Common.{ℕ, ◌+◌, ◌<◌, ◌≤◌, Bool, sym, ap, ◌∙◌, arith}
use Rattle.operand_net.specs.Marks.{has_bit}
use Rattle.commit_flush_spec.specs.Frames.{numbers}
use Rattle.grid_cycle_spec.specs.DataTiles.{answers_request}
use Rattle.grid_parts.specs.Seen.{seen}
use Rattle.grid_parts.specs.inside.Asked.{frame_of, holds_of}
use Rattle.grid_parts.proofs.AnswerFacts.{lowest_in}
use Rattle.grid_parts.proofs.LeastFacts.{none_yet, one_within, passed_over, found_within, none_within, numbers_are}
use Rattle.grid_parts.proofs.MarkFacts.{unasked_within}
use Rattle.grid_parts.proofs.requests_waiting.answerable_in.Goals as goal

pub loop-number-init : goal.loop-number-init
loop-number-init g c =
    let w = g.V.Windows.held c.args.window.now in
    let s = c.args.state.now in
    let test : ℕ → Bool = λ k. holds_of (λ f. answers_request (seen w s) c.args.tile f k)
    (frame_of c.args.frame w.frames) in
    passed_over test numbers c.low_bits-asked.result 0 c.lowest_bit-number.result c.lowest_bit-number.ensures
    (unasked_within (seen w s) c.args.tile c.args.frame c.word-word.result c.low_bits-asked.result
    c.low_bits-asked.ensures (λ i. ap (λ z. has_bit z i) (sym c.word-word.ensures)))
    (none_yet test numbers)

pub loop-number-preserved : goal.loop-number-preserved
loop-number-preserved g c =
    let w = g.V.Windows.held c.args.window.now in
    let s = c.args.state.now in
    let test : ℕ → Bool = λ k. holds_of (λ f. answers_request (seen w s) c.args.tile f k)
    (frame_of c.args.frame w.frames) in
    passed_over test numbers c.low_bits-asked.result (c.loop-number.number + 1)
    c.lowest_bit-number-in-loop-number.result c.lowest_bit-number-in-loop-number.ensures
    (unasked_within (seen w s) c.args.tile c.args.frame c.word-word.result c.low_bits-asked.result
    c.low_bits-asked.ensures (λ i. ap (λ z. has_bit z i) (sym c.word-word.ensures)))
    (one_within test numbers c.loop-number.number c.loop-number.invariant (sym c.if-answers.ensures))

pub loop-number-smaller : goal.loop-number-smaller
loop-number-smaller g c =
    let on = c.lowest_bit-number-in-loop-number.ensures.onward in
    let below = c.loop-number-test.true in
    omega (arith, on, below)

pub returns-then-answers-clause-value : goal.returns-then-answers-clause-value
returns-then-answers-clause-value g c =
    let w = g.V.Windows.held c.args.window.now in
    let s = c.args.state.now in
    let test : ℕ → Bool = λ k. holds_of (λ f. answers_request (seen w s) c.args.tile f k)
    (frame_of c.args.frame w.frames) in
    let few = numbers_are in
    let below = c.loop-number-test.true in
    found_within test numbers c.loop-number.number (omega (arith, few, below)) c.loop-number.invariant
    (sym c.if-answers.ensures)
    ∙ lowest_in (seen w s) c.args.tile (frame_of c.args.frame w.frames)

pub returns-clause-value : goal.returns-clause-value
returns-clause-value g c =
    let w = g.V.Windows.held c.args.window.now in
    let s = c.args.state.now in
    let test : ℕ → Bool = λ k. holds_of (λ f. answers_request (seen w s) c.args.tile f k)
    (frame_of c.args.frame w.frames) in
    let few = numbers_are in
    let past = c.loop-number-test.false in
    none_within test numbers c.loop-number.number (omega (arith, few, past)) c.loop-number.invariant
    ∙ lowest_in (seen w s) c.args.tile (frame_of c.args.frame w.frames)
