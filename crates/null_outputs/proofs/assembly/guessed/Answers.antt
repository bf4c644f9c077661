use Rattle.null_outputs.proofs.Assembled.{guess_by_code}
use Rattle.null_outputs.proofs.assembly.guessed.Goals as goal

pub returns : goal.returns
returns c =
    guess_by_code c.args.block.now c.in_ok-firm.firm c.in_ok-found.found c.in_ok-closed.closed c.as_slice.result.now
    c.as_slice-2.result.now c.as_slice-3.result.now c.as_slice-4.result.now c.as_slice.ensures.value
    c.as_slice-2.ensures.value c.as_slice-3.ensures.value c.as_slice-4.ensures.value c.in_ok-firm.ensures
    c.in_ok-found.ensures c.in_ok-closed.ensures
