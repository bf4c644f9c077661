use Rattle.std.proofs.Common.{◌∙◌, ℕ, List, length, sym, ap}
use Rattle.trace_verify.proofs.WholeRecords.{found_ahead}
use Rattle.trace_verify.proofs.skipping.fresh_record.Goals as goal

pub returns-then-begins : goal.returns-then-begins
returns-then-begins c = found_ahead c.args.parts.now c.args.slot c.len-size.result c.args.ahead.now _ c.requires.held
    c.requires.stage c.requires.none c.len-size.ensures.fits
    (c.len-size.ensures.value ∙ ap (λ (xs : List ℕ). length xs) (sym c.as_slice.ensures.value))
    (c.begins.ensures.long c.if-begins.true) (c.begins.ensures.same c.if-begins.true)
    (c.as_slice.ensures.value ∙ c.wanted-want.ensures)
