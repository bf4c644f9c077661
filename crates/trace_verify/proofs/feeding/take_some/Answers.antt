use Rattle.std.proofs.Common.{◌∙◌, sym}
use Rattle.trace_verify.proofs.WholeRecords.{one_read, skipped_within}
use Rattle.trace_verify.specs.inside.Verifying.{reading_of}
use Rattle.trace_verify.proofs.feeding.take_some.Goals as goal

pub returns-in-Some-clause-read : goal.returns-in-Some-clause-read
returns-in-Some-clause-read c = c.skip_record.ensures.read c.args.ahead.now c.in-Some.ensures

pub returns-in-Some-clause-within : goal.returns-in-Some-clause-within
returns-in-Some-clause-within c = skipped_within c.args.parts.now c.skip_record.new.parts c.in-Some.slot c.in-Some.size
    c.args.ahead.now c.requires.held c.requires.within c.in-Some.ensures c.skip_record.ensures.image
    c.skip_record.ensures.budget (c.skip_record.ensures.read c.args.ahead.now c.in-Some.ensures)

pub returns-in-None-clause-read : goal.returns-in-None-clause-read
returns-in-None-clause-read c = c.take_one.ensures.read
    ∙ sym (one_read c.args.parts.now.image.blocks c.args.parts.now.budget (reading_of c.args.parts.now)
    c.args.ahead.now c.requires.some)
