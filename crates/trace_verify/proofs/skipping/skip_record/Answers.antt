use Rattle.std.proofs.Common.{◌≡◌, ◌∙◌, ℕ, suc, ◌+◌, List, sym, ap, arith}
use Rattle.trace_verify.specs.declared.parts.Parts.{Parts}
use Rattle.trace_verify.specs.Spelling.{Listed}
use Rattle.trace_verify.specs.Reading.{records_next}
use Rattle.trace_verify.specs.inside.Verifying.{progress_of, rest_from}
use Rattle.trace_verify.proofs.WholeRecords.{skips}
use Rattle.trace_verify.proofs.skipping.skip_record.Goals as goal

pub returns-clause-read : goal.returns-clause-read
returns-clause-read c = λ ahead a.
    let k = skips p c.args.slot c.args.size ahead c.requires.held a in
    c.next_slot.ensures.read
    ∙ ap (λ (q : Parts). records_next q.image.blocks q.exit (progress_of q) (rest_from q (c.args.slot + 1)))
    c.pass.ensures
    ∙ ap (λ (ls : List Listed). records_next p.image.blocks p.exit (record (progress_of p) {
      at = p.at + c.args.size;
    }) ls) (ap (λ (n : ℕ). rest_from p n) next ∙ sym k.others)
    ∙ sym k.read
  where
    p : Parts
    p = c.args.parts.now

    next : c.args.slot + 1 ≡ suc c.args.slot
    next = omega arith
