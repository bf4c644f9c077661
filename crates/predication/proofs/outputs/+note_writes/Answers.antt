use Rattle.std.proofs.Common.{arith}
use Rattle.predication.proofs.ReadLemmas.{on_ok, first_write}
use Rattle.predication.proofs.outputs.+note_writes.Goals as goal

pub returns-in_ok-note_sources-in-len1-up : goal.returns-in_ok-note_sources-in-len1-up
returns-in_ok-note_sources-in-len1-up t c =
    let le = c.in-len1-up.len_at_least in
    on_ok c.note_writes.result _ _
    (λ h. first_write c.args.writes.now c.write-item.result c.as_slice.result.now c.args.found.now
    c.note_sources.new.found c.note_writes.new.found (omega (arith, le)) c.write-item.is c.as_slice.ensures.value
    c.in_ok-note_sources-in-len1-up.ensures h)
    c.note_writes.ensures
