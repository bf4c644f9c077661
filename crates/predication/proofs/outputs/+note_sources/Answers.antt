use Rattle.std.proofs.Common.{arith}
use Rattle.predication.proofs.ReadLemmas.{on_ok, first_source}
use Rattle.predication.proofs.outputs.+note_sources.Goals as goal

pub returns-in_ok-note_source-in-len1-up : goal.returns-in_ok-note_source-in-len1-up
returns-in_ok-note_source-in-len1-up t c =
    let le = c.in-len1-up.len_at_least in
    on_ok c.note_sources.result _ _
    (λ h. first_source c.args.sources.now _ c.args.found.now c.note_source.new.found c.note_sources.new.found
    (omega (arith, le)) c.in_ok-note_source-in-len1-up.ensures h)
    c.note_sources.ensures
