use Rattle.std.proofs.Common.{arith}
use Rattle.predication.proofs.ReadLemmas.{on_ok, first_node}
use Rattle.predication.proofs.outputs.+note_nodes.Goals as goal

pub returns-in_ok-note_sources-in-len1-up-2 : goal.returns-in_ok-note_sources-in-len1-up-2
returns-in_ok-note_sources-in-len1-up-2 t c =
    let le = c.in-len1-up.len_at_least in
    on_ok c.note_nodes.result _ _
    (λ h. first_node c.args.nodes.now c.node-item.result c.as_slice.result.now c.as_slice-in-len1-up.result.now
    c.args.found.now c.note_sources.new.found c.note_sources-in-len1-up.new.found c.note_nodes.new.found
    (omega (arith, le)) c.node-item.is c.as_slice.ensures.value c.as_slice-in-len1-up.ensures.value
    c.in_ok-note_sources-in-len1-up.ensures c.in_ok-note_sources-in-len1-up-2.ensures h)
    c.note_nodes.ensures
