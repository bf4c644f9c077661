use Rattle.std.proofs.Common.{arith}
use Rattle.predication.proofs.ReadLemmas.{on_ok, first_store}
use Rattle.predication.proofs.outputs.+note_stores.Goals as goal

pub returns-in_ok-note_store-in-len1-up : goal.returns-in_ok-note_store-in-len1-up
returns-in_ok-note_store-in-len1-up t c =
    let le = c.in-len1-up.len_at_least in
    on_ok c.note_stores.result _ _
    (λ h. first_store c.args.nodes.now c.node-item.result c.args.found.now c.note_store.new.found
    c.note_stores.new.found (omega (arith, le)) c.node-item.is c.in_ok-note_store-in-len1-up.ensures h)
    c.note_stores.ensures
