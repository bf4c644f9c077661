use Rattle.std.proofs.Common.{◌≡◌, ℕ, List, ap, ◌∙◌}
use Rattle.predication.specs.inside.Made.{members_below, reads_of}
use Rattle.predication.proofs.MadeLemmas.{if_ok}
use Rattle.predication.proofs.ReadLemmas.{found_reads}
use Rattle.predication.proofs.outputs.reads.Goals as goal

pub returns : goal.returns
unfolding reads_of
returns c =
    let ns = c.args.nodes.now in
    let ws = c.args.writes.now in
    let fs = c.as_slice.result.now in
    if_ok c.members_below.result (λ (rs : List ℕ). rs ≡ members_below fs 128) (λ (rs : List ℕ). rs ≡ reads_of ns ws)
    (λ rs e. e ∙ ap (λ (x : List ℕ). members_below x 128) c.as_slice.ensures.value
    ∙ found_reads ns ws c.new-found.result c.note_nodes.new.found c.note_writes.new.found c.new-found.ensures.value
    c.in_ok-note_nodes.ensures c.in_ok-note_writes.ensures 128)
    c.members_below.ensures
