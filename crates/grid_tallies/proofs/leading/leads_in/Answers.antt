use Rattle.std.proofs.Common.{◌<◌, length, sym, ap, ap₂, ◌∙◌, subst}
use Rattle.std.proofs.lemmas.Option.{slice_get_within}
use Rattle.commit_flush_spec.specs.Ends.{exit_by}
use Rattle.commit_flush_spec.specs.Older.{successor_of}
use Rattle.grid_events.specs.ArrivalNotes.{names}
use Rattle.grid_machine.proofs.BlockFacts.{lent_code}
use Rattle.grid_machine.proofs.ToldFacts.{found_none, found_some}
use Rattle.grid_tallies.proofs.leading.leads_in.Goals as goal

pub successor_by-requires : goal.successor_by-requires
successor_by-requires c =
    let w = c.args.window.now in
    let bs = w.image.blocks in
    let h = c.in-Some.held.now in
    let b = c.in-Some.block.now in
    subst (λ i. c.block.result < length i.blocks) (sym c.image.ensures.value)
    (subst (λ k. k < length bs) (sym c.block.ensures.value)
    (slice_get_within bs h.block b
    (lent_code bs w.budget w.window c.keeps_invariant.ensures.window c.args.frame h b c.in-Some.ensures.value)))

pub returns-in-None : goal.returns-in-None
returns-in-None c =
    let w = c.args.window.now in
    found_none (names w.image.blocks) c.args.frame w.window.frames c.in-None.ensures.value

pub returns-in-Some : goal.returns-in-Some
returns-in-Some c =
    let w = c.args.window.now in
    let h = c.in-Some.held.now in
    let b = c.in-Some.block.now in
    found_some (names w.image.blocks) c.args.frame w.window.frames h b _ c.in-Some.ensures.value
    (λ sealed. c.successor_by.ensures
    ∙ ap (λ i. successor_of (exit_by i.blocks c.block.result c.branch-held.result)) c.image.ensures.value
    ∙ ap₂ (λ k l. successor_of (exit_by w.image.blocks k l)) c.block.ensures.value c.branch-held.ensures.value)
