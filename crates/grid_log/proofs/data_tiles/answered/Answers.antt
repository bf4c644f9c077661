use Rattle.std.proofs.Common.{◌≡◌, true, false, sym, ap, ◌∙◌}
use Rattle.trips_isa.specs.Forms.{form_of, is_store}
use Rattle.grid_parts.specs.Seen.{seen}
use Rattle.grid_log.proofs.Answering.{load_logged, none_logged, store_logged}
use Rattle.grid_log.proofs.data_tiles.answered.Goals as goal

pub returns-then-is_store-clause-told : goal.returns-then-is_store-clause-told
returns-then-is_store-clause-told g c =
    let v = c.args.grid.now.window in
    let h = c.answer.new.self in
    store_logged (g.V.Windows.blocks v) (g.V.Windows.budget v) c.args.tile c.args.frame c.args.number
    (seen (g.V.Windows.held v) c.args.grid.now.state) (seen (g.V.Windows.held h.window) h.state) c.args.log.now
    c.tell_gone.new.log c.answer.ensures.change c.in-Some.request c.is_null_store-null.result
    c.as_slice.result.now c.fetch_of-fetch.result c.keep.new.self c.in-Some.ensures.value
    (sym c.if-is_store.ensures) c.is_null_store-null.ensures
    (c.as_slice.ensures.value ∙ c.numbers-before.ensures.value) c.fetch_of-fetch.ensures c.keep.ensures
    c.tell_gone.ensures

pub returns-else-is_store-clause-told : goal.returns-else-is_store-clause-told
returns-else-is_store-clause-told g c =
    let v = c.args.grid.now.window in
    let h = c.answer.new.self in
    load_logged (g.V.Windows.blocks v) (g.V.Windows.budget v) c.args.tile c.args.frame c.args.number
    (seen (g.V.Windows.held v) c.args.grid.now.state) (seen (g.V.Windows.held h.window) h.state) c.args.log.now
    c.keep-else-is_store.new.self c.answer.ensures.change c.in-Some.request c.in-Some.ensures.value
    (sym c.if-is_store.ensures) c.keep-else-is_store.ensures

pub returns-in-None-clause-told : goal.returns-in-None-clause-told
returns-in-None-clause-told g c =
    let v = c.args.grid.now.window in
    none_logged (g.V.Windows.blocks v) (g.V.Windows.budget v) c.args.tile c.args.frame c.args.number
    (seen (g.V.Windows.held v) c.args.grid.now.state) c.args.log.now c.in-None.ensures.value
