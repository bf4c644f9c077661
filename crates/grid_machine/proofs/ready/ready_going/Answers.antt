use Rattle.std.proofs.Common.{false, sym, ap, ◌∙◌, arith, slice_get}
use Rattle.std.proofs.lemmas.Option.{slice_get_within}
use Rattle.commit_flush_spec.specs.Older.{committed}
use Rattle.grid_machine.proofs.BlockFacts.{lent_code}
use Rattle.grid_machine.proofs.FiringFacts.{idle_fires, ready_fires}
use Rattle.grid_machine.proofs.ShapeFacts.{shape_at, shape_count}
use Rattle.grid_machine.proofs.ready.ready_going.Goals as goal

pub at-requires : goal.at-requires
at-requires c =
    let w = c.args.window.now in
    let h = c.in-Some.held.now in
    let b = c.in-Some.field-0-1.now in
    let e = lent_code w.image.blocks w.budget w.window c.keeps_invariant.ensures.window c.args.frame h b
    (false, c.in-Some.ensures.value) in
    let l = slice_get_within w.image.blocks h.block b e in
    let n = shape_count w.image.blocks _ c.requires in
    let k = c.block.ensures.value in
    omega (arith, l, n, k)

pub returns-in-None : goal.returns-in-None
returns-in-None c = λ s l.
    idle_fires c.args.frame s c.args.window.now.window.frames (committed c.args.window.now.window.state)
    c.in-None.ensures.value

pub returns-in-Some : goal.returns-in-Some
returns-in-Some c = λ s l.
    let w = c.args.window.now in
    let h = c.in-Some.held.now in
    let b = c.in-Some.field-0-1.now in
    let e = lent_code w.image.blocks w.budget w.window c.keeps_invariant.ensures.window c.args.frame h b
    (false, c.in-Some.ensures.value) in
    let shape = shape_at w.image.blocks c.args.shapes.now.shapes.items c.requires h.block b _ e
    (sym (ap (slice_get c.args.shapes.now.shapes.items) c.block.ensures.value) ∙ c.at.ensures) in
    ready_fires c.args.frame s w.window.frames (committed w.window.state) b h _ c.in-Some.ensures.value
    (c.ready_in.ensures b shape s l)
