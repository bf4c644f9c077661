use Rattle.std.proofs.Common.{◌≡◌, List, ap, subst}
use Rattle.trips_isa.specs.declared.block.Block.{Block}
use Rattle.trips_isa.specs.declared.block.Image.{Image}
use Rattle.commit_flush_spec.specs.InFlight.{opened}
use Rattle.commit_flush_spec.specs.Window.{Window}
use Rattle.commit_flush_spec.specs.inside.Invariant.{AllGood}
use Rattle.commit_flush_spec.specs.inside.Laws.{WindowOk}
use Rattle.grid_cycle_spec.specs.Grid.{Grid}
use Rattle.trips_isa.specs.Machine.{start}
use Rattle.smt_mode.proofs.made.program_of.Goals as goal

pub returns : goal.returns
returns c =
    let s = c.args.started in
    let x = c.in_ok-program.program in
    let image : x.window.image.blocks ≡ s.image.blocks =
    ap (λ (i : Image). i.blocks) c.in_ok-program.ensures.image in
    let window : x.window.window ≡ opened (start s.image.bytes s.input.items) =
    ap (λ (g : Grid (Unit {0})). g.window) c.in_ok-program.ensures.begun in
    record {
      begun = c.in_ok-program.ensures.begun;
      image = image;
      budget = c.in_ok-program.ensures.budget;
      good = subst AllGood image c.keeps_invariant.ensures.blocks;
      opens = subst (λ (w : Window). WindowOk s.image.blocks c.args.budget w) window
          (subst (λ (bs : List Block). WindowOk bs c.args.budget x.window.window) image
          (subst (λ n. WindowOk x.window.image.blocks n x.window.window) c.in_ok-program.ensures.budget
          c.keeps_invariant.ensures.window));
    }
