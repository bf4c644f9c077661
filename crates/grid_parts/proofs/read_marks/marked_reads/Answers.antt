use Rattle.std.proofs.Common.{◌≡◌, ℕ, ◌+◌, ◌<◌, ◌≤◌, Bool, length, refl, ◌∙◌, arith}
use Rattle.std.proofs.lemmas.List.{length-set}
use Rattle.commit_flush_spec.specs.Window.{Read, can}
use Rattle.grid_cycle_spec.specs.Acting.{is_done}
use Rattle.grid_parts.proofs.MarkFacts.{frame_marked}
use Rattle.grid_parts.proofs.read_marks.marked_reads.Goals as goal

pub loop-frame-init : goal.loop-frame-init
loop-frame-init g c = record {
  size = refl;
  marked = λ n r l m e. absurd (omega arith);
}

pub loop-frame-preserved : goal.loop-frame-preserved
loop-frame-preserved g c =
    let w = c.args.window.now in
    let test : ℕ → ℕ → Bool = λ n r. is_done (can (g.V.Windows.blocks w) (g.V.Windows.budget w) (Read n r)
    (g.V.Windows.held w)) in
    let size = c.loop-frame.invariant.size in
    let below = c.loop-frame-test.true in
    let inside : c.loop-frame.frame < length c.loop-frame.words = omega (arith, size, below) in
    record {
      size = length-set c.loop-frame.words c.loop-frame.frame c.reads_of-word.result ∙ size;
      marked = frame_marked test c.loop-frame.words c.loop-frame.frame c.reads_of-word.result inside
          c.reads_of-word.ensures c.loop-frame.invariant.marked;
    }

pub returns : goal.returns
returns g c = record {
  none = λ n r l m e. c.loop-frame.invariant.marked n r (omega arith) m e;
}
