use Rattle.std.proofs.Common.{◌≡◌, ◌∙◌, ℕ, ◌+◌, ◌-◌, ◌≤◌, List, length, take, drop, ap, ap₂, arith}
use Rattle.std.proofs.lemmas.Grind.{common_steps}
use Rattle.trips_isa.specs.declared.block.Block.{Block}
use Rattle.trips_isa.specs.declared.block.Image.{Image}
use Rattle.trace_verify.specs.declared.parts.Parts.{Parts}
use Rattle.trace_verify.specs.Reading.{feeds}
use Rattle.trace_verify.specs.inside.Verifying.{reading_of}
use Rattle.trace_verify.proofs.WholeRecords.{some_read}
use Rattle.trace_verify.proofs.feeding.feed.Goals as goal

pub loop-done-preserved : goal.loop-done-preserved
loop-done-preserved c = record {
  bound =
      let few : n ≤ length piece - done = grind (arith, common_steps, c.take_some-done.ensures.bound) in
      omega (arith, few, c.loop-done.invariant.bound);
  held = c.take_some-done.ensures.held;
  within = c.take_some-done.ensures.within;
  image = c.take_some-done.ensures.image ∙ c.loop-done.invariant.image;
  budget = c.take_some-done.ensures.budget ∙ c.loop-done.invariant.budget;
  read = some_read p.image.blocks p.budget (reading_of q) (reading_of c.take_some-done.new.parts)
      (feeds p.image.blocks p.budget (reading_of p) piece) piece done n
      (c.take_some-done.ensures.read
      ∙ ap₂ (λ (blocks : List Block) (budget : ℕ). feeds blocks budget (reading_of q)
      (take n (take (length piece - done) (drop done piece))))
      (ap (λ (i : Image). i.blocks) c.loop-done.invariant.image) c.loop-done.invariant.budget)
      c.loop-done.invariant.read;
}
  where
    p : Parts
    p = c.args.parts.now

    q : Parts
    q = c.loop-done.parts

    piece : List ℕ
    piece = c.args.piece.now

    done : ℕ
    done = c.loop-done.done

    n : ℕ
    n = c.take_some-done.result
