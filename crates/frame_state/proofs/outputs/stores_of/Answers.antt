use Rattle.std.proofs.Common.{List, ◌++◌, ◌+◌, Option, refl, sym, ap₂, ◌∙◌, arith}
use Rattle.trips_isa.specs.declared.block.Stored.{Stored}
use Rattle.trips_isa.specs.Stores.{listed}
use Rattle.commit_flush_spec.specs.Frames.{at}
use Rattle.frame_state.proofs.OutputFacts.{listed_more, all_listed}
use Rattle.frame_state.proofs.outputs.stores_of.Goals as goal

pub loop-number-preserved : goal.loop-number-preserved
loop-number-preserved c = record {
  size = c.put_behind-count.ensures.size;
  room = omega (arith, c.put_behind-count.ensures.more);
  kept = c.put_behind-count.ensures.kept
      ∙ ap₂ (λ (a : List Stored) (b : Option Stored). a ++ listed b) c.loop-number.invariant.kept c.get.ensures.value
      ∙ sym (listed_more (at c.args.stores.now) c.loop-number.number (c.loop-number.number + 1) refl);
}

pub returns : goal.returns
returns c = record {
  value = c.loop-number.invariant.kept ∙ all_listed (at c.args.stores.now) c.loop-number.number (omega arith);
  count = omega arith;
}
