use Rattle.std.proofs.Common.{◌≤◌, ◌+◌, ◌⊎◌, ℕ, arith, inl, inr, refl}
use Rattle.trips_isa.specs.Rule.{Answer}
use Rattle.trips_isa.specs.Marks.{mark_of, mark_given}
use Rattle.trips_isa.specs.Limits.{most_nodes}
use Rattle.block_atomic.specs.inside.MarkSlots.{IsTold}
use Rattle.block_cases.proofs.Fixed.{IsFixed}
use Rattle.block_atomic.proofs.MarkRoundLemmas.{Round, round_next, round_still, settled_at, settled_slots, none_yet}
use Rattle.block_atomic.proofs.mark_rounds.settle.Goals as goal
use Rattle.block_atomic.proofs.mark_rounds.settle.Goals.{then-loop-changed-test+else-rounds-lt160}
use Rattle.block_atomic.proofs.mark_rounds.settle.Goals.{else-loop-changed-test}

pub loop-changed-init : goal.loop-changed-init
loop-changed-init c = record {
  few = omega arith;
  answers = λ g told x. none_yet c.args.block.now c.clear.new.at g c.clear.ensures x;
  stable = λ e. absurd (cc);
}

pub loop-changed-preserved : goal.loop-changed-preserved
loop-changed-preserved c = record {
  few = omega arith;
  answers = λ g told x. round_next c.args.block.now c.args.table.now c.args.places.now
      c.loop-changed.marks c.sweep-changed.new.marks c.fill.new.at g c.loop-changed.rounds
      (c.loop-changed.rounds + 1) made told (c.loop-changed.invariant.answers g told) refl x;
  stable = λ e g told. round_still c.args.block.now c.args.table.now c.args.places.now
      c.loop-changed.marks c.sweep-changed.new.marks c.fill.new.at g (c.loop-changed.rounds + 1) made
      told (λ x. round_next c.args.block.now c.args.table.now c.args.places.now
      c.loop-changed.marks c.sweep-changed.new.marks c.fill.new.at g c.loop-changed.rounds
      (c.loop-changed.rounds + 1) made told (c.loop-changed.invariant.answers g told) refl x)
      (c.sweep-changed.ensures.same e);
}
  where
    made : Round c.args.block.now c.args.table.now c.args.places.now c.loop-changed.marks
        c.sweep-changed.new.marks c.fill.new.at
    made = record {
      slots = c.requires.slots;
      size = omega (arith, c.sweep-changed.auto.marks, c.loop-changed.auto.marks, c.requires.marks);
      filled = c.fill.ensures.value;
      answers = rw (← c.as_slice.ensures.value) c.sweep-changed.ensures.answers;
    }

pub returns : goal.returns
returns c = record {
  value = λ g told q l. settled_at c.args.block.now c.args.table.now c.args.places.now
      c.loop-changed.marks c.fill-2.new.at g c.loop-changed.rounds told
      (c.loop-changed.invariant.answers g told) c.loop-changed.invariant.few (done g told)
      c.fill-2.ensures.value q l;
  marks = λ g told j. settled_slots c.args.block.now c.loop-changed.marks g c.loop-changed.rounds
      (c.loop-changed.invariant.answers g told) c.loop-changed.invariant.few (done g told) j;
}
  where
    done : (g : ℕ → Answer) → IsTold c.args.block.now c.args.table.now c.args.places.now g
        → (most_nodes ≤ c.loop-changed.rounds)
        ⊎ IsFixed (mark_given c.args.block.now g) (mark_of c.args.block.now g c.loop-changed.rounds)
    done g told = elim c.loop-changed-test.branch [
      | then-loop-changed-test+else-rounds-lt160 w ↦ inl w.if-rounds-lt160.false
      | else-loop-changed-test w ↦ inr (c.loop-changed.invariant.stable w.loop-changed-test.false g told)
    ]
