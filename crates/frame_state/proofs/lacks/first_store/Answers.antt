use Rattle.std.proofs.Common.{◌+◌, ◌||◌, not, sym, refl, ◌∙◌, arith}
use Rattle.std.specs.Prelude.{is_some}
use Rattle.trips_isa.specs.Places.{in_mask}
use Rattle.commit_flush_spec.specs.Frames.{at}
use Rattle.frame_state.proofs.LackFacts.{starts_numbers, missing_here, come_here, none_left}
use Rattle.frame_state.proofs.lacks.first_store.Goals as goal

pub loop-number-init : goal.loop-number-init
loop-number-init c = starts_numbers (λ n. not (in_mask c.args.mask n) || is_some (at c.args.stores.now n))

pub returns-then-not-store_came : goal.returns-then-not-store_came
returns-then-not-store_came c =
    sym (c.loop-number.invariant
    ∙ missing_here (λ n. not (in_mask c.args.mask n) || is_some (at c.args.stores.now n)) 32 c.loop-number.number
    (omega arith) (sym c.if-not-store_came.ensures))

pub loop-number-preserved : goal.loop-number-preserved
loop-number-preserved c =
    c.loop-number.invariant
    ∙ come_here (λ n. not (in_mask c.args.mask n) || is_some (at c.args.stores.now n)) 32 c.loop-number.number
    (c.loop-number.number + 1) (omega arith) refl (sym c.if-not-store_came.ensures)

pub returns : goal.returns
returns c =
    sym (c.loop-number.invariant
    ∙ none_left (λ n. not (in_mask c.args.mask n) || is_some (at c.args.stores.now n)) 32 c.loop-number.number
    (omega arith))
