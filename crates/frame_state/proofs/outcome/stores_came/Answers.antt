use Rattle.std.proofs.Common.{ℕ, ◌+◌, Bool, ◌||◌, not, sym, refl, ◌∙◌, arith}
use Rattle.std.specs.Prelude.{is_some}
use Rattle.trips_isa.specs.Places.{in_mask}
use Rattle.commit_flush_spec.specs.Frames.{at}
use Rattle.frame_state.proofs.CompleteFacts.{all_numbers, all_more, not_all_numbers}
use Rattle.frame_state.proofs.outcome.stores_came.Goals as goal

pub returns-then-not-store_came : goal.returns-then-not-store_came
returns-then-not-store_came c = record {
  value = sym (not_all_numbers (λ n. not (in_mask c.args.mask n) || is_some (at c.args.stores.now n))
      c.loop-number.number (omega arith) (sym c.if-not-store_came.ensures));
}

pub loop-number-preserved : goal.loop-number-preserved
loop-number-preserved c = all_more (λ n. not (in_mask c.args.mask n) || is_some (at c.args.stores.now n))
    c.loop-number.number (c.loop-number.number + 1) refl (sym c.if-not-store_came.ensures) c.loop-number.invariant

pub returns : goal.returns
returns c =
    let p : ℕ → Bool = λ n. not (in_mask c.args.mask n) || is_some (at c.args.stores.now n) in
    record { value = sym (sym (all_numbers p c.loop-number.number (omega arith)) ∙ c.loop-number.invariant) }
