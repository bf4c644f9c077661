use Rattle.std.proofs.Common.{◌≡◌, ℕ, ◌+◌, Bool, ◌||◌, not, sym, refl, ◌∙◌, arith, ap, is_some}
use Rattle.trips_isa.specs.Places.{in_mask}
use Rattle.commit_flush_spec.specs.Ends.{all_below}
use Rattle.commit_flush_spec.specs.Frames.{at}
use Rattle.frame_state.proofs.CompleteFacts.{all_more, not_all}
use Rattle.grid_machine.proofs.older.stores_came.Goals as goal

pub returns-then-not-store_came : goal.returns-then-not-store_came
returns-then-not-store_came c =
    sym (not_all (λ n. not (in_mask c.args.mask n) || is_some (at c.args.held.now.stores n)) c.args.below
    c.loop-number.number (omega arith) (sym c.if-not-store_came.ensures))

pub loop-number-preserved : goal.loop-number-preserved
loop-number-preserved c =
    all_more (λ n. not (in_mask c.args.mask n) || is_some (at c.args.held.now.stores n)) c.loop-number.number
    (c.loop-number.number + 1) refl (sym c.if-not-store_came.ensures) c.loop-number.invariant

pub returns : goal.returns
returns c =
    let p : ℕ → Bool = λ n. not (in_mask c.args.mask n) || is_some (at c.args.held.now.stores n) in
    let all : c.loop-number.number ≡ c.args.below = omega arith in
    sym (sym (ap (all_below p) all) ∙ c.loop-number.invariant)
