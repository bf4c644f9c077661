use Rattle.std.proofs.Common.{◌≡◌, ◌+◌, ap, sym, ◌∙◌, suc, arith, refl, drop, set, None, Some, subst}
use Rattle.std.proofs.lemmas.Option.{none-some, slice_get_within}
use Rattle.commit_flush_spec.specs.Frames.{Frame, at, numbers}
use Rattle.commit_flush_spec.specs.Older.{nearest}
use Rattle.frame_state.specs.inside.Held.{as_frame}
use Rattle.lsq_order.specs.inside.Reached.{FitsReach, reached}
use Rattle.grid_cycle_spec.specs.DataTiles.{stored_by}
use Rattle.grid_machine.proofs.BlockFacts.{sized_at}
use Rattle.grid_machine.proofs.OlderFacts.{lent_at}
use Rattle.grid_machine.proofs.WrongFacts.{behind_own, finds_in, fits_stored, narrowed_in, own_behind, own_least}
use Rattle.grid_machine.proofs.WrongFacts.{wrong_of, wrong_told}
use Rattle.grid_machine.proofs.violations.wrong_by.Goals as goal

pub of-reach-requires : goal.of-reach-requires
of-reach-requires c = record {
  size = subst FitsReach (sym (c.stored_by-stored.ensures c.in-Some.block.now c.in-Some.ensures.value.0))
      (fits_stored (as_frame c.in-Some.ensures.value.0 c.in-Some.block.now c.in-Some.held.now) _);
}

pub wrong_on-requires : goal.wrong_on-requires
wrong_on-requires c =
    let l = slice_get_within c.args.window.now.window.frames c.args.age _ c.in-Some.ensures.value.1 in
    omega (arith, l)

pub returns-in-None : goal.returns-in-None
returns-in-None c = λ f e. absurd (none-some f (sym c.in-None.ensures.value ∙ e))

pub returns-in-None-first_wrong : goal.returns-in-None-first_wrong
returns-in-None-first_wrong c = λ f e.
    let w = c.args.window.now in
    let h = c.in-Some.held.now in
    let b = c.in-Some.block.now in
    let z = c.in-Some.ensures.value in
    let ok = c.keeps_invariant.ensures.window in
    let fs = w.window.frames in
    let size = sized_at w.image.blocks w.budget w.window ok c.args.age (as_frame z.0 b h) z.1 in
    let m = c.args.number in
    let small = c.requires.number in
    let few = size.stores in
    let found = finds_in h.stores _ h.loads _ (reached c.of-reach.result) (m + 1) None c.stores.ensures.value
    c.loads.ensures.value c.in-None-first_wrong.ensures.found in
    let next : c.args.age + 1 ≡ suc c.args.age = omega arith in
    wrong_told h b z.0 m c.stored_by-stored.result None (drop (suc c.args.age) fs) _
    (c.stored_by-stored.ensures b z.0 ∙ ap (stored_by (as_frame z.0 b h)) c.request.ensures.value)
    (own_least h.stores m c.stored_by-stored.result (omega (arith, small, few)) (reached c.of-reach.result)
    c.of-reach.ensures.reached h.loads None found)
    (behind_own _ (nearest (at (set h.stores m c.stored_by-stored.result)) m numbers) fs (c.args.age + 1)
    (suc c.args.age) _ c.wrong_on.ensures next
    (own_behind h.stores m c.stored_by-stored.result (omega (arith, small, few)) (reached c.of-reach.result)
    c.of-reach.ensures.reached small _ (λ a. c.in-None-first_wrong.ensures.left refl a
    ∙ narrowed_in h.stores _ (m + 1) (reached c.of-reach.result) a c.stores.ensures.value)))
    ∙ ap (λ (g : Frame). wrong_of m g (drop (suc c.args.age) fs)) (lent_at fs c.args.age h b z f e)

pub returns-in-Some-first_wrong : goal.returns-in-Some-first_wrong
returns-in-Some-first_wrong c = λ f e.
    let w = c.args.window.now in
    let h = c.in-Some.held.now in
    let b = c.in-Some.block.now in
    let z = c.in-Some.ensures.value in
    let fs = w.window.frames in
    let size = sized_at w.image.blocks w.budget w.window c.keeps_invariant.ensures.window c.args.age
    (as_frame z.0 b h) z.1 in
    let m = c.args.number in
    let small = c.requires.number in
    let few = size.stores in
    let found = finds_in h.stores _ h.loads _ (reached c.of-reach.result) (m + 1)
    (Some c.in-Some-first_wrong.load) c.stores.ensures.value
    c.loads.ensures.value c.in-Some-first_wrong.ensures.found in
    wrong_told h b z.0 m c.stored_by-stored.result (Some c.in-Some-first_wrong.load) (drop (suc c.args.age) fs) _
    (c.stored_by-stored.ensures b z.0 ∙ ap (stored_by (as_frame z.0 b h)) c.request.ensures.value)
    (own_least h.stores m c.stored_by-stored.result (omega (arith, small, few)) (reached c.of-reach.result)
    c.of-reach.ensures.reached h.loads (Some c.in-Some-first_wrong.load) found)
    (ap (λ k. Some (k, c.in-Some-first_wrong.load)) c.number.ensures.value)
    ∙ ap (λ (g : Frame). wrong_of m g (drop (suc c.args.age) fs)) (lent_at fs c.args.age h b z f e)
