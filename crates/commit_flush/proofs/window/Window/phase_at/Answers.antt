use Rattle.std.proofs.Common.{ap, sym, ◌∙◌, arith, slice_get}
use Rattle.commit_flush.proofs.SeenFacts.{eight}
use Rattle.commit_flush.proofs.PhaseFacts.{age_found, age_block, age_past, age_below}
use Rattle.commit_flush.proofs.window.Window.phase_at.Goals as goal

pub returns-in-None-clause-found : goal.returns-in-None-clause-found
returns-in-None-clause-found c =
    age_past c.self.invariant.sound _ c.self.view_is c.args.age
    (ap (λ xs. slice_get xs c.args.age) (sym c.as_slice.ensures.value) ∙ sym c.in-None.ensures)

pub index-requires : goal.index-requires
index-requires c =
    omega (
      arith,
      eight c.self.invariant.sound,
      age_below c.self.invariant.sound c.args.age c.in-Some.frame
          (ap (λ xs. slice_get xs c.args.age) (sym c.as_slice.ensures.value) ∙ sym c.in-Some.ensures),
    )

pub returns-in-Some-clause-found : goal.returns-in-Some-clause-found
returns-in-Some-clause-found c =
    age_found c.self.invariant.sound _ c.self.view_is c.args.age c.in-Some.frame c.index.result.now
    (ap (λ xs. slice_get xs c.args.age) (sym c.as_slice.ensures.value) ∙ sym c.in-Some.ensures) c.index.ensures

pub returns-in-Some-clause-block : goal.returns-in-Some-clause-block
returns-in-Some-clause-block c =
    age_block c.self.invariant.sound _ c.self.view_is c.args.age c.in-Some.frame c.index.result.now
    (ap (λ xs. slice_get xs c.args.age) (sym c.as_slice.ensures.value) ∙ sym c.in-Some.ensures) c.index.ensures
