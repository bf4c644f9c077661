use Rattle.std.proofs.Common.{ap, sym, ◌∙◌, refl}
use Rattle.std.proofs.lemmas.Option.{none-some}
use Rattle.commit_flush_spec.specs.Frames.{at, numbers}
use Rattle.commit_flush_spec.specs.Older.{passes}
use Rattle.frame_state.specs.inside.Held.{as_frame}
use Rattle.lsq_order.specs.inside.Reached.{reached}
use Rattle.grid_machine.proofs.WrongFacts.{finds_in, none_found, told_here, told_left}
use Rattle.grid_machine.proofs.violations.wrong_at.Goals as goal

pub returns-in-None : goal.returns-in-None
returns-in-None c = record {
  found = λ f e. absurd (none-some f (sym c.in-None.ensures.value ∙ e));
  left = λ f e none a. absurd (none-some f (sym c.in-None.ensures.value ∙ e));
}

pub returns-in-Some : goal.returns-in-Some
returns-in-Some c =
    let fs = c.args.window.now.window.frames in
    let h = c.in-Some.held.now in
    let b = c.in-Some.field-0-1.now in
    let l = c.in-Some.ensures.value in
    let touched = reached c.args.reach.now in
    let found = finds_in h.stores _ h.loads _ touched 0 c.first_wrong.result c.stores.ensures.value
    c.loads.ensures.value
    c.first_wrong.ensures.found in
    record {
      found = λ f e. told_here fs c.args.age h b l touched _ f e found _ (c.load_of.ensures b l.0);
      left = λ f e none a. told_left fs c.args.age h b l touched c.first_wrong.result f e a _
          (c.first_wrong.ensures.passed refl (none_found (as_frame l.0 b h) _ (sym none ∙ c.load_of.ensures b l.0)) a
          ∙ ap (λ xs. passes (at xs) numbers touched a) c.stores.ensures.value);
    }
