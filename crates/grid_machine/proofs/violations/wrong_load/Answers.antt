use Rattle.std.proofs.Common.{ℕ, Option, None, ap, cond, sym, ◌∙◌, ◌<◌, subst}
use Rattle.std.specs.Prelude.{IfSome}
use Rattle.grid_cycle_spec.specs.DataTiles.{wrong_in}
use Rattle.grid_machine.proofs.WrongFacts.{wrong_small}
use Rattle.grid_machine.proofs.violations.wrong_load.Goals as goal

pub returns-then-may : goal.returns-then-may
returns-then-may c =
    let fs = c.args.window.now.window.frames in
    let m = c.args.frame in
    let n = c.args.number in
    record {
      value = c.wrong_in.ensures ∙ ap (λ b. cond b (wrong_in m n fs) None) c.if-may.ensures;
      within = subst (λ (o : Option (ℕ × ℕ)). IfSome o (λ q. q.0 < 8)) (sym c.wrong_in.ensures)
          (wrong_small fs m n c.keeps_invariant.ensures.window.numbers);
    }

pub returns-else-may : goal.returns-else-may
returns-else-may c = record {
  value = ap (λ b. cond b (wrong_in c.args.frame c.args.number c.args.window.now.window.frames) None)
      c.if-may.ensures;
  within = tt;
}
