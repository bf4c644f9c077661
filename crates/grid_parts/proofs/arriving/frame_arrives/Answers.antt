use Rattle.std.proofs.Common.{sym, ap₂, ◌∙◌, arith}
use Rattle.grid_cycle_spec.specs.Choosing.{each}
use Rattle.grid_cycle_spec.specs.inside.Choosing.{places}
use Rattle.grid_cycle_spec.specs.inside.Arrivals.{arrival}
use Rattle.grid_parts.specs.Seen.{seen}
use Rattle.grid_parts.proofs.ArrivalFolds.{all_quiet}
use Rattle.grid_parts.proofs.arriving.frame_arrives.Goals as goal

pub loop-from-preserved : goal.loop-from-preserved
loop-from-preserved g c =
    let n = c.args.frame in
    let now = seen (g.V.Windows.held c.loop-from.grid.window) c.loop-from.grid.state in
    let after = seen (g.V.Windows.held c.next_arrives-from.new.grid.window) c.next_arrives-from.new.grid.state in
    let one = c.next_arrives-from.ensures.few in
    let more = c.next_arrives-from.ensures.more in
    let before = c.loop-from.invariant.few in
    let bs = c.loop-from.invariant.image in
    let b = c.loop-from.invariant.budget in
    record {
      change = sym (ap₂ (λ x y. each (arrival x y n) places after) bs b)
          ∙ c.next_arrives-from.ensures.change
          ∙ ap₂ (λ x y. each (arrival x y n) places now) bs b
          ∙ c.loop-from.invariant.change;
      quiet = c.next_arrives-from.ensures.quiet;
      within = c.next_arrives-from.ensures.within;
      few = omega (arith, one, before, more);
      image = c.next_arrives-from.ensures.image ∙ bs;
      budget = c.next_arrives-from.ensures.budget ∙ b;
    }

pub returns-clause-change : goal.returns-clause-change
returns-clause-change g c =
    let v = c.args.grid.now.window in
    let now = seen (g.V.Windows.held c.loop-from.grid.window) c.loop-from.grid.state in
    sym (all_quiet (g.V.Windows.blocks v) (g.V.Windows.budget v) c.args.frame c.loop-from.from now
    (omega arith) c.loop-from.invariant.quiet)
    ∙ c.loop-from.invariant.change

pub returns-clause-few : goal.returns-clause-few
returns-clause-few g c =
    let within = c.loop-from.invariant.within in
    let few = c.loop-from.invariant.few in
    omega (arith, within, few)
