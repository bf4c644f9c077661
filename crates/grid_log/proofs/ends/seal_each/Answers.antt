use Rattle.std.proofs.Common.{◌+◌, drop, get_or, [], refl, sym, ap, ap₂, ◌∙◌, subst, arith}
use Rattle.std.proofs.lemmas.List.{at_drop_more, at_drop_all}
use Rattle.grid_cycle_spec.specs.Ends.{seal_each, seal_one}
use Rattle.grid_events.specs.EndNotes.{seal_notes, seals_notes}
use Rattle.grid_parts.specs.Seen.{seen}
use Rattle.grid_log.specs.Logs.{Logged}
use Rattle.grid_log.proofs.Logging.{logged_none}
use Rattle.grid_log.proofs.Turning.{same_logged}
use Rattle.grid_log.proofs.Ending.{one_sealed}
use Rattle.grid_log.proofs.ends.seal_each.Goals as goal

pub loop-n-init : goal.loop-n-init
loop-n-init g c = record { change = refl; told = λ x told. told; counts = refl; image = refl; budget = refl }

pub loop-n-preserved : goal.loop-n-preserved
loop-n-preserved g c =
    let v = c.args.grid.now.window in
    let bs = g.V.Windows.blocks v in
    let b = g.V.Windows.budget v in
    let now = seen (g.V.Windows.held c.loop-n.grid.window) c.loop-n.grid.state in
    let h = c.seal_one.new.grid in
    let after = seen (g.V.Windows.held h.window) h.state in
    let ns = c.args.order.now in
    let n = c.loop-n.n in
    let frame = get_or ns n 0 in
    let image = c.loop-n.invariant.image in
    let budget = c.loop-n.invariant.budget in
    let change = c.seal_one.ensures.change ∙ ap₂ (λ x y. seal_one x y frame now) image budget in
    record {
      change = ap (seal_each bs b (drop (n + 1) ns)) change
          ∙ sym (at_drop_more (λ ms. seal_each bs b ms now) ns n 0 (omega arith)) ∙ c.loop-n.invariant.change;
      told = λ x rest. c.loop-n.invariant.told x
          (subst (λ es. Logged c.loop-n.log es x)
          (sym (at_drop_more (λ ms. seals_notes bs b ms now) ns n 0 (omega arith)))
          (one_sealed bs b frame (drop (n + 1) ns) now after c.loop-n.log c.seal_one.new.log x change
          (same_logged (λ i j. seal_notes i j frame now) _ bs _ b c.loop-n.log c.seal_one.new.log image budget
          c.seal_one.ensures.told) rest));
      counts = c.seal_one.ensures.counts ∙ c.loop-n.invariant.counts;
      image = c.seal_one.ensures.image ∙ image;
      budget = c.seal_one.ensures.budget ∙ budget;
    }

pub returns-clause-change : goal.returns-clause-change
returns-clause-change g c =
    let v = c.args.grid.now.window in
    let now = seen (g.V.Windows.held c.loop-n.grid.window) c.loop-n.grid.state in
    sym (at_drop_all (λ ns. seal_each (g.V.Windows.blocks v) (g.V.Windows.budget v) ns now) c.args.order.now
    c.loop-n.n (omega arith))
    ∙ c.loop-n.invariant.change

pub returns-clause-told : goal.returns-clause-told
returns-clause-told g c =
    let v = c.args.grid.now.window in
    let now = seen (g.V.Windows.held c.loop-n.grid.window) c.loop-n.grid.state in
    c.loop-n.invariant.told c.loop-n.log
    (subst (λ es. Logged c.loop-n.log es c.loop-n.log)
    (sym (at_drop_all (λ ns. seals_notes (g.V.Windows.blocks v) (g.V.Windows.budget v) ns now) c.args.order.now
    c.loop-n.n (omega arith)))
    (logged_none c.loop-n.log [] (λ s. refl)))
