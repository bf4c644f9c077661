use Rattle.std.proofs.Common.{sym, subst, arith}
use Rattle.smt_mode.specs.Fours.{HasRan}
use Rattle.smt_mode.specs.Machines.{four_of, images_of}
use Rattle.smt_mode.specs.inside.Histories.{HasCome}
use Rattle.smt_mode.proofs.Endings.{ends_alone, none_goes}
use Rattle.smt_mode.proofs.Histories.{within_cost}
use Rattle.smt_mode.proofs.running.run.Goals as goal

pub endings-requires-clause-four : goal.endings-requires-clause-four
endings-requires-clause-four g c = c.cycles.ensures.engine.ready.four

pub endings-requires-clause-rests : goal.endings-requires-clause-rests
endings-requires-clause-rests g c = λ p l.
    let h = c.cycles.new.machine in
    c.cycles.ensures.engine.come.rests p l (none_goes g.W.Weather.next g.W.Weather.follows (images_of h) h.budget
    (four_of h) c.cycles.ensures.over p l)

pub returns-clause-over : goal.returns-clause-over
returns-clause-over g c =
    let h = c.cycles.new.machine in
    let room = c.cycles.ensures.engine.ready.cycles in
    record {
      over = c.cycles.ensures.over;
      within = within_cost g.W.Weather.next g.W.Weather.follows g.met.W.Weather.bounded (images_of h) h.budget
          (four_of h) c.cycles.ensures.engine.come (omega (arith, room)) c.cycles.ensures.over;
    }

pub returns-clause-alone : goal.returns-clause-alone
returns-clause-alone g c = λ programs weather begins p e l is.
    let m = c.args.machine.now in
    let h = c.cycles.new.machine in
    let next = g.W.Weather.next in
    let follows = g.W.Weather.follows in
    let r = c.cycles.ensures in
    ends_alone next follows (images_of h) h.budget (four_of m) (four_of h) programs weather begins
    (subst (λ bs. HasCome next follows bs h.budget (four_of m)) (sym r.images)
    (subst (λ n. HasCome next follows (images_of m) n (four_of m)) (sym r.budget) c.requires.engine.come))
    (subst (λ bs. HasRan next follows bs h.budget (four_of m) (four_of h)) (sym r.images)
    (subst (λ n. HasRan next follows (images_of m) n (four_of m) (four_of h)) (sym r.budget) r.ran))
    r.engine.come r.over p l e (c.endings.ensures p e l is)
