use Rattle.std.proofs.Common.{◌≤◌, ◌<◌, ap, sym, ◌∙◌, subst, length}
use Rattle.trips_isa.specs.declared.run.Stepped.TheVariants.{Went}
use Rattle.trips_isa.specs.Machine.{State}
use Rattle.commit_flush_spec.specs.InFlight.{opened}
use Rattle.reg_bank.specs.inside.Ages.{at}
use Rattle.commit_flush.specs.inside.Seen.{IsSound, window_of}
use Rattle.commit_flush.proofs.OpenFacts.{opens, sound}
use Rattle.commit_flush.proofs.AccessFacts.{empty_stands}
use Rattle.commit_flush.proofs.window.Window.make_at.Goals as goal

pub invariant_of-result : goal.invariant_of-result
invariant_of-result c =
    let machine = c.keep_within.new.self in
    let same = c.keep_within.ensures.state in
    empty_stands (subst (λ o. IsSound c.args.image c.args.budget machine Went c.in_ok-frames.frames.items o (at
    c.make.result))
    (sym c.new.ensures)
    (sound c.args.image c.args.budget machine c.in_ok-frames.frames.items
    (at c.make.result) c.count-count.ensures.image
    c.in_ok-frames.ensures.fresh c.in_ok-frames.ensures.eight c.keep_within.ensures.budget
    c.register-register.ensures.count
    (ap length (sym c.memory-memory.ensures.value) ∙ c.memory-memory.ensures.size)
    (subst (λ (s : State). length s.trace ≤ c.args.budget) (sym same) c.requires.spent)
    (subst (λ (s : State). s.next < length c.args.image.blocks) (sym same) c.requires.next)
    c.make.ensures)) c.new.ensures

pub returns-clause-opens : goal.returns-clause-opens
returns-clause-opens c =
    let machine = c.keep_within.new.self in
    ap (window_of c.args.image.blocks machine.state Went c.in_ok-frames.frames.items) c.new.ensures
    ∙ opens c.args.image.blocks machine c.in_ok-frames.frames.items c.in_ok-frames.ensures.fresh
    c.in_ok-frames.ensures.eight
    ∙ ap opened c.keep_within.ensures.state
