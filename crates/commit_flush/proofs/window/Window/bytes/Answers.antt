use Rattle.std.proofs.Common.{◌≡◌, ◌<◌, ap, ◌∙◌, subst, take, slice_index}
use Rattle.trips_isa.specs.Machine.{State}
use Rattle.commit_flush_spec.specs.Frames.{Frame, at}
use Rattle.commit_flush_spec.specs.Older.{after_all, committed}
use Rattle.lsq_order.specs.inside.Taking.{taken}
use Rattle.commit_flush.proofs.LoadFacts.{bytes_low}
use Rattle.commit_flush.proofs.window.Window.bytes.Goals as goal

pub returns : goal.returns
returns c = λ (f : Frame) e.
    let w = c.args.self.now.window in
    let o = committed w.state in
    let older = (after_all (take c.args.age w.frames) o).memory in
    let same : c.memory.result.now ≡ w.state.memory =
    c.memory.ensures.value ∙ ap (λ (s : State). s.memory) c.arch.ensures.state in
    c.over.ensures.value
    ∙ ap (λ xs. taken c.seek_older-sought.result (λ a. slice_index xs a)) same
    ∙ c.seek_older-sought.ensures.taken
    ∙ c.seek-own.ensures.taken f older e
    ∙ c.of.ensures.taken (at f.stores) older c.args.number (bytes_low (take c.args.age w.frames) o
    (λ a. subst (λ xs. slice_index xs a < 256) same (c.over.ensures.bytes a)))
