use Rattle.std.proofs.Common.{ap, sym, ◌∙◌}
use Rattle.std.proofs.lemmas.Option.{same_Some}
use Rattle.trips_isa.specs.Stores.{byte_seen}
use Rattle.commit_flush_spec.specs.Frames.{Frame, at}
use Rattle.lsq_order.specs.inside.Taking.{taken}
use Rattle.commit_flush.proofs.bytes.seek_in.Goals as goal

pub returns-in-Some-clause-taken : goal.returns-in-Some-clause-taken
returns-in-Some-clause-taken c = λ f mem e.
    let same = same_Some _ f (sym c.in-Some.ensures.value ∙ e) in
    c.pass.ensures.taken mem
    ∙ ap (λ xs. taken c.args.sought (byte_seen (at xs) mem c.args.below)) c.stores.ensures.value
    ∙ ap (λ (g : Frame). taken c.args.sought (byte_seen (at g.stores) mem c.args.below)) same
