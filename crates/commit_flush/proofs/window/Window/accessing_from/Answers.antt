use Rattle.std.proofs.Common.{arith, subst}
use Rattle.commit_flush.specs.inside.Accesses.{NoneStores, NoneLoads}
use Rattle.commit_flush.specs.Seen.{Seen}
use Rattle.commit_flush.proofs.BitFacts.{both_clear}
use Rattle.commit_flush.proofs.GapFacts.{none_stores, none_loads}
use Rattle.commit_flush.proofs.PhaseFacts.{few_seen}
use Rattle.commit_flush.proofs.window.Window.accessing_from.Goals as goal

pub next_from-next-requires : goal.next_from-next-requires
next_from-next-requires c =
    let few = few_seen c.self.invariant.sound _ c.self.view_is in
    let from = c.requires in
    omega (arith, few, from)

pub returns : goal.returns
returns c =
    let next = c.next_from-next.ensures in
    record {
      onward = omega (arith, next.onward, c.requires, c.in_flight-count.ensures.value);
      within = omega (arith, c.in_flight-count.ensures.value);
      stores = subst (λ (z : Seen). NoneStores c.args.from c.min.result z.window.frames) c.self.view_is
          (none_stores _ _ c.self.invariant.accesses.stores c.args.from c.min.result (λ a from below.
          (both_clear c.self.inside.storing c.self.inside.loading a (next.none a from (omega (arith, below)))).0));
      loads = subst (λ (z : Seen). NoneLoads c.args.from c.min.result z.window.frames) c.self.view_is
          (none_loads _ _ c.self.invariant.accesses.loads c.args.from c.min.result (λ a from below.
          (both_clear c.self.inside.storing c.self.inside.loading a (next.none a from (omega (arith, below)))).1));
    }
