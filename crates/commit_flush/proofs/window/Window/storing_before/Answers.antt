use Rattle.std.proofs.Common.{arith, subst}
use Rattle.commit_flush.specs.inside.Accesses.{NoneStores}
use Rattle.commit_flush.specs.Seen.{Seen}
use Rattle.commit_flush.proofs.GapFacts.{none_stores}
use Rattle.commit_flush.proofs.PhaseFacts.{few_seen}
use Rattle.commit_flush.proofs.window.Window.storing_before.Goals as goal

pub end_below-requires : goal.end_below-requires
end_below-requires c =
    let few = few_seen c.self.invariant.sound _ c.self.view_is in
    let age = c.requires in
    omega (arith, few, age)

pub returns : goal.returns
returns c = record {
  within = c.end_below.ensures.within;
  none = subst (λ (z : Seen). NoneStores c.end_below.result c.args.age z.window.frames) c.self.view_is
      (none_stores _ _ c.self.invariant.accesses.stores c.end_below.result c.args.age c.end_below.ensures.none);
}
