use Rattle.std.proofs.Common.{ℕ, sym, ap, ◌∙◌}
use Rattle.operand_net.specs.Places.{at, injected}
use Rattle.operand_net.specs.declared.parcel.Parcel.{Parcel}
use Rattle.grid_parts.specs.Seen.{seen}
use Rattle.grid_parts.specs.inside.Changes.{with_parcels}
use Rattle.grid_parts.proofs.state.State.enter.Goals as goal

pub returns : goal.returns
returns g c = λ w e.
    let parcel : ℕ → Parcel = λ x. record {
      frame = c.args.frame;
      generation = x;
      from = c.args.from;
      to = c.args.to;
      place = c.args.place;
    } in
    ap (λ m. with_parcels m (seen w c.args.self.now))
    (c.inject.ensures ∙ ap (λ x. injected (at c.args.self.now.mesh) (parcel x)) (sym e))
