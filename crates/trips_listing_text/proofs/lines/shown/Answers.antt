use Rattle.trips_listing_text.proofs.Names.{shown_is}
use Rattle.trips_listing_text.proofs.lines.shown.Goals as goal

pub returns : goal.returns
returns c =
    shown_is c.args.name.now c.split_at.result.0.now c.shown_size.result c.shown_size.ensures.value
    c.split_at.ensures.front
