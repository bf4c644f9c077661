use Rattle.grid_tallies.proofs.Fetched.{fetched_by, fetched_none}
use Rattle.grid_tallies.proofs.fetches.fetch_of.Goals as goal

pub returns-in-Some : goal.returns-in-Some
returns-in-Some g c =
    fetched_by c.args.state.now.fetching c.block.result c.in-Some.block c.is_careful.result c.block.ensures.some
    c.block.ensures.none c.is_careful.ensures c.in-Some.is

pub returns-in-None : goal.returns-in-None
returns-in-None g c =
    fetched_none c.args.state.now.fetching c.block.result c.block.ensures.some c.in-None.is
