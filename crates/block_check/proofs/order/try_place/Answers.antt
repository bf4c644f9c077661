use Rattle.std.proofs.Common.{◌≡◌, ◌≤◌, get_or, length, arith}
use Rattle.std.proofs.lemmas.Option.{slice_get-get_or}
use Rattle.block_check.proofs.Adding.{blank}
use Rattle.block_check.proofs.Ordering.{some_room, placing_more}
use Rattle.block_check.proofs.Counting.{held, counts_on}
use Rattle.block_check.proofs.order.try_place.Goals as goal
use Rattle.trips_isa.specs.Limits.{most_nodes}

pub place-requires-clause-room : goal.place-requires-clause-room
place-requires-clause-room c =
    let r = some_room c.args.nodes.now c.args.ranks.now c.args.order.now c.args.placed c.args.x
    c.requires.placing c.requires.x (omega arith) in
    let z : length c.args.order.now ≡ length c.args.nodes.now = c.requires.placing.order_size in
    omega (arith, r)

pub returns-clause-placing : goal.returns-clause-placing
returns-clause-placing c =
    placing_more c.args.nodes.now c.args.ranks.now c.args.order.now c.place.new.ranks
    c.place.new.order c.args.placed c.args.x (get_or c.args.nodes.now c.args.x blank)
    c.requires.placing c.requires.size c.requires.x (slice_get-get_or c.args.nodes.now c.args.x
    blank c.requires.x) (omega arith) (c.is_blocked.ensures.free c.if-is_blocked.false)
    c.place.ensures.ranks c.place.ensures.order

pub drop_node-requires-clause-held : goal.drop_node-requires-clause-held
drop_node-requires-clause-held c q lt =
    held c.args.nodes.now c.args.ranks.now c.args.counts.now c.args.x (get_or c.args.nodes.now
    c.args.x blank) q c.requires.counting lt (slice_get-get_or c.args.nodes.now c.args.x blank
    c.requires.x) (let z : length c.args.ranks.now ≡ length c.args.nodes.now =
    c.requires.placing.ranks_size in omega arith) (omega arith)

pub returns-clause-counting : goal.returns-clause-counting
returns-clause-counting c =
    let room = some_room c.args.nodes.now c.args.ranks.now c.args.order.now c.args.placed c.args.x
    c.requires.placing c.requires.x (omega arith) in
    counts_on c.args.nodes.now c.args.ranks.now c.place.new.ranks c.args.counts.now
    c.drop_node.new.counts c.args.x c.args.placed (get_or c.args.nodes.now c.args.x blank)
    c.requires.counting (slice_get-get_or c.args.nodes.now c.args.x blank c.requires.x) (let z
    : length c.args.ranks.now ≡ length c.args.nodes.now = c.requires.placing.ranks_size in
    omega arith) (omega arith) (let s : length c.args.nodes.now ≤ most_nodes = c.requires.size in
    omega (arith, room)) c.place.ensures.ranks c.drop_node.ensures
