use Rattle.std.proofs.Common.{rules, ◌<◌, length}
use Rattle.c_type_expr.proofs.LinkedChains.{last_has_head}
use Rattle.c_type_expr.proofs.entries.undo.Goals as goal

pub offset_bounds-heads-chain : goal.offset_bounds-heads-chain
offset_bounds-heads-chain c =
    let lt : c.chain_of-chain.result < length c.args.heads.now =
    last_has_head c.args.entries.now.items c.pop.new.self.items c.in-Some.entry
    c.as_slice.result.now c.chain_of-chain.result c.args.heads.now c.requires
    c.in-Some.ensures.items c.as_slice.ensures.value c.chain_of-chain.ensures.chain in
    search rules

pub bounds-heads-chain : goal.bounds-heads-chain
bounds-heads-chain c =
    last_has_head c.args.entries.now.items c.pop.new.self.items c.in-Some.entry
    c.as_slice.result.now c.chain_of-chain.result c.args.heads.now c.requires
    c.in-Some.ensures.items c.as_slice.ensures.value c.chain_of-chain.ensures.chain
