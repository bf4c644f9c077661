use Rattle.std.proofs.Common.{◌≡◌, ◌≤◌, ◌++◌, [], ◌∷◌, Option, map, take, length, arith, sym, ap}
use Rattle.std.proofs.Common.{◌∙◌}
use Rattle.trips_isa.specs.declared.block.Inst.{Inst}
use Rattle.trips_isa.specs.declared.node.Node.{Node}
use Rattle.block_cases.specs.Blocks.{read_node, inst_node, inst_nodes}
use Rattle.block_check.proofs.Building.{insts_more}
use Rattle.block_check.proofs.UsedSlots.{nodes_taken}
use Rattle.block_check.proofs.nodes.make_nodes.Goals as goal

pub loop-j-preserved : goal.loop-j-preserved
loop-j-preserved c =
    let all : length c.args.block.now.insts.items ≡ 128 = c.requires.fits.insts in
    let few : c.args.used ≤ 128 = c.requires.within in
    record {
      items = insts_more (map read_node c.args.block.now.reads.items) c.args.block.now.insts.items
          c.loop-j.j c.loop-j.nodes.items _ (omega arith) c.loop-j.invariant.items
          (c.push-in-loop-j.ensures.items ∙ ap (λ (n : Node). c.loop-j.nodes.items ++ (n ∷ []))
          (c.inst_node.ensures ∙ ap (λ (o : Option Inst). inst_node c.loop-j.j o)
          c.slot_of.ensures));
      size = omega arith;
    }

pub returns : goal.returns
returns c =
    let all : c.loop-j.j ≡ c.args.used = omega arith in
    c.loop-j.invariant.items
    ∙ ap (λ k. map read_node c.args.block.now.reads.items ++ inst_nodes 0 (take k
    c.args.block.now.insts.items)) all
    ∙ sym (nodes_taken c.args.block.now.reads.items c.args.block.now.insts.items c.args.used)
