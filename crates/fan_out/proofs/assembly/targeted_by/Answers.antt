use Rattle.std.proofs.Common.{◌∙◌, length, ap, arith}
use Rattle.fan_out.proofs.Rooms.{empty_front, parts, few_nodes, reads_room, movs_read, nodes_room, few_slots}
use Rattle.fan_out.proofs.assembly.targeted_by.Goals as goal

pub overflow_cast-start : goal.overflow_cast-start
overflow_cast-start c =
    let h = few_nodes c.args.block.now c.requires.room in let e = c.len-start.ensures.value in omega arith

pub reads-requires : goal.reads-requires
reads-requires c = record {
  room = reads_room c.args.block.now c.len-start.result _ _ c.len-start.ensures.value
      c.requires.wires c.as_slice.ensures.value c.requires.room;
}

pub overflow_add-next : goal.overflow_add-next
overflow_add-next c =
    let p = parts c.args.block.now c.requires.room in
    let a = c.len-start.ensures.value in
    let b = c.len.ensures.value in
    let m = ap length (empty_front _ _ _ c.new-read_movs.ensures.value c.in_ok-reads.ensures.movs
    ∙ movs_read c.args.block.now c.len-start.result _ _ c.len-start.ensures.value
    c.requires.wires c.as_slice.ensures.value) in
    omega arith

pub nodes-requires-clause-nodes : goal.nodes-requires-clause-nodes
nodes-requires-clause-nodes c =
    let h = few_nodes c.args.block.now c.requires.room in
    let e = ap length c.as_slice-2.ensures.value in omega arith

pub nodes-requires-clause-room : goal.nodes-requires-clause-room
nodes-requires-clause-room c =
    let m = ap length (empty_front _ _ _ c.new-read_movs.ensures.value c.in_ok-reads.ensures.movs
    ∙ movs_read c.args.block.now c.len-start.result _ _ c.len-start.ensures.value
    c.requires.wires c.as_slice.ensures.value) in
    nodes_room c.args.block.now c.len-start.result c.len.result _ _ c.len-start.ensures.value
    (c.len.ensures.value ∙ m) c.requires.wires
    c.as_slice-2.ensures.value c.requires.room

pub fill_reads-requires-clause-few : goal.fill_reads-requires-clause-few
fill_reads-requires-clause-few c =
    let s = ap length (c.as_slice-3.ensures.value
    ∙ empty_front _ _ _ c.new-reads.ensures.value c.in_ok-reads.ensures.slots) in
    let h = few_slots c.args.block.now c.len-start.result c.args.wires.now
    c.as_slice.result.now c.as_slice.ensures.value c.requires.room in
    omega arith
