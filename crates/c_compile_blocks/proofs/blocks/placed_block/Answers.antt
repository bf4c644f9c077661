use Rattle.c_compile_blocks.proofs.blocks.placed_block.Goals as goal

pub returns-in-Ok-clause-ok : goal.returns-in-Ok-clause-ok
returns-in-Ok-clause-ok c = record {
  room = c.in_ok-target.ensures.ok.0;
  target = c.in_ok-target.field-0;
  targeted = c.in_ok-target.ensures.ok.1;
  placed = c.in-Ok.ensures.placed;
}
