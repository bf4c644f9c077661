use Rattle.std.proofs.Common.{arith, sym, ap, ◌∙◌, ◌≡◌, ◌+◌, ◌*◌, ◌++◌, ◌∷◌, [], length, slice_set}
use Rattle.std.proofs.lemmas.List.{length-append}
use Rattle.trips_isa.specs.declared.block.Block.{Block}
use Rattle.block_image.specs.inside.ImageReading.{blocks_at}
use Rattle.block_image.proofs.Loops.{fails_of, blocks_fail, blocks_next, filled_is, last_pushed}
use Rattle.block_image.proofs.Loops.{no_block, block_of}
use Rattle.block_image.proofs.container.blocks.Goals as goal

pub index_mut-requires : goal.index_mut-requires
index_mut-requires c =
    let n = c.loop-k.invariant.1 in
    omega (
      arith,
      ap length c.in_default.ensures.items,
      length-append c.loop-k.blocks.items (c.blank.result ∷ []),
    )

pub fill-requires-clause-reads : goal.fill-requires-clause-reads
fill-requires-clause-reads c =
    ap (λ (b : Block). b.reads.items)
    (last_pushed c.loop-k.blocks.items c.push.new.self.items c.blank.result c.index_mut.result.now
    c.loop-k.k c.in_default.ensures.items c.loop-k.invariant.1 c.index_mut.ensures.value)
    ∙ c.blank.ensures.reads

pub fill-requires-clause-writes : goal.fill-requires-clause-writes
fill-requires-clause-writes c =
    ap (λ (b : Block). b.writes.items)
    (last_pushed c.loop-k.blocks.items c.push.new.self.items c.blank.result c.index_mut.result.now
    c.loop-k.k c.in_default.ensures.items c.loop-k.invariant.1 c.index_mut.ensures.value)
    ∙ c.blank.ensures.writes

pub fill-requires-clause-insts : goal.fill-requires-clause-insts
fill-requires-clause-insts c =
    ap (λ (b : Block). b.insts.items)
    (last_pushed c.loop-k.blocks.items c.push.new.self.items c.blank.result c.index_mut.result.now
    c.loop-k.k c.in_default.ensures.items c.loop-k.invariant.1 c.index_mut.ensures.value)
    ∙ c.blank.ensures.insts

pub returns-in-Err : goal.returns-in-Err
returns-in-Err c =
    let place = c.args.at + 128 * c.loop-k.total in
    fails_of c.in-Err.fault _ (blocks_fail c.loop-k.blocks.items c.args.count c.loop-k.k
    c.loop-k.total c.args.at c.args.bytes.now c.in-Err.fault
    (blocks_at c.args.count 0 c.args.at c.args.bytes.now) (omega arith)
    (no_block c.loop-k.total place c.args.bytes.now c.in-Err.fault (sym c.in-Err.ensures.value))
    c.loop-k.invariant.2)

pub returns-in-Err-fill : goal.returns-in-Err-fill
returns-in-Err-fill c =
    let place = c.args.at + 128 * c.loop-k.total in
    fails_of c.in-Err-fill.fault _
    (blocks_fail c.loop-k.blocks.items c.args.count c.loop-k.k c.loop-k.total c.args.at
    c.args.bytes.now c.in-Err-fill.fault (blocks_at c.args.count 0 c.args.at c.args.bytes.now)
    (omega arith)
    (block_of c.loop-k.total place c.args.bytes.now c.in-Ok.words _
    (sym c.in-Ok.ensures.value) c.in-Err-fill.ensures.read) c.loop-k.invariant.2)

pub loop-k-preserved : goal.loop-k-preserved
loop-k-preserved c =
    let place = c.args.at + 128 * c.loop-k.total in
    let old = c.loop-k.blocks.items in
    let b = c.fill.new.block in
    let s : slice_set c.push.new.self.items c.loop-k.k b ≡ old ++ b ∷ [] =
    filled_is old c.push.new.self.items c.blank.result b c.loop-k.k c.in_default.ensures.items
    c.loop-k.invariant.1 in
    let n = c.loop-k.invariant.1 in (
      c.in-Ok-fill.ensures.size.1,
      ap length s ∙ omega (arith, length-append old (b ∷ [])),
      rw s (blocks_next old b c.args.count c.loop-k.k c.loop-k.total c.in-Ok-fill.size c.args.at
          c.args.bytes.now (blocks_at c.args.count 0 c.args.at c.args.bytes.now)
          (omega arith) c.in-Ok-fill.ensures.size.0
          (block_of c.loop-k.total place c.args.bytes.now c.in-Ok.words _
          (sym c.in-Ok.ensures.value) c.in-Ok-fill.ensures.read) c.loop-k.invariant.2),
    )
