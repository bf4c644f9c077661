use Rattle.std.proofs.Common.{rules, arith, refl, ◌≡◌, ◌+◌, ◌*◌, ◌/◌, drop}
use Rattle.block_image.specs.Headers.{header_word, first_of}
use Rattle.block_image.proofs.Writing.{pair_small, header_begun, header_step, header_end}
use Rattle.block_image.proofs.put.header_words.Goals as goal

pub loop-i-init : goal.loop-i-init
loop-i-init c = header_begun c.args.info _ c.args.reads.now c.args.writes.now (search rules) refl

pub overflow_cast-pair : goal.overflow_cast-pair
overflow_cast-pair c = omega (
  arith,
  pair_small c.loop-i.i c.loop-i.info c.loop-i.words c.args.reads.now c.args.writes.now _
      (omega arith) c.loop-i.invariant,
)

pub overflow_mul-words : goal.overflow_mul-words
overflow_mul-words c = omega (
  arith,
  pair_small c.loop-i.i c.loop-i.info c.loop-i.words c.args.reads.now c.args.writes.now _
      (omega arith) c.loop-i.invariant,
)

pub overflow_add-words : goal.overflow_add-words
overflow_add-words c = omega (
  arith,
  pair_small c.loop-i.i c.loop-i.info c.loop-i.words c.args.reads.now c.args.writes.now _
      (omega arith) c.loop-i.invariant,
)

pub loop-i-preserved : goal.loop-i-preserved
loop-i-preserved c =
    let q = c.loop-i.info / 4611686018427387904 in
    let e : q * 1073741824 + (c.fields_at.result * 128 + c.write_at.result) ≡ header_word q
    (first_of (drop c.loop-i.i c.args.reads.now)) (first_of (drop c.loop-i.i c.args.writes.now)) =
    let a = c.fields_at.ensures.value in let b = c.write_at.ensures.value in omega arith in
    header_step c.loop-i.i c.loop-i.info _ c.loop-i.words c.args.reads.now c.args.writes.now _
    (omega arith) c.loop-i.invariant e

pub returns : goal.returns
returns c = record {
  value =
      header_end c.loop-i.i c.loop-i.info c.loop-i.words c.args.reads.now c.args.writes.now _
      (omega arith) c.loop-i.invariant;
}
