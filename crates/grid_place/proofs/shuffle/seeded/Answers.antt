use Rattle.std.proofs.Common.{ℕ, ◌+◌, ◌-◌, ◌%◌, arith, sym, ap, ap₂, ◌∙◌}
use Rattle.std.specs.List.{swap}
use Rattle.rand_pcg.specs.Lcg.{Lcg}
use Rattle.grid_place.specs.Seeded.{shuffled}
use Rattle.grid_place.proofs.Shuffles.{seeded_is, one_less, none_left}
use Rattle.grid_place.proofs.shuffle.seeded.Goals as goal

pub loop-i-init : goal.loop-i-init
loop-i-init c = (
  omega arith,
  ap₂ (λ g p. shuffled 127 g p) c.new-generator.ensures c.in_place.ensures.value
      ∙ seeded_is c.args.seed,
)

pub loop-i-preserved : goal.loop-i-preserved
loop-i-preserved c = (
  (let h = c.loop-i.invariant.0 in omega (arith, h)),
  ap₂ (λ g p. shuffled (c.loop-i.i - 1) g p) (ap (λ (z : ℕ × Lcg). z.1) c.next_word.ensures)
      (c.swap.ensures.after ∙ ap (λ (z : ℕ × Lcg). swap c.loop-i.to c.loop-i.i
      (z.0 % (c.loop-i.i + 1)))
      c.next_word.ensures)
      ∙ one_less c.loop-i.i c.loop-i.generator c.loop-i.to c.loop-i-test.true
      ∙ c.loop-i.invariant.1,
)

pub returns : goal.returns
returns c = record {
  value = sym (none_left c.loop-i.i c.loop-i.generator c.loop-i.to c.loop-i-test.false)
      ∙ c.loop-i.invariant.1;
}
