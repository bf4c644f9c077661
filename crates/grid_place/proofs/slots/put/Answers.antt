use Rattle.std.proofs.Common.{◌≡◌, ◌≢◌, ◌<◌, ◌≤◌, ℕ, List, None, get_or, length, sym, ap, ◌∙◌, arith, below_more}
use Rattle.std.proofs.lemmas.List.{get_or-replicate}
use Rattle.std.specs.Prelude.{Option}
use Rattle.trips_isa.specs.declared.block.Inst.{Inst}
use Rattle.grid_place.specs.Moves.{IsPermutation, goes}
use Rattle.grid_place.proofs.slots.put.Goals as goal

-- two slots that go to one place are one
distinct : (p : List ℕ) (i : IsPermutation p) (a b : ℕ) → a ≢ b → goes p a ≢ goes p b
distinct p i a b n = λ e. n (sym (i.permutes.returns a) ∙ ap i.back e ∙ i.permutes.returns b)

pub loop-s-init : goal.loop-s-init
loop-s-init c = record {
  there = λ k l. absurd (omega (arith, l));
  none = λ k l m. rw c.requires.out (get_or-replicate 128 (goes c.args.to.now k) None None
      (c.requires.permutes.permutes.there.within k m));
  size = ap (λ (l : List (Option Inst)). length l) c.requires.out;
}

pub loop-s-preserved : goal.loop-s-preserved
loop-s-preserved c =
    let others = λ (k : ℕ) (n : k ≢ c.loop-s.s). c.put_slot.ensures.others (goes c.args.to.now k)
    (distinct c.args.to.now c.requires.permutes k c.loop-s.s n) in
    record {
      there = below_more _ _
          (λ k l. others k (omega (arith, l)) ∙ c.loop-s.invariant.there k l) c.put_slot.ensures.there;
      none = λ k l m. others k (omega (arith, l)) ∙ c.loop-s.invariant.none k (omega (arith, l)) m;
      size = c.put_slot.ensures.size ∙ c.loop-s.invariant.size;
    }
