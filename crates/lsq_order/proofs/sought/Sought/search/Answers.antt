use Rattle.std.proofs.Common.{◌≡◌, ◌-◌, ℕ, Option, None, get_or, sym, ap, ◌∙◌, arith}
use Rattle.trips_isa.specs.declared.block.Stored.{Stored}
use Rattle.trips_isa.specs.Stores.{byte_seen}
use Rattle.lsq_order.specs.inside.Taking.{bit_taken}
use Rattle.lsq_order.proofs.PassFacts.{no_store, taken_gap, turned}
use Rattle.lsq_order.proofs.TakingFacts.{found_bit, taken_same}
use Rattle.lsq_order.proofs.sought.Sought.search.Goals as goal

pub loop-end-init : goal.loop-end-init
loop-end-init c =
    let w = c.end_below-end.ensures.within in
    record {
      sound = c.requires;
      below = omega (arith, w);
      taken = λ mem i l. taken_gap c.args.self (λ n. get_or c.args.stores.now n None) mem c.end_below-end.result
          c.args.below i
          (omega (arith, w))
          (no_store c.args.stores.now c.word.result c.args.below c.min.result c.end_below-end.result
          c.get-all.ensures.size
          c.word.ensures.value (omega arith) c.end_below-end.ensures);
    }

pub returns-then-sought-eq0-clause-taken : goal.returns-then-sought-eq0-clause-taken
returns-then-sought-eq0-clause-taken c = λ mem.
    let stores : ℕ → Option Stored = λ n. get_or c.args.stores.now n None in
    taken_same c.meet-sought.result c.args.self mem (byte_seen stores mem c.args.below) (λ i l.
    found_bit c.meet-sought.result mem i (omega arith)
    ∙ sym (found_bit c.meet-sought.result (byte_seen stores mem (c.loop-end.end - 1)) i (omega arith))
    ∙ turned c.loop-end.sought c.meet-sought.result stores mem c.loop-end.end (c.loop-end.end - 1) c.get.result i
    (omega arith) c.get.ensures.value c.meet-sought.ensures.taken l
    ∙ c.loop-end.invariant.taken mem i l)

pub loop-end-preserved : goal.loop-end-preserved
loop-end-preserved c =
    let stores : ℕ → Option Stored = λ n. get_or c.args.stores.now n None in
    let w = c.end_below-end-in-loop-end.ensures.within in
    let b = c.loop-end.invariant.below in
    record {
      sound = c.meet-sought.ensures.sound;
      below = omega (arith, w, b);
      taken = λ mem i l.
          taken_gap c.meet-sought.result stores mem c.end_below-end-in-loop-end.result (c.loop-end.end - 1) i
          (omega (arith, w))
          (no_store c.args.stores.now c.word.result (c.loop-end.end - 1) _
          c.end_below-end-in-loop-end.result c.get-all.ensures.size c.word.ensures.value (omega (arith, b))
          c.end_below-end-in-loop-end.ensures)
          ∙ turned c.loop-end.sought c.meet-sought.result stores mem c.loop-end.end
          (c.loop-end.end - 1) c.get.result i
          (omega arith) c.get.ensures.value c.meet-sought.ensures.taken l
          ∙ c.loop-end.invariant.taken mem i l;
    }

pub returns-clause-taken : goal.returns-clause-taken
returns-clause-taken c = λ mem.
    let stores : ℕ → Option Stored = λ n. get_or c.args.stores.now n None in
    let none : 0 ≡ c.loop-end.end = omega arith in
    taken_same c.loop-end.sought c.args.self mem (byte_seen stores mem c.args.below) (λ i l.
    ap (λ n. bit_taken c.loop-end.sought (byte_seen stores mem n) i) none
    ∙ c.loop-end.invariant.taken mem i l)
