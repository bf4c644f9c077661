use Rattle.std.proofs.Common.{◌≡◌, ℕ, suc, ◌+◌, ◌++◌, List, drop, get_or, ap, sym, ◌∙◌, arith, append_assoc}
use Rattle.std.specs.Prelude.{None}
use Rattle.trips_isa.specs.Rule.{Answer}
use Rattle.trace_verify.specs.Spelling.{listed_from, listed_bytes, slot_bytes}
use Rattle.trace_verify.proofs.Listing.{next_slot}
use Rattle.trace_verify.proofs.entry.put_slots.Goals as goal

pub loop-slot-preserved : goal.loop-slot-preserved
loop-slot-preserved c =
    ap (λ (xs : List ℕ). xs ++ later) c.in_ok-put_slot.ensures.ok
    ∙ append_assoc c.loop-slot.out.items here later
    ∙ ap (λ (xs : List ℕ). c.loop-slot.out.items ++ xs) (sym (next_slot tokens marks c.loop-slot.slot
    (c.loop-slot.slot + 1) c.args.insts.now (omega (arith, c.loop-slot-test.true, c.requires.slots)) (omega arith)))
    ∙ c.loop-slot.invariant
  where
    tokens : ℕ → Answer
    tokens j = get_or c.args.tokens.now j None

    marks : ℕ → ℕ
    marks j = get_or c.args.marks.now j 0

    here : List ℕ
    here = slot_bytes (get_or c.args.insts.now c.loop-slot.slot None) (marks c.loop-slot.slot)
        (tokens c.loop-slot.slot)

    later : List ℕ
    later = listed_bytes (listed_from tokens marks (c.loop-slot.slot + 1)
        (drop (c.loop-slot.slot + 1) c.args.insts.now))
