-- Each guarded instruction stands in another slot, so there are no fewer.
use Rattle.std.proofs.Common.{◌≡◌, ℕ, suc, ◌<◌, ◌≤◌, List, [], ◌∷◌, length, Option, Some, None}
use Rattle.std.proofs.Common.{refl, sym, ap, ◌∙◌, arith}
use Rattle.std.specs.Prelude.{option_map, slice_index_or}
use Rattle.trips_isa.specs.declared.block.Inst.{Inst}
use Rattle.trips_isa.specs.declared.block.Block.{Block}
use Rattle.block_cases.specs.Orders.{slot_of}
use Rattle.grid_place.specs.inside.Moves.{renamed_inst}
use Rattle.grid_place.proofs.Totals.{total, led_apart, total_map, total_same, indices, index_in, index_low}
use Rattle.grid_place.proofs.Totals.{indices_distinct}
use Rattle.c_compile_laws.specs.Counts.{guarded_slot, guarded_slots}
use Rattle.c_compile_laws.specs.inside.GuardLaws.{PlacesGuarded}

-- the guards of slots as a sum over their numbers
summed : (is : List (Option Inst))
    → guarded_slots is ≡ total (λ (s : ℕ). guarded_slot (slice_index_or is s None)) (indices (length is))
summed [] = refl
summed (i ∷ is) =
    let h = summed is in
    let e = total_map suc (λ (s : ℕ). guarded_slot (slice_index_or (i ∷ is) s None)) (indices (length is)) in
    omega (arith, h, e)

moved_same : (p : ℕ → ℕ) (o : Option Inst) → guarded_slot (option_map (renamed_inst p) o) ≡ guarded_slot o
moved_same p None = refl
moved_same p (Some i) = refl

-- slots that are led apart hold no more guards than there are
led : (n : ℕ) (p q : ℕ → ℕ) (t u : Block) → ((s : ℕ) → s < n → p s < n) → ((s : ℕ) → q (p s) ≡ s)
    → ((s : ℕ) → slot_of u (p s) ≡ option_map (renamed_inst p) (slot_of t s))
    → total (λ (s : ℕ). guarded_slot (slot_of t s)) (indices n)
    ≤ total (λ (s : ℕ). guarded_slot (slot_of u s)) (indices n)
led n p q t u within returns moved =
    let w : ℕ → ℕ = λ s. guarded_slot (slot_of u s) in
    let e = total_same (λ (s : ℕ). guarded_slot (slot_of t s)) (λ (s : ℕ). w (p s)) (indices n)
    (λ s i. sym (ap guarded_slot (moved s) ∙ moved_same p (slot_of t s))) in
    let h = led_apart (indices n) (indices n) p w (indices_distinct n)
    (λ s i. (p s, index_in n (p s) (within s (index_low n s i))))
    (λ x y i k z. sym (returns x) ∙ (ap q z ∙ returns y)) in
    omega (arith, e, h)

-- a placed block has no fewer guarded instructions
pub places : PlacesGuarded
places p q t u permutes size moved =
    let there = permutes.there in
    let a = summed t.insts.items in
    let b = summed u.insts.items in
    let same : length u.insts.items ≡ length t.insts.items = moved.size ∙ sym size in
    let d = ap (λ (n : ℕ). total (λ (s : ℕ). guarded_slot (slot_of u s)) (indices n)) same in
    let h = led (length t.insts.items) p q t u
    (λ s l. let x = there.within s (omega (arith, l, size)) in omega (arith, x, size)) permutes.returns moved.insts in
    omega (arith, a, b, d, h)
