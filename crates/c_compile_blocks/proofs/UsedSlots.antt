-- The used slots of a placed block are those to which its first slots went.
use Rattle.std.proofs.Common.{◌≡◌, ℕ, zero, suc, ◌+◌, ◌-◌, ◌<◌, ◌≤◌, Bool, true, false, nat_lt, List, [], ◌∷◌, ◌++◌}
use Rattle.std.proofs.Common.{length, map, replicate, Option, Some, None, refl, sym, ap, subst, ◌∙◌, arith}
use Rattle.std.specs.Prelude.{option_map, slice_index_or}
use Rattle.trips_isa.specs.declared.block.Inst.{Inst}
use Rattle.trips_isa.specs.declared.block.Block.{Block}
use Rattle.trips_isa.specs.Images.{chunk_of}
use Rattle.block_cases.specs.Orders as orders
use Rattle.hyper_narrow.specs.inside.NarrowedCode.{Narrowed}
use Rattle.fan_out.specs.declared.wiring.Placed.{Placed}
use Rattle.fan_out.specs.inside.Targeted.{slot_of, slots, count_insts}
use Rattle.grid_place.specs.declared.placed.Placing.{Placing}
use Rattle.grid_place.specs.Moves.{goes}
use Rattle.grid_place.specs.inside.Moves.{renamed_inst}
use Rattle.c_compile_layout.specs.inside.Linking.{Resolves, resolved_slot, resolved_block, by_both}
use Rattle.c_compile_layout.proofs.Linked.{index_map, came}
use Rattle.c_compile_blocks.specs.inside.Blocks.{IsMachineBlock}
use Rattle.c_compile_blocks.specs.Laws.{is_used, HasSlots, HasPlacedSlots}
use Rattle.c_compile_blocks.specs.inside.Laws.{UsesSlots}
use Rattle.c_compile_blocks.proofs.Emitted.{made_from}

lt_true : (a b : ℕ) → a < b → nat_lt a b ≡ true
lt_true a b h = grind arith

lt_false : (a b : ℕ) → b ≤ a → nat_lt a b ≡ false
lt_false a b h = grind arith

none_below : (s : ℕ) → false ≡ nat_lt s 0
none_below s = sym (lt_false s 0 (omega arith))

first_below : (n : ℕ) → true ≡ nat_lt 0 (suc n)
first_below n = sym (lt_true 0 (suc n) (omega arith))

next_below : (s n : ℕ) → nat_lt s n ≡ nat_lt (suc s) (suc n)
next_below s n = go (nat_lt s n) refl
  where
    go : (v : Bool) → nat_lt s n ≡ v → v ≡ nat_lt (suc s) (suc n)
    go true e = sym (lt_true (suc s) (suc n) (let l : s < n = grind arith in omega (arith, l)))
    go false e = sym (lt_false (suc s) (suc n) (let l : n ≤ s = grind arith in omega (arith, l)))

empty : (n s : ℕ) → is_used (slice_index_or (replicate {A = Option Inst} n None) s None) ≡ false
empty zero s = refl
empty (suc n) zero = refl
empty (suc n) (suc s) = empty n s

-- slots behind the instructions are empty
first_used : (ps : List Placed) (n s : ℕ)
    → is_used (slice_index_or (map slot_of ps ++ replicate {A = Option Inst} n None) s None)
    ≡ nat_lt s (length ps)
first_used [] n s = empty n s ∙ none_below s
first_used (x ∷ ps) n zero = first_below (length ps)
first_used (x ∷ ps) n (suc s) = first_used ps n s ∙ next_below s (length ps)

used_renamed : (p : ℕ → ℕ) (i : Option Inst) → is_used (option_map (renamed_inst p) i) ≡ is_used i
used_renamed p None = refl
used_renamed p (Some i) = refl

used_resolved : (r : Resolves) (i : Option Inst) → is_used (resolved_slot r i) ≡ is_used i
used_resolved r None = refl
used_resolved r (Some i) = refl

has_slots : (r : Resolves) (p : Placing) (b : Narrowed) (u : Block) (m : IsMachineBlock p b u)
    → HasSlots (goes m.placed.to) (resolved_block r u)
has_slots r p b u m = record {
  count = count_insts m.flow;
  used = λ s.
      ap is_used (index_map r u.insts.items (goes m.placed.to s))
      ∙ (used_resolved r (orders.slot_of u (goes m.placed.to s))
      ∙ (ap is_used (m.placed.moved.insts s)
      ∙ (used_renamed (goes m.placed.to) (orders.slot_of m.target s)
      ∙ (ap (λ (is : List (Option Inst)). is_used (slice_index_or is s None)) m.targeted.insts
      ∙ first_used (slots m.flow) (128 - length (slots m.flow)) s))));
}

has_placed_slots : (r : Resolves) (p : Placing) (b : Narrowed) (u : Block) → IsMachineBlock p b u
    → HasPlacedSlots p (resolved_block r u)
has_placed_slots r p b u m = record { to = m.placed.to; is = m.placed.is; slots = has_slots r p b u m }

-- the used slots of a placed block are those to which its first slots went
pub uses_slots : UsesSlots
uses_slots p B us all k t e =
    let c = came (chunk_of us) 0 us k t e in
    let f = made_from B us k c.block all.size c.there in
    subst (λ (t : Block). HasPlacedSlots p t) c.is
    (has_placed_slots (by_both (chunk_of us) (0 + k)) p f.block c.block (all.each k f.block c.block f.there c.there))
