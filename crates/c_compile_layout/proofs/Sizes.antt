-- The machine block of a flow block has its parts in their sizes.
use Rattle.std.proofs.Common.{◌≡◌, ℕ, suc, ◌+◌, ◌-◌, ◌≤◌, List, [], ◌∷◌, map, length, replicate, Option, None}
use Rattle.std.proofs.Common.{refl, ap, ◌∙◌, arith, length-append}
use Rattle.std.proofs.lemmas.List.{length-map, length-replicate}
use Rattle.trips_isa.specs.declared.block.Block.{Block}
use Rattle.trips_isa.specs.declared.block.Inst.{Inst}
use Rattle.trips_isa.specs.declared.block.ReadSlot.{ReadSlot}
use Rattle.ir_forms.specs.declared.flow.FlowBlock.{FlowBlock}
use Rattle.fan_out.specs.declared.wiring.Placed.{Placed}
use Rattle.fan_out.specs.declared.wiring.Wire.{Wire}
use Rattle.fan_out.specs.inside.Targeted.{fan_of_read, filled, read_slots, register_of, slot_of, slots}
use Rattle.fan_out.specs.inside.Targeted.{HasRoom, IsTargeted}
use Rattle.fan_out.specs.inside.Wires.{wires}
use Rattle.grid_place.specs.inside.Moves.{HasSizes}

filled_size : (ps : List Placed) → length ps ≤ 128 → length (filled ps) ≡ 128
filled_size ps l =
    let a = length-append (map slot_of ps) (replicate {A = Option Inst} (128 - length ps) None) in
    let m = length-map ps slot_of in
    let r = length-replicate {A = Option Inst} (128 - length ps) None in
    omega (arith, l, a, m, r)

reads_size : (ws : List Wire) (next : ℕ) (rs : List ℕ) → length (read_slots ws next rs) ≡ length rs
reads_size ws next [] = refl
reads_size ws next (r ∷ rs) =
    ap suc (reads_size ws (next + length (fan_of_read ws next r).movs) rs)

-- the machine block of a flow block has its parts in their sizes
pub has_sizes : (f : FlowBlock) (t : Block) → HasRoom f → IsTargeted f t → HasSizes t
has_sizes f t room is = record {
  reads =
      let e : length t.reads.items ≡ length f.reads =
      ap (λ (xs : List ReadSlot). length xs) is.reads
      ∙ reads_size (wires f) (length f.nodes) f.reads in
      let l = room.reads in
      omega (arith, e, l);
  writes =
      let e : length t.writes.items ≡ length f.writes =
      ap (λ (xs : List ℕ). length xs) is.writes ∙ length-map f.writes register_of in
      let l = room.writes in
      omega (arith, e, l);
  insts = ap (λ (xs : List (Option Inst)). length xs) is.insts ∙ filled_size (slots f) room.insts;
}
