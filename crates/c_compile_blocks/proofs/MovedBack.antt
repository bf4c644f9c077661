-- A block whose instructions are moved is moved back by the permutation that goes back.
use Rattle.std.proofs.Common.{◌≡◌, ℕ, List, [], ◌∷◌, map, length, Option, Some, None, refl, sym, ap, ap₂, ◌∙◌}
use Rattle.std.specs.Prelude.{option_map}
use Rattle.trips_isa.specs.declared.block.Spot.{Spot}
use Rattle.trips_isa.specs.declared.block.Spot.TheVariants as spot
use Rattle.trips_isa.specs.declared.block.Inst.{Inst}
use Rattle.trips_isa.specs.declared.block.ReadSlot.{ReadSlot}
use Rattle.trips_isa.specs.declared.block.Block.{Block}
use Rattle.block_cases.specs.Orders.{slot_of}
use Rattle.grid_place.specs.Moves.{Permutes}
use Rattle.grid_place.specs.inside.Moves.{IsMoved, renamed, renamed_read, renamed_inst}

-- a permutation with its inverse, turned round, is one
pub turned : (p q : ℕ → ℕ) → Permutes p q → Permutes q p
turned p q m = record { there = m.back; back = m.there; returns = m.returned; returned = m.returns }

module _ (p q : ℕ → ℕ) (m : Permutes p q) where
  spot_back : (s : Spot) → renamed q (renamed p s) ≡ s
  spot_back (spot.Inst s) = ap spot.Inst (m.returns s)
  spot_back (spot.Left s) = ap spot.Left (m.returns s)
  spot_back (spot.Right s) = ap spot.Right (m.returns s)
  spot_back (spot.Pred s) = ap spot.Pred (m.returns s)
  spot_back (spot.Read r) = refl
  spot_back (spot.Write w) = refl
  spot_back (spot.Store n) = refl

  target_back : (o : Option Spot) → option_map (renamed q) (option_map (renamed p) o) ≡ o
  target_back None = refl
  target_back (Some s) = ap Some (spot_back s)

  read_back : (r : ReadSlot) → renamed_read q (renamed_read p r) ≡ r
  read_back r = ap₂ (λ (a : Spot) (b : Option Spot). record { register = r.register; first = a; second = b })
      (spot_back r.first) (target_back r.second)

  reads_back : (rs : List ReadSlot) → map (renamed_read q) (map (renamed_read p) rs) ≡ rs
  reads_back [] = refl
  reads_back (r ∷ rs) = ap₂ (λ (a : ReadSlot) (b : List ReadSlot). a ∷ b) (read_back r) (reads_back rs)

  inst_back : (i : Inst) → renamed_inst q (renamed_inst p i) ≡ i
  inst_back i = ap₂ (λ (a b : Option Spot). record {
    op = i.op;
    sense = i.sense;
    imm = i.imm;
    number = i.number;
    first = a;
    second = b;
  }) (target_back i.first) (target_back i.second)

  slot_back : (o : Option Inst) → option_map (renamed_inst q) (option_map (renamed_inst p) o) ≡ o
  slot_back None = refl
  slot_back (Some i) = ap Some (inst_back i)

  -- a moved block is moved back by the inverse permutation
  pub moved_back : (t u : Block) → IsMoved p t u → length t.insts.items ≡ 128 → IsMoved q u t
  moved_back t u w n = record {
    reads = sym (ap (map (renamed_read q)) w.reads ∙ reads_back t.reads.items);
    writes = sym w.writes;
    mask = sym w.mask;
    size = n;
    insts = λ s. sym (ap (λ (k : ℕ). option_map (renamed_inst q) (slot_of u k)) (sym (m.returned s))
        ∙ ap (option_map (renamed_inst q)) (w.insts (q s)) ∙ slot_back (slot_of t (q s)));
  }
