-- The lines of blocks, reads and writes are read from their texts.
use Rattle.std.proofs.Common.{◌≡◌, ℕ, ◌<◌, List, ◌∷◌, ◌++◌, append_assoc}
use Rattle.std.proofs.Common.{refl, sym, ap, ◌∙◌, arith, Option, Some, None, Bool, true}
use Rattle.std.proofs.Common.{false}
use Rattle.std.specs.Prelude.{ℤ, pos, codes, ◌==◌}
use Rattle.std.specs.Fmt.{decimal}
use Rattle.std.proofs.lemmas.Bool.{ne_eqb}
use Rattle.trips_isa.specs.declared.block.Spot.{Spot}
use Rattle.trips_isa.specs.declared.block.Spot.TheVariants as spot
use Rattle.trips_isa.specs.declared.block.ReadSlot.{ReadSlot}
use Rattle.trips_isa.specs.Fits.{FitsTarget, FitsOperand, FitsSecond, FitsRead}
use Rattle.isa_table.specs.Spots.{indexed, spot_text}
use Rattle.target_asm_spec.specs.Numbers.{hex_word}
use Rattle.target_asm_spec.specs.Fields.{target_text}
use Rattle.target_asm_spec.specs.Text.{read_line, write_line, block_line}
use Rattle.target_asm_spec.specs.declared.spelled.SpelledRead.{SpelledRead}
use Rattle.target_asm_spec.specs.inside.Reading.{after_in, digits_in, number_in, index_in, word_in}
use Rattle.target_asm_spec.specs.Reading.{field_in}
use Rattle.target_asm_spec.specs.Places.{spot_of, maybe_spot}
use Rattle.target_asm_spec.specs.inside.Places.{target_in, next_in}
use Rattle.target_asm_spec.specs.inside.Registers.{same_text, operands_fit, second_fits, operands_in}
use Rattle.target_asm_spec.specs.inside.Registers.{read_in, write_line_in}
use Rattle.target_asm_spec.specs.Registers.{read_of}
use Rattle.target_asm_spec.specs.inside.Registers.{block_line_in}
use Rattle.target_asm_spec.proofs.Numbers.{after_front, number_pos, index_again}
use Rattle.target_asm_spec.proofs.Numbers.{field_again}
use Rattle.target_asm_spec.proofs.Hexadecimal.{word_again}
use Rattle.target_asm_spec.proofs.Targets.{spelled_spot, spelled_target, target_again, next_again}
use Rattle.target_asm_spec.proofs.Targets.{feed_ends, spot_again}
use Rattle.target_asm_spec.proofs.Targets.{maybe_again}

-- a read as its line spells it
abbrev pub spelled_read : ℕ → ReadSlot → SpelledRead
spelled_read i r = record {
  number = pos i;
  register = pos r.register;
  first = spelled_spot r.first;
  second = spelled_target r.second;
}

-- an operand is a target
pub operand_target : (s : Spot) → FitsOperand s → FitsTarget (Some s)
operand_target (spot.Left n) f = f
operand_target (spot.Right n) f = f
operand_target (spot.Pred n) f = absurd f
operand_target (spot.Write n) f = absurd f
operand_target (spot.Read n) f = absurd f
operand_target (spot.Inst n) f = absurd f
operand_target (spot.Store n) f = absurd f

pub second_target : (first : Spot) (second : Option Spot) → FitsSecond first second
    → FitsTarget second
second_target first None f = tt
second_target first (Some s) f = operand_target s f.0

-- two operands that differ are told apart
second_good : (alike : Bool) (first : Spot) (second : Option Spot) → FitsOperand first
    → FitsSecond first second
    → operands_fit alike (spelled_spot first) (spelled_target second) ≡ true
unfolding operands_fit second_fits
second_good alike (spot.Left n) None f s = refl
second_good alike (spot.Right n) None f s = refl
second_good alike (spot.Left n) (Some (spot.Left m)) f s =
    let e : (n == m) ≡ false = ne_eqb n m (λ e. s.1 (ap spot.Left (sym e))) in rw e refl
second_good alike (spot.Left n) (Some (spot.Right m)) f s = refl
second_good alike (spot.Right n) (Some (spot.Left m)) f s = refl
second_good alike (spot.Right n) (Some (spot.Right m)) f s =
    let e : (n == m) ≡ false = ne_eqb n m (λ e. s.1 (ap spot.Right (sym e))) in rw e refl
second_good alike (spot.Left n) (Some (spot.Pred m)) f s = absurd s.0
second_good alike (spot.Left n) (Some (spot.Write m)) f s = absurd s.0
second_good alike (spot.Left n) (Some (spot.Read m)) f s = absurd s.0
second_good alike (spot.Left n) (Some (spot.Inst m)) f s = absurd s.0
second_good alike (spot.Left n) (Some (spot.Store m)) f s = absurd s.0
second_good alike (spot.Right n) (Some (spot.Pred m)) f s = absurd s.0
second_good alike (spot.Right n) (Some (spot.Write m)) f s = absurd s.0
second_good alike (spot.Right n) (Some (spot.Read m)) f s = absurd s.0
second_good alike (spot.Right n) (Some (spot.Inst m)) f s = absurd s.0
second_good alike (spot.Right n) (Some (spot.Store m)) f s = absurd s.0
second_good alike (spot.Pred n) second f s = absurd f
second_good alike (spot.Write n) second f s = absurd f
second_good alike (spot.Read n) second f s = absurd f
second_good alike (spot.Inst n) second f s = absurd f
second_good alike (spot.Store n) second f s = absurd f

-- the operands of a read, and the end of its line
operands_again : (number register : ℤ) (first : Spot) (second : Option Spot) (rest : List ℕ)
    → FitsOperand first → FitsSecond first second
    → operands_in number register (32 ∷ (spot_text first ++ (target_text second ++ 10 ∷ rest)))
    ≡ Some (
      record {
        number = number;
        register = register;
        first = spelled_spot first;
        second = spelled_target second;
      },
      rest,
    )
unfolding operands_in
operands_again number register first second rest f s =
    let t : List ℕ = target_text second ++ 10 ∷ rest in
    let a : after_in (codes " ") (32 ∷ (spot_text first ++ t)) ≡ Some (spot_text first ++ t) =
    after_front (codes " ") (spot_text first ++ t) in
    let b : target_in (spot_text first ++ t) ≡ Some (spelled_spot first, t) =
    target_again first t (operand_target first f) in
    let c : next_in t ≡ Some (spelled_target second, 10 ∷ rest) =
    next_again second (10 ∷ rest) (second_target first second s) (feed_ends rest) in
    let d : after_in (codes "\n") (10 ∷ rest) ≡ Some rest = after_front (codes "\n") rest in
    let e : operands_fit (same_text (spot_text first ++ t) t) (spelled_spot first) (spelled_target second) ≡ true =
    second_good (same_text (spot_text first ++ t) t) first second f s in
    rw (a, b, c, d, e) refl

-- the line of a read, from the left
after_register : ReadSlot → List ℕ → List ℕ
after_register r rest = 32 ∷ (spot_text r.first ++ (target_text r.second ++ 10 ∷ rest))

read_line_is : (i : ℕ) (r : ReadSlot) (rest : List ℕ) → read_line i r ++ rest
    ≡ codes "R[" ++ (decimal i ++ 93 ∷ (codes " read G[" ++ (decimal r.register ++ 93 ∷ after_register r rest)))
unfolding read_line indexed after_register
read_line_is i r rest = simp append_assoc refl

-- the line of a read that fits is read again
pub read_again : (i : ℕ) (r : ReadSlot) (rest : List ℕ) → i < 1000000000 → FitsRead r
    → read_in (read_line i r ++ rest) ≡ Some (spelled_read i r, rest)
unfolding read_in after_register
read_again i r rest l f =
    let t : List ℕ = after_register r rest in
    let u : List ℕ = codes " read G[" ++ (decimal r.register ++ 93 ∷ t) in
    let a : index_in (codes "R[") (codes "R[" ++ (decimal i ++ 93 ∷ u)) ≡ Some (pos i, u) =
    index_again (codes "R[") i u l in
    let small : r.register < 1000000000 = omega (arith, f.register) in
    let b : index_in (codes " read G[") u ≡ Some (pos r.register, t) =
    index_again (codes " read G[") r.register t small in
    let c = operands_again (pos i) (pos r.register) r.first r.second rest f.first f.second in
    ap read_in (read_line_is i r rest) ∙ rw (a, b) c

-- the line of a read that fits is judged to be this read
pub read_judged : (i : ℕ) (r : ReadSlot) → FitsRead r → read_of (spelled_read i r) ≡ Some r
unfolding read_of
read_judged i r f =
    let a : field_in (pos r.register) 128 ≡ Some r.register = field_again r.register 128 f.register in
    let b : spot_of (spelled_spot r.first) ≡ Some r.first = spot_again r.first (operand_target r.first f.first) in
    let c : maybe_spot (spelled_target r.second) ≡ Some r.second =
    maybe_again r.second (second_target r.first r.second f.second) in
    rw (a, b, c) refl

-- ---- writes and blocks

write_line_is : (i g : ℕ) (rest : List ℕ) → write_line i g ++ rest
    ≡ codes "W[" ++ (decimal i ++ 93 ∷ (codes " write G[" ++ (decimal g ++ 93 ∷ 10 ∷ rest)))
unfolding write_line indexed
write_line_is i g rest = simp append_assoc refl

-- the line of a write is read again
pub write_line_again : (i g : ℕ) (rest : List ℕ) → i < 1000000000 → g < 1000000000
    → write_line_in (write_line i g ++ rest)
    ≡ Some (record { number = pos i; register = pos g }, rest)
unfolding write_line_in
write_line_again i g rest l m =
    let u : List ℕ = codes " write G[" ++ (decimal g ++ 93 ∷ 10 ∷ rest) in
    let a : index_in (codes "W[") (codes "W[" ++ (decimal i ++ 93 ∷ u)) ≡ Some (pos i, u) =
    index_again (codes "W[") i u l in
    let b : index_in (codes " write G[") u ≡ Some (pos g, 10 ∷ rest) =
    index_again (codes " write G[") g (10 ∷ rest) m in
    let d : after_in (codes "\n") (10 ∷ rest) ≡ Some rest = after_front (codes "\n") rest in
    ap write_line_in (write_line_is i g rest) ∙ rw (a, b, d) refl

block_line_is : (k mask : ℕ) (rest : List ℕ) → block_line k mask ++ rest
    ≡ codes "block " ++ (decimal k ++ (codes " mask " ++ (hex_word mask ++ 10 ∷ rest)))
unfolding block_line
block_line_is k mask rest = simp append_assoc refl

space : (rest : List ℕ) → digits_in (32 ∷ rest) ≡ 0
unfolding digits_in
space rest = refl

-- the line of a block is read again
pub block_line_again : (k mask : ℕ) (rest : List ℕ) → k < 1000000000 → mask < 4294967296
    → block_line_in (block_line k mask ++ rest)
    ≡ Some (record { number = pos k; mask = mask }, rest)
unfolding block_line_in
block_line_again k mask rest l m =
    let w : List ℕ = hex_word mask ++ 10 ∷ rest in
    let u : List ℕ = codes " mask " ++ w in
    let a : after_in (codes "block ") (codes "block " ++ (decimal k ++ u)) ≡ Some (decimal k ++ u) =
    after_front (codes "block ") (decimal k ++ u) in
    let b : number_in (decimal k ++ u) ≡ Some (pos k, u) = number_pos k u l (space (codes "mask " ++ w)) in
    let c : after_in (codes " mask ") u ≡ Some w = after_front (codes " mask ") w in
    let d : word_in w ≡ Some (mask, 10 ∷ rest) = word_again mask (10 ∷ rest) m in
    let e : after_in (codes "\n") (10 ∷ rest) ≡ Some rest = after_front (codes "\n") rest in
    ap block_line_in (block_line_is k mask rest) ∙ rw (a, b, c, d, e) refl
