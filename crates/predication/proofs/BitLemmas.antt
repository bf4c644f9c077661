-- The bits that registers have behind a set and behind an if.
use Rattle.std.proofs.Common.{◌≡◌, ℕ, Bool, true, false, cond, nat_eq, List, [], ◌∷◌, ◌++◌, refl, sym, ◌∙◌}
use Rattle.std.specs.Prelude.{Some, None}
use Rattle.trips_isa.specs.declared.op.Op.{Op}
use Rattle.trips_isa.specs.declared.op.Op.TheVariants as op
use Rattle.trips_isa.specs.Alu.{alu_of}
use Rattle.predication.specs.inside.Environments.{Bits, note, left_bits, member}
use Rattle.predication.specs.inside.Operands.{is_move}
use Rattle.predication.proofs.TakenLegs.{member_append}

-- a register that has a bit behind some was none of them, and had it before
pub bit_left : (rs : List ℕ) (bits : Bits) (q k : ℕ) → left_bits bits rs q ≡ Some k
    → (member q rs ≡ false) × (bits q ≡ Some k)
bit_left [] bits q k e = (refl, e)
bit_left (r ∷ rs) bits q k e = let z = bit_left rs (note bits r None) q k e in go (nat_eq q r) z.1 z.0
  where
    go : (b : Bool) → cond b None (bits q) ≡ Some k → member q rs ≡ false
        → (cond b true (member q rs) ≡ false) × (bits q ≡ Some k)
    go true e m = absurd (cc e)
    go false e m = (m, e)

neither : (a b : Bool) → cond a true b ≡ false → (a ≡ false) × (b ≡ false)
neither true b e = absurd (cc e)
neither false b e = (refl, e)

-- what is not among two lists is in none
pub none_among : (q : ℕ) (xs ys : List ℕ) → member q (xs ++ ys) ≡ false
    → (member q xs ≡ false) × (member q ys ≡ false)
none_among q xs ys e = neither (member q xs) (member q ys) (sym (member_append q xs ys) ∙ e)

-- a copy gives the word of its first operand
pub move_gives : (o : Op) (x y : ℕ) → is_move o ≡ true → alu_of o x y ≡ x
move_gives op.Mov x y e = refl
move_gives _ x y e = absurd (cc e)
