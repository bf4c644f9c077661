-- Worked rows of the definitions, by evaluation; and that the two halves of an address make it.
use Rattle.std.proofs.Common.{◌≡◌, ℕ, ◌+◌, ◌*◌, ◌/◌, ◌%◌, ◌^◌, ◌<◌, [], ◌∷◌, refl, ap, ◌∙◌, arith}
use Rattle.std.specs.Prelude.{pos, negsuc}
use Rattle.std.proofs.Math.Nat.{mod-eq_of_lt, mod-add-div'}
use Rattle.trips_isa.specs.declared.op.Op.TheVariants as op
use Rattle.trips_isa.specs.Alu.{alu_of, word}
use Rattle.c_compile_layout.specs.inside.Linking.{offset, by_offset, by_address}
use Rattle.c_compile_layout.specs.inside.Standings.{trimmed}

pub three_back : offset 5 2 ≡ negsuc 2
three_back = refl

pub three_on : offset 2 5 ≡ pos 3
three_on = refl

pub to_itself : offset 4 4 ≡ pos 0
to_itself = refl

-- blocks of three chunks each: block 2 calls block 0
pub called_back : by_offset (λ l. 3 * l) 2 op.Callo (pos 0) ≡ negsuc 5
called_back = refl

-- label 1,000 at the address 128 * 3,000 = 5 * 65,536 + 56,320
pub high_half : by_address (λ l. 384 * l) op.Genu (pos 66536) ≡ pos 5
high_half = refl

pub low_half : by_address (λ l. 384 * l) op.App (pos 66536) ≡ pos 56320
low_half = refl

-- a constant of the program stays
pub plain_constant : by_address (λ l. 384 * l) op.Genu (pos 1000) ≡ pos 1000
plain_constant = refl

pub zeros_go : trimmed (1 ∷ 0 ∷ 2 ∷ 0 ∷ 0 ∷ []) ≡ 1 ∷ 0 ∷ 2 ∷ []
zeros_go = refl

-- `genu` of the high half and `app` of the low half give the address
pub halves_make_it : (a : ℕ) → a < 2 ^ 32
    → alu_of op.App (alu_of op.Genu 0 (word (pos (a / 65536)))) (word (pos (a % 65536))) ≡ a
halves_make_it a l =
    let e : a % 65536 + a / 65536 * 65536 ≡ a = mod-add-div' a 65536 in
    let s : a / 65536 * 65536 + a % 65536 ≡ a = omega (arith, e) in
    ap (λ n. n % 2 ^ 64) s ∙ mod-eq_of_lt (omega (arith, l))
