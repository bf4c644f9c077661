-- The fields of a word: what is read is spelled so, and what was written is read again.
use Rattle.std.proofs.Common.{◌≡◌, ℕ, ◌+◌, ◌-◌, ◌/◌, ◌%◌, ◌^◌, ◌<◌, ◌≤◌, Bool, true, false, cond}
use Rattle.std.proofs.Common.{[], ◌∷◌, Option, Some, None, refl, sym, ap, subst, arith, nat_eq}
use Rattle.std.proofs.Common.{nat_lt, lit<}
use Rattle.std.specs.Prelude.{ℤ, pos, negsuc}
use Rattle.std.proofs.lemmas.Bool.Decides.{nat_tests}
use Rattle.std.proofs.lemmas.Option.{same_Some}
use Rattle.trips_isa.specs.declared.op.Op.{Op}
use Rattle.trips_isa.specs.declared.op.Op.TheVariants.{Bro, Callo, Gens}
use Rattle.trips_isa.specs.declared.block.Spot.TheVariants as spot
use Rattle.trips_isa.specs.declared.block.Sense.{Sense}
use Rattle.trips_isa.specs.declared.block.Sense.TheVariants.{Always, OnTrue, OnFalse}
use Rattle.trips_isa.specs.Fits.{FitsTarget, FitsSigned, FitsUnsigned, FitsOffset, FitsConstant}
use Rattle.trips_isa.specs.Limits.{offset_half}
use Rattle.block_image.specs.Words.{word_of, sense_number, target_number, signed_number}
use Rattle.block_image.specs.inside.WordReading.{◌>>=◌, part, sense_at, Target, target_at, signed_at}
use Rattle.block_image.specs.inside.WordReading.{offset_at, constant_of}

-- where two steps in a row give something, the first gave something, and the second did of it
pub bind_some : {A B : Type 0} (o : Option A) (f : A → Option B) (y : B) → (o >>= f) ≡ Some y
    → (x : A) × (o ≡ Some x) × (f x ≡ Some y)
bind_some None f y e = absurd cc
bind_some (Some x) f y e = (x, refl, e)

-- ---- parts of a word

-- the fields of a word in the common form
pub record Parts (w a b c d e : ℕ) : Type 0 where
  pub opcode : part w 33554432 128 ≡ a
  pub sense : part w 8388608 4 ≡ b
  pub extended : part w 262144 32 ≡ c
  pub upper : part w 512 512 ≡ d
  pub lower : part w 1 512 ≡ e

-- a word that is written of such fields has them
pub parts : (a b c d e : ℕ) → a < 128 → b < 4 → c < 32 → d < 512 → e < 512
    → Parts (word_of ((7, a) ∷ (2, b) ∷ (5, c) ∷ (9, d) ∷ (9, e) ∷ [])) a b c d e
parts a b c d e la lb lc ld le =
    record {
      opcode = omega arith;
      sense = omega arith;
      extended = omega arith;
      upper = omega arith;
      lower = omega arith;
    }

-- a word with such fields is written of them
pub whole : (w a b c d e : ℕ) → w < 2 ^ 32 → Parts w a b c d e
    → word_of ((7, a) ∷ (2, b) ∷ (5, c) ∷ (9, d) ∷ (9, e) ∷ []) ≡ w
whole w a b c d e lt p =
    let q0 : w / 33554432 % 128 ≡ a = p.opcode in
    let q1 : w / 8388608 % 4 ≡ b = p.sense in
    let q2 : w / 262144 % 32 ≡ c = p.extended in
    let q3 : w / 512 % 512 ≡ d = p.upper in
    let q4 : w / 1 % 512 ≡ e = p.lower in
    omega arith

-- the fields of a word in the form of a branch
pub record BranchParts (w a b c d : ℕ) : Type 0 where
  pub opcode : part w 33554432 128 ≡ a
  pub sense : part w 8388608 4 ≡ b
  pub exit : part w 1048576 8 ≡ c
  pub offset : part w 1 1048576 ≡ d

-- a branch's word that is written of such fields has them
pub branch_parts : (a b c d : ℕ) → a < 128 → b < 4 → c < 8 → d < 1048576
    → BranchParts (word_of ((7, a) ∷ (2, b) ∷ (3, c) ∷ (20, d) ∷ [])) a b c d
branch_parts a b c d la lb lc ld =
    record { opcode = omega arith; sense = omega arith; exit = omega arith; offset = omega arith }

-- a branch's word with such fields is written of them
pub branch_whole : (w a b c d : ℕ) → w < 2 ^ 32 → BranchParts w a b c d
    → word_of ((7, a) ∷ (2, b) ∷ (3, c) ∷ (20, d) ∷ []) ≡ w
branch_whole w a b c d lt p =
    let q0 : w / 33554432 % 128 ≡ a = p.opcode in
    let q1 : w / 8388608 % 4 ≡ b = p.sense in
    let q2 : w / 1048576 % 8 ≡ c = p.exit in
    let q3 : w / 1 % 1048576 ≡ d = p.offset in
    omega arith

-- the fields of a word in the form of a constant
pub record ConstantParts (w a b c : ℕ) : Type 0 where
  pub opcode : part w 33554432 128 ≡ a
  pub constant : part w 512 65536 ≡ b
  pub lower : part w 1 512 ≡ c

-- a constant's word that is written of such fields has them
pub constant_parts : (a b c : ℕ) → a < 128 → b < 65536 → c < 512
    → ConstantParts (word_of ((7, a) ∷ (16, b) ∷ (9, c) ∷ [])) a b c
constant_parts a b c la lb lc =
    record { opcode = omega arith; constant = omega arith; lower = omega arith }

-- a constant's word with such fields is written of them
pub constant_whole : (w a b c : ℕ) → w < 2 ^ 32 → ConstantParts w a b c
    → word_of ((7, a) ∷ (16, b) ∷ (9, c) ∷ []) ≡ w
constant_whole w a b c lt p =
    let q0 : w / 33554432 % 128 ≡ a = p.opcode in
    let q1 : w / 512 % 65536 ≡ b = p.constant in
    let q2 : w / 1 % 512 ≡ c = p.lower in
    omega arith

-- ---- fields

-- the number of a sense is below 4
pub sense_below : (s : Sense) → sense_number s < 4
sense_below Always = lit< tt
sense_below OnTrue = lit< tt
sense_below OnFalse = lit< tt

-- a sense is read again from its number
pub sense_again : (s : Sense) → sense_at (sense_number s) ≡ Some s
unfolding sense_at
sense_again Always = refl
sense_again OnTrue = refl
sense_again OnFalse = refl

-- where the test of equality is true, the numbers are equal
pub eq_is : (a b : ℕ) → nat_eq a b ≡ true → a ≡ b
eq_is a b e = grind (arith, nat_tests)

-- a choice of readings, each of which gives what holds, gives what holds
pub pick : {A : Type 0} (P : A → Type 0) (b : Bool) (x y : Option A) (t : A)
    → (b ≡ true → x ≡ Some t → P t) → (b ≡ false → y ≡ Some t → P t) → cond b x y ≡ Some t → P t
pick P true x y t f g e = f refl e
pick P false x y t f g e = g refl e

-- what holds of the item that is given holds of the one that is found
pub found : {A : Type 0} (P : A → Type 0) (u t : A) → P u → Some u ≡ Some t → P t
found P u t p e = subst P (same_Some u t e) p

-- where no item is given, none is found
pub nothing : {A : Type 0} (P : A → Type 0) (t : A) → None ≡ Some t → P t
nothing P t e = absurd cc

-- a sense that is read of a number has this number
pub sense_takes : (n : ℕ) (s : Sense) → sense_at n ≡ Some s → sense_number s ≡ n
unfolding sense_at
sense_takes n s =
    let P : Sense → Type 0 = λ s. sense_number s ≡ n in
    pick P (nat_eq n 0) _ _ s (λ b. found P Always s (sym (eq_is n 0 b))) (λ b0.
    pick P (nat_eq n 2) _ _ s (λ b. found P OnFalse s (sym (eq_is n 2 b))) (λ b1.
    pick P (nat_eq n 3) _ _ s (λ b. found P OnTrue s (sym (eq_is n 3 b))) (λ b2. nothing P s)))

-- the number of a target that fits is below 512
pub target_below : (t : Target) → FitsTarget t → target_number t < 512
target_below None h = lit< tt
target_below (Some (spot.Write w)) h = let l : w < 32 = h in omega arith
target_below (Some (spot.Pred s)) h = let l : s < 128 = h in omega arith
target_below (Some (spot.Left s)) h = let l : s < 128 = h in omega arith
target_below (Some (spot.Right s)) h = let l : s < 128 = h in omega arith
target_below (Some (spot.Read s)) h = absurd h
target_below (Some (spot.Inst s)) h = absurd h
target_below (Some (spot.Store s)) h = absurd h

-- numbers that differ test as not equal
pub eq_no : (a b : ℕ) → (a ≡ b → ⊥) → nat_eq a b ≡ false
eq_no a b h = grind (arith, nat_tests)

-- of a lesser number the test of less is true
pub lt_yes : (a b : ℕ) → a < b → nat_lt a b ≡ true
lt_yes a b h = grind (arith, nat_tests)

-- of a number that is not less the test of less is false
pub lt_no : (a b : ℕ) → b ≤ a → nat_lt a b ≡ false
lt_no a b h = grind (arith, nat_tests)

pub lt_is : (a b : ℕ) → nat_lt a b ≡ true → a < b
lt_is a b h = grind (arith, nat_tests)

pub le_is : (a b : ℕ) → nat_lt a b ≡ false → b ≤ a
le_is a b h = grind (arith, nat_tests)

-- a target that fits is read again from its number
pub target_again : (t : Target) → FitsTarget t → target_at (target_number t) ≡ Some t
unfolding target_at
target_again None h = refl
target_again (Some (spot.Write w)) h =
    let l : w < 32 = h in
    let n : ℕ = 32 + w in
    let e : 32 + w - 32 ≡ w = omega arith in
    rw (
      eq_no (32 + w) 0 (λ z. omega arith),
      lt_no (32 + w) 32 (omega arith),
      lt_yes (32 + w) 64 (omega arith),
      e,
    ) refl
target_again (Some (spot.Pred s)) h =
    let l : s < 128 = h in
    let e : 128 + s - 128 ≡ s = omega arith in
    rw (
      eq_no (128 + s) 0 (λ z. omega arith),
      lt_no (128 + s) 32 (omega arith),
      lt_no (128 + s) 64 (omega arith),
      lt_no (128 + s) 128 (omega arith),
      lt_yes (128 + s) 256 (omega arith),
      e,
    ) refl
target_again (Some (spot.Left s)) h =
    let l : s < 128 = h in
    let e : 256 + s - 256 ≡ s = omega arith in
    rw (
      eq_no (256 + s) 0 (λ z. omega arith),
      lt_no (256 + s) 32 (omega arith),
      lt_no (256 + s) 64 (omega arith),
      lt_no (256 + s) 128 (omega arith),
      lt_no (256 + s) 256 (omega arith),
      lt_yes (256 + s) 384 (omega arith),
      e,
    ) refl
target_again (Some (spot.Right s)) h =
    let l : s < 128 = h in
    let e : 384 + s - 384 ≡ s = omega arith in
    rw (
      eq_no (384 + s) 0 (λ z. omega arith),
      lt_no (384 + s) 32 (omega arith),
      lt_no (384 + s) 64 (omega arith),
      lt_no (384 + s) 128 (omega arith),
      lt_no (384 + s) 256 (omega arith),
      lt_no (384 + s) 384 (omega arith),
      e,
    ) refl
target_again (Some (spot.Read s)) h = absurd h
target_again (Some (spot.Inst s)) h = absurd h
target_again (Some (spot.Store s)) h = absurd h

-- a target that fits and has this number
abbrev pub Spells : Target → ℕ → Type 0
Spells t n = FitsTarget t × (target_number t ≡ n)

-- a target that is read of a number fits and has this number
pub target_takes : (n : ℕ) (t : Target) → n < 512 → target_at n ≡ Some t → Spells t n
unfolding target_at
target_takes n t lt =
    let P : Target → Type 0 = λ t. Spells t n in
    pick P (nat_eq n 0) _ _ t (λ b. let q : n ≡ 0 = eq_is n 0 b in found P None t (tt, sym q))
    (λ b0.
    pick P (nat_lt n 32) _ _ t (λ b. nothing P t) (λ b1. let l1 : 32 ≤ n = le_is n 32 b1 in
    pick P (nat_lt n 64) _ _ t
    (λ b. let l : n < 64 = lt_is n 64 b in
    found P (Some (spot.Write (n - 32))) t (omega arith, omega arith))
    (λ b2. let l2 : 64 ≤ n = le_is n 64 b2 in
    pick P (nat_lt n 128) _ _ t (λ b. nothing P t) (λ b3. let l3 : 128 ≤ n = le_is n 128 b3 in
    pick P (nat_lt n 256) _ _ t
    (λ b. let l : n < 256 = lt_is n 256 b in
    found P (Some (spot.Pred (n - 128))) t (omega arith, omega arith))
    (λ b4. let l4 : 256 ≤ n = le_is n 256 b4 in
    pick P (nat_lt n 384) _ _ t
    (λ b. let l : n < 384 = lt_is n 384 b in
    found P (Some (spot.Left (n - 256))) t (omega arith, omega arith))
    (λ b5. let l5 : 384 ≤ n = le_is n 384 b5 in
    found P (Some (spot.Right (n - 384))) t (omega arith, omega arith)))))))

-- the number of a signed value that fits lies below the count of values
pub signed_below : (values : ℕ) (z : ℤ) → FitsSigned values z → signed_number values z < values
signed_below values (pos n) h = h
signed_below values (negsuc n) h = let l : n < values = h in omega arith

-- a signed value that fits is read again from its number
pub signed_again : (half : ℕ) (z : ℤ) → FitsSigned half z
    → signed_at half (signed_number (half + half) z) ≡ z
unfolding signed_at
signed_again half (pos n) h = let l : n < half = h in rw (lt_yes n half l) refl
signed_again half (negsuc n) h =
    let l : n < half = h in
    let e : half + half - 1 - (half + half - 1 - n) ≡ n = omega arith in
    rw (lt_no (half + half - 1 - n) half (omega arith), e) refl

-- a signed value that is read of a number fits and has this number
pub signed_takes : (half n : ℕ) → n < half + half → FitsSigned half (signed_at half n)
    × (signed_number (half + half) (signed_at half n) ≡ n)
unfolding signed_at
signed_takes half n lt =
    let P : Bool → Type 0 = λ b. nat_lt n half ≡ b
    → FitsSigned half (cond b (pos n) (negsuc (half + half - 1 - n)))
    × (signed_number (half + half) (cond b (pos n) (negsuc (half + half - 1 - n))) ≡ n) in
    elim (nat_lt n half) as (λ b. P b) [
      | true ↦ λ e. (lt_is n half e, refl)
      | false ↦ λ e. let l : half ≤ n = le_is n half e in (omega arith, omega arith)
    ] refl

-- ---- offsets and constants

no_offset : (z : ℤ) → z ≡ pos 0
    → cond (nat_eq (signed_number 1048576 z) 0) (Some (pos 0)) None ≡ Some z
no_offset z e = rw e refl

abbrev some : {A : Type 0} → A → Option A
some x = Some x

-- an offset that fits its operation is read again from its number
pub offset_again : (op : Op) (z : ℤ) → FitsOffset op z
    → offset_at op (signed_number 1048576 z) ≡ Some z
unfolding offset_at
offset_again Bro z f = ap some (signed_again offset_half z f)
offset_again Callo z f = ap some (signed_again offset_half z f)
offset_again op z f = no_offset z f

abbrev pub OffsetIs : Op → ℕ → ℤ → Type 0
OffsetIs op n z = FitsOffset op z × (signed_number 1048576 z ≡ n)

abbrev NoOffset : ℕ → ℤ → Type 0
NoOffset n z = (z ≡ pos 0) × (signed_number 1048576 z ≡ n)

no_offset_takes : (n : ℕ) (z : ℤ) → cond (nat_eq n 0) (Some (pos 0)) None ≡ Some z → NoOffset n z
no_offset_takes n z = pick (NoOffset n) (nat_eq n 0) _ _ z
    (λ b. found (NoOffset n) (pos 0) z (refl, sym (eq_is n 0 b))) (λ b. nothing (NoOffset n) z)

-- an offset that is read of a number fits its operation and has this number
pub offset_takes : (op : Op) (n : ℕ) (z : ℤ) → n < 1048576 → offset_at op n ≡ Some z
    → OffsetIs op n z
unfolding offset_at
offset_takes Bro n z lt e = let t = signed_takes offset_half n lt in
    found (OffsetIs Bro n) (signed_at offset_half n) z (t.0, t.1) e
offset_takes Callo n z lt e = let t = signed_takes offset_half n lt in
    found (OffsetIs Callo n) (signed_at offset_half n) z (t.0, t.1) e
offset_takes op n z lt e = no_offset_takes n z e

unsigned_again : (z : ℤ) → FitsUnsigned 65536 z → pos (signed_number 65536 z) ≡ z
unsigned_again (pos n) f = refl
unsigned_again (negsuc n) f = absurd f

-- a constant that fits its operation is read again from its number
pub constant_again : (op : Op) (z : ℤ) → FitsConstant op z
    → constant_of op (signed_number 65536 z) ≡ z
unfolding constant_of
constant_again Gens z f = signed_again 32768 z f
constant_again op z f = unsigned_again z f

abbrev pub ConstantIs : Op → ℕ → ℤ → Type 0
ConstantIs op n z = FitsConstant op z × (signed_number 65536 z ≡ n)

-- a constant that is read of a number fits its operation and has this number
pub constant_takes : (op : Op) (n : ℕ) → n < 65536 → ConstantIs op n (constant_of op n)
unfolding constant_of
constant_takes Gens n lt = signed_takes 32768 n lt
constant_takes op n lt = (lt, refl)
