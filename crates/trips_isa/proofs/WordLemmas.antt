-- What operations, loads and stores give of words is a word.
use Rattle.std.proofs.Common.{◌≡◌, ℕ, zero, suc, ◌+◌, ◌-◌, ◌*◌, ◌/◌, ◌%◌, ◌^◌, ◌<◌, ◌≤◌, Bool, true}
use Rattle.std.proofs.Common.{false, cond, nat_eq, nat_lt, nat_le, Option, Some, None, refl, arith, subst}
use Rattle.std.proofs.Common.{ℤ, pos, negsuc, neg_ℤ, ◌&&◌, ◌==◌}
use Rattle.std.specs.Prelude.{bit_and, bit_or, bit_xor, int_lt, int_le, int_div}
use Rattle.std.specs.Int.{w64, cast_signed, cast_unsigned, int_shr}
use Rattle.std.proofs.Math.Nat.{mod-lt, div-le_self}
use Rattle.std.proofs.lemmas.Nat.{and_le_l, or_lt, xor_lt}
use Rattle.std.proofs.lemmas.Bool.Decides.{nat_tests}
use Rattle.trips_isa.specs.declared.op.Op.{Op}
use Rattle.trips_isa.specs.declared.op.Op.TheVariants as op
use Rattle.trips_isa.specs.declared.form.Form.{Form}
use Rattle.trips_isa.specs.declared.form.Form.TheVariants.{General, Immediate, Load, Store, Branch}
use Rattle.trips_isa.specs.declared.form.Form.TheVariants.{Constant}
use Rattle.trips_isa.specs.declared.block.Inst.{Inst}
use Rattle.trips_isa.specs.declared.block.Stored.{Stored}
use Rattle.trips_isa.specs.Alu.{alu_of, loaded_as, signed, word, test, quotient, extended}
use Rattle.trips_isa.specs.Forms.{form_of, size_of}
use Rattle.trips_isa.specs.Stores.{byte_stored, byte_of, or_byte, byte_seen, bytes_seen, load_of}
use Rattle.trips_isa.specs.Stores.{address_of, is_good_address}
use Rattle.trips_isa.specs.Blocks.{form_computes}

-- how far a signed number is from 0 or -1
weight : ℤ → ℕ
weight (pos n) = n
weight (negsuc n) = n

word_fits : (z : ℤ) → weight z < 2 ^ 64 → word z < 2 ^ 64
unfolding weight
word_fits (pos n) h = h
word_fits (negsuc n) h = omega arith

immediate_fits : (n : ℕ) → word (negsuc n) < 2 ^ 64
immediate_fits n = omega arith

weight_signed : (a : ℕ) → a < 2 ^ 64 → weight (signed a) ≤ 2 ^ 63
unfolding weight
weight_signed a h = go (nat_lt a (2 ^ 63)) refl
  where
    go : (v : Bool) → nat_lt a (2 ^ 63) ≡ v
        → weight (cond v (pos a) (negsuc (2 ^ 64 - suc a))) ≤ 2 ^ 63
    go true e = grind (arith, nat_tests)
    go false e = grind (arith, nat_tests)

weight_negated : (n : ℕ) → weight (neg_ℤ (pos n)) ≤ n
unfolding weight
weight_negated zero = omega arith
weight_negated (suc n) = omega arith

weight_divided : (a b : ℤ) → weight (int_div a b) ≤ weight a + 1
unfolding weight
weight_divided (pos a) (pos b) = omega (arith, div-le_self a b)
weight_divided (pos a) (negsuc b) =
    omega (arith, weight_negated (a / suc b), div-le_self a (suc b))
weight_divided (negsuc a) (pos b) =
    omega (arith, weight_negated (suc a / b), div-le_self (suc a) b)
weight_divided (negsuc a) (negsuc b) = omega (arith, div-le_self (suc a) (suc b))

weight_shifted : (a : ℤ) (k : ℕ) → weight (int_shr a k) ≤ weight a
unfolding weight
weight_shifted (pos a) k = omega (arith, div-le_self a (2 ^ k))
weight_shifted (negsuc a) k = omega (arith, div-le_self a (2 ^ k))

quotient_fits : (a b : ℕ) → a < 2 ^ 64 → quotient a b < 2 ^ 64
quotient_fits a b h = go (nat_eq b 0)
  where
    go : (v : Bool) → cond v 0 (word (int_div (signed a) (signed b))) < 2 ^ 64
    go true = omega arith
    go false = word_fits (int_div (signed a) (signed b))
        (omega (arith, weight_divided (signed a) (signed b), weight_signed a h))

unsigned_fits : (a b : ℕ) → a < 2 ^ 64 → cond (nat_eq b 0) 0 (a / b) < 2 ^ 64
unsigned_fits a b h = go (nat_eq b 0)
  where
    go : (v : Bool) → cond v 0 (a / b) < 2 ^ 64
    go true = omega arith
    go false = omega (arith, div-le_self a b)

shifted_fits : (a k : ℕ) → a < 2 ^ 64 → word (int_shr (signed a) k) < 2 ^ 64
shifted_fits a k h = word_fits (int_shr (signed a) k)
    (omega (arith, weight_shifted (signed a) k, weight_signed a h))

test_fits : (v : Bool) → test v < 2 ^ 64
test_fits true = omega arith
test_fits false = omega arith

-- a low part, by sign
sign_fits : (low half top : ℕ) → low < 2 ^ 64 - top → top < 2 ^ 64
    → cond (nat_lt low half) low (low + top) < 2 ^ 64
sign_fits low half top h t = go (nat_lt low half)
  where
    go : (v : Bool) → cond v low (low + top) < 2 ^ 64
    go true = omega arith
    go false = omega arith

byte_fits : (a : ℕ) → extended 8 a < 2 ^ 64
byte_fits a = sign_fits (a % 256) 128 (2 ^ 64 - 256) (omega arith) (omega arith)

half_fits : (a : ℕ) → extended 16 a < 2 ^ 64
half_fits a = sign_fits (a % 65536) 32768 (2 ^ 64 - 65536) (omega arith) (omega arith)

long_fits : (a : ℕ) → extended 32 a < 2 ^ 64
long_fits a = sign_fits (a % 4294967296) 2147483648 (2 ^ 64 - 4294967296) (omega arith) (omega arith)

-- an operation on words gives a word
pub alu_fits : (o : Op) (a b : ℕ) → a < 2 ^ 64 → b < 2 ^ 64 → alu_of o a b < 2 ^ 64
alu_fits op.Divs a b h k = quotient_fits a b h
alu_fits op.Divu a b h k = unsigned_fits a b h
alu_fits op.And a b h k = omega (arith, and_le_l a b)
alu_fits op.Andi a b h k = omega (arith, and_le_l a b)
alu_fits op.Or a b h k = or_lt 64 a b h k
alu_fits op.Ori a b h k = or_lt 64 a b h k
alu_fits op.Xor a b h k = xor_lt 64 a b h k
alu_fits op.Xori a b h k = xor_lt 64 a b h k
alu_fits op.Sll a b h k = omega arith
alu_fits op.Slli a b h k = omega arith
alu_fits op.Srl a b h k = omega (arith, div-le_self a (2 ^ (b % 64)))
alu_fits op.Srli a b h k = omega (arith, div-le_self a (2 ^ (b % 64)))
alu_fits op.Sra a b h k = shifted_fits a (b % 64) h
alu_fits op.Srai a b h k = shifted_fits a (b % 64) h
alu_fits op.Extsb a b h k = byte_fits a
alu_fits op.Extsh a b h k = half_fits a
alu_fits op.Extsw a b h k = long_fits a
alu_fits op.Teq a b h k = test_fits (nat_eq a b)
alu_fits op.Teqi a b h k = test_fits (nat_eq a b)
alu_fits op.Tne a b h k = test_fits (cond (nat_eq a b) false true)
alu_fits op.Tnei a b h k = test_fits (cond (nat_eq a b) false true)
alu_fits op.Tlt a b h k = test_fits (int_lt (signed a) (signed b))
alu_fits op.Tlti a b h k = test_fits (int_lt (signed a) (signed b))
alu_fits op.Tle a b h k = test_fits (int_le (signed a) (signed b))
alu_fits op.Tlei a b h k = test_fits (int_le (signed a) (signed b))
alu_fits op.Tgt a b h k = test_fits (int_lt (signed b) (signed a))
alu_fits op.Tgti a b h k = test_fits (int_lt (signed b) (signed a))
alu_fits op.Tge a b h k = test_fits (int_le (signed b) (signed a))
alu_fits op.Tgei a b h k = test_fits (int_le (signed b) (signed a))
alu_fits op.Tltu a b h k = test_fits (nat_lt a b)
alu_fits op.Tltui a b h k = test_fits (nat_lt a b)
alu_fits op.Tleu a b h k = test_fits (nat_le a b)
alu_fits op.Tleui a b h k = test_fits (nat_le a b)
alu_fits op.Tgtu a b h k = test_fits (nat_lt b a)
alu_fits op.Tgtui a b h k = test_fits (nat_lt b a)
alu_fits op.Tgeu a b h k = test_fits (nat_le b a)
alu_fits op.Tgeui a b h k = test_fits (nat_le b a)
alu_fits _ a b h k = omega arith

-- what a load makes of a word is a word
pub loaded_fits : (o : Op) (a : ℕ) → a < 2 ^ 64 → loaded_as o a < 2 ^ 64
loaded_fits op.Lbs a h = byte_fits a
loaded_fits op.Lhs a h = half_fits a
loaded_fits op.Lws a h = long_fits a
loaded_fits _ a h = h

-- bytes ------------------------------------------------------------------------------------------

-- the byte of a store, where it has one
IsByte : Option ℕ → Type 0
IsByte None = Unit {0}
IsByte (Some b) = b < 256

stored_byte : (s : Stored) (v : Option ℕ) (address : ℕ) → IsByte (byte_stored s v address)
unfolding IsByte
stored_byte s None address = tt
stored_byte s (Some v) address = go (nat_le s.address address && nat_lt (address - s.address) s.size)
  where
    go : (w : Bool) → IsByte (cond w
        (Some (v / 2 ^ (8 * (s.size - 1 - (address - s.address))) % 256)) None)
    go true = omega arith
    go false = tt

byte_of_store : (o : Option Stored) (address : ℕ) → IsByte (byte_of o address)
unfolding IsByte
byte_of_store None address = tt
byte_of_store (Some s) address = stored_byte s s.value address

or_byte_fits : (o : Option ℕ) (b : ℕ) → IsByte o → b < 256 → or_byte o b < 256
unfolding IsByte
or_byte_fits None b h k = k
or_byte_fits (Some a) b h k = h

pub byte_seen_fits : (stores : ℕ → Option Stored) (mem : ℕ → ℕ) (n address : ℕ)
    → ((a : ℕ) → mem a < 256) → byte_seen stores mem n address < 256
byte_seen_fits stores mem zero address h = h address
byte_seen_fits stores mem (suc n) address h =
    or_byte_fits (byte_of (stores n) address) (byte_seen stores mem n address)
    (byte_of_store (stores n) address) (byte_seen_fits stores mem n address h)

pub bytes_seen_fit : (stores : ℕ → Option Stored) (mem : ℕ → ℕ) (n address k : ℕ)
    → ((a : ℕ) → mem a < 256) → bytes_seen stores mem n address k < 256 ^ k
bytes_seen_fit stores mem n address zero h = omega arith
bytes_seen_fit stores mem n address (suc k) h =
    omega (
      arith,
      bytes_seen_fit stores mem n address k h,
      byte_seen_fits stores mem n (address + k) h,
    )

-- the bytes of a load make a word
word_of_bytes : (o : Op) (v : ℕ) → v < 256 ^ size_of o → v < 2 ^ 64
word_of_bytes op.Ld v h = omega arith
word_of_bytes _ v h = omega arith

-- what a load sees is a word
pub seen_is_word : (stores : ℕ → Option Stored) (mem : ℕ → ℕ) (n address : ℕ) (o : Op)
    → ((a : ℕ) → mem a < 256) → bytes_seen stores mem n address (size_of o) < 2 ^ 64
seen_is_word stores mem n address o h = word_of_bytes o (bytes_seen stores mem n address (size_of o))
    (bytes_seen_fit stores mem n address (size_of o) h)

-- what an instruction computes of words, where loads are answered by words
pub computes_word : (f : Form) (i : Inst) (answer : ℕ → ℕ) (l r : ℕ) → word i.imm < 2 ^ 64
    → ((a : ℕ) → answer a < 2 ^ 64) → l < 2 ^ 64 → r < 2 ^ 64
    → form_computes f i answer l r < 2 ^ 64
computes_word General i answer l r m h u v = alu_fits i.op l r u v
computes_word Immediate i answer l r m h u v = alu_fits i.op l (word i.imm) u m
computes_word Constant i answer l r m h u v = alu_fits i.op l (word i.imm) u m
computes_word Load i answer l r m h u v = go (is_good_address (address_of i l) (size_of i.op))
  where
    go : (w : Bool) → cond w (loaded_as i.op (answer (address_of i l))) 0 < 2 ^ 64
    go true = loaded_fits i.op (answer (address_of i l)) (h (address_of i l))
    go false = omega arith
computes_word Store i answer l r m h u v = v
computes_word Branch i answer l r m h u v = u
