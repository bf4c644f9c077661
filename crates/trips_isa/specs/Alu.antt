-- What an operation gives on words, over whole numbers modulo 2^64; docs/MACHINE.md, "Operations",
-- is its table. Source: TRIPS Processor Reference Manual, UT Austin TR-05-19. Own: which of its
-- operations there are, and that a division by zero gives 0.
use Rattle.std.specs.Prelude.{ℕ, ℤ, ◌+◌, ◌-◌, ◌*◌, ◌/◌, ◌%◌, ◌^◌, Bool, true, false, nat_lt, nat_le}
use Rattle.std.specs.Prelude.{nat_eq, cond, bit_and, bit_or, bit_xor, int_lt, int_le, int_div}
use Rattle.std.specs.Int.{w64, cast_signed, cast_unsigned, int_shr}
use Rattle.trips_isa.specs.declared.op.Op.{Op}
use Rattle.trips_isa.specs.declared.op.Op.TheVariants.{Add, Sub, Mul, Divs, Divu, And, Or, Xor, Sll}
use Rattle.trips_isa.specs.declared.op.Op.TheVariants.{Srl, Sra, Extsb, Extsh, Extsw, Extub, Extuh}
use Rattle.trips_isa.specs.declared.op.Op.TheVariants.{Extuw, Teq, Tne, Tlt, Tle, Tgt, Tge, Tltu}
use Rattle.trips_isa.specs.declared.op.Op.TheVariants.{Tleu, Tgtu, Tgeu, Mov, Addi, Subi, Muli}
use Rattle.trips_isa.specs.declared.op.Op.TheVariants.{Andi, Ori, Xori, Slli, Srli, Srai, Teqi}
use Rattle.trips_isa.specs.declared.op.Op.TheVariants.{Tnei, Tlti, Tlei, Tgti, Tgei, Tltui, Tleui}
use Rattle.trips_isa.specs.declared.op.Op.TheVariants.{Tgtui, Tgeui, Lbs, Lhs, Lws, Sb, Sh, Sw, Sd}
use Rattle.trips_isa.specs.declared.op.Op.TheVariants.{Br, Ret, Genu, Gens, App}

-- a word read as a signed number
abbrev pub signed : ℕ → ℤ
signed a = cast_signed w64 a

-- the word of a signed number from -2^63 to 2^63
abbrev pub word : ℤ → ℕ
word z = cast_unsigned w64 z

-- a test gives 1 or 0
abbrev pub test : Bool → ℕ
test b = cond b 1 0

-- truncates toward zero; by zero it is 0
abbrev pub quotient : ℕ → ℕ → ℕ
quotient a b = cond (nat_eq b 0) 0 (word (int_div (signed a) (signed b)))

-- of unsigned numbers; by zero it is 0
abbrev pub quotient_unsigned : ℕ → ℕ → ℕ
quotient_unsigned a b = cond (nat_eq b 0) 0 (a / b)

-- the low k bits, by sign
abbrev pub extended : ℕ → ℕ → ℕ
extended k a = cond (nat_lt (a % 2 ^ k) (2 ^ (k - 1))) (a % 2 ^ k) (a % 2 ^ k + (2 ^ 64 - 2 ^ k))

-- the right operand stands for the immediate and the constant too; what makes no word of its own
-- gives 0
abbrev pub alu_of : Op → ℕ → ℕ → ℕ
alu_of Add a b = (a + b) % 2 ^ 64
alu_of Addi a b = (a + b) % 2 ^ 64
alu_of Sub a b = (a + (2 ^ 64 - b)) % 2 ^ 64
alu_of Subi a b = (a + (2 ^ 64 - b)) % 2 ^ 64
alu_of Mul a b = (a * b) % 2 ^ 64
alu_of Muli a b = (a * b) % 2 ^ 64
alu_of Divs a b = quotient a b
alu_of Divu a b = quotient_unsigned a b
alu_of And a b = bit_and a b
alu_of Andi a b = bit_and a b
alu_of Or a b = bit_or a b
alu_of Ori a b = bit_or a b
alu_of Xor a b = bit_xor a b
alu_of Xori a b = bit_xor a b
alu_of Sll a b = (a * 2 ^ (b % 64)) % 2 ^ 64
alu_of Slli a b = (a * 2 ^ (b % 64)) % 2 ^ 64
alu_of Srl a b = a / 2 ^ (b % 64)
alu_of Srli a b = a / 2 ^ (b % 64)
alu_of Sra a b = word (int_shr (signed a) (b % 64))
alu_of Srai a b = word (int_shr (signed a) (b % 64))
alu_of Extsb a b = extended 8 a
alu_of Extsh a b = extended 16 a
alu_of Extsw a b = extended 32 a
alu_of Extub a b = a % 2 ^ 8
alu_of Extuh a b = a % 2 ^ 16
alu_of Extuw a b = a % 2 ^ 32
alu_of Teq a b = test (nat_eq a b)
alu_of Teqi a b = test (nat_eq a b)
alu_of Tne a b = test (cond (nat_eq a b) false true)
alu_of Tnei a b = test (cond (nat_eq a b) false true)
alu_of Tlt a b = test (int_lt (signed a) (signed b))
alu_of Tlti a b = test (int_lt (signed a) (signed b))
alu_of Tle a b = test (int_le (signed a) (signed b))
alu_of Tlei a b = test (int_le (signed a) (signed b))
alu_of Tgt a b = test (int_lt (signed b) (signed a))
alu_of Tgti a b = test (int_lt (signed b) (signed a))
alu_of Tge a b = test (int_le (signed b) (signed a))
alu_of Tgei a b = test (int_le (signed b) (signed a))
alu_of Tltu a b = test (nat_lt a b)
alu_of Tltui a b = test (nat_lt a b)
alu_of Tleu a b = test (nat_le a b)
alu_of Tleui a b = test (nat_le a b)
alu_of Tgtu a b = test (nat_lt b a)
alu_of Tgtui a b = test (nat_lt b a)
alu_of Tgeu a b = test (nat_le b a)
alu_of Tgeui a b = test (nat_le b a)
alu_of Mov a b = a
alu_of Genu a b = b
alu_of Gens a b = b
alu_of App a b = (a * 65536 + b) % 2 ^ 64
alu_of Br a b = a
alu_of Ret a b = a
alu_of Sb a b = b
alu_of Sh a b = b
alu_of Sw a b = b
alu_of Sd a b = b
alu_of _ a b = 0

-- what a load makes of the bytes that it reads
abbrev pub loaded_as : Op → ℕ → ℕ
loaded_as Lbs a = extended 8 a
loaded_as Lhs a = extended 16 a
loaded_as Lws a = extended 32 a
loaded_as _ a = a
