-- Causes and their numbers.
use Rattle.std.proofs.Common.{◌≡◌, ℕ, ◌+◌, ◌%◌, Bool, true, false, cond, ◌==◌, ◌&&◌, nat_eq, nat_le, Some}
use Rattle.std.proofs.Common.{refl}
use Rattle.trips_isa.specs.declared.causes.TrapCause.{TrapCause}
use Rattle.trips_isa.specs.declared.causes.TrapCause.TheVariants.{DivisionByZero, Misaligned, OutsideMemory}
use Rattle.trips_isa.specs.declared.form.Form.{Form}
use Rattle.trips_isa.specs.declared.form.Form.TheVariants.{General, Immediate, Load, Store, Branch}
use Rattle.trips_isa.specs.declared.form.Form.TheVariants.{Constant}
use Rattle.trips_isa.specs.declared.block.Inst.{Inst}
use Rattle.trips_isa.specs.TrapCauses.{number_of, no_mark, cause_of}
use Rattle.trips_isa.specs.inside.TrapCauses.{IsMark, Unmarked, Marked}
use Rattle.trips_isa.specs.Forms.{form_of, size_of}
use Rattle.trips_isa.specs.Stores.{data_size, address_of}
use Rattle.trips_isa.specs.Faults.{is_bad_divisor, fault_of, fault_at, fault_in, own_fault}

-- the number of a cause tells it
pub number_tells : (c : TrapCause) → cause_of (number_of c) ≡ c
number_tells DivisionByZero = refl
number_tells Misaligned = refl
number_tells OutsideMemory = refl

-- two causes have two numbers
pub numbers_apart : (c d : TrapCause) → number_of c ≡ number_of d → c ≡ d
numbers_apart DivisionByZero DivisionByZero e = refl
numbers_apart DivisionByZero Misaligned e = absurd (cc)
numbers_apart DivisionByZero OutsideMemory e = absurd (cc)
numbers_apart Misaligned DivisionByZero e = absurd (cc)
numbers_apart Misaligned Misaligned e = refl
numbers_apart Misaligned OutsideMemory e = absurd (cc)
numbers_apart OutsideMemory DivisionByZero e = absurd (cc)
numbers_apart OutsideMemory Misaligned e = absurd (cc)
numbers_apart OutsideMemory OutsideMemory e = refl

-- no cause has the number of no mark
pub marked : (c : TrapCause) → number_of c ≡ no_mark → ⊥
marked DivisionByZero e = cc
marked Misaligned e = cc
marked OutsideMemory e = cc

divided : (b : Bool) → IsMark (cond b (number_of DivisionByZero) no_mark)
divided true = Marked DivisionByZero
divided false = Unmarked

accessed : (aligned inside : Bool)
    → IsMark (cond aligned (cond inside no_mark (number_of OutsideMemory)) (number_of Misaligned))
accessed true true = Unmarked
accessed true false = Marked OutsideMemory
accessed false inside = Marked Misaligned

at_address : (address size : ℕ) → IsMark (fault_at address size)
at_address address size = accessed (address % size == 0) (nat_le (address + size) data_size)

-- what an instruction of a form faults with is a mark
by_form : (f : Form) (i : Inst) (l r : ℕ) → IsMark (fault_in f i l r)
by_form General i l r = divided (is_bad_divisor i.op r)
by_form Immediate i l r = Unmarked
by_form Constant i l r = Unmarked
by_form Branch i l r = Unmarked
by_form Load i l r = at_address (address_of i l) (size_of i.op)
by_form Store i l r = at_address (address_of i l) (size_of i.op)

-- an instruction's own fault is a mark
pub own_is_mark : (i : Inst) (l r : ℕ) → IsMark (own_fault (Some i) l r)
own_is_mark i l r = by_form (form_of i.op) i l r
