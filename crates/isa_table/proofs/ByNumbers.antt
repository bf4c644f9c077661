-- The table of operations read by its numbers, both ways.
use Rattle.std.proofs.Common.{lit<, subst, ℕ, ◌≡◌, Option, Some, Bool, true, false, ◌&&◌}
use Rattle.std.proofs.Common.{refl, sym, arith, nat_eq, ◌∙◌, ◌↔◌}
use Rattle.std.proofs.lemmas.Bool.Decides.{nat_tests}
use Rattle.trips_isa.specs.declared.op.Op.{Op}
use Rattle.trips_isa.specs.declared.op.Op.TheVariants as op
use Rattle.trips_isa.specs.Forms.{form_of}
use Rattle.trips_isa.specs.OperationTable.{operations}
use Rattle.isa_table.specs.Codes.{code_of}
use Rattle.isa_table.specs.inside.Codes.{has_numbers, op_with_numbers, GoodCode}
use Rattle.isa_table.proofs.Firsts.{first_taken}

-- each operation is the first that has its numbers
pub numbers_again : (op : Op) → op_with_numbers (code_of op).opcode (code_of op).extended ≡ Some op
unfolding code_of has_numbers op_with_numbers operations
numbers_again op.Add = refl
numbers_again _ = refl

-- each operation has the opcode and the extended opcode of its form
pub code_good : (op : Op) → GoodCode (form_of op) (code_of op)
unfolding code_of
code_good op.Add = (refl, lit< tt)
code_good _ = omega arith

nat_eq_is : (a b : ℕ) → nat_eq a b ≡ true → a ≡ b
nat_eq_is a b e = grind (arith, nat_tests)

both_true : (a b : Bool) → (a && b) ≡ true → (a ≡ true) × (b ≡ true)
both_true true b e = (refl, e)
both_true false b e = absurd cc

-- an operation that has numbers has each of both
pub numbers_had : (opcode extended : ℕ) (op : Op) → has_numbers op opcode extended ≡ true
    → ((code_of op).opcode ≡ opcode) × ((code_of op).extended ≡ extended)
unfolding has_numbers
numbers_had opcode extended op h =
    let both = both_true (nat_eq (code_of op).opcode opcode) (nat_eq (code_of op).extended extended) h in (
      nat_eq_is (code_of op).opcode opcode both.0,
      nat_eq_is (code_of op).extended extended both.1,
    )

-- an operation that is found has the numbers that were asked for
pub numbers_taken : (opcode extended : ℕ) (op : Op) → op_with_numbers opcode extended ≡ Some op
    → ((code_of op).opcode ≡ opcode) × ((code_of op).extended ≡ extended)
unfolding op_with_numbers
numbers_taken opcode extended op found = numbers_had opcode extended op
    (first_taken (λ o. has_numbers o opcode extended) operations op found)

-- a look-up by numbers gives an operation exactly where it has them
pub numbers_exact : (opcode extended : ℕ) (found : Option Op)
    → found ≡ op_with_numbers opcode extended
    → (op : Op) → (found ≡ Some op) ↔ ((code_of op).opcode ≡ opcode)
    × ((code_of op).extended ≡ extended)
numbers_exact opcode extended found e op = (
  λ f. numbers_taken opcode extended op (sym e ∙ f),
  λ f. e ∙ subst (λ (n : ℕ). op_with_numbers n extended ≡ Some op) f.0
      (subst (λ (n : ℕ). op_with_numbers (code_of op).opcode n ≡ Some op) f.1 (numbers_again op)),
)
