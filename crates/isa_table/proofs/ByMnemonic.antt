-- The table of operations read by its mnemonics, both ways.
use Rattle.std.proofs.Common.{subst, ℕ, List, ◌≡◌, Option, Some, refl, sym, ◌∙◌, ◌↔◌}
use Rattle.std.proofs.lemmas.Option.{same_Some}
use Rattle.std.specs.Str.{bytes_eq}
use Rattle.std.proofs.lemmas.Slice.Eq.{bytes_eq-Decides}
use Rattle.trips_isa.specs.declared.op.Op.{Op}
use Rattle.trips_isa.specs.declared.op.Op.TheVariants as op
use Rattle.trips_isa.specs.OperationTable.{operations}
use Rattle.isa_table.specs.Mnemonics.{mnemonic_of}
use Rattle.isa_table.specs.inside.Mnemonics.{op_with_mnemonic}
use Rattle.isa_table.proofs.Firsts.{first_taken}

-- each operation is the first that has its mnemonic
pub mnemonic_again : (op : Op) → op_with_mnemonic (mnemonic_of op) ≡ Some op
unfolding mnemonic_of op_with_mnemonic operations
mnemonic_again op.Add = refl
mnemonic_again _ = refl

-- an operation that is found has the mnemonic that was asked for
pub mnemonic_taken : (word : List ℕ) (op : Op) → op_with_mnemonic word ≡ Some op
    → mnemonic_of op ≡ word
unfolding op_with_mnemonic
mnemonic_taken word op found = (bytes_eq-Decides (mnemonic_of op) word).0
    (first_taken (λ o. bytes_eq (mnemonic_of o) word) operations op found)

-- a look-up by mnemonic gives an operation exactly where it has it
pub mnemonic_exact : (word : List ℕ) (found : Option Op) → found ≡ op_with_mnemonic word
    → (op : Op) → (found ≡ Some op) ↔ (mnemonic_of op ≡ word)
mnemonic_exact word found e op = (
  λ f. mnemonic_taken word op (sym e ∙ f),
  λ f. e ∙ subst (λ (w : List ℕ). op_with_mnemonic w ≡ Some op) f (mnemonic_again op),
)

-- no two operations have one mnemonic
pub mnemonic_one : (a b : Op) → mnemonic_of a ≡ mnemonic_of b → a ≡ b
mnemonic_one a b e =
    same_Some a b (sym (mnemonic_again a)
    ∙ subst (λ (w : List ℕ). op_with_mnemonic w ≡ Some b) (sym e) (mnemonic_again b))
