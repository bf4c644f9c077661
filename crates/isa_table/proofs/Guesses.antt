-- The operation that is compared is the one that is looked for: each stands in the code's lists where its
-- mnemonic and its numbers say.
use Rattle.std.proofs.Common.{subst, ℕ, List, ◌≡◌, Option, Some, None, true, refl, sym, ◌∙◌}
use Rattle.std.proofs.lemmas.Option.{cond_some}
use Rattle.std.specs.Str.{bytes_eq}
use Rattle.std.proofs.lemmas.Slice.Eq.{bytes_eq-Decides}
use Rattle.trips_isa.specs.declared.op.Op.{Op}
use Rattle.trips_isa.specs.declared.op.Op.TheVariants as op
use Rattle.isa_table.specs.Mnemonics.{mnemonic_of}
use Rattle.isa_table.specs.inside.Mnemonics.{op_with_mnemonic}
use Rattle.isa_table.specs.Codes.{code_of}
use Rattle.isa_table.specs.inside.Codes.{has_numbers, op_with_numbers}
use Rattle.isa_table.specs.inside.Guesses.{candidate_by_mnemonic, guessed_by_mnemonic}
use Rattle.isa_table.specs.inside.Guesses.{candidate_by_numbers, guessed_by_numbers}
use Rattle.isa_table.proofs.ByMnemonic.{mnemonic_again, mnemonic_taken}
use Rattle.isa_table.proofs.ByNumbers.{numbers_again, numbers_had, numbers_taken}

-- BY MNEMONIC

-- each operation stands where its mnemonic says
mnemonic_stands : (op : Op) → guessed_by_mnemonic (mnemonic_of op) ≡ Some op
unfolding mnemonic_of candidate_by_mnemonic guessed_by_mnemonic
mnemonic_stands op.Add = refl
mnemonic_stands _ = refl

-- an operation that is found there has the mnemonic
mnemonic_found : (word : List ℕ) (op : Op) → guessed_by_mnemonic word ≡ Some op → mnemonic_of op ≡ word
unfolding guessed_by_mnemonic
mnemonic_found word op found =
    let guess = candidate_by_mnemonic word in
    let chosen = cond_some (bytes_eq (mnemonic_of guess) word) guess op found in
    let P : Op → Type 0 = λ x. mnemonic_of x ≡ word in
    subst P chosen.1 ((bytes_eq-Decides (mnemonic_of guess) word).0 chosen.0)

-- the list finds what the table has
pub mnemonic_guessed : (word : List ℕ) → guessed_by_mnemonic word ≡ op_with_mnemonic word
mnemonic_guessed word = by (guessed_by_mnemonic word) (op_with_mnemonic word) refl refl
  where
    by : (g f : Option Op) → guessed_by_mnemonic word ≡ g → op_with_mnemonic word ≡ f → g ≡ f
    by None None e h = refl
    by None (Some x) e h = sym e ∙ subst (λ (w : List ℕ). guessed_by_mnemonic w ≡ Some x)
        (mnemonic_taken word x h) (mnemonic_stands x)
    by (Some x) f e h = sym (sym h ∙ subst (λ (w : List ℕ). op_with_mnemonic w ≡ Some x)
        (mnemonic_found word x e) (mnemonic_again x))

-- BY NUMBERS

-- each operation stands where its numbers say
numbers_stand : (op : Op) → guessed_by_numbers (code_of op).opcode (code_of op).extended ≡ Some op
unfolding code_of candidate_by_numbers has_numbers guessed_by_numbers
numbers_stand op.Add = refl
numbers_stand _ = refl

-- an operation that is found there has the numbers
numbers_found : (opcode extended : ℕ) (op : Op) → guessed_by_numbers opcode extended ≡ Some op
    → ((code_of op).opcode ≡ opcode) × ((code_of op).extended ≡ extended)
unfolding guessed_by_numbers
numbers_found opcode extended op found =
    let guess = candidate_by_numbers opcode extended in
    let chosen = cond_some (has_numbers guess opcode extended) guess op found in
    numbers_had opcode extended op (subst (λ x. has_numbers x opcode extended ≡ true) chosen.1 chosen.0)

-- the list finds what the table has
pub numbers_guessed : (opcode extended : ℕ) → guessed_by_numbers opcode extended ≡ op_with_numbers opcode extended
numbers_guessed opcode extended =
    by (guessed_by_numbers opcode extended) (op_with_numbers opcode extended) refl refl
  where
    moved : (h : ℕ → ℕ → Option Op) (x : Op) → h (code_of x).opcode (code_of x).extended ≡ Some x
        → ((code_of x).opcode ≡ opcode) × ((code_of x).extended ≡ extended) → h opcode extended ≡ Some x
    moved h x s t = subst (λ (n : ℕ). h n extended ≡ Some x) t.0
        (subst (λ (n : ℕ). h (code_of x).opcode n ≡ Some x) t.1 s)

    by : (g f : Option Op) → guessed_by_numbers opcode extended ≡ g → op_with_numbers opcode extended ≡ f → g ≡ f
    by None None e h = refl
    by None (Some x) e h = sym e ∙ moved guessed_by_numbers x (numbers_stand x) (numbers_taken opcode extended x h)
    by (Some x) f e h = sym (sym h ∙ moved op_with_numbers x (numbers_again x) (numbers_found opcode extended x e))
