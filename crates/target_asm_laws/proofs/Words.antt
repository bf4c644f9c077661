-- A text that is read as a mnemonic and a predicate is their text.
use Rattle.std.proofs.Common.{◌≡◌, ℕ, List, ◌++◌, refl, sym, Option, Some, None}
use Rattle.std.specs.Prelude.{codes}
use Rattle.trips_isa.specs.declared.op.Op.{Op}
use Rattle.isa_table.specs.Mnemonics.{mnemonic_of}
use Rattle.isa_table.specs.inside.Mnemonics.{op_with_mnemonic}
use Rattle.isa_table.proofs.ByMnemonic.{mnemonic_taken}
use Rattle.target_asm_spec.specs.Fields.{sense_text}
use Rattle.target_asm_spec.specs.inside.Reading.{after_in}
use Rattle.target_asm_spec.specs.inside.Instructions.{sense_by, sense_in}
use Rattle.target_asm_laws.proofs.Binds.{If}
use Rattle.target_asm_laws.proofs.Digits.{IsAfter, after_is}

-- a word that is the mnemonic of an operation
abbrev pub IsMnemonic : List ℕ → Op → Type 0
IsMnemonic word op = word ≡ mnemonic_of op

mnemonic_by : (word : List ℕ) (o : Option Op) → op_with_mnemonic word ≡ o → If (IsMnemonic word) o
mnemonic_by word None e = tt
mnemonic_by word (Some op) e = sym (mnemonic_taken word op e)

-- what is read as a mnemonic is the operation's
pub mnemonic_is : (word : List ℕ) → If (IsMnemonic word) (op_with_mnemonic word)
mnemonic_is word = mnemonic_by word (op_with_mnemonic word) refl

sense_by_is : (text : List ℕ) (a b : Option (List ℕ)) → If (IsAfter (codes "_t") text) a
    → If (IsAfter (codes "_f") text) b
    → text ≡ sense_text (sense_by a b text).0 ++ (sense_by a b text).1
unfolding sense_text
sense_by_is text (Some rest) b p q = p
sense_by_is text None (Some rest) p q = q
sense_by_is text None None p q = refl

-- a text begins with the sense that is read of it
pub sense_is : (text : List ℕ) → text ≡ sense_text (sense_in text).0 ++ (sense_in text).1
unfolding sense_in
sense_is text = sense_by_is text (after_in (codes "_t") text) (after_in (codes "_f") text)
    (after_is (codes "_t") text) (after_is (codes "_f") text)
