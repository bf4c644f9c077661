-- Mnemonics and predicates are read from their texts.
use Rattle.std.proofs.Common.{◌≡◌, ℕ, suc, List, [], ◌∷◌, ◌++◌, length, take, drop}
use Rattle.std.proofs.Common.{refl, ap, Some, None, Bool, true, false}
use Rattle.std.specs.Prelude.{◌&&◌, not, codes}
use Rattle.std.proofs.lemmas.List.{take_at, drop_at}
use Rattle.trips_isa.specs.declared.op.Op.{Op}
use Rattle.trips_isa.specs.declared.op.Op.TheVariants as op
use Rattle.trips_isa.specs.declared.block.Sense.{Sense}
use Rattle.trips_isa.specs.declared.block.Sense.TheVariants.{Always, OnTrue, OnFalse}
use Rattle.isa_table.specs.Mnemonics.{mnemonic_of}
use Rattle.isa_table.specs.inside.Mnemonics.{op_with_mnemonic}
use Rattle.isa_table.proofs.ByMnemonic.{mnemonic_again}
use Rattle.target_asm_spec.specs.Fields.{sense_text}
use Rattle.target_asm_spec.specs.inside.Reading.{after_in}
use Rattle.target_asm_spec.specs.inside.Instructions.{ends_word, letters_in, sense_in}
use Rattle.target_asm_spec.proofs.Numbers.{and_left, and_right}

abbrev all_letters : List ℕ → Bool
all_letters [] = true
all_letters (b ∷ bs) = not (ends_word b) && all_letters bs

not_true : (b : Bool) → not b ≡ true → b ≡ false
not_true false h = refl
not_true true h = absurd cc

letters_all : (xs rest : List ℕ) → all_letters xs ≡ true → letters_in rest ≡ 0
    → letters_in (xs ++ rest) ≡ length xs
unfolding letters_in
letters_all [] rest h z = z
letters_all (x ∷ xs) rest h z =
    let one : ends_word x ≡ false = not_true (ends_word x) (and_left (not (ends_word x)) (all_letters xs) h) in
    let more : all_letters xs ≡ true = and_right (not (ends_word x)) (all_letters xs) h in
    rw one (ap suc (letters_all xs rest more z))

-- no mnemonic holds what ends one
are_letters : (op : Op) → all_letters (mnemonic_of op) ≡ true
unfolding mnemonic_of
are_letters op.Add = refl
are_letters _ = refl

-- what may follow an operation and its predicate
pub record FollowsWord (rest : List ℕ) : Type 0 where
  pub letters : letters_in rest ≡ 0
  pub on_true : after_in (codes "_t") rest ≡ None
  pub on_false : after_in (codes "_f") rest ≡ None

-- a space ends a word
pub space_follows : (rest : List ℕ) → FollowsWord (32 ∷ rest)
unfolding letters_in after_in
space_follows rest = record { letters = refl; on_true = refl; on_false = refl }

-- a line feed ends a word
pub feed_follows : (rest : List ℕ) → FollowsWord (10 ∷ rest)
unfolding letters_in after_in
feed_follows rest = record { letters = refl; on_true = refl; on_false = refl }

on_true : (rest : List ℕ) → sense_in (95 ∷ 116 ∷ rest) ≡ (OnTrue, rest)
unfolding sense_in after_in
on_true rest = refl

on_false : (rest : List ℕ) → sense_in (95 ∷ 102 ∷ rest) ≡ (OnFalse, rest)
unfolding sense_in after_in
on_false rest = refl

always : (rest : List ℕ) → after_in (codes "_t") rest ≡ None → after_in (codes "_f") rest ≡ None
    → sense_in rest ≡ (Always, rest)
unfolding sense_in
always rest a b = rw (a, b) refl

-- a sense that is written is read back
pub sense_again : (s : Sense) (rest : List ℕ) → FollowsWord rest
    → sense_in (sense_text s ++ rest) ≡ (s, rest)
unfolding sense_text
sense_again OnTrue rest f = on_true rest
sense_again OnFalse rest f = on_false rest
sense_again Always rest f = always rest f.on_true f.on_false

sense_ends : (s : Sense) (rest : List ℕ) → FollowsWord rest → letters_in (sense_text s ++ rest) ≡ 0
unfolding sense_text letters_in
sense_ends OnTrue rest f = refl
sense_ends OnFalse rest f = refl
sense_ends Always rest f = f.letters

-- a mnemonic before its predicate
pub record ReadsWord (op : Op) (text rest : List ℕ) : Type 0 where
  pub found : op_with_mnemonic (take (letters_in text) text) ≡ Some op
  pub left : drop (letters_in text) text ≡ rest

-- an operation's word that is written is read back
pub word_again : (op : Op) (s : Sense) (rest : List ℕ) → FollowsWord rest
    → ReadsWord op (mnemonic_of op ++ (sense_text s ++ rest)) (sense_text s ++ rest)
word_again op s rest f =
    let t : List ℕ = sense_text s ++ rest in
    let n : letters_in (mnemonic_of op ++ t) ≡ length (mnemonic_of op) =
    letters_all (mnemonic_of op) t (are_letters op) (sense_ends s rest f) in
    record {
      found = rw (n, take_at (mnemonic_of op) t (length (mnemonic_of op)) refl) (mnemonic_again op);
      left = rw n (drop_at (mnemonic_of op) t (length (mnemonic_of op)) refl);
    }
