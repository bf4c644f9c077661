-- `print.size` counts the digits of a number in a base.
use Rattle.std.proofs.Common.{◌≡◌, ℕ, zero, suc, ◌+◌, ◌*◌, ◌/◌, ◌^◌, ◌<◌, ◌≤◌, ◌⊎◌, inl, inr, [], ◌∷◌}
use Rattle.std.proofs.Common.{Some, refl, ap, ◌∙◌, subst, arith, length}
use Rattle.std.specs.Int.Digits.{digits_of}
use Rattle.std.proofs.lemmas.Int.Digits.{length-digits_of_step, length-digits_of-le}
use Rattle.std.proofs.Math.Nat.{div-lt_self}
use Rattle.c_tree.specs.declared.Callee.TheVariants.{Func}
use Rattle.c_tree.specs.declared.TypedProgram.{TypedProgram}
use Rattle.c_constant.proofs.Conversions.{converted_ulong, order}
use Rattle.c_meaning_spec.specs.State.{State, Go}
use Rattle.c_meaning_spec.specs.declared.signal.Signal.TheVariants.{Value}
use Rattle.c_meaning_spec.specs.Call.{called}
use Rattle.c_meaning_spec.specs.Eval.{meaning}
use Rattle.library_laws.specs.Printers.{Places}
use Rattle.library_laws.specs.FieldPrinters.{size_counter, code_of_size, more_digits, one_counted}
use Rattle.library_laws.specs.Printing.{IsFunction, CountsDigits}
use Rattle.library_laws.proofs.Rules.{at, r_number, r_scalar, r_operation, r_convert, r_constant, plain_scalar}
use Rattle.library_laws.proofs.Rules.{r_plain, r_bump, r_update, r_next, r_last, r_initialise, r_give, r_pair, r_repeat}
use Rattle.library_laws.proofs.Rules.{Turns, r_turn, r_end}
use Rattle.library_laws.proofs.Words.{add_int, to_int, divide, is_more, is_end}
use Rattle.library_laws.proofs.NumeralFacts.{below_power}
use Rattle.library_laws.proofs.Calls.{inside, called_gives, more}

-- the steps of so many turns, and some left
abbrev pub turn_steps : ℕ → ℕ → ℕ
turn_steps zero k = more 3 k
turn_steps (suc m) k = more 9 (turn_steps m k)

-- are 9 a turn, and three for the last test
turns_are : (m k : ℕ) → turn_steps m k ≡ 9 * m + 3 + k
turns_are zero k = omega arith
turns_are (suc m) k = let e : turn_steps m k ≡ 9 * m + 3 + k = turns_are m k in omega arith

module _ (P : TypedProgram) (l : Places) (f base : ℕ) (is_f : IsFunction P f (size_counter l)) (low : 2 ≤ base)
    (high : base ≤ 36) where
  -- the turns that are left for a number that so many digits hold, where j are counted
  turns : (m n j : ℕ) (s : State) (k : ℕ) → length (digits_of base n) ≡ m → n < 2 ^ 64 → j + m < 2 ^ 31
      → Turns P (more_digits l) (one_counted l)
      (inside s (size_counter l) s.output (Some n ∷ Some base ∷ Some j ∷ [])) (turn_steps m k)
      (inside s (size_counter l) s.output (Some 0 ∷ Some base ∷ Some (j + m) ∷ [])) k
  turns zero n j s k e word few = go (order 0 n)
    where
      at_end : Turns P (more_digits l) (one_counted l)
          (inside s (size_counter l) s.output (Some 0 ∷ Some base ∷ Some j ∷ [])) (more 3 k)
          (inside s (size_counter l) s.output (Some 0 ∷ Some base ∷ Some (j + 0) ∷ [])) k
      at_end =
          let same : j ≡ j + 0 = omega arith in
          r_end (r_operation (λ rec a b s. refl) (r_scalar refl) (r_constant (converted_ulong 0 (omega arith))) is_end)
          refl (ap (λ (i : ℕ). inside s (size_counter l) s.output (Some 0 ∷ Some base ∷ Some i ∷ [])) same)

      go : (0 < n) ⊎ (n ≤ 0) → Turns P (more_digits l) (one_counted l)
          (inside s (size_counter l) s.output (Some n ∷ Some base ∷ Some j ∷ [])) (more 3 k)
          (inside s (size_counter l) s.output (Some 0 ∷ Some base ∷ Some (j + 0) ∷ [])) k
      go (inl some) = absurd (omega (arith, length-digits_of_step base n low some, e))
      go (inr none) =
          let is : 0 ≡ n = omega arith in
          subst (λ (i : ℕ). Turns P (more_digits l) (one_counted l)
          (inside s (size_counter l) s.output (Some i ∷ Some base ∷ Some j ∷ [])) (more 3 k)
          (inside s (size_counter l) s.output (Some 0 ∷ Some base ∷ Some (j + 0) ∷ [])) k) is at_end
  turns (suc m) n j s k e word few = go (λ a b. turns m (n / base) (j + 1) s k a b (omega arith)) (order 0 n)
    where
      go : (length (digits_of base (n / base)) ≡ m → n / base < 2 ^ 64 → Turns P (more_digits l) (one_counted l)
          (inside s (size_counter l) s.output (Some (n / base) ∷ Some base ∷ Some (j + 1) ∷ [])) (turn_steps m k)
          (inside s (size_counter l) s.output (Some 0 ∷ Some base ∷ Some (j + 1 + m) ∷ [])) k)
          → (0 < n) ⊎ (n ≤ 0) → Turns P (more_digits l) (one_counted l)
          (inside s (size_counter l) s.output (Some n ∷ Some base ∷ Some j ∷ [])) (turn_steps (suc m) k)
          (inside s (size_counter l) s.output (Some 0 ∷ Some base ∷ Some (j + suc m) ∷ [])) k
      go rest (inl some) =
          let smaller : n / base < n = div-lt_self some (omega arith) in
          let less : n / base < 2 ^ 64 = omega (arith, smaller) in
          let same : j + 1 + m ≡ j + suc m = omega arith in
          r_turn (r_operation (λ rec a b s. refl) (r_scalar refl) (r_constant (converted_ulong 0 (omega arith)))
          (is_more n some)) refl
          (r_pair (r_plain (r_update refl
          (r_convert plain_scalar (r_scalar refl) (converted_ulong base (omega arith)))
          (converted_ulong n word) (divide n base (omega arith) less) (converted_ulong (n / base) less) refl refl))
          (r_plain (r_bump refl (add_int j 1 (omega arith)) (to_int (j + 1) (omega arith)) refl)))
          (subst (λ (i : ℕ). Turns P (more_digits l) (one_counted l)
          (inside s (size_counter l) s.output (Some (n / base) ∷ Some base ∷ Some (j + 1) ∷ [])) (turn_steps m k)
          (inside s (size_counter l) s.output (Some 0 ∷ Some base ∷ Some i ∷ [])) k) same
          (rest (omega (arith, length-digits_of_step base n low some, e)) less))
      go rest (inr none) =
          let is : n ≡ 0 = omega arith in
          absurd (omega (arith, e, ap (λ (i : ℕ). length (digits_of base i)) is))

-- the law
pub counts_digits : CountsDigits
counts_digits P l f n base s is_f word low high room k =
    let d : ℕ = length (digits_of base n) in
    let few : d ≤ 64 = length-digits_of-le base 64 n low (below_power base n low word) in
    let t : 9 * d + 10 + k ≡ more 5 (turn_steps d (more 2 k)) = omega (arith, turns_are d (more 2 k)) in
    ap (λ (j : ℕ). called (meaning P) P (Func f) (n ∷ base ∷ []) (at s j)) t
    ∙ (called_gives {code = code_of_size l} s is_f refl (record { fits = room.fits; told = room.told })
    (r_next (r_initialise refl refl r_number refl refl)
    (r_next (r_repeat (turns P l f base is_f low high d n 0 s (more 2 k) refl word (omega arith)))
    (r_last (r_give (r_scalar refl)))))).is
    ∙ ap (λ (v : ℕ). Go (Value v) (at s k)) (omega arith)
