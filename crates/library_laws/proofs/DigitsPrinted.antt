-- `print.digits` writes the digits of a number in a base.
use Rattle.std.proofs.Common.{◌≡◌, ℕ, zero, suc, ◌+◌, ◌*◌, ◌/◌, ◌%◌, ◌^◌, ◌<◌, ◌≤◌, ◌⊎◌, inl, inr, List, []}
use Rattle.std.proofs.Common.{◌∷◌, ◌++◌, Option, Some, None, refl, sym, ap, ◌∙◌, subst, arith, append_assoc}
use Rattle.std.proofs.Common.{length, length-append}
use Rattle.std.proofs.lemmas.List.{append-nil}
use Rattle.std.proofs.Math.Nat.{mod-lt, div-lt_self}
use Rattle.c_tree.specs.declared.Callee.TheVariants.{Func}
use Rattle.c_tree.specs.declared.TypedProgram.{TypedProgram}
use Rattle.c_constant.proofs.Conversions.{converted_ulong, order}
use Rattle.c_meaning_spec.specs.State.{State}
use Rattle.c_meaning_spec.specs.declared.signal.Signal.TheVariants.{Returns}
use Rattle.c_meaning_spec.specs.Call.{called}
use Rattle.c_meaning_spec.specs.Eval.{meaning}
use Rattle.library_laws.specs.Numerals.{digit, numeral}
use Rattle.library_laws.specs.Printers.{Places}
use Rattle.library_laws.specs.FieldPrinters.{digits_printer, code_of_digits, end_of_digits, digit_of_digits}
use Rattle.library_laws.specs.Printing.{IsFunction, HasRoom, PrintsDigits}
use Rattle.library_laws.proofs.Rules.{at, Gives, Calls, calls_to, Follow, r_number, r_scalar, r_operation, r_convert}
use Rattle.library_laws.proofs.Rules.{r_constant, plain_scalar, plain_operation, r_one, r_other, r_called, r_argument}
use Rattle.library_laws.proofs.Rules.{r_call, r_put, r_plain, r_when, r_unless, r_next, r_last, r_initialise, r_give}
use Rattle.library_laws.proofs.Words.{add_int, to_int, divide, modulo, less_int, not_less_int, is_none, is_some}
use Rattle.library_laws.proofs.Calls.{inside, called_gives, more}
use Rattle.library_laws.proofs.NumeralFacts.{digit_small, digit_large, small_byte, numeral_step}

-- the steps of a call that writes so many digits, and some left
abbrev pub steps : ℕ → ℕ → ℕ
steps zero k = more 8 k
steps (suc d) k = more 13 (steps d (more 18 k))

-- are 31 a digit, and eight more
pub steps_are : (d k : ℕ) → steps d k ≡ 31 * d + 8 + k
steps_are zero k = omega arith
steps_are (suc d) k = let e : steps d (more 18 k) ≡ 31 * d + 8 + more 18 k = steps_are d (more 18 k) in omega arith

module _ (P : TypedProgram) (l : Places) (f : ℕ) (is_f : IsFunction P f (digits_printer l f)) (base letters : ℕ)
    (low : 2 ≤ base) (high : base ≤ 36) (bytes : letters + base ≤ 256) where
  -- the byte of the last digit
  byte : (s : State) (d : ℕ) (n j : Option ℕ) (k : ℕ) (out : List ℕ) → d < base
      → Gives P (digit_of_digits l) (inside s (digits_printer l f) out
      (n ∷ Some base ∷ Some letters ∷ j ∷ Some d ∷ [])) (more 7 k) (digit letters d)
      (inside s (digits_printer l f) out (n ∷ Some base ∷ Some letters ∷ j ∷ Some d ∷ [])) k
  byte s d n j k out below = go (order d 10)
    where
      go : (d < 10) ⊎ (10 ≤ d) → Gives P (digit_of_digits l) (inside s (digits_printer l f) out
          (n ∷ Some base ∷ Some letters ∷ j ∷ Some d ∷ [])) (more 7 k) (digit letters d)
          (inside s (digits_printer l f) out (n ∷ Some base ∷ Some letters ∷ j ∷ Some d ∷ [])) k
      go (inl small) =
          r_one (r_operation (λ rec a b s. refl) (r_scalar refl) r_number (less_int d 10 small (omega arith))) refl
          (r_operation (λ rec a b s. refl) r_number (r_scalar refl)
          (add_int 48 d (omega arith) ∙ ap (λ (n : ℕ). Some n) (sym (digit_small letters d small))))
      go (inr large) =
          r_other (r_operation (λ rec a b s. refl) (r_scalar refl) r_number (not_less_int d 10 large (omega arith)))
          refl (r_operation (λ rec a b s. refl) (r_scalar refl) (r_scalar refl)
          (add_int letters d (omega arith) ∙ ap (λ (n : ℕ). Some n) (sym (digit_large letters d large))))

  -- behind the front: the last digit is written, and the length given
  ends : (s : State) (n d k : ℕ) (out : List ℕ) → n < 2 ^ 64 → d + 1 < 2 ^ 31
      → Follow P (end_of_digits l)
      (inside s (digits_printer l f) out (Some n ∷ Some base ∷ Some letters ∷ Some d ∷ None ∷ [])) (more 18 k)
      (Returns (Some (d + 1))) (inside s (digits_printer l f) (out ++ digit letters (n % base) ∷ [])
      (Some n ∷ Some base ∷ Some letters ∷ Some d ∷ Some (n % base) ∷ [])) k
  ends s n d k out word few =
      let some : 0 < base = omega arith in
      let below : n % base < base = mod-lt n some in
      let is : digit letters (n % base) % 256 ≡ digit letters (n % base) = small_byte letters base (n % base) below
      high bytes in
      r_next (r_initialise refl refl (r_convert plain_operation (r_operation (λ rec a b s. refl) (r_scalar refl)
      (r_convert plain_scalar (r_scalar refl) (converted_ulong base (omega arith))) (modulo n base some))
      (to_int (n % base) (omega (arith, below)))) refl refl)
      (r_next (r_plain (r_put (byte s (n % base) (Some n) (Some d) _ out below)
      (ap (λ (b : ℕ). inside s (digits_printer l f) (out ++ b ∷ [])
      (Some n ∷ Some base ∷ Some letters ∷ Some d ∷ Some (n % base) ∷ [])) is)))
      (r_last (r_give (r_operation (λ rec a b s. refl) (r_scalar refl) r_number (add_int d 1 few)))))

  -- a word is written as these digits
  abbrev IsWritten : ℕ → List ℕ → Type 0
  IsWritten n ds = (s : State) → HasRoom s (184 * length ds + 184) → (k : ℕ)
      → Calls P f (n ∷ base ∷ letters ∷ []) s (steps (length ds) k) (length ds) (record s { output = s.output ++ ds }) k

  -- none for 0
  nothing : IsWritten 0 []
  nothing s room k =
      calls_to (called_gives {code = code_of_digits l f} s is_f refl
      (record { fits = omega (arith, room.fits); told = room.told })
      (r_last (r_when (r_operation (λ rec a b s. refl) (r_scalar refl) (r_constant (converted_ulong 0 (omega arith)))
      is_none) refl (r_give r_number))))
      refl (ap (λ (out : List ℕ). record s { output = out }) (sym (append-nil s.output)))

  -- those of the quotient, and the last
  others : (n : ℕ) (ds : List ℕ) → 0 < n → n < 2 ^ 64 → n / base < 2 ^ 64 → IsWritten (n / base) ds
      → IsWritten n (ds ++ digit letters (n % base) ∷ [])
  others n ds some word less e s room k =
      let longer : length (ds ++ digit letters (n % base) ∷ []) ≡ suc (length ds) =
      length-append ds (digit letters (n % base) ∷ []) ∙ omega arith in
      let fits : s.room + (184 * suc (length ds) + 184) ≤ 1048576 =
      subst (λ (d : ℕ). s.room + (184 * d + 184) ≤ 1048576) longer room.fits in
      let inner : HasRoom (inside s (digits_printer l f) s.output
      (Some n ∷ Some base ∷ Some letters ∷ None ∷ None ∷ [])) (184 * length ds + 184) =
      record { fits = omega (arith, fits); told = room.told } in
      subst (λ (d : ℕ). Calls P f (n ∷ base ∷ letters ∷ []) s (steps d k) d
      (record s { output = s.output ++ (ds ++ digit letters (n % base) ∷ []) }) k) (sym longer)
      (calls_to (called_gives {code = code_of_digits l f} s is_f refl
      (record { fits = omega (arith, fits); told = room.told })
      (r_next (r_unless (r_operation (λ rec a b s. refl) (r_scalar refl) (r_constant (converted_ulong 0 (omega arith)))
      (is_some n some)) refl)
      (r_next (r_initialise refl refl
      (r_call (r_argument (r_operation (λ rec a b s. refl) (r_scalar refl)
      (r_convert plain_scalar (r_scalar refl) (converted_ulong base (omega arith)))
      (divide n base (omega arith) less))
      (r_argument (r_scalar refl) (r_argument (r_scalar refl) (r_called (e _ inner (more 18 k)))))))
      refl refl)
      (ends s n (length ds) k (s.output ++ ds) word (omega (arith, fits))))))
      (omega arith)
      (ap (λ (out : List ℕ). record s { output = out }) (append_assoc s.output ds (digit letters (n % base) ∷ []))))

  -- all
  written : (fuel n : ℕ) → n < fuel → n < 2 ^ 64 → IsWritten n (numeral base letters n)
  written zero n few word = absurd (omega arith)
  written (suc fuel) n few word = go (λ m f w. written fuel m f w) (order 0 n)
    where
      go : ((m : ℕ) → m < fuel → m < 2 ^ 64 → IsWritten m (numeral base letters m)) → (0 < n) ⊎ (n ≤ 0)
          → IsWritten n (numeral base letters n)
      go earlier (inl some) =
          let smaller : n / base < n = div-lt_self some (omega arith) in
          subst (λ (ds : List ℕ). IsWritten n ds) (sym (numeral_step base letters n low some))
          (others n (numeral base letters (n / base)) some word (omega (arith, smaller))
          (earlier (n / base) (omega (arith, smaller)) (omega (arith, smaller))))
      go earlier (inr none) =
          let is : 0 ≡ n = omega arith in subst (λ (m : ℕ). IsWritten m (numeral base letters m)) is nothing

-- the law
pub prints_digits : PrintsDigits
prints_digits P l f n base letters s is_f word low high bytes room k =
    ap (λ (j : ℕ). called (meaning P) P (Func f) (n ∷ base ∷ letters ∷ []) (at s j))
    (sym (steps_are (length (numeral base letters n)) k))
    ∙ (written P l f is_f base letters low high bytes (suc n) n (omega arith) word s room k).is
