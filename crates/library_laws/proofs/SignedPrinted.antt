-- `print.d` writes the decimal numeral, behind `-` where the number is negative.
use Rattle.std.proofs.Common.{◌≡◌, ℕ, suc, ◌+◌, ◌-◌, ◌^◌, ◌<◌, ◌≤◌, ◌⊎◌, inl, inr, ℤ, pos, negsuc, List, [], ◌∷◌, ◌++◌}
use Rattle.std.proofs.Common.{Some, refl, sym, ap, ◌∙◌, subst, arith, append_assoc, length}
use Rattle.std.specs.Prelude.{decimal}
use Rattle.std.specs.Fmt.{signed_decimal}
use Rattle.c_tree.specs.declared.Kind.TheVariants.{Long}
use Rattle.c_tree.specs.declared.Callee.TheVariants.{Func}
use Rattle.c_tree.specs.declared.TypedProgram.{TypedProgram}
use Rattle.c_constant.specs.Kinds.{number}
use Rattle.c_constant.proofs.Conversions.{converted_ulong, converted_long, order}
use Rattle.c_meaning_spec.specs.State.{State, Go}
use Rattle.c_meaning_spec.specs.declared.signal.Signal.TheVariants.{Value}
use Rattle.c_meaning_spec.specs.Call.{called}
use Rattle.c_meaning_spec.specs.Eval.{meaning}
use Rattle.library_laws.specs.Printers.{Places, signed_printer, code_of_signed}
use Rattle.library_laws.specs.Printing.{IsFunction, HasRoom, digits_room, digits_steps, signed_room, signed_steps}
use Rattle.library_laws.specs.Printing.{PrintsSigned}
use Rattle.library_laws.proofs.Rules.{at, Calls, calls_to, r_number, r_scalar, r_operation, r_convert, r_constant}
use Rattle.library_laws.proofs.Rules.{plain_scalar, r_called, r_argument, r_call, r_put, r_plain, r_cast, r_negative}
use Rattle.library_laws.proofs.Rules.{r_when, r_unless, r_next, r_last, r_give}
use Rattle.library_laws.proofs.Words.{add_int, has_no_sign, has_sign, minus, long_is, long_below}
use Rattle.library_laws.proofs.Calls.{called_gives, more, inside}
use Rattle.library_laws.proofs.UnsignedPrinted.{IsPrinted, printed, steps, steps_are}

module _ (P : TypedProgram) (l : Places) (f g : ℕ) (is_g : IsFunction P g (signed_printer l f)) where
  -- a number that is not negative
  positive : (n : ℕ) (s : State) → n < 2 ^ 63 → (e : IsPrinted P f n (decimal n))
      → HasRoom s (152 + digits_room (suc e.digits)) → (k : ℕ)
      → Calls P g (n ∷ []) s (more 9 (steps e.digits k)) (suc e.digits)
      (record s { output = s.output ++ decimal n }) k
  positive n s small e room k =
      let inner : HasRoom (inside s (signed_printer l f) s.output (Some n ∷ [])) (digits_room (suc e.digits)) =
      record { fits = omega (arith, room.fits); told = room.told } in
      called_gives {code = code_of_signed l f} s is_g refl
      (record { fits = omega (arith, room.fits); told = room.told })
      (r_last (r_when (r_operation (λ rec a b s. refl) (r_scalar refl) (r_constant (converted_long 0 (omega arith)))
      (has_no_sign n small)) refl
      (r_give (r_call (r_argument (r_convert plain_scalar (r_scalar refl) (converted_ulong n (omega arith)))
      (r_called (e.prints _ inner k)))))))

  -- a negative one
  negative : (n m : ℕ) (s : State) → 2 ^ 63 ≤ n → n + suc m ≡ 2 ^ 64 → (e : IsPrinted P f (suc m) (decimal (suc m)))
      → HasRoom s (152 + digits_room (suc e.digits)) → (k : ℕ)
      → Calls P g (n ∷ []) s (more 17 (steps e.digits k)) (suc (suc e.digits))
      (record s { output = s.output ++ 45 ∷ decimal (suc m) }) k
  negative n m s large is e room k =
      let inner : HasRoom (inside s (signed_printer l f) (s.output ++ 45 ∷ []) (Some n ∷ [])) (digits_room (suc
      e.digits)) = record { fits = omega (arith, room.fits); told = room.told } in
      calls_to (called_gives {code = code_of_signed l f} s is_g refl
      (record { fits = omega (arith, room.fits); told = room.told })
      (r_next (r_unless (r_operation (λ rec a b s. refl) (r_scalar refl) (r_constant (converted_long 0 (omega arith)))
      (has_sign n m large is)) refl)
      (r_next (r_plain (r_put r_number refl))
      (r_last (r_give (r_operation (λ rec a b s. refl) r_number
      (r_call (r_argument (r_negative (r_cast (r_scalar refl) (converted_ulong n (omega arith))) (minus n m large is))
      (r_called (e.prints _ inner k))))
      (add_int 1 (suc e.digits) (omega (arith, room.fits)))))))))
      (omega arith)
      (ap (λ (out : List ℕ). record s { output = out }) (append_assoc s.output (45 ∷ []) (decimal (suc m))))

-- the law
pub prints_signed : PrintsSigned
prints_signed P l m f g w s is_f is_g word room k = go (order w (2 ^ 63))
  where
    -- what is said where the word stands for this number
    Said : ℤ → Type 0
    Said z = HasRoom s (signed_room z) → called (meaning P) P (Func g) (w ∷ []) (at s (signed_steps z + k))
        ≡ Go (Value (length (signed_decimal z))) (at (record s { output = s.output ++ signed_decimal z }) k)

    positive_said : w < 2 ^ 63 → IsPrinted P f w (decimal w) → Said (pos w)
    positive_said small e room =
        let t : 9 + digits_steps (suc e.digits) + k ≡ more 9 (steps e.digits k) =
        omega (arith, steps_are e.digits k) in
        ap (λ (d : ℕ). called (meaning P) P (Func g) (w ∷ []) (at s (9 + digits_steps d + k))) e.counted
        ∙ ap (λ (j : ℕ). called (meaning P) P (Func g) (w ∷ []) (at s j)) t
        ∙ (positive P m f g is_g w s small e (record {
          fits = subst (λ (d : ℕ). s.room + (152 + digits_room d) ≤ 1048576) e.counted room.fits;
          told = room.told;
        }) k).is
        ∙ ap (λ (d : ℕ). Go (Value d) (at (record s { output = s.output ++ decimal w }) k)) (sym e.counted)

    negative_said : (n : ℕ) → 2 ^ 63 ≤ w → w + suc n ≡ 2 ^ 64 → IsPrinted P f (suc n) (decimal (suc n))
        → Said (negsuc n)
    negative_said n large is e room =
        let t : 17 + digits_steps (suc e.digits) + k ≡ more 17 (steps e.digits k) =
        omega (arith, steps_are e.digits k) in
        ap (λ (d : ℕ). called (meaning P) P (Func g) (w ∷ []) (at s (17 + digits_steps d + k))) e.counted
        ∙ ap (λ (j : ℕ). called (meaning P) P (Func g) (w ∷ []) (at s j)) t
        ∙ (negative P m f g is_g w n s large is e (record {
          fits = subst (λ (d : ℕ). s.room + (152 + digits_room d) ≤ 1048576) e.counted room.fits;
          told = room.told;
        }) k).is
        ∙ ap (λ (d : ℕ). Go (Value (suc d)) (at (record s { output = s.output ++ 45 ∷ decimal (suc n) }) k))
        (sym e.counted)

    go : (w < 2 ^ 63) ⊎ (2 ^ 63 ≤ w) → called (meaning P) P (Func g) (w ∷ []) (at s (signed_steps (number Long w) + k))
        ≡ Go (Value (length (signed_decimal (number Long w))))
        (at (record s { output = s.output ++ signed_decimal (number Long w) }) k)
    go (inl small) =
        subst Said (sym (long_is w small)) (positive_said small (printed P l f is_f w word word)) room
    go (inr large) =
        let is : w + suc (2 ^ 64 - 1 - w) ≡ 2 ^ 64 = omega arith in
        let few : suc (2 ^ 64 - 1 - w) < 2 ^ 64 = omega arith in
        subst Said (sym (long_below w (2 ^ 64 - 1 - w) large is))
        (negative_said (2 ^ 64 - 1 - w) large is (printed P l f is_f (suc (2 ^ 64 - 1 - w)) few few)) room
