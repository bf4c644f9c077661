-- `print.u` writes the decimal numeral, by induction on its digits.
use Rattle.std.proofs.Common.{◌≡◌, ℕ, zero, suc, ◌+◌, ◌/◌, ◌%◌, ◌^◌, ◌<◌, ◌≤◌, List, []}
use Rattle.std.proofs.Common.{◌∷◌, ◌++◌, Some, None, refl, sym, ap, ◌∙◌, subst, arith, append_assoc, length}
use Rattle.std.proofs.Common.{length-append}
use Rattle.std.specs.Prelude.{decimal}
use Rattle.std.proofs.lemmas.Fmt.{decimal_by_steps}
use Rattle.c_tree.specs.declared.Kind.TheVariants.{Int}
use Rattle.c_tree.specs.declared.Callee.TheVariants.{Func}
use Rattle.c_tree.specs.declared.TypedProgram.{TypedProgram}
use Rattle.c_meaning_spec.specs.State.{State, Go}
use Rattle.c_meaning_spec.specs.declared.signal.Signal.TheVariants.{Value, Returns}
use Rattle.c_meaning_spec.specs.Call.{called}
use Rattle.c_meaning_spec.specs.Eval.{meaning}
use Rattle.library_laws.specs.Printers.{Places, unsigned_printer, last_of_unsigned, code_of_unsigned}
use Rattle.library_laws.specs.Printing.{IsFunction, HasRoom, digits_room, digits_steps, PrintsUnsigned}
use Rattle.c_tree.specs.declared.BinaryOp.TheVariants.{Add}
use Rattle.library_laws.specs.Terms.{number, scalar, convert, operation, put, plain, give}
use Rattle.library_laws.proofs.Rules.{at, Calls, calls_to, Follow, r_number, r_scalar, r_operation, r_convert}
use Rattle.library_laws.proofs.Rules.{r_constant}
use Rattle.library_laws.proofs.Rules.{plain_operation, r_one, r_other, r_called, r_argument, r_call, r_put, r_plain}
use Rattle.library_laws.proofs.Rules.{r_next, r_last, r_initialise, r_give}
use Rattle.library_laws.proofs.Words.{add_int, to_int, less, not_less, divide, modulo, add}
use Rattle.library_laws.proofs.Calls.{inside, called_gives, more}
use Rattle.c_constant.proofs.Conversions.{converted_ulong}

-- the steps of a call that writes so many digits and one, and some left
abbrev pub steps : ℕ → ℕ → ℕ
steps zero k = more 20 k
steps (suc d) k = more 11 (steps d (more 12 k))

-- are 23 a digit, and three fewer
pub steps_are : (d k : ℕ) → steps d k ≡ digits_steps (suc d) + k
steps_are zero k = omega arith
steps_are (suc d) k = let e : steps d (more 12 k) ≡ digits_steps (suc d) + more 12 k = steps_are d (more 12 k) in
    omega arith

-- a word is written as these digits
pub record IsPrinted (P : TypedProgram) (f n : ℕ) (ds : List ℕ) : Type 0 where
  -- so many digits and one
  pub digits : ℕ
  pub counted : length ds ≡ suc digits
  pub prints : (s : State) → HasRoom s (digits_room (suc digits)) → (k : ℕ)
      → Calls P f (n ∷ []) s (steps digits k) (suc digits) (record s { output = s.output ++ ds }) k

module _ (P : TypedProgram) (l : Places) (f : ℕ) (is_f : IsFunction P f (unsigned_printer l f)) where
  -- behind the front: the last digit is written, and the length given
  ends : (s : State) (n d k : ℕ) (out : List ℕ) → n < 2 ^ 64 → d + 1 < 2 ^ 31
      → Follow P (plain (put (l 24) (convert (l 27) Int (last_of_unsigned l)))
      ∷ give (operation (l 35) Int Add (scalar (l 34) Int 1) (number (l 36) Int 1)) ∷ [])
      (inside s (unsigned_printer l f) out (Some n ∷ Some d ∷ [])) (more 12 k) (Returns (Some (d + 1)))
      (inside s (unsigned_printer l f) (out ++ (48 + n % 10) ∷ []) (Some n ∷ Some d ∷ [])) k
  ends s n d k out word few =
      let byte : (48 + n % 10) % 256 ≡ 48 + n % 10 = omega arith in
      r_next (r_plain (r_put (r_convert plain_operation (r_operation (λ rec a b s. refl)
      (r_constant (converted_ulong 48 (omega arith)))
      (r_operation (λ rec a b s. refl) (r_scalar refl) (r_constant (converted_ulong 10 (omega arith)))
      (modulo n 10 (omega arith))) (add 48 (n % 10) (omega arith))) (to_int (48 + n % 10) (omega arith)))
      (ap (λ (b : ℕ). inside s (unsigned_printer l f) (out ++ b ∷ []) (Some n ∷ Some d ∷ [])) byte)))
      (r_last (r_give (r_operation (λ rec a b s. refl) (r_scalar refl) r_number (add_int d 1 few))))

  -- one digit
  one : (n : ℕ) → n < 10 → IsPrinted P f n ((48 + n) ∷ [])
  one n h = record {
    digits = 0;
    counted = refl;
    prints = λ s room k.
        let digit : n % 10 ≡ n = omega arith in
        calls_to (called_gives {code = code_of_unsigned l f} s is_f refl (record { fits = room.fits; told = room.told })
        (r_next (r_initialise refl refl (r_one (r_operation (λ rec a b s. refl) (r_scalar refl)
        (r_constant (converted_ulong 10 (omega arith))) (less n 10 h)) refl r_number) refl refl)
        (ends s n 0 k s.output (omega arith) (omega arith))))
        refl (ap (λ (b : ℕ). record s { output = s.output ++ (48 + b) ∷ [] }) digit);
  }

  -- more digits
  others : (n : ℕ) (ds : List ℕ) → 10 ≤ n → (n / 10 < 2 ^ 64 → IsPrinted P f (n / 10) ds) → n < 2 ^ 64
      → IsPrinted P f n (ds ++ (48 + n % 10) ∷ [])
  others n ds h earlier word = go (earlier (omega arith))
    where
      go : IsPrinted P f (n / 10) ds → IsPrinted P f n (ds ++ (48 + n % 10) ∷ [])
      go e = record {
        digits = suc e.digits;
        counted = length-append ds ((48 + n % 10) ∷ []) ∙ omega (arith, e.counted);
        prints = λ s room k.
            let inner : HasRoom (inside s (unsigned_printer l f) s.output (Some n ∷ None ∷ []))
            (digits_room (suc e.digits)) =
            record { fits = omega (arith, room.fits); told = room.told } in
            calls_to (called_gives {code = code_of_unsigned l f} s is_f refl
            (record { fits = omega (arith, room.fits); told = room.told })
            (r_next (r_initialise refl refl (r_other (r_operation (λ rec a b s. refl) (r_scalar refl)
            (r_constant (converted_ulong 10 (omega arith))) (not_less n 10 h)) refl
            (r_call (r_argument (r_operation (λ rec a b s. refl) (r_scalar refl)
            (r_constant (converted_ulong 10 (omega arith))) (divide n 10 (omega arith) (omega arith)))
            (r_called (e.prints _ inner (more 12 k)))))) refl refl)
            (ends s n (suc e.digits) k (s.output ++ ds) word (omega (arith, room.fits)))))
            (omega arith)
            (ap (λ (out : List ℕ). record s { output = out }) (append_assoc s.output ds ((48 + n % 10) ∷ [])));
      }

  -- all
  pub printed : (n : ℕ) → n < 2 ^ 64 → n < 2 ^ 64 → IsPrinted P f n (decimal n)
  printed n word =
      decimal_by_steps (λ n ds. n < 2 ^ 64 → IsPrinted P f n ds) (λ n h w. one n h) (λ n ds h e w. others n ds h e w)
      n word

-- the law
pub prints_unsigned : PrintsUnsigned
prints_unsigned P l f n s is_f word room k = go (printed P l f is_f n word word)
  where
    go : IsPrinted P f n (decimal n)
        → called (meaning P) P (Func f) (n ∷ []) (at s (digits_steps (length (decimal n)) + k))
        ≡ Go (Value (length (decimal n))) (at (record s { output = s.output ++ decimal n }) k)
    go e =
        ap (λ (d : ℕ). called (meaning P) P (Func f) (n ∷ []) (at s (digits_steps d + k))) e.counted
        ∙ ap (λ (j : ℕ). called (meaning P) P (Func f) (n ∷ []) (at s j)) (sym (steps_are e.digits k))
        ∙ (e.prints s (record {
          fits = subst (λ (d : ℕ). s.room + digits_room d ≤ 1048576) e.counted room.fits;
          told = room.told;
        }) k).is
        ∙ ap (λ (d : ℕ). Go (Value d) (at (record s { output = s.output ++ decimal n }) k)) (sym e.counted)
