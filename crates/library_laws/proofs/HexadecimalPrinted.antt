-- `print.x` writes the hexadecimal numeral, by induction on its digits.
use Rattle.std.proofs.Common.{◌≡◌, ℕ, zero, suc, ◌+◌, ◌*◌, ◌/◌, ◌%◌, ◌^◌, ◌<◌, ◌≤◌, ◌⊎◌, inl, inr, Bool, false}
use Rattle.std.proofs.Common.{cond, List, [], ◌∷◌, ◌++◌, Some, None, refl, sym, ap, ◌∙◌, subst, arith}
use Rattle.std.proofs.Common.{append_assoc, length, length-append, nat_eq}
use Rattle.std.proofs.lemmas.Bool.Decides.{nat_tests}
use Rattle.c_tree.specs.declared.Callee.TheVariants.{Func}
use Rattle.c_tree.specs.declared.TypedProgram.{TypedProgram}
use Rattle.c_constant.proofs.Conversions.{converted_ulong, order}
use Rattle.c_meaning_spec.specs.State.{State}
use Rattle.c_meaning_spec.specs.declared.signal.Signal.TheVariants.{Returns}
use Rattle.c_meaning_spec.specs.Call.{called}
use Rattle.c_meaning_spec.specs.Eval.{meaning}
use Rattle.library_laws.specs.Numerals.{digit, numeral, hexadecimal}
use Rattle.library_laws.specs.Printers.{Places, hexadecimal_printer, code_of_hexadecimal, end_of_hexadecimal}
use Rattle.library_laws.specs.Printing.{IsFunction, HasRoom, WritesWithin, PrintsHexadecimal}
use Rattle.library_laws.proofs.Rules.{at, Calls, calls_to, Follow, r_number, r_scalar, r_operation, r_convert}
use Rattle.library_laws.proofs.Rules.{r_constant, plain_operation, r_one, r_other, r_called, r_argument}
use Rattle.library_laws.proofs.Rules.{r_call, r_put, r_plain, r_next, r_last, r_initialise, r_give}
use Rattle.library_laws.proofs.Words.{add_int, to_int, less, not_less, less_int, not_less_int, shift, low, letter}
use Rattle.library_laws.proofs.Calls.{inside, called_gives, more}
use Rattle.library_laws.proofs.NumeralFacts.{digit_small, digit_large, small_byte, numeral_step}

-- a word is written as these digits
record IsWritten (P : TypedProgram) (f n : ℕ) (ds : List ℕ) : Type 0 where
  -- the steps with some left over, and alone
  steps : ℕ → ℕ
  alone : ℕ
  counted : (k : ℕ) → steps k ≡ alone + k
  few : alone ≤ 31 * length ds
  prints : (s : State) → HasRoom s (168 * length ds) → (k : ℕ)
      → Calls P f (n ∷ []) s (steps k) (length ds) (record s { output = s.output ++ ds }) k

module _ (P : TypedProgram) (l : Places) (f : ℕ) (is_f : IsFunction P f (hexadecimal_printer l f)) where
  -- behind the front: the last digit is written, and the length given
  record Ends (n : ℕ) : Type 0 where
    steps : ℕ → ℕ
    alone : ℕ
    counted : (k : ℕ) → steps k ≡ alone + k
    few : alone ≤ 20
    follow : (s : State) (d k : ℕ) (out : List ℕ) → d + 1 < 2 ^ 31
        → Follow P (end_of_hexadecimal l)
        (inside s (hexadecimal_printer l f) out (Some n ∷ Some d ∷ None ∷ [])) (steps k) (Returns (Some (d + 1)))
        (inside s (hexadecimal_printer l f) (out ++ digit 87 (n % 16) ∷ [])
        (Some n ∷ Some d ∷ Some (n % 16) ∷ [])) k

  ends : (n : ℕ) → n < 2 ^ 64 → Ends n
  ends n word = go (order (n % 16) 10)
    where
      is : digit 87 (n % 16) % 256 ≡ digit 87 (n % 16)
      is = small_byte 87 16 (n % 16) (omega arith) (omega arith) (omega arith)

      go : (n % 16 < 10) ⊎ (10 ≤ n % 16) → Ends n
      go (inl small) = record {
        steps = λ k. more 18 k;
        alone = 18;
        counted = λ k. omega arith;
        few = omega arith;
        follow = λ s d k out short.
            r_next (r_initialise refl refl (r_convert plain_operation (r_operation (λ rec a b s. refl) (r_scalar refl)
            (r_constant (converted_ulong 15 (omega arith))) (low n)) (to_int (n % 16) (omega arith))) refl refl)
            (r_next (r_plain (r_put (r_one (r_operation (λ rec a b s. refl) (r_scalar refl) r_number
            (less_int (n % 16) 10 small (omega arith))) refl
            (r_operation (λ rec a b s. refl) r_number (r_scalar refl)
            (add_int 48 (n % 16) (omega arith) ∙ ap (λ (n : ℕ). Some n) (sym (digit_small 87 (n % 16) small)))))
            (ap (λ (b : ℕ). inside s (hexadecimal_printer l f) (out ++ b ∷ [])
            (Some n ∷ Some d ∷ Some (n % 16) ∷ [])) is)))
            (r_last (r_give (r_operation (λ rec a b s. refl) (r_scalar refl) r_number (add_int d 1 short)))));
      }
      go (inr large) = record {
        steps = λ k. more 20 k;
        alone = 20;
        counted = λ k. omega arith;
        few = omega arith;
        follow = λ s d k out short.
            r_next (r_initialise refl refl (r_convert plain_operation (r_operation (λ rec a b s. refl) (r_scalar refl)
            (r_constant (converted_ulong 15 (omega arith))) (low n)) (to_int (n % 16) (omega arith))) refl refl)
            (r_next (r_plain (r_put (r_other (r_operation (λ rec a b s. refl) (r_scalar refl) r_number
            (not_less_int (n % 16) 10 large (omega arith))) refl
            (r_operation (λ rec a b s. refl) (r_operation (λ rec a b s. refl) r_number r_number letter) (r_scalar refl)
            (add_int 87 (n % 16) (omega arith) ∙ ap (λ (n : ℕ). Some n) (sym (digit_large 87 (n % 16) large)))))
            (ap (λ (b : ℕ). inside s (hexadecimal_printer l f) (out ++ b ∷ [])
            (Some n ∷ Some d ∷ Some (n % 16) ∷ [])) is)))
            (r_last (r_give (r_operation (λ rec a b s. refl) (r_scalar refl) r_number (add_int d 1 short)))));
      }

  -- one digit
  one : (n : ℕ) → n < 16 → IsWritten P f n (digit 87 n ∷ [])
  one n h = go (ends n (omega arith))
    where
      go : Ends n → IsWritten P f n (digit 87 n ∷ [])
      go e = record {
        steps = λ k. more 8 (e.steps k);
        alone = 8 + e.alone;
        counted = λ k. omega (arith, e.counted k);
        few = omega (arith, e.few);
        prints = λ s room k.
            let last : n % 16 ≡ n = omega arith in
            calls_to (called_gives {code = code_of_hexadecimal l f} s is_f refl
            (record { fits = room.fits; told = room.told })
            (r_next (r_initialise refl refl (r_one (r_operation (λ rec a b s. refl) (r_scalar refl)
            (r_constant (converted_ulong 16 (omega arith))) (less n 16 h)) refl r_number) refl refl)
            (e.follow s 0 k s.output (omega arith))))
            refl (ap (λ (d : ℕ). record s { output = s.output ++ digit 87 d ∷ [] }) last);
      }

  -- more digits
  others : (n : ℕ) (ds : List ℕ) → 16 ≤ n → n < 2 ^ 64 → IsWritten P f (n / 16) ds
      → IsWritten P f n (ds ++ digit 87 (n % 16) ∷ [])
  others n ds h word earlier = go (ends n word)
    where
      longer : length (ds ++ digit 87 (n % 16) ∷ []) ≡ suc (length ds)
      longer = length-append ds (digit 87 (n % 16) ∷ []) ∙ omega arith

      go : Ends n → IsWritten P f n (ds ++ digit 87 (n % 16) ∷ [])
      go e = record {
        steps = λ k. more 11 (earlier.steps (e.steps k));
        alone = 11 + earlier.alone + e.alone;
        counted = λ k. omega (arith, e.counted k, earlier.counted (e.steps k));
        few = omega (arith, e.few, earlier.few, longer);
        prints = λ s room k.
            let fits : s.room + 168 * suc (length ds) ≤ 1048576 =
            subst (λ (d : ℕ). s.room + 168 * d ≤ 1048576) longer room.fits in
            let inner : HasRoom (inside s (hexadecimal_printer l f) s.output (Some n ∷ None ∷ None ∷ []))
            (168 * length ds) = record { fits = omega (arith, fits); told = room.told } in
            subst (λ (d : ℕ). Calls P f (n ∷ []) s (more 11 (earlier.steps (e.steps k))) d
            (record s { output = s.output ++ (ds ++ digit 87 (n % 16) ∷ []) }) k) (sym longer)
            (calls_to (called_gives {code = code_of_hexadecimal l f} s is_f refl
            (record { fits = omega (arith, fits); told = room.told })
            (r_next (r_initialise refl refl (r_other (r_operation (λ rec a b s. refl) (r_scalar refl)
            (r_constant (converted_ulong 16 (omega arith))) (not_less n 16 h)) refl
            (r_call (r_argument (r_operation (λ rec a b s. refl) (r_scalar refl) r_number (shift n))
            (r_called (earlier.prints _ inner (e.steps k)))))) refl refl)
            (e.follow s (length ds) k (s.output ++ ds) (omega (arith, fits)))))
            (omega arith)
            (ap (λ (out : List ℕ). record s { output = out }) (append_assoc s.output ds (digit 87 (n % 16) ∷ []))));
      }

-- a number that is not 0 has its digits
not_zero : (n : ℕ) → 0 < n → hexadecimal n ≡ numeral 16 87 n
not_zero n h =
    let e : nat_eq n 0 ≡ false = grind (arith, nat_tests) in
    ap (λ (b : Bool). cond b (48 ∷ []) (numeral 16 87 n)) e

-- a number of one digit
one_digit : (n : ℕ) → n < 16 → hexadecimal n ≡ digit 87 n ∷ []
one_digit n h = go (order 0 n)
  where
    go : (0 < n) ⊎ (n ≤ 0) → hexadecimal n ≡ digit 87 n ∷ []
    go (inl some) =
        let front : n / 16 ≡ 0 = omega arith in
        let last : n % 16 ≡ n = omega arith in
        not_zero n some ∙ numeral_step 16 87 n (omega arith) some
        ∙ ap (λ (m : ℕ). numeral 16 87 m ++ digit 87 (n % 16) ∷ []) front
        ∙ ap (λ (m : ℕ). digit 87 m ∷ []) last
    go (inr none) =
        let is : 0 ≡ n = omega arith in
        ap (λ (m : ℕ). hexadecimal m) (sym is) ∙ ap (λ (m : ℕ). digit 87 m ∷ []) is

-- one of more digits
more_digits : (n : ℕ) → 16 ≤ n → hexadecimal n ≡ hexadecimal (n / 16) ++ digit 87 (n % 16) ∷ []
more_digits n h =
    not_zero n (omega arith) ∙ numeral_step 16 87 n (omega arith) (omega arith)
    ∙ ap (λ (ds : List ℕ). ds ++ digit 87 (n % 16) ∷ []) (sym (not_zero (n / 16) (omega arith)))

-- all
written : (P : TypedProgram) (l : Places) (f : ℕ) → IsFunction P f (hexadecimal_printer l f) → (fuel n : ℕ)
    → n < fuel → n < 2 ^ 64 → IsWritten P f n (hexadecimal n)
written P l f is_f zero n few word = absurd (omega arith)
written P l f is_f (suc fuel) n few word = go (λ m a b. written P l f is_f fuel m a b) (order n 16)
  where
    go : ((m : ℕ) → m < fuel → m < 2 ^ 64 → IsWritten P f m (hexadecimal m)) → (n < 16) ⊎ (16 ≤ n)
        → IsWritten P f n (hexadecimal n)
    go earlier (inl small) =
        subst (λ (ds : List ℕ). IsWritten P f n ds) (sym (one_digit n small)) (one P l f is_f n small)
    go earlier (inr large) =
        subst (λ (ds : List ℕ). IsWritten P f n ds) (sym (more_digits n large))
        (others P l f is_f n (hexadecimal (n / 16)) large word (earlier (n / 16) (omega arith) (omega arith)))

-- the law
pub prints_hexadecimal : PrintsHexadecimal
prints_hexadecimal P l f n s is_f word room = go (written P l f is_f (suc n) n (omega arith) word)
  where
    go : IsWritten P f n (hexadecimal n)
        → WritesWithin P f (n ∷ []) s (31 * length (hexadecimal n)) (hexadecimal n)
    go e = record {
      steps = e.alone;
      few = e.few;
      writes = λ k. ap (λ (j : ℕ). called (meaning P) P (Func f) (n ∷ []) (at s j)) (sym (e.counted k))
          ∙ (e.prints s room k).is;
    }
