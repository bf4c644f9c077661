-- `print.fill` writes a character so many times.
use Rattle.std.proofs.Common.{◌≡◌, ℕ, zero, suc, ◌+◌, ◌-◌, ◌*◌, ◌%◌, ◌^◌, ◌<◌, ◌≤◌, ◌⊎◌, inl, inr, ℤ}
use Rattle.std.proofs.Common.{List, [], ◌∷◌, ◌++◌, Some, refl, sym, ap, ◌∙◌, subst, arith, append_assoc}
use Rattle.std.proofs.Common.{length, replicate}
use Rattle.std.proofs.lemmas.List.{append-nil, length-replicate}
use Rattle.c_tree.specs.declared.Kind.TheVariants.{Int}
use Rattle.c_tree.specs.declared.Callee.TheVariants.{Func}
use Rattle.c_tree.specs.declared.TypedProgram.{TypedProgram}
use Rattle.c_constant.specs.Kinds.{number}
use Rattle.c_constant.proofs.Conversions.{order}
use Rattle.c_meaning_spec.specs.State.{State, Go}
use Rattle.c_meaning_spec.specs.declared.signal.Signal.TheVariants.{Value}
use Rattle.c_meaning_spec.specs.Call.{called}
use Rattle.c_meaning_spec.specs.Eval.{meaning}
use Rattle.library_laws.specs.Printers.{Places}
use Rattle.library_laws.specs.FieldPrinters.{fill_printer, code_of_fill, more_to_fill, one_filled}
use Rattle.library_laws.specs.Printing.{IsFunction, HasRoom, Fills, from_zero}
use Rattle.library_laws.proofs.Rules.{at, Calls, calls_to, r_number, r_scalar, r_operation, r_put, r_plain, r_bump}
use Rattle.library_laws.proofs.Rules.{r_next, r_last, r_initialise, r_give, r_pair, r_repeat, Turns, r_turn, r_end}
use Rattle.library_laws.proofs.Words.{add_int, to_int, less_int, not_less_int, int_is, int_below, not_below}
use Rattle.library_laws.proofs.Calls.{inside, called_gives, more}

-- the steps of so many turns, and some left
abbrev pub turn_steps : ℕ → ℕ → ℕ
turn_steps zero k = more 3 k
turn_steps (suc m) k = more 10 (turn_steps m k)

-- are 10 a turn, and three for the last test
pub turns_are : (m k : ℕ) → turn_steps m k ≡ 10 * m + 3 + k
turns_are zero k = omega arith
turns_are (suc m) k = let e : turn_steps m k ≡ 10 * m + 3 + k = turns_are m k in omega arith

module _ (P : TypedProgram) (l : Places) (f c : ℕ) (is_f : IsFunction P f (fill_printer l)) where
  -- the turns that are left behind j of them
  turns : (m j count : ℕ) (s : State) (out : List ℕ) (k : ℕ) → j + m ≡ count → count < 2 ^ 31
      → Turns P (more_to_fill l) (one_filled l) (inside s (fill_printer l) out (Some c ∷ Some count ∷ Some j ∷ []))
      (turn_steps m k) (inside s (fill_printer l) (out ++ replicate m (c % 256))
      (Some c ∷ Some count ∷ Some count ∷ [])) k
  turns zero j count s out k e few =
      let same : j ≡ count = omega arith in
      r_end (r_operation (λ rec a b s. refl) (r_scalar refl) (r_scalar refl)
      (not_less_int j count (omega arith) (omega arith))) refl
      (ap (λ (o : List ℕ). inside s (fill_printer l) o (Some c ∷ Some count ∷ Some j ∷ [])) (sym (append-nil out))
      ∙ ap (λ (i : ℕ). inside s (fill_printer l) (out ++ []) (Some c ∷ Some count ∷ Some i ∷ [])) same)
  turns (suc m) j count s out k e few =
      r_turn (r_operation (λ rec a b s. refl) (r_scalar refl) (r_scalar refl) (less_int j count (omega arith) few)) refl
      (r_pair (r_plain (r_put (r_scalar refl) refl))
      (r_plain (r_bump refl (add_int j 1 (omega arith)) (to_int (j + 1) (omega arith)) refl)))
      (subst (λ (o : List ℕ). Turns P (more_to_fill l) (one_filled l)
      (inside s (fill_printer l) (out ++ (c % 256) ∷ []) (Some c ∷ Some count ∷ Some (j + 1) ∷ [])) (turn_steps m k)
      (inside s (fill_printer l) o (Some c ∷ Some count ∷ Some count ∷ [])) k)
      (append_assoc out ((c % 256) ∷ []) (replicate m (c % 256)))
      (turns m (j + 1) count s (out ++ (c % 256) ∷ []) k (omega arith) few))

  -- a count that is not negative
  pub filled : (count : ℕ) (s : State) (k : ℕ) → count < 2 ^ 31 → HasRoom s 168
      → Calls P f (c ∷ count ∷ []) s (more 5 (turn_steps count (more 2 k))) count
      (record s { output = s.output ++ replicate count (c % 256) }) k
  filled count s k few room =
      called_gives {code = code_of_fill l} s is_f refl (record { fits = room.fits; told = room.told })
      (r_next (r_initialise refl refl r_number refl refl)
      (r_next (r_repeat (turns count 0 count s s.output (more 2 k) (omega arith) few))
      (r_last (r_give (r_scalar refl)))))

  -- a negative one
  pub none_filled : (count m : ℕ) (s : State) (k : ℕ) → 2 ^ 63 ≤ count → count + suc m ≡ 2 ^ 64 → HasRoom s 168
      → Calls P f (c ∷ count ∷ []) s (more 10 k) 0 (record s { output = s.output ++ [] }) k
  none_filled count m s k large e room =
      calls_to (called_gives {code = code_of_fill l} s is_f refl (record { fits = room.fits; told = room.told })
      (r_next (r_initialise refl refl r_number refl refl)
      (r_next (r_repeat (r_end (r_operation (λ rec a b s. refl) (r_scalar refl) (r_scalar refl)
      (not_below count m large e)) refl refl)) (r_last (r_give (r_scalar refl))))))
      refl (ap (λ (out : List ℕ). record s { output = out }) (sym (append-nil s.output)))

-- the law
pub fills : Fills
fills P l f c count s is_f word room k = go (order count (2 ^ 63))
  where
    -- what is said where the word stands for this number
    Said : ℤ → Type 0
    Said z = called (meaning P) P (Func f) (c ∷ count ∷ []) (at s (10 * from_zero z + 10 + k))
        ≡ Go (Value (length (replicate (from_zero z) (c % 256))))
        (at (record s { output = s.output ++ replicate (from_zero z) (c % 256) }) k)

    go : (count < 2 ^ 63) ⊎ (2 ^ 63 ≤ count) → Said (number Int count)
    go (inl small) =
        let narrow : (count + 2 ^ 31) % 2 ^ 64 < 2 ^ 32 = word.narrow in
        let few : count < 2 ^ 31 = omega arith in
        let t : 10 * count + 10 + k ≡ more 5 (turn_steps count (more 2 k)) =
        omega (arith, turns_are count (more 2 k)) in
        subst Said (sym (int_is count small))
        (ap (λ (j : ℕ). called (meaning P) P (Func f) (c ∷ count ∷ []) (at s j)) t
        ∙ (filled P l f c is_f count s k few room).is
        ∙ ap (λ (n : ℕ). Go (Value n) (at (record s { output = s.output ++ replicate count (c % 256) }) k))
        (sym (length-replicate count (c % 256))))
    go (inr large) =
        let below : count < 2 ^ 64 = word.below in
        let e : count + suc (2 ^ 64 - 1 - count) ≡ 2 ^ 64 = omega arith in
        let t : 10 * 0 + 10 + k ≡ more 10 k = omega arith in
        subst Said (sym (int_below count (2 ^ 64 - 1 - count) large e))
        (ap (λ (j : ℕ). called (meaning P) P (Func f) (c ∷ count ∷ []) (at s j)) t
        ∙ (none_filled P l f c is_f count (2 ^ 64 - 1 - count) s k large e room).is)
