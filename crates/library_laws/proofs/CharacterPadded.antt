-- `print.char` writes a character in a field.
use Rattle.std.proofs.Common.{◌≡◌, ◌≢◌, ℕ, zero, suc, ◌+◌, ◌-◌, ◌*◌, ◌%◌, ◌^◌, ◌<◌, Bool, true, false, cond}
use Rattle.std.proofs.Common.{List, [], ◌∷◌, ◌++◌, Option, Some, None, refl, sym, ap, ◌∙◌, subst, arith, append_assoc}
use Rattle.std.proofs.Common.{length, replicate, nat_eq, length-append}
use Rattle.std.proofs.lemmas.Bool.Decides.{nat_tests}
use Rattle.std.proofs.lemmas.List.{length-replicate}
use Rattle.c_tree.specs.declared.Kind.TheVariants.{Int}
use Rattle.c_tree.specs.declared.Callee.TheVariants.{Func}
use Rattle.c_tree.specs.declared.TypedProgram.{TypedProgram}
use Rattle.c_tree.specs.declared.BinaryOp.TheVariants.{Subtract, Equal}
use Rattle.c_constant.specs.Operation.{operate}
use Rattle.c_meaning_spec.specs.State.{State, Go}
use Rattle.c_meaning_spec.specs.declared.signal.Signal.TheVariants.{Value}
use Rattle.c_meaning_spec.specs.Call.{called}
use Rattle.c_meaning_spec.specs.Eval.{meaning}
use Rattle.library_laws.specs.Fields.{Fill, left, right, zeros, padded, fill_of}
use Rattle.library_laws.specs.Printers.{Places}
use Rattle.library_laws.specs.FieldPrinters.{fill_printer, character_printer, code_of_character, spare_spaces}
use Rattle.library_laws.specs.Printing.{IsFunction, HasRoom, WritesWithin, PrintsCharacter}
use Rattle.library_laws.proofs.Rules.{at, Gives, Calls, calls_to, r_number, r_scalar, r_operation, r_one, r_other}
use Rattle.library_laws.proofs.Rules.{r_called, r_argument, r_call, r_put, r_plain, r_bump, r_next, r_last}
use Rattle.library_laws.proofs.Rules.{r_initialise, r_give}
use Rattle.library_laws.proofs.Words.{add_int, to_int, is_minus, other_int, less_one, below_zero}
use Rattle.library_laws.proofs.Calls.{inside, called_gives, more}
use Rattle.library_laws.proofs.Filled.{filled, none_filled, turn_steps, turns_are}

-- one less than a width, as a word, and how many spaces that makes
record Spare (width : ℕ) : Type 0 where
  word : ℕ
  is : operate Subtract Int width 1 ≡ Some word
  prints : (P : TypedProgram) (l : Places) (f : ℕ) → IsFunction P f (fill_printer l) → (s : State) → HasRoom s 168
      → (k : ℕ) → Calls P f (32 ∷ word ∷ []) s (10 * (width - 1) + 10 + k) (width - 1)
      (record s { output = s.output ++ replicate (width - 1) 32 }) k

spare : (width : ℕ) → width < 2 ^ 31 → Spare width
spare zero few = record {
  word = 18446744073709551615;
  is = below_zero;
  prints = λ P l f is_f s room k.
      let t : more 10 k ≡ 10 * (0 - 1) + 10 + k = omega arith in
      subst (λ (j : ℕ). Calls P f (32 ∷ 18446744073709551615 ∷ []) s j 0 (record s { output = s.output ++ [] }) k) t
      (none_filled P l f 32 is_f 18446744073709551615 0 s k (omega arith) refl room);
}
spare (suc n) few = record {
  word = n;
  is = less_one n few;
  prints = λ P l f is_f s room k.
      let t : more 5 (turn_steps n (more 2 k)) ≡ 10 * n + 10 + k = omega (arith, turns_are n (more 2 k)) in
      let same : n ≡ suc n - 1 = omega arith in
      subst (λ (m : ℕ). Calls P f (32 ∷ n ∷ []) s (10 * m + 10 + k) m
      (record s { output = s.output ++ replicate m 32 }) k) same
      (subst (λ (j : ℕ). Calls P f (32 ∷ n ∷ []) s j n (record s { output = s.output ++ replicate n 32 }) k) t
      (filled P l f 32 is_f n s k (omega arith) room));
}

module _ (P : TypedProgram) (l m : Places) (f g c width : ℕ) (is_f : IsFunction P f (fill_printer l))
    (is_g : IsFunction P g (character_printer m f)) (few : width < 2 ^ 31) where
  -- the state in the function
  abbrev here : State → ℕ → List ℕ → Option ℕ → State
  here s fill out k = inside s (character_printer m f) out (Some c ∷ Some fill ∷ Some width ∷ k ∷ [])

  -- the spaces are written
  spaces : (i : ℕ) (s : State) (fill : ℕ) (out : List ℕ) (n : Option ℕ) → HasRoom s 344 → (k : ℕ)
      → Gives P (spare_spaces m i f) (here s fill out n) (more 5 (10 * (width - 1) + 10 + k)) (width - 1)
      (here s fill (out ++ replicate (width - 1) 32) n) k
  spaces i s fill out n room k =
      let e : Spare width = spare width few in
      let inner : HasRoom (here s fill out n) 168 =
      record { fits = omega (arith, room.fits); told = room.told } in
      r_call (r_argument r_number (r_argument (r_operation (λ rec a b s. refl) (r_scalar refl) r_number e.is)
      (r_called (e.prints P l f is_f _ inner k))))

  -- behind the character
  behind : (s : State) → HasRoom s 344 → (k : ℕ)
      → Calls P g (c ∷ 45 ∷ width ∷ []) s (more 26 (10 * (width - 1) + 10 + k)) (1 + (width - 1))
      (record s { output = s.output ++ ((c % 256) ∷ replicate (width - 1) 32) }) k
  behind s room k =
      calls_to (called_gives {code = code_of_character m f} s is_g refl
      (record { fits = omega (arith, room.fits); told = room.told })
      (r_next (r_initialise refl refl
      (r_one (r_operation (λ rec a b s. refl) (r_scalar refl) r_number is_minus) refl r_number)
      refl refl)
      (r_next (r_plain (r_put (r_scalar refl) refl))
      (r_next (r_plain (r_bump refl (add_int 0 1 (omega arith)) (to_int 1 (omega arith)) refl))
      (r_last (r_give
      (r_one (r_operation (λ rec a b s. refl) (r_scalar refl) r_number is_minus) refl
      (r_operation (λ rec a b s. refl) (r_scalar refl)
      (spaces 46 s 45 (s.output ++ (c % 256) ∷ []) (Some 1) room k)
      (add_int 1 (width - 1) (omega arith))))))))))
      refl
      (ap (λ (out : List ℕ). record s { output = out })
      (append_assoc s.output ((c % 256) ∷ []) (replicate (width - 1) 32)))

  -- in front of it
  front : (s : State) (fill : ℕ) → fill < 2 ^ 31 → fill ≢ 45 → HasRoom s 344 → (k : ℕ)
      → Calls P g (c ∷ fill ∷ width ∷ []) s (more 12 (10 * (width - 1) + 10 + more 12 k)) (width - 1 + 1)
      (record s { output = s.output ++ (replicate (width - 1) 32 ++ (c % 256) ∷ []) }) k
  front s fill small other room k =
      let test : operate Equal Int fill 45 ≡ Some 0 = other_int fill 45 other small (omega arith) in
      calls_to (called_gives {code = code_of_character m f} s is_g refl
      (record { fits = omega (arith, room.fits); told = room.told })
      (r_next (r_initialise refl refl
      (r_other (r_operation (λ rec a b s. refl) (r_scalar refl) r_number test) refl
      (spaces 22 s fill s.output None room (more 12 k)))
      refl refl)
      (r_next (r_plain (r_put (r_scalar refl) refl))
      (r_next (r_plain (r_bump refl (add_int (width - 1) 1 (omega arith)) (to_int (width - 1 + 1) (omega arith)) refl))
      (r_last (r_give
      (r_other (r_operation (λ rec a b s. refl) (r_scalar refl) r_number test) refl (r_scalar refl))))))))
      refl
      (ap (λ (out : List ℕ). record s { output = out })
      (append_assoc s.output (replicate (width - 1) 32) ((c % 256) ∷ [])))

-- how many characters that are
spaces_length : (c n : ℕ) → length (replicate n c) ≡ n
spaces_length c n = length-replicate n c

behind_length : (b n : ℕ) → length (b ∷ replicate n 32) ≡ 1 + n
behind_length b n = omega (arith, spaces_length 32 n)

front_length : (b n : ℕ) → length (replicate n 32 ++ b ∷ []) ≡ n + 1
front_length b n = length-append (replicate n 32) (b ∷ []) ∙ omega (arith, spaces_length 32 n)

-- what a test of two numbers tells
not_same : (a b : ℕ) → nat_eq a b ≡ false → a ≢ b
not_same a b e h = let f : nat_eq a b ≡ true = grind (arith, nat_tests) in absurd (cc)

is_other : (a b : ℕ) → a ≢ b → nat_eq a b ≡ false
is_other a b n = go (nat_eq a b) refl
  where
    go : (x : Bool) → nat_eq a b ≡ x → nat_eq a b ≡ false
    go true e = absurd (n (grind (arith, nat_tests)))
    go false e = e

-- the law
pub pads_characters : PrintsCharacter
pads_characters P l m f g c fill width s is_f is_g small few plain room = go (nat_eq fill 45) refl
  where
    go : (b : Bool) → nat_eq fill 45 ≡ b
        → WritesWithin P g (c ∷ fill ∷ width ∷ []) s (10 * width + 36) (padded (fill_of fill) width [] ((c % 256) ∷ []))
    go true e =
        let is : 45 ≡ fill = grind (arith, nat_tests) in
        subst (λ (n : ℕ). WritesWithin P g (c ∷ n ∷ width ∷ []) s (10 * width + 36)
        (padded (fill_of n) width [] ((c % 256) ∷ []))) is
        (record {
          steps = 10 * (width - 1) + 36;
          few = omega arith;
          writes = λ k.
              let t : 10 * (width - 1) + 36 + k ≡ more 26 (10 * (width - 1) + 10 + k) = omega arith in
              ap (λ (j : ℕ). called (meaning P) P (Func g) (c ∷ 45 ∷ width ∷ []) (at s j)) t
              ∙ (behind P l m f g c width is_f is_g few s room k).is
              ∙ ap (λ (n : ℕ). Go (Value n)
              (at (record s { output = s.output ++ ((c % 256) ∷ replicate (width - 1) 32) }) k))
              (sym (behind_length (c % 256) (width - 1)));
        })
    go false e =
        let other : fill ≢ 45 = not_same fill 45 e in
        let no_zero : nat_eq fill 48 ≡ false = is_other fill 48 plain in
        let is : fill_of fill ≡ left =
        ap (λ (x : Bool). cond x right (cond (nat_eq fill 48) zeros left)) e
        ∙ ap (λ (x : Bool). cond x zeros left) no_zero in
        subst (λ (x : Fill). WritesWithin P g (c ∷ fill ∷ width ∷ []) s (10 * width + 36)
        (padded x width [] ((c % 256) ∷ []))) (sym is)
        (record {
          steps = 10 * (width - 1) + 34;
          few = omega arith;
          writes = λ k.
              let t : 10 * (width - 1) + 34 + k ≡ more 12 (10 * (width - 1) + 10 + more 12 k) = omega arith in
              ap (λ (j : ℕ). called (meaning P) P (Func g) (c ∷ fill ∷ width ∷ []) (at s j)) t
              ∙ (front P l m f g c width is_f is_g few s fill small other room k).is
              ∙ ap (λ (n : ℕ). Go (Value n)
              (at (record s { output = s.output ++ (replicate (width - 1) 32 ++ (c % 256) ∷ []) }) k))
              (sym (front_length (c % 256) (width - 1)));
        })
