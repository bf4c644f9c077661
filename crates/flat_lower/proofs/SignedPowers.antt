-- Signed divisions by a power of two: the bias comes into its variable, and the shift and the mask give C's words.
use Rattle.std.proofs.Common.{◌≡◌, ◌≢◌, ℕ, suc, ◌+◌, ◌-◌, ◌*◌, ◌/◌, ◌%◌, ◌^◌, ◌<◌, ◌≤◌, ◌⊎◌, inl, inr}
use Rattle.std.proofs.Common.{ℤ, pos, Bool, true, false, List, Some, refl, sym, ap, ◌∙◌, subst, arith}
use Rattle.std.specs.Prelude.{nat_eq, nat_le, bit_and, int_div}
use Rattle.std.specs.Int.{int_shr}
use Rattle.std.proofs.lemmas.Bool.Decides.{nat_tests}
use Rattle.std.proofs.lemmas.Nat.{pow-add, pow_pos}
use Rattle.std.proofs.Math.Nat.{pow-le-pow_right}
use native.Mathlib.Nat.{mul_comm}
use lib.Signed.{shr_z}
use Rattle.c_tree.specs.declared.Kind.{Kind}
use Rattle.c_tree.specs.declared.Kind.TheVariants.{Char, UChar, Short, UShort, Int, UInt, Long, ULong}
use Rattle.c_tree.specs.declared.Kind.TheVariants as kind
use Rattle.c_tree.specs.declared.BinaryOp.TheVariants.{Divide, Remainder}
use Rattle.c_constant.specs.Kinds.{is_signed, IsWord}
use Rattle.c_constant.specs.Operation.{operate}
use Rattle.c_constant.proofs.Conversions.{order}
use Rattle.trips_isa.specs.declared.op.Op.TheVariants as op
use Rattle.trips_isa.specs.Alu as alu
use Rattle.ir_forms.specs.declared.flat.Arg.TheVariants.{Const, Var}
use Rattle.ir_forms.specs.inside.FlatCode.{Code, Then, only, Let, Function}
use Rattle.ir_forms.specs.inside.Cells.{apply}
use Rattle.ir_forms.specs.inside.FlatSteps.{State, Env}
use Rattle.flat_lower.specs.inside.Kinds.{IsArithmetic}
use Rattle.flat_lower.specs.inside.Operations.{two_done}
use Rattle.flat_lower.specs.inside.Powers.{are_signs, bias_code}
use Rattle.flat_lower.proofs.Operators.{Gives}
use Rattle.flat_lower.proofs.Quotients.{divide_gives, remainder_gives, signed_quotient}
use Rattle.flat_lower.proofs.SignedShifts.{natural, IsBias, first_bits, spread_bits, shift_rounds, mask_rounds}
use Rattle.flat_lower.proofs.PowerLaws.{ExponentIs, count_is, mask_remains}
use Rattle.flat_lower.proofs.Straight.{Puts, puts_let, puts_both, puts_spare, puts_within, two_puts, var_read}

-- WORDS

-- the sum of a word and its bias
abbrev pub sum_of : ℕ → ℕ → ℕ
sum_of a t = (a + t) % 2 ^ 64

-- what a shift of that sum gives
abbrev pub shifted_sum : ℕ → ℕ → ℕ → ℕ
shifted_sum a t n = alu.word (int_shr (alu.signed (sum_of a t)) (n % 64))

-- what the mask leaves of that sum, less the bias
abbrev pub masked_sum : ℕ → ℕ → ℕ → ℕ
masked_sum a t m = (bit_and (sum_of a t) m + (2 ^ 64 - t)) % 2 ^ 64

module _ (n w : ℕ) (x : ExponentIs n w) (few : n < 63) where
  below : w ≤ 2 ^ 62
  below =
      let some : 0 < 2 = omega arith in
      let near : n ≤ 62 = omega arith in
      let le : 2 ^ n ≤ 2 ^ 62 = pow-le-pow_right some near in
      omega (arith, le, x.is)

  positive : 0 < w
  positive = omega (arith, pow_pos n, x.is)

  next : suc (w - 1) ≡ w
  next = let h = positive in omega arith

  small : w - 1 < 2 ^ 62
  small = let h = below in let k = positive in omega arith

  whole : w * 2 ^ (64 - n) ≡ 2 ^ 64
  whole =
      let s : n + (64 - n) ≡ 64 = omega arith in
      ap (λ (p : ℕ). p * 2 ^ (64 - n)) (sym x.is) ∙ sym (pow-add 2 n (64 - n)) ∙ ap (λ (m : ℕ). 2 ^ m) s

  parts : suc (w - 1) * 2 ^ (64 - n) ≡ 2 ^ 64
  parts = ap (λ (p : ℕ). p * 2 ^ (64 - n)) next ∙ whole

  module _ (a t : ℕ) (l : a < 2 ^ 64) (nz : nat_eq w 0 ≡ false) where
    divided_is : alu.word (int_div (alu.signed a) (pos w)) ≡ alu.quotient a w
    divided_is =
        let h = below in
        ap (λ (z : ℤ). alu.word (int_div (alu.signed a) z)) (sym (natural w (omega arith)))
        ∙ sym (signed_quotient a w 0 nz)

    -- The shift of a sum with the bias is the machine's quotient.
    pub shift_is : IsBias (w - 1) a t → shifted_sum a t n ≡ alu.quotient a w
    shift_is b =
        let s = alu.signed (sum_of a t) in
        ap (λ (c : ℕ). alu.word (int_shr s c)) (count_is a n w x)
        ∙ ap (λ (c : ℕ). alu.word (shr_z s c)) (x.is ∙ sym next)
        ∙ shift_rounds (w - 1) a t small l b
        ∙ ap (λ (c : ℕ). alu.word (int_div (alu.signed a) (pos c))) next
        ∙ divided_is

    -- What the mask leaves of it, less the bias, is what the machine's quotient leaves.
    pub mask_is : IsBias (w - 1) a t
        → masked_sum a t (w - 1) ≡ (a + (2 ^ 64 - (alu.quotient a w * w) % 2 ^ 64)) % 2 ^ 64
    mask_is b =
        let s = sum_of a t in
        ap (λ (r : ℕ). (r + (2 ^ 64 - t)) % 2 ^ 64) (mask_remains s n w x ∙ ap (λ (c : ℕ). s % c) (sym next))
        ∙ mask_rounds (w - 1) (2 ^ (64 - n)) a t (mul_comm (2 ^ (64 - n)) (suc (w - 1)) ∙ parts) small l b
        ∙ ap (λ (c : ℕ). (a + (2 ^ 64 - (alu.word (int_div (alu.signed a) (pos c)) * c) % 2 ^ 64)) % 2 ^ 64) next
        ∙ ap (λ (q : ℕ). (a + (2 ^ 64 - (q * w) % 2 ^ 64)) % 2 ^ 64) divided_is

  module _ (a v t : ℕ) (b : IsBias (w - 1) a t) where
    -- The word of C's quotient is what a shift of the sum gives.
    pub shifted_gives : (k : Kind) → IsArithmetic k → is_signed k ≡ true → IsWord k a → IsWord k w
        → operate Divide k a w ≡ Some v → Gives k (shifted_sum a t n) v
    shifted_gives Char h s fa fw e = absurd h
    shifted_gives UChar h s fa fw e = absurd h
    shifted_gives Short h s fa fw e = absurd h
    shifted_gives UShort h s fa fw e = absurd h
    shifted_gives Int h s fa fw e =
        let d = divide_gives a w v Int h fa fw.below e in
        record { is = shift_is a t fa.below d.some b ∙ d.gives.is; fits = d.gives.fits }
    shifted_gives UInt h s fa fw e = absurd (cc s)
    shifted_gives Long h s fa fw e =
        let d = divide_gives a w v Long h fa fw.below e in
        record { is = shift_is a t fa.below d.some b ∙ d.gives.is; fits = d.gives.fits }
    shifted_gives ULong h s fa fw e = absurd (cc s)
    shifted_gives kind.Bool h s fa fw e = absurd h

    -- The word of C's remainder is what the mask leaves of it, less the bias.
    pub masked_gives : (k : Kind) → IsArithmetic k → is_signed k ≡ true → IsWord k a → IsWord k w
        → operate Remainder k a w ≡ Some v → Gives k (masked_sum a t (w - 1)) v
    masked_gives Char h s fa fw e = absurd h
    masked_gives UChar h s fa fw e = absurd h
    masked_gives Short h s fa fw e = absurd h
    masked_gives UShort h s fa fw e = absurd h
    masked_gives Int h s fa fw e =
        let d = remainder_gives a w v Int h fa fw e in
        record { is = mask_is a t fa.below d.some b ∙ d.gives.is; fits = d.gives.fits }
    masked_gives UInt h s fa fw e = absurd (cc s)
    masked_gives Long h s fa fw e =
        let d = remainder_gives a w v Long h fa fw e in
        record { is = mask_is a t fa.below d.some b ∙ d.gives.is; fits = d.gives.fits }
    masked_gives ULong h s fa fw e = absurd (cc s)
    masked_gives kind.Bool h s fa fw e = absurd h

-- THE BIAS

at_most : (n m : ℕ) → nat_le n m ≡ true → n ≤ m
at_most n m h = grind (arith, nat_tests)

-- where the first n bits of a word are its sign, it lies that near to 0, or that near to 2^64
abbrev pub IsNear : ℕ → ℕ → Type 0
IsNear n a = ((a < 2 ^ 63) × (a < 2 ^ (64 - n))) ⊎ ((2 ^ 63 ≤ a) × (2 ^ 64 ≤ a + 2 ^ (64 - n)))

int_near : (n a : ℕ) → n ≤ 33 → IsWord Int a → (a < 2 ^ 63) ⊎ (2 ^ 63 ≤ a) → IsNear n a
int_near n a h f s = go s
  where
    wide : 2 ^ 31 ≤ 2 ^ (64 - n)
    wide =
        let some : 0 < 2 = omega arith in
        let near : 31 ≤ 64 - n = omega arith in
        pow-le-pow_right some near

    go : (a < 2 ^ 63) ⊎ (2 ^ 63 ≤ a) → IsNear n a
    go (inl l) =
        let m : (a + 2147483648) % 2 ^ 64 < 4294967296 = f.narrow in
        let d : a < 2147483648 = omega arith in
        inl (l, omega (arith, wide))
    go (inr l) =
        let p = f.below in
        let m : (a + 2147483648) % 2 ^ 64 < 4294967296 = f.narrow in
        let d : 2 ^ 64 ≤ a + 2147483648 = omega arith in
        inr (l, omega (arith, wide))

long_near : (n a : ℕ) → n ≤ 1 → (a < 2 ^ 63) ⊎ (2 ^ 63 ≤ a) → IsNear n a
long_near n a h s = go s
  where
    wide : 2 ^ 63 ≤ 2 ^ (64 - n)
    wide =
        let some : 0 < 2 = omega arith in
        let near : 63 ≤ 64 - n = omega arith in
        pow-le-pow_right some near

    go : (a < 2 ^ 63) ⊎ (2 ^ 63 ≤ a) → IsNear n a
    go (inl l) = inl (l, omega (arith, wide))
    go (inr l) = inr (l, omega (arith, wide))

-- Where the first bits of a type's words are their sign, each of its words lies near.
pub word_near : (k : Kind) (n a : ℕ) → IsArithmetic k → is_signed k ≡ true → are_signs k n ≡ true → IsWord k a
    → IsNear n a
word_near Char n a h s e f = absurd h
word_near UChar n a h s e f = absurd h
word_near Short n a h s e f = absurd h
word_near UShort n a h s e f = absurd h
word_near Int n a h s e f = int_near n a (at_most n 33 e) f (order a (2 ^ 63))
word_near UInt n a h s e f = absurd (cc s)
word_near Long n a h s e f = long_near n a (at_most n 1 e) (order a (2 ^ 63))
word_near ULong n a h s e f = absurd (cc s)
word_near kind.Bool n a h s e f = absurd h

module _ (n w : ℕ) (x : ExponentIs n w) (some : 0 < n) (few : n < 63) (a : ℕ) (l : a < 2 ^ 64) where
  back : 64 - n ≡ (64 - n) % 64
  back = omega arith

  near_bias : IsNear n a → IsBias (w - 1) a (a / 2 ^ ((64 - n) % 64))
  near_bias h = subst (λ (c : ℕ). IsBias (w - 1) a (a / 2 ^ c)) back
      (first_bits (w - 1) (2 ^ (64 - n)) a (parts n w x few) l h)

  spread_bias : IsBias (w - 1) a (alu.word (int_shr (alu.signed a) 63) / 2 ^ ((64 - n) % 64))
  spread_bias = subst (λ (c : ℕ). IsBias (w - 1) a (alu.word (int_shr (alu.signed a) 63) / 2 ^ c)) back
      (spread_bits (w - 1) (2 ^ (64 - n)) a (parts n w x few) (pow_pos (64 - n)) l)

-- CODE

module _ (fs : List Function) (base : ℕ) (e : Env) where
  -- code that puts the bias of a into scratch variable 0, where m is the mask
  pub record HasBias (code : Code) (f : State) (m a : ℕ) : Type 0 where
    pub bias : ℕ
    pub is : IsBias m a bias
    pub puts : Puts fs base e code f 2 80 80 bias

  -- The code of a bias puts it, by the first bits of a word or of its sign.
  pub bias_by : (short : Bool) (n w : ℕ) (f : State) (y a : ℕ) → ExponentIs n w → 0 < n → n < 63 → a < 2 ^ 64
      → f.vars y ≡ Some a → (short ≡ true → IsNear n a) → HasBias (bias_code short n y) f (w - 1) a
  unfolding apply
  bias_by true n w f y a x some few l hy near = record {
    bias = a / 2 ^ ((64 - n) % 64);
    is = near_bias n w x some few a l (near refl);
    puts = puts_let fs base e op.Srl (Var y) (Const (64 - n)) f 2 80 80 a (64 - n) (a / 2 ^ ((64 - n) % 64))
        (omega arith) (var_read fs base e f y a hy) refl refl;
  }
  bias_by false n w f y a x some few l hy near =
      let s = alu.word (int_shr (alu.signed a) 63) in
      let t = s / 2 ^ ((64 - n) % 64) in
      let p1 = puts_let fs base e op.Sra (Var y) (Const 63) f 1 80 80 a 63 s (omega arith)
      (var_read fs base e f y a hy) refl refl in
      let p2 = puts_let fs base e op.Srl (Var 80) (Const (64 - n)) p1.to 1 80 80 s (64 - n) t (omega arith)
      (var_read fs base e p1.to 80 s p1.sets.value) refl refl in
      record {
        bias = t;
        is = spread_bias n w x some few a l;
        puts = puts_both fs base e (only (Let 80 op.Sra (Var y) (Const 63)))
            (only (Let 80 op.Srl (Var 80) (Const (64 - n)))) f 1 1 80 80 s t p1 p2;
      }

  -- a variable that is put with no spare one is put with any
  abbrev beside : (c : Code) (f : State) (m y spare w : ℕ) → Puts fs base e c f m y y w
      → Puts fs base e c f m y spare w
  beside c f m y spare w p = record {
    t = p.t;
    to = p.to;
    few = p.few;
    sets = record {
      value = p.sets.value;
      others = λ v h k. p.sets.others v h h;
      memory = p.sets.memory;
      input = p.sets.input;
      output = p.sets.output;
      rounds = p.sets.rounds;
    };
    leads = p.leads;
  }

  sum_puts : (f : State) (y a t : ℕ) → f.vars y ≡ Some a → f.vars 80 ≡ Some t
      → Puts fs base e (two_done y op.Add y 80) f 1 y y (sum_of a t)
  unfolding apply
  sum_puts f y a t hy ht = two_puts fs base e op.Add f 1 y 80 y a t (omega arith) hy ht refl

  -- A shift of the sum, behind code that puts the bias.
  pub shifted_puts : (c : Code) (f : State) (y a n m : ℕ) → y ≢ 80 → f.vars y ≡ Some a → (b : HasBias c f m a)
      → Puts fs base e (Then c (Then (two_done y op.Add y 80) (only (Let y op.Sra (Var y) (Const n))))) f 5 y 80
      (shifted_sum a b.bias n)
  unfolding apply
  shifted_puts c f y a n m ny hy b =
      let t = b.bias in
      let s = sum_of a t in
      let v = shifted_sum a t n in
      let add = two_done y op.Add y 80 in
      let last = only (Let y op.Sra (Var y) (Const n)) in
      let p1 = sum_puts b.puts.to y a t (b.puts.sets.others y ny ny ∙ hy) b.puts.sets.value in
      let p2 = puts_let fs base e op.Sra (Var y) (Const n) p1.to 1 y 80 s n v (omega arith)
      (var_read fs base e p1.to y s p1.sets.value) refl refl in
      puts_within fs base e (Then c (Then add last)) f 4 5 y 80 v (omega arith)
      (puts_spare fs base e c (Then add last) f 2 2 y 80 t v b.puts
      (puts_both fs base e add last b.puts.to 1 1 y 80 s v (beside add b.puts.to 1 y 80 s p1) p2))

  -- The mask of the sum, less the bias.
  pub masked_puts : (c : Code) (f : State) (y a m : ℕ) → y ≢ 80 → f.vars y ≡ Some a → (b : HasBias c f m a)
      → Puts fs base e (Then c (Then (two_done y op.Add y 80)
      (Then (only (Let y op.And (Var y) (Const m))) (two_done y op.Sub y 80)))) f 5 y 80 (masked_sum a b.bias m)
  unfolding apply
  masked_puts c f y a m ny hy b =
      let t = b.bias in
      let s = sum_of a t in
      let r = bit_and s m in
      let v = masked_sum a t m in
      let add = two_done y op.Add y 80 in
      let mask = only (Let y op.And (Var y) (Const m)) in
      let last = two_done y op.Sub y 80 in
      let yn : 80 ≢ y = λ h. ny (sym h) in
      let p1 = sum_puts b.puts.to y a t (b.puts.sets.others y ny ny ∙ hy) b.puts.sets.value in
      let t1 = p1.sets.others 80 yn yn ∙ b.puts.sets.value in
      let p2 = puts_let fs base e op.And (Var y) (Const m) p1.to 1 y y s m r (omega arith)
      (var_read fs base e p1.to y s p1.sets.value) refl refl in
      let p3 = two_puts fs base e op.Sub p2.to 1 y 80 80 r t (omega arith) p2.sets.value
      (p2.sets.others 80 yn yn ∙ t1) refl in
      puts_spare fs base e c (Then add (Then mask last)) f 2 3 y 80 t v b.puts
      (puts_both fs base e add (Then mask last) b.puts.to 1 2 y 80 s v (beside add b.puts.to 1 y 80 s p1)
      (puts_both fs base e mask last p1.to 1 1 y 80 r v (beside mask p1.to 1 y 80 r p2) p3))
