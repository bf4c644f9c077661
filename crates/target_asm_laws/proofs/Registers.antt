-- A line that is read as that of a read, a write or a block is its text.
use Rattle.std.proofs.Common.{◌≡◌, ℕ, ◌-◌, ◌<◌, List, ◌∷◌, ◌++◌}
use Rattle.std.proofs.Common.{length, take, refl, sym, ap, subst, ◌∙◌, arith, Option, Some, None}
use Rattle.std.proofs.Common.{Bool, true, false, eq-eqb}
use Rattle.std.specs.Prelude.{ℤ, codes, ◌==◌, ◌&&◌, if◌then◌else◌}
use Rattle.std.specs.Fmt.{signed_decimal}
use Rattle.std.proofs.lemmas.List.{take_at, length-append}
use Rattle.trips_isa.specs.declared.block.Spot.{Spot}
use Rattle.trips_isa.specs.declared.block.Spot.TheVariants as spot
use Rattle.trips_isa.specs.Fits.{FitsTarget, FitsOperand, FitsSecond}
use Rattle.target_asm_spec.specs.Numbers.{hex_word}
use Rattle.target_asm_spec.specs.declared.spelled.SpelledTarget.{SpelledTarget}
use Rattle.target_asm_spec.specs.declared.spelled.SpelledRead.{SpelledRead}
use Rattle.target_asm_spec.specs.declared.spelled.SpelledWrite.{SpelledWrite}
use Rattle.target_asm_spec.specs.declared.spelled.SpelledBlock.{SpelledBlock}
use Rattle.target_asm_spec.specs.inside.Reading.{after_in, number_in, index_in, word_in}
use Rattle.target_asm_spec.specs.inside.Places.{target_in, next_in}
use Rattle.target_asm_spec.specs.inside.Registers.{same_text, operands_fit, second_fits, only_if, operands_in}
use Rattle.target_asm_spec.specs.inside.Registers.{read_in, write_line_in, block_line_in}
use Rattle.target_asm_spec.proofs.Numbers.{IsSmall, after_front}
use Rattle.target_asm_spec.proofs.Targets.{spelled_spot, spelled_target}
use Rattle.target_asm_laws.proofs.Binds.{If, bind, gives}
use Rattle.target_asm_laws.proofs.Digits.{IsAfter, after_is, IsNumber, number_is, IsIndex, index_is}
use Rattle.target_asm_laws.proofs.HexDigits.{IsWord, word_is}
use Rattle.target_asm_laws.proofs.Targets.{target_decimals, SmallTarget, IsTarget, target_is}
use Rattle.target_asm_laws.proofs.Targets.{maybe_decimals, SmallMaybe, IsNext, next_is, spot_small}
use Rattle.target_asm_laws.proofs.Targets.{maybe_small}

-- ---- two operands that are spelled alike

-- a text before a space and itself is spelled as what follows
pub alike_is : (w rest : List ℕ) → same_text (w ++ 32 ∷ (w ++ rest)) (32 ∷ (w ++ rest)) ≡ true
unfolding same_text
alike_is w rest =
    let t : List ℕ = 32 ∷ (w ++ rest) in
    let n : length w ≡ length (w ++ t) - length t = omega (arith, length-append w t) in
    let front : take (length (w ++ t) - length t) (w ++ t) ≡ w =
    take_at w t (length (w ++ t) - length t) n in
    let space : after_in (codes " ") t ≡ Some (w ++ rest) = after_front (codes " ") (w ++ rest) in
    let again : after_in w (w ++ rest) ≡ Some rest = after_front w rest in
    rw (space, front, again) refl

not_same : (b alike : Bool) → (if b && alike then false else true) ≡ true → b ≡ true
    → alike ≡ true → ⊥
not_same true true e p q = absurd cc
not_same true false e p q = absurd cc
not_same false alike e p q = absurd cc

-- operands that are told apart are two
operands_are : (alike : Bool) (first : Spot) (second : Option Spot) → FitsTarget (Some first)
    → FitsTarget second → (second ≡ Some first → alike ≡ true)
    → operands_fit alike (spelled_spot first) (spelled_target second) ≡ true
    → FitsOperand first × FitsSecond first second
unfolding operands_fit second_fits
operands_are alike (spot.Left n) None f g h e = (f, tt)
operands_are alike (spot.Right n) None f g h e = (f, tt)
operands_are alike (spot.Left n) (Some (spot.Left m)) f g h e = (
  f,
  (
    g,
    λ q. let same : n ≡ m = cc in
        not_same (n == m) alike e (eq-eqb n m same) (h (ap (λ (s : Spot). Some s) q)),
  ),
)
operands_are alike (spot.Right n) (Some (spot.Right m)) f g h e = (
  f,
  (
    g,
    λ q. let same : n ≡ m = cc in
        not_same (n == m) alike e (eq-eqb n m same) (h (ap (λ (s : Spot). Some s) q)),
  ),
)
operands_are alike (spot.Left n) (Some (spot.Right m)) f g h e = (f, (g, λ q. absurd cc))
operands_are alike (spot.Right n) (Some (spot.Left m)) f g h e = (f, (g, λ q. absurd cc))
operands_are alike (spot.Left n) (Some (spot.Pred m)) f g h e = absurd cc
operands_are alike (spot.Left n) (Some (spot.Write m)) f g h e = absurd cc
operands_are alike (spot.Right n) (Some (spot.Pred m)) f g h e = absurd cc
operands_are alike (spot.Right n) (Some (spot.Write m)) f g h e = absurd cc
operands_are alike (spot.Left n) (Some (spot.Read m)) f g h e = absurd g
operands_are alike (spot.Left n) (Some (spot.Inst m)) f g h e = absurd g
operands_are alike (spot.Left n) (Some (spot.Store m)) f g h e = absurd g
operands_are alike (spot.Right n) (Some (spot.Read m)) f g h e = absurd g
operands_are alike (spot.Right n) (Some (spot.Inst m)) f g h e = absurd g
operands_are alike (spot.Right n) (Some (spot.Store m)) f g h e = absurd g
operands_are alike (spot.Pred n) second f g h e = absurd cc
operands_are alike (spot.Write n) second f g h e = absurd cc
operands_are alike (spot.Read n) second f g h e = absurd f
operands_are alike (spot.Inst n) second f g h e = absurd f
operands_are alike (spot.Store n) second f g h e = absurd f

-- ---- the operands of a read

abbrev pub operand_words : SpelledRead → List ℕ → List ℕ
operand_words s rest = 32 ∷ (target_decimals s.first ++ (maybe_decimals s.second ++ 10 ∷ rest))

-- targets in their fields are one operand, or two different ones
abbrev pub AreReadOperands : SpelledTarget → Option SpelledTarget → Type 0
AreReadOperands t u = (first : Spot) (second : Option Spot) → t ≡ spelled_spot first
    → u ≡ spelled_target second → FitsTarget (Some first) → FitsTarget second
    → FitsOperand first × FitsSecond first second

told_apart : (a t1 u1 : List ℕ) (t : SpelledTarget) (u : Option SpelledTarget)
    → (SmallTarget t → a ≡ target_decimals t ++ t1) → (SmallMaybe u → t1 ≡ maybe_decimals u ++ u1)
    → operands_fit (same_text a t1) t u ≡ true → AreReadOperands t u
told_apart a t1 u1 t u b c e first second p q f g =
    operands_are (same_text a t1) first second f g (λ same.
    let w : List ℕ = target_decimals (spelled_spot first) in
    let x : a ≡ w ++ t1 = b (subst SmallTarget (sym p) (spot_small first f))
    ∙ ap (λ (z : SpelledTarget). target_decimals z ++ t1) p in
    let y : t1 ≡ 32 ∷ (w ++ u1) = c (subst SmallMaybe (sym q) (maybe_small second g))
    ∙ ap (λ (z : Option SpelledTarget). maybe_decimals z ++ u1) q
    ∙ ap (λ (z : Option Spot). maybe_decimals (spelled_target z) ++ u1) same in
    ap (λ (z : List ℕ). same_text z t1) x ∙ ap (λ (z : List ℕ). same_text (w ++ z) z) y
    ∙ alike_is w u1)
    (ap (λ (z : SpelledTarget). operands_fit (same_text a t1) z (spelled_target second)) (sym p)
    ∙ ap (λ (z : Option SpelledTarget). operands_fit (same_text a t1) t z) (sym q) ∙ e)

pub record AreRead (number register : ℤ) (text : List ℕ) (r : SpelledRead × List ℕ) : Type 0 where
  pub number_is : r.0.number ≡ number
  pub register_is : r.0.register ≡ register
  pub spells : SmallTarget r.0.first → SmallMaybe r.0.second → text ≡ operand_words r.0 r.1
  pub fits : AreReadOperands r.0.first r.0.second

-- what is given only if a test is true holds where it holds then
pub only : {A : Type 0} (P : A → Type 0) (b : Bool) (x : A) → (b ≡ true → P x) → If P (only_if b x)
only P true x p = p refl
only P false x p = tt

operands_is : (number register : ℤ) (text : List ℕ)
    → If (AreRead number register text) (operands_in number register text)
unfolding operands_in
operands_is number register text =
    bind (IsAfter (codes " ") text) (AreRead number register text) (after_in (codes " ") text) _
    (after_is (codes " ") text) (λ a h.
    bind (IsTarget a) (AreRead number register text) (target_in a) _ (target_is a) (λ t b.
    bind (IsNext t.1) (AreRead number register text) (next_in t.1) _ (next_is t.1) (λ u c.
    bind (IsAfter (codes "\n") u.1) (AreRead number register text) (after_in (codes "\n") u.1) _
    (after_is (codes "\n") u.1) (λ rest d.
    only (AreRead number register text) (operands_fit (same_text a t.1) t.0 u.0) _ (λ e. record {
      number_is = refl;
      register_is = refl;
      spells = λ l m. h ∙ ap (λ (z : List ℕ). 32 ∷ z) (b l
          ∙ ap (λ (z : List ℕ). target_decimals t.0 ++ z) (c.spells m
          ∙ ap (λ (z : List ℕ). maybe_decimals u.0 ++ z) d));
      fits = told_apart a t.1 u.1 t.0 u.0 b c.spells e;
    })))))

abbrev pub read_decimals : SpelledRead → List ℕ → List ℕ
read_decimals s rest = codes "R[" ++ (signed_decimal s.number ++ 93 ∷
    (codes " read G[" ++ (signed_decimal s.register ++ 93 ∷ operand_words s rest)))

-- the line of a read: its text, if its numbers are small, and targets that are operands
pub record IsReadLine (text : List ℕ) (r : SpelledRead × List ℕ) : Type 0 where
  pub spells : IsSmall r.0.number → IsSmall r.0.register → SmallTarget r.0.first
      → SmallMaybe r.0.second → text ≡ read_decimals r.0 r.1
  pub fits : AreReadOperands r.0.first r.0.second

read_line_by : (text t u : List ℕ) (n g : ℤ) (s : SpelledRead) (rest : List ℕ)
    → (IsSmall n → text ≡ codes "R[" ++ (signed_decimal n ++ 93 ∷ t))
    → (IsSmall g → t ≡ codes " read G[" ++ (signed_decimal g ++ 93 ∷ u))
    → AreRead n g u (s, rest) → IsReadLine text (s, rest)
read_line_by text t u n g s rest a b c = record {
  spells = λ k l x y.
      a (subst IsSmall c.number_is k)
      ∙ ap (λ (z : ℤ). codes "R[" ++ (signed_decimal z ++ 93 ∷ t)) (sym c.number_is)
      ∙ ap (λ (z : List ℕ). codes "R[" ++ (signed_decimal s.number ++ 93 ∷ z))
      (b (subst IsSmall c.register_is l)
      ∙ ap (λ (z : ℤ). codes " read G[" ++ (signed_decimal z ++ 93 ∷ u)) (sym c.register_is)
      ∙ ap (λ (z : List ℕ). codes " read G[" ++ (signed_decimal s.register ++ 93 ∷ z))
      (c.spells x y));
  fits = c.fits;
}

-- what is read as the line of a read is its text
pub read_line_is : (text : List ℕ) → If (IsReadLine text) (read_in text)
unfolding read_in
read_line_is text =
    bind (IsIndex (codes "R[") text) (IsReadLine text) (index_in (codes "R[") text) _
    (index_is (codes "R[") text) (λ n a.
    bind (IsIndex (codes " read G[") n.1) (IsReadLine text) (index_in (codes " read G[") n.1) _
    (index_is (codes " read G[") n.1) (λ g b.
    gives (AreRead n.0 g.0 g.1) (IsReadLine text) (operands_in n.0 g.0 g.1)
    (operands_is n.0 g.0 g.1) (λ r c. read_line_by text n.1 g.1 n.0 g.0 r.0 r.1 a b c)))

-- ---- writes and blocks

-- the line of a write: its text, if its numbers are small
abbrev pub IsWriteLine : List ℕ → SpelledWrite × List ℕ → Type 0
IsWriteLine text r = IsSmall r.0.number → IsSmall r.0.register
    → text ≡ codes "W[" ++ (signed_decimal r.0.number ++ 93 ∷
    (codes " write G[" ++ (signed_decimal r.0.register ++ 93 ∷ 10 ∷ r.1)))

-- what is read as the line of a write is its text
pub write_line_is : (text : List ℕ) → If (IsWriteLine text) (write_line_in text)
unfolding write_line_in
write_line_is text =
    bind (IsIndex (codes "W[") text) (IsWriteLine text) (index_in (codes "W[") text) _
    (index_is (codes "W[") text) (λ n a.
    bind (IsIndex (codes " write G[") n.1) (IsWriteLine text) (index_in (codes " write G[") n.1) _
    (index_is (codes " write G[") n.1) (λ g b.
    bind (IsAfter (codes "\n") g.1) (IsWriteLine text) (after_in (codes "\n") g.1) _
    (after_is (codes "\n") g.1) (λ rest c k l.
    a k ∙ ap (λ (z : List ℕ). codes "W[" ++ (signed_decimal n.0 ++ 93 ∷ z)) (b l
    ∙ ap (λ (z : List ℕ). codes " write G[" ++ (signed_decimal g.0 ++ 93 ∷ z)) c))))

-- the line of a block: its mask of 32 bits, and its text, if its number is small
pub record IsBlockLine (text : List ℕ) (r : SpelledBlock × List ℕ) : Type 0 where
  pub mask : r.0.mask < 4294967296
  pub spells : IsSmall r.0.number → text ≡ codes "block " ++ (signed_decimal r.0.number ++
      (codes " mask " ++ (hex_word r.0.mask ++ 10 ∷ r.1)))

-- what is read as the line of a block is its text
pub block_line_is : (text : List ℕ) → If (IsBlockLine text) (block_line_in text)
unfolding block_line_in
block_line_is text =
    bind (IsAfter (codes "block ") text) (IsBlockLine text) (after_in (codes "block ") text) _
    (after_is (codes "block ") text) (λ t a.
    bind (IsNumber t) (IsBlockLine text) (number_in t) _ (number_is t) (λ n b.
    bind (IsAfter (codes " mask ") n.1) (IsBlockLine text) (after_in (codes " mask ") n.1) _
    (after_is (codes " mask ") n.1) (λ u c.
    bind (IsWord u) (IsBlockLine text) (word_in u) _ (word_is u) (λ m d.
    bind (IsAfter (codes "\n") m.1) (IsBlockLine text) (after_in (codes "\n") m.1) _
    (after_is (codes "\n") m.1) (λ rest e. record {
      mask = d.below;
      spells = λ l. a ∙ ap (λ (z : List ℕ). codes "block " ++ z) (b l
          ∙ ap (λ (z : List ℕ). signed_decimal n.0 ++ z) (c
          ∙ ap (λ (z : List ℕ). codes " mask " ++ z) (d.is
          ∙ ap (λ (z : List ℕ). hex_word m.0 ++ z) e)));
    })))))
