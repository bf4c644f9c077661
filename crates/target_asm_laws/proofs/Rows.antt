-- The lines of reads and of writes that are read are their text.
use Rattle.std.proofs.Common.{◌≡◌, ℕ, zero, suc, ◌+◌, ◌<◌, ◌≤◌, List, [], ◌∷◌, ◌++◌, length, refl}
use Rattle.std.proofs.Common.{sym, ap, subst, ◌∙◌, arith, append_assoc, true}
use Rattle.std.specs.Prelude.{ℤ, pos, negsuc, nat_lt, codes, Result, Ok}
use Rattle.std.specs.Fmt.{decimal, signed_decimal}
use Rattle.std.proofs.lemmas.Bool.{ltb-true, eqb-true}
use Rattle.trips_isa.specs.declared.block.ReadSlot.{ReadSlot}
use Rattle.trips_isa.specs.Fits.{FitsRead}
use Rattle.isa_table.specs.Spots.{indexed, spot_text}
use Rattle.target_asm_spec.specs.Numbers.{numbered}
use Rattle.target_asm_spec.specs.Fields.{target_text}
use Rattle.target_asm_spec.specs.Text.{read_line, write_line}
use Rattle.target_asm_spec.specs.declared.fault.AsmFault.{AsmFault}
use Rattle.target_asm_spec.specs.declared.fault.AsmFault.TheVariants.{Syntax, Range}
use Rattle.target_asm_spec.specs.declared.spelled.SpelledRead.{SpelledRead}
use Rattle.target_asm_spec.specs.declared.spelled.SpelledWrite.{SpelledWrite}
use Rattle.target_asm_spec.specs.Reading.{field_in}
use Rattle.target_asm_spec.specs.Places.{spot_of, maybe_spot}
use Rattle.target_asm_spec.specs.Registers.{read_of}
use Rattle.target_asm_spec.specs.inside.Registers.{read_in, write_line_in}
use Rattle.target_asm_spec.specs.inside.Blocks.{◌>>>◌, or_fault, wants, begins, is_place, lines_in, one_read}
use Rattle.target_asm_spec.specs.inside.Blocks.{reads_in, one_write, writes_in}
use Rattle.target_asm_spec.proofs.Numbers.{IsSmall}
use Rattle.target_asm_spec.proofs.Each.{Each}
use Rattle.target_asm_laws.proofs.Binds.{If, Holds, bind, chain, or_holds, wanted, fork}
use Rattle.target_asm_laws.proofs.Digits.{InField, field_is}
use Rattle.target_asm_laws.proofs.Targets.{target_decimals, maybe_decimals, SmallTarget, SmallMaybe, IsSpot}
use Rattle.target_asm_laws.proofs.Targets.{spot_is, IsMaybe, maybe_is, spot_words, spot_small}
use Rattle.target_asm_laws.proofs.Targets.{maybe_small, maybe_text}
use Rattle.target_asm_laws.proofs.Registers.{IsReadLine, read_line_is, IsWriteLine}
use Rattle.target_asm_laws.proofs.Registers.{write_line_is}

-- ---- one line after the other

-- an item of a line, its text and what is left
pub record IsRow {A : Type 0} (f : ℕ → A → List ℕ) (P : A → Type 0) (i : ℕ) (text : List ℕ)
    (r : A × List ℕ) : Type 0 where
  pub below : i < 32
  pub fits : P r.0
  pub is : text ≡ f i r.0 ++ r.1

-- some rows that were read: at most 32, each as it must be, and their text
pub record AreRows {A : Type 0} (f : ℕ → A → List ℕ) (P : A → Type 0) (i : ℕ) (text : List ℕ)
    (r : List A × ℕ × List ℕ) : Type 0 where
  pub few : i + length r.0 ≤ 32
  pub each : Each P r.0
  pub is : text ≡ numbered f i r.0 ++ r.2

rows_more : {A : Type 0} (f : ℕ → A → List ℕ) (P : A → Type 0) (i : ℕ) (text : List ℕ)
    (x : A) (t : List ℕ) (xs : List A) (line : ℕ) (rest : List ℕ) → IsRow f P i text (x, t)
    → AreRows f P (i + 1) t (xs, line, rest) → AreRows f P i text (x ∷ xs, line, rest)
rows_more f P i text x t xs line rest a b =
    let n : i + 1 ≡ suc i = omega arith in
    record {
      few = omega (arith, b.few);
      each = (a.fits, b.each);
      is = a.is ∙ ap (λ (u : List ℕ). f i x ++ u) (b.is
          ∙ ap (λ (k : ℕ). numbered f k xs ++ rest) n)
          ∙ sym (append_assoc (f i x) (numbered f (suc i) xs) rest);
    }

pub rows_are : {A : Type 0} (front : List ℕ)
    (one : ℕ → ℕ → List ℕ → Result (A × List ℕ) AsmFault)
    (f : ℕ → A → List ℕ) (P : A → Type 0)
    → ((i line : ℕ) (text : List ℕ) → Holds (IsRow f P i text) (one i line text))
    → (turns i line : ℕ) (text : List ℕ) → i ≤ 32
    → Holds (AreRows f P i text) (lines_in front one turns i line text)
unfolding lines_in
rows_are front one f P h zero i line text l = tt
rows_are front one f P h (suc n) i line text l =
    fork (AreRows f P i text) (begins front text)
    (one i line text >>> λ r. lines_in front one n (i + 1) (line + 1) r.1
    >>> λ rs. Ok (r.0 ∷ rs.0, rs.1, rs.2)) (Ok ([], line, text)) (λ e.
    chain (IsRow f P i text) (AreRows f P i text) (one i line text) _ (h i line text) (λ r a.
    chain (AreRows f P (i + 1) r.1) (AreRows f P i text)
    (lines_in front one n (i + 1) (line + 1) r.1) _
    (rows_are front one f P h n (i + 1) (line + 1) r.1 (omega (arith, a.below))) (λ rs b.
    rows_more f P i text r.0 r.1 rs.0 rs.1 rs.2 a b)))
    (λ e. record { few = omega (arith, l); each = tt; is = refl })

-- the test of a place tells which number it is
pub place_is : (z : ℤ) (k : ℕ) → is_place z k ≡ true → z ≡ pos k
place_is (pos n) k e = ap pos (eqb-true n k e)
place_is (negsuc n) k e = absurd cc

-- a number that is a small count is small
pub place_small : (z : ℤ) (k : ℕ) → z ≡ pos k → k < 999999999 → IsSmall z
place_small z k e l = subst IsSmall (sym e) l

-- ---- reads

pub record IsReadOf (s : SpelledRead) (r : ReadSlot) : Type 0 where
  pub register : InField s.register 128 r.register
  pub first : IsSpot s.first r.first
  pub second : IsMaybe s.second r.second

read_of_is : (s : SpelledRead) → If (IsReadOf s) (read_of s)
unfolding read_of
read_of_is s =
    bind (InField s.register 128) (IsReadOf s) (field_in s.register 128) _
    (field_is s.register 128) (λ g a.
    bind (IsSpot s.first) (IsReadOf s) (spot_of s.first) _ (spot_is s.first) (λ t b.
    bind (IsMaybe s.second) (IsReadOf s) (maybe_spot s.second) _ (maybe_is s.second) (λ u c.
    record { register = a; first = b; second = c })))

read_words_are : (i : ℕ) (r : ReadSlot) (rest : List ℕ) → read_line i r ++ rest
    ≡ codes "R[" ++ (decimal i ++ 93 ∷ (codes " read G[" ++ (decimal r.register ++ 93 ∷
    32 ∷ (spot_text r.first ++ (target_text r.second ++ 10 ∷ rest)))))
unfolding read_line indexed
read_words_are i r rest = simp append_assoc refl

read_text : (i : ℕ) (text rest : List ℕ) (s : SpelledRead) (r : ReadSlot) → i < 32
    → s.number ≡ pos i → IsReadLine text (s, rest) → IsReadOf s r
    → text ≡ read_line i r ++ rest
read_text i text rest s r l n a b =
    let first : SmallTarget s.first =
    subst SmallTarget (sym b.first.is) (spot_small r.first b.first.fits) in
    let second : SmallMaybe s.second =
    subst SmallMaybe (sym b.second.is) (maybe_small r.second b.second.fits) in
    let register : IsSmall s.register =
    subst IsSmall (sym b.register.is) (omega (arith, b.register.below)) in
    let first_words : target_decimals s.first ≡ spot_text r.first =
    ap target_decimals b.first.is ∙ spot_words r.first b.first.fits in
    let second_words : maybe_decimals s.second ≡ target_text r.second =
    ap maybe_decimals b.second.is ∙ maybe_text r.second b.second.fits in
    let front : ℤ → ℤ → List ℕ → List ℕ = λ x y t.
    codes "R[" ++ (signed_decimal x ++ 93 ∷ (codes " read G[" ++ (signed_decimal y ++ 93 ∷ 32 ∷ t)))
    in
    a.spells (place_small s.number i n (omega (arith, l))) register first second
    ∙ ap (λ (t : List ℕ). front s.number s.register (t ++ (maybe_decimals s.second ++ 10 ∷ rest)))
    first_words
    ∙ ap (λ (t : List ℕ). front s.number s.register (spot_text r.first ++ (t ++ 10 ∷ rest)))
    second_words
    ∙ ap (λ (x : ℤ). front x s.register (spot_text r.first ++ (target_text r.second ++ 10 ∷ rest)))
    n
    ∙ ap (λ (x : ℤ). front (pos i) x (spot_text r.first ++ (target_text r.second ++ 10 ∷ rest)))
    b.register.is
    ∙ sym (read_words_are i r rest)

read_fits : (text rest : List ℕ) (s : SpelledRead) (r : ReadSlot) → IsReadLine text (s, rest)
    → IsReadOf s r → FitsRead r
read_fits text rest s r a b =
    let o = a.fits r.first r.second b.first.is b.second.is b.first.fits b.second.fits in
    record { register = b.register.below; first = o.0; second = o.1 }

one_read_is : (i line : ℕ) (text : List ℕ)
    → Holds (IsRow read_line FitsRead i text) (one_read i line text)
unfolding one_read
one_read_is i line text =
    let Q = IsRow read_line FitsRead i text in
    chain (IsReadLine text) Q (or_fault (Syntax line) (read_in text)) _
    (or_holds (IsReadLine text) (Syntax line) (read_in text) (read_line_is text)) (λ s a.
    chain (λ u. is_place s.0.number i ≡ true) Q (wants (is_place s.0.number i) (Syntax line)) _
    (wanted (is_place s.0.number i) (Syntax line)) (λ u b.
    chain (λ v. nat_lt i 32 ≡ true) Q (wants (nat_lt i 32) (Range line)) _
    (wanted (nat_lt i 32) (Range line)) (λ v c.
    chain (IsReadOf s.0) Q (or_fault (Range line) (read_of s.0)) _
    (or_holds (IsReadOf s.0) (Range line) (read_of s.0) (read_of_is s.0)) (λ r d.
    let l : i < 32 = ltb-true i 32 c in
    record {
      below = l;
      fits = read_fits text s.1 s.0 r a d;
      is = read_text i text s.1 s.0 r l (place_is s.0.number i b) a d;
    }))))

-- the lines that are read as reads are the text of these reads
pub reads_are : (line : ℕ) (text : List ℕ)
    → Holds (AreRows read_line FitsRead 0 text) (reads_in line text)
unfolding reads_in
reads_are line text =
    rows_are (codes "R[") one_read read_line FitsRead one_read_is 33 0 line text (omega arith)

-- ---- writes

-- a write of one of the 128 registers
abbrev pub FitsWrite : ℕ → Type 0
FitsWrite register = register < 128

write_words_are : (i g : ℕ) (rest : List ℕ) → write_line i g ++ rest
    ≡ codes "W[" ++ (decimal i ++ 93 ∷ (codes " write G[" ++ (decimal g ++ 93 ∷ 10 ∷ rest)))
unfolding write_line indexed
write_words_are i g rest = simp append_assoc refl

write_text : (i g : ℕ) (text rest : List ℕ) (s : SpelledWrite) → i < 32
    → s.number ≡ pos i → IsWriteLine text (s, rest) → InField s.register 128 g
    → text ≡ write_line i g ++ rest
write_text i g text rest s l n a b =
    let front : ℤ → ℤ → List ℕ = λ x y.
    codes "W[" ++ (signed_decimal x ++ 93 ∷
    (codes " write G[" ++ (signed_decimal y ++ 93 ∷ 10 ∷ rest)))
    in
    a (place_small s.number i n (omega (arith, l)))
    (subst IsSmall (sym b.is) (omega (arith, b.below)))
    ∙ ap (λ (x : ℤ). front x s.register) n
    ∙ ap (λ (x : ℤ). front (pos i) x) b.is
    ∙ sym (write_words_are i g rest)

one_write_is : (i line : ℕ) (text : List ℕ)
    → Holds (IsRow write_line FitsWrite i text) (one_write i line text)
unfolding one_write
one_write_is i line text =
    let Q = IsRow write_line FitsWrite i text in
    chain (IsWriteLine text) Q (or_fault (Syntax line) (write_line_in text)) _
    (or_holds (IsWriteLine text) (Syntax line) (write_line_in text) (write_line_is text)) (λ s a.
    chain (λ u. is_place s.0.number i ≡ true) Q (wants (is_place s.0.number i) (Syntax line)) _
    (wanted (is_place s.0.number i) (Syntax line)) (λ u b.
    chain (λ v. nat_lt i 32 ≡ true) Q (wants (nat_lt i 32) (Range line)) _
    (wanted (nat_lt i 32) (Range line)) (λ v c.
    chain (InField s.0.register 128) Q (or_fault (Range line) (field_in s.0.register 128)) _
    (or_holds (InField s.0.register 128) (Range line) (field_in s.0.register 128)
    (field_is s.0.register 128)) (λ g d.
    let l : i < 32 = ltb-true i 32 c in
    record {
      below = l;
      fits = d.below;
      is = write_text i g text s.1 s.0 l (place_is s.0.number i b) a d;
    }))))

-- the lines that are read as writes are the text of these writes
pub writes_are : (line : ℕ) (text : List ℕ)
    → Holds (AreRows write_line FitsWrite 0 text) (writes_in line text)
unfolding writes_in
writes_are line text =
    rows_are (codes "W[") one_write write_line FitsWrite one_write_is 33 0 line text (omega arith)
