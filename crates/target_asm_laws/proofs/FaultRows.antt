-- The lines of reads, writes and blocks are read from their texts, and what is read as such a line
-- is the text of one.
use Rattle.std.proofs.Common.{◌≡◌, ℕ, ◌<◌, ◌^◌, List, ◌∷◌, ◌++◌, refl, sym}
use Rattle.std.proofs.Common.{ap, ◌∙◌, arith, Option, Some}
use Rattle.std.specs.Prelude.{ℤ, codes}
use Rattle.target_asm_spec.specs.Numbers.{hex_word}
use Rattle.target_asm_spec.specs.declared.spelled.SpelledTarget.{SpelledTarget}
use Rattle.target_asm_spec.specs.declared.spelled.SpelledRead.{SpelledRead}
use Rattle.target_asm_spec.specs.declared.spelled.SpelledWrite.{SpelledWrite}
use Rattle.target_asm_spec.specs.declared.spelled.SpelledBlock.{SpelledBlock}
use Rattle.target_asm_spec.specs.inside.Reading.{after_in, number_in, index_in, word_in}
use Rattle.target_asm_spec.specs.inside.Places.{target_in, next_in}
use Rattle.target_asm_spec.specs.inside.Registers.{same_text}
use Rattle.target_asm_spec.specs.inside.Registers.{operands_fit, operands_in}
use Rattle.target_asm_spec.specs.inside.Registers.{read_in, write_line_in, block_line_in}
use Rattle.target_asm_spec.specs.Lines.{number_text, target_words, maybe_words, read_words}
use Rattle.target_asm_spec.specs.Lines.{write_words, block_words, AreOperands}
use Rattle.target_asm_spec.proofs.Numbers.{after_front, no_digit}
use Rattle.target_asm_spec.proofs.Hexadecimal.{word_again}
use Rattle.target_asm_spec.proofs.Targets.{feed_ends}
use Rattle.target_asm_laws.proofs.Binds.{If, bind, gives}
use Rattle.target_asm_laws.proofs.Digits.{IsAfter, after_is}
use Rattle.target_asm_laws.proofs.HexDigits.{IsWord, word_is}
use Rattle.target_asm_laws.proofs.Registers.{only}
use Rattle.target_asm_laws.proofs.Numerals.{capped_z, number_read, index_read, IsNumberOf}
use Rattle.target_asm_laws.proofs.Numerals.{number_of_text, IsIndexOf, index_of}
use Rattle.target_asm_laws.proofs.FaultTargets.{capped_target, capped_maybe, target_read, next_read}
use Rattle.target_asm_laws.proofs.FaultTargets.{IsTargetOf, target_of, IsNextOf, next_of}
use Rattle.target_asm_laws.proofs.Operands.{fit_read, fit_of}

-- ---- reads

-- a read as it is read
abbrev pub capped_read : SpelledRead → SpelledRead
capped_read s = record {
  number = capped_z s.number;
  register = capped_z s.register;
  first = capped_target s.first;
  second = capped_maybe s.second;
}

operands_read : (n g : ℤ) (t : SpelledTarget) (u : Option SpelledTarget) (rest : List ℕ)
    → AreOperands t u
    → operands_in n g (32 ∷ target_words t (maybe_words u (10 ∷ rest)))
    ≡ Some (
      record { number = n; register = g; first = capped_target t; second = capped_maybe u },
      rest,
    )
unfolding operands_in
operands_read n g t u rest f =
    let r : List ℕ = maybe_words u (10 ∷ rest) in
    let a : after_in (codes " ") (32 ∷ target_words t r) ≡ Some (target_words t r) =
    after_front (codes " ") (target_words t r) in
    let b = target_read t r in
    let c : next_in r ≡ Some (capped_maybe u, 10 ∷ rest) = next_read u (10 ∷ rest) (feed_ends rest) in
    let d : after_in (codes "\n") (10 ∷ rest) ≡ Some rest = after_front (codes "\n") rest in
    let e = fit_read t u (10 ∷ rest) f in
    rw (a, b, c, d, e) refl

-- the words of a read are read as this read, its numbers kept up to what lies past every field
pub read_read : (s : SpelledRead) (rest : List ℕ) → AreOperands s.first s.second
    → read_in (read_words s rest) ≡ Some (capped_read s, rest)
unfolding read_in read_words
read_read s rest f =
    let t : List ℕ = 32 ∷ target_words s.first (maybe_words s.second (10 ∷ rest)) in
    let u : List ℕ = codes " read G[" ++ (number_text s.register ++ 93 ∷ t) in
    let a : index_in (codes "R[") (codes "R[" ++ (number_text s.number ++ 93 ∷ u)) ≡ Some (capped_z s.number, u) =
    index_read (codes "R[") s.number u in
    let b : index_in (codes " read G[") u ≡ Some (capped_z s.register, t) =
    index_read (codes " read G[") s.register t in
    rw (a, b) (operands_read (capped_z s.number) (capped_z s.register) s.first s.second rest f)

record ArePartsOf (n g : ℤ) (text : List ℕ) (r : SpelledRead × List ℕ) : Type 0 where
  first : SpelledTarget
  second : Option SpelledTarget
  same : r.0 ≡ record {
    number = n;
    register = g;
    first = capped_target first;
    second = capped_maybe second;
  }
  is : text ≡ 32 ∷ target_words first (maybe_words second (10 ∷ r.1))
  fits : AreOperands first second

parts_of : (n g : ℤ) (text : List ℕ) → If (ArePartsOf n g text) (operands_in n g text)
unfolding operands_in
parts_of n g text =
    let Q = ArePartsOf n g text in
    bind (IsAfter (codes " ") text) Q (after_in (codes " ") text) _ (after_is (codes " ") text) (λ a h.
    bind (IsTargetOf a) Q (target_in a) _ (target_of a) (λ t b.
    bind (IsNextOf t.1) Q (next_in t.1) _ (next_of t.1) (λ u c.
    bind (IsAfter (codes "\n") u.1) Q (after_in (codes "\n") u.1) _ (after_is (codes "\n") u.1)
    (λ rest d.
    only Q (operands_fit (same_text a t.1) t.0 u.0) _ (λ e.
    let second : t.1 ≡ maybe_words c.t (10 ∷ rest) = c.is ∙ ap (maybe_words c.t) d in
    let text_is : a ≡ target_words b.t (maybe_words c.t (10 ∷ rest)) =
    b.is ∙ ap (target_words b.t) second in
    record {
      first = b.t;
      second = c.t;
      same =
          ap (λ (x : SpelledTarget). record { number = n; register = g; first = x; second = u.0 })
          (sym b.same)
          ∙ ap (λ (x : Option SpelledTarget). record {
            number = n;
            register = g;
            first = capped_target b.t;
            second = x;
          }) (sym c.same);
      is = h ∙ ap (λ (x : List ℕ). 32 ∷ x) text_is;
      fits = fit_of b.t c.t (10 ∷ rest)
          (ap (λ (x : List ℕ). operands_fit (same_text x (maybe_words c.t (10 ∷ rest)))
          (capped_target b.t) (capped_maybe c.t)) (sym text_is)
          ∙ ap (λ (x : List ℕ). operands_fit (same_text a x) (capped_target b.t) (capped_maybe c.t))
          (sym second)
          ∙ ap (λ (x : SpelledTarget). operands_fit (same_text a t.1) x (capped_maybe c.t)) b.same
          ∙ ap (λ (x : Option SpelledTarget). operands_fit (same_text a t.1) t.0 x) c.same ∙ e);
    })))))

-- a text that is read as the line of a read is the words of one
pub record IsReadOf (text : List ℕ) (r : SpelledRead × List ℕ) : Type 0 where
  pub s : SpelledRead
  pub same : capped_read s ≡ r.0
  pub is : text ≡ read_words s r.1
  pub fits : AreOperands s.first s.second

read_by : (n g : ℤ) (text t u rest : List ℕ) (s : SpelledRead)
    → IsIndexOf (codes "R[") text (n, t) → IsIndexOf (codes " read G[") t (g, u)
    → ArePartsOf n g u (s, rest) → IsReadOf text (s, rest)
unfolding read_words
read_by n g text t u rest s a b c = record {
  s = record { number = a.z; register = b.z; first = c.first; second = c.second };
  same =
      ap (λ (x : ℤ). record {
        number = x;
        register = capped_z b.z;
        first = capped_target c.first;
        second = capped_maybe c.second;
      }) a.same
      ∙ ap (λ (x : ℤ). record {
        number = n;
        register = x;
        first = capped_target c.first;
        second = capped_maybe c.second;
      }) b.same ∙ sym c.same;
  is =
      a.is ∙ ap (λ (x : List ℕ). codes "R[" ++ (number_text a.z ++ 93 ∷ x))
      (b.is ∙ ap (λ (x : List ℕ). codes " read G[" ++ (number_text b.z ++ 93 ∷ x)) c.is);
  fits = c.fits;
}

-- what is read as the line of a read is its text
pub read_of_text : (text : List ℕ) → If (IsReadOf text) (read_in text)
unfolding read_in
read_of_text text =
    bind (IsIndexOf (codes "R[") text) (IsReadOf text) (index_in (codes "R[") text) _
    (index_of (codes "R[") text) (λ n a.
    bind (IsIndexOf (codes " read G[") n.1) (IsReadOf text) (index_in (codes " read G[") n.1) _
    (index_of (codes " read G[") n.1) (λ g b.
    gives (ArePartsOf n.0 g.0 g.1) (IsReadOf text) (operands_in n.0 g.0 g.1)
    (parts_of n.0 g.0 g.1) (λ r c. read_by n.0 g.0 text n.1 g.1 r.1 r.0 a b c)))

-- ---- writes

-- a write whose numbers are kept up to what lies past every field
abbrev pub capped_write : SpelledWrite → SpelledWrite
capped_write s = record { number = capped_z s.number; register = capped_z s.register }

-- the words of a write are read as this write, its numbers so kept
pub write_line_read : (s : SpelledWrite) (rest : List ℕ)
    → write_line_in (write_words s rest) ≡ Some (capped_write s, rest)
unfolding write_line_in write_words
write_line_read s rest =
    let u : List ℕ = codes " write G[" ++ (number_text s.register ++ 93 ∷ 10 ∷ rest) in
    let a : index_in (codes "W[") (codes "W[" ++ (number_text s.number ++ 93 ∷ u)) ≡ Some (capped_z s.number, u) =
    index_read (codes "W[") s.number u in
    let b : index_in (codes " write G[") u ≡ Some (capped_z s.register, 10 ∷ rest) =
    index_read (codes " write G[") s.register (10 ∷ rest) in
    let d : after_in (codes "\n") (10 ∷ rest) ≡ Some rest = after_front (codes "\n") rest in
    rw (a, b, d) refl

-- a text that is read as the line of a write is the words of one
pub record IsWriteOf (text : List ℕ) (r : SpelledWrite × List ℕ) : Type 0 where
  pub s : SpelledWrite
  pub same : capped_write s ≡ r.0
  pub is : text ≡ write_words s r.1

-- what is read as the line of a write is its text
pub write_of_text : (text : List ℕ) → If (IsWriteOf text) (write_line_in text)
unfolding write_line_in write_words
write_of_text text =
    bind (IsIndexOf (codes "W[") text) (IsWriteOf text) (index_in (codes "W[") text) _
    (index_of (codes "W[") text) (λ n a.
    bind (IsIndexOf (codes " write G[") n.1) (IsWriteOf text) (index_in (codes " write G[") n.1) _
    (index_of (codes " write G[") n.1) (λ g b.
    bind (IsAfter (codes "\n") g.1) (IsWriteOf text) (after_in (codes "\n") g.1) _
    (after_is (codes "\n") g.1) (λ rest c. record {
      s = record { number = a.z; register = b.z };
      same =
          ap (λ (x : ℤ). record { number = x; register = capped_z b.z }) a.same
          ∙ ap (λ (x : ℤ). record { number = n.0; register = x }) b.same;
      is =
          a.is ∙ ap (λ (x : List ℕ). codes "W[" ++ (number_text a.z ++ 93 ∷ x))
          (b.is ∙ ap (λ (x : List ℕ). codes " write G[" ++ (number_text b.z ++ 93 ∷ x)) c);
    })))

-- ---- blocks

-- the words of a block's line are read as this line, its number so kept
pub block_read : (k : ℤ) (mask : ℕ) (rest : List ℕ) → mask < 2 ^ 32
    → block_line_in (block_words k mask rest)
    ≡ Some (record { number = capped_z k; mask = mask }, rest)
unfolding block_line_in block_words
block_read k mask rest m =
    let w : List ℕ = hex_word mask ++ 10 ∷ rest in
    let u : List ℕ = codes " mask " ++ w in
    let a : after_in (codes "block ") (codes "block " ++ (number_text k ++ u)) ≡ Some (number_text k ++ u) =
    after_front (codes "block ") (number_text k ++ u) in
    let b : number_in (number_text k ++ u) ≡ Some (capped_z k, u) =
    number_read k u (no_digit 32 (codes "mask " ++ w) refl) in
    let c : after_in (codes " mask ") u ≡ Some w = after_front (codes " mask ") w in
    let d : word_in w ≡ Some (mask, 10 ∷ rest) = word_again mask (10 ∷ rest) (omega (arith, m)) in
    let e : after_in (codes "\n") (10 ∷ rest) ≡ Some rest = after_front (codes "\n") rest in
    rw (a, b, c, d, e) refl

-- a text that is read as the line of a block is the words of one
pub record IsBlockOf (text : List ℕ) (r : SpelledBlock × List ℕ) : Type 0 where
  pub k : ℤ
  pub same : capped_z k ≡ r.0.number
  pub mask : r.0.mask < 2 ^ 32
  pub is : text ≡ block_words k r.0.mask r.1

-- what is read as the line of a block is its text
pub block_of_text : (text : List ℕ) → If (IsBlockOf text) (block_line_in text)
unfolding block_line_in block_words
block_of_text text =
    bind (IsAfter (codes "block ") text) (IsBlockOf text) (after_in (codes "block ") text) _
    (after_is (codes "block ") text) (λ t a.
    bind (IsNumberOf t) (IsBlockOf text) (number_in t) _ (number_of_text t) (λ n b.
    bind (IsAfter (codes " mask ") n.1) (IsBlockOf text) (after_in (codes " mask ") n.1) _
    (after_is (codes " mask ") n.1) (λ u c.
    bind (IsWord u) (IsBlockOf text) (word_in u) _ (word_is u) (λ m d.
    bind (IsAfter (codes "\n") m.1) (IsBlockOf text) (after_in (codes "\n") m.1) _
    (after_is (codes "\n") m.1) (λ rest e. record {
      k = b.z;
      same = b.same;
      mask = let l = d.below in omega (arith, l);
      is = a ∙ ap (λ (z : List ℕ). codes "block " ++ z) (b.is
          ∙ ap (λ (z : List ℕ). number_text b.z ++ z) (c
          ∙ ap (λ (z : List ℕ). codes " mask " ++ z) (d.is
          ∙ ap (λ (z : List ℕ). hex_word m.0 ++ z) e)));
    })))))
