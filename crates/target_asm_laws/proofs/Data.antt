-- The first lines and the data bytes that are read are their text.
use Rattle.std.proofs.Common.{◌≡◌, ℕ, zero, suc, ◌+◌, ◌%◌, ◌<◌, ◌≤◌, List, [], ◌∷◌, ◌++◌, length}
use Rattle.std.proofs.Common.{refl, sym, ap, subst, ◌∙◌, arith, append_assoc, Bool, true, false}
use Rattle.std.proofs.Common.{Some}
use Rattle.std.specs.Prelude.{ℤ, pos, negsuc, ◌==◌, ◌||◌, nat_lt, nat_le, codes}
use Rattle.std.specs.Prelude.{if◌then◌else◌}
use Rattle.std.specs.Fmt.{decimal, signed_decimal}
use Rattle.std.proofs.lemmas.Bool.{leb-true, ltb-true}
use Rattle.trips_isa.specs.Images.{last_byte}
use Rattle.target_asm_spec.specs.Numbers.{hex_byte, numbered}
use Rattle.target_asm_spec.specs.Text.{data_end, byte_text, head_lines}
use Rattle.target_asm_spec.specs.declared.fault.AsmFault.TheVariants.{Syntax, Range}
use Rattle.target_asm_spec.specs.inside.Reading.{after_in, number_in, byte_in}
use Rattle.target_asm_spec.specs.inside.Blocks.{or_fault, wants}
use Rattle.target_asm_spec.specs.inside.Whole.{count_in, bytes_limit, front_in, feed_in}
use Rattle.target_asm_spec.specs.inside.Whole.{data_byte_in, byte_fault, bytes_in, data_lines, data_in}
use Rattle.target_asm_spec.proofs.Numbers.{IsSmall}
use Rattle.target_asm_spec.proofs.Each.{Each}
use Rattle.target_asm_laws.proofs.Binds.{If, Holds, bind, chain, when, or_holds, wanted}
use Rattle.target_asm_laws.proofs.Digits.{IsAfter, after_is, IsNumber, number_is}
use Rattle.target_asm_laws.proofs.HexDigits.{IsByte, byte_is}

-- ---- the first two lines

abbrev IsCount : List ℕ → ℤ × List ℕ → Type 0
IsCount text r = IsSmall r.0 → text ≡ codes "data " ++ (signed_decimal r.0 ++ 10 ∷ r.1)

count_is : (text : List ℕ) → If (IsCount text) (count_in text)
unfolding count_in
count_is text =
    bind (IsAfter (codes "data ") text) (IsCount text) (after_in (codes "data ") text) _
    (after_is (codes "data ") text) (λ a h.
    bind (IsNumber a) (IsCount text) (number_in a) _ (number_is a) (λ n k.
    bind (IsAfter (codes "\n") n.1) (IsCount text) (after_in (codes "\n") n.1) _
    (after_is (codes "\n") n.1) (λ rest e l.
    h ∙ ap (λ (t : List ℕ). codes "data " ++ t) (k l
    ∙ ap (λ (t : List ℕ). signed_decimal n.0 ++ t) e))))

record IsLimited (z : ℤ) (n : ℕ) : Type 0 where
  is : z ≡ pos n
  few : n ≤ 4194304

limit_is : (z : ℤ) → If (IsLimited z) (bytes_limit z)
unfolding bytes_limit
limit_is (pos n) = when (IsLimited (pos n)) (nat_le n 4194304) (Some n)
    (λ e. record { is = refl; few = leb-true n 4194304 e })
limit_is (negsuc n) = tt

-- the front of a text: its first lines, with a count of data bytes within its limit
pub record IsFront (text : List ℕ) (r : ℕ × List ℕ) : Type 0 where
  pub few : r.0 ≤ 4194304
  pub is : text ≡ head_lines r.0 ++ r.1

head_words_are : (n : ℕ) (rest : List ℕ) → head_lines n ++ rest ≡ codes "trips 1\n"
    ++ (codes "data " ++ (decimal n ++ 10 ∷ rest))
unfolding head_lines
head_words_are n rest = ap (λ (t : List ℕ). codes "trips 1\ndata " ++ t)
    (append_assoc (decimal n) (10 ∷ []) rest)

front_by : (text a rest : List ℕ) (z : ℤ) (n : ℕ) → IsAfter (codes "trips 1\n") text a
    → IsCount a (z, rest) → IsLimited z n → IsFront text (n, rest)
front_by text a rest z n h c l = record {
  few = l.few;
  is =
      h ∙ ap (λ (t : List ℕ). codes "trips 1\n" ++ t)
      (c (subst IsSmall (sym l.is) (omega (arith, l.few)))
      ∙ ap (λ (x : ℤ). codes "data " ++ (signed_decimal x ++ 10 ∷ rest)) l.is)
      ∙ sym (head_words_are n rest);
}

-- a front that is read is the text's first lines
pub front_is : (text : List ℕ) → Holds (IsFront text) (front_in text)
unfolding front_in
front_is text =
    let start : List ℕ = codes "trips 1\n" in
    chain (IsAfter start text) (IsFront text) (or_fault (Syntax 1) (after_in start text)) _
    (or_holds (IsAfter start text) (Syntax 1) (after_in start text) (after_is start text)) (λ a h.
    chain (IsCount a) (IsFront text) (or_fault (Syntax 2) (count_in a)) _
    (or_holds (IsCount a) (Syntax 2) (count_in a) (count_is a)) (λ n c.
    chain (IsLimited n.0) (IsFront text) (or_fault (Range 2) (bytes_limit n.0)) _
    (or_holds (IsLimited n.0) (Range 2) (bytes_limit n.0) (limit_is n.0)) (λ count l.
    front_by text a n.1 n.0 count h c l)))

-- ---- the data bytes

abbrev IsFeed : ℕ → ℕ → List ℕ → List ℕ → Type 0
IsFeed count at text rest = text ≡ data_end count at ++ rest

feed_by : (c : Bool) (text : List ℕ)
    → If (λ rest. text ≡ (if c then 10 ∷ [] else []) ++ rest)
    (if c then after_in (codes "\n") text else Some text)
feed_by true text = after_is (codes "\n") text
feed_by false text = refl

feed_is : (count at : ℕ) (text : List ℕ) → If (IsFeed count at text) (feed_in count at text)
feed_is count at text = feed_by (((at + 1) % 32 == 0) || (at + 1 == count)) text

-- a data byte with what stands before and behind it in its line
pub record IsDataByte (count at : ℕ) (text : List ℕ) (r : ℕ × List ℕ) : Type 0 where
  pub below : r.0 < 256
  pub is : text ≡ byte_text count at r.0 ++ r.1

data_byte_by : (count at byte : ℕ) (text t rest : List ℕ) → IsByte text (byte, t)
    → IsFeed count at t rest → IsDataByte count at text (byte, rest)
unfolding byte_text
data_byte_by count at byte text t rest b f = record {
  below = b.below;
  is =
      b.is ∙ ap (λ (u : List ℕ). hex_byte byte ++ u) f
      ∙ sym (append_assoc (hex_byte byte) (data_end count at) rest);
}

-- a data byte that is read stands there in the text
pub data_byte_is : (count at : ℕ) (text : List ℕ)
    → If (IsDataByte count at text) (data_byte_in count at text)
unfolding data_byte_in
data_byte_is count at text =
    bind (IsByte text) (IsDataByte count at text) (byte_in text) _ (byte_is text) (λ b h.
    bind (IsFeed count at b.1) (IsDataByte count at text) (feed_in count at b.1) _
    (feed_is count at b.1) (λ rest f. data_byte_by count at b.0 text b.1 rest h f))

-- a number below 256
abbrev pub Byte : ℕ → Type 0
Byte b = b < 256

-- some data bytes, one after the other, as the text has them
pub record AreBytes (count n at : ℕ) (text : List ℕ) (r : List ℕ × List ℕ) : Type 0 where
  pub size : length r.0 ≡ n
  pub each : Each Byte r.0
  pub is : text ≡ numbered (byte_text count) at r.0 ++ r.1

bytes_more : (count n at b : ℕ) (text t bs rest : List ℕ) → IsDataByte count at text (b, t)
    → AreBytes count n (at + 1) t (bs, rest) → AreBytes count (suc n) at text (b ∷ bs, rest)
bytes_more count n at b text t bs rest p q =
    let one : at + 1 ≡ suc at = omega arith in
    record {
      size = ap suc q.size;
      each = (p.below, q.each);
      is =
          p.is ∙ ap (λ (u : List ℕ). byte_text count at b ++ u) (q.is
          ∙ ap (λ (m : ℕ). numbered (byte_text count) m bs ++ rest) one)
          ∙ sym (append_assoc (byte_text count at b) (numbered (byte_text count) (suc at) bs)
          rest);
    }

-- data bytes that are read stand there in the text
pub bytes_are : (count n at : ℕ) (text : List ℕ)
    → Holds (AreBytes count n at text) (bytes_in count n at text)
unfolding bytes_in
bytes_are count zero at text = record { size = refl; each = tt; is = refl }
bytes_are count (suc n) at text =
    let Q = AreBytes count (suc n) at text in
    chain (IsDataByte count at text) Q (or_fault (byte_fault at) (data_byte_in count at text))
    _ (or_holds (IsDataByte count at text) (byte_fault at) (data_byte_in count at text)
    (data_byte_is count at text)) (λ b p.
    chain (AreBytes count n (at + 1) b.1) Q (bytes_in count n (at + 1) b.1) _
    (bytes_are count n (at + 1) b.1) (λ bs q.
    bytes_more count n at b.0 text b.1 bs.0 bs.1 p q))

-- all data bytes of a text, of which the last is not 0
pub record IsData (count : ℕ) (text : List ℕ) (r : List ℕ × List ℕ) : Type 0 where
  pub bytes : AreBytes count count 0 text r
  pub last : last_byte r.0 ≡ 0 → ⊥

pub above : (n : ℕ) → nat_lt 0 n ≡ true → n ≡ 0 → ⊥
above n e z = let l : 0 < n = ltb-true 0 n e in omega (arith, l, z)

-- where the data bytes are read, the text has them, and the last is not 0
pub data_is : (count : ℕ) (text : List ℕ) → Holds (IsData count text) (data_in count text)
unfolding data_in
data_is count text =
    let e : ℕ = 2 + data_lines count in
    chain (AreBytes count count 0 text) (IsData count text) (bytes_in count count 0 text) _
    (bytes_are count count 0 text) (λ bs p.
    chain (λ u. nat_lt 0 (last_byte bs.0) ≡ true) (IsData count text)
    (wants (nat_lt 0 (last_byte bs.0)) (Range e)) _ (wanted (nat_lt 0 (last_byte bs.0)) (Range e))
    (λ u l. record { bytes = p; last = above (last_byte bs.0) l }))
