-- A text whose first lines or data bytes are not read has a first fault there.
use Rattle.std.proofs.Common.{◌≡◌, ℕ, zero, suc, ◌+◌, ◌/◌, ◌<◌, ◌≤◌, List, [], ◌∷◌, ◌++◌, length}
use Rattle.std.proofs.Common.{refl, sym, ap, subst, ◌∙◌, arith, append_assoc, Option, Some, None}
use Rattle.std.proofs.Common.{Bool, true, false}
use Rattle.std.specs.Prelude.{ℤ, pos, negsuc, All, nat_lt, nat_le, codes, Result, Ok, Err}
use Rattle.std.proofs.lemmas.Bool.{le-leb, lt-ltb}
use Rattle.std.proofs.lemmas.List.{length-append}
use Rattle.std.proofs.lemmas.List.Elements.{All-nil, All-push}
use Rattle.trips_isa.specs.Images.{last_byte}
use Rattle.target_asm_spec.specs.Numbers.{numbered}
use Rattle.target_asm_spec.specs.Text.{head_lines, byte_text}
use Rattle.target_asm_spec.specs.declared.fault.AsmFault.{AsmFault}
use Rattle.target_asm_spec.specs.declared.fault.AsmFault.TheVariants as fault
use Rattle.target_asm_spec.specs.inside.Reading.{after_in, number_in}
use Rattle.target_asm_spec.specs.inside.Blocks.{◌>>>◌, or_fault, wants}
use Rattle.target_asm_spec.specs.inside.Whole.{count_in, bytes_limit, front_in, byte_fault}
use Rattle.target_asm_spec.specs.inside.Whole.{data_byte_in, bytes_in, data_lines, data_in}
use Rattle.target_asm_spec.specs.Lines.{number_text, count_words}
use Rattle.target_asm_spec.specs.LinePlaces.{size_of}
use Rattle.target_asm_spec.specs.LinePlaces.{Below}
use Rattle.target_asm_spec.specs.FirstAsmFault.{NoLine, BadNumber, BadGoal, GoodBytes, data_words}
use Rattle.target_asm_spec.specs.FirstAsmFault.{first_line, GoodFront, FirstAsmFault}
use Rattle.target_asm_spec.specs.FirstAsmFault as rule
use Rattle.target_asm_spec.proofs.Numbers.{after_front, no_digit}
use Rattle.target_asm_spec.proofs.Images.{data_byte_again}
use Rattle.target_asm_spec.proofs.Numbered.{numbered_end}
use Rattle.target_asm_laws.proofs.Binds.{If, bind, Holds}
use Rattle.target_asm_laws.proofs.Bodies.{all_of}
use Rattle.target_asm_laws.proofs.Data.{IsFront, Byte, IsDataByte, data_byte_is, AreBytes}
use Rattle.target_asm_laws.proofs.Data.{bytes_are, IsData}
use Rattle.target_asm_laws.proofs.Digits.{IsAfter, after_is}
use Rattle.target_asm_laws.proofs.Numerals.{capped, capped_small, capped_z, number_read, IsNumberOf}
use Rattle.target_asm_laws.proofs.Numerals.{number_of_text}
use Rattle.target_asm_laws.proofs.FaultRegisters.{none_some, clash, found}

-- ---- steps

-- P holds of what is given, and a fault is the first one
abbrev pub Tells : {A : Type 0} → List ℕ → (A → Type 0) → Result A AsmFault → Type 0
Tells text P (Ok x) = P x
Tells text P (Err e) = FirstAsmFault text e

-- where a first step tells its fault and the next one its own, both steps tell theirs
pub tells : {A C : Type 0} (text : List ℕ) (P Q : A → Type 0) (S : C → Type 0) (r : Result A AsmFault)
    (f : A → Result C AsmFault) → Tells text P r → Holds Q r
    → ((x : A) → P x → Q x → Tells text S (f x)) → Tells text S (r >>> f)
tells text P Q S (Err e) f a b k = a
tells text P Q S (Ok x) f a b k = k x a b

pub tell_some : {A C : Type 0} (text : List ℕ) (S : C → Type 0) (o : Option A) (e : AsmFault)
    (f : A → Result C AsmFault) → (o ≡ None → FirstAsmFault text e)
    → ((x : A) → o ≡ Some x → Tells text S (f x)) → Tells text S (or_fault e o >>> f)
tell_some text S None e f a k = a refl
tell_some text S (Some x) e f a k = k x refl

-- where what is wanted is not so, its fault is the first one; else what follows tells its own
pub tell_wants : {C : Type 0} (text : List ℕ) (S : C → Type 0) (b : Bool) (e : AsmFault)
    (f : Unit {0} → Result C AsmFault) → (b ≡ false → FirstAsmFault text e)
    → (b ≡ true → Tells text S (f tt)) → Tells text S (wants b e >>> f)
tell_wants text S false e f a k = a refl
tell_wants text S true e f a k = k refl

-- nothing is said of what is given
abbrev pub Any : {A : Type 0} → A → Type 0
Any x = Unit {0}

-- ---- the first two lines

-- the words of a count are read as this count, kept up to what lies past every field
pub count_read : (z : ℤ) (rest : List ℕ) → count_in (count_words z rest) ≡ Some (capped_z z, rest)
unfolding count_in count_words
count_read z rest =
    let t : List ℕ = number_text z ++ 10 ∷ rest in
    let a : after_in (codes "data ") (codes "data " ++ t) ≡ Some t = after_front (codes "data ") t in
    let b : number_in t ≡ Some (capped_z z, 10 ∷ rest) = number_read z (10 ∷ rest) (no_digit 10 rest refl) in
    let c : after_in (codes "\n") (10 ∷ rest) ≡ Some rest = after_front (codes "\n") rest in
    rw (a, b, c) refl

-- a text that is read as a count is the words of one
pub record IsCountOf (text : List ℕ) (r : ℤ × List ℕ) : Type 0 where
  pub z : ℤ
  pub same : capped_z z ≡ r.0
  pub is : text ≡ count_words z r.1

-- what is read as a count is its text
pub count_of : (text : List ℕ) → If (IsCountOf text) (count_in text)
unfolding count_in count_words
count_of text =
    let Q = IsCountOf text in
    bind (IsAfter (codes "data ") text) Q (after_in (codes "data ") text) _
    (after_is (codes "data ") text) (λ a h.
    bind (IsNumberOf a) Q (number_in a) _ (number_of_text a) (λ n k.
    bind (IsAfter (codes "\n") n.1) Q (after_in (codes "\n") n.1) _ (after_is (codes "\n") n.1)
    (λ rest e. record {
      z = k.z;
      same = k.same;
      is = h ∙ ap (λ (t : List ℕ). codes "data " ++ t) (k.is
          ∙ ap (λ (t : List ℕ). number_text k.z ++ t) e);
    })))

pub limit_read : (z : ℤ) → Below 4194305 z → bytes_limit (capped_z z) ≡ Some (size_of z)
unfolding bytes_limit
limit_read (pos n) b =
    let c : capped n ≡ n = capped_small n (omega (arith, b)) in
    let e : nat_le n 4194304 ≡ true = le-leb n 4194304 (omega (arith, b)) in
    rw (c, e) refl
limit_read (negsuc n) b = absurd b

-- a fault of the first lines is the text's first fault
pub front_tells : (text : List ℕ) → Tells text Any (front_in text)
unfolding front_in
front_tells text =
    let head : List ℕ = codes "trips 1\n" in
    tell_some text Any (after_in head text) (fault.Syntax 1) _
    (λ none. rule.no_head (λ rest e. none_some (after_in head text) rest none
    (ap (after_in head) e ∙ after_front head rest))) (λ a h.
    let e : text ≡ head ++ a = found (IsAfter head text) (after_in head text) a (after_is head text) h in
    tell_some text Any (count_in a) (fault.Syntax 2) _
    (λ none. rule.no_count a e (λ n rest q. none_some (count_in a) (capped_z n, rest) none
    (ap count_in q ∙ count_read n rest))) (λ n q.
    let c : IsCountOf a n = found (IsCountOf a) (count_in a) n (count_of a) q in
    tell_some text Any (bytes_limit n.0) (fault.Range 2) _
    (λ none. rule.large c.z n.1 (e ∙ ap (λ (t : List ℕ). head ++ t) c.is) (λ b.
    none_some (bytes_limit n.0) (size_of c.z) none
    (ap bytes_limit (sym c.same) ∙ limit_read c.z b))) (λ count l. tt)))

-- ---- the data bytes

byte_more : (count b : ℕ) (done t rest text : List ℕ) → text ≡ data_words count done t
    → t ≡ byte_text count (length done) b ++ rest → text ≡ data_words count (done ++ b ∷ []) rest
byte_more count b done t rest text e h =
    let f = byte_text count in
    let zero_more : 0 + length done ≡ length done = omega arith in
    let more : numbered f 0 (done ++ b ∷ []) ≡ numbered f 0 done ++ f (length done) b =
    numbered_end f 0 done b ∙ ap (λ (n : ℕ). numbered f 0 done ++ f n b) zero_more in
    e ∙ ap (λ (x : List ℕ). head_lines count ++ (numbered f 0 done ++ x)) h
    ∙ ap (λ (x : List ℕ). head_lines count ++ x)
    (sym (append_assoc (numbered f 0 done) (f (length done) b) rest)
    ∙ ap (λ (x : List ℕ). x ++ rest) (sym more))

bytes_tell : (text : List ℕ) (count n : ℕ) (done t : List ℕ) → count ≤ 4194304
    → All (λ b. b < 256) done → length done + n ≡ count → text ≡ data_words count done t
    → Tells text Any (bytes_in count n (length done) t)
unfolding bytes_in
bytes_tell text count zero done t few each size e = tt
bytes_tell text count (suc n) done t few each size e =
    let at : ℕ = length done in
    tell_some text Any (data_byte_in count at t) (byte_fault at) _
    (λ none. rule.no_byte count done t (record { few = few; each = each }) (omega (arith, size)) e
    (λ b rest l q. none_some (data_byte_in count at t) (b, rest) none
    (ap (data_byte_in count at) q ∙ data_byte_again count at b rest l))) (λ b h.
    let d : IsDataByte count at t b =
    found (IsDataByte count at t) (data_byte_in count at t) b (data_byte_is count at t) h in
    let longer : length (done ++ b.0 ∷ []) ≡ at + 1 = length-append done (b.0 ∷ []) in
    let more : Tells text Any (bytes_in count n (at + 1) b.1) =
    subst (λ (k : ℕ). Tells text Any (bytes_in count n k b.1)) longer
    (bytes_tell text count n (done ++ b.0 ∷ []) b.1 few
    (All-push (λ b. b < 256) done b.0 each d.below) (omega (arith, longer, size))
    (byte_more count b.0 done t b.1 text e d.is)) in
    tells text Any Any Any (bytes_in count n (at + 1) b.1) _ more
    (anything (bytes_in count n (at + 1) b.1)) (λ bs x y. tt))
  where
    anything : {A : Type 0} (r : Result A AsmFault) → Holds (λ (x : A). Unit {0}) r
    anything (Ok x) = tt
    anything (Err e) = tt

not_above : (n : ℕ) → nat_lt 0 n ≡ false → n ≡ 0
not_above zero e = refl
not_above (suc n) e = absurd (clash (nat_lt 0 (suc n)) (lt-ltb 0 (suc n) (omega arith)) e)

-- a fault of the data bytes is the text's first fault
pub data_tells : (text : List ℕ) (count : ℕ) (t : List ℕ) → IsFront text (count, t)
    → Tells text Any (data_in count t)
unfolding data_in
data_tells text count t a =
    let few : count ≤ 4194304 = a.few in
    let none : 0 + count ≡ count = omega arith in
    tells text Any (AreBytes count count 0 t) Any (bytes_in count count 0 t) _
    (bytes_tell text count count [] t few (All-nil (λ b. b < 256)) none a.is)
    (bytes_are count count 0 t) (λ bs x b.
    tell_wants text Any (nat_lt 0 (last_byte bs.0)) (fault.Range (2 + data_lines count)) _
    (λ w.
    let size : length bs.0 ≡ count = b.size in
    subst (λ (n : ℕ). FirstAsmFault text (fault.Range (2 + (n + 31) / 32))) size
    (rule.zero_last bs.0 bs.1 (record {
      few = omega (arith, size, few);
      each = all_of Byte bs.0 b.each;
    }) (not_above (last_byte bs.0) w)
    (a.is ∙ ap (λ (x : List ℕ). head_lines count ++ x) b.is
    ∙ ap (λ (n : ℕ). data_words n bs.0 bs.1) (sym size)))) (λ w. tt))

-- where the first lines and the data bytes are read, the text has a good front
pub front_good : (text : List ℕ) (count : ℕ) (t bytes rest : List ℕ) → IsFront text (count, t)
    → IsData count t (bytes, rest) → GoodFront text bytes rest
front_good text count t bytes rest a b =
    let size : length bytes ≡ count = b.bytes.size in
    let few : count ≤ 4194304 = a.few in
    record {
      good = record { few = omega (arith, size, few); each = all_of Byte bytes b.bytes.each };
      last = b.last;
      is = a.is ∙ ap (λ (x : List ℕ). head_lines count ++ x) b.bytes.is
          ∙ ap (λ (n : ℕ). data_words n bytes rest) (sym size);
    }
