-- The first fault of a text's first lines and data bytes is met by reading.
use Rattle.std.proofs.Common.{◌≡◌, ℕ, suc, ◌+◌, ◌-◌, ◌/◌, ◌<◌, ◌≤◌, List, [], ◌∷◌, ◌++◌, length, refl, sym}
use Rattle.std.proofs.Common.{ap, ◌∙◌, arith, append_assoc, Option, Some, None, Bool, true, false}
use Rattle.std.proofs.Common.{◌⊎◌, inl, inr}
use Rattle.std.specs.Prelude.{ℤ, pos, negsuc, not, nat_lt, nat_le, codes, Result, Ok, Err, if◌then◌else◌}
use Rattle.std.proofs.lemmas.Bool.{cases_lt, leb-true}
use Rattle.trips_isa.specs.declared.block.Image.{Image}
use Rattle.trips_isa.specs.Images.{last_byte}
use Rattle.target_asm_spec.specs.Numbers.{numbered}
use Rattle.target_asm_spec.specs.Text.{byte_text}
use Rattle.target_asm_spec.specs.declared.fault.AsmFault.{AsmFault}
use Rattle.target_asm_spec.specs.declared.fault.AsmFault.TheVariants as fault
use Rattle.target_asm_spec.specs.inside.Reading.{after_in}
use Rattle.target_asm_spec.specs.inside.Blocks.{◌>>>◌, wants}
use Rattle.target_asm_spec.specs.inside.Whole.{is_empty, count_in, bytes_limit, front_in, byte_fault}
use Rattle.target_asm_spec.specs.inside.Whole.{data_byte_in, bytes_in, data_lines, data_in, begins_of, unknown}
use Rattle.target_asm_spec.specs.inside.Whole.{body_in, image_in}
use Rattle.target_asm_spec.specs.Lines.{count_words}
use Rattle.target_asm_spec.specs.LinePlaces.{Below}
use Rattle.target_asm_spec.specs.FirstAsmFault.{GoodBytes, data_words, GoodFront}
use Rattle.target_asm_spec.proofs.Each.{Each, each_of}
use Rattle.target_asm_spec.proofs.Images.{front_again, bytes_again, data_again, data_byte_again}
use Rattle.target_asm_spec.proofs.Numbers.{after_front}
use Rattle.target_asm_laws.proofs.Digits.{IsAfter, after_is}
use Rattle.target_asm_laws.proofs.Data.{IsDataByte, data_byte_is}
use Rattle.target_asm_laws.proofs.Numerals.{capped, capped_small, capped_large, capped_z}
use Rattle.target_asm_laws.proofs.FaultRegisters.{found}
use Rattle.target_asm_laws.proofs.FrontFaults.{count_read, IsCountOf, count_of}

is_none : {A : Type 0} (o : Option A) → ((x : A) → o ≡ Some x → ⊥) → o ≡ None
is_none None h = refl
is_none (Some x) h = absurd (h x refl)

front_fails : (text : List ℕ) (e : AsmFault) → front_in text ≡ Err e → image_in text ≡ Err e
unfolding image_in
front_fails text e h = rw h refl

data_fails : (text t : List ℕ) (n : ℕ) (e : AsmFault) → front_in text ≡ Ok (n, t)
    → data_in n t ≡ Err e → image_in text ≡ Err e
unfolding image_in
data_fails text t n e h k = rw (h, k) refl

-- ---- the first two lines

no_front : (text : List ℕ) → after_in (codes "trips 1\n") text ≡ None
    → front_in text ≡ Err (fault.Syntax 1)
unfolding front_in
no_front text none = rw none refl

-- a text that does not begin with its head has a fault of syntax in line 1
pub head_found : (text : List ℕ) → ((rest : List ℕ) → text ≡ codes "trips 1\n" ++ rest → ⊥)
    → image_in text ≡ Err (fault.Syntax 1)
head_found text h =
    let head : List ℕ = codes "trips 1\n" in
    front_fails text (fault.Syntax 1) (no_front text (is_none (after_in head text) (λ rest e.
    h rest (found (IsAfter head text) (after_in head text) rest (after_is head text) e))))

count_fails : (text t : List ℕ) → after_in (codes "trips 1\n") text ≡ Some t → count_in t ≡ None
    → front_in text ≡ Err (fault.Syntax 2)
unfolding front_in
count_fails text t a b = rw (a, b) refl

limit_fails : (text t rest : List ℕ) (z : ℤ) → after_in (codes "trips 1\n") text ≡ Some t
    → count_in t ≡ Some (z, rest) → bytes_limit z ≡ None → front_in text ≡ Err (fault.Range 2)
unfolding front_in
limit_fails text t rest z a b c = rw (a, b, c) refl

after_head : (text t : List ℕ) → text ≡ codes "trips 1\n" ++ t
    → after_in (codes "trips 1\n") text ≡ Some t
after_head text t e = ap (after_in (codes "trips 1\n")) e ∙ after_front (codes "trips 1\n") t

-- a text whose count is no count has a fault of syntax in line 2
pub count_found : (text t : List ℕ) → text ≡ codes "trips 1\n" ++ t
    → ((n : ℤ) (rest : List ℕ) → t ≡ count_words n rest → ⊥) → image_in text ≡ Err (fault.Syntax 2)
count_found text t e h =
    front_fails text (fault.Syntax 2) (count_fails text t (after_head text t e)
    (is_none (count_in t) (λ n q.
    let c : IsCountOf t n = found (IsCountOf t) (count_in t) n (count_of t) q in h c.z n.1 c.is)))

within : (n : ℕ) → capped n ≤ 4194304 → n < 4194305
within n c = small (cases_lt n 1000000000)
  where
    small : (n < 1000000000) ⊎ (1000000000 ≤ n) → n < 4194305
    small (inl l) = let d = capped_small n l in omega (arith, c, d)
    small (inr l) = let d = capped_large n l in absurd (omega (arith, c, d))

limit_by : (n k : ℕ) (b : Bool) → nat_le (capped n) 4194304 ≡ b
    → ◌≡◌ {A = Option ℕ} (if b then Some (capped n) else None) (Some k) → n < 4194305
limit_by n k true h e = within n (leb-true (capped n) 4194304 h)
limit_by n k false h e = absurd cc

limit_of : (z : ℤ) (k : ℕ) → bytes_limit (capped_z z) ≡ Some k → Below 4194305 z
unfolding bytes_limit
limit_of (negsuc n) k e = absurd cc
limit_of (pos n) k e = limit_by n k (nat_le (capped n) 4194304) refl e

-- a text whose count is past its limit has a fault of range in line 2
pub limit_found : (text : List ℕ) (n : ℤ) (rest : List ℕ)
    → text ≡ codes "trips 1\n" ++ count_words n rest → (Below 4194305 n → ⊥)
    → image_in text ≡ Err (fault.Range 2)
limit_found text n rest e h =
    front_fails text (fault.Range 2) (limit_fails text (count_words n rest) rest (capped_z n)
    (after_head text (count_words n rest) e) (count_read n rest)
    (is_none (bytes_limit (capped_z n)) (λ k q. h (limit_of n k q))))

-- ---- the data bytes

front_read : (text bytes t : List ℕ) (count : ℕ) → count ≤ 4194304 → text ≡ data_words count bytes t
    → front_in text ≡ Ok (count, numbered (byte_text count) 0 bytes ++ t)
front_read text bytes t count l e =
    ap front_in e ∙ front_again count (numbered (byte_text count) 0 bytes ++ t) l

byte_stop : (count n at : ℕ) (t : List ℕ) → data_byte_in count at t ≡ None
    → bytes_in count (suc n) at t ≡ Err (byte_fault at)
unfolding bytes_in
byte_stop count n at t h = rw h refl

byte_step : (count n at b : ℕ) (t rest : List ℕ) (e : AsmFault)
    → data_byte_in count at t ≡ Some (b, rest) → bytes_in count n (suc at) rest ≡ Err e
    → bytes_in count (suc n) at t ≡ Err e
unfolding bytes_in
byte_step count n at b t rest e h more =
    let one : at + 1 ≡ suc at = omega arith in
    rw (h, one, more) refl

bytes_stop : (count n m at : ℕ) (bs t : List ℕ) → Each (λ b. b < 256) bs → m ≡ length bs + suc n
    → data_byte_in count (at + length bs) t ≡ None
    → bytes_in count m at (numbered (byte_text count) at bs ++ t) ≡ Err (byte_fault (at + length bs))
bytes_stop count n m at [] t f e h =
    let s : m ≡ suc n = omega (arith, e) in
    let z : at + length {A = ℕ} [] ≡ at = omega arith in
    ap (λ (k : ℕ). bytes_in count k at t) s
    ∙ byte_stop count n at t (ap (λ (k : ℕ). data_byte_in count k t) (sym z) ∙ h)
    ∙ ap (λ (k : ℕ). Err (byte_fault k)) (sym z)
bytes_stop count n m at (b ∷ bs) t f e h =
    let k : ℕ = length bs + suc n in
    let s : m ≡ suc k = omega (arith, e) in
    let rest : List ℕ = numbered (byte_text count) (suc at) bs ++ t in
    let z : at + length (b ∷ bs) ≡ suc at + length bs = omega arith in
    let front : numbered (byte_text count) at (b ∷ bs) ++ t ≡ byte_text count at b ++ rest =
    append_assoc (byte_text count at b) (numbered (byte_text count) (suc at) bs) t in
    let more : bytes_in count k (suc at) rest ≡ Err (byte_fault (suc at + length bs)) =
    bytes_stop count n k (suc at) bs t f.1 refl
    (ap (λ (j : ℕ). data_byte_in count j t) (sym z) ∙ h) in
    ap (λ (j : ℕ). bytes_in count j at (numbered (byte_text count) at (b ∷ bs) ++ t)) s
    ∙ ap (bytes_in count (suc k) at) front
    ∙ byte_step count k at b (byte_text count at b ++ rest) rest (byte_fault (suc at + length bs))
    (data_byte_again count at b rest f.0) more
    ∙ ap (λ (j : ℕ). Err (byte_fault j)) (sym z)

bytes_fail : (count : ℕ) (t : List ℕ) (e : AsmFault) → bytes_in count count 0 t ≡ Err e
    → data_in count t ≡ Err e
unfolding data_in
bytes_fail count t e h = rw h refl

-- a text in which the next data byte does not stand has a fault of syntax in the line of this byte
pub byte_found : (text : List ℕ) (count : ℕ) (bytes t : List ℕ) → GoodBytes count bytes
    → length bytes < count → text ≡ data_words count bytes t
    → ((b : ℕ) (rest : List ℕ) → b < 256 → t ≡ byte_text count (length bytes) b ++ rest → ⊥)
    → image_in text ≡ Err (fault.Syntax (3 + length bytes / 32))
byte_found text count bytes t good l e h =
    let at : ℕ = length bytes in
    let z : 0 + at ≡ at = omega arith in
    let none : data_byte_in count at t ≡ None =
    is_none (data_byte_in count at t) (λ b q.
    let d : IsDataByte count at t b =
    found (IsDataByte count at t) (data_byte_in count at t) b (data_byte_is count at t) q in
    h b.0 b.1 d.below d.is) in
    let size : count ≡ at + suc (count - at - 1) = omega (arith, l) in
    let stop : bytes_in count count 0 (numbered (byte_text count) 0 bytes ++ t) ≡ Err (byte_fault (0 + at)) =
    bytes_stop count (count - at - 1) count 0 bytes t (each_of (λ b. b < 256) bytes good.each) size
    (ap (λ (k : ℕ). data_byte_in count k t) z ∙ none) in
    data_fails text (numbered (byte_text count) 0 bytes ++ t) count (byte_fault at)
    (front_read text bytes t count good.few e)
    (bytes_fail count (numbered (byte_text count) 0 bytes ++ t) (byte_fault at)
    (stop ∙ ap (λ (k : ℕ). Err (byte_fault k)) z))

last_fails : (bytes rest : List ℕ) → Each (λ b. b < 256) bytes → last_byte bytes ≡ 0
    → data_in (length bytes) (numbered (byte_text (length bytes)) 0 bytes ++ rest)
    ≡ Err (fault.Range (2 + data_lines (length bytes)))
unfolding data_in
last_fails bytes rest f z =
    let a = bytes_again (length bytes) 0 bytes rest f in
    let b : nat_lt 0 (last_byte bytes) ≡ false = ap (nat_lt 0) z in
    rw (a, b) refl

-- a text whose last data byte is 0 has a fault of range in the line of this byte
pub last_found : (text bytes rest : List ℕ) → GoodBytes (length bytes) bytes → last_byte bytes ≡ 0
    → text ≡ data_words (length bytes) bytes rest
    → image_in text ≡ Err (fault.Range (2 + (length bytes + 31) / 32))
last_found text bytes rest good z e =
    data_fails text (numbered (byte_text (length bytes)) 0 bytes ++ rest) (length bytes)
    (fault.Range (2 + data_lines (length bytes)))
    (front_read text bytes rest (length bytes) good.few e)
    (last_fails bytes rest (each_of (λ b. b < 256) bytes good.each) z)

-- ---- the lines of blocks are read after these

-- what is read once the first lines and the data bytes are
abbrev pub blocks_part : ℕ → List ℕ → List ℕ → Result Image AsmFault
blocks_part count bytes rest =
    wants (not (is_empty rest)) (fault.Syntax (3 + data_lines count)) >>> λ u.
    body_in unknown (3 + data_lines count) rest >>> λ first.
    body_in (begins_of first) (3 + data_lines count) rest >>> λ blocks.
    Ok (record { blocks = blocks; bytes = bytes })

part_read : (text t bytes rest : List ℕ) (count : ℕ) → front_in text ≡ Ok (count, t)
    → data_in count t ≡ Ok (bytes, rest) → image_in text ≡ blocks_part count bytes rest
unfolding image_in
part_read text t bytes rest count a b = rw (a, b) refl

-- behind a good front reading goes on with the blocks
pub after_data : (text bytes rest : List ℕ) → GoodFront text bytes rest
    → image_in text ≡ blocks_part (length bytes) bytes rest
after_data text bytes rest a =
    part_read text (numbered (byte_text (length bytes)) 0 bytes ++ rest) bytes rest (length bytes)
    (front_read text bytes rest (length bytes) a.good.few a.is)
    (data_again bytes rest (each_of (λ b. b < 256) bytes a.good.each) a.last)
