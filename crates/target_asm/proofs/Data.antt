-- The data bytes, as a loop reads them.
use Rattle.std.proofs.Common.{◌≡◌, ℕ, suc, ◌+◌, ◌-◌, ◌<◌, ◌≤◌, List, [], ◌∷◌, ◌++◌}
use Rattle.std.proofs.Common.{append_assoc}
use Rattle.std.proofs.Common.{refl, sym, ap, ◌∙◌, arith, Option, Some, None, Result, Ok, Err}
use Rattle.target_asm_spec.specs.declared.fault.AsmFault.{AsmFault}
use Rattle.target_asm_spec.specs.declared.fault.AsmFault.TheVariants.{Syntax}
use Rattle.target_asm_spec.specs.inside.Blocks.{◌>>>◌, or_fault}
use Rattle.target_asm_spec.specs.inside.Whole.{byte_fault, data_byte_in, bytes_in}
use Rattle.target_asm.specs.inside.Taking.{with_bytes}

abbrev Read : Type 0
Read = Result (List ℕ × List ℕ) AsmFault

bytes_open : (count n at : ℕ) (text : List ℕ) → bytes_in count (suc n) at text
    ≡ (or_fault (byte_fault at) (data_byte_in count at text) >>> λ b. bytes_in count n
    (at + 1) b.1 >>> λ bs. Ok (b.0 ∷ bs.0, bs.1))
unfolding bytes_in
bytes_open count n at text = refl

bytes_none : (count at : ℕ) (text : List ℕ) → bytes_in count 0 at text ≡ Ok ([], text)
unfolding bytes_in
bytes_none count at text = refl

more_bytes : (out : List ℕ) (x : ℕ) (r : Read)
    → with_bytes out (r >>> λ bs. Ok (x ∷ bs.0, bs.1)) ≡ with_bytes (out ++ x ∷ []) r
more_bytes out x (Ok r) = let f : List ℕ → Read = λ l. Ok (l, r.1) in ap f (sym (append_assoc out (x ∷ []) r.0))
more_bytes out x (Err e) = refl

pub data_start : (count : ℕ) (text out : List ℕ) → out ≡ []
    → with_bytes out (bytes_in count (count - 0) 0 text) ≡ bytes_in count count 0 text
data_start count text out e =
    let a : count - 0 ≡ count = omega arith in
    rw (e, a) (by (bytes_in count count 0 text))
  where
    by : (r : Read) → with_bytes [] r ≡ r
    by (Ok r) = refl
    by (Err e) = refl

-- where the next data byte is read, what is read on the whole stays the same
pub data_next : (count at x : ℕ) (text rest out new : List ℕ) (total : Read) → at < count
    → data_byte_in count at text ≡ Some (x, rest) → new ≡ out ++ x ∷ []
    → with_bytes out (bytes_in count (count - at) at text) ≡ total
    → with_bytes new (bytes_in count (count - (at + 1)) (at + 1) rest) ≡ total
data_next count at x text rest out new total l o e t =
    let c : count - at ≡ suc (count - (at + 1)) = omega (arith, l) in
    let more : Read = bytes_in count (count - (at + 1)) (at + 1) rest in
    let step : bytes_in count (count - at) at text ≡ (more >>> λ bs. Ok (x ∷ bs.0, bs.1)) =
    ap (λ (m : ℕ). bytes_in count m at text) c ∙ bytes_open count (count - (at + 1)) at text
    ∙ ap (λ (b : Option (ℕ × List ℕ)). or_fault (byte_fault at) b >>> λ b. bytes_in count
    (count - (at + 1)) (at + 1) b.1 >>> λ bs. Ok (b.0 ∷ bs.0, bs.1)) o in
    ap (λ (l : List ℕ). with_bytes l more) e ∙ sym (more_bytes out x more)
    ∙ ap (with_bytes out) (sym step) ∙ t

-- where the next data byte cannot be read, the whole is a fault of syntax at its line
pub data_fail : (count at line : ℕ) (text out : List ℕ) (total : Read) → at < count
    → data_byte_in count at text ≡ None → byte_fault at ≡ Syntax line
    → with_bytes out (bytes_in count (count - at) at text) ≡ total → total ≡ Err (Syntax line)
data_fail count at line text out total l o e t =
    let c : count - at ≡ suc (count - (at + 1)) = omega (arith, l) in
    let step : bytes_in count (count - at) at text ≡ Err (byte_fault at) =
    ap (λ (m : ℕ). bytes_in count m at text) c ∙ bytes_open count (count - (at + 1)) at text
    ∙ ap (λ (b : Option (ℕ × List ℕ)). or_fault (byte_fault at) b >>> λ b. bytes_in count
    (count - (at + 1)) (at + 1) b.1 >>> λ bs. Ok (b.0 ∷ bs.0, bs.1)) o in
    let f : AsmFault → Read = λ d. Err d in
    sym t ∙ ap (with_bytes out) step ∙ ap f e

-- where all data bytes were read, the whole is those that were read
pub data_end : (count at : ℕ) (text out : List ℕ) (total : Read) → count ≤ at
    → with_bytes out (bytes_in count (count - at) at text) ≡ total → total ≡ Ok (out, text)
data_end count at text out total l t =
    let c : count - at ≡ 0 = omega (arith, l) in
    let step : bytes_in count (count - at) at text ≡ Ok ([], text) =
    ap (λ (m : ℕ). bytes_in count m at text) c ∙ bytes_none count at text in
    let f : List ℕ → Read = λ l. Ok (l, text) in
    sym t ∙ ap (with_bytes out) step ∙ ap f (append_nil out)
  where
    append_nil : (l : List ℕ) → l ++ [] ≡ l
    append_nil [] = refl
    append_nil (x ∷ l) = ap (λ (m : List ℕ). x ∷ m) (append_nil l)
