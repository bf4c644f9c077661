-- The lines of reads and of writes are read one after the other.
use Rattle.std.proofs.Common.{◌≡◌, ℕ, zero, suc, ◌+◌, ◌<◌, ◌≤◌, List, [], ◌∷◌, ◌++◌, length}
use Rattle.std.proofs.Common.{append_assoc}
use Rattle.std.proofs.Common.{refl, ap, arith, true, false, Some}
use Rattle.std.proofs.Common.{eq-eqb}
use Rattle.std.specs.Prelude.{pos, ◌==◌, nat_lt, codes, Result, Ok}
use Rattle.std.proofs.lemmas.Bool.{lt-ltb}
use Rattle.trips_isa.specs.declared.block.ReadSlot.{ReadSlot}
use Rattle.trips_isa.specs.Fits.{FitsRead}
use Rattle.isa_table.specs.Spots.{indexed}
use Rattle.target_asm_spec.specs.Numbers.{numbered}
use Rattle.target_asm_spec.specs.Text.{read_line, write_line}
use Rattle.target_asm_spec.specs.declared.fault.AsmFault.{AsmFault}
use Rattle.target_asm_spec.specs.Reading.{field_in}
use Rattle.target_asm_spec.specs.inside.Reading.{after_in}
use Rattle.target_asm_spec.specs.Registers.{read_of}
use Rattle.target_asm_spec.specs.inside.Registers.{read_in}
use Rattle.target_asm_spec.specs.inside.Blocks.{begins, Taken, lines_in}
use Rattle.target_asm_spec.specs.inside.Blocks.{one_read, reads_in}
use Rattle.target_asm_spec.specs.inside.Blocks.{one_write, writes_in}
use Rattle.target_asm_spec.proofs.Numbers.{field_again}
use Rattle.target_asm_spec.proofs.Lines.{spelled_read, read_again, read_judged, write_line_again}
use Rattle.target_asm_spec.proofs.Each.{Each}

-- the end of the lines
taken_end : {A : Type 0} (line : ℕ) (rest : List ℕ)
    → ◌≡◌ {A = Taken (List A)} (Ok ([], line, rest)) (Ok ([], line + 0, rest))
taken_end {A = A} line rest =
    let e : line ≡ line + 0 = omega arith in
    let f : ℕ → Taken (List A) = λ n. Ok ([], n, rest) in
    ap f e

taken_more : {A : Type 0} (x : A) (xs : List A) (line : ℕ) (rest : List ℕ)
    → ◌≡◌ {A = Taken (List A)} (Ok (x ∷ xs, line + 1 + length xs, rest))
    (Ok (x ∷ xs, line + length (x ∷ xs), rest))
taken_more {A = A} x xs line rest =
    let e : line + 1 + length xs ≡ line + length (x ∷ xs) = omega arith in
    let f : ℕ → Taken (List A) = λ n. Ok (x ∷ xs, n, rest) in
    ap f e

-- lines are read again, one after the other
pub lines_again : {A : Type 0} (front : List ℕ)
    (one : ℕ → ℕ → List ℕ → Result (A × List ℕ) AsmFault)
    (f : ℕ → A → List ℕ) (P : A → Type 0)
    → ((i : ℕ) (x : A) (rest : List ℕ) → begins front (f i x ++ rest) ≡ true)
    → ((i line : ℕ) (x : A) (rest : List ℕ) → i < 32 → P x
    → one i line (f i x ++ rest) ≡ Ok (x, rest))
    → (turns i line : ℕ) (xs : List A) (rest : List ℕ) → Each P xs → length xs < turns
    → i + length xs ≤ 32
    → begins front rest ≡ false
    → lines_in front one turns i line (numbered f i xs ++ rest) ≡ Ok (xs, line + length xs, rest)
unfolding lines_in
lines_again front one f P s a zero i line xs rest p l m b = absurd (omega (arith, l))
lines_again front one f P s a (suc n) i line [] rest p l m b = rw b (taken_end line rest)
lines_again front one f P s a (suc n) i line (x ∷ xs) rest p l m b =
    let t : List ℕ = numbered f (suc i) xs ++ rest in
    let e : (f i x ++ numbered f (suc i) xs) ++ rest ≡ f i x ++ t =
    append_assoc (f i x) (numbered f (suc i) xs) rest in
    let begun : begins front (f i x ++ t) ≡ true = s i x t in
    let first : one i line (f i x ++ t) ≡ Ok (x, t) = a i line x t (omega (arith, m)) p.0 in
    let next : i + 1 ≡ suc i = omega arith in
    let more : lines_in front one n (suc i) (line + 1) t ≡ Ok (xs, line + 1 + length xs, rest) =
    lines_again front one f P s a n (suc i) (line + 1) xs rest p.1 (omega (arith, l))
    (omega (arith, m)) b in
    rw (e, begun, first, next, more) (taken_more x xs line rest)

-- ---- reads

read_begins : (i : ℕ) (r : ReadSlot) (rest : List ℕ) → begins (codes "R[") (read_line i r ++ rest) ≡ true
unfolding read_line indexed after_in
read_begins i r rest = refl

one_read_again : (i line : ℕ) (r : ReadSlot) (rest : List ℕ) → i < 32 → FitsRead r
    → one_read i line (read_line i r ++ rest) ≡ Ok (r, rest)
unfolding one_read
one_read_again i line r rest l f =
    let a : read_in (read_line i r ++ rest)
    ≡ Some (spelled_read i r, rest) = read_again i r rest (omega (arith, l)) f in
    let b : (i == i) ≡ true = eq-eqb i i refl in
    let c : nat_lt i 32 ≡ true = lt-ltb i 32 l in
    let d : read_of (spelled_read i r) ≡ Some r = read_judged i r f in
    rw (a, b, c, d) refl

-- the lines of at most 32 reads that fit are read again
pub reads_again : (line : ℕ) (rs : List ReadSlot) (rest : List ℕ) → Each FitsRead rs
    → length rs ≤ 32
    → begins (codes "R[") rest ≡ false
    → reads_in line (numbered read_line 0 rs ++ rest) ≡ Ok (rs, line + length rs, rest)
unfolding reads_in
reads_again line rs rest f l b =
    lines_again (codes "R[") one_read read_line FitsRead read_begins one_read_again 33 0 line rs rest f
    (omega (arith, l)) (omega (arith, l)) b

-- ---- writes

write_begins : (i g : ℕ) (rest : List ℕ) → begins (codes "W[") (write_line i g ++ rest) ≡ true
unfolding write_line indexed after_in
write_begins i g rest = refl

one_write_again : (i line g : ℕ) (rest : List ℕ) → i < 32 → g < 128
    → one_write i line (write_line i g ++ rest) ≡ Ok (g, rest)
unfolding one_write
one_write_again i line g rest l f =
    let a = write_line_again i g rest (omega (arith, l)) (omega (arith, f)) in
    let b : (i == i) ≡ true = eq-eqb i i refl in
    let c : nat_lt i 32 ≡ true = lt-ltb i 32 l in
    let d : field_in (pos g) 128 ≡ Some g = field_again g 128 f in
    rw (a, b, c, d) refl

-- the lines of at most 32 writes are read again
pub writes_again : (line : ℕ) (gs : List ℕ) (rest : List ℕ) → Each (λ g. g < 128) gs
    → length gs ≤ 32
    → begins (codes "W[") rest ≡ false
    → writes_in line (numbered write_line 0 gs ++ rest) ≡ Ok (gs, line + length gs, rest)
unfolding writes_in
writes_again line gs rest f l b =
    lines_again (codes "W[") one_write write_line (λ g. g < 128) write_begins one_write_again 33 0 line gs rest f
    (omega (arith, l)) (omega (arith, l)) b

-- no write is a read
pub writes_begin : (i : ℕ) (gs : List ℕ) (rest : List ℕ) → begins (codes "R[") rest ≡ false
    → begins (codes "R[") (numbered write_line i gs ++ rest) ≡ false
unfolding write_line indexed after_in
writes_begin i [] rest h = h
writes_begin i (g ∷ gs) rest h = refl
