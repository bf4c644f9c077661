-- Whether a number lies in its field is seen of the number as it is read.
use Rattle.std.proofs.Common.{◌≡◌, ℕ, suc, ◌-◌, ◌<◌, ◌≤◌, refl, sym, ap, ◌∙◌, arith}
use Rattle.std.proofs.Common.{Option, Some, None, Bool, true, false, ◌⊎◌, inl, inr}
use Rattle.std.specs.Prelude.{ℤ, pos, negsuc, nat_lt, if◌then◌else◌}
use Rattle.std.proofs.lemmas.Bool.{cases_lt, le-ltb, ltb-true}
use Rattle.trips_isa.specs.declared.op.Op.{Op}
use Rattle.trips_isa.specs.declared.op.Op.TheVariants.{Gens}
use Rattle.trips_isa.specs.declared.form.Form.{Form}
use Rattle.trips_isa.specs.declared.form.Form.TheVariants.{General, Immediate, Load, Store, Branch}
use Rattle.trips_isa.specs.declared.form.Form.TheVariants.{Constant}
use Rattle.trips_isa.specs.Forms.{form_of}
use Rattle.trips_isa.specs.Limits.{most_chunks}
use Rattle.target_asm_spec.specs.declared.spelled.Goal.{Goal}
use Rattle.target_asm_spec.specs.declared.spelled.Goal.TheVariants.{Label, Offset}
use Rattle.target_asm_spec.specs.declared.spelled.Numbers.{Numbers}
use Rattle.target_asm_spec.specs.declared.spelled.SpelledTarget.{SpelledTarget}
use Rattle.target_asm_spec.specs.declared.spelled.SpelledTarget.TheVariants as spelled
use Rattle.target_asm_spec.specs.declared.spelled.SpelledInst.{SpelledInst}
use Rattle.target_asm_spec.specs.declared.spelled.SpelledRead.{SpelledRead}
use Rattle.target_asm_spec.specs.Reading.{field_in}
use Rattle.target_asm_spec.specs.Places.{spot_of, maybe_spot}
use Rattle.target_asm_spec.specs.Registers.{read_of}
use Rattle.target_asm_spec.specs.Judging.{signed_in, unsigned_in, number_of, constant_of, offset_of}
use Rattle.target_asm_spec.specs.Judging.{immediate_of, inst_of}
use Rattle.target_asm_laws.proofs.Numerals.{capped, capped_small, capped_large, capped_z}
use Rattle.target_asm_laws.proofs.FaultTargets.{capped_target, capped_maybe}
use Rattle.target_asm_laws.proofs.Insts.{capped_goal, capped_numbers, capped_inst}
use Rattle.target_asm_laws.proofs.FaultRows.{capped_read}

-- ---- one number

-- whether a number lies below a limit is seen of the number that is read
pub below_capped : (n m : ℕ) → m ≤ 999999999 → nat_lt (capped n) m ≡ nat_lt n m
below_capped n m l = by (cases_lt n 1000000000)
  where
    by : (n < 1000000000) ⊎ (1000000000 ≤ n) → nat_lt (capped n) m ≡ nat_lt n m
    by (inl h) = ap (λ (x : ℕ). nat_lt x m) (capped_small n h)
    by (inr h) =
        ap (λ (x : ℕ). nat_lt x m) (capped_large n h)
        ∙ le-ltb 1000000000 m (omega (arith, l)) ∙ sym (le-ltb n m (omega (arith, l, h)))

-- a number that is read as one below a thousand million is this one
pub same_capped : (n : ℕ) → n < 1000000000 → (m : ℕ) → capped m ≡ n → m ≡ n
same_capped n l m e = by (cases_lt m 1000000000)
  where
    by : (m < 1000000000) ⊎ (1000000000 ≤ m) → m ≡ n
    by (inl h) = sym (capped_small m h) ∙ e
    by (inr h) = let c = capped_large m h in absurd (omega (arith, c, e, l))

less_one : (n m : ℕ) → m ≤ 999999999 → nat_lt (capped (suc n) - 1) m ≡ nat_lt n m
less_one n m l = by (cases_lt (suc n) 1000000000)
  where
    by : (suc n < 1000000000) ⊎ (1000000000 ≤ suc n) → nat_lt (capped (suc n) - 1) m ≡ nat_lt n m
    by (inl h) =
        let e : capped (suc n) - 1 ≡ n = ap (λ (x : ℕ). x - 1) (capped_small (suc n) h) ∙ omega arith in
        ap (λ (x : ℕ). nat_lt x m) e
    by (inr h) =
        let e : capped (suc n) - 1 ≡ 999999999 = ap (λ (x : ℕ). x - 1) (capped_large (suc n) h) in
        ap (λ (x : ℕ). nat_lt x m) e
        ∙ le-ltb 999999999 m l ∙ sym (le-ltb n m (omega (arith, l, h)))

if_same : {A : Type 0} (b d : Bool) (x y z : A) → b ≡ d → (d ≡ true → x ≡ y)
    → (if b then x else z) ≡ (if d then y else z)
if_same true true x y z e h = h refl
if_same false false x y z e h = refl
if_same true false x y z e h = absurd cc
if_same false true x y z e h = absurd cc

-- a number below a limit is read as it is
kept : (n m : ℕ) → m ≤ 999999999 → nat_lt n m ≡ true → capped n ≡ n
kept n m l e = capped_small n (let h = ltb-true n m e in omega (arith, h, l))

kept_below : (n m : ℕ) → m ≤ 999999999 → nat_lt n m ≡ true → capped (suc n) - 1 ≡ n
kept_below n m l e =
    let h = ltb-true n m e in
    let c = capped_small (suc n) (omega (arith, h, l)) in omega (arith, c)

-- whether a number lies in its field is seen of the number that is read
pub field_capped : (z : ℤ) (m : ℕ) → m ≤ 999999999 → field_in (capped_z z) m ≡ field_in z m
unfolding field_in
field_capped (pos n) m l =
    if_same (nat_lt (capped n) m) (nat_lt n m) (Some (capped n)) (Some n) None (below_capped n m l)
    (λ e. ap (λ (x : ℕ). Some x) (kept n m l e))
field_capped (negsuc n) m l = refl

signed_capped : (half : ℕ) (z : ℤ) → half ≤ 999999999 → signed_in half (capped_z z) ≡ signed_in half z
unfolding signed_in
signed_capped half (pos n) l =
    if_same (nat_lt (capped n) half) (nat_lt n half) (Some (pos (capped n))) (Some (pos n)) None
    (below_capped n half l) (λ e. ap (λ (x : ℕ). Some (pos x)) (kept n half l e))
signed_capped half (negsuc n) l =
    if_same (nat_lt (capped (suc n) - 1) half) (nat_lt n half) (Some (negsuc (capped (suc n) - 1)))
    (Some (negsuc n)) None
    (less_one n half l) (λ e. ap (λ (x : ℕ). Some (negsuc x)) (kept_below n half l e))

unsigned_capped : (m : ℕ) (z : ℤ) → m ≤ 999999999 → unsigned_in m (capped_z z) ≡ unsigned_in m z
unfolding unsigned_in
unsigned_capped m (pos n) l =
    if_same (nat_lt (capped n) m) (nat_lt n m) (Some (pos (capped n))) (Some (pos n)) None
    (below_capped n m l) (λ e. ap (λ (x : ℕ). Some (pos x)) (kept n m l e))
unsigned_capped m (negsuc n) l = refl

-- ---- instructions

number_capped : (f : Form) (n : Numbers) → number_of f (capped_numbers f n).number ≡ number_of f n.number
unfolding number_of
number_capped General n = refl
number_capped Immediate n = refl
number_capped Constant n = refl
number_capped Load n = field_capped n.number 32 (omega arith)
number_capped Store n = field_capped n.number 32 (omega arith)
number_capped Branch n = field_capped n.number 8 (omega arith)

constant_capped : (op : Op) (z : ℤ) → constant_of op (capped_z z) ≡ constant_of op z
unfolding constant_of
constant_capped Gens z = signed_capped 32768 z (omega arith)
constant_capped op z = unsigned_capped 65536 z (omega arith)

offset_capped : (g : Option Goal) → offset_of (capped_goal g) ≡ offset_of g
offset_capped None = refl
offset_capped (Some (Label k)) = refl
offset_capped (Some (Offset n)) = signed_capped most_chunks n (omega arith)

imm_capped : (f : Form) (s : SpelledInst) → form_of s.op ≡ f
    → immediate_of f (capped_inst s) ≡ immediate_of f s
unfolding immediate_of
imm_capped General s e = refl
imm_capped Immediate s e = ap (λ (g : Form). signed_in 256 (capped_numbers g s.numbers).imm) e
    ∙ signed_capped 256 s.numbers.imm (omega arith)
imm_capped Load s e = ap (λ (g : Form). signed_in 256 (capped_numbers g s.numbers).imm) e
    ∙ signed_capped 256 s.numbers.imm (omega arith)
imm_capped Store s e = ap (λ (g : Form). signed_in 256 (capped_numbers g s.numbers).imm) e
    ∙ signed_capped 256 s.numbers.imm (omega arith)
imm_capped Constant s e = ap (λ (g : Form). constant_of s.op (capped_numbers g s.numbers).imm) e
    ∙ constant_capped s.op s.numbers.imm
imm_capped Branch s e = ap (λ (g : Form). offset_of (capped_numbers g s.numbers).goal) e
    ∙ offset_capped s.numbers.goal

spot_capped : (t : SpelledTarget) → spot_of (capped_target t) ≡ spot_of t
unfolding spot_of
spot_capped (spelled.Write n) = let e = field_capped n 32 (omega arith) in rw e refl
spot_capped (spelled.Left n) = let e = field_capped n 128 (omega arith) in rw e refl
spot_capped (spelled.Right n) = let e = field_capped n 128 (omega arith) in rw e refl
spot_capped (spelled.Pred n) = let e = field_capped n 128 (omega arith) in rw e refl

maybe_capped : (t : Option SpelledTarget) → maybe_spot (capped_maybe t) ≡ maybe_spot t
unfolding maybe_spot
maybe_capped None = refl
maybe_capped (Some t) = let e = spot_capped t in rw e refl

-- the instruction of a line is that of the line as it is read
pub inst_capped : (s : SpelledInst) → inst_of (capped_inst s) ≡ inst_of s
unfolding inst_of
inst_capped s =
    let a = number_capped (form_of s.op) s.numbers in
    let b = imm_capped (form_of s.op) s refl in
    let c = maybe_capped s.targets.first in
    let d = maybe_capped s.targets.second in
    rw (a, b, c, d) refl

-- and so is the read
pub read_capped : (s : SpelledRead) → read_of (capped_read s) ≡ read_of s
unfolding read_of
read_capped s =
    let a = field_capped s.register 128 (omega arith) in
    let b = spot_capped s.first in
    let c = maybe_capped s.second in
    rw (a, b, c) refl
