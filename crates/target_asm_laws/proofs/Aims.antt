-- Where a branch goes that is read, when it is known where blocks begin.
use Rattle.std.proofs.Common.{◌≡◌, ℕ, ◌<◌, ◌≤◌, ◌∷◌, length, get_or, refl, sym, ap}
use Rattle.std.proofs.Common.{subst, ◌∙◌, arith, Option, Some, None, Bool, true, false}
use Rattle.std.specs.Prelude.{ℤ, pos, negsuc, ◌+ℤ◌, ◌-ℤ◌, nat_lt, is_some, Ok, Err}
use Rattle.std.specs.Prelude.{if◌then◌else◌}
use Rattle.std.specs.Fmt.{signed_decimal}
use Rattle.std.proofs.Math.IntN.{+ℤ_comm, -ℤ-+ℤ_cancel}
use Rattle.std.proofs.lemmas.Bool.{ltb-true}
use Rattle.trips_isa.specs.declared.op.Op.{Op}
use Rattle.trips_isa.specs.declared.op.Op.TheVariants.{Bro, Callo}
use Rattle.trips_isa.specs.Fits.{FitsSigned, FitsOffset}
use Rattle.trips_isa.specs.Limits.{most_chunks, offset_half}
use Rattle.target_asm_spec.specs.Fields.{branch_text}
use Rattle.target_asm_spec.specs.inside.Chunks.{goal_in}
use Rattle.target_asm_spec.specs.declared.fault.AsmFault.TheVariants as fault
use Rattle.target_asm_spec.specs.declared.spelled.Goal.{Goal}
use Rattle.target_asm_spec.specs.declared.spelled.Goal.TheVariants.{Label, Offset}
use Rattle.target_asm_spec.specs.Judging.{signed_in}
use Rattle.target_asm_spec.specs.inside.Instructions.{jumps}
use Rattle.target_asm_spec.specs.inside.Blocks.{or_fault, Begins, to_block, aimed_at, aimed}
use Rattle.target_asm_spec.proofs.Operations.{signed_small}
use Rattle.target_asm_laws.proofs.Binds.{Holds, gives, or_holds, fork}
use Rattle.target_asm_laws.proofs.Operations.{goal_decimals, SmallAim, HasGoal}
use Rattle.target_asm_laws.proofs.Judging.{IsSigned, signed_is, OffsetIs}

-- it is known where blocks begin: the table tells each of them
pub record Told (b : Begins) : Type 0 where
  pub known : b.known ≡ true
  pub few : length b.chunks ≤ most_chunks
  pub tells : (k : ℕ) → k < length b.chunks
      → goal_in b.starts (pos (get_or b.chunks k 0)) ≡ Some k

-- a label of a block that begins where the branch goes
pub record IsLabel (b : Begins) (here : ℕ) (k z : ℤ) : Type 0 where
  pub at : ℕ
  pub is : k ≡ pos at
  pub below : at < length b.chunks
  pub fits : FitsSigned offset_half z
  pub goal : goal_in b.starts (pos here +ℤ z) ≡ Some at

-- where a branch goes that is read: by a label to its block, by an offset to where none begins, else nowhere
abbrev pub AimIs : Begins → ℕ → Option Goal → ℤ → ℤ → Type 0
AimIs b here None imm z = z ≡ imm
AimIs b here (Some (Label k)) imm z = IsLabel b here k z
AimIs b here (Some (Offset n)) imm z = (z ≡ imm) × (goal_in b.starts (pos here +ℤ n) ≡ None)

there : (here : ℕ) (c z : ℤ) → z ≡ c -ℤ pos here → pos here +ℤ z ≡ c
there here c z e =
    ap (λ (x : ℤ). pos here +ℤ x) e ∙ +ℤ_comm (pos here) (c -ℤ pos here)
    ∙ -ℤ-+ℤ_cancel c (pos here)

label_is : (b : Begins) (here line : ℕ) (k : ℤ) → Told b
    → Holds (IsLabel b here k) (to_block b.chunks here line k)
label_is b here line (negsuc k) t = tt
label_is b here line (pos k) t =
    let c : ℤ = pos (get_or b.chunks k 0) in
    let d : ℤ = c -ℤ pos here in
    fork (IsLabel b here (pos k)) (nat_lt k (length b.chunks))
    (or_fault (fault.Label line) (signed_in offset_half d)) (Err (fault.Label line)) (λ e.
    let l : k < length b.chunks = ltb-true k (length b.chunks) e in
    or_holds (IsLabel b here (pos k)) (fault.Label line) (signed_in offset_half d)
    (gives (IsSigned offset_half d) (IsLabel b here (pos k)) (signed_in offset_half d) (signed_is offset_half d)
    (λ z h. record {
      at = k;
      is = refl;
      below = l;
      fits = subst (FitsSigned offset_half) (sym h.0) h.1;
      goal = ap (goal_in b.starts) (there here c z h.0) ∙ t.tells k l;
    }))) (λ e. tt)

none_is : {A : Type 0} (o : Option A) → is_some o ≡ false → o ≡ None
none_is None e = refl
none_is (Some x) e = absurd cc

aimed_at_is : (b : Begins) (here line : ℕ) (goal : Option Goal) (imm : ℤ) → Told b
    → Holds (AimIs b here goal imm) (aimed_at b here line goal imm)
unfolding aimed_at
aimed_at_is b here line None imm t = refl
aimed_at_is b here line (Some (Label k)) imm t = label_is b here line k t
aimed_at_is b here line (Some (Offset n)) imm t =
    fork (AimIs b here (Some (Offset n)) imm) (is_some (goal_in b.starts (pos here +ℤ n)))
    (Err (fault.Range line)) (Ok imm) (λ e. tt)
    (λ e. (refl, none_is (goal_in b.starts (pos here +ℤ n)) e))

-- what is aimed at without a fault is where the branch goes
pub aimed_is : (b : Begins) (here line : ℕ) (goal : Option Goal) (imm : ℤ) → Told b
    → Holds (AimIs b here goal imm) (aimed b here line goal imm)
unfolding aimed
aimed_is b here line goal imm t = by b.known t.known
  where
    by : (k : Bool) → k ≡ true
        → Holds (AimIs b here goal imm) (if k then aimed_at b here line goal imm else Ok imm)
    by true e = aimed_at_is b here line goal imm t
    by false e = absurd cc

-- where no goal stands the number stays
pub kept : (b : Begins) (here : ℕ) (goal : Option Goal) (imm z : ℤ) → goal ≡ None
    → AimIs b here goal imm z → z ≡ imm
kept b here goal imm z e a = subst (λ (g : Option Goal). AimIs b here g imm z) e a

no_offset : (b : Begins) (here : ℕ) (goal : Option Goal) (imm z : ℤ) → goal ≡ None
    → OffsetIs goal imm → AimIs b here goal imm z → z ≡ pos 0
no_offset b here goal imm z e o a =
    kept b here goal imm z e a ∙ subst (λ (g : Option Goal). OffsetIs g imm) e o

jump_fits : (b : Begins) (here : ℕ) (goal : Option Goal) (imm z : ℤ) → HasGoal true goal
    → OffsetIs goal imm → AimIs b here goal imm z → FitsSigned offset_half z
jump_fits b here None imm z h o a = absurd h
jump_fits b here (Some (Label k)) imm z h o a = a.fits
jump_fits b here (Some (Offset n)) imm z h o a = subst (FitsSigned offset_half) (sym (a.0 ∙ o.0)) o.1

-- the offset of a branch lies in its field
pub offset_fits : (b : Begins) (here : ℕ) (op : Op) (goal : Option Goal) (imm z : ℤ)
    → HasGoal (jumps op) goal → OffsetIs goal imm → AimIs b here goal imm z → FitsOffset op z
offset_fits b here Bro goal imm z h o a = jump_fits b here goal imm z h o a
offset_fits b here Callo goal imm z h o a = jump_fits b here goal imm z h o a
offset_fits b here op goal imm z h o a = no_offset b here goal imm z h o a

jump_words : (b : Begins) (here : ℕ) (goal : Option Goal) (imm z : ℤ) → HasGoal true goal
    → OffsetIs goal imm → AimIs b here goal imm z
    → goal_decimals goal ≡ branch_text Bro (goal_in b.starts (pos here +ℤ z)) z
jump_words b here None imm z h o a = absurd h
jump_words b here (Some (Label k)) imm z h o a =
    ap (λ (x : ℤ). 32 ∷ 64 ∷ signed_decimal x) a.is
    ∙ ap (λ (g : Option ℕ). branch_text Bro g z) (sym a.goal)
jump_words b here (Some (Offset n)) imm z h o a =
    let e : z ≡ n = a.0 ∙ o.0 in
    ap (λ (x : ℤ). 32 ∷ 33 ∷ signed_decimal x) (sym e)
    ∙ ap (λ (g : Option ℕ). branch_text Bro g z)
    (sym (ap (λ (x : ℤ). goal_in b.starts (pos here +ℤ x)) e ∙ a.1))

-- it is spelled as the block that begins there is named
pub offset_words : (b : Begins) (here : ℕ) (op : Op) (goal : Option Goal) (imm z : ℤ)
    → HasGoal (jumps op) goal → OffsetIs goal imm → AimIs b here goal imm z
    → goal_decimals goal ≡ branch_text op (goal_in b.starts (pos here +ℤ z)) z
offset_words b here Bro goal imm z h o a = jump_words b here goal imm z h o a
offset_words b here Callo goal imm z h o a = jump_words b here goal imm z h o a
offset_words b here op goal imm z h o a = ap goal_decimals h

-- the number by which a branch's goal is named is small
pub aim_small : (b : Begins) (here : ℕ) (goal : Option Goal) (imm z : ℤ) → Told b
    → OffsetIs goal imm → AimIs b here goal imm z → SmallAim goal
aim_small b here None imm z t o a = tt
aim_small b here (Some (Label k)) imm z t o a =
    subst (λ (x : ℤ). SmallAim (Some (Label x))) (sym a.is) (omega (arith, a.below, t.few))
aim_small b here (Some (Offset n)) imm z t o a = signed_small offset_half n (omega arith) o.1
