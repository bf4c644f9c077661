-- Where branches go, as both readings tell it.
use Rattle.std.proofs.Common.{◌≡◌, ℕ, suc, ◌+◌, ◌-◌, ◌<◌, ◌≤◌, List, length, get_or, refl, sym, ap, subst}
use Rattle.std.proofs.Common.{◌∙◌, arith, Option, Some, None, Bool, true, false, ◌⊎◌, inl, inr}
use Rattle.std.specs.Prelude.{ℤ, pos, negsuc, ◌+ℤ◌, ◌-ℤ◌, nat_lt, is_some, Ok, Err}
use Rattle.std.specs.Prelude.{if◌then◌else◌}
use Rattle.std.proofs.lemmas.Bool.{cases_lt, lt-ltb, ltb-true}
use Rattle.std.proofs.lemmas.Int.{ints}
use Rattle.trips_isa.specs.declared.op.Op.{Op}
use Rattle.trips_isa.specs.declared.op.Op.TheVariants.{Bro, Callo}
use Rattle.trips_isa.specs.declared.block.Block.{Block}
use Rattle.trips_isa.specs.Forms.{form_of}
use Rattle.trips_isa.specs.Fits.{FitsSigned}
use Rattle.trips_isa.specs.Limits.{most_chunks, offset_half}
use Rattle.target_asm_spec.specs.inside.Chunks.{goal_in, start_rows}
use Rattle.target_asm_spec.specs.declared.fault.AsmFault.TheVariants as fault
use Rattle.target_asm_spec.specs.declared.spelled.Goal.{Goal}
use Rattle.target_asm_spec.specs.declared.spelled.Goal.TheVariants.{Label, Offset}
use Rattle.target_asm_spec.specs.declared.spelled.SpelledInst.{SpelledInst}
use Rattle.target_asm_spec.specs.Judging.{signed_in, inst_of}
use Rattle.target_asm_spec.specs.inside.Blocks.{or_fault, to_block, aimed_at, aimed}
use Rattle.target_asm_spec.specs.inside.Whole.{chunks_from, begins_of, unknown}
use Rattle.target_asm_spec.specs.Lines.{MayHaveGoal}
use Rattle.target_asm_spec.specs.LinePlaces.{GoodGoal}
use Rattle.target_asm_spec.proofs.Goals.{found_goal, length-chunks_from}
use Rattle.target_asm_spec.proofs.Instructions.{signed_judged}
use Rattle.target_asm_spec.proofs.Starts.{goals_agree}
use Rattle.target_asm_laws.proofs.Judging.{IsJudged, judged_is, ImmIs, OffsetIs}
use Rattle.target_asm_laws.proofs.Tables.{told}
use Rattle.target_asm_laws.proofs.Numerals.{capped, capped_small, capped_z}
use Rattle.target_asm_laws.proofs.Insts.{capped_goal}
use Rattle.target_asm_laws.proofs.Capped.{below_capped}
use Rattle.target_asm_laws.proofs.OneLine.{has_goal, goal_kept}
use Rattle.target_asm_laws.proofs.Leads.{Aim}
use Rattle.target_asm_laws.proofs.FaultRegisters.{none_some, clash, found}
use Rattle.target_asm_laws.proofs.SlotLines.{no_block, hits, AimResult, Aims}

-- ---- the first reading does not look

-- a branch may go anywhere
abbrev pub Anywhere : Aim
Anywhere here g = Unit {0}

-- no goal is bad
abbrev pub Nowhere : ℕ → Goal → Type 0
Nowhere here g = ⊥

-- the first reading, which knows of no block where it begins, lets a branch go anywhere
pub first_aims : Aims Anywhere Nowhere unknown
unfolding aimed
first_aims s here at i f j l = tt

-- ---- the second does

-- a goal that is not good, given where the blocks begin
abbrev pub BadAim : List ℕ → ℕ → Goal → Type 0
BadAim begins here g = GoodGoal begins here (Some g) → ⊥

-- each block begins before the last two chunks
abbrev pub Near : List ℕ → Type 0
Near cs = (k : ℕ) → k < length cs → get_or cs k 0 ≤ 524286

near_fits : (c here : ℕ) → c ≤ 524286 → here + 2 ≤ most_chunks → FitsSigned offset_half (pos c -ℤ pos here)
near_fits c here l m = by (cases_lt c here)
  where
    by : (c < here) ⊎ (here ≤ c) → FitsSigned offset_half (pos c -ℤ pos here)
    by (inl h) =
        let z : pos c -ℤ pos here ≡ negsuc (here - c - 1) = omega (arith, ints) in
        let small : here - c - 1 < most_chunks = omega (arith, m) in
        subst (FitsSigned offset_half) (sym z) small
    by (inr h) =
        let z : pos c -ℤ pos here ≡ pos (c - here) = omega (arith, ints) in
        let small : c - here < most_chunks = omega (arith, l) in
        subst (FitsSigned offset_half) (sym z) small

label_aim : (cs : List ℕ) (here at k : ℕ) → Near cs → length cs ≤ 262145 → here + 2 ≤ most_chunks
    → AimResult (GoodGoal cs) (BadAim cs) here at (Some (Label (pos k)))
    (to_block cs here at (pos (capped k)))
label_aim cs here at k near few room = by (nat_lt (capped k) (length cs)) refl
  where
    d : ℤ
    d = pos (get_or cs (capped k) 0) -ℤ pos here

    same : nat_lt (capped k) (length cs) ≡ nat_lt k (length cs)
    same = below_capped k (length cs) (omega (arith, few))

    by : (b : Bool) → nat_lt (capped k) (length cs) ≡ b
        → AimResult (GoodGoal cs) (BadAim cs) here at (Some (Label (pos k)))
        (if b then or_fault (fault.Label at) (signed_in offset_half d) else Err (fault.Label at))
    by true e =
        let fits : FitsSigned offset_half d =
        near_fits (get_or cs (capped k) 0) here
        (near (capped k) (ltb-true (capped k) (length cs) e)) room in
        subst (λ (o : Option ℤ). AimResult (GoodGoal cs) (BadAim cs) here at (Some (Label (pos k)))
        (or_fault (fault.Label at) o)) (sym (signed_judged offset_half d fits))
        (ltb-true k (length cs) (sym same ∙ e))
    by false e = no_block (pos k) refl (λ z. clash (nat_lt k (length cs)) (lt-ltb k (length cs) z)
        (sym same ∙ e))

-- a number that fits an offset is kept as it is
pub signed_kept : (z : ℤ) → FitsSigned offset_half z → capped_z z ≡ z
signed_kept (pos n) f = ap pos (capped_small n (omega (arith, f)))
signed_kept (negsuc n) f =
    let c = capped_small (suc n) (omega (arith, f)) in
    let e : capped (suc n) - 1 ≡ n = omega (arith, c) in ap negsuc e

offset_aim : (first : List Block) (here at : ℕ) (n imm : ℤ) → length first ≤ 262145
    → FitsSigned offset_half n
    → AimResult (GoodGoal (chunks_from 0 first)) (BadAim (chunks_from 0 first)) here at
    (Some (Offset n)) (aimed_at (begins_of first) here at (Some (Offset (capped_z n))) imm)
unfolding aimed_at
offset_aim first here at n imm few f =
    subst (λ (z : ℤ). AimResult G Bad here at (Some (Offset n))
    (if is_some (goal_in starts (pos here +ℤ z)) then Err (fault.Range at) else Ok imm))
    (sym (signed_kept n f)) (by (goal_in starts (pos here +ℤ n)) refl)
  where
    cs : List ℕ
    cs = chunks_from 0 first

    G : Aim
    G = GoodGoal (chunks_from 0 first)

    Bad : ℕ → Goal → Type 0
    Bad = BadAim (chunks_from 0 first)

    starts : List ℕ
    starts = start_rows 0 first

    by : (o : Option ℕ) → goal_in (start_rows 0 first) (pos here +ℤ n) ≡ o
        → AimResult (GoodGoal (chunks_from 0 first)) (BadAim (chunks_from 0 first)) here at
        (Some (Offset n)) (if is_some o then Err (fault.Range at) else Ok imm)
    by (Some k) e = hits n refl (λ good.
        let g = found_goal first (pos here +ℤ n) k (sym (goals_agree first (pos here +ℤ n)) ∙ e) in
        good k (subst (λ (m : ℕ). k < m) (sym (length-chunks_from 0 first)) g.0) (sym g.1))
    by None e = λ k l is.
        none_some (goal_in (start_rows 0 first) (pos here +ℤ n)) k e
        (ap (goal_in (start_rows 0 first)) is
        ∙ (told first (omega (arith, few))).tells k l)

goal_aim : (first : List Block) (here at : ℕ) (g : Option Goal) (imm : ℤ)
    → Near (chunks_from 0 first) → length first ≤ 262145 → here + 2 ≤ most_chunks
    → ((n : ℤ) → g ≡ Some (Offset n) → FitsSigned offset_half n)
    → AimResult (GoodGoal (chunks_from 0 first)) (BadAim (chunks_from 0 first)) here at g
    (aimed_at (begins_of first) here at (capped_goal g) imm)
unfolding aimed_at
goal_aim first here at None imm near few room small = tt
goal_aim first here at (Some (Label (pos k))) imm near few room small =
    label_aim (chunks_from 0 first) here at k near
    (subst (λ (m : ℕ). m ≤ 262145) (sym (length-chunks_from 0 first)) few) room
goal_aim first here at (Some (Label (negsuc k))) imm near few room small =
    no_block (negsuc k) refl (λ z. z)
goal_aim first here at (Some (Offset n)) imm near few room small =
    offset_aim first here at n imm few (small n refl)

-- an offset that is judged fits its field
pub offset_fits : (op : Op) (g : Option Goal) (n z : ℤ) → MayHaveGoal op g → g ≡ Some (Offset n)
    → (s : SpelledInst) → s.numbers.goal ≡ g → ImmIs (form_of op) s z → FitsSigned offset_half n
offset_fits Bro g n z h e s w i = (subst (λ (x : Option Goal). OffsetIs x z) (w ∙ e) i).1
offset_fits Callo g n z h e s w i = (subst (λ (x : Option Goal). OffsetIs x z) (w ∙ e) i).1
offset_fits op g n z h e s w i = absurd (none_some g (Offset n) h e)

-- the second reading lets a branch go where a block of the first reading begins, and a fault of it is a bad
-- goal
pub second_aims : (first : List Block) → Near (chunks_from 0 first) → length first ≤ 262145
    → Aims (GoodGoal (chunks_from 0 first)) (BadAim (chunks_from 0 first)) (begins_of first)
unfolding aimed
second_aims first near few s here at i f j room =
    let judged : IsJudged s i = found (IsJudged s) (inst_of s) i (judged_is s) j in
    subst (λ (g : Option Goal). AimResult (GoodGoal (chunks_from 0 first))
    (BadAim (chunks_from 0 first)) here at s.numbers.goal
    (aimed_at (begins_of first) here at g i.imm))
    (sym (goal_kept (form_of s.op) s.op s.numbers (has_goal s.op s.numbers.goal f.goal)))
    (goal_aim first here at s.numbers.goal i.imm near few room
    (λ n e. offset_fits s.op s.numbers.goal n i.imm f.goal e s refl judged.imm))
