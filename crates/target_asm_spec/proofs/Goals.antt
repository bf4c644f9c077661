-- Where branches go, before it is known where blocks begin and after.
use Rattle.std.proofs.Common.{◌≡◌, ℕ, suc, ◌+◌, ◌<◌, ◌≤◌, List, [], ◌∷◌, length, get_or}
use Rattle.std.proofs.Common.{refl, ap, ◌∙◌, arith, Bool, true, false, cond, Option}
use Rattle.std.proofs.Common.{Some, None}
use Rattle.std.specs.Prelude.{ℤ, pos, negsuc, ◌+ℤ◌, ◌-ℤ◌, ◌==◌, nat_lt, Ok}
use Rattle.std.proofs.Math.IntN.{+ℤ-neg_ℤ_cancel, +ℤ_comm}
use Rattle.std.proofs.lemmas.Bool.{lt-ltb, eqb-true}
use Rattle.std.proofs.lemmas.Option.{same_Some}
use Rattle.trips_isa.specs.declared.op.Op.{Op}
use Rattle.trips_isa.specs.declared.op.Op.TheVariants.{Bro, Callo}
use Rattle.trips_isa.specs.declared.form.Form.{Form}
use Rattle.trips_isa.specs.declared.form.Form.TheVariants.{General, Immediate, Load, Store, Branch}
use Rattle.trips_isa.specs.declared.form.Form.TheVariants.{Constant}
use Rattle.trips_isa.specs.declared.block.Inst.{Inst}
use Rattle.trips_isa.specs.declared.block.Block.{Block}
use Rattle.trips_isa.specs.Forms.{form_of}
use Rattle.trips_isa.specs.Fits.{FitsForm, FitsOffset, FitsSigned}
use Rattle.trips_isa.specs.Images.{chunks, starting_from}
use Rattle.trips_isa.specs.Limits.{most_chunks, offset_half}
use Rattle.target_asm_spec.specs.Text.{goal_of}
use Rattle.target_asm_spec.specs.inside.Chunks.{goal_in, start_rows}
use Rattle.target_asm_spec.proofs.Starts.{goals_agree}
use Rattle.target_asm_spec.specs.inside.Instructions.{jumps}
use Rattle.target_asm_spec.specs.inside.Blocks.{to_block, aimed_at, aimed}
use Rattle.target_asm_spec.specs.inside.Whole.{chunks_from, begins_of, unknown}
use Rattle.target_asm_spec.proofs.Operations.{SmallGoal, goal_if, spelled_numbers}
use Rattle.target_asm_spec.proofs.Instructions.{signed_judged, raw_jump, raw_imm}
use Rattle.target_asm_spec.proofs.Slots.{Aims}

-- the block that begins at a chunk, of those from number k on
pub record Found (bs : List Block) (k here chunk found : ℕ) : Type 0 where
  pub at : ℕ
  pub is : found ≡ k + at
  pub within : at < length bs
  pub begins : get_or (chunks_from here bs) at 0 ≡ chunk

found_next : (b : Block) (bs : List Block) (k here chunk found : ℕ) (t : Bool) → (here == chunk) ≡ t
    → cond t (Some k) (starting_from bs (suc k) (here + chunks b) chunk) ≡ Some found
    → (starting_from bs (suc k) (here + chunks b) chunk ≡ Some found
    → Found bs (suc k) (here + chunks b) chunk found)
    → Found (b ∷ bs) k here chunk found
found_next b bs k here chunk found true t e r =
    let same : k ≡ found = same_Some k found e in
    record {
      at = 0;
      is = omega (arith, same);
      within = omega arith;
      begins = eqb-true here chunk t;
    }
found_next b bs k here chunk found false t e r =
    let f = r e in
    record {
      at = suc f.at;
      is = omega (arith, f.is);
      within = omega (arith, f.within);
      begins = f.begins;
    }

pub found_from : (bs : List Block) (k here chunk found : ℕ)
    → starting_from bs k here chunk ≡ Some found
    → Found bs k here chunk found
found_from [] k here chunk found e = absurd cc
found_from (b ∷ bs) k here chunk found e =
    found_next b bs k here chunk found (here == chunk) refl e
    (found_from bs (suc k) (here + chunks b) chunk found)

-- the block of a goal begins where the branch goes
pub found_goal : (all : List Block) (z : ℤ) (k : ℕ) → goal_of all z ≡ Some k
    → (k < length all) × (pos (get_or (chunks_from 0 all) k 0) ≡ z)
found_goal all (pos n) k e =
    let r = found_from all 0 0 n k e in
    let at : k ≡ r.at = omega (arith, r.is) in (
      omega (arith, r.within, at),
      ap (λ (m : ℕ). pos (get_or (chunks_from 0 all) m 0)) at
          ∙ ap pos r.begins,
    )
found_goal all (negsuc n) k e = absurd cc

-- each block has an entry in the list of chunks
pub length-chunks_from : (here : ℕ) (bs : List Block) → length (chunks_from here bs) ≡ length bs
length-chunks_from here [] = refl
length-chunks_from here (b ∷ bs) = ap suc (length-chunks_from (here + chunks b) bs)

pub goals_small : (all : List Block) → length all ≤ most_chunks → (z : ℤ) → SmallGoal (goal_of all z)
goals_small all l z = by (goal_of all z) refl
  where
    by : (g : Option ℕ) → goal_of all z ≡ g → SmallGoal g
    by None e = tt
    by (Some k) e = let f = found_goal all z k e in omega (arith, f.0, l)

-- ---- before it is known

-- the offset of the line
unfoldable pub raw_at : List Block → ℕ → Inst → ℤ
raw_at all here i = raw_imm (form_of i.op) i.op (goal_of all (pos here +ℤ i.imm)) i.imm

-- where it is not known where blocks begin, each branch is given the offset of its line
pub aims_before : (all : List Block) → length all ≤ most_chunks → (here : ℕ)
    → Aims unknown (goal_of all) here (raw_at all here)
unfolding aimed raw_at
aims_before all l here = record { small = goals_small all l; aimed_at = λ line i f. refl }

-- ---- after

back : (here : ℕ) (z y : ℤ) → y ≡ pos here +ℤ z → y -ℤ pos here ≡ z
back here z y e =
    ap (λ (x : ℤ). x -ℤ pos here) (e ∙ +ℤ_comm (pos here) z) ∙ +ℤ-neg_ℤ_cancel z (pos here)

-- a branch to a block by its number
to_known : (all : List Block) (here line k : ℕ) (z : ℤ) → FitsSigned offset_half z
    → goal_of all (pos here +ℤ z) ≡ Some k
    → to_block (chunks_from 0 all) here line (pos k) ≡ Ok z
to_known all here line k z f e =
    let g = found_goal all (pos here +ℤ z) k e in
    let l : nat_lt k (length (chunks_from 0 all)) ≡ true =
    ap (nat_lt k) (length-chunks_from 0 all) ∙ lt-ltb k (length all) g.0 in
    let d : (pos (get_or (chunks_from 0 all) k 0) -ℤ pos here)
    ≡ z = back here z (pos (get_or (chunks_from 0 all) k 0)) g.1 in
    rw (l, d, signed_judged offset_half z f) refl

jump_known : (all : List Block) (here line : ℕ) (z : ℤ) → FitsSigned offset_half z → (g : Option ℕ)
    → goal_of all (pos here +ℤ z) ≡ g
    → aimed_at (begins_of all) here line (goal_if true g z) (raw_jump true g z) ≡ Ok z
unfolding aimed_at raw_jump
jump_known all here line z f (Some k) e = to_known all here line k z f e
jump_known all here line z f None e =
    let n : goal_in (start_rows 0 all) (pos here +ℤ z) ≡ None = goals_agree all (pos here +ℤ z) ∙ e in
    rw n refl

no_jump : (all : List Block) (here line : ℕ) (z : ℤ) (g : Option ℕ)
    → aimed_at (begins_of all) here line (goal_if false g z) (raw_jump false g z) ≡ Ok z
unfolding aimed_at raw_jump
no_jump all here line z g = refl

branch_known : (all : List Block) (here line : ℕ) (op : Op) (z : ℤ) → FitsOffset op z
    → aimed_at (begins_of all) here line (goal_if (jumps op) (goal_of all (pos here +ℤ z)) z)
    (raw_jump (jumps op) (goal_of all (pos here +ℤ z)) z) ≡ Ok z
branch_known all here line Bro z f = jump_known all here line z f (goal_of all (pos here +ℤ z)) refl
branch_known all here line Callo z f = jump_known all here line z f
    (goal_of all (pos here +ℤ z)) refl
branch_known all here line op z f = no_jump all here line z (goal_of all (pos here +ℤ z))

inst_known : (all : List Block) (here line : ℕ) (form : Form) (i : Inst) → FitsForm form i
    → aimed_at (begins_of all) here line (spelled_numbers form i
    (goal_of all (pos here +ℤ i.imm))).goal
    (raw_imm form i.op (goal_of all (pos here +ℤ i.imm)) i.imm) ≡ Ok i.imm
unfolding aimed_at spelled_numbers raw_imm
inst_known all here line General i f = refl
inst_known all here line Immediate i f = refl
inst_known all here line Load i f = refl
inst_known all here line Store i f = refl
inst_known all here line Constant i f = refl
inst_known all here line Branch i f = branch_known all here line i.op i.imm f.1

-- the offset that an instruction has itself
abbrev pub own_imm : ℕ → Inst → ℤ
own_imm here i = i.imm

-- where it is known where all blocks begin, each branch is given its own offset
pub aims_after : (all : List Block) → length all ≤ most_chunks → (here : ℕ)
    → Aims (begins_of all) (goal_of all) here (own_imm here)
unfolding aimed
aims_after all l here = record {
  small = goals_small all l;
  aimed_at = λ line i f. inst_known all here line (form_of i.op) i f;
}
