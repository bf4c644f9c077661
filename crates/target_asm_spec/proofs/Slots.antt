-- The lines of a block's instructions are read one after the other.
use Rattle.std.proofs.Common.{◌≡◌, ℕ, zero, suc, ◌+◌, ◌-◌, ◌/◌, ◌<◌, ◌≤◌, max, List, [], ◌∷◌, ◌++◌}
use Rattle.std.proofs.Common.{length, replicate}
use Rattle.std.proofs.Common.{refl, sym, ap, ◌∙◌, arith, append_assoc, true, false}
use Rattle.std.proofs.Common.{Option, Some, None}
use Rattle.std.specs.Prelude.{ℤ, pos, ◌+ℤ◌, nat_le, codes, Result, Ok}
use Rattle.std.proofs.lemmas.Bool.{le-leb}
use Rattle.std.proofs.lemmas.List.{append-nil, replicate_more}
use Rattle.trips_isa.specs.declared.block.Inst.{Inst}
use Rattle.trips_isa.specs.Forms.{form_of}
use Rattle.trips_isa.specs.Fits.{FitsInst, FitsSlot}
use Rattle.trips_isa.specs.Images.{body_chunks}
use Rattle.trips_isa.specs.Limits.{most_chunks}
use Rattle.isa_table.specs.Spots.{indexed}
use Rattle.target_asm_spec.specs.Numbers.{numbered}
use Rattle.target_asm_spec.specs.Text.{inst_line, slot_text}
use Rattle.target_asm_spec.specs.declared.fault.AsmFault.{AsmFault}
use Rattle.target_asm_spec.specs.Reading.{field_in}
use Rattle.target_asm_spec.specs.inside.Reading.{after_in}
use Rattle.target_asm_spec.specs.inside.Instructions.{inst_in}
use Rattle.target_asm_spec.specs.Judging.{inst_of}
use Rattle.target_asm_spec.specs.inside.Blocks.{begins, in_turn, Taken, Begins, aimed}
use Rattle.target_asm_spec.specs.inside.Blocks.{one_inst, gap}
use Rattle.target_asm_spec.specs.inside.Blocks.{slots_in}
use Rattle.target_asm_spec.proofs.Numbers.{field_again}
use Rattle.target_asm_spec.proofs.Operations.{SmallGoal, spelled_numbers}
use Rattle.target_asm_spec.proofs.Instructions.{spelled_inst, inst_again, inst_judged, raw_inst}
use Rattle.target_asm_spec.proofs.Instructions.{raw_imm}
use Rattle.target_asm_spec.proofs.Each.{Each}

-- the goals of a text, and the offsets that are given to the instructions of a block that begins at
-- `here`
pub record Aims (b : Begins) (goal : ℤ → Option ℕ) (here : ℕ) (h : Inst → ℤ) : Type 0 where
  pub small : (z : ℤ) → SmallGoal (goal z)
  pub aimed_at : (line : ℕ) (i : Inst) → FitsInst i
      → aimed b here line (spelled_numbers (form_of i.op) i (goal (pos here +ℤ i.imm))).goal
      (raw_imm (form_of i.op) i.op (goal (pos here +ℤ i.imm)) i.imm) ≡ Ok (h i)

-- an instruction with the offset that is given to it
abbrev pub with_imm : (Inst → ℤ) → Inst → Inst
with_imm h i = record i { imm = h i }

-- slots whose instructions have the offsets that h gives them
abbrev pub slots_with : (Inst → ℤ) → List (Option Inst) → List (Option Inst)
slots_with h [] = []
slots_with h (None ∷ ss) = None ∷ slots_with h ss
slots_with h (Some i ∷ ss) = Some (with_imm h i) ∷ slots_with h ss

-- how many slots hold an instruction
abbrev pub used : List (Option Inst) → ℕ
used [] = 0
used (None ∷ ss) = used ss
used (Some i ∷ ss) = suc (used ss)

in_slot : (next j : ℕ) (i : Inst) (g : Option ℕ) → next ≤ j
    → in_turn next (spelled_inst j i g).slot ≡ true
unfolding spelled_inst
in_slot next j i g n = le-leb next j n

slot_is : (j : ℕ) (i : Inst) (g : Option ℕ) → j < 128
    → field_in (spelled_inst j i g).slot 128 ≡ Some j
unfolding spelled_inst
slot_is j i g l = field_again j 128 l

is_aimed : (b : Begins) (goal : ℤ → Option ℕ) (here : ℕ) (h : Inst → ℤ) (j line : ℕ) (i : Inst)
    → Aims b goal here h
    → FitsInst i
    → aimed b here line (spelled_inst j i (goal (pos here +ℤ i.imm))).numbers.goal
    (raw_inst i (goal (pos here +ℤ i.imm))).imm ≡ Ok (h i)
unfolding spelled_inst raw_inst
is_aimed b goal here h j line i a f = a.aimed_at line i f

is_with : (i : Inst) (g : Option ℕ) (imm : ℤ)
    → ◌≡◌ {A = Inst} (record (raw_inst i g) { imm = imm }) (record i { imm = imm })
unfolding raw_inst
is_with i g imm = refl

-- one line
one_again : (b : Begins) (goal : ℤ → Option ℕ) (here : ℕ) (h : Inst → ℤ) (next j line : ℕ)
    (i : Inst) (rest : List ℕ)
    → Aims b goal here h → next ≤ j → j < 128 → FitsInst i → here + 2 + j / 32 ≤ most_chunks
    → one_inst b here next line (inst_line j i (goal (pos here +ℤ i.imm)) ++ rest)
    ≡ Ok (j, with_imm h i, rest)
unfolding one_inst
one_again b goal here h next j line i rest a n l f m =
    let g : Option ℕ = goal (pos here +ℤ i.imm) in
    let read : inst_in (inst_line j i g ++ rest) ≡ Some (spelled_inst j i g, rest) =
    inst_again j i g rest (omega (arith, l)) f (a.small (pos here +ℤ i.imm)) in
    let judged : inst_of (spelled_inst j i g) ≡ Some (raw_inst i g) = inst_judged j i g f in
    let room : nat_le (here + 2 + j / 32) most_chunks ≡ true = le-leb (here + 2 + j / 32) most_chunks m in
    let aim = is_aimed b goal here h j line i a f in
    rw (read, in_slot next j i g n, slot_is j i g l, judged, room, aim)
    (let fill : Inst → Result (ℕ × Inst × List ℕ) AsmFault = λ x. Ok (j, x, rest) in ap fill
    (is_with i g (h i)))

inst_begins : (j : ℕ) (i : Inst) (g : Option ℕ) (rest : List ℕ) → begins (codes "N[") (inst_line j i g ++ rest) ≡ true
unfolding inst_line indexed after_in
inst_begins j i g rest = refl

-- no slot more
slots_end : (next j line : ℕ) (rest : List ℕ) → j + 0 ≡ 128
    → ◌≡◌ {A = Taken (List (Option Inst))} (Ok (gap next 128, line, rest))
    (Ok (gap next j ++ [], line + 0, rest))
slots_end next j line rest e =
    let k : 128 ≡ j = omega (arith, e) in
    let l : line ≡ line + 0 = omega arith in
    let g : gap next 128 ≡ gap next j ++ [] = ap (λ (n : ℕ). gap next n) k ∙ sym (append-nil (gap next j)) in
    let f : List (Option Inst) → Taken (List (Option Inst)) = λ x. Ok (x, line, rest) in
    let f2 : ℕ → Taken (List (Option Inst)) = λ n. Ok (gap next j ++ [], n, rest) in
    ap f g ∙ ap f2 l

-- an empty slot lengthens the gap
gap_more : (next j : ℕ) (ss : List (Option Inst)) → next ≤ j
    → gap next (suc j) ++ ss ≡ gap next j ++ None ∷ ss
gap_more next j ss n =
    let e : suc j - next ≡ j - next + 1 = omega (arith, n) in
    let one : ◌≡◌ {A = List (Option Inst)} (replicate (j - next) None ++ None ∷ []) (replicate (j - next + 1) None) =
    replicate_more (j - next) None in
    ap (λ (m : ℕ). replicate m None ++ ss) e ∙ ap (λ (t : List (Option Inst)). t ++ ss) (sym one)
    ∙ append_assoc (gap next j) (None ∷ []) ss

no_gap : (j : ℕ) (ss : List (Option Inst)) → gap (j + 1) (suc j) ++ ss ≡ ss
no_gap j ss = let e : suc j - (j + 1) ≡ 0 = omega arith in ap (λ (m : ℕ). replicate m None ++ ss) e

-- the slots from j on, where those from `next` to j are empty
pub slots_again : (b : Begins) (goal : ℤ → Option ℕ) (here : ℕ) (h : Inst → ℤ) → Aims b goal here h
    → (turns next j line : ℕ) (ss : List (Option Inst)) (rest : List ℕ) → Each FitsSlot ss
    → next ≤ j
    → j + length ss ≡ 128 → length ss < turns → here + 1 + body_chunks j ss ≤ most_chunks
    → begins (codes "N[") rest ≡ false
    → slots_in b here turns next line (numbered (slot_text goal here) j ss ++ rest)
    ≡ Ok (gap next j ++ slots_with h ss, line + used ss, rest)
unfolding slots_in
slots_again b goal here h a zero next j line ss rest f n e l m r = absurd (omega (arith, l))
slots_again b goal here h a (suc t) next j line [] rest f n e l m r =
    rw r (slots_end next j line rest e)
slots_again b goal here h a (suc t) next j line (None ∷ ss) rest f n e l m r =
    let lower : body_chunks (suc j) ss ≤ max 1 (body_chunks (suc j) ss) = omega arith in
    let m2 : here + 1 + max 1 (body_chunks (suc j) ss) ≤ most_chunks = m in
    let fill : List (Option Inst) → Taken (List (Option Inst)) = λ x. Ok (x, line + used ss, rest) in
    slots_again b goal here h a (suc t) next (suc j) line ss rest f.1 (omega (arith, n)) (omega (
      arith,
      e,
    )) (omega (arith, l))
    (omega (arith, m2, lower)) r
    ∙ ap fill (gap_more next j (slots_with h ss) n)
slots_again b goal here h a (suc t) next j line (Some i ∷ ss) rest f n e l m r =
    let g : Option ℕ = goal (pos here +ℤ i.imm) in
    let tail : List ℕ = numbered (slot_text goal here) (suc j) ss ++ rest in
    let split : (inst_line j i g ++ numbered (slot_text goal here) (suc j) ss) ++ rest ≡ inst_line j i g ++ tail =
    append_assoc (inst_line j i g) (numbered (slot_text goal here) (suc j) ss) rest in
    let begun : begins (codes "N[") (inst_line j i g ++ tail) ≡ true = inst_begins j i g tail in
    let place : j < 128 = omega (arith, e) in
    let m2 : here + 1 + max (j / 32 + 1) (body_chunks (suc j) ss) ≤ most_chunks = m in
    let within : here + 2 + j / 32 ≤ most_chunks = omega (arith, m2) in
    let later : here + 1 + body_chunks (suc j) ss ≤ most_chunks = omega (arith, m2) in
    let one : one_inst b here next line (inst_line j i g ++ tail) ≡ Ok (j, with_imm h i, tail) =
    one_again b goal here h next j line i tail a n place f.0 within in
    let more : slots_in b here t (j + 1) (line + 1) tail
    ≡ Ok (gap (j + 1) (suc j) ++ slots_with h ss, line + 1 + used ss, rest) =
    slots_again b goal here h a t (j + 1) (suc j) (line + 1) ss rest f.1 (omega arith)
    (omega (arith, e)) (omega (
      arith,
      l,
    )) later r in
    let lines : line + 1 + used ss ≡ line + suc (used ss) = omega arith in
    rw (split, begun, one, more, no_gap j (slots_with h ss), lines) refl
