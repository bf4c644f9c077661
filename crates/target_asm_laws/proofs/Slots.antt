-- The lines of a block's instructions that are read are their text.
use Rattle.std.proofs.Common.{◌≡◌, ℕ, zero, suc, ◌+◌, ◌-◌, ◌/◌, ◌<◌, ◌≤◌, max, List, [], ◌∷◌, ◌++◌}
use Rattle.std.proofs.Common.{length, replicate, refl, sym, ap, subst, ◌∙◌, arith, append_assoc}
use Rattle.std.proofs.Common.{true, Option, Some, None}
use Rattle.std.specs.Prelude.{ℤ, nat_le, codes, Ok}
use Rattle.std.proofs.lemmas.Bool.{leb-true}
use Rattle.std.proofs.lemmas.List.{append-nil}
use Rattle.trips_isa.specs.declared.block.Inst.{Inst}
use Rattle.trips_isa.specs.Forms.{form_of}
use Rattle.trips_isa.specs.Fits.{FitsInst, FitsSlot}
use Rattle.trips_isa.specs.Images.{body_chunks}
use Rattle.trips_isa.specs.Limits.{most_chunks}
use Rattle.target_asm_spec.specs.Numbers.{numbered}
use Rattle.target_asm_spec.specs.inside.Chunks.{goal_in}
use Rattle.target_asm_spec.specs.Text.{inst_line, slot_text}
use Rattle.target_asm_spec.specs.declared.fault.AsmFault.TheVariants.{Syntax, Range}
use Rattle.target_asm_spec.specs.declared.spelled.SpelledInst.{SpelledInst}
use Rattle.target_asm_spec.specs.Reading.{field_in}
use Rattle.target_asm_spec.specs.inside.Instructions.{inst_in}
use Rattle.target_asm_spec.specs.Judging.{inst_of}
use Rattle.target_asm_spec.specs.inside.Blocks.{◌>>>◌, or_fault, wants, begins, in_turn, Begins, aimed}
use Rattle.target_asm_spec.specs.inside.Blocks.{one_inst, gap, slots_in}
use Rattle.target_asm_spec.proofs.Each.{Each}
use Rattle.target_asm_spec.proofs.Bodies.{some_body}
use Rattle.target_asm_laws.proofs.Binds.{Holds, chain, or_holds, wanted, fork}
use Rattle.target_asm_laws.proofs.Digits.{InField, field_is}
use Rattle.target_asm_laws.proofs.Instructions.{IsInstLine, inst_is}
use Rattle.target_asm_laws.proofs.Judging.{IsJudged, judged_is}
use Rattle.target_asm_laws.proofs.Aims.{Told, AimIs, aimed_is}
use Rattle.target_asm_laws.proofs.Exact.{IsAimed, aimed_inst, goal_at, line_is, inst_fits}

-- ---- one line

pub record IsSlot (b : Begins) (here next : ℕ) (text : List ℕ)
    (r : ℕ × Inst × List ℕ) : Type 0 where
  pub after : next ≤ r.0
  pub below : r.0 < 128
  pub room : here + 2 + r.0 / 32 ≤ most_chunks
  pub fits : FitsInst r.1
  pub is : text ≡ inst_line r.0 r.1 (goal_at b here r.1.imm) ++ r.2

is_aimed : (b : Begins) (here : ℕ) (text rest : List ℕ) (s : SpelledInst) (i : Inst) (z : ℤ)
    → Told b → IsInstLine text (s, rest) → IsJudged s i → AimIs b here s.numbers.goal i.imm z
    → IsAimed b here (form_of s.op) s i z
is_aimed b here text rest s i z t l j a = record {
  told = t;
  sense = l.sense;
  goal = l.goal;
  targets = l.targets;
  op = j.op;
  same = j.sense;
  number = j.number;
  imm = j.imm;
  first = j.first;
  second = j.second;
  aim = a;
}

slot_is : (b : Begins) (here next slot : ℕ) (text rest : List ℕ) (s : SpelledInst) (i : Inst)
    (z : ℤ) → Told b → IsInstLine text (s, rest) → in_turn next s.slot ≡ true
    → InField s.slot 128 slot → IsJudged s i → nat_le (here + 2 + slot / 32) most_chunks ≡ true
    → AimIs b here s.numbers.goal i.imm z
    → IsSlot b here next text (slot, aimed_inst i z, rest)
slot_is b here next slot text rest s i z t l n f j m a =
    let all = is_aimed b here text rest s i z t l j a in
    record {
      after = leb-true next slot (ap (in_turn next) (sym f.is) ∙ n);
      below = f.below;
      room = leb-true (here + 2 + slot / 32) most_chunks m;
      fits = inst_fits b here s i z all;
      is = line_is b here slot text rest s i z f l all;
    }

one_is : (b : Begins) (here next line : ℕ) (text : List ℕ) → Told b
    → Holds (IsSlot b here next text) (one_inst b here next line text)
unfolding one_inst
one_is b here next line text t =
    let Q = IsSlot b here next text in
    chain (IsInstLine text) Q (or_fault (Syntax line) (inst_in text)) _
    (or_holds (IsInstLine text) (Syntax line) (inst_in text) (inst_is text)) (λ s l.
    chain (λ u. in_turn next s.0.slot ≡ true) Q (wants (in_turn next s.0.slot) (Syntax line)) _
    (wanted (in_turn next s.0.slot) (Syntax line)) (λ u n.
    chain (InField s.0.slot 128) Q (or_fault (Range line) (field_in s.0.slot 128)) _
    (or_holds (InField s.0.slot 128) (Range line) (field_in s.0.slot 128) (field_is s.0.slot 128))
    (λ slot f.
    chain (IsJudged s.0) Q (or_fault (Range line) (inst_of s.0)) _
    (or_holds (IsJudged s.0) (Range line) (inst_of s.0) (judged_is s.0)) (λ i j.
    chain (λ v. nat_le (here + 2 + slot / 32) most_chunks ≡ true) Q
    (wants (nat_le (here + 2 + slot / 32) most_chunks) (Range line)) _
    (wanted (nat_le (here + 2 + slot / 32) most_chunks) (Range line)) (λ v m.
    chain (AimIs b here s.0.numbers.goal i.imm) Q (aimed b here line s.0.numbers.goal i.imm) _
    (aimed_is b here line s.0.numbers.goal i.imm t) (λ z a.
    slot_is b here next slot text s.1 s.0 i z t l n f j m a))))))

-- ---- empty slots

pub gap_text : (f : ℕ → Option Inst → List ℕ) → ((s : ℕ) → f s None ≡ [])
    → (j n : ℕ) (ss : List (Option Inst))
    → numbered f j (replicate n None ++ ss) ≡ numbered f (j + n) ss
gap_text f e j zero ss = ap (λ (m : ℕ). numbered f m ss) (omega arith)
gap_text f e j (suc n) ss =
    ap (λ (t : List ℕ). t ++ numbered f (suc j) (replicate n None ++ ss)) (e j)
    ∙ gap_text f e (suc j) n ss ∙ ap (λ (m : ℕ). numbered f m ss) (omega arith)

-- empty slots before others take no chunk of their own
pub gap_chunks : (j n : ℕ) (ss : List (Option Inst))
    → body_chunks j (replicate n None ++ ss) ≡ body_chunks (j + n) ss
gap_chunks j zero ss = ap (λ (m : ℕ). body_chunks m ss) (omega arith)
gap_chunks j (suc n) ss =
    let more = gap_chunks (suc j) n ss in
    let m : suc j + n ≡ j + suc n = omega arith in
    let one : 1 ≤ body_chunks (suc j) (replicate n None ++ ss) =
    some_body (suc j) (replicate n None ++ ss) in
    let same : max 1 (body_chunks (suc j) (replicate n None ++ ss))
    ≡ body_chunks (suc j) (replicate n None ++ ss) = omega (arith, one) in
    same ∙ more ∙ ap (λ (m : ℕ). body_chunks m ss) m

gap_fits : (n : ℕ) (ss : List (Option Inst)) → Each FitsSlot ss
    → Each FitsSlot (replicate n None ++ ss)
gap_fits zero ss f = f
gap_fits (suc n) ss f = (tt, gap_fits n ss f)

gap_length : (n : ℕ) (ss : List (Option Inst)) → length (replicate n None ++ ss) ≡ n + length ss
gap_length zero ss = omega arith
gap_length (suc n) ss = omega (arith, gap_length n ss)

-- ---- all slots

-- the block that begins at a chunk, by the table
abbrev pub goals : Begins → ℤ → Option ℕ
goals b z = goal_in b.starts z

-- the slots of a block that were read: up to 128, each fits, there is room for their chunks, and their text
pub record AreSlots (b : Begins) (here next : ℕ) (text : List ℕ)
    (r : List (Option Inst) × ℕ × List ℕ) : Type 0 where
  pub size : next + length r.0 ≡ 128
  pub each : Each FitsSlot r.0
  pub room : here + 1 + body_chunks next r.0 ≤ most_chunks
  pub is : text ≡ numbered (slot_text (goals b) here) next r.0 ++ r.2

no_slots : (b : Begins) (here next line : ℕ) (text : List ℕ) → next ≤ 128 → here + 2 ≤ most_chunks
    → AreSlots b here next text (gap next 128, line, text)
no_slots b here next line text l h =
    let n : ℕ = 128 - next in
    let e : ◌≡◌ {A = List (Option Inst)} (replicate n None) (replicate n None ++ []) =
    sym (append-nil (replicate n None)) in
    let size = gap_length n [] in
    let chunks : body_chunks next (replicate n None ++ []) ≡ body_chunks (next + n) [] =
    gap_chunks next n [] in
    let words = gap_text (slot_text (goals b) here) (λ s. refl) next n [] in
    subst (λ (ss : List (Option Inst)). AreSlots b here next text (ss, line, text)) (sym e)
    (record {
      size = omega (arith, size, l);
      each = gap_fits n [] tt;
      room = omega (arith, chunks, h);
      is = ap (λ (t : List ℕ). t ++ text) (sym words);
    })

slots_more : (b : Begins) (here next slot line : ℕ) (text t rest : List ℕ) (i : Inst)
    (ss : List (Option Inst)) → IsSlot b here next text (slot, i, t)
    → AreSlots b here (slot + 1) t (ss, line, rest)
    → AreSlots b here next text (gap next slot ++ Some i ∷ ss, line, rest)
slots_more b here next slot line text t rest i ss a c =
    let f = slot_text (goals b) here in
    let n : ℕ = slot - next in
    let at : next + n ≡ slot = omega (arith, a.after) in
    let one : slot + 1 ≡ suc slot = omega arith in
    let size = gap_length n (Some i ∷ ss) in
    let chunks : body_chunks next (replicate n None ++ Some i ∷ ss)
    ≡ max (slot / 32 + 1) (body_chunks (suc slot) ss) =
    gap_chunks next n (Some i ∷ ss)
    ∙ ap (λ (m : ℕ). body_chunks m (Some i ∷ ss)) at in
    let later : here + 1 + body_chunks (suc slot) ss ≤ most_chunks =
    subst (λ (m : ℕ). here + 1 + body_chunks m ss ≤ most_chunks) one c.room in
    let words : numbered f next (replicate n None ++ Some i ∷ ss)
    ≡ inst_line slot i (goal_at b here i.imm) ++ numbered f (suc slot) ss =
    gap_text f (λ s. refl) next n (Some i ∷ ss)
    ∙ ap (λ (m : ℕ). numbered f m (Some i ∷ ss)) at in
    record {
      size = omega (arith, size, a.after, c.size);
      each = gap_fits n (Some i ∷ ss) (a.fits, c.each);
      room = omega (arith, chunks, a.room, later);
      is =
          a.is ∙ ap (λ (x : List ℕ). inst_line slot i (goal_at b here i.imm) ++ x)
          (c.is ∙ ap (λ (m : ℕ). numbered f m ss ++ rest) one)
          ∙ sym (append_assoc (inst_line slot i (goal_at b here i.imm))
          (numbered f (suc slot) ss) rest)
          ∙ ap (λ (x : List ℕ). x ++ rest) (sym words);
    }

-- the lines that are read as a block's instructions are the text of its slots
pub slots_are : (b : Begins) (here : ℕ) → Told b → here + 2 ≤ most_chunks
    → (turns next line : ℕ) (text : List ℕ) → next ≤ 128
    → Holds (AreSlots b here next text) (slots_in b here turns next line text)
unfolding slots_in
slots_are b here t h zero next line text l = tt
slots_are b here t h (suc n) next line text l =
    fork (AreSlots b here next text) (begins (codes "N[") text)
    (one_inst b here next line text >>> λ p. slots_in b here n (p.0 + 1) (line + 1) p.2
    >>> λ ss. Ok (gap next p.0 ++ Some p.1 ∷ ss.0, ss.1, ss.2)) (Ok (gap next 128, line, text))
    (λ e.
    chain (IsSlot b here next text) (AreSlots b here next text) (one_inst b here next line text) _
    (one_is b here next line text t) (λ p a.
    chain (AreSlots b here (p.0 + 1) p.2) (AreSlots b here next text)
    (slots_in b here n (p.0 + 1) (line + 1) p.2) _
    (slots_are b here t h n (p.0 + 1) (line + 1) p.2 (omega (arith, a.below))) (λ ss c.
    slots_more b here next p.0 ss.1 text p.2 ss.2 p.1 ss.0 a c)))
    (λ e. no_slots b here next line text l h)
