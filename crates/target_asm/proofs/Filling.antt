-- The slots of a block, as a loop fills them.
use Rattle.std.proofs.Common.{◌≡◌, ℕ, zero, suc, ◌+◌, ◌-◌, ◌<◌, ◌≤◌, List, [], ◌∷◌, ◌++◌, length}
use Rattle.std.proofs.Common.{replicate, append_assoc}
use Rattle.std.proofs.Common.{refl, sym, ap, ◌∙◌, arith, true, false, Option, Some, None}
use Rattle.std.specs.Prelude.{ℤ, pos, negsuc, nat_lt, codes, Result, Ok, Err}
use Rattle.std.proofs.lemmas.Bool.{leb-true}
use Rattle.std.proofs.lemmas.Option.{cond_some}
use Rattle.trips_isa.specs.declared.block.Inst.{Inst}
use Rattle.target_asm_spec.specs.declared.fault.AsmFault.{AsmFault}
use Rattle.target_asm_spec.specs.declared.fault.AsmFault.TheVariants.{Syntax}
use Rattle.target_asm_spec.specs.Reading.{field_in}
use Rattle.target_asm_spec.specs.inside.Blocks.{◌>>>◌, Taken, Begins, begins, in_turn, one_inst, gap, slots_in}
use Rattle.target_asm.specs.inside.Taking.{with_front}

-- a slot that is in turn is none of those before
pub turn_after : (next slot : ℕ) (z : ℤ) → in_turn next z ≡ true → field_in z 128 ≡ Some slot
    → next ≤ slot
unfolding field_in
turn_after next slot (pos n) t f =
    let c = cond_some (nat_lt n 128) n slot f in
    let l : next ≤ n = leb-true next n t in
    let e : n ≡ slot = c.1 in
    omega (arith, l, e)
turn_after next slot (negsuc n) t f = absurd cc

abbrev Slots : Type 0
Slots = List (Option Inst)

slots_open : (b : Begins) (here n next line : ℕ) (text : List ℕ) → begins (codes "N[") text ≡ true
    → slots_in b here (suc n) next line text
    ≡ (one_inst b here next line text >>> λ p. slots_in b here n (p.0 + 1) (line + 1) p.2 >>> λ ss.
    Ok (gap next p.0 ++ Some p.1 ∷ ss.0, ss.1, ss.2))
unfolding slots_in
slots_open b here n next line text e = rw e refl

slots_end : (b : Begins) (here n next line : ℕ) (text : List ℕ) → begins (codes "N[") text ≡ false
    → slots_in b here (suc n) next line text ≡ Ok (gap next 128, line, text)
unfolding slots_in
slots_end b here n next line text e = rw e refl

slots_none : (b : Begins) (here next line : ℕ) (text : List ℕ)
    → slots_in b here 0 next line text ≡ Err (Syntax line)
unfolding slots_in
slots_none b here next line text = refl

more_slots : (out padded : Slots) (i : Inst) (g : Slots) (r : Taken Slots) → padded ≡ out ++ g
    → with_front out (r >>> λ ss. Ok (g ++ Some i ∷ ss.0, ss.1, ss.2))
    ≡ with_front (padded ++ Some i ∷ []) r
more_slots out padded i g (Ok r) e =
    let f : Slots → Taken Slots = λ l. Ok (l, r.1, r.2) in
    ap f (sym (append_assoc out g (Some i ∷ r.0)) ∙ ap (λ (l : Slots). l ++ Some i ∷ r.0) (sym e)
    ∙ sym (append_assoc padded (Some i ∷ []) r.0))
more_slots out padded i g (Err d) e = refl

pub fill_start : (b : Begins) (here line : ℕ) (text : List ℕ) (out : Slots) → out ≡ []
    → with_front out (slots_in b here (129 - 0) (length out) (line + 0) text)
    ≡ slots_in b here 129 0 line text
fill_start b here line text out e =
    let l : line + 0 ≡ line = omega arith in
    rw (e, l) (by (slots_in b here 129 0 line text))
  where
    by : (r : Taken Slots) → with_front [] r ≡ r
    by (Ok r) = refl
    by (Err d) = refl

-- where the next instruction is read, behind the empty slots before it, what is read on the whole stays the
-- same
pub fill_next : (b : Begins) (here t line slot next : ℕ) (text rest : List ℕ)
    (out padded new : Slots) (i : Inst) (total : Taken Slots)
    → t < 129 → next ≡ length out → begins (codes "N[") text ≡ true
    → one_inst b here next (line + t) text ≡ Ok (slot, i, rest)
    → padded ≡ out ++ gap (length out) slot → new ≡ padded ++ Some i ∷ [] → length new ≡ slot + 1
    → with_front out (slots_in b here (129 - t) (length out) (line + t) text) ≡ total
    → with_front new (slots_in b here (129 - (t + 1)) (length new) (line + (t + 1)) rest) ≡ total
fill_next b here t line slot next text rest out padded new i total l q e o p n s h =
    let o2 : one_inst b here (length out) (line + t) text ≡ Ok (slot, i, rest) =
    ap (λ (m : ℕ). one_inst b here m (line + t) text) (sym q) ∙ o in
    let c : 129 - t ≡ suc (129 - (t + 1)) = omega (arith, l) in
    let d : line + (t + 1) ≡ line + t + 1 = omega arith in
    let more : Taken Slots = slots_in b here (129 - (t + 1)) (slot + 1) (line + t + 1) rest in
    let step : slots_in b here (129 - t) (length out) (line + t) text
    ≡ (more >>> λ ss. Ok (gap (length out) slot ++ Some i ∷ ss.0, ss.1, ss.2)) =
    ap (λ (m : ℕ). slots_in b here m (length out) (line + t) text) c
    ∙ slots_open b here (129 - (t + 1)) (length out) (line + t) text e
    ∙ ap (λ (r : Result (ℕ × Inst × List ℕ) AsmFault). r >>> λ p. slots_in b here (129 - (t + 1))
    (p.0 + 1) (line + t + 1) p.2 >>> λ ss.
    Ok (gap (length out) p.0 ++ Some p.1 ∷ ss.0, ss.1, ss.2)) o2 in
    ap (λ (m : ℕ). with_front new (slots_in b here (129 - (t + 1)) m (line + (t + 1)) rest)) s
    ∙ ap (λ (m : ℕ). with_front new (slots_in b here (129 - (t + 1)) (slot + 1) m rest)) d
    ∙ ap (λ (x : Slots). with_front x more) n
    ∙ sym (more_slots out padded i (gap (length out) slot) more p)
    ∙ ap (with_front out) (sym step) ∙ h

-- where no line of an instruction follows, the slots that are left are empty, and the whole is these
pub fill_stop : (b : Begins) (here t line : ℕ) (text : List ℕ) (out padded : Slots)
    (total : Taken Slots) → t < 129
    → begins (codes "N[") text ≡ false → padded ≡ out ++ gap (length out) 128
    → with_front out (slots_in b here (129 - t) (length out) (line + t) text) ≡ total
    → total ≡ Ok (padded, line + t, text)
fill_stop b here t line text out padded total l e p h =
    let c : 129 - t ≡ suc (129 - (t + 1)) = omega (arith, l) in
    let step : slots_in b here (129 - t) (length out) (line + t) text ≡ Ok (gap (length out) 128, line + t, text) =
    ap (λ (m : ℕ). slots_in b here m (length out) (line + t) text) c
    ∙ slots_end b here (129 - (t + 1)) (length out) (line + t) text e in
    let f : Slots → Taken Slots = λ x. Ok (x, line + t, text) in
    sym h ∙ ap (with_front out) step ∙ ap f (sym p)

-- where the next line of an instruction has a fault, the whole has this fault
pub fill_fail : (b : Begins) (here t line next : ℕ) (text : List ℕ) (out : Slots)
    (total : Taken Slots) (d : AsmFault) → t < 129
    → next ≡ length out → begins (codes "N[") text ≡ true → one_inst b here next (line + t) text ≡ Err d
    → with_front out (slots_in b here (129 - t) (length out) (line + t) text) ≡ total
    → total ≡ Err d
fill_fail b here t line next text out total d l q e o h =
    let o2 : one_inst b here (length out) (line + t) text ≡ Err d =
    ap (λ (m : ℕ). one_inst b here m (line + t) text) (sym q) ∙ o in
    let c : 129 - t ≡ suc (129 - (t + 1)) = omega (arith, l) in
    let step : slots_in b here (129 - t) (length out) (line + t) text ≡ Err d =
    ap (λ (m : ℕ). slots_in b here m (length out) (line + t) text) c
    ∙ slots_open b here (129 - (t + 1)) (length out) (line + t) text e
    ∙ ap (λ (r : Result (ℕ × Inst × List ℕ) AsmFault). r >>> λ p. slots_in b here (129 - (t + 1))
    (p.0 + 1) (line + t + 1) p.2 >>> λ ss.
    Ok (gap (length out) p.0 ++ Some p.1 ∷ ss.0, ss.1, ss.2)) o2 in
    sym h ∙ ap (with_front out) step

-- after 129 lines of instructions the whole is a fault of syntax
pub fill_over : (b : Begins) (here t line : ℕ) (text : List ℕ) (out : Slots) (total : Taken Slots)
    → 129 ≤ t → t ≤ 129
    → with_front out (slots_in b here (129 - t) (length out) (line + t) text) ≡ total
    → total ≡ Err (Syntax (line + 129))
fill_over b here t line text out total l m h =
    let c : 129 - t ≡ 0 = omega (arith, l) in
    let d : line + t ≡ line + 129 = omega (arith, l, m) in
    let step : slots_in b here (129 - t) (length out) (line + t) text ≡ Err (Syntax (line + 129)) =
    ap (λ (m : ℕ). slots_in b here m (length out) (line + t) text) c
    ∙ slots_none b here (length out) (line + t) text
    ∙ ap (λ (m : ℕ). Err (Syntax m)) d in
    sym h ∙ ap (with_front out) step

-- one slot more fills an empty one
pub gap_next : (out start : Slots) (from to : ℕ) → from ≤ to → out ≡ start ++ gap from to
    → out ++ None ∷ [] ≡ start ++ gap from (to + 1)
gap_next out start from to l e =
    let n : to + 1 - from ≡ to - from + 1 = omega (arith, l) in
    ap (λ (x : Slots). x ++ None ∷ []) e ∙ append_assoc start (gap from to) (None ∷ [])
    ∙ ap (λ (x : Slots). start ++ x) (more (to - from))
    ∙ ap (λ (m : ℕ). start ++ replicate m None) (sym n)
  where
    more : (m : ℕ) → ◌≡◌ {A = Slots} (replicate m None ++ None ∷ []) (replicate (m + 1) None)
    more zero = refl
    more (suc m) =
        let e : suc m + 1 ≡ suc (m + 1) = omega arith in
        ap (λ (x : Slots). None ∷ x) (more m) ∙ ap (λ (k : ℕ). replicate k None) (sym e)
