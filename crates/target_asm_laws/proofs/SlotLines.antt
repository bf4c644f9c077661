-- What the reading of the lines of instructions leads to.
use Rattle.std.proofs.Common.{◌≡◌, ℕ, zero, suc, ◌+◌, ◌-◌, ◌/◌, ◌<◌, ◌≤◌, max, List, [], ◌∷◌, ◌++◌}
use Rattle.std.proofs.Common.{replicate, refl, sym, ap, subst, ◌∙◌, arith, Option, Some, None, true}
use Rattle.std.proofs.Common.{false, ◌⊎◌, inl, inr, eq-eqb}
use Rattle.std.specs.Prelude.{ℤ, pos, negsuc, nat_le, get_or, is_some, codes, Result, Ok, Err}
use Rattle.std.proofs.lemmas.Bool.{cases_lt, eqb-true, leb-true, le-leb}
use Rattle.std.proofs.lemmas.List.{append-nil}
use Rattle.trips_isa.specs.declared.block.Inst.{Inst}
use Rattle.trips_isa.specs.Images.{body_chunks}
use Rattle.trips_isa.specs.Limits.{most_chunks}
use Rattle.target_asm_spec.specs.declared.fault.AsmFault.{AsmFault}
use Rattle.target_asm_spec.specs.declared.fault.AsmFault.TheVariants as fault
use Rattle.target_asm_spec.specs.declared.spelled.Goal.{Goal}
use Rattle.target_asm_spec.specs.declared.spelled.Goal.TheVariants.{Label, Offset}
use Rattle.target_asm_spec.specs.declared.spelled.SpelledInst.{SpelledInst}
use Rattle.target_asm_spec.specs.declared.spelled.SpelledRead.{SpelledRead}
use Rattle.target_asm_spec.specs.declared.spelled.SpelledWrite.{SpelledWrite}
use Rattle.target_asm_spec.specs.Reading.{field_in}
use Rattle.target_asm_spec.specs.inside.Instructions.{inst_in}
use Rattle.target_asm_spec.specs.Judging.{inst_of}
use Rattle.target_asm_spec.specs.inside.Blocks.{◌>>>◌, begins, in_turn, Begins, aimed, one_inst}
use Rattle.target_asm_spec.specs.inside.Blocks.{gap, slots_in}
use Rattle.target_asm_spec.specs.Lines.{inst_words, IsInstruction}
use Rattle.target_asm_spec.specs.LinePlaces.{Line, line_words, Place, after, size_of, IsLeft, MayStand}
use Rattle.target_asm_spec.specs.LinePlaces.{Below, InFields}
use Rattle.target_asm_spec.specs.LinePlaces as line
use Rattle.target_asm_spec.specs.FirstAsmFault.{NoLine, BadNumber}
use Rattle.target_asm_spec.proofs.Numbers.{after_front}
use Rattle.target_asm_laws.proofs.Digits.{InField, field_is}
use Rattle.target_asm_laws.proofs.Slots.{gap_chunks}
use Rattle.target_asm_laws.proofs.Numerals.{capped, capped_small, capped_large, capped_z}
use Rattle.target_asm_laws.proofs.Operands.{same_item}
use Rattle.target_asm_laws.proofs.Insts.{capped_inst, inst_read}
use Rattle.target_asm_laws.proofs.InstTexts.{IsInstOf, inst_of_text}
use Rattle.target_asm_laws.proofs.Capped.{field_capped, inst_capped}
use Rattle.target_asm_laws.proofs.OneLine.{letter}
use Rattle.target_asm_laws.proofs.Leads.{Aim, Cause, syntax, range, label, offset, Goes, goes}
use Rattle.target_asm_laws.proofs.Leads.{step_some, step_wants, step_if, moved, at_once, by_line}
use Rattle.target_asm_laws.proofs.Leads.{fails}
use Rattle.target_asm_laws.proofs.FaultRegisters.{none_some, clash, found, first_letter, only_kind}
use Rattle.target_asm_laws.proofs.FaultRegisters.{below_field}

-- ---- where a branch goes

-- why where a branch goes is a fault
pub data AimCause (B : ℕ → Goal → Type 0) (here at : ℕ) (g : Option Goal) : AsmFault → Type 0 where
  no_block : (k : ℤ) → g ≡ Some (Label k) → B here (Label k) → AimCause B here at g (fault.Label at)
  hits : (n : ℤ) → g ≡ Some (Offset n) → B here (Offset n) → AimCause B here at g (fault.Range at)

-- an aim that is given is one that G allows, and a fault has its cause
abbrev pub AimResult : Aim → (ℕ → Goal → Type 0) → ℕ → ℕ → Option Goal → Result ℤ AsmFault → Type 0
AimResult G B here at g (Ok z) = G here g
AimResult G B here at g (Err e) = AimCause B here at g e

-- what a reading tells of where branches go
abbrev pub Aims : Aim → (ℕ → Goal → Type 0) → Begins → Type 0
Aims G B b = (s : SpelledInst) (here at : ℕ) (i : Inst) → IsInstruction s → inst_of s ≡ Some i
    → here + 2 ≤ most_chunks
    → AimResult G B here at s.numbers.goal (aimed b here at (capped_inst s).numbers.goal i.imm)

-- ---- one line

capped_least : (n next : ℕ) → next ≤ capped n → next ≤ n
capped_least n next l = by (cases_lt n 1000000000)
  where
    by : (n < 1000000000) ⊎ (1000000000 ≤ n) → next ≤ n
    by (inl h) = let c = capped_small n h in omega (arith, l, c)
    by (inr h) = let c = capped_large n h in omega (arith, l, c, h)

least_capped : (n next : ℕ) → next ≤ 128 → next ≤ n → next ≤ capped n
least_capped n next s l = by (cases_lt n 1000000000)
  where
    by : (n < 1000000000) ⊎ (1000000000 ≤ n) → next ≤ capped n
    by (inl h) = let c = capped_small n h in omega (arith, l, c)
    by (inr h) = let c = capped_large n h in omega (arith, s, c)

turn_left : (next : ℕ) (z : ℤ) → in_turn next (capped_z z) ≡ true → IsLeft (Some next) z
turn_left next (pos n) e = capped_least n next (leb-true next (capped n) e)
turn_left next (negsuc n) e = eqb-true next 0 e

left_turn : (next : ℕ) (z : ℤ) → next ≤ 128 → IsLeft (Some next) z → in_turn next (capped_z z) ≡ true
left_turn next (pos n) s h = le-leb next (capped n) (least_capped n next s h)
left_turn next (negsuc n) s h = eq-eqb next 0 h

no_inst : (p : Place) (text : List ℕ) → get_or text 0 0 ≡ 78
    → ((s : SpelledInst) (more : List ℕ) → MayStand p (line.inst s) → text ≡ inst_words s more → ⊥)
    → NoLine p text
unfolding line_words
no_inst p text e h = only_kind p text 78 e (omega arith) by
  where
    by : (l : Line) (more : List ℕ) → letter l ≡ 78 → MayStand p l → text ≡ line_words l more → ⊥
    by (line.inst s) more c st is = h s more st is
    by (line.read s) more c st is = absurd (omega (arith, c))
    by (line.write s) more c st is = absurd (omega (arith, c))
    by (line.block k m) more c st is = absurd (omega (arith, c))

inst_stands : (p : Place) (text : List ℕ) (next : ℕ) (s : SpelledInst × List ℕ) (r : IsInstOf text s)
    → p.next_slot ≡ Some next → in_turn next s.0.slot ≡ true → MayStand p (line.inst r.s)
inst_stands p text next s r e h = (
  subst (λ (o : Option ℕ). IsLeft o r.s.slot) (sym e) (turn_left next r.s.slot
      (ap (λ (x : SpelledInst). in_turn next x.slot) r.same ∙ h)),
  r.fits,
)

bad_inst : (p : Place) (text : List ℕ) (next : ℕ) (s : SpelledInst × List ℕ) (r : IsInstOf text s)
    → p.next_slot ≡ Some next → in_turn next s.0.slot ≡ true → (InFields p (line.inst r.s) → ⊥)
    → BadNumber p text
unfolding line_words
bad_inst p text next s r e h out = record {
  line = line.inst r.s;
  more = s.1;
  stands = inst_stands p text next s r e h;
  is = r.is;
  outside = out;
}

not_inst : (p : Place) (text : List ℕ) → get_or text 0 0 ≡ 78 → inst_in text ≡ None → NoLine p text
not_inst p text c none = no_inst p text c (λ s more st is.
    none_some (inst_in text) (capped_inst s, more) none (ap inst_in is ∙ inst_read s more st.1))

other_inst : (p : Place) (text : List ℕ) (next : ℕ) (s : SpelledInst × List ℕ)
    → p.next_slot ≡ Some next → next ≤ 128 → get_or text 0 0 ≡ 78 → inst_in text ≡ Some s
    → in_turn next s.0.slot ≡ false → NoLine p text
other_inst p text next s e l c f wrong = no_inst p text c (λ r more st is.
    let same : s.0 ≡ capped_inst r = same_item s.0 (capped_inst r) s.1 more
    (sym f ∙ ap inst_in is ∙ inst_read r more st.1) in
    let n : IsLeft (Some next) r.slot = subst (λ (o : Option ℕ). IsLeft o r.slot) e st.0 in
    clash (in_turn next s.0.slot)
    (ap (λ (x : SpelledInst). in_turn next x.slot) same ∙ left_turn next r.slot l n) wrong)

pub record AfterInst (p : Place) (next at : ℕ) (x : ℕ × Inst × List ℕ) (q : Place) (m : ℕ)
    (rest : List ℕ) : Type 0 where
  pub place : q ≡ record p {
    size = 2 + x.0 / 32;
    next_read = None;
    next_write = None;
    next_slot = Some (suc x.0);
  }
  pub left : x.2 ≡ rest
  pub line : m ≡ at + 1
  pub below : x.0 < 128
  pub later : next ≤ x.0
  pub room : p.here + 2 + x.0 / 32 ≤ most_chunks

aim_step : {C : Type 0} (G : Aim) (B : ℕ → Goal → Type 0) (p : Place) (at : ℕ) (t : List ℕ)
    (S : C → Place → ℕ → List ℕ → Type 0) (l : Line) (more : List ℕ) (r : Result ℤ AsmFault)
    (f : ℤ → Result C AsmFault) → MayStand p l → InFields p l → t ≡ line_words l more
    → AimResult G B p.here at (line.goal_of_line l) r
    → ((z : ℤ) → G p.here (line.goal_of_line l) → Goes G B p at t S (f z))
    → Goes G B p at t S (r >>> f)
aim_step G B p at t S l more (Ok z) f st fi is h k = k z h
aim_step G B p at t S l more (Err e) f st fi is h k = fails G B p at t e (cause e h)
  where
    cause : (e : AsmFault) → AimCause B p.here at (line.goal_of_line l) e → Cause B p at t e
    cause e (no_block k g b) = label l more k st fi is g b
    cause e (hits n g b) = offset l more n st fi is g b

pub inst_goes : (G : Aim) (B : ℕ → Goal → Type 0) (b : Begins) → Aims G B b
    → (p : Place) (here next at : ℕ) (text : List ℕ) → p.here ≡ here → here + 2 ≤ most_chunks
    → p.next_slot ≡ Some next → next ≤ 128 → begins (codes "N[") text ≡ true
    → Goes G B p at text (AfterInst p next at) (one_inst b here next at text)
unfolding one_inst line_words
inst_goes G B b aims p here next at text w roomy e l n =
    let S = AfterInst p next at in
    let c : get_or text 0 0 ≡ 78 = first_letter 78 (91 ∷ []) text n in
    step_some G B p at text S (inst_in text) (fault.Syntax at) _
    (λ none. fails G B p at text (fault.Syntax at) (syntax (not_inst p text c none))) (λ s f.
    let r : IsInstOf text s = found (IsInstOf text) (inst_in text) s (inst_of_text text) f in
    step_wants G B p at text S (in_turn next s.0.slot) (fault.Syntax at) _
    (λ wr. fails G B p at text (fault.Syntax at) (syntax (other_inst p text next s e l c f wr)))
    (λ h.
    let field : field_in s.0.slot 128 ≡ field_in r.s.slot 128 =
    ap (λ (x : SpelledInst). field_in x.slot 128) (sym r.same)
    ∙ field_capped r.s.slot 128 (omega arith) in
    let judged : inst_of s.0 ≡ inst_of r.s = ap inst_of (sym r.same) ∙ inst_capped r.s in
    step_some G B p at text S (field_in s.0.slot 128) (fault.Range at) _
    (λ none. fails G B p at text (fault.Range at) (range (bad_inst p text next s r e h (λ z.
    let y = below_field r.s.slot z.0 in
    none_some (field_in s.0.slot 128) y.0 none (field ∙ y.1))))) (λ slot d.
    let in_field : InField r.s.slot 128 slot =
    found (InField r.s.slot 128) (field_in r.s.slot 128) slot (field_is r.s.slot 128)
    (sym field ∙ d) in
    step_some G B p at text S (inst_of s.0) (fault.Range at) _
    (λ none. fails G B p at text (fault.Range at) (range (bad_inst p text next s r e h (λ z.
    none_some (inst_of s.0) z.1.0 none (judged ∙ z.1.1))))) (λ i j.
    let size : size_of r.s.slot ≡ slot = ap size_of in_field.is in
    step_wants G B p at text S (nat_le (here + 2 + slot / 32) most_chunks) (fault.Range at) _
    (λ wr. fails G B p at text (fault.Range at) (range (bad_inst p text next s r e h (λ z.
    let many : here + 2 + slot / 32 ≤ most_chunks =
    subst (λ (k : ℕ). k + 2 + slot / 32 ≤ most_chunks) w
    (subst (λ (k : ℕ). p.here + 2 + k / 32 ≤ most_chunks) size z.2) in
    clash (nat_le (here + 2 + slot / 32) most_chunks) (le-leb (here + 2 + slot / 32) most_chunks many) wr))))
    (λ room.
    let stands = inst_stands p text next s r e h in
    let fields : InFields p (line.inst r.s) = (
      subst (Below 128) (sym in_field.is) in_field.below,
      (i, sym judged ∙ j),
      subst (λ (k : ℕ). p.here + 2 + k / 32 ≤ most_chunks) (sym size)
          (subst (λ (k : ℕ). k + 2 + slot / 32 ≤ most_chunks) (sym w)
          (leb-true (here + 2 + slot / 32) most_chunks room)),
    ) in
    let aim : AimResult G B p.here at r.s.numbers.goal (aimed b here at s.0.numbers.goal i.imm) =
    subst (λ (k : ℕ). AimResult G B k at r.s.numbers.goal (aimed b here at s.0.numbers.goal i.imm))
    (sym w)
    (subst (λ (x : SpelledInst). AimResult G B here at r.s.numbers.goal
    (aimed b here at x.numbers.goal i.imm)) r.same (aims r.s here at i r.fits (sym judged ∙ j) roomy))
    in
    aim_step G B p at text S (line.inst r.s) s.1 (aimed b here at s.0.numbers.goal i.imm) _ stands
    fields r.is aim (λ z g.
    by_line G B p at text S (slot, record i { imm = z }, s.1) (line.inst r.s) s.1 stands fields g
    r.is (record {
      place = ap (λ (k : ℕ). record p {
        size = 2 + k / 32;
        next_read = None;
        next_write = None;
        next_slot = Some (suc k);
      }) size;
      left = refl;
      line = refl;
      below = in_field.below;
      later = subst (IsLeft (Some next)) in_field.is (turn_left next r.s.slot
          (ap (λ (x : SpelledInst). in_turn next x.slot) r.same ∙ h));
      room = subst (λ (k : ℕ). k + 2 + slot / 32 ≤ most_chunks) (sym w)
          (leb-true (here + 2 + slot / 32) most_chunks room);
    })))))))

-- ---- all slots of a block

-- no line of a kind begins a text at a place
abbrev pub NoRead : Place → List ℕ → Type 0
NoRead p text = (s : SpelledRead) (more : List ℕ) → MayStand p (line.read s)
    → text ≡ line_words (line.read s) more → ⊥

-- no line of a write that may stand here stands here
abbrev pub NoWrite : Place → List ℕ → Type 0
NoWrite p text = (s : SpelledWrite) (more : List ℕ) → MayStand p (line.write s)
    → text ≡ line_words (line.write s) more → ⊥

-- no line of an instruction that may stand here stands here
abbrev pub NoInst : Place → List ℕ → Type 0
NoInst p text = (s : SpelledInst) (more : List ℕ) → MayStand p (line.inst s)
    → text ≡ line_words (line.inst s) more → ⊥

-- within the lines of a block's instructions
pub record SlotsAt (bs : List ℕ) (here next c : ℕ) (p : Place) (text : List ℕ) : Type 0 where
  pub begins : p.begins ≡ bs
  pub here_is : p.here ≡ here
  pub size : p.size ≡ c
  pub some : 2 ≤ c
  pub small : c ≤ 2 + next / 32
  pub room : here + c ≤ most_chunks
  pub slot : p.next_slot ≡ Some next
  pub no_read : NoRead p text
  pub no_write : NoWrite p text

-- at the end of a block whose slots are these
pub record SlotsEnd (bs : List ℕ) (here next c : ℕ) (x : List (Option Inst) × ℕ × List ℕ)
    (q : Place) (m : ℕ) (rest : List ℕ) : Type 0 where
  pub begins : q.begins ≡ bs
  pub here_is : q.here ≡ here
  pub size : q.size ≡ max c (1 + body_chunks next x.0)
  pub room : here + q.size ≤ most_chunks
  pub line : x.1 ≡ m
  pub left : x.2 ≡ rest
  pub no_read : NoRead q rest
  pub no_write : NoWrite q rest
  pub no_inst : NoInst q rest

-- a front with something behind it begins with this front
pub begun : (front t : List ℕ) → begins front (front ++ t) ≡ true
begun front t = ap is_some (after_front front t)

inst_begins : (s : SpelledInst) (more text : List ℕ) → text ≡ line_words (line.inst s) more
    → begins (codes "N[") text ≡ true
unfolding line_words inst_words
inst_begins s more text e = ap (begins (codes "N[")) e ∙ begun (codes "N[") _

slots_over : (bs : List ℕ) (here next c at : ℕ) (p : Place) (text : List ℕ)
    → SlotsAt bs here next c p text → next ≤ 128 → begins (codes "N[") text ≡ false
    → SlotsEnd bs here next c (gap next 128, at, text) p at text
slots_over bs here next c at p text a l e =
    let n : ℕ = 128 - next in
    let empty : ◌≡◌ {A = List (Option Inst)} (replicate n None) (replicate n None ++ []) =
    sym (append-nil (replicate n None)) in
    let body : body_chunks next (replicate n None) ≡ 1 =
    ap (body_chunks next) empty ∙ gap_chunks next n [] in
    record {
      begins = a.begins;
      here_is = a.here_is;
      size = let s = a.size in let some = a.some in omega (arith, s, some, body);
      room = let s = a.size in let room = a.room in omega (arith, s, room);
      line = refl;
      left = refl;
      no_read = a.no_read;
      no_write = a.no_write;
      no_inst = λ s more st is. clash (begins (codes "N[") text) (inst_begins s more text is) e;
    }

slots_next : (bs : List ℕ) (here next c at : ℕ) (p q : Place) (m : ℕ) (text rest : List ℕ)
    (x : ℕ × Inst × List ℕ) → SlotsAt bs here next c p text → AfterInst p next at x q m rest
    → SlotsAt bs here (x.0 + 1) (2 + x.0 / 32) q rest
slots_next bs here next c at p q m text rest x a b =
    let w = a.here_is in
    let room = b.room in
    let one : suc x.0 ≡ x.0 + 1 = omega arith in
    record {
      begins = ap (λ (y : Place). y.begins) b.place ∙ a.begins;
      here_is = ap (λ (y : Place). y.here) b.place ∙ a.here_is;
      size = ap (λ (y : Place). y.size) b.place;
      some = omega arith;
      small = omega arith;
      room = omega (arith, room, w);
      slot = ap (λ (y : Place). y.next_slot) b.place ∙ ap (λ (k : ℕ). Some k) one;
      no_read = λ s more st is.
          subst (λ (o : Option ℕ). line.IsNext o s.number) (ap (λ (y : Place). y.next_read) b.place) st.0;
      no_write = λ s more st is.
          subst (λ (o : Option ℕ). line.IsNext o s.number) (ap (λ (y : Place). y.next_write) b.place) st;
    }

slots_led : (bs : List ℕ) (here next c slot : ℕ) (i : Inst) (ss : List (Option Inst)) (m : ℕ)
    (q : Place) (line_no : ℕ) (rest left : List ℕ) → next ≤ slot → c ≤ 2 + next / 32
    → SlotsEnd bs here (slot + 1) (2 + slot / 32) (ss, line_no, left) q m rest
    → SlotsEnd bs here next c (gap next slot ++ Some i ∷ ss, line_no, left) q m rest
slots_led bs here next c slot i ss m q line_no rest left l s a =
    let n : ℕ = slot - next in
    let at : next + n ≡ slot = omega (arith, l) in
    let one : slot + 1 ≡ suc slot = omega arith in
    let chunks : body_chunks next (replicate n None ++ Some i ∷ ss)
    ≡ max (slot / 32 + 1) (body_chunks (suc slot) ss) =
    gap_chunks next n (Some i ∷ ss) ∙ ap (λ (k : ℕ). body_chunks k (Some i ∷ ss)) at in
    let size : q.size ≡ max (2 + slot / 32) (1 + body_chunks (suc slot) ss) =
    a.size ∙ ap (λ (k : ℕ). max (2 + slot / 32) (1 + body_chunks k ss)) one in
    record {
      begins = a.begins;
      here_is = a.here_is;
      size = omega (arith, size, chunks, s, l);
      room = a.room;
      line = a.line;
      left = a.left;
      no_read = a.no_read;
      no_write = a.no_write;
      no_inst = a.no_inst;
    }

-- the reading of the lines of a block's instructions leads to their end, or to a fault
pub slots_go : (G : Aim) (B : ℕ → Goal → Type 0) (b : Begins) → Aims G B b
    → (bs : List ℕ) (here turns next c at : ℕ) (p : Place) (text : List ℕ)
    → SlotsAt bs here next c p text → next ≤ 128 → 129 ≤ next + turns
    → Goes G B p at text (SlotsEnd bs here next c) (slots_in b here turns next at text)
unfolding slots_in
slots_go G B b aims bs here zero next c at p text a l t = absurd (omega (arith, l, t))
slots_go G B b aims bs here (suc n) next c at p text a l t =
    let S = SlotsEnd bs here next c in
    step_if G B p at text S (begins (codes "N[") text)
    (one_inst b here next at text >>> λ x. slots_in b here n (x.0 + 1) (at + 1) x.2
    >>> λ ss. Ok (gap next x.0 ++ Some x.1 ∷ ss.0, ss.1, ss.2)) (Ok (gap next 128, at, text)) (λ e.
    let room = a.room in
    let some = a.some in
    goes G B p at text (AfterInst p next at) S (one_inst b here next at text) _
    (inst_goes G B b aims p here next at text a.here_is (omega (arith, room, some)) a.slot l e)
    (λ x q m rest d.
    let below = d.below in
    let later = d.later in
    moved G B q q (at + 1) m x.2 rest S _ refl (sym d.line) d.left
    (goes G B q (at + 1) x.2 (SlotsEnd bs here (x.0 + 1) (2 + x.0 / 32)) S
    (slots_in b here n (x.0 + 1) (at + 1) x.2) _
    (slots_go G B b aims bs here n (x.0 + 1) (2 + x.0 / 32) (at + 1) q x.2
    (subst (SlotsAt bs here (x.0 + 1) (2 + x.0 / 32) q) (sym d.left)
    (slots_next bs here next c at p q m text rest x a d))
    (omega (arith, below)) (omega (arith, t, later)))
    (λ y r k u f. at_once G B r k u S (gap next x.0 ++ Some x.1 ∷ y.0, y.1, y.2)
    (slots_led bs here next c x.0 x.1 y.0 k r y.1 u y.2 d.later a.small f)))))
    (λ e. at_once G B p at text S (gap next 128, at, text) (slots_over bs here next c at p text a l e))
