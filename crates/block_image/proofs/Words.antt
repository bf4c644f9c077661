-- A word that is read is the word of what was read, and what was written is read again.
use Rattle.std.proofs.Common.{◌≡◌, ℕ, ◌^◌, ◌<◌, ◌≤◌, cond, false, Option, Some, None, refl, sym, ap}
use Rattle.std.proofs.Common.{subst, ◌∙◌, arith, nat_eq, nat_lt, lit<}
use Rattle.std.specs.Prelude.{ℤ, pos}
use Rattle.trips_isa.specs.declared.op.Op.{Op}
use Rattle.trips_isa.specs.declared.form.Form.{Form}
use Rattle.trips_isa.specs.declared.form.Form.TheVariants.{General, Immediate, Load, Store, Branch}
use Rattle.trips_isa.specs.declared.form.Form.TheVariants.{Constant}
use Rattle.trips_isa.specs.declared.block.Sense.{Sense}
use Rattle.trips_isa.specs.declared.block.Inst.{Inst}
use Rattle.trips_isa.specs.Forms.{form_of}
use Rattle.trips_isa.specs.Fits.{FitsTargets, FitsForm, FitsSlot}
use Rattle.isa_table.specs.declared.numbers.Code.{Code}
use Rattle.isa_table.specs.Codes.{code_of}
use Rattle.isa_table.specs.inside.Codes.{op_with_numbers, GoodCode}
use Rattle.isa_table.proofs.ByNumbers.{code_good, numbers_taken, numbers_again}
use Rattle.block_image.specs.Words.{sense_number, target_number, signed_number, form_word}
use Rattle.block_image.specs.Words.{slot_word}
use Rattle.block_image.specs.inside.WordReading.{part, Target, pair_of, targets_at, general_at}
use Rattle.block_image.specs.inside.WordReading.{immediate_at, load_at, store_at, branch_at, constant_at}
use Rattle.block_image.specs.inside.WordReading.{form_at, op_in, inst_of_word, slot_of_word}
use Rattle.block_image.proofs.Fields.{Parts, parts, BranchParts, branch_parts, ConstantParts}
use Rattle.block_image.proofs.Fields.{constant_parts, sense_below, sense_again, eq_no, lt_yes}
use Rattle.block_image.proofs.Fields.{lt_no, found, target_below, target_again, signed_below}
use Rattle.block_image.proofs.Fields.{signed_again, offset_again, constant_again}
use Rattle.block_image.proofs.Widths.{wider, offset_fits, constant_fits}

-- ---- the operation

small_again : (w : ℕ) (op : Op) (c : Code) → op_with_numbers c.opcode c.extended ≡ Some op
    → c.opcode < 3 → part w 33554432 128 ≡ c.opcode → part w 262144 32 ≡ c.extended
    → op_in w ≡ Some op
unfolding op_in
small_again w op c e l o x = rw (o, lt_yes c.opcode 3 l, x) e

large_again : (w : ℕ) (op : Op) (c : Code) → op_with_numbers c.opcode c.extended ≡ Some op
    → 3 ≤ c.opcode → c.extended ≡ 0 → part w 33554432 128 ≡ c.opcode → op_in w ≡ Some op
unfolding op_in
large_again w op c e l z o =
    rw (o, lt_no c.opcode 3 l) (subst (λ (n : ℕ). op_with_numbers c.opcode n ≡ Some op) z e)

-- the fields of a word by which an operation is known
pub record OpIs (w : ℕ) (c : Code) : Type 0 where
  pub opcode : c.opcode ≡ part w 33554432 128
  pub small : c.opcode < 3 → c.extended ≡ part w 262144 32

-- an operation that is read of a word has the code of its fields
pub op_is : (w : ℕ) (op : Op) → op_in w ≡ Some op → OpIs w (code_of op)
unfolding op_in
op_is w op e =
    let o = part w 33554432 128 in
    let t = numbers_taken o (cond (nat_lt o 3) (part w 262144 32) 0) op e in
    record {
      opcode = t.0;
      small = λ l. t.1
          ∙ ap (λ b. cond b (part w 262144 32) 0) (lt_yes o 3 (subst (λ (n : ℕ). n < 3) t.0 l));
    }

-- ---- the forms

pair_again : (a b : Target) → FitsTargets a b → pair_of a b ≡ Some (a, b)
unfolding pair_of
pair_again None None h = refl
pair_again None (Some s) h = absurd (let e : Some s ≡ None = h in cc)
pair_again (Some s) b h = refl

pub record Paired (a b : Target) (p : Target × Target) : Type 0 where
  pub fits : FitsTargets p.0 p.1
  pub first : p.0 ≡ a
  pub second : p.1 ≡ b

-- where two targets make a pair, it is these two, and it fits
pub pair_takes : (a b : Target) (p : Target × Target) → pair_of a b ≡ Some p → Paired a b p
unfolding pair_of
pair_takes None None p e =
    found (Paired None None) (None, None) p (record { fits = refl; first = refl; second = refl }) e
pair_takes None (Some s) p e = absurd cc
pair_takes (Some s) b p e =
    found (Paired (Some s) b) (Some s, b) p (record { fits = tt; first = refl; second = refl }) e

-- fields that a form does not have
rest_is : (i : Inst) → i.imm ≡ pos 0 → i.number ≡ 0
    → Some (record {
      op = i.op;
      sense = i.sense;
      imm = pos 0;
      number = 0;
      first = i.first;
      second = i.second;
    }) ≡ Some i
rest_is i e f =
    let g : ℤ → ℕ → Option Inst =
    λ z n. Some (record {
      op = i.op;
      sense = i.sense;
      imm = z;
      number = n;
      first = i.first;
      second = i.second;
    }) in
    ap (λ z. g z 0) (sym e) ∙ ap (λ n. g i.imm n) (sym f)

general_again : (w : ℕ) (c : Code) (i : Inst) → c.opcode ≡ 1
    → op_with_numbers c.opcode c.extended ≡ Some i.op → form_of i.op ≡ General → FitsForm General i
    → Parts w c.opcode (sense_number i.sense) c.extended (target_number i.second)
    (target_number i.first) → inst_of_word w ≡ Some i
unfolding inst_of_word form_at general_at targets_at
general_again w c i one e f h p =
    rw (
      small_again w i.op c e (omega arith) p.opcode p.extended,
      f,
      p.sense,
      sense_again i.sense,
      p.lower,
      target_again i.first h.0.first,
      p.upper,
      target_again i.second h.0.second,
      pair_again i.first i.second h.0.order,
    )
    (rest_is i h.1 h.2)

immediate_again : (w : ℕ) (c : Code) (i : Inst) → c.opcode ≡ 2
    → op_with_numbers c.opcode c.extended ≡ Some i.op → form_of i.op ≡ Immediate
    → FitsForm Immediate i
    → Parts w c.opcode (sense_number i.sense) c.extended (signed_number 512 i.imm)
    (target_number i.first) → inst_of_word w ≡ Some i
unfolding inst_of_word form_at immediate_at
immediate_again w c i two e f h p =
    let g : ℕ → Target → Option Inst =
    λ n t. Some (record {
      op = i.op;
      sense = i.sense;
      imm = i.imm;
      number = n;
      first = i.first;
      second = t;
    }) in
    rw (
      small_again w i.op c e (omega arith) p.opcode p.extended,
      f,
      p.sense,
      sense_again i.sense,
      p.lower,
      target_again i.first h.0.first,
      p.upper,
      signed_again 256 i.imm h.1,
    )
    (ap (λ n. g n None) (sym h.2) ∙ ap (λ t. g i.number t) (sym h.0.second))

load_again : (w : ℕ) (c : Code) (i : Inst) → 3 ≤ c.opcode → c.extended ≡ 0
    → op_with_numbers c.opcode c.extended ≡ Some i.op → form_of i.op ≡ Load → FitsForm Load i
    → Parts w c.opcode (sense_number i.sense) i.number (signed_number 512 i.imm)
    (target_number i.first) → inst_of_word w ≡ Some i
unfolding inst_of_word form_at load_at
load_again w c i three none e f h p =
    let g : Target → Option Inst =
    λ t. Some (record {
      op = i.op;
      sense = i.sense;
      imm = i.imm;
      number = i.number;
      first = i.first;
      second = t;
    }) in
    rw (
      large_again w i.op c e three none p.opcode,
      f,
      p.sense,
      sense_again i.sense,
      p.lower,
      target_again i.first h.0.first,
      p.upper,
      signed_again 256 i.imm h.1,
      p.extended,
    )
    (ap g (sym h.0.second))

store_again : (w : ℕ) (c : Code) (i : Inst) → 3 ≤ c.opcode → c.extended ≡ 0
    → op_with_numbers c.opcode c.extended ≡ Some i.op → form_of i.op ≡ Store → FitsForm Store i
    → Parts w c.opcode (sense_number i.sense) i.number (signed_number 512 i.imm) 0
    → inst_of_word w ≡ Some i
unfolding inst_of_word form_at store_at
store_again w c i three none e f h p =
    let g : Target → Target → Option Inst =
    λ s t. Some (record {
      op = i.op;
      sense = i.sense;
      imm = i.imm;
      number = i.number;
      first = s;
      second = t;
    }) in
    rw (
      large_again w i.op c e three none p.opcode,
      f,
      p.sense,
      sense_again i.sense,
      p.lower,
      p.upper,
      signed_again 256 i.imm h.1,
      p.extended,
    )
    (ap (λ t. g t None) (sym h.0.first) ∙ ap (λ t. g i.first t) (sym h.0.second))

branch_again : (w : ℕ) (c : Code) (i : Inst) → 3 ≤ c.opcode → c.extended ≡ 0
    → op_with_numbers c.opcode c.extended ≡ Some i.op → form_of i.op ≡ Branch → FitsForm Branch i
    → BranchParts w c.opcode (sense_number i.sense) i.number (signed_number 1048576 i.imm)
    → inst_of_word w ≡ Some i
unfolding inst_of_word form_at branch_at
branch_again w c i three none e f h p =
    let g : Target → Target → Option Inst =
    λ s t. Some (record {
      op = i.op;
      sense = i.sense;
      imm = i.imm;
      number = i.number;
      first = s;
      second = t;
    }) in
    rw (
      large_again w i.op c e three none p.opcode,
      f,
      p.sense,
      sense_again i.sense,
      p.offset,
      offset_again i.op i.imm h.1,
      p.exit,
    )
    (ap (λ t. g t None) (sym h.0.first) ∙ ap (λ t. g i.first t) (sym h.0.second))

constant_read : (w : ℕ) (c : Code) (i : Inst) → 3 ≤ c.opcode → c.extended ≡ 0
    → op_with_numbers c.opcode c.extended ≡ Some i.op → form_of i.op ≡ Constant
    → FitsForm Constant i
    → ConstantParts w c.opcode (signed_number 65536 i.imm) (target_number i.first)
    → inst_of_word w ≡ Some i
unfolding inst_of_word form_at constant_at
constant_read w c i three none e f h p =
    let g : Sense → ℕ → Target
    → Option Inst = λ s n t. Some
    (record { op = i.op; sense = s; imm = i.imm; number = n; first = i.first; second = t }) in
    rw (
      large_again w i.op c e three none p.opcode,
      f,
      p.lower,
      target_again i.first h.0.first,
      p.constant,
      constant_again i.op i.imm h.1,
    )
    (ap (λ s. g s 0 None) (sym h.3) ∙ ap (λ n. g i.sense n None) (sym h.2)
    ∙ ap (λ t. g i.sense i.number t) (sym h.0.second))

form_again : (f : Form) (c : Code) (i : Inst) → GoodCode f c
    → op_with_numbers c.opcode c.extended ≡ Some i.op → form_of i.op ≡ f → FitsForm f i
    → inst_of_word (form_word f c i) ≡ Some i
form_again General c i g e f h =
    let o : c.opcode ≡ 1 = g.0 in
    general_again _ c i g.0 e f h
    (parts c.opcode (sense_number i.sense) c.extended (target_number i.second)
    (target_number i.first) (omega arith) (sense_below i.sense) g.1
    (target_below i.second h.0.second) (target_below i.first h.0.first))
form_again Immediate c i g e f h =
    let o : c.opcode ≡ 2 = g.0 in
    immediate_again _ c i g.0 e f h
    (parts c.opcode (sense_number i.sense) c.extended (signed_number 512 i.imm)
    (target_number i.first) (omega arith) (sense_below i.sense) g.1
    (signed_below 512 i.imm (wider i.imm h.1)) (target_below i.first h.0.first))
form_again Load c i g e f h =
    let o : c.opcode < 64 = g.1 in
    load_again _ c i g.0 g.2 e f h
    (parts c.opcode (sense_number i.sense) i.number (signed_number 512 i.imm)
    (target_number i.first) (omega arith) (sense_below i.sense) h.2
    (signed_below 512 i.imm (wider i.imm h.1)) (target_below i.first h.0.first))
form_again Store c i g e f h =
    let o : c.opcode < 64 = g.1 in
    store_again _ c i g.0 g.2 e f h
    (parts c.opcode (sense_number i.sense) i.number (signed_number 512 i.imm) 0 (omega arith)
    (sense_below i.sense) h.2 (signed_below 512 i.imm (wider i.imm h.1)) (lit< tt))
form_again Branch c i g e f h =
    let o : c.opcode < 64 = g.1 in
    branch_again _ c i g.0 g.2 e f h
    (branch_parts c.opcode (sense_number i.sense) i.number (signed_number 1048576 i.imm)
    (omega arith) (sense_below i.sense) h.2
    (signed_below 1048576 i.imm (offset_fits i.op i.imm h.1)))
form_again Constant c i g e f h =
    let o : c.opcode < 64 = g.1 in
    constant_read _ c i g.0 g.2 e f h
    (constant_parts c.opcode (signed_number 65536 i.imm) (target_number i.first) (omega arith)
    (signed_below 65536 i.imm (constant_fits i.op i.imm h.1)) (target_below i.first h.0.first))

-- no word of an instruction is 0
word_positive : (f : Form) (c : Code) (i : Inst) → GoodCode f c → nat_eq (form_word f c i) 0 ≡ false
word_positive General c i g = let o : c.opcode ≡ 1 = g.0 in eq_no _ 0 (λ z. omega arith)
word_positive Immediate c i g = let o : c.opcode ≡ 2 = g.0 in eq_no _ 0 (λ z. omega arith)
word_positive Load c i g = let o : 3 ≤ c.opcode = g.0 in eq_no _ 0 (λ z. omega arith)
word_positive Store c i g = let o : 3 ≤ c.opcode = g.0 in eq_no _ 0 (λ z. omega arith)
word_positive Branch c i g = let o : 3 ≤ c.opcode = g.0 in eq_no _ 0 (λ z. omega arith)
word_positive Constant c i g = let o : 3 ≤ c.opcode = g.0 in eq_no _ 0 (λ z. omega arith)

-- a slot that is written as a word is read back
pub slot_again : (s : Option Inst) → FitsSlot s → slot_of_word (slot_word s) ≡ Some s
unfolding slot_of_word
slot_again None h = refl
slot_again (Some i) h =
    let c = code_of i.op in
    let f = form_of i.op in
    rw (
      word_positive f c i (code_good i.op),
      form_again f c i (code_good i.op) (numbers_again i.op) refl h,
    ) refl

form_below : (f : Form) (c : Code) (i : Inst) → GoodCode f c → FitsForm f i
    → form_word f c i < 2 ^ 32
form_below General c i g h =
    let o : c.opcode ≡ 1 = g.0 in let x : c.extended < 32 = g.1 in
    let a = sense_below i.sense in let b = target_below i.second h.0.second in
    let d = target_below i.first h.0.first in omega arith
form_below Immediate c i g h =
    let o : c.opcode ≡ 2 = g.0 in let x : c.extended < 32 = g.1 in
    let a = sense_below i.sense in let b = signed_below 512 i.imm (wider i.imm h.1) in
    let d = target_below i.first h.0.first in omega arith
form_below Load c i g h =
    let o : c.opcode < 64 = g.1 in let x : i.number < 32 = h.2 in
    let a = sense_below i.sense in let b = signed_below 512 i.imm (wider i.imm h.1) in
    let d = target_below i.first h.0.first in omega arith
form_below Store c i g h =
    let o : c.opcode < 64 = g.1 in let x : i.number < 32 = h.2 in
    let a = sense_below i.sense in let b = signed_below 512 i.imm (wider i.imm h.1) in omega arith
form_below Branch c i g h =
    let o : c.opcode < 64 = g.1 in
    let a = sense_below i.sense in
    let b = signed_below 1048576 i.imm (offset_fits i.op i.imm h.1) in
    let d : i.number < 8 = h.2 in omega arith
form_below Constant c i g h =
    let o : c.opcode < 64 = g.1 in
    let b = signed_below 65536 i.imm (constant_fits i.op i.imm h.1) in
    let d = target_below i.first h.0.first in omega arith

-- the word of a slot that fits has 32 bits
pub slot_below : (s : Option Inst) → FitsSlot s → slot_word s < 2 ^ 32
slot_below None f = lit< tt
slot_below (Some i) f = form_below (form_of i.op) (code_of i.op) i (code_good i.op) f
