-- A word that is read is the word of what was read.
use Rattle.std.proofs.Common.{◌≡◌, ℕ, ◌^◌, ◌<◌, cond, Option, Some, None, refl, sym, subst, arith}
use Rattle.std.proofs.Common.{nat_eq}
use Rattle.std.specs.Prelude.{ℤ, pos}
use Rattle.trips_isa.specs.declared.op.Op.{Op}
use Rattle.trips_isa.specs.declared.form.Form.{Form}
use Rattle.trips_isa.specs.declared.form.Form.TheVariants.{General, Immediate, Load, Store, Branch}
use Rattle.trips_isa.specs.declared.form.Form.TheVariants.{Constant}
use Rattle.trips_isa.specs.declared.block.Sense.{Sense}
use Rattle.trips_isa.specs.declared.block.Sense.TheVariants.{Always}
use Rattle.trips_isa.specs.declared.block.Inst.{Inst}
use Rattle.trips_isa.specs.Forms.{form_of}
use Rattle.trips_isa.specs.Fits.{FitsForm, FitsInst, FitsSlot}
use Rattle.isa_table.specs.declared.numbers.Code.{Code}
use Rattle.isa_table.specs.Codes.{code_of}
use Rattle.isa_table.specs.inside.Codes.{GoodCode}
use Rattle.isa_table.proofs.ByNumbers.{code_good}
use Rattle.block_image.specs.Words.{sense_number, target_number, signed_number, form_word}
use Rattle.block_image.specs.Words.{inst_word, slot_word}
use Rattle.block_image.specs.inside.WordReading.{◌>>=◌, part, sense_in, Target, target_at, signed_at}
use Rattle.block_image.specs.inside.WordReading.{pair_of, targets_at, offset_at, constant_of, general_at}
use Rattle.block_image.specs.inside.WordReading.{immediate_at, load_at, store_at, branch_at, constant_at}
use Rattle.block_image.specs.inside.WordReading.{form_at, op_in, inst_of_word, slot_of_word}
use Rattle.block_image.proofs.Fields.{bind_some, whole, branch_whole, constant_whole, sense_takes}
use Rattle.block_image.proofs.Fields.{eq_is, pick, found, nothing, Spells, target_takes}
use Rattle.block_image.proofs.Fields.{signed_takes, offset_takes, constant_takes}
use Rattle.block_image.proofs.Words.{OpIs, op_is, pair_takes}

-- What a form's reader gave: the operation that it was passed, and fields that spell the word.
record Taken (f : Form) (op : Op) (w : ℕ) (i : Inst) : Type 0 where
  pub op_is : i.op ≡ op
  pub fits : FitsForm f i
  pub word : (c : Code) → OpIs w c → GoodCode f c → form_word f c i ≡ w

general_takes : (op : Op) (w : ℕ) (i : Inst) → w < 2 ^ 32 → general_at op w ≡ Some i
    → Taken General op w i
unfolding general_at targets_at
general_takes op w i lt e =
    let make : Sense → Target × Target
    → Inst = λ s t. record {
      op = op;
      sense = s;
      imm = pos 0;
      number = 0;
      first = t.0;
      second = t.1;
    } in
    let k = bind_some (sense_in w) (λ s. targets_at w >>= λ t. Some (make s t)) i e in
    let sense = k.0 in
    let s = sense_takes (part w 8388608 4) sense k.1 in
    let b = bind_some (targets_at w) (λ t. Some (make sense t)) i k.2 in
    let t = b.0 in
    let b1 = bind_some (target_at (part w 1 512))
    (λ first. target_at (part w 512 512) >>= λ second. pair_of first second) t b.1 in
    let b2 = bind_some (target_at (part w 512 512)) (λ second. pair_of b1.0 second) t b1.2 in
    let p = pair_takes b1.0 b2.0 t b2.2 in
    let first : Spells b1.0 (part w 1 512) = target_takes (part w 1 512) b1.0 (omega arith) b1.1 in
    let second : Spells b2.0 (part w 512 512) =
    target_takes (part w 512 512) b2.0 (omega arith) b2.1 in
    let first' : Spells t.0 (part w 1 512) =
    subst (λ (v : Target). Spells v (part w 1 512)) (sym p.first) first in
    let second' : Spells t.1 (part w 512 512) =
    subst (λ (v : Target). Spells v (part w 512 512)) (sym p.second) second in
    found (Taken General op w) (make sense t) i (record {
      op_is = refl;
      fits = (record { first = first'.0; second = second'.0; order = p.fits }, refl, refl);
      word = λ c o g. let one : c.opcode ≡ 1 = g.0 in
          whole w c.opcode (sense_number sense) c.extended (target_number t.1)
          (target_number t.0) lt
          (record {
            opcode = sym o.opcode;
            sense = sym s;
            extended = sym (o.small (omega arith));
            upper = sym second'.1;
            lower = sym first'.1;
          });
    }) b.2

immediate_takes : (op : Op) (w : ℕ) (i : Inst) → w < 2 ^ 32 → immediate_at op w ≡ Some i
    → Taken Immediate op w i
unfolding immediate_at
immediate_takes op w i lt e =
    let make : Sense → Target → Inst =
    λ s t. record {
      op = op;
      sense = s;
      imm = signed_at 256 (part w 512 512);
      number = 0;
      first = t;
      second = None;
    } in
    let k = bind_some (sense_in w) (λ s. target_at (part w 1 512) >>= λ t. Some (make s t)) i e in
    let sense = k.0 in
    let s = sense_takes (part w 8388608 4) sense k.1 in
    let b = bind_some (target_at (part w 1 512)) (λ t. Some (make sense t)) i k.2 in
    let t = b.0 in
    let first : Spells t (part w 1 512) = target_takes (part w 1 512) t (omega arith) b.1 in
    let imm = signed_takes 256 (part w 512 512) (omega arith) in
    found (Taken Immediate op w) (make sense t) i (record {
      op_is = refl;
      fits = (record { first = first.0; second = refl }, imm.0, refl);
      word = λ c o g. let two : c.opcode ≡ 2 = g.0 in
          whole w c.opcode (sense_number sense) c.extended
          (signed_number 512 (signed_at 256 (part w 512 512))) (target_number t) lt
          (record {
            opcode = sym o.opcode;
            sense = sym s;
            extended = sym (o.small (omega arith));
            upper = sym imm.1;
            lower = sym first.1;
          });
    }) b.2

load_takes : (op : Op) (w : ℕ) (i : Inst) → w < 2 ^ 32 → load_at op w ≡ Some i → Taken Load op w i
unfolding load_at
load_takes op w i lt e =
    let make : Sense → Target → Inst =
    λ s t. record {
      op = op;
      sense = s;
      imm = signed_at 256 (part w 512 512);
      number = part w 262144 32;
      first = t;
      second = None;
    } in
    let k = bind_some (sense_in w) (λ s. target_at (part w 1 512) >>= λ t. Some (make s t)) i e in
    let sense = k.0 in
    let s = sense_takes (part w 8388608 4) sense k.1 in
    let b = bind_some (target_at (part w 1 512)) (λ t. Some (make sense t)) i k.2 in
    let t = b.0 in
    let first : Spells t (part w 1 512) = target_takes (part w 1 512) t (omega arith) b.1 in
    let imm = signed_takes 256 (part w 512 512) (omega arith) in
    found (Taken Load op w) (make sense t) i (record {
      op_is = refl;
      fits = (record { first = first.0; second = refl }, imm.0, omega arith);
      word = λ c o g. whole w c.opcode (sense_number sense) (part w 262144 32)
          (signed_number 512 (signed_at 256 (part w 512 512))) (target_number t) lt
          (record {
            opcode = sym o.opcode;
            sense = sym s;
            extended = refl;
            upper = sym imm.1;
            lower = sym first.1;
          });
    }) b.2

store_takes : (op : Op) (w : ℕ) (i : Inst) → w < 2 ^ 32 → store_at op w ≡ Some i
    → Taken Store op w i
unfolding store_at
store_takes op w i lt e =
    let make : Sense → Inst = λ s. record {
      op = op;
      sense = s;
      imm = signed_at 256 (part w 512 512);
      number = part w 262144 32;
      first = None;
      second = None;
    } in
    let k = bind_some (sense_in w) (λ s. cond (nat_eq (part w 1 512) 0) (Some (make s)) None) i e in
    let sense = k.0 in
    let s = sense_takes (part w 8388608 4) sense k.1 in
    let imm = signed_takes 256 (part w 512 512) (omega arith) in
    pick (Taken Store op w) (nat_eq (part w 1 512) 0) _ _ i
    (λ b. found (Taken Store op w) (make sense) i (record {
      op_is = refl;
      fits = (record { first = refl; second = refl }, imm.0, omega arith);
      word = λ c o g. whole w c.opcode (sense_number sense) (part w 262144 32)
          (signed_number 512 (signed_at 256 (part w 512 512))) 0 lt
          (record {
            opcode = sym o.opcode;
            sense = sym s;
            extended = refl;
            upper = sym imm.1;
            lower = eq_is (part w 1 512) 0 b;
          });
    })) (λ b. nothing (Taken Store op w) i) k.2

branch_takes : (op : Op) (w : ℕ) (i : Inst) → w < 2 ^ 32 → branch_at op w ≡ Some i
    → Taken Branch op w i
unfolding branch_at
branch_takes op w i lt e =
    let make : Sense → ℤ → Inst =
    λ s z. record {
      op = op;
      sense = s;
      imm = z;
      number = part w 1048576 8;
      first = None;
      second = None;
    } in
    let k = bind_some (sense_in w)
    (λ s. offset_at op (part w 1 1048576) >>= λ z. Some (make s z)) i e in
    let sense = k.0 in
    let s = sense_takes (part w 8388608 4) sense k.1 in
    let b = bind_some (offset_at op (part w 1 1048576)) (λ z. Some (make sense z)) i k.2 in
    let z = offset_takes op (part w 1 1048576) b.0 (omega arith) b.1 in
    found (Taken Branch op w) (make sense b.0) i (record {
      op_is = refl;
      fits = (record { first = refl; second = refl }, z.0, omega arith);
      word = λ c o g. branch_whole w c.opcode (sense_number sense) (part w 1048576 8)
          (signed_number 1048576 b.0) lt
          (record { opcode = sym o.opcode; sense = sym s; exit = refl; offset = sym z.1 });
    }) b.2

constant_form_takes : (op : Op) (w : ℕ) (i : Inst) → w < 2 ^ 32 → constant_at op w ≡ Some i
    → Taken Constant op w i
unfolding constant_at
constant_form_takes op w i lt e =
    let make : Target → Inst =
    λ t. record {
      op = op;
      sense = Always;
      imm = constant_of op (part w 512 65536);
      number = 0;
      first = t;
      second = None;
    } in
    let b = bind_some (target_at (part w 1 512)) (λ t. Some (make t)) i e in
    let t = b.0 in
    let first : Spells t (part w 1 512) = target_takes (part w 1 512) t (omega arith) b.1 in
    let imm = constant_takes op (part w 512 65536) (omega arith) in
    found (Taken Constant op w) (make t) i (record {
      op_is = refl;
      fits = (record { first = first.0; second = refl }, imm.0, refl, refl);
      word = λ c o g. constant_whole w c.opcode
          (signed_number 65536 (constant_of op (part w 512 65536))) (target_number t) lt
          (record { opcode = sym o.opcode; constant = sym imm.1; lower = sym first.1 });
    }) b.2

form_takes : (f : Form) (op : Op) (w : ℕ) (i : Inst) → w < 2 ^ 32 → form_at f op w ≡ Some i
    → Taken f op w i
unfolding form_at
form_takes General = general_takes
form_takes Immediate = immediate_takes
form_takes Load = load_takes
form_takes Store = store_takes
form_takes Branch = branch_takes
form_takes Constant = constant_form_takes

inst_takes : (w : ℕ) (i : Inst) → w < 2 ^ 32 → inst_of_word w ≡ Some i → FitsInst i × (inst_word i ≡ w)
unfolding inst_of_word
inst_takes w i lt e =
    let b = bind_some (op_in w) (λ op. form_at (form_of op) op w) i e in
    let op = b.0 in
    let t = form_takes (form_of op) op w i lt b.2 in
    let P : Op → Type 0 = λ o. FitsForm (form_of o) i × (form_word (form_of o) (code_of o) i ≡ w) in
    subst P (sym t.op_is) (t.fits, t.word (code_of op) (op_is w op b.1) (code_good op))

-- a word that is read as a slot is the word of the slot, which fits
pub slot_takes : (w : ℕ) (s : Option Inst) → w < 2 ^ 32 → slot_of_word w ≡ Some s → FitsSlot s
    × (slot_word s ≡ w)
unfolding slot_of_word
slot_takes w s lt =
    let P : Option Inst → Type 0 = λ s. FitsSlot s × (slot_word s ≡ w) in
    pick P (nat_eq w 0) _ _ s (λ b. found P None s (tt, sym (eq_is w 0 b))) (λ b e.
    let i = bind_some (inst_of_word w) (λ i. Some (Some i)) s e in
    let t : P (Some i.0) = inst_takes w i.0 lt i.1 in
    found P (Some i.0) s t i.2)
