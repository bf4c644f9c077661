-- The line of an instruction is read from its text, and judged.
use Rattle.std.proofs.Common.{◌≡◌, ℕ, ◌<◌, List, ◌∷◌, ◌++◌, append_assoc}
use Rattle.std.proofs.Common.{refl, sym, ap, subst, ◌∙◌, Option, Some, None, Bool, true}
use Rattle.std.proofs.Common.{false}
use Rattle.std.specs.Prelude.{ℤ, pos, negsuc, codes}
use Rattle.std.specs.Fmt.{decimal}
use Rattle.std.proofs.lemmas.Bool.{lt-ltb}
use Rattle.trips_isa.specs.declared.op.Op.{Op}
use Rattle.trips_isa.specs.declared.op.Op.TheVariants.{Bro, Callo, Gens}
use Rattle.trips_isa.specs.declared.form.Form.{Form}
use Rattle.trips_isa.specs.declared.form.Form.TheVariants.{General, Immediate, Load, Store, Branch}
use Rattle.trips_isa.specs.declared.form.Form.TheVariants.{Constant}
use Rattle.trips_isa.specs.declared.block.Spot.{Spot}
use Rattle.trips_isa.specs.declared.block.Inst.{Inst}
use Rattle.trips_isa.specs.Forms.{form_of}
use Rattle.trips_isa.specs.Fits.{FitsTarget, FitsSigned, FitsUnsigned, FitsOffset, FitsConstant}
use Rattle.trips_isa.specs.Fits.{FitsForm, FitsInst}
use Rattle.trips_isa.specs.Limits.{offset_half}
use Rattle.isa_table.specs.Mnemonics.{mnemonic_of}
use Rattle.isa_table.specs.Spots.{indexed, spot_text}
use Rattle.target_asm_spec.specs.Fields.{target_text, sense_text, numbers_text}
use Rattle.target_asm_spec.specs.Text.{inst_line, op_text, targets_text}
use Rattle.target_asm_spec.specs.declared.spelled.Numbers.{Numbers}
use Rattle.target_asm_spec.specs.declared.spelled.SpelledInst.{SpelledInst}
use Rattle.target_asm_spec.specs.inside.Reading.{after_in, index_in}
use Rattle.target_asm_spec.specs.Places.{maybe_spot}
use Rattle.target_asm_spec.specs.inside.Instructions.{jumps, sense_in, sense_fits}
use Rattle.target_asm_spec.specs.inside.Instructions.{fields_in}
use Rattle.target_asm_spec.specs.inside.Instructions.{operation_in, inst_in}
use Rattle.target_asm_spec.specs.Judging.{signed_in, unsigned_in, number_of, constant_of, offset_of}
use Rattle.target_asm_spec.specs.Judging.{immediate_of, inst_of}
use Rattle.target_asm_spec.proofs.Numbers.{after_front, index_again, field_again}
use Rattle.target_asm_spec.proofs.Targets.{spelled_target, maybe_again}
use Rattle.target_asm_spec.proofs.Words.{FollowsWord, space_follows, feed_follows, sense_again}
use Rattle.target_asm_spec.proofs.Words.{word_again}
use Rattle.target_asm_spec.proofs.Operations.{after_numbers, targets_stop, SmallGoal, goal_if}
use Rattle.target_asm_spec.proofs.Operations.{spelled_numbers}
use Rattle.target_asm_spec.proofs.Operations.{numbers_again, spelled_targets, targets_again}

-- an instruction in slot s as its line spells it, with the block that it names
unfoldable pub spelled_inst : ℕ → Inst → Option ℕ → SpelledInst
spelled_inst s i goal = record {
  slot = pos s;
  op = i.op;
  sense = i.sense;
  numbers = spelled_numbers (form_of i.op) i goal;
  targets = spelled_targets i;
}

targets_follow : (first second : Option Spot) (rest : List ℕ)
    → FollowsWord (after_numbers first second rest)
targets_follow (Some s) second rest = space_follows
    (spot_text s ++ (target_text second ++ 10 ∷ rest))
targets_follow None (Some s) rest = space_follows (spot_text s ++ 10 ∷ rest)
targets_follow None None rest = feed_follows rest

-- what follows a mnemonic and its predicate
numbers_follow : (f : Form) (i : Inst) (goal : Option ℕ) (rest : List ℕ)
    → FollowsWord (numbers_text f i goal ++ after_numbers i.first i.second rest)
numbers_follow General i goal rest = targets_follow i.first i.second rest
numbers_follow Immediate i goal rest = space_follows _
numbers_follow Constant i goal rest = space_follows _
numbers_follow Load i goal rest = space_follows _
numbers_follow Store i goal rest = space_follows _
numbers_follow Branch i goal rest = space_follows _

sense_good : (f : Form) (i : Inst) → FitsForm f i → sense_fits f i.sense ≡ true
sense_good General i f = refl
sense_good Immediate i f = refl
sense_good Load i f = refl
sense_good Store i f = refl
sense_good Branch i f = refl
sense_good Constant i f = ap (sense_fits Constant) f.3

fields_again : (s : ℕ) (i : Inst) (goal : Option ℕ) (rest : List ℕ) → FitsInst i → SmallGoal goal
    → fields_in (pos s) i.op i.sense (numbers_text
    (form_of i.op) i goal ++ after_numbers i.first i.second rest)
    ≡ Some (spelled_inst s i goal, rest)
unfolding fields_in spelled_inst
fields_again s i goal rest f g =
    let t : List ℕ = after_numbers i.first i.second rest in
    let a = numbers_again (form_of i.op) i goal t f g (targets_stop i.first i.second rest) in
    let b = targets_again (form_of i.op) i rest f in
    let c : after_in (codes "\n") (10 ∷ rest) ≡ Some rest = after_front (codes "\n") rest in
    rw (a, b, c) refl

operation_again : (s : ℕ) (i : Inst) (goal : Option ℕ) (rest : List ℕ) → FitsInst i → SmallGoal goal
    → operation_in (pos s) (mnemonic_of i.op
    ++ (sense_text i.sense ++ (numbers_text
    (form_of i.op) i goal ++ after_numbers i.first i.second rest)))
    ≡ Some (spelled_inst s i goal, rest)
unfolding operation_in
operation_again s i goal rest f g =
    let t : List ℕ = numbers_text (form_of i.op) i goal ++ after_numbers i.first i.second rest in
    let n : FollowsWord t = numbers_follow (form_of i.op) i goal rest in
    let w = word_again i.op i.sense t n in
    let a : sense_in (sense_text i.sense ++ t) ≡ (i.sense, t) = sense_again i.sense t n in
    let b = sense_good (form_of i.op) i f in
    rw (w.found, w.left, a, b) (fields_again s i goal rest f g)

inst_line_is : (s : ℕ) (i : Inst) (goal : Option ℕ) (rest : List ℕ) → inst_line s i goal ++ rest
    ≡ codes "N[" ++ (decimal s ++ 93 ∷ (codes " " ++ (mnemonic_of i.op ++ (sense_text i.sense
    ++ (numbers_text (form_of i.op) i goal ++ after_numbers i.first i.second rest)))))
unfolding inst_line indexed op_text targets_text
inst_line_is s i goal rest = simp append_assoc refl

-- an instruction is read as it is spelled
pub inst_again : (s : ℕ) (i : Inst) (goal : Option ℕ) (rest : List ℕ) → s < 1000000000 → FitsInst i
    → SmallGoal goal
    → inst_in (inst_line s i goal ++ rest) ≡ Some (spelled_inst s i goal, rest)
unfolding inst_in
inst_again s i goal rest l f g =
    let t : List ℕ = mnemonic_of i.op ++ (sense_text i.sense
    ++ (numbers_text (form_of i.op) i goal ++ after_numbers i.first i.second rest)) in
    let a : index_in (codes "N[") (codes "N[" ++ (decimal s ++ 93 ∷ (codes " " ++ t)))
    ≡ Some (pos s, codes " " ++ t) =
    index_again (codes "N[") s (codes " " ++ t) l in
    let b : after_in (codes " ") (codes " " ++ t) ≡ Some t = after_front (codes " ") t in
    ap inst_in (inst_line_is s i goal rest) ∙ rw (a, b) (operation_again s i goal rest f g)

-- ---- judging

-- a number that fits is judged to be itself
pub signed_judged : (half : ℕ) (z : ℤ) → FitsSigned half z → signed_in half z ≡ Some z
unfolding signed_in
signed_judged half (pos n) f = rw (lt-ltb n half f) refl
signed_judged half (negsuc n) f = rw (lt-ltb n half f) refl

unsigned_judged : (values : ℕ) (z : ℤ) → FitsUnsigned values z → unsigned_in values z ≡ Some z
unfolding unsigned_in
unsigned_judged values (pos n) f = rw (lt-ltb n values f) refl
unsigned_judged values (negsuc n) f = absurd f

constant_judged : (op : Op) (z : ℤ) → FitsConstant op z → constant_of op z ≡ Some z
unfolding constant_of
constant_judged Gens z f = signed_judged 32768 z f
constant_judged op z f = unsigned_judged 65536 z f

-- the offset of an instruction whose line is judged: 0 where the line names a block
unfoldable pub raw_jump : Bool → Option ℕ → ℤ → ℤ
raw_jump true (Some k) imm = pos 0
raw_jump true None imm = imm
raw_jump false goal imm = imm

-- the number of an instruction whose line is judged: of a branch the offset of its line, else its own
unfoldable pub raw_imm : Form → Op → Option ℕ → ℤ → ℤ
raw_imm Branch op goal imm = raw_jump (jumps op) goal imm
raw_imm General op goal imm = imm
raw_imm Immediate op goal imm = imm
raw_imm Load op goal imm = imm
raw_imm Store op goal imm = imm
raw_imm Constant op goal imm = imm

-- an instruction as its line alone tells it
unfoldable pub raw_inst : Inst → Option ℕ → Inst
raw_inst i goal = record i { imm = raw_imm (form_of i.op) i.op goal i.imm }

offset_judged : (op : Op) (goal : Option ℕ) (z : ℤ) → FitsOffset op z
    → offset_of (goal_if (jumps op) goal z) ≡ Some (raw_jump (jumps op) goal z)
unfolding raw_jump
offset_judged Bro (Some k) z f = refl
offset_judged Bro None z f = signed_judged offset_half z f
offset_judged Callo (Some k) z f = refl
offset_judged Callo None z f = signed_judged offset_half z f
offset_judged op goal z f = ap (λ (x : ℤ). Some x) (sym f)

number_judged : (f : Form) (i : Inst) (goal : Option ℕ) → FitsForm f i
    → number_of f (spelled_numbers f i goal).number ≡ Some i.number
unfolding number_of spelled_numbers
number_judged General i goal f = ap (λ (x : ℕ). Some x) (sym f.2)
number_judged Immediate i goal f = ap (λ (x : ℕ). Some x) (sym f.2)
number_judged Constant i goal f = ap (λ (x : ℕ). Some x) (sym f.2)
number_judged Load i goal f = field_again i.number 32 f.2
number_judged Store i goal f = field_again i.number 32 f.2
number_judged Branch i goal f = field_again i.number 8 f.2

immediate_judged : (f : Form) (i : Inst) (goal : Option ℕ) (s : SpelledInst) → FitsForm f i
    → s.op ≡ i.op
    → s.numbers ≡ spelled_numbers f i goal → immediate_of f s ≡ Some (raw_imm f i.op goal i.imm)
unfolding immediate_of spelled_numbers raw_imm
immediate_judged General i goal s f o e = ap (λ (x : ℤ). Some x) (sym f.1)
immediate_judged Immediate i goal s f o e =
    ap (λ (n : Numbers). signed_in 256 n.imm) e ∙ signed_judged 256 i.imm f.1
immediate_judged Load i goal s f o e = ap (λ (n : Numbers). signed_in 256 n.imm) e
    ∙ signed_judged 256 i.imm f.1
immediate_judged Store i goal s f o e = ap (λ (n : Numbers). signed_in 256 n.imm) e
    ∙ signed_judged 256 i.imm f.1
immediate_judged Constant i goal s f o e =
    ap (λ (n : Numbers). constant_of s.op n.imm) e ∙ ap (λ (x : Op). constant_of x i.imm) o
    ∙ constant_judged i.op i.imm f.1
immediate_judged Branch i goal s f o e = ap (λ (n : Numbers). offset_of n.goal) e
    ∙ offset_judged i.op goal i.imm f.1

first_fits : (f : Form) (i : Inst) → FitsForm f i → FitsTarget i.first
first_fits General i f = f.0.first
first_fits Immediate i f = f.0.first
first_fits Constant i f = f.0.first
first_fits Load i f = f.0.first
first_fits Store i f = subst FitsTarget (sym f.0.first) tt
first_fits Branch i f = subst FitsTarget (sym f.0.first) tt

second_fits : (f : Form) (i : Inst) → FitsForm f i → FitsTarget i.second
second_fits General i f = f.0.second
second_fits Immediate i f = subst FitsTarget (sym f.0.second) tt
second_fits Constant i f = subst FitsTarget (sym f.0.second) tt
second_fits Load i f = subst FitsTarget (sym f.0.second) tt
second_fits Store i f = subst FitsTarget (sym f.0.second) tt
second_fits Branch i f = subst FitsTarget (sym f.0.second) tt

-- the line of an instruction that fits is judged to be this instruction, as its line alone tells it
pub inst_judged : (s : ℕ) (i : Inst) (goal : Option ℕ) → FitsInst i
    → inst_of (spelled_inst s i goal) ≡ Some (raw_inst i goal)
unfolding inst_of spelled_inst raw_inst
inst_judged s i goal f =
    let a = number_judged (form_of i.op) i goal f in
    let sp : SpelledInst = record {
      slot = pos s;
      op = i.op;
      sense = i.sense;
      numbers = spelled_numbers (form_of i.op) i goal;
      targets = spelled_targets i;
    } in
    let b : immediate_of (form_of i.op) sp ≡ Some (raw_imm (form_of i.op) i.op goal i.imm) =
    immediate_judged (form_of i.op) i goal sp f refl refl in
    let c : maybe_spot (spelled_target i.first) ≡ Some i.first =
    maybe_again i.first (first_fits (form_of i.op) i f) in
    let d : maybe_spot (spelled_target i.second)
    ≡ Some i.second = maybe_again i.second (second_fits (form_of i.op) i f) in
    rw (a, b, c, d) refl
