-- A text begins with one line at most, as far as its fields go.
use Rattle.std.proofs.Common.{◌≡◌, ℕ, suc, ◌+◌, ◌/◌, ◌^◌, ◌<◌, ◌≤◌, List, refl, sym}
use Rattle.std.proofs.Common.{ap, subst, ◌∙◌, arith, Option, Some, None}
use Rattle.std.specs.Prelude.{ℤ, pos, negsuc, get_or}
use Rattle.trips_isa.specs.declared.op.Op.{Op}
use Rattle.trips_isa.specs.declared.op.Op.TheVariants.{Bro, Callo}
use Rattle.trips_isa.specs.declared.form.Form.{Form}
use Rattle.trips_isa.specs.declared.form.Form.TheVariants.{General, Immediate, Load, Store, Branch}
use Rattle.trips_isa.specs.declared.form.Form.TheVariants.{Constant}
use Rattle.trips_isa.specs.Forms.{form_of}
use Rattle.trips_isa.specs.Limits.{most_chunks}
use Rattle.target_asm_spec.specs.declared.spelled.Goal.{Goal}
use Rattle.target_asm_spec.specs.declared.spelled.Numbers.{Numbers}
use Rattle.target_asm_spec.specs.declared.spelled.SpelledInst.{SpelledInst}
use Rattle.target_asm_spec.specs.declared.spelled.SpelledRead.{SpelledRead}
use Rattle.target_asm_spec.specs.declared.spelled.SpelledWrite.{SpelledWrite}
use Rattle.target_asm_spec.specs.Registers.{read_of}
use Rattle.target_asm_spec.specs.inside.Registers.{read_in, write_line_in, block_line_in}
use Rattle.target_asm_spec.specs.inside.Instructions.{inst_in}
use Rattle.target_asm_spec.specs.Judging.{inst_of}
use Rattle.target_asm_spec.specs.Lines.{inst_words, read_words, write_words, block_words, MayHaveGoal}
use Rattle.target_asm_spec.specs.LinePlaces.{Line, line_words, Place, after, size_of, IsNext, MayStand}
use Rattle.target_asm_spec.specs.LinePlaces.{Below, InFields, goal_of_line}
use Rattle.target_asm_spec.specs.LinePlaces as line
use Rattle.target_asm_laws.proofs.Numerals.{capped, capped_small, capped_z}
use Rattle.target_asm_laws.proofs.FaultRows.{capped_read, read_read, capped_write}
use Rattle.target_asm_laws.proofs.Operands.{same_rest, same_item}
use Rattle.target_asm_laws.proofs.FaultRows.{write_line_read, block_read}
use Rattle.target_asm_laws.proofs.Insts.{capped_goal, capped_numbers, capped_inst, inst_read}
use Rattle.target_asm_laws.proofs.Capped.{same_capped, inst_capped, read_capped}

-- what two lines that begin one text have in common
pub record SameLine (p : Place) (l m : Line) (t u : List ℕ) : Type 0 where
  pub rest : t ≡ u
  pub fields : InFields p l → InFields p m
  pub next : InFields p l → after p l ≡ after p m
  pub goal : capped_goal (goal_of_line l) ≡ capped_goal (goal_of_line m)

-- ---- numbers

pub next_same : (o : Option ℕ) (y z : ℤ) → IsNext o y → IsNext o z → y ≡ z
next_same None y z a b = absurd a
next_same (Some i) y z a b = a ∙ sym b

-- a number below a limit is the only one that is read as it
pub small_same : (m : ℕ) (y z : ℤ) → m ≤ 999999999 → Below m y → capped_z y ≡ capped_z z → y ≡ z
small_same m (pos n) (pos k) l b e =
    let c : capped n ≡ n = capped_small n (omega (arith, l, b)) in
    let d : capped n ≡ capped k = ap size_of e in
    ap pos (sym (same_capped n (omega (arith, l, b)) k (sym d ∙ c)))
small_same m (pos n) (negsuc k) l b e = absurd cc
small_same m (negsuc n) z l b e = absurd b

-- ---- the first letter of a line

-- the letter with which a line begins
abbrev pub letter : Line → ℕ
letter (line.block k mask) = 98
letter (line.read s) = 82
letter (line.write s) = 87
letter (line.inst s) = 78

-- the words of a line begin with its letter
pub letter_is : (l : Line) (t : List ℕ) → get_or (line_words l t) 0 0 ≡ letter l
unfolding line_words block_words read_words write_words inst_words
letter_is (line.block k mask) t = refl
letter_is (line.read s) t = refl
letter_is (line.write s) t = refl
letter_is (line.inst s) t = refl

pub same_letter : (l m : Line) (t u : List ℕ) → line_words l t ≡ line_words m u → letter l ≡ letter m
same_letter l m t u e = sym (letter_is l t) ∙ ap (λ (x : List ℕ). get_or x 0 0) e ∙ letter_is m u

-- ---- the same line twice

blocks_same : (p : Place) (k j : ℤ) (mask other : ℕ) (t u : List ℕ) → mask < 2 ^ 32 → other < 2 ^ 32
    → block_words k mask t ≡ block_words j other u
    → SameLine p (line.block k mask) (line.block j other) t u
blocks_same p k j mask other t u a b e = record {
  rest = same_rest (record { number = capped_z k; mask = mask })
      (record { number = capped_z j; mask = other }) t u
      (sym (block_read k mask t a) ∙ ap block_line_in e ∙ block_read j other u b);
  fields = λ f. f;
  next = λ f. refl;
  goal = refl;
}

reads_same : (p : Place) (s r : SpelledRead) (t u : List ℕ) → MayStand p (line.read s)
    → MayStand p (line.read r) → read_words s t ≡ read_words r u
    → SameLine p (line.read s) (line.read r) t u
reads_same p s r t u a b e =
    let both = sym (read_read s t a.1) ∙ ap read_in e ∙ read_read r u b.1 in
    let number : s.number ≡ r.number = next_same p.next_read s.number r.number a.0 b.0 in
    let same : capped_read s ≡ capped_read r = same_item (capped_read s) (capped_read r) t u both in
    let judged : read_of r ≡ read_of s = sym (read_capped r) ∙ ap read_of (sym same) ∙ read_capped s in
    record {
      rest = same_rest (capped_read s) (capped_read r) t u both;
      fields = λ f. (subst (Below 32) number f.0, (f.1.0, judged ∙ f.1.1));
      next = λ f. ap (λ (z : ℤ). record p { next_read = Some (suc (size_of z)) }) number;
      goal = refl;
    }

writes_same : (p : Place) (s r : SpelledWrite) (t u : List ℕ) → MayStand p (line.write s)
    → MayStand p (line.write r) → write_words s t ≡ write_words r u
    → SameLine p (line.write s) (line.write r) t u
writes_same p s r t u a b e =
    let both = sym (write_line_read s t) ∙ ap write_line_in e ∙ write_line_read r u in
    let number : s.number ≡ r.number = next_same p.next_write s.number r.number a b in
    let same : capped_write s ≡ capped_write r = same_item (capped_write s) (capped_write r) t u both in
    record {
      rest = same_rest (capped_write s) (capped_write r) t u both;
      fields = λ f. (
        subst (Below 32) number f.0,
        subst (Below 128) (small_same 128 s.register r.register (omega arith) f.1
            (ap (λ (x : SpelledWrite). x.register) same)) f.1,
      );
      next = λ f. ap (λ (z : ℤ). record p { next_read = None; next_write = Some (suc (size_of z)) })
          number;
      goal = refl;
    }

-- the goal of an operation that says where it goes
abbrev pub HasGoal : Form → Op → Option Goal → Type 0
HasGoal Branch op goal = MayHaveGoal op goal
HasGoal form op goal = goal ≡ None

-- an operation that may have this goal has it in its form
pub has_goal : (op : Op) (g : Option Goal) → MayHaveGoal op g → HasGoal (form_of op) op g
has_goal Bro g h = h
has_goal Callo g h = h
has_goal op g h = h

-- the goal of an instruction's numbers is kept with them
pub goal_kept : (f : Form) (op : Op) (n : Numbers) → HasGoal f op n.goal
    → (capped_numbers f n).goal ≡ capped_goal n.goal
goal_kept Branch op n h = refl
goal_kept General op n h = ap capped_goal (sym h)
goal_kept Immediate op n h = ap capped_goal (sym h)
goal_kept Constant op n h = ap capped_goal (sym h)
goal_kept Load op n h = ap capped_goal (sym h)
goal_kept Store op n h = ap capped_goal (sym h)

insts_same : (p : Place) (s r : SpelledInst) (t u : List ℕ) → MayStand p (line.inst s)
    → MayStand p (line.inst r) → inst_words s t ≡ inst_words r u
    → SameLine p (line.inst s) (line.inst r) t u
insts_same p s r t u a b e =
    let both = sym (inst_read s t a.1) ∙ ap inst_in e ∙ inst_read r u b.1 in
    let same : capped_inst s ≡ capped_inst r = same_item (capped_inst s) (capped_inst r) t u both in
    let judged : inst_of r ≡ inst_of s = sym (inst_capped r) ∙ ap inst_of (sym same) ∙ inst_capped s in
    let slot : Below 128 s.slot → s.slot ≡ r.slot = λ f.
    small_same 128 s.slot r.slot (omega arith) f (ap (λ (x : SpelledInst). x.slot) same) in
    record {
      rest = same_rest (capped_inst s) (capped_inst r) t u both;
      fields = λ f. (
        subst (Below 128) (slot f.0) f.0,
        (f.1.0, judged ∙ f.1.1),
        subst (λ (z : ℤ). p.here + 2 + size_of z / 32 ≤ most_chunks) (slot f.0) f.2,
      );
      next = λ f. ap (λ (z : ℤ). after p (line.inst (record s { slot = z }))) (slot f.0);
      goal =
          sym (goal_kept (form_of s.op) s.op s.numbers (has_goal s.op s.numbers.goal a.1.goal))
          ∙ ap (λ (x : SpelledInst). x.numbers.goal) same
          ∙ goal_kept (form_of r.op) r.op r.numbers (has_goal r.op r.numbers.goal b.1.goal);
    }

-- two lines that may stand at a place and spell the same text are the same line
pub one_line : (p : Place) (l m : Line) (t u : List ℕ) → MayStand p l → MayStand p m
    → line_words l t ≡ line_words m u → SameLine p l m t u
unfolding line_words
one_line p (line.block k mask) (line.block j other) t u a b e =
    blocks_same p k j mask other t u a.1 b.1 e
one_line p (line.read s) (line.read r) t u a b e = reads_same p s r t u a b e
one_line p (line.write s) (line.write r) t u a b e = writes_same p s r t u a b e
one_line p (line.inst s) (line.inst r) t u a b e = insts_same p s r t u a b e
one_line p (line.block k mask) (line.read r) t u a b e =
    absurd (let c = same_letter (line.block k mask) (line.read r) t u e in omega (arith, c))
one_line p (line.block k mask) (line.write r) t u a b e =
    absurd (let c = same_letter (line.block k mask) (line.write r) t u e in omega (arith, c))
one_line p (line.block k mask) (line.inst r) t u a b e =
    absurd (let c = same_letter (line.block k mask) (line.inst r) t u e in omega (arith, c))
one_line p (line.read s) (line.block k mask) t u a b e =
    absurd (let c = same_letter (line.read s) (line.block k mask) t u e in omega (arith, c))
one_line p (line.read s) (line.write r) t u a b e =
    absurd (let c = same_letter (line.read s) (line.write r) t u e in omega (arith, c))
one_line p (line.read s) (line.inst r) t u a b e =
    absurd (let c = same_letter (line.read s) (line.inst r) t u e in omega (arith, c))
one_line p (line.write s) (line.block k mask) t u a b e =
    absurd (let c = same_letter (line.write s) (line.block k mask) t u e in omega (arith, c))
one_line p (line.write s) (line.read r) t u a b e =
    absurd (let c = same_letter (line.write s) (line.read r) t u e in omega (arith, c))
one_line p (line.write s) (line.inst r) t u a b e =
    absurd (let c = same_letter (line.write s) (line.inst r) t u e in omega (arith, c))
one_line p (line.inst s) (line.block k mask) t u a b e =
    absurd (let c = same_letter (line.inst s) (line.block k mask) t u e in omega (arith, c))
one_line p (line.inst s) (line.read r) t u a b e =
    absurd (let c = same_letter (line.inst s) (line.read r) t u e in omega (arith, c))
one_line p (line.inst s) (line.write r) t u a b e =
    absurd (let c = same_letter (line.inst s) (line.write r) t u e in omega (arith, c))
