-- Words that are 0 or 1: what gives no other, in a start and where the immediates become others.
use Rattle.std.proofs.Common.{◌≡◌, ◌≢◌, ℕ, ◌<◌, List, [], ◌∷◌, ◌⊎◌, inl}
use Rattle.std.proofs.Common.{inr, refl, sym, ap, ap₂, subst, ◌∙◌, arith, cond}
use Rattle.std.proofs.Common.{Bool, true, false, not, ◌&&◌, nat_eq, map}
use Rattle.std.specs.Prelude.{ℤ, pos, negsuc, int_le, int_lt, nat_lt, nat_le, Some, None, Option, slice_get, option_map}
use Rattle.std.specs.Prelude.{slice_index}
use Rattle.std.proofs.lemmas.Bool.{and_parts, or_cases, eqb-false, ltb-true}
use Rattle.std.proofs.lemmas.Option.{slice_get-map}
use Rattle.trips_isa.specs.declared.op.Op.{Op}
use Rattle.trips_isa.specs.declared.op.Op.TheVariants as op
use Rattle.trips_isa.specs.declared.form.Form.{Form}
use Rattle.trips_isa.specs.declared.form.Form.TheVariants.{General, Immediate}
use Rattle.trips_isa.specs.declared.form.Role.{Role}
use Rattle.trips_isa.specs.declared.form.Role.TheVariants.{One, Both}
use Rattle.trips_isa.specs.declared.block.Token.TheVariants.{Null, Word}
use Rattle.trips_isa.specs.declared.block.Stored.{Stored}
use Rattle.trips_isa.specs.Alu.{alu_of, word, test, signed}
use Rattle.trips_isa.specs.Blocks.{form_computes}
use Rattle.trips_isa.specs.Forms.{form_of, role_of, size_of}
use Rattle.trips_isa.specs.Rule as rules
use Rattle.trips_isa.specs.Rule.{Answer, matched, if_matched, of_one, of_both}
use Rattle.trips_isa.specs.Stores.{bytes_seen}
use Rattle.trips_isa.specs.Tables.{or_else}
use Rattle.ir_forms.specs.declared.flow.FlowSource.{FlowSource}
use Rattle.ir_forms.specs.declared.flow.FlowSource.TheVariants.{Read, Node}
use Rattle.ir_forms.specs.declared.flow.FlowNode.{FlowNode}
use Rattle.ir_forms.specs.inside.FlowRuns.{gives, meant, first, guard_token, sense_of, inst_of}
use Rattle.flow_fold.specs.inside.Copies.{is_mov}
use Rattle.flow_fold.specs.inside.Immediates.{gives_constant}
use Rattle.flow_fold.specs.inside.Replaces.{Immediates, LeavesOwn, IsOwn, with_immediate}
use Rattle.flow_fold.specs.inside.Tests.{is_test, is_bit, is_own_bit, is_bit_node, bit_at, is_bit_source, bits_by}
use Rattle.flow_fold.specs.inside.Tests.{no_copies, plain_bits, copied_bits, are_bits}
use Rattle.flow_fold.proofs.ConstantFacts.{ConstantOf, constant_is}
use Rattle.flow_fold.proofs.Forwarded.{mov_is}
use Rattle.flow_fold.proofs.Names.{or_first, or_second}

-- a token that is no other word than 0 and 1
abbrev pub IsBitToken : Answer → Type 0
IsBitToken None = Unit {0}
IsBitToken (Some Null) = Unit {0}
IsBitToken (Some (Word w)) = w < 2

or_bit : (a b : Answer) → IsBitToken a → IsBitToken b → IsBitToken (or_else a b)
or_bit None b x y = y
or_bit (Some t) b x y = x

if_bit : (b : Bool) (t : Answer) → IsBitToken t → IsBitToken (if_matched b t)
if_bit true t x = x
if_bit false t x = tt

one_bit : (a : ℕ → ℕ) → ((x : ℕ) → a x < 2) → (l : Answer) → IsBitToken (of_one a l)
one_bit a e None = tt
one_bit a e (Some Null) = tt
one_bit a e (Some (Word x)) = e x

both_bit : (a : ℕ → ℕ → ℕ) → ((x y : ℕ) → a x y < 2) → (l r : Answer) → IsBitToken (of_both a l r)
both_bit a e None r = tt
both_bit a e (Some Null) None = tt
both_bit a e (Some Null) (Some t) = tt
both_bit a e (Some (Word x)) r = one_bit (a x) (e x) r

test_low : (b : Bool) → test b < 2
test_low true = omega arith
test_low false = omega arith

-- an operation of form G on two operands, or of form I, that gives 0 or 1
record TestOf (o : Op) : Type 0 where
  shape : ((form_of o ≡ General) × (role_of o ≡ Both)) ⊎ ((form_of o ≡ Immediate) × (role_of o ≡ One))
  low : (x y : ℕ) → alu_of o x y < 2

general : {o : Op} → form_of o ≡ General → role_of o ≡ Both → ((x y : ℕ) → alu_of o x y < 2) → TestOf o
general e d l = record { shape = inl (e, d); low = l }

immediate : {o : Op} → form_of o ≡ Immediate → role_of o ≡ One → ((x y : ℕ) → alu_of o x y < 2) → TestOf o
immediate e d l = record { shape = inr (e, d); low = l }

-- each test does
test_is : (o : Op) → is_test o ≡ true → TestOf o
test_is op.Teq e = general refl refl (λ x y. test_low (nat_eq x y))
test_is op.Tne e = general refl refl (λ x y. test_low (cond (nat_eq x y) false true))
test_is op.Tlt e = general refl refl (λ x y. test_low (int_lt (signed x) (signed y)))
test_is op.Tle e = general refl refl (λ x y. test_low (int_le (signed x) (signed y)))
test_is op.Tgt e = general refl refl (λ x y. test_low (int_lt (signed y) (signed x)))
test_is op.Tge e = general refl refl (λ x y. test_low (int_le (signed y) (signed x)))
test_is op.Tltu e = general refl refl (λ x y. test_low (nat_lt x y))
test_is op.Tleu e = general refl refl (λ x y. test_low (nat_le x y))
test_is op.Tgtu e = general refl refl (λ x y. test_low (nat_lt y x))
test_is op.Tgeu e = general refl refl (λ x y. test_low (nat_le y x))
test_is op.Teqi e = immediate refl refl (λ x y. test_low (nat_eq x y))
test_is op.Tnei e = immediate refl refl (λ x y. test_low (cond (nat_eq x y) false true))
test_is op.Tlti e = immediate refl refl (λ x y. test_low (int_lt (signed x) (signed y)))
test_is op.Tlei e = immediate refl refl (λ x y. test_low (int_le (signed x) (signed y)))
test_is op.Tgti e = immediate refl refl (λ x y. test_low (int_lt (signed y) (signed x)))
test_is op.Tgei e = immediate refl refl (λ x y. test_low (int_le (signed y) (signed x)))
test_is op.Tltui e = immediate refl refl (λ x y. test_low (nat_lt x y))
test_is op.Tleui e = immediate refl refl (λ x y. test_low (nat_le x y))
test_is op.Tgtui e = immediate refl refl (λ x y. test_low (nat_lt y x))
test_is op.Tgeui e = immediate refl refl (λ x y. test_low (nat_le y x))
test_is _ e = absurd (cc)

-- 0 and 1 are their own words
bit_word : (i : ℤ) → is_bit i ≡ true → word i < 2
bit_word (pos w) e = ltb-true w 2 (and_parts (int_le (pos 0) (pos w)) (int_lt (pos w) (pos 2)) e).1
bit_word (negsuc w) e = absurd (cc)

-- and no labels
bit_own : (i : ℤ) → is_bit i ≡ true → IsOwn i
bit_own (pos w) e = let l = bit_word (pos w) e in omega (arith, l)
bit_own (negsuc w) e = tt

not_false : (b : Bool) → not b ≡ true → b ≡ false
not_false false e = refl
not_false true e = absurd (cc)

-- IN A START

module _ (regs : ℕ → ℕ) (h : ℕ → Answer) (st : ℕ → Option Stored) (mem : List ℕ) (nodes : List FlowNode) (j : ℕ)
    (at : (k : ℕ) (n : FlowNode) → k ≢ j → slice_get nodes k ≡ Some n → h k ≡ gives regs h (meant st mem k n) n)
  where
    -- what a node that loads would see
    abbrev seen : FlowNode → ℕ → ℕ
    seen n a = bytes_seen st (slice_index mem) n.number a (size_of n.op)

    module _ (k : ℕ) (n : FlowNode) where
      abbrev computed : ℕ → ℕ → ℕ
      computed = meant st mem k n

      test_bit : TestOf n.op → IsBitToken (rules.gives (role_of n.op) computed
          (first regs h n.left) (first regs h n.right))
      test_bit t = pick t.shape
        where
          pick : ((form_of n.op ≡ General) × (role_of n.op ≡ Both))
              ⊎ ((form_of n.op ≡ Immediate) × (role_of n.op ≡ One))
              → IsBitToken (rules.gives (role_of n.op) computed (first regs h n.left) (first regs h n.right))
          pick (inl d) =
              subst (λ (z : Role). IsBitToken (rules.gives z computed (first regs h n.left) (first regs h n.right)))
              (sym d.1)
              (both_bit computed
              (λ x y. subst (λ (z : Form). form_computes z (inst_of n) (seen n) x y < 2) (sym d.0) (t.low x y))
              (first regs h n.left) (first regs h n.right))
          pick (inr d) =
              subst (λ (z : Role). IsBitToken (rules.gives z computed (first regs h n.left) (first regs h n.right)))
              (sym d.1)
              (one_bit (λ (x : ℕ). computed x 0)
              (λ x. subst (λ (z : Form). form_computes z (inst_of n) (seen n) x 0 < 2) (sym d.0)
              (t.low x (word n.imm)))
              (first regs h n.left))

      constant_bit : ConstantOf n.op → is_bit n.imm ≡ true
          → IsBitToken (rules.gives (role_of n.op) computed (first regs h n.left) (first regs h n.right))
      constant_bit c e =
          subst (λ (z : Role). IsBitToken (rules.gives z computed (first regs h n.left) (first regs h n.right)))
          (sym c.free)
          (subst (λ (z : Form). form_computes z (inst_of n) (seen n) 0 0 < 2) (sym c.form)
          (subst (λ (w : ℕ). w < 2) (sym (c.word 0 (word n.imm))) (bit_word n.imm e)))

      copy_bit : n.op ≡ op.Mov → IsBitToken (first regs h n.left)
          → IsBitToken (rules.gives (role_of n.op) computed (first regs h n.left) (first regs h n.right))
      copy_bit e x = subst (λ (o : Op). IsBitToken (rules.gives (role_of o) computed (first regs h n.left)
          (first regs h n.right))) (sym e) x

    -- what is told of sources holds of what they give
    abbrev Sound : (List FlowSource → Bool) → Type 0
    Sound p = (ss : List FlowSource) → p ss ≡ true → IsBitToken (first regs h ss)

    node_bit : (p : List FlowSource → Bool) → Sound p → (k : ℕ) (n : FlowNode) → k ≢ j → slice_get nodes k ≡ Some n
        → is_bit_node p n ≡ true → IsBitToken (h k)
    node_bit p s k n d e b =
        subst (λ (t : Answer). IsBitToken t) (sym (at k n d e))
        (if_bit (matched (sense_of n.guard) (guard_token h n.guard))
        (rules.gives (role_of n.op) (meant st mem k n) (first regs h n.left) (first regs h n.right))
        (pick (or_cases (is_own_bit n) (is_mov n.op && p n.left) b)))
      where
        owns : (is_test n.op ≡ true) ⊎ ((gives_constant n.op && is_bit n.imm) ≡ true)
            → IsBitToken (rules.gives (role_of n.op) (meant st mem k n) (first regs h n.left) (first regs h n.right))
        owns (inl t) = test_bit k n (test_is n.op t)
        owns (inr t) =
            let q = and_parts (gives_constant n.op) (is_bit n.imm) t in
            constant_bit k n (constant_is n.op q.0) q.1

        pick : (is_own_bit n ≡ true) ⊎ ((is_mov n.op && p n.left) ≡ true)
            → IsBitToken (rules.gives (role_of n.op) (meant st mem k n) (first regs h n.left) (first regs h n.right))
        pick (inl t) = owns (or_cases (is_test n.op) (gives_constant n.op && is_bit n.imm) t)
        pick (inr t) =
            let q = and_parts (is_mov n.op) (p n.left) t in
            copy_bit k n (mov_is n.op q.0) (s n.left q.1)

    bits_sound : (p : List FlowSource → Bool) → Sound p → Sound (bits_by p nodes j)
    bits_sound p s [] e = tt
    bits_sound p s (Read r ∷ rest) e = absurd (cc)
    bits_sound p s (Node k ∷ rest) e =
        let a = and_parts (is_bit_source p nodes j (Node k)) (bits_by p nodes j rest) e in
        let b = and_parts (not (nat_eq k j)) (bit_at p (slice_get nodes k)) a.0 in
        or_bit (h k) (first regs h rest)
        (at_node (eqb-false k j (not_false (nat_eq k j) b.0)) (slice_get nodes k) refl b.1)
        (bits_sound p s rest a.1)
      where
        at_node : k ≢ j → (o : Option FlowNode) → slice_get nodes k ≡ o → bit_at p o ≡ true → IsBitToken (h k)
        at_node d None q t = absurd (cc)
        at_node d (Some n) q t = node_bit p s k n d q t

    -- sources that give no other word than 0 and 1 give none
    pub bits_given : (ss : List FlowSource) → are_bits nodes j ss ≡ true → IsBitToken (first regs h ss)
    bits_given =
        bits_sound (copied_bits nodes j) (bits_sound (plain_bits nodes j) (bits_sound no_copies (λ ss e. absurd (cc))))

-- WHERE THE IMMEDIATES BECOME OTHERS

module _ (r : Immediates) (own : LeavesOwn r) where
  abbrev new : FlowNode → FlowNode
  new = with_immediate r

  own_kept : (n : FlowNode) → is_own_bit n ≡ true → is_own_bit (new n) ≡ true
  own_kept n e = pick (or_cases (is_test n.op) (gives_constant n.op && is_bit n.imm) e)
    where
      pick : (is_test n.op ≡ true) ⊎ ((gives_constant n.op && is_bit n.imm) ≡ true) → is_own_bit (new n) ≡ true
      pick (inl t) = or_first (is_test n.op) (gives_constant n.op && is_bit (r n.op n.imm)) t
      pick (inr t) =
          let q = and_parts (gives_constant n.op) (is_bit n.imm) t in
          or_second (is_test n.op) (gives_constant n.op && is_bit (r n.op n.imm))
          (ap (λ (i : ℤ). gives_constant n.op && is_bit i) (own n.op n.imm (bit_own n.imm q.1)) ∙ t)

  module _ (p q : List FlowSource → Bool) (on : (ss : List FlowSource) → p ss ≡ true → q ss ≡ true) where
    node_kept : (n : FlowNode) → is_bit_node p n ≡ true → is_bit_node q (new n) ≡ true
    node_kept n e = pick (or_cases (is_own_bit n) (is_mov n.op && p n.left) e)
      where
        pick : (is_own_bit n ≡ true) ⊎ ((is_mov n.op && p n.left) ≡ true) → is_bit_node q (new n) ≡ true
        pick (inl t) = or_first (is_own_bit (new n)) (is_mov n.op && q n.left) (own_kept n t)
        pick (inr t) =
            let d = and_parts (is_mov n.op) (p n.left) t in
            or_second (is_own_bit (new n)) (is_mov n.op && q n.left)
            (ap₂ (λ (a b : Bool). a && b) d.0 (on n.left d.1))

    at_kept : (o : Option FlowNode) → bit_at p o ≡ true → bit_at q (option_map new o) ≡ true
    at_kept None e = absurd (cc)
    at_kept (Some n) e = node_kept n e

    bits_kept : (nodes : List FlowNode) (j : ℕ) (ss : List FlowSource) → bits_by p nodes j ss ≡ true
        → bits_by q (map new nodes) j ss ≡ true
    bits_kept nodes j [] e = refl
    bits_kept nodes j (Read k ∷ rest) e = absurd (cc)
    bits_kept nodes j (Node k ∷ rest) e =
        let a = and_parts (is_bit_source p nodes j (Node k)) (bits_by p nodes j rest) e in
        let b = and_parts (not (nat_eq k j)) (bit_at p (slice_get nodes k)) a.0 in
        ap₂ (λ (x y : Bool). x && y)
        (ap₂ (λ (x y : Bool). x && y) b.0 (ap (bit_at q) (slice_get-map new nodes k) ∙ at_kept (slice_get nodes k) b.1))
        (bits_kept nodes j rest a.1)

  -- sources that give no other word than 0 and 1 give none either
  pub are_bits_kept : (nodes : List FlowNode) (j : ℕ) (ss : List FlowSource) → are_bits nodes j ss ≡ true
      → are_bits (map new nodes) j ss ≡ true
  are_bits_kept nodes j ss e =
      bits_kept (copied_bits nodes j) (copied_bits (map new nodes) j)
      (λ ls d. bits_kept (plain_bits nodes j) (plain_bits (map new nodes) j)
      (λ ks c. bits_kept no_copies no_copies (λ is b. b) nodes j ks c) nodes j ls d) nodes j ss e
