-- What a node gives more than another, as facts of both.
use Rattle.std.proofs.Common.{◌≡◌, ℕ, ◌+◌, ◌*◌, ◌%◌, ◌^◌, List, [], ◌∷◌, refl, sym, ap, ap₂, subst, ◌∙◌}
use Rattle.std.proofs.Common.{arith, map, true}
use Rattle.std.specs.Prelude.{ℤ, pos, ◌*ℤ◌}
use Rattle.std.proofs.lemmas.Nat.{mul-mod_first}
use borrow.Author.Differences.{up, down, product_is}
use Rattle.trips_isa.specs.declared.op.Op.{Op}
use Rattle.trips_isa.specs.declared.op.Op.TheVariants as op
use Rattle.trips_isa.specs.declared.form.Form.{Form}
use Rattle.trips_isa.specs.declared.form.Form.TheVariants.{General, Immediate, Constant}
use Rattle.trips_isa.specs.Alu.{alu_of, word}
use Rattle.trips_isa.specs.Forms.{form_of}
use Rattle.ir_forms.specs.declared.flow.FlowSource.TheVariants.{Node}
use Rattle.ir_forms.specs.declared.flow.FlowNode.{FlowNode}
use Rattle.flow_fold.specs.inside.Immediates.{is_small}
use Rattle.flow_fold.specs.inside.Replaces.{Immediates, with_immediate, LeavesOwn}
use Rattle.flow_fold.specs.inside.Strides.{Times, by_2, by_4, by_8, by_itself, Multiple, multiple}
use Rattle.flow_fold.specs.inside.Strides.{Ahead, scaled, at_left, at_right}
use Rattle.flow_fold.specs.inside.Sweeps.{is_idle}
use Rattle.flow_fold.proofs.ConstantFacts.{small_own}
use Rattle.flow_fold.proofs.OffsetFacts.{three, wraps}
use Rattle.flow_fold.proofs.SumFacts.{Adds, by_immediate, adds_is, adds_kept}
use Rattle.flow_fold.proofs.SumFacts as added

-- THE NUMBER

-- a product and a sum of words, without and with what is above 2^64
apart : (x d w : ℕ) → (x + d) * w ≡ x * w + d * w
apart x d w = omega arith

at_once : (y z b p q : ℕ) → b + p * 2 ^ 64 ≡ z + q * 2 ^ 64 → (y % 2 ^ 64 + b) % 2 ^ 64 ≡ (y + z) % 2 ^ 64
at_once y z b p q e = omega arith

-- the word of a multiple of a small number is the multiple of its word
multiple_word : (d : ℤ) (w : ℕ) → is_small d ≡ true → is_small (d *ℤ pos w) ≡ true
    → (p : ℕ) × (q : ℕ) × (word (d *ℤ pos w) + p * 2 ^ 64 ≡ word d * w + q * 2 ^ 64)
multiple_word d w s t =
    let a = wraps d s in
    let b = wraps (d *ℤ pos w) t in
    let m = product_is d (pos w) in (
      a.times * w,
      b.times,
      parts (word d) (word (d *ℤ pos w)) (up d) (down d) (up (d *ℤ pos w)) (down (d *ℤ pos w)) w
          a.times b.times (ap (λ (z : ℕ). z * w) a.is) b.is m.0 m.1,
    )
  where
    parts : (d b u v y z w s t : ℕ) → (d + v) * w ≡ (u + s * 2 ^ 64) * w → b + z ≡ y + t * 2 ^ 64
        → y ≡ u * w + v * 0 → z ≡ u * 0 + v * w → b + s * w * 2 ^ 64 ≡ d * w + t * 2 ^ 64
    parts d b u v y z w s t e f g h = omega (arith, e, f, g, h)

-- so a multiple of a sum is a sum of multiples
summed : (x : ℕ) (d : ℤ) (w : ℕ) → is_small d ≡ true → is_small (d *ℤ pos w) ≡ true
    → ((x * w) % 2 ^ 64 + word (d *ℤ pos w)) % 2 ^ 64 ≡ ((x + word d) % 2 ^ 64 * w) % 2 ^ 64
summed x d w s t =
    let m = multiple_word d w s t in
    at_once (x * w) (word d * w) (word (d *ℤ pos w)) m.0 m.1 m.2
    ∙ (sym (ap (λ (y : ℕ). y % 2 ^ 64) (apart x (word d) w)) ∙ sym (mul-mod_first (x + word d) w (2 ^ 64)))

-- an operation with immediate i multiplies by w
record Multiplies (o : Op) (i w : ℤ) : Type 0 where
  form : form_of o ≡ Immediate
  idle : is_idle o ≡ true
  given : is_small i ≡ true
  factor : ℕ
  is : w ≡ pos factor
  same : (x : ℕ) → alu_of o x (word i) ≡ (x * factor) % 2 ^ 64

multiplies : (o : Op) (i w : ℤ) → Times o i w → is_small w ≡ true → Multiplies o i w
multiplies o i w (by_2 p q r) s =
    subst (λ (z : Op). Multiplies z i w) (sym p)
    (subst (λ (z : ℤ). Multiplies op.Slli z w) (sym q)
    (record { form = refl; idle = refl; given = refl; factor = 2; is = r; same = λ x. refl }))
multiplies o i w (by_4 p q r) s =
    subst (λ (z : Op). Multiplies z i w) (sym p)
    (subst (λ (z : ℤ). Multiplies op.Slli z w) (sym q)
    (record { form = refl; idle = refl; given = refl; factor = 4; is = r; same = λ x. refl }))
multiplies o i w (by_8 p q r) s =
    subst (λ (z : Op). Multiplies z i w) (sym p)
    (subst (λ (z : ℤ). Multiplies op.Slli z w) (sym q)
    (record { form = refl; idle = refl; given = refl; factor = 8; is = r; same = λ x. refl }))
multiplies o i w (by_itself k p q t r) s =
    subst (λ (z : Op). Multiplies z i w) (sym p)
    (record {
      form = refl;
      idle = refl;
      given = t;
      factor = k;
      is = r ∙ q;
      same = λ x. ap (λ (z : ℤ). (x * word z) % 2 ^ 64) q;
    })

-- which is small
pub times_small : (o : Op) (i w : ℤ) → Times o i w → is_small w ≡ true
times_small o i w (by_2 p q r) = ap is_small r
times_small o i w (by_4 p q r) = ap is_small r
times_small o i w (by_8 p q r) = ap is_small r
times_small o i w (by_itself k p q t r) = ap is_small r ∙ t

-- and so is what a multiple is more
pub multiple_small : (nodes : List FlowNode) (c n : FlowNode) (b : ℤ) → Multiple nodes c n b → is_small b ≡ true
multiple_small nodes c n b (multiple d w e t p) =
    let z = three d w (d *ℤ w) b p in
    subst (λ (y : ℤ). is_small y ≡ true) z.is z.third

-- THE NODES

-- both nodes multiply by one number, and n multiplies what is more by what node k adds
pub record Scaled (nodes : List FlowNode) (k : ℕ) (c a n : FlowNode) (b : ℤ) : Type 0 where
  pub at : n.left ≡ Node k ∷ []
  pub left : a.left ≡ c.left
  pub right : a.right ≡ n.right
  pub op : a.op ≡ n.op
  pub imm : a.imm ≡ n.imm
  pub number : ℤ
  pub adds : Adds nodes c number
  pub form : form_of n.op ≡ Immediate
  pub idle : is_idle n.op ≡ true
  pub own : is_small n.imm ≡ true
  pub factor : ℕ
  pub times : (x : ℕ) → alu_of n.op x (word n.imm) ≡ (x * factor) % 2 ^ 64
  pub small : is_small b ≡ true
  pub same : (x : ℕ)
      → ((x * factor) % 2 ^ 64 + word b) % 2 ^ 64 ≡ ((x + word number) % 2 ^ 64 * factor) % 2 ^ 64

-- both add something else, n to what node k gives at its left
pub record AtLeft (nodes : List FlowNode) (k : ℕ) (c a n : FlowNode) (b : ℤ) : Type 0 where
  pub at : n.left ≡ Node k ∷ []
  pub left : a.left ≡ c.left
  pub right : a.right ≡ n.right
  pub base : a.op ≡ op.Add
  pub sum : n.op ≡ op.Add
  pub adds : Adds nodes c b
  pub small : is_small b ≡ true

-- the same at its right
pub record AtRight (nodes : List FlowNode) (k : ℕ) (c a n : FlowNode) (b : ℤ) : Type 0 where
  pub at : n.right ≡ Node k ∷ []
  pub right : a.right ≡ c.left
  pub left : a.left ≡ n.left
  pub base : a.op ≡ op.Add
  pub sum : n.op ≡ op.Add
  pub adds : Adds nodes c b
  pub small : is_small b ≡ true

-- node n gives b more than node a
pub data Leads (nodes : List FlowNode) (k : ℕ) (c a n : FlowNode) (b : ℤ) : Type 0 where
  by_scale : Scaled nodes k c a n b → Leads nodes k c a n b
  by_left : AtLeft nodes k c a n b → Leads nodes k c a n b
  by_right : AtRight nodes k c a n b → Leads nodes k c a n b

-- what a node adds is small
pub adds_small : (nodes : List FlowNode) (c : FlowNode) (b : ℤ) → Adds nodes c b → is_small b ≡ true
adds_small nodes c b (by_immediate a) = a.small
adds_small nodes c b (added.at_right a) = a.small

-- it does where the rule finds it ahead
pub leads : (nodes : List FlowNode) (k : ℕ) (c a n : FlowNode) (b : ℤ) → Ahead nodes k c a n b → Leads nodes k c a n b
leads nodes k c a n b (scaled l al ar o i (multiple d w e t p)) =
    let z = three d w (d *ℤ w) b p in
    let m = multiplies n.op n.imm w t z.second in
    by_scale (record {
      at = l;
      left = al;
      right = ar;
      op = o;
      imm = i;
      number = d;
      adds = adds_is nodes c d c.op refl e;
      form = m.form;
      idle = m.idle;
      own = m.given;
      factor = m.factor;
      times = m.same;
      small = subst (λ (y : ℤ). is_small y ≡ true) z.is z.third;
      same = λ x.
          ap (λ (y : ℤ). ((x * m.factor) % 2 ^ 64 + word y) % 2 ^ 64)
          (sym z.is ∙ ap (λ (y : ℤ). d *ℤ y) m.is)
          ∙ summed x d m.factor z.first (subst (λ (y : ℤ). is_small (d *ℤ y) ≡ true) m.is z.third);
    })
leads nodes k c a n b (at_left l al ar o p e) =
    let s = adds_is nodes c b c.op refl e in
    by_left (record { at = l; left = al; right = ar; base = o; sum = p; adds = s; small = adds_small nodes c b s })
leads nodes k c a n b (at_right l al ar o p e) =
    let s = adds_is nodes c b c.op refl e in
    by_right (record { at = l; right = al; left = ar; base = o; sum = p; adds = s; small = adds_small nodes c b s })

-- an idle operation is no constant where it is general or takes an immediate
general_plain : (x : Form) → x ≡ General → x ≡ Constant → ⊥
general_plain x e d = absurd (let z = sym e ∙ d in cc)

immediate_plain : (x : Form) → x ≡ Immediate → x ≡ Constant → ⊥
immediate_plain x e d = absurd (let z = sym e ∙ d in cc)

module _ (nodes : List FlowNode) (k : ℕ) (c a n : FlowNode) (b : ℤ) where
  -- both nodes have one operation
  pub lead_op : Leads nodes k c a n b → a.op ≡ n.op
  lead_op (by_scale s) = s.op
  lead_op (by_left s) = s.base ∙ sym s.sum
  lead_op (by_right s) = s.base ∙ sym s.sum

  -- which does nothing but give a token
  pub lead_idle : Leads nodes k c a n b → is_idle n.op ≡ true
  lead_idle (by_scale s) = s.idle
  lead_idle (by_left s) = ap is_idle s.sum
  lead_idle (by_right s) = ap is_idle s.sum

  -- and makes no constant
  pub lead_plain : Leads nodes k c a n b → form_of n.op ≡ Constant → ⊥
  lead_plain (by_scale s) e = immediate_plain (form_of n.op) s.form e
  lead_plain (by_left s) e = general_plain (form_of n.op) (ap form_of s.sum) e
  lead_plain (by_right s) e = general_plain (form_of n.op) (ap form_of s.sum) e

  -- the number is small
  pub lead_small : Leads nodes k c a n b → is_small b ≡ true
  lead_small (by_scale s) = s.small
  lead_small (by_left s) = s.small
  lead_small (by_right s) = s.small

-- NEW IMMEDIATES

-- new immediates leave it
pub leads_kept : (r : Immediates) (own : LeavesOwn r) (nodes : List FlowNode) (k : ℕ) (c a n : FlowNode) (b : ℤ)
    → Leads nodes k c a n b
    → Leads (map (with_immediate r) nodes) k (with_immediate r c) (with_immediate r a) (with_immediate r n) b
leads_kept r own nodes k c a n b (by_scale s) =
    let e = own n.op n.imm (small_own n.imm s.own) in
    by_scale (record {
      at = s.at;
      left = s.left;
      right = s.right;
      op = s.op;
      imm = ap₂ r s.op s.imm;
      number = s.number;
      adds = adds_kept r own nodes c s.number s.adds;
      form = s.form;
      idle = s.idle;
      own = ap is_small e ∙ s.own;
      factor = s.factor;
      times = λ x. ap (λ (z : ℤ). alu_of n.op x (word z)) e ∙ s.times x;
      small = s.small;
      same = s.same;
    })
leads_kept r own nodes k c a n b (by_left s) =
    by_left (record {
      at = s.at;
      left = s.left;
      right = s.right;
      base = s.base;
      sum = s.sum;
      adds = adds_kept r own nodes c b s.adds;
      small = s.small;
    })
leads_kept r own nodes k c a n b (by_right s) =
    by_right (record {
      at = s.at;
      right = s.right;
      left = s.left;
      base = s.base;
      sum = s.sum;
      adds = adds_kept r own nodes c b s.adds;
      small = s.small;
    })
