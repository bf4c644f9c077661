-- Places, and nodes that stand alone, once slot s stands at p s.
use Rattle.std.proofs.Common.{◌≡◌, ℕ, ◌+◌, ◌-◌, ◌<◌, ◌≤◌, ◌⊎◌, inl, inr, Bool, true, false}
use Rattle.std.proofs.Common.{cond, ◌==◌, ◌||◌, Option, Some, None, refl, sym, ap, ap₂}
use Rattle.std.proofs.Common.{◌∙◌, arith, nat_lt, lt-ltb, le-ltb, ltb-true, ltb-false, eqb-true}
use Rattle.std.proofs.Common.{subst}
use Rattle.std.proofs.lemmas.Bool.{eqb-false}
use Rattle.std.specs.Prelude.{option_map, nat_le, ◌&&◌}
use Rattle.std.proofs.lemmas.Bool.Decides.{nat_tests}
use Rattle.trips_isa.specs.declared.block.Spot.{Spot}
use Rattle.trips_isa.specs.declared.block.Spot.TheVariants as spot
use Rattle.trips_isa.specs.declared.block.Sense.{Sense}
use Rattle.trips_isa.specs.declared.block.Inst.{Inst}
use Rattle.trips_isa.specs.declared.block.ReadSlot.{ReadSlot}
use Rattle.trips_isa.specs.declared.form.Form.{Form}
use Rattle.trips_isa.specs.declared.form.Form.TheVariants.{General, Immediate, Load, Store, Branch}
use Rattle.trips_isa.specs.declared.form.Form.TheVariants.{Constant}
use Rattle.trips_isa.specs.declared.form.Role.{Role}
use Rattle.trips_isa.specs.declared.node.Node.{Node}
use Rattle.trips_isa.specs.Forms.{form_of}
use Rattle.trips_isa.specs.Fits.{FitsTarget, FitsOperand, FitsSecond, FitsRead, FitsForm, FitsSlot}
use Rattle.trips_isa.specs.Places.{place_of, place_at, first_place, load_bound, read_node}
use Rattle.trips_isa.specs.Places.{inst_node}
use Rattle.trips_isa.specs.Places.{targets, names}
use Rattle.grid_place.specs.Moves.{KeepsSlots, Permutes}
use Rattle.grid_place.specs.inside.Moves.{renamed, renamed_read, renamed_inst}

-- where each place stands once slot s stands at p s
unfoldable pub place_goes : (ℕ → ℕ) → ℕ → ℕ
place_goes p q = cond (nat_lt q 128) (p q) (cond (nat_lt q 256) (128 + p (q - 128))
    (cond (nat_lt q 384) (256 + p (q - 256)) q))

three : (p : ℕ → ℕ) (q : ℕ) (a b c : Bool) → nat_lt q 128 ≡ a → nat_lt q 256 ≡ b → nat_lt q 384 ≡ c
    → place_goes p q ≡ cond a (p q) (cond b (128 + p (q - 128)) (cond c (256 + p (q - 256)) q))
unfolding place_goes
three p q a b c x y z =
    ap (λ v. cond v (p q) (cond (nat_lt q 256) (128 + p (q - 128))
    (cond (nat_lt q 384) (256 + p (q - 256)) q))) x
    ∙ ap (λ v. cond a (p q) (cond v (128 + p (q - 128))
    (cond (nat_lt q 384) (256 + p (q - 256)) q))) y
    ∙ ap (λ v. cond a (p q) (cond b (128 + p (q - 128)) (cond v (256 + p (q - 256)) q))) z

-- the left operand of a slot goes with the slot
pub left_goes : (p : ℕ → ℕ) (s : ℕ) → s < 128 → place_goes p s ≡ p s
left_goes p s l = three p s true true true (lt-ltb s 128 l) (lt-ltb s 256 (omega arith))
    (lt-ltb s 384 (omega arith))

-- the right operand of a slot goes with the slot
pub right_goes : (p : ℕ → ℕ) (s : ℕ) → s < 128 → place_goes p (128 + s) ≡ 128 + p s
right_goes p s l =
    let same : 128 + s - 128 ≡ s = omega arith in
    three p (128 + s) false true true (le-ltb (128 + s) 128 (omega arith))
    (lt-ltb (128 + s) 256 (omega arith)) (lt-ltb (128 + s) 384 (omega arith))
    ∙ ap (λ t. 128 + p t) same

-- the predicate of a slot goes with the slot
pub pred_goes : (p : ℕ → ℕ) (s : ℕ) → s < 128 → place_goes p (256 + s) ≡ 256 + p s
pred_goes p s l =
    let same : 256 + s - 256 ≡ s = omega arith in
    three p (256 + s) false false true (le-ltb (256 + s) 128 (omega arith))
    (le-ltb (256 + s) 256 (omega arith)) (lt-ltb (256 + s) 384 (omega arith))
    ∙ ap (λ t. 256 + p t) same

-- Places from 384 on stay where they are.
pub place_stays : (p : ℕ → ℕ) (q : ℕ) → 384 ≤ q → place_goes p q ≡ q
place_stays p q l = three p q false false false (le-ltb q 128 (omega arith))
    (le-ltb q 256 (omega arith)) (le-ltb q 384 l)

-- a place is an operand or the predicate of a slot, or none of these
pub data Part : ℕ → Type 0 where
  left : (s : ℕ) → s < 128 → Part s
  right : (s : ℕ) → s < 128 → Part (128 + s)
  predicate : (s : ℕ) → s < 128 → Part (256 + s)
  other : (q : ℕ) → 384 ≤ q → Part q

part_is : (q r : ℕ) → r ≡ q → Part r → Part q
part_is q r e t = subst Part e t

pub part : (q : ℕ) → Part q
part q = by (nat_lt q 128) (nat_lt q 256) (nat_lt q 384) refl refl refl
  where
    by : (a b c : Bool) → nat_lt q 128 ≡ a → nat_lt q 256 ≡ b → nat_lt q 384 ≡ c → Part q
    by true b c x y z = left q (ltb-true q 128 x)
    by false true c x y z =
        let low : 128 ≤ q = ltb-false q 128 x in
        let high : q < 256 = ltb-true q 256 y in
        part_is q (128 + (q - 128)) (omega arith) (right (q - 128) (omega arith))
    by false false true x y z =
        let low : 256 ≤ q = ltb-false q 256 y in
        let high : q < 384 = ltb-true q 384 z in
        part_is q (256 + (q - 256)) (omega arith) (predicate (q - 256) (omega arith))
    by false false false x y z = other q (ltb-false q 384 z)

-- a place that goes, and goes back, is where it was
pub place_back : (p q : ℕ → ℕ) → Permutes p q → (x : ℕ) → place_goes q (place_goes p x) ≡ x
place_back p q m x = by x (part x)
  where
    by : (x : ℕ) → Part x → place_goes q (place_goes p x) ≡ x
    by x (left s l) = ap (place_goes q) (left_goes p s l)
        ∙ left_goes q (p s) (m.there.within s l) ∙ m.returns s
    by x (right s l) = ap (place_goes q) (right_goes p s l)
        ∙ right_goes q (p s) (m.there.within s l) ∙ ap (λ t. 128 + t) (m.returns s)
    by x (predicate s l) = ap (place_goes q) (pred_goes p s l)
        ∙ pred_goes q (p s) (m.there.within s l) ∙ ap (λ t. 256 + t) (m.returns s)
    by x (other s l) = ap (place_goes q) (place_stays p s l) ∙ place_stays q s l

-- places that go to one place are the same
pub place_same : (p q : ℕ → ℕ) → Permutes p q → (x y : ℕ) → place_goes p x ≡ place_goes p y → x ≡ y
place_same p q m x y e = sym (place_back p q m x) ∙ ap (place_goes q) e ∙ place_back p q m y

-- the place of an operand goes to the place of one
pub place_low : (p : ℕ → ℕ) → KeepsSlots p → (x : ℕ) → x < 384 → place_goes p x < 384
place_low p k x l = by x (part x) l
  where
    by : (x : ℕ) → Part x → x < 384 → place_goes p x < 384
    by x (left s l) m = subst (λ t. t < 384) (sym (left_goes p s l))
        (let h : p s < 128 = k.within s l in omega arith)
    by x (right s l) m = subst (λ t. t < 384) (sym (right_goes p s l))
        (let h : p s < 128 = k.within s l in omega arith)
    by x (predicate s l) m = subst (λ t. t < 384) (sym (pred_goes p s l))
        (let h : p s < 128 = k.within s l in omega arith)
    by x (other s h) m = absurd (omega arith)

abbrev is_middle : ℕ → Bool
is_middle a = nat_le 256 a && nat_lt a 384

not_middle : (a : ℕ) → (a < 256) ⊎ (384 ≤ a) → is_middle a ≡ false
not_middle a (inl l) = grind (arith, nat_tests)
not_middle a (inr l) = grind (arith, nat_tests)

in_middle : (a : ℕ) → 256 ≤ a → a < 384 → is_middle a ≡ true
in_middle a l m = grind (arith, nat_tests)

-- predicates go to predicates
pub place_middle : (p : ℕ → ℕ) → KeepsSlots p → (x : ℕ)
    → (nat_le 256 (place_goes p x) && nat_lt (place_goes p x) 384) ≡ (nat_le 256 x && nat_lt x 384)
place_middle p k x = by x (part x)
  where
    by : (x : ℕ) → Part x → is_middle (place_goes p x) ≡ is_middle x
    by x (left s l) = ap is_middle (left_goes p s l)
        ∙ not_middle (p s) (inl (let h : p s < 128 = k.within s l in omega arith))
        ∙ sym (not_middle s (inl (omega arith)))
    by x (right s l) = ap is_middle (right_goes p s l)
        ∙ not_middle (128 + p s) (inl (let h : p s < 128 = k.within s l in omega arith))
        ∙ sym (not_middle (128 + s) (inl (omega arith)))
    by x (predicate s l) = ap is_middle (pred_goes p s l)
        ∙ in_middle (256 + p s) (omega arith) (let h : p s < 128 = k.within s l in omega arith)
        ∙ sym (in_middle (256 + s) (omega arith) (omega arith))
    by x (other s h) = ap is_middle (place_stays p s h)

-- nodes ----------------------------------------------------------------------------------------

-- a node whose slot and targets are others
abbrev pub moved_node : (ℕ → ℕ) → Node → Node
moved_node r n = record {
  slot = r n.slot;
  role = n.role;
  sense = n.sense;
  first = r n.first;
  second = r n.second;
  below = n.below;
}

-- numbers are equal where their images are, under a renaming that keeps apart
pub eq_same : (r : ℕ → ℕ) → ((a b : ℕ) → r a ≡ r b → a ≡ b) → (a b : ℕ) → (r a == r b) ≡ (a == b)
eq_same r inj a b = by (r a == r b) (a == b) refl refl
  where
    by : (u v : Bool) → (r a == r b) ≡ u → (a == b) ≡ v → u ≡ v
    by true true x y = refl
    by false false x y = refl
    by true false x y = absurd (eqb-false a b y (inj a b (eqb-true (r a) (r b) x)))
    by false true x y = absurd (eqb-false (r a) (r b) x (ap r (eqb-true a b y)))

-- a renamed node names a renamed place where the node names the place
pub names_same : (r : ℕ → ℕ) → ((a b : ℕ) → r a ≡ r b → a ≡ b) → (n : Node) (q : ℕ)
    → names (targets (moved_node r n)) (r q) ≡ names (targets n) q
names_same r inj n q = ap₂ (λ u v. u || (v || false)) (eq_same r inj n.first q)
    (eq_same r inj n.second q)

pub spot_goes : (p : ℕ → ℕ) (t : Spot) → FitsTarget (Some t)
    → place_of (renamed p t) ≡ place_goes p (place_of t)
spot_goes p (spot.Left s) f = sym (left_goes p s f)
spot_goes p (spot.Right s) f = sym (right_goes p s f)
spot_goes p (spot.Pred s) f = sym (pred_goes p s f)
spot_goes p (spot.Write w) f = sym (place_stays p (384 + w) (omega arith))
spot_goes p (spot.Read r) f = absurd f
spot_goes p (spot.Inst s) f = absurd f
spot_goes p (spot.Store n) f = absurd f

pub none_goes : (p : ℕ → ℕ) → 700 ≡ place_goes p 700
none_goes p = sym (place_stays p 700 (omega arith))

pub target_goes : (p : ℕ → ℕ) (t : Option Spot) → FitsTarget t
    → place_at (option_map (renamed p) t) ≡ place_goes p (place_at t)
target_goes p None f = none_goes p
target_goes p (Some t) f = spot_goes p t f

pub absent_goes : (p : ℕ → ℕ) (t : Option Spot) → t ≡ None
    → place_at (option_map (renamed p) t) ≡ place_goes p (place_at t)
absent_goes p None f = none_goes p
absent_goes p (Some t) f = absurd (cc)

operand_fits : (t : Spot) → FitsOperand t → FitsTarget (Some t)
operand_fits (spot.Left s) f = f
operand_fits (spot.Right s) f = f
operand_fits (spot.Pred s) f = absurd f
operand_fits (spot.Write w) f = absurd f
operand_fits (spot.Read r) f = absurd f
operand_fits (spot.Inst s) f = absurd f
operand_fits (spot.Store n) f = absurd f

second_goes : (p : ℕ → ℕ) (first : Spot) (t : Option Spot) → FitsSecond first t
    → place_at (option_map (renamed p) t) ≡ place_goes p (place_at t)
second_goes p first None f = none_goes p
second_goes p first (Some t) f = spot_goes p t (operand_fits t f.0)

abbrev node : ℕ → Role → Sense → ℕ → ℕ → ℕ → Node
node s r e a b w = record { slot = s; role = r; sense = e; first = a; second = b; below = w }

node_is : (r : Role) (e : Sense) (w s s' a a' b b' : ℕ) → s ≡ s' → a ≡ a' → b ≡ b'
    → node s r e a b w ≡ node s' r e a' b' w
node_is r e w s s' a a' b b' x y z = ap (λ t. node t r e a b w) x ∙ ap (λ t. node s' r e t b w) y
    ∙ ap (λ t. node s' r e a' t w) z

-- the node of a renamed read is the read's node, renamed
pub read_goes : (p : ℕ → ℕ) (r : ReadSlot) → FitsRead r
    → read_node (renamed_read p r) ≡ moved_node (place_goes p) (read_node r)
read_goes p r f = node_is _ _ 0 449 (place_goes p 449) _ _ _ _
    (sym (place_stays p 449 (omega arith)))
    (spot_goes p r.first (operand_fits r.first f.first)) (second_goes p r.first r.second f.second)

first_goes : (p : ℕ → ℕ) (i : Inst) (t : Form) → FitsForm t i
    → first_place t i.number (option_map (renamed p) i.first)
    ≡ place_goes p (first_place t i.number i.first)
first_goes p i General f = target_goes p i.first f.0.first
first_goes p i Immediate f = target_goes p i.first f.0.first
first_goes p i Load f = target_goes p i.first f.0.first
first_goes p i Constant f = target_goes p i.first f.0.first
first_goes p i Store f = sym (place_stays p (416 + i.number) (omega arith))
first_goes p i Branch f = sym (place_stays p 448 (omega arith))

other_goes : (p : ℕ → ℕ) (i : Inst) (t : Form) → FitsForm t i
    → place_at (option_map (renamed p) i.second) ≡ place_goes p (place_at i.second)
other_goes p i General f = target_goes p i.second f.0.second
other_goes p i Immediate f = absent_goes p i.second f.0.second
other_goes p i Load f = absent_goes p i.second f.0.second
other_goes p i Constant f = absent_goes p i.second f.0.second
other_goes p i Store f = absent_goes p i.second f.0.second
other_goes p i Branch f = absent_goes p i.second f.0.second

-- the node of a renamed instruction is the instruction's node, renamed
pub inst_goes : (p : ℕ → ℕ) (j : ℕ) (o : Option Inst) → j < 128 → FitsSlot o
    → inst_node (p j) (option_map (renamed_inst p) o) ≡ moved_node (place_goes p) (inst_node j o)
inst_goes p j None l f = node_is _ _ 0 (p j) (place_goes p j) _ _ _ _ (sym (left_goes p j l))
    (none_goes p) (none_goes p)
inst_goes p j (Some i) l f = node_is _ _ (load_bound (form_of i.op) i.number) (p j)
    (place_goes p j) _ _ _ _
    (sym (left_goes p j l)) (first_goes p i (form_of i.op) f) (other_goes p i (form_of i.op) f)
