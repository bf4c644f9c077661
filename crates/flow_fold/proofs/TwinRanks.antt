-- Ranks by which a node may take another that takes what comes before it, as a copy takes its twin: the other gets
-- the lower rank of the two, so that the node comes behind it.
use Rattle.std.proofs.Common.{◌≡◌, ◌≢◌, ℕ, suc, ◌*◌, ◌<◌, ◌≤◌, List, [], ◌∷◌, ◌⊎◌, inl, inr, refl, sym, ap}
use Rattle.std.proofs.Common.{subst, ◌∙◌, arith, cond, nat_eq, Bool, true, false}
use Rattle.std.specs.Prelude.{Some, None, Option, All, slice_get}
use Rattle.std.proofs.lemmas.Bool.{cases_lt, cases_eq, eq-eqb, ne_eqb, eqb-true, false≢true}
use Rattle.std.proofs.lemmas.List.Elements.{All-nil, All-cons}
use Rattle.std.proofs.lemmas.Option.{same_Some}
use Rattle.trips_isa.specs.declared.op.Op.{Op}
use Rattle.trips_isa.specs.declared.form.Form.{Form}
use Rattle.trips_isa.specs.declared.form.Form.TheVariants.{Load}
use Rattle.trips_isa.specs.Forms.{form_of}
use Rattle.ir_forms.specs.declared.flow.FlowSource.{FlowSource}
use Rattle.ir_forms.specs.declared.flow.FlowSource.TheVariants.{Read, Node}
use Rattle.ir_forms.specs.declared.flow.Guard.{Guard}
use Rattle.ir_forms.specs.declared.flow.FlowNode.{FlowNode}
use Rattle.ir_forms.specs.declared.flow.FlowBlock.{FlowBlock}
use Rattle.ir_forms.specs.inside.FlowFits.{RisesFrom, RisesFromGuard, Rises, HasOrder}
use Rattle.flow_fold.specs.inside.Copies.{covers}
use Rattle.flow_fold.specs.inside.Shares.{Twins, copy_of, may_be_shared}
use Rattle.flow_fold.specs.inside.Sweeps.{is_idle, is_idle_form}
use Rattle.flow_fold.proofs.Places.{all_at, all_of}
use Rattle.flow_fold.proofs.Forwarded.{covers_is}
use Rattle.flow_fold.proofs.Placing.{Ordered}

-- what is at most one above twice a rank is below twice a higher one
below : (x r k z : ℕ) → x ≤ suc (2 * r) → r < k → 2 * k ≤ z → x < z
below x r k z p q l = omega (arith, p, q, l)

-- what is twice a number is below what is one above twice one that is no lower
pair_below : (x y l k : ℕ) → x ≡ 2 * l → y ≡ suc (2 * k) → l ≤ k → x < y
pair_below x y l k d e p = omega (arith, d, e, p)

equal_at_most : (x y : ℕ) → x ≡ y → y ≤ x
equal_at_most x y e = omega (arith, e)

twice_below : (l x k : ℕ) → x ≡ k → l ≤ k → 2 * l ≤ suc (2 * x)
twice_below l x k e p = omega (arith, e, p)

no_higher : (x : ℕ) → x ≤ x
no_higher x = omega arith

one_higher : (x : ℕ) → x ≤ suc x
one_higher x = omega arith

-- an idle operation does not load
pub no_load : (o : Op) → is_idle o ≡ true → form_of o ≡ Load → ⊥
no_load o e l =
    let z : is_idle_form Load o ≡ true = ap (λ (x : Form). is_idle_form x o) (sym l) ∙ e in
    absurd (false≢true z)

-- a node that may have a twin does not load
unshared : (x : Form) → may_be_shared x ≡ true → x ≡ Load → ⊥
unshared x e l = absurd (false≢true (ap may_be_shared (sym l) ∙ e))

module _ (f : FlowBlock) (i j : ℕ) (a n : FlowNode) (standing : slice_get f.nodes i ≡ Some a)
    (there : slice_get f.nodes j ≡ Some n) (apart : i ≢ j) (calm : form_of a.op ≡ Load → ⊥) (rank : ℕ → ℕ)
    (order : HasOrder f rank) (lowered : Rises rank (rank j) a) where
  -- the lower rank of the two
  record Lower : Type 0 where
    low : ℕ
    first : low ≤ rank i
    second : low ≤ rank j
    rises : Rises rank low a

  lower : Lower
  lower = pick (cases_lt (rank i) (rank j))
    where
      pick : (rank i < rank j) ⊎ (rank j ≤ rank i) → Lower
      pick (inl l) = record {
        low = rank i;
        first = omega arith;
        second = omega (arith, l);
        rises = order.sources i a standing;
      }
      pick (inr l) = record { low = rank j; first = l; second = omega arith; rises = lowered }

  -- the new rank of a node
  abbrev new : ℕ → ℕ
  new y = cond (nat_eq y i) (2 * lower.low) (cond (nat_eq y j) (suc (2 * rank y)) (2 * rank y))

  at_twin : new i ≡ 2 * lower.low
  at_twin = ap (λ (b : Bool). cond b (2 * lower.low) (cond (nat_eq i j) (suc (2 * rank i)) (2 * rank i)))
      (eq-eqb i i refl)

  at_copy : new j ≡ suc (2 * rank j)
  at_copy =
      ap (λ (b : Bool). cond b (2 * lower.low) (cond (nat_eq j j) (suc (2 * rank j)) (2 * rank j)))
      (ne_eqb j i (λ e. apart (sym e)))
      ∙ ap (λ (b : Bool). cond b (suc (2 * rank j)) (2 * rank j)) (eq-eqb j j refl)

  at_most : (y : ℕ) → new y ≤ suc (2 * rank y)
  at_most y = go (nat_eq y i) refl (nat_eq y j)
    where
      go : (b : Bool) → nat_eq y i ≡ b → (c : Bool)
          → cond b (2 * lower.low) (cond c (suc (2 * rank y)) (2 * rank y)) ≤ suc (2 * rank y)
      go true e c =
          let d : rank y ≡ rank i = ap rank (eqb-true y i e) in
          let l = lower.first in
          twice_below lower.low (rank y) (rank i) d l
      go false e true = no_higher (suc (2 * rank y))
      go false e false = one_higher (2 * rank y)

  at_least : (y : ℕ) → y ≢ i → 2 * rank y ≤ new y
  at_least y d =
      subst (λ (b : Bool). 2 * rank y ≤ cond b (2 * lower.low) (cond (nat_eq y j) (suc (2 * rank y)) (2 * rank y)))
      (sym (ne_eqb y i d)) (go (nat_eq y j))
    where
      go : (c : Bool) → 2 * rank y ≤ cond c (suc (2 * rank y)) (2 * rank y)
      go true = one_higher (2 * rank y)
      go false = no_higher (2 * rank y)

  -- what rises by the old ranks rises by the new ones
  sources_rise : (k z : ℕ) → 2 * k ≤ z → (ss : List FlowSource) → All (RisesFrom rank k) ss
      → All (RisesFrom new z) ss
  sources_rise k z l ss x = all_of (RisesFrom new z) ss (λ y s e. at s (all_at (RisesFrom rank k) ss x y s e))
    where
      at : (s : FlowSource) → RisesFrom rank k s → RisesFrom new z s
      at (Read r) x = tt
      at (Node y) x = below (new y) (rank y) k z (at_most y) x l

  guards_rise : (k z : ℕ) → 2 * k ≤ z → (o : Option Guard) → RisesFromGuard rank k o → RisesFromGuard new z o
  guards_rise k z l None x = tt
  guards_rise k z l (Some g) x = below (new g.node) (rank g.node) k z (at_most g.node) x l

  rise : (k z : ℕ) → 2 * k ≤ z → (x : FlowNode) → Rises rank k x → Rises new z x
  rise k z l x r = record {
    left = sources_rise k z l x.left r.left;
    right = sources_rise k z l x.right r.right;
    guard = guards_rise k z l x.guard r.guard;
  }

  -- what stands at the first node's place is that node
  is_first : (y : ℕ) (x : FlowNode) → slice_get f.nodes y ≡ Some x → y ≡ i → a ≡ x
  is_first y x e d = same_Some a x (sym standing ∙ (ap (λ (k : ℕ). slice_get f.nodes k) (sym d) ∙ e))

  loads_apart : (y : ℕ) (x : FlowNode) → slice_get f.nodes y ≡ Some x → form_of x.op ≡ Load → y ≢ i
  loads_apart y x e l d = calm (ap (λ (z : FlowNode). form_of z.op) (is_first y x e d) ∙ l)

  ordered : HasOrder f new
  ordered = record {
    sources = λ y x e. at y x e (cases_eq y i);
    stores = λ p q x y ep eq fx fy l.
        below (new p) (rank p) (rank q) (new q) (at_most p) (order.stores p q x y ep eq fx fy l)
        (at_least q (loads_apart q y eq fy));
  }
    where
      at : (y : ℕ) (x : FlowNode) → slice_get f.nodes y ≡ Some x → (y ≡ i) ⊎ (y ≡ i → ⊥) → Rises new (new y) x
      at y x e (inl d) =
          let l : 2 * lower.low ≤ new i = equal_at_most (new i) (2 * lower.low) at_twin in
          subst (λ (z : FlowNode). Rises new (new y) z) (is_first y x e d)
          (subst (λ (k : ℕ). Rises new (new k) a) (sym d) (rise lower.low (new i) l a lower.rises))
      at y x e (inr d) = rise (rank y) (new y) (at_least y d) x (order.sources y x e)

  twin_below : new i < new j
  twin_below = pair_below (new i) (new j) lower.low (rank j) at_twin at_copy lower.second

  -- so a node that takes the first alone may stand in the place of the second, under its guard
  pub behind_ordered : (m : FlowNode) → m.left ≡ Node i ∷ [] → m.right ≡ [] → m.guard ≡ n.guard → Ordered f j m
  behind_ordered m left right guard = record {
    rank = new;
    order = ordered;
    rises = record {
      left = subst (λ (ss : List FlowSource). All (RisesFrom new (new j)) ss) (sym left)
          (All-cons (RisesFrom new (new j)) (Node i) [] twin_below (All-nil (RisesFrom new (new j))));
      right = subst (λ (ss : List FlowSource). All (RisesFrom new (new j)) ss) (sym right)
          (All-nil (RisesFrom new (new j)));
      guard = subst (λ (o : Option Guard). RisesFromGuard new (new j) o) (sym guard)
          (guards_rise (rank j) (new j) (at_least j (λ e. apart (sym e))) n.guard (order.sources j n there).guard);
    };
  }

-- what is below a node by its guard is below it by a guard that covers it
pub guard_rises : (rank : ℕ → ℕ) (k : ℕ) (g o : Option Guard) → covers o g ≡ true → RisesFromGuard rank k g
    → RisesFromGuard rank k o
guard_rises rank k g o c r = at (covers_is o g c)
  where
    at : (o ≡ None) ⊎ (o ≡ g) → RisesFromGuard rank k o
    at (inl d) = subst (λ (z : Option Guard). RisesFromGuard rank k z) (sym d) tt
    at (inr d) = subst (λ (z : Option Guard). RisesFromGuard rank k z) (sym d) r

module _ (f : FlowBlock) (i j : ℕ) (a n : FlowNode) (standing : slice_get f.nodes i ≡ Some a)
    (there : slice_get f.nodes j ≡ Some n) (apart : i ≢ j) (twins : Twins a n) (rank : ℕ → ℕ)
    (order : HasOrder f rank) where
  -- what the twin takes is below the other node too
  twin_rises : Rises rank (rank j) a
  twin_rises =
      let r = order.sources j n there in
      record {
        left = subst (λ (z : List FlowSource). All (RisesFrom rank (rank j)) z) (sym twins.left) r.left;
        right = subst (λ (z : List FlowSource). All (RisesFrom rank (rank j)) z) (sym twins.right) r.right;
        guard = guard_rises rank (rank j) n.guard a.guard twins.guard r.guard;
      }

  -- so the copy may come behind its twin
  pub copy_ordered : Ordered f j (copy_of i n)
  copy_ordered =
      behind_ordered f i j a n standing there apart
      (λ e. unshared (form_of n.op) twins.form (ap form_of (sym twins.op) ∙ e)) rank order twin_rises (copy_of i n)
      refl refl refl
