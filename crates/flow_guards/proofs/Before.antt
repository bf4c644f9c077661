-- The table of a block before nodes lose their guards, from a table of the block afterwards: what fires though its
-- guard is not met gives nothing.
use Rattle.std.proofs.Common.{◌≡◌, ℕ, ◌+◌, ◌≤◌, List, [], ◌∷◌, refl, sym, ap, ap₂, ◌∙◌, arith, cond}
use Rattle.std.proofs.Common.{Bool, true, false, not, ◌&&◌, ◌||◌, ◌⊎◌, inl, inr}
use Rattle.std.specs.Prelude.{Option, Some, None}
use Rattle.trips_isa.specs.Forms.{role_of}
use Rattle.trips_isa.specs.Rule.{Answer, matched, if_matched}
use Rattle.trips_isa.specs.Rule as by_rule
use Rattle.trips_isa.specs.Tables.{or_else}
use Rattle.ir_forms.specs.declared.flow.FlowSource.{FlowSource}
use Rattle.ir_forms.specs.declared.flow.FlowSource.TheVariants.{Read, Node}
use Rattle.ir_forms.specs.declared.flow.Guard.{Guard}
use Rattle.ir_forms.specs.declared.flow.FlowNode.{FlowNode}
use Rattle.ir_forms.specs.inside.FlowRuns.{got, first, sense_of, guard_token, gives, met, present, count}
use Rattle.flow_guards.specs.inside.Guards.{Guards, implies, most_around}
use Rattle.flow_guards.specs.inside.Unguards.{Loses, is_pure, is_kept, all_kept, guard_kept, may_stand}
use Rattle.flow_guards.specs.inside.Unguards.{are_right, is_right, loosened}
use Rattle.flow_guards.proofs.Implied.{each, one_of, denied}

-- what a node that is right has
pub record Right (guards : Guards) (loses : Loses) (j : ℕ) (n : FlowNode) : Type 0 where
  pub pure : loses j ≡ true → is_pure n.op ≡ true
  pub guard : guard_kept loses n.guard ≡ true
  pub left : are_right guards loses n.guard n.left ≡ true
  pub right : are_right guards loses n.guard n.right ≡ true

-- a node that passes the test has it
pub is_right_so : (guards : Guards) (loses : Loses) (j : ℕ) (n : FlowNode) → is_right guards loses j n ≡ true
    → Right guards loses j n
is_right_so guards loses j n e =
    let a = each (not (loses j) || is_pure n.op) _ e in
    let b = each (guard_kept loses n.guard) _ a.1 in
    let c = each (are_right guards loses n.guard n.left) _ b.1 in
    record {
      pure = λ l. by (loses j) l a.0;
      guard = b.0;
      left = c.0;
      right = c.1;
    }
  where
    by : (b : Bool) → b ≡ true → (not b || is_pure n.op) ≡ true → is_pure n.op ≡ true
    by b l o = go (one_of (not b) (is_pure n.op) o)
      where
        go : (not b ≡ true) ⊎ (is_pure n.op ≡ true) → is_pure n.op ≡ true
        go (inl d) = absurd (cc)
        go (inr d) = d

-- one token is no more than one
low : (t : Answer) → present t + 0 ≤ 1
low None = omega arith
low (Some t) = omega arith

-- what is the same where something is so is the same where it is asked for
same_if : (m : Bool) (x y : Answer) → (m ≡ true → x ≡ y) → if_matched m x ≡ if_matched m y
same_if true x y f = f refl
same_if false x y f = refl

same_both : (b : Bool) (x : Answer) → cond b x x ≡ x
same_both true x = refl
same_both false x = refl

by_met : (m : Bool) (t x : Answer) → t ≡ x → cond m t None ≡ if_matched m x
by_met true t x e = e
by_met false t x e = refl

module _ (guards : Guards) (loses : Loses) (h : ℕ → Answer) where
  -- what node j gave before
  abbrev pub before : ℕ → Answer
  before j = cond (loses j) (cond (met h (guards j)) (h j) None) (h j)

  -- a node that keeps its guard gave what it gives
  pub kept : (j : ℕ) → loses j ≡ false → before j ≡ h j
  kept j e = ap (λ (b : Bool). cond b (cond (met h (guards j)) (h j) None) (h j)) e

  -- and so did one whose guard is met
  was_met : (j : ℕ) → met h (guards j) ≡ true → before j ≡ h j
  was_met j e = ap (λ (b : Bool). cond (loses j) (cond b (h j) None) (h j)) e ∙ same_both (loses j) (h j)

  -- the token at a guard is what it was
  pub token_kept : (g : Option Guard) → guard_kept loses g ≡ true → guard_token before g ≡ guard_token h g
  token_kept None e = refl
  token_kept (Some g) e = kept g.node (denied (loses g.node) e)

  -- so guards are met where they were
  pub met_kept : (g : Option Guard) → guard_kept loses g ≡ true → met before g ≡ met h g
  met_kept g e = ap (λ (t : Answer). matched (sense_of g) t) (token_kept g e)

  -- a guard that is found to be met wherever another is, is met where that is
  abbrev pub Sure : Type 0
  Sure = (outer inner : Option Guard) → guard_kept loses inner ≡ true
      → implies guards most_around outer inner ≡ true → met h inner ≡ true → met h outer ≡ true

  module _ (regs : ℕ → ℕ) where
    got_kept : (x : FlowSource) → is_kept loses x ≡ true → got regs before x ≡ got regs h x
    got_kept (Read r) e = refl
    got_kept (Node k) e = kept k (denied (loses k) e)

    -- sources that keep their guards give what they gave
    pub first_kept : (ss : List FlowSource) → all_kept loses ss ≡ true → first regs before ss ≡ first regs h ss
    first_kept [] e = refl
    first_kept (x ∷ ss) e =
        let parts = each (is_kept loses x) (all_kept loses ss) e in
        ap₂ (λ (t u : Answer). or_else t u) (got_kept x parts.0) (first_kept ss parts.1)

    -- and as many tokens
    pub count_kept : (ss : List FlowSource) → all_kept loses ss ≡ true → count regs before ss ≡ count regs h ss
    count_kept [] e = refl
    count_kept (x ∷ ss) e =
        let parts = each (is_kept loses x) (all_kept loses ss) e in
        ap₂ (λ (t : Answer) (n : ℕ). present t + n) (got_kept x parts.0) (count_kept ss parts.1)

    -- an operand of a node that fires gets the token that it got
    pub first_right : Sure → (inner : Option Guard) → guard_kept loses inner ≡ true → met h inner ≡ true
        → (ss : List FlowSource) → are_right guards loses inner ss ≡ true → first regs before ss ≡ first regs h ss
    first_right sure inner k m [] e = refl
    first_right sure inner k m (x ∷ []) e = ap (λ (t : Answer). or_else t None) (one x e)
      where
        at : (y : ℕ) → (not (loses y) ≡ true) ⊎ (implies guards most_around (guards y) inner ≡ true)
            → before y ≡ h y
        at y (inl d) = kept y (denied (loses y) d)
        at y (inr d) = was_met y (sure (guards y) inner k d m)

        one : (x : FlowSource) → may_stand guards loses inner x ≡ true → got regs before x ≡ got regs h x
        one (Read r) e = refl
        one (Node y) e = at y (one_of (not (loses y)) (implies guards most_around (guards y) inner) e)
    first_right sure inner k m (x ∷ y ∷ rest) e = first_kept (x ∷ y ∷ rest) e

    -- an operand that got at most one token gets at most one
    pub count_right : (inner : Option Guard) (ss : List FlowSource) → are_right guards loses inner ss ≡ true
        → count regs before ss ≤ 1 → count regs h ss ≤ 1
    count_right inner [] e l = omega arith
    count_right inner (x ∷ []) e l = low (got regs h x)
    count_right inner (x ∷ y ∷ rest) e l = let c = count_kept (x ∷ y ∷ rest) e in omega (arith, c, l)

    -- a node, as it was, gives of the tokens before what it gives of those after
    pub gives_same : Sure → (a : ℕ → ℕ → ℕ) (j : ℕ) (n : FlowNode) → Right guards loses j n
        → gives regs before a n ≡ gives regs h a n
    gives_same sure a j n r =
        ap (λ (p : Answer). by_rule.rule (role_of n.op) (sense_of n.guard) a (first regs before n.left)
        (first regs before n.right) p) (token_kept n.guard r.guard)
        ∙ same_if (met h n.guard) _ _
        (λ m. ap₂ (λ (x y : Answer). by_rule.gives (role_of n.op) a x y)
        (first_right sure n.guard r.guard m n.left r.left) (first_right sure n.guard r.guard m n.right r.right))

    -- what node j gave, by what it gives now
    pub node_before : Sure → (a : ℕ → ℕ → ℕ) (j : ℕ) (n : FlowNode) → guards j ≡ n.guard → Right guards loses j n
        → h j ≡ gives regs h a (loosened (loses j) n) → before j ≡ gives regs before a n
    node_before sure a j n g r o = at (loses j) refl o ∙ sym (gives_same sure a j n r)
      where
        at : (b : Bool) → loses j ≡ b → h j ≡ gives regs h a (loosened b n) → before j ≡ gives regs h a n
        at false e d = kept j e ∙ d
        at true e d =
            ap (λ (b : Bool). cond b (cond (met h (guards j)) (h j) None) (h j)) e
            ∙ (ap (λ (x : Option Guard). cond (met h x) (h j) None) g
            ∙ by_met (met h n.guard) (h j) _ d)
