-- On each path the sources that cover something give one null where it is absent, and nothing where
-- it is there.
use Rattle.std.proofs.Common.{◌≡◌, ℕ, zero, suc, ◌+◌, ◌-◌, ◌≤◌, List, [], ◌∷◌, ◌++◌}
use Rattle.std.proofs.Common.{refl, sym, ap, subst, ◌∙◌, arith, cond, Bool, true, false, not}
use Rattle.std.specs.Prelude.{Option, Some, None, ◌≢◌}
use Rattle.trips_isa.specs.declared.op.Op.{Op}
use Rattle.trips_isa.specs.declared.op.Op.TheVariants as op
use Rattle.trips_isa.specs.declared.form.Form.{Form}
use Rattle.trips_isa.specs.declared.form.Form.TheVariants as form
use Rattle.trips_isa.specs.declared.form.Role.{Role}
use Rattle.trips_isa.specs.declared.form.Role.TheVariants as role
use Rattle.trips_isa.specs.declared.block.Token.TheVariants.{Null, Word}
use Rattle.trips_isa.specs.Forms.{form_of, role_of, role_in, general_role, branch_role, constant_role}
use Rattle.trips_isa.specs.Forms.{takes_left, takes_right}
use Rattle.trips_isa.specs.Rule.{Answer, low, matched, of_one, of_both, null_beside, if_matched}
use Rattle.trips_isa.specs.Rule as by_rule
use Rattle.trips_isa.specs.Tables.{or_else}
use Rattle.ir_forms.specs.declared.flow.FlowSource.{FlowSource}
use Rattle.ir_forms.specs.declared.flow.FlowSource.TheVariants.{Node}
use Rattle.ir_forms.specs.declared.flow.Guard.{Guard}
use Rattle.ir_forms.specs.declared.flow.FlowNode.{FlowNode}
use Rattle.ir_forms.specs.inside.FlowRuns.{got, first, gives, met, Computes, Obeys, present, count}
use Rattle.null_outputs.specs.inside.Covers.{null_under, copy_under, both_under, sense_on, guard_on, Cover}
use Rattle.null_outputs.specs.inside.Covers.{top_of, list_top, pairs, list_nodes}
use Rattle.null_outputs.specs.inside.Groups.{guard_group}

-- ROLES

abbrev pub Filled : Role → Type 0
Filled role.Empty = ⊥
Filled _ = Unit {0}

filled_general : (o : Op) → Filled (general_role o)
filled_general op.Extsb = tt
filled_general op.Extsh = tt
filled_general op.Extsw = tt
filled_general op.Extub = tt
filled_general op.Extuh = tt
filled_general op.Extuw = tt
filled_general op.Mov = tt
filled_general op.Null = tt
filled_general _ = tt

filled_branch : (o : Op) → Filled (branch_role o)
filled_branch op.Br = tt
filled_branch op.Ret = tt
filled_branch _ = tt

filled_constant : (o : Op) → Filled (constant_role o)
filled_constant op.App = tt
filled_constant _ = tt

filled_in : (f : Form) (o : Op) → Filled (role_in f o)
filled_in form.General o = filled_general o
filled_in form.Immediate o = tt
filled_in form.Load o = tt
filled_in form.Store o = tt
filled_in form.Branch o = filled_branch o
filled_in form.Constant o = filled_constant o

pub filled : (o : Op) → Filled (role_of o)
filled o = filled_in (form_of o) o

-- COUNTS OF ANSWERS

-- the tokens that two operands give together: those of the second, where the first is there
abbrev pub all_there : ℕ → ℕ → ℕ
all_there zero r = 0
all_there (suc l) r = r

-- where l is there and r is not
abbrev pub lacks : ℕ → ℕ → ℕ
lacks zero r = 0
lacks (suc l) r = 1 - r

-- 1 for yes and 0 for no
abbrev pub bit : Bool → ℕ
bit b = cond b 1 0

-- an answer that is no word
abbrev pub IsNull : Answer → Type 0
IsNull None = Unit {0}
IsNull (Some Null) = Unit {0}
IsNull (Some (Word w)) = ⊥

one_there : (f : ℕ → ℕ) (l : Answer) → present (of_one f l) ≡ all_there (present l) 1
one_there f None = refl
one_there f (Some Null) = refl
one_there f (Some (Word a)) = refl

same_there : (l : Answer) → present l ≡ all_there (present l) 1
same_there None = refl
same_there (Some t) = refl

both_there : (f : ℕ → ℕ → ℕ) (l r : Answer) → present (of_both f l r) ≡ all_there (present l) (present r)
both_there f None r = refl
both_there f (Some Null) None = refl
both_there f (Some Null) (Some t) = refl
both_there f (Some (Word a)) None = refl
both_there f (Some (Word a)) (Some Null) = refl
both_there f (Some (Word a)) (Some (Word b)) = refl

pub role_there : (r : Role) → Filled r → (a : ℕ → ℕ → ℕ) (x y : Answer)
    → present (by_rule.gives r a x y) ≡ all_there (cond (takes_left r) (present x) 1)
    (cond (takes_right r) (present y) 1)
role_there role.Empty e a x y = absurd e
role_there role.Reading e a x y = refl
role_there role.Free e a x y = refl
role_there role.Nothing e a x y = refl
role_there role.Copy e a x y = same_there x
role_there role.One e a x y = one_there (λ z. a z 0) x
role_there role.Both e a x y = both_there a x y

if_there : (b : Bool) (t : Answer) → present (if_matched b t) ≡ cond b (present t) 0
if_there true t = refl
if_there false t = refl

-- at most one token is there
pub present_low : (t : Answer) → present t ≤ 1
present_low None = omega arith
present_low (Some t) = omega arith

lack_one : (t : Answer) → 1 - present t ≡ 1 - present (or_else t None)
lack_one None = refl
lack_one (Some t) = refl

lack_more : (t u : Answer) → all_there (1 - present t) (1 - present u) ≡ 1 - present (or_else t u)
lack_more None u = refl
lack_more (Some t) u = refl

-- an operand together with the want of another is where the first is there and the second is not
pub lack_two : (l r : ℕ) → all_there l (1 - r) ≡ lacks l r
lack_two zero r = refl
lack_two (suc l) r = refl

-- where a node has no token, exactly one of guard, left and right operand is wanting
pub parts : (b : Bool) (p l r : ℕ) → l ≤ 1 → r ≤ 1 → p ≡ cond b (all_there l r) 0
    → (1 - bit b) + (cond b (1 - l) 0 + cond b (lacks l r) 0) ≡ 1 - p
parts false p l r x y e = omega arith
parts true p zero r x y e = omega arith
parts true p (suc l) r x y e = omega arith

-- a token that stands where b holds and is null
pub record Nulled (b : ℕ) (t : Answer) : Type 0 where
  pub there : present t ≡ b
  pub null : IsNull t

nothing_nulled : (b : Bool) (t : Answer) → t ≡ if_matched b (Some Null) → Nulled (bit b) t
nothing_nulled true t e = record { there = rw e refl; null = rw e tt }
nothing_nulled false t e = record { there = rw e refl; null = rw e tt }

null_both : (f : ℕ → ℕ → ℕ) (l r : Answer) → IsNull r → Nulled (all_there (present l) (present r)) (of_both f l r)
null_both f None r i = record { there = refl; null = tt }
null_both f (Some Null) None i = record { there = refl; null = tt }
null_both f (Some Null) (Some t) i = record { there = refl; null = tt }
null_both f (Some (Word a)) None i = record { there = refl; null = tt }
null_both f (Some (Word a)) (Some Null) i = record { there = refl; null = tt }
null_both f (Some (Word a)) (Some (Word b)) i = absurd i

null_if : (b : Bool) (t u : Answer) (k : ℕ) → t ≡ if_matched b u → Nulled k u → Nulled (cond b k 0) t
null_if true t u k e n = record { there = ap present e ∙ n.there; null = subst IsNull (sym e) n.null }
null_if false t u k e n = record { there = ap present e; null = subst IsNull (sym e) tt }

-- a guard's two senses
pub other_bit : (t : Answer) (s : Bool) → (t ≢ Some Null)
    → bit (matched (sense_on (not s)) t) + (1 - present t) ≡ 1 - bit (matched (sense_on s) t)
other_bit None true c = refl
other_bit None false c = refl
other_bit (Some Null) s c = absurd (c refl)
other_bit (Some (Word w)) true c = go (low w)
  where
    go : (b : Bool) → bit (not b) + (1 - 1) ≡ 1 - bit b
    go true = refl
    go false = refl
other_bit (Some (Word w)) false c = go (low w)
  where
    go : (b : Bool) → bit b + (1 - 1) ≡ 1 - bit (not b)
    go true = refl
    go false = refl

module _ (regs : ℕ → ℕ) (h : ℕ → Answer) where
  -- whether one of some sources is there
  abbrev pub here : List FlowSource → ℕ
  here ss = present (first regs h ss)

  abbrev pub AllNull : List FlowSource → Type 0
  AllNull [] = Unit {0}
  AllNull (s ∷ ss) = IsNull (got regs h s) × AllNull ss

  -- the sources give k tokens, and only nulls
  pub record Covered (k : ℕ) (ms : List FlowSource) : Type 0 where
    pub number : count regs h ms ≡ k
    pub null : AllNull ms

  -- sources behind sources are there as often as both together
  pub count-append : (xs ys : List FlowSource) → count regs h (xs ++ ys) ≡ count regs h xs + count regs h ys
  count-append [] ys = omega arith
  count-append (x ∷ xs) ys = let e = count-append xs ys in omega (arith, e)

  pub null_append : (a b : List FlowSource) → AllNull a → AllNull b → AllNull (a ++ b)
  null_append [] b x y = y
  null_append (s ∷ a) b x y = (x.0, null_append a b x.1 y)

  -- sources that give nulls only give no word
  pub first_null : (ms : List FlowSource) → AllNull ms → IsNull (first regs h ms)
  first_null [] a = tt
  first_null (s ∷ ms) a = go (got regs h s) (first regs h ms) a.0 (first_null ms a.1)
    where
      go : (t u : Answer) → IsNull t → IsNull u → IsNull (or_else t u)
      go None u x y = y
      go (Some Null) u x y = x
      go (Some (Word w)) u x y = absurd x

  -- of sources of which at most one is there, so many are there
  pub here_count : (ms : List FlowSource) → count regs h ms ≤ 1 → here ms ≡ count regs h ms
  here_count [] l = refl
  here_count (s ∷ ms) l = go (got regs h s) (first regs h ms) (count regs h ms) (λ e. here_count ms e) l
    where
      go : (t u : Answer) (c : ℕ) → (c ≤ 1 → present u ≡ c) → present t + c ≤ 1
          → present (or_else t u) ≡ present t + c
      go None u c f l = let e : present u ≡ c = f (omega arith) in omega (arith, e)
      go (Some t) u c f l = omega arith

  -- no source gives no token
  pub none_covered : Covered 0 []
  none_covered = record { number = refl; null = tt }

  pub one_covered : (p k : ℕ) → Nulled k (h p) → Covered k (Node p ∷ [])
  one_covered p k n = record { number = omega (arith, n.there); null = (n.null, tt) }

  -- sources behind sources give the tokens of both, and only nulls
  pub append_covered : (j k : ℕ) (a b : List FlowSource) → Covered j a → Covered k b → Covered (j + k) (a ++ b)
  append_covered j k a b x y = record {
    number = omega (arith, count-append a b, x.number, y.number);
    null = null_append a b x.null y.null;
  }

  -- sources that give so many nulls give an equal number
  pub as_covered : (j k : ℕ) (a : List FlowSource) → j ≡ k → Covered j a → Covered k a
  as_covered j k a e x = record { number = x.number ∙ e; null = x.null }

  -- PIECES

  -- a null under a guard is there where the guard is met
  pub null_covered : (a : ℕ → ℕ → ℕ) (g : Option Guard) (p : ℕ) → h p ≡ gives regs h a (null_under g)
      → Covered (bit (met h g)) (Node p ∷ [])
  null_covered a g p e = one_covered p _ (nothing_nulled (met h g) (h p) e)

  -- a copy of nulls under a guard is there where they are and the guard is met
  pub copy_covered : (a : ℕ → ℕ → ℕ) (g : Option Guard) (p k : ℕ) (ms : List FlowSource) → k ≤ 1 → Covered k ms
      → h p ≡ gives regs h a (copy_under g ms)
      → Covered (cond (met h g) k 0) (Node p ∷ [])
  copy_covered a g p k ms l c e =
      one_covered p _ (null_if (met h g) (h p) (first regs h ms) k e
      (record { there = here_count ms (omega (arith, c.number)) ∙ c.number; null = first_null ms c.null }))

  -- a join of a source with nulls under a guard is there where both are and the guard is met
  pub both_covered : (a : ℕ → ℕ → ℕ) (g : Option Guard) (p k : ℕ) (l ms : List FlowSource) → k ≤ 1
      → Covered k ms → h p ≡ gives regs h a (both_under g l ms)
      → Covered (cond (met h g) (all_there (here l) k) 0) (Node p ∷ [])
  both_covered a g p k l ms low c e =
      let n = null_both a (first regs h l) (first regs h ms) (first_null ms c.null) in
      let k_is : present (first regs h ms) ≡ k = here_count ms (omega (arith, c.number)) ∙ c.number in
      one_covered p _ (null_if (met h g) (h p) (of_both a (first regs h l) (first regs h ms)) _ e
      (record { there = n.there ∙ ap (all_there (here l)) k_is; null = n.null }))

  -- LISTS

  -- each source of the list is covered
  abbrev pub EachCovered : Cover → List FlowSource → Type 0
  EachCovered c [] = Unit {0}
  EachCovered c (s ∷ rest) = Covered (1 - present (got regs h s)) (c s) × EachCovered c rest

  -- the joins of the covers of some sources give one null where no source is there
  pub pairs_covered : (c : Cover) (f : Computes) (p : ℕ) (s : FlowSource) (rest : List FlowSource)
      → EachCovered c (s ∷ rest)
      → Obeys regs f h p (pairs c p s rest) → Covered (1 - here (s ∷ rest)) (top_of c p s rest)
  pairs_covered c f p s [] k o = as_covered _ _ (c s) (lack_one (got regs h s)) k.0
  pairs_covered c f p s (t ∷ rest) k o =
      let x = pairs_covered c f (suc p) t rest k.1 o.1 in
      let w : Covered (all_there (here (c s)) (1 - here (t ∷ rest))) (Node p ∷ []) =
      both_covered (f p (both_under None (c s) (top_of c (suc p) t rest))) None p (1 - here (t ∷ rest)) (c s)
      (top_of c (suc p) t rest) (omega arith) x o.0 in
      let e : here (c s) ≡ 1 - present (got regs h s) = here_count (c s) (omega (arith, (k.0).number))
      ∙ (k.0).number in
      as_covered _ _ (Node p ∷ []) (ap (λ (i : ℕ). all_there i (1 - here (t ∷ rest))) e
      ∙ lack_more (got regs h s) (first regs h (t ∷ rest))) w

  -- the nodes of a list of sources give one null where no source is there
  pub list_covered : (c : Cover) (f : Computes) (p : ℕ) (ss : List FlowSource) → EachCovered c ss
      → Obeys regs f h p (list_nodes c p ss) → Covered (1 - here ss) (list_top c p ss)
  list_covered c f p [] k o = null_covered (f p (null_under None)) None p o.0
  list_covered c f p (s ∷ rest) k o = pairs_covered c f p s rest k o

  -- GUARDS

  guard_group_covered : (f : Computes) (p : ℕ) (s : Bool) (y : ℕ) (ms : List FlowSource) → (h y ≢ Some Null)
      → Covered (1 - present (h y)) ms → Obeys regs f h p (guard_group p s y ms)
      → Covered (1 - bit (met h (Some (guard_on s y)))) (Node p ∷ [])
  guard_group_covered f p s y [] n c o =
      as_covered _ _ (Node p ∷ []) (sum (other_bit (h y) s n) c.number)
      (null_covered (f p (null_under (Some (guard_on (not s) y)))) (Some (guard_on (not s) y)) p o.0)
    where
      sum : {x z w : ℕ} → x + z ≡ w → 0 ≡ z → x ≡ w
      sum e d = omega (arith, e, d)
  guard_group_covered f p s y (m ∷ ms) n c o =
      let z = null_covered (f (suc p) (null_under (Some (guard_on (not s) y)))) (Some (guard_on (not s) y))
      (suc p) (o.1.0) in
      let all = as_covered _ _ _ (other_bit (h y) s n) (append_covered _ _ (Node (suc p) ∷ []) (m ∷ ms) z c) in
      copy_covered (f p (copy_under None (Node (suc p) ∷ m ∷ ms))) None p _ (Node (suc p) ∷ m ∷ ms)
      (omega arith) all o.0

  -- the nodes for a guard give one null where the guard is not met
  pub guard_covered : (f : Computes) (p : ℕ) (s : Bool) (y : ℕ) (ms : List FlowSource) → (h y ≢ Some Null)
      → Covered (1 - present (h y)) ms → Obeys regs f h p (guard_group p s y ms)
      → Covered (1 - bit (met h (Some (guard_on s y)))) (Node p ∷ [])
  guard_covered = guard_group_covered

  -- NODES

  -- a node has a token where its guard is met and each operand that it takes is there
  pub node_there : (a : ℕ → ℕ → ℕ) (x : ℕ) (n : FlowNode) → h x ≡ gives regs h a n
      → present (h x) ≡ cond (met h n.guard)
      (all_there (cond (takes_left (role_of n.op)) (here n.left) 1)
      (cond (takes_right (role_of n.op)) (here n.right) 1)) 0
  node_there a x n e =
      ap present e ∙ if_there (met h n.guard) _ ∙
      ap (λ (k : ℕ). cond (met h n.guard) k 0)
      (role_there (role_of n.op) (filled n.op) a (first regs h n.left) (first regs h n.right))
