-- The end of an if: each register takes its word from the leg that was taken.
use Rattle.std.proofs.Common.{◌≡◌, ℕ, suc, ◌+◌, List, [], ◌∷◌, ◌++◌, length, refl, sym, ap, subst, ◌∙◌, arith}
use Rattle.std.proofs.Common.{cond, nat_eq, Bool, true, false}
use Rattle.std.specs.Prelude.{Option, None}
use Rattle.std.proofs.lemmas.Bool.Decides.{nat_tests}
use Rattle.trips_isa.specs.declared.block.Stored.{Stored}
use Rattle.trips_isa.specs.Rule.{Answer, if_matched}
use Rattle.ir_forms.specs.declared.flow.FlowSource.{FlowSource}
use Rattle.ir_forms.specs.inside.FlowRuns.{Computes, first, met}
use Rattle.predication.specs.inside.Environments.{Scope, Entry, Env, Bits, put, from_node, both, under, member}
use Rattle.predication.specs.inside.Environments.{distinct}
use Rattle.predication.specs.inside.Operands.{movs, froms}
use Rattle.predication.specs.inside.Ifs.{Part, left_of, side_of, Joined, join, items, touched}
use Rattle.predication.specs.inside.Tails.{tail, tail_touched}
use Rattle.predication.proofs.Tables.{total}
use Rattle.predication.proofs.QuietNodes.{Quiet, quiet_append, Inner, inner_append, movs_quiet, movs_inner}
use Rattle.predication.proofs.Tables.{Clear, Sound, Dead, Few, sound_dead, dead_sound, dead_dead, Live}
use Rattle.predication.proofs.Tables.{Sparse, from_sound, from_dead, Calm, calm_append, movs_calm, Runs}
use Rattle.predication.proofs.Tables.{runs_front, runs_back, read_sound, read_few}
use Rattle.ir_forms.specs.inside.HyperCode.{Items, Done, Set, Load, Save, If, Tail, Leave, Test}
use Rattle.ir_forms.specs.declared.hyper.Exit.TheVariants as exit

-- ---- what is not touched stays

pub put_at : (env : Env) (r : ℕ) (e : Entry) (q : ℕ) → nat_eq q r ≡ false → put env r e q ≡ env q
put_at env r e q n = rw n refl

-- where neither of two tests holds, each is false
pub or_false : (b c : Bool) → cond b true c ≡ false → (b ≡ false) × (c ≡ false)
or_false true c e = (e, absurd (cc))
or_false false c e = (refl, e)

pub member_cons : (q r : ℕ) (rs : List ℕ) → member q (r ∷ rs) ≡ false → (nat_eq q r ≡ false) × (member q rs ≡ false)
member_cons q r rs e = or_false (nat_eq q r) (member q rs) e

-- A register is in joined lists where it is in one of them.
pub member_append : (q : ℕ) (a b : List ℕ) → member q (a ++ b) ≡ cond (member q a) true (member q b)
member_append q [] b = refl
member_append q (r ∷ a) b = rw (member_append q a b) (go (nat_eq q r) (member q a) (member q b))
  where
    go : (x y z : Bool) → cond x true (cond y true z) ≡ cond (cond x true y) true z
    go true y z = refl
    go false y z = refl

-- ---- registers, each once

same_member : (q r : ℕ) (rs : List ℕ) → nat_eq q r ≡ true → member r rs ≡ true → member q rs ≡ true
same_member q r rs e m =
    let same : r ≡ q = grind (arith, nat_tests) in
    subst (λ (i : ℕ). member i rs ≡ true) same m

covered : (q r : ℕ) (rs : List ℕ) (z : Bool) → nat_eq q r ≡ z → member r rs ≡ true
    → member q rs ≡ cond z true (member q rs)
covered q r rs true e m = same_member q r rs e m
covered q r rs false e m = refl

taken_once : (q r : ℕ) (rs ds : List ℕ) → member q ds ≡ member q rs → (b : Bool) → member r rs ≡ b
    → member q (cond b ds (r ∷ ds)) ≡ cond (nat_eq q r) true (member q rs)
taken_once q r rs ds h true m = h ∙ covered q r rs (nat_eq q r) refl m
taken_once q r rs ds h false m = ap (λ (b : Bool). cond (nat_eq q r) true b) h

-- without repetitions a list has the same members
pub member_distinct : (q : ℕ) (rs : List ℕ) → member q (distinct rs) ≡ member q rs
member_distinct q [] = refl
member_distinct q (r ∷ rs) = taken_once q r rs (distinct rs) (member_distinct q rs) (member r rs) refl

-- ---- what an if does not touch

pub join_out :
    (rs : List ℕ) (t j : ℕ) (env yea nay : Env) (ty tn : List ℕ) (q : ℕ) → member q rs ≡ false
    → (join t j env yea nay ty tn rs).env q ≡ env q
join_out [] t j env yea nay ty tn q e = refl
join_out (r ∷ rs) t j env yea nay ty tn q e =
    let m = member_cons q r rs e in
    let a : Part = side_of (member r ty) (under t true) j r (env r) (yea r) in
    let b : Part = side_of (member r tn) (under t false) (j + length a.nodes) r (env r) (nay r) in
    let c : Joined = join t (j + length a.nodes + length b.nodes) env yea nay ty tn rs in
    put_at c.env r (both a.entry b.entry) q m.0 ∙ join_out rs t _ env yea nay ty tn q m.1

-- a register that no leg sets
pub joins_out :
    (t j : ℕ) (env yea nay : Env) (ty tn : List ℕ) (q : ℕ) → member q (ty ++ tn) ≡ false
    → (join t j env yea nay ty tn (distinct (ty ++ tn))).env q ≡ env q
joins_out t j env yea nay ty tn q e =
    join_out (distinct (ty ++ tn)) t j env yea nay ty tn q (member_distinct q (ty ++ tn) ∙ e)

-- items leave a register that they do not touch standing for what it did
pub untouched : (is : Items) (g : Scope) (j m : ℕ) (env : Env) (bits : Bits) (q : ℕ) → member q (touched is) ≡ false
    → (items g j m env bits is).env q ≡ env q
untouched Done g j m env bits q e = refl
untouched (Set r op a b rest) g j m env bits q e =
    let n = member_cons q r (touched rest) e in
    untouched rest g _ m _ _ q n.1 ∙ put_at env r _ q n.0
untouched (Load r op a rest) g j m env bits q e =
    let n = member_cons q r (touched rest) e in
    untouched rest g _ _ _ _ q n.1 ∙ put_at env r _ q n.0
untouched (Save op a v rest) g j m env bits q e = untouched rest g _ _ env bits q e
untouched (If t yea nay rest) g j m env bits q e =
    let n = or_false (member q (touched yea ++ touched nay)) (member q (touched rest))
    (sym (member_append q (touched yea ++ touched nay) (touched rest)) ∙ e) in
    untouched rest g _ _ _ _ q n.1 ∙ joins_out _ _ env _ _ (touched yea) (touched nay) q n.0

-- a tail leaves a register that it does not touch standing for what it did
pub tail_untouched : (t : Tail) (g : Scope) (j e : ℕ) (env : Env) (bits : Bits) (q : ℕ) → member q (tail_touched t)
    ≡ false → (tail g j e env bits t).env q ≡ env q
tail_untouched (Leave (exit.Jump l)) g j e env bits q z = refl
tail_untouched (Leave (exit.Call l back)) g j e env bits q z =
    let n = member_cons q 2 [] z in put_at env 2 (from_node (suc (suc j))) q n.0
tail_untouched (Leave exit.Return) g j e env bits q z = refl
tail_untouched (Leave (exit.System l)) g j e env bits q z = refl
tail_untouched (Test t yea nay) g j e env bits q z =
    joins_out _ _ env _ _ (tail_touched yea) (tail_touched nay) q z

-- ---- quiet nodes

left_quiet : (g : Scope) (j r : ℕ) (ss : List FlowSource) (kept : List Scope) → Quiet (left_of g j r ss kept).nodes
left_quiet g j r [] kept = tt
left_quiet g j r (s ∷ ss) kept = quiet_append (movs r kept) _ (movs_quiet r kept) ((refl, refl), tt)

left_inner : (g : Scope) (j r : ℕ) (ss : List FlowSource) (kept : List Scope) → Inner (left_of g j r ss kept).nodes
left_inner g j r [] kept = tt
left_inner g j r (s ∷ ss) kept = inner_append (movs r kept) _ (movs_inner r kept) (refl, tt)

side_quiet : (b : Bool) (g : Scope) (j r : ℕ) (before mine : Entry) → Quiet (side_of b g j r before mine).nodes
side_quiet true g j r before mine = tt
side_quiet false g j r before mine = left_quiet g j r before.given before.kept

side_inner : (b : Bool) (g : Scope) (j r : ℕ) (before mine : Entry) → Inner (side_of b g j r before mine).nodes
side_inner true g j r before mine = tt
side_inner false g j r before mine = left_inner g j r before.given before.kept

-- The nodes that join the legs of an if are quiet.
pub join_quiet : (rs : List ℕ) (t j : ℕ) (env yea nay : Env) (ty tn : List ℕ)
    → Quiet (join t j env yea nay ty tn rs).nodes
join_quiet [] t j env yea nay ty tn = tt
join_quiet (r ∷ rs) t j env yea nay ty tn =
    quiet_append _ _ (side_quiet (member r ty) _ _ r (env r) (yea r))
    (quiet_append _ _ (side_quiet (member r tn) _ _ r (env r) (nay r)) (join_quiet rs t _ env yea nay ty tn))

-- the nodes of a join are no branches
pub join_inner : (rs : List ℕ) (t j : ℕ) (env yea nay : Env) (ty tn : List ℕ)
    → Inner (join t j env yea nay ty tn rs).nodes
join_inner [] t j env yea nay ty tn = tt
join_inner (r ∷ rs) t j env yea nay ty tn =
    inner_append _ _ (side_inner (member r ty) _ _ r (env r) (yea r))
    (inner_append _ _ (side_inner (member r tn) _ _ r (env r) (nay r)) (join_inner rs t _ env yea nay ty tn))

module _ (regs : ℕ → ℕ) (h : ℕ → Answer) (f : Computes) (st : ℕ → Option Stored) where
  kept_met : (g : Scope) → met h g ≡ true → total h (g ∷ []) ≡ 1
  kept_met g e = rw e refl

  kept_unmet : (g : Scope) → met h g ≡ false → total h (g ∷ []) ≡ 0
  kept_unmet g e = rw e refl

  -- the leg that was taken and leaves the register
  left_sound :
      (g : Scope) (j r : ℕ) (ss : List FlowSource) (kept : List Scope) (v : ℕ) → Clear regs h g → met h g ≡ true
      → Sound regs h (record { given = ss; kept = kept }) v (regs r) →
      Runs regs h f st j (left_of g j r ss kept).nodes → Sound regs h (left_of g j r ss kept).entry v (regs r)
  left_sound g j r [] kept v c m s x = record {
    single = omega
        (arith, kept_met g m);
    word = tt;
    same = s.same;
    clear = (c, tt);
  }
  left_sound g j r (p ∷ ss) kept v c m s x =
      let back = runs_back regs h f st j (movs r kept) _ x in
      let e : h (j + length (movs r kept)) ≡ if_matched (met h g) (first regs h ((p ∷ ss) ++ froms j kept)) =
      back.0 in
      let e2 : if_matched (met h g) (first regs h ((p ∷ ss) ++ froms j kept))
      ≡ first regs h ((p ∷ ss) ++ froms j kept) = rw m refl in
      from_sound regs h (j + length (movs r kept)) v (regs r)
      (e ∙ e2 ∙ read_sound regs h f st j r (p ∷ ss) kept v s (runs_front regs h f st j (movs r kept) _ x))

  left_dead :
      (g : Scope) (j r : ℕ) (ss : List FlowSource) (kept : List Scope) → Clear regs h g → met h g ≡ false
      → Runs regs h f st j (left_of g j r ss kept).nodes →
      Dead regs h (left_of g j r ss kept).entry
  left_dead g j r [] kept c m x = record { given = refl; kept = kept_unmet g m; clear = (c, tt) }
  left_dead g j r (p ∷ ss) kept c m x =
      let back = runs_back regs h f st j (movs r kept) _ x in
      let e : h (j + length (movs r kept)) ≡ if_matched (met h g) (first regs h ((p ∷ ss) ++ froms j kept)) =
      back.0 in
      let e2 : if_matched (met h g) (first regs h ((p ∷ ss) ++ froms j kept)) ≡ None = rw m refl in
      from_dead regs h (j + length (movs r kept)) (e ∙ e2)

  -- a leg that was taken
  side_sound :
      (b : Bool) (g : Scope) (j r : ℕ) (before mine : Entry) (v : ℕ) → Clear regs h g → met h g ≡ true
      → Sound regs h mine v (regs r) → (b ≡ false → mine ≡ before) →
      Runs regs h f st j (side_of b g j r before mine).nodes
      → Sound regs h (side_of b g j r before mine).entry v (regs r)
  side_sound true g j r before mine v c m s o x = s
  side_sound false g j r before mine v c m s o x =
      left_sound g j r before.given before.kept v c m (subst (λ (e : Entry). Sound regs h e v (regs r)) (o refl) s) x

  side_dead :
      (b : Bool) (g : Scope) (j r : ℕ) (before mine : Entry) → Clear regs h g → met h g ≡ false
      → (b ≡ true → Dead regs h mine) →
      Runs regs h f st j (side_of b g j r before mine).nodes → Dead regs h (side_of b g j r before mine).entry
  side_dead true g j r before mine c m d x = d refl
  side_dead false g j r before mine c m d x = left_dead g j r before.given before.kept c m x

  put_here : (b : Bool) (e d : Entry) (P : Entry → Type 0) → b ≡ true → P e → P (cond b e d)
  put_here b e d P t p = let e2 : cond b e d ≡ e = rw t refl in subst P (sym e2) p

  put_there : (b : Bool) (e d : Entry) (P : Entry → Type 0) → b ≡ false → P d → P (cond b e d)
  put_there b e d P t p = let e2 : cond b e d ≡ d = rw t refl in subst P (sym e2) p

  -- what holds of both sides' entries holds of each joined register
  pub join_with :
      (t j : ℕ) (env yea nay : Env) (ty tn rs : List ℕ) (P : ℕ → Entry → Type 0) →
      ((r i k : ℕ) → Runs regs h f st i (side_of (member r ty) (under t true) i r (env r) (yea r)).nodes →
      Runs regs h f st k (side_of (member r tn) (under t false) k r (env r) (nay r)).nodes →
      P r (both (side_of (member r ty) (under t true) i r (env r) (yea r)).entry
      (side_of (member r tn) (under t false) k r (env r) (nay r)).entry)) →
      Runs regs h f st j (join t j env yea nay ty tn rs).nodes → (q : ℕ) → member q rs ≡ true
      → P q ((join t j env yea nay ty tn rs).env q)
  join_with t j env yea nay ty tn [] P s x q e = absurd (cc)
  join_with t j env yea nay ty tn (r ∷ rs) P s x q e =
      let a : Part = side_of (member r ty) (under t true) j r (env r) (yea r) in
      let b : Part = side_of (member r tn) (under t false) (j + length a.nodes) r (env r) (nay r) in
      let c : Joined = join t (j + length a.nodes + length b.nodes) env yea nay ty tn rs in
      let xa = runs_front regs h f st j a.nodes (b.nodes ++ c.nodes) x in
      let xr = runs_back regs h f st j a.nodes (b.nodes ++ c.nodes) x in
      let xb = runs_front regs h f st (j + length a.nodes) b.nodes c.nodes xr in
      let xc = runs_back regs h f st (j + length a.nodes) b.nodes c.nodes xr in
      let here : P r (both a.entry b.entry) = s r j (j + length a.nodes) xa xb in
      go (both a.entry b.entry) (c.env q) here (λ m. join_with t
      (j + length a.nodes + length b.nodes) env yea nay ty tn rs P s xc q m) (nat_eq q r) refl e
    where
      go :
          (d o : Entry) → P r d → (member q rs ≡ true → P q o) → (z : Bool) → nat_eq q r ≡ z
          → cond z true (member q rs) ≡ true → P q (cond z d o)
      go d o here there true z m =
          let same : r ≡ q = grind (arith, nat_tests) in
          subst (λ (i : ℕ). P i d) same here
      go d o here there false z m = there m

  -- the first leg was taken
  pub join_yea :
      (t j : ℕ) (env yea nay : Env) (ty tn : List ℕ) (vals : ℕ → ℕ) → Clear regs h (under t true)
      → Clear regs h (under t false) → met h (under t true) ≡ true → met h (under t false) ≡ false
      → Live regs h yea vals →
      ((q : ℕ) → member q ty ≡ false → yea q ≡ env q) → ((q : ℕ) → member q tn ≡ true → Dead regs h (nay q)) →
      Runs regs h f st j (join t j env yea nay ty tn (distinct (ty ++ tn))).nodes
      → Live regs h (join t j env yea nay ty tn (distinct (ty ++ tn))).env vals
  join_yea t j env yea nay ty tn vals ct cf m n l u d x q = go (member q (ty ++ tn)) refl
    where
      go : (z : Bool) → member q (ty ++ tn) ≡ z
          → Sound regs h ((join t j env yea nay ty tn (distinct (ty ++ tn))).env q)
          (vals q) (regs q)
      go true e =
          join_with t j env yea nay ty tn (distinct (ty ++ tn)) (λ r p. Sound regs h p (vals r) (regs r))
          (λ r i k xa xb. sound_dead regs h _ _ (vals r) (regs r)
          (side_sound (member r ty) (under t true) i r (env r) (yea r) (vals r) ct m (l r) (u r) xa)
          (side_dead (member r tn) (under t false) k r (env r) (nay r) cf n (d r) xb)) x q
          (member_distinct q (ty ++ tn) ∙ e)
      go false e =
          let both_out = or_false (member q ty) (member q tn) (sym (member_append q ty tn) ∙ e) in
          subst (λ (p : Entry). Sound regs h p (vals q) (regs q))
          (u q both_out.0 ∙ sym (joins_out t j env yea nay ty tn q e)) (l q)

  -- the second leg was taken
  pub join_nay :
      (t j : ℕ) (env yea nay : Env) (ty tn : List ℕ) (vals : ℕ → ℕ) → Clear regs h (under t true)
      → Clear regs h (under t false) → met h (under t true) ≡ false → met h (under t false) ≡ true
      → Live regs h nay vals →
      ((q : ℕ) → member q tn ≡ false → nay q ≡ env q) → ((q : ℕ) → member q ty ≡ true → Dead regs h (yea q)) →
      Runs regs h f st j (join t j env yea nay ty tn (distinct (ty ++ tn))).nodes
      → Live regs h (join t j env yea nay ty tn (distinct (ty ++ tn))).env vals
  join_nay t j env yea nay ty tn vals ct cf m n l u d x q = go (member q (ty ++ tn)) refl
    where
      go : (z : Bool) → member q (ty ++ tn) ≡ z
          → Sound regs h ((join t j env yea nay ty tn (distinct (ty ++ tn))).env q)
          (vals q) (regs q)
      go true e =
          join_with t j env yea nay ty tn (distinct (ty ++ tn)) (λ r p. Sound regs h p (vals r) (regs r))
          (λ r i k xa xb. dead_sound regs h _ _ (vals r) (regs r)
          (side_dead (member r ty) (under t true) i r (env r) (yea r) ct m (d r) xa)
          (side_sound (member r tn) (under t false) k r (env r) (nay r) (vals r) cf n (l r) (u r) xb)) x q
          (member_distinct q (ty ++ tn) ∙ e)
      go false e =
          let both_out = or_false (member q ty) (member q tn) (sym (member_append q ty tn) ∙ e) in
          subst (λ (p : Entry). Sound regs h p (vals q) (regs q))
          (u q both_out.1 ∙ sym (joins_out t j env yea nay ty tn q e)) (l q)

  -- no leg was taken
  pub join_dead :
      (t j : ℕ) (env yea nay : Env) (ty tn : List ℕ) → Clear regs h (under t true) → Clear regs h (under t false)
      → met h (under t true) ≡ false → met h (under t false) ≡ false →
      ((q : ℕ) → member q ty ≡ true → Dead regs h (yea q)) → ((q : ℕ) → member q tn ≡ true → Dead regs h (nay q)) →
      Runs regs h f st j (join t j env yea nay ty tn (distinct (ty ++ tn))).nodes → (q : ℕ)
      → member q (ty ++ tn) ≡ true →
      Dead regs h ((join t j env yea nay ty tn (distinct (ty ++ tn))).env q)
  join_dead t j env yea nay ty tn ct cf m n dy dn x q e =
      join_with t j env yea nay ty tn (distinct (ty ++ tn)) (λ r p. Dead regs h p)
      (λ r i k xa xb. dead_dead regs h _ _
      (side_dead (member r ty) (under t true) i r (env r) (yea r) ct m (dy r) xa)
      (side_dead (member r tn) (under t false) k r (env r) (nay r) cf n (dn r) xb)) x q
      (member_distinct q (ty ++ tn) ∙ e)

  -- the nodes at the end of an if are tidy
  left_calm : (g : Scope) (j r : ℕ) (ss : List FlowSource) (kept : List Scope) → Clear regs h g
      → Few regs h (record { given = ss; kept = kept })
      → Runs regs h f st j (left_of g j r ss kept).nodes → Calm regs h (left_of g j r ss kept).nodes
  left_calm g j r [] kept c w x = tt
  left_calm g j r (p ∷ ss) kept c w x =
      let few = read_few regs h f st j r (p ∷ ss) kept w.most (runs_front regs h f st j (movs r kept) _ x) in
      calm_append regs h (movs r kept) _ (movs_calm regs h r kept w.clear) (c, (few, omega arith), tt)

  side_calm : (b : Bool) (g : Scope) (j r : ℕ) (before mine : Entry) → Clear regs h g → Few regs h before
      → Runs regs h f st j (side_of b g j r before mine).nodes → Calm regs h (side_of b g j r before mine).nodes
  side_calm true g j r before mine c w x = tt
  side_calm false g j r before mine c w x = left_calm g j r before.given before.kept c w x

  -- the nodes of a join are calm
  pub join_calm : (rs : List ℕ) (t j : ℕ) (env yea nay : Env) (ty tn : List ℕ) → Clear regs h (under t true)
      → Clear regs h (under t false) → Sparse regs h env
      → Runs regs h f st j (join t j env yea nay ty tn rs).nodes → Calm regs h (join t j env yea nay ty tn rs).nodes
  join_calm [] t j env yea nay ty tn ct cf s x = tt
  join_calm (r ∷ rs) t j env yea nay ty tn ct cf s x =
      let a : Part = side_of (member r ty) (under t true) j r (env r) (yea r) in
      let b : Part = side_of (member r tn) (under t false) (j + length a.nodes) r (env r) (nay r) in
      let c : Joined = join t (j + length a.nodes + length b.nodes) env yea nay ty tn rs in
      let xr = runs_back regs h f st j a.nodes (b.nodes ++ c.nodes) x in
      calm_append regs h a.nodes (b.nodes ++ c.nodes)
      (side_calm (member r ty) (under t true) j r (env r) (yea r) ct (s r)
      (runs_front regs h f st j a.nodes (b.nodes ++ c.nodes) x))
      (calm_append regs h b.nodes c.nodes
      (side_calm (member r tn) (under t false) (j + length a.nodes) r (env r) (nay r) cf (s r)
      (runs_front regs h f st (j + length a.nodes) b.nodes c.nodes xr))
      (join_calm rs t (j + length a.nodes + length b.nodes) env yea nay ty tn ct cf s
      (runs_back regs h f st (j + length a.nodes) b.nodes c.nodes xr)))
