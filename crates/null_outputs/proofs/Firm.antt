-- What is said to be there is there.
use Rattle.std.proofs.Common.{◌≡◌, ℕ, zero, suc, ◌+◌, List, [], ◌∷◌, ◌++◌, ◌⊎◌, inl, inr}
use Rattle.std.proofs.Common.{length, length-append, get_or, refl, sym, ap, subst, ◌∙◌, arith, cond, nat_eq}
use Rattle.std.proofs.Common.{Bool, true, false, not, ◌&&◌, ◌||◌}
use Rattle.std.proofs.lemmas.Bool.Decides.{nat_tests}
use Rattle.std.specs.Prelude.{Option, Some, None, slice_get, All, ◌≢◌}
use Rattle.trips_isa.specs.declared.block.Token.TheVariants.{Null, Word}
use Rattle.trips_isa.specs.declared.block.Sense.{Sense}
use Rattle.trips_isa.specs.declared.block.Sense.TheVariants.{Always, OnTrue, OnFalse}
use Rattle.trips_isa.specs.Forms.{role_of, takes_left, takes_right}
use Rattle.trips_isa.specs.Rule.{Answer, matched, low}
use Rattle.trips_isa.specs.Tables.{or_else}
use Rattle.ir_forms.specs.declared.flow.FlowSource.{FlowSource}
use Rattle.ir_forms.specs.declared.flow.FlowSource.TheVariants.{Read, Node}
use Rattle.ir_forms.specs.declared.flow.Guard.{Guard}
use Rattle.ir_forms.specs.declared.flow.FlowNode.{FlowNode}
use Rattle.ir_forms.specs.declared.flow.FlowBlock.{FlowBlock}
use Rattle.ir_forms.specs.inside.FlowRuns.{got, first, guard_token, met, Computes, Obeys, present}
use Rattle.ir_forms.specs.inside.FlowFits.{FitsFlow}
use Rattle.null_outputs.proofs.Oracles.{Trusty}
use Rattle.null_outputs.specs.inside.Covers.{guard_on, left_open, right_open}
use Rattle.null_outputs.specs.inside.Surely.{Scope, Firm, same_sense, same_scope, has, scope_at, scope_of}
use Rattle.null_outputs.specs.inside.Surely.{scopes, split, close, is_always, ask, outer, reaches, sure_of}
use Rattle.null_outputs.specs.inside.Surely.{is_firm, firm_of, firms_from, firms, sure_by}
use Rattle.null_outputs.proofs.NullsOnPaths.{all_there, here, node_there}
use Rattle.null_outputs.proofs.Spaces.{obeys_at, some_is}
use Rattle.null_outputs.proofs.Covers.{all_at}

both_true : (a b : Bool) → (a && b) ≡ true → (a ≡ true) × (b ≡ true)
both_true true true e = (refl, refl)
both_true true false e = absurd (cc)
both_true false true e = absurd (cc)
both_true false false e = absurd (cc)

either_true : (a b : Bool) → (a || b) ≡ true → (a ≡ true) ⊎ (b ≡ true)
either_true true b e = inl refl
either_true false true e = inr refl
either_true false false e = absurd (cc)

not_true : (a : Bool) → not a ≡ true → a ≡ false
not_true true e = absurd (cc)
not_true false e = refl

sense_is_same : (a b : Sense) → same_sense a b ≡ true → a ≡ b
sense_is_same Always Always e = refl
sense_is_same OnTrue OnTrue e = refl
sense_is_same OnFalse OnFalse e = refl
sense_is_same Always OnTrue e = absurd (cc)
sense_is_same Always OnFalse e = absurd (cc)
sense_is_same OnTrue Always e = absurd (cc)
sense_is_same OnTrue OnFalse e = absurd (cc)
sense_is_same OnFalse Always e = absurd (cc)
sense_is_same OnFalse OnTrue e = absurd (cc)

same_number : (i j : ℕ) → nat_eq i j ≡ true → i ≡ j
same_number i j e = grind (arith, nat_tests)

guard_is_same : (g k : Guard) → g.node ≡ k.node → g.sense ≡ k.sense → g ≡ k
guard_is_same g k e d = ap (λ (x : ℕ). let y : Guard = record { node = x; sense = g.sense } in y) e
    ∙ ap (λ (s : Sense). let y : Guard = record { node = k.node; sense = s } in y) d

scope_is_same : (a b : Scope) → same_scope a b ≡ true → a ≡ b
scope_is_same None None e = refl
scope_is_same None (Some g) e = absurd (cc)
scope_is_same (Some g) None e = absurd (cc)
scope_is_same (Some g) (Some k) e =
    let w = both_true (nat_eq g.node k.node) (same_sense g.sense k.sense) e in
    ap Some (guard_is_same g k (same_number g.node k.node w.0) (sense_is_same g.sense k.sense w.1))

bit_there : (t : Answer) (s : Sense) → is_always s ≡ false → matched s t ≡ true → present t ≡ 1
bit_there t Always e m = absurd (cc)
bit_there None OnTrue e m = absurd (cc)
bit_there None OnFalse e m = absurd (cc)
bit_there (Some t) OnTrue e m = refl
bit_there (Some t) OnFalse e m = refl

one_bit : (t : Answer) → (t ≢ Some Null) → present t ≡ 1 → (matched OnTrue t ≡ true) ⊎ (matched OnFalse t ≡ true)
one_bit None c e = absurd (omega (arith, e))
one_bit (Some Null) c e = absurd (c refl)
one_bit (Some (Word w)) c e = go (low w)
  where
    go : (b : Bool) → (b ≡ true) ⊎ (not b ≡ true)
    go true = inl refl
    go false = inr refl

or_there : (t u : Answer) → (present t ≡ 1) ⊎ (present u ≡ 1) → present (or_else t u) ≡ 1
or_there (Some t) u e = refl
or_there None u (inl e) = absurd (omega (arith, e))
or_there None u (inr e) = e

fires : (b : Bool) (p l r : ℕ) → p ≡ cond b (all_there l r) 0 → b ≡ true → l ≡ 1 → r ≡ 1 → p ≡ 1
fires b p l r e u x y = e ∙ rw (u, x, y) refl

was_met : (b : Bool) (p q : ℕ) → p ≡ cond b q 0 → p ≡ 1 → b ≡ true
was_met true p q e o = refl
was_met false p q e o = absurd (omega (arith, e, o))

closed_operand : (t s : Bool) (i : ℕ) → not (t && not s) ≡ true → (s ≡ true → i ≡ 1) → cond t i 1 ≡ 1
closed_operand true true i e f = f refl
closed_operand true false i e f = absurd (cc)
closed_operand false true i e f = refl
closed_operand false false i e f = refl

-- what is found in a list with one more
found_more : (found : List Bool) (v : Bool) (y : ℕ) → get_or (found ++ (v ∷ [])) y false ≡ true
    → (get_or found y false ≡ true) ⊎ ((y ≡ length found) × (v ≡ true))
found_more [] v zero e = inr (refl, e)
found_more [] v (suc y) e = absurd (cc)
found_more (x ∷ found) v zero e = inl e
found_more (x ∷ found) v (suc y) e = go (found_more found v y e)
  where
    go : (get_or found y false ≡ true) ⊎ ((y ≡ length found) × (v ≡ true))
        → (get_or found y false ≡ true) ⊎ ((suc y ≡ length (x ∷ found)) × (v ≡ true))
    go (inl q) = inl q
    go (inr q) = let d = q.0 in inr (omega (arith, d), q.1)

module _ (regs : ℕ → ℕ) (h : ℕ → Answer) (f : Computes) (b : FlowBlock) (o : Obeys regs f h 0 b.nodes)
    (clear : All (λ n. guard_token h n.guard ≢ Some Null) b.nodes) where
  there : (y : ℕ) (n : FlowNode) → slice_get b.nodes y ≡ Some n
      → present (h y) ≡ cond (met h n.guard)
      (all_there (cond (takes_left (role_of n.op)) (here regs h n.left) 1)
      (cond (takes_right (role_of n.op)) (here regs h n.right) 1)) 0
  there y n e = node_there regs h (f y n) y n (obeys_at regs h f 0 b.nodes o y n y (omega arith) e)

  clear_at : (y : ℕ) (n : FlowNode) → slice_get b.nodes y ≡ Some n → guard_token h n.guard ≢ Some Null
  clear_at y n e = all_at (λ (m : FlowNode). guard_token h m.guard ≢ Some Null) b.nodes clear y n e

  abbrev FirmOk : Firm → Type 0
  FirmOk firm = (y : ℕ) (n : FlowNode) → slice_get b.nodes y ≡ Some n → firm y ≡ true → met h n.guard ≡ true
      → present (h y) ≡ 1

  module _ (firm : Firm) (ok : FirmOk firm) (ss : List FlowSource) where
    record GoodScope (g : Scope) : Type 0 where
      sure : met h g ≡ true → here regs h ss ≡ 1
      clean : guard_token h g ≢ Some Null

    abbrev Good : List Scope → Type 0
    Good [] = Unit {0}
    Good (g ∷ s) = GoodScope g × Good s

    good_append : (a c : List Scope) → Good a → Good c → Good (a ++ c)
    good_append [] c x y = y
    good_append (g ∷ a) c x y = (x.0, good_append a c x.1 y)

    has_good : (s : List Scope) (g : Scope) → Good s → has s g ≡ true → GoodScope g
    has_good [] g a e = absurd (cc)
    has_good (k ∷ s) g a e = go (either_true (same_scope k g) (has s g) e) (λ d. has_good s g a.1 d)
      where
        go : (same_scope k g ≡ true) ⊎ (has s g ≡ true) → (has s g ≡ true → GoodScope g) → GoodScope g
        go (inl d) r = subst GoodScope (scope_is_same k g d) a.0
        go (inr d) r = r d

    -- the list holds what is asked of each source
    scope_good : (s : FlowSource) → (present (got regs h s) ≡ 1 → here regs h ss ≡ 1) → Good (scope_of b.nodes firm s)
    scope_good (Read r) up = (record { sure = λ m. up refl; clean = λ e. absurd (cc) }, tt)
    scope_good (Node y) up = go (firm y) (slice_get b.nodes y) refl refl
      where
        go : (t : Bool) (n : Option FlowNode) → firm y ≡ t → slice_get b.nodes y ≡ n → Good (scope_at t n)
        go true (Some n) e d = (record { sure = λ m. up (ok y n d e m); clean = clear_at y n d }, tt)
        go true None e d = tt
        go false (Some n) e d = tt
        go false None e d = tt

    scopes_good : (xs : List FlowSource) → (present (first regs h xs) ≡ 1 → here regs h ss ≡ 1)
        → Good (scopes b.nodes firm xs)
    scopes_good [] up = tt
    scopes_good (s ∷ xs) up =
        good_append (scope_of b.nodes firm s) (scopes b.nodes firm xs)
        (scope_good s (λ e. up (or_there (got regs h s) (first regs h xs) (inl e))))
        (scopes_good xs (λ e. up (or_there (got regs h s) (first regs h xs) (inr e))))

    split_good : (j : ℕ) (n : FlowNode) (s : List Scope) → slice_get b.nodes j ≡ Some n → Good s
        → Good (split firm j n s)
    split_good j n s e a = go (firm j) (has s (Some (guard_on true j)))
        (has s (Some (guard_on false j))) refl refl refl
      where
        go : (x y z : Bool) → firm j ≡ x → has s (Some (guard_on true j)) ≡ y
            → has s (Some (guard_on false j)) ≡ z → Good (cond (x && (y && z)) (s ++ (n.guard ∷ [])) s)
        go true true true ex ey ez =
            let t = has_good s (Some (guard_on true j)) a ey in
            let u = has_good s (Some (guard_on false j)) a ez in
            good_append s (n.guard ∷ []) a (
              record {
                sure = λ m. pick (one_bit (h j) t.clean (ok j n e ex m)) t.sure u.sure;
                clean = clear_at j n e;
              },
              tt,
            )
          where
            pick : (matched OnTrue (h j) ≡ true) ⊎ (matched OnFalse (h j) ≡ true)
                → (matched OnTrue (h j) ≡ true → here regs h ss ≡ 1)
                → (matched OnFalse (h j) ≡ true → here regs h ss ≡ 1)
                → here regs h ss ≡ 1
            pick (inl m) p q = p m
            pick (inr m) p q = q m
        go true true false ex ey ez = a
        go true false true ex ey ez = a
        go true false false ex ey ez = a
        go false true true ex ey ez = a
        go false true false ex ey ez = a
        go false false true ex ey ez = a
        go false false false ex ey ez = a

    -- ns are the block's nodes from j on
    close_good : (ns : List FlowNode) (j : ℕ) (s : List Scope)
        → ((k : ℕ) (n : FlowNode) (i : ℕ) → i ≡ j + k → slice_get ns k ≡ Some n → slice_get b.nodes i ≡ Some n)
        → Good s → Good (close firm j ns s)
    close_good [] j s at a = a
    close_good (n ∷ ns) j s at a =
        split_good j n (close firm (suc j) ns s) (at zero n j (omega arith) refl)
        (close_good ns (suc j) s (λ k m i e d. at (suc k) m i (omega (arith, e)) d) a)

    reaches_good : (s : List Scope) → Good s → (d : ℕ) (g : Scope) → reaches b.nodes s d g ≡ true
        → met h g ≡ true → here regs h ss ≡ 1
    reaches_good s a zero g e m = (has_good s g a e).sure m
    reaches_good s a (suc d) g e m = go (either_true (has s g) (outer (reaches b.nodes s d) b.nodes g) e)
        (λ k. reaches_good s a d k)
      where
        ask_good : (n : Option FlowNode) (k : Guard) → slice_get b.nodes k.node ≡ n
            → ask (reaches b.nodes s d) n ≡ true → present (h k.node) ≡ 1
            → ((c : Scope) → reaches b.nodes s d c ≡ true → met h c ≡ true → here regs h ss ≡ 1) → here regs h ss ≡ 1
        ask_good None k en q p r = absurd (cc)
        ask_good (Some n) k en q p r = r n.guard q
            (was_met (met h n.guard) (present (h k.node)) _ (there k.node n en) p)

        out : (c : Scope) → outer (reaches b.nodes s d) b.nodes c ≡ true → met h c ≡ true
            → ((c : Scope) → reaches b.nodes s d c ≡ true → met h c ≡ true → here regs h ss ≡ 1)
            → here regs h ss ≡ 1
        out None q mc r = absurd (cc)
        out (Some k) q mc r =
            let w = both_true (not (is_always k.sense)) (ask (reaches b.nodes s d) (slice_get b.nodes k.node)) q in
            ask_good (slice_get b.nodes k.node) k refl w.1
            (bit_there (h k.node) k.sense (not_true (is_always k.sense) w.0) mc) r

        go : (has s g ≡ true) ⊎ (outer (reaches b.nodes s d) b.nodes g ≡ true)
            → ((c : Scope) → reaches b.nodes s d c ≡ true → met h c ≡ true → here regs h ss ≡ 1)
            → here regs h ss ≡ 1
        go (inl x) r = (has_good s g a x).sure m
        go (inr x) r = out g x m r

  sure_good : (firm : Firm) → FirmOk firm → (g : Scope) (ss : List FlowSource)
      → sure_of b.nodes firm g ss ≡ true → met h g ≡ true → here regs h ss ≡ 1
  sure_good firm ok g ss e m =
      go (either_true (has (close firm 0 b.nodes (scopes b.nodes firm ss)) None)
      (reaches b.nodes (close firm 0 b.nodes (scopes b.nodes firm ss)) (length b.nodes) g) e)
    where
      good : Good firm ok ss (close firm 0 b.nodes (scopes b.nodes firm ss))
      good = close_good firm ok ss b.nodes 0 (scopes b.nodes firm ss)
          (λ k n i ei d. subst (λ (z : ℕ). slice_get b.nodes z ≡ Some n) (omega (arith, ei)) d)
          (scopes_good firm ok ss ss (λ x. x))

      go : (has (close firm 0 b.nodes (scopes b.nodes firm ss)) None ≡ true) ⊎
          (reaches b.nodes (close firm 0 b.nodes (scopes b.nodes firm ss)) (length b.nodes) g ≡ true)
          → here regs h ss ≡ 1
      go (inl x) = (has_good firm ok ss (close firm 0 b.nodes (scopes b.nodes firm ss)) None good x).sure refl
      go (inr x) = reaches_good firm ok ss (close firm 0 b.nodes (scopes b.nodes firm ss)) good (length b.nodes) g x m

  is_firm_good : (firm : Firm) → FirmOk firm → (y : ℕ) (n : FlowNode) → slice_get b.nodes y ≡ Some n
      → is_firm b.nodes firm n ≡ true → met h n.guard ≡ true → present (h y) ≡ 1
  is_firm_good firm ok y n e q m =
      let w = both_true (not (left_open (sure_of b.nodes firm) n)) (not (right_open (sure_of b.nodes firm) n)) q in
      fires (met h n.guard) (present (h y)) _ _ (there y n e) m
      (closed_operand (takes_left (role_of n.op)) (sure_of b.nodes firm n.guard n.left) (here regs h n.left) w.0
      (λ s. sure_good firm ok n.guard n.left s m))
      (closed_operand (takes_right (role_of n.op)) (sure_of b.nodes firm n.guard n.right)
      (here regs h n.right) w.1 (λ s. sure_good firm ok n.guard n.right s m))

  firms_good : (ns : List FlowNode) (found : List Bool) → FirmOk (firm_of found)
      → ((k : ℕ) (n : FlowNode) (i : ℕ) → i ≡ length found + k → slice_get ns k ≡ Some n
      → slice_get b.nodes i ≡ Some n)
      → FirmOk (firm_of (firms_from b.nodes found ns))
  firms_good [] found ok at = ok
  firms_good (n ∷ ns) found ok at =
      firms_good ns (found ++ (is_firm b.nodes (firm_of found) n ∷ []))
      (λ y m e q me. one y m e (found_more found (is_firm b.nodes (firm_of found) n) y q) me)
      (λ k m i e d. at (suc k) m i (omega (arith, e, length-append found (is_firm b.nodes (firm_of found) n ∷ []))) d)
    where
      one : (y : ℕ) (m : FlowNode) → slice_get b.nodes y ≡ Some m
          → (get_or found y false ≡ true) ⊎ ((y ≡ length found) × (is_firm b.nodes (firm_of found) n ≡ true))
          → met h m.guard ≡ true → present (h y) ≡ 1
      one y m e (inl q) me = ok y m e q me
      one y m e (inr q) me =
          let z : slice_get b.nodes y ≡ Some n = at zero n y (omega (arith, q.0)) refl in
          let nm : n ≡ m = some_is n m (sym z ∙ e) in
          is_firm_good (firm_of found) ok y m e (ap (is_firm b.nodes (firm_of found)) (sym nm) ∙ q.1) me

-- what is said to be there is there on every path
pub sure_is_trusty : (b : FlowBlock) → FitsFlow b → Trusty (sure_by b) b
sure_is_trusty b fits regs f h o g ss e m =
    let clear = (fits.tidy regs f h o).clear in
    sure_good regs h f b o clear (firm_of (firms b.nodes))
    (firms_good regs h f b o clear b.nodes [] (λ y n en q. absurd (cc))
    (λ k n i ei d. subst (λ (z : ℕ). slice_get b.nodes z ≡ Some n) (omega (arith, ei)) d)) g ss e m
