-- Sources and what stands behind them: the same tokens in each table, and as many.
use Rattle.std.proofs.Common.{◌≡◌, ◌≢◌, ℕ, ◌+◌, ◌≤◌, List, [], ◌∷◌, ◌++◌, ◌⊎◌, inl, inr, refl, sym, ap, ap₂}
use Rattle.std.proofs.Common.{subst, ◌∙◌, arith, cond, nat_eq, Bool, true, false, ◌&&◌, ◌||◌, not, map}
use Rattle.std.specs.Prelude.{Some, None, Option, All, slice_get, option_map}
use Rattle.std.proofs.lemmas.Bool.{and_parts, eqb-false, or_cases}
use Rattle.std.proofs.lemmas.List.Elements.{All-head, All-tail, All-nil, All-cons, All-append}
use Rattle.std.proofs.lemmas.Option.{slice_get-map}
use Rattle.trips_isa.specs.declared.op.Op.{Op}
use Rattle.trips_isa.specs.declared.op.Op.TheVariants as op
use Rattle.trips_isa.specs.Forms.{role_of}
use Rattle.trips_isa.specs.Rule as rules
use Rattle.trips_isa.specs.Rule.{Answer, if_matched}
use Rattle.trips_isa.specs.Tables.{or_else}
use Rattle.ir_forms.specs.declared.flow.FlowSource.{FlowSource}
use Rattle.ir_forms.specs.declared.flow.FlowSource.TheVariants.{Read, Node}
use Rattle.ir_forms.specs.declared.flow.Guard.{Guard}
use Rattle.ir_forms.specs.declared.flow.FlowNode.{FlowNode}
use Rattle.ir_forms.specs.inside.FlowRuns.{Computes, Obeys, got, first, met, count, present}
use Rattle.ir_forms.specs.inside.FlowFits.{AtMostOne}
use Rattle.ir_forms.specs.inside.FlowRegular.{is_among, same_source, guards_by, nodes_name}
use Rattle.flow_fold.specs.inside.Copies.{is_mov, covers, guard_of}
use Rattle.flow_fold.specs.inside.Draws.{echoes, all_echo, is_marked, copies_all, behind_at, behind, all_behind}
use Rattle.flow_fold.specs.inside.Replaces.{Immediates, with_immediate}
use Rattle.flow_fold.proofs.Places.{all_at}
use Rattle.flow_fold.proofs.Echoes.{obeys_at}
use Rattle.flow_fold.proofs.Names.{named_at, or_first, or_second}
use Rattle.flow_fold.proofs.Forwarded.{mov_is, covers_is}
use Rattle.flow_fold.proofs.GuardRules.{twice_matched}

-- LISTS OF SOURCES

or_group : (a b c : Answer) → or_else (or_else a b) c ≡ or_else a (or_else b c)
or_group None b c = refl
or_group (Some t) b c = refl

-- the first of two lists
first_both : (regs : ℕ → ℕ) (h : ℕ → Answer) (xs ys : List FlowSource)
    → first regs h (xs ++ ys) ≡ or_else (first regs h xs) (first regs h ys)
first_both regs h [] ys = refl
first_both regs h (x ∷ xs) ys =
    ap (or_else (got regs h x)) (first_both regs h xs ys)
    ∙ sym (or_group (got regs h x) (first regs h xs) (first regs h ys))

sum_group : (p a b c : ℕ) → c ≡ a + b → p + c ≡ (p + a) + b
sum_group p a b c e = omega (arith, e)

none_more : (c d : ℕ) → c ≡ d → 0 + c ≡ d
none_more c d e = omega (arith, e)

one_alone : (c : ℕ) → 1 + c ≤ 1 → 1 + c ≡ 1
one_alone c l = omega (arith, l)

less : (p c : ℕ) → p + c ≤ 1 → c ≤ 1
less p c l = omega (arith, l)

count_both : (regs : ℕ → ℕ) (h : ℕ → Answer) (xs ys : List FlowSource)
    → count regs h (xs ++ ys) ≡ count regs h xs + count regs h ys
count_both regs h [] ys = sym (none_more (count regs h ys) (count regs h ys) refl)
count_both regs h (x ∷ xs) ys =
    sum_group (present (got regs h x)) (count regs h xs) (count regs h ys) (count regs h (xs ++ ys))
    (count_both regs h xs ys)

-- one token more, before at most one in all
one_more : (t u : Answer) (c : ℕ) → present t + c ≤ 1 → c ≡ present u → present t + c ≡ present (or_else t u)
one_more None u c l e = none_more c (present u) e
one_more (Some t) u c l e = one_alone c l

-- at most one token is as many as the first of them
one_is_first : (regs : ℕ → ℕ) (h : ℕ → Answer) (ss : List FlowSource) → count regs h ss ≤ 1
    → count regs h ss ≡ present (first regs h ss)
one_is_first regs h [] l = refl
one_is_first regs h (s ∷ ss) l =
    one_more (got regs h s) (first regs h ss) (count regs h ss) l
    (one_is_first regs h ss (less (present (got regs h s)) (count regs h ss) l))

among_more : (b c d e : Bool) → ((c || d) ≡ true → e ≡ true) → ((b || c) || d) ≡ true → (b || e) ≡ true
among_more true c d e f q = refl
among_more false c d e f q = f q

among_both : (s : FlowSource) (xs ys : List FlowSource) → (is_among s xs || is_among s ys) ≡ true
    → is_among s (xs ++ ys) ≡ true
among_both s [] ys e = e
among_both s (x ∷ xs) ys e =
    among_more (same_source s x) (is_among s xs) (is_among s ys) (is_among s (xs ++ ys)) (among_both s xs ys) e

among_later : (b c d e : Bool) → (e ≡ true → (c ≡ true) ⊎ (d ≡ true)) → (b || e) ≡ true
    → ((b || c) ≡ true) ⊎ (d ≡ true)
among_later true c d e f q = inl refl
among_later false c d e f q = f q

among_parts : (s : FlowSource) (xs ys : List FlowSource) → is_among s (xs ++ ys) ≡ true
    → (is_among s xs ≡ true) ⊎ (is_among s ys ≡ true)
among_parts s [] ys e = inr e
among_parts s (x ∷ xs) ys e =
    among_later (same_source s x) (is_among s xs) (is_among s ys) (is_among s (xs ++ ys)) (among_parts s xs ys) e

-- WHAT STANDS BEHIND A SOURCE

-- source s is a node other than node j that copies some sources, and gives the token of each
pub record Joining (nodes : List FlowNode) (j : ℕ) (s : FlowSource) (xs : List FlowSource) : Type 0 where
  pub place : ℕ
  pub is : s ≡ Node place
  pub apart : place ≢ j
  pub node : FlowNode
  pub there : slice_get nodes place ≡ Some node
  pub mov : node.op ≡ op.Mov
  pub left : node.left ≡ xs
  pub echo : all_echo nodes j node.guard xs ≡ true

not_or : (a b c : Bool) → (not (a || b) && c) ≡ true → (a ≡ false) × (c ≡ true)
not_or true b c e = absurd (cc)
not_or false true c e = absurd (cc)
not_or false false c e = (refl, e)

-- it is the source itself, or what that copies
pub behind_is : (nodes : List FlowNode) (marks : List Bool) (j : ℕ) (s : FlowSource)
    → (behind nodes marks j s ≡ s ∷ []) ⊎ Joining nodes j s (behind nodes marks j s)
behind_is nodes marks j (Read r) = inl refl
behind_is nodes marks j (Node k) = by_node (slice_get nodes k) refl
  where
    by_node : (o : Option FlowNode) → slice_get nodes k ≡ o
        → (behind_at nodes j (nat_eq k j || is_marked (slice_get marks k)) (Node k) o ≡ Node k ∷ [])
        ⊎ Joining nodes j (Node k) (behind_at nodes j (nat_eq k j || is_marked (slice_get marks k)) (Node k) o)
    by_node None there = inl refl
    by_node (Some c) there =
        pick (not (nat_eq k j || is_marked (slice_get marks k)) && copies_all nodes j c) refl
      where
        pick : (b : Bool) → (not (nat_eq k j || is_marked (slice_get marks k)) && copies_all nodes j c) ≡ b
            → (cond b c.left (Node k ∷ []) ≡ Node k ∷ []) ⊎ Joining nodes j (Node k) (cond b c.left (Node k ∷ []))
        pick false e = inl refl
        pick true e =
            let p = not_or (nat_eq k j) (is_marked (slice_get marks k)) (copies_all nodes j c) e in
            let q = and_parts (is_mov c.op) (all_echo nodes j c.guard c.left) p.1 in
            inr (record {
              place = k;
              is = refl;
              apart = eqb-false k j p.0;
              node = c;
              there = there;
              mov = mov_is c.op q.0;
              left = refl;
              echo = q.1;
            })

either_none : (g : Option Guard) → (g ≡ None) ⊎ (g ≡ None) → g ≡ None
either_none g (inl d) = d
either_none g (inr d) = d

not_true : (b : Bool) → not b ≡ true → b ≡ false
not_true true e = absurd (cc)
not_true false e = refl

-- IN THE TABLES of a block that has, but at place j, the nodes of another

module _ (nodes others : List FlowNode) (j : ℕ)
    (same : (k : ℕ) (n : FlowNode) → k ≢ j → slice_get nodes k ≡ Some n → slice_get others k ≡ Some n)
    (regs : ℕ → ℕ) (a : Computes) (h : ℕ → Answer) (obeys : Obeys regs a h 0 others) where
  bare_token : (g : Option Guard) (t : Answer) → g ≡ None → if_matched (met h g) t ≡ t
  bare_token g t d = ap (λ (z : Option Guard). if_matched (met h z) t) d

  -- the token of a source that is echoed comes through the copy
  echo_token : (g : Option Guard) (x : FlowSource) → echoes nodes j g x ≡ true
      → if_matched (met h g) (got regs h x) ≡ got regs h x
  echo_token g (Read r) e = bare_token g (got regs h (Read r)) (either_none g (covers_is g None e))
  echo_token g (Node i) e =
      let p = and_parts (not (nat_eq i j)) (covers g (guard_of (slice_get nodes i))) e in
      go (eqb-false i j (not_true (nat_eq i j) p.0)) (slice_get nodes i) refl
      (covers_is g (guard_of (slice_get nodes i)) p.1)
    where
      go : i ≢ j → (o : Option FlowNode) → slice_get nodes i ≡ o
          → (g ≡ None) ⊎ (g ≡ guard_of (slice_get nodes i)) → if_matched (met h g) (h i) ≡ h i
      go d o t (inl q) = bare_token g (h i) q
      go d None t (inr q) = bare_token g (h i) (q ∙ ap guard_of t)
      go d (Some y) t (inr q) =
          let p : Answer = rules.gives (role_of y.op) (a i y) (first regs h y.left) (first regs h y.right) in
          let w : h i ≡ if_matched (met h y.guard) p =
          obeys_at regs a h 0 others obeys i y i (omega arith) (same i y d t) in
          ap₂ if_matched (ap (met h) (q ∙ ap guard_of t)) w ∙ (twice_matched (met h y.guard) p ∙ sym w)

  matched_both : (b : Bool) (s t : Answer) → if_matched b (or_else s t) ≡ or_else (if_matched b s) (if_matched b t)
  matched_both true s t = refl
  matched_both false s t = refl

  matched_none : (b : Bool) → if_matched b None ≡ None
  matched_none true = refl
  matched_none false = refl

  -- and so does the first of some
  echo_first : (g : Option Guard) (xs : List FlowSource) → all_echo nodes j g xs ≡ true
      → if_matched (met h g) (first regs h xs) ≡ first regs h xs
  echo_first g [] e = matched_none (met h g)
  echo_first g (x ∷ xs) e =
      let p = and_parts (echoes nodes j g x) (all_echo nodes j g xs) e in
      matched_both (met h g) (got regs h x) (first regs h xs)
      ∙ ap₂ or_else (echo_token g x p.0) (echo_first g xs p.1)

  -- a node that joins some sources gives the first of them
  joined_token : (s : FlowSource) (xs : List FlowSource) → Joining nodes j s xs → first regs h xs ≡ got regs h s
  joined_token s xs c =
      let b = met h c.node.guard in
      let w : h c.place ≡ if_matched b (first regs h xs) =
      obeys_at regs a h 0 others obeys c.place c.node c.place (omega arith) (same c.place c.node c.apart c.there)
      ∙ ap (λ (p : Op). if_matched b (rules.gives (role_of p) (a c.place c.node) (first regs h c.node.left)
      (first regs h c.node.right))) c.mov
      ∙ ap (λ (ss : List FlowSource). if_matched b (first regs h ss)) c.left in
      sym (echo_first c.node.guard xs c.echo) ∙ (sym w ∙ ap (got regs h) (sym c.is))

  or_nothing : (t : Answer) → or_else t None ≡ t
  or_nothing None = refl
  or_nothing (Some t) = refl

  -- what stands behind a source gives its token
  behind_token : (marks : List Bool) (s : FlowSource) → first regs h (behind nodes marks j s) ≡ got regs h s
  behind_token marks s = go (behind nodes marks j s) (behind_is nodes marks j s)
    where
      go : (xs : List FlowSource) → (xs ≡ s ∷ []) ⊎ Joining nodes j s xs → first regs h xs ≡ got regs h s
      go xs (inl e) = ap (first regs h) e ∙ or_nothing (got regs h s)
      go xs (inr c) = joined_token s xs c

  -- and all that stands behind some sources the first of theirs
  pub first_behind : (marks : List Bool) (ss : List FlowSource)
      → first regs h (all_behind nodes marks j ss) ≡ first regs h ss
  first_behind marks [] = refl
  first_behind marks (s ∷ ss) =
      first_both regs h (behind nodes marks j s) (all_behind nodes marks j ss)
      ∙ ap₂ or_else (behind_token marks s) (first_behind marks ss)

  module _ (tidy : All (AtMostOne regs h) nodes) where
    only_one : (p : Answer) → present p + 0 ≡ present p
    only_one None = refl
    only_one (Some t) = refl

    count_one : (marks : List Bool) (s : FlowSource)
        → count regs h (behind nodes marks j s) ≡ present (got regs h s)
    count_one marks s = go (behind nodes marks j s) (behind_is nodes marks j s)
      where
        go : (xs : List FlowSource) → (xs ≡ s ∷ []) ⊎ Joining nodes j s xs
            → count regs h xs ≡ present (got regs h s)
        go xs (inl e) = ap (count regs h) e ∙ only_one (got regs h s)
        go xs (inr c) =
            one_is_first regs h xs (subst (λ (z : List FlowSource). count regs h z ≤ 1) c.left
            (all_at (AtMostOne regs h) nodes tidy c.place c.node c.there).0)
            ∙ ap present (joined_token s xs c)

    -- as many tokens come from behind some sources as from these
    pub count_behind : (marks : List Bool) (ss : List FlowSource)
        → count regs h (all_behind nodes marks j ss) ≡ count regs h ss
    count_behind marks [] = refl
    count_behind marks (s ∷ ss) =
        count_both regs h (behind nodes marks j s) (all_behind nodes marks j ss)
        ∙ ap₂ (λ (x y : ℕ). x + y) (count_one marks s) (count_behind marks ss)

-- IN THE BLOCK

-- a register that is taken still is
pub among_read : (nodes : List FlowNode) (marks : List Bool) (j r : ℕ) (ss : List FlowSource)
    → is_among (Read r) ss ≡ true → is_among (Read r) (all_behind nodes marks j ss) ≡ true
among_read nodes marks j r [] e = absurd (cc)
among_read nodes marks j r (Node k ∷ ss) e =
    among_both (Read r) (behind nodes marks j (Node k)) (all_behind nodes marks j ss)
    (or_second (is_among (Read r) (behind nodes marks j (Node k))) (is_among (Read r) (all_behind nodes marks j ss))
    (among_read nodes marks j r ss e))
among_read nodes marks j r (Read q ∷ ss) e =
    pick (λ d. among_read nodes marks j r ss d) (or_cases (same_source (Read r) (Read q)) (is_among (Read r) ss) e)
  where
    pick : (is_among (Read r) ss ≡ true → is_among (Read r) (all_behind nodes marks j ss) ≡ true)
        → (same_source (Read r) (Read q) ≡ true) ⊎ (is_among (Read r) ss ≡ true)
        → (same_source (Read r) (Read q) || is_among (Read r) (all_behind nodes marks j ss)) ≡ true
    pick after (inl d) =
        or_first (same_source (Read r) (Read q)) (is_among (Read r) (all_behind nodes marks j ss)) d
    pick after (inr d) =
        or_second (same_source (Read r) (Read q)) (is_among (Read r) (all_behind nodes marks j ss)) (after d)

-- a node that stands behind sources is named by them, or by a node
pub among_node : (nodes : List FlowNode) (marks : List Bool) (j y : ℕ) (ss : List FlowSource)
    → is_among (Node y) (all_behind nodes marks j ss) ≡ true
    → (is_among (Node y) ss ≡ true) ⊎ (nodes_name (Node y) nodes ≡ true)
among_node nodes marks j y [] e = absurd (cc)
among_node nodes marks j y (s ∷ ss) e =
    pick (λ d. among_node nodes marks j y ss d)
    (among_parts (Node y) (behind nodes marks j s) (all_behind nodes marks j ss) e)
  where
    only : (same_source (Node y) s || false) ≡ true → same_source (Node y) s ≡ true
    only d = go (same_source (Node y) s) d
      where
        go : (b : Bool) → (b || false) ≡ true → b ≡ true
        go true q = refl
        go false q = absurd (cc)

    here : (xs : List FlowSource) → (xs ≡ s ∷ []) ⊎ Joining nodes j s xs → is_among (Node y) xs ≡ true
        → (is_among (Node y) (s ∷ ss) ≡ true) ⊎ (nodes_name (Node y) nodes ≡ true)
    here xs (inl q) d = inl (or_first (same_source (Node y) s) (is_among (Node y) ss)
        (only (ap (is_among (Node y)) (sym q) ∙ d)))
    here xs (inr c) d = inr (named_at (Node y) nodes c.place c.node c.there
        (or_first (is_among (Node y) c.node.left) (is_among (Node y) c.node.right || guards_by (Node y) c.node.guard)
        (ap (is_among (Node y)) c.left ∙ d)))

    later : (is_among (Node y) ss ≡ true) ⊎ (nodes_name (Node y) nodes ≡ true)
        → (is_among (Node y) (s ∷ ss) ≡ true) ⊎ (nodes_name (Node y) nodes ≡ true)
    later (inl d) = inl (or_second (same_source (Node y) s) (is_among (Node y) ss) d)
    later (inr d) = inr d

    pick : (is_among (Node y) (all_behind nodes marks j ss) ≡ true
        → (is_among (Node y) ss ≡ true) ⊎ (nodes_name (Node y) nodes ≡ true))
        → (is_among (Node y) (behind nodes marks j s) ≡ true)
        ⊎ (is_among (Node y) (all_behind nodes marks j ss) ≡ true)
        → (is_among (Node y) (s ∷ ss) ≡ true) ⊎ (nodes_name (Node y) nodes ≡ true)
    pick after (inl d) = here (behind nodes marks j s) (behind_is nodes marks j s) d
    pick after (inr d) = later (after d)

-- what holds of some sources, and of all that nodes take, holds of what stands behind the sources
pub all_behind_hold : (P : FlowSource → Type 0) (nodes : List FlowNode) (marks : List Bool) (j : ℕ)
    → ((k : ℕ) (n : FlowNode) → k ≢ j → slice_get nodes k ≡ Some n → (s : FlowSource) → s ≡ Node k → P s
    → All P n.left) → (ss : List FlowSource) → All P ss → All P (all_behind nodes marks j ss)
all_behind_hold P nodes marks j takes [] a = a
all_behind_hold P nodes marks j takes (s ∷ ss) a =
    All-append P (behind nodes marks j s) (all_behind nodes marks j ss)
    (go (behind nodes marks j s) (behind_is nodes marks j s))
    (all_behind_hold P nodes marks j takes ss (All-tail P s ss a))
  where
    go : (xs : List FlowSource) → (xs ≡ s ∷ []) ⊎ Joining nodes j s xs → All P xs
    go xs (inl e) = subst (λ (z : List FlowSource). All P z) (sym e) (All-cons P s [] (All-head P s ss a) (All-nil P))
    go xs (inr c) = subst (λ (z : List FlowSource). All P z) c.left
        (takes c.place c.node c.apart c.there s c.is (All-head P s ss a))

-- WHATEVER THE LABELS BECOME

module _ (r : Immediates) (nodes : List FlowNode) (marks : List Bool) (j : ℕ) where
  abbrev new : FlowNode → FlowNode
  new = with_immediate r

  guard_new : (o : Option FlowNode) → guard_of (option_map new o) ≡ guard_of o
  guard_new None = refl
  guard_new (Some n) = refl

  echoes_new : (g : Option Guard) (x : FlowSource) → echoes (map new nodes) j g x ≡ echoes nodes j g x
  echoes_new g (Read q) = refl
  echoes_new g (Node i) = ap (λ (b : Bool). not (nat_eq i j) && b)
      (ap (covers g) (ap guard_of (slice_get-map new nodes i) ∙ guard_new (slice_get nodes i)))

  all_new : (g : Option Guard) (xs : List FlowSource) → all_echo (map new nodes) j g xs ≡ all_echo nodes j g xs
  all_new g [] = refl
  all_new g (x ∷ xs) = ap₂ (λ (b c : Bool). b && c) (echoes_new g x) (all_new g xs)

  at_new : (b : Bool) (s : FlowSource) (o : Option FlowNode)
      → behind_at (map new nodes) j b s (option_map new o) ≡ behind_at nodes j b s o
  at_new b s None = refl
  at_new b s (Some c) = ap (λ (x : Bool). cond (not b && (is_mov c.op && x)) c.left (s ∷ []))
      (all_new c.guard c.left)

  behind_new : (s : FlowSource) → behind (map new nodes) marks j s ≡ behind nodes marks j s
  behind_new (Read q) = refl
  behind_new (Node k) =
      ap (behind_at (map new nodes) j (nat_eq k j || is_marked (slice_get marks k)) (Node k))
      (slice_get-map new nodes k)
      ∙ at_new (nat_eq k j || is_marked (slice_get marks k)) (Node k) (slice_get nodes k)

  -- the same stands behind
  pub all_behind_new : (ss : List FlowSource)
      → all_behind (map new nodes) marks j ss ≡ all_behind nodes marks j ss
  all_behind_new [] = refl
  all_behind_new (s ∷ ss) = ap₂ (λ (x y : List FlowSource). x ++ y) (behind_new s) (all_behind_new ss)
