-- The cases of a moved block, and what each place gets in them, are the block's.
use Rattle.std.proofs.Common.{◌≡◌, ◌≢◌, ℕ, zero, suc, ◌+◌, ◌<◌, ◌≤◌, ◌⊎◌, Bool, true, false}
use Rattle.std.proofs.Common.{◌&&◌, ◌||◌, List, [], ◌∷◌, map, length, Option, Some, None}
use Rattle.std.proofs.Common.{slice_get, refl, sym, ap, ap₂, subst, ◌∙◌, arith, nat_lt, ltb-true}
use Rattle.std.proofs.Common.{ltb-false, ⊎_elim}
use Rattle.std.specs.Prelude.{option_map}
use Rattle.std.proofs.Math.Path.{fun_ext}
use Rattle.std.proofs.lemmas.Option.{slice_get-map}
use Rattle.std.proofs.lemmas.List.{length-map}
use Rattle.trips_isa.specs.declared.node.Node.{Node}
use Rattle.trips_isa.specs.declared.block.Sense.TheVariants.{Always}
use Rattle.trips_isa.specs.declared.form.Role.TheVariants.{Reading}
use Rattle.trips_isa.specs.Places.{targets, names}
use Rattle.trips_isa.specs.Tables.{taken, or_else, first, deepest, IsRanked}
use Rattle.block_cases.specs.declared.token.CaseToken.{CaseToken}
use Rattle.block_cases.specs.declared.token.CaseToken.TheVariants.{Absent, Null, Bit}
use Rattle.block_cases.specs.Nodes.{hits, one_if}
use Rattle.block_cases.specs.CaseRule.{taken as case_taken, or_else as case_or_else}
use Rattle.block_cases.specs.CaseRule.{first as case_first}
use Rattle.block_cases.specs.CaseRule.{pulled, fires, fire, if_matched, matches, gives}
use Rattle.block_cases.specs.Choosers.{is_copy, asks, through, leads_from, leads, is_chooser}
use Rattle.block_cases.specs.Cases.{present}
use Rattle.block_cases.specs.Cases.{bit}
use Rattle.block_cases.specs.Cases.{token, has_bit, is_case, count, cases, weighed, tokens}
use Rattle.block_cases.specs.CaseRule.{no}
use Rattle.block_cases.specs.Cases.{IsCase, GetsTwo, GetsNone}
use Rattle.block_cases.specs.Good.{Good}
use Rattle.block_cases.specs.inside.Good.{IsPlaced}
use Rattle.block_cases.proofs.Steady.{fire_same, settled, only_one}
use Rattle.block_cases.proofs.AnyBits.{any_bits}
use Rattle.grid_place.proofs.Found.{Once}
use Rattle.grid_place.proofs.Renaming.{moved_node, names_same, eq_same}
use Rattle.grid_place.proofs.MovedNodes.{Standing}
use Rattle.grid_place.proofs.Outcome.{first_alike}
use Rattle.grid_place.proofs.Edges.{node_back, ranked_back}
use Rattle.grid_place.proofs.Totals.{total, led_apart, total_same, total_map, indices}
use Rattle.grid_place.proofs.Totals.{index_in, index_low, indices_distinct, bits, count_total}
use Rattle.grid_place.proofs.Totals.{bits_in}
use Rattle.grid_place.proofs.Totals.{bits_long, bits_distinct}
use Rattle.grid_place.proofs.ListFacts.{got_low, got_none, got_or, past, index_count, same_bits}
use Rattle.grid_place.proofs.ListFacts.{same_truth, ones_all, all_ones}

-- tokens of cases as tokens that may be missing
-- ----------------------------------------------------

abbrev opt : CaseToken → Option CaseToken
opt Absent = None
opt Null = Some Null
opt (Bit v) = Some (Bit v)

abbrev un : Option CaseToken → CaseToken
un None = Absent
un (Some t) = t

head_option : (b : Bool) (f : ℕ → CaseToken) (r : Option CaseToken)
    → case_or_else (case_taken b f) (un r) ≡ un (or_else (taken b (λ x. opt (f x))) r)
head_option true f r = by (f 0)
  where
    by : (t : CaseToken) → case_or_else t (un r) ≡ un (or_else (opt t) r)
    by Absent = refl
    by Null = refl
    by (Bit v) = refl
head_option false f r = refl

as_option : (ns : List Node) (q : ℕ) (f : ℕ → CaseToken)
    → case_first ns q f ≡ un (first ns q (λ x. opt (f x)))
as_option [] q f = refl
as_option (n ∷ ns) q f =
    ap (case_or_else (case_taken (names (targets n) q) f)) (as_option ns q (λ y. f (suc y)))
    ∙ head_option (names (targets n) q) f (first ns q (λ y. opt (f (suc y))))

opt_fires : (t u : CaseToken) → opt t ≡ Some u → t ≢ Absent
opt_fires t u e n = let k : None ≡ Some u = ap opt (sym n) ∙ e in absurd (cc)

reading_fires : (n : Node) (v : Bool) (l r p : CaseToken) → n.role ≡ Reading → n.sense ≡ Always
    → fire n v l r p ≡ Bit v
reading_fires n v l r p e f = ap₂ (λ s g. if_matched (matches s p) (gives g v l r)) f e

-- chains through `mov`
record Through (ns : List Node) (ts : List ℕ) (f : ℕ → Bool) : Type 0 where
  index : ℕ
  node : Node
  is : slice_get ns index ≡ Some node
  asked : (is_copy node.role && names ts node.slot) ≡ true
  holds : f index ≡ true

through_later : (m : Node) (ms : List Node) (ts : List ℕ) (f : ℕ → Bool)
    → Through ms ts (λ y. f (suc y)) → Through (m ∷ ms) ts f
through_later m ms ts f h = record {
  index = suc h.index;
  node = h.node;
  is = h.is;
  asked = h.asked;
  holds = h.holds;
}

through_at : (m : Node) (ms : List Node) (ts : List ℕ) (f : ℕ → Bool) (a : Bool)
    → (is_copy m.role && names ts m.slot) ≡ a
    → (through ms ts (λ y. f (suc y)) ≡ true → Through ms ts (λ y. f (suc y)))
    → (asks a f || through ms ts (λ y. f (suc y))) ≡ true → Through (m ∷ ms) ts f
through_at m ms ts f true a h e = by (f 0) refl e
  where
    by : (v : Bool) → f 0 ≡ v → (v || through ms ts (λ y. f (suc y))) ≡ true → Through (m ∷ ms) ts f
    by true k e = record { index = 0; node = m; is = refl; asked = a; holds = k }
    by false k e = through_later m ms ts f (h e)
through_at m ms ts f false a h e = through_later m ms ts f (h e)

through_found : (ms : List Node) (ts : List ℕ) (f : ℕ → Bool) → through ms ts f ≡ true
    → Through ms ts f
through_found [] ts f e = absurd (cc)
through_found (m ∷ ms) ts f e = through_at m ms ts f (is_copy m.role && names ts m.slot) refl
    (through_found ms ts (λ y. f (suc y))) e

or_first : (a b : Bool) → a ≡ true → (a || b) ≡ true
or_first true b e = refl
or_first false b e = absurd (cc)

or_second : (a b : Bool) → b ≡ true → (a || b) ≡ true
or_second true b e = refl
or_second false b e = e

found_through : (ms : List Node) (ts : List ℕ) (f : ℕ → Bool) (x : ℕ) (n : Node)
    → slice_get ms x ≡ Some n → (is_copy n.role && names ts n.slot) ≡ true → f x ≡ true
    → through ms ts f ≡ true
found_through [] ts f x n i a h = absurd (cc)
found_through (m ∷ ms) ts f zero n i a h =
    let same : m ≡ n = cc in
    or_first _ _ (ap (λ (k : Node). asks (is_copy k.role && names ts k.slot) f) same
    ∙ ap (λ v. asks v f) a ∙ h)
found_through (m ∷ ms) ts f (suc x) n i a h = or_second _ _
    (found_through ms ts (λ y. f (suc y)) x n i a h)

-- how much a node gives a place
abbrev weight : Option Node → CaseToken → ℕ → ℕ
weight None t q = 0
weight (Some n) t q = weighed t (hits (targets n) q)

tokens_total : (ns : List Node) (f : ℕ → CaseToken) (q : ℕ)
    → tokens ns f q ≡ total (λ x. weight (slice_get ns x) (f x) q) (indices (length ns))
tokens_total [] f q = refl
tokens_total (n ∷ ns) f q = ap (λ k. weighed (f 0) (hits (targets n) q) + k)
    (tokens_total ns (λ y. f (suc y)) q
    ∙ sym (total_map suc (λ x. weight (slice_get (n ∷ ns) x) (f x) q) (indices (length ns))))

-- nodes in a slot, or reads
abbrev pub IsPlain : List Node → Type 0
IsPlain ns = (x : ℕ) (n : Node) → slice_get ns x ≡ Some n
    → (n.slot < 128) ⊎ ((n.role ≡ Reading) × (n.sense ≡ Always))

module _ (ns ms : List Node) (place to from : ℕ → ℕ) (s : Standing ns ms place to from)
    (r : IsRanked ns) (placed : IsPlaced ns) (plain : IsPlain ns) (wanted : ℕ → Bool)
    (good : Good ns wanted) (size : length ms ≡ length ns) where
  ranked : IsRanked ms
  ranked = ranked_back ns ms place to from s r

  -- places and nodes below the end
  there : (x : ℕ) → x < length ns → to x < length ns
  there x l = by (slice_get ns x) refl
    where
      by : (o : Option Node) → slice_get ns x ≡ o → to x < length ns
      by None e = absurd (let h = got_none ns x e in omega (arith, l, h))
      by (Some n) e =
          let h = got_low ms (to x) _ (s.stands x ∙ ap (option_map (moved_node place)) e) in
          omega (arith, h, size)

  back : (y : ℕ) → y < length ns → from y < length ns
  back y l = by (slice_get ns (from y)) refl
    where
      by : (o : Option Node) → slice_get ns (from y) ≡ o → from y < length ns
      by None e =
          let h = got_none ms y (ap (slice_get ms) (sym (s.returned y)) ∙ s.stands (from y)
          ∙ ap (option_map (moved_node place)) e) in
          absurd (omega (arith, l, h, size))
      by (Some n) e = got_low ns (from y) n e

  -- what fires, fires
  module _ (d : ℕ → Bool) where
    abbrev before : ℕ → CaseToken
    before = fires ns (λ x. d (to x)) deepest

    abbrev after : ℕ → CaseToken
    after y = before (from y)

    once : (q : ℕ) → q < 449 → Once ns q (λ x. opt (before x))
    once q lt x y u v a b =
        let here : x ≡ y = any_bits ns wanted r placed good (λ x. d (to x)) q x y lt
        (a.node, a.is, a.named) (b.node, b.is, b.named) (opt_fires (before x) u a.value)
        (opt_fires (before y) v b.value) in
        let same : Some u ≡ Some v = sym a.value ∙ ap (λ z. opt (before z)) here ∙ b.value in
        cc

    pull_alike : (q : ℕ) → q < 449 → case_first ns q before ≡ case_first ms (place q) after
    pull_alike q lt = as_option ns q before
        ∙ ap un (first_alike ns ms place to from s (λ x. opt (before x)) (λ y. opt (after y))
        (λ x. ap (λ z. opt (before z)) (s.returns x)) q (once q lt))
        ∙ sym (as_option ms (place q) after)

    node_alike : (x : ℕ) (n : Node) → slice_get ns x ≡ Some n → (v : Bool)
        → pulled (Some n) v (λ q. case_first ns q before)
        ≡ pulled (Some (moved_node place n)) v (λ q. case_first ms q after)
    node_alike x n i v = ⊎_elim low reads (plain x n i)
      where
        low : n.slot < 128 → pulled (Some n) v (λ q. case_first ns q before)
            ≡ pulled (Some (moved_node place n)) v (λ q. case_first ms q after)
        low l = fire_same n v _ _ _ _ _ _ (pull_alike n.slot (omega arith))
            (pull_alike (128 + n.slot) (omega arith)
            ∙ ap (λ q. case_first ms q after) (s.right x n i))
            (pull_alike (256 + n.slot) (omega arith)
            ∙ ap (λ q. case_first ms q after) (s.predicate x n i))

        reads : (n.role ≡ Reading) × (n.sense ≡ Always)
            → pulled (Some n) v (λ q. case_first ns q before)
            ≡ pulled (Some (moved_node place n)) v (λ q. case_first ms q after)
        reads h = reading_fires n v _ _ _ h.0 h.1
            ∙ sym (reading_fires (moved_node place n) v _ _ _ h.0 h.1)

    pulled_alike : (x : ℕ) (v : Bool) → pulled (slice_get ns x) v (λ q. case_first ns q before)
        ≡ pulled (slice_get ms (to x)) v (λ q. case_first ms q after)
    pulled_alike x v = by (slice_get ns x) refl
        ∙ ap (λ o. pulled o v (λ q. case_first ms q after)) (sym (s.stands x))
      where
        by : (o : Option Node) → slice_get ns x ≡ o
            → pulled o v (λ q. case_first ns q before)
            ≡ pulled (option_map (moved_node place) o) v (λ q. case_first ms q after)
        by None e = refl
        by (Some n) e = node_alike x n e v

    fires_alike : (y : ℕ) → after y ≡ fires ms d deepest y
    fires_alike = only_one ms ranked.0 ranked.1 d after (λ y. settled ns r.0 r.1 (λ x. d (to x))
        (from y) ∙ pulled_alike (from y) (d (to (from y)))
        ∙ ap (λ z. pulled (slice_get ms z) (d z) (λ q. case_first ms q after)) (s.returned y))

  -- choosers are choosers
  through_alike : (n : Node) (f g : ℕ → Bool) → ((x : ℕ) → g (to x) ≡ f x)
      → through ms (targets (moved_node place n)) g ≡ through ns (targets n) f
  through_alike n f g same = same_truth _ _ from_moved to_moved
    where
      from_moved : through ms (targets (moved_node place n)) g ≡ true
          → through ns (targets n) f ≡ true
      from_moved e =
          let h = through_found ms (targets (moved_node place n)) g e in
          let k = node_back ns ms place to from s h.index h.node h.is in
          found_through ns (targets n) f (from h.index) k.0 k.1
          (ap (λ v. is_copy (k.0).role && v) (sym (names_same place s.apart n (k.0).slot))
          ∙ ap (λ (z : Node). is_copy z.role && names (targets (moved_node place n)) z.slot)
          (sym k.2) ∙ h.asked)
          (sym (same (from h.index)) ∙ ap g (s.returned h.index) ∙ h.holds)

      to_moved : through ns (targets n) f ≡ true
          → through ms (targets (moved_node place n)) g ≡ true
      to_moved e =
          let h = through_found ns (targets n) f e in
          found_through ms (targets (moved_node place n)) g (to h.index) (moved_node place h.node)
          (s.stands h.index ∙ ap (option_map (moved_node place)) h.is)
          (ap (λ v. is_copy (h.node).role && v) (names_same place s.apart n (h.node).slot)
          ∙ h.asked)
          (same h.index ∙ h.holds)

  leads_alike : (k x : ℕ) → leads ms k (to x) ≡ leads ns k x
  leads_alike zero x = refl
  leads_alike (suc k) x = ap (λ o. leads_from ms o (leads ms k)) (s.stands x)
      ∙ led (slice_get ns x) (leads ns k) (leads ms k) (leads_alike k)
    where
      led : (o : Option Node) (f g : ℕ → Bool) → ((x : ℕ) → g (to x) ≡ f x)
          → leads_from ms (option_map (moved_node place) o) g ≡ leads_from ns o f
      led None f g h = refl
      led (Some n) f g h = ap₂ (λ a b. a || b)
          (ap₂ (λ a b. a || (b || false)) (s.middle n.first) (s.middle n.second))
          (through_alike n f g h)

  chooser_alike : (x : ℕ) → is_chooser ms (to x) (slice_get ms (to x))
      ≡ is_chooser ns x (slice_get ns x)
  chooser_alike x = ap (is_chooser ms (to x)) (s.stands x) ∙ by (slice_get ns x)
    where
      by : (o : Option Node) → is_chooser ms (to x) (option_map (moved_node place) o)
          ≡ is_chooser ns x o
      by None = refl
      by (Some n) = ap (λ v. no (is_copy n.role) && v) (leads_alike deepest x)

  -- cases are cases
  abbrev read_off : List Bool → List Bool
  read_off c = map (λ x. bit c (to x)) (indices (length ns))

  long : (c : List Bool) → length (read_off c) ≡ length ns
  long c = length-map (indices (length ns)) (λ x. bit c (to x)) ∙ index_count (length ns)

  bit_alike : (c : List Bool) → length c ≡ length ns → (x : ℕ) → bit (read_off c) x ≡ bit c (to x)
  bit_alike c l x = by (nat_lt x (length ns)) refl
    where
      by : (v : Bool) → nat_lt x (length ns) ≡ v → bit (read_off c) x ≡ bit c (to x)
      by true e = got_or (read_off c) x (bit c (to x)) false
          (slice_get-map (λ x. bit c (to x)) (indices (length ns)) x
          ∙ ap (option_map (λ x. bit c (to x))) (index_in (length ns) x (ltb-true x (length ns) e)))
      by false e =
          let far : length ns ≤ x = ltb-false x (length ns) e in
          let len = long c in
          past (read_off c) x false (omega (arith, far, len))
          ∙ sym (past c (to x) false (beyond (nat_lt (to x) (length ns)) refl far))
        where
          beyond : (w : Bool) → nat_lt (to x) (length ns) ≡ w → length ns ≤ x → length c ≤ to x
          beyond true k far =
              let h = back (to x) (ltb-true (to x) (length ns) k) in
              let i : from (to x) ≡ x = s.returns x in
              absurd (omega (arith, h, i, far))
          beyond false k far = let h = ltb-false (to x) (length ns) k in omega (arith, h, l)

  token_alike : (c : List Bool) → length c ≡ length ns → (x : ℕ)
      → token ms c (to x) ≡ token ns (read_off c) x
  token_alike c l x = sym (fires_alike (bit c) (to x))
      ∙ ap (fires ns (λ z. bit c (to z)) deepest) (s.returns x)
      ∙ ap (λ b. fires ns b deepest x) (fun_ext (λ z. sym (bit_alike c l z)))

  has_alike : (c : List Bool) → length c ≡ length ns → (x : ℕ)
      → has_bit ms c (to x) ≡ has_bit ns (read_off c) x
  has_alike c l x = ap₂ (λ a b. a && b) (chooser_alike x) (ap present (token_alike c l x))

  case_alike : (c : List Bool) → length c ≡ length ns → is_case ms c ≡ is_case ns (read_off c)
  case_alike c l = same_truth _ _
      (λ e. all_ones (read_off c) (has_bit ns (read_off c)) (λ x b. sym (has_alike c l x)
      ∙ ones_all c (has_bit ms c) e (to x) (sym (bit_alike c l x) ∙ b)))
      (λ e. all_ones c (has_bit ms c) (λ y b. ap (has_bit ms c) (sym (s.returned y))
      ∙ has_alike c l (from y) ∙ ones_all (read_off c) (has_bit ns (read_off c)) e (from y)
      (bit_alike c l (from y) ∙ ap (bit c) (s.returned y) ∙ b)))

  apart : (c d : List Bool) → length c ≡ length ns → length d ≡ length ns
      → read_off c ≡ read_off d → c ≡ d
  apart c d k l e = same_bits c d (k ∙ sym l) (λ y. ap (bit c) (sym (s.returned y))
      ∙ sym (bit_alike c k (from y)) ∙ ap (λ z. bit z (from y)) e ∙ bit_alike d l (from y)
      ∙ ap (bit d) (s.returned y))

  -- a moved block has no more cases than the block
  pub as_few : cases ms ≤ cases ns
  as_few =
      let n = length ns in
      let counted = ap (λ k. count k (is_case ms)) size ∙ count_total n (is_case ms)
      ∙ total_same (λ c. one_if (is_case ms c)) (λ c. one_if (is_case ns (read_off c))) (bits n)
      (λ c i. ap one_if (case_alike c (bits_long n c i))) in
      let fewer = led_apart (bits n) (bits n) read_off (λ c. one_if (is_case ns c))
      (bits_distinct n) (λ c i. bits_in n (read_off c) (long c))
      (λ c d i j e. apart c d (bits_long n c i) (bits_long n d j) e) in
      let of_block = count_total n (is_case ns) in
      omega (arith, counted, fewer, of_block)

  -- places get as much
  weight_alike : (o : Option Node) (t : CaseToken) (q : ℕ)
      → weight (option_map (moved_node place) o) t (place q) ≡ weight o t q
  weight_alike None t q = refl
  weight_alike (Some n) t q = ap (weighed t) (ap₂ (λ a b. one_if a + (one_if b + 0))
      (eq_same place s.apart n.first q) (eq_same place s.apart n.second q))

  tokens_alike : (f g : ℕ → CaseToken) → ((x : ℕ) → g (to x) ≡ f x) → (q : ℕ)
      → tokens ms g (place q) ≡ tokens ns f q
  tokens_alike f g same q =
      let n = length ns in
      let v : ℕ → ℕ = (λ x. weight (slice_get ns x) (f x) q) in
      let w : ℕ → ℕ = (λ y. weight (slice_get ms y) (g y) (place q)) in
      let alike : (x : ℕ) → w (to x) ≡ v x =
      (λ x. ap₂ (λ o t. weight o t (place q)) (s.stands x) (same x)
      ∙ weight_alike (slice_get ns x) (f x) q) in
      let moved = tokens_total ms g (place q) ∙ ap (λ k. total w (indices k)) size in
      let still = tokens_total ns f q in
      let up = led_apart (indices n) (indices n) to w (indices_distinct n)
      (λ x i. (to x, index_in n (to x) (there x (index_low n x i))))
      (λ x y i j e. sym (s.returns x) ∙ ap from e ∙ s.returns y) in
      let up_is = total_same (λ x. w (to x)) v (indices n) (λ x i. alike x) in
      let down = led_apart (indices n) (indices n) from v (indices_distinct n)
      (λ x i. (from x, index_in n (from x) (back x (index_low n x i))))
      (λ x y i j e. sym (s.returned x) ∙ ap to e ∙ s.returned y) in
      let down_is = total_same (λ y. v (from y)) w (indices n)
      (λ y i. sym (alike (from y)) ∙ ap w (s.returned y)) in
      omega (arith, moved, still, up, up_is, down, down_is)

  case_back : (c : List Bool) → IsCase ms c → IsCase ns (read_off c)
  case_back c i = record {
    size = long c;
    bits = sym (case_alike c (i.size ∙ size)) ∙ i.bits;
  }

  gets_alike : (c : List Bool) → IsCase ms c → (q : ℕ)
      → tokens ms (token ms c) (place q) ≡ tokens ns (token ns (read_off c)) q
  gets_alike c i q = tokens_alike (token ns (read_off c)) (token ms c)
      (token_alike c (i.size ∙ size)) q

  -- a place that gets two tokens in the moved block gets two in the block
  pub two_back : (q : ℕ) → GetsTwo ms (place q) → GetsTwo ns q
  two_back q (c, i, l) = (read_off c, case_back c i, subst (λ k. 1 < k) (gets_alike c i q) l)

  -- a place that gets no token in the moved block gets none in the block
  pub none_back : (q : ℕ) → GetsNone ms (place q) → GetsNone ns q
  none_back q (c, i, e) = (read_off c, case_back c i, sym (gets_alike c i q) ∙ e)
