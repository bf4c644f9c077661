-- The nodes before the empty slots at the end are good, or have a fault, as all nodes are or have.
use Rattle.std.proofs.Common.{◌≡◌, ℕ, zero, suc, ◌+◌, ◌<◌, ◌≤◌, Bool, true, false, ◌||◌, ◌&&◌}
use Rattle.std.proofs.Common.{nat_lt, nat_le, ◌==◌, List, [], ◌∷◌, length, take}
use Rattle.std.proofs.Common.{Some, None, slice_get, refl, sym, ap, ap₂, ◌∙◌, subst, arith}
use Rattle.std.proofs.Common.{true≢false}
use Rattle.trips_isa.specs.declared.node.Node.{Node}
use Rattle.trips_isa.specs.PlaceNumbers.{no_place}
use Rattle.block_cases.specs.Nodes.{names, stores_below, feeds, Edge, Walk, Step, Then}
use Rattle.block_cases.specs.Nodes.{HasCycle}
use Rattle.block_cases.specs.Cases.{cases, GetsTwo, GetsNone}
use Rattle.block_cases.specs.Good.{Good}
use Rattle.block_check.specs.declared.fault.NodeFault.{NodeFault}
use Rattle.block_check.specs.declared.fault.NodeFault.TheVariants as net
use Rattle.block_check.specs.inside.Judged.{IsFault}
use Rattle.block_check.specs.inside.Pass.{AllInPlace, IsSpare, Spare}
use Rattle.block_check.proofs.Lists.{not_true}
use Rattle.block_check.proofs.Cycles.{eq_is}
use Rattle.block_check.proofs.Cutting.{get_low, get_high, some_cut, some_full, cases_cut}

-- no place from which a node takes a token, or whose store it sees, is the number of no place
pub record Hears (m : Node) : Type 0 where
  pub left : no_place ≡ m.slot → ⊥
  pub right : no_place ≡ 128 + m.slot → ⊥
  pub guard : no_place ≡ 256 + m.slot → ⊥
  pub below : m.below ≤ no_place

-- the nodes from u on are empty slots
pub record CutAt (ns : List Node) (u : ℕ) : Type 0 where
  pub spare : Spare ns u
  pub within : u ≤ length ns
  pub hears : (x : ℕ) (m : Node) → slice_get ns x ≡ Some m → Hears m

-- an empty slot feeds nothing
unnamed : (a b q : ℕ) → a ≡ no_place → b ≡ no_place → (no_place ≡ q → ⊥) → names (a ∷ b ∷ []) q ≡ false
unnamed a b q x y h = ap₂ (λ v w. v || (w || false)) (apart a x) (apart b y)
  where
    apart : (t : ℕ) → t ≡ no_place → (t == q) ≡ false
    apart t e = not_true _ (λ i. h (sym e ∙ eq_is t q i))

unseen : (a b m : ℕ) → a ≡ no_place → b ≡ no_place → m ≤ no_place → stores_below (a ∷ b ∷ []) m ≡ false
unseen a b m x y h = ap₂ (λ v w. v || (w || false)) (late a x) (late b y)
  where
    high : (t : ℕ) → t ≡ no_place → nat_lt t m ≡ false
    high t e = let le : m ≤ t = omega arith in grind arith

    none : (v : Bool) → (v && false) ≡ false
    none true = refl
    none false = refl

    late : (t : ℕ) → t ≡ no_place → (nat_le 416 t && nat_lt t m) ≡ false
    late t e = ap (λ v. nat_le 416 t && v) (high t e) ∙ none (nat_le 416 t)

spare_feeds : (n m : Node) → IsSpare n → Hears m → feeds n m ≡ false
spare_feeds n m s h = ap₂ (λ u v. u || v) (unnamed n.first n.second m.slot s.first s.second h.left)
    (ap₂ (λ u v. u || v) (unnamed n.first n.second (128 + m.slot) s.first s.second h.right)
    (ap₂ (λ u v. u || v) (unnamed n.first n.second (256 + m.slot) s.first s.second h.guard)
    (unseen n.first n.second m.below s.first s.second h.below)))

source_low : (ns : List Node) (u x y : ℕ) → CutAt ns u → Edge ns x y → x < u
source_low ns u x y c e = go (nat_lt x u) refl
  where
    go : (v : Bool) → nat_lt x u ≡ v → x < u
    go true i = grind arith
    go false i = absurd (true≢false (sym e.fed ∙ spare_feeds e.source e.target (c.spare x e.source
        (grind arith) e.is_source) (c.hears y e.target e.is_target)))

first_low : (ns : List Node) (u x z : ℕ) → CutAt ns u → Walk ns x z → x < u
first_low ns u x z c (Step e) = source_low ns u x z c e
first_low ns u x z c (Then {y = y} e w) = source_low ns u x y c e

edge_cut : (ns : List Node) (u x y : ℕ) → x < u → y < u → Edge ns x y → Edge (take u ns) x y
edge_cut ns u x y lx ly e = record {
  source = e.source;
  target = e.target;
  is_source = get_low ns u x lx ∙ e.is_source;
  is_target = get_low ns u y ly ∙ e.is_target;
  fed = e.fed;
}

walk_cut : (ns : List Node) (u x z : ℕ) → CutAt ns u → z < u → Walk ns x z → Walk (take u ns) x z
walk_cut ns u x z c lt (Step e) = Step (edge_cut ns u x z (source_low ns u x z c e) lt e)
walk_cut ns u x z c lt (Then {y = y} e w) = Then (edge_cut ns u x y (source_low ns u x y c e)
    (first_low ns u y z c w) e) (walk_cut ns u y z c lt w)

got_low : (ns : List Node) (u x : ℕ) (n : Node) → slice_get (take u ns) x ≡ Some n → x < u
got_low ns u x n e = go (nat_lt x u) refl
  where
    go : (v : Bool) → nat_lt x u ≡ v → x < u
    go true i = grind arith
    go false i = let gone : slice_get (take u ns) x ≡ None = get_high ns u x (grind arith) in
        absurd (cc)

edge_full : (ns : List Node) (u x y : ℕ) → Edge (take u ns) x y → Edge ns x y
edge_full ns u x y e = record {
  source = e.source;
  target = e.target;
  is_source = sym (get_low ns u x (got_low ns u x e.source e.is_source)) ∙ e.is_source;
  is_target = sym (get_low ns u y (got_low ns u y e.target e.is_target)) ∙ e.is_target;
  fed = e.fed;
}

walk_full : (ns : List Node) (u x z : ℕ) → Walk (take u ns) x z → Walk ns x z
walk_full ns u x z (Step e) = Step (edge_full ns u x z e)
walk_full ns u x z (Then {y = y} e w) = Then (edge_full ns u x y e) (walk_full ns u y z w)

cycle_cut : (ns : List Node) (u : ℕ) → CutAt ns u → HasCycle ns → HasCycle (take u ns)
cycle_cut ns u c h = (h.0, walk_cut ns u h.0 h.0 c (first_low ns u h.0 h.0 c h.1) h.1)

two_cut : (ns : List Node) (u q : ℕ) → CutAt ns u → GetsTwo ns q → GetsTwo (take u ns) q
two_cut ns u q c h = some_cut (λ k. 1 < k) ns u q c.spare c.within h

none_cut : (ns : List Node) (u q : ℕ) → CutAt ns u → GetsNone ns q → GetsNone (take u ns) q
none_cut ns u q c h = some_cut (λ k. k ≡ 0) ns u q c.spare c.within h

two_full : (ns : List Node) (u q : ℕ) → CutAt ns u → GetsTwo (take u ns) q → GetsTwo ns q
two_full ns u q c h = some_full (λ k. 1 < k) ns u q c.spare c.within h

none_full : (ns : List Node) (u q : ℕ) → CutAt ns u → GetsNone (take u ns) q → GetsNone ns q
none_full ns u q c h = some_full (λ k. k ≡ 0) ns u q c.spare c.within h

few_full : (ns : List Node) (u : ℕ) → CutAt ns u → cases (take u ns) ≤ 256 → cases ns ≤ 256
few_full ns u c h = subst (λ k. k ≤ 256) (sym (cases_cut ns u c.spare c.within)) h

-- where the nodes before the empty slots are good, all nodes are
pub good_full : (ns : List Node) (u : ℕ) (wanted : ℕ → Bool) → CutAt ns u →
    Good (take u ns) wanted → Good ns wanted
good_full ns u wanted c g = record {
  acyclic = λ h. g.acyclic (cycle_cut ns u c h);
  few = few_full ns u c g.few;
  no_two = λ q lt h. g.no_two q lt (two_cut ns u q c h);
  no_gap = λ q lt e h. g.no_gap q lt e (none_cut ns u q c h);
  exit = λ h. g.exit (none_cut ns u 448 c h);
  one_exit = λ h. g.one_exit (two_cut ns u 448 c h);
}

-- a fault of the nodes before the empty slots is a fault of all nodes
pub fault_full : (ns : List Node) (u : ℕ) (wanted : ℕ → Bool) → CutAt ns u → (f : NodeFault) →
    IsFault (take u ns) wanted f → IsFault ns wanted f
fault_full ns u wanted c net.Cycle g = (g.0, walk_full ns u g.0 g.0 g.1)
fault_full ns u wanted c net.TooManyCases g = (
  λ h. g.0 (cycle_cut ns u c h),
  subst (λ k. 256 < k) (sym (cases_cut ns u c.spare c.within)) g.1,
)
fault_full ns u wanted c (net.TwoTokens q) g = record {
  acyclic = λ h. g.acyclic (cycle_cut ns u c h);
  few = few_full ns u c g.few;
  below = g.below;
  two = two_full ns u q c g.two;
  least = λ p lt h. g.least p lt (two_cut ns u p c h);
}
fault_full ns u wanted c (net.NoToken q) g = record {
  acyclic = λ h. g.acyclic (cycle_cut ns u c h);
  few = few_full ns u c g.few;
  no_two = λ p lt h. g.no_two p lt (two_cut ns u p c h);
  below = g.below;
  is_wanted = g.is_wanted;
  none = none_full ns u q c g.none;
  least = λ p lt e h. g.least p lt e (none_cut ns u p c h);
}
fault_full ns u wanted c net.NoExit g = record {
  acyclic = λ h. g.acyclic (cycle_cut ns u c h);
  few = few_full ns u c g.few;
  no_two = λ p lt h. g.no_two p lt (two_cut ns u p c h);
  no_gap = λ p lt e h. g.no_gap p lt e (none_cut ns u p c h);
  none = none_full ns u 448 c g.none;
}
fault_full ns u wanted c net.TwoExits g = record {
  acyclic = λ h. g.acyclic (cycle_cut ns u c h);
  few = few_full ns u c g.few;
  no_two = λ p lt h. g.no_two p lt (two_cut ns u p c h);
  no_gap = λ p lt e h. g.no_gap p lt e (none_cut ns u p c h);
  exit = λ h. g.exit (none_cut ns u 448 c h);
  two = two_full ns u 448 c g.two;
}

-- the nodes before the empty slots lie in their places where all nodes do
pub places_cut : (ns : List Node) (u : ℕ) → AllInPlace ns → AllInPlace (take u ns)
places_cut ns zero a k d lt = absurd (omega arith)
places_cut [] (suc u) a k d lt = absurd (omega arith)
places_cut (n ∷ ns) (suc u) a zero d lt = a 0 d (omega arith)
places_cut (n ∷ ns) (suc u) a (suc k) d lt = places_cut ns u (λ j e l. a (suc j) e (omega arith)) k
    d (omega arith)
