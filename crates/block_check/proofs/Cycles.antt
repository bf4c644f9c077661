-- A set of nodes each of which is fed from the set has a cycle.
use Rattle.std.proofs.Common.{◌≡◌, ◌≢◌, ℕ, zero, suc, ◌+◌, ◌<◌, ◌≤◌, Bool, true, false, ◌&&◌}
use Rattle.std.proofs.Common.{List, [], ◌∷◌, length, get_or, Some, slice_get}
use Rattle.std.proofs.Common.{refl, sym, ap, ◌∙◌, subst, arith, nat_lt, ◌==◌, true≢false}
use Rattle.std.proofs.lemmas.Option.{get_or_from_slice_get}
use Rattle.trips_isa.specs.declared.node.Node.{Node}
use Rattle.block_cases.specs.Nodes.{feeds, one_if, Walk, Step, Then, HasCycle}
use Rattle.block_cases.specs.CaseRule.{no}
use Rattle.block_check.specs.inside.PartOrder.{unplaced, PartOrder, AllStuck}
use Rattle.block_cases.proofs.Alike.{both_true, and_true}

pub blocked_more : (ns : List Node) (ranks : List ℕ) (n d : Node) (y : ℕ) → y < length ns →
    ((get_or ranks y 0 == 255) && feeds (get_or ns y d) n) ≡ false → (m : Node) →
    slice_get ns y ≡ Some m → get_or ranks y 0 ≡ 255 → feeds m n ≡ false
blocked_more ns ranks n d y lt h m e r =
    let is : (get_or ranks y 0 == 255) ≡ true = grind arith in
    sym (ap (λ (k : Node). feeds k n) (get_or_from_slice_get ns y m d e)) ∙ go _ _ h is
  where
    go : (a b : Bool) → (a && b) ≡ false → a ≡ true → b ≡ false
    go true b h e = h
    go false b h e = absurd (cc)

-- a cycle in a set of nodes each of which has a walk from another one to it
-- ------------------------

pub walk_on : (ns : List Node) (x y z : ℕ) → Walk ns x y → Walk ns y z → Walk ns x z
walk_on ns x y z (Step e) w = Then e w
walk_on ns x y z (Then e v) w = Then e (walk_on ns _ y z v w)

abbrev pub Fed : List Node → (ℕ → Bool) → Type 0
Fed ns u = (x : ℕ) → u x ≡ true → (y : ℕ) × (u y ≡ true) × Walk ns y x

-- the test of equal numbers tells that they are equal
pub eq_is : (a b : ℕ) → (a == b) ≡ true → a ≡ b
eq_is a b e = grind arith

-- numbers that fail the test differ
pub eq_not : (a b : ℕ) → (a == b) ≡ false → a ≡ b → ⊥
eq_not a b e i = grind arith

-- a number below n + 1 that is not n is below n
pub near : (z n : ℕ) → z < suc n → (z ≡ n → ⊥) → z < n
near z n lt ne = go (nat_lt z n) refl
  where
    go : (b : Bool) → nat_lt z n ≡ b → z < n
    go true e = grind arith
    go false e = let le : n ≤ z = grind arith in absurd (ne (omega arith))

pub not_eq : (a b : ℕ) → (a ≡ b → ⊥) → no (a == b) ≡ true
not_eq a b h = go (a == b) refl
  where
    go : (v : Bool) → (a == b) ≡ v → no v ≡ true
    go true e = absurd (h (eq_is a b e))
    go false e = refl

-- equal numbers pass the test
pub same : (a b : ℕ) → a ≡ b → (a == b) ≡ true
same a b e = grind arith

pub cycle_in : (ns : List Node) (n : ℕ) (u : ℕ → Bool) → ((x : ℕ) → u x ≡ true → x < n) → Fed ns u →
    (x : ℕ) → u x ≡ true → HasCycle ns
cycle_in ns zero u low fed x e = absurd (let lt : x < 0 = low x e in omega arith)
cycle_in ns (suc n) u low fed x e = go (u n) refl (λ l. cycle_in ns n u l fed x e) (λ l f y.
    cycle_in ns n (λ z. u z && no (z == n)) l f y)
  where
    go : (b : Bool) → u n ≡ b → (((z : ℕ) → u z ≡ true → z < n) → HasCycle ns) → (((z : ℕ) →
        (u z && no (z == n)) ≡ true → z < n) → Fed ns (λ z. u z && no (z == n)) → (y : ℕ) →
        (u y && no (y == n)) ≡ true → HasCycle ns) → HasCycle ns
    go false i r s = r (λ z h. let lt : z < suc n = low z h in
        let ne : z ≢ n = (λ k. true≢false (sym h ∙ ap u k ∙ i)) in near z n lt ne)
    go true i r s = by (p.0 == n) refl
      where
        p : (y : ℕ) × (u y ≡ true) × Walk ns y n
        p = fed n i

        by : (b : Bool) → (p.0 == n) ≡ b → HasCycle ns
        by true k = (n, subst (λ z. Walk ns z n) (eq_is p.0 n k) p.2)
        by false k = s (λ z h. let w = and_true _ _ h in let lt : z < suc n = low z w.0 in
            let ne : z ≢ n = (λ j. true≢false (sym w.1 ∙ ap no (same z n j))) in
            near z n lt ne) others p.0 (both_true _ _ p.1 (ap no k))
          where
            others : Fed ns (λ z. u z && no (z == n))
            others z h = last (q.0 == n) refl
              where
                q : (y : ℕ) × (u y ≡ true) × Walk ns y z
                q = fed z (and_true _ _ h).0

                last : (b : Bool) → (q.0 == n) ≡ b → (y : ℕ) × ((u y && no (y == n)) ≡ true)
                    × Walk ns y z
                last true j = (
                  p.0,
                  both_true _ _ p.1 (ap no k),
                  walk_on ns p.0 n z p.2 (subst (λ
                      v. Walk ns v z) (eq_is q.0 n j) q.2),
                )
                last false j = (q.0, both_true _ _ q.1 (ap no j), q.2)

pub some_unplaced : (ranks : List ℕ) → 0 < unplaced ranks → (x : ℕ) × (get_or ranks x 0 ≡ 255)
some_unplaced [] h = absurd (omega arith)
some_unplaced (r ∷ rs) h = go (r == 255) refl h (some_unplaced rs)
  where
    go : (b : Bool) → (r == 255) ≡ b → 0 < one_if b + unplaced rs → (0 < unplaced rs →
        (x : ℕ) × (get_or rs x 0 ≡ 255)) → (x : ℕ) × (get_or (r ∷ rs) x 0 ≡ 255)
    go true e h k = (0, eq_is r 255 e)
    go false e h k = let t = k (omega arith) in (suc t.0, t.1)

pub inside : (ranks : List ℕ) (x : ℕ) → get_or ranks x 0 ≡ 255 → x < length ranks
inside [] x e = absurd (cc)
inside (r ∷ rs) zero e = omega arith
inside (r ∷ rs) (suc x) e = let h = inside rs x e in omega (arith, h)

-- each number below the count of nodes is that of a node
pub some_node : (ns : List Node) (x : ℕ) → x < length ns → (n : Node) × (slice_get ns x ≡ Some n)
some_node [] x h = absurd (omega arith)
some_node (m ∷ ms) zero h = (m, refl)
some_node (m ∷ ms) (suc x) h = some_node ms x (omega arith)

-- where all nodes that are left are stuck, the nodes have a cycle
pub stuck_cycle : (ns : List Node) (ranks order : List ℕ) (placed : ℕ) →
    PartOrder ns ranks order placed → AllStuck ns ranks (length ns) → placed < length ns → HasCycle ns
stuck_cycle ns ranks order placed p s lt =
    let some = some_unplaced ranks (let l : placed + unplaced ranks ≡ length ns = p.left in
    omega arith) in
    cycle_in ns (length ns) (λ x. get_or ranks x 0 == 255) below fed some.0 (is some.0 some.1)
  where
    is : (x : ℕ) → get_or ranks x 0 ≡ 255 → (get_or ranks x 0 == 255) ≡ true
    is x e = grind arith

    below : (x : ℕ) → (get_or ranks x 0 == 255) ≡ true → x < length ns
    below x e = let h = inside ranks x (eq_is _ _ e) in
        let z : length ranks ≡ length ns = p.ranks_size in omega (arith, h, z)

    fed : Fed ns (λ x. get_or ranks x 0 == 255)
    fed x e =
        let n = some_node ns x (below x e) in
        let k = s x n.0 (below x e) n.1 (eq_is _ _ e) in (
          k.source,
          is k.source k.waits,
          Step (record {
            source = k.node;
            target = n.0;
            is_source =
                k.is_node;
            is_target = n.1;
            fed = k.fed;
          }),
        )
