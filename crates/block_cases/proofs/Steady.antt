-- What a node gives follows from the nodes of lower rank.
use Rattle.std.proofs.Common.{◌≡◌, ℕ, zero, suc, ◌+◌, ◌<◌, Bool, true, false, ◌||◌, List, [], ◌∷◌}
use Rattle.std.proofs.Common.{Option, Some, None, slice_get, refl, ap, ap₂, ◌∙◌, arith}
use Rattle.trips_isa.specs.declared.form.Role.{Role}
use Rattle.trips_isa.specs.declared.form.Role.TheVariants.{Empty, Reading, Free, Nothing, Copy, One}
use Rattle.trips_isa.specs.declared.form.Role.TheVariants.{Both}
use Rattle.block_cases.specs.declared.token.CaseToken.{CaseToken}
use Rattle.block_cases.specs.declared.token.CaseToken.TheVariants.{Absent, Null, Bit}
use Rattle.trips_isa.specs.declared.node.Node.{Node}
use Rattle.trips_isa.specs.Limits.{most_nodes}
use Rattle.block_cases.specs.Nodes.{targets, names, Edge, Ranked}
use Rattle.block_cases.specs.CaseRule.{matches, gives, fire, if_matched, taken, or_else, first, pulled}
use Rattle.block_cases.specs.CaseRule.{fires, one_word, both_words}
use Rattle.block_cases.specs.Cases.{deepest, present}

-- a disjunction is true where its left part is
pub or_left : (a b : Bool) → a ≡ true → (a || b) ≡ true
or_left true b e = refl
or_left false b e = absurd (cc)

-- a disjunction is true where its right part is
pub or_right : (a b : Bool) → b ≡ true → (a || b) ≡ true
or_right true b e = refl
or_right false b e = e

-- the producers of a spot decide what is pulled there
pub first_same : (ns : List Node) (q : ℕ) (f g : ℕ → CaseToken)
    → ((y : ℕ) (m : Node) → slice_get ns y ≡ Some m → names (targets m) q ≡ true → f y ≡ g y)
    → first ns q f ≡ first ns q g
first_same [] q f g h = refl
first_same (n ∷ ns) q f g h = ap₂ or_else (head (names (targets n) q) refl)
    (first_same ns q (λ y. f (suc y)) (λ y. g (suc y)) (λ y m i e. h (suc y) m i e))
  where
    head : (b : Bool) → names (targets n) q ≡ b → taken b f ≡ taken b g
    head true e = h 0 n refl e
    head false e = refl

-- a node that names the left operand of a slot leads to it
pub to_left : (ns : List Node) (x y : ℕ) (m n : Node) → slice_get ns y ≡ Some m
    → slice_get ns x ≡ Some n → names (targets m) n.slot ≡ true → Edge ns y x
to_left ns x y m n i j e = record {
  source = m;
  target = n;
  is_source = i;
  is_target = j;
  fed = or_left _ _ e;
}

-- a node that names the right operand of a slot leads to it
pub to_right : (ns : List Node) (x y : ℕ) (m n : Node) → slice_get ns y ≡ Some m
    → slice_get ns x ≡ Some n → names (targets m) (128 + n.slot) ≡ true → Edge ns y x
to_right ns x y m n i j e = record {
  source = m;
  target = n;
  is_source = i;
  is_target = j;
  fed = or_right (names (targets m) n.slot) _ (or_left _ _ e);
}

-- a node that names the predicate of a slot leads to it
pub to_predicate : (ns : List Node) (x y : ℕ) (m n : Node) → slice_get ns y ≡ Some m
    → slice_get ns x ≡ Some n → names (targets m) (256 + n.slot) ≡ true → Edge ns y x
to_predicate ns x y m n i j e = record {
  source = m;
  target = n;
  is_source = i;
  is_target = j;
  fed = or_right (names (targets m) n.slot) _
      (or_right (names (targets m) (128 + n.slot)) _ (or_left _ _ e));
}

-- equal operands and predicates make a node fire alike
pub fire_same : (n : Node) (v : Bool) (l r p l' r' p' : CaseToken) → l ≡ l' → r ≡ r' → p ≡ p'
    → fire n v l r p ≡ fire n v l' r' p'
fire_same n v l r p l' r' p' a b c = ap (λ t. fire n v t r p) a ∙ ap (λ t. fire n v l' t p) b
    ∙ ap (λ t. fire n v l' r' t) c

-- what a node pulls hangs on the nodes that lead to it alone
pub pulled_same : (ns : List Node) (x : ℕ) (v : Bool) (f g : ℕ → CaseToken)
    → ((y : ℕ) → Edge ns y x → f y ≡ g y) → pulled (slice_get ns x) v (λ q. first ns q f)
    ≡ pulled (slice_get ns x) v (λ q. first ns q g)
pulled_same ns x v f g h = go (slice_get ns x) refl
  where
    go : (o : Option Node) → slice_get ns x ≡ o
        → pulled o v (λ q. first ns q f) ≡ pulled o v (λ q. first ns q g)
    go None j = refl
    go (Some n) j =
        fire_same n v _ _ _ _ _ _
        (first_same ns n.slot f g (λ y m i e. h y (to_left ns x y m n i j e)))
        (first_same ns (128 + n.slot) f g (λ y m i e. h y (to_right ns x y m n i j e)))
        (first_same ns (256 + n.slot) f g (λ y m i e. h y (to_predicate ns x y m n i j e)))

-- deeper is the same
enough : (ns : List Node) (rank : ℕ → ℕ) → Ranked ns rank → (c : ℕ → Bool) (k m x : ℕ) → rank x < k
    → rank x < m → fires ns c k x ≡ fires ns c m x
enough ns rank o c zero m x h i = absurd (omega arith)
enough ns rank o c (suc k) zero x h i = absurd (omega arith)
enough ns rank o c (suc k) (suc m) x h i =
    pulled_same ns x (c x) (fires ns c k) (fires ns c m) (λ y e. let lt : rank y < rank x = o.rises y x e in
    enough ns rank o c k m y (omega arith) (omega arith))

-- each node's token is what it gives where its producers' tokens are those of the table and its bit is c's
abbrev pub Solves : List Node → (ℕ → Bool) → (ℕ → CaseToken) → Type 0
Solves ns c h = (x : ℕ) → h x ≡ pulled (slice_get ns x) (c x) (λ q. first ns q h)

settled_at : (ns : List Node) (rank : ℕ → ℕ) → Ranked ns rank → (c : ℕ → Bool) (k x : ℕ)
    → rank x < suc k → fires ns c (suc k) x
    ≡ pulled (slice_get ns x) (c x) (λ q. first ns q (fires ns c (suc k)))
settled_at ns rank o c k x h =
    pulled_same ns x (c x) (fires ns c k) (fires ns c (suc k)) (λ y e. let lt : rank y < rank x = o.rises y x e in
    enough ns rank o c k (suc k) y (omega arith) (omega arith))

-- the greatest depth is the number of nodes that a block may have
pub deepest_is : deepest ≡ most_nodes
unfolding deepest
deepest_is = refl

at_depth : (ns : List Node) (rank : ℕ → ℕ) → Ranked ns rank → (c : ℕ → Bool) (d x : ℕ) → rank x < d
    → fires ns c d x ≡ pulled (slice_get ns x) (c x) (λ q. first ns q (fires ns c d))
at_depth ns rank o c zero x h = absurd (omega arith)
at_depth ns rank o c (suc k) x h = settled_at ns rank o c k x h

-- the tokens of a case solve the block's equations, and nothing else does
pub settled : (ns : List Node) (rank : ℕ → ℕ) → Ranked ns rank → (c : ℕ → Bool)
    → Solves ns c (fires ns c deepest)
settled ns rank o c x = at_depth ns rank o c deepest x (let b : rank x < most_nodes = o.below x in
    let e : deepest ≡ most_nodes = deepest_is in omega arith)

only_at : (ns : List Node) (rank : ℕ → ℕ) → Ranked ns rank → (c : ℕ → Bool) (h : ℕ → CaseToken)
    → Solves ns c h → (k x : ℕ) → rank x < k → h x ≡ fires ns c k x
only_at ns rank o c h s zero x lt = absurd (omega arith)
only_at ns rank o c h s (suc k) x lt =
    s x ∙ pulled_same ns x (c x) h (fires ns c k) (λ y e. let below : rank y < rank x = o.rises y x e in
    only_at ns rank o c h s k y (omega arith))

-- a table that solves the nodes by the choices is the one of the greatest depth
pub only_one : (ns : List Node) (rank : ℕ → ℕ) → Ranked ns rank → (c : ℕ → Bool) (h : ℕ → CaseToken)
    → Solves ns c h → (x : ℕ) → h x ≡ fires ns c deepest x
only_one ns rank o c h s x = only_at ns rank o c h s deepest x (let b : rank x < most_nodes = o.below x in
    let e : deepest ≡ most_nodes = deepest_is in omega arith)

-- bits of higher rank change nothing
pub same_below : (ns : List Node) (rank : ℕ → ℕ) → Ranked ns rank → (c d : ℕ → Bool) (r : ℕ)
    → ((y : ℕ) → rank y < r → c y ≡ d y) → (k x : ℕ) → rank x < r → fires ns c k x ≡ fires ns d k x
same_below ns rank o c d r h zero x lt = refl
same_below ns rank o c d r h (suc k) x lt =
    ap (λ v. pulled (slice_get ns x) v (λ q. first ns q (fires ns c k))) (h x lt)
    ∙ pulled_same ns x (d x) (fires ns c k) (fires ns d k) (λ y e. let below : rank y < rank x = o.rises y x e in
    same_below ns rank o c d r h k y (omega arith))

word_present : (u v : Bool) (t : CaseToken) → present (one_word u t) ≡ present (one_word v t)
word_present u v Absent = refl
word_present u v Null = refl
word_present u v (Bit w) = refl

words_present : (u v : Bool) (l r : CaseToken)
    → present (both_words u l r) ≡ present (both_words v l r)
words_present u v Absent r = refl
words_present u v Null Absent = refl
words_present u v Null Null = refl
words_present u v Null (Bit w) = refl
words_present u v (Bit x) r = word_present u v r

gives_present : (e : Role) (u v : Bool) (l r : CaseToken)
    → present (gives e u l r) ≡ present (gives e v l r)
gives_present Empty u v l r = refl
gives_present Reading u v l r = refl
gives_present Free u v l r = refl
gives_present Nothing u v l r = refl
gives_present Copy u v l r = refl
gives_present One u v l r = word_present u v l
gives_present Both u v l r = words_present u v l r

-- whether a node fires does not hang on its own bit
pub fires_whatever : (o : Option Node) (u v : Bool) (pull : ℕ → CaseToken)
    → present (pulled o u pull) ≡ present (pulled o v pull)
fires_whatever None u v pull = refl
fires_whatever (Some n) u v pull = go (matches n.sense (pull (256 + n.slot)))
  where
    go : (b : Bool) → present (if_matched b (gives n.role u (pull n.slot) (pull (128 + n.slot))))
        ≡ present (if_matched b (gives n.role v (pull n.slot) (pull (128 + n.slot))))
    go true = gives_present n.role u v _ _
    go false = refl

-- whether a node gives a token hangs on the choices of lower nodes alone
pub present_below : (ns : List Node) (rank : ℕ → ℕ) → Ranked ns rank → (c d : ℕ → Bool) (x : ℕ)
    → ((y : ℕ) → rank y < rank x → c y ≡ d y) → (k : ℕ)
    → present (fires ns c k x) ≡ present (fires ns d k x)
present_below ns rank o c d x h zero = refl
present_below ns rank o c d x h (suc k) =
    fires_whatever (slice_get ns x) (c x) (d x) (λ q. first ns q (fires ns c k))
    ∙ ap present (pulled_same ns x (d x) (fires ns c k) (fires ns d k)
    (λ y e. same_below ns rank o c d (rank x) h k y (o.rises y x e)))
