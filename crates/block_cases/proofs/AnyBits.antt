-- The law in the words of the window.
use Rattle.std.proofs.Common.{◌≡◌, ◌≢◌, ℕ, zero, suc, ◌+◌, ◌<◌, ◌≤◌, Bool, true, false, ◌||◌, List}
use Rattle.std.proofs.Common.{[], ◌∷◌, Option, Some, None, slice_get, refl, sym, ap, ◌∙◌, arith}
use Rattle.std.proofs.Common.{nat_lt, ◌==◌}
use Rattle.trips_isa.specs.declared.form.Role.{Role}
use Rattle.trips_isa.specs.declared.form.Role.TheVariants.{Empty, Reading, Free, Nothing, Copy, One}
use Rattle.trips_isa.specs.declared.form.Role.TheVariants.{Both}
use Rattle.block_cases.specs.declared.token.CaseToken.{CaseToken}
use Rattle.block_cases.specs.declared.token.CaseToken.TheVariants.{Absent, Null, Bit}
use Rattle.trips_isa.specs.declared.node.Node.{Node}
use Rattle.block_cases.specs.Nodes.{targets, names, hits, one_if, IsRanked}
use Rattle.block_cases.specs.CaseRule.{matches, gives, if_matched, one_word, both_words, first, pulled}
use Rattle.block_cases.specs.CaseRule.{fires}
use Rattle.block_cases.specs.Cases.{deepest, weighed, tokens}
use Rattle.block_cases.specs.Good.{Good}
use Rattle.block_cases.specs.inside.Good.{OneToken, IsPlaced, NamesPlace}
use Rattle.block_cases.proofs.Steady.{Solves, settled}
use Rattle.block_cases.proofs.Alike.{own}
use Rattle.block_cases.proofs.OneToken.{one_token}

own_one : (v : Bool) (l : CaseToken) → one_word (own (one_word v l)) l ≡ one_word v l
own_one v Absent = refl
own_one v Null = refl
own_one v (Bit w) = refl

own_both : (v : Bool) (l r : CaseToken) → both_words (own (both_words v l r)) l r ≡ both_words v l r
own_both v Absent r = refl
own_both v Null Absent = refl
own_both v Null Null = refl
own_both v Null (Bit w) = refl
own_both v (Bit u) r = own_one v r

own_gives : (e : Role) (v : Bool) (l r : CaseToken)
    → gives e (own (gives e v l r)) l r ≡ gives e v l r
own_gives Empty v l r = refl
own_gives Reading v l r = refl
own_gives Free v l r = refl
own_gives Nothing v l r = refl
own_gives Copy v l r = refl
own_gives One v l r = own_one v l
own_gives Both v l r = own_both v l r

-- a token's own bit serves in place of its node's
own_pulled : (o : Option Node) (v : Bool) (pull : ℕ → CaseToken)
    → pulled o (own (pulled o v pull)) pull ≡ pulled o v pull
own_pulled None v pull = refl
own_pulled (Some n) v pull = go (matches n.sense (pull (256 + n.slot)))
  where
    go : (b : Bool) → if_matched b (gives n.role
        (own (if_matched b (gives n.role v (pull n.slot) (pull (128 + n.slot))))) (pull n.slot)
        (pull (128 + n.slot))) ≡ if_matched b (gives n.role v (pull n.slot) (pull (128 + n.slot)))
    go true = own_gives n.role v (pull n.slot) (pull (128 + n.slot))
    go false = refl

solves_own : (ns : List Node) (c : ℕ → Bool) (h : ℕ → CaseToken) → Solves ns c h
    → Solves ns (λ x. own (h x)) h
solves_own ns c h s x = s x ∙ sym (own_pulled (slice_get ns x) (c x) (λ q. first ns q h))
    ∙ ap (λ t. pulled (slice_get ns x) (own t) (λ q. first ns q h)) (sym (s x))

-- two producers give two tokens
hits_some : (ts : List ℕ) (q : ℕ) → names ts q ≡ true → 0 < hits ts q
hits_some [] q e = absurd (cc)
hits_some (t ∷ ts) q e = go (t == q) e (hits_some ts q)
  where
    go : (b : Bool) → (b || names ts q) ≡ true → (names ts q ≡ true → 0 < hits ts q)
        → 0 < one_if b + hits ts q
    go true e r = omega arith
    go false e r = let k = r e in omega (arith, k)

weighed_some : (t : CaseToken) (k : ℕ) → t ≢ Absent → weighed t k ≡ k
weighed_some Absent k n = absurd (n refl)
weighed_some Null k n = refl
weighed_some (Bit v) k n = refl

-- a node that names a place and gives a token counts as one there
pub one_at : (ns : List Node) (f : ℕ → CaseToken) (q x : ℕ) → NamesPlace ns x q → f x ≢ Absent
    → 0 < tokens ns f q
one_at [] f q x n p = absurd (let e = n.1 in cc)
one_at (m ∷ ms) f q zero n p =
    let same : m ≡ n.0 = (let e = n.1 in cc) in
    let h = hits_some (targets m) q (ap (λ (k : Node). names (targets k) q) same ∙ n.2) in
    let w = weighed_some (f 0) (hits (targets m) q) p in
    omega (arith, h, w)
one_at (m ∷ ms) f q (suc x) n p = let k = one_at ms (λ y. f (suc y)) q x (n.0, n.1, n.2) p in omega (arith, k)

head_token : (m : Node) (ms : List Node) (f : ℕ → CaseToken) (q : ℕ) → NamesPlace (m ∷ ms) 0 q
    → f 0 ≢ Absent → 0 < weighed (f 0) (hits (targets m) q)
head_token m ms f q n p =
    let same : m ≡ n.0 = (let e = n.1 in cc) in
    let h = hits_some (targets m) q (ap (λ (k : Node). names (targets k) q) same ∙ n.2) in
    let w = weighed_some (f 0) (hits (targets m) q) p in
    omega (arith, h, w)

-- where a place gets one token at most, one node alone gives it
pub one_producer : (ns : List Node) (f : ℕ → CaseToken) (q : ℕ) → tokens ns f q ≤ 1 → (x y : ℕ)
    → NamesPlace ns x q → NamesPlace ns y q → f x ≢ Absent → f y ≢ Absent → x ≡ y
one_producer [] f q l x y n k a b = absurd (let e = n.1 in cc)
one_producer (m ∷ ms) f q l zero zero n k a b = refl
one_producer (m ∷ ms) f q l zero (suc y) n k a b = absurd (let s = head_token m ms f q n a in
    let t = one_at ms (λ z. f (suc z)) q y (k.0, k.1, k.2) b in omega (arith, s, t))
one_producer (m ∷ ms) f q l (suc x) zero n k a b = absurd (let s = head_token m ms f q k b in
    let t = one_at ms (λ z. f (suc z)) q x (n.0, n.1, n.2) a in omega (arith, s, t))
one_producer (m ∷ ms) f q l (suc x) (suc y) n k a b =
    ap suc (one_producer ms (λ z. f (suc z)) q (omega arith) x y (n.0, n.1, n.2) (k.0, k.1, k.2) a b)

-- at the exit too
pub one_at_most : (ns : List Node) (wanted : ℕ → Bool) (f : ℕ → CaseToken) → OneToken ns wanted f
    → (q : ℕ) → q < 449 → tokens ns f q ≤ 1
one_at_most ns wanted f law q lt = most (nat_lt q 448) refl
  where
    most : (v : Bool) → nat_lt q 448 ≡ v → tokens ns f q ≤ 1
    most true e = law.at_most q (grind arith)
    most false e =
        let le : 448 ≤ q = grind arith in
        let is : q ≡ 448 = omega arith in
        let t : tokens ns f q ≡ 1 = ap (λ z. tokens ns f z) is ∙ law.exit in
        omega arith

-- in a good block, whatever bits choose, one node alone gives the token of a place
pub any_bits : (ns : List Node) (wanted : ℕ → Bool) → IsRanked ns → IsPlaced ns → Good ns wanted
    → (bits : ℕ → Bool) (q x y : ℕ) → q < 449 → NamesPlace ns x q → NamesPlace ns y q
    → fires ns bits deepest x ≢ Absent → fires ns bits deepest y ≢ Absent → x ≡ y
any_bits ns wanted r w good bits q x y lt n k a b =
    one_producer ns (fires ns bits deepest) q
    (one_at_most ns wanted (fires ns bits deepest) law q lt) x y n k a b
  where
    law : OneToken ns wanted (fires ns bits deepest)
    law = one_token ns wanted r w good (fires ns bits deepest)
        (solves_own ns bits (fires ns bits deepest) (settled ns r.0 r.1 bits))
