-- One register more, and one number more.
use Rattle.std.proofs.Common.{◌≡◌, ℕ, zero, suc, ◌+◌, ◌-◌, ◌<◌, ◌≤◌, Bool, true, false, cond, List, [], ◌∷◌, ◌++◌}
use Rattle.std.proofs.Common.{append_assoc, ap, ◌∙◌, sym, arith}
use Rattle.ir_forms.specs.declared.flow.FlowWrite.{FlowWrite}
use Rattle.predication.specs.inside.Environments.{Env, member}
use Rattle.predication.specs.inside.Converted.{writes_below}
use Rattle.predication.specs.inside.Made.{write_of, member_of, members_below}
use Rattle.predication.specs.inside.Converted.{among}
use Rattle.hyper_narrow.specs.declared.narrowed.Lasting.{Lasting}
use Rattle.hyper_narrow.specs.inside.NarrowedCode.{outlasts}
use Rattle.predication.proofs.WrittenLemmas.{member_among}

-- one more of a list, or none
one_more : {A : Type 0} (c : Bool) (x : A) (a b : List A)
    → (a ++ cond c (x ∷ []) []) ++ b ≡ a ++ cond c (x ∷ b) b
one_more true x a b = append_assoc a (x ∷ []) b
one_more false x a b = append_assoc a [] b

pub write_more : (env : Env) (rs : List ℕ) (n : ℕ) (a : List FlowWrite)
    → (a ++ write_of env rs n) ++ writes_below env rs n ≡ a ++ writes_below env rs (suc n)
write_more env rs n a =
    one_more (member n rs) (record { register = n; sources = (env n).given }) a (writes_below env rs n)

pub member_more : (found : List ℕ) (n : ℕ) (a : List ℕ)
    → (a ++ member_of found n) ++ members_below found n ≡ a ++ members_below found (suc n)
member_more found n a = one_more (member n found) n a (members_below found n)

-- what no register from n on up to m is a member of gives no write
pub writes_skipped : (env : Env) (rs : List ℕ) (k m n : ℕ) → m ≡ n + k
    → ((r : ℕ) → n ≤ r → r < m → member r rs ≡ false) → writes_below env rs m ≡ writes_below env rs n
writes_skipped env rs zero m n e h =
    let z : m ≡ n = omega (arith, e) in
    ap (λ (i : ℕ). writes_below env rs i) z
writes_skipped env rs (suc k) zero n e h = absurd (omega (arith, e))
writes_skipped env rs (suc k) (suc m) n e h =
    let z : m ≡ n + k = omega (arith, e) in
    ap (λ (b : Bool). cond b (record { register = m; sources = (env m).given } ∷ writes_below env rs m)
    (writes_below env rs m)) (h m (omega (arith, z)) (omega arith))
    ∙ writes_skipped env rs k m n z (λ r a b. h r a (omega (arith, b)))

-- the same of members
pub members_skipped : (found : List ℕ) (k m n : ℕ) → m ≡ n + k
    → ((r : ℕ) → n ≤ r → r < m → member r found ≡ false) → members_below found m ≡ members_below found n
members_skipped found zero m n e h =
    let z : m ≡ n = omega (arith, e) in
    ap (λ (i : ℕ). members_below found i) z
members_skipped found (suc k) zero n e h = absurd (omega (arith, e))
members_skipped found (suc k) (suc m) n e h =
    let z : m ≡ n + k = omega (arith, e) in
    ap (λ (b : Bool). cond b (m ∷ members_below found m) (members_below found m))
    (h m (omega (arith, z)) (omega arith))
    ∙ members_skipped found k m n z (λ r a b. h r a (omega (arith, b)))

-- the same of the writes of what outlasts the block
pub writes_among : (set : Lasting) (env : Env) (rs : List ℕ) (m n : ℕ) → n ≤ m
    → ((r : ℕ) → n ≤ r → r < m → member r rs ≡ false)
    → writes_below env (among set rs) m ≡ writes_below env (among set rs) n
writes_among set env rs m n l h =
    writes_skipped env (among set rs) (m - n) m n (omega (arith, l))
    (λ r a b. member_among set r rs ∙ ap (λ (x : Bool). cond x (outlasts set r) false) (h r a b))

-- the write of a register, and those below the next one down
pub writes_turn : (set : Lasting) (env : Env) (rs : List ℕ) (r n : ℕ) (a b all : List FlowWrite) → n ≤ r
    → ((q : ℕ) → n ≤ q → q < r → member q rs ≡ false) → b ≡ a ++ write_of env (among set rs) r
    → a ++ writes_below env (among set rs) (suc r) ≡ all → b ++ writes_below env (among set rs) n ≡ all
writes_turn set env rs r n a b all l h e s =
    ap (λ (x : List FlowWrite). b ++ x) (sym (writes_among set env rs r n l h))
    ∙ ap (λ (x : List FlowWrite). x ++ writes_below env (among set rs) r) e
    ∙ write_more env (among set rs) r a ∙ s

-- the same of members
pub members_turn : (found : List ℕ) (r n : ℕ) (a b all : List ℕ) → n ≤ r
    → ((q : ℕ) → n ≤ q → q < r → member q found ≡ false) → b ≡ a ++ member_of found r
    → a ++ members_below found (suc r) ≡ all → b ++ members_below found n ≡ all
members_turn found r n a b all l h e s =
    let z : r ≡ n + (r - n) = omega (arith, l) in
    ap (λ (x : List ℕ). b ++ x) (sym (members_skipped found (r - n) r n z h))
    ∙ ap (λ (x : List ℕ). x ++ members_below found r) e ∙ member_more found r a ∙ s
