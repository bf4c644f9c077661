-- What the test of blocks says whose outputs surely get a token each.
use Rattle.std.proofs.Common.{◌≡◌, ℕ, zero, suc, ◌+◌, ◌<◌, Bool, true, false, not, ◌&&◌, List, [], ◌∷◌, refl, sym}
use Rattle.std.proofs.Common.{ap, subst, ◌∙◌, arith}
use Rattle.std.specs.Prelude.{Some, None, slice_get}
use Rattle.ir_forms.specs.declared.flow.FlowWrite.{FlowWrite}
use Rattle.ir_forms.specs.declared.flow.FlowBlock.{FlowBlock}
use Rattle.ir_forms.specs.inside.FlowFits.{in_mask}
use Rattle.null_outputs.specs.inside.Covers.{Sure}
use Rattle.null_outputs.specs.inside.Groups.{number_open, stores_of}
use Rattle.null_outputs.specs.inside.Supplied.{writes_there, numbers_there, all_numbers_there, is_supplied}
use Rattle.null_outputs.specs.inside.Surely.{firm_of, firms, sure_by, sure_of}
use Rattle.null_outputs.specs.inside.Wants.{complete}
use Rattle.null_outputs.proofs.Covers.{both_true}
use Rattle.null_outputs.proofs.Spaces.{some_is}
use Rattle.null_outputs.proofs.Straightness.{masked_low}
use Rattle.null_outputs.proofs.Unguarded.{supplied_stays}

write_at : (sure : Sure) (ws : List FlowWrite) → writes_there sure ws ≡ true → (j : ℕ) (w : FlowWrite)
    → slice_get ws j ≡ Some w → sure None w.sources ≡ true
write_at sure [] e j w s = absurd (cc)
write_at sure (v ∷ ws) e zero w s =
    subst (λ (x : FlowWrite). sure None x.sources ≡ true) (some_is v w s) (both_true _ _ e).0
write_at sure (v ∷ ws) e (suc j) w s = write_at sure ws (both_true _ _ e).1 j w s

not_true : (t : Bool) → not t ≡ true → t ≡ false
not_true true e = absurd (cc)
not_true false e = refl

number_at : (sure : Sure) (b : FlowBlock) (m k : ℕ) → numbers_there sure b k m ≡ true
    → (i x : ℕ) → x ≡ k + i → i < m → number_open sure b x ≡ false
number_at sure b zero k e i x a l = absurd (omega (arith, l))
number_at sure b (suc m) k e zero x a l =
    let d : k ≡ x = omega (arith, a) in
    subst (λ (z : ℕ). number_open sure b z ≡ false) d (not_true _ (both_true _ _ e).0)
number_at sure b (suc m) k e (suc i) x a l =
    number_at sure b m (suc k) (both_true _ _ e).1 i x (omega (arith, a)) (omega (arith, l))

in_all : (sure : Sure) (b : FlowBlock) → all_numbers_there sure b ≡ true → (k : ℕ) → k < 32
    → number_open sure b k ≡ false
unfolding all_numbers_there
in_all sure b e k l = number_at sure b 32 0 e k k (omega arith) l

number_low : (sure : Sure) (b : FlowBlock) → all_numbers_there sure b ≡ true → (k : ℕ)
    → number_open sure b k ≡ false
number_low sure b e k = go (in_mask b.mask k) refl
  where
    go : (t : Bool) → in_mask b.mask k ≡ t → number_open sure b k ≡ false
    go true d = in_all sure b e k (masked_low b.mask k d)
    go false d = ap (λ (t : Bool). t && not (sure None (stores_of 0 b.nodes k))) d

-- a block that passes the test stays as it is
pub supplied : (b : FlowBlock) → is_supplied b ≡ true → complete b ≡ b
supplied b e =
    let parts = both_true (writes_there (sure_by b) b.writes) (all_numbers_there (sure_by b) b) e in
    supplied_stays b (write_at (sure_by b) b.writes parts.0) (number_low (sure_by b) b parts.1)

-- the test by the firm nodes that were found
pub supplied_by : (b : FlowBlock) (found : List Bool) (t : Bool) → found ≡ firms b.nodes
    → t ≡ (writes_there (sure_of b.nodes (firm_of found)) b.writes
    && all_numbers_there (sure_of b.nodes (firm_of found)) b)
    → t ≡ is_supplied b
supplied_by b found t e a =
    a ∙ ap (λ (fs : List Bool). writes_there (sure_of b.nodes (firm_of fs)) b.writes
    && all_numbers_there (sure_of b.nodes (firm_of fs)) b) e
