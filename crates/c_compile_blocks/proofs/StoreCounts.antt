-- Each store has one number, so the stores of all numbers are no more than the block's.
use Rattle.std.proofs.Common.{◌≡◌, ℕ, zero, suc, ◌+◌, ◌<◌, ◌≤◌, Bool, true, false, List, [], ◌∷◌, length, refl, arith}
use Rattle.std.proofs.Common.{length-append, nat_eq}
use Rattle.std.proofs.lemmas.Bool.Decides.{nat_tests}
use Rattle.trips_isa.specs.declared.form.Form.{Form}
use Rattle.trips_isa.specs.declared.form.Form.TheVariants as form
use Rattle.trips_isa.specs.Forms.{form_of}
use Rattle.ir_forms.specs.declared.flow.FlowNode.{FlowNode}
use Rattle.null_outputs.specs.inside.Covers.{one_if}
use Rattle.null_outputs.specs.inside.Groups.{store_source, stores_of}
use Rattle.c_compile_blocks.proofs.OneGuard.{one_store, saves}

-- STORES

-- how many stores of m numbers from i on there are, the first node being node j
abbrev pub stored_in : ℕ → List FlowNode → ℕ → ℕ → ℕ
stored_in j ns i zero = 0
stored_in j ns i (suc m) = length (stores_of j ns i) + stored_in j ns (suc i) m

-- how often one node is among them
abbrev once_in : Form → FlowNode → ℕ → ℕ → ℕ → ℕ
once_in e n j i zero = 0
once_in e n j i (suc m) = length (store_source e n j i) + once_in e n j (suc i) m

never_in : (n : FlowNode) (j i m : ℕ) → n.number < i → once_in form.Store n j i m ≡ 0
never_in n j i zero l = refl
never_in n j i (suc m) l = go (nat_eq n.number i) refl (never_in n j (suc i) m (omega (arith, l)))
  where
    go : (t : Bool) → nat_eq n.number i ≡ t → once_in form.Store n j (suc i) m ≡ 0
        → length (one_if t j) + once_in form.Store n j (suc i) m ≡ 0
    go true e h = let z : n.number ≡ i = grind (arith, nat_tests) in absurd (omega (arith, z, l))
    go false e h = omega (arith, h)

store_once : (n : FlowNode) (j i m : ℕ) → once_in form.Store n j i m ≤ 1
store_once n j i zero = omega arith
store_once n j i (suc m) = go (nat_eq n.number i) refl (store_once n j (suc i) m)
  where
    go : (t : Bool) → nat_eq n.number i ≡ t → once_in form.Store n j (suc i) m ≤ 1
        → length (one_if t j) + once_in form.Store n j (suc i) m ≤ 1
    go true e h =
        let z : n.number ≡ i = grind (arith, nat_tests) in
        let p = never_in n j (suc i) m (omega (arith, z)) in
        omega (arith, p)
    go false e h = omega (arith, h)

not_in : (e : Form) (n : FlowNode) (j i m : ℕ) → ((k : ℕ) → length (store_source e n j k) ≡ 0)
    → once_in e n j i m ≡ 0
not_in e n j i zero h = refl
not_in e n j i (suc m) h = let r = not_in e n j (suc i) m h in let a = h i in omega (arith, r, a)

once_only : (e : Form) (n : FlowNode) (j i m : ℕ) → once_in e n j i m ≤ one_store e
once_only form.Store n j i m = store_once n j i m
once_only form.General n j i m = let h = not_in form.General n j i m (λ k. refl) in omega (arith, h)
once_only form.Immediate n j i m = let h = not_in form.Immediate n j i m (λ k. refl) in omega (arith, h)
once_only form.Load n j i m = let h = not_in form.Load n j i m (λ k. refl) in omega (arith, h)
once_only form.Branch n j i m = let h = not_in form.Branch n j i m (λ k. refl) in omega (arith, h)
once_only form.Constant n j i m = let h = not_in form.Constant n j i m (λ k. refl) in omega (arith, h)

none_stored : (j i m : ℕ) → stored_in j [] i m ≡ 0
none_stored j i zero = refl
none_stored j i (suc m) = let h = none_stored j (suc i) m in omega (arith, h)

stored_split : (n : FlowNode) (ns : List FlowNode) (j i m : ℕ)
    → stored_in j (n ∷ ns) i m ≡ once_in (form_of n.op) n j i m + stored_in (suc j) ns i m
stored_split n ns j i zero = refl
stored_split n ns j i (suc m) =
    let h = stored_split n ns j (suc i) m in
    let e = length-append (store_source (form_of n.op) n j i) (stores_of (suc j) ns i) in
    omega (arith, h, e)

-- each store has one number
pub stored_most : (ns : List FlowNode) (j i m : ℕ) → stored_in j ns i m ≤ saves ns
stored_most [] j i m = let h = none_stored j i m in omega (arith, h)
stored_most (n ∷ ns) j i m =
    let h = stored_most ns (suc j) i m in
    let s = stored_split n ns j i m in
    let o = once_only (form_of n.op) n j i m in
    omega (arith, h, s, o)
