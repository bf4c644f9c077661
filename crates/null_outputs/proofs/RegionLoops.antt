-- A turn of the loops that go over a region: the groups before an item, and those from it on.
use Rattle.std.proofs.Common.{◌≡◌, ℕ, suc, ◌+◌, ◌<◌, List, [], ◌∷◌, ◌++◌, length, get_or, drop}
use Rattle.std.proofs.Common.{sym, ap, ap₂, ◌∙◌, arith, append_assoc, length-append, drop-cons}
use Rattle.ir_forms.specs.declared.flow.FlowNode.{FlowNode}
use Rattle.null_outputs.specs.inside.Groups.{region, end_of}
use Rattle.null_outputs.specs.inside.Sizes.{starts}

-- the item at a place, and those behind it
pub rest_of : {A : Type 0} (all : List A) (k : ℕ) (x : A) → k < length all → x ≡ get_or all k x
    → drop k all ≡ x ∷ drop (suc k) all
rest_of all k x l e = drop-cons all k x l ∙ ap (λ (y : _). y ∷ drop (suc k) all) (sym e)

module _ {A : Type 0} (size : ℕ → A → ℕ) where
  -- where groups begin: those found so far, and those that are left
  pub starts_turn : (all : List A) (found new : List ℕ) (p q j k : ℕ) (x : A) → k < length all → x ≡ get_or all k x
      → new ≡ found ++ p ∷ [] → q ≡ p + size j x
      → new ++ starts size q (j + 1) (drop (k + 1) all) ≡ found ++ starts size p j (drop k all)
  starts_turn all found new p q j k x l e en eq =
      let u : j + 1 ≡ suc j = omega arith in
      let v : k + 1 ≡ suc k = omega arith in
      ap (λ (i : ℕ). new ++ starts size q i (drop (k + 1) all)) u
      ∙ ap (λ (i : ℕ). new ++ starts size q (suc j) (drop i all)) v
      ∙ ap₂ (λ (xs : List ℕ) (i : ℕ). xs ++ starts size i (suc j) (drop (suc k) all)) en eq
      ∙ append_assoc found (p ∷ []) (starts size (p + size j x) (suc j) (drop (suc k) all))
      ∙ ap (λ (xs : List A). found ++ starts size p j xs) (sym (rest_of all k x l e))

  -- where the region ends
  pub end_turn : (all : List A) (p q j k : ℕ) (x : A) → k < length all → x ≡ get_or all k x → q ≡ p + size j x
      → end_of size q (j + 1) (drop (k + 1) all) ≡ end_of size p j (drop k all)
  end_turn all p q j k x l e eq =
      let u : j + 1 ≡ suc j = omega arith in
      let v : k + 1 ≡ suc k = omega arith in
      ap (λ (i : ℕ). end_of size q i (drop (k + 1) all)) u
      ∙ ap (λ (i : ℕ). end_of size q (suc j) (drop i all)) v
      ∙ ap (λ (i : ℕ). end_of size i (suc j) (drop (suc k) all)) eq
      ∙ ap (λ (xs : List A). end_of size p j xs) (sym (rest_of all k x l e))

module _ {A : Type 0} (part : ℕ → ℕ → A → List FlowNode) (size : ℕ → A → ℕ)
    (fits : (p j : ℕ) (x : A) → length (part p j x) ≡ size j x) (base : ℕ) where
  -- what was emitted so far, and what is left
  one_turn : (out new : List FlowNode) (p j : ℕ) (x : A) (rest : List A) → p ≡ base + length out
      → new ≡ out ++ part p j x
      → new ++ region part size (base + length new) (suc j) rest
      ≡ out ++ region part size (base + length out) j (x ∷ rest)
  one_turn out new p j x rest ep en =
      let e : new ≡ out ++ part (base + length out) j x = en ∙ ap (λ (q : ℕ). out ++ part q j x) ep in
      let l : base + length new ≡ base + length out + size j x =
      ap (λ (xs : List FlowNode). base + length xs) e
      ∙ (let a = length-append out (part (base + length out) j x) in let b = fits (base + length out) j x in omega
      (arith, a, b)) in
      ap₂ (λ (xs : List FlowNode) (q : ℕ). xs ++ region part size q (suc j) rest) e l
      ∙ append_assoc out (part (base + length out) j x) (region part size (base + length out + size j x) (suc j) rest)

  -- a turn over a region puts the group of an item behind those before, and the whole stays the same
  pub region_turn : (all : List A) (out new : List FlowNode) (p j k : ℕ) (x : A) → k < length all → x ≡ get_or all k x
      → p ≡ base + length out → new ≡ out ++ part p j x
      → new ++ region part size (base + length new) (j + 1) (drop (k + 1) all)
      ≡ out ++ region part size (base + length out) j (drop k all)
  region_turn all out new p j k x l e ep en =
      let u : j + 1 ≡ suc j = omega arith in
      let v : k + 1 ≡ suc k = omega arith in
      ap (λ (i : ℕ). new ++ region part size (base + length new) i (drop (k + 1) all)) u
      ∙ ap (λ (i : ℕ). new ++ region part size (base + length new) (suc j) (drop i all)) v
      ∙ one_turn out new p j x (drop (suc k) all) ep en
      ∙ ap (λ (xs : List A). out ++ region part size (base + length out) j xs) (sym (rest_of all k x l e))
