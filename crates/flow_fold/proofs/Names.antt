-- What names a source, node by node.
use Rattle.std.proofs.Common.{◌≡◌, ℕ, zero, suc, List, [], ◌∷◌, ◌⊎◌, inl, inr, refl, sym, ap, ◌∙◌}
use Rattle.std.proofs.Common.{Bool, true, false, ◌||◌}
use Rattle.std.specs.Prelude.{Some, slice_get}
use Rattle.std.proofs.lemmas.Bool.{or_cases, false≢true}
use Rattle.std.proofs.lemmas.Option.{same_Some}
use Rattle.ir_forms.specs.declared.flow.FlowSource.{FlowSource}
use Rattle.ir_forms.specs.declared.flow.FlowNode.{FlowNode}
use Rattle.ir_forms.specs.inside.FlowRegular.{is_among, guards_by, nodes_name}

-- what is never true is false
pub false_unless : (b : Bool) → (b ≡ true → ⊥) → b ≡ false
false_unless true f = absurd (f refl)
false_unless false f = refl

pub or_first : (a b : Bool) → a ≡ true → (a || b) ≡ true
or_first true b e = refl
or_first false b e = absurd (cc)

pub or_second : (a b : Bool) → b ≡ true → (a || b) ≡ true
or_second true b e = refl
or_second false b e = e

-- where one of two is true both together are not false
pub not_first : (a b : Bool) → (a || b) ≡ false → a ≡ true → ⊥
not_first true b e f = absurd (cc)
not_first false b e f = absurd (cc)

pub not_second : (a b : Bool) → (a || b) ≡ false → b ≡ true → ⊥
not_second true b e f = absurd (cc)
not_second false b e f = false≢true (sym e ∙ f)

-- whether an operand or the guard of a node names a source
abbrev pub node_names : FlowSource → FlowNode → Bool
node_names s n = is_among s n.left || (is_among s n.right || guards_by s n.guard)

three : (a b c d : Bool) → (a || (b || (c || d))) ≡ ((a || (b || c)) || d)
three true b c d = refl
three false true c d = refl
three false false c d = refl

-- a node among some that names a source
pub record Namer (s : FlowSource) (ns : List FlowNode) : Type 0 where
  pub place : ℕ
  pub node : FlowNode
  pub there : slice_get ns place ≡ Some node
  pub names : node_names s node ≡ true

module _ (s : FlowSource) where
  -- what one of some nodes names they name
  pub named_at : (ns : List FlowNode) (y : ℕ) (n : FlowNode) → slice_get ns y ≡ Some n → node_names s n ≡ true
      → nodes_name s ns ≡ true
  named_at [] y n e t = absurd (cc)
  named_at (m ∷ ns) zero n e t =
      three (is_among s m.left) (is_among s m.right) (guards_by s m.guard) (nodes_name s ns)
      ∙ or_first (node_names s m) (nodes_name s ns) (ap (node_names s) (same_Some m n e) ∙ t)
  named_at (m ∷ ns) (suc y) n e t =
      three (is_among s m.left) (is_among s m.right) (guards_by s m.guard) (nodes_name s ns)
      ∙ or_second (node_names s m) (nodes_name s ns) (named_at ns y n e t)

  -- what some nodes name one of them names
  pub namer : (ns : List FlowNode) → nodes_name s ns ≡ true → Namer s ns
  namer [] e = absurd (cc)
  namer (m ∷ ns) e =
      pick (λ t. namer ns t) (or_cases (node_names s m) (nodes_name s ns)
      (sym (three (is_among s m.left) (is_among s m.right) (guards_by s m.guard) (nodes_name s ns)) ∙ e))
    where
      pick : (nodes_name s ns ≡ true → Namer s ns) → (node_names s m ≡ true) ⊎ (nodes_name s ns ≡ true)
          → Namer s (m ∷ ns)
      pick again (inl t) = record { place = 0; node = m; there = refl; names = t }
      pick again (inr t) = let w = again t in
          record { place = suc w.place; node = w.node; there = w.there; names = w.names }
