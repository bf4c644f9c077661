-- A set and a flag keep up with the labels of a switch.
use Rattle.std.proofs.Common.{◌≡◌, ℕ, Bool, true, false, List, [], ◌∷◌, ◌++◌, Option, Some, None}
use Rattle.std.proofs.Common.{refl, sym, ap, ◌∙◌}
use Rattle.std.specs.Prelude.{◌||◌, cond, nat_eq}
use Rattle.std.specs.HashSet.{HashSet, contains}
use Rattle.std.proofs.lemmas.Bool.{eqb-true, eq-eqb}
use Rattle.std.specs.List.{list_any}
use Rattle.c_type.specs.Labels.{label_among, same_label}
use Rattle.c_type.specs.inside.Seen.{Knows}

last_alone : (b : Bool) → b || false ≡ false || b
last_alone true = refl
last_alone false = refl

behind_more : (a b c : Bool) → a || (b || c) ≡ (a || b) || c
behind_more true b c = refl
behind_more false true c = refl
behind_more false false c = refl

-- a label among one more
among_more : (x y : Option ℕ) (xs : List (Option ℕ))
    → label_among x (xs ++ y ∷ []) ≡ label_among x xs || same_label x y
among_more x y [] = last_alone (same_label x y)
among_more x y (z ∷ zs) =
    ap (λ b. same_label x z || b) (among_more x y zs)
    ∙ behind_more (same_label x z) (label_among x zs) (same_label x y)

or_none : (b : Bool) → b ≡ b || false
or_none true = refl
or_none false = refl

or_some : (b : Bool) → true ≡ b || true
or_some true = refl
or_some false = refl

either : (b a : Bool) → cond b true a ≡ a || b
either true true = refl
either true false = refl
either false true = refl
either false false = refl

turned : (m n : ℕ) → nat_eq m n ≡ nat_eq n m
turned m n = by (nat_eq m n) (nat_eq n m) refl refl
  where
    by : (p q : Bool) → nat_eq m n ≡ p → nat_eq n m ≡ q → p ≡ q
    by true true e f = refl
    by false false e f = refl
    by true false e f = sym (eq-eqb n m (sym (eqb-true m n e))) ∙ f
    by false true e f = sym e ∙ eq-eqb m n (sym (eqb-true n m f))

module _ {S : Type 0} (xs : List (Option ℕ)) (m : HashSet ℕ S) where
  -- behind `default`
  pub knows_default : (d : Bool) → Knows xs m d → Knows (xs ++ None ∷ []) m true
  knows_default d k = record {
    cases = λ w. k.cases w ∙ or_none (label_among (Some w) xs) ∙ sym (among_more (Some w) None xs);
    default = or_some (label_among None xs) ∙ sym (among_more None None xs);
  }

  -- behind a case
  pub knows_case : (n : HashSet ℕ S) (d : Bool) (w : ℕ) → Knows xs m d
      → ((q : ℕ) → contains nat_eq n q ≡ cond (nat_eq w q) true (contains nat_eq m q)) → Knows (xs ++ Some w ∷ []) n d
  knows_case n d w k u = record {
    cases = λ q.
        u q
        ∙ ap (λ b. cond (nat_eq w q) true b) (k.cases q)
        ∙ either (nat_eq w q) (label_among (Some q) xs)
        ∙ ap (λ b. label_among (Some q) xs || b) (turned w q)
        ∙ sym (among_more (Some q) (Some w) xs);
    default = k.default ∙ or_none (label_among None xs) ∙ sym (among_more None (Some w) xs);
  }

  -- where no word is added
  pub knows_same : (n : HashSet ℕ S) (d : Bool) → Knows xs m d → n.keys ≡ m.keys → Knows xs n d
  knows_same n d k e = record {
    cases = λ q. ap (λ ws. list_any (nat_eq q) ws) e ∙ k.cases q;
    default = k.default;
  }
