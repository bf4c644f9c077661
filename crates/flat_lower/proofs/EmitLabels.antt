-- The labels of a switch one by one.
use Rattle.std.proofs.Common.{◌≡◌, ℕ, suc, ◌+◌, ◌%◌, ◌^◌, false, cond, List, [], ◌∷◌, length, Option}
use Rattle.std.proofs.Common.{refl, sym, ap, ◌∙◌, arith}
use Rattle.std.specs.Prelude.{nat_eq}
use Rattle.std.proofs.lemmas.Bool.Decides.{nat_tests}
use Rattle.c_tree.specs.declared.TypedSection.{TypedSection}
use Rattle.ir_forms.specs.declared.flat.FlatStmt.{FlatStmt}
use Rattle.ir_forms.specs.inside.FlatCode.{Then}
use Rattle.ir_forms.specs.inside.FlatViews.{code_of}
use Rattle.flat_lower.specs.declared.held.Held.{Held}
use Rattle.flat_lower.specs.declared.held.Held.TheVariants as held
use Rattle.flat_lower.specs.inside.Labels.{label_code, held_behind, held_code, labels_code, compared_code}
use Rattle.flat_lower.specs.inside.Switches.{section_count, is_label, is_default, is_end, are_dense}
use Rattle.flat_lower.specs.inside.Emitted.{Adds, sections_in}
use Rattle.flat_lower.proofs.Emits.{then_then, then_nop}

-- some labels are emitted, and `rest` are to come, of whose first three so many are compared
pub record LabelsSoFar (h : Held) (n : ℕ) (all rest : List (Option ℕ)) (old code : List FlatStmt) : Type 0 where
  pub written : Then (code_of code) (labels_code h n rest) ≡ Then (code_of old) (labels_code held.Zero n all)

-- one label more
pub labels_go_on : (h : Held) (n : ℕ) (all rest : List (Option ℕ)) (l : Option ℕ) (old code code' : List FlatStmt)
    → LabelsSoFar h n all (l ∷ rest) old code → Adds code code' (label_code h n l)
    → LabelsSoFar (held_behind h l) n all rest old code'
labels_go_on h n all rest l old code code' s a = record {
  written =
      ap (λ z. Then z (labels_code (held_behind h l) n rest)) a.is
      ∙ then_then (code_of code) (label_code h n l) (labels_code (held_behind h l) n rest)
      ∙ s.written;
}

-- at the end
pub labels_end : (h : Held) (n : ℕ) (all : List (Option ℕ)) (old code code' : List FlatStmt)
    → LabelsSoFar h n all [] old code → Adds code code' (held_code h n) → Adds old code' (labels_code held.Zero n all)
labels_end h n all old code code' s a = record { is = a.is ∙ s.written }

-- the labels of n sections are emitted, and those of `rest` are to come
pub record ComparedSoFar (n : ℕ) (all rest : List TypedSection) (old code : List FlatStmt) : Type 0 where
  pub written : Then (code_of code) (compared_code n (sections_in rest))
      ≡ Then (code_of old) (compared_code 0 (sections_in all))

-- those of one section more
pub compared_goes_on : (n : ℕ) (all rest : List TypedSection) (x : TypedSection)
    (old code code' : List FlatStmt) → ComparedSoFar n all (x ∷ rest) old code
    → Adds code code' (labels_code held.Zero n x.labels) → ComparedSoFar (suc n) all rest old code'
compared_goes_on n all rest x old code code' s h = record {
  written =
      ap (λ z. Then z (compared_code (suc n) (sections_in rest))) h.is
      ∙ then_then (code_of code) (labels_code held.Zero n x.labels) (compared_code (suc n) (sections_in rest))
      ∙ s.written;
}

-- at the end
pub compared_ends : (n : ℕ) (all : List TypedSection) (old code : List FlatStmt)
    → ComparedSoFar n all [] old code → Adds old code (compared_code 0 (sections_in all))
compared_ends n all old code s = record { is = sym (then_nop (code_of code)) ∙ s.written }

-- sections are as many as they are seen
pub counted : (xs : List TypedSection) → section_count (sections_in xs) ≡ length xs
counted [] = refl
counted (x ∷ xs) = ap suc (counted xs)

-- the last of some sections has none behind it
none_behind : (xs : List TypedSection) → nat_eq (length xs) 0 ≡ is_end (sections_in xs)
none_behind [] = refl
none_behind (x ∷ xs) = let e : nat_eq (suc (length xs)) 0 ≡ false = grind (arith, nat_tests) in e

-- where a section has another label than the one that follows, it ends dense labels or there are none
pub dense_stops : (w left : ℕ) (a : TypedSection) (rest : List TypedSection) → is_label w a.labels ≡ false
    → left ≡ length rest
    → cond (is_default a.labels) (nat_eq left 0) false ≡ are_dense w (sections_in (a ∷ rest))
dense_stops w left a rest h e =
    ap (λ n. cond (is_default a.labels) (nat_eq n 0) false) e
    ∙ ap (λ b. cond (is_default a.labels) b false) (none_behind rest)
    ∙ ap (λ b. cond b (are_dense ((w + 1) % 2 ^ 64) (sections_in rest))
    (cond (is_default a.labels) (is_end (sections_in rest)) false)) (sym h)
