-- What the code of a switch weighs, but for its test and its statements.
use Rattle.std.proofs.Common.{◌≡◌, ◌≤◌, ℕ, zero, suc, ◌+◌, ◌*◌, List, [], ◌∷◌, Option, Some, None, refl, ap, arith}
use Rattle.trips_isa.specs.declared.op.Op.TheVariants as op
use Rattle.ir_forms.specs.declared.flat.Arg.TheVariants.{Const, Var}
use Rattle.ir_forms.specs.inside.FlatCode.{Code, Let}
use Rattle.flat_lower.specs.declared.around.Around.{Around}
use Rattle.flat_lower.specs.declared.around.Around.TheVariants as around
use Rattle.flat_lower.specs.inside.Tree.{Sections, NoSections, WithSection}
use Rattle.flat_lower.specs.inside.Operations.{temp, scratch}
use Rattle.flat_lower.specs.inside.Sizes.{label_count}
use Rattle.flat_lower.specs.declared.held.Held.{Held}
use Rattle.flat_lower.specs.declared.held.Held.TheVariants as held
use Rattle.flat_lower.specs.inside.Labels.{found_code, case_code, labels_code, compared_code}
use Rattle.flat_lower.specs.inside.Switches.{break_code, continue_code, behind_code}
use Rattle.flat_lower.specs.inside.Switches.{default_at, section_count, searched_code}
use Rattle.flat_lower.specs.inside.Switches.{dense_from, dense_code, chosen_by, chosen_code, in_switch, section_code}
use Rattle.flat_lower.specs.inside.Switches.{switched_code}
use Rattle.flat_lower_premises.specs.inside.SourceNodes.{sections_nodes}
use Rattle.flat_lower_premises.proofs.SectionNodes.{labels_nodes, bodies_nodes, in_two}
use Rattle.flat_lower_premises.proofs.Weights.{Weight, share, Takes, after, eased, none, one_more, chosen, looped}

module _ (w : Weight) where
  -- JUMPS

  -- the code of a break weighs at most 2
  pub break_takes : (a : Around) → Takes w 0 2 (break_code a)
  break_takes around.Nowhere = record { few = omega arith }
  break_takes _ = record { few = omega arith }

  -- the code of a continue weighs at most 2
  pub continue_takes : (a : Around) → Takes w 0 2 (continue_code a)
  continue_takes around.Nowhere = record { few = omega arith }
  continue_takes _ = record { few = omega arith }

  behind_takes : (a : Around) → Takes w 0 (w.branch + 2) (behind_code a)
  behind_takes around.Nowhere = none (w.branch + 2)
  behind_takes around.Switch = none (w.branch + 2)
  behind_takes _ = record { few = omega arith }

  -- LABELS

  found_takes : (n : ℕ) → Takes w 0 2 (found_code n)
  found_takes n = record { few = omega arith }

  -- what the if of a three takes, where some of the three are compared
  abbrev due : Held → ℕ
  due held.Zero = 0
  due held.One = w.branch + 2
  due held.Two = w.branch + 2

  first_takes : (n v : ℕ) → Takes w 0 1 (case_code held.Zero n v)
  first_takes n v = record { few = omega arith }

  second_takes : (n v : ℕ) → Takes w 0 2 (case_code held.One n v)
  second_takes n v = record { few = omega arith }

  third_takes : (n v : ℕ) → Takes w 0 (w.branch + 4) (case_code held.Two n v)
  third_takes n v = record { few = omega arith }

  labels_take : (h : Held) (n : ℕ) (ls : List (Option ℕ))
      → Takes w 0 (share w (label_count ls) + due h) (labels_code h n ls)
  labels_take held.Zero n [] = record { few = omega arith }
  labels_take held.One n [] = record { few = omega arith }
  labels_take held.Two n [] = record { few = omega arith }
  labels_take h n (None ∷ ls) = eased (labels_take h n ls) (omega arith)
  labels_take held.Zero n (Some v ∷ ls) =
      eased (after (first_takes n v) (labels_take held.One n ls)) (omega arith)
  labels_take held.One n (Some v ∷ ls) =
      eased (after (second_takes n v) (labels_take held.Two n ls)) (omega arith)
  labels_take held.Two n (Some v ∷ ls) =
      eased (after (third_takes n v) (labels_take held.Zero n ls)) (omega arith)

  compared_takes : (n : ℕ) (xs : Sections) → Takes w 0 (share w (labels_nodes xs)) (compared_code n xs)
  compared_takes n NoSections = record { few = omega arith }
  compared_takes n (WithSection ls body rest) =
      eased (after (labels_take held.Zero n ls) (compared_takes (suc n) rest)) (omega arith)

  searched_takes : (xs : Sections) → Takes w 0 (share w (labels_nodes xs) + (w.branch + 2)) (searched_code xs)
  searched_takes xs =
      eased (looped (after (compared_takes 0 xs) (found_takes (default_at 0 (section_count xs) xs))) (none 0))
      (omega arith)

  dense_takes : (low n : ℕ) → Takes w 0 (w.branch + 3) (dense_code low n)
  dense_takes low n = record { few = omega arith }

  -- dense labels have a first one
  some_label : (xs : Sections) (low : ℕ) → dense_from xs ≡ Some low → 1 ≤ labels_nodes xs
  some_label NoSections low h = absurd (cc h)
  some_label (WithSection [] body rest) low h = absurd (cc h)
  some_label (WithSection (l ∷ ls) body rest) low h = omega arith

  -- and that has a share
  some_share : (n : ℕ) → 1 ≤ n → 1 ≤ share w n
  some_share zero h = absurd (omega (arith, h))
  some_share (suc n) h = omega arith

  chosen_takes : (xs : Sections) → Takes w 0 (share w (labels_nodes xs) + (w.branch + 2)) (chosen_code xs)
  chosen_takes xs = by_labels (dense_from xs) refl
    where
      by_labels : (o : Option ℕ) → dense_from xs ≡ o
          → Takes w 0 (share w (labels_nodes xs) + (w.branch + 2)) (chosen_by o xs)
      by_labels None e = searched_takes xs
      by_labels (Some low) e =
          let h = some_share (labels_nodes xs) (some_label xs low e) in
          eased (dense_takes low (default_at 0 (section_count xs) xs)) (omega (arith, h))

  -- SECTIONS

  -- a section by its statements
  pub section_takes : (k : ℕ) (body : Code) (n : ℕ) → Takes w 0 (share w n) body
      → Takes w 0 (share w (1 + n)) (section_code k body)
  section_takes k body n p =
      eased (after (one_more (Let (scratch 0) op.Tgtu (Var (temp 0)) (Const k)) refl)
      (chosen (Var (scratch 0)) (none 0)
      (after p (one_more (Let (temp 0) op.Mov (Const 0) (Const 0)) refl)))) (omega arith)

  -- a switch behind its test by its sections
  pub switched_takes : (a : Around) (xs : Sections) (body : Code) → Takes w 0 (share w (bodies_nodes xs)) body
      → Takes w 0 (share w (sections_nodes xs) + (3 * w.branch + 6)) (switched_code a xs body)
  switched_takes a xs body p =
      let h = ap (share w) (in_two xs) in
      eased (after (chosen_takes xs) (after (looped (after p (break_takes (in_switch a))) (none 0))
      (behind_takes a))) (omega (arith, h))
