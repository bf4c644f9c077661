-- A whole switch behind its test: a section is found, and from it on the sections run.
use Rattle.std.proofs.Common.{◌≡◌, ℕ, suc, ◌+◌, ◌-◌, ◌*◌, ◌%◌, ◌^◌, ◌<◌, ◌≤◌, List, [], drop, length}
use Rattle.std.proofs.Common.{Option, Some, None, refl, sym, ap, subst, mul-suc, arith}
use Rattle.c_tree.specs.declared.Kind.{Kind}
use Rattle.c_tree.specs.declared.TypedSection.{TypedSection}
use Rattle.c_tree.specs.declared.TypedProgram.{TypedProgram}
use Rattle.c_meaning_spec.specs.State as eval
use Rattle.c_meaning_spec.specs.Statement.{sequence, bodies, targets, run_from, compared}
use Rattle.c_meaning_spec.specs.Eval.{meaning}
use Rattle.ir_forms.specs.inside.FlatCode.{Code, Nop, Then, only, Loop}
use Rattle.ir_forms.specs.inside.FlatSteps.{State, counted}
use Rattle.ir_forms.specs.inside.FlatRuns.{checked}
use Rattle.ir_forms.proofs.Leads.{Stops, waits_stop}
use Rattle.ir_forms.proofs.Steps.{code_waits}
use Rattle.flat_lower.specs.declared.around.Around.{Around}
use Rattle.flat_lower.specs.inside.Operations.{temp}
use Rattle.flat_lower.specs.inside.Labels.{found_code, compared_code}
use Rattle.flat_lower.specs.inside.Switches.{in_switch, break_code, behind_code}
use Rattle.flat_lower.specs.inside.Switches.{default_at, section_count, searched_code, dense_from, dense_code}
use Rattle.flat_lower.specs.inside.Switches.{chosen_by, switched_code}
use Rattle.flat_lower.specs.inside.Emitted.{sections_in}
use Rattle.flat_lower.specs.inside.FitsSwitches.{cases_in, free_sections}
use Rattle.flat_lower.specs.inside.Fits.{FitsSections}
use Rattle.flat_lower.specs.inside.Sizes.{size_of_sections}
use Rattle.flat_lower.proofs.EmitArguments.{drop_all}
use Rattle.flat_lower.proofs.Follows.{moved_in}
use Rattle.flat_lower.proofs.Related.{Scene, IsScene, scope, Related, recounted}
use Rattle.flat_lower.proofs.Values.{functions, base, run}
use Rattle.flat_lower.proofs.Returns.{EndedIn}
use Rattle.flat_lower.proofs.LeafStatements.{EndsHere}
use Rattle.flat_lower.proofs.SwitchLabels.{Choice, Ends_there, Goes_to, sections_choose}
use Rattle.flat_lower.proofs.SwitchSections.{rest_of, FollowsBlock, Skipped, skipping, sections_run}
use Rattle.flat_lower.proofs.SwitchDense.{at_most, distance, Search, Runs_out, Finds, dense_finds}
use Rattle.flat_lower.proofs.DenseSkips.{DenseIs, dense_is, dense_skips}
use Rattle.flat_lower.proofs.SwitchCounts.{default_small, cases_small, count_is, drop_none, fits_drop}
use Rattle.flat_lower.proofs.SwitchCounts.{size_drop}
use Rattle.flat_lower.proofs.SwitchEnds.{loop_left, loop_stops, runs_out}

none_before : (n : ℕ) → 0 + n ≡ n
none_before n = omega arith

module _ (P : TypedProgram) (most : ℕ) (S : Scene) (y : IsScene P S) where
  -- the code of the sections, in its loop
  abbrev pub run_code : Around → List TypedSection → Code
  run_code a all =
      Then (only (Loop (Then (rest_of P most S y (in_switch a) 0 all) (break_code (in_switch a))) Nop))
      (behind_code a)

  -- the comparing, in its loop
  abbrev pub compare_code : List TypedSection → Code
  compare_code all =
      Then (compared_code 0 (sections_in all)) (found_code (default_at 0 (section_count (sections_in all))
      (sections_in all)))

  -- how many sections are skipped where no label is equal
  abbrev pub default_of : List TypedSection → ℕ
  default_of all = default_at 0 (section_count (sections_in all)) (sections_in all)

  -- the sections, of which m are skipped
  switch_runs : (a : Around) (n : ℕ) → FollowsBlock P most S y (in_switch a) n → (j : Option Kind)
      (all : List TypedSection) (m : ℕ) (s : eval.State) (f : State) (top low : ℕ) → s.stock ≤ n
      → FitsSections (scope P S) S.func.result (in_switch a) j (sections_in all)
      → size_of_sections (sections_in all) ≤ most → m ≤ length all → Related S s f
      → f.vars (temp 0) ≡ Some m → 2 * m + 4 + 8 * s.stock ≤ top → low ≤ s.stock + most * f.rounds
      → EndsHere P most S y a (run_code a all) f top low (run_from (meaning P) (bodies (drop m all)) s)
  switch_runs a n hb j all m s f top low le t z lm r e hu hl =
      let x = in_switch a in
      let sk = skipping P most S y x all 0 m m (break_code x) s (counted f) lm (omega arith) (recounted S s f r) e in
      let small = size_drop all m in
      let there : low ≤ s.stock + most * sk.to.rounds - size_of_sections (sections_in (drop m all)) = subst
      (λ c. low ≤ s.stock + most * c - size_of_sections (sections_in (drop m all))) (sym sk.rounds)
      (omega (arith, mul-suc most f.rounds, small)) in
      let few = sk.few in
      runs_out P most S y a (rest_of P most S y x 0 all) (rest_of P most S y x m (drop m all)) f sk.to sk.t
      (8 * s.stock) low top low (sequence (meaning P) (bodies (drop m all)) s) sk.moves
      (sections_run P most S y x n hb j m m (drop m all) s sk.to (8 * s.stock) low le
      (fits_drop (scope P S) S.func.result j x all m t) (omega arith) sk.rel sk.word (omega arith)
      (omega arith) there)
      (omega arith) (omega arith)

  -- a switch whose labels are compared, where blocks inside it follow the evaluation
  searched_ends : (a : Around) (n : ℕ) → FollowsBlock P most S y (in_switch a) n → (j : Option Kind)
      (all : List TypedSection) (w : ℕ) (s : eval.State) (g : State) (top low : ℕ) → s.stock ≤ n
      → FitsSections (scope P S) S.func.result (in_switch a) j (sections_in all)
      → free_sections (sections_in all) ≤ 1 → section_count (sections_in all) < 2 ^ 64
      → size_of_sections (sections_in all) ≤ most → Related S s g → g.vars (temp 0) ≡ Some w
      → 7 + 8 * s.stock ≤ top
      → low ≤ s.stock + most * g.rounds - size_of_sections (sections_in all)
      → EndsHere P most S y a (Then (searched_code (sections_in all)) (run_code a all)) g top low
      (compared (meaning P) w (targets all) [] s)
  searched_ends a n hb j all w s g top low le t free short z r e hu hl =
      let xs = sections_in all in
      let o = section_count xs in
      let count = count_is all in
      let behind_all : [] ≡ bodies (drop o all) = sym (ap bodies (drop_all all o (omega arith))) in
      let small = default_small (scope P S) S.func.result j (in_switch a) xs t free in
      by_choice (sections_choose P most S y all w (default_at 0 o xs) all 0 0 0 o [] s (counted g) (drop_none all)
      (omega arith) (omega arith) (omega arith) behind_all (omega arith) refl (omega (arith, small))
      (recounted S s g r) e)
    where
      few : cases_in (sections_in all) ≤ size_of_sections (sections_in all)
      few = cases_small (sections_in all)

      by_choice : Choice P most S y all (compare_code all) (counted g) s 2 (cases_in (sections_in all))
          (compared (meaning P) w (targets all) [] s)
          → EndsHere P most S y a (Then (only (Loop (compare_code all) Nop)) (run_code a all)) g top low
          (compared (meaning P) w (targets all) [] s)
      by_choice (Ends_there x) =
          let c = few in
          subst (λ q. EndsHere P most S y a (Then (only (Loop (compare_code all) Nop)) (run_code a all)) g top low q)
          (sym x.is)
          (record {
            t = suc x.t;
            r = suc g.rounds;
            upper = omega (arith, x.few);
            lower = omega (arith, mul-suc most g.rounds, x.all);
            stops = loop_stops P most S y (compare_code all) (run_code a all) g x.t x.at.output
                (suc g.rounds) x.stops;
          })
      by_choice (Goes_to x) =
          let c = few in
          let count = count_is all in
          let low1 : low ≤ x.at.stock + most * x.to.rounds = subst
          (λ c. low ≤ x.at.stock + most * c) (sym x.rounds)
          (omega (arith, mul-suc most g.rounds, x.left)) in
          moved_in a most (EndedIn a S) (run P most S y
          (Then (only (Loop (compare_code all) Nop)) (run_code a all)) g)
          (run P most S y (run_code a all) x.to) (suc x.t) top low (compared (meaning P) w (targets all) [] s)
          (loop_left P most S y (compare_code all) (run_code a all) g x.t x.to x.leads) (omega (arith, x.few))
          (subst (λ q. EndsHere P most S y a (run_code a all) x.to (top - suc x.t) low q) (sym x.is)
          (switch_runs a n hb j all x.m x.at x.to (top - suc x.t) low (omega (arith, x.less)) t z x.count
          x.rel x.word (omega (arith, x.few)) low1))

  -- a switch whose labels are dense, where blocks inside it follow the evaluation
  dense_ends : (a : Around) (n : ℕ) → FollowsBlock P most S y (in_switch a) n → (j : Option Kind)
      (all : List TypedSection) (w first : ℕ) (s : eval.State) (g : State) (top low : ℕ) → s.stock ≤ n
      → FitsSections (scope P S) S.func.result (in_switch a) j (sections_in all)
      → size_of_sections (sections_in all) ≤ most → w < 2 ^ 64 → DenseIs (sections_in all) first
      → Related S s g → g.vars (temp 0) ≡ Some w → 7 + 8 * s.stock ≤ top
      → low ≤ s.stock + most * g.rounds - size_of_sections (sections_in all)
      → EndsHere P most S y a (Then (dense_code first (default_of all)) (run_code a all)) g top low
      (compared (meaning P) w (targets all) [] s)
  dense_ends a n hb j all w first s g top low le t z below is r e hu hl =
      let o = section_count (sections_in all) in
      let d = (w + (2 ^ 64 - first)) % 2 ^ 64 in
      let count = count_is all in
      let behind_all : [] ≡ bodies (drop o all) = sym (ap bodies (drop_all all o (omega arith))) in
      let x = dense_finds P all w (default_of all) below all first d 0 o [] s (drop_none all) (omega arith) is.dense
      is.word (omega arith) (distance first w is.word below) behind_all count refl in
      by_search (at_most d (default_of all))
      (subst (λ d. Search P all s 0 (at_most d (default_of all)) (cases_in (sections_in all))
      (compared (meaning P) w (targets all) [] s)) (none_before d) x)
      (dense_skips P most S y a first w (default_of all) (run_code a all) s g is.some r e)
    where
      few : cases_in (sections_in all) ≤ size_of_sections (sections_in all)
      few = cases_small (sections_in all)

      by_search : (m : ℕ) → Search P all s 0 m (cases_in (sections_in all))
          (compared (meaning P) w (targets all) [] s)
          → Skipped P most S y a (Then (dense_code first (default_of all)) (run_code a all)) g s m (3 + m)
          (run_code a all)
          → EndsHere P most S y a (Then (dense_code first (default_of all)) (run_code a all)) g top low
          (compared (meaning P) w (targets all) [] s)
      by_search m (Runs_out x) sk =
          let c = few in
          let code = Then (dense_code first (default_of all)) (run_code a all) in
          subst (λ q. EndsHere P most S y a code g top low q) (sym x.is)
          (record {
            t = 0;
            r = g.rounds;
            upper = omega arith;
            lower = omega (arith, x.all);
            stops = subst (λ out. Stops (run P most S y code g) 0 out g.rounds) (sym x.output)
                (waits_stop (run P most S y code g) s.output g.rounds
                (code_waits checked (functions P most) (base P most) S.env code g s.output r.output));
          })
      by_search m (Finds x) sk =
          let c = few in
          let low1 : low ≤ x.at.stock + most * sk.to.rounds = subst (λ c. low ≤ x.at.stock + most * c)
          (sym sk.rounds) (omega (arith, x.left)) in
          moved_in a most (EndedIn a S)
          (run P most S y (Then (dense_code first (default_of all)) (run_code a all)) g)
          (run P most S y (run_code a all) sk.to) sk.t top low (compared (meaning P) w (targets all) [] s) sk.moves
          (omega (arith, sk.few, x.paid))
          (subst (λ q. EndsHere P most S y a (run_code a all) sk.to (top - sk.t) low q) (sym x.is)
          (switch_runs a n hb j all m x.at sk.to (top - sk.t) low (omega (arith, x.paid)) t z x.count
          (x.rel S sk.to sk.rel) sk.word (omega (arith, sk.few, x.paid)) low1))

  -- a switch behind its test follows the evaluation, where blocks inside it do
  pub switch_ends : (a : Around) (n : ℕ) → FollowsBlock P most S y (in_switch a) n → (j : Option Kind)
      (all : List TypedSection) (w : ℕ) (s : eval.State) (g : State) (top low : ℕ) → s.stock ≤ n
      → FitsSections (scope P S) S.func.result (in_switch a) j (sections_in all)
      → free_sections (sections_in all) ≤ 1 → section_count (sections_in all) < 2 ^ 64
      → size_of_sections (sections_in all) ≤ most → w < 2 ^ 64 → Related S s g → g.vars (temp 0) ≡ Some w
      → 7 + 8 * s.stock ≤ top
      → low ≤ s.stock + most * g.rounds - size_of_sections (sections_in all)
      → EndsHere P most S y a (switched_code a (sections_in all) (rest_of P most S y (in_switch a) 0 all)) g top
      low (compared (meaning P) w (targets all) [] s)
  switch_ends a n hb j all w s g top low le t free short z below r e hu hl =
      by_labels (dense_from (sections_in all)) refl
    where
      by_labels : (o : Option ℕ) → dense_from (sections_in all) ≡ o
          → EndsHere P most S y a (Then (chosen_by o (sections_in all)) (run_code a all)) g top low
          (compared (meaning P) w (targets all) [] s)
      by_labels None eo = searched_ends a n hb j all w s g top low le t free short z r e hu hl
      by_labels (Some first) eo =
          dense_ends a n hb j all w first s g top low le t z below
          (dense_is (scope P S) S.func.result j (in_switch a) (sections_in all) first t eo) r e hu hl
