-- Well formed programs are as the lowering takes them, and keep their meaning.
use Rattle.std.proofs.Common.{◌≡◌, ℕ, zero, suc, ◌+◌, ◌*◌, ◌<◌, ◌≤◌, List, [], ◌∷◌, map}
use Rattle.std.proofs.Common.{length, All, Option, Some, None, refl, sym, ap, subst, arith}
use Rattle.std.specs.Prelude.{slice_get}
use Rattle.c_tree.specs.declared.Kind.{Kind}
use Rattle.c_tree.specs.declared.TypedFunc.{TypedFunc}
use Rattle.c_tree.specs.declared.TypedGlobal.{TypedGlobal}
use Rattle.c_tree.specs.declared.TypedProgram.{TypedProgram}
use Rattle.c_constant.specs.Kinds.{bytes}
use Rattle.c_meaning_spec.specs.Eval.{length_of, eval}
use Rattle.c_type.specs.States.{nowhere}
use Rattle.c_type_rules.specs.inside.WellFormed.{Each, count_of, all_bytes, GlobalFits, FunctionFits}
use Rattle.c_type_rules.specs.inside.WellFormed.{WellFormed}
use Rattle.c_type_rules.specs.inside.WellFormed as typed
use Rattle.c_type_rules.proofs.Uses.{function_at}
use Rattle.flat_lower_premises.specs.inside.Words.{AreWordsOf}
use Rattle.flat_lower_premises.specs.inside.TypedTrees.{StmtHasWords, GlobalsHaveWords, FunctionsHaveWords}
use Rattle.flat_lower_premises.specs.inside.TypedTrees.{ProgramHasWords}
use Rattle.trips_isa.specs.Stores.{data_size}
use Rattle.ir_forms.specs.inside.Frames.{rounded, frames_at, frame_limit}
use Rattle.ir_forms.specs.inside.FlatRuns.{checked, flat_run}
use Rattle.flat_lower.specs.inside.Tree.{Func, Source}
use Rattle.flat_lower.specs.inside.TreeViews.{stmt_of, func_of, source_of}
use Rattle.flat_lower.specs.declared.around.Around.TheVariants.{Nowhere}
use Rattle.c_constant.specs.Kinds.{IsWord}
use Rattle.flat_lower.specs.inside.Objects.{global_bytes}
use Rattle.flat_lower.specs.inside.Statements.{global_image, globals_image, lowered_program}
use Rattle.flat_lower.specs.inside.Fits.{FitsFunc, FitsGlobal, FitsMain, FitsSource}
use Rattle.flat_lower.specs.inside.Sizes as sizes
use Rattle.flat_lower.specs.inside.Sizes.{IsMost}
use Rattle.c_meaning_spec.specs.Laws.{IsInput}
use Rattle.flat_lower.specs.inside.Keeps.{Keeps}
use Rattle.flat_lower.proofs.Image.{both_length, global_length}
use Rattle.flat_lower.proofs.Calls.{limit, typed_at, func_at}
use Rattle.flat_lower.proofs.LoweredMeaning.{keeps_meaning}
use Rattle.flat_lower_premises.specs.inside.SourceNodes.{stmt_nodes, funcs_size}
use Rattle.flat_lower_premises.specs.inside.Limits.{HasFewGlobals, HasFewNodes}
use Rattle.flat_lower_premises.specs.inside.Most.{largest, most_of}
use Rattle.flat_lower_premises.proofs.FewSections.{few}
use Rattle.flat_lower_premises.proofs.FitStatements.{stmt_fits}

-- GLOBALS

words_fit : (k : Kind) (ws : List ℕ) → AreWordsOf k ws → All (IsWord k) ws
words_fit k [] h i d l = absurd (omega (arith, l))
words_fit k (w ∷ ws) h zero d l = h.0
words_fit k (w ∷ ws) h (suc i) d l = words_fit k ws h.1 i d (omega (arith, l))

same_count : (l : Option ℕ) → length_of l ≡ count_of l
same_count None = refl
same_count (Some n) = refl

global_fits : (g : TypedGlobal) → GlobalFits g → AreWordsOf g.kind g.init → FitsGlobal g
global_fits g h w =
    let few = h.holds in
    let e = same_count g.length in
    record { words = words_fit g.kind g.init w; few = omega (arith, few, e) }

globals_fit : (gs : List TypedGlobal) → Each GlobalFits gs → GlobalsHaveWords gs → All FitsGlobal gs
globals_fit [] h w i d l = absurd (omega (arith, l))
globals_fit (g ∷ gs) h w zero d l = global_fits g h.0 w.0
globals_fit (g ∷ gs) h w (suc i) d l = globals_fit gs h.1 w.1 i d (omega (arith, l))

-- a word of 8 bytes is not filled by 7 bytes at most
rounded_near : (n : ℕ) → rounded n ≤ n + 7
rounded_near n = omega arith

same_bytes : (g : TypedGlobal) → length_of g.length * bytes g.kind ≡ typed.global_bytes g
same_bytes g = ap (λ n. n * bytes g.kind) (same_count g.length)

bytes_near : (g : TypedGlobal) → global_bytes g ≤ typed.global_bytes g + 7
bytes_near g =
    subst (λ n. rounded n ≤ typed.global_bytes g + 7) (sym (same_bytes g))
    (rounded_near (typed.global_bytes g))

image_length : (gs : List TypedGlobal) → Each GlobalFits gs → GlobalsHaveWords gs
    → length (globals_image gs) ≤ all_bytes gs + 7 * length gs
image_length [] h w = omega arith
image_length (g ∷ gs) h w =
    let l = both_length (global_image g) (globals_image gs) in
    let a = global_length g (global_fits g h.0 w.0) in
    let b = bytes_near g in
    let rest = image_length gs h.1 w.1 in
    omega (arith, l, a, b, rest)

-- FUNCTIONS

words_of : (fs : List TypedFunc) (n : ℕ) (f : TypedFunc) → FunctionsHaveWords fs
    → slice_get fs n ≡ Some f → StmtHasWords f.body
words_of [] n f w h = absurd (cc h)
words_of (g ∷ fs) zero f w h =
    let e : g ≡ f = cc h in
    subst (λ (f : TypedFunc). StmtHasWords f.body) e w.0
words_of (g ∷ fs) (suc n) f w h = words_of fs n f w.1 h

-- a body has no more nodes than the program
body_nodes : (fs : List TypedFunc) (n : ℕ) (f : TypedFunc) → slice_get fs n ≡ Some f
    → 1 + stmt_nodes (stmt_of f.body) ≤ funcs_size (map func_of fs)
body_nodes [] n f h = absurd (cc h)
body_nodes (g ∷ fs) zero f h =
    let e : g ≡ f = cc h in
    let x : 1 + stmt_nodes (stmt_of g.body) ≤ funcs_size (map func_of (g ∷ fs)) = omega arith in
    subst (λ (f : TypedFunc). 1 + stmt_nodes (stmt_of f.body) ≤ funcs_size (map func_of (g ∷ fs))) e x
body_nodes (g ∷ fs) (suc n) f h = let x = body_nodes fs n f h in omega (arith, x)

function_fits : (P : TypedProgram) → Each GlobalFits P.globals → (f : TypedFunc) → FunctionFits P f
    → StmtHasWords f.body → stmt_nodes (stmt_of f.body) < 16777216 → FitsFunc (source_of P) (func_of f)
function_fits P globals f h w n =
    record {
      scalars = h.scalars;
      params = h.slots;
      body = stmt_fits P f globals 16777216 (omega arith) nowhere Nowhere (λ e. absurd (cc e)) f.body h.body w
          (few 16777216 (stmt_of f.body) n);
    }

module _ (P : TypedProgram) (h : WellFormed P) (w : ProgramHasWords P) where
  each_fits : HasFewNodes P → (n : ℕ) (g : Func) → slice_get (source_of P).functions n ≡ Some g
      → FitsFunc (source_of P) g
  each_fits nodes n g e =
      let x = typed_at P.functions n g e in
      subst (FitsFunc (source_of P)) x.is
      (function_fits P h.globals x.f (function_at P h n x.f x.found)
      (words_of P.functions n x.f w.functions x.found)
      (let m = body_nodes P.functions n x.f x.found in omega (arith, m, nodes)))

  main_fits : FitsMain (source_of P)
  main_fits =
      let m = h.main in
      record {
        main = func_of m.function;
        found = func_at P.functions P.main m.function m.is;
        result = m.result;
        params = m.params;
      }

  -- WHOLE PROGRAMS

  room : HasFewGlobals P → frames_at (globals_image P.globals) + frame_limit ≤ data_size
  room few =
      let l = image_length P.globals h.globals w.globals in
      let b = h.bytes in
      let near = rounded_near (length (globals_image P.globals)) in
      let e = limit in
      omega (arith, l, b, near, e, few)

  -- the source of a well formed program with few globals and nodes fits
  pub source_fits : HasFewGlobals P → HasFewNodes P → FitsSource (source_of P)
  source_fits few nodes =
      record {
        each = each_fits nodes;
        globals = globals_fit P.globals h.globals w.globals;
        main = main_fits;
        room = room few;
      }

-- THE LARGEST BODY

below_largest : (fs : List Func) (n : ℕ) (f : Func) → slice_get fs n ≡ Some f
    → sizes.size_of f.body ≤ largest fs
below_largest [] n f h = absurd (cc h)
below_largest (g ∷ fs) zero f h =
    let e : g ≡ f = cc h in
    let x : sizes.size_of g.body ≤ largest (g ∷ fs) = omega arith in
    subst (λ (f : Func). sizes.size_of f.body ≤ largest (g ∷ fs)) e x
below_largest (g ∷ fs) (suc n) f h =
    let x = below_largest fs n f h in
    omega (arith, x)

-- the greatest cost of a function's body, and a step for a call, is the most of the source
pub most_is : (P : Source) → IsMost P (most_of P)
unfolding most_of
most_is P n f h = let x = below_largest P.functions n f h in omega (arith, x)

-- MEANING

-- a well formed program with few globals and nodes keeps its meaning when it is lowered
pub meaning_kept : (P : TypedProgram) → WellFormed P → ProgramHasWords P → HasFewGlobals P → HasFewNodes P
    → (input : List ℕ) → IsInput input → (n : ℕ)
    → Keeps (most_of (source_of P)) (flat_run checked (lowered_program P) input) n (eval P input n)
meaning_kept P h w globals nodes =
    keeps_meaning P (most_of (source_of P)) (source_fits P h w globals nodes) (most_is (source_of P))
