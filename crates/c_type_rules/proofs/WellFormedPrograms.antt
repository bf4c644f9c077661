-- The typed program of a translation unit without a fault is well formed.
use Rattle.std.proofs.Common.{◌≡◌, ℕ, suc, ◌≤◌, Bool, true, false, cond, List, [], ◌∷◌, ◌++◌, length, take, Option}
use Rattle.std.proofs.Common.{Some, None, ⊎_elim, refl, sym, ap, ◌∙◌, subst, arith, append_assoc, zero}
use Rattle.std.specs.Prelude.{slice_get, option_map}
use Rattle.std.specs.Cmp.Lexicographic.{bytes_decides}
use Rattle.std.proofs.lemmas.Bool.{false≢true}
use Rattle.c_tree.specs.declared.token.Kind.{Kind}
use Rattle.c_tree.specs.declared.token.Kind.TheVariants.{Int}
use Rattle.c_tree.specs.declared.tree.Program.{Program}
use Rattle.c_tree.specs.declared.tree.Top.{Top}
use Rattle.c_tree.specs.declared.tree.TopNode.{TopNode}
use Rattle.c_tree.specs.declared.tree.TopNode.TheVariants.{Include, Global, Func}
use Rattle.c_tree.specs.declared.typed.Callee.{Callee}
use Rattle.c_tree.specs.declared.typed.Callee.TheVariants as callee
use Rattle.c_tree.specs.declared.typed.Slot.{Slot}
use Rattle.c_tree.specs.declared.typed.TypedFunc.{TypedFunc}
use Rattle.c_tree.specs.declared.typed.TypedGlobal.{TypedGlobal}
use Rattle.c_tree.specs.declared.typed.TypedProgram.{TypedProgram}
use Rattle.c_type_expr.specs.declared.meaning.Binding.{Binding}
use Rattle.c_type_expr.specs.declared.meaning.Meaning.{Meaning}
use Rattle.c_type_expr.specs.declared.meaning.Meaning.TheVariants as meaning
use Rattle.c_type_expr.specs.Scope.{Scope, Frame, same_name, look_up, declared_in}
use Rattle.c_type.specs.declared.file_scope.FileScope.{FileScope}
use Rattle.c_type.specs.FileScopes.{getchar_name, putchar_name, exit_name, count_after, main_name, number_in}
use Rattle.c_type.specs.Functions.{callee_in}
use Rattle.c_type.specs.Programs.{noted, definitions, table, node_after, items_after, is_int}
use Rattle.c_type.specs.inside.Programs.{node_fault, items_fault}
use Rattle.c_type.specs.Programs.{no_slots, is_main}
use Rattle.c_type.specs.inside.Programs.{program_fault, program_tree}
use Rattle.c_type_rules.specs.inside.Objects.{Signature, signature, of_function, signature_of}
use Rattle.c_type_rules.specs.inside.WellFormed.{Each, FunctionFits, IsMain, WellFormed}
use Rattle.c_constant.proofs.SameKinds.{kinds_are}
use Rattle.c_type_rules.proofs.Moves.{split, held, some_is, KnownFrame}
use Rattle.c_type_rules.proofs.Values.{both}
use Rattle.c_type_rules.proofs.Frames.{declared_look, one_block}
use Rattle.c_type_rules.proofs.Files.{BuiltIn, reads, writes, exits, NamedBy, Names, Bound, calls, all_known}
use Rattle.c_type_rules.proofs.Files.{find_bound}
use Rattle.c_type_rules.proofs.Steps.{program, file, Holds, Step, nothing_new}
use Rattle.c_type_rules.proofs.Globals.{on_global}
use Rattle.c_type_rules.proofs.Callables.{Has, on_prototype, on_definition}
use Rattle.c_type_rules.proofs.Includes.{on_include}

-- LISTS

-- what is known of all bindings is known of the older ones
known_rest : (P : TypedProgram) (f : TypedFunc) (added F : Frame) → KnownFrame P f (added ++ F) → KnownFrame P f F
known_rest P f [] F k = k
known_rest P f (b ∷ added) F k = known_rest P f added F k.1

-- what holds of each holds of one
pub each_at : {A : Type 0} (Q : A → Type 0) (xs : List A) (n : ℕ) (x : A) → Each Q xs → slice_get xs n ≡ Some x → Q x
each_at Q [] n x e h = absurd (cc)
each_at Q (y ∷ xs) zero x e h = subst Q (some_is _ _ h) e.0
each_at Q (y ∷ xs) (suc n) x e h = each_at Q xs n x e.1 h

-- of enough, none are taken where none is taken
none_taken : (n : ℕ) (xs : List Slot) → n ≤ length xs → take n xs ≡ [] → n ≡ 0
none_taken zero xs l e = refl
none_taken (suc n) [] l e = absurd (omega (arith, l))
none_taken (suc n) (x ∷ xs) l e = absurd (cc)

module _ (T : Scope) (m : ℕ) where
  -- DEFINITIONS NOTED

  -- what is noted stays noted where a name is added
  declared_keeps : (x : Binding) (c : Callee) (N : Scope) (w : List ℕ) → callee_in (Some x.meaning) ≡ Some c
      → Has T m N w → Has T m (declared_in x N) w
  declared_keeps x c N w e h = by (same_name x.name w) refl
    where
      by : (t : Bool) → same_name x.name w ≡ t → Has T m (declared_in x N) w
      by true s = (
        c,
        ap callee_in (declared_look x N w) ∙ ap (λ t. callee_in (cond t (Some x.meaning) (look_up N w))) s
            ∙ e,
      )
      by false s = (
        h.0,
        ap callee_in (declared_look x N w)
            ∙ ap (λ t. callee_in (cond t (Some x.meaning) (look_up N w))) s ∙ h.1,
      )

  -- the same where an item is noted
  noted_keeps : (t : TopNode) (n : ℕ) (N : Scope) (w : List ℕ) → Has T m N w → Has T m (noted t n N) w
  noted_keeps Include n N w h =
      declared_keeps _ callee.Exit _ w refl
      (declared_keeps _ callee.PutChar _ w refl (declared_keeps _ callee.GetChar N w refl h))
  noted_keeps (Global k v size init) n N w h = h
  noted_keeps (Func given v params None) n N w h = h
  noted_keeps (Func given v params (Some body)) n N w h = declared_keeps _ (callee.Func n) N w refl h

  -- the same where all items are
  definitions_keep : (ts : List Top) (n : ℕ) (N : Scope) (w : List ℕ) → Has T m N w → Has T m (definitions ts n N) w
  definitions_keep [] n N w h = h
  definitions_keep (t ∷ ts) n N w h =
      definitions_keep ts (count_after t.node n) (noted t.node n N) w (noted_keeps t.node n N w h)

  -- ITEMS

  -- an item that has no fault
  one_item : (t : TopNode) (l : ℕ) (N : Scope) (n : ℕ) (F : Frame) (gs : List TypedGlobal) (b : ℕ)
      (fs : List TypedFunc)
      → Holds T m N n F gs b fs
      → ((w : List ℕ) → Has T m (noted t n N) w → Has T m T w) → node_fault T t l (file T m F gs b fs) ≡ None
      → Step T m (noted t n N) (count_after t n) F fs (node_after T t (file T m F gs b fs))
  one_item Include l N n F gs b fs i later h = on_include T m l N n F gs b fs i h
  one_item (Global k w size init) l N n F gs b fs i later h = on_global T m k w size init l N n F gs b fs i h
  one_item (Func given w params None) l N n F gs b fs i later h = on_prototype T m given w params l N n F gs b fs i h
  one_item (Func given w params (Some body)) l N n F gs b fs i later h =
      on_definition T m given w params body l N n F gs b fs i later h

  -- what all items come to
  record Finish (F : Frame) (fs : List TypedFunc) (U : FileScope) : Type 0 where
    count : ℕ
    step : Step T m T count F fs U

  -- what follows an item follows the file scope that it comes to
  joined : (ts : List Top) {U V W : FileScope} → U ≡ V → items_after T ts V ≡ W → items_after T ts U ≡ W
  joined ts e h = ap (items_after T ts) e ∙ h

  -- items without a fault, one after another
  run : (ts : List Top) (N : Scope) (n : ℕ) (F : Frame) (gs : List TypedGlobal) (b : ℕ) (fs : List TypedFunc)
      → Holds T m N n F gs b fs
      → definitions ts n N ≡ T → items_fault T ts (file T m F gs b fs) ≡ None
      → Finish F fs (items_after T ts (file T m F gs b fs))
  run [] N n F gs b fs i e h =
      record { count = n; step = nothing_new T m T n F gs b fs (subst (λ N. Holds T m N n F gs b fs) e i) }
  run (t ∷ ts) N n F gs b fs i e h =
      let s = split _ _ h in
      let later : (w : List ℕ) → Has T m (noted t.node n N) w → Has T m T w =
      λ w x. subst (λ M. Has T m M w) e (definitions_keep ts (count_after t.node n) (noted t.node n N) w x) in
      let o = one_item t.node t.offset N n F gs b fs i later s.0 in
      let r = run ts (noted t.node n N) (count_after t.node n) o.frame o.globals o.bytes o.functions o.holds e
      (ap (items_fault T ts) (sym o.after) ∙ s.1) in
      let q = r.step in
      record {
        count = r.count;
        step = record {
          frame = q.frame;
          globals = q.globals;
          bytes = q.bytes;
          functions = q.functions;
          after = joined ts {W = file T m q.frame q.globals q.bytes q.functions} o.after q.after;
          holds = q.holds;
          added = q.added ++ o.added;
          are = q.are ∙ ap (λ F. q.added ++ F) o.are ∙ sym (append_assoc q.added o.added F);
          fit = λ P known old.
              q.fit P known (o.fit P (λ f. (
                known_rest P f q.added o.frame (subst (KnownFrame P f) q.are (known f).0),
                tt,
              )) old);
        };
      }

  -- MAIN

  -- a function of type int(void) is main
  main_at : (P : TypedProgram) (r : Option Kind) (s : List Slot) (o : Option TypedFunc) → slice_get P.functions P.main
      ≡ o → option_map of_function o ≡ Some (signature r s)
      → r ≡ Some Int → s ≡ [] → Each (FunctionFits P) P.functions → IsMain P
  main_at P r s None e h ri se fit = absurd (cc)
  main_at P r s (Some g) e h ri se fit =
      let is : of_function g ≡ signature r s = some_is _ _ h in
      record {
        function = g;
        is = e;
        result = ap (λ (x : Signature). x.result) is ∙ ri;
        params = none_taken g.params g.scalars (each_at (FunctionFits P) P.functions P.main g fit e).slots
            (ap (λ (x : Signature). x.params) is ∙ se);
      }

  -- another name is not that of main
  not_main : (w : List ℕ) → same_name w main_name ≡ false → w ≡ main_name → ⊥
  not_main w h e = false≢true (sym h ∙ (bytes_decides w main_name).1 e)

  -- no function of `<stdio.h>` is main
  not_built_in : (w : List ℕ) (r : Option Kind) (s : List Slot) (c : Option Callee) → BuiltIn w r s c → w ≡ main_name
      → ⊥
  not_built_in _ _ _ _ reads e = not_main getchar_name refl e
  not_built_in _ _ _ _ writes e = not_main putchar_name refl e
  not_built_in _ _ _ _ exits e = not_main exit_name refl e

  -- the result is int
  int_is : (r : Option Kind) → is_int r ≡ true → r ≡ Some Int
  int_is None h = absurd (false≢true h)
  int_is (Some k) h = ap Some (kinds_are k Int h)

  -- there are no parameters
  slots_are : (s : List Slot) → no_slots s ≡ true → s ≡ []
  slots_are [] h = refl
  slots_are (x ∷ s) h = absurd (false≢true h)

  -- what main's name calls is main
  called : (F : Frame) (gs : List TypedGlobal) (fs : List TypedFunc) (r : Option Kind) (s : List Slot)
      (x : Callee) → m
      ≡ number_in (Some x) → NamedBy x main_name
      → signature_of (program T m gs fs) x ≡ Some (signature r s) → r ≡ Some Int → s ≡ []
      → Each (FunctionFits (program T m gs fs)) fs → IsMain (program T m gs fs)
  called F gs fs r s (callee.Func n) e nm h ri se fit =
      main_at (program T m gs fs) r s (slice_get fs m) refl
      (ap (λ n. option_map of_function (slice_get fs n)) e ∙ h) ri se fit
  called F gs fs r s callee.GetChar e nm h ri se fit = absurd (not_main getchar_name refl nm)
  called F gs fs r s callee.PutChar e nm h ri se fit = absurd (not_main putchar_name refl nm)
  called F gs fs r s callee.Exit e nm h ri se fit = absurd (not_main exit_name refl nm)

  -- the function that is found by the name of main
  main_fits : (F : Frame) (gs : List TypedGlobal) (fs : List TypedFunc) → Names T (program T m gs fs) T F
      → Each (FunctionFits (program T m gs fs)) fs
      → (o : Option Meaning) → look_up (F ∷ []) main_name ≡ o → is_main o ≡ true → m ≡ number_in (callee_in o)
      → IsMain (program T m gs fs)
  main_fits F gs fs n fit None e h q = absurd (false≢true h)
  main_fits F gs fs n fit (Some (meaning.Scalar k p)) e h q = absurd (false≢true h)
  main_fits F gs fs n fit (Some (meaning.Array k o p)) e h q = absurd (false≢true h)
  main_fits F gs fs n fit (Some meaning.EndOfFile) e h q = absurd (false≢true h)
  main_fits F gs fs n fit (Some (meaning.Function r s c d)) e h q =
      let P = program T m gs fs in
      let t = both _ _ h in
      let u = both _ _ t.0 in
      let b = find_bound T P (F ∷ []) F main_name (meaning.Function r s c d) n.bound
      (sym (one_block F main_name) ∙ e) in
      let x = b.2 t.1 in
      let named : NamedBy x.0 main_name =
      ⊎_elim (λ k. (n.met main_name x.0 (sym k ∙ x.1)).named)
      (λ k. absurd (not_built_in main_name r s c k refl)) b.1 in
      let there = calls T P F n main_name r s x.0 d
      (subst (λ c. Bound T P (F ∷ []) main_name (meaning.Function r s c d)) x.1 b) in
      called F gs fs r s x.0 (q ∙ ap number_in x.1) named there (int_is r u.0) (slots_are s u.1) fit

  -- at the start nothing is declared
  start : Holds T m ([] ∷ []) 0 [] [] 0 []
  start = record {
    names = record { bound = tt; met = λ w c h. absurd (cc); ends = λ h. absurd (false≢true h) };
    count = refl;
    globals = tt;
    bytes = refl;
    room = omega arith;
  }

-- the typed program of a unit without a fault is well formed
pub well_formed : (p : Program) → program_fault p ≡ None → WellFormed (program_tree p)
well_formed p h =
    let s = split _ _ h in
    let T = table p.items in
    let m = (program_tree p).main in
    let q = (run T m p.items ([] ∷ []) 0 [] [] 0 [] (start T m) refl s.0).step in
    let P = program T m q.globals q.functions in
    let tree : program_tree p
    ≡ P = ap (λ (U : FileScope). record { globals = U.globals; functions = U.functions; main = m }) q.after in
    let fit : Each (FunctionFits P) q.functions = q.fit P (λ f. all_known T P q.frame q.holds.names f) tt in
    let main : is_main (look_up (q.frame ∷ []) main_name)
    ≡ true = ap (λ (U : FileScope). is_main (look_up U.names main_name)) (sym q.after) ∙ held _ _ s.1 in
    let number : m ≡ number_in (callee_in (look_up (q.frame ∷ []) main_name)) =
    ap (λ (U : FileScope). number_in (callee_in (look_up U.names main_name))) q.after in
    let good : WellFormed P = record {
      globals = q.holds.globals;
      bytes = subst (λ n. n ≤ 1048576) (sym q.holds.bytes) q.holds.room;
      functions = fit;
      main = main_fits T m q.frame q.globals q.functions q.holds.names fit
          (look_up (q.frame ∷ []) main_name) refl main number;
    } in
    subst WellFormed (sym tree) good
