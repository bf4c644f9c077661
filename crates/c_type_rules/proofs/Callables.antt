-- Prototypes and definitions: each keeps what holds at file scope.
use Rattle.std.proofs.Common.{◌≡◌, ℕ, ◌+◌, Bool, true, false, cond, List, [], ◌∷◌, ◌++◌, map, length}
use Rattle.std.proofs.Common.{Option, Some, None, inl, refl, sym, ap, ◌∙◌, arith, append-nil, length-append}
use Rattle.std.specs.Prelude.{slice_get, option_map, is_some}
use Rattle.std.proofs.lemmas.Bool.{false≢true}
use Rattle.c_tree.specs.declared.token.Kind.{Kind}
use Rattle.c_tree.specs.declared.tree.Param.{Param}
use Rattle.c_tree.specs.declared.tree.Stmt.{Stmt}
use Rattle.c_tree.specs.declared.typed.Callee.{Callee}
use Rattle.c_tree.specs.declared.typed.Callee.TheVariants as callee
use Rattle.c_tree.specs.declared.typed.Slot.{Slot}
use Rattle.c_tree.specs.declared.typed.TypedFunc.{TypedFunc}
use Rattle.c_tree.specs.declared.typed.TypedGlobal.{TypedGlobal}
use Rattle.c_tree.specs.declared.typed.TypedProgram.{TypedProgram}
use Rattle.c_type_expr.specs.declared.meaning.Binding.{Binding}
use Rattle.c_type_expr.specs.declared.meaning.Meaning.TheVariants as meaning
use Rattle.c_type_expr.specs.Scope.{Scope, Frame, look_up, declared_in, bound}
use Rattle.c_type.specs.Units.{type_fault}
use Rattle.c_type.specs.Functions.{callee_in, with_definition}
use Rattle.c_type.specs.inside.Functions.{signature, with_function, definition_fault}
use Rattle.c_type.specs.States.{slot_of}
use Rattle.c_type.specs.Programs.{with_prototype_at}
use Rattle.c_type.specs.inside.Programs.{prototype_fault}
use Rattle.c_type_rules.specs.inside.Objects as object
use Rattle.c_type_rules.specs.inside.WellFormed.{FunctionFits}
use Rattle.c_type_rules.proofs.Moves.{split}
use Rattle.c_type_rules.proofs.Lists.{each_last}
use Rattle.c_type_rules.proofs.WellFormedFunctions.{the, file_stays, its_signature, its_fitness}
use Rattle.c_type_rules.proofs.Frames.{Agrees, type_agrees}
use Rattle.c_type_rules.proofs.Files.{More, Met, Names, Bound, declare, still_ends, note}
use Rattle.c_type_rules.proofs.Steps.{at_last, found, program, file, Holds, Step, same_program, nothing_new}

-- a function more
counted : (n : ℕ) (fs : List TypedFunc) (f : TypedFunc) → n ≡ length fs → n + 1 ≡ length (fs ++ f ∷ [])
counted n fs f h = omega (arith, h, length-append fs (f ∷ []))

module _ (T : Scope) (m : ℕ) where
  -- what N has of a name is there in T
  abbrev pub Has : Scope → List ℕ → Type 0
  Has N w = (c : Callee) × (callee_in (look_up N w) ≡ Some c)

  -- a function that is declared calls what the unit defines by the name
  declared_bound : (w : List ℕ) (given : Option Kind) (slots : List Slot) (d : Bool) (F : Frame) (P : TypedProgram)
      → (d ≡ true → Has T w)
      → Bound T P (declared_in (bound w (signature T w given slots d)) (F ∷ [])) w (signature T w given slots d)
  declared_bound w given slots d F P h = (
    record { callee = callee_in (look_up T w); defined = d; is = found w (signature T w given slots d) (F ∷ []) },
    inl refl,
    h,
  )

  -- a prototype of a new name
  prototype_new : (given : Option Kind) (w : List ℕ) (slots : List Slot) (l : ℕ) (N : Scope) (n : ℕ) (F : Frame)
      (gs : List TypedGlobal) (b : ℕ) (fs : List TypedFunc)
      → Holds T m N n F gs b fs → type_fault given slots (look_up (F ∷ []) w) l ≡ None
      → Step T m N n F fs (record {
        names = with_function T w given slots false (F ∷ []);
        globals = gs;
        bytes = b;
        functions = fs;
      })
  prototype_new given w slots l N n F gs b fs i h =
      let x = bound w (signature T w given slots false) in
      let P = program T m gs fs in
      let more = same_program T m gs fs in
      let agrees : Agrees x (F ∷ []) = type_agrees w given slots (callee_in (look_up T w)) false l (F ∷ []) h in
      record {
        frame = x ∷ F;
        globals = gs;
        bytes = b;
        functions = fs;
        after = refl;
        holds = record {
          names = declare T P P N F x more agrees
              (declared_bound w given slots false F P (λ e. absurd (false≢true e)))
              (still_ends T P P N F x more agrees refl i.names) i.names;
          count = i.count;
          globals = i.globals;
          bytes = i.bytes;
          room = i.room;
        };
        added = x ∷ [];
        are = refl;
        fit = λ P known old. old;
      }

  -- a prototype that has no fault
  pub on_prototype : (given : Option Kind) (w : List ℕ) (params : List Param) (l : ℕ) (N : Scope) (n : ℕ) (F : Frame)
      (gs : List TypedGlobal) (b : ℕ) (fs : List TypedFunc)
      → Holds T m N n F gs b fs → prototype_fault given w params l (file T m F gs b fs) ≡ None
      → Step T m N n F fs (with_prototype_at T given w params (file T m F gs b fs))
  on_prototype given w params l N n F gs b fs i h = by (is_some (look_up (F ∷ []) w))
    where
      by : (t : Bool) → Step T m N n F fs
          (record {
            names = cond t (F ∷ []) (with_function T w given (map slot_of params) false (F ∷ []));
            globals = gs;
            bytes = b;
            functions = fs;
          })
      by true = nothing_new T m N n F gs b fs i
      by false = prototype_new given w (map slot_of params) l N n F gs b fs i (split _ _ (split _ _ h).1).1

  -- the definition as it is noted
  abbrev pub noted_as : List ℕ → ℕ → Binding
  noted_as w n = bound w (meaning.Function None [] (Some (callee.Func n)) true)

  -- a definition that has no fault
  pub on_definition : (given : Option Kind) (w : List ℕ) (params : List Param) (body : Stmt) (l : ℕ)
      (N : Scope) (n : ℕ)
      (F : Frame) (gs : List TypedGlobal) (b : ℕ) (fs : List TypedFunc)
      → Holds T m N n F gs b fs → ((v : List ℕ) → Has (declared_in (noted_as w n) N) v → Has T v)
      → definition_fault T given w params body l (file T m F gs b fs) ≡ None
      → Step T m (declared_in (noted_as w n) N) (n + 1) F fs
      (with_definition T given w params body (file T m F gs b fs))
  on_definition given w params body l N n F gs b fs i later h =
      let s = split _ _ h in
      let q = split _ _ s.0 in
      let slots = map slot_of params in
      let x = bound w (signature T w given slots true) in
      let G = with_function T w given slots true (F ∷ []) in
      let P = program T m gs fs in
      let f = the P (F ∷ []) G given params body q.0 in
      let P' = program T m gs (fs ++ f ∷ []) in
      let more : More P P' = record { globals = []; functions = f ∷ []; are = sym (append-nil gs); and = refl } in
      let agrees : Agrees x (F ∷ []) =
      type_agrees w given slots (callee_in (look_up T w)) true l (F ∷ []) (split _ _ q.1).1 in
      let has : Has T w = later w (callee.Func n, ap callee_in (found w (noted_as w n).meaning N)) in
      let names : Names T P' N (x ∷ F) =
      declare T P P' N F x more agrees (declared_bound w given slots true F P' (λ e. has))
      (still_ends T P P' N F x more agrees refl i.names) i.names in
      let met : Met P' ((x ∷ F) ∷ []) w (callee.Func n) = record {
        result = given;
        params = slots;
        function = record {
          callee = callee_in (look_up T w);
          defined = true;
          is = found w (signature T w given slots true) (F ∷ []);
        };
        signature = ap (λ n. option_map object.of_function (slice_get (fs ++ f ∷ []) n)) i.count
            ∙ ap (option_map object.of_function) (at_last fs f)
            ∙ ap Some (its_signature P (F ∷ []) G given params body q.0);
        named = tt;
      } in
      record {
        frame = x ∷ F;
        globals = gs;
        bytes = b;
        functions = fs ++ f ∷ [];
        after = ap (λ G. record { names = G; globals = gs; bytes = b; functions = fs ++ f ∷ [] })
            (file_stays P (F ∷ []) G given params body q.0 (x ∷ F) refl);
        holds = record {
          names = note T P' N (x ∷ F) (noted_as w n) (callee.Func n) refl met names;
          count = counted n fs f i.count;
          globals = i.globals;
          bytes = i.bytes;
          room = i.room;
        };
        added = x ∷ [];
        are = refl;
        fit = λ R known old. each_last (FunctionFits R) fs f old
            (its_fitness R (F ∷ []) G given params body q.0 (known f) s.1);
      }
