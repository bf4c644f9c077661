-- The include keeps what holds at file scope.
use Rattle.std.proofs.Common.{◌≡◌, ℕ, Bool, true, false, cond, List, [], ◌∷◌}
use Rattle.std.proofs.Common.{Some, None, inr, refl, sym, ap, ◌∙◌}
use Rattle.c_tree.specs.declared.token.Kind.TheVariants.{Int}
use Rattle.c_tree.specs.declared.typed.Callee.TheVariants as callee
use Rattle.c_tree.specs.declared.typed.TypedFunc.{TypedFunc}
use Rattle.c_tree.specs.declared.typed.TypedGlobal.{TypedGlobal}
use Rattle.c_tree.specs.declared.typed.TypedProgram.{TypedProgram}
use Rattle.c_type_expr.specs.declared.meaning.Meaning.TheVariants as meaning
use Rattle.c_type_expr.specs.Scope.{Scope, Frame, look_up, declared_in, bound}
use Rattle.c_type.specs.States.{is_end}
use Rattle.c_type.specs.FileScopes.{eof_name, getchar_name, putchar_name, exit_name, int_slots, long_slots}
use Rattle.c_type.specs.FileScopes.{get_char, put_char}
use Rattle.c_type.specs.FileScopes.{exit_now, with_functions, with_include}
use Rattle.c_type.specs.Units.{include_clash, include_fault, included}
use Rattle.c_type_rules.proofs.Clashes.{Clear, clear, as_it_is}
use Rattle.c_type_rules.proofs.Frames.{Agrees, fresh_agrees, type_agrees}
use Rattle.c_type_rules.proofs.Files.{More, Met, AllMet, Names, reads, writes, exits, declare, still_ends, note}
use Rattle.c_type_rules.proofs.Steps.{program, Holds, Step, same_program}

module _ (T : Scope) (m : ℕ) where
  -- the include as it is noted
  abbrev noted_include : Scope → Scope
  noted_include N = with_functions N

  -- its functions are noted together
  note_all : (P : TypedProgram) (N : Scope) (F : Frame) → AllMet P (F ∷ []) → Names T P N F
      → Names T P (noted_include N) F
  note_all P N F met n =
      let N1 : Scope = declared_in (bound getchar_name get_char) N in
      let N2 : Scope = declared_in (bound putchar_name put_char) N1 in
      note T P N2 F (bound exit_name exit_now) callee.Exit refl met.2
      (note T P N1 F (bound putchar_name put_char) callee.PutChar refl met.1
      (note T P N F (bound getchar_name get_char) callee.GetChar refl met.0 n))

  -- the frame with its four names
  abbrev included_frame : Frame → Frame
  included_frame F =
      bound eof_name meaning.EndOfFile ∷ bound exit_name exit_now ∷ bound putchar_name put_char
      ∷ bound getchar_name get_char ∷ F

  -- an include that declares its four names
  include_names : (P : TypedProgram) (N : Scope) (F : Frame) (l : ℕ) → More P P → include_clash (F ∷ []) l ≡ None
      → Names T P N F
      → Names T P (noted_include N) (included_frame F)
  include_names P N F l more h n =
      let c : Clear (F ∷ []) l = clear (F ∷ []) l h in
      let get = bound getchar_name get_char in
      let put = bound putchar_name put_char in
      let end = bound exit_name exit_now in
      let eof = bound eof_name meaning.EndOfFile in
      let a1 : Agrees get (F ∷ []) =
      type_agrees getchar_name (Some Int) [] (Some callee.GetChar) true l (F ∷ [])
      (as_it_is (Some Int) [] getchar_name (F ∷ []) l c.get) in
      let n1 : Names T P N (get ∷ F) =
      declare T P P N F get more a1
      (record { callee = Some callee.GetChar; defined = true; is = refl }, inr reads, λ e. (callee.GetChar, refl))
      (still_ends T P P N F get more a1 refl n) n in
      let a2 : Agrees put ((get ∷ F) ∷ []) =
      type_agrees putchar_name (Some Int) int_slots (Some callee.PutChar) true l ((get ∷ F) ∷ [])
      (as_it_is (Some Int) int_slots putchar_name (F ∷ []) l c.put) in
      let n2 : Names T P N (put ∷ get ∷ F) =
      declare T P P N (get ∷ F) put more a2
      (record { callee = Some callee.PutChar; defined = true; is = refl }, inr writes, λ e. (callee.PutChar, refl))
      (still_ends T P P N (get ∷ F) put more a2 refl n1) n1 in
      let a3 : Agrees end ((put ∷ get ∷ F) ∷ []) =
      type_agrees exit_name None long_slots (Some callee.Exit) true l ((put ∷ get ∷ F) ∷ [])
      (as_it_is None long_slots exit_name (F ∷ []) l c.end) in
      let n3 : Names T P N (end ∷ put ∷ get ∷ F) =
      declare T P P N (put ∷ get ∷ F) end more a3
      (record { callee = Some callee.Exit; defined = true; is = refl }, inr exits, λ e. (callee.Exit, refl))
      (still_ends T P P N (put ∷ get ∷ F) end more a3 refl n2) n2 in
      let a4 : Agrees eof ((end ∷ put ∷ get ∷ F) ∷ []) =
      fresh_agrees eof_name meaning.EndOfFile l (end ∷ put ∷ get ∷ F) c.eof in
      let g : Met P (included_frame F ∷ []) getchar_name callee.GetChar = record {
        result = Some Int;
        params = [];
        function = record { callee = Some callee.GetChar; defined = true; is = refl };
        signature = refl;
        named = refl;
      } in
      let p : Met P (included_frame F ∷ []) putchar_name callee.PutChar = record {
        result = Some Int;
        params = int_slots;
        function = record { callee = Some callee.PutChar; defined = true; is = refl };
        signature = refl;
        named = refl;
      } in
      let x : Met P (included_frame F ∷ []) exit_name callee.Exit = record {
        result = None;
        params = long_slots;
        function = record { callee = Some callee.Exit; defined = true; is = refl };
        signature = refl;
        named = refl;
      } in
      note_all P N (included_frame F) (g, p, x)
      (declare T P P N (end ∷ put ∷ get ∷ F) eof more a4 tt (λ e. (g, p, x)) n3)

  -- an include that has no fault
  pub on_include : (l : ℕ) (N : Scope) (n : ℕ) (F : Frame) (gs : List TypedGlobal) (b : ℕ) (fs : List TypedFunc)
      → Holds T m N n F gs b fs → include_fault (F ∷ []) l ≡ None
      → Step T m (noted_include N) n F fs
      (record { names = included (F ∷ []); globals = gs; bytes = b; functions = fs })
  on_include l N n F gs b fs i h = by (is_end (look_up (F ∷ []) eof_name)) refl
    where
      by : (t : Bool) → is_end (look_up (F ∷ []) eof_name) ≡ t
          → Step T m (noted_include N) n F fs
          (record {
            names = cond (is_end (look_up (F ∷ []) eof_name)) (F ∷ []) (with_include (F ∷ []));
            globals = gs;
            bytes = b;
            functions = fs;
          })
      by true e =
          record {
            frame = F;
            globals = gs;
            bytes = b;
            functions = fs;
            after = ap (λ t. record {
              names = cond t (F ∷ []) (with_include (F ∷ []));
              globals = gs;
              bytes = b;
              functions = fs;
            }) e;
            holds = record {
              names = note_all (program T m gs fs) N F (i.names.ends e) i.names;
              count = i.count;
              globals = i.globals;
              bytes = i.bytes;
              room = i.room;
            };
            added = [];
            are = refl;
            fit = λ P known old. old;
          }
      by false e =
          let clash : include_clash (F ∷ []) l ≡ None =
          sym (ap (λ t. cond t None (include_clash (F ∷ []) l)) e) ∙ h in
          record {
            frame = included_frame F;
            globals = gs;
            bytes = b;
            functions = fs;
            after = ap (λ t. record {
              names = cond t (F ∷ []) (with_include (F ∷ []));
              globals = gs;
              bytes = b;
              functions = fs;
            }) e;
            holds = record {
              names = include_names (program T m gs fs) N F l (same_program T m gs fs) clash i.names;
              count = i.count;
              globals = i.globals;
              bytes = i.bytes;
              room = i.room;
            };
            added = included_frame [];
            are = refl;
            fit = λ P known old. old;
          }
