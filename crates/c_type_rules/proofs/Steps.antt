-- What holds at file scope, and what an item of a translation unit comes to.
use Rattle.std.proofs.Common.{◌≡◌, ℕ, ◌≤◌, cond, List, [], ◌∷◌, ◌++◌, length}
use Rattle.std.proofs.Common.{Some, refl, sym, ap, ◌∙◌, append-nil}
use Rattle.std.specs.Prelude.{slice_get}
use Rattle.std.specs.Cmp.Lexicographic.{bytes_decides}
use Rattle.c_tree.specs.declared.typed.TypedFunc.{TypedFunc}
use Rattle.c_tree.specs.declared.typed.TypedGlobal.{TypedGlobal}
use Rattle.c_tree.specs.declared.typed.TypedProgram.{TypedProgram}
use Rattle.c_type_expr.specs.declared.meaning.Meaning.{Meaning}
use Rattle.c_type_expr.specs.Scope.{Scope, Frame, look_up, declared_in, bound}
use Rattle.c_type.specs.declared.file_scope.FileScope.{FileScope}
use Rattle.c_type_rules.specs.inside.WellFormed.{Each, GlobalFits, FunctionFits, all_bytes}
use Rattle.c_type_rules.proofs.Moves.{Known}
use Rattle.c_type_rules.proofs.Frames.{declared_look}
use Rattle.c_type_rules.proofs.Files.{More, Names}

-- what stands last
pub at_last : {A : Type 0} (xs : List A) (x : A) → slice_get (xs ++ x ∷ []) (length xs) ≡ Some x
at_last [] x = refl
at_last (y ∷ xs) x = at_last xs x

-- a name has the meaning that it was given last
pub found : (w : List ℕ) (m : Meaning) (G : Scope) → look_up (declared_in (bound w m) G) w ≡ Some m
found w m G = declared_look (bound w m) G w ∙ ap (λ t. cond t (Some m) (look_up G w)) ((bytes_decides w w).1 refl)

module _ (T : Scope) (m : ℕ) where
  -- the program so far
  abbrev pub program : List TypedGlobal → List TypedFunc → TypedProgram
  program gs fs = record { globals = gs; functions = fs; main = m }

  -- the file scope of one block
  abbrev pub file : Frame → List TypedGlobal → ℕ → List TypedFunc → FileScope
  file F gs b fs = record { names = F ∷ []; globals = gs; bytes = b; functions = fs }

  -- what holds at file scope, where nothing has failed
  pub record Holds (N : Scope) (n : ℕ) (F : Frame) (gs : List TypedGlobal) (b : ℕ)
      (fs : List TypedFunc) : Type 0 where
    pub names : Names T (program gs fs) N F
    pub count : n ≡ length fs
    pub globals : Each GlobalFits gs
    pub bytes : all_bytes gs ≡ b
    pub room : b ≤ 1048576

  -- what an item comes to
  pub record Step (N : Scope) (n : ℕ) (F : Frame) (fs : List TypedFunc) (U : FileScope) : Type 0 where
    pub frame : Frame
    pub globals : List TypedGlobal
    pub bytes : ℕ
    pub functions : List TypedFunc
    pub after : U ≡ file frame globals bytes functions
    pub holds : Holds N n frame globals bytes functions
    pub added : Frame
    pub are : frame ≡ added ++ F
    pub fit : (P : TypedProgram) → ((f : TypedFunc) → Known P f (frame ∷ [])) → Each (FunctionFits P) fs
        → Each (FunctionFits P) functions

  -- a program is no more than itself
  pub same_program : (gs : List TypedGlobal) (fs : List TypedFunc) → More (program gs fs) (program gs fs)
  same_program gs fs = record { globals = []; functions = []; are = sym (append-nil gs); and = sym (append-nil fs) }

  -- an item that declares nothing
  pub nothing_new : (N : Scope) (n : ℕ) (F : Frame) (gs : List TypedGlobal) (b : ℕ) (fs : List TypedFunc)
      → Holds N n F gs b fs → Step N n F fs (file F gs b fs)
  nothing_new N n F gs b fs i = record {
    frame = F;
    globals = gs;
    bytes = b;
    functions = fs;
    after = refl;
    holds = i;
    added = [];
    are = refl;
    fit = λ P known old. old;
  }
