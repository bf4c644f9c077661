-- What holds of the names at file scope: objects and functions that the program has.
use Rattle.std.proofs.Common.{◌≡◌, ℕ, zero, suc, Bool, true, false, cond, List, [], ◌∷◌, ◌++◌, Option, Some}
use Rattle.std.proofs.Common.{None, ◌⊎◌}
use Rattle.std.proofs.Common.{refl, sym, ap, ◌∙◌, subst, ⊎_elim}
use Rattle.std.specs.Prelude.{slice_get, option_map}
use Rattle.std.specs.Cmp.Lexicographic.{bytes_decides}
use Rattle.std.proofs.lemmas.Bool.{false≢true}
use Rattle.c_tree.specs.declared.token.Kind.{Kind}
use Rattle.c_tree.specs.declared.token.Kind.TheVariants.{Int}
use Rattle.c_tree.specs.declared.typed.Callee.{Callee}
use Rattle.c_tree.specs.declared.typed.Callee.TheVariants as callee
use Rattle.c_tree.specs.declared.typed.Place.{Place}
use Rattle.c_tree.specs.declared.typed.Place.TheVariants as place
use Rattle.c_tree.specs.declared.typed.Slot.{Slot}
use Rattle.c_tree.specs.declared.typed.TypedFunc.{TypedFunc}
use Rattle.c_tree.specs.declared.typed.TypedGlobal.{TypedGlobal}
use Rattle.c_tree.specs.declared.typed.TypedProgram.{TypedProgram}
use Rattle.c_type_expr.specs.declared.meaning.Binding.{Binding}
use Rattle.c_type_expr.specs.declared.meaning.Meaning.{Meaning}
use Rattle.c_type_expr.specs.declared.meaning.Meaning.TheVariants as meaning
use Rattle.c_type_expr.specs.Scope.{Scope, Frame, same_name, find, look_up, declared_in}
use Rattle.c_type.specs.States.{is_end}
use Rattle.c_type.specs.FileScopes.{eof_name, getchar_name, putchar_name, exit_name, int_slots, long_slots}
use Rattle.c_type.specs.Functions.{callee_in}
use Rattle.c_type_rules.specs.inside.Objects.{scalar_at, array_at, Shape, shape, global_scalar, global_array}
use Rattle.c_type_rules.specs.inside.Objects.{signature}
use Rattle.c_type_rules.specs.inside.Objects.{signature_of}
use Rattle.c_type_rules.specs.inside.Objects.{of_function}
use Rattle.c_type_rules.proofs.Values.{Exists}
use Rattle.c_type_rules.proofs.Moves.{Known, KnownFrame, some_is}
use Rattle.c_type_rules.proofs.Frames.{IsFunction, Agrees, stays, declared_look, one_result, one_params}

-- LONGER LISTS

-- what is told of an element is told of it in a longer list
kept : {A B : Type 0} (h : Option A → Option B) → h None ≡ None → (xs ys : List A) (n : ℕ) (y : B)
    → h (slice_get xs n) ≡ Some y
    → h (slice_get (xs ++ ys) n) ≡ Some y
kept h z [] ys n y e = absurd (cc)
kept h z (x ∷ xs) ys zero y e = e
kept h z (x ∷ xs) ys (suc n) y e = kept h z xs ys n y e

-- the program has these globals and functions, and more
pub record More (P P' : TypedProgram) : Type 0 where
  pub globals : List TypedGlobal
  pub functions : List TypedFunc
  pub are : P'.globals ≡ P.globals ++ globals
  pub and : P'.functions ≡ P.functions ++ functions

module _ (P P' : TypedProgram) (more : More P P') where
  -- a scalar stays one
  scalar_more : (f : TypedFunc) (p : Place) (k : Kind) → scalar_at P f p ≡ Some k → scalar_at P' f p ≡ Some k
  scalar_more f (place.Global n) k e =
      ap (λ gs. global_scalar (slice_get gs n)) more.are ∙ kept global_scalar refl P.globals more.globals n k e
  scalar_more f (place.Scalar n) k e = e
  scalar_more f (place.Array n) k e = e

  -- an array stays one
  array_more : (f : TypedFunc) (p : Place) (s : Shape) → array_at P f p ≡ Some s → array_at P' f p ≡ Some s
  array_more f (place.Global n) s e =
      ap (λ gs. global_array (slice_get gs n)) more.are ∙ kept global_array refl P.globals more.globals n s e
  array_more f (place.Scalar n) s e = e
  array_more f (place.Array n) s e = e

  -- a function keeps its signature
  signature_more : (c : Callee) (r : Option Kind) (s : List Slot) → signature_of P c ≡ Some (signature r s)
      → signature_of P' c ≡ Some (signature r s)
  signature_more (callee.Func n) r s e =
      ap (λ fs. option_map of_function (slice_get fs n)) more.and
      ∙ kept (option_map of_function) refl P.functions more.functions n (signature r s) e
  signature_more callee.GetChar r s e = e
  signature_more callee.PutChar r s e = e
  signature_more callee.Exit r s e = e

-- CALLEES

-- the functions of `<stdio.h>` have their names
abbrev pub NamedBy : Callee → List ℕ → Type 0
NamedBy (callee.Func n) w = Unit {0}
NamedBy callee.GetChar w = getchar_name ≡ w
NamedBy callee.PutChar w = putchar_name ≡ w
NamedBy callee.Exit w = exit_name ≡ w

-- the functions that stand without a definition: `getchar`, `putchar` and what ends the run
pub data BuiltIn : List ℕ → Option Kind → List Slot → Option Callee → Type 0 where
  reads : BuiltIn getchar_name (Some Int) [] (Some callee.GetChar)
  writes : BuiltIn putchar_name (Some Int) int_slots (Some callee.PutChar)
  exits : BuiltIn exit_name None long_slots (Some callee.Exit)

-- the function that the unit defines by a name is declared, with the signature that it has
pub record Met (P : TypedProgram) (G : Scope) (w : List ℕ) (c : Callee) : Type 0 where
  pub result : Option Kind
  pub params : List Slot
  pub function : IsFunction G w result params
  pub signature : signature_of P c ≡ Some (signature result params)
  pub named : NamedBy c w

-- what is met stays met
pub met_more : (P P' : TypedProgram) (G G' : Scope) → More P P'
    → ((w : List ℕ) (r : Option Kind) (s : List Slot) → IsFunction G w r s → IsFunction G' w r s)
    → (w : List ℕ) (c : Callee) → Met P G w c → Met P' G' w c
met_more P P' G G' more go w c m = record {
  result = m.result;
  params = m.params;
  function = go w m.result m.params m.function;
  signature = signature_more P P' more c m.result m.params m.signature;
  named = m.named;
}

-- the functions of the include are declared
abbrev pub AllMet : TypedProgram → Scope → Type 0
AllMet P G =
    Met P G getchar_name callee.GetChar × Met P G putchar_name callee.PutChar × Met P G exit_name callee.Exit

-- and they stay so
all_met_more : (P P' : TypedProgram) (G G' : Scope) → More P P'
    → ((w : List ℕ) (r : Option Kind) (s : List Slot) → IsFunction G w r s → IsFunction G' w r s)
    → AllMet P G → AllMet P' G'
all_met_more P P' G G' more go m = (
  met_more P P' G G' more go getchar_name callee.GetChar m.0,
  met_more P P' G G' more go putchar_name callee.PutChar m.1,
  met_more P P' G G' more go exit_name callee.Exit m.2,
)

module _ (T : Scope) where
  -- what a call of the name calls: what T has of the name, or a function of `<stdio.h>`
  abbrev pub Calls : List ℕ → Option Kind → List Slot → Option Callee → Type 0
  Calls w r s c = (c ≡ callee_in (look_up T w)) ⊎ BuiltIn w r s c

  -- what a name at file scope means is there, or is declared as it is here
  abbrev pub Bound : TypedProgram → Scope → List ℕ → Meaning → Type 0
  Bound P G w (meaning.Scalar k p) = (f : TypedFunc) → scalar_at P f p ≡ Some k
  Bound P G w (meaning.Array k q p) = (f : TypedFunc) → array_at P f p ≡ Some (shape k q)
  Bound P G w (meaning.Function r s c d) = IsFunction G w r s × Calls w r s c
      × (d ≡ true → (x : Callee) × (c ≡ Some x))
  Bound P G w meaning.EndOfFile = Unit {0}

  -- the same of all bindings
  abbrev pub EachBound : TypedProgram → Scope → Frame → Type 0
  EachBound P G [] = Unit {0}
  EachBound P G (b ∷ F) = Bound P G b.name b.meaning × EachBound P G F

  -- the names at file scope, of which N has the functions that are defined so far
  pub record Names (P : TypedProgram) (N : Scope) (F : Frame) : Type 0 where
    pub bound : EachBound P (F ∷ []) F
    pub met : (w : List ℕ) (c : Callee) → callee_in (look_up N w) ≡ Some c → Met P (F ∷ []) w c
    pub ends : is_end (look_up (F ∷ []) eof_name) ≡ true → AllMet P (F ∷ [])

  -- what is bound stays bound
  bound_more : (P P' : TypedProgram) (G G' : Scope) → More P P'
      → ((w : List ℕ) (r : Option Kind) (s : List Slot) → IsFunction G w r s → IsFunction G' w r s)
      → (w : List ℕ) (m : Meaning) → Bound P G w m → Bound P' G' w m
  bound_more P P' G G' more go w (meaning.Scalar k p) b = λ f. scalar_more P P' more f p k (b f)
  bound_more P P' G G' more go w (meaning.Array k q p) b = λ f. array_more P P' more f p (shape k q) (b f)
  bound_more P P' G G' more go w (meaning.Function r s c d) b = (go w r s b.0, b.1, b.2)
  bound_more P P' G G' more go w meaning.EndOfFile b = tt

  -- the same of all bindings
  each_more : (P P' : TypedProgram) (G G' : Scope) → More P P'
      → ((w : List ℕ) (r : Option Kind) (s : List Slot) → IsFunction G w r s → IsFunction G' w r s)
      → (F : Frame) → EachBound P G F → EachBound P' G' F
  each_more P P' G G' more go [] b = tt
  each_more P P' G G' more go (x ∷ F) b =
      (bound_more P P' G G' more go x.name x.meaning b.0, each_more P P' G G' more go F b.1)

  -- where `EOF` is declared, the functions of `<stdio.h>` are
  abbrev pub Ends : TypedProgram → Frame → Type 0
  Ends P F = is_end (look_up (F ∷ []) eof_name) ≡ true → AllMet P (F ∷ [])

  -- a name is declared
  pub declare : (P P' : TypedProgram) (N : Scope) (F : Frame) (x : Binding) → More P P' → Agrees x (F ∷ [])
      → Bound P' ((x ∷ F) ∷ []) x.name x.meaning
      → Ends P' (x ∷ F) → Names P N F → Names P' N (x ∷ F)
  declare P P' N F x more agrees b e n =
      let go = stays x (F ∷ []) agrees in
      record {
        bound = (b, each_more P P' (F ∷ []) ((x ∷ F) ∷ []) more go F n.bound);
        met = λ w c h. met_more P P' (F ∷ []) ((x ∷ F) ∷ []) more go w c (n.met w c h);
        ends = e;
      }

  -- a name that is not `EOF` leaves what holds of `EOF`
  pub still_ends : (P P' : TypedProgram) (N : Scope) (F : Frame) (x : Binding) → More P P' → Agrees x (F ∷ [])
      → is_end (Some x.meaning) ≡ false → Names P N F → Ends P' (x ∷ F)
  still_ends P P' N F x more agrees f n h = by (same_name x.name eof_name) refl
    where
      step : is_end (look_up ((x ∷ F) ∷ []) eof_name)
          ≡ is_end (cond (same_name x.name eof_name) (Some x.meaning) (look_up (F ∷ []) eof_name))
      step = ap is_end (declared_look x (F ∷ []) eof_name)

      by : (t : Bool) → same_name x.name eof_name ≡ t → AllMet P' ((x ∷ F) ∷ [])
      by true e = absurd (false≢true
          (sym f ∙ sym (ap (λ t. is_end (cond t (Some x.meaning) (look_up (F ∷ []) eof_name))) e) ∙ sym step ∙ h))
      by false e =
          let o = n.ends (sym (ap (λ t. is_end (cond t (Some x.meaning) (look_up (F ∷ []) eof_name))) e) ∙ sym step
          ∙ h) in
          all_met_more P P' (F ∷ []) ((x ∷ F) ∷ []) more (stays x (F ∷ []) agrees) o

  -- a definition is noted
  pub note : (P : TypedProgram) (N : Scope) (F : Frame) (x : Binding) (c : Callee)
      → callee_in (Some x.meaning) ≡ Some c
      → Met P (F ∷ []) x.name c → Names P N F → Names P (declared_in x N) F
  note P N F x c e m n = record { bound = n.bound; met = λ w d h. by w d h (same_name x.name w) refl; ends = n.ends }
    where
      by : (w : List ℕ) (d : Callee) → callee_in (look_up (declared_in x N) w) ≡ Some d → (t : Bool)
          → same_name x.name w ≡ t → Met P (F ∷ []) w d
      by w d h true s =
          let is : c ≡ d = some_is _ _
          (sym e ∙ sym (ap (λ t. callee_in (cond t (Some x.meaning) (look_up N w))) s)
          ∙ sym (ap callee_in (declared_look x N w)) ∙ h) in
          subst (λ d. Met P (F ∷ []) w d) is (subst (λ w. Met P (F ∷ []) w c) ((bytes_decides x.name w).0 s) m)
      by w d h false s =
          n.met w d (sym (ap (λ t. callee_in (cond t (Some x.meaning) (look_up N w))) s)
          ∙ sym (ap callee_in (declared_look x N w)) ∙ h)

  -- AT THE END

  -- the functions of `<stdio.h>` have their signatures
  built_in_signature : (P : TypedProgram) (w : List ℕ) (r : Option Kind) (s : List Slot) (o : Option Callee)
      → BuiltIn w r s o → (c : Callee) → o ≡ Some c → signature_of P c ≡ Some (signature r s)
  built_in_signature P _ _ _ _ reads c e = ap (signature_of P) (sym (some_is _ _ e))
  built_in_signature P _ _ _ _ writes c e = ap (signature_of P) (sym (some_is _ _ e))
  built_in_signature P _ _ _ _ exits c e = ap (signature_of P) (sym (some_is _ _ e))

  -- all definitions are known, so a call of a function's name calls one of its signature
  pub calls : (P : TypedProgram) (F : Frame) → Names P T F
      → (w : List ℕ) (r : Option Kind) (s : List Slot) (c : Callee) (d : Bool)
      → Bound P (F ∷ []) w (meaning.Function r s (Some c) d) → signature_of P c ≡ Some (signature r s)
  calls P F n w r s c d b =
      ⊎_elim (λ e. let m = n.met w c (sym e) in
      m.signature
      ∙ ap (λ r. Some (signature r m.params)) (one_result (F ∷ []) w m.result r m.params s m.function b.0)
      ∙ ap (λ s. Some (signature r s)) (one_params (F ∷ []) w m.result r m.params s m.function b.0))
      (λ i. built_in_signature P w r s (Some c) i c refl) b.1

  -- and what a name means is in the program
  exists : (P : TypedProgram) (F : Frame) (n : Names P T F) (f : TypedFunc) (w : List ℕ) (m : Meaning)
      → Bound P (F ∷ []) w m → Exists P f m
  exists P F n f w (meaning.Scalar k p) b = b f
  exists P F n f w (meaning.Array k q p) b = b f
  exists P F n f w (meaning.Function r s None d) b = tt
  exists P F n f w (meaning.Function r s (Some c) d) b = calls P F n w r s c d b
  exists P F n f w meaning.EndOfFile b = tt

  -- the same of all bindings
  each_exists : (P : TypedProgram) (F : Frame) (n : Names P T F) (f : TypedFunc) (F' : Frame)
      → EachBound P (F ∷ []) F'
      → KnownFrame P f F'
  each_exists P F n f [] b = tt
  each_exists P F n f (x ∷ F') b = (exists P F n f x.name x.meaning b.0, each_exists P F n f F' b.1)

  -- so all names at file scope are known
  pub all_known : (P : TypedProgram) (F : Frame) → Names P T F → (f : TypedFunc) → Known P f (F ∷ [])
  all_known P F n f = (each_exists P F n f F n.bound, tt)

  -- a name that is found is bound
  pub find_bound : (P : TypedProgram) (G : Scope) (F : Frame) (w : List ℕ) (m : Meaning) → EachBound P G F → find F w
      ≡ Some m → Bound P G w m
  find_bound P G [] w m b e = absurd (cc)
  find_bound P G (x ∷ F) w m b e = by (find_bound P G F w m b.1) (same_name x.name w) refl
    where
      by : (find F w ≡ Some m → Bound P G w m) → (t : Bool) → same_name x.name w ≡ t → Bound P G w m
      by rec true h =
          let is = some_is _ _ (sym (ap (λ t. cond t (Some x.meaning) (find F w)) h) ∙ e) in
          subst (λ m. Bound P G w m) is (subst (λ w. Bound P G w x.meaning) ((bytes_decides x.name w).0 h) b.0)
      by rec false h = rec (sym (ap (λ t. cond t (Some x.meaning) (find F w)) h) ∙ e)
