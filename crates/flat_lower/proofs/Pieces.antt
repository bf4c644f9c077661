-- The code of addresses, loads and names, in a related state.
use Rattle.std.proofs.Common.{◌≡◌, ◌≢◌, ℕ, zero, suc, ◌+◌, ◌-◌, ◌*◌, ◌/◌, ◌%◌, ◌^◌, ◌<◌, ◌≤◌, ◌⊎◌}
use Rattle.std.proofs.Common.{inl, inr, Bool, true, false, cond, List, [], ◌∷◌, length, Option}
use Rattle.std.proofs.Common.{Some, None, refl, sym, ap, ap₂, ◌∙◌, subst, arith}
use Rattle.std.specs.Prelude.{slice_get}
use Rattle.c_tree.specs.declared.Kind.{Kind}
use Rattle.c_tree.specs.declared.Kind.TheVariants.{Char, UChar, Short, UShort, Int, UInt, Long, ULong}
use Rattle.c_tree.specs.declared.Kind.TheVariants as kind
use Rattle.c_tree.specs.declared.Place.{Place}
use Rattle.c_tree.specs.declared.Place.TheVariants.{Global, Scalar, Array}
use Rattle.c_tree.specs.declared.Slot.TheVariants as slot
use Rattle.c_tree.specs.declared.TypedProgram.{TypedProgram}
use Rattle.c_meaning_spec.specs.declared.signal.Object.TheVariants.{InScalar, InArray}
use Rattle.c_meaning_spec.specs.State.{cell, held}
use Rattle.c_meaning_spec.specs.State as eval
use Rattle.c_meaning_spec.specs.Task.{array_of}
use Rattle.c_constant.specs.Kinds.{bytes}
use Rattle.c_meaning_spec.specs.Eval.{length_of}
use Rattle.trips_isa.specs.declared.op.Op.{Op}
use Rattle.trips_isa.specs.declared.op.Op.TheVariants as op
use Rattle.trips_isa.specs.Stores.{data_size}
use Rattle.ir_forms.specs.declared.flat.Arg.{Arg}
use Rattle.ir_forms.specs.declared.flat.Arg.TheVariants.{Const, Var}
use Rattle.ir_forms.specs.inside.FlatCode.{Code, Then, only, Let, Frame, Load, Function}
use Rattle.ir_forms.specs.inside.Cells.{Memory, apply, load}
use Rattle.ir_forms.specs.inside.FlatSteps.{State, Env, settle, read, with_var}
use Rattle.ir_forms.specs.inside.FlatRuns.{checked}
use Rattle.ir_forms.proofs.Statements.{frame_leads, load_leads}
use Rattle.c_constant.specs.Kinds.{IsWord}
use Rattle.flat_lower.specs.inside.Operations.{temp, scratch, load_op, shift_of}
use Rattle.flat_lower.specs.inside.Objects.{Context, global_at, array_at, based, address_by, address_code}
use Rattle.flat_lower.specs.inside.Objects.{whole_code}
use Rattle.flat_lower.specs.inside.Fits.{GlobalIs, ArrayIs, FitsName, FitsWhole}
use Rattle.flat_lower.proofs.Straight.{Sets, set_one, Puts, puts_let, puts_both, puts_spare}
use Rattle.flat_lower.proofs.Straight.{puts_within, puts_as, var_read}
use Rattle.flat_lower.proofs.Objects.{Object, element_at, end_of, Stands, laid_at, element_in}
use Rattle.flat_lower.proofs.Objects.{Holds}
use Rattle.flat_lower.proofs.Related.{Scene, IsScene, scope, context, frames_from, object, ObjectIs}
use Rattle.flat_lower.proofs.Related.{AddressIs, Related, held_is, sets_unseen}

module _ (P : TypedProgram) (fs : List Function) (base : ℕ) where
  puts_frame : (e : Env) (f : State) (x spare at : ℕ)
      → Puts fs base e (only (Frame x at)) f 1 x spare (e.arrays + at)
  puts_frame e f x spare at = record {
    t = 1;
    to = with_var f x (e.arrays + at);
    few = omega arith;
    sets = set_one f x spare (e.arrays + at);
    leads = frame_leads checked fs base e x at f;
  }

  -- a load of a word that is there
  pub puts_load : (e : Env) (o : Op) (a : Arg) (f : State) (x spare at w : ℕ)
      → read checked f a ≡ Some at → load checked o f.memory at ≡ Some w
      → Puts fs base e (only (Load x o a)) f 1 x spare w
  puts_load e o a f x spare at w ha hl = record {
    t = 1;
    to = with_var f x w;
    few = omega arith;
    sets = set_one f x spare w;
    leads = load_leads checked fs base e x o a f at w ha hl;
  }

  -- ADDRESSES

  -- a place whose object is known, with the code that adds its address to an offset, and the code
  -- of the address itself
  pub record PlaceIs (S : Scene) (p : Place) (k : Kind) (q : Option ℕ) (n : ℕ) (f : State) : Type 0 where
    pub array : ObjectIs S.objects n k
    pub wide : array.it.row ≡ q
    pub sum : (to x v : ℕ) → x ≢ 81 → f.vars x ≡ Some v
        → Puts fs base S.env (based (context P S) p to x) f 2 to 81 ((v + array.it.at) % 2 ^ 64)
    pub whole : (to spare : ℕ) → Puts fs base S.env
        (whole_code (context P S) p to) f 1 to spare array.it.at

  global_place : (S : Scene) → IsScene P S → (g : ℕ) (k : Kind) (l q : Option ℕ) (f : State)
      → GlobalIs (scope P S) g k l q → PlaceIs S (Global g) k q g f
  unfolding apply
  global_place S y g k l q f x =
      let e = y.globals g x.global x.found in
      let at = global_at P.globals g in
      record {
        array = record {
          it = object at x.global.kind (length_of x.global.length) x.global.row;
          found = e;
          kind = x.kind;
        };
        wide = x.wide;
        sum = λ to v w nv h. puts_let fs base S.env op.Add (Var v) (Const at) f 2 to 81 w at
            ((w + at) % 2 ^ 64) (omega arith) (var_read fs base S.env f v w h) refl refl;
        whole = λ to spare. puts_let fs base S.env op.Mov (Const at) (Const 0) f 1 to spare at 0 at
            (omega arith) refl refl refl;
      }

  array_place : (S : Scene) → IsScene P S → (a : ℕ) (k : Kind) (q : Option ℕ) (n : ℕ) (f : State)
      → n ≡ S.first + a → ArrayIs (scope P S) a k q → PlaceIs S (Array a) k q n f
  unfolding apply
  array_place S y a k row n f hn x =
      let e = y.arrays a x.array x.found in
      let off = array_at S.func.arrays a in
      let at = S.env.arrays + off in
      record {
        array = record {
          it = object at x.array.kind x.array.length x.array.row;
          found = ap (slice_get S.objects) hn ∙ e;
          kind = x.kind;
        };
        wide = x.wide;
        sum = λ to v w nv h.
            let p = puts_frame S.env f 81 81 off in
            let q = puts_let fs base S.env op.Add (Var v) (Var 81) p.to 1 to 81 w at ((w + at) % 2 ^ 64) (omega arith)
            (var_read fs base S.env p.to v w (p.sets.others v nv nv ∙ h))
            (var_read fs base S.env p.to 81 at p.sets.value) refl in
            puts_spare fs base S.env (only (Frame 81 off))
            (only (Let to op.Add (Var v) (Var 81))) f 1 1 to 81 at ((w + at) % 2 ^ 64) p q;
        whole = λ to spare. puts_frame S.env f to spare off;
      }

  param_place : (S : Scene) (i : ℕ) (k : Kind) (q : Option ℕ) (n : ℕ) (s : eval.State) (f : State)
      → Related S s f → slice_get S.func.scalars i ≡ Some (slot.Address k q)
      → slice_get s.scalars i ≡ Some (Some n) → PlaceIs S (Scalar i) k q n f
  unfolding apply
  param_place S i k q n s f r e h =
      let x : AddressIs S.objects n k q (f.vars i) = r.scalars i n (slot.Address k q) e h in
      let at = x.array.it.at in
      record {
        array = x.array;
        wide = x.wide;
        sum = λ to v w nv g. puts_let fs base S.env op.Add (Var v) (Var i) f 2 to 81 w at
            ((w + at) % 2 ^ 64) (omega arith) (var_read fs base S.env f v w g)
            (var_read fs base S.env f i at x.is) refl;
        whole = λ to spare. puts_let fs base S.env op.Mov (Var i) (Const 0) f 1 to spare at 0 at
            (omega arith) (var_read fs base S.env f i at x.is) refl refl;
      }

  -- a place whose elements are read or stored
  pub place_is : (S : Scene) → IsScene P S
      → (p : Place) (k : Kind) (q : Option ℕ) (n : ℕ) (s : eval.State) (f : State) → Related S s f
      → FitsWhole (scope P S) k q p → array_of p s ≡ Some n → PlaceIs S p k q n f
  place_is S y (Global g) k q n s f r t h =
      let e : g ≡ n = cc in
      subst (λ n. PlaceIs S (Global g) k q n f) e (global_place S y g k (Some t.0) q f t.1)
  place_is S y (Scalar i) k q n s f r t h =
      param_place S i k q n s f r t (held_is (cell s (InScalar i)) n h)
  place_is S y (Array a) k q n s f r t h =
      let e : s.base + a ≡ n = cc in
      array_place S y a k q n f (sym e ∙ ap (λ b. b + a) r.first) t

  -- a global that is a scalar is an array of one element
  pub global_is : (S : Scene) → IsScene P S → (g : ℕ) (k : Kind) (f : State)
      → FitsName (scope P S) k (Global g) → PlaceIs S (Global g) k None g f
  global_is S y g k f t = global_place S y g k None None f t

  -- THE ADDRESS OF AN ELEMENT

  -- an index, scaled by the exponent of a size
  abbrev pub scaled : ℕ → ℕ → ℕ
  scaled zero w = w
  scaled (suc n) w = (w * 2 ^ (suc n % 64)) % 2 ^ 64

  -- the address of an element: its scaled index and its object's address
  abbrev pub addressed : Kind → ℕ → ℕ → ℕ
  addressed k w at = (scaled (shift_of k) w + at) % 2 ^ 64

  -- of an element inside data memory it is where the element lies
  pub addressed_is : (k : Kind) (w at : ℕ) → at + bytes k * w < 2 ^ 64
      → addressed k w at ≡ at + bytes k * w
  addressed_is Char w at h = omega arith
  addressed_is UChar w at h = omega arith
  addressed_is Short w at h = omega arith
  addressed_is UShort w at h = omega arith
  addressed_is Int w at h = omega arith
  addressed_is UInt w at h = omega arith
  addressed_is Long w at h = omega arith
  addressed_is ULong w at h = omega arith
  addressed_is kind.Bool w at h = omega arith

  same_object : (objects : List Object) (n : ℕ) (k : Kind) (o p : ObjectIs objects n k)
      → o.it ≡ p.it
  same_object objects n k o p = cc (sym o.found ∙ p.found)

  -- the sum of an offset and an object's address, whatever is known of the place
  sum_puts : (S : Scene) → IsScene P S → (p : Place) (k : Kind) (row : Option ℕ) (n : ℕ)
      (s : eval.State) (f : State) → Related S s f → FitsWhole (scope P S) k row p
      → array_of p s ≡ Some n
      → (o : ObjectIs S.objects n k) (to x v : ℕ) → x ≢ 81 → f.vars x ≡ Some v
      → Puts fs base S.env (based (context P S) p to x) f 2 to 81 ((v + o.it.at) % 2 ^ 64)
  sum_puts S y p k row n s f r t h o to x v nx e =
      let q = place_is S y p k row n s f r t h in
      let same : q.array.it ≡ o.it = same_object S.objects n k q.array o in
      puts_as fs base S.env (based (context P S) p to x) f 2 to 81 ((v + q.array.it.at) % 2 ^ 64)
      ((v + o.it.at) % 2 ^ 64) (ap (λ (i : Object). (v + i.at) % 2 ^ 64) same) (q.sum to x v nx e)

  address_by_puts : (S : Scene) → IsScene P S
      → (p : Place) (k : Kind) (q : Option ℕ) (n m : ℕ) (s : eval.State) (f : State) → Related S s f
      → FitsWhole (scope P S) k q p → array_of p s ≡ Some n → (o : ObjectIs S.objects n k) (to x w : ℕ)
      → 64 ≤ to → to ≢ 81 → x ≢ 81 → f.vars x ≡ Some w
      → Puts fs base S.env (address_by m (context P S) p to x) f 3 to 81
      ((scaled m w + o.it.at) % 2 ^ 64)
  unfolding apply
  address_by_puts S y p k q n zero s f r t h o to x w lt nt nx e =
      puts_within fs base S.env (based (context P S) p to x) f 2 3 to 81 ((w + o.it.at) % 2 ^ 64)
      (omega arith) (sum_puts S y p k q n s f r t h o to x w nx e)
  address_by_puts S y p k q n (suc m) s f r t h o to x w lt nt nx e =
      let v = (w * 2 ^ (suc m % 64)) % 2 ^ 64 in
      let a = puts_let fs base S.env op.Sll (Var x) (Const (suc m)) f 1 to 81 w (suc m) v (omega arith)
      (var_read fs base S.env f x w e) refl refl in
      let ra = sets_unseen S y s f a.to to 81 v lt (omega arith) a.sets r in
      puts_both fs base S.env (only (Let to op.Sll (Var x) (Const (suc m))))
      (based (context P S) p to to) f 1 2 to 81 v ((v + o.it.at) % 2 ^ 64) a
      (sum_puts S y p k q n s a.to ra t h o to to v nt a.sets.value)

  -- the address of an element, in a variable
  pub address_puts : (S : Scene) → IsScene P S
      → (p : Place) (k : Kind) (q : Option ℕ) (n : ℕ) (s : eval.State) (f : State) → Related S s f
      → FitsWhole (scope P S) k q p → array_of p s ≡ Some n → (o : ObjectIs S.objects n k) (to x w : ℕ)
      → 64 ≤ to → to ≢ 81 → x ≢ 81 → f.vars x ≡ Some w
      → Puts fs base S.env (address_code (context P S) p k to x) f 3 to 81 (addressed k w o.it.at)
  address_puts S y p k q n s f r t h o to x w lt nt nx e =
      address_by_puts S y p k q n (shift_of k) s f r t h o to x w lt nt nx e

  -- an element that is there lies where its address leads
  pub element_address : (S : Scene) → IsScene P S
      → (n w : ℕ) (k : Kind) (o : ObjectIs S.objects n k) → w < o.it.length
      → addressed k w o.it.at ≡ element_at o.it w
  element_address S y n w k o lt =
      let st = laid_at 0 (frames_from P + S.env.used) S.objects n o.it y.laid o.found in
      let last = element_in o.it.kind o.it.at o.it.length w lt in
      let below = st.below in
      let room = y.room in
      let e : bytes o.it.kind ≡ bytes k = ap bytes o.kind in
      let fits : o.it.at + bytes o.it.kind * w < 2 ^ 64 = small (o.it.at + bytes o.it.kind * w) (omega arith) in
      addressed_is k w o.it.at (subst (λ z. o.it.at + z * w < 2 ^ 64) e fits)
      ∙ ap (λ z. o.it.at + z * w) (sym e)
    where
      small : (n : ℕ) → n ≤ 4194304 → n < 2 ^ 64
      small n h = omega arith
