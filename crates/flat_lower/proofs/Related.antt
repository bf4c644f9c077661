-- A flat state that stands for a state of the evaluation, in an active function.
use Rattle.std.proofs.Common.{◌≡◌, ◌≢◌, ℕ, zero, suc, ◌+◌, ◌-◌, ◌*◌, ◌/◌, ◌%◌, ◌^◌, ◌<◌, ◌≤◌, ◌⊎◌}
use Rattle.std.proofs.Common.{inl, inr, Bool, true, false, cond, List, [], ◌∷◌, ◌++◌, map, length}
use Rattle.std.proofs.Common.{Option, Some, None, refl, sym, ap, ap₂, ◌∙◌, subst, arith}
use Rattle.std.specs.Prelude.{nat_eq, nat_lt, slice_get, slice_set}
use Rattle.std.proofs.lemmas.Bool.Decides.{nat_tests}
use Rattle.c_tree.specs.declared.Kind.{Kind}
use Rattle.c_tree.specs.declared.Kind.TheVariants.{Char, UChar, Short, UShort, Int, UInt, Long, ULong}
use Rattle.c_tree.specs.declared.Place.{Place}
use Rattle.c_tree.specs.declared.Place.TheVariants.{Global, Scalar, Array}
use Rattle.c_tree.specs.declared.Slot.{Slot}
use Rattle.c_tree.specs.declared.Slot.TheVariants as slot
use Rattle.c_tree.specs.declared.TypedArray.{TypedArray}
use Rattle.c_tree.specs.declared.TypedGlobal.{TypedGlobal}
use Rattle.c_tree.specs.declared.TypedFunc.{TypedFunc}
use Rattle.c_tree.specs.declared.TypedProgram.{TypedProgram}
use Rattle.c_meaning_spec.specs.declared.signal.Signal.{Signal}
use Rattle.c_meaning_spec.specs.declared.signal.Signal.TheVariants.{Nothing, Value, Breaks, Continues}
use Rattle.c_meaning_spec.specs.declared.signal.Signal.TheVariants.{Returns}
use Rattle.c_meaning_spec.specs.declared.signal.Object.TheVariants.{InScalar, InArray}
use Rattle.c_meaning_spec.specs.State.{cell, cell_in, held, row_in, element_set, written}
use Rattle.c_meaning_spec.specs.State as eval
use Rattle.c_meaning_spec.specs.Task.{array_of}
use Rattle.c_constant.specs.Kinds.{bytes}
use Rattle.c_meaning_spec.specs.Eval.{length_of}
use Rattle.trips_isa.specs.declared.op.Op.TheVariants as op
use Rattle.trips_isa.specs.Stores.{data_size, is_good_address}
use Rattle.ir_forms.specs.declared.flat.Arg.TheVariants.{Const, Var}
use Rattle.ir_forms.specs.inside.FlatCode.{Code, Then, only, Let, Frame, Function}
use Rattle.ir_forms.specs.inside.Frames.{frames_at}
use Rattle.ir_forms.specs.inside.Cells.{Memory, apply, load, save}
use Rattle.ir_forms.specs.inside.FlatSteps.{State, Env, settle, counted, var_put, with_var, with_memory}
use Rattle.ir_forms.specs.inside.FlatSteps.{read}
use Rattle.ir_forms.specs.inside.FlatRuns.{checked}
use Rattle.ir_forms.proofs.Leads.{Leads}
use Rattle.ir_forms.proofs.Steps.{code_run}
use Rattle.ir_forms.proofs.Statements.{frame_leads}
use Rattle.flat_lower.specs.inside.TreeViews.{func_of, source_of}
use Rattle.c_constant.specs.Kinds.{IsWord}
use Rattle.flat_lower.specs.inside.Operations.{temp, scratch, load_op, save_op, shift_of}
use Rattle.flat_lower.specs.inside.Objects.{Context, global_at, array_at, based, address_by, address_code}
use Rattle.flat_lower.specs.inside.Statements.{context_of, globals_image}
use Rattle.flat_lower.specs.inside.Fits.{Scope, GlobalIs, ArrayIs, FitsName, FitsWhole, scope_of}
use Rattle.flat_lower.proofs.Straight.{put_at, put_other, Sets, Puts, puts_let, puts_spare}
use Rattle.flat_lower.proofs.Straight.{puts_within, var_read, set_one}
use Rattle.flat_lower.proofs.Objects.{Object, element_at, end_of, Laid, Stands, laid_at, element_in}
use Rattle.flat_lower.proofs.Objects.{good_element, Holds, Stored, AllStored, all_at, all_put}
use Rattle.flat_lower.proofs.Objects.{object_row}
use Rattle.flat_lower.proofs.Objects.{put_element, within_row, set_here, set_there, set_length}

-- an active function: the objects so far in order of their numbers, the number of its first array,
-- and where its frame is
pub record Scene : Type 0 where
  pub func : TypedFunc
  pub objects : List Object
  pub first : ℕ
  pub env : Env

-- what a scene's function sees of the program
abbrev pub scope : TypedProgram → Scene → Scope
scope P S = scope_of (source_of P) (func_of S.func)

-- what the lowering of a scene's function knows
abbrev pub context : TypedProgram → Scene → Context
context P S = context_of P.globals (func_of S.func)

-- where the frames begin
abbrev pub frames_from : TypedProgram → ℕ
frames_from P = frames_at (globals_image P.globals)

-- an object of n elements of a kind at an address
abbrev pub object : ℕ → Kind → ℕ → Option ℕ → Object
object at k n q = record { at = at; kind = k; length = n; row = q }

-- the objects lie in order below the frame's end, and globals and own arrays are among them
pub record IsScene (P : TypedProgram) (S : Scene) : Type 0 where
  pub laid : Laid 0 (frames_from P + S.env.used) S.objects
  pub room : frames_from P + S.env.used ≤ data_size
  pub few : length S.func.scalars ≤ 64
  pub words : S.env.used % 8 ≡ 0
  pub globals : (g : ℕ) (x : TypedGlobal) → slice_get P.globals g ≡ Some x
      → slice_get S.objects g ≡ Some (object (global_at P.globals g) x.kind (length_of x.length) x.row)
  pub arrays : (a : ℕ) (x : TypedArray) → slice_get S.func.arrays a ≡ Some x
      → slice_get S.objects (S.first + a) ≡ Some
      (object (S.env.arrays + array_at S.func.arrays a) x.kind x.length x.row)

-- an array by its number
pub record ObjectIs (objects : List Object) (n : ℕ) (k : Kind) : Type 0 where
  pub it : Object
  pub found : slice_get objects n ≡ Some it
  pub kind : it.kind ≡ k

-- a set scalar gives a set variable: its word, or the address of the array that it stands for
pub record AddressIs (objects : List Object) (w : ℕ) (k : Kind) (q o : Option ℕ) : Type 0 where
  pub array : ObjectIs objects w k
  pub wide : array.it.row ≡ q
  pub is : o ≡ Some array.it.at

-- a variable holds what stands for a scalar's word: the word, or the address of its array
abbrev pub IsScalar : List Object → Slot → ℕ → Option ℕ → Type 0
IsScalar objects (slot.Scalar k) w o = (o ≡ Some w) × IsWord k w
IsScalar objects (slot.Address k q) w o = AddressIs objects w k q o

-- a flat state stands for a state of the evaluation
pub record Related (S : Scene) (s : eval.State) (f : State) : Type 0 where
  pub scalars : (i w : ℕ) (x : Slot) → slice_get S.func.scalars i ≡ Some x
      → slice_get s.scalars i ≡ Some (Some w) → IsScalar S.objects x w (f.vars i)
  pub count : length s.scalars ≡ length S.func.scalars
  pub stored : AllStored S.objects s.arrays f.memory
  pub rows : s.rows ≡ map object_row S.objects
  pub input : f.input ≡ s.input
  pub bytes : (i b : ℕ) → slice_get s.input i ≡ Some b → b < 256
  pub output : f.output ≡ s.output
  pub first : s.base ≡ S.first
  pub room : s.room ≡ S.env.used

-- a step that is spent is not seen
pub spent : (S : Scene) (s : eval.State) (f : State) (n : ℕ) → Related S s f
    → Related S (record s { stock = n }) f
spent S s f n r = record {
  scalars = r.scalars;
  count = r.count;
  stored = r.stored;
  rows = r.rows;
  input = r.input;
  bytes = r.bytes;
  output = r.output;
  first = r.first;
  room = r.room;
}

-- nor is a round that is counted
pub recounted : (S : Scene) (s : eval.State) (f : State) → Related S s f → Related S s (counted f)
recounted S s f r = record {
  scalars = r.scalars;
  count = r.count;
  stored = r.stored;
  rows = r.rows;
  input = r.input;
  bytes = r.bytes;
  output = r.output;
  first = r.first;
  room = r.room;
}

-- what changes no scalar's variable
pub unseen : {P : TypedProgram} (S : Scene) → IsScene P S → (s : eval.State) (f g : State)
    → ((i : ℕ) → i < 64 → g.vars i ≡ f.vars i) → g.memory ≡ f.memory → g.input ≡ f.input
    → g.output ≡ f.output → Related S s f → Related S s g
unseen S y s f g h hm hi ho r = record {
  scalars = λ i w x e k. subst (IsScalar S.objects x w)
      (sym (h i (omega (arith, within_row S.func.scalars i x e, y.few)))) (r.scalars i w x e k);
  count = r.count;
  stored = subst (AllStored S.objects s.arrays) (sym hm) r.stored;
  rows = r.rows;
  input = hi ∙ r.input;
  bytes = r.bytes;
  output = ho ∙ r.output;
  first = r.first;
  room = r.room;
}

-- Where only variables from the 64th on are set, a flat state stands for the same state of the evaluation.
pub sets_unseen : {P : TypedProgram} (S : Scene) → IsScene P S
    → (s : eval.State) (f g : State) (x spare w : ℕ) → 64 ≤ x → 64 ≤ spare → Sets x spare w f g
    → Related S s f → Related S s g
sets_unseen S y s f g x spare w a b t r =
    unseen S y s f g (λ i lt. t.others i (λ e. omega arith) (λ e. omega arith)) t.memory t.input
    t.output r

-- SCALARS

-- a scalar that is set
pub scalar_set : {P : TypedProgram} (S : Scene) → IsScene P S
    → (s : eval.State) (f : State) (i w : ℕ) (k : Kind) (c : Option ℕ)
    → slice_get S.func.scalars i ≡ Some (slot.Scalar k) → slice_get s.scalars i ≡ Some c → IsWord k w
    → Related S s f → Related S (written s (InScalar i) (Some w)) (with_var f i w)
scalar_set S y s f i w k c e g fits r = record {
  scalars = λ j v x ej hj. go j v x ej hj (nat_eq j i) refl;
  count = set_length s.scalars i (Some w) ∙ r.count;
  stored = r.stored;
  rows = r.rows;
  input = r.input;
  bytes = r.bytes;
  output = r.output;
  first = r.first;
  room = r.room;
}
  where
    go : (j v : ℕ) (x : Slot) → slice_get S.func.scalars j ≡ Some x
        → slice_get (slice_set s.scalars i (Some w)) j ≡ Some (Some v) → (t : Bool) → nat_eq j i ≡ t
        → IsScalar S.objects x v (var_put f.vars i (Some w) j)
    go j v x ej hj true q =
        let same : j ≡ i = grind (arith, nat_tests) in
        let slots : x ≡ slot.Scalar k = cc (ap (slice_get S.func.scalars) same) in
        let here : slice_get (slice_set s.scalars i (Some w)) i ≡ Some (Some v) =
        ap (slice_get (slice_set s.scalars i (Some w))) (sym same) ∙ hj in
        let words : w ≡ v = cc (set_here s.scalars i c (Some w) g) in
        subst (λ x. IsScalar S.objects x v (var_put f.vars i (Some w) j)) (sym slots) (
          ap (var_put f.vars i (Some w)) same ∙ put_at f.vars i (Some w) ∙ ap Some words,
          subst (IsWord k) words fits,
        )
    go j v x ej hj false q =
        let other : j ≢ i = grind (arith, nat_tests) in
        subst (IsScalar S.objects x v) (sym (put_other f.vars i (Some w) j other))
        (r.scalars j v x ej (sym (set_there s.scalars i j (Some w) other) ∙ hj))

-- a scalar that is unset: its variable may keep what it has
pub scalar_unset : (S : Scene) (s : eval.State) (f : State) (i : ℕ) (c : Option ℕ)
    → slice_get s.scalars i ≡ Some c → Related S s f → Related S (written s (InScalar i) None) f
scalar_unset S s f i c g r = record {
  scalars = λ j v x ej hj. go j v x ej hj (nat_eq j i) refl;
  count = set_length s.scalars i None ∙ r.count;
  stored = r.stored;
  rows = r.rows;
  input = r.input;
  bytes = r.bytes;
  output = r.output;
  first = r.first;
  room = r.room;
}
  where
    go : (j v : ℕ) (x : Slot) → slice_get S.func.scalars j ≡ Some x
        → slice_get (slice_set s.scalars i None) j ≡ Some (Some v) → (t : Bool) → nat_eq j i ≡ t
        → IsScalar S.objects x v (f.vars j)
    go j v x ej hj true q =
        let same : j ≡ i = grind (arith, nat_tests) in
        let here : slice_get (slice_set s.scalars i None) i ≡ Some (Some v) =
        ap (slice_get (slice_set s.scalars i None)) (sym same) ∙ hj in
        absurd (cc (set_here s.scalars i c None g))
    go j v x ej hj false q =
        let other : j ≢ i = grind (arith, nat_tests) in
        r.scalars j v x ej (sym (set_there s.scalars i j None other) ∙ hj)

-- ELEMENTS

-- an element that a state of the evaluation has
pub record RowIs (s : eval.State) (n i : ℕ) (c : Option ℕ) : Type 0 where
  pub row : List (Option ℕ)
  pub found : slice_get s.arrays n ≡ Some row
  pub is : slice_get row i ≡ Some c

-- a cell of an array stands in the array's row
pub row_of : (s : eval.State) (n i : ℕ) (c : Option ℕ) → cell s (InArray n i) ≡ Some c
    → RowIs s n i c
row_of s n i c h = go (slice_get s.arrays n) refl h
  where
    go : (o : Option (List (Option ℕ))) → slice_get s.arrays n ≡ o → cell_in o i ≡ Some c
        → RowIs s n i c
    go None e h = absurd (cc h)
    go (Some row) e h = record { row = row; found = e; is = h }

-- A cell that holds a word is there, and set to it.
pub held_is : (c : Option (Option ℕ)) (w : ℕ) → held c ≡ Some w → c ≡ Some (Some w)
held_is None w h = absurd (cc h)
held_is (Some c) w h = ap Some h

-- an element that is set is in memory
pub element_holds : (S : Scene) (s : eval.State) (f : State) (n i w : ℕ) (k : Kind)
    (o : ObjectIs S.objects n k) → held (cell s (InArray n i)) ≡ Some w → Related S s f
    → Holds o.it f.memory i w
element_holds S s f n i w k o h r =
    let x = row_of s n i (Some w) (held_is (cell s (InArray n i)) w h) in
    (all_at S.objects s.arrays f.memory n o.it x.row r.stored o.found x.found).holds i w x.is

-- the index of an element that is there
pub element_within : (S : Scene) (s : eval.State) (f : State) (n i : ℕ) (c : Option ℕ) (k : Kind)
    (o : ObjectIs S.objects n k) → cell s (InArray n i) ≡ Some c → Related S s f → i < o.it.length
element_within S s f n i c k o h r =
    let x = row_of s n i c h in
    let t = all_at S.objects s.arrays f.memory n o.it x.row r.stored o.found x.found in
    omega (arith, within_row x.row i c x.is, t.long)

-- an element that is saved
pub element_saved : {P : TypedProgram} (S : Scene) → IsScene P S
    → (s : eval.State) (f : State) (n i w : ℕ) (c : Option ℕ) (k : Kind) (o : ObjectIs S.objects n k)
    → cell s (InArray n i) ≡ Some c → IsWord o.it.kind w → Related S s f
    → Related S (written s (InArray n i) (Some w)) (with_memory f (put_element o.it f.memory i w))
element_saved {P} S y s f n i w c k o h fits r =
    let x = row_of s n i c h in
    let e : row_in (slice_get s.arrays n) ≡ x.row = ap row_in x.found in
    record {
      scalars = r.scalars;
      count = r.count;
      stored = subst (λ row. AllStored S.objects (slice_set s.arrays n (slice_set row i (Some w)))
          (put_element o.it f.memory i w)) (sym e)
          (all_put 0 (frames_from P + S.env.used) S.objects s.arrays f.memory n i w o.it x.row c
          y.laid y.room o.found x.found x.is fits r.stored);
      rows = r.rows;
      input = r.input;
      bytes = r.bytes;
      output = r.output;
      first = r.first;
      room = r.room;
    }
