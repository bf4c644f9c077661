-- A called function's scene, and its first state.
use Rattle.std.proofs.Common.{◌≡◌, ◌≢◌, ℕ, zero, suc, ◌+◌, ◌-◌, ◌*◌, ◌/◌, ◌%◌, ◌^◌, ◌<◌, ◌≤◌, ◌⊎◌}
use Rattle.std.proofs.Common.{inl, inr, Bool, true, false, cond, List, [], ◌∷◌, ◌++◌, map, length}
use Rattle.std.proofs.Common.{take, replicate, Option, Some, None, refl, sym, ap, ap₂, ◌∙◌, subst}
use Rattle.std.proofs.Common.{arith}
use Rattle.std.specs.Prelude.{slice_get}
use Rattle.c_tree.specs.declared.Kind.{Kind}
use Rattle.c_tree.specs.declared.Kind.TheVariants.{Char, UChar, Short, UShort, Int, UInt, Long, ULong}
use Rattle.c_tree.specs.declared.Slot.{Slot}
use Rattle.c_tree.specs.declared.Slot.TheVariants as slot
use Rattle.c_tree.specs.declared.TypedArray.{TypedArray}
use Rattle.c_tree.specs.declared.TypedGlobal.{TypedGlobal}
use Rattle.c_tree.specs.declared.TypedFunc.{TypedFunc}
use Rattle.c_tree.specs.declared.TypedProgram.{TypedProgram}
use Rattle.c_meaning_spec.specs.State as eval
use Rattle.c_constant.specs.Kinds.{bytes}
use Rattle.c_meaning_spec.specs.Call.{array_bytes, all_bytes, frame, unset_array, scalars_of}
use Rattle.c_meaning_spec.specs.Call.{entered, array_row}
use Rattle.trips_isa.specs.Stores.{data_size}
use Rattle.ir_forms.specs.inside.FlatCode.{Function}
use Rattle.ir_forms.specs.inside.Frames.{slots_of, frame_of, arrays_at}
use Rattle.ir_forms.specs.inside.Cells.{Memory, Open, marked, all_open}
use Rattle.ir_forms.specs.inside.FlatSteps.{State, Env, counted}
use Rattle.ir_forms.specs.inside.FlatRuns.{argument, begun, env_of}
use Rattle.flat_lower.specs.inside.TreeViews.{func_of}
use Rattle.c_constant.specs.Kinds.{IsWord}
use Rattle.flat_lower.specs.inside.Objects.{bytes_before, array_at}
use Rattle.flat_lower.specs.inside.Statements.{lowered_func, globals_image}
use Rattle.flat_lower.proofs.Bytes.{opened, marked_out}
use Rattle.flat_lower.proofs.Objects.{Object, end_of, Laid, laid_append, laid_lower, element_in}
use Rattle.flat_lower.proofs.Objects.{Stored, AllStored, all_append, all_same, all_length}
use Rattle.flat_lower.proofs.Objects.{within_row, object_row}
use Rattle.flat_lower.proofs.Related.{Scene, IsScene, object, frames_from, ObjectIs, AddressIs}
use Rattle.flat_lower.proofs.Related.{IsScalar, Related}

-- LISTS

pub get_first : {A : Type 0} (xs ys : List A) (i : ℕ) (a : A) → slice_get xs i ≡ Some a
    → slice_get (xs ++ ys) i ≡ Some a
get_first [] ys i a h = absurd (cc h)
get_first (x ∷ xs) ys zero a h = h
get_first (x ∷ xs) ys (suc i) a h = get_first xs ys i a h

pub get_second : {A : Type 0} (xs ys : List A) (i : ℕ)
    → slice_get (xs ++ ys) (length xs + i) ≡ slice_get ys i
get_second [] ys i = ap (slice_get ys) (omega arith)
get_second (x ∷ xs) ys i =
    let e : suc (length xs) + i ≡ suc (length xs + i) = omega arith in
    ap (slice_get (x ∷ (xs ++ ys))) e ∙ get_second xs ys i

-- a list of nothing has something nowhere
pub none_of : {A : Type 0} (n i : ℕ) (a : A) → slice_get (replicate n None) i ≡ Some (Some a) → ⊥
none_of zero i a h = cc h
none_of (suc n) zero a h = cc h
none_of (suc n) (suc i) a h = none_of n i a h

-- n equal items are n items
pub replicate_length : {A : Type 0} (n : ℕ) (a : A) → length (replicate n a) ≡ n
replicate_length zero a = refl
replicate_length (suc n) a = ap suc (replicate_length n a)

-- ITS OBJECTS

-- the arrays of a call, from an address on
abbrev pub own_objects : ℕ → List TypedArray → List Object
own_objects at [] = []
own_objects at (a ∷ rest) = object at a.kind a.length a.row ∷ own_objects (at + array_bytes a) rest

-- their second sizes
pub own_rows : (at : ℕ) (arrays : List TypedArray)
    → map object_row (own_objects at arrays) ≡ map array_row arrays
own_rows at [] = refl
own_rows at (a ∷ rest) = ap (λ (rs : List (Option ℕ)). a.row ∷ rs) (own_rows (at + array_bytes a) rest)

rows_append : (os ps : List Object)
    → map object_row (os ++ ps) ≡ map object_row os ++ map object_row ps
rows_append [] ps = refl
rows_append (o ∷ os) ps = ap (λ (rs : List (Option ℕ)). o.row ∷ rs) (rows_append os ps)

-- those of the first of some objects
pub rows_first : (os ps : List Object)
    → take (length os) (map object_row (os ++ ps)) ≡ map object_row os
rows_first [] ps = refl
rows_first (o ∷ os) ps = ap (λ (rs : List (Option ℕ)). o.row ∷ rs) (rows_first os ps)

array_room : (a : TypedArray) → bytes a.kind * a.length ≤ array_bytes a
array_room a = go (a.length * bytes a.kind) (bytes a.kind * a.length)
    (turned (bytes a.kind) a.length)
  where
    turned : (s n : ℕ) → s * n ≡ n * s
    turned s n = omega arith

    go : (x z : ℕ) → z ≡ x → z ≤ (x + 7) / 8 * 8
    go x z e = omega arith

bytes_whole : (a : TypedArray) → array_bytes a % 8 ≡ 0
bytes_whole a = go (a.length * bytes a.kind)
  where
    go : (x : ℕ) → ((x + 7) / 8 * 8) % 8 ≡ 0
    go x = omega arith

all_whole : (arrays : List TypedArray) → all_bytes arrays % 8 ≡ 0
all_whole [] = refl
all_whole (a ∷ rest) = let x = bytes_whole a in let z = all_whole rest in omega arith

pub own_laid : (at : ℕ) (arrays : List TypedArray) → at % 8 ≡ 0
    → Laid at (at + all_bytes arrays) (own_objects at arrays)
own_laid at [] h = omega arith
own_laid at (a ∷ rest) h =
    let room = array_room a in
    let w = bytes_whole a in
    let e : at + array_bytes a + all_bytes rest ≡ at + (array_bytes a + all_bytes rest) = omega arith in
    let l : Laid (at + array_bytes a) (at + (array_bytes a + all_bytes rest))
    (own_objects (at + array_bytes a) rest) =
    subst (λ hi. Laid (at + array_bytes a) hi (own_objects (at + array_bytes a) rest)) e
    (own_laid (at + array_bytes a) rest (omega arith)) in (
      omega arith,
      h,
      laid_lower (at + array_bytes a) (at + bytes a.kind * a.length)
          (at + (array_bytes a + all_bytes rest)) (own_objects (at + array_bytes a) rest)
          (omega arith) l,
    )

pub own_at : (at : ℕ) (arrays : List TypedArray) (n : ℕ) (a : TypedArray)
    → slice_get arrays n ≡ Some a → slice_get (own_objects at arrays) n
    ≡ Some (object (at + array_at arrays n) a.kind a.length a.row)
unfolding array_at
own_at at [] n a h = absurd (cc h)
own_at at (b ∷ rest) zero a h =
    let e : b ≡ a = cc h in
    let z : at ≡ at + 0 = omega arith in
    ap Some (ap (λ (b : TypedArray). object at b.kind b.length b.row) e
    ∙ ap (λ at. object at a.kind a.length a.row) z)
own_at at (b ∷ rest) (suc n) a h =
    let z : at + array_bytes b + bytes_before (map array_bytes rest) n
    ≡ at + (array_bytes b + bytes_before (map array_bytes rest) n) = omega arith in
    own_at (at + array_bytes b) rest n a h ∙ ap (λ at. Some (object at a.kind a.length a.row)) z

-- unset arrays whose bytes open
open_element : (m : Memory) (lo size at i : ℕ) (k : Kind) (n : ℕ) → lo ≤ at
    → at + bytes k * n ≤ lo + size → i < n
    → all_open (marked m lo size Open) (at + bytes k * i) (bytes k) ≡ true
open_element m lo size at i k n h t lt =
    let e = element_in k at n i lt in opened m lo size (at + bytes k * i) (bytes k) (omega arith) (omega arith)

pub own_stored : (m : Memory) (lo size at : ℕ) (arrays : List TypedArray) → lo ≤ at
    → at + all_bytes arrays ≤ lo + size → AllStored (own_objects at arrays) (map unset_array arrays)
    (marked m lo size Open)
own_stored m lo size at [] h t = tt
own_stored m lo size at (a ∷ rest) h t =
    let room = array_room a in (
      record {
        long = replicate_length a.length None;
        holds = λ i w e. absurd (none_of a.length i w e);
        opens = λ i lt. open_element m lo size at i a.kind a.length h (omega arith) lt;
      },
      own_stored m lo size (at + array_bytes a) rest (omega arith) (omega arith),
    )

-- THE SCENE

module _ (P : TypedProgram) where
  -- the scene of a function that is called from another one
  abbrev pub called_scene : Scene → TypedFunc → Function → Scene
  called_scene S f F = record {
    func = f;
    objects = S.objects ++ own_objects (arrays_at (frames_from P) F S.env.used) f.arrays;
    first = length S.objects;
    env = env_of (frames_from P) F S.env.used;
  }

  -- a lowered function has the frame of its source
  pub record LoweredIs (f : TypedFunc) (F : Function) : Type 0 where
    pub scalars : F.scalars ≡ length f.scalars
    pub arrays : F.arrays ≡ all_bytes f.arrays

  -- a typed function and its flat one have frames of one size
  pub frame_is : (f : TypedFunc) (F : Function) → LoweredIs f F → frame f ≡ frame_of F
  frame_is f F l = omega (arith, l.scalars, l.arrays)

  frames_whole : frames_from P % 8 ≡ 0
  frames_whole = go (length (globals_image P.globals))
    where
      go : (n : ℕ) → ((n + 7) / 8 * 8) % 8 ≡ 0
      go n = omega arith

  -- the scene of a function that is called is one of the program
  pub called_is : (S : Scene) → IsScene P S → (f : TypedFunc) (F : Function) → LoweredIs f F
      → length f.scalars ≤ 64 → frames_from P + (S.env.used + frame_of F) ≤ data_size
      → IsScene P (called_scene S f F)
  called_is S y f F l few room =
      let u = y.words in
      let b = frames_whole in
      let w = all_whole f.arrays in
      let at = arrays_at (frames_from P) F S.env.used in
      let e : at + all_bytes f.arrays ≡ frames_from P + (S.env.used + frame_of F) = ap (λ n. at + n) (sym l.arrays)
      ∙ omega arith in
      let own : Laid at (frames_from P + (S.env.used + frame_of F)) (own_objects at f.arrays) = subst
      (λ hi. Laid at hi (own_objects at f.arrays)) e (own_laid at f.arrays (omega arith)) in
      record {
        laid = laid_append 0 (frames_from P + S.env.used)
            (frames_from P + (S.env.used + frame_of F)) S.objects (own_objects at f.arrays) y.laid
            (laid_lower at (frames_from P + S.env.used) (frames_from P + (S.env.used + frame_of F))
            (own_objects at f.arrays) (omega arith) own);
        room = room;
        few = few;
        words = omega (arith, l.arrays);
        globals = λ g x h. get_first S.objects (own_objects at f.arrays) g (object _ x.kind _ x.row)
            (y.globals g x h);
        arrays = λ a x h. get_second S.objects (own_objects at f.arrays) a
            ∙ own_at at f.arrays a x h;
      }

  -- THE FIRST STATE

  -- arguments as the evaluation has them and as the call takes them, by the parameters
  abbrev pub ArgsAre : List Object → List Slot → List ℕ → List ℕ → Type 0
  ArgsAre objects [] [] [] = Unit {0}
  ArgsAre objects (x ∷ xs) (w ∷ ws) (v ∷ vs) =
      IsScalar objects x w (Some v) × ArgsAre objects xs ws vs
  ArgsAre objects xs ws vs = ⊥

  more_objects : (objects more : List Object) (x : Slot) (w : ℕ) (o : Option ℕ)
      → IsScalar objects x w o → IsScalar (objects ++ more) x w o
  more_objects objects more (slot.Scalar k) w o h = h
  more_objects objects more (slot.Address k q) w o h = record {
    array = record {
      it = h.array.it;
      found = get_first objects more w h.array.it h.array.found;
      kind = h.array.kind;
    };
    wide = h.wide;
    is = h.is;
  }

  -- a set scalar of a call that begins is an argument
  args_set : (objects : List Object) (slots all : List Slot) (ws vs : List ℕ) (n i w : ℕ) (x : Slot)
      → ArgsAre objects slots ws vs → ((j : ℕ) (z : Slot) → slice_get slots j ≡ Some z
      → slice_get all j ≡ Some z) → slice_get all i ≡ Some x
      → slice_get (map Some ws ++ replicate n None) i ≡ Some (Some w)
      → IsScalar objects x w (slice_get vs i)
  args_set objects [] all [] [] n i w x h sub e g = absurd (none_of n i w g)
  args_set objects [] all (w0 ∷ ws) vs n i w x h sub e g = absurd h
  args_set objects [] all [] (v ∷ vs) n i w x h sub e g = absurd h
  args_set objects (z ∷ zs) all [] vs n i w x h sub e g = absurd h
  args_set objects (z ∷ zs) all (w0 ∷ ws) [] n i w x h sub e g = absurd h
  args_set objects (z ∷ zs) all (w0 ∷ ws) (v ∷ vs) n zero w x h sub e g =
      let same : z ≡ x = cc (sub zero z refl) in
      let words : w0 ≡ w = cc g in
      subst (λ x. IsScalar objects x w (Some v)) same
      (subst (λ w. IsScalar objects z w (Some v)) words h.0)
  args_set objects (z ∷ zs) [] (w0 ∷ ws) (v ∷ vs) n (suc i) w x h sub e g = absurd (cc e)
  args_set objects (z ∷ zs) (a ∷ all) (w0 ∷ ws) (v ∷ vs) n (suc i) w x h sub e g =
      args_set objects zs all ws vs n i w x h.1 (λ j u k. sub (suc j) u k) e g

  -- there are as many words as slots of arguments
  pub args_count : (objects : List Object) (slots : List Slot) (ws vs : List ℕ)
      → ArgsAre objects slots ws vs → length ws ≡ length slots
  args_count objects [] [] [] h = refl
  args_count objects [] [] (v ∷ vs) h = absurd h
  args_count objects [] (w ∷ ws) vs h = absurd h
  args_count objects (x ∷ xs) [] vs h = absurd h
  args_count objects (x ∷ xs) (w ∷ ws) [] h = absurd h
  args_count objects (x ∷ xs) (w ∷ ws) (v ∷ vs) h = ap suc (args_count objects xs ws vs h.1)

  take_sub : (n : ℕ) (xs : List Slot) (j : ℕ) (z : Slot) → slice_get (take n xs) j ≡ Some z
      → slice_get xs j ≡ Some z
  take_sub zero xs j z h = absurd (cc h)
  take_sub (suc n) [] j z h = absurd (cc h)
  take_sub (suc n) (x ∷ xs) zero z h = h
  take_sub (suc n) (x ∷ xs) (suc j) z h = take_sub n xs j z h

  map_length : {A B : Type 0} (f : A → B) (xs : List A) → length (map f xs) ≡ length xs
  map_length f [] = refl
  map_length f (x ∷ xs) = ap suc (map_length f xs)

  append_length : {A : Type 0} (xs ys : List A) → length (xs ++ ys) ≡ length xs + length ys
  append_length [] ys = omega arith
  append_length (x ∷ xs) ys = let e = append_length xs ys in omega arith

  -- the state in which a called function begins is related to the one in which its evaluation does
  pub begins : (S : Scene) → IsScene P S → (f : TypedFunc) (F : Function) → LoweredIs f F
      → (ws vs : List ℕ) (s : eval.State) (g : State) → length ws ≤ length f.scalars
      → ArgsAre S.objects (take f.params f.scalars) ws vs → Related S s g
      → Related (called_scene S f F) (entered f ws s) (begun (frames_from P) F vs S.env.used g)
  begins S y f F l ws vs s g le a r =
      let at = arrays_at (frames_from P) F S.env.used in
      let own = own_objects at f.arrays in
      record {
        scalars = λ i w x e h. more_objects S.objects own x w (slice_get vs i)
            (args_set S.objects (take f.params f.scalars) f.scalars ws vs
            (length f.scalars - length ws) i w x a (take_sub f.params f.scalars) e h);
        count = append_length (map Some ws) (replicate (length f.scalars - length ws) None)
            ∙ omega (
              arith,
              map_length Some ws,
              replicate_length {A = Option ℕ} (length f.scalars - length ws) None,
            );
        stored = all_append S.objects own s.arrays (map unset_array f.arrays)
            (marked g.memory at F.arrays Open)
            (all_same 0 (frames_from P + S.env.used) S.objects s.arrays g.memory
            (marked g.memory at F.arrays Open) y.laid
            (λ b lo hi. marked_out g.memory at F.arrays Open b (inl (omega arith))) r.stored)
            (own_stored g.memory at F.arrays at f.arrays (omega arith) (omega (arith, l.arrays)));
        rows = ap₂ (λ (a b : List (Option ℕ)). a ++ b) r.rows (sym (own_rows at f.arrays))
            ∙ sym (rows_append S.objects own);
        input = r.input;
        bytes = r.bytes;
        output = r.output;
        first = all_length S.objects s.arrays g.memory r.stored;
        room = ap₂ (λ a b. a + b) r.room (frame_is f F l);
      }
