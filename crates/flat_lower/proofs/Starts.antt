-- The first state of a run stands for the first state of the evaluation.
use Rattle.std.proofs.Common.{◌≡◌, ◌≢◌, ℕ, zero, suc, ◌+◌, ◌-◌, ◌*◌, ◌/◌, ◌%◌, ◌^◌, ◌<◌, ◌≤◌, Bool}
use Rattle.std.proofs.Common.{true, false, cond, ◌&&◌, List, [], ◌∷◌, ◌++◌, map, length, get_or}
use Rattle.std.proofs.Common.{All, Option, Some, None, refl, sym, ap, ap₂, ◌∙◌, subst, arith}
use Rattle.std.specs.Prelude.{nat_lt, nat_le, slice_get, slice_index}
use Rattle.std.proofs.lemmas.Bool.Decides.{nat_tests}
use Rattle.c_tree.specs.declared.TypedGlobal.{TypedGlobal}
use Rattle.c_tree.specs.declared.TypedFunc.{TypedFunc}
use Rattle.c_tree.specs.declared.TypedProgram.{TypedProgram}
use Rattle.c_meaning_spec.specs.State as eval
use Rattle.c_constant.specs.Kinds.{bytes}
use Rattle.c_meaning_spec.specs.Eval.{length_of, first_cells, global_row}
use Rattle.c_meaning_spec.specs.Eval as evaluation
use Rattle.trips_isa.specs.Stores.{data_size}
use Rattle.ir_forms.specs.inside.Frames.{frames_at, frame_limit, rounded}
use Rattle.ir_forms.specs.inside.Cells.{Memory, Held, Closed}
use Rattle.ir_forms.specs.inside.FlatSteps.{State}
use Rattle.ir_forms.specs.inside.FlatRuns.{first_mark, first_memory}
use Rattle.flat_lower.specs.inside.TreeViews.{source_of}
use Rattle.flat_lower.specs.inside.Objects.{global_bytes, bytes_before, global_at}
use Rattle.flat_lower.specs.inside.Statements.{global_image, globals_image}
use Rattle.flat_lower.specs.inside.Fits.{FitsGlobal, FitsSource}
use Rattle.c_meaning_spec.specs.Laws.{IsInput}
use Rattle.flat_lower.proofs.Objects.{Object, object_row, end_of, Laid, laid_lower, AllStored}
use Rattle.flat_lower.proofs.Related.{Scene, IsScene, object, frames_from, Related}
use Rattle.flat_lower.proofs.Image.{ImageAt, both_length, image_first, image_rest, global_room}
use Rattle.flat_lower.proofs.Image.{global_length, global_stored}

-- THE OBJECTS OF THE GLOBALS

abbrev pub objects_from : ℕ → List TypedGlobal → List Object
objects_from lo [] = []
objects_from lo (g ∷ gs) = object lo g.kind (length_of g.length) g.row ∷ objects_from
    (lo + global_bytes g) gs

-- the bytes of some globals
abbrev pub room_of : List TypedGlobal → ℕ
room_of [] = 0
room_of (g ∷ gs) = global_bytes g + room_of gs

global_whole : (g : TypedGlobal) → global_bytes g % 8 ≡ 0
global_whole g = go (length_of g.length * bytes g.kind)
  where
    go : (n : ℕ) → rounded n % 8 ≡ 0
    go n = omega arith

room_whole : (gs : List TypedGlobal) → room_of gs % 8 ≡ 0
room_whole [] = refl
room_whole (g ∷ gs) = let a = global_whole g in let b = room_whole gs in omega arith

objects_laid : (lo : ℕ) (gs : List TypedGlobal) → lo % 8 ≡ 0
    → Laid lo (lo + room_of gs) (objects_from lo gs)
objects_laid lo [] h = omega arith
objects_laid lo (g ∷ gs) h =
    let x = global_room g in
    let w = global_whole g in
    let e : lo + global_bytes g + room_of gs ≡ lo + (global_bytes g + room_of gs) = omega arith in
    let rest : Laid (lo + global_bytes g) (lo + (global_bytes g + room_of gs))
    (objects_from (lo + global_bytes g) gs) = subst
    (λ hi. Laid (lo + global_bytes g) hi (objects_from (lo + global_bytes g) gs)) e
    (objects_laid (lo + global_bytes g) gs (omega arith)) in (
      omega arith,
      h,
      laid_lower (lo + global_bytes g) (lo + bytes g.kind * length_of g.length)
          (lo + (global_bytes g + room_of gs)) (objects_from (lo + global_bytes g) gs)
          (omega arith) rest,
    )

objects_at : (lo : ℕ) (gs : List TypedGlobal) (n : ℕ) (g : TypedGlobal) → slice_get gs n ≡ Some g
    → slice_get (objects_from lo gs) n ≡ Some
    (object (lo + bytes_before (map global_bytes gs) n) g.kind (length_of g.length) g.row)
objects_at lo [] n g h = absurd (cc h)
objects_at lo (x ∷ gs) zero g h =
    let e : x ≡ g = cc h in
    let z : lo ≡ lo + 0 = omega arith in
    ap Some (ap (λ (x : TypedGlobal). object lo x.kind (length_of x.length) x.row) e
    ∙ ap (λ at. object at g.kind (length_of g.length) g.row) z)
objects_at lo (x ∷ gs) (suc n) g h =
    let z : lo + global_bytes x + bytes_before (map global_bytes gs) n
    ≡ lo + (global_bytes x + bytes_before (map global_bytes gs) n) = omega arith in
    objects_at (lo + global_bytes x) gs n g h
    ∙ ap (λ at. Some (object at g.kind (length_of g.length) g.row)) z

-- their second sizes
objects_rows : (lo : ℕ) (gs : List TypedGlobal)
    → map global_row gs ≡ map object_row (objects_from lo gs)
objects_rows lo [] = refl
objects_rows lo (g ∷ gs) =
    ap (λ (rs : List (Option ℕ)). g.row ∷ rs) (objects_rows (lo + global_bytes g) gs)

rest_fits : (g : TypedGlobal) (gs : List TypedGlobal) → All FitsGlobal (g ∷ gs) → All FitsGlobal gs
rest_fits g gs h k d lt = h (suc k) d (omega arith)

first_fits : (g : TypedGlobal) (gs : List TypedGlobal) → All FitsGlobal (g ∷ gs) → FitsGlobal g
first_fits g gs h = h 0 g (omega arith)

-- the images of globals have as many bytes as these
pub images_length : (gs : List TypedGlobal) → All FitsGlobal gs → length (globals_image gs) ≡ room_of gs
images_length [] h = refl
images_length (g ∷ gs) h = both_length (global_image g) (globals_image gs)
    ∙ ap₂ (λ a b. a + b) (global_length g (first_fits g gs h)) (images_length gs (rest_fits g gs h))

all_globals : (m : Memory) (lo : ℕ) (gs : List TypedGlobal) → All FitsGlobal gs
    → ImageAt m lo (globals_image gs) → lo % 8 ≡ 0 → lo + room_of gs ≤ data_size
    → AllStored (objects_from lo gs) (map first_cells gs) m
all_globals m lo [] h i whole room = tt
all_globals m lo (g ∷ gs) h i whole room =
    let t = first_fits g gs h in
    let w = global_whole g in (
      global_stored m lo g t (image_first m lo (global_image g) (globals_image gs) i) whole
          (omega arith),
      all_globals m (lo + global_bytes g) gs (rest_fits g gs h)
          (image_rest m lo (global_bytes g) (global_image g) (globals_image gs) (global_length g t) i)
          (omega arith) (omega arith),
    )

-- THE FIRST MEMORY

below_frames : (bytes : List ℕ) (b : ℕ) → b < length bytes → nat_le (frames_at bytes) b ≡ false
below_frames bytes b lt = go (length bytes) lt
  where
    go : (n : ℕ) → b < n → nat_le (rounded n) b ≡ false
    go n lt = let le : b < rounded n = omega arith in grind (arith, nat_tests)

start_image : (bytes : List ℕ) → ImageAt (first_memory bytes) 0 bytes
unfolding first_memory
start_image bytes b lt =
    let z : 0 + b ≡ b = omega arith in
    ap (first_memory bytes) z
    ∙ ap (λ t. record {
      mark = cond (t && nat_lt b (frames_at bytes + frame_limit)) Closed Held;
      byte = get_or bytes b 0;
    }) (below_frames bytes b lt)

module _ (P : TypedProgram) (sound : FitsSource (source_of P)) where
  -- before main is called there is no scalar and no array but the globals
  abbrev pub first_scene : TypedFunc → Scene
  first_scene f = record {
    func = record f { scalars = []; arrays = [] };
    objects = objects_from 0 P.globals;
    first = 0;
    env = record { arrays = 0; used = 0 };
  }

  frames_is : frames_from P ≡ room_of P.globals
  frames_is =
      let w = room_whole P.globals in ap rounded (images_length P.globals sound.globals) ∙ go (room_of P.globals) w
    where
      go : (n : ℕ) → n % 8 ≡ 0 → rounded n ≡ n
      go n h = omega arith

  -- the scene of the first function is one of the program
  pub first_is : (f : TypedFunc) → IsScene P (first_scene f)
  unfolding global_at
  first_is f =
      let e = frames_is in
      let hi : 0 + room_of P.globals ≡ frames_from P + 0 = omega arith in
      record {
        laid = subst (λ hi. Laid 0 hi (objects_from 0 P.globals)) hi
            (objects_laid 0 P.globals refl);
        room = omega (arith, sound.room);
        few = omega arith;
        words = refl;
        globals =
            λ g x h.
            let z : 0 + bytes_before (map global_bytes P.globals) g ≡ bytes_before (map global_bytes P.globals) g =
            omega arith in objects_at 0 P.globals g x h
            ∙ ap (λ at. Some (object at x.kind (length_of x.length) x.row)) z;
        arrays = λ a x h. absurd (cc h);
      }

  -- the first state of a run
  abbrev pub first_state : List ℕ → State
  first_state input = record {
    vars = λ v. None;
    memory = first_memory (globals_image P.globals);
    input = input;
    output = [];
    rounds = 0;
  }

  -- whatever steps are left
  pub first_related : (f : TypedFunc) (input : List ℕ) (n : ℕ) → IsInput input
      → Related (first_scene f) (evaluation.start P input n) (first_state input)
  first_related f input n h = record {
    scalars = λ i w x e k. absurd (cc e);
    count = refl;
    stored = all_globals (first_memory (globals_image P.globals)) 0 P.globals sound.globals
        (start_image (globals_image P.globals)) refl (omega (arith, sound.room, frames_is));
    rows = objects_rows 0 P.globals;
    input = refl;
    bytes = h;
    output = refl;
    first = refl;
    room = refl;
  }
