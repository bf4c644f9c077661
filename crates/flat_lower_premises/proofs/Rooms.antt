-- Where globals and arrays lie: addresses that are words, places inside a function's arrays, and an
-- image of bytes.
use Rattle.std.proofs.Common.{ℕ, zero, suc, ◌+◌, ◌-◌, ◌*◌, ◌/◌, ◌%◌, ◌^◌, ◌<◌, ◌≤◌, List, []}
use Rattle.std.proofs.Common.{◌∷◌, map, length, replicate, arith}
use Rattle.std.specs.Prelude.{All}
use Rattle.std.proofs.Math.Nat.{mod-lt}
use Rattle.std.proofs.lemmas.List.Elements.{All-nil, All-cons, All-append, All-replicate}
use Rattle.c_tree.specs.declared.TypedArray.{TypedArray}
use Rattle.c_tree.specs.declared.TypedGlobal.{TypedGlobal}
use Rattle.c_constant.specs.Kinds.{bytes}
use Rattle.c_meaning_spec.specs.Call.{array_bytes, all_bytes}
use Rattle.trips_isa.specs.Stores.{data_size}
use Rattle.ir_forms.specs.inside.Frames.{frame_limit}
use Rattle.c_tree.specs.declared.Place.{Place}
use Rattle.flat_lower.specs.inside.Objects.{global_bytes, bytes_before, global_at, array_at, row_of}
use Rattle.flat_lower.specs.inside.Tree.{Func, Source}
use Rattle.flat_lower.specs.inside.Fits.{FitsSource}
use Rattle.flat_lower.specs.inside.Statements.{context_of, word_bytes, init_bytes, global_image, globals_image}
use Rattle.flat_lower.proofs.Starts.{room_of, images_length}
use Rattle.flat_lower_premises.specs.inside.Laws.{IsSmallRow}
use Rattle.flat_lower_premises.proofs.Places.{HasPlaces}

arrays_inside : (arrays : List TypedArray) (a : ℕ)
    → bytes_before (map array_bytes arrays) a ≤ all_bytes arrays
arrays_inside [] a = omega arith
arrays_inside (x ∷ rest) zero = omega arith
arrays_inside (x ∷ rest) (suc a) = let h = arrays_inside rest a in omega (arith, h)

globals_inside : (globals : List TypedGlobal) (g : ℕ)
    → bytes_before (map global_bytes globals) g ≤ room_of globals
globals_inside [] g = omega arith
globals_inside (x ∷ rest) zero = omega arith
globals_inside (x ∷ rest) (suc g) = let h = globals_inside rest g in omega (arith, h)

rounded_up : (n limit : ℕ) → (n + 7) / 8 * 8 + limit ≤ data_size → n < 2 ^ 64
rounded_up n limit h = omega (arith, h)

-- in the context of a function the places of globals and arrays are as the lowering takes them
pub places : (P : Source) → FitsSource P → (f : Func)
    → ((p : Place) → IsSmallRow (row_of (context_of P.globals f) p))
    → HasPlaces (context_of P.globals f) (all_bytes f.arrays)
unfolding global_at array_at
places P s f rows = record {
  globals = λ g.
      let low = rounded_up (length (globals_image P.globals)) frame_limit s.room in
      let long = images_length P.globals s.globals in
      let h = globals_inside P.globals g in
      omega (arith, low, long, h);
  arrays = arrays_inside f.arrays;
  rows = rows;
}

-- BYTES

abbrev Bytes : List ℕ → Type 0
Bytes bs = All (λ b. b < 256) bs

word_is_bytes : (n w : ℕ) → Bytes (word_bytes n w)
word_is_bytes zero w = All-nil (λ b. b < 256)
word_is_bytes (suc n) w =
    All-cons (λ b. b < 256) ((w / 256 ^ n) % 256) (word_bytes n w)
    (mod-lt (w / 256 ^ n) (omega arith)) (word_is_bytes n w)

init_is_bytes : (size : ℕ) (ws : List ℕ) → Bytes (init_bytes size ws)
init_is_bytes size [] = All-nil (λ b. b < 256)
init_is_bytes size (w ∷ ws) =
    All-append (λ b. b < 256) (word_bytes size w) (init_bytes size ws) (word_is_bytes size w)
    (init_is_bytes size ws)

global_is_bytes : (g : TypedGlobal) → Bytes (global_image g)
global_is_bytes g =
    let rest = global_bytes g - length g.init * bytes g.kind in
    All-append (λ b. b < 256) (init_bytes (bytes g.kind) g.init) (replicate rest 0)
    (init_is_bytes (bytes g.kind) g.init)
    (All-replicate (λ b. b < 256) rest 0 (omega arith))

-- the image of some globals is made of bytes
pub image_is_bytes : (gs : List TypedGlobal) → Bytes (globals_image gs)
image_is_bytes [] = All-nil (λ b. b < 256)
image_is_bytes (g ∷ gs) =
    All-append (λ b. b < 256) (global_image g) (globals_image gs) (global_is_bytes g)
    (image_is_bytes gs)
