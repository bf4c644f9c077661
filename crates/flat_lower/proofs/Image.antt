-- The first bytes of data memory hold the globals' first values.
use Rattle.std.proofs.Common.{◌≡◌, ◌≢◌, ℕ, zero, suc, ◌+◌, ◌-◌, ◌*◌, ◌/◌, ◌%◌, ◌^◌, ◌<◌, ◌≤◌, ◌⊎◌}
use Rattle.std.proofs.Common.{inl, inr, Bool, true, false, cond, ◌&&◌, List, [], ◌∷◌, ◌++◌, map}
use Rattle.std.proofs.Common.{length, replicate, get_or, All, Option, Some, None, refl, sym, ap}
use Rattle.std.proofs.Common.{ap₂, ◌∙◌, subst, append_assoc, mul-suc, mul_comm, pow-suc, div-one}
use Rattle.std.proofs.Common.{arith}
use Rattle.std.specs.Prelude.{nat_eq, nat_lt, nat_le, slice_get, slice_index}
use Rattle.std.proofs.lemmas.Bool.Decides.{nat_tests}
use native.Mathlib.Nat.{div-div-eq-div-mul, zero-div, pow-zero}
use Rattle.c_tree.specs.declared.Kind.{Kind}
use Rattle.c_tree.specs.declared.Kind.TheVariants.{Char, UChar, Short, UShort, Int, UInt, Long, ULong}
use Rattle.c_tree.specs.declared.Kind.TheVariants as kind
use Rattle.c_tree.specs.declared.TypedGlobal.{TypedGlobal}
use Rattle.c_constant.specs.Kinds.{bytes}
use Rattle.c_meaning_spec.specs.Eval.{length_of, first_cells}
use Rattle.trips_isa.specs.Stores.{data_size, is_good_address}
use Rattle.ir_forms.specs.inside.Frames.{frames_at, frame_limit, rounded}
use Rattle.ir_forms.specs.inside.Cells.{Memory, Mark, Held, Closed, Cell, load, number_put, byte_put}
use Rattle.ir_forms.specs.inside.Cells.{is_open, all_open}
use Rattle.ir_forms.specs.inside.FlatRuns.{checked, first_mark, first_memory}
use Rattle.c_constant.specs.Kinds.{IsWord}
use Rattle.flat_lower.specs.inside.Operations.{load_op}
use Rattle.flat_lower.specs.inside.Objects.{global_bytes, bytes_before, global_at}
use Rattle.flat_lower.specs.inside.Statements.{word_bytes, init_bytes, global_image, globals_image}
use Rattle.flat_lower.specs.inside.Fits.{FitsGlobal}
use Rattle.flat_lower.proofs.Bytes.{put_there, byte_here, each_open, load_same, load_saved}
use Rattle.flat_lower.proofs.Objects.{Object, element_at, end_of, Laid, laid_lower, by_size}
use Rattle.flat_lower.proofs.Objects.{size_is, element_in, good_element, Holds, Stored, AllStored}
use Rattle.flat_lower.proofs.Objects.{within_row}
use Rattle.flat_lower.proofs.Related.{object}
use Rattle.flat_lower.proofs.Entered.{replicate_length}

abbrev may_load : ℕ → Cell
may_load b = record { mark = Held; byte = b }

-- bytes that may be loaded, from an address on
abbrev pub ImageAt : Memory → ℕ → List ℕ → Type 0
ImageAt m lo bytes = (b : ℕ) → b < length bytes → m (lo + b) ≡ may_load (get_or bytes b 0)

-- LISTS

-- lists one behind the other are as long as both together
pub both_length : {A : Type 0} (xs ys : List A) → length (xs ++ ys) ≡ length xs + length ys
both_length [] ys = omega arith
both_length (x ∷ xs) ys = let e = both_length xs ys in omega arith

mapped_length : {A B : Type 0} (f : A → B) (xs : List A) → length (map f xs) ≡ length xs
mapped_length f [] = refl
mapped_length f (x ∷ xs) = ap suc (mapped_length f xs)

in_first : (xs ys : List ℕ) (b : ℕ) → b < length xs → get_or (xs ++ ys) b 0 ≡ get_or xs b 0
in_first [] ys b lt = absurd (omega arith)
in_first (x ∷ xs) ys zero lt = refl
in_first (x ∷ xs) ys (suc b) lt = in_first xs ys b (omega arith)

in_second : (xs ys : List ℕ) (b : ℕ) → get_or (xs ++ ys) (length xs + b) 0 ≡ get_or ys b 0
in_second [] ys b = ap (λ n. get_or ys n 0) (omega arith)
in_second (x ∷ xs) ys b =
    let e : suc (length xs) + b ≡ suc (length xs + b) = omega arith in
    ap (λ n. get_or (x ∷ (xs ++ ys)) n 0) e ∙ in_second xs ys b

zero_in : (n b : ℕ) → get_or (replicate n zero) b zero ≡ zero
zero_in zero b = refl
zero_in (suc n) zero = refl
zero_in (suc n) (suc b) = zero_in n b

-- the parts of an image
pub image_first : (m : Memory) (lo : ℕ) (xs ys : List ℕ) → ImageAt m lo (xs ++ ys) → ImageAt m lo xs
image_first m lo xs ys h b lt = h b (omega (arith, both_length xs ys))
    ∙ ap may_load (in_first xs ys b lt)

-- behind the first bytes of an image stand its other ones
pub image_rest : (m : Memory) (lo n : ℕ) (xs ys : List ℕ) → length xs ≡ n → ImageAt m lo (xs ++ ys)
    → ImageAt m (lo + n) ys
image_rest m lo n xs ys e h b lt =
    let at : lo + n + b ≡ lo + (length xs + b) = omega arith in
    ap m at ∙ h (length xs + b) (omega (arith, both_length xs ys)) ∙ ap may_load (in_second xs ys b)

-- THE BYTES OF A WORD

next_power : (v e : ℕ) → v / 256 / 256 ^ e ≡ v / 256 ^ suc e
next_power v e = div-div-eq-div-mul v 256 (256 ^ e)
    ∙ ap (λ n. v / n) (mul_comm 256 (256 ^ e) ∙ sym (pow-suc 256 e))

-- byte j of the bytes that a save puts
put_byte : (k : ℕ) (m : Memory) (a v j : ℕ) → j < k
    → number_put m a k v (a + j) ≡ may_load ((v / 256 ^ (k - 1 - j)) % 256)
put_byte zero m a v j lt = absurd (omega arith)
put_byte (suc k) m a v j lt = go (λ h. put_byte k (byte_put m (a + k) (v % 256)) a (v / 256) j h)
    (nat_eq j k) refl
  where
    n : Memory
    n = byte_put m (a + k) (v % 256)

    go : (j < k → number_put n a k (v / 256) (a + j)
        ≡ may_load ((v / 256 / 256 ^ (k - 1 - j)) % 256)) → (t : Bool) → nat_eq j k ≡ t
        → number_put n a k (v / 256) (a + j) ≡ may_load ((v / 256 ^ (suc k - 1 - j)) % 256)
    go rest true q =
        let same : j ≡ k = grind (arith, nat_tests) in
        let none : 0 ≡ suc k - 1 - j = omega arith in
        ap (λ j. number_put n a k (v / 256) (a + j)) same
        ∙ put_there k n a (v / 256) (a + k) (inr (omega arith))
        ∙ byte_here m (a + k) (v % 256)
        ∙ ap (λ x. may_load (x % 256)) (sym (div-one v) ∙ ap (λ x. v / x) (sym (pow-zero 256))
        ∙ ap (λ e. v / 256 ^ e) none)
    go rest false q =
        let other : j ≢ k = grind (arith, nat_tests) in
        let more : suc (k - 1 - j) ≡ suc k - 1 - j = omega arith in
        rest (omega arith)
        ∙ ap (λ x. may_load (x % 256)) (next_power v (k - 1 - j) ∙ ap (λ e. v / 256 ^ e) more)

word_length : (n w : ℕ) → length (word_bytes n w) ≡ n
word_length zero w = refl
word_length (suc n) w = ap suc (word_length n w)

word_byte : (n w j : ℕ) → j < n → get_or (word_bytes n w) j 0 ≡ (w / 256 ^ (n - 1 - j)) % 256
word_byte zero w j lt = absurd (omega arith)
word_byte (suc n) w zero lt = let e : n ≡ suc n - 1 - 0 = omega arith in ap (λ e. (w / 256 ^ e) % 256) e
word_byte (suc n) w (suc j) lt =
    let e : n - 1 - j ≡ suc n - 1 - suc j = omega arith in
    word_byte n w j (omega arith) ∙ ap (λ e. (w / 256 ^ e) % 256) e

zero_byte : (n j : ℕ) → j < n → get_or (word_bytes n 0) j 0 ≡ 0
zero_byte n j lt = word_byte n 0 j lt ∙ ap (λ x. x % 256) (zero-div (256 ^ (n - 1 - j)))

-- a word whose bytes are there is loaded
word_loaded : (k : Kind) (m : Memory) (a w : ℕ) → is_good_address a (bytes k) ≡ true → IsWord k w
    → ImageAt m a (word_bytes (bytes k) w) → load checked (load_op k) m a ≡ Some w
word_loaded k m a w good fits h =
    load_same k m (number_put m a (bytes k) w) a
    (λ i lt. h i (omega (arith, word_length (bytes k) w))
    ∙ ap may_load (word_byte (bytes k) w i lt) ∙ sym (put_byte (bytes k) m a w i lt))
    ∙ load_saved k m a w good fits

-- THE VALUES OF A GLOBAL

zero_fits : (k : Kind) → IsWord k 0
zero_fits Char = record { below = omega arith; narrow = omega arith }
zero_fits UChar = record { below = omega arith; narrow = omega arith }
zero_fits Short = record { below = omega arith; narrow = omega arith }
zero_fits UShort = record { below = omega arith; narrow = omega arith }
zero_fits Int = record { below = omega arith; narrow = omega arith }
zero_fits UInt = record { below = omega arith; narrow = omega arith }
zero_fits Long = record { below = omega arith; narrow = omega arith }
zero_fits ULong = record { below = omega arith; narrow = omega arith }
zero_fits kind.Bool = record { below = omega arith; narrow = omega arith }

pub record Has (k : Kind) (m : Memory) (a w : ℕ) : Type 0 where
  pub fits : IsWord k w
  pub loaded : load checked (load_op k) m a ≡ Some w

zero_at : (z i w : ℕ) → slice_get (replicate z (Some 0)) i ≡ Some (Some w) → (i < z) × (w ≡ 0)
zero_at zero i w e = absurd (cc e)
zero_at (suc z) zero w e = (omega arith, cc e)
zero_at (suc z) (suc i) w e = let x = zero_at z i w e in let lt = x.0 in (omega arith, x.1)

cells_image : (k : Kind) (m : Memory) (lo : ℕ) (ws : List ℕ) (r z i w : ℕ)
    → ImageAt m lo (init_bytes (bytes k) ws ++ replicate r 0)
    → ((j v : ℕ) → slice_get ws j ≡ Some v → IsWord k v)
    → is_good_address (lo + bytes k * i) (bytes k) ≡ true → bytes k * z ≤ r
    → slice_get (map Some ws ++ replicate z (Some 0)) i ≡ Some (Some w)
    → Has k m (lo + bytes k * i) w
cells_image k m lo [] r z i w h each good room e =
    let x = zero_at z i w e in
    let lt = x.0 in
    let within = element_in k 0 z i lt in
    record {
      fits = subst (IsWord k) (sym x.1) (zero_fits k);
      loaded = word_loaded k m (lo + bytes k * i) 0 good (zero_fits k) (λ b bt.
          let few : b < bytes k = omega (arith, word_length (bytes k) 0) in
          let at : lo + bytes k * i + b ≡ lo + (bytes k * i + b) = omega arith in
          ap m at ∙ h (bytes k * i + b) (omega (arith, replicate_length {A = ℕ} r 0))
          ∙ ap may_load (zero_in r (bytes k * i + b) ∙ sym (zero_byte (bytes k) b few)))
          ∙ ap Some (sym x.1);
    }
cells_image k m lo (v ∷ ws) r z zero w h each good room e =
    let same : v ≡ w = cc e in
    let rest = init_bytes (bytes k) ws ++ replicate r 0 in
    let at : lo ≡ lo + bytes k * 0 = omega arith in
    let first : ImageAt m lo (word_bytes (bytes k) v) = image_first m lo (word_bytes (bytes k) v) rest
    (subst (ImageAt m lo) (append_assoc (word_bytes (bytes k) v) (init_bytes (bytes k) ws) (replicate r 0)) h) in
    subst (λ w. Has k m (lo + bytes k * 0) w) same (record {
      fits = each 0 v refl;
      loaded = word_loaded k m (lo + bytes k * 0) v good (each 0 v refl)
          (subst (λ a. ImageAt m a (word_bytes (bytes k) v)) at first);
    })
cells_image k m lo (v ∷ ws) r z (suc i) w h each good room e =
    let rest = init_bytes (bytes k) ws ++ replicate r 0 in
    let at : lo + bytes k + bytes k * i ≡ lo + bytes k * suc i = omega (arith, mul-suc (bytes k) i) in
    let next : ImageAt m (lo + bytes k) rest = image_rest m lo (bytes k) (word_bytes (bytes k) v) rest
    (word_length (bytes k) v)
    (subst (ImageAt m lo) (append_assoc (word_bytes (bytes k) v) (init_bytes (bytes k) ws) (replicate r 0)) h) in
    subst (λ a. Has k m a w) at (cells_image k m (lo + bytes k) ws r z i w next
    (λ j u q. each (suc j) u q) (subst (λ a. is_good_address a (bytes k) ≡ true) (sym at) good)
    room e)

-- ONE GLOBAL

init_length : (k : Kind) (ws : List ℕ) → length (init_bytes (bytes k) ws) ≡ bytes k * length ws
init_length k [] = omega arith
init_length k (w ∷ ws) = both_length (word_bytes (bytes k) w) (init_bytes (bytes k) ws)
    ∙ ap₂ (λ a b. a + b) (word_length (bytes k) w) (init_length k ws)
    ∙ omega (arith, mul-suc (bytes k) (length ws))

fewer_bytes : (k : Kind) (n l : ℕ) → n ≤ l → bytes k * n ≤ bytes k * l
fewer_bytes k n l le = by_size (λ s. s * n ≤ s * l) (bytes k) (size_is k) (omega arith)
    (omega arith) (omega arith) (omega arith)

all_bytes : (k : Kind) (n : ℕ) → n * bytes k ≡ bytes k * n
all_bytes k n = mul_comm n (bytes k)

room_enough : (n : ℕ) → n ≤ rounded n
room_enough n = omega arith

rounded_whole : (n : ℕ) → rounded n % 8 ≡ 0
rounded_whole n = omega arith

-- the elements of a global have room in its bytes
pub global_room : (g : TypedGlobal) → bytes g.kind * length_of g.length ≤ global_bytes g
global_room g =
    let e = all_bytes g.kind (length_of g.length) in let x = room_enough (length_of g.length * bytes g.kind) in
    omega arith

-- the image of a global has its number of bytes
pub global_length : (g : TypedGlobal) → FitsGlobal g → length (global_image g) ≡ global_bytes g
global_length g t =
    let fits = fewer_bytes g.kind (length g.init) (length_of g.length) t.few in
    let x = global_room g in
    let e = all_bytes g.kind (length g.init) in
    let l = both_length (init_bytes (bytes g.kind) g.init)
    (replicate (global_bytes g - length g.init * bytes g.kind) 0) in
    let a = init_length g.kind g.init in
    let b = replicate_length {A = ℕ} (global_bytes g - length g.init * bytes g.kind) 0 in
    omega arith

all_words : (P : ℕ → Type 0) (ws : List ℕ) → All P ws → (j v : ℕ) → slice_get ws j ≡ Some v → P v
all_words P [] h j v e = absurd (cc e)
all_words P (w ∷ ws) h zero v e = let same : w ≡ v = cc e in subst P same (h 0 w (omega arith))
all_words P (w ∷ ws) h (suc j) v e = all_words P ws (λ k d lt. h (suc k) d (omega arith)) j v e

-- where a global's image stands, its first values are stored
pub global_stored : (m : Memory) (lo : ℕ) (g : TypedGlobal) → FitsGlobal g
    → ImageAt m lo (global_image g) → lo % 8 ≡ 0 → lo + global_bytes g ≤ data_size
    → Stored (object lo g.kind (length_of g.length) g.row) (first_cells g) m
global_stored m lo g t h whole room =
    let k = g.kind in
    let L = length_of g.length in
    let fits = fewer_bytes k (length g.init) L t.few in
    let x = global_room g in
    let e = all_bytes k (length g.init) in
    record {
      long = both_length (map Some g.init) (replicate (L - length g.init) (Some 0))
          ∙ ap₂ (λ a b. a + b) (mapped_length Some g.init)
          (replicate_length {A = Option ℕ} (L - length g.init) (Some 0)) ∙ omega (arith, t.few);
      holds = λ i w q.
          let lt = inside i w q in
          let last = element_in k lo L i lt in
          let v = cells_image k m lo g.init (global_bytes g - length g.init * bytes k) (L - length g.init) i w h
          (all_words (IsWord k) g.init t.words) (good_element k lo i whole (omega arith))
          (left_room k (length g.init) L (global_bytes g) t.few x) q in
          record { fits = v.fits; loaded = v.loaded };
      opens = λ i lt.
          let last = element_in k 0 L i lt in
          each_open m (lo + bytes k * i) (bytes k) (λ b bt.
          let at : lo + bytes k * i + b ≡ lo + (bytes k * i + b) = omega arith in
          ap (λ c. is_open c.mark) (ap m at
          ∙ h (bytes k * i + b) (omega (arith, global_length g t))));
    }
  where
    left_room : (k : Kind) (n l room : ℕ) → n ≤ l → bytes k * l ≤ room
        → bytes k * (l - n) ≤ room - n * bytes k
    left_room k n l room le h = by_size (λ s. s * l ≤ room → s * (l - n) ≤ room - n * s) (bytes k)
        (size_is k) (λ h. omega arith) (λ h. omega arith) (λ h. omega arith) (λ h. omega arith) h

    inside : (i w : ℕ) → slice_get (first_cells g) i ≡ Some (Some w) → i < length_of g.length
    inside i w q = go (map Some g.init ++ replicate (length_of g.length - length g.init) (Some 0)) i
        q (both_length (map Some g.init) (replicate (length_of g.length - length g.init) (Some 0))
        ∙ ap₂ (λ a b. a + b) (mapped_length Some g.init)
        (replicate_length {A = Option ℕ} (length_of g.length - length g.init) (Some 0))
        ∙ omega (arith, t.few))
      where
        go : (row : List (Option ℕ)) (i : ℕ) → slice_get row i ≡ Some (Some w)
            → length row ≡ length_of g.length → i < length_of g.length
        go row i q e = omega (arith, within_row row i (Some w) q)
