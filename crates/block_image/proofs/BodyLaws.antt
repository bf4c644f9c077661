-- Words and bytes, and the body of a block.
use Rattle.std.proofs.Common.{◌≡◌, ℕ, zero, suc, ◌+◌, ◌-◌, ◌*◌, ◌/◌, ◌%◌, ◌^◌, ◌<◌, ◌≤◌, Bool, true}
use Rattle.std.proofs.Common.{false, cond, List, [], ◌∷◌, ◌++◌, length, take, drop, map, Option}
use Rattle.std.proofs.Common.{Some, None, Ok, Err, refl, sym, ap, subst, ◌∙◌, arith, nat_lt}
use Rattle.std.proofs.Common.{append_assoc}
use Rattle.std.proofs.lemmas.Bool.{ltb-false, le-ltb}
use Rattle.std.proofs.lemmas.List.{take-append-drop, length-append, length-take, length-drop}
use Rattle.std.proofs.lemmas.List.{drop-drop, drop_at, map-append, length-map}
use Rattle.byteorder.specs.Endian.{big_number, big_bytes}
use Rattle.trips_isa.specs.declared.block.Inst.{Inst}
use Rattle.block_image.specs.declared.fault.ImageFault.{ImageFault}
use Rattle.block_image.specs.declared.fault.ImageFault.TheVariants.{Truncated}
use Rattle.block_image.specs.Words.{slot_word}
use Rattle.trips_isa.specs.Fits.{FitsSlot}
use Rattle.block_image.specs.inside.WordReading.{slot_of_word}
use Rattle.block_image.proofs.Each.{Each, AreBytes, AreWords, each_drop, each_take, each_both}
use Rattle.block_image.specs.Spelling.{words_bytes}
use Rattle.block_image.specs.Reading.{◌>>=◌, Slots}
use Rattle.block_image.specs.inside.Reading.{words, slot_or_fault, with_front, slots_at}
use Rattle.block_image.specs.inside.Reading.{chunk_at, body_at}
use Rattle.block_image.proofs.Words.{slot_again, slot_below}
use Rattle.block_image.proofs.WordsTaken.{slot_takes}
use Rattle.block_image.proofs.Lists.{bind_ok, ok_is, length-words, slots_length}

-- ---- one word

-- four bytes that were written of a number are read as this number
pub number_again : (w : ℕ) (rest : List ℕ) → w < 2 ^ 32 → big_number 4 (big_bytes 4 w ++ rest) ≡ w
number_again w rest l = omega arith

-- a number that is read of four bytes is below 2 ^ 32 and is written as these bytes
pub number_takes : (bytes : List ℕ) → 4 ≤ length bytes → AreBytes bytes
    → (big_bytes 4 (big_number 4 bytes) ++ drop 4 bytes ≡ bytes) × (big_number 4 bytes < 2 ^ 32)
number_takes [] l f = absurd (omega arith)
number_takes (a ∷ []) l f = absurd (omega arith)
number_takes (a ∷ b ∷ []) l f = absurd (omega arith)
number_takes (a ∷ b ∷ c ∷ []) l f = absurd (omega arith)
number_takes (a ∷ b ∷ c ∷ d ∷ rest) l f =
    let la : a < 256 = f.0 in
    let lb : b < 256 = f.1.0 in
    let lc : c < 256 = f.1.1.0 in
    let ld : d < 256 = f.1.1.1.0 in
    let n = a * 16777216 + (b * 65536 + (c * 256 + (d * 1 + 0))) in
    let ea : n / 16777216 % 256 ≡ a = omega arith in
    let eb : n / 65536 % 256 ≡ b = omega arith in
    let ec : n / 256 % 256 ≡ c = omega arith in
    let ed : n % 256 ≡ d = omega arith in
    let cell : ℕ → ℕ → ℕ → ℕ → List ℕ = λ a b c d. a ∷ b ∷ c ∷ d ∷ rest in (
      ap (λ x. cell x (n / 65536 % 256) (n / 256 % 256) (n % 256)) ea
          ∙ ap (λ x. cell a x (n / 256 % 256) (n % 256)) eb ∙ ap (λ x. cell a b x (n % 256)) ec
          ∙ ap (λ x. cell a b c x) ed,
      omega arith,
    )

-- ---- words of bytes

-- each word has four bytes
pub length-words_bytes : (ws : List ℕ) → length (words_bytes ws) ≡ 4 * length ws
length-words_bytes [] = refl
length-words_bytes (w ∷ ws) = let r = length-words_bytes ws in omega arith

pub words_again : (n : ℕ) (ws rest : List ℕ) → length ws ≡ n → AreWords ws
    → words n (words_bytes ws ++ rest) ≡ ws
unfolding words
words_again zero [] rest e f = refl
words_again zero (w ∷ ws) rest e f = absurd (omega arith)
words_again (suc n) [] rest e f = absurd (omega arith)
words_again (suc n) (w ∷ ws) rest e f =
    let first : big_number 4 (big_bytes 4 w ++ (words_bytes ws ++ rest)) ≡ w =
    number_again w (words_bytes ws ++ rest) f.0 in
    let others : words n (words_bytes ws ++ rest) ≡ ws = words_again n ws rest (omega arith) f.1 in
    ap (λ (x : ℕ). x ∷ words n (words_bytes ws ++ rest)) first ∙ ap (λ (xs : List ℕ). w ∷ xs) others

pub words_spell : (n : ℕ) (bytes : List ℕ) → 4 * n ≤ length bytes → AreBytes bytes
    → (words_bytes (words n bytes) ++ drop (4 * n) bytes ≡ bytes) × AreWords (words n bytes)
unfolding words
words_spell zero bytes l f = (refl, tt)
words_spell (suc n) bytes l f =
    let a = number_takes bytes (omega arith) f in
    let b = words_spell n (drop 4 bytes) (omega (arith, length-drop 4 bytes))
    (each_drop (λ b. b < 256) 4 bytes f) in
    let e : 4 * suc n ≡ 4 + 4 * n = omega arith in
    let d : drop (4 * n) (drop 4 bytes) ≡ drop (4 * suc n) bytes = drop-drop (4 * n) 4 bytes
    ∙ ap (λ (k : ℕ). drop k bytes) (sym e) in
    let x = big_bytes 4 (big_number 4 bytes) in
    let c : x ++ (words_bytes (words n (drop 4 bytes)) ++ drop (4 * suc n) bytes) ≡ bytes =
    ap (λ (r : List ℕ). x ++ (words_bytes (words n (drop 4 bytes)) ++ r)) (sym d)
    ∙ ap (λ (r : List ℕ). x ++ r) b.0 ∙ a.0 in
    (append_assoc x (words_bytes (words n (drop 4 bytes))) (drop (4 * suc n) bytes) ∙ c, (a.1, b.1))

-- the bytes of two lists of words one after the other
pub words_bytes_both : (a b : List ℕ) → words_bytes (a ++ b) ≡ words_bytes a ++ words_bytes b
words_bytes_both [] b = refl
words_bytes_both (w ∷ a) b = ap (λ (x : List ℕ). big_bytes 4 w ++ x) (words_bytes_both a b)
    ∙ sym (append_assoc (big_bytes 4 w) (words_bytes a) (words_bytes b))

-- ---- slots

-- slots that fit are written as words
pub slots_are_words : (s : Slots) → Each FitsSlot s → AreWords (map slot_word s)
slots_are_words [] f = tt
slots_are_words (x ∷ s) f = (slot_below x f.0, slots_are_words s f.1)

-- slots that fit are read again from their words
pub slots_again : (at : ℕ) (s : Slots) → Each FitsSlot s → slots_at at (map slot_word s) ≡ Ok s
slots_again at [] f = refl
slots_again at (x ∷ s) f = rw (slot_again x f.0, slots_again (at + 4) s f.1) refl

-- slots that were read: they fit, and they are written as these words
pub record SlotsTaken (ws : List ℕ) (s : Slots) : Type 0 where
  pub fits : Each FitsSlot s
  pub spelled : map slot_word s ≡ ws

-- a slot that is read without a fault was found
pub slot_found : (at w : ℕ) (o : Option (Option Inst)) (x : Option Inst) → slot_or_fault at o ≡ Ok x
    → o ≡ Some x
slot_found at w None x e = absurd cc
slot_found at w (Some y) x e = ap (λ z. Some z) (ok_is y x e)

-- slots that are read of words fit, and are written as these words
pub slots_takes : (at : ℕ) (ws : List ℕ) (s : Slots) → AreWords ws → slots_at at ws ≡ Ok s
    → SlotsTaken ws s
slots_takes at [] s f e = subst (SlotsTaken []) (ok_is [] s e)
    (record { fits = tt; spelled = refl })
slots_takes at (w ∷ ws) s f e =
    let a = bind_ok (slot_or_fault at (slot_of_word w))
    (λ s. with_front (s ∷ []) (slots_at (at + 4) ws)) s e in
    let b = bind_ok (slots_at (at + 4) ws) (λ t. Ok ((a.0 ∷ []) ++ t)) s a.2 in
    let t = slot_takes w a.0 f.0 (slot_found at w (slot_of_word w) a.0 a.1) in
    let r = slots_takes (at + 4) ws b.0 f.1 b.1 in
    subst (SlotsTaken (w ∷ ws)) (ok_is (a.0 ∷ b.0) s b.2)
    (record {
      fits = (t.0, r.fits);
      spelled = ap (λ (x : ℕ). x ∷ map slot_word b.0) t.1
          ∙ ap (λ (xs : List ℕ). w ∷ xs) r.spelled;
    })

-- ---- chunks

-- a chunk that was read: 32 words, whose bytes stand there
pub record ChunkTaken (at : ℕ) (bytes ws : List ℕ) : Type 0 where
  pub words_are : AreWords ws
  pub size : length ws ≡ 32
  pub inside : at + 128 ≤ length bytes
  pub spelled : drop at bytes ≡ words_bytes ws ++ drop (at + 128) bytes

-- an answer of a test that has not failed is the one behind it
pub test_false : {A : Type 0} (b : Bool) (d : ImageFault) (x y : A) → cond b (Err d) (Ok x) ≡ Ok y
    → (b ≡ false) × (x ≡ y)
test_false true d x y e = absurd cc
test_false false d x y e = (refl, ok_is x y e)

-- a chunk that is read is 32 words, whose bytes stand there
pub chunk_takes : (at : ℕ) (bytes ws : List ℕ) → AreBytes bytes → chunk_at at bytes ≡ Ok ws
    → ChunkTaken at bytes ws
unfolding chunk_at
chunk_takes at bytes ws f e =
    let t = test_false (nat_lt (length bytes) (at + 128)) (Truncated (length bytes))
    (words 32 (drop at bytes)) ws e in
    let l : at + 128 ≤ length bytes = ltb-false _ _ t.0 in
    let p = words_spell 32 (drop at bytes) (omega (arith, length-drop at bytes))
    (each_drop (λ b. b < 256) at bytes f) in
    subst (ChunkTaken at bytes) t.1 (record {
      words_are = p.1;
      size = length-words 32 (drop at bytes);
      inside = l;
      spelled = sym (ap (λ (r : List ℕ). words_bytes (words 32 (drop at bytes)) ++ r)
          (sym (drop-drop 128 at bytes)) ∙ p.0);
    })

-- the bytes of 32 words are read as these words
pub chunk_again : (at : ℕ) (bytes ws rest : List ℕ) → AreWords ws → length ws ≡ 32
    → drop at bytes ≡ words_bytes ws ++ rest → chunk_at at bytes ≡ Ok ws
unfolding chunk_at
chunk_again at bytes ws rest f e h =
    let n : length (words_bytes ws ++ rest) ≡ 4 * length ws + length rest =
    length-append (words_bytes ws) rest
    ∙ ap (λ (x : ℕ). x + length rest) (length-words_bytes ws) in
    let d : length bytes - at ≡ length (words_bytes ws ++ rest) = sym (length-drop at bytes)
    ∙ ap length h in
    let t : nat_lt (length bytes) (at + 128) ≡ false = le-ltb _ _ (omega arith) in
    rw (t, h, words_again 32 ws rest e f) refl

-- behind the bytes of a chunk stands the rest
pub after_chunk : (at : ℕ) (bytes ws rest : List ℕ) → length ws ≡ 32
    → drop at bytes ≡ words_bytes ws ++ rest → drop (at + 128) bytes ≡ rest
after_chunk at bytes ws rest e h = sym (drop-drop 128 at bytes) ∙ ap (drop 128) h
    ∙ drop_at (words_bytes ws) rest 128 (omega (arith, length-words_bytes ws))

-- ---- the body

-- the slots of a body that was read: they fit, and their words are the bytes
pub record BodyTaken (c at : ℕ) (bytes : List ℕ) (s : Slots) : Type 0 where
  pub fits : Each FitsSlot s
  pub size : length s ≡ 32 * c
  pub inside : at + 128 * c ≤ length bytes
  pub spelled : drop at bytes ≡ words_bytes (map slot_word s) ++ drop (at + 128 * c) bytes

-- a body that is read fits, and its bytes stand there
pub body_takes : (c at : ℕ) (bytes : List ℕ) (s : Slots) → at ≤ length bytes → AreBytes bytes
    → body_at c at bytes ≡ Ok s → BodyTaken c at bytes s
body_takes zero at bytes s l f e =
    let z : at + 128 * 0 ≡ at = omega arith in
    subst (BodyTaken 0 at bytes) (ok_is [] s e)
    (record { fits = tt; size = refl; inside = omega arith; spelled = rw z refl })
body_takes (suc c) at bytes s l f e =
    let k = bind_ok (chunk_at at bytes)
    (λ ws. slots_at at ws >>= λ s. with_front s (body_at c (at + 128) bytes)) s e in
    let ws = k.0 in
    let a = bind_ok (slots_at at ws) (λ s. with_front s (body_at c (at + 128) bytes)) s k.2 in
    let b = bind_ok (body_at c (at + 128) bytes) (λ t. Ok (a.0 ++ t)) s a.2 in
    let ck = chunk_takes at bytes ws f k.1 in
    let st = slots_takes at ws a.0 ck.words_are a.1 in
    let r = body_takes c (at + 128) bytes b.0 ck.inside f b.1 in
    let p : at + 128 + 128 * c ≡ at + 128 * suc c = omega arith in
    let wb = words_bytes (map slot_word b.0) in
    let rest = drop (at + 128 + 128 * c) bytes in
    let one : words_bytes (map slot_word (a.0 ++ b.0)) ≡ words_bytes ws ++ wb =
    ap words_bytes (map-append slot_word a.0 b.0)
    ∙ words_bytes_both (map slot_word a.0) (map slot_word b.0)
    ∙ ap (λ (x : List ℕ). words_bytes x ++ wb) st.spelled in
    let len : length a.0 ≡ length ws = slots_length at ws a.0 a.1 in
    let size = ck.size in
    let more = r.size in
    subst (BodyTaken (suc c) at bytes) (ok_is (a.0 ++ b.0) s b.2) (record {
      fits = each_both FitsSlot a.0 b.0 st.fits r.fits;
      size = omega (arith, length-append a.0 b.0);
      inside = subst (λ (x : ℕ). x ≤ length bytes) p r.inside;
      spelled = ck.spelled ∙ ap (λ (x : List ℕ). words_bytes ws ++ x) r.spelled
          ∙ sym (append_assoc (words_bytes ws) wb rest) ∙ ap (λ (x : List ℕ). x ++ rest) (sym one)
          ∙ ap (λ (x : ℕ). words_bytes (map slot_word (a.0 ++ b.0)) ++ drop x bytes) p;
    })

-- the bytes of slots that fit are read as these slots
pub body_again : (c at : ℕ) (bytes rest : List ℕ) (s : Slots) → Each FitsSlot s → length s ≡ 32 * c
    → drop at bytes ≡ words_bytes (map slot_word s) ++ rest → body_at c at bytes ≡ Ok s
body_again zero at bytes rest [] f e h = refl
body_again zero at bytes rest (x ∷ s) f e h = absurd (omega arith)
body_again (suc c) at bytes rest s f e h =
    let a = take 32 s in
    let b = drop 32 s in
    let la : length a ≡ 32 = omega (arith, length-take 32 s) in
    let lb : length b ≡ 32 * c = omega (arith, length-drop 32 s) in
    let both : s ≡ a ++ b = sym (take-append-drop 32 s) in
    let fa = each_take FitsSlot 32 s f in
    let fb = each_drop FitsSlot 32 s f in
    let wa = map slot_word a in
    let wb = map slot_word b in
    let split : drop at bytes ≡ words_bytes wa ++ (words_bytes wb ++ rest) =
    h ∙ ap (λ (x : Slots). words_bytes (map slot_word x) ++ rest) both
    ∙ ap (λ (x : List ℕ). words_bytes x ++ rest) (map-append slot_word a b)
    ∙ ap (λ (x : List ℕ). x ++ rest) (words_bytes_both wa wb)
    ∙ append_assoc (words_bytes wa) (words_bytes wb) rest in
    let lw : length wa ≡ 32 = length-map a slot_word ∙ la in
    let ck = chunk_again at bytes wa (words_bytes wb ++ rest) (slots_are_words a fa) lw split in
    let next = body_again c (at + 128) bytes rest b fb lb
    (after_chunk at bytes wa (words_bytes wb ++ rest) lw split) in
    rw (ck, slots_again at a fa, next) (ap (λ (x : Slots). Ok x) (sym both))
