-- Words of eight bytes.
use Rattle.std.proofs.Common.{◌≡◌, ℕ, zero, suc, ◌+◌, ◌-◌, ◌*◌, ◌^◌, ◌<◌, ◌≤◌, List, [], ◌∷◌, ◌++◌, length, take}
use Rattle.std.proofs.Common.{drop}
use Rattle.std.proofs.Common.{get_or}
use Rattle.std.proofs.Common.{refl, sym, ap, ◌∙◌, arith, append_assoc}
use Rattle.std.specs.List.{flat_map}
use Rattle.std.specs.Int.{w64, from_be_bytes}
use Rattle.std.proofs.lemmas.Nat.{be_bytes_8}
use Rattle.std.proofs.lemmas.List.{drop-drop, drop-take, length-drop}
use Rattle.byteorder.specs.Endian.{big_number, big_bytes, IsRead}
use Rattle.byteorder.specs.Numbers.{big_from-take, big_number-reads_back}
use Rattle.block_image.proofs.Each.{Each, AreBytes, each_drop}
use Rattle.machine_save.specs.inside.Reading.{words}

-- each item of a list of bytes is a byte, also behind its end
byte_each : (bs : List ℕ) → AreBytes bs → (i : ℕ) → get_or bs i 0 < 256
byte_each [] a i = omega arith
byte_each (b ∷ bs) a zero = a.0
byte_each (b ∷ bs) a (suc i) = byte_each bs a.1 i

-- a word that is read of eight bytes is below 2 ^ 64 and is written as these bytes
pub word_takes : (bytes : List ℕ) → 8 ≤ length bytes → AreBytes bytes
    → (big_bytes 8 (big_number 8 bytes) ++ drop 8 bytes ≡ bytes) × (big_number 8 bytes < 2 ^ 64)
word_takes [] l k = absurd (omega arith)
word_takes (a ∷ []) l k = absurd (omega arith)
word_takes (a ∷ b ∷ []) l k = absurd (omega arith)
word_takes (a ∷ b ∷ c ∷ []) l k = absurd (omega arith)
word_takes (a ∷ b ∷ c ∷ d ∷ []) l k = absurd (omega arith)
word_takes (a ∷ b ∷ c ∷ d ∷ e ∷ []) l k = absurd (omega arith)
word_takes (a ∷ b ∷ c ∷ d ∷ e ∷ f ∷ []) l k = absurd (omega arith)
word_takes (a ∷ b ∷ c ∷ d ∷ e ∷ f ∷ g ∷ []) l k = absurd (omega arith)
word_takes (a ∷ b ∷ c ∷ d ∷ e ∷ f ∷ g ∷ h ∷ rest) l k =
    let la : a < 256 = k.0 in
    let lb : b < 256 = k.1.0 in
    let lc : c < 256 = k.1.1.0 in
    let ld : d < 256 = k.1.1.1.0 in
    let le : e < 256 = k.1.1.1.1.0 in
    let lf : f < 256 = k.1.1.1.1.1.0 in
    let lg : g < 256 = k.1.1.1.1.1.1.0 in
    let lh : h < 256 = k.1.1.1.1.1.1.1.0 in
    let bs : List ℕ = a ∷ b ∷ c ∷ d ∷ e ∷ f ∷ g ∷ h ∷ [] in
    let n : ℕ = big_number 8 (a ∷ b ∷ c ∷ d ∷ e ∷ f ∷ g ∷ h ∷ rest) in
    let each : AreBytes bs = (la, (lb, (lc, (ld, (le, (lf, (lg, (lh, tt)))))))) in
    let same : n ≡ from_be_bytes w64 bs = omega arith in
    let is : big_bytes 8 n ≡ bs = be_bytes_8 bs n refl (byte_each bs each) same in
    (ap (λ (x : List ℕ). x ++ rest) is, omega arith)

-- the eight bytes that were written of a word are read as this word
pub word_again : (w : ℕ) (rest : List ℕ) → w < 2 ^ 64 → big_number 8 (big_bytes 8 w ++ rest) ≡ w
word_again w rest l = big_number-reads_back 8 w rest l

pub length-words : (n : ℕ) (bytes : List ℕ) → length (words n bytes) ≡ n
unfolding words
length-words zero bytes = refl
length-words (suc n) bytes = ap suc (length-words n (drop 8 bytes))

-- each word has eight bytes
pub length-bytes : (ws : List ℕ) → length (flat_map (big_bytes 8) ws) ≡ 8 * length ws
length-bytes [] = refl
length-bytes (w ∷ ws) = let r = length-bytes ws in omega arith

-- the words that were written are read
pub words_again : (n : ℕ) (ws rest : List ℕ) → length ws ≡ n → Each (λ w. w < 2 ^ 64) ws
    → words n (flat_map (big_bytes 8) ws ++ rest) ≡ ws
unfolding words
words_again zero [] rest e f = refl
words_again zero (w ∷ ws) rest e f = absurd (omega arith)
words_again (suc n) [] rest e f = absurd (omega arith)
words_again (suc n) (w ∷ ws) rest e f =
    let more : List ℕ = flat_map (big_bytes 8) ws ++ rest in
    let first : big_number 8 (big_bytes 8 w ++ more) ≡ w = word_again w more f.0 in
    let others : words n more ≡ ws = words_again n ws rest (omega arith) f.1 in
    ap (λ (x : ℕ). x ∷ words n more) first ∙ ap (λ (xs : List ℕ). w ∷ xs) others

-- the words that are read are below 2 ^ 64, and are written as these bytes
pub words_spell : (n : ℕ) (bytes : List ℕ) → 8 * n ≤ length bytes → AreBytes bytes
    → (flat_map (big_bytes 8) (words n bytes) ++ drop (8 * n) bytes ≡ bytes)
    × Each (λ w. w < 2 ^ 64) (words n bytes)
unfolding words
words_spell zero bytes l f = (refl, tt)
words_spell (suc n) bytes l f =
    let a = word_takes bytes (omega arith) f in
    let b = words_spell n (drop 8 bytes) (omega (arith, length-drop 8 bytes))
    (each_drop (λ b. b < 256) 8 bytes f) in
    let e : 8 * suc n ≡ 8 + 8 * n = omega arith in
    let d : drop (8 * n) (drop 8 bytes) ≡ drop (8 * suc n) bytes = drop-drop (8 * n) 8 bytes
    ∙ ap (λ (k : ℕ). drop k bytes) (sym e) in
    let x = big_bytes 8 (big_number 8 bytes) in
    let c : x ++ (flat_map (big_bytes 8) (words n (drop 8 bytes)) ++ drop (8 * suc n) bytes) ≡ bytes =
    ap (λ (r : List ℕ). x ++ (flat_map (big_bytes 8) (words n (drop 8 bytes)) ++ r)) (sym d)
    ∙ ap (λ (r : List ℕ). x ++ r) b.0 ∙ a.0 in
    (append_assoc x (flat_map (big_bytes 8) (words n (drop 8 bytes))) (drop (8 * suc n) bytes) ∙ c, (a.1, b.1))

-- what is read as numbers of eight bytes is the words of these bytes
pub words_is : (n : ℕ) (src dst : List ℕ) → length dst ≡ n → IsRead big_number 8 src dst → dst ≡ words n src
unfolding words
words_is zero src [] e h = refl
words_is zero src (w ∷ ws) e h = absurd (omega arith)
words_is (suc n) src [] e h = absurd (omega arith)
words_is (suc n) src (w ∷ ws) e h =
    let first : w ≡ big_number 8 src = h 0 (omega arith) in
    let e8 : (k : ℕ) → drop (8 * suc k) src ≡ drop (8 * k) (drop 8 src) =
    λ k. let e : 8 * suc k ≡ 8 + 8 * k = omega arith in rw e (sym (drop-drop (8 * k) 8 src)) in
    let others : IsRead big_number 8 (drop 8 src) ws = λ k lt. h (suc k) (omega arith)
    ∙ ap (big_number 8) (e8 k) in
    let rest : ws ≡ words n (drop 8 src) = words_is n (drop 8 src) ws (omega arith) others in
    rw (first, rest) refl

-- the first n words are the same of all bytes that hold them
pub words_take : (n m : ℕ) (bytes : List ℕ) → 8 * n ≤ m → words n (take m bytes) ≡ words n bytes
unfolding words
words_take zero m bytes l = refl
words_take (suc n) m bytes l =
    let a : big_number 8 (take m bytes) ≡ big_number 8 bytes =
    big_from-take 0 8 m bytes (omega arith) in
    let b : drop 8 (take m bytes) ≡ take (m - 8) (drop 8 bytes) = let e : m ≡ 8 + (m - 8) =
    omega arith in ap (λ (k : ℕ). drop 8 (take k bytes)) e ∙ drop-take 8 (m - 8) bytes in
    let c : words n (drop 8 (take m bytes)) ≡ words n (drop 8 bytes) = ap (words n) b
    ∙ words_take n (m - 8) (drop 8 bytes) (omega arith) in
    ap (λ (x : ℕ). x ∷ words n (drop 8 (take m bytes))) a
    ∙ ap (λ (xs : List ℕ). big_number 8 bytes ∷ xs) c
