-- Where a fault is the first one, reading gives it.
use Rattle.std.proofs.Common.{◌≡◌, ℕ, zero, suc, ◌+◌, ◌-◌, ◌*◌, ◌^◌, ◌<◌, ◌≤◌, true, false, List}
use Rattle.std.proofs.Common.{[], ◌∷◌, ◌++◌, length, take, drop, get_or, map, Option, Some, None}
use Rattle.std.proofs.Common.{Result, Ok, Err, refl, sym, ap, subst, ◌∙◌, arith, nat_lt}
use Rattle.std.proofs.Common.{append_assoc}
use Rattle.std.proofs.lemmas.Bool.{le-ltb}
use Rattle.std.proofs.lemmas.List.{length-append, map-append, length-drop, take-append-drop}
use Rattle.std.proofs.lemmas.List.{length-take, length-map}
use Rattle.byteorder.specs.Endian.{big_bytes}
use Rattle.trips_isa.specs.declared.block.Inst.{Inst}
use Rattle.block_image.specs.declared.fault.ImageFault.{ImageFault}
use Rattle.block_image.specs.declared.fault.ImageFault.TheVariants.{Truncated, BadField}
use Rattle.block_image.specs.Words.{slot_word}
use Rattle.trips_isa.specs.Fits.{FitsSlot}
use Rattle.trips_isa.specs.Limits.{most_chunks}
use Rattle.block_image.specs.inside.WordReading.{slot_of_word}
use Rattle.block_image.specs.HeaderReading.{info_from, chunks_in, is_bad}
use Rattle.block_image.specs.inside.HeaderReading.{first_bad}
use Rattle.block_image.proofs.Each.{IsWord, Each, AreWords, each_take, each_drop, each_of, all_of}
use Rattle.block_image.specs.Spelling.{words_bytes}
use Rattle.block_image.specs.Reading.{all_empty, Slots}
use Rattle.block_image.specs.inside.Reading.{words, slots_at, chunk_at, body_at}
use Rattle.block_image.specs.inside.Reading.{header_at, least_at, block_at}
use Rattle.block_image.specs.Faults.{Stands, SpellsNone, BodyFault, short, bad_slot, GoodHeader}
use Rattle.block_image.specs.Faults.{BlockFault, no_header, too_many, bad_word, in_body}
use Rattle.block_image.specs.Faults.{empty_chunk}
use Rattle.block_image.proofs.Words.{slot_again}
use Rattle.block_image.proofs.BodyLaws.{chunk_again, after_chunk, body_again, words_bytes_both}
use Rattle.block_image.proofs.BodyLaws.{slots_again, slots_are_words, number_again}
use Rattle.block_image.proofs.ImageLaws.{true_lt}
use Rattle.block_image.proofs.WordsTaken.{slot_takes}

-- ---- the body

no_slot_again : (w : ℕ) → w < 2 ^ 32 → SpellsNone w → slot_of_word w ≡ None
no_slot_again w l n = by (slot_of_word w) refl
  where
    by : (o : Option (Option Inst)) → slot_of_word w ≡ o → slot_of_word w ≡ None
    by None e = e
    by (Some s) e = absurd (let t = slot_takes w s l e in n s t.0 t.1)

slots_stop : (at : ℕ) (s : Slots) (w : ℕ) (more : List ℕ) → Each FitsSlot s → slot_of_word w ≡ None
    → slots_at at (map slot_word s ++ (w ∷ more)) ≡ Err (BadField (at + 4 * length s))
slots_stop at [] w more f e = let z : at + 4 * 0 ≡ at = omega arith in rw (e, z) refl
slots_stop at (x ∷ s) w more f e =
    let n : at + 4 + 4 * length s ≡ at + 4 * suc (length s) = omega arith in
    rw (slot_again x f.0, slots_stop (at + 4) s w more f.1 e, n) refl

words_front : (ws rest : List ℕ) (m : ℕ) → AreWords ws
    → words (length ws + m) (words_bytes ws ++ rest) ≡ ws ++ words m rest
unfolding words
words_front [] rest m f = let z : 0 + m ≡ m = omega arith in ap (λ (x : ℕ). words x rest) z
words_front (w ∷ ws) rest m f =
    let n : suc (length ws) + m ≡ suc (length ws + m) = omega arith in
    ap (λ (x : ℕ). words x (big_bytes 4 w ++ (words_bytes ws ++ rest))) n
    ∙ ap (λ (x : ℕ). x ∷ words (length ws + m) (words_bytes ws ++ rest))
    (number_again w (words_bytes ws ++ rest) f.0)
    ∙ ap (λ (xs : List ℕ). w ∷ xs) (words_front ws rest m f.1)

record Head (at : ℕ) (bytes : List ℕ) (s : Slots) (more : List ℕ) : Type 0 where
  pub chunk : chunk_at at bytes ≡ Ok (map slot_word (take 32 s))
  pub fits : Each FitsSlot (take 32 s)
  pub others : Each FitsSlot (drop 32 s)
  pub rest : List ℕ
  pub spelled : drop (at + 128) bytes ≡ words_bytes (map slot_word (drop 32 s) ++ more) ++ rest

head : (at : ℕ) (bytes : List ℕ) (s : Slots) (more : List ℕ) → 32 ≤ length s → Each FitsSlot s
    → Stands at bytes (map slot_word s ++ more) → Head at bytes s more
head at bytes s more l f st =
    let a = take 32 s in
    let b = drop 32 s in
    let wa = map slot_word a in
    let tail = map slot_word b ++ more in
    let la : length a ≡ 32 = omega (arith, length-take 32 s) in
    let lw : length wa ≡ 32 = length-map a slot_word ∙ la in
    let fa = each_take FitsSlot 32 s f in
    let whole : map slot_word s ++ more ≡ wa ++ tail =
    ap (λ (x : Slots). map slot_word x ++ more) (sym (take-append-drop 32 s))
    ∙ ap (λ (x : List ℕ). x ++ more) (map-append slot_word a b)
    ∙ append_assoc wa (map slot_word b) more in
    let split : drop at bytes ≡ words_bytes wa ++ (words_bytes tail ++ st.rest) = st.spelled
    ∙ ap (λ (x : List ℕ). words_bytes x ++ st.rest) whole
    ∙ ap (λ (x : List ℕ). x ++ st.rest) (words_bytes_both wa tail)
    ∙ append_assoc (words_bytes wa) (words_bytes tail) st.rest in
    record {
      chunk = chunk_again at bytes wa (words_bytes tail ++ st.rest)
          (slots_are_words a fa) lw split;
      fits = fa;
      others = each_drop FitsSlot 32 s f;
      rest = st.rest;
      spelled = after_chunk at bytes wa (words_bytes tail ++ st.rest) lw split;
    }

words_tail : (a b : List ℕ) → AreWords (a ++ b) → AreWords b
words_tail [] b f = f
words_tail (x ∷ a) b f = words_tail a b f.1

further : (c at : ℕ) (bytes : List ℕ) (s : Slots) (f : ImageFault)
    → chunk_at at bytes ≡ Ok (map slot_word (take 32 s)) → Each FitsSlot (take 32 s)
    → body_at c (at + 128) bytes ≡ Err f → body_at (suc c) at bytes ≡ Err f
further c at bytes s f ck fits e = rw (ck, slots_again at (take 32 s) fits, e) refl

short_again : (k c at : ℕ) (bytes : List ℕ) (s : Slots) → k < c → length s ≡ 32 * k
    → Each FitsSlot s → Stands at bytes (map slot_word s ++ []) → length bytes < at + 128 * k + 128
    → body_at c at bytes ≡ Err (Truncated (length bytes))
unfolding chunk_at
short_again k zero at bytes s l n f st e = absurd (omega arith)
short_again zero (suc c) at bytes s l n f st e =
    rw (true_lt (length bytes) (at + 128) (omega arith)) refl
short_again (suc k) (suc c) at bytes s l n f st e =
    let h = head at bytes s [] (omega arith) f st in
    let ls = length-drop 32 s in
    let rest : Stands (at + 128) bytes (map slot_word (drop 32 s) ++ []) =
    record {
      rest = h.rest;
      are_words =
          all_of IsWord (map slot_word (drop 32 s) ++ [])
          (words_none (map slot_word (drop 32 s)) (slots_are_words (drop 32 s) h.others));
      spelled = h.spelled;
    } in
    further c at bytes s (Truncated (length bytes)) h.chunk h.fits
    (short_again k c (at + 128) bytes (drop 32 s) (omega arith) (omega arith) h.others rest
    (omega arith))
  where
    words_none : (ws : List ℕ) → AreWords ws → AreWords (ws ++ [])
    words_none [] f = tt
    words_none (w ∷ ws) f = (f.0, words_none ws f.1)

words_and : (a : List ℕ) (w : ℕ) → AreWords a → w < 2 ^ 32 → AreWords (a ++ (w ∷ []))
words_and [] w f l = (l, tt)
words_and (x ∷ a) w f l = (f.0, words_and a w f.1 l)

bad_again : (k c at : ℕ) (bytes : List ℕ) (s : Slots) (w : ℕ) → k < c → 32 * k ≤ length s
    → length s < 32 * k + 32 → Each FitsSlot s → Stands at bytes (map slot_word s ++ (w ∷ []))
    → at + 128 * k + 128 ≤ length bytes → SpellsNone w
    → body_at c at bytes ≡ Err (BadField (at + 4 * length s))
unfolding chunk_at
bad_again k zero at bytes s w l low high f st e n = absurd (omega arith)
bad_again zero (suc c) at bytes s w l low high f st e n =
    let front = map slot_word s ++ (w ∷ []) in
    let lf : length front ≡ length s + 1 = length-append (map slot_word s) (w ∷ [])
    ∙ ap (λ (x : ℕ). x + 1) (length-map s slot_word) in
    let m = 31 - length s in
    let total : 32 ≡ length front + m = omega arith in
    let low32 : w < 2 ^ 32 = (words_tail (map slot_word s) (w ∷ [])
    (each_of IsWord (map slot_word s ++ (w ∷ [])) st.are_words)).0 in
    let ws : words 32 (drop at bytes) ≡ map slot_word s ++ (w ∷ words m st.rest) =
    ap (words 32) st.spelled ∙ ap (λ (x : ℕ). words x (words_bytes front ++ st.rest)) total
    ∙ words_front front st.rest m (each_of IsWord front st.are_words)
    ∙ append_assoc (map slot_word s) (w ∷ []) (words m st.rest) in
    rw (
      le-ltb (length bytes) (at + 128) (omega arith),
      ws,
      slots_stop at s w (words m st.rest) f (no_slot_again w low32 n),
    ) refl
bad_again (suc k) (suc c) at bytes s w l low high f st e n =
    let h = head at bytes s (w ∷ []) (omega arith) f st in
    let ls = length-drop 32 s in
    let low32 : w < 2 ^ 32 = (words_tail (map slot_word s) (w ∷ [])
    (each_of IsWord (map slot_word s ++ (w ∷ [])) st.are_words)).0 in
    let rest : Stands (at + 128) bytes (map slot_word (drop 32 s) ++ (w ∷ [])) =
    record {
      rest = h.rest;
      are_words =
          all_of IsWord (map slot_word (drop 32 s) ++ (w ∷ []))
          (words_and (map slot_word (drop 32 s)) w (slots_are_words (drop 32 s) h.others) low32);
      spelled = h.spelled;
    } in
    let p : at + 128 + 4 * length (drop 32 s) ≡ at + 4 * length s = omega arith in
    further c at bytes s (BadField (at + 4 * length s)) h.chunk h.fits
    (bad_again k c (at + 128) bytes (drop 32 s) w (omega arith) (omega arith)
    (omega arith) h.others rest (omega arith) n ∙ ap (λ (x : ℕ). failed (BadField x)) p)
  where
    failed : ImageFault → Result Slots ImageFault
    failed x = Err x

append_none : (at : ℕ) (bytes ws : List ℕ) → Stands at bytes ws → Stands at bytes (ws ++ [])
append_none at bytes ws st = subst (Stands at bytes) (sym (none ws)) st
  where
    none : (xs : List ℕ) → xs ++ [] ≡ xs
    none [] = refl
    none (x ∷ xs) = ap (λ (r : List ℕ). x ∷ r) (none xs)

body_fault_again : (c at : ℕ) (bytes : List ℕ) (f : ImageFault) → BodyFault c at bytes f
    → body_at c at bytes ≡ Err f
body_fault_again c at bytes f b = elim b as (λ f b. body_at c at bytes ≡ Err f) [
  | short k s lt len fits st end ↦
      short_again k c at bytes s lt len (each_of FitsSlot s fits)
      (append_none at bytes (map slot_word s) st) end
  | bad_slot k s w lt low high fits st end none ↦
      bad_again k c at bytes s w lt low high (each_of FitsSlot s fits) st end none
]

-- ---- the block

first_again : (info i k : ℕ) (ws : List ℕ) → k < length ws
    → is_bad info (i + k) (get_or ws k 0) ≡ true
    → ((m : ℕ) → m < k → is_bad info (i + m) (get_or ws m 0) ≡ false)
    → first_bad info i ws ≡ Some (i + k)
unfolding first_bad
first_again info i k [] l b h = absurd (omega arith)
first_again info i zero (w ∷ ws) l b h =
    let z : i + 0 ≡ i = omega arith in
    let b' : is_bad info i w ≡ true = ap (λ (x : ℕ). is_bad info x w) (sym z) ∙ b in
    rw (b', z) refl
first_again info i (suc k) (w ∷ ws) l b h =
    let z : i + 0 ≡ i = omega arith in
    let n : (m : ℕ) → suc i + m ≡ i + suc m = λ m. omega arith in
    let first : is_bad info i w ≡ false = ap (λ (x : ℕ). is_bad info x w) (sym z)
    ∙ h 0 (omega arith) in
    rw (first, sym (n k)) (first_again info (suc i) k ws (omega arith)
    (ap (λ (x : ℕ). is_bad info x (get_or ws k 0)) (n k) ∙ b)
    (λ m lt. ap (λ (x : ℕ). is_bad info x (get_or ws m 0)) (n m) ∙ h (suc m) (omega arith)))

none_again : (info i : ℕ) (ws : List ℕ)
    → ((m : ℕ) → m < length ws → is_bad info (i + m) (get_or ws m 0) ≡ false)
    → first_bad info i ws ≡ None
unfolding first_bad
none_again info i [] h = refl
none_again info i (w ∷ ws) h =
    let z : i + 0 ≡ i = omega arith in
    let first : is_bad info i w ≡ false = ap (λ (x : ℕ). is_bad info x w) (sym z)
    ∙ h 0 (omega arith) in
    rw first (none_again info (suc i) ws
    (λ m lt. let n : suc i + m ≡ i + suc m = omega arith in
    ap (λ (x : ℕ). is_bad info x (get_or ws m 0)) n ∙ h (suc m) (omega arith)))

good_again : (total at : ℕ) (bytes ws : List ℕ) → GoodHeader total at bytes ws
    → header_at total at ws ≡ Ok (info_from 0 ws)
unfolding header_at
good_again total at bytes ws g =
    let s = g.size in
    let none : first_bad (info_from 0 ws) 0 ws ≡ None =
    none_again (info_from 0 ws) 0 ws
    (λ m l. let n : 0 + m ≡ m = omega arith in
    ap (λ (x : ℕ). is_bad (info_from 0 ws) x (get_or ws m 0)) n ∙ g.good m (omega arith)) in
    let l : nat_lt most_chunks (total + 1 + chunks_in (info_from 0 ws)) ≡ false =
    le-ltb _ _ g.total_is in rw (l, none) refl

no_chunk : (at : ℕ) (bytes : List ℕ) → length bytes < at + 128
    → chunk_at at bytes ≡ Err (Truncated (length bytes))
unfolding chunk_at
no_chunk at bytes l = rw (true_lt (length bytes) (at + 128) l) refl

chunk_of : (at : ℕ) (bytes ws : List ℕ) → length ws ≡ 32 → Stands at bytes ws
    → chunk_at at bytes ≡ Ok ws
chunk_of at bytes ws n st =
    chunk_again at bytes ws st.rest (each_of IsWord ws st.are_words) n st.spelled

header_many : (total at : ℕ) (ws : List ℕ) → most_chunks < total + 1 + chunks_in (info_from 0 ws)
    → header_at total at ws ≡ Err (BadField at)
unfolding header_at
header_many total at ws l = let t : nat_lt most_chunks (total + 1 + chunks_in (info_from 0 ws)) ≡ true =
    true_lt _ _ l in rw t refl

header_bad : (total at i : ℕ) (ws : List ℕ) → total + 1 + chunks_in (info_from 0 ws) ≤ most_chunks
    → i < length ws → is_bad (info_from 0 ws) i (get_or ws i 0) ≡ true
    → ((j : ℕ) → j < i → is_bad (info_from 0 ws) j (get_or ws j 0) ≡ false)
    → header_at total at ws ≡ Err (BadField (at + 4 * i))
unfolding header_at
header_bad total at i ws l n b h =
    let info = info_from 0 ws in
    let z : (m : ℕ) → m ≡ 0 + m = λ m. omega arith in
    let first : first_bad info 0 ws ≡ Some i =
    first_again info 0 i ws n (ap (λ (x : ℕ). is_bad info x (get_or ws i 0)) (sym (z i)) ∙ b)
    (λ m lt. ap (λ (x : ℕ). is_bad info x (get_or ws m 0)) (sym (z m)) ∙ h m lt)
    ∙ ap (λ (x : ℕ). found x) (sym (z i)) in
    let t : nat_lt most_chunks (total + 1 + chunks_in info) ≡ false = le-ltb _ _ l in
    rw (t, first) refl
  where
    found : ℕ → Option ℕ
    found x = Some x

least_bad : (at c : ℕ) (s : Slots) → 1 < c → all_empty (drop (32 * (c - 1)) s) ≡ true
    → least_at at c s ≡ Err (BadField (at + 64))
unfolding least_at
least_bad at c s l e = rw (true_lt 1 c l, e) refl

-- reading a block whose bytes have a fault gives this fault
pub block_fault_again : (total at : ℕ) (bytes : List ℕ) (f : ImageFault)
    → BlockFault total at bytes f → block_at total at bytes ≡ Err f
unfolding block_at
block_fault_again total at bytes f b = elim b as (λ f b. block_at total at bytes ≡ Err f) [
  | no_header l ↦ rw (no_chunk at bytes l) refl
  | too_many ws n st l ↦ rw (chunk_of at bytes ws n st, header_many total at ws l) refl
  | bad_word ws i n st t l bad before ↦ let k : i < length ws = omega arith in
      rw (chunk_of at bytes ws n st, header_bad total at i ws t k bad before) refl
  | in_body ws f g b ↦ rw (
    chunk_of at bytes ws g.size g.stands,
    good_again total at bytes ws g,
    body_fault_again (chunks_in (info_from 0 ws)) (at + 128) bytes f b,
  ) refl
  | empty_chunk ws s g n fits st l e ↦
      rw (
        chunk_of at bytes ws g.size g.stands,
        good_again total at bytes ws g,
        body_again (chunks_in (info_from 0 ws)) (at + 128) bytes st.rest s
            (each_of FitsSlot s fits) n st.spelled,
        least_bad at (chunks_in (info_from 0 ws)) s l e,
      ) refl
]
