-- The fault that reading gives is the first one.
use Rattle.std.proofs.Common.{◌≡◌, ℕ, zero, suc, ◌+◌, ◌-◌, ◌*◌, ◌<◌, ◌≤◌, Bool, true, false, cond}
use Rattle.std.proofs.Common.{List, [], ◌∷◌, ◌++◌, length, drop, get_or, map, Option, Some, None}
use Rattle.std.proofs.Common.{Result, Ok, Err, refl, sym, ap, subst, ◌∙◌, arith, nat_lt, ◌&&◌}
use Rattle.std.proofs.Common.{append_assoc, ◌⊎◌, inl, inr}
use Rattle.std.proofs.lemmas.Bool.{ltb-false, ltb-true}
use Rattle.std.proofs.lemmas.List.{length-append, map-append, length-map}
use Rattle.trips_isa.specs.declared.block.Inst.{Inst}
use Rattle.block_image.specs.declared.fault.ImageFault.{ImageFault}
use Rattle.block_image.specs.declared.fault.ImageFault.TheVariants.{Truncated, BadField}
use Rattle.block_image.specs.Words.{slot_word}
use Rattle.trips_isa.specs.Fits.{FitsSlot}
use Rattle.trips_isa.specs.Limits.{most_chunks}
use Rattle.block_image.specs.inside.WordReading.{slot_of_word}
use Rattle.block_image.specs.HeaderReading.{info_from, chunks_in, is_bad}
use Rattle.block_image.specs.inside.HeaderReading.{first_bad}
use Rattle.block_image.proofs.Each.{Each, IsWord, AreBytes, AreWords, each_both, each_of, all_of}
use Rattle.block_image.specs.Spelling.{words_bytes}
use Rattle.block_image.specs.Reading.{all_empty, ◌>>=◌, Slots}
use Rattle.block_image.specs.inside.Reading.{words, slot_or_fault, with_front}
use Rattle.block_image.specs.inside.Reading.{slots_at, chunk_at, body_at, fault_at, header_at, least_at}
use Rattle.block_image.specs.inside.Reading.{block_at, parts_from}
use Rattle.block_image.specs.Faults.{Stands, SpellsNone, BodyFault, short, bad_slot, GoodHeader}
use Rattle.block_image.specs.Faults.{BlockFault, no_header, too_many, bad_word, in_body}
use Rattle.block_image.specs.Faults.{empty_chunk}
use Rattle.block_image.proofs.Words.{slot_again}
use Rattle.block_image.proofs.Lists.{no_bad_at, and_true, lt_true}
use Rattle.block_image.proofs.BodyLaws.{ChunkTaken, chunk_takes, body_takes, words_bytes_both}
use Rattle.block_image.proofs.BodyLaws.{slots_takes, slots_are_words, slot_found, SlotsTaken}
use Rattle.block_image.proofs.BodyLaws.{BodyTaken}
use Rattle.block_image.proofs.BlockLaws.{header_takes, HeaderTaken}
use Rattle.block_image.proofs.WordsTaken.{slot_takes}

-- ---- results that fail

-- two errors that are equal have equal faults
pub err_is : {A : Type 0} (d e : ImageFault) → ◌≡◌ {A = Result A ImageFault} (Err d) (Err e) → d ≡ e
err_is d e h = cc

abbrev fail : {A : Type 0} → ImageFault → Result A ImageFault
fail e = Err e

pub err_as : {A B : Type 0} (d e : ImageFault) → ◌≡◌ {A = Result B ImageFault} (Err d) (Err e)
    → ◌≡◌ {A = Result A ImageFault} (Err d) (Err e)
err_as {A} {B} d e h = ap (λ x. fail {A = A} x) (err_is {A = B} d e h)

-- a fault of two steps in a row is one of the first, or one of the second after what the first gave
pub split : {A B : Type 0} (r : Result A ImageFault) (f : A → Result B ImageFault) (e : ImageFault)
    → (r >>= f) ≡ Err e → (r ≡ Err e) ⊎ ((x : A) × (r ≡ Ok x) × (f x ≡ Err e))
split (Ok x) f e h = inr (x, refl, h)
split {A} {B} (Err d) f e h = inl (err_as {A = A} {B = B} d e h)

-- ---- slots

record SlotsFault (at : ℕ) (ws : List ℕ) (f : ImageFault) : Type 0 where
  pub slots : Slots
  pub word : ℕ
  pub rest : List ℕ
  pub fits : Each FitsSlot slots
  pub is : ws ≡ map slot_word slots ++ (word ∷ rest)
  pub none : SpellsNone word
  pub fault : BadField (at + 4 * length slots) ≡ f

no_slot : (w : ℕ) → slot_of_word w ≡ None → SpellsNone w
no_slot w e s f h = let a = slot_again s f in let b : slot_of_word w ≡ Some s = ap slot_of_word (sym h) ∙ a in
    cc

slot_fails : (at : ℕ) (o : Option (Option Inst)) (f : ImageFault) → slot_or_fault at o ≡ Err f
    → (o ≡ None) × (BadField at ≡ f)
slot_fails at None f e = (refl, err_is (BadField at) f e)
slot_fails at (Some s) f e = absurd cc

front_fails : (s : Slots) (r : Result Slots ImageFault) (f : ImageFault) → with_front s r ≡ Err f
    → r ≡ Err f
front_fails s (Ok t) f e = absurd cc
front_fails s (Err d) f e = cc

slots_fault : (at : ℕ) (ws : List ℕ) (f : ImageFault) → AreWords ws → slots_at at ws ≡ Err f
    → SlotsFault at ws f
slots_fault at [] f a e = absurd cc
slots_fault at (w ∷ ws) f a e =
    elim (split (slot_or_fault at (slot_of_word w))
    (λ s. with_front (s ∷ []) (slots_at (at + 4) ws)) f e) [
      | inl h ↦
          let k = slot_fails at (slot_of_word w) f h in
          let z : at + 4 * 0 ≡ at = omega arith in
          record {
            slots = [];
            word = w;
            rest = ws;
            fits = tt;
            is = refl;
            none = no_slot w k.0;
            fault = ap (λ (x : ℕ). BadField x) z ∙ k.1;
          }
      | inr h ↦
          let t = slot_takes w h.0 a.0 (slot_found at w (slot_of_word w) h.0 h.1) in
          let r = slots_fault (at + 4) ws f a.1
          (front_fails (h.0 ∷ []) (slots_at (at + 4) ws) f h.2) in
          let n : at + 4 * suc (length r.slots) ≡ at + 4 + 4 * length r.slots = omega arith in
          record {
            slots = h.0 ∷ r.slots;
            word = r.word;
            rest = r.rest;
            fits = (t.0, r.fits);
            is = ap (λ (x : ℕ). x ∷ ws) (sym t.1) ∙ ap (λ (x : List ℕ). slot_word h.0 ∷ x) r.is;
            none = r.none;
            fault = ap (λ (x : ℕ). BadField x) n ∙ r.fault;
          }
    ]

record FirstBad (info i : ℕ) (ws : List ℕ) (j : ℕ) : Type 0 where
  pub place : ℕ
  pub is : j ≡ i + place
  pub below : place < length ws
  pub bad : is_bad info (i + place) (get_or ws place 0) ≡ true
  pub before : (m : ℕ) → m < place → is_bad info (i + m) (get_or ws m 0) ≡ false

steps : (info i k w : ℕ) (ws : List ℕ) → is_bad info i w ≡ false
    → ((m : ℕ) → m < k → is_bad info (suc i + m) (get_or ws m 0) ≡ false) → (m : ℕ) → m < suc k
    → is_bad info (i + m) (get_or (w ∷ ws) m 0) ≡ false
steps info i k w ws p h zero l = let z : i + 0 ≡ i = omega arith in rw z p
steps info i k w ws p h (suc m) l = let n : i + suc m ≡ suc i + m = omega arith in
    rw n (h m (omega arith))

first_some : (info i : ℕ) (ws : List ℕ) (j : ℕ) → first_bad info i ws ≡ Some j
    → FirstBad info i ws j
unfolding first_bad
first_some info i [] j e = absurd cc
first_some info i (w ∷ ws) j e = by (is_bad info i w) refl e (first_some info (suc i) ws j)
  where
    z : i ≡ i + 0
    z = omega arith

    by : (b : Bool) → is_bad info i w ≡ b → cond b (Some i) (first_bad info (suc i) ws) ≡ Some j
        → (first_bad info (suc i) ws ≡ Some j → FirstBad info (suc i) ws j)
        → FirstBad info i (w ∷ ws) j
    by true p e r = record {
      place = 0;
      is = sym (let q : Some i ≡ Some j = e in let q' : i ≡ j = cc in q') ∙ z;
      below = omega arith;
      bad = ap (λ (x : ℕ). is_bad info x w) (sym z) ∙ p;
      before = λ m l. absurd (omega arith);
    }
    by false p e r =
        let g = r e in
        let k = g.place in
        let n : i + suc k ≡ suc i + k = omega arith in
        let b : k < length ws = g.below in
        record {
          place = suc k;
          is = g.is ∙ sym n;
          below = omega arith;
          bad = ap (λ (x : ℕ). is_bad info x (get_or ws k 0)) n ∙ g.bad;
          before = steps info i k w ws p g.before;
        }

-- ---- the body

chunk_fails : (at : ℕ) (bytes : List ℕ) (f : ImageFault) → chunk_at at bytes ≡ Err f
    → (length bytes < at + 128) × (Truncated (length bytes) ≡ f)
unfolding chunk_at
chunk_fails at bytes f e = by (nat_lt (length bytes) (at + 128)) refl e
  where
    by : (b : Bool) → nat_lt (length bytes) (at + 128) ≡ b
        → cond b (Err (Truncated (length bytes))) (Ok (words 32 (drop at bytes))) ≡ Err f
        → (length bytes < at + 128) × (Truncated (length bytes) ≡ f)
    by true p e = (ltb-true _ _ p, err_is (Truncated (length bytes)) f e)
    by false p e = absurd cc

join : (at : ℕ) (bytes ws more : List ℕ) → ChunkTaken at bytes ws → Stands (at + 128) bytes more
    → Stands at bytes (ws ++ more)
join at bytes ws more ck s = record {
  rest = s.rest;
  are_words = all_of IsWord (ws ++ more)
      (each_both IsWord ws more ck.words_are (each_of IsWord more s.are_words));
  spelled = ck.spelled ∙ ap (λ (x : List ℕ). words_bytes ws ++ x) s.spelled
      ∙ sym (append_assoc (words_bytes ws) (words_bytes more) s.rest)
      ∙ ap (λ (x : List ℕ). x ++ s.rest) (sym (words_bytes_both ws more));
}

later : (c at : ℕ) (bytes ws : List ℕ) (s : Slots) (f : ImageFault) → ChunkTaken at bytes ws
    → SlotsTaken ws s → BodyFault c (at + 128) bytes f → BodyFault (suc c) at bytes f
later c at bytes ws s f ck st b = elim b as (λ f b. BodyFault (suc c) at bytes f) [
  | short k slots lt len fits stands end ↦
      let ls : length s ≡ 32 = sym (length-map s slot_word) ∙ ap length st.spelled ∙ ck.size in
      let la = length-append s slots in
      let mp : map slot_word (s ++ slots) ≡ ws ++ map slot_word slots = map-append slot_word s slots
      ∙ ap (λ (x : List ℕ). x ++ map slot_word slots) st.spelled in
      short (suc k) (s ++ slots) (omega arith) (omega arith)
      (all_of FitsSlot (s ++ slots)
      (each_both FitsSlot s slots st.fits (each_of FitsSlot slots fits)))
      (subst (Stands at bytes) (sym mp) (join at bytes ws (map slot_word slots) ck stands))
      (omega arith)
  | bad_slot k slots w lt low high fits stands end none ↦
      let ls : length s ≡ 32 = sym (length-map s slot_word) ∙ ap length st.spelled ∙ ck.size in
      let la = length-append s slots in
      let mp : map slot_word (s ++ slots) ++ (w ∷ []) ≡ ws ++ (map slot_word slots ++ (w ∷ [])) =
      ap (λ (x : List ℕ). x ++ (w ∷ []))
      (map-append slot_word s slots ∙ ap (λ (x : List ℕ). x ++ map slot_word slots) st.spelled)
      ∙ append_assoc ws (map slot_word slots) (w ∷ []) in
      let pl : at + 4 * length (s ++ slots) ≡ at + 128 + 4 * length slots = omega arith in
      subst (λ (x : ℕ). BodyFault (suc c) at bytes (BadField x)) pl
      (bad_slot (suc k) (s ++ slots) w (omega arith) (omega arith) (omega arith)
      (all_of FitsSlot (s ++ slots)
      (each_both FitsSlot s slots st.fits (each_of FitsSlot slots fits)))
      (subst (Stands at bytes) (sym mp)
      (join at bytes ws (map slot_word slots ++ (w ∷ [])) ck stands)) (omega arith) none)
]

front_words : (a b : List ℕ) → AreWords (a ++ b) → AreWords a
front_words [] b f = tt
front_words (x ∷ a) b f = (f.0, front_words a b f.1)

body_fault : (c at : ℕ) (bytes : List ℕ) (f : ImageFault) → AreBytes bytes
    → body_at c at bytes ≡ Err f → BodyFault c at bytes f
body_fault zero at bytes f a e = absurd cc
body_fault (suc c) at bytes f a e =
    elim (split (chunk_at at bytes)
    (λ ws. slots_at at ws >>= λ s. with_front s (body_at c (at + 128) bytes)) f e) [
      | inl h ↦
          let k = chunk_fails at bytes f h in
          let l : length bytes < at + 128 * 0 + 128 = let l0 = k.0 in omega arith in
          subst (BodyFault (suc c) at bytes) k.1
          (short 0 [] (omega arith) refl (all_of FitsSlot [] tt)
          (record { rest = drop at bytes; are_words = all_of IsWord [] tt; spelled = refl }) l)
      | inr h ↦
          let ws = h.0 in
          let ck = chunk_takes at bytes ws a h.1 in
          elim (split (slots_at at ws) (λ s. with_front s (body_at c (at + 128) bytes)) f h.2) [
            | inl g ↦
                let r = slots_fault at ws f ck.words_are g in
                let n : length ws ≡ length r.slots + suc (length r.rest) = ap length r.is
                ∙ length-append (map slot_word r.slots) (r.word ∷ r.rest)
                ∙ ap (λ (x : ℕ). x + suc (length r.rest)) (length-map r.slots slot_word) in
                let m = ck.size in
                let i = ck.inside in
                let front = map slot_word r.slots ++ (r.word ∷ []) in
                let whole : ws ≡ front ++ r.rest = r.is
                ∙ sym (append_assoc (map slot_word r.slots) (r.word ∷ []) r.rest) in
                let aw = subst AreWords whole ck.words_are in
                subst (BodyFault (suc c) at bytes) r.fault
                (bad_slot 0 r.slots r.word (omega arith) (omega arith) (omega arith)
                (all_of FitsSlot r.slots r.fits)
                (record {
                  rest = words_bytes r.rest ++ drop (at + 128) bytes;
                  are_words = all_of IsWord front (front_words front r.rest aw);
                  spelled = ck.spelled ∙ ap (λ (x : List ℕ). words_bytes x ++ drop (at + 128) bytes)
                      whole ∙ ap (λ (x : List ℕ). x ++ drop (at + 128) bytes)
                      (words_bytes_both front r.rest)
                      ∙ append_assoc (words_bytes front) (words_bytes r.rest)
                      (drop (at + 128) bytes);
                })
                (omega arith) r.none)
            | inr g ↦ later c at bytes ws g.0 f ck (slots_takes at ws g.0 ck.words_are g.1)
                (body_fault c (at + 128) bytes f a
                (front_fails g.0 (body_at c (at + 128) bytes) f g.2))
          ]
    ]

stands_of : (at : ℕ) (bytes ws : List ℕ) → ChunkTaken at bytes ws → Stands at bytes ws
stands_of at bytes ws ck =
    record {
      rest = drop (at + 128) bytes;
      are_words = all_of IsWord ws ck.words_are;
      spelled = ck.spelled;
    }

bad_found : (total at : ℕ) (bytes ws : List ℕ) (f : ImageFault) (o : Option ℕ)
    → ChunkTaken at bytes ws → total + 1 + chunks_in (info_from 0 ws) ≤ most_chunks
    → first_bad (info_from 0 ws) 0 ws ≡ o → fault_at at o ≡ Err f → BlockFault total at bytes f
bad_found total at bytes ws f None ck l q e = absurd cc
bad_found total at bytes ws f (Some j) ck l q e =
    let info = info_from 0 ws in
    let b = first_some info 0 ws j q in
    let k = b.place in
    let n : (m : ℕ) → 0 + m ≡ m = λ m. omega arith in
    let jk : j ≡ k = b.is ∙ n k in
    let sz = ck.size in
    let low : k < length ws = b.below in
    subst (BlockFault total at bytes)
    (ap (λ (x : ℕ). BadField (at + 4 * x)) (sym jk) ∙ err_is (BadField (at + 4 * j)) f e)
    (bad_word ws k ck.size (stands_of at bytes ws ck) l (omega arith)
    (ap (λ (x : ℕ). is_bad info x (get_or ws k 0)) (sym (n k)) ∙ b.bad)
    (λ m lt. ap (λ (x : ℕ). is_bad info x (get_or ws m 0)) (sym (n m)) ∙ b.before m lt))

unit_fails : (info : ℕ) (r : Result (Unit {0}) ImageFault) (f : ImageFault)
    → (r >>= λ u. Ok info) ≡ Err f → r ≡ Err f
unit_fails info (Ok u) f e = absurd cc
unit_fails info (Err d) f e = cc

header_fault : (total at : ℕ) (bytes ws : List ℕ) (f : ImageFault) → ChunkTaken at bytes ws
    → header_at total at ws ≡ Err f → BlockFault total at bytes f
unfolding header_at
header_fault total at bytes ws f ck e =
    by (nat_lt most_chunks (total + 1 + chunks_in (info_from 0 ws))) refl e
  where
    by : (b : Bool) → nat_lt most_chunks (total + 1 + chunks_in (info_from 0 ws)) ≡ b
        → cond b (Err (BadField at))
        (fault_at at (first_bad (info_from 0 ws) 0 ws) >>= λ u. Ok (info_from 0 ws)) ≡ Err f
        → BlockFault total at bytes f
    by true p e = subst (BlockFault total at bytes) (err_is (BadField at) f e)
        (too_many ws ck.size (stands_of at bytes ws ck) (ltb-true _ _ p))
    by false p e = bad_found total at bytes ws f (first_bad (info_from 0 ws) 0 ws) ck
        (ltb-false _ _ p) refl (unit_fails (info_from 0 ws)
        (fault_at at (first_bad (info_from 0 ws) 0 ws)) f e)

good_header : (total at info : ℕ) (bytes ws : List ℕ) → ChunkTaken at bytes ws
    → HeaderTaken total info ws → GoodHeader total at bytes ws
good_header total at info bytes ws ck h =
    let sz = ck.size in
    let none = subst (λ (x : ℕ). first_bad x 0 ws ≡ None) (sym h.info_is) h.none in
    record {
      size = ck.size;
      stands = stands_of at bytes ws ck;
      total_is = subst (λ (x : ℕ). total + 1 + chunks_in x ≤ most_chunks) (sym h.info_is) h.total_is;
      good = λ i l. let n : i ≡ 0 + i = omega arith in
          ap (λ (x : ℕ). is_bad (info_from 0 ws) x (get_or ws i 0)) n
          ∙ no_bad_at (info_from 0 ws) 0 ws none i (omega arith);
    }

least_fault : (total at info : ℕ) (bytes ws : List ℕ) (s : Slots) (f : ImageFault)
    → GoodHeader total at bytes ws → info_from 0 ws ≡ info
    → BodyTaken (chunks_in info) (at + 128) bytes s → least_at at (chunks_in info) s ≡ Err f
    → BlockFault total at bytes f
unfolding least_at
least_fault total at info bytes ws s f gh i bd e =
    by (nat_lt 1 (chunks_in info) && all_empty (drop (32 * (chunks_in info - 1)) s)) refl e
  where
    by : (b : Bool) → (nat_lt 1 (chunks_in info) && all_empty (drop (32 * (chunks_in info - 1)) s))
        ≡ b → cond b (Err (BadField (at + 64))) (Ok s) ≡ Err f → BlockFault total at bytes f
    by true p e =
        let k = chunks_in info in
        let t = and_true (nat_lt 1 k) (all_empty (drop (32 * (k - 1)) s)) p in
        let j = ap chunks_in (sym i) in
        subst (BlockFault total at bytes) (err_is (BadField (at + 64)) f e)
        (empty_chunk ws s gh (bd.size ∙ ap (λ (x : ℕ). 32 * x) j) (all_of FitsSlot s bd.fits)
        (record {
          rest = drop (at + 128 + 128 * k) bytes;
          are_words = all_of IsWord (map slot_word s) (slots_are_words s bd.fits);
          spelled = bd.spelled;
        })
        (subst (λ (x : ℕ). 1 < x) j (lt_true 1 k t.0))
        (subst (λ (x : ℕ). all_empty (drop (32 * (x - 1)) s) ≡ true) j t.1))
    by false p e = absurd cc

good_fails : (info : ℕ) (ws : List ℕ) (r : Result Slots ImageFault) (f : ImageFault)
    → (r >>= λ good. Ok (parts_from info ws good)) ≡ Err f → r ≡ Err f
good_fails info ws (Ok u) f e = absurd cc
good_fails info ws (Err d) f e = cc

-- the fault that reading a block gives is a fault of this block's bytes
pub block_fault : (total at : ℕ) (bytes : List ℕ) (f : ImageFault) → AreBytes bytes
    → block_at total at bytes ≡ Err f → BlockFault total at bytes f
unfolding block_at
block_fault total at bytes f a e =
    elim (split (chunk_at at bytes)
    (λ ws. header_at total at ws >>= λ info. body_at (chunks_in info) (at + 128) bytes
    >>= λ slots. least_at at (chunks_in info) slots >>= λ good. Ok (parts_from info ws good)) f e) [
      | inl h ↦ let k = chunk_fails at bytes f h in
          subst (BlockFault total at bytes) k.1 (no_header k.0)
      | inr h ↦
          let ws = h.0 in
          let ck = chunk_takes at bytes ws a h.1 in
          elim (split (header_at total at ws)
          (λ info. body_at (chunks_in info) (at + 128) bytes >>= λ slots. least_at at
          (chunks_in info) slots >>= λ good. Ok (parts_from info ws good)) f h.2) [
            | inl g ↦ header_fault total at bytes ws f ck g
            | inr g ↦
                let info = g.0 in
                let ht = header_takes total at ws info g.1 in
                let gh = good_header total at info bytes ws ck ht in
                elim (split (body_at (chunks_in info) (at + 128) bytes)
                (λ slots. least_at at (chunks_in info) slots >>= λ good. Ok
                (parts_from info ws good)) f g.2) [
                  | inl d ↦ in_body ws f gh (subst
                      (λ (x : ℕ). BodyFault (chunks_in x) (at + 128) bytes f) (sym ht.info_is)
                      (body_fault (chunks_in info) (at + 128) bytes f a d))
                  | inr d ↦ least_fault total at info bytes ws d.0 f gh ht.info_is
                      (body_takes (chunks_in info) (at + 128) bytes d.0 ck.inside a d.1)
                      (good_fails info ws (least_at at (chunks_in info) d.0) f d.2)
                ]
          ]
    ]
