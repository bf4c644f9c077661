-- A block that is read is the block that was written.
use Rattle.std.proofs.Common.{◌≡◌, ℕ, zero, suc, ◌+◌, ◌-◌, ◌*◌, ◌^◌, ◌<◌, ◌≤◌, Bool, true, false}
use Rattle.std.proofs.Common.{cond, List, [], ◌∷◌, ◌++◌, length, take, drop, map, replicate, Option}
use Rattle.std.proofs.Common.{Some, None, Result, Ok, Err, refl, sym, ap, subst, ◌∙◌, arith, nat_lt}
use Rattle.std.proofs.Common.{◌&&◌, append_assoc}
use Rattle.std.proofs.lemmas.Bool.{ltb-false, le-ltb}
use Rattle.std.proofs.lemmas.List.{take-append-drop, length-append, length-take, length-drop}
use Rattle.std.proofs.lemmas.List.{take_at, length-map, length-replicate, drop-append-le}
use Rattle.trips_isa.specs.declared.block.Inst.{Inst}
use Rattle.block_image.specs.declared.fault.ImageFault.{ImageFault}
use Rattle.block_image.specs.declared.fault.ImageFault.TheVariants.{BadField}
use Rattle.block_image.specs.Words.{slot_word}
use Rattle.trips_isa.specs.Fits.{FitsSlot, FitsRead, FitsBlock}
use Rattle.block_image.specs.Headers.{words_from, info_of}
use Rattle.block_image.specs.HeaderReading.{info_from, reads_in, writes_in, chunks_in}
use Rattle.block_image.specs.inside.HeaderReading.{mask_in}
use Rattle.block_image.specs.HeaderReading.{is_good_info}
use Rattle.block_image.specs.inside.HeaderReading.{first_bad, read_at, write_at}
use Rattle.trips_isa.specs.declared.block.Block.{Block}
use Rattle.trips_isa.specs.Limits.{most_chunks}
use Rattle.block_image.proofs.Each.{Each, AreBytes, each_take, each_both, each_of, all_of}
use Rattle.block_image.specs.Spelling.{words_bytes, chunks_of, block_bytes}
use Rattle.block_image.specs.Reading.{all_empty, ◌>>=◌, Slots}
use Rattle.block_image.specs.inside.Reading.{chunk_at, body_at, fault_at}
use Rattle.block_image.specs.inside.Reading.{header_at, parts_from, least_at, block_at}
use Rattle.block_image.proofs.Lists.{bind_ok, ok_is, counts, good_info}
use Rattle.block_image.proofs.HeaderLaws.{words_takes, read_fits, info_again, info_below}
use Rattle.block_image.proofs.HeaderAgain.{length-words_from, words_from_below, reads_again}
use Rattle.block_image.proofs.HeaderAgain.{writes_again, none_bad, InfoIs, info_is, info_takes}
use Rattle.block_image.proofs.BodyLaws.{BodyTaken, words_bytes_both, test_false, chunk_takes}
use Rattle.block_image.proofs.BodyLaws.{chunk_again, after_chunk, body_takes, body_again}
use Rattle.block_image.proofs.BodyLaws.{ChunkTaken}
use Rattle.block_image.proofs.Chunks.{padded, chunks_takes, chunks_least, Least, empty_both}
use Rattle.block_image.proofs.Chunks.{empty_is}

-- ---- taken

-- A block that was read: it fits, the total is kept, and its bytes stand there.
pub record BlockTaken (total at : ℕ) (bytes : List ℕ) (b : Block) : Type 0 where
  pub fits : FitsBlock b
  pub total_is : total + 1 + chunks_of b.insts.items ≤ most_chunks
  pub inside : at + 128 + 128 * chunks_of b.insts.items ≤ length bytes
  pub spelled : drop at bytes ≡ block_bytes b ++ drop
      (at + 128 + 128 * chunks_of b.insts.items) bytes

each_reads : (ws : List ℕ) → Each FitsRead (map read_at ws)
each_reads [] = tt
each_reads (w ∷ ws) = (read_fits w, each_reads ws)

each_writes : (ws : List ℕ) → Each (λ w. w < 128) (map write_at ws)
each_writes [] = tt
each_writes (w ∷ ws) = (omega arith, each_writes ws)

each_none : (n : ℕ) → Each FitsSlot (replicate n None)
each_none zero = tt
each_none (suc n) = (tt, each_none n)

-- the words of a header that was read: their info bits, no bad word, and room for the body's chunks
pub record HeaderTaken (total info : ℕ) (ws : List ℕ) : Type 0 where
  pub info_is : info_from 0 ws ≡ info
  pub none : first_bad info 0 ws ≡ None
  pub total_is : total + 1 + chunks_in info ≤ most_chunks

no_fault : (at : ℕ) (o : Option ℕ) (u : Unit {0}) → fault_at at o ≡ Ok u → o ≡ None
no_fault at None u e = refl
no_fault at (Some i) u e = absurd cc

-- an answer without a fault has passed the test before it
pub cond_ok : {A : Type 0} (b : Bool) (d : ImageFault) (r : Result A ImageFault) (y : A)
    → cond b (Err d) r ≡ Ok y → (b ≡ false) × (r ≡ Ok y)
cond_ok true d r y e = absurd cc
cond_ok false d r y e = (refl, e)

-- a header that is read has such words
pub header_takes : (total at : ℕ) (ws : List ℕ) (info : ℕ) → header_at total at ws ≡ Ok info
    → HeaderTaken total info ws
unfolding header_at
header_takes total at ws info e =
    let i = info_from 0 ws in
    let t = cond_ok (nat_lt most_chunks (total + 1 + chunks_in i)) (BadField at)
    (fault_at at (first_bad i 0 ws) >>= λ u. Ok i) info e in
    let b = bind_ok (fault_at at (first_bad i 0 ws)) (λ u. Ok i) info t.1 in
    let same : i ≡ info = ok_is i info b.2 in
    subst (λ (x : ℕ). HeaderTaken total x ws) same
    (record {
      info_is = refl;
      none = no_fault at (first_bad i 0 ws) b.0 b.1;
      total_is = ltb-false _ _ t.0;
    })

minus_zero : (n : ℕ) → n - 0 ≡ n
minus_zero n = omega arith

made_takes : (total at info : ℕ) (bytes ws : List ℕ) (s : Slots) → ChunkTaken at bytes ws
    → HeaderTaken total info ws → BodyTaken (chunks_in info) (at + 128) bytes s
    → (nat_lt 1 (chunks_in info) && all_empty (drop (32 * (chunks_in info - 1)) s)) ≡ false
    → BlockTaken total at bytes (parts_from info ws s)
unfolding parts_from padded block_bytes
made_takes total at info bytes ws s ck hd bd least =
    let k = counts info (good_info info ws ck.size hd.none) in
    let c = chunks_in info in
    let r = map read_at (take (reads_in info) ws) in
    let w = map write_at (take (writes_in info) ws) in
    let k0 = k.some in let k1 = k.chunks in let k2 = k.reads in let k3 = k.writes in
    let n = ck.size in let m = bd.size in
    let lr : length r ≡ reads_in info =
    omega (arith, length-map (take (reads_in info) ws) read_at, length-take (reads_in info) ws) in
    let lw : length w ≡ writes_in info =
    omega (
      arith,
      length-map (take (writes_in info) ws) write_at,
      length-take (writes_in info) ws,
    ) in
    let ch : chunks_of (padded s) ≡ c = chunks_takes c s k0 k1 m least in
    let small : info < 2 ^ 64 =
    subst (λ (x : ℕ). x < 2 ^ 64) hd.info_is (info_below 32 ws n ck.words_are) in
    let io : info_of (mask_in info) (length r) (length w) (chunks_of (padded s)) ≡ info =
    ap (λ (x : ℕ). info_of (mask_in info) x (length w) (chunks_of (padded s))) lr
    ∙ ap (λ (x : ℕ). info_of (mask_in info) (reads_in info) x (chunks_of (padded s))) lw
    ∙ ap (λ (x : ℕ). info_of (mask_in info) (reads_in info) (writes_in info) x) ch
    ∙ info_takes info small k in
    let wt = words_takes info 32 0 ws n ck.words_are hd.none in
    let hw : words_from 32 info r w ≡ ws =
    ap (λ (x : ℕ). words_from 32 x r w) (sym hd.info_is)
    ∙ ap (λ (x : ℕ). words_from 32 (info_from 0 ws) (map read_at (take x ws)) w)
    (sym (minus_zero (reads_in info)))
    ∙ ap (λ (x : ℕ). words_from 32 (info_from 0 ws) (map read_at (take (reads_in info - 0) ws))
    (map write_at (take x ws))) (sym (minus_zero (writes_in info))) ∙ wt in
    let hall : words_from 32 (info_of (mask_in info) (length r) (length w) (chunks_of (padded s))) r
    w ≡ ws = ap (λ (x : ℕ). words_from 32 x r w) io ∙ hw in
    let tk : take (32 * chunks_of (padded s)) (padded s) ≡ s =
    ap (λ (x : ℕ). take (32 * x) (padded s)) ch
    ∙ take_at s (replicate (128 - length s) None) (32 * c) m in
    let all : words_bytes (words_from 32
    (info_of (mask_in info) (length r) (length w) (chunks_of (padded s))) r w ++ map slot_word
    (take (32 * chunks_of (padded s)) (padded s))) ≡ words_bytes ws ++ words_bytes
    (map slot_word s) =
    ap (λ (x : List ℕ). words_bytes
    (x ++ map slot_word (take (32 * chunks_of (padded s)) (padded s)))) hall
    ∙ ap (λ (x : Slots). words_bytes (ws ++ map slot_word x)) tk
    ∙ words_bytes_both ws (map slot_word s) in
    let end = drop (at + 128 + 128 * c) bytes in
    record {
      fits = record {
        reads = omega arith;
        each_read = all_of FitsRead r (each_reads (take (reads_in info) ws));
        writes = omega arith;
        each_write = all_of (λ w. w < 128) w (each_writes (take (writes_in info) ws));
        mask = omega arith;
        insts = omega (
          arith,
          length-append s (replicate (128 - length s) None),
          length-replicate {A = Option Inst} (128 - length s) None,
        );
        each_inst = all_of FitsSlot (s ++ replicate (128 - length s) None)
            (each_both FitsSlot s (replicate (128 - length s) None) bd.fits
            (each_none (128 - length s)));
      };
      total_is = subst (λ (x : ℕ). total + 1 + x ≤ most_chunks) (sym ch) hd.total_is;
      inside = subst (λ (x : ℕ). at + 128 + 128 * x ≤ length bytes) (sym ch) bd.inside;
      spelled = ck.spelled ∙ ap (λ (x : List ℕ). words_bytes ws ++ x) bd.spelled
          ∙ sym (append_assoc (words_bytes ws) (words_bytes (map slot_word s)) end)
          ∙ ap (λ (x : List ℕ). x ++ end) (sym all)
          ∙ ap (λ (x : ℕ). words_bytes
          (words_from 32 (info_of (mask_in info) (length r) (length w) (chunks_of (padded s))) r w
          ++ map slot_word (take (32 * chunks_of (padded s)) (padded s))) ++ drop
          (at + 128 + 128 * x) bytes) (sym ch);
    }

-- a block that is read fits, and its bytes stand there
pub block_takes : (total at : ℕ) (bytes : List ℕ) (b : Block) → AreBytes bytes
    → block_at total at bytes ≡ Ok b → BlockTaken total at bytes b
unfolding block_at least_at
block_takes total at bytes b f e =
    let k = bind_ok (chunk_at at bytes)
    (λ ws. header_at total at ws >>= λ info. body_at (chunks_in info) (at + 128) bytes
    >>= λ slots. least_at at (chunks_in info) slots >>= λ good. Ok (parts_from info ws good)) b e
    in
    let ws = k.0 in
    let h = bind_ok (header_at total at ws)
    (λ info. body_at (chunks_in info) (at + 128) bytes >>= λ slots. least_at at
    (chunks_in info) slots >>= λ good. Ok (parts_from info ws good)) b k.2 in
    let info = h.0 in
    let d = bind_ok (body_at (chunks_in info) (at + 128) bytes)
    (λ slots. least_at at (chunks_in info) slots >>= λ good. Ok (parts_from info ws good)) b h.2
    in
    let s = d.0 in
    let g = bind_ok (least_at at (chunks_in info) s) (λ good. Ok (parts_from info ws good)) b d.2 in
    let l = test_false (nat_lt 1 (chunks_in info) && all_empty (drop (32 * (chunks_in info - 1)) s))
    (BadField (at + 64)) s g.0 g.1 in
    let ck = chunk_takes at bytes ws f k.1 in
    let made = made_takes total at info bytes ws s ck (header_takes total at ws info h.1)
    (body_takes (chunks_in info) (at + 128) bytes s ck.inside f d.1) l.0 in
    subst (BlockTaken total at bytes)
    (ap (λ (x : Slots). parts_from info ws x) l.1 ∙ ok_is (parts_from info ws g.0) b g.2) made

-- ---- again

parts_again : (b : Block) (info : ℕ) → FitsBlock b
    → InfoIs info b.mask (length b.reads.items) (length b.writes.items) (chunks_of b.insts.items)
    → parts_from info (words_from 32 info b.reads.items b.writes.items)
    (take (32 * chunks_of b.insts.items) b.insts.items) ≡ b
unfolding parts_from
parts_again b info f i =
    let c = chunks_of b.insts.items in
    let least = chunks_least b.insts.items f.insts in
    let l0 = least.most in
    let li = f.insts in
    let fr = each_of FitsRead b.reads.items f.each_read in
    let fw = each_of (λ w. w < 128) b.writes.items f.each_write in
    let r : map read_at (take (reads_in info) (words_from 32 info b.reads.items b.writes.items)) ≡
    b.reads.items = ap (λ (x : ℕ). map read_at
    (take x (words_from 32 info b.reads.items b.writes.items))) i.reads_are
    ∙ reads_again 32 info b.reads.items b.writes.items i.below fr fw f.reads in
    let w : map write_at (take (writes_in info) (words_from 32 info b.reads.items b.writes.items)) ≡
    b.writes.items = ap (λ (x : ℕ). map write_at
    (take x (words_from 32 info b.reads.items b.writes.items))) i.writes_are
    ∙ writes_again 32 info b.reads.items b.writes.items i.below fr fw f.writes in
    let lt : length (take (32 * c) b.insts.items) ≡ 32 * c =
    omega (arith, length-take (32 * c) b.insts.items) in
    let ld : 128 - length (take (32 * c) b.insts.items) ≡ length (drop (32 * c) b.insts.items) =
    omega (arith, length-drop (32 * c) b.insts.items) in
    let s : take (32 * c) b.insts.items ++ replicate
    (128 - length (take (32 * c) b.insts.items)) None ≡ b.insts.items =
    ap (λ (x : ℕ). take (32 * c) b.insts.items ++ replicate x None) ld
    ∙ ap (λ (x : Slots). take (32 * c) b.insts.items ++ x)
    (sym (empty_is (drop (32 * c) b.insts.items) least.holds))
    ∙ take-append-drop (32 * c) b.insts.items in
    rw (r, w, s, i.mask_is) refl

least_again : (c : ℕ) (s : Slots) → length s ≡ 128 → Least c s
    → (nat_lt 1 c && all_empty (drop (32 * (c - 1)) (take (32 * c) s))) ≡ false
least_again c s e l =
    let l0 = l.some in let l1 = l.most in
    let t = take (32 * c) s in
    let d = drop (32 * c) s in
    let lt : length t ≡ 32 * c = omega (arith, length-take (32 * c) s) in
    let split : drop (32 * (c - 1)) s ≡ drop (32 * (c - 1)) t ++ d =
    ap (drop (32 * (c - 1))) (sym (take-append-drop (32 * c) s))
    ∙ drop-append-le (32 * (c - 1)) t d (omega arith) in
    let same : all_empty (drop (32 * (c - 1)) s) ≡ (all_empty (drop (32 * (c - 1)) t) && true) =
    ap all_empty split ∙ empty_both (drop (32 * (c - 1)) t) d
    ∙ ap (λ x. all_empty (drop (32 * (c - 1)) t) && x) l.holds in
    let one : all_empty (drop (32 * (c - 1)) t) ≡ all_empty (drop (32 * (c - 1)) s) =
    sym (true_right (all_empty (drop (32 * (c - 1)) t))) ∙ sym same in
    ap (λ x. nat_lt 1 c && x) one ∙ l.least
  where
    true_right : (a : Bool) → (a && true) ≡ a
    true_right true = refl
    true_right false = refl

-- a block that is written is read back
pub block_again : (total at : ℕ) (bytes rest : List ℕ) (b : Block) → FitsBlock b
    → total + 1 + chunks_of b.insts.items ≤ most_chunks → drop at bytes ≡ block_bytes b ++ rest
    → block_at total at bytes ≡ Ok b
unfolding block_at header_at least_at block_bytes
block_again total at bytes rest b f l e =
    let c = chunks_of b.insts.items in
    let least = chunks_least b.insts.items f.insts in
    let l0 = least.some in let l1 = least.most in let li = f.insts in
    let fr = each_of FitsRead b.reads.items f.each_read in
    let fw = each_of (λ w. w < 128) b.writes.items f.each_write in
    let fe = each_of FitsSlot b.insts.items f.each_inst in
    let info = info_of b.mask (length b.reads.items) (length b.writes.items) c in
    let i = info_is b.mask (length b.reads.items)
    (length b.writes.items) c f.mask f.reads f.writes l0 l1 in
    let h = words_from 32 info b.reads.items b.writes.items in
    let s = take (32 * c) b.insts.items in
    let lh : length h ≡ 32 = length-words_from 32 info b.reads.items b.writes.items in
    let ah = words_from_below 32 info b.reads.items b.writes.items i.below fr fw in
    let split : drop at bytes ≡ words_bytes h ++ (words_bytes (map slot_word s) ++ rest) = e
    ∙ ap (λ (x : List ℕ). x ++ rest) (words_bytes_both h (map slot_word s))
    ∙ append_assoc (words_bytes h) (words_bytes (map slot_word s)) rest in
    let ck : chunk_at at bytes ≡ Ok h =
    chunk_again at bytes h (words_bytes (map slot_word s) ++ rest) ah lh split in
    let z : 0 * 4 ^ 32 + info ≡ info = omega arith in
    let fi : info_from 0 h ≡ info = info_again 32 0 info b.reads.items b.writes.items i.below fr fw
    ∙ z in
    let nb : first_bad info 0 h ≡ None =
    none_bad info 32 0 info b.reads.items b.writes.items i.below fr fw i.good
    (sym i.reads_are ∙ sym (minus_zero (reads_in info)))
    (sym i.writes_are ∙ sym (minus_zero (writes_in info))) in
    let tt1 : nat_lt most_chunks (total + 1 + chunks_in info) ≡ false =
    le-ltb _ _ (subst (λ (x : ℕ). total + 1 + x ≤ most_chunks) (sym i.chunks_are) l) in
    let bd : body_at c (at + 128) bytes ≡ Ok s =
    body_again c (at + 128) bytes rest s (each_take FitsSlot (32 * c) b.insts.items fe)
    (omega (arith, length-take (32 * c) b.insts.items))
    (after_chunk at bytes h (words_bytes (map slot_word s) ++ rest) lh split) in
    let la = least_again c b.insts.items f.insts least in
    let bd' : body_at (chunks_in info) (at + 128) bytes ≡ Ok s =
    ap (λ (x : ℕ). body_at x (at + 128) bytes) i.chunks_are ∙ bd in
    let la' : (nat_lt 1 (chunks_in info) && all_empty (drop (32 * (chunks_in info - 1)) s)) ≡
    false = ap (λ (x : ℕ). nat_lt 1 x && all_empty (drop (32 * (x - 1)) s)) i.chunks_are ∙ la in
    let hd : header_at total at h ≡ Ok info = rw (fi, tt1, nb) refl in
    let ls : least_at at (chunks_in info) s ≡ Ok s = rw la' refl in
    rw (ck, hd, bd', ls, parts_again b info f i) refl

-- the chunks of a block that was read are those of its header
pub size_read : (total at info : ℕ) (ws : List ℕ) (s t new : Slots)
    → header_at total at ws ≡ Ok info → is_good_info info ≡ true → length s ≡ 32 * chunks_in info
    → least_at at (chunks_in info) s ≡ Ok t → new ≡ s ++ replicate (128 - length s) None
    → (1 + chunks_in info ≡ 1 + chunks_of new) × (total + (1 + chunks_in info) ≤ most_chunks)
unfolding least_at padded
size_read total at info ws s t new h good n l e =
    let k = counts info good in
    let c = chunks_in info in
    let k0 = k.some in let k1 = k.chunks in
    let g = test_false (nat_lt 1 c && all_empty (drop (32 * (c - 1)) s))
    (BadField (at + 64)) s t l in
    let ch : chunks_of (padded s) ≡ c = chunks_takes c s k0 k1 n g.0 in
    let same : chunks_of new ≡ c = ap chunks_of e ∙ ch in
    let hd = (header_takes total at ws info h).total_is in
    (ap (λ (x : ℕ). 1 + x) (sym same), omega arith)
