-- Addresses lead back to labels, and offsets to chunks.
use Rattle.std.proofs.Common.{◌≡◌, ℕ, zero, suc, ◌+◌, ◌-◌, ◌*◌, ◌/◌, ◌%◌, ◌^◌, ◌<◌, ◌≤◌, Bool, true}
use Rattle.std.proofs.Common.{false, cond, ◌==◌, List, [], ◌∷◌, length, take, Option, Some, None, refl}
use Rattle.std.proofs.Common.{ap, ◌∙◌, arith}
use Rattle.std.specs.Prelude.{unwrap_or, nat_le, pos, negsuc}
use Rattle.std.specs.List.{sum_by}
use Rattle.std.proofs.lemmas.Bool.Decides.{nat_tests}
use Rattle.std.proofs.lemmas.List.Sums.{sum_by-cons}
use Rattle.std.proofs.Math.Nat.{mul-mod_right, mul-div_right, mod-eq_of_lt, add-mod_right}
use Rattle.trips_isa.specs.declared.block.Block.{Block}
use Rattle.trips_isa.specs.Alu.{word}
use Rattle.trips_isa.specs.Images.{chunks, chunk_of, starting_from, block_at}
use Rattle.trips_isa.specs.declared.block.Token.TheVariants.{Word}
use Rattle.trips_isa.specs.Outcomes.{to_offset, to_address}
use Rattle.trips_isa.specs.Limits.{most_chunks}
use Rattle.ir_forms.specs.inside.HyperWords.{HasAddresses, IsFaithful}
use Rattle.c_compile_layout.specs.inside.Linking.{offset}
use Rattle.c_compile_layout.specs.inside.Layouts.{laid_out, AreFew, HasPlaces}

differs : (a b : ℕ) → a < b → (a == b) ≡ false
differs a b l = grind (arith, nat_tests)

same_is : (a b : ℕ) → a ≡ b → (a == b) ≡ true
same_is a b e = grind (arith, nat_tests)

-- the block at the chunk where the l-th of these begins
found : (ts : List Block) (k here chunk l : ℕ) → l < length ts
    → chunk ≡ here + sum_by chunks (take l ts) → starting_from ts k here chunk ≡ Some (k + l)
found [] k here chunk l h e = absurd (omega arith)
found (t ∷ ts) k here chunk zero h e =
    let z : sum_by chunks (take 0 (t ∷ ts)) ≡ 0 = refl in
    let n : k ≡ k + 0 = omega arith in
    ap (λ v. cond v (Some k) (starting_from ts (suc k) (here + chunks t) chunk))
    (same_is here chunk (omega (arith, e, z)))
    ∙ ap Some n
found (t ∷ ts) k here chunk (suc l) h e =
    let s : sum_by chunks (take (suc l) (t ∷ ts)) ≡ chunks t + sum_by chunks (take l ts) =
    sum_by-cons chunks t (take l ts) in
    let n : suc k + l ≡ k + suc l = omega arith in
    ap (λ v. cond v (Some k) (starting_from ts (suc k) (here + chunks t) chunk))
    (differs here chunk (omega (arith, e, s)))
    ∙ found ts (suc k) (here + chunks t) chunk l (omega arith) (omega (arith, e, s))
    ∙ ap Some n

pub block_there : (ts : List Block) (l : ℕ) → l < length ts → block_at ts (chunk_of ts l) ≡ l
block_there ts l h =
    let z : 0 + l ≡ l = omega arith in
    ap (λ o. unwrap_or o 0) (found ts 0 0 (chunk_of ts l) l h (omega arith)) ∙ z

below_all : (ts : List Block) (l : ℕ) → sum_by chunks (take l ts) ≤ sum_by chunks ts
below_all ts zero = let z : sum_by chunks (take 0 ts) ≡ 0 = refl in omega (arith, z)
below_all [] (suc l) = omega arith
below_all (t ∷ ts) (suc l) =
    let s : sum_by chunks (take (suc l) (t ∷ ts)) ≡ chunks t + sum_by chunks (take l ts) =
    sum_by-cons chunks t (take l ts) in
    let u : sum_by chunks (t ∷ ts) ≡ chunks t + sum_by chunks ts = sum_by-cons chunks t ts in
    let r = below_all ts l in
    omega (arith, s, u, r)

pub chunk_few : (ts : List Block) (l : ℕ) → AreFew ts → chunk_of ts l ≤ most_chunks
chunk_few ts l f = let b = below_all ts l in omega (arith, b, f)

-- a block begins below all chunks
next_below : (ts : List Block) (l : ℕ) → l < length ts → sum_by chunks (take l ts) < sum_by chunks ts
next_below [] l h = absurd (omega arith)
next_below (t ∷ ts) zero h =
    let z : sum_by chunks (take 0 (t ∷ ts)) ≡ 0 = refl in
    let u : sum_by chunks (t ∷ ts) ≡ chunks t + sum_by chunks ts = sum_by-cons chunks t ts in
    omega (arith, z, u)
next_below (t ∷ ts) (suc l) h =
    let s : sum_by chunks (take (suc l) (t ∷ ts)) ≡ chunks t + sum_by chunks (take l ts) =
    sum_by-cons chunks t (take l ts) in
    let u : sum_by chunks (t ∷ ts) ≡ chunks t + sum_by chunks ts = sum_by-cons chunks t ts in
    let r = next_below ts l (omega arith) in
    omega (arith, s, u, r)

-- the chunk of each of few blocks is one that an image may have
pub chunk_low : (ts : List Block) (l : ℕ) → AreFew ts → l < length ts → chunk_of ts l < most_chunks
chunk_low ts l f h = let b = next_below ts l h in omega (arith, b, f)

there_again : (ts : List Block) (c l : ℕ) → block_at ts c ≡ l → (laid_out ts).label (128 * c) ≡ l
there_again ts c l e =
    let m : (128 * c) % 128 ≡ 0 = mul-mod_right 128 c in
    let d : (128 * c) / 128 ≡ c = mul-div_right c (omega arith) in
    ap (λ v. cond (v == 0) (block_at ts ((128 * c) / 128)) 0) m ∙ ap (block_at ts) d ∙ e

-- the layout of few blocks has an address of 32 bits for each label, where a chunk begins
pub has_places : (ts : List Block) → AreFew ts → HasPlaces (laid_out ts)
has_places ts f = record {
  low = λ l. let b = chunk_few ts l f in omega (arith, b);
  aligned = λ l. mul-mod_right 128 (chunk_of ts l);
}

-- the layout of few blocks has addresses
pub has_addresses : (ts : List Block) → AreFew ts → HasAddresses (laid_out ts)
has_addresses ts f l = let b = chunk_few ts l f in omega (arith, b)

-- the addresses of few blocks lead back to their labels
pub faithful : (ts : List Block) → AreFew ts → IsFaithful (laid_out ts) (length ts)
faithful ts f = record {
  again = λ l h. there_again ts (chunk_of ts l) l (block_there ts l h);
  word = λ l h. has_addresses ts f l;
}

-- the machine adds an offset to its own chunk
offset_adds : (here there : ℕ) → here ≤ most_chunks → there ≤ most_chunks
    → (here + word (offset here there)) % 2 ^ 64 ≡ there
offset_adds here there h t = go (nat_le here there) refl
  where
    go : (v : Bool) → nat_le here there ≡ v
        → (here + word (cond v (pos (there - here)) (negsuc (here - there - 1)))) % 2 ^ 64 ≡ there
    go true e =
        let l : here ≤ there = grind (arith, nat_tests) in
        let s : here + (there - here) ≡ there = omega arith in
        ap (λ n. n % 2 ^ 64) s ∙ mod-eq_of_lt (omega arith)
    go false e =
        let l : there < here = grind (arith, nat_tests) in
        let s : here + (2 ^ 64 - suc (here - there - 1)) ≡ there + 2 ^ 64 = omega arith in
        ap (λ n. n % 2 ^ 64) s ∙ add-mod_right there (2 ^ 64) ∙ mod-eq_of_lt (omega arith)

-- the offset from one of few blocks to another leads to the other
pub offset_leads : (ts : List Block) (k l : ℕ) → AreFew ts → l < length ts
    → to_offset ts k (word (offset (chunk_of ts k) (chunk_of ts l))) ≡ l
offset_leads ts k l f h =
    ap (block_at ts) (offset_adds (chunk_of ts k) (chunk_of ts l) (chunk_few ts k f)
    (chunk_few ts l f))
    ∙ block_there ts l h

within_from : (ts : List Block) (k here chunk n : ℕ) → starting_from ts k here chunk ≡ Some n
    → n < k + length ts
within_from [] k here chunk n e = absurd (cc)
within_from (t ∷ ts) k here chunk n e =
    go (here == chunk) e (within_from ts (suc k) (here + chunks t) chunk n)
  where
    go : (v : Bool) → cond v (Some k) (starting_from ts (suc k) (here + chunks t) chunk) ≡ Some n
        → (starting_from ts (suc k) (here + chunks t) chunk ≡ Some n → n < suc k + length ts)
        → n < k + suc (length ts)
    go true e r = let same : k ≡ n = cc in omega arith
    go false e r = let rest = r e in omega (arith, rest)

block_within : (ts : List Block) (c : ℕ) → 1 ≤ length ts → block_at ts c < length ts
block_within ts c some = go (starting_from ts 0 0 c) refl
  where
    go : (o : Option ℕ) → starting_from ts 0 0 c ≡ o → unwrap_or o 0 < length ts
    go None e = omega (arith, some)
    go (Some n) e = let w = within_from ts 0 0 c n e in omega (arith, w)

-- the address in a word leads to one of the blocks
pub address_within : (ts : List Block) (a : ℕ) → 1 ≤ length ts → to_address ts (Word a) < length ts
address_within ts a some = go (a % 128 == 0)
  where
    go : (v : Bool) → cond v (block_at ts (a / 128)) 0 < length ts
    go true = block_within ts (a / 128) some
    go false = omega (arith, some)
