-- The parts of a verifier have read so few bytes that their number fits.
use Rattle.std.proofs.Common.{◌≡◌, ℕ, zero, suc, ◌+◌, ◌*◌, ◌^◌, ◌<◌, ◌≤◌, All, List, [], ◌∷◌, length, Option, Some}
use Rattle.std.proofs.Common.{None}
use Rattle.std.proofs.Common.{slice_get, refl, sym, subst, arith}
use Rattle.std.proofs.lemmas.Option.{slice_get_within, get_or_from_slice_get}
use Rattle.trips_isa.specs.declared.block.Block.{Block}
use Rattle.trips_isa.specs.Fits.{FitsBlock}
use Rattle.trips_isa.specs.Tables.{deepest}
use Rattle.trips_isa.specs.Marks.{mark_of}
use Rattle.trips_isa.specs.Machine.{State}
use Rattle.block_check.specs.inside.Images.{IsCheckedImage}
use Rattle.trace_verify.specs.declared.parts.Parts.{Parts}
use Rattle.trace_verify.specs.declared.parts.Stage.{Stage}
use Rattle.trace_verify.specs.declared.parts.Stage.TheVariants as stage
use Rattle.trace_verify.specs.declared.fault.VerifyFault.{VerifyFault}
use Rattle.trace_verify.specs.Spelling.{Listed, listed_of, listed_in, listed_by, tokens_in}
use Rattle.trace_verify.specs.FirstFault.{IsShort, nothing}
use Rattle.trace_verify.specs.FirstFault as first
use Rattle.trace_verify.specs.Reading.{Place, Exit, Records, Stopped, Reading, take_byte}
use Rattle.trace_verify.specs.inside.Verifying.{reading_of, progress_of, place_of, rest_from, records_place}
use Rattle.trace_verify.specs.inside.Verifying.{slots_in, StandsAt, IsHeld}
use Rattle.trace_verify.specs.inside.Within.{bounded, IsBounded, IsWithin}
use Rattle.trace_verify.proofs.BoundedBytes.{Short, byte_bounded, bytes_most, listed_few}
use Rattle.trace_verify.proofs.Holding.{size_few}

-- a record that is not whole has fewer than nine bytes
short_nine : (xs : List ℕ) → IsShort xs → length xs < 9
short_nine [] nothing = omega arith
short_nine (x ∷ xs) (first.begun n size l) = let few : n ≤ 9 = size_few x n size in omega (arith, l, few)

-- a field that is not whole is short
held_short : (p : Parts) → IsHeld p → Short (place_of p p.stage) (length p.seen.items)
held_short p h = go p.stage h.stands
  where
    records : (ls : List Listed) → length p.seen.items < 9 → Short (records_place p.exit ls) (length p.seen.items)
    records [] l = tt
    records (x ∷ ls) l = l

    go : (t : Stage) → StandsAt p t → Short (place_of p t) (length p.seen.items)
    go stage.Front s = s
    go stage.Number s = s
    go stage.Exit s = tt
    go (stage.Slot j) s = records (rest_from p j) (short_nine p.seen.items s.0)
    go stage.Whole s = tt
    go (stage.Stopped f) s = tt

-- as many bytes have come as the entries so far have, and one more, at most
pub held_most : (p : Parts) → IsHeld p → IsWithin p → p.at ≤ 1169 + p.count * 1157
held_most p h w = bytes_most (place_of p p.stage) (progress_of p) (length p.seen.items) (held_short p h) w.bytes

-- so their number fits
pub held_low : (p : Parts) → IsHeld p → IsWithin p → p.at < 2 ^ 63
held_low p h w =
    let most : p.at ≤ 1169 + p.count * 1157 = held_most p h w in
    let few : p.count ≤ p.budget = h.runs.few in
    let range : p.budget < 4294967296 = w.range in
    let low : p.at < 9223372036854775808 = omega (arith, most, few, range) in
    low

-- a block of a checked image has 128 slots
slots_few : (blocks : List Block) → All FitsBlock blocks → (k : ℕ) (o : Option Block) → slice_get blocks k ≡ o
    → length (slots_in o) ≤ 128
slots_few blocks all k None e = omega arith
slots_few blocks all k (Some b) e =
    let fits : FitsBlock b = subst FitsBlock (get_or_from_slice_get blocks k b b e)
    (all k b (slice_get_within blocks k b e)) in
    let size : length b.insts.items ≡ 128 = fits.insts in
    omega (arith, size)

-- so it has at most as many records
next_few : (blocks : List Block) (s : State) → All FitsBlock blocks → length (listed_of blocks s) ≤ 128
unfolding listed_of
next_few blocks s all = go (slice_get blocks s.next) (slots_few blocks all s.next (slice_get blocks s.next) refl)
  where
    go : (o : Option Block) → length (slots_in o) ≤ 128 → length (listed_in o s) ≤ 128
    go None l = l
    go (Some b) l =
        let few : length (listed_by b (tokens_in b s)) ≤ length b.insts.items =
        listed_few (λ j. tokens_in b s (length b.reads.items + j))
        (λ j. mark_of b (tokens_in b s) deepest (length b.reads.items + j)) 0 b.insts.items in
        omega (arith, l, few)

-- a byte more
pub taken_within : (p q : Parts) (x : ℕ) → IsHeld p → IsWithin p → q.image ≡ p.image → q.budget ≡ p.budget
    → reading_of q ≡ take_byte p.image.blocks p.budget (reading_of p) x → IsWithin q
taken_within p q x h w image budget read = record {
  image = subst IsCheckedImage (sym image) w.image;
  range = subst (λ (n : ℕ). n < 2 ^ 32) (sym budget) w.range;
  bytes = subst IsBounded (sym read) (byte_bounded p.image.blocks p.budget (reading_of p) x (held_short p h)
      (λ e. next_few p.image.blocks p.arch.state w.image.fits.each) w.bytes);
}

-- where the reading stops
pub stopped_within : (p q : Parts) (f : VerifyFault) → IsHeld p → IsWithin p
    → q ≡ record p { stage = stage.Stopped f; seen = q.seen } → IsWithin q
stopped_within p q f h w e = record {
  image = subst (λ (r : Parts). IsCheckedImage r.image) (sym e) w.image;
  range = subst (λ (r : Parts). r.budget < 2 ^ 32) (sym e) w.range;
  bytes = subst (λ (r : Parts). IsBounded (reading_of r)) (sym e) (held_most p h w);
}

-- and what is held stands
pub stopped_held : (p q : Parts) (f : VerifyFault) → IsHeld p
    → q ≡ record p { stage = stage.Stopped f; seen = q.seen } → IsHeld q
stopped_held p q f h e = subst IsHeld (sym e) (record {
  runs = record { next = h.runs.next; room = h.runs.room; made = h.runs.made; few = h.runs.few };
  stands = tt;
})
