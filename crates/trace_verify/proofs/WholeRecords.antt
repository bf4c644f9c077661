-- The record that is wanted is read at once.
use Rattle.std.proofs.Common.{◌≡◌, ◌∙◌, ℕ, suc, ◌+◌, ◌-◌, ◌*◌, ◌<◌, ◌≤◌, ◌^◌, Bool, true, eqb, List, [], ◌∷◌, length}
use Rattle.std.proofs.Common.{take, drop, get_or, Option, Some, None, refl, sym, ap, subst, arith}
use Rattle.std.specs.Str.{bytes_eq}
use Rattle.std.proofs.lemmas.Bool.{eqb-true}
use Rattle.std.proofs.lemmas.List.{length-take, take-append-drop, drop-drop, take_rest}
use Rattle.trips_isa.specs.declared.block.Inst.{Inst}
use Rattle.trips_isa.specs.declared.block.Block.{Block}
use Rattle.trips_isa.specs.Forms.{form_of}
use Rattle.trips_isa.specs.Rule.{Answer}
use Rattle.block_check.specs.inside.Images.{IsCheckedImage}
use Rattle.trace_verify.specs.declared.parts.Parts.{Parts}
use Rattle.trace_verify.specs.declared.parts.Stage.{Stage}
use Rattle.trace_verify.specs.declared.parts.Stage.TheVariants as stage
use Rattle.trace_verify.specs.Spelling.{Listed, slot_bytes}
use Rattle.trace_verify.specs.Reading.{Records, Reading, before, within, records_next, take_byte, feeds}
use Rattle.trace_verify.specs.inside.Verifying.{reading_of, progress_of, place_of, rest_from, records_place, slots_of}
use Rattle.trace_verify.specs.inside.Verifying.{StandsAt, IsAhead, IsHeld, IsUsed}
use Rattle.trace_verify.specs.inside.Within.{IsBounded, IsWithin}
use Rattle.trace_verify.proofs.Records.{bytes_same, IsRecord, made, is_record}
use Rattle.trace_verify.proofs.Forward.{forth, forth_is, fed, fed_good}
use Rattle.trace_verify.proofs.Holding.{Listing, used_listed, causes_told}
use Rattle.trace_verify.proofs.BoundedBytes.{next_bounded}

-- the record of a used slot is one
used_record : (o : Option Inst) (m : ℕ) (a : Answer) → IsUsed o → m < 4 → IsRecord (slot_bytes o m a)
used_record None m a h l = elim h [ ]
used_record (Some i) m a h l = is_record (form_of i.op) m a l

-- and has a byte
record_some : (xs : List ℕ) → IsRecord xs → 0 < length xs
record_some [] h = elim h [ ]
record_some (x ∷ xs) h = omega arith

-- nothing has come
pub none_seen : (xs : List ℕ) (t : Bool) → t ≡ eqb (length xs) 0 → t ≡ true → xs ≡ []
none_seen [] t e h = refl
none_seen (x ∷ xs) t e h =
    let zero : suc (length xs) ≡ 0 = eqb-true (suc (length xs)) 0 (sym e ∙ h) in absurd (omega (arith, zero))

-- the record of a slot lies ahead
pub found_ahead : (p : Parts) (slot size : ℕ) (ahead want : List ℕ) → IsHeld p → p.stage ≡ stage.Slot slot
    → p.seen.items ≡ [] → size ≤ 9 → size ≡ length want → length want ≤ length ahead
    → take (length want) ahead ≡ want
    → want ≡ slot_bytes (get_or (slots_of p) slot None) (get_or p.marks slot 0) (get_or p.tokens slot None)
    → IsAhead p slot size ahead
found_ahead p slot size ahead want h is none few size_is within same wanted = record {
  at_slot = is;
  low = stands.2;
  none = none;
  some = omega (arith, size_is, some);
  few = few;
  long = omega (arith, size_is, within);
  bytes = ap (λ (n : ℕ). take n ahead) size_is ∙ same ∙ wanted;
}
  where
    stands : StandsAt p (stage.Slot slot)
    stands = subst (λ (t : Stage). StandsAt p t) is h.stands

    some : 0 < length want
    some = record_some want (subst IsRecord (sym wanted) (used_record (get_or (slots_of p) slot None)
        (get_or p.marks slot 0) (get_or p.tokens slot None) stands.3
        (causes_told p.image.blocks p.arch.state p.tokens p.marks p.taken slot h.runs.next stands.1.tells stands.2)))

-- what is read where the record that is wanted lies ahead
pub record Skips (p : Parts) (slot size : ℕ) (ahead : List ℕ) : Type 0 where
  pub here : Listed
  pub later : List Listed
  pub reading : reading_of p ≡ before (Records p.exit here later) (progress_of p)
  pub others : later ≡ rest_from p (suc slot)
  pub read : feeds p.image.blocks p.budget (reading_of p) (take size ahead)
      ≡ records_next p.image.blocks p.exit (record (progress_of p) { at = p.at + size }) later

pub skips : (p : Parts) (slot size : ℕ) (ahead : List ℕ) → IsHeld p → IsAhead p slot size ahead
    → Skips p slot size ahead
skips p slot size ahead h a = record {
  here = listing.here;
  later = listing.later;
  reading = unread;
  others = listing.others;
  read = ap (λ (r : Reading). feeds p.image.blocks p.budget r bytes) unread
      ∙ fed_good p.image.blocks p.budget p.exit listing.here listing.later (progress_of p) bytes good
      (subst (λ (xs : List ℕ). bytes_eq xs listing.here.bytes ≡ true) (sym same) (bytes_same listing.here.bytes))
      ∙ ap (λ (n : ℕ). records_next p.image.blocks p.exit (record (progress_of p) { at = n }) listing.later) place;
}
  where
    stands : StandsAt p (stage.Slot slot)
    stands = subst (λ (t : Stage). StandsAt p t) a.at_slot h.stands

    listing : Listing (λ i. get_or p.tokens i None) (λ i. get_or p.marks i 0) slot (slots_of p)
    listing = used_listed (λ i. get_or p.tokens i None) (λ i. get_or p.marks i 0) slot (slots_of p) stands.3

    bytes : List ℕ
    bytes = take size ahead

    same : bytes ≡ listing.here.bytes
    same = a.bytes ∙ sym listing.bytes

    low : get_or p.marks slot 0 < 4
    low = causes_told p.image.blocks p.arch.state p.tokens p.marks p.taken slot h.runs.next stands.1.tells stands.2

    good : IsRecord bytes
    good = subst IsRecord (sym a.bytes) (used_record (get_or (slots_of p) slot None) (get_or p.marks slot 0)
        (get_or p.tokens slot None) stands.3 low)

    unread : reading_of p ≡ before (Records p.exit listing.here listing.later) (progress_of p)
    unread = ap (λ (t : Stage). within (place_of p t) p.seen.items (progress_of p)) a.at_slot
        ∙ ap (λ (rest : List Listed). within (records_place p.exit rest) p.seen.items (progress_of p)) listing.listed
        ∙ ap (λ (xs : List ℕ). within (Records p.exit listing.here listing.later) xs (progress_of p)) a.none

    place : forth bytes p.at ≡ p.at + size
    place =
        let long : size ≤ length ahead = a.long in
        omega (arith, forth_is bytes p.at, length-take size ahead, long)

-- so few bytes have come behind it that their number fits
pub skipped_within : (p q : Parts) (slot size : ℕ) (ahead : List ℕ) → IsHeld p → IsWithin p
    → IsAhead p slot size ahead → q.image ≡ p.image → q.budget ≡ p.budget
    → reading_of q ≡ feeds p.image.blocks p.budget (reading_of p) (take size ahead) → IsWithin q
skipped_within p q slot size ahead h w a image budget read = record {
  image = subst IsCheckedImage (sym image) w.image;
  range = subst (λ (n : ℕ). n < 2 ^ 32) (sym budget) w.range;
  bytes = subst IsBounded (sym (read ∙ k.read)) (next_bounded p.image.blocks p.exit
      (record (progress_of p) { at = p.at + size }) k.later few);
}
  where
    k : Skips p slot size ahead
    k = skips p slot size ahead h a

    most : p.at + length k.later * 9 ≤ 1160 + (p.count * 1157 + 0)
    most = subst IsBounded k.reading w.bytes

    few : p.at + size + length k.later * 9 ≤ 1169 + p.count * 1157
    few = let nine : size ≤ 9 = a.few in omega (arith, most, nine)

-- a byte is read
pub one_read : (blocks : List Block) (budget : ℕ) (r : Reading) (ahead : List ℕ) → 0 < length ahead
    → feeds blocks budget r (take 1 ahead) ≡ take_byte blocks budget r (get_or ahead 0 0)
one_read blocks budget r [] l = absurd (omega (arith, l))
one_read blocks budget r (x ∷ xs) l = refl

-- some bytes of the rest are read, and what follows them stays
pub some_read : (blocks : List Block) (budget : ℕ) (r s all : Reading) (piece : List ℕ) (done n : ℕ)
    → s ≡ feeds blocks budget r (take n (take (length piece - done) (drop done piece)))
    → feeds blocks budget r (drop done piece) ≡ all → feeds blocks budget s (drop (done + n) piece) ≡ all
some_read blocks budget r s all piece done n e h =
    ap (λ (t : Reading). feeds blocks budget t (drop (done + n) piece)) e
    ∙ ap (λ (xs : List ℕ). feeds blocks budget (feeds blocks budget r (take n xs)) (drop (done + n) piece))
    (take_rest piece done)
    ∙ ap (λ (xs : List ℕ). feeds blocks budget (feeds blocks budget r (take n rest)) xs) (sym (drop-drop n done piece))
    ∙ sym (fed blocks budget (take n rest) (drop n rest) r)
    ∙ ap (λ (xs : List ℕ). feeds blocks budget r xs) (take-append-drop n rest)
    ∙ h
  where
    rest : List ℕ
    rest = drop done piece
