use Rattle.std.proofs.Common.{◌≡◌, ℕ, suc, ◌+◌, ◌<◌, ◌≤◌, ◌++◌, ◌∷◌, [], List, length, get_or, slice_index, ap, sym}
use Rattle.std.proofs.Common.{subst, ◌∙◌, arith}
use Rattle.std.specs.Prelude.{None}
use Rattle.trips_isa.specs.declared.block.Spot.TheVariants as spot
use Rattle.trips_isa.specs.declared.run.Stepped.TheVariants.{Went}
use Rattle.trace_verify.specs.declared.fault.VerifyFault.TheVariants.{WrongToken}
use Rattle.trace_verify.specs.declared.parts.Parts.{Parts}
use Rattle.trace_verify.specs.declared.parts.Stage.{Stage}
use Rattle.trace_verify.specs.declared.parts.Stage.TheVariants as stage
use Rattle.trace_verify.specs.declared.judged.Judged.{Judged}
use Rattle.trace_verify.specs.declared.judged.Judged.TheVariants.{More, Right, Wrong}
use Rattle.trace_verify.specs.Spelling.{Listed, listed_from}
use Rattle.trace_verify.specs.FirstFault.{record_size, IsShort}
use Rattle.trace_verify.specs.Reading.{Records, Stopped, Progress, Reading, before, within, records_next, record_seen}
use Rattle.trace_verify.specs.Reading.{take_at}
use Rattle.trace_verify.specs.inside.Judging.{by_judged}
use Rattle.trace_verify.specs.inside.Verifying.{reading_of, progress_of, place_of, rest_from, records_place, slots_of}
use Rattle.trace_verify.specs.inside.Verifying.{StandsAt, IsReady, IsUsed}
use Rattle.trace_verify.proofs.Holding.{Listing, used_listed, held_same, running_same, ready_same, causes_told}
use Rattle.trace_verify.proofs.Holding.{short_few}
use Rattle.trace_verify.proofs.taking.take_slot.Goals as goal

-- a byte at a record that is wanted
taken : (p : Parts) (slot x : ℕ) (l : Listed) (ls : List Listed) → p.stage ≡ stage.Slot slot → rest_from p slot
    ≡ l ∷ ls
    → take_at p.image.blocks p.budget (place_of p p.stage) (reading_of p) x
    ≡ record_seen p.image.blocks p.exit l ls (p.seen.items ++ x ∷ []) (record (progress_of p) { at = suc p.at })
    (record_size (slice_index (p.seen.items ++ x ∷ []) 0))
taken p slot x l ls is listed =
    ap (λ (t : Stage). take_at p.image.blocks p.budget (place_of p t)
    (record { progress = progress_of p; place = place_of p t; seen = p.seen.items }) x) is
    ∙ ap (λ (rest : List Listed). take_at p.image.blocks p.budget (records_place p.exit rest)
    (record { progress = progress_of p; place = records_place p.exit rest; seen = p.seen.items }) x) listed

pub returns-in-More-clause-read : goal.returns-in-More-clause-read
returns-in-More-clause-read c =
    ap reading_of c.keep_judged.ensures.parts
    ∙ ap (λ (t : Stage). within (place_of p t) c.keep_judged.new.parts.seen.items
    (record (progress_of p) { at = p.at + 1 }))
    c.requires.stage
    ∙ ap (λ (rest : List Listed). within (records_place p.exit rest) c.keep_judged.new.parts.seen.items
    (record (progress_of p) { at = p.at + 1 })) listing.listed
    ∙ ap (λ (xs : List ℕ). within (Records p.exit listing.here listing.later) xs
    (record (progress_of p) { at = p.at + 1 })) c.keep_judged.ensures.seen
    ∙ ap (λ (n : ℕ). within (Records p.exit listing.here listing.later) all (record (progress_of p) { at = n })) next
    ∙ sym (whole More c.in-More.is)
  where
    p : Parts
    p = c.args.parts.now

    slot : ℕ
    slot = c.args.slot

    all : List ℕ
    all = p.seen.items ++ c.args.byte ∷ []

    stands : StandsAt p (stage.Slot slot)
    stands = subst (λ (t : Stage). StandsAt p t) c.requires.stage c.requires.held.stands

    listing : Listing (λ i. get_or p.tokens i None) (λ i. get_or p.marks i 0) slot (slots_of p)
    listing = used_listed (λ i. get_or p.tokens i None) (λ i. get_or p.marks i 0) slot (slots_of p) stands.3

    next : p.at + 1 ≡ suc p.at
    next = omega arith

    d : Progress
    d = record (progress_of p) { at = suc p.at }

    whole : (r : Judged) → c.keep_judged.result ≡ r
        → take_at p.image.blocks p.budget (place_of p p.stage) (reading_of p) c.args.byte
        ≡ by_judged p.image.blocks p.exit listing.here listing.later d all r
    whole r is =
        taken p slot c.args.byte listing.here listing.later c.requires.stage listing.listed
        ∙ c.keep_judged.ensures.judged p.image.blocks p.exit listing.here listing.later d
        (listing.bytes ∙ sym (c.as_slice.ensures.value ∙ c.wanted-want.ensures))
        ∙ ap (by_judged p.image.blocks p.exit listing.here listing.later d all) is

pub returns-in-Right-clause-read : goal.returns-in-Right-clause-read
returns-in-Right-clause-read c =
    c.next_slot.ensures.read
    ∙ ap (λ (q : Parts). records_next q.image.blocks q.exit (progress_of q) (rest_from q (slot + 1)))
    c.keep_judged.ensures.parts
    ∙ ap (λ (n : ℕ). records_next p.image.blocks p.exit (record (progress_of p) { at = n }) (rest_from p (slot + 1)))
    next
    ∙ ap (records_next p.image.blocks p.exit d) (ap (λ (n : ℕ). rest_from p n) next_slot ∙ sym listing.others)
    ∙ sym (whole Right c.in-Right.is)
  where
    p : Parts
    p = c.args.parts.now

    slot : ℕ
    slot = c.args.slot

    all : List ℕ
    all = p.seen.items ++ c.args.byte ∷ []

    stands : StandsAt p (stage.Slot slot)
    stands = subst (λ (t : Stage). StandsAt p t) c.requires.stage c.requires.held.stands

    listing : Listing (λ i. get_or p.tokens i None) (λ i. get_or p.marks i 0) slot (slots_of p)
    listing = used_listed (λ i. get_or p.tokens i None) (λ i. get_or p.marks i 0) slot (slots_of p) stands.3

    next : p.at + 1 ≡ suc p.at
    next = omega arith

    d : Progress
    d = record (progress_of p) { at = suc p.at }

    whole : (r : Judged) → c.keep_judged.result ≡ r
        → take_at p.image.blocks p.budget (place_of p p.stage) (reading_of p) c.args.byte
        ≡ by_judged p.image.blocks p.exit listing.here listing.later d all r
    whole r is =
        taken p slot c.args.byte listing.here listing.later c.requires.stage listing.listed
        ∙ c.keep_judged.ensures.judged p.image.blocks p.exit listing.here listing.later d
        (listing.bytes ∙ sym (c.as_slice.ensures.value ∙ c.wanted-want.ensures))
        ∙ ap (by_judged p.image.blocks p.exit listing.here listing.later d all) is

    next_slot : slot + 1 ≡ suc slot
    next_slot = omega arith

pub returns-in-Wrong-clause-read : goal.returns-in-Wrong-clause-read
returns-in-Wrong-clause-read c =
    ap reading_of c.go.ensures.parts
    ∙ ap (λ (xs : List ℕ). within (Stopped (WrongToken q.count (spot.Inst slot))) xs (progress_of q))
    c.go.ensures.seen
    ∙ ap (λ (r : Parts). before (Stopped (WrongToken r.count (spot.Inst slot))) (progress_of r))
    c.keep_judged.ensures.parts
    ∙ ap (λ (n : ℕ). before (Stopped (WrongToken p.count (spot.Inst slot))) (record (progress_of p) { at = n })) next
    ∙ ap (λ (j : ℕ). before (Stopped (WrongToken p.count (spot.Inst j))) d) (sym listing.slot)
    ∙ sym (whole Wrong c.in-Wrong.is)
  where
    p : Parts
    p = c.args.parts.now

    slot : ℕ
    slot = c.args.slot

    all : List ℕ
    all = p.seen.items ++ c.args.byte ∷ []

    stands : StandsAt p (stage.Slot slot)
    stands = subst (λ (t : Stage). StandsAt p t) c.requires.stage c.requires.held.stands

    listing : Listing (λ i. get_or p.tokens i None) (λ i. get_or p.marks i 0) slot (slots_of p)
    listing = used_listed (λ i. get_or p.tokens i None) (λ i. get_or p.marks i 0) slot (slots_of p) stands.3

    next : p.at + 1 ≡ suc p.at
    next = omega arith

    d : Progress
    d = record (progress_of p) { at = suc p.at }

    whole : (r : Judged) → c.keep_judged.result ≡ r
        → take_at p.image.blocks p.budget (place_of p p.stage) (reading_of p) c.args.byte
        ≡ by_judged p.image.blocks p.exit listing.here listing.later d all r
    whole r is =
        taken p slot c.args.byte listing.here listing.later c.requires.stage listing.listed
        ∙ c.keep_judged.ensures.judged p.image.blocks p.exit listing.here listing.later d
        (listing.bytes ∙ sym (c.as_slice.ensures.value ∙ c.wanted-want.ensures))
        ∙ ap (by_judged p.image.blocks p.exit listing.here listing.later d all) is

    q : Parts
    q = c.keep_judged.new.parts
