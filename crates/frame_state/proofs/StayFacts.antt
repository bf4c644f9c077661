-- What the events of a frame leave as it was: its number, its block and its generation,
-- and the tokens that have come.
use Rattle.std.proofs.Common.{◌≡◌, ℕ, true, ap, sym, ◌∙◌, refl, subst, Option, Some, None}
use Rattle.std.specs.Prelude.{is_none}
use Rattle.std.proofs.lemmas.Bool.{false≢true}
use Rattle.trips_isa.specs.declared.block.Token.{Token}
use Rattle.trips_isa.specs.declared.block.Inst.{Inst}
use Rattle.trips_isa.specs.declared.form.Form.{Form}
use Rattle.trips_isa.specs.declared.form.Form.TheVariants.{General, Immediate, Load, Store, Branch, Constant}
use Rattle.trips_isa.specs.Forms.{form_of}
use Rattle.trips_isa.specs.Rule.{Answer}
use Rattle.commit_flush_spec.specs.Frames.{at}
use Rattle.commit_flush_spec.proofs.Lists.{other_at}
use Rattle.frame_state.specs.inside.Held.{Held, Stays}
use Rattle.frame_state.specs.inside.Moves.{KeepsSpots, slot_token, slot_mark, sent_by, fired_by, fired_slot, moved}

-- what is the same as a frame that stays, stays
pub stays_as : (h x y : Held) → y ≡ x → Stays h x → Stays h y
stays_as h x y e s = record {
  number = ap (λ (k : Held). k.number) e ∙ s.number;
  block = ap (λ (k : Held). k.block) e ∙ s.block;
  generation = ap (λ (k : Held). k.generation) e ∙ s.generation;
}

-- a token is put on its way
pub sent_stays : (i : Inst) (s : ℕ) (t : Answer) (c : ℕ) (g h : Held) → Stays g h → Stays g (sent_by i s t c h)
sent_stays i s None c g h e = e
sent_stays i s (Some t) c g h e = record { number = e.number; block = e.block; generation = e.generation }

-- an instruction of a form fires
form_stays : (f : Form) (i : Inst) (s : ℕ) (g h : Held) → Stays g h → Stays g (fired_by f i s h)
form_stays Load i s g h e = record { number = e.number; block = e.block; generation = e.generation }
form_stays Store i s g h e = record { number = e.number; block = e.block; generation = e.generation }
form_stays Branch i s g h e = record { number = e.number; block = e.block; generation = e.generation }
form_stays General i s g h e = sent_stays i s (slot_token h i s 0) (slot_mark h i s) g h e
form_stays Immediate i s g h e = sent_stays i s (slot_token h i s 0) (slot_mark h i s) g h e
form_stays Constant i s g h e = sent_stays i s (slot_token h i s 0) (slot_mark h i s) g h e

-- what a slot holds fires
pub slot_stays : (i : Option Inst) (s : ℕ) (g h : Held) → Stays g h → Stays g (fired_slot i s h)
slot_stays None s g h e = e
slot_stays (Some i) s g h e = form_stays (form_of i.op) i s g h e

-- a token comes to its place
pub moved_stays : (p q : ℕ) (t : Answer) (h : Held) → Stays h (moved p q t h)
moved_stays p q None h = record { number = refl; block = refl; generation = refl }
moved_stays p q (Some t) h = record { number = refl; block = refl; generation = refl }

-- one that comes to an empty place leaves those that have come
pub moved_keeps : (p q : ℕ) (t : Answer) (h : Held) → is_none (at h.spots q) ≡ true → KeepsSpots h (moved p q t h)
moved_keeps p q None h free = λ r u e. e
moved_keeps p q (Some t) h free = λ r u e.
    other_at h.spots q r (Some t)
    (λ same. false≢true (sym (ap is_none (ap (at h.spots) (sym same) ∙ e)) ∙ free)) ∙ e

-- and so does what is the same
pub keeps_as : (h x y : Held) → y ≡ x → KeepsSpots h x → KeepsSpots h y
keeps_as h x y e k = subst (KeepsSpots h) (sym e) k
